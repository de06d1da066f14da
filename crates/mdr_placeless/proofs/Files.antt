-- The rules of files look at no place.
use Rattle.mdr_body.specs.Bodies.{body_rule}
use Rattle.mdr_check.specs.Files.{behind_item, first_known, first_scope, item_piece, known_behind, outlines_behind, outlines_from, pieces_behind, struct_piece, with_outline_if}
use Rattle.mdr_check.specs.Uses.{defined_functions, defined_rule}
use Rattle.mdr_check.specs.declared.file.Known.{Known}
use Rattle.mdr_core.specs.Folds.{before}
use Rattle.mdr_core.specs.Layout.{chosen}
use Rattle.mdr_core.specs.declared.place.Place.{Place}
use Rattle.mdr_faults.specs.Faults.{Checked, Faults, Right, Wrong, both, each, next}
use Rattle.mdr_faults.specs.Scopes.{tag_named}
use Rattle.mdr_faults.specs.declared.fault.Fault.{Fault}
use Rattle.mdr_faults.specs.declared.fault.FaultKind.TheVariants.{Limit, Redefined}
use Rattle.mdr_faults.specs.declared.scope.Candidate.{Candidate}
use Rattle.mdr_faults.specs.declared.scope.Named.{Named}
use Rattle.mdr_faults.specs.declared.scope.Scope.{Scope}
use Rattle.mdr_faults.specs.declared.scope.Tag.{Tag}
use Rattle.mdr_headings.specs.Functions.{behind_function, defines_by, has_body, is_body_by}
use Rattle.mdr_headings.specs.Source.{before_first, defines_behind, defines_from, is_numbered, tags_behind, tags_from}
use Rattle.mdr_headings.specs.Structs.{name_or_none}
use Rattle.mdr_headings.specs.declared.function.Declared.{Declared}
use Rattle.mdr_placeless.proofs.Annotated.{AreWhole, all_candidates, annotations, decls_of, wholes}
use Rattle.mdr_placeless.proofs.Combined.{after_alike, both_alike, demand_alike, demand_by, next_alike, rights_by}
use Rattle.mdr_placeless.proofs.Constants.{pairs_each, perhaps_map}
use Rattle.mdr_placeless.proofs.Declared.{AreDecls, objects}
use Rattle.mdr_placeless.proofs.Headings.{AreFunctions, AreHeads, behind_both, functions_both, functions_declared, heads, named_both}
use Rattle.mdr_placeless.proofs.Initialisers.{AreInits, inits}
use Rattle.mdr_placeless.proofs.Scopes.{AreScopes, AreTold, Pairs, Perhaps, one_more, pairs_any, pairs_length, structs_length, tag_alike, told_alike, told_same, with_name_alike}
use Rattle.mdr_placeless.proofs.Scopes.AreTold.{Errs, Oks}
use Rattle.mdr_placeless.proofs.Scopes.Pairs.{Cons, Nil}
use Rattle.mdr_placeless.proofs.Scopes.Perhaps.{Nones, Somes}
use Rattle.mdr_placeless.proofs.Statements.{bodies}
use Rattle.mdr_placeless.proofs.Structs.{AreEnumerators, enumerators_both, enumerators_from, enumerators_past, fields_both, new_names, numbered_as, struct_behind}
use Rattle.mdr_placeless.proofs.Verdicts.{short_both}
use Rattle.mdr_placeless.specs.Alike.{AreAlike}
use Rattle.mdr_placeless.specs.Alike.AreAlike.{Rights, Wrongs}
use Rattle.mdr_roundtrip.specs.Declarations.{unplaced_decl}
use Rattle.mdr_roundtrip.specs.Initialised.{unplaced_init}
use Rattle.mdr_roundtrip.specs.Itemised.{unplaced_head, unplaced_item, unplaced_what_item}
use Rattle.mdr_roundtrip.specs.Stated.{unplaced_node}
use Rattle.mdr_roundtrip.specs.Unplaced.{nowhere}
use Rattle.mdr_syntax.specs.declared.tree.Enumerator.{Enumerator}
use Rattle.mdr_syntax.specs.declared.tree.Head.{Head}
use Rattle.mdr_syntax.specs.declared.tree.Item.{Item}
use Rattle.mdr_syntax.specs.declared.tree.ItemWhat.{ItemWhat}
use Rattle.mdr_typing.specs.Profile.{profile_rules}
use Rattle.std.proofs.Common.{Bool, List, Option, Result, [], ap, bytes_eq, false, length, map, not, refl, subst, true, ℕ, ◌&&◌, ◌++◌, ◌+◌, ◌==◌, ◌∙◌, ◌∷◌, ◌≡◌}
use Rattle.mdr_body.specs.Uses.{first_use}
use Rattle.mdr_check.specs.Files.{BodyRule, behind_head, body_scope}
use Rattle.mdr_check.specs.Globals.{variable_of, variable, global, behind_global, first_value, global_means}
use Rattle.mdr_check.specs.Whole.{kept, file_pieces}
use Rattle.mdr_check.specs.declared.file.Piece.TheVariants as piece
use Rattle.mdr_check.specs.declared.file.Piece.{Piece}
use Rattle.mdr_check.specs.declared.initialiser.First.{First}
use Rattle.mdr_core.specs.declared.kind.Kind.{Kind}
use Rattle.mdr_core.specs.declared.types.Ann.{Ann}
use Rattle.mdr_faults.specs.declared.scope.Object.{Object}
use Rattle.mdr_headings.specs.Functions.{is_defined}
use Rattle.mdr_syntax.specs.declared.tree.Decl.{Decl, out-Decl}
use Rattle.mdr_syntax.specs.declared.tree.Init.{Init}
use Rattle.mdr_syntax.specs.declared.tree.ItemWhat.TheVariants as item
use Rattle.mdr_syntax.specs.declared.tree.Node.{Node}

-- ---- globals

globals_told : (own : ℕ) {r s : Result Object Fault} → AreTold r s → AreTold (global_means own r) (global_means own s)
globals_told own (Oks o) = Oks _
globals_told own (Errs f g) = Errs _ _

global_behind : {s t : Scope} → AreScopes s t → (own : ℕ) {d e : Decl} → AreDecls d e → AreScopes (behind_global s own d) (behind_global t own e)
unfolding behind_global
global_behind a own {d = d} {e = e} r = named_both a _ _ (ap (λ (n : Option (List ℕ)). name_or_none n) r.named) (globals_told own (told_alike (objects a (out-Decl d).place (out-Decl e).place r)))

first_values_both : {s t : Scope} → AreScopes s t → (own : ℕ) (p q : Place) {i j : Option Init} → Perhaps AreInits i j → (o : Object) → AreAlike (first_value s own p i o) (first_value t own q j o)
unfolding first_value
first_values_both a own p q Nones o = Rights _
first_values_both {s = s} {t = t} a own p q (Somes r) o = r.initials_both s t a own p q o

variables_named : (m n : List ℕ) → m ≡ n → (o : Object) (x : Ann) (xs : List First) → AreAlike (variable_of m o x xs) (variable_of n o x xs)
variables_named m n e o x xs = rights_by (ap (λ (k : List ℕ). record { name = k; object = o; ann = x; first = xs }) e)

variables_both : {s t : Scope} → AreScopes s t → (own : ℕ) {d e : Decl} → AreDecls d e → {i j : Option Init} → Perhaps AreInits i j → (o : Object) → AreAlike (variable s own d i o) (variable t own e j o)
unfolding variable
variables_both a own {d = d} {e = e} r h o =
    both_alike (annotations a [] (out-Decl d).place (out-Decl e).place o.ty r.ann) (first_values_both a own (out-Decl d).place (out-Decl e).place h o)
    (variables_named (name_or_none (out-Decl d).name) (name_or_none (out-Decl e).name) (ap (λ (n : Option (List ℕ)). name_or_none n) r.named) o)

globals_both : {s t : Scope} → AreScopes s t → (own : ℕ) {d e : Decl} → AreWhole d e → {i j : Option Init} → Perhaps AreInits i j → AreAlike (global s own d i) (global t own e j)
unfolding global
globals_both {s = s} {t = t} a own {d = d} {e = e} w h =
    new_names a (out-Decl d).place (out-Decl e).place _ _ (ap (λ (n : Option (List ℕ)). name_or_none n) w.decl.named)
    (demand_alike (out-Decl d).place (out-Decl e).place Limit (not (own == 1024))
    (both_alike (w.inside s t a []) (after_alike (objects a (out-Decl d).place (out-Decl e).place w.decl) (variables_both (global_behind a own w.decl) own w.decl h)) (λ x y. Rights _)))

-- ---- items

pub data AreWhat : ItemWhat → ItemWhat → Type 0 where
  Defines : (name : List ℕ) (is_negative : Bool) (n : ℕ) (k : Kind) → AreWhat (item.Define name is_negative n k) (item.Define name is_negative n k)
  Structs : (p q : Place) (name : List ℕ) {ds es : List Decl} → Pairs AreWhole ds es → AreWhat (item.Struct p name ds) (item.Struct q name es)
  Enums : {es fs : List Enumerator} → Pairs AreEnumerators es fs → AreWhat (item.Enum es) (item.Enum fs)
  Globals : {d e : Decl} {i j : Option Init} → AreWhole d e → Perhaps AreInits i j → AreWhat (item.Global d i) (item.Global e j)
  Protos : {h k : Head} (is_remote : Bool) → AreHeads h k → AreWhat (item.Proto h is_remote) (item.Proto k is_remote)
  Funcs : (h : Head) (is_critical : Bool) (ns : List Node) → AreWhat (item.Func h is_critical ns) (item.Func (unplaced_head h) is_critical (map unplaced_node ns))

pub record AreItems (x y : Item) : Type 0 where
  pub what_both : AreWhat x.what y.what

whats : (w : ItemWhat) → AreWhat w (unplaced_what_item w)
whats (item.Define name is_negative n k) = Defines name is_negative n k
whats (item.Struct p name ds) = Structs p nowhere name (pairs_each unplaced_decl wholes ds)
whats (item.Enum es) = Enums (enumerators_both es)
whats (item.Global d init) = Globals (wholes d) (perhaps_map unplaced_init inits init)
whats (item.Proto h is_remote) = Protos is_remote (heads h)
whats (item.Func h is_critical ns) = Funcs h is_critical ns

pub items_both : (xs : List Item) → Pairs AreItems xs (map unplaced_item xs)
items_both xs = pairs_each unplaced_item (λ x. record { what_both = whats x.what }) xs

defines_what : (m n : List ℕ) → m ≡ n → {v w : ItemWhat} → AreWhat v w → defines_by m v ≡ defines_by n w
defines_what m n e (Defines name b x k) = refl
defines_what m n e (Structs p q name h) = refl
defines_what m n e (Enums h) = refl
defines_what m n e (Globals d h) = refl
defines_what m n e (Protos {h = h} {k = k} is_remote r) = ap (λ (x : List ℕ). is_remote && bytes_eq x m) r.named ∙ ap (λ (x : List ℕ). is_remote && bytes_eq k.name x) e
defines_what m n e (Funcs h is_critical ns) = ap (λ (x : List ℕ). bytes_eq h.name x) e

defined_both : {xs ys : List Item} → Pairs AreItems xs ys → (m n : List ℕ) → m ≡ n → is_defined xs m ≡ is_defined ys n
defined_both h m n e = pairs_any (λ (i : Item). defines_by m i.what) (λ (i : Item). defines_by n i.what) (λ x y r. defines_what m n e r.what_both) h

bodies_what : (m n : List ℕ) → m ≡ n → {v w : ItemWhat} → AreWhat v w → is_body_by m v ≡ is_body_by n w
bodies_what m n e (Defines name b x k) = refl
bodies_what m n e (Structs p q name h) = refl
bodies_what m n e (Enums h) = refl
bodies_what m n e (Globals d h) = refl
bodies_what m n e (Protos is_remote r) = refl
bodies_what m n e (Funcs h is_critical ns) = ap (λ (x : List ℕ). bytes_eq h.name x) e

has_body_both : {xs ys : List Item} → Pairs AreItems xs ys → (m n : List ℕ) → m ≡ n → has_body xs m ≡ has_body ys n
has_body_both h m n e = pairs_any (λ (i : Item). is_body_by m i.what) (λ (i : Item). is_body_by n i.what) (λ x y r. bodies_what m n e r.what_both) h

-- ---- what is known

pub record AreKnown (x y : Known) : Type 0 where
  pub scopes_both : AreScopes x.scope y.scope
  pub globals_same : x.globals ≡ y.globals
  pub functions_same : Pairs AreFunctions x.functions y.functions

abbrev rules : BodyRule
rules = body_rule profile_rules

struct_pieces : {s t : Scope} → AreScopes s t → (p q : Place) (name : List ℕ) {ds es : List Decl} → Pairs AreWhole ds es → AreAlike (struct_piece s p name ds) (struct_piece t q name es)
unfolding struct_piece
struct_pieces a p q name h =
    demand_by p q Redefined _ _ (numbered_as a name)
    (demand_by p q Limit _ _ (ap (λ n. not (n == 256)) (structs_length a))
    (after_alike (fields_both a p q h) (λ xs. Rights _)))

module _ {x y : Known} (r : AreKnown x y) where
  scopes_of : {h k : Head} → AreHeads h k → AreScopes (body_scope x h) (body_scope y k)
  scopes_of {h = h} {k = k} q =
      subst (λ n. AreScopes (body_scope x h) (behind_function y.scope n k)) (pairs_length r.functions_same)
      (behind_both r.scopes_both q (length x.functions))

  item_pieces : {before past : List Item} → Pairs AreItems before past → (p q : Place) {v w : ItemWhat} → AreWhat v w → AreAlike (item_piece rules before x p v) (item_piece rules past y q w)
  item_pieces b p q (Defines name is_negative n k) = new_names r.scopes_both p q name name refl (Rights _)
  item_pieces b p q (Structs at there name h) = struct_pieces r.scopes_both at there name h
  item_pieces b p q (Enums h) = after_alike (enumerators_from h r.scopes_both (told_same before_first)) (λ cs. Rights _)
  item_pieces b p q (Globals {d = d} {e = e} {i = i} {j = j} w h) =
      after_alike (subst (λ n. AreAlike (global x.scope x.globals d i) (global y.scope n e j)) r.globals_same (globals_both r.scopes_both x.globals w h)) (λ v. Rights _)
  item_pieces {before = before} {past = past} b p q (Protos {h = h} {k = k} is_remote z) =
      after_alike (functions_declared r.scopes_both z r.functions_same before past false (has_body_both b h.name k.name z.named)) (λ g. rights_by (ap (λ (n : List ℕ). piece.Prototype n g) z.named))
  item_pieces {before = before} {past = past} b p q (Funcs h is_critical ns) =
      both_alike (functions_declared r.scopes_both (heads h) r.functions_same before past true (has_body_both b h.name h.name refl)) (bodies (scopes_of (heads h)) h ns) (λ g c. Rights _)

  heads_behind : {h k : Head} → AreHeads h k → AreKnown (behind_head x h) (behind_head y k)
  heads_behind q = record { scopes_both = scopes_of q; globals_same = r.globals_same; functions_same = functions_both r.scopes_both q r.functions_same }

  known_past : {v w : ItemWhat} → AreWhat v w → AreKnown (behind_item x v) (behind_item y w)
  known_past (Defines name is_negative n k) = record { scopes_both = with_name_alike r.scopes_both name (Oks _); globals_same = r.globals_same; functions_same = r.functions_same }
  known_past (Structs at there name h) = record { scopes_both = struct_behind r.scopes_both at there name h; globals_same = r.globals_same; functions_same = r.functions_same }
  known_past (Enums h) = record { scopes_both = enumerators_past h r.scopes_both (told_same before_first); globals_same = r.globals_same; functions_same = r.functions_same }
  known_past (Globals {d = d} {e = e} w h) = record {
    scopes_both = subst (λ n. AreScopes (behind_global x.scope x.globals d) (behind_global y.scope n e)) r.globals_same (global_behind r.scopes_both x.globals w.decl);
    globals_same = ap (λ n. n + 1) r.globals_same;
    functions_same = r.functions_same;
  }
  known_past (Protos is_remote z) = heads_behind z
  known_past (Funcs h is_critical ns) = heads_behind (heads h)

-- ---- all items

pieces_both : {xs ys : List Item} → Pairs AreItems xs ys → {x y : Known} → AreKnown x y → (before past : List Item) → Pairs AreItems before past → AreAlike (pieces_behind rules x before xs) (pieces_behind rules y past ys)
unfolding pieces_behind
pieces_both Nil r before past b = Rights _
pieces_both (Cons {x = i} {y = j} k ks) r before past b =
    next_alike (item_pieces r b i.place j.place k.what_both) (pieces_both ks (known_past r k.what_both) (before ++ i ∷ []) (past ++ j ∷ []) (one_more b k))

pub all_known : {xs ys : List Item} → Pairs AreItems xs ys → {x y : Known} → AreKnown x y → AreKnown (known_behind x xs) (known_behind y ys)
unfolding known_behind
all_known Nil r = r
all_known (Cons k ks) r = all_known ks (known_past r k.what_both)

-- ---- what is known before the first item

tags_what : (tags : List Tag) {v w : ItemWhat} → AreWhat v w → tags_behind tags v ≡ tags_behind tags w
tags_what tags (Defines name b x k) = refl
tags_what tags (Structs p q name h) = refl
tags_what tags (Enums h) = refl
tags_what tags (Globals d h) = refl
tags_what tags (Protos is_remote r) = refl
tags_what tags (Funcs h is_critical ns) = refl

tags_both : {xs ys : List Item} → Pairs AreItems xs ys → (tags : List Tag) → tags_from tags xs ≡ tags_from tags ys
unfolding tags_from
tags_both Nil tags = refl
tags_both (Cons {x = i} {y = j} {xs = xs} k ks) tags = ap (λ (ts : List Tag). tags_from ts xs) (tags_what tags k.what_both) ∙ tags_both ks (tags_behind tags j.what)

names_what : (names : List Named) {v w : ItemWhat} → AreWhat v w → defines_behind names v ≡ defines_behind names w
names_what names (Defines name b x k) = refl
names_what names (Structs p q name h) = refl
names_what names (Enums h) = refl
names_what names (Globals d h) = refl
names_what names (Protos is_remote r) = refl
names_what names (Funcs h is_critical ns) = refl

defines_both : {xs ys : List Item} → Pairs AreItems xs ys → (names : List Named) → defines_from names xs ≡ defines_from names ys
unfolding defines_from
defines_both Nil names = refl
defines_both (Cons {x = i} {y = j} {xs = xs} k ks) names = ap (λ (ns : List Named). defines_from ns xs) (names_what names k.what_both) ∙ defines_both ks (defines_behind names j.what)

first_scopes : {xs ys : List Item} → Pairs AreItems xs ys → AreScopes (first_scope xs) (first_scope ys)
first_scopes h = record { tag = tags_both h []; define = defines_both h []; named = Nil; outline = refl; struct = Nil }

outline_if : {s t : Scope} → AreScopes s t → (b : Bool) (os : List (List Candidate)) {ds es : List Decl} → Pairs AreWhole ds es → with_outline_if b s os ds ≡ with_outline_if b t os es
outline_if a true os h = ap (λ (cs : List Candidate). os ++ cs ∷ []) (all_candidates a (decls_of h))
outline_if a false os h = refl

outlines_what : {s t : Scope} → AreScopes s t → (os : List (List Candidate)) {v w : ItemWhat} → AreWhat v w → outlines_behind s os v ≡ outlines_behind t os w
outlines_what a os (Defines name b x k) = refl
outlines_what {s = s} {t = t} a os (Structs p q name {ds = ds} {es = es} h) = outline_if a (is_numbered (tag_named s name) (length os)) os h ∙ ap (λ (o : Option Tag). with_outline_if (is_numbered o (length os)) t os es) (tag_alike a name)
outlines_what a os (Enums h) = refl
outlines_what a os (Globals d h) = refl
outlines_what a os (Protos is_remote r) = refl
outlines_what a os (Funcs h is_critical ns) = refl

outlines_both : {s t : Scope} → AreScopes s t → {xs ys : List Item} → Pairs AreItems xs ys → (os : List (List Candidate)) → outlines_from s os xs ≡ outlines_from t os ys
unfolding outlines_from
outlines_both a Nil os = refl
outlines_both {s = s} {t = t} a (Cons {x = i} {y = j} {xs = xs} k ks) os = ap (λ (z : List (List Candidate)). outlines_from s z xs) (outlines_what a os k.what_both) ∙ outlines_both a ks (outlines_behind t os j.what)

pub first_both : {xs ys : List Item} → Pairs AreItems xs ys → AreKnown (first_known xs) (first_known ys)
unfolding first_known
first_both h = record {
  scopes_both = record { tag = tags_both h []; define = defines_both h []; named = Nil; outline = outlines_both (first_scopes h) h []; struct = Nil };
  globals_same = refl;
  functions_same = Nil;
}

-- ---- functions that are declared

-- both are right, or there are faults in both
pub data AreBoth {A : Type 0} : Checked A → Checked A → Type 0 where
  Goods : (x y : A) → AreBoth (Right x) (Right y)
  Bads : (f g : Faults) → AreBoth (Wrong f) (Wrong g)

defined_or : (x y : Place) (f g : Faults) (t u : Bool) → t ≡ u → AreBoth (chosen t (Right x) (Wrong f)) (chosen u (Right y) (Wrong g))
defined_or x y f g true u e = subst (λ b. AreBoth (Right x) (chosen b (Right y) (Wrong g))) e (Goods _ _)
defined_or x y f g false u e = subst (λ b. AreBoth (Wrong f) (chosen b (Right y) (Wrong g))) e (Bads _ _)

next_both : {A : Type 0} {c d : Checked A} {cs ds : Checked (List A)} → AreBoth c d → AreBoth cs ds → AreBoth (next c cs) (next d ds)
next_both (Goods x y) (Goods xs ys) = Goods _ _
next_both (Goods x y) (Bads f g) = Bads _ _
next_both (Bads f g) (Goods xs ys) = Bads _ _
next_both (Bads f g) (Bads f' g') = Bads _ _

kept_both : {c d : Checked (List Piece)} {e f : Checked (List Place)} → AreAlike c d → AreBoth e f → AreAlike (both c e kept) (both d f kept)
kept_both (Rights x) (Goods xs ys) = Rights _
kept_both (Rights x) (Bads f g) = Wrongs _ _
kept_both (Wrongs f g) (Goods xs ys) = Wrongs _ _
kept_both (Wrongs f g) (Bads f' g') = Wrongs _ _

module _ {items others : List Item} (is : Pairs AreItems items others) where
  one_defined : {f g : Declared} → AreFunctions f g → AreBoth (defined_rule first_use items f) (defined_rule first_use others g)
  one_defined {f = f} {g = g} r = defined_or f.place g.place _ _ _ _ (defined_both is f.name g.name r.called)

  each_defined : {fs gs : List Declared} → Pairs AreFunctions fs gs → AreBoth (each (map (defined_rule first_use items) fs)) (each (map (defined_rule first_use others) gs))
  each_defined Nil = Goods _ _
  each_defined (Cons r rs) = next_both (one_defined r) (each_defined rs)

  all_defined : {fs gs : List Declared} → Pairs AreFunctions fs gs → AreBoth (defined_functions first_use items fs) (defined_functions first_use others gs)
  unfolding defined_functions
  all_defined h = each_defined h

-- ---- whole files

pub files : (xs : List Item) → AreAlike (file_pieces (body_rule profile_rules) first_use xs) (file_pieces (body_rule profile_rules) first_use (map unplaced_item xs))
unfolding file_pieces
files xs =
    both_alike (short_both xs)
    (kept_both (pieces_both (items_both xs) (first_both (items_both xs)) [] [] Nil) (all_defined (items_both xs) (all_known (items_both xs) (first_both (items_both xs))).functions_same))
    (λ u ps. Rights _)
