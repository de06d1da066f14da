-- In files without faults, functions that are declared are defined, and so are those that bodies use.
use Rattle.std.proofs.Common.{◌≡◌, ◌⊎◌, inl, inr, ℕ, zero, suc, Bool, true, false, cond, List, [], ◌∷◌, ◌++◌, length, find, map, Option, Some, None, Result, Ok, Err, slice_get, refl, sym, ap, ◌∙◌, subst}
use Rattle.std.proofs.lemmas.Slice.Eq.{bytes_eq-Decides}
use Rattle.std.specs.Str.{bytes_eq}
use Rattle.mdr_core.specs.declared.place.Place.{Place}
use Rattle.mdr_core.specs.Layout.{chosen}
use Rattle.mdr_syntax.specs.declared.tree.Enumerator.{Enumerator}
use Rattle.mdr_syntax.specs.declared.tree.Head.{Head}
use Rattle.mdr_syntax.specs.declared.tree.Item.{Item}
use Rattle.mdr_syntax.specs.declared.tree.ItemWhat.{ItemWhat}
use Rattle.mdr_syntax.specs.declared.tree.ItemWhat.TheVariants as item
use Rattle.mdr_faults.specs.declared.fault.Fault.{Fault}
use Rattle.mdr_faults.specs.declared.scope.Constant.{Constant}
use Rattle.mdr_faults.specs.declared.scope.Entity.{Entity}
use Rattle.mdr_faults.specs.declared.scope.Entity.TheVariants as entity
use Rattle.mdr_faults.specs.declared.scope.Named.{Named}
use Rattle.mdr_faults.specs.declared.scope.Object.{Object}
use Rattle.mdr_faults.specs.declared.scope.Scope.{Scope}
use Rattle.mdr_faults.specs.declared.scope.StructEntry.{StructEntry}
use Rattle.mdr_faults.specs.Declarations.{number_constant}
use Rattle.mdr_faults.specs.Enums.{behind_enumerator, behind_enumerators, constant_means, value_behind}
use Rattle.mdr_faults.specs.Faults.{Right, Wrong, Faults, One, both, each, told}
use Rattle.mdr_faults.specs.Scopes.{entity_among, entity_named, or_else}
use Rattle.mdr_headings.specs.declared.function.Declared.{Declared}
use Rattle.mdr_headings.specs.declared.head.Heading.{Heading}
use Rattle.mdr_headings.specs.Functions.{behind_function, declared_unless, function_declared, functions_behind, is_defined, is_taken, with_function_unless}
use Rattle.mdr_headings.specs.Heads.{heading}
use Rattle.mdr_headings.specs.Source.{before_first, defined_constant, defines_behind, defines_from, with_struct_if}
use Rattle.mdr_body.specs.Bodies.{body_rule}
use Rattle.mdr_typing.specs.Profile.{profile_rules}
use Rattle.mdr_check.specs.declared.file.Known.{Known}
use Rattle.mdr_check.specs.declared.file.Piece.{Piece}
use Rattle.mdr_check.specs.Files.{BodyRule, behind_head, behind_item, body_scope, first_known, function_of, item_piece, known_behind, pieces_behind}
use Rattle.mdr_check.specs.Globals.{behind_global, global_means}
use Rattle.mdr_check.specs.Names.{short_items}
use Rattle.mdr_check.specs.Uses.{UseRule, defined_functions, defined_rule, undefined}
use Rattle.mdr_check.specs.Whole.{file_pieces, kept, named}
use Rattle.mdr_sound.proofs.Rights.{both_right}
use Rattle.mdr_sound.proofs.Extending.{pieces_parted}
use Rattle.mdr_sound.specs.ProperSources.{AreProperItems, IsProperItem}
use Rattle.mdr_half_program.specs.Usable.{GivesNothing, IsUseless}
use Rattle.mdr_half_program.specs.UsedFunctions.{BodiesUseWhatIsDefined, DeclaredFunctionsAreDefined, GivesNoUse, IsUnusable}
use Rattle.mdr_half_program.proofs.UsedLines.{bodies_free}

-- ---- each function that is declared is defined

defined_of : (t : Bool) (x p : Place) (f : Faults) → chosen t (Right x) (Wrong f) ≡ Right p → t ≡ true
defined_of true x p f e = refl
defined_of false x p f e = absurd cc

abbrev pub AreDefined : List Item → List Declared → Type 0
AreDefined items [] = Unit {0}
AreDefined items (d ∷ ds) = (is_defined items d.name ≡ true) × AreDefined items ds

each_defined : (uses : UseRule) (items : List Item) (ds : List Declared) (ps : List Place) → each (map (defined_rule uses items) ds) ≡ Right ps → AreDefined items ds
each_defined uses items [] ps e = tt
each_defined uses items (d ∷ ds) ps e =
    let b = both_right (defined_rule uses items d) (each (map (defined_rule uses items) ds)) (λ x xs. Right (x ∷ xs)) ps e in
    (defined_of (is_defined items d.name) d.place b.left (One (undefined uses items d)) b.first, each_defined uses items ds b.right b.second)

functions_defined : (uses : UseRule) (items : List Item) (ds : List Declared) (ps : List Place) → defined_functions uses items ds ≡ Right ps → AreDefined items ds
unfolding defined_functions
functions_defined uses items ds ps e = each_defined uses items ds ps e

-- what is known of a file without faults
pub record Faultless (body : BodyRule) (items : List Item) (xs : List Piece) : Type 0 where
  pub right : pieces_behind body (first_known items) [] items ≡ Right xs
  pub defined : AreDefined items (known_behind (first_known items) items).functions

pub faultless : (body : BodyRule) (uses : UseRule) (items : List Item) (xs : List Piece) → file_pieces body uses items ≡ Right xs → Faultless body items xs
unfolding file_pieces
faultless body uses items xs e =
    let functions : List Declared = (known_behind (first_known items) items).functions in
    let outer = both_right (short_items items) (both (pieces_behind body (first_known items) [] items) (defined_functions uses items functions) kept) named xs e in
    let inner = both_right (pieces_behind body (first_known items) [] items) (defined_functions uses items functions) kept outer.right outer.second in
    record { right = inner.first ∙ inner.made ∙ outer.made; defined = functions_defined uses items functions inner.right inner.second }

same_declared : (a b : Declared) → Some a ≡ Some b → a ≡ b
same_declared a b e = cc

defined_at : (items : List Item) (ds : List Declared) (f : ℕ) (d : Declared) → AreDefined items ds → slice_get ds f ≡ Some d → is_defined items d.name ≡ true
defined_at items [] f d h e = absurd cc
defined_at items (x ∷ xs) zero d h e = subst (λ (y : Declared). is_defined items y.name ≡ true) (same_declared x d e) h.0
defined_at items (x ∷ xs) (suc f) d h e = defined_at items xs f d h.1 e

pub declared_defined : DeclaredFunctionsAreDefined
declared_defined body uses items xs f d e there = defined_at items (known_behind (first_known items) items).functions f d (faultless body uses items xs e).defined there

-- ---- a name more

found_behind : (test : Named → Bool) (xs : List Named) (y : Named) → find test (xs ++ y ∷ []) ≡ or_else (find test xs) (cond (test y) (Some y) None)
found_behind test [] y = refl
found_behind test (x ∷ xs) y = by (test x) (found_behind test xs y)
  where
    by : (t : Bool) → find test (xs ++ y ∷ []) ≡ or_else (find test xs) (cond (test y) (Some y) None) → cond t (Some x) (find test (xs ++ y ∷ [])) ≡ or_else (cond t (Some x) (find test xs)) (cond (test y) (Some y) None)
    by true e = refl
    by false e = e

-- ---- what is in scope as a function is declared

abbrev IsFunction : Entity → Type 0
IsFunction (entity.Constant c) = ⊥
IsFunction (entity.Global g o) = ⊥
IsFunction (entity.Function f) = Unit {0}

abbrev MeansFunction : Result Entity Fault → Type 0
MeansFunction (Ok e) = IsFunction e
MeansFunction (Err f) = ⊥

abbrev GivesFunction : Option Named → Type 0
GivesFunction None = ⊥
GivesFunction (Some entry) = MeansFunction entry.means

constant_none : (r : Result Constant Fault) → MeansFunction (constant_means r) → ⊥
constant_none (Ok c) h = h
constant_none (Err f) h = h

global_none : (own : ℕ) (r : Result Object Fault) → MeansFunction (global_means own r) → ⊥
global_none own (Ok o) h = h
global_none own (Err f) h = h

module _ (name : List ℕ) where
  abbrev test : Named → Bool
  test n = bytes_eq n.name name

  abbrev IsDeclared : List Declared → Type 0
  IsDeclared [] = ⊥
  IsDeclared (d ∷ ds) = (d.name ≡ name) ⊎ IsDeclared ds

  declared_more : (ds : List Declared) (d : Declared) → IsDeclared ds → IsDeclared (ds ++ d ∷ [])
  declared_more [] d h = absurd h
  declared_more (x ∷ xs) d (inl e) = inl e
  declared_more (x ∷ xs) d (inr h) = inr (declared_more xs d h)

  declared_last : (ds : List Declared) (d : Declared) → d.name ≡ name → IsDeclared (ds ++ d ∷ [])
  declared_last [] d e = inl e
  declared_last (x ∷ xs) d e = inr (declared_last xs d e)

  defined_among : (items : List Item) (ds : List Declared) → AreDefined items ds → IsDeclared ds → is_defined items name ≡ true
  defined_among items [] h d = absurd d
  defined_among items (x ∷ xs) h (inl e) = subst (λ (n : List ℕ). is_defined items n ≡ true) e h.0
  defined_among items (x ∷ xs) h (inr d) = defined_among items xs h.1 d

  abbrev Told : List Named → List Declared → Type 0
  Told ns ds = GivesFunction (entity_among ns name) → IsDeclared ds

  told_name : (ns : List Named) (ds : List Declared) (y : Named) → Told ns ds → (test y ≡ true → MeansFunction y.means → IsDeclared ds) → Told (ns ++ y ∷ []) ds
  told_name ns ds y t new h = by (entity_among ns name) t (subst GivesFunction (found_behind test ns y) h)
    where
      one : (b : Bool) → (b ≡ true → MeansFunction y.means → IsDeclared ds) → GivesFunction (cond b (Some y) None) → IsDeclared ds
      one true f g = f refl g
      one false f g = absurd g

      by : (o : Option Named) → (GivesFunction o → IsDeclared ds) → GivesFunction (or_else o (cond (test y) (Some y) None)) → IsDeclared ds
      by (Some z) f g = f g
      by None f g = one (test y) new g

  told_enums : (scope : Scope) (before : Result Constant Fault) (es : List Enumerator) (ds : List Declared) → Told scope.names ds → Told (behind_enumerators scope before es).names ds
  unfolding behind_enumerators
  told_enums scope before [] ds t = t
  told_enums scope before (e ∷ es) ds t =
      told_enums (behind_enumerator scope before e) (told (value_behind scope before e)) es ds (told_name scope.names ds _ t (λ q h. absurd (constant_none (told (value_behind scope before e)) h)))

  told_struct : (b : Bool) (scope : Scope) (e : StructEntry) (ds : List Declared) → Told scope.names ds → Told (with_struct_if b scope e).names ds
  told_struct true scope e ds t = t
  told_struct false scope e ds t = t

  told_unless : (b : Bool) (scope : Scope) (n : ℕ) (ds : List Declared) (h : Head) (r : Result Heading Fault) → Told scope.names ds → Told (with_function_unless b scope n h).names (declared_unless b ds h r)
  told_unless true scope n ds h r t = t
  told_unless false scope n ds h r t =
      told_name scope.names (declared_unless false ds h r) _ (λ g. declared_more ds _ (t g)) (λ q f. declared_last ds _ ((bytes_eq-Decides h.name name).0 q))

  told_head : (known : Known) (h : Head) → Told known.scope.names known.functions → Told (behind_head known h).scope.names (behind_head known h).functions
  unfolding behind_function functions_behind
  told_head known h t = told_unless (is_taken known.scope h.name) known.scope (length known.functions) known.functions h (told (heading known.scope h)) t

  told_item : (known : Known) (w : ItemWhat) → Told known.scope.names known.functions → Told (behind_item known w).scope.names (behind_item known w).functions
  unfolding behind_global
  told_item known (item.Define n is_negative v k) t = told_name known.scope.names known.functions _ t (λ q h. absurd h)
  told_item known (item.Struct at n ds) t = told_struct _ known.scope _ known.functions t
  told_item known (item.Enum es) t = told_enums known.scope before_first es known.functions t
  told_item known (item.Global d init) t = told_name known.scope.names known.functions _ t (λ q h. absurd (global_none known.globals _ h))
  told_item known (item.Proto h is_remote) t = told_head known h t
  told_item known (item.Func h is_critical nodes) t = told_head known h t

  told_along : (known : Known) (is : List Item) → Told known.scope.names known.functions → Told (known_behind known is).scope.names (known_behind known is).functions
  unfolding known_behind
  told_along known [] t = t
  told_along known (i ∷ is) t = told_along (behind_item known i.what) is (told_item known i.what t)

  -- ---- a `#define` is no function

  defines_told : (ns : List Named) (is : List Item) → Told ns [] → Told (defines_from ns is) []
  unfolding defines_from
  defines_told ns [] t = t
  defines_told ns (i ∷ is) t = defines_told (defines_behind ns i.what) is (by i.what)
    where
      by : (w : ItemWhat) → Told (defines_behind ns w) []
      by (item.Define n is_negative v k) = told_name ns [] (defined_constant n (number_constant is_negative v k)) t (λ q h. absurd h)
      by (item.Struct at n ds) = t
      by (item.Enum es) = t
      by (item.Global d init) = t
      by (item.Proto h is_remote) = t
      by (item.Func h is_critical nodes) = t

  kept_enums : (scope : Scope) (before : Result Constant Fault) (es : List Enumerator) → (behind_enumerators scope before es).defines ≡ scope.defines
  unfolding behind_enumerators
  kept_enums scope before [] = refl
  kept_enums scope before (e ∷ es) = kept_enums (behind_enumerator scope before e) (told (value_behind scope before e)) es

  kept_struct : (b : Bool) (scope : Scope) (e : StructEntry) → (with_struct_if b scope e).defines ≡ scope.defines
  kept_struct true scope e = refl
  kept_struct false scope e = refl

  kept_unless : (b : Bool) (scope : Scope) (n : ℕ) (h : Head) → (with_function_unless b scope n h).defines ≡ scope.defines
  kept_unless true scope n h = refl
  kept_unless false scope n h = refl

  defines_kept : (known : Known) (w : ItemWhat) → (behind_item known w).scope.defines ≡ known.scope.defines
  unfolding behind_global behind_function
  defines_kept known (item.Define n is_negative v k) = refl
  defines_kept known (item.Struct at n ds) = kept_struct _ known.scope _
  defines_kept known (item.Enum es) = kept_enums known.scope before_first es
  defines_kept known (item.Global d init) = refl
  defines_kept known (item.Proto h is_remote) = kept_unless (is_taken known.scope h.name) known.scope (length known.functions) h
  defines_kept known (item.Func h is_critical nodes) = kept_unless (is_taken known.scope h.name) known.scope (length known.functions) h

  defines_along : (known : Known) (is : List Item) → (known_behind known is).scope.defines ≡ known.scope.defines
  unfolding known_behind
  defines_along known [] = refl
  defines_along known (i ∷ is) = defines_along (behind_item known i.what) is ∙ defines_kept known i.what

  -- ---- what is declared stays so

  unless_kept : (b : Bool) (ds : List Declared) (h : Head) (r : Result Heading Fault) → IsDeclared ds → IsDeclared (declared_unless b ds h r)
  unless_kept true ds h r d = d
  unless_kept false ds h r d = declared_more ds _ d

  declared_item : (known : Known) (w : ItemWhat) → IsDeclared known.functions → IsDeclared (behind_item known w).functions
  unfolding functions_behind
  declared_item known (item.Define n is_negative v k) d = d
  declared_item known (item.Struct at n ds) d = d
  declared_item known (item.Enum es) d = d
  declared_item known (item.Global g init) d = d
  declared_item known (item.Proto h is_remote) d = unless_kept (is_taken known.scope h.name) known.functions h (told (heading known.scope h)) d
  declared_item known (item.Func h is_critical nodes) d = unless_kept (is_taken known.scope h.name) known.functions h (told (heading known.scope h)) d

  declared_along : (known : Known) (is : List Item) → IsDeclared known.functions → IsDeclared (known_behind known is).functions
  unfolding known_behind
  declared_along known [] d = d
  declared_along known (i ∷ is) d = declared_along (behind_item known i.what) is (declared_item known i.what d)

  -- ---- in the body of a function

  among_names : (defines names : List Named) (ds : List Declared) → Told defines [] → Told names ds → GivesFunction (or_else (entity_among defines name) (entity_among names name)) → IsDeclared ds
  among_names defines names ds t u = by (entity_among defines name) t
    where
      by : (o : Option Named) → (GivesFunction o → ⊥) → GivesFunction (or_else o (entity_among names name)) → IsDeclared ds
      by (Some z) f g = absurd (f g)
      by None f g = u g

  first_told : (items : List Item) → Told (first_known items).scope.defines []
  unfolding first_known
  first_told items = defines_told [] items (λ g. g)

  none_told : (items : List Item) → Told (first_known items).scope.names (first_known items).functions
  unfolding first_known
  none_told items g = g

  declared_behind : (items before : List Item) (h : Head) → GivesFunction (entity_named (body_scope (known_behind (first_known items) before) h) name)
      → IsDeclared (behind_head (known_behind (first_known items) before) h).functions
  declared_behind items before h g =
      let known = known_behind (first_known items) before in
      let i : ItemWhat = item.Proto h false in
      among_names (behind_item known i).scope.defines (behind_item known i).scope.names (behind_item known i).functions
      (subst (λ (ns : List Named). Told ns []) (sym (defines_kept known i ∙ defines_along (first_known items) before)) (first_told items))
      (told_item known i (told_along (first_known items) before (none_told items))) g

-- ---- one item among others

record PieceAt (body : BodyRule) (known : Known) (i : Item) : Type 0 where
  before : List Item
  piece : Piece
  right : item_piece body before known i.place i.what ≡ Right piece

piece_at : (body : BodyRule) (is behind before : List Item) (i : Item) (known : Known) (xs : List Piece) → pieces_behind body known before (is ++ i ∷ behind) ≡ Right xs → PieceAt body (known_behind known is) i
unfolding known_behind
piece_at body [] behind before i known xs e =
    let p = pieces_parted body [] before known i behind xs e in
    record { before = before; piece = p.first; right = p.one }
piece_at body (j ∷ js) behind before i known xs e =
    let p = pieces_parted body [] before known j (js ++ i ∷ behind) xs e in
    piece_at body js behind (before ++ j ∷ []) i (behind_item known j.what) p.rest p.others

proper_at : (is behind : List Item) (i : Item) → AreProperItems (is ++ i ∷ behind) → IsProperItem i.what
proper_at [] behind i h = h.0
proper_at (j ∷ js) behind i h = proper_at js behind i h.1

behind_one : (known : Known) (is behind : List Item) (i : Item) → known_behind known (is ++ i ∷ behind) ≡ known_behind (behind_item (known_behind known is) i.what) behind
unfolding known_behind
behind_one known [] behind i = refl
behind_one known (j ∷ js) behind i = behind_one (behind_item known j.what) js behind i

-- ---- a body uses what is defined

not_both : (b : Bool) → b ≡ true → b ≡ false → ⊥
not_both true e f = absurd cc
not_both false e f = absurd cc

nothing_there : (items : List Item) (name : List ℕ) (o : Option Named) → GivesNoUse items name o → (GivesFunction o → is_defined items name ≡ true) → GivesNothing o
nothing_there items name None u d = tt
nothing_there items name (Some entry) u d = by entry.means u d
  where
    by : (r : Result Entity Fault) → IsUnusable items name r → (MeansFunction r → is_defined items name ≡ true) → IsUseless r
    by (Ok (entity.Constant c)) u d = u
    by (Ok (entity.Global g o)) u d = u
    by (Ok (entity.Function f)) u d = not_both (is_defined items name) (d tt) u
    by (Err f) u d = tt

pub used_defined : BodiesUseWhatIsDefined
used_defined uses items before behind xs p h is_critical nodes name proper at e none plain =
    let body = body_rule profile_rules in
    let i : Item = record { place = p; what = item.Func h is_critical nodes } in
    let known : Known = known_behind (first_known items) before in
    let file = faultless body uses items xs e in
    let there = piece_at body before behind [] i (first_known items) xs (subst (λ (is : List Item). pieces_behind body (first_known items) [] is ≡ Right xs) at file.right) in
    let b = both_right (function_declared known.scope known.functions there.before h true) (body (body_scope known h) h nodes) (function_of h.name is_critical) there.piece there.right in
    let whole : known_behind (first_known items) items ≡ known_behind (behind_item known i.what) behind = ap (known_behind (first_known items)) at ∙ behind_one (first_known items) before behind i in
    let defined : AreDefined items (known_behind (behind_item known i.what) behind).functions = subst (λ (k : Known). AreDefined items k.functions) whole file.defined in
    let one = proper_at before behind i (subst AreProperItems at proper) in
    bodies_free (body_scope known h) h nodes b.right name one.0 one.1
    (nothing_there items name (entity_named (body_scope known h) name) none
    (λ g. defined_among name items (known_behind (behind_item known i.what) behind).functions defined
    (declared_along name (behind_item known i.what) behind (declared_behind name items before h g))))
    plain b.second
