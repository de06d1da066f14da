-- Behind each item the structs, globals and functions are counted as the file numbers them.
use Rattle.std.proofs.Common.{◌≡◌, ℕ, zero, suc, ◌+◌, Bool, true, false, not, ◌&&◌, List, [], ◌∷◌, ◌++◌, map, length, Option, Some, None, Result, Ok, refl, sym, ap, ◌∙◌, subst, slice_get, is_some, ◌==◌, append-nil, append_assoc, length-append, ◌⊎◌, inl, inr}
use Rattle.std.specs.Str.{bytes_eq}
use Rattle.mdr_core.specs.declared.place.Place.{Place}
use Rattle.mdr_core.specs.declared.program.Func.{Func}
use Rattle.mdr_core.specs.declared.program.Param.{Param}
use Rattle.mdr_core.specs.declared.types.Ty.{Ty}
use Rattle.mdr_core.specs.declared.types.Ty.TheVariants as type
use Rattle.mdr_core.specs.Typing.{function_type}
use Rattle.mdr_syntax.specs.declared.tree.Enumerator.{Enumerator}
use Rattle.mdr_syntax.specs.declared.tree.Head.{Head}
use Rattle.mdr_syntax.specs.declared.tree.Item.{Item}
use Rattle.mdr_syntax.specs.declared.tree.ItemWhat.{ItemWhat}
use Rattle.mdr_syntax.specs.declared.tree.ItemWhat.TheVariants as item
use Rattle.mdr_faults.specs.declared.fault.Fault.{Fault}
use Rattle.mdr_faults.specs.declared.fault.FaultKind.TheVariants.{Redefined, Mismatch, Limit}
use Rattle.mdr_faults.specs.declared.scope.Constant.{Constant}
use Rattle.mdr_faults.specs.declared.scope.Named.{Named as Entry}
use Rattle.mdr_faults.specs.declared.scope.Scope.{Scope}
use Rattle.mdr_faults.specs.declared.scope.Entity.TheVariants as entity
use Rattle.mdr_faults.specs.Declarations.{number_constant}
use Rattle.mdr_faults.specs.Enums.{with_name, enumerators, behind_enumerator, behind_enumerators, value_behind}
use Rattle.mdr_faults.specs.Faults.{Right, told, after, demand}
use Rattle.mdr_faults.specs.Scopes.{entity_among, tag_named}
use Rattle.mdr_headings.specs.declared.function.Declared.{Declared}
use Rattle.mdr_headings.specs.declared.head.Heading.{Heading}
use Rattle.mdr_headings.specs.Heads.{heading}
use Rattle.mdr_headings.specs.Functions.{is_same_param, are_same_params, is_same_heading, agrees, agrees_with, function_named, may_stand, is_taken, with_function_unless, behind_function, declared_unless, function_rule, function_declared, functions_behind, has_body}
use Rattle.mdr_headings.specs.Structs.{name_or_none, struct_fields, struct_entry}
use Rattle.mdr_syntax.specs.declared.tree.Decl.{out-Decl}
use Rattle.mdr_headings.specs.Source.{is_numbered, before_first, with_struct_if}
use Rattle.mdr_check.specs.declared.file.Known.{Known}
use Rattle.mdr_check.specs.declared.file.Piece.{Piece}
use Rattle.mdr_check.specs.declared.file.Piece.TheVariants as piece
use Rattle.mdr_check.specs.Files.{BodyRule, item_piece, behind_item, behind_head, body_scope, struct_piece, struct_of, global_of, prototype_of, function_of, with_scope}
use Rattle.mdr_check.specs.Globals.{global, global_object, global_means, behind_global}
use Rattle.mdr_program.specs.declared.parts.Parts.{Parts}
use Rattle.mdr_program.specs.Parts.{flagged, marked, remote, whole, number_among, declared, defined, behind_piece}
use Rattle.mdr_sound.proofs.Alike.{alike_same, left_of, right_of}
use Rattle.mdr_sound.proofs.Rights.{after_right, both_right, demand_right, same_right}
use Rattle.mdr_sound.specs.Counting.{heading_type, IsDeclaredAs, AreDeclaredAs, Counts}
use Rattle.mdr_sound.proofs.Declaring.{Agrees, defined_again, declared_again, defined_first, declared_first}
use Rattle.mdr_sound.proofs.Named.{found_at, found_more, found_last, same_bytes, bytes_same}

-- ---- types of functions

marked_types : (objects : List Bool) (i : ℕ) (ps : List Param) → map (λ (p : Param). p.ty) (marked objects i ps) ≡ map (λ (p : Param). p.ty) ps
unfolding marked
marked_types objects i [] = refl
marked_types objects i (p ∷ ps) =
    let first : (flagged p (slice_get objects i)).ty ≡ p.ty = flagged_type p (slice_get objects i) in
    let rest : map (λ (p : Param). p.ty) (marked objects (i + 1) ps) ≡ map (λ (p : Param). p.ty) ps = marked_types objects (i + 1) ps in
    λ j. first j ∷ rest j
  where
    flagged_type : (p : Param) (o : Option Bool) → (flagged p o).ty ≡ p.ty
    flagged_type p None = refl
    flagged_type p (Some b) = refl

pub whole_type : (name : List ℕ) (is_critical : Bool) (h : Heading) (b : _) → function_type (whole name is_critical h b) ≡ heading_type h
whole_type name is_critical h b = ap (λ (ts : List Ty). type.Fun (h.result ∷ ts)) (marked_types b.objects 0 h.params)

-- ---- headings that agree

params_same : (ps qs : List Param) → are_same_params ps qs ≡ true → map (λ (p : Param). p.ty) ps ≡ map (λ (p : Param). p.ty) qs
params_same [] [] e = refl
params_same [] (q ∷ qs) e = absurd cc
params_same (p ∷ ps) [] e = absurd cc
params_same (p ∷ ps) (q ∷ qs) e =
    let one : is_same_param p q ≡ true = left_of _ _ e in
    let first : p.ty ≡ q.ty = alike_same p.ty q.ty (left_of _ _ one) in
    let rest : map (λ (p : Param). p.ty) ps ≡ map (λ (p : Param). p.ty) qs = params_same ps qs (right_of _ _ e) in
    λ i. first i ∷ rest i

pub headings_same : (a b : Heading) → is_same_heading a b ≡ true → heading_type a ≡ heading_type b
headings_same a b e =
    let result : a.result ≡ b.result = alike_same a.result b.result (left_of _ _ e) in
    let params : map (λ (p : Param). p.ty) a.params ≡ map (λ (p : Param). p.ty) b.params = params_same a.params b.params (right_of _ _ (right_of _ _ e)) in
    λ i. type.Fun (result i ∷ params i)

-- ---- names that are taken

-- the names of a scope grow
record NamesGrow (scope more : Scope) : Type 0 where
  names : List Entry
  grown : more.names ≡ scope.names ++ names

taken_more : (scope more : Scope) (name : List ℕ) → NamesGrow scope more → is_some (entity_among scope.names name) ≡ true → is_some (entity_among more.names name) ≡ true
taken_more scope more name g e = subst (λ ns. is_some (entity_among ns name) ≡ true) (sym g.grown) (found_more (λ n. bytes_eq n.name name) scope.names g.names e)

all_taken : (scope more : Scope) (ds : List Declared) → NamesGrow scope more → ((i : ℕ) (d : Declared) → slice_get ds i ≡ Some d → is_some (entity_among scope.names d.name) ≡ true) → (i : ℕ) (d : Declared) → slice_get ds i ≡ Some d → is_some (entity_among more.names d.name) ≡ true
all_taken scope more ds g h i d e = taken_more scope more d.name g (h i d e)

-- ---- what a piece of no function, no struct and no global leaves

same_counts : (known : Known) (scope : Scope) (ps : Parts) → length scope.structs ≡ length known.scope.structs → NamesGrow known.scope scope → Counts known ps → Counts (with_scope known scope) ps
same_counts known scope ps same g c = record {
  globals = c.globals;
  structs = same ∙ c.structs;
  functions = c.functions;
  taken = all_taken known.scope scope known.functions g c.taken;
}

-- ---- enumerators

record Behind (scope more : Scope) : Type 0 where
  structs : more.structs ≡ scope.structs
  names : NamesGrow scope more

enumerators_behind : (scope : Scope) (before : Result Constant Fault) (es : List Enumerator) → Behind scope (behind_enumerators scope before es)
unfolding behind_enumerators
enumerators_behind scope before [] = record { structs = refl; names = record { names = []; grown = sym (append-nil scope.names) } }
enumerators_behind scope before (e ∷ es) = further (enumerators_behind (behind_enumerator scope before e) (told (value_behind scope before e)) es)
  where
    further : Behind (behind_enumerator scope before e) (behind_enumerators (behind_enumerator scope before e) (told (value_behind scope before e)) es) → Behind scope (behind_enumerators (behind_enumerator scope before e) (told (value_behind scope before e)) es)
    further b = record { structs = b.structs; names = record { names = _ ∷ b.names.names; grown = b.names.grown ∙ append_assoc scope.names (_ ∷ []) b.names.names } }

-- ---- functions

-- what a declaration of a function keeps to
pub record Ruled (scope : Scope) (fs : List Declared) (h : Head) (hd : Heading) : Type 0 where
  pub again : Bool
  pub may : may_stand (is_taken scope h.name) (function_named fs h.name) again ≡ true
  pub right : heading scope h ≡ Right hd
  pub agree : agrees_with (function_named fs h.name) (Ok hd) ≡ true

pub ruled : (scope : Scope) (fs : List Declared) (before : List Item) (h : Head) (is_body : Bool) (hd : Heading) → function_declared scope fs before h is_body ≡ Right hd → Ruled scope fs h hd
unfolding function_declared function_rule
ruled scope fs before h is_body hd e =
    let first = demand_right h.place Redefined _ _ hd e in
    let second = demand_right h.place Mismatch _ _ hd first.right in
    let third = demand_right h.place Limit _ _ hd second.right in
    let is : told (heading scope h) ≡ Ok hd = ap told third.right in
    record { again = is_body && has_body before h.name; may = first.holds; right = third.right; agree = subst (λ r. agrees_with (function_named fs h.name) r ≡ true) is second.holds }

named_where : (entry : Option Declared) (again : Bool) → may_stand true entry again ≡ true → is_some entry ≡ true
named_where None again e = absurd cc
named_where (Some d) again e = refl

agree_types : (d : Declared) (h hd : Heading) (entry : Option Declared) → entry ≡ Some d → d.heading ≡ Ok h → agrees_with entry (Ok hd) ≡ true → heading_type hd ≡ heading_type h
agree_types d h hd entry found told e =
    let test : agrees d.heading (Ok hd) ≡ true = subst (λ o. agrees_with o (Ok hd) ≡ true) found e in
    let same : is_same_heading h hd ≡ true = subst (λ r. agrees r (Ok hd) ≡ true) told test in
    sym (headings_same h hd same)

agreeing : (scope : Scope) (fs : List Declared) (h : Head) (hd : Heading) (f : Func) → Ruled scope fs h hd → f.name ≡ h.name → function_type f ≡ heading_type hd → Agrees fs f
agreeing scope fs h hd f r named types = record {
  types = λ d old found told.
      let there = found_at (λ (x : Declared). bytes_eq x.name f.name) fs d found in
      let entry : function_named fs h.name ≡ Some d = subst (λ n. function_named fs n ≡ Some d) named found in
      record { name = sym (same_bytes d.name f.name there.passes); heading = old; told = told; types = types ∙ agree_types d old hd (function_named fs h.name) entry told r.agree };
}

-- where a name isn't taken no function has it
not_named : (scope : Scope) (fs : List Declared) (name : List ℕ) (entry : Option Declared) → function_named fs name ≡ entry → ((i : ℕ) (d : Declared) → slice_get fs i ≡ Some d → is_some (entity_among scope.names d.name) ≡ true) → is_taken scope name ≡ false → is_some entry ≡ false
not_named scope fs name None e taken free = refl
not_named scope fs name (Some d) e taken free =
    let there = found_at (λ (x : Declared). bytes_eq x.name name) fs d e in
    let is : is_some (entity_among scope.names name) ≡ true = subst (λ n. is_some (entity_among scope.names n) ≡ true) (same_bytes d.name name there.passes) (taken there.number d there.names) in
    sym is ∙ free

abbrev pub new_declared : Scope → Head → Declared
new_declared scope h = record { name = h.name; place = h.place; heading = told (heading scope h) }

is_declared : (scope : Scope) (fs : List Declared) (h : Head) (hd : Heading) (f : Func) → Ruled scope fs h hd → f.name ≡ h.name → function_type f ≡ heading_type hd → IsDeclaredAs (new_declared scope h) f
is_declared scope fs h hd f r named types = record { name = named; heading = hd; told = ap told r.right; types = types }

-- the functions behind a declaration, in two cases
record Function (known : Known) (ps : Parts) (h : Head) (hd : Heading) (f : Func) : Type 0 where
  counts : Counts known ps
  rule : Ruled known.scope known.functions h hd
  named : f.name ≡ h.name
  types : function_type f ≡ heading_type hd

prototype_counts : (known : Known) (ps : Parts) (h : Head) (hd : Heading) (f : Func) (t : Bool) → is_taken known.scope h.name ≡ t → Function known ps h hd f → AreDeclaredAs (declared_unless t known.functions h (told (heading known.scope h))) (declared ps.funcs f (number_among ps.funcs f.name))
prototype_counts known ps h hd f true q c =
    let may : may_stand true (function_named known.functions h.name) (c.rule).again ≡ true = subst (λ t. may_stand t (function_named known.functions h.name) (c.rule).again ≡ true) q (c.rule).may in
    let there : is_some (function_named known.functions f.name) ≡ true = subst (λ n. is_some (function_named known.functions n) ≡ true) (sym c.named) (named_where _ _ may) in
    declared_again known.functions ps.funcs f (c.counts).functions there
prototype_counts known ps h hd f false q c =
    let none : is_some (function_named known.functions h.name) ≡ false = not_named known.scope known.functions h.name _ refl (c.counts).taken q in
    let there : is_some (function_named known.functions f.name) ≡ false = subst (λ n. is_some (function_named known.functions n) ≡ false) (sym c.named) none in
    declared_first known.functions ps.funcs (new_declared known.scope h) f (c.counts).functions there (is_declared known.scope known.functions h hd f c.rule c.named c.types)

body_counts : (known : Known) (ps : Parts) (h : Head) (hd : Heading) (f : Func) (t : Bool) → is_taken known.scope h.name ≡ t → Function known ps h hd f → AreDeclaredAs (declared_unless t known.functions h (told (heading known.scope h))) (defined ps.funcs f (number_among ps.funcs f.name))
body_counts known ps h hd f true q c =
    let may : may_stand true (function_named known.functions h.name) (c.rule).again ≡ true = subst (λ t. may_stand t (function_named known.functions h.name) (c.rule).again ≡ true) q (c.rule).may in
    let there : is_some (function_named known.functions f.name) ≡ true = subst (λ n. is_some (function_named known.functions n) ≡ true) (sym c.named) (named_where _ _ may) in
    defined_again known.functions ps.funcs f (c.counts).functions there (agreeing known.scope known.functions h hd f c.rule c.named c.types)
body_counts known ps h hd f false q c =
    let none : is_some (function_named known.functions h.name) ≡ false = not_named known.scope known.functions h.name _ refl (c.counts).taken q in
    let there : is_some (function_named known.functions f.name) ≡ false = subst (λ n. is_some (function_named known.functions n) ≡ false) (sym c.named) none in
    defined_first known.functions ps.funcs (new_declared known.scope h) f (c.counts).functions there (is_declared known.scope known.functions h hd f c.rule c.named c.types)

-- ---- the names of functions stay taken

pub last_or_before : {A : Type 0} (xs : List A) (y : A) (i : ℕ) (z : A) → slice_get (xs ++ y ∷ []) i ≡ Some z → (slice_get xs i ≡ Some z) ⊎ (y ≡ z)
last_or_before [] y zero z e = inr cc
last_or_before [] y (suc i) z e = absurd cc
last_or_before (x ∷ xs) y zero z e = inl e
last_or_before (x ∷ xs) y (suc i) z e = last_or_before xs y i z e

names_behind : (t : Bool) (scope : Scope) (n : ℕ) (h : Head) → NamesGrow scope (with_function_unless t scope n h)
names_behind true scope n h = record { names = []; grown = sym (append-nil scope.names) }
names_behind false scope n h = record { names = _ ∷ []; grown = refl }

structs_behind : (t : Bool) (scope : Scope) (n : ℕ) (h : Head) → (with_function_unless t scope n h).structs ≡ scope.structs
structs_behind true scope n h = refl
structs_behind false scope n h = refl

taken_behind : (t : Bool) (known : Known) (ps : Parts) (n : ℕ) (h : Head) (r : Result Heading Fault) → Counts known ps → (i : ℕ) (d : Declared) → slice_get (declared_unless t known.functions h r) i ≡ Some d → is_some (entity_among (with_function_unless t known.scope n h).names d.name) ≡ true
taken_behind true known ps n h r c i d e = c.taken i d e
taken_behind false known ps n h r c i d e = by (last_or_before known.functions _ i d e)
  where
    by : (slice_get known.functions i ≡ Some d) ⊎ (record { name = h.name; place = h.place; heading = r } ≡ d) → is_some (entity_among (with_function_unless false known.scope n h).names d.name) ≡ true
    by (inl old) = found_more (λ (x : Entry). bytes_eq x.name d.name) known.scope.names _ (c.taken i d old)
    by (inr new) = found_last (λ (x : Entry). bytes_eq x.name d.name) known.scope.names _ (subst (λ (x : Declared). bytes_eq h.name x.name ≡ true) new (bytes_same h.name))

-- ---- one item

function_kept : (known : Known) (ps more : Parts) (items : List Item) (h : Head) → Counts known ps → more.variables ≡ ps.variables → more.structs ≡ ps.structs → AreDeclaredAs (functions_behind known.scope known.functions h) more.funcs → Counts (behind_head known h) more
unfolding behind_function functions_behind
function_kept known ps more items h c variables structs all = record {
  globals = c.globals ∙ ap length (sym variables);
  structs = ap length (structs_behind (is_taken known.scope h.name) known.scope (length known.functions) h) ∙ c.structs ∙ ap length (sym structs);
  functions = all;
  taken = taken_behind (is_taken known.scope h.name) known ps (length known.functions) h (told (heading known.scope h)) c;
}

struct_kept : (known : Known) (ps : Parts) (scope : Scope) (test : Bool) (entry : _) (def : _) → test ≡ true → Counts known ps → Counts (with_scope known (with_struct_if test known.scope entry)) (record ps { structs = ps.structs ++ def ∷ [] })
struct_kept known ps scope true entry def e c = record {
  globals = c.globals;
  structs = length-append known.scope.structs (entry ∷ []) ∙ ap (λ n. n + 1) c.structs ∙ sym (length-append ps.structs (def ∷ []));
  functions = c.functions;
  taken = c.taken;
}
struct_kept known ps scope false entry def e c = absurd cc

global_kept : (known : Known) (ps : Parts) (name : List ℕ) (means : _) (v : _) → Counts known ps → Counts (record { scope = with_name known.scope name means; globals = known.globals + 1; functions = known.functions }) (record ps { variables = ps.variables ++ v ∷ [] })
global_kept known ps name means v c = record {
  globals = ap (λ n. n + 1) c.globals ∙ sym (length-append ps.variables (v ∷ []));
  structs = c.structs;
  functions = c.functions;
  taken = all_taken known.scope (with_name known.scope name means) known.functions (record { names = _ ∷ []; grown = refl }) c.taken;
}

functions_kept : (known : Known) (h : Head) (fs : List Func) → AreDeclaredAs (declared_unless (is_taken known.scope h.name) known.functions h (told (heading known.scope h))) fs → AreDeclaredAs (functions_behind known.scope known.functions h) fs
unfolding functions_behind
functions_kept known h fs all = all

-- the counts behind an item that comes to a piece
abbrev Counted : List Item → Known → Parts → ItemWhat → Piece → Type 0
Counted items known ps what x = Counts (behind_item known what) (behind_piece ps x)

pub counted_by : (body : BodyRule) (items before : List Item) (known : Known) (p : Place) (what : ItemWhat) (x : Piece) (ps : Parts) → Counts known ps → item_piece body before known p what ≡ Right x → Counted items known ps what x
unfolding struct_piece behind_global
counted_by body items before known p (item.Define name is_negative n k) x ps c e =
    let d = demand_right p Redefined (not (is_some (entity_among known.scope.names name))) (Right piece.Nothing) x e in
    let is : piece.Nothing ≡ x = same_right piece.Nothing x d.right in
    let scope = with_name known.scope name (Ok (entity.Constant (number_constant is_negative n k))) in
    subst (λ y. Counted items known ps (item.Define name is_negative n k) y) is (same_counts known scope ps refl (record { names = record { name = name; means = Ok (entity.Constant (number_constant is_negative n k)) } ∷ []; grown = refl }) c)
counted_by body items before known p (item.Struct at name ds) x ps c e =
    let fields = struct_fields known.scope at ds in
    let few = demand at Limit (not (length known.scope.structs == 256)) (after fields (struct_of name)) in
    let d = demand_right at Redefined (is_numbered (tag_named known.scope name) (length known.scope.structs)) few x e in
    let d' = demand_right at Limit (not (length known.scope.structs == 256)) (after fields (struct_of name)) x d.right in
    let a = after_right fields (struct_of name) x d'.right in
    let is : piece.Struct (record { name = name; fields = a.value }) ≡ x = same_right (piece.Struct (record { name = name; fields = a.value })) x a.made in
    subst (λ y. Counted items known ps (item.Struct at name ds) y) is (struct_kept known ps known.scope (is_numbered (tag_named known.scope name) (length known.scope.structs)) (struct_entry known.scope at ds) (record { name = name; fields = a.value }) d.holds c)
counted_by body items before known p (item.Enum es) x ps c e =
    let a = after_right (enumerators known.scope before_first es) (λ y. Right piece.Nothing) x e in
    let is : piece.Nothing ≡ x = same_right piece.Nothing x a.made in
    let b = enumerators_behind known.scope before_first es in
    subst (λ y. Counted items known ps (item.Enum es) y) is (same_counts known (behind_enumerators known.scope before_first es) ps (ap length b.structs) b.names c)
counted_by body items before known p (item.Global d init) x ps c e =
    let a = after_right (global known.scope known.globals d init) global_of x e in
    let is : piece.Global a.value ≡ x = same_right (piece.Global a.value) x a.made in
    subst (λ y. Counted items known ps (item.Global d init) y) is (global_kept known ps (name_or_none (out-Decl d).name) (global_means known.globals (told (global_object known.scope d))) a.value c)
counted_by body items before known p (item.Proto h is_remote) x ps c e =
    let a = after_right (function_declared known.scope known.functions before h false) (prototype_of h.name) x e in
    let is : piece.Prototype h.name a.value ≡ x = same_right (piece.Prototype h.name a.value) x a.made in
    let f : Function known ps h a.value (remote h.name a.value) = record { counts = c; rule = ruled known.scope known.functions before h false a.value a.right; named = refl; types = refl } in
    let more = behind_piece ps (piece.Prototype h.name a.value) in
    subst (λ y. Counted items known ps (item.Proto h is_remote) y) is (function_kept known ps more items h c refl refl (functions_kept known h more.funcs (prototype_counts known ps h a.value (remote h.name a.value) (is_taken known.scope h.name) refl f)))
counted_by body items before known p (item.Func h is_critical nodes) x ps c e =
    let b = both_right (function_declared known.scope known.functions before h true) (body (body_scope known h) h nodes) (function_of h.name is_critical) x e in
    let made = piece.Function h.name is_critical b.left b.right in
    let is : made ≡ x = same_right made x b.made in
    let f : Function known ps h b.left (whole h.name is_critical b.left b.right) = record { counts = c; rule = ruled known.scope known.functions before h true b.left b.first; named = refl; types = whole_type h.name is_critical b.left b.right } in
    let more = behind_piece ps made in
    subst (λ y. Counted items known ps (item.Func h is_critical nodes) y) is (function_kept known ps more items h c refl refl (functions_kept known h more.funcs (body_counts known ps h b.left (whole h.name is_critical b.left b.right) (is_taken known.scope h.name) refl f)))
