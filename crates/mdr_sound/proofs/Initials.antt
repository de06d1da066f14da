-- What an initialiser comes to gives an object its first values (C99 6.7.8).
use Rattle.std.proofs.Common.{◌≡◌, ℕ, ◌<◌, Bool, true, false, List, [], ◌∷◌, map, Option, Some, None, slice_get, refl, sym, ap, ◌∙◌, subst}
use Rattle.mdr_core.specs.declared.place.Place.{Place}
use Rattle.mdr_core.specs.declared.program.Field.{Field}
use Rattle.mdr_core.specs.declared.program.Program.{Program}
use Rattle.mdr_core.specs.declared.program.StructDef.{StructDef}
use Rattle.mdr_core.specs.declared.types.Ty.{Ty, out-Ty}
use Rattle.mdr_core.specs.declared.types.Ty.TheOpen.{Ty-F}
use Rattle.mdr_core.specs.Layout.{Alone, chosen, leaves, leaves_by, fields_of, fields_or, repeated, struct_cells, struct_of}
use Rattle.mdr_core.specs.Sound.{IsCount}
use Rattle.mdr_syntax.specs.declared.tree.Elem.{Elem}
use Rattle.mdr_syntax.specs.declared.tree.FieldName.{FieldName}
use Rattle.mdr_syntax.specs.declared.tree.Init.{Init}
use Rattle.mdr_syntax.specs.declared.tree.Init.TheOpen.{Init-F}
use Rattle.mdr_syntax.specs.declared.tree.Init.TheFolds.{ind-Init, map-Init, fold-roll-Init, fold_out-Elem}
use Rattle.mdr_check.specs.declared.initialiser.First.{First}
use Rattle.mdr_check.specs.declared.variable.Variable.{Variable}
use Rattle.mdr_check.specs.Globals.{first_value}
use Rattle.mdr_check.specs.Initialisers.{Part, part, initial, initial_layer, part_layer, constant_first, null_first, address_named, list_first, list_by, array_first, struct_by, struct_first, suits_struct, part_field, placed_parts, members_first}
use Rattle.mdr_faults.specs.declared.fault.FaultKind.TheVariants.{Mismatch}
use Rattle.mdr_faults.specs.declared.scope.Object.{Object}
use Rattle.mdr_faults.specs.declared.scope.Scope.{Scope}
use Rattle.mdr_faults.specs.declared.scope.StructEntry.{StructEntry}
use Rattle.mdr_faults.specs.Faults.{Checked, Right, after}
use Rattle.mdr_faults.specs.Scopes.{entity_named}
use Rattle.mdr_program.specs.Values.{object_cells, first_values}
use Rattle.mdr_sound.proofs.Rights.{not_right, same_right, demand_right}
use Rattle.mdr_sound.specs.Globals.{StandsAmong}
use Rattle.mdr_sound.proofs.Filled.{fills_as, types_of, repeated_once}
use Rattle.mdr_sound.proofs.Initialised.{IsInitialised, IsSingular, IsGood, AreGood, zeros_initialise, single_initialises, text_initialises, array_initialises}
use Rattle.mdr_sound.proofs.Membered.{AreFields, AreSingular, struct_fills}
use Rattle.mdr_sound.proofs.SingleValues.{constant_single, null_single, address_single}

-- ---- members of structs, as fields of the program

record IsLaid (s : ℕ) (x : Field) : Type 0 where
  lower : (t : ℕ) → struct_of x.ty ≡ Some t → t < s
  count : IsCount x.array x.count

laid_by : (program : Program) (scope : Scope) (vs : List Variable) (s f : ℕ) (x : Field) (def : Option StructDef) → StandsAmong program scope vs → slice_get program.structs s ≡ def → slice_get (fields_or def) f ≡ Some x → IsLaid s x
laid_by program scope vs s f x None k q e = absurd cc
laid_by program scope vs s f x (Some def) k q e = let sound = (k.structs s def q).fields f x e in record { lower = sound.lower; count = sound.count }

members_singular : (program : Program) (scope : Scope) (vs : List Variable) (s : ℕ) (entry : StructEntry) → StandsAmong program scope vs → slice_get scope.structs s ≡ Some entry → AreSingular entry.members
members_singular program scope vs s entry k q = record {
  each = λ f m o names means.
      let known = k.stands.knows.members s f entry m o q names means in
      let laid = laid_by program scope vs s f known.field (slice_get program.structs s) k refl known.names in
      record { count = λ flat. sym known.count ∙ laid.count.single (known.array ∙ flat) };
}

members_are_fields : (program : Program) (scope : Scope) (vs : List Variable) (s : ℕ) (entry : StructEntry) → StandsAmong program scope vs → slice_get scope.structs s ≡ Some entry → AreFields program.structs s entry.members (fields_of program.structs s)
members_are_fields program scope vs s entry k q = record {
  many = k.members s entry q;
  each = λ f m o names means.
      let known = k.stands.knows.members s f entry m o q names means in
      let laid = laid_by program scope vs s f known.field (slice_get program.structs s) k refl known.names in
      record { field = known.field; names = known.names; ty = known.ty; count = known.count; lower = laid.lower };
}

-- ---- lists in braces

struct_object : (structs : List StructDef) (o : Object) (s : ℕ) → o.count ≡ 1 → out-Ty o.ty ≡ Ty-F.Struct s → types_of (object_cells structs o) ≡ types_of (struct_cells structs s)
unfolding leaves
struct_object structs o s one q =
    ap (λ n. types_of (repeated n (leaves (struct_cells structs) Alone o.ty))) one
    ∙ ap types_of (repeated_once (leaves (struct_cells structs) Alone o.ty))
    ∙ ap (λ (l : Ty-F Ty). types_of (leaves_by (struct_cells structs) Alone o.ty l)) q

struct_initialises : (program : Program) (scope : Scope) (vs : List Variable) (own : ℕ) (p : Place) (es : List Part) (o : Object) (s : ℕ) (entry : Option StructEntry) (xs : List First) → StandsAmong program scope vs → AreGood program vs own es → o.count ≡ 1 → out-Ty o.ty ≡ Ty-F.Struct s → slice_get scope.structs s ≡ entry → struct_by p es entry ≡ Right xs → IsInitialised program vs own o xs
unfolding struct_first
struct_initialises program scope vs own p es o s None xs k good one q there e = not_right _ xs e
struct_initialises program scope vs own p es o s (Some entry) xs k good one q there e =
    let test = demand_right p Mismatch (suits_struct part_field entry.members es) (after (placed_parts p entry.members 0 es) (λ parts. members_first parts 0 entry.members)) xs e in
    record {
      by = fills_as program own (types_of (struct_cells program.structs s)) (types_of (object_cells program.structs o)) (first_values program.types program.structs vs xs) (sym (struct_object program.structs o s one q))
          (struct_fills program vs own s p entry.members es xs (members_singular program scope vs s entry k there) good (members_are_fields program scope vs s entry k there) test.right);
    }

list_by_initialises : (program : Program) (scope : Scope) (vs : List Variable) (own : ℕ) (p : Place) (es : List Part) (o : Object) (l : Ty-F Ty) (xs : List First) → StandsAmong program scope vs → AreGood program vs own es → o.count ≡ 1 → out-Ty o.ty ≡ l → list_by scope p es l ≡ Right xs → IsInitialised program vs own o xs
list_by_initialises program scope vs own p es o (Ty-F.Int k) xs known good one q e = not_right _ xs e
list_by_initialises program scope vs own p es o Ty-F.Lock xs known good one q e = not_right _ xs e
list_by_initialises program scope vs own p es o (Ty-F.Struct s) xs known good one q e = struct_initialises program scope vs own p es o s (slice_get scope.structs s) xs known good one q refl e
list_by_initialises program scope vs own p es o (Ty-F.Ptr t) xs known good one q e = not_right _ xs e
list_by_initialises program scope vs own p es o Ty-F.VoidPtr xs known good one q e = not_right _ xs e
list_by_initialises program scope vs own p es o (Ty-F.Fun ts) xs known good one q e = not_right _ xs e
list_by_initialises program scope vs own p es o Ty-F.Void xs known good one q e = not_right _ xs e

braces_by : (program : Program) (scope : Scope) (vs : List Variable) (own : ℕ) (p : Place) (es : List Part) (o : Object) (xs : List First) (b : Bool) → StandsAmong program scope vs → AreGood program vs own es → IsSingular o → o.array ≡ b → list_first scope p es o ≡ Right xs → IsInitialised program vs own o xs
unfolding list_first
braces_by program scope vs own p es o xs true k good singular q e = array_initialises program vs own p o es xs good (subst (λ t. chosen t (array_first p o es) (list_by scope p es (out-Ty o.ty)) ≡ Right xs) q e)
braces_by program scope vs own p es o xs false k good singular q e = list_by_initialises program scope vs own p es o (out-Ty o.ty) xs k good (singular.count q) refl (subst (λ t. chosen t (array_first p o es) (list_by scope p es (out-Ty o.ty)) ≡ Right xs) q e)

-- ---- initialisers

record GoodInit (program : Program) (scope : Scope) (vs : List Variable) (own : ℕ) (p : Place) (x : Init) : Type 0 where
  by : (o : Object) (xs : List First) → IsSingular o → initial scope own p x o ≡ Right xs → IsInitialised program vs own o xs

record GoodElem (program : Program) (scope : Scope) (vs : List Variable) (own : ℕ) (p : Place) (x : Elem) : Type 0 where
  by : IsGood program vs own (part scope own p x)

elems_good : (program : Program) (scope : Scope) (vs : List Variable) (own : ℕ) (p : Place) {X : Type 0} (of : X → Elem) → ((x : X) → GoodElem program scope vs own p (of x)) → (xs : List X) → AreGood program vs own (map (part scope own p) (map of xs))
elems_good program scope vs own p of good [] = tt
elems_good program scope vs own p of good (x ∷ xs) = ((good x).by, elems_good program scope vs own p of good xs)

abbrev Layer : Program → Scope → List Variable → ℕ → Place → Init-F Init Elem → Type 0
Layer program scope vs own p l = (o : Object) (xs : List First) → IsSingular o → initial_layer scope own p (map-Init Init Elem (Object → Checked (List First)) Part (initial scope own p) (part scope own p) l) o ≡ Right xs → IsInitialised program vs own o xs

layer_is : (program : Program) (scope : Scope) (vs : List Variable) (own : ℕ) (p : Place) → StandsAmong program scope vs → {X Y : Type 0} (what : X → Init) (of : Y → Elem) → ((y : Y) → GoodElem program scope vs own p (of y)) → (l : Init-F X Y) → Layer program scope vs own p (map-Init X Y Init Elem what of l)
layer_is program scope vs own p k what of good (Init-F.Const c) o xs singular e = single_initialises program vs own p o (constant_first scope p c o.ty) xs singular (λ x h. constant_single program scope vs own o.ty x p c k.stands.knows h) e
layer_is program scope vs own p k what of good (Init-F.Null at) o xs singular e = single_initialises program vs own p o (null_first p o.ty) xs singular (λ x h. null_single program vs own o.ty x p h) e
layer_is program scope vs own p k what of good (Init-F.Address at name) o xs singular e = single_initialises program vs own p o (address_named own at p o.ty (entity_named scope name)) xs singular (λ x h. address_single program scope vs own o.ty x at p name k.stands.knows k.variables h) e
layer_is program scope vs own p k what of good (Init-F.Text at bytes) o xs singular e = text_initialises program vs own p bytes o xs e
layer_is program scope vs own p k what of good (Init-F.List at es) o xs singular e = braces_by program scope vs own p (map (part scope own p) (map of es)) o xs o.array k (elems_good program scope vs own p of good es) singular refl e

part_good : (program : Program) (scope : Scope) (vs : List Variable) (own : ℕ) (p : Place) (f : Option FieldName) (x : Init) → GoodInit program scope vs own p x → IsGood program vs own (record { field = f; init = initial scope own p x })
part_good program scope vs own p f x good = record { by = λ o xs singular e. good.by o xs singular e }

good_inits : (program : Program) (scope : Scope) (vs : List Variable) (own : ℕ) (p : Place) → StandsAmong program scope vs → (x : Init) → GoodInit program scope vs own p x
good_inits program scope vs own p k = ind-Init (GoodInit program scope vs own p) (GoodElem program scope vs own p)
    (λ x y is. record {
      by = λ o xs singular e. subst (Layer program scope vs own p) is (layer_is program scope vs own p k (λ z. z.0) (λ z. z.0) (λ z. z.1) y) o xs singular
          (sym (ap (λ (f : Object → Checked (List First)). f o) (fold-roll-Init (Object → Checked (List First)) Part (initial_layer scope own p) part_layer x)) ∙ e);
    })
    (λ x y is. record {
      by = subst (IsGood program vs own) (sym (fold_out-Elem (Object → Checked (List First)) Part (initial_layer scope own p) part_layer (record { field = x.field; init = x.init })))
          (part_good program scope vs own p x.field x.init (subst (GoodInit program scope vs own p) (ap (λ z. z.init) is) (y.init.1)));
    })

-- a global's first value, where there is an initialiser and where there is none
pub first_initialises : (program : Program) (scope : Scope) (vs : List Variable) (own : ℕ) (p : Place) (init : Option Init) (o : Object) (xs : List First) → StandsAmong program scope vs → IsSingular o → first_value scope own p init o ≡ Right xs → IsInitialised program vs own o xs
unfolding first_value
first_initialises program scope vs own p None o xs k singular e = subst (IsInitialised program vs own o) (same_right _ xs e) (zeros_initialise program vs own o)
first_initialises program scope vs own p (Some init) o xs k singular e = (good_inits program scope vs own p k init).by o xs singular e
