-- A global in which no fault is found is sound (C99 6.7, 6.9.2).
use Rattle.std.proofs.Common.{◌≡◌, Bool, ℕ, zero, suc, ◌==◌, not, is_some, List, [], ◌∷◌, Option, Some, Ok, slice_get, refl, sym, ap, ◌∙◌, subst}
use Rattle.mdr_core.specs.declared.program.GlobalDef.{GlobalDef}
use Rattle.mdr_core.specs.declared.program.Program.{Program}
use Rattle.mdr_core.specs.declared.program.StructDef.{StructDef}
use Rattle.mdr_core.specs.declared.types.Ann.{Ann}
use Rattle.mdr_core.specs.declared.types.Ty.{Ty}
use Rattle.mdr_core.specs.Layout.{cells}
use Rattle.mdr_core.specs.Sound.{Annotates, IsCount, IsSoundGlobal}
use Rattle.mdr_syntax.specs.declared.tree.Decl.{Decl, out-Decl}
use Rattle.mdr_syntax.specs.declared.tree.Init.{Init}
use Rattle.mdr_check.specs.declared.initialiser.First.{First}
use Rattle.mdr_check.specs.declared.variable.Variable.{Variable}
use Rattle.mdr_headings.specs.Within.{beside, within}
use Rattle.mdr_sound.proofs.Scoping.{beside_right}
use Rattle.mdr_check.specs.Globals.{behind_global, first_value, global, global_means, global_object, variable, variable_of}
use Rattle.mdr_faults.specs.declared.fault.FaultKind.TheVariants.{Limit, Redefined}
use Rattle.mdr_faults.specs.declared.scope.Entity.{Entity}
use Rattle.mdr_faults.specs.declared.scope.Entity.TheVariants as entity
use Rattle.mdr_faults.specs.declared.scope.Object.{Object}
use Rattle.mdr_faults.specs.declared.scope.Scope.{Scope}
use Rattle.mdr_faults.specs.Faults.{Checked, Right, after, demand, told}
use Rattle.mdr_faults.specs.Scopes.{entity_among}
use Rattle.mdr_headings.specs.Annotations.{annotated}
use Rattle.mdr_headings.specs.Structs.{name_or_none}
use Rattle.mdr_program.specs.Programs.{global_def, global_defs}
use Rattle.mdr_program.specs.Values.{first_values, object_cells}
use Rattle.mdr_sound.specs.Knowing.{IsKnownEntity, IsKnownGlobal}
use Rattle.mdr_sound.proofs.Rights.{same_ok, same_right, after_right, both_right, demand_right}
use Rattle.mdr_sound.specs.Declared.{IsSoundObject, SeesSiblings}
use Rattle.mdr_sound.specs.Globals.{HasVariables, StandsAmong}
use Rattle.mdr_sound.specs.GlobalLaws.{GlobalsAreSound}
use Rattle.mdr_sound.specs.Standing.{Stands}
use Rattle.mdr_sound.proofs.Annotating.{annotation_sound}
use Rattle.mdr_sound.proofs.BehindNames.{stands_behind_name}
use Rattle.mdr_sound.proofs.Filled.{fills_length, fills_each}
use Rattle.mdr_sound.proofs.Initialised.{IsInitialised}
use Rattle.mdr_sound.proofs.Initials.{first_initialises}
use Rattle.mdr_sound.proofs.Objects.{count_is, declared_as, object_sound}

-- what the global's rule found
pub record IsDeclared (scope : Scope) (own : ℕ) (d : Decl) (init : Option Init) (v : Variable) : Type 0 where
  pub object : global_object scope d ≡ Right v.object
  pub annotation : annotated (behind_global scope own d) [] (out-Decl d).place v.object.ty (out-Decl d).ann ≡ Right v.ann
  pub first : first_value (behind_global scope own d) own (out-Decl d).place init v.object ≡ Right v.first

-- a global of this object, with this annotation and these first values
made_of : (scope : Scope) (own : ℕ) (d : Decl) (init : Option Init) (o : Object) (a : Ann) (xs : List First) (v : Variable) → global_object scope d ≡ Right o → annotated (behind_global scope own d) [] (out-Decl d).place o.ty (out-Decl d).ann ≡ Right a → first_value (behind_global scope own d) own (out-Decl d).place init o ≡ Right xs → variable_of (name_or_none (out-Decl d).name) o a xs ≡ Right v → IsDeclared scope own d init v
made_of scope own d init o a xs v object annotation values e =
    let same = same_right (record { name = name_or_none (out-Decl d).name; object = o; ann = a; first = xs }) v e in
    let object_is : o ≡ v.object = ap (λ (w : Variable). w.object) same in
    let ann_is : a ≡ v.ann = ap (λ (w : Variable). w.ann) same in
    let first_is : xs ≡ v.first = ap (λ (w : Variable). w.first) same in
    record {
      object = object ∙ ap Right object_is;
      annotation = ap (λ (x : Object). annotated (behind_global scope own d) [] (out-Decl d).place x.ty (out-Decl d).ann) (sym object_is) ∙ annotation ∙ ap Right ann_is;
      first = ap (first_value (behind_global scope own d) own (out-Decl d).place init) (sym object_is) ∙ values ∙ ap Right first_is;
    }

pub declared : (scope : Scope) (own : ℕ) (d : Decl) (init : Option Init) (v : Variable) → global scope own d init ≡ Right v → IsDeclared scope own d init v
unfolding global variable
declared scope own d init v e =
    let p = (out-Decl d).place in
    let inner = behind_global scope own d in
    let rule = after (global_object scope d) (variable inner own d init) in
    let judged = beside (within scope [] d) rule in
    let new = demand_right p Redefined (not (is_some (entity_among scope.names (name_or_none (out-Decl d).name)))) (demand p Limit (not (own == 1024)) judged) v e in
    let few = demand_right p Limit (not (own == 1024)) judged v new.right in
    let whole = after_right (global_object scope d) (variable inner own d init) v (beside_right (within scope [] d) rule v few.right) in
    let parts = both_right (annotated inner [] p whole.value.ty (out-Decl d).ann) (first_value inner own p init whole.value) (variable_of (name_or_none (out-Decl d).name) whole.value) v whole.made in
    made_of scope own d init whole.value parts.left parts.right v whole.right parts.first parts.second parts.made

-- whatever stands before it, a global has 1 or more elements, and without brackets one
pub global_count : (scope : Scope) (own : ℕ) (d : Decl) (init : Option Init) (v : Variable) → global scope own d init ≡ Right v → IsCount v.object.array v.object.count
global_count scope own d init v e =
    let found = declared scope own d init v e in
    let object = declared_as scope (out-Decl d).place d v.object found.object in
    subst (λ (b : Bool). IsCount b v.object.count) object.array (count_is scope (out-Decl d).place (out-Decl d).size v.object.count object.counted)

kept_global : (program : Program) (scope : Scope) (vs : List Variable) (own : ℕ) (v : Variable) → HasVariables program vs → slice_get vs own ≡ Some v → IsSoundObject program scope v.object → Annotates program [] v.object.ty v.ann → IsInitialised program vs own v.object v.first → IsSoundGlobal program own (global_def program.types program.structs vs v)
unfolding cells
kept_global program scope vs own v has there object annotated values = record {
  sort = object.sort;
  count = object.count;
  small = object.small;
  annotation = annotated;
  in_table = has.in_table own v there;
  each = fills_length program own (object_cells program.structs v.object) (first_values program.types program.structs vs v.first) values.by;
  first = λ i leaf w e f. fills_each program own (object_cells program.structs v.object) (first_values program.types program.structs vs v.first) i leaf w values.by e f;
}

-- ---- behind a global

get_defs : (types : List Ty) (structs : List StructDef) (vs some : List Variable) (g : ℕ) (v : Variable) → slice_get some g ≡ Some v → slice_get (global_defs types structs vs some) g ≡ Some (global_def types structs vs v)
unfolding global_defs
get_defs types structs vs [] g v e = absurd cc
get_defs types structs vs (x ∷ xs) zero v e = let same : x ≡ v = cc in ap (λ (w : Variable). Some (global_def types structs vs w)) same
get_defs types structs vs (x ∷ xs) (suc g) v e = get_defs types structs vs xs g v e

known_global : (program : Program) (scope : Scope) (vs : List Variable) (own : ℕ) (v : Variable) → HasVariables program vs → slice_get vs own ≡ Some v → IsSoundObject program scope v.object → IsKnownGlobal program own v.object
known_global program scope vs own v has there object = record {
  def = global_def program.types program.structs vs v;
  names = ap (λ (ds : List GlobalDef). slice_get ds own) has.globals ∙ get_defs program.types program.structs vs vs own v there;
  ty = refl;
  count = refl;
  array = refl;
  formed = object.sort;
}

known_entity : (program : Program) (own : ℕ) (o : Object) (x : Entity) → IsKnownGlobal program own o → global_means own (Ok o) ≡ Ok x → IsKnownEntity program x
known_entity program own o x known e = subst (IsKnownEntity program) (same_ok (entity.Global own o) x e) known

stands_behind : (program : Program) (scope : Scope) (own : ℕ) (d : Decl) (o : Object) → Stands program scope → IsKnownGlobal program own o → global_object scope d ≡ Right o → Stands program (behind_global scope own d)
unfolding behind_global
stands_behind program scope own d o stands known e = stands_behind_name program scope (name_or_none (out-Decl d).name) (global_means own (told (global_object scope d))) stands
    (λ x q. known_entity program own o x known (subst (λ (c : Checked Object). global_means own (told c) ≡ Ok x) e q))

same_structs : (program : Program) (scope : Scope) (own : ℕ) (d : Decl) (vs : List Variable) → StandsAmong program scope vs → Stands program (behind_global scope own d) → StandsAmong program (behind_global scope own d) vs
unfolding behind_global
same_structs program scope own d vs k stands = record { stands = stands; variables = k.variables; structs = k.structs; members = k.members }

no_siblings : SeesSiblings [] []
no_siblings = record { integers = λ i c e h. absurd cc }

pub sound_globals : GlobalsAreSound
sound_globals program scope own d init vs v k there e =
    let found = declared scope own d init v e in
    let object = object_sound program scope (out-Decl d).place d v.object k.stands found.object in
    let behind = same_structs program scope own d vs k (stands_behind program scope own d v.object k.stands (known_global program scope vs own v k.variables there object) found.object) in
    record {
      sound = kept_global program scope vs own v k.variables there object
          (annotation_sound program (behind_global scope own d) [] [] (out-Decl d).place v.object.ty (out-Decl d).ann v.ann behind.stands no_siblings found.annotation)
          (first_initialises program (behind_global scope own d) vs own (out-Decl d).place init v.object v.first behind (record { count = object.count.single }) found.first);
      behind = behind;
    }
