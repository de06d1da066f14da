-- The values of single constants and addresses (C99 6.6, 6.5.3.2).
use Rattle.std.proofs.Common.{◌≡◌, ℕ, zero, suc, ◌<◌, ◌⊎◌, Bool, true, false, not, ◌&&◌, nat_lt, ◌==◌, IsTrue, List, [], ◌∷◌, Option, Some, None, slice_get, refl, sym, ap, ◌∙◌, subst, inl, inr, arith}
use Rattle.mdr_core.specs.declared.place.Place.{Place}
use Rattle.mdr_core.specs.declared.program.GlobalDef.{GlobalDef}
use Rattle.mdr_core.specs.declared.program.Program.{Program}
use Rattle.mdr_core.specs.declared.program.StructDef.{StructDef}
use Rattle.mdr_core.specs.declared.types.Ty.{Ty, out-Ty}
use Rattle.mdr_core.specs.declared.types.Ty.TheOpen.{Ty-F}
use Rattle.mdr_core.specs.declared.types.Ty.TheVariants as type
use Rattle.mdr_core.specs.declared.value.Value.{Value}
use Rattle.mdr_core.specs.declared.value.Value.TheVariants as value
use Rattle.mdr_core.specs.Conversions.{converted}
use Rattle.mdr_core.specs.Sound.{IsFirstValue, NamesEarlier}
use Rattle.mdr_core.specs.Types.{is_pointer}
use Rattle.mdr_core.specs.Views.{Whole}
use Rattle.mdr_core.proofs.Conversions.{converted-in_range}
use Rattle.mdr_syntax.specs.declared.tree.Const.{Const}
use Rattle.mdr_syntax.specs.declared.tree.Const.TheVariants as const
use Rattle.mdr_check.specs.declared.initialiser.First.{First}
use Rattle.mdr_check.specs.declared.initialiser.First.TheVariants as first
use Rattle.mdr_check.specs.declared.variable.Variable.{Variable}
use Rattle.mdr_check.specs.Initialisers.{null_if, number_first, is_any_pointer_by, null_first, handle_first, entity_first, named_first, constant_first, address_if, address_first, located_first, address_named}
use Rattle.mdr_faults.specs.declared.fault.FaultKind.TheVariants.{Mismatch}
use Rattle.mdr_faults.specs.declared.scope.Constant.{Constant}
use Rattle.mdr_faults.specs.declared.scope.Entity.{Entity}
use Rattle.mdr_faults.specs.declared.scope.Entity.TheVariants as entity
use Rattle.mdr_faults.specs.declared.scope.Named.{Named}
use Rattle.mdr_faults.specs.declared.scope.Object.{Object}
use Rattle.mdr_faults.specs.declared.scope.Scope.{Scope}
use Rattle.mdr_faults.specs.declared.scope.Signature.{Signature}
use Rattle.mdr_faults.specs.Alike.{is_alike, are_alike}
use Rattle.mdr_faults.specs.Declarations.{number_constant}
use Rattle.mdr_faults.specs.Faults.{Right, again}
use Rattle.mdr_faults.specs.Scopes.{entity_named}
use Rattle.mdr_program.specs.Programs.{global_def, global_defs}
use Rattle.mdr_program.specs.Values.{first_cells, address_of, number_in}
use Rattle.mdr_sound.specs.Knowing.{Knows, IsKnownEntity, IsKnownGlobal, IsKnownFunction}
use Rattle.mdr_sound.proofs.Alike.{alike_same, alikes_same, left_of, right_of}
use Rattle.mdr_sound.proofs.Rights.{not_right, same_right, after_right, chosen_right, again_right}
use Rattle.mdr_sound.specs.Globals.{HasVariables}
use Rattle.mdr_sound.proofs.TypeNumbers.{numbered_there}
use Rattle.mdr_sound.proofs.Sorts.{integer_is, pointer_is, void_pointer_is}
use Rattle.mdr_sound.proofs.ZeroFilled.{is_fun, is_pointer_of}

-- one value, for a cell of this type
pub record IsSingle (program : Program) (vs : List Variable) (own : ℕ) (ty : Ty) (x : First) : Type 0 where
  pub value : Value
  pub made : first_cells program.types program.structs vs x ≡ value ∷ []
  pub fits : IsFirstValue program own ty value

-- ---- numbers and null pointers

null_known : (program : Program) (vs : List Variable) (own : ℕ) (ty : Ty) (x : First) (p : Place) (test : Bool) → (test ≡ true → IsTrue (is_pointer ty)) → null_if p test ≡ Right x → IsSingle program vs own ty x
null_known program vs own ty x p true h e = subst (IsSingle program vs own ty) (same_right first.Null x e) (record { value = value.Null; made = refl; fits = h refl })
null_known program vs own ty x p false h e = not_right _ x e

pub number_known : (program : Program) (vs : List Variable) (own : ℕ) (ty : Ty) (x : First) (p : Place) (is_null : Bool) (c : Constant) (l : Ty-F Ty) → out-Ty ty ≡ l → number_first p is_null c l ≡ Right x → IsSingle program vs own ty x
number_known program vs own ty x p is_null c (Ty-F.Int k) q e = subst (IsSingle program vs own ty) (same_right (first.Integer k (converted k c.number)) x e) (record { value = value.Int k (converted k c.number); made = refl; fits = (integer_is ty k q, converted-in_range k c.number) })
number_known program vs own ty x p is_null c Ty-F.Lock q e = not_right _ x e
number_known program vs own ty x p is_null c (Ty-F.Struct s) q e = not_right _ x e
number_known program vs own ty x p is_null c (Ty-F.Ptr t) q e = null_known program vs own ty x p is_null (λ h. is_pointer_of ty (Ty-F.Ptr t) q refl) e
number_known program vs own ty x p is_null c Ty-F.VoidPtr q e = null_known program vs own ty x p is_null (λ h. is_pointer_of ty Ty-F.VoidPtr q refl) e
number_known program vs own ty x p is_null c (Ty-F.Fun ts) q e = null_known program vs own ty x p is_null (λ h. is_pointer_of ty (Ty-F.Fun ts) q refl) e
number_known program vs own ty x p is_null c Ty-F.Void q e = not_right _ x e

any_pointer : (ty : Ty) (l : Ty-F Ty) → out-Ty ty ≡ l → is_any_pointer_by l ≡ true → IsTrue (is_pointer ty)
any_pointer ty (Ty-F.Int k) q h = absurd cc
any_pointer ty Ty-F.Lock q h = absurd cc
any_pointer ty (Ty-F.Struct s) q h = absurd cc
any_pointer ty (Ty-F.Ptr t) q h = is_pointer_of ty (Ty-F.Ptr t) q refl
any_pointer ty Ty-F.VoidPtr q h = is_pointer_of ty Ty-F.VoidPtr q refl
any_pointer ty (Ty-F.Fun ts) q h = is_pointer_of ty (Ty-F.Fun ts) q refl
any_pointer ty Ty-F.Void q h = absurd cc

pub null_single : (program : Program) (vs : List Variable) (own : ℕ) (ty : Ty) (x : First) (p : Place) → null_first p ty ≡ Right x → IsSingle program vs own ty x
null_single program vs own ty x p e = null_known program vs own ty x p (is_any_pointer_by (out-Ty ty)) (any_pointer ty (out-Ty ty) refl) e

-- ---- functions

handle_known : (program : Program) (vs : List Variable) (own : ℕ) (ty : Ty) (x : First) (p : Place) (s : Signature) (l : Ty-F Ty) → IsKnownFunction program s → out-Ty ty ≡ l → handle_first p s l ≡ Right x → IsSingle program vs own ty x
handle_known program vs own ty x p s (Ty-F.Int k) known q e = not_right _ x e
handle_known program vs own ty x p s Ty-F.Lock known q e = not_right _ x e
handle_known program vs own ty x p s (Ty-F.Struct n) known q e = not_right _ x e
handle_known program vs own ty x p s (Ty-F.Ptr t) known q e = not_right _ x e
handle_known program vs own ty x p s Ty-F.VoidPtr known q e = not_right _ x e
handle_known program vs own ty x p s (Ty-F.Fun ts) known q e =
    let found = chosen_right (are_alike ts (s.result ∷ s.params)) (Right (first.Function s.number)) p Mismatch x e in
    let types : ts ≡ s.result ∷ s.params = alikes_same ts (s.result ∷ s.params) found.holds in
    subst (IsSingle program vs own ty) (same_right (first.Function s.number) x found.right)
    (record { value = value.Fn s.number; made = refl; fits = (known.func, known.names, is_fun ty ts q ∙ ap type.Fun types ∙ sym known.types) })
handle_known program vs own ty x p s Ty-F.Void known q e = not_right _ x e

-- ---- addresses

record IsDefinedBy (types : List Ty) (structs : List StructDef) (vs some : List Variable) (g : ℕ) (def : GlobalDef) : Type 0 where
  variable : Variable
  names : slice_get some g ≡ Some variable
  is : global_def types structs vs variable ≡ def

defined_by : (types : List Ty) (structs : List StructDef) (vs some : List Variable) (g : ℕ) (def : GlobalDef) → slice_get (global_defs types structs vs some) g ≡ Some def → IsDefinedBy types structs vs some g def
unfolding global_defs
defined_by types structs vs [] g def e = absurd cc
defined_by types structs vs (v ∷ rest) zero def e = record { variable = v; names = refl; is = cc }
defined_by types structs vs (v ∷ rest) (suc g) def e = let found = defined_by types structs vs rest g def e in record { variable = found.variable; names = found.names; is = found.is }

-- an earlier global that is no array
record IsEarlier (program : Program) (vs : List Variable) (own g : ℕ) (o : Object) : Type 0 where
  earlier : g < own
  def : GlobalDef
  names : slice_get program.globals g ≡ Some def
  ty : def.ty ≡ o.ty
  single : def.count ≡ 1
  variable : Variable
  varies : slice_get vs g ≡ Some variable
  number : slice_get program.types (number_in program.types variable.object.ty) ≡ Some o.ty

earlier_known : (program : Program) (vs : List Variable) (own g : ℕ) (o : Object) → HasVariables program vs → IsKnownGlobal program g o → (nat_lt g own && not o.array) ≡ true → IsEarlier program vs own g o
earlier_known program vs own g o has known test =
    let before : nat_lt g own ≡ true = left_of (nat_lt g own) (not o.array) test in
    let no_array : not o.array ≡ true = right_of (nat_lt g own) (not o.array) test in
    let found = defined_by program.types program.structs vs vs g known.def (subst (λ (ds : List GlobalDef). slice_get ds g ≡ Some known.def) has.globals known.names) in
    let types : found.variable.object.ty ≡ known.def.ty = ap (λ (d : GlobalDef). d.ty) found.is in
    let counts : found.variable.object.count ≡ known.def.count = ap (λ (d : GlobalDef). d.count) found.is in
    let arrays : found.variable.object.array ≡ known.def.array = ap (λ (d : GlobalDef). d.array) found.is in
    let flat : o.array ≡ false = grind arith in
    let table = has.in_table g found.variable found.names in
    record {
      earlier = grind arith;
      def = known.def;
      names = known.names;
      ty = known.ty;
      single = sym counts ∙ (has.counts g found.variable found.names).single (arrays ∙ known.array ∙ flat);
      variable = found.variable;
      varies = found.names;
      number = numbered_there program.types found.variable.object.ty table.number table.names ∙ ap Some (types ∙ known.ty);
    }

names_earlier : (program : Program) (vs : List Variable) (own g : ℕ) (o : Object) (ty : Ty) → IsEarlier program vs own g o → (ty ≡ type.Ptr o.ty) ⊎ (ty ≡ type.VoidPtr) → NamesEarlier program own ty (address_of program.types g (slice_get vs g))
names_earlier program vs own g o ty k fits = subst (λ (v : Option Variable). NamesEarlier program own ty (address_of program.types g v)) (sym k.varies) (record {
  no_slot = refl;
  earlier = k.earlier;
  def = k.def;
  names = k.names;
  part = Whole 0 k.def.ty k.def.count refl (k.number ∙ ap Some (sym k.ty)) (sym k.single);
  inside = omega arith;
  target = o.ty;
  viewed = k.number;
  fits = fits;
})

address_if_known : (program : Program) (vs : List Variable) (own g : ℕ) (ty : Ty) (x : First) (p : Place) (test : Bool) → (test ≡ true → NamesEarlier program own ty (address_of program.types g (slice_get vs g))) → address_if p g test ≡ Right x → IsSingle program vs own ty x
address_if_known program vs own g ty x p true h e = subst (IsSingle program vs own ty) (same_right (first.Address g) x e) (record { value = value.Ptr (address_of program.types g (slice_get vs g)); made = refl; fits = h refl })
address_if_known program vs own g ty x p false h e = not_right _ x e

address_known : (program : Program) (vs : List Variable) (own g : ℕ) (o : Object) (ty : Ty) (x : First) (p : Place) (l : Ty-F Ty) → HasVariables program vs → IsKnownGlobal program g o → out-Ty ty ≡ l → address_first p (nat_lt g own && not o.array) g o l ≡ Right x → IsSingle program vs own ty x
address_known program vs own g o ty x p (Ty-F.Int k) has known q e = not_right _ x e
address_known program vs own g o ty x p Ty-F.Lock has known q e = not_right _ x e
address_known program vs own g o ty x p (Ty-F.Struct s) has known q e = not_right _ x e
address_known program vs own g o ty x p (Ty-F.Ptr t) has known q e =
    address_if_known program vs own g ty x p ((nat_lt g own && not o.array) && is_alike t o.ty)
    (λ h. names_earlier program vs own g o ty (earlier_known program vs own g o has known (left_of (nat_lt g own && not o.array) (is_alike t o.ty) h))
    (inl (pointer_is ty t q ∙ ap type.Ptr (alike_same t o.ty (right_of (nat_lt g own && not o.array) (is_alike t o.ty) h)))))
    e
address_known program vs own g o ty x p Ty-F.VoidPtr has known q e =
    address_if_known program vs own g ty x p (nat_lt g own && not o.array)
    (λ h. names_earlier program vs own g o ty (earlier_known program vs own g o has known h) (inr (void_pointer_is ty q)))
    e
address_known program vs own g o ty x p (Ty-F.Fun ts) has known q e = not_right _ x e
address_known program vs own g o ty x p Ty-F.Void has known q e = not_right _ x e

-- ---- names

entity_known : (program : Program) (vs : List Variable) (own : ℕ) (ty : Ty) (x : First) (p : Place) (n : Entity) → IsKnownEntity program n → entity_first p ty n ≡ Right x → IsSingle program vs own ty x
entity_known program vs own ty x p (entity.Constant c) known e = number_known program vs own ty x p false c (out-Ty ty) refl e
entity_known program vs own ty x p (entity.Global g o) known e = not_right _ x e
entity_known program vs own ty x p (entity.Function s) known e = handle_known program vs own ty x p s (out-Ty ty) known refl e

located_known : (program : Program) (vs : List Variable) (own : ℕ) (ty : Ty) (x : First) (p : Place) (n : Entity) → HasVariables program vs → IsKnownEntity program n → located_first own p ty n ≡ Right x → IsSingle program vs own ty x
located_known program vs own ty x p (entity.Constant c) has known e = not_right _ x e
located_known program vs own ty x p (entity.Global g o) has known e = address_known program vs own g o ty x p (out-Ty ty) has known refl e
located_known program vs own ty x p (entity.Function s) has known e = handle_known program vs own ty x p s (out-Ty ty) known refl e

named_known : (program : Program) (scope : Scope) (vs : List Variable) (own : ℕ) (ty : Ty) (x : First) (at p : Place) (name : List ℕ) (o : Option Named) → Knows program scope → entity_named scope name ≡ o → named_first at p ty o ≡ Right x → IsSingle program vs own ty x
named_known program scope vs own ty x at p name None knows q e = not_right _ x e
named_known program scope vs own ty x at p name (Some entry) knows q e =
    let found = after_right (again entry.means) (entity_first p ty) x e in
    entity_known program vs own ty x p found.value (knows.entities name entry found.value q (again_right entry.means found.value found.right)) found.made

address_named_known : (program : Program) (scope : Scope) (vs : List Variable) (own : ℕ) (ty : Ty) (x : First) (at p : Place) (name : List ℕ) (o : Option Named) → Knows program scope → HasVariables program vs → entity_named scope name ≡ o → address_named own at p ty o ≡ Right x → IsSingle program vs own ty x
address_named_known program scope vs own ty x at p name None knows has q e = not_right _ x e
address_named_known program scope vs own ty x at p name (Some entry) knows has q e =
    let found = after_right (again entry.means) (located_first own p ty) x e in
    located_known program vs own ty x p found.value has (knows.entities name entry found.value q (again_right entry.means found.value found.right)) found.made

pub constant_single : (program : Program) (scope : Scope) (vs : List Variable) (own : ℕ) (ty : Ty) (x : First) (p : Place) (c : Const) → Knows program scope → constant_first scope p c ty ≡ Right x → IsSingle program vs own ty x
constant_single program scope vs own ty x p (const.Number at is_negative n k) knows e = number_known program vs own ty x p (not is_negative && (n == 0)) (number_constant is_negative n k) (out-Ty ty) refl e
constant_single program scope vs own ty x p (const.Name at name) knows e = named_known program scope vs own ty x at p name (entity_named scope name) knows refl e

pub address_single : (program : Program) (scope : Scope) (vs : List Variable) (own : ℕ) (ty : Ty) (x : First) (at p : Place) (name : List ℕ) → Knows program scope → HasVariables program vs → address_named own at p ty (entity_named scope name) ≡ Right x → IsSingle program vs own ty x
address_single program scope vs own ty x at p name knows has e = address_named_known program scope vs own ty x at p name (entity_named scope name) knows has refl e
