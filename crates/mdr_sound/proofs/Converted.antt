-- A known operand as a value of another type has that type.
use Rattle.std.specs.Prelude.{◌≡◌, Bool, true, false, List, length, Option, Some, None}
use Rattle.std.proofs.Common.{refl, ap, sym, ◌∙◌, subst}
use Rattle.std.proofs.lemmas.Option.{none-some, same_Some}
use Rattle.mdr_rich.specs.declared.code.Expr.{Expr}
use Rattle.mdr_core.specs.declared.kind.Kind.{Kind}
use Rattle.mdr_core.specs.declared.place.Place.{Place}
use Rattle.mdr_core.specs.declared.program.Program.{Program}
use Rattle.mdr_core.specs.declared.types.Ty.{Ty, out-Ty}
use Rattle.mdr_core.specs.declared.types.Ty.TheOpen.{Ty-F}
use Rattle.mdr_core.specs.declared.types.Ty.TheVariants as type
use Rattle.mdr_core.specs.Layout.{chosen}
use Rattle.mdr_core.specs.Types.{Scalar as ScalarSort, is_pointer_by, sort_of}
use Rattle.mdr_core.specs.Typing.{Slot}
use Rattle.mdr_rich.specs.Folds.{term_of}
use Rattle.mdr_rich.specs.Typing.{IsNoLiteral}
use Rattle.mdr_rich.proofs.Coded.{to_void_is, from_void_is}
use Rattle.mdr_faults.specs.Alike.{is_alike, are_alike}
use Rattle.mdr_faults.specs.Faults.{Right}
use Rattle.mdr_operand.specs.declared.operand.Operand.{Operand}
use Rattle.mdr_operand.specs.declared.operand.Scalar.{Scalar}
use Rattle.mdr_operand.specs.declared.operand.Scalar.TheVariants as scalar
use Rattle.mdr_operand.specs.declared.room.LocalName.{LocalName}
use Rattle.mdr_operand.specs.Converting.{number_as, pointer_as, opaque_as, handle_as, scalar_as, null_by, null_as, value_as, first_of, cast_as, constant_as, operand_as, converted_at}
use Rattle.mdr_operand.specs.Forms.{value_of, is_null}
use Rattle.mdr_operand.specs.Written.{Written}
use Rattle.mdr_sound.specs.Operands.{IsOf, IsPointer, IsHandle, IsKnownValue, IsKnown}
use Rattle.mdr_sound.proofs.Alike.{alike_same, alikes_same}
use Rattle.mdr_sound.proofs.Layers.{int_from, ptr_from, void_ptr_from, fun_from}
use Rattle.mdr_sound.proofs.Rights.{needed_right}
use Rattle.mdr_sound.proofs.Values.{of_term, no_literal, value_known, at_kind_known, null_known}

-- what is chosen beside nothing
record Taken {A : Type 0} (test : Bool) (x y : A) : Type 0 where
  holds : test ≡ true
  same : x ≡ y

taken : {A : Type 0} (test : Bool) (x y : A) → chosen test (Some x) None ≡ Some y → Taken test x y
taken true x y e = record { holds = refl; same = same_Some _ _ e }
taken false x y e = absurd (none-some y e)

module _ (program : Program) (slots : List Slot) where
  abbrev Scalars : Ty → Type 0
  Scalars t = sort_of (length program.structs) t ≡ ScalarSort

  -- ---- values of a type as values of another, by the level of that

  number_known : (d : Expr) (k : Kind) (t : Ty) (l : Ty-F Ty) (e : Expr) → out-Ty t ≡ l → IsOf program slots d (type.Int k) → number_as d k l ≡ Some e → IsOf program slots e t
  number_known d k t (Ty-F.Int m) e is h q =
      subst (IsOf program slots e) (sym (int_from t m is)) (subst (λ x. IsOf program slots x (type.Int m)) (same_Some _ _ q) (at_kind_known program slots m (record { value = d; kind = k }) h))
  number_known d k t Ty-F.Lock e is h q = absurd (none-some e q)
  number_known d k t (Ty-F.Struct s) e is h q = absurd (none-some e q)
  number_known d k t (Ty-F.Ptr u) e is h q = absurd (none-some e q)
  number_known d k t Ty-F.VoidPtr e is h q = absurd (none-some e q)
  number_known d k t (Ty-F.Fun ts) e is h q = absurd (none-some e q)
  number_known d k t Ty-F.Void e is h q = absurd (none-some e q)

  pointed_known : (d : Expr) (u t : Ty) (l : Ty-F Ty) (e : Expr) → out-Ty t ≡ l → IsPointer program slots d u → pointer_as d u l ≡ Some e → IsOf program slots e t
  pointed_known d u t (Ty-F.Ptr v) e is h q =
      let c = taken (is_alike u v) d e q in
      subst (IsOf program slots e) (sym (ptr_from t v is)) (subst (λ x. IsOf program slots e (type.Ptr x)) (alike_same u v c.holds) (subst (λ x. IsOf program slots x (type.Ptr u)) c.same h.value))
  pointed_known d u t Ty-F.VoidPtr e is h q =
      subst (IsOf program slots e) (sym (void_ptr_from t is)) (subst (λ x. IsOf program slots x type.VoidPtr) (same_Some _ _ q)
      (of_term program slots _ _ type.VoidPtr (to_void_is d) (record { type = u; pointer = h.value; is = refl })))
  pointed_known d u t (Ty-F.Int m) e is h q = absurd (none-some e q)
  pointed_known d u t Ty-F.Lock e is h q = absurd (none-some e q)
  pointed_known d u t (Ty-F.Struct s) e is h q = absurd (none-some e q)
  pointed_known d u t (Ty-F.Fun ts) e is h q = absurd (none-some e q)
  pointed_known d u t Ty-F.Void e is h q = absurd (none-some e q)

  opaque_known : (d : Expr) (t : Ty) (l : Ty-F Ty) (e : Expr) → out-Ty t ≡ l → Scalars t → IsOf program slots d type.VoidPtr → opaque_as d l ≡ Some e → IsOf program slots e t
  opaque_known d t (Ty-F.Ptr u) e is f h q =
      let same : t ≡ type.Ptr u = ptr_from t u is in
      subst (IsOf program slots e) (sym same) (subst (λ x. IsOf program slots x (type.Ptr u)) (same_Some _ _ q)
      (of_term program slots _ _ (type.Ptr u) (from_void_is u d) (record { pointer = h; formed = subst Scalars same f; is = refl })))
  opaque_known d t Ty-F.VoidPtr e is f h q = subst (IsOf program slots e) (sym (void_ptr_from t is)) (subst (λ x. IsOf program slots x type.VoidPtr) (same_Some _ _ q) h)
  opaque_known d t (Ty-F.Int m) e is f h q = absurd (none-some e q)
  opaque_known d t Ty-F.Lock e is f h q = absurd (none-some e q)
  opaque_known d t (Ty-F.Struct s) e is f h q = absurd (none-some e q)
  opaque_known d t (Ty-F.Fun ts) e is f h q = absurd (none-some e q)
  opaque_known d t Ty-F.Void e is f h q = absurd (none-some e q)

  handle_known : (d : Expr) (ts : List Ty) (t : Ty) (l : Ty-F Ty) (e : Expr) → out-Ty t ≡ l → IsHandle program slots d ts → handle_as d ts l ≡ Some e → IsOf program slots e t
  handle_known d ts t (Ty-F.Fun us) e is h q =
      let c = taken (are_alike ts us) d e q in
      subst (IsOf program slots e) (sym (fun_from t us is)) (subst (λ x. IsOf program slots e (type.Fun x)) (alikes_same ts us c.holds) (subst (λ x. IsOf program slots x (type.Fun ts)) c.same h.value))
  handle_known d ts t (Ty-F.Int m) e is h q = absurd (none-some e q)
  handle_known d ts t Ty-F.Lock e is h q = absurd (none-some e q)
  handle_known d ts t (Ty-F.Struct s) e is h q = absurd (none-some e q)
  handle_known d ts t (Ty-F.Ptr u) e is h q = absurd (none-some e q)
  handle_known d ts t Ty-F.VoidPtr e is h q = absurd (none-some e q)
  handle_known d ts t Ty-F.Void e is h q = absurd (none-some e q)

  -- a known value as one of a type that is formed
  pub scalar_as_known : (v : Scalar) (t : Ty) (e : Expr) → Scalars t → IsKnownValue program slots v → scalar_as v t ≡ Some e → IsOf program slots e t
  unfolding scalar_as
  scalar_as_known (scalar.Number d k) t e f h q = number_known d k t (out-Ty t) e refl h q
  scalar_as_known (scalar.Pointer d u) t e f h q = pointed_known d u t (out-Ty t) e refl h q
  scalar_as_known (scalar.Opaque d) t e f h q = opaque_known d t (out-Ty t) e refl f h q
  scalar_as_known (scalar.Handle d ts) t e f h q = handle_known d ts t (out-Ty t) e refl h q

  -- a null pointer as one
  null_by_known : (t : Ty) (l : Ty-F Ty) (e : Expr) → out-Ty t ≡ l → null_by l ≡ Some e → IsOf program slots e t
  null_by_known t (Ty-F.Ptr u) e is q = subst (λ x. IsOf program slots x t) (same_Some _ _ q) (null_known program slots t (ap is_pointer_by is))
  null_by_known t Ty-F.VoidPtr e is q = subst (λ x. IsOf program slots x t) (same_Some _ _ q) (null_known program slots t (ap is_pointer_by is))
  null_by_known t (Ty-F.Fun ts) e is q = subst (λ x. IsOf program slots x t) (same_Some _ _ q) (null_known program slots t (ap is_pointer_by is))
  null_by_known t (Ty-F.Int m) e is q = absurd (none-some e q)
  null_by_known t Ty-F.Lock e is q = absurd (none-some e q)
  null_by_known t (Ty-F.Struct s) e is q = absurd (none-some e q)
  null_by_known t Ty-F.Void e is q = absurd (none-some e q)

  pub null_as_known : (t : Ty) (e : Expr) → null_as t ≡ Some e → IsOf program slots e t
  unfolding null_as
  null_as_known t e q = null_by_known t (out-Ty t) e refl q

  -- ---- operands

  module _ (names : List LocalName) (w : Written) where
    value_as_known : (x : Operand) (t : Ty) (e : Expr) (o : Option Scalar) → value_of x ≡ o → Scalars t → IsKnown program slots names w x → value_as o t ≡ Some e → IsOf program slots e t
    value_as_known x t e None is f h q = absurd (none-some e q)
    value_as_known x t e (Some v) is f h q = scalar_as_known v t e f (value_known program slots names w x v h is) q

    pub cast_known : (t : Ty) (x : Operand) (e : Expr) → cast_as x t ≡ Some e → IsKnown program slots names w x → Scalars t → IsOf program slots e t
    unfolding cast_as
    cast_known t x e q h f = value_as_known x t e (value_of x) refl f h q

    -- a cast to a pointer to objects gives no literal
    value_pointer : (t u : Ty) (v : Scalar) (e : Expr) → t ≡ type.Ptr u → IsKnownValue program slots v → scalar_as v t ≡ Some e → IsNoLiteral (term_of e)
    unfolding scalar_as
    value_pointer t u (scalar.Number d k) e is h q = absurd (none-some e (subst (λ l. number_as d k l ≡ Some e) (ap out-Ty is ∙ type.outs-Ptr u) q))
    value_pointer t u (scalar.Pointer d o) e is h q =
        let c = taken (is_alike o u) d e (subst (λ l. pointer_as d o l ≡ Some e) (ap out-Ty is ∙ type.outs-Ptr u) q) in
        subst (λ x. IsNoLiteral (term_of x)) c.same h.no_literal
    value_pointer t u (scalar.Opaque d) e is h q =
        subst (λ x. IsNoLiteral (term_of x)) (same_Some _ _ (subst (λ l. opaque_as d l ≡ Some e) (ap out-Ty is ∙ type.outs-Ptr u) q)) (no_literal _ _ (from_void_is u d) tt)
    value_pointer t u (scalar.Handle d ts) e is h q = absurd (none-some e (subst (λ l. handle_as d ts l ≡ Some e) (ap out-Ty is ∙ type.outs-Ptr u) q))

    pointer_by : (t u : Ty) (x : Operand) (e : Expr) (o : Option Scalar) → value_of x ≡ o → t ≡ type.Ptr u → IsKnown program slots names w x → value_as o t ≡ Some e → IsNoLiteral (term_of e)
    pointer_by t u x e None at is h q = absurd (none-some e q)
    pointer_by t u x e (Some v) at is h q = value_pointer t u v e is (value_known program slots names w x v h at) q

    pub cast_pointer : (t u : Ty) (x : Operand) (e : Expr) → t ≡ type.Ptr u → cast_as x t ≡ Some e → IsKnown program slots names w x → IsNoLiteral (term_of e)
    unfolding cast_as
    cast_pointer t u x e is q h = pointer_by t u x e (value_of x) refl is h q

    first_known : (t : Ty) (x : Operand) (e : Expr) (o : Option Expr) → null_as t ≡ o → first_of o (cast_as x t) ≡ Some e → IsKnown program slots names w x → Scalars t → IsOf program slots e t
    first_known t x e None is q h f = cast_known t x e q h f
    first_known t x e (Some d) is q h f = null_as_known t e (is ∙ q)

    constant_known : (t : Ty) (x : Operand) (e : Expr) → constant_as x t ≡ Some e → IsKnown program slots names w x → Scalars t → IsOf program slots e t
    unfolding constant_as
    constant_known t x e q h f = first_known t x e (null_as t) refl q h f

    chosen_known : (b : Bool) (t : Ty) (x : Operand) (e : Expr) → chosen b (constant_as x t) (cast_as x t) ≡ Some e → IsKnown program slots names w x → Scalars t → IsOf program slots e t
    chosen_known true t x e q h f = constant_known t x e q h f
    chosen_known false t x e q h f = cast_known t x e q h f

    pub operand_known : (t : Ty) (x : Operand) (e : Expr) → operand_as x t ≡ Some e → IsKnown program slots names w x → Scalars t → IsOf program slots e t
    unfolding operand_as
    operand_known t x e q h f = chosen_known (is_null x) t x e q h f

    pub converted_known : (p : Place) (t : Ty) (x : Operand) (e : Expr) → converted_at p t x ≡ Right e → IsKnown program slots names w x → Scalars t → IsOf program slots e t
    unfolding converted_at
    converted_known p t x e q h f = operand_known t x e (needed_right p (operand_as x t) e q) h f
