-- The value of what is known is known, with its type.
use Rattle.std.specs.Prelude.{◌≡◌, Bool, true, false, List, length, Some, None, IsTrue, pos}
use Rattle.std.proofs.Common.{inl, refl, sym, subst}
use Rattle.std.proofs.lemmas.Option.{none-some, same_Some}
use Rattle.mdr_rich.specs.declared.code.Expr.{Expr}
use Rattle.mdr_rich.specs.declared.code.Expr.TheVariants as expr
use Rattle.mdr_rich.specs.declared.code.Lval.{Lval}
use Rattle.mdr_core.specs.declared.kind.Kind.{Kind}
use Rattle.mdr_core.specs.declared.place.Place.{Place}
use Rattle.mdr_core.specs.declared.program.Program.{Program}
use Rattle.mdr_core.specs.declared.types.Ty.{Ty, out-Ty}
use Rattle.mdr_core.specs.declared.types.Ty.TheOpen.{Ty-F}
use Rattle.mdr_core.specs.declared.types.Ty.TheVariants as type
use Rattle.mdr_core.specs.declared.value.Value.TheVariants as value
use Rattle.mdr_rich.specs.Code.{Term}
use Rattle.mdr_rich.specs.Folds.{term_of}
use Rattle.mdr_core.specs.Kinds.{is_in_range, is_same_kind}
use Rattle.mdr_core.specs.Layout.{chosen}
use Rattle.mdr_core.specs.Types.{is_scalar, is_scalar_by, is_pointer, is_pointer_by}
use Rattle.mdr_core.specs.Typing.{Slot, IsCondition}
use Rattle.mdr_rich.specs.Typing.{Has, IsScalar, IsNoLiteral}
use Rattle.mdr_rich.proofs.Coded.{lit_is, load_is, decay_is, conv_is}
use Rattle.mdr_core.proofs.Ranges.{in_range-from, least-le-zero, zero-le-greatest}
use Rattle.mdr_faults.specs.Faults.{Right}
use Rattle.mdr_operand.specs.declared.operand.Integer.{Integer}
use Rattle.mdr_operand.specs.declared.operand.Operand.{Operand}
use Rattle.mdr_operand.specs.declared.operand.Operand.TheVariants as operand
use Rattle.mdr_operand.specs.declared.operand.Pointer.{Pointer}
use Rattle.mdr_operand.specs.declared.operand.Scalar.{Scalar}
use Rattle.mdr_operand.specs.declared.operand.Scalar.TheVariants as scalar
use Rattle.mdr_operand.specs.declared.room.LocalName.{LocalName}
use Rattle.mdr_operand.specs.Forms.{scalar_by, scalar_of, scalar_type, null_pointer, value_of, value_type, value_at, expression_of, needed, scalar_at, integer_by, integer_at, condition_at, pointer_by, pointer_at, at_kind}
use Rattle.mdr_operand.specs.Written.{Written}
use Rattle.mdr_sound.specs.Knowing.{IsFormed}
use Rattle.mdr_sound.specs.Operands.{IsOf, IsPointer, IsKnownValue, IsKnownObject, IsKnown}
use Rattle.mdr_sound.proofs.Alike.{kinds_exact}
use Rattle.mdr_sound.proofs.Formed.{formed_scalar}
use Rattle.mdr_sound.proofs.Layers.{sort_int, sort_void_ptr, pointer_formed, function_formed, int_from, ptr_from, void_ptr_from, fun_from, pointed_formed, int_scalar, ptr_scalar, void_ptr_scalar, fun_scalar}
use Rattle.mdr_sound.proofs.Rights.{after_right, needed_right, same_right}

pub type_scalar : (v : Scalar) → IsTrue (is_scalar (scalar_type v))
type_scalar (scalar.Number e k) = int_scalar k
type_scalar (scalar.Pointer e t) = ptr_scalar t
type_scalar (scalar.Opaque e) = void_ptr_scalar
type_scalar (scalar.Handle e ts) = fun_scalar ts

-- a type of which there are values is scalar
scalar_layer : (e : Expr) (l : Ty-F Ty) (v : Scalar) → scalar_by e l ≡ Some v → is_scalar_by l ≡ true
scalar_layer e (Ty-F.Int k) v q = refl
scalar_layer e Ty-F.Lock v q = absurd (none-some v q)
scalar_layer e (Ty-F.Struct s) v q = absurd (none-some v q)
scalar_layer e (Ty-F.Ptr t) v q = refl
scalar_layer e Ty-F.VoidPtr v q = refl
scalar_layer e (Ty-F.Fun ts) v q = refl
scalar_layer e Ty-F.Void v q = absurd (none-some v q)

pub scalar_valued : (e : Expr) (t : Ty) (v : Scalar) → scalar_of e t ≡ Some v → is_scalar t ≡ true
unfolding scalar_of
scalar_valued e t v q = scalar_layer e (out-Ty t) v q

-- what isn't a literal by its plain data
pub no_literal : (e : Expr) (d : Term) → term_of e ≡ d → IsNoLiteral d → IsNoLiteral (term_of e)
no_literal e d is h = subst IsNoLiteral (sym is) h

-- 0 is a number of each kind
pub zero_in_range : (k : Kind) → is_in_range k (pos 0) ≡ true
zero_in_range k = in_range-from k (pos 0) (least-le-zero k) (zero-le-greatest k)

module _ (program : Program) (slots : List Slot) where
  -- an expression has a type if its plain data has
  pub of_term : (e : Expr) (d : Term) (t : Ty) → term_of e ≡ d → Has program slots d t → IsOf program slots e t
  of_term e d t is h = subst (λ x. Has program slots x t) (sym is) h

  -- ---- a value's own type

  pub value_has : (v : Scalar) → IsKnownValue program slots v → IsOf program slots (expression_of v) (scalar_type v)
  value_has (scalar.Number e k) h = h
  value_has (scalar.Pointer e t) h = h.value
  value_has (scalar.Opaque e) h = h
  value_has (scalar.Handle e ts) h = h.value

  -- a value is compared with 0
  pub value_tested : (v : Scalar) → IsKnownValue program slots v → IsCondition (Has program slots (term_of (expression_of v)))
  value_tested v h = record { type = scalar_type v; operand = value_has v h; scalar = type_scalar v }

  -- ---- a value of a type

  -- what points isn't a literal
  abbrev pub PointsByNone : Expr → Ty → Type 0
  PointsByNone e t = (u : Ty) → t ≡ type.Ptr u → IsNoLiteral (term_of e)

  scalar_by_known : (e : Expr) (t : Ty) (l : Ty-F Ty) (v : Scalar) → out-Ty t ≡ l → (IsTrue (is_scalar_by l) → IsOf program slots e t) → IsFormed program t → PointsByNone e t → scalar_by e l ≡ Some v → IsKnownValue program slots v
  scalar_by_known e t (Ty-F.Int k) v is h f n q = subst (IsKnownValue program slots) (same_Some _ _ q) (subst (IsOf program slots e) (int_from t k is) (h refl))
  scalar_by_known e t Ty-F.Lock v is h f n q = absurd (none-some v q)
  scalar_by_known e t (Ty-F.Struct s) v is h f n q = absurd (none-some v q)
  scalar_by_known e t (Ty-F.Ptr u) v is h f n q =
      let same : t ≡ type.Ptr u = ptr_from t u is in
      subst (IsKnownValue program slots) (same_Some _ _ q) (record {
        value = subst (IsOf program slots e) same (h refl);
        formed = pointed_formed (length program.structs) u (subst (IsFormed program) same f);
        no_literal = n u same;
      })
  scalar_by_known e t Ty-F.VoidPtr v is h f n q = subst (IsKnownValue program slots) (same_Some _ _ q) (subst (IsOf program slots e) (void_ptr_from t is) (h refl))
  scalar_by_known e t (Ty-F.Fun ts) v is h f n q =
      let same : t ≡ type.Fun ts = fun_from t ts is in
      subst (IsKnownValue program slots) (same_Some _ _ q) (record {
        value = subst (IsOf program slots e) same (h refl);
        formed = function_formed (length program.structs) ts (subst (IsFormed program) same f);
      })
  scalar_by_known e t Ty-F.Void v is h f n q = absurd (none-some v q)

  -- an expression of a type that is formed, as a value
  pub scalar_of_known : (e : Expr) (t : Ty) (v : Scalar) → IsOf program slots e t → IsFormed program t → PointsByNone e t → scalar_of e t ≡ Some v → IsKnownValue program slots v
  unfolding scalar_of
  scalar_of_known e t v h f n q = scalar_by_known e t (out-Ty t) v refl (λ s. h) f n q

  -- ---- constants

  pub zero_known : (k : Kind) → IsOf program slots (expr.Lit (value.Int k (pos 0))) (type.Int k)
  zero_known k = of_term _ _ (type.Int k) (lit_is (value.Int k (pos 0))) (refl, zero_in_range k)

  -- a null pointer of any pointer type
  pub null_known : (t : Ty) → IsTrue (is_pointer t) → IsOf program slots null_pointer t
  null_known t h = of_term _ _ t (lit_is value.Null) h

  pub null_opaque : IsOf program slots null_pointer type.VoidPtr
  null_opaque = null_known type.VoidPtr (subst (λ l. IsTrue (is_pointer_by l)) (sym type.outs-VoidPtr) refl)

  -- ---- the value of an operand

  module _ (names : List LocalName) (w : Written) where
    pub loaded_known : (l : Lval) (t : Ty) (v : Scalar) → IsKnownObject program slots names w l t → scalar_of (expr.Load l) t ≡ Some v → IsKnownValue program slots v
    unfolding scalar_of
    loaded_known l t v h q = scalar_by_known (expr.Load l) t (out-Ty t) v refl (λ s. of_term _ _ t (load_is l) (record { object = h.designates; scalar = s }, formed_scalar program t h.formed s)) h.formed (λ u e. no_literal _ _ (load_is l) tt) q

    pub value_known : (x : Operand) (v : Scalar) → IsKnown program slots names w x → value_of x ≡ Some v → IsKnownValue program slots v
    unfolding value_of
    value_known (operand.Value u) v h q = subst (IsKnownValue program slots) (same_Some _ _ q) h
    value_known (operand.Zero k) v h q = subst (IsKnownValue program slots) (same_Some _ _ q) (zero_known k)
    value_known operand.Null v h q = subst (IsKnownValue program slots) (same_Some _ _ q) null_opaque
    value_known (operand.Object l t) v h q = loaded_known l t v h q
    value_known (operand.Array l t n) v h q = subst (IsKnownValue program slots) (same_Some _ _ q) (record {
      value = of_term _ _ (type.Ptr t) (decay_is l) (record { type = t; count = n; array = h.designates; is = refl }, pointer_formed (length program.structs) t h.formed);
      formed = h.formed;
      no_literal = no_literal _ _ (decay_is l) tt;
    })
    value_known (operand.Function f ts) v h q = subst (IsKnownValue program slots) (same_Some _ _ q) (record {
      value = of_term _ _ (type.Fun ts) (lit_is (value.Fn f)) (h.func, h.names, sym h.types);
      formed = h.formed;
    })

    -- ---- its type

    same_type : (t u : Ty) → IsScalar program t → Some t ≡ Some u → IsScalar program u
    same_type t u h q = subst (IsScalar program) (same_Some _ _ q) h

    object_type : (b : Bool) (t u : Ty) → is_scalar t ≡ b → IsFormed program t → chosen b (Some t) None ≡ Some u → IsScalar program u
    object_type true t u is f q = same_type t u (formed_scalar program t f is) q
    object_type false t u is f q = absurd (none-some u q)

    pub type_known : (x : Operand) (t : Ty) → IsKnown program slots names w x → value_type x ≡ Some t → IsScalar program t
    type_known (operand.Value (scalar.Number e k)) t h q = same_type _ t (sort_int (length program.structs) k) q
    type_known (operand.Value (scalar.Pointer e u)) t h q = same_type _ t (pointer_formed (length program.structs) u h.formed) q
    type_known (operand.Value (scalar.Opaque e)) t h q = same_type _ t (sort_void_ptr (length program.structs)) q
    type_known (operand.Value (scalar.Handle e ts)) t h q = same_type _ t h.formed q
    type_known (operand.Zero k) t h q = same_type _ t (sort_int (length program.structs) k) q
    type_known operand.Null t h q = same_type _ t (sort_void_ptr (length program.structs)) q
    type_known (operand.Object l u) t h q = object_type (is_scalar u) u t refl h.formed q
    type_known (operand.Array l u n) t h q = same_type _ t (pointer_formed (length program.structs) u h.formed) q
    type_known (operand.Function f ts) t h q = same_type _ t h.formed q

    -- a value of a type that is no literal
    pub valued_known : (p : Place) (t : Ty) (e : Expr) (x : Operand) → IsOf program slots e t → IsNoLiteral (term_of e) → (IsTrue (is_scalar t) → IsScalar program t) → value_at p t e ≡ Right x → IsKnown program slots names w x
    unfolding value_at
    valued_known p t e x h n f q =
        let a = after_right (needed p (scalar_of e t)) (λ v. Right (operand.Value v)) x q in
        let v = needed_right p (scalar_of e t) a.value a.right in
        subst (IsKnown program slots names w) (same_right _ _ a.made) (scalar_of_known e t a.value h (inl (f (scalar_valued e t a.value v))) (λ u is. n) v)

    -- ---- an operand of a form

    pub scalar_known : (p : Place) (x : Operand) (v : Scalar) → IsKnown program slots names w x → scalar_at p x ≡ Right v → IsKnownValue program slots v
    unfolding scalar_at
    scalar_known p x v h q = value_known x v h (needed_right p (value_of x) v q)

    integer_by_known : (v : Scalar) (n : Integer) → IsKnownValue program slots v → integer_by v ≡ Some n → IsOf program slots n.value (type.Int n.kind)
    integer_by_known (scalar.Number e k) n h q = subst (λ (m : Integer). IsOf program slots m.value (type.Int m.kind)) (same_Some _ _ q) h
    integer_by_known (scalar.Pointer e t) n h q = absurd (none-some n q)
    integer_by_known (scalar.Opaque e) n h q = absurd (none-some n q)
    integer_by_known (scalar.Handle e ts) n h q = absurd (none-some n q)

    pub integer_known : (p : Place) (x : Operand) (n : Integer) → IsKnown program slots names w x → integer_at p x ≡ Right n → IsOf program slots n.value (type.Int n.kind)
    unfolding integer_at
    integer_known p x n h q =
        let a = after_right (scalar_at p x) (λ v. needed p (integer_by v)) n q in
        integer_by_known a.value n (scalar_known p x a.value h a.right) (needed_right p (integer_by a.value) n a.made)

    pointer_by_known : (v : Scalar) (q : Pointer) → IsKnownValue program slots v → pointer_by v ≡ Some q → IsPointer program slots q.value q.ty
    pointer_by_known (scalar.Number e k) n h q = absurd (none-some n q)
    pointer_by_known (scalar.Pointer e t) n h q = subst (λ (m : Pointer). IsPointer program slots m.value m.ty) (same_Some _ _ q) h
    pointer_by_known (scalar.Opaque e) n h q = absurd (none-some n q)
    pointer_by_known (scalar.Handle e ts) n h q = absurd (none-some n q)

    pub pointer_known : (p : Place) (x : Operand) (n : Pointer) → IsKnown program slots names w x → pointer_at p x ≡ Right n → IsPointer program slots n.value n.ty
    unfolding pointer_at
    pointer_known p x n h q =
        let a = after_right (scalar_at p x) (λ v. needed p (pointer_by v)) n q in
        pointer_by_known a.value n (scalar_known p x a.value h a.right) (needed_right p (pointer_by a.value) n a.made)

    pub condition_known : (p : Place) (x : Operand) (e : Expr) → IsKnown program slots names w x → condition_at p x ≡ Right e → IsCondition (Has program slots (term_of e))
    unfolding condition_at
    condition_known p x e h q =
        let a = after_right (scalar_at p x) (λ v. Right (expression_of v)) e q in
        subst (λ y. IsCondition (Has program slots (term_of y))) (same_right _ _ a.made) (value_tested a.value (scalar_known p x a.value h a.right))

  -- ---- integers converted

  pub at_kind_known : (k : Kind) (n : Integer) → IsOf program slots n.value (type.Int n.kind) → IsOf program slots (at_kind k n) (type.Int k)
  unfolding at_kind
  at_kind_known k n h = by (is_same_kind k n.kind) refl
    where
      by : (b : Bool) → is_same_kind k n.kind ≡ b → IsOf program slots (at_kind k n) (type.Int k)
      by true e = rw e (subst (λ l. IsOf program slots n.value (type.Int l)) (sym (kinds_exact k n.kind e)) h)
      by false e = rw e (of_term _ _ (type.Int k) (conv_is k n.value) (record { from = n.kind; operand = h; is = refl }))
