-- What comparisons give is known: of numbers, of pointers to one type, with null pointer constants, and with a `void *` (C99 6.5.8, 6.5.9).
use Rattle.std.specs.Prelude.{◌≡◌, ◌⊎◌, Bool, true, false, ◌||◌, List, IsTrue, Some}
use Rattle.std.proofs.Common.{inl, inr, refl, sym, subst}
use Rattle.std.proofs.lemmas.Option.{none-some, same_Some}
use Rattle.mdr_rich.specs.declared.code.Expr.{Expr}
use Rattle.mdr_rich.specs.declared.code.Expr.TheVariants as expr
use Rattle.mdr_core.specs.declared.code.RelOp.{RelOp}
use Rattle.mdr_core.specs.declared.code.RelOp.TheVariants.{Eq, Ne, Lt, Le, Gt, Ge}
use Rattle.mdr_core.specs.declared.kind.Kind.{Kind}
use Rattle.mdr_core.specs.declared.kind.Kind.TheVariants.{S32}
use Rattle.mdr_core.specs.declared.place.Place.{Place}
use Rattle.mdr_core.specs.declared.program.Program.{Program}
use Rattle.mdr_core.specs.declared.types.Ty.{Ty, out-Ty}
use Rattle.mdr_core.specs.declared.types.Ty.TheOpen.{Ty-F}
use Rattle.mdr_core.specs.declared.types.Ty.TheVariants as type
use Rattle.mdr_core.specs.Conversions.{common_kind}
use Rattle.mdr_core.specs.Layout.{chosen}
use Rattle.mdr_core.specs.Types.{is_pointer, is_pointer_by, is_object_pointer, is_object_pointer_by}
use Rattle.mdr_core.specs.Typing.{Slot, Compares}
use Rattle.mdr_rich.proofs.Coded as coded
use Rattle.mdr_faults.specs.declared.fault.FaultKind.TheVariants.{Mismatch}
use Rattle.mdr_faults.specs.Faults.{Right}
use Rattle.mdr_operand.specs.declared.operand.Integer.{Integer}
use Rattle.mdr_operand.specs.declared.operand.Operand.{Operand}
use Rattle.mdr_operand.specs.declared.operand.Scalar.{Scalar}
use Rattle.mdr_operand.specs.declared.operand.Scalar.TheVariants as scalar
use Rattle.mdr_operand.specs.declared.room.LocalName.{LocalName}
use Rattle.mdr_operand.specs.Forms.{at_kind, expression_of, integer_at, is_null, needed, null_pointer, scalar_at}
use Rattle.mdr_operand.specs.Written.{Written}
use Rattle.mdr_binary.specs.Binaries.{integers_compared, numbers_compared, address_by, address_at, null_or_address, compared, null_compared, have_one_object, have_one_function, have_one_type, have_one_void, void_of, values_compared, voids_compared, voids_equal, pointers_equal, equality_of_values, has_null, equality, pointers_ordered, order_of_values, order, is_equality, pointers_compared, are_numbers, comparison_of}
use Rattle.mdr_sound.specs.Operands.{IsOf, IsKnownValue, IsKnown}
use Rattle.mdr_sound.proofs.Alike.{alike_same, alikes_same}
use Rattle.mdr_sound.proofs.Rights.{same_right, after_right, both_right, needed_right, chosen_right, refused_right}
use Rattle.mdr_sound.proofs.Values.{of_term, null_known, scalar_known, integer_known, at_kind_known}

-- ---- which types are compared

ptr_pointer : (t : Ty) → IsTrue (is_object_pointer (type.Ptr t))
ptr_pointer t = subst (λ l. IsTrue (is_object_pointer_by l)) (sym (type.outs-Ptr t)) refl

void_ptr_pointer : IsTrue (is_object_pointer type.VoidPtr)
void_ptr_pointer = subst (λ l. IsTrue (is_object_pointer_by l)) (sym type.outs-VoidPtr) refl

fun_pointer : (ts : List Ty) → IsTrue (is_pointer (type.Fun ts))
fun_pointer ts = subst (λ l. IsTrue (is_pointer_by l)) (sym (type.outs-Fun ts)) refl

pointer_layer : (l : Ty-F Ty) → IsTrue (is_object_pointer_by l) → IsTrue (is_pointer_by l)
pointer_layer (Ty-F.Int k) h = h
pointer_layer Ty-F.Lock h = h
pointer_layer (Ty-F.Struct s) h = h
pointer_layer (Ty-F.Ptr t) h = refl
pointer_layer Ty-F.VoidPtr h = refl
pointer_layer (Ty-F.Fun ts) h = refl
pointer_layer Ty-F.Void h = h

-- a pointer to an object is a pointer
object_is_pointer : (t : Ty) → IsTrue (is_object_pointer t) → IsTrue (is_pointer t)
object_is_pointer t h = pointer_layer (out-Ty t) h

-- by equality all pointers, and those to objects by each operator
equals : (op : RelOp) (t : Ty) → is_equality op ≡ true → IsTrue (is_pointer t) → Compares op t
equals Eq t e h = h
equals Ne t e h = h
equals op t e h = absurd cc

orders : (op : RelOp) (t : Ty) → IsTrue (is_object_pointer t) → Compares op t
orders Eq t h = object_is_pointer t h
orders Ne t h = object_is_pointer t h
orders Lt t h = h
orders Le t h = h
orders Gt t h = h
orders Ge t h = h

module _ (program : Program) (slots : List Slot) (names : List LocalName) (w : Written) where
  -- two expressions of one type that an operator compares
  record AreOf (op : RelOp) (e f : Expr) : Type 0 where
    one : Ty
    left : IsOf program slots e one
    right : IsOf program slots f one
    compares : ((k : Kind) × (one ≡ type.Int k)) ⊎ Compares op one

  compared_known : (op : RelOp) (e f : Expr) → AreOf op e f → IsKnown program slots names w (compared op e f)
  compared_known op e f h = of_term program slots _ _ (type.Int S32) (coded.rel_is op e f) (record { type = h.one; left = h.left; right = h.right; compares = h.compares; is = refl })

  -- ---- numbers

  integers_compared_known : (op : RelOp) (m n : Integer) → IsOf program slots m.value (type.Int m.kind) → IsOf program slots n.value (type.Int n.kind) → IsKnown program slots names w (integers_compared op m n)
  unfolding integers_compared
  integers_compared_known op m n h i =
      let k = common_kind m.kind n.kind in
      compared_known op (at_kind k m) (at_kind k n) (record { one = type.Int k; left = at_kind_known program slots k m h; right = at_kind_known program slots k n i; compares = inl (k, refl) })

  -- ---- null pointers

  -- an expression of a type of pointers
  record IsAddress (e : Expr) : Type 0 where
    one : Ty
    pointer : IsTrue (is_pointer one)
    value : IsOf program slots e one

  address_by_known : (v : Scalar) (e : Expr) → IsKnownValue program slots v → address_by v ≡ Some e → IsAddress e
  address_by_known (scalar.Number f k) e h q = absurd (none-some e q)
  address_by_known (scalar.Pointer f t) e h q = subst IsAddress (same_Some _ _ q) (record { one = type.Ptr t; pointer = object_is_pointer (type.Ptr t) (ptr_pointer t); value = h.value })
  address_by_known (scalar.Opaque f) e h q = subst IsAddress (same_Some _ _ q) (record { one = type.VoidPtr; pointer = object_is_pointer type.VoidPtr void_ptr_pointer; value = h })
  address_by_known (scalar.Handle f ts) e h q = subst IsAddress (same_Some _ _ q) (record { one = type.Fun ts; pointer = fun_pointer ts; value = h.value })

  address_known : (p : Place) (u : Written) (x : Operand) (e : Expr) → IsKnown program slots names u x → address_at p x ≡ Right e → IsAddress e
  unfolding address_at
  address_known p u x e h q =
      let a = after_right (scalar_at p x) (λ v. needed p (address_by v)) e q in
      address_by_known a.value e (scalar_known program slots names u p x a.value h a.right) (needed_right p (address_by a.value) e a.made)

  -- a null pointer has each type of pointers
  abbrev IsSide : Bool → Expr → Type 0
  IsSide true e = (t : Ty) → IsTrue (is_pointer t) → IsOf program slots e t
  IsSide false e = IsAddress e

  side_by : (p : Place) (u : Written) (x : Operand) (e : Expr) (b : Bool) → IsKnown program slots names u x → chosen b (Right null_pointer) (address_at p x) ≡ Right e → IsSide b e
  side_by p u x e true h q = λ t pointer. subst (λ f. IsOf program slots f t) (same_right _ _ q) (null_known program slots t pointer)
  side_by p u x e false h q = address_known p u x e h q

  side_known : (p : Place) (u : Written) (x : Operand) (e : Expr) → IsKnown program slots names u x → null_or_address p x ≡ Right e → IsSide (is_null x) e
  unfolding null_or_address
  side_known p u x e h q = side_by p u x e (is_null x) h q

  sides_compare : (op : RelOp) (e f : Expr) (b c : Bool) → is_equality op ≡ true → (b || c) ≡ true → IsSide b e → IsSide c f → AreOf op e f
  sides_compare op e f true true eq some h i =
      let pointer = object_is_pointer type.VoidPtr void_ptr_pointer in
      record { one = type.VoidPtr; left = h type.VoidPtr pointer; right = i type.VoidPtr pointer; compares = inr (equals op type.VoidPtr eq pointer) }
  sides_compare op e f true false eq some h i = record { one = i.one; left = h i.one i.pointer; right = i.value; compares = inr (equals op i.one eq i.pointer) }
  sides_compare op e f false true eq some h i = record { one = h.one; left = h.value; right = i h.one h.pointer; compares = inr (equals op h.one eq h.pointer) }
  sides_compare op e f false false eq some h i = absurd cc

  -- ---- pointers of one type

  object_compares : (op : RelOp) (v w : Scalar) → IsKnownValue program slots v → IsKnownValue program slots w → have_one_object v w ≡ true → AreOf op (expression_of v) (expression_of w)
  object_compares op (scalar.Pointer e t) (scalar.Pointer f u) h i q = record {
    one = type.Ptr t;
    left = h.value;
    right = subst (λ x. IsOf program slots f (type.Ptr x)) (sym (alike_same t u q)) i.value;
    compares = inr (orders op (type.Ptr t) (ptr_pointer t));
  }
  object_compares op (scalar.Opaque e) (scalar.Opaque f) h i q = record { one = type.VoidPtr; left = h; right = i; compares = inr (orders op type.VoidPtr void_ptr_pointer) }
  object_compares op v w h i q = absurd cc

  function_compares : (op : RelOp) (v w : Scalar) → is_equality op ≡ true → IsKnownValue program slots v → IsKnownValue program slots w → have_one_function v w ≡ true → AreOf op (expression_of v) (expression_of w)
  function_compares op (scalar.Handle e ts) (scalar.Handle f us) eq h i q = record {
    one = type.Fun ts;
    left = h.value;
    right = subst (λ x. IsOf program slots f (type.Fun x)) (sym (alikes_same ts us q)) i.value;
    compares = inr (equals op (type.Fun ts) eq (fun_pointer ts));
  }
  function_compares op v w eq h i q = absurd cc

  values_by : (op : RelOp) (v w : Scalar) (b c : Bool) → is_equality op ≡ true → IsKnownValue program slots v → IsKnownValue program slots w → have_one_object v w ≡ b → have_one_function v w ≡ c → (b || c) ≡ true → AreOf op (expression_of v) (expression_of w)
  values_by op v w true c eq h i p q some = object_compares op v w h i p
  values_by op v w false true eq h i p q some = function_compares op v w eq h i q
  values_by op v w false false eq h i p q some = absurd cc

  values_known : (op : RelOp) (u v : Scalar) → AreOf op (expression_of u) (expression_of v) → IsKnown program slots names w (values_compared op u v)
  unfolding values_compared
  values_known op u v h = compared_known op (expression_of u) (expression_of v) h

  -- ---- a pointer and a `void *`

  to_void_known : (e : Expr) (t : Ty) → IsOf program slots e (type.Ptr t) → IsOf program slots (expr.ToVoid e) type.VoidPtr
  to_void_known e t h = of_term program slots _ _ type.VoidPtr (coded.to_void_is e) (record { type = t; pointer = h; is = refl })

  void_compares : (op : RelOp) (v w : Scalar) → IsKnownValue program slots v → IsKnownValue program slots w → have_one_void v w ≡ true → AreOf op (void_of v) (void_of w)
  void_compares op (scalar.Pointer e t) (scalar.Opaque f) h i q = record { one = type.VoidPtr; left = to_void_known e t h.value; right = i; compares = inr (orders op type.VoidPtr void_ptr_pointer) }
  void_compares op (scalar.Opaque e) (scalar.Pointer f u) h i q = record { one = type.VoidPtr; left = h; right = to_void_known f u i.value; compares = inr (orders op type.VoidPtr void_ptr_pointer) }
  void_compares op v w h i q = absurd cc

  voids_known : (op : RelOp) (u v : Scalar) → AreOf op (void_of u) (void_of v) → IsKnown program slots names w (voids_compared op u v)
  unfolding voids_compared
  voids_known op u v h = compared_known op (void_of u) (void_of v) h

  voids_equal_known : (op : RelOp) (p : Place) (u v : Scalar) (z : Operand) → IsKnownValue program slots u → IsKnownValue program slots v → voids_equal op p u v ≡ Right z → IsKnown program slots names w z
  unfolding voids_equal
  voids_equal_known op p u v z h i e =
      let d = chosen_right (have_one_void u v) (Right (voids_compared op u v)) p Mismatch z e in
      subst (IsKnown program slots names w) (same_right _ _ d.right) (voids_known op u v (void_compares op u v h i d.holds))

  -- ---- two values

  pointers_equal_by : (op : RelOp) (p : Place) (u v : Scalar) (z : Operand) (t : Bool) → is_equality op ≡ true → IsKnownValue program slots u → IsKnownValue program slots v → have_one_type u v ≡ t → chosen t (Right (values_compared op u v)) (voids_equal op p u v) ≡ Right z → IsKnown program slots names w z
  pointers_equal_by op p u v z true eq h i one e =
      subst (IsKnown program slots names w) (same_right _ _ e) (values_known op u v (values_by op u v (have_one_object u v) (have_one_function u v) eq h i refl refl one))
  pointers_equal_by op p u v z false eq h i one e = voids_equal_known op p u v z h i e

  pointers_equal_known : (op : RelOp) (p : Place) (u v : Scalar) (z : Operand) → is_equality op ≡ true → IsKnownValue program slots u → IsKnownValue program slots v → pointers_equal op p u v ≡ Right z → IsKnown program slots names w z
  unfolding pointers_equal
  pointers_equal_known op p u v z eq h i e = pointers_equal_by op p u v z (have_one_type u v) eq h i refl e

  pointers_ordered_known : (op : RelOp) (p : Place) (u v : Scalar) (z : Operand) → IsKnownValue program slots u → IsKnownValue program slots v → pointers_ordered op p u v ≡ Right z → IsKnown program slots names w z
  unfolding pointers_ordered
  pointers_ordered_known op p u v z h i e =
      let d = chosen_right (have_one_object u v) (Right (values_compared op u v)) p Mismatch z e in
      subst (IsKnown program slots names w) (same_right _ _ d.right) (values_known op u v (object_compares op u v h i d.holds))

  -- ---- two operands

  module _ (p : Place) (u v : Written) (x y : Operand) (known_left : IsKnown program slots names u x) (known_right : IsKnown program slots names v y) (op : RelOp) (z : Operand) where
    numbers_compared_known : numbers_compared op p x y ≡ Right z → IsKnown program slots names w z
    unfolding numbers_compared
    numbers_compared_known e =
        let b = both_right (integer_at p x) (integer_at p y) (λ m n. Right (integers_compared op m n)) z e in
        subst (IsKnown program slots names w) (same_right _ _ b.made)
        (integers_compared_known op b.left b.right (integer_known program slots names u p x b.left known_left b.first) (integer_known program slots names v p y b.right known_right b.second))

    null_compared_known : is_equality op ≡ true → has_null x y ≡ true → null_compared op p x y ≡ Right z → IsKnown program slots names w z
    unfolding null_compared
    null_compared_known eq some e =
        let b = both_right (null_or_address p x) (null_or_address p y) (λ e f. Right (compared op e f)) z e in
        let left = side_known p u x b.left known_left b.first in
        let right = side_known p v y b.right known_right b.second in
        subst (IsKnown program slots names w) (same_right _ _ b.made)
        (compared_known op b.left b.right (sides_compare op b.left b.right (is_null x) (is_null y) eq some left right))

    equality_of_values_known : is_equality op ≡ true → equality_of_values op p x y ≡ Right z → IsKnown program slots names w z
    unfolding equality_of_values
    equality_of_values_known eq e =
        let b = both_right (scalar_at p x) (scalar_at p y) (pointers_equal op p) z e in
        pointers_equal_known op p b.left b.right z eq (scalar_known program slots names u p x b.left known_left b.first) (scalar_known program slots names v p y b.right known_right b.second) b.made

    order_of_values_known : order_of_values op p x y ≡ Right z → IsKnown program slots names w z
    unfolding order_of_values
    order_of_values_known e =
        let b = both_right (scalar_at p x) (scalar_at p y) (pointers_ordered op p) z e in
        pointers_ordered_known op p b.left b.right z (scalar_known program slots names u p x b.left known_left b.first) (scalar_known program slots names v p y b.right known_right b.second) b.made

    equality_by : (t : Bool) → is_equality op ≡ true → has_null x y ≡ t → chosen t (null_compared op p x y) (equality_of_values op p x y) ≡ Right z → IsKnown program slots names w z
    equality_by true eq some e = null_compared_known eq some e
    equality_by false eq some e = equality_of_values_known eq e

    equality_known : is_equality op ≡ true → equality op p x y ≡ Right z → IsKnown program slots names w z
    unfolding equality
    equality_known eq e = equality_by (has_null x y) eq refl e

    order_known : order op p x y ≡ Right z → IsKnown program slots names w z
    unfolding order
    order_known e = order_of_values_known (refused_right (has_null x y) (order_of_values op p x y) p Mismatch z e).right

    pointers_compared_by : (t : Bool) → is_equality op ≡ t → chosen t (equality op p x y) (order op p x y) ≡ Right z → IsKnown program slots names w z
    pointers_compared_by true eq e = equality_known eq e
    pointers_compared_by false eq e = order_known e

    pointers_compared_known : pointers_compared op p x y ≡ Right z → IsKnown program slots names w z
    unfolding pointers_compared
    pointers_compared_known e = pointers_compared_by (is_equality op) refl e

    comparison_by : (t : Bool) → chosen t (numbers_compared op p x y) (pointers_compared op p x y) ≡ Right z → IsKnown program slots names w z
    comparison_by true e = numbers_compared_known e
    comparison_by false e = pointers_compared_known e

    pub comparison_known : comparison_of op p x y ≡ Right z → IsKnown program slots names w z
    unfolding comparison_of
    comparison_known e = comparison_by (are_numbers x y) e
