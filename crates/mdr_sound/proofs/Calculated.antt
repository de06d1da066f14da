-- What operators calculate of two operands is known: numbers of a kind, and pointers moved and subtracted (C99 6.5.5 to 6.5.7, 6.5.10 to 6.5.12).
use Rattle.std.specs.Prelude.{◌≡◌, Bool, true, false, List}
use Rattle.std.proofs.Common.{refl, sym, subst}
use Rattle.mdr_core.specs.declared.code.BinOp.{BinOp}
use Rattle.mdr_core.specs.declared.code.BinOp.TheVariants.{Add, Sub, Mul, Div, Rem, Shl, Shr, BitAnd, BitOr, BitXor}
use Rattle.mdr_rich.specs.declared.code.Expr.{Expr}
use Rattle.mdr_rich.specs.declared.code.Expr.TheVariants as expr
use Rattle.mdr_core.specs.declared.kind.Kind.{Kind}
use Rattle.mdr_core.specs.declared.kind.Kind.TheVariants.{S64}
use Rattle.mdr_core.specs.declared.place.Place.{Place}
use Rattle.mdr_core.specs.declared.program.Program.{Program}
use Rattle.mdr_core.specs.declared.types.Ty.{Ty}
use Rattle.mdr_core.specs.declared.types.Ty.TheVariants as type
use Rattle.mdr_core.specs.Conversions.{common_kind, promoted}
use Rattle.mdr_rich.specs.Folds.{term_of}
use Rattle.mdr_core.specs.Layout.{chosen}
use Rattle.mdr_core.specs.Typing.{Slot, RightOperand}
use Rattle.mdr_rich.specs.Typing.{Has}
use Rattle.mdr_rich.proofs.Coded as coded
use Rattle.mdr_faults.specs.declared.fault.FaultKind.TheVariants.{Mismatch}
use Rattle.mdr_faults.specs.declared.scope.Scope.{Scope}
use Rattle.mdr_faults.specs.Faults.{Right}
use Rattle.mdr_operand.specs.declared.operand.Integer.{Integer}
use Rattle.mdr_operand.specs.declared.operand.Operand.{Operand}
use Rattle.mdr_operand.specs.declared.operand.Pointer.{Pointer}
use Rattle.mdr_operand.specs.declared.room.LocalName.{LocalName}
use Rattle.mdr_operand.specs.Forms.{at_kind, integer_at, is_complete, is_number, pointer_at}
use Rattle.mdr_operand.specs.Written.{Written}
use Rattle.mdr_binary.specs.Binaries.{arithmetic, shifted, calculated, numbers_calculated, moved, moved_pointer, moved_by, distance, have_distance, distance_at, difference, sum, less, pointers_calculated, are_numbers, calculation_of}
use Rattle.mdr_sound.specs.Operands.{IsOf, IsPointer, IsKnown}
use Rattle.mdr_sound.proofs.Rights.{not_right, same_right, both_right, chosen_right}
use Rattle.mdr_sound.proofs.Alike.{left_of, alike_same}
use Rattle.mdr_sound.proofs.Values.{of_term, no_literal, integer_known, pointer_known, at_kind_known}

module _ (program : Program) (slots : List Slot) (names : List LocalName) (w : Written) where
  -- ---- numbers

  -- each operator takes a right operand of its own kind
  right_operand : (op : BinOp) (k : Kind) (b : Ty → Type 0) → b (type.Int k) → RightOperand op k b
  right_operand Add k b h = h
  right_operand Sub k b h = h
  right_operand Mul k b h = h
  right_operand Div k b h = h
  right_operand Rem k b h = h
  right_operand Shl k b h = (k, h)
  right_operand Shr k b h = (k, h)
  right_operand BitAnd k b h = h
  right_operand BitOr k b h = h
  right_operand BitXor k b h = h

  abbrev IsInteger : Integer → Type 0
  IsInteger n = IsOf program slots n.value (type.Int n.kind)

  bin_known : (op : BinOp) (k : Kind) (a b : Expr) → IsOf program slots a (type.Int k) → RightOperand op k (Has program slots (term_of b)) → IsOf program slots (expr.Bin op k a b) (type.Int k)
  bin_known op k a b h i = of_term program slots _ _ (type.Int k) (coded.bin_is op k a b) (record { left = h; right = i; is = refl })

  arithmetic_known : (op : BinOp) (m n : Integer) → IsInteger m → IsInteger n → IsKnown program slots names w (arithmetic op m n)
  unfolding arithmetic
  arithmetic_known op m n h i =
      let k = common_kind m.kind n.kind in
      bin_known op k (at_kind k m) (at_kind k n) (at_kind_known program slots k m h)
      (right_operand op k (Has program slots (term_of (at_kind k n))) (at_kind_known program slots k n i))

  left_shifted_known : (m n : Integer) → IsInteger m → IsInteger n → IsKnown program slots names w (shifted Shl m n)
  unfolding shifted
  left_shifted_known m n h i =
      let k = promoted m.kind in
      let l = promoted n.kind in
      bin_known Shl k (at_kind k m) (at_kind l n) (at_kind_known program slots k m h) (l, at_kind_known program slots l n i)

  right_shifted_known : (m n : Integer) → IsInteger m → IsInteger n → IsKnown program slots names w (shifted Shr m n)
  unfolding shifted
  right_shifted_known m n h i =
      let k = promoted m.kind in
      let l = promoted n.kind in
      bin_known Shr k (at_kind k m) (at_kind l n) (at_kind_known program slots k m h) (l, at_kind_known program slots l n i)

  calculated_known : (op : BinOp) (m n : Integer) → IsInteger m → IsInteger n → IsKnown program slots names w (calculated op m n)
  unfolding calculated
  calculated_known Add m n h i = arithmetic_known Add m n h i
  calculated_known Sub m n h i = arithmetic_known Sub m n h i
  calculated_known Mul m n h i = arithmetic_known Mul m n h i
  calculated_known Div m n h i = arithmetic_known Div m n h i
  calculated_known Rem m n h i = arithmetic_known Rem m n h i
  calculated_known Shl m n h i = left_shifted_known m n h i
  calculated_known Shr m n h i = right_shifted_known m n h i
  calculated_known BitAnd m n h i = arithmetic_known BitAnd m n h i
  calculated_known BitOr m n h i = arithmetic_known BitOr m n h i
  calculated_known BitXor m n h i = arithmetic_known BitXor m n h i

  -- ---- pointers

  moved_known : (back : Bool) (s : Pointer) (n : Integer) → IsPointer program slots s.value s.ty → IsInteger n → IsKnown program slots names w (moved back s n)
  unfolding moved
  moved_known back s n h i = record {
    value = of_term program slots _ _ (type.Ptr s.ty) (coded.move_is back s.value n.value) (record { type = s.ty; kind = n.kind; pointer = h.value; steps = i; is = refl }, h.no_literal);
    formed = h.formed;
    no_literal = no_literal _ _ (coded.move_is back s.value n.value) tt;
  }

  distance_known : (s t : Pointer) → s.ty ≡ t.ty → IsPointer program slots s.value s.ty → IsPointer program slots t.value t.ty → IsKnown program slots names w (distance s t)
  unfolding distance
  distance_known s t same h i =
      let right : IsOf program slots t.value (type.Ptr s.ty) = subst (λ u. IsOf program slots t.value (type.Ptr u)) (sym same) i.value in
      of_term program slots _ _ (type.Int S64) (coded.diff_is s.value t.value) (record { type = s.ty; left = h.value; right = right; is = refl })

  moved_pointer_known : (scope : Scope) (p : Place) (back : Bool) (s : Pointer) (n : Integer) (z : Operand) → IsPointer program slots s.value s.ty → IsInteger n → moved_pointer scope p back s n ≡ Right z → IsKnown program slots names w z
  unfolding moved_pointer
  moved_pointer_known scope p back s n z h i e =
      let d = chosen_right (is_complete scope s.ty) (Right (moved back s n)) p Mismatch z e in
      subst (IsKnown program slots names w) (same_right _ _ d.right) (moved_known back s n h i)

  distance_at_known : (scope : Scope) (p : Place) (s t : Pointer) (z : Operand) → IsPointer program slots s.value s.ty → IsPointer program slots t.value t.ty → distance_at scope p s t ≡ Right z → IsKnown program slots names w z
  unfolding distance_at
  distance_at_known scope p s t z h i e =
      let d = chosen_right (have_distance scope s t) (Right (distance s t)) p Mismatch z e in
      subst (IsKnown program slots names w) (same_right _ _ d.right) (distance_known s t (alike_same s.ty t.ty (left_of _ _ d.holds)) h i)

  -- ---- of two operands

  module _ (scope : Scope) (p : Place) (u v : Written) where
    numbers_calculated_known : (op : BinOp) (x y z : Operand) → IsKnown program slots names u x → IsKnown program slots names v y → numbers_calculated op p x y ≡ Right z → IsKnown program slots names w z
    unfolding numbers_calculated
    numbers_calculated_known op x y z h i e =
        let b = both_right (integer_at p x) (integer_at p y) (λ m n. Right (calculated op m n)) z e in
        subst (IsKnown program slots names w) (same_right _ _ b.made)
        (calculated_known op b.left b.right (integer_known program slots names u p x b.left h b.first) (integer_known program slots names v p y b.right i b.second))

  moved_by_known : (scope : Scope) (p : Place) (back : Bool) (u v : Written) (x y z : Operand) → IsKnown program slots names u x → IsKnown program slots names v y → moved_by scope p back x y ≡ Right z → IsKnown program slots names w z
  unfolding moved_by
  moved_by_known scope p back u v x y z h i e =
      let b = both_right (pointer_at p x) (integer_at p y) (moved_pointer scope p back) z e in
      moved_pointer_known scope p back b.left b.right z (pointer_known program slots names u p x b.left h b.first) (integer_known program slots names v p y b.right i b.second) b.made

  module _ (scope : Scope) (p : Place) (u v : Written) where
    difference_known : (x y z : Operand) → IsKnown program slots names u x → IsKnown program slots names v y → difference scope p x y ≡ Right z → IsKnown program slots names w z
    unfolding difference
    difference_known x y z h i e =
        let b = both_right (pointer_at p x) (pointer_at p y) (distance_at scope p) z e in
        distance_at_known scope p b.left b.right z (pointer_known program slots names u p x b.left h b.first) (pointer_known program slots names v p y b.right i b.second) b.made

    sum_by : (t : Bool) (x y z : Operand) → IsKnown program slots names u x → IsKnown program slots names v y → chosen t (moved_by scope p false x y) (moved_by scope p false y x) ≡ Right z → IsKnown program slots names w z
    sum_by true x y z h i e = moved_by_known scope p false u v x y z h i e
    sum_by false x y z h i e = moved_by_known scope p false v u y x z i h e

    less_by : (t : Bool) (x y z : Operand) → IsKnown program slots names u x → IsKnown program slots names v y → chosen t (moved_by scope p true x y) (difference scope p x y) ≡ Right z → IsKnown program slots names w z
    less_by true x y z h i e = moved_by_known scope p true u v x y z h i e
    less_by false x y z h i e = difference_known x y z h i e

    pointers_calculated_known : (op : BinOp) (x y z : Operand) → IsKnown program slots names u x → IsKnown program slots names v y → pointers_calculated scope p op x y ≡ Right z → IsKnown program slots names w z
    unfolding pointers_calculated sum less
    pointers_calculated_known Add x y z h i e = sum_by (is_number y) x y z h i e
    pointers_calculated_known Sub x y z h i e = less_by (is_number y) x y z h i e
    pointers_calculated_known op x y z h i e = not_right _ z e

    calculation_by : (t : Bool) (op : BinOp) (x y z : Operand) → IsKnown program slots names u x → IsKnown program slots names v y → chosen t (numbers_calculated op p x y) (pointers_calculated scope p op x y) ≡ Right z → IsKnown program slots names w z
    calculation_by true op x y z h i e = numbers_calculated_known scope p u v op x y z h i e
    calculation_by false op x y z h i e = pointers_calculated_known op x y z h i e

    pub calculation_known : (op : BinOp) (x y z : Operand) → IsKnown program slots names u x → IsKnown program slots names v y → calculation_of scope p op x y ≡ Right z → IsKnown program slots names w z
    unfolding calculation_of
    calculation_known op x y z h i e = calculation_by (are_numbers x y) op x y z h i e
