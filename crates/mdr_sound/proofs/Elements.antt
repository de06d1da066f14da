-- Elements of what is known are known (C99 6.5.2.1).
use Rattle.std.specs.Prelude.{◌≡◌, ℕ, Bool, true, false, List, length, Some}
use Rattle.std.proofs.Common.{inl, refl, sym, subst}
use Rattle.std.proofs.lemmas.Option.{none-some, same_Some}
use Rattle.mdr_rich.specs.declared.code.Expr.TheVariants as expr
use Rattle.mdr_rich.specs.declared.code.Lval.{Lval}
use Rattle.mdr_core.specs.declared.place.Place.{Place}
use Rattle.mdr_core.specs.declared.program.Program.{Program}
use Rattle.mdr_core.specs.declared.types.Ty.{Ty}
use Rattle.mdr_core.specs.declared.types.Ty.TheVariants as type
use Rattle.mdr_core.specs.Layout.{chosen}
use Rattle.mdr_core.specs.Typing.{Slot, One}
use Rattle.mdr_rich.specs.Typing.{Designates, HasAddress}
use Rattle.mdr_rich.proofs.Coded.{index_is, move_is}
use Rattle.mdr_faults.specs.declared.fault.FaultKind.TheVariants.{Mismatch}
use Rattle.mdr_faults.specs.declared.scope.Scope.{Scope}
use Rattle.mdr_faults.specs.Faults.{Checked, Right}
use Rattle.mdr_operand.specs.declared.operand.Integer.{Integer}
use Rattle.mdr_operand.specs.declared.operand.Operand.{Operand}
use Rattle.mdr_operand.specs.declared.operand.Operand.TheVariants as operand
use Rattle.mdr_operand.specs.declared.operand.Pointer.{Pointer}
use Rattle.mdr_operand.specs.declared.room.LocalName.{LocalName}
use Rattle.mdr_operand.specs.Forms.{integer_at, is_complete, is_number, needed, pointer_at}
use Rattle.mdr_operand.specs.Written.{Written}
use Rattle.mdr_postfix.specs.declared.located.Located.{Located}
use Rattle.mdr_postfix.specs.Subscripts.{is_array, array_of, element_in, element_of_array, element_behind, element_at, element_of_pointer, element_by, element, subscript_of, subscript_rule}
use Rattle.mdr_sound.specs.Operands.{IsOf, IsPointer, IsKnownArray, IsKnown}
use Rattle.mdr_sound.proofs.Layers.{pointer_formed}
use Rattle.mdr_sound.proofs.Prefixes.{deref_known}
use Rattle.mdr_sound.proofs.Rights.{after_right, both_right, needed_right, chosen_right, same_right}
use Rattle.mdr_sound.proofs.Values.{of_term, no_literal, integer_known, pointer_known}

module _ (program : Program) (slots : List Slot) (names : List LocalName) (w : Written) where
  -- an element of an array by its lvalue
  in_array : (i : Integer) (l : Lval) (t : Ty) (n : ℕ) → IsKnownArray program slots l t n → IsOf program slots i.value (type.Int i.kind) → IsKnown program slots names w (element_in i (record { lval = l; ty = t }))
  in_array i l t n h j = record {
    designates = subst (λ d. Designates program slots d (One t)) (sym (index_is l i.value)) (record { type = t; count = n; kind = i.kind; array = h.designates; index = j; is = refl }, pointer_formed (length program.structs) t h.formed);
    formed = h.formed;
    kept = inl (subst HasAddress (sym (index_is l i.value)) h.kept);
  }

  -- an element by a pointer
  behind : (i : Integer) (x : Pointer) → IsPointer program slots x.value x.ty → IsOf program slots i.value (type.Int i.kind) → IsKnown program slots names w (element_behind i x)
  behind i x h j = deref_known program slots names w (expr.Move false x.value i.value) x.ty (record {
    value = of_term program slots _ _ (type.Ptr x.ty) (move_is false x.value i.value) (record { type = x.ty; kind = i.kind; pointer = h.value; steps = j; is = refl }, h.no_literal);
    formed = h.formed;
    no_literal = no_literal _ _ (move_is false x.value i.value) tt;
  })

  -- the array, or the pointer, is what u comes to, and the index what v does
  module _ (u v : Written) where
    in_array_by : (i : Integer) (x : Operand) (l : Located) → IsKnown program slots names u x → IsOf program slots i.value (type.Int i.kind) → array_of x ≡ Some l → IsKnown program slots names w (element_in i l)
    in_array_by i (operand.Value s) l h j e = absurd (none-some l e)
    in_array_by i (operand.Zero k) l h j e = absurd (none-some l e)
    in_array_by i operand.Null l h j e = absurd (none-some l e)
    in_array_by i (operand.Object m t) l h j e = absurd (none-some l e)
    in_array_by i (operand.Array m t n) l h j e = subst (λ l. IsKnown program slots names w (element_in i l)) (same_Some _ _ e) (in_array i m t n h j)
    in_array_by i (operand.Function f ts) l h j e = absurd (none-some l e)

    of_array : (p : Place) (i : Integer) (x y : Operand) → IsKnown program slots names u x → IsOf program slots i.value (type.Int i.kind) → element_of_array p i x ≡ Right y → IsKnown program slots names w y
    unfolding element_of_array
    of_array p i x y h j e =
        let a = after_right (needed p (array_of x)) (λ x. Right (element_in i x)) y e in
        subst (IsKnown program slots names w) (same_right _ _ a.made) (in_array_by i x a.value h j (needed_right p (array_of x) a.value a.right))

    of_pointer : (scope : Scope) (p : Place) (i : Integer) (x y : Operand) → IsKnown program slots names u x → IsOf program slots i.value (type.Int i.kind) → element_of_pointer scope p i x ≡ Right y → IsKnown program slots names w y
    unfolding element_of_pointer element_at
    of_pointer scope p i x y h j e =
        let a = after_right (pointer_at p x) (element_at scope p i) y e in
        let c = chosen_right (is_complete scope a.value.ty) (Right (element_behind i a.value)) p Mismatch y a.made in
        subst (IsKnown program slots names w) (same_right _ _ c.right) (behind i a.value (pointer_known program slots names u p x a.value h a.right) j)

    chosen_by : (b : Bool) (scope : Scope) (p : Place) (i : Integer) (x y : Operand) → IsKnown program slots names u x → IsOf program slots i.value (type.Int i.kind)
        → chosen b (element_of_array p i x) (element_of_pointer scope p i x) ≡ Right y → IsKnown program slots names w y
    chosen_by true scope p i x y h j e = of_array p i x y h j e
    chosen_by false scope p i x y h j e = of_pointer scope p i x y h j e

    element_known : (scope : Scope) (p : Place) (x i y : Operand) → IsKnown program slots names u x → IsKnown program slots names v i → element scope p x i ≡ Right y → IsKnown program slots names w y
    unfolding element element_by
    element_known scope p x i y h j e =
        let a = after_right (integer_at p i) (element_by scope p x) y e in
        chosen_by (is_array x) scope p a.value x y h (integer_known program slots names v p i a.value j a.right) a.made

  -- one side is the index
  either_known : (u v : Written) (b : Bool) (scope : Scope) (p : Place) (x y z : Operand) → IsKnown program slots names u x → IsKnown program slots names v y
      → chosen b (element scope p x y) (element scope p y x) ≡ Right z → IsKnown program slots names w z
  either_known u v true scope p x y z h i e = element_known u v scope p x y z h i e
  either_known u v false scope p x y z h i e = element_known v u scope p y x z i h e

  pub subscript_known : (u v : Written) (scope : Scope) (p : Place) (a b : Checked Operand) (z : Operand) → ((x : Operand) → a ≡ Right x → IsKnown program slots names u x) → ((y : Operand) → b ≡ Right y → IsKnown program slots names v y)
      → subscript_rule scope p a b ≡ Right z → IsKnown program slots names w z
  unfolding subscript_rule subscript_of
  subscript_known u v scope p a b z h i e =
      let c = both_right a b (subscript_of scope p) z e in
      either_known u v (is_number c.right) scope p c.left c.right z (h c.left c.first) (i c.right c.second) c.made
