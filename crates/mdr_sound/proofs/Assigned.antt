-- What is assigned has the type of the object that takes it (C99 6.5.16).
use Rattle.std.specs.Prelude.{◌≡◌, Bool, true, ◌&&◌, List, Option, Some, None, IsTrue, pos}
use Rattle.std.proofs.Common.{inl, inr, refl, subst}
use Rattle.mdr_core.specs.declared.code.BinOp.{BinOp}
use Rattle.mdr_core.specs.declared.code.BinOp.TheVariants.{Add, Sub}
use Rattle.mdr_rich.specs.declared.code.Expr.TheVariants as expr
use Rattle.mdr_rich.specs.declared.code.Lval.{Lval}
use Rattle.mdr_core.specs.declared.kind.Kind.TheVariants.{S32}
use Rattle.mdr_core.specs.declared.place.Place.{Place}
use Rattle.mdr_core.specs.declared.program.Program.{Program}
use Rattle.mdr_core.specs.declared.types.Ty.{Ty, out-Ty}
use Rattle.mdr_core.specs.declared.types.Ty.TheOpen.{Ty-F}
use Rattle.mdr_core.specs.declared.types.Ty.TheVariants as type
use Rattle.mdr_core.specs.declared.value.Value.TheVariants as value
use Rattle.mdr_rich.specs.Folds.{term_of, lvalue_of}
use Rattle.mdr_core.specs.Kinds.{is_in_range}
use Rattle.mdr_core.specs.Types.{is_scalar, is_scalar_by}
use Rattle.mdr_core.specs.Layout.{chosen}
use Rattle.mdr_core.specs.Typing.{Slot}
use Rattle.mdr_rich.specs.Typing.{IsAssignment, IsStepped}
use Rattle.mdr_rich.proofs.Coded as coded
use Rattle.mdr_assign.specs.declared.assignment.Assignment.{Assignment}
use Rattle.mdr_assign.specs.declared.assignment.Destination.{Destination}
use Rattle.mdr_assign.specs.Assignments.{scalar_object, destination_at, given, plain_at, old_value, compound_at, assigned_by, is_compound, left_at, assigned_at, assignment_rule, is_stepped_by, stepped_object, stepped_operand, stepped_place, one, stepped_by, stepped_at, step_rule, bump_by, bump_at, bump_rule}
use Rattle.mdr_binary.specs.Binaries.{calculation_of}
use Rattle.mdr_faults.specs.declared.fault.FaultKind.TheVariants.{Mismatch, NotAnLvalue}
use Rattle.mdr_faults.specs.declared.scope.Scope.{Scope}
use Rattle.mdr_faults.specs.Faults.{Checked, Right}
use Rattle.mdr_operand.specs.declared.operand.Operand.{Operand}
use Rattle.mdr_operand.specs.declared.operand.Operand.TheVariants as operand
use Rattle.mdr_operand.specs.declared.operator.AssignmentOperator.{AssignmentOperator}
use Rattle.mdr_operand.specs.declared.operator.AssignmentOperator.TheVariants.{Plain, Compound}
use Rattle.mdr_operand.specs.declared.room.LocalName.{LocalName}
use Rattle.mdr_operand.specs.Converting.{converted_at}
use Rattle.mdr_operand.specs.Forms.{is_active_operand}
use Rattle.mdr_operand.specs.Written.{Written}
use Rattle.mdr_sound.specs.Operands.{IsKnownObject, IsKnown}
use Rattle.mdr_sound.proofs.Calculated.{calculation_known}
use Rattle.mdr_sound.proofs.Converted.{converted_known}
use Rattle.mdr_sound.proofs.Formed.{formed_scalar}
use Rattle.mdr_sound.proofs.Layers.{int_from, ptr_from}
use Rattle.mdr_sound.proofs.Rights.{not_right, same_right, after_right, both_right, chosen_right, refused_right}
use Rattle.mdr_sound.proofs.Values.{of_term, no_literal, valued_known}

module _ (program : Program) (slots : List Slot) (names : List LocalName) where
  -- ---- the left side

  -- a scalar object
  pub record IsDestination (u : Written) (d : Destination) : Type 0 where
    pub scalar : IsTrue (is_scalar d.ty)
    pub object : IsKnownObject program slots names u d.object d.ty

  scalar_object_known : (p : Place) (u : Written) (l : Lval) (t : Ty) (d : Destination) → IsKnownObject program slots names u l t → scalar_object p l t ≡ Right d → IsDestination u d
  unfolding scalar_object
  scalar_object_known p u l t d h e =
      let c = chosen_right (is_scalar t) (Right (record { object = l; ty = t })) p Mismatch d e in
      subst (IsDestination u) (same_right _ _ c.right) (record { scalar = c.holds; object = h })

  pub destination_known : (p : Place) (u : Written) (x : Operand) (d : Destination) → IsKnown program slots names u x → destination_at p x ≡ Right d → IsDestination u d
  unfolding destination_at
  destination_known p u (operand.Value v) d h e = not_right _ d e
  destination_known p u (operand.Zero k) d h e = not_right _ d e
  destination_known p u operand.Null d h e = not_right _ d e
  destination_known p u (operand.Object l t) d h e = scalar_object_known p u l t d h e
  destination_known p u (operand.Array l t n) d h e = not_right _ d e
  destination_known p u (operand.Function f ts) d h e = not_right _ d e

  -- ---- what it is given

  abbrev IsMade : Assignment → Type 0
  IsMade made = IsAssignment program slots (lvalue_of made.left) (term_of made.right)

  plain_known : (p : Place) (u v : Written) (d : Destination) (y : Operand) (made : Assignment) → IsDestination u d → IsKnown program slots names v y → plain_at p d y ≡ Right made → IsMade made
  unfolding plain_at
  plain_known p u v d y made h i e =
      let a = after_right (converted_at p d.ty y) (given d.object) made e in
      let has = converted_known program slots names v p d.ty y a.value a.right i (formed_scalar program d.ty h.object.formed h.scalar) in
      subst IsMade (same_right _ _ a.made) (record { type = d.ty; scalar = h.scalar; object = h.object.designates; value = has })

  module _ (scope : Scope) (p : Place) where
    compound_known : (u v : Written) (op : BinOp) (d : Destination) (y : Operand) (made : Assignment) → IsDestination u d → IsKnown program slots names v y → compound_at scope p op d y ≡ Right made → IsMade made
    unfolding compound_at
    compound_known u v op d y made h i e =
        let a = after_right (calculation_of scope p op (old_value d) y) (plain_at p d) made e in
        plain_known p u v d a.value made h (calculation_known program slots names v scope p u v op (old_value d) y a.value h.object i a.right) a.made

    assigned_by_known : (u v : Written) (op : Option AssignmentOperator) (d : Destination) (y : Operand) (made : Assignment) → IsDestination u d → IsKnown program slots names v y → assigned_by scope p op d y ≡ Right made → IsMade made
    unfolding assigned_by
    assigned_by_known u v None d y made h i e = not_right _ made e
    assigned_by_known u v (Some Plain) d y made h i e = plain_known p u v d y made h i e
    assigned_by_known u v (Some (Compound op)) d y made h i e = compound_known u v op d y made h i e

    assigned_at_known : (u v : Written) (op : Option AssignmentOperator) (x y : Operand) (made : Assignment) → IsKnown program slots names u x → IsKnown program slots names v y → assigned_at scope p op x y ≡ Right made → IsMade made
    unfolding assigned_at left_at
    assigned_at_known u v op x y made h i e =
        let a = after_right (left_at p op x) (λ d. assigned_by scope p op d y) made e in
        let d = refused_right (is_compound op && is_active_operand x) (destination_at p x) p NotAnLvalue a.value a.right in
        assigned_by_known u v op a.value y made (destination_known p u x a.value h d.right) i a.made

    pub assignment_known : (u v : Written) (op : Option AssignmentOperator) (a b : Checked Operand) (made : Assignment) → ((x : Operand) → a ≡ Right x → IsKnown program slots names u x) → ((y : Operand) → b ≡ Right y → IsKnown program slots names v y) → assignment_rule scope p op a b ≡ Right made → IsMade made
    unfolding assignment_rule
    assignment_known u v op a b made h i e =
        let c = both_right a b (assigned_at scope p op) made e in
        assigned_at_known u v op c.left c.right made (h c.left c.first) (i c.right c.second) c.made

    -- ---- `++` and `--`

    one_known : (v : Written) → IsKnown program slots names v one
    unfolding is_in_range
    one_known v = of_term program slots _ _ (type.Int S32) (coded.lit_is (value.Int S32 (pos 1))) (refl, refl)

    -- what is stepped is a scalar object, of integers or a pointer to objects
    pub record IsSteppedObject (u : Written) (d : Destination) : Type 0 where
      pub object : IsDestination u d
      pub steps : IsStepped d.ty

    stepped_scalar : (t : Ty) (l : Ty-F Ty) → out-Ty t ≡ l → is_stepped_by scope l ≡ true → IsTrue (is_scalar_by l) × IsStepped t
    stepped_scalar t (Ty-F.Int k) is h = (refl, inl (k, int_from t k is))
    stepped_scalar t (Ty-F.Ptr u) is h = (refl, inr (u, ptr_from t u is))
    stepped_scalar t Ty-F.Lock is h = absurd cc
    stepped_scalar t (Ty-F.Struct s) is h = absurd cc
    stepped_scalar t Ty-F.VoidPtr is h = absurd cc
    stepped_scalar t (Ty-F.Fun ts) is h = absurd cc
    stepped_scalar t Ty-F.Void is h = absurd cc

    stepped_operand_known : (u : Written) (x : Operand) (d : Destination) → IsKnown program slots names u x → stepped_operand scope p x ≡ Right d → IsSteppedObject u d
    unfolding stepped_object
    stepped_operand_known u (operand.Value v) d h e = not_right _ d e
    stepped_operand_known u (operand.Zero k) d h e = not_right _ d e
    stepped_operand_known u operand.Null d h e = not_right _ d e
    stepped_operand_known u (operand.Object l t) d h e =
        let c = chosen_right (is_stepped_by scope (out-Ty t)) (Right (record { object = l; ty = t })) p Mismatch d e in
        let s = stepped_scalar t (out-Ty t) refl c.holds in
        subst (IsSteppedObject u) (same_right _ _ c.right) (record { object = record { scalar = s.0; object = h }; steps = s.1 })
    stepped_operand_known u (operand.Array l t n) d h e = not_right _ d e
    stepped_operand_known u (operand.Function f ts) d h e = not_right _ d e

    stepped_place_known : (u : Written) (x : Operand) (d : Destination) → IsKnown program slots names u x → stepped_place scope p x ≡ Right d → IsSteppedObject u d
    unfolding stepped_place
    stepped_place_known u x d h e = stepped_operand_known u x d h (refused_right (is_active_operand x) (stepped_operand scope p x) p NotAnLvalue d e).right

    stepped_by_known : (u : Written) (op : Option Bool) (d : Destination) (made : Assignment) → IsDestination u d → stepped_by scope p op d ≡ Right made → IsMade made
    unfolding stepped_by
    stepped_by_known u None d made h e = not_right _ made e
    stepped_by_known u (Some up) d made h e = compound_known u u (chosen up Add Sub) d one made h (one_known u) e

    pub step_known : (u : Written) (op : Option Bool) (c : Checked Operand) (made : Assignment) → ((x : Operand) → c ≡ Right x → IsKnown program slots names u x) → step_rule scope p op c ≡ Right made → IsMade made
    unfolding step_rule stepped_at
    step_known u op c made h e =
        let a = after_right c (stepped_at scope p op) made e in
        let d = after_right (stepped_place scope p a.value) (stepped_by scope p op) made a.made in
        stepped_by_known u op d.value made (stepped_place_known u a.value d.value (h a.value a.right) d.right).object d.made

    -- as a value
    bump_by_known : (w u : Written) (first : Bool) (op : Option Bool) (d : Destination) (x : Operand) → IsSteppedObject u d → bump_by p first op d ≡ Right x → IsKnown program slots names w x
    unfolding bump_by
    bump_by_known w u first None d x h e = not_right _ x e
    bump_by_known w u first (Some up) d x h e =
        let o = h.object.object in
        let f = formed_scalar program d.ty o.formed h.object.scalar in
        let is = coded.bump_is d.ty up first d.object in
        valued_known program slots names w p d.ty (expr.Bump d.ty up first d.object) x
        (of_term program slots _ _ d.ty is (record { object = o.designates; steps = h.steps; formed = f; is = refl })) (no_literal _ _ is tt) (λ s. f) e

    pub bump_known : (w u : Written) (first : Bool) (op : Option Bool) (c : Checked Operand) (x : Operand) → ((y : Operand) → c ≡ Right y → IsKnown program slots names u y) → bump_rule scope p first op c ≡ Right x → IsKnown program slots names w x
    unfolding bump_rule bump_at
    bump_known w u first op c x h e =
        let a = after_right c (bump_at scope p first op) x e in
        let d = after_right (stepped_place scope p a.value) (bump_by p first op) x a.made in
        bump_by_known w u first op d.value x (stepped_place_known u a.value d.value (h a.value a.right) d.right) d.made
