-- What a cast gives is known (C99 6.5.4).
use Rattle.std.specs.Prelude.{◌≡◌, ℕ, true, false, List, Option, Some, None}
use Rattle.std.proofs.Common.{inl, inr, refl, sym, ap, ◌∙◌, subst}
use Rattle.std.proofs.lemmas.Option.{none-some}
use Rattle.mdr_rich.specs.declared.code.Expr.{Expr}
use Rattle.mdr_core.specs.declared.place.Place.{Place}
use Rattle.mdr_core.specs.declared.program.Program.{Program}
use Rattle.mdr_core.specs.declared.types.Ty.{Ty}
use Rattle.mdr_core.specs.declared.types.Ty.TheVariants as type
use Rattle.mdr_core.specs.Types.{is_scalar, is_scalar_by}
use Rattle.mdr_core.specs.Typing.{Slot}
use Rattle.mdr_syntax.specs.declared.tree.Base.{Base}
use Rattle.mdr_faults.specs.declared.scope.Scope.{Scope}
use Rattle.mdr_faults.specs.Declarations.{type_named}
use Rattle.mdr_faults.specs.Faults.{Checked, Right}
use Rattle.mdr_operand.specs.declared.operand.Operand.{Operand}
use Rattle.mdr_operand.specs.declared.operand.Scalar.{Scalar}
use Rattle.mdr_operand.specs.declared.room.LocalName.{LocalName}
use Rattle.mdr_operand.specs.Converting.{cast_as, value_of_type, cast_value, cast_to, cast_rule}
use Rattle.mdr_operand.specs.Forms.{needed, scalar_of}
use Rattle.mdr_operand.specs.Written.{Written}
use Rattle.mdr_sound.specs.Knowing.{IsFormed, Knows}
use Rattle.mdr_sound.specs.Operands.{IsKnownValue, IsKnown}
use Rattle.mdr_sound.proofs.Converted.{cast_known, cast_pointer}
use Rattle.mdr_sound.proofs.Formed.{formed_scalar}
use Rattle.mdr_sound.proofs.Rights.{after_right, both_right, needed_right, same_right}
use Rattle.mdr_sound.proofs.TypesWritten.{IsWritten, type_named_written}
use Rattle.mdr_sound.proofs.Values.{scalar_of_known, scalar_valued}

void_valued : {C : Type 0} (e : Expr) (t : Ty) (v : Scalar) → t ≡ type.Void → scalar_of e t ≡ Some v → C
void_valued e t v is q = let lost : false ≡ true = sym (ap is_scalar is ∙ ap is_scalar_by type.outs-Void) ∙ scalar_valued e t v q in absurd cc

-- so it is formed
valued_formed : (program : Program) (e : Expr) (t : Ty) (v : Scalar) → IsWritten program t → scalar_of e t ≡ Some v → IsFormed program t
valued_formed program e t v (inl f) q = f
valued_formed program e t v (inr is) q = void_valued e t v is q

module _ (program : Program) (slots : List Slot) (names : List LocalName) (w u : Written) where
  cast_by : (t : Ty) (x : Operand) (o : Option Expr) (v : Scalar) → cast_as x t ≡ o → IsWritten program t → IsKnown program slots names u x → value_of_type o t ≡ Some v → IsKnownValue program slots v
  cast_by t x None v is s h q = absurd (none-some v q)
  cast_by t x (Some e) v is s h q =
      let formed = valued_formed program e t v s q in
      scalar_of_known program slots e t v (cast_known program slots names u t x e is h (formed_scalar program t formed (scalar_valued e t v q))) formed (λ y same. cast_pointer program slots names u t y x e same is h) q

  cast_to_known : (p : Place) (t : Ty) (x y : Operand) → IsWritten program t → IsKnown program slots names u x → cast_to p t x ≡ Right y → IsKnown program slots names w y
  unfolding cast_to
  cast_to_known p t x y s h q =
      let a = after_right (needed p (value_of_type (cast_as x t) t)) cast_value y q in
      subst (IsKnown program slots names w) (same_right _ _ a.made) (cast_by t x (cast_as x t) a.value refl s h (needed_right p (value_of_type (cast_as x t) t) a.value a.right))

  pub cast_rule_known : (scope : Scope) (p : Place) (b : Base) (n : ℕ) (c : Checked Operand) (y : Operand) → Knows program scope
      → ((x : Operand) → c ≡ Right x → IsKnown program slots names u x) → cast_rule scope p b n c ≡ Right y → IsKnown program slots names w y
  unfolding cast_rule
  cast_rule_known scope p b n c y k h q =
      let d = both_right (type_named scope b n) c (cast_to p) y q in
      cast_to_known p d.left d.right y (type_named_written program scope k b n d.left d.first) (h d.right d.second) d.made
