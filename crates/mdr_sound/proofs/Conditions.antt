-- What a condition comes to is tested by the rules of sound programs.
use Rattle.std.proofs.Common.{◌≡◌, List, Option, Some, None, refl, subst}
use Rattle.mdr_rich.specs.declared.code.Expr.{Expr}
use Rattle.mdr_core.specs.declared.kind.Kind.TheVariants.{S32}
use Rattle.mdr_core.specs.declared.place.Place.{Place}
use Rattle.mdr_core.specs.declared.program.Program.{Program}
use Rattle.mdr_core.specs.declared.types.Ty.TheVariants as type
use Rattle.mdr_core.specs.Kinds.{is_in_range}
use Rattle.mdr_rich.specs.Folds.{term_of, test_of}
use Rattle.mdr_core.specs.Typing.{Slot, IsCondition}
use Rattle.mdr_rich.specs.Typing.{Has}
use Rattle.mdr_faults.specs.declared.scope.Scope.{Scope}
use Rattle.mdr_faults.specs.Faults.{Right}
use Rattle.mdr_operand.specs.Forms.{condition_at}
use Rattle.mdr_operand.specs.Written.{Written}
use Rattle.mdr_body.specs.declared.here.Here.{Here}
use Rattle.mdr_body.specs.Statements.{Rules, tested, condition, perhaps_condition, some}
use Rattle.mdr_sound.specs.Knowing.{KnowsLocals}
use Rattle.mdr_sound.proofs.Layers.{int_scalar}
use Rattle.mdr_sound.proofs.Rights.{after_right, same_right}
use Rattle.mdr_sound.proofs.Values.{condition_known}
use Rattle.mdr_sound.specs.Rules.{IsRight, AreSoundRules}

module _ (program : Program) (slots : List Slot) (scope : Scope) (rules : Rules) (sound : AreSoundRules program slots scope rules) where
  pub condition_typed : (here : Here) (p : Place) (w : Written) (e : Expr) → KnowsLocals program slots here.names → IsRight here.names w → condition rules scope here p w ≡ Right e → IsCondition (Has program slots (term_of e))
  unfolding condition condition_at
  condition_typed here p w e known right is =
      let a = after_right (rules.typed scope here.names w) (tested p) e is in
      condition_known program slots here.names w p a.value e (sound.typed here.names w a.value known right a.right) a.made

  pub record PerhapsRight (here : Here) (w : Option Written) : Type 0 where
    pub each : (v : Written) → w ≡ Some v → IsRight here.names v

  pub test_typed : (here : Here) (p : Place) (w : Option Written) (e : Option Expr) → KnowsLocals program slots here.names → PerhapsRight here w → perhaps_condition rules scope here p w ≡ Right e → IsCondition (Has program slots (test_of e))
  unfolding perhaps_condition is_in_range
  test_typed here p None e known right is =
      subst (λ x. IsCondition (Has program slots (test_of x))) (same_right None e is) (record { type = type.Int S32; operand = (refl, refl); scalar = int_scalar S32 })
  test_typed here p (Some w) e known right is =
      let a = after_right (condition rules scope here p w) some e is in
      subst (λ x. IsCondition (Has program slots (test_of x))) (same_right _ _ a.made) (condition_typed here p w a.value known (right.each w refl) a.right)
