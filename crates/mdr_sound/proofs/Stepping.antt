-- Steps keep to the rules of sound programs, by their forms.
use Rattle.std.proofs.Common.{◌≡◌, ℕ, List, Option, Some, refl, sym, ◌∙◌, subst}
use Rattle.mdr_rich.specs.declared.code.CallForm.{CallForm}
use Rattle.mdr_rich.specs.declared.code.Expr.{Expr}
use Rattle.mdr_rich.specs.declared.code.Lval.{Lval}
use Rattle.mdr_rich.specs.declared.code.Step.{Step}
use Rattle.mdr_rich.specs.declared.code.Step.TheVariants as step
use Rattle.mdr_core.specs.declared.program.Program.{Program}
use Rattle.mdr_core.specs.declared.types.Ty.{Ty}
use Rattle.mdr_rich.specs.Code.{Goal, Code}
use Rattle.mdr_rich.specs.Folds.{code_of, call_of, goal_of, lvalue_of, term_of}
use Rattle.mdr_core.specs.Typing.{Slot}
use Rattle.mdr_rich.specs.Typing.{GoesTo, IsAssignment, IsTyped, Returns}
use Rattle.mdr_rich.proofs.Coded.{code_is, assign_is, call_is, return_is, return_call_is}
use Rattle.mdr_body.specs.Statements.{stmt}
use Rattle.mdr_sound.specs.Rules.{IsSoundStep}
use Rattle.mdr_sound.proofs.SimpleStatements.{step_is}

module _ (program : Program) (slots : List Slot) (result : Ty) where
  pub assign_sound : (l : Lval) (e : Expr) → IsAssignment program slots (lvalue_of l) (term_of e) → IsSoundStep program slots result (step.Assign l e)
  assign_sound l e h =
      step_is program slots result (step.Assign l e) (λ n. Code.Assign n (lvalue_of l) (term_of e)) (λ n. code_is (stmt n (step.Assign l e)) (step.Assign l e) refl ∙ assign_is n l e)
      (λ n b some. record { numbered = some; right = h })

  pub return_sound : (e : Expr) → Returns program slots result (Some (term_of e)) → IsSoundStep program slots result (step.Return (Some e))
  return_sound e h =
      step_is program slots result (step.Return (Some e)) (λ n. Code.Return n (Some (term_of e))) (λ n. code_is (stmt n (step.Return (Some e))) (step.Return (Some e)) refl ∙ return_is n (Some e))
      (λ n b some. record { numbered = some; right = h })

  -- a step whose code is a call
  by_call : (s : Step) (goal : Goal) (form : CallForm) → ((n : ℕ) → code_of (stmt n s) ≡ Code.Call n goal (call_of form)) → GoesTo program slots result goal (call_of form) → IsSoundStep program slots result s
  by_call s goal form is h n b some = subst (IsTyped program slots result b) (sym (is n)) (record { numbered = some; right = h })

  pub call_sound : (target : Option Lval) (form : CallForm) → GoesTo program slots result (goal_of target) (call_of form) → IsSoundStep program slots result (step.Call target form)
  call_sound target form h = by_call (step.Call target form) (goal_of target) form (λ n. code_is (stmt n (step.Call target form)) (step.Call target form) refl ∙ call_is n target form) h

  pub return_call_sound : (form : CallForm) → GoesTo program slots result Goal.Back (call_of form) → IsSoundStep program slots result (step.ReturnCall form)
  return_call_sound form h = by_call (step.ReturnCall form) Goal.Back form (λ n. code_is (stmt n (step.ReturnCall form)) (step.ReturnCall form) refl ∙ return_call_is n form) h
