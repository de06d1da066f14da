-- Calls and choices as parts of expressions.
use Rattle.std.proofs.Common.{◌≡◌, IfOk, List, map, Result, sym, ap, subst, ◌∙◌}
use Rattle.mdr_core.specs.declared.place.Place.{Place}
use Rattle.mdr_syntax.specs.declared.tree.Form.{Form}
use Rattle.mdr_syntax.specs.declared.tree.FormWhat.{FormWhat}
use Rattle.mdr_syntax.specs.declared.tree.FormWhat.TheVariants as form
use Rattle.mdr_syntax.specs.declared.tree.FormWhat.TheVariants.{rolls-Call, rolls-Choice}
use Rattle.mdr_syntax.specs.declared.tree.FormWhat.TheOpen.{FormWhat-F}
use Rattle.mdr_syntax.specs.declared.tree.FormWhat.TheFolds.{fold-roll-FormWhat}
use Rattle.mdr_faults.specs.declared.fault.Fault.{Fault}
use Rattle.mdr_faults.specs.declared.scope.Scope.{Scope}
use Rattle.mdr_faults.specs.Faults.{Checked, told, after}
use Rattle.mdr_operand.specs.declared.operand.Operand.{Operand}
use Rattle.mdr_operand.specs.declared.room.LocalName.{LocalName}
use Rattle.mdr_operand.specs.Written.{Written, form_written, what_written, written_list, written_of, written_what}
use Rattle.mdr_binary.specs.Choices.{choice_rule}
use Rattle.mdr_call.specs.Calls.{call_rule, call_value}
use Rattle.mdr_express.specs.Expressions.{arguments_of, target_of, typed}

pub call_written : (f : Form) (args : List Form) (p : Place) → written_what (form.Call f args) p ≡ Written.Call p (written_of f) (written_list (map written_of args))
call_written f args p = ap (λ (w : FormWhat). written_what w p) (sym (rolls-Call f args)) ∙ ap (λ (k : Place → Written). k p) (fold-roll-FormWhat (Place → Written) Written what_written form_written (FormWhat-F.Call f args))

-- what a call of this form with these arguments comes to
abbrev pub Comes : {E : Type 0} → Scope → List LocalName → Place → Result (Result Operand Fault) E → Form → List Form → Type 0
Comes scope locals p made f args = IfOk made (λ r. r ≡ told (after (call_rule scope p (target_of scope locals (written_of f)) (arguments_of scope locals (written_list (map written_of args)))) (call_value p)))

pub call_comes : {E : Type 0} (scope : Scope) (locals : List LocalName) (p : Place) (what : FormWhat) (f g : Form) (args given : List Form) (made : Result (Result Operand Fault) E) → what ≡ form.Call f args → g ≡ f → given ≡ args → Comes scope locals p made g given → IfOk made (λ r. r ≡ told (typed scope locals (written_what what p)))
call_comes scope locals p what f g args given made is same listed h =
    subst (λ (w : Written). IfOk made (λ r. r ≡ told (typed scope locals w))) (sym (ap (λ (x : FormWhat). written_what x p) is ∙ call_written f args p))
    (subst (Comes scope locals p made f) listed (subst (λ (x : Form). Comes scope locals p made x given) same h))

pub choice_written : (c a b : Form) (p : Place) → written_what (form.Choice c a b) p ≡ Written.Choice p (written_of c) (written_of a) (written_of b)
choice_written c a b p = ap (λ (w : FormWhat). written_what w p) (sym (rolls-Choice c a b)) ∙ ap (λ (k : Place → Written). k p) (fold-roll-FormWhat (Place → Written) Written what_written form_written (FormWhat-F.Choice c a b))

abbrev pub chosen_among : Scope → List LocalName → Place → (test one other : Form) → Checked Operand
chosen_among scope locals p c a b = choice_rule p (typed scope locals (written_of c)) (typed scope locals (written_of a)) (typed scope locals (written_of b))

pub choice_comes : {E : Type 0} (scope : Scope) (locals : List LocalName) (p : Place) (what : FormWhat) (c a b c' a' b' : Form) (made : Result (Result Operand Fault) E) → what ≡ form.Choice c a b → c' ≡ c → a' ≡ a → b' ≡ b → IfOk made (λ r. r ≡ told (chosen_among scope locals p c' a' b')) → IfOk made (λ r. r ≡ told (typed scope locals (written_what what p)))
choice_comes scope locals p what c a b c' a' b' made is tested one other h =
    let same : chosen_among scope locals p c' a' b' ≡ chosen_among scope locals p c a b = λ i. chosen_among scope locals p (tested i) (one i) (other i) in
    subst (λ (w : Written). IfOk made (λ r. r ≡ told (typed scope locals w))) (sym (ap (λ (x : FormWhat). written_what x p) is ∙ choice_written c a b p))
    (subst (λ (k : Checked Operand). IfOk made (λ r. r ≡ told k)) same h)
