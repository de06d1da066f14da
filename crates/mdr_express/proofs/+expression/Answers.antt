use Rattle.std.proofs.Common.{◌≡◌, IfOk, List, [], map, drop, ◌+◌, Result, Ok, Err, refl, ap, subst, sym, ◌∙◌}
use Rattle.mdr_faults.specs.declared.fault.Fault.{Fault}
use Rattle.mdr_faults.specs.Faults.{Checked, followed, told}
use Rattle.mdr_faults.proofs.Gathered.{one_more}
use Rattle.mdr_syntax.specs.declared.tree.Form.{Form}
use Rattle.mdr_operand.specs.Written.{written_of, written_list}
use Rattle.mdr_express.specs.Expressions.{typed, arguments_of}
use Rattle.mdr_call.specs.declared.parts.Argument.{Argument}
use Rattle.mdr_call.specs.declared.parts.Target.{Target}
use Rattle.mdr_call.specs.Calls.{argument_by}
use Rattle.mdr_express.proofs.Called.{call_comes, choice_comes}
use Rattle.mdr_express.proofs.Callees.{plain_callee}
use Rattle.mdr_express.proofs.+expression.Goals as goal

none_before : {A : Type 0} (r : Result (List A) Fault) → followed (Ok []) r ≡ r
none_before (Ok xs) = refl
none_before (Err e) = refl

pub calls::arguments-loop-form-init : goal.calls::arguments-loop-form-init
calls::arguments-loop-form-init t c =
    ap (λ xs. followed (Ok xs) (told (arguments_of c.args.scope.now c.args.locals.now (written_list (map written_of c.args.forms.now))))) c.new.ensures ∙ none_before _

pub calls::prefix_callee-returns : goal.calls::prefix_callee-returns
calls::prefix_callee-returns t c = c.where_made.ensures _ (c.fronted_callee.ensures _ c.in_ok-x.ensures)

pub calls::arguments-loop-form-preserved : goal.calls::arguments-loop-form-preserved
calls::arguments-loop-form-preserved t c =
    let listed : List Form → Checked (List Argument) = λ (xs : List Form). arguments_of c.args.scope.now c.args.locals.now (written_list (map written_of xs)) in
    let one : Checked Argument = argument_by c.args.scope.now (written_of c.form-item.result) (typed c.args.scope.now c.args.locals.now (written_of c.form-item.result)) in
    one_more listed one (listed (drop (c.loop-form.form-index + 1) c.args.forms.now)) c.args.forms.now c.loop-form.form-index c.form-item.result c.loop-form.all _ _ c.loop-form-test.true c.form-item.is refl (c.in_ok-all.ensures one c.argument_form.ensures) c.loop-form.invariant

pub calls::callee_at-returns-in_default : goal.calls::callee_at-returns-in_default
calls::callee_at-returns-in_default t c =
    subst (λ (x : Checked Target). IfOk c.where_made.result (λ r. r ≡ told x))
    (sym (plain_callee c.args.scope.now c.args.locals.now c.args.what.now c.in_default.not-Name c.in_default.not-Prefix c.args.place))
    (c.where_made.ensures _ c.expression_at.ensures)

pub form::expression_at-returns-in-Choice : goal.form::expression_at-returns-in-Choice
form::expression_at-returns-in-Choice t c =
    choice_comes c.args.scope.now c.args.locals.now c.args.place c.args.what.now c.in-Choice.c c.in-Choice.a c.in-Choice.b c.get-in-Choice.result.now c.get-in-Choice-2.result.now c.get-in-Choice-3.result.now c.choice_form.result
    c.in-Choice.is c.get-in-Choice.ensures c.get-in-Choice-2.ensures c.get-in-Choice-3.ensures
    (c.choice_form.ensures _ _ _ c.expression-test.ensures c.expression-one.ensures c.expression-other.ensures)

pub form::expression_at-returns-in-Call : goal.form::expression_at-returns-in-Call
form::expression_at-returns-in-Call t c =
    call_comes c.args.scope.now c.args.locals.now c.args.place c.args.what.now c.in-Call.f c.get-in-Call.result.now c.in-Call.args c.as_slice-in-Call.result.now c.call_form.result
    c.in-Call.is c.get-in-Call.ensures c.as_slice-in-Call.ensures
    (c.call_form.ensures _ _ c.callee-target.ensures c.arguments-given.ensures)
