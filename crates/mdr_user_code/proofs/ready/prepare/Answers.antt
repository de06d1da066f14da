use Rattle.std.proofs.Common.{ap, ◌∙◌, refl, length}
use Rattle.std.proofs.lemmas.Result.{on_ok_weaker}
use Rattle.mdr_user_code.specs.Opening.{opening_for}
use Rattle.mdr_user_code.specs.Standing.{driver_in}
use Rattle.mdr_user_code.proofs.ReadyLaws.{answer_awaited, answer_fits, answer_waits, back_awaited, back_fits, back_waits, called_shallow, called_user, not_accepted, prepared_answer, prepared_back, prepared_call}
use Rattle.mdr_user_code.proofs.ready.prepare.Goals as goal

pub start-requires-clause-user : goal.start-requires-clause-user
start-requires-clause-user c = called_user (driver_in c.args.scene) c.args.state.now c.args.message.now _ c.requires.goes.0 c.in-Call.is c.requires.goes.1

pub start-requires-clause-depth : goal.start-requires-clause-depth
start-requires-clause-depth c = called_shallow (driver_in c.args.scene) c.args.state.now c.args.message.now _ c.requires.goes.0 c.in-Call.is c.requires.goes.1

pub give_back-requires-clause-waiting : goal.give_back-requires-clause-waiting
give_back-requires-clause-waiting c =
    back_waits (driver_in c.args.scene) c.args.state.now (back_awaited (driver_in c.args.scene) c.args.state.now c.args.message.now _ c.requires.goes.0 c.in-Back.is c.requires.goes.1 c.requires.opens)

pub give_back-requires-clause-fit : goal.give_back-requires-clause-fit
give_back-requires-clause-fit c =
    back_fits (driver_in c.args.scene) c.args.state.now (back_awaited (driver_in c.args.scene) c.args.state.now c.args.message.now _ c.requires.goes.0 c.in-Back.is c.requires.goes.1 c.requires.opens)

pub answer-requires-clause-waiting : goal.answer-requires-clause-waiting
answer-requires-clause-waiting c =
    answer_waits (driver_in c.args.scene) c.args.state.now _ (answer_awaited (driver_in c.args.scene) c.args.state.now c.args.message.now _ c.requires.goes.0 c.in-Answer.is c.requires.goes.1 c.requires.opens)

pub answer-requires-clause-fit : goal.answer-requires-clause-fit
answer-requires-clause-fit c = λ vs same.
    answer_fits (driver_in c.args.scene) c.args.state.now _ (answer_awaited (driver_in c.args.scene) c.args.state.now c.args.message.now _ c.requires.goes.0 c.in-Answer.is c.requires.goes.1 c.requires.opens) vs
    (same ∙ ap length c.as_slice.ensures)

pub returns-in-Call : goal.returns-in-Call
returns-in-Call c =
    on_ok_weaker c.start.result
    (λ h. prepared_call (driver_in c.args.scene) c.args.state.now c.start.new.state c.args.message.now _ c.in-Call.is c.requires.opens h) c.start.ensures

pub returns-in-Back : goal.returns-in-Back
returns-in-Back c =
    let o = back_awaited (driver_in c.args.scene) c.args.state.now c.args.message.now _ c.requires.goes.0 c.in-Back.is c.requires.goes.1 c.requires.opens in
    on_ok_weaker c.give_back.result (λ h. prepared_back (driver_in c.args.scene) c.args.state.now c.give_back.new.state c.args.message.now _ c.requires.opens.1 o.started c.in-Back.is h) c.give_back.ensures

pub returns-in-Answer : goal.returns-in-Answer
returns-in-Answer c =
    let a = answer_awaited (driver_in c.args.scene) c.args.state.now c.args.message.now _ c.requires.goes.0 c.in-Answer.is c.requires.goes.1 c.requires.opens in
    let o = a.waiting in
    on_ok_weaker c.answer.result (λ h. prepared_answer (driver_in c.args.scene) c.args.state.now c.answer.new.state c.args.message.now _ c.as_slice.result.now c.requires.opens.1 o.started c.in-Answer.is c.as_slice.ensures h) c.answer.ensures

pub unreachable-requires : goal.unreachable-requires
unfolding opening_for
unreachable-requires c = not_accepted (driver_in c.args.scene) c.args.state.now c.args.message.now _ c.requires.goes.0 c.in-Reply.is refl c.requires.goes.1

pub unreachable-requires-in-Refuse : goal.unreachable-requires-in-Refuse
unfolding opening_for
unreachable-requires-in-Refuse c = not_accepted (driver_in c.args.scene) c.args.state.now c.args.message.now _ c.requires.goes.0 c.in-Refuse.is refl c.requires.goes.1
