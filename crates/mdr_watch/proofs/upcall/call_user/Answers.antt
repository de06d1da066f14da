use Rattle.std.proofs.Common.{◌∙◌, ap, subst, sym}
use Rattle.std.proofs.lemmas.Result.{IfOk-weaker}
use Rattle.mdr_events.specs.Values.{wires_of}
use Rattle.mdr_reach.specs.Answers.{answered}
use Rattle.mdr_watch.specs.Leaving.{GaveFor}
use Rattle.mdr_watch.proofs.Nested.{fails_for, set_taken}
use Rattle.mdr_watch.proofs.upcall.call_user.Goals as goal

pub enter_first-requires-clause-begins : goal.enter_first-requires-clause-begins
enter_first-requires-clause-begins c = sym (ap answered c.in-Ok-Ok.field-0-is) ∙ c.in-Ok-Ok.ensures.exact

pub returns-in-Ok-Ok-clause-gave : goal.returns-in-Ok-Ok-clause-gave
returns-in-Ok-Ok-clause-gave c =
    IfOk-weaker c.enter_first.result _ _
    (λ r h. subst (λ ran. GaveFor r.gave r.world.world ran)
    (set_taken c.args.activation (wires_of c.args.args.now) c.args.world.world c.in-Ok-Ok.set (sym (ap answered c.in-Ok-Ok.field-0-is) ∙ c.in-Ok-Ok.ensures.exact)) h)
    c.enter_first.ensures.gave

pub returns-in-Ok-Err-clause-gave : goal.returns-in-Ok-Err-clause-gave
returns-in-Ok-Err-clause-gave c =
    fails_for c.args.activation (wires_of c.args.args.now) c.args.world.world _ c.no_set.result (sym (ap answered c.in-Ok-Err.field-0-is) ∙ c.in-Ok-Err.ensures.exact) c.no_set.ensures
