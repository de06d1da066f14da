use Rattle.std.proofs.Common.{[], drop, subst, sym, ap, ◌∙◌}
use Rattle.std.proofs.lemmas.Result.{IfOk-weaker}
use Rattle.mdr_events.specs.Values.{wires_of}
use Rattle.mdr_reach.specs.Answers.{answered}
use Rattle.mdr_watch.specs.Watching.{driver_in}
use Rattle.mdr_turns.specs.Coming.{ComesTo}
use Rattle.mdr_turns.specs.States.{kernel_with, rest_of}
use Rattle.mdr_turns.proofs.Behind.{behind_set}
use Rattle.mdr_turns.proofs.Calling.{calls_on, fails_over}
use Rattle.mdr_turns.proofs.upcalls.calls.Goals as goal

pub call_first-requires-clause-behind : goal.call_first-requires-clause-behind
call_first-requires-clause-behind c = behind_set c.args.watch.program.now [] c.in-Ok-Ok.set c.args.between.world.world c.args.behind c.requires.behind

pub returns-in-Ok-Ok-clause-comes : goal.returns-in-Ok-Ok-clause-comes
returns-in-Ok-Ok-clause-comes c =
    IfOk-weaker c.call_first.result _ _
    (λ p h. λ script before.
    subst (λ x. ComesTo (driver_in c.args.watch) p script x)
    (sym (calls_on (driver_in c.args.watch) c.args.callee.func c.args.callee.depth (wires_of c.args.callee.args.now) c.args.between.world.world (kernel_with c.args.between.ledger before) (rest_of (driver_in c.args.watch) c.args.behind.frames) (drop c.args.behind.done script) c.in-Ok-Ok.set
    (sym (ap answered c.in-Ok-Ok.field-0-is) ∙ c.in-Ok-Ok.ensures.exact)))
    (h script before))
    c.call_first.ensures.comes

pub returns-in-Ok-Err-clause-comes : goal.returns-in-Ok-Err-clause-comes
returns-in-Ok-Err-clause-comes c = λ script before.
    fails_over (driver_in c.args.watch) c.args.callee.func c.args.callee.depth (wires_of c.args.callee.args.now) c.args.between.world.world before c.args.between.ledger (rest_of (driver_in c.args.watch) c.args.behind.frames) (drop c.args.behind.done script) c.no_set.result _
    c.no_set.ensures (sym (ap answered c.in-Ok-Err.field-0-is) ∙ c.in-Ok-Err.ensures.exact)
