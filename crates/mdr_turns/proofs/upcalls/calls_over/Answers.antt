use Rattle.std.proofs.Common.{[], drop, subst, sym, ap, ◌∙◌}
use Rattle.std.proofs.lemmas.Result.{IfOk-weaker}
use Rattle.mdr_events.specs.Values.{wires_of}
use Rattle.mdr_extents.specs.Reaching.{visible}
use Rattle.mdr_model.specs.Memory.{Memory}
use Rattle.mdr_reach.specs.Answers.{answered}
use Rattle.mdr_watched.specs.Driver.{entry_roots, touched_by}
use Rattle.mdr_watch.specs.Watching.{driver_in}
use Rattle.mdr_turns.specs.Coming.{ComesTo}
use Rattle.mdr_turns.specs.States.{kernel_with, rest_of}
use Rattle.mdr_turns.proofs.Behind.{behind_set}
use Rattle.mdr_turns.proofs.Calling.{calls_on, fails_comes}
use Rattle.mdr_turns.proofs.upcalls.calls_over.Goals as goal

pub call_over-requires-clause-behind : goal.call_over-requires-clause-behind
call_over-requires-clause-behind c = behind_set c.args.watch.program.now [] c.in-Ok-Ok.set c.args.within.guarded.world c.args.within.behind c.requires.behind

pub returns-in-Ok-Ok-clause-comes : goal.returns-in-Ok-Ok-clause-comes
returns-in-Ok-Ok-clause-comes c =
    IfOk-weaker c.call_over.result _ _
    (λ p h. λ script before.
    subst (λ x. ComesTo (driver_in c.args.watch) p script x)
    (sym (calls_on (driver_in c.args.watch) c.args.callee.func c.args.callee.depth (wires_of c.args.callee.args.now) c.args.within.guarded.world (kernel_with c.args.within.ledger before) (rest_of (driver_in c.args.watch) c.args.within.behind.frames) (drop c.args.within.behind.done script) c.in-Ok-Ok.set
    (sym (ap answered c.in-Ok-Ok.field-0-is) ∙ c.in-Ok-Ok.ensures.exact
    ∙ ap (λ (m : Memory). visible c.args.watch.program.now (touched_by c.args.watch.plan.now c.args.callee.func) m [] (entry_roots c.args.watch.program.now c.args.callee.func (wires_of c.args.callee.args.now))) c.world.ensures.memory)))
    (h script before))
    c.call_over.ensures.comes

pub returns-in-Ok-Err-clause-comes : goal.returns-in-Ok-Err-clause-comes
returns-in-Ok-Err-clause-comes c = λ script before.
    fails_comes (driver_in c.args.watch) c.args.callee.func c.args.callee.depth (wires_of c.args.callee.args.now) c.args.within.guarded.world before c.args.within.ledger (rest_of (driver_in c.args.watch) c.args.within.behind.frames) (drop c.args.within.behind.done script) c.no_set.result _
    c.no_set.ensures c.over_within.result script
    (sym (ap answered c.in-Ok-Err.field-0-is) ∙ c.in-Ok-Err.ensures.exact
    ∙ ap (λ (m : Memory). visible c.args.watch.program.now (touched_by c.args.watch.plan.now c.args.callee.func) m [] (entry_roots c.args.watch.program.now c.args.callee.func (wires_of c.args.callee.args.now))) c.world.ensures.memory)
    (c.over_within.ensures.comes (driver_in c.args.watch) script c.args.within.ledger)

pub returns-in-Ok-Err-clause-kept : goal.returns-in-Ok-Err-clause-kept
returns-in-Ok-Err-clause-kept c = c.over_within.ensures.kept c.args.watch c.requires.within.same
