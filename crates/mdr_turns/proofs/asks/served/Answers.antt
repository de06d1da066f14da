use Rattle.std.specs.Prelude.{drop}
use Rattle.std.proofs.lemmas.Result.{IfOk-weaker}
use Rattle.mdr_watch.specs.Watching.{driver_in}
use Rattle.mdr_turns.specs.States.{rest_of, upcall_of}
use Rattle.mdr_turns.proofs.Behind.{behind_stays}
use Rattle.mdr_turns.proofs.Taking.{service_told}
use Rattle.mdr_turns.proofs.asks.served.Goals as goal

pub returns-in-Ok-Done-clause-comes : goal.returns-in-Ok-Done-clause-comes
returns-in-Ok-Done-clause-comes c =
    IfOk-weaker c.answered.result _ _
    (λ p h. λ script.
    service_told (driver_in c.args.watch) c.args.active.ledger c.args.active.guarded.world c.ask.new.guarded.world (upcall_of c.args.active.open) (rest_of (driver_in c.args.watch) c.args.active.behind.frames) (drop c.args.active.behind.done script) script c.args.asked.now c.args.args.now c.in-Ok-Done.results _
    c.in-Ok-Done.field-0 _ p c.requires.args c.as_slice.ensures c.in-Ok-Done.field-0-is c.in-Ok-Done.ensures.served (h c.args.asked.now.at c.args.asked.now.shapes c.args.asked.now.bytes script c.args.active.guarded.world))
    c.answered.ensures.comes

pub returns-in-Ok-Stop-clause-kept : goal.returns-in-Ok-Stop-clause-kept
returns-in-Ok-Stop-clause-kept c = c.over_in.ensures.kept c.args.watch c.in-Ok-Stop.ensures.kept

pub answered-requires : goal.answered-requires
answered-requires c = record {
  active = record {
    same = c.in-Ok-Done.ensures.kept;
    passes = c.requires.active.passes;
    behind = behind_stays c.args.watch.program.now c.args.active.guarded.world c.ask.new.guarded.world c.args.active.behind c.in-Ok-Done.ensures.stays c.requires.active.behind;
  };
}
