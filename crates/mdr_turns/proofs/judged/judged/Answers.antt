use Rattle.std.proofs.Common.{sym, ◌∙◌}
use Rattle.mdr_split.specs.Legal.{fault_of}
use Rattle.mdr_watch.specs.Watching.{driver_in}
use Rattle.mdr_turns.specs.States.{rest_of, upcall_of}
use Rattle.mdr_turns.proofs.judged.judged.Goals as goal

pub taken-requires-clause-legal : goal.taken-requires-clause-legal
taken-requires-clause-legal c =
    (λ i. fault_of (driver_in c.args.watch) (c.active_in.ensures.kernel i) (upcall_of (c.active_in.ensures.open i)) (rest_of (driver_in c.args.watch) (c.active_in.ensures.behind i).frames) c.args.reply) ∙ sym c.fault_in.ensures ∙ c.in-None.is
