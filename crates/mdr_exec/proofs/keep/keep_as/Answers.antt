use Rattle.std.proofs.Common.{◌∙◌, ap}
use Rattle.mdr_meaning.specs.Values.{wire_of}
use Rattle.mdr_events.specs.Held.{Comes}
use Rattle.mdr_exec.specs.Receiving.{goal_as}
use Rattle.mdr_exec.proofs.keep.keep_as.Goals as goal

pub returns-in-Nowhere : goal.returns-in-Nowhere
returns-in-Nowhere g c = λ side n known comes. c.keep_nothing.ensures c.args.program.now side n (comes ∙ ap (λ k. Comes n (goal_as k) (wire_of c.args.value)) c.in-Nowhere.is)
