use Rattle.std.proofs.Common.{Some, ◌∙◌, ap, sym, subst}
use Rattle.std.specs.Option.{option_map}
use Rattle.mdr_core.specs.Code.{Code}
use Rattle.mdr_core.specs.Folds.{term_of}
use Rattle.mdr_events.specs.Steps.{Ticks}
use Rattle.mdr_exec.specs.Beginning.{came_of}
use Rattle.mdr_exec.specs.Holding.{held_of}
use Rattle.mdr_exec.proofs.statement.do_return.Goals as goal

pub returns-in-Some : goal.returns-in-Some
returns-in-Some g c = λ side n here known is.
    subst (λ x. Ticks g.C.Memory.accesses side (held_of c.args.program.now c.args.machine.now) c.args.memory.now x (held_of c.args.program.now c.begin_return_value.new.machine) c.args.memory.now)
    (sym (c.stopped.ensures ∙ ap (came_of c.begin_return_value.result) here))
    (c.begin_return_value.ensures side n known (is ∙ ap (λ o. Some (Code.Return n (option_map term_of o))) c.in-Some.is))

pub returns-in-None : goal.returns-in-None
returns-in-None g c = λ side n here known is. c.begin_return.ensures c.args.program.now side n (is ∙ ap (λ o. Some (Code.Return n (option_map term_of o))) c.in-None.is)
