use Rattle.std.proofs.Common.{◌∙◌, drop, sym}
use Rattle.std.proofs.lemmas.Result.{IfOk-weaker}
use Rattle.mdr_split.specs.State.{Commanded}
use Rattle.mdr_watch.specs.Watching.{driver_in}
use Rattle.mdr_turns.specs.declared.state.Base.TheVariants as began
use Rattle.mdr_turns.specs.States.{kernel_with}
use Rattle.mdr_turns.proofs.Resuming.{atomic_over, backs_so, command_waits}
use Rattle.mdr_turns.proofs.backs.command_calls.Goals as goal

pub returns-then-atomic-clause-comes : goal.returns-then-atomic-clause-comes
returns-then-atomic-clause-comes c = λ script before go.
    atomic_over (driver_in c.args.watch) c.args.crossing.now c.args.paused c.args.between.world.world Commanded (kernel_with c.args.between.ledger before) go (drop c.args.begun script) c.may_not_wait.result
    c.may_not_wait.ensures (sym c.atomic.ensures ∙ c.if-atomic.true)

pub command_passes-requires-clause-behind : goal.command_passes-requires-clause-behind
command_passes-requires-clause-behind c =
    command_waits c.args.watch.program.now c.args.between.world.world c.args.begun c.args.paused c.rest-rest.result c.new.result c.in-Ok.behind c.requires.between.alone c.requires.paused c.rest-rest.ensures c.new.ensures c.in-Ok.ensures

pub returns-in-Ok-clause-comes : goal.returns-in-Ok-clause-comes
returns-in-Ok-clause-comes c =
    IfOk-weaker c.command_passes.result _ _
    (λ p h.
    backs_so (driver_in c.args.watch) c.args.crossing.now c.args.paused c.args.between.world.world p began.Commanded c.new.result c.args.begun c.rest-rest.result c.args.between.ledger c.in-Ok.behind
    (sym c.atomic.ensures ∙ c.if-atomic.false) c.rest-rest.ensures c.in-Ok.ensures h)
    c.command_passes.ensures.comes
