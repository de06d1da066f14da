use Rattle.std.proofs.Common.{◌∙◌, ap, drop, sym}
use Rattle.std.proofs.lemmas.Result.{IfOk-weaker}
use Rattle.mdr_events.specs.Values.{wires_of}
use Rattle.mdr_plain.specs.World.{Clock}
use Rattle.mdr_split.specs.Kernel.{split_commands}
use Rattle.mdr_split.specs.State.{Down}
use Rattle.mdr_watch.specs.Watching.{driver_in}
use Rattle.mdr_turns.specs.declared.state.Base.TheVariants as began
use Rattle.mdr_turns.specs.States.{rest_of, upcall_of}
use Rattle.mdr_turns.proofs.Resuming.{atomic_comes, backs_so, down_waits}
use Rattle.mdr_turns.proofs.backs.down_calls.Goals as goal

pub returns-then-atomic-clause-kept : goal.returns-then-atomic-clause-kept
returns-then-atomic-clause-kept c = c.over_in.ensures.kept c.args.watch c.requires.active.same

pub returns-then-atomic-clause-comes : goal.returns-then-atomic-clause-comes
returns-then-atomic-clause-comes c = λ script before.
    atomic_comes (driver_in c.args.watch) c.args.back.now c.args.paused c.args.active.guarded.world c.over_in.result
    (Down c.args.crossing.at c.args.crossing.func (wires_of c.args.crossing.args) (upcall_of c.args.active.open) (rest_of (driver_in c.args.watch) c.args.active.behind.frames))
    (λ k. split_commands (driver_in c.args.watch) (drop c.args.active.behind.done script) k) script (drop c.args.active.behind.done script) c.args.active.ledger before c.may_not_wait.result
    c.may_not_wait.ensures (sym c.atomic.ensures ∙ c.if-atomic.true) (c.over_in.ensures.comes (driver_in c.args.watch) script c.args.active.ledger)

pub down_passes-requires-clause-within : goal.down_passes-requires-clause-within
down_passes-requires-clause-within c = record { same = c.requires.active.same; passes = c.requires.active.passes }

pub down_passes-requires-clause-behind : goal.down_passes-requires-clause-behind
down_passes-requires-clause-behind c =
    down_waits c.args.watch.program.now c.args.active.guarded.world c.args.active.behind c.in-Ok.behind c.args.paused c.rest-rest.result c.args.crossing c.args.active.open c.requires.paused
    (c.rest-rest.ensures ∙ ap (λ (x : Clock). x.rest) c.world.ensures.clock) c.requires.active.behind c.in-Ok.ensures

pub returns-in-Ok-clause-comes : goal.returns-in-Ok-clause-comes
returns-in-Ok-clause-comes c =
    IfOk-weaker c.down_passes.result _ _
    (λ p h. λ script before.
    backs_so (driver_in c.args.watch) c.args.back.now c.args.paused c.args.active.guarded.world p (began.Down c.args.crossing c.args.active.open) c.args.active.behind.frames c.args.active.behind.done c.rest-rest.result c.args.active.ledger c.in-Ok.behind
    (sym c.atomic.ensures ∙ c.if-atomic.false) (c.rest-rest.ensures ∙ ap (λ (x : Clock). x.rest) c.world.ensures.clock) c.in-Ok.ensures h script before (λ k. split_commands (driver_in c.args.watch) (drop c.args.active.behind.done script) k))
    c.down_passes.ensures.comes
