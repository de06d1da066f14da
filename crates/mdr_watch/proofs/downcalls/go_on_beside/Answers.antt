use Rattle.std.specs.Prelude.{reverse}
use Rattle.std.proofs.Common.{le_refl, subst, sym}
use Rattle.mdr_meaning.specs.Values.{wire_of}
use Rattle.mdr_whole.specs.Pausing.{IsPaused, IsWaiting, awaited}
use Rattle.mdr_watch.proofs.Calls.{below_is, below_stays}
use Rattle.mdr_watch.proofs.downcalls.go_on_beside.Goals as goal

pub go_on-requires-clause-waits : goal.go_on-requires-clause-waits
go_on-requires-clause-waits c = subst (λ p. IsPaused p c.args.paused) (sym c.kernel_code-code.ensures.program) c.requires.waits

pub returns-clause-waiting : goal.returns-clause-waiting
returns-clause-waiting c = subst (λ p. IsWaiting p c.in_ok-went.went) c.kernel_code-code.ensures.program c.in_ok-went.ensures.waiting

pub returns-clause-guarded : goal.returns-clause-guarded
returns-clause-guarded c =
    below_stays c.args.watch c.kernel_code-code.result c.kernel_code-code.ensures.code c.args.sets.now.inner (reverse c.args.sets.now.outer) c.args.world.now.world c.go_on.new.world.world c.requires.guarded
    (λ p s. awaited p s c.args.paused c.args.world.now.world.clock.rest (wire_of c.args.value)) c.in_ok-went.went
    (c.in_ok-went.ensures.went c.args.world.now.world.clock.rest (le_refl c.args.world.now.world.clock.rest))

pub returns-clause-went : goal.returns-clause-went
returns-clause-went c = λ rest enough.
    below_is c.args.watch c.kernel_code-code.result c.kernel_code-code.ensures.code c.args.sets.now.inner (reverse c.args.sets.now.outer) c.args.world.now.world c.go_on.new.world.world c.requires.guarded
    (λ p s. awaited p s c.args.paused rest (wire_of c.args.value)) c.in_ok-went.went (c.in_ok-went.ensures.went rest enough)
