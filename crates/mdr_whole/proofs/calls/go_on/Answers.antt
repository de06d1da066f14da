use Rattle.std.proofs.Common.{subst, sym}
use Rattle.mdr_meaning.specs.Values.{wire_of}
use Rattle.mdr_whole.specs.declared.ending.Gave.TheVariants as gave
use Rattle.mdr_whole.specs.declared.paused.Paused.{Paused}
use Rattle.mdr_whole.specs.declared.paused.Went.TheVariants as far
use Rattle.mdr_whole.specs.Pausing.{WentOn}
use Rattle.mdr_whole.proofs.Turns.{passed_on}
use Rattle.mdr_whole.proofs.calls.go_on.Goals as goal

pub returns-in-Passes-clause-went : goal.returns-in-Passes-clause-went
returns-in-Passes-clause-went g c =
    subst (λ (p : Paused). WentOn g.B.Before.tries c.args.code p (wire_of c.args.value) c.args.world.now.world (far.Gave (gave.Value c.now.result)) c.args.world.now.world) (sym c.in-Passes.is)
    (passed_on g.B.Before.tries c.args.code c.args.value c.now.result c.args.world.now.world c.now.ensures)
