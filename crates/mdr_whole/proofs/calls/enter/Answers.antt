use Rattle.std.proofs.Common.{◌∙◌, le_refl, sym}
use Rattle.mdr_events.specs.Values.{wires_of}
use Rattle.mdr_whole.specs.Going.{half_of, side_of, tried_in}
use Rattle.mdr_whole.proofs.Turns.{call_goes, goes_elsewhere}
use Rattle.mdr_whole.proofs.calls.enter.Goals as goal

pub returns-then-not-runs_here-clause-waiting : goal.returns-then-not-runs_here-clause-waiting
returns-then-not-runs_here-clause-waiting g c = c.in_ok-went.ensures.waiting c.args.code.program.now

pub returns-then-not-runs_here-clause-went : goal.returns-then-not-runs_here-clause-went
returns-then-not-runs_here-clause-went g c =
    c.in_ok-went.ensures.went c.args.code.program.now (side_of c.args.code) c.args.world.now.world
    ∙ goes_elsewhere c.args.code.program.now (side_of c.args.code) (tried_in g.B.Before.tries c.args.code) c.args.func (wires_of c.args.args.now) c.args.depth c.args.world.now.world (sym c.runs_here.ensures ∙ c.if-not-runs_here.true)

pub returns-clause-went : goal.returns-clause-went
returns-clause-went g c =
    c.in_ok-went-2.ensures.went c.args.world.now.world.clock.rest (le_refl c.args.world.now.world.clock.rest)
    ∙ call_goes g.B.Before.tries c.args.code.program.now (half_of c.args.code) (side_of c.args.code) c.args.func (wires_of c.args.args.now) c.args.depth c.in_ok-machine.machine c.args.world.now c.in_ok-machine.ensures
