use Rattle.std.proofs.Common.{◌∙◌, false, true, sym}
use Rattle.mdr_events.specs.Values.{wires_of}
use Rattle.mdr_whole.specs.Going.{half_of, side_of, tried_in}
use Rattle.mdr_whole.specs.Pausing.{went_in}
use Rattle.mdr_whole.proofs.Turns.{call_finishes, same_half}
use Rattle.mdr_whole.proofs.calls.call.Goals as goal

pub returns-then-is_half-clause-gave : goal.returns-then-is_half-clause-gave
returns-then-is_half-clause-gave g c =
    c.stop_out.ensures c.args.code (tried_in g.B.Before.tries c.args.code) c.enter.new.world.world
    ∙ same_half c.args.code.program.now (half_of c.args.code) true (tried_in g.B.Before.tries c.args.code) (went_in c.args.code c.in_ok-went.went c.enter.new.world.world) (sym c.is_half.ensures ∙ c.if-is_half.true)
    ∙ call_finishes c.args.code.program.now (half_of c.args.code) (side_of c.args.code) g.B.Before.tries c.args.func (wires_of c.args.args.now) c.args.depth c.args.world.now.world (went_in c.args.code c.in_ok-went.went c.enter.new.world.world) c.in_ok-went.ensures.went

pub returns-clause-gave : goal.returns-clause-gave
returns-clause-gave g c =
    c.in_ok-gave.ensures.gave
    ∙ same_half c.args.code.program.now (half_of c.args.code) false (tried_in g.B.Before.tries c.args.code) (went_in c.args.code c.in_ok-went.went c.enter.new.world.world) (sym c.is_half.ensures ∙ c.if-is_half.false)
    ∙ call_finishes c.args.code.program.now (half_of c.args.code) (side_of c.args.code) g.B.Before.tries c.args.func (wires_of c.args.args.now) c.args.depth c.args.world.now.world (went_in c.args.code c.in_ok-went.went c.enter.new.world.world) c.in_ok-went.ensures.went
