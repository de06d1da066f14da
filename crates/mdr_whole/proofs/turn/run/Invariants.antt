use Rattle.std.proofs.Common.{◌-◌}
use Rattle.mdr_whole.specs.Going.{half_of, side_of}
use Rattle.mdr_whole.proofs.Turns.{UnderWay}
use Rattle.mdr_whole.proofs.turn.run.Given as goal

-- what is under way does what was to be done at first
abbrev pub invariant-loop-turns : goal.invariant-loop-turns
invariant-loop-turns g l = UnderWay g.B.Before.tries l.code.program.now (half_of l.code) (side_of l.code) l.fn.machine l.fn.world l.machine l.event l.world

abbrev pub decreases-loop-turns : goal.decreases-loop-turns
decreases-loop-turns g l = 18446744073709551615 - l.turns
