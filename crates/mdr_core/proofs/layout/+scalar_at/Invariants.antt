-- The measure of `scalar_at`.
use Rattle.mdr_core.proofs.layout.+scalar_at.Given as goal

abbrev pub decreases-scalar_at : goal.decreases-scalar_at
decreases-scalar_at l = l.s
