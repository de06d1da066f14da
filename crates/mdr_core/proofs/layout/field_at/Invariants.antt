-- The invariant of `field_at`.
use Rattle.mdr_core.proofs.Lying.{Sought}
use Rattle.mdr_core.proofs.layout.field_at.Given as goal

abbrev pub invariant-loop-field : goal.invariant-loop-field
invariant-loop-field l = Sought l.structs l.s l.cell l.field-index l.number l.left
