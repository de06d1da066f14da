-- The invariant of `field_start`.
use Rattle.mdr_exec.proofs.Begun.{Begun}
use Rattle.mdr_exec.proofs.layout.field_start.Given as goal

abbrev pub invariant-loop-field : goal.invariant-loop-field
invariant-loop-field l = Begun l.structs l.s l.f l.field-index l.number l.total
