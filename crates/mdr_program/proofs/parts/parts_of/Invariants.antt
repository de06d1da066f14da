use Rattle.std.proofs.Common.{◌≡◌}
use Rattle.mdr_program.specs.Parts.{no_parts, parts_behind}
use Rattle.mdr_program.proofs.parts.parts_of.Given as goal

abbrev pub invariant-loop-piece : goal.invariant-loop-piece
invariant-loop-piece l = l.parts ≡ parts_behind no_parts l.yielded
