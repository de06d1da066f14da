use Rattle.std.proofs.Common.{◌≡◌, ◌++◌, drop}
use Rattle.mdr_meaning.specs.Bodies.{known_of}
use Rattle.mdr_plain.specs.Storage.{global_blocks}
use Rattle.mdr_user_code.proofs.first.global_blocks.Given as goal

abbrev pub invariant-loop-serial : goal.invariant-loop-serial
invariant-loop-serial l = l.blocks.items ++ global_blocks (known_of l.program) l.serial (drop l.serial l.globals) ≡ global_blocks (known_of l.program) 0 l.globals
