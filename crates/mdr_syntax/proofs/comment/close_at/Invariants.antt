use Rattle.std.proofs.Common.{◌≡◌, ◌+◌, drop}
use Rattle.std.specs.Option.{option_map}
use Rattle.mdr_syntax.specs.Pieces.{close_at}
use Rattle.mdr_syntax.proofs.comment.close_at.Given as goal

abbrev pub invariant-loop-i : goal.invariant-loop-i
invariant-loop-i l = option_map (λ n. l.i + n) (close_at (drop l.i l.bytes)) ≡ close_at l.bytes
