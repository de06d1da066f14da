use Rattle.std.proofs.Common.{◌≡◌, ◌++◌, drop}
use Rattle.std.specs.Prelude.{filter}
use Rattle.mdr_model.specs.User.{still_live}
use Rattle.mdr_user_code.proofs.grown.still_live.Given as goal

abbrev pub invariant-loop-cell : goal.invariant-loop-cell
invariant-loop-cell l = l.left ++ filter (still_live l.copy) (drop l.cell-index l.seen) ≡ filter (still_live l.copy) l.seen
