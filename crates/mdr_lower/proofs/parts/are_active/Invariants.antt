use Rattle.std.proofs.Common.{◌≡◌, drop, map}
use Rattle.mdr_rich.specs.Activity.{are_active}
use Rattle.mdr_rich.specs.Code.{term_list}
use Rattle.mdr_rich.specs.Folds.{term_of}
use Rattle.mdr_lower.proofs.parts.are_active.Given as goal

abbrev pub invariant-loop-e : goal.invariant-loop-e
invariant-loop-e l = are_active (term_list (map term_of (drop l.e-index l.args))) ≡ are_active (term_list (map term_of l.args))
