use Rattle.std.proofs.Common.{◌≡◌, ◌++◌, map, drop}
use Rattle.std.specs.Prelude.{vec_items}
use Rattle.mdr_access.specs.Walked.{users}
use Rattle.mdr_access.proofs.walk.user_edges.Given as goal

abbrev pub invariant-loop-row : goal.invariant-loop-row
invariant-loop-row l = map vec_items l.out.items ++ map (users l.halves) (map vec_items (drop l.row-index l.edges)) ≡ map (users l.halves) (map vec_items l.edges)
