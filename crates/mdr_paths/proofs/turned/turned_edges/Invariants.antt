use Rattle.std.proofs.Common.{map}
use Rattle.std.specs.Prelude.{vec_items}
use Rattle.mdr_paths.specs.Turned.{AreTurnedBelow}
use Rattle.mdr_paths.proofs.turned.turned_edges.Given as goal

abbrev pub invariant-loop-from : goal.invariant-loop-from
invariant-loop-from l = AreTurnedBelow (map vec_items l.edges) l.from (map vec_items l.turned.items)
