use Rattle.std.proofs.Common.{◌≡◌, drop, map}
use Rattle.std.specs.Prelude.{vec_items}
use Rattle.mdr_paths.specs.Turned.{with_edges}
use Rattle.mdr_paths.proofs.turned.add_edges.Given as goal

abbrev pub invariant-loop-node : goal.invariant-loop-node
invariant-loop-node l = with_edges (map vec_items l.rows.items) l.from (drop l.node-index l.nodes) ≡ with_edges (map vec_items l.fn.rows.items) l.from l.nodes
