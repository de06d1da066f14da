use Rattle.std.proofs.Common.{◌≡◌, ℕ, ◌<◌, length, map, get_or, []}
use Rattle.std.specs.Prelude.{vec_items}
use Rattle.mdr_slice.specs.Graph.{IsRow}
use Rattle.mdr_slice.proofs.graph.graph.Given as goal

abbrev pub invariant-loop-own : goal.invariant-loop-own
invariant-loop-own l = record {
  size : length l.edges.items ≡ l.own-index;
  rows : (f : ℕ) → f < l.own-index → IsRow l.program l.counts f (get_or (map vec_items l.edges.items) f []);
}
