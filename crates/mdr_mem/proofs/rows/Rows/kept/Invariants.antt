use Rattle.std.proofs.Common.{◌≡◌, ◌++◌, map, drop}
use Rattle.mdr_mem.specs.Contents.{current}
use Rattle.mdr_mem.proofs.rows.Rows.kept.Given as goal

abbrev pub invariant-loop-v : goal.invariant-loop-v
invariant-loop-v l = l.cells.items ++ map (current l.self.live.items) (drop l.v-index l.first) ≡ map (current l.self.live.items) l.first
