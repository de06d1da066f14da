use Rattle.std.proofs.Common.{◌≡◌, drop}
use Rattle.mdr_events.specs.Values.{wires_of}
use Rattle.mdr_plain.specs.Storage.{deaths}
use Rattle.mdr_world.proofs.world.World.end_all.Given as goal

abbrev pub invariant-loop-p : goal.invariant-loop-p
invariant-loop-p l = record {
  so_far : deaths (wires_of (drop l.p-index l.pointers)) l.self.world ≡ deaths (wires_of l.pointers) l.fn.self.world;
  kept : l.self.program ≡ l.fn.self.program;
}
