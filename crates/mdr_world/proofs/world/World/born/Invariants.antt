use Rattle.std.proofs.Common.{◌≡◌, ◌++◌, drop}
use Rattle.mdr_events.specs.Values.{wires_of}
use Rattle.mdr_plain.specs.Storage.{births}
use Rattle.mdr_world.proofs.world.World.born.Given as goal

abbrev pub invariant-loop-shape : goal.invariant-loop-shape
invariant-loop-shape l = record {
  pointers : wires_of l.pointers ++ (births l.fn.self.program l.kind (drop l.shape-index l.shapes) l.self.world).pointers ≡ (births l.fn.self.program l.kind l.shapes l.fn.self.world).pointers;
  so_far : (births l.fn.self.program l.kind (drop l.shape-index l.shapes) l.self.world).memory ≡ (births l.fn.self.program l.kind l.shapes l.fn.self.world).memory;
  kept : l.self.program ≡ l.fn.self.program;
}
