use Rattle.std.proofs.Common.{◌≡◌, [], drop, take}
use Rattle.mdr_faults.specs.Faults.{told, followed}
use Rattle.mdr_check.specs.Files.{pieces_behind, known_behind}
use Rattle.mdr_check.proofs.file.pieces_behind.Given as goal

abbrev pub invariant-loop-i : goal.invariant-loop-i
invariant-loop-i g l = record {
  told : followed l.all (told (pieces_behind (g.B.Bodies.rule l.bodies) l.known (take l.i l.items) (drop l.i l.items))) ≡ told (pieces_behind (g.B.Bodies.rule l.bodies) l.initial.known [] l.items);
  grown : known_behind l.known (drop l.i l.items) ≡ known_behind l.initial.known l.items;
}
