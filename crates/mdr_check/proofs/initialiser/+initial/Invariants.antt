use Rattle.std.proofs.Common.{◌≡◌, drop, map}
use Rattle.mdr_faults.specs.Faults.{told, followed}
use Rattle.mdr_check.specs.Initialisers.{elements_first, part, placed_parts}
use Rattle.mdr_check.proofs.initialiser.+initial.Given as goal

abbrev pub invariant-elements_first-loop-e : goal.invariant-elements_first-loop-e
invariant-elements_first-loop-e l = followed l.all (told (elements_first l.o (map (part l.scope l.own l.place) (drop l.e-index l.elems)))) ≡ told (elements_first l.o (map (part l.scope l.own l.place) l.elems))

abbrev pub invariant-placed_parts-loop-i : goal.invariant-placed_parts-loop-i
invariant-placed_parts-loop-i l = followed l.all (told (placed_parts l.place l.members l.i (map (part l.scope l.own l.place) (drop l.i l.elems)))) ≡ told (placed_parts l.place l.members 0 (map (part l.scope l.own l.place) l.elems))
