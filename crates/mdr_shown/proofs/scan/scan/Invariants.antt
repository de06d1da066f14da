use Rattle.std.proofs.Common.{◌≡◌, ◌-◌, length}
use Rattle.mdr_plain.specs.Outcome.{scanned}
use Rattle.mdr_shown.specs.Met.{AreNumbered}
use Rattle.mdr_shown.proofs.scan.scan.Given as goal

abbrev pub invariant-loop-i : goal.invariant-loop-i
invariant-loop-i l = record {
  numbered : AreNumbered l.met;
  so_far : scanned l.world.world.memory (length l.world.world.memory - l.i) l.i l.met.serials.items ≡ scanned l.world.world.memory (length l.world.world.memory) 0 l.initial.met.serials.items;
}
