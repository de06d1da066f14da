use Rattle.std.proofs.Common.{◌≡◌, ◌++◌, drop}
use Rattle.mdr_plain.specs.Outcome.{objects_for}
use Rattle.mdr_shown.proofs.objects.objects_met.Given as goal

abbrev pub invariant-loop-serial : goal.invariant-loop-serial
invariant-loop-serial l =
    l.objects.items ++ objects_for l.world.program l.met.serials.items l.world.world.memory (drop l.serial-index l.met.serials.items)
    ≡ objects_for l.world.program l.met.serials.items l.world.world.memory l.met.serials.items
