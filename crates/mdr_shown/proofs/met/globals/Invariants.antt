use Rattle.std.proofs.Common.{◌≡◌}
use Rattle.mdr_plain.specs.Outcome.{first_serials}
use Rattle.mdr_shown.specs.Met.{AreNumbered}
use Rattle.mdr_shown.proofs.met.globals.Given as goal

abbrev pub invariant-loop-global : goal.invariant-loop-global
invariant-loop-global l = record { numbered : AreNumbered l.met; so_far : l.met.serials.items ≡ first_serials l.global }
