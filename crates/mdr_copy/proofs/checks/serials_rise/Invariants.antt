use Rattle.std.proofs.Common.{◌≡◌, None, drop}
use Rattle.mdr_model.specs.User.{rise_after}
use Rattle.mdr_copy.proofs.checks.serials_rise.Given as goal

abbrev pub invariant-loop-serial : goal.invariant-loop-serial
invariant-loop-serial l = rise_after l.before (drop l.serial-index l.serials) ≡ rise_after None l.serials
