use Rattle.std.proofs.Common.{◌≡◌, drop}
use Rattle.mdr_model.specs.Copies.{without}
use Rattle.mdr_copy.proofs.lives.without.Given as goal

abbrev pub invariant-loop-serial : goal.invariant-loop-serial
invariant-loop-serial l = without (drop l.serial-index l.deaths) l.left ≡ without l.deaths l.initial.left
