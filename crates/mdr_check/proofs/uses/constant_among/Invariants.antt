use Rattle.std.proofs.Common.{◌≡◌, drop}
use Rattle.mdr_check.specs.Uses.{constant_among}
use Rattle.mdr_check.proofs.uses.constant_among.Given as goal

abbrev pub invariant-loop-item : goal.invariant-loop-item
invariant-loop-item l = constant_among l.name (drop l.item-index l.items) ≡ constant_among l.name l.items
