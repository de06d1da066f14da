use Rattle.std.proofs.Common.{◌≡◌, drop}
use Rattle.mdr_check.specs.Uses.{use_among}
use Rattle.mdr_check.proofs.uses.use_among.Given as goal

abbrev pub invariant-loop-item : goal.invariant-loop-item
invariant-loop-item g l = use_among (g.B.Bodies.used l.bodies) l.name (drop l.item-index l.items) ≡ use_among (g.B.Bodies.used l.bodies) l.name l.items
