use Rattle.mdr_arith.proofs.Conversions.{conv-high, conv-low}
use Rattle.mdr_arith.proofs.conversion.wrapped.Goals as goal

pub returns-then-low-greatest : goal.returns-then-low-greatest
returns-then-low-greatest c =
    conv-high c.args.kind c.args.number c.modulus-size.result c.residue-low.result c.greatest.result
    (record { fits = c.ranges.number; low_is = c.residue-low.ensures; most_is = c.greatest.ensures })
    c.modulus-size.ensures
    c.if-low-greatest.true

pub returns-else-low-greatest : goal.returns-else-low-greatest
returns-else-low-greatest c =
    conv-low c.args.kind c.args.number c.residue-low.result c.greatest.result
    (record { fits = c.ranges.number; low_is = c.residue-low.ensures; most_is = c.greatest.ensures })
    c.if-low-greatest.false
