use Rattle.std.proofs.Common.{◌-◌, ◌∙◌, arith, length, sym}
use Rattle.mdr_cells.specs.Names.{cell_of}
use Rattle.mdr_extents.specs.CellOrder.{same_is}
use Rattle.mdr_reach.proofs.ChainLaws.{name_in, next_less, sought_first, sought_more, sought_none}
use Rattle.mdr_reach.proofs.chains.is_linked.Goals as goal

pub loop-number-init : goal.loop-number-init
loop-number-init c = sought_first c.args.names.now (length c.args.chains.now.lasts.items) c.args.name c.args.last c.requires.last

pub loop-number-smaller : goal.loop-number-smaller
loop-number-smaller c =
    next_less c.args.names.now c.args.chains.now c.args.name c.loop-number.number c.index-number.result.now c.name_at-other.result c.loop-number-test.true c.name_at-other.ensures c.index-number.ensures c.requires.chained c.loop-number.invariant

pub loop-number-preserved : goal.loop-number-preserved
loop-number-preserved c =
    sought_more c.args.names.now c.args.chains.now c.args.name c.loop-number.number c.index-number.result.now c.name_at-other.result c.loop-number-test.true c.name_at-other.ensures c.index-number.ensures c.requires.chained c.loop-number.invariant
    (sym c.is_same.ensures ∙ c.if-is_same.false)

pub returns-then-is_same : goal.returns-then-is_same
returns-then-is_same c = name_in c.args.names.now (c.loop-number.number - 1) c.name_at-other.result c.args.name c.name_at-other.ensures (same_is (cell_of c.name_at-other.result) (cell_of c.args.name) (sym c.is_same.ensures ∙ c.if-is_same.true))

pub returns : goal.returns
returns c = sought_none c.args.names.now (length c.args.chains.now.lasts.items) c.args.name c.loop-number.number (omega (arith, c.loop-number-test.false)) c.loop-number.invariant
