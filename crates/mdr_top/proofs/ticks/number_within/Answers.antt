use Rattle.std.proofs.Common.{arith, sym, ap, ◌∙◌}
use Rattle.mdr_top.specs.Budgets.{begins_number}
use Rattle.mdr_top.proofs.Budgets.{parsed, unparsed}
use Rattle.mdr_top.proofs.ticks.number_within.Goals as goal

pub returns-then-begins_number : goal.returns-then-begins_number
returns-then-begins_number c =
    c.within.ensures ∙ parsed c.args.most c.args.word.now c.parse.result (omega (arith, c.ranges.most.fits)) (ap begins_number (sym c.as_bytes.ensures.value) ∙ sym c.if-begins_number.ensures) c.parse.ensures.value.0

pub returns-else-begins_number : goal.returns-else-begins_number
returns-else-begins_number c = unparsed c.args.most c.args.word.now (ap begins_number (sym c.as_bytes.ensures.value) ∙ sym c.if-begins_number.ensures)
