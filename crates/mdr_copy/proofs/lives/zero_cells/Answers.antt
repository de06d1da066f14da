use Rattle.std.proofs.Common.{length, sym, ◌∙◌, ap}
use Rattle.mdr_model.specs.Memory.{zero_block}
use Rattle.mdr_model.specs.Agreement.{cell_zero}
use Rattle.mdr_model.proofs.LifeLaws.{zero_block-get}
use Rattle.mdr_copy.proofs.Passing.{one_more, no_more, fewer_left, not_some}
use Rattle.mdr_copy.proofs.lives.zero_cells.Goals as goal

pub loop-zero-smaller : goal.loop-zero-smaller
loop-zero-smaller c =
    fewer_left (zero_block c.args.program.now c.args.new).cells c.loop-zero.out.items c.push.new.self.items c.in-Some.zero
    (zero_block-get c.args.program.now c.args.new (length c.loop-zero.out.items) ∙ ap (cell_zero c.args.program.now c.args.new) (sym (ap length c.as_slice.ensures.value)) ∙ sym c.cell_zero.ensures ∙ c.in-Some.is) c.in_ok-push.ensures.items

pub loop-zero-preserved : goal.loop-zero-preserved
loop-zero-preserved c =
    one_more (zero_block c.args.program.now c.args.new).cells c.loop-zero.out.items c.push.new.self.items c.in-Some.zero c.loop-zero.invariant
    (zero_block-get c.args.program.now c.args.new (length c.loop-zero.out.items) ∙ ap (cell_zero c.args.program.now c.args.new) (sym (ap length c.as_slice.ensures.value)) ∙ sym c.cell_zero.ensures ∙ c.in-Some.is) c.in_ok-push.ensures.items

pub returns : goal.returns
returns c =
    c.from_vec.ensures
    ∙ no_more (zero_block c.args.program.now c.args.new).cells c.loop-zero.out.items c.loop-zero.invariant
    (zero_block-get c.args.program.now c.args.new (length c.loop-zero.out.items) ∙ ap (cell_zero c.args.program.now c.args.new) (sym (ap length c.as_slice.ensures.value)) ∙ sym c.cell_zero.ensures ∙ not_some c.cell_zero.result c.in_default.not-Some)
