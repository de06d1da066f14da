use Rattle.std.proofs.Common.{ap, sym, ◌∙◌, slice_set, subst}
use Rattle.mdr_model.specs.declared.memory.MemoryBlock.{MemoryBlock}
use Rattle.mdr_copy.specs.Serials.{Rise}
use Rattle.mdr_copy.proofs.Orders.{put_from}
use Rattle.mdr_copy.proofs.Places.{with_cell, put_there, put_nowhere}
use Rattle.mdr_copy.proofs.store.put_in.Goals as goal

pub returns-in-Some-clause-put : goal.returns-in-Some-clause-put
returns-in-Some-clause-put c =
    ap (λ (b : MemoryBlock). slice_set c.args.blocks.now c.in-Some.i b) c.set_cell.ensures
    ∙ ap (λ (b : MemoryBlock). slice_set c.args.blocks.now c.in-Some.i (with_cell b c.args.index c.args.value)) (sym c.index-blocks-i.is)
    ∙ put_there (record { serial = c.args.serial; index = c.args.index }) c.args.value c.args.blocks.now c.in-Some.i c.index-blocks-i.result c.in-Some.ensures.stands c.index-blocks-i.is

pub returns-in-Some-clause-rises : goal.returns-in-Some-clause-rises
returns-in-Some-clause-rises c =
    subst Rise
    (sym
    (ap (λ (b : MemoryBlock). slice_set c.args.blocks.now c.in-Some.i b) c.set_cell.ensures
    ∙ ap (λ (b : MemoryBlock). slice_set c.args.blocks.now c.in-Some.i (with_cell b c.args.index c.args.value)) (sym c.index-blocks-i.is)
    ∙ put_there (record { serial = c.args.serial; index = c.args.index }) c.args.value c.args.blocks.now c.in-Some.i c.index-blocks-i.result c.in-Some.ensures.stands c.index-blocks-i.is))
    (put_from 0 c.args.blocks.now (record { serial = c.args.serial; index = c.args.index }) c.args.value c.requires)

pub returns-in-None-clause-put : goal.returns-in-None-clause-put
returns-in-None-clause-put c = put_nowhere (record { serial = c.args.serial; index = c.args.index }) c.args.value c.args.blocks.now c.in-None.ensures.stands
