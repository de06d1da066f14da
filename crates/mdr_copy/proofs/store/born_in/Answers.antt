use Rattle.std.proofs.Common.{Some, ap, sym, ◌∙◌}
use Rattle.mdr_model.specs.declared.memory.MemoryBlock.{MemoryBlock}
use Rattle.mdr_copy.proofs.Places.{born_there, born_nowhere}
use Rattle.mdr_copy.proofs.store.born_in.Goals as goal

pub returns-in-Some : goal.returns-in-Some
returns-in-Some c = ap (λ (b : MemoryBlock). Some b.born) (sym c.index-blocks-i.is) ∙ born_there c.args.serial c.args.blocks.now c.in-Some.i c.index-blocks-i.result c.in-Some.ensures.stands c.index-blocks-i.is

pub returns-in-None : goal.returns-in-None
returns-in-None c = born_nowhere c.args.serial c.args.blocks.now c.in-None.ensures.stands
