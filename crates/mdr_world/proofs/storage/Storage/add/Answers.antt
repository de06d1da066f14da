use Rattle.std.proofs.Common.{◌+◌, length, sym, ◌∙◌, ap, subst}
use Rattle.mdr_mem.specs.Contents.{Contents, births_in}
use Rattle.mdr_mem.specs.declared.cells.Life.TheVariants as life
use Rattle.mdr_region.specs.Layout.{laid}
use Rattle.mdr_world.proofs.LaidLaws.{laid_alike, marked_birth}
use Rattle.mdr_world.proofs.StorageLaws.{births-birth}
use Rattle.mdr_world.specs.Stored.{AreMarked}
use Rattle.mdr_world.proofs.storage.Storage.add.Goals as goal

pub returns-clause-counted : goal.returns-clause-counted
returns-clause-counted c = record {
  births = c.with_birth.ensures.counted ∙ ap (λ x. x + 1) c.requires.births ∙ sym (births-birth c.args.self.now.blocks.lives (length c.args.first.now)) ∙ sym (ap (λ (s : Contents). births_in s.lives) c.in_ok-block.ensures.born);
  places = ap laid c.with_birth.ensures.value ∙ laid_alike c.args.self.now.lives c.args.self.now.blocks.lives (life.Birth (length c.args.first.now)) c.requires.places ∙ sym (ap (λ (s : Contents). laid s.lives) c.in_ok-block.ensures.born);
  marked = subst (λ (s : Contents). AreMarked s.lives s.handles) (sym c.in_ok-block.ensures.born) (marked_birth c.args.self.now.blocks.lives c.args.self.now.blocks.handles c.in_ok-block.block (length c.args.first.now) c.in_ok-block.ensures.next c.requires.marked);
}
