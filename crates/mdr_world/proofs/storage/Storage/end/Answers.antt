use Rattle.std.proofs.Common.{sym, ◌∙◌, ap}
use Rattle.mdr_mem.specs.declared.cells.Life.TheVariants as life
use Rattle.mdr_region.specs.Layout.{laid}
use Rattle.mdr_world.proofs.LaidLaws.{laid_alike}
use Rattle.mdr_world.proofs.storage.Storage.end.Goals as goal

pub returns-clause-counted : goal.returns-clause-counted
returns-clause-counted c = record {
  births = c.with_death.ensures.counted ∙ c.requires.births ∙ sym c.end_in.ensures.births;
  places = ap laid c.with_death.ensures.value ∙ laid_alike c.args.self.now.lives c.args.self.now.blocks.lives (life.Death c.args.serial) c.requires.places ∙ sym (c.end_in.ensures.places c.requires.marked);
  marked = c.end_in.ensures.marked c.requires.marked;
}
