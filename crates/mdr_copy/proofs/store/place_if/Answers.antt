use Rattle.std.proofs.Common.{sym, ◌∙◌}
use Rattle.mdr_copy.specs.InPlaces.{is_below}
use Rattle.mdr_copy.specs.Serials.{is_block}
use Rattle.mdr_copy.proofs.Places.{searchable}
use Rattle.mdr_copy.proofs.Searches.{found, another}
use Rattle.mdr_copy.proofs.store.place_if.Goals as goal

pub returns-then-is_block-clause-stands : goal.returns-then-is_block-clause-stands
returns-then-is_block-clause-stands c =
    found (is_below c.args.serial) (is_block c.args.serial) c.args.blocks.now c.args.place c.index-blocks-place.result (searchable c.args.serial c.args.blocks.now c.requires.rise) c.requires.place c.requires.inside c.index-blocks-place.is (sym c.is_block.ensures ∙ c.if-is_block.true)

pub returns-else-is_block-clause-stands : goal.returns-else-is_block-clause-stands
returns-else-is_block-clause-stands c =
    another (is_below c.args.serial) (is_block c.args.serial) c.args.blocks.now c.args.place c.index-blocks-place.result (searchable c.args.serial c.args.blocks.now c.requires.rise) c.requires.place c.requires.inside c.index-blocks-place.is (sym c.is_block.ensures ∙ c.if-is_block.false)
