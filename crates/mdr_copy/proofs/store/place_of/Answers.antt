use Rattle.std.proofs.Common.{arith}
use Rattle.mdr_copy.specs.InPlaces.{is_below}
use Rattle.mdr_copy.specs.Serials.{is_block}
use Rattle.mdr_copy.proofs.Places.{searchable}
use Rattle.mdr_copy.proofs.Searches.{smaller}
use Rattle.mdr_copy.proofs.store.place_of.Goals as goal

pub returns-else-place-blocks-clause-stands : goal.returns-else-place-blocks-clause-stands
returns-else-place-blocks-clause-stands c =
    let over = c.if-place-blocks.false in
    smaller (is_below c.args.serial) (is_block c.args.serial) c.args.blocks.now c.place_for-place.result (searchable c.args.serial c.args.blocks.now c.requires) c.place_for-place.ensures.place (omega (arith, over))
