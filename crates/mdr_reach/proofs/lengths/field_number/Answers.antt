use Rattle.std.proofs.Common.{◌+◌, ◌∙◌, ap, map, rules}
use Rattle.std.specs.Int.{w128}
use Rattle.std.specs.Prelude.{slice_get}
use Rattle.std.specs.Option.{option_map}
use Rattle.std.proofs.lemmas.Int.{to_z-of_z}
use Rattle.mdr_extents.specs.Extent.{number_in}
use Rattle.mdr_meaning.specs.Values.{wire_of}
use Rattle.mdr_mem.specs.Contents.{wire_in}
use Rattle.mdr_reach.proofs.ExtentLaws.{number_same}
use Rattle.mdr_reach.proofs.lengths.field_number.Goals as goal

pub returns : goal.returns
returns c =
    to_z-of_z w128 c.number.result (search rules) ∙ c.number.ensures ∙ ap (λ o. number_in (option_map wire_of o)) c.item_behind.ensures
    ∙ number_same c.args.scene.blocks.now.handles c.args.cells.now (c.args.start + c.start_of-begins.result)
    ∙ ap (λ n. number_in (slice_get (map (wire_in c.args.scene.blocks.now.handles) c.args.cells.now) (c.args.start + n))) c.start_of-begins.ensures
