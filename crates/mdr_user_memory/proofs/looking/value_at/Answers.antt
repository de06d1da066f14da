use Rattle.std.proofs.Common.{◌∙◌, sym, ap}
use Rattle.std.specs.Prelude.{option_map}
use Rattle.mdr_mem.specs.Contents.{wire_in}
use Rattle.mdr_model.proofs.LifeLaws.{get-map}
use Rattle.mdr_user_memory.proofs.looking.value_at.Goals as goal

pub returns : goal.returns
returns c =
    ap (λ o. option_map (wire_in c.args.region.now.contents.handles) o) c.item.ensures
    ∙ (sym (get-map (wire_in c.args.region.now.contents.handles) c.cells.result.now c.args.index) ∙ sym (c.cells.ensures c.args.index))
