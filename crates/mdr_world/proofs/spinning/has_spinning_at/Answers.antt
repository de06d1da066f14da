use Rattle.std.proofs.Common.{◌∙◌, ap, map}
use Rattle.std.specs.Prelude.{option_copied, option_map}
use Rattle.mdr_mem.specs.Contents.{wire_in}
use Rattle.mdr_world.proofs.SpinLaws.{spinning-in, none_spins}
use Rattle.mdr_world.proofs.spinning.has_spinning_at.Goals as goal

pub returns-in-Some : goal.returns-in-Some
returns-in-Some c =
    c.has_spinning.ensures
    ∙ spinning-in _ c.args.blocks.now.handles c.in-Some.cells.now (c.cells_at.ensures ∙ ap (λ o. option_map (map (wire_in c.args.blocks.now.handles)) (option_copied o)) c.in-Some.is)

pub returns-in-None : goal.returns-in-None
returns-in-None c = none_spins _ (c.cells_at.ensures ∙ ap (λ o. option_map (map (wire_in c.args.blocks.now.handles)) (option_copied o)) c.in-None.is)
