use Rattle.std.proofs.Common.{◌∙◌, ℤ, ap}
use Rattle.std.specs.Int.{w128}
use Rattle.std.proofs.lemmas.Int.{to_z-of_z}
use Rattle.mdr_mem.specs.Contents.{cell_in}
use Rattle.mdr_model.specs.Memory.{cell_at}
use Rattle.mdr_plain.specs.Scripts.{poked_value}
use Rattle.mdr_world.proofs.PokeLaws.{cell_poked}
use Rattle.mdr_world.proofs.access.poked_cell.Goals as goal

pub returns : goal.returns
returns c =
    c.poked_in.ensures
    ∙ cell_poked c.args.blocks.now.memory c.args.block c.args.blocks.now.handles c.cells.result.now c.args.cell _ c.cells.ensures
    ∙ ap (λ (n : ℤ). poked_value (cell_at c.args.blocks.now.memory (cell_in c.args.block c.args.cell)) n) (to_z-of_z w128 c.args.n c.ranges.n)
