use Rattle.std.proofs.Common.{◌∙◌, ℤ, ap}
use Rattle.std.specs.Int.{w128}
use Rattle.std.proofs.lemmas.Int.{to_z-of_z}
use Rattle.mdr_mem.specs.Contents.{cell_in}
use Rattle.mdr_model.specs.Memory.{cell_at}
use Rattle.mdr_plain.specs.Scripts.{poked_value}
use Rattle.mdr_world.proofs.PokeLaws.{put_none, put_some}
use Rattle.mdr_world.proofs.access.poke_block.Goals as goal

pub returns-in-Some : goal.returns-in-Some
returns-in-Some c =
    c.put_integer.ensures
    ∙ put_some c.args.blocks.now (cell_in c.args.block c.args.cell) c.args.n c.poked_cell.result c.in-Some.integer
    (c.poked_cell.ensures ∙ ap (λ (n : ℤ). poked_value (cell_at c.args.blocks.now.memory (cell_in c.args.block c.args.cell)) n) (to_z-of_z w128 c.args.n c.ranges.n)) c.in-Some.is

pub returns-in-None : goal.returns-in-None
returns-in-None c =
    put_none c.args.blocks.now (cell_in c.args.block c.args.cell) c.args.n c.poked_cell.result
    (c.poked_cell.ensures ∙ ap (λ (n : ℤ). poked_value (cell_at c.args.blocks.now.memory (cell_in c.args.block c.args.cell)) n) (to_z-of_z w128 c.args.n c.ranges.n)) c.in-None.is
