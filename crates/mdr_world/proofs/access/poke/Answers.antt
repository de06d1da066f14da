use Rattle.std.proofs.Common.{ℤ, sym, ◌∙◌, ap}
use Rattle.std.specs.Int.{w128}
use Rattle.std.proofs.lemmas.Int.{to_z-of_z}
use Rattle.mdr_mem.specs.Contents.{cell_in}
use Rattle.mdr_plain.specs.Scripts.{poked_memory}
use Rattle.mdr_world.proofs.BlockLaws.{none-born}
use Rattle.mdr_world.proofs.HandleLaws.{dead, is_found, serial_found}
use Rattle.mdr_world.proofs.PokeLaws.{none_poked, poked_by_serial}
use Rattle.mdr_world.specs.Reaching.{with_memory}
use Rattle.mdr_world.proofs.access.poke.Goals as goal

pub poke_block-requires : goal.poke_block-requires
poke_block-requires c = is_found c.args.blocks.now.handles c.args.serial c.in-Some.block (sym c.find.ensures ∙ c.in-Some.is)

pub returns-in-Some : goal.returns-in-Some
returns-in-Some c =
    poked_by_serial c.args.blocks.now c.poke_block.new.blocks c.args.serial c.in-Some.block.serial c.args.index c.args.n
    (serial_found c.args.blocks.now.handles c.args.serial c.in-Some.block (sym c.find.ensures ∙ c.in-Some.is))
    (c.poke_block.ensures ∙ ap (λ (n : ℤ). with_memory (poked_memory (cell_in c.in-Some.block c.args.index) n c.args.blocks.now.memory) c.args.blocks.now) (to_z-of_z w128 c.args.n c.ranges.n))

pub returns-in-None : goal.returns-in-None
returns-in-None c =
    none_poked c.args.blocks.now (record { serial = c.args.serial; index = c.args.index }) c.args.n
    (none-born c.args.blocks.now.memory c.args.serial (dead c.args.blocks.now c.births-in_order.ensures.in_order c.args.serial (sym c.find.ensures ∙ c.in-None.is)))
