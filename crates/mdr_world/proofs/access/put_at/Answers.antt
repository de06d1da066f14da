use Rattle.std.proofs.Common.{sym, ◌∙◌}
use Rattle.mdr_meaning.specs.Values.{wire_of}
use Rattle.mdr_model.specs.Memory.{normal}
use Rattle.mdr_world.proofs.BlockLaws.{none-born}
use Rattle.mdr_world.proofs.HandleLaws.{dead, is_found, serial_found}
use Rattle.mdr_world.proofs.PokeLaws.{none_put, put_by_serial}
use Rattle.mdr_world.proofs.access.put_at.Goals as goal

pub put_now-requires : goal.put_now-requires
put_now-requires c = is_found c.args.blocks.now.handles c.args.serial c.in-Some.block (sym c.find.ensures ∙ c.in-Some.is)

pub returns-in-Some : goal.returns-in-Some
returns-in-Some c =
    put_by_serial c.args.blocks.now c.put_now.new.blocks c.args.serial c.in-Some.block.serial c.args.index (normal c.args.blocks.now.memory (wire_of c.args.v))
    (serial_found c.args.blocks.now.handles c.args.serial c.in-Some.block (sym c.find.ensures ∙ c.in-Some.is)) c.put_now.ensures

pub returns-in-None : goal.returns-in-None
returns-in-None c =
    none_put c.args.blocks.now (record { serial = c.args.serial; index = c.args.index }) (normal c.args.blocks.now.memory (wire_of c.args.v))
    (none-born c.args.blocks.now.memory c.args.serial (dead c.args.blocks.now c.births-in_order.ensures.in_order c.args.serial (sym c.find.ensures ∙ c.in-None.is)))
