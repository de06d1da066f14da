use Rattle.std.proofs.Common.{sym, ◌∙◌, ap}
use Rattle.mdr_model.specs.Memory.{born_at}
use Rattle.mdr_world.proofs.BlockLaws.{none-born}
use Rattle.mdr_world.proofs.HandleLaws.{dead, is_found, serial_found}
use Rattle.mdr_world.proofs.handles.born_now.Goals as goal

pub born_of-requires : goal.born_of-requires
born_of-requires c = is_found c.args.blocks.now.handles c.args.serial c.in-Some.b (sym c.find.ensures ∙ c.in-Some.is)

pub returns-in-Some : goal.returns-in-Some
returns-in-Some c =
    sym c.born_of.ensures ∙ ap (born_at c.args.blocks.now.memory) (serial_found c.args.blocks.now.handles c.args.serial c.in-Some.b (sym c.find.ensures ∙ c.in-Some.is))

pub returns-in-None : goal.returns-in-None
returns-in-None c = sym (none-born c.args.blocks.now.memory c.args.serial (dead c.args.blocks.now c.births-in_order.ensures.in_order c.args.serial (sym c.find.ensures ∙ c.in-None.is)))
