use Rattle.std.proofs.Common.{sym, ◌∙◌, ap}
use Rattle.std.specs.List.{list_any}
use Rattle.mdr_plain.specs.Locks.{is_held, is_locked}
use Rattle.mdr_world.proofs.BlockLaws.{cells-are, held-wires, locked-is, none-born, none-locked}
use Rattle.mdr_world.proofs.HandleLaws.{dead, is_found, serial_found}
use Rattle.mdr_world.proofs.locks.is_locked.Goals as goal

pub cells-requires : goal.cells-requires
cells-requires c = is_found c.args.blocks.now.handles c.args.serial c.in-Some.b (sym c.find.ensures ∙ c.in-Some.is)

pub returns-in-Some : goal.returns-in-Some
returns-in-Some c =
    let hs = c.args.blocks.now.handles in
    let m = c.args.blocks.now.memory in
    c.has_held.ensures
    ∙ sym (held-wires hs c.cells.result.now)
    ∙ ap (list_any is_held) (cells-are m c.in-Some.b hs c.cells.result.now c.cells.ensures)
    ∙ locked-is m c.in-Some.b.serial c.births-in_order.ensures.in_order.rises
    ∙ ap (λ n. is_locked n m) (serial_found hs c.args.serial c.in-Some.b (sym c.find.ensures ∙ c.in-Some.is))

pub returns-in-None : goal.returns-in-None
returns-in-None c = sym (none-locked c.args.blocks.now.memory c.args.serial (none-born c.args.blocks.now.memory c.args.serial (dead c.args.blocks.now c.births-in_order.ensures.in_order c.args.serial (sym c.find.ensures ∙ c.in-None.is))))
