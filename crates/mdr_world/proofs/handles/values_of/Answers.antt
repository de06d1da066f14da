use Rattle.std.proofs.Common.{◌≡◌, sym, ◌∙◌, ap, map, subst}
use Rattle.std.specs.Prelude.{IfOk}
use Rattle.mdr_meaning.specs.Values.{wire_of}
use Rattle.mdr_plain.specs.Scripts.{block_cells}
use Rattle.mdr_world.proofs.BlockLaws.{no-cells, none-born}
use Rattle.mdr_world.proofs.HandleLaws.{dead, is_found, serial_found}
use Rattle.mdr_world.proofs.handles.values_of.Goals as goal

pub cells_now-requires : goal.cells_now-requires
cells_now-requires c = is_found c.args.blocks.now.handles c.args.serial c.in-Some.b (sym c.find.ensures ∙ c.in-Some.is)

pub returns-in-Some : goal.returns-in-Some
returns-in-Some c =
    subst (λ n. IfOk c.cells_now.result (λ vs. map wire_of vs ≡ block_cells c.args.blocks.now.memory n))
    (serial_found c.args.blocks.now.handles c.args.serial c.in-Some.b (sym c.find.ensures ∙ c.in-Some.is)) c.cells_now.ensures

pub returns-in-None : goal.returns-in-None
returns-in-None c =
    ap (map wire_of) c.new.ensures
    ∙ sym (no-cells c.args.blocks.now.memory c.args.serial (none-born c.args.blocks.now.memory c.args.serial (dead c.args.blocks.now c.births-in_order.ensures.in_order c.args.serial (sym c.find.ensures ∙ c.in-None.is))))
