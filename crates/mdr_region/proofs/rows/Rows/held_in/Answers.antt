use Rattle.std.proofs.Common.{◌∙◌, ap, arith}
use Rattle.std.specs.Prelude.{option_map}
use Rattle.mdr_mem.specs.Contents.{wire_in}
use Rattle.mdr_mem.proofs.SoundLaws.{cells-of, cell-inside}
use Rattle.mdr_region.proofs.SlotLaws.{cells-most, cell-get}
use Rattle.mdr_region.proofs.RegionLaws.{row-held, row-low}
use Rattle.mdr_region.proofs.rows.Rows.held_in.Goals as goal

pub load-requires : goal.load-requires
load-requires c =
    let w = c.requires.whole in
    let s = c.args.self.now in
    let r = c.row-row.result in
    omega (
      arith,
      row-low _ _ _ _ _ w.kept c.args.b.slot r c.row-row.ensures,
      w.pool.cells,
      w.pool.places.height,
      cells-most r.start r.cells s.pool.values.items,
      cell-inside _ _ _ _ _ w.kept.memory c.args.b c.requires.alive _ (row-held _ _ _ _ _ w.kept c.args.b.slot r c.row-row.ensures) c.args.cell c.requires.inside,
    )

pub returns : goal.returns
returns c =
    let w = c.requires.whole in
    let s = c.args.self.now in
    let r = c.row-row.result in
    let held = row-held _ _ _ _ _ w.kept c.args.b.slot r c.row-row.ensures in
    cells-of _ _ _ _ _ w.kept.memory c.args.b c.requires.alive _ held c.args.cell
    ∙ (cell-get (wire_in s.live.items) r.start r.cells c.args.cell s.pool.values.items (omega (arith, cells-most r.start r.cells s.pool.values.items, cell-inside _ _ _ _ _ w.kept.memory c.args.b c.requires.alive _ held c.args.cell c.requires.inside))
    ∙ ap (option_map (wire_in s.live.items)) c.load.ensures)
