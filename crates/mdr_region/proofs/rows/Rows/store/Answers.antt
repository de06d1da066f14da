use Rattle.std.proofs.Common.{◌∙◌, arith}
use Rattle.mdr_mem.specs.Rows.{blocks_of}
use Rattle.mdr_region.specs.Cells.{put_cell}
use Rattle.mdr_region.specs.Slots.{held_slots}
use Rattle.mdr_region.proofs.RegionLaws.{row-low}
use Rattle.mdr_region.proofs.ContentLaws.{region-stored, contents-stored}
use Rattle.mdr_region.proofs.rows.Rows.store.Goals as goal

pub put-requires-clause-inside : goal.put-requires-clause-inside
put-requires-clause-inside c =
    let w = c.requires.whole in
    omega (arith, row-low _ _ _ _ _ w.kept c.args.b.slot c.row-row.result c.row-row.ensures, w.pool.cells, w.pool.places.height)

pub returns-clause-whole : goal.returns-clause-whole
returns-clause-whole c =
    let w = c.requires.whole in
    let s = c.args.self.now in
    let r = c.row-row.result in
    record {
      kept = rw (c.put.ensures.values, c.put.ensures.places, c.current-kept.ensures)
          (region-stored s.live.items s.rows.slots s.pool.values.items s.pool.places.lives s.pool.places.births w.kept c.args.b c.requires.alive r c.row-row.ensures c.args.cell c.args.v);
      pool = c.put.ensures.sound;
      listed = omega (arith, c.put.ensures.births_left, w.listed);
      room = omega (arith, c.put.ensures.births_left, w.room);
      small = λ some. w.small (omega (arith, some, c.put.ensures.births_left));
    }

pub returns-clause-stored : goal.returns-clause-stored
returns-clause-stored c =
    let w = c.requires.whole in
    let s = c.args.self.now in
    let r = c.row-row.result in
    (λ i. record {
      handles = s.live.items;
      memory = blocks_of s.live.items (held_slots (c.put.ensures.values i) s.rows.slots) s.live.items;
      lives = (c.put.ensures.places i).lives;
    })
    ∙ ((λ i. record {
      handles = s.live.items;
      memory = blocks_of s.live.items (held_slots (put_cell r.start r.cells c.args.cell (c.current-kept.ensures i) s.pool.values.items) s.rows.slots) s.live.items;
      lives = s.pool.places.lives;
    })
    ∙ contents-stored s.live.items s.rows.slots s.pool.values.items s.pool.places.lives s.pool.places.births w.kept c.args.b c.requires.alive r c.row-row.ensures c.args.cell c.args.v)
