use Rattle.std.proofs.lemmas.List.{length-append}
use Rattle.std.proofs.Common.{◌≡◌, ◌∷◌, [], map, length, sym, ◌∙◌, ap, subst, refl, arith}
use Rattle.mdr_mem.specs.Contents.{current, after_birth, born_as}
use Rattle.mdr_mem.specs.Rows.{blocks_of}
use Rattle.mdr_region.specs.declared.pool.Pool.{Pool}
use Rattle.mdr_region.specs.Layout.{laid}
use Rattle.mdr_region.specs.Blocks.{IsBlock}
use Rattle.mdr_region.specs.Cells.{written}
use Rattle.mdr_region.specs.Slots.{current_at, settled, held_slots}
use Rattle.mdr_region.proofs.KeptLaws.{block_low}
use Rattle.mdr_region.proofs.SlotLaws.{settled-written, currents-there}
use Rattle.mdr_region.proofs.RegionLaws.{row-agrees}
use Rattle.mdr_region.proofs.ContentLaws.{region-born, contents-born}
use Rattle.mdr_region.proofs.rows.Rows.birth.Goals as goal

pub settle-requires : goal.settle-requires
settle-requires c = omega (arith, block_low _ _ _ _ _ _ _ _ _ _ c.birth.ensures.sound.places c.in_ok-start.ensures.born.block, c.birth.ensures.sound.cells)

pub returns-clause-whole : goal.returns-clause-whole
returns-clause-whole c =
    let m = c.next_handle.new.self in
    let w = c.next_handle.ensures.whole in
    let first = c.args.first.now in
    let block = c.in_ok-block.block in
    let start = c.in_ok-start.start in
    let key = c.insert_reserved.ensures.key ∙ sym c.in_ok-block.ensures.slot in
    let values : c.settle.new.values.items ≡ written start (map (current m.live.items) first) m.pool.values.items =
    c.settle.ensures.values
    ∙ (ap (settled (current_at m.rows.slots) start first) c.in_ok-start.ensures.born.values
    ∙ (settled-written (current_at m.rows.slots) start first m.pool.values.items c.in_ok-start.ensures.born.low
    ∙ ap (λ vs. written start vs m.pool.values.items) (currents-there m.live.items m.rows.slots (row-agrees _ _ _ _ _ w.kept) first))) in
    record {
      kept = rw (c.push_reserved.ensures.items, values, c.in_ok-start.ensures.born.lives, c.in_ok-start.ensures.born.serials)
          (region-born m.live.items m.rows.slots c.insert_reserved.new.self.slots m.pool.values.items m.pool.places.lives m.pool.places.births w.kept w.pool.places.fresh w.pool.places.next (w.pool.cells ∙ w.pool.places.height)
          block _ first (c.in_ok-block.ensures.serial ∙ ap (λ (p : Pool). p.places.births) (sym c.next_handle.ensures.pool)) refl refl
          (rw key at c.insert_reserved.ensures.was_vacant) (rw key at c.insert_reserved.ensures.updates.changed) (λ n k. c.insert_reserved.ensures.updates.others n (λ e. k (e ∙ key)))
          (subst (λ ls. IsBlock (laid ls).marks m.pool.places.births start (length first)) c.in_ok-start.ensures.born.lives c.in_ok-start.ensures.born.block));
      pool = record {
        places = c.birth.ensures.sound.places;
        cells = c.settle.ensures.length ∙ c.birth.ensures.sound.cells;
        roomy = omega (arith, c.settle.ensures.length, c.settle.ensures.capacity, c.birth.ensures.sound.roomy);
        births = c.birth.ensures.sound.births;
        serials = c.birth.ensures.sound.serials;
      };
      listed = omega (arith, ap length c.push_reserved.ensures.items, length-append m.live.items (block ∷ []), c.push_reserved.ensures.capacity, c.in_ok-start.ensures.born.births_left, w.listed, c.in_ok-block.ensures.listed);
      room = omega (arith, c.insert_reserved.ensures.len, c.insert_reserved.ensures.capacity, c.in_ok-start.ensures.born.births_left, w.room, c.in_ok-block.ensures.room);
      small = λ more. omega (arith, c.insert_reserved.ensures.capacity, w.small (omega (arith, more, c.in_ok-start.ensures.born.births_left)));
    }

pub returns-clause-born : goal.returns-clause-born
returns-clause-born c =
    let m = c.next_handle.new.self in
    let w = c.next_handle.ensures.whole in
    let first = c.args.first.now in
    let block = c.in_ok-block.block in
    let start = c.in_ok-start.start in
    let key = c.insert_reserved.ensures.key ∙ sym c.in_ok-block.ensures.slot in
    let values : c.settle.new.values.items ≡ written start (map (current m.live.items) first) m.pool.values.items =
    c.settle.ensures.values
    ∙ (ap (settled (current_at m.rows.slots) start first) c.in_ok-start.ensures.born.values
    ∙ (settled-written (current_at m.rows.slots) start first m.pool.values.items c.in_ok-start.ensures.born.low
    ∙ ap (λ vs. written start vs m.pool.values.items) (currents-there m.live.items m.rows.slots (row-agrees _ _ _ _ _ w.kept) first))) in
    (λ i. record {
      handles = c.push_reserved.ensures.items i;
      memory = blocks_of (c.push_reserved.ensures.items i) (held_slots (values i) c.insert_reserved.new.self.slots) (c.push_reserved.ensures.items i);
      lives = c.in_ok-start.ensures.born.lives i;
    })
    ∙ (contents-born m.live.items m.rows.slots c.insert_reserved.new.self.slots m.pool.values.items m.pool.places.lives m.pool.places.births w.kept w.pool.places.fresh w.pool.places.next (w.pool.cells ∙ w.pool.places.height)
    block (record { born = born_as c.args.kind c.args.shape block; start = start; cells = length first }) first (c.in_ok-block.ensures.serial ∙ ap (λ (p : Pool). p.places.births) (sym c.next_handle.ensures.pool)) refl refl
    (rw key at c.insert_reserved.ensures.was_vacant) (rw key at c.insert_reserved.ensures.updates.changed) (λ n k. c.insert_reserved.ensures.updates.others n (λ e. k (e ∙ key)))
    (subst (λ ls. IsBlock (laid ls).marks m.pool.places.births start (length first)) c.in_ok-start.ensures.born.lives c.in_ok-start.ensures.born.block)
    ∙ ap (after_birth c.args.kind c.args.shape first block) c.next_handle.ensures.contents)
