use Rattle.std.proofs.Common.{◌∙◌, ap, refl, arith}
use Rattle.slab.specs.Slab.{Slab, slab_len}
use Rattle.mdr_region.specs.declared.slots.Row.{Row}
use Rattle.mdr_region.specs.Slots.{row_in}
use Rattle.mdr_region.proofs.WholeLaws.{whole-moved, contents-moved}
use Rattle.mdr_region.proofs.rows.Rows.next_handle.Goals as goal

pub returns-in_err-slot-clause-whole : goal.returns-in_err-slot-clause-whole
returns-in_err-slot-clause-whole c =
    let w = c.requires in
    let slots = ap (λ (r : Slab Row). r.slots) c.reserve-2.ensures.rest_kept in
    whole-moved c.args.self.now _ w c.reserve.ensures.items refl (λ n. c.next_slot.ensures.same n ∙ ap (λ l. row_in l n) slots) c.reserve.ensures.capacity
    (omega (arith, c.next_slot.ensures.len, c.next_slot.ensures.capacity, ap slab_len c.reserve-2.ensures.rest_kept, c.reserve-2.ensures.capacity, w.room))
    (λ more. omega (arith, c.next_slot.ensures.capacity, ap (λ (r : Slab Row). r.capacity) (c.reserve-2.ensures.had_room (omega (arith, more, w.room))), w.small more))

pub returns-in_err-slot-clause-contents : goal.returns-in_err-slot-clause-contents
returns-in_err-slot-clause-contents c =
    let slots = ap (λ (r : Slab Row). r.slots) c.reserve-2.ensures.rest_kept in
    let s = c.args.self.now in
    contents-moved s.live.items c.reserve.new.self.items s.rows.slots c.next_slot.new.rows.slots s.pool.values.items s.pool.places.lives c.reserve.ensures.items (λ n. c.next_slot.ensures.same n ∙ ap (λ l. row_in l n) slots)

pub returns-clause-whole : goal.returns-clause-whole
returns-clause-whole c =
    let w = c.requires in
    let slots = ap (λ (r : Slab Row). r.slots) c.reserve-2.ensures.rest_kept in
    whole-moved c.args.self.now _ w c.reserve.ensures.items refl (λ n. c.next_slot.ensures.same n ∙ ap (λ l. row_in l n) slots) c.reserve.ensures.capacity
    (omega (arith, c.next_slot.ensures.len, c.next_slot.ensures.capacity, ap slab_len c.reserve-2.ensures.rest_kept, c.reserve-2.ensures.capacity, w.room))
    (λ more. omega (arith, c.next_slot.ensures.capacity, ap (λ (r : Slab Row). r.capacity) (c.reserve-2.ensures.had_room (omega (arith, more, w.room))), w.small more))

pub returns-clause-contents : goal.returns-clause-contents
returns-clause-contents c =
    let slots = ap (λ (r : Slab Row). r.slots) c.reserve-2.ensures.rest_kept in
    let s = c.args.self.now in
    contents-moved s.live.items c.reserve.new.self.items s.rows.slots c.next_slot.new.rows.slots s.pool.values.items s.pool.places.lives c.reserve.ensures.items (λ n. c.next_slot.ensures.same n ∙ ap (λ l. row_in l n) slots)
