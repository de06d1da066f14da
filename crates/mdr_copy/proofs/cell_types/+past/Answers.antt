use Rattle.std.proofs.Common.{◌+◌, List, length, slice_get, Some, sym, ◌∙◌, subst, ◌≡◌, arith}
use Rattle.std.specs.Prelude.{MatchOption}
use Rattle.mdr_core.specs.declared.types.Ty.{Ty}
use Rattle.mdr_core.specs.Layout.{repeated, leaves_below, struct_cells, fields_of}
use Rattle.mdr_copy.specs.CellTypes.{types_of}
use Rattle.mdr_copy.proofs.Passing.{onward, found, known_row, unknown_row, some_way, none_way, walked_field, walked_fields, walked_element, walked_elements}
use Rattle.mdr_copy.proofs.cell_types.+past.Goals as goal

pub past_field-returns-then-s-below : goal.past_field-returns-then-s-below
past_field-returns-then-s-below t c =
    subst (λ (ts : List Ty). MatchOption c.past_structs.result.found (length ts + c.past_structs.result.left ≡ c.args.left) (λ r. slice_get ts c.args.left ≡ Some r.now))
    (sym (known_row c.args.structs.now c.args.below c.args.count c.args.ty.now c.in-Some.s (sym c.struct_named.ensures ∙ c.in-Some.is) c.if-s-below.true)) c.past_structs.ensures

pub past_field-returns-else-s-below : goal.past_field-returns-else-s-below
past_field-returns-else-s-below t c =
    rw (c.behind.ensures.found, c.behind.ensures.left, unknown_row c.args.structs.now c.args.below c.args.count c.args.ty.now c.in-Some.s (sym c.struct_named.ensures ∙ c.in-Some.is) c.if-s-below.false) (omega arith)

pub past_struct-returns-then-is_some : goal.past_struct-returns-then-is_some
past_struct-returns-then-is_some t c =
    let known = leaves_below c.args.structs.now c.args.s in
    let w = walked_field (types_of (struct_cells c.args.structs.now c.args.s)) known c.args.s (fields_of c.args.structs.now c.args.s) c.fields-field-items.result.now c.loop-field.field-index c.field-item.result c.args.left c.loop-field.rest c.loop-field.invariant c.fields-field-items.ensures c.loop-field-test.true c.field-item.is in
    some_way c.past_field-passed.result.found _ _ _ _ (sym c.is_some.ensures ∙ c.if-is_some.true) (λ r e. found _ _ _ c.args.left c.loop-field.rest r.now w e) c.past_field-passed.ensures

pub past_struct-loop-field-preserved : goal.past_struct-loop-field-preserved
past_struct-loop-field-preserved t c =
    let known = leaves_below c.args.structs.now c.args.s in
    let w = walked_field (types_of (struct_cells c.args.structs.now c.args.s)) known c.args.s (fields_of c.args.structs.now c.args.s) c.fields-field-items.result.now c.loop-field.field-index c.field-item.result c.args.left c.loop-field.rest c.loop-field.invariant c.fields-field-items.ensures c.loop-field-test.true c.field-item.is in
    onward _ _ _ c.args.left c.loop-field.rest c.past_field-passed.result.left w (none_way c.past_field-passed.result.found _ _ (sym c.is_some.ensures ∙ c.if-is_some.false) c.past_field-passed.ensures)

pub past_struct-returns : goal.past_struct-returns
past_struct-returns t c =
    rw (c.behind.ensures.found, c.behind.ensures.left)
    (walked_fields (types_of (struct_cells c.args.structs.now c.args.s)) (leaves_below c.args.structs.now c.args.s) c.args.s (fields_of c.args.structs.now c.args.s) c.fields-field-items.result.now c.loop-field.field-index c.args.left c.loop-field.rest c.loop-field.invariant c.fields-field-items.ensures c.loop-field-test.false)

pub past_structs-returns-then-is_some : goal.past_structs-returns-then-is_some
past_structs-returns-then-is_some t c =
    let w = walked_element (types_of (repeated c.args.count (struct_cells c.args.structs.now c.args.s))) c.args.count c.loop.counter (struct_cells c.args.structs.now c.args.s) c.args.left c.loop.rest c.loop.invariant c.loop-test.true in
    some_way c.past_struct-passed.result.found _ _ _ _ (sym c.is_some.ensures ∙ c.if-is_some.true) (λ r e. found _ _ _ c.args.left c.loop.rest r.now w e) c.past_struct-passed.ensures

pub past_structs-loop-preserved : goal.past_structs-loop-preserved
past_structs-loop-preserved t c =
    let w = walked_element (types_of (repeated c.args.count (struct_cells c.args.structs.now c.args.s))) c.args.count c.loop.counter (struct_cells c.args.structs.now c.args.s) c.args.left c.loop.rest c.loop.invariant c.loop-test.true in
    onward _ _ _ c.args.left c.loop.rest c.past_struct-passed.result.left w (none_way c.past_struct-passed.result.found _ _ (sym c.is_some.ensures ∙ c.if-is_some.false) c.past_struct-passed.ensures)

pub past_structs-returns : goal.past_structs-returns
past_structs-returns t c =
    rw (c.behind.ensures.found, c.behind.ensures.left)
    (walked_elements (types_of (repeated c.args.count (struct_cells c.args.structs.now c.args.s))) c.args.count c.loop.counter (struct_cells c.args.structs.now c.args.s) c.args.left c.loop.rest c.loop.invariant c.loop-test.false)
