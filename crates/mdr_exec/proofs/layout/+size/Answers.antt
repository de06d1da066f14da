-- The proof of `struct_size` and `size_below`.
use Rattle.std.proofs.Common.{length, arith}
use Rattle.mdr_core.specs.Layout.{leaves_below, struct_cells, fields_of, Alone}
use Rattle.mdr_core.proofs.Lying.{known_struct, unknown_struct, size_more, size_over}
use Rattle.mdr_exec.proofs.layout.+size.Goals as goal

pub size_below-returns-then-s-below : goal.size_below-returns-then-s-below
size_below-returns-then-s-below t c = known_struct c.args.structs.now c.args.below c.in-Struct.s Alone c.args.ty.now c.struct_size.result c.if-s-below.true c.in-Struct.is c.struct_size.ensures

pub size_below-returns-else-s-below : goal.size_below-returns-else-s-below
size_below-returns-else-s-below t c = unknown_struct c.args.structs.now c.args.below c.in-Struct.s Alone c.args.ty.now c.if-s-below.false c.in-Struct.is

pub struct_size-overflow_mul-total : goal.struct_size-overflow_mul-total
struct_size-overflow_mul-total t c =
    let more = size_more (leaves_below c.args.structs.now c.args.s) c.args.s (fields_of c.args.structs.now c.args.s) c.fields-field-items.result.now c.loop-field.field-index c.field-item.result c.loop-field.total (length (struct_cells c.args.structs.now c.args.s)) c.size_below.result c.fields-field-items.ensures c.loop-field-test.true c.field-item.is c.size_below.ensures c.loop-field.invariant in
    let few = c.requires.within c.args.s in
    omega arith

pub struct_size-overflow_add-total : goal.struct_size-overflow_add-total
struct_size-overflow_add-total t c =
    let more = size_more (leaves_below c.args.structs.now c.args.s) c.args.s (fields_of c.args.structs.now c.args.s) c.fields-field-items.result.now c.loop-field.field-index c.field-item.result c.loop-field.total (length (struct_cells c.args.structs.now c.args.s)) c.size_below.result c.fields-field-items.ensures c.loop-field-test.true c.field-item.is c.size_below.ensures c.loop-field.invariant in
    let few = c.requires.within c.args.s in
    omega arith

pub struct_size-loop-field-preserved : goal.struct_size-loop-field-preserved
struct_size-loop-field-preserved t c = size_more _ _ _ _ _ _ _ _ _ c.fields-field-items.ensures c.loop-field-test.true c.field-item.is c.size_below.ensures c.loop-field.invariant

pub struct_size-returns : goal.struct_size-returns
struct_size-returns t c = size_over _ _ _ _ _ _ _ c.fields-field-items.ensures c.loop-field-test.false c.loop-field.invariant
