use Rattle.std.proofs.Common.{ap, sym, ◌∙◌}
use Rattle.std.specs.Prelude.{not}
use Rattle.mdr_core.specs.Layout.{fields_of, leaves_below}
use Rattle.mdr_fits.proofs.OpenCells.{known_open, locked_here, none_open, open_on, open_to_end, scalars_open, unknown_open}
use Rattle.mdr_fits.proofs.unlocked.+unlocked.Goals as goal

pub struct_is_open-returns-then-not-field_is_open : goal.struct_is_open-returns-then-not-field_is_open
struct_is_open-returns-then-not-field_is_open t c = locked_here (leaves_below c.args.structs.now c.args.s) c.args.s (fields_of c.args.structs.now c.args.s) c.fields-field-items.result.now c.loop-field.field-index c.field-item.result _ c.fields-field-items.ensures c.loop-field-test.true c.field-item.is (sym c.if-not-field_is_open.ensures) c.loop-field.invariant

pub struct_is_open-loop-field-preserved : goal.struct_is_open-loop-field-preserved
struct_is_open-loop-field-preserved t c = open_on (leaves_below c.args.structs.now c.args.s) c.args.s (fields_of c.args.structs.now c.args.s) c.fields-field-items.result.now c.loop-field.field-index c.field-item.result _ c.fields-field-items.ensures c.loop-field-test.true c.field-item.is (sym c.if-not-field_is_open.ensures) c.loop-field.invariant

pub struct_is_open-returns : goal.struct_is_open-returns
struct_is_open-returns t c = open_to_end (leaves_below c.args.structs.now c.args.s) c.args.s (fields_of c.args.structs.now c.args.s) c.fields-field-items.result.now c.loop-field.field-index _ c.fields-field-items.ensures c.loop-field-test.false c.loop-field.invariant

pub field_is_open-returns-then-count-eq0 : goal.field_is_open-returns-then-count-eq0
field_is_open-returns-then-count-eq0 t c = none_open c.args.count _ c.if-count-eq0.true

pub field_is_open-returns-then-s-below : goal.field_is_open-returns-then-s-below
field_is_open-returns-then-s-below t c = c.struct_is_open.ensures ∙ known_open c.args.structs.now c.args.below c.args.count c.args.ty.now c.in-Some.s c.if-count-eq0.false (sym c.struct_named.ensures ∙ c.in-Some.is) c.if-s-below.true

pub field_is_open-returns-else-s-below : goal.field_is_open-returns-else-s-below
field_is_open-returns-else-s-below t c = unknown_open c.args.structs.now c.args.below c.args.count c.args.ty.now c.in-Some.s (sym c.struct_named.ensures ∙ c.in-Some.is) c.if-s-below.false

pub field_is_open-returns-in-None : goal.field_is_open-returns-in-None
field_is_open-returns-in-None t c = ap not c.is_lock.ensures ∙ scalars_open (leaves_below c.args.structs.now c.args.below) c.args.count c.args.ty.now c.if-count-eq0.false (sym c.struct_named.ensures ∙ c.in-None.is)
