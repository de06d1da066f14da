use Rattle.mdr_reach.proofs.RowLaws.{arounds_more, arounds_over, field_offsets_more, field_offsets_over, starts_more, starts_over}
use Rattle.mdr_reach.specs.Spots.{in_field, known_arounds, known_offsets}
use Rattle.mdr_reach.proofs.rows.fields_row.Goals as goal

pub loop-f-preserved : goal.loop-f-preserved
loop-f-preserved c = record {
  arounds = arounds_more c.args.touched.now (known_arounds c.args.rows.now) c.args.s _ _ _ c.args.fields.now c.loop-f.f c.index-fields-f.result c.loop-f-test.true c.index-fields-f.is c.in_ok-push_field.ensures.arounds c.loop-f.invariant.arounds;
  offsets = field_offsets_more (known_offsets c.args.rows.now) _ _ _ c.args.fields.now c.loop-f.f c.index-fields-f.result c.loop-f-test.true c.index-fields-f.is c.in_ok-push_field.ensures.offsets c.loop-f.invariant.offsets;
  starts = starts_more (known_arounds c.args.rows.now) (in_field c.args.touched.now c.args.s c.loop-f.f) _ _ _ _ _ c.args.fields.now c.loop-f.f c.index-fields-f.result c.loop-f-test.true c.index-fields-f.is c.in_ok-push_field.ensures.arounds c.in_ok-push_field.ensures.starts c.loop-f.invariant.starts;
}

pub returns-clause-arounds : goal.returns-clause-arounds
returns-clause-arounds c = arounds_over _ _ _ _ _ _ c.loop-f.f c.loop-f-test.false c.loop-f.invariant.arounds

pub returns-clause-offsets : goal.returns-clause-offsets
returns-clause-offsets c = field_offsets_over _ _ _ _ c.loop-f.f c.loop-f-test.false c.loop-f.invariant.offsets

pub returns-clause-starts : goal.returns-clause-starts
returns-clause-starts c = starts_over _ _ _ _ _ c.loop-f.f c.loop-f-test.false c.loop-f.invariant.starts
