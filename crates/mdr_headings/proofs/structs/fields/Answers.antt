use Rattle.std.proofs.Common.{refl, ap}
use Rattle.std.proofs.Math.Path.{◌∙◌}
use Rattle.mdr_faults.specs.Faults.{extended}
use Rattle.mdr_headings.specs.Structs.{field_among, fields_behind}
use Rattle.mdr_faults.proofs.Gathered.{one_behind}
use Rattle.mdr_headings.proofs.structs.fields.Goals as goal

pub loop-i-preserved : goal.loop-i-preserved
unfolding fields_behind
loop-i-preserved c = one_behind (fields_behind c.args.scope.now c.args.limit c.args.siblings.now) (field_among c.args.scope.now c.args.limit c.args.siblings.now) (λ before x rest. refl) c.args.ds.now c.loop-i.i c.index-ds-i.result c.loop-i.all _ _ c.loop-i-test.true c.index-ds-i.is (c.in_ok-all.ensures ∙ ap (extended c.loop-i.all) c.in_ok-field.ensures) c.loop-i.invariant
