use Rattle.std.proofs.Common.{arith, map}
use Rattle.std.proofs.lemmas.Bool.{both_ways}
use Rattle.std.proofs.lemmas.List.{length-map}
use Rattle.mdr_access.specs.Told.{form_of}
use Rattle.mdr_access.proofs.OwnedLaws.{one_has, none_more, none_at_all}
use Rattle.mdr_access.proofs.owned.has_one.Goals as goal

pub returns-then-form_has : goal.returns-then-form_has
returns-then-form_has c = one_has c.args.program.now form_of c.args.forms.now c.loop-form.form-index c.form-item.result c.args.key (omega arith) c.form-item.is (c.form_has.ensures.0 c.if-form_has.true)

pub loop-form-preserved : goal.loop-form-preserved
loop-form-preserved c =
    none_more c.args.program.now form_of c.args.forms.now c.loop-form.form-index c.form-item.result c.args.key (omega arith) c.form-item.is (λ h. both_ways _ c.if-form_has.false (c.form_has.ensures.1 h)) c.loop-form.invariant

pub returns : goal.returns
returns c = none_at_all c.args.program.now (map form_of c.args.forms.now) c.loop-form.form-index c.args.key (omega (arith, length-map c.args.forms.now form_of)) c.loop-form.invariant
