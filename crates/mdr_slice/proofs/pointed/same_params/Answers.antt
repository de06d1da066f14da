use Rattle.std.proofs.Common.{rules, arith, refl}
use Rattle.std.specs.Prelude.{false}
use Rattle.std.proofs.lemmas.Bool.{both_ways}
use Rattle.mdr_core.specs.declared.program.Param.{Param}
use Rattle.mdr_slice.proofs.GraphLaws.{differ_at}
use Rattle.mdr_slice.proofs.pointed.same_params.Goals as goal

pub returns-then-not-same_param : goal.returns-then-not-same_param
returns-then-not-same_param c =
    (λ h. absurd (both_ways false refl h), λ e. absurd (differ_at (λ (p : Param). p.ty) c.args.params.now c.args.others.now c.loop-i.i c.index-params-i.result c.index-others-i.result (omega arith) c.loop-i.invariant.0 c.index-params-i.is c.index-others-i.is (λ q. both_ways _ (search rules) (c.same_param.ensures.1 q)) e))
