use Rattle.std.proofs.Common.{ap, subst, sym}
use Rattle.mdr_half_source.specs.Loads.{Loads}
use Rattle.mdr_far.specs.Halves.{HalfState}
use Rattle.mdr_far.proofs.HalfSteps.{loaded_sound, loaded_fit}
use Rattle.mdr_far.proofs.half.UserHalf.load.Goals as goal

pub begin-requires-clause-sound : goal.begin-requires-clause-sound
begin-requires-clause-sound c = loaded_sound c.args.user.now c.args.plan.now c.in_ok-source.source.program c.in_ok-source.source.plan c.in_ok-source.ensures

pub begin-requires-clause-fit : goal.begin-requires-clause-fit
begin-requires-clause-fit c = loaded_fit c.args.user.now c.args.plan.now c.in_ok-source.source.program c.in_ok-source.source.plan c.in_ok-source.ensures

pub returns-clause-load : goal.returns-clause-load
returns-clause-load c =
    record {
      loads = subst (λ (h : HalfState). Loads c.args.user.now c.args.plan.now h.program h.plan) (sym c.in_ok-half.ensures.begun) c.in_ok-source.ensures;
      begins = ap (λ (h : HalfState). h.exchanges) c.in_ok-half.ensures.begun;
    }
