use Rattle.std.proofs.Common.{sym, ap, subst}
use Rattle.mdr_far.specs.declared.local_far.LocalFar.TheInside.{Inside}
use Rattle.mdr_outside.specs.Far.{IsLoaded}
use Rattle.mdr_far.specs.Fars.{Held}
use Rattle.mdr_far.specs.Halves.{HalfState}
use Rattle.mdr_far.proofs.FarLaws.{half_there, kept_on}
use Rattle.mdr_far.proofs.local_far.LocalFarFar.deliver.Goals as goal
use Rattle.mdr_far.proofs.local_far.LocalFarFar.deliver.Goals.{in-Ok, in-Err}

pub invariant_of-self : goal.invariant_of-self
invariant_of-self c = elim c.match-deliver.branch [
  | in-Ok w ↦
      kept_on c.self.inside c.match-deliver.self-inside c.in-Some.half c.deliver.new.self (sym (ap (λ (s : Inside). s.loaded) w.self-inside-is)) c.in-Some.is (ap (λ (s : Inside). s.half) w.self-inside-is)
      (ap (λ (h : HalfState). h.program) w.in-Ok.ensures.kept) (ap (λ (h : HalfState). h.plan) w.in-Ok.ensures.kept) w.replies.ensures c.self.invariant
  | in-Err w ↦
      kept_on c.self.inside c.match-deliver.self-inside c.in-Some.half c.deliver.new.self (sym (ap (λ (s : Inside). s.loaded) w.self-inside-is)) c.in-Some.is (ap (λ (s : Inside). s.half) w.self-inside-is)
      (ap (λ (h : HalfState). h.program) w.in-Err.ensures.err) (ap (λ (h : HalfState). h.plan) w.in-Err.ensures.err) w.replies-in-Err.ensures c.self.invariant
]

pub unreachable-requires : goal.unreachable-requires
unreachable-requires c = half_there c.self.inside c.self.invariant (subst (λ (h : Held). IsLoaded h.loaded) (sym c.self.view_is) c.requires) c.in-None.is
