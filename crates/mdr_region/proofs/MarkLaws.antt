-- Laws of marks.
use Rattle.std.proofs.Common.{◌≡◌, ◌≤◌, ◌+◌, ℕ, Bool, true, false, cond, List, [], ◌∷◌, length, Some, None, refl, subst, arith}
use Rattle.std.specs.Prelude.{◌==◌}
use Rattle.std.proofs.lemmas.Bool.{eqb-true, eq-eqb}
use Rattle.std.proofs.lemmas.Bool.Decides.{nat_tests}
use Rattle.mdr_region.specs.declared.holes.Hole.{Hole}
use Rattle.mdr_region.specs.Layout.{Mark}
use Rattle.mdr_region.specs.Holes.{hole, joined, holes_of, Rise}

-- ---- order

pub rise_lower : (p q e : ℕ) (hs : List Hole) → p ≤ q → Rise q e hs → Rise p e hs
unfolding Rise
rise_lower p q e [] l r = tt
rise_lower p q e (h ∷ hs) l r = (omega (arith, r.0), r.1)

rise_joined : (p e : ℕ) (hs : List Hole) → p + 1 ≤ e → Rise (p + 1) e hs → Rise p e (joined (hole p 1) hs)
unfolding Rise
rise_joined p e [] l r = (omega arith, (omega arith, (l, tt)))
rise_joined p e (k ∷ ks) l r = of (p + 1 == k.start) refl
  where
    of : (t : Bool) → (p + 1 == k.start) ≡ t → Rise p e (cond t (hole p (1 + k.len) ∷ ks) (hole p 1 ∷ k ∷ ks))
    of true h = let s = eqb-true (p + 1) k.start h in (omega arith, (omega arith, (omega (arith, r.1.1.0, s), subst (λ x. Rise x e ks) (omega (arith, s)) r.1.1.1)))
    of false h = (omega arith, (omega arith, (l, (grind (arith, nat_tests, r.0, eq-eqb (p + 1) k.start), r.1))))

pub holes_rise : (p e : ℕ) (marks : List Mark) → p + length marks ≤ e → Rise p e (holes_of p marks)
unfolding Rise holes_of
holes_rise p e [] l = tt
holes_rise p e (Some s ∷ marks) l = rise_lower p (p + 1) e (holes_of (p + 1) marks) (omega arith) (holes_rise (p + 1) e marks (omega arith))
holes_rise p e (None ∷ marks) l = rise_joined p e (holes_of (p + 1) marks) (omega arith) (holes_rise (p + 1) e marks (omega arith))
