-- Equality up to a number of ticks is a congruence.
use Rattle.std.proofs.Common.{◌≡◌, ℕ, zero, suc, ◌≤◌, refl, ap, le_refl, arith}
use mathlib.Core.Path.{fun_ext}
use Rattle.mdr_core.specs.declared.place.At.{At}
use Rattle.mdr_meaning.specs.Tree.{Tree}
use Rattle.mdr_meaning.specs.Cut.{cut, SameCut, CutIsAlike, CutsCut}

cut_tick : (r : ℕ) (at : At) (d : ℕ) (t u : Tree) → ((q : ℕ) → suc q ≤ r → SameCut q t u) → cut r (Tree.Tick at d t) ≡ cut r (Tree.Tick at d u)
unfolding cut
cut_tick zero at d t u h = refl
cut_tick (suc r) at d t u h = ap (Tree.Tick at d) (h r (le_refl (suc r))).is

pub cut_alike : CutIsAlike
unfolding cut
cut_alike = record {
  idle = λ r. record { is = refl };
  waits = λ r k l h. record { is = ap Tree.Waits (fun_ext (λ vs. (h vs).is)) };
  done = λ r v t u h. record { is = ap (Tree.Done v) h.is };
  stop = λ r kind at. record { is = refl };
  tick = λ r at d t u h. record { is = cut_tick r at d t u h };
  load = λ r at p k l h. record { is = ap (Tree.Load at p) (fun_ext (λ v. (h v).is)) };
  store = λ r at p v t u h. record { is = ap (Tree.Store at p v) h.is };
  read = λ r at p n k l h. record { is = ap (Tree.Read at p n) (fun_ext (λ bs. (h bs).is)) };
  fresh = λ r at v k l h. record { is = ap (Tree.Fresh at v) (fun_ext (λ x. (h x).is)) };
  birth = λ r at shapes k l h. record { is = ap (Tree.Birth at shapes) (fun_ext (λ ps. (h ps).is)) };
  death = λ r at ps t u h. record { is = ap (Tree.Death at ps) h.is };
  ask = λ r asked k l h. record { is = ap (Tree.Ask asked) (fun_ext (λ vs. (h vs).is)) };
  cross = λ r at func args depth k l h. record { is = ap (Tree.Cross at func args depth) (fun_ext (λ v. (h v).is)) };
}

pub cut_cut : CutsCut
unfolding cut
cut_cut r s h Tree.Idle = refl
cut_cut r s h (Tree.Waits k) = ap Tree.Waits (fun_ext (λ vs. cut_cut r s h (k vs)))
cut_cut r s h (Tree.Done v t) = ap (Tree.Done v) (cut_cut r s h t)
cut_cut r s h (Tree.Stop kind at) = refl
cut_cut zero zero h (Tree.Tick at d t) = refl
cut_cut zero (suc s) h (Tree.Tick at d t) = refl
cut_cut (suc r) zero h (Tree.Tick at d t) = absurd (omega (arith, h))
cut_cut (suc r) (suc s) h (Tree.Tick at d t) = let below : r ≤ s = omega (arith, h) in ap (Tree.Tick at d) (cut_cut r s below t)
cut_cut r s h (Tree.Load at p k) = ap (Tree.Load at p) (fun_ext (λ v. cut_cut r s h (k v)))
cut_cut r s h (Tree.Store at p v t) = ap (Tree.Store at p v) (cut_cut r s h t)
cut_cut r s h (Tree.Read at p n k) = ap (Tree.Read at p n) (fun_ext (λ bs. cut_cut r s h (k bs)))
cut_cut r s h (Tree.Fresh at v k) = ap (Tree.Fresh at v) (fun_ext (λ x. cut_cut r s h (k x)))
cut_cut r s h (Tree.Birth at shapes k) = ap (Tree.Birth at shapes) (fun_ext (λ ps. cut_cut r s h (k ps)))
cut_cut r s h (Tree.Death at ps t) = ap (Tree.Death at ps) (cut_cut r s h t)
cut_cut r s h (Tree.Ask asked k) = ap (Tree.Ask asked) (fun_ext (λ vs. cut_cut r s h (k vs)))
cut_cut r s h (Tree.Cross at func args depth k) = ap (Tree.Cross at func args depth) (fun_ext (λ v. cut_cut r s h (k v)))
