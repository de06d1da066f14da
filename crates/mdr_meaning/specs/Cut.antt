-- believed
-- A tree as far as a number of ticks lets it go.
use Rattle.std.specs.Prelude.{◌≡◌, ℕ, zero, suc, ◌≤◌}
use Rattle.mdr_core.specs.declared.place.At.{At}
use Rattle.mdr_core.specs.declared.stop.StopKind.TheVariants.{Ticks}
use Rattle.mdr_meaning.specs.Tree.{Tree}
use Rattle.mdr_meaning.specs.Alike.{IsCongruence}

unfoldable pub cut : ℕ → Tree → Tree
cut r Tree.Idle = Tree.Idle
cut r (Tree.Waits k) = Tree.Waits (λ vs. cut r (k vs))
cut r (Tree.Done v t) = Tree.Done v (cut r t)
cut r (Tree.Stop kind at) = Tree.Stop kind at
cut zero (Tree.Tick at d t) = Tree.Tick at d (Tree.Stop Ticks at)
cut (suc r) (Tree.Tick at d t) = Tree.Tick at d (cut r t)
cut r (Tree.Load at p k) = Tree.Load at p (λ v. cut r (k v))
cut r (Tree.Store at p v t) = Tree.Store at p v (cut r t)
cut r (Tree.Read at p n k) = Tree.Read at p n (λ bs. cut r (k bs))
cut r (Tree.Fresh at v k) = Tree.Fresh at v (λ x. cut r (k x))
cut r (Tree.Birth at shapes k) = Tree.Birth at shapes (λ ps. cut r (k ps))
cut r (Tree.Death at ps t) = Tree.Death at ps (cut r t)
cut r (Tree.Ask asked k) = Tree.Ask asked (λ vs. cut r (k vs))
cut r (Tree.Cross at func args depth k) = Tree.Cross at func args depth (λ v. cut r (k v))

-- what follows a tick
abbrev pub cut_next : ℕ → At → Tree → Tree
cut_next zero at t = Tree.Stop Ticks at
cut_next (suc r) at t = cut r t

-- two trees are the same up to so many ticks
pub record SameCut (r : ℕ) (t u : Tree) : Type 0 where
  pub is : cut r t ≡ cut r u

abbrev pub CutIsAlike : Type 0
CutIsAlike = IsCongruence SameCut

-- the fewer ticks count
abbrev pub CutsCut : Type 0
CutsCut = (r s : ℕ) → r ≤ s → (t : Tree) → cut r (cut s t) ≡ cut r t
