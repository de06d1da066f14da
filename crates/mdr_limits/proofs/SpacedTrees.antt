-- Trees whose calls of the other half are spaced, told with less and up to so many ticks.
use Rattle.std.proofs.Common.{ℕ, zero, suc, ◌≤◌, Bool, true, false, arith}
use Rattle.mdr_callees.specs.Spaced.{Spaced}
use Rattle.mdr_meaning.specs.Cut.{cut}
use Rattle.mdr_meaning.specs.Tree.{Tree}

-- calls that are made with more functions active than so many are made with more than fewer
pub spaced_less : (less least : ℕ) (free : Bool) (t : Tree) → less ≤ least → Spaced least free t → Spaced less free t
spaced_less less least free Tree.Idle le s = tt
spaced_less less least free (Tree.Waits k) le s = λ vs. spaced_less less least free (k vs) le (s vs)
spaced_less less least free (Tree.Done v t) le s = tt
spaced_less less least free (Tree.Stop kind at) le s = tt
spaced_less less least free (Tree.Tick at d t) le s = spaced_less less least true t le s
spaced_less less least free (Tree.Load at p k) le s = λ v. spaced_less less least free (k v) le (s v)
spaced_less less least free (Tree.Store at p v t) le s = spaced_less less least free t le s
spaced_less less least free (Tree.Read at p n k) le s = λ bytes. spaced_less less least free (k bytes) le (s bytes)
spaced_less less least free (Tree.Fresh at v k) le s = λ x. spaced_less less least free (k x) le (s x)
spaced_less less least free (Tree.Birth at shapes k) le s = λ ps. spaced_less less least free (k ps) le (s ps)
spaced_less less least free (Tree.Death at ps t) le s = spaced_less less least free t le s
spaced_less less least free (Tree.Ask asked k) le s = λ vs. spaced_less less least free (k vs) le (s vs)
spaced_less less least free (Tree.Cross at func args depth k) le s =
    let deeper : suc less ≤ depth = omega (arith, le, s.1) in (s.0, deeper, s.2, λ v. spaced_less less least false (k v) le (s.3 v))

-- a tree is as spaced up to so many ticks
pub spaced_cut : (r least : ℕ) (free : Bool) (t : Tree) → Spaced least free t → Spaced least free (cut r t)
unfolding cut
spaced_cut r least free Tree.Idle s = tt
spaced_cut r least free (Tree.Waits k) s = λ vs. spaced_cut r least free (k vs) (s vs)
spaced_cut r least free (Tree.Done v t) s = tt
spaced_cut r least free (Tree.Stop kind at) s = tt
spaced_cut zero least free (Tree.Tick at d t) s = tt
spaced_cut (suc r) least free (Tree.Tick at d t) s = spaced_cut r least true t s
spaced_cut r least free (Tree.Load at p k) s = λ v. spaced_cut r least free (k v) (s v)
spaced_cut r least free (Tree.Store at p v t) s = spaced_cut r least free t s
spaced_cut r least free (Tree.Read at p n k) s = λ bytes. spaced_cut r least free (k bytes) (s bytes)
spaced_cut r least free (Tree.Fresh at v k) s = λ x. spaced_cut r least free (k x) (s x)
spaced_cut r least free (Tree.Birth at shapes k) s = λ ps. spaced_cut r least free (k ps) (s ps)
spaced_cut r least free (Tree.Death at ps t) s = spaced_cut r least free t s
spaced_cut r least free (Tree.Ask asked k) s = λ vs. spaced_cut r least free (k vs) (s vs)
spaced_cut r least free (Tree.Cross at func args depth k) s = (s.0, s.1, s.2, λ v. spaced_cut r least false (k v) (s.3 v))
