-- Walks go on from where they stand.
use Rattle.std.proofs.Common.{◌≡◌, ℕ, zero, suc, ◌+◌, Result, Ok, Err, refl, ap, arith}
use Rattle.mdr_core.specs.declared.stop.StopKind.{StopKind}
use Rattle.mdr_core.specs.declared.place.At.{At}
use Rattle.mdr_meaning.specs.Cut.{cut, cut_next}
use Rattle.mdr_meaning.specs.Tree.{Tree}
use Rattle.mdr_meaning.specs.Walk.{Reached, cut_reached, walked, Accesses, Walked, on_access, walk, further}

module _ {M : Type 0} (a : Accesses M) where
  -- an access that goes on or stops
  accessed : {A : Type 0} (x : Result A StopKind) (at : At) (m : M) (n more : ℕ) (go go' : A → Walked M)
      → ((y : A) → go' y ≡ further a more (go y)) → on_access x at m (n + more) go' ≡ further a more (on_access x at m n go)
  accessed (Ok y) at m n more go go' h = h y
  accessed (Err kind) at m n more go go' h = refl

  pub go_on : (n more : ℕ) (t : Tree) (m : M) → walk a (n + more) t m ≡ further a more (walk a n t m)
  unfolding walk
  go_on n more Tree.Idle m = refl
  go_on n more (Tree.Waits k) m = refl
  go_on n more (Tree.Done v t) m = refl
  go_on n more (Tree.Stop kind at) m = refl
  go_on zero more (Tree.Tick at d t) m = let same : 0 + more ≡ more = omega arith in ap (λ n. walk a n (Tree.Tick at d t) m) same
  go_on (suc n) more (Tree.Tick at d t) m =
      let same : suc n + more ≡ suc (n + more) = omega arith in rw same (go_on n more t m)
  go_on n more (Tree.Load at p k) m = accessed (a.load m p) at m n more _ _ (λ v. go_on n more (k v) m)
  go_on n more (Tree.Store at p v t) m = accessed (a.store m p v) at m n more _ _ (λ m'. go_on n more t m')
  go_on n more (Tree.Read at p count k) m = accessed (a.read m p count) at m n more _ _ (λ bs. go_on n more (k bs) m)
  go_on n more (Tree.Fresh at v k) m = accessed (a.fresh m v) at m n more _ _ (λ x. go_on n more (k x) m)
  go_on n more (Tree.Birth at shapes k) m = go_on n more (k (a.birth m shapes).pointers) (a.birth m shapes).memory
  go_on n more (Tree.Death at ps t) m = go_on n more t (a.death m ps)
  go_on n more (Tree.Ask asked k) m = refl
  go_on n more (Tree.Cross at func args depth k) m = refl

  -- what a walk gives, with what it reaches cut
  abbrev cut_walked : ℕ → Walked M → Walked M
  cut_walked r w = walked (cut_reached (w.left + r) w.reached) w.memory w.left

  cut_accessed : {A : Type 0} (x : Result A StopKind) (at : At) (m : M) (n r : ℕ) (go go' : A → Walked M)
      → ((y : A) → go' y ≡ cut_walked r (go y)) → on_access x at m n go' ≡ cut_walked r (on_access x at m n go)
  cut_accessed (Ok y) at m n r go go' h = h y
  cut_accessed (Err kind) at m n r go go' h = refl

  cut_first : (r : ℕ) (at : At) (d : ℕ) (t : Tree) (m : M) → walk a zero (cut r (Tree.Tick at d t)) m ≡ walked (Reached.Needs at d (cut_next r at t)) m zero
  unfolding walk cut
  cut_first zero at d t m = refl
  cut_first (suc r) at d t m = refl

  pub walk_cut : (n r : ℕ) (t : Tree) (m : M) → walk a n (cut (n + r) t) m ≡ cut_walked r (walk a n t m)
  unfolding walk cut
  walk_cut n r Tree.Idle m = refl
  walk_cut n r (Tree.Waits k) m = refl
  walk_cut n r (Tree.Done v t) m = refl
  walk_cut n r (Tree.Stop kind at) m = refl
  walk_cut zero r (Tree.Tick at d t) m = cut_first (0 + r) at d t m
  walk_cut (suc n) r (Tree.Tick at d t) m =
      let same : suc n + r ≡ suc (n + r) = omega arith in rw same (walk_cut n r t m)
  walk_cut n r (Tree.Load at p k) m = cut_accessed (a.load m p) at m n r _ _ (λ v. walk_cut n r (k v) m)
  walk_cut n r (Tree.Store at p v t) m = cut_accessed (a.store m p v) at m n r _ _ (λ m'. walk_cut n r t m')
  walk_cut n r (Tree.Read at p count k) m = cut_accessed (a.read m p count) at m n r _ _ (λ bs. walk_cut n r (k bs) m)
  walk_cut n r (Tree.Fresh at v k) m = cut_accessed (a.fresh m v) at m n r _ _ (λ x. walk_cut n r (k x) m)
  walk_cut n r (Tree.Birth at shapes k) m = walk_cut n r (k (a.birth m shapes).pointers) (a.birth m shapes).memory
  walk_cut n r (Tree.Death at ps t) m = walk_cut n r t (a.death m ps)
  walk_cut n r (Tree.Ask asked k) m = refl
  walk_cut n r (Tree.Cross at func args depth k) m = refl
