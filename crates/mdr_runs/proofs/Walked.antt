-- What a walk leaves: its ticks, and the ticks of the world.
use Rattle.std.proofs.Common.{◌≡◌, ℕ, zero, suc, ◌≤◌, Result, Ok, Err, refl, le_refl, arith}
use Rattle.mdr_core.specs.declared.place.At.{At}
use Rattle.mdr_core.specs.declared.stop.StopKind.{StopKind}
use Rattle.mdr_meaning.specs.Tree.{Tree}
use Rattle.mdr_meaning.specs.Walk.{Accesses, Walked, on_access, walk}
use Rattle.mdr_plain.specs.Running.{Setting}
use Rattle.mdr_plain.specs.World.{World}
use Rattle.mdr_runs.specs.Around.{KeepsTicks}
use Rattle.mdr_runs.proofs.Around.{at_most}

module _ {M : Type 0} (a : Accesses M) where
  few : {A : Type 0} (x : Result A StopKind) (at : At) (m : M) (n : ℕ) (go : A → Walked M) → ((y : A) → (go y).left ≤ n) → (on_access x at m n go).left ≤ n
  few (Ok y) at m n go h = h y
  few (Err kind) at m n go h = le_refl n

  -- a walk leaves no more ticks than it had
  pub left_few : (n : ℕ) (t : Tree) (m : M) → (walk a n t m).left ≤ n
  unfolding walk
  left_few n Tree.Idle m = le_refl n
  left_few n (Tree.Waits k) m = le_refl n
  left_few n (Tree.Done v t) m = le_refl n
  left_few n (Tree.Stop kind at) m = le_refl n
  left_few zero (Tree.Tick at d t) m = le_refl 0
  left_few (suc n) (Tree.Tick at d t) m = let h : (walk a n t m).left ≤ n = left_few n t m in omega (arith, h)
  left_few n (Tree.Load at p k) m = few (a.load m p) at m n _ (λ v. left_few n (k v) m)
  left_few n (Tree.Store at p v t) m = few (a.store m p v) at m n _ (λ m'. left_few n t m')
  left_few n (Tree.Read at p count k) m = few (a.read m p count) at m n _ (λ bs. left_few n (k bs) m)
  left_few n (Tree.Fresh at v k) m = few (a.fresh m v) at m n _ (λ x. left_few n (k x) m)
  left_few n (Tree.Birth at shapes k) m = left_few n (k (a.birth m shapes).pointers) (a.birth m shapes).memory
  left_few n (Tree.Death at ps t) m = left_few n t (a.death m ps)
  left_few n (Tree.Ask asked k) m = le_refl n
  left_few n (Tree.Cross at func args depth k) m = le_refl n

module _ (s : Setting) (keeps : KeepsTicks s) (r : ℕ) where
  on_any : {A : Type 0} (x : Result A StopKind) (at : At) (w : World) (n : ℕ) (go : A → Walked World)
      → w.clock.rest ≤ r → ((y : A) → x ≡ Ok y → (go y).memory.clock.rest ≤ r) → (on_access x at w n go).memory.clock.rest ≤ r
  on_any (Ok y) at w n go e each = each y refl
  on_any (Err kind) at w n go e each = e

  -- a walk gives the world no ticks back
  pub walk_at_most : (n : ℕ) (t : Tree) (w : World) → w.clock.rest ≤ r → (walk s.accesses n t w).memory.clock.rest ≤ r
  unfolding walk
  walk_at_most n Tree.Idle w e = e
  walk_at_most n (Tree.Waits k) w e = e
  walk_at_most n (Tree.Done v t) w e = e
  walk_at_most n (Tree.Stop kind at) w e = e
  walk_at_most zero (Tree.Tick at d t) w e = e
  walk_at_most (suc n) (Tree.Tick at d t) w e = walk_at_most n t w e
  walk_at_most n (Tree.Load at p k) w e = on_any (s.accesses.load w p) at w n _ e (λ v is. walk_at_most n (k v) w e)
  walk_at_most n (Tree.Store at p v t) w e = on_any (s.accesses.store w p v) at w n _ e (λ w' is. walk_at_most n t w' (at_most w'.clock.rest w.clock.rest r (keeps.store p v w w' is) e))
  walk_at_most n (Tree.Read at p count k) w e = on_any (s.accesses.read w p count) at w n _ e (λ bs is. walk_at_most n (k bs) w e)
  walk_at_most n (Tree.Fresh at v k) w e = on_any (s.accesses.fresh w v) at w n _ e (λ x is. walk_at_most n (k x) w e)
  walk_at_most n (Tree.Birth at shapes k) w e =
      walk_at_most n (k (s.accesses.birth w shapes).pointers) (s.accesses.birth w shapes).memory (at_most (s.accesses.birth w shapes).memory.clock.rest w.clock.rest r (keeps.birth shapes w) e)
  walk_at_most n (Tree.Death at ps t) w e = walk_at_most n t (s.accesses.death w ps) (at_most (s.accesses.death w ps).clock.rest w.clock.rest r (keeps.death ps w) e)
  walk_at_most n (Tree.Ask asked k) w e = e
  walk_at_most n (Tree.Cross at func args depth k) w e = e
