-- A walk over the copy beside its cells is the walk over the copy, where these cells may be touched.
use Rattle.std.proofs.Common.{◌≡◌, ℕ, zero, suc, List, Result, Ok, Err, refl}
use Rattle.mdr_core.specs.declared.place.At.{At}
use Rattle.mdr_core.specs.declared.stop.StopKind.{StopKind}
use Rattle.mdr_meaning.specs.Tree.{Tree}
use Rattle.mdr_meaning.specs.Walk.{Walked, on_access, walk, walked}
use Rattle.mdr_model.specs.declared.memory.Cell.{Cell}
use Rattle.mdr_model.specs.Memory.{Memory}
use Rattle.mdr_split.specs.User.{guarded}
use Rattle.mdr_user_memory.specs.Copied.{Copied, Past, copied, copied_if, copy_accesses}

abbrev pub copied_walked : Past → Memory → List Cell → Walked Memory → Walked Copied
copied_walked past agreed view w = walked w.reached (copied past agreed view w.memory) w.left

module _ (past : Past) (agreed : Memory) (view : List Cell) where
  -- an access that gives something, or stops
  accessed : {A : Type 0} (x : Result A StopKind) (at : At) (m : Memory) (n : ℕ) (go : A → Walked Copied) (walks : A → Walked Memory)
      → ((y : A) → go y ≡ copied_walked past agreed view (walks y)) → on_access x at (copied past agreed view m) n go ≡ copied_walked past agreed view (on_access x at m n walks)
  accessed (Ok y) at m n go walks each = each y
  accessed (Err kind) at m n go walks each = refl

  -- one that leaves another memory
  stored : (x : Result Memory StopKind) (at : At) (m : Memory) (n : ℕ) (go : Copied → Walked Copied) (walks : Memory → Walked Memory)
      → ((y : Memory) → go (copied past agreed view y) ≡ copied_walked past agreed view (walks y)) → on_access (copied_if past agreed view x) at (copied past agreed view m) n go ≡ copied_walked past agreed view (on_access x at m n walks)
  stored (Ok y) at m n go walks each = each y
  stored (Err kind) at m n go walks each = refl

  pub walks : (n : ℕ) (t : Tree) (m : Memory) → walk copy_accesses n t (copied past agreed view m) ≡ copied_walked past agreed view (walk (guarded view) n t m)
  unfolding walk
  walks n Tree.Idle m = refl
  walks n (Tree.Waits k) m = refl
  walks n (Tree.Done v t) m = refl
  walks n (Tree.Stop kind at) m = refl
  walks zero (Tree.Tick at d t) m = refl
  walks (suc n) (Tree.Tick at d t) m = walks n t m
  walks n (Tree.Load at p k) m = accessed ((guarded view).load m p) at m n _ _ (λ v. walks n (k v) m)
  walks n (Tree.Store at p v t) m = stored ((guarded view).store m p v) at m n _ _ (λ m'. walks n t m')
  walks n (Tree.Read at p count k) m = accessed ((guarded view).read m p count) at m n _ _ (λ bs. walks n (k bs) m)
  walks n (Tree.Fresh at v k) m = accessed ((guarded view).fresh m v) at m n _ _ (λ x. walks n (k x) m)
  walks n (Tree.Birth at shapes k) m = walks n (k ((guarded view).birth m shapes).pointers) m
  walks n (Tree.Death at ps t) m = walks n t m
  walks n (Tree.Ask asked k) m = refl
  walks n (Tree.Cross at func args depth k) m = refl
