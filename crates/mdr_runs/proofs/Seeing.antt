-- A memory is seen as a world where each access to it is.
use Rattle.std.proofs.Common.{◌≡◌, ℕ, zero, suc, Result, Ok, Err, refl, sym, ◌∙◌, ap}
use Rattle.mdr_core.specs.declared.place.At.{At}
use Rattle.mdr_core.specs.declared.program.Program.{Program}
use Rattle.mdr_core.specs.declared.stop.StopKind.{StopKind}
use Rattle.mdr_meaning.specs.Tree.{Tree}
use Rattle.mdr_meaning.specs.Walk.{Accesses, Born, Walked, on_access, walk, walked}
use Rattle.mdr_plain.specs.World.{World}
use Rattle.mdr_runs.specs.Anywhere.{MemoriesAreSeen}
use Rattle.mdr_runs.specs.Around.{AreSeenBy, world_if}

module _ {M : Type 0} (around : Accesses World) (a : Accesses M) (world_in : M → World) (program_in : M → Program) (program : Program) (seen : AreSeenBy around a world_in program_in program) where
  -- a walk of a memory as a walk of the world in it
  abbrev in_world : Walked M → Walked World
  in_world x = walked x.reached (world_in x.memory) x.left

  given : {A : Type 0} (x y : Result A StopKind) (at : At) (m : M) (n : ℕ) (go : A → Walked M) (go' : A → Walked World) → x ≡ y → ((z : A) → go' z ≡ in_world (go z))
      → on_access y at (world_in m) n go' ≡ in_world (on_access x at m n go)
  given (Ok z) y at m n go go' e each = ap (λ r. on_access r at (world_in m) n go') (sym e) ∙ each z
  given (Err kind) y at m n go go' e each = ap (λ r. on_access r at (world_in m) n go') (sym e)

  stored : (x : Result M StopKind) (y : Result World StopKind) (at : At) (m : M) (n : ℕ) (go : M → Walked M) (go' : World → Walked World) → world_if world_in x ≡ y
      → ((m' : M) → x ≡ Ok m' → go' (world_in m') ≡ in_world (go m')) → on_access y at (world_in m) n go' ≡ in_world (on_access x at m n go)
  stored (Ok m') y at m n go go' e each = ap (λ r. on_access r at (world_in m) n go') (sym e) ∙ each m' refl
  stored (Err kind) y at m n go go' e each = ap (λ r. on_access r at (world_in m) n go') (sym e)

  walks : (n : ℕ) (t : Tree) (m : M) → program_in m ≡ program → walk around n t (world_in m) ≡ in_world (walk a n t m)
  unfolding walk
  walks n Tree.Idle m same = refl
  walks n (Tree.Waits k) m same = refl
  walks n (Tree.Done v t) m same = refl
  walks n (Tree.Stop kind at) m same = refl
  walks zero (Tree.Tick at d t) m same = refl
  walks (suc n) (Tree.Tick at d t) m same = walks n t m same
  walks n (Tree.Load at p k) m same = given (a.load m p) _ at m n _ _ (seen.load m p same) (λ v. walks n (k v) m same)
  walks n (Tree.Store at p v t) m same = stored (a.store m p v) _ at m n _ _ (seen.store m p v same) (λ m' is. walks n t m' (seen.stored m m' p v same is))
  walks n (Tree.Read at p count k) m same = given (a.read m p count) _ at m n _ _ (seen.read m p count same) (λ bs. walks n (k bs) m same)
  walks n (Tree.Fresh at v k) m same = given (a.fresh m v) _ at m n _ _ (seen.fresh m v same) (λ x. walks n (k x) m same)
  walks n (Tree.Birth at shapes k) m same =
      ap (λ (b : Born World). walk around n (k b.pointers) b.memory) (sym (seen.birth m shapes same)) ∙ walks n (k (a.birth m shapes).pointers) (a.birth m shapes).memory (seen.born m shapes same)
  walks n (Tree.Death at ps t) m same = ap (walk around n t) (sym (seen.death m ps same)) ∙ walks n t (a.death m ps) (seen.died m ps same)
  walks n (Tree.Ask asked k) m same = refl
  walks n (Tree.Cross at func args depth k) m same = refl

  stays_given : {A : Type 0} (x : Result A StopKind) (at : At) (m : M) (n : ℕ) (go : A → Walked M) → program_in m ≡ program → ((z : A) → x ≡ Ok z → program_in (go z).memory ≡ program) → program_in (on_access x at m n go).memory ≡ program
  stays_given (Ok z) at m n go same each = each z refl
  stays_given (Err kind) at m n go same each = same

  stays : (n : ℕ) (t : Tree) (m : M) → program_in m ≡ program → program_in (walk a n t m).memory ≡ program
  unfolding walk
  stays n Tree.Idle m same = same
  stays n (Tree.Waits k) m same = same
  stays n (Tree.Done v t) m same = same
  stays n (Tree.Stop kind at) m same = same
  stays zero (Tree.Tick at d t) m same = same
  stays (suc n) (Tree.Tick at d t) m same = stays n t m same
  stays n (Tree.Load at p k) m same = stays_given (a.load m p) at m n _ same (λ v is. stays n (k v) m same)
  stays n (Tree.Store at p v t) m same = stays_given (a.store m p v) at m n _ same (λ m' is. stays n t m' (seen.stored m m' p v same is))
  stays n (Tree.Read at p count k) m same = stays_given (a.read m p count) at m n _ same (λ bs is. stays n (k bs) m same)
  stays n (Tree.Fresh at v k) m same = stays_given (a.fresh m v) at m n _ same (λ x is. stays n (k x) m same)
  stays n (Tree.Birth at shapes k) m same = stays n (k (a.birth m shapes).pointers) (a.birth m shapes).memory (seen.born m shapes same)
  stays n (Tree.Death at ps t) m same = stays n t (a.death m ps) (seen.died m ps same)
  stays n (Tree.Ask asked k) m same = same
  stays n (Tree.Cross at func args depth k) m same = same

pub memories_are_seen : (M : Type 0) → MemoriesAreSeen M
memories_are_seen M around a world_in program_in program seen = record { walks = walks around a world_in program_in program seen; stays = stays around a world_in program_in program seen }
