-- believed
-- A walk: what a tree does on a memory, whatever a memory is, up to its next event.
use Rattle.std.specs.Prelude.{◌≡◌, ℕ, zero, suc, ◌+◌, List, Result, Ok, Err}
use Rattle.mdr_core.specs.declared.stop.StopKind.{StopKind}
use Rattle.mdr_core.specs.declared.place.At.{At}
use Rattle.mdr_meaning.specs.declared.wire.Wire.{Wire}
use Rattle.mdr_meaning.specs.declared.shape.Shape64.{Shape64}
use Rattle.mdr_meaning.specs.Cut.{cut, cut_next}
use Rattle.mdr_meaning.specs.Tree.{Asked, Tree}

-- a memory with objects that were just born in it
pub record Born (M : Type 0) : Type 0 where
  pub pointers : List Wire
  pub memory : M

-- what code does to a memory. Accesses may stop
pub record Accesses (M : Type 0) : Type 0 where
  pub load : M → Wire → Result Wire StopKind
  pub store : M → Wire → Wire → Result M StopKind
  pub read : M → Wire → ℕ → Result (List ℕ) StopKind
  pub fresh : M → Wire → Result Wire StopKind
  pub birth : M → List Shape64 → Born M
  pub death : M → List Wire → M

pub data Reached : Type 0 where
  -- nothing was started
  Idles : Reached
  -- a question is open
  Opens : (next : List Wire → Tree) → Reached
  -- the function that was started last ended, and what lay below goes on
  Ended : (value : Wire) (below : Tree) → Reached
  Stopped : (kind : StopKind) (at : At) → Reached
  -- a tick is needed and none is left
  Needs : (at : At) (depth : ℕ) (next : Tree) → Reached
  Asks : (asked : Asked) (next : List Wire → Tree) → Reached
  Crosses : (at : At) (func : ℕ) (args : List Wire) (depth : ℕ) (next : Wire → Tree) → Reached

-- the event, the memory then, and the ticks left
pub record Walked (M : Type 0) : Type 0 where
  pub reached : Reached
  pub memory : M
  pub left : ℕ

abbrev pub walked : {M : Type 0} → Reached → M → ℕ → Walked M
walked reached m n = record { reached = reached; memory = m; left = n }

-- what an access gave, or its stop
abbrev pub on_access : {A M : Type 0} → Result A StopKind → At → M → ℕ → (A → Walked M) → Walked M
on_access (Ok x) at m n go = go x
on_access (Err kind) at m n go = walked (Reached.Stopped kind at) m n

-- the walk with n ticks
unfoldable pub walk : {M : Type 0} → Accesses M → ℕ → Tree → M → Walked M
walk a n Tree.Idle m = walked Reached.Idles m n
walk a n (Tree.Waits k) m = walked (Reached.Opens k) m n
walk a n (Tree.Done v t) m = walked (Reached.Ended v t) m n
walk a n (Tree.Stop kind at) m = walked (Reached.Stopped kind at) m n
walk a zero (Tree.Tick at d t) m = walked (Reached.Needs at d t) m zero
walk a (suc n) (Tree.Tick at d t) m = walk a n t m
walk a n (Tree.Load at p k) m = on_access (a.load m p) at m n (λ v. walk a n (k v) m)
walk a n (Tree.Store at p v t) m = on_access (a.store m p v) at m n (λ m'. walk a n t m')
walk a n (Tree.Read at p count k) m = on_access (a.read m p count) at m n (λ bs. walk a n (k bs) m)
walk a n (Tree.Fresh at v k) m = on_access (a.fresh m v) at m n (λ x. walk a n (k x) m)
walk a n (Tree.Birth at shapes k) m = walk a n (k (a.birth m shapes).pointers) (a.birth m shapes).memory
walk a n (Tree.Death at ps t) m = walk a n t (a.death m ps)
walk a n (Tree.Ask asked k) m = walked (Reached.Asks asked k) m n
walk a n (Tree.Cross at func args depth k) m = walked (Reached.Crosses at func args depth k) m n

-- a walk goes on with n ticks more
abbrev pub onward : {M : Type 0} → Accesses M → ℕ → Reached → M → ℕ → Walked M
onward a n Reached.Idles m left = walked Reached.Idles m (left + n)
onward a n (Reached.Opens k) m left = walked (Reached.Opens k) m (left + n)
onward a n (Reached.Ended v t) m left = walked (Reached.Ended v t) m (left + n)
onward a n (Reached.Stopped kind at) m left = walked (Reached.Stopped kind at) m (left + n)
onward a n (Reached.Needs at d t) m left = walk a n (Tree.Tick at d t) m
onward a n (Reached.Asks asked k) m left = walked (Reached.Asks asked k) m (left + n)
onward a n (Reached.Crosses at func args depth k) m left = walked (Reached.Crosses at func args depth k) m (left + n)

abbrev pub further : {M : Type 0} → Accesses M → ℕ → Walked M → Walked M
further a n w = onward a n w.reached w.memory w.left

abbrev pub WalksGoOn : Type 0 → Type 0
WalksGoOn M = (a : Accesses M) (n more : ℕ) (t : Tree) (m : M) → walk a (n + more) t m ≡ further a more (walk a n t m)

-- what a walk reaches, with s ticks more in the tree
abbrev pub cut_reached : ℕ → Reached → Reached
cut_reached s Reached.Idles = Reached.Idles
cut_reached s (Reached.Opens k) = Reached.Opens (λ vs. cut s (k vs))
cut_reached s (Reached.Ended v t) = Reached.Ended v (cut s t)
cut_reached s (Reached.Stopped kind at) = Reached.Stopped kind at
cut_reached s (Reached.Needs at d t) = Reached.Needs at d (cut_next s at t)
cut_reached s (Reached.Asks asked k) = Reached.Asks asked (λ vs. cut s (k vs))
cut_reached s (Reached.Crosses at func args depth k) = Reached.Crosses at func args depth (λ v. cut s (k v))

-- a walk of a tree that is cut, r ticks behind the walk's own, is the walk of the tree, with what it reaches cut
abbrev pub WalksCut : Type 0 → Type 0
WalksCut M =
    (a : Accesses M) (n r : ℕ) (t : Tree) (m : M)
    → walk a n (cut (n + r) t) m ≡ walked (cut_reached ((walk a n t m).left + r) (walk a n t m).reached) (walk a n t m).memory (walk a n t m).left
