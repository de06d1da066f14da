-- believed
-- Trees that are alike: a relation that each node keeps.
use Rattle.std.specs.Prelude.{ℕ, suc, ◌≤◌, List}
use Rattle.mdr_core.specs.declared.stop.StopKind.{StopKind}
use Rattle.mdr_core.specs.declared.place.At.{At}
use Rattle.mdr_meaning.specs.declared.wire.Wire.{Wire}
use Rattle.mdr_meaning.specs.declared.shape.Shape64.{Shape64}
use Rattle.mdr_meaning.specs.Tree.{Asked, Tree}

-- R r t u says that t and u are alike for r ticks. A congruence relates two trees with the same first node where it relates what comes next; after a tick, with fewer ticks
pub record IsCongruence (R : ℕ → Tree → Tree → Type 0) : Type 0 where
  pub idle : (r : ℕ) → R r Tree.Idle Tree.Idle
  pub waits : (r : ℕ) (k l : List Wire → Tree) → ((vs : List Wire) → R r (k vs) (l vs)) → R r (Tree.Waits k) (Tree.Waits l)
  pub done : (r : ℕ) (v : Wire) (t u : Tree) → R r t u → R r (Tree.Done v t) (Tree.Done v u)
  pub stop : (r : ℕ) (kind : StopKind) (at : At) → R r (Tree.Stop kind at) (Tree.Stop kind at)
  pub tick : (r : ℕ) (at : At) (d : ℕ) (t u : Tree) → ((q : ℕ) → suc q ≤ r → R q t u) → R r (Tree.Tick at d t) (Tree.Tick at d u)
  pub load : (r : ℕ) (at : At) (p : Wire) (k l : Wire → Tree) → ((v : Wire) → R r (k v) (l v)) → R r (Tree.Load at p k) (Tree.Load at p l)
  pub store : (r : ℕ) (at : At) (p v : Wire) (t u : Tree) → R r t u → R r (Tree.Store at p v t) (Tree.Store at p v u)
  pub read : (r : ℕ) (at : At) (p : Wire) (n : ℕ) (k l : List ℕ → Tree) → ((bs : List ℕ) → R r (k bs) (l bs)) → R r (Tree.Read at p n k) (Tree.Read at p n l)
  pub fresh : (r : ℕ) (at : At) (v : Wire) (k l : Wire → Tree) → ((x : Wire) → R r (k x) (l x)) → R r (Tree.Fresh at v k) (Tree.Fresh at v l)
  pub birth : (r : ℕ) (at : At) (shapes : List Shape64) (k l : List Wire → Tree) → ((ps : List Wire) → R r (k ps) (l ps)) → R r (Tree.Birth at shapes k) (Tree.Birth at shapes l)
  pub death : (r : ℕ) (at : At) (ps : List Wire) (t u : Tree) → R r t u → R r (Tree.Death at ps t) (Tree.Death at ps u)
  pub ask : (r : ℕ) (asked : Asked) (k l : List Wire → Tree) → ((vs : List Wire) → R r (k vs) (l vs)) → R r (Tree.Ask asked k) (Tree.Ask asked l)
  pub cross : (r : ℕ) (at : At) (func : ℕ) (args : List Wire) (depth : ℕ) (k l : Wire → Tree) → ((v : Wire) → R r (k v) (l v)) → R r (Tree.Cross at func args depth k) (Tree.Cross at func args depth l)
