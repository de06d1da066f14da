-- for proofs
-- Questions are few: a tick gives two, each question takes one.
use Rattle.std.specs.Prelude.{ℕ, suc, ◌+◌, ◌≤◌, List}
use Rattle.mdr_core.specs.declared.stop.StopKind.{StopKind}
use Rattle.mdr_core.specs.declared.place.At.{At}
use Rattle.mdr_meaning.specs.declared.shape.Shape64.{Shape64}
use Rattle.mdr_meaning.specs.declared.wire.Wire.{Wire}
use Rattle.mdr_meaning.specs.Bodies.{started}
use Rattle.mdr_meaning.specs.Sides.{Side}
use Rattle.mdr_meaning.specs.Tree.{Asked, Tree}

-- a tree with at most c questions before its next tick; what lies below has a count of its own
pub data Few : ℕ → Tree → Type 0 where
  few_idle : (c : ℕ) → Few c Tree.Idle
  few_done : (c : ℕ) (v : Wire) (t : Tree) → Few c (Tree.Done v t)
  few_stop : (c : ℕ) (kind : StopKind) (at : At) → Few c (Tree.Stop kind at)
  few_tick : (c : ℕ) (at : At) (d : ℕ) (t : Tree) → Few (c + 2) t → Few c (Tree.Tick at d t)
  few_load : (c : ℕ) (at : At) (p : Wire) (k : Wire → Tree) → ((v : Wire) → Few c (k v)) → Few c (Tree.Load at p k)
  few_store : (c : ℕ) (at : At) (p v : Wire) (t : Tree) → Few c t → Few c (Tree.Store at p v t)
  few_read : (c : ℕ) (at : At) (p : Wire) (n : ℕ) (k : List ℕ → Tree) → ((bs : List ℕ) → Few c (k bs)) → Few c (Tree.Read at p n k)
  few_fresh : (c : ℕ) (at : At) (v : Wire) (k : Wire → Tree) → ((x : Wire) → Few c (k x)) → Few c (Tree.Fresh at v k)
  few_birth : (c : ℕ) (at : At) (shapes : List Shape64) (k : List Wire → Tree) → ((ps : List Wire) → Few c (k ps)) → Few c (Tree.Birth at shapes k)
  few_death : (c : ℕ) (at : At) (ps : List Wire) (t : Tree) → Few c t → Few c (Tree.Death at ps t)
  few_ask : (c q : ℕ) → suc q ≤ c → (asked : Asked) (k : List Wire → Tree) → ((vs : List Wire) → Few q (k vs)) → Few c (Tree.Ask asked k)
  few_cross : (c q : ℕ) → suc q ≤ c → (at : At) (func : ℕ) (args : List Wire) (depth : ℕ) (k : Wire → Tree) → ((v : Wire) → Few q (k v)) → Few c (Tree.Cross at func args depth k)

-- a function that is started has two questions before its first tick, for the birth of its parameters' objects and for their death
abbrev pub QuestionsAreFew : Type 0
QuestionsAreFew = (side : Side) (n func : ℕ) (args : List Wire) (depth : ℕ) (below : Tree) → Few 2 (started side n func args depth below)
