-- for proofs
-- Calls of the other half are spaced: a tick stands before each, and each is made with more functions active than when the code began.
use Rattle.std.specs.Prelude.{◌≡◌, ℕ, suc, ◌≤◌, Bool, true, false, List, Some}
use Rattle.mdr_meaning.specs.declared.wire.Wire.{Wire}
use Rattle.mdr_meaning.specs.Bodies.{started}
use Rattle.mdr_meaning.specs.Sides.{Body, Side}
use Rattle.mdr_meaning.specs.Tree.{Tree}

-- a tree that calls the other half before its next tick only where it is free to, and then no more before the tick behind that. It calls with more than so many functions active, and with at most 255; what lies below it has a word of its own
abbrev pub Spaced : (least : ℕ) (free : Bool) → Tree → Type 0
Spaced least free Tree.Idle = Unit {0}
Spaced least free (Tree.Waits k) = (vs : List Wire) → Spaced least free (k vs)
Spaced least free (Tree.Done v t) = Unit {0}
Spaced least free (Tree.Stop kind at) = Unit {0}
Spaced least free (Tree.Tick at d t) = Spaced least true t
Spaced least free (Tree.Load at p k) = (v : Wire) → Spaced least free (k v)
Spaced least free (Tree.Store at p v t) = Spaced least free t
Spaced least free (Tree.Read at p n k) = (bytes : List ℕ) → Spaced least free (k bytes)
Spaced least free (Tree.Fresh at v k) = (x : Wire) → Spaced least free (k x)
Spaced least free (Tree.Birth at shapes k) = (ps : List Wire) → Spaced least free (k ps)
Spaced least free (Tree.Death at ps t) = Spaced least free t
Spaced least free (Tree.Ask asked k) = (vs : List Wire) → Spaced least free (k vs)
Spaced least free (Tree.Cross at func args depth k) = (free ≡ true) × (suc least ≤ depth) × (depth ≤ 255) × ((v : Wire) → Spaced least false (k v))

-- a function with a body is started with no call before its first tick
abbrev pub CrossingsAreSpaced : Type 0
CrossingsAreSpaced = (side : Side) (n func : ℕ) (args : List Wire) (depth : ℕ) (body : Body) → side.own func ≡ Some body → (below : Tree) → Spaced depth false (started side n func args depth below)
