-- for proofs
-- What the tree of any code names: places of its side, and crossings to functions that the side has no body of.
use Rattle.std.specs.Prelude.{◌≡◌, ℕ, ◌<◌, ◌≤◌, true, List, Some, None}
use Rattle.mdr_meaning.specs.declared.wire.Wire.{Wire}
use Rattle.mdr_meaning.specs.Bodies.{started}
use Rattle.mdr_meaning.specs.Fair.{IsPlace, is_code_stop}
use Rattle.mdr_meaning.specs.Sides.{Body, Side}
use Rattle.mdr_meaning.specs.Tree.{Tree}

-- each step stands at a statement of a body of the side, or at such a body as a whole; from 1 to 256 functions are active; each stop is one that code comes to; each crossing calls a function without a body here, from at most 255 active ones. What lies below an end has a tree of its own
abbrev pub Placed : Side → Tree → Type 0
Placed side Tree.Idle = Unit {0}
Placed side (Tree.Waits k) = (vs : List Wire) → Placed side (k vs)
Placed side (Tree.Done v t) = Unit {0}
Placed side (Tree.Stop kind at) = IsPlace side at × (is_code_stop kind ≡ true)
Placed side (Tree.Tick at d t) = IsPlace side at × (1 ≤ d) × (d ≤ 256) × Placed side t
Placed side (Tree.Load at p k) = IsPlace side at × ((v : Wire) → Placed side (k v))
Placed side (Tree.Store at p v t) = IsPlace side at × Placed side t
Placed side (Tree.Read at p n k) = IsPlace side at × ((bs : List ℕ) → Placed side (k bs))
Placed side (Tree.Fresh at v k) = IsPlace side at × ((x : Wire) → Placed side (k x))
Placed side (Tree.Birth at shapes k) = IsPlace side at × ((ps : List Wire) → Placed side (k ps))
Placed side (Tree.Death at ps t) = IsPlace side at × Placed side t
Placed side (Tree.Ask a k) = IsPlace side a.at × ((rs : List Wire) → Placed side (k rs))
Placed side (Tree.Cross at f args d k) = IsPlace side at × (side.own f ≡ None) × (1 ≤ d) × (d ≤ 255) × ((v : Wire) → Placed side (k v))

-- a function of the side that is started with fewer than 256 active before it
abbrev pub TreesArePlaced : Type 0
TreesArePlaced =
    (side : Side) (n func : ℕ) (body : Body) → side.own func ≡ Some body → (args : List Wire) (depth : ℕ) → depth < 256 → (below : Tree)
    → Placed side (started side n func args depth below)
