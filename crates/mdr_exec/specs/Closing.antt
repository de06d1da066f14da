-- protocol
-- Where objects die, and what a function's end leaves.
use Rattle.std.specs.Prelude.{◌≡◌, ℕ, Bool, true, false, List, [], ◌∷◌, Option, Some, None}
use Rattle.mdr_meaning.specs.declared.wire.Wire.{Wire}
use Rattle.mdr_meaning.specs.Sides.{Side, Flow}
use Rattle.mdr_meaning.specs.Tree.{Tree}
use Rattle.mdr_events.specs.Held.{Item, Scope, Held, tree}
use Rattle.mdr_exec.specs.declared.frame.Side.{Side as Which}
use Rattle.mdr_exec.specs.declared.frame.Side.TheVariants as which
use Rattle.mdr_exec.specs.Unwinding.{IsEnd, is_return}

-- on the side of the user half births and deaths are asked for
abbrev pub asks_on : Which → Bool
asks_on which.User = true
asks_on which.Kernel = false
asks_on which.Whole = false

-- the pointers to what is asked to die, where anything dies
abbrev pub asked_to_die : (asks : Bool) → List Wire → Option (List Wire)
asked_to_die asks [] = None
asked_to_die false (p ∷ ps) = None
asked_to_die true (p ∷ ps) = Some (p ∷ ps)

-- a block ends that isn't returned from, or a function does
pub data DiesAt : Flow → List Item → Type 0 where
  AtBlock : (flow : Flow) (outer : List Wire) (items : List Item) → is_return flow ≡ false → DiesAt flow (Scope outer ∷ items)
  AtEnd : (flow : Flow) (end : Item) (items : List Item) → IsEnd end → DiesAt flow (end ∷ items)

-- the function that was started last ends with a value, and what it was started over is left
pub record Finishes (side : Side) (h : Held) (v : Wire) (h' : Held) : Type 0 where
  pub by : (f r : ℕ) → tree side f h r ≡ Tree.Done v (tree side f h' r)
