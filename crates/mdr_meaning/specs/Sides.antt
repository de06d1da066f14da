-- believed
-- Where code runs: the bodies of its side, the function that is active, its slots and what follows a statement.
use Rattle.std.specs.Prelude.{ℕ, Bool, List, [], ◌∷◌, Option}
use Rattle.mdr_core.specs.declared.types.Ty.{Ty}
use Rattle.mdr_core.specs.declared.place.At.{At}
use Rattle.mdr_core.specs.Code.{Way, Codes}
use Rattle.mdr_core.specs.Layout.{chosen, zero_value}
use Rattle.mdr_core.specs.Typing.{Slot}
use Rattle.mdr_meaning.specs.declared.wire.Wire.{Wire}
use Rattle.mdr_meaning.specs.declared.wire.Wire.TheVariants as wire
use Rattle.mdr_meaning.specs.Numbers.{Numbered}
use Rattle.mdr_meaning.specs.Tree.{Tree}
use Rattle.mdr_meaning.specs.Values.{wire_of}

-- a function's body: its slots, parameters first, the type of its result, its code
pub record Body : Type 0 where
  pub slots : List Slot
  pub result : Ty
  pub code : Codes

-- a side: the bodies that are entered, and whether births and deaths of objects are asked of the other half
pub record Side : Type 0 where
  pub known : Numbered
  pub own : ℕ → Option Body
  pub asks : Bool

-- the function that runs, and how many are active with it
pub record Here : Type 0 where
  pub func : ℕ
  pub depth : ℕ
  pub slots : List Slot
  pub result : Ty

-- what the function's slots hold, and the objects that were born in this block, in their order
pub record Locals : Type 0 where
  pub slots : List Wire
  pub born : List Wire

-- how a statement ends
pub data Flow : Type 0 where
  Ends : Flow
  Breaks : Flow
  Continues : Flow
  Returns : (value : Wire) → Flow

-- C99 6.8.3, 6.8.6.3, 6.8.6.2
abbrev pub flow_of : Way → Flow
flow_of Way.Ends = Ends
flow_of Way.Breaks = Breaks
flow_of Way.Continues = Continues

-- what follows a statement, and what a statement does
abbrev pub Next : Type 0
Next = Flow → Locals → Tree

abbrev pub Go : Type 0
Go = Locals → Next → Tree

-- the meaning of code that may come later
abbrev pub Means : Type 0
Means = Here → Codes → Go

-- the place of a statement; 0 is the place of births and deaths
abbrev pub in_here : Here → ℕ → At
in_here here n = record { func = here.func; stmt = n }

-- what a slot holds before its declaration runs: a zero, and an object's slot no address
abbrev pub undeclared : Slot → Wire
undeclared s = chosen s.object wire.Null (wire_of (zero_value s.ty))

-- the slots of a function that was called: each parameter holds its argument
abbrev pub framed : List Slot → List Wire → List Wire
framed [] vs = []
framed (s ∷ ss) [] = undeclared s ∷ framed ss []
framed (s ∷ ss) (v ∷ vs) = v ∷ framed ss vs
