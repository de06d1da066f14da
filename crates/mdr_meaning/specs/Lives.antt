-- believed
-- Objects of locals: when they are born, and when they die (C99 6.2.4, paragraphs 4 to 6).
use Rattle.std.specs.Prelude.{ℕ, suc, Bool, true, false, not, ◌&&◌, ◌==◌, List, [], ◌∷◌, ◌++◌, slice_set}
use Rattle.std.specs.List.{list_any}
use Rattle.mdr_core.specs.declared.place.At.{At}
use Rattle.mdr_core.specs.Layout.{chosen}
use Rattle.mdr_core.specs.Typing.{Slot}
use Rattle.mdr_meaning.specs.declared.wire.Wire.{Wire}
use Rattle.mdr_meaning.specs.declared.wire.Wire.TheVariants as wire
use Rattle.mdr_meaning.specs.declared.shape.Shape64.{Shape64}
use Rattle.mdr_meaning.specs.Expressions.{slot_of}
use Rattle.mdr_meaning.specs.Numbers.{Numbered, type_number}
use Rattle.mdr_meaning.specs.Sides.{Side, Here, Locals, Flow, Returns, Next, Go, in_here}
use Rattle.mdr_meaning.specs.Tree.{Asked, Tree}

abbrev pub asked_for : (service : ℕ) → At → List Wire → List Shape64 → List ℕ → Asked
asked_for service at args shapes bytes = record { service = service; at = at; args = args; shapes = shapes; bytes = bytes }

-- on a side that asks, births are service 13 and deaths service 14
abbrev pub births_by : Bool → At → List Shape64 → (List Wire → Tree) → Tree
births_by true at shapes k = Tree.Ask (asked_for 13 at [] shapes []) k
births_by false at shapes k = Tree.Birth at shapes k

abbrev pub deaths_by : Bool → At → List Wire → Tree → Tree
deaths_by true at ps t = Tree.Ask (asked_for 14 at ps [] []) (λ results. t)
deaths_by false at ps t = Tree.Death at ps t

-- what a slot's object is born as
abbrev pub shape_of : Numbered → Slot → Shape64
shape_of known s = record { ty = type_number known s.ty; count = s.count }

-- the parameters that are objects
abbrev pub object_params : ℕ → List Slot → List ℕ
object_params i [] = []
object_params i (s ∷ ss) = chosen (s.object && not s.is_local) (i ∷ object_params (suc i) ss) (object_params (suc i) ss)

abbrev pub param_shapes : Numbered → List Slot → List Shape64
param_shapes known [] = []
param_shapes known (s ∷ ss) = chosen (s.object && not s.is_local) (shape_of known s ∷ param_shapes known ss) (param_shapes known ss)

-- an object is born in this block, and its slot holds its address
abbrev pub with_object : ℕ → Wire → Locals → Locals
with_object i p l = record { slots = slice_set l.slots i p; born = l.born ++ (p ∷ []) }

-- the parameters that are objects are given their values
abbrev pub fills : At → List ℕ → List Wire → Locals → (Locals → Tree) → Tree
fills at (i ∷ is) (p ∷ ps) l go = Tree.Store at p (slot_of l.slots i) (fills at is ps (with_object i p l) go)
fills at is ps l go = go l

-- what a function's end gives
abbrev pub returned : Flow → Wire
returned (Returns v) = v
returned flow = wire.NoValue

-- the value points into the object with this serial
abbrev pub is_into : (serial : ℕ) → Wire → Bool
is_into serial (wire.Ptr v) = v.serial == serial
is_into serial _ = false

-- a value, when these objects have died: a pointer into one of them is dead (6.2.4, paragraph 2)
abbrev pub after_deaths : List Wire → Wire → Wire
after_deaths ps (wire.Ptr v) = chosen (list_any (is_into v.serial) ps) wire.Dead (wire.Ptr v)
after_deaths ps v = v

module _ (side : Side) (here : Here) where
  -- where none is born or dies, nothing is done
  abbrev pub births : List Shape64 → (List Wire → Tree) → Tree
  births [] k = k []
  births (s ∷ shapes) k = births_by side.asks (in_here here 0) (s ∷ shapes) k

  abbrev pub deaths : List Wire → Tree → Tree
  deaths [] t = t
  deaths (p ∷ ps) t = deaths_by side.asks (in_here here 0) (p ∷ ps) t

  -- the end of a block: its objects die, before those of the blocks around. A return takes them along, to die with the function's
  abbrev pub ends : (outer : List Wire) → Next → Next
  ends outer k (Returns v) l = k (Returns v) (record { slots = l.slots; born = outer ++ l.born })
  ends outer k flow l = deaths l.born (k flow (record { slots = l.slots; born = outer }))

  abbrev pub in_block : Go → Go
  in_block go l k = go (record { slots = l.slots; born = [] }) (ends l.born k)

  -- the end of a function: what is left of its objects dies, and then its caller goes on (6.8.6.4, 6.9.1)
  abbrev pub closes : (Wire → Tree) → Next
  closes k flow l = deaths l.born (k (after_deaths l.born (returned flow)))
