-- for proofs
-- What is known of the values of a sound program's expressions and lvalues: they name nothing unknown and fit their types.
use Rattle.mdr_core.specs.declared.place.At.{At}
use Rattle.mdr_core.specs.declared.program.Program.{Program}
use Rattle.mdr_core.specs.declared.types.Ty.{Ty}
use Rattle.mdr_core.specs.Code.{Term, Lvalue}
use Rattle.mdr_core.specs.Sound.{IsSound}
use Rattle.mdr_core.specs.Typing.{Slot, Extent, Has, Designates}
use Rattle.std.specs.Prelude.{List}
use Rattle.mdr_meaning.specs.declared.wire.Wire.{Wire}
use Rattle.mdr_meaning.specs.Bodies.{known_of}
use Rattle.mdr_meaning.specs.Expressions.{place, value}
use Rattle.mdr_meaning.specs.Fair.{Fair, IsPlace}
use Rattle.mdr_meaning.specs.Fit.{Knowledge, KnowsGlobals, PointsTo, Fits}
use Rattle.mdr_meaning.specs.Sides.{Side}
use Rattle.mdr_meaning.specs.Slots.{SlotsFit, elements}
use Rattle.mdr_meaning.specs.Tree.{Tree}
use Rattle.mdr_meaning.specs.Within.{LvalueWithin, TermWithin}

-- where an expression of a sound program is evaluated: at a place of the side, with the globals known and slots that hold what fits
pub record IsEvaluated (program : Program) (side : Side) (K : Knowledge) (at : At) (slots : List Slot) (held : List Wire) : Type 0 where
  pub sound : IsSound program
  pub globals : KnowsGlobals program K
  pub here : IsPlace side at
  pub fit : SlotsFit program K slots held

-- the tree of an expression that names no other functions is fair where what goes on is, for each value that fits the expression's type
abbrev pub ExpressionsAreFair : Type 0
ExpressionsAreFair =
    (program : Program) (side : Side) (result : Ty) (K : Knowledge) (live : List Wire) (at : At) (slots : List Slot) (held : List Wire) → IsEvaluated program side K at slots held
    → (e : Term) (t : Ty) → Has program slots e t → TermWithin K.uses.taken e → (k : Wire → Tree) → ((v : Wire) → Fits program K t v → Fair program side result K live (k v))
    → Fair program side result K live (value (known_of program) at held e k)

-- and that of an lvalue's address, for each pointer to elements of the type that it designates
abbrev pub LvaluesAreFair : Type 0
LvaluesAreFair =
    (program : Program) (side : Side) (result : Ty) (K : Knowledge) (live : List Wire) (at : At) (slots : List Slot) (held : List Wire) → IsEvaluated program side K at slots held
    → (p : Lvalue) (x : Extent) → Designates program slots p x → LvalueWithin K.uses.taken p → (k : Wire → Tree) → ((v : Wire) → PointsTo program K (elements x) v → Fair program side result K live (k v))
    → Fair program side result K live (place (known_of program) at held p k)
