-- Strict trees: what is known of the tree of the user half's code besides that it is fair. Nothing stops and nothing is asked at place 0 but births and deaths of objects, and the stores there are those into parameters' objects, which were just born.
use Rattle.std.proofs.Common.{◌≡◌, ℕ, zero, suc, ◌⊎◌, true, List, [], ◌∷◌, Some, None, length}
use Rattle.std.specs.Prelude.{slice_get}
use Rattle.mdr_core.specs.declared.place.At.{At}
use Rattle.mdr_core.specs.declared.program.Func.{Func}
use Rattle.mdr_core.specs.declared.program.Program.{Program}
use Rattle.mdr_core.specs.declared.stop.StopKind.TheVariants as stop
use Rattle.mdr_core.specs.declared.types.Ty.{Ty}
use Rattle.mdr_core.specs.Services.{Service, Enter, service_numbered}
use Rattle.mdr_meaning.specs.declared.shape.Shape64.{Shape64}
use Rattle.mdr_meaning.specs.declared.wire.Wire.{Wire}
use Rattle.mdr_meaning.specs.declared.wire.Wire.TheVariants as wire
use Rattle.mdr_meaning.specs.Fair.{IsServed}
use Rattle.mdr_meaning.specs.Fit.{Fits, Grows, IsResult, Knowledge, PointsTo}
use Rattle.mdr_meaning.specs.Sides.{Side}
use Rattle.mdr_meaning.specs.Tree.{Tree}
use Rattle.mdr_split.specs.Legal.{has_statement, is_object_service}

-- ---- places

-- a statement of a function of the side
abbrev pub IsStatement : Side → At → Type 0
IsStatement side at = has_statement (side.own at.func) at.stmt ≡ true

-- ---- objects that were just born

-- an object, by what it was born as, and a pointer to it
pub record Birth : Type 0 where
  pub shape : Shape64
  pub pointer : Wire

abbrev pub births_with : List Shape64 → List Wire → List Birth
births_with [] ps = []
births_with (s ∷ shapes) [] = []
births_with (s ∷ shapes) (p ∷ ps) = record { shape = s; pointer = p } ∷ births_with shapes ps

-- those that an answer gives
abbrev pub fresh_after : Service → List Shape64 → List Wire → List Birth
fresh_after Enter shapes rs = births_with shapes rs
fresh_after s shapes rs = []

-- a pointer to one of them, of a shape of which this holds
abbrev pub IsFresh : (Shape64 → Type 0) → List Birth → Wire → Type 0
IsFresh Opens [] p = ⊥
IsFresh Opens (b ∷ fresh) p = ((p ≡ b.pointer) × Opens b.shape) ⊎ IsFresh Opens fresh p

-- a pointer that is neither null nor dead, to elements of the type: through any other nothing is loaded
abbrev pub IsLoaded : Program → Knowledge → Ty → Wire → Type 0
IsLoaded program K ty (wire.Ptr p) = PointsTo program K ty (wire.Ptr p)
IsLoaded program K ty p = ⊥

-- ---- trees

-- as far as so many ticks go, where so much is known and these objects were just born. `Opens` says of a shape that user code may touch the first cell of an object of it
abbrev pub Strict : (Shape64 → Type 0) → Program → Side → ℕ → Knowledge → List Birth → Tree → Type 0
Strict Opens program side r K fresh Tree.Idle = Unit {0}
Strict Opens program side r K fresh (Tree.Waits k) = Unit {0}
Strict Opens program side r K fresh (Tree.Done v t) = Unit {0}
Strict Opens program side r K fresh (Tree.Stop kind at) = IsStatement side at × (kind ≡ stop.Ticks → ⊥)
Strict Opens program side zero K fresh (Tree.Tick at d t) = IsStatement side at
Strict Opens program side (suc r) K fresh (Tree.Tick at d t) = IsStatement side at × Strict Opens program side r K [] t
Strict Opens program side r K fresh (Tree.Load at p k) =
    IsStatement side at × ((ty : Ty) → IsLoaded program K ty p → (v : Wire) → Fits program K ty v → Strict Opens program side r K [] (k v))
Strict Opens program side r K fresh (Tree.Store at p v t) =
    (IsStatement side at × Strict Opens program side r K [] t) ⊎ (IsFresh Opens fresh p × Strict Opens program side r K fresh t)
Strict Opens program side r K fresh (Tree.Read at p n k) = IsStatement side at × ((bs : List ℕ) → length bs ≡ n → Strict Opens program side r K [] (k bs))
Strict Opens program side r K fresh (Tree.Fresh at v k) = IsStatement side at × Strict Opens program side r K [] (k v)
Strict Opens program side r K fresh (Tree.Birth at shapes k) = ⊥
Strict Opens program side r K fresh (Tree.Death at ps t) = ⊥
Strict Opens program side r K fresh (Tree.Ask a k) =
    (IsStatement side a.at ⊎ (is_object_service a.service ≡ true))
    × ((K' : Knowledge) → Grows K K' → (s : Service) → service_numbered a.service ≡ Some s → (rs : List Wire) → IsServed program K' a s rs → Strict Opens program side r K' (fresh_after s a.shapes rs) (k rs))
Strict Opens program side r K fresh (Tree.Cross at f args depth k) =
    IsStatement side at × (side.own f ≡ None)
    × ((K' : Knowledge) → Grows K K' → (func : Func) → slice_get program.funcs f ≡ Some func → (v : Wire) → IsResult program K' func.result v → Strict Opens program side r K' [] (k v))
