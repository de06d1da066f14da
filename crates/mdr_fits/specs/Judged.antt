-- protocol
-- What values are judged by, as the code has it.
use Rattle.std.specs.Prelude.{ℕ, suc, Bool, true, false, ◌&&◌, List, [], ◌∷◌, map, Option, Some, None}
use Rattle.mdr_core.specs.declared.program.Param.{Param}
use Rattle.mdr_core.specs.declared.types.Ty.{Ty}
use Rattle.mdr_core.specs.Suited.{is_lock}
use Rattle.mdr_fits.specs.declared.places.Passes.{Passes}
use Rattle.mdr_fits.specs.declared.places.Passes.TheVariants as passes
use Rattle.mdr_fits.specs.declared.places.Places.{Places}
use Rattle.mdr_meaning.specs.declared.wire.Wire.{Wire}
use Rattle.mdr_model.specs.declared.message.New.{New}
use Rattle.mdr_paths.specs.Numbers.{numbers}
use Rattle.mdr_paths.specs.Paths.{is_in}
use Rattle.mdr_split.specs.Fits as split
use Rattle.mdr_split.specs.Legal.{fits_block}

abbrev pub passes_of : Passes → ℕ → Bool
passes_of passes.All = λ f. true
passes_of (passes.These list) = is_in numbers list.now

-- the places that the code's places are
abbrev pub places_of : Places → split.Places
places_of p = record { program = p.program.now; passes = passes_of p.passes; paired = p.paired.now; memory = p.memory.now }

-- ---- arguments

abbrev pub type_of : Param → Ty
type_of p = p.ty

abbrev pub types_of : List Param → List Ty
types_of params = map (λ (p : Param). p.ty) params

-- there is a type, and the argument passes its test
abbrev pub fits_at : (fits : Ty → Wire → Bool) → Option Ty → Wire → Bool
fits_at fits None v = false
fits_at fits (Some ty) v = fits ty v

-- ---- cells

-- values fit the cells of a block from an index on
abbrev pub all_fit : split.Places → Option New → (index : ℕ) → List Wire → Bool
all_fit p block index [] = true
all_fit p block index (v ∷ vs) = fits_block p block index v && all_fit p block (suc index) vs
