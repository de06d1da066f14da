-- The types of pointers to objects.
use Rattle.std.proofs.Common.{◌≡◌, ℕ, zero, suc, ◌<◌, ◌≤◌, List, [], ◌∷◌, length, map, slice_get, Option, Some, None, refl, sym, ap, ◌∙◌, arith}
use Rattle.mdr_core.specs.declared.types.Ty.{Ty}
use Rattle.mdr_core.specs.declared.types.Ty.TheVariants as type
use Rattle.mdr_fits.specs.declared.table.Arguments.{Arguments}
use Rattle.mdr_fits.specs.declared.table.Arguments.TheVariants as arguments
use Rattle.mdr_fits.specs.Tables.{arguments_as}
use Rattle.mdr_meaning.specs.declared.wire.Wire.{Wire}
use Rattle.mdr_split.specs.Services.{types_of}

at : (args : List Wire) (i : ℕ) → i < length args → Some type.VoidPtr ≡ slice_get (map (λ (v : Wire). type.VoidPtr) args) i
at [] i h = absurd (omega (arith, h))
at (v ∷ vs) zero h = refl
at (v ∷ vs) (suc i) h = at vs i (omega (arith, h))

behind : (args : List Wire) (i : ℕ) → length args ≤ i → ◌≡◌ {A = Option Ty} None (slice_get (map (λ (v : Wire). type.VoidPtr) args) i)
behind [] i h = refl
behind (v ∷ vs) zero h = absurd (omega (arith, h))
behind (v ∷ vs) (suc i) h = behind vs i (omega (arith, h))

pub pointer_at : (a : Arguments) (args : List Wire) (given i : ℕ) → a ≡ arguments.Objects → length args ≡ given → i < given → Some type.VoidPtr ≡ slice_get (types_of (arguments_as a) args) i
pointer_at a args given i e many h = at args i (omega (arith, many, h)) ∙ sym (ap (λ (x : Arguments). slice_get (types_of (arguments_as x) args) i) e)

pub no_pointer : (a : Arguments) (args : List Wire) (given i : ℕ) → a ≡ arguments.Objects → length args ≡ given → given ≤ i → ◌≡◌ {A = Option Ty} None (slice_get (types_of (arguments_as a) args) i)
no_pointer a args given i e many h = behind args i (omega (arith, many, h)) ∙ sym (ap (λ (x : Arguments). slice_get (types_of (arguments_as x) args) i) e)
