-- protocol
-- What the entries of the table of services stand for.
use Rattle.std.specs.Prelude.{ℕ, not, Bool, true, false, ◌&&◌, ◌==◌, List, [], ◌∷◌, Option, Some, None}
use Rattle.std.specs.List.{list_any}
use Rattle.mdr_core.specs.declared.kind.Kind.{Kind}
use Rattle.mdr_core.specs.declared.kind.Kind.TheVariants.{U32}
use Rattle.mdr_core.specs.declared.types.Ty.{Ty}
use Rattle.mdr_core.specs.declared.types.Ty.TheVariants as type
use Rattle.mdr_core.specs.Services.{handler_type}
use Rattle.mdr_core.specs.Suited.{is_lock}
use Rattle.mdr_fits.specs.declared.table.Arguments.{Arguments}
use Rattle.mdr_fits.specs.declared.table.Arguments.TheVariants as arguments
use Rattle.mdr_fits.specs.declared.table.Gives.{Gives}
use Rattle.mdr_fits.specs.declared.table.Gives.TheVariants as gives
use Rattle.mdr_fits.specs.declared.table.Parameter.{Parameter}
use Rattle.mdr_fits.specs.declared.table.Parameter.TheVariants as parameter
use Rattle.mdr_fits.specs.declared.table.Shapes.{Shapes}
use Rattle.mdr_fits.specs.declared.table.Shapes.TheVariants as shapes
use Rattle.mdr_fits.specs.declared.table.Terms.{Terms}
use Rattle.mdr_meaning.specs.declared.shape.Shape64.{Shape64}
use Rattle.mdr_meaning.specs.declared.wire.Wire.{Wire}
use Rattle.mdr_meaning.specs.declared.wire.Wire.TheVariants as wire
use Rattle.mdr_model.specs.declared.message.New.{New}
use Rattle.mdr_split.specs.Services as split

abbrev pub type_of : Parameter → Ty
type_of parameter.Number = type.Int U32
type_of parameter.Pointer = type.VoidPtr
type_of parameter.Handler = handler_type
type_of parameter.Lock = type.Ptr type.Lock

abbrev pub arguments_as : Arguments → split.Arguments
arguments_as arguments.Nothing = split.Of []
arguments_as (arguments.One p) = split.Of (type_of p ∷ [])
arguments_as (arguments.Two p q) = split.Of (type_of p ∷ type_of q ∷ [])
arguments_as arguments.Objects = split.Objects

abbrev pub shapes_as : Shapes → split.Shapes
shapes_as shapes.NoShape = split.NoShape
shapes_as shapes.OneElement = split.OneElement
shapes_as shapes.Elements = split.Elements
shapes_as shapes.Births = split.Births

abbrev pub gives_as : Gives → split.Gives
gives_as gives.Nothing = split.Nothing
gives_as (gives.Number kind) = split.Number kind
gives_as gives.Block = split.Block
gives_as gives.Pointers = split.Pointers

abbrev pub terms_as : Terms → split.Terms
terms_as t = record { arguments = arguments_as t.arguments; shapes = shapes_as t.shapes; bytes = t.bytes; gives = gives_as t.gives }

-- a type whose cells hold no lock
abbrev pub is_open : Ty → Bool
is_open ty = not (is_lock ty)

-- ---- objects

-- a value points into the block with a serial
abbrev pub names : (serial : ℕ) → Wire → Bool
names serial (wire.Ptr v) = v.serial == serial
names serial _ = false

-- a value points into a block that one of others points into
abbrev pub is_again : Wire → List Wire → Bool
is_again (wire.Ptr v) others = list_any (names v.serial) others
is_again _ others = false

-- no two values point into one block
unfoldable pub are_once : List Wire → Bool
are_once [] = true
are_once (v ∷ vs) = not (is_again v vs) && are_once vs

-- there is a value, and it is a pointer to a new block of the shape
abbrev pub new_at : List New → Shape64 → Option Wire → Bool
new_at news s None = false
new_at news s (Some v) = split.is_new news s v
