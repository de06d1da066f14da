-- believed
-- Values that name nothing unknown and fit their type.
use Rattle.std.specs.Prelude.{◌≡◌, ℕ, ◌≤◌, true, List, ◌∷◌, map, Option, Some, slice_get}
use Rattle.mdr_core.specs.declared.kind.Kind.{Kind}
use Rattle.mdr_core.specs.declared.types.Ty.{Ty, out-Ty}
use Rattle.mdr_core.specs.declared.types.Ty.TheOpen.{Ty-F}
use Rattle.mdr_core.specs.declared.types.Shape.{Shape}
use Rattle.mdr_core.specs.declared.value.View.{View}
use Rattle.mdr_core.specs.declared.program.Program.{Program}
use Rattle.mdr_core.specs.declared.program.Func.{Func}
use Rattle.mdr_core.specs.declared.program.GlobalDef.{GlobalDef}
use Rattle.mdr_core.specs.declared.program.Param.{Param}
use Rattle.mdr_core.specs.Kinds.{is_in_range}
use Rattle.mdr_core.specs.Views.{IsViewOf}
use Rattle.mdr_meaning.specs.declared.wire.Wire.{Wire}
use Rattle.mdr_meaning.specs.declared.wire.Wire.TheVariants as wire
use Rattle.mdr_meaning.specs.declared.wire.WireView.{WireView}
use Rattle.mdr_meaning.specs.Numbers.{number_in}
use Rattle.mdr_meaning.specs.Within.{Uses}

-- ---- what is known

-- the blocks that were ever told of, by their serials, as what each was born; and what code may do with functions
pub record Knowledge : Type 0 where
  pub blocks : ℕ → Option Shape
  pub uses : Uses

-- what was known stays known
pub record Grows (K K' : Knowledge) : Type 0 where
  pub stays : (serial : ℕ) (shape : Shape) → K.blocks serial ≡ Some shape → K'.blocks serial ≡ Some shape
  pub same : K'.uses ≡ K.uses

abbrev pub global_shape : Program → GlobalDef → Shape
global_shape program def = record { ty = number_in program.types def.ty; count = def.count }

-- the globals are known, whose serials are their numbers
pub record KnowsGlobals (program : Program) (K : Knowledge) : Type 0 where
  pub knows : (g : ℕ) (def : GlobalDef) → slice_get program.globals g ≡ Some def → K.blocks g ≡ Some (global_shape program def)

-- ---- values

abbrev pub view_of : WireView → View
view_of p = record { block = record { slot = 0; serial = p.serial }; first = p.first; ty = p.ty; count = p.count; index = p.index }

-- the pointer views a part of a known block
pub record IsKnownView (program : Program) (K : Knowledge) (p : WireView) : Type 0 where
  pub shape : Shape
  pub known : K.blocks p.serial ≡ Some shape
  pub view : IsViewOf program shape (view_of p)
  pub small : p.count ≤ 65536

abbrev pub IsInteger : Kind → Wire → Type 0
IsInteger k (wire.Int l n) = (l ≡ k) × (is_in_range k n ≡ true)
IsInteger k _ = ⊥

-- null, dead, or a known pointer whose elements are of a type that may stand there
abbrev pub IsDataPointer : Program → Knowledge → (ℕ → Type 0) → Wire → Type 0
IsDataPointer program K Takes wire.Null = Unit {0}
IsDataPointer program K Takes wire.Dead = Unit {0}
IsDataPointer program K Takes (wire.Ptr p) = Takes p.ty × IsKnownView program K p
IsDataPointer program K Takes _ = ⊥

-- a pointer to elements of the type
abbrev pub PointsTo : Program → Knowledge → Ty → Wire → Type 0
PointsTo program K ty v = IsDataPointer program K (λ n. slice_get program.types n ≡ Some ty) v

-- a pointer to elements of any type
abbrev pub IsAddress : Program → Knowledge → Wire → Type 0
IsAddress program K v = IsDataPointer program K (λ n. Unit {0}) v

-- null, or a function with this result and these parameters whose address is taken
abbrev pub IsFunction : Program → Knowledge → List Ty → Wire → Type 0
IsFunction program K types wire.Null = Unit {0}
IsFunction program K types (wire.Fn f) = (func : Func) × (slice_get program.funcs f ≡ Some func) × (func.result ∷ map (λ (p : Param). p.ty) func.params ≡ types) × (K.uses.taken f ≡ true)
IsFunction program K types _ = ⊥

abbrev pub FitsLayer : Program → Knowledge → Ty-F Ty → Wire → Type 0
FitsLayer program K (Ty-F.Int k) v = IsInteger k v
FitsLayer program K Ty-F.Lock v = ⊥
FitsLayer program K (Ty-F.Struct s) v = ⊥
FitsLayer program K (Ty-F.Ptr ty) v = PointsTo program K ty v
FitsLayer program K Ty-F.VoidPtr v = IsAddress program K v
FitsLayer program K (Ty-F.Fun types) v = IsFunction program K types v
FitsLayer program K Ty-F.Void v = ⊥

-- a value that an expression of the type may have
abbrev pub Fits : Program → Knowledge → Ty → Wire → Type 0
Fits program K ty v = FitsLayer program K (out-Ty ty) v

-- what a function gives: none, or a value of its result's type
abbrev pub IsResult : Program → Knowledge → Ty → Wire → Type 0
IsResult program K ty wire.NoValue = Unit {0}
IsResult program K ty v = Fits program K ty v
