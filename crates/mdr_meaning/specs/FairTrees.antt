-- believed
-- The trees of a sound program's functions are fair: whatever they are answered, they name nothing unknown, pass on values that fit, and stop for code's own reasons.
use Rattle.std.specs.Prelude.{◌≡◌, ℕ, ◌<◌, ◌≤◌, Bool, List, [], map, Some, slice_get}
use Rattle.mdr_core.specs.declared.program.Program.{Program}
use Rattle.mdr_core.specs.declared.program.Func.{Func}
use Rattle.mdr_core.specs.declared.program.Param.{Param}
use Rattle.mdr_core.specs.Sound.{IsSound}
use Rattle.mdr_meaning.specs.declared.wire.Wire.{Wire}
use Rattle.mdr_meaning.specs.Bodies.{body_of, kernel_side, known_of, started, user_side, whole_side}
use Rattle.mdr_meaning.specs.Fair.{AllFit, Fair, FairTo}
use Rattle.mdr_meaning.specs.Fit.{Knowledge, KnowsGlobals}
use Rattle.mdr_meaning.specs.Sides.{Body, Side}
use Rattle.mdr_meaning.specs.Tree.{Tree}
use Rattle.mdr_meaning.specs.Within.{IsWithin}

-- the side enters bodies of the program alone, all of them or some
pub record IsSideOf (program : Program) (side : Side) : Type 0 where
  pub known : side.known ≡ known_of program
  pub bodies : (f : ℕ) (body : Body) → side.own f ≡ Some body → body_of program f ≡ Some body

-- a function whose body the side enters is started, where the globals are known, and what the side's code does with functions, and fewer than so many functions are active
pub record IsStartTo (most : ℕ) (program : Program) (side : Side) (K : Knowledge) (f : ℕ) (func : Func) (args : List Wire) (depth : ℕ) : Type 0 where
  pub globals : KnowsGlobals program K
  pub within : IsWithin program side K.uses
  pub names : slice_get program.funcs f ≡ Some func
  pub body : Body
  pub own : side.own f ≡ Some body
  pub fit : AllFit program K args (map (λ (p : Param). p.ty) func.params)
  pub limited : depth < most

-- the same of a function that is called
abbrev pub IsStart : Program → Side → Knowledge → (f : ℕ) → Func → (args : List Wire) → (depth : ℕ) → Type 0
IsStart program side K f func args depth = IsStartTo 256 program side K f func args depth

abbrev pub TreesAreFair : Type 0
TreesAreFair =
    (program : Program) → IsSound program → (side : Side) → IsSideOf program side → (n f : ℕ) (func : Func) (K : Knowledge) (args : List Wire) (depth : ℕ) → IsStart program side K f func args depth
    → (below : Tree) → Fair program side func.result K [] (started side n f args depth below)

-- the same with more functions active: a handler of interrupts is one more, and no call
abbrev pub TreesAreFairTo : Type 0
TreesAreFairTo =
    (program : Program) → IsSound program → (side : Side) → IsSideOf program side → (most : ℕ) → 256 ≤ most → (n f : ℕ) (func : Func) (K : Knowledge) (args : List Wire) (depth : ℕ) → IsStartTo most program side K f func args depth
    → (below : Tree) → FairTo most program side func.result K [] (started side n f args depth below)

-- the three sides of a program are such sides
abbrev pub SidesAreOfPrograms : Type 0
SidesAreOfPrograms = (program : Program) (is_kernel : ℕ → Bool) → IsSideOf program (whole_side program) × IsSideOf program (kernel_side is_kernel program) × IsSideOf program (user_side is_kernel program)
