-- believed
-- Fuel is no matter, as far as it goes; and what a side enters is all that its trees depend on.
use Rattle.std.specs.Prelude.{◌≡◌, ℕ, ◌<◌, Bool, false, List}
use Rattle.mdr_core.specs.declared.program.Program.{Program}
use Rattle.mdr_core.specs.Code.{Codes}
use Rattle.mdr_meaning.specs.declared.wire.Wire.{Wire}
use Rattle.mdr_meaning.specs.Bodies.{body_of, means, started, user_side}
use Rattle.mdr_meaning.specs.Cut.{cut}
use Rattle.mdr_meaning.specs.Sides.{Side, Here, Locals, Next}
use Rattle.mdr_meaning.specs.Tree.{Tree}

-- trees of any two fuels above r are equal up to r ticks, for every side, code, locals and continuation
abbrev pub FuelIsNoMatter : Type 0
FuelIsNoMatter =
    (side : Side) (n m r : ℕ) → r < n → r < m → (here : Here) (cs : Codes) (l : Locals) (k : Next)
    → cut r (means side n here cs l k) ≡ cut r (means side m here cs l k)

-- and those of a started function
abbrev pub StartedFuelIsNoMatter : Type 0
StartedFuelIsNoMatter =
    (side : Side) (n m r func : ℕ) → r < n → r < m → (args : List Wire) (depth : ℕ) (below : Tree)
    → cut r (started side n func args depth below) ≡ cut r (started side m func args depth below)

-- the second program is the first one's part with the user half: declared alike, the user half's bodies alike
pub record IsUserPart (is_kernel : ℕ → Bool) (program part : Program) : Type 0 where
  pub types : part.types ≡ program.types
  pub structs : part.structs ≡ program.structs
  pub globals : part.globals ≡ program.globals
  pub bodies : (f : ℕ) → is_kernel f ≡ false → body_of part f ≡ body_of program f

-- a program of the user half has the user half's trees
abbrev pub UserTreesAreEqual : Type 0
UserTreesAreEqual =
    (is_kernel : ℕ → Bool) (program part : Program) → IsUserPart is_kernel program part
    → (n func : ℕ) (args : List Wire) (depth : ℕ) (below : Tree)
    → started (user_side is_kernel part) n func args depth below ≡ started (user_side is_kernel program) n func args depth below
