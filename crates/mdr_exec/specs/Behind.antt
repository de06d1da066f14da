-- protocol
-- What comes next where a list of statements was left at its end, and no object was born in it.
use Rattle.std.specs.Prelude.{◌≡◌, ℕ, ◌-◌, Bool, true, false, List, Option, Some}
use Rattle.mdr_core.specs.declared.program.Program.{Program}
use Rattle.mdr_core.specs.Code.{Code, Codes}
use Rattle.mdr_exec.specs.declared.places.Part.{Part}
use Rattle.mdr_exec.specs.declared.places.Part.TheVariants as part
use Rattle.mdr_exec.specs.declared.places.Position.{Position}
use Rattle.mdr_exec.specs.Found.{body_codes}
use Rattle.mdr_exec.specs.Places.{code_before, inner}

-- a loop without a step
abbrev pub is_stepless : Option Code → Bool
is_stepless (Some (Code.Loop n e Codes.End body)) = true
is_stepless code = false

-- the list is no loop's, whatever the statement is
abbrev pub is_plain : Part → Bool
is_plain part.One = true
is_plain part.Other = true
is_plain part.Inner = true
is_plain p = false

-- the statement that is under way behind a path in a function's body
abbrev pub code_behind : Program → (func : ℕ) → List Position → (next : ℕ) → Option Code
code_behind program f path next = code_before (inner path (body_codes program f)) next

-- the place in the block around, by the position of the statement that the list is one of
pub data GoesOnAt (p : Position) (code : Option Code) : (next : ℕ) → Type 0 where
  -- the loop again
  Again : p.part ≡ part.Body → is_stepless code ≡ true → GoesOnAt p code (p.next - 1)
  -- what follows
  Past : is_plain p.part ≡ true → GoesOnAt p code p.next
