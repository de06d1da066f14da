-- protocol
-- The code of what was found in a body.
use Rattle.std.specs.Prelude.{ℕ, Bool, true, false, List, map, Option, Some, None, slice_get, option_copied}
use Rattle.mdr_core.specs.Code.{Code, Codes}
use Rattle.mdr_core.specs.Folds.{before, code_of, codes_of, test_of}
use Rattle.mdr_core.specs.declared.code.Stmt.{Stmt}
use Rattle.mdr_core.specs.declared.program.Program.{Program}
use Rattle.mdr_core.specs.declared.program.Func.{Func}
use Rattle.mdr_exec.specs.declared.places.Turn.{Turn}
use Rattle.mdr_exec.specs.declared.places.Found.{Found as Block}
use Rattle.mdr_exec.specs.declared.places.Standing.{Standing}
use Rattle.mdr_exec.specs.declared.places.Standing.TheVariants as standing

abbrev pub turn_code : Turn → Code
turn_code t = Code.Loop t.number (test_of (option_copied t.test)) (codes_of t.step.now) (codes_of t.body.now)

abbrev pub codes_with : List Stmt → Option Turn → Codes
codes_with statements None = codes_of statements
codes_with statements (Some t) = before (map code_of statements) (turn_code t)

abbrev pub next_turn : Bool → Option Turn → Option Turn
next_turn true t = t
next_turn false t = None

abbrev pub codes_in : Block → Codes
codes_in found = codes_with found.statements.now found.turn

abbrev pub code_in : Standing → Code
code_in (standing.Statement s) = code_of s.now
code_in (standing.Turn t) = turn_code t

-- the body of a function; of one that has none, nothing
abbrev pub codes_by : Option (List Stmt) → Codes
codes_by None = Codes.End
codes_by (Some body) = codes_of body

abbrev pub codes_from : Option Func → Codes
codes_from None = Codes.End
codes_from (Some func) = codes_by func.body

unfoldable pub body_codes : Program → ℕ → Codes
body_codes program f = codes_from (slice_get program.funcs f)
