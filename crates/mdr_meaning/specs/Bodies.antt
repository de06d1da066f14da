-- believed
-- The tree of a function's body, with fuel, and the sides of a program.
use Rattle.std.specs.Prelude.{ℕ, zero, suc, Bool, true, false, List, [], Option, Some, None}
use Rattle.std.specs.Prelude.{slice_get}
use Rattle.mdr_core.specs.declared.stop.StopKind.TheVariants as stop
use Rattle.mdr_core.specs.declared.program.Program.{Program}
use Rattle.mdr_core.specs.declared.program.Func.{Func}
use Rattle.mdr_core.specs.declared.code.Stmt.{Stmt}
use Rattle.mdr_core.specs.declared.types.Ty.TheVariants.{Void}
use Rattle.mdr_core.specs.Folds.{codes_of}
use Rattle.mdr_core.specs.Typing.{slots_of}
use Rattle.mdr_core.specs.Layout.{chosen}
use Rattle.mdr_meaning.specs.declared.wire.Wire.{Wire}
use Rattle.mdr_meaning.specs.Calls.{goes_to}
use Rattle.mdr_meaning.specs.Numbers.{Numbered, numbered}
use Rattle.mdr_meaning.specs.Sides.{Body, Side, Means, in_here}
use Rattle.mdr_meaning.specs.Statements.{stmts}
use Rattle.mdr_meaning.specs.Tree.{Tree}

-- ---- trees with fuel

-- fuel is used where a loop turns and where a called body is entered, which a tick precedes; where it runs out no tick is left
unfoldable pub means : Side → ℕ → Means
means side zero here cs l k = Tree.Tick (in_here here 0) here.depth (Tree.Stop stop.Ticks (in_here here 0))
means side (suc n) here cs l k = stmts side (means side n) here cs l k

-- a function that is started with so many active before it, over what lies below
unfoldable pub started : Side → ℕ → (func : ℕ) (args : List Wire) (depth : ℕ) (below : Tree) → Tree
started side n f args depth below =
    goes_to side (means side n) (record { func = f; depth = depth; slots = []; result = Void }) (record { func = f; stmt = 0 }) f args (side.own f) (λ v. Tree.Done v below)

-- ---- the sides of a program

abbrev pub body_by : Func → Option (List Stmt) → Option Body
body_by func None = None
body_by func (Some body) = Some (record { slots = slots_of func; result = func.result; code = codes_of body })

abbrev pub body_from : Option Func → Option Body
body_from None = None
body_from (Some func) = body_by func func.body

-- a function's body, where it has one
unfoldable pub body_of : Program → ℕ → Option Body
body_of program f = body_from (slice_get program.funcs f)

-- what code knows of a program besides its functions
abbrev pub without_funcs : Program → Program
without_funcs program = record { types = program.types; structs = program.structs; globals = program.globals; funcs = [] }

abbrev pub known_of : Program → Numbered
known_of program = numbered (without_funcs program)

-- all bodies are entered
unfoldable pub whole_side : Program → Side
whole_side program = record { known = known_of program; own = body_of program; asks = false }

-- one half's bodies are entered: those of the kernel half, where objects are born, or those of the user half, where births and deaths are asked for
unfoldable pub kernel_side : (is_kernel : ℕ → Bool) → Program → Side
kernel_side is_kernel program = record { known = known_of program; own = λ f. chosen (is_kernel f) (body_of program f) None; asks = false }

unfoldable pub user_side : (is_kernel : ℕ → Bool) → Program → Side
user_side is_kernel program = record { known = known_of program; own = λ f. chosen (is_kernel f) None (body_of program f); asks = true }
