-- believed
-- A program's functions by their numbers.
use Rattle.std.specs.Prelude.{ℕ, Option, slice_get}
use Rattle.mdr_core.specs.declared.program.Program.{Program}
use Rattle.mdr_core.specs.declared.program.Func.{Func}

abbrev pub func_at : Program → ℕ → Option Func
func_at program f = slice_get program.funcs f
