-- believed
-- The program of a file.
use Rattle.std.specs.Prelude.{List, [], ◌∷◌}
use Rattle.mdr_core.specs.declared.types.Ty.{Ty}
use Rattle.mdr_core.specs.declared.program.GlobalDef.{GlobalDef}
use Rattle.mdr_core.specs.declared.program.Program.{Program}
use Rattle.mdr_core.specs.declared.program.StructDef.{StructDef}
use Rattle.mdr_syntax.specs.declared.tree.Item.{Item}
use Rattle.mdr_check.specs.declared.file.Piece.{Piece}
use Rattle.mdr_check.specs.declared.variable.Variable.{Variable}
use Rattle.mdr_faults.specs.Faults.{Checked, Right, after}
use Rattle.mdr_check.specs.Files.{BodyRule}
use Rattle.mdr_check.specs.Tables.{type_table}
use Rattle.mdr_check.specs.Uses.{UseRule}
use Rattle.mdr_check.specs.Whole.{file_pieces}
use Rattle.mdr_program.specs.declared.parts.Parts.{Parts}
use Rattle.mdr_program.specs.Occurring.{occurring}
use Rattle.mdr_program.specs.Parts.{parts_of}
use Rattle.mdr_program.specs.Values.{first_values}

-- a global of a program with this type table and these structs, where all its globals are known
abbrev pub global_def : List Ty → List StructDef → List Variable → Variable → GlobalDef
global_def types structs vs v = record { name = v.name; ty = v.object.ty; count = v.object.count; array = v.object.array; ann = v.ann; init = first_values types structs vs v.first }

unfoldable pub global_defs : List Ty → List StructDef → (all some : List Variable) → List GlobalDef
global_defs types structs vs [] = []
global_defs types structs vs (v ∷ rest) = global_def types structs vs v ∷ global_defs types structs vs rest

abbrev pub with_types : List Ty → Parts → Program
with_types types ps = record { types = types; structs = ps.structs; globals = global_defs types ps.structs ps.variables ps.variables; funcs = ps.funcs }

-- the type table is made of the types that occur
unfoldable pub made : Parts → Program
made ps = with_types (type_table ps.structs (occurring ps)) ps

abbrev pub program_of : List Piece → Program
program_of xs = made (parts_of xs)

abbrev pub program_right : List Piece → Checked Program
program_right xs = Right (program_of xs)

-- what a file of these items comes to: its program, or all faults in it. Bodies are judged by a rule of their own
abbrev pub typed : BodyRule → UseRule → List Item → Checked Program
typed body uses items = after (file_pieces body uses items) program_right
