-- for proofs
-- A program and the parts of the file that it comes from.
use Rattle.std.specs.Prelude.{◌≡◌, List, [], ◌∷◌, IsTrue}
use Rattle.mdr_core.specs.declared.program.Program.{Program}
use Rattle.mdr_core.specs.declared.types.Ty.{Ty}
use Rattle.mdr_core.specs.Kinds.{is_in_range}
use Rattle.mdr_core.specs.Types.{HasNumber}
use Rattle.mdr_syntax.specs.declared.tree.Item.{Item}
use Rattle.mdr_syntax.specs.declared.tree.ItemWhat.{ItemWhat}
use Rattle.mdr_syntax.specs.declared.tree.ItemWhat.TheVariants as item
use Rattle.mdr_faults.specs.Declarations.{number_constant}
use Rattle.mdr_operand.specs.Written.{lines_of}
use Rattle.mdr_lower.specs.Tables.{Occurs}
use Rattle.mdr_sound.specs.Written.{AreNamed, AreProper}
use Rattle.mdr_program.specs.declared.parts.Parts.{Parts}
use Rattle.mdr_program.specs.Programs.{global_defs}

-- the program has these structs, globals and functions
pub record IsMadeOf (program : Program) (ps : Parts) : Type 0 where
  pub structs : program.structs ≡ ps.structs
  pub globals : program.globals ≡ global_defs program.types ps.structs ps.variables ps.variables
  pub funcs : program.funcs ≡ ps.funcs

-- each type that occurs stands in the type table
abbrev pub HasAll : Program → Type 0
HasAll program = (t : Ty) → Occurs program t → HasNumber program t

-- ---- what the source is made of

-- a `#define` has a number of its kind
abbrev pub IsDefineInRange : ItemWhat → Type 0
IsDefineInRange (item.Define name is_negative n k) = IsTrue (is_in_range (number_constant is_negative n k).kind (number_constant is_negative n k).number)
IsDefineInRange (item.Struct p name ds) = Unit {0}
IsDefineInRange (item.Enum es) = Unit {0}
IsDefineInRange (item.Global d init) = Unit {0}
IsDefineInRange (item.Proto h is_remote) = Unit {0}
IsDefineInRange (item.Func h is_critical nodes) = Unit {0}

abbrev pub AreDefinesInRange : List Item → Type 0
AreDefinesInRange [] = Unit {0}
AreDefinesInRange (i ∷ is) = IsDefineInRange i.what × AreDefinesInRange is

-- a function's body and parameters are written as the grammar writes them
abbrev pub IsBodyProper : ItemWhat → Type 0
IsBodyProper (item.Define name is_negative n k) = Unit {0}
IsBodyProper (item.Struct p name ds) = Unit {0}
IsBodyProper (item.Enum es) = Unit {0}
IsBodyProper (item.Global d init) = Unit {0}
IsBodyProper (item.Proto h is_remote) = Unit {0}
IsBodyProper (item.Func h is_critical nodes) = AreNamed h.params × AreProper (lines_of nodes)

abbrev pub AreBodiesProper : List Item → Type 0
AreBodiesProper [] = Unit {0}
AreBodiesProper (i ∷ is) = IsBodyProper i.what × AreBodiesProper is
