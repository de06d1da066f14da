-- for proofs
-- The names of what a file declares (C99 6.7.2.3, 6.9).
use Rattle.std.specs.Prelude.{◌≡◌, ℕ, Bool, List, Option, Some, None, slice_get, IsTrue}
use Rattle.std.specs.List.{list_all}
use Rattle.mdr_core.specs.declared.program.Func.{Func}
use Rattle.mdr_core.specs.declared.program.Program.{Program}
use Rattle.mdr_core.specs.declared.program.StructDef.{StructDef}
use Rattle.mdr_syntax.specs.Bytes.{is_name_byte}
use Rattle.mdr_syntax.specs.declared.tree.Item.{Item}
use Rattle.mdr_syntax.specs.declared.tree.ItemWhat.{ItemWhat}
use Rattle.mdr_syntax.specs.declared.tree.ItemWhat.TheVariants as item
use Rattle.mdr_faults.specs.Faults.{Right}
use Rattle.mdr_lower.specs.Tables.{IsOrderedTable}
use Rattle.mdr_check.specs.declared.file.Piece.{Piece}
use Rattle.mdr_check.specs.Files.{BodyRule}
use Rattle.mdr_check.specs.Uses.{UseRule}
use Rattle.mdr_program.specs.Parts.{parts_of}
use Rattle.mdr_program.specs.Programs.{typed}
use Rattle.mdr_type_table.specs.Apart.{AreNamed}
use Rattle.mdr_type_table.specs.Tabled.{HasFormedPointers}

-- the name of the struct that an item defines
abbrev pub struct_name : ItemWhat → Option (List ℕ)
struct_name (item.Define name is_negative n k) = None
struct_name (item.Struct p name ds) = Some name
struct_name (item.Enum es) = None
struct_name (item.Global d init) = None
struct_name (item.Proto h is_remote) = None
struct_name (item.Func h is_critical nodes) = None

-- the name of the function that it declares
abbrev pub func_name : ItemWhat → Option (List ℕ)
func_name (item.Define name is_negative n k) = None
func_name (item.Struct p name ds) = None
func_name (item.Enum es) = None
func_name (item.Global d init) = None
func_name (item.Proto h is_remote) = Some h.name
func_name (item.Func h is_critical nodes) = Some h.name

-- such names pass the test
pub record HaveNames (name_of : ItemWhat → Option (List ℕ)) (test : List ℕ → Bool) (items : List Item) : Type 0 where
  pub passes : (i : ℕ) (x : Item) (name : List ℕ) → slice_get items i ≡ Some x → name_of x.what ≡ Some name → IsTrue (test name)

-- the structs of these items are named by letters, digits and `_`
abbrev pub HaveWords : List Item → Type 0
HaveWords items = HaveNames struct_name (list_all is_name_byte) items

-- a program's structs and functions have names that pass the test
pub record PassesNames (test : List ℕ → Bool) (program : Program) : Type 0 where
  pub structs : (s : ℕ) (def : StructDef) → slice_get program.structs s ≡ Some def → IsTrue (test def.name)
  pub funcs : (f : ℕ) (func : Func) → slice_get program.funcs f ≡ Some func → IsTrue (test func.name)

abbrev pub NamesAreOfItems : Type 0
NamesAreOfItems = (test : List ℕ → Bool) (body : BodyRule) (uses : UseRule) (items : List Item) (program : Program) → HaveNames struct_name test items → HaveNames func_name test items → typed body uses items ≡ Right program → PassesNames test program

abbrev pub StructsAreNamed : Type 0
StructsAreNamed = (body : BodyRule) (uses : UseRule) (items : List Item) (program : Program) → HaveWords items → typed body uses items ≡ Right program → AreNamed program.structs

abbrev pub FunctionsAreNamed : Type 0
FunctionsAreNamed = (xs : List Piece) (f g : ℕ) (one other : Func) → slice_get (parts_of xs).funcs f ≡ Some one → slice_get (parts_of xs).funcs g ≡ Some other → one.name ≡ other.name → f ≡ g

abbrev pub TablesOfFilesAreInOrder : Type 0
TablesOfFilesAreInOrder = (body : BodyRule) (uses : UseRule) (items : List Item) (program : Program) → HaveWords items → typed body uses items ≡ Right program → HasFormedPointers program → IsOrderedTable program
