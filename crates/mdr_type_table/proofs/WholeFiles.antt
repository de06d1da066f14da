-- The program of a file: its names, and its type table.
use Rattle.std.proofs.Common.{◌≡◌, ℕ, Bool, List, Some, slice_get, IsTrue, refl, sym, ap, ◌∙◌, subst}
use Rattle.std.specs.List.{list_all}
use Rattle.mdr_core.specs.declared.program.Func.{Func}
use Rattle.mdr_core.specs.declared.program.Program.{Program}
use Rattle.mdr_core.specs.declared.program.StructDef.{StructDef}
use Rattle.mdr_syntax.specs.Bytes.{is_name_byte}
use Rattle.mdr_syntax.specs.declared.tree.Item.{Item}
use Rattle.mdr_faults.specs.Faults.{Right}
use Rattle.mdr_lower.specs.Tables.{IsOrderedTable}
use Rattle.mdr_check.specs.declared.file.Piece.{Piece}
use Rattle.mdr_check.specs.Files.{BodyRule}
use Rattle.mdr_check.specs.Uses.{UseRule}
use Rattle.mdr_check.specs.Whole.{file_pieces}
use Rattle.mdr_program.specs.declared.parts.Parts.{Parts}
use Rattle.mdr_program.specs.Parts.{parts_of}
use Rattle.mdr_program.specs.Programs.{made, typed, program_right}
use Rattle.mdr_type_table.specs.Apart.{AreNamed}
use Rattle.mdr_type_table.specs.Tabled.{HasFormedPointers}
use Rattle.mdr_type_table.proofs.Tabled.{tables_have_each_type}
use Rattle.mdr_type_table.specs.FileNames.{HaveWords, PassesNames, NamesAreOfItems, StructsAreNamed, TablesOfFilesAreInOrder}
use Rattle.mdr_type_table.proofs.RightParts.{after_right, same_right}
use Rattle.mdr_type_table.proofs.StructNames.{parts_are_of, parts_are_named}
use Rattle.mdr_type_table.proofs.FuncNames.{parts_pass, functions_are_named}

-- the parts that a file's program is made of
record IsMade (body : BodyRule) (uses : UseRule) (items : List Item) (program : Program) : Type 0 where
  pieces : List Piece
  right : file_pieces body uses items ≡ Right pieces
  is : made (parts_of pieces) ≡ program

is_made : (body : BodyRule) (uses : UseRule) (items : List Item) (program : Program) → typed body uses items ≡ Right program → IsMade body uses items program
is_made body uses items program e =
    let a = after_right (file_pieces body uses items) program_right program e in
    record { pieces = a.value; right = a.right; is = same_right (made (parts_of a.value)) program a.made }

made_structs : (ps : Parts) → ps.structs ≡ (made ps).structs
unfolding made
made_structs ps = refl

made_funcs : (ps : Parts) → ps.funcs ≡ (made ps).funcs
unfolding made
made_funcs ps = refl

named_of : (body : BodyRule) (uses : UseRule) (items : List Item) (program : Program) (m : IsMade body uses items program) → HaveWords items → AreNamed (parts_of m.pieces).structs
named_of body uses items program m w = parts_are_named items m.pieces (parts_are_of (list_all is_name_byte) body uses items m.pieces w m.right)

pub structs_are_named : StructsAreNamed
structs_are_named body uses items program w e =
    let m = is_made body uses items program e in
    subst AreNamed (made_structs (parts_of m.pieces) ∙ ap (λ (p : Program). p.structs) m.is) (named_of body uses items program m w)

pub tables_of_files_are_in_order : TablesOfFilesAreInOrder
tables_of_files_are_in_order body uses items program w e formed =
    let m = is_made body uses items program e in
    subst IsOrderedTable m.is (tables_have_each_type (parts_of m.pieces) (named_of body uses items program m w) (subst HasFormedPointers (sym m.is) formed))

passes_by : (test : List ℕ → Bool) (ps : Parts) (program : Program) → made ps ≡ program → ((s : ℕ) (def : StructDef) → slice_get ps.structs s ≡ Some def → IsTrue (test def.name)) → ((f : ℕ) (func : Func) → slice_get ps.funcs f ≡ Some func → IsTrue (test func.name)) → PassesNames test program
passes_by test ps program is structs funcs =
    subst (PassesNames test) is (record {
      structs = λ s def e. structs s def (ap (λ (ds : List StructDef). slice_get ds s) (made_structs ps) ∙ e);
      funcs = λ f func e. funcs f func (ap (λ (fs : List Func). slice_get fs f) (made_funcs ps) ∙ e);
    })

pub names_are_of_items : NamesAreOfItems
names_are_of_items test body uses items program structs funcs e =
    let m = is_made body uses items program e in
    passes_by test (parts_of m.pieces) program m.is (parts_are_of test body uses items m.pieces structs m.right).word (parts_pass test body uses items m.pieces funcs m.right).each

-- no two functions of the program have one name
pub record HaveOnce (program : Program) : Type 0 where
  pub once : (f g : ℕ) (one other : Func) → slice_get program.funcs f ≡ Some one → slice_get program.funcs g ≡ Some other → one.name ≡ other.name → f ≡ g

once_by : (xs : List Piece) → HaveOnce (made (parts_of xs))
once_by xs = record {
  once = λ f g one other e d same.
      functions_are_named xs f g one other
      (ap (λ (fs : List Func). slice_get fs f) (made_funcs (parts_of xs)) ∙ e)
      (ap (λ (fs : List Func). slice_get fs g) (made_funcs (parts_of xs)) ∙ d) same;
}

pub functions_once : (body : BodyRule) (uses : UseRule) (items : List Item) (program : Program) → typed body uses items ≡ Right program → HaveOnce program
functions_once body uses items program e = let m = is_made body uses items program e in subst HaveOnce m.is (once_by m.pieces)
