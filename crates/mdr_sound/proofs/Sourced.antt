-- The program of a source is sound: the parts of the law together.
use Rattle.std.proofs.Common.{◌≡◌, ℕ, zero, suc, ◌≤◌, List, [], ◌∷◌, length, Some, slice_get, arith, sym, ap, ◌∙◌, subst, IsTrue}
use Rattle.std.specs.List.{list_all}
use Rattle.mdr_core.specs.declared.program.Program.{Program}
use Rattle.mdr_core.specs.declared.types.Ty.{Ty}
use Rattle.mdr_core.specs.Sound.{IsObjectSort}
use Rattle.mdr_core.specs.Types.{HasNumber, sort_of}
use Rattle.mdr_syntax.specs.Bytes.{is_name_byte}
use Rattle.mdr_syntax.specs.declared.tree.Item.{Item}
use Rattle.mdr_syntax.specs.declared.tree.ItemWhat.{ItemWhat}
use Rattle.mdr_syntax.specs.declared.tree.ItemWhat.TheVariants as item
use Rattle.mdr_faults.specs.Faults.{Right}
use Rattle.mdr_check.specs.declared.file.Piece.{Piece}
use Rattle.mdr_check.specs.Uses.{UseRule}
use Rattle.mdr_body.specs.Bodies.{body_rule}
use Rattle.mdr_lower.specs.Tables.{Occurs}
use Rattle.mdr_program.specs.Parts.{parts_of}
use Rattle.mdr_program.specs.Programs.{made, program_of, typed}
use Rattle.mdr_typing.specs.Profile.{profile_rules}
use Rattle.mdr_type_table.specs.Apart.{AreNamed}
use Rattle.mdr_type_table.specs.Tabled.{HasFormedPointers}
use Rattle.mdr_type_table.proofs.Tabled.{types_that_occur_have_numbers}
use Rattle.mdr_type_table.specs.FileNames.{struct_name, HaveWords}
use Rattle.mdr_type_table.proofs.WholeFiles.{structs_are_named, tables_of_files_are_in_order}
use Rattle.mdr_sound.specs.Whole.{HasAll, IsDefineInRange, AreDefinesInRange, IsBodyProper, AreBodiesProper}
use Rattle.mdr_sound.proofs.Filed.{file_of, types_of_files, files_sound}
use Rattle.mdr_sound.proofs.Sorts.{not_wrong}
use Rattle.mdr_sound.specs.ProperSources.{IsProperItem, AreProperItems}
use Rattle.mdr_sound.proofs.Itemising.{bytes_proper}
use Rattle.mdr_sound.proofs.Stating.{profile_sound}
use Rattle.mdr_sound.specs.Sources.{SourcesHaveOrderedTables, SourcesAreSound}

-- ---- what the grammar gives

range_of : (what : ItemWhat) → IsProperItem what → IsDefineInRange what
range_of (item.Define name is_negative n k) h = h
range_of (item.Struct p name ds) h = tt
range_of (item.Enum es) h = tt
range_of (item.Global d init) h = tt
range_of (item.Proto f is_remote) h = tt
range_of (item.Func f is_critical nodes) h = tt

pub ranges_of : (items : List Item) → AreProperItems items → AreDefinesInRange items
ranges_of [] h = tt
ranges_of (i ∷ is) h = (range_of i.what h.0, ranges_of is h.1)

body_of : (what : ItemWhat) → IsProperItem what → IsBodyProper what
body_of (item.Define name is_negative n k) h = tt
body_of (item.Struct p name ds) h = tt
body_of (item.Enum es) h = tt
body_of (item.Global d init) h = tt
body_of (item.Proto f is_remote) h = tt
body_of (item.Func f is_critical nodes) h = h

pub bodies_of : (items : List Item) → AreProperItems items → AreBodiesProper items
bodies_of [] h = tt
bodies_of (i ∷ is) h = (body_of i.what h.0, bodies_of is h.1)

word_of : (what : ItemWhat) (name : List ℕ) → IsProperItem what → struct_name what ≡ Some name → IsTrue (list_all is_name_byte name)
word_of (item.Define other is_negative n k) name h e = absurd cc
word_of (item.Struct p other ds) name h e = subst (λ n. IsTrue (list_all is_name_byte n)) (same e) h.bytes
  where
    same : {a b : List ℕ} → Some a ≡ Some b → a ≡ b
    same q = cc
word_of (item.Enum es) name h e = absurd cc
word_of (item.Global d init) name h e = absurd cc
word_of (item.Proto f is_remote) name h e = absurd cc
word_of (item.Func f is_critical nodes) name h e = absurd cc

word_at : (items : List Item) (i : ℕ) (x : Item) (name : List ℕ) → AreProperItems items → slice_get items i ≡ Some x → struct_name x.what ≡ Some name → IsTrue (list_all is_name_byte name)
word_at [] i x name h at e = absurd cc
word_at (y ∷ ys) zero x name h at e = word_of y.what name h.0 (ap (λ (z : Item). struct_name z.what) (same at) ∙ e)
  where
    same : {a b : Item} → Some a ≡ Some b → a ≡ b
    same q = cc
word_at (y ∷ ys) (suc i) x name h at e = word_at ys i x name h.1 at e

words_of : (items : List Item) → AreProperItems items → HaveWords items
words_of items h = record { passes = λ i x name at e. word_at items i x name h at e }

-- ---- the type table

module _ (program : Program) (uses : UseRule) (items : List Item) (right : typed (body_rule profile_rules) uses items ≡ Right program) (proper : AreProperItems items) where
  formed : (t : Ty) → Occurs program t → IsObjectSort (sort_of (length program.structs) t)
  formed = types_of_files program profile_rules uses items right (ranges_of items proper) (bodies_of items proper) (λ scope known slots. profile_sound program slots scope known)

  formed_pointers : HasFormedPointers program
  formed_pointers = record { formed = λ t occurs pointer. record { formed = λ wrong. not_wrong (subst IsObjectSort wrong (formed t occurs)) } }

  named : AreNamed program.structs
  named = structs_are_named (body_rule profile_rules) uses items program (words_of items proper) right

  numbered_in : (p : Program) (xs : List Piece) → p ≡ program_of xs → AreNamed p.structs → HasFormedPointers p → length p.types ≤ 4294967296 → (t : Ty) → Occurs p t → IsObjectSort (sort_of (length p.structs) t) → HasNumber p t
  unfolding made
  numbered_in p xs is = subst (λ (p : Program). AreNamed p.structs → HasFormedPointers p → length p.types ≤ 4294967296 → (t : Ty) → Occurs p t → IsObjectSort (sort_of (length p.structs) t) → HasNumber p t) (sym is) (of_pieces xs)
    where
      of_pieces : (xs : List Piece) → AreNamed (program_of xs).structs → HasFormedPointers (program_of xs) → length (program_of xs).types ≤ 4294967296 → (t : Ty) → Occurs (program_of xs) t → IsObjectSort (sort_of (length (program_of xs).structs) t) → HasNumber (program_of xs) t
      of_pieces xs names pointers few t occurs sort = types_that_occur_have_numbers (parts_of xs) t names pointers few occurs sort

  pub has_all : length program.types ≤ 4294967296 → HasAll program
  has_all few t occurs =
      let f = file_of (body_rule profile_rules) uses items program right in
      numbered_in program f.pieces f.is named formed_pointers few t occurs (formed t occurs)

pub sources_have_tables : SourcesHaveOrderedTables
sources_have_tables bytes halves uses program is =
    let proper = bytes_proper bytes halves is.tokens is.tree is.lexed is.read in
    tables_of_files_are_in_order (body_rule profile_rules) uses (is.tree).items program (words_of (is.tree).items proper) is.typed (formed_pointers program uses (is.tree).items is.typed proper)

pub sources_sound : SourcesAreSound
sources_sound bytes halves uses program is numbers =
    let types = numbers.types in
    let proper = bytes_proper bytes halves is.tokens is.tree is.lexed is.read in
    let items = (is.tree).items in
    files_sound program profile_rules uses items is.typed (ranges_of items proper) (bodies_of items proper) (λ scope known slots. profile_sound program slots scope known) (has_all program uses items is.typed proper (omega (arith, types))) (sources_have_tables bytes halves uses program is).table numbers
