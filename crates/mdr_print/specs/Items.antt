-- believed
-- Items (C99 6.9) and the whole text.
use Rattle.std.specs.Prelude.{ℕ, Bool, true, false, List, [], map, codes}
use Rattle.mdr_syntax.specs.declared.tree.Decl.{Decl}
use Rattle.mdr_syntax.specs.declared.tree.Item.{Item}
use Rattle.mdr_syntax.specs.declared.tree.ItemWhat.{ItemWhat}
use Rattle.mdr_syntax.specs.declared.tree.ItemWhat.TheVariants as item
use Rattle.mdr_syntax.specs.declared.tree.Tree.{Tree}
use Rattle.mdr_print.specs.Marks.{Mark, Marks, spell, word, blank, newline, tabs, defined, in_braces, comma_list, row, ◌▸◌}
use Rattle.mdr_print.specs.Declarations.{declaration, initialised, head, enumerator}
use Rattle.mdr_print.specs.Statements.{semicolon, braced, block_words, written}

abbrev pub marked : List ℕ → Bool → Marks
marked text true rest = word text (blank rest)
marked text false rest = rest

-- a struct's fields, one per line with a tab
abbrev pub field : Decl → Marks
field d = tabs 1 ▸ declaration d ▸ semicolon ▸ newline

abbrev pub struct_head : List ℕ → Marks
struct_head name = word (codes "struct") ▸ blank ▸ word name ▸ blank

abbrev pub fields_words : List Decl → Marks
fields_words fields = braced 0 (λ _. row (map field fields))

abbrev pub item_words : ItemWhat → Marks
item_words (item.Define name is_negative n kind) = defined name is_negative n kind
item_words (item.Struct place name fields) = struct_head name ▸ fields_words fields ▸ semicolon
item_words (item.Enum es) = word (codes "enum") ▸ blank ▸ in_braces (comma_list (map enumerator es)) ▸ semicolon
item_words (item.Global d value) = declaration d ▸ initialised value ▸ semicolon
item_words (item.Proto h is_remote) = marked (codes "__remote") is_remote ▸ head h ▸ semicolon
item_words (item.Func h is_critical body) = marked (codes "__critical") is_critical ▸ head h ▸ blank ▸ block_words (map written body) 0

abbrev pub item_lines : Item → Marks
item_lines i = item_words i.what ▸ newline

abbrev pub tree_marks : Tree → List Mark
tree_marks tree = row (map item_lines tree.items) []

unfoldable pub printed : Tree → List ℕ
printed tree = spell (tree_marks tree)
