-- What is printed of a tree doesn't show its places.
use Rattle.std.proofs.Common.{◌≡◌, Option, Some, None, [], refl, sym, ap, ◌∙◌, codes}
use Rattle.std.specs.Option.{option_map}
use Rattle.mdr_syntax.specs.declared.tree.Const.{Const}
use Rattle.mdr_syntax.specs.declared.tree.Const.TheVariants as const
use Rattle.mdr_syntax.specs.declared.tree.Decl.{Decl}
use Rattle.mdr_syntax.specs.declared.tree.Enumerator.{Enumerator}
use Rattle.mdr_syntax.specs.declared.tree.Head.{Head}
use Rattle.mdr_syntax.specs.declared.tree.Init.{Init}
use Rattle.mdr_syntax.specs.declared.tree.Item.{Item}
use Rattle.mdr_syntax.specs.declared.tree.ItemWhat.{ItemWhat}
use Rattle.mdr_syntax.specs.declared.tree.ItemWhat.TheVariants as item
use Rattle.mdr_syntax.specs.declared.tree.Tree.{Tree}
use Rattle.mdr_print.specs.Marks.{Marks, spell, word, blank, newline, tabs, in_braces, comma_list, row, ◌▸◌}
use Rattle.mdr_print.specs.Types.{stars}
use Rattle.mdr_print.specs.Declarations.{shown_decl, parameters, equals, initialised, valued, head, enumerator}
use Rattle.mdr_print.specs.Statements.{semicolon, braced, block_words, written}
use Rattle.mdr_print.specs.Items.{marked, field, struct_head, item_words, item_lines, tree_marks, printed}
use Rattle.mdr_roundtrip.specs.Initialised.{unplaced_const, unplaced_init}
use Rattle.mdr_roundtrip.specs.Declarations.{unplaced_decl}
use Rattle.mdr_roundtrip.specs.Stated.{unplaced_node}
use Rattle.mdr_roundtrip.specs.Itemised.{unplaced_enumerator, unplaced_head, unplaced_what_item, unplaced_item, unplaced_tree}
use Rattle.mdr_roundtrip.proofs.PrintedForms.{all_alike, base_alike}
use Rattle.mdr_roundtrip.proofs.PrintedDecls.{annotated_alike, decl_alike, declaration_alike, init_alike}
use Rattle.mdr_roundtrip.proofs.PrintedStatements.{written_alike}

-- ---- parts

valued_alike : (o : Option Const) → valued (option_map unplaced_const o) ≡ valued o
valued_alike None = refl
valued_alike (Some (const.Number place is_negative n kind)) = refl
valued_alike (Some (const.Name place name)) = refl

initialised_alike : (o : Option Init) → initialised (option_map unplaced_init o) ≡ initialised o
initialised_alike None = refl
initialised_alike (Some x) = ap (λ (m : Marks). equals ▸ m) (init_alike x)

enumerator_alike : (e : Enumerator) → enumerator (unplaced_enumerator e) ≡ enumerator e
enumerator_alike e = λ i. word e.name ▸ valued_alike e.value i

field_alike : (d : Decl) → field (unplaced_decl d) ≡ field d
field_alike d = λ i. tabs 1 ▸ declaration_alike d i ▸ semicolon ▸ newline

head_alike : (h : Head) → head (unplaced_head h) ≡ head h
head_alike h = λ i. base_alike h.base i ▸ blank ▸ stars h.stars ▸ word h.name ▸ parameters (all_alike shown_decl unplaced_decl decl_alike h.params i) ▸ annotated_alike h.ann i

-- ---- items

item_alike : (w : ItemWhat) → item_words (unplaced_what_item w) ≡ item_words w
item_alike (item.Define name is_negative n kind) = refl
item_alike (item.Struct place name ds) = λ i. struct_head name ▸ braced 0 (λ _. row (all_alike field unplaced_decl field_alike ds i)) ▸ semicolon
item_alike (item.Enum es) = λ i. word (codes "enum") ▸ blank ▸ in_braces (comma_list (all_alike enumerator unplaced_enumerator enumerator_alike es i)) ▸ semicolon
item_alike (item.Global d value) = λ i. declaration_alike d i ▸ initialised_alike value i ▸ semicolon
item_alike (item.Proto h is_remote) = λ i. marked (codes "__remote") is_remote ▸ head_alike h i ▸ semicolon
item_alike (item.Func h is_critical ns) = λ i. marked (codes "__critical") is_critical ▸ head_alike h i ▸ blank ▸ block_words (all_alike written unplaced_node written_alike ns i) 0

line_alike : (x : Item) → item_lines (unplaced_item x) ≡ item_lines x
line_alike x = λ i. item_alike x.what i ▸ newline

-- ---- trees

marks_alike : (tree : Tree) → tree_marks (unplaced_tree tree) ≡ tree_marks tree
marks_alike tree = λ i. row (all_alike item_lines unplaced_item line_alike tree.items i) []

unplaced_printed : (tree : Tree) → printed (unplaced_tree tree) ≡ printed tree
unfolding printed
unplaced_printed tree = ap spell (marks_alike tree)

pub printed_alike : (tree other : Tree) → unplaced_tree tree ≡ unplaced_tree other → printed tree ≡ printed other
printed_alike tree other e = sym (unplaced_printed tree) ∙ ap printed e ∙ unplaced_printed other
