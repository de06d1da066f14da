-- for proofs
-- Items and trees whose text can be read again.
use Rattle.std.specs.Prelude.{ℕ, Bool, not, ◌&&◌, List, map}
use Rattle.std.specs.List.{list_all}
use Rattle.mdr_syntax.specs.declared.tree.Enumerator.{Enumerator}
use Rattle.mdr_syntax.specs.declared.tree.Head.{Head}
use Rattle.mdr_syntax.specs.declared.tree.Item.{Item}
use Rattle.mdr_syntax.specs.declared.tree.ItemWhat.{ItemWhat}
use Rattle.mdr_syntax.specs.declared.tree.ItemWhat.TheVariants as item
use Rattle.mdr_syntax.specs.declared.tree.Tree.{Tree}
use Rattle.mdr_syntax.specs.Words.{is_reserved}
use Rattle.mdr_roundtrip.specs.Words.{is_word, is_written, is_base}
use Rattle.mdr_roundtrip.specs.Printable.{all}
use Rattle.mdr_roundtrip.specs.PrintableDeclarations.{maybe, is_constant, is_annotation, is_printable_decl, is_printable_init}
use Rattle.mdr_roundtrip.specs.PrintableStatements.{is_printable_node}

abbrev pub is_printable_head : Head → Bool
is_printable_head h = is_base h.base && (is_word h.name && (list_all is_printable_decl h.params && maybe is_annotation h.ann))

abbrev pub is_printable_enumerator : Enumerator → Bool
is_printable_enumerator e = is_word e.name && maybe is_constant e.value

-- what `#define` names is no reserved word
abbrev pub is_defined : List ℕ → Bool
is_defined name = is_word name && not (is_reserved name)

abbrev pub is_printable_item : ItemWhat → Bool
is_printable_item (item.Define name is_negative n kind) = is_defined name && is_written n kind
is_printable_item (item.Struct place name fields) = is_word name && list_all is_printable_decl fields
is_printable_item (item.Enum es) = list_all is_printable_enumerator es
is_printable_item (item.Global d value) = is_printable_decl d && maybe is_printable_init value
is_printable_item (item.Proto h is_remote) = is_printable_head h
is_printable_item (item.Func h is_critical body) = is_printable_head h && all (map is_printable_node body)

abbrev pub is_printable_line : Item → Bool
is_printable_line i = is_printable_item i.what

abbrev pub is_printable : Tree → Bool
is_printable tree = list_all is_printable_line tree.items
