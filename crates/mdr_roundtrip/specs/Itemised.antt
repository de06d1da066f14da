-- for proofs
-- Items and trees as they are read, and with their places set aside (C99 6.7, 6.9).
use Rattle.std.specs.Prelude.{ℕ, Bool, true, false, not, ◌&&◌, ◌||◌, List, map}
use Rattle.std.specs.List.{list_all}
use Rattle.std.specs.Option.{option_map}
use Rattle.mdr_syntax.specs.declared.tree.Decl.{Decl}
use Rattle.mdr_syntax.specs.declared.tree.Enumerator.{Enumerator}
use Rattle.mdr_syntax.specs.declared.tree.Head.{Head}
use Rattle.mdr_syntax.specs.declared.tree.Init.{Init}
use Rattle.mdr_syntax.specs.declared.tree.Item.{Item}
use Rattle.mdr_syntax.specs.declared.tree.ItemWhat.{ItemWhat}
use Rattle.mdr_syntax.specs.declared.tree.ItemWhat.TheVariants as item
use Rattle.mdr_syntax.specs.declared.tree.Node.{Node}
use Rattle.mdr_syntax.specs.declared.tree.Tree.{Tree}
use Rattle.mdr_roundtrip.specs.Printable.{all}
use Rattle.mdr_roundtrip.specs.PrintableDeclarations.{maybe}
use Rattle.mdr_grammar.specs.Statements.{are_named}
use Rattle.mdr_roundtrip.specs.Shaped.{is_name, is_named_base, are_stars}
use Rattle.mdr_roundtrip.specs.Unplaced.{nowhere, unplaced_base}
use Rattle.mdr_roundtrip.specs.Initialised.{unplaced_const, unplaced_init, is_shaped_const, is_shaped_init, are_some}
use Rattle.mdr_roundtrip.specs.Declarations.{Standing, unplaced_annotation, unplaced_decl, is_annotation_at, is_shaped_decl}
use Rattle.mdr_roundtrip.specs.Stated.{unplaced_node, stated, item_at}

-- ---- places

abbrev pub unplaced_enumerator : Enumerator → Enumerator
unplaced_enumerator e = record { place = nowhere; name = e.name; value = option_map unplaced_const e.value }

abbrev pub unplaced_head : Head → Head
unplaced_head h = record { place = nowhere; name = h.name; base = unplaced_base h.base; stars = h.stars; params = map unplaced_decl h.params; ann = option_map unplaced_annotation h.ann }

abbrev pub unplaced_what_item : ItemWhat → ItemWhat
unplaced_what_item (item.Define name is_negative n kind) = item.Define name is_negative n kind
unplaced_what_item (item.Struct place name ds) = item.Struct nowhere name (map unplaced_decl ds)
unplaced_what_item (item.Enum es) = item.Enum (map unplaced_enumerator es)
unplaced_what_item (item.Global d init) = item.Global (unplaced_decl d) (option_map unplaced_init init)
unplaced_what_item (item.Proto h is_remote) = item.Proto (unplaced_head h) is_remote
unplaced_what_item (item.Func h is_critical ns) = item.Func (unplaced_head h) is_critical (map unplaced_node ns)

abbrev pub unplaced_item : Item → Item
unplaced_item i = record { place = nowhere; what = unplaced_what_item i.what }

abbrev pub unplaced_tree : Tree → Tree
unplaced_tree tree = record { items = map unplaced_item tree.items }

-- ---- shapes

abbrev pub is_shaped_field : Decl → Bool
is_shaped_field d = is_shaped_decl d Standing.Alone 0

abbrev pub is_shaped_enumerator : Enumerator → Bool
is_shaped_enumerator e = is_name e.name && maybe is_shaped_const e.value

abbrev pub initial_at : ℕ → Init → Bool
initial_at n i = is_shaped_init i n

abbrev pub is_shaped_parameter : (named : Bool) → Decl → Bool
is_shaped_parameter named d = is_shaped_decl d (Standing.Parameter named) 1

abbrev pub is_shaped_head : (named : Bool) → Head → Bool
is_shaped_head named h = is_named_base h.base && (are_stars h.stars && (is_name h.name && (list_all (is_shaped_parameter named) h.params && maybe (is_annotation_at 0) h.ann)))

abbrev pub is_shaped_body : List Node → Bool
is_shaped_body ns = all (map (item_at 0) (map stated ns))

-- a prototype's parameters may have no names, those of a function with a body have one each; `__remote` stands in a half's text alone
abbrev pub is_shaped_what : (halves : Bool) → ItemWhat → Bool
is_shaped_what halves (item.Define name is_negative n kind) = true
is_shaped_what halves (item.Struct place name ds) = is_name name && list_all is_shaped_field ds
is_shaped_what halves (item.Enum es) = are_some es && list_all is_shaped_enumerator es
is_shaped_what halves (item.Global d init) = is_shaped_field d && maybe (initial_at 0) init
is_shaped_what halves (item.Proto h is_remote) = is_shaped_head false h && (not is_remote || halves)
is_shaped_what halves (item.Func h true ns) = is_shaped_head true h && is_shaped_body ns
is_shaped_what halves (item.Func h false ns) = is_shaped_head false h && (are_named h.params && is_shaped_body ns)

abbrev pub is_shaped_item : (halves : Bool) → Item → Bool
is_shaped_item halves i = is_shaped_what halves i.what

abbrev pub is_shaped_tree : (halves : Bool) → Tree → Bool
is_shaped_tree halves tree = list_all (is_shaped_item halves) tree.items
