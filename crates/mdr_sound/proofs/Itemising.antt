-- The items of a source are proper.
use Rattle.std.proofs.Common.{◌≡◌, Bool, true, false, List, [], ◌∷◌, map, ℕ, Ok}
use Rattle.std.specs.Prelude.{◌&&◌}
use Rattle.std.specs.List.{list_all}
use Rattle.mdr_syntax.specs.declared.token.Token.{Token}
use Rattle.mdr_syntax.specs.declared.tree.Head.{Head}
use Rattle.mdr_syntax.specs.declared.tree.Item.{Item}
use Rattle.mdr_syntax.specs.declared.tree.ItemWhat.{ItemWhat}
use Rattle.mdr_syntax.specs.declared.tree.ItemWhat.TheVariants as item
use Rattle.mdr_syntax.specs.declared.tree.Tree.{Tree}
use Rattle.mdr_syntax.specs.Tokens.{tokens_of}
use Rattle.mdr_grammar.specs.Grammar.{Reads}
use Rattle.mdr_grammar.specs.Statements.{are_named}
use Rattle.mdr_roundtrip.specs.Words.{is_word}
use Rattle.mdr_roundtrip.specs.Printable.{all}
use Rattle.mdr_roundtrip.specs.PrintableStatements.{is_printable_node}
use Rattle.mdr_roundtrip.specs.Whole.{is_defined, is_printable_head, is_printable_item, is_printable_line}
use Rattle.mdr_roundtrip.specs.Shaped.{is_name, is_named_base, are_stars}
use Rattle.mdr_roundtrip.specs.Itemised.{is_shaped_parameter, is_shaped_head, is_shaped_body, is_shaped_what, is_shaped_item}
use Rattle.mdr_roundtrip.specs.Lexed.{are_lexed}
use Rattle.mdr_roundtrip.proofs.Lexemes.{tokens_are_lexed}
use Rattle.mdr_roundtrip.proofs.Printing.{trees_are_printable}
use Rattle.mdr_roundtrip.proofs.ShapingSources.{sources_are_shaped}
use Rattle.mdr_sound.proofs.Alike.{left_of, right_of}
use Rattle.mdr_sound.specs.Written.{AreNamed}
use Rattle.mdr_sound.specs.ProperSources.{IsProperItem, AreProperItems}
use Rattle.mdr_sound.proofs.Identifying.{word_is}
use Rattle.mdr_sound.proofs.Numbering.{constant_in}
use Rattle.mdr_sound.proofs.SourceNamed.{parameters_named, found_named}
use Rattle.mdr_sound.proofs.Lined.{body_proper}

head_named : (h : Head) → is_shaped_head true h ≡ true → AreNamed h.params
head_named h e = parameters_named h.params (left_of (list_all (is_shaped_parameter true) h.params) _ (right_of (is_name h.name) _ (right_of (are_stars h.stars) _ (right_of (is_named_base h.base) _ e))))

item_proper : (halves : Bool) (w : ItemWhat) → is_printable_item w ≡ true → is_shaped_what halves w ≡ true → IsProperItem w
item_proper halves (item.Define name is_negative n kind) p s = constant_in is_negative n kind (right_of (is_defined name) _ p)
item_proper halves (item.Struct place name ds) p s = word_is name (left_of (is_word name) _ p)
item_proper halves (item.Enum es) p s = tt
item_proper halves (item.Global d init) p s = tt
item_proper halves (item.Proto h is_remote) p s = tt
item_proper halves (item.Func h true ns) p s =
    (head_named h (left_of (is_shaped_head true h) (is_shaped_body ns) s), body_proper 0 ns (right_of (is_printable_head h) (all (map is_printable_node ns)) p) (right_of (is_shaped_head true h) (is_shaped_body ns) s))
item_proper halves (item.Func h false ns) p s =
    let rest = right_of (is_shaped_head false h) (are_named h.params && is_shaped_body ns) s in
    (found_named h.params (left_of (are_named h.params) (is_shaped_body ns) rest), body_proper 0 ns (right_of (is_printable_head h) (all (map is_printable_node ns)) p) (right_of (are_named h.params) (is_shaped_body ns) rest))

items_proper : (halves : Bool) (is : List Item) → list_all is_printable_line is ≡ true → list_all (is_shaped_item halves) is ≡ true → AreProperItems is
items_proper halves [] p s = tt
items_proper halves (i ∷ is) p s = (
  item_proper halves i.what (left_of (is_printable_line i) _ p) (left_of (is_shaped_item halves i) _ s),
  items_proper halves is (right_of (is_printable_line i) _ p) (right_of (is_shaped_item halves i) _ s),
)

pub sources_proper : (halves : Bool) (tokens : List Token) (tree : Tree) → are_lexed tokens ≡ true → Reads halves tokens tree → AreProperItems tree.items
sources_proper halves tokens tree a r = items_proper halves tree.items (trees_are_printable halves tokens tree a r) (sources_are_shaped halves tokens tree a r)

pub bytes_proper : (bytes : List ℕ) (halves : Bool) (tokens : List Token) (tree : Tree) → tokens_of bytes ≡ Ok tokens → Reads halves tokens tree → AreProperItems tree.items
bytes_proper bytes halves tokens tree e r = sources_proper halves tokens tree (tokens_are_lexed bytes tokens e) r
