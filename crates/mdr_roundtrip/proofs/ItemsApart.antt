-- Printable items are apart.
use Rattle.std.proofs.Common.{◌≡◌, ℕ, Bool, true, false, Option, Some, None, List, [], ◌∷◌, map, refl, codes}
use Rattle.std.specs.Prelude.{◌&&◌, not}
use Rattle.std.specs.List.{AllByRecursion, list_all}
use Rattle.mdr_syntax.specs.declared.token.Lexeme.TheVariants.{Word, Punct}
use Rattle.mdr_syntax.specs.declared.tree.Const.{Const}
use Rattle.mdr_syntax.specs.declared.tree.Decl.{Decl}
use Rattle.mdr_syntax.specs.declared.tree.Enumerator.{Enumerator}
use Rattle.mdr_syntax.specs.declared.tree.Head.{Head}
use Rattle.mdr_syntax.specs.declared.tree.Init.{Init}
use Rattle.mdr_syntax.specs.declared.tree.Item.{Item}
use Rattle.mdr_syntax.specs.declared.tree.ItemWhat.{ItemWhat}
use Rattle.mdr_syntax.specs.declared.tree.ItemWhat.TheVariants as item
use Rattle.mdr_syntax.specs.declared.tree.Node.{Node}
use Rattle.mdr_syntax.specs.declared.tree.Tree.{Tree}
use Rattle.mdr_syntax.specs.Words.{is_reserved}
use Rattle.mdr_print.specs.Marks.{Mark, Is, Blank, Newline, spell, token_text, word, row, in_braces, comma_list}
use Rattle.mdr_print.specs.Types.{stars}
use Rattle.mdr_print.specs.Declarations.{Declared, shown_decl, declaration, parameters, annotated, constant, head, init, initialised, valued, enumerator}
use Rattle.mdr_print.specs.Statements.{semicolon, lines, block_words, written}
use Rattle.mdr_print.specs.Items.{marked, field, fields_words, item_words, item_lines, tree_marks}
use Rattle.mdr_print.specs.Spelled.{AreApart}
use Rattle.mdr_roundtrip.specs.Standing.{stops, first, Apart}
use Rattle.mdr_roundtrip.specs.Words.{is_word, is_written, is_base}
use Rattle.mdr_roundtrip.specs.Printable.{all}
use Rattle.mdr_roundtrip.specs.PrintableDeclarations.{maybe, is_constant, is_annotation, is_printable_decl, is_printable_init}
use Rattle.mdr_roundtrip.specs.PrintableStatements.{is_printable_node}
use Rattle.mdr_roundtrip.specs.Whole.{is_printable_head, is_printable_enumerator, is_defined, is_printable_item, is_printable_line, is_printable}
use Rattle.mdr_roundtrip.proofs.Tests.{both, not_true, never_when}
use Rattle.mdr_roundtrip.proofs.WordFronts.{word_front}
use Rattle.mdr_roundtrip.proofs.SignFronts.{opens, semicolon_front}
use Rattle.mdr_roundtrip.proofs.DefineFronts.{define_front}
use Rattle.mdr_roundtrip.proofs.Parts.{stops_any, no_name, no_number, word_opens, separated_apart, base_apart, stars_apart}
use Rattle.mdr_roundtrip.proofs.DeclaredParts.{IsDeclared, constant_apart, annotated_apart, parameters_apart}
use Rattle.mdr_roundtrip.proofs.DeclsApart.{decl_is, declarations_apart}
use Rattle.mdr_roundtrip.proofs.InitsApart.{equals_apart, braces_apart, inits_apart}
use Rattle.mdr_roundtrip.proofs.StatedParts.{Free, braced_free, lines_free}
use Rattle.mdr_roundtrip.proofs.StatementsApart.{statements_are}

-- ---- structs

fields_free : (ds : List Decl) → list_all is_printable_decl ds ≡ true → Free (row (map field ds))
unfolding spell token_text
fields_free [] h rest a = a
fields_free (d ∷ ds) h rest a =
    let k = both (is_printable_decl d) (list_all is_printable_decl ds) h in
    let behind : List Mark = row (map field ds) rest in
    declarations_apart d k.0 (Is (Punct (codes ";")) ∷ Newline ∷ behind) (semicolon_front (spell (Newline ∷ behind)), fields_free ds k.1 rest a) refl

struct_apart : (name : List ℕ) (ds : List Decl) → is_word name ≡ true → list_all is_printable_decl ds ≡ true → Free (λ rest. Is (Word (codes "struct")) ∷ Blank ∷ Is (Word name) ∷ Blank ∷ fields_words ds (semicolon rest))
unfolding spell token_text
struct_apart name ds w h rest a =
    (word_front (codes "struct") _ refl refl, (word_front name _ w refl, braced_free 0 (λ _. row (map field ds)) (λ _. fields_free ds h) (semicolon rest) (semicolon_front (spell rest), a)))

-- ---- enumeration constants

valued_apart : (o : Option Const) → maybe is_constant o ≡ true → Apart (valued o)
valued_apart None h rest a q = a
valued_apart (Some c) h rest a q = equals_apart (constant c rest) (constant_apart c h rest a q)

valued_stops : (o : Option Const) (rest : List Mark) → stops true (first rest) ≡ true → stops true (first (valued o rest)) ≡ true
unfolding spell
valued_stops None rest q = q
valued_stops (Some c) rest q = refl

enumerator_apart : (e : Enumerator) → is_printable_enumerator e ≡ true → Apart (enumerator e)
unfolding token_text
enumerator_apart e h rest a q =
    let k = both (is_word e.name) (maybe is_constant e.value) h in
    let stop = stops_any false (first (valued e.value rest)) (valued_stops e.value rest q) in
    (word_front e.name (spell (valued e.value rest)) k.0 (no_name (first (valued e.value rest)) stop), valued_apart e.value k.1 rest a q)

enumerators_apart : (es : List Enumerator) → list_all is_printable_enumerator es ≡ true → AllByRecursion Apart (map enumerator es)
enumerators_apart [] h = tt
enumerators_apart (e ∷ es) h =
    let k = both (is_printable_enumerator e) (list_all is_printable_enumerator es) h in
    (enumerator_apart e k.0, enumerators_apart es k.1)

enum_apart : (es : List Enumerator) → list_all is_printable_enumerator es ≡ true → Free (λ rest. Is (Word (codes "enum")) ∷ Blank ∷ in_braces (comma_list (map enumerator es)) (semicolon rest))
unfolding spell token_text
enum_apart es h rest a =
    (word_front (codes "enum") _ refl refl, braces_apart (comma_list (map enumerator es)) (separated_apart (map enumerator es) (enumerators_apart es h) true) (semicolon rest) (semicolon_front (spell rest), a))

-- ---- globals

initialised_apart : (o : Option Init) → maybe is_printable_init o ≡ true → Apart (initialised o)
initialised_apart None h rest a q = a
initialised_apart (Some i) h rest a q = equals_apart (init i rest) (inits_apart i h rest a q)

initialised_stops : (o : Option Init) (rest : List Mark) → stops true (first rest) ≡ true → stops true (first (initialised o rest)) ≡ true
unfolding spell
initialised_stops None rest q = q
initialised_stops (Some i) rest q = refl

global_apart : (d : Decl) (o : Option Init) → is_printable_decl d ≡ true → maybe is_printable_init o ≡ true → Free (λ rest. declaration d (initialised o (semicolon rest)))
unfolding spell token_text
global_apart d o h k rest a =
    declarations_apart d h (initialised o (semicolon rest)) (initialised_apart o k (semicolon rest) (semicolon_front (spell rest), a) refl) (initialised_stops o (semicolon rest) refl)

-- ---- functions

params_are : (ds : List Decl) → list_all is_printable_decl ds ≡ true → AllByRecursion IsDeclared (map shown_decl ds)
params_are [] h = tt
params_are (d ∷ ds) h =
    let k = both (is_printable_decl d) (list_all is_printable_decl ds) h in
    (decl_is d k.0, params_are ds k.1)

head_apart : (h : Head) → is_printable_head h ≡ true → Apart (head h)
unfolding spell token_text
head_apart h p rest a q =
    let i = both (is_base h.base) (is_word h.name && (list_all is_printable_decl h.params && maybe is_annotation h.ann)) p in
    let j = both (is_word h.name) (list_all is_printable_decl h.params && maybe is_annotation h.ann) i.1 in
    let k = both (list_all is_printable_decl h.params) (maybe is_annotation h.ann) j.1 in
    let params : List Declared = map shown_decl h.params in
    let behind : List Mark = parameters params (annotated h.ann rest) in
    base_apart h.base i.0 (Blank ∷ stars h.stars (word h.name behind))
    (stars_apart h.stars (word h.name behind)
    (word_front h.name (spell behind) j.0 refl, parameters_apart params (params_are h.params k.0) (annotated h.ann rest) (annotated_apart h.ann k.1 rest a q))
    (never_when opens (first (word h.name behind)) 61 (word_opens h.name (spell behind) j.0) refl))
    refl

marked_free : (text : List ℕ) (b : Bool) → is_word text ≡ true → Free (marked text b)
unfolding spell token_text
marked_free text true w rest a = (word_front text _ w refl, a)
marked_free text false w rest a = a

proto_apart : (h : Head) → is_printable_head h ≡ true → Free (λ rest. head h (semicolon rest))
unfolding spell token_text
proto_apart h p rest a = head_apart h p (semicolon rest) (semicolon_front (spell rest), a) refl

func_apart : (h : Head) (ns : List Node) → is_printable_head h ≡ true → all (map is_printable_node ns) ≡ true → Free (λ rest. head h (Blank ∷ block_words (map written ns) 0 rest))
unfolding spell
func_apart h ns p k rest a =
    head_apart h p (Blank ∷ block_words (map written ns) 0 rest) (braced_free 0 (λ inside. lines inside (map written ns)) (λ d. lines_free d (map written ns) (statements_are ns k)) rest a) refl

-- ---- the whole

item_apart : (w : ItemWhat) → is_printable_item w ≡ true → Apart (item_words w)
unfolding token_text
item_apart (item.Define name is_negative n kind) h rest a q =
    let k = both (is_defined name) (is_written n kind) h in
    let j = both (is_word name) (not (is_reserved name)) k.0 in
    (define_front name is_negative n kind (spell rest) j.0 (not_true (is_reserved name) j.1) k.1 (no_number (first rest) q), a)
item_apart (item.Struct place name fields) h rest a q = let k = both (is_word name) (list_all is_printable_decl fields) h in struct_apart name fields k.0 k.1 rest a
item_apart (item.Enum es) h rest a q = enum_apart es h rest a
item_apart (item.Global d value) h rest a q = let k = both (is_printable_decl d) (maybe is_printable_init value) h in global_apart d value k.0 k.1 rest a
item_apart (item.Proto head_of is_remote) h rest a q = marked_free (codes "__remote") is_remote refl (head head_of (semicolon rest)) (proto_apart head_of h rest a)
item_apart (item.Func head_of is_critical body) h rest a q =
    let k = both (is_printable_head head_of) (all (map is_printable_node body)) h in
    marked_free (codes "__critical") is_critical refl (head head_of (Blank ∷ block_words (map written body) 0 rest)) (func_apart head_of body k.0 k.1 rest a)

items_free : (is : List Item) → list_all is_printable_line is ≡ true → Free (row (map item_lines is))
unfolding spell
items_free [] h rest a = a
items_free (i ∷ is) h rest a =
    let k = both (is_printable_line i) (list_all is_printable_line is) h in
    item_apart i.what k.0 (Newline ∷ row (map item_lines is) rest) (items_free is k.1 rest a) refl

pub trees_apart : (tree : Tree) → is_printable tree ≡ true → AreApart (tree_marks tree)
trees_apart tree h = items_free tree.items h [] tt
