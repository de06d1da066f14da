-- The parts of statements are apart.
use Rattle.std.proofs.Common.{◌≡◌, ℕ, zero, suc, Bool, true, false, Option, Some, None, List, [], ◌∷◌, map, refl, codes}
use Rattle.std.specs.List.{AllByRecursion, list_all}
use Rattle.mdr_syntax.specs.declared.token.Lexeme.TheVariants.{Punct}
use Rattle.mdr_syntax.specs.declared.tree.Const.{Const}
use Rattle.mdr_syntax.specs.declared.tree.Decl.{Decl}
use Rattle.mdr_syntax.specs.declared.tree.Form.{Form}
use Rattle.mdr_syntax.specs.declared.tree.Label.{Label}
use Rattle.mdr_print.specs.Marks.{Mark, Is, Blank, Newline, Marks, spell, token_text, nothing, word, blank, tabs, spaced, row, ◌▸◌}
use Rattle.mdr_print.specs.Forms.{form, left_side}
use Rattle.mdr_print.specs.Declarations.{declaration, declarator}
use Rattle.mdr_print.specs.Statements.{Written, semicolon, line, line_of, lines, closed, braced, clause_head, sole, simple, block, assigned, optional, step_of, head_list, next_part, for_test, for_parts, at, clauses_words, otherwise, returned, label, label_words, clause_lines}
use Rattle.mdr_print.specs.Spelled.{AreApart}
use Rattle.mdr_roundtrip.specs.Standing.{stops, first, Apart}
use Rattle.mdr_roundtrip.specs.Words.{is_word, is_sign}
use Rattle.mdr_roundtrip.specs.Printable.{is_printable_form}
use Rattle.mdr_roundtrip.specs.PrintableDeclarations.{maybe, is_constant, is_printable_decl}
use Rattle.mdr_roundtrip.specs.PrintableStatements.{is_label}
use Rattle.mdr_roundtrip.proofs.Tests.{both}
use Rattle.mdr_roundtrip.proofs.WordFronts.{word_front}
use Rattle.mdr_roundtrip.proofs.SignFronts.{brace_front, unbrace_front, semicolon_front, colon_front}
use Rattle.mdr_roundtrip.proofs.Parts.{comma_then}
use Rattle.mdr_roundtrip.proofs.ShownForms.{enclosed_apart, spaced_apart, spaced_stops}
use Rattle.mdr_roundtrip.proofs.FormsApart.{forms_apart, left_side_apart}
use Rattle.mdr_roundtrip.proofs.DeclaredParts.{constant_apart}
use Rattle.mdr_roundtrip.proofs.DeclsApart.{decl_is}
use Rattle.mdr_roundtrip.proofs.InitsApart.{equals_apart}

-- apart, in front of whatever is apart
abbrev pub Free : Marks → Type 0
Free m = (rest : List Mark) → AreApart rest → AreApart (m rest)

pub record IsWritten (s : Written) : Type 0 where
  pub words : (depth : ℕ) → Free (s.words depth)
  pub body : (depth : ℕ) → Free (s.body depth)
  pub first_part : Apart s.first
  pub further_part : Apart s.further

-- ---- lines

pub tabs_free : (n : ℕ) → Free (tabs n)
tabs_free zero rest a = a
tabs_free (suc n) rest a = tabs_free n rest a

pub line_free : (depth : ℕ) (words : ℕ → Marks) → Free (words depth) → Free (line depth words)
line_free depth words h rest a = tabs_free depth (words depth (Newline ∷ rest)) (h (Newline ∷ rest) a)

pub lines_free : (depth : ℕ) (ss : List Written) → AllByRecursion IsWritten ss → Free (lines depth ss)
lines_free depth [] h rest a = a
lines_free depth (s ∷ ss) h rest a = line_free depth s.words ((h.0).words depth) (row (map (line_of depth) ss) rest) (lines_free depth ss h.1 rest a)

closed_free : (depth : ℕ) → Free (closed depth)
unfolding token_text
closed_free depth rest a = tabs_free depth (Is (Punct (codes "}")) ∷ rest) (unbrace_front (spell rest), a)

pub braced_free : (depth : ℕ) (body : ℕ → Marks) → ((d : ℕ) → Free (body d)) → Free (braced depth body)
unfolding token_text
braced_free depth body h rest a = (brace_front (spell (Newline ∷ body (suc depth) (closed depth rest))), h (suc depth) (closed depth rest) (closed_free depth rest a))

nothing_apart : Apart nothing
nothing_apart rest a q = a

pub sole_is : (words : ℕ → Marks) → ((d : ℕ) → Free (words d)) → IsWritten (sole words)
sole_is words h = record { words = h; body = λ d. line_free d words (h d); first_part = nothing_apart; further_part = nothing_apart }

ended : (m : Marks) → Apart m → Free (m ▸ semicolon)
unfolding spell token_text
ended m h rest a = h (Is (Punct (codes ";")) ∷ rest) (semicolon_front (spell rest), a) refl

pub simple_is : (m k : Marks) → Apart m → Apart k → IsWritten (simple m k)
simple_is m k h j = record { words = λ d. ended m h; body = λ d. line_free d (λ _. m ▸ semicolon) (ended m h); first_part = h; further_part = j }

pub alone_is : (m : Marks) → Apart m → IsWritten (simple m nothing)
alone_is m h = simple_is m nothing h nothing_apart

pub block_is : (ss : List Written) → AllByRecursion IsWritten ss → IsWritten (block ss)
block_is ss h = record {
  words = λ depth. braced_free depth (λ inside. lines inside ss) (λ d. lines_free d ss h);
  body = λ depth. lines_free depth ss h;
  first_part = nothing_apart;
  further_part = nothing_apart;
}

-- ---- parts

pub head_free : (text : List ℕ) → is_word text ≡ true → (m : Marks) → Apart m → Free (clause_head text m)
unfolding spell token_text
head_free text w m h rest a = (word_front text _ w refl, enclosed_apart m h rest a)

assigned_apart : (o : Option Form) → maybe is_printable_form o ≡ true → Apart (assigned o)
assigned_apart None h rest a q = a
assigned_apart (Some f) h rest a q = equals_apart (form f rest) (forms_apart f h rest a q)

assigned_stops : (o : Option Form) (rest : List Mark) → stops true (first rest) ≡ true → stops true (first (assigned o rest)) ≡ true
unfolding spell
assigned_stops None rest q = q
assigned_stops (Some f) rest q = refl

optional_apart : (o : Option Form) → maybe is_printable_form o ≡ true → Apart (optional o)
optional_apart None h rest a q = a
optional_apart (Some f) h rest a q = forms_apart f h rest a q

pub local_is : (d : Decl) (o : Option Form) → is_printable_decl d ≡ true → maybe is_printable_form o ≡ true → IsWritten (simple (declaration d ▸ assigned o) (declarator d ▸ assigned o))
local_is d o h k =
    simple_is (declaration d ▸ assigned o) (declarator d ▸ assigned o)
    (λ rest a q. (decl_is d h).whole (assigned o rest) (assigned_apart o k rest a q) (assigned_stops o rest q))
    (λ rest a q. (decl_is d h).alone (assigned o rest) (assigned_apart o k rest a q) (assigned_stops o rest q))

pub assign_is : (op : List ℕ) (f g : Form) → is_sign op ≡ true → is_printable_form f ≡ true → is_printable_form g ≡ true → IsWritten (simple (left_side f ▸ spaced op ▸ form g) nothing)
assign_is op f g h j k =
    alone_is (left_side f ▸ spaced op ▸ form g)
    (λ rest a q. left_side_apart f j (spaced op (form g rest)) (spaced_apart op h (form g rest) (forms_apart g k rest a q)) (spaced_stops op (form g rest)))

abbrev pub MaybeWritten : Option Written → Type 0
MaybeWritten None = Unit {0}
MaybeWritten (Some s) = IsWritten s

otherwise_free : (depth : ℕ) (o : Option Written) → MaybeWritten o → Free (otherwise depth o)
unfolding spell token_text
otherwise_free depth None h rest a = a
otherwise_free depth (Some s) h rest a = (word_front (codes "else") _ refl refl, braced_free depth s.body h.body rest a)

pub if_is : (test : Form) (s : Written) (o : Option Written) → is_printable_form test ≡ true → IsWritten s → MaybeWritten o
    → IsWritten (sole (λ depth. clause_head (codes "if") (form test) ▸ blank ▸ braced depth s.body ▸ otherwise depth o))
if_is test s o h g k =
    sole_is (λ depth. clause_head (codes "if") (form test) ▸ blank ▸ braced depth s.body ▸ otherwise depth o)
    (λ depth rest a. head_free (codes "if") refl (form test) (forms_apart test h) (Blank ∷ braced depth s.body (otherwise depth o rest))
    (braced_free depth s.body g.body (otherwise depth o rest) (otherwise_free depth o k rest a)))

pub headed_is : (text : List ℕ) (m : Marks) (s : Written) → is_word text ≡ true → Apart m → IsWritten s → IsWritten (sole (λ depth. clause_head text m ▸ blank ▸ braced depth s.body))
headed_is text m s w h g =
    sole_is (λ depth. clause_head text m ▸ blank ▸ braced depth s.body)
    (λ depth rest a. head_free text w m h (Blank ∷ braced depth s.body rest) (braced_free depth s.body g.body rest a))

pub do_is : (s : Written) (test : Form) → IsWritten s → is_printable_form test ≡ true
    → IsWritten (sole (λ depth. word (codes "do") ▸ blank ▸ braced depth s.body ▸ blank ▸ clause_head (codes "while") (form test) ▸ semicolon))
unfolding spell token_text
do_is s test g h =
    sole_is (λ depth. word (codes "do") ▸ blank ▸ braced depth s.body ▸ blank ▸ clause_head (codes "while") (form test) ▸ semicolon)
    (λ depth rest a. (
      word_front (codes "do") _ refl refl,
      braced_free depth s.body g.body (Blank ∷ clause_head (codes "while") (form test) (semicolon rest))
          (head_free (codes "while") refl (form test) (forms_apart test h) (semicolon rest) (semicolon_front (spell rest), a)),
    ))

-- ---- the head of a `for`

step_apart : (o : Option Written) → MaybeWritten o → Apart (step_of o)
step_apart None h rest a q = a
step_apart (Some s) h rest a q = h.first_part rest a q

test_free : (o : Option Form) → maybe is_printable_form o ≡ true → Free (for_test o)
unfolding spell token_text
test_free o h rest a = (semicolon_front (spell (Blank ∷ optional o (next_part rest))), optional_apart o h (next_part rest) (semicolon_front (spell (Blank ∷ rest)), a) refl)

list_stops : (ss : List Written) (rest : List Mark) → stops true (first rest) ≡ true → stops true (first (head_list false ss rest)) ≡ true
unfolding spell token_text
list_stops [] rest q = q
list_stops (s ∷ ss) rest q = refl

list_apart : (is_first : Bool) (ss : List Written) → AllByRecursion IsWritten ss → Apart (head_list is_first ss)
list_apart is_first [] h rest a q = a
list_apart true (s ∷ ss) h rest a q = (h.0).first_part (head_list false ss rest) (list_apart false ss h.1 rest a q) (list_stops ss rest q)
list_apart false (s ∷ ss) h rest a q = comma_then (s.further (head_list false ss rest)) ((h.0).further_part (head_list false ss rest) (list_apart false ss h.1 rest a q) (list_stops ss rest q))

pub parts_apart : (ss : List Written) (test : Option Form) (step : Option Written) → AllByRecursion IsWritten ss → maybe is_printable_form test ≡ true → MaybeWritten step → Apart (for_parts ss test step)
unfolding spell token_text
parts_apart ss test step h k g rest a q =
    list_apart true ss h (for_test test (step_of step rest)) (test_free test k (step_of step rest) (step_apart step g rest a q)) refl

-- ---- the rest

returned_free : (o : Option Form) → maybe is_printable_form o ≡ true → Free (word (codes "return") ▸ returned o ▸ semicolon)
unfolding spell token_text
returned_free None h rest a = (word_front (codes "return") _ refl refl, (semicolon_front (spell rest), a))
returned_free (Some f) h rest a = (word_front (codes "return") _ refl refl, forms_apart f h (semicolon rest) (semicolon_front (spell rest), a) refl)

pub return_is : (o : Option Form) → maybe is_printable_form o ≡ true → IsWritten (sole (λ depth. word (codes "return") ▸ returned o ▸ semicolon))
return_is o h = sole_is (λ depth. word (codes "return") ▸ returned o ▸ semicolon) (λ depth. returned_free o h)

leave_free : (text : List ℕ) → is_word text ≡ true → Free (word text ▸ semicolon)
unfolding spell token_text
leave_free text w rest a = (word_front text _ w refl, (semicolon_front (spell rest), a))

pub leave_is : (text : List ℕ) → is_word text ≡ true → IsWritten (sole (λ depth. word text ▸ semicolon))
leave_is text w = sole_is (λ depth. word text ▸ semicolon) (λ depth. leave_free text w)

pub empty_is : IsWritten (sole (λ depth. semicolon))
unfolding token_text
empty_is = sole_is (λ depth. semicolon) (λ depth rest a. (semicolon_front (spell rest), a))

-- ---- the clauses of a `switch`

abbrev pub AllFree : (ℕ → Marks) → Type 0
AllFree c = (depth : ℕ) → Free (c depth)

clauses_free : (depth : ℕ) (cs : List (ℕ → Marks)) → AllByRecursion AllFree cs → Free (row (map (at depth) cs))
clauses_free depth [] h rest a = a
clauses_free depth (c ∷ cs) h rest a = h.0 depth (row (map (at depth) cs) rest) (clauses_free depth cs h.1 rest a)

pub switch_is : (value : Form) (cs : List (ℕ → Marks)) → is_printable_form value ≡ true → AllByRecursion AllFree cs → IsWritten (sole (λ depth. clause_head (codes "switch") (form value) ▸ blank ▸ clauses_words cs depth))
switch_is value cs h k =
    sole_is (λ depth. clause_head (codes "switch") (form value) ▸ blank ▸ clauses_words cs depth)
    (λ depth rest a. head_free (codes "switch") refl (form value) (forms_apart value h) (Blank ∷ clauses_words cs depth rest)
    (braced_free depth (λ inside. row (map (at inside) cs)) (λ d. clauses_free d cs k) rest a))

label_free : (o : Option Const) → maybe is_constant o ≡ true → (rest : List Mark) → AreApart rest → AreApart (label_words o (Is (Punct (codes ":")) ∷ Newline ∷ rest))
unfolding spell token_text
label_free None h rest a = (word_front (codes "default") _ refl refl, (colon_front (spell (Newline ∷ rest)), a))
label_free (Some c) h rest a = (word_front (codes "case") _ refl refl, constant_apart c h (Is (Punct (codes ":")) ∷ Newline ∷ rest) (colon_front (spell (Newline ∷ rest)), a) refl)

labels_free : (depth : ℕ) (ls : List Label) → list_all is_label ls ≡ true → Free (row (map (label depth) ls))
labels_free depth [] h rest a = a
labels_free depth (l ∷ ls) h rest a =
    let k = both (is_label l) (list_all is_label ls) h in
    let behind : List Mark = row (map (label depth) ls) rest in
    tabs_free depth (label_words l.value (Is (Punct (codes ":")) ∷ Newline ∷ behind)) (label_free l.value k.0 behind (labels_free depth ls k.1 rest a))

pub clause_free : (ls : List Label) (ss : List Written) → list_all is_label ls ≡ true → AllByRecursion IsWritten ss → AllFree (clause_lines ls ss)
clause_free ls ss h k depth rest a = labels_free depth ls h (lines (suc depth) ss rest) (lines_free (suc depth) ss k rest a)
