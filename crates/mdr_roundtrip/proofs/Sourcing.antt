-- What is known of all that a source gives: its parts have the shapes of those that are read.
use Rattle.std.proofs.Common.{◌≡◌, refl, sym, ℕ, ◌+◌, Bool, true, false, Some, List, map}
use Rattle.std.specs.Prelude.{◌&&◌, ◌||◌, not, is_none, nat_lt, nat_eq}
use Rattle.std.specs.List.{list_all}
use Rattle.std.specs.Option.{option_map}
use Rattle.std.proofs.lemmas.Bool.{false≢true}
use Rattle.mdr_syntax.specs.declared.token.Lexeme.{Lexeme}
use Rattle.mdr_syntax.specs.declared.token.Lexeme.TheVariants as lexeme
use Rattle.mdr_syntax.specs.declared.tree.Decl.{Decl, out-Decl}
use Rattle.mdr_syntax.specs.declared.tree.Item.{Item}
use Rattle.mdr_syntax.specs.declared.tree.Node.{Node}
use Rattle.mdr_syntax.specs.Words.{is_reserved}
use Rattle.mdr_roundtrip.specs.Words.{is_among}
use Rattle.mdr_roundtrip.specs.PrintableDeclarations.{maybe}
use Rattle.mdr_grammar.specs.declared.parts.Ended.{Ended}
use Rattle.mdr_grammar.specs.declared.parts.Specifier.{Specifier}
use Rattle.mdr_grammar.specs.declared.sort.Sort.{Sort}
use Rattle.mdr_grammar.specs.Sorts.{is, words, marks, sort_in, admitted, unlisted, sort_of}
use Rattle.mdr_grammar.specs.Forms.{Part, PartValue, repeated, separated, enclosed, Nonterminal, Value, Right, Rule}
use Rattle.mdr_grammar.specs.Forms.Part.{operand, expression, argument, statement, body, plain, simple, block_item, opening, local, right, right_side, label, clause, base, specifiers, size, annotation, constant, value, declarator, parameter, field, field_group, enumerator, initial, initialiser, element, global, item}
use Rattle.mdr_grammar.specs.Forms.Nonterminal.{part, option, many, commas, commas_open, after_comma, postfix, operators, choice, opened, arguments, stars, text_behind, text_after, unsigned_word, assignment, otherwise, parameters, after_void, parameter_name, parameter_declarator, qualified, outer, remote, critical, function, function_end, fields}
use Rattle.mdr_grammar.specs.Forms.Separated.{arguments_at}
use Rattle.mdr_grammar.specs.Forms.Enclosed.{elements}
use Rattle.mdr_grammar.specs.Forms.Right.{gives, takes, then}
use Rattle.mdr_grammar.specs.Forms.Rule.{never, given}
use Rattle.mdr_grammar.specs.Expressions.{text_of, is_level_free}
use Rattle.mdr_roundtrip.specs.Shaped.{is_name, is_named_base, are_stars}
use Rattle.mdr_roundtrip.specs.Initialised.{is_shaped_const, is_shaped_init, is_shaped_elem, are_some}
use Rattle.mdr_roundtrip.specs.Declarations.{Standing, may_be_named, is_annotation_at, is_shaped_decl}
use Rattle.mdr_roundtrip.specs.Stated.{stated, is_right_at, assignments, is_same_base, with_base, item_at, opening_at, is_shaped_label, is_clause_at}
use Rattle.mdr_roundtrip.specs.Itemised.{is_shaped_field, is_shaped_enumerator, is_shaped_head, is_shaped_item}
use Rattle.mdr_roundtrip.proofs.Judges.{Judge, SoundBy, SoundRuleBy}
use Rattle.mdr_roundtrip.proofs.Sorted.{listed, no}
use Rattle.mdr_roundtrip.proofs.Shaping.{is_expression, is_argument, is_text, is_postfix, is_operand, shaping}
use Rattle.mdr_roundtrip.proofs.ShapingInits.{told as init_told, initialising}

-- ---- tokens

-- what the sort of a token says of it beside
abbrev pub more : (halves : Bool) → Sort → Lexeme → Bool
more halves Sort.Remote x = halves
more halves Sort.Equals x = is_among assignments (text_of x)
more halves Sort.Compound x = is_among assignments (text_of x)
more halves _ x = true

abbrev word_more : Sort → List ℕ → Bool
word_more s text = more true s (lexeme.Word text)

abbrev mark_more : Sort → List ℕ → Bool
mark_more s text = more true s (lexeme.Punct text)

words_more : list_all (λ w. word_more w.sort w.text) words ≡ true
unfolding words
words_more = refl

marks_more : list_all (λ w. mark_more w.sort w.text) marks ≡ true
unfolding marks assignments
marks_more = refl

other_more : (text : List ℕ) → word_more (unlisted text) text ≡ true
other_more text = on (is_reserved text) refl
  where
    on : (b : Bool) → is_reserved text ≡ b → word_more (unlisted text) text ≡ true
    on true e = rw e refl
    on false e = rw e refl

any_more : (halves : Bool) (s : Sort) (x : Lexeme) → is s Sort.Remote ≡ false → more true s x ≡ true → more halves s x ≡ true
any_more halves Sort.Remote x e h = absurd (false≢true (sym e))
any_more halves Sort.Equals x e h = h
any_more halves Sort.Compound x e h = h
any_more halves _ x e h = refl

admitted_more : (halves : Bool) (s : Sort) (x : Lexeme) → more true s x ≡ true → more halves (admitted halves s) x ≡ true
admitted_more halves s x h = on (is s Sort.Remote) refl halves refl
  where
    on : (b : Bool) → is s Sort.Remote ≡ b → (c : Bool) → halves ≡ c → more halves (admitted halves s) x ≡ true
    on true e true q = rw (e, q) refl
    on true e false q = rw (e, q) refl
    on false e c q = rw e (any_more halves s x e h)

abbrev is_no_remote : Sort → List ℕ → Bool
is_no_remote s text = not (is s Sort.Remote)

none_remote : list_all (λ w. is_no_remote w.sort w.text) marks ≡ true
unfolding marks
none_remote = refl

turned : (b : Bool) → not b ≡ true → b ≡ false
turned true h = absurd (false≢true h)
turned false h = refl

no_remote : (text : List ℕ) → is (sort_in marks text Sort.Other) Sort.Remote ≡ false
no_remote text = turned (is (sort_in marks text Sort.Other) Sort.Remote) (listed is_no_remote marks text Sort.Other none_remote refl)

pub sort_more : (halves : Bool) (x : Lexeme) → more halves (sort_of halves x) x ≡ true
unfolding sort_of
sort_more halves (lexeme.Word text) = admitted_more halves (sort_in words text (unlisted text)) (lexeme.Word text) (listed word_more words text (unlisted text) words_more (other_more text))
sort_more halves (lexeme.Number n kind) = refl
sort_more halves (lexeme.Text bytes) = refl
sort_more halves (lexeme.Punct text) = any_more halves (sort_in marks text Sort.Other) (lexeme.Punct text) (no_remote text) (listed mark_more marks text Sort.Other marks_more refl)
sort_more halves (lexeme.Define name negative n kind) = refl
sort_more halves lexeme.End = refl

-- ---- values

abbrev pub declared_by : Specifier → (parentheses : ℕ) → Decl → Bool
declared_by b d x = is_shaped_decl x Standing.Alone d && (is_none (out-Decl x).ann && is_same_base b.base (out-Decl x).base)

abbrev pub local_by : Specifier → (level parentheses : ℕ) → Node → Bool
local_by b l d n = (stated n).local l d && with_base (Some b.base) (stated n).base

abbrev pub item_in : ℕ → Node → Bool
item_in l n = item_at l (stated n)

abbrev pub is_parameter : (named : Bool) → ℕ → Decl → Bool
is_parameter named d x = is_shaped_decl x (Standing.Parameter named) d

abbrev pub all_items : (halves : Bool) → List Item → Bool
all_items halves is = list_all (is_shaped_item halves) is

abbrev pub body_of : ℕ → Ended → Bool
body_of l e = (stated e.node).body l

abbrev pub good_part : (halves : Bool) → (x : Part) → PartValue x → Bool
good_part halves (operand casts l d) v = is_operand l v
good_part halves (expression l d) v = is_expression l v
good_part halves (argument l d) v = is_argument l v
good_part halves base v = is_named_base v.base
good_part halves specifiers v = is_named_base v.base
good_part halves constant v = is_shaped_const v
good_part halves value v = is_shaped_const v
good_part halves size v = is_shaped_const v
good_part halves (initialiser n) v = is_shaped_init v n
good_part halves (element n) v = is_shaped_elem v n
good_part halves initial v = is_shaped_init v 0
good_part halves (annotation d) v = is_annotation_at d v
good_part halves (declarator d b k) v = declared_by b d v
good_part halves (parameter named d) v = is_parameter named d v
good_part halves (field b) v = is_shaped_field v
good_part halves field_group v = list_all is_shaped_field v
good_part halves enumerator v = is_shaped_enumerator v
good_part halves (right l d) v = is_right_at l v
good_part halves (right_side l d) v = is_right_at l v
good_part halves label v = is_shaped_label v
good_part halves (clause l) v = is_clause_at v l
good_part halves (statement l) v = (stated v.node).statement l
good_part halves (body l) v = body_of l v
good_part halves (plain l) v = (stated v).statement l
good_part halves (simple l d) v = (stated v).simple l
good_part halves (block_item l) v = list_all (item_in l) v
good_part halves (opening l d) v = opening_at l (map stated v)
good_part halves (local first b l d) v = local_by b l d v
good_part halves (global first b) v = is_shaped_item halves v
good_part halves item v = all_items halves v

abbrev pub fits_part : Part → Bool
fits_part (operand casts l d) = is_level_free l
fits_part (expression l d) = is_level_free l
fits_part (argument l d) = is_level_free l
fits_part (declarator d b k) = is_named_base b.base && are_stars k
fits_part (field b) = is_named_base b.base
fits_part (right l d) = is_level_free l
fits_part (right_side l d) = is_level_free l
fits_part (simple l d) = is_level_free (l + 1)
fits_part (opening l d) = nat_eq d 1
fits_part (local first b l d) = is_named_base b.base
fits_part (global first b) = is_named_base b.base
fits_part _ = true

-- a list that is longer than before: where one was there, one is, and where none is allowed there is none
abbrev pub grown : {X : Type 0} → (allowed : Bool) → (before after : List X) → Bool
grown allowed before after = (allowed || not (are_some after)) && (not (are_some before) || are_some after)

abbrev pub good : (halves : Bool) → (n : Nonterminal) → Value n → Bool
good halves (part x) v = good_part halves x v
good halves (option allowed x) v = maybe (good_part halves x) v
good halves (many allowed x so_far) v = list_all (good_part halves (repeated x)) v && grown allowed so_far v
good halves (commas x so_far) v = list_all (good_part halves (separated x)) v
good halves (commas_open x so_far) v = list_all (good_part halves (enclosed x)) v && are_some v
good halves (after_comma x so_far) v = list_all (good_part halves (enclosed x)) v && are_some v
good halves (postfix l d first form alone) v = is_operand l v
good halves (operators precedence l d form) v = is_expression l v
good halves (choice l d form) v = is_expression l v
good halves (opened l d first) v = is_operand l v
good halves (arguments l d) v = list_all (is_argument l) v
good halves (stars k) v = are_stars v
good halves text_behind v = maybe is_text v
good halves text_after v = is_text v
good halves unsigned_word v = is_named_base v
good halves (assignment first l d form alone) v = (stated v).simple l
good halves (otherwise l closed) v = maybe (body_of l) v
good halves (parameters named d) v = list_all (is_parameter named d) v
good halves (after_void named d place) v = list_all (is_parameter named d) v
good halves (parameter_name named) v = may_be_named (Standing.Parameter named) (option_map (λ t. text_of t.what) v)
good halves (parameter_declarator named d b k) v = is_parameter named d v
good halves (qualified first) v = all_items halves v
good halves (outer first b k) v = all_items halves v
good halves (remote first b k) v = all_items halves v
good halves (critical first b k) v = all_items halves v
good halves (function first b k name) v = maybe (all_items halves) v
good halves (function_end first head) v = all_items halves v
good halves (fields first name) v = maybe (all_items halves) v

abbrev pub based : Specifier → ℕ → Bool
based b k = is_named_base b.base && are_stars k

abbrev pub fits : (halves : Bool) → Nonterminal → Bool
fits halves (part x) = fits_part x
fits halves (option allowed x) = not allowed || fits_part x
fits halves (many allowed x so_far) = list_all (good_part halves (repeated x)) so_far && (allowed || not (are_some so_far))
fits halves (commas x so_far) = fits_part (separated x) && list_all (good_part halves (separated x)) so_far
fits halves (commas_open x so_far) = list_all (good_part halves (enclosed x)) so_far && are_some so_far
fits halves (after_comma x so_far) = list_all (good_part halves (enclosed x)) so_far && are_some so_far
fits halves (postfix l d first form alone) = is_postfix l form alone
fits halves (operators precedence l d form) = nat_lt 1 precedence && is_expression l form
fits halves (choice l d form) = is_expression l form
fits halves (opened l d first) = is_level_free l
fits halves (arguments l d) = is_level_free l
fits halves (stars k) = are_stars k
fits halves (assignment first l d form alone) = is_level_free (l + 1) && is_postfix (l + 1) form alone
fits halves (parameter_declarator named d b k) = based b k
fits halves (outer first b k) = based b k
fits halves (remote first b k) = halves && based b k
fits halves (critical first b k) = based b k
fits halves (function first b k name) = based b k && is_name (text_of name.what)
fits halves (function_end first head) = is_shaped_head false head
fits halves (fields first name) = is_name (text_of name.what)
fits halves _ = true

abbrev pub sourcing : Bool → Judge
sourcing halves = record { told = init_told; good = good halves; fits = fits halves }

-- ---- what other judges say

-- a judge that is kept to is kept to in a source
pub record Agrees (j : Judge) (halves : Bool) : Type 0 where
  pub told : (s : Sort) (x : Lexeme) → init_told s x ≡ true → j.told s x ≡ true
  pub fits : (n : Nonterminal) → j.fits n ≡ true → fits halves n ≡ true
  pub good : (n : Nonterminal) → j.fits n ≡ true → (v : Value n) → good halves n v ≡ true → j.good n v ≡ true

pub kept_by : (j : Judge) (halves : Bool) → Agrees j halves → {A : Type 0} (r : Right A) (p : A → Bool) → SoundBy j r p → SoundBy (sourcing halves) r p
kept_by j halves a (gives v) p x = x
kept_by j halves a (takes s k) p x = λ t h. kept_by j halves a (k t) p (x t (a.told s t.what h))
kept_by j halves a (then n k) p (f, x) = (a.fits n f, λ v h. kept_by j halves a (k v) p (x v (a.good n f v h)))

pub rule_kept : (j : Judge) (halves : Bool) → Agrees j halves → {A : Type 0} (r : Rule A) (p : A → Bool) → SoundRuleBy j r p → SoundRuleBy (sourcing halves) r p
rule_kept j halves a never p x = tt
rule_kept j halves a (given b r) p x = λ h. kept_by j halves a r p (x h)

shaping_told : (s : Sort) (x : Lexeme) → init_told s x ≡ true → shaping.told s x ≡ true
shaping_told Sort.Name x h = h
shaping_told _ x h = refl

shaping_fits : (halves : Bool) (n : Nonterminal) → shaping.fits n ≡ true → fits halves n ≡ true
shaping_fits halves (part (operand casts l d)) h = h
shaping_fits halves (part (expression l d)) h = h
shaping_fits halves (part (argument l d)) h = h
shaping_fits halves (part base) h = h
shaping_fits halves (part _) h = no h
shaping_fits halves (commas (arguments_at l d) so_far) h = h
shaping_fits halves (commas _ so_far) h = no h
shaping_fits halves (postfix l d first form alone) h = h
shaping_fits halves (operators precedence l d form) h = h
shaping_fits halves (choice l d form) h = h
shaping_fits halves (opened l d first) h = h
shaping_fits halves (arguments l d) h = h
shaping_fits halves (stars k) h = h
shaping_fits halves text_behind h = h
shaping_fits halves text_after h = h
shaping_fits halves unsigned_word h = h
shaping_fits halves _ h = no h

shaping_good : (halves : Bool) (n : Nonterminal) → shaping.fits n ≡ true → (v : Value n) → good halves n v ≡ true → shaping.good n v ≡ true
shaping_good halves (part (operand casts l d)) h v g = g
shaping_good halves (part (expression l d)) h v g = g
shaping_good halves (part (argument l d)) h v g = g
shaping_good halves (part base) h v g = g
shaping_good halves (part _) h v g = no h
shaping_good halves (commas (arguments_at l d) so_far) h v g = g
shaping_good halves (commas _ so_far) h v g = no h
shaping_good halves (postfix l d first form alone) h v g = g
shaping_good halves (operators precedence l d form) h v g = g
shaping_good halves (choice l d form) h v g = g
shaping_good halves (opened l d first) h v g = g
shaping_good halves (arguments l d) h v g = g
shaping_good halves (stars k) h v g = g
shaping_good halves text_behind h v g = g
shaping_good halves text_after h v g = g
shaping_good halves unsigned_word h v g = g
shaping_good halves _ h v g = no h

pub shaping_agrees : (halves : Bool) → Agrees shaping halves
shaping_agrees halves = record { told = shaping_told; fits = shaping_fits halves; good = shaping_good halves }

initialising_fits : (halves : Bool) (n : Nonterminal) → initialising.fits n ≡ true → fits halves n ≡ true
initialising_fits halves (part constant) h = h
initialising_fits halves (part (initialiser n)) h = h
initialising_fits halves (part (element n)) h = h
initialising_fits halves (part _) h = no h
initialising_fits halves (commas_open (elements n) so_far) h = h
initialising_fits halves (commas_open _ so_far) h = no h
initialising_fits halves (after_comma (elements n) so_far) h = h
initialising_fits halves (after_comma _ so_far) h = no h
initialising_fits halves _ h = no h

initialising_good : (halves : Bool) (n : Nonterminal) → initialising.fits n ≡ true → (v : Value n) → good halves n v ≡ true → initialising.good n v ≡ true
initialising_good halves (part constant) h v g = g
initialising_good halves (part (initialiser n)) h v g = g
initialising_good halves (part (element n)) h v g = g
initialising_good halves (part _) h v g = no h
initialising_good halves (commas_open (elements n) so_far) h v g = g
initialising_good halves (commas_open _ so_far) h v g = no h
initialising_good halves (after_comma (elements n) so_far) h v g = g
initialising_good halves (after_comma _ so_far) h v g = no h
initialising_good halves _ h v g = no h

pub initialising_agrees : (halves : Bool) → Agrees initialising halves
initialising_agrees halves = record { told = λ s x h. h; fits = initialising_fits halves; good = initialising_good halves }
