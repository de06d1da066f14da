-- What is known of tokens and of the expressions that are given: they have the shape of expressions.
use Rattle.std.proofs.Common.{◌≡◌, refl, ℕ, ◌+◌, Bool, true, false, List}
use Rattle.std.specs.Prelude.{◌&&◌, ◌||◌, not, nat_lt, nat_eq}
use Rattle.std.specs.List.{list_all}
use Rattle.mdr_syntax.specs.declared.token.Lexeme.{Lexeme}
use Rattle.mdr_syntax.specs.declared.token.Lexeme.TheVariants as lexeme
use Rattle.mdr_syntax.specs.declared.tree.Form.{Form}
use Rattle.mdr_syntax.specs.Words.{is_reserved}
use Rattle.mdr_roundtrip.specs.Words.{is_word, is_written, is_writable, is_among, is_prefix, prefixes, is_step, steps}
use Rattle.mdr_roundtrip.specs.PrintableDeclarations.{maybe}
use Rattle.mdr_grammar.specs.declared.sort.Sort.{Sort}
use Rattle.mdr_core.specs.declared.kind.Kind.TheVariants.{U8, U16, U32, U64, S8, S16, S32, S64}
use Rattle.mdr_grammar.specs.Sorts.{is, words, marks, sort_in, admitted, unlisted, sort_of}
use Rattle.mdr_grammar.specs.Forms.{Part, PartValue, Operand, separated, Nonterminal, Value}
use Rattle.mdr_grammar.specs.Forms.Part.{operand, expression, argument, base}
use Rattle.mdr_grammar.specs.Forms.Nonterminal.{part, commas, postfix, operators, choice, opened, arguments, stars, text_behind, text_after, unsigned_word}
use Rattle.mdr_grammar.specs.Expressions.{text_of, number_in, kind_in, is_level_free, height}
use Rattle.mdr_roundtrip.specs.Lexed.{is_lexed}
use Rattle.mdr_roundtrip.specs.Shaped.{is_name, services, binaries, is_named_base, are_stars, shape_of}
use Rattle.mdr_roundtrip.specs.Alone.{is_alone}
use Rattle.mdr_roundtrip.proofs.Bools.{also}
use Rattle.mdr_roundtrip.proofs.Judges.{Judge}
use Rattle.mdr_roundtrip.proofs.Sorted.{listed, no}

-- ---- tokens

abbrev pub knows : Sort → Lexeme → Bool
knows Sort.Name x = is_name (text_of x)
knows Sort.Service x = is_among services (text_of x)
knows Sort.Number x = is_written (number_in x) (kind_in x)
knows Sort.Text x = list_all is_writable (text_of x)
knows Sort.OrElse x = is_among binaries (text_of x)
knows Sort.AndThen x = is_among binaries (text_of x)
knows Sort.Or x = is_among binaries (text_of x)
knows Sort.Xor x = is_among binaries (text_of x)
knows Sort.Equality x = is_among binaries (text_of x)
knows Sort.Relation x = is_among binaries (text_of x)
knows Sort.Shift x = is_among binaries (text_of x)
knows Sort.Slash x = is_among binaries (text_of x)
knows Sort.And x = is_prefix (text_of x) && is_among binaries (text_of x)
knows Sort.Plus x = is_prefix (text_of x) && is_among binaries (text_of x)
knows Sort.Minus x = is_prefix (text_of x) && is_among binaries (text_of x)
knows Sort.Star x = is_prefix (text_of x) && is_among binaries (text_of x)
knows Sort.Not x = is_prefix (text_of x)
knows Sort.Step x = is_prefix (text_of x) && is_step (text_of x)
knows _ x = true

abbrev word_knows : Sort → List ℕ → Bool
word_knows s text = knows s (lexeme.Word text)

abbrev mark_knows : Sort → List ℕ → Bool
mark_knows s text = knows s (lexeme.Punct text)

words_known : list_all (λ w. word_knows w.sort w.text) words ≡ true
unfolding words services
words_known = refl

marks_known : list_all (λ w. mark_knows w.sort w.text) marks ≡ true
unfolding marks prefixes steps binaries
marks_known = refl

other_known : (text : List ℕ) → is_word text ≡ true → word_knows (unlisted text) text ≡ true
other_known text w = on (is_reserved text) refl
  where
    on : (b : Bool) → is_reserved text ≡ b → word_knows (unlisted text) text ≡ true
    on true e = rw e refl
    on false e = let name : is_name text ≡ true = also (is_word text) (not (is_reserved text)) w (rw e refl) in rw e name

admitted_known : (halves : Bool) (s : Sort) (x : Lexeme) → knows s x ≡ true → knows (admitted halves s) x ≡ true
admitted_known halves s x a = on (is s Sort.Remote) refl halves refl
  where
    on : (b : Bool) → is s Sort.Remote ≡ b → (c : Bool) → halves ≡ c → knows (admitted halves s) x ≡ true
    on true e true q = rw (e, q) refl
    on true e false q = rw (e, q) refl
    on false e c q = rw e a

pub sort_knows : (halves : Bool) (x : Lexeme) → is_lexed x ≡ true → knows (sort_of halves x) x ≡ true
unfolding sort_of
sort_knows halves (lexeme.Word text) h = admitted_known halves (sort_in words text (unlisted text)) (lexeme.Word text) (listed word_knows words text (unlisted text) words_known (other_known text h))
sort_knows halves (lexeme.Number n kind) h = h
sort_knows halves (lexeme.Text bytes) h = h
sort_knows halves (lexeme.Punct text) h = listed mark_knows marks text Sort.Other marks_known refl
sort_knows halves (lexeme.Define name negative n kind) h = refl
sort_knows halves lexeme.End h = refl

-- of a token inside a production
abbrev pub told : Sort → Lexeme → Bool
told Sort.Name x = is_name (text_of x)
told _ x = true

name_of : (s : Sort) (x : Lexeme) → is Sort.Name s ≡ true → knows s x ≡ true → is_name (text_of x) ≡ true
name_of Sort.Name x e m = m
name_of (Sort.Integer U8) x e m = no e
name_of (Sort.Integer U16) x e m = no e
name_of (Sort.Integer U32) x e m = no e
name_of (Sort.Integer U64) x e m = no e
name_of (Sort.Integer S8) x e m = no e
name_of (Sort.Integer S16) x e m = no e
name_of (Sort.Integer S32) x e m = no e
name_of (Sort.Integer S64) x e m = no e
name_of _ x e m = no e

pub told_of : (s s' : Sort) (x : Lexeme) → is s s' ≡ true → knows s' x ≡ true → told s x ≡ true
told_of Sort.Name s' x e m = name_of s' x e m
told_of _ s' x e m = refl

-- ---- expressions at a level

abbrev pub is_expression : ℕ → Form → Bool
is_expression l f = (shape_of f).expression && is_level_free (l + height f)

abbrev pub is_argument : ℕ → Form → Bool
is_argument l f = (shape_of f).argument && is_level_free (l + height f)

-- with no level below
abbrev pub is_text : Form → Bool
is_text f = (shape_of f).argument && nat_eq (height f) 0

-- where an operand is said to be a statement by itself, it is one
abbrev pub told_alone : (alone : Bool) → Form → Bool
told_alone alone f = not alone || is_alone f

abbrev pub is_postfix : ℕ → Form → (alone : Bool) → Bool
is_postfix l f alone = is_expression l f && told_alone alone f

abbrev pub is_operand : ℕ → Operand → Bool
is_operand l x = is_postfix l x.form x.alone

abbrev pub good_part : (x : Part) → PartValue x → Bool
good_part (operand casts l d) v = is_operand l v
good_part (expression l d) v = is_expression l v
good_part (argument l d) v = is_argument l v
good_part base v = is_named_base v.base
good_part _ v = true

abbrev pub good : (n : Nonterminal) → Value n → Bool
good (part x) v = good_part x v
good (commas x so_far) v = list_all (good_part (separated x)) v
good (postfix l d first form alone) v = is_operand l v
good (operators precedence l d form) v = is_expression l v
good (choice l d form) v = is_expression l v
good (opened l d first) v = is_operand l v
good (arguments l d) v = list_all (is_argument l) v
good (stars k) v = are_stars v
good text_behind v = maybe is_text v
good text_after v = is_text v
good unsigned_word v = is_named_base v
good _ v = true

-- only the forms that expressions are made of
abbrev pub fits_part : Part → Bool
fits_part (operand casts l d) = is_level_free l
fits_part (expression l d) = is_level_free l
fits_part (argument l d) = is_level_free l
fits_part base = true
fits_part _ = false

abbrev pub fits : Nonterminal → Bool
fits (part x) = fits_part x
fits (commas x so_far) = fits_part (separated x) && list_all (good_part (separated x)) so_far
fits (postfix l d first form alone) = is_postfix l form alone
fits (operators precedence l d form) = nat_lt 1 precedence && is_expression l form
fits (choice l d form) = is_expression l form
fits (opened l d first) = is_level_free l
fits (arguments l d) = is_level_free l
fits (stars k) = are_stars k
fits text_behind = true
fits text_after = true
fits unsigned_word = true
fits _ = false

abbrev pub shaping : Judge
shaping = record { told = told; good = good; fits = fits }
