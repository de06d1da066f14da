-- Expressions that are read can be printed.
use Rattle.std.proofs.Common.{◌≡◌, refl, arith, ℕ, zero, suc, ◌+◌, ◌-◌, Bool, true, false, ◌&&◌, [], ◌∷◌, Option, Some, None}
use Rattle.std.specs.Prelude.{nat_eq, nat_lt}
use Rattle.std.specs.List.{list_all}
use Rattle.mdr_core.specs.declared.place.Place.{Place}
use Rattle.mdr_syntax.specs.declared.token.Lexeme.{Lexeme}
use Rattle.mdr_syntax.specs.declared.token.Token.{Token}
use Rattle.mdr_syntax.specs.declared.tree.Form.{Form}
use Rattle.mdr_roundtrip.specs.Words.{is_word, is_sign, is_prefix, is_step, is_base}
use Rattle.mdr_roundtrip.specs.Printable.{is_printable_form}
use Rattle.mdr_roundtrip.specs.PrintableDeclarations.{maybe}
use Rattle.mdr_roundtrip.proofs.Tests.{both}
use Rattle.mdr_grammar.specs.declared.parts.Specifier.{Specifier}
use Rattle.mdr_grammar.specs.declared.sort.Sort.{Sort}
use Rattle.mdr_grammar.specs.Sorts.{is_level}
use Rattle.mdr_grammar.specs.Forms.{Operand, form}
use Rattle.mdr_grammar.specs.Forms.Nonterminal.{choice, commas}
use Rattle.mdr_grammar.specs.Forms.Separated.{arguments_at}
use Rattle.mdr_grammar.specs.Forms.Right.{gives}
use Rattle.mdr_grammar.specs.Expressions.{text_of, number_in, kind_in, name_form, binary, precedence_of, operators_from, of_precedence, behind_operand, in_parentheses, kept, word_argument, base_rule, unsigned_word_rule, stars_rule, parentheses, operand_rule, postfix_rule, operators_rule, choice_rule, expression_rule, cast_rule, opened_rule, type_argument, argument_rule, text_after_rule, text_behind_rule, arguments_rule}
use Rattle.mdr_roundtrip.proofs.Bools.{also, all_one}
use Rattle.mdr_roundtrip.proofs.Judged.{meets, Sound, SoundRule}
use Rattle.mdr_roundtrip.proofs.Steps.{sound_then, sound_and, sound_or, sound_where}
use Rattle.mdr_roundtrip.proofs.FormTests.{number_is, null_is, name_is, prefix_is, post_is, cast_is, binary_is, choice_is, subscript_is, member_is, call_is, text_is, base_is}

abbrev pub is_good_specifier : Specifier → Bool
is_good_specifier b = is_base b.base

abbrev pub is_good_operand : Operand → Bool
is_good_operand x = is_printable_form x.form

-- ---- types

pub sound_unsigned : (s : Sort) (t : Token) → SoundRule (unsigned_word_rule s t) is_base
sound_unsigned Sort.Char t = refl
sound_unsigned Sort.Short t = refl
sound_unsigned Sort.Int t = refl
sound_unsigned Sort.Long t = refl
sound_unsigned _ t = tt

pub sound_base : (s : Sort) (t : Token) → SoundRule (base_rule s t) is_good_specifier
sound_base (Sort.Integer k) t = refl
sound_base Sort.Char t = refl
sound_base Sort.Short t = refl
sound_base Sort.Int t = refl
sound_base Sort.Long t = refl
sound_base Sort.Signed t = λ c q. refl
sound_base Sort.Unsigned t = (refl, λ b h. h)
sound_base Sort.Void t = refl
sound_base Sort.Lock t = refl
sound_base Sort.Struct t = λ n h. h
sound_base _ t = tt

pub sound_stars : (k : ℕ) (s : Sort) (t : Token) → SoundRule (stars_rule k s t) (λ n. true)
sound_stars k Sort.Star t = (refl, λ n h. h)
sound_stars k _ t = tt

-- ---- operands

sound_parentheses : (casts : Bool) (l d : ℕ) (t : Token) → SoundRule (parentheses casts l d t) is_good_operand
sound_parentheses true l d t = (refl, λ x h. h)
sound_parentheses false l d t = (refl, λ f hf. λ c q. (hf, λ x h. h))

pub sound_operand : (casts : Bool) (l d : ℕ) (s : Sort) (t : Token) → meets s t.what ≡ true → SoundRule (operand_rule casts l d s t) is_good_operand
sound_operand casts l d Sort.Name t m = (name_is t.place (text_of t.what) m, λ x h. h)
sound_operand casts l d Sort.Number t m = (number_is t.place (number_in t.what) (kind_in t.what) m, λ x h. h)
sound_operand casts l d Sort.Null t m = (null_is t.place, λ x h. h)
sound_operand casts l d Sort.Service t m = λ b q. (refl, λ args ha. λ c r. (call_is t.place (name_form t) args (name_is t.place (text_of t.what) m) ha, λ x h. h))
sound_operand casts l d Sort.Open t m = sound_parentheses casts l d t
sound_operand casts l d Sort.Minus t m = (refl, λ x h. prefix_is t.place (text_of t.what) x.form (both (is_prefix (text_of t.what)) (is_sign (text_of t.what)) m).0 h)
sound_operand casts l d Sort.Plus t m = (refl, λ x h. prefix_is t.place (text_of t.what) x.form (both (is_prefix (text_of t.what)) (is_sign (text_of t.what)) m).0 h)
sound_operand casts l d Sort.And t m = (refl, λ x h. prefix_is t.place (text_of t.what) x.form (both (is_prefix (text_of t.what)) (is_sign (text_of t.what)) m).0 h)
sound_operand casts l d Sort.Star t m = (refl, λ x h. prefix_is t.place (text_of t.what) x.form (both (is_prefix (text_of t.what)) (is_sign (text_of t.what)) m).0 h)
sound_operand casts l d Sort.Not t m = (refl, λ x h. prefix_is t.place (text_of t.what) x.form m h)
sound_operand casts l d Sort.Step t m = (refl, λ x h. prefix_is t.place (text_of t.what) x.form (both (is_prefix (text_of t.what)) (is_step (text_of t.what)) m).0 h)
sound_operand casts l d _ t m = tt

pub sound_postfix : (l d : ℕ) (first : Place) (f : Form) (s : Sort) (t : Token) → is_printable_form f ≡ true → meets s t.what ≡ true → SoundRule (postfix_rule l d first f s t) is_good_operand
sound_postfix l d first f Sort.OpenBracket t g m = (refl, λ i hi. λ c q. (subscript_is first f i g hi, λ x h. h))
sound_postfix l d first f Sort.Dot t g m = λ n hn. (member_is first f false n.place (text_of n.what) g hn, λ x h. h)
sound_postfix l d first f Sort.Arrow t g m = λ n hn. (member_is first f true n.place (text_of n.what) g hn, λ x h. h)
sound_postfix l d first f Sort.Open t g m = (refl, λ args ha. λ c q. (call_is first f args g ha, λ x h. h))
sound_postfix l d first f Sort.Step t g m = (post_is first (text_of t.what) f (both (is_prefix (text_of t.what)) (is_step (text_of t.what)) m).1 g, λ x h. h)
sound_postfix l d first f _ t g m = tt

-- ---- operators

no_operator : {P : Type 0} (p : ℕ) → nat_lt 0 p ≡ true → (nat_eq 0 p && nat_lt p 12) ≡ true → P
no_operator p h e = absurd (clash h (both (nat_eq 0 p) (nat_lt p 12) e).0)
  where
    clash : nat_lt 0 p ≡ true → nat_eq 0 p ≡ true → ⊥
    clash a b = grind arith

too_tight : {P : Type 0} (p : ℕ) → (nat_eq 12 p && nat_lt p 12) ≡ true → P
too_tight p e = let k = both (nat_eq 12 p) (nat_lt p 12) e in absurd (clash k.0 k.1)
  where
    clash : nat_eq 12 p ≡ true → nat_lt p 12 ≡ true → ⊥
    clash a b = grind arith

signed : (s : Sort) (p : ℕ) (x : Lexeme) → nat_lt 0 p ≡ true → meets s x ≡ true → (nat_eq (precedence_of s) p && nat_lt p 12) ≡ true → is_sign (text_of x) ≡ true
signed Sort.Question p x h m e = m
signed Sort.OrElse p x h m e = m
signed Sort.AndThen p x h m e = m
signed Sort.Or p x h m e = m
signed Sort.Xor p x h m e = m
signed Sort.Equality p x h m e = m
signed Sort.Relation p x h m e = m
signed Sort.Shift p x h m e = m
signed Sort.Slash p x h m e = m
signed Sort.And p x h m e = (both (is_prefix (text_of x)) (is_sign (text_of x)) m).1
signed Sort.Plus p x h m e = (both (is_prefix (text_of x)) (is_sign (text_of x)) m).1
signed Sort.Minus p x h m e = (both (is_prefix (text_of x)) (is_sign (text_of x)) m).1
signed Sort.Star p x h m e = (both (is_prefix (text_of x)) (is_sign (text_of x)) m).1
signed Sort.OpenBracket p x h m e = too_tight p e
signed Sort.Dot p x h m e = too_tight p e
signed Sort.Arrow p x h m e = too_tight p e
signed Sort.Open p x h m e = too_tight p e
signed Sort.Step p x h m e = too_tight p e
signed _ p x h m e = no_operator p h e

higher : (low more : ℕ) → nat_lt 0 low ≡ true → nat_lt 0 (low + more) ≡ true
higher low more h = grind arith

positive : (p : ℕ) → nat_lt 0 (suc p) ≡ true
positive p = grind arith

sound_from : (more low l d : ℕ) (f : Form) → nat_lt 0 low ≡ true → is_printable_form f ≡ true → Sound (operators_from more low l d f) is_printable_form
sound_from zero low l d f h g = g
sound_from (suc more) low l d f h g = (also (nat_lt 0 (low + more)) (is_printable_form f) (higher low more h) g, λ v k. sound_from more low l d v h k)

sound_of : (b : Bool) (p l d : ℕ) (f : Form) (t : Token) → nat_lt 0 p ≡ true → is_printable_form f ≡ true → (b ≡ true → is_sign (text_of t.what) ≡ true) → SoundRule (of_precedence b p l d f t) is_printable_form
sound_of false p l d f t h g o = tt
sound_of true p l d f t h g o = (refl, λ x hx. sound_then (operators_from (11 - p) (suc p) (l + 1) d x.form) _ is_printable_form is_printable_form (sound_from (11 - p) (suc p) (l + 1) d x.form (positive p) hx) (λ v k. (also (nat_lt 0 p) (is_printable_form (binary f t v)) h (binary_is t.place (text_of t.what) f v (o refl) g k), λ w j. j)))

pub sound_operators : (p l d : ℕ) (f : Form) (s : Sort) (t : Token) → (nat_lt 0 p && is_printable_form f) ≡ true → meets s t.what ≡ true → SoundRule (operators_rule p l d f s t) is_printable_form
sound_operators p l d f s t g m =
    let k = both (nat_lt 0 p) (is_printable_form f) g in
    sound_of (nat_eq (precedence_of s) p && nat_lt p 12) p l d f t k.0 k.1 (signed s p t.what k.0 m)

pub sound_choice : (l d : ℕ) (f : Form) (s : Sort) (t : Token) → is_printable_form f ≡ true → SoundRule (choice_rule l d f s t) is_printable_form
sound_choice l d f Sort.Question t g = (refl, λ a ha. λ c q. (refl, λ b hb. choice_is t.place f a b g ha hb))
sound_choice l d f _ t g = tt

sound_behind : (l d : ℕ) (x : Operand) → is_good_operand x ≡ true → Sound (behind_operand l d x) is_printable_form
sound_behind l d x hx = sound_then (operators_from 10 2 l d x.form) (λ f. form (choice l d f)) is_printable_form is_printable_form (sound_from 10 2 l d x.form refl hx) (λ f hf. (hf, λ v h. h))

pub sound_expression : (l d : ℕ) (s : Sort) (t : Token) → meets s t.what ≡ true → SoundRule (expression_rule l d s t) is_printable_form
sound_expression l d s t m = sound_and (operand_rule true l d s t) (λ x. behind_operand l d x) is_good_operand is_printable_form (sound_operand true l d s t m) (λ x hx. sound_behind l d x hx)

-- ---- behind a `(`, and arguments

sound_cast : (l d : ℕ) (first : Place) (s : Sort) (t : Token) → SoundRule (cast_rule l d first s t) is_good_operand
sound_cast l d first s t = sound_where _ _ is_good_operand (sound_and (base_rule s t) _ is_good_specifier is_good_operand (sound_base s t) (λ b hb. (refl, λ k hk. λ c q. (refl, λ x hx. cast_is first b.base k x.form hb hx))))

pub sound_opened : (l d : ℕ) (first : Place) (s : Sort) (t : Token) → meets s t.what ≡ true → SoundRule (opened_rule l d first s t) is_good_operand
sound_opened l d first s t m = sound_or (cast_rule l d first s t) _ is_good_operand (sound_cast l d first s t)
    (sound_and (expression_rule l (d + 1) s t) (λ f. in_parentheses l d first f) is_printable_form is_good_operand (sound_expression l (d + 1) s t m) (λ f hf. λ c q. (hf, λ x h. h)))

sound_kept : (l d : ℕ) (t : Token) (o : Option Form) → is_word (text_of t.what) ≡ true → maybe is_printable_form o ≡ true → Sound (kept l d t o) is_printable_form
sound_kept l d t (Some f) w h = h
sound_kept l d t None w h = (name_is t.place (text_of t.what) w, λ x hx. sound_behind l d x hx)

sound_word : (b : Bool) (l d : ℕ) (t : Token) → is_word (text_of t.what) ≡ true → Sound (word_argument b l d t) is_printable_form
sound_word true l d t w = (refl, λ o ho. sound_kept l d t o w ho)
sound_word false l d t w = sound_kept l d t None w refl

sound_type : (s : Sort) (t : Token) → SoundRule (type_argument s t) is_printable_form
sound_type s t = sound_and (base_rule s t) _ is_good_specifier is_printable_form (sound_base s t) (λ b hb. (refl, λ k hk. base_is t.place b.base k hb))

pub sound_argument : (l d : ℕ) (s : Sort) (t : Token) → meets s t.what ≡ true → SoundRule (argument_rule l d s t) is_printable_form
sound_argument l d Sort.Text t m = text_is t.place (text_of t.what) m
sound_argument l d Sort.Name t m = sound_word (is_level (text_of t.what)) l d t m
sound_argument l d s t m = sound_or (type_argument s t) (expression_rule l d s t) is_printable_form (sound_type s t) (sound_expression l d s t m)

pub sound_text_after : (s : Sort) (t : Token) → meets s t.what ≡ true → SoundRule (text_after_rule s t) is_printable_form
sound_text_after Sort.Text t m = text_is t.place (text_of t.what) m
sound_text_after Sort.Name t m = (refl, λ f h. h)
sound_text_after _ t m = tt

pub sound_text_behind : (s : Sort) (t : Token) → meets s t.what ≡ true → SoundRule (text_behind_rule s t) (maybe is_printable_form)
sound_text_behind s t m = sound_and (text_after_rule s t) (λ f. gives (Some f)) is_printable_form (maybe is_printable_form) (sound_text_after s t m) (λ f h. h)

pub sound_arguments : (l d : ℕ) (s : Sort) (t : Token) → meets s t.what ≡ true → SoundRule (arguments_rule l d s t) (list_all is_printable_form)
sound_arguments l d s t m = sound_and (argument_rule l d s t) (λ f. form (commas (arguments_at l d) (f ∷ []))) is_printable_form (list_all is_printable_form) (sound_argument l d s t m) (λ f h. (all_one is_printable_form f h, λ v k. k))
