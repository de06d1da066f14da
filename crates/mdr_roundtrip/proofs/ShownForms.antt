-- The forms of expressions, one by one, are apart.
use Rattle.std.proofs.Common.{◌≡◌, ℕ, Bool, true, false, List, ◌∷◌, ◌++◌, refl, sym, subst, codes}
use Rattle.std.specs.Prelude.{not, ◌||◌}
use Rattle.std.specs.List.{AllByRecursion, list_all}
use Rattle.std.proofs.lemmas.Bool.{false≢true}
use Rattle.mdr_core.specs.declared.kind.Kind.{Kind}
use Rattle.mdr_syntax.specs.declared.token.Lexeme.TheVariants.{Punct}
use Rattle.mdr_syntax.specs.declared.tree.Base.{Base}
use Rattle.mdr_print.specs.Marks.{Mark, Is, Marks, spell, token_text, word, sign, number, quoted, spaced, in_parentheses, in_brackets, comma_list, ◌▸◌}
use Rattle.mdr_print.specs.Types.{type_name}
use Rattle.mdr_print.specs.Forms.{Shown, plain, literal, operator, prefixed, parenthesised_if, operand, left_of, owner, member_sign}
use Rattle.mdr_print.specs.Spelled.{AreApart}
use Rattle.mdr_roundtrip.specs.Words.{is_word, is_written, is_writable, is_sign, is_prefix, is_step, is_base}
use Rattle.mdr_roundtrip.specs.Standing.{stops, first, Apart}
use Rattle.mdr_roundtrip.proofs.WordFronts.{word_front}
use Rattle.mdr_roundtrip.proofs.TextFronts.{text_front}
use Rattle.mdr_roundtrip.proofs.NumberFronts.{number_front}
use Rattle.mdr_roundtrip.proofs.SignFronts.{opens, sign_front, closed_front, open_front, bracket_front, unbracket_front, arrow_front, step_front, prefix_sign, dot_front}
use Rattle.mdr_roundtrip.proofs.Parts.{stops_any, no_name, no_number, word_opens, number_opens, separated_apart, type_apart, base_opens}

-- a shown expression is apart in front of what may stand behind it, and begins as an operand where it is no operator form
pub record IsShown (s : Shown) : Type 0 where
  pub apart : (rest : List Mark) → AreApart rest → stops (s.is_operator || s.is_number) (first rest) ≡ true → AreApart (s.marks rest)
  pub starts : s.is_operator ≡ false → (rest : List Mark) → opens (first (s.marks rest)) ≡ true

wrapped : (s : Shown) → IsShown s → (b : Bool) (rest : List Mark) → AreApart rest → (b ≡ false → stops (s.is_operator || s.is_number) (first rest) ≡ true) → AreApart (parenthesised_if b s.marks rest)
unfolding spell token_text
wrapped s g true rest a q = (
  open_front (spell (s.marks (Is (Punct (codes ")")) ∷ rest))),
  g.apart (Is (Punct (codes ")")) ∷ rest) (closed_front (spell rest), a) (stops_any (s.is_operator || s.is_number) 41 refl),
)
wrapped s g false rest a q = g.apart rest a (q refl)

wrapped_opens : (s : Shown) → IsShown s → (b : Bool) → (b ≡ false → s.is_operator ≡ false) → (rest : List Mark) → opens (first (parenthesised_if b s.marks rest)) ≡ true
unfolding spell token_text
wrapped_opens s g true q rest = refl
wrapped_opens s g false q rest = g.starts (q refl) rest

pub operand_apart : (s : Shown) → IsShown s → Apart (operand s)
operand_apart s g rest a q = wrapped s g s.is_operator rest a (λ e. stops_any (s.is_operator || s.is_number) (first rest) q)

pub left_apart : (s : Shown) → IsShown s → Apart (left_of s)
left_apart s g rest a q = wrapped s g (not s.is_unary) rest a (λ e. stops_any (s.is_operator || s.is_number) (first rest) q)

pub operand_opens : (s : Shown) → IsShown s → (rest : List Mark) → opens (first (operand s rest)) ≡ true
operand_opens s g rest = wrapped_opens s g s.is_operator (λ e. e) rest

pub shown_apart : (s : Shown) → IsShown s → Apart s.marks
shown_apart s g rest a q = g.apart rest a (stops_any (s.is_operator || s.is_number) (first rest) q)

none_left : (x y : Bool) → (x || y) ≡ false → x ≡ false
none_left true y e = e
none_left false y e = refl

owner_apart : (is_arrow : Bool) (s : Shown) → IsShown s → (rest : List Mark) → AreApart rest → stops is_arrow (first rest) ≡ true → AreApart (owner is_arrow s rest)
owner_apart true s g rest a q = wrapped s g s.is_operator rest a (λ e. stops_any (s.is_operator || s.is_number) (first rest) q)
owner_apart false s g rest a q = wrapped s g (s.is_operator || s.is_number) rest a (λ e. subst (λ (b : Bool). stops b (first rest) ≡ true) (sym e) q)

owner_opens : (is_arrow : Bool) (s : Shown) → IsShown s → (rest : List Mark) → opens (first (owner is_arrow s rest)) ≡ true
owner_opens true s g rest = wrapped_opens s g s.is_operator (λ e. e) rest
owner_opens false s g rest = wrapped_opens s g (s.is_operator || s.is_number) (λ e. none_left s.is_operator s.is_number e) rest

no_operator : {P : Type 0} → true ≡ false → P
no_operator e = absurd (false≢true (sym e))

-- ---- one by one

pub number_shown : (n : ℕ) (kind : Kind) → is_written n kind ≡ true → IsShown (literal (number n kind))
unfolding spell token_text
number_shown n kind h = record {
  apart = λ rest a q. (number_front n kind (spell rest) h (no_number (first rest) q), a);
  starts = λ e rest. number_opens n kind (spell rest) h;
}

pub word_shown : (name : List ℕ) → is_word name ≡ true → IsShown (plain (word name))
unfolding spell token_text
word_shown name h = record {
  apart = λ rest a q. (word_front name (spell rest) h (no_name (first rest) q), a);
  starts = λ e rest. word_opens name (spell rest) h;
}

pub text_shown : (bytes : List ℕ) → list_all is_writable bytes ≡ true → IsShown (plain (quoted bytes))
unfolding spell token_text
text_shown bytes h = record { apart = λ rest a q. (text_front bytes (spell rest) h, a); starts = λ e rest. refl }

pub prefix_shown : (op : List ℕ) (s : Shown) → is_prefix op ≡ true → IsShown s → IsShown (prefixed (sign op ▸ operand s))
unfolding spell token_text
prefix_shown op s h g = record {
  apart = λ rest a q. (prefix_sign op (spell (operand s rest)) h (operand_opens s g rest), operand_apart s g rest a q);
  starts = λ e rest. no_operator e;
}

pub post_shown : (op : List ℕ) (s : Shown) → is_step op ≡ true → IsShown s → IsShown (plain (operand s ▸ sign op))
unfolding spell token_text
post_shown op s h g = record {
  apart = λ rest a q. let f = step_front op (spell rest) h in operand_apart s g (Is (Punct op) ∷ rest) (f.0, a) f.1;
  starts = λ e rest. operand_opens s g (Is (Punct op) ∷ rest);
}

pub type_shown : (b : Base) (n : ℕ) → is_base b ≡ true → IsShown (plain (type_name b n))
type_shown b n h = record { apart = λ rest a q. type_apart b n h rest a q; starts = λ e rest. base_opens b h _ }

pub cast_shown : (b : Base) (n : ℕ) (s : Shown) → is_base b ≡ true → IsShown s → IsShown (operator (in_parentheses (type_name b n) ▸ operand s))
unfolding spell token_text
cast_shown b n s h g = record {
  apart = λ rest a q.
      (open_front _, type_apart b n h (Is (Punct (codes ")")) ∷ operand s rest) (closed_front (spell (operand s rest)), operand_apart s g rest a q) refl);
  starts = λ e rest. no_operator e;
}

-- an operator between blanks, in front of marks
pub spaced_apart : (op : List ℕ) → is_sign op ≡ true → (rest : List Mark) → AreApart rest → AreApart (spaced op rest)
unfolding spell token_text
spaced_apart op h rest a = (sign_front op (spell rest) h, a)

pub spaced_stops : (op : List ℕ) (rest : List Mark) → stops true (first (spaced op rest)) ≡ true
unfolding spell
spaced_stops op rest = refl

pub binary_shown : (op : List ℕ) (s t : Shown) → is_sign op ≡ true → IsShown s → IsShown t → IsShown (operator (operand s ▸ spaced op ▸ operand t))
binary_shown op s t h g k = record {
  apart = λ rest a q. operand_apart s g (spaced op (operand t rest)) (spaced_apart op h (operand t rest) (operand_apart t k rest a q)) (spaced_stops op (operand t rest));
  starts = λ e rest. no_operator e;
}

question_sign : is_sign (codes "?") ≡ true
unfolding Rattle.mdr_syntax.specs.Words.punctuation
question_sign = refl

colon_sign : is_sign (codes ":") ≡ true
unfolding Rattle.mdr_syntax.specs.Words.punctuation
colon_sign = refl

pub choice_shown : (c s t : Shown) → IsShown c → IsShown s → IsShown t → IsShown (operator (operand c ▸ spaced (codes "?") ▸ operand s ▸ spaced (codes ":") ▸ operand t))
choice_shown c s t f g k = record {
  apart = λ rest a q.
      let last = spaced_apart (codes ":") colon_sign (operand t rest) (operand_apart t k rest a q) in
      let middle = operand_apart s g (spaced (codes ":") (operand t rest)) last (spaced_stops (codes ":") (operand t rest)) in
      let behind = operand s (spaced (codes ":") (operand t rest)) in
      operand_apart c f (spaced (codes "?") behind) (spaced_apart (codes "?") question_sign behind middle) (spaced_stops (codes "?") behind);
  starts = λ e rest. no_operator e;
}

pub subscript_shown : (s i : Shown) → IsShown s → IsShown i → IsShown (plain (operand s ▸ in_brackets i.marks))
unfolding spell token_text
subscript_shown s i g k = record {
  apart = λ rest a q.
      operand_apart s g (in_brackets i.marks rest)
      (bracket_front _, shown_apart i k (Is (Punct (codes "]")) ∷ rest) (unbracket_front (spell rest), a) refl) refl;
  starts = λ e rest. operand_opens s g (in_brackets i.marks rest);
}

member_apart : (is_arrow : Bool) (name : List ℕ) → is_word name ≡ true → (rest : List Mark) → AreApart rest → stops false (first rest) ≡ true → AreApart (member_sign is_arrow (word name rest))
unfolding spell token_text
member_apart true name h rest a q = (arrow_front _, (word_front name (spell rest) h (no_name (first rest) q), a))
member_apart false name h rest a q = (dot_front (name ++ spell rest) (word_opens name (spell rest) h), (word_front name (spell rest) h (no_name (first rest) q), a))

member_stops : (is_arrow : Bool) (rest : List Mark) → stops is_arrow (first (member_sign is_arrow rest)) ≡ true
unfolding spell token_text
member_stops true rest = refl
member_stops false rest = refl

pub member_shown : (s : Shown) (is_arrow : Bool) (name : List ℕ) → is_word name ≡ true → IsShown s → IsShown (plain (owner is_arrow s ▸ member_sign is_arrow ▸ word name))
member_shown s is_arrow name h g = record {
  apart = λ rest a q. owner_apart is_arrow s g (member_sign is_arrow (word name rest)) (member_apart is_arrow name h rest a q) (member_stops is_arrow (word name rest));
  starts = λ e rest. owner_opens is_arrow s g (member_sign is_arrow (word name rest));
}

pub enclosed_apart : (m : Marks) → Apart m → (rest : List Mark) → AreApart rest → AreApart (in_parentheses m rest)
unfolding spell token_text
enclosed_apart m h rest a = (open_front _, h (Is (Punct (codes ")")) ∷ rest) (closed_front (spell rest), a) refl)

pub enclosed_stops : (m : Marks) (rest : List Mark) → stops true (first (in_parentheses m rest)) ≡ true
unfolding spell token_text
enclosed_stops m rest = refl

pub call_shown : (f : Shown) (args : List Marks) → IsShown f → AllByRecursion Apart args → IsShown (plain (operand f ▸ in_parentheses (comma_list args)))
call_shown f args g h = record {
  apart = λ rest a q. operand_apart f g (in_parentheses (comma_list args) rest) (enclosed_apart (comma_list args) (separated_apart args h true) rest a) (enclosed_stops (comma_list args) rest);
  starts = λ e rest. operand_opens f g (in_parentheses (comma_list args) rest);
}
