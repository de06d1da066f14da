-- Printed expressions are read again: what is shown of one, and where it stands as an operand.
use Rattle.std.proofs.Common.{◌≡◌, refl, sym, subst, ap, ◌∙◌, arith, ℕ, suc, ◌+◌, ◌≤◌, Bool, true, false, List, ◌∷◌}
use Rattle.std.specs.Prelude.{codes}
use Rattle.mdr_core.specs.declared.place.Place.{Place}
use Rattle.mdr_syntax.specs.declared.token.Lexeme.TheVariants.{Punct}
use Rattle.mdr_syntax.specs.declared.token.Token.{Token}
use Rattle.mdr_syntax.specs.declared.tree.Form.{Form}
use Rattle.mdr_print.specs.Marks.{Mark, Is}
use Rattle.mdr_print.specs.Spelled.{lexemes}
use Rattle.mdr_print.specs.Forms.{Shown, parenthesised_if, operand as printed_operand}
use Rattle.mdr_grammar.specs.declared.sort.Sort.{Sort}
use Rattle.mdr_grammar.specs.Sorts.{is, sort_of, is_level}
use Rattle.mdr_grammar.specs.Forms.{Operand, Right, ◌>>=◌, form, one, Rule, and_then, Empty}
use Rattle.mdr_grammar.specs.Forms.Empty.{cannot, may}
use Rattle.mdr_grammar.specs.Forms.Part.{operand, expression, argument}
use Rattle.mdr_grammar.specs.Forms.Nonterminal.{part, postfix, choice, opened}
use Rattle.mdr_grammar.specs.Forms.Rule.{never, given}
use Rattle.mdr_grammar.specs.Expressions.{height, text_of, name_form, behind_operand, in_parentheses, word_argument, operand_rule, expression_rule, opened_rule, argument_rule}
use Rattle.mdr_grammar.specs.Grammar.{Gets, Follows}
use Rattle.mdr_grammar.specs.Grammar.Gets.{absent, present}
use Rattle.mdr_grammar.specs.Grammar.Follows.{done, word, both}
use Rattle.mdr_roundtrip.specs.Unplaced.{nowhere, at, all_at}
use Rattle.mdr_roundtrip.proofs.Following.{through, as_argument, opens_there, no_more}
use Rattle.mdr_roundtrip.proofs.Signs.{open_sort, close_sort}

-- the tokens of marks, all at one place
abbrev pub tokens_of : List Mark → List Token
tokens_of marks = all_at (lexemes marks)

-- What is shown of an expression is read as it: whatever reads as its tail follows it where it is no operator form, and all of it is an expression.
pub record IsReread (halves : Bool) (s : Shown) (f : Form) : Type 0 where
  pub alone : Bool
  pub chain : s.is_operator ≡ false → (casts : Bool) (l d : ℕ) (rest : List Mark) (end : List Token) (v : Operand) → l + height f ≤ 256 → d + height f ≤ 512 → Gets halves (postfix l d nowhere f alone) (tokens_of rest) end v → Gets halves (part (operand casts l d)) (tokens_of (s.marks rest)) end v
  pub whole : (l d : ℕ) (rest : List Mark) → l + height f ≤ 256 → d + height f ≤ 512 → Gets halves (part (expression l d)) (tokens_of (s.marks rest)) (tokens_of rest) f

pub behind : (halves : Bool) (l d : ℕ) (x : Operand) (ts : List Token) → Follows halves (part (expression l d)) (behind_operand l d x) ts ts x.form
behind halves l d x ts = no_more halves (λ f. form (choice l d f)) 10 2 l d x.form (both (absent refl) done)

pub expression_from : (halves : Bool) (l d : ℕ) {ts mid rest : List Token} {x : Operand} {v : Form} → Gets halves (part (operand true l d)) ts mid x → Follows halves (part (expression l d)) (behind_operand l d x) mid rest v → Gets halves (part (expression l d)) ts rest v
expression_from halves l d a b = through halves (λ x. behind_operand l d x) refl (λ s t r e. ap (λ o. and_then o (λ x. behind_operand l d x)) e) a b

-- ---- in parentheses, and as an argument

pub no_rule : {A : Type 0} {B : Type 0} {r : Right A} → never ≡ given true r → B
no_rule {A = A} {r = r} e = let q : ◌≡◌ {A = Rule A} never (given true r) = e in absurd (Prim.cc)

opened_is : (l d : ℕ) (first : Place) (s : Sort) (t : Token) (r : Right Form) → expression_rule l (d + 1) s t ≡ given true r → opened_rule l d first s t ≡ given true (r >>= λ f. in_parentheses l d first f)
opened_is l d first (Sort.Integer k) t r e = no_rule e
opened_is l d first Sort.Char t r e = no_rule e
opened_is l d first Sort.Short t r e = no_rule e
opened_is l d first Sort.Int t r e = no_rule e
opened_is l d first Sort.Long t r e = no_rule e
opened_is l d first Sort.Signed t r e = no_rule e
opened_is l d first Sort.Unsigned t r e = no_rule e
opened_is l d first Sort.Void t r e = no_rule e
opened_is l d first Sort.Lock t r e = no_rule e
opened_is l d first Sort.Struct t r e = no_rule e
opened_is l d first _ t r e = ap (λ o. and_then o (λ f. in_parentheses l d first f)) e

same_right : {A : Type 0} {r r' : Right A} → given true r ≡ given true r' → r ≡ r'
same_right e = Prim.cc

to_argument : (halves : Bool) (l d : ℕ) {t : Token} {ts rest : List Token} {v : Form} {r : Right Form} (s : Sort) → sort_of halves t.what ≡ s → expression_rule l d s t ≡ given true r → Follows halves (part (expression l d)) r ts rest v → Gets halves (part (argument l d)) (t ∷ ts) rest v
to_argument halves l d {t = t} {ts = ts} {rest = rest} {v = v} Sort.Name q e f = by (is_level (text_of t.what)) refl
  where
    name : Right Form
    name = form (postfix l d t.place (name_form t) false) >>= λ x. behind_operand l d x

    read : Follows halves (part (argument l d)) name ts rest v
    read = as_argument halves l d (subst (λ (x : Right Form). Follows halves (part (expression l d)) x ts rest v) (sym (same_right e)) f)

    by : (b : Bool) → is_level (text_of t.what) ≡ b → Gets halves (part (argument l d)) (t ∷ ts) rest v
    by true k = present (ap (λ s. argument_rule l d s t) q ∙ ap (λ b. given true (word_argument b l d t)) k) (both (absent refl) read)
    by false k = present (ap (λ s. argument_rule l d s t) q ∙ ap (λ b. given true (word_argument b l d t)) k) read
to_argument halves l d (Sort.Integer k) q e f = no_rule e
to_argument halves l d Sort.Text q e f = no_rule e
to_argument halves l d Sort.Char q e f = no_rule e
to_argument halves l d Sort.Short q e f = no_rule e
to_argument halves l d Sort.Int q e f = no_rule e
to_argument halves l d Sort.Long q e f = no_rule e
to_argument halves l d Sort.Signed q e f = no_rule e
to_argument halves l d Sort.Unsigned q e f = no_rule e
to_argument halves l d Sort.Void q e f = no_rule e
to_argument halves l d Sort.Lock q e f = no_rule e
to_argument halves l d Sort.Struct q e f = no_rule e
to_argument halves l d {t = t} _ q e f = present (ap (λ s. argument_rule l d s t) q ∙ e) (as_argument halves l d f)

no_expression : {B : Type 0} {v : Form} → ◌≡◌ {A = Empty Form} cannot (may true v) → B
no_expression e = absurd (Prim.cc)

pub argument_from : (halves : Bool) (l d : ℕ) {ts rest : List Token} {v : Form} → Gets halves (part (expression l d)) ts rest v → Gets halves (part (argument l d)) ts rest v
argument_from halves l d (absent e) = no_expression e
argument_from halves l d (present {t = t} e f) = to_argument halves l d (sort_of halves t.what) refl e f

-- ---- as an operand

pub parenthesised : (halves casts : Bool) (l d : ℕ) (s : Shown) (f : Form) → IsReread halves s f → (rest : List Mark) (end : List Token) (v : Operand) → l + height f ≤ 256 → d + suc (height f) ≤ 512 → Gets halves (postfix l d nowhere f false) (tokens_of rest) end v → Gets halves (part (operand casts l d)) (at (Punct (codes "(")) ∷ tokens_of (s.marks (Is (Punct (codes ")")) ∷ rest))) end v
parenthesised halves true l d s f g rest end v a b tail =
    let inside = g.whole l (d + 1) (Is (Punct (codes ")")) ∷ rest) a (omega (arith, b)) in
    let more = word {s = Sort.Close} (ap (λ s. is Sort.Close s) (close_sort halves)) (both tail done) in
    present (ap (λ s. operand_rule true l d s (at (Punct (codes "(")))) (open_sort halves) ∙ ap (λ b. given b (form (opened l d nowhere))) (opens_there (d + 1) (omega (arith, b))))
    (both (through halves (λ f. in_parentheses l d nowhere f) refl (λ s t r e. opened_is l d nowhere s t r e) inside more) done)
parenthesised halves false l d s f g rest end v a b tail =
    let inside = g.whole l (d + 1) (Is (Punct (codes ")")) ∷ rest) a (omega (arith, b)) in
    let more = word {s = Sort.Close} (ap (λ s. is Sort.Close s) (close_sort halves)) (both tail done) in
    present (ap (λ s. operand_rule false l d s (at (Punct (codes "(")))) (open_sort halves) ∙ ap (λ b. given b (one (expression l (d + 1)) >>= λ f. in_parentheses l d nowhere f)) (opens_there (d + 1) (omega (arith, b))))
    (both inside more)

pub wrapped : (halves casts : Bool) (l d : ℕ) (s : Shown) (f : Form) → IsReread halves s f → (b : Bool) → (b ≡ false → s.is_operator ≡ false) → (rest : List Mark) (end : List Token) (v : Operand) → l + height f ≤ 256 → d + suc (height f) ≤ 512 → ((alone : Bool) → Gets halves (postfix l d nowhere f alone) (tokens_of rest) end v) → Gets halves (part (operand casts l d)) (tokens_of (parenthesised_if b s.marks rest)) end v
wrapped halves casts l d s f g true q rest end v h k tail = parenthesised halves casts l d s f g rest end v h k (tail false)
wrapped halves casts l d s f g false q rest end v h k tail = g.chain (q refl) casts l d rest end v h (omega (arith, k)) (tail g.alone)

-- an operand with nothing behind it
pub record AsOperand (halves casts : Bool) (l d : ℕ) (s : Shown) (f : Form) (rest : List Mark) : Type 0 where
  pub is_alone : Bool
  pub read : Gets halves (part (operand casts l d)) (tokens_of (printed_operand s rest)) (tokens_of rest) (record { form = f; alone = is_alone })

pub as_operand : (halves casts : Bool) (l d : ℕ) (s : Shown) (f : Form) → IsReread halves s f → (rest : List Mark) → l + height f ≤ 256 → d + suc (height f) ≤ 512 → AsOperand halves casts l d s f rest
as_operand halves casts l d s f g rest h k = by s.is_operator refl
  where
    by : (b : Bool) → s.is_operator ≡ b → AsOperand halves casts l d s f rest
    by true e = record {
      is_alone = false;
      read = subst (λ (b : Bool). Gets halves (part (operand casts l d)) (tokens_of (parenthesised_if b s.marks rest)) (tokens_of rest) (record { form = f; alone = false })) (sym e)
          (parenthesised halves casts l d s f g rest (tokens_of rest) (record { form = f; alone = false }) h k (absent refl));
    }
    by false e = record {
      is_alone = g.alone;
      read = subst (λ (b : Bool). Gets halves (part (operand casts l d)) (tokens_of (parenthesised_if b s.marks rest)) (tokens_of rest) (record { form = f; alone = g.alone })) (sym e)
          (g.chain e casts l d rest (tokens_of rest) (record { form = f; alone = g.alone }) h (omega (arith, k)) (absent refl));
    }
