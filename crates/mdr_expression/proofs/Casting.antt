-- What stands behind a `(`, and arguments that are types.
use Rattle.std.proofs.Common.{◌≡◌, refl, sym, ap, ◌∙◌, ℕ, ◌+◌, Bool, true, false, List, [], ◌∷◌, length, Err}
use Rattle.mdr_core.specs.declared.place.Place.{Place}
use Rattle.mdr_syntax.specs.declared.token.Token.{Token}
use Rattle.mdr_syntax.specs.declared.tree.Form.{Form}
use Rattle.mdr_syntax.specs.declared.tree.FormWhat
use Rattle.mdr_grammar.specs.declared.sort.Sort.{Sort}
use Rattle.mdr_grammar.specs.Sorts.{sort_of}
use Rattle.mdr_grammar.specs.declared.parts.Specifier.{Specifier}
use Rattle.mdr_grammar.specs.Forms.{Operand, Right, ◌>>=◌, form, one, take, Rule, and_then, where_allowed, or_else}
use Rattle.mdr_grammar.specs.Forms.Part.{base, expression, operand, argument}
use Rattle.mdr_grammar.specs.Forms.Nonterminal.{part, opened, stars}
use Rattle.mdr_grammar.specs.Forms.Right.{gives}
use Rattle.mdr_grammar.specs.Forms.Rule.{never, given}
use Rattle.mdr_grammar.specs.Grammar.{rule}
use Rattle.mdr_grammar.specs.Expressions.{is_level_free, form_at, only_part, base_rule, expression_rule, type_argument, argument_rule, in_parentheses}
use Rattle.mdr_grammar.specs.Front.{and_read, begun_at, first as first_read, front}
use Rattle.mdr_expression.specs.Tails.{begins, behind_parenthesis, grouped, cast, if_free, cast_or_group, type_form}
use Rattle.mdr_grammar.proofs.Fronts.{first_of, first_none}
use Rattle.mdr_reader.proofs.Arms.{read_again}
use Rattle.mdr_reader.proofs.Through.{bind, through_at}

pub record Given (A : Type 0) (o : Rule A) : Type 0 where
  pub right : Right A
  pub is : o ≡ given true right

-- a type is allowed wherever it begins
type_given : (s : Sort) (t : Token) → begins (base_rule s t) ≡ true → Given Specifier (base_rule s t)
type_given (Sort.Integer k) t e = record { right = _; is = refl }
type_given Sort.Char t e = record { right = _; is = refl }
type_given Sort.Short t e = record { right = _; is = refl }
type_given Sort.Int t e = record { right = _; is = refl }
type_given Sort.Long t e = record { right = _; is = refl }
type_given Sort.Signed t e = record { right = _; is = refl }
type_given Sort.Unsigned t e = record { right = _; is = refl }
type_given Sort.Void t e = record { right = _; is = refl }
type_given Sort.Lock t e = record { right = _; is = refl }
type_given Sort.Struct t e = record { right = _; is = refl }
type_given _ t e = let q : false ≡ true = e in absurd (Prim.cc)

not_given : {A : Type 0} (o : Rule A) → begins o ≡ false → o ≡ never
not_given never e = refl
not_given (given b r) e = let q : true ≡ false = e in absurd (Prim.cc)

abbrev pub cast_end : (l d : ℕ) → Place → Specifier → Right Operand
cast_end l d first b = do
  k ← form (stars 0)
  close ← take Sort.Close
  x ← one (operand true (l + 1) d)
  only_part (form_at first (FormWhat.Cast b.base k x.form))

cast_first : (halves : Bool) (l d : ℕ) (first : Place) (t : Token) (rest : List Token) → begins (base_rule (sort_of halves t.what) t) ≡ true → first_read halves (opened l d first) (t ∷ rest) ≡ if_free (is_level_free (l + 1)) (front halves (cast l d first) (t ∷ rest)) (length (t ∷ rest))
cast_first halves l d first t rest e = let g = type_given (sort_of halves t.what) t e in first_of halves (opened l d first) t rest ∙ ap (λ o. begun_at (or_else (where_allowed (is_level_free (l + 1)) (and_then o (λ b. cast_end l d first b))) (other (sort_of halves t.what))) (λ r. front halves r rest) (Err (length (t ∷ rest)))) g.is ∙ by_free (is_level_free (l + 1)) g.right ∙ ap (λ x. if_free (is_level_free (l + 1)) x (length (t ∷ rest))) (bind halves g.right (λ b. cast_end l d first b) rest ∙ ap (λ o. and_read o (λ b after. front halves (cast_end l d first b) after)) (sym (first_of halves (part base) t rest ∙ ap (λ o. begun_at o (λ r. front halves r rest) (Err (length (t ∷ rest)))) g.is)))
  where
    other : Sort → Rule Operand
    other s = and_then (expression_rule l (d + 1) s t) (λ f. in_parentheses l d first f)

    by_free : (b : Bool) (r : Right Specifier) → begun_at (or_else (where_allowed b (and_then (given true r) (λ b. cast_end l d first b))) (other (sort_of halves t.what))) (λ r. front halves r rest) (Err (length (t ∷ rest))) ≡ if_free b (front halves (r >>= λ b. cast_end l d first b) rest) (length (t ∷ rest))
    by_free true r = refl
    by_free false r = refl

no_cast : (l d : ℕ) (first : Place) (s : Sort) (t : Token) → begins (base_rule s t) ≡ false → rule (opened l d first) s t ≡ and_then (rule (part (expression l (d + 1))) s t) (λ f. in_parentheses l d first f)
no_cast l d first s t e = ap (λ o. or_else (where_allowed (is_level_free (l + 1)) (and_then o (λ b. cast_end l d first b))) (and_then (expression_rule l (d + 1) s t) (λ f. in_parentheses l d first f))) (not_given (base_rule s t) e)

-- behind a `(` where a cast may stand
pub opens_with : (halves : Bool) (l d : ℕ) (first : Place) {ts rest : List Token} {t : Token} {s : Sort} (b : Bool) → (ts ≡ t ∷ rest) × (s ≡ sort_of halves t.what) → begins (base_rule s t) ≡ b → front halves (behind_parenthesis true l d first) ts ≡ cast_or_group b halves l d first ts
opens_with halves l d first {ts = ts} {rest = rest} {t = t} true at e = read_again (first_read halves (opened l d first) ts) ∙ ap (λ us. first_read halves (opened l d first) us) at.0 ∙ cast_first halves l d first t rest (ap (λ s. begins (base_rule s t)) (sym at.1) ∙ e) ∙ ap (λ us. if_free (is_level_free (l + 1)) (front halves (cast l d first) us) (length us)) (sym at.0)
opens_with halves l d first {ts = ts} {t = t} {s = s} false at e = read_again (first_read halves (opened l d first) ts) ∙ through_at halves (opened l d first) (part (expression l (d + 1))) (λ f. in_parentheses l d first f) at refl refl (no_cast l d first s t e)

pub opens_nothing : (halves : Bool) (l d : ℕ) (first : Place) (casts : Bool) {ts : List Token} → ts ≡ [] → front halves (behind_parenthesis casts l d first) ts ≡ front halves (grouped l d first) ts
opens_nothing halves l d first true {ts = ts} e = read_again (first_read halves (opened l d first) ts) ∙ ap (λ us. first_read halves (opened l d first) us) e ∙ first_none halves (opened l d first) ∙ sym (ap (λ o. and_read o (λ f after. front halves (in_parentheses l d first f) after)) (ap (λ us. first_read halves (part (expression l (d + 1))) us) e ∙ first_none halves (part (expression l (d + 1)))))
opens_nothing halves l d first false e = refl

pub opens_group : (halves : Bool) (l d : ℕ) (first : Place) (casts : Bool) (ts : List Token) → casts ≡ false → front halves (behind_parenthesis casts l d first) ts ≡ front halves (grouped l d first) ts
opens_group halves l d first true ts e = let q : true ≡ false = e in absurd (Prim.cc)
opens_group halves l d first false ts e = refl

-- arguments
argument_other : (l d : ℕ) (s : Sort) (t : Token) → (s ≡ Sort.Text → ⊥) → (s ≡ Sort.Name → ⊥) → argument_rule l d s t ≡ or_else (type_argument s t) (expression_rule l d s t)
argument_other l d Sort.Text t a b = absurd (a refl)
argument_other l d Sort.Name t a b = absurd (b refl)
argument_other l d _ t a b = refl

abbrev pub type_end : Token → Specifier → Right Form
type_end t b = do
  k ← form (stars 0)
  gives (form_at t.place (FormWhat.Base b.base k))

or_begun : {A B : Type 0} (o : Rule A) (k : A → Right B) (x : Rule B) → begins o ≡ true → or_else (and_then o k) x ≡ and_then o k
or_begun never k x e = let q : false ≡ true = e in absurd (Prim.cc)
or_begun (given b r) k x e = refl

pub argument_type : (halves : Bool) (l d : ℕ) {ts rest : List Token} {t : Token} {s : Sort} → (ts ≡ t ∷ rest) × (s ≡ sort_of halves t.what) → (s ≡ Sort.Text → ⊥) → (s ≡ Sort.Name → ⊥) → begins (base_rule s t) ≡ true → first_read halves (part (argument l d)) ts ≡ front halves (type_form t) ts
argument_type halves l d {t = t} {s = s} at a b e = through_at halves (part (argument l d)) (part base) (λ b. type_end t b) at refl refl (argument_other l d s t a b ∙ or_begun (base_rule s t) (λ b. type_end t b) (expression_rule l d s t) e)

pub argument_expression : (halves : Bool) (l d : ℕ) {ts rest : List Token} {t : Token} {s : Sort} → (ts ≡ t ∷ rest) × (s ≡ sort_of halves t.what) → (s ≡ Sort.Text → ⊥) → (s ≡ Sort.Name → ⊥) → begins (base_rule s t) ≡ false → first_read halves (part (argument l d)) ts ≡ first_read halves (part (expression l d)) ts
argument_expression halves l d {ts = ts} {rest = rest} {t = t} {s = s} at a b e = ap (λ us. first_read halves (part (argument l d)) us) at.0 ∙ first_of halves (part (argument l d)) t rest ∙ ap (λ o. begun_at o (λ r. front halves r rest) (Err (length (t ∷ rest)))) (ap (λ x. argument_rule l d x t) (sym at.1) ∙ argument_other l d s t a b ∙ ap (λ o. or_else (and_then o (λ b. type_end t b)) (expression_rule l d s t)) (not_given (base_rule s t) e) ∙ ap (λ x. expression_rule l d x t) at.1) ∙ sym (first_of halves (part (expression l d)) t rest) ∙ ap (λ us. first_read halves (part (expression l d)) us) (sym at.0)
