-- Where a token doesn't come, one rule is another.
use Rattle.std.proofs.Common.{◌≡◌, refl, sym, ap, ◌∙◌, ℕ, Bool, true, false, List, [], ◌∷◌, length, Err}
use Rattle.mdr_syntax.specs.declared.token.Token.{Token}
use Rattle.mdr_grammar.specs.declared.sort.Sort.{Sort}
use Rattle.mdr_grammar.specs.Sorts.{is, sort_of}
use Rattle.mdr_grammar.specs.Forms.{Rule, and_then}
use Rattle.mdr_grammar.specs.Forms.Right.{gives}
use Rattle.mdr_syntax.specs.declared.tree.Init
use Rattle.mdr_grammar.specs.Forms.Part.{base, specifiers, element}
use Rattle.mdr_grammar.specs.Forms.Nonterminal.{part}
use Rattle.mdr_grammar.specs.Grammar.{part_rule}
use Rattle.mdr_grammar.specs.Declarations.{bare_element, initialiser_rule, constant_rule}
use Rattle.mdr_grammar.specs.Front.{word_at, begun_at, first, front}
use Rattle.mdr_reader.specs.Gives.{read_by}
use Rattle.mdr_reader.proofs.Arms.{not_word}
use Rattle.mdr_reader.proofs.Going.{first_by}

pub alike : {A : Type 0} (halves : Bool) (q r : Sort → Token → Rule A) (s : Sort) (ts : List Token) → word_at halves s ts ≡ Err (length ts) → ((s' : Sort) (t : Token) → is s s' ≡ false → q s' t ≡ r s' t) → read_by halves q ts ≡ read_by halves r ts
alike halves q r s [] e h = refl
alike {A = A} halves q r s (t ∷ ts) e h = ap (λ (o : Rule A). begun_at o (λ x. front halves x ts) (Err (length (t ∷ ts)))) (h (sort_of halves t.what) t (not_word halves s t ts e))

unqualified : (s : Sort) (t : Token) → is Sort.Qualifier s ≡ false → part_rule specifiers s t ≡ part_rule base s t
unqualified Sort.Qualifier t e = let q : true ≡ false = e in absurd (Prim.cc)
unqualified _ t e = refl

pub only_base : (halves : Bool) (ts : List Token) → word_at halves Sort.Qualifier ts ≡ Err (length ts) → first halves (part specifiers) ts ≡ first halves (part base) ts
only_base halves ts e = first_by halves specifiers ts ∙ alike halves (part_rule specifiers) (part_rule base) Sort.Qualifier ts e unqualified ∙ sym (first_by halves base ts)

undotted : (n : ℕ) (s : Sort) (t : Token) → is Sort.Dot s ≡ false → part_rule (element n) s t ≡ bare_element n s t
undotted n Sort.Dot t e = let q : true ≡ false = e in absurd (Prim.cc)
undotted n _ t e = refl

pub only_bare : (halves : Bool) (n : ℕ) (ts : List Token) → word_at halves Sort.Dot ts ≡ Err (length ts) → first halves (part (element n)) ts ≡ read_by halves (bare_element n) ts
only_bare halves n ts e = first_by halves (element n) ts ∙ alike halves (part_rule (element n)) (bare_element n) Sort.Dot ts e (undotted n)

pub only_constant : (n : ℕ) (s : Sort) (t : Token) → (s ≡ Sort.Null → ⊥) → (s ≡ Sort.And → ⊥) → (s ≡ Sort.Text → ⊥) → (s ≡ Sort.OpenBrace → ⊥) → initialiser_rule n s t ≡ and_then (constant_rule s t) (λ c. gives (Init.Const c))
only_constant n Sort.Null t a b c d = absurd (a refl)
only_constant n Sort.And t a b c d = absurd (b refl)
only_constant n Sort.Text t a b c d = absurd (c refl)
only_constant n Sort.OpenBrace t a b c d = absurd (d refl)
only_constant n _ t a b c d = refl
