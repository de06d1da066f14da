-- Stars, and what stands behind them.
use Rattle.std.proofs.Common.{◌≡◌, refl, sym, ap, ◌∙◌, ◌+◌, ℕ, Bool, true, false, nat_le, List, [], ◌∷◌, Ok}
use Rattle.mdr_syntax.specs.declared.token.Token.{Token}
use Rattle.mdr_grammar.specs.declared.sort.Sort.{Sort}
use Rattle.mdr_grammar.specs.Sorts.{sort_of}
use Rattle.mdr_grammar.specs.Forms.{Right, Rule, Empty}
use Rattle.mdr_grammar.specs.Forms.Nonterminal.{stars}
use Rattle.mdr_grammar.specs.Forms.Rule.{given}
use Rattle.mdr_grammar.specs.Expressions.{stars_rule}
use Rattle.mdr_grammar.specs.Front.{Read, and_read, nothing_at, begun_at, first, front}
use Rattle.mdr_reader.specs.Gives.{read_from, after_stars}
use Rattle.mdr_grammar.proofs.Fronts.{first_of, first_none}
use Rattle.mdr_reader.proofs.Arms.{read_again}

pub through_stars : {V : Type 0} (halves : Bool) (F : ℕ → List Token → Read V) (o : ℕ → Empty V) (q : ℕ → Sort → Token → Rule V) (r : ℕ → Right V) → ((k : ℕ) (ts : List Token) → F k ts ≡ read_from (o k) halves (q k) ts) → ((k : ℕ) (t : Token) → q k Sort.Star t ≡ given (nat_le (k + 1) 4294967295) (r k)) → ((k : ℕ) (ts : List Token) → front halves (r k) ts ≡ F (k + 1) ts) → (k : ℕ) (ts : List Token) → F k ts ≡ and_read (first halves (stars k) ts) (λ n us. read_from (o n) halves (after_stars (q n)) us)
through_stars halves F o q r hf hq hr k [] = hf k [] ∙ ap (λ x. and_read x (λ n us. read_from (o n) halves (after_stars (q n)) us)) (sym (first_none halves (stars k)))
through_stars {V = V} halves F o q r hf hq hr k (t ∷ ts) = hf k (t ∷ ts) ∙ by_sort (sort_of halves t.what) refl (through_stars halves F o q r hf hq hr (k + 1) ts) ∙ ap (λ x. and_read x (λ n us. read_from (o n) halves (after_stars (q n)) us)) (sym (first_of halves (stars k) t ts))
  where
    by_allowed : (b : Bool) → sort_of halves t.what ≡ Sort.Star → F (k + 1) ts ≡ and_read (first halves (stars (k + 1)) ts) (λ n us. read_from (o n) halves (after_stars (q n)) us) → begun_at (given b (r k)) (λ x. front halves x ts) (nothing_at (o k) (t ∷ ts)) ≡ and_read (begun_at (given b (Right.then (stars (k + 1)) (λ v. Right.gives v))) (λ x. front halves x ts) (Ok (k, t ∷ ts))) (λ n us. read_from (o n) halves (after_stars (q n)) us)
    by_allowed true e h = hr k ts ∙ h ∙ ap (λ x. and_read x (λ n us. read_from (o n) halves (after_stars (q n)) us)) (sym (read_again (first halves (stars (k + 1)) ts)))
    by_allowed false e h = ap (λ s. begun_at (after_stars (q k) s t) (λ x. front halves x ts) (nothing_at (o k) (t ∷ ts))) (sym e)

    by_sort : (s : Sort) → sort_of halves t.what ≡ s → F (k + 1) ts ≡ and_read (first halves (stars (k + 1)) ts) (λ n us. read_from (o n) halves (after_stars (q n)) us) → begun_at (q k s t) (λ x. front halves x ts) (nothing_at (o k) (t ∷ ts)) ≡ and_read (begun_at (stars_rule k s t) (λ x. front halves x ts) (Ok (k, t ∷ ts))) (λ n us. read_from (o n) halves (after_stars (q n)) us)
    by_sort Sort.Star e h = ap (λ (x : Rule V). begun_at x (λ x. front halves x ts) (nothing_at (o k) (t ∷ ts))) (hq k t) ∙ by_allowed (nat_le (k + 1) 4294967295) e h
    by_sort s e h = ap (λ s. begun_at (after_stars (q k) s t) (λ x. front halves x ts) (nothing_at (o k) (t ∷ ts))) (sym e)
