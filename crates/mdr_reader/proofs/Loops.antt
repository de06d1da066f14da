-- Where a loop ends.
use Rattle.std.proofs.Common.{◌≡◌, refl, ◌∙◌, ◌+◌, ℕ, Bool, true, false, nat_le, ◌<◌, arith, List, [], ◌∷◌, Ok}
use Rattle.mdr_syntax.specs.declared.token.Token.{Token}
use Rattle.mdr_grammar.specs.declared.sort.Sort.{Sort}
use Rattle.mdr_grammar.specs.Sorts.{sort_of}
use Rattle.mdr_grammar.specs.Forms.{Right}
use Rattle.mdr_grammar.specs.Forms.Nonterminal.{stars}
use Rattle.mdr_grammar.specs.Forms.Rule.{given}
use Rattle.mdr_grammar.specs.Expressions.{stars_rule}
use Rattle.mdr_grammar.specs.Front.{begun_at, first, front}
use Rattle.mdr_grammar.proofs.Fronts.{first_of, first_none}

pub full_stars : (halves : Bool) (k : ℕ) (ts : List Token) → nat_le (k + 1) 4294967295 ≡ false → first halves (stars k) ts ≡ Ok (k, ts)
full_stars halves k [] e = first_none halves (stars k)
full_stars halves k (t ∷ ts) e = first_of halves (stars k) t ts ∙ by_sort (sort_of halves t.what)
  where
    by_allowed : (b : Bool) (r : Right ℕ) → b ≡ false → begun_at (given b r) (λ r. front halves r ts) (Ok (k, t ∷ ts)) ≡ Ok (k, t ∷ ts)
    by_allowed true r q = let z : true ≡ false = q in absurd (Prim.cc)
    by_allowed false r q = refl

    by_sort : (s : Sort) → begun_at (stars_rule k s t) (λ r. front halves r ts) (Ok (k, t ∷ ts)) ≡ Ok (k, t ∷ ts)
    by_sort Sort.Star = by_allowed _ _ e
    by_sort _ = refl

pub over : (a b : ℕ) → b < a → nat_le a b ≡ false
over a b h = grind arith
