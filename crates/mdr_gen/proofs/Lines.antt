-- Lines that are put one by one.
use Rattle.std.proofs.Common.{◌≡◌, ℕ, zero, suc, ◌+◌, ◌<◌, List, ◌++◌, sym, ap, ◌∙◌, append_assoc, arith}
use Rattle.std.proofs.lemmas.List.{append-nil}
use Rattle.mdr_gen.specs.Generator.{next, line_of, lines_from}

-- nothing is left
pub none : (x n : ℕ) (out whole : List ℕ) → (0 < n → ⊥) → out ++ lines_from x n ≡ whole → out ≡ whole
unfolding lines_from
none x zero out whole h e = sym (append-nil out) ∙ e
none x (suc n) out whole h e = absurd (h (omega arith))

first : (x n m : ℕ) → n ≡ m + 1 → lines_from x n ≡ line_of (next x) ++ lines_from (next x) m
unfolding lines_from
first x zero m s = absurd (omega (arith, s))
first x (suc n) m s = let q : n ≡ m = omega (arith, s) in ap (λ k. line_of (next x) ++ lines_from (next x) k) q

-- one line more
pub more : (x n m : ℕ) (out new whole : List ℕ) → n ≡ m + 1 → new ≡ out ++ line_of (next x) → out ++ lines_from x n ≡ whole → new ++ lines_from (next x) m ≡ whole
more x n m out new whole s p e =
    ap (λ bs. bs ++ lines_from (next x) m) p ∙ append_assoc out (line_of (next x)) (lines_from (next x) m) ∙ sym (ap (λ ls. out ++ ls) (first x n m s)) ∙ e
