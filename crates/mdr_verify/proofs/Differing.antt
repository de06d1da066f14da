-- The first place at which two lists differ, and the first wrong message.
use Rattle.std.proofs.Common.{◌≡◌, ℕ, zero, suc, Bool, true, false, cond, ◌+◌, ◌*◌, ◌≤◌, List, [], ◌∷◌, length, take, Option, Some, None, nat_lt, slice_get, refl, ap, ◌∙◌, arith, ltb-true, ltb-false, subst}
use Rattle.mdr_verify.specs.declared.transcript.Transcript.{Transcript}
use Rattle.mdr_verify.specs.declared.verdict.Wrong.TheVariants as wrong
use Rattle.mdr_verify.specs.Verdicts.{FirstDifference, FirstWrong, wrong_of}
use Rattle.mdr_verify.proofs.Shows.{some_same}

heads : {A : Type 0} (x y : A) (xs ys : List A) → x ∷ xs ≡ y ∷ ys → x ≡ y
heads x y xs ys e = cc

tails : {A : Type 0} (x y : A) (xs ys : List A) → x ∷ xs ≡ y ∷ ys → xs ≡ ys
tails x y xs ys e = cc

same_suc : (said due : List (List ℕ)) (i : ℕ) → take i said ≡ take i due → slice_get said i ≡ slice_get due i → take (suc i) said ≡ take (suc i) due
same_suc [] [] i h e = refl
same_suc [] (y ∷ due) zero h e = let n : None ≡ Some y = e in absurd (Prim.cc)
same_suc [] (y ∷ due) (suc i) h e = let n : [] ≡ y ∷ take i due = h in absurd (Prim.cc)
same_suc (x ∷ said) [] zero h e = let n : Some x ≡ None = e in absurd (Prim.cc)
same_suc (x ∷ said) [] (suc i) h e = let n : x ∷ take i said ≡ [] = h in absurd (Prim.cc)
same_suc (x ∷ said) (y ∷ due) zero h e = ap (λ a. a ∷ []) (some_same x y e)
same_suc (x ∷ said) (y ∷ due) (suc i) h e =
    let a : x ≡ y = heads x y (take i said) (take i due) h in
    let b : take (suc i) said ≡ take (suc i) due = same_suc said due i (tails x y (take i said) (take i due) h) e in
    ap (λ c. c ∷ take (suc i) said) a ∙ ap (λ cs. y ∷ cs) b

-- one more is the same
pub more_same : (said due : List (List ℕ)) (i j : ℕ) → j ≡ i + 1 → take i said ≡ take i due → slice_get said i ≡ slice_get due i → take j said ≡ take j due
more_same said due i j s h e = let q : suc i ≡ j = omega (arith, s) in subst (λ n. take n said ≡ take n due) q (same_suc said due i h e)

-- both end there
pub all_same : (said due : List (List ℕ)) (n : ℕ) → length said ≤ n → take n said ≡ take n due → slice_get said n ≡ slice_get due n → said ≡ due
all_same [] [] n le h e = refl
all_same [] (y ∷ due) zero le h e = let q : None ≡ Some y = e in absurd (Prim.cc)
all_same [] (y ∷ due) (suc n) le h e = let q : [] ≡ y ∷ take n due = h in absurd (Prim.cc)
all_same (x ∷ said) due zero le h e = absurd (omega (arith, le))
all_same (x ∷ said) [] (suc n) le h e = let q : x ∷ take n said ≡ [] = h in absurd (Prim.cc)
all_same (x ∷ said) (y ∷ due) (suc n) le h e =
    let a : x ≡ y = heads x y (take n said) (take n due) h in
    let b : said ≡ due = all_same said due n (omega (arith, le)) (tails x y (take n said) (take n due) h) e in
    ap (λ c. c ∷ said) a ∙ ap (λ cs. y ∷ cs) b

fewer : (xs ys : List (List ℕ)) (k n : ℕ) → k ≤ n → take n xs ≡ take n ys → take k xs ≡ take k ys
fewer xs ys zero n le h = refl
fewer xs ys (suc k) zero le h = absurd (omega (arith, le))
fewer [] [] (suc k) (suc n) le h = refl
fewer [] (y ∷ ys) (suc k) (suc n) le h = let q : [] ≡ y ∷ take n ys = h in absurd (Prim.cc)
fewer (x ∷ xs) [] (suc k) (suc n) le h = let q : x ∷ take n xs ≡ [] = h in absurd (Prim.cc)
fewer (x ∷ xs) (y ∷ ys) (suc k) (suc n) le h =
    let a : x ≡ y = heads x y (take n xs) (take n ys) h in
    let b : take k xs ≡ take k ys = fewer xs ys k n (omega (arith, le)) (tails x y (take n xs) (take n ys) h) in
    ap (λ c. c ∷ take k xs) a ∙ ap (λ cs. y ∷ cs) b

pub wrong_is : (t : Transcript) (sent answers : List (List ℕ)) (message answer : Option ℕ) → FirstDifference t.sent sent message → FirstDifference t.got answers answer → FirstWrong t sent answers (wrong_of message answer)
wrong_is t sent answers None None p q = (p, q)
wrong_is t sent answers None (Some j) p q = record { place = j; count = refl; right = ap (take (j + 1)) p; differs = q }
wrong_is t sent answers (Some i) None p q = record { place = i; count = refl; differs = p; right = ap (take i) q }
wrong_is t sent answers (Some i) (Some j) p q = on (nat_lt j i) refl
  where
    on : (b : Bool) → nat_lt j i ≡ b → FirstWrong t sent answers (cond b (Some (wrong.Answer (2 * j + 2))) (Some (wrong.Sent (2 * i + 1))))
    on true e = let lt = ltb-true j i e in record { place = j; count = refl; right = fewer t.sent sent (j + 1) i (omega (arith, lt)) p.before; differs = q }
    on false e = record { place = i; count = refl; differs = p; right = fewer t.got answers i j (ltb-false j i e) q.before }
