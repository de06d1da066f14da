-- What a birth does to marks and to their holes.
use Rattle.std.proofs.Common.{◌≡◌, ◌<◌, ◌≤◌, ◌+◌, ◌-◌, ℕ, zero, suc, Bool, true, false, cond, List, [], ◌∷◌, ◌++◌, length, get_or, drop, replicate, Some, None, refl, sym, ◌∙◌, ap, subst, arith}
use Rattle.std.specs.Prelude.{◌==◌, nat_lt, nat_le}
use Rattle.std.proofs.lemmas.Bool.{eq-eqb}
use Rattle.std.proofs.lemmas.List.{length-append, length-replicate, length-drop}
use Rattle.std.proofs.lemmas.Bool.Decides.{nat_tests}
use Rattle.mdr_region.specs.declared.holes.Hole.{Hole}
use Rattle.mdr_region.specs.Layout.{Mark, are_free, placed, used}
use Rattle.mdr_region.specs.Holes.{hole, end_of, joined, holes_of, Rise, found, cut, rest_of, start_of, risen, front, inside}
use Rattle.mdr_region.proofs.MarkLaws.{holes_rise, rise_lower}

-- ---- free places in front

-- how many places are free from a place on
abbrev lead : ℕ → List Hole → ℕ
lead p [] = 0
lead p (h ∷ hs) = cond (h.start == p) h.len 0

lead_past : (p e : ℕ) (hs : List Hole) → Rise (p + 1) e hs → lead p hs ≡ 0
unfolding Rise
lead_past p e [] r = refl
lead_past p e (h ∷ hs) r = grind (arith, nat_tests, r.0)

lead_joined : (p e : ℕ) (hs : List Hole) → Rise (p + 1) e hs → lead p (joined (hole p 1) hs) ≡ 1 + lead (p + 1) hs
unfolding Rise
lead_joined p e [] r = grind (arith, nat_tests)
lead_joined p e (h ∷ hs) r = grind (arith, nat_tests, r.0)

free_lead : (n p e : ℕ) (ms : List Mark) → p + length ms ≤ e → are_free n ms ≡ nat_le n (lead p (holes_of p ms))
unfolding are_free holes_of
free_lead zero p e ms l = grind (arith, nat_tests)
free_lead (suc n) p e [] l = grind (arith, nat_tests)
free_lead (suc n) p e (Some s ∷ ms) l = grind (arith, nat_tests, lead_past p e (holes_of (p + 1) ms) (holes_rise (p + 1) e ms (omega arith)))
free_lead (suc n) p e (None ∷ ms) l = grind (arith, nat_tests, free_lead n (p + 1) e ms (omega arith), lead_joined p e (holes_of (p + 1) ms) (holes_rise (p + 1) e ms (omega arith)))

pub free_length : (n : ℕ) (ms : List Mark) → are_free n ms ≡ true → n ≤ length ms
unfolding are_free
free_length zero ms h = omega arith
free_length (suc n) (None ∷ ms) h = omega (arith, free_length n ms h)
free_length (suc n) (Some s ∷ ms) h = grind arith
free_length (suc n) [] h = grind arith

-- ---- rows of places

pub joined_joined : (p a b : ℕ) (hs : List Hole) → joined (hole p a) (joined (hole (p + a) b) hs) ≡ joined (hole p (a + b)) hs
joined_joined p a b [] = grind (arith, nat_tests)
joined_joined p a b (k ∷ ks) = of (p + a + b == k.start) refl
  where
    of : (t : Bool) → (p + a + b == k.start) ≡ t → joined (hole p a) (cond t (hole (p + a) (b + k.len) ∷ ks) (hole (p + a) b ∷ k ∷ ks)) ≡ joined (hole p (a + b)) (k ∷ ks)
    of true h = grind (arith, nat_tests, h)
    of false h = grind (arith, nat_tests, h)

pub holes_taken : (s n p : ℕ) (ms : List Mark) → holes_of p (replicate n (Some s) ++ ms) ≡ holes_of (p + n) ms
unfolding holes_of
holes_taken s zero p ms = ap (λ x. holes_of x ms) (omega arith)
holes_taken s (suc n) p ms = holes_taken s n (p + 1) ms ∙ ap (λ x. holes_of x ms) (omega arith)

holes_all_taken : (s n p : ℕ) → holes_of p (replicate n (Some s)) ≡ []
unfolding holes_of
holes_all_taken s zero p = refl
holes_all_taken s (suc n) p = holes_all_taken s n (p + 1)

pub holes_free : (n p : ℕ) (ms : List Mark) → holes_of p (replicate (suc n) None ++ ms) ≡ joined (hole p (suc n)) (holes_of (p + suc n) ms)
unfolding holes_of
holes_free zero p ms = refl
holes_free (suc n) p ms = ap (joined (hole p 1)) (holes_free n (p + 1) ms ∙ ap (λ x. joined (hole (p + 1) (suc n)) (holes_of x ms)) (omega arith)) ∙ (joined_joined p 1 (suc n) (holes_of (p + suc (suc n)) ms) ∙ ap (λ x. joined (hole p x) (holes_of (p + suc (suc n)) ms)) (omega arith))

free_replicate : (n : ℕ) (ms : List Mark) → are_free n ms ≡ true → ms ≡ replicate n None ++ drop n ms
unfolding are_free
free_replicate zero ms h = refl
free_replicate (suc n) (None ∷ ms) h = ap (λ x. None ∷ x) (free_replicate n ms h)
free_replicate (suc n) (Some s ∷ ms) h = grind arith
free_replicate (suc n) [] h = grind arith

-- ---- cutting

cut_front : (n p e : ℕ) (hs : List Hole) → Rise (p + n) e hs → 0 < n → cut n (joined (hole p n) hs) ≡ hs
unfolding cut Rise
cut_front n p e [] r l = grind (arith, nat_tests)
cut_front n p e (k ∷ ks) r l = of (p + n == k.start) refl
  where
    of : (t : Bool) → (p + n == k.start) ≡ t → cut n (cond t (hole p (n + k.len) ∷ ks) (hole p n ∷ k ∷ ks)) ≡ k ∷ ks
    of true h = grind (arith, nat_tests, h, r.1.0)
    of false h = grind (arith, nat_tests, h)

found_front : (n p : ℕ) (hs : List Hole) → found n (joined (hole p n) hs) ≡ Some p
unfolding found
found_front n p [] = grind (arith, nat_tests)
found_front n p (k ∷ ks) = of (p + n == k.start) refl
  where
    of : (t : Bool) → (p + n == k.start) ≡ t → found n (cond t (hole p (n + k.len) ∷ ks) (hole p n ∷ k ∷ ks)) ≡ Some p
    of true h = grind (arith, nat_tests, h)
    of false h = grind (arith, nat_tests, h)

joined_apart : (p e : ℕ) (hs : List Hole) → Rise (p + 2) e hs → joined (hole p 1) hs ≡ hole p 1 ∷ hs
unfolding Rise
joined_apart p e [] r = refl
joined_apart p e (k ∷ ks) r = grind (arith, nat_tests, r.0)

rise_cut : (n p e : ℕ) (hs : List Hole) → Rise p e hs → Rise p e (cut n hs)
unfolding Rise cut
rise_cut n p e [] r = tt
rise_cut n p e (k ∷ ks) r = of (nat_lt k.len n) (k.len == n) refl refl (rise_cut n (end_of k + 1) e ks r.1.1.1)
  where
    of : (t u : Bool) → nat_lt k.len n ≡ t → (k.len == n) ≡ u → Rise (end_of k + 1) e (cut n ks) → Rise p e (cond t (k ∷ cut n ks) (cond u ks (hole (k.start + n) (k.len - n) ∷ ks)))
    of true u h g later = (r.0, (r.1.0, (r.1.1.0, later)))
    of false true h g later = rise_lower p (end_of k + 1) e ks (omega (arith, r.0)) r.1.1.1
    of false false h g later = let more : n < k.len = grind (arith, nat_tests, h, g) in (omega (arith, r.0), (omega (arith, more), (omega (arith, more, r.1.1.0), subst (λ x. Rise (x + 1) e ks) (omega (arith, more)) r.1.1.1)))

cut_joined : (n p e : ℕ) (hs : List Hole) → Rise (p + 1) e hs → lead (p + 1) hs + 1 < n → joined (hole p 1) (cut n hs) ≡ cut n (joined (hole p 1) hs)
unfolding cut Rise
cut_joined n p e [] r l = grind (arith, nat_tests)
cut_joined n p e (k ∷ ks) r l = of (p + 1 == k.start) refl
  where
    of : (t : Bool) → (p + 1 == k.start) ≡ t → joined (hole p 1) (cut n (k ∷ ks)) ≡ cut n (cond t (hole p (1 + k.len) ∷ ks) (hole p 1 ∷ k ∷ ks))
    of true h = grind (arith, nat_tests, h, l)
    of false h =
        let far : p + 2 ≤ k.start = grind (arith, nat_tests, h, r.0, eq-eqb (p + 1) k.start) in
        let long : nat_lt 1 n ≡ true = grind (arith, nat_tests, h, l) in
        joined_apart p e (cut n (k ∷ ks)) (rise_cut n (p + 2) e (k ∷ ks) (far, r.1)) ∙ ap (λ x. cond x (hole p 1 ∷ cut n (k ∷ ks)) (rest_of n (hole p 1) (k ∷ ks))) (sym long)

found_joined : (n p e : ℕ) (hs : List Hole) → Rise (p + 1) e hs → lead (p + 1) hs + 1 < n → found n (joined (hole p 1) hs) ≡ found n hs
unfolding found Rise
found_joined n p e [] r l = grind (arith, nat_tests)
found_joined n p e (k ∷ ks) r l = of (p + 1 == k.start) refl
  where
    of : (t : Bool) → (p + 1 == k.start) ≡ t → found n (cond t (hole p (1 + k.len) ∷ ks) (hole p 1 ∷ k ∷ ks)) ≡ found n (k ∷ ks)
    of true h = grind (arith, nat_tests, h, l)
    of false h = grind (arith, nat_tests, h, l)

-- ---- all of it

front_holes : (n p : ℕ) (ms : List Mark) → 0 < n → are_free n ms ≡ true → holes_of p ms ≡ joined (hole p n) (holes_of (p + n) (drop n ms))
front_holes zero p ms l h = absurd (omega (arith, l))
front_holes (suc n) p ms l h = ap (holes_of p) (free_replicate (suc n) ms h) ∙ holes_free n p (drop (suc n) ms)

rest_rises : (n p e : ℕ) (ms : List Mark) → p + length ms ≤ e → are_free n ms ≡ true → Rise (p + n) e (holes_of (p + n) (drop n ms))
rest_rises n p e ms l h = holes_rise (p + n) e (drop n ms) (omega (arith, l, length-drop n ms, free_length n ms h))

taken_front : (s n p e : ℕ) (ms : List Mark) → 0 < n → p + length ms ≤ e → are_free n ms ≡ true → holes_of p (replicate n (Some s) ++ drop n ms) ≡ cut n (holes_of p ms)
taken_front s n p e ms pos l h = holes_taken s n p (drop n ms) ∙ sym (ap (cut n) (front_holes n p ms pos h) ∙ cut_front n p e (holes_of (p + n) (drop n ms)) (rest_rises n p e ms l h) pos)

short : (n p e : ℕ) (ms : List Mark) → p + 1 + length ms ≤ e → are_free n (None ∷ ms) ≡ false → lead (p + 1) (holes_of (p + 1) ms) + 1 < n
unfolding holes_of
short n p e ms l h = grind (arith, nat_tests, h, free_lead n p e (None ∷ ms) (omega arith), lead_joined p e (holes_of (p + 1) ms) (holes_rise (p + 1) e ms (omega arith)))

pub placed_holes : (s n p e : ℕ) (ms : List Mark) → 0 < n → p + length ms ≤ e → holes_of p (placed s n ms) ≡ cut n (holes_of p ms)
unfolding placed holes_of cut
placed_holes s n p e [] pos l = holes_all_taken s n p
placed_holes s n p e (m ∷ ms) pos l = of m (are_free n (m ∷ ms)) refl (placed_holes s n (p + 1) e ms pos (omega arith))
  where
    of : (x : Mark) (t : Bool) → are_free n (x ∷ ms) ≡ t → holes_of (p + 1) (placed s n ms) ≡ cut n (holes_of (p + 1) ms)
        → holes_of p (cond t (replicate n (Some s) ++ drop n (x ∷ ms)) (x ∷ placed s n ms)) ≡ cut n (holes_of p (x ∷ ms))
    of x true h later = taken_front s n p e (x ∷ ms) pos (omega arith) h
    of (Some t) false h later = later
    of None false h later = ap (joined (hole p 1)) later ∙ cut_joined n p e (holes_of (p + 1) ms) (holes_rise (p + 1) e ms (omega arith)) (short n p e ms (omega arith) h)

-- where it lies
pub placed_front : (n p e : ℕ) (ms : List Mark) → 0 < n → p + length ms ≤ e → start_of (p + length ms) (found n (holes_of p ms)) ≡ p + front n ms
unfolding holes_of front found
placed_front n p e [] pos l = refl
placed_front n p e (m ∷ ms) pos l = of m (are_free n (m ∷ ms)) refl (placed_front n (p + 1) e ms pos (omega arith))
  where
    of : (x : Mark) (t : Bool) → are_free n (x ∷ ms) ≡ t → start_of (p + 1 + length ms) (found n (holes_of (p + 1) ms)) ≡ p + 1 + front n ms
        → start_of (p + length (x ∷ ms)) (found n (holes_of p (x ∷ ms))) ≡ p + cond t 0 (suc (front n ms))
    of x true h later = ap (λ y. start_of (p + length (x ∷ ms)) (found n y)) (front_holes n p (x ∷ ms) pos h) ∙ (ap (start_of (p + length (x ∷ ms))) (found_front n p (holes_of (p + n) (drop n (x ∷ ms)))) ∙ omega arith)
    of (Some t) false h later = ap (λ y. start_of y (found n (holes_of (p + 1) ms))) (omega arith) ∙ (later ∙ omega arith)
    of None false h later = ap (start_of (p + length (None ∷ ms))) (found_joined n p e (holes_of (p + 1) ms) (holes_rise (p + 1) e ms (omega arith)) (short n p e ms (omega arith) h)) ∙ (ap (λ y. start_of y (found n (holes_of (p + 1) ms))) (omega arith) ∙ (later ∙ omega arith))

-- the top
pub placed_length : (s n p e : ℕ) (ms : List Mark) → 0 < n → p + length ms ≤ e → length (placed s n ms) ≡ length ms + risen n (found n (holes_of p ms))
unfolding holes_of placed found
placed_length s n p e [] pos l = omega (arith, length-replicate n (Some s))
placed_length s n p e (m ∷ ms) pos l = of m (are_free n (m ∷ ms)) refl (placed_length s n (p + 1) e ms pos (omega arith))
  where
    of : (x : Mark) (t : Bool) → are_free n (x ∷ ms) ≡ t → length (placed s n ms) ≡ length ms + risen n (found n (holes_of (p + 1) ms))
        → length (cond t (replicate n (Some s) ++ drop n (x ∷ ms)) (x ∷ placed s n ms)) ≡ length (x ∷ ms) + risen n (found n (holes_of p (x ∷ ms)))
    of x true h later = omega (arith, length-append (replicate n (Some s)) (drop n (x ∷ ms)), length-replicate n (Some s), length-drop n (x ∷ ms), free_length n (x ∷ ms) h, ap (λ y. risen n (found n y)) (front_holes n p (x ∷ ms) pos h), ap (risen n) (found_front n p (holes_of (p + n) (drop n (x ∷ ms)))))
    of (Some t) false h later = omega (arith, later)
    of None false h later = omega (arith, later, ap (risen n) (found_joined n p e (holes_of (p + 1) ms) (holes_rise (p + 1) e ms (omega arith)) (short n p e ms (omega arith) h)))

-- ---- the marks, place by place

replicate_at : (x : Mark) (n q : ℕ) → get_or (replicate n x) q None ≡ cond (nat_lt q n) x None
replicate_at x zero q = grind (arith, nat_tests)
replicate_at x (suc n) zero = grind (arith, nat_tests)
replicate_at x (suc n) (suc q) = grind (arith, nat_tests, replicate_at x n q)

replaced_at : (x : Mark) (n q : ℕ) (ms : List Mark) → n ≤ length ms → get_or (replicate n x ++ drop n ms) q None ≡ cond (nat_lt q n) x (get_or ms q None)
replaced_at x zero q ms l = grind (arith, nat_tests)
replaced_at x (suc n) q [] l = absurd (omega (arith, l))
replaced_at x (suc n) zero (m ∷ ms) l = grind (arith, nat_tests)
replaced_at x (suc n) (suc q) (m ∷ ms) l = grind (arith, nat_tests, replaced_at x n q ms (omega arith))

free_at : (n q : ℕ) (ms : List Mark) → are_free n ms ≡ true → q < n → get_or ms q None ≡ None
unfolding are_free
free_at zero q ms h l = absurd (omega (arith, l))
free_at (suc n) q [] h l = grind arith
free_at (suc n) q (Some s ∷ ms) h l = grind arith
free_at (suc n) zero (None ∷ ms) h l = refl
free_at (suc n) (suc q) (None ∷ ms) h l = free_at n q ms h (omega arith)

pub placed_at : (s n q : ℕ) (ms : List Mark) → get_or (placed s n ms) q None ≡ cond (inside (front n ms) n q) (Some s) (get_or ms q None)
unfolding placed front
placed_at s n q [] = grind (arith, nat_tests, replicate_at (Some s) n q)
placed_at s n q (m ∷ ms) = of q (are_free n (m ∷ ms)) refl (λ k. placed_at s n k ms)
  where
    of : (q : ℕ) (t : Bool) → are_free n (m ∷ ms) ≡ t → ((k : ℕ) → get_or (placed s n ms) k None ≡ cond (inside (front n ms) n k) (Some s) (get_or ms k None))
        → get_or (cond t (replicate n (Some s) ++ drop n (m ∷ ms)) (m ∷ placed s n ms)) q None ≡ cond (inside (cond t 0 (suc (front n ms))) n q) (Some s) (get_or (m ∷ ms) q None)
    of q true h later = grind (arith, nat_tests, replaced_at (Some s) n q (m ∷ ms) (free_length n (m ∷ ms) h))
    of zero false h later = grind (arith, nat_tests)
    of (suc q) false h later = grind (arith, nat_tests, later q)

-- it lies where all was free
pub front_free : (n q : ℕ) (ms : List Mark) → inside (front n ms) n q ≡ true → get_or ms q None ≡ None
unfolding front
front_free n q [] i = refl
front_free n q (m ∷ ms) i = of q (are_free n (m ∷ ms)) refl (λ k j. front_free n k ms j) i
  where
    of : (q : ℕ) (t : Bool) → are_free n (m ∷ ms) ≡ t → ((k : ℕ) → inside (front n ms) n k ≡ true → get_or ms k None ≡ None)
        → inside (cond t 0 (suc (front n ms))) n q ≡ true → get_or (m ∷ ms) q None ≡ None
    of q true h later i = free_at n q (m ∷ ms) h (grind (arith, nat_tests, i))
    of zero false h later i = grind (arith, nat_tests, i)
    of (suc q) false h later i = later q (grind (arith, nat_tests, i))

-- ---- used places

pub used_append : (xs ys : List Mark) → used (xs ++ ys) ≡ used xs + used ys
used_append [] ys = omega arith
used_append (None ∷ xs) ys = omega (arith, used_append xs ys)
used_append (Some s ∷ xs) ys = omega (arith, used_append xs ys)

pub used_taken : (s n : ℕ) → used (replicate n (Some s)) ≡ n
used_taken s zero = refl
used_taken s (suc n) = omega (arith, used_taken s n)

pub used_free : (n : ℕ) → used (replicate n None) ≡ 0
used_free zero = refl
used_free (suc n) = omega (arith, used_free n)

pub placed_used : (s n : ℕ) (ms : List Mark) → used (placed s n ms) ≡ used ms + n
unfolding placed
placed_used s n [] = omega (arith, used_taken s n)
placed_used s n (m ∷ ms) = of m (are_free n (m ∷ ms)) refl (placed_used s n ms)
  where
    of : (x : Mark) (t : Bool) → are_free n (x ∷ ms) ≡ t → used (placed s n ms) ≡ used ms + n
        → used (cond t (replicate n (Some s) ++ drop n (x ∷ ms)) (x ∷ placed s n ms)) ≡ used (x ∷ ms) + n
    of x true h later = omega (arith, used_append (replicate n (Some s)) (drop n (x ∷ ms)), used_taken s n, ap used (free_replicate n (x ∷ ms) h), used_append (replicate n None) (drop n (x ∷ ms)), used_free n)
    of (Some t) false h later = omega (arith, later)
    of None false h later = later
