-- Holes by their numbers.
use Rattle.std.proofs.Common.{◌≡◌, ◌≢◌, ◌<◌, ◌≤◌, ◌+◌, ◌-◌, ℕ, zero, suc, Bool, true, false, cond, not, List, [], ◌∷◌, ◌++◌, length, get_or, set, take, drop, Some, None, refl, sym, ◌∙◌, ap, arith}
use Rattle.std.specs.Prelude.{is_some, ◌==◌, nat_lt, nat_le}
use Rattle.std.specs.List.{remove}
use Rattle.std.proofs.lemmas.Bool.{eqb-true, eq-eqb}
use Rattle.std.proofs.lemmas.List.{at_drop_more, at_drop_all, set_split}
use Rattle.std.proofs.lemmas.Bool.Decides.{nat_tests}
use Rattle.mdr_region.specs.declared.holes.Hole.{Hole}
use Rattle.mdr_region.specs.Holes.{hole, end_of, joined, Rise, found, cut, rest_of, first_fit, returned, passed_by, is_met, below, lowered}

-- ---- the first that fits

pub fit_here : (n i : ℕ) (hs : List Hole) (d : Hole) → i < length hs → n ≤ (get_or hs i d).len → first_fit n i (drop i hs) ≡ Some i
unfolding first_fit
fit_here n i hs d l t =
    let test : nat_le n (get_or hs i d).len ≡ true = grind (arith, nat_tests, t) in
    at_drop_more (first_fit n i) hs i d l ∙ ap (λ x. cond x (Some i) (first_fit n (i + 1) (drop (i + 1) hs))) test

pub fit_later : (n i : ℕ) (hs : List Hole) (d : Hole) → i < length hs → (get_or hs i d).len < n → first_fit n i (drop i hs) ≡ first_fit n (i + 1) (drop (i + 1) hs)
unfolding first_fit
fit_later n i hs d l t =
    let test : nat_le n (get_or hs i d).len ≡ false = grind (arith, nat_tests, t) in
    at_drop_more (first_fit n i) hs i d l ∙ ap (λ x. cond x (Some i) (first_fit n (i + 1) (drop (i + 1) hs))) test

pub fit_none : (n i : ℕ) (hs : List Hole) → length hs ≤ i → first_fit n i (drop i hs) ≡ None
unfolding first_fit
fit_none n i hs l = at_drop_all (first_fit n i) hs i l

-- what the number says
pub record Fits (n k : ℕ) (hs : List Hole) (d : Hole) : Type 0 where
  pub inside : k < length hs
  pub long : n ≤ (get_or hs k d).len
  pub start : found n hs ≡ Some (get_or hs k d).start
  pub rest : cut n hs ≡ take k hs ++ rest_of n (get_or hs k d) (drop (suc k) hs)

fit_from : (n i j : ℕ) (hs : List Hole) → first_fit n i hs ≡ Some j → i ≤ j
unfolding first_fit
fit_from n i j [] e = grind (arith, e)
fit_from n i j (h ∷ hs) e = of (nat_le n h.len) e (fit_from n (i + 1) j hs)
  where
    of : (t : Bool) → cond t (Some i) (first_fit n (i + 1) hs) ≡ Some j → (first_fit n (i + 1) hs ≡ Some j → i + 1 ≤ j) → i ≤ j
    of true e later = grind (arith, e)
    of false e later = omega (arith, later e)

fits_at : (n i k : ℕ) (hs : List Hole) (d : Hole) → first_fit n i hs ≡ Some (i + k) → Fits n k hs d
unfolding first_fit found cut
fits_at n i k [] d e = grind (arith, e)
fits_at n i k (h ∷ hs) d e = of k (nat_le n h.len) refl e (λ j f. fits_at n (i + 1) j hs d f)
  where
    of : (k : ℕ) (t : Bool) → nat_le n h.len ≡ t → cond t (Some i) (first_fit n (i + 1) hs) ≡ Some (i + k) → ((j : ℕ) → first_fit n (i + 1) hs ≡ Some (i + 1 + j) → Fits n j hs d) → Fits n k (h ∷ hs) d
    of zero true g e rec =
        let long : n ≤ h.len = grind (arith, nat_tests, g) in
        let test : nat_lt h.len n ≡ false = grind (arith, nat_tests, g) in
        record { inside = omega arith; long = long; start = ap (λ x. cond x (found n hs) (Some h.start)) test; rest = ap (λ x. cond x (h ∷ cut n hs) (rest_of n h hs)) test }
    of (suc k) true g e rec = grind (arith, e)
    of zero false g e rec = absurd (omega (arith, fit_from n (i + 1) (i + 0) hs e))
    of (suc k) false g e rec =
        let more : i + suc k ≡ i + 1 + k = omega arith in
        let later = rec k (e ∙ ap Some more) in
        let test : nat_lt h.len n ≡ true = grind (arith, nat_tests, g) in
        record { inside = omega (arith, later.inside); long = later.long; start = ap (λ x. cond x (found n hs) (Some h.start)) test ∙ later.start; rest = ap (λ x. cond x (h ∷ cut n hs) (rest_of n h hs)) test ∙ ap (λ x. h ∷ x) later.rest }

pub fits : (n k : ℕ) (hs : List Hole) (d : Hole) → Some k ≡ first_fit n 0 hs → Fits n k hs d
fits n k hs d e = let same : k ≡ 0 + k = omega arith in fits_at n 0 k hs d (sym e ∙ ap Some same)

pub fits_none : (n i : ℕ) (hs : List Hole) → None ≡ first_fit n i hs → (found n hs ≡ None) × (cut n hs ≡ hs)
unfolding first_fit found cut
fits_none n i [] e = (refl, refl)
fits_none n i (h ∷ hs) e = of (nat_le n h.len) refl e (fits_none n (i + 1) hs)
  where
    of : (t : Bool) → nat_le n h.len ≡ t → None ≡ cond t (Some i) (first_fit n (i + 1) hs) → (None ≡ first_fit n (i + 1) hs → (found n hs ≡ None) × (cut n hs ≡ hs)) → (found n (h ∷ hs) ≡ None) × (cut n (h ∷ hs) ≡ h ∷ hs)
    of true g e later = grind (arith, e)
    of false g e later =
        let test : nat_lt h.len n ≡ true = grind (arith, nat_tests, g) in
        let r = later e in
        (ap (λ x. cond x (found n hs) (Some h.start)) test ∙ r.0, ap (λ x. cond x (h ∷ cut n hs) (rest_of n h hs)) test ∙ ap (λ x. h ∷ x) r.1)

-- ---- where holes end

pub rise_at : (p e k : ℕ) (hs : List Hole) (d : Hole) → Rise p e hs → k < length hs → end_of (get_or hs k d) ≤ e
unfolding Rise
rise_at p e k [] d r l = absurd (omega (arith, l))
rise_at p e zero (h ∷ hs) d r l = r.1.1.0
rise_at p e (suc k) (h ∷ hs) d r l = rise_at (end_of h + 1) e k hs d r.1.1.1 (omega (arith, l))

pub rise_remove : (p e k : ℕ) (hs : List Hole) → Rise p e hs → Rise p e (remove hs k)
unfolding Rise
rise_remove p e k [] r = of k
  where
    of : (k : ℕ) → Rise p e (remove [] k)
    of zero = tt
    of (suc k) = tt
rise_remove p e zero (h ∷ hs) r = lower hs r.1.1.1
  where
    lower : (hs : List Hole) → Rise (end_of h + 1) e hs → Rise p e hs
    lower [] q = tt
    lower (k ∷ ks) q = (omega (arith, q.0, r.0), q.1)
rise_remove p e (suc k) (h ∷ hs) r = (r.0, (r.1.0, (r.1.1.0, rise_remove (end_of h + 1) e k hs r.1.1.1)))

-- ---- coming back

pub pass_here : (s i : ℕ) (hs : List Hole) (d : Hole) → i < length hs → s ≤ end_of (get_or hs i d) → i + passed_by s (drop i hs) ≡ i
unfolding passed_by
pass_here s i hs d l t =
    let test : nat_le s (end_of (get_or hs i d)) ≡ true = grind (arith, nat_tests, t) in
    omega (arith, at_drop_more (passed_by s) hs i d l ∙ ap (λ x. cond x 0 (1 + passed_by s (drop (i + 1) hs))) test)

pub pass_later : (s i : ℕ) (hs : List Hole) (d : Hole) → i < length hs → end_of (get_or hs i d) < s → i + passed_by s (drop i hs) ≡ (i + 1) + passed_by s (drop (i + 1) hs)
unfolding passed_by
pass_later s i hs d l t =
    let test : nat_le s (end_of (get_or hs i d)) ≡ false = grind (arith, nat_tests, t) in
    omega (arith, at_drop_more (passed_by s) hs i d l ∙ ap (λ x. cond x 0 (1 + passed_by s (drop (i + 1) hs))) test)

pub pass_all : (s i : ℕ) (hs : List Hole) → length hs ≤ i → passed_by s (drop i hs) ≡ 0
unfolding passed_by
pass_all s i hs l = at_drop_all (passed_by s) hs i l

-- from the first hole that isn't passed
pub met_by : Hole → List Hole → List Hole
unfolding returned
met_by h [] = h ∷ []
met_by h (k ∷ ks) = cond (end_of k == h.start) (joined (hole k.start (k.len + h.len)) ks) (joined h (k ∷ ks))

returned_by : (h : Hole) (hs : List Hole) → returned h hs ≡ take (passed_by h.start hs) hs ++ met_by h (drop (passed_by h.start hs) hs)
unfolding returned passed_by met_by
returned_by h [] = refl
returned_by h (k ∷ ks) = of (nat_le h.start (end_of k)) refl (returned_by h ks)
  where
    of : (t : Bool) → nat_le h.start (end_of k) ≡ t → returned h ks ≡ take (passed_by h.start ks) ks ++ met_by h (drop (passed_by h.start ks) ks)
        → returned h (k ∷ ks) ≡ take (cond t 0 (1 + passed_by h.start ks)) (k ∷ ks) ++ met_by h (drop (cond t 0 (1 + passed_by h.start ks)) (k ∷ ks))
    of true g later =
        let test : nat_lt (end_of k) h.start ≡ false = grind (arith, nat_tests, g) in
        ap (λ x. cond x (k ∷ returned h ks) (met_by h (k ∷ ks))) test
    of false g later =
        let test : nat_lt (end_of k) h.start ≡ true = grind (arith, nat_tests, g) in
        let more : suc (passed_by h.start ks) ≡ 1 + passed_by h.start ks = omega arith in
        ap (λ x. cond x (k ∷ returned h ks) (met_by h (k ∷ ks))) test ∙ (ap (λ x. k ∷ x) later ∙ ap (λ x. take x (k ∷ ks) ++ met_by h (drop x (k ∷ ks))) more)

passed_inside : (s : ℕ) (hs : List Hole) → passed_by s hs ≤ length hs
unfolding passed_by
passed_inside s [] = omega arith
passed_inside s (h ∷ hs) = of (nat_le s (end_of h)) (passed_inside s hs)
  where
    of : (t : Bool) → passed_by s hs ≤ length hs → cond t 0 (1 + passed_by s hs) ≤ length (h ∷ hs)
    of true later = omega arith
    of false later = omega (arith, later)

take_remove : (i : ℕ) (hs : List Hole) → take i (remove hs i) ≡ take i hs
take_remove zero hs = refl
take_remove (suc i) [] = refl
take_remove (suc i) (h ∷ hs) = ap (λ x. h ∷ x) (take_remove i hs)

drop_remove : (i : ℕ) (hs : List Hole) → drop i (remove hs i) ≡ drop (suc i) hs
drop_remove zero hs = refl
drop_remove (suc i) [] = refl
drop_remove (suc i) (h ∷ hs) = drop_remove i hs

pub met_here : (start i : ℕ) (hs : List Hole) (d : Hole) → i < length hs → (end_of (get_or hs i d) == start) ≡ is_met start (drop i hs)
met_here start i [] d l = absurd (omega (arith, l))
met_here start zero (h ∷ hs) d l = refl
met_here start (suc i) (h ∷ hs) d l = met_here start i hs d (omega (arith, l))

pub met_none : (start i : ℕ) (hs : List Hole) → length hs ≤ i → is_met start (drop i hs) ≡ false
met_none start i hs l = at_drop_all (is_met start) hs i l

met_inside : (start i : ℕ) (hs : List Hole) → is_met start (drop i hs) ≡ true → i < length hs
met_inside start i [] e = of i e
  where
    of : (i : ℕ) → is_met start (drop i []) ≡ true → i < 0
    of zero e = grind (arith, e)
    of (suc i) e = grind (arith, e)
met_inside start zero (h ∷ hs) e = omega arith
met_inside start (suc i) (h ∷ hs) e = omega (arith, met_inside start i hs e)

-- what the number of passed holes says
pub record Meets (start len i : ℕ) (hs : List Hole) (d : Hole) : Type 0 where
  pub inside : i < length hs
  pub same : returned (hole start len) hs ≡ take i (remove hs i) ++ joined (hole (get_or hs i d).start ((get_or hs i d).len + len)) (drop i (remove hs i))
  pub touches : end_of (get_or hs i d) ≡ start

pub meets : (start len i : ℕ) (hs : List Hole) (d : Hole) → i ≡ passed_by start hs → is_met start (drop i hs) ≡ true → Meets start len i hs d
unfolding met_by
meets start len i hs d e m =
    let h = hole start len in
    let k = get_or hs i d in
    let l = met_inside start i hs m in
    let test : (end_of k == start) ≡ true = met_here start i hs d l ∙ m in
    let more : i + 1 ≡ suc i = omega arith in
    record {
      inside = l;
      same =
          returned_by (hole start len) hs
          ∙ (ap (λ x. take x hs ++ met_by (hole start len) (drop x hs)) (sym e)
          ∙ (ap (λ x. take i hs ++ x) (at_drop_more (met_by (hole start len)) hs i d l ∙ (ap (λ x. cond x (joined (hole (get_or hs i d).start ((get_or hs i d).len + len)) (drop (i + 1) hs)) (joined (hole start len) (get_or hs i d ∷ drop (i + 1) hs))) test ∙ ap (λ x. joined (hole (get_or hs i d).start ((get_or hs i d).len + len)) (drop x hs)) more))
          ∙ sym (ap (λ x. x ++ joined (hole (get_or hs i d).start ((get_or hs i d).len + len)) (drop i (remove hs i))) (take_remove i hs) ∙ ap (λ x. take i hs ++ joined (hole (get_or hs i d).start ((get_or hs i d).len + len)) x) (drop_remove i hs))));
      touches = eqb-true (end_of (get_or hs i d)) start test;
    }

pub apart : (start len i : ℕ) (hs : List Hole) → i ≡ passed_by start hs → is_met start (drop i hs) ≡ false → returned (hole start len) hs ≡ take i hs ++ joined (hole start len) (drop i hs)
unfolding met_by
apart start len i hs e m = returned_by (hole start len) hs ∙ (ap (λ x. take x hs ++ met_by (hole start len) (drop x hs)) (sym e) ∙ ap (λ x. take i hs ++ x) (of (drop i hs) m))
  where
    of : (xs : List Hole) → is_met start xs ≡ false → met_by (hole start len) xs ≡ joined (hole start len) xs
    of [] m = refl
    of (k ∷ ks) m = ap (λ x. cond x (joined (hole k.start (k.len + len)) ks) (joined (hole start len) (k ∷ ks))) m

pub passes : (start i : ℕ) (hs : List Hole) → i ≡ passed_by start hs → i ≤ length hs
passes start i hs e = omega (arith, e, passed_inside start hs)

pub put_joined : (i : ℕ) (hs : List Hole) (h d : Hole) → i < length hs → end_of h ≡ (get_or hs i d).start → set hs i (hole h.start (h.len + (get_or hs i d).len)) ≡ take i hs ++ joined h (drop i hs)
put_joined i [] h d l t = absurd (omega (arith, l))
put_joined zero (k ∷ ks) h d l t = let test = eq-eqb (end_of h) k.start t in sym (ap (λ x. cond x (hole h.start (h.len + k.len) ∷ ks) (h ∷ k ∷ ks)) test)
put_joined (suc i) (k ∷ ks) h d l t = ap (λ x. k ∷ x) (put_joined i ks h d (omega (arith, l)) t)

-- ---- the top

rise_end : (p e : ℕ) (k : ℕ) (hs : List Hole) (d : Hole) → Rise p e hs → k < length hs → p ≤ (get_or hs k d).start
unfolding Rise
rise_end p e k [] d r l = absurd (omega (arith, l))
rise_end p e zero (h ∷ hs) d r l = r.0
rise_end p e (suc k) (h ∷ hs) d r l = omega (arith, r.0, rise_end (end_of h + 1) e k hs d r.1.1.1 (omega (arith, l)))

pub top_ends : (p e k : ℕ) (hs : List Hole) (d : Hole) → Rise p e hs → length hs ≡ suc k → end_of (get_or hs k d) ≡ e → (below e hs ≡ take k hs) × (lowered e hs ≡ (get_or hs k d).start)
unfolding Rise below lowered
top_ends p e k [] d r l t = absurd (omega (arith, l))
top_ends p e zero (h ∷ hs) d r l t = let test = eq-eqb (end_of h) e t in (ap (λ x. cond x [] (h ∷ below e hs)) test, ap (λ x. cond x h.start (lowered e hs)) test)
top_ends p e (suc k) (h ∷ hs) d r l t =
    let later = top_ends (end_of h + 1) e k hs d r.1.1.1 (omega (arith, l)) t in
    let test : (end_of h == e) ≡ false = grind (arith, nat_tests, eqb-true (end_of h) e, rise_end (end_of h + 1) e k hs d r.1.1.1 (omega (arith, l)), rise_at (end_of h + 1) e k hs d r.1.1.1 (omega (arith, l))) in
    (ap (λ x. cond x [] (h ∷ below e hs)) test ∙ ap (λ x. h ∷ x) later.0, ap (λ x. cond x h.start (lowered e hs)) test ∙ later.1)

pub top_free : (p e k : ℕ) (hs : List Hole) (d : Hole) → Rise p e hs → length hs ≡ suc k → (end_of (get_or hs k d) ≢ e) → (below e hs ≡ hs) × (lowered e hs ≡ e)
unfolding Rise below lowered
top_free p e k [] d r l t = absurd (omega (arith, l))
top_free p e zero (h ∷ []) d r l t =
    let test : (end_of h == e) ≡ false = grind (arith, nat_tests, t) in
    (ap (λ x. cond x [] (h ∷ [])) test, ap (λ x. cond x h.start e) test)
top_free p e zero (h ∷ g ∷ hs) d r l t = absurd (omega (arith, l))
top_free p e (suc k) (h ∷ hs) d r l t =
    let later = top_free (end_of h + 1) e k hs d r.1.1.1 (omega (arith, l)) t in
    let test : (end_of h == e) ≡ false = grind (arith, nat_tests, eqb-true (end_of h) e, rise_end (end_of h + 1) e k hs d r.1.1.1 (omega (arith, l)), rise_at (end_of h + 1) e k hs d r.1.1.1 (omega (arith, l))) in
    (ap (λ x. cond x [] (h ∷ below e hs)) test ∙ ap (λ x. h ∷ x) later.0, ap (λ x. cond x h.start (lowered e hs)) test ∙ later.1)

pub top_none : (e : ℕ) (hs : List Hole) → length hs ≡ 0 → (below e hs ≡ hs) × (lowered e hs ≡ e)
unfolding below lowered
top_none e [] l = (refl, refl)
top_none e (h ∷ hs) l = absurd (omega (arith, l))

-- ---- taking

apart_test : (a b : ℕ) → a ≢ b → (a == b) ≡ false
apart_test a b apart = grind (arith, nat_tests, apart)

pub cut_here : (n k : ℕ) (hs : List Hole) (d : Hole) → Fits n k hs d → (get_or hs k d).len ≡ n → remove hs k ≡ cut n hs
cut_here n k hs d f e = let test = eq-eqb (get_or hs k d).len n e in sym (f.rest ∙ ap (λ x. take k hs ++ cond x (drop (suc k) hs) (hole ((get_or hs k d).start + n) ((get_or hs k d).len - n) ∷ drop (suc k) hs)) test)

pub cut_part : (n k : ℕ) (hs : List Hole) (d : Hole) → Fits n k hs d → (get_or hs k d).len ≢ n → set hs k (hole ((get_or hs k d).start + n) ((get_or hs k d).len - n)) ≡ cut n hs
cut_part n k hs d f e = let test = apart_test (get_or hs k d).len n e in set_split hs k (hole ((get_or hs k d).start + n) ((get_or hs k d).len - n)) f.inside ∙ sym (f.rest ∙ ap (λ x. take k hs ++ cond x (drop (suc k) hs) (hole ((get_or hs k d).start + n) ((get_or hs k d).len - n) ∷ drop (suc k) hs)) test)

pub cut_none : (n : ℕ) (hs : List Hole) → None ≡ found n hs → cut n hs ≡ hs
unfolding found cut
cut_none n [] e = refl
cut_none n (h ∷ hs) e = of (nat_lt h.len n) e (cut_none n hs)
  where
    of : (t : Bool) → None ≡ cond t (found n hs) (Some h.start) → (None ≡ found n hs → cut n hs ≡ hs) → cond t (h ∷ cut n hs) (rest_of n h hs) ≡ h ∷ hs
    of true e later = ap (λ x. h ∷ x) (later e)
    of false e later = grind (arith, e)

pub some_fits : (n i : ℕ) (hs : List Hole) → is_some (first_fit n i hs) ≡ is_some (found n hs)
unfolding first_fit found
some_fits n i [] = refl
some_fits n i (h ∷ hs) = of (nat_le n h.len) (nat_lt h.len n) (grind (arith, nat_tests)) (some_fits n (i + 1) hs)
  where
    of : (t u : Bool) → u ≡ not t → is_some (first_fit n (i + 1) hs) ≡ is_some (found n hs) → is_some (cond t (Some i) (first_fit n (i + 1) hs)) ≡ is_some (cond u (found n hs) (Some h.start))
    of true false e later = refl
    of false true e later = later
    of true true e later = grind (arith, e)
    of false false e later = grind (arith, e)
