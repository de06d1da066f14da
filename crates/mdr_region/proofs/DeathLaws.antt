-- What a death does to marks and to their holes.
use Rattle.std.proofs.Common.{◌≡◌, ◌<◌, ◌≤◌, ◌+◌, ℕ, zero, suc, Bool, true, false, cond, not, ◌&&◌, List, [], ◌∷◌, ◌++◌, map, length, get_or, take, drop, replicate, Some, None, refl, sym, ◌∙◌, ap, subst, arith}
use Rattle.std.specs.Prelude.{◌==◌, nat_lt}
use Rattle.std.proofs.lemmas.Bool.{eqb-true, eq-eqb}
use Rattle.std.proofs.lemmas.List.{length-append, length-replicate}
use Rattle.std.proofs.lemmas.Bool.Decides.{nat_tests}
use Rattle.mdr_region.specs.declared.holes.Hole.{Hole}
use Rattle.mdr_region.specs.Layout.{Mark, freed, under, trimmed, left, used}
use Rattle.mdr_region.specs.Holes.{hole, end_of, joined, holes_of, Rise, returned, below, lowered, inside, names}
use Rattle.mdr_region.proofs.MarkLaws.{holes_rise}
use Rattle.mdr_region.proofs.BirthLaws.{joined_joined, holes_taken, holes_free, used_append, used_taken, used_free}

-- ---- a hole beside the one that comes back

-- the first hole doesn't overlap the one that comes back
abbrev Apart : Hole → List Hole → Type 0
Apart h [] = Unit {0}
Apart h (k ∷ ks) = h.start < end_of k → end_of h ≤ k.start

apart_behind : (q e : ℕ) (h : Hole) (hs : List Hole) → end_of h ≤ q → Rise q e hs → Apart h hs
unfolding Rise
apart_behind q e h [] l r = tt
apart_behind q e h (k ∷ ks) l r = λ i. omega (arith, r.0)

apart_joined : (p e : ℕ) (h : Hole) (hs : List Hole) → p + 1 ≤ h.start → 0 < h.len → Rise (p + 1) e hs → Apart h hs → Apart h (joined (hole p 1) hs)
unfolding Rise
apart_joined p e h [] l pos r a = λ i. omega (arith, i, l)
apart_joined p e h (k ∷ ks) l pos r a = of (p + 1 == k.start) refl
  where
    of : (t : Bool) → (p + 1 == k.start) ≡ t → Apart h (cond t (hole p (1 + k.len) ∷ ks) (hole p 1 ∷ k ∷ ks))
    of true g = λ i. let s = eqb-true (p + 1) k.start g in omega (arith, s, i, l, pos, a (omega (arith, s, i)))
    of false g = λ i. omega (arith, i, l)

apart_of : (s n p st e : ℕ) (a b : List Mark) → 0 < n → st ≡ p + length a → p + length (a ++ (replicate n (Some s) ++ b)) ≤ e
    → Apart (hole st n) (holes_of p (a ++ (replicate n (Some s) ++ b)))
unfolding holes_of
apart_of s n p st e [] b pos at l = subst (λ x. Apart (hole st n) x) (sym (holes_taken s n p b)) (apart_behind (p + n) e (hole st n) (holes_of (p + n) b) (omega (arith, at)) (holes_rise (p + n) e b (omega (arith, l, length-append (replicate n (Some s)) b, length-replicate n (Some s)))))
apart_of s n p st e (Some t ∷ a) b pos at l = apart_of s n (p + 1) st e a b pos (omega (arith, at)) (omega (arith, l))
apart_of s n p st e (None ∷ a) b pos at l = apart_joined p e (hole st n) (holes_of (p + 1) (a ++ (replicate n (Some s) ++ b))) (omega (arith, at)) pos (holes_rise (p + 1) e (a ++ (replicate n (Some s) ++ b)) (omega (arith, l))) (apart_of s n (p + 1) st e a b pos (omega (arith, at)) (omega (arith, l)))

-- ---- coming back

returned_front : (st n q e : ℕ) (hs : List Hole) → st + n ≤ q → 0 < n → Rise q e hs → returned (hole st n) hs ≡ joined (hole st n) hs
unfolding Rise returned
returned_front st n q e [] l pos r = refl
returned_front st n q e (k ∷ ks) l pos r =
    let far : nat_lt (end_of k) st ≡ false = grind (arith, nat_tests, l, pos, r.0) in
    let off : (end_of k == st) ≡ false = grind (arith, nat_tests, l, pos, r.0, eqb-true (end_of k) st) in
    rw (far, off) refl

joined_over : (p a b : ℕ) (hs : List Hole) → p + 1 < a → joined (hole p 1) (joined (hole a b) hs) ≡ hole p 1 ∷ joined (hole a b) hs
joined_over p a b [] l = grind (arith, nat_tests, l)
joined_over p a b (k ∷ ks) l = of (a + b == k.start)
  where
    of : (t : Bool) → joined (hole p 1) (cond t (hole a (b + k.len) ∷ ks) (hole a b ∷ k ∷ ks)) ≡ hole p 1 ∷ cond t (hole a (b + k.len) ∷ ks) (hole a b ∷ k ∷ ks)
    of true = grind (arith, nat_tests, l)
    of false = grind (arith, nat_tests, l)

-- one step of `returned`, by where the first hole ends
passed : (h k : Hole) (ks : List Hole) → end_of k < h.start → returned h (k ∷ ks) ≡ k ∷ returned h ks
unfolding returned
passed h k ks l = let t : nat_lt (end_of k) h.start ≡ true = grind (arith, nat_tests, l) in rw t refl

met : (h k : Hole) (ks : List Hole) → end_of k ≡ h.start → returned h (k ∷ ks) ≡ joined (hole k.start (k.len + h.len)) ks
unfolding returned
met h k ks l =
    let t : nat_lt (end_of k) h.start ≡ false = grind (arith, nat_tests, l) in
    let u : (end_of k == h.start) ≡ true = eq-eqb (end_of k) h.start l in
    rw (t, u) refl

not_met : (h k : Hole) (ks : List Hole) → h.start < end_of k → returned h (k ∷ ks) ≡ joined h (k ∷ ks)
unfolding returned
not_met h k ks l =
    let t : nat_lt (end_of k) h.start ≡ false = grind (arith, nat_tests, l) in
    let u : (end_of k == h.start) ≡ false = grind (arith, nat_tests, l, eqb-true (end_of k) h.start) in
    rw (t, u) refl

touching : (h k : Hole) (ks : List Hole) → end_of h ≡ k.start → joined h (k ∷ ks) ≡ hole h.start (h.len + k.len) ∷ ks
touching h k ks l = let u : (end_of h == k.start) ≡ true = eq-eqb (end_of h) k.start l in rw u refl

loose : (h k : Hole) (ks : List Hole) → end_of h < k.start → joined h (k ∷ ks) ≡ h ∷ k ∷ ks
loose h k ks l = let u : (end_of h == k.start) ≡ false = grind (arith, nat_tests, l, eqb-true (end_of h) k.start) in rw u refl

data Order (a b : ℕ) : Type 0 where
  less : a < b → Order a b
  same : a ≡ b → Order a b
  more : b < a → Order a b

order : (a b : ℕ) → Order a b
order zero zero = same refl
order zero (suc b) = less (omega arith)
order (suc a) zero = more (omega arith)
order (suc a) (suc b) = of (order a b)
  where
    of : Order a b → Order (suc a) (suc b)
    of (less l) = less (omega (arith, l))
    of (same l) = same (omega (arith, l))
    of (more l) = more (omega (arith, l))

returned_joined : (p e : ℕ) (h : Hole) (hs : List Hole) → p + 1 ≤ h.start → 0 < h.len → Rise (p + 1) e hs → Apart h hs
    → joined (hole p 1) (returned h hs) ≡ returned h (joined (hole p 1) hs)
unfolding Rise returned
returned_joined p e h [] l pos r a = none (order (p + 1) h.start)
  where
    none : Order (p + 1) h.start → joined (hole p 1) (returned h []) ≡ returned h (hole p 1 ∷ [])
    none (less i) = loose (hole p 1) h [] i ∙ sym (passed h (hole p 1) [] i)
    none (same i) = touching (hole p 1) h [] i ∙ sym (met h (hole p 1) [] i)
    none (more i) = absurd (omega (arith, i, l))
returned_joined p e h (k ∷ ks) l pos r a = of (order (end_of k) h.start) (order (p + 1) k.start) (order (p + 1) h.start)
  where
    of : Order (end_of k) h.start → Order (p + 1) k.start → Order (p + 1) h.start → joined (hole p 1) (returned h (k ∷ ks)) ≡ returned h (joined (hole p 1) (k ∷ ks))
    of x (more j) z = absurd (omega (arith, j, r.0))
    of x y (more j) = absurd (omega (arith, j, l))
    of (less i) (same j) z = ap (joined (hole p 1)) (passed h k ks i) ∙ (touching (hole p 1) k (returned h ks) j ∙ sym (ap (returned h) (touching (hole p 1) k ks j) ∙ passed h (hole p (1 + k.len)) ks (omega (arith, i, j))))
    of (less i) (less j) z = ap (joined (hole p 1)) (passed h k ks i) ∙ (loose (hole p 1) k (returned h ks) j ∙ sym (ap (returned h) (loose (hole p 1) k ks j) ∙ (passed h (hole p 1) (k ∷ ks) (omega (arith, i, j)) ∙ ap (λ x. hole p 1 ∷ x) (passed h k ks i))))
    of (same i) (same j) z = ap (joined (hole p 1)) (met h k ks i ∙ ap (λ x. joined (hole x (k.len + h.len)) ks) (sym j)) ∙ (joined_joined p 1 (k.len + h.len) ks ∙ sym (ap (returned h) (touching (hole p 1) k ks j) ∙ (met h (hole p (1 + k.len)) ks (omega (arith, i, j)) ∙ ap (λ x. joined (hole p x) ks) (omega arith))))
    of (same i) (less j) z = ap (joined (hole p 1)) (met h k ks i) ∙ (joined_over p k.start (k.len + h.len) ks j ∙ sym (ap (returned h) (loose (hole p 1) k ks j) ∙ (passed h (hole p 1) (k ∷ ks) (omega (arith, i, j)) ∙ ap (λ x. hole p 1 ∷ x) (met h k ks i))))
    of (more i) y (same z) = ap (joined (hole p 1)) (not_met h k ks i ∙ ap (λ x. joined (hole x h.len) (k ∷ ks)) (sym z)) ∙ (joined_joined p 1 h.len (k ∷ ks) ∙ sym (ap (returned h) (loose (hole p 1) k ks (omega (arith, z, pos, a i))) ∙ met h (hole p 1) (k ∷ ks) z))
    of (more i) y (less z) = ap (joined (hole p 1)) (not_met h k ks i) ∙ (joined_over p h.start h.len (k ∷ ks) z ∙ sym (ap (returned h) (loose (hole p 1) k ks (omega (arith, z, pos, a i))) ∙ (passed h (hole p 1) (k ∷ ks) z ∙ ap (λ x. hole p 1 ∷ x) (not_met h k ks i))))

pub returned_holes : (s n p st e : ℕ) (a b : List Mark) → 0 < n → st ≡ p + length a → p + length (a ++ (replicate n (Some s) ++ b)) ≤ e
    → holes_of p (a ++ (replicate n None ++ b)) ≡ returned (hole st n) (holes_of p (a ++ (replicate n (Some s) ++ b)))
unfolding holes_of
returned_holes s zero p st e a b pos at l = absurd (omega (arith, pos))
returned_holes s (suc n) p st e [] b pos at l =
    let here : p ≡ st = omega (arith, at) in
    let rest : Rise (p + suc n) e (holes_of (p + suc n) b) = holes_rise (p + suc n) e b (omega (arith, l, length-append (replicate (suc n) (Some s)) b, length-replicate (suc n) (Some s))) in
    holes_free n p b ∙ (ap (λ x. joined (hole x (suc n)) (holes_of (p + suc n) b)) here ∙ sym (ap (returned (hole st (suc n))) (holes_taken s (suc n) p b) ∙ returned_front st (suc n) (p + suc n) e (holes_of (p + suc n) b) (omega (arith, at)) pos rest))
returned_holes s (suc n) p st e (Some t ∷ a) b pos at l = returned_holes s (suc n) (p + 1) st e a b pos (omega (arith, at)) (omega (arith, l))
returned_holes s (suc n) p st e (None ∷ a) b pos at l =
    ap (joined (hole p 1)) (returned_holes s (suc n) (p + 1) st e a b pos (omega (arith, at)) (omega (arith, l)))
    ∙ returned_joined p e (hole st (suc n)) (holes_of (p + 1) (a ++ (replicate (suc n) (Some s) ++ b))) (omega (arith, at)) pos (holes_rise (p + 1) e (a ++ (replicate (suc n) (Some s) ++ b)) (omega (arith, l))) (apart_of s (suc n) (p + 1) st e a b pos (omega (arith, at)) (omega (arith, l)))

-- ---- the places of a block

pub record Parted (s start n : ℕ) (ms : List Mark) : Type 0 where
  pub whole : ms ≡ take start ms ++ (replicate n (Some s) ++ drop (start + n) ms)
  pub without : map (freed s) ms ≡ take start ms ++ (replicate n None ++ drop (start + n) ms)
  pub front : length (take start ms) ≡ start

pub none_freed : (s : ℕ) (ms : List Mark) → ((q : ℕ) → names s (get_or ms q None) ≡ false) → map (freed s) ms ≡ ms
none_freed s [] h = refl
none_freed s (None ∷ ms) h = ap (λ x. None ∷ x) (none_freed s ms (λ q. h (suc q)))
none_freed s (Some t ∷ ms) h = ap (λ x. cond x None (Some t) ∷ map (freed s) ms) (h 0) ∙ ap (λ x. Some t ∷ x) (none_freed s ms (λ q. h (suc q)))

none_inside : (n : ℕ) → ((q : ℕ) → false ≡ nat_lt q n) → n ≡ 0
none_inside zero h = refl
none_inside (suc n) h = grind (arith, nat_tests, h 0)

parted_here : (s n : ℕ) (ms : List Mark) → ((q : ℕ) → names s (get_or ms q None) ≡ nat_lt q n)
    → (ms ≡ replicate n (Some s) ++ drop n ms) × (map (freed s) ms ≡ replicate n None ++ drop n ms)
parted_here s zero ms h = (refl, none_freed s ms (λ q. grind (arith, nat_tests, h q)))
parted_here s (suc n) [] h = absurd (omega (arith, none_inside (suc n) h))
parted_here s (suc n) (None ∷ ms) h = grind (arith, nat_tests, h 0)
parted_here s (suc n) (Some t ∷ ms) h =
    let here : (t == s) ≡ true = grind (arith, nat_tests, h 0) in
    let later = parted_here s n ms (λ q. grind (arith, nat_tests, h (suc q))) in (
      ap (λ x. Some x ∷ ms) (eqb-true t s here) ∙ ap (λ x. Some s ∷ x) later.0,
      ap (λ x. cond x None (Some t) ∷ map (freed s) ms) here ∙ ap (λ x. None ∷ x) later.1,
    )

pub parted : (s start n : ℕ) (ms : List Mark) → (n ≡ 0 → start ≡ 0) → ((q : ℕ) → names s (get_or ms q None) ≡ inside start n q) → Parted s start n ms
parted s zero n ms low h = let e : n ≡ zero + n = omega arith in let here = parted_here s n ms (λ q. grind (arith, nat_tests, h q)) in record { whole = here.0 ∙ ap (λ x. replicate n (Some s) ++ drop x ms) e; without = here.1 ∙ ap (λ x. replicate n None ++ drop x ms) e; front = refl }
parted s (suc start) n [] low h = let none : n ≡ 0 = grind (arith, nat_tests, h (suc start)) in absurd (omega (arith, low none))
parted s (suc start) n (m ∷ ms) low h = of m (h 0) (parted s start n ms (λ e. absurd (omega (arith, low e))) (λ q. grind (arith, nat_tests, h (suc q))))
  where
    of : (x : Mark) → names s x ≡ inside (suc start) n 0 → Parted s start n ms → Parted s (suc start) n (x ∷ ms)
    of None g later = let e : suc (start + n) ≡ suc start + n = omega arith in record {
      whole = ap (λ y. None ∷ y) (later.whole ∙ ap (λ y. take start ms ++ (replicate n (Some s) ++ y)) (ap (λ x. drop x (None ∷ ms)) e));
      without = ap (λ y. None ∷ y) (later.without ∙ ap (λ y. take start ms ++ (replicate n None ++ y)) (ap (λ x. drop x (None ∷ ms)) e));
      front = omega (arith, later.front);
    }
    of (Some t) g later =
        let off : (t == s) ≡ false = grind (arith, nat_tests, g) in
        let e : suc (start + n) ≡ suc start + n = omega arith in
        record {
          whole = ap (λ y. Some t ∷ y) (later.whole ∙ ap (λ y. take start ms ++ (replicate n (Some s) ++ y)) (ap (λ x. drop x (Some t ∷ ms)) e));
          without = ap (λ y. cond y None (Some t) ∷ map (freed s) ms) off ∙ ap (λ y. Some t ∷ y) (later.without ∙ ap (λ y. take start ms ++ (replicate n None ++ y)) (ap (λ x. drop x (Some t ∷ ms)) e));
          front = omega (arith, later.front);
        }

-- ---- free places at the top

pub lowered_low : (p e : ℕ) (hs : List Hole) → Rise p e hs → lowered e hs ≤ e
unfolding Rise lowered
lowered_low p e [] r = omega arith
lowered_low p e (h ∷ hs) r = of (end_of h == e) (lowered_low (end_of h + 1) e hs r.1.1.1)
  where
    of : (t : Bool) → lowered e hs ≤ e → cond t h.start (lowered e hs) ≤ e
    of true later = omega (arith, r.1.1.0)
    of false later = later

trim_all : (p e : ℕ) (hs : List Hole) → [] ≡ below e hs → p + 1 ≡ lowered e hs
    → ([] ≡ below e (joined (hole p 1) hs)) × (p ≡ lowered e (joined (hole p 1) hs))
unfolding below lowered
trim_all p e [] b l = (grind (arith, nat_tests, l), grind (arith, nat_tests, l))
trim_all p e (k ∷ ks) b l = of (end_of k == e) refl b l
  where
    of : (t : Bool) → (end_of k == e) ≡ t → [] ≡ cond t [] (k ∷ below e ks) → p + 1 ≡ cond t k.start (lowered e ks)
        → ([] ≡ below e (joined (hole p 1) (k ∷ ks))) × (p ≡ lowered e (joined (hole p 1) (k ∷ ks)))
    of false g b l = grind (arith, b)
    of true g b l =
        let to : (p + (1 + k.len) == e) ≡ true = eq-eqb (p + (1 + k.len)) e (omega (arith, l, eqb-true (end_of k) e g)) in (
          sym (ap (below e) (touching (hole p 1) k ks l) ∙ ap (λ x. cond x [] (hole p (1 + k.len) ∷ below e ks)) to),
          sym (ap (lowered e) (touching (hole p 1) k ks l) ∙ ap (λ x. cond x p (lowered e ks)) to),
        )

trim_some : (p e : ℕ) (hs : List Hole) → Rise (p + 1) e hs → p + 1 < lowered e hs
    → (joined (hole p 1) (below e hs) ≡ below e (joined (hole p 1) hs)) × (lowered e hs ≡ lowered e (joined (hole p 1) hs))
unfolding Rise below lowered
trim_some p e [] r l = (grind (arith, nat_tests, l), grind (arith, nat_tests, l))
trim_some p e (k ∷ ks) r l = of (end_of k == e) (order (p + 1) k.start) refl l (lowered_low (p + 1) e (k ∷ ks) r)
  where
    of : (t : Bool) → Order (p + 1) k.start → (end_of k == e) ≡ t → p + 1 < cond t k.start (lowered e ks) → cond (end_of k == e) k.start (lowered e ks) ≤ e
        → (joined (hole p 1) (cond t [] (k ∷ below e ks)) ≡ below e (joined (hole p 1) (k ∷ ks))) × (cond t k.start (lowered e ks) ≡ lowered e (joined (hole p 1) (k ∷ ks)))
    of t (more j) g l m = absurd (omega (arith, j, r.0))
    of true (same j) g l m = absurd (omega (arith, j, l))
    of false (same j) g l m =
        let off : (p + (1 + k.len) == e) ≡ false = grind (arith, nat_tests, j, g, eqb-true (p + (1 + k.len)) e, eq-eqb (end_of k) e) in (
          touching (hole p 1) k (below e ks) j ∙ sym (ap (below e) (touching (hole p 1) k ks j) ∙ ap (λ x. cond x [] (hole p (1 + k.len) ∷ below e ks)) off),
          sym (ap (lowered e) (touching (hole p 1) k ks j) ∙ ap (λ x. cond x p (lowered e ks)) off),
        )
    of t (less j) g l m =
        let off : (p + 1 == e) ≡ false = grind (arith, nat_tests, j, r.1.1.0, eqb-true (p + 1) e) in (
          kept t ∙ sym (ap (below e) (loose (hole p 1) k ks j) ∙ (ap (λ x. cond x [] (hole p 1 ∷ below e (k ∷ ks))) off ∙ ap (λ x. hole p 1 ∷ cond x [] (k ∷ below e ks)) g)),
          sym (ap (lowered e) (loose (hole p 1) k ks j) ∙ (ap (λ x. cond x p (lowered e (k ∷ ks))) off ∙ ap (λ x. cond x k.start (lowered e ks)) g)),
        )
      where
        kept : (t : Bool) → joined (hole p 1) (cond t [] (k ∷ below e ks)) ≡ hole p 1 ∷ cond t [] (k ∷ below e ks)
        kept true = refl
        kept false = loose (hole p 1) k (below e ks) j

pub trimmed_holes : (p e : ℕ) (ms : List Mark) → p + length ms ≡ e → (holes_of p (trimmed ms) ≡ below e (holes_of p ms)) × (p + length (trimmed ms) ≡ lowered e (holes_of p ms))
unfolding holes_of trimmed below lowered
trimmed_holes p e [] l = (refl, l)
trimmed_holes p e (Some s ∷ ms) l = let i = trimmed_holes (p + 1) e ms (omega (arith, l)) in (i.0, omega (arith, i.1))
trimmed_holes p e (None ∷ ms) l = of (trimmed ms) (trimmed_holes (p + 1) e ms (omega (arith, l)))
  where
    of : (xs : List Mark) → (holes_of (p + 1) xs ≡ below e (holes_of (p + 1) ms)) × (p + 1 + length xs ≡ lowered e (holes_of (p + 1) ms))
        → (holes_of p (under None xs) ≡ below e (joined (hole p 1) (holes_of (p + 1) ms))) × (p + length (under None xs) ≡ lowered e (joined (hole p 1) (holes_of (p + 1) ms)))
    of [] i = let j = trim_all p e (holes_of (p + 1) ms) i.0 (omega (arith, i.1)) in (j.0, omega (arith, j.1))
    of (x ∷ xs) i = let j = trim_some p e (holes_of (p + 1) ms) (holes_rise (p + 1) e ms (omega (arith, l))) (omega (arith, i.1)) in (ap (joined (hole p 1)) i.0 ∙ j.0, omega (arith, i.1, j.1))

-- ---- all of it

pub length_map : (s : ℕ) (ms : List Mark) → length (map (freed s) ms) ≡ length ms
length_map s [] = refl
length_map s (m ∷ ms) = ap suc (length_map s ms)

pub left_holes : (s start n : ℕ) (ms : List Mark) → 0 < n → ((q : ℕ) → names s (get_or ms q None) ≡ inside start n q)
    → (holes_of 0 (left s ms) ≡ below (length ms) (returned (hole start n) (holes_of 0 ms))) × (length (left s ms) ≡ lowered (length ms) (returned (hole start n) (holes_of 0 ms)))
left_holes s start n ms pos h =
    let parts = parted s start n ms (λ e. absurd (omega (arith, pos, e))) h in
    let cut = trimmed_holes 0 (length ms) (map (freed s) ms) (omega (arith, length_map s ms)) in
    let back : holes_of 0 (map (freed s) ms) ≡ returned (hole start n) (holes_of 0 ms) =
    ap (holes_of 0) parts.without
    ∙ (returned_holes s n 0 start (length ms) (take start ms) (drop (start + n) ms) pos (omega (arith, parts.front)) (omega (arith, ap length parts.whole))
    ∙ ap (λ x. returned (hole start n) (holes_of 0 x)) (sym parts.whole)) in
    (cut.0 ∙ ap (below (length ms)) back, omega (arith, cut.1, ap (lowered (length ms)) back))

used_trimmed : (ms : List Mark) → used (trimmed ms) ≡ used ms
unfolding trimmed
used_trimmed [] = refl
used_trimmed (m ∷ ms) = of m (trimmed ms) (used_trimmed ms)
  where
    of : (x : Mark) (xs : List Mark) → used xs ≡ used ms → used (under x xs) ≡ used (x ∷ ms)
    of None [] e = e
    of None (y ∷ xs) e = e
    of (Some s) xs e = ap (λ x. x + 1) e

pub left_used : (s start n : ℕ) (ms : List Mark) → (n ≡ 0 → start ≡ 0) → ((q : ℕ) → names s (get_or ms q None) ≡ inside start n q) → used (left s ms) + n ≡ used ms
left_used s start n ms low h =
    let parts = parted s start n ms low h in
    let a = take start ms in
    let b = drop (start + n) ms in
    omega (arith, used_trimmed (map (freed s) ms), ap used parts.without, ap used parts.whole, used_append a (replicate n None ++ b), used_append (replicate n None) b, used_free n, used_append a (replicate n (Some s) ++ b), used_append (replicate n (Some s)) b, used_taken s n)

-- ---- the marks, place by place

trimmed_at : (q : ℕ) (ms : List Mark) → get_or (trimmed ms) q None ≡ get_or ms q None
unfolding trimmed
trimmed_at q [] = refl
trimmed_at q (m ∷ ms) = of m (trimmed ms) q (λ k. trimmed_at k ms)
  where
    of : (x : Mark) (xs : List Mark) (q : ℕ) → ((k : ℕ) → get_or xs k None ≡ get_or ms k None) → get_or (under x xs) q None ≡ get_or (x ∷ ms) q None
    of None [] zero e = refl
    of None [] (suc q) e = e q
    of None (y ∷ xs) zero e = refl
    of None (y ∷ xs) (suc q) e = e q
    of (Some s) xs zero e = refl
    of (Some s) xs (suc q) e = e q

freed_at : (s q : ℕ) (ms : List Mark) → get_or (map (freed s) ms) q None ≡ freed s (get_or ms q None)
freed_at s q [] = refl
freed_at s zero (m ∷ ms) = refl
freed_at s (suc q) (m ∷ ms) = freed_at s q ms

pub left_at : (s q : ℕ) (ms : List Mark) → get_or (left s ms) q None ≡ freed s (get_or ms q None)
left_at s q ms = trimmed_at q (map (freed s) ms) ∙ freed_at s q ms

pub names_freed : (s t : ℕ) (m : Mark) → names t (freed s m) ≡ (names t m && not (s == t))
names_freed s t None = refl
names_freed s t (Some u) = grind (arith, nat_tests)
