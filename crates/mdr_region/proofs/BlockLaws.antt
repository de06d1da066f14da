-- Laws of blocks: how many there are, and that they don't overlap.
use Rattle.std.proofs.Common.{◌≡◌, ◌≢◌, ◌<◌, ◌≤◌, ◌+◌, ℕ, zero, suc, Bool, true, false, cond, not, ◌&&◌, List, [], ◌∷◌, ◌++◌, map, length, get_or, drop, replicate, Some, None, refl, sym, ◌∙◌, ap, arith}
use Rattle.std.specs.Prelude.{◌==◌, nat_lt}
use Rattle.std.proofs.lemmas.Bool.{eqb-true, eq-eqb}
use Rattle.std.proofs.lemmas.Bool.Decides.{nat_tests}
use Rattle.mdr_region.specs.declared.holes.Hole.{Hole}
use Rattle.mdr_mem.specs.declared.cells.Life.{Life}
use Rattle.mdr_mem.specs.declared.cells.Life.TheVariants as life
use Rattle.mdr_region.specs.Layout.{Mark, are_free, placed, freed, under, trimmed, left, Laid, after, laid_from, laid}
use Rattle.mdr_region.specs.Holes.{hole, joined, holes_of, names, inside, front}
use Rattle.mdr_region.specs.Blocks.{IsBlock, blocks, AreBelow, ends}
use Rattle.mdr_region.proofs.BirthLaws.{placed_at, front_free}
use Rattle.mdr_region.proofs.DeathLaws.{none_freed, left_at, names_freed}

-- ---- two blocks

names_one : (s t : ℕ) (m : Mark) → names s m ≡ true → names t m ≡ true → s ≡ t
names_one s t None a b = grind (arith, a)
names_one s t (Some u) a b = sym (eqb-true u s a) ∙ eqb-true u t b

pub never_overlap : (marks : List Mark) (s t a b m n place : ℕ) → IsBlock marks s a m → IsBlock marks t b n → inside a m place ≡ true → inside b n place ≡ true → s ≡ t
never_overlap marks s t a b m n place x y i j = names_one s t (get_or marks place None) (x.places place ∙ i) (y.places place ∙ j)

-- ---- a birth

pub below_birth : (births n : ℕ) (marks : List Mark) → AreBelow births marks → AreBelow (births + 1) (placed births n marks)
below_birth births n marks below = λ q t h. of q t (inside (front n marks) n q) (sym (ap (names t) (placed_at births n q marks)) ∙ h) (below q t)
  where
    of : (q t : ℕ) (i : Bool) → names t (cond i (Some births) (get_or marks q None)) ≡ true → (names t (get_or marks q None) ≡ true → t < births) → t < births + 1
    of q t true h old = omega (arith, eqb-true births t h)
    of q t false h old = omega (arith, old h)

front_none : (marks : List Mark) → front 0 marks ≡ 0
unfolding front are_free
front_none [] = refl
front_none (m ∷ marks) = refl

pub block_born : (births n : ℕ) (marks : List Mark) → AreBelow births marks → IsBlock (placed births n marks) births (front n marks) n
block_born births n marks below = record { none = λ e. ap (λ x. front x marks) e ∙ front_none marks; places = λ q. ap (names births) (placed_at births n q marks) ∙ of q (inside (front n marks) n q) (names births (get_or marks q None)) refl (below q births) }
  where
    of : (q : ℕ) (i b : Bool) → names births (get_or marks q None) ≡ b → (names births (get_or marks q None) ≡ true → births < births) → names births (cond i (Some births) (get_or marks q None)) ≡ i
    of q true b e no_one = eq-eqb births births refl
    of q false false e no_one = e
    of q false true e no_one = absurd (omega (arith, no_one e))

pub block_stays : (births n s start cells : ℕ) (marks : List Mark) → s < births → IsBlock marks s start cells → IsBlock (placed births n marks) s start cells
block_stays births n s start cells marks old b = record { none = b.none; places = λ q. ap (names s) (placed_at births n q marks) ∙ (of q (inside (front n marks) n q) (front_free n q marks) ∙ b.places q) }
  where
    of : (q : ℕ) (i : Bool) → (i ≡ true → get_or marks q None ≡ None) → names s (cond i (Some births) (get_or marks q None)) ≡ names s (get_or marks q None)
    of q false free = refl
    of q true free = grind (arith, nat_tests, old, free refl, eqb-true births s)

-- ---- a death

pub below_death : (births s : ℕ) (marks : List Mark) → AreBelow births marks → AreBelow births (left s marks)
below_death births s marks below = λ q t h. below q t (of t (names t (get_or marks q None)) (sym (ap (names t) (left_at s q marks) ∙ names_freed s t (get_or marks q None)) ∙ h))
  where
    of : (t : ℕ) (b : Bool) → (b && not (s == t)) ≡ true → b ≡ true
    of t true h = refl
    of t false h = h

pub block_left : (s t start cells : ℕ) (marks : List Mark) → s ≢ t → IsBlock marks t start cells → IsBlock (left s marks) t start cells
block_left s t start cells marks other b = record { none = b.none; places = λ q. ap (names t) (left_at s q marks) ∙ (names_freed s t (get_or marks q None) ∙ (of (names t (get_or marks q None)) (s == t) refl ∙ b.places q)) }
  where
    of : (b u : Bool) → (s == t) ≡ u → (b && not u) ≡ b
    of true true e = absurd (other (eqb-true s t e))
    of true false e = refl
    of false u e = refl

-- ---- how many there are

blocks_taken : (s n : ℕ) (marks : List Mark) → blocks (Some s) (replicate n (Some s) ++ marks) ≡ blocks (Some s) marks
unfolding blocks
blocks_taken s zero marks = refl
blocks_taken s (suc n) marks = ap (λ x. cond x 0 1 + blocks (Some s) (replicate n (Some s) ++ marks)) (eq-eqb s s refl) ∙ omega (arith, blocks_taken s n marks)

-- a mark that isn't the first one's
blocks_new : (s : ℕ) (marks : List Mark) → names s (get_or marks 0 None) ≡ false → blocks (Some s) marks ≡ blocks None marks
unfolding blocks
blocks_new s [] h = refl
blocks_new s (None ∷ marks) h = refl
blocks_new s (Some t ∷ marks) h =
    let off : (s == t) ≡ false = grind (arith, nat_tests, h) in
    ap (λ x. cond x 0 1 + blocks (Some t) marks) off

blocks_free : (n : ℕ) (m : Mark) (marks : List Mark) → are_free n marks ≡ true → 0 < n → blocks m marks ≡ blocks None (drop n marks)
unfolding blocks are_free
blocks_free zero m marks h l = absurd (omega (arith, l))
blocks_free (suc n) m [] h l = grind (arith, h)
blocks_free (suc n) m (Some s ∷ marks) h l = grind (arith, h)
blocks_free (suc zero) m (None ∷ marks) h l = refl
blocks_free (suc (suc n)) m (None ∷ marks) h l = blocks_free (suc n) None marks h (omega arith)

no_more : (s n : ℕ) (marks : List Mark) → ((q : ℕ) → names s (get_or marks q None) ≡ false) → (q : ℕ) → names s (get_or (drop n marks) q None) ≡ false
no_more s zero marks h q = h q
no_more s (suc n) [] h q = refl
no_more s (suc n) (m ∷ marks) h q = no_more s n marks (λ k. h (suc k)) q

pub blocks_birth : (s n : ℕ) (m : Mark) (marks : List Mark) → 0 < n → names s m ≡ false → ((q : ℕ) → names s (get_or marks q None) ≡ false) → blocks m (placed s n marks) ≡ blocks m marks + 1
unfolding blocks placed
blocks_birth s zero m marks pos e h = absurd (omega (arith, pos))
blocks_birth s (suc n) m [] pos e h = begins m e (replicate n (Some s)) ∙ ap (λ x. 1 + x) (all n)
  where
    begins : (m : Mark) → names s m ≡ false → (xs : List Mark) → cond (names s m) 0 1 + blocks (Some s) xs ≡ 1 + blocks (Some s) xs
    begins m e xs = ap (λ x. cond x 0 1 + blocks (Some s) xs) e

    all : (n : ℕ) → blocks (Some s) (replicate n (Some s)) ≡ 0
    all zero = refl
    all (suc n) = ap (λ x. cond x 0 1 + blocks (Some s) (replicate n (Some s))) (eq-eqb s s refl) ∙ omega (arith, all n)
blocks_birth s (suc n) m (k ∷ marks) pos e h = of k (are_free (suc n) (k ∷ marks)) refl h (λ x f. blocks_birth s (suc n) x marks pos f (λ q. h (suc q)))
  where
    of : (k : Mark) (t : Bool) → are_free (suc n) (k ∷ marks) ≡ t → ((q : ℕ) → names s (get_or (k ∷ marks) q None) ≡ false)
        → ((x : Mark) → names s x ≡ false → blocks x (placed s (suc n) marks) ≡ blocks x marks + 1)
        → blocks m (cond t (replicate (suc n) (Some s) ++ drop (suc n) (k ∷ marks)) (k ∷ placed s (suc n) marks)) ≡ blocks m (k ∷ marks) + 1
    of k true f h rec =
        ap (λ x. cond x 0 1 + blocks (Some s) (replicate n (Some s) ++ drop (suc n) (k ∷ marks))) e
        ∙ omega (arith, blocks_taken s n (drop (suc n) (k ∷ marks)), blocks_new s (drop (suc n) (k ∷ marks)) (no_more s (suc n) (k ∷ marks) h 0), blocks_free (suc n) m (k ∷ marks) f (omega arith))
    of None false f h rec = rec None refl
    of (Some t) false f h rec = omega (arith, rec (Some t) (h 0))

blocks_trimmed : (m : Mark) (marks : List Mark) → blocks m (trimmed marks) ≡ blocks m marks
unfolding blocks trimmed
blocks_trimmed m [] = refl
blocks_trimmed m (Some s ∷ marks) = ap (λ x. cond (names s m) 0 1 + x) (blocks_trimmed (Some s) marks)
blocks_trimmed m (None ∷ marks) = of (trimmed marks) (blocks_trimmed None marks)
  where
    of : (xs : List Mark) → blocks None xs ≡ blocks None marks → blocks m (under None xs) ≡ blocks None marks
    of [] e = e
    of (x ∷ xs) e = e

-- in the block, and behind it
blocks_in : (s n : ℕ) (marks : List Mark) → ((q : ℕ) → names s (get_or marks q None) ≡ nat_lt q n) → blocks None (map (freed s) marks) ≡ blocks (Some s) marks
unfolding blocks
blocks_in s zero marks h = ap (blocks None) (none_freed s marks (λ q. grind (arith, nat_tests, h q))) ∙ sym (blocks_new s marks (grind (arith, nat_tests, h 0)))
blocks_in s (suc n) [] h = refl
blocks_in s (suc n) (None ∷ marks) h = grind (arith, nat_tests, h 0)
blocks_in s (suc n) (Some t ∷ marks) h =
    let same : (t == s) ≡ true = grind (arith, nat_tests, h 0) in
    let back : (s == t) ≡ true = eq-eqb s t (sym (eqb-true t s same)) in
    let later = blocks_in s n marks (λ q. grind (arith, nat_tests, h (suc q))) in
    ap (λ x. blocks None (cond x None (Some t) ∷ map (freed s) marks)) same ∙ (later ∙ (ap (λ x. blocks (Some x) marks) (sym (eqb-true t s same)) ∙ omega (arith, ap {B = ℕ} (λ x. cond x 0 1) back)))

blocks_freed : (s start n : ℕ) (m : Mark) (marks : List Mark) → 0 < n → names s m ≡ false → ((q : ℕ) → names s (get_or marks q None) ≡ inside start n q) → blocks m (map (freed s) marks) + 1 ≡ blocks m marks
unfolding blocks
blocks_freed s start n m [] pos e h = grind (arith, nat_tests, h start)
blocks_freed s zero zero m (k ∷ marks) pos e h = absurd (omega (arith, pos))
blocks_freed s zero (suc n) m (None ∷ marks) pos e h = grind (arith, nat_tests, h 0)
blocks_freed s zero (suc n) m (Some t ∷ marks) pos e h =
    let same : (t == s) ≡ true = grind (arith, nat_tests, h 0) in
    let new : names t m ≡ false = ap (λ x. names x m) (eqb-true t s same) ∙ e in
    let later = blocks_in s n marks (λ q. grind (arith, nat_tests, h (suc q))) in
    omega (arith, ap (λ x. blocks m (cond x None (Some t) ∷ map (freed s) marks)) same, later, ap (λ x. blocks (Some x) marks) (eqb-true t s same), ap {B = ℕ} (λ x. cond x 0 1) new)
blocks_freed s (suc start) n m (None ∷ marks) pos e h = blocks_freed s start n None marks pos refl (λ q. grind (arith, nat_tests, h (suc q)))
blocks_freed s (suc start) n m (Some t ∷ marks) pos e h =
    let off : (t == s) ≡ false = grind (arith, nat_tests, h 0) in
    omega (arith, ap (λ x. blocks m (cond x None (Some t) ∷ map (freed s) marks)) off, blocks_freed s start n (Some t) marks pos off (λ q. grind (arith, nat_tests, h (suc q))))

pub blocks_death : (s start n : ℕ) (marks : List Mark) → 0 < n → IsBlock marks s start n → blocks None (left s marks) + 1 ≡ blocks None marks
blocks_death s start n marks some b = omega (arith, blocks_trimmed None (map (freed s) marks), blocks_freed s start n None marks some refl b.places)

pub blocks_without : (s start n : ℕ) (marks : List Mark) → 0 < n → IsBlock marks s start n → blocks None (map (freed s) marks) + 1 ≡ blocks None marks
blocks_without s start n marks some b = blocks_freed s start n None marks some refl b.places

-- ---- how many holes there are

joined_length : (p : ℕ) (hs : List Hole) → length (joined (hole p 1) hs) ≤ length hs + 1
joined_length p [] = omega arith
joined_length p (k ∷ ks) = of (p + 1 == k.start)
  where
    of : (t : Bool) → length (cond t (hole p (1 + k.len) ∷ ks) (hole p 1 ∷ k ∷ ks)) ≤ length (k ∷ ks) + 1
    of true = omega arith
    of false = omega arith

joined_twice : (p a : ℕ) (hs : List Hole) → length (joined (hole p a) (joined (hole (p + a) 1) hs)) ≡ length (joined (hole (p + a) 1) hs)
joined_twice p a [] = grind (arith, nat_tests)
joined_twice p a (k ∷ ks) = of (p + a + 1 == k.start)
  where
    of : (t : Bool) → length (joined (hole p a) (cond t (hole (p + a) (1 + k.len) ∷ ks) (hole (p + a) 1 ∷ k ∷ ks))) ≡ length (cond t (hole (p + a) (1 + k.len) ∷ ks) (hole (p + a) 1 ∷ k ∷ ks))
    of true = grind (arith, nat_tests)
    of false = grind (arith, nat_tests)

-- one more than the blocks at most, and not more where the last place is taken
pub most_holes : (p : ℕ) (m : Mark) (marks : List Mark) → length (holes_of p marks) ≤ blocks m marks + cond (ends m marks) 0 1
unfolding holes_of blocks ends
most_holes p m [] = omega arith
most_holes p m (Some s ∷ marks) = omega (arith, most_holes (p + 1) (Some s) marks)
most_holes p m (None ∷ []) = omega arith
most_holes p m (None ∷ (None ∷ marks)) = omega (arith, most_holes (p + 1) None (None ∷ marks), joined_twice p 1 (holes_of (p + 1 + 1) marks))
most_holes p m (None ∷ (Some t ∷ marks)) = omega (arith, most_holes (p + 1 + 1) (Some t) marks, joined_length p (holes_of (p + 1 + 1) marks))

ends_run : (s n : ℕ) (m : Mark) (ys : List Mark) → (n ≡ 0 → ends m ys ≡ true) → ends (Some s) ys ≡ true → ends m (replicate n (Some s) ++ ys) ≡ true
unfolding ends
ends_run s zero m ys a b = a refl
ends_run s (suc n) m ys a b = ends_run s n (Some s) ys (λ e. b) b

ends_all : (s n : ℕ) (m : Mark) → ends m [] ≡ true → ends m (replicate n (Some s)) ≡ true
unfolding ends
ends_all s zero m h = h
ends_all s (suc n) m h = ends_all s n (Some s) refl

ends_drop : (s n : ℕ) (m : Mark) (xs : List Mark) → ends m xs ≡ true → ends (Some s) (drop n xs) ≡ true
unfolding ends
ends_drop s zero m [] h = refl
ends_drop s zero m (k ∷ xs) h = h
ends_drop s (suc n) m [] h = refl
ends_drop s (suc n) m (k ∷ xs) h = ends_drop s n k xs h

ends_birth : (s n : ℕ) (m : Mark) (marks : List Mark) → ends m marks ≡ true → ends m (placed s n marks) ≡ true
unfolding ends placed
ends_birth s n m [] h = ends_all s n m h
ends_birth s n m (k ∷ marks) h = of n (are_free n (k ∷ marks)) (ends_birth s n k marks h)
  where
    whole : (n : ℕ) → n ≡ 0 → ends m (drop n (k ∷ marks)) ≡ true
    whole zero e = h
    whole (suc n) e = absurd (omega (arith, e))

    of : (n : ℕ) (t : Bool) → ends k (placed s n marks) ≡ true → ends m (cond t (replicate n (Some s) ++ drop n (k ∷ marks)) (k ∷ placed s n marks)) ≡ true
    of n true later = ends_run s n m (drop n (k ∷ marks)) (whole n) (ends_drop s n m (k ∷ marks) h)
    of n false later = later

ends_trimmed : (s : ℕ) (marks : List Mark) → ends (Some s) (trimmed marks) ≡ true
unfolding ends trimmed
ends_trimmed s [] = refl
ends_trimmed s (Some t ∷ marks) = ends_trimmed t marks
ends_trimmed s (None ∷ marks) = of (trimmed marks) (ends_trimmed s marks)
  where
    of : (xs : List Mark) → ends (Some s) xs ≡ true → ends (Some s) (under None xs) ≡ true
    of [] e = refl
    of (x ∷ xs) e = e

ends_laid : (s : Laid) (lives : List Life) → ends (Some 0) s.marks ≡ true → ends (Some 0) (laid_from s lives).marks ≡ true
unfolding laid_from
ends_laid s [] h = h
ends_laid s (life.Birth n ∷ lives) h = ends_laid (after s (life.Birth n)) lives (ends_birth s.births n (Some 0) s.marks h)
ends_laid s (life.Death serial ∷ lives) h = ends_laid (after s (life.Death serial)) lives (ends_trimmed 0 (map (freed serial) s.marks))

tight : (marks : List Mark) → ends (Some 0) marks ≡ true → length (holes_of 0 marks) ≤ blocks None marks + cond (ends None marks) 0 1 → length (holes_of 0 marks) ≤ blocks None marks
unfolding ends holes_of
tight [] h m = omega arith
tight (k ∷ marks) h m = omega (arith, m, ap {B = ℕ} (λ x. cond x 0 1) h)

nothing : ends (Some 0) [] ≡ true
unfolding ends
nothing = refl

pub fewer_holes : (lives : List Life) → length (holes_of 0 (laid lives).marks) ≤ blocks None (laid lives).marks
fewer_holes lives = tight (laid lives).marks (ends_laid (record { births = 0; marks = [] }) lives nothing) (most_holes 0 None (laid lives).marks)

-- ---- a death of what isn't there

trimmed_same : (s : ℕ) (marks : List Mark) → ends (Some s) marks ≡ true → trimmed marks ≡ marks
unfolding ends trimmed
trimmed_same s [] h = refl
trimmed_same s (Some t ∷ marks) h = ap (λ x. Some t ∷ x) (trimmed_same t marks h)
trimmed_same s (None ∷ []) h = grind (arith, h)
trimmed_same s (None ∷ (k ∷ marks)) h = ap (under None) (trimmed_same s (k ∷ marks) h)

pub left_same : (s : ℕ) (lives : List Life) → ((q : ℕ) → names s (get_or (laid lives).marks q None) ≡ false) → left s (laid lives).marks ≡ (laid lives).marks
left_same s lives h = ap trimmed (none_freed s (laid lives).marks h) ∙ trimmed_same 0 (laid lives).marks (ends_laid (record { births = 0; marks = [] }) lives nothing)
