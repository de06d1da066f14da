-- Laws of cells in one list.
use Rattle.std.proofs.Common.{◌≡◌, ◌<◌, ◌≤◌, ◌+◌, ℕ, zero, suc, Bool, true, false, cond, List, replicate, [], ◌∷◌, ◌++◌, length, take, drop, Option, Some, None, refl, sym, ◌∙◌, ap, arith, ◌⊎◌, inl, inr, set, ◌-◌, ◌≢◌}
use Rattle.std.specs.Prelude.{is_some, nat_le}
use Rattle.std.proofs.lemmas.Bool.Decides.{nat_tests}
use Rattle.std.proofs.lemmas.List.{length-replicate, length-append, length-take, length-drop, take_all, drop_all, take_at, take-append-drop, append-nil, drop-set-add, take-set-le, drop-set-lt}
use Rattle.mdr_core.specs.declared.value.Value.{Value}
use Rattle.mdr_region.specs.Layout.{Mark, are_free, placed, left}
use Rattle.mdr_region.specs.Holes.{risen, front, inside}
use Rattle.mdr_region.specs.Blocks.{IsBlock, AreBelow}
use Rattle.mdr_region.specs.Laws.{CellsStay}
use Rattle.mdr_region.proofs.DeathLaws.{parted}
use Rattle.mdr_region.proofs.BlockLaws.{never_overlap, block_born, block_stays}
use Rattle.mdr_region.specs.Cells.{cells_of, written}

pub risen_none : (n : ℕ) (x : Option ℕ) → is_some x ≡ true → risen n x ≡ 0
risen_none n None h = grind (arith, h)
risen_none n (Some s) h = refl

pub risen_all : (n : ℕ) (x : Option ℕ) → is_some x ≡ false → risen n x ≡ n
risen_all n None h = refl
risen_all n (Some s) h = grind (arith, h)

pub length_written : (start : ℕ) (first values : List Value) → start + length first ≤ length values → length (written start first values) ≡ length values
length_written start first values l = omega (arith, length-append (take start values) (first ++ drop (start + length first) values), length-append first (drop (start + length first) values), length-take start values, length-drop (start + length first) values)

pub written_end : (start : ℕ) (first values : List Value) → start ≡ length values → values ++ first ≡ written start first values
written_end start first values e =
    let all : length values ≤ start = omega (arith, e) in
    let past : length values ≤ start + length first = omega (arith, e) in
    sym (ap (λ x. x ++ (first ++ drop (start + length first) values)) (take_all start values all) ∙ (ap (λ x. values ++ (first ++ x)) (drop_all (start + length first) values past) ∙ ap (λ x. values ++ x) (append-nil first)))

-- the block's own cells, and those of a block before or behind it
pub written_own : (start : ℕ) (first values : List Value) → start ≤ length values → cells_of start (length first) (written start first values) ≡ first
written_own zero first values l = take_at first (drop (0 + length first) values) (length first) refl
written_own (suc start) first [] l = absurd (omega (arith, l))
written_own (suc start) first (v ∷ values) l =
    let e : suc start + length first ≡ suc (start + length first) = omega arith in
    ap (λ x. cells_of (suc start) (length first) (take (suc start) (v ∷ values) ++ (first ++ drop x (v ∷ values)))) e ∙ written_own start first values (omega (arith, l))

take_first_part : (n : ℕ) (xs ys : List Value) → n ≤ length xs → take n (xs ++ ys) ≡ take n xs
take_first_part zero xs ys l = refl
take_first_part (suc n) [] ys l = absurd (omega (arith, l))
take_first_part (suc n) (x ∷ xs) ys l = ap (λ z. x ∷ z) (take_first_part n xs ys (omega (arith, l)))

pub written_before : (a m start : ℕ) (first values : List Value) → a + m ≤ start → start ≤ length values → cells_of a m (written start first values) ≡ cells_of a m values
written_before zero m start first values l h = take_first_part m (take start values) (first ++ drop (start + length first) values) (omega (arith, length-take start values, l, h)) ∙ front m start values (omega (arith, l))
  where
    front : (m start : ℕ) (values : List Value) → m ≤ start → take m (take start values) ≡ take m values
    front zero start values l = refl
    front (suc m) zero values l = absurd (omega (arith, l))
    front (suc m) (suc start) [] l = refl
    front (suc m) (suc start) (v ∷ values) l = ap (λ z. v ∷ z) (front m start values (omega (arith, l)))
written_before (suc a) m zero first values l h = absurd (omega (arith, l))
written_before (suc a) m (suc start) first [] l h = absurd (omega (arith, h))
written_before (suc a) m (suc start) first (v ∷ values) l h =
    let e : suc start + length first ≡ suc (start + length first) = omega arith in
    ap (λ x. cells_of (suc a) m (take (suc start) (v ∷ values) ++ (first ++ drop x (v ∷ values)))) e ∙ written_before a m start first values (omega (arith, l)) (omega (arith, h))

nothing : (n : ℕ) → ◌≡◌ {A = List Value} (drop n []) []
nothing zero = refl
nothing (suc n) = refl

pub written_behind : (a m start : ℕ) (first values : List Value) → start + length first ≤ a → start ≤ length values → cells_of a m (written start first values) ≡ cells_of a m values
written_behind a m zero first values l h = ap (take m) (past a first values (omega (arith, l)))
  where
    past : (a : ℕ) (first values : List Value) → length first ≤ a → drop a (first ++ drop (0 + length first) values) ≡ drop a values
    past a [] values l = refl
    past zero (x ∷ first) values l = absurd (omega (arith, l))
    past (suc a) (x ∷ first) [] l = ap (λ z. drop a (first ++ z)) (nothing (0 + suc (length first))) ∙ (ap (λ z. drop a z) (append-nil first) ∙ drop_all a first (omega (arith, l)))
    past (suc a) (x ∷ first) (v ∷ values) l = let e : 0 + suc (length first) ≡ suc (0 + length first) = omega arith in ap (λ z. drop a (first ++ drop z (v ∷ values))) e ∙ past a first values (omega (arith, l))
written_behind zero m (suc start) first values l h = absurd (omega (arith, l))
written_behind (suc a) m (suc start) first [] l h = absurd (omega (arith, h))
written_behind (suc a) m (suc start) first (v ∷ values) l h =
    let e : suc start + length first ≡ suc (start + length first) = omega arith in
    ap (λ x. cells_of (suc a) m (take (suc start) (v ∷ values) ++ (first ++ drop x (v ∷ values)))) e ∙ written_behind a m start first values (omega (arith, l)) (omega (arith, h))

-- those of a block below the top
pub cells_below : (a m top : ℕ) (values : List Value) → a + m ≤ top → cells_of a m (take top values) ≡ cells_of a m values
cells_below zero m top values l = front m top values (omega (arith, l))
  where
    front : (m start : ℕ) (values : List Value) → m ≤ start → take m (take start values) ≡ take m values
    front zero start values l = refl
    front (suc m) zero values l = absurd (omega (arith, l))
    front (suc m) (suc start) [] l = refl
    front (suc m) (suc start) (v ∷ values) l = ap (λ z. v ∷ z) (front m start values (omega (arith, l)))
cells_below (suc a) m zero values l = absurd (omega (arith, l))
cells_below (suc a) m (suc top) [] l = refl
cells_below (suc a) m (suc top) (v ∷ values) l = cells_below a m top values (omega (arith, l))

-- ---- blocks

disjoint : (a m b n : ℕ) → 0 < m → 0 < n → ((q : ℕ) → inside a m q ≡ true → inside b n q ≡ true → ⊥) → (a + m ≤ b) ⊎ (b + n ≤ a)
disjoint a m b n some more apart = of (nat_le (a + m) b) (nat_le (b + n) a) (nat_le a b) refl refl refl
  where
    of : (t u w : Bool) → nat_le (a + m) b ≡ t → nat_le (b + n) a ≡ u → nat_le a b ≡ w → (a + m ≤ b) ⊎ (b + n ≤ a)
    of true u w e f g = inl (grind (arith, nat_tests, e))
    of false true w e f g = inr (grind (arith, nat_tests, f))
    of false false true e f g = absurd (apart b (grind (arith, nat_tests, e, g)) (grind (arith, nat_tests, more)))
    of false false false e f g = absurd (apart a (grind (arith, nat_tests, some)) (grind (arith, nat_tests, f, g)))

pub front_low : (n : ℕ) (marks : List Mark) → front n marks ≤ length marks
unfolding front
front_low n [] = omega arith
front_low n (m ∷ marks) = of (are_free n (m ∷ marks)) (front_low n marks)
  where
    of : (t : Bool) → front n marks ≤ length marks → cond t 0 (suc (front n marks)) ≤ length (m ∷ marks)
    of true l = omega arith
    of false l = omega (arith, l)

pub block_inside : (marks : List Mark) (serial start cells : ℕ) → IsBlock marks serial start cells → start + cells ≤ length marks
block_inside marks serial start cells b =
    let parts = parted serial start cells marks b.none b.places in
    omega (arith, ap length parts.whole, length-append (take start marks) (replicate cells (Some serial) ++ drop (start + cells) marks), length-append (replicate cells (Some serial)) (drop (start + cells) marks), length-replicate cells (Some serial), parts.front)

-- ---- a store

take_set : (n cell : ℕ) (v : Value) (xs : List Value) → take n (set xs cell v) ≡ set (take n xs) cell v
take_set zero cell v xs = refl
take_set (suc n) cell v [] = refl
take_set (suc n) zero v (x ∷ xs) = refl
take_set (suc n) (suc cell) v (x ∷ xs) = ap (λ z. x ∷ z) (take_set n cell v xs)

pub stored_own : (start cell n : ℕ) (v : Value) (values : List Value) → cells_of start n (set values (start + cell) v) ≡ set (cells_of start n values) cell v
stored_own start cell n v values = ap (take n) (drop-set-add start values cell v) ∙ take_set n cell v (drop start values)

stored_before : (a m place : ℕ) (v : Value) (values : List Value) → a + m ≤ place → cells_of a m (set values place v) ≡ cells_of a m values
stored_before a m place v values l =
    let k = place - a in
    let e : a + k ≡ place = omega (arith, l) in
    ap (λ x. cells_of a m (set values x v)) (sym e) ∙ (ap (take m) (drop-set-add a values k v) ∙ take-set-le m (drop a values) k v (omega (arith, l)))

stored_behind : (a m place : ℕ) (v : Value) (values : List Value) → place < a → cells_of a m (set values place v) ≡ cells_of a m values
stored_behind a m place v values l = ap (take m) (drop-set-lt a values place v l)

pub stored_other : (marks : List Mark) (s t a m b n cell : ℕ) (v : Value) (values : List Value) → s ≢ t → IsBlock marks s a m → IsBlock marks t b n → cell < n → cells_of a m (set values (b + cell) v) ≡ cells_of a m values
stored_other marks s t a zero b n cell v values other x y l = refl
stored_other marks s t a (suc m) b n cell v values other x y l = of (disjoint a (suc m) b n (omega arith) (omega (arith, l)) (λ q i j. other (never_overlap marks s t a b (suc m) n q x y i j)))
  where
    of : (a + suc m ≤ b) ⊎ (b + n ≤ a) → cells_of a (suc m) (set values (b + cell) v) ≡ cells_of a (suc m) values
    of (inl h) = stored_before a (suc m) (b + cell) v values (omega (arith, h))
    of (inr h) = stored_behind a (suc m) (b + cell) v values (omega (arith, h, l))

-- where nothing is written all stays
pub written_none : (start : ℕ) (values : List Value) → written start [] values ≡ values
written_none start values = ap (λ x. take start values ++ drop x values) e ∙ take-append-drop start values
  where
    e : start + 0 ≡ start
    e = omega arith

born_other : (births serial start cells : ℕ) (marks : List Mark) (first values : List Value) → length values ≡ length marks → AreBelow births marks → serial < births → IsBlock marks serial start cells
    → cells_of start cells (written (front (length first) marks) first values) ≡ cells_of start cells values
born_other births serial start zero marks first values size below old b = refl
born_other births serial start (suc cells) marks [] values size below old b = ap (cells_of start (suc cells)) (written_none (front 0 marks) values)
born_other births serial start (suc cells) marks (v ∷ first) values size below old b =
    apart (disjoint start (suc cells) (front n marks) n (omega arith) (omega arith) (λ q i j. clash (never_overlap (placed births n marks) serial births start (front n marks) (suc cells) n q (block_stays births n serial start (suc cells) marks old b) (block_born births n marks below) i j)))
  where
    n : ℕ
    n = length (v ∷ first)

    clash : serial ≡ births → ⊥
    clash e = omega (arith, e, old)

    apart : (start + suc cells ≤ front n marks) ⊎ (front n marks + n ≤ start) → cells_of start (suc cells) (written (front n marks) (v ∷ first) values) ≡ cells_of start (suc cells) values
    apart (inl l) = written_before start (suc cells) (front n marks) (v ∷ first) values l (omega (arith, front_low n marks, size))
    apart (inr l) = written_behind start (suc cells) (front n marks) (v ∷ first) values l (omega (arith, front_low n marks, size))

pub cells_stay : CellsStay
cells_stay = record {
  stored = stored_own;
  other = stored_other;
  own = written_own;
  birth = born_other;
  death = λ dead serial start cells marks values b. cells_below start cells (length (left dead marks)) values (block_inside (left dead marks) serial start cells b);
}
