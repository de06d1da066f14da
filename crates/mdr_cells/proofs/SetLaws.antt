-- Names of cells, in their order and as members.
use Rattle.std.proofs.Common.{◌≡◌, ℕ, zero, suc, ◌+◌, ◌<◌, ◌≤◌, Bool, true, false, List, [], ◌∷◌, ◌++◌, length, refl, sym, ◌∙◌, ap, subst, arith, le_refl, ◌⊎◌, inl, inr, Ok, Err}
use Rattle.std.specs.Prelude.{map, ◌==◌, nat_eq, slice_index_or, ◌&&◌, if◌then◌else◌}
use Rattle.std.specs.Cmp.{IsEquivalence, IsTotalOrder}
use Rattle.std.specs.List.{AllByRecursion, Contains, dedup}
use Rattle.std.specs.List.Sorted.{IsBinarySearchResult, IsPartitionPoint, IsPermutation, IsSorted, IsStrictlySortedBy}
use Rattle.std.specs.Ordering.{eq_by_cmp, nat_cmp, ordering_then, ordering_index}
use Rattle.std.specs.declared.cmp.Ordering.{Ordering}
use Rattle.std.specs.declared.cmp.Ordering.TheVariants.{Less, Equal, Greater}
use Rattle.std.proofs.lemmas.Bool.{cases_lt}
use Rattle.std.proofs.lemmas.Bool.Decides.{nat_tests}
use Rattle.std.proofs.lemmas.Cmp.{nat_cmp_total, on_total, then_total}
use Rattle.std.proofs.lemmas.List.Kept.{Contains-dedup, Contains-from_dedup, IsStrictlySortedBy-dedup}
use Rattle.std.proofs.lemmas.List.Sorted.{Contains-permutation, IsPermutation-sym}
use Rattle.mdr_cells.specs.declared.name.CellName.{CellName}
use Rattle.mdr_cells.specs.Names.{AreBefore, cell_of, named}
use Rattle.mdr_extents.specs.CellOrder.{IsBefore, cells}
use Rattle.mdr_extents.proofs.CellLists.{rises_append}
use Rattle.mdr_model.specs.declared.memory.Cell.{Cell}
use Rattle.mdr_paths.specs.Paths.{Rises, is_in}
use Rattle.mdr_paths.proofs.NodeLists.{is_in-cases, is_in-head, is_in-tail, none_in}

abbrev pub name_cmp : CellName → CellName → Ordering
name_cmp a b = ordering_then (nat_cmp a.serial b.serial) (nat_cmp a.index b.index)

abbrev pub name_eq : CellName → CellName → Bool
name_eq a b = a.serial == b.serial && a.index == b.index

pub total : IsTotalOrder name_cmp
total = then_total (on_total (λ (a : CellName). a.serial) nat_cmp_total) (on_total (λ (a : CellName). a.index) nat_cmp_total)

-- the name of a cell
abbrev pub name_of : Cell → CellName
name_of c = record { serial = c.serial; index = c.index }

-- ---- order

less_is : (a b : CellName) → name_cmp a b ≡ Less → IsBefore (cell_of a) (cell_of b)
less_is a b e = grind (arith, nat_tests)

pub rises : (xs : List CellName) → IsStrictlySortedBy name_cmp xs → Rises cells (named xs)
unfolding IsStrictlySortedBy
rises [] h = tt
rises (x ∷ xs) h = (above xs h.0, rises xs h.1)
  where
    above : (ys : List CellName) → AllByRecursion (λ y. name_cmp x y ≡ Less) ys → (d : Cell) → is_in cells (named ys) d ≡ true → IsBefore (cell_of x) d
    above [] h d j = absurd (none_in cells d j)
    above (y ∷ ys) h d j = of (is_in-cases cells (cell_of y) (named ys) d j) (above ys h.1 d)
      where
        of : (d ≡ cell_of y) ⊎ (is_in cells (named ys) d ≡ true) → (is_in cells (named ys) d ≡ true → IsBefore (cell_of x) d) → IsBefore (cell_of x) d
        of (inl e) later = subst (IsBefore (cell_of x)) (sym e) (less_is x y h.0)
        of (inr k) later = later k

-- ---- members

pub has_at : (xs : List CellName) (k : ℕ) (x : CellName) → k < length xs → slice_index_or xs k x ≡ x → is_in cells (named xs) (cell_of x) ≡ true
has_at [] k x h e = absurd (omega (arith, h))
has_at (y ∷ xs) zero x h e = subst (λ z. is_in cells (named (y ∷ xs)) (cell_of z) ≡ true) e (is_in-head cells (cell_of y) (named xs))
has_at (y ∷ xs) (suc k) x h e = is_in-tail cells (cell_of y) (named xs) (cell_of x) (has_at xs k x (omega (arith, h)) e)

pub has : (xs : List CellName) (x : CellName) → Contains xs x → is_in cells (named xs) (cell_of x) ≡ true
has xs x (k, h, e) = has_at xs k x h e

pub contains : (xs : List CellName) (c : Cell) → is_in cells (named xs) c ≡ true → Contains xs (name_of c)
contains [] c h = absurd (none_in cells c h)
contains (x ∷ xs) c h = of (is_in-cases cells (cell_of x) (named xs) c h) (contains xs c)
  where
    of : (c ≡ cell_of x) ⊎ (is_in cells (named xs) c ≡ true) → (is_in cells (named xs) c ≡ true → Contains xs (name_of c)) → Contains (x ∷ xs) (name_of c)
    of (inl e) later = (0, omega arith, sym (ap name_of e))
    of (inr k) later = let f = later k in (suc f.0, (let g = f.1 in omega (arith, g)), f.2)

same_bool : (a b : Bool) → (a ≡ true → b ≡ true) → (b ≡ true → a ≡ true) → a ≡ b
same_bool true b f g = sym (f refl)
same_bool false true f g = g refl
same_bool false false f g = refl

pub same_members : (xs ys : List CellName) → ((x : CellName) → Contains xs x → Contains ys x) → ((x : CellName) → Contains ys x → Contains xs x) → (c : Cell) → is_in cells (named ys) c ≡ is_in cells (named xs) c
same_members xs ys f g c = same_bool _ _ (λ h. has xs (name_of c) (g (name_of c) (contains ys c h))) (λ h. has ys (name_of c) (f (name_of c) (contains xs c h)))

-- ---- a binary search

no_cell : (xs : List CellName) (x : CellName) → ((k : ℕ) → k < length xs → slice_index_or xs k x ≡ x → ⊥) → is_in cells (named xs) (cell_of x) ≡ false
no_cell xs x none = of (is_in cells (named xs) (cell_of x)) refl
  where
    of : (t : Bool) → is_in cells (named xs) (cell_of x) ≡ t → t ≡ false
    of true e = let f = contains xs (cell_of x) e in absurd (none f.0 f.1 f.2)
    of false e = refl

equal_is : (a b : CellName) → name_cmp a b ≡ Equal → a ≡ b
equal_is a b e = let p : (a.serial ≡ b.serial) × (a.index ≡ b.index) = grind (arith, nat_tests) in λ i. record { serial = p.0 i; index = p.1 i }

pub found : (xs : List CellName) (x : CellName) (i : ℕ) → i < length xs → IsBinarySearchResult (λ y. name_cmp y x) xs (Ok i) → true ≡ is_in cells (named xs) (cell_of x)
found xs x i h s = sym (has_at xs i x h (equal_is (slice_index_or xs i x) x (s x)))

-- names of cells that rise are in their order
ordered : (xs : List CellName) (i j : ℕ) (d : CellName) → Rises cells (named xs) → i < j → j < length xs → IsBefore (cell_of (slice_index_or xs i d)) (cell_of (slice_index_or xs j d))
ordered [] i j d r l m = absurd (omega (arith, m))
ordered (x ∷ xs) i zero d r l m = absurd (omega (arith, l))
ordered (x ∷ xs) zero (suc j) d r l m = r.0 (cell_of (slice_index_or xs j d)) (in_at xs j d (omega (arith, m)))
  where
    in_at : (ys : List CellName) (j : ℕ) (d : CellName) → j < length ys → is_in cells (named ys) (cell_of (slice_index_or ys j d)) ≡ true
    in_at [] j d m = absurd (omega (arith, m))
    in_at (y ∷ ys) zero d m = is_in-head cells (cell_of y) (named ys)
    in_at (y ∷ ys) (suc j) d m = is_in-tail cells (cell_of y) (named ys) _ (in_at ys j d (omega (arith, m)))
ordered (x ∷ xs) (suc i) (suc j) d r l m = ordered xs i j d r.1 (omega (arith, l)) (omega (arith, m))

higher : (a b x : CellName) → IsBefore (cell_of a) (cell_of b) → ordering_index (name_cmp a x) ≤ ordering_index (name_cmp b x)
higher a b x h = grind (arith, nat_tests)

not_less : (x : CellName) → name_cmp x x ≡ Less → ⊥
not_less x e = grind (arith, nat_tests)

not_greater : (x : CellName) → name_cmp x x ≡ Greater → ⊥
not_greater x e = grind (arith, nat_tests)

rise_index : (xs : List CellName) (i j : ℕ) (x d : CellName) → Rises cells (named xs) → i ≤ j → j < length xs → ordering_index (name_cmp (slice_index_or xs i d) x) ≤ ordering_index (name_cmp (slice_index_or xs j d) x)
rise_index xs i j x d r l m = of (cases_lt i j)
  where
    of : (i < j) ⊎ (j ≤ i) → ordering_index (name_cmp (slice_index_or xs i d) x) ≤ ordering_index (name_cmp (slice_index_or xs j d) x)
    of (inl k) = higher (slice_index_or xs i d) (slice_index_or xs j d) x (ordered xs i j d r k m)
    of (inr k) = let e : i ≡ j = omega (arith, k, l) in subst (λ n. ordering_index (name_cmp (slice_index_or xs i d) x) ≤ ordering_index (name_cmp (slice_index_or xs n d) x)) e (le_refl _)

pub missed : (xs : List CellName) (x : CellName) (i : ℕ) → Rises cells (named xs) → IsBinarySearchResult (λ y. name_cmp y x) xs (Err i) → false ≡ is_in cells (named xs) (cell_of x)
missed xs x i r s = sym (no_cell xs x differs)
  where
    differs : (k : ℕ) → k < length xs → slice_index_or xs k x ≡ x → ⊥
    differs k l e = of (s (λ a b f le lt. rise_index xs a b x f r le lt)) (cases_lt k i)
      where
        of : IsPartitionPoint (λ y. name_cmp y x ≡ Less) (λ y. name_cmp y x ≡ Greater) xs i → (k < i) ⊎ (i ≤ k) → ⊥
        of parted (inl m) = not_less x (subst (λ y. name_cmp y x ≡ Less) e (parted.0 k x (omega arith) m))
        of parted (inr m) = not_greater x (subst (λ y. name_cmp y x ≡ Greater) e (parted.1 k x m l))

-- ---- sorting

pub sorted_rises : (xs ys : List CellName) → IsSorted name_cmp xs → ys ≡ dedup name_eq xs → Rises cells (named ys)
sorted_rises xs ys h e = subst (λ zs. Rises cells (named zs)) (sym e) (rises (dedup name_eq xs) (IsStrictlySortedBy-dedup total ties xs h))
  where
    ties : (x y : CellName) → name_eq x y ≡ eq_by_cmp name_cmp x y
    ties x y = grind (arith, nat_tests)

pub sorted_same : (xs ys zs : List CellName) → IsPermutation xs ys → zs ≡ dedup name_eq ys → (c : Cell) → is_in cells (named zs) c ≡ is_in cells (named xs) c
sorted_same xs ys zs moved e = same_members xs zs (λ x h. subst (λ us. Contains us x) (sym e) (Contains-dedup equivalence exact ys x (Contains-permutation xs ys x moved h))) (λ x h. Contains-permutation ys xs x (IsPermutation-sym xs ys moved) (Contains-from_dedup name_eq ys x (subst (λ us. Contains us x) e h)))
  where
    exact : (x y : CellName) → name_eq x y ≡ true → x ≡ y
    exact x y h = let p : (x.serial ≡ y.serial) × (x.index ≡ y.index) = grind (arith, nat_tests) in λ i. record { serial = p.0 i; index = p.1 i }

    equivalence : IsEquivalence name_eq
    equivalence = record { refl = λ x. grind (arith, nat_tests); symm = λ x y. grind (arith, nat_tests); congr = λ x y z. grind (arith, nat_tests) }

-- ---- a cell behind all others

named_push : (xs : List CellName) (x : CellName) → named (xs ++ x ∷ []) ≡ named xs ++ cell_of x ∷ []
named_push [] x = refl
named_push (y ∷ xs) x = ap (λ cs. cell_of y ∷ cs) (named_push xs x)

pub pushed : (xs ys : List CellName) (x : CellName) → ys ≡ xs ++ x ∷ [] → named ys ≡ named xs ++ cell_of x ∷ []
pushed xs ys x e = ap named e ∙ named_push xs x

pub push_rises : (xs : List Cell) (c : Cell) → Rises cells xs → AreBefore xs c → Rises cells (xs ++ c ∷ [])
push_rises xs c r before = rises_append cells xs (c ∷ []) r (λ d h. absurd (none_in cells d h), tt) (λ a d h j. of a d h (is_in-cases cells c [] d j))
  where
    of : (a d : Cell) → is_in cells xs a ≡ true → (d ≡ c) ⊎ (is_in cells [] d ≡ true) → IsBefore a d
    of a d h (inl e) = subst (IsBefore a) (sym e) (before a h)
    of a d h (inr k) = absurd (none_in cells d k)

-- the names after a push, which may have failed
pub tried_rises : (xs ys : List CellName) (x : CellName) (t : Bool) → ys ≡ (if t then xs ++ x ∷ [] else xs) → Rises cells (named xs) → AreBefore (named xs) (cell_of x) → Rises cells (named ys)
tried_rises xs ys x true e r before = subst (Rises cells) (sym (pushed xs ys x e)) (push_rises (named xs) (cell_of x) r before)
tried_rises xs ys x false e r before = subst (λ zs. Rises cells (named zs)) (sym e) r
