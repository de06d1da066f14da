-- Laws of memories: cells after a store, and that two memories are the same where their blocks and cells are.
use Rattle.std.proofs.Common.{◌≡◌, ◌≢◌, ℕ, zero, suc, ◌<◌, Bool, true, false, cond, List, [], ◌∷◌, Option, Some, None, refl, sym, ◌∙◌, ap, subst, arith}
use Rattle.std.specs.Prelude.{◌==◌, is_some, slice_get, slice_set}
use Rattle.std.proofs.lemmas.Bool.{eqb-true, eq-eqb}
use Rattle.mdr_meaning.specs.declared.wire.Wire.{Wire}
use Rattle.mdr_model.specs.declared.message.New.{New}
use Rattle.mdr_model.specs.Memory.{Memory, Cell, births, born_at, is_live, cell_at, put}
use Rattle.mdr_model.specs.Sets.{is_same_cell}
use Rattle.mdr_model.specs.Agreement.{SerialsRise}
use Rattle.mdr_model.proofs.Tests.{same_number, is_same_number, not_both, and_both, and_left, and_right}

-- ---- cells

pub same_cell : (c d : Cell) → is_same_cell c d ≡ true → c ≡ d
same_cell c d e =
    let serial : c.serial ≡ d.serial = is_same_number _ _ (and_left _ _ e) in
    let index : c.index ≡ d.index = is_same_number _ _ (and_right (c.serial == d.serial) _ e) in
    λ i. record { serial = serial i; index = index i }

pub itself : (c : Cell) → is_same_cell c c ≡ true
itself c = and_both _ _ (same_number c.serial) (same_number c.index)

-- the two ways round
pub other_way : (c d : Cell) → is_same_cell c d ≡ false → is_same_cell d c ≡ false
other_way c d e = of (is_same_cell d c) refl
  where
    of : (t : Bool) → is_same_cell d c ≡ t → is_same_cell d c ≡ false
    of true t = absurd (not_both (subst (λ (x : Cell). is_same_cell x d ≡ true) (same_cell d c t) (itself d)) e)
    of false t = t

-- ---- what depends on the births alone

pub born_at-births : (m m' : Memory) (serial : ℕ) → births m ≡ births m' → born_at m serial ≡ born_at m' serial
unfolding born_at
born_at-births [] [] serial e = refl
born_at-births [] (b' ∷ m') serial e = absurd (of e)
  where
    of : [] ≡ (b'.born ∷ births m') → ⊥
    of h = cc
born_at-births (b ∷ m) [] serial e = absurd (of e)
  where
    of : (b.born ∷ births m) ≡ [] → ⊥
    of h = cc
born_at-births (b ∷ m) (b' ∷ m') serial e =
    let head : b.born ≡ b'.born = cc in
    let tail : births m ≡ births m' = cc in
    rw (head, born_at-births m m' serial tail) refl

pub is_live-births : (m m' : Memory) (serial : ℕ) → births m ≡ births m' → is_live m serial ≡ is_live m' serial
unfolding is_live
is_live-births m m' serial e = ap (λ (o : Option New). is_some o) (born_at-births m m' serial e)

-- ---- a store

births_if : (t : Bool) (m n : Memory) (bs : List New) → births m ≡ bs → births n ≡ bs → births (cond t m n) ≡ bs
births_if true m n bs e f = e
births_if false m n bs e f = f

pub births-put : (m : Memory) (c : Cell) (v : Wire) → births (put m c v) ≡ births m
unfolding put
births-put [] c v = refl
births-put (b ∷ m) c v = births_if (b.born.serial == c.serial) _ _ _ refl (ap (λ (ns : List New). b.born ∷ ns) (births-put m c v))

-- a value in place of another, where there is one
abbrev pub replaced : Option Wire → Wire → Option Wire
replaced None v = None
replaced (Some old) v = Some v

pub get-set_same : (xs : List Wire) (i : ℕ) (v : Wire) → slice_get (slice_set xs i v) i ≡ replaced (slice_get xs i) v
get-set_same [] i v = refl
get-set_same (x ∷ xs) zero v = refl
get-set_same (x ∷ xs) (suc i) v = get-set_same xs i v

pub get-set_other : (xs : List Wire) (i j : ℕ) (v : Wire) → j ≢ i → slice_get (slice_set xs i v) j ≡ slice_get xs j
get-set_other [] i j v ne = refl
get-set_other (x ∷ xs) zero zero v ne = absurd (ne refl)
get-set_other (x ∷ xs) zero (suc j) v ne = refl
get-set_other (x ∷ xs) (suc i) zero v ne = refl
get-set_other (x ∷ xs) (suc i) (suc j) v ne = get-set_other xs i j v (λ e. ne (ap suc e))

-- what the cell itself holds after a store
pub cell_at-put_same : (m : Memory) (c : Cell) (v : Wire) → cell_at (put m c v) c ≡ replaced (cell_at m c) v
unfolding put cell_at
cell_at-put_same [] c v = refl
cell_at-put_same (b ∷ m) c v = at_block (b.born.serial == c.serial) refl (cell_at-put_same m c v)
  where
    at_block : (t : Bool) → (b.born.serial == c.serial) ≡ t → cell_at (put m c v) c ≡ replaced (cell_at m c) v → cell_at (put (b ∷ m) c v) c ≡ replaced (cell_at (b ∷ m) c) v
    at_block true e later = rw (e, e) (get-set_same b.cells c.index v)
    at_block false e later = rw (e, e) later

-- other cells stay
pub cell_at-put_other : (m : Memory) (c d : Cell) (v : Wire) → is_same_cell c d ≡ false → cell_at (put m c v) d ≡ cell_at m d
unfolding put cell_at
cell_at-put_other [] c d v ne = refl
cell_at-put_other (b ∷ m) c d v ne = at_block (b.born.serial == c.serial) refl (b.born.serial == d.serial) refl (cell_at-put_other m c d v ne)
  where
    at_block : (t : Bool) → (b.born.serial == c.serial) ≡ t → (u : Bool) → (b.born.serial == d.serial) ≡ u → cell_at (put m c v) d ≡ cell_at m d → cell_at (put (b ∷ m) c v) d ≡ cell_at (b ∷ m) d
    at_block true e true f later =
        let one : b.born.serial ≡ c.serial = is_same_number _ _ e in
        let two : b.born.serial ≡ d.serial = is_same_number _ _ f in
        let apart : d.index ≢ c.index = λ h. not_both (and_both (c.serial == d.serial) (c.index == d.index) (rw (← one, ← two) (same_number b.born.serial)) (rw h (same_number c.index))) ne in
        rw (e, f) (get-set_other b.cells c.index d.index v apart)
    at_block true e false f later = rw (e, f) refl
    at_block false e true f later = rw (e, f) refl
    at_block false e false f later = rw (e, f) later

-- the same in one equation
pub cell_at-put : (m : Memory) (c : Cell) (v : Wire) (d : Cell) → cell_at (put m c v) d ≡ cond (is_same_cell d c) (replaced (cell_at m d) v) (cell_at m d)
cell_at-put m c v d = of (is_same_cell d c) refl
  where
    of : (t : Bool) → is_same_cell d c ≡ t → cell_at (put m c v) d ≡ cond t (replaced (cell_at m d) v) (cell_at m d)
    of true e = subst (λ (x : Cell). cell_at (put m c v) x ≡ replaced (cell_at m x) v) (sym (same_cell d c e)) (cell_at-put_same m c v)
    of false e = cell_at-put_other m c d v (other_way d c e)

pub born_at-put : (m : Memory) (c : Cell) (v : Wire) (serial : ℕ) → born_at (put m c v) serial ≡ born_at m serial
born_at-put m c v serial = born_at-births (put m c v) m serial (births-put m c v)

-- ---- serials rise

pub rises-births : (m m' : Memory) → births m ≡ births m' → SerialsRise m → SerialsRise m'
rises-births [] [] e r = tt
rises-births [] (b' ∷ m') e r = absurd (of e)
  where
    of : [] ≡ (b'.born ∷ births m') → ⊥
    of h = cc
rises-births (b ∷ m) [] e r = absurd (of e)
  where
    of : (b.born ∷ births m) ≡ [] → ⊥
    of h = cc
rises-births (b ∷ m) (b' ∷ m') e r =
    let head : b.born ≡ b'.born = cc in
    let tail : births m ≡ births m' = cc in
    (λ s h. subst (λ (x : New). x.serial < s) head (r.0 s (is_live-births m m' s tail ∙ h)), rises-births m m' tail r.1)

pub rises-put : (m : Memory) (c : Cell) (v : Wire) → SerialsRise m → SerialsRise (put m c v)
rises-put m c v r = rises-births m (put m c v) (sym (births-put m c v)) r

-- ---- two memories that are the same

-- lists are the same where their elements are
pub same_list : {A : Type 0} (xs ys : List A) → ((i : ℕ) → slice_get xs i ≡ slice_get ys i) → xs ≡ ys
same_list [] [] same = refl
same_list [] (y ∷ ys) same = absurd (of (same 0))
  where
    of : None ≡ Some y → ⊥
    of h = cc
same_list (x ∷ xs) [] same = absurd (of (same 0))
  where
    of : Some x ≡ None → ⊥
    of h = cc
same_list {A} (x ∷ xs) (y ∷ ys) same =
    let head : x ≡ y = first (same 0) in
    let tail : xs ≡ ys = same_list xs ys (λ i. same (suc i)) in
    ap (λ (z : A). z ∷ xs) head ∙ ap (λ (zs : List A). y ∷ zs) tail
  where
    first : Some x ≡ Some y → x ≡ y
    first h = cc

-- a block that isn't live has no cells
cell_at-dead : (m : Memory) (c : Cell) → is_live m c.serial ≡ false → cell_at m c ≡ None
unfolding is_live born_at cell_at
cell_at-dead [] c dead = refl
cell_at-dead (b ∷ m) c dead = of (b.born.serial == c.serial) dead (cell_at-dead m c)
  where
    of : (t : Bool) → is_some (cond t (Some b.born) (born_at m c.serial)) ≡ false → (is_some (born_at m c.serial) ≡ false → cell_at m c ≡ None) → cond t (slice_get b.cells c.index) (cell_at m c) ≡ None
    of true h later = absurd (not_both refl h)
    of false h later = later h

-- memories whose serials rise are the same where their blocks are, and their cells
pub same_memory : (m n : Memory) → SerialsRise m → SerialsRise n → ((s : ℕ) → born_at m s ≡ born_at n s) → ((c : Cell) → cell_at m c ≡ cell_at n c) → m ≡ n
unfolding cell_at born_at is_live
same_memory [] [] r q born same = refl
same_memory [] (b ∷ n) r q born same = grind (arith, born b.born.serial, eq-eqb b.born.serial b.born.serial refl)
same_memory (b ∷ m) [] r q born same = grind (arith, born b.born.serial, eq-eqb b.born.serial b.born.serial refl)
same_memory (b ∷ m) (x ∷ n) r q born same =
    let serials : b.born.serial ≡ x.born.serial = grind (arith, born b.born.serial, born x.born.serial, r.0 x.born.serial, q.0 b.born.serial, eqb-true, eq-eqb) in
    let news : b.born ≡ x.born = first_news serials (born b.born.serial) in
    let cells : b.cells ≡ x.cells = same_list b.cells x.cells (λ i. first_cells serials i (same (record { serial = b.born.serial; index = i }))) in
    let rest : m ≡ n = same_memory m n r.1 q.1 (λ s. rest_born serials s (born s) (r.0 s) (q.0 s)) (λ c. rest_cells serials c (born c.serial) (same c) (r.0 c.serial) (q.0 c.serial)) in
    λ i. record { born = news i; cells = cells i } ∷ rest i
  where
    first_news : b.born.serial ≡ x.born.serial → born_at (b ∷ m) b.born.serial ≡ born_at (x ∷ n) b.born.serial → b.born ≡ x.born
    first_news e h = grind (arith, eq-eqb b.born.serial b.born.serial refl)

    first_cells : b.born.serial ≡ x.born.serial → (i : ℕ) → cell_at (b ∷ m) (record { serial = b.born.serial; index = i }) ≡ cell_at (x ∷ n) (record { serial = b.born.serial; index = i }) → slice_get b.cells i ≡ slice_get x.cells i
    first_cells e i h = grind (arith, eq-eqb b.born.serial b.born.serial refl)

    rest_born : b.born.serial ≡ x.born.serial → (s : ℕ) → born_at (b ∷ m) s ≡ born_at (x ∷ n) s → (is_live m s ≡ true → b.born.serial < s) → (is_live n s ≡ true → x.born.serial < s) → born_at m s ≡ born_at n s
    rest_born e s h above over = grind (arith, eqb-true b.born.serial s)

    rest_cells : b.born.serial ≡ x.born.serial → (c : Cell) → born_at (b ∷ m) c.serial ≡ born_at (x ∷ n) c.serial → cell_at (b ∷ m) c ≡ cell_at (x ∷ n) c
        → (is_live m c.serial ≡ true → b.born.serial < c.serial) → (is_live n c.serial ≡ true → x.born.serial < c.serial) → cell_at m c ≡ cell_at n c
    rest_cells e c k h above over = grind (arith, eqb-true b.born.serial c.serial, cell_at-dead m c, cell_at-dead n c)
