-- protocol
-- The holes of marks, and what is done to them.
use Rattle.std.specs.Prelude.{ℕ, suc, ◌+◌, ◌-◌, ◌<◌, ◌≤◌, Bool, false, cond, ◌==◌, ◌&&◌, nat_lt, nat_le, List, [], ◌∷◌, Option, Some, None}
use Rattle.mdr_region.specs.declared.holes.Hole.{Hole}
use Rattle.mdr_region.specs.Layout.{Mark, are_free}

abbrev pub hole : ℕ → ℕ → Hole
hole start len = record { start = start; len = len }

abbrev pub end_of : Hole → ℕ
end_of h = h.start + h.len

-- a hole before others, as one with the first of them where it touches it
abbrev pub joined : Hole → List Hole → List Hole
joined h [] = h ∷ []
joined h (k ∷ ks) = cond (end_of h == k.start) (hole h.start (h.len + k.len) ∷ ks) (h ∷ k ∷ ks)

-- the longest rows of free places, where the marks begin at a place
unfoldable pub holes_of : ℕ → List Mark → List Hole
holes_of p [] = []
holes_of p (Some serial ∷ marks) = holes_of (p + 1) marks
holes_of p (None ∷ marks) = joined (hole p 1) (holes_of (p + 1) marks)

-- ---- a birth

-- the start of the first hole of at least n places
unfoldable pub found : ℕ → List Hole → Option ℕ
found n [] = None
found n (h ∷ hs) = cond (nat_lt h.len n) (found n hs) (Some h.start)

-- which hole that is, where the first has number i
unfoldable pub first_fit : ℕ → ℕ → List Hole → Option ℕ
first_fit n i [] = None
first_fit n i (h ∷ hs) = cond (nat_le n h.len) (Some i) (first_fit n (i + 1) hs)

-- the holes when its first n places are taken
abbrev pub rest_of : ℕ → Hole → List Hole → List Hole
rest_of n h hs = cond (h.len == n) hs (hole (h.start + n) (h.len - n) ∷ hs)

unfoldable pub cut : ℕ → List Hole → List Hole
cut n [] = []
cut n (h ∷ hs) = cond (nat_lt h.len n) (h ∷ cut n hs) (rest_of n h hs)

-- its start, where the top is known, and how much the top rises
abbrev pub start_of : ℕ → Option ℕ → ℕ
start_of top None = top
start_of top (Some start) = start

abbrev pub risen : ℕ → Option ℕ → ℕ
risen n None = n
risen n (Some start) = 0

-- where a block of n cells goes
unfoldable pub front : ℕ → List Mark → ℕ
front n [] = 0
front n (m ∷ marks) = cond (are_free n (m ∷ marks)) 0 (suc (front n marks))

-- the place is one of n from the start on
abbrev pub inside : ℕ → ℕ → ℕ → Bool
inside start n place = nat_le start place && nat_lt place (start + n)

-- ---- a death

-- the mark is that of the block
abbrev pub names : ℕ → Mark → Bool
names serial None = false
names serial (Some s) = s == serial

-- the holes with one more, as one with those that it touches
unfoldable pub returned : Hole → List Hole → List Hole
returned h [] = h ∷ []
returned h (k ∷ ks) = cond (nat_lt (end_of k) h.start) (k ∷ returned h ks) (cond (end_of k == h.start) (joined (hole k.start (k.len + h.len)) ks) (joined h (k ∷ ks)))

-- how many holes end before the place
unfoldable pub passed_by : ℕ → List Hole → ℕ
passed_by start [] = 0
passed_by start (h ∷ hs) = cond (nat_le start (end_of h)) 0 (1 + passed_by start hs)

-- the first hole ends at the place
abbrev pub is_met : ℕ → List Hole → Bool
is_met start [] = false
is_met start (h ∷ hs) = end_of h == start

-- without the hole that ends at the top
unfoldable pub below : ℕ → List Hole → List Hole
below top [] = []
below top (h ∷ hs) = cond (end_of h == top) [] (h ∷ below top hs)

-- the top without it
unfoldable pub lowered : ℕ → List Hole → ℕ
lowered top [] = top
lowered top (h ∷ hs) = cond (end_of h == top) h.start (lowered top hs)

-- ---- order

-- holes are not empty, don't touch, rise, and lie between two places
unfoldable pub Rise : ℕ → ℕ → List Hole → Type 0
Rise p e [] = Unit {0}
Rise p e (h ∷ hs) = (p ≤ h.start) × ((0 < h.len) × ((end_of h ≤ e) × Rise (end_of h + 1) e hs))
