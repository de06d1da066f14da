-- Objects that live, and slots that name them.
use Rattle.std.proofs.Common.{◌≡◌, ℕ, zero, suc, ◌+◌, ◌<◌, Bool, true, false, not, ◌&&◌, ◌||◌, ◌==◌, ◌⊎◌, inl, inr, List, [], ◌∷◌, ◌++◌, length, refl, sym, ◌∙◌, ap, subst, arith}
use Rattle.std.specs.Prelude.{slice_get, slice_set}
use Rattle.std.specs.List.{list_any}
use Rattle.std.proofs.lemmas.Bool.{both_ways, eq-eqb, eqb-true}
use Rattle.mdr_core.specs.Layout.{chosen}
use Rattle.mdr_core.specs.Typing.{Slot}
use Rattle.mdr_meaning.specs.declared.wire.Wire.{Wire}
use Rattle.mdr_meaning.specs.declared.wire.Wire.TheVariants as wire
use Rattle.mdr_meaning.specs.Expressions.{slot_of}
use Rattle.mdr_meaning.specs.Lives.{after_deaths, is_into}
use Rattle.mdr_kept.specs.Current.{AreCurrent, AreLiving, IsCurrent, Lives, without}
use Rattle.mdr_kept.specs.Scopes.{is_object, is_there}

-- ---- one of these values

abbrev pub IsAmong : List Wire → Wire → Type 0
IsAmong [] v = ⊥
IsAmong (p ∷ ps) v = (v ≡ p) ⊎ IsAmong ps v

pub among_left : (xs ys : List Wire) (v : Wire) → IsAmong xs v → IsAmong (xs ++ ys) v
among_left [] ys v h = elim h [ ]
among_left (x ∷ xs) ys v (inl e) = inl e
among_left (x ∷ xs) ys v (inr h) = inr (among_left xs ys v h)

pub among_right : (xs ys : List Wire) (v : Wire) → IsAmong ys v → IsAmong (xs ++ ys) v
among_right [] ys v h = h
among_right (x ∷ xs) ys v h = inr (among_right xs ys v h)

-- ---- what lives

pub living_current : (lives : Lives) (own : List Wire) (v : Wire) → AreLiving lives own → IsAmong own v → IsCurrent lives v
living_current lives [] v h m = elim m [ ]
living_current lives (wire.Ptr p ∷ own) v h (inl e) = subst (λ x. IsCurrent lives x) (sym e) h.0
living_current lives (wire.Ptr p ∷ own) v h (inr m) = living_current lives own v h.2 m
living_current lives (wire.Int k n ∷ own) v h m = elim h [ ]
living_current lives (wire.Null ∷ own) v h m = elim h [ ]
living_current lives (wire.Dead ∷ own) v h m = elim h [ ]
living_current lives (wire.Fn f ∷ own) v h m = elim h [ ]
living_current lives (wire.Lock s ∷ own) v h m = elim h [ ]
living_current lives (wire.NoValue ∷ own) v h m = elim h [ ]

pub all_current : (lives : Lives) (own : List Wire) → AreLiving lives own → AreCurrent lives own
all_current lives [] h = tt
all_current lives (wire.Ptr p ∷ own) h = (h.0, all_current lives own h.2)
all_current lives (wire.Int k n ∷ own) h = elim h [ ]
all_current lives (wire.Null ∷ own) h = elim h [ ]
all_current lives (wire.Dead ∷ own) h = elim h [ ]
all_current lives (wire.Fn f ∷ own) h = elim h [ ]
all_current lives (wire.Lock s ∷ own) h = elim h [ ]
all_current lives (wire.NoValue ∷ own) h = elim h [ ]

-- the newest of them
pub living_right : (lives : Lives) (own ps : List Wire) → AreLiving lives (own ++ ps) → AreLiving lives ps
living_right lives [] ps h = h
living_right lives (wire.Ptr p ∷ own) ps h = living_right lives own ps h.2
living_right lives (wire.Int k n ∷ own) ps h = elim h [ ]
living_right lives (wire.Null ∷ own) ps h = elim h [ ]
living_right lives (wire.Dead ∷ own) ps h = elim h [ ]
living_right lives (wire.Fn f ∷ own) ps h = elim h [ ]
living_right lives (wire.Lock s ∷ own) ps h = elim h [ ]
living_right lives (wire.NoValue ∷ own) ps h = elim h [ ]

none_left : (serial : ℕ) (own ps : List Wire) → list_any (is_into serial) (own ++ ps) ≡ false → list_any (is_into serial) own ≡ false
none_left serial [] ps e = refl
none_left serial (p ∷ own) ps e = of (is_into serial p) (list_any (is_into serial) (own ++ ps)) e (none_left serial own ps)
  where
    of : (a b : Bool) → (a || b) ≡ false → (b ≡ false → list_any (is_into serial) own ≡ false) → (a || list_any (is_into serial) own) ≡ false
    of true b e more = absurd (both_ways true e refl)
    of false b e more = more e

none_right : (serial : ℕ) (own ps : List Wire) → list_any (is_into serial) (own ++ ps) ≡ false → list_any (is_into serial) ps ≡ false
none_right serial [] ps e = e
none_right serial (p ∷ own) ps e = of (is_into serial p) (list_any (is_into serial) (own ++ ps)) e (none_right serial own ps)
  where
    of : (a b : Bool) → (a || b) ≡ false → (b ≡ false → list_any (is_into serial) ps ≡ false) → list_any (is_into serial) ps ≡ false
    of true b e more = absurd (both_ways true e refl)
    of false b e more = more e

pub none_before : (serial : ℕ) (own ps : List Wire) → list_any (is_into serial) (own ++ ps) ≡ false → (list_any (is_into serial) own ≡ false) × (list_any (is_into serial) ps ≡ false)
none_before serial own ps e = (none_left serial own ps e, none_right serial own ps e)

pub still_lives : (a b : Bool) → a ≡ true → b ≡ false → (a && not b) ≡ true
still_lives a b e f = (λ i. e i && not (f i))

-- the others live when the newest have died
pub living_left : (lives : Lives) (own ps : List Wire) → AreLiving lives (own ++ ps) → AreLiving (without ps lives) own
living_left lives [] ps h = tt
living_left lives (wire.Ptr p ∷ own) ps h = (still_lives (lives p.serial) _ h.0 (none_right p.serial own ps h.1), none_left p.serial own ps h.1, living_left lives own ps h.2)
living_left lives (wire.Int k n ∷ own) ps h = elim h [ ]
living_left lives (wire.Null ∷ own) ps h = elim h [ ]
living_left lives (wire.Dead ∷ own) ps h = elim h [ ]
living_left lives (wire.Fn f ∷ own) ps h = elim h [ ]
living_left lives (wire.Lock s ∷ own) ps h = elim h [ ]
living_left lives (wire.NoValue ∷ own) ps h = elim h [ ]

-- a value that was current is so when these have died, where what points into them is dead
pub current_after : (lives : Lives) (ps : List Wire) (v : Wire) → IsCurrent lives v → IsCurrent (without ps lives) (after_deaths ps v)
current_after lives ps (wire.Ptr p) h = of (list_any (is_into p.serial) ps) refl
  where
    of : (b : Bool) → list_any (is_into p.serial) ps ≡ b → IsCurrent (without ps lives) (chosen b wire.Dead (wire.Ptr p))
    of true e = tt
    of false e = still_lives (lives p.serial) _ h e
current_after lives ps (wire.Int k n) h = tt
current_after lives ps wire.Null h = tt
current_after lives ps wire.Dead h = tt
current_after lives ps (wire.Fn f) h = tt
current_after lives ps (wire.Lock s) h = tt
current_after lives ps wire.NoValue h = tt

-- where none died
pub current_same : (lives : Lives) (v : Wire) → IsCurrent lives v → IsCurrent lives (after_deaths [] v)
current_same lives (wire.Ptr p) h = h
current_same lives (wire.Int k n) h = tt
current_same lives wire.Null h = tt
current_same lives wire.Dead h = tt
current_same lives (wire.Fn f) h = tt
current_same lives (wire.Lock s) h = tt
current_same lives wire.NoValue h = tt

-- ---- lists that end alike

tails : (x y : Wire) (xs ys : List Wire) → ◌≡◌ {A = List Wire} (x ∷ xs) (y ∷ ys) → xs ≡ ys
tails x y xs ys e = cc

heads : (x y : Wire) (xs ys : List Wire) → ◌≡◌ {A = List Wire} (x ∷ xs) (y ∷ ys) → x ≡ y
heads x y xs ys e = cc

longer : (xs ps : List Wire) → length (xs ++ ps) ≡ length xs + length ps
longer [] ps = omega arith
longer (x ∷ xs) ps = let e = longer xs ps in omega (arith, e)

no_more : {X : Type 0} (x : Wire) (xs ps : List Wire) → ps ≡ x ∷ (xs ++ ps) → X
no_more x xs ps e = let long : length ps ≡ suc (length (xs ++ ps)) = ap (λ (vs : List Wire). length vs) e in let sum = longer xs ps in absurd (omega (arith, long, sum))

pub same_rest : (xs ys ps : List Wire) → xs ++ ps ≡ ys ++ ps → xs ≡ ys
same_rest [] [] ps e = refl
same_rest [] (y ∷ ys) ps e = no_more y ys ps e
same_rest (x ∷ xs) [] ps e = no_more x xs ps (sym e)
same_rest (x ∷ xs) (y ∷ ys) ps e =
    let one : x ≡ y = heads x y (xs ++ ps) (ys ++ ps) e in
    let rest : xs ≡ ys = same_rest xs ys ps (tails x y (xs ++ ps) (ys ++ ps) e) in
    λ i. one i ∷ rest i

-- ---- slots that name objects

pub size_set : (s : List Wire) (i : ℕ) (v : Wire) → length (slice_set s i v) ≡ length s
size_set [] i v = refl
size_set (x ∷ s) zero v = refl
size_set (x ∷ s) (suc i) v = ap suc (size_set s i v)

pub set_other : (s : List Wire) (i j : ℕ) (v : Wire) → (i ≡ j → ⊥) → slot_of (slice_set s i v) j ≡ slot_of s j
unfolding slot_of
set_other [] i j v e = refl
set_other (x ∷ s) zero zero v e = absurd (e refl)
set_other (x ∷ s) zero (suc j) v e = refl
set_other (x ∷ s) (suc i) zero v e = refl
set_other (x ∷ s) (suc i) (suc j) v e = set_other s i j v (λ h. e (ap suc h))

pub set_same : (s : List Wire) (i : ℕ) (v : Wire) → i < length s → slot_of (slice_set s i v) i ≡ v
unfolding slot_of
set_same [] i v less = absurd (omega (arith, less))
set_same (x ∷ s) zero v less = refl
set_same (x ∷ s) (suc i) v less = set_same s i v (omega (arith, less))

-- each object that lives at a place is named by its slot
pub record IsFrame (slots : List Slot) (objects : List ℕ) (own s : List Wire) : Type 0 where
  pub size : length s ≡ length slots
  pub named : (i : ℕ) → is_there objects i ≡ true → IsAmong own (slot_of s i)

-- and is one by its declaration
pub record AreObjects (slots : List Slot) (objects : List ℕ) : Type 0 where
  pub each : (i : ℕ) → is_there objects i ≡ true → is_object (slice_get slots i) ≡ true

-- a slot that is none is none of theirs
pub slot_apart : (slots : List Slot) (objects : List ℕ) (i : ℕ) → AreObjects slots objects → is_object (slice_get slots i) ≡ false → is_there objects i ≡ false
slot_apart slots objects i h plain = of (is_there objects i) refl
  where
    of : (b : Bool) → is_there objects i ≡ b → is_there objects i ≡ false
    of true e = absurd (both_ways (is_object (slice_get slots i)) plain (h.each i e))
    of false e = e

pub one_more : (slots : List Slot) (objects : List ℕ) (i : ℕ) → is_object (slice_get slots i) ≡ true → AreObjects slots objects → AreObjects slots (i ∷ objects)
one_more slots objects i object h = record { each = λ j there. of j (i == j) refl there }
  where
    of : (j : ℕ) (b : Bool) → (i == j) ≡ b → (b || is_there objects j) ≡ true → is_object (slice_get slots j) ≡ true
    of j true e there = subst (λ k. is_object (slice_get slots k) ≡ true) (eqb-true i j e) object
    of j false e there = h.each j there

-- the slots of these are as they were
pub record AreKept (objects : List ℕ) (s s' : List Wire) : Type 0 where
  pub kept : (i : ℕ) → is_there objects i ≡ true → slot_of s' i ≡ slot_of s i

pub all_kept : (objects : List ℕ) (s : List Wire) → AreKept objects s s
all_kept objects s = record { kept = λ i h. refl }

apart_from : (objects : List ℕ) (i j : ℕ) → is_there objects i ≡ false → is_there objects j ≡ true → i ≡ j → ⊥
apart_from objects i j out there e = both_ways (is_there objects i) out (subst (λ k. is_there objects k ≡ true) (sym e) there)

-- a slot that is none of theirs is set
pub set_keeps : (objects : List ℕ) (s : List Wire) (i : ℕ) (v : Wire) → is_there objects i ≡ false → AreKept objects s (slice_set s i v)
set_keeps objects s i v out = record { kept = λ j there. set_other s i j v (apart_from objects i j out there) }

pub kept_frame : (slots : List Slot) (objects : List ℕ) (own s s' : List Wire) → length s' ≡ length slots → AreKept objects s s' → IsFrame slots objects own s → IsFrame slots objects own s'
kept_frame slots objects own s s' size keep f = record { size = size; named = λ i there. subst (λ v. IsAmong own v) (sym (keep.kept i there)) (f.named i there) }

there_later : (objects : List ℕ) (i j : ℕ) → is_there objects j ≡ true → is_there (i ∷ objects) j ≡ true
there_later objects i j h = of (i == j) (is_there objects j) h
  where
    of : (a b : Bool) → b ≡ true → (a || b) ≡ true
    of true b e = refl
    of false b e = e

pub fewer_kept : (objects : List ℕ) (i : ℕ) (s s' : List Wire) → AreKept (i ∷ objects) s s' → AreKept objects s s'
fewer_kept objects i s s' h = record { kept = λ j there. h.kept j (there_later objects i j there) }

pub fewer_named : (slots : List Slot) (objects : List ℕ) (i : ℕ) (own s : List Wire) → IsFrame slots (i ∷ objects) own s → IsFrame slots objects own s
fewer_named slots objects i own s f = record { size = f.size; named = λ j there. f.named j (there_later objects i j there) }

pub kept_then : (objects : List ℕ) (s s' s'' : List Wire) → AreKept objects s s' → AreKept objects s' s'' → AreKept objects s s''
kept_then objects s s' s'' a b = record { kept = λ i there. b.kept i there ∙ a.kept i there }

-- an object is born, and its slot names it
pub born_frame : (slots : List Slot) (objects : List ℕ) (own s : List Wire) (i : ℕ) (p : Wire) → i < length s → IsFrame slots objects own s → IsFrame slots (i ∷ objects) (own ++ p ∷ []) (slice_set s i p)
born_frame slots objects own s i p less f = record { size = size_set s i p ∙ f.size; named = λ j there. of j (i == j) refl there }
  where
    of : (j : ℕ) (b : Bool) → (i == j) ≡ b → (b || is_there objects j) ≡ true → IsAmong (own ++ p ∷ []) (slot_of (slice_set s i p) j)
    of j true e there = subst (λ v. IsAmong (own ++ p ∷ []) v) (sym (set_same s i p less) ∙ ap (slot_of (slice_set s i p)) (eqb-true i j e)) (among_right own (p ∷ []) p (inl refl))
    of j false e there = subst (λ v. IsAmong (own ++ p ∷ []) v) (sym (set_other s i j p (λ h. both_ways (i == j) e (eq-eqb i j h)))) (among_left own (p ∷ []) (slot_of s j) (f.named j there))
