-- Tests.
use Rattle.std.proofs.Common.{◌≡◌, Bool, true, false, not, ◌&&◌, ◌||◌, refl}

pub not_both : (b : Bool) → b ≡ true → not b ≡ true → ⊥
not_both true p q = let e : false ≡ true = q in absurd (Prim.cc)
not_both false p q = let e : false ≡ true = p in absurd (Prim.cc)

pub and_left : (a b : Bool) → a && b ≡ true → a ≡ true
and_left true b e = refl
and_left false b e = e

pub and_right : (a b : Bool) → a && b ≡ true → b ≡ true
and_right true b e = e
and_right false b e = let q : false ≡ true = e in absurd (Prim.cc)

pub and_both : (a b : Bool) → a ≡ true → b ≡ true → a && b ≡ true
and_both true b p q = q
and_both false b p q = p

-- what holds of each sort by computing
abbrev pub implied : Bool → Bool → Bool
implied a b = b || not a

pub implied_true : (a b : Bool) → implied a b ≡ true → a ≡ true → b ≡ true
implied_true a true e p = refl
implied_true true false e p = e
implied_true false false e p = p

pub or_false : (a : Bool) → a || false ≡ true → a ≡ true
or_false true e = refl
or_false false e = e

pub either_left : {a : Bool} (b : Bool) → a ≡ true → a || b ≡ true
either_left {a = true} b e = refl
either_left {a = false} b e = let q : false ≡ true = e in absurd (Prim.cc)

pub either_right : (a : Bool) {b : Bool} → b ≡ true → a || b ≡ true
either_right true e = refl
either_right false e = e
