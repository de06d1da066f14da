-- The zeros of objects.
use Rattle.std.proofs.Common.{◌≡◌, ◌<◌, ◌≤◌, ◌-◌, ℕ, zero, suc, List, [], ◌∷◌, ◌++◌, drop, length, map, Option, Some, refl, sym, ◌∙◌, ap, arith}
use Rattle.std.specs.Prelude.{option_map, slice_get}
use Rattle.std.proofs.lemmas.List.{append_assoc, map-append}
use Rattle.std.proofs.lemmas.Option.{slice_get_past}
use Rattle.mdr_core.specs.Layout.{Leaf, cells_at, cells_or, repeated, zero_value}
use Rattle.mdr_core.specs.declared.program.Program.{Program}
use Rattle.mdr_core.specs.declared.types.Ty.{Ty}
use Rattle.mdr_core.specs.declared.value.Value.{Value}
use Rattle.mdr_meaning.specs.Values.{wire_of}
use Rattle.mdr_model.specs.Memory.{zero_of}

abbrev pub zero_in : Leaf → Value
zero_in l = zero_value l.type

zero-wires : (ls : List Leaf) → map wire_of (map zero_in ls) ≡ map zero_of ls
zero-wires [] = refl
zero-wires (l ∷ ls) = ap (λ ws. zero_of l ∷ ws) (zero-wires ls)

pub zeros-repeated : (n : ℕ) (ls : List Leaf) → map wire_of (repeated n (map zero_in ls)) ≡ map zero_of (repeated n ls)
unfolding repeated
zeros-repeated zero ls = refl
zeros-repeated (suc n) ls =
    map-append wire_of (map zero_in ls) (repeated n (map zero_in ls))
    ∙ (λ i. zero-wires ls i ++ zeros-repeated n ls i)
    ∙ sym (map-append zero_of ls (repeated n ls))

-- a type past the table has no cells
none_repeated : (n : ℕ) → ◌≡◌ {A = List Leaf} (repeated n []) []
unfolding repeated
none_repeated zero = refl
none_repeated (suc n) = none_repeated n

pub none_past : (program : Program) (ty count : ℕ) → length program.types ≤ ty → map wire_of [] ≡ map zero_of (repeated count (cells_at program ty))
none_past program ty count past =
    sym (ap (λ (o : Option Ty). map zero_of (repeated count (cells_or program o))) (slice_get_past program.types ty past) ∙ ap (map zero_of) (none_repeated count))

-- one cell after the other
pub one_more : {A B : Type 0} (f : A → B) (xs : List A) (i : ℕ) (y : B) → option_map f (slice_get xs i) ≡ Some y → map f (drop i xs) ≡ y ∷ map f (drop (suc i) xs)
one_more f [] i y e = absurd cc
one_more f (x ∷ xs) zero y e = let same : f x ≡ y = cc in ap (λ z. z ∷ map f xs) same
one_more f (x ∷ xs) (suc i) y e = one_more f xs i y e

pub pushed : {A B : Type 0} (f : A → B) (xs : List A) (i : ℕ) (out whole : List B) (y : B) → option_map f (slice_get xs i) ≡ Some y
    → out ++ map f (drop i xs) ≡ whole → (out ++ y ∷ []) ++ map f (drop (suc i) xs) ≡ whole
pushed f xs i out whole y e k = append_assoc out (y ∷ []) (map f (drop (suc i) xs)) ∙ ap (λ ys. out ++ ys) (sym (one_more f xs i y e)) ∙ k

-- one element after the other
pub repeated_more : {A : Type 0} (xs out whole : List A) (left : ℕ) → 0 < left → out ++ repeated left xs ≡ whole → (out ++ xs) ++ repeated (left - 1) xs ≡ whole
unfolding repeated
repeated_more xs out whole zero l k = absurd (omega (arith, l))
repeated_more xs out whole (suc left) l k =
    let same : suc left - 1 ≡ left = omega arith in
    ap (λ n. (out ++ xs) ++ repeated n xs) same ∙ append_assoc out xs (repeated left xs) ∙ k
