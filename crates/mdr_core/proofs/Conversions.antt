-- What a conversion gives.
use Rattle.std.proofs.Common.{◌≡◌, ◌^◌, true, ap, ◌∙◌, ℤ, pos, ◌+ℤ◌, ◌-ℤ◌, arith}
use Rattle.std.specs.Int.{int_rem_euclid}
use Rattle.std.proofs.lemmas.Int.{ints}
use Rattle.std.proofs.lemmas.Nat.{pow_pos}
use Rattle.mdr_core.specs.declared.kind.Kind.{Kind}
use Rattle.mdr_core.specs.Conversions.{converted}
use Rattle.mdr_core.specs.Kinds.{width, is_in_range, least}
use Rattle.mdr_core.proofs.Ranges.{in_range-least, in_range-greatest, in_range-from, greatest-is}
use Rattle.mdr_core.proofs.Residues.{rem_euclid-low, rem_euclid-high, rem_euclid-small}

pub converted-in_range : (k : Kind) (n : ℤ) → is_in_range k (converted k n) ≡ true
unfolding converted
converted-in_range k n =
    let some = pow_pos (width k) in
    let m = int_rem_euclid (n -ℤ least k) (pos (2 ^ width k)) in
    let low = rem_euclid-low (n -ℤ least k) (2 ^ width k) some in
    let high = rem_euclid-high (n -ℤ least k) (2 ^ width k) some in
    let all = greatest-is k in
    in_range-from k (least k +ℤ m) (omega (arith, ints)) (omega (arith, ints))

-- a number of the range is converted to itself
pub converted-of_range : (k : Kind) (n : ℤ) → is_in_range k n ≡ true → converted k n ≡ n
unfolding converted
converted-of_range k n h =
    let some = pow_pos (width k) in
    let low = in_range-least k n h in
    let high = in_range-greatest k n h in
    let all = greatest-is k in
    let same = rem_euclid-small (n -ℤ least k) (2 ^ width k) (omega (arith, ints)) (omega (arith, ints)) some in
    ap (λ x. least k +ℤ x) same ∙ omega (arith, ints)
