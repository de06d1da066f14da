-- believed
-- Numbers (C99 6.4.4.1), with int of 32 and long of 64 bits.
use Rattle.std.specs.Prelude.{ℕ, ◌+◌, ◌-◌, ◌*◌, ◌^◌, Bool, true, false, ◌==◌, ◌||◌, ◌&&◌, not, nat_lt, nat_le, if◌then◌else◌, List, [], ◌∷◌, take, drop, Option, Some, None}
use Rattle.std.specs.List.{prefix_len}
use Rattle.mdr_core.specs.declared.kind.Kind.{Kind}
use Rattle.mdr_core.specs.declared.kind.Kind.TheVariants.{S32, U32, S64, U64}
use Rattle.mdr_syntax.specs.declared.number.Suffix.{Suffix}
use Rattle.mdr_syntax.specs.Options.{◌>>=◌}

-- what a digit is worth, in any case; 16 for what is no digit
abbrev pub digit_of : ℕ → ℕ
digit_of b =
    if nat_le 48 b && nat_le b 57 then b - 48
    else (if nat_le 97 b && nat_le b 102 then b - 87
    else (if nat_le 65 b && nat_le b 70 then b - 55
    else 16))

abbrev pub is_digit_of : (radix : ℕ) → ℕ → Bool
is_digit_of radix b = nat_lt (digit_of b) radix

-- what the digits are worth behind a front that is worth so much
abbrev pub worth_after : (radix : ℕ) → (front : ℕ) → List ℕ → ℕ
worth_after radix front [] = front
worth_after radix front (b ∷ bs) = worth_after radix (front * radix + digit_of b) bs

-- `0x` stands before hexadecimal digits, and a 0 begins octal ones
abbrev pub radix_of : List ℕ → ℕ × List ℕ
radix_of [] = (10, [])
radix_of (a ∷ []) = (if a == 48 then 8 else 10, a ∷ [])
radix_of (a ∷ b ∷ bs) = if a == 48 then (if b == 120 || b == 88 then (16, bs) else (8, a ∷ b ∷ bs)) else (10, a ∷ b ∷ bs)

abbrev pub is_u : ℕ → Bool
is_u b = b == 117 || b == 85

abbrev pub is_l : ℕ → Bool
is_l b = b == 108 || b == 76

abbrev pub suffix : Bool → Bool → Option Suffix
suffix unsigned long = Some (record { unsigned = unsigned; long = long })

-- u, l, ll, ul, lu, ull and llu in either case, where the two letters of an ll are alike
unfoldable pub suffix_of : List ℕ → Option Suffix
suffix_of [] = suffix false false
suffix_of (a ∷ []) = if is_u a then suffix true false else (if is_l a then suffix false true else None)
suffix_of (a ∷ b ∷ []) =
    if is_u a && is_l b || is_l a && is_u b then suffix true true
    else (if is_l a && a == b then suffix false true else None)
suffix_of (a ∷ b ∷ c ∷ []) = if is_u a && is_l b && b == c || is_l a && a == b && is_u c then suffix true true else None
suffix_of (a ∷ b ∷ c ∷ d ∷ bs) = None

-- the first kind of the list in C99 6.4.4.1 that holds the number
unfoldable pub kind_of : (is_decimal : Bool) → Suffix → ℕ → Option Kind
kind_of is_decimal s n =
    if not s.unsigned && not s.long && nat_lt n (2 ^ 31) then Some S32
    else (if not s.long && (s.unsigned || not is_decimal) && nat_lt n (2 ^ 32) then Some U32
    else (if not s.unsigned && nat_lt n (2 ^ 63) then Some S64
    else (if (s.unsigned || not is_decimal) && nat_lt n (2 ^ 64) then Some U64
    else None)))

unfoldable pub value_of : (radix : ℕ) → List ℕ → Option ℕ
value_of radix digits = let n = worth_after radix 0 digits in if nat_lt n (2 ^ 64) then Some n else None

-- the whole of a text as a number: digits, of which there is one, and a suffix
unfoldable pub number_of : List ℕ → Option (ℕ × Kind)
number_of bytes =
    let r = radix_of bytes in
    let len = prefix_len (is_digit_of r.0) r.1 in
    if len == 0 then None else (do
      s ← suffix_of (drop len r.1)
      n ← value_of r.0 (take len r.1)
      k ← kind_of (r.0 == 10) s n
      Some (n, k))
