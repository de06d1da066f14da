-- believed
-- The integer kinds: their widths and ranges (C99 5.2.4.2.1, 6.2.6.2, two's complement).
use Rattle.std.specs.Prelude.{ℕ, ◌-◌, ◌^◌, Bool, true, false, ◌&&◌, not, ℤ, pos, neg_ℤ, ◌==◌, int_lt}
use Rattle.mdr_core.specs.declared.kind.Kind.{Kind}
use Rattle.mdr_core.specs.declared.kind.Kind.TheVariants.{U8, U16, U32, U64, S8, S16, S32, S64}

-- how many bits a kind has
abbrev pub width : Kind → ℕ
width U8 = 8
width U16 = 16
width U32 = 32
width U64 = 64
width S8 = 8
width S16 = 16
width S32 = 32
width S64 = 64

abbrev pub is_signed : Kind → Bool
is_signed U8 = false
is_signed U16 = false
is_signed U32 = false
is_signed U64 = false
is_signed S8 = true
is_signed S16 = true
is_signed S32 = true
is_signed S64 = true

-- the kinds in their order, from 0: a kind's number in the type table and on the wire
abbrev pub kind_number : Kind → ℕ
kind_number U8 = 0
kind_number U16 = 1
kind_number U32 = 2
kind_number U64 = 3
kind_number S8 = 4
kind_number S16 = 5
kind_number S32 = 6
kind_number S64 = 7

abbrev pub is_same_kind : Kind → Kind → Bool
is_same_kind k l = kind_number k == kind_number l

-- the least value of a kind
abbrev pub least : Kind → ℤ
least U8 = pos 0
least U16 = pos 0
least U32 = pos 0
least U64 = pos 0
least S8 = neg_ℤ (pos (2 ^ 7))
least S16 = neg_ℤ (pos (2 ^ 15))
least S32 = neg_ℤ (pos (2 ^ 31))
least S64 = neg_ℤ (pos (2 ^ 63))

-- the greatest value of a kind
abbrev pub greatest : Kind → ℤ
greatest U8 = pos (2 ^ 8 - 1)
greatest U16 = pos (2 ^ 16 - 1)
greatest U32 = pos (2 ^ 32 - 1)
greatest U64 = pos (2 ^ 64 - 1)
greatest S8 = pos (2 ^ 7 - 1)
greatest S16 = pos (2 ^ 15 - 1)
greatest S32 = pos (2 ^ 31 - 1)
greatest S64 = pos (2 ^ 63 - 1)

-- whether a number lies in a kind's range
unfoldable pub is_in_range : Kind → ℤ → Bool
is_in_range k n = not (int_lt n (least k)) && not (int_lt (greatest k) n)
