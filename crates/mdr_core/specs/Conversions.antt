-- believed
-- The conversions of integers (C99 6.3.1).
use Rattle.std.specs.Prelude.{◌^◌, Bool, true, false, ℤ, pos, ◌+ℤ◌, ◌-ℤ◌, nat_lt}
use Rattle.std.specs.Int.{int_rem_euclid}
use Rattle.mdr_core.specs.declared.kind.Kind.{Kind}
use Rattle.mdr_core.specs.declared.kind.Kind.TheVariants.{S32}
use Rattle.mdr_core.specs.Kinds.{width, is_signed, least}

-- a number converted to a kind: the number of the kind's range that differs from it by a multiple of 2^N (6.3.1.3; a signed kind wraps too)
unfoldable pub converted : Kind → ℤ → ℤ
converted k n = least k +ℤ int_rem_euclid (n -ℤ least k) (pos (2 ^ width k))

-- one of two kinds
abbrev pub either : Bool → Kind → Kind → Kind
either true k l = k
either false k l = l

-- the integer promotions (6.3.1.1, paragraph 2): what is narrower than `int` becomes `int`, which has 32 bits
unfoldable pub promoted : Kind → Kind
promoted k = either (nat_lt (width k) 32) S32 k

-- the kind of greater rank, and at one rank the unsigned one. A wider signed kind holds every number of a narrower unsigned one, so it stays signed
abbrev pub outranking : Kind → Kind → Kind
outranking k l = either (nat_lt (width k) (width l)) l (either (nat_lt (width l) (width k)) k (either (is_signed k) l k))

-- the usual arithmetic conversions (6.3.1.8)
unfoldable pub common_kind : Kind → Kind → Kind
common_kind k l = outranking (promoted k) (promoted l)
