-- believed
-- XDR items (RFC 4506): how numbers, opaque bytes and lists are spelled, and what is read where bytes begin with them.
use Rattle.std.specs.Prelude.{ℕ, zero, suc, ◌+◌, ◌-◌, ◌%◌, cond, not, List, [], ◌∷◌, ◌++◌, length, take, drop, replicate, flat_map, Option, Some, None, Result, Ok, Err, ℤ, pos, nat_lt, ◌==◌, position}
use Rattle.std.specs.Int.{Width, w32, w64, byte_len, to_be_bytes, from_be_bytes, cast_unsigned, cast_signed}
use Rattle.mdr_core.specs.declared.kind.Kind.{Kind}
use Rattle.mdr_core.specs.declared.kind.Kind.TheVariants.{U8, U16, U32, U64, S8, S16, S32, S64}
use Rattle.mdr_core.specs.declared.refusal.RefuseKind.TheVariants as refusal
use Rattle.mdr_core.specs.Kinds.{is_signed, is_in_range}
use Rattle.mdr_model.specs.declared.message.Fault.{Fault}
use Rattle.mdr_model.specs.Faults.{fault}

-- ---- spellings

-- a number in four bytes or in eight, the high one first (RFC 4506, 4.2 and 4.5)
unfoldable pub four : ℕ → List ℕ
four n = to_be_bytes w32 n

unfoldable pub eight : ℕ → List ℕ
eight n = to_be_bytes w64 n

-- integers of up to 32 bits take four bytes, others eight (RFC 4506, 4.1, 4.2, 4.5)
abbrev pub item_width : Kind → Width
item_width U8 = w32
item_width U16 = w32
item_width U32 = w32
item_width U64 = w64
item_width S8 = w32
item_width S16 = w32
item_width S32 = w32
item_width S64 = w64

-- a number of a kind, in two's complement
unfoldable pub item : Kind → ℤ → List ℕ
item k n = to_be_bytes (item_width k) (cast_unsigned (item_width k) n)

-- how many bytes fill up to a multiple of four
abbrev pub padding_of : ℕ → ℕ
padding_of n = (4 - n % 4) % 4

-- opaque bytes: their number, the bytes, and zeros up to a multiple of four (RFC 4506, 4.10)
unfoldable pub opaque : List ℕ → List ℕ
opaque bytes = four (length bytes) ++ (bytes ++ replicate (padding_of (length bytes)) 0)

-- a list: its length, and the items (RFC 4506, 4.13)
unfoldable pub listed : {A : Type 0} → (A → List ℕ) → List A → List ℕ
listed one items = four (length items) ++ flat_map one items

-- ---- reading

-- the bytes that are left, and the offset of the first
pub record Input : Type 0 where
  pub at : ℕ
  pub bytes : List ℕ

-- a value and what is left, or the first fault from the left
abbrev pub Read : Type 0 → Type 0
Read A = Result (A × Input) Fault

infixl 10 ◌>>=◌
abbrev pub ◌>>=◌ : {A B : Type 0} → Result A Fault → (A → Result B Fault) → Result B Fault
(Ok x) >>= f = f x
(Err e) >>= f = Err e

-- so many bytes further
abbrev pub skipped : ℕ → Input → Input
skipped n i = record { at = i.at + n; bytes = drop n i.bytes }

-- so many bytes, as one item: they are there, or the item is short
unfoldable pub bytes_at : ℕ → Input → Read (List ℕ)
bytes_at n i = cond (nat_lt (length i.bytes) n) (Err (fault refusal.Short i.at)) (Ok (take n i.bytes, skipped n i))

unfoldable pub four_at : Input → Read ℕ
four_at i = do
  bytes ← bytes_at 4 i
  Ok (from_be_bytes w32 bytes.0, bytes.1)

unfoldable pub eight_at : Input → Read ℕ
eight_at i = do
  bytes ← bytes_at 8 i
  Ok (from_be_bytes w64 bytes.0, bytes.1)

abbrev pub bits_at : Width → Input → Read ℕ
bits_at w i = do
  bytes ← bytes_at (byte_len w) i
  Ok (from_be_bytes w bytes.0, bytes.1)

-- the number that the bits of an item are at a kind
abbrev pub number_of : Kind → ℕ → ℤ
number_of k n = cond (is_signed k) (cast_signed (item_width k) n) (pos n)

-- a number of a kind, which lies in its range
unfoldable pub item_at : Kind → Input → Read ℤ
item_at k i = do
  n ← bits_at (item_width k) i
  cond (is_in_range k (number_of k n.0)) (Ok (number_of k n.0, n.1)) (Err (fault refusal.Range i.at))

-- the offset of the first byte that isn't zero
abbrev pub padding_fault : ℕ → Option ℕ → Option Fault
padding_fault at None = None
padding_fault at (Some n) = Some (fault refusal.Padding (at + n))

abbrev pub unless_fault : {A : Type 0} → Option Fault → A → Result A Fault
unless_fault None x = Ok x
unless_fault (Some f) x = Err f

-- opaque bytes: two items, the number and the bytes with their padding, which is zero
unfoldable pub opaque_at : Input → Read (List ℕ)
opaque_at i = do
  n ← four_at i
  bytes ← bytes_at (n.0 + padding_of n.0) n.1
  unless_fault (padding_fault (n.1.at + n.0) (position (λ b. not (b == 0)) (drop n.0 bytes.0))) (take n.0 bytes.0, bytes.1)

unfoldable pub items_at : {A : Type 0} → (Input → Read A) → ℕ → Input → Read (List A)
items_at one zero i = Ok ([], i)
items_at one (suc n) i = do
  first ← one i
  others ← items_at one n first.1
  Ok (first.0 ∷ others.0, others.1)

unfoldable pub list_at : {A : Type 0} → (Input → Read A) → Input → Read (List A)
list_at one i = do
  n ← four_at i
  items_at one n.0 n.1
