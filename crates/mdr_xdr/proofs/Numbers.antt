-- The numbers of four and of eight bytes, and those of a kind.
use Rattle.std.proofs.Common.{◌≡◌, ℕ, ◌+◌, ◌-◌, ◌^◌, ◌<◌, true, cond, List, ◌++◌, length, Ok, Err, ℤ, pos, negsuc, neg_ℤ, ◌≤ℤ◌, ◌<ℤ◌, FitsSigned, refl, sym, ap, subst, ◌∙◌, arith}
use Rattle.std.specs.Int.{Width, w32, w64, byte_len, from_be_bytes, to_be_bytes, cast_unsigned}
use Rattle.std.proofs.lemmas.Nat.{be_bytes_4, be_bytes_8, from_be_bytes-to_be_bytes_4, from_be_bytes-to_be_bytes_8}
use Rattle.std.proofs.lemmas.Int.{ints, to_z-of_z, of_z-to_z}
use Rattle.std.proofs.Math.Facts.{Fits-of_z}
use Rattle.mdr_core.specs.declared.kind.Kind.{Kind}
use Rattle.mdr_core.specs.declared.kind.Kind.TheVariants.{U8, U16, U32, U64, S8, S16, S32, S64}
use Rattle.mdr_core.specs.declared.refusal.RefuseKind.TheVariants as refusal
use Rattle.mdr_core.specs.Kinds.{is_in_range, least, greatest}
use Rattle.mdr_core.proofs.Ranges.{in_range-least, in_range-greatest}
use Rattle.mdr_model.specs.Faults.{fault}
use Rattle.mdr_model.specs.Xdr.{Input, four, eight, bytes_at, bits_at, four_at, eight_at, item_width, item, number_of, item_at}
use Rattle.mdr_xdr.specs.Bytes.{IsBytes}
use Rattle.mdr_xdr.proofs.Readers.{bind_ok, holds_ok, value_is, input_is, from, Takes, IsReader, bytes_taken-parts, bytes_again}

pub record IsWide (w : Width) (limit : ℕ) : Type 0 where
  pub len : (n : ℕ) → length (to_be_bytes w n) ≡ byte_len w
  pub back : (bytes : List ℕ) → length bytes ≡ byte_len w → IsBytes bytes → to_be_bytes w (from_be_bytes w bytes) ≡ bytes
  pub again : (n : ℕ) → n < limit → from_be_bytes w (to_be_bytes w n) ≡ n
  pub below : (bytes : List ℕ) → IsBytes bytes → from_be_bytes w bytes < limit

pub wide32 : IsWide w32 (2 ^ 32)
wide32 = record {
  len = λ n. refl;
  back = λ bytes len fits. be_bytes_4 bytes _ len fits refl;
  again = λ n lt. from_be_bytes-to_be_bytes_4 n lt;
  below = λ bytes fits. omega (arith, fits 0, fits 1, fits 2, fits 3);
}

pub wide64 : IsWide w64 (2 ^ 64)
wide64 = record {
  len = λ n. refl;
  back = λ bytes len fits. be_bytes_8 bytes _ len fits refl;
  again = λ n lt. from_be_bytes-to_be_bytes_8 n lt;
  below = λ bytes fits. omega (arith, fits 0, fits 1, fits 2, fits 3, fits 4, fits 5, fits 6, fits 7);
}

bits_take : (w : Width) (limit : ℕ) (wide : IsWide w limit) (i j : Input) (n : ℕ) → IsBytes i.bytes → bits_at w i ≡ Ok (n, j) → Takes i (to_be_bytes w n) j × (n < limit)
bits_take w limit wide i j n fits e =
    let b = bind_ok (bytes_at (byte_len w) i) (λ b. Ok (from_be_bytes w b.0, b.1)) (n, j) e in
    let taken = bytes_taken-parts (byte_len w) i b.0.1 b.0.0 fits b.1 in
    let n-is : from_be_bytes w b.0.0 ≡ n = value_is _ _ b.0.1 j b.2 in
    let j-is : b.0.1 ≡ j = input_is (from_be_bytes w b.0.0) n _ _ b.2 in
    let front : to_be_bytes w n ≡ b.0.0 = ap (to_be_bytes w) (sym n-is) ∙ wide.back b.0.0 taken.1 taken.2 in
    (subst (λ (k : Input). Takes i (to_be_bytes w n) k) j-is (rw front taken.0), subst (λ (k : ℕ). k < limit) n-is (wide.below b.0.0 taken.2))

bits_again : (w : Width) (limit : ℕ) (wide : IsWide w limit) (n at : ℕ) (rest : List ℕ) → n < limit → bits_at w (from at (to_be_bytes w n ++ rest)) ≡ Ok (n, from (at + length (to_be_bytes w n)) rest)
bits_again w limit wide n at rest lt =
    rw (bytes_again (to_be_bytes w n) rest at (byte_len w) (wide.len n), wide.again n lt, wide.len n) refl

pub bits_reader : (w : Width) (limit : ℕ) → IsWide w limit → IsReader (bits_at w) (to_be_bytes w) (λ n. n < limit)
bits_reader w limit wide = record { takes = λ i j n fits e. bits_take w limit wide i j n fits e; again = λ n at rest lt. bits_again w limit wide n at rest lt }

pub four_reader : IsReader four_at four (λ n. n < 2 ^ 32)
unfolding four_at four
four_reader = bits_reader w32 (2 ^ 32) wide32

pub eight_reader : IsReader eight_at eight (λ n. n < 2 ^ 64)
unfolding eight_at eight
eight_reader = bits_reader w64 (2 ^ 64) wide64

-- ---- numbers of a kind

-- the bits of a number of a kind, and the number of bits
pub record IsCoded (k : Kind) (limit : ℕ) : Type 0 where
  pub wide : IsWide (item_width k) limit
  pub small : (n : ℤ) → is_in_range k n ≡ true → cast_unsigned (item_width k) n < limit
  pub back : (n : ℤ) → is_in_range k n ≡ true → number_of k (cast_unsigned (item_width k) n) ≡ n
  pub bits : (m : ℕ) → m < limit → cast_unsigned (item_width k) (number_of k m) ≡ m

unsigned-small : (w : Width) (limit : ℕ) (n l g : ℤ) → l ≡ pos 0 → g <ℤ pos limit → l ≤ℤ n → n ≤ℤ g → cast_unsigned w n < limit
unsigned-small w limit (pos n) l g z h p q = omega (arith, ints)
unsigned-small w limit (negsuc n) l g z h p q = absurd (omega (arith, ints))

unsigned-back : (w : Width) (n l : ℤ) → l ≡ pos 0 → l ≤ℤ n → pos (cast_unsigned w n) ≡ n
unsigned-back w (pos n) l z p = refl
unsigned-back w (negsuc n) l z p = absurd (omega (arith, ints))

signed32 : (n l g : ℤ) → neg_ℤ (pos (2 ^ 31)) ≤ℤ l → g ≤ℤ pos (2 ^ 31 - 1) → l ≤ℤ n → n ≤ℤ g → FitsSigned w32 n
signed32 (pos n) l g a b p q = record { sfits = omega (arith, ints) }
signed32 (negsuc n) l g a b p q = record { sfits = omega (arith, ints) }

signed64 : (n l g : ℤ) → neg_ℤ (pos (2 ^ 63)) ≤ℤ l → g ≤ℤ pos (2 ^ 63 - 1) → l ≤ℤ n → n ≤ℤ g → FitsSigned w64 n
signed64 (pos n) l g a b p q = record { sfits = omega (arith, ints) }
signed64 (negsuc n) l g a b p q = record { sfits = omega (arith, ints) }

signed_small32 : (n : ℤ) → FitsSigned w32 n → cast_unsigned w32 n < 2 ^ 32
signed_small32 n h = (Fits-of_z h).fits

signed_small64 : (n : ℤ) → FitsSigned w64 n → cast_unsigned w64 n < 2 ^ 64
signed_small64 n h = (Fits-of_z h).fits

coded_u8 : IsCoded U8 (2 ^ 32)
coded_u8 = record {
  wide = wide32;
  small = λ n h. unsigned-small w32 (2 ^ 32) n (pos 0) (greatest U8) refl (omega (arith, ints)) (in_range-least U8 n h) (in_range-greatest U8 n h);
  back = λ n h. unsigned-back w32 n (pos 0) refl (in_range-least U8 n h);
  bits = λ m lt. refl;
}

coded_u16 : IsCoded U16 (2 ^ 32)
coded_u16 = record {
  wide = wide32;
  small = λ n h. unsigned-small w32 (2 ^ 32) n (pos 0) (greatest U16) refl (omega (arith, ints)) (in_range-least U16 n h) (in_range-greatest U16 n h);
  back = λ n h. unsigned-back w32 n (pos 0) refl (in_range-least U16 n h);
  bits = λ m lt. refl;
}

coded_u32 : IsCoded U32 (2 ^ 32)
coded_u32 = record {
  wide = wide32;
  small = λ n h. unsigned-small w32 (2 ^ 32) n (pos 0) (greatest U32) refl (omega (arith, ints)) (in_range-least U32 n h) (in_range-greatest U32 n h);
  back = λ n h. unsigned-back w32 n (pos 0) refl (in_range-least U32 n h);
  bits = λ m lt. refl;
}

coded_u64 : IsCoded U64 (2 ^ 64)
coded_u64 = record {
  wide = wide64;
  small = λ n h. unsigned-small w64 (2 ^ 64) n (pos 0) (greatest U64) refl (omega (arith, ints)) (in_range-least U64 n h) (in_range-greatest U64 n h);
  back = λ n h. unsigned-back w64 n (pos 0) refl (in_range-least U64 n h);
  bits = λ m lt. refl;
}

fits_s8 : (n : ℤ) → is_in_range S8 n ≡ true → FitsSigned w32 n
fits_s8 n h = signed32 n (least S8) (greatest S8) (omega (arith, ints)) (omega (arith, ints)) (in_range-least S8 n h) (in_range-greatest S8 n h)

coded_s8 : IsCoded S8 (2 ^ 32)
coded_s8 = record {
  wide = wide32;
  small = λ n h. signed_small32 n (fits_s8 n h);
  back = λ n h. to_z-of_z w32 n (fits_s8 n h);
  bits = λ m lt. of_z-to_z w32 m lt;
}

fits_s16 : (n : ℤ) → is_in_range S16 n ≡ true → FitsSigned w32 n
fits_s16 n h = signed32 n (least S16) (greatest S16) (omega (arith, ints)) (omega (arith, ints)) (in_range-least S16 n h) (in_range-greatest S16 n h)

coded_s16 : IsCoded S16 (2 ^ 32)
coded_s16 = record {
  wide = wide32;
  small = λ n h. signed_small32 n (fits_s16 n h);
  back = λ n h. to_z-of_z w32 n (fits_s16 n h);
  bits = λ m lt. of_z-to_z w32 m lt;
}

fits_s32 : (n : ℤ) → is_in_range S32 n ≡ true → FitsSigned w32 n
fits_s32 n h = signed32 n (least S32) (greatest S32) (omega (arith, ints)) (omega (arith, ints)) (in_range-least S32 n h) (in_range-greatest S32 n h)

coded_s32 : IsCoded S32 (2 ^ 32)
coded_s32 = record {
  wide = wide32;
  small = λ n h. signed_small32 n (fits_s32 n h);
  back = λ n h. to_z-of_z w32 n (fits_s32 n h);
  bits = λ m lt. of_z-to_z w32 m lt;
}

fits_s64 : (n : ℤ) → is_in_range S64 n ≡ true → FitsSigned w64 n
fits_s64 n h = signed64 n (least S64) (greatest S64) (omega (arith, ints)) (omega (arith, ints)) (in_range-least S64 n h) (in_range-greatest S64 n h)

coded_s64 : IsCoded S64 (2 ^ 64)
coded_s64 = record {
  wide = wide64;
  small = λ n h. signed_small64 n (fits_s64 n h);
  back = λ n h. to_z-of_z w64 n (fits_s64 n h);
  bits = λ m lt. of_z-to_z w64 m lt;
}

abbrev pub limit_of : Kind → ℕ
limit_of U8 = 2 ^ 32
limit_of U16 = 2 ^ 32
limit_of U32 = 2 ^ 32
limit_of U64 = 2 ^ 64
limit_of S8 = 2 ^ 32
limit_of S16 = 2 ^ 32
limit_of S32 = 2 ^ 32
limit_of S64 = 2 ^ 64

pub coded : (k : Kind) → IsCoded k (limit_of k)
coded U8 = coded_u8
coded U16 = coded_u16
coded U32 = coded_u32
coded U64 = coded_u64
coded S8 = coded_s8
coded S16 = coded_s16
coded S32 = coded_s32
coded S64 = coded_s64

item_takes : (k : Kind) (i j : Input) (n : ℤ) → IsBytes i.bytes → item_at k i ≡ Ok (n, j) → Takes i (item k n) j × (is_in_range k n ≡ true)
unfolding item_at item
item_takes k i j n fits e =
    let code = coded k in
    let b = bind_ok (bits_at (item_width k) i) (λ m. cond (is_in_range k (number_of k m.0)) (Ok (number_of k m.0, m.1)) (Err (fault refusal.Range i.at))) (n, j) e in
    let taken = bits_take (item_width k) (limit_of k) code.wide i b.0.1 b.0.0 fits b.1 in
    let g = holds_ok (is_in_range k (number_of k b.0.0)) (fault refusal.Range i.at) (number_of k b.0.0, b.0.1) (n, j) b.2 in
    let text : item k (number_of k b.0.0) ≡ to_be_bytes (item_width k) b.0.0 = ap (to_be_bytes (item_width k)) (code.bits b.0.0 taken.1) in
    subst (λ (p : ℤ × Input). Takes i (item k p.0) p.1 × (is_in_range k p.0 ≡ true)) g.1 (rw text taken.0, g.0)

item_again : (k : Kind) (n : ℤ) (at : ℕ) (rest : List ℕ) → is_in_range k n ≡ true → item_at k (from at (item k n ++ rest)) ≡ Ok (n, from (at + length (item k n)) rest)
unfolding item_at item
item_again k n at rest h =
    let code = coded k in
    let bits = bits_again (item_width k) (limit_of k) code.wide (cast_unsigned (item_width k) n) at rest (code.small n h) in
    rw (bits, code.back n h, h) refl

pub item_reader : (k : Kind) → IsReader (item_at k) (item k) (λ n. is_in_range k n ≡ true)
item_reader k = record { takes = λ i j n fits e. item_takes k i j n fits e; again = λ n at rest h. item_again k n at rest h }
