-- Numbers of four and of eight bytes as numbers of a kind.
use Rattle.std.proofs.Common.{◌≡◌, ℕ, ◌^◌, ◌<◌, Bool, true, false, cond, Result, Ok, Err, ℤ, pos, ◌-◌, ◌≤ℤ◌, refl, sym, ap, ◌∙◌, arith, to_z, of_z}
use Rattle.std.specs.Prelude.{unsigned_abs}
use Rattle.std.specs.Int.{w128}
use Rattle.std.proofs.lemmas.Int.{ints, to_z_pos}
use Rattle.mdr_core.specs.declared.kind.Kind.{Kind}
use Rattle.mdr_core.specs.declared.kind.Kind.TheVariants.{U32, U64}
use Rattle.mdr_core.specs.declared.refusal.RefuseKind.TheVariants as refusal
use Rattle.mdr_core.specs.Kinds.{is_in_range, greatest}
use Rattle.mdr_core.proofs.Ranges.{in_range-greatest, in_range-from}
use Rattle.mdr_model.specs.declared.message.Fault.{Fault}
use Rattle.mdr_model.specs.Faults.{fault}
use Rattle.mdr_model.specs.Xdr.{Input, Read, ◌>>=◌, four_at, eight_at, item_at}
use Rattle.mdr_xdr.specs.declared.cursor.XdrError.{XdrError}
use Rattle.mdr_xdr.specs.declared.cursor.XdrError.TheVariants as xdr
use Rattle.mdr_xdr.specs.Reads.{fault_of}
use Rattle.mdr_xdr.specs.Bytes.{IsBytes}
use Rattle.mdr_xdr.proofs.Numbers.{four_reader, eight_reader}
use Rattle.mdr_msg.specs.declared.error.MsgError.{MsgError}
use Rattle.mdr_msg.specs.declared.error.MsgError.TheVariants as errors
use Rattle.mdr_msg.specs.Decoding.{error_of, Fails}

pub fails_from : {A : Type 0} (e : XdrError) (m : MsgError) (r : Read A) → m ≡ error_of e → r ≡ Err (fault_of e) → Fails m r
fails_from (xdr.Short at) m r is h = rw is h
fails_from (xdr.Range at) m r is h = rw is h
fails_from (xdr.Padding at) m r is h = rw is h

-- the same fault in another reading
pub fails_as : {A B : Type 0} (e : MsgError) (r : Read A) (s : Read B) → ((f : Fault) → r ≡ Err f → s ≡ Err f) → Fails e r → Fails e s
fails_as (errors.Short at) r s h f = h _ f
fails_as (errors.Range at) r s h f = h _ f
fails_as (errors.Padding at) r s h f = h _ f
fails_as (errors.Kind at) r s h f = h _ f
fails_as (errors.Trailing at) r s h f = h _ f
fails_as errors.OutOfMemory r s h f = tt

-- ---- unsigned numbers

abbrev tested : Kind → ℕ → Read ℕ → Read ℤ
tested k at r = r >>= λ m. cond (is_in_range k (pos m.0)) (Ok (pos m.0, m.1)) (Err (fault refusal.Range at))

-- what a test let through
record IsNumber (k : Kind) (r : Read ℕ) (n : ℤ) (j : Input) : Type 0 where
  value : ℕ
  is : n ≡ pos value
  read : r ≡ Ok (value, j)

passed : (k : Kind) (b : Bool) (at m : ℕ) (i : Input) (n : ℤ) (j : Input) → cond {A = Read ℤ} b (Ok (pos m, i)) (Err (fault refusal.Range at)) ≡ Ok (n, j) → IsNumber k (Ok (m, i)) n j
passed k true at m i n j e =
    let both : ◌≡◌ {A = ℤ × Input} (pos m, i) (n, j) = pair_is e in
    record { value = m; is = ap (λ (p : ℤ × Input). p.0) (sym both); read = ap (λ (x : Input). Ok (m, x)) (ap (λ (p : ℤ × Input). p.1) both) }
  where
    pair_is : {A : Type 0} {p q : A} → ◌≡◌ {A = Result A Fault} (Ok p) (Ok q) → p ≡ q
    pair_is h = cc
passed k false at m i n j e = absurd cc

tested_ok : (k : Kind) (at : ℕ) (r : Read ℕ) (n : ℤ) (j : Input) → tested k at r ≡ Ok (n, j) → IsNumber k r n j
tested_ok k at (Ok m) n j e = passed k (is_in_range k (pos m.0)) at m.0 m.1 n j e
tested_ok k at (Err f) n j e = absurd cc

tested_err : (k : Kind) (at : ℕ) (r : Read ℕ) (f : Fault) → ((m : ℕ) (j : Input) → r ≡ Ok (m, j) → is_in_range k (pos m) ≡ true) → tested k at r ≡ Err f → r ≡ Err f
tested_err k at (Ok m) f h e = let in_range = h m.0 m.1 refl in let ok : tested k at (Ok m) ≡ Ok (pos m.0, m.1) = rw in_range refl in absurd (apart (sym ok ∙ e))
  where
    apart : {A : Type 0} {x : A} {d : Fault} → ◌≡◌ {A = Result A Fault} (Ok x) (Err d) → ⊥
    apart h = absurd cc
tested_err k at (Err g) f h e = err_is e
  where
    err_is : {A B : Type 0} {d g : Fault} → ◌≡◌ {A = Result A Fault} (Err g) (Err d) → ◌≡◌ {A = Result B Fault} (Err g) (Err d)
    err_is h = cc

-- a natural number of the code's widest integers, as another type takes it
abbrev natural : ℤ → ℕ
natural n = unsigned_abs (to_z w128 (of_z w128 n))

natural_is : (k : Kind) (r : Read ℕ) (n : ℤ) (j : Input) → greatest k ≤ℤ pos (2 ^ 64 - 1) → is_in_range k n ≡ true → IsNumber k r n j → r ≡ Ok (natural n, j)
natural_is k r n j small h number =
    let below = in_range-greatest k n h in
    let is = number.is in
    let fits : number.value < 2 ^ 127 = omega (arith, ints) in
    let same : natural n ≡ number.value = rw is (ap unsigned_abs (to_z_pos w128 number.value fits)) in
    number.read ∙ ap (λ (m : ℕ). Ok (m, j)) (sym same)

pub four_ok : (i j : Input) (n : ℤ) → is_in_range U32 n ≡ true → item_at U32 i ≡ Ok (n, j) → four_at i ≡ Ok (natural n, j)
unfolding item_at four_at
four_ok i j n h e = natural_is U32 (four_at i) n j (omega (arith, ints)) h (tested_ok U32 i.at (four_at i) n j e)

pub eight_ok : (i j : Input) (n : ℤ) → is_in_range U64 n ≡ true → item_at U64 i ≡ Ok (n, j) → eight_at i ≡ Ok (natural n, j)
unfolding item_at eight_at
eight_ok i j n h e = natural_is U64 (eight_at i) n j (omega (arith, ints)) h (tested_ok U64 i.at (eight_at i) n j e)

four_err : (i : Input) (f : Fault) → IsBytes i.bytes → item_at U32 i ≡ Err f → four_at i ≡ Err f
unfolding item_at four_at
four_err i f fits e = tested_err U32 i.at (four_at i) f (λ m j is. in_range-from U32 (pos m) (omega (arith, ints)) (let small = (four_reader.takes i j m fits is).1 in omega (arith, ints))) e

eight_err : (i : Input) (f : Fault) → IsBytes i.bytes → item_at U64 i ≡ Err f → eight_at i ≡ Err f
unfolding item_at eight_at
eight_err i f fits e = tested_err U64 i.at (eight_at i) f (λ m j is. in_range-from U64 (pos m) (omega (arith, ints)) (let small = (eight_reader.takes i j m fits is).1 in omega (arith, ints))) e

pub four_fails : (i : Input) (e : MsgError) → IsBytes i.bytes → Fails e (item_at U32 i) → Fails e (four_at i)
four_fails i e fits h = fails_as e (item_at U32 i) (four_at i) (λ f is. four_err i f fits is) h

pub eight_fails : (i : Input) (e : MsgError) → IsBytes i.bytes → Fails e (item_at U64 i) → Fails e (eight_at i)
eight_fails i e fits h = fails_as e (item_at U64 i) (eight_at i) (λ f is. eight_err i f fits is) h
