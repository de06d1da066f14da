-- What a reader takes from the front was spelled there, and what is spelled there is read, whatever follows it.
use Rattle.std.proofs.Common.{◌≡◌, ℕ, ◌+◌, ◌≤◌, Bool, true, false, cond, ltb, List, ◌++◌, length, take, drop, Result, Ok, Err, refl, sym, ap, ◌∙◌, append_assoc, arith, inl, inr}
use Rattle.std.proofs.lemmas.Bool.{cases_lt, ltb-false, le-ltb}
use Rattle.std.proofs.lemmas.List.{take_at, drop_at, take-append-drop, length-append, length-take, get_or-drop, get_or-take, get_or_past}
use Rattle.mdr_core.specs.declared.refusal.RefuseKind.TheVariants as refusal
use Rattle.mdr_model.specs.declared.message.Fault.{Fault}
use Rattle.mdr_model.specs.Faults.{fault}
use Rattle.mdr_model.specs.Xdr.{Input, Read, ◌>>=◌, skipped, bytes_at}
use Rattle.mdr_xdr.specs.Bytes.{IsBytes}

-- ---- bytes

pub IsBytes-drop : (n : ℕ) (bytes : List ℕ) → IsBytes bytes → IsBytes (drop n bytes)
IsBytes-drop n bytes h i = rw get_or-drop (h (n + i))

pub IsBytes-take : (n : ℕ) (bytes : List ℕ) → IsBytes bytes → IsBytes (take n bytes)
IsBytes-take n bytes h i =
    elim (cases_lt i n) [
      | inl lt ↦ rw (get_or-take n bytes i 0 lt) (h i)
      | inr le ↦ rw (get_or_past (take n bytes) i 0 (omega (arith, length-take n bytes))) (omega arith)
    ]

-- ---- steps

-- the value of a step that did not fail
pub bind_ok : {A B : Type 0} (r : Result A Fault) (f : A → Result B Fault) (y : B) → (r >>= f) ≡ Ok y → (x : A) × (r ≡ Ok x) × (f x ≡ Ok y)
bind_ok (Ok x) f y e = (x, refl, e)
bind_ok (Err d) f y e = absurd cc

-- a test that must fail, and did
pub guard_ok : {A : Type 0} (b : Bool) (d : Fault) (x y : A) → cond b (Err d) (Ok x) ≡ Ok y → (b ≡ false) × (x ≡ y)
guard_ok true d x y e = absurd cc
guard_ok false d x y e = (refl, cc)

-- a test that must hold, and did
pub holds_ok : {A : Type 0} (b : Bool) (d : Fault) (x y : A) → cond b (Ok x) (Err d) ≡ Ok y → (b ≡ true) × (x ≡ y)
holds_ok true d x y e = (refl, cc)
holds_ok false d x y e = absurd cc

abbrev pub done : {A : Type 0} → A → Input → Read A
done x i = Ok (x, i)

both_are : {A : Type 0} (p q : A × Input) → ◌≡◌ {A = Read A} (Ok p) (Ok q) → p ≡ q
both_are p q e = cc

pub value_is : {A : Type 0} (x y : A) (i j : Input) → done x i ≡ done y j → x ≡ y
value_is {A} x y i j e = ap (λ (p : A × Input). p.0) (both_are (x, i) (y, j) e)

pub input_is : {A : Type 0} (x y : A) (i j : Input) → done x i ≡ done y j → i ≡ j
input_is {A} x y i j e = ap (λ (p : A × Input). p.1) (both_are (x, i) (y, j) e)

-- ---- readers

abbrev pub from : ℕ → List ℕ → Input
from at bytes = record { at = at; bytes = bytes }

-- the text stands at the front of i, and j is what is left
pub record Takes (i : Input) (text : List ℕ) (j : Input) : Type 0 where
  pub parts : i.bytes ≡ text ++ j.bytes
  pub rest : IsBytes j.bytes

pub Takes-then : (i j k : Input) (x y : List ℕ) → Takes i x j → Takes j y k → Takes i (x ++ y) k
Takes-then i j k x y p q = record { parts = p.parts ∙ ap (λ (t : List ℕ). x ++ t) q.parts ∙ sym (append_assoc x y k.bytes); rest = q.rest }

-- a value is read exactly where bytes begin with its spelling
pub record IsReader {A : Type 0} (reader : Input → Read A) (text : A → List ℕ) (Fits : A → Type 0) : Type 0 where
  pub takes : (i j : Input) (x : A) → IsBytes i.bytes → reader i ≡ Ok (x, j) → Takes i (text x) j × Fits x
  pub again : (x : A) (at : ℕ) (rest : List ℕ) → Fits x → reader (from at (text x ++ rest)) ≡ Ok (x, from (at + length (text x)) rest)

-- ---- bytes of a fixed number

pub bytes_taken : (n : ℕ) (i j : Input) (x : List ℕ) → bytes_at n i ≡ Ok (x, j) → (n ≤ length i.bytes) × (take n i.bytes ≡ x) × (skipped n i ≡ j)
unfolding bytes_at
bytes_taken n i j x e =
    let g = guard_ok (ltb (length i.bytes) n) (fault refusal.Short i.at) (take n i.bytes, skipped n i) (x, j) e in
    (ltb-false _ _ g.0, ap (λ (p : List ℕ × Input). p.0) g.1, ap (λ (p : List ℕ × Input). p.1) g.1)

pub bytes_again : (text rest : List ℕ) (at n : ℕ) → length text ≡ n → bytes_at n (from at (text ++ rest)) ≡ Ok (text, from (at + n) rest)
unfolding bytes_at
bytes_again text rest at n len =
    let long : ltb (length (text ++ rest)) n ≡ false = le-ltb _ _ (omega (arith, length-append text rest)) in
    rw (long, take_at text rest n len, drop_at text rest n len) refl

pub bytes_taken-parts : (n : ℕ) (i j : Input) (x : List ℕ) → IsBytes i.bytes → bytes_at n i ≡ Ok (x, j) → Takes i x j × (length x ≡ n) × IsBytes x
bytes_taken-parts n i j x fits e =
    let b = bytes_taken n i j x e in
    let left : drop n i.bytes ≡ j.bytes = ap (λ (k : Input). k.bytes) b.2 in (
      record { parts = rw (← b.1, ← left) (sym (take-append-drop n i.bytes)); rest = rw (← left) (IsBytes-drop n i.bytes fits) },
      rw (← b.1) (omega (arith, length-take n i.bytes, b.0)),
      rw (← b.1) (IsBytes-take n i.bytes fits),
    )
