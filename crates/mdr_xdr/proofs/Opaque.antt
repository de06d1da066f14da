-- Opaque bytes.
use Rattle.std.proofs.Common.{◌≡◌, ℕ, zero, suc, ◌+◌, ◌^◌, ◌<◌, Bool, true, false, cond, not, List, [], ◌∷◌, ◌++◌, length, take, drop, replicate, Option, Some, None, Ok, refl, sym, ap, subst, ◌∙◌, append_assoc, arith}
use Rattle.std.specs.Prelude.{position, ◌==◌}
use Rattle.std.specs.List.{position_from}
use Rattle.std.proofs.lemmas.Bool.{eqb-true}
use Rattle.std.proofs.lemmas.List.{take_at, drop_at, take-append-drop, length-append, length-take, length-replicate}
use Rattle.std.proofs.lemmas.Iterator.Adapters.{position_from-zero}
use Rattle.mdr_model.specs.Xdr.{Input, ◌>>=◌, four, opaque, padding_of, bytes_at, four_at, padding_fault, unless_fault, opaque_at}
use Rattle.mdr_xdr.specs.Bytes.{IsBytes}
use Rattle.mdr_xdr.proofs.Readers.{bind_ok, done, from, Takes, Takes-then, IsReader, bytes_taken-parts, bytes_again}
use Rattle.mdr_xdr.proofs.Numbers.{four_reader}

abbrev is_nonzero : ℕ → Bool
is_nonzero b = not (b == 0)

-- ---- zeros

zero_is : (b : ℕ) → is_nonzero b ≡ false → b ≡ 0
zero_is b h = eqb-true _ _ (is_not (b == 0) h)
  where
    is_not : (t : Bool) → not t ≡ false → t ≡ true
    is_not true e = refl
    is_not false e = absurd cc

zeros_step : (t : Bool) (i b : ℕ) (xs : List ℕ) → is_nonzero b ≡ t → cond t (Some i) (position_from is_nonzero (i + 1) xs) ≡ None
    → (position_from is_nonzero (i + 1) xs ≡ None → xs ≡ replicate (length xs) 0) → b ∷ xs ≡ 0 ∷ replicate (length xs) 0
zeros_step true i b xs h e more = absurd cc
zeros_step false i b xs h e more = let z = zero_is b h in let others = more e in cc

zeros_from : (i : ℕ) (xs : List ℕ) → position_from is_nonzero i xs ≡ None → xs ≡ replicate (length xs) 0
zeros_from i [] h = refl
zeros_from i (b ∷ xs) h = zeros_step (is_nonzero b) i b xs refl h (λ e. zeros_from (i + 1) xs e)

zeros : (xs : List ℕ) → position is_nonzero xs ≡ None → xs ≡ replicate (length xs) 0
zeros xs h = zeros_from 0 xs (sym (position_from-zero is_nonzero xs) ∙ h)

none_from : (i n : ℕ) → position_from is_nonzero i (replicate n 0) ≡ None
none_from i zero = refl
none_from i (suc n) = none_from (i + 1) n

no_fault : (n : ℕ) → position is_nonzero (replicate n 0) ≡ None
no_fault n = position_from-zero is_nonzero (replicate n 0) ∙ none_from 0 n

unless_ok : {A : Type 0} (at : ℕ) (o : Option ℕ) (x y : A) → unless_fault (padding_fault at o) x ≡ Ok y → (o ≡ None) × (x ≡ y)
unless_ok at None x y e = (refl, cc)
unless_ok at (Some n) x y e = absurd cc

-- ---- the reader

opaque_takes : (i j : Input) (x : List ℕ) → IsBytes i.bytes → opaque_at i ≡ Ok (x, j) → Takes i (opaque x) j × (length x < 2 ^ 32)
unfolding opaque_at opaque
opaque_takes i j x fits e =
    let a = bind_ok (four_at i) (λ n. bytes_at (n.0 + padding_of n.0) n.1 >>= λ bytes. unless_fault (padding_fault (n.1.at + n.0) (position is_nonzero (drop n.0 bytes.0))) (take n.0 bytes.0, bytes.1)) (x, j) e in
    let n = a.0.0 in
    let first = four_reader.takes i a.0.1 n fits a.1 in
    let b = bind_ok (bytes_at (n + padding_of n) a.0.1) (λ bytes. unless_fault (padding_fault (a.0.1.at + n) (position is_nonzero (drop n bytes.0))) (take n bytes.0, bytes.1)) (x, j) a.2 in
    let second = bytes_taken-parts (n + padding_of n) a.0.1 b.0.1 b.0.0 first.0.rest b.1 in
    let g = unless_ok (a.0.1.at + n) (position is_nonzero (drop n b.0.0)) (take n b.0.0, b.0.1) (x, j) b.2 in
    let len : length (take n b.0.0) ≡ n = omega (arith, length-take n b.0.0, second.1) in
    let rest_len : length (drop n b.0.0) ≡ padding_of n = omega (arith, ap length (take-append-drop n b.0.0), length-append (take n b.0.0) (drop n b.0.0), second.1) in
    let padding : drop n b.0.0 ≡ replicate (padding_of n) 0 = zeros (drop n b.0.0) g.0 ∙ ap (λ (k : ℕ). replicate k 0) rest_len in
    let content : b.0.0 ≡ take n b.0.0 ++ replicate (padding_of n) 0 = sym (take-append-drop n b.0.0) ∙ ap (λ (r : List ℕ). take n b.0.0 ++ r) padding in
    let both = Takes-then i a.0.1 b.0.1 (four n) b.0.0 first.0 second.0 in
    let spelled : four n ++ b.0.0 ≡ opaque (take n b.0.0) = ap (λ (r : List ℕ). four n ++ r) content ∙ ap (λ (k : ℕ). four k ++ (take n b.0.0 ++ replicate (padding_of k) 0)) (sym len) in
    subst (λ (p : List ℕ × Input). Takes i (opaque p.0) p.1 × (length p.0 < 2 ^ 32)) g.1 (subst (λ (t : List ℕ). Takes i t b.0.1) spelled both, omega (arith, first.1))

opaque_again : (x : List ℕ) (at : ℕ) (rest : List ℕ) → length x < 2 ^ 32 → opaque_at (from at (opaque x ++ rest)) ≡ Ok (x, from (at + length (opaque x)) rest)
unfolding opaque_at opaque
opaque_again x at rest lt =
    let n = length x in
    let pad = replicate (padding_of n) 0 in
    let regrouped : opaque x ++ rest ≡ four n ++ ((x ++ pad) ++ rest) = append_assoc (four n) (x ++ pad) rest in
    let len : length (x ++ pad) ≡ n + padding_of n = omega (arith, length-append x pad, length-replicate {A = ℕ} (padding_of n) 0) in
    let end : at + length (four n) + (n + padding_of n) ≡ at + length (opaque x) = omega (arith, length-append (four n) (x ++ pad), len) in
    let read : opaque_at (from at (four n ++ ((x ++ pad) ++ rest))) ≡ Ok (x, from (at + length (four n) + (n + padding_of n)) rest) =
    rw (four_reader.again n at ((x ++ pad) ++ rest) lt, bytes_again (x ++ pad) rest (at + length (four n)) (n + padding_of n) len, drop_at x pad n refl, take_at x pad n refl, no_fault (padding_of n)) refl in
    ap (λ (t : List ℕ). opaque_at (from at t)) regrouped ∙ read ∙ ap (λ (k : ℕ). done x (from k rest)) end

pub opaque_reader : IsReader opaque_at opaque (λ x. length x < 2 ^ 32)
opaque_reader = record { takes = λ i j x fits e. opaque_takes i j x fits e; again = λ x at rest lt. opaque_again x at rest lt }
