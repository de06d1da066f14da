-- Reading items one after the other, as a loop does.
use Rattle.std.proofs.Common.{◌≡◌, ℕ, suc, ◌-◌, ◌+◌, ◌≤◌, ◌<◌, List, [], ◌∷◌, ◌++◌, Ok, Err, refl, sym, ap, ◌∙◌, append_assoc, arith}
use Rattle.std.proofs.lemmas.List.{append-nil}
use Rattle.mdr_model.specs.Xdr.{Input, Read, ◌>>=◌, items_at}
use Rattle.mdr_msg.specs.declared.error.MsgError.{MsgError}
use Rattle.mdr_msg.specs.Decoding.{Fails}
use Rattle.mdr_msg.proofs.Unsigned.{fails_as}

-- what was read before, and what is still read
abbrev pub with_front : {A : Type 0} → List A → Read (List A) → Read (List A)
with_front front read = read >>= λ x. Ok (front ++ x.0, x.1)

regroup : {A : Type 0} (front : List A) (x : A) (read : Read (List A)) → with_front front (read >>= λ y. Ok (x ∷ y.0, y.1)) ≡ with_front (front ++ x ∷ []) read
regroup front x (Ok y) = ap (λ xs. Ok (xs, y.1)) (sym (append_assoc front (x ∷ []) y.0))
regroup front x (Err f) = refl

pub goes_on : {A : Type 0} (one : Input → Read A) (front : List A) (count i : ℕ) (from : Input) (x : A) (after : Input) (total : Read (List A))
    → i < count → one from ≡ Ok (x, after) → with_front front (items_at one (count - i) from) ≡ total
    → with_front (front ++ x ∷ []) (items_at one (count - (i + 1)) after) ≡ total
unfolding items_at
goes_on one front count i from x after total lt h so_far =
    let k : count - i ≡ suc (count - (i + 1)) = omega arith in
    let step : with_front front (items_at one (count - i) from) ≡ with_front (front ++ x ∷ []) (items_at one (count - (i + 1)) after) = rw (k, h) (regroup front x (items_at one (count - (i + 1)) after)) in
    sym step ∙ so_far

pub ends : {A : Type 0} (one : Input → Read A) (e : MsgError) (front : List A) (count i : ℕ) (from : Input) (total : Read (List A))
    → i < count → Fails e (one from) → with_front front (items_at one (count - i) from) ≡ total → Fails e total
unfolding items_at
ends one e front count i from total lt h so_far =
    let k : count - i ≡ suc (count - (i + 1)) = omega arith in
    fails_as e (one from) total (λ f g. let step : with_front front (items_at one (count - i) from) ≡ Err f = rw (k, g) refl in sym so_far ∙ step) h

pub is_done : {A : Type 0} (one : Input → Read A) (front : List A) (count i : ℕ) (from : Input) (total : Read (List A))
    → count ≤ i → with_front front (items_at one (count - i) from) ≡ total → total ≡ Ok (front, from)
unfolding items_at
is_done one front count i from total le so_far =
    let k : count - i ≡ 0 = omega arith in
    let step : with_front front (items_at one (count - i) from) ≡ Ok (front, from) = rw k (ap (λ xs. Ok (xs, from)) (append-nil front)) in
    sym so_far ∙ step
