-- Where a binary search ends: at the first that isn't smaller. There the thing stands, or it is nowhere.
use Rattle.std.proofs.Common.{◌≡◌, ℕ, zero, suc, ◌+◌, ◌<◌, ◌≤◌, Bool, true, false, cond, List, [], ◌∷◌, length, Option, Some, None, get_or, refl, sym, ◌∙◌, ap, subst, arith}
use Rattle.std.specs.Prelude.{slice_get, slice_index_or}
use Rattle.std.specs.List.{prefix_len}
use Rattle.std.specs.List.Sorted.{IsPartitionPoint, IsPartitionedBy}
use Rattle.mdr_copy.specs.Searches.{IsNowhere, IsFirstAt, IsSearchable}

not_both : (b : Bool) → b ≡ true → b ≡ false → ⊥
not_both true e f = absurd cc
not_both false e f = absurd cc

one_more : (n : ℕ) → 1 + n ≡ suc n
one_more n = omega arith

pub nowhere_at : {X : Type 0} (p : X → Bool) (xs : List X) (i : ℕ) (d : X) → IsNowhere p xs → i < length xs → p (slice_index_or xs i d) ≡ false
nowhere_at p [] i d h l = absurd (omega (arith, l))
nowhere_at p (x ∷ xs) zero d h l = h.0
nowhere_at p (x ∷ xs) (suc i) d h l = nowhere_at p xs i d h.1 (omega (arith, l))

-- ---- what a binary search asks

pub parted : {X : Type 0} (p q : X → Bool) (xs : List X) → IsSearchable p q xs → IsPartitionedBy p xs
parted p q [] h i j d le l e = absurd (omega (arith, l))
parted p q (x ∷ xs) h zero zero d le l e = e
parted p q (x ∷ xs) h zero (suc j) d le l e = of (p x) refl
  where
    of : (t : Bool) → p x ≡ t → p x ≡ true
    of true f = f
    of false f = absurd (not_both (p (slice_index_or xs j d)) e (nowhere_at p xs j d (h.1.0 f) (omega (arith, l))))
parted p q (x ∷ xs) h (suc i) zero d le l e = absurd (omega (arith, le))
parted p q (x ∷ xs) h (suc i) (suc j) d le l e = parted p q xs h.1.1.1 i j d (omega (arith, le)) (omega (arith, l)) e

-- ---- and where it ends

pub ends_at : {X : Type 0} (p : X → Bool) (xs : List X) (i : ℕ) → i ≤ length xs → IsPartitionPoint (λ y. p y ≡ true) (λ y. p y ≡ false) xs i → i ≡ prefix_len p xs
ends_at p [] zero l h = refl
ends_at p [] (suc i) l h = absurd (omega (arith, l))
ends_at p (x ∷ xs) zero l h = sym (ap (λ (t : Bool). cond t (1 + prefix_len p xs) 0) (h.1 0 x (omega arith) (omega arith)))
ends_at p (x ∷ xs) (suc i) l h =
    ap suc (ends_at p xs i (omega (arith, l)) (λ k d le m. h.0 (suc k) d (omega arith) (omega (arith, m)), λ k d le m. h.1 (suc k) d (omega (arith, le)) (omega (arith, m))))
    ∙ sym (one_more (prefix_len p xs))
    ∙ sym (ap (λ (t : Bool). cond t (1 + prefix_len p xs) 0) (h.0 0 x (omega arith) (omega arith)))

-- ---- what stands there

-- what is known of a list by what stands at a place
abbrev pub Tells : {X : Type 0} → (X → Bool) → List X → ℕ → Option X → Type 0
Tells q xs i None = IsNowhere q xs
Tells q xs i (Some x) = (q x ≡ true → IsFirstAt q xs i) × (q x ≡ false → IsNowhere q xs)

behind : {X : Type 0} (q : X → Bool) (x : X) (xs : List X) (i : ℕ) (o : Option X) → q x ≡ false → Tells q xs i o → Tells q (x ∷ xs) (suc i) o
behind q x xs i None e a = (e, a)
behind q x xs i (Some y) e a = (λ t. (e, a.0 t), λ f. (e, a.1 f))

tells : {X : Type 0} (p q : X → Bool) (xs : List X) → IsSearchable p q xs → Tells q xs (prefix_len p xs) (slice_get xs (prefix_len p xs))
tells p q [] h = tt
tells p q (x ∷ xs) h = of (p x) refl (tells p q xs h.1.1.1)
  where
    Here : ℕ → Type 0
    Here n = Tells q (x ∷ xs) n (slice_get (x ∷ xs) n)

    of : (t : Bool) → p x ≡ t → Tells q xs (prefix_len p xs) (slice_get xs (prefix_len p xs)) → Here (prefix_len p (x ∷ xs))
    of true e later =
        subst Here (sym (one_more (prefix_len p xs)) ∙ sym (ap (λ (t : Bool). cond t (1 + prefix_len p xs) 0) e))
        (behind q x xs (prefix_len p xs) (slice_get xs (prefix_len p xs)) (h.0 e) later)
    of false e later = subst Here (sym (ap (λ (t : Bool). cond t (1 + prefix_len p xs) 0) e)) (λ t. t, λ f. (f, h.1.1.0 e f))

got : {X : Type 0} (xs : List X) (i : ℕ) (x : X) → i < length xs → x ≡ get_or xs i x → slice_get xs i ≡ Some x
got [] i x l e = absurd (omega (arith, l))
got (y ∷ xs) zero x l e = ap Some (sym e)
got (y ∷ xs) (suc i) x l e = got xs i x (omega (arith, l)) e

past : {X : Type 0} (xs : List X) (i : ℕ) → length xs ≤ i → slice_get xs i ≡ None
past [] i l = refl
past (y ∷ xs) zero l = absurd (omega (arith, l))
past (y ∷ xs) (suc i) l = past xs i (omega (arith, l))

told_at : {X : Type 0} (p q : X → Bool) (xs : List X) (i : ℕ) (o : Option X) → IsSearchable p q xs → i ≡ prefix_len p xs → slice_get xs i ≡ o → Tells q xs i o
told_at p q xs i o h e is =
    let at : Tells q xs i (slice_get xs i) = subst (λ n. Tells q xs n (slice_get xs n)) (sym e) (tells p q xs h) in
    subst (Tells q xs i) is at

-- the thing is found
pub found : {X : Type 0} (p q : X → Bool) (xs : List X) (i : ℕ) (x : X) → IsSearchable p q xs → i ≡ prefix_len p xs → i < length xs → x ≡ get_or xs i x → q x ≡ true → IsFirstAt q xs i
found p q xs i x h e l is t = (told_at p q xs i (Some x) h e (got xs i x l is)).0 t

-- another stands there
pub another : {X : Type 0} (p q : X → Bool) (xs : List X) (i : ℕ) (x : X) → IsSearchable p q xs → i ≡ prefix_len p xs → i < length xs → x ≡ get_or xs i x → q x ≡ false → IsNowhere q xs
another p q xs i x h e l is f = (told_at p q xs i (Some x) h e (got xs i x l is)).1 f

-- all are smaller
pub smaller : {X : Type 0} (p q : X → Bool) (xs : List X) (i : ℕ) → IsSearchable p q xs → i ≡ prefix_len p xs → length xs ≤ i → IsNowhere q xs
smaller p q xs i h e l = told_at p q xs i None h e (past xs i l)
