-- Tests on bytes and lists.
use Rattle.std.proofs.Common.{◌≡◌, ℕ, suc, Bool, true, false, ◌+◌, List, [], ◌∷◌, ◌++◌, length, take, refl, sym, ap, subst, ◌∙◌, arith}
use Rattle.std.specs.Prelude.{◌==◌, ◌&&◌, ◌||◌, not, slice_index}
use Rattle.std.specs.List.{AllByRecursion, list_all, prefix_len}
use Rattle.std.specs.Str.{bytes_eq}
use Rattle.std.proofs.lemmas.Bool.{false≢true, eqb-true}
use Rattle.std.proofs.lemmas.Slice.Eq.{bytes_eq-Decides}
use Rattle.mdr_roundtrip.specs.Words.{is_among}

pub both : (a b : Bool) → (a && b) ≡ true → (a ≡ true) × (b ≡ true)
both true b e = (refl, e)
both false b e = absurd (false≢true e)

pub or_right : (a b : Bool) → b ≡ true → (a || b) ≡ true
or_right true b e = refl
or_right false b e = e

pub not_true : (a : Bool) → not a ≡ true → a ≡ false
not_true true e = absurd (false≢true e)
not_true false e = refl

-- a byte of a class isn't one outside it
pub not_when : (p : ℕ → Bool) (x c : ℕ) → p x ≡ true → p c ≡ false → (x == c) ≡ false
not_when p x c h n = on (x == c) refl
  where
    on : (t : Bool) → (x == c) ≡ t → t ≡ false
    on false e = refl
    on true e = absurd (false≢true (sym n ∙ subst (λ (y : ℕ). p y ≡ true) (eqb-true x c e) h))

pub never_when : (p : ℕ → Bool) (x c : ℕ) → p x ≡ true → p c ≡ false → (c == x) ≡ false
never_when p x c h n = on (c == x) refl
  where
    on : (t : Bool) → (c == x) ≡ t → t ≡ false
    on false e = refl
    on true e = absurd (false≢true (sym n ∙ subst (λ (y : ℕ). p y ≡ true) (sym (eqb-true c x e)) h))

-- what holds of each text holds of one that is among them
pub among : (P : List ℕ → Type 0) (texts : List (List ℕ)) (text : List ℕ) → AllByRecursion P texts → is_among texts text ≡ true → P text
among P [] text h e = absurd (false≢true e)
among P (t ∷ texts) text h e = on (bytes_eq t text) refl e (λ k. among P texts text h.1 k)
  where
    on : (b : Bool) → bytes_eq t text ≡ b → (b || is_among texts text) ≡ true → (is_among texts text ≡ true → P text) → P text
    on true q k more = subst P ((bytes_eq-Decides t text).0 q) h.0
    on false q k more = more k

pub prefix_front : (p : ℕ → Bool) (xs rest : List ℕ) → list_all p xs ≡ true → p (slice_index rest 0) ≡ false → prefix_len p (xs ++ rest) ≡ length xs
prefix_front p [] [] a e = refl
prefix_front p [] (x ∷ rest) a e = rw e refl
prefix_front p (x ∷ xs) rest a e =
    let h = both (p x) (list_all p xs) a in
    let here : p x ≡ true = h.0 in
    let more : prefix_len p (xs ++ rest) ≡ length xs = prefix_front p xs rest h.1 e in
    rw here (omega (arith, more))

pub front_taken : (bytes rest : List ℕ) → take (length bytes) (bytes ++ rest) ≡ bytes
front_taken [] rest = refl
front_taken (b ∷ bytes) rest = ap (λ (bs : List ℕ). b ∷ bs) (front_taken bytes rest)

pub taken : (b : ℕ) (bs rest : List ℕ) → take (1 + length bs) (b ∷ (bs ++ rest)) ≡ b ∷ bs
taken b bs rest = let e : 1 + length bs ≡ suc (length bs) = omega arith in ap (λ (n : ℕ). take n (b ∷ (bs ++ rest))) e ∙ front_taken (b ∷ bs) rest

pub all_joined : (p : ℕ → Bool) (xs ys : List ℕ) → list_all p xs ≡ true → list_all p ys ≡ true → list_all p (xs ++ ys) ≡ true
all_joined p [] ys a b = b
all_joined p (x ∷ xs) ys a b = let h = both (p x) (list_all p xs) a in let here : p x ≡ true = h.0 in rw here (all_joined p xs ys h.1 b)

pub all_weaker : (p q : ℕ → Bool) (xs : List ℕ) → ((x : ℕ) → p x ≡ true → q x ≡ true) → list_all p xs ≡ true → list_all q xs ≡ true
all_weaker p q [] f a = refl
all_weaker p q (x ∷ xs) f a = let h = both (p x) (list_all p xs) a in let here : q x ≡ true = f x h.0 in rw here (all_weaker p q xs f h.1)
