-- What is found by its name, in a list that grows.
use Rattle.std.proofs.Common.{◌≡◌, ℕ, suc, Bool, true, false, cond, List, [], ◌∷◌, ◌++◌, Some, None, refl, sym, ap, ◌∙◌, subst, slice_get, is_some}
use Rattle.std.specs.List.{find}
use Rattle.std.specs.Str.{bytes_eq}
use Rattle.std.proofs.lemmas.Slice.Eq.{bytes_eq-Decides}

-- one of a list that passes a test
pub record FoundAt {A : Type 0} (test : A → Bool) (xs : List A) (x : A) : Type 0 where
  pub number : ℕ
  pub names : slice_get xs number ≡ Some x
  pub passes : test x ≡ true

found_later : {A : Type 0} (test : A → Bool) (y : A) (xs : List A) (x : A) → FoundAt test xs x → FoundAt test (y ∷ xs) x
found_later test y xs x f = record { number = suc f.number; names = f.names; passes = f.passes }

pub found_at : {A : Type 0} (test : A → Bool) (xs : List A) (x : A) → find test xs ≡ Some x → FoundAt test xs x
found_at test [] x e = absurd cc
found_at {A = A} test (y ∷ ys) x e = by (test y) refl (found_at test ys x)
  where
    same : {y x : A} → Some y ≡ Some x → y ≡ x
    same q = cc

    by : (t : Bool) → test y ≡ t → (find test ys ≡ Some x → FoundAt test ys x) → FoundAt test (y ∷ ys) x
    by true q rest =
        let is : y ≡ x = same (sym (ap (λ (t : Bool). cond t (Some y) (find test ys)) q) ∙ e) in
        record { number = 0; names = ap Some is; passes = subst (λ z. test z ≡ true) is q }
    by false q rest = found_later test y ys x (rest (sym (ap (λ (t : Bool). cond t (Some y) (find test ys)) q) ∙ e))

-- a name that is found is found in a longer list
pub found_more : {A : Type 0} (test : A → Bool) (xs ys : List A) → is_some (find test xs) ≡ true → is_some (find test (xs ++ ys)) ≡ true
found_more test [] ys e = absurd cc
found_more test (x ∷ xs) ys e = by (test x) refl (found_more test xs ys)
  where
    by : (t : Bool) → test x ≡ t → (is_some (find test xs) ≡ true → is_some (find test (xs ++ ys)) ≡ true) → is_some (cond (test x) (Some x) (find test (xs ++ ys))) ≡ true
    by true q rest = ap (λ (t : Bool). is_some (cond t (Some x) (find test (xs ++ ys)))) q
    by false q rest = ap (λ (t : Bool). is_some (cond t (Some x) (find test (xs ++ ys)))) q ∙ rest (sym (ap (λ (t : Bool). is_some (cond t (Some x) (find test xs))) q) ∙ e)

-- what is put behind a list is found there
pub found_last : {A : Type 0} (test : A → Bool) (xs : List A) (x : A) → test x ≡ true → is_some (find test (xs ++ x ∷ [])) ≡ true
found_last test [] x e = ap (λ (t : Bool). is_some (cond t (Some x) None)) e
found_last test (y ∷ ys) x e = by (test y) refl (found_last test ys x e)
  where
    by : (t : Bool) → test y ≡ t → is_some (find test (ys ++ x ∷ [])) ≡ true → is_some (cond (test y) (Some y) (find test (ys ++ x ∷ []))) ≡ true
    by true q rest = ap (λ (t : Bool). is_some (cond t (Some y) (find test (ys ++ x ∷ [])))) q
    by false q rest = ap (λ (t : Bool). is_some (cond t (Some y) (find test (ys ++ x ∷ [])))) q ∙ rest

pub same_bytes : (xs ys : List ℕ) → bytes_eq xs ys ≡ true → xs ≡ ys
same_bytes xs ys e = (bytes_eq-Decides xs ys).0 e

pub bytes_same : (xs : List ℕ) → bytes_eq xs xs ≡ true
bytes_same xs = (bytes_eq-Decides xs xs).1 refl
