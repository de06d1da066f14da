-- Functions of a half's text stand at the numbers that they have in the whole program.
use Rattle.std.proofs.Common.{◌≡◌, ℕ, suc, Bool, true, false, not, nat_lt, cond, List, [], ◌∷◌, length, Option, Some, None, refl, ap, ◌∙◌, ◌+◌, arith}
use Rattle.std.proofs.lemmas.Bool.{ltb-true, ltb-false, lt-ltb}
use Rattle.std.specs.List.{position, position_or_len}
use Rattle.std.specs.Option.{option_map}
use Rattle.std.specs.Str.{bytes_eq}
use Rattle.mdr_core.specs.declared.program.Func.{Func}
use Rattle.mdr_program.specs.Parts.{number_among, declared, defined}

-- ---- places by recursion

further : (b : Bool) (n : ℕ) → cond b (Some (suc n)) None ≡ option_map suc (cond b (Some n) None)
further true n = refl
further false n = refl

less_by : (n m : ℕ) (a b : Bool) → nat_lt (suc n) (suc m) ≡ a → nat_lt n m ≡ b → a ≡ b
less_by n m true true p q = refl
less_by n m false false p q = refl
less_by n m true false p q = absurd (omega (arith, ltb-true (suc n) (suc m) p, ltb-false n m q))
less_by n m false true p q = absurd (omega (arith, ltb-false (suc n) (suc m) p, ltb-true n m q))

less : (n m : ℕ) → nat_lt (suc n) (suc m) ≡ nat_lt n m
less n m = less_by n m (nat_lt (suc n) (suc m)) (nat_lt n m) refl refl

abbrev number_if : Bool → ℕ → Option ℕ
number_if b n = cond b (Some n) None

some_first : (m : ℕ) → number_if (nat_lt 0 (suc m)) 0 ≡ Some 0
some_first m = ap (λ (b : Bool). number_if b 0) (lt-ltb 0 (suc m) (omega arith))

pub position_here : {X : Type 0} (p : X → Bool) (x : X) (xs : List X) → p x ≡ true → position p (x ∷ xs) ≡ Some 0
position_here p x xs e = rw e (some_first (length xs))

pub position_there : {X : Type 0} (p : X → Bool) (x : X) (xs : List X) → p x ≡ false → position p (x ∷ xs) ≡ option_map suc (position p xs)
position_there p x xs e =
    ap (λ (b : Bool). cond (nat_lt (cond (not b) (1 + position_or_len p xs) 0) (suc (length xs))) (Some (cond (not b) (1 + position_or_len p xs) 0)) None) e
    ∙ ap (λ (n : ℕ). cond (nat_lt n (suc (length xs))) (Some n) None) (let one : 1 + position_or_len p xs ≡ suc (position_or_len p xs) = omega arith in one)
    ∙ ap (λ (b : Bool). cond b (Some (suc (position_or_len p xs))) None) (less (position_or_len p xs) (length xs))
    ∙ further (nat_lt (position_or_len p xs) (length xs)) (position_or_len p xs)

-- ---- functions by their names

-- the function in place of the first of its name, or behind all others
abbrev pub put_named : List Func → Func → List Func
put_named [] f = f ∷ []
put_named (g ∷ gs) f = cond (bytes_eq g.name f.name) (f ∷ gs) (g ∷ put_named gs f)

-- the function behind all others, unless one has its name
abbrev pub keep_named : List Func → Func → List Func
keep_named [] f = f ∷ []
keep_named (g ∷ gs) f = cond (bytes_eq g.name f.name) (g ∷ gs) (g ∷ keep_named gs f)

defined_there : (g : Func) (gs : List Func) (f : Func) (o : Option ℕ) → defined (g ∷ gs) f (option_map suc o) ≡ g ∷ defined gs f o
defined_there g gs f None = refl
defined_there g gs f (Some i) = refl

declared_there : (g : Func) (gs : List Func) (f : Func) (o : Option ℕ) → declared (g ∷ gs) f (option_map suc o) ≡ g ∷ declared gs f o
declared_there g gs f None = refl
declared_there g gs f (Some i) = refl

abbrev same_name : Func → Func → Bool
same_name f g = bytes_eq g.name f.name

pub defined_put : (fs : List Func) (f : Func) → defined fs f (number_among fs f.name) ≡ put_named fs f
defined_put [] f = refl
defined_put (g ∷ gs) f = by (bytes_eq g.name f.name) refl (defined_put gs f)
  where
    by : (t : Bool) → bytes_eq g.name f.name ≡ t → defined gs f (number_among gs f.name) ≡ put_named gs f → defined (g ∷ gs) f (number_among (g ∷ gs) f.name) ≡ cond t (f ∷ gs) (g ∷ put_named gs f)
    by true e rest = ap (defined (g ∷ gs) f) (position_here (same_name f) g gs e)
    by false e rest = ap (defined (g ∷ gs) f) (position_there (same_name f) g gs e) ∙ defined_there g gs f (number_among gs f.name) ∙ ap (λ (fs : List Func). g ∷ fs) rest

pub declared_keep : (fs : List Func) (f : Func) → declared fs f (number_among fs f.name) ≡ keep_named fs f
declared_keep [] f = refl
declared_keep (g ∷ gs) f = by (bytes_eq g.name f.name) refl (declared_keep gs f)
  where
    by : (t : Bool) → bytes_eq g.name f.name ≡ t → declared gs f (number_among gs f.name) ≡ keep_named gs f → declared (g ∷ gs) f (number_among (g ∷ gs) f.name) ≡ cond t (g ∷ gs) (g ∷ keep_named gs f)
    by true e rest = ap (declared (g ∷ gs) f) (position_here (same_name f) g gs e)
    by false e rest = ap (declared (g ∷ gs) f) (position_there (same_name f) g gs e) ∙ declared_there g gs f (number_among gs f.name) ∙ ap (λ (fs : List Func). g ∷ fs) rest
