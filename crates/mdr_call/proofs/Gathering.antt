-- Parts that are gathered in their order, each with its number.
use Rattle.std.proofs.Common.{ℕ, ◌≡◌, ◌+◌, refl, List, [], ◌∷◌, ◌++◌, Result, Ok, Err, ap, length, arith}
use Rattle.std.proofs.Math.Path.{sym, ◌∙◌}
use Rattle.mdr_faults.specs.declared.fault.Fault.{Fault}
use Rattle.mdr_faults.specs.Faults.{Checked, Right, Wrong, next, told, lesser, extended}
use Rattle.mdr_faults.proofs.Order.{lesser_assoc}

-- one part in front of others
abbrev fronted : {A : Type 0} → Result A Fault → Result (List A) Fault → Result (List A) Fault
fronted (Ok x) (Ok xs) = Ok (x ∷ xs)
fronted (Ok x) (Err g) = Err g
fronted (Err f) (Ok xs) = Err f
fronted (Err f) (Err g) = Err (lesser f g)

fronted_told : {A : Type 0} (c : Checked A) (cs : Checked (List A)) → told (next c cs) ≡ fronted (told c) (told cs)
fronted_told (Right x) (Right xs) = refl
fronted_told (Right x) (Wrong g) = refl
fronted_told (Wrong f) (Right xs) = refl
fronted_told (Wrong f) (Wrong g) = refl

first_of_none : {A : Type 0} (r : Result A Fault) → extended (Ok []) r ≡ fronted r (Ok [])
first_of_none (Ok x) = refl
first_of_none (Err f) = refl

front_and_end : {A : Type 0} (a : Result A Fault) (r : Result (List A) Fault) (b : Result A Fault) → extended (fronted a r) b ≡ fronted a (extended r b)
front_and_end (Ok x) (Ok xs) (Ok y) = refl
front_and_end (Ok x) (Ok xs) (Err h) = refl
front_and_end (Ok x) (Err g) (Ok y) = refl
front_and_end (Ok x) (Err g) (Err h) = refl
front_and_end (Err f) (Ok xs) (Ok y) = refl
front_and_end (Err f) (Ok xs) (Err h) = refl
front_and_end (Err f) (Err g) (Ok y) = refl
front_and_end (Err f) (Err g) (Err h) = ap Err (lesser_assoc f g h)

-- one part more behind those so far, which are counted from i on
pub one_behind_all : {X A : Type 0} (f : ℕ → X → Checked A) (F : ℕ → List X → Checked (List A)) → ((i : ℕ) → F i [] ≡ Right []) → ((i : ℕ) (x : X) (xs : List X) → F i (x ∷ xs) ≡ next (f i x) (F (i + 1) xs)) → (xs : List X) (i j : ℕ) (x : X) → j ≡ i + length xs → extended (told (F i xs)) (told (f j x)) ≡ told (F i (xs ++ x ∷ []))
one_behind_all f F none some [] i j x at =
    let same : j ≡ i = omega (arith, at) in
    ap (λ c. extended (told c) (told (f j x))) (none i) ∙ first_of_none (told (f j x)) ∙ ap (λ j. fronted (told (f j x)) (Ok [])) same
    ∙ sym (ap told (some i x []) ∙ fronted_told (f i x) (F (i + 1) []) ∙ ap (λ c. fronted (told (f i x)) (told c)) (none (i + 1)))
one_behind_all f F none some (y ∷ ys) i j x at =
    let further : j ≡ (i + 1) + length ys = omega (arith, at) in
    ap (λ c. extended (told c) (told (f j x))) (some i y ys) ∙ ap (λ r. extended r (told (f j x))) (fronted_told (f i y) (F (i + 1) ys)) ∙ front_and_end (told (f i y)) (told (F (i + 1) ys)) (told (f j x))
    ∙ ap (fronted (told (f i y))) (one_behind_all f F none some ys (i + 1) j x further)
    ∙ sym (ap told (some i y (ys ++ x ∷ [])) ∙ fronted_told (f i y) (F (i + 1) (ys ++ x ∷ [])))

pub one_longer : {X : Type 0} (xs : List X) (x : X) → length (xs ++ x ∷ []) ≡ length xs + 1
one_longer [] x = refl
one_longer (y ∷ ys) x = let rest : length (ys ++ x ∷ []) ≡ length ys + 1 = one_longer ys x in omega (arith, rest)
