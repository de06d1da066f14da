-- Parts that are gathered one behind the other.
use Rattle.std.proofs.Common.{ℕ, ◌≡◌, ◌<◌, refl, List, [], ◌∷◌, append_assoc, append-nil, Result, Ok, Err, ap, ◌+◌, length, get_or, drop, take, ◌++◌}
use Rattle.std.proofs.Math.Path.{sym, ◌∙◌}
use Rattle.std.proofs.lemmas.List.{at_drop_more, take_more}
use Rattle.mdr_faults.specs.declared.fault.Fault.{Fault}
use Rattle.mdr_faults.specs.Faults.{Checked, Right, Wrong, next, told, first, extended, followed}
use Rattle.mdr_faults.proofs.Order.{lesser_assoc}

pub followed_next : {A : Type 0} (a : Result (List A) Fault) (c : Checked A) (cs : Checked (List A)) → followed (extended a (told c)) (told cs) ≡ followed a (told (next c cs))
followed_next (Ok xs) (Right x) (Right ys) = ap Ok (append_assoc xs (x ∷ []) ys)
followed_next (Ok xs) (Right x) (Wrong g) = refl
followed_next (Ok xs) (Wrong f) (Right ys) = refl
followed_next (Ok xs) (Wrong f) (Wrong g) = refl
followed_next (Err e) (Right x) (Right ys) = refl
followed_next (Err e) (Right x) (Wrong g) = refl
followed_next (Err e) (Wrong f) (Right ys) = refl
followed_next (Err e) (Wrong f) (Wrong g) = ap Err (lesser_assoc e (first f) (first g))

pub followed_none : {A : Type 0} (a : Result (List A) Fault) → followed a (Ok []) ≡ a
followed_none (Ok xs) = ap Ok (append-nil xs)
followed_none (Err e) = refl

-- a loop over a form's parts, at one part
pub one_more : {X A : Type 0} (F : List X → Checked (List A)) (c : Checked A) (cs : Checked (List A)) (xs : List X) (i : ℕ) (x : X) (a a1 w : Result (List A) Fault) → i < length xs → x ≡ get_or xs i x → F (x ∷ drop (i + 1) xs) ≡ next c cs → a1 ≡ extended a (told c) → followed a (told (F (drop i xs))) ≡ w → followed a1 (told cs) ≡ w
one_more {X = X} {A = A} F c cs xs i x a a1 w inside is step grown so_far =
    let moved : F (drop i xs) ≡ next c cs = at_drop_more F xs i x inside ∙ ap (λ (y : X). F (y ∷ drop (i + 1) xs)) (sym is) ∙ step in
    ap (λ r. followed r (told cs)) grown ∙ followed_next a c cs ∙ sym (ap (λ d. followed a (told d)) moved) ∙ so_far

-- the same where a part is judged among those before it
pub one_behind : {X A : Type 0} (F : List X → List X → Checked (List A)) (G : List X → X → Checked A) → ((before : List X) (x : X) (rest : List X) → F before (x ∷ rest) ≡ next (G before x) (F (before ++ x ∷ []) rest)) → (xs : List X) (i : ℕ) (x : X) (a a1 w : Result (List A) Fault) → i < length xs → x ≡ get_or xs i x → a1 ≡ extended a (told (G (take i xs) x)) → followed a (told (F (take i xs) (drop i xs))) ≡ w → followed a1 (told (F (take (i + 1) xs) (drop (i + 1) xs))) ≡ w
one_behind F G step xs i x a a1 w inside is grown so_far =
    let one : take (i + 1) xs ≡ take i xs ++ x ∷ [] = take_more xs i x inside ∙ ap (λ y. take i xs ++ y ∷ []) (sym is) in
    one_more (F (take i xs)) (G (take i xs) x) (F (take (i + 1) xs) (drop (i + 1) xs)) xs i x a a1 w inside is (step (take i xs) x (drop (i + 1) xs) ∙ ap (λ b. next (G (take i xs) x) (F b (drop (i + 1) xs))) (sym one)) grown so_far
