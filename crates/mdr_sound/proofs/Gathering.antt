-- Parts that are gathered one behind the other: each stands for what it was made of.
use Rattle.std.proofs.Common.{◌≡◌, ℕ, zero, suc, List, [], ◌∷◌, ◌++◌, length, Some, slice_get, refl, sym, ap, subst, ◌∙◌}
use Rattle.mdr_core.proofs.Viewed.{some_same}
use Rattle.mdr_faults.specs.Faults.{Checked, Right, next}
use Rattle.mdr_sound.proofs.Rights.{both_right, same_right}

-- two lists of one length, item by item
abbrev pub Pairwise : {D X : Type 0} → (D → X → Type 0) → List D → List X → Type 0
Pairwise R [] [] = Unit {0}
Pairwise R [] (x ∷ xs) = ⊥
Pairwise R (d ∷ ds) [] = ⊥
Pairwise R (d ∷ ds) (x ∷ xs) = R d x × Pairwise R ds xs

-- the item of the one list at the place of that of the other
pub record Pair {D X : Type 0} (R : D → X → Type 0) (ds : List D) (xs : List X) (i : ℕ) (d : D) (x : X) : Type 0 where
  pub left : slice_get ds i ≡ Some d
  pub right : slice_get xs i ≡ Some x
  pub related : R d x

later : {D X : Type 0} (R : D → X → Type 0) (ds : List D) (xs : List X) (e : D) (y : X) (i : ℕ) (d : D) (x : X) → Pair R ds xs i d x → Pair R (e ∷ ds) (y ∷ xs) (suc i) d x
later R ds xs e y i d x p = record { left = p.left; right = p.right; related = p.related }

pub pair_of_left : {D X : Type 0} (R : D → X → Type 0) (ds : List D) (xs : List X) (i : ℕ) (d : D) → Pairwise R ds xs → slice_get ds i ≡ Some d → (x : X) × Pair R ds xs i d x
pair_of_left R [] [] i d h e = cc
pair_of_left R [] (y ∷ ys) i d h e = absurd h
pair_of_left R (f ∷ fs) [] i d h e = absurd h
pair_of_left R (f ∷ fs) (y ∷ ys) zero d h e = (y, record { left = e; right = refl; related = subst (λ g. R g y) (some_same e) h.0 })
pair_of_left R (f ∷ fs) (y ∷ ys) (suc i) d h e = let r = pair_of_left R fs ys i d h.1 e in (r.0, later R fs ys f y i d r.0 r.1)

pub pair_of_right : {D X : Type 0} (R : D → X → Type 0) (ds : List D) (xs : List X) (i : ℕ) (x : X) → Pairwise R ds xs → slice_get xs i ≡ Some x → (d : D) × Pair R ds xs i d x
pair_of_right R [] [] i x h e = cc
pair_of_right R [] (y ∷ ys) i x h e = absurd h
pair_of_right R (f ∷ fs) [] i x h e = absurd h
pair_of_right R (f ∷ fs) (y ∷ ys) zero x h e = (f, record { left = refl; right = e; related = subst (λ g. R f g) (some_same e) h.0 })
pair_of_right R (f ∷ fs) (y ∷ ys) (suc i) x h e = let r = pair_of_right R fs ys i x h.1 e in (r.0, later R fs ys f y i r.0 x r.1)

pub pairwise_length : {D X : Type 0} (R : D → X → Type 0) (ds : List D) (xs : List X) → Pairwise R ds xs → length ds ≡ length xs
pairwise_length R [] [] h = refl
pairwise_length R [] (x ∷ xs) h = absurd h
pairwise_length R (d ∷ ds) [] h = absurd h
pairwise_length R (d ∷ ds) (x ∷ xs) h = ap suc (pairwise_length R ds xs h.1)

-- what a loop gathers that judges each part among those before it
pub gathered : {D X : Type 0} (F : List D → List D → Checked (List X)) (G : List D → D → Checked X) (R : D → X → Type 0)
    → ((before : List D) → F before [] ≡ Right [])
    → ((before : List D) (d : D) (ds : List D) → F before (d ∷ ds) ≡ next (G before d) (F (before ++ d ∷ []) ds))
    → ((before : List D) (d : D) (x : X) → G before d ≡ Right x → R d x)
    → (before ds : List D) (xs : List X) → F before ds ≡ Right xs → Pairwise R ds xs
gathered F G R end step good before [] xs e = subst (Pairwise R []) (same_right [] xs (sym (end before) ∙ e)) tt
gathered F G R end step good before (d ∷ ds) xs e =
    let b = both_right (G before d) (F (before ++ d ∷ []) ds) (λ x xs. Right (x ∷ xs)) xs (sym (step before d ds) ∙ e) in
    subst (Pairwise R (d ∷ ds)) (same_right (b.left ∷ b.right) xs b.made) (good before d b.left b.first, gathered F G R end step good (before ++ d ∷ []) ds b.right b.second)
