-- Laws of lists of nodes: membership, filters and their lengths, rising lists.
use Rattle.std.proofs.Common.{◌≡◌, ◌+◌, ◌<◌, ◌≤◌, Bool, true, false, cond, not, ◌&&◌, ◌||◌, ◌⊎◌, inl, inr, List, [], ◌∷◌, ◌++◌, length, refl, sym, ◌∙◌, ap, subst, arith}
use Rattle.std.specs.List.{list_any, filter}
use Rattle.std.proofs.lemmas.Bool.{both_ways, and_parts, or_cases}
use Rattle.std.proofs.lemmas.List.Folds.{list_any-append}
use Rattle.std.proofs.lemmas.Map.Views.{any-filter_same}
use Rattle.mdr_paths.specs.Paths.{Nodes, is_in, Rises}

-- a node that passes
pub record Found {N : Type 0} (k : Nodes N) (p : N → Bool) (xs : List N) : Type 0 where
  pub at : N
  pub inside : is_in k xs at ≡ true
  pub passes : p at ≡ true

module _ {N : Type 0} (k : Nodes N) where
  -- ---- membership

  -- a filter keeps the nodes that pass
  pub is_in-filter : (p : N → Bool) (xs : List N) (c : N) → is_in k (filter p xs) c ≡ (p c && is_in k xs c)
  unfolding is_in
  is_in-filter p xs c = any-filter_same (k.same c) p (p c) (λ d h. ap p (sym (k.equal c d h))) xs

  pub none_in : (c : N) → is_in k [] c ≡ true → ⊥
  unfolding is_in
  none_in c e = both_ways _ refl e

  pub is_in-head : (x : N) (xs : List N) → is_in k (x ∷ xs) x ≡ true
  unfolding is_in
  is_in-head x xs = grind (arith, k.itself x)

  pub is_in-tail : (x : N) (xs : List N) (c : N) → is_in k xs c ≡ true → is_in k (x ∷ xs) c ≡ true
  unfolding is_in
  is_in-tail x xs c h = grind arith

  -- a node of a list is its first, or one of the rest
  pub is_in-cases : (x : N) (xs : List N) (c : N) → is_in k (x ∷ xs) c ≡ true → (c ≡ x) ⊎ (is_in k xs c ≡ true)
  unfolding is_in
  is_in-cases x xs c h = grind (arith, k.equal c x)

  pub in_both : (xs ys : List N) (c : N) → is_in k (xs ++ ys) c ≡ (is_in k xs c || is_in k ys c)
  unfolding is_in
  in_both xs ys c = list_any-append (k.same c) xs ys

  pub any_found : (p : N → Bool) (xs : List N) → list_any p xs ≡ true → Found k p xs
  any_found p [] e = absurd (both_ways false refl e)
  any_found p (x ∷ xs) e = of (or_cases _ _ e) (any_found p xs)
    where
      of : (p x ≡ true) ⊎ (list_any p xs ≡ true) → (list_any p xs ≡ true → Found k p xs) → Found k p (x ∷ xs)
      of (inl h) later = record { at = x; inside = is_in-head x xs; passes = h }
      of (inr h) later = record { at = (later h).at; inside = is_in-tail x xs (later h).at (later h).inside; passes = (later h).passes }

  pub found_any : (p : N → Bool) (xs : List N) (c : N) → is_in k xs c ≡ true → p c ≡ true → list_any p xs ≡ true
  found_any p [] c h e = absurd (none_in c h)
  found_any p (x ∷ xs) c h e = of (is_in-cases x xs c h) (λ j. found_any p xs c j e)
    where
      of : (c ≡ x) ⊎ (is_in k xs c ≡ true) → (is_in k xs c ≡ true → list_any p xs ≡ true) → list_any p (x ∷ xs) ≡ true
      of h later = grind arith

  -- ---- a filter that keeps less is shorter

  fewer : (q p : N → Bool) (xs : List N) → ((c : N) → is_in k xs c ≡ true → q c ≡ true → p c ≡ true)
      → length (filter q xs) + cond (list_any (λ c. p c && not (q c)) xs) 1 0 ≤ length (filter p xs)
  fewer q p [] weaker = omega arith
  fewer q p (x ∷ xs) weaker = of (q x) (p x) (list_any (λ c. p c && not (q c)) xs) (weaker x (is_in-head x xs)) (fewer q p xs (λ c h. weaker c (is_in-tail x xs c h)))
    where
      of : (a b more : Bool) → (a ≡ true → b ≡ true) → length (filter q xs) + cond more 1 0 ≤ length (filter p xs)
          → length (cond a (x ∷ filter q xs) (filter q xs)) + cond (b && not a || more) 1 0 ≤ length (cond b (x ∷ filter p xs) (filter p xs))
      of a b more h later = grind arith

  pub falls : (q p : N → Bool) (xs : List N) (c : N) → ((d : N) → is_in k xs d ≡ true → q d ≡ true → p d ≡ true)
      → is_in k xs c ≡ true → q c ≡ false → p c ≡ true → length (filter q xs) < length (filter p xs)
  falls q p xs c weaker inside out kept = grind (arith, found_any (λ d. p d && not (q d)) xs c inside, fewer q p xs weaker)

  -- ---- rising lists

  pub rises-filter : (p : N → Bool) (xs : List N) → Rises k xs → Rises k (filter p xs)
  rises-filter p [] rising = tt
  rises-filter p (x ∷ xs) rising = of (p x) (rises-filter p xs rising.1)
    where
      of : (t : Bool) → Rises k (filter p xs) → Rises k (cond t (x ∷ filter p xs) (filter p xs))
      of true later = (λ d h. rising.0 d (and_parts _ _ (sym (is_in-filter p xs d) ∙ h)).1, later)
      of false later = later

  -- nodes neither of which is before the other
  pub same_place : (c d : N) → (c ≡ d) ⊎ k.before c d → (d ≡ c) ⊎ k.before d c → c ≡ d
  same_place c d (inl e) q = e
  same_place c d (inr b) (inl e) = sym e
  same_place c d (inr b) (inr a) = absurd (k.apart c d b a)

  -- a node of a rising list is its first, or the first is before it
  pub sided : (x : N) (xs : List N) (y : N) → Rises k (x ∷ xs) → is_in k (x ∷ xs) y ≡ true → (x ≡ y) ⊎ k.before x y
  sided x xs y rises h = of (is_in-cases x xs y h)
    where
      of : (y ≡ x) ⊎ (is_in k xs y ≡ true) → (x ≡ y) ⊎ k.before x y
      of (inl e) = inl (sym e)
      of (inr j) = inr (rises.0 y j)

  behind : (x y : N) (ys : List N) (c : N) → k.before x c → y ≡ x → is_in k (y ∷ ys) c ≡ true → is_in k ys c ≡ true
  behind x y ys c before same h = of (is_in-cases y ys c h)
    where
      of : (c ≡ y) ⊎ (is_in k ys c ≡ true) → is_in k ys c ≡ true
      of (inr j) = j
      of (inl e) = let self : k.before x x = subst (k.before x) (e ∙ same) before in absurd (k.apart x x self self)

  -- rising lists of the same nodes are the same
  pub same_nodes : (xs ys : List N) → Rises k xs → Rises k ys → ((c : N) → is_in k xs c ≡ true → is_in k ys c ≡ true) → ((c : N) → is_in k ys c ≡ true → is_in k xs c ≡ true) → xs ≡ ys
  same_nodes [] [] r s f g = refl
  same_nodes [] (y ∷ ys) r s f g = absurd (none_in y (g y (is_in-head y ys)))
  same_nodes (x ∷ xs) [] r s f g = absurd (none_in x (f x (is_in-head x xs)))
  same_nodes (x ∷ xs) (y ∷ ys) r s f g =
      let e : x ≡ y = same_place x y (sided x xs y r (g y (is_in-head y ys))) (sided y ys x s (f x (is_in-head x xs))) in
      λ i. e i ∷ same_nodes xs ys r.1 s.1 (λ c h. behind x y ys c (r.0 c h) (sym e) (f c (is_in-tail x xs c h))) (λ c h. behind y x xs c (s.0 c h) e (g c (is_in-tail y ys c h))) i
