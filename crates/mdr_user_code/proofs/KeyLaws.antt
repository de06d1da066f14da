-- The key of a block's cell, from that of an element.
use Rattle.std.proofs.Common.{◌≡◌, ℕ, zero, suc, ◌*◌, ◌/◌, ◌%◌, ◌<◌, ◌≤◌, Bool, ◌⊎◌, inl, inr, List, [], ◌∷◌, length, Option, Some, None, refl, sym, ◌∙◌, ap, subst, arith, le_refl, le_trans}
use Rattle.std.specs.Prelude.{slice_get}
use Rattle.std.specs.Option.{option_map}
use Rattle.std.proofs.lemmas.Bool.{cases_lt}
use Rattle.std.proofs.lemmas.Nat.{div-add-mod', le-div, mul-le}
use Rattle.mdr_core.specs.declared.plan.Key.{Key}
use Rattle.mdr_core.specs.declared.program.Program.{Program}
use Rattle.mdr_core.specs.declared.types.Ty.{Ty}
use Rattle.mdr_core.specs.Layout.{Alone, Home, Leaf, Within, cells_at, cells_or, key_at, key_by, repeated}
use Rattle.mdr_core.proofs.Lying.{get-repeated, length-repeated}
use Rattle.mdr_extents.specs.Around.{global_of, key_of}
use Rattle.mdr_extents.specs.Extent.{has_key, is_touched}
use Rattle.mdr_model.specs.declared.message.New.{New}
use Rattle.mdr_model.specs.Memory.{leaf_at, leaves_of}
use Rattle.mdr_user_code.specs.Keys.{touched_so}

-- ---- elements

pub get_past : {A : Type 0} (xs : List A) (k : ℕ) → length xs ≤ k → slice_get xs k ≡ None
get_past [] zero h = refl
get_past [] (suc k) h = refl
get_past (x ∷ xs) zero h = absurd (omega (arith, h))
get_past (x ∷ xs) (suc k) h = get_past xs k (omega (arith, h))

past_elements : {A : Type 0} (xs : List A) (n index size : ℕ) → size ≡ length xs → n ≤ index / size → slice_get (repeated n xs) index ≡ None
past_elements xs n index size e h = get_past (repeated n xs) index (le_trans (le_of (length-repeated n xs ∙ ap (λ k. n * k) (sym e))) (le_trans (mul_le n (index / size) size h) (quotient index size)))
  where
    le_of : {a b : ℕ} → a ≡ b → a ≤ b
    le_of {a} {b} f = omega (arith, f)

    quotient : (i k : ℕ) → i / k * k ≤ i
    quotient i k = let all = div-add-mod' i k in omega (arith, all)

    mul_le : (a b k : ℕ) → a ≤ b → a * k ≤ b * k
    mul_le a b k f = mul-le a k b k f (le_refl k)

no_elements : {A : Type 0} (xs : List A) (n index size : ℕ) → size ≡ length xs → size ≡ 0 → slice_get (repeated n xs) index ≡ None
no_elements xs n index size e none = get_past (repeated n xs) index (let all = length-repeated n xs in let zero_size : n * length xs ≡ 0 = ap (λ k. n * k) (sym e ∙ none) ∙ mul_zero n in omega (arith, all, zero_size))
  where
    mul_zero : (k : ℕ) → k * 0 ≡ 0
    mul_zero k = omega arith

in_elements : {A : Type 0} (xs : List A) (n index size : ℕ) → size ≡ length xs → (size ≡ 0 → ⊥) → (index / size) < n → slice_get (repeated n xs) index ≡ slice_get xs (index % size)
in_elements xs n index size e some h =
    let inside : index < n * size = below index size n some h in
    get-repeated n xs index (subst (λ k. index < n * k) e inside) ∙ ap (λ k. slice_get xs (index % k)) (sym e)
  where
    below : (i k n : ℕ) → (k ≡ 0 → ⊥) → (i / k) < n → i < n * k
    below i k n some h = of (cases_lt i (n * k))
      where
        of : (i < n * k) ⊎ (n * k ≤ i) → i < n * k
        of (inl l) = l
        of (inr l) = absurd (let q = le-div n i k (omega (arith, some)) l in omega (arith, q, h))

-- ---- the key of an element's cell

module _ (program : Program) (block : New) (index : ℕ) where
  abbrev key_of_leaf : Option Leaf → Option Key
  key_of_leaf o = option_map (λ (l : Leaf). key_by l.home None block.ty) o

  leaf_is : (o : Option Leaf) → slice_get (repeated block.count (cells_at program block.ty)) index ≡ o → key_of_leaf o ≡ key_of_leaf (leaf_at program block index)
  unfolding leaves_of
  leaf_is o e = ap key_of_leaf (sym e)

  pub no_type : length program.types ≤ block.ty → None ≡ key_of_leaf (leaf_at program block index)
  no_type past = leaf_is None (ap (λ (o : Option Ty). slice_get (repeated block.count (cells_or program o)) index) (get_past program.types block.ty past) ∙ no_elements [] block.count index 0 refl refl)

  pub no_size : (size : ℕ) → size ≡ length (cells_at program block.ty) → size ≡ 0 → None ≡ key_of_leaf (leaf_at program block index)
  no_size size e none = leaf_is None (no_elements (cells_at program block.ty) block.count index size e none)

  pub past_size : (size : ℕ) → size ≡ length (cells_at program block.ty) → block.count ≤ index / size → None ≡ key_of_leaf (leaf_at program block index)
  past_size size e past = leaf_is None (past_elements (cells_at program block.ty) block.count index size e past)

  pub in_size : (size : ℕ) (k : Key) → size ≡ length (cells_at program block.ty) → (size ≡ 0 → ⊥) → (index / size) < block.count → key_at program None block.ty (index % size) ≡ Some k → Some k ≡ key_of_leaf (leaf_at program block index)
  unfolding key_at
  in_size size k e some inside is = sym is ∙ leaf_is (slice_get (cells_at program block.ty) (index % size)) (in_elements (cells_at program block.ty) block.count index size e some inside)

-- ---- whether it is among some

touched_home : (program : Program) (touched : List Key) (block : New) (home : Home) → touched_so program touched block (Some (key_by home None block.ty)) ≡ has_key touched (Some (key_by home (global_of program block) block.ty))
touched_home program touched block Alone = refl
touched_home program touched block (Within s f) = refl

touched_leaf : (program : Program) (touched : List Key) (block : New) (o : Option Leaf)
    → touched_so program touched block (option_map (λ (l : Leaf). key_by l.home None block.ty) o) ≡ has_key touched (option_map (λ (l : Leaf). key_by l.home (global_of program block) block.ty) o)
touched_leaf program touched block None = refl
touched_leaf program touched block (Some l) = touched_home program touched block l.home

pub touched_is : (program : Program) (touched : List Key) (block : New) (index : ℕ) (k : Option Key) (t : Bool) → t ≡ touched_so program touched block k
    → k ≡ option_map (λ (l : Leaf). key_by l.home None block.ty) (leaf_at program block index) → t ≡ is_touched program touched block index
unfolding is_touched key_of
touched_is program touched block index k t e is = e ∙ ap (touched_so program touched block) is ∙ touched_leaf program touched block (leaf_at program block index)
