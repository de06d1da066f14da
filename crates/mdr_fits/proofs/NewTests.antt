-- New objects, one of each shape.
use Rattle.std.proofs.Common.{◌≡◌, ℕ, zero, suc, ◌+◌, ◌<◌, ◌≤◌, Bool, true, false, ◌&&◌, List, [], ◌∷◌, length, drop, get_or, slice_get, refl, sym, ap, ◌∙◌, arith}
use Rattle.mdr_fits.specs.Tables.{new_at}
use Rattle.mdr_meaning.specs.declared.shape.Shape64.{Shape64}
use Rattle.mdr_meaning.specs.declared.wire.Wire.{Wire}
use Rattle.mdr_model.specs.declared.message.New.{New}
use Rattle.mdr_split.specs.Services.{are_new}

module _ (news : List New) where
  none_new : (shapes : List Shape64) (i : ℕ) → i < length shapes → are_new news (drop i shapes) [] ≡ false
  none_new [] i h = absurd (omega (arith, h))
  none_new (t ∷ shapes) zero h = refl
  none_new (t ∷ shapes) (suc i) h = none_new shapes i (omega (arith, h))

  new_and_rest : (shapes : List Shape64) (values : List Wire) (i : ℕ) (s : Shape64) → i < length shapes
      → are_new news (drop i shapes) (drop i values) ≡ (new_at news (get_or shapes i s) (slice_get values i) && are_new news (drop (suc i) shapes) (drop (suc i) values))
  new_and_rest [] values i s h = absurd (omega (arith, h))
  new_and_rest (t ∷ shapes) [] zero s h = refl
  new_and_rest (t ∷ shapes) [] (suc i) s h = none_new shapes i (omega (arith, h))
  new_and_rest (t ∷ shapes) (w ∷ values) zero s h = refl
  new_and_rest (t ∷ shapes) (w ∷ values) (suc i) s h = new_and_rest shapes values i s (omega (arith, h))

  pub new_here : (shapes : List Shape64) (values : List Wire) (i : ℕ) (s : Shape64) (all : Bool) → i < length shapes
      → new_at news (get_or shapes i s) (slice_get values i) ≡ true
      → are_new news (drop i shapes) (drop i values) ≡ all → are_new news (drop (i + 1) shapes) (drop (i + 1) values) ≡ all
  new_here shapes values i s all h e so_far =
      let after : i + 1 ≡ suc i = omega arith in
      ap (λ (k : ℕ). are_new news (drop k shapes) (drop k values)) after
      ∙ sym (new_and_rest shapes values i s h ∙ ap (λ (b : Bool). b && are_new news (drop (suc i) shapes) (drop (suc i) values)) e) ∙ so_far

  pub old_here : (shapes : List Shape64) (values : List Wire) (i : ℕ) (s : Shape64) (all : Bool) → i < length shapes
      → new_at news (get_or shapes i s) (slice_get values i) ≡ false
      → are_new news (drop i shapes) (drop i values) ≡ all → false ≡ all
  old_here shapes values i s all h e so_far =
      sym (new_and_rest shapes values i s h ∙ ap (λ (b : Bool). b && are_new news (drop (suc i) shapes) (drop (suc i) values)) e) ∙ so_far

  -- at the end of the shapes, no value is left
  too_many : (shapes : List Shape64) (values : List Wire) → length shapes < length values → are_new news (drop (length shapes) shapes) (drop (length shapes) values) ≡ false
  too_many [] [] h = absurd (omega (arith, h))
  too_many [] (v ∷ vs) h = refl
  too_many (s ∷ shapes) [] h = absurd (omega (arith, h))
  too_many (s ∷ shapes) (v ∷ vs) h = too_many shapes vs (omega (arith, h))

  enough : (shapes : List Shape64) (values : List Wire) → length values ≤ length shapes → are_new news (drop (length shapes) shapes) (drop (length shapes) values) ≡ true
  enough [] [] h = refl
  enough [] (v ∷ vs) h = absurd (omega (arith, h))
  enough (s ∷ shapes) [] h = gone shapes where
    gone : (ts : List Shape64) → are_new news (drop (length ts) ts) [] ≡ true
    gone [] = refl
    gone (t ∷ ts) = gone ts
  enough (s ∷ shapes) (v ∷ vs) h = enough shapes vs (omega (arith, h))

  pub values_left : (shapes : List Shape64) (values : List Wire) (i : ℕ) (all : Bool) → i ≤ length shapes → length shapes ≤ i → length shapes < length values
      → are_new news (drop i shapes) (drop i values) ≡ all → false ≡ all
  values_left shapes values i all within over more so_far =
      let same : length shapes ≡ i = omega (arith, within, over) in
      sym (too_many shapes values more) ∙ ap (λ (k : ℕ). are_new news (drop k shapes) (drop k values)) same ∙ so_far

  pub none_left : (shapes : List Shape64) (values : List Wire) (i : ℕ) (all : Bool) → i ≤ length shapes → length shapes ≤ i → length values ≤ length shapes
      → are_new news (drop i shapes) (drop i values) ≡ all → true ≡ all
  none_left shapes values i all within over few so_far =
      let same : length shapes ≡ i = omega (arith, within, over) in
      sym (enough shapes values few) ∙ ap (λ (k : ℕ). are_new news (drop k shapes) (drop k values)) same ∙ so_far
