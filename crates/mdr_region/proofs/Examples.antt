-- Layouts of short lists of births and deaths.
use Rattle.std.proofs.Common.{◌≡◌, refl, [], ◌∷◌}
use Rattle.mdr_mem.specs.declared.cells.Life.TheVariants as life
use Rattle.mdr_region.specs.Layout.{layout_of, laid_from, placed, are_free, trimmed}

-- a hole is used again, first fit
reused : layout_of (life.Birth 3 ∷ (life.Birth 2 ∷ (life.Birth 4 ∷ (life.Death 1 ∷ (life.Birth 1 ∷ (life.Birth 2 ∷ [])))))) ≡ record { taken = 10; top = 11 }
unfolding laid_from placed are_free trimmed
reused = refl

-- two holes are one
merged : layout_of (life.Birth 2 ∷ (life.Birth 2 ∷ (life.Birth 2 ∷ (life.Birth 1 ∷ (life.Death 0 ∷ (life.Death 1 ∷ (life.Birth 3 ∷ []))))))) ≡ record { taken = 6; top = 7 }
unfolding laid_from placed are_free trimmed
merged = refl

-- the top comes down over a hole
lowered_top : layout_of (life.Birth 2 ∷ (life.Birth 2 ∷ (life.Birth 2 ∷ (life.Death 1 ∷ (life.Death 2 ∷ []))))) ≡ record { taken = 2; top = 2 }
unfolding laid_from placed are_free trimmed
lowered_top = refl
