-- The cells of blocks that were born since some serial was the next one.
use Rattle.std.proofs.Common.{◌≡◌, ℕ, ◌<◌, ◌≤◌, Bool, true, false, ◌⊎◌, inl, inr, List, [], ◌∷◌, Some, length, refl, sym, ◌∙◌, ap, subst, arith}
use Rattle.std.specs.Prelude.{cond, nat_lt, ◌==◌}
use Rattle.std.proofs.lemmas.Bool.{and_parts, both_ways, eq-eqb, eqb-true, lt-ltb, or_cases}
use Rattle.mdr_core.specs.declared.plan.Key.{Key}
use Rattle.mdr_core.specs.declared.program.Program.{Program}
use Rattle.mdr_core.specs.Layout.{chosen}
use Rattle.mdr_extents.specs.CellOrder.{IsBefore, cells}
use Rattle.mdr_extents.specs.Extent.{is_touched}
use Rattle.mdr_extents.specs.Reaching.{cells_of_block, counts, counts_in, own_cells}
use Rattle.mdr_extents.proofs.CellLists.{from_rises, in_block, rises_append}
use Rattle.mdr_model.specs.declared.memory.Cell.{Cell}
use Rattle.mdr_model.specs.declared.memory.MemoryBlock.{MemoryBlock}
use Rattle.mdr_model.specs.Agreement.{SerialsRise}
use Rattle.mdr_model.specs.Memory.{Memory, born_at}
use Rattle.mdr_paths.specs.Paths.{Rises, is_in}
use Rattle.mdr_paths.proofs.NodeLists.{in_both, is_in-filter, none_in, rises-filter}
use Rattle.mdr_watched.specs.Views.{new_cells}
use Rattle.mdr_shows.proofs.Named.{counts_live}

module _ (program : Program) (touched : List Key) (next : ℕ) where
  -- what is said of such a cell
  pub record IsNewCell (m : Memory) (c : Cell) : Type 0 where
    pub later : next ≤ c.serial
    pub counted : counts program touched m c ≡ true

  own : (b : MemoryBlock) (c : Cell) → is_in cells (own_cells program touched b) c ≡ true → (c.serial ≡ b.born.serial) × (is_touched program touched b.born c.index ≡ true)
  unfolding own_cells
  own b c h = let p = and_parts _ _ (sym (is_in-filter cells (λ (x : Cell). is_touched program touched b.born x.index) (cells_of_block b) c) ∙ h) in (in_block b c p.1, p.0)

  abbrev own_if : Bool → MemoryBlock → List Cell
  own_if t b = chosen t [] (own_cells program touched b)

  from_test : (a b : ℕ) → nat_lt a b ≡ false → b ≤ a
  from_test a b e = omega (arith, not_less)
    where
      not_less : a < b → ⊥
      not_less h = both_ways (nat_lt a b) e (lt-ltb a b h)

  first_new : (b : MemoryBlock) (m : Memory) (c : Cell) (t : Bool) → nat_lt b.born.serial next ≡ t → is_in cells (own_if t b) c ≡ true → IsNewCell (b ∷ m) c
  unfolding born_at
  first_new b m c true e h = absurd (none_in cells c h)
  first_new b m c false e h =
      let o = own b c h in
      record {
        later = subst (λ (s : ℕ). next ≤ s) (sym o.0) (from_test b.born.serial next e);
        counted = ap (λ (t : Bool). counts_in program touched (b ∷ m) c.index (cond t (Some b.born) (born_at m c.serial))) (eq-eqb b.born.serial c.serial (sym o.0)) ∙ o.1;
      }

  later_new : (b : MemoryBlock) (m : Memory) (c : Cell) → SerialsRise (b ∷ m) → IsNewCell m c → IsNewCell (b ∷ m) c
  unfolding born_at
  later_new b m c rises n = record { later = n.later; counted = ap (λ (t : Bool). counts_in program touched (b ∷ m) c.index (cond t (Some b.born) (born_at m c.serial))) (apart (b.born.serial == c.serial) refl) ∙ n.counted }
    where
      apart : (t : Bool) → (b.born.serial == c.serial) ≡ t → t ≡ false
      apart true e = absurd (omega (arith, rises.0 c.serial (counts_live program touched m c n.counted), eqb-true b.born.serial c.serial e))
      apart false e = refl

  pub new_in : (m : Memory) (c : Cell) → SerialsRise m → is_in cells (new_cells program touched next m) c ≡ true → IsNewCell m c
  unfolding new_cells
  new_in [] c rises h = absurd (none_in cells c h)
  new_in (b ∷ m) c rises h = of (or_cases _ _ (sym (in_both cells (own_if (nat_lt b.born.serial next) b) (new_cells program touched next m) c) ∙ h)) (new_in m c rises.1)
    where
      of : (is_in cells (own_if (nat_lt b.born.serial next) b) c ≡ true) ⊎ (is_in cells (new_cells program touched next m) c ≡ true) → (is_in cells (new_cells program touched next m) c ≡ true → IsNewCell m c) → IsNewCell (b ∷ m) c
      of (inl j) later = first_new b m c (nat_lt b.born.serial next) refl j
      of (inr j) later = later_new b m c rises (later j)

  -- ---- they rise

  own_rises : (t : Bool) (b : MemoryBlock) → Rises cells (own_if t b)
  unfolding own_cells
  own_rises true b = tt
  own_rises false b = rises-filter cells (λ (x : Cell). is_touched program touched b.born x.index) (cells_of_block b) (from_rises b.born.serial 0 (length b.cells))

  own_serial : (t : Bool) (b : MemoryBlock) (c : Cell) → is_in cells (own_if t b) c ≡ true → c.serial ≡ b.born.serial
  own_serial true b c h = absurd (none_in cells c h)
  own_serial false b c h = (own b c h).0

  pub new_rises : (m : Memory) → SerialsRise m → Rises cells (new_cells program touched next m)
  unfolding new_cells
  new_rises [] rises = tt
  new_rises (b ∷ m) rises = rises_append cells (own_if (nat_lt b.born.serial next) b) (new_cells program touched next m) (own_rises (nat_lt b.born.serial next) b) (new_rises m rises.1) below
    where
      below : (c d : Cell) → is_in cells (own_if (nat_lt b.born.serial next) b) c ≡ true → is_in cells (new_cells program touched next m) d ≡ true → IsBefore c d
      below c d h j = inl (subst (λ (s : ℕ). s < d.serial) (sym (own_serial (nat_lt b.born.serial next) b c h)) (rises.0 d.serial (counts_live program touched m d (new_in m d rises.1 j).counted)))
