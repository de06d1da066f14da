-- The cells of a memory rise, where its serials do.
use Rattle.std.proofs.Common.{◌≡◌, ℕ, zero, suc, ◌<◌, ◌≤◌, true, ◌⊎◌, inl, inr, List, [], ◌∷◌, ◌++◌, length, refl, sym, ◌∙◌, ap, subst, arith}
use Rattle.std.specs.Prelude.{Bool, false, cond, Some, is_some, ◌==◌}
use Rattle.std.proofs.lemmas.Bool.{eq-eqb, or_cases}
use Rattle.mdr_model.specs.declared.memory.Cell.{Cell}
use Rattle.mdr_model.specs.declared.memory.MemoryBlock.{MemoryBlock}
use Rattle.mdr_model.specs.Agreement.{SerialsRise}
use Rattle.mdr_model.specs.Memory.{Memory, born_at, is_live}
use Rattle.mdr_model.specs.Sets.{cells_from}
use Rattle.mdr_paths.specs.Paths.{Nodes, Rises, is_in}
use Rattle.mdr_paths.proofs.NodeLists.{in_both, is_in-cases, none_in}
use Rattle.mdr_extents.specs.CellOrder.{IsBefore, cells}
use Rattle.mdr_extents.specs.Reaching.{all_cells, cells_of_block}

-- one rising list before another
pub rises_append : {N : Type 0} (k : Nodes N) (xs ys : List N) → Rises k xs → Rises k ys → ((c d : N) → is_in k xs c ≡ true → is_in k ys d ≡ true → k.before c d) → Rises k (xs ++ ys)
unfolding is_in
rises_append k [] ys r s below = s
rises_append k (x ∷ xs) ys r s below = (above, rises_append k xs ys r.1 s (λ c d h j. below c d (tail c h) j))
  where
    tail : (c : _) → is_in k xs c ≡ true → is_in k (x ∷ xs) c ≡ true
    tail c h = grind arith

    head : is_in k (x ∷ xs) x ≡ true
    head = grind (arith, k.itself x)

    above : (d : _) → is_in k (xs ++ ys) d ≡ true → k.before x d
    above d h = of (or_cases _ _ (sym (in_both k xs ys d) ∙ h))
      where
        of : (is_in k xs d ≡ true) ⊎ (is_in k ys d ≡ true) → k.before x d
        of (inl j) = r.0 d j
        of (inr j) = below x d head j

-- where the cells of a run lie
pub record IsFrom (serial index : ℕ) (c : Cell) : Type 0 where
  pub block : c.serial ≡ serial
  pub after : index ≤ c.index

pub in_from : (serial index n : ℕ) (c : Cell) → is_in cells (cells_from serial index n) c ≡ true → IsFrom serial index c
unfolding cells_from
in_from serial index zero c h = absurd (none_in cells c h)
in_from serial index (suc n) c h = of (is_in-cases cells (record { serial = serial; index = index }) (cells_from serial (suc index) n) c h) (λ j. in_from serial (suc index) n c j)
  where
    of : (c ≡ record { serial = serial; index = index }) ⊎ (is_in cells (cells_from serial (suc index) n) c ≡ true) → (is_in cells (cells_from serial (suc index) n) c ≡ true → IsFrom serial (suc index) c) → IsFrom serial index c
    of (inl e) later =
        let same : c.index ≡ index = ap (λ (x : Cell). x.index) e in
        record { block = ap (λ (x : Cell). x.serial) e; after = omega (arith, same) }
    of (inr j) later = let p = later j in record { block = p.block; after = omega (arith, p.after) }

pub from_rises : (serial index n : ℕ) → Rises cells (cells_from serial index n)
unfolding cells_from
from_rises serial index zero = tt
from_rises serial index (suc n) = (above, from_rises serial (suc index) n)
  where
    above : (d : Cell) → is_in cells (cells_from serial (suc index) n) d ≡ true → IsBefore (record { serial = serial; index = index }) d
    above d h = let p = in_from serial (suc index) n d h in inr (sym p.block, p.after)

-- ---- memories

pub in_block : (b : MemoryBlock) (c : Cell) → is_in cells (cells_of_block b) c ≡ true → c.serial ≡ b.born.serial
in_block b c h = (in_from b.born.serial 0 (length b.cells) c h).block

-- each cell of a memory is a live block's
pub in_all : (m : Memory) (c : Cell) → is_in cells (all_cells m) c ≡ true → is_live m c.serial ≡ true
unfolding all_cells is_live born_at
in_all [] c h = absurd (none_in cells c h)
in_all (b ∷ m) c h = of (or_cases _ _ (sym (in_both cells (cells_of_block b) (all_cells m) c) ∙ h)) (λ j. in_all m c j)
  where
    later : (t : Bool) → is_some (born_at m c.serial) ≡ true → is_some (cond t (Some b.born) (born_at m c.serial)) ≡ true
    later true e = refl
    later false e = e

    of : (is_in cells (cells_of_block b) c ≡ true) ⊎ (is_in cells (all_cells m) c ≡ true) → (is_in cells (all_cells m) c ≡ true → is_some (born_at m c.serial) ≡ true) → is_some (cond (b.born.serial == c.serial) (Some b.born) (born_at m c.serial)) ≡ true
    of (inl j) rest = rw (eq-eqb b.born.serial c.serial (sym (in_block b c j))) refl
    of (inr j) rest = later (b.born.serial == c.serial) (rest j)

pub all_rise : (m : Memory) → SerialsRise m → Rises cells (all_cells m)
unfolding all_cells
all_rise [] rising = tt
all_rise (b ∷ m) rising = rises_append cells (cells_of_block b) (all_cells m) (from_rises b.born.serial 0 (length b.cells)) (all_rise m rising.1) below
  where
    below : (c d : Cell) → is_in cells (cells_of_block b) c ≡ true → is_in cells (all_cells m) d ≡ true → IsBefore c d
    below c d h j = inl (subst (λ x. x < d.serial) (sym (in_block b c h)) (rising.0 d.serial (in_all m d j)))
