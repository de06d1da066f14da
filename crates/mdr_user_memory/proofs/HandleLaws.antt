-- Handles and blocks, with one more at the end and without one.
use Rattle.std.proofs.Common.{◌≡◌, ℕ, false, cond, List, [], ◌∷◌, ◌++◌, Some, None, refl, ap, arith}
use Rattle.std.specs.Prelude.{◌==◌, slice_get}
use Rattle.std.proofs.lemmas.Bool.{eqb-true, eq-eqb}
use Rattle.mdr_core.specs.declared.value.Block.{Block}
use Rattle.mdr_model.specs.declared.memory.Cell.{Cell}
use Rattle.mdr_model.specs.declared.memory.MemoryBlock.{MemoryBlock}
use Rattle.mdr_model.specs.Memory.{Memory, born_at, cell_at, is_live}
use Rattle.mdr_mem.specs.Contents.{handle_of, left_of}

-- ---- handles

pub handle_of-other : (hs : List Block) (b : Block) (n : ℕ) → (b.serial == n) ≡ false → handle_of (hs ++ b ∷ []) n ≡ handle_of hs n
unfolding handle_of
handle_of-other [] b n e = ap (λ t. cond t (Some b) None) e
handle_of-other (h ∷ hs) b n e = ap (λ o. cond (h.serial == n) (Some h) o) (handle_of-other hs b n e)

pub handle_of-left : (d : ℕ) (hs : List Block) (n : ℕ) → handle_of (left_of d hs) n ≡ cond (d == n) None (handle_of hs n)
unfolding handle_of left_of
handle_of-left d [] n = grind arith
handle_of-left d (h ∷ hs) n = grind (arith, handle_of-left d hs n, eqb-true h.serial d, eqb-true h.serial n, eqb-true d n, eq-eqb h.serial n, eq-eqb d n)

-- ---- blocks

pub born_at-append : (m : Memory) (b : MemoryBlock) (s : ℕ) → is_live m b.born.serial ≡ false → born_at (m ++ b ∷ []) s ≡ cond (b.born.serial == s) (Some b.born) (born_at m s)
unfolding is_live born_at
born_at-append [] b s new = refl
born_at-append (x ∷ m) b s new = grind (arith, born_at-append m b s, eqb-true x.born.serial s, eqb-true b.born.serial s, eq-eqb x.born.serial b.born.serial)

pub cell_at-append : (m : Memory) (b : MemoryBlock) (c : Cell) → is_live m b.born.serial ≡ false → cell_at (m ++ b ∷ []) c ≡ cond (b.born.serial == c.serial) (slice_get b.cells c.index) (cell_at m c)
unfolding is_live born_at cell_at
cell_at-append [] b c new = refl
cell_at-append (x ∷ m) b c new = grind (arith, cell_at-append m b c, eqb-true x.born.serial c.serial, eqb-true b.born.serial c.serial, eq-eqb x.born.serial b.born.serial)
