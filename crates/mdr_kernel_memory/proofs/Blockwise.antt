-- A memory, block after block.
use Rattle.std.proofs.Common.{◌≡◌, ◌+◌, ◌<◌, ℕ, zero, suc, [], ◌∷◌, ◌++◌, append_assoc, drop, length, Option, Some, None, sym, ◌∙◌, ap, arith}
use Rattle.std.specs.Prelude.{option_map, slice_get}
use Rattle.mdr_model.specs.declared.memory.MemoryBlock.{MemoryBlock}
use Rattle.mdr_model.specs.Memory.{Memory}

-- the block at a place, and those behind it
here : (m : Memory) (place : ℕ) (b : MemoryBlock) → slice_get m place ≡ Some b → drop place m ≡ b ∷ drop (suc place) m
here [] place b e = absurd cc
here (x ∷ m) zero b e = let same : x ≡ b = cc in ap (λ (y : MemoryBlock). y ∷ m) same
here (x ∷ m) (suc place) b e = here m place b e

-- a place among the blocks has one
pub never_past : {B : Type 0} (f : MemoryBlock → B) (m : Memory) (place : ℕ) (o : Option B) → place < length m → option_map f (slice_get m place) ≡ o → o ≡ None → ⊥
never_past f [] place o inside e none = let i : place < 0 = inside in omega (arith, i)
never_past f (b ∷ m) zero o inside e none = absurd cc
never_past f (b ∷ m) (suc place) o inside e none = let i : suc place < suc (length m) = inside in never_past f m place o (omega (arith, i)) e none

pub blocks_next : (m : Memory) (place : ℕ) (b : MemoryBlock) (before after : Memory) → slice_get m place ≡ Some b → after ≡ before ++ b ∷ [] → before ++ drop place m ≡ m → after ++ drop (place + 1) m ≡ m
blocks_next m place b before after there pushed so_far =
    let next : place + 1 ≡ suc place = omega arith in
    ap (λ (xs : Memory). xs ++ drop (place + 1) m) pushed
    ∙ ap (λ n. (before ++ b ∷ []) ++ drop n m) next
    ∙ append_assoc before (b ∷ []) (drop (suc place) m)
    ∙ ap (λ (xs : Memory). before ++ xs) (sym (here m place b there))
    ∙ so_far
