-- Locks of blocks by their places.
use Rattle.std.proofs.Common.{◌≡◌, ◌≤◌, ℕ, zero, suc, true, false, ◌||◌, List, [], ◌∷◌, drop, length, map, Option, Some, None, refl, sym, ◌∙◌, ap, arith}
use Rattle.std.specs.Prelude.{option_map, slice_get}
use Rattle.std.specs.List.{list_any}
use Rattle.mdr_core.specs.declared.value.Block.{Block}
use Rattle.mdr_core.specs.declared.value.Value.{Value}
use Rattle.mdr_mem.specs.Contents.{wire_in}
use Rattle.mdr_meaning.specs.Values.{wire_of}
use Rattle.mdr_meaning.specs.declared.wire.Wire.{Wire}
use Rattle.mdr_model.specs.declared.memory.MemoryBlock.{MemoryBlock}
use Rattle.mdr_model.specs.Memory.{Memory}
use Rattle.mdr_plain.specs.Locks.{has_held, is_held}
use Rattle.mdr_world.specs.Reaching.{is_held_in}
use Rattle.mdr_world.proofs.BlockLaws.{held-wires}

abbrev pub cells_in : MemoryBlock → List Wire
cells_in b = b.cells

pub held-in : (o : Option MemoryBlock) (hs : List Block) (vs : List Value) → option_map cells_in o ≡ Some (map (wire_in hs) vs) → list_any (λ v. is_held (wire_of v)) vs ≡ is_held_in o
held-in None hs vs e = absurd cc
held-in (Some b) hs vs e =
    let same : b.cells ≡ map (wire_in hs) vs = cc in
    sym (held-wires hs vs) ∙ ap (list_any is_held) (sym same)

pub none-in : (o : Option MemoryBlock) → option_map cells_in o ≡ None → false ≡ is_held_in o
none-in None e = refl
none-in (Some b) e = absurd cc

-- ---- one place after the other

pub held_here : (m : Memory) (place : ℕ) → is_held_in (slice_get m place) ≡ true → list_any has_held (drop place m) ≡ true
held_here [] place e = absurd cc
held_here (b ∷ m) zero e = ap (λ t. t || list_any has_held m) e
held_here (b ∷ m) (suc place) e = held_here m place e

pub held_later : (m : Memory) (place : ℕ) → is_held_in (slice_get m place) ≡ false → list_any has_held (drop (suc place) m) ≡ list_any has_held (drop place m)
held_later [] zero e = refl
held_later [] (suc place) e = refl
held_later (b ∷ m) zero e = ap (λ t. t || list_any has_held m) (sym e)
held_later (b ∷ m) (suc place) e = held_later m place e

pub held_past : (m : Memory) (place : ℕ) → length m ≤ place → list_any has_held (drop place m) ≡ false
held_past [] zero e = refl
held_past [] (suc place) e = refl
held_past (b ∷ m) zero e = absurd (omega (arith, e))
held_past (b ∷ m) (suc place) e = held_past m place (omega (arith, e))
