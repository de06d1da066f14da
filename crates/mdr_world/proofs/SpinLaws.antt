-- Locks that spin, of blocks by their places.
use Rattle.std.proofs.Common.{◌≡◌, ◌≤◌, ℕ, zero, suc, Bool, true, false, ◌||◌, cond, List, [], ◌∷◌, drop, length, map, Option, Some, None, refl, sym, ◌∙◌, ap, arith}
use Rattle.std.specs.Prelude.{option_map, slice_get}
use Rattle.std.specs.List.{list_any}
use Rattle.mdr_core.specs.declared.value.Block.{Block}
use Rattle.mdr_core.specs.declared.value.Value.{Value}
use Rattle.mdr_core.specs.declared.value.Value.TheVariants as value
use Rattle.mdr_core.specs.declared.value.LockState.TheVariants.{Free, Spin, Sleep}
use Rattle.mdr_mem.specs.Contents.{current, is_handle, wire_in}
use Rattle.mdr_meaning.specs.Values.{wire_of}
use Rattle.mdr_model.specs.declared.memory.MemoryBlock.{MemoryBlock}
use Rattle.mdr_model.specs.Memory.{Memory}
use Rattle.mdr_plain.specs.Atomic.{has_spinning, is_spinning}
use Rattle.mdr_world.specs.Reaching.{is_spinning_in}
use Rattle.mdr_world.proofs.LockLaws.{cells_in}

pub spinning-wire : (hs : List Block) (v : Value) → is_spinning (wire_in hs v) ≡ is_spinning (wire_of v)
unfolding current
spinning-wire hs (value.Ptr p) = of (is_handle hs p.block)
  where
    of : (t : Bool) → is_spinning (wire_of (cond t (value.Ptr p) value.Dead)) ≡ false
    of true = refl
    of false = refl
spinning-wire hs (value.Int k n) = refl
spinning-wire hs value.Null = refl
spinning-wire hs value.Dead = refl
spinning-wire hs (value.Fn f) = refl
spinning-wire hs (value.Lock s) = refl
spinning-wire hs value.NoValue = refl

pub spinning-wires : (hs : List Block) (vs : List Value) → list_any is_spinning (map (wire_in hs) vs) ≡ list_any (λ v. is_spinning (wire_of v)) vs
spinning-wires hs [] = refl
spinning-wires hs (v ∷ vs) = λ i. spinning-wire hs v i || spinning-wires hs vs i

pub spinning-in : (o : Option MemoryBlock) (hs : List Block) (vs : List Value) → option_map cells_in o ≡ Some (map (wire_in hs) vs) → list_any (λ v. is_spinning (wire_of v)) vs ≡ is_spinning_in o
spinning-in None hs vs e = absurd cc
spinning-in (Some b) hs vs e =
    let same : b.cells ≡ map (wire_in hs) vs = cc in
    sym (spinning-wires hs vs) ∙ ap (list_any is_spinning) (sym same)

pub none_spins : (o : Option MemoryBlock) → option_map cells_in o ≡ None → false ≡ is_spinning_in o
none_spins None e = refl
none_spins (Some b) e = absurd cc

-- ---- one place after the other

pub spinning_here : (m : Memory) (place : ℕ) → is_spinning_in (slice_get m place) ≡ true → list_any has_spinning (drop place m) ≡ true
spinning_here [] place e = absurd cc
spinning_here (b ∷ m) zero e = ap (λ t. t || list_any has_spinning m) e
spinning_here (b ∷ m) (suc place) e = spinning_here m place e

pub spinning_later : (m : Memory) (place : ℕ) → is_spinning_in (slice_get m place) ≡ false → list_any has_spinning (drop (suc place) m) ≡ list_any has_spinning (drop place m)
spinning_later [] zero e = refl
spinning_later [] (suc place) e = refl
spinning_later (b ∷ m) zero e = ap (λ t. t || list_any has_spinning m) (sym e)
spinning_later (b ∷ m) (suc place) e = spinning_later m place e

pub spinning_past : (m : Memory) (place : ℕ) → length m ≤ place → list_any has_spinning (drop place m) ≡ false
spinning_past [] zero e = refl
spinning_past [] (suc place) e = refl
spinning_past (b ∷ m) zero e = absurd (omega (arith, e))
spinning_past (b ∷ m) (suc place) e = spinning_past m place (omega (arith, e))
