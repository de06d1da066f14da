-- A region whose rows moved to another list, or that was given more room.
use Rattle.std.proofs.Common.{◌≡◌, ◌<◌, ◌≤◌, ◌+◌, ◌^◌, ℕ, List, length, refl, sym, ◌∙◌, ap, subst, arith}
use Rattle.std.specs.Prelude.{vec_capacity}
use Rattle.slab.specs.Slab.{slab_len}
use Rattle.mdr_core.specs.declared.value.Block.{Block}
use Rattle.mdr_core.specs.declared.value.Value.{Value}
use Rattle.mdr_mem.specs.declared.cells.Life.{Life}
use Rattle.mdr_mem.specs.Contents.{Contents}
use Rattle.mdr_mem.specs.Rows.{in_slot, holds_serial, AreHeldOld, blocks_of}
use Rattle.mdr_mem.proofs.SoundLaws.{same_contents}
use Rattle.mdr_region.specs.declared.pool.Pool.{Pool}
use Rattle.mdr_region.specs.declared.rows.Rows.{Rows}
use Rattle.mdr_region.specs.Layout.{laid}
use Rattle.mdr_region.specs.Slots.{RowSlots, row_in, held_as, held_slots, Lies}
use Rattle.mdr_region.specs.PlacesView.{IsSound}
use Rattle.mdr_region.specs.RowsView.{AreKept, IsWhole}
use Rattle.mdr_region.proofs.SlotLaws.{slot-map, blocks-same}

pub kept-moved : (hs : List Block) (slots slots' : RowSlots) (values : List Value) (lives : List Life) (births : ℕ) → AreKept hs slots values lives births → ((n : ℕ) → row_in slots' n ≡ row_in slots n)
    → AreKept hs slots' values lives births
kept-moved hs slots slots' values lives births k same = record {
  memory = record {
    rise = k.memory.rise;
    below = k.memory.below;
    held = λ b. k.memory.held b ∙ ap (λ o. holds_serial o b.serial) (sym (moved b.slot));
    old = λ n. subst (AreHeldOld births) (sym (moved n)) (k.memory.old n);
    counted = k.memory.counted;
    roomy = k.memory.roomy;
  };
  lie = λ n. subst (λ o. Lies (laid lives).marks o) (sym (same n)) (k.lie n);
}
  where
    moved : (n : ℕ) → in_slot (held_slots values slots') n ≡ in_slot (held_slots values slots) n
    moved n = slot-map values slots' n ∙ (ap (held_as values) (same n) ∙ sym (slot-map values slots n))

pub whole-moved : (s s' : Rows) → IsWhole s → s'.live.items ≡ s.live.items → s'.pool ≡ s.pool → ((n : ℕ) → row_in s'.rows.slots n ≡ row_in s.rows.slots n)
    → vec_capacity s.live ≤ vec_capacity s'.live → slab_len s'.rows + s.pool.births_left ≤ s'.rows.capacity → (0 < s.pool.births_left → s'.rows.capacity ≤ 2 ^ 32) → IsWhole s'
whole-moved s s' w live pool same more room small =
    let left : s'.pool.births_left ≡ s.pool.births_left = ap (λ (p : Pool). p.births_left) pool in
    record {
      kept = subst (λ hs. AreKept hs s'.rows.slots s'.pool.values.items s'.pool.places.lives s'.pool.places.births) (sym live)
          (subst (λ (p : Pool). AreKept s.live.items s'.rows.slots p.values.items p.places.lives p.places.births) (sym pool)
          (kept-moved s.live.items s.rows.slots s'.rows.slots s.pool.values.items s.pool.places.lives s.pool.places.births w.kept same));
      pool = subst IsSound (sym pool) w.pool;
      listed = omega (arith, ap length live, left, more, w.listed);
      room = omega (arith, left, room);
      small = λ some. small (omega (arith, some, left));
    }

pub contents-moved : (hs hs' : List Block) (slots slots' : RowSlots) (values : List Value) (lives : List Life) → hs' ≡ hs → ((n : ℕ) → row_in slots' n ≡ row_in slots n)
    → ◌≡◌ {A = Contents} (record { handles = hs'; memory = blocks_of hs' (held_slots values slots') hs'; lives = lives }) (record { handles = hs; memory = blocks_of hs (held_slots values slots) hs; lives = lives })
contents-moved hs hs' slots slots' values lives live same = same_contents live (ap (λ l. blocks_of l (held_slots values slots') l) live ∙ blocks-same hs values slots slots' hs same) refl
