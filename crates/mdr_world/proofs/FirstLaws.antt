-- The first cell of a block.
use Rattle.std.proofs.Common.{◌≡◌, ◌+◌, ◌<◌, ℕ, true, List, [], ◌∷◌, map, Some, Ok, sym, ◌∙◌, ap, arith}
use Rattle.std.specs.Prelude.{nat_lt, slice_get}
use Rattle.std.proofs.lemmas.Bool.{lt-ltb}
use Rattle.mdr_core.specs.declared.value.Block.{Block}
use Rattle.mdr_core.specs.declared.value.Value.{Value}
use Rattle.mdr_core.specs.declared.value.Value.TheVariants as value
use Rattle.mdr_events.specs.declared.integer.Integer.{Integer}
use Rattle.mdr_events.specs.Integers.{FirstBecomes, FirstIs, IsFirst, integer_wire}
use Rattle.mdr_mem.specs.Contents.{Contents, IsInOrder, cell_in, current, is_handle, wire_in}
use Rattle.mdr_meaning.specs.declared.wire.Wire.TheVariants as wire
use Rattle.mdr_meaning.specs.declared.wire.WireView.{WireView}
use Rattle.mdr_model.specs.Memory.{Memory, cell_at, everywhere, is_live, loaded, loaded_cell, loaded_from, normal, put, reached, reached_by, stored, stored_into}
use Rattle.mdr_plain.specs.Storage.{remembers, with_memory as remembering}
use Rattle.mdr_world.specs.Driven.{Driven, driven_accesses, driver, driver_if}
use Rattle.mdr_world.specs.Reaching.{with_memory}
use Rattle.mdr_world.proofs.HandleLaws.{lives}

-- ---- what it holds

first-wire : (hs : List Block) (vs : List Value) (n : Integer) → slice_get vs 0 ≡ Some (value.Int n.kind n.number) → slice_get (map (wire_in hs) vs) 0 ≡ Some (integer_wire n)
unfolding current
first-wire hs [] n e = absurd cc
first-wire hs (v ∷ vs) n e = let same : v ≡ value.Int n.kind n.number = cc in ap (λ x. Some (wire_in hs x)) same

pub first-cell : (m : Memory) (b : Block) (hs : List Block) (vs : List Value) (n : Integer) → ((index : ℕ) → cell_at m (cell_in b index) ≡ slice_get (map (wire_in hs) vs) index)
    → slice_get vs 0 ≡ Some (value.Int n.kind n.number) → cell_at m (cell_in b 0) ≡ Some (integer_wire n)
first-cell m b hs vs n e f = e 0 ∙ first-wire hs vs n f

-- ---- the pointers to it

module _ (s : Contents) (b : Block) (serial : ℕ) (order : IsInOrder s) (held : is_handle s.handles b ≡ true) (is : b.serial ≡ serial) where
  reached-first : (v : WireView) → IsFirst serial v → reached everywhere s.memory (wire.Ptr v) ≡ Ok (cell_in b 0)
  unfolding reached
  reached-first v f =
      let named : v.serial ≡ b.serial = f.block ∙ sym is in
      let alive : is_live s.memory v.serial ≡ true = ap (is_live s.memory) named ∙ lives s order b.serial b (order.one b held) in
      let less : v.index < v.count = omega (arith, f.index, f.some) in
      let inside : nat_lt v.index v.count ≡ true = lt-ltb _ _ less in
      let start : v.first + v.index ≡ 0 = omega (arith, f.first, f.index) in
      λ i. reached_by (alive i) (inside i) true (record { serial = named i; index = start i })

  pub loaded-first : (n : Integer) → cell_at s.memory (cell_in b 0) ≡ Some (integer_wire n) → (v : WireView) → IsFirst serial v → loaded everywhere s.memory (wire.Ptr v) ≡ Ok (integer_wire n)
  unfolding loaded
  loaded-first n e v f = ap (loaded_from s.memory) (reached-first v f) ∙ ap loaded_cell e

  pub stored-first : (n : Integer) (new : Contents) → new ≡ with_memory (put s.memory (cell_in b 0) (integer_wire n)) s → (v : WireView) → IsFirst serial v
      → stored everywhere s.memory (wire.Ptr v) (integer_wire n) ≡ Ok new.memory
  unfolding stored normal
  stored-first n new e v f = ap (stored_into s.memory (integer_wire n)) (reached-first v f) ∙ ap (λ (x : Contents). Ok x.memory) (sym e)

-- ---- in the state of a run

module _ (d : Driven) (serial : ℕ) (n : Integer) where
  pub first-is : (m : Memory) → m ≡ d.world.memory → ((v : WireView) → IsFirst serial v → loaded everywhere m (wire.Ptr v) ≡ Ok (integer_wire n)) → FirstIs driven_accesses d serial n
  first-is m same e v f = ap (λ x. loaded everywhere x (wire.Ptr v)) (sym same) ∙ e v f

  pub first-becomes : (old : Driven) → d ≡ old → (m : Memory) → ((v : WireView) → IsFirst serial v → stored everywhere d.world.memory (wire.Ptr v) (integer_wire n) ≡ Ok m)
      → FirstBecomes driven_accesses old serial n (driver d.program (remembering d.world m))
  first-becomes old same m e v f =
      ap (λ (x : Driven). driven_accesses.store x (wire.Ptr v) (integer_wire n)) (sym same) ∙ ap (λ r. driver_if d.program (remembers d.world r)) (e v f)
