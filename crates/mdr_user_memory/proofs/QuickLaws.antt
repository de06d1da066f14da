-- The first cell of a block of the copy.
use Rattle.std.proofs.Common.{◌≡◌, ℕ, ◌+◌, ◌<◌, ◌==◌, Bool, true, false, List, [], ◌∷◌, Some, Ok, refl, sym, ◌∙◌, ap, subst, arith}
use Rattle.std.specs.Prelude.{cond, is_some, nat_lt, slice_get}
use Rattle.std.proofs.lemmas.Bool.{lt-ltb}
use Rattle.mdr_events.specs.declared.integer.Integer.{Integer}
use Rattle.mdr_events.specs.Integers.{FirstBecomes, FirstIs, IsFirst, integer_wire}
use Rattle.mdr_meaning.specs.declared.wire.Wire.{Wire}
use Rattle.mdr_meaning.specs.declared.wire.Wire.TheVariants as wire
use Rattle.mdr_meaning.specs.declared.wire.WireView.{WireView}
use Rattle.mdr_model.specs.declared.memory.Cell.{Cell}
use Rattle.mdr_model.specs.Memory.{Memory, born_at, cell_at, cell_of, is_live, loaded, loaded_cell, loaded_from, normal, put, reached, reached_by, stored, stored_into}
use Rattle.mdr_model.specs.Sets.{is_in}
use Rattle.mdr_user_memory.specs.Copied.{Copied, Past, copied, copied_if, copy_accesses}

-- a block lives that has a cell
held_lives : (m : Memory) (c : Cell) (v : Wire) → cell_at m c ≡ Some v → is_live m c.serial ≡ true
unfolding cell_at is_live born_at
held_lives [] c v e = absurd cc
held_lives (b ∷ m) c v e = of (b.born.serial == c.serial) e (held_lives m c v)
  where
    of : (t : Bool) → cond t (slice_get b.cells c.index) (cell_at m c) ≡ Some v → (cell_at m c ≡ Some v → is_live m c.serial ≡ true)
        → is_some (cond t (Some b.born) (born_at m c.serial)) ≡ true
    of true e rest = refl
    of false e rest = rest e

module _ (past : Past) (agreed : Memory) (view : List Cell) (m : Memory) (serial : ℕ) (n : Integer) (has : is_in view (record { serial = serial; index = 0 }) ≡ true) where
  reached-first : is_live m serial ≡ true → (v : WireView) → IsFirst serial v → reached (is_in view) m (wire.Ptr v) ≡ Ok (record { serial = serial; index = 0 })
  unfolding reached
  reached-first lives v f =
      let alive : is_live m v.serial ≡ true = ap (is_live m) f.block ∙ lives in
      let less : v.index < v.count = omega (arith, f.index, f.some) in
      let inside : nat_lt v.index v.count ≡ true = lt-ltb _ _ less in
      let start : v.first + v.index ≡ 0 = omega (arith, f.first, f.index) in
      let here : is_in view (cell_of v) ≡ true = (λ i. is_in view (record { serial = f.block i; index = start i })) ∙ has in
      λ i. reached_by (alive i) (inside i) (here i) (record { serial = f.block i; index = start i })

  -- each pointer to it loads the integer that it holds
  pub loads-first : cell_at m (record { serial = serial; index = 0 }) ≡ Some (integer_wire n) → FirstIs copy_accesses (copied past agreed view m) serial n
  unfolding loaded
  loads-first e v f = ap (loaded_from m) (reached-first (held_lives m _ _ e) v f) ∙ ap loaded_cell e

  -- and stores one into it
  pub stores-first : is_live m serial ≡ true → (new : Memory) → new ≡ put m (record { serial = serial; index = 0 }) (integer_wire n) → FirstBecomes copy_accesses (copied past agreed view m) serial n (copied past agreed view new)
  unfolding stored normal
  stores-first lives new e v f =
      ap (λ r. copied_if past agreed view (stored_into m (integer_wire n) r)) (reached-first lives v f) ∙ ap (λ (x : Memory). copied_if past agreed view (Ok x)) (sym e)

pub stores_first_as : (c c' : Copied) (serial : ℕ) (n : Integer) → is_in c.view (record { serial = serial; index = 0 }) ≡ true → is_live c.memory serial ≡ true
    → c' ≡ copied c.past c.agreed c.view (put c.memory (record { serial = serial; index = 0 }) (integer_wire n)) → FirstBecomes copy_accesses c serial n c'
stores_first_as c c' serial n has lives e =
    subst (λ x. FirstBecomes copy_accesses c serial n x) (sym e) (stores-first c.past c.agreed c.view c.memory serial n has lives (put c.memory (record { serial = serial; index = 0 }) (integer_wire n)) refl)
