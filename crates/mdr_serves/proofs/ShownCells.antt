-- The cells of a visible set: each holds a value of its type, and none is a lock.
use Rattle.std.proofs.Common.{◌≡◌, ℕ, true, false, List, Option, Some, None, inl, inr, refl, sym, ◌∙◌, ap}
use Rattle.std.specs.Prelude.{is_some, length, nat_lt}
use Rattle.std.specs.Option.{option_map}
use Rattle.std.proofs.lemmas.Bool.{lt-ltb}
use Rattle.std.proofs.lemmas.Option.{slice_get_within}
use Rattle.mdr_core.specs.declared.plan.Key.{Key}
use Rattle.mdr_core.specs.declared.plan.Plan.{Plan}
use Rattle.mdr_core.specs.declared.program.Program.{Program}
use Rattle.mdr_core.specs.Layout.{Leaf}
use Rattle.mdr_core.specs.Suited.{IsSuited, is_lock, is_lock_by}
use Rattle.mdr_extents.specs.Around.{key_of}
use Rattle.mdr_extents.specs.Extent.{has_key, is_touched}
use Rattle.mdr_extents.specs.Reaching.{counts_in}
use Rattle.mdr_holds.specs.Holding.{FitsCell, IsMemory}
use Rattle.mdr_meaning.specs.declared.wire.Wire.{Wire}
use Rattle.mdr_meaning.specs.Fit.{Fits, Knowledge}
use Rattle.mdr_model.specs.declared.memory.Cell.{Cell}
use Rattle.mdr_model.specs.declared.message.New.{New}
use Rattle.mdr_model.specs.Memory.{Memory, born_at, cell_at, leaf_at, leaves_of}
use Rattle.mdr_model.specs.Agreement.{has_index}
use Rattle.mdr_model.specs.Sets.{is_in}
use Rattle.mdr_model.proofs.Tests.{not_both}
use Rattle.mdr_shows.proofs.Membership.{membership_is_one}
use Rattle.mdr_shows.proofs.Open.{sets_are_open}
use Rattle.mdr_shows.specs.Cells.{GlobalsAreTyped, IsSetOf, is_lock_in, is_lock_leaf}
use Rattle.mdr_watched.specs.Driver.{touched_by}

pub record IsShownCell (program : Program) (K : Knowledge) (m : Memory) (c : Cell) : Type 0 where
  pub block : New
  pub leaf : Leaf
  pub value : Wire
  pub born : born_at m c.serial ≡ Some block
  pub there : leaf_at program block c.index ≡ Some leaf
  pub held : cell_at m c ≡ Some value
  pub fits : Fits program K leaf.type value

-- a cell that isn't there has no key
no_key : (touched : List Key) (key : Leaf → Key) (o : Option Leaf) → o ≡ None → has_key touched (option_map key o) ≡ true → ⊥
no_key touched key None e h = cc
no_key touched key (Some leaf) e h = cc

module _ (program : Program) (plan : Plan) (t : ℕ) (K : Knowledge) (m : Memory) (set : List Cell) (suited : IsSuited plan program) (typed : GlobalsAreTyped program m) (h : IsMemory program K m) (s : IsSetOf program (touched_by plan t) m set) where
  no_lock : (c : Cell) (block : New) (leaf : Leaf) → is_in set c ≡ true → born_at m c.serial ≡ Some block → leaf_at program block c.index ≡ Some leaf → is_lock leaf.type ≡ false
  no_lock c block leaf inside born there =
      sym (ap (λ (o : Option New). is_lock_in program o c.index) born ∙ ap is_lock_leaf there)
      ∙ sets_are_open.no_locks program (touched_by plan t) m set (sets_are_open.keys program plan t suited) typed s c (sym (membership_is_one set c) ∙ inside)

  by_cell : (c : Cell) (block : New) (leaf : Leaf) → is_in set c ≡ true → born_at m c.serial ≡ Some block → leaf_at program block c.index ≡ Some leaf → (o : Option Wire) → cell_at m c ≡ o → is_some o ≡ true → IsShownCell program K m c
  by_cell c block leaf inside born there None e some = absurd cc
  by_cell c block leaf inside born there (Some v) e some = of (h.fit c block leaf v born there e)
    where
      of : FitsCell program K leaf.type v → IsShownCell program K m c
      of (inl fits) = record { block = block; leaf = leaf; value = v; born = born; there = there; held = e; fits = fits }
      of (inr lock) = absurd (not_both (ap is_lock_by lock.0) (no_lock c block leaf inside born there))

  by_leaf : (c : Cell) (block : New) (o : Option Leaf) → is_in set c ≡ true → born_at m c.serial ≡ Some block → leaf_at program block c.index ≡ o → is_touched program (touched_by plan t) block c.index ≡ true → IsShownCell program K m c
  unfolding is_touched key_of
  by_leaf c block None inside born there touched = absurd (no_key (touched_by plan t) _ (leaf_at program block c.index) there touched)
  by_leaf c block (Some leaf) inside born there touched =
      let below : nat_lt c.index (length (leaves_of program block)) ≡ true = lt-ltb _ _ (slice_get_within (leaves_of program block) c.index leaf there) in
      by_cell c block leaf inside born there (cell_at m c) refl (h.formed.sized c ∙ ap (λ (o : Option New). has_index program o c.index) born ∙ below)

  by_block : (c : Cell) (o : Option New) → is_in set c ≡ true → born_at m c.serial ≡ o → counts_in program (touched_by plan t) m c.index o ≡ true → IsShownCell program K m c
  by_block c None inside born counts = absurd cc
  by_block c (Some block) inside born counts = by_leaf c block (leaf_at program block c.index) inside born refl counts

  -- each cell of the set is of a live block, and holds what fits
  pub shown_cell : (c : Cell) → is_in set c ≡ true → IsShownCell program K m c
  shown_cell c inside = by_block c (born_at m c.serial) inside refl (s.counted c (sym (membership_is_one set c) ∙ inside))
