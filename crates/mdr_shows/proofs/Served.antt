-- What a service makes of the set of the innermost upcall.
use Rattle.std.proofs.Common.{◌≡◌, ℕ, ◌<◌, ◌≤◌, true, ◌⊎◌, inl, inr, List, [], ◌∷◌, ◌++◌, sym, ◌∙◌, ap, subst, arith}
use Rattle.std.specs.Prelude.{map, option_map}
use Rattle.std.proofs.lemmas.Bool.{both_ways, or_cases}
use Rattle.mdr_core.specs.declared.plan.Key.{Key}
use Rattle.mdr_core.specs.declared.program.Program.{Program}
use Rattle.mdr_core.specs.Services.{service_numbered}
use Rattle.mdr_extents.specs.CellOrder.{IsBefore, cells}
use Rattle.mdr_extents.specs.Reaching.{counts}
use Rattle.mdr_extents.proofs.CellLists.{rises_append}
use Rattle.mdr_meaning.specs.declared.wire.Wire.{Wire}
use Rattle.mdr_meaning.specs.Tree.{Asked}
use Rattle.mdr_model.specs.declared.memory.Cell.{Cell}
use Rattle.mdr_model.specs.Agreement.{KeepsShown, MayFollow, born_cell}
use Rattle.mdr_model.specs.Copies.{is_named}
use Rattle.mdr_model.specs.Memory.{Memory, born_at, cell_at, is_live, normal}
use Rattle.mdr_model.specs.Sets.{is_in}
use Rattle.mdr_paths.specs.Paths.{Rises, is_in as is_among}
use Rattle.mdr_paths.proofs.NodeLists.{in_both, none_in}
use Rattle.mdr_plain.specs.Services.{as_now}
use Rattle.mdr_plain.specs.Storage.{next_serial}
use Rattle.mdr_plain.specs.World.{World, Ran, left}
use Rattle.mdr_viewed.specs.Viewed.{living}
use Rattle.mdr_watched.specs.Order.{AllAreLive, AreLive}
use Rattle.mdr_watched.specs.Views.{new_cells, top}
use Rattle.mdr_shows.specs.Cells.{HasNoLocks, IsServed, IsSetOf, NamesLock, is_lock_at}
use Rattle.mdr_shows.specs.Laws.{ServicesKeepSets}
use Rattle.mdr_shows.proofs.Effects.{IsTaken}
use Rattle.mdr_shows.proofs.Membership.{membership_is_one}
use Rattle.mdr_shows.proofs.Named.{counts_live}
use Rattle.mdr_shows.proofs.NewCells.{IsNewCell, new_in, new_rises}
use Rattle.mdr_shows.proofs.Serving.{Serves, served_follows, served_serves}
use Rattle.mdr_shows.proofs.Views.{living_inside, living_live, living_set, served_left, top_left}

top_live : (m : Memory) (views : List (List Cell)) → AllAreLive m views → AreLive m (top views)
top_live m [] h = λ c i. absurd (none_in cells c i)
top_live m (set ∷ sets) h = h.0

module _ (program : Program) (touched : List Key) (a : Asked) (w w' : World) (results : List Wire) (s : IsServed program a w results w') where
  abbrev next : ℕ
  next = next_serial w

  -- what the service left of the set, and what joins it
  abbrev old : List Cell
  old = living w'.memory (top w.views)

  abbrev new : List Cell
  new = new_cells program touched next w'.memory

  pub follows : MayFollow program next w.memory (next_serial w') w'.memory
  follows = subst (λ (r : Ran (List Wire)). MayFollow program next w.memory (next_serial (left r)) (left r).memory) s.is (served_follows program a w s.formed s.order.below)

  pub serves : Serves next program (IsTaken (as_now w a) (service_numbered a.service) w) w.memory results w'.memory
  serves = served_serves program a w w' results s.formed s.order.below s.is

  pub view_is : top w'.views ++ new ≡ old ++ new
  view_is =
      let views : w'.views ≡ map (λ (set : List Cell). living w'.memory set) w.views =
      subst (λ (r : Ran (List Wire)). (left r).views ≡ map (λ (set : List Cell). living (left r).memory set) w.views) s.is (served_left program a w s.order) in
      ap (λ (x : List Cell). x ++ new) (ap top views ∙ top_left w'.memory w.views)

  old_below : (c : Cell) → is_among cells old c ≡ true → c.serial < next
  old_below c h = s.order.below c.serial (top_live w.memory w.views s.order.live c (living_inside w'.memory (top w.views) c h))

  new_is : (c : Cell) → is_among cells new c ≡ true → IsNewCell program touched next w'.memory c
  new_is c h = new_in program touched next w'.memory c follows.formed.rises h

  cases : (c : Cell) → is_among cells (old ++ new) c ≡ true → (is_among cells old c ≡ true) ⊎ (is_among cells new c ≡ true)
  cases c h = or_cases _ _ (sym (in_both cells old new c) ∙ h)

  -- ---- the set

  set_rises : IsSetOf program touched w.memory (top w.views) → Rises cells (old ++ new)
  set_rises set = rises_append cells old new (left_set set).rises (new_rises program touched next w'.memory follows.formed.rises) below
    where
      below : (c d : Cell) → is_among cells old c ≡ true → is_among cells new d ≡ true → IsBefore c d
      below c d h j = inl (omega (arith, old_below c h, (new_is d j).later))

      left_set : IsSetOf program touched w.memory (top w.views) → IsSetOf program touched w'.memory old
      left_set x = living_set program touched w.memory w'.memory (top w.views) (λ c h live. follows.old c.serial live (s.order.below c.serial (top_live w.memory w.views s.order.live c h))) x

  left_counts : IsSetOf program touched w.memory (top w.views) → (c : Cell) → is_among cells old c ≡ true → counts program touched w'.memory c ≡ true
  left_counts set c h = (living_set program touched w.memory w'.memory (top w.views) (λ d i live. follows.old d.serial live (s.order.below d.serial (top_live w.memory w.views s.order.live d i))) set).counted c h

  both_count : IsSetOf program touched w.memory (top w.views) → (c : Cell) → (is_among cells old c ≡ true) ⊎ (is_among cells new c ≡ true) → counts program touched w'.memory c ≡ true
  both_count set c (inl h) = left_counts set c h
  both_count set c (inr h) = (new_is c h).counted

  pub served_set : IsSetOf program touched w.memory (top w.views) → IsSetOf program touched w'.memory (top w'.views ++ new)
  served_set set = subst (IsSetOf program touched w'.memory) (sym view_is) (record { rises = set_rises set; counted = λ c h. both_count set c (cases c h) })

  -- ---- its cells

  module _ (names : NamesLock program a w) (none : HasNoLocks program w.memory (top w.views)) where
    free : (c : Cell) → is_among cells (top w.views) c ≡ true → IsTaken (as_now w a) (service_numbered a.service) w c → ⊥
    free c h taken = both_ways (is_lock_at program w.memory c) (none c h) (names taken.takes c taken.reached_is)

    abbrev IsKeptCell : Cell → Type 0
    IsKeptCell c = ((is_in (top w.views) c ≡ true) × (cell_at w'.memory c ≡ option_map (normal w'.memory) (cell_at w.memory c)))
        ⊎ ((next ≤ c.serial) × (is_named results c.serial ≡ true) × (cell_at w'.memory c ≡ born_cell program (born_at w'.memory c.serial) c.index))

    lives : (c : Cell) → (is_among cells old c ≡ true) ⊎ (is_among cells new c ≡ true) → is_live w'.memory c.serial ≡ true
    lives c (inl h) = living_live w'.memory (top w.views) c h
    lives c (inr h) = counts_live program touched w'.memory c (new_is c h).counted

    kept_cell : (c : Cell) → (is_among cells old c ≡ true) ⊎ (is_among cells new c ≡ true) → IsKeptCell c
    kept_cell c (inl h) =
        let inside : is_among cells (top w.views) c ≡ true = living_inside w'.memory (top w.views) c h in
        inl (membership_is_one (top w.views) c ∙ inside, serves.old c (old_below c h) (living_live w'.memory (top w.views) c h) (free c inside))
    kept_cell c (inr h) =
        let n : IsNewCell program touched next w'.memory c = new_is c h in
        inr (n.later, sym (serves.named c.serial n.later) ∙ counts_live program touched w'.memory c n.counted, serves.zeros c n.later)

    kept_shown : KeepsShown program next (top w.views) (old ++ new) results w.memory w'.memory
    kept_shown = record {
      live = λ c h. lives c (cases c (sym (membership_is_one (old ++ new) c) ∙ h));
      cells = λ c h. kept_cell c (cases c (sym (membership_is_one (old ++ new) c) ∙ h));
    }

    pub served_shown : KeepsShown program next (top w.views) (top w'.views ++ new) results w.memory w'.memory
    served_shown = subst (λ (view : List Cell). KeepsShown program next (top w.views) view results w.memory w'.memory) (sym view_is) kept_shown

pub services_keep_sets : ServicesKeepSets
services_keep_sets = record {
  shown = λ program touched a w w' results s names none. served_shown program touched a w w' results s names none;
  set = λ program touched a w w' results s set. served_set program touched a w w' results s set;
  follows = served_follows;
}
