-- Sets that are taken, that grow and that go.
use Rattle.std.proofs.Common.{◌≡◌, ℕ, ◌<◌, true, ◌||◌, ◌⊎◌, inl, inr, List, [], ◌∷◌, ◌++◌, Some, None, Option, Ok, length, refl, sym, ◌∙◌, ap}
use Rattle.std.specs.Prelude.{filter, is_some, map}
use Rattle.std.proofs.lemmas.Bool.{and_parts, or_cases}
use Rattle.mdr_core.specs.declared.plan.Key.{Key}
use Rattle.mdr_core.specs.declared.program.Program.{Program}
use Rattle.mdr_extents.specs.CellOrder.{cells}
use Rattle.mdr_extents.specs.Reaching.{Roots, all_cells, at_cell, beginning, counts, counts_in, first_failing, global_cells, graph, root_cells, unless_argument, visible}
use Rattle.mdr_model.specs.declared.memory.Cell.{Cell}
use Rattle.mdr_model.specs.declared.message.New.{New}
use Rattle.mdr_model.specs.Memory.{Memory, born_at, is_live}
use Rattle.mdr_paths.specs.Paths.{counted, first, is_in, rounds, unless, visible as visible_nodes, visible_set, fails}
use Rattle.mdr_paths.proofs.NodeLists.{in_both, is_in-filter}
use Rattle.mdr_plain.specs.Storage.{born, died, next_serial}
use Rattle.mdr_plain.specs.World.{World}
use Rattle.mdr_watched.specs.Order.{AreLive, IsInOrder}
use Rattle.mdr_watched.specs.Views.{closed, gained, living, new_cells, opened, renewed}
use Rattle.mdr_watched.proofs.KeepLaws.{IsKept}
use Rattle.mdr_watched.proofs.MemoryOrder.{order_kept, order_kept_inside}
use Rattle.mdr_viewed.specs.Laws.{SetsAreViewed}
use Rattle.mdr_viewed.specs.Viewed.{IsOlder, IsOrdered, viewed}
use Rattle.mdr_watched.proofs.Living.{all_living, is_living, live_and, living_both, same_filter}

-- ---- the world's views

opens : (set : List Cell) (w : World) → w.views ≡ [] → AreLive w.memory set → opened set w ≡ viewed (set ∷ []) (opened [] w)
opens set w none live =
    let e : living w.memory set ≡ set = all_living w.memory set live in
    λ i. record w { views = sym e i ∷ none i }

closes : (set : List Cell) (w : World) → w.views ≡ [] → closed (viewed (set ∷ []) (opened [] w)) ≡ w
closes set w none = λ i. record w { views = sym none i }

opens_over : (set : List Cell) (outer : List (List Cell)) (w : World) → AreLive w.memory set → opened set (viewed outer w) ≡ viewed (set ∷ outer) w
opens_over set outer w live = let e : living w.memory set ≡ set = all_living w.memory set live in λ i. record w { views = sym e i ∷ map (living w.memory) outer }

closes_over : (set : List Cell) (outer : List (List Cell)) (w : World) → closed (viewed (set ∷ outer) w) ≡ viewed outer w
closes_over set outer w = refl

pub renews : (old set : List Cell) (outer : List (List Cell)) (w : World) → AreLive w.memory set → renewed set (viewed (old ∷ outer) w) ≡ viewed (set ∷ outer) w
renews old set outer w live = let e : living w.memory set ≡ set = all_living w.memory set live in λ i. record w { views = sym e i ∷ map (living w.memory) outer }

-- ---- sets that are taken and that grow are of what lives

abbrev without_views : World → World
without_views w = record w { views = [] }

-- the order of a state is that of the same state without sets
in_order : (w : World) → IsOrdered w → IsInOrder (without_views w)
in_order w o = record { rises = o.rises; below = o.below; live = tt }

taken_live : (program : Program) (touched : List Key) (known : List Cell) (roots : Roots) (set : List Cell) (w : World) → IsOrdered w → visible program touched w.memory known roots ≡ Ok set → AreLive w.memory set
taken_live program touched known roots set w o is = (order_kept_inside.renews program touched known roots set (without_views w) is (in_order w o)).live.0

pub ordered_kept : IsKept IsOrdered
unfolding born died
ordered_kept = record {
  put = λ w c v o. let x = order_kept.put (without_views w) c v (in_order w o) in record { rises = x.rises; below = x.below };
  keeping = λ w k o. record { rises = o.rises; below = o.below };
  device = λ w d o. record { rises = o.rises; below = o.below };
  tick = λ w o. record { rises = o.rises; below = o.below };
  birth = λ program kind s w o. let x = order_kept.birth program kind s (without_views w) (in_order w o) in record { rises = x.rises; below = x.below };
  death = λ w serial o. let x = order_kept.death (without_views w) serial (in_order w o) in record { rises = x.rises; below = x.below };
}

new_live : (program : Program) (touched : List Key) (next : ℕ) (w : World) → IsOrdered w → AreLive w.memory (new_cells program touched next w.memory)
new_live program touched next w o = (order_kept_inside.grows program touched next (without_views w) (in_order w o)).live.0

pub gains : (program : Program) (touched : List Key) (next : ℕ) (set : List Cell) (outer : List (List Cell)) (w : World) → IsOrdered w
    → gained program touched next (viewed (set ∷ outer) w) ≡ viewed ((set ++ new_cells program touched next w.memory) ∷ outer) w
gains program touched next set outer w o =
    let e : living w.memory (set ++ new_cells program touched next w.memory) ≡ living w.memory set ++ new_cells program touched next w.memory = living_both w.memory set (new_cells program touched next w.memory) (new_live program touched next w o) in
    λ i. record w { views = sym e i ∷ map (living w.memory) outer }

older : (set : List Cell) (w : World) → IsOrdered w → AreLive w.memory set → IsOlder set w
older set w o live = λ c i. o.below c.serial (live c i)

grown : (program : Program) (touched : List Key) (next : ℕ) (set : List Cell) (w : World) → IsOrdered w → IsOlder set w → IsOlder (set ++ new_cells program touched next w.memory) w
grown program touched next set w o old c i = of (or_cases _ _ (sym (in_both cells set (new_cells program touched next w.memory) c) ∙ i))
  where
    of : (is_in cells set c ≡ true) ⊎ (is_in cells (new_cells program touched next w.memory) c ≡ true) → c.serial < next_serial w
    of (inl j) = old c j
    of (inr j) = o.below c.serial (new_live program touched next w o c j)

-- ---- what a set is taken from

counted_lives : (program : Program) (touched : List Key) (m : Memory) (index : ℕ) (o : Option New) → counts_in program touched m index o ≡ true → is_some o ≡ true
counted_lives program touched m index None e = e
counted_lives program touched m index (Some block) e = refl

module _ (program : Program) (touched : List Key) (m : Memory) (set : List Cell) where
  -- a cell that counts lives
  counted_live : (c : Cell) → is_in cells (counted (graph program touched m)) c ≡ true → is_live m c.serial ≡ true
  unfolding counted graph is_live
  counted_live c i = counted_lives program touched m c.index (born_at m c.serial) (and_parts _ _ (sym (is_in-filter cells (counts program touched m) (all_cells m) c) ∙ i)).0

  living_in : (global more : List Cell) (c : Cell) → is_live m c.serial ≡ true → is_in cells (global ++ (living m set ++ more)) c ≡ is_in cells (global ++ (set ++ more)) c
  living_in global more c live =
      in_both cells global (living m set ++ more) c
      ∙ ap (λ b. is_in cells global c || b)
      (in_both cells (living m set) more c ∙ ap (λ b. b || is_in cells more c) (is_living m set c ∙ live_and (is_live m c.serial) (is_in cells set c) live) ∙ sym (in_both cells set more c))
      ∙ sym (in_both cells global (set ++ more) c)

  known : (roots : Roots) → visible program touched m (living m set) roots ≡ visible program touched m set roots
  unfolding visible visible_set visible_nodes first
  known roots =
      ap (λ (begun : List Cell). unless_argument (first_failing program touched m roots.passed roots.values)
      (at_cell (unless (filter (fails (graph program touched m)) (rounds (graph program touched m) (length (graph program touched m).all) begun)) (rounds (graph program touched m) (length (graph program touched m).all) begun))))
      (same_filter (is_in cells (beginning program touched m (living m set) roots)) (is_in cells (beginning program touched m set roots)) (counted (graph program touched m))
      (λ c i. living_in (global_cells program touched m) (root_cells program touched m roots.passed roots.values) c (counted_live c i)))

pub sets_are_viewed : SetsAreViewed
sets_are_viewed = record {
  opens = opens;
  closes = closes;
  opens_over = opens_over;
  closes_over = closes_over;
  renews = renews;
  gains = gains;
  known = λ program touched m set roots. known program touched m set roots;
  taken = taken_live;
  older = older;
  grown = grown;
}
