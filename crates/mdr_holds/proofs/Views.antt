-- Work of the kernel half leaves the visible sets as they are, without the dead.
use Rattle.std.proofs.Common.{◌≡◌, ℕ, ◌<◌, ◌≤◌, true, List, [], ◌∷◌, ◌++◌, map, refl, sym, ap, ◌∙◌, arith}
use Rattle.mdr_core.specs.declared.program.Program.{Program}
use Rattle.mdr_extents.specs.CellOrder.{cells}
use Rattle.mdr_meaning.specs.declared.wire.Wire.{Wire}
use Rattle.mdr_meaning.specs.Tree.{Asked}
use Rattle.mdr_model.specs.declared.memory.Cell.{Cell}
use Rattle.mdr_model.specs.declared.memory.MemoryBlock.{MemoryBlock}
use Rattle.mdr_model.specs.Memory.{Memory, killed, put, zero_block}
use Rattle.mdr_paths.specs.Paths.{is_in}
use Rattle.mdr_plain.specs.Running.{call, interrupts}
use Rattle.mdr_plain.specs.Services.{served}
use Rattle.mdr_plain.specs.Storage.{born, died, new_of, next_serial, without}
use Rattle.mdr_plain.specs.World.{World, left}
use Rattle.mdr_watched.specs.Views.{living}
use Rattle.mdr_watched.proofs.Living.{all_living, births_grow, living_born, living_killed, living_put}
use Rattle.mdr_watched.specs.Driver.{Driver}
use Rattle.mdr_watched.specs.Order.{AllAreLive, IsInOrder}
use Rattle.mdr_watched.specs.Watched.{kernel_of, may_not}
use Rattle.mdr_watched.proofs.KeepLaws.{IsKept, kernel_call_keeps, may_not_keeps, served_keeps}
use Rattle.mdr_holds.specs.Leaving.{ViewsStay}

-- each cell of the sets is of a block that was born before
abbrev AreOlder : List (List Cell) → ℕ → Type 0
AreOlder [] next = Unit {0}
AreOlder (set ∷ sets) next = ((c : Cell) → is_in cells set c ≡ true → c.serial < next) × AreOlder sets next

-- the world's sets are the living cells of these
record AreLeft (views : List (List Cell)) (w : World) : Type 0 where
  stay : w.views ≡ map (living w.memory) views
  older : AreOlder views (next_serial w)

still_older : (views : List (List Cell)) (next next' : ℕ) → next ≤ next' → AreOlder views next → AreOlder views next'
still_older [] next next' less h = tt
still_older (set ∷ sets) next next' less h = (λ c i. let under : c.serial < next = h.0 c i in omega (arith, under, less), still_older sets next next' less h.1)

put_stays : (m : Memory) (c : Cell) (v : Wire) (views : List (List Cell)) → map (living (put m c v)) views ≡ map (living m) views
put_stays m c v [] = refl
put_stays m c v (set ∷ sets) = ap (λ (x : List Cell). x ∷ map (living (put m c v)) sets) (living_put m c v set) ∙ ap (λ (xs : List (List Cell)). living m set ∷ xs) (put_stays m c v sets)

born_stays : (m : Memory) (b : MemoryBlock) (views : List (List Cell)) → AreOlder views b.born.serial → map (living (m ++ b ∷ [])) views ≡ map (living m) views
born_stays m b [] h = refl
born_stays m b (set ∷ sets) h = ap (λ (x : List Cell). x ∷ map (living (m ++ b ∷ [])) sets) (living_born m b set h.0) ∙ ap (λ (xs : List (List Cell)). living m set ∷ xs) (born_stays m b sets h.1)

killed_stays : (dead : ℕ) (m : Memory) (views : List (List Cell)) → map (living (killed dead m)) views ≡ map (without dead) (map (living m) views)
killed_stays dead m [] = refl
killed_stays dead m (set ∷ sets) = ap (λ (x : List Cell). x ∷ map (living (killed dead m)) sets) (living_killed dead m set) ∙ ap (λ (xs : List (List Cell)). without dead (living m set) ∷ xs) (killed_stays dead m sets)

left_kept : (views : List (List Cell)) → IsKept (AreLeft views)
unfolding born died
left_kept views = record {
  put = λ w c v e. record { stay = e.stay ∙ sym (put_stays w.memory c v views); older = e.older };
  keeping = λ w k e. record { stay = e.stay; older = e.older };
  device = λ w d e. record { stay = e.stay; older = e.older };
  tick = λ w e. record { stay = e.stay; older = e.older };
  birth = λ program kind s w e. record {
    stay = e.stay ∙ sym (born_stays w.memory (zero_block program (new_of kind s w)) views e.older);
    older = still_older views _ _ (births_grow w.lives _) e.older;
  };
  death = λ w dead e. record { stay = ap (map (without dead)) e.stay ∙ sym (killed_stays dead w.memory views); older = still_older views _ _ (births_grow w.lives _) e.older };
}

-- ---- where work begins

all_stay : (m : Memory) (views : List (List Cell)) → AllAreLive m views → views ≡ map (living m) views
all_stay m [] h = refl
all_stay m (set ∷ sets) h = ap (λ (x : List Cell). x ∷ sets) (sym (all_living m set h.0)) ∙ ap (λ (xs : List (List Cell)). living m set ∷ xs) (all_stay m sets h.1)

all_older : (w : World) (views : List (List Cell)) → IsInOrder w → AllAreLive w.memory views → AreOlder views (next_serial w)
all_older w [] o h = tt
all_older w (set ∷ sets) o h = (λ c i. o.below c.serial (h.0 c i), all_older w sets o h.1)

begins_left : (w : World) → IsInOrder w → AreLeft w.views w
begins_left w o = record { stay = all_stay w.memory w.views o.live; older = all_older w w.views o o.live }

pub served_views : (program : Program) (a : Asked) (w : World) → IsInOrder w → ViewsStay w (left (served program a w))
served_views program a w o = (served_keeps (AreLeft w.views) (left_kept w.views) program a w (begins_left w o)).at_end.stay

pub called_views : (d : Driver) (f : ℕ) (args : List Wire) (depth : ℕ) (w : World) → IsInOrder w → ViewsStay w (left (call (kernel_of d) (interrupts (kernel_of d)) f args depth w))
called_views d f args depth w o = (kernel_call_keeps (AreLeft w.views) (left_kept w.views) d may_not (may_not_keeps (AreLeft w.views) (left_kept w.views) d) f args depth w (begins_left w o)).at_end.stay
