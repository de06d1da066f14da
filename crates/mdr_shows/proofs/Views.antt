-- What is left of the sets of open upcalls when blocks die.
use Rattle.std.proofs.Common.{◌≡◌, ℕ, ◌<◌, ◌≤◌, true, List, [], ◌∷◌, ◌++◌, refl, sym, ◌∙◌, ap, subst, arith}
use Rattle.std.specs.Prelude.{map}
use Rattle.std.proofs.lemmas.Bool.{and_parts}
use Rattle.mdr_core.specs.declared.plan.Key.{Key}
use Rattle.mdr_core.specs.declared.program.Program.{Program}
use Rattle.mdr_extents.specs.CellOrder.{cells}
use Rattle.mdr_extents.specs.Reaching.{counts_in}
use Rattle.mdr_meaning.specs.declared.wire.Wire.{Wire}
use Rattle.mdr_meaning.specs.Tree.{Asked}
use Rattle.mdr_model.specs.declared.memory.Cell.{Cell}
use Rattle.mdr_model.specs.declared.memory.MemoryBlock.{MemoryBlock}
use Rattle.mdr_model.specs.Agreement.{IsBelow}
use Rattle.mdr_model.specs.Memory.{Memory, born_at, is_live, killed, put}
use Rattle.mdr_model.proofs.LifeLaws.{born_at-killed}
use Rattle.mdr_paths.specs.Paths.{is_in}
use Rattle.mdr_paths.proofs.NodeLists.{rises-filter}
use Rattle.mdr_plain.specs.Running.{call, interrupts}
use Rattle.mdr_plain.specs.Services.{served}
use Rattle.mdr_plain.specs.Storage.{born, died, next_serial, without}
use Rattle.mdr_plain.specs.World.{World, left}
use Rattle.mdr_watched.specs.Views.{living}
use Rattle.mdr_watched.proofs.Living.{all_living, births_grow, is_living, living_born, living_killed, living_put}
use Rattle.mdr_watched.specs.Driver.{Driver}
use Rattle.mdr_watched.specs.Order.{AllAreLive, AreLive, IsInOrder}
use Rattle.mdr_watched.specs.Views.{top}
use Rattle.mdr_watched.specs.Watched.{kernel_of, may_not}
use Rattle.mdr_watched.proofs.KeepLaws.{IsKept, kernel_call_keeps, may_not_keeps, served_keeps}
use Rattle.mdr_shows.specs.Cells.{IsSetOf}
use Rattle.mdr_shows.specs.Laws.{DeathsLeaveSets}
use Rattle.mdr_shows.proofs.Named.{counts_live}

-- ---- one set

one : (m : Memory) (serial : ℕ) (set : List Cell) → AreLive m set → without serial set ≡ living (killed serial m) set
one m serial set live = ap (without serial) (sym (all_living m set live)) ∙ sym (living_killed serial m set)

-- the living cells of a set live, and are cells of it
pub living_live : (m : Memory) (set : List Cell) → AreLive m (living m set)
living_live m set c h = (and_parts _ _ (sym (is_living m set c) ∙ h)).0

pub living_inside : (m : Memory) (set : List Cell) (c : Cell) → is_in cells (living m set) c ≡ true → is_in cells set c ≡ true
living_inside m set c h = (and_parts (is_live m c.serial) _ (sym (is_living m set c) ∙ h)).1

-- they are a set in a memory whose blocks are as they were
pub living_set : (program : Program) (touched : List Key) (m m' : Memory) (set : List Cell) → ((c : Cell) → is_in cells set c ≡ true → is_live m' c.serial ≡ true → born_at m' c.serial ≡ born_at m c.serial) → IsSetOf program touched m set
    → IsSetOf program touched m' (living m' set)
living_set program touched m m' set same s = record {
  rises = rises-filter cells (λ (c : Cell). is_live m' c.serial) set s.rises;
  counted = λ c h. ap (counts_in program touched m' c.index) (same c (living_inside m' set c h) (living_live m' set c h)) ∙ s.counted c (living_inside m' set c h);
}

killed_born : (m : Memory) (serial s : ℕ) → is_live (killed serial m) s ≡ true → born_at (killed serial m) s ≡ born_at m s
unfolding is_live
killed_born m serial s h = grind (arith, born_at-killed serial m s)

killed_set : (program : Program) (touched : List Key) (m : Memory) (serial : ℕ) (set : List Cell) → IsSetOf program touched m set → IsSetOf program touched (killed serial m) (without serial set)
killed_set program touched m serial set s =
    subst (IsSetOf program touched (killed serial m)) (sym (one m serial set (λ c h. counts_live program touched m c (s.counted c h))))
    (living_set program touched m (killed serial m) set (λ c h live. killed_born m serial c.serial live) s)

killed_live : (m : Memory) (serial : ℕ) (set : List Cell) → AreLive m set → AreLive (killed serial m) (without serial set)
killed_live m serial set live c h = living_live (killed serial m) set c (ap (λ (xs : List Cell). is_in cells xs c) (sym (one m serial set live)) ∙ h)

-- ---- all of them

abbrev AllAreOlder : ℕ → List (List Cell) → Type 0
AllAreOlder next [] = Unit {0}
AllAreOlder next (set ∷ sets) = ((c : Cell) → is_in cells set c ≡ true → c.serial < next) × AllAreOlder next sets

older_later : (n n' : ℕ) (sets : List (List Cell)) → n ≤ n' → AllAreOlder n sets → AllAreOlder n' sets
older_later n n' [] more h = tt
older_later n n' (set ∷ sets) more h = (λ c i. omega (arith, h.0 c i, more), older_later n n' sets more h.1)

all_older : (m : Memory) (next : ℕ) (sets : List (List Cell)) → IsBelow next m → AllAreLive m sets → AllAreOlder next sets
all_older m next [] low h = tt
all_older m next (set ∷ sets) low h = (λ c i. low c.serial (h.0 c i), all_older m next sets low h.1)

abbrev lefts : Memory → List (List Cell) → List (List Cell)
lefts m sets = map (λ (set : List Cell). living m set) sets

lefts_live : (m : Memory) (sets : List (List Cell)) → AllAreLive m sets → sets ≡ lefts m sets
lefts_live m [] h = refl
lefts_live m (set ∷ sets) h = let here = sym (all_living m set h.0) in let rest = lefts_live m sets h.1 in λ i. here i ∷ rest i

lefts_put : (m : Memory) (c : Cell) (v : Wire) (sets : List (List Cell)) → lefts m sets ≡ lefts (put m c v) sets
lefts_put m c v [] = refl
lefts_put m c v (set ∷ sets) = let here = sym (living_put m c v set) in let rest = lefts_put m c v sets in λ i. here i ∷ rest i

lefts_killed : (serial : ℕ) (m : Memory) (sets : List (List Cell)) → map (without serial) (lefts m sets) ≡ lefts (killed serial m) sets
lefts_killed serial m [] = refl
lefts_killed serial m (set ∷ sets) = let here = sym (living_killed serial m set) in let rest = lefts_killed serial m sets in λ i. here i ∷ rest i

lefts_born : (m : Memory) (b : MemoryBlock) (sets : List (List Cell)) → AllAreOlder b.born.serial sets → lefts m sets ≡ lefts (m ++ b ∷ []) sets
lefts_born m b [] h = refl
lefts_born m b (set ∷ sets) h = let here = sym (living_born m b set h.0) in let rest = lefts_born m b sets h.1 in λ i. here i ∷ rest i

-- a world's sets are the living cells of those that there were, all of them older than what is born later
record IsLeft (sets : List (List Cell)) (w : World) : Type 0 where
  views : w.views ≡ lefts w.memory sets
  older : AllAreOlder (next_serial w) sets

left_kept : (sets : List (List Cell)) → IsKept (IsLeft sets)
unfolding born died
left_kept sets = record {
  put = λ w c v o. record { views = o.views ∙ lefts_put w.memory c v sets; older = o.older };
  keeping = λ w k o. record { views = o.views; older = o.older };
  device = λ w d o. record { views = o.views; older = o.older };
  tick = λ w o. record { views = o.views; older = o.older };
  birth = λ program kind s w o. record { views = o.views ∙ lefts_born w.memory _ sets o.older; older = older_later (next_serial w) _ sets (births_grow w.lives _) o.older };
  death = λ w serial o. record { views = ap (map (without serial)) o.views ∙ lefts_killed serial w.memory sets; older = older_later (next_serial w) _ sets (births_grow w.lives _) o.older };
}

left_first : (w : World) → IsInOrder w → IsLeft w.views w
left_first w o = record { views = lefts_live w.memory w.views o.live; older = all_older w.memory (next_serial w) w.views o.below o.live }

pub served_left : (program : Program) (a : Asked) (w : World) → IsInOrder w → (left (served program a w)).views ≡ map (λ (set : List Cell). living (left (served program a w)).memory set) w.views
served_left program a w o = (served_keeps (IsLeft w.views) (left_kept w.views) program a w (left_first w o)).at_end.views

kernel_left : (d : Driver) (f : ℕ) (args : List Wire) (depth : ℕ) (w : World) → IsInOrder w
    → (left (call (kernel_of d) (interrupts (kernel_of d)) f args depth w)).views ≡ map (λ (set : List Cell). living (left (call (kernel_of d) (interrupts (kernel_of d)) f args depth w)).memory set) w.views
kernel_left d f args depth w o = (kernel_call_keeps (IsLeft w.views) (left_kept w.views) d may_not (may_not_keeps (IsLeft w.views) (left_kept w.views) d) f args depth w (left_first w o)).at_end.views

-- the set that is on top
pub top_left : (m : Memory) (sets : List (List Cell)) → top (map (λ (set : List Cell). living m set) sets) ≡ living m (top sets)
top_left m [] = refl
top_left m (set ∷ sets) = refl

all_dead : (serial : ℕ) (m : Memory) (sets : List (List Cell)) → AllAreLive m sets → AllAreLive (killed serial m) (map (without serial) sets)
all_dead serial m [] h = tt
all_dead serial m (set ∷ sets) h = (killed_live m serial set h.0, all_dead serial m sets h.1)

pub deaths_leave_sets : DeathsLeaveSets
unfolding died
deaths_leave_sets = record {
  one = one;
  live = killed_live;
  all = λ serial w h. all_dead serial w.memory w.views h;
  set = killed_set;
  services = served_left;
  kernel = kernel_left;
}
