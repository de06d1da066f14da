-- Sets as runs of cells, and back.
use Rattle.std.proofs.Common.{◌≡◌, suc, Bool, true, false, cond, List, [], ◌∷◌, ◌++◌, refl, ◌∙◌, ap, arith}
use Rattle.std.specs.Prelude.{nat_lt}
use Rattle.std.specs.List.{list_all}
use Rattle.std.proofs.lemmas.Bool.{and_from, and_parts, lt-ltb}
use Rattle.mdr_extents.specs.CellOrder.{cells}
use Rattle.mdr_model.specs.declared.memory.Cell.{Cell}
use Rattle.mdr_model.specs.declared.message.SetRun.{SetRun}
use Rattle.mdr_model.specs.Sets.{begins_behind, cells_of_run, cells_of_runs, joined, runs_of_cells}
use Rattle.mdr_model.proofs.SetLaws.{IsBeforeAll, Rises as RisesByNext, cells_of_runs-runs, runs_rise}
use Rattle.mdr_paths.specs.Paths.{Rises, is_in}
use Rattle.mdr_paths.proofs.NodeLists.{is_in-head, is_in-tail}
use Rattle.mdr_shows.specs.Laws.{RunsAreSets, passes}

-- where each cell comes before all later ones, it comes before the next
before_next : (c : Cell) (cs : List Cell) → ((d : Cell) → is_in cells cs d ≡ true → cells.before c d) → IsBeforeAll c cs
before_next c [] h = tt
before_next c (d ∷ ds) h = h d (is_in-head cells d ds)

-- so the order of sets of nodes is the order of `mdr_model`'s sets
pub by_next : (cs : List Cell) → Rises cells cs → RisesByNext cs
by_next [] rises = tt
by_next (c ∷ cs) rises = (before_next c cs rises.0, by_next cs rises.1)

-- ---- what holds of each cell

all_cells_pass : (p : Cell → Bool) (cs : List Cell) → ((c : Cell) → is_in cells cs c ≡ true → p c ≡ true) → list_all p cs ≡ true
all_cells_pass p [] h = refl
all_cells_pass p (c ∷ cs) h = and_from _ _ (h c (is_in-head cells c cs)) (all_cells_pass p cs (λ d j. h d (is_in-tail cells c cs d j)))

all_left : (p : Cell → Bool) (xs ys : List Cell) → list_all p (xs ++ ys) ≡ true → list_all p xs ≡ true
all_left p [] ys h = refl
all_left p (x ∷ xs) ys h = let q = and_parts (p x) _ h in and_from _ _ q.0 (all_left p xs ys q.1)

all_right : (p : Cell → Bool) (xs ys : List Cell) → list_all p (xs ++ ys) ≡ true → list_all p ys ≡ true
all_right p [] ys h = h
all_right p (x ∷ xs) ys h = all_right p xs ys (and_parts (p x) _ h).1

abbrev has_cells : SetRun → Bool
has_cells r = nat_lt 0 r.len

-- no run is empty
joined_some : (c : Cell) (rs : List SetRun) → list_all has_cells rs ≡ true → list_all has_cells (joined c rs) ≡ true
joined_some c [] h = and_from _ _ (lt-ltb 0 1 (omega arith)) refl
joined_some c (r ∷ rs) h = of (begins_behind c r)
  where
    of : (t : Bool) → list_all has_cells (cond t (record { serial = c.serial; first = c.index; len = suc r.len } ∷ rs) (record { serial = c.serial; first = c.index; len = 1 } ∷ r ∷ rs)) ≡ true
    of true = and_from _ _ (lt-ltb 0 (suc r.len) (omega arith)) (and_parts (has_cells r) _ h).1
    of false = and_from _ _ (lt-ltb 0 1 (omega arith)) h

runs_some : (cs : List Cell) → list_all has_cells (runs_of_cells cs) ≡ true
unfolding runs_of_cells
runs_some [] = refl
runs_some (c ∷ cs) = joined_some c (runs_of_cells cs) (runs_some cs)

both_pass : (p : Cell → Bool) (rs : List SetRun) → list_all has_cells rs ≡ true → list_all p (cells_of_runs rs) ≡ true → list_all (passes p) rs ≡ true
unfolding cells_of_runs
both_pass p [] some all = refl
both_pass p (r ∷ rs) some all =
    let s = and_parts (has_cells r) _ some in
    and_from _ _ (and_from _ _ s.0 (all_left p (cells_of_run r) (cells_of_runs rs) all)) (both_pass p rs s.1 (all_right p (cells_of_run r) (cells_of_runs rs) all))

pub runs_are_sets : RunsAreSets
runs_are_sets = record {
  back = cells_of_runs-runs;
  rise = λ set rises. runs_rise set (by_next set rises);
  each = λ p set h. both_pass p (runs_of_cells set) (runs_some set) (ap (λ (cs : List Cell). list_all p cs) (cells_of_runs-runs set) ∙ all_cells_pass p set h);
}
