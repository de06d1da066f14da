-- Laws of sets of cells: runs name the cells that they were made of, and rise where the cells do.
use Rattle.std.proofs.Common.{◌≡◌, suc, ◌+◌, ◌<◌, ◌≤◌, Bool, true, false, cond, ◌&&◌, ◌||◌, ◌⊎◌, List, [], ◌∷◌, Some, None, refl, sym, ◌∙◌, ap, arith, inl, inr}
use Rattle.std.specs.Prelude.{◌==◌, nat_lt, nat_le}
use Rattle.std.proofs.lemmas.Bool.{ltb-true, lt-ltb, leb-true, le-leb}
use Rattle.mdr_model.specs.declared.message.SetRun.{SetRun}
use Rattle.mdr_model.specs.Memory.{Cell}
use Rattle.mdr_model.specs.Sets.{cells_from, cells_of_runs, begins_behind, joined, runs_of_cells, follows, rises_after}
use Rattle.mdr_model.proofs.Tests.{same_number, is_same_number, and_both, and_left, and_right}

-- ---- runs and their cells

cells_of_runs-joined : (t : Bool) (c : Cell) (r : SetRun) (rs : List SetRun) → (t ≡ true → begins_behind c r ≡ true)
    → cells_of_runs (cond t (record { serial = c.serial; first = c.index; len = suc r.len } ∷ rs) (record { serial = c.serial; first = c.index; len = 1 } ∷ r ∷ rs)) ≡ c ∷ cells_of_runs (r ∷ rs)
unfolding cells_of_runs cells_from
cells_of_runs-joined true c r rs behind =
    let h : begins_behind c r ≡ true = behind refl in
    let one : r.serial ≡ c.serial = is_same_number _ _ (and_left _ _ h) in
    let two : r.first ≡ suc c.index = is_same_number _ _ (and_right (r.serial == c.serial) _ h) in
    rw (one, two) refl
cells_of_runs-joined false c r rs behind = refl

pub cells_of_runs-runs : (cs : List Cell) → cells_of_runs (runs_of_cells cs) ≡ cs
unfolding cells_of_runs runs_of_cells cells_from
cells_of_runs-runs [] = refl
cells_of_runs-runs (c ∷ cs) = of (runs_of_cells cs) (cells_of_runs-runs cs)
  where
    of : (rs : List SetRun) → cells_of_runs rs ≡ cs → cells_of_runs (joined c rs) ≡ c ∷ cs
    of [] e = ap (λ (xs : List Cell). c ∷ xs) e
    of (r ∷ rs) e = cells_of_runs-joined (begins_behind c r) c r rs (λ h. h) ∙ ap (λ (xs : List Cell). c ∷ xs) e

-- ---- rising cells

-- one cell comes before another: in an earlier block, or at a smaller index of the same
abbrev pub IsBefore : Cell → Cell → Type 0
IsBefore c d = (c.serial < d.serial) ⊎ ((c.serial ≡ d.serial) × (c.index < d.index))

abbrev pub IsBeforeAll : Cell → List Cell → Type 0
IsBeforeAll c [] = Unit {0}
IsBeforeAll c (d ∷ ds) = IsBefore c d

-- each cell comes before the next
abbrev pub Rises : List Cell → Type 0
Rises [] = Unit {0}
Rises (c ∷ cs) = IsBeforeAll c cs × Rises cs

-- the runs of rising cells begin with the first cell
abbrev pub BeginsAt : List SetRun → List Cell → Type 0
BeginsAt [] cs = cs ≡ []
BeginsAt (r ∷ rs) [] = ⊥
BeginsAt (r ∷ rs) (c ∷ cs) = (r.serial ≡ c.serial) × (r.first ≡ c.index)

follows_when : (r s : SetRun) → (r.serial < s.serial) ⊎ ((r.serial ≡ s.serial) × (r.first < s.first) × (r.first + r.len ≤ s.first)) → follows r s ≡ true
follows_when r s (inl h) = rw (lt-ltb _ _ h) refl
follows_when r s (inr h) =
    let e : (r.serial == s.serial) ≡ true = rw h.0 (same_number _) in
    let f : nat_lt r.first s.first ≡ true = lt-ltb _ _ h.1 in
    let g : nat_le (r.first + r.len) s.first ≡ true = le-leb _ _ h.2 in
    or_true _ _ (and_both _ _ (and_both _ _ e f) g)
  where
    or_true : (a b : Bool) → b ≡ true → (a || b) ≡ true
    or_true true b e = refl
    or_true false b e = e

pub follows_tells : (r s : SetRun) → follows r s ≡ true → (r.serial < s.serial) ⊎ ((r.serial ≡ s.serial) × (r.first < s.first) × (r.first + r.len ≤ s.first))
follows_tells r s e = of (nat_lt r.serial s.serial) refl e
  where
    of : (t : Bool) → nat_lt r.serial s.serial ≡ t → (t || (r.serial == s.serial && nat_lt r.first s.first && nat_le (r.first + r.len) s.first)) ≡ true
        → (r.serial < s.serial) ⊎ ((r.serial ≡ s.serial) × (r.first < s.first) × (r.first + r.len ≤ s.first))
    of true t h = inl (ltb-true _ _ t)
    of false t h =
        let both : (r.serial == s.serial && nat_lt r.first s.first) ≡ true = and_left _ _ h in
        inr (is_same_number _ _ (and_left _ _ both), ltb-true _ _ (and_right (r.serial == s.serial) _ both), leb-true _ _ (and_right (r.serial == s.serial && nat_lt r.first s.first) _ h))

-- what is proved of the runs of rising cells, by induction: they rise, and begin with the first cell
pub record RunsRise (rs : List SetRun) (cs : List Cell) : Type 0 where
  pub rise : rises_after None rs ≡ true
  pub begins : BeginsAt rs cs

-- a longer run in place of one that it begins before and ends with
longer : (r r' : SetRun) (rs : List SetRun) → r'.serial ≡ r.serial → r'.first < r.first → r'.first + r'.len ≡ r.first + r.len → rises_after (Some r) rs ≡ true → rises_after (Some r') rs ≡ true
unfolding rises_after
longer r r' [] one two three e = refl
longer r r' (s ∷ rs) one two three e = and_both _ _ (follows_when r' s (of (follows_tells r s (and_left _ _ e)))) (and_right (follows r s) _ e)
  where
    of : (r.serial < s.serial) ⊎ ((r.serial ≡ s.serial) × (r.first < s.first) × (r.first + r.len ≤ s.first)) → (r'.serial < s.serial) ⊎ ((r'.serial ≡ s.serial) × (r'.first < s.first) × (r'.first + r'.len ≤ s.first))
    of (inl h) = inl (omega arith)
    of (inr h) = inr (one ∙ h.0, omega arith, omega arith)

joins : (c : Cell) (rs : List SetRun) (cs : List Cell) → IsBeforeAll c cs → RunsRise rs cs → RunsRise (joined c rs) (c ∷ cs)
unfolding rises_after
joins c [] cs before h = record { rise = refl; begins = (refl, refl) }
joins c (r ∷ rs) [] before h = elim h.begins [ ]
joins c (r ∷ rs) (d ∷ ds) before h = of (begins_behind c r) refl before
  where
    of : (t : Bool) → begins_behind c r ≡ t → IsBefore c d
        → RunsRise (cond t (record { serial = c.serial; first = c.index; len = suc r.len } ∷ rs) (record { serial = c.serial; first = c.index; len = 1 } ∷ r ∷ rs)) (c ∷ d ∷ ds)
    of true t b =
        let one : r.serial ≡ c.serial = is_same_number _ _ (and_left _ _ t) in
        let two : r.first ≡ suc c.index = is_same_number _ _ (and_right (r.serial == c.serial) _ t) in
        record { rise = longer r (record { serial = c.serial; first = c.index; len = suc r.len }) rs (sym one) (omega arith) (omega arith) h.rise; begins = (refl, refl) }
    of false t (inl b) =
        let low : c.serial < r.serial = omega (arith, h.begins.0) in
        record { rise = and_both _ _ (follows_when (record { serial = c.serial; first = c.index; len = 1 }) r (inl low)) h.rise; begins = (refl, refl) }
    of false t (inr b) =
        let same : c.serial ≡ r.serial = b.0 ∙ sym h.begins.0 in
        let low : c.index < r.first = omega (arith, h.begins.1, b.1) in
        let next : c.index + 1 ≤ r.first = omega arith in
        record { rise = and_both _ _ (follows_when (record { serial = c.serial; first = c.index; len = 1 }) r (inr (same, low, next))) h.rise; begins = (refl, refl) }

pub rising_runs : (cs : List Cell) → Rises cs → RunsRise (runs_of_cells cs) cs
unfolding runs_of_cells rises_after
rising_runs [] rising = record { rise = refl; begins = refl }
rising_runs (c ∷ cs) rising = joins c (runs_of_cells cs) cs rising.0 (rising_runs cs rising.1)

pub runs_rise : (cs : List Cell) → Rises cs → rises_after None (runs_of_cells cs) ≡ true
runs_rise cs rising = (rising_runs cs rising).rise
