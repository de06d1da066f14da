-- Honest runs have no fault: they rise, lie in the visible set, and their values fit.
use Rattle.std.proofs.Common.{◌≡◌, ℕ, suc, Bool, true, false, cond, ◌||◌, List, [], ◌∷◌, map, Option, Some, None, refl, sym, ◌∙◌, ap, subst}
use Rattle.std.specs.Prelude.{is_none}
use Rattle.std.specs.List.{list_all, list_any, AllByRecursion}
use Rattle.mdr_core.specs.Layout.{Leaf}
use Rattle.mdr_meaning.specs.declared.wire.Wire.{Wire}
use Rattle.mdr_meaning.specs.declared.wire.Wire.TheVariants as wire
use Rattle.mdr_model.specs.declared.memory.Cell.{Cell}
use Rattle.mdr_model.specs.declared.message.Fault.{Fault}
use Rattle.mdr_model.specs.declared.message.New.{New}
use Rattle.mdr_model.specs.declared.message.SetRun.{SetRun}
use Rattle.mdr_model.specs.Copies.{CellValue, changed_cells, changes, has_changed, held, numbered, run_from}
use Rattle.mdr_model.specs.Faults.{is_known, or_else, set_run_of}
use Rattle.mdr_model.specs.Memory.{Memory, born_at, leaf_at}
use Rattle.mdr_model.specs.Sets.{cells_of_run, cells_of_runs, follows_maybe, is_in, is_same_cell, rises_after, runs_of_cells}
use Rattle.mdr_model.proofs.CopyLaws.{itself, numbered_run, with_value}
use Rattle.mdr_model.proofs.RunLaws.{all_left, all_right, before_next, changed_all, length-cells}
use Rattle.mdr_model.proofs.SetLaws.{IsBeforeAll, Rises, cells_of_runs-runs, runs_rise}
use Rattle.mdr_model.proofs.Tests.{and_both, and_left, and_right}
use Rattle.mdr_split.specs.Fits.{Places, fits, is_view}
use Rattle.mdr_split.specs.Legal.{fits_block, fits_cell, fits_leaf, kernel_places, reply_runs_fault, run_fault, runs_fault}
use Rattle.mdr_split.specs.State.{Kernel}
use Rattle.mdr_split.specs.User.{runs_fit, user_places}
use Rattle.mdr_split.proofs.FitLaws.{fits_paired, fits_viewed}
use Rattle.mdr_watched.specs.Driver.{Driver}
use Rattle.mdr_watched.specs.Views.{top}

-- a cell of the set, of a block as it was born, whose value fits its leaf
pub record IsTellable (p : Places) (view : List Cell) (now : Memory) (c : Cell) : Type 0 where
  pub inside : is_in view c ≡ true
  pub block : New
  pub born : born_at p.memory c.serial ≡ Some block
  pub fit : fits_leaf (fits p) (leaf_at p.program block c.index) (held now c) ≡ true

-- ---- what fits a cell is known and a view

leaf_known : (p : Places) (o : Option Leaf) (v : Wire) → fits_leaf (fits p) o v ≡ true → is_known p.paired v ≡ true
leaf_known p None v h = absurd cc
leaf_known p (Some leaf) (wire.Ptr q) h = fits_paired p leaf.type q h
leaf_known p (Some leaf) (wire.Int k n) h = refl
leaf_known p (Some leaf) wire.Null h = refl
leaf_known p (Some leaf) wire.Dead h = refl
leaf_known p (Some leaf) (wire.Fn f) h = refl
leaf_known p (Some leaf) (wire.Lock s) h = refl
leaf_known p (Some leaf) wire.NoValue h = refl

leaf_viewed : (p : Places) (o : Option Leaf) (v : Wire) → fits_leaf (fits p) o v ≡ true → is_view p.program p.memory v ≡ true
leaf_viewed p None v h = absurd cc
leaf_viewed p (Some leaf) v h = fits_viewed p leaf.type v h

-- ---- one run

all_pass : {A B : Type 0} (p : B → Bool) (f : A → B) (P : A → Type 0) (xs : List A) → ((x : A) → P x → p (f x) ≡ true) → AllByRecursion P xs → list_all p (map f xs) ≡ true
all_pass p f P [] each all = refl
all_pass p f P (x ∷ xs) each all = and_both _ _ (each x all.0) (all_pass p f P xs each all.1)

set_run-from : (now : Memory) (r : SetRun) → set_run_of (run_from now r) ≡ r
set_run-from now r = let n = length-cells now r.serial r.first r.len in λ i. record { serial = r.serial; first = r.first; len = n i }

fits_the_cell : (p : Places) (view : List Cell) (now : Memory) (c : Cell) → IsTellable p view now c → fits_cell p (with_value now c) ≡ true
unfolding fits_cell
fits_the_cell p view now c t = ap (λ (o : Option New). fits_block p o c.index (held now c)) t.born ∙ t.fit

one_run : (p : Places) (view : List Cell) (now : Memory) (before : Option SetRun) (i : ℕ) (r : SetRun) → follows_maybe before r ≡ true → AllByRecursion (IsTellable p view now) (cells_of_run r)
    → run_fault p view before i (run_from now r) ≡ None
unfolding run_fault
one_run p view now before i r follows all =
    let P : Cell → Type 0 = IsTellable p view now in
    let order : follows_maybe before (set_run_of (run_from now r)) ≡ true = ap (λ (s : SetRun). follows_maybe before s) (set_run-from now r) ∙ follows in
    let cells : numbered r.serial r.first (map (held now) (cells_of_run r)) ≡ map (with_value now) (cells_of_run r) = numbered_run now r in
    let inside : list_all (λ (x : CellValue). is_in view x.cell) (numbered r.serial r.first (map (held now) (cells_of_run r))) ≡ true =
    ap (λ (xs : List CellValue). list_all (λ (x : CellValue). is_in view x.cell) xs) cells ∙ all_pass (λ (x : CellValue). is_in view x.cell) (with_value now) P (cells_of_run r) (λ c t. t.inside) all in
    let known : list_all (is_known p.paired) (map (held now) (cells_of_run r)) ≡ true =
    all_pass (is_known p.paired) (held now) P (cells_of_run r) (λ c t. leaf_known p (leaf_at p.program t.block c.index) (held now c) t.fit) all in
    let views : list_all (is_view p.program p.memory) (map (held now) (cells_of_run r)) ≡ true =
    all_pass (is_view p.program p.memory) (held now) P (cells_of_run r) (λ c t. leaf_viewed p (leaf_at p.program t.block c.index) (held now c) t.fit) all in
    let fit : list_all (fits_cell p) (numbered r.serial r.first (map (held now) (cells_of_run r))) ≡ true =
    ap (λ (xs : List CellValue). list_all (fits_cell p) xs) cells ∙ all_pass (fits_cell p) (with_value now) P (cells_of_run r) (λ c t. fits_the_cell p view now c t) all in
    rw (order, inside, known, views, fit) refl

honest_runs : (p : Places) (view : List Cell) (now : Memory) (before : Option SetRun) (i : ℕ) (rs : List SetRun) → rises_after before rs ≡ true → AllByRecursion (IsTellable p view now) (cells_of_runs rs)
    → runs_fault p view before i (map (run_from now) rs) ≡ None
unfolding runs_fault rises_after cells_of_runs
honest_runs p view now before i [] rise all = refl
honest_runs p view now before i (r ∷ rs) rise all =
    let P : Cell → Type 0 = IsTellable p view now in
    let one : run_fault p view before i (run_from now r) ≡ None =
    one_run p view now before i r (and_left _ _ rise) (all_left P (cells_of_run r) (cells_of_runs rs) all) in
    let more : runs_fault p view (Some r) (suc i) (map (run_from now) rs) ≡ None =
    honest_runs p view now (Some r) (suc i) rs (and_right (follows_maybe before r) _ rise) (all_right P (cells_of_run r) (cells_of_runs rs) all) in
    ap (λ (f : Option Fault). or_else f (runs_fault p view (Some (set_run_of (run_from now r))) (suc i) (map (run_from now) rs))) one
    ∙ ap (λ (s : SetRun). runs_fault p view (Some s) (suc i) (map (run_from now) rs)) (set_run-from now r)
    ∙ more

-- ---- the changed cells of a rising set

before_changed : (c : Cell) (ds : List Cell) (agreed now : Memory) → IsBeforeAll c ds → Rises ds → IsBeforeAll c (changed_cells ds agreed now)
unfolding changed_cells
before_changed c [] agreed now before rising = tt
before_changed c (d ∷ ds) agreed now before rising = of (has_changed agreed now d) (before_changed c ds agreed now (before_next c d ds before rising.0) rising.1)
  where
    of : (t : Bool) → IsBeforeAll c (changed_cells ds agreed now) → IsBeforeAll c (cond t (d ∷ changed_cells ds agreed now) (changed_cells ds agreed now))
    of true later = before
    of false later = later

changed_rise : (cs : List Cell) (agreed now : Memory) → Rises cs → Rises (changed_cells cs agreed now)
unfolding changed_cells
changed_rise [] agreed now rising = tt
changed_rise (c ∷ cs) agreed now rising = of (has_changed agreed now c) (changed_rise cs agreed now rising.1)
  where
    of : (t : Bool) → Rises (changed_cells cs agreed now) → Rises (cond t (c ∷ changed_cells cs agreed now) (changed_cells cs agreed now))
    of true later = (before_changed c cs agreed now rising.0 rising.1, later)
    of false later = later

or_true : (b : Bool) → (b || true) ≡ true
or_true true = refl
or_true false = refl

-- what holds of each cell of a set holds of all
each_cell : (P : Cell → Type 0) (cs : List Cell) → ((c : Cell) → is_in cs c ≡ true → P c) → AllByRecursion P cs
unfolding is_in
each_cell P [] each = tt
each_cell P (c ∷ cs) each = (
  each c (ap (λ (b : Bool). b || list_any (is_same_cell c) cs) (itself c)),
  each_cell P cs (λ d h. each d (ap (λ (b : Bool). is_same_cell d c || b) h ∙ or_true (is_same_cell d c))),
)

runs_right : (p : Places) (view : List Cell) (agreed now : Memory) → Rises view → AllByRecursion (IsTellable p view now) (changed_cells view agreed now) → runs_fault p view None 0 (changes view agreed now) ≡ None
unfolding changes
runs_right p view agreed now rising all =
    let cs : List Cell = changed_cells view agreed now in
    honest_runs p view now None 0 (runs_of_cells cs) (runs_rise cs (changed_rise view agreed now rising))
    (subst (λ (ds : List Cell). AllByRecursion (IsTellable p view now) ds) (sym (cells_of_runs-runs cs)) all)

-- ---- what is told of a rising set has no fault

-- where each changed cell may be told
pub changes_fit : (p : Places) (view : List Cell) (agreed now : Memory) → Rises view → ((c : Cell) → is_in (changed_cells view agreed now) c ≡ true → IsTellable p view now c)
    → runs_fault p view None 0 (changes view agreed now) ≡ None
changes_fit p view agreed now rising each = runs_right p view agreed now rising (each_cell (IsTellable p view now) (changed_cells view agreed now) each)

-- where each cell of the set may
pub changes_fit_all : (p : Places) (view : List Cell) (agreed now : Memory) → Rises view → ((c : Cell) → is_in view c ≡ true → IsTellable p view now c)
    → runs_fault p view None 0 (changes view agreed now) ≡ None
changes_fit_all p view agreed now rising each = runs_right p view agreed now rising (changed_all (IsTellable p view now) view agreed now (each_cell (IsTellable p view now) view each))

-- what a reply tells, as the kernel half judges it
pub reply_runs_right : (d : Driver) (k : Kernel) (view : List Cell) (now : Memory) → top k.world.views ≡ view → Rises view
    → ((c : Cell) → is_in (changed_cells view k.agreed now) c ≡ true → IsTellable (kernel_places d k) view now c) → reply_runs_fault d k (changes view k.agreed now) ≡ None
reply_runs_right d k view now same rising each =
    ap (λ (set : List Cell). runs_fault (kernel_places d k) set None 0 (changes view k.agreed now)) same ∙ changes_fit (kernel_places d k) view k.agreed now rising each

-- what a message tells, as the user half judges it, with the set that the message shows
pub message_runs_right : (d : Driver) (copy : Memory) (view : List Cell) (agreed now : Memory) → Rises view
    → ((c : Cell) → is_in (changed_cells view agreed now) c ≡ true → IsTellable (user_places d copy) view now c) → runs_fit d copy (cells_of_runs (runs_of_cells view)) (changes view agreed now) ≡ true
unfolding runs_fit
message_runs_right d copy view agreed now rising each =
    ap (λ (set : List Cell). is_none (runs_fault (user_places d copy) set None 0 (changes view agreed now))) (cells_of_runs-runs view)
    ∙ ap (λ (o : Option Fault). is_none o) (changes_fit (user_places d copy) view agreed now rising each)
