-- Laws of copies: what memory holds after runs of changes were stored in it.
use Rattle.std.proofs.Common.{◌≡◌, ℕ, zero, suc, Bool, true, false, cond, not, ◌&&◌, ◌||◌, List, [], ◌∷◌, ◌++◌, map, Option, Some, None, refl, sym, ◌∙◌, ap, subst}
use Rattle.std.specs.Prelude.{is_some, unwrap_or}
use Rattle.mdr_meaning.specs.declared.wire.Wire.{Wire}
use Rattle.mdr_meaning.specs.declared.wire.Wire.TheVariants as wire
use Rattle.mdr_model.specs.declared.message.Run.{Run}
use Rattle.mdr_model.specs.declared.message.SetRun.{SetRun}
use Rattle.mdr_model.specs.Values.{is_same}
use Rattle.mdr_model.specs.Memory.{Memory, Cell, births, born_at, cell_at, put}
use Rattle.mdr_model.specs.Sets.{is_same_cell, is_in, cells_from, cells_of_run, cells_of_runs, runs_of_cells}
use Rattle.mdr_model.specs.Copies.{CellValue, numbered, values_of_runs, put_all, put_runs, held, run_from, has_changed, changed_cells, changes}
use Rattle.mdr_model.specs.Agreement.{SerialsRise}
use Rattle.mdr_model.proofs.Tests.{not_both, and_both}
pub use Rattle.mdr_model.proofs.MemoryLaws.{same_cell, itself, other_way}
use Rattle.mdr_model.proofs.MemoryLaws.{born_at-births, births-put, rises-births, replaced, cell_at-put_same, cell_at-put_other}
use Rattle.mdr_model.proofs.SetLaws.{cells_of_runs-runs}
use Rattle.mdr_model.proofs.ValueLaws.{same_value}

-- ---- the values that runs name

abbrev pub with_value : Memory → Cell → CellValue
with_value m c = record { cell = c; value = held m c }

numbered-from : (m : Memory) (serial index n : ℕ) → numbered serial index (map (held m) (cells_from serial index n)) ≡ map (with_value m) (cells_from serial index n)
unfolding numbered cells_from
numbered-from m serial index zero = refl
numbered-from m serial index (suc n) = ap (λ (xs : List CellValue). with_value m (record { serial = serial; index = index }) ∷ xs) (numbered-from m serial (suc index) n)

pub numbered_run : (m : Memory) (r : SetRun) → numbered r.serial r.first (map (held m) (cells_of_run r)) ≡ map (with_value m) (cells_of_run r)
numbered_run m r = numbered-from m r.serial r.first r.len

map-append : {A B : Type 0} (f : A → B) (xs ys : List A) → map f (xs ++ ys) ≡ map f xs ++ map f ys
map-append f [] ys = refl
map-append {B = B} f (x ∷ xs) ys = ap (λ (zs : List B). f x ∷ zs) (map-append f xs ys)

values_of_runs-map : (m : Memory) (rs : List SetRun) → values_of_runs (map (run_from m) rs) ≡ map (with_value m) (cells_of_runs rs)
unfolding values_of_runs cells_of_runs
values_of_runs-map m [] = refl
values_of_runs-map m (r ∷ rs) =
    ap (λ (xs : List CellValue). xs ++ values_of_runs (map (run_from m) rs)) (numbered_run m r)
    ∙ ap (λ (ys : List CellValue). map (with_value m) (cells_of_run r) ++ ys) (values_of_runs-map m rs)
    ∙ sym (map-append (with_value m) (cells_of_run r) (cells_of_runs rs))

-- storing changes is storing the changed cells
pub put_runs-changes : (cells : List Cell) (agreed now m : Memory) → put_runs (changes cells agreed now) m ≡ put_all (map (with_value now) (changed_cells cells agreed now)) m
unfolding put_runs changes
put_runs-changes cells agreed now m =
    ap (λ (xs : List CellValue). put_all xs m)
    (values_of_runs-map now (runs_of_cells (changed_cells cells agreed now)) ∙ ap (λ (cs : List Cell). map (with_value now) cs) (cells_of_runs-runs (changed_cells cells agreed now)))

-- ---- storing many cells

pub births-put_all : (xs : List CellValue) (m : Memory) → births (put_all xs m) ≡ births m
unfolding put_all
births-put_all [] m = refl
births-put_all (x ∷ xs) m = births-put_all xs (put m x.cell x.value) ∙ births-put m x.cell x.value

pub births-put_runs : (runs : List Run) (m : Memory) → births (put_runs runs m) ≡ births m
unfolding put_runs
births-put_runs runs m = births-put_all (values_of_runs runs) m

pub put_all-other : (now : Memory) (cs : List Cell) (m : Memory) (d : Cell) → is_in cs d ≡ false → cell_at (put_all (map (with_value now) cs) m) d ≡ cell_at m d
unfolding put_all is_in
put_all-other now [] m d out = refl
put_all-other now (c ∷ cs) m d out =
    put_all-other now cs (put m c (held now c)) d (right_false _ _ out) ∙ cell_at-put_other m c d (held now c) (other_way d c (left_false _ _ out))
  where
    left_false : (a b : Bool) → (a || b) ≡ false → a ≡ false
    left_false true b e = e
    left_false false b e = refl

    right_false : (a b : Bool) → (a || b) ≡ false → b ≡ false
    right_false true b e = absurd (not_both refl e)
    right_false false b e = e

replaced_twice : (o : Option Wire) (v u : Wire) → replaced (replaced o v) u ≡ replaced o u
replaced_twice None v u = refl
replaced_twice (Some x) v u = refl

pub put_all-in : (now : Memory) (cs : List Cell) (m : Memory) (d : Cell) → is_in cs d ≡ true → cell_at (put_all (map (with_value now) cs) m) d ≡ replaced (cell_at m d) (held now d)
unfolding put_all is_in
put_all-in now [] m d found = absurd (not_both found refl)
put_all-in now (c ∷ cs) m d found = of (is_in cs d) refl (is_same_cell d c) refl (λ h. put_all-in now cs (put m c (held now c)) d h)
  where
    of : (t : Bool) → is_in cs d ≡ t → (u : Bool) → is_same_cell d c ≡ u
        → (is_in cs d ≡ true → cell_at (put_all (map (with_value now) cs) (put m c (held now c))) d ≡ replaced (cell_at (put m c (held now c)) d) (held now d))
        → cell_at (put_all (map (with_value now) cs) (put m c (held now c))) d ≡ replaced (cell_at m d) (held now d)
    of true t true u later =
        later t ∙ ap (λ (o : Option Wire). replaced o (held now d)) (subst (λ (x : Cell). cell_at (put m c (held now c)) x ≡ replaced (cell_at m x) (held now c)) (sym (same_cell d c u)) (cell_at-put_same m c (held now c)))
        ∙ replaced_twice (cell_at m d) (held now c) (held now d)
    of true t false u later = later t ∙ ap (λ (o : Option Wire). replaced o (held now d)) (cell_at-put_other m c d (held now c) (other_way d c u))
    of false t true u later =
        put_all-other now cs (put m c (held now c)) d t
        ∙ subst (λ (x : Cell). cell_at (put m c (held now c)) x ≡ replaced (cell_at m x) (held now x)) (sym (same_cell d c u)) (cell_at-put_same m c (held now c))
    of false t false u later = absurd (not_both found (rw (t, u) refl))

-- ---- which cells changed

and_false : (b : Bool) → (b && false) ≡ false
and_false true = refl
and_false false = refl

pub is_in-changed : (cells : List Cell) (agreed now : Memory) (d : Cell) → is_in (changed_cells cells agreed now) d ≡ (is_in cells d && has_changed agreed now d)
unfolding changed_cells is_in
is_in-changed [] agreed now d = refl
is_in-changed (c ∷ cs) agreed now d = of (has_changed agreed now c) refl (is_same_cell d c) refl (is_in-changed cs agreed now d)
  where
    of : (t : Bool) → has_changed agreed now c ≡ t → (u : Bool) → is_same_cell d c ≡ u → is_in (changed_cells cs agreed now) d ≡ (is_in cs d && has_changed agreed now d)
        → is_in (cond (has_changed agreed now c) (c ∷ changed_cells cs agreed now) (changed_cells cs agreed now)) d ≡ ((is_same_cell d c || is_in cs d) && has_changed agreed now d)
    of true t true u later =
        let here : has_changed agreed now d ≡ true = subst (λ (x : Cell). has_changed agreed now x ≡ true) (sym (same_cell d c u)) t in
        rw (t, u) (sym here)
    of true t false u later = rw (t, u) later
    of false t true u later =
        let here : has_changed agreed now d ≡ false = subst (λ (x : Cell). has_changed agreed now x ≡ false) (sym (same_cell d c u)) t in
        rw (t, u) (later ∙ ap (λ (b : Bool). is_in cs d && b) here ∙ and_false (is_in cs d) ∙ sym here)
    of false t false u later = rw (t, u) later

-- a cell that hasn't changed holds what was agreed
pub unchanged : (agreed now : Memory) (c : Cell) → has_changed agreed now c ≡ false → held agreed c ≡ held now c
unchanged agreed now c e = same_value (held agreed c) (held now c) (of (is_same (held agreed c) (held now c)) e)
  where
    of : (b : Bool) → not b ≡ false → b ≡ true
    of true h = refl
    of false h = absurd (not_both refl h)

-- ---- a copy that changes are stored in

-- two options with the same value, which are there together
pub same_option : (a b : Option Wire) → is_some a ≡ is_some b → unwrap_or a wire.NoValue ≡ unwrap_or b wire.NoValue → a ≡ b
same_option None None s e = refl
same_option None (Some y) s e = absurd (not_both refl (sym s))
same_option (Some x) None s e = absurd (not_both refl s)
same_option (Some x) (Some y) s e = ap Some e

replaced_by : (a b : Option Wire) → is_some a ≡ is_some b → replaced a (unwrap_or b wire.NoValue) ≡ b
replaced_by None None s = refl
replaced_by None (Some y) s = absurd (not_both refl (sym s))
replaced_by (Some x) None s = absurd (not_both refl s)
replaced_by (Some x) (Some y) s = refl

-- in the set, a memory that agrees with the copy has then what is told
pub stores_inside : (view : List Cell) (agreed now m : Memory) (c : Cell) → is_in view c ≡ true → cell_at m c ≡ cell_at agreed c → is_some (cell_at m c) ≡ is_some (cell_at now c)
    → cell_at (put_runs (changes view agreed now) m) c ≡ cell_at now c
unfolding held
stores_inside view agreed now m c inside same there =
    ap (λ (m' : Memory). cell_at m' c) (put_runs-changes view agreed now m) ∙ of (has_changed agreed now c) refl
  where
    of : (t : Bool) → has_changed agreed now c ≡ t → cell_at (put_all (map (with_value now) (changed_cells view agreed now)) m) c ≡ cell_at now c
    of true t =
        put_all-in now (changed_cells view agreed now) m c (is_in-changed view agreed now c ∙ and_both _ _ inside t)
        ∙ replaced_by (cell_at m c) (cell_at now c) there
    of false t =
        put_all-other now (changed_cells view agreed now) m c (is_in-changed view agreed now c ∙ ap (λ (b : Bool). b && has_changed agreed now c) inside ∙ t)
        ∙ same_option (cell_at m c) (cell_at now c) there (ap (λ (o : Option Wire). unwrap_or o wire.NoValue) same ∙ unchanged agreed now c t)

-- outside the set nothing changes
pub stores_outside : (view : List Cell) (agreed now m : Memory) (c : Cell) → is_in view c ≡ false → cell_at (put_runs (changes view agreed now) m) c ≡ cell_at m c
stores_outside view agreed now m c outside =
    ap (λ (m' : Memory). cell_at m' c) (put_runs-changes view agreed now m)
    ∙ put_all-other now (changed_cells view agreed now) m c (is_in-changed view agreed now c ∙ ap (λ (b : Bool). b && has_changed agreed now c) outside)

-- both in one equation: the cells of the set become those that are now, where they were there; others stay
pub cell_at-changes : (view : List Cell) (agreed now m : Memory) (c : Cell)
    → (is_in view c ≡ true → is_some (cell_at m c) ≡ is_some (cell_at now c)) → (is_in view c ≡ true → cell_at m c ≡ cell_at agreed c)
    → cell_at (put_runs (changes view agreed now) m) c ≡ cond (is_in view c) (cell_at now c) (cell_at m c)
cell_at-changes view agreed now m c there same = of (is_in view c) refl
  where
    of : (t : Bool) → is_in view c ≡ t → cell_at (put_runs (changes view agreed now) m) c ≡ cond t (cell_at now c) (cell_at m c)
    of true t = stores_inside view agreed now m c t (same t) (there t)
    of false t = stores_outside view agreed now m c t

pub born_at-put_runs : (runs : List Run) (m : Memory) (serial : ℕ) → born_at (put_runs runs m) serial ≡ born_at m serial
born_at-put_runs runs m serial = born_at-births (put_runs runs m) m serial (births-put_runs runs m)

pub rises-put_runs : (runs : List Run) (m : Memory) → SerialsRise m → SerialsRise (put_runs runs m)
rises-put_runs runs m r = rises-births m (put_runs runs m) (sym (births-put_runs runs m)) r
