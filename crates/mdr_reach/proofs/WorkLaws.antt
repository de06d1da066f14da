-- A list of marked cells, each of which is followed in its turn, ends with the visible ones.
use Rattle.std.proofs.Common.{◌≡◌, ℕ, zero, suc, ◌+◌, ◌-◌, ◌<◌, ◌≤◌, Bool, true, false, ◌⊎◌, inl, inr, List, [], ◌∷◌, ◌++◌, drop, take, length, length-append, le_refl, Option, Some, None, Ok, Err, Result, refl, sym, ◌∙◌, ap, subst, arith}
use Rattle.std.specs.Prelude.{◌&&◌, ◌||◌, ◌==◌, is_some, nat_lt, slice_get, filter, cond}
use Rattle.std.proofs.lemmas.Bool.{both_ways, and_parts, and_from, or_cases, or_left, or_right, cases_lt, eqb-true, eq-eqb}
use Rattle.std.specs.Option.{option_map}
use Rattle.std.specs.Prelude.{IfOk, MatchOption, not}
use Rattle.std.proofs.lemmas.Option.{slice_get-map}
use Rattle.mdr_cells.specs.declared.name.CellName.{CellName}
use Rattle.mdr_cells.specs.Names.{cell_of, named}
use Rattle.mdr_core.specs.declared.plan.Key.{Key}
use Rattle.mdr_core.specs.declared.program.Program.{Program}
use Rattle.mdr_core.specs.Layout.{chosen}
use Rattle.mdr_extents.specs.CellOrder.{IsBefore, cells, cells_through}
use Rattle.mdr_extents.specs.Extent.{has_failed}
use Rattle.mdr_extents.specs.Reaching.{Roots, all_cells, at_cell, beginning, cells_of_block, counts, extent_at, first_failing, global_cells, graph, root_cells, unless_argument, visible as visible_now}
use Rattle.mdr_extents.specs.Reaching as reaching
use Rattle.mdr_extents.proofs.CellLists.{all_rise, in_all, in_block}
use Rattle.mdr_model.specs.declared.memory.Cell.{Cell}
use Rattle.mdr_model.specs.Agreement.{IsBelow, SerialsRise}
use Rattle.mdr_model.specs.Memory.{Memory, cell_at}
use Rattle.mdr_model.specs.Sets.{cells_from}
use Rattle.mdr_paths.specs.Paths.{AreNew, Graph, IsPartial, IsPathSet, Path, Rises, counted, fails, is_in, leads, unless, visible, visible_set}
use Rattle.mdr_paths.proofs.NodeLists.{falls, in_both, is_in-cases, is_in-filter, is_in-head, is_in-tail, none_in, same_nodes}
use Rattle.mdr_paths.proofs.ReachLaws.{accepted_exactly, complete, path_counts, path_marked, refused_exactly, sound, visible_rises, work_ends, work_steps}
use Rattle.mdr_reach.specs.Answers.{IsOlder, answered}
use Rattle.mdr_reach.specs.declared.failing.Failing.{Failing}
use Rattle.mdr_reach.specs.Marks.{AreMarked, IsFollowed, IsFound, IsLeast, IsLeastOf, IsReached, IsUpTo, counts_at, entered, led, with_cell}
use Rattle.mdr_reach.proofs.EnterLaws.{News, entered_in, marks_more, news_of, same_bool}

-- ---- places in a list

drop_at : {A : Type 0} (xs : List A) (i : ℕ) (x : A) → Some x ≡ slice_get xs i → drop i xs ≡ x ∷ drop (suc i) xs
drop_at [] i x e = absurd cc
drop_at (y ∷ xs) zero x e = let same : x ≡ y = cc in ap (λ z. z ∷ xs) (sym same)
drop_at (y ∷ xs) (suc i) x e = drop_at xs i x e

drop_front : {A : Type 0} (xs ys : List A) (i : ℕ) → i ≤ length xs → drop i (xs ++ ys) ≡ drop i xs ++ ys
drop_front xs ys zero l = refl
drop_front [] ys (suc i) l = absurd (omega (arith, l))
drop_front (x ∷ xs) ys (suc i) l = drop_front xs ys i (omega (arith, l))

take_front : {A : Type 0} (xs ys : List A) (i : ℕ) → i ≤ length xs → take i (xs ++ ys) ≡ take i xs
take_front xs ys zero l = refl
take_front [] ys (suc i) l = absurd (omega (arith, l))
take_front (x ∷ xs) ys (suc i) l = ap (λ zs. x ∷ zs) (take_front xs ys i (omega (arith, l)))

take_at : {A : Type 0} (xs : List A) (i : ℕ) (x : A) → Some x ≡ slice_get xs i → take (suc i) xs ≡ take i xs ++ x ∷ []
take_at [] i x e = absurd cc
take_at (y ∷ xs) zero x e = let same : x ≡ y = cc in ap (λ z. z ∷ []) (sym same)
take_at (y ∷ xs) (suc i) x e = ap (λ zs. y ∷ zs) (take_at xs i x e)

inside : {A : Type 0} (xs : List A) (i : ℕ) (x : A) → Some x ≡ slice_get xs i → suc i ≤ length xs
inside [] i x e = absurd cc
inside (y ∷ xs) zero x e = omega arith
inside (y ∷ xs) (suc i) x e = let l = inside xs i x e in omega (arith, l)

past : {A : Type 0} (xs : List A) (i : ℕ) → None ≡ slice_get xs i → drop i xs ≡ []
past [] zero e = refl
past [] (suc i) e = refl
past (x ∷ xs) zero e = absurd cc
past (x ∷ xs) (suc i) e = past xs i e

all_taken : {A : Type 0} (xs : List A) (i : ℕ) → None ≡ slice_get xs i → take i xs ≡ xs
all_taken [] zero e = refl
all_taken [] (suc i) e = refl
all_taken (x ∷ xs) zero e = absurd cc
all_taken (x ∷ xs) (suc i) e = ap (λ zs. x ∷ zs) (all_taken xs i e)

is_one : (xs : List Cell) (i : ℕ) (x : Cell) → Some x ≡ slice_get xs i → is_in cells xs x ≡ true
is_one [] i x e = absurd cc
is_one (y ∷ xs) zero x e = let same : x ≡ y = cc in subst (λ z. is_in cells (z ∷ xs) x ≡ true) same (is_in-head cells x xs)
is_one (y ∷ xs) (suc i) x e = is_in-tail cells y xs x (is_one xs i x e)

-- ---- following

module _ (g : Graph cells) (counts : Cell → Bool) (same : (c : Cell) → counts c ≡ is_in cells (counted g) c) (roots : List Cell) where
  -- one cell is followed
  pub followed_more : (xs ys edges : List Cell) (i : ℕ) (d : Cell) (failing next : Option CellName) → Some d ≡ slice_get xs i → IsLeastOf g (take i xs ++ d ∷ []) next → ((c : Cell) → leads g d c ≡ is_in cells edges c) → ys ≡ entered counts xs edges
      → IsFollowed g roots xs i failing → IsFollowed g roots ys (suc i) next
  followed_more xs ys edges i d failing next at least edge is had = subst (λ zs. IsFollowed g roots zs (suc i) next) (sym (is ∙ n.is)) (record { partial = partial; least = kept })
    where
      n : News counts xs edges
      n = news_of counts xs edges

      new : AreNew g xs d n.news
      new = record {
        led = λ c h. edge c ∙ (and_parts (counts c) (is_in cells edges c) (n.from c h)).1;
        count = λ c h. sym (same c) ∙ (and_parts (counts c) (is_in cells edges c) (n.from c h)).0;
        rest = λ c h k. rest c (or_cases (is_in cells xs c) (is_in cells n.news c) (sym (in_both cells xs n.news c) ∙ ap (λ zs. is_in cells zs c) (sym n.is) ∙ entered_in counts xs edges c ∙ or_right (is_in cells xs c) (counts c && is_in cells edges c) (and_from (counts c) (is_in cells edges c) (same c ∙ k) (sym (edge c) ∙ h))));
      }
        where
          rest : (c : Cell) → (is_in cells xs c ≡ true) ⊎ (is_in cells n.news c ≡ true) → (is_in cells n.news c ≡ true) ⊎ (is_in cells xs c ≡ true)
          rest c (inl h) = inr h
          rest c (inr h) = inl h

      partial : IsPartial g roots (xs ++ n.news) (drop (suc i) (xs ++ n.news))
      partial = subst (IsPartial g roots (xs ++ n.news)) (sym (drop_front xs n.news (suc i) (inside xs i d at)))
          (work_steps g roots xs (drop (suc i) xs) n.news d (is_one xs i d at) new (subst (IsPartial g roots xs) (drop_at xs i d at) had.partial))

      kept : IsLeastOf g (take (suc i) (xs ++ n.news)) next
      kept = subst (λ zs. IsLeastOf g zs next) (sym (take_front xs n.news (suc i) (inside xs i d at) ∙ take_at xs i d at)) least

  -- the cells with which it begins
  pub followed_first : (test : Cell → Bool) (xs : List Cell) → ((c : Cell) → counts c ≡ true → test c ≡ is_in cells roots c) → AreMarked counts test xs → IsFollowed g roots xs 0 None
  followed_first test xs is m = record {
    partial = record {
      sound = λ c h. Path.Root c (sym (is c (m.counted c h)) ∙ m.passed c h) (sym (same c) ∙ m.counted c h);
      begun = λ c h k. m.all c (is c (same c ∙ k) ∙ h) (same c ∙ k);
      followed = λ d c h led k. inl h;
    };
    least = λ c h. absurd (none_in cells c h);
  }

  -- all were followed
  module _ (rising : Rises cells g.all) (xs : List Cell) (i : ℕ) (e : None ≡ slice_get xs i) where
    set_of_all : (failing : Option CellName) → IsFollowed g roots xs i failing → IsPathSet g roots xs
    set_of_all failing had = work_ends g roots xs (subst (IsPartial g roots xs) (past xs i e) had.partial)

    pub none_fails : IsFollowed g roots xs i None → IsReached g roots xs
    none_fails had = record { same = λ c. same_bool _ _ (λ h. complete g roots c (set.sound c h)) (λ h. path_marked g roots xs set c (sound g roots c h)); whole = (accepted_exactly g roots).1 (λ c path h. none c (path_marked g roots xs set c path) h) }
      where
        set : IsPathSet g roots xs
        set = set_of_all None had

        none : (c : Cell) → is_in cells xs c ≡ true → fails g c ≡ true → ⊥
        none c h f = both_ways (fails g c) (had.least c (subst (λ zs. is_in cells zs c ≡ true) (sym (all_taken xs i e)) h)) f

    pub one_fails : (name : CellName) → IsFollowed g roots xs i (Some name) → visible_set g roots ≡ Err (cell_of name)
    one_fails name had = (refused_exactly g roots (cell_of name) rising).1 (record {
      path = set.sound (cell_of name) first.one;
      failing = first.failing;
      least = λ d path f. first.least d (path_marked g roots xs set d path) f;
    })
      where
        set : IsPathSet g roots xs
        set = set_of_all (Some name) had

        first : IsLeast g xs (cell_of name)
        first = subst (λ zs. IsLeast g zs (cell_of name)) (all_taken xs i e) had.least

  pub found_all : (rising : Rises cells g.all) (marked : List CellName) (i : ℕ) (failing : Option CellName) (r : Result (List CellName) CellName) → None ≡ slice_get (named marked) i
      → IsFollowed g roots (named marked) i failing → MatchOption failing (r ≡ Ok marked) (λ name. r ≡ Err name) → IsFound g roots r
  found_all rising marked i None r e had is = subst (IsFound g roots) (sym is) (none_fails rising (named marked) i e had)
  found_all rising marked i (Some name) r e had is = subst (IsFound g roots) (sym is) (one_fails rising (named marked) i e name had)

-- ---- the first that fails

-- the cells of a list with one more
behind : (cs : List Cell) (d c : Cell) → is_in cells (cs ++ d ∷ []) c ≡ true → (is_in cells cs c ≡ true) ⊎ (c ≡ d)
behind cs d c h = of (or_cases (is_in cells cs c) (is_in cells (d ∷ []) c) (sym (in_both cells cs (d ∷ []) c) ∙ h))
  where
    one : (c ≡ d) ⊎ (is_in cells [] c ≡ true) → (is_in cells cs c ≡ true) ⊎ (c ≡ d)
    one (inl e) = inr e
    one (inr j) = absurd (none_in cells c j)

    of : (is_in cells cs c ≡ true) ⊎ (is_in cells (d ∷ []) c ≡ true) → (is_in cells cs c ≡ true) ⊎ (c ≡ d)
    of (inl k) = inl k
    of (inr k) = one (is_in-cases cells d [] c k)

in_front : (cs : List Cell) (d c : Cell) → is_in cells cs c ≡ true → is_in cells (cs ++ d ∷ []) c ≡ true
in_front cs d c h = in_both cells cs (d ∷ []) c ∙ or_left (is_in cells cs c) (is_in cells (d ∷ []) c) h

at_end : (cs : List Cell) (d : Cell) → is_in cells (cs ++ d ∷ []) d ≡ true
at_end cs d = in_both cells cs (d ∷ []) d ∙ or_right (is_in cells cs d) (is_in cells (d ∷ []) d) (is_in-head cells d [])

up_through : (c d e : Cell) → IsUpTo c d → IsUpTo d e → IsUpTo c e
up_through c d e (inl p) q = subst (λ x. IsUpTo x e) (sym p) q
up_through c d e (inr p) (inl q) = inr (subst (IsBefore c) q p)
up_through c d e (inr p) (inr q) = inr (cells_through c d e p q)

-- a cell that doesn't fail changes nothing
pub least_kept : (g : Graph cells) (cs : List Cell) (failing : Option CellName) (d : Cell) → IsLeastOf g cs failing → fails g d ≡ false → IsLeastOf g (cs ++ d ∷ []) failing
least_kept g cs None d had whole = λ c h. of c (behind cs d c h)
  where
    of : (c : Cell) → (is_in cells cs c ≡ true) ⊎ (c ≡ d) → fails g c ≡ false
    of c (inl k) = had c k
    of c (inr e) = ap (fails g) e ∙ whole
least_kept g cs (Some name) d had whole = record { one = in_front cs d (cell_of name) had.one; failing = had.failing; least = λ c h f. of c (behind cs d c h) f }
  where
    of : (c : Cell) → (is_in cells cs c ≡ true) ⊎ (c ≡ d) → fails g c ≡ true → IsUpTo (cell_of name) c
    of c (inl k) f = had.least c k f
    of c (inr e) f = absurd (both_ways (fails g c) (ap (fails g) e ∙ whole) f)

-- the first one that fails
pub least_first : (g : Graph cells) (cs : List Cell) (name : CellName) → IsLeastOf g cs None → fails g (cell_of name) ≡ true → IsLeastOf g (cs ++ cell_of name ∷ []) (Some name)
least_first g cs name none f = record { one = at_end cs (cell_of name); failing = f; least = λ c h k. of c (behind cs (cell_of name) c h) k }
  where
    of : (c : Cell) → (is_in cells cs c ≡ true) ⊎ (c ≡ cell_of name) → fails g c ≡ true → IsUpTo (cell_of name) c
    of c (inl j) k = absurd (both_ways (fails g c) (none c j) k)
    of c (inr e) k = inl (sym e)

-- the first of two
pub least_more : (g : Graph cells) (cs : List Cell) (first name new : CellName) → (new ≡ first) ⊎ (new ≡ name) → IsUpTo (cell_of new) (cell_of first) → IsUpTo (cell_of new) (cell_of name)
    → IsLeastOf g cs (Some first) → fails g (cell_of name) ≡ true → IsLeastOf g (cs ++ cell_of name ∷ []) (Some new)
least_more g cs first name new one to_first to_name had f = record { one = (which one).0; failing = (which one).1; least = λ c h k. of c (behind cs (cell_of name) c h) k }
  where
    which : (new ≡ first) ⊎ (new ≡ name) → (is_in cells (cs ++ cell_of name ∷ []) (cell_of new) ≡ true) × (fails g (cell_of new) ≡ true)
    which (inl e) = (ap (λ n. is_in cells (cs ++ cell_of name ∷ []) (cell_of n)) e ∙ in_front cs (cell_of name) (cell_of first) had.one, ap (λ n. fails g (cell_of n)) e ∙ had.failing)
    which (inr e) = (ap (λ n. is_in cells (cs ++ cell_of name ∷ []) (cell_of n)) e ∙ at_end cs (cell_of name), ap (λ n. fails g (cell_of n)) e ∙ f)

    of : (c : Cell) → (is_in cells cs c ≡ true) ⊎ (c ≡ cell_of name) → fails g c ≡ true → IsUpTo (cell_of new) c
    of c (inl j) k = up_through (cell_of new) (cell_of first) c to_first (had.least c j k)
    of c (inr e) k = subst (IsUpTo (cell_of new)) (sym e) to_name

pub fails_of : (program : Program) (touched : List Key) (m : Memory) (c : Cell) → fails (graph program touched m) c ≡ has_failed (extent_at program touched m c)
unfolding fails graph
fails_of program touched m c = refl

-- ---- how many turns are left

-- the marked cells, and those that count and aren't marked: no turn makes them more
unfoldable pub turns : Graph cells → List Cell → ℕ
turns g xs = length xs + length (filter (λ c. not (is_in cells xs c)) (counted g))

module _ (g : Graph cells) (counts : Cell → Bool) (same : (c : Cell) → counts c ≡ is_in cells (counted g) c) where
  one_turn : (xs : List Cell) (c : Cell) → turns g (with_cell counts xs c) ≤ turns g xs
  unfolding turns
  one_turn xs c = of (counts c) refl (is_in cells xs c) refl
    where
      still : (d : Cell) → is_in cells (counted g) d ≡ true → not (is_in cells (xs ++ c ∷ []) d) ≡ true → not (is_in cells xs d) ≡ true
      still d inside h = case (is_in cells xs d) refl
        where
          case : (t : Bool) → is_in cells xs d ≡ t → not t ≡ true
          case true e = absurd (both_ways (not (is_in cells (xs ++ c ∷ []) d)) (ap not (in_front xs c d e)) h)
          case false e = refl

      of : (t : Bool) → counts c ≡ t → (u : Bool) → is_in cells xs c ≡ u → turns g (chosen (t && not u) (xs ++ c ∷ []) xs) ≤ turns g xs
      of true e false f =
          let fewer = falls cells (λ d. not (is_in cells (xs ++ c ∷ []) d)) (λ d. not (is_in cells xs d)) (counted g) c still (sym (same c) ∙ e) (ap not (at_end xs c)) (ap not f) in
          omega (arith, fewer, length-append xs (c ∷ []))
      of true e true f = le_refl _
      of false e u f = le_refl _

  some_turns : (xs cs : List Cell) → turns g (entered counts xs cs) ≤ turns g xs
  unfolding entered
  some_turns xs [] = le_refl _
  some_turns xs (c ∷ cs) = omega (arith, some_turns (with_cell counts xs c) cs, one_turn xs c)

  pub turn_less : (xs ys edges : List Cell) (i : ℕ) → i < length xs → ys ≡ entered counts xs edges → turns g ys - (i + 1) < turns g xs - i
  unfolding turns
  turn_less xs ys edges i l e =
      let few : turns g ys ≤ turns g xs = subst (λ zs. turns g zs ≤ turns g xs) (sym e) (some_turns xs edges) in
      omega (arith, few, l)

-- ---- the cells of a memory

from_is : (serial i n : ℕ) (c : Cell) → is_in cells (cells_from serial i n) c ≡ true → (c.index < i + n)
unfolding cells_from
from_is serial i zero c h = absurd (none_in cells c h)
from_is serial i (suc n) c h = of (is_in-cases cells (record { serial = serial; index = i }) (cells_from serial (suc i) n) c h) (from_is serial (suc i) n c)
  where
    of : (c ≡ record { serial = serial; index = i }) ⊎ (is_in cells (cells_from serial (suc i) n) c ≡ true) → (is_in cells (cells_from serial (suc i) n) c ≡ true → c.index < suc i + n) → c.index < i + suc n
    of (inl e) later = let at : c.index ≡ i = ap (λ (x : Cell). x.index) e in omega (arith, at)
    of (inr j) later = let l = later j in omega (arith, l)

pub is_from : (serial i n : ℕ) (c : Cell) → c.serial ≡ serial → i ≤ c.index → c.index < i + n → is_in cells (cells_from serial i n) c ≡ true
unfolding cells_from
is_from serial i zero c e l h = absurd (omega (arith, l, h))
is_from serial i (suc n) c e l h = of (cases_lt i c.index) (λ k j. is_from serial (suc i) n c e k j)
  where
    first : Cell
    first = record { serial = serial; index = i }

    of : (i < c.index) ⊎ (c.index ≤ i) → (suc i ≤ c.index → c.index < suc i + n → is_in cells (cells_from serial (suc i) n) c ≡ true) → is_in cells (first ∷ cells_from serial (suc i) n) c ≡ true
    of (inl k) later = is_in-tail cells first (cells_from serial (suc i) n) c (later k (omega (arith, h)))
    of (inr k) later =
        let at : c.index ≡ i = omega (arith, k, l) in
        let same : first ≡ c = λ j. record { serial = sym e j; index = sym at j } in
        subst (λ x. is_in cells (first ∷ cells_from serial (suc i) n) x ≡ true) same (is_in-head cells first (cells_from serial (suc i) n))

there : {A : Type 0} (xs : List A) (k : ℕ) → is_some (slice_get xs k) ≡ true → k < length xs
there [] zero e = absurd (both_ways false refl e)
there [] (suc k) e = absurd (both_ways false refl e)
there (x ∷ xs) zero e = omega arith
there (x ∷ xs) (suc k) e = let l = there xs k e in omega (arith, l)

there_is : {A : Type 0} (xs : List A) (k : ℕ) → k < length xs → is_some (slice_get xs k) ≡ true
there_is [] k l = absurd (omega (arith, l))
there_is (x ∷ xs) zero l = refl
there_is (x ∷ xs) (suc k) l = there_is xs k (omega (arith, l))

-- the cells are those that hold something
pub all_hold : (m : Memory) (c : Cell) → is_in cells (all_cells m) c ≡ true → SerialsRise m → is_some (cell_at m c) ≡ true
unfolding all_cells cell_at
all_hold [] c h r = absurd (none_in cells c h)
all_hold (b ∷ m) c h r = of (or_cases _ _ (sym (in_both cells (cells_of_block b) (all_cells m) c) ∙ h)) (b.born.serial == c.serial) refl (λ j. all_hold m c j r.1)
  where
    of : (is_in cells (cells_of_block b) c ≡ true) ⊎ (is_in cells (all_cells m) c ≡ true) → (t : Bool) → (b.born.serial == c.serial) ≡ t → (is_in cells (all_cells m) c ≡ true → is_some (cell_at m c) ≡ true) → is_some (cond t (slice_get b.cells c.index) (cell_at m c)) ≡ true
    of (inl j) true e later = there_is b.cells c.index (let l = from_is b.born.serial 0 (length b.cells) c j in omega (arith, l))
    of (inl j) false e later = absurd (both_ways (b.born.serial == c.serial) e (eq-eqb b.born.serial c.serial (sym (in_block b c j))))
    of (inr j) true e later = absurd (let less = r.0 c.serial (in_all m c j) in let same = eqb-true b.born.serial c.serial e in omega (arith, less, same))
    of (inr j) false e later = later j

pub hold_all : (m : Memory) (c : Cell) → is_some (cell_at m c) ≡ true → is_in cells (all_cells m) c ≡ true
unfolding all_cells cell_at
hold_all [] c h = absurd (both_ways false refl h)
hold_all (b ∷ m) c h = of (b.born.serial == c.serial) refl h (hold_all m c)
  where
    of : (t : Bool) → (b.born.serial == c.serial) ≡ t → is_some (cond t (slice_get b.cells c.index) (cell_at m c)) ≡ true → (is_some (cell_at m c) ≡ true → is_in cells (all_cells m) c ≡ true) → is_in cells (cells_of_block b ++ all_cells m) c ≡ true
    of true e k later = in_both cells (cells_of_block b) (all_cells m) c ∙ or_left (is_in cells (cells_of_block b) c) (is_in cells (all_cells m) c) (is_from b.born.serial 0 (length b.cells) c (sym (eqb-true b.born.serial c.serial e)) (omega arith) (let l = there b.cells c.index k in omega (arith, l)))
    of false e k later = in_both cells (cells_of_block b) (all_cells m) c ∙ or_right (is_in cells (cells_of_block b) c) (is_in cells (all_cells m) c) (later k)

-- ---- the graph

module _ (program : Program) (touched : List Key) (m : Memory) (rising : SerialsRise m) where
  in_all_is : (c : Cell) → is_in cells (all_cells m) c ≡ is_some (cell_at m c)
  in_all_is c = same_bool _ _ (λ h. all_hold m c h rising) (hold_all m c)

  pub counted_is : (c : Cell) → counts_at program touched m c ≡ is_in cells (counted (graph program touched m)) c
  unfolding counted graph
  counted_is c = swap (is_some (cell_at m c)) (counts program touched m c) ∙ ap (λ b. counts program touched m c && b) (sym (in_all_is c)) ∙ sym (is_in-filter cells (counts program touched m) (all_cells m) c)
    where
      swap : (a b : Bool) → (a && b) ≡ (b && a)
      swap true true = refl
      swap true false = refl
      swap false true = refl
      swap false false = refl

  pub edges_are : (d c : Cell) → leads (graph program touched m) d c ≡ is_in cells (led program touched m d) c
  unfolding leads graph led
  edges_are d c = refl

  -- what counts is one of the beginning where it is a global's, or known, or led to by what is passed
  pub begins : (known : List Cell) (roots : Roots) (c : Cell) → counts_at program touched m c ≡ true
      → ((nat_lt c.serial (length program.globals) || is_in cells known c) || is_in cells (root_cells program touched m roots.passed roots.values) c) ≡ is_in cells (beginning program touched m known roots) c
  begins known roots c h =
      let rest = root_cells program touched m roots.passed roots.values in
      group (nat_lt c.serial (length program.globals)) (is_in cells known c) (is_in cells rest c)
      ∙ ap (λ b. b || (is_in cells known c || is_in cells rest c)) (sym global_is)
      ∙ ap (λ b. is_in cells (global_cells program touched m) c || b) (sym (in_both cells known rest c))
      ∙ sym (in_both cells (global_cells program touched m) (known ++ rest) c)
    where
      group : (a b d : Bool) → ((a || b) || d) ≡ (a || (b || d))
      group true b d = refl
      group false b d = refl

      global_is : is_in cells (global_cells program touched m) c ≡ nat_lt c.serial (length program.globals)
      global_is = is_in-filter cells (λ (x : Cell). nat_lt x.serial (length program.globals)) (all_cells m) c ∙ ap (λ b. nat_lt c.serial (length program.globals) && b) (in_all_is c ∙ (and_parts (is_some (cell_at m c)) (counts program touched m c) h).0) ∙ and_true (nat_lt c.serial (length program.globals))
        where
          and_true : (b : Bool) → (b && true) ≡ b
          and_true true = refl
          and_true false = refl

  pub begun_is : (known names x0 x1 x2 : List Cell) (roots : Roots) → AreMarked (counts_at program touched m) (λ c. nat_lt c.serial (length program.globals)) x0 → x1 ≡ entered (counts_at program touched m) x0 names → names ≡ known
      → x2 ≡ entered (counts_at program touched m) x1 (root_cells program touched m roots.passed roots.values) → IsFollowed (graph program touched m) (beginning program touched m known roots) x2 0 None
  begun_is known names x0 x1 x2 roots had e same f =
      let rest = root_cells program touched m roots.passed roots.values in
      let n = counts_at program touched m in
      let both : AreMarked n (λ c. (nat_lt c.serial (length program.globals) || is_in cells known c) || is_in cells rest c) (entered n (entered n x0 known) rest) =
      marks_more n (λ c. nat_lt c.serial (length program.globals) || is_in cells known c) (entered n x0 known) rest (marks_more n (λ c. nat_lt c.serial (length program.globals)) x0 known had) in
      let is : x2 ≡ entered n (entered n x0 known) rest = f ∙ ap (λ xs. entered n xs rest) (e ∙ ap (entered n x0) same) in
      followed_first (graph program touched m) n counted_is (beginning program touched m known roots) (λ c. (nat_lt c.serial (length program.globals) || is_in cells known c) || is_in cells rest c) x2 (begins known roots)
      (subst (AreMarked n (λ c. (nat_lt c.serial (length program.globals) || is_in cells known c) || is_in cells rest c)) (sym is) both)

  -- ---- answers

  module _ (known : List Cell) (roots : Roots) where
    pub root_fails : (n : ℕ) → first_failing program touched m roots.passed roots.values ≡ Some n → ◌≡◌ {A = Result (List Cell) reaching.Failing} (Err (reaching.Argument n)) (visible_now program touched m known roots)
    unfolding visible_now
    root_fails n h = ap (λ o. unless_argument o (at_cell (visible_set (graph program touched m) (beginning program touched m known roots)))) (sym h)

    pub cell_fails : (c : Cell) → first_failing program touched m roots.passed roots.values ≡ None → visible_set (graph program touched m) (beginning program touched m known roots) ≡ Err c
        → ◌≡◌ {A = Result (List Cell) reaching.Failing} (Err (reaching.At c)) (visible_now program touched m known roots)
    unfolding visible_now
    cell_fails c none is = λ i. unless_argument (sym none i) (at_cell (sym is i))

    pub set_is : (marked set : List Cell) → first_failing program touched m roots.passed roots.values ≡ None → IsReached (graph program touched m) (beginning program touched m known roots) marked
        → Rises cells set → ((c : Cell) → is_in cells set c ≡ is_in cells marked c) → Ok set ≡ visible_now program touched m known roots
    unfolding visible_now graph
    set_is marked set none r rises same =
        let whole = visible (graph program touched m) (beginning program touched m known roots) in
        let all : set ≡ whole = same_nodes cells set whole rises (visible_rises (graph program touched m) (beginning program touched m known roots) (all_rise m rising)) (λ c h. sym (r.same c) ∙ (sym (same c) ∙ h)) (λ c h. same c ∙ (r.same c ∙ h)) in
        ap (λ xs. Ok xs) all ∙ (λ i. unless_argument (sym none i) (at_cell (sym r.whole i)))

  pub all_rising : Rises cells (graph program touched m).all
  unfolding graph
  all_rising = all_rise m rising

-- visible cells are live, so that their serials are below the next one
pub older : (program : Program) (touched : List Key) (m : Memory) (next : ℕ) (known set : List Cell) (roots : Roots) → SerialsRise m → IsBelow next m → Ok set ≡ visible_now program touched m known roots → IsOlder next set
unfolding visible_now visible_set counted graph
older program touched m next known set roots rising below e c h = of (first_failing program touched m roots.passed roots.values) (filter (fails (graph program touched m)) whole) e
  where
    whole : List Cell
    whole = visible (graph program touched m) (beginning program touched m known roots)

    lives : set ≡ whole → c.serial < next
    lives same = below c.serial (in_all m c (and_parts (counts program touched m c) (is_in cells (all_cells m) c) (sym (is_in-filter cells (counts program touched m) (all_cells m) c) ∙ path_counts (graph program touched m) (beginning program touched m known roots) c (sound (graph program touched m) (beginning program touched m known roots) c (subst (λ xs. is_in cells xs c ≡ true) same h)))).1)

    of : (o : Option ℕ) → (failing : List Cell) → Ok set ≡ unless_argument o (at_cell (unless failing whole)) → c.serial < next
    of (Some n) failing f = absurd cc
    of None [] f = lives (let same : set ≡ whole = cc in same)
    of None (d ∷ ds) f = absurd cc

pub not_true : (t b : Bool) → t ≡ not b → t ≡ true → b ≡ false
not_true t true e h = absurd (both_ways false refl (sym e ∙ h))
not_true t false e h = refl

pub not_false : (t b : Bool) → t ≡ not b → t ≡ false → b ≡ true
not_false t true e h = refl
not_false t false e h = absurd (both_ways true (sym e ∙ h) refl)

-- a place in the names is one in the cells
pub named_at : (names : List CellName) (i : ℕ) (name : CellName) → slice_get names i ≡ Some name → Some (cell_of name) ≡ slice_get (named names) i
named_at names i name e = sym (slice_get-map cell_of names i ∙ ap (option_map cell_of) e)

pub named_past : (names : List CellName) (i : ℕ) → length names ≤ i → None ≡ slice_get (named names) i
named_past [] zero l = refl
named_past [] (suc i) l = refl
named_past (name ∷ names) zero l = absurd (omega (arith, l))
named_past (name ∷ names) (suc i) l = named_past names i (omega (arith, l))

pub named_count : (names : List CellName) → length (named names) ≡ length names
named_count [] = refl
named_count (name ∷ names) = ap suc (named_count names)

pub next_turn : (g : Graph cells) (roots xs : List Cell) (i : ℕ) (failing : Option CellName) → IsFollowed g roots xs (suc i) failing → IsFollowed g roots xs (i + 1) failing
next_turn g roots xs i failing h = let same : suc i ≡ i + 1 = omega arith in subst (λ n. IsFollowed g roots xs n failing) same h

pub older_if : (program : Program) (touched : List Key) (m : Memory) (next : ℕ) (known : List Cell) (roots : Roots) → SerialsRise m → IsBelow next m → (r : Result (List Cell) Failing) → answered r ≡ visible_now program touched m known roots → IfOk r (IsOlder next)
older_if program touched m next known roots rising below (Err failing) e = tt
older_if program touched m next known roots rising below (Ok set) e = older program touched m next known set roots rising below e
