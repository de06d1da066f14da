-- Where cells and what is passed lead, by what code has at hand.
use Rattle.std.proofs.Common.{◌≡◌, ℕ, zero, suc, ◌+◌, ◌-◌, ◌<◌, ◌≤◌, Bool, true, false, ◌⊎◌, inl, inr, List, [], ◌∷◌, ◌++◌, drop, get_or, length, map, Option, Some, None, refl, sym, ◌∙◌, ap, subst, arith}
use Rattle.std.specs.Prelude.{◌||◌, ◌==◌, MatchOption, is_some, nat_lt, not, slice_get}
use Rattle.std.specs.Option.{option_map}
use Rattle.std.proofs.lemmas.Bool.{and_parts, both_ways, cases_lt, eqb-true, eq-eqb, le-ltb, lt-ltb, ltb-true, ltb-false}
use Rattle.std.proofs.lemmas.List.{at_drop_more, at_drop_all}
use Rattle.std.proofs.lemmas.Option.{slice_get-map}
use mathlib.Core.Path.{fun_ext}
use Rattle.mdr_core.specs.declared.plan.Key.{Key}
use Rattle.mdr_core.specs.declared.plan.Key.TheVariants as key
use Rattle.mdr_core.specs.declared.program.Program.{Program}
use Rattle.mdr_core.specs.declared.types.Ann.{Ann}
use Rattle.mdr_core.specs.declared.value.Block.{Block}
use Rattle.mdr_core.specs.declared.value.Value.{Value}
use Rattle.mdr_core.specs.declared.value.Value.TheVariants as value
use Rattle.mdr_core.specs.Layout.{Alone, Home, Leaf, Within, chosen, key_by}
use Rattle.mdr_extents.specs.Around.{ann_of, global_ann, global_of, key_of, struct_start}
use Rattle.mdr_extents.specs.CellOrder.{cells}
use Rattle.mdr_extents.specs.Extent.{Extent, Elements, Fails, cells_in, extent, has_failed, none}
use Rattle.mdr_extents.specs.Reaching.{Root, cells_led, counts, extent_at, extent_by, extent_held, first_failing, or_later, root_cells, root_extent, siblings_in}
use Rattle.mdr_extents.proofs.CellLists.{in_from}
use Rattle.mdr_meaning.specs.declared.wire.Wire.{Wire}
use Rattle.mdr_meaning.specs.declared.wire.Wire.TheVariants as wire
use Rattle.mdr_meaning.specs.Values.{wire_of}
use Rattle.mdr_mem.specs.Contents.{Contents, current, wire_in}
use Rattle.mdr_model.specs.declared.memory.Cell.{Cell}
use Rattle.mdr_model.specs.declared.message.New.{New}
use Rattle.mdr_model.specs.Memory.{Memory, born_at, cell_at, leaf_at}
use Rattle.mdr_model.specs.Sets.{cells_from}
use Rattle.mdr_paths.specs.Paths.{is_in}
use Rattle.mdr_paths.proofs.NodeLists.{none_in}
use Rattle.mdr_reach.specs.declared.held.Held.{Held}
use Rattle.mdr_reach.specs.declared.lengths.Siblings.TheVariants as siblings
use Rattle.mdr_reach.specs.declared.rows.Around.TheVariants as around
use Rattle.mdr_reach.specs.Marks.{AreMarked, IsHeld, IsNoPointer, counts_at, entered, led, siblings_of, with_cell}
use Rattle.mdr_reach.specs.Spots.{around_of}
use Rattle.mdr_reach.proofs.BlockLaws.{counts_nowhere}
use Rattle.mdr_reach.proofs.EnterLaws.{dead_counts, enters_first, enters_some, joins_not, marks_more, none_enters, same_marks}
use Rattle.mdr_reach.proofs.ExtentLaws.{fields_are}
use Rattle.mdr_reach.proofs.WorkLaws.{is_from}

-- ---- cells of a live block

-- cells past those that it has don't join
pub enters_clipped : (program : Program) (touched : List Key) (s : Contents) (h : Held) → IsHeld program touched s h → (xs : List Cell) (first count end : ℕ) → first ≤ end → end ≤ first + count → (end < first + count → length h.cells.now ≤ end)
    → entered (counts_at program touched s.memory) xs (cells_from h.born.serial first (end - first)) ≡ entered (counts_at program touched s.memory) xs (cells_from h.born.serial first count)
enters_clipped program touched s h held xs first count end from most whole = of (cases_lt end (first + count))
  where
    of : (end < first + count) ⊎ (first + count ≤ end) → entered (counts_at program touched s.memory) xs (cells_from h.born.serial first (end - first)) ≡ entered (counts_at program touched s.memory) xs (cells_from h.born.serial first count)
    of (inl l) = let past = whole l in enters_some (counts_at program touched s.memory) h.born.serial xs first count (end - first) (omega (arith, most)) (λ index k. sym (counts_nowhere program touched s h held index (omega (arith, from, past, k))))
    of (inr l) = enters_first (counts_at program touched s.memory) h.born.serial xs first end count (omega (arith, most, l))

-- ---- dead blocks

module _ (program : Program) (touched : List Key) (m : Memory) where
  pub dead_enters : (xs : List Cell) (serial first n : ℕ) → born_at m serial ≡ None → xs ≡ entered (counts_at program touched m) xs (cells_from serial first n)
  dead_enters xs serial first n e = none_enters (counts_at program touched m) xs (cells_from serial first n) (λ c h. dead_counts program touched m c (ap (born_at m) (in_from serial first n c h).block ∙ e))

  pub dead_joins : (xs : List Cell) (c : Cell) → born_at m c.serial ≡ None → xs ≡ with_cell (counts_at program touched m) xs c
  dead_joins xs c e = joins_not (counts_at program touched m) xs c (dead_counts program touched m c e)

  -- ---- the cells of a global

  no_serial : (c : Cell) (serial : ℕ) → born_at m serial ≡ None → counts_at program touched m c ≡ true → (c.serial == serial) ≡ false
  no_serial c serial e k = of (c.serial == serial) refl
    where
      of : (t : Bool) → (c.serial == serial) ≡ t → t ≡ false
      of true f = absurd (both_ways (counts_at program touched m c) (dead_counts program touched m c (ap (born_at m) (eqb-true c.serial serial f) ∙ e)) k)
      of false f = refl

  pub global_dead : (test : Cell → Bool) (xs : List Cell) (serial : ℕ) → born_at m serial ≡ None → AreMarked (counts_at program touched m) test xs → AreMarked (counts_at program touched m) (λ c. test c || (c.serial == serial)) xs
  global_dead test xs serial e had = same_marks (counts_at program touched m) test (λ c. test c || (c.serial == serial)) xs (λ c k. of (test c) ∙ ap (λ b. test c || b) (sym (no_serial c serial e k))) had
    where
      of : (b : Bool) → b ≡ (b || false)
      of true = refl
      of false = refl

  inside_of : {A : Type 0} (vs : List A) (k : ℕ) → is_some (slice_get vs k) ≡ true → k < length vs
  inside_of [] zero e = absurd (both_ways false refl e)
  inside_of [] (suc k) e = absurd (both_ways false refl e)
  inside_of (v ∷ vs) zero e = omega arith
  inside_of (v ∷ vs) (suc k) e = let l = inside_of vs k e in omega (arith, l)

  length_map : {A B : Type 0} (f : A → B) (vs : List A) → length (map f vs) ≡ length vs
  length_map f [] = refl
  length_map f (v ∷ vs) = ap suc (length_map f vs)

  global_in : (vs : List Wire) (serial n : ℕ) → ((index : ℕ) → cell_at m (record { serial = serial; index = index }) ≡ slice_get vs index) → n ≡ length vs
      → (c : Cell) → counts_at program touched m c ≡ true → is_in cells (cells_from serial 0 n) c ≡ (c.serial == serial)
  global_in vs serial n at size c k = of (c.serial == serial) refl (is_in cells (cells_from serial 0 n) c) refl
    where
      of : (t : Bool) → (c.serial == serial) ≡ t → (u : Bool) → is_in cells (cells_from serial 0 n) c ≡ u → u ≡ t
      of true e true f = refl
      of true e false f =
          let same : c.serial ≡ serial = eqb-true c.serial serial e in
          let holds : slice_get vs c.index ≡ cell_at m c = sym (at c.index) ∙ ap (λ s. cell_at m (record { serial = s; index = c.index })) (sym same) in
          let less : c.index < length vs = inside_of vs c.index (ap is_some holds ∙ (and_parts (is_some (cell_at m c)) (counts program touched m c) k).0) in
          absurd (both_ways (is_in cells (cells_from serial 0 n) c) f (is_from serial 0 n c same (omega arith) (omega (arith, less, size))))
      of false e true f = absurd (both_ways (c.serial == serial) e (eq-eqb c.serial serial (in_from serial 0 n c f).block))
      of false e false f = refl

  pub global_marks : (test : Cell → Bool) (xs ys : List Cell) (vs : List Wire) (serial global n : ℕ) → serial ≡ global → ((index : ℕ) → cell_at m (record { serial = serial; index = index }) ≡ slice_get vs index) → n ≡ length vs
      → ys ≡ entered (counts_at program touched m) xs (cells_from serial 0 n) → AreMarked (counts_at program touched m) test xs → AreMarked (counts_at program touched m) (λ c. test c || (c.serial == global)) ys
  global_marks test xs ys vs serial global n same at size e had =
      subst (λ g. AreMarked (counts_at program touched m) (λ c. test c || (c.serial == g)) ys) same
      (same_marks (counts_at program touched m) (λ c. test c || is_in cells (cells_from serial 0 n) c) (λ c. test c || (c.serial == serial)) ys (λ c k. ap (λ b. test c || b) (global_in vs serial n at size c k))
      (subst (AreMarked (counts_at program touched m) (λ c. test c || is_in cells (cells_from serial 0 n) c)) (sym e) (marks_more (counts_at program touched m) test xs (cells_from serial 0 n) had)))

  pub global_held : (s : Contents) (h : Held) → IsHeld program touched s h → s.memory ≡ m → (test : Cell → Bool) (xs ys : List Cell) (global n : ℕ) → h.born.serial ≡ global → n ≡ length h.cells.now
      → ys ≡ entered (counts_at program touched m) xs (cells_from h.born.serial 0 n) → AreMarked (counts_at program touched m) test xs → AreMarked (counts_at program touched m) (λ c. test c || (c.serial == global)) ys
  global_held s h held same test xs ys global n at size e had =
      global_marks test xs ys (map (wire_in s.handles) h.cells.now) h.born.serial global n at (λ index. ap (λ k. cell_at k (record { serial = h.born.serial; index = index })) (sym same) ∙ held.cells index) (size ∙ sym (length_map (wire_in s.handles) h.cells.now)) e had

  pub globals_more : (xs : List Cell) (g : ℕ) → AreMarked (counts_at program touched m) (λ c. nat_lt c.serial g || (c.serial == g)) xs → AreMarked (counts_at program touched m) (λ c. nat_lt c.serial (g + 1)) xs
  globals_more xs g had = same_marks (counts_at program touched m) (λ c. nat_lt c.serial g || (c.serial == g)) (λ c. nat_lt c.serial (g + 1)) xs (λ c k. one c.serial) had
    where
      one : (s : ℕ) → (nat_lt s g || (s == g)) ≡ nat_lt s (g + 1)
      one s = of (nat_lt s g) refl (s == g) refl
        where
          of : (t : Bool) → nat_lt s g ≡ t → (u : Bool) → (s == g) ≡ u → (t || u) ≡ nat_lt s (g + 1)
          of true e u f = sym (lt-ltb s (g + 1) (let l = ltb-true s g e in omega (arith, l)))
          of false e true f = sym (lt-ltb s (g + 1) (let same = eqb-true s g f in omega (arith, same)))
          of false e false f = sym (le-ltb s (g + 1) (let l = ltb-false s g e in let other : (s ≡ g → ⊥) = λ h. both_ways (s == g) f (eq-eqb s g h) in omega (arith, l, other)))

  pub no_globals : (xs : List Cell) → xs ≡ [] → AreMarked (counts_at program touched m) (λ c. nat_lt c.serial 0) xs
  no_globals xs e = subst (AreMarked (counts_at program touched m) (λ c. nat_lt c.serial 0)) (sym e) (record { counted = λ c h. absurd (none_in cells c h); passed = λ c h. absurd (none_in cells c h); all = λ c h k. absurd (let l = ltb-true c.serial 0 h in omega (arith, l)) })

-- ---- the pointer in a cell

module _ (program : Program) (touched : List Key) (born : New) (index : ℕ) where
  pub key_field : (s f : ℕ) (t : Bool) → Some (around.Field s f t) ≡ option_map (λ (l : Leaf). around_of touched l.home) (leaf_at program born index) → key_of program born index ≡ Some (key.Field s f)
  unfolding key_of
  key_field s f t e = of (leaf_at program born index) e
    where
      home_is : (home : Home) → around.Field s f t ≡ around_of touched home → key_by home (global_of program born) born.ty ≡ key.Field s f
      home_is Alone h = absurd cc
      home_is (Within a b) h = let p : s ≡ a = cc in let q : f ≡ b = cc in λ i. key.Field (sym p i) (sym q i)

      of : (o : Option Leaf) → Some (around.Field s f t) ≡ option_map (λ (l : Leaf). around_of touched l.home) o → option_map (λ (l : Leaf). key_by l.home (global_of program born) born.ty) o ≡ Some (key.Field s f)
      of None h = absurd cc
      of (Some l) h = let same : around.Field s f t ≡ around_of touched l.home = cc in ap (λ k. Some k) (home_is l.home same)

  pub key_alone : Some around.Nothing ≡ option_map (λ (l : Leaf). around_of touched l.home) (leaf_at program born index) → key_of program born index ≡ Some (key_by Alone (global_of program born) born.ty)
  unfolding key_of
  key_alone e = of (leaf_at program born index) e
    where
      home_is : (home : Home) → around.Nothing ≡ around_of touched home → key_by home (global_of program born) born.ty ≡ key_by Alone (global_of program born) born.ty
      home_is Alone h = refl
      home_is (Within a b) h = absurd cc

      of : (o : Option Leaf) → Some around.Nothing ≡ option_map (λ (l : Leaf). around_of touched l.home) o → option_map (λ (l : Leaf). key_by l.home (global_of program born) born.ty) o ≡ Some (key_by Alone (global_of program born) born.ty)
      of None h = absurd cc
      of (Some l) h = let same : around.Nothing ≡ around_of touched l.home = cc in ap (λ k. Some k) (home_is l.home same)

  pub key_none : None ≡ option_map (λ (l : Leaf). around_of touched l.home) (leaf_at program born index) → key_of program born index ≡ None
  unfolding key_of
  key_none e = of (leaf_at program born index) e
    where
      of : (o : Option Leaf) → None ≡ option_map (λ (l : Leaf). around_of touched l.home) o → option_map (λ (l : Leaf). key_by l.home (global_of program born) born.ty) o ≡ None
      of None h = refl
      of (Some l) h = absurd cc

  lone_ann : (t : Bool) → nat_lt born.serial (length program.globals) ≡ t → global_ann (slice_get program.globals born.serial) ≡ ann_of program (key_by Alone (chosen t (Some born.serial) None) born.ty)
  lone_ann true e = refl
  lone_ann false e = ap global_ann (get_past program.globals born.serial (ltb-false born.serial (length program.globals) e))
    where
      get_past : {A : Type 0} (xs : List A) (k : ℕ) → length xs ≤ k → slice_get xs k ≡ None
      get_past [] zero h = refl
      get_past [] (suc k) h = refl
      get_past (x ∷ xs) zero h = absurd (omega (arith, h))
      get_past (x ∷ xs) (suc k) h = get_past xs k (omega (arith, h))

  lone_siblings : (m : Memory) (t : Bool) (n : ℕ) → ◌≡◌ {A = Option Wire} None (siblings_in program touched m born index (key_by Alone (chosen t (Some born.serial) None) born.ty) n)
  lone_siblings m true n = refl
  lone_siblings m false n = refl

  pub lone_extent : (s : Contents) (ann : Ann) (v : Wire) (e : Extent) → ann ≡ global_ann (slice_get program.globals born.serial)
      → Some around.Nothing ≡ option_map (λ (l : Leaf). around_of touched l.home) (leaf_at program born index)
      → e ≡ extent program touched s.memory (siblings_of program s.handles siblings.Nothing) ann v → e ≡ extent_by program touched s.memory born index (key_of program born index) v
  lone_extent s ann v e same at is =
      is ∙ (λ i. extent program touched s.memory (fun_ext (lone_siblings s.memory (nat_lt born.serial (length program.globals))) i) ((same ∙ lone_ann (nat_lt born.serial (length program.globals)) refl) i) v)
      ∙ ap (λ k. extent_by program touched s.memory born index k v) (sym (key_alone at))

  pub no_extent : (s : Contents) (v : Wire) → None ≡ option_map (λ (l : Leaf). around_of touched l.home) (leaf_at program born index) → none ≡ extent_by program touched s.memory born index (key_of program born index) v
  no_extent s v at = ap (λ k. extent_by program touched s.memory born index k v) (sym (key_none at))

module _ (program : Program) (touched : List Key) (s : Contents) (h : Held) (held : IsHeld program touched s h) where
  pub field_extent : (index start t f : ℕ) (b : Bool) (ann : Ann) (v : Wire) (e : Extent) → start ≡ struct_start program h.born index → ann ≡ ann_of program (key.Field t f)
      → Some (around.Field t f b) ≡ option_map (λ (l : Leaf). around_of touched l.home) (leaf_at program h.born index)
      → e ≡ extent program touched s.memory (siblings_of program s.handles (siblings.Fields h.cells start t)) ann v → e ≡ extent_by program touched s.memory h.born index (key_of program h.born index) v
  field_extent index start t f b ann v e begins same at is =
      is ∙ (λ i. extent program touched s.memory (fun_ext (fields_are program touched s h held index start t f h.cells.now begins) i) (same i) v)
      ∙ ap (λ k. extent_by program touched s.memory h.born index k v) (sym (key_field program touched h.born index t f b at))

  -- ---- following

  pub extent_here : (index : ℕ) (w : Wire) → cell_at s.memory (record { serial = h.born.serial; index = index }) ≡ Some w
      → extent_at program touched s.memory (record { serial = h.born.serial; index = index }) ≡ extent_by program touched s.memory h.born index (key_of program h.born index) w
  unfolding extent_at
  extent_here index w e = λ i. extent_held program touched s.memory (record { serial = h.born.serial; index = index }) (held.born i) (e i)

  pub led_here : (index : ℕ) (w : Wire) (x : Extent) → cell_at s.memory (record { serial = h.born.serial; index = index }) ≡ Some w → x ≡ extent_by program touched s.memory h.born index (key_of program h.born index) w
      → cells_in program touched s.memory w x ≡ led program touched s.memory (record { serial = h.born.serial; index = index })
  unfolding led
  led_here index w x e is = ap (cells_in program touched s.memory w) (is ∙ sym (extent_here index w e)) ∙ ap (λ o. cells_led program touched s.memory o (extent_at program touched s.memory (record { serial = h.born.serial; index = index }))) (sym e)

module _ (program : Program) (touched : List Key) (m : Memory) where
  held_none : (c : Cell) (o : Option New) → extent_held program touched m c o None ≡ none
  held_none c None = refl
  held_none c (Some b) = refl

  -- a cell that holds nothing leads nowhere
  pub nothing_held : (c : Cell) → cell_at m c ≡ None → extent_at program touched m c ≡ none
  unfolding extent_at
  nothing_held c e = ap (extent_held program touched m c (born_at m c.serial)) e ∙ held_none c (born_at m c.serial)

  pub nothing_led : (c : Cell) (xs : List Cell) → cell_at m c ≡ None → xs ≡ entered (counts_at program touched m) xs (led program touched m c)
  unfolding led entered
  nothing_led c xs e = ap (λ o. entered (counts_at program touched m) xs (cells_led program touched m o (extent_at program touched m c))) (sym e)

  pub whole_there : (c : Cell) → cell_at m c ≡ None → true ≡ not (has_failed (extent_at program touched m c))
  whole_there c e = ap (λ x. not (has_failed x)) (sym (nothing_held c e))

  none_in_failed : (w : Wire) → cells_in program touched m w Fails ≡ []
  none_in_failed (wire.Ptr v) = refl
  none_in_failed (wire.Int k n) = refl
  none_in_failed wire.Null = refl
  none_in_failed wire.Dead = refl
  none_in_failed (wire.Fn f) = refl
  none_in_failed (wire.Lock l) = refl
  none_in_failed wire.NoValue = refl

  -- a pointer that fails adds nothing
  pub failed_enters : (counts : Cell → Bool) (xs : List Cell) (w : Wire) → xs ≡ entered counts xs (cells_in program touched m w Fails)
  unfolding entered
  failed_enters counts xs w = ap (entered counts xs) (sym (none_in_failed w))

  -- ---- what is passed

  pub root_is : (values : List Value) (r : Root) (e : Extent) → e ≡ extent program touched m (λ n. slice_get (map wire_of values) n) r.ann r.value → e ≡ root_extent program touched m (map wire_of values) r
  unfolding root_extent
  root_is values r e is = is

  pub roots_more : (passed : List Wire) (r : Root) (rs : List Root) → has_failed (root_extent program touched m passed r) ≡ false → first_failing program touched m passed (r ∷ rs) ≡ option_map (λ k. suc k) (first_failing program touched m passed rs)
  unfolding first_failing
  roots_more passed r rs e = of (root_extent program touched m passed r) e
    where
      of : (x : Extent) → has_failed x ≡ false → or_later x (first_failing program touched m passed rs) ≡ option_map (λ k. suc k) (first_failing program touched m passed rs)
      of (Elements n) f = refl
      of Fails f = absurd (both_ways true f refl)

  pub root_fails : (passed : List Wire) (r : Root) (rs : List Root) → has_failed (root_extent program touched m passed r) ≡ true → first_failing program touched m passed (r ∷ rs) ≡ Some 0
  unfolding first_failing
  root_fails passed r rs e = of (root_extent program touched m passed r) e
    where
      of : (x : Extent) → has_failed x ≡ true → or_later x (first_failing program touched m passed rs) ≡ Some 0
      of (Elements n) f = absurd (both_ways false refl f)
      of Fails f = refl

  pub enters_both : (counts : Cell → Bool) (xs cs ds : List Cell) → entered counts (entered counts xs cs) ds ≡ entered counts xs (cs ++ ds)
  unfolding entered
  enters_both counts xs [] ds = refl
  enters_both counts xs (c ∷ cs) ds = enters_both counts (with_cell counts xs c) cs ds

  -- the number of the first that fails, with so many before these
  abbrev pub failing_from : (passed : List Wire) → List Root → ℕ → Option ℕ
  failing_from passed rs i = option_map (λ k. i + k) (first_failing program touched m passed rs)

  -- ---- one root after the other

  module _ (counts : Cell → Bool) (passed : List Wire) {X : Type 0} (of : X → Root) where
    rest_is : {B : Type 0} (F : List Root → B) (xs : List X) (i : ℕ) (x : X) → i < length xs → x ≡ get_or xs i x → F (map of (drop i xs)) ≡ F (of x ∷ map of (drop (i + 1) xs))
    rest_is F xs i x l e = at_drop_more (λ ys. F (map of ys)) xs i x l ∙ ap (λ y. F (of y ∷ map of (drop (i + 1) xs))) (sym e)

    pub roots_begin : (xs : List X) → failing_from passed (map of xs) 0 ≡ first_failing program touched m passed (map of xs)
    roots_begin xs = same (first_failing program touched m passed (map of xs))
      where
        same : (o : Option ℕ) → option_map (λ k. 0 + k) o ≡ o
        same None = refl
        same (Some k) = ap (λ n. Some n) (omega arith)

    pub root_stops : (xs : List X) (i : ℕ) (x : X) (all : Option ℕ) → i < length xs → x ≡ get_or xs i x → has_failed (root_extent program touched m passed (of x)) ≡ true
        → failing_from passed (map of (drop i xs)) i ≡ all → Some i ≡ all
    root_stops xs i x all l e f k =
        let here : i ≡ i + 0 = omega arith in
        ap (λ n. Some n) here ∙ sym (ap (option_map (λ k. i + k)) (rest_is (first_failing program touched m passed) xs i x l e ∙ root_fails passed (of x) (map of (drop (i + 1) xs)) f)) ∙ k

    pub root_goes : (xs : List X) (i : ℕ) (x : X) (all : Option ℕ) → i < length xs → x ≡ get_or xs i x → has_failed (root_extent program touched m passed (of x)) ≡ false
        → failing_from passed (map of (drop i xs)) i ≡ all → failing_from passed (map of (drop (i + 1) xs)) (i + 1) ≡ all
    root_goes xs i x all l e f k =
        one_more (first_failing program touched m passed (map of (drop (i + 1) xs)))
        ∙ sym (ap (option_map (λ k. i + k)) (rest_is (first_failing program touched m passed) xs i x l e ∙ roots_more passed (of x) (map of (drop (i + 1) xs)) f)) ∙ k
      where
        one_more : (o : Option ℕ) → option_map (λ k. i + 1 + k) o ≡ option_map (λ k. i + k) (option_map (λ k. suc k) o)
        one_more None = refl
        one_more (Some k) = ap (λ n. Some n) (omega arith)

    pub root_adds : (xs : List X) (i : ℕ) (x : X) (old new whole : List Cell) → i < length xs → x ≡ get_or xs i x
        → new ≡ entered counts old (cells_in program touched m (of x).value (root_extent program touched m passed (of x)))
        → entered counts old (root_cells program touched m passed (map of (drop i xs))) ≡ whole → entered counts new (root_cells program touched m passed (map of (drop (i + 1) xs))) ≡ whole
    unfolding root_cells
    root_adds xs i x old new whole l e is k =
        ap (λ ys. entered counts ys (root_cells program touched m passed (map of (drop (i + 1) xs)))) is
        ∙ enters_both counts old (cells_in program touched m (of x).value (root_extent program touched m passed (of x))) (root_cells program touched m passed (map of (drop (i + 1) xs)))
        ∙ sym (rest_is (λ rs. entered counts old (root_cells program touched m passed rs)) xs i x l e) ∙ k

    pub roots_whole : (xs : List X) (i : ℕ) (all : Option ℕ) → length xs ≤ i → failing_from passed (map of (drop i xs)) i ≡ all → None ≡ all
    unfolding first_failing
    roots_whole xs i all l k = sym (at_drop_all (λ ys. option_map (λ k. i + k) (first_failing program touched m passed (map of ys))) xs i l) ∙ k

    pub roots_added : (xs : List X) (i : ℕ) (old whole : List Cell) → length xs ≤ i → entered counts old (root_cells program touched m passed (map of (drop i xs))) ≡ whole → old ≡ whole
    unfolding root_cells entered
    roots_added xs i old whole l k = sym (at_drop_all (λ ys. entered counts old (root_cells program touched m passed (map of ys))) xs i l) ∙ k

-- an item at a place
pub item_at : {X : Type 0} (xs : List X) (i : ℕ) (x : X) → slice_get xs i ≡ Some x → x ≡ get_or xs i x
item_at [] i x e = absurd cc
item_at (y ∷ xs) zero x e = let same : y ≡ x = cc in sym same
item_at (y ∷ xs) (suc i) x e = item_at xs i x e

-- what is no pointer leads nowhere
pub nowhere : (program : Program) (touched : List Key) (m : Memory) (born : New) (index : ℕ) (k : Option Key) (v : Wire) → IsNoPointer v → none ≡ extent_by program touched m born index k v
unfolding extent
nowhere program touched m born index None v h = refl
nowhere program touched m born index (Some k) (wire.Ptr p) h = absurd h
nowhere program touched m born index (Some k) (wire.Int kind n) h = refl
nowhere program touched m born index (Some k) wire.Null h = refl
nowhere program touched m born index (Some k) wire.Dead h = refl
nowhere program touched m born index (Some k) (wire.Fn f) h = refl
nowhere program touched m born index (Some k) (wire.Lock t) h = refl
nowhere program touched m born index (Some k) wire.NoValue h = refl

-- a cell with no pointer
no_pointer_now : (hs : List Block) (v : Value) → IsNoPointer (wire_of v) → IsNoPointer (wire_in hs v)
unfolding current
no_pointer_now hs (value.Ptr p) h = absurd h
no_pointer_now hs (value.Int k n) h = h
no_pointer_now hs value.Null h = h
no_pointer_now hs value.Dead h = h
no_pointer_now hs (value.Fn f) h = h
no_pointer_now hs (value.Lock l) h = h
no_pointer_now hs value.NoValue h = h

module _ (program : Program) (touched : List Key) (s : Contents) (h : Held) (held : IsHeld program touched s h) (index : ℕ) (lone : MatchOption (slice_get h.cells.now index) (Unit {0}) (λ v. IsNoPointer (wire_of v))) where
  here : Cell
  here = record { serial = h.born.serial; index = index }

  lone_is : (w : Wire) → IsNoPointer w → none ≡ extent_by program touched s.memory h.born index (key_of program h.born index) w
  lone_is w n = nowhere program touched s.memory h.born index (key_of program h.born index) w n

  none_from : (w : Wire) → IsNoPointer w → cells_in program touched s.memory w none ≡ []
  none_from (wire.Ptr p) n = absurd n
  none_from (wire.Int k i) n = refl
  none_from wire.Null n = refl
  none_from wire.Dead n = refl
  none_from (wire.Fn f) n = refl
  none_from (wire.Lock l) n = refl
  none_from wire.NoValue n = refl

  pub lone_whole : true ≡ not (has_failed (extent_at program touched s.memory (record { serial = h.born.serial; index = index })))
  unfolding here
  lone_whole = of (slice_get h.cells.now index) (held.cells index ∙ slice_get-map (wire_in s.handles) h.cells.now index) lone
    where
      of : (o : Option Value) → cell_at s.memory here ≡ option_map (wire_in s.handles) o → MatchOption o (Unit {0}) (λ v. IsNoPointer (wire_of v)) → true ≡ not (has_failed (extent_at program touched s.memory here))
      of None e n = whole_there program touched s.memory here e
      of (Some v) e n = let no = no_pointer_now s.handles v n in ap (λ x. not (has_failed x)) (lone_is (wire_in s.handles v) no ∙ sym (extent_here program touched s h held index (wire_in s.handles v) e))

  pub lone_led : (xs : List Cell) → xs ≡ entered (counts_at program touched s.memory) xs (led program touched s.memory (record { serial = h.born.serial; index = index }))
  unfolding entered here
  lone_led xs = of (slice_get h.cells.now index) (held.cells index ∙ slice_get-map (wire_in s.handles) h.cells.now index) lone
    where
      of : (o : Option Value) → cell_at s.memory here ≡ option_map (wire_in s.handles) o → MatchOption o (Unit {0}) (λ v. IsNoPointer (wire_of v)) → xs ≡ entered (counts_at program touched s.memory) xs (led program touched s.memory here)
      of None e n = nothing_led program touched s.memory here xs e
      of (Some v) e n =
          let no = no_pointer_now s.handles v n in
          ap (entered (counts_at program touched s.memory) xs) (sym (none_from (wire_in s.handles v) no) ∙ led_here program touched s h held index (wire_in s.handles v) none e (lone_is (wire_in s.handles v) no))
