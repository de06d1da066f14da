-- Cells that join the marked ones.
use Rattle.std.proofs.Common.{◌≡◌, ℕ, zero, suc, ◌+◌, ◌-◌, ◌<◌, ◌≤◌, Bool, true, false, cond, ◌⊎◌, inl, inr, List, [], ◌∷◌, ◌++◌, Some, None, refl, sym, ◌∙◌, ap, subst, arith}
use Rattle.std.specs.Prelude.{◌&&◌, ◌||◌, ◌==◌, is_some, not, slice_get}
use Rattle.std.specs.List.{list_any}
use Rattle.std.proofs.lemmas.Bool.{and_parts, and_from, or_cases, or_left, or_right}
use Rattle.std.proofs.lemmas.List.{append_assoc, append-nil}
use Rattle.mdr_core.specs.declared.plan.Key.{Key}
use Rattle.mdr_core.specs.declared.program.Program.{Program}
use Rattle.mdr_core.specs.Layout.{chosen}
use Rattle.mdr_extents.specs.CellOrder.{cells}
use Rattle.mdr_extents.specs.Reaching.{counts}
use Rattle.mdr_model.specs.declared.memory.Cell.{Cell}
use Rattle.mdr_model.specs.Memory.{Memory, born_at, cell_at}
use Rattle.mdr_model.specs.Sets.{cells_from, is_same_cell}
use Rattle.mdr_paths.specs.Paths.{is_in}
use Rattle.mdr_paths.proofs.NodeLists.{in_both, none_in, is_in-cases, is_in-head, is_in-tail}
use Rattle.mdr_reach.specs.Marks.{AreMarked, counts_at, entered, with_cell}

-- ---- names

pub same_bool : (a b : Bool) → (a ≡ true → b ≡ true) → (b ≡ true → a ≡ true) → a ≡ b
same_bool true b f g = sym (f refl)
same_bool false true f g = g refl
same_bool false false f g = refl

-- ---- one cell

module _ (counts : Cell → Bool) where
  pub joins : (xs ys : List Cell) (c : Cell) → counts c ≡ true → ys ≡ chosen (is_in cells xs c) xs (xs ++ c ∷ []) → ys ≡ with_cell counts xs c
  joins xs ys c h e = e ∙ of (is_in cells xs c) ∙ ap (λ b. chosen (b && not (is_in cells xs c)) (xs ++ c ∷ []) xs) (sym h)
    where
      of : (t : Bool) → chosen t xs (xs ++ c ∷ []) ≡ chosen (true && not t) (xs ++ c ∷ []) xs
      of true = refl
      of false = refl

  pub joins_not : (xs : List Cell) (c : Cell) → counts c ≡ false → xs ≡ with_cell counts xs c
  joins_not xs c h = ap (λ b. chosen (b && not (is_in cells xs c)) (xs ++ c ∷ []) xs) (sym h)

  -- ---- lists

  pub none_enters : (xs cs : List Cell) → ((c : Cell) → is_in cells cs c ≡ true → counts c ≡ false) → xs ≡ entered counts xs cs
  unfolding entered
  none_enters xs [] out = refl
  none_enters xs (c ∷ cs) out = none_enters xs cs (λ d h. out d (is_in-tail cells c cs d h)) ∙ ap (λ ys. entered counts ys cs) (joins_not xs c (out c (is_in-head cells c cs)))

  pub enters_more : (serial : ℕ) (xs ys whole : List Cell) (index end : ℕ) → index < end → ys ≡ with_cell counts xs (record { serial = serial; index = index })
      → entered counts xs (cells_from serial index (end - index)) ≡ whole → entered counts ys (cells_from serial (index + 1) (end - (index + 1))) ≡ whole
  unfolding entered cells_from
  enters_more serial xs ys whole index end l e k =
      let c : Cell = record { serial = serial; index = index } in
      let here : end - index ≡ suc (end - (index + 1)) = omega (arith, l) in
      let next : index + 1 ≡ suc index = omega arith in
      (λ i. entered counts (e i) (cells_from serial (next i) (end - (index + 1)))) ∙ sym (ap (λ n. entered counts xs (cells_from serial index n)) here) ∙ k

  pub enters_over : (serial : ℕ) (xs whole : List Cell) (index end : ℕ) → end ≤ index → entered counts xs (cells_from serial index (end - index)) ≡ whole → xs ≡ whole
  unfolding entered cells_from
  enters_over serial xs whole index end l k = let none : end - index ≡ 0 = omega (arith, l) in sym (ap (λ n. entered counts xs (cells_from serial index n)) none) ∙ k

  pub enters_first : (serial : ℕ) (xs : List Cell) (first end count : ℕ) → end ≡ first + count → entered counts xs (cells_from serial first (end - first)) ≡ entered counts xs (cells_from serial first count)
  enters_first serial xs first end count e = let same : end - first ≡ count = omega (arith, e) in ap (λ n. entered counts xs (cells_from serial first n)) same

  -- cells behind some of them don't count
  pub enters_some : (serial : ℕ) (xs : List Cell) (first count k : ℕ) → k ≤ count → ((index : ℕ) → first + k ≤ index → counts (record { serial = serial; index = index }) ≡ false)
      → entered counts xs (cells_from serial first k) ≡ entered counts xs (cells_from serial first count)
  unfolding entered cells_from
  enters_some serial xs first zero zero h out = refl
  enters_some serial xs first zero (suc k) h out = absurd (omega (arith, h))
  enters_some serial xs first (suc count) zero h out =
      enters_some serial xs (suc first) count zero (omega arith) (λ index l. out index (omega (arith, l)))
      ∙ ap (λ ys. entered counts ys (cells_from serial (suc first) count)) (joins_not xs (record { serial = serial; index = first }) (out first (omega arith)))
  enters_some serial xs first (suc count) (suc k) h out = enters_some serial (with_cell counts xs (record { serial = serial; index = first })) (suc first) count k (omega (arith, h)) (λ index l. out index (omega (arith, l)))

  -- ---- members

  one_in : (xs : List Cell) (c : Cell) → is_in cells (xs ++ c ∷ []) c ≡ true
  one_in xs c = in_both cells xs (c ∷ []) c ∙ ap (λ b. is_in cells xs c || b) (is_in-head cells c []) ∙ or_true (is_in cells xs c)
    where
      or_true : (b : Bool) → (b || true) ≡ true
      or_true true = refl
      or_true false = refl

  single_in : (c d : Cell) → is_in cells (d ∷ []) c ≡ is_same_cell c d
  unfolding is_in
  single_in c d = or_false (is_same_cell c d)
    where
      or_false : (b : Bool) → (b || false) ≡ b
      or_false true = refl
      or_false false = refl

  cell_in : (xs : List Cell) (d c : Cell) → is_in cells (with_cell counts xs d) c ≡ (is_in cells xs c || (counts d && is_same_cell c d))
  cell_in xs d c = of (counts d) (is_in cells xs d) refl
    where
      and_not : (t u : Bool) → (t || (u && false)) ≡ t
      and_not true u = refl
      and_not false true = refl
      and_not false false = refl

      known : (t : Bool) → is_same_cell c d ≡ t → is_in cells xs d ≡ true → is_in cells xs c ≡ (is_in cells xs c || t)
      known true e h = let same = cells.equal c d e in sym (ap (λ b. b || true) there ∙ sym there)
        where
          there : is_in cells xs c ≡ true
          there = ap (is_in cells xs) (cells.equal c d e) ∙ h
      known false e h = sym (of_false (is_in cells xs c))
        where
          of_false : (b : Bool) → (b || false) ≡ b
          of_false true = refl
          of_false false = refl

      of : (t u : Bool) → is_in cells xs d ≡ u → is_in cells (chosen (t && not u) (xs ++ d ∷ []) xs) c ≡ (is_in cells xs c || (t && is_same_cell c d))
      of true true e = known (is_same_cell c d) refl e
      of true false e = in_both cells xs (d ∷ []) c ∙ ap (λ b. is_in cells xs c || b) (single_in c d)
      of false u e = sym (of_false (is_in cells xs c))
        where
          of_false : (b : Bool) → (b || false) ≡ b
          of_false true = refl
          of_false false = refl

  -- the marked cells are those that were, and those of the list that count
  pub entered_in : (xs cs : List Cell) (c : Cell) → is_in cells (entered counts xs cs) c ≡ (is_in cells xs c || (counts c && is_in cells cs c))
  unfolding entered is_in
  entered_in xs [] c = sym (of (list_any (is_same_cell c) xs) (counts c))
    where
      of : (a b : Bool) → (a || (b && false)) ≡ a
      of true b = refl
      of false true = refl
      of false false = refl
  entered_in xs (d ∷ cs) c = entered_in (with_cell counts xs d) cs c ∙ ap (λ b. b || (counts c && is_in cells cs c)) (cell_in xs d c) ∙ of (is_same_cell c d) refl (is_in cells xs c) (counts d) (counts c) (is_in cells cs c) (λ e. ap counts (cells.equal c d e))
    where
      of : (t : Bool) → is_same_cell c d ≡ t → (a b e f : Bool) → (is_same_cell c d ≡ true → e ≡ b) → ((a || (b && t)) || (e && f)) ≡ (a || (e && (t || f)))
      of true h a b e f same = ap (λ x. (a || (b && true)) || (x && f)) (same h) ∙ cases a b f ∙ ap (λ x. a || (x && (true || f))) (sym (same h))
        where
          cases : (a b f : Bool) → ((a || (b && true)) || (b && f)) ≡ (a || (b && (true || f)))
          cases true b f = refl
          cases false true f = refl
          cases false false f = refl
      of false h a b e f same = cases a b (e && f)
        where
          cases : (a b g : Bool) → ((a || (b && false)) || g) ≡ (a || g)
          cases true b g = refl
          cases false true g = refl
          cases false false g = refl

  -- the cells that join stand behind those that were marked
  pub record News (xs cs : List Cell) : Type 0 where
    pub news : List Cell
    pub is : entered counts xs cs ≡ xs ++ news
    pub from : (c : Cell) → is_in cells news c ≡ true → (counts c && is_in cells cs c) ≡ true

  pub news_of : (xs cs : List Cell) → News xs cs
  unfolding entered
  news_of xs [] = record { news = []; is = sym (append-nil xs); from = λ c h. absurd (none_in cells c h) }
  news_of xs (d ∷ cs) = made (of (counts d) refl (is_in cells xs d) (news_of (xs ++ d ∷ []) cs) (news_of xs cs))
    where
      later : (c : Cell) → (counts c && is_in cells cs c) ≡ true → (counts c && is_in cells (d ∷ cs) c) ≡ true
      later c h = let p = and_parts (counts c) (is_in cells cs c) h in and_from (counts c) (is_in cells (d ∷ cs) c) p.0 (is_in-tail cells d cs c p.1)

      made : ((news : List Cell) × (entered counts (with_cell counts xs d) cs ≡ xs ++ news) × ((c : Cell) → is_in cells news c ≡ true → (counts c && is_in cells (d ∷ cs) c) ≡ true)) → News xs (d ∷ cs)
      made n = record { news = n.0; is = n.1; from = n.2 }

      of : (t : Bool) → counts d ≡ t → (u : Bool) → News (xs ++ d ∷ []) cs → News xs cs
          → (news : List Cell) × (entered counts (chosen (t && not u) (xs ++ d ∷ []) xs) cs ≡ xs ++ news) × ((c : Cell) → is_in cells news c ≡ true → (counts c && is_in cells (d ∷ cs) c) ≡ true)
      of true e false n o = (d ∷ n.news, n.is ∙ append_assoc xs (d ∷ []) n.news, λ c h. front c (is_in-cases cells d n.news c h))
        where
          front : (c : Cell) → (c ≡ d) ⊎ (is_in cells n.news c ≡ true) → (counts c && is_in cells (d ∷ cs) c) ≡ true
          front c (inl s) = subst (λ x. (counts x && is_in cells (d ∷ cs) x) ≡ true) (sym s) (and_from (counts d) (is_in cells (d ∷ cs) d) e (is_in-head cells d cs))
          front c (inr h) = later c (n.from c h)
      of true e true n o = (o.news, o.is, λ c h. later c (o.from c h))
      of false e u n o = (o.news, o.is, λ c h. later c (o.from c h))

  -- ---- which are marked

  pub marks_more : (test : Cell → Bool) (xs cs : List Cell) → AreMarked counts test xs → AreMarked counts (λ c. test c || is_in cells cs c) (entered counts xs cs)
  marks_more test xs cs m = record { counted = λ c h. counted c (split c h); passed = λ c h. passed c (split c h); all = λ c h k. entered_in xs cs c ∙ all c (or_cases (test c) (is_in cells cs c) h) k }
    where
      split : (c : Cell) → is_in cells (entered counts xs cs) c ≡ true → (is_in cells xs c ≡ true) ⊎ ((counts c && is_in cells cs c) ≡ true)
      split c h = or_cases (is_in cells xs c) (counts c && is_in cells cs c) (sym (entered_in xs cs c) ∙ h)

      counted : (c : Cell) → (is_in cells xs c ≡ true) ⊎ ((counts c && is_in cells cs c) ≡ true) → counts c ≡ true
      counted c (inl h) = m.counted c h
      counted c (inr h) = (and_parts (counts c) (is_in cells cs c) h).0

      passed : (c : Cell) → (is_in cells xs c ≡ true) ⊎ ((counts c && is_in cells cs c) ≡ true) → (test c || is_in cells cs c) ≡ true
      passed c (inl h) = or_left (test c) (is_in cells cs c) (m.passed c h)
      passed c (inr h) = or_right (test c) (is_in cells cs c) (and_parts (counts c) (is_in cells cs c) h).1

      all : (c : Cell) → (test c ≡ true) ⊎ (is_in cells cs c ≡ true) → counts c ≡ true → (is_in cells xs c || (counts c && is_in cells cs c)) ≡ true
      all c (inl h) k = or_left (is_in cells xs c) (counts c && is_in cells cs c) (m.all c h k)
      all c (inr h) k = or_right (is_in cells xs c) (counts c && is_in cells cs c) (and_from (counts c) (is_in cells cs c) k h)

  -- another test that is the same of each cell that counts
  pub same_marks : (test other : Cell → Bool) (xs : List Cell) → ((c : Cell) → counts c ≡ true → test c ≡ other c) → AreMarked counts test xs → AreMarked counts other xs
  same_marks test other xs same m = record {
    counted = m.counted;
    passed = λ c h. sym (same c (m.counted c h)) ∙ m.passed c h;
    all = λ c h k. m.all c (same c k ∙ h) k;
  }

-- ---- cells of blocks

pub not_born : (m : Memory) (serial index : ℕ) → born_at m serial ≡ None → cell_at m (record { serial = serial; index = index }) ≡ None
unfolding born_at cell_at
not_born [] serial index e = refl
not_born (b ∷ m) serial index e = of (b.born.serial == serial) e (not_born m serial index)
  where
    of : (t : Bool) → cond t (Some b.born) (born_at m serial) ≡ None → (born_at m serial ≡ None → cell_at m (record { serial = serial; index = index }) ≡ None) → cond t (slice_get b.cells index) (cell_at m (record { serial = serial; index = index })) ≡ None
    of true f later = absurd cc
    of false f later = later f

module _ (program : Program) (touched : List Key) (m : Memory) where
  pub dead_counts : (c : Cell) → born_at m c.serial ≡ None → counts_at program touched m c ≡ false
  dead_counts c e = ap (λ o. is_some o && counts program touched m c) (not_born m c.serial c.index e)
