-- Cells of blocks that are born.
use Rattle.std.proofs.Common.{◌≡◌, ℕ, suc, ◌+◌, ◌-◌, ◌<◌, ◌≤◌, Bool, true, false, cond, ◌⊎◌, inl, inr, List, [], ◌∷◌, ◌++◌, length, map, Option, Some, None, refl, sym, ◌∙◌, ap, arith}
use Rattle.std.specs.Prelude.{◌==◌, filter, is_some, nat_lt, slice_get}
use Rattle.std.proofs.lemmas.Bool.{and_parts, cases_lt, eqb-true, eq-eqb, le-ltb, lt-ltb, or_cases}
use Rattle.std.proofs.lemmas.List.{append_assoc, append-nil}
use Rattle.mdr_cells.specs.Names.{AreBefore}
use Rattle.mdr_core.specs.declared.plan.Key.{Key}
use Rattle.mdr_core.specs.declared.program.Program.{Program}
use Rattle.mdr_core.specs.Layout.{chosen}
use Rattle.mdr_extents.specs.CellOrder.{IsBefore, cells}
use Rattle.mdr_extents.specs.Extent.{is_touched}
use Rattle.mdr_extents.specs.Reaching.{cells_of_block, own_cells}
use Rattle.mdr_extents.proofs.CellLists.{in_block}
use Rattle.mdr_meaning.specs.declared.wire.Wire.{Wire}
use Rattle.mdr_model.specs.declared.memory.Cell.{Cell}
use Rattle.mdr_model.specs.declared.memory.MemoryBlock.{MemoryBlock}
use Rattle.mdr_model.specs.declared.message.New.{New}
use Rattle.mdr_model.specs.Agreement.{IsBelow, SerialsRise}
use Rattle.mdr_model.specs.Memory.{Memory, born_at, cell_at, is_live}
use Rattle.mdr_model.specs.Sets.{cells_from}
use Rattle.mdr_paths.specs.Paths.{is_in}
use Rattle.mdr_paths.proofs.NodeLists.{in_both, is_in-cases, is_in-filter, none_in}
use Rattle.mdr_reach.specs.Answers.{IsOlder}
use Rattle.mdr_mem.specs.Contents.{Contents, wire_in}
use Rattle.mdr_reach.specs.declared.held.Held.{Held}
use Rattle.mdr_reach.specs.Marks.{IsHeld, cells_born}
use Rattle.mdr_watched.specs.Views.{new_cells}

-- ---- lists of equal items

no_some : {A : Type 0} (x : A) → ◌≡◌ {A = Option A} None (Some x) → ⊥
no_some x e = cc

same_length : {A : Type 0} (xs ys : List A) → ((i : ℕ) → slice_get xs i ≡ slice_get ys i) → length xs ≡ length ys
same_length [] [] e = refl
same_length [] (y ∷ ys) e = absurd (no_some y (e 0))
same_length (x ∷ xs) [] e = absurd (no_some x (sym (e 0)))
same_length (x ∷ xs) (y ∷ ys) e = ap suc (same_length xs ys (λ i. e (suc i)))

length_map : {A B : Type 0} (f : A → B) (xs : List A) → length (map f xs) ≡ length xs
length_map f [] = refl
length_map f (x ∷ xs) = ap suc (length_map f xs)

-- ---- the cells of one block

module _ (program : Program) (touched : List Key) where
  pub born_cells : (m : Memory) (serial : ℕ) (born : New) (vs : List Wire) → born_at m serial ≡ Some born → ((index : ℕ) → cell_at m (record { serial = serial; index = index }) ≡ slice_get vs index)
      → cells_born program touched serial m ≡ filter (λ (c : Cell). is_touched program touched born c.index) (cells_from serial 0 (length vs))
  unfolding born_at cell_at cells_born own_cells
  born_cells [] serial born vs e at = absurd cc
  born_cells (b ∷ m) serial born vs e at = of (b.born.serial == serial) refl e at (born_cells m serial born vs)
    where
      of : (t : Bool) → (b.born.serial == serial) ≡ t → cond t (Some b.born) (born_at m serial) ≡ Some born
          → ((index : ℕ) → cond t (slice_get b.cells index) (cell_at m (record { serial = serial; index = index })) ≡ slice_get vs index)
          → (born_at m serial ≡ Some born → ((index : ℕ) → cell_at m (record { serial = serial; index = index }) ≡ slice_get vs index) → cells_born program touched serial m ≡ filter (λ (c : Cell). is_touched program touched born c.index) (cells_from serial 0 (length vs)))
          → chosen t (filter (λ (c : Cell). is_touched program touched b.born c.index) (cells_of_block b)) (cells_born program touched serial m) ≡ filter (λ (c : Cell). is_touched program touched born c.index) (cells_from serial 0 (length vs))
      of true f k values later =
          let same : b.born ≡ born = cc in
          let named : b.born.serial ≡ serial = eqb-true b.born.serial serial f in
          let many : length b.cells ≡ length vs = same_length b.cells vs values in
          λ i. filter (λ (c : Cell). is_touched program touched (same i) c.index) (cells_from (named i) 0 (many i))
      of false f k values later = later k values

  pub none_born : (m : Memory) (serial : ℕ) → born_at m serial ≡ None → cells_born program touched serial m ≡ []
  unfolding born_at cells_born
  none_born [] serial e = refl
  none_born (b ∷ m) serial e = of (b.born.serial == serial) e (none_born m serial)
    where
      of : (t : Bool) → cond t (Some b.born) (born_at m serial) ≡ None → (born_at m serial ≡ None → cells_born program touched serial m ≡ []) → chosen t (own_cells program touched b) (cells_born program touched serial m) ≡ []
      of true f later = absurd cc
      of false f later = later f

  born_serials : (m : Memory) (serial : ℕ) (c : Cell) → is_in cells (cells_born program touched serial m) c ≡ true → c.serial ≡ serial
  unfolding cells_born own_cells
  born_serials [] serial c h = absurd (none_in cells c h)
  born_serials (b ∷ m) serial c h = of (b.born.serial == serial) refl h (born_serials m serial c)
    where
      of : (t : Bool) → (b.born.serial == serial) ≡ t → is_in cells (chosen t (filter (λ (d : Cell). is_touched program touched b.born d.index) (cells_of_block b)) (cells_born program touched serial m)) c ≡ true
          → (is_in cells (cells_born program touched serial m) c ≡ true → c.serial ≡ serial) → c.serial ≡ serial
      of true f k later = in_block b c (and_parts (is_touched program touched b.born c.index) (is_in cells (cells_of_block b) c) (sym (is_in-filter cells (λ (d : Cell). is_touched program touched b.born d.index) (cells_of_block b) c) ∙ k)).1 ∙ eqb-true b.born.serial serial f
      of false f k later = later k

  -- ---- one serial after the other

  not_live : (m : Memory) (serial : ℕ) → is_live m serial ≡ false → cells_born program touched serial m ≡ []
  unfolding is_live
  not_live m serial e = none_born m serial (of (born_at m serial) e)
    where
      of : (o : Option New) → is_some o ≡ false → o ≡ None
      of None f = refl
      of (Some n) f = absurd cc

  none_behind : (b : MemoryBlock) (m : Memory) (serial : ℕ) → SerialsRise (b ∷ m) → serial ≤ b.born.serial → is_live m serial ≡ false
  none_behind b m serial r l = of (is_live m serial) refl
    where
      of : (t : Bool) → is_live m serial ≡ t → t ≡ false
      of true e = absurd (let less = r.0 serial e in omega (arith, less, l))
      of false e = refl

  pub next_serial : (m : Memory) (serial : ℕ) → SerialsRise m → new_cells program touched serial m ≡ cells_born program touched serial m ++ new_cells program touched (suc serial) m
  unfolding new_cells cells_born
  next_serial [] serial r = refl
  next_serial (b ∷ m) serial r = of (cases_lt b.born.serial serial) (next_serial m serial r.1)
    where
      own : List Cell
      own = own_cells program touched b

      at : (t u v : Bool) → nat_lt b.born.serial serial ≡ t → (b.born.serial == serial) ≡ u → nat_lt b.born.serial (suc serial) ≡ v
          → chosen t [] own ++ new_cells program touched serial m ≡ chosen u own (cells_born program touched serial m) ++ (chosen v [] own ++ new_cells program touched (suc serial) m)
          → chosen (nat_lt b.born.serial serial) [] own ++ new_cells program touched serial m ≡ chosen (b.born.serial == serial) own (cells_born program touched serial m) ++ (chosen (nat_lt b.born.serial (suc serial)) [] own ++ new_cells program touched (suc serial) m)
      at t u v e f g h = (λ i. chosen (e i) [] own ++ new_cells program touched serial m) ∙ h ∙ (λ i. chosen (sym f i) own (cells_born program touched serial m) ++ (chosen (sym g i) [] own ++ new_cells program touched (suc serial) m))

      differs : (a k : ℕ) → (a ≡ k → ⊥) → (a == k) ≡ false
      differs a k e = test (a == k) refl
        where
          test : (t : Bool) → (a == k) ≡ t → t ≡ false
          test true f = absurd (e (eqb-true a k f))
          test false f = refl

      later : serial ≤ b.born.serial → new_cells program touched serial m ≡ cells_born program touched serial m ++ new_cells program touched (suc serial) m → new_cells program touched serial m ≡ new_cells program touched (suc serial) m
      later l h = h ∙ ap (λ xs. xs ++ new_cells program touched (suc serial) m) (not_live m serial (none_behind b m serial r l))

      same_or_more : (b.born.serial ≡ serial) ⊎ (serial < b.born.serial) → serial ≤ b.born.serial → new_cells program touched serial m ≡ new_cells program touched (suc serial) m
          → chosen (nat_lt b.born.serial serial) [] own ++ new_cells program touched serial m ≡ chosen (b.born.serial == serial) own (cells_born program touched serial m) ++ (chosen (nat_lt b.born.serial (suc serial)) [] own ++ new_cells program touched (suc serial) m)
      same_or_more (inl e) l h = at false true true (le-ltb b.born.serial serial l) (eq-eqb b.born.serial serial e) (lt-ltb b.born.serial (suc serial) (omega (arith, e))) (ap (λ xs. own ++ xs) h)
      same_or_more (inr k) l h = at false false false (le-ltb b.born.serial serial l) (differs b.born.serial serial (λ e. omega (arith, e, k))) (le-ltb b.born.serial (suc serial) k)
          (ap (λ xs. own ++ xs) h ∙ ap (λ xs. xs ++ (own ++ new_cells program touched (suc serial) m)) (sym (not_live m serial (none_behind b m serial r l))))

      split : (a k : ℕ) → k ≤ a → (a ≡ k) ⊎ (k < a)
      split a k l = which (cases_lt k a)
        where
          which : (k < a) ⊎ (a ≤ k) → (a ≡ k) ⊎ (k < a)
          which (inl h) = inr h
          which (inr h) = inl (omega (arith, h, l))

      of : (b.born.serial < serial) ⊎ (serial ≤ b.born.serial) → new_cells program touched serial m ≡ cells_born program touched serial m ++ new_cells program touched (suc serial) m
          → chosen (nat_lt b.born.serial serial) [] own ++ new_cells program touched serial m ≡ chosen (b.born.serial == serial) own (cells_born program touched serial m) ++ (chosen (nat_lt b.born.serial (suc serial)) [] own ++ new_cells program touched (suc serial) m)
      of (inl k) h = at true false true (lt-ltb b.born.serial serial k) (differs b.born.serial serial (λ e. omega (arith, e, k))) (lt-ltb b.born.serial (suc serial) (omega (arith, k))) h
      of (inr l) h = same_or_more (split b.born.serial serial l) l (later l h)

  pub no_serials : (m : Memory) (births serial : ℕ) → IsBelow births m → births ≤ serial → new_cells program touched serial m ≡ []
  unfolding new_cells is_live born_at
  no_serials [] births serial below l = refl
  no_serials (b ∷ m) births serial below l = (λ i. chosen (lt-ltb b.born.serial serial (omega (arith, less, l)) i) [] (own_cells program touched b) ++ no_serials m births serial behind l i)
    where
      less : b.born.serial < births
      less = below b.born.serial (ap (λ t. is_some (cond t (Some b.born) (born_at m b.born.serial))) (eq-eqb b.born.serial b.born.serial refl))

      behind : IsBelow births m
      behind s h = below s (of (b.born.serial == s))
        where
          of : (t : Bool) → is_some (cond t (Some b.born) (born_at m s)) ≡ true
          of true = refl
          of false = h

  -- ---- the loop

  pub serials_more : (m : Memory) (set all whole : List Cell) (serial : ℕ) → SerialsRise m → all ≡ set ++ cells_born program touched serial m → set ++ new_cells program touched serial m ≡ whole → all ++ new_cells program touched (serial + 1) m ≡ whole
  serials_more m set all whole serial r e k =
      let next : serial + 1 ≡ suc serial = omega arith in
      (λ i. e i ++ new_cells program touched (next i) m) ∙ append_assoc set (cells_born program touched serial m) (new_cells program touched (suc serial) m) ∙ ap (λ xs. set ++ xs) (sym (next_serial m serial r)) ∙ k

  pub serials_over : (m : Memory) (set whole : List Cell) (births serial : ℕ) → IsBelow births m → births ≤ serial → set ++ new_cells program touched serial m ≡ whole → set ≡ whole
  serials_over m set whole births serial below l k = sym (append-nil set) ∙ ap (λ xs. set ++ xs) (sym (no_serials m births serial below l)) ∙ k

  pub older_more : (m : Memory) (set all : List Cell) (serial : ℕ) → all ≡ set ++ cells_born program touched serial m → IsOlder serial set → IsOlder (serial + 1) all
  older_more m set all serial e old c h = of (or_cases _ _ (sym (in_both cells set (cells_born program touched serial m) c) ∙ ap (λ xs. is_in cells xs c) (sym e) ∙ h))
    where
      of : (is_in cells set c ≡ true) ⊎ (is_in cells (cells_born program touched serial m) c ≡ true) → c.serial < serial + 1
      of (inl k) = let l = old c k in omega (arith, l)
      of (inr k) = let same = born_serials m serial c k in omega (arith, same)

pub older_yet : (set : List Cell) (serial births : ℕ) → serial ≤ births → IsOlder serial set → IsOlder births set
older_yet set serial births l old c h = let k = old c h in omega (arith, k, l)

-- ---- one cell after the other

pub before_first : (set : List Cell) (serial : ℕ) → IsOlder serial set → AreBefore set (record { serial = serial; index = 0 })
before_first set serial old c h = inl (old c h)

module _ (p : ℕ → Bool) (serial : ℕ) where
  abbrev pub kept : (index n : ℕ) → List Cell
  kept index n = filter (λ (c : Cell). p c.index) (cells_from serial index n)

  kept_one : (index n : ℕ) → kept index (suc n) ≡ kept index 1 ++ kept (suc index) n
  unfolding cells_from
  kept_one index n = of (p index)
    where
      c : Cell
      c = record { serial = serial; index = index }

      of : (t : Bool) → cond t (c ∷ kept (suc index) n) (kept (suc index) n) ≡ cond t (c ∷ []) [] ++ kept (suc index) n
      of true = refl
      of false = refl

  pub cells_more : (set all whole : List Cell) (index n : ℕ) → index < n → all ≡ set ++ kept index 1 → set ++ kept index (n - index) ≡ whole → all ++ kept (index + 1) (n - (index + 1)) ≡ whole
  cells_more set all whole index n l e k =
      let here : n - index ≡ suc (n - (index + 1)) = omega (arith, l) in
      let next : index + 1 ≡ suc index = omega arith in
      (λ i. e i ++ kept (next i) (n - (index + 1))) ∙ append_assoc set (kept index 1) (kept (suc index) (n - (index + 1))) ∙ ap (λ xs. set ++ xs) (sym (kept_one index (n - (index + 1)))) ∙ ap (λ j. set ++ kept index j) (sym here) ∙ k

  pub cells_over : (set whole : List Cell) (index n : ℕ) → n ≤ index → set ++ kept index (n - index) ≡ whole → set ≡ whole
  unfolding cells_from
  cells_over set whole index n l k = let none : n - index ≡ 0 = omega (arith, l) in sym (append-nil set) ∙ ap (λ j. set ++ kept index j) (sym none) ∙ k

  pub before_more : (set all : List Cell) (index : ℕ) → all ≡ set ++ kept index 1 → AreBefore set (record { serial = serial; index = index }) → AreBefore all (record { serial = serial; index = index + 1 })
  unfolding cells_from
  before_more set all index e before c h = of (or_cases _ _ (sym (in_both cells set (kept index 1) c) ∙ ap (λ xs. is_in cells xs c) (sym e) ∙ h))
    where
      one : Cell
      one = record { serial = serial; index = index }

      step : IsBefore c one → IsBefore c (record { serial = serial; index = index + 1 })
      step (inl k) = inl k
      step (inr k) = inr (k.0, (let l = k.1 in omega (arith, l)))

      itself : (c ≡ one) ⊎ (is_in cells [] c ≡ true) → IsBefore c (record { serial = serial; index = index + 1 })
      itself (inl s) = inr (ap (λ (x : Cell). x.serial) s, (let at : c.index ≡ index = ap (λ (x : Cell). x.index) s in omega (arith, at)))
      itself (inr k) = absurd (none_in cells c k)

      of : (is_in cells set c ≡ true) ⊎ (is_in cells (kept index 1) c ≡ true) → IsBefore c (record { serial = serial; index = index + 1 })
      of (inl k) = step (before c k)
      of (inr k) = itself (is_in-cases cells one [] c (and_parts (p c.index) (is_in cells (one ∷ []) c) (sym (is_in-filter cells (λ (d : Cell). p d.index) (one ∷ []) c) ∙ k)).1)

  pub kept_in : (set all : List Cell) (index : ℕ) → p index ≡ true → all ≡ set ++ record { serial = serial; index = index } ∷ [] → all ≡ set ++ kept index 1
  unfolding cells_from
  kept_in set all index h e = e ∙ ap (λ t. set ++ cond t (record { serial = serial; index = index } ∷ []) []) (sym h)

  pub kept_out : (set : List Cell) (index : ℕ) → p index ≡ false → set ≡ set ++ kept index 1
  unfolding cells_from
  kept_out set index h = sym (append-nil set) ∙ ap (λ t. set ++ cond t (record { serial = serial; index = index } ∷ []) []) (sym h)

  pub first_kept : (set : List Cell) (n : ℕ) → set ++ kept 0 (n - 0) ≡ set ++ kept 0 n
  first_kept set n = let all : n - 0 ≡ n = omega arith in ap (λ k. set ++ kept 0 k) all

pub born_held : (program : Program) (touched : List Key) (s : Contents) (h : Held) (serial : ℕ) (set all : List Cell) → IsHeld program touched s h → h.born.serial ≡ serial
    → all ≡ set ++ filter (λ (c : Cell). is_touched program touched h.born c.index) (cells_from h.born.serial 0 (length h.cells.now)) → all ≡ set ++ cells_born program touched serial s.memory
born_held program touched s h serial set all held same e =
    let vs = map (wire_in s.handles) h.cells.now in
    e ∙ ap (λ n. set ++ filter (λ (c : Cell). is_touched program touched h.born c.index) (cells_from h.born.serial 0 n)) (sym (length_map (wire_in s.handles) h.cells.now))
    ∙ ap (λ xs. set ++ xs) (sym (born_cells program touched s.memory h.born.serial h.born vs held.born held.cells)) ∙ ap (λ n. set ++ cells_born program touched n s.memory) same

pub none_gained : (program : Program) (touched : List Key) (m : Memory) (serial : ℕ) (set : List Cell) → born_at m serial ≡ None → set ≡ set ++ cells_born program touched serial m
none_gained program touched m serial set e = sym (append-nil set) ∙ ap (λ xs. set ++ xs) (sym (none_born program touched m serial e))

pub more_within : (serial births : ℕ) → serial < births → serial + 1 ≤ births
more_within serial births l = omega (arith, l)
