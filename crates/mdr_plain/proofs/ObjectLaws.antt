-- The objects that a run shows are the least list that names itself.
use Rattle.std.proofs.Common.{◌≡◌, ℕ, zero, suc, ◌+◌, ◌<◌, ◌≤◌, Bool, true, false, ◌||◌, nat_eq, cond, List, [], ◌∷◌, ◌++◌, length, Option, Some, None, refl, sym, ap, ◌∙◌, subst, arith}
use Rattle.std.specs.Prelude.{drop, is_some, map, slice_get, take}
use Rattle.std.specs.List.{AllByRecursion, IsDistinct, list_any}
use Rattle.std.proofs.lemmas.Bool.{eqb-true}
use Rattle.std.proofs.lemmas.Cmp.{nat_eq_equiv}
use Rattle.std.proofs.lemmas.List.{append-nil, append_assoc, length-map, take-append-drop, take_all}
use Rattle.std.proofs.lemmas.List.Folds.{list_any-append}
use Rattle.std.proofs.lemmas.Map.Made.{length-le_from_is_member}
use Rattle.mdr_core.specs.declared.program.Program.{Program}
use Rattle.mdr_core.specs.Layout.{chosen}
use Rattle.mdr_meaning.specs.declared.wire.Wire.{Wire}
use Rattle.mdr_meaning.specs.declared.wire.Wire.TheVariants as wire
use Rattle.mdr_meaning.specs.declared.wire.WireView.{WireView}
use Rattle.mdr_model.specs.declared.memory.Cell.{Cell}
use Rattle.mdr_model.specs.declared.memory.MemoryBlock.{MemoryBlock}
use Rattle.mdr_model.specs.Memory.{Memory, born_at, cell_at, is_live}
use Rattle.mdr_plain.specs.Laws.{ObjectsAreLeast, met_by}
use Rattle.mdr_plain.specs.Outcome.{cells_shown, first_serials, is_among, met_in, scanned, shown_blocks, with_block, with_named}
use Rattle.mdr_plain.specs.Scripts.{block_cells}

-- ---- one list begins with another

record Grows (xs ys : List ℕ) : Type 0 where
  extra : List ℕ
  is : ys ≡ xs ++ extra

stays : (xs : List ℕ) → Grows xs xs
stays xs = record { extra = []; is = sym (append-nil xs) }

further : {xs ys zs : List ℕ} → Grows xs ys → Grows ys zs → Grows xs zs
further {xs} g h = record { extra = g.extra ++ h.extra; is = h.is ∙ ap (λ l. l ++ h.extra) g.is ∙ append_assoc xs g.extra h.extra }

block_grows_by : (t : Bool) (met : List ℕ) (n : ℕ) → Grows met (chosen t met (met ++ n ∷ []))
block_grows_by true met n = stays met
block_grows_by false met n = record { extra = n ∷ []; is = refl }

block_grows : (met : List ℕ) (n : ℕ) → Grows met (with_block met n)
block_grows met n = block_grows_by (is_among met n) met n

named_grows : (met : List ℕ) (v : Wire) → Grows met (with_named met v)
named_grows met (wire.Ptr p) = block_grows met p.serial
named_grows met (wire.Int k n) = stays met
named_grows met wire.Null = stays met
named_grows met wire.Dead = stays met
named_grows met (wire.Fn f) = stays met
named_grows met (wire.Lock s) = stays met
named_grows met wire.NoValue = stays met

in_grows : (met : List ℕ) (vs : List Wire) → Grows met (met_in met vs)
in_grows met [] = stays met
in_grows met (v ∷ vs) = further (named_grows met v) (in_grows (with_named met v) vs)

by_grows : (m : Memory) (met ns : List ℕ) → Grows met (met_by m met ns)
by_grows m met [] = stays met
by_grows m met (n ∷ ns) = further (in_grows met (block_cells m n)) (by_grows m (met_in met (block_cells m n)) ns)

by_append : (m : Memory) (met xs ys : List ℕ) → met_by m met (xs ++ ys) ≡ met_by m (met_by m met xs) ys
by_append m met [] ys = refl
by_append m met (x ∷ xs) ys = by_append m (met_in met (block_cells m x)) xs ys

-- ---- one element more

take_next : (xs : List ℕ) (i s : ℕ) (more : List ℕ) → slice_get xs i ≡ Some s → take (suc i) (xs ++ more) ≡ take i xs ++ s ∷ []
take_next [] i s more e = absurd cc
take_next (x ∷ xs) zero s more e = ap (λ n. n ∷ []) (first e) where
  first : Some x ≡ Some s → x ≡ s
  first h = cc
take_next (x ∷ xs) (suc i) s more e = ap (λ l. x ∷ l) (take_next xs i s more e)

past : (xs : List ℕ) (i : ℕ) → slice_get xs i ≡ None → length xs ≤ i
past [] i e = omega arith
past (x ∷ xs) zero e = absurd cc
past (x ∷ xs) (suc i) e = let h : length xs ≤ i = past xs i e in omega (arith, h)

-- ---- what was met when the objects before number i were scanned

module _ (program : Program) (m : Memory) where
  abbrev globals : List ℕ
  globals = first_serials (length program.globals)

  record At (i : ℕ) (met : List ℕ) : Type 0 where
    scanned_to : met ≡ met_by m globals (take i met)

  step_by : (i : ℕ) (met : List ℕ) (o : Option ℕ) → slice_get met i ≡ o → At i met → At (suc i) (met_in met (cells_shown m o))
  step_by i met None e a = record { scanned_to = a.scanned_to ∙ ap (met_by m globals) (take_all i met (past met i e) ∙ sym (take_all (suc i) met (let h : length met ≤ i = past met i e in omega (arith, h)))) }
  step_by i met (Some s) e a = record { scanned_to = whole } where
    cells : List Wire
    cells = block_cells m s

    g : Grows met (met_in met (block_cells m s))
    g = in_grows met (block_cells m s)

    whole : met_in met (block_cells m s) ≡ met_by m globals (take (suc i) (met_in met (block_cells m s)))
    whole =
        ap (λ l. met_in l (block_cells m s)) a.scanned_to
        ∙ sym (by_append m globals (take i met) (s ∷ []))
        ∙ ap (met_by m globals) (sym (ap (take (suc i)) g.is ∙ take_next met i s g.extra e))

  step : (i : ℕ) (met : List ℕ) → At i met → At (suc i) (met_in met (cells_shown m (slice_get met i)))
  step i met a = step_by i met (slice_get met i) refl a

  scan : (n i : ℕ) (met : List ℕ) → At i met → At (i + n) (scanned m n i met)
  scan zero i met a = subst (λ k. At k met) (let e : i ≡ i + zero = omega arith in e) a
  scan (suc n) i met a =
      subst (λ k. At k (scanned m n (suc i) (met_in met (cells_shown m (slice_get met i))))) (let e : suc i + n ≡ i + suc n = omega arith in e)
      (scan n (suc i) (met_in met (cells_shown m (slice_get met i))) (step i met a))

  begun : At 0 globals
  begun = record { scanned_to = refl }

  -- ---- every list that names itself begins with it

  module _ (others : List ℕ) (self : others ≡ met_by m globals others) where
    lead_by : (i : ℕ) (met : List ℕ) (o : Option ℕ) → slice_get met i ≡ o → At i met → Grows met others → Grows (met_in met (cells_shown m o)) others
    lead_by i met None e a g = g
    lead_by i met (Some s) e a g = record { extra = h.extra; is = whole ∙ h.is } where
      scanned_first : List ℕ
      scanned_first = take i met ++ s ∷ []

      parts : others ≡ (take i met ++ s ∷ []) ++ (drop (suc i) met ++ g.extra)
      parts =
          g.is
          ∙ ap (λ l. l ++ g.extra) (sym (take-append-drop (suc i) met) ∙ ap (λ l. l ++ drop (suc i) met) (ap (take (suc i)) (sym (append-nil met)) ∙ take_next met i s [] e))
          ∙ append_assoc (take i met ++ s ∷ []) (drop (suc i) met) g.extra

      met_then : met_by m globals (take i met ++ s ∷ []) ≡ met_in met (block_cells m s)
      met_then = by_append m globals (take i met) (s ∷ []) ∙ ap (λ l. met_in l (block_cells m s)) (sym a.scanned_to)

      whole : others ≡ met_by m (met_in met (block_cells m s)) (drop (suc i) met ++ g.extra)
      whole =
          self
          ∙ ap (met_by m globals) parts
          ∙ by_append m globals (take i met ++ s ∷ []) (drop (suc i) met ++ g.extra)
          ∙ ap (λ l. met_by m l (drop (suc i) met ++ g.extra)) met_then

      h : Grows (met_in met (block_cells m s)) (met_by m (met_in met (block_cells m s)) (drop (suc i) met ++ g.extra))
      h = by_grows m (met_in met (block_cells m s)) (drop (suc i) met ++ g.extra)

    leads : (n i : ℕ) (met : List ℕ) → At i met → Grows met others → Grows (scanned m n i met) others
    leads zero i met a g = g
    leads (suc n) i met a g =
        leads n (suc i) (met_in met (cells_shown m (slice_get met i))) (step i met a) (lead_by i met (slice_get met i) refl a g)

    first_grows : Grows globals others
    first_grows = record { extra = (by_grows m globals others).extra; is = self ∙ (by_grows m globals others).is }

  -- ---- no more objects than live blocks

  -- the blocks that were met live, and none stands twice
  record Good (met : List ℕ) : Type 0 where
    live : (s : ℕ) → is_among met s ≡ true → is_live m s ≡ true
    once : IsDistinct nat_eq met

  all_push : (x n : ℕ) (xs : List ℕ) → nat_eq x n ≡ false → AllByRecursion (λ y. nat_eq x y ≡ false) xs → AllByRecursion (λ y. nat_eq x y ≡ false) (xs ++ n ∷ [])
  all_push x n [] e h = (e, tt)
  all_push x n (y ∷ ys) e h = (h.0, all_push x n ys e h.1)

  or_parts : (a b : Bool) → (a || b) ≡ false → (a ≡ false) × (b ≡ false)
  or_parts false b e = (refl, e)
  or_parts true b e = absurd cc

  push : (xs : List ℕ) (n : ℕ) → is_among xs n ≡ false → IsDistinct nat_eq xs → IsDistinct nat_eq (xs ++ n ∷ [])
  unfolding IsDistinct
  push [] n e d = (tt, tt)
  push (x ∷ xs) n e d =
      let p : (nat_eq n x ≡ false) × (is_among xs n ≡ false) = or_parts (nat_eq n x) (is_among xs n) e in
      (all_push x n xs (nat_eq_equiv.symm x n ∙ p.0) d.0, push xs n p.1 d.1)

  either_way : (a b : Bool) {P : Type 0} → (a || (b || false)) ≡ true → (a ≡ true → P) → (b ≡ true → P) → P
  either_way true b e p q = p refl
  either_way false true e p q = q refl
  either_way false false e p q = absurd cc

  with_one : (met : List ℕ) (n : ℕ) → is_live m n ≡ true → is_among met n ≡ false → Good met → Good (met ++ n ∷ [])
  with_one met n l e g = record {
    live = λ s h. either_way (is_among met s) (nat_eq s n) (sym (list_any-append (nat_eq s) met (n ∷ [])) ∙ h) (g.live s) (λ same. subst (λ k. is_live m k ≡ true) (sym (eqb-true s n same)) l);
    once = push met n e g.once;
  }

  block_good_by : (met : List ℕ) (n : ℕ) (t : Bool) → is_among met n ≡ t → is_live m n ≡ true → Good met → Good (chosen t met (met ++ n ∷ []))
  block_good_by met n true e l g = g
  block_good_by met n false e l g = with_one met n l e g

  named_good : (met : List ℕ) (v : Wire) → ((p : WireView) → v ≡ wire.Ptr p → is_live m p.serial ≡ true) → Good met → Good (with_named met v)
  named_good met (wire.Ptr p) l g = block_good_by met p.serial (is_among met p.serial) refl (l p refl) g
  named_good met (wire.Int k n) l g = g
  named_good met wire.Null l g = g
  named_good met wire.Dead l g = g
  named_good met (wire.Fn f) l g = g
  named_good met (wire.Lock s) l g = g
  named_good met wire.NoValue l g = g

  in_good : (vs : List Wire) (met : List ℕ) → ((i : ℕ) (p : WireView) → slice_get vs i ≡ Some (wire.Ptr p) → is_live m p.serial ≡ true) → Good met → Good (met_in met vs)
  in_good [] met l g = g
  in_good (v ∷ vs) met l g = in_good vs (with_named met v) (λ i p e. l (suc i) p e) (named_good met v (λ p e. l 0 p (ap Some e)) g)

  module _ (closed : (s i : ℕ) (p : WireView) → slice_get (block_cells m s) i ≡ Some (wire.Ptr p) → is_live m p.serial ≡ true) where
    shown_good : (o : Option ℕ) (met : List ℕ) → Good met → Good (met_in met (cells_shown m o))
    shown_good None met g = g
    shown_good (Some s) met g = in_good (block_cells m s) met (closed s) g

    scan_good : (n i : ℕ) (met : List ℕ) → Good met → Good (scanned m n i met)
    scan_good zero i met g = g
    scan_good (suc n) i met g = scan_good n (suc i) (met_in met (cells_shown m (slice_get met i))) (shown_good (slice_get met i) met g)

  below : (n s : ℕ) → is_among (first_serials n) s ≡ true → s < n
  below zero s e = absurd cc
  below (suc n) s e =
      either_way (is_among (first_serials n) s) (nat_eq s n) (sym (list_any-append (nat_eq s) (first_serials n) (n ∷ [])) ∙ e)
      (λ h. let b : s < n = below n s h in omega (arith, b)) (λ h. let b : s ≡ n = eqb-true s n h in omega (arith, b))

  not_yet : (n : ℕ) (t : Bool) → is_among (first_serials n) n ≡ t → t ≡ false
  not_yet n false e = refl
  not_yet n true e = let b : n < n = below n n e in absurd (omega (arith, b))

  first_good : (n : ℕ) → ((g : ℕ) → g < n → is_live m g ≡ true) → Good (first_serials n)
  unfolding IsDistinct
  first_good zero l = record { live = λ s e. absurd cc; once = tt }
  first_good (suc n) l =
      with_one (first_serials n) n (l n (omega arith)) (not_yet n (is_among (first_serials n) n) refl)
      (first_good n (λ g h. l g (let b : g < suc n = omega (arith, h) in b)))

-- ---- the serials of the live blocks

abbrev serial_of : MemoryBlock → ℕ
serial_of b = b.born.serial

live_by : (m : Memory) (s : ℕ) (b : MemoryBlock) (t : Bool) → is_some (cond t (Some b.born) (born_at m s)) ≡ true → (is_some (born_at m s) ≡ true → list_any (nat_eq s) (map serial_of m) ≡ true) → nat_eq b.born.serial s ≡ t → (nat_eq s b.born.serial || list_any (nat_eq s) (map serial_of m)) ≡ true
live_by m s b true e rest same = ap (λ t. t || list_any (nat_eq s) (map serial_of m)) (nat_eq_equiv.symm s b.born.serial ∙ same)
live_by m s b false e rest same = ap (λ t. nat_eq s b.born.serial || t) (rest e) ∙ or_true (nat_eq s b.born.serial) where
  or_true : (a : Bool) → (a || true) ≡ true
  or_true true = refl
  or_true false = refl

is_member_of : (m : Memory) (s : ℕ) → is_live m s ≡ true → list_any (nat_eq s) (map serial_of m) ≡ true
unfolding is_live born_at
is_member_of [] s e = absurd cc
is_member_of (b ∷ m) s e = live_by m s b (nat_eq b.born.serial s) e (is_member_of m s) refl

-- ---- the cells of a block

cells_at_by : (m : Memory) (c : Cell) (b : MemoryBlock) (t : Bool) → cell_at m c ≡ slice_get (block_cells m c.serial) c.index → cond t (slice_get b.cells c.index) (cell_at m c) ≡ slice_get (chosen t b.cells (block_cells m c.serial)) c.index
cells_at_by m c b true e = refl
cells_at_by m c b false e = e

cells_are : (m : Memory) (c : Cell) → cell_at m c ≡ slice_get (block_cells m c.serial) c.index
unfolding cell_at block_cells
cells_are [] c = refl
cells_are (b ∷ m) c = cells_at_by m c b (nat_eq b.born.serial c.serial) (cells_are m c)

-- ---- all of it

pub objects_are_least : ObjectsAreLeast
unfolding shown_blocks
objects_are_least = record {
  closed = λ program m globals_live pointers_live.
      let g : Good program m (shown_blocks program m) = scan_good program m (λ s i p e. pointers_live (record { serial = s; index = i }) p (cells_are m (record { serial = s; index = i }) ∙ e)) (length m) 0 _ (first_good program m (length program.globals) globals_live) in
      let few : length (shown_blocks program m) ≤ length m = subst (λ n. length (shown_blocks program m) ≤ n) (length-map m serial_of) (length-le_from_is_member nat_eq_equiv (shown_blocks program m) (map serial_of m) g.once (λ s e. is_member_of m s (g.live s e))) in
      let a : At program m (0 + length m) (shown_blocks program m) = scan program m (length m) 0 _ (begun program m) in
      a.scanned_to ∙ ap (met_by m (first_serials (length program.globals))) (take_all (0 + length m) (shown_blocks program m) (let h : length (shown_blocks program m) ≤ 0 + length m = omega (arith, few) in h));
  least = λ program m others self.
      let g : Grows (shown_blocks program m) others = leads program m others self (length m) 0 _ (begun program m) (first_grows program m others self) in
      (g.extra, g.is);
}
