-- What a region keeps, after a birth, a store and a death.
use Rattle.std.proofs.Common.{◌≡◌, ◌≢◌, ◌<◌, ◌≤◌, ◌+◌, ℕ, zero, suc, Bool, true, false, cond, List, [], ◌∷◌, ◌++◌, length, take, Option, Some, None, refl, sym, ◌∙◌, ap, subst, arith}
use Rattle.std.specs.Prelude.{nat_lt, slice_set}
use Rattle.std.proofs.lemmas.Bool.{eqb-true, eq-eqb}
use Rattle.std.proofs.lemmas.Bool.Decides.{nat_tests}
use Rattle.std.proofs.lemmas.List.{length-append}
use Rattle.mdr_core.specs.declared.value.Block.{Block}
use Rattle.mdr_core.specs.declared.value.Value.{Value}
use Rattle.mdr_mem.specs.declared.cells.Life.{Life}
use Rattle.mdr_mem.specs.declared.cells.Life.TheVariants as life
use Rattle.mdr_mem.specs.Contents.{is_handle, left_of}
use Rattle.mdr_mem.specs.Rows.{in_slot, AreOld, IsOld, with_cell}
use Rattle.mdr_mem.proofs.HandleLaws.{one_slot}
use Rattle.mdr_mem.proofs.SoundLaws.{by_slot, sound-born, sound-stored, sound-died, sound-empty}
use Rattle.mdr_region.specs.declared.slots.Row.{Row}
use Rattle.mdr_region.specs.Layout.{Mark, Laid, placed, left, laid}
use Rattle.mdr_region.specs.Holes.{front, inside}
use Rattle.mdr_region.specs.Blocks.{IsBlock, AreBelow}
use Rattle.mdr_region.specs.Cells.{cells_of, written, put_cell}
use Rattle.mdr_region.specs.Slots.{RowSlots, row_in, has_serial, is_there, held_as, held_slots, Lies}
use Rattle.mdr_region.specs.RowsView.{AreKept}
use Rattle.mdr_region.proofs.BlockLaws.{block_born, block_stays, block_left}
use Rattle.mdr_region.proofs.KeptLaws.{laid_more}
use Rattle.mdr_region.proofs.CellLaws.{cells_stay, front_low, block_inside}
use Rattle.mdr_region.proofs.SlotLaws.{slot-map, held-there, cells-most}

abbrev marks_of : List Life → List Mark
marks_of lives = (laid lives).marks

abbrev handle : ℕ → ℕ → Block
handle slot serial = record { slot = slot; serial = serial }

-- two blocks of one serial begin at one place
pub one_start : (marks : List Mark) (s a b m n : ℕ) → IsBlock marks s a m → IsBlock marks s b n → a ≡ b
one_start marks s a b zero zero x y = x.none refl ∙ sym (y.none refl)
one_start marks s a b zero (suc n) x y = grind (arith, nat_tests, x.places b, y.places b)
one_start marks s a b (suc m) zero x y = grind (arith, nat_tests, x.places a, y.places a)
one_start marks s a b (suc m) (suc n) x y =
    let at_a : inside b (suc n) a ≡ true = sym (y.places a) ∙ (x.places a ∙ grind (arith, nat_tests)) in
    let at_b : inside a (suc m) b ≡ true = sym (x.places b) ∙ (y.places b ∙ grind (arith, nat_tests)) in
    grind (arith, nat_tests, at_a, at_b)

-- values past the end are not put
set-past : (xs : List Value) (i : ℕ) (v : Value) → length xs ≤ i → slice_set xs i v ≡ xs
set-past [] i v l = refl
set-past (x ∷ xs) zero v l = absurd (omega (arith, l))
set-past (x ∷ xs) (suc i) v l = ap (λ ys. x ∷ ys) (set-past xs i v (omega (arith, l)))

module _ (hs : List Block) (slots : RowSlots) (values : List Value) (lives : List Life) (births : ℕ) (k : AreKept hs slots values lives births) where
  -- the row in a slot is that of a live handle
  pub row-handle : (slot : ℕ) (r : Row) → row_in slots slot ≡ Some r → is_handle hs (handle slot r.born.serial) ≡ true
  row-handle slot r e =
      k.memory.held (handle slot r.born.serial)
      ∙ (held-there values slots (handle slot r.born.serial)
      ∙ (ap (λ o. has_serial o r.born.serial) e ∙ eq-eqb r.born.serial r.born.serial refl))

  pub row-agrees : (b : Block) → is_handle hs b ≡ is_there slots b
  row-agrees b = k.memory.held b ∙ held-there values slots b

  pub row-old : (slot : ℕ) (r : Row) → row_in slots slot ≡ Some r → r.born.serial < births
  row-old slot r e = k.memory.below (handle slot r.born.serial) (row-handle slot r e)

  pub row-lies : (slot : ℕ) (r : Row) → row_in slots slot ≡ Some r → IsBlock (marks_of lives) r.born.serial r.start r.cells
  row-lies slot r e = subst (Lies (marks_of lives)) e (k.lie slot)

  pub row-low : (slot : ℕ) (r : Row) → row_in slots slot ≡ Some r → r.start + r.cells ≤ length (marks_of lives)
  row-low slot r e = block_inside (marks_of lives) r.born.serial r.start r.cells (row-lies slot r e)

  -- the row in a handle's slot is the handle's
  pub row-serial : (b : Block) (r : Row) → is_handle hs b ≡ true → row_in slots b.slot ≡ Some r → r.born.serial ≡ b.serial
  row-serial b r alive e = eqb-true r.born.serial b.serial (ap (λ o. has_serial o b.serial) (sym e) ∙ (sym (held-there values slots b) ∙ (sym (k.memory.held b) ∙ alive)))

  -- rows in other slots have other serials
  pub row-other : (b : Block) → is_handle hs b ≡ true → (slot : ℕ) (r : Row) → slot ≢ b.slot → row_in slots slot ≡ Some r → r.born.serial ≢ b.serial
  row-other b alive slot r away e same = away (one_slot hs k.memory.rise (handle slot r.born.serial) b (row-handle slot r e) alive same)

  pub row-held : (slot : ℕ) (r : Row) → row_in slots slot ≡ Some r → in_slot (held_slots values slots) slot ≡ Some (record { born = r.born; cells = cells_of r.start r.cells values })
  row-held slot r e = slot-map values slots slot ∙ ap (held_as values) e

  pub no-held : (slot : ℕ) → row_in slots slot ≡ None → in_slot (held_slots values slots) slot ≡ None
  no-held slot e = slot-map values slots slot ∙ ap (held_as values) e

-- ---- a birth

module _ (hs : List Block) (slots slots' : RowSlots) (values : List Value) (lives : List Life) (births : ℕ) (k : AreKept hs slots values lives births)
    (fresh : AreBelow births (marks_of lives)) (next : births ≡ (laid lives).births) (high : length values ≡ length (marks_of lives))
    (b : Block) (r : Row) (first : List Value)
    (new : b.serial ≡ births) (born : r.born.serial ≡ b.serial) (size : r.cells ≡ length first)
    (vacant : row_in slots b.slot ≡ None) (there : row_in slots' b.slot ≡ Some r) (others : (slot : ℕ) → slot ≢ b.slot → row_in slots' slot ≡ row_in slots slot)
    (lies : IsBlock (marks_of (lives ++ life.Birth (length first) ∷ [])) births r.start (length first))
  where
    marks-born : marks_of (lives ++ life.Birth (length first) ∷ []) ≡ placed births (length first) (marks_of lives)
    marks-born = ap (λ (s : Laid). s.marks) (laid_more lives (life.Birth (length first))) ∙ ap (λ n. placed n (length first) (marks_of lives)) (sym next)

    starts : r.start ≡ front (length first) (marks_of lives)
    starts = one_start (placed births (length first) (marks_of lives)) births r.start (front (length first) (marks_of lives)) (length first) (length first)
        (subst (λ m. IsBlock m births r.start (length first)) marks-born lies) (block_born births (length first) (marks_of lives) fresh)

    low : r.start ≤ length values
    low = omega (arith, block_low, high)
      where
        block_low : r.start ≤ length (marks_of lives)
        block_low = omega (arith, starts, front_low (length first) (marks_of lives))

    stays : (slot : ℕ) → held_as (written r.start first values) (row_in slots slot) ≡ held_as values (row_in slots slot)
    stays slot = of (row_in slots slot) refl (k.lie slot)
      where
        of : (o : Option Row) → row_in slots slot ≡ o → Lies (marks_of lives) o → held_as (written r.start first values) o ≡ held_as values o
        of None e l = refl
        of (Some q) e l = ap (λ cs. Some (record { born = q.born; cells = cs }))
            (ap (λ n. cells_of q.start q.cells (written n first values)) starts
            ∙ cells_stay.birth births q.born.serial q.start q.cells (marks_of lives) first values high fresh (row-old hs slots values lives births k slot q e) l)

    pub born-others : (slot : ℕ) → slot ≢ b.slot → in_slot (held_slots (written r.start first values) slots') slot ≡ in_slot (held_slots values slots) slot
    born-others slot away = slot-map (written r.start first values) slots' slot ∙ (ap (held_as (written r.start first values)) (others slot away) ∙ (stays slot ∙ sym (slot-map values slots slot)))

    pub born-there : in_slot (held_slots (written r.start first values) slots') b.slot ≡ Some (record { born = r.born; cells = first })
    born-there =
        slot-map (written r.start first values) slots' b.slot
        ∙ (ap (held_as (written r.start first values)) there
        ∙ ap (λ cs. Some (record { born = r.born; cells = cs })) (ap (λ n. cells_of r.start n (written r.start first values)) size ∙ cells_stay.own r.start first values low))

    lie-born : (slot : ℕ) → Lies (marks_of (lives ++ life.Birth (length first) ∷ [])) (row_in slots' slot)
    lie-born = by_slot (λ n. Lies (marks_of (lives ++ life.Birth (length first) ∷ [])) (row_in slots' n)) b.slot
        (subst (Lies (marks_of (lives ++ life.Birth (length first) ∷ []))) (sym there) (subst (λ n. IsBlock (marks_of (lives ++ life.Birth (length first) ∷ [])) r.born.serial r.start n) (sym size) (subst (λ n. IsBlock (marks_of (lives ++ life.Birth (length first) ∷ [])) n r.start (length first)) (sym (born ∙ new)) lies)))
        (λ slot away. subst (λ o. Lies (marks_of (lives ++ life.Birth (length first) ∷ [])) o) (sym (others slot away)) (of slot (row_in slots slot) refl (k.lie slot)))
      where
        of : (slot : ℕ) (o : Option Row) → row_in slots slot ≡ o → Lies (marks_of lives) o → Lies (marks_of (lives ++ life.Birth (length first) ∷ [])) o
        of slot None e l = tt
        of slot (Some q) e l = subst (λ m. IsBlock m q.born.serial q.start q.cells) (sym marks-born) (block_stays births (length first) q.born.serial q.start q.cells (marks_of lives) (row-old hs slots values lives births k slot q e) l)

    pub kept-born : AreOld births first → AreKept (hs ++ b ∷ []) slots' (written r.start first values) (lives ++ life.Birth (length first) ∷ []) (births + 1)
    kept-born old = record {
      memory = sound-born hs (held_slots values slots) (held_slots (written r.start first values) slots') lives births (length lives + length hs) k.memory b (record { born = r.born; cells = first }) new
          (no-held hs slots values lives births k b.slot vacant) born-there born-others born old (length first) (length (lives ++ life.Birth (length first) ∷ []) + length (hs ++ b ∷ []))
          (omega (arith, length-append lives (life.Birth (length first) ∷ []), length-append hs (b ∷ [])));
      lie = lie-born;
    }

-- ---- a store

module _ (hs : List Block) (slots : RowSlots) (values : List Value) (lives : List Life) (births : ℕ) (k : AreKept hs slots values lives births)
    (b : Block) (alive : is_handle hs b ≡ true) (r : Row) (was : row_in slots b.slot ≡ Some r) (index : ℕ) (v : Value)
  where
    stored-cells : cells_of r.start r.cells (put_cell r.start r.cells index v values) ≡ slice_set (cells_of r.start r.cells values) index v
    stored-cells = of (nat_lt index r.cells) refl
      where
        of : (t : Bool) → nat_lt index r.cells ≡ t → cells_of r.start r.cells (cond t (slice_set values (r.start + index) v) values) ≡ slice_set (cells_of r.start r.cells values) index v
        of true e = cells_stay.stored r.start index r.cells v values
        of false e = sym (set-past (cells_of r.start r.cells values) index v (grind (arith, nat_tests, e, cells-most r.start r.cells values)))

    pub stored-there : in_slot (held_slots (put_cell r.start r.cells index v values) slots) b.slot ≡ Some (with_cell (record { born = r.born; cells = cells_of r.start r.cells values }) index v)
    stored-there =
        slot-map (put_cell r.start r.cells index v values) slots b.slot
        ∙ (ap (held_as (put_cell r.start r.cells index v values)) was ∙ ap (λ cs. Some (record { born = r.born; cells = cs })) stored-cells)

    pub stored-others : (slot : ℕ) → slot ≢ b.slot → in_slot (held_slots (put_cell r.start r.cells index v values) slots) slot ≡ in_slot (held_slots values slots) slot
    stored-others slot away = slot-map (put_cell r.start r.cells index v values) slots slot ∙ (of (row_in slots slot) refl ∙ sym (slot-map values slots slot))
      where
        of : (o : Option Row) → row_in slots slot ≡ o → held_as (put_cell r.start r.cells index v values) o ≡ held_as values o
        of None e = refl
        of (Some q) e = ap (λ cs. Some (record { born = q.born; cells = cs })) (put (nat_lt index r.cells) refl)
          where
            differ : q.born.serial ≢ r.born.serial
            differ same = row-other hs slots values lives births k b alive slot q away e (same ∙ row-serial hs slots values lives births k b r alive was)

            put : (t : Bool) → nat_lt index r.cells ≡ t → cells_of q.start q.cells (cond t (slice_set values (r.start + index) v) values) ≡ cells_of q.start q.cells values
            put true f = cells_stay.other (marks_of lives) q.born.serial r.born.serial q.start q.cells r.start r.cells index v values differ
                (row-lies hs slots values lives births k slot q e) (row-lies hs slots values lives births k b.slot r was) (grind (arith, nat_tests, f))
            put false f = refl

    pub kept-stored : IsOld births v → AreKept hs slots (put_cell r.start r.cells index v values) lives births
    kept-stored old = record {
      memory = sound-stored hs (held_slots values slots) (held_slots (put_cell r.start r.cells index v values) slots) lives births (length lives + length hs) k.memory b alive index v
          (record { born = r.born; cells = cells_of r.start r.cells values }) (row-held hs slots values lives births k b.slot r was) stored-there stored-others old;
      lie = k.lie;
    }

-- ---- a death

module _ (hs : List Block) (slots slots' : RowSlots) (values : List Value) (lives : List Life) (births top : ℕ) (k : AreKept hs slots values lives births)
    (b : Block) (alive : is_handle hs b ≡ true)
    (gone : row_in slots' b.slot ≡ None) (others : (slot : ℕ) → slot ≢ b.slot → row_in slots' slot ≡ row_in slots slot)
    (height : top ≡ length (marks_of (lives ++ life.Death b.serial ∷ [])))
  where
    marks-died : marks_of (lives ++ life.Death b.serial ∷ []) ≡ left b.serial (marks_of lives)
    marks-died = ap (λ (s : Laid). s.marks) (laid_more lives (life.Death b.serial))

    lies-on : (slot : ℕ) (q : Row) → slot ≢ b.slot → row_in slots slot ≡ Some q → IsBlock (left b.serial (marks_of lives)) q.born.serial q.start q.cells
    lies-on slot q away e = block_left b.serial q.born.serial q.start q.cells (marks_of lives) (λ same. row-other hs slots values lives births k b alive slot q away e (sym same)) (row-lies hs slots values lives births k slot q e)

    pub died-there : in_slot (held_slots (take top values) slots') b.slot ≡ None
    died-there = slot-map (take top values) slots' b.slot ∙ ap (held_as (take top values)) gone

    pub died-others : (slot : ℕ) → slot ≢ b.slot → in_slot (held_slots (take top values) slots') slot ≡ in_slot (held_slots values slots) slot
    died-others slot away = slot-map (take top values) slots' slot ∙ (ap (held_as (take top values)) (others slot away) ∙ (of (row_in slots slot) refl ∙ sym (slot-map values slots slot)))
      where
        of : (o : Option Row) → row_in slots slot ≡ o → held_as (take top values) o ≡ held_as values o
        of None e = refl
        of (Some q) e = ap (λ cs. Some (record { born = q.born; cells = cs }))
            (ap (λ n. cells_of q.start q.cells (take n values)) (height ∙ ap length marks-died)
            ∙ cells_stay.death b.serial q.born.serial q.start q.cells (marks_of lives) values (lies-on slot q away e))

    lie-died : (slot : ℕ) → Lies (marks_of (lives ++ life.Death b.serial ∷ [])) (row_in slots' slot)
    lie-died = by_slot (λ n. Lies (marks_of (lives ++ life.Death b.serial ∷ [])) (row_in slots' n)) b.slot
        (subst (Lies (marks_of (lives ++ life.Death b.serial ∷ []))) (sym gone) tt)
        (λ slot away. subst (λ o. Lies (marks_of (lives ++ life.Death b.serial ∷ [])) o) (sym (others slot away)) (of slot away (row_in slots slot) refl))
      where
        of : (slot : ℕ) → slot ≢ b.slot → (o : Option Row) → row_in slots slot ≡ o → Lies (marks_of (lives ++ life.Death b.serial ∷ [])) o
        of slot away None e = tt
        of slot away (Some q) e = subst (λ m. IsBlock m q.born.serial q.start q.cells) (sym marks-died) (lies-on slot q away e)

    pub kept-died : AreKept (left_of b.serial hs) slots' (take top values) (lives ++ life.Death b.serial ∷ []) births
    kept-died =
        let s = sound-died hs (held_slots values slots) (held_slots (take top values) slots') lives births (length lives + length hs) k.memory b alive died-there died-others in
        record {
          memory = record { rise = s.rise; below = s.below; held = s.held; old = s.old; counted = s.counted; roomy = omega arith };
          lie = lie-died;
        }

-- ---- none

pub kept-none : AreKept [] [] [] [] 0
kept-none = record { memory = sound-empty (length {A = Life} [] + length {A = Block} []); lie = λ slot. none slot }
  where
    none : (slot : ℕ) → Lies (marks_of []) (row_in [] slot)
    none zero = tt
    none (suc n) = tt
