-- What births leave of a memory.
use Rattle.std.proofs.Common.{◌≡◌, ℕ, suc, ◌+◌, ◌<◌, ◌≤◌, Bool, true, false, cond, ◌||◌, ◌⊎◌, inl, inr, List, [], ◌∷◌, ◌++◌, Option, Some, None, refl, sym, ◌∙◌, ap, subst, arith}
use Rattle.std.specs.Prelude.{is_some, nat_le, slice_get, ◌==◌}
use Rattle.std.proofs.lemmas.Bool.{both_ways, eq-eqb, eqb-true, leb-true, or_cases}
use Rattle.mdr_core.specs.declared.program.Program.{Program}
use Rattle.mdr_meaning.specs.declared.shape.Shape64.{Shape64}
use Rattle.mdr_meaning.specs.declared.wire.Wire.{Wire}
use Rattle.mdr_model.specs.declared.memory.Cell.{Cell}
use Rattle.mdr_model.specs.declared.memory.MemoryBlock.{MemoryBlock}
use Rattle.mdr_model.specs.declared.message.BirthKind.{BirthKind}
use Rattle.mdr_model.specs.declared.message.New.{New}
use Rattle.mdr_model.specs.Agreement.{IsBelow, IsFormed, MayFollow, born_cell, cell_zero}
use Rattle.mdr_model.specs.Copies.{inserted, is_named}
use Rattle.mdr_model.specs.Memory.{Memory, born_at, cell_at, is_live, zero_block}
use Rattle.mdr_model.proofs.KernelSteps.{steps_may_follow}
use Rattle.mdr_model.proofs.LifeLaws.{born_at-inserted, cell_at-inserted, zero_block-get}
use Rattle.mdr_plain.specs.Storage.{births, born, new_of, next_serial, pointer_to}
use Rattle.mdr_plain.specs.World.{World}
use Rattle.mdr_shows.proofs.Deaths.{count_birth}

-- ---- a block with a serial above all others

first_below : (x : MemoryBlock) (m : Memory) (n : ℕ) → IsBelow n (x ∷ m) → x.born.serial < n
unfolding is_live born_at
first_below x m n low = low x.born.serial (rw (eq-eqb x.born.serial x.born.serial refl) refl)

rest_below : (x : MemoryBlock) (m : Memory) (n : ℕ) → IsBelow n (x ∷ m) → IsBelow n m
unfolding is_live born_at
rest_below x m n low s h = low s (of (x.born.serial == s) h)
  where
    of : (t : Bool) → is_some (born_at m s) ≡ true → is_some (cond t (Some x.born) (born_at m s)) ≡ true
    of true e = refl
    of false e = e

-- its place is the end
inserted_end : (m : Memory) (b : MemoryBlock) → IsBelow b.born.serial m → inserted b m ≡ m ++ b ∷ []
unfolding inserted
inserted_end [] b low = refl
inserted_end (x ∷ m) b low = of (nat_le b.born.serial x.born.serial) refl (inserted_end m b (rest_below x m b.born.serial low))
  where
    of : (t : Bool) → nat_le b.born.serial x.born.serial ≡ t → inserted b m ≡ m ++ b ∷ [] → cond t (b ∷ x ∷ m) (x ∷ inserted b m) ≡ x ∷ (m ++ b ∷ [])
    of true e later = absurd (omega (arith, leb-true b.born.serial x.born.serial e, first_below x m b.born.serial low))
    of false e later = ap (λ (rest : Memory). x ∷ rest) later

-- a block that isn't live has no cells
no_cells : (m : Memory) (c : Cell) → born_at m c.serial ≡ None → cell_at m c ≡ None
unfolding born_at cell_at
no_cells [] c e = refl
no_cells (x ∷ m) c e = of (x.born.serial == c.serial) e (no_cells m c)
  where
    of : (t : Bool) → cond t (Some x.born) (born_at m c.serial) ≡ None → (born_at m c.serial ≡ None → cell_at m c ≡ None) → cond t (slice_get x.cells c.index) (cell_at m c) ≡ None
    of true h later = let no : ◌≡◌ {A = Option New} (Some x.born) None = h in cc
    of false h later = later h

-- ---- one memory and what births make of it

pub record Grows (program : Program) (next : ℕ) (m : Memory) (results : List Wire) (m' : Memory) : Type 0 where
  pub old_born : (s : ℕ) → s < next → born_at m' s ≡ born_at m s
  pub old_cells : (c : Cell) → c.serial < next → cell_at m' c ≡ cell_at m c
  -- the results name the new blocks, and no others
  pub named : (s : ℕ) → next ≤ s → is_live m' s ≡ is_named results s
  pub above : (s : ℕ) → is_named results s ≡ true → next ≤ s
  pub zeros : (c : Cell) → next ≤ c.serial → cell_at m' c ≡ born_cell program (born_at m' c.serial) c.index

not_above : (m : Memory) (next s : ℕ) → IsBelow next m → next ≤ s → born_at m s ≡ None
unfolding is_live
not_above m next s low above = of (born_at m s) refl
  where
    of : (o : Option New) → born_at m s ≡ o → o ≡ None
    of None e = refl
    of (Some n) e = absurd (omega (arith, above, low s (ap (λ (x : Option New). is_some x) e)))

pub grows_none : (program : Program) (next : ℕ) (m : Memory) → IsBelow next m → Grows program next m [] m
unfolding is_live
grows_none program next m low = record {
  old_born = λ s h. refl;
  old_cells = λ c h. refl;
  named = λ s h. ap (λ (o : Option New). is_some o) (not_above m next s low h);
  above = λ s h. absurd (both_ways false refl h);
  zeros = λ c h. let none : born_at m c.serial ≡ None = not_above m next c.serial low h in no_cells m c none ∙ ap (λ (o : Option New). born_cell program o c.index) (sym none);
}

module _ (program : Program) (next next' : ℕ) (m m' m'' : Memory) (n : New) (ps : List Wire) (is : n.serial ≡ next) (more : next' ≡ next + 1)
    (born_is : (s : ℕ) → born_at m' s ≡ cond (n.serial == s) (Some n) (born_at m s))
    (cells_are : (c : Cell) → cell_at m' c ≡ cond (n.serial == c.serial) (cell_zero program n c.index) (cell_at m c))
    (rest : Grows program next' m' ps m'') where
  apart : (s : ℕ) → s < next → (n.serial == s) ≡ false
  apart s h = of (n.serial == s) refl
    where
      of : (t : Bool) → (n.serial == s) ≡ t → t ≡ false
      of true e = absurd (omega (arith, h, is, eqb-true n.serial s e))
      of false e = refl

  grows_old : (s : ℕ) → s < next → born_at m'' s ≡ born_at m s
  grows_old s h = rest.old_born s (omega (arith, h, more)) ∙ born_is s ∙ ap (λ (t : Bool). cond t (Some n) (born_at m s)) (apart s h)

  grows_cells : (c : Cell) → c.serial < next → cell_at m'' c ≡ cell_at m c
  grows_cells c h = rest.old_cells c (omega (arith, h, more)) ∙ cells_are c ∙ ap (λ (t : Bool). cond t (cell_zero program n c.index) (cell_at m c)) (apart c.serial h)

  new_born : (s : ℕ) → (n.serial == s) ≡ true → born_at m'' s ≡ Some n
  new_born s e = rest.old_born s (omega (arith, is, more, eqb-true n.serial s e)) ∙ born_is s ∙ ap (λ (t : Bool). cond t (Some n) (born_at m s)) e

  later_than : (s : ℕ) → (n.serial == s) ≡ false → next ≤ s → next' ≤ s
  later_than s e h = omega (arith, h, is, more, differs)
    where
      differs : n.serial ≡ s → ⊥
      differs same = both_ways (n.serial == s) e (eq-eqb n.serial s same)

  grows_named : (s : ℕ) → next ≤ s → is_live m'' s ≡ (n.serial == s || is_named ps s)
  unfolding is_live
  grows_named s h = of (n.serial == s) refl
    where
      of : (t : Bool) → (n.serial == s) ≡ t → is_some (born_at m'' s) ≡ (t || is_named ps s)
      of true e = ap (λ (o : Option New). is_some o) (new_born s e)
      of false e = rest.named s (later_than s e h)

  grows_above : (s : ℕ) → (n.serial == s || is_named ps s) ≡ true → next ≤ s
  grows_above s h = of (or_cases _ _ h)
    where
      of : ((n.serial == s) ≡ true) ⊎ (is_named ps s ≡ true) → next ≤ s
      of (inl e) = omega (arith, is, eqb-true n.serial s e)
      of (inr e) = omega (arith, more, rest.above s e)

  grows_zeros : (c : Cell) → next ≤ c.serial → cell_at m'' c ≡ born_cell program (born_at m'' c.serial) c.index
  grows_zeros c h = of (n.serial == c.serial) refl
    where
      of : (t : Bool) → (n.serial == c.serial) ≡ t → cell_at m'' c ≡ born_cell program (born_at m'' c.serial) c.index
      of true e =
          rest.old_cells c (omega (arith, is, more, eqb-true n.serial c.serial e)) ∙ cells_are c ∙ ap (λ (t : Bool). cond t (cell_zero program n c.index) (cell_at m c)) e
          ∙ ap (λ (o : Option New). born_cell program o c.index) (sym (new_born c.serial e))
      of false e = rest.zeros c (later_than c.serial e h)

  pub grows_more : Grows program next m (pointer_to n ∷ ps) m''
  grows_more = record { old_born = grows_old; old_cells = grows_cells; named = grows_named; above = grows_above; zeros = grows_zeros }

-- ---- births in a world

end_born : (program : Program) (m : Memory) (n : New) (s : ℕ) → IsBelow n.serial m → born_at (m ++ zero_block program n ∷ []) s ≡ cond (n.serial == s) (Some n) (born_at m s)
end_born program m n s low = ap (λ (x : Memory). born_at x s) (sym (inserted_end m (zero_block program n) low)) ∙ born_at-inserted (zero_block program n) m s

end_cells : (program : Program) (m : Memory) (n : New) (c : Cell) → IsBelow n.serial m → cell_at (m ++ zero_block program n ∷ []) c ≡ cond (n.serial == c.serial) (cell_zero program n c.index) (cell_at m c)
end_cells program m n c low =
    ap (λ (x : Memory). cell_at x c) (sym (inserted_end m (zero_block program n) low)) ∙ cell_at-inserted (zero_block program n) m c
    ∙ ap (λ (o : Option Wire). cond (n.serial == c.serial) o (cell_at m c)) (zero_block-get program n c.index)

one_follows : (program : Program) (kind : BirthKind) (s : Shape64) (w : World) → IsFormed program w.memory → IsBelow (next_serial w) w.memory
    → MayFollow program (next_serial w) w.memory (next_serial (born program (new_of kind s w) w)) (born program (new_of kind s w) w).memory
unfolding born
one_follows program kind s w f low =
    let n : New = new_of kind s w in
    let after : MayFollow program (next_serial w) w.memory (suc (next_serial w)) (w.memory ++ zero_block program n ∷ []) =
    subst (λ (m : Memory). MayFollow program (next_serial w) w.memory (suc (next_serial w)) m) (inserted_end w.memory (zero_block program n) low) (steps_may_follow.birth program w.memory n f low) in
    subst (λ (k : ℕ). MayFollow program (next_serial w) w.memory k (w.memory ++ zero_block program n ∷ [])) (next_is (next_serial w) _ (count_birth w.lives _)) after
  where
    next_is : (a b : ℕ) → b ≡ a + 1 → suc a ≡ b
    next_is a b e = omega (arith, e)

pub births_follow : (program : Program) (kind : BirthKind) (shapes : List Shape64) (w : World) → IsFormed program w.memory → IsBelow (next_serial w) w.memory
    → MayFollow program (next_serial w) w.memory (next_serial (births program kind shapes w).memory) (births program kind shapes w).memory.memory
unfolding births
births_follow program kind [] w f low = steps_may_follow.none program (next_serial w) w.memory f low
births_follow program kind (s ∷ shapes) w f low =
    let one = one_follows program kind s w f low in
    steps_may_follow.more one (births_follow program kind shapes (born program (new_of kind s w) w) one.formed one.low)

pub births_grow : (program : Program) (kind : BirthKind) (shapes : List Shape64) (w : World) → IsFormed program w.memory → IsBelow (next_serial w) w.memory
    → Grows program (next_serial w) w.memory (births program kind shapes w).pointers (births program kind shapes w).memory.memory
unfolding births born
births_grow program kind [] w f low = grows_none program (next_serial w) w.memory low
births_grow program kind (s ∷ shapes) w f low =
    let n : New = new_of kind s w in
    let one = one_follows program kind s w f low in
    grows_more program (next_serial w) (next_serial (born program n w)) w.memory (born program n w).memory _ n _ refl (count_birth w.lives _)
    (λ k. end_born program w.memory n k low) (λ c. end_cells program w.memory n c low) (births_grow program kind shapes (born program n w) one.formed one.low)
