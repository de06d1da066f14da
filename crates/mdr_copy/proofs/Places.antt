-- Where a block stands in a memory, and what is there.
use Rattle.std.proofs.Common.{◌≡◌, ℕ, zero, suc, ◌<◌, ◌≤◌, Bool, true, false, cond, List, [], ◌∷◌, length, Option, Some, None, refl, sym, ◌∙◌, ap, arith, get_or}
use Rattle.std.specs.Prelude.{◌==◌, nat_lt, slice_get, slice_set}
use Rattle.std.proofs.lemmas.Bool.Decides.{nat_tests}
use Rattle.mdr_meaning.specs.declared.wire.Wire.{Wire}
use Rattle.mdr_model.specs.declared.memory.MemoryBlock.{MemoryBlock}
use Rattle.mdr_model.specs.declared.memory.Cell.{Cell}
use Rattle.mdr_model.specs.declared.message.New.{New}
use Rattle.mdr_model.specs.Memory.{Memory, born_at, cell_at, put}
use Rattle.mdr_copy.specs.InPlaces.{is_below}
use Rattle.mdr_copy.specs.Searches.{IsNowhere, IsFirstAt, IsSearchable}
use Rattle.mdr_copy.specs.Serials.{RiseFrom, Rise, is_block}

-- ---- blocks in order can be searched

no_smaller : (serial least : ℕ) (m : Memory) → RiseFrom least m → nat_lt least serial ≡ false → IsNowhere (is_below serial) m
no_smaller serial least [] h l = tt
no_smaller serial least (b ∷ m) h l = let g = h.0 in let e : nat_lt b.born.serial serial ≡ false = grind (arith, nat_tests) in (e, no_smaller serial b.born.serial m h.1 e)

no_equal : (serial least : ℕ) (m : Memory) → RiseFrom least m → serial < least → IsNowhere (is_block serial) m
no_equal serial least [] h l = tt
no_equal serial least (b ∷ m) h l = let g = h.0 in ((grind (arith, nat_tests)), no_equal serial b.born.serial m h.1 (omega (arith, g, l)))

smaller_isnt : (a serial : ℕ) → nat_lt a serial ≡ true → (a == serial) ≡ false
smaller_isnt a serial e = grind (arith, nat_tests)

greater : (a serial : ℕ) → nat_lt a serial ≡ false → (a == serial) ≡ false → serial < a
greater a serial e f = grind (arith, nat_tests)

searchable_from : (serial least : ℕ) (m : Memory) → RiseFrom least m → IsSearchable (is_below serial) (is_block serial) m
searchable_from serial least [] h = tt
searchable_from serial least (b ∷ m) h = (
  smaller_isnt b.born.serial serial,
  (
    λ e. no_smaller serial b.born.serial m h.1 e,
    (
      λ e f. no_equal serial b.born.serial m h.1 (greater b.born.serial serial e f),
      searchable_from serial b.born.serial m h.1,
    ),
  ),
)

pub searchable : (serial : ℕ) (m : Memory) → Rise m → IsSearchable (is_below serial) (is_block serial) m
searchable serial m h = searchable_from serial 0 m h

-- ---- what is there

pub born_there : (serial : ℕ) (m : Memory) (i : ℕ) (b : MemoryBlock) → IsFirstAt (is_block serial) m i → b ≡ get_or m i b → Some b.born ≡ born_at m serial
unfolding born_at
born_there serial [] i b h e = absurd h
born_there serial (x ∷ m) zero b h e = ap (λ (y : MemoryBlock). Some y.born) e ∙ sym (ap (λ (t : Bool). cond t (Some x.born) (born_at m serial)) h)
born_there serial (x ∷ m) (suc i) b h e = born_there serial m i b h.1 e ∙ sym (ap (λ (t : Bool). cond t (Some x.born) (born_at m serial)) h.0)

pub born_nowhere : (serial : ℕ) (m : Memory) → IsNowhere (is_block serial) m → None ≡ born_at m serial
unfolding born_at
born_nowhere serial [] h = refl
born_nowhere serial (x ∷ m) h = born_nowhere serial m h.1 ∙ sym (ap (λ (t : Bool). cond t (Some x.born) (born_at m serial)) h.0)

pub cell_there : (c : Cell) (m : Memory) (i : ℕ) (b : MemoryBlock) → IsFirstAt (is_block c.serial) m i → b ≡ get_or m i b → slice_get b.cells c.index ≡ cell_at m c
unfolding cell_at
cell_there c [] i b h e = absurd h
cell_there c (x ∷ m) zero b h e = ap (λ (y : MemoryBlock). slice_get y.cells c.index) e ∙ sym (ap (λ (t : Bool). cond t (slice_get x.cells c.index) (cell_at m c)) h)
cell_there c (x ∷ m) (suc i) b h e = cell_there c m i b h.1 e ∙ sym (ap (λ (t : Bool). cond t (slice_get x.cells c.index) (cell_at m c)) h.0)

pub cell_nowhere : (c : Cell) (m : Memory) → IsNowhere (is_block c.serial) m → None ≡ cell_at m c
unfolding cell_at
cell_nowhere c [] h = refl
cell_nowhere c (x ∷ m) h = cell_nowhere c m h.1 ∙ sym (ap (λ (t : Bool). cond t (slice_get x.cells c.index) (cell_at m c)) h.0)

abbrev pub with_cell : MemoryBlock → ℕ → Wire → MemoryBlock
with_cell b index v = record b { cells = slice_set b.cells index v }

pub put_there : (c : Cell) (v : Wire) (m : Memory) (i : ℕ) (b : MemoryBlock) → IsFirstAt (is_block c.serial) m i → b ≡ get_or m i b → slice_set m i (with_cell b c.index v) ≡ put m c v
unfolding put
put_there c v [] i b h e = absurd h
put_there c v (x ∷ m) zero b h e = ap (λ (y : MemoryBlock). with_cell y c.index v ∷ m) e ∙ sym (ap (λ (t : Bool). cond t (with_cell x c.index v ∷ m) (x ∷ put m c v)) h)
put_there c v (x ∷ m) (suc i) b h e = ap (λ (m' : Memory). x ∷ m') (put_there c v m i b h.1 e) ∙ sym (ap (λ (t : Bool). cond t (with_cell x c.index v ∷ m) (x ∷ put m c v)) h.0)

pub put_nowhere : (c : Cell) (v : Wire) (m : Memory) → IsNowhere (is_block c.serial) m → m ≡ put m c v
unfolding put
put_nowhere c v [] h = refl
put_nowhere c v (x ∷ m) h = ap (λ (m' : Memory). x ∷ m') (put_nowhere c v m h.1) ∙ sym (ap (λ (t : Bool). cond t (with_cell x c.index v ∷ m) (x ∷ put m c v)) h.0)
