-- A value that is put into a block by its serial, and an integer that is put where one is held.
use Rattle.std.proofs.Common.{◌≡◌, ℕ, ℤ, zero, suc, Bool, true, false, cond, List, [], ◌∷◌, map, Option, Some, None, refl, sym, ◌∙◌, ap, subst}
use Rattle.std.specs.Prelude.{◌==◌, option_map, slice_get, slice_set}
use Rattle.mdr_core.specs.declared.value.Block.{Block}
use Rattle.mdr_core.specs.declared.value.Value.{Value}
use Rattle.mdr_core.specs.declared.value.Value.TheVariants as value
use Rattle.mdr_events.specs.declared.integer.Integer.{Integer}
use Rattle.mdr_events.specs.Integers.{integer_wire}
use Rattle.mdr_mem.specs.Contents.{Contents, cell_in, current, is_handle, wire_in}
use Rattle.mdr_meaning.specs.declared.wire.Wire.{Wire}
use Rattle.mdr_meaning.specs.Values.{wire_of}
use Rattle.mdr_model.specs.declared.memory.Cell.{Cell}
use Rattle.mdr_model.specs.Memory.{Memory, born_at, cell_at, put}
use Rattle.mdr_plain.specs.Scripts.{poked_memory, poked_value, put_if}
use Rattle.mdr_world.specs.Reaching.{with_memory}

-- what lies in a cell as it was put there is as good as what is read there
held_poked : (hs : List Block) (v : Value) (n : ℤ) → poked_value (Some (wire_of v)) n ≡ poked_value (Some (wire_in hs v)) n
unfolding current
held_poked hs (value.Ptr p) n = of (is_handle hs p.block)
  where
    of : (t : Bool) → None ≡ poked_value (Some (wire_of (cond t (value.Ptr p) value.Dead))) n
    of true = refl
    of false = refl
held_poked hs (value.Int k m) n = refl
held_poked hs value.Null n = refl
held_poked hs value.Dead n = refl
held_poked hs (value.Fn f) n = refl
held_poked hs (value.Lock s) n = refl
held_poked hs value.NoValue n = refl

values_poked : (hs : List Block) (vs : List Value) (i : ℕ) (n : ℤ) → poked_value (option_map wire_of (slice_get vs i)) n ≡ poked_value (slice_get (map (wire_in hs) vs) i) n
values_poked hs [] i n = refl
values_poked hs (v ∷ vs) zero n = held_poked hs v n
values_poked hs (v ∷ vs) (suc i) n = values_poked hs vs i n

pub cell_poked : (m : Memory) (b : Block) (hs : List Block) (vs : List Value) (i : ℕ) (n : ℤ) → ((index : ℕ) → cell_at m (cell_in b index) ≡ slice_get (map (wire_in hs) vs) index) → poked_value (option_map wire_of (slice_get vs i)) n ≡ poked_value (cell_at m (cell_in b i)) n
cell_poked m b hs vs i n e = values_poked hs vs i n ∙ ap (λ (o : Option Wire). poked_value o n) (sym (e i))

-- what is put, if anything is
pub put_some : (s : Contents) (c : Cell) (n : ℤ) (o : Option Integer) (x : Integer) → option_map integer_wire o ≡ poked_value (cell_at s.memory c) n → o ≡ Some x
    → with_memory (put s.memory c (integer_wire x)) s ≡ with_memory (poked_memory c n s.memory) s
put_some s c n o x e is = ap (λ (v : Option Wire). with_memory (put_if v c s.memory) s) (sym (ap (option_map integer_wire) is) ∙ e)

pub put_none : (s : Contents) (c : Cell) (n : ℤ) (o : Option Integer) → option_map integer_wire o ≡ poked_value (cell_at s.memory c) n → o ≡ None → s ≡ with_memory (poked_memory c n s.memory) s
put_none s c n o e is = ap (λ (v : Option Wire). with_memory (put_if v c s.memory) s) (sym (ap (option_map integer_wire) is) ∙ e)

-- nothing is put into a block that isn't there
no_cell : (m : Memory) (c : Cell) → born_at m c.serial ≡ None → cell_at m c ≡ None
unfolding born_at cell_at
no_cell [] c e = refl
no_cell (b ∷ m) c e = of (b.born.serial == c.serial) e (no_cell m c)
  where
    of : (t : Bool) → cond t (Some b.born) (born_at m c.serial) ≡ None → (born_at m c.serial ≡ None → cell_at m c ≡ None) → cond t (slice_get b.cells c.index) (cell_at m c) ≡ None
    of true k later = absurd cc
    of false k later = later k

pub none_poked : (s : Contents) (c : Cell) (n : ℤ) → born_at s.memory c.serial ≡ None → s ≡ with_memory (poked_memory c n s.memory) s
none_poked s c n e = ap (λ (v : Option Wire). with_memory (put_if (poked_value v n) c s.memory) s) (sym (no_cell s.memory c e))

-- a block's cell by its serial
pub poked_by_serial : (s t : Contents) (serial other index : ℕ) (n : ℤ) → other ≡ serial → t ≡ with_memory (poked_memory (record { serial = other; index = index }) n s.memory) s → t ≡ with_memory (poked_memory (record { serial = serial; index = index }) n s.memory) s
poked_by_serial s t serial other index n same = subst (λ (k : ℕ). t ≡ with_memory (poked_memory (record { serial = k; index = index }) n s.memory) s) same

-- ---- any value

put_nowhere : (m : Memory) (c : Cell) (v : Wire) → born_at m c.serial ≡ None → put m c v ≡ m
unfolding born_at put
put_nowhere [] c v e = refl
put_nowhere (b ∷ m) c v e = of (b.born.serial == c.serial) e (put_nowhere m c v)
  where
    of : (t : Bool) → cond t (Some b.born) (born_at m c.serial) ≡ None → (born_at m c.serial ≡ None → put m c v ≡ m) → cond t (record b { cells = slice_set b.cells c.index v } ∷ m) (b ∷ put m c v) ≡ b ∷ m
    of true k later = absurd cc
    of false k later = ap (λ (x : Memory). b ∷ x) (later k)

pub none_put : (s : Contents) (c : Cell) (v : Wire) → born_at s.memory c.serial ≡ None → s ≡ with_memory (put s.memory c v) s
none_put s c v e = ap (λ (m : Memory). with_memory m s) (sym (put_nowhere s.memory c v e))

pub put_by_serial : (s t : Contents) (serial other index : ℕ) (v : Wire) → other ≡ serial → t ≡ with_memory (put s.memory (record { serial = other; index = index }) v) s → t ≡ with_memory (put s.memory (record { serial = serial; index = index }) v) s
put_by_serial s t serial other index v same = subst (λ (k : ℕ). t ≡ with_memory (put s.memory (record { serial = k; index = index }) v) s) same
