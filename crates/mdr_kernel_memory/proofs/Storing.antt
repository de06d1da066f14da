-- Stores into a world, cell after cell.
use Rattle.std.proofs.Common.{◌≡◌, ℕ, suc, ◌+◌, ◌<◌, ◌≤◌, List, [], ◌∷◌, drop, get_or, length, refl, sym, ◌∙◌, ap, subst, arith}
use Rattle.std.proofs.lemmas.List.{at_drop_all, at_drop_more, drop_more}
use Rattle.mdr_copy.proofs.Stores.{put_runs_cons, put_runs_none}
use Rattle.mdr_meaning.specs.declared.wire.Wire.{Wire}
use Rattle.mdr_meaning.specs.declared.wire.Wire.TheVariants as wire
use Rattle.mdr_model.specs.declared.message.Run.{Run}
use Rattle.mdr_model.specs.Copies.{numbered, put_all, put_runs}
use Rattle.mdr_model.specs.Memory.{Memory, births, normal, normal_if, put}
use Rattle.mdr_model.proofs.CopyLaws.{births-put_all}
use Rattle.mdr_model.proofs.MemoryLaws.{births-put, is_live-births}
use Rattle.mdr_world.specs.Driven.{Driven}
use Rattle.mdr_kernel_memory.specs.Holding.{AreSettled, AreStorable, IsSettled, cell_in, holding}

-- ---- a store leaves each value as it was

normal-births : (m m' : Memory) (v : Wire) → births m ≡ births m' → normal m v ≡ normal m' v
unfolding normal
normal-births m m' (wire.Ptr p) e = ap (λ t. normal_if t p) (is_live-births m m' p.serial e)
normal-births m m' (wire.Int k n) e = refl
normal-births m m' wire.Null e = refl
normal-births m m' wire.Dead e = refl
normal-births m m' (wire.Fn f) e = refl
normal-births m m' (wire.Lock s) e = refl
normal-births m m' wire.NoValue e = refl

settled-births : (m m' : Memory) (vs : List Wire) → births m' ≡ births m → AreSettled m vs → AreSettled m' vs
settled-births m m' [] e s = tt
settled-births m m' (v ∷ vs) e s = (normal-births m' m v e ∙ s.0, settled-births m m' vs e s.1)

pub storable-births : (m m' : Memory) (rs : List Run) → births m' ≡ births m → AreStorable m rs → AreStorable m' rs
storable-births m m' [] e s = tt
storable-births m m' (r ∷ rs) e s = (settled-births m m' r.values e s.0, storable-births m m' rs e s.1)

-- ---- one cell

-- a value that was put as it is now
pub put_made : (d d' : Driven) (serial index : ℕ) (v w : Wire) → v ≡ w → IsSettled d.world.memory w → d' ≡ holding (put d.world.memory (cell_in serial index) (normal d.world.memory v)) d
    → d' ≡ holding (put d.world.memory (cell_in serial index) w) d
put_made d d' serial index v w same settled made =
    made ∙ ap (λ (x : Wire). holding (put d.world.memory (cell_in serial index) x) d) (ap (normal d.world.memory) same ∙ settled)

-- ---- a row of cells

-- what is left of a row comes to what all of it comes to, and its values are as they are now
pub record RowStands (serial first : ℕ) (values : List Wire) (i : ℕ) (d all : Driven) : Type 0 where
  pub left : holding (put_all (numbered serial (first + i) (drop i values)) d.world.memory) d ≡ all
  pub settled : AreSettled d.world.memory (drop i values)

cells_next : (serial index : ℕ) (v : Wire) (vs : List Wire) (m : Memory) → put_all (numbered serial index (v ∷ vs)) m ≡ put_all (numbered serial (suc index) vs) (put m (cell_in serial index) v)
unfolding put_all numbered
cells_next serial index v vs m = refl

cells_none : (serial index : ℕ) (m : Memory) → put_all (numbered serial index []) m ≡ m
unfolding put_all numbered
cells_none serial index m = refl

pub row_begins : (serial first : ℕ) (values : List Wire) (d : Driven) → AreSettled d.world.memory values → RowStands serial first values 0 d (holding (put_all (numbered serial first values) d.world.memory) d)
row_begins serial first values d settled =
    let none : first + 0 ≡ first = omega arith in
    record {
      left = ap (λ n. holding (put_all (numbered serial n values) d.world.memory) d) none;
      settled = settled;
    }

-- the next value is as it is now, and so are those behind it
row_settled : (serial first : ℕ) (values : List Wire) (i : ℕ) (o : Wire) (d all : Driven) → i < length values → RowStands serial first values i d all → AreSettled d.world.memory (get_or values i o ∷ drop (i + 1) values)
row_settled serial first values i o d all inside s = subst (λ (vs : List Wire). AreSettled d.world.memory vs) (drop_more values i o inside) s.settled

pub row_now : (serial first : ℕ) (values : List Wire) (i : ℕ) (o : Wire) (d all : Driven) → i < length values → RowStands serial first values i d all → IsSettled d.world.memory (get_or values i o)
row_now serial first values i o d all inside s = (row_settled serial first values i o d all inside s).0

pub row_next : (serial first : ℕ) (values : List Wire) (i : ℕ) (o : Wire) (d d' all : Driven) → i < length values → d' ≡ holding (put d.world.memory (cell_in serial (first + i)) (get_or values i o)) d
    → RowStands serial first values i d all → RowStands serial first values (i + 1) d' all
row_next serial first values i o d d' all inside made s =
    let v : Wire = get_or values i o in
    let rest : List Wire = drop (i + 1) values in
    let later : first + (i + 1) ≡ suc (first + i) = omega arith in
    let kept : births d'.world.memory ≡ births d.world.memory = ap (λ (x : Driven). births x.world.memory) made ∙ births-put d.world.memory (cell_in serial (first + i)) v in
    record {
      left =
          ap (λ (x : Driven). holding (put_all (numbered serial (first + (i + 1)) rest) x.world.memory) x) made
          ∙ ap (λ n. holding (put_all (numbered serial n rest) (put d.world.memory (cell_in serial (first + i)) v)) d) later
          ∙ ap (λ (m : Memory). holding m d) (sym (cells_next serial (first + i) v rest d.world.memory))
          ∙ sym (at_drop_more (λ (vs : List Wire). holding (put_all (numbered serial (first + i) vs) d.world.memory) d) values i o inside)
          ∙ s.left;
      settled = settled-births d.world.memory d'.world.memory rest kept (row_settled serial first values i o d all inside s).1;
    }

pub row_all : (serial first : ℕ) (values : List Wire) (i : ℕ) (d all : Driven) → length values ≤ i → RowStands serial first values i d all → d ≡ all
row_all serial first values i d all over s =
    ap (λ (m : Memory). holding m d) (sym (cells_none serial (first + i) d.world.memory))
    ∙ sym (at_drop_all (λ (vs : List Wire). holding (put_all (numbered serial (first + i) vs) d.world.memory) d) values i over)
    ∙ s.left

-- ---- runs

-- the same of runs
pub record RunsStand (runs : List Run) (i : ℕ) (d all : Driven) : Type 0 where
  pub left : holding (put_runs (drop i runs) d.world.memory) d ≡ all
  pub storable : AreStorable d.world.memory (drop i runs)

pub runs_begin : (runs : List Run) (d : Driven) → AreStorable d.world.memory runs → RunsStand runs 0 d (holding (put_runs runs d.world.memory) d)
runs_begin runs d storable = record { left = refl; storable = storable }

pub run_storable : (runs : List Run) (i : ℕ) (r : Run) (d all : Driven) → i < length runs → r ≡ get_or runs i r → RunsStand runs i d all → AreStorable d.world.memory (r ∷ drop (i + 1) runs)
run_storable runs i r d all inside is s =
    subst (λ (x : Run). AreStorable d.world.memory (x ∷ drop (i + 1) runs)) (sym is)
    (subst (λ (rs : List Run). AreStorable d.world.memory rs) (drop_more runs i r inside) s.storable)

pub runs_next : (runs : List Run) (i : ℕ) (r : Run) (d d' all : Driven) → i < length runs → r ≡ get_or runs i r → d' ≡ holding (put_all (numbered r.serial r.first r.values) d.world.memory) d
    → RunsStand runs i d all → RunsStand runs (i + 1) d' all
runs_next runs i r d d' all inside is made s =
    let rest : List Run = drop (i + 1) runs in
    let kept : births d'.world.memory ≡ births d.world.memory =
    ap (λ (x : Driven). births x.world.memory) made ∙ births-put_all (numbered r.serial r.first r.values) d.world.memory in
    record {
      left =
          ap (λ (x : Driven). holding (put_runs rest x.world.memory) x) made
          ∙ ap (λ (m : Memory). holding m d) (sym (put_runs_cons r rest d.world.memory))
          ∙ ap (λ (x : Run). holding (put_runs (x ∷ rest) d.world.memory) d) is
          ∙ sym (at_drop_more (λ (rs : List Run). holding (put_runs rs d.world.memory) d) runs i r inside)
          ∙ s.left;
      storable = storable-births d.world.memory d'.world.memory rest kept (run_storable runs i r d all inside is s).1;
    }

pub runs_all : (runs : List Run) (i : ℕ) (d all : Driven) → length runs ≤ i → RunsStand runs i d all → d ≡ all
runs_all runs i d all over s =
    ap (λ (m : Memory). holding m d) (sym (put_runs_none d.world.memory)) ∙ sym (at_drop_all (λ (rs : List Run). holding (put_runs rs d.world.memory) d) runs i over) ∙ s.left
