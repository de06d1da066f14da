-- What an access through a pointer reaches, in whatever memory.
use Rattle.std.proofs.Common.{◌≡◌, Bool, true, false, Option, Some, None, Result, Ok, Err, refl, ap, subst}
use Rattle.std.specs.Prelude.{nat_lt}
use Rattle.mdr_core.specs.declared.stop.StopKind.{StopKind}
use Rattle.mdr_meaning.specs.declared.wire.Wire.{Wire}
use Rattle.mdr_meaning.specs.declared.wire.Wire.TheVariants as wire
use Rattle.mdr_model.specs.declared.memory.Cell.{Cell}
use Rattle.mdr_model.specs.Memory.{Memory, cell_at, cell_of, is_live, loaded, loaded_cell, loaded_from, loaded_value, reached, reached_by}

by_tests : (allowed : Cell → Bool) (d c : Cell) (a b t : Bool) → allowed d ≡ t → reached_by a b t d ≡ Ok c → allowed c ≡ true
by_tests allowed d c false b t q h = absurd cc
by_tests allowed d c true false t q h = absurd cc
by_tests allowed d c true true false q h = absurd cc
by_tests allowed d c true true true q h = let same : d ≡ c = cc in subst (λ (x : Cell). allowed x ≡ true) same q

-- what is reached may be touched
pub reached_allowed : (allowed : Cell → Bool) (m : Memory) (p : Wire) (c : Cell) → reached allowed m p ≡ Ok c → allowed c ≡ true
unfolding reached
reached_allowed allowed m (wire.Ptr p) c e = by_tests allowed (cell_of p) c (is_live m p.serial) (nat_lt p.index p.count) (allowed (cell_of p)) refl e
reached_allowed allowed m (wire.Int k n) c e = absurd cc
reached_allowed allowed m wire.Null c e = absurd cc
reached_allowed allowed m wire.Dead c e = absurd cc
reached_allowed allowed m (wire.Fn f) c e = absurd cc
reached_allowed allowed m (wire.Lock s) c e = absurd cc
reached_allowed allowed m wire.NoValue c e = absurd cc

-- a value that is loaded is the one that was there
pub value_is : (v x : Wire) → loaded_value v ≡ Ok x → v ≡ x
value_is wire.Dead x e = cc
value_is (wire.Int k n) x e = cc
value_is wire.Null x e = cc
value_is (wire.Ptr p) x e = cc
value_is (wire.Fn f) x e = cc
value_is (wire.Lock s) x e = cc
value_is wire.NoValue x e = cc

-- a value that was loaded stood in a cell that may be touched
pub record IsLoaded (allowed : Cell → Bool) (m : Memory) (v : Wire) : Type 0 where
  pub cell : Cell
  pub may : allowed cell ≡ true
  pub there : cell_at m cell ≡ Some v

held_value : (o : Option Wire) (v : Wire) → loaded_cell o ≡ Ok v → o ≡ Some v
held_value None v e = cc
held_value (Some x) v e = ap Some (value_is x v e)

loaded_by : (allowed : Cell → Bool) (m : Memory) (p v : Wire) (r : Result Cell StopKind) → reached allowed m p ≡ r → loaded_from m r ≡ Ok v → IsLoaded allowed m v
loaded_by allowed m p v (Err kind) is e = cc
loaded_by allowed m p v (Ok c) is e = record { cell = c; may = reached_allowed allowed m p c is; there = held_value (cell_at m c) v e }

pub loaded_there : (allowed : Cell → Bool) (m : Memory) (p v : Wire) → loaded allowed m p ≡ Ok v → IsLoaded allowed m v
unfolding loaded
loaded_there allowed m p v e = loaded_by allowed m p v (reached allowed m p) refl e
