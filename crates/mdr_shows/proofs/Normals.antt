-- Values as they are kept, in one memory after another.
use Rattle.std.proofs.Common.{◌≡◌, ℕ, Bool, true, false, Option, Some, None, refl, sym, ap, arith}
use Rattle.std.specs.Prelude.{option_map}
use Rattle.std.proofs.lemmas.Bool.{both_ways, eq-eqb}
use Rattle.mdr_meaning.specs.declared.wire.Wire.{Wire}
use Rattle.mdr_meaning.specs.declared.wire.Wire.TheVariants as wire
use Rattle.mdr_model.specs.Agreement.{names_it}
use Rattle.mdr_model.specs.Memory.{Memory, is_live, killed, normal, normal_if, swept}
use Rattle.mdr_model.proofs.LifeLaws.{born_at-killed}

-- a value that names only live blocks is as it is kept
pub normal_held : (m : Memory) (o : Option Wire) → ((s : ℕ) → names_it s o ≡ true → is_live m s ≡ true) → option_map (normal m) o ≡ o
unfolding normal names_it
normal_held m None h = refl
normal_held m (Some (wire.Ptr p)) h = ap (λ (b : Bool). Some (normal_if b p)) (h p.serial (eq-eqb p.serial p.serial refl))
normal_held m (Some (wire.Int k n)) h = refl
normal_held m (Some wire.Null) h = refl
normal_held m (Some wire.Dead) h = refl
normal_held m (Some (wire.Fn f)) h = refl
normal_held m (Some (wire.Lock l)) h = refl
normal_held m (Some wire.NoValue) h = refl

-- where less lives later, what is kept then is what is kept of what was kept before
pub normal_twice : (m m' : Memory) (o : Option Wire) → ((s : ℕ) → is_live m' s ≡ true → is_live m s ≡ true) → option_map (normal m') (option_map (normal m) o) ≡ option_map (normal m') o
unfolding normal
normal_twice m m' None h = refl
normal_twice m m' (Some (wire.Ptr p)) h = of (is_live m p.serial) refl (is_live m' p.serial) refl
  where
    of : (a : Bool) → is_live m p.serial ≡ a → (b : Bool) → is_live m' p.serial ≡ b → option_map (normal m') (Some (normal_if a p)) ≡ Some (normal_if (is_live m' p.serial) p)
    of true e b f = refl
    of false e true f = absurd (both_ways (is_live m p.serial) e (h p.serial f))
    of false e false f = ap (λ (t : Bool). Some (normal_if t p)) (sym f)
normal_twice m m' (Some (wire.Int k n)) h = refl
normal_twice m m' (Some wire.Null) h = refl
normal_twice m m' (Some wire.Dead) h = refl
normal_twice m m' (Some (wire.Fn f)) h = refl
normal_twice m m' (Some (wire.Lock l)) h = refl
normal_twice m m' (Some wire.NoValue) h = refl

-- what a death makes of a value
pub swept_normal : (d : ℕ) (m : Memory) (o : Option Wire) → ((s : ℕ) → names_it s o ≡ true → is_live m s ≡ true) → option_map (swept d) o ≡ option_map (normal (killed d m)) o
unfolding normal names_it is_live
swept_normal d m None h = refl
swept_normal d m (Some (wire.Ptr p)) h = grind (arith, h p.serial, eq-eqb p.serial p.serial refl, born_at-killed d m p.serial, eq-eqb d p.serial, eq-eqb p.serial d)
swept_normal d m (Some (wire.Int k n)) h = refl
swept_normal d m (Some wire.Null) h = refl
swept_normal d m (Some wire.Dead) h = refl
swept_normal d m (Some (wire.Fn f)) h = refl
swept_normal d m (Some (wire.Lock l)) h = refl
swept_normal d m (Some wire.NoValue) h = refl
