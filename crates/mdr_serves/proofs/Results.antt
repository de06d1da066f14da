-- Values as they are now: once more they are the same.
use Rattle.std.proofs.Common.{◌≡◌, Bool, true, false, List, [], ◌∷◌, map, refl, ap}
use Rattle.mdr_meaning.specs.declared.wire.Wire.{Wire}
use Rattle.mdr_meaning.specs.declared.wire.Wire.TheVariants as wire
use Rattle.mdr_model.specs.Memory.{Memory, is_live, normal, normal_if}

-- ---- values as they are

pub normal_twice : (m : Memory) (v : Wire) → normal m (normal m v) ≡ normal m v
unfolding normal
normal_twice m (wire.Ptr p) = of (is_live m p.serial) refl
  where
    of : (b : Bool) → is_live m p.serial ≡ b → normal m (normal_if b p) ≡ normal_if b p
    of true e = ap (λ (b : Bool). normal_if b p) e
    of false e = refl
normal_twice m (wire.Int k n) = refl
normal_twice m wire.Null = refl
normal_twice m wire.Dead = refl
normal_twice m (wire.Fn f) = refl
normal_twice m (wire.Lock s) = refl
normal_twice m wire.NoValue = refl

-- arguments are passed as they are now, and so once more
pub passed_twice : (m : Memory) (args : List Wire) → map (normal m) (map (normal m) args) ≡ map (normal m) args
passed_twice m [] = refl
passed_twice m (v ∷ vs) = λ i. normal_twice m v i ∷ passed_twice m vs i
