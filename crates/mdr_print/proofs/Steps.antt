-- One more of what a loop writes again and again.
use Rattle.std.proofs.Common.{◌≡◌, ℕ, suc, ◌+◌, ◌-◌, ◌<◌, List, refl, arith}
use Rattle.mdr_print.specs.Marks.{Mark, tabs}
use Rattle.mdr_print.specs.Types.{stars}

one_less : (n i : ℕ) → i < n → n - i ≡ suc (n - (i + 1))
one_less n i h = omega (arith, h)

pub tabs_step : (n i : ℕ) → i < n → (rest : List Mark) → tabs (n - i) rest ≡ tabs 1 (tabs (n - (i + 1)) rest)
tabs_step n i h rest = rw (one_less n i h) refl

pub stars_step : (n i : ℕ) → i < n → (rest : List Mark) → stars (n - i) rest ≡ stars 1 (stars (n - (i + 1)) rest)
stars_step n i h rest = rw (one_less n i h) refl
