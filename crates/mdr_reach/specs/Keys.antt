-- protocol
-- Keys of cells that no struct is around.
use Rattle.std.specs.Prelude.{◌≡◌, ℕ, Bool, false, List, slice_get, unwrap_or}
use Rattle.mdr_access.specs.KeyOrder.{keys}
use Rattle.mdr_core.specs.declared.plan.Key.{Key}
use Rattle.mdr_core.specs.declared.plan.Key.TheVariants as key
use Rattle.mdr_paths.specs.Paths.{is_in}
use Rattle.mdr_reach.specs.declared.keys.LoneKeys.{LoneKeys}

-- whether the flag at a place is set
abbrev pub is_set : List Bool → ℕ → Bool
is_set flags n = unwrap_or (slice_get flags n) false

-- the flags of the keys in the list are set, and no others
pub record AreLoneKeys (touched : List Key) (lone : LoneKeys) : Type 0 where
  pub globals : (n : ℕ) → is_set lone.globals.items n ≡ is_in keys touched (key.Global n)
  pub types : (n : ℕ) → is_set lone.types.items n ≡ is_in keys touched (key.Elem n)
