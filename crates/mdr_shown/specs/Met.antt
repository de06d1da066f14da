-- protocol
-- Blocks that were met, and the number that each has as an object.
use Rattle.std.specs.Prelude.{◌≡◌, ℕ, ◌+◌, List, Option, ◌==◌, nat_eq}
use Rattle.std.specs.HashMap.{get}
use Rattle.std.specs.List.{position}
use Rattle.std.specs.Option.{option_map}
use Rattle.mdr_shown.specs.declared.met.Met.{Met}

-- the number of a block among these, from 1
abbrev pub number_in : List ℕ → ℕ → Option ℕ
number_in serials serial = option_map (λ i. i + 1) (position (λ n. n == serial) serials)

-- each block that was met has its number, and no other has one
pub record AreNumbered (met : Met) : Type 0 where
  pub numbered : (serial : ℕ) → get nat_eq met.numbers serial ≡ number_in met.serials.items serial
