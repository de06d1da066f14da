-- protocol
-- Integers in hand, and in the first cell of a block.
use Rattle.std.specs.Prelude.{◌≡◌, ℕ, ◌<◌, Ok}
use Rattle.mdr_meaning.specs.declared.wire.Wire.{Wire}
use Rattle.mdr_meaning.specs.declared.wire.Wire.TheVariants as wire
use Rattle.mdr_meaning.specs.declared.wire.WireView.{WireView}
use Rattle.mdr_meaning.specs.Numbers.{Numbered}
use Rattle.mdr_meaning.specs.Pointers.{global}
use Rattle.mdr_meaning.specs.Walk.{Accesses}
use Rattle.mdr_events.specs.declared.integer.Integer.{Integer}

-- the value that an integer is
abbrev pub integer_wire : Integer → Wire
integer_wire n = wire.Int n.kind n.number

-- what a pointer to the first cell of a block names, where it names a cell at all
pub record IsFirst (serial : ℕ) (v : WireView) : Type 0 where
  pub block : v.serial ≡ serial
  pub first : v.first ≡ 0
  pub index : v.index ≡ 0
  pub some : 0 < v.count

module _ {M : Type 0} (a : Accesses M) (m : M) (serial : ℕ) (n : Integer) where
  -- each such pointer loads the integer
  abbrev pub FirstIs : Type 0
  FirstIs = (v : WireView) → IsFirst serial v → a.load m (wire.Ptr v) ≡ Ok (integer_wire n)

  -- each such pointer stores it
  abbrev pub FirstBecomes : M → Type 0
  FirstBecomes m' = (v : WireView) → IsFirst serial v → a.store m (wire.Ptr v) (integer_wire n) ≡ Ok m'

-- a global has a first cell
pub record HasFirst (known : Numbered) (g : ℕ) : Type 0 where
  pub view : WireView
  pub is : global known g ≡ wire.Ptr view
  pub first : IsFirst g view
