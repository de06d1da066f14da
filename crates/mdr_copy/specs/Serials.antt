-- protocol
-- Serials that rise.
use Rattle.std.specs.Prelude.{ℕ, ◌≤◌, Bool, true, List, [], ◌∷◌, Option, Some, None, ◌==◌, nat_lt}
use Rattle.mdr_model.specs.declared.memory.MemoryBlock.{MemoryBlock}

-- a serial is greater than the one before it, if there is one
abbrev pub is_after : Option ℕ → ℕ → Bool
is_after None serial = true
is_after (Some before) serial = nat_lt before serial

-- the serials of blocks don't fall, from a number on
abbrev pub RiseFrom : ℕ → List MemoryBlock → Type 0
RiseFrom least [] = Unit {0}
RiseFrom least (b ∷ m) = (least ≤ b.born.serial) × RiseFrom b.born.serial m

abbrev pub Rise : List MemoryBlock → Type 0
Rise m = RiseFrom 0 m

-- the block with this serial
abbrev pub is_block : ℕ → MemoryBlock → Bool
is_block serial b = b.born.serial == serial
