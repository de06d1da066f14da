-- protocol
-- Where a block stands in a copy.
use Rattle.std.specs.Prelude.{ℕ, Bool, List, nat_lt}
use Rattle.std.specs.List.{prefix_len}
use Rattle.mdr_model.specs.declared.memory.MemoryBlock.{MemoryBlock}

-- the serial is smaller than this one
abbrev pub is_below : ℕ → MemoryBlock → Bool
is_below serial b = nat_lt b.born.serial serial

-- how many blocks from the front on have smaller serials
abbrev pub place_for : List MemoryBlock → ℕ → ℕ
place_for copy serial = prefix_len (is_below serial) copy
