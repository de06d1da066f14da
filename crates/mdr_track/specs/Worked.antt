-- for proofs
-- Worked: object 5 points to object 3, and object 3 to object 5 and twice to itself. Their copies lie elsewhere.
use Rattle.std.specs.Prelude.{◌≡◌, ℕ, List, [], ◌∷◌, map, Some, None}
use Rattle.mdr_core.specs.declared.value.Block.{Block}
use Rattle.mdr_core.specs.declared.value.Value.{Value}
use Rattle.mdr_core.specs.declared.value.Value.TheVariants as value
use Rattle.mdr_track.specs.Pairs.{Pairs, no_pairs, paired, unpaired}
use Rattle.mdr_track.specs.Pointers.{addressed, named}

abbrev pub block : ℕ → ℕ → Block
block slot serial = record { slot = slot; serial = serial }

abbrev pub to : Block → ℕ → Value
to b index = value.Ptr (record { block = b; first = 0; ty = 1; count = 4; index = index })

-- 3 lies in slot 0 as the user half's first block, 5 in slot 1 as its second
abbrev pub both : Pairs
both = paired 5 (block 1 1) (paired 3 (block 0 0) no_pairs)

-- the cells of 3 and of 5, by the kernel's serials and by the user half's blocks
abbrev pub by_serials : List Value
by_serials = to (block 1 5) 0 ∷ to (block 0 3) 2 ∷ to (block 0 3) 2 ∷ to (block 0 3) 1 ∷ value.Null ∷ []

abbrev pub by_blocks : List Value
by_blocks = to (block 1 1) 0 ∷ to (block 0 0) 2 ∷ to (block 0 0) 2 ∷ to (block 0 0) 1 ∷ value.Null ∷ []

-- 5 dies, and its copy's cells aren't looked at any more
abbrev pub without : List Value
without = value.Dead ∷ to (block 0 3) 2 ∷ to (block 0 3) 2 ∷ to (block 0 3) 1 ∷ value.Null ∷ []

pub record CycleIsTold : Type 0 where
  pub there : map (addressed both) by_serials ≡ by_blocks
  pub back : map (named both) by_blocks ≡ by_serials
  pub death : map (named (unpaired 5 both)) by_blocks ≡ without
  pub gone : (unpaired 5 both).serial_of (block 1 1) ≡ None
  pub left : (unpaired 5 both).user_of 3 ≡ Some (block 0 0)
