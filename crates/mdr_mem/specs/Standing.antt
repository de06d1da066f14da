-- for proofs
-- How the values of code stand to those of memories, whose pointers name serials alone.
use Rattle.std.specs.Prelude.{ℕ, ◌≡◌, List, ◌∷◌, [], ◌++◌, map, IfSome}
use Rattle.mdr_core.specs.declared.value.Block.{Block}
use Rattle.mdr_core.specs.declared.value.Value.{Value}
use Rattle.mdr_core.specs.declared.value.Value.TheVariants as value
use Rattle.mdr_core.specs.declared.types.Shape.{Shape}
use Rattle.mdr_core.specs.declared.program.Program.{Program}
use Rattle.mdr_model.specs.declared.message.BirthKind.{BirthKind}
use Rattle.mdr_meaning.specs.Values.{wire_of}
use Rattle.mdr_model.specs.Memory.{normal, zero_of, zero_block, leaves_of}
use Rattle.mdr_mem.specs.Contents.{Contents, IsInOrder, handle_of, left_of, current, wire_in, born_as, new_block}
use Rattle.mdr_mem.specs.Rows.{IsOld}

-- a pointer has the slot of its block, if that lives
abbrev pub IsPlaced : List Block → Value → Type 0
IsPlaced hs (value.Ptr p) = IfSome (handle_of hs p.block.serial) (λ h. h ≡ p.block)
IsPlaced hs _ = Unit {0}

-- a value that is put into a cell is there what a memory holds of it; a value that is loaded has the slot of its block, and keeps it whatever is born and dies; and a block whose first values are zero is born as zero
pub record ValuesStand : Type 0 where
  pub held : (s : Contents) (v : Value) → IsInOrder s → IsPlaced s.handles v → wire_in s.handles v ≡ normal s.memory (wire_of v)
  pub loaded : (s : Contents) (v : Value) → IsInOrder s → current s.handles v ≡ v → IsPlaced s.handles v
  pub born : (hs : List Block) (b : Block) (v : Value) → IsOld b.serial v → IsPlaced hs v → IsPlaced (hs ++ b ∷ []) v
  pub died : (hs : List Block) (serial : ℕ) (v : Value) → IsPlaced hs v → IsPlaced (left_of serial hs) v
  pub zero : (program : Program) (kind : BirthKind) (shape : Shape) (first : List Value) (b : Block) (hs : List Block)
      → map wire_of first ≡ map zero_of (leaves_of program (born_as kind shape b)) → new_block kind shape first b hs ≡ zero_block program (born_as kind shape b)
