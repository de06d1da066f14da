-- protocol
-- What a tracker holds: the pairs, each way, and for how many more it has room.
use Rattle.std.specs.Prelude.{ℕ, ◌≤◌, Bool, ◌&&◌, List, nat_eq, ◌==◌}
use Rattle.std.specs.Map.{lookup}
use Rattle.indexmap.specs.IndexMap.{IndexMap, spare}
use Rattle.mdr_core.specs.declared.value.Block.{Block}
use Rattle.mdr_track.specs.declared.key.BlockKey.{BlockKey}
use Rattle.mdr_track.specs.Pairs.{Pairs, AreMatched}

pub record Tracked : Type 0 where
  pub serials : List (ℕ × Block)
  pub blocks : List (BlockKey × ℕ)
  pub room : ℕ

-- a block, as it is looked up
abbrev pub key_of : Block → BlockKey
key_of b = record { slot = b.slot; serial = b.serial }

abbrev pub is_key : BlockKey → BlockKey → Bool
is_key a b = a.slot == b.slot && a.serial == b.serial

-- as what is found
abbrev pub found_in : List (ℕ × Block) → List (BlockKey × ℕ) → Pairs
found_in serials blocks = record { user_of = λ s. lookup (nat_eq s) serials; serial_of = λ b. lookup (is_key (key_of b)) blocks }

abbrev pub pairs_of : Tracked → Pairs
pairs_of x = found_in x.serials x.blocks

-- both maps agree, and neither has less room than was promised
pub record IsKept {S T : Type 0} (m : IndexMap ℕ Block S) (n : IndexMap BlockKey ℕ T) (room : ℕ) : Type 0 where
  pub matched : AreMatched (found_in m.entries n.entries)
  pub serials : room ≤ spare m
  pub blocks : room ≤ spare n
