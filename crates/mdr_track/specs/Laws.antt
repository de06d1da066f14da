-- for proofs
-- The laws of pairs, for contracts.
use Rattle.std.specs.Prelude.{◌≡◌, ℕ, false, Some, None, ◌==◌}
use Rattle.mdr_core.specs.declared.value.Block.{Block}
use Rattle.mdr_core.specs.declared.value.Value.{Value}
use Rattle.mdr_core.specs.declared.value.Value.TheVariants as value
use Rattle.mdr_track.specs.Pairs.{AreMatched, Pairs, is_block, no_pairs, paired, unpaired}
use Rattle.mdr_track.specs.Pointers.{addressed, named, placed, settled, swept}

pub record PairsAreOneToOne : Type 0 where
  pub there : (ps : Pairs) (s : ℕ) (b : Block) → AreMatched ps → ps.user_of s ≡ Some b → ps.serial_of b ≡ Some s
  pub back : (ps : Pairs) (s : ℕ) (b : Block) → AreMatched ps → ps.serial_of b ≡ Some s → ps.user_of s ≡ Some b
  pub one_serial : (ps : Pairs) (s t : ℕ) (b : Block) → AreMatched ps → ps.user_of s ≡ Some b → ps.user_of t ≡ Some b → s ≡ t
  pub one_block : (ps : Pairs) (s : ℕ) (a b : Block) → AreMatched ps → ps.serial_of a ≡ Some s → ps.serial_of b ≡ Some s → a ≡ b

pub record PairsStayMatched : Type 0 where
  pub first : AreMatched no_pairs
  pub birth : (ps : Pairs) (s : ℕ) (b : Block) → AreMatched ps → ps.user_of s ≡ None → ps.serial_of b ≡ None → AreMatched (paired s b ps)
  pub death : (ps : Pairs) (s : ℕ) → AreMatched ps → AreMatched (unpaired s ps)
  pub gone : (ps : Pairs) (s : ℕ) → (unpaired s ps).user_of s ≡ None
  pub freed : (ps : Pairs) (s : ℕ) (b : Block) → AreMatched ps → ps.user_of s ≡ Some b → (unpaired s ps).serial_of b ≡ None
  pub others : (ps : Pairs) (s t : ℕ) → (s == t) ≡ false → (unpaired s ps).user_of t ≡ ps.user_of t
  pub blocks : (ps : Pairs) (s t : ℕ) (b : Block) → AreMatched ps → (s == t) ≡ false → ps.serial_of b ≡ Some t → (unpaired s ps).serial_of b ≡ Some t

-- each reading takes back what the other did
pub record PointersReturn : Type 0 where
  pub cells : (ps : Pairs) (v : Value) → AreMatched ps → addressed ps (named ps v) ≡ settled ps v
  pub code : (ps : Pairs) (v : Value) → AreMatched ps → named ps (addressed ps v) ≡ placed ps v

-- a value that is no pointer to a block
abbrev pub IsElsewhere : Block → Value → Type 0
IsElsewhere b (value.Ptr p) = is_block b p.block ≡ false
IsElsewhere b _ = Unit {0}

pub record StepsKeepNames : Type 0 where
  pub birth : (ps : Pairs) (s : ℕ) (b : Block) (v : Value) → IsElsewhere b v → named (paired s b ps) v ≡ named ps v
  pub death : (ps : Pairs) (s : ℕ) (v : Value) → AreMatched ps → named (unpaired s ps) v ≡ swept s (named ps v)
