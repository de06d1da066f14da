-- protocol
-- Pairs of the kernel's serials and the user half's blocks, as what is found by each. So no order of pairs matters.
use Rattle.std.specs.Prelude.{◌≡◌, ℕ, Bool, false, cond, ◌&&◌, Option, Some, None, ◌==◌}
use Rattle.mdr_core.specs.declared.value.Block.{Block}

-- a serial's block, and a block's serial
pub record Pairs : Type 0 where
  pub user_of : ℕ → Option Block
  pub serial_of : Block → Option ℕ

abbrev pub no_pairs : Pairs
no_pairs = record { user_of = λ s. None; serial_of = λ b. None }

abbrev pub is_block : Block → Block → Bool
is_block a b = a.slot == b.slot && a.serial == b.serial

-- with one pair more
abbrev pub paired : ℕ → Block → Pairs → Pairs
paired s b ps = record { user_of = λ t. cond (s == t) (Some b) (ps.user_of t); serial_of = λ c. cond (is_block b c) (Some s) (ps.serial_of c) }

-- with one pair less
abbrev pub dropped : ℕ → Block → Pairs → Pairs
dropped s b ps = record { user_of = λ t. cond (s == t) None (ps.user_of t); serial_of = λ c. cond (is_block b c) None (ps.serial_of c) }

-- without the pair of a serial, if it has one
abbrev pub unpaired_at : Option Block → ℕ → Pairs → Pairs
unpaired_at None s ps = ps
unpaired_at (Some b) s ps = dropped s b ps

abbrev pub unpaired : ℕ → Pairs → Pairs
unpaired s ps = unpaired_at (ps.user_of s) s ps

-- ---- what holds of all pairs

abbrev pub is_that_block : Option Block → Block → Bool
is_that_block None b = false
is_that_block (Some a) b = is_block a b

abbrev pub is_that_serial : Option ℕ → ℕ → Bool
is_that_serial None s = false
is_that_serial (Some t) s = t == s

-- a block is found by a serial exactly where the serial is found by the block: no serial and no block stands twice
abbrev pub AreMatched : Pairs → Type 0
AreMatched ps = (s : ℕ) (b : Block) → is_that_block (ps.user_of s) b ≡ is_that_serial (ps.serial_of b) s
