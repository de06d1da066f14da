-- believed
-- A device, and what reading, writing and ticks do to it.
use Rattle.std.specs.Prelude.{ℕ, zero, suc, false, List, [], ◌∷◌, Option, Some, slice_set}
use Rattle.mdr_device.specs.declared.rule.Rule.{Rule}
use Rattle.mdr_device.specs.declared.rule.Trigger.TheVariants as trigger
use Rattle.mdr_device.specs.declared.state.State.{State}
use Rattle.mdr_device.specs.Rules.{register, with_word, fired, one_tick}

pub record Machine : Type 0 where
  pub state : State
  pub ticks : Option ℕ
  pub rules : List Rule

abbrev pub zeros : ℕ → List ℕ
zeros zero = []
zeros (suc n) = 0 ∷ zeros n

-- each word is put into its register
abbrev pub with_words : List (ℕ × ℕ) → List ℕ → List ℕ
with_words [] registers = registers
with_words (w ∷ words) registers = with_words words (slice_set registers w.0 w.1)

-- 4,096 registers, zero but for these words
unfoldable pub first_words : List (ℕ × ℕ) → List ℕ
first_words words = with_words words (zeros 4096)

-- before the first tick
unfoldable pub made : List (ℕ × ℕ) → List Rule → Machine
made words rules = record { state = record { registers = first_words words; counts = zeros 16; line = false }; ticks = Some 0; rules = rules }

-- the word is taken, then the rules happen
unfoldable pub read : ℕ → Machine → ℕ × Machine
read r d = (register d.state.registers r, record d { state = fired (trigger.Read r) d.rules d.state })

-- the word is stored, then the rules happen
unfoldable pub written : ℕ → ℕ → Machine → Machine
written r word d = record d { state = fired (trigger.Write r) d.rules (with_word r word d.state) }

unfoldable pub ticked : Machine → Machine
ticked d = let t = one_tick d.rules d.ticks d.state in record d { ticks = t.0; state = t.1 }

-- so many ticks pass, one after the other
abbrev pub advanced : ℕ → Machine → Machine
advanced zero d = d
advanced (suc n) d = advanced n (ticked d)
