-- believed
-- When an interrupt is taken.
use Rattle.std.specs.Prelude.{◌≡◌, ℕ, Bool, true, false, not, ◌&&◌, List, [], ◌∷◌, Option, Some, None}
use Rattle.mdr_core.specs.Layout.{chosen}
use Rattle.mdr_model.specs.declared.memory.Cell.{Cell}
use Rattle.mdr_plain.specs.Locks.{is_any_held}
use Rattle.mdr_plain.specs.World.{World}

-- no function of the user half is active. In a run that enters every body there is none at any time
abbrev pub are_none : List (List Cell) → Bool
are_none [] = true
are_none (view ∷ views) = false

-- the device raises its line, no handler runs, no lock is held, and no function of the user half is active
abbrev pub is_open : World → Bool
is_open w = w.clock.device.state.line && (not w.kept.in_handler && (not (is_any_held w.memory) && are_none w.views))

-- the function that handles the interrupt that is taken now: where the gate is open, the one that is registered
unfoldable pub due : World → Option ℕ
due w = chosen (is_open w) w.kept.handler None

-- the same as a rule
pub record Gate (w : World) (handler : ℕ) : Type 0 where
  pub raised : w.clock.device.state.line ≡ true
  pub registered : w.kept.handler ≡ Some handler
  pub idle : w.kept.in_handler ≡ false
  pub unlocked : is_any_held w.memory ≡ false
  pub alone : w.views ≡ []
