-- for proofs
-- A device with three registers and two of a driver's rules, worked out.
use Rattle.std.specs.Prelude.{◌≡◌, ℕ, Bool, true, false, List, [], ◌∷◌, Option, Some, None}
use Rattle.mdr_device.specs.declared.rule.Trigger.{Trigger}
use Rattle.mdr_device.specs.declared.rule.Trigger.TheVariants as trigger
use Rattle.mdr_device.specs.declared.rule.Effect.{Effect}
use Rattle.mdr_device.specs.declared.rule.Effect.TheVariants as effect
use Rattle.mdr_device.specs.declared.rule.Guard.{Guard}
use Rattle.mdr_device.specs.declared.rule.Rule.{Rule}
use Rattle.mdr_device.specs.declared.state.State.{State}
use Rattle.mdr_device.specs.Machines.{Machine, zeros, read, written, advanced}

abbrev pub rule : Trigger → Option Guard → List Effect → Rule
rule t g es = record { trigger = t; guard = g; effects = es }

abbrev pub state : List ℕ → Bool → State
state registers line = record { registers = registers; counts = zeros 16; line = line }

abbrev pub device : List Rule → Option ℕ → List ℕ → Bool → Machine
device rules ticks registers line = record { state = state registers line; ticks = ticks; rules = rules }

abbrev pub when_bit : ℕ → ℕ → Option Guard
when_bit r bit = Some (record { reg = r; mask = bit; value = bit })

-- a word in register 0 starts a count-down, whose end raises the line; a word in register 1 lowers it
abbrev pub timed : List Rule
timed = rule (trigger.Write 0) (when_bit 0 1) (effect.Start 0 2 ∷ []) ∷ rule (trigger.Zero 0) None (effect.Put 2 7 ∷ effect.Raise ∷ []) ∷ rule (trigger.Write 1) None (effect.Lower ∷ []) ∷ []

-- one rule sets the bit that another one asks for
abbrev pub setting : Rule
setting = rule (trigger.Write 0) None (effect.Set 1 4 ∷ [])

abbrev pub asking : Rule
asking = rule (trigger.Write 0) (when_bit 1 4) (effect.Raise ∷ [])

-- the first tick starts a count-down of one tick
abbrev pub early : List Rule
early = rule (trigger.Tick 1) None (effect.Start 3 1 ∷ []) ∷ rule (trigger.Zero 3) None (effect.Raise ∷ []) ∷ []

-- a register that each read clears
abbrev pub cleared : List Rule
cleared = rule (trigger.Read 2) None (effect.Clear 2 5 ∷ []) ∷ []

pub record DevicesWork : Type 0 where
  pub counted_down : advanced 2 (written 0 1 (device timed (Some 0) (0 ∷ 0 ∷ 0 ∷ []) false)) ≡ device timed (Some 2) (1 ∷ 0 ∷ 7 ∷ []) true
  pub lowered : written 1 0 (device timed (Some 2) (1 ∷ 0 ∷ 7 ∷ []) true) ≡ device timed (Some 2) (1 ∷ 0 ∷ 7 ∷ []) false
  pub unguarded : written 0 2 (device timed (Some 0) (0 ∷ 0 ∷ 0 ∷ []) false) ≡ device timed (Some 0) (2 ∷ 0 ∷ 0 ∷ []) false
  -- a guard is tested at its rule's turn
  pub guard_later : written 0 9 (device (setting ∷ asking ∷ []) (Some 0) (0 ∷ 0 ∷ 0 ∷ []) false) ≡ device (setting ∷ asking ∷ []) (Some 0) (9 ∷ 4 ∷ 0 ∷ []) true
  pub guard_first : written 0 9 (device (asking ∷ setting ∷ []) (Some 0) (0 ∷ 0 ∷ 0 ∷ []) false) ≡ device (asking ∷ setting ∷ []) (Some 0) (9 ∷ 4 ∷ 0 ∷ []) false
  -- a tick's rules come before the count-downs go on
  pub at_once : advanced 1 (device early (Some 0) (0 ∷ 0 ∷ 0 ∷ []) false) ≡ device early (Some 1) (0 ∷ 0 ∷ 0 ∷ []) true
  -- a read takes the word before its rules
  pub taken : read 2 (device cleared (Some 0) (0 ∷ 0 ∷ 7 ∷ []) false) ≡ (7, device cleared (Some 0) (0 ∷ 0 ∷ 2 ∷ []) false)
