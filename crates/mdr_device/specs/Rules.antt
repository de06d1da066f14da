-- believed
-- What rules do to a device's registers, count-downs and line.
use Rattle.std.specs.Prelude.{ℕ, ◌+◌, ◌-◌, ◌^◌, Bool, true, false, ◌==◌, ◌&&◌, nat_lt, if◌then◌else◌, List, [], ◌∷◌, map, Option, Some, None, slice_get, slice_set, bit_and, bit_or}
use Rattle.mdr_device.specs.declared.rule.Trigger.{Trigger}
use Rattle.mdr_device.specs.declared.rule.Trigger.TheVariants as trigger
use Rattle.mdr_device.specs.declared.rule.Guard.{Guard}
use Rattle.mdr_device.specs.declared.rule.Effect.{Effect}
use Rattle.mdr_device.specs.declared.rule.Effect.TheVariants as effect
use Rattle.mdr_device.specs.declared.rule.Rule.{Rule}
use Rattle.mdr_device.specs.declared.state.State.{State}

abbrev pub or_zero : Option ℕ → ℕ
or_zero (Some n) = n
or_zero None = 0

-- what a register holds; past the last one that is 0
abbrev pub register : List ℕ → ℕ → ℕ
register registers r = or_zero (slice_get registers r)

-- those bits of the register that the mask has are the value's
abbrev pub holds : Option Guard → List ℕ → Bool
holds None registers = true
holds (Some g) registers = bit_and (register registers g.reg) g.mask == g.value

-- a register gets a word
abbrev pub with_word : ℕ → ℕ → State → State
with_word r word s = record s { registers = slice_set s.registers r word }

-- the bits that a mask of 32 bits hasn't
abbrev pub others : ℕ → ℕ
others mask = 2 ^ 32 - 1 - mask

unfoldable pub effected : Effect → State → State
effected (effect.Set r mask) s = with_word r (bit_or (register s.registers r) mask) s
effected (effect.Clear r mask) s = with_word r (bit_and (register s.registers r) (others mask)) s
effected (effect.Put r word) s = with_word r word s
effected (effect.CopyTo a b) s = with_word b (register s.registers a) s
effected (effect.Start c n) s = record s { counts = slice_set s.counts c n }
effected effect.Raise s = record s { line = true }
effected effect.Lower s = record s { line = false }

abbrev pub all_effected : List Effect → State → State
all_effected [] s = s
all_effected (e ∷ es) s = all_effected es (effected e s)

-- whether it is the event that the trigger names
abbrev pub is_for : Trigger → Trigger → Bool
is_for (trigger.Write r) (trigger.Write n) = r == n
is_for (trigger.Read r) (trigger.Read n) = r == n
is_for (trigger.Tick t) (trigger.Tick n) = t == n
is_for (trigger.Zero c) (trigger.Zero n) = c == n
is_for _ _ = false

unfoldable pub ruled : Trigger → Rule → State → State
ruled event rule s = if is_for rule.trigger event && holds rule.guard s.registers then all_effected rule.effects s else s

-- the rules in their order, each under its guard at that moment
abbrev pub fired : Trigger → List Rule → State → State
fired event [] s = s
fired event (rule ∷ rules) s = fired event rules (ruled event rule s)

-- ---- one tick

abbrev pub next_number : ℕ → Option ℕ
next_number t = if nat_lt (t + 1) (2 ^ 64) then Some (t + 1) else None

-- the number of the next tick; no rule names one that 64 bits don't hold
abbrev pub next_tick : Option ℕ → Option ℕ
next_tick (Some t) = next_number t
next_tick None = None

abbrev pub tick_fired : Option ℕ → List Rule → State → State
tick_fired (Some t) rules s = fired (trigger.Tick t) rules s
tick_fired None rules s = s

abbrev pub rung_once : (count left : ℕ) → List Rule → State → State
rung_once c n rules s = if n == 1 then fired (trigger.Zero c) rules s else s

-- the rules of the count-downs from c on of which one tick was left
abbrev pub rung : (c : ℕ) → List ℕ → List Rule → State → State
rung c [] rules s = s
rung c (n ∷ left) rules s = rung (c + 1) left rules (rung_once c n rules s)

abbrev pub is_zero : ℕ → Bool
is_zero n = n == 0

-- the count-downs are one lower; then the rules happen of those that became zero by that
abbrev pub counted : List Rule → State → State
counted rules s = rung 0 s.counts rules (record s { counts = map (λ n. n - 1) s.counts })

-- the tick is counted, its rules happen, then the count-downs go on
unfoldable pub one_tick : List Rule → Option ℕ → State → Option ℕ × State
one_tick rules ticks s = (next_tick ticks, counted rules (tick_fired (next_tick ticks) rules s))
