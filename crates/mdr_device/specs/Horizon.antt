-- protocol
-- How many ticks pass before a device does something, and what so many do to it.
use Rattle.std.specs.Prelude.{ℕ, ◌+◌, ◌-◌, ◌^◌, ◌==◌, min, nat_lt, if◌then◌else◌, List, [], ◌∷◌, map, Option, Some, None}
use Rattle.mdr_device.specs.declared.rule.Trigger.{Trigger}
use Rattle.mdr_device.specs.declared.rule.Trigger.TheVariants as trigger
use Rattle.mdr_device.specs.declared.rule.Rule.{Rule}
use Rattle.mdr_device.specs.Machines.{Machine}

-- ---- of so many ticks, those before the first that does more than to lower count-downs

-- behind n ticks, those before tick t: all where it passed
abbrev pub before_tick : (n t most : ℕ) → ℕ
before_tick n t most = if nat_lt n t then min most (t - n - 1) else most

-- a rule that waits for no tick has all
abbrev pub before_event : Option ℕ → Trigger → ℕ → ℕ
before_event (Some n) (trigger.Tick t) most = before_tick n t most
before_event None (trigger.Tick t) most = most
before_event ticks (trigger.Write r) most = most
before_event ticks (trigger.Read r) most = most
before_event ticks (trigger.Zero c) most = most

abbrev pub before_rules : Option ℕ → List Rule → ℕ → ℕ
before_rules ticks [] most = most
before_rules ticks (rule ∷ rules) most = before_rules ticks rules (before_event ticks rule.trigger most)

-- those before the last one of a count-down, if it goes on
abbrev pub before_zero : (count most : ℕ) → ℕ
before_zero count most = if count == 0 then most else min most (count - 1)

abbrev pub before_zeros : List ℕ → ℕ → ℕ
before_zeros [] most = most
before_zeros (count ∷ counts) most = before_zeros counts (before_zero count most)

abbrev pub horizon : ℕ → Machine → ℕ
horizon most d = before_zeros d.state.counts (before_rules d.ticks d.rules most)

-- ---- so many ticks in which nothing else is done

abbrev pub later_number : ℕ → ℕ → Option ℕ
later_number n t = if nat_lt (t + n) (2 ^ 64) then Some (t + n) else None

-- the number of the tick that so many later is, if 64 bits hold it
abbrev pub later : ℕ → Option ℕ → Option ℕ
later n (Some t) = later_number n t
later n None = None

-- count-downs that are so many lower
abbrev pub lowered : ℕ → List ℕ → List ℕ
lowered n counts = map (λ (count : ℕ). count - n) counts

abbrev pub skipped : ℕ → Machine → Machine
skipped n d = record d { ticks = later n d.ticks; state = record d.state { counts = lowered n d.state.counts } }
