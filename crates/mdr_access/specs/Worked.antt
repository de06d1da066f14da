-- for proofs
-- The network driver's plan worked out: the keys of each function of its user half.
use Rattle.std.specs.Prelude.{List, [], ◌∷◌, map}
use Rattle.mdr_core.specs.declared.plan.Key.{Key}
use Rattle.mdr_core.specs.declared.plan.Key.TheVariants as key
use Rattle.mdr_core.specs.declared.plan.Plan.{Plan}
use Rattle.mdr_core.specs.declared.program.Func.{Func}
use Rattle.mdr_slice.specs.Worked.{nic, nic_halves}
use Rattle.mdr_access.specs.Keys.{IsPlan}

-- the keys of fields, by the structs' and the fields' numbers

abbrev pub buf_len : Key
buf_len = key.Field 0 0

abbrev pub stats_sent : Key
stats_sent = key.Field 1 0

abbrev pub stats_errors : Key
stats_errors = key.Field 1 2

abbrev pub card_state : Key
card_state = key.Field 2 1

abbrev pub card_ring : Key
card_ring = key.Field 2 3

abbrev pub op_code : Key
op_code = key.Field 3 0

abbrev pub op_run : Key
op_run = key.Field 3 1

-- what each function touches. `nic_ioctl` has what `op_state` and `op_reset` touch, which it may call; no one of the user half
-- touches `card.head`, which `nic_transmit` has, and `card.spare`, and the lock has no key; `card.st` is no key either, since
-- each cell of it is one of `stats`
abbrev pub nic_keys : List (List Key)
nic_keys =
    -- nic_irq
    []
    -- op_state
    ∷ (card_state ∷ [])
    -- op_reset
    ∷ (stats_sent ∷ stats_errors ∷ [])
    -- nic_probe
    ∷ (buf_len ∷ card_ring ∷ [])
    -- nic_open
    ∷ (card_state ∷ [])
    -- nic_transmit
    ∷ []
    -- nic_ioctl
    ∷ (stats_sent ∷ stats_errors ∷ card_state ∷ op_code ∷ op_run ∷ [])
    -- nic_total
    ∷ (buf_len ∷ card_ring ∷ [])
    ∷ []

abbrev pub nic_plan : Plan
nic_plan = record {
  types = nic.types;
  names = map (λ (func : Func). func.name) nic.funcs;
  halves = nic_halves.halves;
  roots = nic_halves.roots;
  down = nic_halves.down;
  keys = nic_keys;
}

abbrev pub NetworkDriverHasKeys : Type 0
NetworkDriverHasKeys = IsPlan nic nic_halves nic_plan
