-- believed
-- Scripts: what each command does, and how a run ends.
use Rattle.std.specs.Prelude.{ℕ, ℤ, zero, suc, ◌+◌, Bool, true, false, List, [], ◌∷◌, map, Option, Some, None, ◌==◌}
use Rattle.mdr_core.specs.declared.program.Program.{Program}
use Rattle.mdr_core.specs.declared.value.Value.{Value}
use Rattle.mdr_core.specs.Kinds.{is_in_range}
use Rattle.mdr_core.specs.Layout.{chosen}
use Rattle.mdr_device.specs.Machines.{made}
use Rattle.mdr_meaning.specs.declared.wire.Wire.{Wire}
use Rattle.mdr_meaning.specs.declared.wire.Wire.TheVariants as wire
use Rattle.mdr_meaning.specs.Numbers.{Numbered}
use Rattle.mdr_meaning.specs.Values.{wire_of}
use Rattle.mdr_model.specs.declared.command.Command.{Command}
use Rattle.mdr_model.specs.declared.command.Command.TheVariants as command
use Rattle.mdr_model.specs.declared.outcome.End.{End}
use Rattle.mdr_model.specs.declared.outcome.End.TheVariants as ends
use Rattle.mdr_model.specs.declared.memory.Cell.{Cell}
use Rattle.mdr_model.specs.Memory.{Memory, cell_at, put}
use Rattle.mdr_model.specs.Report.{func_name, global_name}
use Rattle.mdr_model.specs.Values.{value_of}
use Rattle.mdr_bound.specs.declared.bound.Bound.{Bound}
use Rattle.mdr_plain.specs.declared.outcome.Happened.TheVariants as happened
use Rattle.mdr_plain.specs.Running.{Before, KernelCode, interrupts}
use Rattle.mdr_plain.specs.Storage.{birth_of, first_memory, with_memory}
use Rattle.mdr_plain.specs.World.{World, Ran, Ended, Stopped, Work, after, done, then, noted, ticked}

-- ---- `call`

abbrev pub begun : Program → (func : ℕ) (args : List Value) → World → World
begun program f args w = noted (happened.Call (func_name program f) args) (record w { kept = record w.kept { calls = w.kept.calls + 1 } })

-- its result is noted, and then the interrupt rule is tried once more
abbrev pub returned : Before → Ran Wire → Work
returned before ran = after ran (λ v w. before 0 (noted (happened.Ret (value_of v)) w))

-- ---- `idle`

-- so many ticks in which no code runs
unfoldable pub idle : Before → ℕ → World → Work
idle before zero w = done w
idle before (suc n) w = then (before 0 w) (λ w'. ticked None w' (λ w''. idle before n w''))

-- and then the interrupt rule is tried once more
abbrev pub idled : Before → ℕ → World → Work
idled before n w = then (idle before n (noted (happened.Idle n) w)) (before 0)

-- ---- `show`

unfoldable pub block_cells : Memory → ℕ → List Wire
block_cells [] serial = []
block_cells (b ∷ m) serial = chosen (b.born.serial == serial) b.cells (block_cells m serial)

-- a global's serial is its number
abbrev pub showed : Program → (global : ℕ) → World → World
showed program g w = noted (happened.Show (global_name program g) (map value_of (block_cells w.memory g))) w

-- ---- `Poke`

-- what is put where this is held: an integer, where one of a kind is held that has it
abbrev pub poked_value : Option Wire → ℤ → Option Wire
poked_value (Some (wire.Int k m)) n = chosen (is_in_range k n) (Some (wire.Int k n)) None
poked_value held n = None

abbrev pub put_if : Option Wire → Cell → Memory → Memory
put_if None c m = m
put_if (Some v) c m = put m c v

abbrev pub poked_memory : Cell → ℤ → Memory → Memory
poked_memory c n m = put_if (poked_value (cell_at m c) n) c m

abbrev pub poked : (serial index : ℕ) → ℤ → World → World
poked serial index n w = with_memory w (poked_memory (record { serial = serial; index = index }) n w.memory)

-- ---- commands

-- how a command begins: it was done at once, or a function of the kernel half or of the user half is called with these arguments
pub data Beginning : Type 0 where
  Did : (work : Work) → Beginning
  Enters : (func : ℕ) (args : List Wire) (world : World) → Beginning
  Opens : (func : ℕ) (args : List Wire) (world : World) → Beginning

abbrev pub called_by : (is_user : Bool) → KernelCode → (func : ℕ) (args : List Wire) → World → Beginning
called_by true kernel f args w = Opens f args w
called_by false kernel f args w = Enters f args w

-- the one driver of scripts, for every mode
unfoldable pub begin : KernelCode → (is_user : ℕ → Bool) → Command → World → Beginning
begin kernel is_user (command.Call f args) w = called_by (is_user f) kernel f (map wire_of args) (begun kernel.program f args w)
begin kernel is_user (command.Idle n) w = Did (idled (interrupts kernel) n w)
begin kernel is_user (command.Show g) w = Did (done (showed kernel.program g w))
begin kernel is_user (command.Poke serial index n) w = Did (done (poked serial index n w))
begin kernel is_user (command.Say text) w = Did (done (noted (happened.Say text) w))

-- on one memory a function of either half runs in place
abbrev pub in_place : KernelCode → (enters upcall : (func : ℕ) (args : List Wire) → World → Ran Wire) → Beginning → Work
in_place kernel enters upcall (Did work) = work
in_place kernel enters upcall (Enters f args w) = returned (interrupts kernel) (enters f args w)
in_place kernel enters upcall (Opens f args w) = returned (interrupts kernel) (upcall f args w)

-- ---- runs

-- how a run ended, and its state then
pub record Finish : Type 0 where
  pub end : End
  pub world : World

abbrev pub finish : End → World → Finish
finish end w = record { end = end; world = w }

-- what follows a command: the run goes on, or it stopped
abbrev pub and_then : Work → (World → Finish) → Finish
and_then (Ended x w) go = go w
and_then (Stopped kind at w) go = finish (ends.Stop kind at) w

-- the commands of a script in turn
unfoldable pub commands : (Command → World → Work) → List Command → World → Finish
commands does [] w = finish ends.Ok w
commands does (c ∷ cs) w = and_then (does c w) (λ w'. commands does cs w')

-- the state in which a run begins
unfoldable pub first_world : Numbered → Bound → (budget : ℕ) → World
first_world known script budget = record {
  memory = first_memory known;
  lives = map birth_of (first_memory known);
  views = [];
  clock = record { ticks = 0; rest = budget; device = made script.words script.rules };
  kept = record { events = []; calls = 0; handler = None; in_handler = false; allocations = 0; fails = script.fails };
}
