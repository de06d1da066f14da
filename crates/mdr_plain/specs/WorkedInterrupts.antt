-- for proofs
-- Devices, interrupts, locks and texts worked out on one memory: what is printed of runs.
use Rattle.std.specs.Prelude.{◌≡◌, ℕ, true, List, [], ◌∷◌, codes, pos, Some, None}
use Rattle.mdr_core.specs.declared.kind.Kind.TheVariants.{U8}
use Rattle.mdr_core.specs.declared.program.Func.{Func}
use Rattle.mdr_core.specs.declared.types.Ann.TheVariants.{Single}
use Rattle.mdr_core.specs.declared.types.Ty.TheVariants as ty
use Rattle.mdr_core.specs.declared.value.LockState.TheVariants.{Free}
use Rattle.mdr_core.specs.declared.value.Value.{Value}
use Rattle.mdr_core.specs.declared.value.Value.TheVariants as value
use Rattle.mdr_core.specs.Code.{Term, Lvalue, Called, Goal, Code}
use Rattle.mdr_device.specs.declared.rule.Effect.TheVariants as effect
use Rattle.mdr_device.specs.declared.rule.Rule.{Rule}
use Rattle.mdr_device.specs.declared.rule.Trigger.TheVariants as trigger
use Rattle.mdr_device.specs.Worked.{rule, when_bit}
use Rattle.mdr_meaning.specs.Sides.{Body}
use Rattle.mdr_meaning.specs.Worked.{add, body, glob, node, node_pointer, number, u32}
use Rattle.mdr_model.specs.declared.command.Command.TheVariants as command
use Rattle.mdr_bound.specs.declared.bound.Bound.{Bound}
use Rattle.mdr_plain.specs.Plain.{plain_of}
use Rattle.mdr_plain.specs.Worked.{Driver, calls, global_named, named, printed, program_of, serves, serves_into, side_of, with_rules, zero_u32}

abbrev pub sets : (number global : ℕ) → Term → Code
sets n g e = Code.Assign n (Lvalue.Global g) e

-- `writel(value, register)`, `x = readl(register)` for a global x, `request_irq(h)` with h function 0
abbrev pub writes : (number value register : ℕ) → Code
writes n x r = serves n 5 (number x ∷ number r ∷ [])

abbrev pub reads : (number global register : ℕ) → Code
reads n g r = serves_into n 4 (Lvalue.Global g) (number r ∷ [])

abbrev pub requests : (number : ℕ) → Code
requests n = serves n 7 (Term.Lit (value.Fn 0) ∷ [])

abbrev pub handler_and_go : List Func
handler_and_go = named (codes "h") ∷ named (codes "go") ∷ []

-- ---- an interrupt between two statements: u32 hits; u32 seen;
-- void h(void){hits=hits+1; writel(0,1);} void go(void){request_irq(h); writel(1,0); seen=1; seen=2; seen=readl(3);}

abbrev pub counts_hit : Body
counts_hit = body [] ty.Void (sets 1 0 (add (glob 0) (number 1)) ∷ writes 2 0 1 ∷ [])

abbrev pub goes_on : Body
goes_on = body [] ty.Void (requests 1 ∷ writes 2 1 0 ∷ sets 3 1 (number 1) ∷ sets 4 1 (number 2) ∷ reads 5 1 3 ∷ [])

abbrev pub hitting : Driver
hitting = record {
  struct = node;
  pointer = node_pointer;
  globals = global_named (codes "hits") u32 (zero_u32 ∷ []) ∷ global_named (codes "seen") u32 (zero_u32 ∷ []) ∷ [];
  funcs = handler_and_go;
  bodies = counts_hit ∷ goes_on ∷ [];
}

abbrev pub after_two : List Rule
after_two = rule (trigger.Write 0) (when_bit 0 1) (effect.Start 0 2 ∷ []) ∷ rule (trigger.Zero 0) None (effect.Put 3 7 ∷ effect.Raise ∷ []) ∷ rule (trigger.Write 1) None (effect.Lower ∷ []) ∷ []

abbrev pub go_and_show : Bound
go_and_show = with_rules after_two (calls 1 ∷ command.Show 0 ∷ [])

abbrev pub hitting_text : List ℕ
hitting_text =
    codes "call go\nW 0 1\nirq h\nW 1 0\nR 3 7\nret none\nshow hits: 1\nend ok\nticks 7\nlive 2\nobj 1 u32 x1: 1\nobj 2 u32 x1: 7\n"

-- the line rises in the fourth tick, and the interrupt is taken before the fifth
abbrev pub TakesInterrupt : Type 0
TakesInterrupt = printed hitting go_and_show 100 ≡ hitting_text

-- ---- a line that stays raised, and no tick for the handler: void h(void){hits=hits+1; hits=hits+1;} void go(void){request_irq(h); writel(1,0); seen=1;}

abbrev pub keeps_line : Body
keeps_line = body [] ty.Void (sets 1 0 (add (glob 0) (number 1)) ∷ sets 2 0 (add (glob 0) (number 1)) ∷ [])

abbrev pub goes_once : Body
goes_once = body [] ty.Void (requests 1 ∷ writes 2 1 0 ∷ sets 3 1 (number 1) ∷ [])

abbrev pub raised : Driver
raised = record hitting { bodies = keeps_line ∷ goes_once ∷ [] }

abbrev pub at_once : Bound
at_once = with_rules (rule (trigger.Write 0) None (effect.Raise ∷ []) ∷ []) (calls 1 ∷ command.Show 0 ∷ command.Idle 1 ∷ [])

abbrev pub raised_text : List ℕ
raised_text =
    codes "call go\nW 0 1\nirq h\nret none\nirq h\nshow hits: 4\nidle 1\nirq h\nirq h\nend ok\nticks 12\nlive 2\nobj 1 u32 x1: 8\nobj 2 u32 x1: 1\n"

-- nothing interrupts a handler; one is taken before a tick, one behind a result and behind idle time, and none behind what is shown
abbrev pub TakesOneAtATime : Type 0
TakesOneAtATime = printed raised at_once 100 ≡ raised_text

abbrev pub starved_text : List ℕ
starved_text = codes "call go\nW 0 1\nirq h\nstop Ticks at h 1\nticks 2\nlive 2\nobj 1 u32 x1: 0\nobj 2 u32 x1: 0\n"

abbrev pub starved_idle_text : List ℕ
starved_idle_text =
    codes "call go\nW 0 1\nirq h\nret none\nirq h\nshow hits: 4\nidle 1\nirq h\nstop Ticks at h 1\nticks 7\nlive 2\nobj 1 u32 x1: 4\nobj 2 u32 x1: 1\n"

-- the handler is taken before the budget is tested, in idle time too; and the device has had no tick that wasn't counted
pub record StarvesHandler : Type 0 where
  pub text : printed raised at_once 2 ≡ starved_text
  pub idle : printed raised at_once 7 ≡ starved_idle_text
  pub device : (plain_of (program_of raised) (side_of raised) at_once 2).world.clock.device.ticks ≡ Some 2

-- ---- a lock: combolock_t l; u32 hits; u32 seen;
-- void h(void){hits=seen; writel(0,1);} void go(void){request_irq(h); combolock(&l); writel(1,0); seen=1; combounlock(&l); seen=2;}

abbrev pub lock : Term
lock = Term.Addr (Lvalue.Global 2)

abbrev pub copies_seen : Body
copies_seen = body [] ty.Void (sets 1 0 (glob 1) ∷ writes 2 0 1 ∷ [])

abbrev pub goes_locked : Body
goes_locked = body [] ty.Void (requests 1 ∷ serves 2 10 (lock ∷ []) ∷ writes 3 1 0 ∷ sets 4 1 (number 1) ∷ serves 5 11 (lock ∷ []) ∷ sets 6 1 (number 2) ∷ [])

abbrev pub locked : Driver
locked = record hitting {
  globals = global_named (codes "hits") u32 (zero_u32 ∷ []) ∷ global_named (codes "seen") u32 (zero_u32 ∷ []) ∷ global_named (codes "l") ty.Lock (value.Lock Free ∷ []) ∷ [];
  bodies = copies_seen ∷ goes_locked ∷ [];
}

abbrev pub raise_and_lower : Bound
raise_and_lower = with_rules (rule (trigger.Write 0) None (effect.Raise ∷ []) ∷ rule (trigger.Write 1) None (effect.Lower ∷ []) ∷ []) (calls 1 ∷ command.Show 2 ∷ [])

abbrev pub locked_text : List ℕ
locked_text =
    codes "call go\nW 0 1\nirq h\nW 1 0\nret none\nshow l: free\nend ok\nticks 8\nlive 3\nobj 1 u32 x1: 1\nobj 2 u32 x1: 2\nobj 3 combolock_t x1: free\n"

-- the interrupt waits for two ticks, until the lock is free
abbrev pub WaitsForLock : Type 0
WaitsForLock = printed locked raise_and_lower 100 ≡ locked_text

-- ---- each trigger and each effect: u32 hits; u32 seen;
-- void h(void){writel(0,5);} void go(void){request_irq(h); writel(8,0); seen=readl(1); seen=readl(2); writel(2,3); seen=readl(4); writel(3,3); seen=readl(4);}

abbrev pub lowers : Body
lowers = body [] ty.Void (writes 1 0 5 ∷ [])

abbrev pub goes_through : Body
goes_through = body [] ty.Void
    (requests 1 ∷ writes 2 8 0 ∷ reads 3 1 1 ∷ reads 4 1 2 ∷ writes 5 2 3 ∷ reads 6 1 4 ∷ writes 7 3 3 ∷ reads 8 1 4 ∷ [])

abbrev pub ruled : Driver
ruled = record hitting { bodies = lowers ∷ goes_through ∷ [] }

abbrev pub all_rules : List Rule
all_rules =
    rule (trigger.Write 0) None (effect.Set 1 6 ∷ effect.Clear 1 2 ∷ [])
    ∷ rule (trigger.Read 1) None (effect.Put 2 9 ∷ [])
    ∷ rule (trigger.Write 3) (when_bit 3 1) (effect.CopyTo 3 4 ∷ [])
    ∷ rule (trigger.Tick 7) None (effect.Start 0 2 ∷ [])
    ∷ rule (trigger.Zero 0) None (effect.Raise ∷ [])
    ∷ rule (trigger.Write 5) None (effect.Lower ∷ [])
    ∷ rule (trigger.Tick 11) None (effect.Raise ∷ [])
    ∷ []

abbrev pub go_and_idle : Bound
go_and_idle = with_rules all_rules (calls 1 ∷ command.Idle 3 ∷ [])

abbrev pub ruled_text : List ℕ
ruled_text =
    codes
    "call go\nW 0 8\nR 1 4\nR 2 9\nW 3 2\nR 4 0\nW 3 3\nR 4 3\nret none\nirq h\nW 5 0\nidle 3\nirq h\nW 5 0\nend ok\nticks 13\nlive 2\nobj 1 u32 x1: 0\nobj 2 u32 x1: 3\n"

-- the count-down ends in the eighth tick; the line that rises in the eleventh is seen before the next tick of the idle time
abbrev pub KeepsRules : Type 0
KeepsRules = printed ruled go_and_idle 100 ≡ ruled_text

abbrev pub idle_cut_text : List ℕ
idle_cut_text =
    codes "call go\nW 0 8\nR 1 4\nR 2 9\nW 3 2\nR 4 0\nW 3 3\nR 4 3\nret none\nirq h\nW 5 0\nidle 3\nstop Ticks at -\nticks 10\nlive 2\nobj 1 u32 x1: 0\nobj 2 u32 x1: 3\n"

-- where no code runs, a stop has no place
abbrev pub CutsIdle : Type 0
CutsIdle = printed ruled go_and_idle 10 ≡ idle_cut_text

-- ---- texts and bytes: u8 bytes[3] = {65, 10, 200}; void go(void){printk("a\\%u\n", 7u); deliver(bytes, 3);}

abbrev pub byte : ℕ → Value
byte n = value.Int U8 (pos n)

abbrev pub talks : Body
talks = body [] ty.Void
    (Code.Call 1 Goal.Nowhere (record { callee = Called.Service 6; args = number 7 ∷ []; shape = None; format = Some (codes "a\\%u\n") })
    ∷ serves 2 9 (Term.Decay (Lvalue.Global 0) ∷ number 3 ∷ [])
    ∷ [])

abbrev pub talking : Driver
talking = record {
  struct = node;
  pointer = node_pointer;
  globals = record { name = codes "bytes"; ty = ty.Int U8; count = 3; array = true; ann = Single; init = byte 65 ∷ byte 10 ∷ byte 200 ∷ [] } ∷ [];
  funcs = named (codes "go") ∷ [];
  bodies = talks ∷ [];
}

abbrev pub talk_and_show : Bound
talk_and_show = with_rules [] (calls 0 ∷ command.Show 0 ∷ [])

abbrev pub talking_text : List ℕ
talking_text = codes "call go\nlog a\\\\7\\n\ndeliver 410ac8\nret none\nshow bytes: 65 10 200\nend ok\nticks 2\nlive 1\nobj 1 u8 x3: 65 10 200\n"

abbrev pub TellsTexts : Type 0
TellsTexts = printed talking talk_and_show 100 ≡ talking_text
