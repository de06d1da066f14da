-- for proofs
-- Small drivers in two halves, worked out: where their watched runs and their plain runs are told apart, and where not.
use Rattle.std.specs.Prelude.{◌≡◌, List, true, false, [], ◌∷◌, ◌++◌, codes, Some, None}
use Rattle.mdr_core.specs.declared.plan.Key.TheVariants as key
use Rattle.mdr_core.specs.declared.stop.StopKind.TheVariants as stop
use Rattle.mdr_core.specs.declared.types.Ann.TheVariants.{Single}
use Rattle.mdr_core.specs.declared.types.Ty.{Ty}
use Rattle.mdr_core.specs.declared.types.Ty.TheVariants as ty
use Rattle.mdr_core.specs.declared.value.LockState.TheVariants.{Free, Spin, Sleep}
use Rattle.mdr_core.specs.declared.value.Value.TheVariants as value
use Rattle.mdr_core.specs.Code.{Term, Lvalue, Called, Goal, Code, Codes}
use Rattle.mdr_meaning.specs.Sides.{Body}
use Rattle.mdr_meaning.specs.Worked.{at_stmt, behind, body, form, local, node, node_pointer, number, object, param, u32, var}
use Rattle.mdr_model.specs.declared.command.Command.TheVariants as command
use Rattle.mdr_model.specs.declared.outcome.End.TheVariants as ends
use Rattle.mdr_plain.specs.declared.outcome.Happened.TheVariants as happened
use Rattle.mdr_plain.specs.Plain.{plain_of}
use Rattle.mdr_plain.specs.Scripts.{Finish}
use Rattle.mdr_plain.specs.Worked.{Driver as Written, calls, global_named, just, named, program_of, serves, side_of, zero_u32}
use Rattle.mdr_plain.specs.WorkedInterrupts.{sets}
use Rattle.mdr_plain.specs.WorkedRuns.{setup_and_take}
use Rattle.mdr_bound.specs.declared.bound.Bound.{Bound}
use Rattle.mdr_watched.specs.Driver.{Driver}
use Rattle.mdr_watched.specs.Kept.{followed_of}
use Rattle.mdr_watched.specs.Worked.{aliases, arrays, began, cut, objects, param_of, returned, setup_then}
use Rattle.mdr_kept.specs.Strict.{strict_of}

-- ---- a call back: u32 n; void fire(void){kcall(done,7);} void done(u32 x){n=x;}, where `done` is of the user half

abbrev pub fires : List Code → Body
fires before = body [] ty.Void (before ++ serves 2 15 (Term.Lit (value.Fn 1) ∷ number 7 ∷ []) ∷ [])

abbrev pub keeps_it : Body
keeps_it = body (param u32 ∷ []) ty.Void (sets 1 1 (var 0) ∷ [])

-- with a lock, and with code before the call
abbrev pub firing : List Code → Written
firing before = record {
  struct = node;
  pointer = node_pointer;
  globals = global_named (codes "l") ty.Lock (value.Lock Free ∷ []) ∷ global_named (codes "n") u32 (zero_u32 ∷ []) ∷ [];
  funcs = named (codes "fire") ∷ record (named (codes "done")) { params = param_of u32 Single ∷ [] } ∷ [];
  bodies = fires before ∷ keeps_it ∷ [];
}

abbrev pub calling_back : List Code → Driver
calling_back before = cut (firing before) (false ∷ true ∷ []) ([] ∷ (key.Global 1 ∷ []) ∷ [])

abbrev pub fire : Bound
fire = just (calls 0 ∷ [])

-- ---- runs that are not told apart

-- in two of them user code follows pointers and touches what it was led to, in the third it makes an object of a local and passes its address, and in the last kernel code calls it back
pub record AreStrict : Type 0 where
  pub alias : (strict_of aliases setup_and_take 100).end ≡ ends.Ok
  pub array : (strict_of arrays (setup_then 4 1) 100).end ≡ ends.Ok
  pub object : (strict_of objects (just (calls 1 ∷ [])) 100).end ≡ ends.Ok
  pub back : (strict_of (calling_back []) fire 100).end ≡ ends.Ok

-- ---- a lock: combolock_t l; void take(void){combolock(&l);}

abbrev pub takes : Body
takes = body [] ty.Void (serves 1 10 (Term.Addr (Lvalue.Global 0) ∷ []) ∷ [])

abbrev pub locking : Written
locking = record {
  struct = node;
  pointer = node_pointer;
  globals = global_named (codes "l") ty.Lock (value.Lock Free ∷ []) ∷ [];
  funcs = named (codes "take") ∷ [];
  bodies = takes ∷ [];
}

abbrev pub take_and_show : Bound
take_and_show = just (calls 0 ∷ command.Show 0 ∷ [])

abbrev pub plainly : Written → Bound → Finish
plainly d script = plain_of (program_of d) (side_of d) script 100

-- user code takes it, and it sleeps; in the plain run it spins. `show` notes which, and both are printed as held
pub record TellsLocks : Type 0 where
  pub strict : (strict_of (cut locking (true ∷ []) ([] ∷ [])) take_and_show 100).end ≡ ends.Ok
  pub kept : (followed_of (cut locking (true ∷ []) ([] ∷ [])) take_and_show 100).end ≡ ends.Ok
  pub followed : (followed_of (cut locking (true ∷ []) ([] ∷ [])) take_and_show 100).world.kept.events ≡ began (codes "take") [] ∷ returned ∷ happened.Show (codes "l") (value.Lock Sleep ∷ []) ∷ []
  pub plain : (plainly locking take_and_show).world.kept.events ≡ began (codes "take") [] ∷ returned ∷ happened.Show (codes "l") (value.Lock Spin ∷ []) ∷ []

-- ---- kernel code takes the lock before it calls user code back: void fire(void){combolock(&l); kcall(done,7);}

abbrev pub takes_it : List Code
takes_it = serves 1 10 (Term.Addr (Lvalue.Global 0) ∷ []) ∷ []

-- the lock spins, so that the call back ends the run; in the plain run it is a call as any other
pub record TellsCallsBack : Type 0 where
  pub strict : (strict_of (calling_back takes_it) fire 100).end ≡ ends.Stop stop.Atomic (Some (at_stmt 0 2))
  pub kept : (followed_of (calling_back takes_it) fire 100).end ≡ ends.Stop stop.Atomic (Some (at_stmt 0 2))
  pub plain : (plainly (firing takes_it) fire).end ≡ ends.Ok

-- ---- a dead result: void *give(void){u32 x; return &x;} void use(void){struct node *q; u32 v; q=give(); v=q->v;}

abbrev pub gives : Body
gives = body (object u32 ∷ []) ty.VoidPtr (Code.Declare 1 0 ∷ Code.Return 2 (Some (Term.ToVoid (Term.Addr (Lvalue.Object 0)))) ∷ [])

-- the result is converted, and followed or not
abbrev pub uses_as : Ty → List Code → Body
uses_as t more = body (local t ∷ local u32 ∷ []) ty.Void (Code.Declare 1 0 ∷ Code.Declare 2 1 ∷ Code.Call 3 (Goal.Into (Lvalue.Slot 0)) (form (Called.Direct 0) []) ∷ more)

abbrev pub reads_it : List Code
reads_it = Code.Assign 4 (Lvalue.Slot 1) (Term.Load (behind 0 0)) ∷ []

abbrev pub giving : List Code → Written
giving more = record {
  struct = node;
  pointer = node_pointer;
  globals = [];
  funcs = record (named (codes "give")) { result = ty.VoidPtr } ∷ named (codes "use") ∷ [];
  bodies = gives ∷ uses_as node_pointer more ∷ [];
}

abbrev pub used : Bound
used = just (calls 1 ∷ [])

-- user code that gets it from the kernel half
abbrev pub divided : Written → Driver
divided d = cut d (false ∷ true ∷ []) ([] ∷ [] ∷ [])

abbrev pub apart : Written → Finish
apart d = followed_of (divided d) used 100

-- the address of a function's own object is dead where it arrives, in place as across the halves: it converts to any type, and stops where it is followed
pub record DeadResultsAreAlike : Type 0 where
  pub strict : (strict_of (divided (giving [])) used 100).end ≡ ends.Ok
  pub kept : (apart (giving [])).end ≡ ends.Ok
  pub plain : (plainly (giving []) used).end ≡ ends.Ok
  pub kept_followed : (apart (giving reads_it)).end ≡ ends.Stop stop.Dead (Some (at_stmt 1 4))
  pub plain_followed : (plainly (giving reads_it) used).end ≡ ends.Stop stop.Dead (Some (at_stmt 1 4))

-- ---- an object that is named behind its block, as no source does: void *give(void){{u32 x;} return &x;}

abbrev pub gives_left : Body
gives_left = body (object u32 ∷ []) ty.VoidPtr (Code.Block (Codes.Then (Code.Declare 1 0) Codes.End) ∷ Code.Return 2 (Some (Term.ToVoid (Term.Addr (Lvalue.Object 0)))) ∷ [])

abbrev pub leaving : Ty → Written
leaving t = record (giving []) { bodies = gives_left ∷ uses_as t [] ∷ [] }

-- the object died before its function ended, so that its address is dead across the halves alone. The strict run ends there
pub record TellsLeftObjects : Type 0 where
  pub kept : (apart (leaving node_pointer)).end ≡ ends.Ok
  pub plain : (plainly (leaving node_pointer) used).end ≡ ends.Stop stop.BadCast (Some (at_stmt 1 3))
  pub strict : (strict_of (divided (leaving node_pointer)) used 100).end ≡ ends.Stop stop.Annotation None
