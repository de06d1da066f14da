-- for proofs
-- Each stop that a service comes to, and what services give, shown by runs of one function.
use Rattle.std.specs.Prelude.{◌≡◌, ℕ, true, false, List, [], ◌∷◌, codes, pos, negsuc, Some, Ok}
use Rattle.mdr_core.specs.declared.kind.Kind.TheVariants.{U8, U64, S32}
use Rattle.mdr_core.specs.declared.program.StructDef.{StructDef}
use Rattle.mdr_core.specs.declared.stop.StopKind.{StopKind}
use Rattle.mdr_core.specs.declared.stop.StopKind.TheVariants as stop
use Rattle.mdr_core.specs.declared.types.Ann.TheVariants.{Single}
use Rattle.mdr_core.specs.declared.types.Ty.{Ty}
use Rattle.mdr_core.specs.declared.types.Ty.TheVariants as ty
use Rattle.mdr_core.specs.declared.value.LockState.TheVariants.{Free, Spin, Sleep}
use Rattle.mdr_core.specs.declared.value.Value.{Value}
use Rattle.mdr_core.specs.declared.value.Value.TheVariants as value
use Rattle.mdr_core.specs.Code.{Term, Lvalue, Code}
use Rattle.mdr_meaning.specs.declared.wire.Wire.{Wire}
use Rattle.mdr_meaning.specs.declared.wire.Wire.TheVariants as wire
use Rattle.mdr_meaning.specs.Worked.{at_stmt, body, field, glob, int, node_pointer, number, s32, u32, w32}
use Rattle.mdr_model.specs.declared.outcome.End.{End}
use Rattle.mdr_model.specs.declared.outcome.End.TheVariants as ends
use Rattle.mdr_bound.specs.declared.bound.Bound.{Bound}
use Rattle.mdr_plain.specs.Locks.{acquired, released, taken_as}
use Rattle.mdr_plain.specs.Plain.{plain_of}
use Rattle.mdr_plain.specs.Scripts.{Finish, block_cells}
use Rattle.mdr_plain.specs.Worked.{Driver, allocates, calls, just, named, of_type, program_of, serves, serves_into, side_of, zero_u32}

-- ---- statements over five globals: struct box {combolock_t l; u32 v;};  u32 g; combolock_t l; u8 bytes[3]; void *p; s32 r;

abbrev pub box : StructDef
box = record { name = codes "box"; fields = field ty.Lock ∷ field u32 ∷ [] }

abbrev pub zero_u8 : Value
zero_u8 = value.Int U8 (pos 0)

abbrev pub doing : List Code → Driver
doing cs = record {
  struct = box;
  pointer = node_pointer;
  globals =
      of_type u32 (zero_u32 ∷ [])
      ∷ of_type ty.Lock (value.Lock Free ∷ [])
      ∷ record { name = []; ty = ty.Int U8; count = 3; array = true; ann = Single; init = zero_u8 ∷ zero_u8 ∷ zero_u8 ∷ [] }
      ∷ of_type ty.VoidPtr (value.Null ∷ [])
      ∷ of_type s32 (value.Int S32 (pos 0) ∷ [])
      ∷ [];
  funcs = named (codes "f") ∷ [];
  bodies = body [] ty.Void cs ∷ [];
}

abbrev pub one_call : Bound
one_call = just (calls 0 ∷ [])

abbrev pub second_fails : Bound
second_fails = record { words = []; rules = []; fails = 2 ∷ []; commands = calls 0 ∷ [] }

abbrev pub done_by : Bound → List Code → Finish
done_by script cs = plain_of (program_of (doing cs)) (side_of (doing cs)) script 20

abbrev pub end_of : List Code → End
end_of cs = (done_by one_call cs).end

-- what a global holds then
abbrev pub left_in : (global : ℕ) → Bound → List Code → List Wire
left_in g script cs = block_cells (done_by script cs).world.memory g

abbrev pub stops_at : StopKind → (statement : ℕ) → End
stops_at kind n = ends.Stop kind (Some (at_stmt 0 n))

abbrev pub null : Term
null = Term.Lit value.Null

-- `&l`, and the place behind it
abbrev pub lock : Term
lock = Term.Addr (Lvalue.Global 1)

abbrev pub behind_lock : Term
behind_lock = Term.Move false lock (int 1)

-- `bytes`, and the place behind its last element
abbrev pub bytes : Term
bytes = Term.Decay (Lvalue.Global 2)

abbrev pub behind_bytes : Term
behind_bytes = Term.Move false bytes (int 3)

-- `p`, and the lock of what it points to
abbrev pub pointer : Lvalue
pointer = Lvalue.Global 3

abbrev pub inner_lock : Term
inner_lock = Term.Addr (Lvalue.Member (Lvalue.Deref (glob 3)) 0)

abbrev pub long : ℕ → Term
long n = Term.Lit (value.Int U64 (pos n))

-- `combolock(l)`, `combounlock(l)`, `kfree(p)`, `p = kzalloc(struct box)`, `p = kcalloc(n, T)`
abbrev pub takes : (number : ℕ) → Term → Code
takes n l = serves n 10 (l ∷ [])

abbrev pub frees_lock : (number : ℕ) → Term → Code
frees_lock n l = serves n 11 (l ∷ [])

abbrev pub frees : (number : ℕ) → Term → Code
frees n p = serves n 3 (p ∷ [])

abbrev pub makes_box : (number : ℕ) → Code
makes_box n = allocates n 1 pointer (ty.Struct 0) []

abbrev pub makes_many : (number count : ℕ) → Ty → Code
makes_many n count t = allocates n 2 pointer t (long count ∷ [])

-- `r = request_irq(f)`
abbrev pub requests : (number : ℕ) → Code
requests n = serves_into n 7 (Lvalue.Global 4) (Term.Lit (value.Fn 0) ∷ [])

-- ---- stops

pub record ServicesStop : Type 0 where
  pub null_lock : end_of (takes 1 null ∷ []) ≡ stops_at stop.Null 1
  pub lock_behind : end_of (takes 1 behind_lock ∷ []) ≡ stops_at stop.Bounds 1
  pub lock_held : end_of (takes 1 lock ∷ takes 2 lock ∷ []) ≡ stops_at stop.LockHeld 2
  pub lock_free : end_of (frees_lock 1 lock ∷ []) ≡ stops_at stop.LockFree 1
  pub lock_twice : end_of (takes 1 lock ∷ frees_lock 2 lock ∷ takes 3 lock ∷ frees_lock 4 lock ∷ []) ≡ ends.Ok
  -- what isn't at the first cell of a block that was allocated, and a block with a held lock
  pub global_freed : end_of (frees 1 lock ∷ []) ≡ stops_at stop.BadCall 1
  pub inside_freed : end_of (makes_many 1 2 (ty.Struct 0) ∷ frees 2 (Term.Move false (glob 3) (int 1)) ∷ []) ≡ stops_at stop.BadCall 2
  pub locked_freed : end_of (makes_box 1 ∷ takes 2 inner_lock ∷ frees 3 (glob 3) ∷ []) ≡ stops_at stop.LockHeld 3
  -- a member at cell 0 is at the first cell too
  pub member_freed : end_of (makes_box 1 ∷ frees 2 inner_lock ∷ []) ≡ ends.Ok
  pub null_freed : end_of (frees 1 null ∷ []) ≡ ends.Ok
  pub bug : end_of (serves 1 12 [] ∷ []) ≡ stops_at stop.Bug 1
  -- the device has 4,096 registers
  pub read_behind : end_of (serves 1 4 (number 4096 ∷ []) ∷ []) ≡ stops_at stop.Bounds 1
  pub written_behind : end_of (serves 1 5 (number 0 ∷ number 4096 ∷ []) ∷ []) ≡ stops_at stop.Bounds 1
  pub last_read : end_of (serves 1 4 (number 4095 ∷ []) ∷ []) ≡ ends.Ok
  -- all bytes are there, and of none at all the pointer must not be null
  pub null_delivered : end_of (serves 1 9 (null ∷ number 0 ∷ []) ∷ []) ≡ stops_at stop.Null 1
  pub too_many_delivered : end_of (serves 1 9 (bytes ∷ number 4 ∷ []) ∷ []) ≡ stops_at stop.Bounds 1
  pub none_delivered : end_of (serves 1 9 (behind_bytes ∷ number 0 ∷ []) ∷ []) ≡ ends.Ok

-- ---- what they give

pub record ServicesGive : Type 0 where
  -- a register keeps its word
  pub word : left_in 0 one_call (serves 1 5 (number 7 ∷ number 9 ∷ []) ∷ serves_into 2 4 (Lvalue.Global 0) (number 9 ∷ []) ∷ []) ≡ w32 7 ∷ []
  -- there is one handler at most
  pub first_handler : left_in 4 one_call (requests 1 ∷ []) ≡ wire.Int S32 (pos 0) ∷ []
  pub second_handler : left_in 4 one_call (requests 1 ∷ requests 2 ∷ []) ≡ wire.Int S32 (negsuc 15) ∷ []
  pub again : left_in 4 one_call (requests 1 ∷ serves 2 8 [] ∷ requests 3 ∷ []) ≡ wire.Int S32 (pos 0) ∷ []
  -- elements are counted in cells, of which a struct has two here
  pub none : left_in 3 one_call (makes_many 1 0 (ty.Struct 0) ∷ []) ≡ wire.Null ∷ []
  pub too_many : left_in 3 one_call (makes_many 1 32769 (ty.Struct 0) ∷ []) ≡ wire.Null ∷ []
  pub two : left_in 3 one_call (makes_many 1 2 (ty.Struct 0) ∷ []) ≡ wire.Ptr (record { serial = 5; first = 0; ty = 9; count = 2; index = 0 }) ∷ []
  -- allocations that give null are counted, and born are only those that don't: the second one fails
  pub counted : left_in 3 second_fails (makes_many 1 0 (ty.Struct 0) ∷ makes_box 2 ∷ []) ≡ wire.Null ∷ []
  pub third : left_in 3 second_fails (makes_many 1 0 (ty.Struct 0) ∷ makes_box 2 ∷ makes_box 3 ∷ []) ≡ wire.Ptr (record { serial = 5; first = 0; ty = 9; count = 1; index = 0 }) ∷ []
  -- a lock is born free, spins, and sleeps where a function of the user half is active
  pub spins : left_in 1 one_call (takes 1 lock ∷ []) ≡ wire.Lock Spin ∷ []
  pub sleeps : acquired (taken_as ([] ∷ [])) Free ≡ Ok Sleep
  pub freed : released Sleep ≡ Ok Free
  -- a pointer to a freed block is a dead one wherever it stands
  pub dead : left_in 3 one_call (makes_box 1 ∷ frees 2 (glob 3) ∷ []) ≡ wire.Dead ∷ []
