-- for proofs
-- A network driver worked out: which function may call which, the roots, and the halves.
use Rattle.std.specs.Prelude.{ℕ, Bool, true, false, List, [], ◌∷◌, ◌++◌, map, None, Some, codes, pos, negsuc}
use Rattle.mdr_core.specs.declared.kind.Kind.TheVariants.{U32, S32}
use Rattle.mdr_core.specs.declared.types.Ty.{Ty}
use Rattle.mdr_core.specs.declared.types.Ty.TheVariants as ty
use Rattle.mdr_core.specs.declared.types.Ann.TheVariants.{Single}
use Rattle.mdr_core.specs.declared.value.Value.TheVariants as value
use Rattle.mdr_core.specs.declared.plan.Half.TheVariants.{Kernel, User}
use Rattle.mdr_core.specs.declared.code.BinOp.TheVariants.{Add, Rem, BitAnd}
use Rattle.mdr_core.specs.declared.code.RelOp.TheVariants.{Eq, Ne, Lt}
use Rattle.mdr_core.specs.declared.program.Program.{Program}
use Rattle.mdr_core.specs.declared.program.Param.{Param}
use Rattle.mdr_core.specs.declared.program.Local.{Local}
use Rattle.mdr_core.specs.Code.{Term, Lvalue, Called, CallOf}
use Rattle.mdr_core.specs.Worked.{u32, buf_pointer, driver_types, buf, stats, card, op, global, card_zeros}
use Rattle.mdr_core.specs.Types.{first_types}
use Rattle.mdr_slice.specs.declared.halves.Halves.{Halves}
use Rattle.mdr_slice.specs.Graph.{AreCallees, AreRoots}
use Rattle.mdr_slice.specs.Halves.{AreHalves}
use Rattle.mdr_slice.specs.Written.{WrittenFunc, func_of, declare, assign, calling, call_into, branch, while_loop, for_loop, gives}

-- ---- words

abbrev pub number : ℕ → Term
number n = Term.Lit (value.Int U32 (pos n))

abbrev pub code : ℕ → Term
code n = Term.Lit (value.Int S32 (pos n))

-- the constant -1 - n
abbrev pub refusal : ℕ → Term
refusal n = Term.Lit (value.Int S32 (negsuc n))

abbrev pub local : ℕ → Term
local i = Term.Load (Lvalue.Slot i)

abbrev pub s32 : Ty
s32 = ty.Int S32

abbrev pub param : List ℕ → Ty → Param
param name type = record { name = name; ty = type; ann = Single; object = false }

abbrev pub variable : List ℕ → Ty → Local
variable name type = record { name = name; ty = type; count = 1; array = false; object = false }

-- a call of a service, by its number
abbrev pub service : ℕ → List Term → CallOf
service n args = record { callee = Called.Service n; args = args; shape = None; format = None }

abbrev pub op_pointer : Ty
op_pointer = ty.Ptr (ty.Struct 3)

-- a field of `card`, of `card.st`, and of what a local points to
abbrev pub of_card : ℕ → Lvalue
of_card f = Lvalue.Member (Lvalue.Global 0) f

abbrev pub of_stats : ℕ → Lvalue
of_stats f = Lvalue.Member (of_card 2) f

abbrev pub behind : ℕ → ℕ → Lvalue
behind i f = Lvalue.Member (Lvalue.Deref (local i)) f

abbrev pub add : Lvalue → Term → Term
add p e = Term.Bin Add U32 (Term.Load p) e

-- ---- the functions

-- void nic_irq(void) { u32 s; s = readl(1); if (s & 1) card.st.sent += 1; if (s & 2) card.st.errors += 1; writel(0, 1); }
abbrev pub nic_irq : WrittenFunc
nic_irq = record {
  name = codes "nic_irq";
  params = [];
  result = ty.Void;
  locals = variable (codes "s") u32 ∷ [];
  critical = false;
  lines =
      declare 1 0
      ∷ call_into 2 (Lvalue.Slot 0) (service 4 (number 1 ∷ []))
      ∷ branch 3 (Term.Bin BitAnd U32 (local 0) (number 1)) (assign 4 (of_stats 0) (add (of_stats 0) (number 1)) ∷ []) []
      ∷ branch 5 (Term.Bin BitAnd U32 (local 0) (number 2)) (assign 6 (of_stats 2) (add (of_stats 2) (number 1)) ∷ []) []
      ∷ calling 7 (service 5 (number 0 ∷ number 1 ∷ []))
      ∷ [];
}

-- s32 op_state(u32 arg) { card.state = arg; return 0; }
abbrev pub op_state : WrittenFunc
op_state = record {
  name = codes "op_state";
  params = param (codes "arg") u32 ∷ [];
  result = s32;
  locals = [];
  critical = false;
  lines = assign 1 (of_card 1) (local 0) ∷ gives 2 (code 0) ∷ [];
}

-- s32 op_reset(u32 arg) { card.st.sent = 0; card.st.errors = arg; return 0; }
abbrev pub op_reset : WrittenFunc
op_reset = record {
  name = codes "op_reset";
  params = param (codes "arg") u32 ∷ [];
  result = s32;
  locals = [];
  critical = false;
  lines = assign 1 (of_stats 0) (number 0) ∷ assign 2 (of_stats 2) (local 0) ∷ gives 3 (code 0) ∷ [];
}

-- s32 nic_probe(void) {
--   u32 i; struct buf *b; s32 err;
--   for (i = 0; i < 4; i += 1) { b = kzalloc(struct buf); if (!b) return -12; b->len = i + 1; card.ring[i] = b; }
--   err = request_irq(nic_irq); if (err) return err;
--   printk(KERN_INFO "nic: %u buffers\n", i);
--   return 0; }
abbrev pub nic_probe : WrittenFunc
nic_probe = record {
  name = codes "nic_probe";
  params = [];
  result = s32;
  locals = variable (codes "i") u32 ∷ variable (codes "b") buf_pointer ∷ variable (codes "err") s32 ∷ [];
  critical = false;
  lines =
      declare 1 0
      ∷ declare 2 1
      ∷ declare 3 2
      ∷ for_loop 4
      (assign 5 (Lvalue.Slot 0) (number 0) ∷ [])
      (Term.Rel Lt (local 0) (number 4))
      (assign 6 (Lvalue.Slot 0) (add (Lvalue.Slot 0) (number 1)) ∷ [])
      (call_into 7 (Lvalue.Slot 1) (record { callee = Called.Service 1; args = []; shape = Some (ty.Struct 0); format = None })
      ∷ branch 8 (Term.Not (local 1)) (gives 9 (refusal 11) ∷ []) []
      ∷ assign 10 (behind 1 0) (add (Lvalue.Slot 0) (number 1))
      ∷ assign 11 (Lvalue.Index (of_card 3) (local 0)) (local 1)
      ∷ [])
      ∷ call_into 12 (Lvalue.Slot 2) (service 7 (Term.Lit (value.Fn 0) ∷ []))
      ∷ branch 13 (local 2) (gives 14 (local 2) ∷ []) []
      ∷ calling 15 (record { callee = Called.Service 6; args = local 0 ∷ []; shape = None; format = Some (codes "nic: %u buffers\n") })
      ∷ gives 16 (code 0)
      ∷ [];
}

-- s32 nic_open(void) { card.state = 2; writel(1, 0); return 0; }
abbrev pub nic_open : WrittenFunc
nic_open = record {
  name = codes "nic_open";
  params = [];
  result = s32;
  locals = [];
  critical = false;
  lines = assign 1 (of_card 1) (number 2) ∷ calling 2 (service 5 (number 1 ∷ number 0 ∷ [])) ∷ gives 3 (code 0) ∷ [];
}

-- __critical s32 nic_transmit(u32 len) {
--   struct buf *b;
--   combolock(&card.lock);
--   if (card.state != 2) { combounlock(&card.lock); return -100; }
--   b = card.ring[card.head]; b->len = len; card.head = (card.head + 1) % 4;
--   writel(len, 2); combounlock(&card.lock); return 0; }
abbrev pub nic_transmit : WrittenFunc
nic_transmit = record {
  name = codes "nic_transmit";
  params = param (codes "len") u32 ∷ [];
  result = s32;
  locals = variable (codes "b") buf_pointer ∷ [];
  critical = true;
  lines =
      declare 1 1
      ∷ calling 2 (service 10 (Term.Addr (of_card 0) ∷ []))
      ∷ branch 3 (Term.Rel Ne (Term.Load (of_card 1)) (number 2)) (calling 4 (service 11 (Term.Addr (of_card 0) ∷ [])) ∷ gives 5 (refusal 99) ∷ []) []
      ∷ assign 6 (Lvalue.Slot 1) (Term.Load (Lvalue.Index (of_card 3) (Term.Load (of_card 4))))
      ∷ assign 7 (behind 1 0) (local 0)
      ∷ assign 8 (of_card 4) (Term.Bin Rem U32 (add (of_card 4) (number 1)) (number 4))
      ∷ calling 9 (service 5 (local 0 ∷ number 2 ∷ []))
      ∷ calling 10 (service 11 (Term.Addr (of_card 0) ∷ []))
      ∷ gives 11 (code 0)
      ∷ [];
}

-- `o->run(arg)`
abbrev pub run_of_op : CallOf
run_of_op = record { callee = Called.Through (Term.Load (behind 2 1)); args = local 1 ∷ []; shape = None; format = None }

-- s32 nic_ioctl(u32 code, u32 arg) {
--   struct op *o; s32 r;
--   o = ops;
--   while (o->code) { if (o->code == code) { r = o->run(arg); return r; } o += 1; }
--   return -25; }
abbrev pub nic_ioctl : WrittenFunc
nic_ioctl = record {
  name = codes "nic_ioctl";
  params = param (codes "code") u32 ∷ param (codes "arg") u32 ∷ [];
  result = s32;
  locals = variable (codes "o") op_pointer ∷ variable (codes "r") s32 ∷ [];
  critical = false;
  lines =
      declare 1 2
      ∷ declare 2 3
      ∷ assign 3 (Lvalue.Slot 2) (Term.Decay (Lvalue.Global 1))
      ∷ while_loop 4 (Term.Load (behind 2 0))
      (branch 5 (Term.Rel Eq (Term.Load (behind 2 0)) (local 0)) (call_into 6 (Lvalue.Slot 3) run_of_op ∷ gives 7 (local 3) ∷ []) []
      ∷ assign 8 (Lvalue.Slot 2) (Term.Move false (local 2) (code 1))
      ∷ [])
      ∷ gives 9 (refusal 24)
      ∷ [];
}

-- s32 nic_total(void) {
--   u32 i; u32 t; struct buf *b;
--   t = 0;
--   for (i = 0; i < 4; i += 1) { b = card.ring[i]; t += b->len; }
--   return t; }
abbrev pub nic_total : WrittenFunc
nic_total = record {
  name = codes "nic_total";
  params = [];
  result = s32;
  locals = variable (codes "i") u32 ∷ variable (codes "t") u32 ∷ variable (codes "b") buf_pointer ∷ [];
  critical = false;
  lines =
      declare 1 0
      ∷ declare 2 1
      ∷ declare 3 2
      ∷ assign 4 (Lvalue.Slot 1) (number 0)
      ∷ for_loop 5
      (assign 6 (Lvalue.Slot 0) (number 0) ∷ [])
      (Term.Rel Lt (local 0) (number 4))
      (assign 7 (Lvalue.Slot 0) (add (Lvalue.Slot 0) (number 1)) ∷ [])
      (assign 8 (Lvalue.Slot 2) (Term.Load (Lvalue.Index (of_card 3) (local 0)))
      ∷ assign 9 (Lvalue.Slot 1) (add (Lvalue.Slot 1) (Term.Load (behind 2 0)))
      ∷ [])
      ∷ gives 10 (Term.Conv S32 (local 1))
      ∷ [];
}

abbrev pub nic_funcs : List WrittenFunc
nic_funcs = nic_irq ∷ op_state ∷ op_reset ∷ nic_probe ∷ nic_open ∷ nic_transmit ∷ nic_ioctl ∷ nic_total ∷ []

-- struct card card; struct op ops[3] = { {1, op_state}, {2, op_reset}, {0, NULL} };
abbrev pub nic : Program
nic = record {
  types = first_types ++ (driver_types ++ (op_pointer ∷ []));
  structs = buf ∷ stats ∷ card ∷ op ∷ [];
  globals =
      global (codes "card") (ty.Struct 2) 1 false card_zeros
      ∷ global (codes "ops") (ty.Struct 3) 3 true
      (value.Int U32 (pos 1) ∷ value.Fn 1 ∷ value.Int U32 (pos 2) ∷ value.Fn 2 ∷ value.Int U32 (pos 0) ∷ value.Null ∷ [])
      ∷ [];
  funcs = map func_of nic_funcs;
}

-- ---- what the definitions say of it

-- `nic_ioctl` calls through a pointer to functions of the type of `op_state` and `op_reset`, whose addresses `ops` has
abbrev pub nic_callees : List (List ℕ)
nic_callees = [] ∷ [] ∷ [] ∷ [] ∷ [] ∷ [] ∷ (1 ∷ 2 ∷ []) ∷ [] ∷ []

-- `request_irq` is given `nic_irq`; `nic_transmit` is marked
abbrev pub nic_roots : List ℕ
nic_roots = 0 ∷ 5 ∷ []

abbrev pub nic_halves : Halves
nic_halves = record {
  halves = Kernel ∷ User ∷ User ∷ User ∷ User ∷ Kernel ∷ User ∷ User ∷ [];
  roots = true ∷ false ∷ false ∷ false ∷ false ∷ true ∷ false ∷ false ∷ [];
  down = false ∷ false ∷ false ∷ false ∷ false ∷ false ∷ false ∷ false ∷ [];
}

pub record NetworkDriverIsCut : Type 0 where
  pub calls : (kernel_calls : Bool) → AreCallees nic kernel_calls nic_callees
  pub roots : AreRoots nic nic_roots
  pub halves : AreHalves nic nic_roots nic_halves

-- ---- a cycle of calls across the halves' border

-- __critical void poll(void) { kcall(hook); }
abbrev pub poll : WrittenFunc
poll = record { name = codes "poll"; params = []; result = ty.Void; locals = []; critical = true; lines = calling 1 (service 15 (Term.Lit (value.Fn 1) ∷ [])) ∷ [] }

abbrev pub poll_again : CallOf
poll_again = record { callee = Called.Direct 0; args = []; shape = None; format = None }

-- void hook(void) { poll(); }
abbrev pub hook : WrittenFunc
hook = record { name = codes "hook"; params = []; result = ty.Void; locals = []; critical = false; lines = calling 1 poll_again ∷ [] }

abbrev pub cycle : Program
cycle = record { types = first_types; structs = []; globals = []; funcs = map func_of (poll ∷ hook ∷ []) }

-- the kernel half calls back: that is a call of the graph, and draws nothing into the kernel half. `hook` calls down
pub record CycleIsCut : Type 0 where
  pub calls : AreCallees cycle true ((1 ∷ []) ∷ (0 ∷ []) ∷ [])
  pub without : AreCallees cycle false ([] ∷ (0 ∷ []) ∷ [])
  pub roots : AreRoots cycle (0 ∷ [])
  pub halves : AreHalves cycle (0 ∷ []) (record { halves = Kernel ∷ User ∷ []; roots = true ∷ false ∷ []; down = true ∷ false ∷ [] })
