-- for proofs
-- A network driver worked out on one memory: the report of its script.
use Rattle.std.specs.Prelude.{◌≡◌, ℕ, ◌+◌, true, false, List, [], ◌∷◌, ◌++◌, codes, pos, negsuc, Some, None, slice_get}
use Rattle.mdr_core.specs.declared.kind.Kind.TheVariants.{U32, S32}
use Rattle.mdr_core.specs.declared.program.Program.{Program}
use Rattle.mdr_core.specs.declared.types.Ty.{Ty, out-Ty}
use Rattle.mdr_core.specs.declared.types.Ty.TheOpen.{Ty-F}
use Rattle.mdr_core.specs.declared.types.Ty.TheVariants as ty
use Rattle.mdr_core.specs.declared.value.Value.{Value}
use Rattle.mdr_core.specs.declared.value.Value.TheVariants as value
use Rattle.mdr_core.specs.declared.code.BinOp.TheVariants.{Rem, BitAnd}
use Rattle.mdr_core.specs.declared.code.RelOp.TheVariants.{Eq, Ne, Lt}
use Rattle.mdr_core.specs.Code.{Term, Lvalue, Called, Goal, Code, Codes}
use Rattle.mdr_core.specs.Kinds.{kind_number}
use Rattle.mdr_core.specs.Types.{first_types}
use Rattle.mdr_core.specs.Worked.{buf, buf_pointer, card, card_zeros, driver_types, global, op, stats}
use Rattle.mdr_device.specs.declared.rule.Effect.TheVariants as effect
use Rattle.mdr_device.specs.declared.rule.Rule.{Rule}
use Rattle.mdr_device.specs.declared.rule.Trigger.TheVariants as trigger
use Rattle.mdr_device.specs.Worked.{rule}
use Rattle.mdr_meaning.specs.Bodies.{without_funcs}
use Rattle.mdr_meaning.specs.Sides.{Body, Side}
use Rattle.mdr_meaning.specs.Worked.{add, behind, body, code, form, int, local, number, param, s32, side_by, u32, var}
use Rattle.mdr_model.specs.declared.command.Command.{Command}
use Rattle.mdr_model.specs.declared.command.Command.TheVariants as command
use Rattle.mdr_bound.specs.declared.bound.Bound.{Bound}
use Rattle.mdr_plain.specs.declared.outcome.Outcome.{Outcome}
use Rattle.mdr_plain.specs.Outcome.{outcome_of}
use Rattle.mdr_plain.specs.Plain.{plain_of}
use Rattle.mdr_plain.specs.Report.{report}
use Rattle.mdr_plain.specs.Worked.{allocates, named, serves, serves_into}

-- ---- words

-- parts of `card`, and an element of its ring
abbrev pub of_card : (field : ℕ) → Lvalue
of_card f = Lvalue.Member (Lvalue.Global 0) f

abbrev pub of_stats : (field : ℕ) → Lvalue
of_stats f = Lvalue.Member (of_card 2) f

abbrev pub ring_at : Term → Lvalue
ring_at i = Lvalue.Index (of_card 3) i

abbrev pub lock : Term
lock = Term.Addr (of_card 0)

abbrev pub returns : (number : ℕ) → Term → Code
returns n e = Code.Return n (Some e)

abbrev pub minus : ℕ → Term
minus n = Term.Lit (value.Int S32 (negsuc n))

-- a field is one more
abbrev pub counts : (number : ℕ) → Lvalue → Code
counts n p = Code.Assign n p (add (Term.Load p) (number 1))

-- for (i = 0; i < 4; i += 1) with i in a slot
abbrev pub four_times : (number slot : ℕ) → List Code → Code
four_times n i cs =
    Code.Block
    (code
    (Code.Assign n (Lvalue.Slot i) (number 0)
    ∷ Code.Loop n (Term.Rel Lt (var i) (number 4)) (code (Code.Assign n (Lvalue.Slot i) (add (var i) (number 1)) ∷ [])) (code cs)
    ∷ []))

-- ---- the driver

-- u32 s; s = readl(STATUS); if (s & 1) card.st.sent += 1; if (s & 2) card.st.errors += 1; writel(0, STATUS);
abbrev pub nic_irq : Body
nic_irq = body (local u32 ∷ []) ty.Void
    (Code.Declare 1 0
    ∷ serves_into 2 4 (Lvalue.Slot 0) (number 1 ∷ [])
    ∷ Code.If 3 (Term.Bin BitAnd U32 (var 0) (number 1)) (code (counts 4 (of_stats 0) ∷ [])) Codes.End
    ∷ Code.If 5 (Term.Bin BitAnd U32 (var 0) (number 2)) (code (counts 6 (of_stats 2) ∷ [])) Codes.End
    ∷ serves 7 5 (number 0 ∷ number 1 ∷ [])
    ∷ [])

-- card.state = arg; return 0;
abbrev pub op_state : Body
op_state = body (param u32 ∷ []) s32 (Code.Assign 1 (of_card 1) (var 0) ∷ returns 2 (int 0) ∷ [])

-- card.st.sent = 0; card.st.errors = arg; return 0;
abbrev pub op_reset : Body
op_reset = body (param u32 ∷ []) s32 (Code.Assign 1 (of_stats 0) (number 0) ∷ Code.Assign 2 (of_stats 2) (var 0) ∷ returns 3 (int 0) ∷ [])

-- u32 i; struct buf *b; s32 err; for (i = 0; i < RING; i += 1) { b = kzalloc(struct buf); if (!b) return -12; b->len = i + 1; card.ring[i] = b; }
-- err = request_irq(nic_irq); if (err) return err; printk(KERN_INFO "nic: %u buffers\n", i); return 0;
abbrev pub nic_probe : Body
nic_probe = body (local u32 ∷ local ty.VoidPtr ∷ local s32 ∷ []) s32
    (Code.Declare 1 0
    ∷ Code.Declare 2 1
    ∷ Code.Declare 3 2
    ∷ four_times 4 0
    (allocates 5 1 (Lvalue.Slot 1) (ty.Struct 0) []
    ∷ Code.If 6 (Term.Not (var 1)) (code (returns 7 (minus 11) ∷ [])) Codes.End
    ∷ Code.Assign 8 (behind 1 0) (add (var 0) (number 1))
    ∷ Code.Assign 9 (ring_at (var 0)) (var 1)
    ∷ [])
    ∷ serves_into 10 7 (Lvalue.Slot 2) (Term.Lit (value.Fn 0) ∷ [])
    ∷ Code.If 11 (var 2) (code (returns 12 (var 2) ∷ [])) Codes.End
    ∷ Code.Call 13 Goal.Nowhere (record { callee = Called.Service 6; args = var 0 ∷ []; shape = None; format = Some (codes "nic: %u buffers\n") })
    ∷ returns 14 (int 0)
    ∷ [])

-- card.state = UP; writel(1, 0); return 0;
abbrev pub nic_open : Body
nic_open = body [] s32 (Code.Assign 1 (of_card 1) (number 2) ∷ serves 2 5 (number 1 ∷ number 0 ∷ []) ∷ returns 3 (int 0) ∷ [])

-- struct buf *b; combolock(&card.lock); if (card.state != UP) { combounlock(&card.lock); return -100; }
-- b = card.ring[card.head]; b->len = len; card.head = (card.head + 1) % RING; writel(len, 2); combounlock(&card.lock); return 0;
abbrev pub nic_transmit : Body
nic_transmit = body (param u32 ∷ local buf_pointer ∷ []) s32
    (Code.Declare 1 1
    ∷ serves 2 10 (lock ∷ [])
    ∷ Code.If 3 (Term.Rel Ne (Term.Load (of_card 1)) (number 2)) (code (serves 4 11 (lock ∷ []) ∷ returns 5 (minus 99) ∷ [])) Codes.End
    ∷ Code.Assign 6 (Lvalue.Slot 1) (Term.Load (ring_at (Term.Load (of_card 4))))
    ∷ Code.Assign 7 (behind 1 0) (var 0)
    ∷ Code.Assign 8 (of_card 4) (Term.Bin Rem U32 (add (Term.Load (of_card 4)) (number 1)) (number 4))
    ∷ serves 9 5 (var 0 ∷ number 2 ∷ [])
    ∷ serves 10 11 (lock ∷ [])
    ∷ returns 11 (int 0)
    ∷ [])

-- struct op *o; s32 r; o = ops; while (o->code) { if (o->code == code) { r = o->run(arg); return r; } o += 1; } return -25;
abbrev pub nic_ioctl : Body
nic_ioctl = body (param u32 ∷ param u32 ∷ local ty.VoidPtr ∷ local s32 ∷ []) s32
    (Code.Declare 1 2
    ∷ Code.Declare 2 3
    ∷ Code.Assign 3 (Lvalue.Slot 2) (Term.Decay (Lvalue.Global 1))
    ∷ Code.Loop 4 (Term.Load (behind 2 0)) Codes.End
    (code
    (Code.If 5 (Term.Rel Eq (Term.Load (behind 2 0)) (var 0))
    (code (Code.Call 6 (Goal.Into (Lvalue.Slot 3)) (form (Called.Through (Term.Load (behind 2 1))) (var 1 ∷ [])) ∷ returns 7 (var 3) ∷ [])) Codes.End
    ∷ Code.Assign 8 (Lvalue.Slot 2) (Term.Move false (var 2) (int 1))
    ∷ []))
    ∷ returns 9 (minus 24)
    ∷ [])

-- u32 i; u32 t; struct buf *b; t = 0; for (i = 0; i < RING; i += 1) { b = card.ring[i]; t += b->len; } return t;
abbrev pub nic_total : Body
nic_total = body (local u32 ∷ local u32 ∷ local buf_pointer ∷ []) u32
    (Code.Declare 1 0
    ∷ Code.Declare 2 1
    ∷ Code.Declare 3 2
    ∷ Code.Assign 4 (Lvalue.Slot 1) (number 0)
    ∷ four_times 5 0 (Code.Assign 6 (Lvalue.Slot 2) (Term.Load (ring_at (var 0))) ∷ Code.Assign 7 (Lvalue.Slot 1) (add (var 1) (Term.Load (behind 2 0))) ∷ [])
    ∷ returns 8 (var 1)
    ∷ [])

abbrev pub bodies : List Body
bodies = nic_irq ∷ op_state ∷ op_reset ∷ nic_probe ∷ nic_open ∷ nic_transmit ∷ nic_ioctl ∷ nic_total ∷ []

abbrev pub first_ops : List Value
first_ops = value.Int U32 (pos 1) ∷ value.Fn 1 ∷ value.Int U32 (pos 2) ∷ value.Fn 2 ∷ value.Int U32 (pos 0) ∷ value.Null ∷ []

abbrev pub nic : Program
nic = record {
  types = first_types ++ driver_types;
  structs = buf ∷ stats ∷ card ∷ op ∷ [];
  globals = global (codes "card") (ty.Struct 2) 1 false card_zeros ∷ global (codes "ops") (ty.Struct 3) 3 true first_ops ∷ [];
  funcs =
      named (codes "nic_irq")
      ∷ named (codes "op_state")
      ∷ named (codes "op_reset")
      ∷ named (codes "nic_probe")
      ∷ named (codes "nic_open")
      ∷ named (codes "nic_transmit")
      ∷ named (codes "nic_ioctl")
      ∷ named (codes "nic_total")
      ∷ [];
}

-- the numbers in its table. To code a pointer that a call gives is a `void *`, since what a pointer's type points to doesn't compute
abbrev pub number_by : Ty-F Ty → ℕ
number_by (Ty-F.Int k) = kind_number k
number_by Ty-F.Lock = 8
number_by (Ty-F.Struct s) = 9 + s
number_by (Ty-F.Ptr t) = 14
number_by Ty-F.VoidPtr = 14
number_by (Ty-F.Fun ts) = 13
number_by Ty-F.Void = 14

abbrev pub nic_side : Side
nic_side = side_by (λ t. number_by (out-Ty t)) (without_funcs nic) (λ f. slice_get bodies f) false

-- ---- its script

abbrev pub nic_rules : List Rule
nic_rules =
    rule (trigger.Write 2) None (effect.Start 0 3 ∷ []) ∷ rule (trigger.Zero 0) None (effect.Set 1 1 ∷ effect.Raise ∷ []) ∷ rule (trigger.Write 1) None (effect.Lower ∷ []) ∷ []

abbrev pub arguments : List ℕ → List Value
arguments [] = []
arguments (n ∷ ns) = value.Int U32 (pos n) ∷ arguments ns

abbrev pub calls_with : (func : ℕ) → List ℕ → Command
calls_with f ns = command.Call f (arguments ns)

abbrev pub nic_script : Bound
nic_script = record {
  words = [];
  rules = nic_rules;
  fails = [];
  commands =
      calls_with 3 []
      ∷ calls_with 5 (60 ∷ [])
      ∷ calls_with 4 []
      ∷ calls_with 5 (60 ∷ [])
      ∷ command.Idle 10
      ∷ calls_with 5 (90 ∷ [])
      ∷ command.Idle 10
      ∷ calls_with 7 []
      ∷ calls_with 6 (1 ∷ 0 ∷ [])
      ∷ calls_with 5 (7 ∷ [])
      ∷ calls_with 6 (2 ∷ 5 ∷ [])
      ∷ calls_with 6 (9 ∷ 0 ∷ [])
      ∷ command.Show 0
      ∷ [];
}

-- ---- its report

abbrev pub nic_shown : Outcome
nic_shown = outcome_of nic (plain_of nic nic_side nic_script 1000)

abbrev pub nic_text : List ℕ
nic_text =
    codes "call nic_probe\nlog nic: 4 buffers\\n\nret 0\ncall nic_transmit 60\nret -100\ncall nic_open\nW 0 1\nret 0\ncall nic_transmit 60\nW 2 60\nret 0\n"
    ++ (codes "idle 10\nirq nic_irq\nR 1 1\nW 1 0\ncall nic_transmit 90\nW 2 90\nret 0\nidle 10\nirq nic_irq\nR 1 1\nW 1 0\ncall nic_total\nret 157\n"
    ++ (codes "call nic_ioctl 1 0\nret 0\ncall nic_transmit 7\nret -100\ncall nic_ioctl 2 5\nret 0\ncall nic_ioctl 9 0\nret -25\n"
    ++ (codes "show card: free 0 0 0 5 ptr ptr ptr ptr 2 null\nend ok\nticks 152\nlive 6\nobj 1 struct card x1: free 0 0 0 5 @3+0 @4+0 @5+0 @6+0 2 null\n"
    ++ (codes "obj 2 struct op x3: 1 &op_state 2 &op_reset 0 null\nobj 3 struct buf x1: 60 0 0 0 0 0 0 0 0 null\nobj 4 struct buf x1: 90 0 0 0 0 0 0 0 0 null\n"
    ++ codes "obj 5 struct buf x1: 3 0 0 0 0 0 0 0 0 null\nobj 6 struct buf x1: 4 0 0 0 0 0 0 0 0 null\n"))))

abbrev pub DrivesCard : Type 0
DrivesCard = report nic nic_shown ≡ nic_text
