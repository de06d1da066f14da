-- for proofs
-- Functions worked out: what the definitions make of small bodies, on a small memory.
use Rattle.std.specs.Prelude.{◌≡◌, ℕ, zero, suc, Bool, true, false, List, [], ◌∷◌, ◌++◌, Option, Some, None, pos, codes}
use Rattle.mdr_core.specs.declared.kind.Kind.TheVariants.{U8, S8, U32, S32}
use Rattle.mdr_core.specs.declared.place.At.{At}
use Rattle.mdr_core.specs.declared.stop.StopKind.TheVariants as stop
use Rattle.mdr_core.specs.declared.types.Ty.{Ty}
use Rattle.mdr_core.specs.declared.types.Ty.TheVariants as ty
use Rattle.mdr_core.specs.declared.types.Ann.TheVariants.{Single}
use Rattle.mdr_core.specs.declared.value.Value.TheVariants as value
use Rattle.mdr_core.specs.declared.program.Program.{Program}
use Rattle.mdr_core.specs.declared.program.StructDef.{StructDef}
use Rattle.mdr_core.specs.declared.program.GlobalDef.{GlobalDef}
use Rattle.mdr_core.specs.declared.program.Field.{Field}
use Rattle.mdr_core.specs.declared.code.BinOp.TheVariants.{Add, Sub, Div}
use Rattle.mdr_core.specs.declared.code.RelOp.TheVariants.{Ne, Lt}
use Rattle.mdr_core.specs.Code.{Term, Lvalue, Called, CallOf, Goal, Way, Code, Codes}
use Rattle.mdr_core.specs.Types.{first_types}
use Rattle.mdr_core.specs.Typing.{Slot}
use Rattle.mdr_meaning.specs.declared.wire.Wire.{Wire}
use Rattle.mdr_meaning.specs.declared.wire.Wire.TheVariants as wire
use Rattle.mdr_meaning.specs.Bodies.{started}
use Rattle.mdr_meaning.specs.Sides.{Body, Side}
use Rattle.mdr_meaning.specs.Small.{Mem, mem, Ran, ran, Ended, Stopped, Crossed, run, small_number}
use Rattle.mdr_meaning.specs.Tree.{Tree}

-- ---- words

abbrev pub code : List Code → Codes
code [] = Codes.End
code (c ∷ cs) = Codes.Then c (code cs)

abbrev pub u32 : Ty
u32 = ty.Int U32

abbrev pub s32 : Ty
s32 = ty.Int S32

abbrev pub number : ℕ → Term
number n = Term.Lit (value.Int U32 (pos n))

abbrev pub int : ℕ → Term
int n = Term.Lit (value.Int S32 (pos n))

abbrev pub var : ℕ → Term
var i = Term.Load (Lvalue.Slot i)

abbrev pub glob : ℕ → Term
glob g = Term.Load (Lvalue.Global g)

abbrev pub add : Term → Term → Term
add a b = Term.Bin Add U32 a b

abbrev pub sub : Term → Term → Term
sub a b = Term.Bin Sub U32 a b

-- field f of what a pointer in a slot points to
abbrev pub behind : (slot f : ℕ) → Lvalue
behind i f = Lvalue.Member (Lvalue.Deref (var i)) f

abbrev pub form : Called → List Term → CallOf
form callee args = record { callee = callee; args = args; shape = None; format = None }

abbrev pub calls : ℕ → (func : ℕ) → List Term → Code
calls n f args = Code.Call n Goal.Nowhere (form (Called.Direct f) args)

abbrev pub param : Ty → Slot
param t = record { ty = t; count = 1; array = false; object = false; is_local = false }

abbrev pub local : Ty → Slot
local t = record { ty = t; count = 1; array = false; object = false; is_local = true }

abbrev pub object : Ty → Slot
object t = record { ty = t; count = 1; array = false; object = true; is_local = true }

abbrev pub object_param : Ty → Slot
object_param t = record { ty = t; count = 1; array = false; object = true; is_local = false }

abbrev pub array : Ty → ℕ → Slot
array t n = record { ty = t; count = n; array = true; object = true; is_local = true }

abbrev pub body : List Slot → Ty → List Code → Body
body slots result cs = record { slots = slots; result = result; code = code cs }

abbrev pub only : Body → ℕ → Option Body
only b zero = Some b
only b (suc f) = None

abbrev pub either : Body → Body → ℕ → Option Body
either a b zero = Some a
either a b (suc zero) = Some b
either a b (suc (suc f)) = None

abbrev pub global : Ty → GlobalDef
global t = record { name = []; ty = t; count = 1; array = false; ann = Single; init = [] }

abbrev pub global_array : Ty → ℕ → GlobalDef
global_array t n = record { name = []; ty = t; count = n; array = true; ann = Single; init = [] }

abbrev pub field : Ty → Field
field t = record { name = []; ty = t; count = 1; array = false; ann = Single }

-- struct node {u32 v; struct node *next;};
abbrev pub node_pointer : Ty
node_pointer = ty.Ptr (ty.Struct 0)

abbrev pub node : StructDef
node = record { name = codes "node"; fields = field u32 ∷ field node_pointer ∷ [] }

-- struct row {u32 v[2];};
abbrev pub row : StructDef
row = record { name = codes "row"; fields = record { name = []; ty = u32; count = 2; array = true; ann = Single } ∷ [] }

abbrev pub with_globals : List GlobalDef → Program
with_globals globals = record {
  types = first_types ++ (ty.Struct 0 ∷ ty.Struct 1 ∷ node_pointer ∷ []);
  structs = node ∷ row ∷ [];
  globals = globals;
  funcs = [];
}

abbrev pub side_by : (Ty → ℕ) → Program → (ℕ → Option Body) → Bool → Side
side_by number program own asks = record { known = record { program = program; number = number }; own = own; asks = asks }

abbrev pub side : Program → (ℕ → Option Body) → Bool → Side
side program own asks = side_by small_number program own asks

-- function f is called on a memory, with fuel for so many ticks
abbrev pub called : Program → (ℕ → Option Body) → Bool → (fuel f : ℕ) → List Wire → Mem → Ran
called program own asks n f args m = run program (started (side program own asks) n f args 0 Tree.Idle) m

-- where a new node's pointer is assigned: what a pointer points to is hidden, so all types have the number of `struct node`
abbrev pub called_on_nodes : Program → (ℕ → Option Body) → (fuel f : ℕ) → List Wire → Mem → Ran
called_on_nodes program own n f args m = run program (started (side_by (λ t. 9) program own false) n f args 0 Tree.Idle) m

abbrev pub w32 : ℕ → Wire
w32 n = wire.Int U32 (pos n)

abbrev pub i32 : ℕ → Wire
i32 n = wire.Int S32 (pos n)

-- a pointer to a whole node
abbrev pub node_at : ℕ → Wire
node_at serial = wire.Ptr (record { serial = serial; first = 0; ty = 9; count = 1; index = 0 })

abbrev pub at_stmt : (func stmt : ℕ) → At
at_stmt func stmt = record { func = func; stmt = stmt }

-- ---- a loop: u32 a; void f(u32 n){while(n){a=a+n; n=n-1;}}

abbrev pub countdown : Body
countdown = body (param u32 ∷ []) ty.Void
    (Code.Loop 1 (var 0) Codes.End (code (Code.Assign 2 (Lvalue.Global 0) (add (glob 0) (var 0)) ∷ Code.Assign 3 (Lvalue.Slot 0) (sub (var 0) (number 1)) ∷ [])) ∷ [])

abbrev pub CountsDown : Type 0
CountsDown = called (with_globals (global u32 ∷ [])) (only countdown) false 20 0 (w32 3 ∷ []) (mem ((w32 0 ∷ []) ∷ []) [] 0 []) ≡ ran (Ended wire.NoValue) (mem ((w32 6 ∷ []) ∷ []) [] 10 [])

-- ---- arithmetic: u32 a; s32 b; void f(void){a=4294967295u; a=a+1; b=2147483647; b=b+1;}

abbrev pub overflow : Body
overflow = body [] ty.Void
    (Code.Assign 1 (Lvalue.Global 0) (number 4294967295)
    ∷ Code.Assign 2 (Lvalue.Global 0) (add (glob 0) (number 1))
    ∷ Code.Assign 3 (Lvalue.Global 1) (int 2147483647)
    ∷ Code.Assign 4 (Lvalue.Global 1) (Term.Bin Add S32 (glob 1) (int 1))
    ∷ [])

-- an unsigned sum wraps, a signed one stops
abbrev pub Overflows : Type 0
Overflows =
    called (with_globals (global u32 ∷ global s32 ∷ [])) (only overflow) false 20 0 [] (mem ((w32 0 ∷ []) ∷ (i32 0 ∷ []) ∷ []) [] 0 [])
    ≡ ran (Stopped stop.Overflow (at_stmt 0 4)) (mem ((w32 0 ∷ []) ∷ (i32 2147483647 ∷ []) ∷ []) [] 4 [])

-- u32 s; void f(void){ if (0 && 1u / 0u) ; s = 2 || 1u / 0u; s = s / 0u; }
abbrev pub divides : Body
divides = body [] ty.Void
    (Code.If 1 (Term.And (int 0) (Term.Bin Div U32 (number 1) (number 0))) (code (Code.Jump 2 Way.Ends ∷ [])) Codes.End
    ∷ Code.Assign 3 (Lvalue.Global 0) (Term.Conv U32 (Term.Or (int 2) (Term.Bin Div U32 (number 1) (number 0))))
    ∷ Code.Assign 4 (Lvalue.Global 0) (Term.Bin Div U32 (glob 0) (number 0))
    ∷ [])

-- the right operand of `&&` and `||` is evaluated only where the left doesn't decide
abbrev pub Divides : Type 0
Divides =
    called (with_globals (global u32 ∷ [])) (only divides) false 20 0 [] (mem ((w32 7 ∷ []) ∷ []) [] 0 [])
    ≡ ran (Stopped stop.DivZero (at_stmt 0 4)) (mem ((w32 1 ∷ []) ∷ []) [] 3 [])

-- ---- a `for` with `continue`: u32 f(u32 n){ u32 s; s = 0; for (u32 i = 0; i < n; i = i + 1) { if (i < 2) continue; s = s + i; } return s; }

abbrev pub sums : Body
sums = body (param u32 ∷ local u32 ∷ local u32 ∷ []) u32
    (Code.Declare 1 1
    ∷ Code.Assign 2 (Lvalue.Slot 1) (number 0)
    ∷ Code.Block (code (Code.Declare 3 2
    ∷ Code.Assign 3 (Lvalue.Slot 2) (number 0)
    ∷ Code.Loop 3 (Term.Rel Lt (var 2) (var 0)) (code (Code.Assign 3 (Lvalue.Slot 2) (add (var 2) (number 1)) ∷ []))
    (code (Code.If 4 (Term.Rel Lt (var 2) (number 2)) (code (Code.Jump 5 Way.Continues ∷ [])) Codes.End ∷ Code.Assign 6 (Lvalue.Slot 1) (add (var 1) (var 2)) ∷ []))
    ∷ []))
    ∷ Code.Return 7 (Some (var 1))
    ∷ [])

abbrev pub Sums : Type 0
Sums = called (with_globals []) (only sums) false 40 0 (w32 4 ∷ []) (mem [] [] 0 []) ≡ ran (Ended (w32 5)) (mem [] [] 22 [])

-- a slot is zero each time its declaration runs: u32 f(void){ u32 i; i = 3; while (i) { u32 x; x = x + i; i = i - 1; if (i < 1) return x; } return 9; }
abbrev pub renews : Body
renews = body (local u32 ∷ local u32 ∷ []) u32
    (Code.Declare 1 0
    ∷ Code.Assign 2 (Lvalue.Slot 0) (number 3)
    ∷ Code.Loop 3 (var 0) Codes.End
    (code (Code.Declare 4 1
    ∷ Code.Assign 5 (Lvalue.Slot 1) (add (var 1) (var 0))
    ∷ Code.Assign 6 (Lvalue.Slot 0) (sub (var 0) (number 1))
    ∷ Code.If 7 (Term.Rel Lt (var 0) (number 1)) (code (Code.Return 8 (Some (var 1)) ∷ [])) Codes.End
    ∷ []))
    ∷ Code.Return 9 (Some (number 9))
    ∷ [])

abbrev pub Renews : Type 0
Renews = called (with_globals []) (only renews) false 40 0 [] (mem [] [] 0 []) ≡ ran (Ended (w32 1)) (mem [] [] 18 [])

-- ---- objects of locals
-- u32 got; void fill(u32 *p){*p=7;} void f(void){u32 x; fill(&x); got=x;}

abbrev pub fill : Body
fill = body (param (ty.Ptr u32) ∷ []) ty.Void (Code.Assign 1 (Lvalue.Deref (var 0)) (number 7) ∷ [])

abbrev pub object_local : Body
object_local = body (object u32 ∷ []) ty.Void
    (Code.Declare 1 0 ∷ calls 2 0 (Term.Addr (Lvalue.Object 0) ∷ []) ∷ Code.Assign 3 (Lvalue.Global 0) (Term.Load (Lvalue.Object 0)) ∷ [])

-- it is born when its declaration runs, and dies with its block
abbrev pub FillsObject : Type 0
FillsObject =
    called (with_globals (global u32 ∷ [])) (either fill object_local) false 20 1 [] (mem ((w32 0 ∷ []) ∷ []) [] 0 [])
    ≡ ran (Ended wire.NoValue) (mem ((w32 7 ∷ []) ∷ (w32 7 ∷ []) ∷ []) ((1 ∷ []) ∷ []) 4 [])

-- a side that asks for births and deaths
abbrev pub AsksForObject : Type 0
AsksForObject =
    called (with_globals (global u32 ∷ [])) (either fill object_local) true 20 1 [] (mem ((w32 0 ∷ []) ∷ []) [] 0 [])
    ≡ ran (Ended wire.NoValue) (mem ((w32 7 ∷ []) ∷ (w32 7 ∷ []) ∷ []) ((1 ∷ []) ∷ []) 4 (13 ∷ 14 ∷ []))

-- u32 g; void f(void){ while (1) { u32 x[2]; { u32 y; { u32 z; u32 w; break; } } } g = 1; }   with x to w objects
abbrev pub breaks_out : Body
breaks_out = body (array u32 2 ∷ object u32 ∷ object u32 ∷ object u32 ∷ []) ty.Void
    (Code.Loop 1 (int 1) Codes.End
    (code (Code.Declare 2 0 ∷ Code.Block (code (Code.Declare 3 1 ∷ Code.Block (code (Code.Declare 4 2 ∷ Code.Declare 5 3 ∷ Code.Jump 6 Way.Breaks ∷ [])) ∷ [])) ∷ []))
    ∷ Code.Assign 7 (Lvalue.Global 0) (number 1)
    ∷ [])

-- the blocks end one by one, the innermost first
abbrev pub BreaksOut : Type 0
BreaksOut =
    called (with_globals (global u32 ∷ [])) (only breaks_out) false 20 0 [] (mem ((w32 0 ∷ []) ∷ []) [] 0 [])
    ≡ ran (Ended wire.NoValue) (mem ((w32 1 ∷ []) ∷ (w32 0 ∷ w32 0 ∷ []) ∷ (w32 0 ∷ []) ∷ (w32 0 ∷ []) ∷ (w32 0 ∷ []) ∷ []) ((3 ∷ 4 ∷ []) ∷ (2 ∷ []) ∷ (1 ∷ []) ∷ []) 7 [])

-- u32 f(u32 n){ u32 a; { u32 b; while (1) { u32 c; c = n; return c; } } }   with n to c objects
abbrev pub returns_out : Body
returns_out = body (object_param u32 ∷ object u32 ∷ object u32 ∷ object u32 ∷ []) u32
    (Code.Declare 1 1
    ∷ Code.Block (code (Code.Declare 2 2
    ∷ Code.Loop 3 (int 1) Codes.End (code (Code.Declare 4 3 ∷ Code.Assign 5 (Lvalue.Object 3) (Term.Load (Lvalue.Object 0)) ∷ Code.Return 6 (Some (Term.Load (Lvalue.Object 3))) ∷ []))
    ∷ []))
    ∷ [])

-- all at once, in the order of their births, parameters first
abbrev pub ReturnsOut : Type 0
ReturnsOut =
    called (with_globals []) (only returns_out) true 20 0 (w32 6 ∷ []) (mem [] [] 0 [])
    ≡ ran (Ended (w32 6)) (mem ((w32 6 ∷ []) ∷ (w32 0 ∷ []) ∷ (w32 0 ∷ []) ∷ (w32 6 ∷ []) ∷ []) ((0 ∷ 1 ∷ 2 ∷ 3 ∷ []) ∷ []) 6 (13 ∷ 13 ∷ 13 ∷ 13 ∷ 14 ∷ []))

-- u32 g; void f(void){ u32 *p; { u32 x; p = &x; } g = *p; }
abbrev pub dangles : Body
dangles = body (local (ty.Ptr u32) ∷ object u32 ∷ []) ty.Void
    (Code.Declare 1 0
    ∷ Code.Block (code (Code.Declare 2 1 ∷ Code.Assign 3 (Lvalue.Slot 0) (Term.Addr (Lvalue.Object 1)) ∷ []))
    ∷ Code.Assign 4 (Lvalue.Global 0) (Term.Load (Lvalue.Deref (var 0)))
    ∷ [])

abbrev pub Dangles : Type 0
Dangles = (called (with_globals (global u32 ∷ [])) (only dangles) false 20 0 [] (mem ((w32 0 ∷ []) ∷ []) [] 0 [])).ending ≡ Stopped stop.Dead (at_stmt 0 4)

-- void *own(void){ u32 x; return &x; } void f(void){ struct node *q; q = own(); g = 1; g = q->v; }
abbrev pub gives_own : Body
gives_own = body (object u32 ∷ []) ty.VoidPtr (Code.Declare 1 0 ∷ Code.Return 2 (Some (Term.ToVoid (Term.Addr (Lvalue.Object 0)))) ∷ [])

abbrev pub takes_own : Body
takes_own = body (local node_pointer ∷ []) ty.Void
    (Code.Declare 1 0
    ∷ Code.Call 2 (Goal.Into (Lvalue.Slot 0)) (form (Called.Direct 0) [])
    ∷ Code.Assign 3 (Lvalue.Global 0) (number 1)
    ∷ Code.Assign 4 (Lvalue.Global 0) (Term.Load (behind 0 0))
    ∷ [])

-- the address of an object that died with its function is dead: it converts to any type, and stops where it is followed
abbrev pub GivesOwn : Type 0
GivesOwn =
    called (with_globals (global u32 ∷ [])) (either gives_own takes_own) false 20 1 [] (mem ((w32 0 ∷ []) ∷ []) [] 0 [])
    ≡ ran (Stopped stop.Dead (at_stmt 1 4)) (mem ((w32 1 ∷ []) ∷ (w32 0 ∷ []) ∷ []) ((1 ∷ []) ∷ []) 6 [])

-- void *f(u32 n){ u32 a; { u32 b; return &n; } }   with n to b objects
abbrev pub gives_outer : Body
gives_outer = body (object_param u32 ∷ object u32 ∷ object u32 ∷ []) ty.VoidPtr
    (Code.Declare 1 1 ∷ Code.Block (code (Code.Declare 2 2 ∷ Code.Return 3 (Some (Term.ToVoid (Term.Addr (Lvalue.Object 0)))) ∷ [])) ∷ [])

-- so is that of an object of a block around the one that is returned from, and of a parameter, also where deaths are asked for
abbrev pub GivesOuter : Type 0
GivesOuter =
    called (with_globals []) (only gives_outer) true 20 0 (w32 6 ∷ []) (mem [] [] 0 [])
    ≡ ran (Ended wire.Dead) (mem ((w32 6 ∷ []) ∷ (w32 0 ∷ []) ∷ (w32 0 ∷ []) ∷ []) ((0 ∷ 1 ∷ 2 ∷ []) ∷ []) 3 (13 ∷ 13 ∷ 13 ∷ 14 ∷ []))

-- void *a; void *b; void *c; u32 g; void *pass(void *p){ u32 x; return p; }
-- void f(void){ u32 y; void *p; a = pass(&g); p = kzalloc(struct node); b = pass(p); c = pass(&y); }   with x and y objects
abbrev pub passes_on : Body
passes_on = body (param ty.VoidPtr ∷ object u32 ∷ []) ty.VoidPtr (Code.Declare 1 1 ∷ Code.Return 2 (Some (var 0)) ∷ [])

abbrev pub passed : (number into : ℕ) → Term → Code
passed n g e = Code.Call n (Goal.Into (Lvalue.Global g)) (form (Called.Direct 0) (e ∷ []))

abbrev pub passes_all : Body
passes_all = body (object u32 ∷ local ty.VoidPtr ∷ []) ty.Void
    (Code.Declare 1 0
    ∷ Code.Declare 2 1
    ∷ passed 3 0 (Term.ToVoid (Term.Addr (Lvalue.Global 3)))
    ∷ Code.Call 4 (Goal.Into (Lvalue.Slot 1)) (record { callee = Called.Service 1; args = []; shape = Some (ty.Struct 0); format = None })
    ∷ passed 5 1 (var 1)
    ∷ passed 6 2 (Term.ToVoid (Term.Addr (Lvalue.Object 0)))
    ∷ [])

-- a pointer to one u32
abbrev pub u32_at : ℕ → Wire
u32_at serial = wire.Ptr (record { serial = serial; first = 0; ty = 2; count = 1; index = 0 })

-- what lives on is named as it was: a global, a heap block, an object of the caller
abbrev pub GivesOthers : Type 0
GivesOthers =
    called (with_globals (global ty.VoidPtr ∷ global ty.VoidPtr ∷ global ty.VoidPtr ∷ global u32 ∷ [])) (either passes_on passes_all) false 20 1 []
    (mem ((wire.Null ∷ []) ∷ (wire.Null ∷ []) ∷ (wire.Null ∷ []) ∷ (w32 0 ∷ []) ∷ []) [] 0 [])
    ≡ ran (Ended wire.NoValue) (mem
    ((u32_at 3 ∷ []) ∷ (node_at 6 ∷ []) ∷ (u32_at 4 ∷ []) ∷ (w32 0 ∷ []) ∷ (w32 0 ∷ []) ∷ (w32 0 ∷ []) ∷ (w32 0 ∷ wire.Null ∷ []) ∷ (w32 0 ∷ []) ∷ (w32 0 ∷ []) ∷ [])
    ((5 ∷ []) ∷ (7 ∷ []) ∷ (8 ∷ []) ∷ (4 ∷ []) ∷ []) 12 (1 ∷ []))

-- void f(void){ char b[4] = "ab"; }
abbrev pub fills_text : Body
fills_text = body (array (ty.Int S8) 4 ∷ []) ty.Void (Code.Declare 1 0 ∷ Code.Text 1 0 (97 ∷ 98 ∷ []) ∷ [])

abbrev pub s8 : ℕ → Wire
s8 n = wire.Int S8 (pos n)

-- the text's bytes, and zeros behind them
abbrev pub FillsText : Type 0
FillsText =
    called (with_globals []) (only fills_text) false 20 0 [] (mem [] [] 0 [])
    ≡ ran (Ended wire.NoValue) (mem ((s8 97 ∷ s8 98 ∷ s8 0 ∷ s8 0 ∷ []) ∷ []) ((0 ∷ []) ∷ []) 2 [])

-- void f(void){ void *p; p = kzalloc(struct node); kfree(p); }
abbrev pub allocates : Body
allocates = body (local ty.VoidPtr ∷ []) ty.Void
    (Code.Declare 1 0
    ∷ Code.Call 2 (Goal.Into (Lvalue.Slot 0)) (record { callee = Called.Service 1; args = []; shape = Some (ty.Struct 0); format = None })
    ∷ Code.Call 3 Goal.Nowhere (form (Called.Service 3) (var 0 ∷ []))
    ∷ [])

abbrev pub Allocates : Type 0
Allocates =
    called (with_globals []) (only allocates) false 20 0 [] (mem [] [] 0 [])
    ≡ ran (Ended wire.NoValue) (mem ((w32 0 ∷ wire.Null ∷ []) ∷ []) ((0 ∷ []) ∷ []) 3 (1 ∷ 3 ∷ []))

-- ---- calls
-- u32 h(u32 n){ if (n < 1) return 9; return h(n - 1); } void f(void){ u32 (*p)(u32); p = h; g = p(3); k(g + 5); }   h is 0, f is 1, k of the other half

abbrev pub recurs : Body
recurs = body (param u32 ∷ []) u32
    (Code.If 1 (Term.Rel Lt (var 0) (number 1)) (code (Code.Return 2 (Some (number 9)) ∷ [])) Codes.End
    ∷ Code.Call 3 Goal.Back (form (Called.Direct 0) (sub (var 0) (number 1) ∷ []))
    ∷ [])

abbrev pub calls_through : Body
calls_through = body (local (ty.Fun (u32 ∷ u32 ∷ [])) ∷ []) ty.Void
    (Code.Declare 1 0
    ∷ Code.Assign 2 (Lvalue.Slot 0) (Term.Lit (value.Fn 0))
    ∷ Code.Call 3 (Goal.Into (Lvalue.Global 0)) (form (Called.Through (var 0)) (number 3 ∷ []))
    ∷ calls 4 2 (add (glob 0) (number 5) ∷ [])
    ∷ [])

abbrev pub Calls : Type 0
Calls =
    called (with_globals (global u32 ∷ [])) (either recurs calls_through) false 20 1 [] (mem ((w32 0 ∷ []) ∷ []) [] 0 [])
    ≡ ran (Crossed 2 (w32 14 ∷ []) 1) (mem ((w32 9 ∷ []) ∷ []) [] 12 [])

-- the value of a call converts as by assignment: u32 big(void){return 258;} u8 small(void){return big();}
abbrev pub big : Body
big = body [] u32 (Code.Return 1 (Some (number 258)) ∷ [])

abbrev pub small : Body
small = body [] (ty.Int U8) (Code.Call 1 Goal.Back (form (Called.Direct 0) []) ∷ [])

abbrev pub Narrows : Type 0
Narrows = called (with_globals []) (either big small) false 20 1 [] (mem [] [] 0 []) ≡ ran (Ended (wire.Int U8 (pos 2))) (mem [] [] 2 [])

-- void f(void){f();}
abbrev pub endless : Body
endless = body [] ty.Void (calls 1 0 [] ∷ [])

abbrev pub Deepens : Type 0
Deepens = called (with_globals []) (only endless) false 300 0 [] (mem [] [] 0 []) ≡ ran (Stopped stop.Depth (at_stmt 0 1)) (mem [] [] 256 [])

-- ---- structs and pointers: a ring of three nodes is walked
-- void walk(void){struct node *p; p=head; p->v+=10; p=p->next; while(p!=head){p->v+=10; p=p->next;} mid->v+=100;}

abbrev pub walk_ring : Body
walk_ring = body (local node_pointer ∷ []) ty.Void
    (Code.Declare 1 0
    ∷ Code.Assign 2 (Lvalue.Slot 0) (glob 0)
    ∷ Code.Assign 3 (behind 0 0) (add (Term.Load (behind 0 0)) (number 10))
    ∷ Code.Assign 4 (Lvalue.Slot 0) (Term.Load (behind 0 1))
    ∷ Code.Loop 5 (Term.Rel Ne (var 0) (glob 0)) Codes.End
    (code (Code.Assign 6 (behind 0 0) (add (Term.Load (behind 0 0)) (number 10)) ∷ Code.Assign 7 (Lvalue.Slot 0) (Term.Load (behind 0 1)) ∷ []))
    ∷ Code.Assign 8 (Lvalue.Member (Lvalue.Deref (glob 1)) 0) (add (Term.Load (Lvalue.Member (Lvalue.Deref (glob 1)) 0)) (number 100))
    ∷ [])

abbrev pub ring_globals : Program
ring_globals = with_globals (global node_pointer ∷ global node_pointer ∷ [])

abbrev pub ring : (one two three : ℕ) → List (List Wire)
ring one two three =
    (node_at 2 ∷ []) ∷ (node_at 3 ∷ []) ∷ (w32 one ∷ node_at 3 ∷ []) ∷ (w32 two ∷ node_at 4 ∷ []) ∷ (w32 three ∷ node_at 2 ∷ []) ∷ []

abbrev pub WalksRing : Type 0
WalksRing =
    called ring_globals (only walk_ring) false 20 0 [] (mem (ring 1 2 3) [] 0 [])
    ≡ ran (Ended wire.NoValue) (mem (ring 11 112 13) [] 12 [])

-- the ring is made: void make(void){struct node *a; struct node *b; struct node *c; a=kzalloc(struct node); b=..; c=..; a->v=1; b->v=2; c->v=3; a->next=b; b->next=c; c->next=a; head=a; mid=b;}
abbrev pub new_node : (number slot : ℕ) → Code
new_node n i = Code.Call n (Goal.Into (Lvalue.Slot i)) (record { callee = Called.Service 1; args = []; shape = Some (ty.Struct 0); format = None })

abbrev pub frees : (number slot : ℕ) → Code
frees n i = Code.Call n Goal.Nowhere (form (Called.Service 3) (Term.ToVoid (var i) ∷ []))

abbrev pub make_ring : Body
make_ring = body (local node_pointer ∷ local node_pointer ∷ local node_pointer ∷ []) ty.Void
    (Code.Declare 1 0
    ∷ Code.Declare 2 1
    ∷ Code.Declare 3 2
    ∷ new_node 4 0
    ∷ new_node 5 1
    ∷ new_node 6 2
    ∷ Code.Assign 7 (behind 0 0) (number 1)
    ∷ Code.Assign 8 (behind 1 0) (number 2)
    ∷ Code.Assign 9 (behind 2 0) (number 3)
    ∷ Code.Assign 10 (behind 0 1) (var 1)
    ∷ Code.Assign 11 (behind 1 1) (var 2)
    ∷ Code.Assign 12 (behind 2 1) (var 0)
    ∷ Code.Assign 13 (Lvalue.Global 0) (var 0)
    ∷ Code.Assign 14 (Lvalue.Global 1) (var 1)
    ∷ [])

abbrev pub MakesRing : Type 0
MakesRing =
    called_on_nodes ring_globals (only make_ring) 20 0 [] (mem ((wire.Null ∷ []) ∷ (wire.Null ∷ []) ∷ []) [] 0 [])
    ≡ ran (Ended wire.NoValue) (mem (ring 1 2 3) [] 14 (1 ∷ 1 ∷ 1 ∷ []))

-- a pointer that is kept while another takes its node from the list and changes it
-- void pop(void){struct node *p; p=head; head=p->next; p->v=9;} void take(void){struct node *q; q=head; got=q->v; pop(); got=q->v; kfree(q);}
abbrev pub pop : Body
pop = body (local node_pointer ∷ []) ty.Void
    (Code.Declare 1 0
    ∷ Code.Assign 2 (Lvalue.Slot 0) (glob 0)
    ∷ Code.Assign 3 (Lvalue.Global 0) (Term.Load (behind 0 1))
    ∷ Code.Assign 4 (behind 0 0) (number 9)
    ∷ [])

abbrev pub take_node : Body
take_node = body (local node_pointer ∷ []) ty.Void
    (Code.Declare 1 0
    ∷ Code.Assign 2 (Lvalue.Slot 0) (glob 0)
    ∷ Code.Assign 3 (Lvalue.Global 1) (Term.Load (behind 0 0))
    ∷ calls 4 0 []
    ∷ Code.Assign 5 (Lvalue.Global 1) (Term.Load (behind 0 0))
    ∷ frees 6 0
    ∷ [])

abbrev pub TakesNode : Type 0
TakesNode =
    called (with_globals (global node_pointer ∷ global u32 ∷ [])) (either pop take_node) false 20 1 [] (mem ((node_at 2 ∷ []) ∷ (w32 0 ∷ []) ∷ (w32 5 ∷ wire.Null ∷ []) ∷ []) [] 0 [])
    ≡ ran (Ended wire.NoValue) (mem ((wire.Null ∷ []) ∷ (w32 9 ∷ []) ∷ (w32 9 ∷ wire.Null ∷ []) ∷ []) ((2 ∷ []) ∷ []) 10 (3 ∷ []))

-- a pointer that is kept while another frees its node
-- void drop(void){struct node *p; p=head; head=NULL; kfree(p);} void lose(void){struct node *q; q=head; drop(); got=q->v;}
abbrev pub drop_node : Body
drop_node = body (local node_pointer ∷ []) ty.Void
    (Code.Declare 1 0 ∷ Code.Assign 2 (Lvalue.Slot 0) (glob 0) ∷ Code.Assign 3 (Lvalue.Global 0) (Term.Lit value.Null) ∷ frees 4 0 ∷ [])

abbrev pub lose_node : Body
lose_node = body (local node_pointer ∷ []) ty.Void
    (Code.Declare 1 0 ∷ Code.Assign 2 (Lvalue.Slot 0) (glob 0) ∷ calls 3 0 [] ∷ Code.Assign 4 (Lvalue.Global 1) (Term.Load (behind 0 0)) ∷ [])

abbrev pub LosesNode : Type 0
LosesNode =
    called (with_globals (global node_pointer ∷ global u32 ∷ [])) (either drop_node lose_node) false 20 1 [] (mem ((node_at 2 ∷ []) ∷ (w32 0 ∷ []) ∷ (w32 5 ∷ wire.Null ∷ []) ∷ []) [] 0 [])
    ≡ ran (Stopped stop.Dead (at_stmt 1 4)) (mem ((wire.Null ∷ []) ∷ (w32 0 ∷ []) ∷ (w32 5 ∷ wire.Null ∷ []) ∷ []) ((2 ∷ []) ∷ []) 8 (3 ∷ []))

-- a pointer to a freed node stands in a struct, and is no matter while nobody loads it
-- struct node d; void setup(void){struct node *p; p=kzalloc(struct node); d.next=p; kfree(p);} void poke(void){if(d.v){d.next=NULL;} d.v=7;}
abbrev pub of_token : ℕ → Lvalue
of_token f = Lvalue.Member (Lvalue.Global 0) f

abbrev pub keep_token : Body
keep_token = body (local node_pointer ∷ []) ty.Void (Code.Declare 1 0 ∷ new_node 2 0 ∷ Code.Assign 3 (of_token 1) (var 0) ∷ frees 4 0 ∷ [])

abbrev pub poke_token : Body
poke_token = body [] ty.Void
    (Code.If 1 (Term.Load (of_token 0)) (code (Code.Assign 2 (of_token 1) (Term.Lit value.Null) ∷ [])) Codes.End ∷ Code.Assign 3 (of_token 0) (number 7) ∷ [])

-- one call after the other
abbrev pub token_called : (f : ℕ) → Mem → Ran
token_called f m = called_on_nodes (with_globals (global (ty.Struct 0) ∷ [])) (either keep_token poke_token) 20 f [] m

abbrev pub KeepsToken : Type 0
KeepsToken =
    token_called 1 (token_called 0 (mem ((w32 0 ∷ wire.Null ∷ []) ∷ []) [] 0 [])).memory
    ≡ ran (Ended wire.NoValue) (mem ((w32 7 ∷ node_at 1 ∷ []) ∷ (w32 0 ∷ wire.Null ∷ []) ∷ []) ((1 ∷ []) ∷ []) 6 (1 ∷ 3 ∷ []))

-- ---- arrays: u32 n; u32 sum; u32 buf[4]; void f(void){u32 i; i=0; sum=0; while(i<n){sum+=buf[i]; i+=1;}}

abbrev pub adds : Body
adds = body (local u32 ∷ []) ty.Void
    (Code.Declare 1 0
    ∷ Code.Assign 2 (Lvalue.Slot 0) (number 0)
    ∷ Code.Assign 3 (Lvalue.Global 1) (number 0)
    ∷ Code.Loop 4 (Term.Rel Lt (var 0) (glob 0)) Codes.End
    (code (Code.Assign 5 (Lvalue.Global 1) (add (glob 1) (Term.Load (Lvalue.Index (Lvalue.Global 2) (var 0)))) ∷ Code.Assign 6 (Lvalue.Slot 0) (add (var 0) (number 1)) ∷ []))
    ∷ [])

abbrev pub array_globals : Program
array_globals = with_globals (global u32 ∷ global u32 ∷ global_array u32 4 ∷ [])

abbrev pub four : (n sum : ℕ) → List (List Wire)
four n sum = (w32 n ∷ []) ∷ (w32 sum ∷ []) ∷ (w32 1 ∷ w32 2 ∷ w32 3 ∷ w32 4 ∷ []) ∷ []

abbrev pub AddsFour : Type 0
AddsFour = called array_globals (only adds) false 30 0 [] (mem (four 4 0) [] 0 []) ≡ ran (Ended wire.NoValue) (mem (four 4 10) [] 16 [])

-- the fifth element isn't there
abbrev pub AddsFive : Type 0
AddsFive = called array_globals (only adds) false 30 0 [] (mem (four 5 0) [] 0 []) ≡ ran (Stopped stop.Bounds (at_stmt 0 5)) (mem (four 5 10) [] 17 [])
