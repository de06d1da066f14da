-- for proofs
-- Drivers worked out on one memory: what is printed of their runs.
use Rattle.std.specs.Prelude.{◌≡◌, ℕ, List, [], ◌∷◌, codes, pos, negsuc, Some}
use Rattle.mdr_core.specs.declared.kind.Kind.TheVariants.{U8, U32, U64, S32}
use Rattle.mdr_core.specs.declared.program.StructDef.{StructDef}
use Rattle.mdr_core.specs.declared.types.Ty.{Ty}
use Rattle.mdr_core.specs.declared.types.Ty.TheVariants as ty
use Rattle.mdr_core.specs.declared.value.Value.TheVariants as value
use Rattle.mdr_core.specs.declared.code.RelOp.TheVariants.{Lt}
use Rattle.mdr_core.specs.Code.{Term, Lvalue, Code, Codes}
use Rattle.mdr_meaning.specs.Sides.{Body}
use Rattle.mdr_meaning.specs.Worked.{add, body, code, countdown, field, fill, glob, local, make_ring, node, node_pointer, number, object_local, param, pop, s32, take_node, u32, var, walk_ring}
use Rattle.mdr_model.specs.declared.command.Command.TheVariants as command
use Rattle.mdr_bound.specs.declared.bound.Bound.{Bound}
use Rattle.mdr_plain.specs.Worked.{Driver, allocates, calls, just, named, of_type, printed, serves, zero_u32}

-- ---- a loop: u32 a; void f(u32 n){while(n){a=a+n; n=n-1;}}

abbrev pub counting : Driver
counting = record { struct = node; pointer = node_pointer; globals = of_type u32 (zero_u32 ∷ []) ∷ []; funcs = named (codes "f") ∷ []; bodies = countdown ∷ [] }

abbrev pub call_of_three : Bound
call_of_three = just (command.Call 0 (value.Int U32 (pos 3) ∷ []) ∷ [])

abbrev pub counting_text : List ℕ
counting_text = codes "call f 3\nret none\nend ok\nticks 10\nlive 1\nobj 1 u32 x1: 6\n"

abbrev pub CountsDown : Type 0
CountsDown = printed counting call_of_three 100 ≡ counting_text

-- ---- structs and pointers: struct node {u32 v; struct node *next;};
-- struct node *head; struct node *mid;   with `make` and `walk` of `mdr_meaning`

abbrev pub ring : Driver
ring = record {
  struct = node;
  pointer = node_pointer;
  globals = of_type ty.VoidPtr (value.Null ∷ []) ∷ of_type ty.VoidPtr (value.Null ∷ []) ∷ [];
  funcs = named (codes "make") ∷ named (codes "walk") ∷ [];
  bodies = record make_ring { slots = local ty.VoidPtr ∷ local ty.VoidPtr ∷ local ty.VoidPtr ∷ [] } ∷ walk_ring ∷ [];
}

abbrev pub make_and_walk : Bound
make_and_walk = just (calls 0 ∷ calls 1 ∷ [])

abbrev pub ring_text : List ℕ
ring_text =
    codes
    "call make\nret none\ncall walk\nret none\nend ok\nticks 26\nlive 5\nobj 1 struct node * x1: @3+0\nobj 2 struct node * x1: @4+0\nobj 3 struct node x1: 11 @4+0\nobj 4 struct node x1: 112 @5+0\nobj 5 struct node x1: 13 @3+0\n"

abbrev pub TurnsRing : Type 0
TurnsRing = printed ring make_and_walk 100 ≡ ring_text

-- the last of 26 ticks is missing
abbrev pub ring_cut_text : List ℕ
ring_cut_text =
    codes
    "call make\nret none\ncall walk\nstop Ticks at walk 8\nticks 25\nlive 5\nobj 1 struct node * x1: @3+0\nobj 2 struct node * x1: @4+0\nobj 3 struct node x1: 11 @4+0\nobj 4 struct node x1: 12 @5+0\nobj 5 struct node x1: 13 @3+0\n"

abbrev pub CutsRing : Type 0
CutsRing = printed ring make_and_walk 25 ≡ ring_cut_text

-- struct node *head; u32 got; void setup(void){head=kzalloc(struct node); head->v=5;}   with `pop` and `take` of `mdr_meaning`
abbrev pub setup_node : Body
setup_node = body [] ty.Void (allocates 1 1 (Lvalue.Global 0) (ty.Struct 0) [] ∷ Code.Assign 2 (Lvalue.Member (Lvalue.Deref (glob 0)) 0) (number 5) ∷ [])

abbrev pub alias : Driver
alias = record {
  struct = node;
  pointer = node_pointer;
  globals = of_type ty.VoidPtr (value.Null ∷ []) ∷ of_type u32 (zero_u32 ∷ []) ∷ [];
  funcs = named (codes "pop") ∷ named (codes "take") ∷ named (codes "setup") ∷ [];
  bodies = pop ∷ take_node ∷ setup_node ∷ [];
}

abbrev pub setup_and_take : Bound
setup_and_take = just (calls 2 ∷ calls 1 ∷ [])

abbrev pub alias_text : List ℕ
alias_text = codes "call setup\nret none\ncall take\nret none\nend ok\nticks 12\nlive 2\nobj 1 struct node * x1: null\nobj 2 u32 x1: 9\n"

-- the node is off the list when it is read again, and is freed at last
abbrev pub TakesAlias : Type 0
TakesAlias = printed alias setup_and_take 100 ≡ alias_text

-- ---- objects in the order in which they are met: struct node *p; struct node *q;
-- void f(void){p=kzalloc(struct node); q=kzalloc(struct node); q->v=1; p=kzalloc(struct node); p->v=2;}

abbrev pub makes : (number global : ℕ) → Code
makes n g = allocates n 1 (Lvalue.Global g) (ty.Struct 0) []

abbrev pub marks : (number global value : ℕ) → Code
marks n g v = Code.Assign n (Lvalue.Member (Lvalue.Deref (glob g)) 0) (number v)

abbrev pub crossing : Driver
crossing = record ring { funcs = named (codes "f") ∷ []; bodies = body [] ty.Void (makes 1 0 ∷ makes 2 1 ∷ marks 3 1 1 ∷ makes 4 0 ∷ marks 5 0 2 ∷ []) ∷ [] }

abbrev pub call_of_first : Bound
call_of_first = just (calls 0 ∷ [])

abbrev pub crossing_text : List ℕ
crossing_text =
    codes "call f\nret none\nend ok\nticks 5\nlive 5\nobj 1 struct node * x1: @3+0\nobj 2 struct node * x1: @4+0\nobj 3 struct node x1: 2 null\nobj 4 struct node x1: 1 null\n"

-- the younger node comes first, and a live block that nothing leads to is counted and not shown
abbrev pub MeetsObjects : Type 0
MeetsObjects = printed crossing call_of_first 100 ≡ crossing_text

-- ---- allocations that fail
-- struct node *a; struct node *b; s32 probe(void){a=kzalloc(struct node); if(!a){return -12;} b=kzalloc(struct node); if(!b){kfree(a); a=NULL; return -12;} return 0;}

abbrev pub no_memory : (number : ℕ) → Code
no_memory n = Code.Return n (Some (Term.Lit (value.Int S32 (negsuc 11))))

abbrev pub probe : Body
probe = body [] s32
    (allocates 1 1 (Lvalue.Global 0) (ty.Struct 0) []
    ∷ Code.If 2 (Term.Not (glob 0)) (code (no_memory 3 ∷ [])) Codes.End
    ∷ allocates 4 1 (Lvalue.Global 1) (ty.Struct 0) []
    ∷ Code.If 5 (Term.Not (glob 1)) (code (serves 6 3 (Term.ToVoid (glob 0) ∷ []) ∷ Code.Assign 7 (Lvalue.Global 0) (Term.Lit value.Null) ∷ no_memory 8 ∷ [])) Codes.End
    ∷ Code.Return 9 (Some (Term.Lit (value.Int S32 (pos 0))))
    ∷ [])

abbrev pub failing : Driver
failing = record {
  struct = node;
  pointer = node_pointer;
  globals = of_type ty.VoidPtr (value.Null ∷ []) ∷ of_type ty.VoidPtr (value.Null ∷ []) ∷ [];
  funcs = named (codes "probe") ∷ [];
  bodies = probe ∷ [];
}

abbrev pub second_fails : Bound
second_fails = record { words = []; rules = []; fails = 2 ∷ []; commands = calls 0 ∷ [] }

abbrev pub failing_text : List ℕ
failing_text = codes "call probe\nret -12\nend ok\nticks 7\nlive 2\nobj 1 struct node * x1: null\nobj 2 struct node * x1: null\n"

abbrev pub FailsSecond : Type 0
FailsSecond = printed failing second_fails 100 ≡ failing_text

-- ---- arrays: struct dev {u32 n; u8 *buf;}; struct dev d; u32 sum;
-- void setup(u32 k){d.buf=kcalloc(4,u8); d.n=k;} void add(void){u32 i; i=0; sum=0; while(i<d.n){sum+=d.buf[i]; i+=1;}}

abbrev pub dev : StructDef
dev = record { name = codes "dev"; fields = field u32 ∷ field ty.VoidPtr ∷ [] }

abbrev pub byte : Ty
byte = ty.Int U8

abbrev pub of_dev : (field : ℕ) → Lvalue
of_dev f = Lvalue.Member (Lvalue.Global 0) f

abbrev pub setup_buffer : Body
setup_buffer = body (param u32 ∷ []) ty.Void (allocates 1 2 (of_dev 1) byte (Term.Lit (value.Int U64 (pos 4)) ∷ []) ∷ Code.Assign 2 (of_dev 0) (var 0) ∷ [])

abbrev pub add_buffer : Body
add_buffer = body (local u32 ∷ []) ty.Void
    (Code.Declare 1 0
    ∷ Code.Assign 2 (Lvalue.Slot 0) (number 0)
    ∷ Code.Assign 3 (Lvalue.Global 1) (number 0)
    ∷ Code.Loop 4 (Term.Rel Lt (var 0) (Term.Load (of_dev 0))) Codes.End
    (code
    (Code.Assign 5 (Lvalue.Global 1) (add (glob 1) (Term.Conv U32 (Term.Load (Lvalue.Index (Lvalue.Deref (Term.Load (of_dev 1))) (var 0)))))
    ∷ Code.Assign 6 (Lvalue.Slot 0) (add (var 0) (number 1))
    ∷ []))
    ∷ [])

abbrev pub buffer : Driver
buffer = record {
  struct = dev;
  pointer = ty.Ptr byte;
  globals = of_type (ty.Struct 0) (zero_u32 ∷ value.Null ∷ []) ∷ of_type u32 (zero_u32 ∷ []) ∷ [];
  funcs = named (codes "setup") ∷ named (codes "add") ∷ [];
  bodies = setup_buffer ∷ add_buffer ∷ [];
}

abbrev pub add_of : ℕ → Bound
add_of n = just (command.Call 0 (value.Int U32 (pos n) ∷ []) ∷ calls 1 ∷ [])

abbrev pub four_text : List ℕ
four_text = codes "call setup 4\nret none\ncall add\nret none\nend ok\nticks 18\nlive 3\nobj 1 struct dev x1: 4 @3+0\nobj 2 u32 x1: 0\nobj 3 u8 x4: 0 0 0 0\n"

abbrev pub AddsFour : Type 0
AddsFour = printed buffer (add_of 4) 100 ≡ four_text

abbrev pub five_text : List ℕ
five_text = codes "call setup 5\nret none\ncall add\nstop Bounds at add 5\nticks 19\nlive 3\nobj 1 struct dev x1: 5 @3+0\nobj 2 u32 x1: 0\nobj 3 u8 x4: 0 0 0 0\n"

-- without annotations it is the fifth element that isn't there
abbrev pub AddsFive : Type 0
AddsFive = printed buffer (add_of 5) 100 ≡ five_text

-- ---- objects of locals: u32 got; void fill(u32 *p){*p=7;} void f(void){u32 x; fill(&x); got=x;}

abbrev pub filling : Driver
filling = record {
  struct = node;
  pointer = node_pointer;
  globals = of_type u32 (zero_u32 ∷ []) ∷ [];
  funcs = named (codes "fill") ∷ named (codes "f") ∷ [];
  bodies = fill ∷ object_local ∷ [];
}

abbrev pub call_of_f : Bound
call_of_f = just (calls 1 ∷ [])

abbrev pub filling_text : List ℕ
filling_text = codes "call f\nret none\nend ok\nticks 4\nlive 1\nobj 1 u32 x1: 7\n"

abbrev pub FillsObject : Type 0
FillsObject = printed filling call_of_f 100 ≡ filling_text
