-- for proofs
-- Small drivers in two halves, worked out: their messages, and what their runs show.
use Rattle.std.specs.Prelude.{◌≡◌, ℕ, suc, true, false, List, [], ◌∷◌, ◌++◌, Option, Some, None, map, codes}
use Rattle.mdr_core.specs.declared.code.BinOp.TheVariants.{Mul}
use Rattle.mdr_core.specs.declared.kind.Kind.TheVariants.{U32}
use Rattle.mdr_core.specs.declared.plan.Key.TheVariants as key
use Rattle.mdr_core.specs.declared.program.Func.{Func}
use Rattle.mdr_core.specs.declared.program.StructDef.{StructDef}
use Rattle.mdr_core.specs.declared.stop.StopKind.TheVariants as stop
use Rattle.mdr_core.specs.declared.types.Ann.TheVariants.{Single, Opaque}
use Rattle.mdr_core.specs.declared.types.Ty.{Ty}
use Rattle.mdr_core.specs.declared.types.Ty.TheVariants as ty
use Rattle.mdr_core.specs.declared.value.LockState.TheVariants.{Free}
use Rattle.mdr_core.specs.declared.value.Value.TheVariants as value
use Rattle.mdr_core.specs.Code.{Term, Lvalue, Called, Code}
use Rattle.mdr_meaning.specs.declared.shape.Shape64.{Shape64}
use Rattle.mdr_meaning.specs.declared.wire.Wire.{Wire}
use Rattle.mdr_meaning.specs.declared.wire.Wire.TheVariants as wire
use Rattle.mdr_meaning.specs.Sides.{Body}
use Rattle.mdr_meaning.specs.Worked.{add, at_stmt, body, calls as calls_func, field, form, glob, number, object as object_slot, param, u32, var}
use Rattle.mdr_model.specs.declared.memory.MemoryBlock.{MemoryBlock}
use Rattle.mdr_model.specs.declared.message.BirthKind.{BirthKind}
use Rattle.mdr_model.specs.declared.message.BirthKind.TheVariants.{Static, Heap, Auto}
use Rattle.mdr_model.specs.declared.message.Back.{Back}
use Rattle.mdr_model.specs.declared.message.Message.{Message}
use Rattle.mdr_model.specs.declared.message.Message.TheVariants as message
use Rattle.mdr_model.specs.declared.message.New.{New}
use Rattle.mdr_model.specs.declared.message.Run.{Run}
use Rattle.mdr_model.specs.declared.message.SetRun.{SetRun}
use Rattle.mdr_model.specs.declared.message.Told.{Told}
use Rattle.mdr_model.specs.declared.outcome.End.{End}
use Rattle.mdr_model.specs.declared.outcome.End.TheVariants as ends
use Rattle.mdr_model.specs.declared.outcome.Seen.TheVariants as seen
use Rattle.mdr_model.specs.Law.{read}
use Rattle.mdr_model.specs.Memory.{Memory}
use Rattle.mdr_model.specs.Text.{text}
use Rattle.mdr_model.specs.User.{allowance}
use Rattle.mdr_model.specs.Worked.{answer_message, ask_message, back_message, call_message, down_message, return_message, u32_value, words}
use Rattle.mdr_plain.specs.declared.outcome.Happened.TheVariants as happened
use Rattle.mdr_plain.specs.declared.outcome.Outcome.{Outcome}
use Rattle.mdr_plain.specs.Outcome.{outcome_of}
use Rattle.mdr_plain.specs.Scripts.{finish}
use Rattle.mdr_plain.specs.Worked.{allocates, calls, just, named, of_type, serves, with_rules, zero_u32}
use Rattle.mdr_plain.specs.WorkedInterrupts.{after_two, counts_hit, hitting, reads, requests, sets, writes}
use Rattle.mdr_plain.specs.WorkedRuns.{of_dev}
use Rattle.mdr_bound.specs.declared.bound.Bound.{Bound}
use Rattle.mdr_slice.specs.Written.{Written, assign, calling, plain, stmts}
use Rattle.mdr_split.specs.AnyAnswers.{kernel_in}
use Rattle.mdr_split.specs.Kernel.{split_run}
use Rattle.mdr_split.specs.Law.{IsHonest}
use Rattle.mdr_split.specs.State.{Pending, Over, Waits}
use Rattle.mdr_split.specs.User.{first_user, user_after}
use Rattle.mdr_split.specs.Worked.{with_stubs}
use Rattle.mdr_watched.specs.Driver.{Driver}
use Rattle.mdr_watched.specs.Watched.{watched_of}
use Rattle.mdr_watched.specs.Worked.{began, cut, int, object, outcome, param_of, returned, word}

-- ---- what is shown of a run of a million ticks

abbrev pub end_of : Pending → Option End
end_of (Over end k) = Some end
end_of (Waits m k upcall rest script) = None

-- these messages are sent over these answers, and the answers are honest; the run ends well, with an outcome which is that of the watched run too; and then both halves hold this agreed copy
pub record Passes (d : Driver) (script : Bound) (messages answers : List Message) (shows : Outcome) (copy : Memory) : Type 0 where
  pub sent : (split_run d script 1000000 (read answers)).sent ≡ messages
  pub honest : IsHonest d [] messages answers
  pub end : end_of (split_run d script 1000000 (read answers)).pending ≡ Some ends.Ok
  pub outcome : outcome_of d.program (finish ends.Ok (kernel_in (split_run d script 1000000 (read answers)).pending).world) ≡ shows
  pub watched : outcome_of d.program (watched_of d script 1000000) ≡ shows
  pub kernel : (kernel_in (split_run d script 1000000 (read answers)).pending).agreed ≡ copy
  pub user : (user_after d (suc (allowance (read messages))) (first_user d) (read messages)).agreed ≡ copy

-- ---- words

-- so many cells of a block, visible
abbrev pub cells : (serial first len : ℕ) → SetRun
cells serial first n = record { serial = serial; first = first; len = n }

-- one cell has this value
abbrev pub holds : (serial index : ℕ) → Wire → Run
holds serial index v = record { serial = serial; first = index; values = v ∷ [] }

abbrev pub told : (deaths : List ℕ) → List New → List SetRun → List Run → Told
told deaths news view runs = record { deaths = deaths; news = news; view = view; runs = runs }

-- one element of a type
abbrev pub one : (ty : ℕ) → Shape64
one ty = record { ty = ty; count = 1 }

-- a pointer to it
abbrev pub points : (serial ty : ℕ) → Wire
points serial ty = wire.Ptr (record { serial = serial; first = 0; ty = ty; count = 1; index = 0 })

-- a block as it is held
abbrev pub block : (serial : ℕ) → BirthKind → (ty : ℕ) → List Wire → MemoryBlock
block serial kind ty held = record { born = record { serial = serial; kind = kind; ty = ty; count = 1 }; cells = held }

-- ---- a graph: struct node {u32 v; u32 mark; struct node *next;};
-- struct node *head; struct node *last; u32 got; u32 *secret __opaque;   A pointer's type is `void *` here, since what it points to doesn't compute
-- void ring(void){head=kzalloc(struct node); last=kzalloc(struct node); head->next=last; last->next=head; secret=kzalloc(u32);}
-- void unlink(u32 *p){kfree(last); kfree(secret); last=head; head->mark=9; *p=5;}
-- void work(void){u32 x; got=1; unlink(&x); last->v=x; head->next=kzalloc(struct node); head->next->next=head; got=got+head->v;}   which is of the user half

abbrev pub marked_node : StructDef
marked_node = record { name = codes "node"; fields = field u32 ∷ field u32 ∷ field ty.VoidPtr ∷ [] }

-- field f of the node that a global points to
abbrev pub of_global : (global f : ℕ) → Lvalue
of_global g f = Lvalue.Member (Lvalue.Deref (glob g)) f

abbrev pub makes_node : (number : ℕ) → Lvalue → Code
makes_node n p = allocates n 1 p (ty.Struct 0) []

abbrev pub frees : (number global : ℕ) → Code
frees n g = serves n 3 (glob g ∷ [])

abbrev pub ring : Body
ring = body [] ty.Void
    (makes_node 1 (Lvalue.Global 0)
    ∷ makes_node 2 (Lvalue.Global 1)
    ∷ Code.Assign 3 (of_global 0 2) (glob 1)
    ∷ Code.Assign 4 (of_global 1 2) (glob 0)
    ∷ allocates 5 1 (Lvalue.Global 3) u32 []
    ∷ [])

abbrev pub unlink : Body
unlink = body (param ty.VoidPtr ∷ []) ty.Void
    (frees 1 1 ∷ frees 2 3 ∷ sets 3 1 (glob 0) ∷ Code.Assign 4 (of_global 0 1) (number 9) ∷ Code.Assign 5 (Lvalue.Deref (var 0)) (number 5) ∷ [])

abbrev pub work : Body
work = body (object_slot u32 ∷ []) ty.Void
    (Code.Declare 1 0
    ∷ sets 2 2 (number 1)
    ∷ calls_func 3 1 (Term.ToVoid (Term.Addr (Lvalue.Object 0)) ∷ [])
    ∷ Code.Assign 4 (of_global 1 0) (Term.Load (Lvalue.Object 0))
    ∷ makes_node 5 (of_global 0 2)
    ∷ Code.Assign 6 (Lvalue.Member (Lvalue.Deref (Term.Load (of_global 0 2))) 2) (glob 0)
    ∷ sets 7 2 (add (glob 2) (Term.Load (of_global 0 0)))
    ∷ [])

abbrev pub graph : Driver
graph = with_stubs (false ∷ true ∷ false ∷ [])
    (cut
    (record {
      struct = marked_node;
      pointer = ty.VoidPtr;
      globals = of_type ty.VoidPtr (value.Null ∷ []) ∷ of_type ty.VoidPtr (value.Null ∷ []) ∷ of_type u32 (zero_u32 ∷ []) ∷ record (of_type ty.VoidPtr (value.Null ∷ [])) { ann = Opaque } ∷ [];
      funcs = named (codes "ring") ∷ record (named (codes "unlink")) { params = param_of ty.VoidPtr Single ∷ [] } ∷ named (codes "work") ∷ [];
      bodies = ring ∷ unlink ∷ work ∷ [];
    })
    (false ∷ false ∷ true ∷ [])
    ([] ∷ [] ∷ (key.Global 0 ∷ key.Global 1 ∷ key.Global 2 ∷ key.Global 3 ∷ key.Field 0 0 ∷ key.Field 0 2 ∷ key.Elem 2 ∷ []) ∷ []))

abbrev pub ring_and_work : Bound
ring_and_work = just (calls 0 ∷ calls 2 ∷ [])

abbrev pub node_at : (serial : ℕ) → Wire
node_at n = points n 9

abbrev pub u32_at : (serial : ℕ) → Wire
u32_at n = points n 2

abbrev pub new_node : (serial : ℕ) → New
new_node n = record { serial = n; kind = Heap; ty = 9; count = 1 }

-- the globals, of the first node the fields that user code touches, and others
abbrev pub seen_of : (others : List SetRun) → List SetRun
seen_of others = cells 0 0 1 ∷ cells 1 0 1 ∷ cells 2 0 1 ∷ cells 3 0 1 ∷ cells 4 0 1 ∷ cells 4 2 1 ∷ others

-- the nodes point to each other; the block behind the opaque pointer is told, and not seen
abbrev pub graph_call : Message
graph_call =
    call_message 2 0 999995 []
    (told []
    (new_node 4 ∷ new_node 5 ∷ record { serial = 6; kind = Heap; ty = 2; count = 1 } ∷ [])
    (seen_of (cells 5 0 1 ∷ cells 5 2 1 ∷ []))
    (holds 0 0 (node_at 4) ∷ holds 1 0 (node_at 5) ∷ holds 3 0 (u32_at 6) ∷ holds 4 2 (node_at 5) ∷ holds 5 2 (node_at 4) ∷ []))

-- the object is born
abbrev pub graph_object : Message
graph_object = answer_message (u32_at 7 ∷ []) [] (record { serial = 7; kind = Auto; ty = 2; count = 1 } ∷ [])

-- two blocks died, one of which was never seen: pointers to them die on both sides. The mark isn't told, nor what user code wrote itself
abbrev pub graph_returned : Back
graph_returned = record {
  rest = 999987;
  result = wire.NoValue;
  told = told (5 ∷ 6 ∷ []) [] (seen_of (cells 7 0 1 ∷ [])) (holds 1 0 (node_at 4) ∷ holds 7 0 (u32_value 5) ∷ []);
}

abbrev pub graph_back : Message
graph_back = message.Back graph_returned

-- a node is born
abbrev pub graph_node : Message
graph_node = answer_message (node_at 8 ∷ []) [] (new_node 8 ∷ [])

-- the object dies
abbrev pub graph_gone : Message
graph_gone = answer_message [] (7 ∷ []) []

abbrev pub graph_sent : List Message
graph_sent = graph_call ∷ graph_object ∷ graph_back ∷ graph_node ∷ graph_gone ∷ []

abbrev pub graph_down : Message
graph_down = down_message 2 (at_stmt 2 3) 1 1 (u32_at 7 ∷ []) (holds 2 0 (u32_value 1) ∷ [])

-- what was written through `last` is read through `head`, and the new node points back
abbrev pub graph_leave : Message
graph_leave = ask_message 2 (at_stmt 2 0) 14 (u32_at 7 ∷ []) [] (holds 2 0 (u32_value 6) ∷ holds 4 2 (node_at 8) ∷ holds 8 2 (node_at 4) ∷ [])

abbrev pub graph_answers : List Message
graph_answers =
    ask_message 1 (at_stmt 2 0) 13 [] (one 2 ∷ []) []
    ∷ graph_down
    ∷ ask_message 2 (at_stmt 2 5) 1 [] (one 9 ∷ []) (holds 4 0 (u32_value 5) ∷ [])
    ∷ graph_leave
    ∷ return_message 0 wire.NoValue []
    ∷ []

abbrev pub graph_outcome : Outcome
graph_outcome =
    outcome (began (codes "ring") [] ∷ returned ∷ began (codes "work") [] ∷ returned ∷ []) ends.Ok 17 6
    (object 10 1 (seen.At 5 0 ∷ [])
    ∷ object 10 1 (seen.At 5 0 ∷ [])
    ∷ word 6
    ∷ object 10 1 (seen.Dead ∷ [])
    ∷ object 9 1 (int 5 ∷ int 9 ∷ seen.At 6 0 ∷ [])
    ∷ object 9 1 (int 0 ∷ int 0 ∷ seen.At 5 0 ∷ [])
    ∷ [])

-- the mark was never told
abbrev pub graph_copy : Memory
graph_copy =
    block 0 Static 10 (node_at 4 ∷ [])
    ∷ block 1 Static 10 (node_at 4 ∷ [])
    ∷ block 2 Static 2 (u32_value 6 ∷ [])
    ∷ block 3 Static 10 (wire.Dead ∷ [])
    ∷ block 4 Heap 9 (u32_value 5 ∷ u32_value 0 ∷ node_at 8 ∷ [])
    ∷ block 8 Heap 9 (u32_value 0 ∷ u32_value 0 ∷ node_at 4 ∷ [])
    ∷ []

abbrev pub TellsGraph : Type 0
TellsGraph = Passes graph ring_and_work graph_sent graph_answers graph_outcome graph_copy

-- ---- a device: u32 hits; u32 seen;   with `h` of `mdr_plain`, which counts hits and lowers the line
-- void start(void){request_irq(h);} void poke(void){seen=seen+1;}
-- void go(void){writel(1,0); seen=1; seen=2; seen=readl(3); poke(); seen=seen+hits;}   which is of the user half

abbrev pub starts : Body
starts = body [] ty.Void (requests 1 ∷ [])

abbrev pub pokes : Body
pokes = body [] ty.Void (sets 1 1 (add (glob 1) (number 1)) ∷ [])

abbrev pub goes : Body
goes = body [] ty.Void
    (writes 1 1 0 ∷ sets 2 1 (number 1) ∷ sets 3 1 (number 2) ∷ reads 4 1 3 ∷ calls_func 5 2 [] ∷ sets 6 1 (add (glob 1) (glob 0)) ∷ [])

abbrev pub timed : Driver
timed = with_stubs (false ∷ false ∷ true ∷ false ∷ [])
    (cut
    (record hitting {
      funcs = named (codes "h") ∷ named (codes "start") ∷ named (codes "poke") ∷ named (codes "go") ∷ [];
      bodies = counts_hit ∷ starts ∷ pokes ∷ goes ∷ [];
    })
    (false ∷ false ∷ false ∷ true ∷ [])
    ([] ∷ [] ∷ [] ∷ (key.Global 0 ∷ key.Global 1 ∷ []) ∷ []))

-- two ticks behind the first write register 3 is 7, and the line rises
abbrev pub start_and_go : Bound
start_and_go = with_rules after_two (calls 1 ∷ calls 3 ∷ [])

abbrev pub both_seen : List SetRun
both_seen = cells 0 0 1 ∷ cells 1 0 1 ∷ []

abbrev pub timed_sent : List Message
timed_sent =
    call_message 3 0 999999 [] (told [] [] both_seen [])
    ∷ answer_message [] [] []
    ∷ answer_message (u32_value 7 ∷ []) [] []
    -- no interrupt was taken
    ∷ back_message 999993 wire.NoValue (told [] [] both_seen (holds 1 0 (u32_value 8) ∷ []))
    ∷ []

abbrev pub timed_answers : List Message
timed_answers =
    ask_message 1 (at_stmt 3 1) 5 (u32_value 1 ∷ u32_value 0 ∷ []) [] []
    ∷ ask_message 3 (at_stmt 3 4) 4 (u32_value 3 ∷ []) [] (holds 1 0 (u32_value 2) ∷ [])
    ∷ down_message 1 (at_stmt 3 5) 1 2 [] (holds 1 0 (u32_value 7) ∷ [])
    ∷ return_message 1 wire.NoValue []
    ∷ []

abbrev pub timed_outcome : Outcome
timed_outcome =
    outcome
    (began (codes "start") []
    ∷ returned
    ∷ began (codes "go") []
    ∷ happened.Wrote 0 1
    ∷ happened.Read 3 7
    ∷ returned
    ∷ happened.Irq 0
    ∷ happened.Wrote 1 0
    ∷ [])
    ends.Ok 10 2 (word 1 ∷ word 8 ∷ [])

-- the hit came behind the last message
abbrev pub timed_copy : Memory
timed_copy = block 0 Static 2 (u32_value 0 ∷ []) ∷ block 1 Static 2 (u32_value 8 ∷ []) ∷ []

abbrev pub KeepsTime : Type 0
KeepsTime = Passes timed start_and_go timed_sent timed_answers timed_outcome timed_copy

-- ---- callbacks: struct job {u32 n;}; struct job j; u32 log; void (*cb)(u32);
-- void done(u32 x){log=log*10+x; writel(x,3);} void fire(u32 x){kcall(cb,x); j.n=j.n+1;}
-- void go(void){cb=done; fire(1); fire(2); log=log+j.n;}   where `done` and `go` are of the user half

abbrev pub job : StructDef
job = record { name = codes "job"; fields = field u32 ∷ [] }

-- the type of a function that takes a number and gives nothing
abbrev pub takes_word : Ty
takes_word = ty.Fun (ty.Void ∷ u32 ∷ [])

abbrev pub taking_word : (name : List ℕ) → Func
taking_word name = record (named name) { params = param_of u32 Single ∷ [] }

abbrev pub logs : Body
logs = body (param u32 ∷ []) ty.Void (sets 1 1 (add (Term.Bin Mul U32 (glob 1) (number 10)) (var 0)) ∷ serves 2 5 (var 0 ∷ number 3 ∷ []) ∷ [])

abbrev pub fires : Body
fires = body (param u32 ∷ []) ty.Void (serves 1 15 (glob 2 ∷ var 0 ∷ []) ∷ Code.Assign 2 (of_dev 0) (add (Term.Load (of_dev 0)) (number 1)) ∷ [])

-- its text is in the program too, since the kernel half asks of a function in a reply whether its address is taken somewhere
abbrev pub go_lines : List Written
go_lines =
    assign 1 (Lvalue.Global 2) (Term.Lit (value.Fn 0))
    ∷ calling 2 (form (Called.Direct 1) (number 1 ∷ []))
    ∷ calling 3 (form (Called.Direct 1) (number 2 ∷ []))
    ∷ assign 4 (Lvalue.Global 1) (add (glob 1) (Term.Load (of_dev 0)))
    ∷ []

abbrev pub fires_twice : Body
fires_twice = record { slots = []; result = ty.Void; code = plain go_lines }

abbrev pub twice : Driver
twice = with_stubs (false ∷ true ∷ false ∷ [])
    (cut
    (record {
      struct = job;
      pointer = takes_word;
      globals = of_type (ty.Struct 0) (zero_u32 ∷ []) ∷ of_type u32 (zero_u32 ∷ []) ∷ of_type takes_word (value.Null ∷ []) ∷ [];
      funcs = taking_word (codes "done") ∷ taking_word (codes "fire") ∷ record (named (codes "go")) { body = Some (stmts go_lines) } ∷ [];
      bodies = logs ∷ fires ∷ fires_twice ∷ [];
    })
    (true ∷ false ∷ true ∷ [])
    ((key.Global 1 ∷ []) ∷ [] ∷ (key.Field 0 0 ∷ key.Global 1 ∷ key.Global 2 ∷ []) ∷ []))

abbrev pub call_go : Bound
call_go = just (calls 2 ∷ [])

-- what `go` may touch, and what `done` may
abbrev pub all_seen : List SetRun
all_seen = cells 0 0 1 ∷ cells 1 0 1 ∷ cells 2 0 1 ∷ []

abbrev pub log_seen : List SetRun
log_seen = cells 1 0 1 ∷ []

-- two functions are active where `fire` calls back. Of `j`, which `done` may not touch, the Back tells
abbrev pub twice_sent : List Message
twice_sent =
    call_message 2 0 1000000 [] (told [] [] all_seen [])
    ∷ call_message 0 2 999997 (u32_value 1 ∷ []) (told [] [] log_seen [])
    ∷ answer_message [] [] []
    ∷ back_message 999994 wire.NoValue (told [] [] all_seen (holds 0 0 (u32_value 1) ∷ []))
    ∷ call_message 0 2 999992 (u32_value 2 ∷ []) (told [] [] log_seen [])
    ∷ answer_message [] [] []
    ∷ back_message 999989 wire.NoValue (told [] [] all_seen (holds 0 0 (u32_value 2) ∷ []))
    ∷ []

-- with the first downcall goes the pointer that was set
abbrev pub twice_first : Message
twice_first = down_message 2 (at_stmt 2 2) 1 1 (u32_value 1 ∷ []) (holds 2 0 (wire.Fn 0) ∷ [])

abbrev pub twice_later : List Message
twice_later =
    ask_message 2 (at_stmt 0 2) 5 (u32_value 1 ∷ u32_value 3 ∷ []) [] (holds 1 0 (u32_value 1) ∷ [])
    ∷ return_message 0 wire.NoValue []
    ∷ down_message 1 (at_stmt 2 3) 1 1 (u32_value 2 ∷ []) []
    ∷ ask_message 2 (at_stmt 0 2) 5 (u32_value 2 ∷ u32_value 3 ∷ []) [] (holds 1 0 (u32_value 12) ∷ [])
    ∷ return_message 0 wire.NoValue []
    ∷ return_message 1 wire.NoValue (holds 1 0 (u32_value 14) ∷ [])
    ∷ []

abbrev pub twice_answers : List Message
twice_answers = twice_first ∷ twice_later

abbrev pub twice_outcome : Outcome
twice_outcome =
    outcome (began (codes "go") [] ∷ happened.Wrote 3 1 ∷ happened.Wrote 3 2 ∷ returned ∷ []) ends.Ok 12 3
    (object 9 1 (int 2 ∷ []) ∷ word 14 ∷ object 10 1 (seen.Fn 0 ∷ []) ∷ [])

abbrev pub twice_copy : Memory
twice_copy = block 0 Static 9 (u32_value 2 ∷ []) ∷ block 1 Static 2 (u32_value 14 ∷ []) ∷ block 2 Static 10 (wire.Fn 0 ∷ []) ∷ []

abbrev pub CallsBackTwice : Type 0
CallsBackTwice = Passes twice call_go twice_sent twice_answers twice_outcome twice_copy

-- numbers in four bytes each. What the budget leaves has three that aren't 0
abbrev pub left : (low : List ℕ) → List ℕ
left low = 0 ∷ 0 ∷ 0 ∷ 0 ∷ 0 ∷ 15 ∷ low

-- their bytes: 88, 64, 16, 104, 64, 16 and 104 of them, and of the answers 68, 80, 20, 44, 80, 20 and 44
pub record CallbackSpells : Type 0 where
  pub sent :
      map text twice_sent
      ≡ (words (1 ∷ 2 ∷ 0 ∷ []) ++ left (66 ∷ 64 ∷ []) ++ words (0 ∷ 0 ∷ 0 ∷ 3 ∷ 0 ∷ 0 ∷ 0 ∷ 1 ∷ 0 ∷ 1 ∷ 0 ∷ 1 ∷ 0 ∷ 2 ∷ 0 ∷ 1 ∷ 0 ∷ []))
      ∷ (words (1 ∷ 0 ∷ 2 ∷ []) ++ left (66 ∷ 61 ∷ []) ++ words (1 ∷ 2 ∷ 1 ∷ 0 ∷ 0 ∷ 1 ∷ 0 ∷ 1 ∷ 0 ∷ 1 ∷ 0 ∷ []))
      ∷ words (6 ∷ 0 ∷ 0 ∷ 0 ∷ [])
      ∷ (words (4 ∷ []) ++ left (66 ∷ 58 ∷ []) ++ words (12 ∷ 0 ∷ 0 ∷ 3 ∷ 0 ∷ 0 ∷ 0 ∷ 1 ∷ 0 ∷ 1 ∷ 0 ∷ 1 ∷ 0 ∷ 2 ∷ 0 ∷ 1 ∷ 1 ∷ 0 ∷ 0 ∷ 0 ∷ 1 ∷ 2 ∷ 1 ∷ []))
      ∷ (words (1 ∷ 0 ∷ 2 ∷ []) ++ left (66 ∷ 56 ∷ []) ++ words (1 ∷ 2 ∷ 2 ∷ 0 ∷ 0 ∷ 1 ∷ 0 ∷ 1 ∷ 0 ∷ 1 ∷ 0 ∷ []))
      ∷ words (6 ∷ 0 ∷ 0 ∷ 0 ∷ [])
      ∷ (words (4 ∷ []) ++ left (66 ∷ 53 ∷ []) ++ words (12 ∷ 0 ∷ 0 ∷ 3 ∷ 0 ∷ 0 ∷ 0 ∷ 1 ∷ 0 ∷ 1 ∷ 0 ∷ 1 ∷ 0 ∷ 2 ∷ 0 ∷ 1 ∷ 1 ∷ 0 ∷ 0 ∷ 0 ∷ 1 ∷ 2 ∷ 2 ∷ []))
      ∷ []
  pub answers :
      map text twice_answers
      ≡ words (3 ∷ 0 ∷ 2 ∷ 2 ∷ 2 ∷ 1 ∷ 1 ∷ 1 ∷ 2 ∷ 1 ∷ 1 ∷ 0 ∷ 2 ∷ 0 ∷ 1 ∷ 11 ∷ 0 ∷ [])
      ∷ words (5 ∷ 0 ∷ 2 ∷ 0 ∷ 2 ∷ 5 ∷ 2 ∷ 2 ∷ 1 ∷ 2 ∷ 3 ∷ 0 ∷ 0 ∷ 1 ∷ 0 ∷ 1 ∷ 0 ∷ 1 ∷ 2 ∷ 1 ∷ [])
      ∷ words (2 ∷ 0 ∷ 0 ∷ 12 ∷ 0 ∷ [])
      ∷ words (3 ∷ 0 ∷ 1 ∷ 2 ∷ 3 ∷ 1 ∷ 1 ∷ 1 ∷ 2 ∷ 2 ∷ 0 ∷ [])
      ∷ words (5 ∷ 0 ∷ 2 ∷ 0 ∷ 2 ∷ 5 ∷ 2 ∷ 2 ∷ 2 ∷ 2 ∷ 3 ∷ 0 ∷ 0 ∷ 1 ∷ 0 ∷ 1 ∷ 0 ∷ 1 ∷ 2 ∷ 12 ∷ [])
      ∷ words (2 ∷ 0 ∷ 0 ∷ 12 ∷ 0 ∷ [])
      ∷ words (2 ∷ 0 ∷ 1 ∷ 12 ∷ 1 ∷ 0 ∷ 1 ∷ 0 ∷ 1 ∷ 2 ∷ 14 ∷ [])
      ∷ []

-- ---- a lock that spins: combolock_t m; void cb(u32 x){} void bad(void){combolock(&m); kcall(cb,1);}   where `cb` is of the user half

abbrev pub rests : Body
rests = body (param u32 ∷ []) ty.Void []

abbrev pub locks_and_calls : Body
locks_and_calls = body [] ty.Void (serves 1 10 (Term.Addr (Lvalue.Global 0) ∷ []) ∷ serves 2 15 (Term.Lit (value.Fn 0) ∷ number 1 ∷ []) ∷ [])

abbrev pub spinning : Driver
spinning =
    cut
    (record {
      struct = job;
      pointer = takes_word;
      globals = of_type ty.Lock (value.Lock Free ∷ []) ∷ [];
      funcs = taking_word (codes "cb") ∷ named (codes "bad") ∷ [];
      bodies = rests ∷ locks_and_calls ∷ [];
    })
    (true ∷ false ∷ [])
    ([] ∷ [] ∷ [])

abbrev pub call_bad : Bound
call_bad = just (calls 1 ∷ [])

abbrev pub spinning_end : End
spinning_end = ends.Stop stop.Atomic (Some (at_stmt 1 2))

abbrev pub spinning_outcome : Outcome
spinning_outcome = outcome (began (codes "bad") [] ∷ []) spinning_end 2 1 (object 8 1 (seen.Held ∷ []) ∷ [])

-- no message is sent, and both runs stop where the lock is held
pub record MayNotCallBack : Type 0 where
  pub sent : (split_run spinning call_bad 1000000 []).sent ≡ []
  pub end : end_of (split_run spinning call_bad 1000000 []).pending ≡ Some spinning_end
  pub outcome : outcome_of spinning.program (finish spinning_end (kernel_in (split_run spinning call_bad 1000000 []).pending).world) ≡ spinning_outcome
  pub watched : outcome_of spinning.program (watched_of spinning call_bad 1000000) ≡ spinning_outcome
