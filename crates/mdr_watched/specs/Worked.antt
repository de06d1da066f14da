-- for proofs
-- Small drivers in two halves, worked out: what their watched runs show.
use Rattle.std.specs.Prelude.{◌≡◌, ℕ, Bool, true, false, List, [], ◌∷◌, map, get_or, codes, pos, Some, None, slice_get}
use Rattle.mdr_core.specs.declared.kind.Kind.TheVariants.{U32, U64, S8}
use Rattle.mdr_core.specs.declared.code.RelOp.TheVariants.{Eq, Lt}
use Rattle.mdr_core.specs.declared.plan.Half.{Half}
use Rattle.mdr_core.specs.declared.plan.Half.TheVariants.{Kernel, User}
use Rattle.mdr_core.specs.declared.plan.Key.{Key}
use Rattle.mdr_core.specs.declared.plan.Key.TheVariants as key
use Rattle.mdr_core.specs.declared.program.Field.{Field}
use Rattle.mdr_core.specs.declared.program.Func.{Func}
use Rattle.mdr_core.specs.declared.program.Param.{Param}
use Rattle.mdr_core.specs.declared.program.StructDef.{StructDef}
use Rattle.mdr_core.specs.declared.stop.StopKind.TheVariants as stop
use Rattle.mdr_core.specs.declared.types.Ann.{Ann}
use Rattle.mdr_core.specs.declared.types.Ann.TheVariants.{Single, Array, Sentinel, NullTerm, Opaque}
use Rattle.mdr_core.specs.declared.types.LenOf.TheVariants.{Const, Sibling}
use Rattle.mdr_core.specs.declared.types.Ty.{Ty}
use Rattle.mdr_core.specs.declared.types.Ty.TheVariants as ty
use Rattle.mdr_core.specs.declared.value.Value.{Value}
use Rattle.mdr_core.specs.declared.value.Value.TheVariants as value
use Rattle.mdr_core.specs.Code.{Term, Lvalue, Called, Goal, Code, Codes}
use Rattle.mdr_core.specs.Layout.{chosen}
use Rattle.mdr_device.specs.declared.rule.Effect.TheVariants as effect
use Rattle.mdr_device.specs.declared.rule.Trigger.TheVariants as trigger
use Rattle.mdr_device.specs.Worked.{rule}
use Rattle.mdr_meaning.specs.Bodies.{without_funcs}
use Rattle.mdr_meaning.specs.Sides.{Body}
use Rattle.mdr_meaning.specs.Worked.{add, at_stmt, behind, body, code, field, glob, local, node_pointer, number, param, side_by, u32, var, calls as calls_func, form}
use Rattle.mdr_model.specs.declared.command.Command.TheVariants as command
use Rattle.mdr_model.specs.declared.outcome.End.{End}
use Rattle.mdr_model.specs.declared.outcome.End.TheVariants as ends
use Rattle.mdr_model.specs.declared.outcome.Object.{Object}
use Rattle.mdr_model.specs.declared.outcome.Seen.{Seen}
use Rattle.mdr_model.specs.declared.outcome.Seen.TheVariants as seen
use Rattle.mdr_bound.specs.declared.bound.Bound.{Bound}
use Rattle.mdr_plain.specs.declared.outcome.Happened.{Happened}
use Rattle.mdr_plain.specs.declared.outcome.Happened.TheVariants as happened
use Rattle.mdr_plain.specs.declared.outcome.Outcome.{Outcome}
use Rattle.mdr_plain.specs.Outcome.{outcome_of}
use Rattle.mdr_plain.specs.Worked.{Driver as Written, allocates, calls, just, named, number_of, of_type, program_of, with_rules, zero_u32}
use Rattle.mdr_plain.specs.WorkedInterrupts.{counts_hit, go_and_show, hitting, requests, sets, writes}
use Rattle.mdr_plain.specs.WorkedRuns.{add_buffer, alias, buffer, filling, of_dev, setup_and_take, setup_buffer}
use Rattle.mdr_watched.specs.Driver.{Driver}
use Rattle.mdr_watched.specs.Watched.{watched_of}

-- ---- words

abbrev pub half_of : Bool → Half
half_of true = User
half_of false = Kernel

-- a driver of which these functions are of the user half, each with its keys
abbrev pub cut : Written → (users : List Bool) → (touched : List (List Key)) → Driver
cut d users touched = record {
  program = program_of d;
  plan = record { types = (program_of d).types; names = map (λ (f : Func). f.name) d.funcs; halves = map half_of users; roots = []; down = []; keys = touched };
  kernel = side_by number_of (without_funcs (program_of d)) (λ f. chosen (get_or users f false) None (slice_get d.bodies f)) false;
  user = side_by number_of (without_funcs (program_of d)) (λ f. chosen (get_or users f false) (slice_get d.bodies f) None) true;
}

-- what a run of at most 100 ticks shows
abbrev pub shown : Driver → Bound → Outcome
shown d script = outcome_of d.program (watched_of d script 100)

abbrev pub outcome : List Happened → End → (ticks live : ℕ) → List Object → Outcome
outcome events end ticks live objects = record { events = events; end = end; ticks = ticks; live = live; objects = objects }

abbrev pub stops_at : (func stmt : ℕ) → End
stops_at f n = ends.Stop stop.Annotation (Some (at_stmt f n))

abbrev pub object : (ty count : ℕ) → List Seen → Object
object ty count held = record { ty = ty; count = count; cells = held }

abbrev pub int : ℕ → Seen
int n = seen.Int (pos n)

abbrev pub word : ℕ → Object
word n = object 2 1 (int n ∷ [])

abbrev pub began : (name : List ℕ) → List Value → Happened
began name args = happened.Call name args

abbrev pub returned : Happened
returned = happened.Ret value.NoValue

-- a function is called with a number, and then another one
abbrev pub setup_then : ℕ → (func : ℕ) → Bound
setup_then n f = just (command.Call 0 (value.Int U32 (pos n) ∷ []) ∷ calls f ∷ [])

abbrev pub set_up : ℕ → List Happened → List Happened
set_up n events = began (codes "setup") (value.Int U32 (pos n) ∷ []) ∷ returned ∷ events

abbrev pub annotated : Ann → Field
annotated ann = record (field ty.VoidPtr) { ann = ann }

-- ---- an array: struct dev {u32 n; u8 *buf __array(n);}; struct dev d; u32 sum; the kernel's `setup`, and `add` of `mdr_plain`;
-- void more(void){d.n=d.n+1; sum=d.buf[3];} void look(void){sum=d.buf==NULL;}

abbrev pub sized : StructDef
sized = record { name = codes "dev"; fields = field u32 ∷ annotated (Array (Sibling 0)) ∷ [] }

abbrev pub more : Body
more = body [] ty.Void
    (Code.Assign 1 (of_dev 0) (add (Term.Load (of_dev 0)) (number 1))
    ∷ Code.Assign 2 (Lvalue.Global 1) (Term.Conv U32 (Term.Load (Lvalue.Index (Lvalue.Deref (Term.Load (of_dev 1))) (number 3))))
    ∷ [])

abbrev pub looks_at : Body
looks_at = body [] ty.Void (Code.Assign 1 (Lvalue.Global 1) (Term.Conv U32 (Term.Rel Eq (Term.Load (of_dev 1)) (Term.Lit value.Null))) ∷ [])

abbrev pub all_of_dev : List Key
all_of_dev = key.Global 1 ∷ key.Field 0 0 ∷ key.Field 0 1 ∷ key.Elem 0 ∷ []

abbrev pub arrays : Driver
arrays = cut
    (record buffer {
      struct = sized;
      funcs = named (codes "setup") ∷ named (codes "add") ∷ named (codes "more") ∷ named (codes "look") ∷ [];
      bodies = setup_buffer ∷ add_buffer ∷ more ∷ looks_at ∷ [];
    })
    (false ∷ true ∷ true ∷ true ∷ [])
    ([] ∷ all_of_dev ∷ all_of_dev ∷ (key.Global 1 ∷ key.Field 0 1 ∷ []) ∷ [])

abbrev pub dev_and : (length sum : ℕ) → List Object
dev_and n sum = object 9 1 (int n ∷ seen.At 3 0 ∷ []) ∷ word sum ∷ object 0 4 (int 0 ∷ int 0 ∷ int 0 ∷ int 0 ∷ []) ∷ []

pub record MeasuresArrays : Type 0 where
  pub four : shown arrays (setup_then 4 1) ≡ outcome (set_up 4 (began (codes "add") [] ∷ returned ∷ [])) ends.Ok 18 3 (dev_and 4 0)
  -- longer than its block: the function doesn't begin
  pub five : shown arrays (setup_then 5 1) ≡ outcome (set_up 5 (began (codes "add") [] ∷ [])) (stops_at 1 0) 2 3 (dev_and 5 0)
  -- what was behind the end when the function began isn't visible, whatever the length is now
  pub more : shown arrays (setup_then 3 2) ≡ outcome (set_up 3 (began (codes "more") [] ∷ [])) (stops_at 2 2) 4 3 (dev_and 4 0)
  -- a function that touches no byte measures none
  pub blind : shown arrays (setup_then 5 3) ≡ outcome (set_up 5 (began (codes "look") [] ∷ returned ∷ [])) ends.Ok 3 3 (dev_and 5 0)

-- ---- a sentinel: struct ent {u32 id; u32 val;}; struct ent *tab __sentinel(id); u32 sum;
-- void setup(u32 n){u32 i; tab=kcalloc(3,struct ent); i=0; while(i<n){tab[i].id=i+1; tab[i].val=10; i=i+1;}}
-- void total(void){struct ent *p; p=tab; sum=0; while(p->id){sum=sum+p->val; p=p+1;}}

abbrev pub ent : StructDef
ent = record { name = codes "ent"; fields = field u32 ∷ field u32 ∷ [] }

abbrev pub entry : (field : ℕ) → Lvalue
entry f = Lvalue.Member (Lvalue.Index (Lvalue.Deref (glob 0)) (var 1)) f

abbrev pub setup_table : Body
setup_table = body (param u32 ∷ local u32 ∷ []) ty.Void
    (Code.Declare 1 1
    ∷ allocates 2 2 (Lvalue.Global 0) (ty.Struct 0) (Term.Lit (value.Int U64 (pos 3)) ∷ [])
    ∷ Code.Assign 3 (Lvalue.Slot 1) (number 0)
    ∷ Code.Loop 4 (Term.Rel Lt (var 1) (var 0)) Codes.End
    (code (Code.Assign 5 (entry 0) (add (var 1) (number 1)) ∷ Code.Assign 6 (entry 1) (number 10) ∷ Code.Assign 7 (Lvalue.Slot 1) (add (var 1) (number 1)) ∷ []))
    ∷ [])

abbrev pub total : Body
total = body (local ty.VoidPtr ∷ []) ty.Void
    (Code.Declare 1 0
    ∷ Code.Assign 2 (Lvalue.Slot 0) (glob 0)
    ∷ Code.Assign 3 (Lvalue.Global 1) (number 0)
    ∷ Code.Loop 4 (Term.Load (behind 0 0)) Codes.End
    (code (Code.Assign 5 (Lvalue.Global 1) (add (glob 1) (Term.Load (behind 0 1))) ∷ Code.Assign 6 (Lvalue.Slot 0) (Term.Move false (var 0) (number 1)) ∷ []))
    ∷ [])

abbrev pub tables : Driver
tables = cut
    (record {
      struct = ent;
      pointer = node_pointer;
      globals = record (of_type ty.VoidPtr (value.Null ∷ [])) { ann = Sentinel 0 } ∷ of_type u32 (zero_u32 ∷ []) ∷ [];
      funcs = named (codes "setup") ∷ named (codes "total") ∷ [];
      bodies = setup_table ∷ total ∷ [];
    })
    (false ∷ true ∷ [])
    ([] ∷ (key.Global 0 ∷ key.Global 1 ∷ key.Field 0 0 ∷ key.Field 0 1 ∷ []) ∷ [])

abbrev pub table_and : List Seen → (sum : ℕ) → List Object
table_and held sum = object 10 1 (seen.At 3 0 ∷ []) ∷ word sum ∷ object 9 3 held ∷ []

pub record FindsSentinels : Type 0 where
  pub two : shown tables (setup_then 2 1) ≡ outcome (set_up 2 (began (codes "total") [] ∷ returned ∷ [])) ends.Ok 22 3 (table_and (int 1 ∷ int 10 ∷ int 2 ∷ int 10 ∷ int 0 ∷ int 0 ∷ []) 20)
  -- no element is the last
  pub three : shown tables (setup_then 3 1) ≡ outcome (set_up 3 (began (codes "total") [] ∷ [])) (stops_at 1 0) 16 3 (table_and (int 1 ∷ int 10 ∷ int 2 ∷ int 10 ∷ int 3 ∷ int 10 ∷ []) 0)

-- ---- a text: struct dev {char *name __nullterm;}; struct dev d; u32 len;
-- void setup(u32 n){u32 i; d.name=kcalloc(4,char); i=0; while(i<n){d.name[i]='x'; i=i+1;}} void measure(void){u32 i; i=0; while(d.name[i]){i=i+1;} len=i;}

abbrev pub letter : (slot : ℕ) → Lvalue
letter i = Lvalue.Index (Lvalue.Deref (Term.Load (of_dev 0))) (var i)

abbrev pub setup_name : Body
setup_name = body (param u32 ∷ local u32 ∷ []) ty.Void
    (Code.Declare 1 1
    ∷ allocates 2 2 (of_dev 0) (ty.Int S8) (Term.Lit (value.Int U64 (pos 4)) ∷ [])
    ∷ Code.Assign 3 (Lvalue.Slot 1) (number 0)
    ∷ Code.Loop 4 (Term.Rel Lt (var 1) (var 0)) Codes.End
    (code (Code.Assign 5 (letter 1) (Term.Lit (value.Int S8 (pos 120))) ∷ Code.Assign 6 (Lvalue.Slot 1) (add (var 1) (number 1)) ∷ []))
    ∷ [])

abbrev pub measure : Body
measure = body (local u32 ∷ []) ty.Void
    (Code.Declare 1 0
    ∷ Code.Assign 2 (Lvalue.Slot 0) (number 0)
    ∷ Code.Loop 3 (Term.Load (letter 0)) Codes.End (code (Code.Assign 4 (Lvalue.Slot 0) (add (var 0) (number 1)) ∷ []))
    ∷ Code.Assign 5 (Lvalue.Global 1) (var 0)
    ∷ [])

abbrev pub names : Driver
names = cut
    (record {
      struct = record { name = codes "dev"; fields = annotated NullTerm ∷ [] };
      pointer = ty.Ptr (ty.Int S8);
      globals = of_type (ty.Struct 0) (value.Null ∷ []) ∷ of_type u32 (zero_u32 ∷ []) ∷ [];
      funcs = named (codes "setup") ∷ named (codes "measure") ∷ [];
      bodies = setup_name ∷ measure ∷ [];
    })
    (false ∷ true ∷ [])
    ([] ∷ (key.Global 1 ∷ key.Field 0 0 ∷ key.Elem 4 ∷ []) ∷ [])

abbrev pub name_and : List Seen → (len : ℕ) → List Object
name_and held len = object 9 1 (seen.At 3 0 ∷ []) ∷ word len ∷ object 4 4 held ∷ []

pub record EndsTexts : Type 0 where
  -- the text is empty, and its end is visible
  pub empty : shown names (setup_then 0 1) ≡ outcome (set_up 0 (began (codes "measure") [] ∷ returned ∷ [])) ends.Ok 8 3 (name_and (int 0 ∷ int 0 ∷ int 0 ∷ int 0 ∷ []) 0)
  -- it has no end
  pub endless : shown names (setup_then 4 1) ≡ outcome (set_up 4 (began (codes "measure") [] ∷ [])) (stops_at 1 0) 16 3 (name_and (int 120 ∷ int 120 ∷ int 120 ∷ int 120 ∷ []) 0)

-- ---- an alias, with the bodies of `mdr_plain`: the kernel's `pop` takes the node off the list while the user's `take` holds it

abbrev pub aliases : Driver
aliases = cut alias (false ∷ true ∷ false ∷ []) ([] ∷ (key.Global 0 ∷ key.Global 1 ∷ key.Field 0 0 ∷ []) ∷ [] ∷ [])

-- the old set has the node, to which no global leads when it is read again
abbrev pub KeepsAlias : Type 0
KeepsAlias =
    shown aliases setup_and_take
    ≡ outcome (began (codes "setup") [] ∷ returned ∷ began (codes "take") [] ∷ returned ∷ []) ends.Ok 12 2 (object 10 1 (seen.Null ∷ []) ∷ word 9 ∷ [])

-- ---- an interrupt, with the driver of `mdr_plain`, where `go` is of the user half

abbrev pub interrupted : Driver
interrupted = cut hitting (false ∷ true ∷ []) ([] ∷ (key.Global 0 ∷ key.Global 1 ∷ []) ∷ [])

-- the line rises in the upcall, and the interrupt is taken behind its result
abbrev pub HoldsInterrupt : Type 0
HoldsInterrupt =
    shown interrupted go_and_show
    ≡ outcome
    (began (codes "go") []
    ∷ happened.Wrote 0 1
    ∷ happened.Read 3 7
    ∷ returned
    ∷ happened.Irq 0
    ∷ happened.Wrote 1 0
    ∷ happened.Show (codes "hits") (value.Int U32 (pos 1) ∷ [])
    ∷ [])
    ends.Ok 7 2 (word 1 ∷ word 7 ∷ [])

-- u32 hits; u32 seen; void h(void){hits=hits+1; writel(0,1);} void poke(void){writel(1,0); seen=1; seen=2;} void go(void){request_irq(h); poke(); seen=3;}

abbrev pub pokes : Body
pokes = body [] ty.Void (writes 1 1 0 ∷ sets 2 1 (number 1) ∷ sets 3 1 (number 2) ∷ [])

abbrev pub goes_down : Body
goes_down = body [] ty.Void (requests 1 ∷ calls_func 2 1 [] ∷ sets 3 1 (number 3) ∷ [])

abbrev pub poked : Driver
poked = cut
    (record hitting { funcs = named (codes "h") ∷ named (codes "poke") ∷ named (codes "go") ∷ []; bodies = counts_hit ∷ pokes ∷ goes_down ∷ [] })
    (false ∷ false ∷ true ∷ [])
    ([] ∷ [] ∷ (key.Global 0 ∷ key.Global 1 ∷ []) ∷ [])

abbrev pub raise_at_once : Bound
raise_at_once = with_rules (rule (trigger.Write 0) None (effect.Raise ∷ []) ∷ rule (trigger.Write 1) None (effect.Lower ∷ []) ∷ []) (calls 2 ∷ [])

-- the line rises in a function of the kernel half that user code calls, and there too the interrupt waits
abbrev pub HoldsInDowncall : Type 0
HoldsInDowncall =
    shown poked raise_at_once
    ≡ outcome (began (codes "go") [] ∷ happened.Wrote 0 1 ∷ returned ∷ happened.Irq 0 ∷ happened.Wrote 1 0 ∷ []) ends.Ok 8 2 (word 1 ∷ word 3 ∷ [])

-- ---- an opaque pointer: struct dev {u32 *c __opaque;}; struct dev d; u32 same; void setup(void){d.c=kzalloc(u32);}
-- void keep(void){u32 *p; p=d.c; d.c=p; same=p==d.c;} void look(void){u32 *p; p=d.c; same=*p;}

abbrev pub setup_opaque : Body
setup_opaque = body [] ty.Void (allocates 1 1 (of_dev 0) u32 [] ∷ [])

abbrev pub keeps : Body
keeps = body (local ty.VoidPtr ∷ []) ty.Void
    (Code.Declare 1 0
    ∷ Code.Assign 2 (Lvalue.Slot 0) (Term.Load (of_dev 0))
    ∷ Code.Assign 3 (of_dev 0) (var 0)
    ∷ Code.Assign 4 (Lvalue.Global 1) (Term.Conv U32 (Term.Rel Eq (var 0) (Term.Load (of_dev 0))))
    ∷ [])

abbrev pub looks_through : Body
looks_through = body (local ty.VoidPtr ∷ []) ty.Void
    (Code.Declare 1 0 ∷ Code.Assign 2 (Lvalue.Slot 0) (Term.Load (of_dev 0)) ∷ Code.Assign 3 (Lvalue.Global 1) (Term.Load (Lvalue.Deref (var 0))) ∷ [])

abbrev pub opaques : Driver
opaques = cut
    (record {
      struct = record { name = codes "dev"; fields = annotated Opaque ∷ [] };
      pointer = ty.Ptr u32;
      globals = of_type (ty.Struct 0) (value.Null ∷ []) ∷ of_type u32 (zero_u32 ∷ []) ∷ [];
      funcs = named (codes "setup") ∷ named (codes "keep") ∷ named (codes "look") ∷ [];
      bodies = setup_opaque ∷ keeps ∷ looks_through ∷ [];
    })
    (false ∷ true ∷ true ∷ [])
    ([] ∷ (key.Global 1 ∷ key.Field 0 0 ∷ []) ∷ (key.Global 1 ∷ key.Field 0 0 ∷ key.Elem 2 ∷ []) ∷ [])

abbrev pub opaque_and : (same : ℕ) → List Object
opaque_and same = object 9 1 (seen.At 3 0 ∷ []) ∷ word same ∷ word 0 ∷ []

pub record LooksThrough : Type 0 where
  -- it is kept, stored and compared
  pub keep : shown opaques (just (calls 0 ∷ calls 1 ∷ [])) ≡ outcome (began (codes "setup") [] ∷ returned ∷ began (codes "keep") [] ∷ returned ∷ []) ends.Ok 5 3 (opaque_and 1)
  -- what it points to may not be read
  pub look : shown opaques (just (calls 0 ∷ calls 2 ∷ [])) ≡ outcome (began (codes "setup") [] ∷ returned ∷ began (codes "look") [] ∷ []) (stops_at 2 3) 4 3 (opaque_and 0)

-- ---- an object of a local, with the driver of `mdr_plain`, all of which is of the user half: it is born while the upcall is open, and is visible

abbrev pub objects : Driver
objects = cut filling (true ∷ true ∷ []) ((key.Elem 2 ∷ []) ∷ (key.Global 0 ∷ key.Elem 2 ∷ []) ∷ [])

abbrev pub TouchesOwn : Type 0
TouchesOwn = shown objects (just (calls 1 ∷ [])) ≡ outcome (began (codes "f") [] ∷ returned ∷ []) ends.Ok 4 1 (word 7 ∷ [])

-- ---- a pointer that a function of the kernel half gives: u32 got;
-- struct node *make(void){struct node *p; p=kzalloc(struct node); return p;} void use(void){struct node *q; q=make(); q->v=3; got=q->v;}

abbrev pub makes_node : Body
makes_node = body (local ty.VoidPtr ∷ []) ty.VoidPtr (Code.Declare 1 0 ∷ allocates 2 1 (Lvalue.Slot 0) (ty.Struct 0) [] ∷ Code.Return 3 (Some (var 0)) ∷ [])

abbrev pub uses_node : Body
uses_node = body (local ty.VoidPtr ∷ []) ty.Void
    (Code.Declare 1 0
    ∷ Code.Call 2 (Goal.Into (Lvalue.Slot 0)) (form (Called.Direct 0) [])
    ∷ Code.Assign 3 (behind 0 0) (number 3)
    ∷ Code.Assign 4 (Lvalue.Global 0) (Term.Load (behind 0 0))
    ∷ [])

abbrev pub given : Ann → Driver
given ann = cut
    (record filling {
      funcs = record (named (codes "make")) { result = ty.VoidPtr; ann = ann } ∷ named (codes "use") ∷ [];
      bodies = makes_node ∷ uses_node ∷ [];
    })
    (false ∷ true ∷ [])
    ([] ∷ (key.Global 0 ∷ key.Field 0 0 ∷ []) ∷ [])

-- ---- a pointer that is passed: u32 g; u32 got; void take(u32 *p __array(n), u32 n){got=*p;}

abbrev pub takes : Body
takes = body (param ty.VoidPtr ∷ param u32 ∷ []) ty.Void (Code.Assign 1 (Lvalue.Global 1) (Term.Load (Lvalue.Deref (var 0))) ∷ [])

abbrev pub param_of : Ty → Ann → Param
param_of t ann = record { name = []; ty = t; ann = ann; object = false }

abbrev pub passed : Driver
passed = cut
    (record filling {
      globals = of_type u32 (value.Int U32 (pos 5) ∷ []) ∷ of_type u32 (zero_u32 ∷ []) ∷ [];
      funcs = record (named (codes "take")) { params = param_of ty.VoidPtr (Array (Sibling 1)) ∷ param_of u32 Single ∷ [] } ∷ [];
      bodies = takes ∷ [];
    })
    (true ∷ [])
    ((key.Global 0 ∷ key.Global 1 ∷ key.Elem 2 ∷ []) ∷ [])

-- the address of `g`, and a length
abbrev pub arguments : ℕ → List Value
arguments n = value.Ptr (record { block = record { slot = 0; serial = 0 }; first = 0; ty = 2; count = 1; index = 0 }) ∷ value.Int U32 (pos n) ∷ []

pub record PassesPointers : Type 0 where
  -- what the result points to is visible from then on
  pub result : shown (given Single) (just (calls 1 ∷ [])) ≡ outcome (began (codes "use") [] ∷ returned ∷ []) ends.Ok 7 2 (word 3 ∷ [])
  -- a result that is too long stops the statement that calls
  pub long : shown (given (Array (Const 2))) (just (calls 1 ∷ [])) ≡ outcome (began (codes "use") [] ∷ []) (stops_at 1 2) 5 2 (word 0 ∷ [])
  -- the length is another argument of the same call
  pub argument : shown passed (just (command.Call 0 (arguments 1) ∷ [])) ≡ outcome (began (codes "take") (arguments 1) ∷ returned ∷ []) ends.Ok 1 2 (word 5 ∷ word 5 ∷ [])
  pub beyond : shown passed (just (command.Call 0 (arguments 2) ∷ [])) ≡ outcome (began (codes "take") (arguments 2) ∷ []) (stops_at 0 0) 0 2 (word 5 ∷ word 0 ∷ [])
