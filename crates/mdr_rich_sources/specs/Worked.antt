-- for proofs
-- Statements worked out: how many ticks each takes, in the function 0, with `u32 a, b; u32 arr[4]; u32 g1(void){return 1;}`, of which all is 0 at first; and whole functions.
use Rattle.std.specs.Prelude.{◌≡◌, ℕ, zero, suc, Bool, true, false, List, [], ◌∷◌, ◌++◌, map, Option, Some, None, pos}
use Rattle.mdr_core.specs.declared.code.BinOp.TheVariants.{Add, Sub}
use Rattle.mdr_core.specs.declared.code.RelOp.TheVariants.{Gt, Lt}
use Rattle.mdr_core.specs.declared.kind.Kind.TheVariants.{U32}
use Rattle.mdr_core.specs.declared.stop.StopKind.TheVariants as stop
use Rattle.mdr_core.specs.declared.types.Ty.TheVariants as type
use Rattle.mdr_core.specs.declared.value.Value.TheVariants as value
use Rattle.mdr_core.specs.declared.program.Program.{Program}
use Rattle.mdr_core.specs.Code.{Way}
use Rattle.mdr_meaning.specs.declared.wire.Wire.{Wire}
use Rattle.mdr_meaning.specs.declared.wire.Wire.TheVariants as wire
use Rattle.mdr_meaning.specs.Small.{mem, Ran, ran, Ended, Stopped, run, small_number}
use Rattle.mdr_meaning.specs.Tree.{Tree}
use Rattle.mdr_meaning.specs.Worked.{global, global_array, param, u32, w32, with_globals}
use Rattle.mdr_rich.specs.Code.{Term, Lvalue, Called, Terms, Goal, Code, Codes, Clauses}
use Rattle.mdr_rich.specs.Folds.{code_list}
use Rattle.mdr_rich_sources.specs.Functions.{rich_started}
use Rattle.mdr_rich_sources.specs.Expressions.{RichBody}

abbrev pub number : ℕ → Term
number n = Term.Lit (value.Int U32 (pos n))

abbrev pub var_a : Lvalue
var_a = Lvalue.Global 0 u32

abbrev pub var_b : Lvalue
var_b = Lvalue.Global 1 u32

abbrev pub arr : Lvalue
arr = Lvalue.Global 2 u32

abbrev pub a : Term
a = Term.Load var_a

abbrev pub b : Term
b = Term.Load var_b

abbrev pub add : Term → Term → Term
add x y = Term.Bin Add U32 x y

-- g1()
abbrev pub g1 : Term
g1 = Term.Call u32 (Called.Direct 1) Terms.End None None

abbrev pub ones : RichBody
ones = record { slots = []; result = u32; code = code_list (Code.Return 1 (Some (number 1)) ∷ []) }

abbrev pub with_one : Code → ℕ → Option RichBody
with_one c zero = Some (record { slots = []; result = type.Void; code = code_list (c ∷ []) })
with_one c (suc zero) = Some ones
with_one c (suc (suc f)) = None

abbrev pub globals : Program
globals = with_globals (global u32 ∷ global u32 ∷ global_array u32 4 ∷ [])

abbrev pub cells : (a b : ℕ) → List (List Wire)
cells a b = (w32 a ∷ []) ∷ (w32 b ∷ []) ∷ (w32 0 ∷ w32 0 ∷ w32 0 ∷ w32 0 ∷ []) ∷ []

-- what a statement leaves, and how many ticks it takes
abbrev pub ran_by : Code → Ran
ran_by c = run globals (rich_started (record { known = record { program = globals; number = small_number }; own = with_one c; asks = false }) 20 0 [] 0 Tree.Idle) (mem (cells 0 0) [] 0 [])

abbrev pub ticks_of : Code → ℕ
ticks_of c = (ran_by c).memory.ticks

-- `a = e;`
abbrev pub gives : Term → Code
gives e = Code.Assign 1 var_a e

abbrev pub as_u32 : Term → Term
as_u32 e = Term.Conv U32 e

-- `b++` and `++b`
abbrev pub stepped : (first : Bool) → Term
stepped first = Term.Bump u32 true first var_b

-- a part in front of an active one is taken, unless it is a literal or ends in a value that is kept anyway
abbrev pub PartsAreTaken : Type 0
PartsAreTaken =
    -- 1 + g1(), b + g1(), (b + b) + g1(), -b + g1(), ~b + g1(), (u32)!b + g1(), (u32)(b < b) + g1()
    (ticks_of (gives (add (number 1) g1)) ≡ 3)
    × (ticks_of (gives (add b g1)) ≡ 4)
    × (ticks_of (gives (add (add b b) g1)) ≡ 4)
    × (ticks_of (gives (add (Term.Neg U32 b) g1)) ≡ 4)
    × (ticks_of (gives (add (Term.Flip U32 b) g1)) ≡ 4)
    × (ticks_of (gives (add (as_u32 (Term.Not b)) g1)) ≡ 4)
    × (ticks_of (gives (add (as_u32 (Term.Rel Lt b b)) g1)) ≡ 4)
    -- a conversion counts as its operand: (u32)1 + g1(), (u32)b + g1(), (u32)g1() + g1()
    × (ticks_of (gives (add (as_u32 (number 1)) g1)) ≡ 3)
    × (ticks_of (gives (add (as_u32 b) g1)) ≡ 4)
    × (ticks_of (gives (add (as_u32 g1) g1)) ≡ 5)
    -- g1() + b, g1() + g1(), b++ + b++, ++b + ++b, (b ? 1 : 2) + g1()
    × (ticks_of (gives (add g1 b)) ≡ 3)
    × (ticks_of (gives (add g1 g1)) ≡ 5)
    × (ticks_of (gives (add (stepped false) (stepped false))) ≡ 5)
    × (ticks_of (gives (add (stepped true) (stepped true))) ≡ 5)
    × (ticks_of (gives (add (Term.Cond u32 b (number 1) (number 2)) g1)) ≡ 5)
    -- (b && g1()) + g1(), (g1() && b) + g1(), (b || g1()) + g1(), (g1() || b) + g1()
    × (ticks_of (gives (add (as_u32 (Term.And b g1)) g1)) ≡ 5)
    × (ticks_of (gives (add (as_u32 (Term.And g1 b)) g1)) ≡ 6)
    × (ticks_of (gives (add (as_u32 (Term.Or b g1)) g1)) ≡ 8)
    × (ticks_of (gives (add (as_u32 (Term.Or g1 b)) g1)) ≡ 6)

-- a call that isn't a part of anything takes one tick with what is done with it, and no more
abbrev pub CallsStandAlone : Type 0
CallsStandAlone =
    -- g1(); a = g1(); a = (u32)g1();
    (ticks_of (Code.Call 1 Goal.Nowhere (record { callee = Called.Direct 1; args = []; shape = None; format = None })) ≡ 2)
    × (ticks_of (Code.Call 1 (Goal.Into var_a) (record { callee = Called.Direct 1; args = []; shape = None; format = None })) ≡ 2)
    × (ticks_of (gives (as_u32 g1)) ≡ 3)

-- arrays, elements and pointers
abbrev pub PlacesAreTaken : Type 0
PlacesAreTaken =
    -- arr[g1()] = 5; arr[g1()] = b; arr[g1()] = g1(); a = arr[2]++; a = *(arr + g1());
    (ticks_of (Code.Assign 1 (Lvalue.Index arr g1) (number 5)) ≡ 4)
    × (ticks_of (Code.Assign 1 (Lvalue.Index arr g1) b) ≡ 5)
    × (ticks_of (Code.Assign 1 (Lvalue.Index arr g1) g1) ≡ 6)
    × (ticks_of (gives (Term.Bump u32 true false (Lvalue.Index arr (number 2)))) ≡ 3)
    × (ticks_of (gives (Term.Load (Lvalue.Deref (Term.Move false (Term.Decay arr) g1)))) ≡ 4)

-- `while (a++ < 2) ;` and what it leaves
abbrev pub LoopsTurn : Type 0
LoopsTurn = ran_by (Code.Loop 1 (Term.Rel Lt (Term.Bump u32 true false var_a) (number 2)) Codes.End (code_list (Code.Jump 2 Way.Ends ∷ []))) ≡ ran (Ended wire.NoValue) (mem (cells 3 0) [] 15 [])

-- `a = b++;`, `a = ++b;`, `a = b ? 3 : g1();`
abbrev pub ValuesAreRight : Type 0
ValuesAreRight =
    (ran_by (gives (stepped false)) ≡ ran (Ended wire.NoValue) (mem (cells 0 1) [] 3 []))
    × (ran_by (gives (stepped true)) ≡ ran (Ended wire.NoValue) (mem (cells 1 1) [] 3 []))
    × (ran_by (gives (Term.Cond u32 b (number 3) g1)) ≡ ran (Ended wire.NoValue) (mem (cells 1 0) [] 5 []))

-- ---- `do` and `switch`

abbrev pub run_of : Code → (a b ticks : ℕ) → Type 0
run_of c a b ticks = ran_by c ≡ ran (Ended wire.NoValue) (mem (cells a b) [] ticks [])

-- `do ..; while (e);`, with one statement
abbrev pub repeats : Code → Term → Code
repeats c e = Code.Do 1 (code_list (c ∷ [])) e

abbrev pub one_more : Lvalue → Term → Code
one_more p e = Code.Assign 2 p (add e (number 1))

abbrev pub less : Term → Term → Term
less x y = Term.Rel Lt x y

abbrev pub DoTurns : Type 0
DoTurns =
    -- do a++; while (a < 3);
    run_of (repeats (one_more var_a a) (less a (number 3))) 3 0 11
    -- do a++; while (a < g1());
    × run_of (repeats (one_more var_a a) (less a g1)) 1 0 16
    -- do b++; while (a++ < 1);
    × run_of (repeats (one_more var_b b) (less (Term.Bump u32 true false var_a) (number 1))) 2 2 24
    -- do break; while (a); do break; while (g1()); do continue; while (a);
    × run_of (repeats (Code.Jump 2 Way.Breaks) a) 0 0 3
    × run_of (repeats (Code.Jump 2 Way.Breaks) g1) 0 0 6
    × run_of (repeats (Code.Jump 2 Way.Continues) a) 0 0 5

-- `b = n;`, with the statement's number
abbrev pub b_is : (number value : ℕ) → Codes
b_is n m = code_list (Code.Assign n var_b (number m) ∷ [])

abbrev pub case : List ℕ → Codes → Clauses → Clauses
case ns body rest = Clauses.Clause (map (λ n. value.Int U32 (pos n)) ns) body rest

-- `switch (e) { case 1: b = 1; break; case 3: case 0: b = 2; break; default: b = 3; }`
abbrev pub three_ways : Term → Code
three_ways e = Code.Switch 1 e (case (1 ∷ []) (b_is 2 1) (case (3 ∷ 0 ∷ []) (b_is 4 2) (Clauses.Default (b_is 6 3))))

abbrev pub SwitchTries : Type 0
SwitchTries =
    -- switch (a) {} and switch (7) { default: b = 3; }
    run_of (Code.Switch 1 a (Clauses.Default Codes.End)) 0 0 1
    × run_of (Code.Switch 1 (number 7) (Clauses.Default (b_is 2 3))) 0 3 2
    -- one clause is tried, then two, and the default behind two; a call in front takes two ticks
    × run_of (three_ways (number 1)) 0 1 3
    × run_of (three_ways a) 0 2 4
    × run_of (three_ways (number 3)) 0 2 4
    × run_of (three_ways (number 2)) 0 3 4
    × run_of (three_ways g1) 0 1 5
    -- no clause, and no default: switch (a) { case 5: b = 1; }
    × run_of (Code.Switch 1 a (case (5 ∷ []) (b_is 2 1) (Clauses.Default Codes.End))) 0 0 2
    -- a `continue` and a `return` leave the clause: while (a < 2) { a++; switch (a) { case 1: continue; default: return; } }
    × run_of (Code.Loop 1 (less a (number 2)) Codes.End (code_list (one_more var_a a ∷ Code.Switch 3 a (case (1 ∷ []) (code_list (Code.Jump 4 Way.Continues ∷ [])) (Clauses.Default (code_list (Code.Return 5 None ∷ [])))) ∷ []))) 2 0 10

-- ---- whole functions, each with one that it calls

abbrev pub two_of : (callee caller : RichBody) → ℕ → Option RichBody
two_of callee caller zero = Some callee
two_of callee caller (suc zero) = Some caller
two_of callee caller (suc (suc f)) = None

abbrev pub pair : Program
pair = with_globals (global u32 ∷ global u32 ∷ [])

abbrev pub both_hold : (first second : ℕ) → List (List Wire)
both_hold x y = (w32 x ∷ []) ∷ (w32 y ∷ []) ∷ []

-- function 1 is called
abbrev pub whole_run : (callee caller : RichBody) → Ran
whole_run callee caller = run pair (rich_started (record { known = record { program = pair; number = small_number }; own = two_of callee caller; asks = false }) 20 1 [] 0 Tree.Idle) (mem (both_hold 0 0) [] 0 [])

-- u32 a; u32 b; u32 get(u32 x){return x+1;}
abbrev pub gets : RichBody
gets = record { slots = param u32 ∷ []; result = u32; code = code_list (Code.Return 1 (Some (add (Term.Load (Lvalue.Slot 0 u32)) (number 1))) ∷ []) }

abbrev pub get : Term → Term
get e = Term.Call u32 (Called.Direct 0) (Terms.Then e Terms.End) None None

-- void f(void){a=get(get(1))+get(2); b=a>5?a++:9; switch(b){case 6: case 7: a=0; break; default: a=1; break;}}
abbrev pub calling : RichBody
calling = record {
  slots = [];
  result = type.Void;
  code = code_list
      (Code.Assign 1 var_a (add (get (get (number 1))) (get (number 2)))
      ∷ Code.Assign 2 var_b (Term.Cond u32 (Term.Rel Gt a (number 5)) (Term.Bump u32 true false var_a) (number 9))
      ∷ Code.Switch 3 b (case (6 ∷ 7 ∷ []) (code_list (Code.Assign 4 var_a (number 0) ∷ [])) (Clauses.Default (code_list (Code.Assign 6 var_a (number 1) ∷ []))))
      ∷ []);
}

-- 7, 5 and 3
abbrev pub CallsAreRight : Type 0
CallsAreRight = whole_run gets calling ≡ ran (Ended wire.NoValue) (mem (both_hold 0 6) [] 15 [])

-- u32 n; u32 s; u32 dec(void){n-=1; return n;}
abbrev pub decrements : RichBody
decrements = record { slots = []; result = u32; code = code_list (Code.Assign 1 var_a (Term.Bin Sub U32 a (number 1)) ∷ Code.Return 2 (Some a) ∷ []) }

-- void g(void){n=3; while(dec()) s++; do s+=10; while(n++<1);}
abbrev pub looping : RichBody
looping = record {
  slots = [];
  result = type.Void;
  code = code_list
      (Code.Assign 1 var_a (number 3)
      ∷ Code.Loop 2 (Term.Call u32 (Called.Direct 0) Terms.End None None) Codes.End (code_list (Code.Assign 3 var_b (add b (number 1)) ∷ []))
      ∷ Code.Do 4 (code_list (Code.Assign 5 var_b (add b (number 10)) ∷ [])) (less (Term.Bump u32 true false var_a) (number 1))
      ∷ []);
}

-- 1, 18 and 24
abbrev pub LoopsAreRight : Type 0
LoopsAreRight = whole_run decrements looping ≡ ran (Ended wire.NoValue) (mem (both_hold 2 22) [] 43 [])

-- ---- a value is read again where it is used

-- u32 *p; u32 del(void){kfree(p); return 0;} u32 id(u32 *q, u32 n){return n;}: the object of p is block 4
abbrev pub pointer : Term
pointer = Term.Load (Lvalue.Global 3 (type.Ptr u32))

abbrev pub deletes : RichBody
deletes = record { slots = []; result = u32; code = code_list (Code.Call 1 Goal.Nowhere (record { callee = Called.Service 3; args = Term.ToVoid pointer ∷ []; shape = None; format = None }) ∷ Code.Return 2 (Some (number 0)) ∷ []) }

abbrev pub second_of : RichBody
second_of = record { slots = param (type.Ptr u32) ∷ param u32 ∷ []; result = u32; code = code_list (Code.Return 1 (Some (Term.Load (Lvalue.Slot 1 u32))) ∷ []) }

-- a = id(p, del()) + 1;
abbrev pub deleting : RichBody
deleting = record {
  slots = [];
  result = type.Void;
  code = code_list (gives (add (Term.Call u32 (Called.Direct 2) (Terms.Then pointer (Terms.Then (Term.Call u32 (Called.Direct 1) Terms.End None None) Terms.End)) None None) (number 1)) ∷ []);
}

abbrev pub three_of : (first second third : RichBody) → ℕ → Option RichBody
three_of x y z zero = Some x
three_of x y z (suc zero) = Some y
three_of x y z (suc (suc zero)) = Some z
three_of x y z (suc (suc (suc f))) = None

abbrev pub with_pointer : Program
with_pointer = with_globals (global u32 ∷ global u32 ∷ global_array u32 4 ∷ global (type.Ptr u32) ∷ [])

abbrev pub pointed : List (List Wire)
pointed = (wire.Ptr (record { serial = 4; first = 0; ty = 4; count = 1; index = 0 }) ∷ []) ∷ (w32 9 ∷ []) ∷ []

abbrev pub deleted : Ran
deleted = run with_pointer (rich_started (record { known = record { program = with_pointer; number = small_number }; own = three_of deleting deletes second_of; asks = false }) 20 0 [] 0 Tree.Idle) (mem (cells 0 0 ++ pointed) [] 0 [])

-- p is taken at the first tick, and del takes three; at the fifth, of the call of id, its object is dead
abbrev pub KeptValuesAreRead : Type 0
KeptValuesAreRead = deleted ≡ ran (Stopped stop.Dead (record { func = 0; stmt = 1 })) (mem (cells 0 0 ++ pointed) ((4 ∷ []) ∷ []) 5 (3 ∷ []))
