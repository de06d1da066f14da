-- believed
-- The code of a source's bodies, lowered to that of a program: one line for each form. What takes ticks of its own becomes statements, all with the number of the statement that it stands in, and a value that is kept lies in a new slot.
use Rattle.std.specs.Prelude.{ℕ, ◌+◌, ℤ, Bool, true, false, not, ◌&&◌, pos, List, [], ◌∷◌, ◌++◌, map, Option, Some, None}
use Rattle.mdr_core.specs.declared.code.BinOp.{BinOp}
use Rattle.mdr_core.specs.declared.code.BinOp.TheVariants.{Add, Sub}
use Rattle.mdr_core.specs.declared.code.CallForm.{CallForm}
use Rattle.mdr_core.specs.declared.code.Callee.{Callee}
use Rattle.mdr_core.specs.declared.code.Callee.TheVariants as callee
use Rattle.mdr_core.specs.declared.code.Expr.{Expr}
use Rattle.mdr_core.specs.declared.code.Expr.TheVariants as expr
use Rattle.mdr_core.specs.declared.code.Lval.{Lval}
use Rattle.mdr_core.specs.declared.code.Lval.TheVariants as lval
use Rattle.mdr_core.specs.declared.code.RelOp.TheVariants.{Eq}
use Rattle.mdr_core.specs.declared.code.Step.{Step}
use Rattle.mdr_core.specs.declared.code.Step.TheVariants as step
use Rattle.mdr_core.specs.declared.code.Stmt.{Stmt}
use Rattle.mdr_core.specs.declared.kind.Kind.{Kind}
use Rattle.mdr_core.specs.declared.kind.Kind.TheVariants.{S32}
use Rattle.mdr_core.specs.declared.program.Local.{Local}
use Rattle.mdr_core.specs.declared.types.Ty.{Ty, out-Ty}
use Rattle.mdr_core.specs.declared.types.Ty.TheOpen.{Ty-F}
use Rattle.mdr_core.specs.declared.types.Ty.TheVariants as type
use Rattle.mdr_core.specs.declared.value.Value.{Value}
use Rattle.mdr_core.specs.declared.value.Value.TheVariants as value
use Rattle.mdr_core.specs.Conversions.{promoted}
use Rattle.mdr_core.specs.Kinds.{is_same_kind}
use Rattle.mdr_core.specs.Layout.{chosen}
use Rattle.mdr_rich.specs.declared.code.CallForm.{CallForm as RichCallForm}
use Rattle.mdr_rich.specs.declared.code.Clause.{Clause as RichClause}
use Rattle.mdr_rich.specs.declared.code.Expr.{Expr as RichExpr}
use Rattle.mdr_rich.specs.declared.code.Lval.{Lval as RichLval}
use Rattle.mdr_rich.specs.declared.code.Step.{Step as RichStep}
use Rattle.mdr_rich.specs.declared.code.Step.TheOpen.{Step-F, Clause-F, Stmt-F}
use Rattle.mdr_rich.specs.declared.code.Step.TheFolds.{fold-Step, fold-Clause, fold-Stmt}
use Rattle.mdr_rich.specs.declared.code.Stmt.{Stmt as RichStmt}
use Rattle.mdr_rich.specs.Activity.{is_active, is_active_place, are_active, is_settled}
use Rattle.mdr_rich.specs.Carried.{type_of, type_at}
use Rattle.mdr_rich.specs.Code.{Term, Lvalue, Called, Terms, term_list}
use Rattle.mdr_rich.specs.Folds.{term_of, lvalue_of, called_of}
use Rattle.mdr_lower.specs.declared.work.Work.{Work}

-- ---- statements and new slots

-- nothing yet, where the first new slot has this number
abbrev pub begun : (next : ℕ) → Work
begun c = record { code = []; slots = []; next = c }

abbrev pub stmt : (number : ℕ) → Step → Stmt
stmt n s = record { number = n; step = s }

-- a statement behind those so far
abbrev pub put : (number : ℕ) → Step → Work → Work
put n s w = record { code = w.code ++ stmt n s ∷ []; slots = w.slots; next = w.next }

-- statements that stand inside another
abbrev pub inside : Work → Work
inside w = record { code = []; slots = w.slots; next = w.next }

-- behind statements inside another, which have taken slots
abbrev pub outside : Work → (inner : Work) → Work
outside w v = record { code = w.code; slots = v.slots; next = v.next }

-- a new slot has no name
abbrev pub new_slot : Ty → Local
new_slot t = record { name = []; ty = t; count = 1; array = false; object = false }

abbrev pub with_slot : Ty → Work → Work
with_slot t w = record { code = w.code; slots = w.slots ++ new_slot t ∷ []; next = w.next + 1 }

abbrev pub slot_value : ℕ → Expr
slot_value i = expr.Load (lval.Slot i)

-- ---- parts

abbrev pub mapped : {A B : Type 0} → (A → B) → Work × A → Work × B
mapped f x = (x.0, f x.1)

abbrev pub joined : {A B C : Type 0} → (A → B → C) → A → Work × B → Work × C
joined f a y = (y.0, f a y.1)

-- one part behind another
abbrev pub two : {A B C : Type 0} → (A → B → C) → Work × A → (Work → Work × B) → Work × C
two f x b = joined f x.1 (b x.0)

-- the statement that is made of its parts
abbrev pub done : (number : ℕ) → Work × Step → Work
done n x = put n x.1 x.0

-- a value is kept in a new slot
abbrev pub kept : (number : ℕ) → Ty → Work × Expr → Work × Expr
kept n t x = (put n (step.Assign (lval.Slot x.0.next) x.1) (with_slot t x.0), slot_value x.0.next)

-- a part is kept in front of an active one
abbrev pub part : Bool → (number : ℕ) → Ty → Work × Expr → Work × Expr
part is_kept n t x = chosen is_kept (kept n t x) x

abbrev pub keeps : (later : Bool) → Term → Bool
keeps later e = later && not (is_settled e)

-- ---- forms that are kept

abbrev pub called : (number : ℕ) → Ty → Work × CallForm → Work × Expr
called n t x = (put n (step.Call (Some (lval.Slot x.0.next)) x.1) (with_slot t x.0), slot_value x.0.next)

-- `!!e`
abbrev pub truth : Expr → Expr
truth e = expr.Not (expr.Not e)

-- one of two lists, each of which leaves its value in slot i
abbrev pub arm : (number i : ℕ) → Work × Expr → Work
arm n i x = put n (step.Assign (lval.Slot i) x.1) x.0

abbrev pub armed : (number i : ℕ) → (test : Expr) → (front one other : Work) → Work × Expr
armed n i e w a b = (put n (step.If e a.code b.code) (outside w b), slot_value i)

-- behind the test: the arms have slots of their own behind that of their value
abbrev pub choice_arms : (number i : ℕ) → Expr → Work → (Work → Work × Expr) → Work → Work × Expr
choice_arms n i e w b one = armed n i e w one (arm n i (b (inside one)))

abbrev pub choice : (number : ℕ) → Ty → Work × Expr → (one other : Work → Work × Expr) → Work × Expr
choice n t x a b = choice_arms n x.0.next x.1 (with_slot t x.0) b (arm n x.0.next (a (inside (with_slot t x.0))))

-- `a && b` and `a || b` with an active b: the truth of a lies in the slot, and that of b where it is needed
abbrev pub and_arms : (number i : ℕ) → Work × Expr → (Work → Work × Expr) → Work × Expr
and_arms n i x b = armed n i x.1 x.0 (arm n i (mapped truth (b (inside x.0)))) (inside (arm n i (mapped truth (b (inside x.0)))))

abbrev pub or_arms : (number i : ℕ) → Work × Expr → (Work → Work × Expr) → Work × Expr
or_arms n i x b = armed n i x.1 x.0 (inside x.0) (arm n i (mapped truth (b (inside x.0))))

abbrev pub conjoined : (number : ℕ) → Work × Expr → (Work → Work × Expr) → Work × Expr
conjoined n x b = and_arms n x.0.next (kept n (type.Int S32) (mapped truth x)) b

abbrev pub disjoined : (number : ℕ) → Work × Expr → (Work → Work × Expr) → Work × Expr
disjoined n x b = or_arms n x.0.next (kept n (type.Int S32) (mapped truth x)) b

-- ---- `++` and `--`

abbrev pub as_kind : (from to : Kind) → Expr → Expr
as_kind k l e = chosen (is_same_kind k l) e (expr.Conv l e)

abbrev pub step_operator : (up : Bool) → BinOp
step_operator true = Add
step_operator false = Sub

abbrev pub stepped_by : (up : Bool) → Expr → Ty-F Ty → Expr
stepped_by up e (Ty-F.Int k) = as_kind (promoted k) k (expr.Bin (step_operator up) (promoted k) (as_kind k (promoted k) e) (expr.Lit (value.Int (promoted k) (pos 1))))
stepped_by up e Ty-F.Lock = e
stepped_by up e (Ty-F.Struct s) = e
stepped_by up e (Ty-F.Ptr t) = expr.Move (not up) e (expr.Lit (value.Int S32 (pos 1)))
stepped_by up e Ty-F.VoidPtr = e
stepped_by up e (Ty-F.Fun ts) = e
stepped_by up e Ty-F.Void = e

-- a value of the type, and one more or less: as by `+= 1` (C99 6.5.2.4, paragraph 2)
abbrev pub stepped : (up : Bool) → Ty → Expr → Expr
stepped up t e = stepped_by up e (out-Ty t)

-- the new value is taken where it is stored
abbrev pub stepped_first : (number : ℕ) → Ty → (up : Bool) → Work × Lval → Work × Expr
stepped_first n t up x = kept n t (put n (step.Assign x.1 (stepped up t (expr.Load x.1))) x.0, expr.Load x.1)

-- the old value is taken, and then stored with one more
abbrev pub stepped_behind : (number : ℕ) → Ty → (up : Bool) → Work × Lval → Work × Expr
stepped_behind n t up x = (put n (step.Assign x.1 (stepped up t (slot_value x.0.next))) (kept n t (x.0, expr.Load x.1)).0, slot_value x.0.next)

abbrev pub bumped : (number : ℕ) → Ty → (up first : Bool) → Work × Lval → Work × Expr
bumped n t up first x = chosen first (stepped_first n t up x) (stepped_behind n t up x)

-- ---- expressions, lvalues, and what is called

abbrev pub as_call : Option Ty → Option (List ℕ) → Callee → List Expr → CallForm
as_call shape format f args = record { callee = f; args = args; shape = shape; format = format }

abbrev pub further : (done : List Expr) → Work × Expr → (List Expr → Work → Work × List Expr) → Work × List Expr
further es x go = go (es ++ x.1 ∷ []) x.0

-- an element of an array by a pointer to its first one
abbrev pub element : Expr → Expr → Lval
element p i = lval.Deref (expr.Move false p i)

abbrev mutual
  pub low : (number : ℕ) → Term → Work → Work × Expr
  low n (Term.Lit v) w = (w, expr.Lit v)
  low n (Term.Load p) w = mapped expr.Load (low_place n p w)
  low n (Term.Addr p) w = mapped expr.Addr (low_place n p w)
  low n (Term.Decay p) w = mapped expr.Decay (low_place n p w)
  low n (Term.Neg k e) w = mapped (expr.Neg k) (low n e w)
  low n (Term.Flip k e) w = mapped (expr.Flip k) (low n e w)
  low n (Term.Not e) w = mapped expr.Not (low n e w)
  low n (Term.Bin op k a b) w = two (expr.Bin op k) (part (keeps (is_active b) a) n (type_of a) (low n a w)) (low n b)
  low n (Term.Rel op a b) w = two (expr.Rel op) (part (keeps (is_active b) a) n (type_of a) (low n a w)) (low n b)
  low n (Term.And a b) w = chosen (is_active b) (conjoined n (low n a w) (low n b)) (two expr.And (low n a w) (low n b))
  low n (Term.Or a b) w = chosen (is_active b) (disjoined n (low n a w) (low n b)) (two expr.Or (low n a w) (low n b))
  low n (Term.Conv k e) w = mapped (expr.Conv k) (low n e w)
  low n (Term.ToVoid e) w = mapped expr.ToVoid (low n e w)
  low n (Term.FromVoid t e) w = mapped (expr.FromVoid t) (low n e w)
  low n (Term.Move back p i) w = two (expr.Move back) (part (keeps (is_active i) p) n (type_of p) (low n p w)) (low n i)
  low n (Term.Diff p q) w = two expr.Diff (part (keeps (is_active q) p) n (type_of p) (low n p w)) (low n q)
  low n (Term.Cond t c a b) w = choice n t (low n c w) (low n a) (low n b)
  low n (Term.Call t f args shape format) w = called n t (two (as_call shape format) (low_callee n (are_active args) f w) (low_args n args []))
  low n (Term.Bump t up first p) w = bumped n t up first (low_place n p w)

  pub low_place : (number : ℕ) → Lvalue → Work → Work × Lval
  low_place n (Lvalue.Slot i t) w = (w, lval.Slot i)
  low_place n (Lvalue.Object i t) w = (w, lval.Object i)
  low_place n (Lvalue.Global g t) w = (w, lval.Global g)
  low_place n (Lvalue.Deref e) w = mapped lval.Deref (low n e w)
  low_place n (Lvalue.Member p f t) w = mapped (λ (l : Lval). lval.Member l f) (low_place n p w)
  low_place n (Lvalue.Index p e) w = chosen (is_active e) (two element (kept n (type.Ptr (type_at p)) (mapped expr.Decay (low_place n p w))) (low n e)) (two lval.Index (low_place n p w) (low n e))

  pub low_callee : (number : ℕ) → (later : Bool) → Called → Work → Work × Callee
  low_callee n later (Called.Direct f) w = (w, callee.Direct f)
  low_callee n later (Called.Through e) w = mapped callee.Through (part (keeps later e) n (type_of e) (low n e w))
  low_callee n later (Called.Service s) w = (w, callee.Service s)

  -- arguments, behind those so far
  pub low_args : (number : ℕ) → Terms → (done : List Expr) → Work → Work × List Expr
  low_args n Terms.End es w = (w, es)
  low_args n (Terms.Then e rest) es w = further es (part (keeps (are_active rest) e) n (type_of e) (low n e w)) (low_args n rest)

-- ---- statements without statements inside

abbrev pub expr_lowered : (number : ℕ) → RichExpr → Work → Work × Expr
expr_lowered n e w = low n (term_of e) w

abbrev pub place_lowered : (number : ℕ) → RichLval → Work → Work × Lval
place_lowered n p w = low_place n (lvalue_of p) w

abbrev pub call_lowered : (number : ℕ) → RichCallForm → Work → Work × CallForm
call_lowered n form w = two (as_call form.shape form.format) (low_callee n (are_active (term_list (map term_of form.args))) (called_of form.callee) w) (low_args n (term_list (map term_of form.args)) [])

abbrev pub target_lowered : (number : ℕ) → Option RichLval → Work → Work × Option Lval
target_lowered n None w = (w, None)
target_lowered n (Some p) w = mapped Some (place_lowered n p w)

abbrev pub perhaps_lowered : (number : ℕ) → Option RichExpr → Work → Work × Option Expr
perhaps_lowered n None w = (w, None)
perhaps_lowered n (Some e) w = mapped Some (expr_lowered n e w)

-- the right side in front of the left one
abbrev pub assigned : (number : ℕ) → RichLval → RichExpr → Work → Work × Step
assigned n p e w = two (λ (v : Expr) (l : Lval). step.Assign l v) (part (keeps (is_active_place (lvalue_of p)) (term_of e)) n (type_of (term_of e)) (expr_lowered n e w)) (place_lowered n p)

abbrev pub call_made : (number : ℕ) → Option RichLval → RichCallForm → Work → Work × Step
call_made n target form w = two (λ (f : CallForm) (p : Option Lval). step.Call p f) (call_lowered n form w) (target_lowered n target)

-- ---- statements with those inside

-- one list of statements
abbrev pub run : Work → List (Work → Work) → Work
run w [] = w
run w (f ∷ fs) = run (f w) fs

abbrev pub within : Work → List (Work → Work) → Work
within w fs = run (inside w) fs

abbrev pub branches : (number : ℕ) → Expr → Work → (one other : Work) → Work
branches n e w a b = put n (step.If e a.code b.code) (outside w b)

abbrev pub branched_by : (number : ℕ) → Work × Expr → List (Work → Work) → (one : Work) → Work
branched_by n x other a = branches n x.1 x.0 a (within a other)

abbrev pub branched : (number : ℕ) → Work × Expr → (one other : List (Work → Work)) → Work
branched n x one other = branched_by n x other (within x.0 one)

abbrev pub blocked : (number : ℕ) → Work → (body : Work) → Work
blocked n w a = put n (step.Block a.code) (outside w a)

-- a loop's active test stands in its body: the loop is left where it fails
abbrev pub tested : (number : ℕ) → Work × Expr → Work
tested n x = put n (step.If x.1 [] (stmt n step.Break ∷ [])) x.0

abbrev pub turn : (number : ℕ) → Work × Expr → List (Work → Work) → Work
turn n x body = blocked 0 (tested n x) (within (tested n x) body)

abbrev pub always : Expr
always = expr.Lit (value.Int S32 (pos 1))

abbrev pub repeated : (number : ℕ) → Work → (test : Expr) → (body : Work) → Work
repeated n w e a = put n (step.While e a.code) (outside w a)

abbrev pub while_lowered : (number : ℕ) → RichExpr → List (Work → Work) → Work → Work
while_lowered n e body w = chosen (is_active (term_of e)) (repeated n w always (turn n (expr_lowered n e (inside w)) body)) (repeated n (expr_lowered n e w).0 (expr_lowered n e w).1 (within (expr_lowered n e w).0 body))

abbrev pub counted : (number : ℕ) → (front init : Work) → Option Expr → (next body : Work) → Work
counted n w a e b c = put n (step.For a.code e b.code c.code) (outside w c)

-- the test in front of the step and the body
abbrev pub counted_by : (number : ℕ) → (front init : Work) → Work × Option Expr → (next body : List (Work → Work)) → Work
counted_by n w a x next body = counted n w a x.1 (within x.0 next) (within (within x.0 next) body)

-- an active test in the body, behind the step
abbrev pub counted_in : (number : ℕ) → (front init : Work) → Term → (next : Work) → (body : List (Work → Work)) → Work
counted_in n w a e b body = counted n w a None b (turn n (low n e (inside b)) body)

abbrev pub counted_while : (number : ℕ) → (front init : Work) → Term → (next body : List (Work → Work)) → Work
counted_while n w a e next body = chosen (is_active e) (counted_in n w a e (within a next) body) (counted_by n w a (mapped Some (low n e (inside a))) next body)

abbrev pub for_lowered : (number : ℕ) → (front init : Work) → Option RichExpr → (next body : List (Work → Work)) → Work
for_lowered n w a None next body = counted_by n w a (a, None) next body
for_lowered n w a (Some e) next body = counted_while n w a (term_of e) next body

-- ---- `do` (C99 6.8.5.2): a `for` whose new slot is 1 in front of the first turn and 0 behind each

abbrev pub flagged : (number slot : ℕ) → ℤ → Work → Work
flagged n i x w = put n (step.Assign (lval.Slot i) (expr.Lit (value.Int S32 x))) w

abbrev pub again : (slot : ℕ) → Term → Term
again i e = Term.Or (Term.Load (Lvalue.Slot i (type.Int S32))) e

abbrev pub done_while : (number slot : ℕ) → Term → (body : List (Work → Work)) → Work → Work
done_while n i e body w = counted_while n w (flagged n i (pos 1) (inside w)) (again i e) (flagged n i (pos 0) ∷ []) body

abbrev pub do_lowered : (number : ℕ) → RichExpr → (body : List (Work → Work)) → Work → Work
do_lowered n e body w = done_while n w.next (term_of e) body (with_slot (type.Int S32) w)

-- ---- `switch` (C99 6.8.4.2): its value is kept in a new slot, and tried with the labels of each clause

abbrev pub is_label : (slot : ℕ) → Value → Expr
is_label i v = expr.Rel Eq (slot_value i) (expr.Lit v)

-- or it is one of these
abbrev pub or_label : (slot : ℕ) → Expr → List Value → Expr
or_label i e [] = e
or_label i e (v ∷ vs) = or_label i (expr.Or e (is_label i v)) vs

abbrev pub is_labelled : (slot : ℕ) → List Value → Expr
is_labelled i [] = expr.Lit (value.Int S32 (pos 0))
is_labelled i (v ∷ vs) = or_label i (is_label i v) vs

-- a clause: its labels, and what follows them
abbrev pub Branch : Type 0
Branch = List Value × List (Work → Work)

-- each clause stands in the `else` of the one before it, and behind the last one stands what `default` does, as a block
abbrev pub tried : (number slot : ℕ) → List Branch → (default : List (Work → Work)) → Work → Work
tried n i [] body w = blocked 0 w (within w body)
tried n i (c ∷ cs) body w = branched n (w, is_labelled i c.0) c.1 (tried n i cs body ∷ [])

abbrev pub switch_lowered : (number : ℕ) → RichExpr → List Branch → (default : List (Work → Work)) → Work → Work
switch_lowered n e cs body w = tried n (expr_lowered n e w).0.next cs body (kept n (type_of (term_of e)) (expr_lowered n e w)).0

abbrev pub step_layer : Step-F (ℕ → Work → Work) Branch (Work → Work) → ℕ → Work → Work
step_layer (Step-F.Declare i) n w = put n (step.Declare i) w
step_layer (Step-F.Text i text) n w = put n (step.Text i text) w
step_layer (Step-F.Assign p e) n w = done n (assigned n p e w)
step_layer (Step-F.Call target form) n w = done n (call_made n target form w)
step_layer (Step-F.If e one other) n w = branched n (expr_lowered n e w) one other
step_layer (Step-F.While e body) n w = while_lowered n e body w
step_layer (Step-F.For init test next body) n w = for_lowered n w (within w init) test next body
step_layer (Step-F.Do body e) n w = do_lowered n e body w
step_layer (Step-F.Switch e clauses body) n w = switch_lowered n e clauses body w
step_layer (Step-F.Return e) n w = done n (mapped step.Return (perhaps_lowered n e w))
step_layer (Step-F.ReturnCall form) n w = done n (mapped step.ReturnCall (call_lowered n form w))
step_layer Step-F.Break n w = put n step.Break w
step_layer Step-F.Continue n w = put n step.Continue w
step_layer Step-F.Empty n w = put n step.Empty w
step_layer (Step-F.Block body) n w = blocked n w (within w body)

abbrev pub clause_layer : Clause-F (ℕ → Work → Work) Branch (Work → Work) → Branch
clause_layer c = (c.labels, c.body)

abbrev pub stmt_layer : Stmt-F (ℕ → Work → Work) Branch (Work → Work) → Work → Work
stmt_layer s = s.step s.number

abbrev pub step_lowered : RichStep → ℕ → Work → Work
step_lowered = fold-Step (ℕ → Work → Work) Branch (Work → Work) step_layer clause_layer stmt_layer

abbrev pub clause_lowered : RichClause → Branch
clause_lowered = fold-Clause (ℕ → Work → Work) Branch (Work → Work) step_layer clause_layer stmt_layer

abbrev pub stmt_lowered : RichStmt → Work → Work
stmt_lowered = fold-Stmt (ℕ → Work → Work) Branch (Work → Work) step_layer clause_layer stmt_layer

-- the statements of a body, where the first new slot has this number
abbrev pub lowered : (next : ℕ) → List RichStmt → Work
lowered c ss = run (begun c) (map stmt_lowered ss)
