-- believed
-- The calls of code, and the functions whose names stand in it.
use Rattle.std.specs.Prelude.{ℕ, ◌==◌, List, [], ◌∷◌, ◌++◌, Option, Some, None}
use Rattle.mdr_core.specs.declared.code.Stmt.{Stmt}
use Rattle.mdr_core.specs.declared.program.Program.{Program}
use Rattle.mdr_core.specs.declared.program.Func.{Func}
use Rattle.mdr_core.specs.declared.program.GlobalDef.{GlobalDef}
use Rattle.mdr_core.specs.declared.value.Value.{Value}
use Rattle.mdr_core.specs.declared.value.Value.TheVariants as value
use Rattle.mdr_core.specs.Code.{Term, Lvalue, Called, CallOf, Goal, Code, Codes}
use Rattle.mdr_core.specs.Folds.{codes_of}
use Rattle.mdr_core.specs.Layout.{chosen}

-- the code of a function, or nothing
abbrev pub body_code : Option (List Stmt) → Codes
body_code None = Codes.End
body_code (Some body) = codes_of body

-- ---- calls, in the order of the text

abbrev mutual
  pub calls : Code → List CallOf
  calls (Code.Declare n i) = []
  calls (Code.Text n i bytes) = []
  calls (Code.Assign n p e) = []
  calls (Code.Call n goal call) = call ∷ []
  calls (Code.If n e one other) = all_calls one ++ all_calls other
  calls (Code.Loop n e step body) = all_calls step ++ all_calls body
  calls (Code.Block body) = all_calls body
  calls (Code.Return n e) = []
  calls (Code.Jump n way) = []

  pub all_calls : Codes → List CallOf
  all_calls Codes.End = []
  all_calls (Codes.Then c cs) = calls c ++ all_calls cs

-- ---- names of functions, where they stand for their addresses: anywhere but as a direct callee (C99 6.3.2.1, paragraph 4)

abbrev pub value_names : Value → List ℕ
value_names (value.Int k n) = []
value_names value.Null = []
value_names (value.Ptr v) = []
value_names value.Dead = []
value_names (value.Fn f) = f ∷ []
value_names (value.Lock s) = []
value_names value.NoValue = []

abbrev mutual
  pub term_names : Term → List ℕ
  term_names (Term.Lit v) = value_names v
  term_names (Term.Load p) = lvalue_names p
  term_names (Term.Addr p) = lvalue_names p
  term_names (Term.Decay p) = lvalue_names p
  term_names (Term.Neg k e) = term_names e
  term_names (Term.Flip k e) = term_names e
  term_names (Term.Not e) = term_names e
  term_names (Term.Bin op k a b) = term_names a ++ term_names b
  term_names (Term.Rel op a b) = term_names a ++ term_names b
  term_names (Term.And a b) = term_names a ++ term_names b
  term_names (Term.Or a b) = term_names a ++ term_names b
  term_names (Term.Conv k e) = term_names e
  term_names (Term.ToVoid e) = term_names e
  term_names (Term.FromVoid t e) = term_names e
  term_names (Term.Move back p i) = term_names p ++ term_names i
  term_names (Term.Diff p q) = term_names p ++ term_names q

  pub lvalue_names : Lvalue → List ℕ
  lvalue_names (Lvalue.Slot i) = []
  lvalue_names (Lvalue.Object i) = []
  lvalue_names (Lvalue.Global g) = []
  lvalue_names (Lvalue.Deref e) = term_names e
  lvalue_names (Lvalue.Member p f) = lvalue_names p
  lvalue_names (Lvalue.Index p e) = lvalue_names p ++ term_names e

abbrev pub all_term_names : List Term → List ℕ
all_term_names [] = []
all_term_names (e ∷ es) = term_names e ++ all_term_names es

abbrev pub called_names : Called → List ℕ
called_names (Called.Direct f) = []
called_names (Called.Through e) = term_names e
called_names (Called.Service n) = []

abbrev pub call_names : CallOf → List ℕ
call_names call = called_names call.callee ++ all_term_names call.args

abbrev pub goal_names : Goal → List ℕ
goal_names Goal.Nowhere = []
goal_names (Goal.Into p) = lvalue_names p
goal_names Goal.Back = []

abbrev pub option_names : Option Term → List ℕ
option_names None = []
option_names (Some e) = term_names e

abbrev mutual
  pub code_names : Code → List ℕ
  code_names (Code.Declare n i) = []
  code_names (Code.Text n i bytes) = []
  code_names (Code.Assign n p e) = lvalue_names p ++ term_names e
  code_names (Code.Call n goal call) = goal_names goal ++ call_names call
  code_names (Code.If n e one other) = term_names e ++ (all_code_names one ++ all_code_names other)
  code_names (Code.Loop n e step body) = term_names e ++ (all_code_names step ++ all_code_names body)
  code_names (Code.Block body) = all_code_names body
  code_names (Code.Return n e) = option_names e
  code_names (Code.Jump n way) = []

  pub all_code_names : Codes → List ℕ
  all_code_names Codes.End = []
  all_code_names (Codes.Then c cs) = code_names c ++ all_code_names cs

-- in the bodies of functions
unfoldable pub body_names : List Func → List ℕ
body_names [] = []
body_names (func ∷ funcs) = all_code_names (body_code func.body) ++ body_names funcs

abbrev pub values_names : List Value → List ℕ
values_names [] = []
values_names (v ∷ vs) = value_names v ++ values_names vs

-- in the first values of globals
unfoldable pub global_names : List GlobalDef → List ℕ
global_names [] = []
global_names (def ∷ defs) = values_names def.init ++ global_names defs

-- the functions whose addresses are taken somewhere in a program
abbrev pub names_of : Program → List ℕ
names_of program = body_names program.funcs ++ global_names program.globals

-- ---- handlers: the functions that `request_irq`, service 7, is given

abbrev pub literal_names : Term → List ℕ
literal_names (Term.Lit v) = value_names v
literal_names _ = []

abbrev pub handler_names : List Term → List ℕ
handler_names [] = []
handler_names (e ∷ []) = literal_names e
handler_names (e ∷ d ∷ es) = []

abbrev pub handlers_by : Called → List Term → List ℕ
handlers_by (Called.Direct f) args = []
handlers_by (Called.Through e) args = []
handlers_by (Called.Service n) args = chosen (n == 7) (handler_names args) []

abbrev pub call_handlers : List CallOf → List ℕ
call_handlers [] = []
call_handlers (call ∷ cs) = handlers_by call.callee call.args ++ call_handlers cs

unfoldable pub func_handlers : List Func → List ℕ
func_handlers [] = []
func_handlers (func ∷ funcs) = call_handlers (all_calls (body_code func.body)) ++ func_handlers funcs

abbrev pub handlers_of : Program → List ℕ
handlers_of program = func_handlers program.funcs
