-- believed
-- Names of a script bound to a program, and arguments checked against parameters.
use Rattle.std.specs.Prelude.{◌≡◌, ℕ, Bool, true, false, ◌==◌, if◌then◌else◌, List, [], ◌∷◌, ◌++◌, length, Option, Some, None, Result, Ok, Err, ℤ, slice_get}
use Rattle.std.specs.List.{list_any, position}
use Rattle.std.specs.Str.{bytes_eq}
use Rattle.mdr_core.specs.declared.types.Ty.{Ty, out-Ty}
use Rattle.mdr_core.specs.declared.types.Ty.TheOpen.{Ty-F}
use Rattle.mdr_core.specs.declared.value.Value.{Value}
use Rattle.mdr_core.specs.declared.value.Value.TheVariants as value
use Rattle.mdr_core.specs.declared.program.Program.{Program}
use Rattle.mdr_core.specs.declared.program.GlobalDef.{GlobalDef}
use Rattle.mdr_core.specs.declared.program.Func.{Func}
use Rattle.mdr_core.specs.declared.program.Param.{Param}
use Rattle.mdr_core.specs.Kinds.{is_in_range}
use Rattle.mdr_faults.specs.Alike.{is_alike}
use Rattle.mdr_model.specs.declared.command.Command.{Command}
use Rattle.mdr_model.specs.declared.command.Command.TheVariants as command
use Rattle.mdr_script.specs.declared.line.ArgText.{ArgText}
use Rattle.mdr_script.specs.declared.line.ArgText.TheVariants as arg
use Rattle.mdr_script.specs.declared.line.LineWhat.{LineWhat}
use Rattle.mdr_script.specs.declared.line.LineWhat.TheVariants as what
use Rattle.mdr_script.specs.declared.line.ScriptLine.{ScriptLine}
use Rattle.mdr_script.specs.declared.script.Script.{Script}
use Rattle.mdr_bound.specs.declared.bound.Bound.{Bound}
use Rattle.mdr_script.specs.declared.unbound.Unbound.{Unbound}
use Rattle.mdr_script.specs.declared.unbound.Unbound.TheVariants as unbound
use Rattle.mdr_script.specs.declared.script_error.ScriptKind.{ScriptKind}
use Rattle.mdr_script.specs.declared.script_error.ScriptKind.TheVariants.{Range, NoFunction, NoGlobal, Arity, ArgKind}
use Rattle.mdr_script.specs.declared.script_error.ScriptError.{ScriptError}
use Rattle.mdr_script.specs.declared.script_error.ScriptError.TheVariants as error

abbrev pub and_then : {A B E : Type 0} → Result A E → (A → Result B E) → Result B E
and_then (Ok x) f = f x
and_then (Err e) f = Err e

-- what a function returned is what is bound, unless memory ran out
abbrev pub Misfits : {A : Type 0} → Unbound → Result A ScriptKind → Type 0
Misfits (unbound.Kind kind) bound = bound ≡ Err kind
Misfits unbound.OutOfMemory bound = Unit {0}

abbrev pub Binds : {A : Type 0} → Result A Unbound → Result A ScriptKind → Type 0
Binds (Ok x) bound = bound ≡ Ok x
Binds (Err e) bound = Misfits e bound

-- ---- names

abbrev pub func_number : List Func → List ℕ → Option ℕ
func_number funcs name = position (λ f. bytes_eq f.name name) funcs

abbrev pub global_number : List GlobalDef → List ℕ → Option ℕ
global_number globals name = position (λ g. bytes_eq g.name name) globals

abbrev pub type_number : List Ty → Ty → Option ℕ
type_number types ty = position (λ t. is_alike t ty) types

abbrev pub is_none : Option ℕ → Bool
is_none (Some n) = false
is_none None = true

-- the argument names no global that there is
abbrev pub is_unknown : List GlobalDef → ArgText → Bool
is_unknown globals (arg.Int n) = false
is_unknown globals arg.Null = false
is_unknown globals (arg.Global name) = is_none (global_number globals name)

-- ---- arguments, each by the type of its parameter

abbrev pub int_bound : Ty-F Ty → ℤ → Result Value ScriptKind
int_bound (Ty-F.Int k) n = if is_in_range k n then Ok (value.Int k n) else Err Range
int_bound Ty-F.Lock n = Err ArgKind
int_bound (Ty-F.Struct s) n = Err ArgKind
int_bound (Ty-F.Ptr t) n = Err ArgKind
int_bound Ty-F.VoidPtr n = Err ArgKind
int_bound (Ty-F.Fun ts) n = Err ArgKind
int_bound Ty-F.Void n = Err ArgKind

-- pointers, to functions too, may be null
abbrev pub null_bound : Ty-F Ty → Result Value ScriptKind
null_bound (Ty-F.Int k) = Err ArgKind
null_bound Ty-F.Lock = Err ArgKind
null_bound (Ty-F.Struct s) = Err ArgKind
null_bound (Ty-F.Ptr t) = Ok value.Null
null_bound Ty-F.VoidPtr = Ok value.Null
null_bound (Ty-F.Fun ts) = Ok value.Null
null_bound Ty-F.Void = Err ArgKind

-- whether a parameter takes the address of an object of this type
abbrev pub takes : Ty-F Ty → Ty → Bool
takes (Ty-F.Int k) target = false
takes Ty-F.Lock target = false
takes (Ty-F.Struct s) target = false
takes (Ty-F.Ptr t) target = is_alike t target
takes Ty-F.VoidPtr target = true
takes (Ty-F.Fun ts) target = false
takes Ty-F.Void target = false

-- a view of the whole global; a global's serial is its number
abbrev pub view_bound : (number : ℕ) → GlobalDef → Option ℕ → Result Value ScriptKind
view_bound i g (Some t) = Ok (value.Ptr (record { block = record { slot = 0; serial = i }; first = 0; ty = t; count = g.count; index = 0 }))
view_bound i g None = Err ArgKind

abbrev pub address_by : Program → Ty → (number : ℕ) → Option GlobalDef → Result Value ScriptKind
address_by program ty i (Some g) = if takes (out-Ty ty) g.ty then view_bound i g (type_number program.types g.ty) else Err ArgKind
address_by program ty i None = Err NoGlobal

abbrev pub address_of : Program → Ty → Option ℕ → Result Value ScriptKind
address_of program ty (Some i) = address_by program ty i (slice_get program.globals i)
address_of program ty None = Err NoGlobal

unfoldable pub address_bound : Program → Ty → List ℕ → Result Value ScriptKind
address_bound program ty name = address_of program ty (global_number program.globals name)

abbrev pub arg_bound : Program → Ty → ArgText → Result Value ScriptKind
arg_bound program ty (arg.Int n) = int_bound (out-Ty ty) n
arg_bound program ty arg.Null = null_bound (out-Ty ty)
arg_bound program ty (arg.Global name) = address_bound program ty name

-- the arguments behind those that are bound: the fault of the first that has one
abbrev pub args_behind : Program → List Value → List Param → List ArgText → Result (List Value) ScriptKind
args_behind program values [] [] = Ok values
args_behind program values [] (a ∷ args) = Err Arity
args_behind program values (p ∷ params) [] = Err Arity
args_behind program values (p ∷ params) (a ∷ args) = and_then (arg_bound program p.ty a) (λ v. args_behind program (values ++ v ∷ []) params args)

-- ---- commands

-- of several faults the first of NoGlobal, Arity, else that of the first argument with one
unfoldable pub values_bound : Program → List Param → List ArgText → Result (List Value) ScriptKind
values_bound program params args =
    if list_any (is_unknown program.globals) args then Err NoGlobal
    else (if length args == length params then args_behind program [] params args
    else Err Arity)

abbrev pub called : (number : ℕ) → Result (List Value) ScriptKind → Result Command ScriptKind
called f (Ok values) = Ok (command.Call f values)
called f (Err kind) = Err kind

abbrev pub call_by : Program → (number : ℕ) → Option Func → List ArgText → Result Command ScriptKind
call_by program f (Some func) args = called f (values_bound program func.params args)
call_by program f None args = Err NoFunction

abbrev pub call_of : Program → Option ℕ → List ArgText → Result Command ScriptKind
call_of program (Some f) args = call_by program f (slice_get program.funcs f) args
call_of program None args = Err NoFunction

unfoldable pub call_bound : Program → List ℕ → List ArgText → Result Command ScriptKind
call_bound program name args = call_of program (func_number program.funcs name) args

abbrev pub show_of : Option ℕ → Result Command ScriptKind
show_of (Some g) = Ok (command.Show g)
show_of None = Err NoGlobal

unfoldable pub show_bound : Program → List ℕ → Result Command ScriptKind
show_bound program name = show_of (global_number program.globals name)

abbrev pub command_bound : Program → LineWhat → Result Command ScriptKind
command_bound program (what.Call name args) = call_bound program name args
command_bound program (what.Idle n) = Ok (command.Idle n)
command_bound program (what.Show name) = show_bound program name

abbrev pub on_line : {A B : Type 0} → (line : ℕ) → Result A ScriptKind → (A → Result B (ℕ × ScriptKind)) → Result B (ℕ × ScriptKind)
on_line n (Ok x) f = f x
on_line n (Err kind) f = Err (n, kind)

-- the commands behind those that are bound: the fault of the first that has one
abbrev pub commands_behind : Program → List Command → List ScriptLine → Result (List Command) (ℕ × ScriptKind)
commands_behind program commands [] = Ok commands
commands_behind program commands (l ∷ lines) = on_line l.line (command_bound program l.what) (λ c. commands_behind program (commands ++ c ∷ []) lines)

unfoldable pub bound_of : Script → Program → Result Bound (ℕ × ScriptKind)
bound_of script program = and_then (commands_behind program [] script.lines) (λ cs. Ok (record { words = script.words; rules = script.rules; fails = script.fails; commands = cs }))

-- what binding one line gave
abbrev pub LineMisfits : {A : Type 0} → ScriptError → (line : ℕ) → Result A ScriptKind → Type 0
LineMisfits (error.Line n kind) line bound = (bound ≡ Err kind) × (n ≡ line)
LineMisfits error.OutOfMemory line bound = Unit {0}

abbrev pub LineBinds : {A : Type 0} → Result A ScriptError → (line : ℕ) → Result A ScriptKind → Type 0
LineBinds (Ok x) line bound = bound ≡ Ok x
LineBinds (Err e) line bound = LineMisfits e line bound
