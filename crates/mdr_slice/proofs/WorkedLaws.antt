-- What holds of programs whose code is written once.
use Rattle.std.proofs.Common.{◌≡◌, ℕ, zero, suc, ◌<◌, ◌==◌, Bool, true, false, List, [], ◌∷◌, ◌++◌, map, Some, None, slice_get, length, refl, sym, ◌∙◌, subst, arith}
use Rattle.mdr_core.specs.declared.program.Func.{Func}
use Rattle.mdr_core.specs.declared.program.Program.{Program}
use Rattle.mdr_core.specs.Code.{Term, Called, CallOf, Codes}
use Rattle.mdr_core.specs.Typing.{Slot, slots_of}
use Rattle.mdr_paths.specs.Numbers.{numbers}
use Rattle.mdr_paths.proofs.NodeLists.{none_in}
use Rattle.mdr_slice.specs.Calls.{all_calls, all_code_names, body_code, body_names, call_handlers, func_handlers}
use Rattle.mdr_slice.specs.Graph.{IsRow, MayCall, OneReaches, Reaches}
use Rattle.mdr_slice.specs.Written.{WrittenFunc, func_of, plain, same_body}
use Rattle.mdr_slice.proofs.GraphLaws.{some_same, nothing_there}

-- the code of a function is its lines' plain data
pub code_is : (w : WrittenFunc) → body_code (func_of w).body ≡ plain w.lines
code_is w = same_body w.lines

-- ---- calls that reach nothing: of services, but for `kcall`

abbrev pub IsService : Called → Type 0
IsService (Called.Direct f) = ⊥
IsService (Called.Through e) = ⊥
IsService (Called.Service n) = (n == 15) ≡ false

abbrev pub AreServices : List CallOf → Type 0
AreServices [] = Unit {0}
AreServices (call ∷ cs) = IsService call.callee × AreServices cs

service_reaches : (program : Program) (slots : List Slot) (counts : Bool) (callee : Called) (args : List Term) (g : ℕ) → IsService callee → Reaches program slots counts (record { callee = callee; args = args; shape = None; format = None }) g → ⊥
service_reaches program slots counts (Called.Direct f) args g h r = h
service_reaches program slots counts (Called.Through e) args g h r = h
service_reaches program slots false (Called.Service n) args g h r = r
service_reaches program slots true (Called.Service n) [] g h r = r
service_reaches program slots true (Called.Service n) (e ∷ es) g h r = let at : n ≡ 15 = r.0 in grind arith

none_reached : (program : Program) (slots : List Slot) (counts : Bool) (cs : List CallOf) (at : ℕ) (call : CallOf) (g : ℕ) → AreServices cs → slice_get cs at ≡ Some call → Reaches program slots counts call g → ⊥
none_reached program slots counts [] at call g h e r = nothing_there call e
none_reached program slots counts (c ∷ cs) zero call g h e r = service_reaches program slots counts c.callee c.args g h.0 (subst (λ (x : CallOf). Reaches program slots counts x g) (sym (some_same e)) r)
none_reached program slots counts (c ∷ cs) (suc at) call g h e r = none_reached program slots counts cs at call g h.1 e r

-- ---- a function's row from its written calls

-- a call that stands in the lines of a function makes it possible that it calls what the call reaches
pub may_call : (program : Program) (counts : Bool) (f g : ℕ) (w : WrittenFunc) → slice_get program.funcs f ≡ Some (func_of w) → g < length program.funcs → OneReaches program (slots_of (func_of w)) counts (all_calls (plain w.lines)) g → MayCall program counts f g
may_call program counts f g w names inside one = record {
  func = func_of w;
  names = names;
  inside = inside;
  by = subst (λ (cs : Codes). OneReaches program (slots_of (func_of w)) counts (all_calls cs) g) (sym (code_is w)) one;
}

pub called_by : (program : Program) (counts : Bool) (f g : ℕ) (w : WrittenFunc) → slice_get program.funcs f ≡ Some (func_of w) → MayCall program counts f g → OneReaches program (slots_of (func_of w)) counts (all_calls (plain w.lines)) g
called_by program counts f g w names m =
    subst (λ (cs : Codes). OneReaches program (slots_of (func_of w)) counts (all_calls cs) g) (code_is w)
    (subst (λ (func : Func). OneReaches program (slots_of func) counts (all_calls (body_code func.body)) g) (sym (some_same (sym names ∙ m.names))) m.by)

-- a function of which all calls are such calls nothing
pub calls_nothing : (program : Program) (counts : Bool) (f : ℕ) (w : WrittenFunc) → slice_get program.funcs f ≡ Some (func_of w) → AreServices (all_calls (plain w.lines)) → IsRow program counts f []
calls_nothing program counts f w names quiet = record {
  rises = tt;
  exact = λ g. (λ h. absurd (none_in numbers g h), λ m. absurd (of g (called_by program counts f g w names m)));
}
  where
    of : (g : ℕ) → OneReaches program (slots_of (func_of w)) counts (all_calls (plain w.lines)) g → ⊥
    of g o = none_reached program (slots_of (func_of w)) counts (all_calls (plain w.lines)) o.at o.call g quiet o.is o.leads

-- ---- names and handlers

abbrev pub names_in : List WrittenFunc → List ℕ
names_in [] = []
names_in (w ∷ ws) = all_code_names (plain w.lines) ++ names_in ws

pub names_are : (ws : List WrittenFunc) → body_names (map func_of ws) ≡ names_in ws
unfolding body_names
names_are [] = refl
names_are (w ∷ ws) = λ i. all_code_names (code_is w i) ++ names_are ws i

abbrev pub handlers_in : List WrittenFunc → List ℕ
handlers_in [] = []
handlers_in (w ∷ ws) = call_handlers (all_calls (plain w.lines)) ++ handlers_in ws

pub handlers_are : (ws : List WrittenFunc) → func_handlers (map func_of ws) ≡ handlers_in ws
unfolding func_handlers
handlers_are [] = refl
handlers_are (w ∷ ws) = λ i. call_handlers (all_calls (code_is w i)) ++ handlers_are ws i
