-- Each program has a call graph, in which a call by `kcall` counts or not.
use Rattle.std.proofs.Common.{◌≡◌, ◌↔◌, ◌⊎◌, inl, inr, ℕ, zero, suc, ◌<◌, ◌≤◌, Bool, true, false, ◌&&◌, ◌||◌, ◌==◌, List, [], ◌∷◌, map, length, get_or, Option, Some, None, slice_get, refl, sym, ap, ◌∙◌, subst, arith}
use Rattle.std.specs.List.{filter, range_with_len}
use Rattle.std.proofs.lemmas.Bool.{and_from, and_parts, both_ways, eq-eqb, eqb-true, or_cases, or_left, or_right}
use Rattle.std.proofs.lemmas.List.FromFn.{get_or-map-range_with_len, length-map-range_with_len}
use Rattle.std.proofs.lemmas.Option.{slice_get_cases}
use Rattle.mdr_core.specs.declared.program.Func.{Func}
use Rattle.mdr_core.specs.declared.program.Program.{Program}
use Rattle.mdr_core.specs.declared.types.Ty.{Ty}
use Rattle.mdr_core.specs.Code.{Term, Called, CallOf}
use Rattle.mdr_core.specs.Typing.{Slot, function_type, slots_of}
use Rattle.mdr_core.proofs.Viewed.{some_same}
use Rattle.mdr_meaning.specs.Numbers.{is_same_type}
use Rattle.mdr_meaning.proofs.NumberLaws.{type_same, types_exact}
use Rattle.mdr_paths.specs.Numbers.{numbers}
use Rattle.mdr_paths.specs.Paths.{is_in}
use Rattle.mdr_paths.proofs.MarkLaws.{from_range, in_range, range_rises}
use Rattle.mdr_paths.proofs.NodeLists.{is_in-filter, rises-filter}
use Rattle.mdr_slice.specs.Calls.{all_calls, body_code, names_of}
use Rattle.mdr_slice.specs.Graph.{AreCallees, IsRow, KernelCallReaches, MayCall, MayPointTo, OneReaches, reaches_by}
use Rattle.mdr_slice.specs.Pointed.{called_type}

-- ---- pointers

abbrev is_pointed_by : Option Ty → Option Func → Bool
is_pointed_by None o = false
is_pointed_by (Some t) None = false
is_pointed_by (Some t) (Some func) = is_same_type t (function_type func)

record IsPointed (o : Option Ty) (o' : Option Func) : Type 0 where
  func : Func
  names : o' ≡ Some func
  typed : o ≡ Some (function_type func)

pointed_from : (o : Option Ty) (o' : Option Func) → is_pointed_by o o' ≡ true → IsPointed o o'
pointed_from None o' e = absurd (both_ways false refl e)
pointed_from (Some t) None e = absurd (both_ways false refl e)
pointed_from (Some t) (Some func) e = record { func = func; names = refl; typed = ap Some (types_exact t (function_type func) e) }

pointed_to : (o : Option Ty) (o' : Option Func) (func : Func) → o' ≡ Some func → o ≡ Some (function_type func) → is_pointed_by o o' ≡ true
pointed_to o o' func names typed = ap (λ (x : Option Ty). is_pointed_by x o') typed ∙ ap (λ (y : Option Func). is_pointed_by (Some (function_type func)) y) names ∙ type_same (function_type func)

abbrev points : Program → List Slot → Term → ℕ → Bool
points program slots e g = is_pointed_by (called_type program slots e) (slice_get program.funcs g) && is_in numbers (names_of program) g

points_right : (program : Program) (slots : List Slot) (e : Term) (g : ℕ) → (points program slots e g ≡ true) ↔ MayPointTo program slots e g
points_right program slots e g = (
  λ h. let parts = and_parts (is_pointed_by (called_type program slots e) (slice_get program.funcs g)) (is_in numbers (names_of program) g) h in
      let found = pointed_from (called_type program slots e) (slice_get program.funcs g) parts.0 in
      record { func = found.func; names = found.names; typed = found.typed; taken = parts.1 },
  λ m. and_from _ _ (pointed_to (called_type program slots e) (slice_get program.funcs g) m.func m.names m.typed) m.taken,
)

-- ---- calls

abbrev kernel_reaches : Program → List Slot → ℕ → List Term → ℕ → Bool
kernel_reaches program slots n [] g = false
kernel_reaches program slots n (e ∷ es) g = n == 15 && points program slots e g

kernel_right : (program : Program) (slots : List Slot) (n : ℕ) (args : List Term) (g : ℕ) → (kernel_reaches program slots n args g ≡ true) ↔ KernelCallReaches program slots n args g
kernel_right program slots n [] g = (λ h. absurd (both_ways false refl h), λ e. absurd e)
kernel_right program slots n (e ∷ es) g = (
  λ h. let parts = and_parts (n == 15) (points program slots e g) h in (eqb-true n 15 parts.0, (points_right program slots e g).0 parts.1),
  λ k. and_from _ _ (eq-eqb n 15 k.0) ((points_right program slots e g).1 k.1),
)

abbrev reaches : Program → List Slot → (kernel_calls : Bool) → Called → List Term → ℕ → Bool
reaches program slots counts (Called.Direct f) args g = f == g
reaches program slots counts (Called.Through e) args g = points program slots e g
reaches program slots true (Called.Service n) args g = kernel_reaches program slots n args g
reaches program slots false (Called.Service n) args g = false

reaches_right : (program : Program) (slots : List Slot) (counts : Bool) (callee : Called) (args : List Term) (g : ℕ) → (reaches program slots counts callee args g ≡ true) ↔ reaches_by program slots counts callee args g
reaches_right program slots counts (Called.Direct f) args g = (λ h. eqb-true f g h, λ e. eq-eqb f g e)
reaches_right program slots counts (Called.Through e) args g = points_right program slots e g
reaches_right program slots true (Called.Service n) args g = kernel_right program slots n args g
reaches_right program slots false (Called.Service n) args g = (λ h. absurd (both_ways false refl h), λ e. absurd e)

abbrev any_call : Program → List Slot → (kernel_calls : Bool) → List CallOf → ℕ → Bool
any_call program slots counts [] g = false
any_call program slots counts (c ∷ cs) g = reaches program slots counts c.callee c.args g || any_call program slots counts cs g

any_from : (program : Program) (slots : List Slot) (counts : Bool) (cs : List CallOf) (g : ℕ) → any_call program slots counts cs g ≡ true → OneReaches program slots counts cs g
any_from program slots counts [] g h = absurd (both_ways false refl h)
any_from program slots counts (c ∷ cs) g h = of (or_cases _ _ h) (any_from program slots counts cs g)
  where
    of : (reaches program slots counts c.callee c.args g ≡ true) ⊎ (any_call program slots counts cs g ≡ true) → (any_call program slots counts cs g ≡ true → OneReaches program slots counts cs g) → OneReaches program slots counts (c ∷ cs) g
    of (inl e) later = record { at = 0; call = c; is = refl; leads = (reaches_right program slots counts c.callee c.args g).0 e }
    of (inr e) later = let one = later e in record { at = suc one.at; call = one.call; is = one.is; leads = one.leads }

any_to : (program : Program) (slots : List Slot) (counts : Bool) (cs : List CallOf) (g i : ℕ) (call : CallOf) → slice_get cs i ≡ Some call → reaches_by program slots counts call.callee call.args g → any_call program slots counts cs g ≡ true
any_to program slots counts [] g i call e leads = absurd cc
any_to program slots counts (c ∷ cs) g zero call e leads = or_left _ _ ((reaches_right program slots counts c.callee c.args g).1 (subst (λ (x : CallOf). reaches_by program slots counts x.callee x.args g) (sym (some_same e)) leads))
any_to program slots counts (c ∷ cs) g (suc i) call e leads = or_right _ _ (any_to program slots counts cs g i call e leads)

-- ---- rows

abbrev may_by : Program → (kernel_calls : Bool) → Option Func → ℕ → Bool
may_by program counts None g = false
may_by program counts (Some func) g = any_call program (slots_of func) counts (all_calls (body_code func.body)) g

abbrev row : Program → (kernel_calls : Bool) → ℕ → List ℕ
row program counts f = filter (may_by program counts (slice_get program.funcs f)) (range_with_len 0 (length program.funcs))

row_is : (program : Program) (counts : Bool) (f : ℕ) (func : Func) → slice_get program.funcs f ≡ Some func → IsRow program counts f (row program counts f)
row_is program counts f func names = record {
  rises = rises-filter numbers (may_by program counts (slice_get program.funcs f)) (range_with_len 0 (length program.funcs)) (range_rises 0 (length program.funcs));
  exact = λ g. (to g, from g);
}
  where
    test : ℕ → Bool
    test g = may_by program counts (slice_get program.funcs f) g

    same : (g : ℕ) → is_in numbers (row program counts f) g ≡ (test g && is_in numbers (range_with_len 0 (length program.funcs)) g)
    same g = is_in-filter numbers (may_by program counts (slice_get program.funcs f)) (range_with_len 0 (length program.funcs)) g

    to : (g : ℕ) → is_in numbers (row program counts f) g ≡ true → MayCall program counts f g
    to g h =
        let parts = and_parts (test g) (is_in numbers (range_with_len 0 (length program.funcs)) g) (sym (same g) ∙ h) in
        let bounds = in_range 0 (length program.funcs) g parts.1 in
        record {
          func = func;
          names = names;
          inside = omega (arith, bounds.1);
          by = any_from program (slots_of func) counts (all_calls (body_code func.body)) g (sym (ap (λ (o : Option Func). may_by program counts o g) names) ∙ parts.0);
        }

    from : (g : ℕ) → MayCall program counts f g → is_in numbers (row program counts f) g ≡ true
    from g m =
        let found : may_by program counts (Some m.func) g ≡ true = any_to program (slots_of m.func) counts (all_calls (body_code m.func.body)) g m.by.at m.by.call m.by.is m.by.leads in
        same g ∙ and_from (test g) (is_in numbers (range_with_len 0 (length program.funcs)) g) (ap (λ (o : Option Func). may_by program counts o g) m.names ∙ found) (from_range 0 (length program.funcs) g (omega arith) (omega (arith, m.inside)))

-- for each function those that it may call
abbrev pub graph_of : Program → (kernel_calls : Bool) → List (List ℕ)
graph_of program counts = map (row program counts) (range_with_len 0 (length program.funcs))

pub graph_is : (program : Program) (counts : Bool) → AreCallees program counts (graph_of program counts)
graph_is program counts = record { size = length-map-range_with_len (row program counts) 0 (length program.funcs); rows = rows }
  where
    rows : (f : ℕ) → f < length program.funcs → IsRow program counts f (get_or (graph_of program counts) f [])
    rows f inside = of (slice_get_cases program.funcs f).1
      where
        of : ((x : Func) × (f < length program.funcs) × (slice_get program.funcs f ≡ Some x) × (get_or program.funcs f x ≡ x)) ⊎ ((length program.funcs ≤ f) × (slice_get program.funcs f ≡ None)) → IsRow program counts f (get_or (graph_of program counts) f [])
        of (inl c) = subst (IsRow program counts f) (sym (get_or-map-range_with_len (row program counts) 0 (length program.funcs) f f [] inside (omega arith))) (row_is program counts f c.0 c.2)
        of (inr c) = absurd (omega (arith, c.0, inside))
