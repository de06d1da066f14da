-- The call graph of a program that calls nothing back.
use Rattle.std.proofs.Common.{◌≡◌, ℕ, zero, suc, ◌==◌, ◌||◌, Bool, true, false, List, [], ◌∷◌, ◌++◌, Option, Some, None, slice_get, get_or, refl, sym, subst}
use Rattle.mdr_core.specs.declared.code.Stmt.{Stmt}
use Rattle.mdr_core.specs.declared.program.Func.{Func}
use Rattle.mdr_core.specs.declared.program.Program.{Program}
use Rattle.mdr_core.specs.Backs.{CallsNothingBack, call_back, calls_back, is_back}
use Rattle.mdr_core.specs.Code.{Term, Called, CallOf, Code, Codes}
use Rattle.mdr_core.specs.Typing.{Slot, slots_of}
use Rattle.mdr_slice.specs.Calls.{all_calls, body_code, calls}
use Rattle.mdr_slice.specs.Graph.{AreCallees, IsRow, KernelCallReaches, MayCall, OneReaches, reaches_by}
use Rattle.mdr_callees.specs.Callees.{OneGraphWhereNothingCallsBack}

not_both : {b : Bool} → b ≡ true → b ≡ false → ⊥
not_both e d = absurd cc

first_of : (a b : Bool) → (a || b) ≡ false → a ≡ false
first_of true b e = absurd cc
first_of false b e = refl

second_of : (a b : Bool) → (a || b) ≡ false → b ≡ false
second_of true b e = absurd cc
second_of false b e = e

-- ---- calls of code that calls nothing back

abbrev NoneBack : List CallOf → Type 0
NoneBack [] = Unit {0}
NoneBack (c ∷ cs) = (is_back c.callee ≡ false) × NoneBack cs

joined_none : (cs ds : List CallOf) → NoneBack cs → NoneBack ds → NoneBack (cs ++ ds)
joined_none [] ds h k = k
joined_none (c ∷ cs) ds h k = (h.0, joined_none cs ds h.1 k)

at_none : (cs : List CallOf) (i : ℕ) (call : CallOf) → NoneBack cs → slice_get cs i ≡ Some call → is_back call.callee ≡ false
at_none [] i call h e = absurd cc
at_none (c ∷ cs) zero call h e = subst (λ (x : CallOf). is_back x.callee ≡ false) (same e) h.0
  where
    same : Some c ≡ Some call → c ≡ call
    same q = cc
at_none (c ∷ cs) (suc i) call h e = at_none cs i call h.1 e

mutual
  code_none : (c : Code) → calls_back c ≡ false → NoneBack (calls c)
  code_none (Code.Declare n i) h = tt
  code_none (Code.Text n i bytes) h = tt
  code_none (Code.Assign n p e) h = tt
  code_none (Code.Call n goal call) h = (h, tt)
  code_none (Code.If n e one other) h = joined_none (all_calls one) (all_calls other) (codes_none one (first_of (call_back one) (call_back other) h)) (codes_none other (second_of (call_back one) (call_back other) h))
  code_none (Code.Loop n e step body) h = joined_none (all_calls step) (all_calls body) (codes_none step (first_of (call_back step) (call_back body) h)) (codes_none body (second_of (call_back step) (call_back body) h))
  code_none (Code.Block body) h = codes_none body h
  code_none (Code.Return n e) h = tt
  code_none (Code.Jump n way) h = tt

  codes_none : (cs : Codes) → call_back cs ≡ false → NoneBack (all_calls cs)
  codes_none Codes.End h = tt
  codes_none (Codes.Then c cs) h = joined_none (calls c) (all_calls cs) (code_none c (first_of (calls_back c) (call_back cs) h)) (codes_none cs (second_of (calls_back c) (call_back cs) h))

-- ---- what a call may call

module _ (program : Program) (slots : List Slot) where
  counted : (c : Called) (args : List Term) (g : ℕ) → reaches_by program slots false c args g → reaches_by program slots true c args g
  counted (Called.Direct f) args g h = h
  counted (Called.Through e) args g h = h
  counted (Called.Service n) args g h = absurd h

  no_kernel_call : (n : ℕ) (args : List Term) (g : ℕ) → (n == 15) ≡ false → KernelCallReaches program slots n args g → ⊥
  no_kernel_call n [] g none h = absurd h
  no_kernel_call n (e ∷ es) g none h = not_both {b = n == 15} (subst (λ (m : ℕ). (m == 15) ≡ true) (sym h.0) refl) none

  uncounted : (c : Called) (args : List Term) (g : ℕ) → is_back c ≡ false → reaches_by program slots true c args g → reaches_by program slots false c args g
  uncounted (Called.Direct f) args g none h = h
  uncounted (Called.Through e) args g none h = h
  uncounted (Called.Service n) args g none h = no_kernel_call n args g none h

-- ---- the graph

module _ (program : Program) (nothing : CallsNothingBack program) where
  body_none : (f : ℕ) (func : Func) → slice_get program.funcs f ≡ Some func → (o : Option (List Stmt)) → func.body ≡ o → NoneBack (all_calls (body_code o))
  body_none f func names None is = tt
  body_none f func names (Some body) is = codes_none (body_code (Some body)) (nothing f func body names is)

  may_count : (f g : ℕ) → MayCall program false f g → MayCall program true f g
  may_count f g h = record {
    func = h.func;
    names = h.names;
    inside = h.inside;
    by = record { at = h.by.at; call = h.by.call; is = h.by.is; leads = counted program (slots_of h.func) h.by.call.callee h.by.call.args g h.by.leads };
  }

  need_not_count : (f g : ℕ) → MayCall program true f g → MayCall program false f g
  need_not_count f g h = record {
    func = h.func;
    names = h.names;
    inside = h.inside;
    by = record {
      at = h.by.at;
      call = h.by.call;
      is = h.by.is;
      leads = uncounted program (slots_of h.func) h.by.call.callee h.by.call.args g (at_none (all_calls (body_code h.func.body)) h.by.at h.by.call (body_none f h.func h.names h.func.body refl) h.by.is) h.by.leads;
    };
  }

  same_row : (f : ℕ) (row : List ℕ) → IsRow program false f row → IsRow program true f row
  same_row f row r = record { rises = r.rises; exact = λ g. (λ inside. may_count f g ((r.exact g).0 inside), λ may. (r.exact g).1 (need_not_count f g may)) }

  same_row_without : (f : ℕ) (row : List ℕ) → IsRow program true f row → IsRow program false f row
  same_row_without f row r = record { rises = r.rises; exact = λ g. (λ inside. need_not_count f g ((r.exact g).0 inside), λ may. (r.exact g).1 (may_count f g may)) }

-- nor is it another the other way round
pub one_graph_without : (program : Program) → CallsNothingBack program → (callees : List (List ℕ)) → AreCallees program true callees → AreCallees program false callees
one_graph_without program nothing callees are = record { size = are.size; rows = λ f inside. same_row_without program nothing f (get_or callees f []) (are.rows f inside) }

pub one_graph : OneGraphWhereNothingCallsBack
one_graph program nothing callees are = record { size = are.size; rows = λ f inside. same_row program nothing f (get_or callees f []) (are.rows f inside) }
