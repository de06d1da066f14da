-- Code keeps to the call graph: by induction over code, with what the slicer says of all its calls and of all names in it.
use Rattle.std.proofs.Common.{◌≡◌, ℕ, zero, suc, ◌<◌, Bool, true, false, List, [], ◌∷◌, ◌++◌, length, Option, Some, None, slice_get, refl, sym, ap, ◌∙◌, subst, arith}
use Rattle.std.proofs.lemmas.Option.{slice_get_within}
use Rattle.mdr_core.specs.declared.code.Stmt.{Stmt}
use Rattle.mdr_core.specs.declared.program.Program.{Program}
use Rattle.mdr_core.specs.declared.program.Func.{Func}
use Rattle.mdr_core.specs.declared.types.Ty.{Ty, out-Ty}
use Rattle.mdr_core.specs.declared.types.Ty.TheOpen.{Ty-F}
use Rattle.mdr_core.specs.declared.value.Value.{Value}
use Rattle.mdr_core.specs.declared.value.Value.TheVariants as value
use Rattle.mdr_core.specs.Code.{Term, Lvalue, Called, CallOf, Goal, Code, Codes}
use Rattle.mdr_core.specs.Folds.{codes_of}
use Rattle.mdr_core.specs.Services.{RequestIrq, service_numbered, services}
use Rattle.mdr_core.specs.Sound.{IsSound, HasTypedBody}
use Rattle.mdr_core.specs.Typing.{Slot, AreTyped, CallGives, GoesTo, IsTyped, slots_of}
use Rattle.mdr_paths.specs.Numbers.{numbers}
use Rattle.mdr_paths.specs.Paths.{is_in}
use Rattle.mdr_paths.proofs.NodeLists.{in_both, is_in-head}
use Rattle.mdr_slice.specs.Calls.{all_calls, all_code_names, all_term_names, body_code, body_names, call_handlers, call_names, called_names, calls, code_names, func_handlers, global_names, goal_names, handlers_by, lvalue_names, names_of, option_names, term_names, value_names}
use Rattle.mdr_slice.specs.Graph.{AreCallees, Reaches, reaches_by}
use Rattle.mdr_slice.specs.Pointed as slicer
use Rattle.mdr_meaning.specs.Bodies.{body_by, body_from, body_of}
use Rattle.mdr_meaning.specs.Sides.{Body}
use Rattle.mdr_meaning.specs.Named as named
use Rattle.mdr_meaning.specs.Within.{CalleeWithin, CodesWithin, CodeWithin, FirstWithin, FormWithin, GoalWithin, LvalueWithin, OptionWithin, TermsWithin, TermWithin, Uses, ValueWithin, called_type, value_type}
use Rattle.mdr_callees.specs.Callees.{CodeKeepsToTheCallGraph, uses_by}

some_is : {A : Type 0} {a b : A} → Some a ≡ Some b → a ≡ b
some_is e = cc

-- ---- lists of names

-- each is taken
abbrev AreTaken : (ℕ → Bool) → List ℕ → Type 0
AreTaken taken names = (f : ℕ) → is_in numbers names f ≡ true → taken f ≡ true

module _ (taken : ℕ → Bool) where
  first_taken : (xs ys : List ℕ) → AreTaken taken (xs ++ ys) → AreTaken taken xs
  first_taken xs ys h f e = h f (grind (arith, in_both numbers xs ys f))

  rest_taken : (xs ys : List ℕ) → AreTaken taken (xs ++ ys) → AreTaken taken ys
  rest_taken xs ys h f e = h f (grind (arith, in_both numbers xs ys f))

  value_within : (v : Value) → AreTaken taken (value_names v) → ValueWithin taken v
  value_within (value.Fn f) h = h f (is_in-head numbers f [])
  value_within (value.Int k n) h = tt
  value_within value.Null h = tt
  value_within (value.Ptr v) h = tt
  value_within value.Dead h = tt
  value_within (value.Lock s) h = tt
  value_within value.NoValue h = tt

  mutual
    term_within : (e : Term) → AreTaken taken (term_names e) → TermWithin taken e
    term_within (Term.Lit v) h = value_within v h
    term_within (Term.Load p) h = lvalue_within p h
    term_within (Term.Addr p) h = lvalue_within p h
    term_within (Term.Decay p) h = lvalue_within p h
    term_within (Term.Neg k e) h = term_within e h
    term_within (Term.Flip k e) h = term_within e h
    term_within (Term.Not e) h = term_within e h
    term_within (Term.Bin op k a b) h = (term_within a (first_taken (term_names a) (term_names b) h), term_within b (rest_taken (term_names a) (term_names b) h))
    term_within (Term.Rel op a b) h = (term_within a (first_taken (term_names a) (term_names b) h), term_within b (rest_taken (term_names a) (term_names b) h))
    term_within (Term.And a b) h = (term_within a (first_taken (term_names a) (term_names b) h), term_within b (rest_taken (term_names a) (term_names b) h))
    term_within (Term.Or a b) h = (term_within a (first_taken (term_names a) (term_names b) h), term_within b (rest_taken (term_names a) (term_names b) h))
    term_within (Term.Conv k e) h = term_within e h
    term_within (Term.ToVoid e) h = term_within e h
    term_within (Term.FromVoid t e) h = term_within e h
    term_within (Term.Move back p i) h = (term_within p (first_taken (term_names p) (term_names i) h), term_within i (rest_taken (term_names p) (term_names i) h))
    term_within (Term.Diff p q) h = (term_within p (first_taken (term_names p) (term_names q) h), term_within q (rest_taken (term_names p) (term_names q) h))

    lvalue_within : (p : Lvalue) → AreTaken taken (lvalue_names p) → LvalueWithin taken p
    lvalue_within (Lvalue.Slot i) h = tt
    lvalue_within (Lvalue.Object i) h = tt
    lvalue_within (Lvalue.Global g) h = tt
    lvalue_within (Lvalue.Deref e) h = term_within e h
    lvalue_within (Lvalue.Member p f) h = lvalue_within p h
    lvalue_within (Lvalue.Index p e) h = (lvalue_within p (first_taken (lvalue_names p) (term_names e) h), term_within e (rest_taken (lvalue_names p) (term_names e) h))

  terms_within : (es : List Term) → AreTaken taken (all_term_names es) → TermsWithin taken es
  terms_within [] h = tt
  terms_within (e ∷ es) h = (term_within e (first_taken (term_names e) (all_term_names es) h), terms_within es (rest_taken (term_names e) (all_term_names es) h))

  goal_within : (goal : Goal) → AreTaken taken (goal_names goal) → GoalWithin taken goal
  goal_within Goal.Nowhere h = tt
  goal_within (Goal.Into p) h = lvalue_within p h
  goal_within Goal.Back h = tt

  option_within : (e : Option Term) → AreTaken taken (option_names e) → OptionWithin taken e
  option_within None h = tt
  option_within (Some e) h = term_within e h

-- ---- the type of what is called is one type

same_by : (t : Ty-F Ty) → named.target_by t ≡ slicer.target_by t
same_by (Ty-F.Int k) = refl
same_by Ty-F.Lock = refl
same_by (Ty-F.Struct s) = refl
same_by (Ty-F.Ptr t) = refl
same_by Ty-F.VoidPtr = refl
same_by (Ty-F.Fun ts) = refl
same_by Ty-F.Void = refl

same_target : (t : Option Ty) → named.target_of t ≡ slicer.target_of t
same_target None = refl
same_target (Some ty) = same_by (out-Ty ty)

targets : {t u : Option Ty} → t ≡ u → named.target_of t ≡ slicer.target_of u
targets {t} {u} e = ap named.target_of e ∙ same_target u

same_member : (program : Program) (t : Option Ty) (f : ℕ) → named.member_type program t f ≡ slicer.member_type program t f
same_member program None f = refl
same_member program (Some ty) f = refl

member_types : (program : Program) (f : ℕ) {t u : Option Ty} → t ≡ u → named.member_type program t f ≡ slicer.member_type program u f
member_types program f {t} {u} e = ap (λ x. named.member_type program x f) e ∙ same_member program u f

mutual
  same_named : (program : Program) (slots : List Slot) (p : Lvalue) → named.named_type program slots p ≡ slicer.named_type program slots p
  same_named program slots (Lvalue.Slot i) = refl
  same_named program slots (Lvalue.Object i) = refl
  same_named program slots (Lvalue.Global g) = refl
  same_named program slots (Lvalue.Deref e) = same_pointed program slots e
  same_named program slots (Lvalue.Member p f) = member_types program f (same_named program slots p)
  same_named program slots (Lvalue.Index p e) = same_named program slots p

  same_pointed : (program : Program) (slots : List Slot) (e : Term) → named.pointed_type program slots e ≡ slicer.pointed_type program slots e
  same_pointed program slots (Term.Lit v) = refl
  same_pointed program slots (Term.Load p) = targets (same_named program slots p)
  same_pointed program slots (Term.Addr p) = same_named program slots p
  same_pointed program slots (Term.Decay p) = same_named program slots p
  same_pointed program slots (Term.Neg k e) = refl
  same_pointed program slots (Term.Flip k e) = refl
  same_pointed program slots (Term.Not e) = refl
  same_pointed program slots (Term.Bin op k a b) = refl
  same_pointed program slots (Term.Rel op a b) = refl
  same_pointed program slots (Term.And a b) = refl
  same_pointed program slots (Term.Or a b) = refl
  same_pointed program slots (Term.Conv k e) = refl
  same_pointed program slots (Term.ToVoid e) = refl
  same_pointed program slots (Term.FromVoid t e) = refl
  same_pointed program slots (Term.Move back p i) = same_pointed program slots p
  same_pointed program slots (Term.Diff p q) = refl

same_value : (program : Program) (v : Value) → value_type program v ≡ slicer.value_type program v
same_value program (value.Fn f) = refl
same_value program (value.Int k n) = refl
same_value program value.Null = refl
same_value program (value.Ptr v) = refl
same_value program value.Dead = refl
same_value program (value.Lock s) = refl
same_value program value.NoValue = refl

same_called : (program : Program) (slots : List Slot) (e : Term) → called_type program slots e ≡ slicer.called_type program slots e
same_called program slots (Term.Lit v) = same_value program v
same_called program slots (Term.Load p) = same_named program slots p
same_called program slots (Term.Addr p) = refl
same_called program slots (Term.Decay p) = refl
same_called program slots (Term.Neg k e) = refl
same_called program slots (Term.Flip k e) = refl
same_called program slots (Term.Not e) = refl
same_called program slots (Term.Bin op k a b) = refl
same_called program slots (Term.Rel op a b) = refl
same_called program slots (Term.And a b) = refl
same_called program slots (Term.Or a b) = refl
same_called program slots (Term.Conv k e) = refl
same_called program slots (Term.ToVoid e) = refl
same_called program slots (Term.FromVoid t e) = refl
same_called program slots (Term.Move back p i) = refl
same_called program slots (Term.Diff p q) = refl

-- ---- `request_irq` is service 7

seventh : (n : ℕ) → slice_get services n ≡ Some RequestIrq → n ≡ 6
seventh zero e = absurd cc
seventh (suc zero) e = absurd cc
seventh (suc (suc zero)) e = absurd cc
seventh (suc (suc (suc zero))) e = absurd cc
seventh (suc (suc (suc (suc zero)))) e = absurd cc
seventh (suc (suc (suc (suc (suc zero))))) e = absurd cc
seventh (suc (suc (suc (suc (suc (suc zero)))))) e = refl
seventh (suc (suc (suc (suc (suc (suc (suc zero))))))) e = absurd cc
seventh (suc (suc (suc (suc (suc (suc (suc (suc zero)))))))) e = absurd cc
seventh (suc (suc (suc (suc (suc (suc (suc (suc (suc zero))))))))) e = absurd cc
seventh (suc (suc (suc (suc (suc (suc (suc (suc (suc (suc zero)))))))))) e = absurd cc
seventh (suc (suc (suc (suc (suc (suc (suc (suc (suc (suc (suc zero))))))))))) e = absurd cc
seventh (suc (suc (suc (suc (suc (suc (suc (suc (suc (suc (suc (suc zero)))))))))))) e = absurd cc
seventh (suc (suc (suc (suc (suc (suc (suc (suc (suc (suc (suc (suc (suc zero))))))))))))) e = absurd cc
seventh (suc (suc (suc (suc (suc (suc (suc (suc (suc (suc (suc (suc (suc (suc n)))))))))))))) e = absurd cc

registers : (n : ℕ) → service_numbered n ≡ Some RequestIrq → n ≡ 7
registers zero e = absurd cc
registers (suc n) e = ap suc (seventh n e)

-- ---- calls

module _ (program : Program) (uses : Uses) (slots : List Slot) (caller : ℕ) where
  -- what a call may call, its caller may call; and what it registers handles interrupts
  record Leads (form : CallOf) : Type 0 where
    calls : (g : ℕ) → g < length program.funcs → Reaches program slots true form g → uses.calls caller g ≡ true
    handlers : (g : ℕ) → is_in numbers (handlers_by form.callee form.args) g ≡ true → uses.handles g ≡ true

  abbrev AllLead : List CallOf → Type 0
  AllLead [] = Unit {0}
  AllLead (c ∷ cs) = Leads c × AllLead cs

  first_lead : (cs ds : List CallOf) → AllLead (cs ++ ds) → AllLead cs
  first_lead [] ds h = tt
  first_lead (c ∷ cs) ds h = (h.0, first_lead cs ds h.1)

  rest_lead : (cs ds : List CallOf) → AllLead (cs ++ ds) → AllLead ds
  rest_lead [] ds h = h
  rest_lead (c ∷ cs) ds h = rest_lead cs ds h.1

  -- each call by its place
  all_lead : (cs : List CallOf) → ((i : ℕ) (form : CallOf) → slice_get cs i ≡ Some form → Leads form) → AllLead cs
  all_lead [] h = tt
  all_lead (c ∷ cs) h = (h 0 c refl, all_lead cs (λ i form e. h (suc i) form e))

  module _ (exact : (f : ℕ) → uses.taken f ≡ is_in numbers (names_of program) f) where
    callee_within : (c : Called) (args : List Term) (shape : Option Ty) (format : Option (List ℕ)) (given : Ty)
        → CallGives program slots (record { callee = c; args = args; shape = shape; format = format }) given
        → Leads (record { callee = c; args = args; shape = shape; format = format }) → AreTaken uses.taken (called_names c) → CalleeWithin program uses slots caller c args
    callee_within (Called.Direct f) args shape format given typed leads taken = leads.calls f (slice_get_within program.funcs f typed.func typed.names) refl
    callee_within (Called.Through e) args shape format given typed leads taken = (
      term_within uses.taken e taken,
      λ f func names points is_taken.
          leads.calls f (slice_get_within program.funcs f func names) (record { func = func; names = names; typed = sym (same_called program slots e) ∙ points; taken = sym (exact f) ∙ is_taken }),
    )
    callee_within (Called.Service n) args shape format given typed leads taken = (λ f names is. leads.handlers f (registered n args f (registers n names) is), λ back. first_within args leads.calls back)
      where
        -- what the first argument may point to, where the service calls back
        first_within : (es : List Term) → ((g : ℕ) → g < length program.funcs → reaches_by program slots true (Called.Service n) es g → uses.calls caller g ≡ true) → n ≡ 15 → FirstWithin program uses slots caller es
        first_within [] calls back = tt
        first_within (e ∷ es) calls back = λ f func names points is_taken.
            calls f (slice_get_within program.funcs f func names) (back, record { func = func; names = names; typed = sym (same_called program slots e) ∙ points; taken = sym (exact f) ∙ is_taken })

        registered : (n : ℕ) (args : List Term) (f : ℕ) → n ≡ 7 → args ≡ Term.Lit (value.Fn f) ∷ [] → is_in numbers (handlers_by (Called.Service n) args) f ≡ true
        registered n args f number is = rw (number, is) (is_in-head numbers f [])

    form_within : (form : CallOf) (given : Ty) → CallGives program slots form given → Leads form → AreTaken uses.taken (call_names form) → FormWithin program uses slots caller form
    form_within form given typed leads taken = (
      callee_within form.callee form.args form.shape form.format given typed leads (first_taken uses.taken (called_names form.callee) (all_term_names form.args) taken),
      terms_within uses.taken form.args (rest_taken uses.taken (called_names form.callee) (all_term_names form.args) taken),
    )

    goes_within : (result : Ty) (goal : Goal) (form : CallOf) → GoesTo program slots result goal form → Leads form → AreTaken uses.taken (call_names form) → FormWithin program uses slots caller form
    goes_within result Goal.Nowhere form typed leads taken = form_within form typed.0 typed.1 leads taken
    goes_within result (Goal.Into p) form typed leads taken = form_within form typed.given typed.call_gives leads taken
    goes_within result Goal.Back form typed leads taken = form_within form typed.given typed.call_gives leads taken

    mutual
      code_within : (result : Ty) (in_loop : Bool) (c : Code) → IsTyped program slots result in_loop c → AllLead (calls c) → AreTaken uses.taken (code_names c) → CodeWithin program uses slots caller c
      code_within result in_loop (Code.Declare n i) typed leads taken = tt
      code_within result in_loop (Code.Text n i bytes) typed leads taken = tt
      code_within result in_loop (Code.Assign n p e) typed leads taken =
          (lvalue_within uses.taken p (first_taken uses.taken (lvalue_names p) (term_names e) taken), term_within uses.taken e (rest_taken uses.taken (lvalue_names p) (term_names e) taken))
      code_within result in_loop (Code.Call n goal form) typed leads taken = (
        goal_within uses.taken goal (first_taken uses.taken (goal_names goal) (call_names form) taken),
        goes_within result goal form typed.right leads.0 (rest_taken uses.taken (goal_names goal) (call_names form) taken),
      )
      code_within result in_loop (Code.If n e one other) typed leads taken = (
        term_within uses.taken e (first_taken uses.taken (term_names e) (all_code_names one ++ all_code_names other) taken),
        codes_within result in_loop one typed.first (first_lead (all_calls one) (all_calls other) leads)
            (first_taken uses.taken (all_code_names one) (all_code_names other) (rest_taken uses.taken (term_names e) (all_code_names one ++ all_code_names other) taken)),
        codes_within result in_loop other typed.second (rest_lead (all_calls one) (all_calls other) leads)
            (rest_taken uses.taken (all_code_names one) (all_code_names other) (rest_taken uses.taken (term_names e) (all_code_names one ++ all_code_names other) taken)),
      )
      code_within result in_loop (Code.Loop n e step body) typed leads taken = (
        term_within uses.taken e (first_taken uses.taken (term_names e) (all_code_names step ++ all_code_names body) taken),
        codes_within result false step typed.stepped (first_lead (all_calls step) (all_calls body) leads)
            (first_taken uses.taken (all_code_names step) (all_code_names body) (rest_taken uses.taken (term_names e) (all_code_names step ++ all_code_names body) taken)),
        codes_within result true body typed.turn (rest_lead (all_calls step) (all_calls body) leads)
            (rest_taken uses.taken (all_code_names step) (all_code_names body) (rest_taken uses.taken (term_names e) (all_code_names step ++ all_code_names body) taken)),
      )
      code_within result in_loop (Code.Block body) typed leads taken = codes_within result in_loop body typed leads taken
      code_within result in_loop (Code.Return n e) typed leads taken = option_within uses.taken e taken
      code_within result in_loop (Code.Jump n way) typed leads taken = tt

      codes_within : (result : Ty) (in_loop : Bool) (cs : Codes) → AreTyped program slots result in_loop cs → AllLead (all_calls cs) → AreTaken uses.taken (all_code_names cs) → CodesWithin program uses slots caller cs
      codes_within result in_loop Codes.End typed leads taken = tt
      codes_within result in_loop (Codes.Then c cs) typed leads taken = (
        code_within result in_loop c typed.0 (first_lead (calls c) (all_calls cs) leads) (first_taken uses.taken (code_names c) (all_code_names cs) taken),
        codes_within result in_loop cs typed.1 (rest_lead (calls c) (all_calls cs) leads) (rest_taken uses.taken (code_names c) (all_code_names cs) taken),
      )

-- ---- what the lists of a whole program have of a function

names_of_body : (funcs : List Func) (f : ℕ) (func : Func) → slice_get funcs f ≡ Some func → (g : ℕ) → is_in numbers (all_code_names (body_code func.body)) g ≡ true → is_in numbers (body_names funcs) g ≡ true
unfolding body_names
names_of_body [] f func e g h = absurd cc
names_of_body (c ∷ cs) zero func e g h = grind (arith, in_both numbers (all_code_names (body_code c.body)) (body_names cs) g, here)
  where
    here : is_in numbers (all_code_names (body_code c.body)) g ≡ true
    here = subst (λ (x : Func). is_in numbers (all_code_names (body_code x.body)) g ≡ true) (sym (some_is e)) h
names_of_body (c ∷ cs) (suc f) func e g h = grind (arith, in_both numbers (all_code_names (body_code c.body)) (body_names cs) g, names_of_body cs f func e g h)

handlers_of_body : (funcs : List Func) (f : ℕ) (func : Func) → slice_get funcs f ≡ Some func → (g : ℕ) → is_in numbers (call_handlers (all_calls (body_code func.body))) g ≡ true → is_in numbers (func_handlers funcs) g ≡ true
unfolding func_handlers
handlers_of_body [] f func e g h = absurd cc
handlers_of_body (c ∷ cs) zero func e g h = grind (arith, in_both numbers (call_handlers (all_calls (body_code c.body))) (func_handlers cs) g, here)
  where
    here : is_in numbers (call_handlers (all_calls (body_code c.body))) g ≡ true
    here = subst (λ (x : Func). is_in numbers (call_handlers (all_calls (body_code x.body))) g ≡ true) (sym (some_is e)) h
handlers_of_body (c ∷ cs) (suc f) func e g h = grind (arith, in_both numbers (call_handlers (all_calls (body_code c.body))) (func_handlers cs) g, handlers_of_body cs f func e g h)

handlers_of_call : (cs : List CallOf) (i : ℕ) (form : CallOf) → slice_get cs i ≡ Some form → (g : ℕ) → is_in numbers (handlers_by form.callee form.args) g ≡ true → is_in numbers (call_handlers cs) g ≡ true
handlers_of_call [] i form e g h = absurd cc
handlers_of_call (c ∷ cs) zero form e g h = grind (arith, in_both numbers (handlers_by c.callee c.args) (call_handlers cs) g, here)
  where
    here : is_in numbers (handlers_by c.callee c.args) g ≡ true
    here = subst (λ (x : CallOf). is_in numbers (handlers_by x.callee x.args) g ≡ true) (sym (some_is e)) h
handlers_of_call (c ∷ cs) (suc i) form e g h = grind (arith, in_both numbers (handlers_by c.callee c.args) (call_handlers cs) g, handlers_of_call cs i form e g h)

-- ---- the law

module _ (program : Program) (sound : IsSound program) (callees : List (List ℕ)) (are : AreCallees program true callees) where
  call_leads : (f : ℕ) (func : Func) → slice_get program.funcs f ≡ Some func → (i : ℕ) (form : CallOf) → slice_get (all_calls (body_code func.body)) i ≡ Some form
      → Leads program (uses_by program callees) (slots_of func) f form
  call_leads f func names i form e = record {
    calls = λ g inside reaches. ((are.rows f (slice_get_within program.funcs f func names)).exact g).1 (record { func = func; names = names; inside = inside; by = record { at = i; call = form; is = e; leads = reaches } });
    handlers = λ g h. handlers_of_body program.funcs f func names g (handlers_of_call (all_calls (body_code func.body)) i form e g h);
  }

  taken_of : (f : ℕ) (func : Func) → slice_get program.funcs f ≡ Some func → AreTaken (uses_by program callees).taken (all_code_names (body_code func.body))
  taken_of f func names g h = grind (arith, in_both numbers (body_names program.funcs) (global_names program.globals) g, names_of_body program.funcs f func names g h)

  body_within : (f : ℕ) (func : Func) (code : Option (List Stmt)) (body : Body) → slice_get program.funcs f ≡ Some func → func.body ≡ code → HasTypedBody program func code → body_by func code ≡ Some body
      → CodesWithin program (uses_by program callees) body.slots f body.code
  body_within f func None body names is typed e = absurd cc
  body_within f func (Some ss) body names is typed e =
      subst (λ (b : Body). CodesWithin program (uses_by program callees) b.slots f b.code) (some_is e)
      (codes_within program (uses_by program callees) (slots_of func) f (λ g. refl) func.result false (codes_of ss) typed
      (all_lead program (uses_by program callees) (slots_of func) f (all_calls (codes_of ss)) (subst (λ x. (i : ℕ) (form : CallOf) → slice_get (all_calls (body_code x)) i ≡ Some form → Leads program (uses_by program callees) (slots_of func) f form) is (call_leads f func names)))
      (subst (λ x. AreTaken (uses_by program callees).taken (all_code_names (body_code x))) is (taken_of f func names)))

  found_within : (f : ℕ) (found : Option Func) (body : Body) → slice_get program.funcs f ≡ found → body_from found ≡ Some body → CodesWithin program (uses_by program callees) body.slots f body.code
  found_within f None body names e = absurd cc
  found_within f (Some func) body names e = body_within f func func.body body names refl (sound.funcs f func names).body e

  function_within : (f : ℕ) (body : Body) → body_of program f ≡ Some body → CodesWithin program (uses_by program callees) body.slots f body.code
  unfolding body_of
  function_within f body e = found_within f (slice_get program.funcs f) body refl e

pub code_keeps : CodeKeepsToTheCallGraph
code_keeps program sound callees are side of = record { bodies = λ f body own. function_within program sound callees are f body (of.bodies f body own) }
