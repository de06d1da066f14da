-- The network driver's calls, roots and halves are what its table says.
use Rattle.std.proofs.Common.{◌≡◌, ℕ, zero, suc, ◌<◌, ◌⊎◌, inl, inr, Bool, true, false, List, [], ◌∷◌, ◌++◌, Option, Some, slice_get, get_or, length, refl, sym, ◌∙◌, ap, subst, arith}
use Rattle.std.proofs.lemmas.Bool.{both_ways}
use Rattle.mdr_core.specs.declared.types.Ty.{Ty}
use Rattle.mdr_core.specs.declared.types.Ty as form
use Rattle.mdr_core.specs.declared.types.Ty.TheVariants as ty
use Rattle.mdr_core.specs.declared.types.Ty.TheVariants.{outs-Ptr}
use denote.Hole.Carrier.{out}
use Rattle.mdr_core.specs.declared.plan.Half.TheVariants.{Kernel, User}
use Rattle.mdr_core.specs.declared.program.Func.{Func}
use Rattle.mdr_core.specs.Code.{Term, CallOf}
use Rattle.mdr_core.specs.Typing.{slots_of, function_type}
use Rattle.mdr_core.specs.Worked.{u32, run_pointer}
use Rattle.mdr_paths.specs.Chains.{Chain}
use Rattle.mdr_paths.specs.Paths.{is_in}
use Rattle.mdr_paths.specs.Numbers.{numbers}
use Rattle.mdr_paths.proofs.NodeLists.{none_in, is_in-cases}
use Rattle.mdr_slice.specs.Calls.{global_names, names_of, handlers_of}
use Rattle.mdr_slice.specs.Pointed.{called_type, member_type, target_by, target_of}
use Rattle.mdr_slice.specs.Graph.{AreCallees, AreRoots, IsRoot, IsRow, MayCall, MayPointTo, Reaches}
use Rattle.mdr_slice.specs.Halves.{AreHalves, IsKernel, IsUser, HasDownStub}
use Rattle.mdr_slice.specs.Marks.{half_by}
use Rattle.mdr_slice.specs.Worked.{nic, nic_funcs, nic_callees, nic_roots, nic_halves, nic_irq, op_state, op_reset, nic_probe, nic_open, nic_transmit, nic_ioctl, nic_total, run_of_op, op_pointer, s32, behind, NetworkDriverIsCut}
use Rattle.mdr_slice.specs.Written.{func_of, plain}
use Rattle.mdr_slice.proofs.GraphLaws.{some_same, nothing_there, fun_parts, some_inside}
use Rattle.mdr_slice.proofs.LawProofs.{kernel_half_is_least}
use Rattle.mdr_slice.proofs.WorkedLaws.{calls_nothing, may_call, called_by, names_are, handlers_are}

-- ---- numbers

-- what holds of each of eight numbers
pub each_of_eight : (P : ℕ → Type 0) → P 0 → P 1 → P 2 → P 3 → P 4 → P 5 → P 6 → P 7 → (f : ℕ) → f < 8 → P f
each_of_eight P a b c d e f g h zero i = a
each_of_eight P a b c d e f g h (suc zero) i = b
each_of_eight P a b c d e f g h (suc (suc zero)) i = c
each_of_eight P a b c d e f g h (suc (suc (suc zero))) i = d
each_of_eight P a b c d e f g h (suc (suc (suc (suc zero)))) i = e
each_of_eight P a b c d e f g h (suc (suc (suc (suc (suc zero))))) i = f
each_of_eight P a b c d e f g h (suc (suc (suc (suc (suc (suc zero)))))) i = g
each_of_eight P a b c d e f g h (suc (suc (suc (suc (suc (suc (suc zero))))))) i = h
each_of_eight P a b c d e f g h (suc (suc (suc (suc (suc (suc (suc (suc n)))))))) i = absurd (omega (arith, i))

pub one_of_two : (a b g : ℕ) → is_in numbers (a ∷ b ∷ []) g ≡ true → (g ≡ a) ⊎ (g ≡ b)
one_of_two a b g h = of (is_in-cases numbers a (b ∷ []) g h)
  where
    last : (g ≡ b) ⊎ (is_in numbers [] g ≡ true) → (g ≡ a) ⊎ (g ≡ b)
    last (inl e) = inr e
    last (inr e) = absurd (none_in numbers g e)

    of : (g ≡ a) ⊎ (is_in numbers (b ∷ []) g ≡ true) → (g ≡ a) ⊎ (g ≡ b)
    of (inl e) = inl e
    of (inr e) = last (is_in-cases numbers b [] g e)

pub is_first : (a b g : ℕ) → g ≡ a → is_in numbers (a ∷ b ∷ []) g ≡ true
unfolding is_in
is_first a b g e = grind arith

pub is_second : (a b g : ℕ) → g ≡ b → is_in numbers (a ∷ b ∷ []) g ≡ true
unfolding is_in
is_second a b g e = grind arith

-- ---- names

nic_names : names_of nic ≡ 0 ∷ 1 ∷ 2 ∷ []
unfolding global_names
nic_names = ap (λ (xs : List ℕ). xs ++ global_names nic.globals) (names_are nic_funcs)

nic_handlers : handlers_of nic ≡ 0 ∷ []
nic_handlers = handlers_are nic_funcs

-- ---- calls

op_is : target_of (Some op_pointer) ≡ Some (ty.Struct 3)
op_is = ap target_by (outs-Ptr (ty.Struct 3))

run_field : member_type nic (Some (ty.Struct 3)) 1 ≡ Some run_pointer
unfolding form.out-Ty denote.Hole.Carrier.out
run_field = refl

run_is : called_type nic (slots_of (func_of nic_ioctl)) (Term.Load (behind 2 1)) ≡ Some run_pointer
run_is = ap (λ (t : Option Ty). member_type nic t 1) op_is ∙ run_field

is_later : (g : ℕ) → (g ≡ 1) ⊎ (g ≡ 2) → is_in numbers (0 ∷ 1 ∷ 2 ∷ []) g ≡ true
unfolding is_in
is_later g (inl e) = grind arith
is_later g (inr e) = grind arith

runs : (g : ℕ) (func : Func) → slice_get nic.funcs g ≡ Some func → function_type func ≡ run_pointer → (g ≡ 1) ⊎ (g ≡ 2) → MayPointTo nic (slots_of (func_of nic_ioctl)) (Term.Load (behind 2 1)) g
runs g func names typed one = record {
  func = func;
  names = names;
  typed = run_is ∙ ap Some (sym typed);
  taken = subst (λ xs. is_in numbers xs g ≡ true) (sym nic_names) (is_later g one);
}

ioctl_calls : (counts : Bool) (g : ℕ) (func : Func) → slice_get nic.funcs g ≡ Some func → function_type func ≡ run_pointer → g < 8 → (g ≡ 1) ⊎ (g ≡ 2) → MayCall nic counts 6 g
ioctl_calls counts g func names typed inside one = may_call nic counts 6 g nic_ioctl refl inside (record { at = 0; call = run_of_op; is = refl; leads = runs g func names typed one })

-- the two types differ in how many parameters they have
handler_differs : Some run_pointer ≡ Some (function_type (func_of nic_irq)) → ⊥
handler_differs e = let same : length (s32 ∷ u32 ∷ []) ≡ length (ty.Void ∷ []) = ap length (fun_parts (s32 ∷ u32 ∷ []) (ty.Void ∷ []) (some_same e)) in omega arith

pointed : (g : ℕ) → MayPointTo nic (slots_of (func_of nic_ioctl)) (Term.Load (behind 2 1)) g → is_in numbers (1 ∷ 2 ∷ []) g ≡ true
pointed g m = of (is_in-cases numbers 0 (1 ∷ 2 ∷ []) g (subst (λ xs. is_in numbers xs g ≡ true) nic_names m.taken))
  where
    first : g ≡ 0 → ⊥
    first e =
        let at : slice_get nic.funcs 0 ≡ Some m.func = subst (λ n. slice_get nic.funcs n ≡ Some m.func) e m.names in
        handler_differs (sym run_is ∙ m.typed ∙ ap (λ (func : Func). Some (function_type func)) (sym (some_same at)))

    of : (g ≡ 0) ⊎ (is_in numbers (1 ∷ 2 ∷ []) g ≡ true) → is_in numbers (1 ∷ 2 ∷ []) g ≡ true
    of (inl e) = absurd (first e)
    of (inr h) = h

one_call : (counts : Bool) (g at : ℕ) (call : CallOf) → slice_get (run_of_op ∷ []) at ≡ Some call → Reaches nic (slots_of (func_of nic_ioctl)) counts call g → is_in numbers (1 ∷ 2 ∷ []) g ≡ true
one_call counts g zero call e r = pointed g (subst (λ (x : CallOf). Reaches nic (slots_of (func_of nic_ioctl)) counts x g) (sym (some_same e)) r)
one_call counts g (suc at) call e r = absurd (nothing_there call e)

ioctl_row : (counts : Bool) → IsRow nic counts 6 (1 ∷ 2 ∷ [])
ioctl_row counts = record {
  rises = (λ d h. rises d (is_in-cases numbers 2 [] d h), (λ d h. absurd (none_in numbers d h), tt));
  exact = λ g. (λ h. forth g (one_of_two 1 2 g h), λ m. let o = called_by nic counts 6 g nic_ioctl refl m in one_call counts g o.at o.call o.is o.leads);
}
  where
    rises : (d : ℕ) → (d ≡ 2) ⊎ (is_in numbers [] d ≡ true) → 1 < d
    rises d (inl e) = omega (arith, e)
    rises d (inr h) = absurd (none_in numbers d h)

    forth : (g : ℕ) → (g ≡ 1) ⊎ (g ≡ 2) → MayCall nic counts 6 g
    forth g (inl e) = subst (λ n. MayCall nic counts 6 n) (sym e) (ioctl_calls counts 1 (func_of op_state) refl refl (omega arith) (inl refl))
    forth g (inr e) = subst (λ n. MayCall nic counts 6 n) (sym e) (ioctl_calls counts 2 (func_of op_reset) refl refl (omega arith) (inr refl))

pub nic_calls : (counts : Bool) → AreCallees nic counts nic_callees
nic_calls counts = record {
  size = refl;
  rows = each_of_eight (λ f. IsRow nic counts f (get_or nic_callees f []))
      (calls_nothing nic counts 0 nic_irq refl (refl, (refl, tt)))
      (calls_nothing nic counts 1 op_state refl tt)
      (calls_nothing nic counts 2 op_reset refl tt)
      (calls_nothing nic counts 3 nic_probe refl (refl, (refl, (refl, tt))))
      (calls_nothing nic counts 4 nic_open refl (refl, tt))
      (calls_nothing nic counts 5 nic_transmit refl (refl, (refl, (refl, (refl, tt)))))
      (ioctl_row counts)
      (calls_nothing nic counts 7 nic_total refl tt);
}

-- ---- roots

root_here : (f : ℕ) (func : Func) → slice_get nic.funcs f ≡ Some func → (func.critical ≡ true) ⊎ (is_in numbers (0 ∷ []) f ≡ true) → IsRoot nic f
root_here f func names why = record { func = func; names = names; why = of why }
  where
    of : (func.critical ≡ true) ⊎ (is_in numbers (0 ∷ []) f ≡ true) → (func.critical ≡ true) ⊎ (is_in numbers (handlers_of nic) f ≡ true)
    of (inl e) = inl e
    of (inr h) = inr (subst (λ xs. is_in numbers xs f ≡ true) (sym nic_handlers) h)

-- a function that is neither marked nor the handler is no root
no_root : (f : ℕ) (func : Func) → slice_get nic.funcs f ≡ Some func → func.critical ≡ false → is_in numbers (0 ∷ []) f ≡ false → IsRoot nic f → is_in numbers nic_roots f ≡ true
no_root f func names plain other root = absurd (of root.why)
  where
    of : (root.func.critical ≡ true) ⊎ (is_in numbers (handlers_of nic) f ≡ true) → ⊥
    of (inl e) = both_ways func.critical plain (ap (λ (x : Func). x.critical) (some_same (sym names ∙ sym (sym root.names))) ∙ e)
    of (inr h) = both_ways (is_in numbers (0 ∷ []) f) other (subst (λ xs. is_in numbers xs f ≡ true) nic_handlers h)

root_back : (f : ℕ) → f < 8 → IsRoot nic f → is_in numbers nic_roots f ≡ true
unfolding is_in
root_back = each_of_eight (λ f. IsRoot nic f → is_in numbers nic_roots f ≡ true)
    (λ r. refl)
    (no_root 1 (func_of op_state) refl refl refl)
    (no_root 2 (func_of op_reset) refl refl refl)
    (no_root 3 (func_of nic_probe) refl refl refl)
    (no_root 4 (func_of nic_open) refl refl refl)
    (λ r. refl)
    (no_root 6 (func_of nic_ioctl) refl refl refl)
    (no_root 7 (func_of nic_total) refl refl refl)

pub nic_roots_are : AreRoots nic nic_roots
unfolding is_in
nic_roots_are = record {
  rises = (λ d h. rises d (is_in-cases numbers 5 [] d h), (λ d h. absurd (none_in numbers d h), tt));
  exact = λ f. (λ h. forth f (one_of_two 0 5 f h), λ r. root_back f (some_inside nic.funcs f r.func r.names) r);
}
  where
    rises : (d : ℕ) → (d ≡ 5) ⊎ (is_in numbers [] d ≡ true) → 0 < d
    rises d (inl e) = omega (arith, e)
    rises d (inr h) = absurd (none_in numbers d h)

    forth : (f : ℕ) → (f ≡ 0) ⊎ (f ≡ 5) → IsRoot nic f
    forth f (inl e) = subst (IsRoot nic) (sym e) (root_here 0 (func_of nic_irq) refl (inr refl))
    forth f (inr e) = subst (IsRoot nic) (sym e) (root_here 5 (func_of nic_transmit) refl (inl refl))

-- ---- halves

-- the roots call nothing
roots_call_nothing : (f g : ℕ) → is_in numbers nic_roots f ≡ true → MayCall nic false f g → is_in numbers nic_roots g ≡ true
roots_call_nothing f g h m = absurd (of (one_of_two 0 5 f h))
  where
    of : (f ≡ 0) ⊎ (f ≡ 5) → ⊥
    of (inl e) = none_in numbers g ((((nic_calls false).rows 0 (omega arith)).exact g).1 (subst (λ n. MayCall nic false n g) e m))
    of (inr e) = none_in numbers g ((((nic_calls false).rows 5 (omega arith)).exact g).1 (subst (λ n. MayCall nic false n g) e m))

kept : (f : ℕ) → IsKernel nic nic_roots f → is_in numbers nic_roots f ≡ true
kept f k = kernel_half_is_least.least nic nic_roots (is_in numbers nic_roots) (λ x h. h) roots_call_nothing f k

pub is_kernel : (f : ℕ) → (f ≡ 0) ⊎ (f ≡ 5) → IsKernel nic nic_roots f
is_kernel f (inl e) = Chain.Begin f (is_first 0 5 f e)
is_kernel f (inr e) = Chain.Begin f (is_second 0 5 f e)

no_kernel : (f : ℕ) → is_in numbers nic_roots f ≡ false → IsKernel nic nic_roots f → ⊥
no_kernel f e k = both_ways _ e (kept f k)

user_here : (f : ℕ) → f < 8 → is_in numbers nic_roots f ≡ false → IsUser nic nic_roots f
user_here f i e = record { inside = i; no_list = no_kernel f e }

-- which half each function is of, as a test
half_at : (f : ℕ) → f < 8 → slice_get nic_halves.halves f ≡ Some (half_by (is_in numbers nic_roots f))
unfolding is_in
half_at = each_of_eight (λ f. slice_get nic_halves.halves f ≡ Some (half_by (is_in numbers nic_roots f))) refl refl refl refl refl refl refl refl

root_at : (f : ℕ) → f < 8 → slice_get nic_halves.roots f ≡ Some (is_in numbers nic_roots f)
unfolding is_in
root_at = each_of_eight (λ f. slice_get nic_halves.roots f ≡ Some (is_in numbers nic_roots f)) refl refl refl refl refl refl refl refl

down_at : (f : ℕ) → f < 8 → slice_get nic_halves.down f ≡ Some false
down_at = each_of_eight (λ f. slice_get nic_halves.down f ≡ Some false) refl refl refl refl refl refl refl refl

kernel_by : (f : ℕ) (t : Bool) → is_in numbers nic_roots f ≡ t → Some (half_by t) ≡ Some Kernel → IsKernel nic nic_roots f
kernel_by f true h e = Chain.Begin f h
kernel_by f false h e = absurd cc

user_by : (f : ℕ) (t : Bool) → f < 8 → is_in numbers nic_roots f ≡ t → Some (half_by t) ≡ Some User → IsUser nic nic_roots f
user_by f true i h e = absurd cc
user_by f false i h e = user_here f i h

is_no_root : (f : ℕ) (t : Bool) → is_in numbers nic_roots f ≡ t → IsUser nic nic_roots f → is_in numbers nic_roots f ≡ false
is_no_root f true h u = absurd (u.no_list (Chain.Begin f h))
is_no_root f false h u = h

root_inside : (f : ℕ) → is_in numbers nic_roots f ≡ true → f < 8
root_inside f h = of (one_of_two 0 5 f h)
  where
    of : (f ≡ 0) ⊎ (f ≡ 5) → f < 8
    of (inl e) = omega (arith, e)
    of (inr e) = omega (arith, e)

-- no function that may be called is a root
roots_uncalled : (d : ℕ) → d < 8 → (f : ℕ) → is_in numbers (get_or nic_callees d []) f ≡ true → is_in numbers nic_roots f ≡ true → ⊥
roots_uncalled = each_of_eight (λ d. (f : ℕ) → is_in numbers (get_or nic_callees d []) f ≡ true → is_in numbers nic_roots f ≡ true → ⊥)
    none none none none none none
    (λ f h k. apart f (one_of_two 1 2 f h) (one_of_two 0 5 f k))
    none
  where
    none : (f : ℕ) → is_in numbers [] f ≡ true → is_in numbers nic_roots f ≡ true → ⊥
    none f h k = none_in numbers f h

    apart : (f : ℕ) → (f ≡ 1) ⊎ (f ≡ 2) → (f ≡ 0) ⊎ (f ≡ 5) → ⊥
    apart f (inl a) (inl b) = omega (arith, a, b)
    apart f (inl a) (inr b) = omega (arith, a, b)
    apart f (inr a) (inl b) = omega (arith, a, b)
    apart f (inr a) (inr b) = omega (arith, a, b)

no_stub : (f : ℕ) → HasDownStub nic nic_roots f → ⊥
no_stub f s = roots_uncalled s.caller s.user.inside f ((((nic_calls true).rows s.caller s.user.inside).exact f).1 s.calls) (kept f s.kernel)

pub nic_halves_are : AreHalves nic nic_roots nic_halves
nic_halves_are = record {
  halves_size = refl;
  roots_size = refl;
  down_size = refl;
  kernel = λ f. (
    (λ e. kernel_by f (is_in numbers nic_roots f) refl (sym (half_at f (some_inside nic_halves.halves f Kernel e)) ∙ e)),
    λ k. let h = kept f k in half_at f (root_inside f h) ∙ ap (λ t. Some (half_by t)) h,
  );
  user = λ f. (
    (λ e. let i = some_inside nic_halves.halves f User e in user_by f (is_in numbers nic_roots f) i refl (sym (half_at f i) ∙ e)),
    λ u. half_at f u.inside ∙ ap (λ t. Some (half_by t)) (is_no_root f (is_in numbers nic_roots f) refl u),
  );
  root = λ f. (
    (λ e. some_same (sym (root_at f (some_inside nic_halves.roots f true e)) ∙ e)),
    λ h. root_at f (root_inside f h) ∙ ap Some h,
  );
  stub = λ f. (
    (λ e. absurd (both_ways false refl (some_same (sym (down_at f (some_inside nic_halves.down f true e)) ∙ e)))),
    λ s. absurd (no_stub f s),
  );
}

pub network_driver_is_cut : NetworkDriverIsCut
network_driver_is_cut = record { calls = nic_calls; roots = nic_roots_are; halves = nic_halves_are }
