-- The halves of a cycle of calls that a call back closes.
use Rattle.std.proofs.Common.{◌≡◌, ℕ, zero, suc, ◌<◌, ◌⊎◌, inl, inr, Bool, true, false, List, [], ◌∷◌, ◌++◌, Some, slice_get, get_or, refl, sym, ◌∙◌, ap, subst, arith}
use Rattle.std.proofs.lemmas.Bool.{both_ways}
use Rattle.mdr_core.specs.declared.value.Value.TheVariants as value
use Rattle.mdr_core.specs.declared.plan.Half.TheVariants.{Kernel, User}
use Rattle.mdr_core.specs.declared.program.Func.{Func}
use Rattle.mdr_core.specs.Code.{Term, CallOf}
use Rattle.mdr_core.specs.Typing.{slots_of}
use Rattle.mdr_paths.specs.Chains.{Chain}
use Rattle.mdr_paths.specs.Paths.{is_in}
use Rattle.mdr_paths.specs.Numbers.{numbers}
use Rattle.mdr_paths.proofs.NodeLists.{none_in, is_in-cases}
use Rattle.mdr_slice.specs.Calls.{global_names, names_of, handlers_of}
use Rattle.mdr_slice.specs.Graph.{AreCallees, AreRoots, IsRoot, IsRow, MayCall, MayPointTo, Reaches}
use Rattle.mdr_slice.specs.Halves.{AreHalves, IsKernel, IsUser, HasDownStub}
use Rattle.mdr_slice.specs.Worked.{poll, hook, poll_again, cycle, service, CycleIsCut}
use Rattle.mdr_slice.specs.Written.{func_of}
use Rattle.mdr_slice.proofs.GraphLaws.{some_same, nothing_there, some_inside}
use Rattle.mdr_slice.proofs.LawProofs.{kernel_half_is_least}
use Rattle.mdr_slice.proofs.WorkedLaws.{may_call, called_by, names_are, handlers_are}

each_of_two : (P : ℕ → Type 0) → P 0 → P 1 → (f : ℕ) → f < 2 → P f
each_of_two P a b zero i = a
each_of_two P a b (suc zero) i = b
each_of_two P a b (suc (suc n)) i = absurd (omega (arith, i))

-- a list with one number
only_one : (a g : ℕ) → is_in numbers (a ∷ []) g ≡ true → g ≡ a
only_one a g h = of (is_in-cases numbers a [] g h)
  where
    of : (g ≡ a) ⊎ (is_in numbers [] g ≡ true) → g ≡ a
    of (inl e) = e
    of (inr e) = absurd (none_in numbers g e)

is_one : (a g : ℕ) → g ≡ a → is_in numbers (a ∷ []) g ≡ true
unfolding is_in
is_one a g e = grind arith

-- a row with one function, from what the only call of a function reaches
one_row : (counts : Bool) (f a : ℕ) → ((g : ℕ) → MayCall cycle counts f g → g ≡ a) → MayCall cycle counts f a → IsRow cycle counts f (a ∷ [])
one_row counts f a only there = record {
  rises = (λ d h. absurd (none_in numbers d h), tt);
  exact = λ g. (λ h. subst (MayCall cycle counts f) (sym (only_one a g h)) there, λ m. is_one a g (only g m));
}

cycle_names : names_of cycle ≡ 1 ∷ []
unfolding global_names
cycle_names = ap (λ (xs : List ℕ). xs ++ global_names cycle.globals) (names_are (poll ∷ hook ∷ []))

cycle_handlers : handlers_of cycle ≡ []
cycle_handlers = handlers_are (poll ∷ hook ∷ [])

hook_named : MayPointTo cycle (slots_of (func_of poll)) (Term.Lit (value.Fn 1)) 1
hook_named = record { func = func_of hook; names = refl; typed = refl; taken = subst (λ xs. is_in numbers xs 1 ≡ true) (sym cycle_names) (is_one 1 1 refl) }

hook_calls : (counts : Bool) → MayCall cycle counts 1 0
hook_calls counts = may_call cycle counts 1 0 hook refl (omega arith) (record { at = 0; call = poll_again; is = refl; leads = refl })

hook_only : (counts : Bool) (g : ℕ) → MayCall cycle counts 1 g → g ≡ 0
hook_only counts g m = let o = called_by cycle counts 1 g hook refl m in of o.at o.call o.is o.leads
  where
    of : (at : ℕ) (call : CallOf) → slice_get (poll_again ∷ []) at ≡ Some call → Reaches cycle (slots_of (func_of hook)) counts call g → g ≡ 0
    of zero call e r = sym (subst (λ (x : CallOf). Reaches cycle (slots_of (func_of hook)) counts x g) (sym (some_same e)) r)
    of (suc at) call e r = absurd (nothing_there call e)

poll_calls : MayCall cycle true 0 1
poll_calls = may_call cycle true 0 1 poll refl (omega arith) (record { at = 0; call = service 15 (Term.Lit (value.Fn 1) ∷ []); is = refl; leads = (refl, hook_named) })

poll_only : (g : ℕ) → MayCall cycle true 0 g → g ≡ 1
poll_only g m = let o = called_by cycle true 0 g poll refl m in of o.at o.call o.is o.leads
  where
    of : (at : ℕ) (call : CallOf) → slice_get (service 15 (Term.Lit (value.Fn 1) ∷ []) ∷ []) at ≡ Some call → Reaches cycle (slots_of (func_of poll)) true call g → g ≡ 1
    of zero call e r =
        let reach : (15 ≡ 15) × MayPointTo cycle (slots_of (func_of poll)) (Term.Lit (value.Fn 1)) g = subst (λ (x : CallOf). Reaches cycle (slots_of (func_of poll)) true x g) (sym (some_same e)) r in
        only_one 1 g (subst (λ xs. is_in numbers xs g ≡ true) cycle_names reach.1.taken)
    of (suc at) call e r = absurd (nothing_there call e)

poll_none : (g : ℕ) → MayCall cycle false 0 g → ⊥
poll_none g m = let o = called_by cycle false 0 g poll refl m in of o.at o.call o.is o.leads
  where
    of : (at : ℕ) (call : CallOf) → slice_get (service 15 (Term.Lit (value.Fn 1) ∷ []) ∷ []) at ≡ Some call → Reaches cycle (slots_of (func_of poll)) false call g → ⊥
    of zero call e r = subst (λ (x : CallOf). Reaches cycle (slots_of (func_of poll)) false x g) (sym (some_same e)) r
    of (suc at) call e r = nothing_there call e

cycle_calls : AreCallees cycle true ((1 ∷ []) ∷ (0 ∷ []) ∷ [])
cycle_calls = record {
  size = refl;
  rows = each_of_two (λ f. IsRow cycle true f (get_or ((1 ∷ []) ∷ (0 ∷ []) ∷ []) f [])) (one_row true 0 1 poll_only poll_calls) (one_row true 1 0 (hook_only true) (hook_calls true));
}

cycle_without : AreCallees cycle false ([] ∷ (0 ∷ []) ∷ [])
cycle_without = record {
  size = refl;
  rows = each_of_two (λ f. IsRow cycle false f (get_or ([] ∷ (0 ∷ []) ∷ []) f []))
      (record { rises = tt; exact = λ g. (λ h. absurd (none_in numbers g h), λ m. absurd (poll_none g m)) })
      (one_row false 1 0 (hook_only false) (hook_calls false));
}

-- ---- roots and halves

hook_no_root : IsRoot cycle 1 → ⊥
hook_no_root r = of r.why
  where
    of : (r.func.critical ≡ true) ⊎ (is_in numbers (handlers_of cycle) 1 ≡ true) → ⊥
    of (inl e) = both_ways false refl (ap (λ (x : Func). x.critical) (some_same r.names) ∙ e)
    of (inr h) = none_in numbers 1 (subst (λ xs. is_in numbers xs 1 ≡ true) cycle_handlers h)

only_root : (f : ℕ) → f < 2 → IsRoot cycle f → f ≡ 0
only_root = each_of_two (λ f. IsRoot cycle f → f ≡ 0) (λ r. refl) (λ r. absurd (hook_no_root r))

cycle_roots : AreRoots cycle (0 ∷ [])
cycle_roots = record {
  rises = (λ d h. absurd (none_in numbers d h), tt);
  exact = λ f. (
    λ h. subst (IsRoot cycle) (sym (only_one 0 f h)) (record { func = func_of poll; names = refl; why = inl refl }),
    λ r. is_one 0 f (only_root f (some_inside cycle.funcs f r.func r.names) r),
  );
}

is_kernel : IsKernel cycle (0 ∷ []) 0
is_kernel = Chain.Begin 0 (is_one 0 0 refl)

-- a root that calls back calls nothing that counts
kept : (f : ℕ) → IsKernel cycle (0 ∷ []) f → f ≡ 0
kept f k = only_one 0 f (kernel_half_is_least.least cycle (0 ∷ []) (is_in numbers (0 ∷ [])) (λ x h. h) next f k)
  where
    next : (d c : ℕ) → is_in numbers (0 ∷ []) d ≡ true → MayCall cycle false d c → is_in numbers (0 ∷ []) c ≡ true
    next d c h m = absurd (poll_none c (subst (λ n. MayCall cycle false n c) (only_one 0 d h) m))

hook_user : IsUser cycle (0 ∷ []) 1
hook_user = record { inside = omega arith; no_list = λ k. let same : 1 ≡ 0 = kept 1 k in omega (arith, same) }

cycle_halves : AreHalves cycle (0 ∷ []) (record { halves = Kernel ∷ User ∷ []; roots = true ∷ false ∷ []; down = true ∷ false ∷ [] })
cycle_halves = record {
  halves_size = refl;
  roots_size = refl;
  down_size = refl;
  kernel = λ f. ((λ e. half f (some_inside (Kernel ∷ User ∷ []) f Kernel e) e), λ k. subst (λ n. slice_get (Kernel ∷ User ∷ []) n ≡ Some Kernel) (sym (kept f k)) refl);
  user = λ f. ((λ e. other f (some_inside (Kernel ∷ User ∷ []) f User e) e), λ u. away f u.inside u);
  root = λ f. ((λ e. flag f (some_inside (true ∷ false ∷ []) f true e) e), λ h. subst (λ n. slice_get (true ∷ false ∷ []) n ≡ Some true) (sym (only_one 0 f h)) refl);
  stub = λ f. ((λ e. down f (some_inside (true ∷ false ∷ []) f true e) e), λ s. subst (λ n. slice_get (true ∷ false ∷ []) n ≡ Some true) (sym (kept f s.kernel)) refl);
}
  where
    half : (f : ℕ) → f < 2 → slice_get (Kernel ∷ User ∷ []) f ≡ Some Kernel → IsKernel cycle (0 ∷ []) f
    half = each_of_two (λ f. slice_get (Kernel ∷ User ∷ []) f ≡ Some Kernel → IsKernel cycle (0 ∷ []) f) (λ e. is_kernel) (λ e. let no : Some User ≡ Some Kernel = e in absurd cc)

    other : (f : ℕ) → f < 2 → slice_get (Kernel ∷ User ∷ []) f ≡ Some User → IsUser cycle (0 ∷ []) f
    other = each_of_two (λ f. slice_get (Kernel ∷ User ∷ []) f ≡ Some User → IsUser cycle (0 ∷ []) f) (λ e. let no : Some Kernel ≡ Some User = e in absurd cc) (λ e. hook_user)

    away : (f : ℕ) → f < 2 → IsUser cycle (0 ∷ []) f → slice_get (Kernel ∷ User ∷ []) f ≡ Some User
    away = each_of_two (λ f. IsUser cycle (0 ∷ []) f → slice_get (Kernel ∷ User ∷ []) f ≡ Some User) (λ u. absurd (u.no_list is_kernel)) (λ u. refl)

    flag : (f : ℕ) → f < 2 → slice_get (true ∷ false ∷ []) f ≡ Some true → is_in numbers (0 ∷ []) f ≡ true
    flag = each_of_two (λ f. slice_get (true ∷ false ∷ []) f ≡ Some true → is_in numbers (0 ∷ []) f ≡ true) (λ e. is_one 0 0 refl) (λ e. absurd (both_ways false refl (some_same e)))

    down : (f : ℕ) → f < 2 → slice_get (true ∷ false ∷ []) f ≡ Some true → HasDownStub cycle (0 ∷ []) f
    down = each_of_two (λ f. slice_get (true ∷ false ∷ []) f ≡ Some true → HasDownStub cycle (0 ∷ []) f)
        (λ e. record { kernel = is_kernel; caller = 1; user = hook_user; calls = hook_calls true })
        (λ e. absurd (both_ways false refl (some_same e)))

pub cycle_is_cut : CycleIsCut
cycle_is_cut = record { calls = cycle_calls; without = cycle_without; roots = cycle_roots; halves = cycle_halves }
