-- The network driver's plan is what its table says.
use Rattle.std.proofs.Common.{◌≡◌, ℕ, zero, suc, ◌<◌, ◌⊎◌, inl, inr, true, List, [], ◌∷◌, ◌++◌, Some, slice_get, get_or, refl, sym, ◌∙◌, ap, subst, arith}
use Rattle.std.proofs.lemmas.Bool.{or_cases}
use Rattle.mdr_core.specs.declared.types.Ty.{Ty}
use Rattle.mdr_core.specs.declared.types.Ty as form
use Rattle.mdr_core.specs.declared.types.Ty.TheVariants as ty
use Rattle.mdr_core.specs.declared.types.Ty.TheVariants.{outs-Ptr, outs-Struct}
use denote.Hole.Carrier.{out}
use Rattle.mdr_core.specs.declared.plan.Key.{Key}
use Rattle.mdr_core.specs.declared.plan.Half.TheVariants.{Kernel, User}
use Rattle.mdr_core.specs.Code.{Codes}
use Rattle.mdr_core.specs.Typing.{slots_of}
use Rattle.mdr_core.specs.Suited.{is_key}
use Rattle.mdr_paths.specs.Chains.{Chain}
use Rattle.mdr_paths.specs.Paths.{is_in}
use Rattle.mdr_paths.specs.Numbers.{numbers}
use Rattle.mdr_paths.proofs.NodeLists.{none_in, in_both}
use Rattle.mdr_slice.specs.Graph.{MayCall}
use Rattle.mdr_slice.specs.Worked.{nic, nic_callees, nic_halves, op_state, op_reset, nic_probe, nic_open, nic_ioctl, nic_total}
use Rattle.mdr_slice.specs.Written.{WrittenFunc, func_of, plain}
use Rattle.mdr_slice.proofs.GraphLaws.{some_same, some_inside, nothing_there}
use Rattle.mdr_slice.proofs.WorkedLaws.{code_is}
use Rattle.mdr_slice.proofs.WorkedProofs.{each_of_eight, one_of_two, is_first, is_second, nic_calls}
use Rattle.mdr_access.specs.Exposed.{IsOneOf}
use Rattle.mdr_access.specs.KeyOrder.{keys}
use Rattle.mdr_access.specs.Keys.{AreKeys, CallsUser, LeadsTo, IsTouched}
use Rattle.mdr_access.proofs.WorkedLaws.{IsSorted, rises, all_in, touched_in, all_touched, keys_touched, led}
use Rattle.mdr_access.specs.Forms.{Form, Touch, func_forms, param_forms, all_code_forms}
use Rattle.mdr_access.specs.Worked.{buf_len, stats_sent, stats_errors, card_state, card_ring, op_code, op_run, nic_keys, NetworkDriverHasKeys}

-- ---- the forms of each function

abbrev forms_in : WrittenFunc → List Form
forms_in w = param_forms w.params ++ all_code_forms nic (slots_of (func_of w)) (plain w.lines)

forms_are : (w : WrittenFunc) → func_forms nic (func_of w) ≡ forms_in w
forms_are w = ap (λ (cs : Codes). param_forms w.params ++ all_code_forms nic (slots_of (func_of w)) cs) (code_is w)

state_forms : forms_in op_state ≡ Touch card_state ∷ []
state_forms = rw (outs-Struct 2) refl

reset_forms : forms_in op_reset ≡ Touch stats_sent ∷ Touch stats_errors ∷ []
reset_forms = rw (outs-Struct 2, outs-Struct 1) refl

probe_forms : forms_in nic_probe ≡ Touch buf_len ∷ Touch card_ring ∷ []
probe_forms = rw (outs-Ptr (ty.Struct 0), outs-Struct 0, outs-Struct 2) refl

open_forms : forms_in nic_open ≡ Touch card_state ∷ []
open_forms = rw (outs-Struct 2) refl

ioctl_forms : forms_in nic_ioctl ≡ Touch op_code ∷ Touch op_code ∷ Touch op_run ∷ []
ioctl_forms = rw (outs-Ptr (ty.Struct 3), outs-Struct 3) refl

total_forms : forms_in nic_total ≡ Touch card_ring ∷ Touch buf_len ∷ []
total_forms = rw (outs-Ptr (ty.Struct 0), outs-Struct 0, outs-Struct 2) refl

-- ---- what each function leads to

abbrev Calls : ℕ → ℕ → Type 0
Calls = CallsUser nic nic_halves.halves

-- a function that calls nothing leads to itself alone
leads_nowhere : (t : ℕ) → t < 8 → get_or nic_callees t [] ≡ [] → (f : ℕ) → LeadsTo nic nic_halves.halves t f → f ≡ t
leads_nowhere t inside quiet f l = led nic nic_halves.halves t (λ n. n ≡ t) refl next f l
  where
    next : (d c : ℕ) → d ≡ t → Calls d c → c ≡ t
    next d c e step =
        let m : MayCall nic true t c = subst (λ n. MayCall nic true n c) e step.calls in
        absurd (none_in numbers c (subst (λ row. is_in numbers row c ≡ true) quiet ((((nic_calls true).rows t inside).exact c).1 m)))

alone : (t : ℕ) (w : WrittenFunc) (ks : List Key) → t < 8 → get_or nic_callees t [] ≡ [] → slice_get nic.funcs t ≡ Some (func_of w) → (fs : List Form) → func_forms nic (func_of w) ≡ fs → IsSorted ks → all_in ks fs ≡ true → all_touched nic fs ks ≡ true → AreKeys nic nic_halves.halves t ks
alone t w ks inside quiet names fs forms sorted only each = record {
  rises = rises ks sorted;
  exact = λ k. (
    (λ e. keys_touched nic nic_halves.halves t t (func_of w) fs ks (Chain.Begin t refl) names forms each k e),
    λ h. own k h (leads_nowhere t inside quiet h.func h.reached),
  );
}
  where
    own : (k : Key) (h : IsTouched nic nic_halves.halves t k) → h.func ≡ t → is_in keys ks k ≡ true
    own k h e =
        let same : h.own ≡ func_of w = some_same (sym (subst (λ n. slice_get nic.funcs n ≡ Some h.own) e h.names) ∙ names) in
        let one : IsOneOf fs h.form = subst (λ xs. IsOneOf xs h.form) (ap (func_forms nic) same ∙ forms) h.one in
        touched_in nic ks fs only h.form one.at one.is k h.has

state_keys : AreKeys nic nic_halves.halves 1 (card_state ∷ [])
unfolding is_in is_key form.out-Ty denote.Hole.Carrier.out
state_keys = alone 1 op_state (card_state ∷ []) (omega arith) refl refl (Touch card_state ∷ []) (forms_are op_state ∙ state_forms) tt refl refl

reset_keys : AreKeys nic nic_halves.halves 2 (stats_sent ∷ stats_errors ∷ [])
unfolding is_in is_key form.out-Ty denote.Hole.Carrier.out
reset_keys = alone 2 op_reset (stats_sent ∷ stats_errors ∷ []) (omega arith) refl refl (Touch stats_sent ∷ Touch stats_errors ∷ []) (forms_are op_reset ∙ reset_forms) (inr (refl, omega arith), tt) refl refl

probe_keys : AreKeys nic nic_halves.halves 3 (buf_len ∷ card_ring ∷ [])
unfolding is_in is_key form.out-Ty denote.Hole.Carrier.out
probe_keys = alone 3 nic_probe (buf_len ∷ card_ring ∷ []) (omega arith) refl refl (Touch buf_len ∷ Touch card_ring ∷ []) (forms_are nic_probe ∙ probe_forms) (inl (omega arith), tt) refl refl

open_keys : AreKeys nic nic_halves.halves 4 (card_state ∷ [])
unfolding is_in is_key form.out-Ty denote.Hole.Carrier.out
open_keys = alone 4 nic_open (card_state ∷ []) (omega arith) refl refl (Touch card_state ∷ []) (forms_are nic_open ∙ open_forms) tt refl refl

total_keys : AreKeys nic nic_halves.halves 7 (buf_len ∷ card_ring ∷ [])
unfolding is_in is_key form.out-Ty denote.Hole.Carrier.out
total_keys = alone 7 nic_total (buf_len ∷ card_ring ∷ []) (omega arith) refl refl (Touch card_ring ∷ Touch buf_len ∷ []) (forms_are nic_total ∙ total_forms) (inl (omega arith), tt) refl refl

-- ---- `nic_ioctl`, which may call two others

abbrev ioctl_list : List Key
ioctl_list = stats_sent ∷ stats_errors ∷ card_state ∷ op_code ∷ op_run ∷ []

abbrev IsLed : ℕ → Type 0
IsLed f = (f ≡ 6) ⊎ ((f ≡ 1) ⊎ (f ≡ 2))

from_row : (f : ℕ) → (f ≡ 1) ⊎ (f ≡ 2) → IsLed f
from_row f one = inr one

called : (f c : ℕ) → IsLed f → Calls f c → IsLed c
called f c (inl e) step = from_row c (one_of_two 1 2 c ((((nic_calls true).rows 6 (omega arith)).exact c).1 (subst (λ n. MayCall nic true n c) e step.calls)))
called f c (inr (inl e)) step = absurd (none_in numbers c ((((nic_calls true).rows 1 (omega arith)).exact c).1 (subst (λ n. MayCall nic true n c) e step.calls)))
called f c (inr (inr e)) step = absurd (none_in numbers c ((((nic_calls true).rows 2 (omega arith)).exact c).1 (subst (λ n. MayCall nic true n c) e step.calls)))

ioctl_leads : (f : ℕ) → LeadsTo nic nic_halves.halves 6 f → IsLed f
ioctl_leads f l = led nic nic_halves.halves 6 IsLed (inl refl) called f l

-- what a function that is led to touches is in the list
only_of : (f : ℕ) (w : WrittenFunc) (fs : List Form) → slice_get nic.funcs f ≡ Some (func_of w) → func_forms nic (func_of w) ≡ fs → all_in ioctl_list fs ≡ true → (k : Key) (h : IsTouched nic nic_halves.halves 6 k) → h.func ≡ f → is_in keys ioctl_list k ≡ true
only_of f w fs names forms only k h e =
    let same : h.own ≡ func_of w = some_same (sym (subst (λ n. slice_get nic.funcs n ≡ Some h.own) e h.names) ∙ names) in
    let one : IsOneOf fs h.form = subst (λ xs. IsOneOf xs h.form) (ap (func_forms nic) same ∙ forms) h.one in
    touched_in nic ioctl_list fs only h.form one.at one.is k h.has

ioctl_only : (k : Key) (h : IsTouched nic nic_halves.halves 6 k) → IsLed h.func → is_in keys ioctl_list k ≡ true
unfolding is_in
ioctl_only k h (inl e) = only_of 6 nic_ioctl (Touch op_code ∷ Touch op_code ∷ Touch op_run ∷ []) refl (forms_are nic_ioctl ∙ ioctl_forms) refl k h e
ioctl_only k h (inr (inl e)) = only_of 1 op_state (Touch card_state ∷ []) refl (forms_are op_state ∙ state_forms) refl k h e
ioctl_only k h (inr (inr e)) = only_of 2 op_reset (Touch stats_sent ∷ Touch stats_errors ∷ []) refl (forms_are op_reset ∙ reset_forms) refl k h e

-- a step to one of the two
step_to : (c : ℕ) → is_in numbers (1 ∷ 2 ∷ []) c ≡ true → slice_get nic_halves.halves c ≡ Some User → LeadsTo nic nic_halves.halves 6 c
step_to c row user = Chain.Next 6 c (Chain.Begin 6 refl) (record { calls = (((nic_calls true).rows 6 (omega arith)).exact c).0 row; user = user })

state_led : LeadsTo nic nic_halves.halves 6 1
state_led = step_to 1 (is_first 1 2 1 refl) refl

reset_led : LeadsTo nic nic_halves.halves 6 2
reset_led = step_to 2 (is_second 1 2 2 refl) refl

own_touched : all_touched nic (Touch op_code ∷ Touch op_code ∷ Touch op_run ∷ []) (op_code ∷ op_run ∷ []) ≡ true
unfolding is_key form.out-Ty denote.Hole.Carrier.out
own_touched = refl

state_touched : all_touched nic (Touch card_state ∷ []) (card_state ∷ []) ≡ true
unfolding is_key form.out-Ty denote.Hole.Carrier.out
state_touched = refl

reset_touched : all_touched nic (Touch stats_sent ∷ Touch stats_errors ∷ []) (stats_sent ∷ stats_errors ∷ []) ≡ true
unfolding is_key form.out-Ty denote.Hole.Carrier.out
reset_touched = refl

ioctl_each : (k : Key) → is_in keys ioctl_list k ≡ true → IsTouched nic nic_halves.halves 6 k
ioctl_each k e = of (or_cases _ _ (sym (in_both keys (stats_sent ∷ stats_errors ∷ []) (card_state ∷ op_code ∷ op_run ∷ []) k) ∙ e))
  where
    of_own : is_in keys (op_code ∷ op_run ∷ []) k ≡ true → IsTouched nic nic_halves.halves 6 k
    of_own h = keys_touched nic nic_halves.halves 6 6 (func_of nic_ioctl) (Touch op_code ∷ Touch op_code ∷ Touch op_run ∷ []) (op_code ∷ op_run ∷ []) (Chain.Begin 6 refl) refl (forms_are nic_ioctl ∙ ioctl_forms) own_touched k h

    of_state : is_in keys (card_state ∷ []) k ≡ true → IsTouched nic nic_halves.halves 6 k
    of_state h = keys_touched nic nic_halves.halves 6 1 (func_of op_state) (Touch card_state ∷ []) (card_state ∷ []) state_led refl (forms_are op_state ∙ state_forms) state_touched k h

    of_reset : is_in keys (stats_sent ∷ stats_errors ∷ []) k ≡ true → IsTouched nic nic_halves.halves 6 k
    of_reset h = keys_touched nic nic_halves.halves 6 2 (func_of op_reset) (Touch stats_sent ∷ Touch stats_errors ∷ []) (stats_sent ∷ stats_errors ∷ []) reset_led refl (forms_are op_reset ∙ reset_forms) reset_touched k h

    of_rest : (is_in keys (card_state ∷ []) k ≡ true) ⊎ (is_in keys (op_code ∷ op_run ∷ []) k ≡ true) → IsTouched nic nic_halves.halves 6 k
    of_rest (inl h) = of_state h
    of_rest (inr h) = of_own h

    of : (is_in keys (stats_sent ∷ stats_errors ∷ []) k ≡ true) ⊎ (is_in keys (card_state ∷ op_code ∷ op_run ∷ []) k ≡ true) → IsTouched nic nic_halves.halves 6 k
    of (inl h) = of_reset h
    of (inr h) = of_rest (or_cases _ _ (sym (in_both keys (card_state ∷ []) (op_code ∷ op_run ∷ []) k) ∙ h))

ioctl_keys : AreKeys nic nic_halves.halves 6 ioctl_list
ioctl_keys = record {
  rises = rises ioctl_list (inr (refl, omega arith), (inl (omega arith), (inl (omega arith), (inr (refl, omega arith), tt))));
  exact = λ k. (ioctl_each k, λ h. ioctl_only k h (ioctl_leads h.func h.reached));
}

-- ---- the plan

-- of each function: a list that it has is the right one, if it is of the user half, and empty, if it is not
kernel_list : (f : ℕ) → f < 8 → slice_get nic_halves.halves f ≡ Some Kernel → slice_get nic_keys f ≡ Some []
kernel_list = each_of_eight (λ f. slice_get nic_halves.halves f ≡ Some Kernel → slice_get nic_keys f ≡ Some [])
    (λ e. refl)
    (λ e. absurd (apart e))
    (λ e. absurd (apart e))
    (λ e. absurd (apart e))
    (λ e. absurd (apart e))
    (λ e. refl)
    (λ e. absurd (apart e))
    (λ e. absurd (apart e))
  where
    apart : Some User ≡ Some Kernel → ⊥
    apart e = cc

user_list : (t : ℕ) → t < 8 → slice_get nic_halves.halves t ≡ Some User → AreKeys nic nic_halves.halves t (get_or nic_keys t [])
user_list = each_of_eight (λ t. slice_get nic_halves.halves t ≡ Some User → AreKeys nic nic_halves.halves t (get_or nic_keys t []))
    (λ e. absurd (apart e))
    (λ e. state_keys)
    (λ e. reset_keys)
    (λ e. probe_keys)
    (λ e. open_keys)
    (λ e. absurd (apart e))
    (λ e. ioctl_keys)
    (λ e. total_keys)
  where
    apart : Some Kernel ≡ Some User → ⊥
    apart e = cc

got : (xs : List (List Key)) (i : ℕ) (ks : List Key) → slice_get xs i ≡ Some ks → get_or xs i [] ≡ ks
got [] i ks e = absurd (nothing_there ks e)
got (x ∷ xs) zero ks e = some_same e
got (x ∷ xs) (suc i) ks e = got xs i ks e

pub network_driver_has_keys : NetworkDriverHasKeys
network_driver_has_keys = record {
  types = refl;
  names = refl;
  halves_are = refl;
  roots = refl;
  down = refl;
  lists = refl;
  kernel = λ f ks half e. some_same (sym e ∙ kernel_list f (some_inside nic_halves.halves f Kernel half) half);
  user = λ t ks half e. subst (AreKeys nic nic_halves.halves t) (got nic_keys t ks e) (user_list t (some_inside nic_halves.halves t User half) half);
}
