-- Ticks below the horizon.
use Rattle.std.proofs.Common.{◌≡◌, ℕ, zero, suc, ◌+◌, ◌-◌, ◌^◌, ◌<◌, ◌≤◌, min, Bool, true, false, ◌==◌, ◌&&◌, nat_lt, if◌then◌else◌, List, [], ◌∷◌, Option, Some, None, refl, sym, ◌∙◌, ap, subst, arith, le_refl, le_trans, le-ltb, ltb-true, ltb-false, eqb-true, ne_eqb}
use Rattle.mdr_device.specs.declared.rule.Rule.{Rule}
use Rattle.mdr_device.specs.declared.rule.Trigger.{Trigger}
use Rattle.mdr_device.specs.declared.rule.Trigger.TheVariants as trigger
use Rattle.mdr_device.specs.declared.state.State.{State}
use Rattle.mdr_device.specs.Horizon.{before_event, before_rules, before_tick, before_zero, before_zeros, horizon, later, later_number, lowered, skipped}
use Rattle.mdr_device.specs.Machines.{Machine, advanced, ticked}
use Rattle.mdr_device.specs.Rules.{all_effected, fired, holds, is_for, next_tick, one_tick, ruled, rung, rung_once, tick_fired}

-- ---- no more than so many

tick_few_if : (b : Bool) (n t most : ℕ) → (if b then min most (t - n - 1) else most) ≤ most
tick_few_if true n t most = omega arith
tick_few_if false n t most = le_refl most

event_few : (o : Option ℕ) (t : Trigger) (most : ℕ) → before_event o t most ≤ most
event_few (Some n) (trigger.Write r) most = le_refl most
event_few (Some n) (trigger.Read r) most = le_refl most
event_few (Some n) (trigger.Tick t) most = tick_few_if (nat_lt n t) n t most
event_few (Some n) (trigger.Zero c) most = le_refl most
event_few None (trigger.Write r) most = le_refl most
event_few None (trigger.Read r) most = le_refl most
event_few None (trigger.Tick t) most = le_refl most
event_few None (trigger.Zero c) most = le_refl most

rules_few : (o : Option ℕ) (rules : List Rule) (most : ℕ) → before_rules o rules most ≤ most
rules_few o [] most = le_refl most
rules_few o (rule ∷ rules) most = le_trans (rules_few o rules (before_event o rule.trigger most)) (event_few o rule.trigger most)

zero_few_if : (b : Bool) (count most : ℕ) → (if b then most else min most (count - 1)) ≤ most
zero_few_if true count most = le_refl most
zero_few_if false count most = omega arith

zero_few : (count most : ℕ) → before_zero count most ≤ most
zero_few count most = zero_few_if (count == 0) count most

zeros_few : (counts : List ℕ) (most : ℕ) → before_zeros counts most ≤ most
zeros_few [] most = le_refl most
zeros_few (count ∷ counts) most = le_trans (zeros_few counts (before_zero count most)) (zero_few count most)

pub few : (most : ℕ) (d : Machine) → horizon most d ≤ most
few most d = le_trans (zeros_few d.state.counts (before_rules d.ticks d.rules most)) (rules_few d.ticks d.rules most)

-- ---- no rule is for the next tick

behind : (n t : ℕ) → t ≤ n → (t ≡ n + 1 → ⊥)
behind n t less is = let l : t ≤ n = less in omega (arith, l, is)

beyond : (n t k most : ℕ) → suc k ≤ min most (t - n - 1) → (t ≡ n + 1 → ⊥)
beyond n t k most far is = let l : suc k ≤ min most (t - n - 1) = far in omega (arith, l, is)

not_now_if : (b : Bool) (n t k most : ℕ) → nat_lt n t ≡ b → suc k ≤ (if b then min most (t - n - 1) else most) → (t ≡ n + 1 → ⊥)
not_now_if true n t k most test far = beyond n t k most far
not_now_if false n t k most test far = behind n t (ltb-false n t test)

not_next : (n k most : ℕ) (t : Trigger) → suc k ≤ before_event (Some n) t most → is_for t (trigger.Tick (n + 1)) ≡ false
not_next n k most (trigger.Write r) far = refl
not_next n k most (trigger.Read r) far = refl
not_next n k most (trigger.Tick t) far = ne_eqb t (n + 1) (not_now_if (nat_lt n t) n t k most refl far)
not_next n k most (trigger.Zero c) far = refl

unruled : (n k most : ℕ) (rule : Rule) (s : State) → suc k ≤ before_event (Some n) rule.trigger most → ruled (trigger.Tick (n + 1)) rule s ≡ s
unfolding ruled
unruled n k most rule s far = ap (λ b. if b && holds rule.guard s.registers then all_effected rule.effects s else s) (not_next n k most rule.trigger far)

none_fires : (n k most : ℕ) (rules : List Rule) (s : State) → suc k ≤ before_rules (Some n) rules most → fired (trigger.Tick (n + 1)) rules s ≡ s
none_fires n k most [] s far = refl
none_fires n k most (rule ∷ rules) s far =
    ap (fired (trigger.Tick (n + 1)) rules) (unruled n k most rule s (le_trans far (rules_few (Some n) rules (before_event (Some n) rule.trigger most))))
    ∙ none_fires n k (before_event (Some n) rule.trigger most) rules s far

fires_if : (b : Bool) (n k most : ℕ) (rules : List Rule) (s : State) → suc k ≤ before_rules (Some n) rules most → tick_fired (if b then Some (n + 1) else None) rules s ≡ s
fires_if true n k most rules s far = none_fires n k most rules s far
fires_if false n k most rules s far = refl

none_at_tick : (o : Option ℕ) (k most : ℕ) (rules : List Rule) (s : State) → suc k ≤ before_rules o rules most → tick_fired (next_tick o) rules s ≡ s
none_at_tick (Some n) k most rules s far = fires_if (nat_lt (n + 1) (2 ^ 64)) n k most rules s far
none_at_tick None k most rules s far = refl

-- ---- no count-down ends in it

not_last : (b : Bool) (count k most : ℕ) → (count == 0) ≡ b → suc k ≤ (if b then most else min most (count - 1)) → (count ≡ 1 → ⊥)
not_last true count k most test far is = let none : count ≡ 0 = eqb-true count 0 test in omega (arith, none, is)
not_last false count k most test far is = let l : suc k ≤ min most (count - 1) = far in omega (arith, l, is)

none_ends : (c count k most : ℕ) (rules : List Rule) (s : State) → suc k ≤ before_zero count most → rung_once c count rules s ≡ s
none_ends c count k most rules s far = ap (λ b. if b then fired (trigger.Zero c) rules s else s) (ne_eqb count 1 (not_last (count == 0) count k most refl far))

none_rings : (c k most : ℕ) (counts : List ℕ) (rules : List Rule) (s : State) → suc k ≤ before_zeros counts most → rung c counts rules s ≡ s
none_rings c k most [] rules s far = refl
none_rings c k most (count ∷ counts) rules s far =
    ap (rung (c + 1) counts rules) (none_ends c count k most rules s (le_trans far (zeros_few counts (before_zero count most))))
    ∙ none_rings (c + 1) k (before_zero count most) counts rules s far

-- ---- the next tick, and behind it one less

abbrev next : Machine → Machine
next d = record d { ticks = next_tick d.ticks; state = record d.state { counts = lowered 1 d.state.counts } }

ticks_on : (k most : ℕ) (d : Machine) → suc k ≤ horizon most d → ticked d ≡ next d
unfolding ticked one_tick
ticks_on k most d far =
    let no_rule : tick_fired (next_tick d.ticks) d.rules d.state ≡ d.state =
    none_at_tick d.ticks k most d.rules d.state (le_trans far (zeros_few d.state.counts (before_rules d.ticks d.rules most))) in
    let no_end : rung 0 d.state.counts d.rules (next d).state ≡ (next d).state =
    none_rings 0 k (before_rules d.ticks d.rules most) d.state.counts d.rules (next d).state far in
    ap (λ (s : State). record d { ticks = next_tick d.ticks; state = rung 0 s.counts d.rules (record s { counts = lowered 1 s.counts }) }) no_rule
    ∙ ap (λ (s : State). record d { ticks = next_tick d.ticks; state = s }) no_end

nearer : (n t k most more : ℕ) (b : Bool) → nat_lt n t ≡ true → nat_lt (n + 1) t ≡ b → suc k ≤ min most (t - n - 1) → k ≤ more → k ≤ (if b then min more (t - (n + 1) - 1) else more)
nearer n t k most more true before test far enough =
    let l : suc k ≤ min most (t - n - 1) = far in
    let e : k ≤ more = enough in
    omega (arith, l, e)
nearer n t k most more false before test far enough = enough

passed_on : (n t k more : ℕ) (b : Bool) → nat_lt n t ≡ false → nat_lt (n + 1) t ≡ b → k ≤ more → k ≤ (if b then min more (t - (n + 1) - 1) else more)
passed_on n t k more true past test enough =
    let p : t ≤ n = ltb-false n t past in
    let l : n + 1 < t = ltb-true (n + 1) t test in
    absurd (omega (arith, p, l))
passed_on n t k more false past test enough = enough

tick_on : (b : Bool) (n t k most more : ℕ) → nat_lt n t ≡ b → suc k ≤ (if b then min most (t - n - 1) else most) → k ≤ more → k ≤ before_tick (n + 1) t more
tick_on true n t k most more test far enough = nearer n t k most more (nat_lt (n + 1) t) test refl far enough
tick_on false n t k most more test far enough = passed_on n t k more (nat_lt (n + 1) t) test refl enough

event_on_if : (b : Bool) (n k most more : ℕ) (t : Trigger) → suc k ≤ before_event (Some n) t most → k ≤ more → k ≤ before_event (if b then Some (n + 1) else None) t more
event_on_if true n k most more (trigger.Write r) far enough = enough
event_on_if true n k most more (trigger.Read r) far enough = enough
event_on_if true n k most more (trigger.Tick t) far enough = tick_on (nat_lt n t) n t k most more refl far enough
event_on_if true n k most more (trigger.Zero c) far enough = enough
event_on_if false n k most more (trigger.Write r) far enough = enough
event_on_if false n k most more (trigger.Read r) far enough = enough
event_on_if false n k most more (trigger.Tick t) far enough = enough
event_on_if false n k most more (trigger.Zero c) far enough = enough

event_on : (o : Option ℕ) (k most more : ℕ) (t : Trigger) → suc k ≤ before_event o t most → k ≤ more → k ≤ before_event (next_tick o) t more
event_on (Some n) k most more t far enough = event_on_if (nat_lt (n + 1) (2 ^ 64)) n k most more t far enough
event_on None k most more (trigger.Write r) far enough = enough
event_on None k most more (trigger.Read r) far enough = enough
event_on None k most more (trigger.Tick t) far enough = enough
event_on None k most more (trigger.Zero c) far enough = enough

rules_on : (o : Option ℕ) (k most more : ℕ) (rules : List Rule) → suc k ≤ before_rules o rules most → k ≤ more → k ≤ before_rules (next_tick o) rules more
rules_on o k most more [] far enough = enough
rules_on o k most more (rule ∷ rules) far enough =
    rules_on o k (before_event o rule.trigger most) (before_event (next_tick o) rule.trigger more) rules far
    (event_on o k most more rule.trigger (le_trans far (rules_few o rules (before_event o rule.trigger most))) enough)

zero_nearer : (b : Bool) (count k most more : ℕ) → suc k ≤ min most (count - 1) → k ≤ more → k ≤ (if b then more else min more (count - 1 - 1))
zero_nearer true count k most more far enough = enough
zero_nearer false count k most more far enough =
    let l : suc k ≤ min most (count - 1) = far in
    let e : k ≤ more = enough in
    omega (arith, l, e)

zero_on_if : (b : Bool) (count k most more : ℕ) → (count == 0) ≡ b → suc k ≤ (if b then most else min most (count - 1)) → k ≤ more → k ≤ before_zero (count - 1) more
zero_on_if true count k most more test far enough = subst (λ n. k ≤ before_zero (n - 1) more) (sym (eqb-true count 0 test)) enough
zero_on_if false count k most more test far enough = zero_nearer (count - 1 == 0) count k most more far enough

zero_on : (count k most more : ℕ) → suc k ≤ before_zero count most → k ≤ more → k ≤ before_zero (count - 1) more
zero_on count k most more far enough = zero_on_if (count == 0) count k most more refl far enough

zeros_on : (counts : List ℕ) (k most more : ℕ) → suc k ≤ before_zeros counts most → k ≤ more → k ≤ before_zeros (lowered 1 counts) more
zeros_on [] k most more far enough = enough
zeros_on (count ∷ counts) k most more far enough =
    zeros_on counts k (before_zero count most) (before_zero (count - 1) more) far
    (zero_on count k most more (le_trans far (zeros_few counts (before_zero count most))) enough)

one_less : (k most : ℕ) (d : Machine) → suc k ≤ horizon most d → k ≤ horizon k (next d)
one_less k most d far =
    zeros_on d.state.counts k (before_rules d.ticks d.rules most) (before_rules (next_tick d.ticks) d.rules k) far
    (rules_on d.ticks k most k d.rules (le_trans far (zeros_few d.state.counts (before_rules d.ticks d.rules most))) (le_refl k))

-- ---- so many ticks

one_is_next : (o : Option ℕ) → next_tick o ≡ later 1 o
one_is_next (Some t) = refl
one_is_next None = refl

further : (n t : ℕ) → 2 ^ 64 ≤ t + 1 → 2 ^ 64 ≤ t + suc n
further n t most = let m : 2 ^ 64 ≤ t + 1 = most in omega (arith, m)

later_if : (b : Bool) (n t : ℕ) → nat_lt (t + 1) (2 ^ 64) ≡ b → later n (if b then Some (t + 1) else None) ≡ later_number (suc n) t
later_if true n t h = let more : t + 1 + n ≡ t + suc n = omega arith in ap (λ x. if nat_lt x (2 ^ 64) then Some x else None) more
later_if false n t h = sym (ap (λ b. if b then Some (t + suc n) else None) (le-ltb (t + suc n) (2 ^ 64) (further n t (ltb-false (t + 1) (2 ^ 64) h))))

one_more_later : (n : ℕ) (o : Option ℕ) → later n (next_tick o) ≡ later (suc n) o
one_more_later n (Some t) = later_if (nat_lt (t + 1) (2 ^ 64)) n t refl
one_more_later n None = refl

lowered_more : (n : ℕ) (counts : List ℕ) → lowered n (lowered 1 counts) ≡ lowered (suc n) counts
lowered_more n [] = refl
lowered_more n (count ∷ counts) = let e : count - 1 - n ≡ count - suc n = omega arith in λ i. e i ∷ lowered_more n counts i

one_more_skipped : (n : ℕ) (d : Machine) → skipped n (next d) ≡ skipped (suc n) d
one_more_skipped n d = λ i. record d { ticks = one_more_later n d.ticks i; state = record d.state { counts = lowered_more n d.state.counts i } }

-- ticks below the horizon are counted, the count-downs are lower by as many, and nothing else is done
pub advances_at_once : (n most : ℕ) (d : Machine) → suc n ≤ horizon most d → advanced (suc n) d ≡ skipped (suc n) d
advances_at_once zero most d far = ticks_on 0 most d far ∙ ap (λ o. record d { ticks = o; state = record d.state { counts = lowered 1 d.state.counts } }) (one_is_next d.ticks)
advances_at_once (suc n) most d far =
    ap (advanced (suc n)) (ticks_on (suc n) most d far)
    ∙ advances_at_once n (suc n) (next d) (one_less (suc n) most d far)
    ∙ one_more_skipped (suc n) d

-- ---- what the code says

pub at_most : (k ticks : ℕ) (d : Machine) → k ≡ horizon ticks d → k ≤ ticks
at_most k ticks d is = subst (λ n. n ≤ ticks) (sym is) (few ticks d)

advanced_both : (k n : ℕ) (d : Machine) → advanced n (advanced k d) ≡ advanced (k + n) d
advanced_both zero n d = ap (λ m. advanced m d) (let e : n ≡ 0 + n = omega arith in e)
advanced_both (suc k) n d = advanced_both k n (ticked d) ∙ ap (λ m. advanced m d) (let e : suc (k + n) ≡ suc k + n = omega arith in e)

-- the ticks that are left behind those that pass at once
pub skip_goes_on : (k ticks : ℕ) (d : Machine) → k ≡ horizon ticks d → (k ≡ 0 → ⊥) → advanced (ticks - k) (skipped k d) ≡ advanced ticks d
skip_goes_on zero ticks d is some = absurd (some refl)
skip_goes_on (suc n) ticks d is some =
    let far : suc n ≤ horizon ticks d = subst (λ m. suc n ≤ m) is (le_refl (suc n)) in
    let less : suc n ≤ ticks = at_most (suc n) ticks d is in
    let all : suc n + (ticks - suc n) ≡ ticks = omega (arith, less) in
    ap (advanced (ticks - suc n)) (sym (advances_at_once n ticks d far))
    ∙ advanced_both (suc n) (ticks - suc n) d
    ∙ ap (λ m. advanced m d) all

-- behind one tick
pub tick_goes_on : (ticks : ℕ) (d : Machine) → 1 ≤ ticks → advanced (ticks - 1) (ticked d) ≡ advanced ticks d
tick_goes_on zero d some = absurd (let l : 1 ≤ 0 = some in omega (arith, l))
tick_goes_on (suc n) d some = ap (λ m. advanced m (ticked d)) (let e : suc n - 1 ≡ n = omega arith in e)

-- the line is low until the horizon and one tick more
low_so_far : (n most : ℕ) (d : Machine) → d.state.line ≡ false → n ≤ horizon most d → (advanced n d).state.line ≡ false
low_so_far zero most d low far = low
low_so_far (suc n) most d low far = ap (λ (x : Machine). x.state.line) (advances_at_once n most d far) ∙ low

pub line_is_low : (d old : Machine) → d ≡ old → d.state.line ≡ false → (most k : ℕ) → k ≡ horizon most old → (n : ℕ) → n < k + 1 → (advanced n old).state.line ≡ false
line_is_low d old same low most k is n less =
    let far : n ≤ horizon most old = subst (λ m. n ≤ m) is (let l : n < k + 1 = less in let few : n ≤ k = omega (arith, l) in few) in
    low_so_far n most old (sym (ap (λ (x : Machine). x.state.line) same) ∙ low) far
