-- A device's registers hold words, whatever its rules do.
use Rattle.std.proofs.Common.{◌≡◌, ℕ, zero, suc, ◌+◌, ◌≤◌, Bool, true, false, ◌&&◌, ◌==◌, List, [], ◌∷◌, slice_get, slice_set, Option, Some, None, refl, subst, arith}
use Rattle.std.specs.Prelude.{bit_and, bit_or, if◌then◌else◌}
use Rattle.std.proofs.lemmas.Nat.{and_le_l, or_of_32}
use Rattle.mdr_device.specs.declared.rule.Effect.{Effect}
use Rattle.mdr_device.specs.declared.rule.Effect.TheVariants as effect
use Rattle.mdr_device.specs.declared.rule.Rule.{Rule}
use Rattle.mdr_device.specs.declared.rule.Trigger.{Trigger}
use Rattle.mdr_device.specs.declared.rule.Trigger.TheVariants as trigger
use Rattle.mdr_device.specs.declared.state.State.{State}
use Rattle.mdr_device.specs.Machines.{Machine, advanced, first_words, made, read, ticked, with_words, written, zeros}
use Rattle.mdr_device.specs.Rules.{all_effected, effected, fired, holds, is_for, next_tick, one_tick, or_zero, others, register, ruled, rung, rung_once, tick_fired, with_word}
use Rattle.mdr_holds.specs.Holding.{AreWords, IsDevice, IsWord, PutWords, PutsWord}
use Rattle.mdr_holds.proofs.Fitting.{some_is}

-- ---- registers

behind_words : (x : ℕ) (xs : List ℕ) → IsWord x → AreWords xs → AreWords (x ∷ xs)
behind_words x xs w h zero n e = subst IsWord (some_is e) w
behind_words x xs w h (suc i) n e = h i n e

words_set : (xs : List ℕ) (r word : ℕ) → AreWords xs → IsWord word → AreWords (slice_set xs r word)
words_set [] r word h w = h
words_set (x ∷ xs) zero word h w = behind_words word xs w (λ i n e. h (suc i) n e)
words_set (x ∷ xs) (suc r) word h w = behind_words x (slice_set xs r word) (h zero x refl) (words_set xs r word (λ i n e. h (suc i) n e) w)

word_of : (o : Option ℕ) → ((n : ℕ) → o ≡ Some n → IsWord n) → IsWord (or_zero o)
word_of None h = omega arith
word_of (Some n) h = h n refl

pub register_word : (xs : List ℕ) (r : ℕ) → AreWords xs → IsWord (register xs r)
register_word xs r h = word_of (slice_get xs r) (λ n e. h r n e)

-- ---- effects

or_word : (a b : ℕ) → IsWord a → IsWord b → IsWord (bit_or a b)
or_word a b h k = or_of_32 a b h k

and_word : (a b : ℕ) → IsWord a → IsWord (bit_and a b)
and_word a b h = let less : bit_and a b ≤ a = and_le_l a b in omega (arith, less, h)

effect_words : (e : Effect) (s : State) → PutsWord e → AreWords s.registers → AreWords (effected e s).registers
unfolding effected
effect_words (effect.Set r mask) s w h = words_set s.registers r _ h (or_word (register s.registers r) mask (register_word s.registers r h) w)
effect_words (effect.Clear r mask) s w h = words_set s.registers r _ h (and_word (register s.registers r) (others mask) (register_word s.registers r h))
effect_words (effect.Put r word) s w h = words_set s.registers r word h w
effect_words (effect.CopyTo a b) s w h = words_set s.registers b _ h (register_word s.registers a h)
effect_words (effect.Start c n) s w h = h
effect_words effect.Raise s w h = h
effect_words effect.Lower s w h = h

effects_words : (es : List Effect) (s : State) → ((j : ℕ) (e : Effect) → slice_get es j ≡ Some e → PutsWord e) → AreWords s.registers → AreWords (all_effected es s).registers
effects_words [] s w h = h
effects_words (e ∷ es) s w h = effects_words es (effected e s) (λ j x q. w (suc j) x q) (effect_words e s (w zero e refl) h)

-- ---- rules

ruled_words : (event : Trigger) (rule : Rule) (s : State) → ((j : ℕ) (e : Effect) → slice_get rule.effects j ≡ Some e → PutsWord e) → AreWords s.registers → AreWords (ruled event rule s).registers
unfolding ruled
ruled_words event rule s w h = of (is_for rule.trigger event && holds rule.guard s.registers) where
  of : (b : Bool) → AreWords (if b then all_effected rule.effects s else s).registers
  of true = effects_words rule.effects s w h
  of false = h

fired_words : (event : Trigger) (rules : List Rule) (s : State) → PutWords rules → AreWords s.registers → AreWords (fired event rules s).registers
fired_words event [] s w h = h
fired_words event (rule ∷ rules) s w h = fired_words event rules (ruled event rule s) (λ i j r e q x. w (suc i) j r e q x) (ruled_words event rule s (λ j e q. w zero j rule e refl q) h)

-- ---- ticks

tick_words : (o : Option ℕ) (rules : List Rule) (s : State) → PutWords rules → AreWords s.registers → AreWords (tick_fired o rules s).registers
tick_words (Some t) rules s w h = fired_words (trigger.Tick t) rules s w h
tick_words None rules s w h = h

rung_once_words : (c n : ℕ) (rules : List Rule) (s : State) → PutWords rules → AreWords s.registers → AreWords (rung_once c n rules s).registers
rung_once_words c n rules s w h = of (n == 1) where
  of : (b : Bool) → AreWords (if b then fired (trigger.Zero c) rules s else s).registers
  of true = fired_words (trigger.Zero c) rules s w h
  of false = h

rung_words : (c : ℕ) (left : List ℕ) (rules : List Rule) (s : State) → PutWords rules → AreWords s.registers → AreWords (rung c left rules s).registers
rung_words c [] rules s w h = h
rung_words c (n ∷ left) rules s w h = rung_words (c + 1) left rules (rung_once c n rules s) w (rung_once_words c n rules s w h)

pub device_ticked : (d : Machine) → IsDevice d → IsDevice (advanced 1 d)
unfolding ticked one_tick
device_ticked d h = record {
  registers = rung_words 0 (tick_fired (next_tick d.ticks) d.rules d.state).counts d.rules _ h.rules (tick_words (next_tick d.ticks) d.rules d.state h.rules h.registers);
  rules = h.rules;
}

-- ---- reads and writes

pub device_read : (r : ℕ) (d : Machine) → IsDevice d → IsWord (read r d).0 × IsDevice (read r d).1
unfolding read
device_read r d h = (register_word d.state.registers r h.registers, record { registers = fired_words (trigger.Read r) d.rules d.state h.rules h.registers; rules = h.rules })

pub device_written : (r word : ℕ) (d : Machine) → IsWord word → IsDevice d → IsDevice (written r word d)
unfolding written
device_written r word d w h = record { registers = fired_words (trigger.Write r) d.rules (with_word r word d.state) h.rules (words_set d.state.registers r word h.registers w); rules = h.rules }

-- ---- the first device

zeros_words : (n : ℕ) → AreWords (zeros n)
zeros_words zero r word e = absurd cc
zeros_words (suc n) zero word e = let is : 0 ≡ word = some_is e in omega (arith, is)
zeros_words (suc n) (suc r) word e = zeros_words n r word e

words_words : (words : List (ℕ × ℕ)) (xs : List ℕ) → ((i : ℕ) (word : ℕ × ℕ) → slice_get words i ≡ Some word → IsWord word.1) → AreWords xs → AreWords (with_words words xs)
words_words [] xs w h = h
words_words (x ∷ words) xs w h = words_words words (slice_set xs x.0 x.1) (λ i word e. w (suc i) word e) (words_set xs x.0 x.1 h (w zero x refl))

pub device_made : (words : List (ℕ × ℕ)) (rules : List Rule) → ((i : ℕ) (word : ℕ × ℕ) → slice_get words i ≡ Some word → IsWord word.1) → PutWords rules → IsDevice (made words rules)
unfolding made first_words
device_made words rules w h = record { registers = words_words words (zeros 4096) w (zeros_words 4096); rules = h }
