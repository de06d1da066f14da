-- A script that is read from a text has words of 32 bits for the device.
use Rattle.std.proofs.Common.{◌≡◌, ℕ, zero, suc, ◌+◌, ◌-◌, ◌^◌, ◌≤◌, Bool, true, false, ◌&&◌, ◌||◌, List, [], ◌∷◌, ◌++◌, length, slice_get, Option, Some, None, Result, Ok, Err, refl, ap, subst, arith}
use Rattle.std.specs.Prelude.{codes, if◌then◌else◌, nat_le}
use Rattle.std.specs.Str.{bytes_eq}
use Rattle.std.proofs.lemmas.Bool.{and_parts, leb-true}
use Rattle.mdr_core.specs.declared.program.Program.{Program}
use Rattle.mdr_device.specs.declared.rule.Effect.{Effect}
use Rattle.mdr_device.specs.declared.rule.Rule.{Rule}
use Rattle.mdr_model.specs.declared.command.Command.{Command}
use Rattle.mdr_bound.specs.declared.bound.Bound.{Bound}
use Rattle.mdr_script.specs.declared.line.Line.{Line}
use Rattle.mdr_script.specs.declared.line.Line.TheVariants as line
use Rattle.mdr_script.specs.declared.line.LineWhat.TheVariants as what
use Rattle.mdr_script.specs.declared.script.Script.{Script}
use Rattle.mdr_script.specs.declared.script_error.ScriptKind.{ScriptKind}
use Rattle.mdr_script.specs.declared.script_error.ScriptKind.TheVariants.{Limit, Order}
use Rattle.mdr_script.specs.Binding.{and_then as bind, bound_of, commands_behind}
use Rattle.mdr_script.specs.Gives.{◌>>=◌, when}
use Rattle.mdr_script.specs.Lines.{args_at, call_line, fail_line, idle_line, line_at, line_by, on_line, reg_line, setup_line, show_line}
use Rattle.mdr_script.specs.Numbers.{count_at, fitted, idle_at, number_in, number_of, reg_at, ticks_at, value_at, which_at}
use Rattle.mdr_script.specs.Rules.{behind_effect, clear_at, copy_at, effect_at, effect_by, effects_at, effects_from, guard_at, line_effect, others_by, put_at, reg_value, rule_at, set_at, start_at, trigger_at}
use Rattle.mdr_script.specs.Scripts.{and_then, empty_script, has_commands, is_past, is_setup, judged, judged_by, lines_of, placed, script_from, script_of, with_line}
use Rattle.mdr_script.specs.Words.{begins_hash, ends, is_empty, name_of, piece_at, word_at}
use Rattle.mdr_holds.specs.Holding.{IsWord, PutsWord, PutWords}
use Rattle.mdr_holds.proofs.Accesses.{ok_is}
use Rattle.mdr_holds.proofs.Fitting.{some_is}
use Rattle.mdr_honest.specs.Scripts.{TextScriptsFit}
use Rattle.mdr_honest.proofs.Bindings.{bound_commands_fit}

-- ---- one reading after another

reads_on : {A B : Type 0} (o : Option A) (f : A → Option B) (y : B) → o >>= f ≡ Some y → (x : A) × (o ≡ Some x) × (f x ≡ Some y)
reads_on None f y e = absurd cc
reads_on (Some x) f y e = (x, refl, e)

reads_when : {A : Type 0} (b : Bool) (o : Option A) (y : A) → when b o ≡ Some y → o ≡ Some y
reads_when true o y e = e
reads_when false o y e = absurd cc

-- what holds of both ways
either_way : {A : Type 0} (P : Option A → Type 0) (b : Bool) (x y : Option A) → P x → P y → P (if b then x else y)
either_way P true x y h k = h
either_way P false x y h k = k

-- ---- numbers

fitted_low : (any : Bool) (low high n m : ℕ) → low ≤ high → fitted any low high n ≡ Some m → m ≤ high
unfolding fitted
fitted_low any low high n m order e = of (nat_le low n && nat_le n high) refl e where
  other : (any : Bool) → when any (Some low) ≡ Some m → m ≤ high
  other true q = let is : low ≡ m = some_is q in omega (arith, is, order)
  other false q = absurd cc

  of : (b : Bool) → (nat_le low n && nat_le n high) ≡ b → (if b then Some n else when any (Some low)) ≡ Some m → m ≤ high
  of true q h = let is : n ≡ m = some_is h in let under : n ≤ high = leb-true _ _ (and_parts _ _ q).1 in omega (arith, is, under)
  of false q h = other any h

number_low : (any : Bool) (low high : ℕ) (bytes : List ℕ) (r : ℕ × List ℕ) → low ≤ high → number_in any low high bytes ≡ Some r → r.0 ≤ high
unfolding number_in
number_low any low high bytes r order e =
    let a = reads_on (number_of (piece_at bytes).0) _ r e in
    let b = reads_on (fitted any low high a.0) _ r a.2 in
    let under : b.0 ≤ high = fitted_low any low high a.0 b.0 order b.1 in
    let is : b.0 ≡ r.0 = ap (λ (x : ℕ × List ℕ). x.0) (some_is b.2) in
    omega (arith, under, is)

value_word : (any : Bool) (bytes : List ℕ) (r : ℕ × List ℕ) → value_at any bytes ≡ Some r → IsWord r.0
value_word any bytes r e = let under : r.0 ≤ 2 ^ 32 - 1 = number_low any 0 (2 ^ 32 - 1) bytes r (omega arith) e in omega (arith, under)

pair_word : (any : Bool) (bytes : List ℕ) (p : (ℕ × ℕ) × List ℕ) → reg_value any bytes ≡ Some p → IsWord p.0.1
unfolding reg_value
pair_word any bytes p e =
    let a = reads_on (reg_at any bytes) _ p e in
    let b = reads_on (value_at any a.0.1) _ p a.2 in
    subst IsWord (ap (λ (x : (ℕ × ℕ) × List ℕ). x.0.1) (some_is b.2)) (value_word any a.0.1 b.0 b.1)

-- ---- effects

abbrev PutsRead : Option (Effect × List ℕ) → Type 0
PutsRead o = (x : Effect × List ℕ) → o ≡ Some x → PutsWord x.0

set_puts : (any : Bool) (bytes : List ℕ) → PutsRead (set_at any bytes)
unfolding set_at
set_puts any bytes x e = let p = reads_on (reg_value any bytes) _ x e in subst PutsWord (ap (λ (y : Effect × List ℕ). y.0) (some_is p.2)) (pair_word any bytes p.0 p.1)

clear_puts : (any : Bool) (bytes : List ℕ) → PutsRead (clear_at any bytes)
unfolding clear_at
clear_puts any bytes x e = let p = reads_on (reg_value any bytes) _ x e in subst PutsWord (ap (λ (y : Effect × List ℕ). y.0) (some_is p.2)) tt

put_puts : (any : Bool) (bytes : List ℕ) → PutsRead (put_at any bytes)
unfolding put_at
put_puts any bytes x e = let p = reads_on (reg_value any bytes) _ x e in subst PutsWord (ap (λ (y : Effect × List ℕ). y.0) (some_is p.2)) (pair_word any bytes p.0 p.1)

copy_puts : (any : Bool) (bytes : List ℕ) → PutsRead (copy_at any bytes)
unfolding copy_at
copy_puts any bytes x e = let a = reads_on (reg_at any bytes) _ x e in let b = reads_on (reg_at any a.0.1) _ x a.2 in subst PutsWord (ap (λ (y : Effect × List ℕ). y.0) (some_is b.2)) tt

start_puts : (any : Bool) (bytes : List ℕ) → PutsRead (start_at any bytes)
unfolding start_at
start_puts any bytes x e = let a = reads_on (count_at any bytes) _ x e in let b = reads_on (ticks_at any a.0.1) _ x a.2 in subst PutsWord (ap (λ (y : Effect × List ℕ). y.0) (some_is b.2)) tt

line_puts : (word bytes : List ℕ) → PutsRead (line_effect word bytes)
unfolding line_effect
line_puts word bytes =
    either_way PutsRead (bytes_eq word (codes "raise")) _ _ (λ x e. subst PutsWord (ap (λ (y : Effect × List ℕ). y.0) (some_is e)) tt)
    (either_way PutsRead (bytes_eq word (codes "lower")) _ _ (λ x e. subst PutsWord (ap (λ (y : Effect × List ℕ). y.0) (some_is e)) tt) (λ x e. absurd cc))

effect_puts : (any : Bool) (word bytes : List ℕ) → PutsRead (effect_by any word bytes)
unfolding effect_by
effect_puts any word bytes =
    either_way PutsRead (bytes_eq word (codes "set")) _ _ (set_puts any bytes)
    (either_way PutsRead (bytes_eq word (codes "clear")) _ _ (clear_puts any bytes)
    (either_way PutsRead (bytes_eq word (codes "put")) _ _ (put_puts any bytes)
    (either_way PutsRead (bytes_eq word (codes "copy")) _ _ (copy_puts any bytes)
    (either_way PutsRead (bytes_eq word (codes "start")) _ _ (start_puts any bytes) (line_puts word bytes)))))

abbrev AllPut : List Effect → Type 0
AllPut es = (j : ℕ) (e : Effect) → slice_get es j ≡ Some e → PutsWord e

put_last : (es : List Effect) (e : Effect) → AllPut es → PutsWord e → AllPut (es ++ e ∷ [])
put_last [] e h p zero x q = subst PutsWord (some_is q) p
put_last [] e h p (suc j) x q = absurd cc
put_last (d ∷ es) e h p zero x q = h zero x q
put_last (d ∷ es) e h p (suc j) x q = put_last es e (λ i y r. h (suc i) y r) p j x q

effects_put : (most : ℕ) (any : Bool) (before : List Effect) (bytes : List ℕ) (all : List Effect) → AllPut before → effects_from most any before bytes ≡ Some all → AllPut all
effects_put zero any before bytes all h e = absurd cc
effects_put (suc n) any before bytes all h e =
    let a = reads_on (effect_at any bytes) _ all e in
    let b = reads_on (behind_effect a.0.1) _ all a.2 in
    let more : AllPut (before ++ a.0.0 ∷ []) = put_last before a.0.0 h (effect_puts any (piece_at bytes).0 (piece_at bytes).1 a.0 a.1) in
    of (before ++ a.0.0 ∷ []) b.0 (λ rest q. effects_put n any (before ++ a.0.0 ∷ []) rest all more q) more b.2
  where
    of : (here : List Effect) (o : Option (List ℕ)) → ((rest : List ℕ) → effects_from n any here rest ≡ Some all → AllPut all) → AllPut here → others_by o (effects_from n any here) here ≡ Some all → AllPut all
    of here (Some rest) go more q = go rest q
    of here None go more q = subst AllPut (some_is q) more

rule_puts : (any : Bool) (bytes : List ℕ) (r : Rule) → rule_at any bytes ≡ Some r → AllPut r.effects
unfolding rule_at effects_at
rule_puts any bytes r e =
    let t = reads_on (trigger_at any bytes) _ r e in
    let g = reads_on (guard_at any t.0.1) _ r t.2 in
    let es = reads_on (effects_at any g.0.1) _ r g.2 in
    subst AllPut (ap (λ (x : Rule). x.effects) (some_is es.2)) (effects_put (length g.0.1) any [] g.0.1 es.0 (λ j x q. absurd cc) es.1)

-- ---- lines

-- a line's words and rules are right
abbrev IsRightLine : Line → Type 0
IsRightLine line.Nothing = Unit {0}
IsRightLine (line.Word r v) = IsWord v
IsRightLine (line.Rule rule) = AllPut rule.effects
IsRightLine (line.Fail k) = Unit {0}
IsRightLine (line.Command what) = Unit {0}

abbrev RightRead : Option Line → Type 0
RightRead o = (l : Line) → o ≡ Some l → IsRightLine l

reg_right : (any : Bool) (bytes : List ℕ) → RightRead (reg_line any bytes)
unfolding reg_line
reg_right any bytes l e = let p = reads_on (reg_value any bytes) _ l e in subst IsRightLine (some_is (reads_when (ends p.0.1) (Some (line.Word p.0.0.0 p.0.0.1)) l p.2)) (pair_word any bytes p.0 p.1)

on_right : (any : Bool) (bytes : List ℕ) → RightRead (on_line any bytes)
unfolding on_line
on_right any bytes l e = let r = reads_on (rule_at any bytes) _ l e in subst IsRightLine (some_is r.2) (rule_puts any bytes r.0 r.1)

fail_right : (any : Bool) (bytes : List ℕ) → RightRead (fail_line any bytes)
unfolding fail_line
fail_right any bytes l e = let k = reads_on (which_at any bytes) _ l e in subst IsRightLine (some_is (reads_when (ends k.0.1) (Some (line.Fail k.0.0)) l k.2)) tt

setup_right : (any : Bool) (word bytes : List ℕ) → RightRead (setup_line any word bytes)
unfolding setup_line
setup_right any word bytes =
    either_way RightRead (bytes_eq word (codes "reg")) _ _ (reg_right any bytes)
    (either_way RightRead (bytes_eq word (codes "on")) _ _ (on_right any bytes)
    (either_way RightRead (bytes_eq word (codes "failalloc")) _ _ (fail_right any bytes) (λ l e. absurd cc)))

call_right : (any : Bool) (bytes : List ℕ) → RightRead (call_line any bytes)
unfolding call_line
call_right any bytes l e = let f = reads_on (name_of (word_at bytes).0) _ l e in let args = reads_on (args_at any (word_at bytes).1) _ l f.2 in subst IsRightLine (some_is args.2) tt

idle_right : (any : Bool) (bytes : List ℕ) → RightRead (idle_line any bytes)
unfolding idle_line
idle_right any bytes l e = let n = reads_on (idle_at any bytes) _ l e in subst IsRightLine (some_is (reads_when (ends n.0.1) (Some (line.Command (what.Idle n.0.0))) l n.2)) tt

show_right : (bytes : List ℕ) → RightRead (show_line bytes)
unfolding show_line
show_right bytes l e = let g = reads_on (name_of (word_at bytes).0) _ l e in subst IsRightLine (some_is (reads_when (ends (word_at bytes).1) (Some (line.Command (what.Show g.0))) l g.2)) tt

line_by_right : (any : Bool) (word bytes : List ℕ) → RightRead (line_by any word bytes)
unfolding line_by
line_by_right any word bytes =
    either_way RightRead (bytes_eq word (codes "call")) _ _ (call_right any bytes)
    (either_way RightRead (bytes_eq word (codes "idle")) _ _ (idle_right any bytes)
    (either_way RightRead (bytes_eq word (codes "show")) _ _ (show_right bytes) (setup_right any word bytes)))

line_right : (any : Bool) (bytes : List ℕ) → RightRead (line_at any bytes)
unfolding line_at
line_right any bytes =
    either_way RightRead (begins_hash bytes || is_empty (word_at bytes).0) _ _ (λ l e. subst IsRightLine (some_is e) tt) (line_by_right any (word_at bytes).0 (word_at bytes).1)

-- ---- scripts

-- the numbers for the device have 32 bits
record HasWords (s : Script) : Type 0 where
  words : (i : ℕ) (word : ℕ × ℕ) → slice_get s.words i ≡ Some word → IsWord word.1
  rules : PutWords s.rules

last_of : {A : Type 0} (P : A → Type 0) (xs : List A) (x : A) → ((i : ℕ) (y : A) → slice_get xs i ≡ Some y → P y) → P x → (i : ℕ) (y : A) → slice_get (xs ++ x ∷ []) i ≡ Some y → P y
last_of P [] x h p zero y e = subst P (some_is e) p
last_of P [] x h p (suc i) y e = absurd cc
last_of P (z ∷ xs) x h p zero y e = h zero y e
last_of P (z ∷ xs) x h p (suc i) y e = last_of P xs x (λ j w q. h (suc j) w q) p i y e

with_right : (n : ℕ) (l : Line) (s : Script) → IsRightLine l → HasWords s → HasWords (with_line n l s)
with_right n line.Nothing s r h = h
with_right n (line.Word a v) s r h = record { words = last_of (λ (word : ℕ × ℕ). IsWord word.1) s.words (a, v) h.words r; rules = h.rules }
with_right n (line.Rule rule) s r h = record {
  words = h.words;
  rules = λ i j x e q w. last_of (λ (y : Rule). AllPut y.effects) s.rules rule (λ k y z m d p. h.rules k m y d z p) r i x q j e w;
}
with_right n (line.Fail k) s r h = record { words = h.words; rules = h.rules }
with_right n (line.Command what) s r h = record { words = h.words; rules = h.rules }

placed_right : (n : ℕ) (s : Script) (l : Line) (s' : Script) → IsRightLine l → HasWords s → placed n s l ≡ Ok s' → HasWords s'
unfolding placed
placed_right n s l s' r h e = of (is_setup l && has_commands s) (is_past n l s) e where
  of : (a b : Bool) → (if a then Err Order else (if b then Err Limit else Ok (with_line n l s))) ≡ Ok s' → HasWords s'
  of true b q = absurd cc
  of false true q = absurd cc
  of false false q = subst HasWords (ok_is q) (with_right n l s r h)

judged_right : (n : ℕ) (s : Script) (o shape : Option Line) (s' : Script) → RightRead o → HasWords s → judged_by n s o shape ≡ Ok s' → HasWords s'
judged_right n s (Some l) shape s' r h e = placed_right n s l s' (r l refl) h e
judged_right n s None (Some l) s' r h e = absurd cc
judged_right n s None None s' r h e = absurd cc

from_right : (lines : List (List ℕ)) (n : ℕ) (s s' : Script) → HasWords s → script_from n s lines ≡ Ok s' → HasWords s'
unfolding judged
from_right [] n s s' h e = subst HasWords (ok_is e) h
from_right (l ∷ lines) n s s' h e = of (judged_by n s (line_at false l) (line_at true l)) refl (λ x k q. from_right lines (n + 1) x s' k q) e where
  of : (r : Result Script ScriptKind) → judged_by n s (line_at false l) (line_at true l) ≡ r → ((x : Script) → HasWords x → script_from (n + 1) x lines ≡ Ok s' → HasWords s')
      → and_then n r (λ x. script_from (n + 1) x lines) ≡ Ok s' → HasWords s'
  of (Ok x) q go k = go x (judged_right n s (line_at false l) (line_at true l) x (line_right false l) h q) k
  of (Err kind) q go k = absurd cc

script_words : (text : List ℕ) (s : Script) → script_of text ≡ Ok s → HasWords s
unfolding script_of
script_words text s e = from_right (lines_of text) 1 empty_script s (record { words = λ i word q. absurd cc; rules = λ i j rule x q p. absurd cc }) e

-- binding keeps them
bound_words : (program : Program) (script : Script) (bound : Bound) → bound_of script program ≡ Ok bound → (script.words ≡ bound.words) × (script.rules ≡ bound.rules)
unfolding bound_of
bound_words program script bound e = of (commands_behind program [] script.lines) e where
  of : (r : Result (List Command) (ℕ × ScriptKind)) → bind r (λ cs. Ok (record { words = script.words; rules = script.rules; fails = script.fails; commands = cs })) ≡ Ok bound → (script.words ≡ bound.words) × (script.rules ≡ bound.rules)
  of (Ok cs) q = (ap (λ (b : Bound). b.words) (ok_is q), ap (λ (b : Bound). b.rules) (ok_is q))
  of (Err x) q = absurd cc

pub text_scripts_fit : TextScriptsFit
text_scripts_fit program sound text script bound e q =
    let h : HasWords script = script_words text script e in
    let same = bound_words program script bound q in
    record {
      commands = bound_commands_fit program sound script bound q;
      words = subst (λ (ws : List (ℕ × ℕ)). (i : ℕ) (word : ℕ × ℕ) → slice_get ws i ≡ Some word → IsWord word.1) same.0 h.words;
      rules = subst PutWords same.1 h.rules;
    }
