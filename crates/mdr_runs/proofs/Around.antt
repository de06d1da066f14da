-- Where nothing around code gives a tick back: of a tree no more counts than the ticks that are left.
use Rattle.std.proofs.Common.{◌≡◌, ℕ, zero, suc, ◌-◌, ◌≤◌, Bool, true, false, List, Option, Some, Result, Ok, Err, refl, sym, ◌∙◌, ap, arith, le_refl}
use Rattle.mdr_core.specs.declared.place.At.{At}
use Rattle.mdr_core.specs.declared.program.Program.{Program}
use Rattle.mdr_core.specs.declared.stop.StopKind.{StopKind}
use Rattle.mdr_events.specs.Held.{Held, bare, tree}
use Rattle.mdr_events.specs.Steps.{child}
use Rattle.mdr_meaning.specs.declared.shape.Shape64.{Shape64}
use Rattle.mdr_meaning.specs.declared.wire.Wire.{Wire}
use Rattle.mdr_meaning.specs.Cut.{cut}
use Rattle.mdr_meaning.specs.Sides.{Side}
use Rattle.mdr_meaning.specs.Tree.{Asked, Tree}
use Rattle.mdr_model.specs.declared.message.BirthKind.TheVariants.{Auto}
use Rattle.mdr_model.specs.Memory.{Memory}
use Rattle.mdr_plain.specs.Laws.{GivesNoTicks}
use Rattle.mdr_plain.specs.Running.{Before, Setting, run}
use Rattle.mdr_plain.specs.Services.{served}
use Rattle.mdr_plain.specs.Storage.{births, deaths, died, remembers, with_memory}
use Rattle.mdr_plain.specs.World.{World, Ran, Ended, Stopped, Work, advanced, after, left, then, given, counted}
use Rattle.mdr_plain.proofs.KeepLaws.{IsKept, births_keep, deaths_keep, served_keeps}
use Rattle.mdr_runs.specs.Anywhere.{AccessesKeepTicks}
use Rattle.mdr_runs.specs.Around.{KeepsTicks, answered_in, goes_on_in}
use Rattle.mdr_runs.specs.Following.{crossing_by, setting_by}

-- ---- no more ticks than so many are left

pub AtMost : ℕ → World → Type 0
AtMost r w = w.clock.rest ≤ r

at_most_kept : (r : ℕ) → IsKept (AtMost r)
unfolding AtMost died
at_most_kept r = record {
  memory = λ w m e. e;
  keeping = λ w k e. e;
  device = λ w d e. e;
  tick = λ w e. omega (arith, e);
  birth = λ w b e. e;
  death = λ w serial e. e;
}

births_at_most : (program : Program) (r : ℕ) (shapes : List Shape64) (w : World) → w.clock.rest ≤ r → (births program Auto shapes w).memory.clock.rest ≤ r
unfolding AtMost
births_at_most program r shapes w h = births_keep (AtMost r) (at_most_kept r) program Auto shapes w h

deaths_at_most : (r : ℕ) (ps : List Wire) (w : World) → w.clock.rest ≤ r → (deaths ps w).clock.rest ≤ r
unfolding AtMost
deaths_at_most r ps w h = deaths_keep (AtMost r) (at_most_kept r) ps w h

pub served_at_most : (program : Program) (r : ℕ) (a : Asked) (w : World) → w.clock.rest ≤ r → (left (served program a w)).clock.rest ≤ r
unfolding AtMost
served_at_most program r a w h = (served_keeps (AtMost r) (at_most_kept r) program a w h).at_end

remembered : (w : World) (x : Result Memory StopKind) (w' : World) → remembers w x ≡ Ok w' → w'.clock.rest ≤ w.clock.rest
remembered w (Ok m) w' e = let same : w.clock.rest ≡ w'.clock.rest = (let is : with_memory w m ≡ w' = cc in ap (λ (x : World). x.clock.rest) is) in omega (arith, same)
remembered w (Err kind) w' e = absurd cc

pub accesses_keep_ticks : AccessesKeepTicks
accesses_keep_ticks program allowed serves crosses served crossed = record {
  store = λ p v w w' e. remembered w _ w' e;
  birth = λ shapes w. births_at_most program w.clock.rest shapes w (le_refl w.clock.rest);
  death = λ ps w. deaths_at_most w.clock.rest ps w (le_refl w.clock.rest);
  serves = served;
  crosses = crossed;
}

-- calls of what isn't among the code that runs give none back
crossings_keep_ticks : (half : Bool) (at : At) (f : ℕ) (args : List Wire) (depth : ℕ) (w : World) → (left (crossing_by half at f args depth w)).clock.rest ≤ w.clock.rest
crossings_keep_ticks true at f args depth w = le_refl w.clock.rest
crossings_keep_ticks false at f args depth w = le_refl w.clock.rest

-- code of a driver
pub kernel_keeps_ticks : (program : Program) (half : Bool) → KeepsTicks (setting_by program half)
kernel_keeps_ticks program half =
    accesses_keep_ticks program _ (served program) (crossing_by half) (λ a w. served_at_most program w.clock.rest a w (le_refl w.clock.rest)) (crossings_keep_ticks half)

-- ---- equal work

pub at_most : (a b c : ℕ) → a ≤ b → b ≤ c → a ≤ c
at_most a b c h g = omega (arith, h, g)

same_then : {B : Type 0} (r : ℕ) (x : Work) (go go' : World → Ran B) → (left x).clock.rest ≤ r → ((w : World) → w.clock.rest ≤ r → go w ≡ go' w) → then x go ≡ then x go'
same_then r (Ended x w) go go' h each = each w h
same_then r (Stopped kind at w) go go' h each = refl

pub same_after : {A B : Type 0} (r : ℕ) (x : Ran A) (go go' : A → World → Ran B) → (left x).clock.rest ≤ r → ((a : A) (w : World) → w.clock.rest ≤ r → go a w ≡ go' a w) → after x go ≡ after x go'
same_after r (Ended x w) go go' h each = each x w h
same_after r (Stopped kind at w) go go' h each = refl

same_given : {A B : Type 0} (x : Result A StopKind) (at : At) (w : World) (go go' : A → Ran B) → ((a : A) → x ≡ Ok a → go a ≡ go' a) → given x at w go ≡ given x at w go'
same_given (Ok x) at w go go' each = each x refl
same_given (Err kind) at w go go' each = refl

same_counted : {A : Type 0} (n : ℕ) (at : Option At) (w : World) (go go' : World → Ran A) → w.clock.rest ≡ n → ((q : ℕ) (w' : World) → suc q ≡ n → w'.clock.rest ≤ q → go w' ≡ go' w') → counted n at w go ≡ counted n at w go'
same_counted zero at w go go' e each = refl
same_counted (suc n) at w go go' e each = each n (record w { clock = advanced 1 w.clock }) refl (let h : w.clock.rest - 1 ≤ n = omega (arith, e) in h)

-- ---- work that leaves no more ticks

few_then : {B : Type 0} (r : ℕ) (x : Work) (go : World → Ran B) → (left x).clock.rest ≤ r → ((w : World) → w.clock.rest ≤ r → (left (go w)).clock.rest ≤ r) → (left (then x go)).clock.rest ≤ r
few_then r (Ended x w) go h each = each w h
few_then r (Stopped kind at w) go h each = h

few_after : {A B : Type 0} (r : ℕ) (x : Ran A) (go : A → World → Ran B) → (left x).clock.rest ≤ r → ((a : A) (w : World) → w.clock.rest ≤ r → (left (go a w)).clock.rest ≤ r) → (left (after x go)).clock.rest ≤ r
few_after r (Ended x w) go h each = each x w h
few_after r (Stopped kind at w) go h each = h

few_given : {A B : Type 0} (r : ℕ) (x : Result A StopKind) (at : At) (w : World) (go : A → Ran B) → w.clock.rest ≤ r → ((a : A) → x ≡ Ok a → (left (go a)).clock.rest ≤ r) → (left (given x at w go)).clock.rest ≤ r
few_given r (Ok x) at w go h each = each x refl
few_given r (Err kind) at w go h each = h

few_counted : {A : Type 0} (r n : ℕ) (at : Option At) (w : World) (go : World → Ran A) → w.clock.rest ≤ r → ((w' : World) → w'.clock.rest ≤ r → (left (go w')).clock.rest ≤ r) → (left (counted n at w go)).clock.rest ≤ r
few_counted r zero at w go h each = h
few_counted r (suc n) at w go h each = each (record w { clock = advanced 1 w.clock }) (let e : w.clock.rest - 1 ≤ r = omega (arith, h) in e)

-- ---- cut trees

pub child_cut : (r : ℕ) (t : Tree) (vs : List Wire) → child (cut r t) vs ≡ cut r (child t vs)
unfolding cut
child_cut r Tree.Idle vs = refl
child_cut r (Tree.Waits k) vs = refl
child_cut r (Tree.Done v t) vs = refl
child_cut r (Tree.Stop kind at) vs = refl
child_cut zero (Tree.Tick at d t) vs = refl
child_cut (suc r) (Tree.Tick at d t) vs = refl
child_cut r (Tree.Load at p k) vs = refl
child_cut r (Tree.Store at p v t) vs = refl
child_cut r (Tree.Read at p n k) vs = refl
child_cut r (Tree.Fresh at v k) vs = refl
child_cut r (Tree.Birth at shapes k) vs = refl
child_cut r (Tree.Death at ps t) vs = refl
child_cut r (Tree.Ask a k) vs = refl
child_cut r (Tree.Cross at f args d k) vs = refl

module _ (s : Setting) (before : Before) (keeps : KeepsTicks s) (gives : GivesNoTicks before) where
  tried_at_most : (r d : ℕ) (w : World) → w.clock.rest ≤ r → (left (before d w)).clock.rest ≤ r
  tried_at_most r d w h = at_most (left (before d w)).clock.rest w.clock.rest r (gives d w) h

  store_at_most : (r : ℕ) (p v : Wire) (w w' : World) → s.accesses.store w p v ≡ Ok w' → w.clock.rest ≤ r → w'.clock.rest ≤ r
  store_at_most r p v w w' e h = at_most w'.clock.rest w.clock.rest r (keeps.store p v w w' e) h

  birth_at_most : (r : ℕ) (shapes : List Shape64) (w : World) → w.clock.rest ≤ r → (s.accesses.birth w shapes).memory.clock.rest ≤ r
  birth_at_most r shapes w h = at_most (s.accesses.birth w shapes).memory.clock.rest w.clock.rest r (keeps.birth shapes w) h

  death_at_most : (r : ℕ) (ps : List Wire) (w : World) → w.clock.rest ≤ r → (s.accesses.death w ps).clock.rest ≤ r
  death_at_most r ps w h = at_most (s.accesses.death w ps).clock.rest w.clock.rest r (keeps.death ps w) h

  serves_at_most : (r : ℕ) (a : Asked) (w : World) → w.clock.rest ≤ r → (left (s.serves a w)).clock.rest ≤ r
  serves_at_most r a w h = at_most (left (s.serves a w)).clock.rest w.clock.rest r (keeps.serves a w) h

  crosses_at_most : (r : ℕ) (at : At) (f : ℕ) (args : List Wire) (d : ℕ) (w : World) → w.clock.rest ≤ r → (left (s.crosses at f args d w)).clock.rest ≤ r
  crosses_at_most r at f args d w h = at_most (left (s.crosses at f args d w)).clock.rest w.clock.rest r (keeps.crosses at f args d w) h

  runs_at_most : (r : ℕ) (t : Tree) (w : World) → w.clock.rest ≤ r → (left (run s before t w)).clock.rest ≤ r
  unfolding run
  runs_at_most r Tree.Idle w h = h
  runs_at_most r (Tree.Waits k) w h = h
  runs_at_most r (Tree.Done v t) w h = h
  runs_at_most r (Tree.Stop kind at) w h = h
  runs_at_most r (Tree.Tick at d t) w h = few_then r (before d w) _ (tried_at_most r d w h) (λ w' h'. few_counted r w'.clock.rest (Some at) w' _ h' (λ w'' h''. runs_at_most r t w'' h''))
  runs_at_most r (Tree.Load at p k) w h = few_given r (s.accesses.load w p) at w _ h (λ v e. runs_at_most r (k v) w h)
  runs_at_most r (Tree.Store at p v t) w h = few_given r (s.accesses.store w p v) at w _ h (λ w' e. runs_at_most r t w' (store_at_most r p v w w' e h))
  runs_at_most r (Tree.Read at p n k) w h = few_given r (s.accesses.read w p n) at w _ h (λ bytes e. runs_at_most r (k bytes) w h)
  runs_at_most r (Tree.Fresh at v k) w h = few_given r (s.accesses.fresh w v) at w _ h (λ x e. runs_at_most r (k x) w h)
  runs_at_most r (Tree.Birth at shapes k) w h = runs_at_most r (k (s.accesses.birth w shapes).pointers) (s.accesses.birth w shapes).memory (birth_at_most r shapes w h)
  runs_at_most r (Tree.Death at ps t) w h = runs_at_most r t (s.accesses.death w ps) (death_at_most r ps w h)
  runs_at_most r (Tree.Ask a k) w h = few_after r (s.serves a w) _ (serves_at_most r a w h) (λ results w' h'. runs_at_most r (k results) w' h')
  runs_at_most r (Tree.Cross at f args d k) w h = few_after r (s.crosses at f args d w) _ (crosses_at_most r at f args d w h) (λ v w' h'. runs_at_most r (k v) w' h')

  pub runs_keep_ticks : (t : Tree) (w : World) → (left (run s before t w)).clock.rest ≤ w.clock.rest
  runs_keep_ticks t w = runs_at_most w.clock.rest t w (le_refl w.clock.rest)

  pub no_tick : {A : Type 0} (q : ℕ) (w' : World) → suc q ≡ w'.clock.rest → w'.clock.rest ≤ 0 → A
  no_tick q w' is none = absurd (let e : suc q ≡ w'.clock.rest = is in let f : w'.clock.rest ≤ 0 = none in omega (arith, e, f))

  pub fewer : (q r : ℕ) (w' w'' : World) → suc q ≡ w'.clock.rest → w'.clock.rest ≤ suc r → w''.clock.rest ≤ q → w''.clock.rest ≤ r
  fewer q r w' w'' is less least =
      let e : suc q ≡ w'.clock.rest = is in let f : w'.clock.rest ≤ suc r = less in let g : w''.clock.rest ≤ q = least in omega (arith, e, f, g)

  pub cut_runs : (r : ℕ) (t : Tree) (w : World) → w.clock.rest ≤ r → run s before (cut r t) w ≡ run s before t w
  unfolding run cut
  cut_runs r Tree.Idle w h = refl
  cut_runs r (Tree.Waits k) w h = refl
  cut_runs r (Tree.Done v t) w h = refl
  cut_runs r (Tree.Stop kind at) w h = refl
  cut_runs zero (Tree.Tick at d t) w h =
      same_then 0 (before d w) _ _ (tried_at_most 0 d w h) (λ w' h'. same_counted w'.clock.rest (Some at) w' _ _ refl (λ q w'' is least. no_tick q w' is h'))
  cut_runs (suc r) (Tree.Tick at d t) w h =
      same_then (suc r) (before d w) _ _ (tried_at_most (suc r) d w h) (λ w' h'. same_counted w'.clock.rest (Some at) w' _ _ refl (λ q w'' is least. cut_runs r t w'' (fewer q r w' w'' is h' least)))
  cut_runs r (Tree.Load at p k) w h = same_given (s.accesses.load w p) at w _ _ (λ v e. cut_runs r (k v) w h)
  cut_runs r (Tree.Store at p v t) w h = same_given (s.accesses.store w p v) at w _ _ (λ w' e. cut_runs r t w' (store_at_most r p v w w' e h))
  cut_runs r (Tree.Read at p n k) w h = same_given (s.accesses.read w p n) at w _ _ (λ bytes e. cut_runs r (k bytes) w h)
  cut_runs r (Tree.Fresh at v k) w h = same_given (s.accesses.fresh w v) at w _ _ (λ x e. cut_runs r (k x) w h)
  cut_runs r (Tree.Birth at shapes k) w h = cut_runs r (k (s.accesses.birth w shapes).pointers) (s.accesses.birth w shapes).memory (birth_at_most r shapes w h)
  cut_runs r (Tree.Death at ps t) w h = cut_runs r t (s.accesses.death w ps) (death_at_most r ps w h)
  cut_runs r (Tree.Ask a k) w h = same_after r (s.serves a w) _ _ (serves_at_most r a w h) (λ results w' h'. cut_runs r (k results) w' h')
  cut_runs r (Tree.Cross at f args d k) w h = same_after r (s.crosses at f args d w) _ _ (crosses_at_most r at f args d w h) (λ v w' h'. cut_runs r (k v) w' h')

  -- held work does the same with any number of ticks in its tree that is no less than those that are left
  pub tree_runs : (side : Side) (f r : ℕ) (h : Held) (w : World) → r ≤ f → w.clock.rest ≤ r → run s before (tree side f h r) w ≡ goes_on_in s side before f h w
  unfolding tree
  tree_runs side f r h w less enough =
      let more : w.clock.rest ≤ f = (let x : w.clock.rest ≤ r = enough in omega (arith, x, less)) in
      cut_runs r (bare side f h) w enough ∙ sym (cut_runs f (bare side f h) w more)

  pub child_runs : (side : Side) (f r : ℕ) (h : Held) (results : List Wire) (w : World) → r ≤ f → w.clock.rest ≤ r
      → run s before (child (tree side f h r) results) w ≡ answered_in s side before f h results w
  unfolding tree
  child_runs side f r h results w less enough =
      let more : w.clock.rest ≤ f = (let x : w.clock.rest ≤ r = enough in omega (arith, x, less)) in
      ap (λ t. run s before t w) (child_cut r (bare side f h) results)
      ∙ cut_runs r (child (bare side f h) results) w enough
      ∙ sym (cut_runs f (child (bare side f h) results) w more)
      ∙ sym (ap (λ t. run s before t w) (child_cut f (bare side f h) results))
