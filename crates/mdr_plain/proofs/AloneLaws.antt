-- In a plain run there is no visible set at any time; and it needs no more fuel than ticks are left.
use Rattle.std.proofs.Common.{◌≡◌, ℕ, zero, suc, ◌-◌, ◌<◌, ◌≤◌, List, [], Option, Some, Result, Ok, Err, refl, ap, arith, le_refl}
use Rattle.std.specs.Prelude.{map}
use Rattle.mdr_core.specs.declared.place.At.{At}
use Rattle.mdr_core.specs.declared.program.Program.{Program}
use Rattle.mdr_core.specs.declared.stop.StopKind.{StopKind}
use Rattle.mdr_meaning.specs.declared.shape.Shape64.{Shape64}
use Rattle.mdr_meaning.specs.declared.wire.Wire.{Wire}
use Rattle.mdr_meaning.specs.declared.wire.Wire.TheVariants as wire
use Rattle.mdr_meaning.specs.Alike.{IsCongruence}
use Rattle.mdr_meaning.specs.Bodies.{started}
use Rattle.mdr_meaning.specs.Sides.{Side}
use Rattle.mdr_meaning.specs.Tree.{Asked, Tree}
use Rattle.mdr_meaning.proofs.AlikeLaws.{started_alike}
use Rattle.mdr_model.specs.declared.message.BirthKind.TheVariants.{Auto}
use Rattle.mdr_model.specs.Memory.{Memory}
use Rattle.mdr_plain.specs.Laws.{PlainRunsAreAlone, RunsNeedTicksAlone}
use Rattle.mdr_plain.specs.Plain.{never, plain_of, whole}
use Rattle.mdr_plain.specs.Running.{Before, in_kernel, interrupts, run}
use Rattle.mdr_plain.specs.Scripts.{first_world}
use Rattle.mdr_plain.specs.Services.{served}
use Rattle.mdr_plain.specs.Storage.{births, deaths, died, remembers, with_memory, without}
use Rattle.mdr_plain.specs.World.{World, Ran, Ended, Stopped, Work, advanced, after, left, then, given, counted}
use Rattle.mdr_plain.proofs.KeepLaws.{IsKept, births_keep, commands_keep, deaths_keep, interrupts_keep, served_keeps}

-- ---- no visible sets

NoViews : World → Type 0
NoViews w = w.views ≡ []

none_kept : IsKept NoViews
unfolding NoViews died
none_kept = record {
  memory = λ w m e. e;
  keeping = λ w k e. e;
  device = λ w d e. e;
  tick = λ w e. e;
  birth = λ w b e. e;
  death = λ w serial e. ap (map (without serial)) e;
}

pub plain_runs_are_alone : PlainRunsAreAlone
unfolding NoViews plain_of first_world
plain_runs_are_alone program side script budget = commands_keep NoViews none_kept program side script.commands _ refl

-- ---- no more ticks

AtMost : ℕ → World → Type 0
AtMost r w = w.clock.rest ≤ r

at_most_kept : (r : ℕ) → IsKept (AtMost r)
unfolding AtMost died
at_most_kept r = record {
  memory = λ w m e. e;
  keeping = λ w k e. e;
  device = λ w d e. e;
  tick = λ w e. omega (arith, e);
  birth = λ w b e. e;
  death = λ w serial e. e;
}

interrupts_give_none : (program : Program) (side : Side) (d : ℕ) (w : World) → (left (interrupts (whole program side) d w)).clock.rest ≤ w.clock.rest
unfolding AtMost
interrupts_give_none program side d w = (interrupts_keep (AtMost w.clock.rest) (at_most_kept w.clock.rest) program side d w (le_refl w.clock.rest)).at_end

-- ---- equal work

same_then : {B : Type 0} (r : ℕ) (x : Work) (go go' : World → Ran B) → (left x).clock.rest ≤ r → ((w : World) → w.clock.rest ≤ r → go w ≡ go' w) → then x go ≡ then x go'
same_then r (Ended x w) go go' h each = each w h
same_then r (Stopped kind at w) go go' h each = refl

same_after : {A B : Type 0} (r : ℕ) (x : Ran A) (go go' : A → World → Ran B) → (left x).clock.rest ≤ r → ((a : A) (w : World) → w.clock.rest ≤ r → go a w ≡ go' a w) → after x go ≡ after x go'
same_after r (Ended x w) go go' h each = each x w h
same_after r (Stopped kind at w) go go' h each = refl

same_given : {A B : Type 0} (x : Result A StopKind) (at : At) (w : World) (go go' : A → Ran B) → ((a : A) → go a ≡ go' a) → given x at w go ≡ given x at w go'
same_given (Ok x) at w go go' each = each x
same_given (Err kind) at w go go' each = refl

same_stored : {A : Type 0} (r : ℕ) (w : World) (m : Result Memory StopKind) (at : At) (go go' : World → Ran A) → w.clock.rest ≤ r → ((w' : World) → w'.clock.rest ≤ r → go w' ≡ go' w') → given (remembers w m) at w go ≡ given (remembers w m) at w go'
same_stored r w (Ok m) at go go' h each = each (with_memory w m) h
same_stored r w (Err kind) at go go' h each = refl

same_counted : {A : Type 0} (n : ℕ) (at : Option At) (w : World) (go go' : World → Ran A) → w.clock.rest ≡ n → ((q : ℕ) (w' : World) → suc q ≡ n → w'.clock.rest ≤ q → go w' ≡ go' w') → counted n at w go ≡ counted n at w go'
same_counted zero at w go go' e each = refl
same_counted (suc n) at w go go' e each = each n (record w { clock = advanced 1 w.clock }) refl (let h : w.clock.rest - 1 ≤ n = omega (arith, e) in h)

module _ (program : Program) (before : Before) (gives : (d : ℕ) (w : World) → (left (before d w)).clock.rest ≤ w.clock.rest) where
  record Alike (r : ℕ) (t u : Tree) : Type 0 where
    by : (w : World) → w.clock.rest ≤ r → run (in_kernel program never) before t w ≡ run (in_kernel program never) before u w

  at_most_births : (r : ℕ) (shapes : List Shape64) (w : World) → w.clock.rest ≤ r → (births program Auto shapes w).memory.clock.rest ≤ r
  unfolding AtMost
  at_most_births r shapes w h = births_keep (AtMost r) (at_most_kept r) program Auto shapes w h

  at_most_deaths : (r : ℕ) (ps : List Wire) (w : World) → w.clock.rest ≤ r → (deaths ps w).clock.rest ≤ r
  unfolding AtMost
  at_most_deaths r ps w h = deaths_keep (AtMost r) (at_most_kept r) ps w h

  at_most_served : (r : ℕ) (a : Asked) (w : World) → w.clock.rest ≤ r → (left (served program a w)).clock.rest ≤ r
  unfolding AtMost
  at_most_served r a w h = (served_keeps (AtMost r) (at_most_kept r) program a w h).at_end

  at_most_before : (r d : ℕ) (w : World) → w.clock.rest ≤ r → (left (before d w)).clock.rest ≤ r
  at_most_before r d w h = let g : (left (before d w)).clock.rest ≤ w.clock.rest = gives d w in omega (arith, g, h)

  alike : IsCongruence Alike
  unfolding run
  alike = record {
    idle = λ r. record { by = λ w h. refl };
    waits = λ r k l e. record { by = λ w h. refl };
    done = λ r v t u e. record { by = λ w h. refl };
    stop = λ r kind at. record { by = λ w h. refl };
    tick = λ r at d t u e. record {
      by = λ w h. same_then r (before d w) _ _ (at_most_before r d w h)
          (λ w' h'. same_counted w'.clock.rest (Some at) w' _ _ refl (λ q w'' is h''. (e q (let g : suc q ≤ r = omega (arith, is, h') in g)).by w'' h''));
    };
    load = λ r at p k l e. record { by = λ w h. same_given _ at w _ _ (λ v. (e v).by w h) };
    store = λ r at p v t u e. record { by = λ w h. same_stored r w _ at _ _ h (λ w' h'. e.by w' h') };
    read = λ r at p n k l e. record { by = λ w h. same_given _ at w _ _ (λ bytes. (e bytes).by w h) };
    fresh = λ r at v k l e. record { by = λ w h. same_given _ at w _ _ (λ x. (e x).by w h) };
    birth = λ r at shapes k l e. record { by = λ w h. (e (births program Auto shapes w).pointers).by (births program Auto shapes w).memory (at_most_births r shapes w h) };
    death = λ r at ps t u e. record { by = λ w h. e.by (deaths ps w) (at_most_deaths r ps w h) };
    ask = λ r a k l e. record { by = λ w h. same_after r (served program a w) _ _ (at_most_served r a w h) (λ results w' h'. (e results).by w' h') };
    cross = λ r at f args d k l e. record { by = λ w h. (e wire.NoValue).by w h };
  }

  need_ticks_alone : (side : Side) (n m func : ℕ) (args : List Wire) (depth : ℕ) (below : Tree) (w : World) → w.clock.rest < n → w.clock.rest < m
      → run (in_kernel program never) before (started side n func args depth below) w ≡ run (in_kernel program never) before (started side m func args depth below) w
  need_ticks_alone side n m func args depth below w less less' =
      (started_alike Alike alike side n m w.clock.rest func less less' args depth below below (λ q fewer. record { by = λ w' h. refl })).by w (le_refl w.clock.rest)

pub runs_need_ticks_alone : RunsNeedTicksAlone
runs_need_ticks_alone = record { runs = need_ticks_alone; interrupted = interrupts_give_none }
