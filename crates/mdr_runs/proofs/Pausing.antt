-- Code that is run up to its next call of the other half comes to what it comes to where it is run to its end.
use Rattle.std.proofs.Common.{◌≡◌, ℕ, zero, suc, ◌-◌, ◌≤◌, Some, Result, Ok, Err, refl, sym, ap, arith}
use mathlib.Core.Path.{fun_ext}
use Rattle.mdr_core.specs.declared.place.At.{At}
use Rattle.mdr_core.specs.declared.stop.StopKind.{StopKind}
use Rattle.mdr_meaning.specs.declared.wire.Wire.{Wire}
use Rattle.mdr_meaning.specs.Cut.{cut}
use Rattle.mdr_meaning.specs.Tree.{Tree}
use Rattle.mdr_meaning.proofs.CutLaws.{cut_cut}
use Rattle.mdr_plain.specs.Laws.{GivesNoTicks}
use Rattle.mdr_plain.specs.Running.{Before, Setting, Went, Calls, gave_after, gave_counted, gave_given, goes, run}
use Rattle.mdr_plain.specs.World.{World, Ran, Ended, Stopped, Work, advanced, after, counted, given, left, then}
use Rattle.mdr_runs.specs.Around.{KeepsTicks}
use Rattle.mdr_runs.specs.Pausing.{EachSettingPauses, finishes}
use Rattle.mdr_runs.proofs.Around.{at_most, cut_runs, fewer, no_tick, same_after}

-- ---- to its end

module _ (s : Setting) (before : Before) where
  given_finishes : {A : Type 0} (x : Result A StopKind) (at : At) (w : World) (go : A → Ran Wire) (go' : A → Went) → ((a : A) → go a ≡ finishes s before (go' a)) → given x at w go ≡ finishes s before (gave_given x at w go')
  given_finishes (Ok x) at w go go' each = each x
  given_finishes (Err kind) at w go go' each = refl

  after_finishes : {A : Type 0} (x : Ran A) (go : A → World → Ran Wire) (go' : A → World → Went) → ((a : A) (w : World) → go a w ≡ finishes s before (go' a w)) → after x go ≡ finishes s before (gave_after x go')
  after_finishes (Ended x w) go go' each = each x w
  after_finishes (Stopped kind at w) go go' each = refl

  then_finishes : (x : Work) (go : World → Ran Wire) (go' : World → Went) → ((w : World) → go w ≡ finishes s before (go' w)) → then x go ≡ finishes s before (gave_after x (λ y w. go' w))
  then_finishes (Ended x w) go go' each = each w
  then_finishes (Stopped kind at w) go go' each = refl

  counted_finishes : (n : ℕ) (at : At) (w : World) (go : World → Ran Wire) (go' : World → Went) → ((w : World) → go w ≡ finishes s before (go' w)) → counted n (Some at) w go ≡ finishes s before (gave_counted n at w go')
  counted_finishes zero at w go go' each = refl
  counted_finishes (suc n) at w go go' each = each (record w { clock = advanced 1 w.clock })

  module _ (keeps : KeepsTicks s) (gives : GivesNoTicks before) where
    pub goes_finishes : (t : Tree) (w : World) → run s before t w ≡ finishes s before (goes s.accesses s.serves before t w)
    unfolding run goes
    goes_finishes Tree.Idle w = refl
    goes_finishes (Tree.Waits k) w = refl
    goes_finishes (Tree.Done v t) w = refl
    goes_finishes (Tree.Stop kind at) w = refl
    goes_finishes (Tree.Tick at d t) w = then_finishes (before d w) _ _ (λ w'. counted_finishes w'.clock.rest at w' _ _ (λ w''. goes_finishes t w''))
    goes_finishes (Tree.Load at p k) w = given_finishes (s.accesses.load w p) at w _ _ (λ v. goes_finishes (k v) w)
    goes_finishes (Tree.Store at p v t) w = given_finishes (s.accesses.store w p v) at w _ _ (λ w'. goes_finishes t w')
    goes_finishes (Tree.Read at p n k) w = given_finishes (s.accesses.read w p n) at w _ _ (λ bytes. goes_finishes (k bytes) w)
    goes_finishes (Tree.Fresh at v k) w = given_finishes (s.accesses.fresh w v) at w _ _ (λ x. goes_finishes (k x) w)
    goes_finishes (Tree.Birth at shapes k) w = goes_finishes (k (s.accesses.birth w shapes).pointers) (s.accesses.birth w shapes).memory
    goes_finishes (Tree.Death at ps t) w = goes_finishes t (s.accesses.death w ps)
    goes_finishes (Tree.Ask a k) w = after_finishes (s.serves a w) _ _ (λ results w'. goes_finishes (k results) w')
    goes_finishes (Tree.Cross at f args d k) w = same_after w.clock.rest (s.crosses at f args d w) _ _ (keeps.crosses at f args d w) (λ v w' h. sym (cut_runs s before keeps gives w.clock.rest (k v) w' h))

-- ---- cut

same_gave_given : {A : Type 0} (x : Result A StopKind) (at : At) (w : World) (go go' : A → Went) → ((a : A) → x ≡ Ok a → go a ≡ go' a) → gave_given x at w go ≡ gave_given x at w go'
same_gave_given (Ok x) at w go go' each = each x refl
same_gave_given (Err kind) at w go go' each = refl

pub same_gave_after : {A : Type 0} (r : ℕ) (x : Ran A) (go go' : A → World → Went) → (left x).clock.rest ≤ r → ((a : A) (w : World) → w.clock.rest ≤ r → go a w ≡ go' a w) → gave_after x go ≡ gave_after x go'
same_gave_after r (Ended x w) go go' h each = each x w h
same_gave_after r (Stopped kind at w) go go' h each = refl

same_gave_counted : (n : ℕ) (at : At) (w : World) (go go' : World → Went) → w.clock.rest ≡ n → ((q : ℕ) (w' : World) → suc q ≡ n → w'.clock.rest ≤ q → go w' ≡ go' w') → gave_counted n at w go ≡ gave_counted n at w go'
same_gave_counted zero at w go go' e each = refl
same_gave_counted (suc n) at w go go' e each = each n (record w { clock = advanced 1 w.clock }) refl (let h : w.clock.rest - 1 ≤ n = omega (arith, e) in h)

module _ (s : Setting) (before : Before) (keeps : KeepsTicks s) (gives : GivesNoTicks before) where
  pub goes_cut : (r : ℕ) (t : Tree) (w : World) → w.clock.rest ≤ r → goes s.accesses s.serves before (cut r t) w ≡ goes s.accesses s.serves before t w
  unfolding goes cut
  goes_cut r Tree.Idle w h = refl
  goes_cut r (Tree.Waits k) w h = refl
  goes_cut r (Tree.Done v t) w h = refl
  goes_cut r (Tree.Stop kind at) w h = refl
  goes_cut zero (Tree.Tick at d t) w h =
      same_gave_after 0 (before d w) _ _ (at_most (left (before d w)).clock.rest w.clock.rest 0 (gives d w) h)
      (λ x w' h'. same_gave_counted w'.clock.rest at w' _ _ refl (λ q w'' is least. no_tick s before keeps gives q w' is h'))
  goes_cut (suc r) (Tree.Tick at d t) w h =
      same_gave_after (suc r) (before d w) _ _ (at_most (left (before d w)).clock.rest w.clock.rest (suc r) (gives d w) h)
      (λ x w' h'. same_gave_counted w'.clock.rest at w' _ _ refl (λ q w'' is least. goes_cut r t w'' (fewer s before keeps gives q r w' w'' is h' least)))
  goes_cut r (Tree.Load at p k) w h = same_gave_given (s.accesses.load w p) at w _ _ (λ v e. goes_cut r (k v) w h)
  goes_cut r (Tree.Store at p v t) w h = same_gave_given (s.accesses.store w p v) at w _ _ (λ w' e. goes_cut r t w' (at_most w'.clock.rest w.clock.rest r (keeps.store p v w w' e) h))
  goes_cut r (Tree.Read at p n k) w h = same_gave_given (s.accesses.read w p n) at w _ _ (λ bytes e. goes_cut r (k bytes) w h)
  goes_cut r (Tree.Fresh at v k) w h = same_gave_given (s.accesses.fresh w v) at w _ _ (λ x e. goes_cut r (k x) w h)
  goes_cut r (Tree.Birth at shapes k) w h =
      goes_cut r (k (s.accesses.birth w shapes).pointers) (s.accesses.birth w shapes).memory (at_most (s.accesses.birth w shapes).memory.clock.rest w.clock.rest r (keeps.birth shapes w) h)
  goes_cut r (Tree.Death at ps t) w h = goes_cut r t (s.accesses.death w ps) (at_most (s.accesses.death w ps).clock.rest w.clock.rest r (keeps.death ps w) h)
  goes_cut r (Tree.Ask a k) w h = same_gave_after r (s.serves a w) _ _ (at_most (left (s.serves a w)).clock.rest w.clock.rest r (keeps.serves a w) h) (λ results w' h'. goes_cut r (k results) w' h')
  goes_cut r (Tree.Cross at f args d k) w h = ap (λ next. Calls at f args d next w) (fun_ext (λ v. cut_cut w.clock.rest r h (k v)))

pub each_setting_pauses : EachSettingPauses
each_setting_pauses = record { finishes = goes_finishes; cut = goes_cut }
