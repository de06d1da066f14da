-- Kernel code that calls back leaves no visible set where it ends, if there was none.
use Rattle.std.proofs.Common.{◌≡◌, ℕ, zero, suc, Bool, true, false, List, [], ◌∷◌, length, map, Option, Some, Result, Ok, Err, refl, ◌∙◌, ap, subst, arith}
use Rattle.mdr_core.specs.declared.place.At.{At}
use Rattle.mdr_core.specs.declared.stop.StopKind.{StopKind}
use Rattle.mdr_core.specs.declared.stop.StopKind.TheVariants as stop
use Rattle.mdr_core.specs.Layout.{chosen}
use Rattle.mdr_meaning.specs.declared.wire.Wire.{Wire}
use Rattle.mdr_meaning.specs.Tree.{Tree}
use Rattle.mdr_model.specs.declared.memory.Cell.{Cell}
use Rattle.mdr_model.specs.declared.message.BirthKind.TheVariants.{Auto}
use Rattle.mdr_model.specs.Memory.{Memory, normal}
use Rattle.mdr_plain.specs.Atomic.{is_atomic}
use Rattle.mdr_plain.specs.Running.{Crossing, call, interrupts, run}
use Rattle.mdr_plain.specs.Services.{served}
use Rattle.mdr_plain.specs.Storage.{births, born, deaths, died, remembers, with_memory, without}
use Rattle.mdr_plain.specs.World.{Ended, Ran, Stopped, Work, World, advanced, after, counted, given, left, then}
use Rattle.mdr_plain.proofs.KeepLaws.{births_keep, deaths_keep, served_keeps}
use Rattle.mdr_watched.specs.Driver.{Driver}
use Rattle.mdr_watched.specs.Watched.{calls_back, held, kernel_of, kernel_with, upcall}
use Rattle.mdr_watched.proofs.CloseLaws.{upcalls_close}
use Rattle.mdr_watched.proofs.KeepLaws.{IsKept, interrupts_keep}
use Rattle.mdr_kept.proofs.EvenLaws.{NoViews, none_kept}

-- each single step of a watched run leaves none
none_left : IsKept NoViews
unfolding NoViews born died
none_left = record {
  put = λ w c v e. e;
  keeping = λ w k e. e;
  device = λ w d e. e;
  tick = λ w e. e;
  birth = λ program kind s w e. e;
  death = λ w serial e. ap (map (without serial)) e;
}

-- ---- work that leaves none where it ends

abbrev pub EndsAlone : {A : Type 0} → Ran A → Type 0
EndsAlone (Ended x w) = NoViews w
EndsAlone (Stopped kind at w) = Unit {0}

as_left : {A : Type 0} (r : Ran A) → NoViews (left r) → EndsAlone r
as_left (Ended x w) h = h
as_left (Stopped kind at w) h = tt

where_ended : {A : Type 0} (r : Ran A) → ((x : A) (w : World) → r ≡ Ended x w → NoViews w) → EndsAlone r
where_ended (Ended x w) h = h x w refl
where_ended (Stopped kind at w) h = tt

pub alone_at_end : {A : Type 0} (r : Ran A) → EndsAlone r → (x : A) (w : World) → r ≡ Ended x w → w.views ≡ []
unfolding NoViews
alone_at_end r h x w q = subst (λ (s : Ran _). EndsAlone s) q h

alone_after : {A B : Type 0} (r : Ran A) (go : A → World → Ran B) → EndsAlone r → ((x : A) (w : World) → NoViews w → EndsAlone (go x w)) → EndsAlone (after r go)
alone_after (Ended x w) go h each = each x w h
alone_after (Stopped kind at w) go h each = tt

alone_then : {B : Type 0} (r : Work) (go : World → Ran B) → EndsAlone r → ((w : World) → NoViews w → EndsAlone (go w)) → EndsAlone (then r go)
alone_then (Ended x w) go h each = each w h
alone_then (Stopped kind at w) go h each = tt

alone_given : {A B : Type 0} (r : Result A StopKind) (at : At) (w : World) (go : A → Ran B) → ((x : A) → EndsAlone (go x)) → EndsAlone (given r at w go)
alone_given (Ok x) at w go each = each x
alone_given (Err kind) at w go each = tt

alone_counted : {A : Type 0} (n : ℕ) (at : Option At) (w : World) (go : World → Ran A) → NoViews w → ((w' : World) → NoViews w' → EndsAlone (go w')) → EndsAlone (counted n at w go)
alone_counted zero at w go h each = tt
alone_counted (suc n) at w go h each = each (record w { clock = advanced 1 w.clock }) (none_left.tick w h)

alone_stored : {A : Type 0} (w : World) (r : Result Memory StopKind) (at : At) (go : World → Ran A) → NoViews w → ((w' : World) → NoViews w' → EndsAlone (go w')) → EndsAlone (given (remembers w r) at w go)
alone_stored w (Ok m) at go h each = each (with_memory w m) (none_kept.memory w m h)
alone_stored w (Err kind) at go h each = tt

alone_chosen : {A : Type 0} (b : Bool) (kind : StopKind) (at : Option At) (w : World) (r : Ran A) → EndsAlone r → EndsAlone (chosen b (Stopped kind at w) r)
alone_chosen true kind at w r h = tt
alone_chosen false kind at w r h = h

-- ---- kernel code

module _ (d : Driver) (crosses : Crossing) (crossed : (at : At) (f : ℕ) (args : List Wire) (depth : ℕ) (w : World) → NoViews w → EndsAlone (crosses at f args depth w)) where
  run_alone : (t : Tree) (w : World) → NoViews w → EndsAlone (run (kernel_with d crosses).setting (interrupts (kernel_of d)) t w)
  unfolding run
  run_alone Tree.Idle w h = h
  run_alone (Tree.Waits k) w h = h
  run_alone (Tree.Done v t) w h = h
  run_alone (Tree.Stop kind at) w h = tt
  run_alone (Tree.Tick at n t) w h = alone_then _ _ (as_left _ (interrupts_keep NoViews none_left d n w h).at_end) (λ w' h'. alone_counted w'.clock.rest (Some at) w' _ h' (λ w'' h''. run_alone t w'' h''))
  run_alone (Tree.Load at p k) w h = alone_given _ at w _ (λ v. run_alone (k v) w h)
  run_alone (Tree.Store at p v t) w h = alone_stored w _ at _ h (λ w' h'. run_alone t w' h')
  run_alone (Tree.Read at p n k) w h = alone_given _ at w _ (λ bytes. run_alone (k bytes) w h)
  run_alone (Tree.Fresh at v k) w h = alone_given _ at w _ (λ x. run_alone (k x) w h)
  run_alone (Tree.Birth at shapes k) w h = run_alone (k (births d.program Auto shapes w).pointers) (births d.program Auto shapes w).memory (births_keep NoViews none_kept d.program Auto shapes w h)
  run_alone (Tree.Death at ps t) w h = run_alone t (deaths ps w) (deaths_keep NoViews none_kept ps w h)
  run_alone (Tree.Ask a k) w h = alone_after _ _ (as_left (served d.program a w) (served_keeps NoViews none_kept d.program a w h).at_end) (λ results w' h'. run_alone (k results) w' h')
  run_alone (Tree.Cross at f args depth k) w h = alone_after _ _ (crossed at f args depth w h) (λ v w' h'. run_alone (k v) w' h')

empty : (views : List (List Cell)) → length views ≡ 0 → views ≡ []
empty [] e = refl
empty (set ∷ sets) e = absurd (omega (arith, e))

module _ (d : Driver) where
  pub up_alone : (room f : ℕ) (args : List Wire) (depth : ℕ) (w : World) → NoViews w → EndsAlone (upcall d (held d) (calls_back d (held d) room) f args depth w)
  unfolding NoViews
  up_alone room f args depth w h = where_ended _ (λ v w' q. empty w'.views (upcalls_close d room f args depth w v w' q ∙ ap (λ (views : List (List Cell)). length views) h))

  backs_alone : (room : ℕ) (at : At) (f : ℕ) (args : List Wire) (depth : ℕ) (w : World) → NoViews w → EndsAlone (calls_back d (held d) room at f args depth w)
  unfolding calls_back
  backs_alone zero at f args depth w h = tt
  backs_alone (suc room) at f args depth w h = alone_chosen (is_atomic w) stop.Atomic (Some at) w _ (up_alone room f (map (normal w.memory) args) depth w h)

  pub call_alone : (room f : ℕ) (args : List Wire) (depth : ℕ) (w : World) → NoViews w → EndsAlone (call (kernel_with d (calls_back d (held d) room)) (interrupts (kernel_of d)) f args depth w)
  unfolding call
  call_alone room f args depth w h = run_alone d (calls_back d (held d) room) (backs_alone room) _ w h

  pub interrupts_alone : (depth : ℕ) (w : World) → NoViews w → EndsAlone (interrupts (kernel_of d) depth w)
  interrupts_alone depth w h = as_left _ (interrupts_keep NoViews none_left d depth w h).at_end
