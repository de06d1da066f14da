-- The set of an upcall is gone when it ended, and no other; and between commands there is none.
use Rattle.std.proofs.Common.{◌≡◌, ℕ, zero, suc, Bool, true, false, List, [], ◌∷◌, ◌++◌, length, map, Option, Some, Result, Ok, Err, refl, ◌∙◌, ap, subst, arith}
use Rattle.std.proofs.lemmas.List.{length-map}
use Rattle.mdr_core.specs.declared.place.At.{At}
use Rattle.mdr_core.specs.declared.program.Program.{Program}
use Rattle.mdr_core.specs.declared.stop.StopKind.{StopKind}
use Rattle.mdr_core.specs.declared.stop.StopKind.TheVariants as stop
use Rattle.mdr_core.specs.Layout.{chosen}
use Rattle.mdr_extents.specs.Reaching.{Failing}
use Rattle.mdr_meaning.specs.declared.wire.Wire.{Wire}
use Rattle.mdr_meaning.specs.Tree.{Asked, Tree}
use Rattle.mdr_model.specs.declared.command.Command.{Command}
use Rattle.mdr_model.specs.declared.command.Command.TheVariants as command
use Rattle.mdr_model.specs.declared.memory.Cell.{Cell}
use Rattle.mdr_model.specs.declared.message.BirthKind.TheVariants.{Auto}
use Rattle.mdr_model.specs.declared.outcome.End.TheVariants as ends
use Rattle.mdr_model.specs.Memory.{normal, reached, stored, stored_into}
use Rattle.mdr_plain.specs.Atomic.{is_atomic}
use Rattle.mdr_plain.specs.Scripts.{Finish, and_then, begin, called_by, commands, first_world, in_place, returned}
use Rattle.mdr_plain.specs.Running.{Before, Crossing, all_cells, call, interrupts, nothing, run}
use Rattle.mdr_plain.specs.Services.{served}
use Rattle.mdr_plain.specs.Storage.{accesses, births, born, deaths, died, remembers, without}
use Rattle.mdr_plain.specs.World.{World, Ran, Ended, Stopped, Work, advanced, after, counted, given, then}
use Rattle.mdr_watched.specs.Driver.{Driver, is_user}
use Rattle.mdr_watched.specs.Laws.{NoSetIsLeft, UpcallsClose}
use Rattle.mdr_watched.specs.Views.{below, closed, may_touch, new_cells, opened, renewed, taken, top}
use Rattle.mdr_watched.specs.Watched.{calls_back, closing, does, does_with, downcall, entered, held, kernel_of, kernel_with, serves, upcall, watched_of}
use Rattle.mdr_watched.proofs.KeepLaws.{IsKept, IsKeptInside, Keeps, asks_keep, births_keep, deaths_keep, idle_keeps_all, interrupts_keep, served_keeps}

-- ---- how many sets there are

pub HasSets : ℕ → World → Type 0
HasSets n w = length w.views ≡ n

sets_kept : (n : ℕ) → IsKept (HasSets n)
unfolding HasSets born died
sets_kept n = record {
  put = λ w c v e. e;
  keeping = λ w k e. e;
  device = λ w d e. e;
  tick = λ w e. e;
  birth = λ program kind s w e. e;
  death = λ w serial e. length-map w.views (without serial) ∙ e;
}

renewed_has : (n : ℕ) (set : List Cell) (views : List (List Cell)) → length views ≡ suc n → length (set ∷ below views) ≡ suc n
renewed_has n set [] e = absurd (omega (arith, e))
renewed_has n set (old ∷ sets) e = e

below_has : (n : ℕ) (views : List (List Cell)) → length views ≡ suc n → length (below views) ≡ n
below_has n [] e = absurd (omega (arith, e))
below_has n (old ∷ sets) e = omega (arith, e)

sets_kept_inside : (n : ℕ) → IsKeptInside (HasSets (suc n))
unfolding HasSets
sets_kept_inside n = record {
  renews = λ program touched known roots set w is e. renewed_has n set w.views e;
  grows = λ program touched next w e. renewed_has n (top w.views ++ new_cells program touched next w.memory) w.views e;
}

-- ---- ends

same_world : {A : Type 0} (x y : A) (w w' : World) → ◌≡◌ {A = Ran A} (Ended x w) (Ended y w') → w ≡ w'
same_world x y w w' e = cc

no_end : {A X : Type 0} (kind : StopKind) (at : Option At) (w w' : World) (x : A) → ◌≡◌ {A = Ran A} (Stopped kind at w) (Ended x w') → X
no_end kind at w w' x e = absurd cc

-- ---- work that ends with so many sets, where it ends

pub data Comes {A : Type 0} (n : ℕ) : Ran A → Type 0 where
  came : (x : A) (w : World) → HasSets n w → Comes n (Ended x w)
  halted : (kind : StopKind) (at : Option At) (w : World) → Comes n (Stopped kind at w)

kept_comes : {A : Type 0} (n : ℕ) (r : Ran A) → Keeps (HasSets n) (sets_kept n) r → Comes n r
kept_comes n (Ended x w) h = came x w h.at_end
kept_comes n (Stopped kind at w) h = halted kind at w

comes_after : {A B : Type 0} (n m : ℕ) (r : Ran A) → Comes n r → (go : A → World → Ran B) → ((x : A) (w : World) → HasSets n w → Comes m (go x w)) → Comes m (after r go)
comes_after n m _ (came x w h) go each = each x w h
comes_after n m _ (halted kind at w) go each = halted kind at w

comes_then : {B : Type 0} (n : ℕ) (r : Work) → Comes n r → (go : World → Ran B) → ((w : World) → HasSets n w → Comes n (go w)) → Comes n (then r go)
comes_then n _ (came x w h) go each = each w h
comes_then n _ (halted kind at w) go each = halted kind at w

comes_given : {A B : Type 0} (n : ℕ) (r : Result A StopKind) (at : At) (w : World) (go : A → Ran B) → ((x : A) → Comes n (go x)) → Comes n (given r at w go)
comes_given n (Ok x) at w go each = each x
comes_given n (Err kind) at w go each = halted kind (Some at) w

comes_counted : {A : Type 0} (n rest : ℕ) (at : Option At) (w : World) (go : World → Ran A) → HasSets n w → ((w' : World) → HasSets n w' → Comes n (go w')) → Comes n (counted rest at w go)
comes_counted n zero at w go h each = halted stop.Ticks at w
comes_counted n (suc rest) at w go h each = each (record w { clock = advanced 1 w.clock }) ((sets_kept n).tick w h)

comes_stored : {A : Type 0} (n : ℕ) (w : World) (v : Wire) (r : Result Cell StopKind) (at : At) (go : World → Ran A) → HasSets n w → ((w' : World) → HasSets n w' → Comes n (go w')) → Comes n (given (remembers w (stored_into w.memory v r)) at w go)
comes_stored n w v (Ok c) at go h each = each _ ((sets_kept n).put w c (normal w.memory v) h)
comes_stored n w v (Err kind) at go h each = halted kind (Some at) w

chosen_comes : {A : Type 0} (n : ℕ) (b : Bool) (x y : Ran A) → Comes n x → Comes n y → Comes n (chosen b x y)
chosen_comes n true x y h g = h
chosen_comes n false x y h g = g

-- calls of the other half do
abbrev CrossingComes : ℕ → Crossing → Type 0
CrossingComes n crosses = (at : At) (f : ℕ) (args : List Wire) (depth : ℕ) (w : World) → HasSets n w → Comes n (crosses at f args depth w)

module _ (n : ℕ) (program : Program) (allowed : World → Cell → Bool) (asks : Asked → World → Ran (List Wire)) (crosses : Crossing) (before : Before)
    (tries : (d : ℕ) (w : World) → HasSets n w → Comes n (before d w))
    (asked : (q : Asked) (w : World) → HasSets n w → Comes n (asks q w))
    (crossed : CrossingComes n crosses) where
  run_comes : (t : Tree) (w : World) → HasSets n w → Comes n (run (record { accesses = accesses program allowed; serves = asks; crosses = crosses }) before t w)
  unfolding run stored
  run_comes Tree.Idle w e = came _ w e
  run_comes (Tree.Waits k) w e = came _ w e
  run_comes (Tree.Done v t) w e = came _ w e
  run_comes (Tree.Stop kind at) w e = halted kind (Some at) w
  run_comes (Tree.Tick at d t) w e = comes_then n (before d w) (tries d w e) _ (λ w' e'. comes_counted n w'.clock.rest _ w' _ e' (λ w'' e''. run_comes t w'' e''))
  run_comes (Tree.Load at p k) w e = comes_given n _ at w _ (λ v. run_comes (k v) w e)
  run_comes (Tree.Store at p v t) w e = comes_stored n w v (reached (allowed w) w.memory p) at _ e (λ w' e'. run_comes t w' e')
  run_comes (Tree.Read at p m k) w e = comes_given n _ at w _ (λ bytes. run_comes (k bytes) w e)
  run_comes (Tree.Fresh at v k) w e = comes_given n _ at w _ (λ x. run_comes (k x) w e)
  run_comes (Tree.Birth at shapes k) w e = run_comes (k (births program Auto shapes w).pointers) (births program Auto shapes w).memory (births_keep (HasSets n) (sets_kept n) program Auto shapes w e)
  run_comes (Tree.Death at ps t) w e = run_comes t (deaths ps w) (deaths_keep (HasSets n) (sets_kept n) ps w e)
  run_comes (Tree.Ask q k) w e = comes_after n n _ (asked q w e) _ (λ results w' e'. run_comes (k results) w' e')
  run_comes (Tree.Cross at f args d k) w e = comes_after n n _ (crossed at f args d w e) _ (λ v w' e'. run_comes (k v) w' e')

-- ---- code of both halves

module _ (d : Driver) where
  interrupts_come : (n depth : ℕ) (w : World) → HasSets n w → Comes n (interrupts (kernel_of d) depth w)
  interrupts_come n depth w e = kept_comes n _ (interrupts_keep (HasSets n) (sets_kept n) d depth w e)

  call_comes : (n : ℕ) (crosses : Crossing) → CrossingComes n crosses → (f : ℕ) (args : List Wire) (depth : ℕ) (w : World) → HasSets n w → Comes n (call (kernel_with d crosses) (interrupts (kernel_of d)) f args depth w)
  unfolding call
  call_comes n crosses crossed f args depth w e =
      run_comes n d.program all_cells (served d.program) crosses (interrupts (kernel_of d)) (interrupts_come n) (λ q w' e'. kept_comes n _ (served_keeps (HasSets n) (sets_kept n) d.program q w' e')) crossed _ w e

  taken_comes : {A : Type 0} (n : ℕ) (r : Result (List Cell) Failing) (at : At) (w : World) (go : List Cell → Ran A) → ((set : List Cell) → Comes n (go set)) → Comes n (taken r at w go)
  taken_comes n (Ok set) at w go each = each set
  taken_comes n (Err failing) at w go each = halted _ _ w

  down_comes : (n : ℕ) (crosses : Crossing) → CrossingComes (suc n) crosses → (t : ℕ) → CrossingComes (suc n) (downcall d (held d) t crosses)
  unfolding HasSets
  down_comes n crosses crossed t at f args depth w e =
      comes_after (suc n) (suc n) _ (call_comes (suc n) crosses crossed f _ depth w e) _
      (λ v w' e'. taken_comes (suc n) _ at w' _ (λ set. came v (renewed set w') (renewed_has n set w'.views e')))

  closing_comes : (n : ℕ) (r : Ran Wire) → Comes (suc n) r → Comes n (closing r)
  unfolding HasSets
  closing_comes n _ (came v w h) = came v (closed w) (below_has n w.views h)
  closing_comes n _ (halted kind at w) = halted kind at w

  upcall_comes : (n : ℕ) (crosses : Crossing) → CrossingComes (suc n) crosses → (f : ℕ) (args : List Wire) (depth : ℕ) (w : World) → HasSets n w → Comes n (upcall d (held d) crosses f args depth w)
  unfolding upcall HasSets
  upcall_comes n crosses crossed f args depth w e =
      taken_comes n _ _ w (λ set. entered d (held d) crosses f args depth set w)
      (λ set. closing_comes n _ (run_comes (suc n) d.program may_touch (serves d (held d) f) (downcall d (held d) f crosses) nothing (λ m w' e'. came tt w' e')
      (λ q w' e'. kept_comes (suc n) _ (asks_keep (HasSets (suc n)) (sets_kept (suc n)) d (sets_kept_inside n) f q w' e')) (down_comes n crosses crossed f) _ (opened set w) (ap suc e)))

  backs_come : (room n : ℕ) → CrossingComes n (calls_back d (held d) room)
  unfolding calls_back
  backs_come zero n at f args depth w e = halted _ _ w
  backs_come (suc room) n at f args depth w e =
      chosen_comes n (is_atomic w) (Stopped stop.Atomic (Some at) w) (upcall d (held d) (calls_back d (held d) room) f (map (normal w.memory) args) depth w) (halted _ _ w)
      (upcall_comes n (calls_back d (held d) room) (backs_come room (suc n)) f (map (normal w.memory) args) depth w e)

  -- ---- commands

  returned_comes : (r : Ran Wire) → Comes 0 r → Comes 0 (returned (interrupts (kernel_of d)) r)
  unfolding HasSets
  returned_comes r h = comes_after 0 0 r h _ (λ v w e. interrupts_come 0 0 _ e)

  called_comes : (room : ℕ) (user : Bool) (f : ℕ) (args : List Wire) (w : World) → HasSets 0 w
      → Comes 0 (in_place (kernel_of d) (λ g vs w'. call (kernel_with d (calls_back d (held d) room)) (interrupts (kernel_of d)) g vs 0 w') (λ g vs w'. upcall d (held d) (calls_back d (held d) room) g vs 0 w') (called_by user (kernel_of d) f args w))
  called_comes room true f args w e = returned_comes _ (upcall_comes 0 (calls_back d (held d) room) (backs_come room 1) f args 0 w e)
  called_comes room false f args w e = returned_comes _ (call_comes 0 (calls_back d (held d) room) (backs_come room 0) f args 0 w e)

  does_comes : (room : ℕ) (c : Command) (w : World) → HasSets 0 w → Comes 0 (does_with d (held d) (calls_back d (held d) room) c w)
  unfolding begin HasSets
  does_comes room (command.Call f args) w e = called_comes room (is_user d.plan f) f _ _ e
  does_comes room (command.Idle n) w e = kept_comes 0 _ (idle_keeps_all (HasSets 0) (sets_kept 0) d n w e)
  does_comes room (command.Show g) w e = came tt _ e
  does_comes room (command.Poke serial index n) w e = came tt _ e
  does_comes room (command.Say text) w e = came tt _ e

  not_ok : {X : Type 0} (kind : StopKind) (at : Option At) → ends.Stop kind at ≡ ends.Ok → X
  not_ok kind at e = absurd cc

  and_then_leaves : (r : Work) → Comes 0 r → (go : World → Finish) → ((w : World) → HasSets 0 w → (go w).end ≡ ends.Ok → HasSets 0 (go w).world) → (and_then r go).end ≡ ends.Ok → HasSets 0 (and_then r go).world
  and_then_leaves _ (came x w h) go each e = each w h e
  and_then_leaves _ (halted kind at w) go each e = not_ok kind at e

  commands_leave : (cs : List Command) (w : World) → HasSets 0 w → (commands (does d (held d)) cs w).end ≡ ends.Ok → HasSets 0 (commands (does d (held d)) cs w).world
  unfolding commands
  commands_leave [] w e ok = e
  commands_leave (c ∷ cs) w e ok = and_then_leaves (does d (held d) c w) (does_comes 256 c w e) _ (λ w' e' ok'. commands_leave cs w' e' ok') ok

-- where it ended, it has so many
has_at_end : {A : Type 0} (n : ℕ) (r : Ran A) → Comes n r → (x : A) (w : World) → r ≡ Ended x w → length w.views ≡ n
unfolding HasSets
has_at_end n _ (came x w h) y w' e = subst (λ (u : World). length u.views ≡ n) (same_world x y w w' e) h
has_at_end n _ (halted kind at w) y w' e = no_end kind at w w' y e

pub upcalls_close : UpcallsClose
unfolding HasSets
upcalls_close d room f args depth w v w' e = has_at_end (length w.views) _ (upcall_comes d (length w.views) (calls_back d (held d) room) (backs_come d room (suc (length w.views))) f args depth w refl) v w' e

empty : (views : List (List Cell)) → length views ≡ 0 → views ≡ []
empty [] e = refl
empty (set ∷ sets) e = absurd (omega (arith, e))

pub no_set_is_left : NoSetIsLeft
unfolding watched_of first_world HasSets
no_set_is_left d script budget ok = empty _ (commands_leave d script.commands _ refl ok)
