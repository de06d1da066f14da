-- What code of the user half leaves, while it is held to its cells.
use Rattle.std.proofs.Common.{◌≡◌, ℕ, zero, suc, ◌+◌, Bool, true, false, List, [], map, Option, Some, None, Result, Ok, Err, refl, sym, subst, arith}
use Rattle.mdr_core.specs.declared.place.At.{At}
use Rattle.mdr_core.specs.declared.program.Func.{Func}
use Rattle.mdr_core.specs.declared.program.Param.{Param}
use Rattle.mdr_core.specs.declared.program.Program.{Program}
use Rattle.mdr_core.specs.declared.stop.StopKind.TheVariants as stop
use Rattle.mdr_core.specs.declared.types.Ty.{Ty}
use Rattle.mdr_core.specs.Layout.{chosen}
use Rattle.mdr_extents.specs.Reaching.{Failing, visible}
use Rattle.mdr_meaning.specs.declared.wire.Wire.{Wire}
use Rattle.mdr_meaning.specs.Bodies.{started}
use Rattle.mdr_meaning.specs.Fit.{Knowledge}
use Rattle.mdr_meaning.specs.Sides.{Body}
use Rattle.mdr_meaning.specs.Tree.{Tree}
use Rattle.mdr_meaning.specs.Within.{Uses}
use Rattle.mdr_meaning.proofs.GrowthLaws.{grows_same}
use Rattle.mdr_model.specs.declared.memory.Cell.{Cell}
use Rattle.mdr_model.specs.Memory.{normal}
use Rattle.mdr_model.proofs.KernelSteps.{steps_may_follow}
use Rattle.mdr_plain.specs.Atomic.{is_atomic}
use Rattle.mdr_plain.specs.Running.{Crossing, call, interrupts, nothing, run}
use Rattle.mdr_plain.specs.Services.{served}
use Rattle.mdr_plain.specs.Storage.{next_serial}
use Rattle.mdr_plain.specs.World.{Ended, Ran, Stopped, World}
use Rattle.mdr_watched.specs.Driver.{Driver, entry_roots, result_roots, touched_by}
use Rattle.mdr_watched.specs.Order.{AllAreLive}
use Rattle.mdr_watched.specs.Views.{closed, gained, may_touch, opened, renewed, taken, top}
use Rattle.mdr_watched.specs.Watched.{calls_back, closing, downcall, entered, held, in_user, kernel_of, kernel_with, may_not, returns_to, serves, upcall}
use Rattle.mdr_watched.proofs.MemoryOrder.{order_kept_around, order_kept_inside}
use Rattle.mdr_holds.specs.Holding.{Holds}
use Rattle.mdr_holds.specs.Laws.{CallsAcross, Cross, GivesServed, IsAround, IsCalled, IsDriver, Serve, UserCodeLeaves}
use Rattle.mdr_holds.specs.Leaving.{GivesResult, Later, Leads, Returns, ended, stopped}
use Rattle.mdr_holds.proofs.Fitting.{all_now, result_now}
use Rattle.mdr_holds.proofs.Kernel.{called, goes, may_not_across, start_fair, tried}
use Rattle.mdr_holds.proofs.Leading.{after_leads, later_leads}
use Rattle.mdr_holds.proofs.Running.{code_leaves}
use Rattle.mdr_holds.proofs.Serving.{services_serve}
use Rattle.mdr_holds.proofs.Steps.{in_order, later_on, later_same}

-- other visible sets, of live cells
pub views_later : (program : Program) (from : ℕ) (K : Knowledge) (w : World) (views : List (List Cell)) → Holds program K w → AllAreLive w.memory views → Later program from K w K (record w { views = views })
views_later program from K w views h live = record {
  grows = grows_same K;
  holds = record { memory = h.memory; births = h.births; low = h.low; views = live; device = h.device; handler = h.handler };
  follows = steps_may_follow.none program (next_serial w) w.memory h.memory.formed h.low;
  stays = λ s b under e q. e;
  time = refl;
  later = omega arith;
  calls = refl;
}

module _ (d : Driver) (uses : Uses) (driver : IsDriver d uses) where
  -- ---- services

  asks_leave : (t : ℕ) → Serve d.program uses (serves d (held d) t)
  asks_leave t K w same h from live remains a s early objects names ask parts =
      after_leads d.program from K w (GivesServed d.program a s from remains w) (GivesServed d.program a s from remains w) (served d.program a w)
      (services_serve d.program driver.sound uses K w same h from live remains a s early objects names ask parts) (λ results w'. Ended results (gained d.program (touched_by d.plan t) (next_serial w) w'))
      (λ K' rs w' l g. let order = order_kept_inside.grows d.program (touched_by d.plan t) (next_serial w) w' (in_order d.program K' w' l.holds) in
      ended K' rs (gained d.program (touched_by d.plan t) (next_serial w) w')
      (later_on d.program from K K' K' w w' (gained d.program (touched_by d.plan t) (next_serial w) w') l (views_later d.program from K' w' _ l.holds order.live))
      (record { served = g.served; objects = g.objects; handling = g.handling }))

  -- ---- calls of the kernel half

  -- the set is taken anew, or a pointer fails
  module _ (from : ℕ) (K0 : Knowledge) (first : World) (t : ℕ) (at : At) (f : ℕ) (args : List Wire) where
    returned : (result : Ty) (K : Knowledge) (v : Wire) (w : World) → Later d.program from K0 first K w → GivesResult d.program result first K v w → Leads (Later d.program from K0 first) (GivesResult d.program result first) (returns_to d (held d) t at f args v w)
    returned result K v w l g = by_set (visible d.program (touched_by d.plan t) w.memory (top w.views) (result_roots d.program f args v)) refl where
      by_set : (r : Result (List Cell) Failing) → visible d.program (touched_by d.plan t) w.memory (top w.views) (result_roots d.program f args v) ≡ r → Leads (Later d.program from K0 first) (GivesResult d.program result first) (taken r at w (λ set. Ended v (renewed set w)))
      by_set (Ok set) e =
          let order = order_kept_inside.renews d.program (touched_by d.plan t) (top w.views) (result_roots d.program f args v) set w e (in_order d.program K w l.holds) in
          ended K v (renewed set w) (later_on d.program from K0 K K first w (renewed set w) l (views_later d.program from K w _ l.holds order.live)) (record { fits = g.fits; handling = g.handling })
      by_set (Err failing) e = stopped K stop.Annotation (Some at) w l

  module _ (crosses : Crossing) (across : CallsAcross d.program uses crosses) where
    down_leaves : (t : ℕ) (at : At) (K : Knowledge) (w : World) → K.uses ≡ uses → Holds d.program K w → (f : ℕ) (func : Func) (args : List Wire) (depth : ℕ) → IsCalled d.program K f func args
        → Returns d.program (next_serial w) func.result K w (downcall d (held d) t crosses at f args depth w)
    down_leaves t at K w same h f func args depth c =
        after_leads d.program (next_serial w) K w (GivesResult d.program func.result w) (GivesResult d.program func.result w) (call (kernel_with d crosses) (interrupts (kernel_of d)) f (map (normal w.memory) args) depth w)
        (called d.program driver.sound uses d.kernel driver.kernel crosses across (interrupts (kernel_of d)) (tried d.program driver.sound uses d.kernel driver.kernel may_not (may_not_across d.program uses)) K w same h f func (map (normal w.memory) args) depth
        (record { names = c.names; fit = all_now d.program K w.memory args (map (λ (p : Param). p.ty) func.params) c.fit })) (λ v w'. returns_to d (held d) t at f (map (normal w.memory) args) v w')
        (λ K' v w' l g. returned (next_serial w) K w t at f (map (normal w.memory) args) func.result K' v w' l g)

    goes_down : (t : ℕ) → Cross d.program uses (downcall d (held d) t crosses)
    goes_down t K w same h at f args depth func c = down_leaves t at K w same h f func args depth (record { names = c.names; fit = c.fit })

    pub around_user : (t : ℕ) → IsAround d.program uses (serves d (held d) t) (downcall d (held d) t crosses) nothing
    around_user t = record { serve = asks_leave t; cross = goes_down t; tries = λ K w same h depth. ended K tt w (later_same d.program (next_serial w) K w h) refl }

    -- ---- upcalls

    module _ (f : ℕ) (func : Func) (args : List Wire) (depth : ℕ) where
      -- one without a body goes to the kernel half
      unentered : (K : Knowledge) (w : World) → K.uses ≡ uses → Holds d.program K w → IsCalled d.program K f func args → (n : ℕ)
          → Returns d.program (next_serial w) func.result K w (run (in_user d (held d) f crosses) nothing (goes d.user n f args depth None) w)
      unfolding run
      unentered K w same h c n =
          after_leads d.program (next_serial w) K w (GivesResult d.program func.result w) (GivesResult d.program func.result w) (downcall d (held d) f crosses (record { func = f; stmt = 0 }) f args depth w)
          (down_leaves f (record { func = f; stmt = 0 }) K w same h f func args depth c) _ (λ K' v w' l g. ended K' _ w' l (record { fits = result_now d.program K' w'.memory func.result v g.fits; handling = g.handling }))

      not_entered : (K : Knowledge) (w : World) → d.user.own f ≡ None → (n : ℕ) → Returns d.program (next_serial w) func.result K w (run (in_user d (held d) f crosses) nothing (goes d.user n f args depth None) w)
          → Returns d.program (next_serial w) func.result K w (run (in_user d (held d) f crosses) nothing (started d.user n f args depth Tree.Idle) w)
      unfolding started
      not_entered K w e n h = subst (λ (o : Option Body). Returns d.program (next_serial w) func.result K w (run (in_user d (held d) f crosses) nothing (goes d.user n f args depth o) w)) (sym e) h

      runs_open : (K : Knowledge) (w : World) → K.uses ≡ uses → Holds d.program K w → IsCalled d.program K f func args → (n : ℕ)
          → Returns d.program (next_serial w) func.result K w (run (in_user d (held d) f crosses) nothing (started d.user n f args depth Tree.Idle) w)
      runs_open K w same h c n = by_body (d.user.own f) refl where
        by_body : (o : Option Body) → d.user.own f ≡ o → Returns d.program (next_serial w) func.result K w (run (in_user d (held d) f crosses) nothing (started d.user n f args depth Tree.Idle) w)
        by_body None e = not_entered K w e n (unentered K w same h c n)
        by_body (Some body) e =
            code_leaves d.program driver.sound uses (serves d (held d) f) (downcall d (held d) f crosses) nothing (around_user f) may_touch (suc depth + 256) d.user func.result K w (next_serial w) [] (started d.user n f args depth Tree.Idle) same h
            (omega arith) tt (start_fair d.program driver.sound uses d.user driver.user K w same h f func args depth c body e n)

      closes : (K0 : Knowledge) (first : World) (ran : Ran Wire) → Leads (Later d.program (next_serial first) K0 first) (GivesResult d.program func.result first) ran → Leads (Later d.program (next_serial first) K0 first) (GivesResult d.program func.result first) (closing ran)
      closes K0 first _ (ended K v w l g) =
          let order = order_kept_around.closes w (in_order d.program K w l.holds) in
          ended K v (closed w) (later_on d.program (next_serial first) K0 K K first w (closed w) l (views_later d.program (next_serial first) K w _ l.holds order.live)) (record { fits = g.fits; handling = g.handling })
      closes K0 first _ (stopped K kind at w l) = stopped K kind at w l

      pub upcall_leaves : (K : Knowledge) (w : World) → K.uses ≡ uses → Holds d.program K w → IsCalled d.program K f func args → Returns d.program (next_serial w) func.result K w (upcall d (held d) crosses f args depth w)
      unfolding upcall
      upcall_leaves K w same h c = by_set (visible d.program (touched_by d.plan f) w.memory [] (entry_roots d.program f args)) refl where
        by_set : (r : Result (List Cell) Failing) → visible d.program (touched_by d.plan f) w.memory [] (entry_roots d.program f args) ≡ r
            → Returns d.program (next_serial w) func.result K w (taken r (record { func = f; stmt = 0 }) w (λ set. entered d (held d) crosses f args depth set w))
        by_set (Ok set) e =
            let order = order_kept_around.opens d.program (touched_by d.plan f) [] (entry_roots d.program f args) set w e (in_order d.program K w h) in
            let open_now : Later d.program (next_serial w) K w K (opened set w) = views_later d.program (next_serial w) K w _ h order.live in
            closes K w (run (in_user d (held d) f crosses) nothing (started d.user (suc w.clock.rest) f args depth Tree.Idle) (opened set w))
            (later_leads d.program (next_serial w) K w (GivesResult d.program func.result (opened set w)) (GivesResult d.program func.result w) K (opened set w) open_now (next_serial w) (omega arith) _
            (runs_open K (opened set w) same open_now.holds c (suc w.clock.rest)) (λ K' v w' l g. record { fits = g.fits; handling = g.handling }))
        by_set (Err failing) e = stopped K stop.Annotation (Some (record { func = f; stmt = 0 })) w (later_same d.program (next_serial w) K w h)

  -- ---- calls back

  chosen_returns : (result : Ty) (K : Knowledge) (w : World) (b : Bool) (x y : Ran Wire) → Returns d.program (next_serial w) result K w x → Returns d.program (next_serial w) result K w y → Returns d.program (next_serial w) result K w (chosen b x y)
  chosen_returns result K w true x y h g = h
  chosen_returns result K w false x y h g = g

  pub back_leaves : (room : ℕ) → CallsAcross d.program uses (calls_back d (held d) room)
  unfolding calls_back
  back_leaves zero K w same h at f args depth func c = stopped K stop.Depth (Some at) w (later_same d.program (next_serial w) K w h)
  back_leaves (suc room) K w same h at f args depth func c =
      chosen_returns func.result K w (is_atomic w) (Stopped stop.Atomic (Some at) w) (upcall d (held d) (calls_back d (held d) room) f (map (normal w.memory) args) depth w)
      (stopped K stop.Atomic (Some at) w (later_same d.program (next_serial w) K w h))
      (upcall_leaves (calls_back d (held d) room) (back_leaves room) f func (map (normal w.memory) args) depth K w same h
      (record { names = c.names; fit = all_now d.program K w.memory args (map (λ (p : Param). p.ty) func.params) c.fit }))

pub user_code_leaves : UserCodeLeaves
user_code_leaves = record {
  around = around_user;
  called = λ d uses driver crosses across K w same h f func args depth c. upcall_leaves d uses driver crosses across f func args depth K w same h c;
  back = back_leaves;
}
