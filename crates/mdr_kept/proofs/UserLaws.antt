-- Code of the user half does the same where the run would end with what is passed on dead, also where kernel code calls it back.
use Rattle.std.proofs.Common.{◌≡◌, ℕ, zero, suc, ◌+◌, Bool, true, false, List, [], map, slice_get, Option, Some, None, Result, Ok, Err, refl, sym, ap, ◌∙◌, subst}
use Rattle.mdr_core.specs.declared.place.At.{At}
use Rattle.mdr_core.specs.declared.plan.Plan.{Plan}
use Rattle.mdr_core.specs.declared.program.Func.{Func}
use Rattle.mdr_core.specs.declared.program.Param.{Param}
use Rattle.mdr_core.specs.declared.program.Program.{Program}
use Rattle.mdr_core.specs.declared.stop.StopKind.{StopKind}
use Rattle.mdr_core.specs.declared.stop.StopKind.TheVariants as stop
use Rattle.mdr_core.specs.Layout.{chosen}
use Rattle.mdr_extents.specs.Reaching.{Failing, visible}
use Rattle.mdr_meaning.specs.declared.wire.Wire.{Wire}
use Rattle.mdr_meaning.specs.Bodies.{started}
use Rattle.mdr_meaning.specs.Fit.{Knowledge}
use Rattle.mdr_meaning.specs.Sides.{Body}
use Rattle.mdr_meaning.specs.Tree.{Tree}
use Rattle.mdr_meaning.specs.Within.{Uses}
use Rattle.mdr_model.specs.declared.memory.Cell.{Cell}
use Rattle.mdr_model.specs.Memory.{is_live, normal}
use Rattle.mdr_plain.specs.Atomic.{is_atomic}
use Rattle.mdr_plain.specs.Running.{Crossing, call, in_kernel}
use Rattle.mdr_plain.specs.Services.{served}
use Rattle.mdr_plain.specs.Storage.{next_serial}
use Rattle.mdr_plain.specs.World.{Ended, Ran, Stopped, World, after}
use Rattle.mdr_watched.specs.Driver.{Driver, entry_roots, is_user, touched_by}
use Rattle.mdr_watched.specs.Kept.{due_plainly, free, meets_none, meets_user, unless_due}
use Rattle.mdr_watched.specs.Views.{gained, may_touch, opened, renewed, taken}
use Rattle.mdr_watched.specs.Watched.{calls_back, closing, downcall, entered, held, in_user, kernel_of, kernel_with, returns_to, serves, upcall}
use Rattle.mdr_watched.proofs.KeptProofs.{backs_lead, downcalls_lead}
use Rattle.mdr_watched.proofs.MemoryOrder.{order_kept_around}
use Rattle.mdr_holds.specs.Holding.{Holds}
use Rattle.mdr_holds.specs.Laws.{IsAround, IsCalled}
use Rattle.mdr_holds.specs.Leaving.{Later}
use Rattle.mdr_holds.proofs.Drivers.{programs_are_drivers}
use Rattle.mdr_holds.proofs.Fitting.{all_now}
use Rattle.mdr_holds.proofs.Kernel.{start_fair}
use Rattle.mdr_holds.proofs.Steps.{in_order, later_same}
use Rattle.mdr_holds.proofs.User.{around_user, back_leaves}
use Rattle.mdr_kept.specs.Current.{AreCurrent, IsCurrent}
use Rattle.mdr_kept.proofs.TreeLaws.{scoped_trees_are_current}
use Rattle.mdr_kept.specs.Strict.{asks, entered as entered_strictly, goes_down, goes_up, is_any_gone, now, unless, upcall as upcall_strictly}
use Rattle.mdr_kept.specs.ReportLaws.{IsDriven}
use Rattle.mdr_kept.proofs.AliveLaws.{AreAliveAround, EndsAround, Reaches, code_alive}
use Rattle.mdr_kept.proofs.CallLaws.{AnswersCurrent, LeavesWithout, ResultCurrent, run_current, served_current, served_left}
use Rattle.mdr_kept.proofs.KernelLaws.{AreSame, as_ends, d, downs_same, driver, no_body, uses}
use Rattle.mdr_kept.proofs.LiveLaws.{knows, none_gone, normals_current}

unless_none : {A : Type 0} (b : Bool) (at : Option At) (w : World) (r : Ran A) → b ≡ false → r ≡ unless b at w r
unless_none true at w r e = absurd cc
unless_none false at w r e = refl

done_is : (o : Option ℕ) (w : World) (x : Unit {0}) (w' : World) → unless_due o w ≡ Ended x w' → w ≡ w'
done_is None w x w' e = cc
done_is (Some f) w x w' e = absurd cc

module _ (program : Program) (plan : Plan) (driven : IsDriven program plan) where
  abbrev e : Driver
  e = d program plan driven

  abbrev u : Uses
  u = uses program plan driven

  module _ (crosses crosses' : Crossing) (calls : AreSame program plan driven crosses crosses') (t : ℕ) where
    around_held : IsAround program u (serves e (held e) t) (downcall e (held e) t calls.held) (λ depth w. Ended tt w)
    around_held = around_user e u (driver program plan driven) calls.held calls.across t

    -- where user code is followed
    ends_user : EndsAround program u e.user (serves e (free e) t) (downcall e (free e) t crosses) meets_user
    ends_user =
        let there = as_ends program u e.user (serves e (held e) t) (downcall e (held e) t calls.held) (λ depth w. Ended tt w) around_held in
        record {
          serve = there.serve;
          cross = λ K w same h at f args depth func place none c v w' q. there.cross K w same h at f args depth func place none c v w' ((downcalls_lead e crosses calls.held calls.leads t at f args depth w).by v w' q);
          tries = λ K w same h depth x w' q. subst (λ (y : World). Reaches (Later program (next_serial w) K w) (λ K' z v. Unit {0}) x y) (done_is (due_plainly w) w x w' q) (record { known = K; left = later_same program (next_serial w) K w h; gives = tt });
        }

    -- ---- calls of the kernel half

    downcall_same : (K : Knowledge) (w : World) → K.uses ≡ u → Holds program K w → (at : At) (f : ℕ) (func : Func) (args : List Wire) (depth : ℕ) → IsCalled program K f func args → AreCurrent (is_live w.memory) args → e.user.own f ≡ None
        → downcall e (free e) t crosses at f args depth w ≡ goes_down e t crosses' at f args depth w
    downcall_same K w same h at f func args depth c current none =
        ap (λ (r : Ran Wire). after r (λ v w'. returns_to e (free e) t at f (now w args) v w'))
        (downs_same program plan driven crosses crosses' calls K w same h f func (now w args) depth (record { names = c.names; fit = all_now program K w.memory args (map (λ (p : Param). p.ty) func.params) c.fit }) (normals_current w.memory args) none)
        ∙ unless_none (is_any_gone w.memory args) (Some at) w _ (none_gone w.memory args current)

    taken_current : (o : Result (List Cell) Failing) (at : At) (v : Wire) (w : World) → IsCurrent (is_live w.memory) v → ResultCurrent (taken o at w (λ set. Ended v (renewed set w)))
    taken_current (Ok set) at v w h = h
    taken_current (Err failing) at v w h = tt

    returns_current : (at : At) (f : ℕ) (args : List Wire) (r : Ran Wire) → ResultCurrent r → ResultCurrent (after r (λ v w'. returns_to e (free e) t at f args v w'))
    returns_current at f args (Ended v w) h = taken_current _ at v w h
    returns_current at f args (Stopped kind at' w) h = tt

    downcall_current : (at : At) (f : ℕ) (args : List Wire) (depth : ℕ) (w : World) → ResultCurrent (downcall e (free e) t crosses at f args depth w)
    unfolding call
    downcall_current at f args depth w =
        returns_current at f (map (normal w.memory) args) (call (kernel_with e crosses) (meets_none (kernel_of e)) f (map (normal w.memory) args) depth w) (run_current (in_kernel program crosses) (meets_none (kernel_of e)) _ w)

    -- ---- services

    gained_current : (next : ℕ) (r : Ran (List Wire)) → AnswersCurrent r → AnswersCurrent (after r (λ rs w'. Ended rs (gained program (touched_by plan t) next w')))
    gained_current next (Ended rs w) h = h
    gained_current next (Stopped kind at w) h = tt

    gained_left : (ps : List Wire) (w : World) (next : ℕ) (r : Ran (List Wire)) → LeavesWithout ps w r → LeavesWithout ps w (after r (λ rs w'. Ended rs (gained program (touched_by plan t) next w')))
    gained_left ps w next (Ended rs w') h = h
    gained_left ps w next (Stopped kind at w') h = tt

    alive : AreAliveAround program u e.user (serves e (free e) t) (downcall e (free e) t crosses) meets_user (asks e t) (goes_down e t crosses') meets_user
    alive = record {
      serve = λ K w same h a c. unless_none (is_any_gone w.memory a.args) (Some a.at) w _ (none_gone w.memory a.args c);
      cross = λ K w same h at f args depth func place none call c. downcall_same K w same h at f func args depth (record { names = call.names; fit = call.fit }) c none;
      tries = λ K w same h depth. refl;
      served = λ a w rs w' q. subst AnswersCurrent q (gained_current (next_serial w) (served program a w) (served_current program a w));
      left = λ a w rs w' names c q. subst (LeavesWithout a.args w) q (gained_left a.args w (next_serial w) (served program a w) (served_left program a w names c));
      result = λ at f args depth w v w' q. subst ResultCurrent q (downcall_current at f args depth w);
    }

  -- ---- upcalls

  same_taken : (o : Result (List Cell) Failing) (at : At) (w : World) (go go' : List Cell → Ran Wire) → ((set : List Cell) → o ≡ Ok set → go set ≡ go' set) → taken o at w go ≡ taken o at w go'
  same_taken (Ok set) at w go go' each = each set refl
  same_taken (Err failing) at w go go' each = refl

  pub upcall_same : (crosses crosses' : Crossing) → AreSame program plan driven crosses crosses' → (f : ℕ) (func : Func) (args : List Wire) (depth : ℕ) (K : Knowledge) (w : World) → K.uses ≡ u → Holds program K w → IsCalled program K f func args → AreCurrent (is_live w.memory) args
      → (body : Body) → e.user.own f ≡ Some body → upcall e (free e) crosses f args depth w ≡ upcall_strictly e crosses' f args depth w
  unfolding upcall
  upcall_same crosses crosses' calls f func args depth K w same h c current body own =
      same_taken (visible program (touched_by plan f) w.memory [] (entry_roots program f args)) (record { func = f; stmt = 0 }) w (λ set. entered e (free e) crosses f args depth set w) (λ set. entered_strictly e crosses' f args depth set w)
      (λ set is. let order = order_kept_around.opens program (touched_by plan f) [] (entry_roots program f args) set w is (in_order program K w h) in
      let open_now : Holds program K (opened set w) = record { memory = h.memory; births = h.births; low = h.low; views = order.live; device = h.device; handler = h.handler } in
      ap closing
      (code_alive program driven.sound u (serves e (free e) f) (downcall e (free e) f crosses) meets_user e.user (ends_user crosses crosses' calls f) may_touch (suc depth + 256) func.result (asks e f) (goes_down e f crosses') meets_user (alive crosses crosses' calls f) K (opened set w)
      (started e.user (suc w.clock.rest) f args depth Tree.Idle) same open_now
      (start_fair program driven.sound u e.user (driver program plan driven).user K (opened set w) same open_now f func args depth c body own (suc w.clock.rest))
      (scoped_trees_are_current program driven.sound driven.scoped e.user (driver program plan driven).user.bodies (suc w.clock.rest) f (is_live w.memory) args depth (knows program K w h (next_serial w) [] tt) current Tree.Idle)))

  -- ---- calls back

  -- what kernel code may call has a body in the user half
  user_body : (f : ℕ) (func : Func) → slice_get program.funcs f ≡ Some func → e.kernel.own f ≡ None → (body : Body) × (e.user.own f ≡ Some body)
  user_body f func names none = of (is_user plan f) refl where
    of : (b : Bool) → is_user plan f ≡ b → (body : Body) × (e.user.own f ≡ Some body)
    of true is = (programs_are_drivers.halves program driven.bodies plan).user f func names is
    of false is = let owned = (programs_are_drivers.halves program driven.bodies plan).kernel f func names is in no_body program plan driven owned.0 (sym none ∙ owned.1)

  closing_current : (r : Ran Wire) → ResultCurrent r → ResultCurrent (closing r)
  closing_current (Ended v w) h = h
  closing_current (Stopped kind at w) h = tt

  up_current : (o : Result (List Cell) Failing) (at : At) (w : World) (go : List Cell → Ran Wire) → ((set : List Cell) → ResultCurrent (go set)) → ResultCurrent (taken o at w go)
  up_current (Ok set) at w go each = each set
  up_current (Err failing) at w go each = tt

  chosen_current : (b : Bool) (kind : StopKind) (at : Option At) (w : World) (r : Ran Wire) → ResultCurrent r → ResultCurrent (chosen b (Stopped kind at w) r)
  chosen_current true kind at w r h = tt
  chosen_current false kind at w r h = h

  back_current : (room : ℕ) (at : At) (f : ℕ) (args : List Wire) (depth : ℕ) (w : World) → ResultCurrent (calls_back e (free e) room at f args depth w)
  unfolding calls_back upcall
  back_current zero at f args depth w = tt
  back_current (suc room) at f args depth w =
      chosen_current (is_atomic w) _ _ w _
      (up_current _ _ w _ (λ set. closing_current _ (run_current (in_user e (free e) f (calls_back e (free e) room)) meets_user (started e.user (suc w.clock.rest) f (map (normal w.memory) args) depth Tree.Idle) (opened set w))))

  pub backs_same : (room : ℕ) → AreSame program plan driven (calls_back e (free e) room) (goes_up e room)
  unfolding calls_back goes_up
  backs_same zero = record {
    held = calls_back e (held e) zero;
    leads = backs_lead e zero;
    across = back_leaves e u (driver program plan driven) zero;
    same = λ K w same h at f func args depth c current none. refl;
    result = λ at f args depth w v w' q. subst ResultCurrent q (back_current zero at f args depth w);
  }
  backs_same (suc room) = record {
    held = calls_back e (held e) (suc room);
    leads = backs_lead e (suc room);
    across = back_leaves e u (driver program plan driven) (suc room);
    same = λ K w same h at f func args depth c current none.
        let owned = user_body f func c.names none in
        ap (λ (r : Ran Wire). chosen (is_atomic w) (Stopped stop.Atomic (Some at) w) r)
        (upcall_same (calls_back e (free e) room) (goes_up e room) (backs_same room) f func (now w args) depth K w same h (record { names = c.names; fit = all_now program K w.memory args (map (λ (p : Param). p.ty) func.params) c.fit }) (normals_current w.memory args) owned.0 owned.1
        ∙ unless_none (is_any_gone w.memory args) (Some at) w _ (none_gone w.memory args current));
    result = λ at f args depth w v w' q. subst ResultCurrent q (back_current (suc room) at f args depth w);
  }
