-- Code of the kernel half does the same where the run would end with what is passed on dead, if its calls of user code do.
use Rattle.std.proofs.Common.{◌≡◌, inr, ℕ, suc, ◌+◌, Bool, true, false, not, List, [], ◌∷◌, map, slice_get, Option, Some, None, refl, sym, ap, ◌∙◌, subst}
use Rattle.mdr_callees.specs.Callees.{uses_by}
use Rattle.mdr_core.specs.declared.place.At.{At}
use Rattle.mdr_core.specs.declared.plan.Half.{Half}
use Rattle.mdr_core.specs.declared.plan.Half.TheVariants.{Kernel}
use Rattle.mdr_core.specs.declared.plan.Plan.{Plan}
use Rattle.mdr_core.specs.declared.program.Func.{Func}
use Rattle.mdr_core.specs.declared.program.Param.{Param}
use Rattle.mdr_core.specs.declared.program.Program.{Program}
use Rattle.mdr_core.specs.declared.stop.StopKind.{StopKind}
use Rattle.mdr_core.specs.declared.types.Ty.TheVariants.{Void}
use Rattle.mdr_core.specs.Layout.{chosen}
use Rattle.mdr_meaning.specs.declared.wire.Wire.{Wire}
use Rattle.mdr_meaning.specs.Bodies.{body_of, started, user_side}
use Rattle.mdr_meaning.specs.Fair.{AllFit}
use Rattle.mdr_meaning.specs.Fit.{Knowledge}
use Rattle.mdr_meaning.specs.Sides.{Body, Side}
use Rattle.mdr_meaning.specs.Tree.{Asked, Tree}
use Rattle.mdr_meaning.specs.Within.{Uses}
use Rattle.mdr_model.specs.Memory.{is_live}
use Rattle.mdr_paths.specs.Chains.{Begin}
use Rattle.mdr_plain.specs.Gate.{Gate, are_none, due}
use Rattle.mdr_plain.specs.Running.{Before, Crossing, all_cells, call, handled, handling, in_kernel, interrupted, interrupts, nothing, run}
use Rattle.mdr_plain.specs.Services.{served}
use Rattle.mdr_plain.specs.Storage.{next_serial}
use Rattle.mdr_plain.specs.World.{Ended, Ran, Stopped, Work, World, after, done}
use Rattle.mdr_plain.proofs.RunLaws.{interrupts_are_gated}
use Rattle.mdr_slice.specs.declared.halves.Halves.{Halves}
use Rattle.mdr_watched.specs.Driver.{Driver, driver_of, is_user, is_user_half}
use Rattle.mdr_watched.specs.Kept.{due_plainly, meets_none, unless_due}
use Rattle.mdr_watched.specs.Watched.{kernel_of, kernel_with, may_not}
use Rattle.mdr_watched.proofs.KeptProofs.{CrossesLead, tries_lead}
use Rattle.mdr_holds.specs.Holding.{Holds, IsHandler}
use Rattle.mdr_holds.specs.Laws.{CallsAcross, IsAround, IsCalled, IsDriver}
use Rattle.mdr_holds.specs.Leaving.{GivesResult, Later}
use Rattle.mdr_holds.proofs.Drivers.{programs_are_drivers}
use Rattle.mdr_holds.proofs.Kernel.{kernel_code_leaves, may_not_across, start_fair, with_interrupts}
use Rattle.mdr_holds.proofs.Steps.{kept_later}
use Rattle.mdr_kept.specs.Current.{AreCurrent, IsCurrent}
use Rattle.mdr_kept.proofs.TreeLaws.{scoped_trees_are_current}
use Rattle.mdr_kept.specs.Strict.{call_alive, handled_alive, run_alive, tries}
use Rattle.mdr_kept.specs.ReportLaws.{IsDriven}
use Rattle.mdr_kept.proofs.AliveLaws.{AreAliveAround, EndsAround, Reaches, code_alive, reaches}
use Rattle.mdr_kept.proofs.CallLaws.{AnswersCurrent, LeavesWithout, served_current, served_left}
use Rattle.mdr_kept.proofs.Graphs.{graph_is, graph_of}
use Rattle.mdr_kept.proofs.LiveLaws.{knows}

-- what leaves states that hold leaves such states where it ends
pub as_ends : (program : Program) (uses : Uses) (side : Side) (serves : Asked → World → Ran (List Wire)) (crosses : Crossing) (before : Before) → IsAround program uses serves crosses before → EndsAround program uses side serves crosses before
as_ends program uses side serves crosses before around = record {
  serve = λ K w same h from live remains a s early objects names ask parts rs w' e. reaches _ _ (serves a w) (around.serve K w same h from live remains a s early objects names ask parts) rs w' e;
  cross = λ K w same h at f args depth func place none c v w' e.
      let r : Reaches (Later program (next_serial w) K w) (GivesResult program func.result w) v w' = reaches _ _ (crosses at f args depth w) (around.cross K w same h at f args depth func c) v w' e in
      record { known = r.known; left = r.left; gives = r.gives.fits };
  tries = λ K w same h depth x w' e.
      let r = reaches (Later program (next_serial w) K w) _ (before depth w) (around.tries K w same h depth) x w' e in
      record { known = r.known; left = r.left; gives = tt };
}

no_params : (func : Func) → func.result ∷ map (λ (p : Param). p.ty) func.params ≡ Void ∷ [] → map (λ (p : Param). p.ty) func.params ≡ []
no_params func e = cc

handler_called : (program : Program) (K : Knowledge) (f : ℕ) → (x : IsHandler program K.uses f) → IsCalled program K f x.func []
handler_called program K f x = record { names = x.names; fit = subst (AllFit program K []) (sym (no_params x.func x.types)) tt }

module _ (program : Program) (plan : Plan) (driven : IsDriven program plan) where
  abbrev pub d : Driver
  d = driver_of program plan

  abbrev pub uses : Uses
  uses = uses_by program (graph_of program true)

  abbrev halves : Halves
  halves = driven.sliced.halves

  pub driver : IsDriver d uses
  driver = programs_are_drivers.driver program driven.sound plan (graph_of program true) (graph_is program true)

  -- ---- which functions have bodies where

  pub no_body : {X : Type 0} (body : Body) → ◌≡◌ {A = Option Body} None (Some body) → X
  no_body body e = absurd cc

  -- each function without a body in the user half has one here
  entered : {X : Type 0} (f : ℕ) (func : Func) → slice_get program.funcs f ≡ Some func → d.user.own f ≡ None → d.kernel.own f ≡ None → X
  entered f func names none e = let owned = (programs_are_drivers.halves program driven.bodies plan).across f func names none in no_body owned.0 (sym e ∙ owned.1)

  -- one that is not of the user half has no body there
  pub no_user_body : (f : ℕ) → is_user plan f ≡ false → d.user.own f ≡ None
  unfolding user_side
  no_user_body f e = ap (λ (b : Bool). chosen (not b) None (body_of program f)) e

  kernel_apart : (f : ℕ) → slice_get halves.halves f ≡ Some Kernel → d.user.own f ≡ None
  kernel_apart f e = no_user_body f (ap (λ (hs : List Half). is_user_half (slice_get hs f)) driven.sliced.halves_are ∙ ap is_user_half e)

  handler_apart : (K : Knowledge) → K.uses ≡ uses → (f : ℕ) → IsHandler program K.uses f → d.user.own f ≡ None
  handler_apart K same f x =
      let handles : uses.handles f ≡ true = sym (ap (λ (u : Uses). u.handles f) same) ∙ x.handles in
      let root = (driven.sliced.are_roots.exact f).1 (record { func = x.func; names = x.names; why = inr handles }) in
      kernel_apart f ((driven.sliced.are_halves.kernel f).1 (Begin f root))

  -- ---- calls of user code

  -- kernel code calls user code so in a followed run, and so in a strict one: both do the same, and leave what such calls leave in a run that holds interrupts back
  pub record AreSame (crosses crosses' : Crossing) : Type 0 where
    pub held : Crossing
    pub leads : CrossesLead d crosses held
    pub across : CallsAcross program uses held
    pub same : (K : Knowledge) (w : World) → K.uses ≡ uses → Holds program K w → (at : At) (f : ℕ) (func : Func) (args : List Wire) (depth : ℕ) → IsCalled program K f func args → AreCurrent (is_live w.memory) args → d.kernel.own f ≡ None
        → crosses at f args depth w ≡ crosses' at f args depth w
    pub result : (at : At) (f : ℕ) (args : List Wire) (depth : ℕ) (w : World) (v : Wire) (w' : World) → crosses at f args depth w ≡ Ended v w' → IsCurrent (is_live w'.memory) v

  no_end : {X : Type 0} (kind : StopKind) (at : Option At) (w w' : World) (v : Wire) → ◌≡◌ {A = Ran Wire} (Stopped kind at w) (Ended v w') → X
  no_end kind at w w' v e = absurd cc

  -- handlers call none
  none_same : AreSame may_not may_not
  none_same = record {
    held = may_not;
    leads = λ at f args depth w. record { by = λ v w' e. e };
    across = may_not_across program uses;
    same = λ K w same h at f func args depth c current none. refl;
    result = λ at f args depth w v w' e. no_end _ _ w w' v e;
  }

  -- ---- what kernel code does

  module _ (crosses crosses' : Crossing) (calls : AreSame crosses crosses') where
    around_kernel : (before : Before) → IsAround program uses (served program) may_not before → EndsAround program uses d.kernel (served program) crosses before
    around_kernel before around =
        let there = as_ends program uses d.kernel (served program) may_not before around in
        record {
          serve = there.serve;
          cross = λ K w same h at f args depth func place none c v w' e.
              let r : Reaches (Later program (next_serial w) K w) (GivesResult program func.result w) v w' =
              reaches _ _ (calls.held at f args depth w) (calls.across K w same h at f args depth func (record { names = c.names; fit = c.fit })) v w' ((calls.leads at f args depth w).by v w' e) in
              record { known = r.known; left = r.left; gives = r.gives.fits };
          tries = there.tries;
        }

    module _ (before before' : Before) (ends : EndsAround program uses d.kernel (served program) crosses before) (agree : (K : Knowledge) (w : World) → K.uses ≡ uses → Holds program K w → (depth : ℕ) → before depth w ≡ before' depth w) where
      alive : AreAliveAround program uses d.kernel (served program) crosses before (served program) crosses' before'
      alive = record {
        serve = λ K w same h a c. refl;
        cross = λ K w same h at f args depth func place none call c. calls.same K w same h at f func args depth (record { names = call.names; fit = call.fit }) c none;
        tries = agree;
        served = λ a w rs w' e. subst AnswersCurrent e (served_current program a w);
        left = λ a w rs w' names c e. subst (LeavesWithout a.args w) e (served_left program a w names c);
        result = calls.result;
      }

      pub calls_same : (K : Knowledge) (w : World) → K.uses ≡ uses → Holds program K w → (f : ℕ) (func : Func) (args : List Wire) (depth : ℕ) → IsCalled program K f func args → AreCurrent (is_live w.memory) args → d.user.own f ≡ None
          → call (kernel_with d crosses) before f args depth w ≡ call_alive d crosses' before' f args depth w
      unfolding call
      calls_same K w same h f func args depth c current none = of (d.kernel.own f) refl where
        of : (o : Option Body) → d.kernel.own f ≡ o → run (in_kernel program crosses) before (started d.kernel (suc w.clock.rest) f args depth Tree.Idle) w ≡ run_alive (in_kernel program crosses') before' (started d.kernel (suc w.clock.rest) f args depth Tree.Idle) w
        of None e = entered f func c.names none e
        of (Some body) e =
            code_alive program driven.sound uses (served program) crosses before d.kernel ends all_cells (suc depth + 256) func.result (served program) crosses' before' alive K w (started d.kernel (suc w.clock.rest) f args depth Tree.Idle) same h
            (start_fair program driven.sound uses d.kernel driver.kernel K w same h f func args depth c body e (suc w.clock.rest))
            (scoped_trees_are_current program driven.sound driven.scoped d.kernel driver.kernel.bodies (suc w.clock.rest) f (is_live w.memory) args depth (knows program K w h (next_serial w) [] tt) current Tree.Idle)

  -- ---- interrupts

  handled_same : (K : Knowledge) (w : World) → K.uses ≡ uses → Holds program K w → (depth : ℕ) (o : Option ℕ) → due w ≡ o → handled (kernel_of d) depth o w ≡ handled_alive d depth o w
  handled_same K w same h depth None e = refl
  handled_same K w same h depth (Some f) e =
      let gate : Gate w f = (interrupts_are_gated w f).0 e in
      let x : IsHandler program K.uses f = h.handler f gate.registered in
      let now : Holds program K (interrupted f w) = (kept_later program (next_serial w) K w _ h refl h.handler).holds in
      ap (λ (r : Ran Wire). after r (λ v w'. done (handling false w')))
      (calls_same may_not may_not none_same nothing nothing (around_kernel may_not may_not none_same nothing (kernel_code_leaves.alone program driven.sound uses may_not (may_not_across program uses))) (λ K' u same' h' depth'. refl) K (interrupted f w) same now f x.func [] depth
      (handler_called program K f x) tt (handler_apart K same f x))

  pub interrupts_same : (K : Knowledge) (w : World) → K.uses ≡ uses → Holds program K w → (depth : ℕ) → interrupts (kernel_of d) depth w ≡ handled_alive d depth (due w) w
  unfolding interrupts
  interrupts_same K w same h depth = handled_same K w same h depth (due w) refl

  tries_same : (K : Knowledge) (w : World) → K.uses ≡ uses → Holds program K w → (depth : ℕ) → meets_none (kernel_of d) depth w ≡ tries d depth w
  tries_same K w same h depth = ap (λ (r : Work). chosen (are_none w.views) r (unless_due (due_plainly w) w)) (interrupts_same K w same h depth)

  -- what a tried interrupt leaves
  pub interrupts_reach : (K : Knowledge) (w : World) → K.uses ≡ uses → Holds program K w → (depth : ℕ) (x : Unit {0}) (w' : World) → interrupts (kernel_of d) depth w ≡ Ended x w' → Reaches (Later program (next_serial w) K w) (λ K' y u. Unit {0}) x w'
  interrupts_reach = (around_kernel may_not may_not none_same (interrupts (kernel_of d)) (with_interrupts program driven.sound uses d.kernel driver.kernel may_not (may_not_across program uses) may_not (may_not_across program uses))).tries

  module _ (crosses crosses' : Crossing) (calls : AreSame crosses crosses') where
    ends_with_tries : EndsAround program uses d.kernel (served program) crosses (meets_none (kernel_of d))
    ends_with_tries =
        let there = around_kernel crosses crosses' calls (interrupts (kernel_of d)) (with_interrupts program driven.sound uses d.kernel driver.kernel may_not (may_not_across program uses) may_not (may_not_across program uses)) in
        record {
          serve = there.serve;
          cross = there.cross;
          tries = λ K w same h depth x w' e. there.tries K w same h depth x w' ((tries_lead (kernel_of d) depth w).by x w' e);
        }

    -- a function that user code or a command calls
    pub downs_same : (K : Knowledge) (w : World) → K.uses ≡ uses → Holds program K w → (f : ℕ) (func : Func) (args : List Wire) (depth : ℕ) → IsCalled program K f func args → AreCurrent (is_live w.memory) args → d.user.own f ≡ None
        → call (kernel_with d crosses) (meets_none (kernel_of d)) f args depth w ≡ call_alive d crosses' (tries d) f args depth w
    downs_same K w same h f func args depth c current none = calls_same crosses crosses' calls (meets_none (kernel_of d)) (tries d) ends_with_tries tries_same K w same h f func args depth c current none
