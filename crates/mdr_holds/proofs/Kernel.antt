-- What code of the kernel half leaves, with interrupts taken or not.
use Rattle.std.proofs.Common.{◌≡◌, ℕ, suc, ◌+◌, false, List, [], ◌∷◌, map, Option, Some, None, refl, sym, subst, arith}
use Rattle.mdr_core.specs.declared.program.Func.{Func}
use Rattle.mdr_core.specs.declared.program.Param.{Param}
use Rattle.mdr_core.specs.declared.program.Program.{Program}
use Rattle.mdr_core.specs.declared.stop.StopKind.TheVariants as stop
use Rattle.mdr_core.specs.declared.types.Ty.{Ty}
use Rattle.mdr_core.specs.declared.types.Ty.TheVariants.{Void}
use Rattle.mdr_core.specs.Sound.{IsSound}
use Rattle.mdr_meaning.specs.declared.wire.Wire.{Wire}
use Rattle.mdr_meaning.specs.declared.wire.Wire.TheVariants as wire
use Rattle.mdr_meaning.specs.Bodies.{means, started}
use Rattle.mdr_meaning.specs.Calls.{goes_to}
use Rattle.mdr_meaning.specs.Fair.{AllFit, FairTo}
use Rattle.mdr_meaning.specs.Fit.{Knowledge}
use Rattle.mdr_meaning.specs.Sides.{Body, Side}
use Rattle.mdr_meaning.specs.Tree.{Tree}
use Rattle.mdr_meaning.specs.Within.{IsWithin, Uses}
use Rattle.mdr_meaning.proofs.FairLaws.{trees_are_fair_to}
use Rattle.mdr_plain.specs.Gate.{Gate, due}
use Rattle.mdr_plain.specs.Plain.{never}
use Rattle.mdr_plain.specs.Running.{Before, Crossing, all_cells, call, handled, handling, in_kernel, interrupted, interrupts, nothing, run}
use Rattle.mdr_plain.specs.Services.{served}
use Rattle.mdr_plain.specs.Storage.{next_serial}
use Rattle.mdr_plain.specs.World.{World, done}
use Rattle.mdr_plain.proofs.RunLaws.{interrupts_are_gated}
use Rattle.mdr_watched.specs.Watched.{may_not}
use Rattle.mdr_holds.specs.Holding.{Holds, IsHandler}
use Rattle.mdr_holds.specs.Laws.{CallsAcross, Cross, IsAround, IsCalled, IsCode, KernelCodeLeaves, Try, code_with}
use Rattle.mdr_holds.specs.Leaving.{GivesResult, IsAsBefore, Later, Leads, Returns, ended, stopped}
use Rattle.mdr_holds.proofs.Fitting.{result_now}
use Rattle.mdr_holds.proofs.Leading.{after_leads, later_leads}
use Rattle.mdr_holds.proofs.Memories.{globals_known}
use Rattle.mdr_holds.proofs.Running.{code_leaves}
use Rattle.mdr_holds.proofs.Serving.{services_serve}
use Rattle.mdr_holds.proofs.Steps.{kept_later, later_on, later_same}
use Rattle.mdr_holds.proofs.Views.{called_views}

-- ---- started functions

-- a function with a body is started as a fair tree
pub start_fair : (program : Program) → IsSound program → (uses : Uses) (side : Side) → IsCode program uses side → (K : Knowledge) (w : World) → K.uses ≡ uses → Holds program K w → (f : ℕ) (func : Func) (args : List Wire) (depth : ℕ) → IsCalled program K f func args
    → (body : Body) → side.own f ≡ Some body → (n : ℕ) → FairTo (suc depth + 256) program side func.result K [] (started side n f args depth Tree.Idle)
start_fair program sound uses side code K w same h f func args depth c body own n =
    trees_are_fair_to program sound side code.bodies (suc depth + 256) (omega arith) n f func K args depth
    (record {
      globals = globals_known program K w.memory h.memory;
      within = subst (IsWithin program side) (sym same) code.within;
      names = c.names;
      body = body;
      own = own;
      fit = c.fit;
      limited = omega arith;
    })
    Tree.Idle

-- one without a body is not entered
abbrev pub goes : Side → ℕ → ℕ → List Wire → ℕ → Option Body → Tree
goes side n f args depth o = goes_to side (means side n) (record { func = f; depth = depth; slots = []; result = Void }) (record { func = f; stmt = 0 }) f args o (λ v. Tree.Done v Tree.Idle)

goes_unentered : (program : Program) (side : Side) (crosses : Crossing) (before : Before) (K : Knowledge) (w : World) (result : Ty) (n f : ℕ) (args : List Wire) (depth : ℕ) → side.own f ≡ None
    → Returns program (next_serial w) result K w (run (in_kernel program crosses) before (goes side n f args depth None) w)
    → Returns program (next_serial w) result K w (run (in_kernel program crosses) before (started side n f args depth Tree.Idle) w)
unfolding started
goes_unentered program side crosses before K w result n f args depth e h = subst (λ (o : Option Body). Returns program (next_serial w) result K w (run (in_kernel program crosses) before (goes side n f args depth o) w)) (sym e) h

-- ---- calls of the other half

pub never_across : (program : Program) (uses : Uses) → CallsAcross program uses never
never_across program uses K w same h at f args depth func c = ended K wire.NoValue w (later_same program (next_serial w) K w h) (record { fits = tt; handling = refl })

pub may_not_across : (program : Program) (uses : Uses) → CallsAcross program uses may_not
may_not_across program uses K w same h at f args depth func c = stopped K stop.Atomic (Some at) w (later_same program (next_serial w) K w h)

crossed : (program : Program) (uses : Uses) (crosses : Crossing) → CallsAcross program uses crosses → Cross program uses crosses
crossed program uses crosses across K w same h at f args depth func c = across K w same h at f args depth func (record { names = c.names; fit = c.fit })

-- ---- kernel code

no_try : (program : Program) (uses : Uses) → Try program uses nothing
no_try program uses K w same h depth = ended K tt w (later_same program (next_serial w) K w h) refl

module _ (program : Program) (sound : IsSound program) (uses : Uses) (crosses : Crossing) (across : CallsAcross program uses crosses) where
  pub around_code : (before : Before) → Try program uses before → IsAround program uses (served program) crosses before
  around_code before tries = record { serve = services_serve program sound uses; cross = crossed program uses crosses across; tries = tries }

  alone : IsAround program uses (served program) crosses nothing
  alone = around_code nothing (no_try program uses)

module _ (program : Program) (sound : IsSound program) (uses : Uses) (side : Side) (code : IsCode program uses side) where
  module _ (crosses : Crossing) (across : CallsAcross program uses crosses) (before : Before) (tries : Try program uses before) where
    -- a function of the other half is called there
    not_entered : (K : Knowledge) (w : World) → K.uses ≡ uses → Holds program K w → (n f : ℕ) (func : Func) (args : List Wire) (depth : ℕ) → IsCalled program K f func args
        → Returns program (next_serial w) func.result K w (run (in_kernel program crosses) before (goes side n f args depth None) w)
    unfolding run
    not_entered K w same h n f func args depth c =
        after_leads program (next_serial w) K w (GivesResult program func.result w) (GivesResult program func.result w) (crosses (record { func = f; stmt = 0 }) f args depth w)
        (across K w same h (record { func = f; stmt = 0 }) f args depth func c) _ (λ K' v w' l g. ended K' _ w' l (record { fits = result_now program K' w'.memory func.result v g.fits; handling = g.handling }))

    pub called : (K : Knowledge) (w : World) → K.uses ≡ uses → Holds program K w → (f : ℕ) (func : Func) (args : List Wire) (depth : ℕ) → IsCalled program K f func args
        → Returns program (next_serial w) func.result K w (call (code_with program side crosses) before f args depth w)
    unfolding call
    called K w same h f func args depth c = by_body (side.own f) refl where
      by_body : (o : Option Body) → side.own f ≡ o → Returns program (next_serial w) func.result K w (run (in_kernel program crosses) before (started side (suc w.clock.rest) f args depth Tree.Idle) w)
      by_body None e = goes_unentered program side crosses before K w func.result (suc w.clock.rest) f args depth e (not_entered K w same h (suc w.clock.rest) f func args depth c)
      by_body (Some body) e =
          code_leaves program sound uses (served program) crosses before (around_code program sound uses crosses across before tries) all_cells (suc depth + 256) side func.result K w (next_serial w) [] (started side (suc w.clock.rest) f args depth Tree.Idle) same h
          (omega arith) tt (start_fair program sound uses side code K w same h f func args depth c body e (suc w.clock.rest))

  -- ---- interrupts

  no_params : (func : Func) → func.result ∷ map (λ (p : Param). p.ty) func.params ≡ Void ∷ [] → map (λ (p : Param). p.ty) func.params ≡ []
  no_params func e = cc

  handler_called : (K : Knowledge) (f : ℕ) → (x : IsHandler program K.uses f) → IsCalled program K f x.func []
  handler_called K f x = record { names = x.names; fit = subst (AllFit program K []) (sym (no_params x.func x.types)) tt }

  module _ (handlers : Crossing) (across : CallsAcross program uses handlers) where
    handled_leaves : (K : Knowledge) (w : World) → K.uses ≡ uses → Holds program K w → (depth f : ℕ) → due w ≡ Some f
        → Leads (Later program (next_serial w) K w) (λ K' x w'. IsAsBefore w w') (handled (code_with program side handlers) depth (Some f) w)
    handled_leaves K w same h depth f e =
        let gate : Gate w f = (interrupts_are_gated w f).0 e in
        let x : IsHandler program K.uses f = h.handler f gate.registered in
        let one : Later program (next_serial w) K w K (interrupted f w) = kept_later program (next_serial w) K w _ h refl h.handler in
        let ran = call (code_with program side handlers) nothing f [] depth (interrupted f w) in
        after_leads program (next_serial w) K w (λ K' v w'. Unit {0}) (λ K' x w'. IsAsBefore w w') ran
        (later_leads program (next_serial w) K w (GivesResult program x.func.result (interrupted f w)) (λ K' v w'. Unit {0}) K (interrupted f w) one (next_serial w) (omega arith) ran
        (called handlers across nothing (no_try program uses) K (interrupted f w) same one.holds f x.func [] depth (handler_called K f x)) (λ K' v w' l g. tt)) (λ v w'. done (handling false w'))
        (λ K' v w' l g. ended K' tt (handling false w') (later_on program (next_serial w) K K' K' w w' (handling false w') l (kept_later program (next_serial w) K' w' _ l.holds refl l.holds.handler)) (sym gate.idle))

    pub tried : Try program uses (interrupts (code_with program side handlers))
    unfolding interrupts
    tried K w same h depth = by_due (due w) refl where
      by_due : (o : Option ℕ) → due w ≡ o → Leads (Later program (next_serial w) K w) (λ K' x w'. IsAsBefore w w') (handled (code_with program side handlers) depth o w)
      by_due None e = ended K tt w (later_same program (next_serial w) K w h) refl
      by_due (Some f) e = handled_leaves K w same h depth f e

    pub with_interrupts : (crosses : Crossing) → CallsAcross program uses crosses → IsAround program uses (served program) crosses (interrupts (code_with program side handlers))
    with_interrupts crosses across' = around_code program sound uses crosses across' (interrupts (code_with program side handlers)) tried

pub kernel_code_leaves : KernelCodeLeaves
kernel_code_leaves = record {
  never = never_across;
  may_not = may_not_across;
  alone = alone;
  interrupted = λ program sound uses side code handlers crosses across across'. with_interrupts program sound uses side code handlers across crosses across';
  called = called;
  views = called_views;
}
