-- What the commands of a script leave.
use Rattle.std.proofs.Common.{◌≡◌, ℕ, zero, suc, ◌+◌, ◌≤◌, Bool, true, false, List, [], ◌∷◌, map, None, refl, sym, ◌∙◌, subst}
use Rattle.mdr_core.specs.declared.program.Func.{Func}
use Rattle.mdr_core.specs.declared.program.Program.{Program}
use Rattle.mdr_core.specs.declared.stop.StopKind.TheVariants as stop
use Rattle.mdr_core.specs.declared.types.Ty.{Ty}
use Rattle.mdr_core.specs.Sound.{IsSound}
use Rattle.mdr_meaning.specs.declared.wire.Wire.{Wire}
use Rattle.mdr_meaning.specs.Fit.{Knowledge}
use Rattle.mdr_meaning.specs.Sides.{Side}
use Rattle.mdr_meaning.specs.Values.{wire_of}
use Rattle.mdr_meaning.specs.Within.{Uses}
use Rattle.mdr_model.specs.declared.command.Command.{Command}
use Rattle.mdr_model.specs.declared.command.Command.TheVariants as command
use Rattle.mdr_model.specs.Values.{value_of}
use Rattle.mdr_model.specs.declared.memory.Cell.{Cell}
use Rattle.mdr_plain.specs.declared.outcome.Happened.TheVariants as happened
use Rattle.mdr_plain.specs.Running.{Before, Crossing, KernelCode, interrupts}
use Rattle.mdr_plain.specs.Scripts.{Beginning, Did, Enters, Finish, Opens, and_then, begin, begun, called_by, commands, idle, in_place, poked_memory, returned, showed}
use Rattle.mdr_plain.specs.Storage.{next_serial, with_memory}
use Rattle.mdr_plain.specs.World.{Ran, Work, World, advanced, counted, noted, then}
use Rattle.mdr_holds.specs.Holding.{Holds}
use Rattle.mdr_holds.specs.Laws.{AreCommands, BeginsRight, CallsAcross, IsCalled, IsCode, IsCommand, Try, code_with, noted_command}
use Rattle.mdr_holds.specs.Leaving.{GivesResult, IsAsBefore, Later, Leads, Returns, ended, stopped}
use Rattle.mdr_holds.proofs.Kernel.{tried}
use Rattle.mdr_holds.proofs.Leading.{after_leads, later_leads, then_leads}
use Rattle.mdr_holds.proofs.Memories.{globals_known}
use Rattle.mdr_holds.proofs.Poking.{poked_later}
use Rattle.mdr_holds.proofs.Steps.{kept_holds, kept_later, later_on, later_same, tick_later}

-- ---- the state in which a command begins

pub noted_holds : (program : Program) (K : Knowledge) (w : World) (c : Command) → Holds program K w → Holds program K (noted_command program c w)
noted_holds program K w (command.Call f args) h = kept_holds program K (record w { kept = record w.kept { calls = w.kept.calls + 1 } }) _ (kept_holds program K w (record w.kept { calls = w.kept.calls + 1 }) h h.handler) h.handler
noted_holds program K w (command.Idle n) h = kept_holds program K w _ h h.handler
noted_holds program K w (command.Show g) h = kept_holds program K w _ h h.handler
noted_holds program K w (command.Poke serial index n) h = h
noted_holds program K w (command.Say text) h = kept_holds program K w _ h h.handler

module _ (program : Program) (sound : IsSound program) (uses : Uses) (side : Side) (code : IsCode program uses side) (handlers : Crossing) (across : CallsAcross program uses handlers) where
  -- code of handlers
  abbrev kernel : KernelCode
  kernel = code_with program side handlers

  abbrev before : Before
  before = interrupts kernel

  tries : Try program uses before
  tries = tried program sound uses side code handlers across

  module _ (K0 : Knowledge) (first : World) (same : K0.uses ≡ uses) where
    abbrev Left : Knowledge → World → Type 0
    Left = Later program (next_serial first) K0 first

    abbrev Unhandled : Knowledge → Unit {0} → World → Type 0
    Unhandled K x w = IsAsBefore first w

    early : (K : Knowledge) (w : World) → Left K w → next_serial first ≤ next_serial w
    early K w l = l.follows.later

    uses_are : (K : Knowledge) (w : World) → Left K w → K.uses ≡ uses
    uses_are K w l = l.grows.same ∙ same

    -- the interrupt rule is tried where no function is active
    tries_once : (K : Knowledge) (w : World) → Left K w → IsAsBefore first w → Leads Left Unhandled (before 0 w)
    tries_once K w l handling =
        later_leads program (next_serial first) K0 first (λ K' x w'. IsAsBefore w w') Unhandled K w l (next_serial w) (early K w l) (before 0 w) (tries K w (uses_are K w l) l.holds 0) (λ K' x w' m g. g ∙ handling)

    -- a call's result is noted
    pub returned_leads : (result : Ty) (ran : Ran Wire) → Leads Left (GivesResult program result first) ran → Leads Left Unhandled (returned before ran)
    returned_leads result ran r =
        after_leads program (next_serial first) K0 first (GivesResult program result first) Unhandled ran r _
        (λ K v w l g. tries_once K (noted (happened.Ret (value_of v)) w)
        (later_on program (next_serial first) K0 K K first w (noted (happened.Ret (value_of v)) w) l (kept_later program (next_serial first) K w _ l.holds refl l.holds.handler)) g.handling)

    -- ---- ticks in which no code runs

    counted_leads : (K : Knowledge) (w : World) → Left K w → IsAsBefore first w → (rest : ℕ) → w.clock.rest ≡ rest → (go : World → Work) → ((w' : World) → Left K w' → IsAsBefore first w' → Leads Left Unhandled (go w')) → Leads Left Unhandled (counted rest None w go)
    counted_leads K w l handling zero e go each = stopped K stop.Ticks None w l
    counted_leads K w l handling (suc n) e go each =
        each (record w { clock = advanced 1 w.clock }) (later_on program (next_serial first) K0 K K first w (record w { clock = advanced 1 w.clock }) l (tick_later program (next_serial first) K w n l.holds e)) handling

    idle_leads : (n : ℕ) (K : Knowledge) (w : World) → Left K w → IsAsBefore first w → Leads Left Unhandled (idle before n w)
    unfolding idle
    idle_leads zero K w l handling = ended K tt w l handling
    idle_leads (suc n) K w l handling =
        then_leads program (next_serial first) K0 first Unhandled Unhandled (before 0 w) (tries_once K w l handling) _
        (λ K' w' l' handling'. counted_leads K' w' l' handling' w'.clock.rest refl _ (λ w'' l'' h''. idle_leads n K' w'' l'' h''))

    idled_leads : (n : ℕ) → Holds program K0 first → Leads Left Unhandled (then (idle before n first) (before 0))
    idled_leads n h = then_leads program (next_serial first) K0 first Unhandled Unhandled (idle before n first) (idle_leads n K0 first (later_same program (next_serial first) K0 first h) refl) (before 0) (λ K w l handling. tries_once K w l handling)

    -- ---- calls

    call_right : (h : Holds program K0 first) (f : ℕ) (func : Func) (args : List Wire) → IsCalled program K0 f func args → (user : Bool) → BeginsRight program K0 first (called_by user kernel f args first)
    call_right h f func args c true = (func, c, refl)
    call_right h f func args c false = (func, c, refl)

  -- ---- commands

  pub begins_right : (is_user : ℕ → Bool) (K : Knowledge) (w : World) → K.uses ≡ uses → Holds program K w → (c : Command) → IsCommand program c → BeginsRight program K (noted_command program c w) (begin kernel is_user c w)
  unfolding begin
  begins_right is_user K w same h (command.Call f args) c =
      let holds : Holds program K (begun program f args w) = noted_holds program K w (command.Call f args) h in
      call_right K (begun program f args w) same holds f c.0 (map wire_of args) (record { names = c.1; fit = c.2 K (globals_known program K w.memory h.memory) }) (is_user f)
  begins_right is_user K w same h (command.Idle n) c = idled_leads K (noted (happened.Idle n) w) same n (noted_holds program K w (command.Idle n) h)
  begins_right is_user K w same h (command.Show g) c = ended K tt (showed program g w) (later_same program _ K (showed program g w) (noted_holds program K w (command.Show g) h)) refl
  begins_right is_user K w same h (command.Poke serial index n) c =
      let at : Cell = record { serial = serial; index = index } in
      ended K tt (with_memory w (poked_memory at n w.memory)) (poked_later program (next_serial w) K w h at n) refl
  begins_right is_user K w same h (command.Say text) c =
      ended K tt (noted (happened.Say text) w) (later_same program _ K (noted (happened.Say text) w) (noted_holds program K w (command.Say text) h)) refl

  -- where functions of the kernel half are called by this, and those of the user half by that
  module _ (is_user : ℕ → Bool) (enters up : (func : ℕ) (args : List Wire) → World → Ran Wire)
      (enters_leave : (K : Knowledge) (w : World) → K.uses ≡ uses → Holds program K w → (f : ℕ) (func : Func) (args : List Wire) → IsCalled program K f func args → Returns program (next_serial w) func.result K w (enters f args w))
      (up_leaves : (K : Knowledge) (w : World) → K.uses ≡ uses → Holds program K w → (f : ℕ) (func : Func) (args : List Wire) → IsCalled program K f func args → Returns program (next_serial w) func.result K w (up f args w)) where
    in_place_leads : (K : Knowledge) (w : World) → K.uses ≡ uses → Holds program K w → (b : Beginning) → BeginsRight program K w b → Leads (Later program (next_serial w) K w) (λ K' x w'. IsAsBefore w w') (in_place kernel enters up b)
    in_place_leads K w same h (Did work) r = r
    in_place_leads K w same h (Enters f args w') r =
        subst (λ (x : World). Leads (Later program (next_serial w) K w) (λ K' y w2. IsAsBefore w w2) (returned before (enters f args x))) (sym r.2)
        (returned_leads K w same r.0.result (enters f args w) (enters_leave K w same h f r.0 args r.1))
    in_place_leads K w same h (Opens f args w') r =
        subst (λ (x : World). Leads (Later program (next_serial w) K w) (λ K' y w2. IsAsBefore w w2) (returned before (up f args x))) (sym r.2)
        (returned_leads K w same r.0.result (up f args w) (up_leaves K w same h f r.0 args r.1))

    pub does_leads : (K : Knowledge) (w : World) → K.uses ≡ uses → Holds program K w → (c : Command) → IsCommand program c
        → Leads (Later program (next_serial (noted_command program c w)) K (noted_command program c w)) (λ K' x w'. IsAsBefore (noted_command program c w) w') (in_place kernel enters up (begin kernel is_user c w))
    does_leads K w same h c r = in_place_leads K (noted_command program c w) same (noted_holds program K w c h) _ (begins_right is_user K w same h c r)

    -- ---- scripts

    abbrev does : Command → World → Work
    does c w = in_place kernel enters up (begin kernel is_user c w)

    abbrev HoldsLast : Finish → Type 0
    HoldsLast f = (K : Knowledge) × Holds program K f.world

    goes_last : (K : Knowledge) (w : World) → K.uses ≡ uses → (r : Work) → Leads (Later program (next_serial w) K w) (λ K' x w'. IsAsBefore w w') r → (go : World → Finish) → ((K' : Knowledge) (w' : World) → K'.uses ≡ uses → Holds program K' w' → HoldsLast (go w')) → HoldsLast (and_then r go)
    goes_last K w same _ (ended K' x w' l g) go each = each K' w' (l.grows.same ∙ same) l.holds
    goes_last K w same _ (stopped K' kind at w' l) go each = (K', l.holds)

    pub commands_hold : (cs : List Command) (K : Knowledge) (w : World) → K.uses ≡ uses → Holds program K w → AreCommands program cs → HoldsLast (commands does cs w)
    unfolding commands
    commands_hold [] K w same h r = (K, h)
    commands_hold (c ∷ cs) K w same h r = goes_last K (noted_command program c w) same (does c w) (does_leads K w same h c r.0) _ (λ K' w' same' h'. commands_hold cs K' w' same' h' r.1)
