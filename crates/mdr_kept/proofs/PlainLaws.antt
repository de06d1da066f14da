-- A strict run that meets no stop is the plain run, visible sets and how a lock is held set aside.
use Rattle.std.proofs.Common.{◌≡◌, ℕ, zero, suc, ◌≤◌, List, [], ◌∷◌, Option, refl, sym, ◌∙◌, ap, subst, arith, le_refl}
use Rattle.std.specs.Prelude.{map, ◌+◌, None}
use Rattle.mdr_core.specs.declared.place.At.{At}
use Rattle.mdr_core.specs.declared.plan.Plan.{Plan}
use Rattle.mdr_core.specs.declared.program.Program.{Program}
use Rattle.mdr_core.specs.declared.stop.StopKind.{StopKind}
use Rattle.mdr_core.specs.declared.value.Value.{Value}
use Rattle.mdr_meaning.specs.declared.wire.Wire.{Wire}
use Rattle.mdr_meaning.specs.declared.wire.Wire.TheVariants as wire
use Rattle.mdr_meaning.specs.Bodies.{kernel_side, whole_side}
use Rattle.mdr_meaning.specs.Values.{wire_of}
use Rattle.mdr_model.specs.declared.command.Command.{Command}
use Rattle.mdr_model.specs.declared.command.Command.TheVariants as command
use Rattle.mdr_model.specs.declared.outcome.End.TheVariants as ends
use Rattle.mdr_model.specs.declared.memory.Cell.{Cell}
use Rattle.mdr_model.specs.Memory.{Memory}
use Rattle.mdr_model.specs.Report.{global_name}
use Rattle.mdr_model.specs.Values.{value_of}
use Rattle.mdr_plain.specs.declared.outcome.Happened.TheVariants as happened
use Rattle.mdr_plain.specs.Plain.{does as does_plainly, plain_of, whole}
use Rattle.mdr_plain.specs.Running.{KernelCode, interrupts}
use Rattle.mdr_plain.specs.Scripts.{Finish, and_then, begin, begun, block_cells, commands, finish, first_world, idle, idled, poked_memory, returned, showed}
use Rattle.mdr_plain.specs.Storage.{with_memory}
use Rattle.mdr_plain.specs.World.{World, Ran, Ended, Stopped, Work, counted, noted}
use Rattle.mdr_watched.specs.Driver.{Driver, driver_of, is_user}
use Rattle.mdr_kept.specs.Alike.{plainly_finished, spun, spun_event, spun_memory, spun_value}
use Rattle.mdr_kept.specs.Laws.{StrictRunsArePlain}
use Rattle.mdr_kept.specs.Strict.{does, strict_of, tries}
use Rattle.mdr_kept.proofs.EvenLaws.{Both, Ends, Even, Leads, ended, even_memory, even_noted, even_poked, even_rest, fewer, leads_after, leads_counted, leads_then}
use Rattle.mdr_kept.proofs.HalfLaws.{called_leads, tries_lead}
use Rattle.mdr_kept.proofs.LikeLaws.{Like, Locks, Same}
use Rattle.mdr_kept.proofs.SpunLaws.{block_cells_spun}

-- ---- what events show

value_spun : (v : Wire) → spun_value (value_of v) ≡ value_of (spun v)
value_spun (wire.Ptr p) = refl
value_spun (wire.Int k n) = refl
value_spun wire.Null = refl
value_spun wire.Dead = refl
value_spun (wire.Fn f) = refl
value_spun (wire.Lock s) = refl
value_spun wire.NoValue = refl

values_spun : (vs : List Wire) → map spun_value (map value_of vs) ≡ map value_of (map spun vs)
values_spun [] = refl
values_spun (v ∷ vs) =
    let one : spun_value (value_of v) ≡ value_of (spun v) = value_spun v in
    let rest : map spun_value (map value_of vs) ≡ map value_of (map spun vs) = values_spun vs in
    λ i. one i ∷ rest i

given_like : (v v' : Wire) → Like v v' → spun_event (happened.Ret (value_of v)) ≡ spun_event (happened.Ret (value_of v'))
given_like _ _ (Same v) = refl
given_like _ _ (Locks s t e) = ap (λ (v : Wire). happened.Ret (value_of v)) (ap (λ s. wire.Lock s) e)

shown_spun : (m : Memory) (g : ℕ) → map spun_value (map value_of (block_cells m g)) ≡ map value_of (block_cells (spun_memory m) g)
shown_spun m g = values_spun (block_cells m g) ∙ ap (map value_of) (sym (block_cells_spun m g))

even_showed : (program : Program) (g : ℕ) (w w' : World) → Even w w' → Even (showed program g w) (showed program g w')
even_showed program g w w' e =
    even_noted _ _ w w' (ap (λ (vs : List Value). happened.Show (global_name program g) vs)
    (shown_spun w.memory g ∙ ap (λ (m : Memory). map value_of (block_cells m g)) (even_memory w w' e) ∙ sym (shown_spun w'.memory g))) e

even_begun : (program : Program) (f : ℕ) (args : List Value) (w w' : World) → Even w w' → Even (begun program f args w) (begun program f args w')
even_begun program f args w w' e = even_noted _ _ _ _ refl (record { is = ap (λ (u : World). record u { kept = record u.kept { calls = u.kept.calls + 1 } }) e.is; alone = e.alone })

module _ (program : Program) (plan : Plan) where
  abbrev d : Driver
  d = driver_of program plan

  abbrev plain_kernel : KernelCode
  plain_kernel = whole program (whole_side program)

  returned_leads : (n : ℕ) (r s : Ran Wire) → Leads Like n r s → Leads Both n (returned (tries d) r) (returned (interrupts plain_kernel) s)
  returned_leads n r s h =
      leads_after Like Both n n r s _ _ h
      (λ v v' w w' like e few. fewer Both w.clock.rest n _ _ few (tries_lead program plan 0 (noted (happened.Ret (value_of v)) w) (noted (happened.Ret (value_of v')) w') (even_noted _ _ w w' (given_like v v' like) e)))

  idle_leads : (n m : ℕ) (w w' : World) → Even w w' → w.clock.rest ≤ m → Leads Both m (idle (tries d) n w) (idle (interrupts plain_kernel) n w')
  unfolding idle
  idle_leads zero m w w' e h = ended Both m tt tt w w' tt e h
  idle_leads (suc n) m w w' e h =
      leads_then Both w.clock.rest m _ _ _ _ (tries_lead program plan 0 w w' e)
      (λ u u' f h'.
      subst (λ rest. Leads Both m (idle_on u.clock.rest u) (plainly_on rest u')) (even_rest u u' f)
      (leads_counted Both m u.clock.rest None u u' _ _ refl f (λ q x x' is g h''. idle_leads n m x x' g (let l : x.clock.rest ≤ m = omega (arith, is, h'', h', h) in l))))
    where
      idle_on : ℕ → World → Work
      idle_on rest u = counted rest None u (λ x. idle (tries d) n x)

      plainly_on : ℕ → World → Work
      plainly_on rest u = counted rest None u (λ x. idle (interrupts plain_kernel) n x)

  idled_leads : (n : ℕ) (w w' : World) → Even w w' → Leads Both w.clock.rest (idled (tries d) n w) (idled (interrupts plain_kernel) n w')
  idled_leads n w w' e =
      leads_then Both w.clock.rest w.clock.rest _ _ _ _ (idle_leads n w.clock.rest (noted (happened.Idle n) w) (noted (happened.Idle n) w') (even_noted _ _ w w' refl e) (le_refl w.clock.rest))
      (λ u u' f h. fewer Both u.clock.rest w.clock.rest _ _ h (tries_lead program plan 0 u u' f))

  does_leads : (c : Command) (w w' : World) → Even w w' → Leads Both w.clock.rest (does d c w) (does_plainly plain_kernel c w')
  unfolding begin
  does_leads (command.Call f args) w w' e = returned_leads w.clock.rest _ _ (called_leads program plan (is_user plan f) f (map wire_of args) (begun program f args w) (begun program f args w') (even_begun program f args w w' e))
  does_leads (command.Idle n) w w' e = idled_leads n w w' e
  does_leads (command.Show g) w w' e = ended Both w.clock.rest tt tt (showed program g w) (showed program g w') tt (even_showed program g w w' e) (le_refl w.clock.rest)
  does_leads (command.Poke serial index n) w w' e =
      let at : Cell = record { serial = serial; index = index } in
      ended Both w.clock.rest tt tt (with_memory w (poked_memory at n w.memory)) (with_memory w' (poked_memory at n w'.memory)) tt (even_poked at n w w' e) (le_refl w.clock.rest)
  does_leads (command.Say text) w w' e = ended Both w.clock.rest tt tt (noted (happened.Say text) w) (noted (happened.Say text) w') tt (even_noted (happened.Say text) (happened.Say text) w w' refl e) (le_refl w.clock.rest)

  not_ok : {X : Type 0} (kind : StopKind) (at : Option At) → ends.Stop kind at ≡ ends.Ok → X
  not_ok kind at e = absurd cc

  and_then_agrees : (n : ℕ) (r s : Work) (go go' : World → Finish) → Leads Both n r s → ((w w' : World) → Even w w' → (go w).end ≡ ends.Ok → plainly_finished (go' w') ≡ plainly_finished (go w)) → (and_then r go).end ≡ ends.Ok
      → plainly_finished (and_then s go') ≡ plainly_finished (and_then r go)
  and_then_agrees n (Ended x w) s go go' h each e =
      let f : Ends Both x w s = h.by x w refl in
      ap (λ (q : Work). plainly_finished (and_then q go')) f.is ∙ each w f.world f.even e
  and_then_agrees n (Stopped kind at w) s go go' h each e = not_ok kind at e

  commands_agree : (cs : List Command) (w w' : World) → Even w w' → (commands (does d) cs w).end ≡ ends.Ok → plainly_finished (commands (does_plainly plain_kernel) cs w') ≡ plainly_finished (commands (does d) cs w)
  unfolding commands
  commands_agree [] w w' even e = ap (finish ends.Ok) (sym even.is)
  commands_agree (c ∷ cs) w w' even e = and_then_agrees w.clock.rest _ _ _ _ (does_leads c w w' even) (λ u u' f g. commands_agree cs u u' f g) e

pub strict_runs_are_plain : StrictRunsArePlain
unfolding plain_of strict_of first_world kernel_side whole_side
strict_runs_are_plain program plan script budget e =
    commands_agree program plan script.commands (first_world (driver_of program plan).kernel.known script budget) (first_world (driver_of program plan).kernel.known script budget) (record { is = refl; alone = refl }) e
