-- A strict run that meets no stop is the followed run, and the watched one.
use Rattle.std.proofs.Common.{◌≡◌, ℕ, zero, suc, Bool, true, false, List, [], ◌∷◌, Option, Some, None, Result, Ok, Err, refl, sym, ◌∙◌, ap, subst}
use Rattle.std.specs.Prelude.{map}
use Rattle.mdr_core.specs.declared.place.At.{At}
use Rattle.mdr_core.specs.declared.stop.StopKind.{StopKind}
use Rattle.mdr_core.specs.Layout.{chosen}
use Rattle.mdr_extents.specs.Reaching.{Failing}
use Rattle.mdr_meaning.specs.declared.wire.Wire.{Wire}
use Rattle.mdr_meaning.specs.Tree.{Asked, Tree}
use Rattle.mdr_meaning.specs.Values.{wire_of}
use Rattle.mdr_meaning.specs.Walk.{Accesses}
use Rattle.mdr_model.specs.declared.command.Command.{Command}
use Rattle.mdr_model.specs.declared.command.Command.TheVariants as command
use Rattle.mdr_model.specs.declared.memory.Cell.{Cell}
use Rattle.mdr_model.specs.declared.outcome.End.TheVariants as ends
use Rattle.mdr_model.specs.Memory.{Memory, normal}
use Rattle.mdr_plain.specs.Atomic.{is_atomic}
use Rattle.mdr_plain.specs.Gate.{are_none, due}
use Rattle.mdr_plain.specs.Running.{Before, Crossing, Setting, all_cells, call, handled, interrupted, interrupts, nothing, run}
use Rattle.mdr_plain.specs.Scripts.{Finish, and_then, begin, begun, called_by, commands, idle, in_place, returned}
use Rattle.mdr_plain.specs.Services.{served}
use Rattle.mdr_plain.specs.Storage.{accesses}
use Rattle.mdr_plain.specs.World.{World, Ran, Ended, Stopped, Work, after, counted, done, given, then}
use Rattle.mdr_bound.specs.declared.bound.Bound.{Bound}
use Rattle.mdr_watched.specs.Driver.{Driver, driver_of, is_user}
use Rattle.mdr_watched.specs.Kept.{due_plainly, followed_of, free, meets_none, meets_user, unless_due}
use Rattle.mdr_watched.specs.Views.{may_touch, taken}
use Rattle.mdr_watched.specs.Watched.{Tries, backs, calls_back, closing, does as does_by, downcall, entered as entered_by, held, kernel_of, kernel_with, may_not, serves, upcall as upcall_by, watched_of}
use Rattle.mdr_watched.proofs.WaitLaws.{none_due}
use Rattle.mdr_kept.specs.Laws.{StrictRunsAreFollowed}
use Rattle.mdr_kept.specs.Strict.{asks, call_alive, called, does, entered, goes_down, goes_up, handled_alive, is_any_gone, is_gone, now, run_alive, strict_of, tries, unless, upcall, ups}
use Rattle.mdr_kept.proofs.EvenLaws.{normal_alive}

-- ---- work that ends alike

-- where the one ends, the other ends alike
record Leads {A : Type 0} (r s : Ran A) : Type 0 where
  by : (x : A) (w : World) → r ≡ Ended x w → s ≡ Ended x w

same : {A : Type 0} (r : Ran A) → Leads r r
same r = record { by = λ x w e. e }

no_end : {A X : Type 0} (kind : StopKind) (at : Option At) (w w' : World) (x : A) → ◌≡◌ {A = Ran A} (Stopped kind at w) (Ended x w') → X
no_end kind at w w' x e = absurd cc

never_ends : {A : Type 0} (kind : StopKind) (at : Option At) (w : World) (s : Ran A) → Leads (Stopped kind at w) s
never_ends kind at w s = record { by = λ x w' e. no_end kind at w w' x e }

leads_after : {A B : Type 0} (r s : Ran A) (go go' : A → World → Ran B) → Leads r s → ((x : A) (w : World) → Leads (go x w) (go' x w)) → Leads (after r go) (after s go')
leads_after (Ended a w) s go go' h each = subst (λ q. Leads (go a w) (after q go')) (sym (h.by a w refl)) (each a w)
leads_after (Stopped kind at w) s go go' h each = never_ends kind at w (after s go')

leads_then : {B : Type 0} (r s : Work) (go go' : World → Ran B) → Leads r s → ((w : World) → Leads (go w) (go' w)) → Leads (then r go) (then s go')
leads_then (Ended a w) s go go' h each = subst (λ q. Leads (go w) (then q go')) (sym (h.by a w refl)) (each w)
leads_then (Stopped kind at w) s go go' h each = never_ends kind at w (then s go')

leads_given : {A B : Type 0} (r : Result A StopKind) (at : At) (w : World) (go go' : A → Ran B) → ((x : A) → Leads (go x) (go' x)) → Leads (given r at w go) (given r at w go')
leads_given (Ok x) at w go go' each = each x
leads_given (Err kind) at w go go' each = same (Stopped kind (Some at) w)

leads_counted : {A : Type 0} (n : ℕ) (at : Option At) (w : World) (go go' : World → Ran A) → ((w' : World) → Leads (go w') (go' w')) → Leads (counted n at w go) (counted n at w go')
leads_counted zero at w go go' each = same (counted zero at w go)
leads_counted (suc n) at w go go' each = each _

leads_unless : {A : Type 0} (b : Bool) (at : Option At) (w : World) (r s : Ran A) → Leads r s → Leads (unless b at w r) s
leads_unless true at w r s h = never_ends _ _ w s
leads_unless false at w r s h = h

leads_taken : {A : Type 0} (r : Result (List Cell) Failing) (at : At) (w : World) (go go' : List Cell → Ran A) → ((set : List Cell) → Leads (go set) (go' set)) → Leads (taken r at w go) (taken r at w go')
leads_taken (Ok set) at w go go' each = each set
leads_taken (Err failing) at w go go' each = same _

leads_closing : (r s : Ran Wire) → Leads r s → Leads (closing r) (closing s)
leads_closing (Ended v w) s h = subst (λ q. Leads (closing (Ended v w)) (closing q)) (sym (h.by v w refl)) (same _)
leads_closing (Stopped kind at w) s h = never_ends kind at w (closing s)

-- ---- code

ends_alive : (m : Memory) (v : Wire) (w : World) (b : Bool) → is_gone m v ≡ b → Leads (unless b None w (Ended v w)) (Ended (normal m v) w)
ends_alive m v w true e = never_ends _ _ w _
ends_alive m v w false e = subst (λ x. Leads (Ended v w) (Ended x w)) (sym (normal_alive m v e)) (same _)

module _ (a : Accesses World) (asked asked' : Asked → World → Ran (List Wire)) (crosses crosses' : Crossing) (before before' : Before)
    (tried : (d : ℕ) (w : World) → Leads (before d w) (before' d w))
    (asks_lead : (q : Asked) (w : World) → Leads (asked q w) (asked' q w))
    (crossed : (at : At) (f : ℕ) (args : List Wire) (d : ℕ) (w : World) → Leads (crosses at f args d w) (crosses' at f args d w)) where
  abbrev one : Setting
  one = record { accesses = a; serves = asked; crosses = crosses }

  abbrev other : Setting
  other = record { accesses = a; serves = asked'; crosses = crosses' }

  runs_lead : (t : Tree) (w : World) → Leads (run_alive one before t w) (run other before' t w)
  unfolding run run_alive
  runs_lead Tree.Idle w = same _
  runs_lead (Tree.Waits k) w = same _
  runs_lead (Tree.Done v t) w = ends_alive w.memory v w (is_gone w.memory v) refl
  runs_lead (Tree.Stop kind at) w = same _
  runs_lead (Tree.Tick at d t) w = leads_then _ _ _ _ (tried d w) (λ w'. leads_counted w'.clock.rest (Some at) w' _ _ (λ w''. runs_lead t w''))
  runs_lead (Tree.Load at p k) w = leads_given (a.load w p) at w _ _ (λ v. runs_lead (k v) w)
  runs_lead (Tree.Store at p v t) w = leads_given (a.store w p v) at w _ _ (λ w'. runs_lead t w')
  runs_lead (Tree.Read at p n k) w = leads_given (a.read w p n) at w _ _ (λ bytes. runs_lead (k bytes) w)
  runs_lead (Tree.Fresh at v k) w = leads_given (a.fresh w v) at w _ _ (λ x. runs_lead (k x) w)
  runs_lead (Tree.Birth at shapes k) w = runs_lead (k (a.birth w shapes).pointers) (a.birth w shapes).memory
  runs_lead (Tree.Death at ps t) w = runs_lead t (a.death w ps)
  runs_lead (Tree.Ask q k) w = leads_after _ _ _ _ (asks_lead q w) (λ results w'. runs_lead (k results) w')
  runs_lead (Tree.Cross at f args d k) w = leads_after _ _ _ _ (crossed at f args d w) (λ v w'. runs_lead (k v) w')

leads_chosen : {A : Type 0} (b : Bool) (x y y' : Ran A) → Leads y y' → Leads (chosen b x y) (chosen b x y')
leads_chosen true x y y' h = same x
leads_chosen false x y y' h = h

-- where calls of the user half lead alike
abbrev CrossesLead : Crossing → Crossing → Type 0
CrossesLead crosses crosses' = (at : At) (f : ℕ) (args : List Wire) (depth : ℕ) (w : World) → Leads (crosses at f args depth w) (crosses' at f args depth w)

module _ (d : Driver) where
  -- ---- the kernel half

  calls_lead : (crosses crosses' : Crossing) → CrossesLead crosses crosses' → (before before' : Before) → ((n : ℕ) (w : World) → Leads (before n w) (before' n w)) → (f : ℕ) (args : List Wire) (depth : ℕ) (w : World)
      → Leads (call_alive d crosses before f args depth w) (call (kernel_with d crosses') before' f args depth w)
  unfolding call
  calls_lead crosses crosses' crossed before before' tried f args depth w = runs_lead (accesses d.program all_cells) (served d.program) (served d.program) crosses crosses' before before' tried (λ q w'. same _) crossed _ w

  handled_leads : (n : ℕ) (o : Option ℕ) (w : World) → Leads (handled_alive d n o w) (handled (kernel_of d) n o w)
  handled_leads n None w = same _
  handled_leads n (Some f) w = leads_after _ _ _ _ (calls_lead may_not may_not (λ at g vs n' w'. same _) nothing nothing (λ n' w'. same _) f [] n (interrupted f w)) (λ v w'. same _)

  interrupts_lead : (n : ℕ) (w : World) → Leads (handled_alive d n (due w) w) (interrupts (kernel_of d) n w)
  unfolding interrupts
  interrupts_lead n w = handled_leads n (due w) w

  unless_leads : (o : Option ℕ) (w : World) → Leads (unless_due o w) (done w)
  unless_leads None w = same (done w)
  unless_leads (Some f) w = never_ends _ _ w (done w)

  waited : (n : ℕ) (w : World) → are_none w.views ≡ false → interrupts (kernel_of d) n w ≡ done w
  unfolding interrupts
  waited n w e = ap (λ o. handled (kernel_of d) n o w) (none_due w e)

  -- what is tried leads to the interrupt rule, with and without the test that none meets user code
  tries_lead : (n : ℕ) (w : World) → Leads (tries d n w) (interrupts (kernel_of d) n w)
  tries_lead n w = of (are_none w.views) refl
    where
      of : (t : Bool) → are_none w.views ≡ t → Leads (chosen t (handled_alive d n (due w) w) (unless_due (due_plainly w) w)) (interrupts (kernel_of d) n w)
      of true e = interrupts_lead n w
      of false e = subst (λ q. Leads (unless_due (due_plainly w) w) q) (sym (waited n w e)) (unless_leads (due_plainly w) w)

  tries_lead_freely : (n : ℕ) (w : World) → Leads (tries d n w) (meets_none (kernel_of d) n w)
  tries_lead_freely n w = of (are_none w.views)
    where
      of : (t : Bool) → Leads (chosen t (handled_alive d n (due w) w) (unless_due (due_plainly w) w)) (chosen t (interrupts (kernel_of d) n w) (unless_due (due_plainly w) w))
      of true = interrupts_lead n w
      of false = same _

  -- ---- upcalls, calls back and commands

  module _ (by : Tries) (kernel_tried : (n : ℕ) (w : World) → Leads (tries d n w) (by.kernel n w)) (user_tried : (n : ℕ) (w : World) → Leads (meets_user n w) (by.user n w)) where
    asks_lead : (t : ℕ) (q : Asked) (w : World) → Leads (asks d t q w) (serves d by t q w)
    asks_lead t q w = leads_unless (is_any_gone w.memory q.args) (Some q.at) w _ _ (same _)

    downs_lead : (crosses crosses' : Crossing) → CrossesLead crosses crosses' → (t : ℕ) → CrossesLead (goes_down d t crosses) (downcall d by t crosses')
    downs_lead crosses crosses' crossed t at f args depth w =
        leads_unless (is_any_gone w.memory args) (Some at) w _ _ (leads_after _ _ _ _ (calls_lead crosses crosses' crossed (tries d) by.kernel kernel_tried f (now w args) depth w) (λ v w'. same _))

    entered_leads : (crosses crosses' : Crossing) → CrossesLead crosses crosses' → (f : ℕ) (args : List Wire) (depth : ℕ) (set : List Cell) (w : World) → Leads (entered d crosses f args depth set w) (entered_by d by crosses' f args depth set w)
    entered_leads crosses crosses' crossed f args depth set w = leads_closing _ _
        (runs_lead (accesses d.program may_touch) (asks d f) (serves d by f) (goes_down d f crosses) (downcall d by f crosses') meets_user by.user user_tried (asks_lead f) (downs_lead crosses crosses' crossed f) _ _)

    upcalls_lead : (crosses crosses' : Crossing) → CrossesLead crosses crosses' → (f : ℕ) (args : List Wire) (depth : ℕ) (w : World) → Leads (upcall d crosses f args depth w) (upcall_by d by crosses' f args depth w)
    unfolding upcall_by
    upcalls_lead crosses crosses' crossed f args depth w = leads_taken _ _ w _ _ (λ set. entered_leads crosses crosses' crossed f args depth set w)

    ups_lead : (room : ℕ) → CrossesLead (goes_up d room) (calls_back d by room)
    unfolding goes_up calls_back
    ups_lead zero at f args depth w = same _
    ups_lead (suc room) at f args depth w =
        leads_chosen (is_atomic w) _ _ _ (leads_unless (is_any_gone w.memory args) (Some at) w _ _ (upcalls_lead (goes_up d room) (calls_back d by room) (ups_lead room) f (now w args) depth w))

    returned_leads : (r s : Ran Wire) → Leads r s → Leads (returned (tries d) r) (returned (interrupts (kernel_of d)) s)
    returned_leads r s h = leads_after r s _ _ h (λ v w. tries_lead 0 _)

    abbrev enters : ℕ → List Wire → World → Ran Wire
    enters f args w = call (kernel_with d (backs d by)) by.kernel f args 0 w

    abbrev opens : ℕ → List Wire → World → Ran Wire
    opens f args w = upcall_by d by (backs d by) f args 0 w

    called_leads : (b : Bool) (f : ℕ) (args : List Wire) (w : World) → Leads (returned (tries d) (called d b f args w)) (in_place (kernel_of d) enters opens (called_by b (kernel_of d) f args w))
    called_leads true f args w = returned_leads _ _ (upcalls_lead (ups d) (backs d by) (ups_lead 256) f args 0 w)
    called_leads false f args w = returned_leads _ _ (calls_lead (ups d) (backs d by) (ups_lead 256) (tries d) by.kernel kernel_tried f args 0 w)

    idle_leads : (n : ℕ) (w : World) → Leads (idle (tries d) n w) (idle (interrupts (kernel_of d)) n w)
    unfolding idle
    idle_leads zero w = same _
    idle_leads (suc n) w = leads_then _ _ _ _ (tries_lead 0 w) (λ w'. leads_counted w'.clock.rest None w' _ _ (λ w''. idle_leads n w''))

    does_leads : (c : Command) (w : World) → Leads (does d c w) (does_by d by c w)
    unfolding begin
    does_leads (command.Call f args) w = called_leads (is_user d.plan f) f (map wire_of args) (begun d.program f args w)
    does_leads (command.Idle n) w = leads_then _ _ _ _ (idle_leads n _) (λ w'. tries_lead 0 w')
    does_leads (command.Show g) w = same _
    does_leads (command.Poke serial index n) w = same _
    does_leads (command.Say text) w = same _

    not_ok : {X : Type 0} (kind : StopKind) (at : Option At) → ends.Stop kind at ≡ ends.Ok → X
    not_ok kind at e = absurd cc

    and_thens_agree : (r s : Work) (go go' : World → Finish) → Leads r s → ((w : World) → (go w).end ≡ ends.Ok → go' w ≡ go w) → (and_then r go).end ≡ ends.Ok → and_then s go' ≡ and_then r go
    and_thens_agree (Ended x w) s go go' h later e = ap (λ q. and_then q go') (h.by x w refl) ∙ later w e
    and_thens_agree (Stopped kind at w) s go go' h later e = not_ok kind at e

    commands_agree : (cs : List Command) (w : World) → (commands (does d) cs w).end ≡ ends.Ok → commands (does_by d by) cs w ≡ commands (does d) cs w
    unfolding commands
    commands_agree [] w e = refl
    commands_agree (c ∷ cs) w e = and_thens_agree _ _ _ _ (does_leads c w) (λ w' e'. commands_agree cs w' e') e

followed_is_strict : (d : Driver) (script : Bound) (budget : ℕ) → (strict_of d script budget).end ≡ ends.Ok → followed_of d script budget ≡ strict_of d script budget
unfolding strict_of followed_of
followed_is_strict d script budget e = commands_agree d (free d) (tries_lead_freely d) (λ n w. same _) script.commands _ e

watched_is_strict : (d : Driver) (script : Bound) (budget : ℕ) → (strict_of d script budget).end ≡ ends.Ok → watched_of d script budget ≡ strict_of d script budget
unfolding strict_of watched_of
watched_is_strict d script budget e = commands_agree d (held d) (tries_lead d) (λ n w. unless_leads d (due_plainly w) w) script.commands _ e

pub strict_runs_are_followed : StrictRunsAreFollowed
strict_runs_are_followed = record {
  followed = followed_is_strict;
  kept = λ program plan script budget e. ap (λ (f : Finish). f.end) (followed_is_strict (driver_of program plan) script budget e) ∙ e;
  watched = watched_is_strict;
}
