-- Where nothing meets user code, holding interrupts back changes nothing.
use Rattle.std.proofs.Common.{◌≡◌, ℕ, zero, suc, Bool, true, false, List, [], ◌∷◌, Option, Some, None, Result, Ok, Err, refl, sym, ◌∙◌, ap, map, subst}
use Rattle.mdr_core.specs.declared.place.At.{At}
use Rattle.mdr_core.specs.declared.stop.StopKind.{StopKind}
use Rattle.mdr_core.specs.Layout.{chosen}
use Rattle.mdr_extents.specs.Reaching.{Failing}
use Rattle.mdr_meaning.specs.declared.wire.Wire.{Wire}
use Rattle.mdr_meaning.specs.Tree.{Asked, Tree}
use Rattle.mdr_meaning.specs.Walk.{Accesses}
use Rattle.mdr_model.specs.declared.command.Command.{Command}
use Rattle.mdr_model.specs.declared.memory.Cell.{Cell}
use Rattle.mdr_model.specs.declared.outcome.End.TheVariants as ends
use Rattle.mdr_model.specs.Memory.{normal}
use Rattle.mdr_plain.specs.Atomic.{is_atomic}
use Rattle.mdr_plain.specs.Gate.{are_none}
use Rattle.mdr_plain.specs.Running.{Before, Crossing, KernelCode, Setting, call, handled, interrupts, nothing, run}
use Rattle.mdr_plain.specs.Scripts.{Beginning, Did, Enters, Opens, Finish, and_then, begin, commands, in_place}
use Rattle.mdr_plain.specs.Services.{served}
use Rattle.mdr_plain.specs.Storage.{accesses}
use Rattle.mdr_plain.specs.World.{World, Ran, Ended, Stopped, Work, after, counted, done, given, then}
use Rattle.mdr_watched.specs.Driver.{Driver, is_user}
use Rattle.mdr_watched.specs.Kept.{due_plainly, followed_of, free, meets_none, meets_user, unless_due}
use Rattle.mdr_watched.specs.Laws.{KeptRunsAgree}
use Rattle.mdr_watched.specs.Views.{may_touch, taken}
use Rattle.mdr_watched.specs.Watched.{backs, calls_back, closing, does, downcall, entered, held, kernel_of, kernel_with, serves, upcall, watched_of}
use Rattle.mdr_watched.proofs.WaitLaws.{none_due}

-- ---- work that ends alike

-- where the one ends, the other ends alike
pub record Leads {A : Type 0} (r s : Ran A) : Type 0 where
  pub by : (x : A) (w : World) → r ≡ Ended x w → s ≡ Ended x w

same : {A : Type 0} (r : Ran A) → Leads r r
same r = record { by = λ x w e. e }

no_end : {A X : Type 0} (kind : StopKind) (at : Option At) (w w' : World) (x : A) → ◌≡◌ {A = Ran A} (Stopped kind at w) (Ended x w') → X
no_end kind at w w' x e = absurd cc

never_ends : {A : Type 0} (kind : StopKind) (at : Option At) (w : World) (s : Ran A) → Leads (Stopped kind at w) s
never_ends kind at w s = record { by = λ x w' e. no_end kind at w w' x e }

leads_after : {A B : Type 0} (r s : Ran A) (go go' : A → World → Ran B) → Leads r s → ((x : A) (w : World) → Leads (go x w) (go' x w)) → Leads (after r go) (after s go')
leads_after (Ended a w) s go go' h each = subst (λ q. Leads (go a w) (after q go')) (sym (h.by a w refl)) (each a w)
leads_after (Stopped kind at w) s go go' h each = never_ends kind at w (after s go')

leads_then : {B : Type 0} (r s : Work) (go go' : World → Ran B) → Leads r s → ((w : World) → Leads (go w) (go' w)) → Leads (then r go) (then s go')
leads_then (Ended a w) s go go' h each = subst (λ q. Leads (go w) (then q go')) (sym (h.by a w refl)) (each w)
leads_then (Stopped kind at w) s go go' h each = never_ends kind at w (then s go')

leads_given : {A B : Type 0} (r : Result A StopKind) (at : At) (w : World) (go go' : A → Ran B) → ((x : A) → Leads (go x) (go' x)) → Leads (given r at w go) (given r at w go')
leads_given (Ok x) at w go go' each = each x
leads_given (Err kind) at w go go' each = same (Stopped kind (Some at) w)

leads_counted : {A : Type 0} (n : ℕ) (at : Option At) (w : World) (go go' : World → Ran A) → ((w' : World) → Leads (go w') (go' w')) → Leads (counted n at w go) (counted n at w go')
leads_counted zero at w go go' each = same (counted zero at w go)
leads_counted (suc n) at w go go' each = each _

-- ---- code

module _ (a : Accesses World) (asks asks' : Asked → World → Ran (List Wire)) (crosses crosses' : Crossing) (before before' : Before)
    (tries : (d : ℕ) (w : World) → Leads (before d w) (before' d w))
    (asked : (q : Asked) (w : World) → Leads (asks q w) (asks' q w))
    (crossed : (at : At) (f : ℕ) (args : List Wire) (d : ℕ) (w : World) → Leads (crosses at f args d w) (crosses' at f args d w)) where
  abbrev one : Setting
  one = record { accesses = a; serves = asks; crosses = crosses }

  abbrev other : Setting
  other = record { accesses = a; serves = asks'; crosses = crosses' }

  runs_lead : (t : Tree) (w : World) → Leads (run one before t w) (run other before' t w)
  unfolding run
  runs_lead Tree.Idle w = same _
  runs_lead (Tree.Waits k) w = same _
  runs_lead (Tree.Done v t) w = same _
  runs_lead (Tree.Stop kind at) w = same _
  runs_lead (Tree.Tick at d t) w = leads_then _ _ _ _ (tries d w) (λ w'. leads_counted w'.clock.rest (Some at) w' _ _ (λ w''. runs_lead t w''))
  runs_lead (Tree.Load at p k) w = leads_given (a.load w p) at w _ _ (λ v. runs_lead (k v) w)
  runs_lead (Tree.Store at p v t) w = leads_given (a.store w p v) at w _ _ (λ w'. runs_lead t w')
  runs_lead (Tree.Read at p n k) w = leads_given (a.read w p n) at w _ _ (λ bytes. runs_lead (k bytes) w)
  runs_lead (Tree.Fresh at v k) w = leads_given (a.fresh w v) at w _ _ (λ x. runs_lead (k x) w)
  runs_lead (Tree.Birth at shapes k) w = runs_lead (k (a.birth w shapes).pointers) (a.birth w shapes).memory
  runs_lead (Tree.Death at ps t) w = runs_lead t (a.death w ps)
  runs_lead (Tree.Ask q k) w = leads_after _ _ _ _ (asked q w) (λ results w'. runs_lead (k results) w')
  runs_lead (Tree.Cross at f args d k) w = leads_after _ _ _ _ (crossed at f args d w) (λ v w'. runs_lead (k v) w')

-- ---- what is tried before ticks

unless_leads : (o : Option ℕ) (w : World) → Leads (unless_due o w) (done w)
unless_leads None w = same (done w)
unless_leads (Some f) w = never_ends _ _ w (done w)

waited : (kernel : KernelCode) (d : ℕ) (w : World) → are_none w.views ≡ false → interrupts kernel d w ≡ done w
unfolding interrupts
waited kernel d w e = ap (λ o. handled kernel d o w) (none_due w e)

pub tries_lead : (kernel : KernelCode) (d : ℕ) (w : World) → Leads (meets_none kernel d w) (interrupts kernel d w)
tries_lead kernel d w = of (are_none w.views) refl
  where
    of : (t : Bool) → are_none w.views ≡ t → Leads (chosen t (interrupts kernel d w) (unless_due (due_plainly w) w)) (interrupts kernel d w)
    of true e = same _
    of false e = subst (λ q. Leads (unless_due (due_plainly w) w) q) (sym (waited kernel d w e)) (unless_leads (due_plainly w) w)

-- ---- upcalls and commands

module _ (d : Driver) where
  -- where calls of the user half lead alike
  abbrev pub CrossesLead : Crossing → Crossing → Type 0
  CrossesLead crosses crosses' = (at : At) (f : ℕ) (args : List Wire) (depth : ℕ) (w : World) → Leads (crosses at f args depth w) (crosses' at f args depth w)

  pub calls_lead : (crosses crosses' : Crossing) → CrossesLead crosses crosses' → (f : ℕ) (args : List Wire) (depth : ℕ) (w : World)
      → Leads (call (kernel_with d crosses) (meets_none (kernel_of d)) f args depth w) (call (kernel_with d crosses') (interrupts (kernel_of d)) f args depth w)
  unfolding call
  calls_lead crosses crosses' crossed f args depth w =
      runs_lead (accesses d.program (λ w' c. true)) (served d.program) (served d.program) crosses crosses' (meets_none (kernel_of d)) (interrupts (kernel_of d))
      (tries_lead (kernel_of d)) (λ q w'. same _) crossed _ w

  pub downcalls_lead : (crosses crosses' : Crossing) → CrossesLead crosses crosses' → (t : ℕ) → CrossesLead (downcall d (free d) t crosses) (downcall d (held d) t crosses')
  downcalls_lead crosses crosses' crossed t at f args depth w = leads_after _ _ _ _ (calls_lead crosses crosses' crossed f _ depth w) (λ v w'. same _)

  leads_closing : (r s : Ran Wire) → Leads r s → Leads (closing r) (closing s)
  leads_closing (Ended v w) s h = subst (λ q. Leads (closing (Ended v w)) (closing q)) (sym (h.by v w refl)) (same _)
  leads_closing (Stopped kind at w) s h = never_ends kind at w (closing s)

  entered_leads : (crosses crosses' : Crossing) → CrossesLead crosses crosses' → (f : ℕ) (args : List Wire) (depth : ℕ) (set : List Cell) (w : World) → Leads (entered d (free d) crosses f args depth set w) (entered d (held d) crosses' f args depth set w)
  entered_leads crosses crosses' crossed f args depth set w = leads_closing _ _
      (runs_lead (accesses d.program may_touch) (serves d (free d) f) (serves d (held d) f) (downcall d (free d) f crosses) (downcall d (held d) f crosses') meets_user nothing
      (λ n w'. unless_leads (due_plainly w') w') (λ q w'. same _) (downcalls_lead crosses crosses' crossed f) _ _)

  leads_taken : {A : Type 0} (r : Result (List Cell) Failing) (at : At) (w : World) (go go' : List Cell → Ran A) → ((set : List Cell) → Leads (go set) (go' set)) → Leads (taken r at w go) (taken r at w go')
  leads_taken (Ok set) at w go go' each = each set
  leads_taken (Err failing) at w go go' each = same _

  pub upcalls_lead : (crosses crosses' : Crossing) → CrossesLead crosses crosses' → (f : ℕ) (args : List Wire) (depth : ℕ) (w : World) → Leads (upcall d (free d) crosses f args depth w) (upcall d (held d) crosses' f args depth w)
  unfolding upcall
  upcalls_lead crosses crosses' crossed f args depth w = leads_taken _ _ w _ _ (λ set. entered_leads crosses crosses' crossed f args depth set w)

  leads_chosen : {A : Type 0} (b : Bool) (x y y' : Ran A) → Leads y y' → Leads (chosen b x y) (chosen b x y')
  leads_chosen true x y y' h = same x
  leads_chosen false x y y' h = h

  pub backs_lead : (room : ℕ) → CrossesLead (calls_back d (free d) room) (calls_back d (held d) room)
  unfolding calls_back
  backs_lead zero at f args depth w = same _
  backs_lead (suc room) at f args depth w = leads_chosen (is_atomic w) _ _ _ (upcalls_lead (calls_back d (free d) room) (calls_back d (held d) room) (backs_lead room) f (map (normal w.memory) args) depth w)

  begun_lead : (b : Beginning)
      → Leads (in_place (kernel_of d) (λ f args w. call (kernel_with d (backs d (free d))) (meets_none (kernel_of d)) f args 0 w) (λ f args w. upcall d (free d) (backs d (free d)) f args 0 w) b)
      (in_place (kernel_of d) (λ f args w. call (kernel_with d (backs d (held d))) (interrupts (kernel_of d)) f args 0 w) (λ f args w. upcall d (held d) (backs d (held d)) f args 0 w) b)
  begun_lead (Did work) = same work
  begun_lead (Enters f args w) = leads_after _ _ _ _ (calls_lead (backs d (free d)) (backs d (held d)) (backs_lead 256) f args 0 w) (λ v w'. same _)
  begun_lead (Opens f args w) = leads_after _ _ _ _ (upcalls_lead (backs d (free d)) (backs d (held d)) (backs_lead 256) f args 0 w) (λ v w'. same _)

  not_ok : {X : Type 0} (kind : StopKind) (at : Option At) → ends.Stop kind at ≡ ends.Ok → X
  not_ok kind at e = absurd cc

  and_thens_agree : (r s : Work) (go go' : World → Finish) → Leads r s → ((w : World) → (go w).end ≡ ends.Ok → go' w ≡ go w) → (and_then r go).end ≡ ends.Ok → and_then s go' ≡ and_then r go
  and_thens_agree (Ended x w) s go go' h later e = ap (λ q. and_then q go') (h.by x w refl) ∙ later w e
  and_thens_agree (Stopped kind at w) s go go' h later e = not_ok kind at e

  commands_agree : (cs : List Command) (w : World) → (commands (does d (free d)) cs w).end ≡ ends.Ok → commands (does d (held d)) cs w ≡ commands (does d (free d)) cs w
  unfolding commands
  commands_agree [] w e = refl
  commands_agree (c ∷ cs) w e = and_thens_agree _ _ _ _ (begun_lead (begin (kernel_of d) (is_user d.plan) c w)) (λ w' e'. commands_agree cs w' e') e

pub kept_runs_agree : KeptRunsAgree
unfolding watched_of followed_of
kept_runs_agree d script budget kept = commands_agree d script.commands _ kept
