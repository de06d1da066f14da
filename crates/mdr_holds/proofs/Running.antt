-- What running code leaves.
use Rattle.std.proofs.Common.{◌≡◌, ℕ, zero, suc, ◌≤◌, Bool, List, ◌++◌, Option, Some, Result, Ok, Err, refl, sym, ap, ◌∙◌, subst, arith}
use Rattle.mdr_core.specs.declared.place.At.{At}
use Rattle.mdr_core.specs.declared.program.Program.{Program}
use Rattle.mdr_core.specs.declared.stop.StopKind.{StopKind}
use Rattle.mdr_core.specs.declared.types.Ty.{Ty}
use Rattle.mdr_core.specs.Services.{Service}
use Rattle.mdr_core.specs.Sound.{IsSound}
use Rattle.mdr_meaning.specs.declared.wire.Wire.{Wire}
use Rattle.mdr_meaning.specs.Fair.{FairTo, after as behind}
use Rattle.mdr_meaning.specs.Fit.{Grows, IsResult, Knowledge}
use Rattle.mdr_meaning.specs.Sides.{Side}
use Rattle.mdr_meaning.specs.Tree.{Asked, Tree}
use Rattle.mdr_meaning.specs.Within.{Uses}
use Rattle.mdr_model.specs.declared.memory.Cell.{Cell}
use Rattle.mdr_model.specs.declared.message.BirthKind.TheVariants.{Auto}
use Rattle.mdr_model.specs.Memory.{Memory, loaded, stored}
use Rattle.mdr_plain.specs.Running.{Before, Crossing, Setting, run}
use Rattle.mdr_plain.specs.Storage.{accesses, births, deaths, fresh, next_serial, read, remembers, with_memory}
use Rattle.mdr_plain.specs.World.{Ran, Stopped, Work, World, advanced, after, counted, given, then}
use Rattle.mdr_holds.specs.Laws.{AgreeAround, CallsItself, CodeAgrees, CodeLeaves, CodeStays, GivesServed, IsAround}
use Rattle.mdr_holds.specs.Leaving.{AreObjects, GivesResult, IsAsBefore, Later, Leads, Returns, ended, stopped}
use Rattle.mdr_holds.proofs.Accesses.{fresh_is, loaded_fits, read_long, stored_later}
use Rattle.mdr_holds.proofs.Fitting.{result_now}
use Rattle.mdr_holds.proofs.Memories.{live_born}
use Rattle.mdr_holds.proofs.Objects.{AreDead, AreJoined, objects_born, objects_died, objects_stay}
use Rattle.mdr_holds.proofs.Serving.{births_kept, deaths_kept, handling_by}
use Rattle.mdr_holds.proofs.Steps.{later_from, later_on, later_same, tick_later}

module _ (program : Program) (sound : IsSound program) (uses : Uses) (serves : Asked → World → Ran (List Wire)) (crosses : Crossing) (before : Before) (around : IsAround program uses serves crosses before) (allowed : World → Cell → Bool)
    (most : ℕ) (side : Side) (result : Ty) (from : ℕ) (K0 : Knowledge) (first : World) where
  abbrev setting : Setting
  setting = record { accesses = accesses program allowed; serves = serves; crosses = crosses }

  abbrev Left : Ran Wire → Type 0
  Left ran = Leads (Later program from K0 first) (GivesResult program result first) ran

  -- where the code stands
  record Stands (K : Knowledge) (live : List Wire) (w : World) : Type 0 where
    later : Later program from K0 first K w
    uses_are : K.uses ≡ uses
    early : from ≤ next_serial w
    objects : AreObjects w.memory from live
    handling : IsAsBefore first w

  -- it goes on with what ended no object
  goes_on : (K K' : Knowledge) (live : List Wire) (w w' : World) → Stands K live w → Later program (next_serial w) K w K' w' → IsAsBefore w w' → Stands K' live w'
  goes_on K K' live w w' s l handling = record {
    later = later_on program from K0 K K' first w w' s.later (later_from program from (next_serial w) s.early K K' w w' l);
    uses_are = l.grows.same ∙ s.uses_are;
    early = omega (arith, s.early, l.follows.later);
    objects = objects_stay w.memory w'.memory (λ n b e q. l.stays n b (s.later.holds.low n (live_born w.memory n b e)) e q) from live s.objects;
    handling = handling ∙ s.handling;
  }

  -- and with what left these
  goes_with : (K K' : Knowledge) (live live' : List Wire) (w w' : World) → Stands K live w → Later program from K w K' w' → AreObjects w'.memory from live' → IsAsBefore w w' → Stands K' live' w'
  goes_with K K' live live' w w' s l objects handling = record {
    later = later_on program from K0 K K' first w w' s.later l;
    uses_are = l.grows.same ∙ s.uses_are;
    early = omega (arith, s.early, l.follows.later);
    objects = objects;
    handling = handling ∙ s.handling;
  }

  stops_at : (K : Knowledge) (live : List Wire) (kind : StopKind) (at : Option At) (w : World) → Stands K live w → Left (Stopped kind at w)
  stops_at K live kind at w s = stopped K kind at w s.later

  -- ---- one thing after another

  after_try : (K : Knowledge) (live : List Wire) (w : World) → Stands K live w → (r : Work) → Leads (Later program (next_serial w) K w) (λ K' x w'. IsAsBefore w w') r
      → (go : World → Ran Wire) → ((K' : Knowledge) → Grows K K' → (w' : World) → Stands K' live w' → Left (go w')) → Left (then r go)
  after_try K live w s _ (ended K' x w' l handling) go each = each K' l.grows w' (goes_on K K' live w w' s l handling)
  after_try K live w s _ (stopped K' kind at w' l) go each = stopped K' kind at w' (later_on program from K0 K K' first w w' s.later (later_from program from (next_serial w) s.early K K' w w' l))

  after_tick : (K : Knowledge) (live : List Wire) (w : World) → Stands K live w → (rest : ℕ) → w.clock.rest ≡ rest → (at : Option At) (go : World → Ran Wire) → ((w' : World) → Stands K live w' → Left (go w')) → Left (counted rest at w go)
  after_tick K live w s zero e at go each = stops_at K live _ at w s
  after_tick K live w s (suc n) e at go each = each (record w { clock = advanced 1 w.clock }) (goes_on K K live w (record w { clock = advanced 1 w.clock }) s (tick_later program (next_serial w) K w n s.later.holds e) refl)

  after_given : {A : Type 0} (K : Knowledge) (live : List Wire) (w : World) → Stands K live w → (r : Result A StopKind) (at : At) (go : A → Ran Wire) → ((x : A) → r ≡ Ok x → Left (go x)) → Left (given r at w go)
  after_given K live w s (Ok x) at go each = each x refl
  after_given K live w s (Err kind) at go each = stops_at K live kind (Some at) w s

  after_store : (K : Knowledge) (live : List Wire) (w : World) → Stands K live w → (r : Result Memory StopKind) (at : At) (go : World → Ran Wire) → ((m : Memory) → r ≡ Ok m → Later program (next_serial w) K w K (with_memory w m))
      → ((w' : World) → Stands K live w' → Left (go w')) → Left (given (remembers w r) at w go)
  after_store K live w s (Ok m) at go l each = each (with_memory w m) (goes_on K K live w (with_memory w m) s (l m refl) refl)
  after_store K live w s (Err kind) at go l each = stops_at K live kind (Some at) w s

  after_service : (K : Knowledge) (live : List Wire) (w : World) → Stands K live w → (a : Asked) (sv : Service) (remains : List Wire) (r : Ran (List Wire)) → Leads (Later program from K w) (GivesServed program a sv from remains w) r
      → (go : List Wire → World → Ran Wire) → ((K' : Knowledge) → Grows K K' → (rs : List Wire) (w' : World) → GivesServed program a sv from remains w K' rs w' → Stands K' (behind sv remains rs) w' → Left (go rs w')) → Left (after r go)
  after_service K live w s a sv remains _ (ended K' rs w' l g) go each = each K' l.grows rs w' g (goes_with K K' live (behind sv remains rs) w w' s l g.objects g.handling)
  after_service K live w s a sv remains _ (stopped K' kind at w' l) go each = stopped K' kind at w' (later_on program from K0 K K' first w w' s.later l)

  after_call : (K : Knowledge) (live : List Wire) (w : World) → Stands K live w → (type : Ty) (r : Ran Wire) → Returns program (next_serial w) type K w r
      → (go : Wire → World → Ran Wire) → ((K' : Knowledge) → Grows K K' → (v : Wire) (w' : World) → IsResult program K' type v → Stands K' live w' → Left (go v w')) → Left (after r go)
  after_call K live w s type _ (ended K' v w' l g) go each = each K' l.grows v w' g.fits (goes_on K K' live w w' s l g.handling)
  after_call K live w s type _ (stopped K' kind at w' l) go each = stopped K' kind at w' (later_on program from K0 K K' first w w' s.later (later_from program from (next_serial w) s.early K K' w w' l))

  -- ---- code

  tree_leaves : (t : Tree) (K : Knowledge) (live : List Wire) → FairTo most program side result K live t → (w : World) → Stands K live w → Left (run setting before t w)
  unfolding run
  tree_leaves Tree.Idle K live fair w s = elim fair [ ]
  tree_leaves (Tree.Waits k) K live fair w s = elim fair [ ]
  tree_leaves (Tree.Done v t) K live fair w s = ended K _ w s.later (record { fits = result_now program K w.memory result v fair.0; handling = s.handling })
  tree_leaves (Tree.Stop kind at) K live fair w s = stopped K kind (Some at) w s.later
  tree_leaves (Tree.Tick at d t) K live fair w s =
      after_try K live w s (before d w) (around.tries K w s.uses_are s.later.holds d) _
      (λ K' g w' s'. after_tick K' live w' s' w'.clock.rest refl (Some at) _ (λ w'' s''. tree_leaves t K' live (fair.3 K' g) w'' s''))
  tree_leaves (Tree.Load at p k) K live fair w s =
      after_given K live w s (loaded (allowed w) w.memory p) at _
      (λ v e. tree_leaves (k v) K live (fair.1.3 v (loaded_fits program sound K w s.later.holds (allowed w) fair.1.0 p v fair.1.1 fair.1.2 e)) w s)
  tree_leaves (Tree.Store at p v t) K live fair w s =
      after_store K live w s (stored (allowed w) w.memory p v) at _
      (λ m e. stored_later program sound K w s.later.holds (allowed w) (next_serial w) fair.1.0 p v m fair.1.1 fair.1.2 e) (λ w' s'. tree_leaves t K live fair.2 w' s')
  tree_leaves (Tree.Read at p n k) K live fair w s =
      after_given K live w s (read (allowed w) w.memory p n) at _ (λ bs e. tree_leaves (k bs) K live (fair.2 bs (read_long (allowed w) w.memory p n bs e)) w s)
  tree_leaves (Tree.Fresh at v k) K live fair w s =
      after_given K live w s (fresh w.memory v) at _ (λ x e. tree_leaves (k x) K live (subst (λ (y : Wire). FairTo most program side result K live (k y)) (fresh_is w.memory v x e) fair.2) w s)
  tree_leaves (Tree.Birth at shapes k) K live fair w s =
      let all : AreJoined program from live shapes K w = objects_born program sound from live shapes fair.1 K w s.early s.later.holds s.objects in
      tree_leaves (k (births program Auto shapes w).pointers) all.known (live ++ (births program Auto shapes w).pointers) (fair.2 all.known all.later.grows (births program Auto shapes w).pointers all.born) (births program Auto shapes w).memory
      (goes_with K all.known live (live ++ (births program Auto shapes w).pointers) w (births program Auto shapes w).memory s all.later all.objects (handling_by w (births program Auto shapes w).memory (births_kept program Auto shapes w)))
  tree_leaves (Tree.Death at ps t) K live fair w s =
      let all : AreDead program from fair.2.0 ps K w = objects_died program sound from fair.2.0 ps K w s.later.holds (subst (AreObjects w.memory from) fair.2.1 s.objects) in
      tree_leaves t K fair.2.0 fair.2.2 (deaths ps w) (goes_with K K live fair.2.0 w (deaths ps w) s all.later all.objects (handling_by w (deaths ps w) (deaths_kept ps w)))
  tree_leaves (Tree.Ask a k) K live fair w s =
      after_service K live w s a fair.1.0 fair.1.3.0 (serves a w) (around.serve K w s.uses_are s.later.holds from live fair.1.3.0 a fair.1.0 s.early s.objects fair.1.1 fair.1.2 fair.1.3.1) _
      (λ K' g rs w' x s'. tree_leaves (k rs) K' (behind fair.1.0 fair.1.3.0 rs) (fair.1.3.2 K' g rs x.served) w' s')
  tree_leaves (Tree.Cross at f args d k) K live fair w s =
      after_call K live w s fair.2.0.result (crosses at f args d w) (around.cross K w s.uses_are s.later.holds at f args d fair.2.0 fair.2.1) _
      (λ K' g v w' x s'. tree_leaves (k v) K' live (fair.2.2 K' g v x) w' s')

  -- ---- around code, what does the same where code runs

  module _ (serves' : Asked → World → Ran (List Wire)) (crosses' : Crossing) (before' : Before) (agree : AgreeAround program uses side serves crosses before serves' crosses' before') where
    abbrev there : Setting
    there = record { accesses = accesses program allowed; serves = serves'; crosses = crosses' }

    same_try : (K : Knowledge) (live : List Wire) (w : World) → Stands K live w → (r : Work) → Leads (Later program (next_serial w) K w) (λ K' x w'. IsAsBefore w w') r
        → (go go' : World → Ran Wire) → ((K' : Knowledge) → Grows K K' → (w' : World) → Stands K' live w' → go w' ≡ go' w') → then r go ≡ then r go'
    same_try K live w s _ (ended K' x w' l handling) go go' each = each K' l.grows w' (goes_on K K' live w w' s l handling)
    same_try K live w s _ (stopped K' kind at w' l) go go' each = refl

    same_tick : (K : Knowledge) (live : List Wire) (w : World) → Stands K live w → (rest : ℕ) → w.clock.rest ≡ rest → (at : Option At) (go go' : World → Ran Wire) → ((w' : World) → Stands K live w' → go w' ≡ go' w') → counted rest at w go ≡ counted rest at w go'
    same_tick K live w s zero e at go go' each = refl
    same_tick K live w s (suc n) e at go go' each = each (record w { clock = advanced 1 w.clock }) (goes_on K K live w (record w { clock = advanced 1 w.clock }) s (tick_later program (next_serial w) K w n s.later.holds e) refl)

    same_given : {A : Type 0} (w : World) (r : Result A StopKind) (at : At) (go go' : A → Ran Wire) → ((x : A) → r ≡ Ok x → go x ≡ go' x) → given r at w go ≡ given r at w go'
    same_given w (Ok x) at go go' each = each x refl
    same_given w (Err kind) at go go' each = refl

    same_store : (K : Knowledge) (live : List Wire) (w : World) → Stands K live w → (r : Result Memory StopKind) (at : At) (go go' : World → Ran Wire) → ((m : Memory) → r ≡ Ok m → Later program (next_serial w) K w K (with_memory w m))
        → ((w' : World) → Stands K live w' → go w' ≡ go' w') → given (remembers w r) at w go ≡ given (remembers w r) at w go'
    same_store K live w s (Ok m) at go go' l each = each (with_memory w m) (goes_on K K live w (with_memory w m) s (l m refl) refl)
    same_store K live w s (Err kind) at go go' l each = refl

    same_service : (K : Knowledge) (live : List Wire) (w : World) → Stands K live w → (a : Asked) (sv : Service) (remains : List Wire) (r : Ran (List Wire)) → Leads (Later program from K w) (GivesServed program a sv from remains w) r
        → (go go' : List Wire → World → Ran Wire) → ((K' : Knowledge) → Grows K K' → (rs : List Wire) (w' : World) → GivesServed program a sv from remains w K' rs w' → Stands K' (behind sv remains rs) w' → go rs w' ≡ go' rs w') → after r go ≡ after r go'
    same_service K live w s a sv remains _ (ended K' rs w' l g) go go' each = each K' l.grows rs w' g (goes_with K K' live (behind sv remains rs) w w' s l g.objects g.handling)
    same_service K live w s a sv remains _ (stopped K' kind at w' l) go go' each = refl

    same_call : (K : Knowledge) (live : List Wire) (w : World) → Stands K live w → (type : Ty) (r : Ran Wire) → Returns program (next_serial w) type K w r
        → (go go' : Wire → World → Ran Wire) → ((K' : Knowledge) → Grows K K' → (v : Wire) (w' : World) → IsResult program K' type v → Stands K' live w' → go v w' ≡ go' v w') → after r go ≡ after r go'
    same_call K live w s type _ (ended K' v w' l g) go go' each = each K' l.grows v w' g.fits (goes_on K K' live w w' s l g.handling)
    same_call K live w s type _ (stopped K' kind at w' l) go go' each = refl

    tree_same : (t : Tree) (K : Knowledge) (live : List Wire) → FairTo most program side result K live t → (w : World) → Stands K live w → run setting before t w ≡ run there before' t w
    unfolding run
    tree_same Tree.Idle K live fair w s = elim fair [ ]
    tree_same (Tree.Waits k) K live fair w s = elim fair [ ]
    tree_same (Tree.Done v t) K live fair w s = refl
    tree_same (Tree.Stop kind at) K live fair w s = refl
    tree_same (Tree.Tick at d t) K live fair w s =
        ap (λ (r : Work). then r (λ w'. counted w'.clock.rest (Some at) w' (λ w''. run setting before t w''))) (agree.tries K w s.uses_are s.later.holds d)
        ∙ same_try K live w s (before' d w) (subst (Leads (Later program (next_serial w) K w) (λ K' x w'. IsAsBefore w w')) (agree.tries K w s.uses_are s.later.holds d) (around.tries K w s.uses_are s.later.holds d)) _ _
        (λ K' g w' s'. same_tick K' live w' s' w'.clock.rest refl (Some at) _ _ (λ w'' s''. tree_same t K' live (fair.3 K' g) w'' s''))
    tree_same (Tree.Load at p k) K live fair w s =
        same_given w (loaded (allowed w) w.memory p) at _ _ (λ v e. tree_same (k v) K live (fair.1.3 v (loaded_fits program sound K w s.later.holds (allowed w) fair.1.0 p v fair.1.1 fair.1.2 e)) w s)
    tree_same (Tree.Store at p v t) K live fair w s =
        same_store K live w s (stored (allowed w) w.memory p v) at _ _
        (λ m e. stored_later program sound K w s.later.holds (allowed w) (next_serial w) fair.1.0 p v m fair.1.1 fair.1.2 e) (λ w' s'. tree_same t K live fair.2 w' s')
    tree_same (Tree.Read at p n k) K live fair w s = same_given w (read (allowed w) w.memory p n) at _ _ (λ bs e. tree_same (k bs) K live (fair.2 bs (read_long (allowed w) w.memory p n bs e)) w s)
    tree_same (Tree.Fresh at v k) K live fair w s =
        same_given w (fresh w.memory v) at _ _ (λ x e. tree_same (k x) K live (subst (λ (y : Wire). FairTo most program side result K live (k y)) (fresh_is w.memory v x e) fair.2) w s)
    tree_same (Tree.Birth at shapes k) K live fair w s =
        let all : AreJoined program from live shapes K w = objects_born program sound from live shapes fair.1 K w s.early s.later.holds s.objects in
        tree_same (k (births program Auto shapes w).pointers) all.known (live ++ (births program Auto shapes w).pointers) (fair.2 all.known all.later.grows (births program Auto shapes w).pointers all.born) (births program Auto shapes w).memory
        (goes_with K all.known live (live ++ (births program Auto shapes w).pointers) w (births program Auto shapes w).memory s all.later all.objects (handling_by w (births program Auto shapes w).memory (births_kept program Auto shapes w)))
    tree_same (Tree.Death at ps t) K live fair w s =
        let all : AreDead program from fair.2.0 ps K w = objects_died program sound from fair.2.0 ps K w s.later.holds (subst (AreObjects w.memory from) fair.2.1 s.objects) in
        tree_same t K fair.2.0 fair.2.2 (deaths ps w) (goes_with K K live fair.2.0 w (deaths ps w) s all.later all.objects (handling_by w (deaths ps w) (deaths_kept ps w)))
    tree_same (Tree.Ask a k) K live fair w s =
        let same : serves a w ≡ serves' a w = agree.serve K w s.uses_are s.later.holds from live fair.1.3.0 a fair.1.0 s.early s.objects fair.1.1 fair.1.2 fair.1.3.1 in
        ap (λ (r : Ran (List Wire)). after r (λ rs w'. run setting before (k rs) w')) same
        ∙ same_service K live w s a fair.1.0 fair.1.3.0 (serves' a w)
        (subst (Leads (Later program from K w) (GivesServed program a fair.1.0 from fair.1.3.0 w)) same (around.serve K w s.uses_are s.later.holds from live fair.1.3.0 a fair.1.0 s.early s.objects fair.1.1 fair.1.2 fair.1.3.1)) _ _
        (λ K' g rs w' x s'. tree_same (k rs) K' (behind fair.1.0 fair.1.3.0 rs) (fair.1.3.2 K' g rs x.served) w' s')
    tree_same (Tree.Cross at f args d k) K live fair w s =
        let same : crosses at f args d w ≡ crosses' at f args d w = agree.cross K w s.uses_are s.later.holds at f args d fair.2.0 fair.0 fair.1 fair.2.1 in
        ap (λ (r : Ran Wire). after r (λ v w'. run setting before (k v) w')) same
        ∙ same_call K live w s fair.2.0.result (crosses' at f args d w) (subst (Returns program (next_serial w) fair.2.0.result K w) same (around.cross K w s.uses_are s.later.holds at f args d fair.2.0 fair.2.1)) _ _
        (λ K' g v w' x s'. tree_same (k v) K' live (fair.2.2 K' g v x) w' s')

pub code_leaves : CodeLeaves
code_leaves program sound uses serves crosses before around allowed most side result K w from live t same h early objects fair =
    tree_leaves program sound uses serves crosses before around allowed most side result from K w t K live fair w
    (record { later = later_same program from K w h; uses_are = same; early = early; objects = objects; handling = refl })

pub code_agrees : CodeAgrees
code_agrees program sound uses serves crosses before around allowed most side result K w from live t same h early objects fair serves' crosses' before' agree =
    tree_same program sound uses serves crosses before around allowed most side result from K w serves' crosses' before' agree t K live fair w
    (record { later = later_same program from K w h; uses_are = same; early = early; objects = objects; handling = refl })

-- calls that are never made
pub stays_agree : (program : Program) (uses : Uses) (serves : Asked → World → Ran (List Wire)) (crosses : Crossing) (before : Before) (side : Side) → CallsItself uses side → (other : Crossing)
    → AgreeAround program uses side serves crosses before serves other before
stays_agree program uses serves crosses before side itself other = record {
  serve = λ K w same h from live remains a s early objects names ask parts. refl;
  cross = λ K w same h at f args depth func place none call. absurd (itself at.func f place.body place.own (sym (ap (λ (u : Uses). u.calls at.func f) same) ∙ call.calls) none);
  tries = λ K w same h depth. refl;
}

pub code_stays : CodeStays
code_stays program sound uses serves crosses before around allowed most side itself result K w from live t same h early objects fair other =
    code_agrees program sound uses serves crosses before around allowed most side result K w from live t same h early objects fair serves other before (stays_agree program uses serves crosses before side itself other)
