-- Running code does the same where the run would end with what is passed on dead, since all that it passes on is current.
use Rattle.std.proofs.Common.{◌≡◌, ℕ, zero, suc, ◌≤◌, Bool, true, false, List, [], ◌++◌, Option, Some, None, Result, Ok, Err, length, refl, sym, ap, ◌∙◌, subst, arith}
use Rattle.mdr_core.specs.declared.place.At.{At}
use Rattle.mdr_core.specs.declared.program.Func.{Func}
use Rattle.mdr_core.specs.declared.program.Program.{Program}
use Rattle.mdr_core.specs.declared.stop.StopKind.{StopKind}
use Rattle.mdr_core.specs.declared.types.Ty.{Ty}
use Rattle.mdr_core.specs.Services.{Service, Kzalloc, Kcalloc, Kfree, Readl, Writel, Printk, RequestIrq, FreeIrq, Deliver, Combolock, Combounlock, Bug, Enter, Leave, service_numbered}
use Rattle.mdr_core.specs.Sound.{IsSound}
use Rattle.mdr_meaning.specs.declared.wire.Wire.{Wire}
use Rattle.mdr_meaning.specs.Fair.{FairTo, IsAsk, IsCall, IsPlace, IsServed, Leaves, after as behind}
use Rattle.mdr_meaning.specs.Fit.{IsResult, Knowledge}
use Rattle.mdr_meaning.specs.Sides.{Side}
use Rattle.mdr_meaning.specs.Tree.{Asked, Tree}
use Rattle.mdr_meaning.specs.Within.{Uses}
use Rattle.mdr_model.specs.declared.memory.Cell.{Cell}
use Rattle.mdr_model.specs.declared.message.BirthKind.TheVariants.{Auto}
use Rattle.mdr_model.specs.Memory.{Memory, is_live, loaded, normal, stored}
use Rattle.mdr_plain.specs.Running.{Before, Crossing, Setting, run}
use Rattle.mdr_plain.specs.Storage.{accesses, births, deaths, fresh, next_serial, read, remembers, with_memory}
use Rattle.mdr_plain.specs.World.{Ended, Ran, Stopped, Work, World, advanced, after, counted, given, then}
use Rattle.mdr_holds.specs.Holding.{Holds}
use Rattle.mdr_holds.specs.Laws.{GivesServed}
use Rattle.mdr_holds.specs.Leaving.{AreObjects, Later, Leads, ended, stopped}
use Rattle.mdr_holds.proofs.Accesses.{fresh_is, loaded_fits, read_long, stored_later}
use Rattle.mdr_holds.proofs.Memories.{live_born}
use Rattle.mdr_holds.proofs.Objects.{AreDead, AreJoined, objects_born, objects_died, objects_stay}
use Rattle.mdr_holds.proofs.Steps.{tick_later}
use Rattle.mdr_kept.specs.Current.{AreCurrent, AsksCurrent, Behind, Current, IsCurrent, KnowsLives, Lives, without}
use Rattle.mdr_kept.specs.Strict.{is_gone, run_alive, unless}
use Rattle.mdr_kept.proofs.EvenLaws.{normal_alive}
use Rattle.mdr_kept.proofs.LiveLaws.{births_many, born_many, current_here, deaths_live, fresh_current, knows, loaded_current, stored_lives}

-- a value that is as it is now
pub same_end : (m : Memory) (v : Wire) (w : World) (b : Bool) → is_gone m v ≡ b → b ≡ false → Ended (normal m v) w ≡ unless b None w (Ended v w)
same_end m v w true e f = absurd cc
same_end m v w false e f = ap (λ (x : Wire). Ended x w) (normal_alive m v e)

-- ---- what is known where work ended

pub ended_is : {A : Type 0} (x y : A) (w u : World) → ◌≡◌ {A = Ran A} (Ended x w) (Ended y u) → (x ≡ y) × (w ≡ u)
ended_is x y w u e = (cc, cc)

-- it left a state, and gave something
pub record Reaches {A : Type 0} (Left : Knowledge → World → Type 0) (Gives : Knowledge → A → World → Type 0) (x : A) (w : World) : Type 0 where
  pub known : Knowledge
  pub left : Left known w
  pub gives : Gives known x w

pub reaches : {A : Type 0} (Left : Knowledge → World → Type 0) (Gives : Knowledge → A → World → Type 0) (r : Ran A) → Leads Left Gives r → (x : A) (w : World) → r ≡ Ended x w → Reaches Left Gives x w
reaches Left Gives _ (ended K y u l g) x w e =
    let same : (y ≡ x) × (u ≡ w) = ended_is y x u w e in
    record { known = K; left = subst (Left K) same.1 l; gives = subst (λ v. Gives K v w) same.0 (subst (Gives K y) same.1 g) }
reaches Left Gives _ (stopped K kind at u l) x w e = absurd cc

-- what stands around code of a side leaves such states where it ends
pub record EndsAround (program : Program) (uses : Uses) (side : Side) (serves : Asked → World → Ran (List Wire)) (crosses : Crossing) (before : Before) : Type 0 where
  pub serve : (K : Knowledge) (w : World) → K.uses ≡ uses → Holds program K w → (from : ℕ) (live remains : List Wire) (a : Asked) (s : Service) → from ≤ next_serial w → AreObjects w.memory from live
      → service_numbered a.service ≡ Some s → IsAsk program K a s → Leaves s a live remains
      → (rs : List Wire) (w' : World) → serves a w ≡ Ended rs w' → Reaches (Later program from K w) (GivesServed program a s from remains w) rs w'
  pub cross : (K : Knowledge) (w : World) → K.uses ≡ uses → Holds program K w → (at : At) (f : ℕ) (args : List Wire) (depth : ℕ) (func : Func) → IsPlace side at → side.own f ≡ None → IsCall program K func at.func f args depth
      → (v : Wire) (w' : World) → crosses at f args depth w ≡ Ended v w' → Reaches (Later program (next_serial w) K w) (λ K' x u. IsResult program K' func.result x) v w'
  pub tries : (K : Knowledge) (w : World) → K.uses ≡ uses → Holds program K w → (depth : ℕ) (x : Unit {0}) (w' : World) → before depth w ≡ Ended x w' → Reaches (Later program (next_serial w) K w) (λ K' y u. Unit {0}) x w'

-- what stands around code does the same as something else, where a fair tree asks with, and passes, what is current. What it is answered is current as well
pub record AreAliveAround (program : Program) (uses : Uses) (side : Side) (serves : Asked → World → Ran (List Wire)) (crosses : Crossing) (before : Before) (serves' : Asked → World → Ran (List Wire)) (crosses' : Crossing) (before' : Before) : Type 0 where
  pub serve : (K : Knowledge) (w : World) → K.uses ≡ uses → Holds program K w → (a : Asked) → AreCurrent (is_live w.memory) a.args → serves a w ≡ serves' a w
  pub cross : (K : Knowledge) (w : World) → K.uses ≡ uses → Holds program K w → (at : At) (f : ℕ) (args : List Wire) (depth : ℕ) (func : Func) → IsPlace side at → side.own f ≡ None → IsCall program K func at.func f args depth → AreCurrent (is_live w.memory) args
      → crosses at f args depth w ≡ crosses' at f args depth w
  pub tries : (K : Knowledge) (w : World) → K.uses ≡ uses → Holds program K w → (depth : ℕ) → before depth w ≡ before' depth w
  -- answers
  pub served : (a : Asked) (w : World) (rs : List Wire) (w' : World) → serves a w ≡ Ended rs w' → AreCurrent (is_live w'.memory) rs
  pub left : (a : Asked) (w : World) (rs : List Wire) (w' : World) → service_numbered a.service ≡ Some Leave → AreCurrent (is_live w.memory) a.args → serves a w ≡ Ended rs w' → is_live w'.memory ≡ without a.args (is_live w.memory)
  pub result : (at : At) (f : ℕ) (args : List Wire) (depth : ℕ) (w : World) (v : Wire) (w' : World) → crosses at f args depth w ≡ Ended v w' → IsCurrent (is_live w'.memory) v

module _ (program : Program) (sound : IsSound program) (uses : Uses) (serves : Asked → World → Ran (List Wire)) (crosses : Crossing) (before : Before) (side : Side) (around : EndsAround program uses side serves crosses before) (allowed : World → Cell → Bool)
    (most : ℕ) (result : Ty) (from : ℕ) (serves' : Asked → World → Ran (List Wire)) (crosses' : Crossing) (before' : Before) (alive : AreAliveAround program uses side serves crosses before serves' crosses' before') where
  abbrev here : Setting
  here = record { accesses = accesses program allowed; serves = serves; crosses = crosses }

  abbrev there : Setting
  there = record { accesses = accesses program allowed; serves = serves'; crosses = crosses' }

  abbrev count : ℕ
  count = length program.globals

  -- where the code stands
  record Stands (K : Knowledge) (live : List Wire) (w : World) : Type 0 where
    holds : Holds program K w
    uses_are : K.uses ≡ uses
    early : from ≤ next_serial w
    objects : AreObjects w.memory from live

  known_lives : (K : Knowledge) (live : List Wire) (w : World) → Stands K live w → KnowsLives count (is_live w.memory) live
  known_lives K live w s = knows program K w s.holds from live s.objects

  -- it goes on with what ended no object
  goes_on : (K K' : Knowledge) (live : List Wire) (w w' : World) → Stands K live w → Later program (next_serial w) K w K' w' → Stands K' live w'
  goes_on K K' live w w' s l = record {
    holds = l.holds;
    uses_are = l.grows.same ∙ s.uses_are;
    early = omega (arith, s.early, l.follows.later);
    objects = objects_stay w.memory w'.memory (λ n b e q. l.stays n b (s.holds.low n (live_born w.memory n b e)) e q) from live s.objects;
  }

  -- and with what left these
  goes_with : (K K' : Knowledge) (live live' : List Wire) (w w' : World) → Stands K live w → Later program from K w K' w' → AreObjects w'.memory from live' → Stands K' live' w'
  goes_with K K' live live' w w' s l objects = record { holds = l.holds; uses_are = l.grows.same ∙ s.uses_are; early = omega (arith, s.early, l.follows.later); objects = objects }

  -- ---- one thing after another

  same_try : (r : Work) (go go' : World → Ran Wire) → ((x : Unit {0}) (w' : World) → r ≡ Ended x w' → go w' ≡ go' w') → then r go ≡ then r go'
  same_try (Ended x w') go go' each = each x w' refl
  same_try (Stopped kind at w') go go' each = refl

  same_after : {A : Type 0} (r : Ran A) (go go' : A → World → Ran Wire) → ((x : A) (w' : World) → r ≡ Ended x w' → go x w' ≡ go' x w') → after r go ≡ after r go'
  same_after (Ended x w') go go' each = each x w' refl
  same_after (Stopped kind at w') go go' each = refl

  same_tick : (K : Knowledge) (live : List Wire) (w : World) → Stands K live w → (rest : ℕ) → w.clock.rest ≡ rest → (at : Option At) (go go' : World → Ran Wire) → ((w' : World) → Stands K live w' → go w' ≡ go' w') → counted rest at w go ≡ counted rest at w go'
  same_tick K live w s zero e at go go' each = refl
  same_tick K live w s (suc n) e at go go' each =
      each (record w { clock = advanced 1 w.clock }) (goes_on K K live w (record w { clock = advanced 1 w.clock }) s (tick_later program (next_serial w) K w n s.holds e))

  same_given : {A : Type 0} (w : World) (r : Result A StopKind) (at : At) (go go' : A → Ran Wire) → ((x : A) → r ≡ Ok x → go x ≡ go' x) → given r at w go ≡ given r at w go'
  same_given w (Ok x) at go go' each = each x refl
  same_given w (Err kind) at go go' each = refl

  same_store : (K : Knowledge) (live : List Wire) (w : World) → Stands K live w → (r : Result Memory StopKind) (at : At) (go go' : World → Ran Wire) → ((m : Memory) → r ≡ Ok m → Later program (next_serial w) K w K (with_memory w m))
      → ((m : Memory) → r ≡ Ok m → Stands K live (with_memory w m) → go (with_memory w m) ≡ go' (with_memory w m)) → given (remembers w r) at w go ≡ given (remembers w r) at w go'
  same_store K live w s (Ok m) at go go' l each = each m refl (goes_on K K live w (with_memory w m) s (l m refl))
  same_store K live w s (Err kind) at go go' l each = refl

  -- ---- questions

  -- what is asked with is current
  asked_current : (K : Knowledge) (live : List Wire) (lives : Lives) (a : Asked) (sv : Service) (goes : Behind) → IsAsk program K a sv → AsksCurrent count lives live a (Some sv) goes → AreCurrent lives a.args
  asked_current K live lives a Kzalloc goes t c = c.0
  asked_current K live lives a Kcalloc goes t c = c.0
  asked_current K live lives a Kfree goes t c = c.0
  asked_current K live lives a Readl goes t c = c.0
  asked_current K live lives a Writel goes t c = c.0
  asked_current K live lives a Printk goes t c = c.0
  asked_current K live lives a RequestIrq goes t c = c.0
  asked_current K live lives a FreeIrq goes t c = c.0
  asked_current K live lives a Deliver goes t c = c.0
  asked_current K live lives a Combolock goes t c = c.0
  asked_current K live lives a Combounlock goes t c = c.0
  asked_current K live lives a Bug goes t c = c.0
  asked_current K live lives a Enter goes t c = subst (AreCurrent lives) (sym t.no_args) tt
  asked_current K live lives a Leave goes t c = c.0

  -- what follows the answers
  module _ (K K' : Knowledge) (live : List Wire) (w w' : World) (a : Asked) (goes : Behind) (rs : List Wire) (ended_so : serves a w ≡ Ended rs w') where
    -- no object was born, and none died
    same_objects : (remains : List Wire) → remains ≡ live → Stands K' remains w' → (AreCurrent (is_live w.memory) a.args × ((lives' : Lives) (rs : List Wire) → KnowsLives count lives' live → AreCurrent lives' rs → goes lives' live rs)) → goes (is_live w'.memory) remains rs
    same_objects remains same s c =
        subst (λ (vs : List Wire). goes (is_live w'.memory) vs rs) (sym same)
        (c.1 (is_live w'.memory) rs (subst (KnowsLives count (is_live w'.memory)) same (known_lives K' remains w' s)) (alive.served a w rs w' ended_so))

    answered : (sv : Service) (remains : List Wire) → service_numbered a.service ≡ Some sv → Leaves sv a live remains → IsServed program K' a sv rs → Stands K' (behind sv remains rs) w' → AsksCurrent count (is_live w.memory) live a (Some sv) goes → goes (is_live w'.memory) (behind sv remains rs) rs
    answered Kzalloc remains names same g s c = same_objects remains same s c
    answered Kcalloc remains names same g s c = same_objects remains same s c
    answered Kfree remains names same g s c = same_objects remains same s c
    answered Readl remains names same g s c = same_objects remains same s c
    answered Writel remains names same g s c = same_objects remains same s c
    answered Printk remains names same g s c = same_objects remains same s c
    answered RequestIrq remains names same g s c = same_objects remains same s c
    answered FreeIrq remains names same g s c = same_objects remains same s c
    answered Deliver remains names same g s c = same_objects remains same s c
    answered Combolock remains names same g s c = same_objects remains same s c
    answered Combounlock remains names same g s c = same_objects remains same s c
    answered Bug remains names same g s c = same_objects remains same s c
    answered Enter remains names same g s c =
        subst (λ (vs : List Wire). goes (is_live w'.memory) (vs ++ rs) rs) (sym same)
        (c (is_live w'.memory) rs (born_many program K' a.shapes rs g) (subst (λ (vs : List Wire). KnowsLives count (is_live w'.memory) (vs ++ rs)) same (known_lives K' (remains ++ rs) w' s)))
    answered Leave remains names apart g s c = subst (λ (lives : Lives). goes lives remains rs) (sym (alive.left a w rs w' names c.0 ended_so)) (c.1 remains apart rs)

  -- ---- code

  tree_alive : (t : Tree) (K : Knowledge) (live : List Wire) → FairTo most program side result K live t → (w : World) → Stands K live w → Current count (is_live w.memory) live t → run here before t w ≡ run_alive there before' t w
  unfolding run run_alive
  tree_alive Tree.Idle K live fair w s c = elim fair [ ]
  tree_alive (Tree.Waits k) K live fair w s c = elim fair [ ]
  tree_alive (Tree.Done v t) K live fair w s c = same_end w.memory v w (is_gone w.memory v) refl (current_here w.memory v c)
  tree_alive (Tree.Stop kind at) K live fair w s c = refl
  tree_alive (Tree.Tick at d t) K live fair w s c =
      same_try (before d w) _ _
      (λ x w' e. let r = around.tries K w s.uses_are s.holds d x w' e in
      let s' : Stands r.known live w' = goes_on K r.known live w w' s r.left in
      same_tick r.known live w' s' w'.clock.rest refl (Some at) _ _ (λ w'' s''. tree_alive t r.known live (fair.3 r.known r.left.grows) w'' s'' (c (is_live w''.memory) (known_lives r.known live w'' s''))))
      ∙ ap (λ (r : Work). then r (λ w'. counted w'.clock.rest (Some at) w' (λ w''. run_alive there before' t w''))) (alive.tries K w s.uses_are s.holds d)
  tree_alive (Tree.Load at p k) K live fair w s c =
      same_given w (loaded (allowed w) w.memory p) at _ _
      (λ v e. tree_alive (k v) K live (fair.1.3 v (loaded_fits program sound K w s.holds (allowed w) fair.1.0 p v fair.1.1 fair.1.2 e)) w s (c v (loaded_current program K w.memory s.holds.memory (allowed w) p v e)))
  tree_alive (Tree.Store at p v t) K live fair w s c =
      same_store K live w s (stored (allowed w) w.memory p v) at _ _
      (λ m e. stored_later program sound K w s.holds (allowed w) (next_serial w) fair.1.0 p v m fair.1.1 fair.1.2 e)
      (λ m e s'. tree_alive t K live fair.2 (with_memory w m) s' (subst (λ (lives : Lives). Current count lives live t) (sym (stored_lives (allowed w) w.memory m p v e)) c))
  tree_alive (Tree.Read at p n k) K live fair w s c = same_given w (read (allowed w) w.memory p n) at _ _ (λ bs e. tree_alive (k bs) K live (fair.2 bs (read_long (allowed w) w.memory p n bs e)) w s (c bs))
  tree_alive (Tree.Fresh at v k) K live fair w s c =
      same_given w (fresh w.memory v) at _ _
      (λ x e. tree_alive (k x) K live (subst (λ (y : Wire). FairTo most program side result K live (k y)) (fresh_is w.memory v x e) fair.2) w s (c x (fresh_current w.memory v x e)))
  tree_alive (Tree.Birth at shapes k) K live fair w s c =
      let all : AreJoined program from live shapes K w = objects_born program sound from live shapes fair.1 K w s.early s.holds s.objects in
      let there_now : Stands all.known (live ++ (births program Auto shapes w).pointers) (births program Auto shapes w).memory =
      goes_with K all.known live (live ++ (births program Auto shapes w).pointers) w (births program Auto shapes w).memory s all.later all.objects in
      tree_alive (k (births program Auto shapes w).pointers) all.known (live ++ (births program Auto shapes w).pointers) (fair.2 all.known all.later.grows (births program Auto shapes w).pointers all.born) (births program Auto shapes w).memory there_now
      (c (is_live (births program Auto shapes w).memory.memory) (births program Auto shapes w).pointers (births_many program Auto shapes w) (known_lives all.known (live ++ (births program Auto shapes w).pointers) (births program Auto shapes w).memory there_now))
  tree_alive (Tree.Death at ps t) K live fair w s c =
      let all : AreDead program from fair.2.0 ps K w = objects_died program sound from fair.2.0 ps K w s.holds (subst (AreObjects w.memory from) fair.2.1 s.objects) in
      tree_alive t K fair.2.0 fair.2.2 (deaths ps w) (goes_with K K live fair.2.0 w (deaths ps w) s all.later all.objects)
      (subst (λ (lives : Lives). Current count lives fair.2.0 t) (sym (deaths_live ps w)) (c.1 fair.2.0 fair.2.1))
  tree_alive (Tree.Ask a k) K live fair w s c =
      let now : AsksCurrent count (is_live w.memory) live a (Some fair.1.0) (λ lives' own' rs. Current count lives' own' (k rs)) = subst (λ o. AsksCurrent count (is_live w.memory) live a o (λ lives' own' rs. Current count lives' own' (k rs))) fair.1.1 c in
      same_after (serves a w) _ _
      (λ rs w' e. let r = around.serve K w s.uses_are s.holds from live fair.1.3.0 a fair.1.0 s.early s.objects fair.1.1 fair.1.2 fair.1.3.1 rs w' e in
      let s' : Stands r.known (behind fair.1.0 fair.1.3.0 rs) w' = goes_with K r.known live (behind fair.1.0 fair.1.3.0 rs) w w' s r.left r.gives.objects in
      tree_alive (k rs) r.known (behind fair.1.0 fair.1.3.0 rs) (fair.1.3.2 r.known r.left.grows rs r.gives.served) w' s'
      (answered K r.known live w w' a (λ lives' own' qs. Current count lives' own' (k qs)) rs e fair.1.0 fair.1.3.0 fair.1.1 fair.1.3.1 r.gives.served s' now))
      ∙ ap (λ (r : Ran (List Wire)). after r (λ rs w'. run_alive there before' (k rs) w'))
      (alive.serve K w s.uses_are s.holds a (asked_current K live (is_live w.memory) a fair.1.0 (λ lives' own' rs. Current count lives' own' (k rs)) fair.1.2 now))
  tree_alive (Tree.Cross at f args d k) K live fair w s c =
      same_after (crosses at f args d w) _ _
      (λ v w' e. let r = around.cross K w s.uses_are s.holds at f args d fair.2.0 fair.0 fair.1 fair.2.1 v w' e in
      let s' : Stands r.known live w' = goes_on K r.known live w w' s r.left in
      tree_alive (k v) r.known live (fair.2.2 r.known r.left.grows v r.gives) w' s' (c.1 (is_live w'.memory) v (known_lives r.known live w' s') (alive.result at f args d w v w' e)))
      ∙ ap (λ (r : Ran Wire). after r (λ v w'. run_alive there before' (k v) w')) (alive.cross K w s.uses_are s.holds at f args d fair.2.0 fair.0 fair.1 fair.2.1 c.0)

-- running code of a fair tree whose values are current
pub code_alive : (program : Program) → IsSound program → (uses : Uses) (serves : Asked → World → Ran (List Wire)) (crosses : Crossing) (before : Before) (side : Side) → EndsAround program uses side serves crosses before → (allowed : World → Cell → Bool)
    → (most : ℕ) (result : Ty) (serves' : Asked → World → Ran (List Wire)) (crosses' : Crossing) (before' : Before) → AreAliveAround program uses side serves crosses before serves' crosses' before'
    → (K : Knowledge) (w : World) (t : Tree) → K.uses ≡ uses → Holds program K w → FairTo most program side result K [] t → Current (length program.globals) (is_live w.memory) [] t
    → run (record { accesses = accesses program allowed; serves = serves; crosses = crosses }) before t w ≡ run_alive (record { accesses = accesses program allowed; serves = serves'; crosses = crosses' }) before' t w
code_alive program sound uses serves crosses before side around allowed most result serves' crosses' before' alive K w t same h fair current =
    tree_alive program sound uses serves crosses before side around allowed most result (next_serial w) serves' crosses' before' alive t K [] fair w
    (record { holds = h; uses_are = same; early = omega arith; objects = tt }) current
