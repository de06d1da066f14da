-- Code of the kernel half, and of the user half, leads to the whole's code.
use Rattle.std.proofs.Common.{◌≡◌, ℕ, zero, suc, ◌<◌, ◌≤◌, Bool, true, false, not, List, [], ◌∷◌, Option, Some, None, Result, Ok, Err, refl, sym, ◌∙◌, ap, subst, arith, le_refl}
use Rattle.mdr_core.specs.declared.place.At.{At}
use Rattle.mdr_core.specs.declared.plan.Plan.{Plan}
use Rattle.mdr_core.specs.declared.program.Program.{Program}
use Rattle.mdr_core.specs.declared.stop.StopKind.{StopKind}
use Rattle.mdr_core.specs.declared.types.Ty.TheVariants.{Void}
use Rattle.mdr_core.specs.Layout.{chosen}
use Rattle.mdr_extents.specs.Reaching.{Failing, visible}
use Rattle.mdr_meaning.specs.declared.wire.Wire.{Wire}
use Rattle.mdr_meaning.specs.Bodies.{body_of, kernel_side, known_of, means, started, user_side, whole_side}
use Rattle.mdr_meaning.specs.Calls.{goes_to}
use Rattle.mdr_meaning.specs.Lives.{asked_for, deaths_by}
use Rattle.mdr_meaning.specs.Sides.{Body, Here, Means, Side}
use Rattle.mdr_meaning.specs.Tree.{Asked, Tree}
use Rattle.mdr_model.specs.declared.memory.Cell.{Cell}
use Rattle.mdr_model.specs.Memory.{normal}
use Rattle.mdr_plain.specs.declared.outcome.Happened.TheVariants as happened
use Rattle.mdr_plain.specs.Atomic.{is_atomic}
use Rattle.mdr_plain.specs.Gate.{are_none, due}
use Rattle.mdr_plain.specs.Plain.{never, whole}
use Rattle.mdr_plain.specs.Running.{Before, Crossing, KernelCode, all_cells, call, handled, handling, in_kernel, interrupted, interrupts, nothing, run}
use Rattle.mdr_plain.specs.Services.{served}
use Rattle.mdr_plain.specs.Storage.{deaths, next_serial}
use Rattle.mdr_plain.specs.World.{World, Ran, Ended, Stopped, after}
use Rattle.mdr_watched.specs.Driver.{Driver, driver_of, entry_roots, is_user, touched_by}
use Rattle.mdr_watched.specs.Kept.{due_plainly, free, meets_user, unless_due}
use Rattle.mdr_watched.specs.Views.{closed, gained, may_touch, opened, renewed, taken}
use Rattle.mdr_watched.specs.Watched.{closing, may_not, returns_to}
use Rattle.mdr_kept.specs.Strict.{asks, call_alive, called, entered, goes_down, goes_up, handled_alive, in_user, is_any_gone, is_gone, now, run_alive, tries, unless, upcall, ups}
use Rattle.mdr_kept.proofs.EvenLaws.{Both, Even, Leads, all_alive, deaths_alike, deaths_rest, due_alike, ended, even_noted, even_rest, fewer, leads_after, leads_unless, never_ends, normal_alive, normal_like, served_leads}
use Rattle.mdr_kept.proofs.GoesLaws.{Goes, after_after, goes_ask, goes_birth, goes_born, goes_death, goes_fresh, goes_load, goes_read, goes_stop, goes_store, goes_tick}
use Rattle.mdr_kept.proofs.LikeLaws.{AreLike, Like, same_list}
use Rattle.mdr_kept.proofs.PartLaws.{Absent, IsFar, IsPart, Rules, Shared, starts_alike}

same_part : (o : Option Body) → IsPart o o
same_part None = Absent None
same_part (Some body) = Shared body

kernel_part : (b : Bool) (o : Option Body) → IsPart (chosen b o None) o
kernel_part true o = same_part o
kernel_part false o = Absent o

user_part : (b : Bool) (o : Option Body) → IsPart (chosen b None o) o
user_part true o = Absent o
user_part false o = same_part o

after_ended : {A : Type 0} (r : Ran A) → after r Ended ≡ r
after_ended (Ended x w) = refl
after_ended (Stopped kind at w) = refl

none_is : (views : List (List Cell)) → are_none views ≡ true → views ≡ []
none_is [] e = refl
none_is (set ∷ sets) e = absurd cc

even_handling : (b : Bool) (w w' : World) → Even w w' → Even (handling b w) (handling b w')
even_handling b w w' e = record { is = ap (handling b) e.is; alone = e.alone }

-- visible sets are set aside
even_views : (w w' : World) (views : List (List Cell)) → Even w w' → Even (record w { views = views }) w'
even_views w w' views e = record { is = e.is; alone = e.alone }

-- what is alive is passed as it is, also where it is passed as a value now
given_alive : (w w' : World) (v v' : Wire) → is_gone w.memory v ≡ false → Like v v' → Even w w' → Like v (normal w'.memory v')
given_alive w w' v v' alive like e = subst (λ x. Like x (normal w'.memory v')) (normal_alive w.memory v alive) (normal_like w w' v v' e like)

module _ (program : Program) (plan : Plan) where
  abbrev d : Driver
  d = driver_of program plan

  abbrev is_kernel : ℕ → Bool
  is_kernel f = not (is_user plan f)

  abbrev kernel_own : ℕ → Option Body
  kernel_own f = chosen (is_kernel f) (body_of program f) None

  abbrev user_own : ℕ → Option Body
  user_own f = chosen (is_kernel f) None (body_of program f)

  abbrev all : Side
  all = record { known = known_of program; own = body_of program; asks = false }

  abbrev plain_kernel : KernelCode
  plain_kernel = whole program (whole_side program)

  kernel_asks : (q : Asked) (args : List Wire) (w w' : World) → AreLike q.args args → Even w w' → Leads AreLike w.clock.rest (served program q w) (served program (record q { args = args }) w')
  kernel_asks q args w w' like e = served_leads program q args w w' like e

  -- what follows a result leads to what follows one that is alike
  record Onward (before' : Before) (r : ℕ) (go : Wire → World → Ran Wire) (l : Wire → Tree) : Type 0 where
    by : (q : ℕ) (v v' : Wire) (u u' : World) → u.clock.rest ≤ q → q ≤ r → is_gone u.memory v ≡ false → Like v v' → Even u u' → Leads Like q (go v u) (run (in_kernel program never) before' (l v') u')

  to_end : (before' : Before) (r : ℕ) → Onward before' r Ended (λ v. Tree.Done v Tree.Idle)
  unfolding run
  to_end before' r = record { by = λ q v v' u u' few fewer' alive like even. ended Like q v (normal u'.memory v') u u' (given_alive u u' v v' alive like even) even few }

  -- where code ends
  ends_onward : (before' : Before) (r q : ℕ) (go : Wire → World → Ran Wire) (l : Wire → Tree) → Onward before' r go l → q ≤ r → (v v' : Wire) → Like v v' → (u u' : World) → Even u u' → u.clock.rest ≤ q → (b : Bool) → is_gone u.memory v ≡ b
      → Leads Like q (after (unless b None u (Ended v u)) go) (run (in_kernel program never) before' (l v') u')
  ends_onward before' r q go l on fewer' v v' like u u' even few true is = never_ends Like q _ _ u _
  ends_onward before' r q go l on fewer' v v' like u u' even few false is = on.by q v v' u u' few fewer' is like even

  -- a function of the other half that is called leads to the same one in its place, whatever follows
  record ArePlaced (crosses : Crossing) (before' : Before) : Type 0 where
    by : (n r f : ℕ) (args args' : List Wire) → AreLike args args' → (here : Here) (at at' : At) (go : Wire → World → Ran Wire) (l : Wire → Tree) (w w' : World) → Even w w' → w.clock.rest ≤ r → r < n → Onward before' r go l
        → Leads Like r (after (crosses at f args here.depth w) go) (run (in_kernel program never) before' (goes_to all (means all n) here at' f args' (body_of program f) l) w')

  none_placed : (before' : Before) → ArePlaced may_not before'
  none_placed before' = record { by = λ n r f args args' like here at at' go l w w' even h less on. never_ends Like r _ _ w _ }

  -- ---- the kernel half

  module _ (crosses : Crossing) (before before' : Before) (placed : ArePlaced crosses before') (go : Wire → World → Ran Wire) (tried : (n : ℕ) (w w' : World) → Even w w' → Leads Both w.clock.rest (before n w) (before' n w')) where
    abbrev InKernel : ℕ → Tree → Tree → Type 0
    InKernel = Goes program all_cells (served program) crosses before before' go tried kernel_asks

    -- kernel code calls user code back
    kernel_crosses : (r : ℕ) (here : Here) (at at' : At) (f : ℕ) (args args' : List Wire) (k l : Wire → Tree) (low : Means) → kernel_own f ≡ None → IsFar all r low → AreLike args args'
        → ((q : ℕ) → q ≤ r → (v w : Wire) → Like v w → InKernel q (k v) (l w)) → InKernel r (Tree.Cross at f args here.depth k) (goes_to all low here at' f args' (body_of program f) l)
    unfolding run run_alive
    kernel_crosses r here at at' f args args' k l low none far like e = record {
      by = λ w w' even h.
          subst (λ q. Leads Like r q (run (in_kernel program never) before' (goes_to all low here at' f args' (body_of program f) l) w')) (sym (after_after (crosses at f args here.depth w) (λ v u. run_alive (in_kernel program crosses) before (k v) u) go))
          (subst (λ (m : Means). Leads Like r (after (crosses at f args here.depth w) (λ v u. after (run_alive (in_kernel program crosses) before (k v) u) go)) (run (in_kernel program never) before' (goes_to all m here at' f args' (body_of program f) l) w')) (sym far.is)
          (placed.by far.fuel r f args args' like here at at' (λ v u. after (run_alive (in_kernel program crosses) before (k v) u) go) l w w' even h far.enough
          (record { by = λ q v v' u u' few fewer' alive b even'. (e q fewer' v v' b).by u u' even' few })));
    }

    kernel_rules : Rules InKernel false kernel_own all
    kernel_rules = record {
      stop = goes_stop program all_cells (served program) crosses before before' go tried kernel_asks;
      tick = goes_tick program all_cells (served program) crosses before before' go tried kernel_asks;
      load = goes_load program all_cells (served program) crosses before before' go tried kernel_asks;
      store = goes_store program all_cells (served program) crosses before before' go tried kernel_asks;
      read = goes_read program all_cells (served program) crosses before before' go tried kernel_asks;
      fresh = goes_fresh program all_cells (served program) crosses before before' go tried kernel_asks;
      ask = goes_ask program all_cells (served program) crosses before before' go tried kernel_asks;
      birth = goes_birth program all_cells (served program) crosses before before' go tried kernel_asks;
      death = goes_death program all_cells (served program) crosses before before' go tried kernel_asks;
      cross = kernel_crosses;
    }

    -- a function of the kernel half, against the same one in its place
    kernel_goes : (n r f : ℕ) (args args' : List Wire) → AreLike args args' → (here : Here) (at : At) (l : Wire → Tree) (w w' : World) → Even w w' → w.clock.rest ≤ r → r < n → Onward before' r go l
        → Leads Like w.clock.rest (after (call_alive d crosses before f args here.depth w) go) (run (in_kernel program never) before' (goes_to all (means all n) here at f args' (body_of program f) l) w')
    unfolding run run_alive kernel_side
    kernel_goes n r f args args' like here at l w w' even h less on =
        (starts_alike InKernel false (known_of program) kernel_own (body_of program) (λ g. kernel_part (is_kernel g) (body_of program g)) kernel_rules
        (suc w.clock.rest) n w.clock.rest f (omega arith) (omega (arith, h, less)) args args' like here at l
        (λ q few v v' b. record { by = λ u u' even' h'. ends_onward before' r q go l on (omega (arith, few, h)) v v' b u u' even' h' (is_gone u.memory v) refl })).by w w' even (le_refl w.clock.rest)

  calls_lead : (crosses : Crossing) (before before' : Before) → ArePlaced crosses before' → ((n : ℕ) (w w' : World) → Even w w' → Leads Both w.clock.rest (before n w) (before' n w')) → (f : ℕ) (args : List Wire) (depth : ℕ) (w w' : World) → Even w w'
      → Leads Like w.clock.rest (call_alive d crosses before f args depth w) (call plain_kernel before' f args depth w')
  unfolding call started whole_side
  calls_lead crosses before before' placed tried f args depth w w' even =
      subst (λ q. Leads Like w.clock.rest q (call plain_kernel before' f args depth w')) (after_ended (call_alive d crosses before f args depth w))
      (kernel_goes crosses before before' placed Ended tried (suc w'.clock.rest) w.clock.rest f args args (same_list args) (record { func = f; depth = depth; slots = []; result = Void }) (record { func = f; stmt = 0 }) (λ v. Tree.Done v Tree.Idle) w w' even
      (le_refl w.clock.rest) (let same : w.clock.rest ≡ w'.clock.rest = even_rest w w' even in let less : w.clock.rest < suc w'.clock.rest = omega (arith, same) in less) (to_end before' w.clock.rest))

  -- ---- interrupts

  even_interrupted : (f : ℕ) (w w' : World) → Even w w' → Even (interrupted f w) (interrupted f w')
  even_interrupted f w w' even = even_handling true _ _ (even_noted (happened.Irq f) (happened.Irq f) w w' refl even)

  handled_leads : (n : ℕ) (o : Option ℕ) (w w' : World) → Even w w' → Leads Both w.clock.rest (handled_alive d n o w) (handled plain_kernel n o w')
  handled_leads n None w w' even = ended Both w.clock.rest tt tt w w' tt even (le_refl w.clock.rest)
  handled_leads n (Some f) w w' even =
      leads_after Like Both w.clock.rest w.clock.rest _ _ _ _
      (calls_lead may_not nothing nothing (none_placed nothing) (λ n' u u' e. ended Both u.clock.rest tt tt u u' tt e (le_refl u.clock.rest)) f [] n (interrupted f w) (interrupted f w') (even_interrupted f w w' even))
      (λ v v' u u' like e h. ended Both w.clock.rest tt tt (handling false u) (handling false u') tt (even_handling false u u' e) h)

  unless_leads : (n : ℕ) (o : Option ℕ) (w w' : World) → Even w w' → Leads Both w.clock.rest (unless_due o w) (handled plain_kernel n o w')
  unless_leads n None w w' even = ended Both w.clock.rest tt tt w w' tt even (le_refl w.clock.rest)
  unless_leads n (Some f) w w' even = never_ends Both w.clock.rest _ _ w _

  pub tries_lead : (n : ℕ) (w w' : World) → Even w w' → Leads Both w.clock.rest (tries d n w) (interrupts plain_kernel n w')
  unfolding interrupts
  tries_lead n w w' even = of (are_none w.views) refl
    where
      of : (t : Bool) → are_none w.views ≡ t → Leads Both w.clock.rest (chosen t (handled_alive d n (due w) w) (unless_due (due_plainly w) w)) (handled plain_kernel n (due w') w')
      of true e =
          let same : due w ≡ due w' = ap (λ (vs : List (List Cell)). due (record w { views = vs })) (none_is w.views e) ∙ due_alike w w' even in
          subst (λ o. Leads Both w.clock.rest (handled_alive d n o w) (handled plain_kernel n (due w') w')) (sym same) (handled_leads n (due w') w w' even)
      of false e = subst (λ o. Leads Both w.clock.rest (unless_due o w) (handled plain_kernel n (due w') w')) (sym (due_alike w w' even)) (unless_leads n (due w') w w' even)

  user_tries_lead : (n : ℕ) (w w' : World) → Even w w' → Leads Both w.clock.rest (meets_user n w) (interrupts plain_kernel n w')
  unfolding interrupts
  user_tries_lead n w w' even = subst (λ o. Leads Both w.clock.rest (unless_due o w) (handled plain_kernel n (due w') w')) (sym (due_alike w w' even)) (unless_leads n (due w') w w' even)

  -- ---- the user half

  gains_leads : (t : ℕ) (q : Asked) (args : List Wire) (w w' : World) → AreLike q.args args → Even w w'
      → Leads AreLike w.clock.rest (after (served program q w) (λ results u. Ended results (gained program (touched_by plan t) (next_serial w) u))) (served program (record q { args = args }) w')
  gains_leads t q args w w' like even =
      subst (λ s. Leads AreLike w.clock.rest (after (served program q w) (λ results u. Ended results (gained program (touched_by plan t) (next_serial w) u))) s) (after_ended (served program (record q { args = args }) w'))
      (leads_after AreLike AreLike w.clock.rest w.clock.rest _ _ _ _ (served_leads program q args w w' like even)
      (λ results results' u u' a e h. ended AreLike w.clock.rest results results' (gained program (touched_by plan t) (next_serial w) u) u' a (even_views u u' _ e) h))

  asks_lead : (t : ℕ) (q : Asked) (args : List Wire) (w w' : World) → AreLike q.args args → Even w w' → Leads AreLike w.clock.rest (asks d t q w) (served program (record q { args = args }) w')
  asks_lead t q args w w' like even = leads_unless AreLike _ (is_any_gone w.memory q.args) (Some q.at) w _ _ (λ e. gains_leads t q args w w' like even)

  module _ (crosses : Crossing) (placed : ArePlaced crosses (interrupts plain_kernel)) (t : ℕ) (go : Wire → World → Ran Wire) where
    abbrev InUser : ℕ → Tree → Tree → Type 0
    InUser = Goes program may_touch (asks d t) (goes_down d t crosses) meets_user (interrupts plain_kernel) go user_tries_lead (asks_lead t)

    -- deaths that are asked for, of what is alive
    user_dies : (r : ℕ) (at : At) (ps qs : List Wire) (u u' : Tree) → AreLike ps qs → InUser r u u' → InUser r (deaths_by true at ps u) (Tree.Death at qs u')
    unfolding run run_alive served
    user_dies r at ps qs u u' like e = record { by = λ w w' even h. of w w' even h (is_any_gone w.memory ps) refl }
      where
        gain : World → List Wire → World → Ran (List Wire)
        gain w results x = Ended results (gained program (touched_by plan t) (next_serial w) x)

        more : List Wire → World → Ran Wire
        more results x = run_alive (in_user d t crosses) meets_user u x

        of : (w w' : World) → Even w w' → w.clock.rest ≤ r → (b : Bool) → is_any_gone w.memory ps ≡ b
            → Leads Like r (after (after (unless b (Some at) w (after (served program (asked_for 14 at ps [] []) w) (gain w))) more) go)
            (run (in_kernel program never) (interrupts plain_kernel) u' (deaths qs w'))
        of w w' even h true alive = never_ends Like r _ _ w _
        of w w' even h false alive =
            subst (λ xs. Leads Like r (after (after (after (Ended [] (deaths xs w)) (gain w)) more) go) (run (in_kernel program never) (interrupts plain_kernel) u' (deaths qs w'))) (sym (all_alive w.memory ps alive))
            (e.by (gained program (touched_by plan t) (next_serial w) (deaths ps w)) (deaths qs w') (even_views (deaths ps w) (deaths qs w') _ (deaths_alike ps qs w w' like even))
            (let same : (deaths ps w).clock.rest ≡ w.clock.rest = deaths_rest ps w in omega (arith, same, h)))

    -- what user code goes on with behind a function of the kernel half
    abbrev onward : (Wire → Tree) → At → ℕ → List Wire → Wire → World → Ran Wire
    onward k at f args v w = after (after (returns_to d (free d) t at f args v w) (λ v' u. run_alive (in_user d t crosses) meets_user (k v') u)) go

    set_goes : (q : ℕ) (k l : Wire → Tree) (at : At) (o : Result (List Cell) Failing) (v v' : Wire) (w w' : World) → Even w w' → w.clock.rest ≤ q → InUser q (k v) (l v')
        → Leads Like q (after (after (taken o at w (λ set. Ended v (renewed set w))) (λ x u. run_alive (in_user d t crosses) meets_user (k x) u)) go) (run (in_kernel program never) (interrupts plain_kernel) (l v') w')
    set_goes q k l at (Ok set) v v' w w' even h e = e.by (renewed set w) w' (even_views w w' _ even) h
    set_goes q k l at (Err failing) v v' w w' even h e = never_ends Like q _ _ w _

    user_crosses : (r : ℕ) (here : Here) (at at' : At) (f : ℕ) (args args' : List Wire) (k l : Wire → Tree) (low : Means) → user_own f ≡ None → IsFar all r low → AreLike args args'
        → ((q : ℕ) → q ≤ r → (v w : Wire) → Like v w → InUser q (k v) (l w)) → InUser r (Tree.Cross at f args here.depth k) (goes_to all low here at' f args' (body_of program f) l)
    unfolding run run_alive
    user_crosses r here at at' f args args' k l low none far like e = record { by = λ w w' even h. of w w' even h (is_any_gone w.memory args) refl }
      where
        of : (w w' : World) → Even w w' → w.clock.rest ≤ r → (b : Bool) → is_any_gone w.memory args ≡ b
            → Leads Like r (after (after (unless b (Some at) w (after (call_alive d crosses (tries d) f (now w args) here.depth w) (λ v u. returns_to d (free d) t at f (now w args) v u))) (λ v' u. run_alive (in_user d t crosses) meets_user (k v') u)) go)
            (run (in_kernel program never) (interrupts plain_kernel) (goes_to all low here at' f args' (body_of program f) l) w')
        of w w' even h true alive = never_ends Like r _ _ w _
        of w w' even h false alive =
            let joined = ap (λ (q : Ran Wire). after q go) (after_after (call_alive d crosses (tries d) f (now w args) here.depth w) (λ v u. returns_to d (free d) t at f (now w args) v u) (λ v' u. run_alive (in_user d t crosses) meets_user (k v') u))
            ∙ after_after (call_alive d crosses (tries d) f (now w args) here.depth w) (λ v u. after (returns_to d (free d) t at f (now w args) v u) (λ v' x. run_alive (in_user d t crosses) meets_user (k v') x)) go in
            subst (λ q. Leads Like r q (run (in_kernel program never) (interrupts plain_kernel) (goes_to all low here at' f args' (body_of program f) l) w')) (sym joined)
            (fewer Like w.clock.rest r _ _ h
            (subst (λ (m : Means). Leads Like w.clock.rest (after (call_alive d crosses (tries d) f (now w args) here.depth w) (onward k at f (now w args))) (run (in_kernel program never) (interrupts plain_kernel) (goes_to all m here at' f args' (body_of program f) l) w')) (sym far.is)
            (kernel_goes crosses (tries d) (interrupts plain_kernel) placed (onward k at f (now w args)) tries_lead far.fuel r f (now w args) args' (subst (λ vs. AreLike vs args') (sym (all_alive w.memory args alive)) like) here at' l w w' even h far.enough
            (record { by = λ q v v' u u' h' few living like' even'. set_goes q k l at _ v v' u u' even' h' (e q few v v' like') }))))

    user_rules : Rules InUser true user_own all
    user_rules = record {
      stop = goes_stop program may_touch (asks d t) (goes_down d t crosses) meets_user (interrupts plain_kernel) go user_tries_lead (asks_lead t);
      tick = goes_tick program may_touch (asks d t) (goes_down d t crosses) meets_user (interrupts plain_kernel) go user_tries_lead (asks_lead t);
      load = goes_load program may_touch (asks d t) (goes_down d t crosses) meets_user (interrupts plain_kernel) go user_tries_lead (asks_lead t);
      store = goes_store program may_touch (asks d t) (goes_down d t crosses) meets_user (interrupts plain_kernel) go user_tries_lead (asks_lead t);
      read = goes_read program may_touch (asks d t) (goes_down d t crosses) meets_user (interrupts plain_kernel) go user_tries_lead (asks_lead t);
      fresh = goes_fresh program may_touch (asks d t) (goes_down d t crosses) meets_user (interrupts plain_kernel) go user_tries_lead (asks_lead t);
      ask = goes_ask program may_touch (asks d t) (goes_down d t crosses) meets_user (interrupts plain_kernel) go user_tries_lead (asks_lead t);
      birth = goes_born program may_touch (asks d t) (goes_down d t crosses) meets_user (interrupts plain_kernel) go user_tries_lead (asks_lead t);
      death = user_dies;
      cross = user_crosses;
    }

    -- a function of the user half, against the same one in its place
    user_goes : (n r : ℕ) (args args' : List Wire) → AreLike args args' → (here : Here) (at : At) (l : Wire → Tree) (w w' : World) → Even w w' → w.clock.rest ≤ r → r < n → Onward (interrupts plain_kernel) r go l
        → Leads Like w.clock.rest (after (run_alive (in_user d t crosses) meets_user (started d.user (suc w.clock.rest) t args here.depth Tree.Idle) w) go)
        (run (in_kernel program never) (interrupts plain_kernel) (goes_to all (means all n) here at t args' (body_of program t) l) w')
    unfolding run run_alive user_side
    user_goes n r args args' like here at l w w' even h less on =
        (starts_alike InUser true (known_of program) user_own (body_of program) (λ g. user_part (is_kernel g) (body_of program g)) user_rules
        (suc w.clock.rest) n w.clock.rest t (omega arith) (omega (arith, h, less)) args args' like here at l
        (λ q few v v' b. record { by = λ u u' even' h'. ends_onward (interrupts plain_kernel) r q go l on (omega (arith, few, h)) v v' b u u' even' h' (is_gone u.memory v) refl })).by w w' even (le_refl w.clock.rest)

  -- ---- upcalls

  after_closing : (r : Ran Wire) (go : Wire → World → Ran Wire) → after (closing r) go ≡ after r (λ v w. go v (closed w))
  after_closing (Ended v w) go = refl
  after_closing (Stopped kind at w) go = refl

  taken_leads : (n : ℕ) (o : Result (List Cell) Failing) (at : At) (w : World) (go : List Cell → Ran Wire) (more : Wire → World → Ran Wire) (s : Ran Wire) → ((set : List Cell) → Leads Like n (after (go set) more) s) → Leads Like n (after (taken o at w go) more) s
  taken_leads n (Ok set) at w go more s each = each set
  taken_leads n (Err failing) at w go more s each = never_ends Like n _ _ w s

  closes_onward : (before' : Before) (r : ℕ) (go : Wire → World → Ran Wire) (l : Wire → Tree) → Onward before' r go l → Onward before' r (λ v w. go v (closed w)) l
  closes_onward before' r go l on = record { by = λ q v v' u u' few fewer' alive like even. on.by q v v' (closed u) u' few fewer' alive like (even_views u u' _ even) }

  -- whatever follows
  up_goes : (crosses : Crossing) → ArePlaced crosses (interrupts plain_kernel) → (n r f : ℕ) (args args' : List Wire) → AreLike args args' → (here : Here) (at : At) (go : Wire → World → Ran Wire) (l : Wire → Tree) (w w' : World) → Even w w' → w.clock.rest ≤ r → r < n → Onward (interrupts plain_kernel) r go l
      → Leads Like r (after (upcall d crosses f args here.depth w) go) (run (in_kernel program never) (interrupts plain_kernel) (goes_to all (means all n) here at f args' (body_of program f) l) w')
  up_goes crosses placed n r f args args' like here at go l w w' even h less on =
      taken_leads r (visible program (touched_by plan f) w.memory [] (entry_roots program f args)) (record { func = f; stmt = 0 }) w (λ set. entered d crosses f args here.depth set w) go _
      (λ set. subst (λ q. Leads Like r q (run (in_kernel program never) (interrupts plain_kernel) (goes_to all (means all n) here at f args' (body_of program f) l) w'))
      (sym (after_closing (run_alive (in_user d f crosses) meets_user (started d.user (suc w.clock.rest) f args here.depth Tree.Idle) (opened set w)) go))
      (fewer Like w.clock.rest r _ _ h
      (user_goes crosses placed f (λ v u. go v (closed u)) n r args args' like here at l (opened set w) w' (even_views w w' _ even) h less (closes_onward (interrupts plain_kernel) r go l on))))

  chosen_leads : (n : ℕ) (b : Bool) (kind : StopKind) (at : Option At) (w : World) (r : Ran Wire) (go : Wire → World → Ran Wire) (s : Ran Wire) → Leads Like n (after r go) s → Leads Like n (after (chosen b (Stopped kind at w) r) go) s
  chosen_leads n true kind at w r go s h = never_ends Like n kind at w s
  chosen_leads n false kind at w r go s h = h

  -- kernel code that calls back so passes nothing dead up
  alive_goes : (crosses : Crossing) → ArePlaced crosses (interrupts plain_kernel) → (n r f : ℕ) (args args' : List Wire) → AreLike args args' → (here : Here) (at at' : At) (go : Wire → World → Ran Wire) (l : Wire → Tree) (w w' : World) → Even w w' → w.clock.rest ≤ r → r < n
      → Onward (interrupts plain_kernel) r go l → (b : Bool) → is_any_gone w.memory args ≡ b
      → Leads Like r (after (unless b (Some at) w (upcall d crosses f (now w args) here.depth w)) go) (run (in_kernel program never) (interrupts plain_kernel) (goes_to all (means all n) here at' f args' (body_of program f) l) w')
  alive_goes crosses placed n r f args args' like here at at' go l w w' even h less on true alive = never_ends Like r _ _ w _
  alive_goes crosses placed n r f args args' like here at at' go l w w' even h less on false alive =
      up_goes crosses placed n r f (now w args) args' (subst (λ vs. AreLike vs args') (sym (all_alive w.memory args alive)) like) here at' go l w w' even h less on

  ups_placed : (room : ℕ) → ArePlaced (goes_up d room) (interrupts plain_kernel)
  unfolding goes_up
  ups_placed zero = record { by = λ n r f args args' like here at at' go l w w' even h less on. never_ends Like r _ _ w _ }
  ups_placed (suc room) = record {
    by = λ n r f args args' like here at at' go l w w' even h less on. chosen_leads r (is_atomic w) _ _ w _ go _
        (alive_goes (goes_up d room) (ups_placed room) n r f args args' like here at at' go l w w' even h less on (is_any_gone w.memory args) refl);
  }

  -- ---- calls

  up_leads : (f : ℕ) (args : List Wire) (w w' : World) → Even w w' → Leads Like w.clock.rest (upcall d (ups d) f args 0 w) (call plain_kernel (interrupts plain_kernel) f args 0 w')
  unfolding call started whole_side
  up_leads f args w w' even =
      subst (λ q. Leads Like w.clock.rest q (call plain_kernel (interrupts plain_kernel) f args 0 w')) (after_ended (upcall d (ups d) f args 0 w))
      (up_goes (ups d) (ups_placed 256) (suc w'.clock.rest) w.clock.rest f args args (same_list args) (record { func = f; depth = 0; slots = []; result = Void }) (record { func = f; stmt = 0 }) Ended (λ v. Tree.Done v Tree.Idle) w w' even
      (le_refl w.clock.rest) (let same : w.clock.rest ≡ w'.clock.rest = even_rest w w' even in let less : w.clock.rest < suc w'.clock.rest = omega (arith, same) in less) (to_end (interrupts plain_kernel) w.clock.rest))

  pub called_leads : (b : Bool) (f : ℕ) (args : List Wire) (w w' : World) → Even w w' → Leads Like w.clock.rest (called d b f args w) (call plain_kernel (interrupts plain_kernel) f args 0 w')
  called_leads true f args w w' even = up_leads f args w w' even
  called_leads false f args w w' even = calls_lead (ups d) (tries d) (interrupts plain_kernel) (ups_placed 256) tries_lead f args 0 w w' even
