-- The user half's work: every tree of it is served, by induction over what it still has to do, where calls of the kernel half are run.
use Rattle.std.proofs.Common.{◌≡◌, ℕ, zero, suc, ◌+◌, ◌-◌, ◌*◌, ◌<◌, ◌≤◌, ◌⊎◌, inl, inr, Bool, true, false, List, [], ◌∷◌, ◌++◌, map, Option, Some, None, Result, Ok, Err, length, refl, sym, ◌∙◌, ap, subst, arith, append-nil}
use Rattle.std.specs.Prelude.{is_some, slice_get, unwrap_or}
use Rattle.std.proofs.lemmas.Bool.{lt-ltb}
use Rattle.mdr_callees.specs.Spaced.{Spaced}
use Rattle.mdr_core.specs.declared.place.At.{At}
use Rattle.mdr_core.specs.declared.program.Func.{Func}
use Rattle.mdr_core.specs.declared.program.Param.{Param}
use Rattle.mdr_core.specs.declared.stop.StopKind.{StopKind}
use Rattle.mdr_core.specs.declared.stop.StopKind.TheVariants as stop
use Rattle.mdr_core.specs.declared.types.Ty.{Ty}
use Rattle.mdr_core.specs.Services.{Service, service_numbered}
use Rattle.mdr_extents.specs.CellOrder.{cells}
use Rattle.mdr_extents.specs.Reaching.{Failing, visible}
use Rattle.mdr_holds.proofs.Fitting.{all_now, result_now}
use Rattle.mdr_holds.proofs.Objects.{objects_behind}
use Rattle.mdr_holds.specs.Laws.{IsCalled}
use Rattle.mdr_holds.specs.Leaving.{AreObjects}
use Rattle.mdr_limits.proofs.FewSteps.{Leads as Moves, asks_lead as asks_move, itself as stays, same_height}
use Rattle.mdr_meaning.proofs.GrowthLaws.{all_grow}
use Rattle.mdr_meaning.specs.declared.wire.Wire.{Wire}
use Rattle.mdr_meaning.specs.Fair.{FairTo, IsAsk, IsCall, IsPlace, IsServed, Leaves, LoadsScalar, after as left_with}
use Rattle.mdr_meaning.specs.Few.{Few, few_idle, few_done, few_stop, few_tick, few_load, few_store, few_read, few_fresh, few_birth, few_death, few_ask, few_cross}
use Rattle.mdr_meaning.specs.Fit.{Fits, Grows, IsAddress, IsResult, Knowledge, PointsTo}
use Rattle.mdr_meaning.specs.Sides.{Body}
use Rattle.mdr_meaning.specs.Tree.{Asked, Tree}
use Rattle.mdr_meaning.specs.Walk.{Walked, on_access, walk}
use Rattle.mdr_meaning.specs.Within.{Uses}
use Rattle.mdr_model.specs.declared.command.Command.{Command}
use Rattle.mdr_model.specs.declared.memory.Cell.{Cell}
use Rattle.mdr_model.specs.declared.message.Fault.{Fault}
use Rattle.mdr_model.specs.declared.message.Answer.{Answer}
use Rattle.mdr_model.specs.declared.message.Back.{Back}
use Rattle.mdr_model.specs.declared.message.Message.TheVariants as message
use Rattle.mdr_model.specs.declared.message.Told.{Told}
use Rattle.mdr_model.specs.declared.outcome.End.TheVariants as ends
use Rattle.mdr_model.specs.declared.reply.Reply.{Reply}
use Rattle.mdr_model.specs.declared.reply.Reply.TheVariants as replies
use Rattle.mdr_model.specs.Copies.{agreed_after, tells}
use Rattle.mdr_model.specs.Memory.{Memory, loaded, normal}
use Rattle.mdr_model.specs.ReplyFaults.{stop_number, user_stop}
use Rattle.mdr_model.proofs.Tests.{and_right}
use Rattle.mdr_model.specs.Sets.{is_in}
use Rattle.mdr_model.specs.User.{renewed_copy}
use Rattle.mdr_paths.specs.Paths.{is_in as is_among}
use Rattle.mdr_plain.specs.Running.{call, interrupts, nothing, run}
use Rattle.mdr_plain.specs.Scripts.{Finish, finish}
use Rattle.mdr_plain.specs.Services.{as_now, served, served_by}
use Rattle.mdr_plain.specs.Storage.{fresh as read_local, next_serial, read, remembers}
use Rattle.mdr_plain.specs.World.{World, Ran, Ended, Stopped, advanced, after, counted as counting, given}
use Rattle.mdr_shows.proofs.Membership.{membership_is_one}
use Rattle.mdr_split.specs.Kernel.{answers, applied, asks, comes_back, continued, downcalled, judged, kernel_tree, next, runs_kernel, serviced, split_commands, taken, went}
use Rattle.mdr_split.specs.Legal.{fault_of, has_down_stub, is_object_service, is_true}
use Rattle.mdr_split.specs.Services.{asked_now, serials_of}
use Rattle.mdr_split.specs.State.{Kernel, Open, Rest, Pending, Over, Waits}
use Rattle.mdr_split.specs.State.{Down as CalledDown}
use Rattle.mdr_split.specs.User.{AwaitsAnswer, Down as Below, Runs, User, answer_fits, back_fits, deliver, done as user_done, entered_behind, grown, guarded, opened, replied, replied_to, when_fits}
use Rattle.mdr_watched.specs.Driver.{Driver, result_roots, touched_by}
use Rattle.mdr_watched.specs.Views.{closed, gained, may_touch, renewed, taken as with_set, top}
use Rattle.mdr_watched.specs.Watched.{calls_back, closing, held, in_user, kernel_of, kernel_with, returns_to, serves as serves_asked}
use Rattle.mdr_serves.proofs.Accesses
use Rattle.mdr_serves.proofs.Answers
use Rattle.mdr_serves.proofs.Fresh
use Rattle.mdr_serves.proofs.KernelWork.{agree_closed, grows_on, uses_all}
use Rattle.mdr_serves.proofs.Loaded.{is_loaded}
use Rattle.mdr_serves.proofs.Messages
use Rattle.mdr_serves.proofs.Replies
use Rattle.mdr_serves.proofs.Replies.{honest_ask, honest_down, honest_return, honest_stop}
use Rattle.mdr_serves.proofs.Results.{passed_twice}
use Rattle.mdr_serves.proofs.Relations.{Agree, AreOpened, Comes, ended, stopped, IsPaid, IsRight, IsUserStop, IsWithin, Opens, Rel, grows_same, known_by, known_grows, learns, learns_grows, open_of, owing, replied_copy, resumed, telling, told_runs, used, user_stop_of, waiting}
use Rattle.mdr_serves.proofs.Runs.{AreRun, Finishes, GoesOn, is_over, one_more, paid_less, paid_within, reply_of, user_at, walked_reply}
use Rattle.mdr_serves.proofs.Strict.{Birth, IsFresh, IsLoaded, IsStatement, Strict, fresh_after}
use Rattle.mdr_serves.proofs.Whole.{Stays, kernel_stays, objects_stay_so, parts_long, top_parts}

-- ---- an honest reply leads on

next_taken : (d : Driver) (k : Kernel) (upcall : Open) (rest : Rest) (script : List Command) (reply : Reply) → fault_of d k upcall rest reply ≡ None → next d (Ok (message.Reply reply)) k upcall rest script ≡ taken d reply k upcall rest script
unfolding next
next_taken d k upcall rest script reply e = ap (λ (f : Option Fault). judged d f reply k upcall rest script) e

-- ---- the same service, with arguments as they are now

passed_service : (d : Driver) (t : ℕ) (asked : Asked) (w : World) → serves_asked d (held d) t (as_now w asked) w ≡ serves_asked d (held d) t asked w
unfolding served
passed_service d t asked w =
    ap (λ (xs : List Wire). after (served_by d.program (record asked { args = xs }) (service_numbered asked.service) w) (λ results w'. Ended results (gained d.program (touched_by d.plan t) (next_serial w) w')))
    (passed_twice w.memory asked.args)

-- ---- the user half accepts an honest message

abbrev back_of : World → Wire → Told → Back
back_of w v told = record { rest = w.clock.rest; result = v; told = told }

abbrev answer_of : List Wire → Told → Answer
answer_of rs told = record { results = rs; deaths = told.deaths; news = told.news }

deliver_back : (d : Driver) (uses : Uses) (fuel budget t : ℕ) (K KU : Knowledge) (objects : List Wire) (copy : Memory) (w : World) (e f : ℕ) (result : Ty) (v : Wire) (told : Told) (depth : ℕ) (goes : Wire → Tree) (below : List Below)
    → Messages.Backed d uses budget t K KU objects copy w e f result v told
    → deliver d fuel (user_at copy objects (record { stub = t; func = f; depth = depth; goes = goes } ∷ below)) (Ok (message.Back (back_of w v told)))
    ≡ reply_of t objects (waiting d told copy w e) w below (agreed_after d.program told copy) w.clock.rest (goes v)
unfolding deliver opened back_fits
deliver_back d uses fuel budget t K KU objects copy w e f result v told depth goes below m = rw (m.lives, m.others, m.result_fits, m.cells, m.view) refl

deliver_answer : (d : Driver) (uses : Uses) (fuel budget t : ℕ) (K KU : Knowledge) (outer live remains : List Wire) (copy : Memory) (before w : World) (e : ℕ) (asked : Asked) (s : Service) (rs : List Wire) (told : Told) (goes : List Wire → Tree) (below : List Below) (K' : Knowledge)
    → Answers.Answered d uses budget t K KU outer live remains copy before w e asked s rs told K'
    → deliver d fuel (record { agreed = copy; entered = serials_of (outer ++ live); work = AwaitsAnswer t asked (top before.views) before.clock.rest goes below }) (Ok (message.Answer (answer_of rs told)))
    ≡ reply_of t (outer ++ left_with s remains rs) (waiting d told copy w e) w below (agreed_after d.program told copy) w.clock.rest (goes rs)
unfolding deliver opened answer_fits
deliver_answer d uses fuel budget t K KU outer live remains copy before w e asked s rs told goes below K' m =
    let C : Memory = agreed_after d.program told copy in
    let lives : List ℕ = entered_behind asked.service told.deaths told.news (serials_of (outer ++ live)) in
    let u : User = record { agreed = copy; entered = serials_of (outer ++ live); work = AwaitsAnswer t asked (top before.views) before.clock.rest goes below } in
    let accepted : answer_fits d copy (serials_of (outer ++ live)) asked (answer_of rs told) ≡ true = rw (m.lives, m.objects, m.results) refl in
    ap (λ (b : Bool). user_done u (when_fits b (let copy' : Memory = renewed_copy d.program told.deaths told.news copy in Runs (goes rs) before.clock.rest t lives (grown d t copy' told.news (top before.views)) copy' below))) accepted
    ∙ ap (λ (copy' : Memory). let view : List Cell = grown d t copy' told.news (top before.views) in replied_to t lives view before.clock.rest copy' below (walk (guarded view) before.clock.rest (goes rs) copy')) m.lives_alone
    ∙ ap (λ (view : List Cell). replied_to t lives view before.clock.rest C below (walk (guarded view) before.clock.rest (goes rs) C)) m.view
    ∙ ap (λ (entered : List ℕ). replied_to t entered (top w.views) before.clock.rest C below (walk (guarded (top w.views)) before.clock.rest (goes rs) C)) m.counted_user
    ∙ ap (λ (q : ℕ). replied_to t (serials_of (outer ++ left_with s remains rs)) (top w.views) q C below (walk (guarded (top w.views)) q (goes rs) C)) (sym m.rest)

-- a function that user code may call has a body in the kernel half
body_below : (d : Driver) (f : ℕ) → has_down_stub d f ≡ true → (body : Body) × (d.kernel.own f ≡ Some body)
body_below d f stub = of (d.kernel.own f) refl (and_right (is_true (slice_get d.plan.down f)) _ stub)
  where
    of : (o : Option Body) → d.kernel.own f ≡ o → is_some o ≡ true → (body : Body) × (d.kernel.own f ≡ Some body)
    of (Some body) own is = (body, own)
    of None own is = absurd (Prim.cc)

-- ---- questions are few, by the tree's first node

abbrev FewTo : ℕ → Tree → Type 0
FewTo c Tree.Idle = Unit {0}
FewTo c (Tree.Waits k) = Unit {0}
FewTo c (Tree.Done v t) = Unit {0}
FewTo c (Tree.Stop kind at) = Unit {0}
FewTo c (Tree.Tick at d t) = Few (c + 2) t
FewTo c (Tree.Load at p k) = (v : Wire) → Few c (k v)
FewTo c (Tree.Store at p v t) = Few c t
FewTo c (Tree.Read at p n k) = (bs : List ℕ) → Few c (k bs)
FewTo c (Tree.Fresh at v k) = (x : Wire) → Few c (k x)
FewTo c (Tree.Birth at shapes k) = Unit {0}
FewTo c (Tree.Death at ps t) = Unit {0}
FewTo c (Tree.Ask asked k) = (q : ℕ) × (suc q ≤ c) × ((vs : List Wire) → Few q (k vs))
FewTo c (Tree.Cross at f args depth k) = (q : ℕ) × (suc q ≤ c) × ((v : Wire) → Few q (k v))

few_to : (c : ℕ) (t : Tree) → Few c t → FewTo c t
few_to _ _ (few_idle c) = tt
few_to _ _ (few_done c v t) = tt
few_to _ _ (few_stop c kind at) = tt
few_to _ _ (few_tick c at d t few) = few
few_to _ _ (few_load c at p k few) = few
few_to _ _ (few_store c at p v t few) = few
few_to _ _ (few_read c at p n k few) = few
few_to _ _ (few_fresh c at v k few) = few
few_to _ _ (few_birth c at shapes k few) = tt
few_to _ _ (few_death c at ps t few) = tt
few_to _ _ (few_ask c q le asked k few) = (q, le, few)
few_to _ _ (few_cross c q le at f args depth k few) = (q, le, few)

-- ---- the induction

-- in an upcall of function t, behind which the run goes on, with so much room for calls back
module _ (d : Driver) (uses : Uses) (right : IsRight d uses) (fuel budget n t depth : ℕ) (func : Func) (names : slice_get d.program.funcs t ≡ Some func) (script : List Command) (outer : List Wire) (rest : Rest) (below : List Below) (reserve : ℕ) (all : Ran Wire) (later : Ran Wire → Finish) (K0 KU0 : Knowledge) (on : GoesOn d uses fuel budget script K0 KU0 func.result outer rest below reserve all later) where
  -- what is left of the upcall on one memory
  abbrev whole : Tree → World → Ran Wire
  whole tree w = run (in_user d (held d) t (calls_back d (held d) n)) nothing tree w

  -- what the walk comes to leads to the whole run's end
  abbrev EndsBy : List Wire → Kernel → World → Walked Memory → Type 0
  EndsBy live k w walked =
      Finishes d uses fuel budget k.exchanges (next d (Ok (walked_reply t (outer ++ live) k w below walked).reply) k (open_of t depth live) rest script) (walked_reply t (outer ++ live) k w below walked).user (later all)

  abbrev EndsAt : List Wire → Tree → Kernel → World → Memory → ℕ → Type 0
  EndsAt live tree k w um m = EndsBy live k w (walk (guarded (top w.views)) m tree um)

  moved : (live : List Wire) (k : Kernel) (w : World) (x x' : Walked Memory) → x' ≡ x → EndsBy live k w x → EndsBy live k w x'
  moved live k w x x' e h = subst (λ (z : Walked Memory). EndsBy live k w z) (sym e) h

  -- from each pair of states in relation the tree is served, where so many ticks are left at most
  pub record Serves (KU : Knowledge) (live : List Wire) (fresh : List Birth) (credit r : ℕ) (tree : Tree) : Type 0 where
    pub by : (K : Knowledge) (k : Kernel) (w : World) (um : Memory) (m : ℕ) → Grows K0 K → w.clock.rest ≡ m → m ≤ r → Rel d uses budget t K KU (outer ++ live) k w um → AreOpened d t w fresh → IsWithin d uses k w (credit + reserve)
        → closing (whole tree w) ≡ all → EndsAt live tree k w um m

  -- ---- replies

  next_return : {K : Knowledge} (KU : Knowledge) (k : Kernel) (w : World) (um : Memory) (v : Wire) (objects : List Wire) → Rel d uses budget t K KU objects k w um → IsResult d.program KU func.result v
      → next d (Ok (message.Reply (honest_return k w um v))) k (open_of t depth []) rest script ≡ continued d (normal w.memory v) (resumed k w um) rest script
  unfolding taken
  next_return KU k w um v objects r fits =
      next_taken d k (open_of t depth []) rest script (honest_return k w um v) (Replies.legal_return right r depth func v rest names fits)
      ∙ ap (λ (k' : Kernel). continued d (normal um v) k' rest script) (Replies.stores_reply d uses budget t KU objects k w um r)
      ∙ ap (λ (x : Wire). continued d x (resumed k w um) rest script) (Accesses.result_same d uses budget t KU objects k w um func.result v r fits)

  next_stop : {K : Knowledge} (KU : Knowledge) (live objects : List Wire) (k : Kernel) (w : World) (um : Memory) (kind : StopKind) (at : At) → Rel d uses budget t K KU objects k w um → IsStatement d.user at → IsUserStop kind
      → next d (Ok (message.Reply (honest_stop k w um (stop_number kind) at))) k (open_of t depth live) rest script ≡ Over (ends.Stop kind (Some at)) (resumed k w um)
  unfolding taken
  next_stop KU live objects k w um kind at r place own =
      next_taken d k (open_of t depth live) rest script (honest_stop k w um (stop_number kind) at) (Replies.legal_stop right r (open_of t depth live) kind at rest place own)
      ∙ ap (λ (o : Option StopKind). Over (ends.Stop (unwrap_or o stop.Bug) (Some at)) (applied (used k w) (told_runs k w um) k)) own.told
      ∙ ap (λ (k' : Kernel). Over (ends.Stop kind (Some at)) k') (Replies.stores_reply d uses budget t KU objects k w um r)

  next_ticks : {K : Knowledge} (KU : Knowledge) (live objects : List Wire) (k : Kernel) (w : World) (um : Memory) (at : At) → Rel d uses budget t K KU objects k w um → IsStatement d.user at → w.clock.rest ≡ 0
      → next d (Ok (message.Reply (honest_stop k w um 16 at))) k (open_of t depth live) rest script ≡ Over (ends.Stop stop.Ticks (Some at)) (resumed k w um)
  unfolding taken user_stop
  next_ticks KU live objects k w um at r place none =
      next_taken d k (open_of t depth live) rest script (honest_stop k w um 16 at) (Replies.legal_ticks right r (open_of t depth live) at rest place none)
      ∙ ap (λ (k' : Kernel). Over (ends.Stop stop.Ticks (Some at)) k') (Replies.stores_reply d uses budget t KU objects k w um r)

  next_ask : {K : Knowledge} (KU : Knowledge) (live remains objects : List Wire) (k : Kernel) (w : World) (um : Memory) (asked : Asked) (s : Service) (credit : ℕ) → Rel d uses budget t K KU objects k w um → AreObjects w.memory 0 live
      → IsPlace d.user asked.at → IsStatement d.user asked.at ⊎ (is_object_service asked.service ≡ true) → service_numbered asked.service ≡ Some s → IsAsk d.program KU asked s → Leaves s asked live remains → IsWithin d uses k w (suc credit)
      → next d (Ok (message.Reply (honest_ask k w um asked))) k (open_of t depth live) rest script
      ≡ serviced d (as_now w asked) (serves_asked d (held d) t asked w) (resumed k w um) (open_of t depth live) rest script
  unfolding taken
  next_ask KU live remains objects k w um asked s credit r own place standing numbered ask leaves within =
      next_taken d k (open_of t depth live) rest script (honest_ask k w um asked)
      (Replies.legal_ask right r depth live remains asked s credit rest own place standing numbered ask leaves within)
      ∙ ap (λ (k' : Kernel). asks d (asked_now um asked) k' (open_of t depth live) rest script)
      (Replies.stores_reply d uses budget t KU objects k w um r)
      ∙ ap (λ (xs : List Wire). asks d (record asked { args = xs }) (resumed k w um) (open_of t depth live) rest script)
      (Replies.asked_same d uses budget t KU objects k w um asked s r ask)
      ∙ ap (λ (ran : Ran (List Wire)). serviced d (as_now w asked) ran (resumed k w um) (open_of t depth live) rest script) (passed_service d t asked w)

  -- code of the kernel half runs, with arguments as they are now
  abbrev goes_down : (at : At) (f d' : ℕ) → List Wire → Kernel → List Wire → Pending
  goes_down at f d' live k passed = went d (CalledDown at f passed (open_of t depth live) rest) (runs_kernel d (kernel_tree d f passed d' k.world) k.world) k (λ k''. split_commands d script k'') script

  next_down : {K : Knowledge} (KU : Knowledge) (live objects : List Wire) (k : Kernel) (w : World) (um : Memory) (at : At) (f : ℕ) (callee : Func) (args : List Wire) (d' credit : ℕ) → Rel d uses budget t K KU objects k w um
      → IsStatement d.user at → has_down_stub d f ≡ true → IsCall d.program KU callee at.func f args d' → depth < d' → IsWithin d uses k w (suc credit)
      → next d (Ok (message.Reply (honest_down k w um at f args d'))) k (open_of t depth live) rest script ≡ goes_down at f d' live (resumed k w um) (map (normal w.memory) args)
  unfolding taken
  next_down KU live objects k w um at f callee args d' credit r place stub crosses deeper within =
      next_taken d k (open_of t depth live) rest script (honest_down k w um at f args d')
      (Replies.legal_down right r (open_of t depth live) at f callee args d' credit rest place stub crosses.names crosses.fit deeper crosses.limited within)
      ∙ ap (λ (k' : Kernel). goes_down at f d' live k' (map (normal k'.world.memory) (map (normal um) args))) (Replies.stores_reply d uses budget t KU objects k w um r)
      ∙ ap (λ (xs : List Wire). goes_down at f d' live (resumed k w um) (map (normal w.memory) xs)) (Replies.args_same d uses budget t KU objects k w um args (map (λ (p : Param). p.ty) callee.params) r crosses.fit)
      ∙ ap (λ (xs : List Wire). goes_down at f d' live (resumed k w um) xs) (passed_twice w.memory args)

  -- ---- ends

  -- the whole run stops here
  over_here : (k : Kernel) (u : User) (kind : StopKind) (at : Option At) → IsPaid d uses (2 * k.exchanges) k.world → Stopped kind at k.world ≡ all → Finishes d uses fuel budget k.exchanges (Over (ends.Stop kind at) k) u (later all)
  over_here k u kind at paid eq =
      let fin : finish (ends.Stop kind at) k.world ≡ later all = sym (on.stops kind at k.world) ∙ ap later eq in
      subst (λ (f : Finish). Finishes d uses fuel budget k.exchanges (Over (ends.Stop kind at) k) u f) fin (is_over (ends.Stop kind at) k u paid)

  done_serves : (KU : Knowledge) (fresh : List Birth) (credit r : ℕ) (v : Wire) (under : Tree) → Grows KU0 KU → IsResult d.program KU func.result v → Serves KU [] fresh credit r (Tree.Done v under)
  unfolding walk replied run
  done_serves KU fresh credit r v under up fits = record {
    by = λ K k w um m more e le rel opened within eq.
        let agree : Agree d uses budget K KU (replied_copy k w um) (closed w) = agree_closed d uses budget K KU (replied_copy k w um) w (Replies.agrees d uses budget t KU (outer ++ []) k w um rel) in
        subst (λ (q : ℕ). EndsAt [] (Tree.Done v under) k w um q) e
        (subst (λ (os : List Wire). Finishes d uses fuel budget k.exchanges (next d (Ok (message.Reply (honest_return k w um v))) k (open_of t depth []) rest script) (user_at (replied_copy k w um) os below) (later all)) (sym (append-nil outer))
        (subst (λ (p : Pending). Finishes d uses fuel budget k.exchanges p (user_at (replied_copy k w um) outer below) (later all)) (sym (next_return KU k w um v (outer ++ []) rel fits))
        (on.by K KU more up (resumed k w um) (normal w.memory v) (result_now d.program KU w.memory func.result v fits) (sym eq) agree (paid k w within))));
  }
    where
      paid : (k : Kernel) (w : World) → IsWithin d uses k w (credit + reserve) → IsPaid d uses (owing k.exchanges (length (closed w).views) reserve) w
      paid k w within = record {
        six = omega (arith, within.six, same_height w.views within.some);
        four = λ itself. let h = within.four itself in let long = same_height w.views within.some in omega (arith, h, long);
      }

  stop_serves : (KU : Knowledge) (live : List Wire) (fresh : List Birth) (credit r : ℕ) (kind : StopKind) (at : At) → IsStatement d.user at → IsUserStop kind → Serves KU live fresh credit r (Tree.Stop kind at)
  unfolding walk replied run
  stop_serves KU live fresh credit r kind at place own = record {
    by = λ K k w um m more e le rel opened within eq.
        subst (λ (q : ℕ). EndsAt live (Tree.Stop kind at) k w um q) e
        (subst (λ (p : Pending). Finishes d uses fuel budget k.exchanges p (user_at (replied_copy k w um) (outer ++ live) []) (later all)) (sym (next_stop KU live (outer ++ live) k w um kind at rel place own))
        (over_here (resumed k w um) (user_at (replied_copy k w um) (outer ++ live) []) kind (Some at) (paid_within within) eq));
  }

  -- ---- ticks

  out_of_ticks : (KU : Knowledge) (live : List Wire) (credit : ℕ) (at : At) (d' : ℕ) (next' : Tree) → IsStatement d.user at
      → {K : Knowledge} (k : Kernel) (w : World) (um : Memory) → w.clock.rest ≡ 0 → Rel d uses budget t K KU (outer ++ live) k w um → IsWithin d uses k w (credit + reserve) → closing (whole (Tree.Tick at d' next') w) ≡ all → EndsAt live (Tree.Tick at d' next') k w um 0
  unfolding walk replied run
  out_of_ticks KU live credit at d' next' place k w um e rel within eq =
      let go : World → Ran Wire = λ (w' : World). whole next' w' in
      let stops : Stopped stop.Ticks (Some at) w ≡ all = sym (ap (λ (q : ℕ). closing (counting q (Some at) w go)) e) ∙ eq in
      subst (λ (q : ℕ). Finishes d uses fuel budget k.exchanges (next d (Ok (message.Reply (replies.Stop (record { ticks = k.world.clock.rest - q; stop = 16; at = at; runs = told_runs k w um })))) k (open_of t depth live) rest script) (user_at (replied_copy k w um) (outer ++ live) []) (later all)) e
      (subst (λ (p : Pending). Finishes d uses fuel budget k.exchanges p (user_at (replied_copy k w um) (outer ++ live) []) (later all)) (sym (next_ticks KU live (outer ++ live) k w um at rel place e))
      (over_here (resumed k w um) (user_at (replied_copy k w um) (outer ++ live) []) stop.Ticks (Some at) (paid_within within) stops))

  last_tick_serves : (KU : Knowledge) (live : List Wire) (fresh : List Birth) (credit : ℕ) (at : At) (d' : ℕ) (next' : Tree) → IsStatement d.user at → Serves KU live fresh credit 0 (Tree.Tick at d' next')
  last_tick_serves KU live fresh credit at d' next' place = record {
    by = λ K k w um m more e le rel opened within eq.
        let none : m ≡ 0 = omega (arith, le) in
        subst (λ (q : ℕ). EndsAt live (Tree.Tick at d' next') k w um q) (sym none) (out_of_ticks KU live credit at d' next' place k w um (e ∙ none) rel within eq);
  }

  tick_serves : (KU : Knowledge) (live : List Wire) (fresh : List Birth) (credit r : ℕ) (at : At) (d' : ℕ) (next' : Tree) → IsStatement d.user at → Serves KU live [] (credit + 2) r next' → Serves KU live fresh credit (suc r) (Tree.Tick at d' next')
  unfolding walk run
  tick_serves KU live fresh credit r at d' next' place onward = record { by = λ K k w um m more e le rel opened within eq. of m K k w um more e le rel within eq }
    where
      of : (m : ℕ) (K : Knowledge) (k : Kernel) (w : World) (um : Memory) → Grows K0 K → w.clock.rest ≡ m → m ≤ suc r → Rel d uses budget t K KU (outer ++ live) k w um → IsWithin d uses k w (credit + reserve) → closing (whole (Tree.Tick at d' next') w) ≡ all → EndsAt live (Tree.Tick at d' next') k w um m
      of zero K k w um more e le rel within eq = out_of_ticks KU live credit at d' next' place k w um e rel within eq
      of (suc q) K k w um more e le rel within eq =
          let go : World → Ran Wire = λ (w' : World). whole next' w' in
          let w' : World = record w { clock = advanced 1 w.clock } in
          onward.by K k w' um q more (omega (arith, e)) (omega (arith, le)) (Accesses.ticks d uses budget t KU (outer ++ live) k w um q rel e) tt
          (record { six = omega (arith, within.six); four = λ itself. let h = within.four itself in omega (arith, h); some = within.some })
          (sym (ap (λ (q' : ℕ). closing (counting q' (Some at) w go)) e) ∙ eq)

  -- ---- accesses

  load_serves : (KU : Knowledge) (live : List Wire) (fresh : List Birth) (credit r : ℕ) (at : At) (p : Wire) (next' : Wire → Tree) (ty : Ty) → IsStatement d.user at → PointsTo d.program KU ty p → LoadsScalar ty p
      → ((v : Wire) → IsLoaded d.program KU ty p → Fits d.program KU ty v → Serves KU live [] credit r (next' v)) → Serves KU live fresh credit r (Tree.Load at p next')
  unfolding walk run
  load_serves KU live fresh credit r at p next' ty place points scalar onward = record {
    by = λ K k w um m more e le rel opened within eq.
        of K k w um m more e le rel within (loaded (may_touch w) w.memory p) (Accesses.load_same d uses budget t KU (outer ++ live) k w um ty p rel points) refl eq;
  }
    where
      of : (K : Knowledge) (k : Kernel) (w : World) (um : Memory) (m : ℕ) → Grows K0 K → w.clock.rest ≡ m → m ≤ r → Rel d uses budget t K KU (outer ++ live) k w um → IsWithin d uses k w (credit + reserve)
          → (x : Result Wire StopKind) → loaded (is_in (top w.views)) um p ≡ loaded (may_touch w) w.memory p → loaded (may_touch w) w.memory p ≡ x
          → closing (whole (Tree.Load at p next') w) ≡ all → EndsAt live (Tree.Load at p next') k w um m
      of K k w um m more e le rel within (Ok v) same is eq =
          moved live k w _ _ (ap (λ (x : Result Wire StopKind). on_access x at um m (λ v'. walk (guarded (top w.views)) m (next' v') um)) (same ∙ is))
          ((onward v (is_loaded d.program KU ty (may_touch w) w.memory p v points is) (Accesses.load_fits d uses budget t KU (outer ++ live) k w um ty p v rel points scalar is)).by K k w um m more e le rel tt within
          (sym (ap (λ (x : Result Wire StopKind). closing (given x at w (λ v'. whole (next' v') w))) is) ∙ eq))
      of K k w um m more e le rel within (Err kind) same is eq =
          moved live k w _ _ (ap (λ (x : Result Wire StopKind). on_access x at um m (λ v'. walk (guarded (top w.views)) m (next' v') um)) (same ∙ is))
          ((stop_serves KU live [] credit r kind at place (Accesses.load_stop (may_touch w) w.memory p kind is)).by K k w um m more e le rel tt within
          (sym (ap (λ (x : Result Wire StopKind). closing (given x at w (λ v'. whole (next' v') w))) is) ∙ eq))

  store_serves : (KU : Knowledge) (live : List Wire) (fresh : List Birth) (credit r : ℕ) (at : At) (p v : Wire) (next' : Tree) (ty : Ty) → IsStatement d.user at → PointsTo d.program KU ty p → Fits d.program KU ty v
      → Serves KU live [] credit r next' → Serves KU live fresh credit r (Tree.Store at p v next')
  unfolding walk run
  store_serves KU live fresh credit r at p v next' ty place points fits onward = record {
    by = λ K k w um m more e le rel opened within eq. of K k w um m more e le rel within (Accesses.store d uses budget t KU (outer ++ live) k w um ty p v rel points fits) eq;
  }
    where
      of : (K : Knowledge) (k : Kernel) (w : World) (um : Memory) (m : ℕ) → Grows K0 K → w.clock.rest ≡ m → m ≤ r → Rel d uses budget t K KU (outer ++ live) k w um → IsWithin d uses k w (credit + reserve)
          → Accesses.Stores d uses budget t K KU (outer ++ live) k w um p v → closing (whole (Tree.Store at p v next') w) ≡ all → EndsAt live (Tree.Store at p v next') k w um m
      of K k w um m more e le rel within (Accesses.goes m0 m1 user whole_too rel') eq =
          moved live k w _ _ (ap (λ (x : Result Memory StopKind). on_access x at um m (λ m''. walk (guarded (top w.views)) m next' m'')) user)
          (onward.by K k (record w { memory = m0 }) m1 m more e le rel' tt (record { six = within.six; four = within.four; some = within.some })
          (sym (ap (λ (x : Result Memory StopKind). closing (given (remembers w x) at w (λ w'. whole next' w'))) whole_too) ∙ eq))
      of K k w um m more e le rel within (Accesses.stops kind user whole_too own) eq =
          moved live k w _ _ (ap (λ (x : Result Memory StopKind). on_access x at um m (λ m''. walk (guarded (top w.views)) m next' m'')) user)
          ((stop_serves KU live [] credit r kind at place own).by K k w um m more e le rel tt within
          (sym (ap (λ (x : Result Memory StopKind). closing (given (remembers w x) at w (λ w'. whole next' w'))) whole_too) ∙ eq))

  -- into an object that was just born
  fresh_store_serves : (KU : Knowledge) (live : List Wire) (fresh : List Birth) (credit r : ℕ) (at : At) (p v : Wire) (next' : Tree) (ty : Ty) → IsFresh (Opens d t) fresh p → PointsTo d.program KU ty p → Fits d.program KU ty v
      → Serves KU live fresh credit r next' → Serves KU live fresh credit r (Tree.Store at p v next')
  unfolding walk run
  fresh_store_serves KU live fresh credit r at p v next' ty among points fits onward = record {
    by = λ K k w um m more e le rel opened within eq. of K k w um m more e le opened within (Accesses.store d uses budget t KU (outer ++ live) k w um ty p v rel points fits) eq;
  }
    where
      of : (K : Knowledge) (k : Kernel) (w : World) (um : Memory) (m : ℕ) → Grows K0 K → w.clock.rest ≡ m → m ≤ r → AreOpened d t w fresh → IsWithin d uses k w (credit + reserve)
          → Accesses.Stores d uses budget t K KU (outer ++ live) k w um p v → closing (whole (Tree.Store at p v next') w) ≡ all → EndsAt live (Tree.Store at p v next') k w um m
      of K k w um m more e le opened within (Accesses.goes m0 m1 user whole_too rel') eq =
          moved live k w _ _ (ap (λ (x : Result Memory StopKind). on_access x at um m (λ m''. walk (guarded (top w.views)) m next' m'')) user)
          (onward.by K k (record w { memory = m0 }) m1 m more e le rel' (Fresh.opened_stay d t w fresh p v m0 opened whole_too) (record { six = within.six; four = within.four; some = within.some })
          (sym (ap (λ (x : Result Memory StopKind). closing (given (remembers w x) at w (λ w'. whole next' w'))) whole_too) ∙ eq))
      of K k w um m more e le opened within (Accesses.stops kind user whole_too own) eq = elim (Fresh.fresh_goes d t w fresh p v kind opened among whole_too) [ ]

  read_serves : (KU : Knowledge) (live : List Wire) (fresh : List Birth) (credit r : ℕ) (at : At) (p : Wire) (count : ℕ) (next' : List ℕ → Tree) (ty : Ty) → IsStatement d.user at → PointsTo d.program KU ty p
      → ((bs : List ℕ) → length bs ≡ count → Serves KU live [] credit r (next' bs)) → Serves KU live fresh credit r (Tree.Read at p count next')
  unfolding walk run
  read_serves KU live fresh credit r at p count next' ty place points onward = record {
    by = λ K k w um m more e le rel opened within eq.
        of K k w um m more e le rel within (read (may_touch w) w.memory p count) (Accesses.read_same d uses budget t KU (outer ++ live) k w um ty p count rel points) refl eq;
  }
    where
      of : (K : Knowledge) (k : Kernel) (w : World) (um : Memory) (m : ℕ) → Grows K0 K → w.clock.rest ≡ m → m ≤ r → Rel d uses budget t K KU (outer ++ live) k w um → IsWithin d uses k w (credit + reserve)
          → (x : Result (List ℕ) StopKind) → read (is_in (top w.views)) um p count ≡ read (may_touch w) w.memory p count → read (may_touch w) w.memory p count ≡ x
          → closing (whole (Tree.Read at p count next') w) ≡ all → EndsAt live (Tree.Read at p count next') k w um m
      of K k w um m more e le rel within (Ok bs) same is eq =
          moved live k w _ _ (ap (λ (x : Result (List ℕ) StopKind). on_access x at um m (λ bs'. walk (guarded (top w.views)) m (next' bs') um)) (same ∙ is))
          ((onward bs (Accesses.read_long (may_touch w) w.memory p count bs is)).by K k w um m more e le rel tt within
          (sym (ap (λ (x : Result (List ℕ) StopKind). closing (given x at w (λ bs'. whole (next' bs') w))) is) ∙ eq))
      of K k w um m more e le rel within (Err kind) same is eq =
          moved live k w _ _ (ap (λ (x : Result (List ℕ) StopKind). on_access x at um m (λ bs'. walk (guarded (top w.views)) m (next' bs') um)) (same ∙ is))
          ((stop_serves KU live [] credit r kind at place (Accesses.read_stop (may_touch w) w.memory p count kind is)).by K k w um m more e le rel tt within
          (sym (ap (λ (x : Result (List ℕ) StopKind). closing (given x at w (λ bs'. whole (next' bs') w))) is) ∙ eq))

  fresh_serves : (KU : Knowledge) (live : List Wire) (fresh : List Birth) (credit r : ℕ) (at : At) (v : Wire) (next' : Wire → Tree) → IsStatement d.user at → IsAddress d.program KU v
      → Serves KU live [] credit r (next' v) → Serves KU live fresh credit r (Tree.Fresh at v next')
  unfolding walk run
  fresh_serves KU live fresh credit r at v next' place address onward = record {
    by = λ K k w um m more e le rel opened within eq.
        of K k w um m more e le rel within (read_local w.memory v) (Accesses.fresh_same d uses budget t KU (outer ++ live) k w um v rel address) refl eq;
  }
    where
      of : (K : Knowledge) (k : Kernel) (w : World) (um : Memory) (m : ℕ) → Grows K0 K → w.clock.rest ≡ m → m ≤ r → Rel d uses budget t K KU (outer ++ live) k w um → IsWithin d uses k w (credit + reserve)
          → (x : Result Wire StopKind) → read_local um v ≡ read_local w.memory v → read_local w.memory v ≡ x
          → closing (whole (Tree.Fresh at v next') w) ≡ all → EndsAt live (Tree.Fresh at v next') k w um m
      of K k w um m more e le rel within (Ok x) same is eq =
          let it : x ≡ v = Accesses.fresh_is w.memory v x is in
          let now : read_local w.memory v ≡ Ok v = is ∙ ap (λ (y : Wire). Ok y) it in
          moved live k w _ _ (ap (λ (y : Result Wire StopKind). on_access y at um m (λ x'. walk (guarded (top w.views)) m (next' x') um)) (same ∙ now))
          (onward.by K k w um m more e le rel tt within (sym (ap (λ (y : Result Wire StopKind). closing (given y at w (λ x'. whole (next' x') w))) now) ∙ eq))
      of K k w um m more e le rel within (Err kind) same is eq =
          moved live k w _ _ (ap (λ (y : Result Wire StopKind). on_access y at um m (λ x'. walk (guarded (top w.views)) m (next' x') um)) (same ∙ is))
          ((stop_serves KU live [] credit r kind at place (Accesses.fresh_stop w.memory v kind is)).by K k w um m more e le rel tt within
          (sym (ap (λ (y : Result Wire StopKind). closing (given y at w (λ x'. whole (next' x') w))) is) ∙ eq))

  -- ---- questions

  asked_for : (KU : Knowledge) (live remains : List Wire) (credit q r : ℕ) (asked : Asked) (s : Service) (next' : List Wire → Tree) (K : Knowledge) (k : Kernel) (w : World) (um : Memory) → Grows K0 K → w.clock.rest ≤ r → suc q ≤ credit → IsWithin d uses k w (credit + reserve)
      → ((KU' : Knowledge) → Grows KU KU' → (rs : List Wire) → IsServed d.program KU' asked s rs → Serves KU' (left_with s remains rs) (fresh_after s asked.shapes rs) q r (next' rs))
      → (ran : Ran (List Wire)) → Comes w (λ rs w'. (K' : Knowledge) × Answers.Answered d uses budget t K KU outer live remains (replied_copy k w um) w w' (suc k.exchanges) asked s rs (tells d.program [] rs (replied_copy k w um) w'.memory) K') ran → Moves w ran
      → closing (after ran (λ rs w'. whole (next' rs) w')) ≡ all
      → Finishes d uses fuel budget k.exchanges (serviced d (as_now w asked) ran (resumed k w um) (open_of t depth live) rest script)
      (record { agreed = replied_copy k w um; entered = serials_of (outer ++ live); work = AwaitsAnswer t asked (top w.views) w.clock.rest next' below }) (later all)
  unfolding answers
  asked_for KU live remains credit q r asked s next' K k w um more le less within onward _ (ended rs w' gone m) moves eq =
      let copy : Memory = replied_copy k w um in
      let told : Told = tells d.program [] rs copy w'.memory in
      let e : ℕ = suc k.exchanges in
      let k' : Kernel = waiting d told copy w' e in
      let u : User = record { agreed = copy; entered = serials_of (outer ++ live); work = AwaitsAnswer t asked (top w.views) w.clock.rest next' below } in
      let a : Answers.Answered d uses budget t K KU outer live remains copy w w' e asked s rs told m.0 = m.1 in
      subst (λ (o : Open). Finishes d uses fuel budget k.exchanges (Waits (message.Answer (answer_of rs told)) k' o rest script) u (later all)) (sym (a.counted_kernel depth))
      (one_more (message.Answer (answer_of rs told)) k' (open_of t depth (left_with s remains rs)) rest script u
      (reply_of t (outer ++ left_with s remains rs) k' w' below (agreed_after d.program told copy) w'.clock.rest (next' rs)) (later all)
      (deliver_answer d uses fuel budget t K KU outer live remains copy w w' e asked s rs told next' below m.0 a)
      (omega arith)
      ((onward (learns KU told.news) (learns_grows KU told.news) rs a.given).by m.0 k' w' (agreed_after d.program told copy) w'.clock.rest (grows_on K0 K m.0 more a.grown_too) refl (omega (arith, le, a.rest)) a.rel a.fresh
      (record {
        six = omega (arith, less, within.six, gone.later, gone.calls, moves.at_end.2);
        four = λ itself. let h = within.four itself in omega (arith, less, h, gone.later, gone.calls, moves.at_end.2);
        some = omega (arith, within.some, moves.at_end.2);
      }) eq))
  asked_for KU live remains credit q r asked s next' K k w um more le less within onward _ (stopped kind at w' gone) moves eq =
      over_here (record (resumed k w um) { world = w' }) (record { agreed = replied_copy k w um; entered = serials_of (outer ++ live); work = AwaitsAnswer t asked (top w.views) w.clock.rest next' below }) kind at
      (let paid : IsPaid d uses (2 * k.exchanges) w = paid_within within in
      record { six = omega (arith, paid.six, gone.later, gone.calls); four = λ itself. let h = paid.four itself in omega (arith, h, gone.later, gone.calls) }) eq

  ask_serves : (KU : Knowledge) (live remains : List Wire) (fresh : List Birth) (credit q r : ℕ) (asked : Asked) (s : Service) (next' : List Wire → Tree)
      → IsPlace d.user asked.at → IsStatement d.user asked.at ⊎ (is_object_service asked.service ≡ true) → service_numbered asked.service ≡ Some s → IsAsk d.program KU asked s → Leaves s asked live remains → suc q ≤ credit
      → ((KU' : Knowledge) → Grows KU KU' → (rs : List Wire) → IsServed d.program KU' asked s rs → Serves KU' (left_with s remains rs) (fresh_after s asked.shapes rs) q r (next' rs))
      → Serves KU live fresh credit r (Tree.Ask asked next')
  unfolding walk replied run
  ask_serves KU live remains fresh credit q r asked s next' place standing numbered ask leaves less onward = record {
    by = λ K k w um m more e le rel opened within eq.
        let u : User = record { agreed = replied_copy k w um; entered = serials_of (outer ++ live); work = AwaitsAnswer t asked (top w.views) w.clock.rest next' below } in
        let one : IsWithin d uses k w (suc (q + reserve)) = record { six = omega (arith, less, within.six); four = λ itself. let h = within.four itself in omega (arith, less, h); some = within.some } in
        subst (λ (x : ℕ). EndsAt live (Tree.Ask asked next') k w um x) e
        (subst (λ (p : Pending). Finishes d uses fuel budget k.exchanges p u (later all))
        (sym (next_ask KU live remains (outer ++ live) k w um asked s (q + reserve) rel (objects_behind w.memory 0 outer live rel.objects_are) place standing numbered ask leaves one))
        (asked_for KU live remains credit q r asked s next' K k w um more (omega (arith, e, le)) less within onward _
        (Answers.ask_comes d uses budget t KU outer live remains k w um asked s right rel numbered ask leaves) (asks_move w d t asked w within.some (stays w)) eq));
  }

  -- ---- calls of the kernel half

  -- what follows one in the whole run, behind what kernel code comes to
  abbrev backed_up : (at : At) (f : ℕ) (passed : List Wire) (next' : Wire → Tree) → Ran Wire → Ran Wire
  backed_up at f passed next' ran = closing (after (after ran (λ v w'. returns_to d (held d) t at f passed v w')) (λ v w'. whole (next' v) w'))

  -- kernel code gave a result, in a downcall of this upcall
  module _ (KU : Knowledge) (live : List Wire) (q r f : ℕ) (at : At) (callee : Func) (passed : List Wire) (d' : ℕ) (next' : Wire → Tree) (named : slice_get d.program.funcs f ≡ Some callee)
      (onward : (KU' : Knowledge) → Grows KU KU' → (v : Wire) → IsResult d.program KU' callee.result v → Serves KU' live [] q r (next' v)) where
    abbrev down : Below
    down = record { stub = t; func = f; depth = d'; goes = next' }

    -- it came back to user code, once the set is taken anew
    comes_home : (K' KU' : Knowledge) (k' : Kernel) (v : Wire) (w' : World) → Grows K0 K' → Grows KU KU' → AreObjects w'.memory 0 (outer ++ live) → ((c : Cell) → is_among cells (top w'.views) c ≡ true → known_by KU' c.serial ≡ true)
        → w'.clock.rest ≤ r → 1 ≤ length w'.views → IsResult d.program K' callee.result v → normal w'.memory v ≡ v → Agree d uses budget K' KU' k'.agreed w' → IsPaid d uses (owing k'.exchanges (length w'.views) (q + reserve)) w'
        → backed_up at f passed next' (Ended v w') ≡ all
        → Finishes d uses fuel budget k'.exchanges (downcalled d (returns_to d (held d) t at f passed v w') k' (open_of t depth live) rest script) (user_at k'.agreed (outer ++ live) (down ∷ below)) (later all)
    unfolding comes_back
    comes_home K' KU' k' v w' up grows objects known le some fits now agree paid eq = of (visible d.program (touched_by d.plan t) w'.memory (top w'.views) (result_roots d.program f passed v)) refl eq
      where
        u : User
        u = user_at k'.agreed (outer ++ live) (down ∷ below)

        told : List Cell → Told
        told set = telling d (v ∷ []) k'.agreed (renewed set w')

        within : (set : List Cell) → IsWithin d uses (waiting d (told set) k'.agreed (renewed set w') (suc k'.exchanges)) (renewed set w') (q + reserve)
        within set = record {
          six = omega (arith, paid.six, same_height w'.views some);
          four = λ itself. let h = paid.four itself in let long = same_height w'.views some in omega (arith, h, long);
          some = omega arith;
        }

        home : (set : List Cell) → visible d.program (touched_by d.plan t) w'.memory (top w'.views) (result_roots d.program f passed v) ≡ Ok set → closing (whole (next' v) (renewed set w')) ≡ all
            → Finishes d uses fuel budget k'.exchanges (comes_back d v (renewed set w') k' (open_of t depth live) rest script) u (later all)
        home set is eq' =
            let k2 : Kernel = waiting d (told set) k'.agreed (renewed set w') (suc k'.exchanges) in
            let copy : Memory = agreed_after d.program (told set) k'.agreed in
            let m : Messages.Backed d uses budget t K' KU' (outer ++ live) k'.agreed (renewed set w') (suc k'.exchanges) f callee.result v (told set) =
            Messages.backed d uses budget t K' KU' (outer ++ live) k'.agreed k'.exchanges f callee passed v w' right agree objects named known fits now set is in
            one_more (message.Back (back_of w' v (told set))) k2 (open_of t depth live) rest script u (reply_of t (outer ++ live) k2 (renewed set w') below copy w'.clock.rest (next' v)) (later all)
            (deliver_back d uses fuel budget t K' KU' (outer ++ live) k'.agreed (renewed set w') (suc k'.exchanges) f callee.result v (told set) d' next' below m)
            (omega (arith, agree.total))
            ((onward (learns KU' (told set).news) (grows_on KU KU' (learns KU' (told set).news) grows (learns_grows KU' (told set).news)) v m.given).by K' k2 (renewed set w') copy w'.clock.rest up refl le m.rel tt (within set) eq')

        of : (x : Result (List Cell) Failing) → visible d.program (touched_by d.plan t) w'.memory (top w'.views) (result_roots d.program f passed v) ≡ x
            → closing (after (with_set x at w' (λ set. Ended v (renewed set w'))) (λ v' w''. whole (next' v') w'')) ≡ all
            → Finishes d uses fuel budget k'.exchanges (downcalled d (with_set x at w' (λ set. Ended v (renewed set w'))) k' (open_of t depth live) rest script) u (later all)
        of (Ok set) is eq' = home set is eq'
        of (Err failing) is eq' =
            over_here (record k' { world = w' }) u stop.Annotation (Some at) (paid_less (2 * k'.exchanges) (omega arith) paid) eq'

  cross_serves : AreRun d uses fuel budget n → 256 ≤ n + depth → (KU : Knowledge) (live : List Wire) (fresh : List Birth) (credit q r : ℕ) (at : At) (f : ℕ) (callee : Func) (args : List Wire) (d' : ℕ) (next' : Wire → Tree)
      → IsStatement d.user at → has_down_stub d f ≡ true → IsCall d.program KU callee at.func f args d' → depth < d' → suc q ≤ credit
      → ((KU' : Knowledge) → Grows KU KU' → (v : Wire) → IsResult d.program KU' callee.result v → Serves KU' live [] q r (next' v))
      → Serves KU live fresh credit r (Tree.Cross at f args d' next')
  unfolding walk replied run
  cross_serves runs room KU live fresh credit q r at f callee args d' next' place stub crosses deeper less onward = record {
    by = λ K k w um m more e le rel opened within eq.
        let passed : List Wire = map (normal w.memory) args in
        let types : List Ty = map (λ (p : Param). p.ty) callee.params in
        let down : Below = record { stub = t; func = f; depth = d'; goes = next' } in
        let u : User = user_at (replied_copy k w um) (outer ++ live) (down ∷ below) in
        let one : IsWithin d uses k w (suc (q + reserve)) = record { six = omega (arith, less, within.six); four = λ itself. let h = within.four itself in omega (arith, less, h); some = within.some } in
        let called : IsCalled d.program K f callee passed = record { names = crosses.names; fit = all_now d.program K w.memory args types (all_grow d.program KU K rel.grows args types crosses.fit) } in
        let body : (body : Body) × (d.kernel.own f ≡ Some body) = body_below d f stub in
        let gives : Ran Wire = call (kernel_with d (calls_back d (held d) n)) (interrupts (kernel_of d)) f passed d' w in
        let agree : Agree d uses budget K KU (replied_copy k w um) w = Replies.agrees d uses budget t KU (outer ++ live) k w um rel in
        subst (λ (x : ℕ). EndsAt live (Tree.Cross at f args d' next') k w um x) e
        (subst (λ (p : Pending). Finishes d uses fuel budget k.exchanges p u (later all)) (sym (next_down KU live (outer ++ live) k w um at f callee args d' (q + reserve) rel place stub crosses deeper one))
        (subst (λ (ran : Ran Wire). Finishes d uses fuel budget k.exchanges (goes_down at f d' live (resumed k w um) passed) u (later ran)) eq
        (runs f callee passed d' crosses.limited (omega (arith, room, deeper)) body.0 body.1 K KU called script (outer ++ live) (CalledDown at f passed (open_of t depth live) rest) (down ∷ below) (q + reserve) gives (λ ran. later (backed_up at f passed next' ran))
        (record {
          by = λ K' KU' up grows k' v w' fits is now agree' paid.
              let s : Stays w w' = kernel_stays d uses right n K w w' f callee passed d' v (uses_all agree) rel.holds called is in
              subst (λ (ran : Ran Wire). Finishes d uses fuel budget k'.exchanges (downcalled d (returns_to d (held d) t at f passed v w') k' (open_of t depth live) rest script) (user_at k'.agreed (outer ++ live) (down ∷ below)) (later ran)) (sym eq)
              (comes_home KU live q r f at callee passed d' next' crosses.names onward K' KU' k' v w' (grows_on K0 K K' more up) grows (objects_stay_so d.program K w w' (outer ++ live) rel.holds s rel.objects_are)
              (λ c inside. known_grows KU KU' grows c.serial (rel.memories.agree.knows c.serial (rel.memories.placed c (membership_is_one (top w.views) c ∙ top_parts w'.views w.views s.parts c inside))))
              (omega (arith, le, e, s.time, s.later)) (omega (arith, within.some, parts_long w'.views w.views s.parts)) fits now agree' paid (sym (ap (backed_up at f passed next') is) ∙ eq));
          stops = on.stops;
        })
        (λ d2 more2. lt-ltb d' d2 more2) (resumed k w um) w agree rel.objects_are (record { six = omega (arith, one.six); four = λ itself. let h = one.four itself in omega (arith, h) }) refl)));
  }

  -- ---- every fair and strict tree in which questions are few, and calls of the kernel half deeper, is served

  module _ (runs : AreRun d uses fuel budget n) (room : 256 ≤ n + depth) where
    pub serves : (tree : Tree) (credit r : ℕ) (free : Bool) (KU : Knowledge) (live : List Wire) (fresh : List Birth) → KU.uses ≡ uses → Grows KU0 KU → FairTo 256 d.program d.user func.result KU live tree → Few credit tree → Spaced depth free tree
        → Strict (Opens d t) d.program d.user r KU fresh tree → Serves KU live fresh credit r tree
    serves Tree.Idle credit r free KU live fresh same up fair few spaced strict = elim fair [ ]
    serves (Tree.Waits k) credit r free KU live fresh same up fair few spaced strict = elim fair [ ]
    serves (Tree.Done v under) credit r free KU live fresh same up fair few spaced strict =
        subst (λ (l : List Wire). Serves KU l fresh credit r (Tree.Done v under)) (sym fair.1) (done_serves KU fresh credit r v under up fair.0)
    serves (Tree.Stop kind at) credit r free KU live fresh same up fair few spaced strict = stop_serves KU live fresh credit r kind at strict.0 (user_stop_of kind fair.1 strict.1)
    serves (Tree.Tick at d' next') credit zero free KU live fresh same up fair few spaced strict = last_tick_serves KU live fresh credit at d' next' strict
    serves (Tree.Tick at d' next') credit (suc r) free KU live fresh same up fair few spaced strict =
        tick_serves KU live fresh credit r at d' next' strict.0 (serves next' (credit + 2) r true KU live [] same up (fair.3 KU (grows_same KU)) (few_to credit (Tree.Tick at d' next') few) spaced strict.1)
    serves (Tree.Load at p k) credit r free KU live fresh same up fair few spaced strict =
        load_serves KU live fresh credit r at p k fair.1.0 strict.0 fair.1.1 fair.1.2 (λ v shown fits. serves (k v) credit r free KU live [] same up (fair.1.3 v fits) (few_to credit (Tree.Load at p k) few v) (spaced v) (strict.1 fair.1.0 shown v fits))
    serves (Tree.Store at p v next') credit r free KU live fresh same up fair few spaced (inl strict) =
        store_serves KU live fresh credit r at p v next' fair.1.0 strict.0 fair.1.1 fair.1.2 (serves next' credit r free KU live [] same up fair.2 (few_to credit (Tree.Store at p v next') few) spaced strict.1)
    serves (Tree.Store at p v next') credit r free KU live fresh same up fair few spaced (inr strict) =
        fresh_store_serves KU live fresh credit r at p v next' fair.1.0 strict.0 fair.1.1 fair.1.2 (serves next' credit r free KU live fresh same up fair.2 (few_to credit (Tree.Store at p v next') few) spaced strict.1)
    serves (Tree.Read at p c k) credit r free KU live fresh same up fair few spaced strict =
        read_serves KU live fresh credit r at p c k _ strict.0 fair.1 (λ bs long. serves (k bs) credit r free KU live [] same up (fair.2 bs long) (few_to credit (Tree.Read at p c k) few bs) (spaced bs) (strict.1 bs long))
    serves (Tree.Fresh at v k) credit r free KU live fresh same up fair few spaced strict =
        fresh_serves KU live fresh credit r at v k strict.0 fair.1 (serves (k v) credit r free KU live [] same up fair.2 (few_to credit (Tree.Fresh at v k) few v) (spaced v) strict.1)
    serves (Tree.Birth at shapes k) credit r free KU live fresh same up fair few spaced strict = elim strict [ ]
    serves (Tree.Death at ps next') credit r free KU live fresh same up fair few spaced strict = elim strict [ ]
    serves (Tree.Ask a k) credit r free KU live fresh same up fair few spaced strict =
        let fewer : FewTo credit (Tree.Ask a k) = few_to credit (Tree.Ask a k) few in
        ask_serves KU live fair.1.3.0 fresh credit fewer.0 r a fair.1.0 k fair.0 strict.0 fair.1.1 fair.1.2 fair.1.3.1 fewer.1
        (λ KU' grows rs given. serves (k rs) fewer.0 r free KU' (left_with fair.1.0 fair.1.3.0 rs) (fresh_after fair.1.0 a.shapes rs) (grows.same ∙ same) (grows_on KU0 KU KU' up grows) (fair.1.3.2 KU' grows rs given) (fewer.2 rs) (spaced rs) (strict.1 KU' grows fair.1.0 fair.1.1 rs given))
    serves (Tree.Cross at f args d' k) credit r free KU live fresh same up fair few spaced strict =
        let fewer : FewTo credit (Tree.Cross at f args d' k) = few_to credit (Tree.Cross at f args d' k) few in
        let place : IsPlace d.user at = fair.0 in
        let crosses : IsCall d.program KU fair.2.0 at.func f args d' = fair.2.1 in
        let called : uses.calls at.func f ≡ true = subst (λ (u : Uses). u.calls at.func f ≡ true) same crosses.calls in
        cross_serves runs room KU live fresh credit fewer.0 r at f fair.2.0 args d' k strict.0 (right.stubs at.func f place.body fair.2.0 place.own fair.1 crosses.names called) crosses spaced.1 fewer.1
        (λ KU' grows v given. serves (k v) fewer.0 r false KU' live [] (grows.same ∙ same) (grows_on KU0 KU KU' up grows) (fair.2.2 KU' grows v given) (fewer.2 v) (spaced.3 v) (strict.2 KU' grows fair.2.0 crosses.names v given))
