-- The law over lists of answers: honest answers lead to the end of the watched run, whatever fuel each reply is made with.
use Rattle.std.proofs.Common.{◌≡◌, ℕ, zero, suc, ◌+◌, ◌*◌, ◌≤◌, ◌<◌, true, false, List, [], ◌∷◌, ◌++◌, length, Option, Some, None, Ok, refl, sym, ◌∙◌, ap, subst, arith}
use Rattle.std.specs.Prelude.{is_some}
use Rattle.mdr_callees.specs.Callees.{uses_by}
use Rattle.mdr_core.specs.declared.program.Program.{Program}
use Rattle.mdr_core.specs.declared.types.Shape.{Shape}
use Rattle.mdr_core.specs.Backs.{CallsNothingBack}
use Rattle.mdr_callees.proofs.BackLaws.{one_graph_without}
use Rattle.mdr_holds.proofs.Drivers.{programs_are_drivers}
use Rattle.mdr_holds.proofs.Scripts.{commands_leave}
use Rattle.mdr_holds.proofs.States.{states_hold}
use Rattle.mdr_holds.specs.Holding.{Holds, first_knowledge}
use Rattle.mdr_holds.specs.Laws.{CallsItself, HaveBodies as EachHasBody, HaveHalves, IsScript}
use Rattle.mdr_meaning.specs.Fit.{Knowledge}
use Rattle.mdr_meaning.specs.Numbers.{Numbered}
use Rattle.mdr_meaning.specs.Within.{Uses}
use Rattle.mdr_model.specs.declared.command.Command.{Command}
use Rattle.mdr_model.specs.declared.message.Message.{Message}
use Rattle.mdr_model.specs.declared.message.New.{New}
use Rattle.mdr_model.specs.declared.outcome.End.{End}
use Rattle.mdr_model.specs.Agreement.{IsAgreed}
use Rattle.mdr_model.specs.KernelState.{Reading}
use Rattle.mdr_model.specs.Law.{IsOwn, read}
use Rattle.mdr_model.specs.Memory.{born_at, is_live}
use Rattle.mdr_model.specs.User.{allowance, granted}
use Rattle.mdr_plain.specs.Outcome.{outcome_of}
use Rattle.mdr_plain.specs.Scripts.{Finish, and_then, commands, first_world}
use Rattle.mdr_plain.specs.Storage.{first_memory, next_serial}
use Rattle.mdr_plain.specs.World.{World, Ended, Stopped, Work}
use Rattle.mdr_bound.specs.declared.bound.Bound.{Bound}
use Rattle.mdr_model.proofs.FuelLaws.{allowance-append, allowance_one}
use Rattle.mdr_split.proofs.FuelLaws.{reply_with_fuel, user_after-append}
use Rattle.mdr_split.specs.Kernel.{first_kernel, next, run_from_pending, split_commands, split_run}
use Rattle.mdr_split.specs.Law.{IsHonest, IsOneMemory, IsWatched, SplitIsOneMemory}
use Rattle.mdr_split.specs.State.{Kernel, Pending, Over, Waits}
use Rattle.mdr_split.specs.User.{Delivered, User, deliver, first_user, user_after, user_reply}
use Rattle.mdr_watched.specs.Driver.{Driver, driver_of}
use Rattle.mdr_watched.specs.Watched.{does, held, watched_of}
use Rattle.mdr_serves.proofs.Commands.{finishes}
use Rattle.mdr_serves.proofs.Relations.{Agree, IsPaid, IsRight, known_by, grows_same}
use Rattle.mdr_serves.proofs.Right.{CallGraph, body_there, call_graph, is_right}
use Rattle.mdr_serves.proofs.Runs.{AreGranted, Finishes, idle_user, meet}

-- ---- messages in turn

read-append : (xs : List Message) (x : Message) → read (xs ++ x ∷ []) ≡ read xs ++ Ok x ∷ []
read-append [] x = refl
read-append (y ∷ ys) x = ap (λ (zs : List Reading). Ok y ∷ zs) (read-append ys x)

-- the ticks that so many messages may grant
abbrev all_of : (most n : ℕ) → ℕ
all_of most zero = 0
all_of most (suc n) = most + all_of most n

all_rise : (most n m : ℕ) → n ≤ m → all_of most n ≤ all_of most m
all_rise most zero m le = omega arith
all_rise most (suc n) zero le = let never : ⊥ = omega (arith, le) in elim never [ ]
all_rise most (suc n) (suc m) le = let later : all_of most n ≤ all_of most m = all_rise most n m (omega (arith, le)) in omega (arith, later)

module _ (d : Driver) (fuel most : ℕ) where
  -- the user half after messages
  abbrev told_user : List Message → User
  told_user before = user_after d fuel (first_user d) (read before)

  abbrev reply_to : List Message → Message → Delivered
  reply_to before m = deliver d fuel (told_user before) (Ok m)

  told_more : (before : List Message) (m : Message) → told_user (before ++ m ∷ []) ≡ (reply_to before m).user
  unfolding user_after
  told_more before m = ap (λ (xs : List Reading). user_after d fuel (first_user d) xs) (read-append before m) ∙ user_after-append d fuel (first_user d) (read before) (Ok m ∷ [])

  granted_more : (before : List Message) (m : Message) → allowance (read (before ++ m ∷ [])) ≡ allowance (read before) + granted (Ok m)
  unfolding allowance
  granted_more before m =
      let one : allowance (Ok m ∷ []) ≡ granted (Ok m) = allowance_one (Ok m) in
      ap (λ (xs : List Reading). allowance xs) (read-append before m) ∙ allowance-append (read before) (Ok m ∷ []) ∙ ap (λ (n : ℕ). allowance (read before) + n) one

  -- there is fuel for messages that came, and for so many more
  abbrev IsEnough : List Message → ℕ → Type 0
  IsEnough before n = allowance (read before) + all_of most n < fuel

  honest_is : (before : List Message) (m : Message) (n : ℕ) → IsEnough before (suc n) → granted (Ok m) ≤ most → user_reply d (read before) (Ok m) ≡ (reply_to before m).reply
  honest_is before m n enough le = reply_with_fuel d fuel (read before) (Ok m) (omega (arith, enough, le))

  enough_still : (before : List Message) (m : Message) (n : ℕ) → IsEnough before (suc n) → granted (Ok m) ≤ most → IsEnough (before ++ m ∷ []) n
  enough_still before m n enough le = omega (arith, enough, le, granted_more before m)

  -- ---- honest answers are the exchanges

  -- the replies of so many exchanges
  abbrev answers_of : ℕ → Pending → User → List Message
  answers_of zero p u = []
  answers_of (suc n) (Over end k) u = []
  answers_of (suc n) (Waits m k upcall rest script) u = let x : Delivered = deliver d fuel u (Ok m) in x.reply ∷ answers_of n (next d (Ok x.reply) k upcall rest script) x.user

  -- what is reached with them, and that they are honest
  record Reaches (before : List Message) (p : Pending) (answers : List Message) (end : End) (k : Kernel) : Type 0 where
    honest : IsHonest d before (run_from_pending d (read answers) p).sent answers
    reached : (run_from_pending d (read answers) p).pending ≡ Over end k

  reaches : (n : ℕ) (before : List Message) (p : Pending) (u : User) (end : End) (k : Kernel) → told_user before ≡ u → IsEnough before n → AreGranted d fuel most n p u → meet d fuel n p u ≡ Over end k → Reaches before p (answers_of n p u) end k
  unfolding run_from_pending
  reaches zero before (Over end' k') u end k e enough few h = record { honest = tt; reached = h }
  reaches zero before (Waits m k' upcall rest script) u end k e enough few h = absurd (Prim.cc)
  reaches (suc n) before (Over end' k') u end k e enough few h = record { honest = tt; reached = h }
  reaches (suc n) before (Waits m k' upcall rest script) u end k e enough few h =
      let x : Delivered = deliver d fuel u (Ok m) in
      let same : reply_to before m ≡ x = ap (λ (v : User). deliver d fuel v (Ok m)) e in
      let later : Reaches (before ++ m ∷ []) (next d (Ok x.reply) k' upcall rest script) (answers_of n (next d (Ok x.reply) k' upcall rest script) x.user) end k =
      reaches n (before ++ m ∷ []) (next d (Ok x.reply) k' upcall rest script) x.user end k (told_more before m ∙ ap (λ (y : Delivered). y.user) same) (enough_still before m n enough few.0) few.1 h in
      record { honest = (sym (honest_is before m n enough few.0 ∙ ap (λ (y : Delivered). y.reply) same), later.honest); reached = later.reached }

  -- honest answers that lead to an end are exchanges that lead there
  meets : (answers before : List Message) (p : Pending) (u : User) (end : End) (k : Kernel) → told_user before ≡ u → IsEnough before (length answers) → AreGranted d fuel most (length answers) p u
      → IsHonest d before (run_from_pending d (read answers) p).sent answers → (run_from_pending d (read answers) p).pending ≡ Over end k → meet d fuel (length answers) p u ≡ Over end k
  unfolding run_from_pending
  meets [] before (Over end' k') u end k e enough few honest h = h
  meets [] before (Waits m k' upcall rest script) u end k e enough few honest h = absurd (Prim.cc)
  meets (a ∷ answers) before (Over end' k') u end k e enough few honest h = h
  meets (a ∷ answers) before (Waits m k' upcall rest script) u end k e enough few honest h =
      let x : Delivered = deliver d fuel u (Ok m) in
      let same : reply_to before m ≡ x = ap (λ (v : User). deliver d fuel v (Ok m)) e in
      let reply : a ≡ x.reply = honest.0 ∙ honest_is before m (length answers) enough few.0 ∙ ap (λ (y : Delivered). y.reply) same in
      meets answers (before ++ m ∷ []) (next d (Ok x.reply) k' upcall rest script) x.user end k (told_more before m ∙ ap (λ (y : Delivered). y.user) same) (enough_still before m (length answers) enough few.0) few.1
      (subst (λ (r : Message). IsHonest d (before ++ m ∷ []) (run_from_pending d (read answers) (next d (Ok r) k' upcall rest script)).sent answers) reply honest.1)
      (subst (λ (r : Message). (run_from_pending d (read answers) (next d (Ok r) k' upcall rest script)).pending ≡ Over end k) reply h)

  -- two ends are one
  one_end : (n m : ℕ) (p : Pending) (u : User) (end end' : End) (k k' : Kernel) → meet d fuel n p u ≡ Over end k → meet d fuel m p u ≡ Over end' k' → Over end k ≡ Over end' k'
  one_end zero zero p u end end' k k' e f = sym e ∙ f
  one_end zero (suc m) (Over x y) u end end' k k' e f = sym e ∙ f
  one_end zero (suc m) (Waits a b c rest script) u end end' k k' e f = absurd (Prim.cc)
  one_end (suc n) zero (Over x y) u end end' k k' e f = sym e ∙ f
  one_end (suc n) zero (Waits a b c rest script) u end end' k k' e f = absurd (Prim.cc)
  one_end (suc n) (suc m) (Over x y) u end end' k k' e f = sym e ∙ f
  one_end (suc n) (suc m) (Waits a b c rest script) u end end' k k' e f =
      let x : Delivered = deliver d fuel u (Ok a) in one_end n m (next d (Ok x.reply) b c rest script) x.user end end' k k' e f

-- ---- the whole run's end is its own

after_own : (work : Work) (go : World → Finish) → ((w : World) → IsOwn (go w).end) → IsOwn (and_then work go).end
after_own (Ended x w) go own = own w
after_own (Stopped kind at w) go own = tt

own_end : (does : Command → World → Work) (script : List Command) (w : World) → IsOwn (commands does script w).end
unfolding commands
own_end does [] w = tt
own_end does (c ∷ cs) w = after_own (does c w) (λ w'. commands does cs w') (λ w'. own_end does cs w')

-- ---- the beginning

-- where all that was born is told, both halves agree on it
told_all : (program : Program) (K : Knowledge) (w : World) → Holds program K w → IsAgreed program (known_by K) (next_serial w) w.memory w.memory
unfolding known_by is_live
told_all program K w h = record {
  copied = h.memory.formed;
  formed = h.memory.formed;
  born = λ serial a b. refl;
  knows = λ serial live. knows serial (born_at w.memory serial) refl live;
  paired = λ serial known live. live;
  told = λ serial known. told serial (K.blocks serial) refl known;
  low = h.low;
}
  where
    knows : (serial : ℕ) (o : Option New) → born_at w.memory serial ≡ o → is_some (born_at w.memory serial) ≡ true → is_some (K.blocks serial) ≡ true
    knows serial (Some b) e live = ap (λ (o : Option Shape). is_some o) (h.memory.known serial b e)
    knows serial None e live = let none : is_some (born_at w.memory serial) ≡ false = ap (λ (o : Option New). is_some o) e in absurd (Prim.cc)

    told : (serial : ℕ) (o : Option Shape) → K.blocks serial ≡ o → is_some (K.blocks serial) ≡ true → serial < next_serial w
    told serial (Some shape) e known = h.births.told serial shape e
    told serial None e known = let none : is_some (K.blocks serial) ≡ false = ap (λ (o : Option Shape). is_some o) e in absurd (Prim.cc)

-- the state in which the kernel half begins, and what the user half has then
first_agrees : (d : Driver) (uses : Uses) (script : Bound) (budget : ℕ) → IsRight d uses → IsScript d.program script → Agree d uses budget (first_knowledge d.program uses) (first_knowledge d.program uses) (first_kernel d script budget).agreed (first_kernel d script budget).world
unfolding first_kernel first_world
first_agrees d uses script budget right good =
    let K : Knowledge = first_knowledge d.program uses in
    let w : World = first_world d.kernel.known script budget in
    let holds : Holds d.program K w =
    subst (λ (known : Numbered). Holds d.program K (first_world known script budget)) (sym right.driver.kernel.bodies.known) (commands_leave.first d.program right.driver.sound uses right.first script good budget) in record {
      grows = grows_same K;
      uses_are = refl;
      globals = states_hold.globals d.program K w holds;
      holds = holds;
      memories = told_all d.program K w holds;
      total = omega arith;
    }

first_copy : (d : Driver) (uses : Uses) (script : Bound) (budget : ℕ) → IsRight d uses → first_user d ≡ idle_user (first_kernel d script budget).agreed
unfolding first_user first_kernel first_world
first_copy d uses script budget right = ap (λ (known : Numbered). idle_user (first_memory known)) (right.driver.user.bodies.known ∙ sym right.driver.kernel.bodies.known)

-- ---- the law

module _ (d : Driver) (uses : Uses) (right : IsRight d uses) (itself : CallsNothingBack d.program → CallsItself uses d.kernel) (halves : HaveHalves d) (script : Bound) (budget : ℕ) (good : IsScript d.program script) where
  abbrev k0 : Kernel
  k0 = first_kernel d script budget

  abbrev p0 : Pending
  p0 = split_commands d script.commands k0

  -- with fuel for more than the budget the exchanges come to the watched run's end
  ends_at : (fuel : ℕ) → budget < fuel → Finishes d uses fuel budget 0 p0 (idle_user k0.agreed) (watched_of d script budget)
  unfolding first_kernel first_world first_memory watched_of
  ends_at fuel less =
      finishes d uses right halves fuel budget less script.commands good.commands (first_knowledge d.program uses) (first_knowledge d.program uses) k0 (first_agrees d uses script budget right good) (record { six = omega arith; four = λ nothing. omega arith })

  own : IsOwn (watched_of d script budget).end
  unfolding watched_of
  own = own_end (does d (held d)) script.commands (first_world d.kernel.known script budget)

  is_watched : (fuel : ℕ) (f : Finishes d uses fuel budget 0 p0 (idle_user k0.agreed) (watched_of d script budget)) (end : End) (k : Kernel) → Over end k ≡ Over (watched_of d script budget).end f.kernel → IsWatched d script budget end k
  is_watched fuel f end k one =
      let same_end : end ≡ (watched_of d script budget).end = Prim.cc in
      let same_kernel : k ≡ f.kernel = Prim.cc in
      let same_world : k.world ≡ (watched_of d script budget).world = ap (λ (x : Kernel). x.world) same_kernel ∙ f.world in
      let paid : IsPaid d uses (2 * k.exchanges) k.world = subst (λ (x : Kernel). IsPaid d uses (2 * x.exchanges) x.world) (sym same_kernel) f.bound in
      record {
        world = same_world;
        outcome = ap (outcome_of d.program) (λ i. record { end = same_end i; world = same_world i });
        own = subst (λ (e : End). IsOwn e) (sym same_end) own;
        messages = omega (arith, paid.six);
        fewer = λ nothing. paid.four (itself nothing);
      }

  pub one_memory : IsOneMemory d script budget
  unfolding split_run user_after allowance first_kernel split_commands
  one_memory = record { same = same; ends = ends }
    where
      first : (fuel : ℕ) → told_user d fuel budget [] ≡ idle_user k0.agreed
      first fuel = first_copy d uses script budget right

      same : (answers : List Message) (end : End) (k : Kernel) → IsHonest d [] (split_run d script budget (read answers)).sent answers → (split_run d script budget (read answers)).pending ≡ Over end k → IsWatched d script budget end k
      same answers end k honest over =
          let fuel : ℕ = suc (budget + all_of budget (length answers)) in
          let f : Finishes d uses fuel budget 0 p0 (idle_user k0.agreed) (watched_of d script budget) = ends_at fuel (omega arith) in
          let there : meet d fuel (length answers) p0 (idle_user k0.agreed) ≡ Over end k =
          meets d fuel budget answers [] p0 (idle_user k0.agreed) end k (first fuel) (omega arith) (f.grants (length answers)) honest over in
          is_watched fuel f end k (one_end d fuel budget (length answers) f.turns p0 (idle_user k0.agreed) end (watched_of d script budget).end k f.kernel there f.meets)

      -- the turns are no more than this, whatever fuel there is
      most_turns : ℕ
      most_turns = 6 * (watched_of d script budget).world.clock.ticks + 6 * (watched_of d script budget).world.kept.calls

      ends : (answers : List Message) × (end : End) × (k : Kernel) × IsHonest d [] (split_run d script budget (read answers)).sent answers × ((split_run d script budget (read answers)).pending ≡ Over end k)
      ends =
          let fuel : ℕ = suc (budget + all_of budget most_turns) in
          let f : Finishes d uses fuel budget 0 p0 (idle_user k0.agreed) (watched_of d script budget) = ends_at fuel (omega arith) in
          let ticks : f.kernel.world.clock.ticks ≡ (watched_of d script budget).world.clock.ticks = ap (λ (w : World). w.clock.ticks) f.world in
          let calls : f.kernel.world.kept.calls ≡ (watched_of d script budget).world.kept.calls = ap (λ (w : World). w.kept.calls) f.world in
          let few : f.turns ≤ most_turns = omega (arith, f.few, f.bound.six, ticks, calls) in
          let rises : all_of budget f.turns ≤ all_of budget most_turns = all_rise budget f.turns most_turns few in
          let r : Reaches d fuel budget [] p0 (answers_of d fuel budget f.turns p0 (idle_user k0.agreed)) (watched_of d script budget).end f.kernel =
          reaches d fuel budget f.turns [] p0 (idle_user k0.agreed) (watched_of d script budget).end f.kernel (first fuel) (omega (arith, rises)) (f.grants f.turns) f.meets in
          (answers_of d fuel budget f.turns p0 (idle_user k0.agreed), (watched_of d script budget).end, f.kernel, r.honest, r.reached)

pub split_is_one_memory : SplitIsOneMemory
split_is_one_memory program plan script budget sound bodies planned bound =
    let graph : CallGraph program = call_graph program in
    let uses : Uses = uses_by program graph.callees in
    let right : IsRight (driver_of program plan) uses = is_right program plan graph.callees sound bodies planned graph.are in
    let there : EachHasBody program = λ f func names. body_there program plan graph.callees sound bodies planned graph.are f func names in
    let itself : CallsNothingBack program → CallsItself uses (driver_of program plan).kernel =
    λ nothing. programs_are_drivers.kernel program plan planned.roots planned.halves planned.are_halves planned.is_plan.halves_are there graph.callees (one_graph_without program nothing graph.callees graph.are) in
    one_memory (driver_of program plan) uses right itself (programs_are_drivers.halves program there plan) script budget bound
