-- How a run ends that the far side ends: it waited, and the last answer was refused, or there was none.
use Rattle.std.proofs.Common.{◌≡◌, ℕ, suc, ◌+◌, ◌*◌, ◌≤◌, List, [], ◌∷◌, ◌++◌, map, length, Option, Some, None, refl, sym, ap, ◌∙◌, subst, arith}
use Rattle.mdr_core.specs.declared.refusal.RefuseKind.{RefuseKind}
use Rattle.mdr_watched.specs.Driver.{Driver}
use Rattle.mdr_outside.specs.declared.far.Exchange.{Exchange}
use Rattle.mdr_model.specs.declared.message.Fault.{Fault}
use Rattle.mdr_model.specs.declared.command.Command.{Command}
use Rattle.mdr_bound.specs.declared.bound.Bound.{Bound}
use Rattle.mdr_model.specs.declared.message.Message.{Message}
use Rattle.mdr_model.specs.declared.outcome.End.{End}
use Rattle.mdr_model.specs.declared.outcome.End.TheVariants as ends
use Rattle.mdr_model.specs.Text.{text}
use Rattle.mdr_model.specs.Reading.{reading_of}
use Rattle.mdr_plain.specs.World.{World}
use Rattle.mdr_plain.specs.Scripts.{Finish, finish}
use Rattle.mdr_model.specs.KernelState.{Reading}
use Rattle.mdr_split.specs.State.{Kernel, Open, Rest, Pending, Over, Waits}
use Rattle.mdr_split.specs.Kernel.{SplitRun, next, first_kernel, run_from_pending, split_run}
use Rattle.mdr_model.specs.Bytes.{readings}
use Rattle.mdr_over_bytes.specs.OverBytes.{split_run_over_bytes}
use Rattle.mdr_model.specs.Law.{IsOwn}
use Rattle.mdr_split.specs.AnyAnswers.{answer_fault, kernel_in}
use Rattle.mdr_split.proofs.Unchanged.{EndsItself, commands_end, next_refuses, next_ends, next_only}
use Rattle.mdr_limits.proofs.FewMessages.{few_everywhere}
use Rattle.mdr_exchanges.specs.Runs.{sent_of, then_answers, answers_of, run_over, finish_of, HasEnded}
use Rattle.mdr_exchanges.specs.Ends.{WasRefused, IsUnanswered, HasFailed, IsAsBefore, AreFew}
use Rattle.mdr_exchanges.proofs.Counted.{total_of}
use Rattle.mdr_exchanges.proofs.Turns.{first_of, run_is}

-- ---- the last answer

-- from a state over answers, the last of which is refused
record RefusedLast (d : Driver) (p : Pending) (answers : List (List ℕ)) (exchange : ℕ) (cause : RefuseKind) (number : ℕ) (k : Kernel) : Type 0 where
  before : List (List ℕ)
  last : List ℕ
  all : answers ≡ before ++ last ∷ []
  message : Message
  kernel : Kernel
  upcall : Open
  rest : Rest
  left : List Command
  waits : (run_from_pending d (readings before) p).pending ≡ Waits message kernel upcall rest left
  leads : next d (reading_of last) kernel upcall rest left ≡ Over (ends.Refused exchange cause number) k

module _ (d : Driver) where
  no_refusal : (end : End) (k k' : Kernel) (exchange : ℕ) (cause : RefuseKind) (number : ℕ) → IsOwn end → Over end k ≡ Over (ends.Refused exchange cause number) k' → ⊥
  no_refusal end k k' exchange cause number own e = subst EndsItself e own

  -- no more answers than messages were taken, so none came after it
  refused_last : (answers : List (List ℕ)) (p : Pending) (exchange : ℕ) (cause : RefuseKind) (number : ℕ) (k : Kernel) → EndsItself p → length answers ≤ length (run_from_pending d (readings answers) p).sent
      → (run_from_pending d (readings answers) p).pending ≡ Over (ends.Refused exchange cause number) k → RefusedLast d p answers exchange cause number k
  unfolding run_from_pending
  refused_last [] (Over end k') exchange cause number k own few e = absurd (no_refusal end k' k exchange cause number own e)
  refused_last [] (Waits m k' upcall rest cs) exchange cause number k own few e = absurd (Prim.cc)
  refused_last (a ∷ answers) (Over end k') exchange cause number k own few e = absurd (no_refusal end k' k exchange cause number own e)
  refused_last (a ∷ answers) (Waits m k' upcall rest cs) exchange cause number k own few e =
      of (next d (reading_of a) k' upcall rest cs) refl (λ own' few' e'. refused_last answers (next d (reading_of a) k' upcall rest cs) exchange cause number k own' few' e')
    where
      q : Pending
      q = next d (reading_of a) k' upcall rest cs

      -- the answer ended the run, so no other came
      ended : (end : End) (l : Kernel) → q ≡ Over end l → RefusedLast d (Waits m k' upcall rest cs) (a ∷ answers) exchange cause number k
      ended end l is =
          let sent : (run_from_pending d (readings answers) q).sent ≡ (run_from_pending d (readings answers) (Over end l)).sent = ap (λ (x : Pending). (run_from_pending d (readings answers) x).sent) is in
          let over : Over end l ≡ Over (ends.Refused exchange cause number) k = sym (ap (λ (x : Pending). (run_from_pending d (readings answers) x).pending) is) ∙ e in
          let none : length answers ≡ 0 = no_more (ap length sent) in
          record {
            before = [];
            last = a;
            all = ap (λ (xs : List (List ℕ)). a ∷ xs) (nothing answers none);
            message = m;
            kernel = k';
            upcall = upcall;
            rest = rest;
            left = cs;
            waits = refl;
            leads = is ∙ over;
          }
        where
          no_more : length (run_from_pending d (readings answers) q).sent ≡ 0 → length answers ≡ 0
          no_more h = omega (arith, few, h)

          nothing : (xs : List (List ℕ)) → length xs ≡ 0 → xs ≡ []
          nothing [] h = refl
          nothing (x ∷ xs) h = absurd (omega (arith, h))

      later : RefusedLast d q answers exchange cause number k → RefusedLast d (Waits m k' upcall rest cs) (a ∷ answers) exchange cause number k
      later r = record {
        before = a ∷ r.before;
        last = r.last;
        all = ap (λ (xs : List (List ℕ)). a ∷ xs) r.all;
        message = r.message;
        kernel = r.kernel;
        upcall = r.upcall;
        rest = r.rest;
        left = r.left;
        waits = r.waits;
        leads = r.leads;
      }

      of : (x : Pending) → q ≡ x
          → (EndsItself q → length answers ≤ length (run_from_pending d (readings answers) q).sent → (run_from_pending d (readings answers) q).pending ≡ Over (ends.Refused exchange cause number) k → RefusedLast d q answers exchange cause number k)
          → RefusedLast d (Waits m k' upcall rest cs) (a ∷ answers) exchange cause number k
      of (Over end l) is go = ended end l is
      of (Waits m' l upcall' rest' cs') is go = later (go (subst EndsItself (sym is) tt) (omega (arith, few)) e)

-- ---- a run ends by itself or refused

abbrev IsOwnEnd : End → Type 0
IsOwnEnd ends.Ok = Unit {0}
IsOwnEnd (ends.Stop kind at) = Unit {0}
IsOwnEnd (ends.Refused exchange cause number) = Unit {0}
IsOwnEnd (ends.FarFault exchange) = ⊥

abbrev EndsKnown : Pending → Type 0
EndsKnown (Over end k) = IsOwnEnd end
EndsKnown (Waits m k upcall rest cs) = Unit {0}

itself_known : (p : Pending) → EndsItself p → EndsKnown p
itself_known (Over ends.Ok k) own = tt
itself_known (Over (ends.Stop kind at) k) own = tt
itself_known (Over (ends.Refused exchange cause number) k) own = tt
itself_known (Over (ends.FarFault exchange) k) own = own
itself_known (Waits m k upcall rest cs) own = tt

next_known : (d : Driver) (a : Reading) (k : Kernel) (upcall : Open) (rest : Rest) (cs : List Command) → EndsKnown (next d a k upcall rest cs)
next_known d a k upcall rest cs = of (answer_fault d k upcall rest a) refl
  where
    of : (o : Option Fault) → answer_fault d k upcall rest a ≡ o → EndsKnown (next d a k upcall rest cs)
    of None e = itself_known _ (next_ends d a k upcall rest cs e)
    of (Some f) e = subst EndsKnown (sym (next_refuses d a k upcall rest cs f e)) tt

run_known : (d : Driver) (xs : List Reading) (p : Pending) → EndsKnown p → EndsKnown (run_from_pending d xs p).pending
unfolding run_from_pending
run_known d [] (Over end k) known = known
run_known d [] (Waits m k upcall rest cs) known = known
run_known d (a ∷ xs) (Over end k) known = known
run_known d (a ∷ xs) (Waits m k upcall rest cs) known = run_known d xs (next d a k upcall rest cs) (next_known d a k upcall rest cs)

-- ---- exchanges

pub few_answers : (es : List Exchange) → length (answers_of es) ≤ length es
few_answers [] = omega arith
few_answers (e ∷ es) = of e.got (few_answers es)
  where
    of : (got : Option (List ℕ)) → length (answers_of es) ≤ length es → length (then_answers got (answers_of es)) ≤ suc (length es)
    of None few = omega arith
    of (Some bytes) few = omega (arith, few)

pub sents : (es : List Exchange) → length (sent_of es) ≡ length es
sents [] = refl
sents (e ∷ es) = ap suc (sents es)

texts : (ms : List Message) → length (map text ms) ≡ length ms
texts [] = refl
texts (m ∷ ms) = ap suc (texts ms)

-- each exchange sent a message
pub as_many : (es : List Exchange) (ms : List Message) → sent_of es ≡ map text ms → length es ≡ length ms
as_many es ms e = sym (sents es) ∙ ap length e ∙ texts ms

-- ---- an exchange without an answer

-- a run that waits sent one message more than it got answers
waits_for_one : (d : Driver) (answers : List (List ℕ)) (p : Pending) (m : Message) (k : Kernel) (upcall : Open) (rest : Rest) (cs : List Command) → (run_from_pending d (readings answers) p).pending ≡ Waits m k upcall rest cs
    → length (run_from_pending d (readings answers) p).sent ≡ suc (length answers)
unfolding run_from_pending
waits_for_one d [] (Over end k') m k upcall rest cs e = absurd (Prim.cc)
waits_for_one d (a ∷ answers) (Over end k') m k upcall rest cs e = absurd (Prim.cc)
waits_for_one d [] (Waits m' k' upcall' rest' cs') m k upcall rest cs e = refl
waits_for_one d (a ∷ answers) (Waits m' k' upcall' rest' cs') m k upcall rest cs e = ap suc (waits_for_one d answers (next d (reading_of a) k' upcall' rest' cs') m k upcall rest cs e)

-- all exchanges but the last are answered
record LastUnanswered (es : List Exchange) : Type 0 where
  before : List Exchange
  last : Exchange
  all : es ≡ before ++ last ∷ []
  none : last.got ≡ None

last_unanswered : (es : List Exchange) → length es ≡ suc (length (answers_of es)) → LastUnanswered es
last_unanswered [] one = absurd (omega (arith, one))
last_unanswered (e ∷ es) one = of e.got refl one (λ less. last_unanswered es less)
  where
    nothing : (xs : List Exchange) → length (e ∷ xs) ≡ 1 → e ∷ xs ≡ e ∷ []
    nothing [] h = refl
    nothing (x ∷ xs) h = absurd (omega (arith, h))

    later : LastUnanswered es → LastUnanswered (e ∷ es)
    later l = record { before = e ∷ l.before; last = l.last; all = ap (λ (xs : List Exchange). e ∷ xs) l.all; none = l.none }

    of : (got : Option (List ℕ)) → e.got ≡ got → length (e ∷ es) ≡ suc (length (then_answers got (answers_of es))) → (length es ≡ suc (length (answers_of es)) → LastUnanswered es) → LastUnanswered (e ∷ es)
    of None is h go = record { before = []; last = e; all = nothing es h; none = is }
    of (Some bytes) is h go = later (go (omega (arith, h)))

-- ---- the state that is left

module _ (d : Driver) (script : Bound) (budget : ℕ) (es : List Exchange) where
  -- a run that is over ended so
  over_is : (p : Pending) (end : End) (w : World) → IsOwnEnd end → finish_of p ≡ finish end w → (k : Kernel) → kernel_in p ≡ k → p ≡ Over end k
  over_is (Over end' k') end w own e k is =
      let same : end' ≡ end = ap (λ (f : Finish). f.end) e in λ i. Over (same i) (is i)
  over_is (Waits m k' upcall rest cs) end w own e k is =
      let same : ends.FarFault k'.exchanges ≡ end = ap (λ (f : Finish). f.end) e in absurd (subst IsOwnEnd (sym same) own)

  over_bytes : (answers : List (List ℕ)) → split_run_over_bytes d script budget answers ≡ run_from_pending d (readings answers) (first_of d script budget)
  unfolding split_run_over_bytes split_run
  over_bytes answers = refl

  refused_so : (exchange : ℕ) (cause : RefuseKind) (number : ℕ) (k : Kernel) → HasEnded d script budget es (ends.Refused exchange cause number) k → WasRefused d script budget (answers_of es) exchange cause number k.world.memory
  refused_so exchange cause number k h =
      let run : SplitRun = run_from_pending d (readings (answers_of es)) (first_of d script budget) in
      let same : run_over d script budget es ≡ run = run_is d script budget es in
      let begins : EndsItself (first_of d script budget) = commands_end d script.commands (first_kernel d script budget) in
      let ended : (run_over d script budget es).pending ≡ Over (ends.Refused exchange cause number) k = over_is _ (ends.Refused exchange cause number) k.world tt h.ended k h.kernel in
      let over : run.pending ≡ Over (ends.Refused exchange cause number) k = sym (ap (λ (r : SplitRun). r.pending) same) ∙ ended in
      let counted : length es ≡ length run.sent = as_many es run.sent (h.messages ∙ ap (λ (r : SplitRun). map text r.sent) same) in
      let few : length (answers_of es) ≤ length run.sent = omega (arith, few_answers es, counted) in
      let r : RefusedLast d (first_of d script budget) (answers_of es) exchange cause number k = refused_last d (answers_of es) (first_of d script budget) exchange cause number k begins few over in
      let told = next_only d (reading_of r.last) r.kernel k r.upcall r.rest r.left exchange cause number r.leads in
      record {
        before = r.before;
        last = r.last;
        all = r.all;
        waited = record {
          message = r.message;
          kernel = r.kernel;
          upcall = r.upcall;
          rest = r.rest;
          left = r.left;
          waits = ap (λ (x : SplitRun). x.pending) (over_bytes r.before) ∙ r.waits;
          same = ap (λ (x : Kernel). x.world.memory) told.2;
        };
        counted = told.1;
        refused = told.0;
      }

  -- where the run waits, the last message has no answer
  unanswered_so : (exchange : ℕ) (m : Message) (k : Kernel) (upcall : Open) (rest : Rest) (cs : List Command) → sent_of es ≡ map text (run_over d script budget es).sent → (run_over d script budget es).pending ≡ Waits m k upcall rest cs → exchange ≡ k.exchanges
      → IsUnanswered es exchange
  unanswered_so exchange m k upcall rest cs messages is number =
      let run : SplitRun = run_from_pending d (readings (answers_of es)) (first_of d script budget) in
      let same : run_over d script budget es ≡ run = run_is d script budget es in
      let many : length es ≡ length run.sent = as_many es run.sent (messages ∙ ap (λ (r : SplitRun). map text r.sent) same) in
      let more : length run.sent ≡ suc (length (answers_of es)) = waits_for_one d (answers_of es) (first_of d script budget) m k upcall rest cs (sym (ap (λ (r : SplitRun). r.pending) same) ∙ is) in
      let total : (kernel_in (run_over d script budget es).pending).exchanges ≡ length (run_over d script budget es).sent + 0 = total_of d script budget (answers_of es) in
      let here : (kernel_in (run_over d script budget es).pending).exchanges ≡ k.exchanges = ap (λ (p : Pending). (kernel_in p).exchanges) is in
      let sent : length (run_over d script budget es).sent ≡ length run.sent = ap (λ (r : SplitRun). length r.sent) same in
      let l : LastUnanswered es = last_unanswered es (many ∙ more) in
      record { before = l.before; last = l.last; all = l.all; none = l.none; counted = omega (arith, number, total, here, sent, many) }

  -- the far side failed where the run waits
  failed_so : (exchange : ℕ) (k : Kernel) → HasEnded d script budget es (ends.FarFault exchange) k → HasFailed d script budget es exchange k.world.memory
  failed_so exchange k h = of (run_over d script budget es).pending refl h.ended h.kernel
    where
      begins : EndsItself (first_of d script budget)
      begins = commands_end d script.commands (first_kernel d script budget)

      known : EndsKnown (run_over d script budget es).pending
      known = subst (λ (r : SplitRun). EndsKnown r.pending) (sym (run_is d script budget es)) (run_known d (readings (answers_of es)) (first_of d script budget) (itself_known _ begins))

      number_in : End → ℕ
      number_in ends.Ok = 0
      number_in (ends.Stop kind at) = 0
      number_in (ends.Refused number cause value) = 0
      number_in (ends.FarFault number) = number

      of : (p : Pending) → (run_over d script budget es).pending ≡ p → finish_of p ≡ finish (ends.FarFault exchange) k.world → kernel_in p ≡ k → HasFailed d script budget es exchange k.world.memory
      of (Over end k') is e same =
          let far : end ≡ ends.FarFault exchange = ap (λ (f : Finish). f.end) e in
          absurd (subst IsOwnEnd far (subst EndsKnown is known))
      of (Waits m k' upcall rest cs) is e same =
          let number : exchange ≡ k'.exchanges = sym (ap (λ (f : Finish). number_in f.end) e) in
          record {
            waited = record { message = m; kernel = k'; upcall = upcall; rest = rest; left = cs; waits = is; same = ap (λ (x : Kernel). x.world.memory) (sym same) };
            counted = number;
            unanswered = unanswered_so exchange m k' upcall rest cs h.messages is number;
          }

  pub as_before : (end : End) (k : Kernel) → HasEnded d script budget es end k → IsAsBefore d script budget es k.world.memory end
  as_before ends.Ok k h = tt
  as_before (ends.Stop kind at) k h = tt
  as_before (ends.Refused exchange cause number) k h = refused_so exchange cause number k h
  as_before (ends.FarFault exchange) k h = failed_so exchange k h

  -- the messages are paid for by ticks and commands
  pub are_few : (end : End) (k : Kernel) (messages ticks : ℕ) → HasEnded d script budget es end k → messages ≤ 2 * k.exchanges → ticks ≡ k.world.clock.ticks → AreFew d script budget es messages ticks
  unfolding split_run_over_bytes
  are_few end k messages ticks h count clock =
      let l : Kernel = kernel_in (run_over d script budget es).pending in
      let paid : 2 * l.exchanges ≤ 8 * l.world.clock.ticks + 6 * l.world.kept.calls = few_everywhere d script budget (readings (answers_of es)) in
      let sent : l.exchanges ≡ k.exchanges = ap (λ (x : Kernel). x.exchanges) h.kernel in
      let spent : l.world.clock.ticks ≡ k.world.clock.ticks = ap (λ (x : Kernel). x.world.clock.ticks) h.kernel in
      omega (arith, paid, sent, spent, count, clock)
