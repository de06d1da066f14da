-- What a run has come to after exchanges, for all answers that are still to come.
use Rattle.std.proofs.Common.{◌≡◌, ℕ, List, [], ◌∷◌, ◌++◌, map, Option, Some, None, refl, sym, ap, ◌∙◌, subst, append_assoc}
use Rattle.mdr_watched.specs.Driver.{Driver}
use Rattle.mdr_outside.specs.declared.far.Exchange.{Exchange}
use Rattle.mdr_outside.specs.Far.{exchange}
use Rattle.mdr_model.specs.declared.command.Command.{Command}
use Rattle.mdr_bound.specs.declared.bound.Bound.{Bound}
use Rattle.mdr_model.specs.declared.message.Message.{Message}
use Rattle.mdr_model.specs.declared.outcome.End.{End}
use Rattle.mdr_model.specs.declared.outcome.End.TheVariants as ends
use Rattle.mdr_model.specs.Text.{text}
use Rattle.mdr_model.specs.Reading.{reading_of}
use Rattle.mdr_model.specs.Bytes.{readings}
use Rattle.mdr_over_bytes.specs.OverBytes.{split_run_over_bytes}
use Rattle.mdr_plain.specs.Scripts.{finish}
use Rattle.mdr_split.specs.State.{Kernel, Open, Rest, Pending, Over, Waits}
use Rattle.mdr_split.specs.Kernel.{SplitRun, next, split_commands, first_kernel, run_from_pending, split_run}
use Rattle.mdr_split.specs.AnyAnswers.{kernel_in}
use Rattle.mdr_msg.specs.WellFormed.{IsMessage}
use Rattle.mdr_msg.specs.OverBytes.{HaveSpellings}
use Rattle.mdr_exchanges.specs.Runs.{sent_of, then_answers, answers_of, run_over, finish_of, HasEnded}

-- ---- lists of exchanges

-- each message was answered
abbrev IsAnswered : Exchange → Type 0
IsAnswered e = (bytes : List ℕ) × (e.got ≡ Some bytes)

abbrev pub AllAnswered : List Exchange → Type 0
AllAnswered [] = Unit {0}
AllAnswered (e ∷ es) = IsAnswered e × AllAnswered es

pub answers_more : (es : List Exchange) (e : Exchange) → AllAnswered es → answers_of (es ++ e ∷ []) ≡ answers_of es ++ then_answers e.got []
answers_more [] e all = refl
answers_more (x ∷ es) e all = of x.got all.0.0 all.0.1 (answers_more es e all.1)
  where
    of : (got : Option (List ℕ)) (bytes : List ℕ) → got ≡ Some bytes → answers_of (es ++ e ∷ []) ≡ answers_of es ++ then_answers e.got []
        → then_answers got (answers_of (es ++ e ∷ [])) ≡ then_answers got (answers_of es) ++ then_answers e.got []
    of None bytes is later = absurd (Prim.cc)
    of (Some b) bytes is later = ap (λ (xs : List (List ℕ)). b ∷ xs) later

all_answered : (es : List Exchange) (e : Exchange) → AllAnswered es → IsAnswered e → AllAnswered (es ++ e ∷ [])
all_answered [] e all one = (one, tt)
all_answered (x ∷ es) e all one = (all.0, all_answered es e all.1 one)

pub sent_more : (es : List Exchange) (e : Exchange) → sent_of (es ++ e ∷ []) ≡ sent_of es ++ e.sent ∷ []
sent_more [] e = refl
sent_more (x ∷ es) e = ap (λ (xs : List (List ℕ)). x.sent ∷ xs) (sent_more es e)

texts_more : (ms : List Message) (m : Message) → map text (ms ++ m ∷ []) ≡ map text ms ++ text m ∷ []
texts_more [] m = refl
texts_more (x ∷ ms) m = ap (λ (xs : List (List ℕ)). text x ∷ xs) (texts_more ms m)

spelled_more : (ms : List Message) (m : Message) → HaveSpellings ms → IsMessage m → HaveSpellings (ms ++ m ∷ [])
spelled_more [] m all one = (one, tt)
spelled_more (x ∷ ms) m all one = (all.0, spelled_more ms m all.1 one)

append_none : {A : Type 0} (xs : List A) → xs ++ [] ≡ xs
append_none [] = refl
append_none (x ∷ xs) = ap (λ ys. x ∷ ys) (append_none xs)

-- ---- the run so far

-- messages before those of a run
abbrev pub after_messages : List Message → SplitRun → SplitRun
after_messages ms r = record { sent = ms ++ r.sent; pending = r.pending }

-- from the first state on, these exchanges lead to this one, whatever comes then
pub record SoFar (d : Driver) (first now : Pending) (es : List Exchange) : Type 0 where
  pub messages : List Message
  pub sent : sent_of es ≡ map text messages
  pub spelled : HaveSpellings messages
  pub all : AllAnswered es
  pub runs : (more : List (List ℕ)) → run_from_pending d (readings (answers_of es ++ more)) first ≡ after_messages messages (run_from_pending d (readings more) now)

pub begins_so : (d : Driver) (first : Pending) (es : List Exchange) → es ≡ [] → SoFar d first first es
begins_so d first es none = subst (SoFar d first first) (sym none) (record { messages = []; sent = refl; spelled = tt; all = tt; runs = λ more. refl })

sends_more : (es : List Exchange) (ms : List Message) (m : Message) (got : Option (List ℕ)) → sent_of es ≡ map text ms → sent_of (es ++ exchange (text m) got ∷ []) ≡ map text (ms ++ m ∷ [])
sends_more es ms m got e = sent_more es (exchange (text m) got) ∙ ap (λ (xs : List (List ℕ)). xs ++ text m ∷ []) e ∙ sym (texts_more ms m)

-- one answer more
pub goes_so : (d : Driver) (first : Pending) (m : Message) (k : Kernel) (upcall : Open) (rest : Rest) (cs : List Command) (es es' : List Exchange) (bytes : List ℕ) (p : Pending) → SoFar d first (Waits m k upcall rest cs) es
    → IsMessage m → es' ≡ es ++ exchange (text m) (Some bytes) ∷ [] → p ≡ next d (reading_of bytes) k upcall rest cs → SoFar d first p es'
unfolding run_from_pending
goes_so d first m k upcall rest cs es es' bytes p so one added leads = record {
  messages = so.messages ++ m ∷ [];
  sent = ap sent_of added ∙ sends_more es so.messages m (Some bytes) so.sent;
  spelled = spelled_more so.messages m so.spelled one;
  all = subst AllAnswered (sym added) (all_answered es (exchange (text m) (Some bytes)) so.all (bytes, refl));
  runs = λ more.
      let answers_are : answers_of es' ++ more ≡ answers_of es ++ bytes ∷ more =
      ap (λ (xs : List Exchange). answers_of xs ++ more) added ∙ ap (λ (xs : List (List ℕ)). xs ++ more) (answers_more es (exchange (text m) (Some bytes)) so.all)
      ∙ append_assoc (answers_of es) (bytes ∷ []) more in
      let later : SplitRun = run_from_pending d (readings more) (next d (reading_of bytes) k upcall rest cs) in
      let here : run_from_pending d (readings (answers_of es ++ bytes ∷ more)) first ≡ record { sent = so.messages ++ m ∷ later.sent; pending = later.pending } = so.runs (bytes ∷ more) in
      ap (λ (xs : List (List ℕ)). run_from_pending d (readings xs) first) answers_are ∙ here
      ∙ ap (λ (ms : List Message). record { sent = ms; pending = later.pending }) (sym (append_assoc so.messages (m ∷ []) later.sent))
      ∙ ap (λ (x : Pending). after_messages (so.messages ++ m ∷ []) (run_from_pending d (readings more) x)) (sym leads);
}

-- the first state of a run
abbrev pub first_of : Driver → Bound → ℕ → Pending
first_of d script budget = split_commands d script.commands (first_kernel d script budget)

pub run_is : (d : Driver) (script : Bound) (budget : ℕ) (es : List Exchange) → run_over d script budget es ≡ run_from_pending d (readings (answers_of es)) (first_of d script budget)
unfolding split_run_over_bytes split_run
run_is d script budget es = refl

-- a run that is known to have sent these messages and to stand there
ended_in : (d : Driver) (script : Bound) (budget : ℕ) (es : List Exchange) (ms : List Message) (p : Pending) (end : End) (k : Kernel) → sent_of es ≡ map text ms → HaveSpellings ms
    → run_over d script budget es ≡ record { sent = ms; pending = p } → finish_of p ≡ finish end k.world → kernel_in p ≡ k → HasEnded d script budget es end k
ended_in d script budget es ms p end k sent spelled is ended kernel = record {
  messages = sent ∙ ap (λ (r : SplitRun). map text r.sent) (sym is);
  spelled = subst (λ (r : SplitRun). HaveSpellings r.sent) (sym is) spelled;
  ended = ap (λ (r : SplitRun). finish_of r.pending) is ∙ ended;
  kernel = ap (λ (r : SplitRun). kernel_in r.pending) is ∙ kernel;
}

-- the run is over
pub over_so : (d : Driver) (script : Bound) (budget : ℕ) (es : List Exchange) (end : End) (k : Kernel) → SoFar d (first_of d script budget) (Over end k) es → HasEnded d script budget es end k
unfolding run_from_pending
over_so d script budget es end k so =
    let is : run_over d script budget es ≡ record { sent = so.messages; pending = Over end k } =
    run_is d script budget es
    ∙ ap (λ (xs : List (List ℕ)). run_from_pending d (readings xs) (first_of d script budget)) (sym (append_none (answers_of es)))
    ∙ so.runs []
    ∙ ap (λ (ms : List Message). record { sent = ms; pending = Over end k }) (append_none so.messages) in
    ended_in d script budget es so.messages (Over end k) end k so.sent so.spelled is refl refl

-- the last message had no answer
pub fails_so : (d : Driver) (script : Bound) (budget : ℕ) (es es' : List Exchange) (m : Message) (k k' : Kernel) (upcall : Open) (rest : Rest) (cs : List Command) → SoFar d (first_of d script budget) (Waits m k upcall rest cs) es
    → IsMessage m → es' ≡ es ++ exchange (text m) None ∷ [] → k' ≡ k → HasEnded d script budget es' (ends.FarFault k'.exchanges) k'
unfolding run_from_pending
fails_so d script budget es es' m k k' upcall rest cs so one added same =
    let answers_are : answers_of es' ≡ answers_of es ++ [] = ap answers_of added ∙ answers_more es (exchange (text m) None) so.all in
    let is : run_over d script budget es' ≡ record { sent = so.messages ++ m ∷ []; pending = Waits m k upcall rest cs } =
    run_is d script budget es' ∙ ap (λ (xs : List (List ℕ)). run_from_pending d (readings xs) (first_of d script budget)) answers_are ∙ so.runs [] in
    ended_in d script budget es' (so.messages ++ m ∷ []) (Waits m k upcall rest cs) (ends.FarFault k'.exchanges) k' (ap sent_of added ∙ sends_more es so.messages m None so.sent) (spelled_more so.messages m so.spelled one) is
    (ap (λ (x : Kernel). finish (ends.FarFault x.exchanges) x.world) (sym same)) (sym same)
