-- A run of two halves where each message and each answer fits: its computing doesn't wait for the tests of types.
use Rattle.std.proofs.Common.{◌≡◌, ℕ, Bool, true, List, [], ◌∷◌, Option, Some, None, Ok, refl, ◌∙◌, ap}
use Rattle.mdr_model.specs.declared.command.Command.{Command}
use Rattle.mdr_model.specs.declared.message.Call.{Call}
use Rattle.mdr_model.specs.declared.message.Fault.{Fault}
use Rattle.mdr_model.specs.declared.message.Message.{Message}
use Rattle.mdr_model.specs.declared.message.Message.TheVariants as message
use Rattle.mdr_model.specs.declared.reply.Reply.{Reply}
use Rattle.mdr_model.specs.Copies.{agreed_after}
use Rattle.mdr_model.specs.Law.{read}
use Rattle.mdr_model.specs.Memory.{Memory}
use Rattle.mdr_model.specs.ReplyFaults.{reply_of}
use Rattle.mdr_model.specs.Sets.{cells_of_runs}
use Rattle.mdr_model.specs.User.{renewed_copy}
use Rattle.mdr_meaning.specs.Bodies.{started}
use Rattle.mdr_meaning.specs.Tree.{Tree}
use Rattle.mdr_split.specs.Kernel.{SplitRun, judged, next, run_from_pending, taken}
use Rattle.mdr_split.specs.Legal.{fault_of}
use Rattle.mdr_split.specs.State.{Kernel, Open, Rest, Pending, Over, Waits}
use Rattle.mdr_split.specs.User.{Delivered, Down, Opened, Refuses, Runs, User, Work, Nothing, AwaitsAnswer, AwaitsBack, answer_fits, back_fits, call_fits, deliver, done, entered_behind, grown, opened, user_after, when_fits}
use Rattle.mdr_watched.specs.Driver.{Driver}

-- ---- the user half

-- a message that is awaited fits
abbrev pub fits_now : Driver → Memory → (entered : List ℕ) → Work → Message → Bool
fits_now d copy entered Nothing (message.Call call) = call_fits d copy entered [] call
fits_now d copy entered (AwaitsBack down below) (message.Call call) = call_fits d copy entered (down ∷ below) call
fits_now d copy entered (AwaitsBack down below) (message.Back back) = back_fits d copy entered down.stub down.func back
fits_now d copy entered (AwaitsAnswer stub asked seen left goes below) (message.Answer answer) = answer_fits d copy entered asked answer
fits_now d copy entered work m = true

-- the upcall that a call begins
abbrev begins : Driver → ℕ → Memory → (entered : List ℕ) → List Down → Call → Opened
begins d fuel copy entered below call =
    Runs (started d.user fuel call.func call.args call.depth Tree.Idle) call.rest call.func entered (cells_of_runs call.told.view) (agreed_after d.program call.told copy) below

-- what it opens then
abbrev pub opens : Driver → ℕ → Memory → (entered : List ℕ) → Work → Message → Opened
opens d fuel copy entered Nothing (message.Call call) = begins d fuel copy entered [] call
opens d fuel copy entered (AwaitsBack down below) (message.Call call) = begins d fuel copy entered (down ∷ below) call
opens d fuel copy entered (AwaitsBack down below) (message.Back back) =
    Runs (down.goes back.result) back.rest down.stub entered (cells_of_runs back.told.view) (agreed_after d.program back.told copy) below
opens d fuel copy entered (AwaitsAnswer stub asked seen left goes below) (message.Answer answer) =
    let copy' : Memory = renewed_copy d.program answer.deaths answer.news copy in
    let entered' : List ℕ = entered_behind asked.service answer.deaths answer.news entered in
    Runs (goes answer.results) left stub entered' (grown d stub copy' answer.news seen) copy' below
opens d fuel copy entered work m = Refuses 2

opens_so : (d : Driver) (fuel : ℕ) (copy : Memory) (entered : List ℕ) (work : Work) (m : Message) → fits_now d copy entered work m ≡ true → opened d fuel copy entered work m ≡ opens d fuel copy entered work m
unfolding opened
opens_so d fuel copy entered Nothing (message.Call call) e = ap (λ (b : Bool). when_fits b (begins d fuel copy entered [] call)) e
opens_so d fuel copy entered (AwaitsBack down below) (message.Call call) e = ap (λ (b : Bool). when_fits b (begins d fuel copy entered (down ∷ below) call)) e
opens_so d fuel copy entered (AwaitsBack down below) (message.Back back) e =
    ap (λ (b : Bool). when_fits b (opens d fuel copy entered (AwaitsBack down below) (message.Back back))) e
opens_so d fuel copy entered (AwaitsAnswer stub asked seen left goes below) (message.Answer answer) e =
    ap (λ (b : Bool). when_fits b (opens d fuel copy entered (AwaitsAnswer stub asked seen left goes below) (message.Answer answer))) e
opens_so d fuel copy entered work m e = refl

abbrev pub fits_user : Driver → User → Message → Bool
fits_user d u m = fits_now d u.agreed u.entered u.work m

abbrev pub follows : Driver → ℕ → User → Message → Delivered
follows d fuel u m = done u (opens d fuel u.agreed u.entered u.work m)

follows_so : (d : Driver) (fuel : ℕ) (u : User) (m : Message) → fits_user d u m ≡ true → deliver d fuel u (Ok m) ≡ follows d fuel u m
unfolding deliver
follows_so d fuel u m e = ap (done u) (opens_so d fuel u.agreed u.entered u.work m e)

-- after messages
abbrev pub followed : Driver → ℕ → User → List Message → User
followed d fuel u [] = u
followed d fuel u (m ∷ ms) = followed d fuel (follows d fuel u m).user ms

-- each of them fits
abbrev pub AllFit : Driver → ℕ → User → List Message → Type 0
AllFit d fuel u [] = Unit {0}
AllFit d fuel u (m ∷ ms) = (fits_user d u m ≡ true) × AllFit d fuel (follows d fuel u m).user ms

pub followed_so : (d : Driver) (fuel : ℕ) (u : User) (ms : List Message) → AllFit d fuel u ms → user_after d fuel u (read ms) ≡ followed d fuel u ms
unfolding user_after
followed_so d fuel u [] h = refl
followed_so d fuel u (m ∷ ms) h = ap (λ (x : Delivered). user_after d fuel x.user (read ms)) (follows_so d fuel u m h.0) ∙ followed_so d fuel (follows d fuel u m).user ms h.1

-- the reply to a message behind others
pub replies_so : (d : Driver) (fuel : ℕ) (u : User) (before : List Message) (last : Message) → AllFit d fuel u before
    → fits_user d (followed d fuel u before) last ≡ true
    → (deliver d fuel (user_after d fuel u (read before)) (Ok last)).reply ≡ (follows d fuel (followed d fuel u before) last).reply
replies_so d fuel u before last h e =
    ap (λ (x : User). (deliver d fuel x (Ok last)).reply) (followed_so d fuel u before h)
    ∙ ap (λ (x : Delivered). x.reply) (follows_so d fuel (followed d fuel u before) last e)

-- ---- the kernel half

-- the first fault of an answer that is a reply
abbrev pub fault_now : Driver → Kernel → Open → Rest → Option Reply → Option Fault
fault_now d k upcall rest None = None
fault_now d k upcall rest (Some reply) = fault_of d k upcall rest reply

-- a reply is taken
abbrev pub takes : Driver → (a : Message) → Option Reply → Kernel → Open → Rest → List Command → Pending
takes d a None k upcall rest script = next d (Ok a) k upcall rest script
takes d a (Some reply) k upcall rest script = taken d reply k upcall rest script

takes_so : (d : Driver) (a : Message) (k : Kernel) (upcall : Open) (rest : Rest) (script : List Command) → fault_now d k upcall rest (reply_of a) ≡ None
    → next d (Ok a) k upcall rest script ≡ takes d a (reply_of a) k upcall rest script
unfolding next
takes_so d a k upcall rest script e = by (reply_of a) refl e where
  by : (o : Option Reply) → reply_of a ≡ o → fault_now d k upcall rest o ≡ None → next d (Ok a) k upcall rest script ≡ takes d a o k upcall rest script
  by None is h = refl
  by (Some reply) is h = rw is (ap (λ (f : Option Fault). judged d f reply k upcall rest script) h)

-- each answer is legal
abbrev pub AllLegal : Driver → List Message → Pending → Type 0
AllLegal d [] p = Unit {0}
AllLegal d (a ∷ answers) (Over end k) = Unit {0}
AllLegal d (a ∷ answers) (Waits m k upcall rest script) = (fault_now d k upcall rest (reply_of a) ≡ None) × AllLegal d answers (takes d a (reply_of a) k upcall rest script)

abbrev pub legal_run : Driver → List Message → Pending → SplitRun
legal_run d [] p = run_from_pending d [] p
legal_run d (a ∷ answers) (Over end k) = record { sent = []; pending = Over end k }
legal_run d (a ∷ answers) (Waits m k upcall rest script) =
    let later : SplitRun = legal_run d answers (takes d a (reply_of a) k upcall rest script) in
    record { sent = m ∷ later.sent; pending = later.pending }

pub legal_so : (d : Driver) (answers : List Message) (p : Pending) → AllLegal d answers p → run_from_pending d (read answers) p ≡ legal_run d answers p
unfolding run_from_pending
legal_so d [] p h = refl
legal_so d (a ∷ answers) (Over end k) h = refl
legal_so d (a ∷ answers) (Waits m k upcall rest script) h =
    ap (λ (r : SplitRun). record { sent = m ∷ r.sent; pending = r.pending })
    (ap (run_from_pending d (read answers)) (takes_so d a k upcall rest script h.0) ∙ legal_so d answers (takes d a (reply_of a) k upcall rest script) h.1)

-- the same of the first answer alone

abbrev pub first_run : Driver → (a : Message) → List Message → Pending → SplitRun
first_run d a answers (Over end k) = record { sent = []; pending = Over end k }
first_run d a answers (Waits m k upcall rest script) =
    let later : SplitRun = run_from_pending d (read answers) (takes d a (reply_of a) k upcall rest script) in
    record { sent = m ∷ later.sent; pending = later.pending }

pub first_so : (d : Driver) (a : Message) (answers : List Message) (p : Pending) → AllLegal d (a ∷ []) p → run_from_pending d (read (a ∷ answers)) p ≡ first_run d a answers p
unfolding run_from_pending
first_so d a answers (Over end k) h = refl
first_so d a answers (Waits m k upcall rest script) h =
    ap (λ (r : SplitRun). record { sent = m ∷ r.sent; pending = r.pending }) (ap (run_from_pending d (read answers)) (takes_so d a k upcall rest script h.0))
