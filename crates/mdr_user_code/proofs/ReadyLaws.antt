-- A machine that is made ready holds what a message runs.
use Rattle.std.proofs.Common.{◌≡◌, ℕ, suc, ◌+◌, ◌≤◌, Bool, true, false, ◌&&◌, nat_le, List, [], ◌∷◌, length, Option, refl, sym, ◌∙◌, ap, subst, leb-true, arith}
use Rattle.mdr_core.specs.declared.plan.Plan.{Plan}
use Rattle.mdr_core.specs.declared.program.Program.{Program}
use Rattle.mdr_events.specs.declared.event.Event.{Event}
use Rattle.mdr_core.specs.declared.plan.Half.{Half}
use Rattle.mdr_events.specs.Going.{RanTo}
use Rattle.mdr_events.specs.Held.{Held, bare, tree}
use Rattle.mdr_events.specs.Ready.{IsOpen, IsReady, is_started, takes_answers, takes_value}
use Rattle.mdr_events.specs.Steps.{child}
use Rattle.mdr_exec.specs.declared.frame.Machine.{Machine}
use Rattle.mdr_exec.specs.declared.frame.Side.TheVariants as which
use Rattle.mdr_exec.specs.Halves.{side_in}
use Rattle.mdr_exec.specs.Holding.{FitQuestion, held_of, waits}
use Rattle.mdr_exec.proofs.ReadyLaws.{answers_fit, answers_wait, value_fits, value_waits}
use Rattle.mdr_meaning.specs.declared.wire.Wire.{Wire}
use Rattle.mdr_core.specs.declared.value.Value.{Value}
use Rattle.mdr_core.specs.Layout.{chosen}
use Rattle.mdr_core.specs.Services.{service_numbered}
use Rattle.mdr_events.specs.Values.{wires_of}
use Rattle.mdr_meaning.specs.declared.shape.Shape64.{Shape64}
use Rattle.mdr_meaning.specs.Bodies.{body_of, started}
use Rattle.mdr_meaning.specs.Cut.{cut}
use Rattle.mdr_meaning.specs.Sides.{Side}
use Rattle.mdr_meaning.specs.Tree.{Asked, Tree}
use Rattle.mdr_meaning.specs.Walk.{walk}
use Rattle.mdr_model.specs.declared.message.Answer.{Answer}
use Rattle.mdr_model.specs.declared.message.Back.{Back}
use Rattle.mdr_model.specs.declared.message.Call.{Call}
use Rattle.mdr_model.specs.declared.message.Message.{Message}
use Rattle.mdr_model.specs.declared.message.Message.TheVariants as message
use Rattle.mdr_model.specs.declared.message.New.{New}
use Rattle.mdr_model.specs.Memory.{Memory}
use Rattle.mdr_split.specs.Services.{are_different, are_given_by, are_new, is_new, leaving, results_fit, serials_of}
use Rattle.mdr_split.specs.User.{guarded, objects_fit, replied_to}
use Rattle.mdr_user_memory.specs.Kept.{IsLived, Kept, LivesTo, past_in}
use Rattle.mdr_user_memory.specs.Lived.{lived_by}
use Rattle.mdr_user_memory.proofs.LivedLaws.{lived_same}
use Rattle.mdr_watched.specs.Driver.{Driver, driver_of, is_user}
use Rattle.mdr_user_code.specs.declared.opening.Opening.TheVariants as opening
use Rattle.mdr_user_code.specs.declared.opening.Turn.{Turn}
use Rattle.mdr_user_code.specs.declared.sight.Sight.{Sight}
use Rattle.mdr_user_code.specs.declared.state.Awaits.{Awaits}
use Rattle.mdr_user_code.specs.declared.state.Awaits.TheVariants as awaits
use Rattle.mdr_user_code.specs.declared.state.Question.{Question}
use Rattle.mdr_user_code.specs.declared.state.State.{State}
use Rattle.mdr_user_memory.specs.Copied.{Copied, copy_accesses}
use Rattle.mdr_user_code.specs.Opening.{answer_by, answer_copy, answered_by, back_by, call_sight, calls_deeper, downcall, func_for, is_answered, may_enter, opening_for, opening_of, renewed, suspended_by, takes_call, tree_for, where_so}
use Rattle.mdr_user_code.specs.Replying.{Begins, IsResumed, IsStarted, Prepared, Proceeds, Resumed, RunReplies}
use Rattle.mdr_split.specs.Fuel.{cut_delivered}
use Rattle.mdr_user_code.specs.Standing.{IsFit, Opens, asked_of, downs_of, held_in, opens_below, opens_by}
use Rattle.mdr_user_code.specs.Tidings.{deaths_in, news_in}
use Rattle.mdr_user_code.proofs.RunLaws.{cut_child}
use Rattle.mdr_user_code.proofs.Sides.{user_body, user_is}

-- the function of a call is started in a machine that held nothing
pub started_is : (program : Program) (plan : Plan) (call : Call) (passed : List Wire) (m0 m : Machine) → IsReady (held_of program m) → IsFit plan program → is_user plan call.func ≡ true → passed ≡ call.args
    → ((p : Program) (side : Side) (f r : ℕ) → tree side f (held_of p m0) r ≡ Tree.Idle)
    → ((side : Side) → side.own call.func ≡ body_of program call.func → (f r : ℕ) → r ≤ f
    → tree side f (held_of program m) r ≡ cut r (started side (f + 1) call.func passed call.depth (tree side f (held_of program m0) r)))
    → IsStarted (driver_of program plan) call m
started_is program plan call passed m0 m ready fit user same none is = record {
  ready = ready;
  by = λ f r less.
      let next : f + 1 ≡ suc f = omega arith in
      is (driver_of program plan).user (user_body program plan fit.halves call.func user) f r less
      ∙ ap (λ (t : Tree). cut r (started (driver_of program plan).user (f + 1) call.func passed call.depth t)) (none program (driver_of program plan).user f r)
      ∙ ap (λ (n : ℕ). cut r (started (driver_of program plan).user n call.func passed call.depth Tree.Idle)) next
      ∙ ap (λ (vs : List Wire). cut r (started (driver_of program plan).user (suc f) call.func vs call.depth Tree.Idle)) same;
}

-- user code that waits for a downcall waits below
suspended_waits : (d : Driver) (s : State) (a : Awaits) → opens_by a (held_in d s) → opens_below d s.below → opens_below d (suspended_by (downcall a) s)
suspended_waits d s awaits.Nothing o below = tt
suspended_waits d s (awaits.Back f) o below = (o, below)
suspended_waits d s (awaits.Answer q left) o below = tt

called : (d : Driver) (s s' : State) (call : Call) → Opens d s → Begins d call s s' → Prepared d s (message.Call call) s'
called d s s' call opens is = record {
  memory = is.memory;
  below = is.below;
  waits = subst (opens_below d) (sym is.below) (suspended_waits d s s.awaits opens.0 opens.1);
  func = is.named;
  ready = is.started.ready;
  holds = λ f r less. is.started.by f r less;
}

pub prepared_call : (d : Driver) (s s' : State) (m : Message) (call : Call) → m ≡ message.Call call → Opens d s → Begins d call s s' → Prepared d s m s'
prepared_call d s s' m call same opens is = subst (λ x. Prepared d s x s') (sym same) (called d s s' call opens is)

resumed : (d : Driver) (s s' : State) (results : List Wire) → IsResumed results s.machine s'.machine → (f r : ℕ) → tree d.user f (held_in d s') r ≡ cut r (child (bare d.user f (held_in d s)) results)
unfolding tree
resumed d s s' results is f r = is.by d.program d.user f r ∙ sym (cut_child r (bare d.user f (held_in d s)) results)

pub prepared_back : (d : Driver) (s s' : State) (m : Message) (back : Back) → opens_below d s.below → is_started (held_in d s).items ≡ true → m ≡ message.Back back → Resumed (back.result ∷ []) s s' → Prepared d s m s'
prepared_back d s s' m back waiting started same is =
    let p : Prepared d s (message.Back back) s' = record {
      memory = is.memory;
      func = is.func;
      below = is.below;
      waits = subst (opens_below d) (sym is.below) waiting;
      holds = λ f r less. resumed d s s' (back.result ∷ []) is.machine f r;
      ready = is.machine.ready d.program started;
    } in
    subst (λ x. Prepared d s x s') (sym same) p

pub prepared_answer : (d : Driver) (s s' : State) (m : Message) (answer : Answer) (passed : List Wire) → opens_below d s.below → is_started (held_in d s).items ≡ true → m ≡ message.Answer answer → passed ≡ answer.results → Resumed passed s s'
    → Prepared d s m s'
prepared_answer d s s' m answer passed waiting started same given is =
    let p : Prepared d s (message.Answer answer) s' =
    record { memory = is.memory; func = is.func; below = is.below; waits = subst (opens_below d) (sym is.below) waiting; holds = λ f r less. resumed d s s' passed is.machine f r ∙ ap (λ (vs : List Wire). cut r (child (bare d.user f (held_in d s)) vs)) given; ready = is.machine.ready d.program started } in
    subst (λ x. Prepared d s x s') (sym same) p

-- user code goes on, behind a state that holds the message's copy
pub proceeds : (d : Driver) (s s1 s2 s' : State) (k : Kept) (m : Message) (turn : Turn) (reply : Message) → Prepared d s m s1 → s2 ≡ record s1 { memory = k; entered = turn.entered } → k.agreed ≡ turn.sight.copy
    → RunReplies d s2 turn.rest turn.sight.view reply s' → LivesTo (lived_by d.program (deaths_in m) (news_in m)) s1.memory k
    → past_in s'.memory ≡ past_in s2.memory → Proceeds d s m turn reply s'
proceeds d s s1 s2 s' k m turn reply p same copy run lived past =
    let r : RunReplies d (record s1 { memory = k; entered = turn.entered }) turn.rest turn.sight.view reply s' = subst (λ (x : State). RunReplies d x turn.rest turn.sight.view reply s') same run in
    record {
      kept = r.kept;
      opens = r.opens;
      by = λ fuel more fits.
          sym (λ i. cut_delivered more (replied_to (p.func i) turn.entered turn.sight.view turn.rest (copy i) (downs_of d fuel (p.below i)) (walk (guarded turn.sight.view) turn.rest (tree_for d fuel s m) (copy i))))
          ∙ r.by fuel more (tree_for d fuel s m) fits (p.holds fuel (turn.rest + more) fits);
      lived = λ l h.
          lived_same s'.memory k (past ∙ ap (λ (x : State). past_in x.memory) same) (lived l (subst (λ (x : Kept). IsLived l x) (sym p.memory) h));
    }

-- a machine on the code of the user half
pub ran_user : (program : Program) (plan : Plan) → IsFit plan program → (halves : List Half) → halves ≡ plan.halves → (m m' : Machine) (c c' : Copied) (ticks : ℕ) (e : Event) (left : ℕ)
    → RanTo copy_accesses (side_in which.User halves program) (held_of program (record m { side = which.User })) c ticks e (held_of program m') c' left
    → RanTo copy_accesses (driver_of program plan).user (held_of program m) c ticks e (held_of program m') c' left
unfolding held_of
ran_user program plan fit halves are m m' c c' ticks e left ran =
    subst (λ s. RanTo copy_accesses s (held_of program m) c ticks e (held_of program m') c' left) (ap (λ hs. side_in which.User hs program) are ∙ user_is program plan fit.halves) ran

-- ---- a message that was accepted

-- it is no reply
pub not_accepted : (d : Driver) (s : State) (m m' : Message) (turn : Turn) → m ≡ m' → opening_for d s m' ≡ opening.Refuses 2 → opening_for d s m ≡ opening.Goes turn → ⊥
not_accepted d s m m' turn same refused goes = cc (ap (opening_for d s) same, refused, goes)

called_where : (taken deeper may : Bool) (rest : ℕ) (entered : List ℕ) (sight : Option Sight) (turn : Turn)
    → chosen taken (chosen deeper (opening_of rest entered (where_so may sight)) (opening.Refuses 3)) (opening.Refuses 2) ≡ opening.Goes turn → may ≡ true
called_where true true true rest entered sight turn h = refl
called_where true true false rest entered sight turn h = absurd (cc h)
called_where true false may rest entered sight turn h = absurd (cc h)
called_where false deeper may rest entered sight turn h = absurd (cc h)

called_so : (d : Driver) (s : State) (m : Message) (call : Call) (turn : Turn) → m ≡ message.Call call → opening_for d s m ≡ opening.Goes turn → may_enter d.plan call.func call.depth ≡ true
unfolding opening_for call_sight
called_so d s m call turn same goes =
    called_where (takes_call s.awaits) (calls_deeper (downcall s.awaits) call.depth) (may_enter d.plan call.func call.depth) call.rest s.entered _ turn (sym (ap (opening_for d s) same) ∙ goes)

left_holds : (x y : Bool) → x && y ≡ true → x ≡ true
left_holds true y h = refl
left_holds false y h = absurd (cc h)

right_holds : (x y : Bool) → x && y ≡ true → y ≡ true
right_holds true y h = h
right_holds false y h = absurd (cc h)

-- a call is of a function of the user half, with few active before it
pub called_user : (d : Driver) (s : State) (m : Message) (call : Call) (turn : Turn) → m ≡ message.Call call → opening_for d s m ≡ opening.Goes turn → is_user d.plan call.func ≡ true
called_user d s m call turn same goes = left_holds (is_user d.plan call.func) (nat_le call.depth 255) (called_so d s m call turn same goes)

pub called_shallow : (d : Driver) (s : State) (m : Message) (call : Call) (turn : Turn) → m ≡ message.Call call → opening_for d s m ≡ opening.Goes turn → call.depth ≤ 255
called_shallow d s m call turn same goes = leb-true call.depth 255 (right_holds (is_user d.plan call.func) (nat_le call.depth 255) (called_so d s m call turn same goes))

-- the end of a call across is awaited
back_where : (d : Driver) (s : State) (a : Awaits) (back : Back) (turn : Turn) (h : Held) → back_by d s (downcall a) back ≡ opening.Goes turn → opens_by a h → IsOpen takes_value h
back_where d s awaits.Nothing back turn h goes o = absurd (cc goes)
back_where d s (awaits.Back down) back turn h goes o = o
back_where d s (awaits.Answer question left) back turn h goes o = absurd (cc goes)

pub back_awaited : (d : Driver) (s : State) (m : Message) (back : Back) (turn : Turn) → m ≡ message.Back back → opening_for d s m ≡ opening.Goes turn → Opens d s → IsOpen takes_value (held_in d s)
unfolding opening_for
back_awaited d s m back turn same goes o = back_where d s s.awaits back turn (held_in d s) (sym (ap (opening_for d s) same) ∙ goes) o.0

-- answers are awaited, and these are as many
pub record AreAwaited (h : Held) (results : List Wire) : Type 0 where
  pub asked : Asked
  pub waiting : IsOpen (takes_answers asked) h
  pub many : asked.service ≡ 13 → length results ≡ length asked.shapes

new_many : (news : List New) (shapes : List Shape64) (results : List Wire) → are_new news shapes results ≡ true → length results ≡ length shapes
new_many news [] [] h = refl
new_many news [] (v ∷ vs) h = absurd (cc h)
new_many news (s ∷ shapes) [] h = absurd (cc h)
new_many news (s ∷ shapes) (v ∷ vs) h = ap suc (new_many news shapes vs (right_holds (is_new news s v) (are_new news shapes vs) h))

as_many_fit : (asked : Asked) (news : List New) (results : List Wire) → results_fit asked news results ≡ true → asked.service ≡ 13 → length results ≡ length asked.shapes
unfolding results_fit
as_many_fit asked news results fits is =
    let enters : (are_new news asked.shapes results && are_different (serials_of results)) ≡ true = sym (ap (λ n. are_given_by (service_numbered n) news asked.shapes results) is) ∙ fits in
    new_many news asked.shapes results (left_holds (are_new news asked.shapes results) (are_different (serials_of results)) enters)

answered_where : (d : Driver) (s : State) (q : Question) (left : ℕ) (answer : Answer) (turn : Turn) (fits : Bool) (copy : Option Memory) → answered_by d s q left answer (where_so fits copy) ≡ opening.Goes turn → fits ≡ true
answered_where d s q left answer turn true copy h = refl
answered_where d s q left answer turn false copy h = absurd (cc h)

answer_where : (d : Driver) (s : State) (a : Awaits) (answer : Answer) (turn : Turn) (h : Held) → answer_by d s a answer ≡ opening.Goes turn → opens_by a h → AreAwaited h answer.results
unfolding answer_copy
answer_where d s awaits.Nothing answer turn h goes o = absurd (cc goes)
answer_where d s (awaits.Back down) answer turn h goes o = absurd (cc goes)
answer_where d s (awaits.Answer q left) answer turn h goes o = record {
  asked = asked_of q;
  waiting = o;
  many = as_many_fit (asked_of q) answer.news answer.results
      (right_holds (objects_fit (leaving q.service q.args) answer.deaths s.entered) (results_fit (asked_of q) answer.news answer.results)
      (answered_where d s q left answer turn (is_answered q s.entered answer) (renewed d.program s.memory.agreed answer.deaths answer.news) goes));
}

pub answer_awaited : (d : Driver) (s : State) (m : Message) (answer : Answer) (turn : Turn) → m ≡ message.Answer answer → opening_for d s m ≡ opening.Goes turn → Opens d s → AreAwaited (held_in d s) answer.results
unfolding opening_for
answer_awaited d s m answer turn same goes o = answer_where d s s.awaits answer turn (held_in d s) (sym (ap (opening_for d s) same) ∙ goes) o.0

-- so they fit the machine
pub back_waits : (d : Driver) (s : State) → IsOpen takes_value (held_in d s) → waits s.machine.front ≡ true
unfolding held_of
back_waits d s o = value_waits d.program s.machine.top s.machine.front o.takes_them

pub back_fits : (d : Driver) (s : State) → IsOpen takes_value (held_in d s) → (vs : List Value) → FitQuestion s.machine.front vs
unfolding held_of
back_fits d s o vs = value_fits d.program s.machine.top s.machine.front vs o.takes_them

pub answer_waits : (d : Driver) (s : State) (results : List Wire) → AreAwaited (held_in d s) results → waits s.machine.front ≡ true
unfolding held_of
answer_waits d s results a = let o = a.waiting in answers_wait d.program s.machine.top a.asked s.machine.front o.takes_them

pub answer_fits : (d : Driver) (s : State) (results : List Wire) → AreAwaited (held_in d s) results → (vs : List Value) → length vs ≡ length results → FitQuestion s.machine.front vs
unfolding held_of
answer_fits d s results a vs same = let o = a.waiting in answers_fit d.program s.machine.top a.asked s.machine.front vs o.takes_them (λ is. same ∙ a.many is)

wires_many : (vs : List Value) → length (wires_of vs) ≡ length vs
wires_many [] = refl
wires_many (v ∷ vs) = ap suc (wires_many vs)

pub as_many : (vs values : List Value) (results : List Wire) → vs ≡ values → wires_of values ≡ results → length vs ≡ length results
as_many vs values results same is = ap length same ∙ sym (wires_many values) ∙ ap length is
