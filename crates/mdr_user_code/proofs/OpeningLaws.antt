-- What the code opens is what the definition opens.
use Rattle.std.proofs.Common.{◌≡◌, ℕ, suc, ◌+◌, ◌≤◌, Bool, true, false, List, [], ◌∷◌, Option, Some, None, Ok, refl, sym, ◌∙◌, ap, arith}
use Rattle.std.specs.Prelude.{◌&&◌, nat_le}
use Rattle.mdr_core.specs.Layout.{chosen}
use Rattle.mdr_events.specs.Held.{bare}
use Rattle.mdr_events.specs.Steps.{child}
use Rattle.mdr_meaning.specs.declared.wire.Wire.{Wire}
use Rattle.mdr_meaning.specs.Bodies.{started}
use Rattle.mdr_meaning.specs.Tree.{Tree}
use Rattle.mdr_model.specs.declared.memory.Cell.{Cell}
use Rattle.mdr_model.specs.declared.message.Answer.{Answer}
use Rattle.mdr_model.specs.declared.message.Back.{Back}
use Rattle.mdr_model.specs.declared.message.Call.{Call}
use Rattle.mdr_model.specs.declared.message.Message.{Message}
use Rattle.mdr_model.specs.declared.message.Message.TheVariants as message
use Rattle.mdr_model.specs.declared.message.Told.{Told}
use Rattle.mdr_model.specs.Copies.{agreed_after, put_runs}
use Rattle.mdr_model.specs.Memory.{Memory}
use Rattle.mdr_model.specs.Sets.{cells_of_runs}
use Rattle.mdr_model.specs.User.{granted, lives_fit, renewed_copy}
use Rattle.mdr_split.specs.User as split
use Rattle.mdr_split.specs.User.{answer_fits, back_fits, call_fits, cells_fit, entered_behind, grown, objects_fit, opened, when_fits}
use Rattle.mdr_watched.specs.Driver.{Driver, is_user}
use Rattle.mdr_user_code.specs.declared.opening.Opening.{Opening}
use Rattle.mdr_user_code.specs.declared.opening.Opening.TheVariants as opening
use Rattle.mdr_user_code.specs.declared.opening.Turn.{Turn}
use Rattle.mdr_user_code.specs.declared.sight.Sight.{Sight}
use Rattle.mdr_user_code.specs.declared.state.Awaits.{Awaits}
use Rattle.mdr_user_code.specs.declared.state.Awaits.TheVariants as awaits
use Rattle.mdr_user_code.specs.declared.state.Downcall.{Downcall}
use Rattle.mdr_user_code.specs.declared.state.Question.{Question}
use Rattle.mdr_user_code.specs.declared.state.State.{State}
use Rattle.mdr_user_code.specs.Opening.{and_then, answer_copy, answered_by, args_fit, back_sight, below_for, call_sight, calls_deeper, func_for, grown_sight, is_answered, may_enter, only_if, opening_for, opening_of, opens_as, result_fits, suspended_by, tree_for, where_so}
use Rattle.mdr_user_code.specs.Standing.{asked_of, downs_of, held_in, kept_by, user_of}

-- ---- tests in another order

two_tests : {A : Type 0} (x y : Bool) (v : A) → where_so x (only_if y v) ≡ only_if (x && y) v
two_tests true y v = refl
two_tests false y v = refl

other_order : {A : Type 0} (x y : Bool) (v : A) → where_so x (only_if y v) ≡ only_if (y && x) v
other_order true true v = refl
other_order true false v = refl
other_order false true v = refl
other_order false false v = refl

tests : {M S : Type 0} (a c : Bool) (m : M) (e f : M → Bool) (s : M → S) → where_so a (and_then (only_if c m) (λ left. where_so (e left) (only_if (f left) (s left)))) ≡ only_if (a && (c && (e m && f m))) (s m)
tests true true m e f s = two_tests (e m) (f m) (s m)
tests true false m e f s = refl
tests false c m e f s = refl

both_first : {A : Type 0} (x y z : Bool) (v : A) → only_if ((x && y) && z) v ≡ only_if (x && (y && z)) v
both_first true y z v = refl
both_first false y z v = refl

swapped : {A : Type 0} (x y z : Bool) (v : A) → only_if (x && (y && z)) v ≡ only_if (y && (x && z)) v
swapped true true z v = refl
swapped true false z v = refl
swapped false true z v = refl
swapped false false z v = refl

abbrev sight_of : List Cell → Memory → Sight
sight_of view copy = record { view = view; copy = copy }

call_sight_is : (d : Driver) (copy : Memory) (entered : List ℕ) (call : Call)
    → call_sight d copy entered call ≡ only_if (call_fits d copy entered [] call) (sight_of (cells_of_runs call.told.view) (agreed_after d.program call.told copy))
unfolding call_sight call_fits agreed_after
call_sight_is d copy entered call =
    let told : Told = call.told in
    ap (where_so (may_enter d.plan call.func call.depth))
    (tests (objects_fit [] told.deaths entered) (lives_fit d.program copy told.deaths told.news) (renewed_copy d.program told.deaths told.news copy) (λ m. args_fit d.program m call.func call.args)
    (λ m. cells_fit d call.func m told.view told.runs) (λ m. sight_of (cells_of_runs told.view) (put_runs told.runs m))
    ∙ swapped (objects_fit [] told.deaths entered) (lives_fit d.program copy told.deaths told.news) _ _)
    ∙ two_tests (may_enter d.plan call.func call.depth) _ _
    ∙ both_first (is_user d.plan call.func) (nat_le call.depth 255) _ _

back_sight_is : (d : Driver) (copy : Memory) (stub : ℕ) (entered : List ℕ) (func : ℕ) (back : Back)
    → back_sight d copy stub entered func back ≡ only_if (back_fits d copy entered stub func back) (sight_of (cells_of_runs back.told.view) (agreed_after d.program back.told copy))
unfolding back_sight back_fits agreed_after
back_sight_is d copy stub entered func back =
    let told : Told = back.told in
    tests (objects_fit [] told.deaths entered) (lives_fit d.program copy told.deaths told.news) (renewed_copy d.program told.deaths told.news copy) (λ m. result_fits d.program m func back.result)
    (λ m. cells_fit d stub m told.view told.runs) (λ m. sight_of (cells_of_runs told.view) (put_runs told.runs m))
    ∙ swapped (objects_fit [] told.deaths entered) (lives_fit d.program copy told.deaths told.news) _ _

answer_copy_is : (d : Driver) (s : State) (q : Question) (answer : Answer)
    → answer_copy d s q answer ≡ only_if (answer_fits d s.memory.agreed s.entered (asked_of q) answer) (renewed_copy d.program answer.deaths answer.news s.memory.agreed)
unfolding answer_copy answer_fits
answer_copy_is d s q answer =
    other_order (is_answered q s.entered answer) (lives_fit d.program s.memory.agreed answer.deaths answer.news) (renewed_copy d.program answer.deaths answer.news s.memory.agreed)

-- ---- what is opened

opens_where : (b : Bool) (t : Tree) (rest func : ℕ) (entered : List ℕ) (view : List Cell) (copy : Memory) (below : List split.Down)
    → when_fits b (split.Runs t rest func entered view copy below) ≡ opens_as t func below (opening_of rest entered (only_if b (sight_of view copy)))
opens_where true t rest func entered view copy below = refl
opens_where false t rest func entered view copy below = refl

-- a callback is deeper
opens_deeper : (deeper b : Bool) (t : Tree) (rest func : ℕ) (entered : List ℕ) (view : List Cell) (copy : Memory) (below : List split.Down)
    → when_fits (deeper && b) (split.Runs t rest func entered view copy below)
    ≡ opens_as t func below (chosen deeper (opening_of rest entered (only_if b (sight_of view copy))) (opening.Refuses 3))
opens_deeper true b t rest func entered view copy below = opens_where b t rest func entered view copy below
opens_deeper false b t rest func entered view copy below = refl

answers_where : (b : Bool) (t : Tree) (d : Driver) (s : State) (q : Question) (left : ℕ) (answer : Answer) (copy : Memory) (below : List split.Down)
    → when_fits b (split.Runs t left s.func (entered_behind q.service answer.deaths answer.news s.entered) (grown d s.func copy answer.news s.view) copy below)
    ≡ opens_as t s.func below (answered_by d s q left answer (only_if b copy))
unfolding grown_sight
answers_where true t d s q left answer copy below = refl
answers_where false t d s q left answer copy below = refl

module _ (d : Driver) (fuel : ℕ) (s : State) where
  abbrev at : Awaits → State
  at a = record s { awaits = a }

  abbrev goes : List Wire → Tree
  goes vs = child (bare d.user fuel (held_in d s)) vs

  abbrev waiting : List split.Down
  waiting = downs_of d fuel s.below

  -- a Call, with a downcall or nothing open
  opens_call : (o : Option Downcall) (call : Call)
      → split.begun d (suc fuel) s.memory.agreed s.entered (downs_of d fuel (suspended_by o s)) call
      ≡ opens_as (started d.user (suc fuel) call.func call.args call.depth Tree.Idle) call.func (downs_of d fuel (suspended_by o s))
      (chosen (calls_deeper o call.depth) (opening_of call.rest s.entered (call_sight d s.memory.agreed s.entered call)) (opening.Refuses 3))
  unfolding call_fits
  opens_call o call =
      let t : Tree = started d.user (suc fuel) call.func call.args call.depth Tree.Idle in
      let below : List split.Down = downs_of d fuel (suspended_by o s) in
      let view : List Cell = cells_of_runs call.told.view in
      let copy : Memory = agreed_after d.program call.told s.memory.agreed in
      ap (λ (b : Bool). when_fits (b && call_fits d s.memory.agreed s.entered [] call) (split.Runs t call.rest call.func s.entered view copy below)) (deeper_is o)
      ∙ opens_deeper (calls_deeper o call.depth) (call_fits d s.memory.agreed s.entered [] call) t call.rest call.func s.entered view copy below
      ∙ ap (λ (x : Option Sight). opens_as t call.func below (chosen (calls_deeper o call.depth) (opening_of call.rest s.entered x) (opening.Refuses 3)))
      (sym (call_sight_is d s.memory.agreed s.entered call))
    where
      deeper_is : (x : Option Downcall) → split.is_deeper (downs_of d fuel (suspended_by x s)) call.depth ≡ calls_deeper x call.depth
      deeper_is None = refl
      deeper_is (Some down) = refl

  opens_with : (a : Awaits) (m : Message) → opened d (suc fuel) s.memory.agreed s.entered (user_of d fuel (at a)).work m
      ≡ opens_as (tree_for d fuel (at a) m) (func_for (at a) m) (downs_of d fuel (below_for (at a) m)) (opening_for d (at a) m)
  unfolding opened opening_for
  opens_with awaits.Nothing (message.Call call) = opens_call None call
  opens_with awaits.Nothing _ = refl
  opens_with (awaits.Back f) (message.Call call) = opens_call (Some f) call
  opens_with (awaits.Back f) (message.Back back) =
      let vs : List Wire = back.result ∷ [] in
      opens_where (back_fits d s.memory.agreed s.entered s.func f.func back) (goes vs) back.rest s.func s.entered (cells_of_runs back.told.view) (agreed_after d.program back.told s.memory.agreed) waiting
      ∙ ap (λ (o : Option Sight). opens_as (goes vs) s.func waiting (opening_of back.rest s.entered o)) (sym (back_sight_is d s.memory.agreed s.func s.entered f.func back))
  opens_with (awaits.Back f) _ = refl
  opens_with (awaits.Answer q left) (message.Answer answer) =
      answers_where _ (goes answer.results) d (at (awaits.Answer q left)) q left answer (renewed_copy d.program answer.deaths answer.news s.memory.agreed) waiting
      ∙ ap (λ (o : Option Memory). opens_as (goes answer.results) s.func waiting (answered_by d (at (awaits.Answer q left)) q left answer o)) (sym (answer_copy_is d (at (awaits.Answer q left)) q answer))
  opens_with (awaits.Answer q left) _ = refl

  pub opens_is : (m : Message) → opened d (suc fuel) s.memory.agreed s.entered (user_of d fuel s).work m ≡ opens_as (tree_for d fuel s m) (func_for s m) (downs_of d fuel (below_for s m)) (opening_for d s m)
  opens_is m = opens_with s.awaits m

-- ---- the ticks of what is opened

rest_of : (rest : ℕ) (entered : List ℕ) (o : Option Sight) (turn : Turn) → opening_of rest entered o ≡ opening.Goes turn → turn.rest ≤ 0 + rest
rest_of rest entered None turn e = absurd (cc e)
rest_of rest entered (Some sight) turn e =
    let same : rest ≡ turn.rest = ap rest_in e in omega (arith, same)
  where
    rest_in : Opening → ℕ
    rest_in (opening.Refuses reason) = 0
    rest_in (opening.Goes t) = t.rest

-- what a callback opens, where it is deeper
pub deeper_goes : (deeper : Bool) (o : Opening) (turn : Turn) → chosen deeper o (opening.Refuses 3) ≡ opening.Goes turn → o ≡ opening.Goes turn
deeper_goes true o turn e = e
deeper_goes false o turn e = absurd (cc e)

left_of : (d : Driver) (s : State) (q : Question) (left : ℕ) (answer : Answer) (o : Option Memory) (turn : Turn) → answered_by d s q left answer o ≡ opening.Goes turn → turn.rest ≤ left + 0
left_of d s q left answer None turn e = absurd (cc e)
left_of d s q left answer (Some copy) turn e =
    let same : left ≡ turn.rest = ap rest_in e in omega (arith, same)
  where
    rest_in : Opening → ℕ
    rest_in (opening.Refuses reason) = 0
    rest_in (opening.Goes t) = t.rest

module _ (d : Driver) (s : State) (turn : Turn) where
  rest_with : (a : Awaits) (m : Message) → opening_for d (record s { awaits = a }) m ≡ opening.Goes turn → turn.rest ≤ kept_by a + granted (Ok m)
  unfolding opening_for
  rest_with awaits.Nothing (message.Call call) e = rest_of call.rest s.entered (call_sight d s.memory.agreed s.entered call) turn e
  rest_with awaits.Nothing _ e = absurd (cc e)
  rest_with (awaits.Back f) (message.Call call) e =
      rest_of call.rest s.entered (call_sight d s.memory.agreed s.entered call) turn (deeper_goes (calls_deeper (Some f) call.depth) _ turn e)
  rest_with (awaits.Back f) (message.Back back) e = rest_of back.rest s.entered (back_sight d s.memory.agreed s.func s.entered f.func back) turn e
  rest_with (awaits.Back f) _ e = absurd (cc e)
  rest_with (awaits.Answer q left) (message.Answer answer) e =
      left_of d (record s { awaits = awaits.Answer q left }) q left answer (answer_copy d (record s { awaits = awaits.Answer q left }) q answer) turn e
  rest_with (awaits.Answer q left) _ e = absurd (cc e)

  pub rest_is : (m : Message) → opening_for d s m ≡ opening.Goes turn → turn.rest ≤ kept_by s.awaits + granted (Ok m)
  rest_is m e = rest_with s.awaits m e
