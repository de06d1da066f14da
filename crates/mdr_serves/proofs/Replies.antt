-- An honest reply is legal, and storing it gives the whole run's state.
use Rattle.std.proofs.Common.{◌≡◌, ℕ, suc, ◌+◌, ◌-◌, ◌<◌, ◌≤◌, ◌⊎◌, inl, inr, true, false, ◌||◌, ◌&&◌, List, [], length, map, Option, Some, None, refl, sym, ◌∙◌, ap, subst, arith}
use Rattle.std.specs.Prelude.{is_none, is_some, nat_le, nat_lt, slice_get, ◌==◌}
use Rattle.std.proofs.lemmas.Bool.{eq-eqb, le-leb, lt-ltb, or_left, or_right}
use Rattle.mdr_core.specs.declared.place.At.{At}
use Rattle.mdr_core.specs.declared.program.Func.{Func}
use Rattle.mdr_core.specs.declared.program.Param.{Param}
use Rattle.mdr_core.specs.declared.stop.StopKind.{StopKind}
use Rattle.mdr_core.specs.declared.types.Ty.{Ty}
use Rattle.mdr_core.specs.Services.{Service, service_numbered}
use Rattle.mdr_holds.specs.Leaving.{AreObjects}
use Rattle.mdr_meaning.specs.declared.wire.Wire.{Wire}
use Rattle.mdr_meaning.specs.Fair.{AllFit, IsAsk, IsPlace, Leaves}
use Rattle.mdr_meaning.specs.Fit.{IsResult, Knowledge}
use Rattle.mdr_meaning.specs.Tree.{Asked}
use Rattle.mdr_meaning.specs.Within.{Uses}
use Rattle.mdr_meaning.specs.Fair.{stands}
use Rattle.mdr_meaning.specs.Sides.{Body}
use Rattle.mdr_model.proofs.AgreedReplies.{replied, reply_user, reply_whole}
use Rattle.mdr_model.specs.declared.reply.Reply.{Reply}
use Rattle.mdr_model.specs.declared.reply.Reply.TheVariants as replies
use Rattle.mdr_model.specs.Agreement.{IsAgreed}
use Rattle.mdr_model.specs.ReplyFaults.{user_stop}
use Rattle.mdr_plain.specs.Storage.{next_serial}
use Rattle.mdr_plain.specs.World.{Clock, Kept, advanced}
use Rattle.mdr_serves.proofs.Judged.{args_alike, asked_alike, changed_tellable, judges, lives_too, objects_whole}
use Rattle.mdr_shows.proofs.Runs.{by_next}
use Rattle.mdr_split.proofs.FitLaws.{args_fit, params_are, result_fits, result_is}
use Rattle.mdr_split.proofs.RunLaws.{reply_runs_right}
use Rattle.mdr_split.proofs.ServiceFits.{question_fits}
use Rattle.mdr_split.specs.Fits.{fits, fits_result}
use Rattle.mdr_split.specs.Legal.{args_fault, has_statement, is_ask_place, is_awaited, is_user_place, kernel_places, params_of, reply_runs_fault, result_of, service_fault}
use Rattle.mdr_watched.specs.Views.{top}
use Rattle.mdr_model.specs.Memory.{Memory, normal}
use Rattle.mdr_model.specs.ReplyFaults.{stop_number}
use Rattle.mdr_plain.specs.World.{World}
use Rattle.mdr_serves.proofs.Relations.{Agree, known_by, IsRight, IsUserStop, IsWithin, Rel, open_of, replied_copy, resumed, told_runs, used}
use Rattle.mdr_serves.proofs.Strict.{IsStatement}
use Rattle.mdr_split.specs.Kernel.{applied}
use Rattle.mdr_split.specs.Legal.{fault_of, has_down_stub, is_object_service}
use Rattle.mdr_split.specs.Services.{ask_of, asked_now}
use Rattle.mdr_split.specs.State.{Kernel, Open, Rest}
use Rattle.mdr_watched.specs.Driver.{Driver}

-- ---- honest replies

abbrev pub honest_return : Kernel → World → (um : Memory) → Wire → Reply
honest_return k w um v = replies.Return (record { ticks = used k w; result = normal um v; runs = told_runs k w um })

abbrev pub honest_stop : Kernel → World → (um : Memory) → (number : ℕ) → At → Reply
honest_stop k w um number at = replies.Stop (record { ticks = used k w; stop = number; at = at; runs = told_runs k w um })

abbrev pub honest_ask : Kernel → World → (um : Memory) → Asked → Reply
honest_ask k w um asked = replies.Ask (ask_of (used k w) (asked_now um asked) (told_runs k w um))

abbrev pub honest_down : Kernel → World → (um : Memory) → At → (func : ℕ) → List Wire → (depth : ℕ) → Reply
honest_down k w um at f args depth =
    replies.Down (record { ticks = used k w; at = at; depth = depth; func = f; args = map (normal um) args; runs = told_runs k w um })

-- storing one gives the whole run's state
pub stores_reply : {K : Knowledge} (d : Driver) (uses : Uses) (budget t : ℕ) (KU : Knowledge) (live : List Wire) (k : Kernel) (w : World) (um : Memory) → Rel d uses budget t K KU live k w um
    → applied (used k w) (told_runs k w um) k ≡ resumed k w um
unfolding applied
stores_reply d uses budget t KU live k w um r =
    let clock_is : advanced (used k w) k.world.clock ≡ w.clock = sym r.clock in
    let memory_is = reply_whole r.memories in
    λ i. record {
      world = record { memory = memory_is i; lives = r.same_lives i; views = r.same_views i; clock = clock_is i; kept = r.same_kept i };
      agreed = replied_copy k w um;
      exchanges = k.exchanges;
    }

-- and both sides agree then
pub agrees : {K : Knowledge} (d : Driver) (uses : Uses) (budget t : ℕ) (KU : Knowledge) (live : List Wire) (k : Kernel) (w : World) (um : Memory) → Rel d uses budget t K KU live k w um
    → Agree d uses budget K KU (replied_copy k w um) w
agrees d uses budget t KU live k w um r = record {
  grows = r.grows;
  uses_are = r.uses_are;
  globals = r.globals;
  holds = r.holds;
  memories = subst (λ (copy : Memory). IsAgreed d.program (known_by KU) (next_serial w) copy w.memory) (sym (reply_user r.memories)) (replied r.memories);
  total = r.total;
}

-- ---- what is passed

-- arguments are passed alike
pub args_same : {K : Knowledge} (d : Driver) (uses : Uses) (budget t : ℕ) (KU : Knowledge) (live : List Wire) (k : Kernel) (w : World) (um : Memory) (args : List Wire) (types : List Ty) → Rel d uses budget t K KU live k w um → AllFit d.program KU args types
    → map (normal um) args ≡ map (normal w.memory) args
args_same d uses budget t KU live k w um args types r fit = args_alike args types r fit

pub asked_same : {K : Knowledge} (d : Driver) (uses : Uses) (budget t : ℕ) (KU : Knowledge) (live : List Wire) (k : Kernel) (w : World) (um : Memory) (asked : Asked) (s : Service) → Rel d uses budget t K KU live k w um → IsAsk d.program KU asked s
    → map (normal um) asked.args ≡ map (normal w.memory) asked.args
asked_same d uses budget t KU live k w um asked s r ask = asked_alike asked s r ask

-- ---- no fault is in it

module _ {d : Driver} {uses : Uses} {budget t : ℕ} {K KU : Knowledge} {objects : List Wire} {k : Kernel} {w : World} {um : Memory} (right : IsRight d uses) (r : Rel d uses budget t K KU objects k w um) where
  ticks_are : w.clock.ticks ≡ k.world.clock.ticks + used k w
  ticks_are = ap (λ (c : Clock). c.ticks) r.clock

  runs_legal : reply_runs_fault d k (told_runs k w um) ≡ None
  runs_legal = reply_runs_right d k (top w.views) um (ap top r.same_views) (by_next (top w.views) r.set.rises) (λ c changed. changed_tellable d uses budget t KU objects k w um right r c changed)

  ticks_legal : nat_le (used k w) k.world.clock.rest ≡ true
  ticks_legal = le-leb _ _ (omega arith)

  -- what it asks for is within the bound
  awaited : (credit : ℕ) → IsWithin d uses k w (suc credit) → is_awaited k (used k w) ≡ true
  unfolding is_awaited
  awaited credit within =
      let calls : k.world.kept.calls ≡ w.kept.calls = ap (λ (x : Kept). x.calls) r.same_kept in
      let open_are : length k.world.views ≡ length w.views = ap length r.same_views in
      le-leb _ _ (omega (arith, within.six, ticks_are, calls, open_are))

  statement : (at : At) → IsStatement d.user at → is_user_place d at ≡ true
  unfolding is_user_place
  statement at place = place

  -- the place of a question
  ask_place : (service : ℕ) (at : At) → IsPlace d.user at → IsStatement d.user at ⊎ (is_object_service service ≡ true) → is_ask_place d service at ≡ true
  unfolding is_ask_place
  ask_place service at place (inl here) = or_left (is_user_place d at) _ (statement at here)
  ask_place service at place (inr objects) = of place.stmt
    where
      at_zero : at.stmt ≡ 0 → (is_object_service service && (at.stmt == 0 && is_some (d.user.own at.func))) ≡ true
      at_zero zero_is = rw (objects, eq-eqb at.stmt 0 zero_is, place.own) refl

      of : (at.stmt ≡ 0) ⊎ (stands at.stmt place.body.code ≡ true) → (is_user_place d at || (is_object_service service && (at.stmt == 0 && is_some (d.user.own at.func)))) ≡ true
      of (inl zero_is) = or_right (is_user_place d at) (is_object_service service && (at.stmt == 0 && is_some (d.user.own at.func))) (at_zero zero_is)
      of (inr there) = or_left (is_user_place d at) _ (statement at (ap (λ (o : Option Body). has_statement o at.stmt) place.own ∙ there))

  -- of an upcall in which no object lives
  pub legal_return : (depth : ℕ) (func : Func) (v : Wire) (rest : Rest) → slice_get d.program.funcs t ≡ Some func → IsResult d.program KU func.result v
      → fault_of d k (open_of t depth []) rest (honest_return k w um v) ≡ None
  unfolding fault_of
  legal_return depth func v rest names fits =
      let result : fits_result (kernel_places d k) (result_of (slice_get d.program.funcs t)) (normal um v) ≡ true =
      ap (λ (ty : Ty). fits_result (kernel_places d k) ty (normal um v)) (result_is (slice_get d.program.funcs t) func names) ∙ result_fits (judges d uses budget t KU objects k w um right r) func.result v fits in
      rw (ticks_legal, result, runs_legal) refl

  pub legal_stop : (upcall : Open) (kind : StopKind) (at : At) (rest : Rest) → IsStatement d.user at → IsUserStop kind
      → fault_of d k upcall rest (honest_stop k w um (stop_number kind) at) ≡ None
  unfolding fault_of
  legal_stop upcall kind at rest place own =
      let there : is_none (user_stop (stop_number kind)) ≡ false = ap (λ (o : Option StopKind). is_none o) own.told in
      rw (ticks_legal, statement at place, there, own.no_ticks, runs_legal) refl

  pub legal_ticks : (upcall : Open) (at : At) (rest : Rest) → IsStatement d.user at → w.clock.rest ≡ 0
      → fault_of d k upcall rest (honest_stop k w um 16 at) ≡ None
  unfolding fault_of user_stop
  legal_ticks upcall at rest place none =
      let all : (used k w == k.world.clock.rest) ≡ true = ap (λ (n : ℕ). k.world.clock.rest - n == k.world.clock.rest) none ∙ eq-eqb _ _ (omega arith) in
      rw (ticks_legal, statement at place, all, runs_legal) refl

  -- of an upcall in which these objects live
  pub legal_ask : (depth : ℕ) (live remains : List Wire) (asked : Asked) (s : Service) (credit : ℕ) (rest : Rest) → AreObjects w.memory 0 live
      → IsPlace d.user asked.at → IsStatement d.user asked.at ⊎ (is_object_service asked.service ≡ true)
      → service_numbered asked.service ≡ Some s → IsAsk d.program KU asked s → Leaves s asked live remains → IsWithin d uses k w (suc credit)
      → fault_of d k (open_of t depth live) rest (honest_ask k w um asked) ≡ None
  unfolding fault_of
  legal_ask depth live remains asked s credit rest own place standing names ask leaves within =
      let question : service_fault d k (open_of t depth live) (asked_now um asked) ≡ None =
      question_fits d k KU um w.memory (open_of t depth live) asked s 0 live remains (judges d uses budget t KU objects k w um right r)
      (λ f func is handles. right.handlers f func is (ap (λ (u : Uses). u.handles f) (sym r.uses_are) ∙ handles))
      (lives_too d uses budget t KU objects k w um right r) names ask (objects_whole w.memory 0 live own) refl leaves in
      rw (awaited credit within, ticks_legal, ask_place asked.service asked.at place standing, question, runs_legal) refl

  pub legal_down : (upcall : Open) (at : At) (f : ℕ) (func : Func) (args : List Wire) (depth credit : ℕ) (rest : Rest)
      → IsStatement d.user at → has_down_stub d f ≡ true → slice_get d.program.funcs f ≡ Some func → AllFit d.program KU args (map (λ (p : Param). p.ty) func.params)
      → upcall.depth < depth → depth ≤ 255 → IsWithin d uses k w (suc credit)
      → fault_of d k upcall rest (honest_down k w um at f args depth) ≡ None
  unfolding fault_of
  legal_down upcall at f func args depth credit rest place stub names fit deeper limited within =
      let positive : nat_lt upcall.depth depth ≡ true = lt-ltb _ _ deeper in
      let few : nat_le depth 255 ≡ true = le-leb _ _ limited in
      let args_right : args_fault (fits (kernel_places d k)) 0 (params_of (slice_get d.program.funcs f)) (map (normal um) args) ≡ None =
      ap (λ (ts : List Ty). args_fault (fits (kernel_places d k)) 0 ts (map (normal um) args)) (params_are (slice_get d.program.funcs f) func names)
      ∙ args_fit (judges d uses budget t KU objects k w um right r) (map (λ (p : Param). p.ty) func.params) args fit 0 in
      rw (awaited credit within, ticks_legal, statement at place, positive, few, stub, args_right, runs_legal) refl
