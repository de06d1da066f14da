-- What is accepted may be taken.
use Rattle.std.proofs.Common.{◌≡◌, ◌∙◌, ℕ, suc, Bool, true, false, List, [], ◌∷◌, ◌++◌, Option, Some, None, refl, sym, ap, subst}
use Rattle.std.specs.Prelude.{◌&&◌, is_none}
use Rattle.std.specs.List.{list_all}
use Rattle.std.proofs.lemmas.Bool.{and_parts}
use Rattle.mdr_core.specs.declared.program.Program.{Program}
use Rattle.mdr_core.specs.declared.refusal.RefuseKind.TheVariants as refusal
use Rattle.mdr_meaning.specs.declared.wire.Wire.{Wire}
use Rattle.mdr_meaning.specs.declared.wire.Wire.TheVariants as wire
use Rattle.mdr_model.specs.declared.memory.Cell.{Cell}
use Rattle.mdr_model.specs.declared.message.Fault.{Fault}
use Rattle.mdr_model.specs.declared.message.Answer.{Answer}
use Rattle.mdr_model.specs.declared.message.Back.{Back}
use Rattle.mdr_model.specs.declared.message.Call.{Call}
use Rattle.mdr_model.specs.declared.message.Message.{Message}
use Rattle.mdr_model.specs.declared.message.Message.TheVariants as message
use Rattle.mdr_model.specs.declared.message.New.{New}
use Rattle.mdr_model.specs.declared.message.Run.{Run}
use Rattle.mdr_model.specs.declared.message.SetRun.{SetRun}
use Rattle.mdr_model.specs.declared.message.Told.{Told}
use Rattle.mdr_model.specs.Copies.{CellValue, numbered, put_all, put_runs, values_of_runs, without}
use Rattle.mdr_model.specs.Faults.{is_known, set_run_of, unless}
use Rattle.mdr_model.specs.Memory.{Memory, is_live, normal, normal_if}
use Rattle.mdr_model.specs.Sets.{cells_of_runs, follows_maybe, is_in}
use Rattle.mdr_model.specs.User.{has_shape, lives_fit, may_come, renewed_copy}
use Rattle.mdr_model.proofs.Accepted.{no_faults, or_none, unless_passes}
use Rattle.mdr_split.specs.Fits.{Places, is_view}
use Rattle.mdr_split.specs.Legal.{fits_cell, run_fault, runs_fault}
use Rattle.mdr_split.specs.User.{cells_fit, runs_fit, user_places}
use Rattle.mdr_user_memory.specs.Taking.{AreKept}
use Rattle.mdr_watched.specs.Driver.{Driver}
use Rattle.mdr_user_code.specs.declared.opening.Opening.{Opening}
use Rattle.mdr_user_code.specs.declared.opening.Opening.TheVariants as opening
use Rattle.mdr_user_code.specs.declared.opening.Turn.{Turn}
use Rattle.mdr_user_code.specs.declared.sight.Sight.{Sight}
use Rattle.mdr_user_code.specs.declared.state.Awaits.{Awaits}
use Rattle.mdr_user_code.specs.declared.state.Awaits.TheVariants as awaits
use Rattle.mdr_user_code.specs.declared.state.Question.{Question}
use Rattle.mdr_user_code.specs.declared.state.State.{State}
use Rattle.mdr_user_code.specs.Opening.{and_then, answer_copy, answered_by, args_fit, back_sight, call_sight, called, calls_deeper, grown_sight, is_answered, may_enter, only_if, opening_for, opening_of, renewed, result_fits, returned, shown, where_so}
use Rattle.mdr_user_code.specs.Tidings.{TellsTo, deaths_in, news_in, runs_in}
use Rattle.mdr_user_code.proofs.OpeningLaws.{deeper_goes}

-- ---- values that are told

kept_value : (m : Memory) (w : Wire) → is_known m w ≡ true → normal m w ≡ w
unfolding normal
kept_value m (wire.Ptr p) h = ap (λ b. normal_if b p) h
kept_value m (wire.Int k n) h = refl
kept_value m wire.Null h = refl
kept_value m wire.Dead h = refl
kept_value m (wire.Fn f) h = refl
kept_value m (wire.Lock s) h = refl
kept_value m wire.NoValue h = refl

kept_row : (m : Memory) (serial n : ℕ) (ws : List Wire) (more : List CellValue) → list_all (is_known m) ws ≡ true → AreKept more m → AreKept (numbered serial n ws ++ more) m
unfolding AreKept numbered
kept_row m serial n [] more h k = k
kept_row m serial n (w ∷ ws) more h k =
    let both = and_parts (is_known m w) _ h in (kept_value m w both.0, kept_row m serial (suc n) ws more both.1 k)

run_known : (p : Places) (view : List Cell) (before : Option SetRun) (i : ℕ) (r : Run) → run_fault p view before i r ≡ None → list_all (is_known p.paired) r.values ≡ true
unfolding run_fault
run_known p view before i r e =
    let tests = no_faults (
    unless (follows_maybe before (set_run_of r)) refusal.RunOrder i
    ∷ unless (list_all (λ (x : CellValue). is_in view x.cell) (numbered r.serial r.first r.values)) refusal.OutsideSet i
    ∷ unless (list_all (is_known p.paired) r.values) refusal.UnknownSerial i
    ∷ unless (list_all (is_view p.program p.memory) r.values) refusal.BadView i
    ∷ unless (list_all (fits_cell p) (numbered r.serial r.first r.values)) refusal.BadValue i
    ∷ []) e in
    unless_passes _ _ _ tests.1.1.0

runs_known : (p : Places) (view : List Cell) (before : Option SetRun) (i : ℕ) (rs : List Run) → runs_fault p view before i rs ≡ None → AreKept (values_of_runs rs) p.paired
unfolding runs_fault values_of_runs AreKept
runs_known p view before i [] e = tt
runs_known p view before i (r ∷ rs) e =
    let both = or_none (run_fault p view before i r) (runs_fault p view (Some (set_run_of r)) (suc i) rs) e in
    kept_row p.paired r.serial r.first r.values (values_of_runs rs) (run_known p view before i r both.0) (runs_known p view (Some (set_run_of r)) (suc i) rs both.1)

none_is : (o : Option Fault) → is_none o ≡ true → o ≡ None
none_is None h = refl
none_is (Some f) h = absurd (Prim.cc)

pub fitting_kept : (d : Driver) (copy : Memory) (view : List Cell) (runs : List Run) → runs_fit d copy view runs ≡ true → AreKept (values_of_runs runs) copy
unfolding runs_fit
fitting_kept d copy view runs h = runs_known (user_places d copy) view None 0 runs (none_is (runs_fault (user_places d copy) view None 0 runs) h)

-- ---- what was tested

where_some : {A : Type 0} (b : Bool) (o : Option A) (x : A) → where_so b o ≡ Some x → (b ≡ true) × (o ≡ Some x)
where_some true o x e = (refl, e)
where_some false o x e = absurd (cc e)

only_some : {A : Type 0} (b : Bool) (v x : A) → only_if b v ≡ Some x → (b ≡ true) × (v ≡ x)
only_some {A} true v x e = (refl, same e)
  where
    same : Some v ≡ Some x → v ≡ x
    same k = cc
only_some false v x e = absurd (cc e)

-- births that fit have shapes
all_shaped : (program : Program) (copy : Memory) (news : List New) → list_all (may_come program copy) news ≡ true → list_all (has_shape program) news ≡ true
all_shaped program copy [] h = refl
all_shaped program copy (n ∷ news) h =
    let each = and_parts (may_come program copy n) (list_all (may_come program copy) news) h in
    let first = (and_parts _ _ each.0).1 in
    let rest = all_shaped program copy news each.1 in
    λ i. first i && rest i

pub copy_shaped : (d : Driver) (s : State) (q : Question) (answer : Answer) (copy : Memory) → answer_copy d s q answer ≡ Some copy → list_all (has_shape d.program) answer.news ≡ true
unfolding answer_copy lives_fit
copy_shaped d s q answer copy e =
    let one = where_some (is_answered q s.entered answer) _ copy e in
    let two = only_some (lives_fit d.program s.memory.agreed answer.deaths answer.news) _ copy one.1 in
    all_shaped d.program (without answer.deaths s.memory.agreed) answer.news (and_parts _ _ (and_parts _ _ two.0).1).1

-- deaths and births fit, and what is seen then
pub record Seen (d : Driver) (copy : Memory) (told : Told) (sight : Sight) : Type 0 where
  pub lives : lives_fit d.program copy told.deaths told.news ≡ true
  pub leads : sight.copy ≡ put_runs told.runs (renewed_copy d.program told.deaths told.news copy)
  pub are_kept : AreKept (values_of_runs told.runs) (renewed_copy d.program told.deaths told.news copy)

module _ (d : Driver) (copy : Memory) (told : Told) (sight : Sight) where
  shown_so : (stub : ℕ) → shown d stub (renewed_copy d.program told.deaths told.news copy) told ≡ Some sight → lives_fit d.program copy told.deaths told.news ≡ true → Seen d copy told sight
  shown_so stub e lives =
      let both = only_some (cells_fit d stub (renewed_copy d.program told.deaths told.news copy) told.view told.runs) _ sight e in
      record {
        lives = lives;
        leads = sym (ap (λ (x : Sight). x.copy) both.1);
        are_kept = fitting_kept d (renewed_copy d.program told.deaths told.news copy) (cells_of_runs told.view) told.runs (and_parts _ _ both.0).1;
      }

  renewed_so : (go : Memory → Option Sight) → and_then (renewed d.program copy told.deaths told.news) go ≡ Some sight → (lives_fit d.program copy told.deaths told.news ≡ true) × (go (renewed_copy d.program told.deaths told.news copy) ≡ Some sight)
  renewed_so go e = of (lives_fit d.program copy told.deaths told.news) refl e
    where
      of : (b : Bool) → lives_fit d.program copy told.deaths told.news ≡ b → and_then (only_if b (renewed_copy d.program told.deaths told.news copy)) go ≡ Some sight
          → (lives_fit d.program copy told.deaths told.news ≡ true) × (go (renewed_copy d.program told.deaths told.news copy) ≡ Some sight)
      of true h k = (h, k)
      of false h k = absurd (cc k)

module _ (d : Driver) (copy : Memory) (sight : Sight) where
  pub call_seen : (entered : List ℕ) (call : Call) → call_sight d copy entered call ≡ Some sight → Seen d copy call.told sight
  unfolding call_sight
  call_seen entered call e =
      let told : Told = call.told in
      let one = where_some _ _ sight e in
      let two = where_some _ _ sight one.1 in
      let three = renewed_so d copy told sight (λ m. called d m call) two.1 in
      let four = where_some (args_fit d.program (renewed_copy d.program told.deaths told.news copy) call.func call.args) _ sight three.1 in
      shown_so d copy told sight call.func four.1 three.0

  pub back_seen : (stub : ℕ) (entered : List ℕ) (func : ℕ) (back : Back) → back_sight d copy stub entered func back ≡ Some sight → Seen d copy back.told sight
  unfolding back_sight
  back_seen stub entered func back e =
      let told : Told = back.told in
      let one = where_some _ _ sight e in
      let two = renewed_so d copy told sight (λ m. returned d m stub func back) one.1 in
      let three = where_some (result_fits d.program (renewed_copy d.program told.deaths told.news copy) func back.result) _ sight two.1 in
      shown_so d copy told sight stub three.1 two.0

-- ---- a message

sight_of : (rest : ℕ) (entered : List ℕ) (o : Option Sight) (turn : Turn) → opening_of rest entered o ≡ opening.Goes turn → o ≡ Some turn.sight
sight_of rest entered None turn e = absurd (cc e)
sight_of rest entered (Some sight) turn e = ap sight_in e
  where
    sight_in : Opening → Option Sight
    sight_in (opening.Refuses reason) = None
    sight_in (opening.Goes t) = Some t.sight

no_runs : (m : Memory) → m ≡ put_runs [] m
unfolding put_runs values_of_runs put_all
no_runs m = refl

none_kept : (m : Memory) → AreKept (values_of_runs []) m
unfolding AreKept values_of_runs
none_kept m = tt

module _ (d : Driver) (s : State) (turn : Turn) where
  answer_tells : (q : Question) (left : ℕ) (answer : Answer) (a : Awaits) (o : Option Memory) → answer_copy d (record s { awaits = a }) q answer ≡ o
      → answered_by d (record s { awaits = a }) q left answer o ≡ opening.Goes turn → TellsTo d s.memory.agreed (message.Answer answer) turn.sight.copy
  unfolding answer_copy grown_sight put_runs
  answer_tells q left answer a None e k = absurd (cc k)
  answer_tells q left answer a (Some copy) e k =
      let one = where_some (is_answered q s.entered answer) _ copy e in
      let two = only_some (lives_fit d.program s.memory.agreed answer.deaths answer.news) _ copy one.1 in
      record {
        lives = two.0;
        leads = sym (ap copy_in k) ∙ (sym two.1 ∙ no_runs (renewed_copy d.program answer.deaths answer.news s.memory.agreed));
        are_kept = none_kept (renewed_copy d.program answer.deaths answer.news s.memory.agreed);
      }
    where
      copy_in : Opening → Memory
      copy_in (opening.Refuses reason) = copy
      copy_in (opening.Goes t) = t.sight.copy

  tells_with : (a : Awaits) (m : Message) → opening_for d (record s { awaits = a }) m ≡ opening.Goes turn → TellsTo d s.memory.agreed m turn.sight.copy
  unfolding opening_for
  tells_with awaits.Nothing (message.Call call) e =
      let q = call_seen d s.memory.agreed turn.sight s.entered call (sight_of call.rest s.entered (call_sight d s.memory.agreed s.entered call) turn e) in
      record { lives = q.lives; leads = q.leads; are_kept = q.are_kept }
  tells_with awaits.Nothing _ e = absurd (cc e)
  tells_with (awaits.Back f) (message.Call call) e =
      let goes = deeper_goes (calls_deeper (Some f) call.depth) _ turn e in
      let q = call_seen d s.memory.agreed turn.sight s.entered call (sight_of call.rest s.entered (call_sight d s.memory.agreed s.entered call) turn goes) in
      record { lives = q.lives; leads = q.leads; are_kept = q.are_kept }
  tells_with (awaits.Back f) (message.Back back) e =
      let q = back_seen d s.memory.agreed turn.sight s.func s.entered f.func back (sight_of back.rest s.entered (back_sight d s.memory.agreed s.func s.entered f.func back) turn e) in
      record { lives = q.lives; leads = q.leads; are_kept = q.are_kept }
  tells_with (awaits.Back f) _ e = absurd (cc e)
  tells_with (awaits.Answer q left) (message.Answer answer) e =
      answer_tells q left answer (awaits.Answer q left) (answer_copy d (record s { awaits = awaits.Answer q left }) q answer) refl e
  tells_with (awaits.Answer q left) _ e = absurd (cc e)

  pub tells : (m : Message) → opening_for d s m ≡ opening.Goes turn → TellsTo d s.memory.agreed m turn.sight.copy
  tells m e = tells_with s.awaits m e

-- ---- what is handed on

module _ (d : Driver) (copy : Memory) (m : Message) (copy' : Memory) (t : TellsTo d copy m copy') (deaths : List ℕ) (news : List New) where
  pub tell_lives : deaths ≡ deaths_in m → news ≡ news_in m → lives_fit d.program copy deaths news ≡ true
  tell_lives e f = (λ i. lives_fit d.program copy (e i) (f i)) ∙ t.lives

  module _ (runs : List Run) (e : deaths ≡ deaths_in m) (f : news ≡ news_in m) (g : runs ≡ runs_in m) where
    pub tell_leads : copy' ≡ put_runs runs (renewed_copy d.program deaths news copy)
    tell_leads = t.leads ∙ sym (λ i. put_runs (g i) (renewed_copy d.program (e i) (f i) copy))

    pub tell_kept : AreKept (values_of_runs runs) (renewed_copy d.program deaths news copy)
    tell_kept =
        subst (λ rs. AreKept (values_of_runs rs) (renewed_copy d.program deaths news copy)) (sym g)
        (subst (λ c. AreKept (values_of_runs (runs_in m)) c) (sym (λ i. renewed_copy d.program (e i) (f i) copy)) t.are_kept)
