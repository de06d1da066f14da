-- The user half's reply is the same with its own text alone.
use Rattle.std.proofs.Common.{◌≡◌, ℕ, suc, Bool, true, false, not, ◌&&◌, nat_le, nat_lt, List, [], ◌∷◌, ◌++◌, filter, Option, None, Ok, Err, slice_get, is_none, refl, ap, ◌∙◌}
use Rattle.std.specs.List.{list_all}
use mathlib.Core.Path.{fun_ext}
use Rattle.mdr_core.specs.declared.plan.Key.{Key}
use Rattle.mdr_core.specs.declared.plan.Plan.{Plan}
use Rattle.mdr_core.specs.declared.program.Func.{Func}
use Rattle.mdr_core.specs.declared.program.Program.{Program}
use Rattle.mdr_core.specs.declared.types.Ty.{Ty}
use Rattle.mdr_core.specs.Layout.{chosen}
use Rattle.mdr_meaning.specs.declared.wire.Wire.{Wire}
use Rattle.mdr_meaning.specs.Bodies.{body_of, known_of, started, user_side}
use Rattle.mdr_meaning.specs.Sides.{Body, Side}
use Rattle.mdr_meaning.specs.Tree.{Asked, Tree}
use Rattle.mdr_model.specs.declared.memory.Cell.{Cell}
use Rattle.mdr_model.specs.declared.message.Answer.{Answer}
use Rattle.mdr_model.specs.declared.message.Back.{Back}
use Rattle.mdr_model.specs.declared.message.Call.{Call}
use Rattle.mdr_model.specs.declared.message.Fault.{Fault}
use Rattle.mdr_model.specs.declared.message.Message.{Message}
use Rattle.mdr_model.specs.declared.message.Message.TheVariants as message
use Rattle.mdr_model.specs.declared.message.New.{New}
use Rattle.mdr_model.specs.declared.message.Run.{Run}
use Rattle.mdr_model.specs.declared.message.SetRun.{SetRun}
use Rattle.mdr_model.specs.declared.message.Told.{Told}
use Rattle.mdr_model.specs.KernelState.{Reading}
use Rattle.mdr_model.specs.Memory.{Memory}
use Rattle.mdr_model.specs.Sets.{cells_of_run, cells_of_runs, rises_after}
use Rattle.mdr_model.specs.User.{allowance, renewed_copy, still_live}
use Rattle.mdr_split.specs.Fits.{fits, fits_result}
use Rattle.mdr_split.specs.Law.{RepliesNeedTheUserText}
use Rattle.mdr_split.specs.Legal.{args_fault, params_of, result_of}
use Rattle.mdr_split.specs.Services.{leaving, results_fit}
use Rattle.mdr_split.specs.User.{AwaitsAnswer, AwaitsBack, Delivered, Down, Nothing, Opened, Runs, User, Work, answer_fits, back_fits, begun, call_fits, cells_fit, deliver, done, entered_behind, first_user, grown, is_deeper, may_show, objects_fit, opened, resumed, runs_fit, user_after, user_places, user_reply, view_fits, when_fits}
use Rattle.mdr_watched.specs.Driver.{Driver, driver_of, is_user, touched_by}
use Rattle.mdr_user_text.proofs.Headings.{heading, same_params, same_result, with_funcs}
use Rattle.mdr_user_text.proofs.SameViews.{both}
use Rattle.mdr_user_text.proofs.SameCells.{same_agreed, same_counts, same_lives, same_news_cells, same_renewed}
use Rattle.mdr_user_text.proofs.SameFits.{same_args, same_fits_result, same_runs}

-- ---- two drivers

-- a driver with these functions in its program, and this for the side that isn't the user half's
abbrev with_text : Driver → List Func → Side → Driver
with_text d funcs kernel = record { program = with_funcs d.program funcs; plan = d.plan; kernel = kernel; user = d.user }

module _ (d : Driver) (funcs : List Func) (kernel : Side) (headings : (f : ℕ) → heading (slice_get funcs f) ≡ heading (slice_get d.program.funcs f)) where
  abbrev alone : Driver
  alone = with_text d funcs kernel

  -- ---- which messages are accepted

  same_show : (touched : List Key) (copy : Memory) (r : SetRun) → may_show alone.program touched copy r ≡ may_show d.program touched copy r
  same_show touched copy r =
      ap (λ (shows : Cell → Bool). nat_lt 0 r.len && list_all shows (cells_of_run r)) (fun_ext (λ (c : Cell). same_counts d.program funcs touched copy c))

  same_view_fits : (touched : List Key) (copy : Memory) (view : List SetRun) → view_fits alone.program touched copy view ≡ view_fits d.program touched copy view
  unfolding view_fits
  same_view_fits touched copy view = ap (λ (shows : SetRun → Bool). rises_after None view && list_all shows view) (fun_ext (λ (r : SetRun). same_show touched copy r))

  same_runs_fit : (copy : Memory) (view : List Cell) (runs : List Run) → runs_fit alone copy view runs ≡ runs_fit d copy view runs
  unfolding runs_fit
  same_runs_fit copy view runs = ap (λ (f : Option Fault). is_none f) (same_runs d.program funcs headings copy view None 0 runs)

  same_cells_fit : (stub : ℕ) (copy copy' : Memory) (view : List SetRun) (runs : List Run) → copy ≡ copy' → cells_fit alone stub copy view runs ≡ cells_fit d stub copy' view runs
  same_cells_fit stub copy copy' view runs same =
      both _ _ _ _ (same_view_fits (touched_by d.plan stub) copy view) (same_runs_fit copy (cells_of_runs view) runs)
      ∙ ap (λ (m : Memory). cells_fit d stub m view runs) same

  same_args_fit : (func : ℕ) (copy copy' : Memory) (args : List Wire) → copy ≡ copy'
      → is_none (args_fault (fits (user_places alone copy)) 0 (params_of (slice_get funcs func)) args) ≡ is_none (args_fault (fits (user_places d copy')) 0 (params_of (slice_get d.program.funcs func)) args)
  same_args_fit func copy copy' args same =
      ap (λ (f : Option Fault). is_none f) (same_args d.program funcs headings copy (params_of (slice_get funcs func)) args)
      ∙ ap (λ (types : List Ty). is_none (args_fault (fits (user_places d copy)) 0 types args)) (same_params (slice_get funcs func) (slice_get d.program.funcs func) (headings func))
      ∙ ap (λ (m : Memory). is_none (args_fault (fits (user_places d m)) 0 (params_of (slice_get d.program.funcs func)) args)) same

  same_result_fits : (func : ℕ) (copy copy' : Memory) (v : Wire) → copy ≡ copy'
      → fits_result (user_places alone copy) (result_of (slice_get funcs func)) v ≡ fits_result (user_places d copy') (result_of (slice_get d.program.funcs func)) v
  same_result_fits func copy copy' v same =
      same_fits_result d.program funcs headings copy (result_of (slice_get funcs func)) v
      ∙ ap (λ (ty : Ty). fits_result (user_places d copy) ty v) (same_result (slice_get funcs func) (slice_get d.program.funcs func) (headings func))
      ∙ ap (λ (m : Memory). fits_result (user_places d m) (result_of (slice_get d.program.funcs func)) v) same

  same_call : (copy : Memory) (entered : List ℕ) (below : List Down) (call : Call) → call_fits alone copy entered below call ≡ call_fits d copy entered below call
  unfolding call_fits
  same_call copy entered below call =
      let told : Told = call.told in
      let renewed = same_renewed d.program funcs told.deaths told.news copy in
      ap (λ (b : Bool). is_deeper below call.depth && (is_user d.plan call.func && (nat_le call.depth 255 && b)))
      (both _ _ _ _ (same_lives d.program funcs copy told.deaths told.news)
      (ap (λ (b : Bool). objects_fit [] told.deaths entered && b)
      (both _ _ _ _ (same_args_fit call.func _ _ call.args renewed) (same_cells_fit call.func _ _ told.view told.runs renewed))))

  same_back : (copy : Memory) (entered : List ℕ) (stub func : ℕ) (back : Back) → back_fits alone copy entered stub func back ≡ back_fits d copy entered stub func back
  unfolding back_fits
  same_back copy entered stub func back =
      let told : Told = back.told in
      let renewed = same_renewed d.program funcs told.deaths told.news copy in
      both _ _ _ _ (same_lives d.program funcs copy told.deaths told.news)
      (ap (λ (b : Bool). objects_fit [] told.deaths entered && b)
      (both _ _ _ _ (same_result_fits func _ _ back.result renewed) (same_cells_fit stub _ _ told.view told.runs renewed)))

  same_answer : (copy : Memory) (entered : List ℕ) (asked : Asked) (answer : Answer) → answer_fits alone copy entered asked answer ≡ answer_fits d copy entered asked answer
  unfolding answer_fits
  same_answer copy entered asked answer =
      ap (λ (b : Bool). b && (objects_fit (leaving asked.service asked.args) answer.deaths entered && results_fit asked answer.news answer.results)) (same_lives d.program funcs copy answer.deaths answer.news)

  -- ---- what a message opens

  same_when : (b b' : Bool) (x x' : Opened) → b ≡ b' → x ≡ x' → when_fits b x ≡ when_fits b' x'
  same_when b b' x x' p q = ap (λ (t : Bool). when_fits t x) p ∙ ap (when_fits b') q

  same_grown : (stub : ℕ) (copy copy' : Memory) (news : List New) (seen : List Cell) → copy ≡ copy' → grown alone stub copy news seen ≡ grown d stub copy' news seen
  same_grown stub copy copy' news seen same =
      ap (λ (cs : List Cell). filter (still_live copy) seen ++ cs) (same_news_cells d.program funcs (touched_by d.plan stub) news)
      ∙ ap (λ (m : Memory). grown d stub m news seen) same

  same_begun : (fuel : ℕ) (copy : Memory) (entered : List ℕ) (below : List Down) (call : Call) → begun alone fuel copy entered below call ≡ begun d fuel copy entered below call
  same_begun fuel copy entered below call =
      same_when _ _ _ _ (same_call copy entered below call)
      (ap (λ (m : Memory). Runs (started d.user fuel call.func call.args call.depth Tree.Idle) call.rest call.func entered (cells_of_runs call.told.view) m below) (same_agreed d.program funcs call.told copy))

  same_resumed : (copy : Memory) (entered : List ℕ) (down : Down) (below : List Down) (back : Back) → resumed alone copy entered down below back ≡ resumed d copy entered down below back
  same_resumed copy entered down below back =
      same_when _ _ _ _ (same_back copy entered down.stub down.func back)
      (ap (λ (m : Memory). Runs (down.goes back.result) back.rest down.stub entered (cells_of_runs back.told.view) m below) (same_agreed d.program funcs back.told copy))

  same_opened : (fuel : ℕ) (copy : Memory) (entered : List ℕ) (work : Work) (x : Message) → opened alone fuel copy entered work x ≡ opened d fuel copy entered work x
  unfolding opened
  same_opened fuel copy entered Nothing (message.Call call) = same_begun fuel copy entered [] call
  same_opened fuel copy entered Nothing _ = refl
  same_opened fuel copy entered (AwaitsBack down below) (message.Call call) = same_begun fuel copy entered (down ∷ below) call
  same_opened fuel copy entered (AwaitsBack down below) (message.Back back) = same_resumed copy entered down below back
  same_opened fuel copy entered (AwaitsBack down below) _ = refl
  same_opened fuel copy entered (AwaitsAnswer stub asked seen left goes below) (message.Answer answer) =
      let deaths : List ℕ = answer.deaths in
      let news : List New = answer.news in
      let renewed = same_renewed d.program funcs deaths news copy in
      let lives : List ℕ = entered_behind asked.service deaths news entered in
      same_when _ _ _ _ (same_answer copy entered asked answer)
      (ap (λ (view : List Cell). Runs (goes answer.results) left stub lives view (renewed_copy alone.program deaths news copy) below) (same_grown stub _ _ news seen renewed)
      ∙ ap (λ (m : Memory). Runs (goes answer.results) left stub lives (grown d stub (renewed_copy d.program deaths news copy) news seen) m below) renewed)
  same_opened fuel copy entered (AwaitsAnswer stub asked seen left goes below) _ = refl

  -- ---- messages in turn

  same_deliver : (fuel : ℕ) (u : User) (x : Reading) → deliver alone fuel u x ≡ deliver d fuel u x
  unfolding deliver
  same_deliver fuel u (Ok m) = ap (done u) (same_opened fuel u.agreed u.entered u.work m)
  same_deliver fuel u (Err f) = refl

  same_after : (fuel : ℕ) (u : User) (xs : List Reading) → user_after alone fuel u xs ≡ user_after d fuel u xs
  unfolding user_after
  same_after fuel u [] = refl
  same_after fuel u (x ∷ xs) =
      ap (λ (v : Delivered). user_after alone fuel v.user xs) (same_deliver fuel u x)
      ∙ same_after fuel (deliver d fuel u x).user xs

  same_first : first_user alone ≡ first_user d
  unfolding first_user
  same_first = refl

  same_reply : (before : List Reading) (last : Reading) → user_reply alone before last ≡ user_reply d before last
  unfolding user_reply
  same_reply before last =
      let fuel : ℕ = suc (allowance (before ++ last ∷ [])) in
      ap (λ (x : Delivered). x.reply)
      (same_deliver fuel (user_after alone fuel (first_user alone) before) last
      ∙ ap (λ (u : User). deliver d fuel u last) (same_after fuel (first_user alone) before ∙ ap (λ (u : User). user_after d fuel u before) same_first))

-- ---- the text

-- a program that is declared alike is the program with its functions
same_text : (program text : Program) → text.types ≡ program.types → text.structs ≡ program.structs → text.globals ≡ program.globals → text ≡ with_funcs program text.funcs
same_text program text p q r = λ i. record { types = p i; structs = q i; globals = r i; funcs = text.funcs }

same_own : (b : Bool) (own own' : Option Body) → (b ≡ false → own ≡ own') → chosen b None own ≡ chosen b None own'
same_own true own own' same = refl
same_own false own own' same = same refl

module _ (plan : Plan) (program : Program) (funcs : List Func) where
  abbrev is_kernel : ℕ → Bool
  is_kernel f = not (is_user plan f)

  -- equal bodies of the user half give its side
  same_side : ((f : ℕ) → is_kernel f ≡ false → body_of (with_funcs program funcs) f ≡ body_of program f) → user_side is_kernel (with_funcs program funcs) ≡ user_side is_kernel program
  unfolding user_side
  same_side bodies =
      ap (λ (own : ℕ → Option Body). record { known = known_of program; own = own; asks = true })
      (fun_ext (λ (f : ℕ). same_own (is_kernel f) (body_of (with_funcs program funcs) f) (body_of program f) (bodies f)))

pub replies_need_the_user_text : RepliesNeedTheUserText
unfolding body_of
replies_need_the_user_text program text plan is before last =
    let funcs : List Func = text.funcs in
    let side = same_side plan program funcs (λ f user. is.part.bodies f user) in
    let whole : Driver = driver_of program plan in
    let kernel : Side = (driver_of (with_funcs program funcs) plan).kernel in
    let driver : driver_of (with_funcs program funcs) plan ≡ with_text whole funcs kernel =
    ap (λ (user : Side). record { program = with_funcs program funcs; plan = plan; kernel = kernel; user = user }) side in
    ap (λ (t : Program). user_reply (driver_of t plan) before last) (same_text program text is.part.types is.part.structs is.part.globals)
    ∙ ap (λ (d : Driver). user_reply d before last) driver
    ∙ same_reply whole funcs kernel is.heads before last
