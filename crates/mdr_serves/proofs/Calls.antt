-- A function of the user half is called, by a command or by code of the kernel half: the user half accepts the call, and serves it.
use Rattle.std.proofs.Common.{◌≡◌, ℕ, suc, ◌+◌, ◌*◌, ◌<◌, ◌≤◌, true, List, [], ◌∷◌, length, map, Some, Result, Ok, Err, refl, sym, ◌∙◌, ap, subst, arith}
use Rattle.std.specs.Prelude.{nat_le, slice_get}
use Rattle.std.proofs.lemmas.Bool.{le-leb}
use Rattle.mdr_core.specs.declared.place.At.{At}
use Rattle.mdr_core.specs.declared.program.Func.{Func}
use Rattle.mdr_core.specs.declared.stop.StopKind.TheVariants as stop
use Rattle.mdr_extents.specs.Reaching.{Failing, visible}
use Rattle.mdr_holds.specs.Leaving.{AreObjects}
use Rattle.mdr_meaning.specs.declared.wire.Wire.{Wire}
use Rattle.mdr_meaning.specs.Bodies.{started}
use Rattle.mdr_meaning.specs.Cut.{cut}
use Rattle.mdr_meaning.specs.Fit.{Knowledge}
use Rattle.mdr_meaning.specs.Tree.{Tree}
use Rattle.mdr_meaning.specs.Within.{Uses}
use Rattle.mdr_meaning.proofs.FuelLaws.{started_fuel_is_no_matter}
use Rattle.mdr_model.specs.declared.command.Command.{Command}
use Rattle.mdr_model.specs.declared.memory.Cell.{Cell}
use Rattle.mdr_model.specs.declared.message.Call.{Call}
use Rattle.mdr_model.specs.declared.message.Message.TheVariants as message
use Rattle.mdr_model.specs.declared.message.Told.{Told}
use Rattle.mdr_model.specs.declared.outcome.End.TheVariants as ends
use Rattle.mdr_model.specs.Copies.{agreed_after}
use Rattle.mdr_model.specs.Memory.{Memory, normal}
use Rattle.mdr_plain.specs.Running.{nothing, run}
use Rattle.mdr_plain.specs.Scripts.{Finish, finish}
use Rattle.mdr_plain.specs.World.{World, Ran, done as work_done}
use Rattle.mdr_runs.proofs.Standing.{each_setting_runs}
use Rattle.mdr_split.specs.Kernel.{called, calls}
use Rattle.mdr_split.specs.State.{Kernel, Over, Rest}
use Rattle.mdr_split.specs.User.{Down as Below, call_fits, deliver, is_deeper, opened as opens}
use Rattle.mdr_viewed.proofs.Ticks.{user_code_keeps_ticks}
use Rattle.mdr_watched.specs.Driver.{Driver, entry_roots, is_user, touched_by}
use Rattle.mdr_watched.specs.Views.{opened, taken}
use Rattle.mdr_watched.specs.Watched.{calls_back, closing, entered, held, in_user, upcall}
use Rattle.mdr_serves.proofs.Messages
use Rattle.mdr_serves.proofs.Relations.{Agree, IsPaid, IsRight, grows_same, learns, learns_grows, open_of, owing, telling, waiting}
use Rattle.mdr_serves.proofs.Runs.{AreServed, Finishes, GoesOn, goes_on_grown, is_over, one_more, paid_less, reply_of, user_at}

abbrev call_of : (func depth : ℕ) → World → List Wire → Told → Call
call_of f depth w args told = record { func = f; depth = depth; rest = w.clock.rest; args = args; told = told }

-- the user half accepts a call
deliver_call : (d : Driver) (uses : Uses) (fuel budget f : ℕ) (func : Func) (K KU : Knowledge) (objects : List Wire) (copy : Memory) (w : World) (e depth : ℕ) (args : List Wire) (told : Told) (below : List Below)
    → is_user d.plan f ≡ true → is_deeper below depth ≡ true → depth ≤ 255 → Messages.Called d uses budget f func K KU objects copy w e args told
    → deliver d fuel (user_at copy objects below) (Ok (message.Call (call_of f depth w args told)))
    ≡ reply_of f objects (waiting d told copy w e) w below (agreed_after d.program told copy) w.clock.rest (started d.user fuel f args depth Tree.Idle)
unfolding deliver opens call_fits
deliver_call d uses fuel budget f func K KU objects copy w e depth args told [] user deeper limited m =
    let few : nat_le depth 255 ≡ true = le-leb _ _ limited in rw (user, few, m.lives, m.others, m.args_fit, m.cells, m.view) refl
deliver_call d uses fuel budget f func K KU objects copy w e depth args told (down ∷ below) user deeper limited m =
    let few : nat_le depth 255 ≡ true = le-leb _ _ limited in rw (deeper, user, few, m.lives, m.others, m.args_fit, m.cells, m.view) refl

-- with fuel for the ticks that are left and more, user code does the same
pub same_run : (d : Driver) (room n m f : ℕ) (args : List Wire) (depth : ℕ) (w : World) → w.clock.rest < n → w.clock.rest < m
    → run (in_user d (held d) f (calls_back d (held d) room)) nothing (started d.user n f args depth Tree.Idle) w ≡ run (in_user d (held d) f (calls_back d (held d) room)) nothing (started d.user m f args depth Tree.Idle) w
same_run d room n m f args depth w le le' =
    let may_be_cut : (t : Tree) → run (in_user d (held d) f (calls_back d (held d) room)) nothing (cut w.clock.rest t) w ≡ run (in_user d (held d) f (calls_back d (held d) room)) nothing t w =
    λ t. each_setting_runs.cut (in_user d (held d) f (calls_back d (held d) room)) nothing (user_code_keeps_ticks.user d f (calls_back d (held d) room) (user_code_keeps_ticks.back d room)) (λ n' w'. omega arith) w.clock.rest t w (omega arith) in
    sym (may_be_cut (started d.user n f args depth Tree.Idle))
    ∙ ap (λ (t : Tree). run (in_user d (held d) f (calls_back d (held d) room)) nothing t w) (started_fuel_is_no_matter d.user n m w.clock.rest f le le' args depth Tree.Idle)
    ∙ may_be_cut (started d.user m f args depth Tree.Idle)

module _ (d : Driver) (uses : Uses) (right : IsRight d uses) (fuel budget : ℕ) (enough : budget < fuel) (n : ℕ) (served : AreServed d uses fuel budget n) (f : ℕ) (func : Func) (args : List Wire) (depth : ℕ) (limited : depth ≤ 255) (room : 256 ≤ n + depth) (names : slice_get d.program.funcs f ≡ Some func) (user : is_user d.plan f ≡ true)
    (K KU : Knowledge) (script : List Command) (outer : List Wire) (rest : Rest) (below : List Below) (reserve : ℕ) (all : Ran Wire) (later : Ran Wire → Finish) (on : GoesOn d uses fuel budget script K KU func.result outer rest below reserve all later) where
  -- its set was taken, and it is called
  call_goes : (set : List Cell) (k : Kernel) (w : World) → Agree d uses budget K KU k.agreed w → AreObjects w.memory 0 outer → is_deeper below depth ≡ true → map (normal w.memory) args ≡ args → Messages.FitOnceKnown d K w func args
      → IsPaid d uses (owing k.exchanges (length w.views) reserve + 6) w
      → visible d.program (touched_by d.plan f) w.memory [] (entry_roots d.program f args) ≡ Ok set → entered d (held d) (calls_back d (held d) n) f args depth set w ≡ all
      → Finishes d uses fuel budget k.exchanges (called d f depth args (work_done (opened set w)) k rest script) (user_at k.agreed outer below) (later all)
  call_goes set k w a objects deeper now fit paid is eq =
      let w' : World = opened set w in
      let e : ℕ = suc k.exchanges in
      let told : Told = telling d args k.agreed w' in
      let k' : Kernel = waiting d told k.agreed w' e in
      let m : Messages.Called d uses budget f func K KU outer k.agreed w' e args told = Messages.call_is d uses budget f K KU outer k.agreed w e func args set right a objects names now fit is in
      let tree : Tree = started d.user fuel f args depth Tree.Idle in
      let ticks : w.clock.rest < fuel = omega (arith, a.total, enough) in
      let KU' : Knowledge = learns KU told.news in
      one_more (message.Call (call_of f depth w args told)) k' (open_of f depth []) rest script (user_at k.agreed outer below) (reply_of f outer k' w' below (agreed_after d.program told k.agreed) w'.clock.rest tree) (later all)
      (deliver_call d uses fuel budget f func K KU outer k.agreed w' e depth args told below user deeper limited m)
      (omega (arith, a.total))
      (served f func args depth limited room names user K KU' m.rel.uses_are m.rel.globals m.fit script outer rest below reserve all later
      (goes_on_grown d uses fuel budget script K KU K KU' func.result outer rest below reserve all later (grows_same K) (learns_grows KU told.news) on)
      k' w' (agreed_after d.program told k.agreed) ticks m.rel
      (record { six = omega (arith, paid.six); four = λ itself. let h = paid.four itself in omega (arith, h); some = omega arith })
      (ap (λ (ran : Ran Wire). closing ran) (same_run d n fuel (suc w.clock.rest) f args depth w' ticks (omega arith)) ∙ eq))

  pub call_finishes : (k : Kernel) (w : World) → Agree d uses budget K KU k.agreed w → AreObjects w.memory 0 outer → is_deeper below depth ≡ true → map (normal w.memory) args ≡ args → Messages.FitOnceKnown d K w func args
      → IsPaid d uses (owing k.exchanges (length w.views) reserve + 6) w
      → upcall d (held d) (calls_back d (held d) n) f args depth w ≡ all
      → Finishes d uses fuel budget k.exchanges (calls d f depth args w k rest script) (user_at k.agreed outer below) (later all)
  unfolding calls upcall
  call_finishes k w a objects deeper now fit paid eq = of (visible d.program (touched_by d.plan f) w.memory [] (entry_roots d.program f args)) refl eq
    where
      at : At
      at = record { func = f; stmt = 0 }

      of : (x : Result (List Cell) Failing) → visible d.program (touched_by d.plan f) w.memory [] (entry_roots d.program f args) ≡ x → taken x at w (λ set. entered d (held d) (calls_back d (held d) n) f args depth set w) ≡ all
          → Finishes d uses fuel budget k.exchanges (called d f depth args (taken x at w (λ set. work_done (opened set w))) k rest script) (user_at k.agreed outer below) (later all)
      of (Ok set) is eq' = call_goes set k w a objects deeper now fit paid is eq'
      of (Err failing) is eq' =
          let fin : finish (ends.Stop stop.Annotation (Some at)) w ≡ later all = sym (on.stops stop.Annotation (Some at) w) ∙ ap later eq' in
          subst (λ (x : Finish). Finishes d uses fuel budget k.exchanges (Over (ends.Stop stop.Annotation (Some at)) (record k { world = w })) (user_at k.agreed outer below) x) fin
          (is_over (ends.Stop stop.Annotation (Some at)) (record k { world = w }) (user_at k.agreed outer below) (paid_less (2 * k.exchanges) (omega arith) paid))
