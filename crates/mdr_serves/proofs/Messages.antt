-- The user half accepts each message that shows the set, and has then what the kernel half has: a call, of a command or from kernel code, and what a downcall gives back.
use Rattle.std.proofs.Common.{◌≡◌, ℕ, suc, ◌+◌, ◌-◌, ◌≤◌, ◌<◌, ◌⊎◌, inl, inr, Bool, true, false, List, [], ◌∷◌, map, Option, Some, None, Ok, refl, sym, ◌∙◌, ap, subst, arith}
use Rattle.std.specs.Prelude.{get_or, is_some, length, nat_lt, slice_get}
use Rattle.std.specs.Option.{option_map}
use Rattle.std.specs.List.{list_all}
use Rattle.std.proofs.lemmas.Bool.{eq-eqb, ltb-true, or_left, or_right}
use Rattle.std.proofs.lemmas.Option.{slice_get_cases}
use Rattle.mdr_core.specs.declared.program.Func.{Func}
use Rattle.mdr_core.specs.declared.program.GlobalDef.{GlobalDef}
use Rattle.mdr_core.specs.declared.program.Param.{Param}
use Rattle.mdr_core.specs.declared.program.Program.{Program}
use Rattle.mdr_core.specs.declared.types.Ty.{Ty}
use Rattle.mdr_extents.specs.CellOrder.{cells}
use Rattle.mdr_extents.specs.Reaching.{visible}
use Rattle.mdr_holds.proofs.Fitting.{fits_narrows}
use Rattle.mdr_holds.proofs.Memories.{live_born}
use Rattle.mdr_holds.specs.Holding.{Holds, first_knowledge}
use Rattle.mdr_holds.specs.Leaving.{AreObjects, IsObject}
use Rattle.mdr_meaning.specs.declared.wire.Wire.{Wire}
use Rattle.mdr_meaning.specs.declared.wire.Wire.TheVariants as wire
use Rattle.mdr_meaning.specs.declared.wire.WireView.{WireView}
use Rattle.mdr_meaning.specs.Fair.{AllFit}
use Rattle.mdr_meaning.specs.Fit.{Fits, Grows, IsResult, Knowledge, KnowsGlobals, global_shape}
use Rattle.mdr_meaning.specs.Within.{Uses}
use Rattle.mdr_model.specs.declared.memory.Cell.{Cell}
use Rattle.mdr_model.specs.declared.message.Told.{Told}
use Rattle.mdr_model.proofs.AgreedMessages.{live-after}
use Rattle.mdr_model.proofs.LifeLaws.{has-died}
use Rattle.mdr_model.proofs.Tests.{and_both}
use Rattle.mdr_model.specs.Agreement.{IsAgreed, IsShown, has}
use Rattle.mdr_model.specs.Copies.{agreed_after, died, is_named, tells}
use Rattle.mdr_model.specs.Memory.{Memory, is_live, normal, normal_if}
use Rattle.mdr_model.specs.Sets.{cells_of_runs}
use Rattle.mdr_model.specs.Values.{names_block}
use Rattle.mdr_model.specs.User.{lives_fit, renewed_copy}
use Rattle.mdr_paths.specs.Paths.{is_in as is_among}
use Rattle.mdr_plain.specs.Storage.{next_serial}
use Rattle.mdr_plain.specs.World.{World, advanced}
use Rattle.mdr_serves.proofs.Accesses.{same_clock}
use Rattle.mdr_serves.proofs.Known.{known_some, value_known}
use Rattle.mdr_serves.proofs.Relations.{Agree, IsRight, Rel, known_by, learns, telling, waiting}
use Rattle.mdr_serves.proofs.Tellings.{Tells, shape_known, telling_fits}
use Rattle.mdr_shows.proofs.Open.{sets_are_open}
use Rattle.mdr_shows.proofs.Visible.{visible_may_be_shown}
use Rattle.mdr_shows.specs.Cells.{HasBegun, IsSetOf}
use Rattle.mdr_split.proofs.FitLaws.{args_fit as all_fit, params_are, result_fits, result_is}
use Rattle.mdr_split.specs.Fits.{Places, fits, fits_result}
use Rattle.mdr_split.specs.Legal.{args_fault, params_of, result_of}
use Rattle.mdr_split.specs.Services.{serials_of}
use Rattle.mdr_split.specs.User.{agrees, cells_fit, objects_fit, user_places}
use Rattle.mdr_watched.specs.Driver.{Driver, entry_roots, result_roots, touched_by}
use Rattle.mdr_watched.specs.Order.{AllAreLive}
use Rattle.mdr_watched.specs.Views.{below, opened, renewed, top}

-- ---- what holds behind a message

pub still : (w : World) → w.clock ≡ advanced (w.clock.rest - w.clock.rest) w.clock
still w =
    let none : w.clock.rest - w.clock.rest ≡ 0 = omega arith in
    let same : w.clock ≡ advanced 0 w.clock = same_clock (omega arith) (omega arith) refl in
    same ∙ ap (λ (n : ℕ). advanced n w.clock) (sym none)

pub telling_rel : (d : Driver) (uses : Uses) (budget t : ℕ) (K KU : Knowledge) (objects : List Wire) (copy : Memory) (w : World) (e : ℕ) (told : Told) → IsRight d uses → KU.uses ≡ uses → Holds d.program K w
    → IsSetOf d.program (touched_by d.plan t) w.memory (top w.views) → AreObjects w.memory 0 objects → w.clock.ticks + w.clock.rest ≡ budget → Tells d t KU K copy w (top w.views) told
    → Rel d uses budget t K (learns KU told.news) objects (waiting d told copy w e) w (agreed_after d.program told copy)
telling_rel d uses budget t K KU objects copy w e told right uses_are holds set objects_are total h = record {
  sound = right.driver.sound;
  grows = h.grows;
  uses_are = uses_are;
  globals = h.globals;
  holds = holds;
  memories = h.shared;
  set = set;
  objects_are = objects_are;
  same_lives = refl;
  same_views = refl;
  same_kept = refl;
  clock = still w;
  total = total;
}

-- another set on top
pub with_top : (program : Program) (K : Knowledge) (w : World) (set : List Cell) (others : List (List Cell)) → AllAreLive w.memory others → ((c : Cell) → is_among cells set c ≡ true → is_live w.memory c.serial ≡ true) → Holds program K w → Holds program K (record w { views = set ∷ others })
with_top program K w set others live own h = record { memory = h.memory; births = h.births; low = h.low; views = (own, live); device = h.device; handler = h.handler }

-- a global that lives is in the copy
global_paired : (program : Program) (KU : Knowledge) (next : ℕ) (copy m : Memory) → KnowsGlobals program KU → IsAgreed program (known_by KU) next copy m → (serial : ℕ) → nat_lt serial (length program.globals) ≡ true → is_live m serial ≡ true → is_live copy serial ≡ true
global_paired program KU next copy m globals agreed serial inside lives = of (slice_get_cases program.globals serial).1
  where
    of : ((def : GlobalDef) × (serial < length program.globals) × (slice_get program.globals serial ≡ Some def) × (get_or program.globals serial def ≡ def)) ⊎ ((length program.globals ≤ serial) × (slice_get program.globals serial ≡ None)) → is_live copy serial ≡ true
    of (inl x) = agreed.paired serial (shape_known KU serial (global_shape program x.0) (globals.knows serial x.0 x.2)) lives
    of (inr x) = let less : serial < length program.globals = ltb-true serial (length program.globals) inside in absurd (omega (arith, less, x.0))

-- ---- values that are passed

-- the globals alone are known
pub first_globals : (program : Program) (uses : Uses) → KnowsGlobals program (first_knowledge program uses)
first_globals program uses = record { knows = λ g def e. ap (λ (o : Option GlobalDef). option_map (global_shape program) o) e }

first_shape : (program : Program) (uses : Uses) (serial : ℕ) → is_some ((first_knowledge program uses).blocks serial) ≡ true → (def : GlobalDef) × (slice_get program.globals serial ≡ Some def)
first_shape program uses serial e = of (slice_get program.globals serial) refl e
  where
    of : (o : Option GlobalDef) → slice_get program.globals serial ≡ o → is_some (option_map (global_shape program) o) ≡ true → (def : GlobalDef) × (slice_get program.globals serial ≡ Some def)
    of (Some def) q h = (def, q)
    of None q h = absurd cc

-- a value that names globals alone is as it was, since these live
global_now : (program : Program) (uses : Uses) (K : Knowledge) (w : World) → Holds program K w → (t : Ty) (v : Wire) → Fits program (first_knowledge program uses) t v → normal w.memory v ≡ v
unfolding normal
global_now program uses K w h t (wire.Ptr q) fits =
    let global = first_shape program uses q.serial (known_some (first_knowledge program uses) q (value_known program (first_knowledge program uses) t (wire.Ptr q) fits)) in
    ap (λ (b : Bool). normal_if b q) (live_born w.memory q.serial _ (h.memory.globals q.serial global.0 global.1))
global_now program uses K w h t (wire.Int k n) fits = refl
global_now program uses K w h t wire.Null fits = refl
global_now program uses K w h t wire.Dead fits = refl
global_now program uses K w h t (wire.Fn f) fits = refl
global_now program uses K w h t (wire.Lock s) fits = refl
global_now program uses K w h t wire.NoValue fits = refl

pub globals_now : (program : Program) (uses : Uses) (K : Knowledge) (w : World) → Holds program K w → (args : List Wire) (types : List Ty) → AllFit program (first_knowledge program uses) args types → map (normal w.memory) args ≡ args
globals_now program uses K w h [] types fit = refl
globals_now program uses K w h (v ∷ vs) [] fit = elim fit [ ]
globals_now program uses K w h (v ∷ vs) (t ∷ ts) fit = λ i. global_now program uses K w h t v fit.0 i ∷ globals_now program uses K w h vs ts fit.1 i

-- a pointer that is as it is now names a block that lives
now_lives : (m : Memory) (v : Wire) (q : WireView) → normal m v ≡ v → v ≡ wire.Ptr q → is_live m q.serial ≡ true
unfolding normal
now_lives m v q now is = of (is_live m q.serial) (ap (normal m) (sym is) ∙ now ∙ is)
  where
    of : (b : Bool) → normal_if b q ≡ wire.Ptr q → b ≡ true
    of true e = refl
    of false e = absurd cc

-- arguments as they are now fit by less, where that has the blocks that they name
pub all_narrow : (program : Program) (K K' : Knowledge) (m : Memory) → Grows K' K → (args : List Wire) (types : List Ty) → map (normal m) args ≡ args
    → ((serial : ℕ) → is_named args serial ≡ true → is_live m serial ≡ true → is_some (K'.blocks serial) ≡ true) → AllFit program K args types → AllFit program K' args types
all_narrow program K K' m grows [] [] now known h = tt
all_narrow program K K' m grows [] (t ∷ ts) now known h = elim h [ ]
all_narrow program K K' m grows (v ∷ vs) [] now known h = elim h [ ]
all_narrow program K K' m grows (v ∷ vs) (t ∷ ts) now known h =
    let first : normal m v ≡ v = cc in
    let rest : map (normal m) vs ≡ vs = cc in (
      fits_narrows program K' K grows t v (λ q is. known q.serial (or_left _ _ (ap (names_block q.serial) is ∙ eq-eqb q.serial q.serial refl)) (now_lives m v q first is)) h.0,
      all_narrow program K K' m grows vs ts rest (λ serial named lives. known serial (or_right (names_block serial v) _ named) lives) h.1,
    )

-- no cell is in an empty set
nothing_in : (c : Cell) → is_among cells [] c ≡ true → ⊥
unfolding is_among
nothing_in c h = cc

-- the objects of upcalls that are open live on
not_dead : (copy m : Memory) (n : ℕ) → is_live m n ≡ true → has (died copy m) n ≡ false
not_dead copy m n lives = grind (arith, has-died copy m n, lives)

nobody : (n : ℕ) → has [] n ≡ false
unfolding has
nobody n = refl

abbrev stays_too : (copy m : Memory) (n : ℕ) → Bool
stays_too copy m n = agrees (has [] n) (has (died copy m) n)

one_stays : (copy m : Memory) (n : ℕ) → is_live m n ≡ true → stays_too copy m n ≡ true
one_stays copy m n lives = rw (nobody n, not_dead copy m n lives) refl

pub objects_alive : (copy m : Memory) (from : ℕ) (vs : List Wire) → AreObjects m from vs → list_all (λ n. agrees (has [] n) (has (died copy m) n)) (serials_of vs) ≡ true
objects_alive copy m from [] h = refl
objects_alive copy m from (v ∷ vs) h = of h.0 (objects_alive copy m (suc h.0.block.serial) vs h.1)
  where
    of : IsObject m from v → list_all (λ n. agrees (has [] n) (has (died copy m) n)) (serials_of vs) ≡ true → list_all (λ n. agrees (has [] n) (has (died copy m) n)) (serials_of (v ∷ vs)) ≡ true
    of o rest =
        subst (λ (x : Wire). list_all (λ n. agrees (has [] n) (has (died copy m) n)) (serials_of (x ∷ vs)) ≡ true) (sym o.is)
        (and_both _ _ (one_stays copy m o.block.serial (live_born m o.block.serial o.block o.live)) rest)

none_die : (d : Driver) (set : List Cell) (values : List Wire) (copy m : Memory) (objects : List Wire) → AreObjects m 0 objects → objects_fit [] (tells d.program set values copy m).deaths (serials_of objects) ≡ true
unfolding tells objects_fit
none_die d set values copy m objects h = objects_alive copy m 0 objects h

-- a block that lives, and is named by a value that is told, is known then
pub known_block : (K : Knowledge) (serial : ℕ) → known_by K serial ≡ true → is_some (K.blocks serial) ≡ true
unfolding known_by
known_block K serial h = h

named_told : (d : Driver) (KU : Knowledge) (set : List Cell) (values : List Wire) (copy m : Memory) (t : ℕ) (K : Knowledge) (w : World) → w.memory ≡ m → Tells d t KU K copy w set (tells d.program set values copy m)
    → (serial : ℕ) → is_named values serial ≡ true → is_live m serial ≡ true → is_some ((learns KU (tells d.program set values copy m).news).blocks serial) ≡ true
named_told d KU set values copy m t K w same h serial named lives =
    let there : is_live (agreed_after d.program (tells d.program set values copy m) copy) serial ≡ true = grind (arith, live-after d.program set values copy m serial, named, lives) in
    known_block (learns KU (tells d.program set values copy m).news) serial (h.shared.agree.knows serial there)

-- ---- a call

-- arguments fit, once so much is known as they name
abbrev pub FitOnceKnown : Driver → Knowledge → World → Func → List Wire → Type 0
FitOnceKnown d K w func args =
    (K' : Knowledge) → KnowsGlobals d.program K' → Grows K' K → ((serial : ℕ) → is_named args serial ≡ true → is_live w.memory serial ≡ true → is_some (K'.blocks serial) ≡ true)
    → AllFit d.program K' args (map (λ (p : Param). p.ty) func.params)

-- in state w, in which the call's set is open, the user half accepts the call; and both sides are in relation. The objects of the upcalls below live on
pub record Called (d : Driver) (uses : Uses) (budget f : ℕ) (func : Func) (K KU : Knowledge) (objects : List Wire) (copy : Memory) (w : World) (e : ℕ) (args : List Wire) (told : Told) : Type 0 where
  pub lives : lives_fit d.program copy told.deaths told.news ≡ true
  pub others : objects_fit [] told.deaths (serials_of objects) ≡ true
  pub args_fit : args_fault (fits (user_places d (renewed_copy d.program told.deaths told.news copy))) 0 (params_of (slice_get d.program.funcs f)) args ≡ None
  pub cells : cells_fit d f (renewed_copy d.program told.deaths told.news copy) told.view told.runs ≡ true
  pub view : cells_of_runs told.view ≡ top w.views
  pub fit : AllFit d.program (learns KU told.news) args (map (λ (p : Param). p.ty) func.params)
  pub rel : Rel d uses budget f K (learns KU told.news) objects (waiting d told copy w e) w (agreed_after d.program told copy)

pub call_is : (d : Driver) (uses : Uses) (budget f : ℕ) (K KU : Knowledge) (objects : List Wire) (copy : Memory) (w : World) (e : ℕ) (func : Func) (args : List Wire) (set : List Cell) → IsRight d uses → Agree d uses budget K KU copy w → AreObjects w.memory 0 objects
    → slice_get d.program.funcs f ≡ Some func → map (normal w.memory) args ≡ args → FitOnceKnown d K w func args
    → visible d.program (touched_by d.plan f) w.memory [] (entry_roots d.program f args) ≡ Ok set
    → Called d uses budget f func K KU objects copy (opened set w) e args (telling d args copy (opened set w))
call_is d uses budget f K KU objects copy w e func args set right a objects_are names now fit is = record {
  lives = h.lives;
  others = none_die d set args copy w.memory objects objects_are;
  args_fit = args_right;
  cells = h.cells;
  view = h.back;
  fit = fitting;
  rel = telling_rel d uses budget f K KU objects copy (opened set w) e told right a.uses_are holds is_set objects_are a.total h;
}
  where
    told : Told
    told = telling d args copy (opened set w)

    is_set : IsSetOf d.program (touched_by d.plan f) w.memory set
    is_set = visible_may_be_shown.set d.program (touched_by d.plan f) w.memory [] (entry_roots d.program f args) set a.holds.memory.formed.rises is

    begun : HasBegun d.program [] copy w.memory
    begun = record { known = λ c inside lives. absurd (nothing_in c inside); globals = global_paired d.program KU (next_serial w) copy w.memory a.globals a.memories }

    is_shown : IsShown set args copy w.memory
    is_shown = visible_may_be_shown.shown d.program (touched_by d.plan f) w.memory copy [] (entry_roots d.program f args) args set a.holds.memory.formed.rises begun (visible_may_be_shown.entry d.program f args w.memory) is

    holds : Holds d.program K (opened set w)
    holds = with_top d.program K w set w.views a.holds.views (sets_are_open.live d.program (touched_by d.plan f) w.memory set is_set) a.holds

    h : Tells d f KU K copy (opened set w) set told
    h = telling_fits d uses f KU K copy (opened set w) set args right a.grows a.uses_are a.globals holds a.memories is_set is_shown

    fitting : AllFit d.program (learns KU told.news) args (map (λ (p : Param). p.ty) func.params)
    fitting = fit (learns KU told.news) h.globals h.grows (λ serial named lives. named_told d KU set args copy w.memory f K (opened set w) refl h serial named lives)

    p : Places
    p = user_places d (renewed_copy d.program told.deaths told.news copy)

    args_right : args_fault (fits p) 0 (params_of (slice_get d.program.funcs f)) args ≡ None
    args_right =
        ap (λ (ts : List Ty). args_fault (fits p) 0 ts args) (params_are (slice_get d.program.funcs f) func names)
        ∙ ap (λ (vs : List Wire). args_fault (fits p) 0 (map (λ (x : Param). x.ty) func.params) vs) (sym now)
        ∙ all_fit h.judges (map (λ (x : Param). x.ty) func.params) args fitting 0

-- ---- what a downcall gives back

-- the user half accepts the result of function f, which is of this type
pub record Backed (d : Driver) (uses : Uses) (budget t : ℕ) (K KU : Knowledge) (objects : List Wire) (copy : Memory) (w : World) (e f : ℕ) (result : Ty) (v : Wire) (told : Told) : Type 0 where
  pub lives : lives_fit d.program copy told.deaths told.news ≡ true
  pub others : objects_fit [] told.deaths (serials_of objects) ≡ true
  pub result_fits : fits_result (user_places d (renewed_copy d.program told.deaths told.news copy)) (result_of (slice_get d.program.funcs f)) v ≡ true
  pub cells : cells_fit d t (renewed_copy d.program told.deaths told.news copy) told.view told.runs ≡ true
  pub view : cells_of_runs told.view ≡ top w.views
  pub given : IsResult d.program (learns KU told.news) result v
  pub rel : Rel d uses budget t K (learns KU told.news) objects (waiting d told copy w e) w (agreed_after d.program told copy)

-- a value that lives as it is, and is told, is known then
result_told : (d : Driver) (KU : Knowledge) (set : List Cell) (v : Wire) (copy m : Memory) (t : ℕ) (K : Knowledge) (w : World) → w.memory ≡ m → Tells d t KU K copy w set (tells d.program set (v ∷ []) copy m) → normal m v ≡ v
    → (q : WireView) → v ≡ wire.Ptr q → is_some ((learns KU (tells d.program set (v ∷ []) copy m).news).blocks q.serial) ≡ true
result_told d KU set v copy m t K w same h now q is =
    named_told d KU set (v ∷ []) copy m t K w same h q.serial (or_left _ _ (ap (names_block q.serial) is ∙ eq-eqb q.serial q.serial refl)) (now_lives m v q now is)

result_narrows : (program : Program) (KU K : Knowledge) → Grows KU K → (ty : Ty) (v : Wire) → ((q : WireView) → v ≡ wire.Ptr q → is_some (KU.blocks q.serial) ≡ true) → IsResult program K ty v → IsResult program KU ty v
result_narrows program KU K grows ty wire.NoValue known h = tt
result_narrows program KU K grows ty (wire.Int k n) known h = fits_narrows program KU K grows ty (wire.Int k n) known h
result_narrows program KU K grows ty wire.Null known h = fits_narrows program KU K grows ty wire.Null known h
result_narrows program KU K grows ty (wire.Ptr q) known h = fits_narrows program KU K grows ty (wire.Ptr q) known h
result_narrows program KU K grows ty wire.Dead known h = fits_narrows program KU K grows ty wire.Dead known h
result_narrows program KU K grows ty (wire.Fn f) known h = fits_narrows program KU K grows ty (wire.Fn f) known h
result_narrows program KU K grows ty (wire.Lock s) known h = fits_narrows program KU K grows ty (wire.Lock s) known h

-- the sets that lie below, where all live
pub below_live : (m : Memory) (sets : List (List Cell)) → AllAreLive m sets → AllAreLive m (below sets)
below_live m [] h = tt
below_live m (set ∷ sets) h = h.1

-- code of the kernel half that a downcall called has given v in state w', once the set is taken anew: the cells of the old one are of known blocks
module _ (d : Driver) (uses : Uses) (budget t : ℕ) (K KU : Knowledge) (objects : List Wire) (copy : Memory) (e f : ℕ) (func : Func) (args : List Wire) (v : Wire) (w' : World) (right : IsRight d uses) (a : Agree d uses budget K KU copy w') (objects_are : AreObjects w'.memory 0 objects) (names : slice_get d.program.funcs f ≡ Some func)
    (known : (c : Cell) → is_among cells (top w'.views) c ≡ true → known_by KU c.serial ≡ true) (gives : IsResult d.program K func.result v) (now : normal w'.memory v ≡ v) (set : List Cell) (is : visible d.program (touched_by d.plan t) w'.memory (top w'.views) (result_roots d.program f args v) ≡ Ok set) where
  is_set : IsSetOf d.program (touched_by d.plan t) w'.memory set
  is_set = visible_may_be_shown.set d.program (touched_by d.plan t) w'.memory (top w'.views) (result_roots d.program f args v) set a.holds.memory.formed.rises is

  is_shown : IsShown set (v ∷ []) copy w'.memory
  is_shown =
      visible_may_be_shown.shown d.program (touched_by d.plan t) w'.memory copy (top w'.views) (result_roots d.program f args v) (v ∷ []) set a.holds.memory.formed.rises
      (record { known = λ c inside lives. a.memories.paired c.serial (known c inside) lives; globals = global_paired d.program KU (next_serial w') copy w'.memory a.globals a.memories })
      (visible_may_be_shown.result d.program f args v w'.memory) is

  holds : Holds d.program K (renewed set w')
  holds = with_top d.program K w' set (below w'.views) (below_live w'.memory w'.views a.holds.views) (sets_are_open.live d.program (touched_by d.plan t) w'.memory set is_set) a.holds

  abbrev told : Told
  told = telling d (v ∷ []) copy (renewed set w')

  h : Tells d t KU K copy (renewed set w') set told
  h = telling_fits d uses t KU K copy (renewed set w') set (v ∷ []) right a.grows a.uses_are a.globals holds a.memories is_set is_shown

  given : IsResult d.program (learns KU told.news) func.result v
  given = result_narrows d.program (learns KU told.news) K h.grows func.result v (result_told d KU set v copy w'.memory t K (renewed set w') refl h now) gives

  fitting : fits_result (user_places d (renewed_copy d.program told.deaths told.news copy)) (result_of (slice_get d.program.funcs f)) v ≡ true
  fitting =
      ap (λ (ty : Ty). fits_result (user_places d (renewed_copy d.program told.deaths told.news copy)) ty v) (result_is (slice_get d.program.funcs f) func names)
      ∙ ap (λ (x : Wire). fits_result (user_places d (renewed_copy d.program told.deaths told.news copy)) func.result x) (sym now)
      ∙ result_fits h.judges func.result v given

  pub backed : Backed d uses budget t K KU objects copy (renewed set w') (suc e) f func.result v told
  backed = record {
    lives = h.lives;
    others = none_die d set (v ∷ []) copy w'.memory objects objects_are;
    result_fits = fitting;
    cells = h.cells;
    view = h.back;
    given = given;
    rel = telling_rel d uses budget t K KU objects copy (renewed set w') (suc e) told right a.uses_are holds is_set objects_are a.total h;
  }
