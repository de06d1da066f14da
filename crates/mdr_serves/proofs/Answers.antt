-- The user half accepts the answer to a service, and has then what the kernel half has.
use Rattle.std.proofs.Common.{◌≡◌, ℕ, suc, ◌≤◌, ◌<◌, Bool, true, false, List, [], ◌∷◌, ◌++◌, map, Option, Some, refl, sym, ◌∙◌, ap, subst, le_trans, arith, append_assoc}
use Rattle.std.specs.Prelude.{is_some, length}
use Rattle.std.proofs.lemmas.Bool.{eq-eqb, or_left, or_right}
use Rattle.mdr_core.specs.Services.{Service, Kzalloc, Kcalloc, Kfree, Readl, Writel, Printk, RequestIrq, FreeIrq, Deliver, Combolock, Combounlock, Bug, Enter, Leave, service_numbered}
use Rattle.mdr_extents.specs.CellOrder.{cells}
use Rattle.mdr_extents.specs.Extent.{is_touched}
use Rattle.mdr_holds.proofs.Objects.{objects_behind, objects_now}
use Rattle.mdr_holds.proofs.Services.{services_leave}
use Rattle.mdr_holds.proofs.States.{blocks_are, states_hold}
use Rattle.mdr_holds.specs.Holding.{Holds}
use Rattle.mdr_holds.specs.Laws.{GivesServed}
use Rattle.mdr_holds.specs.Leaving.{AreObjects, IsObject, Later, Leads, ended as leads_on, stopped as leads_out}
use Rattle.mdr_meaning.proofs.GrowthLaws.{globals_grow, grows_on}
use Rattle.mdr_meaning.specs.declared.shape.Shape64.{Shape64}
use Rattle.mdr_meaning.specs.declared.wire.Wire.{Wire}
use Rattle.mdr_meaning.specs.Fair.{AreBirths, AreBorn, Begins, IsAsk, IsServed, Leaves, after}
use Rattle.mdr_meaning.specs.Fit.{Grows, IsDataPointer, Knowledge}
use Rattle.mdr_meaning.specs.Tree.{Asked}
use Rattle.mdr_meaning.specs.Within.{Uses}
use Rattle.mdr_model.specs.declared.memory.Cell.{Cell}
use Rattle.mdr_model.specs.declared.message.BirthKind.TheVariants.{Auto}
use Rattle.mdr_model.specs.declared.message.New.{New}
use Rattle.mdr_model.specs.declared.message.Told.{Told}
use Rattle.mdr_model.proofs.AgreedAnswers.{answered as agreed_answer}
use Rattle.mdr_model.proofs.AgreedMessages.{follows, live-after}
use Rattle.mdr_model.proofs.AgreedReplies.{replied, reply_user}
use Rattle.mdr_model.proofs.LifeTests.{lives_pass}
use Rattle.mdr_model.specs.Agreement.{IsAgreed, IsShared, KeepsShown, Serials, has_index}
use Rattle.mdr_model.specs.Copies.{agreed_after, changed_cells, changes, is_named, put_all, put_runs, tells, told_news, values_of_runs}
use Rattle.mdr_model.specs.Memory.{Memory, born_at, cell_at, is_live, normal}
use Rattle.mdr_model.specs.Sets.{is_in, runs_of_cells}
use Rattle.mdr_model.proofs.Tests.{and_left, and_right}
use Rattle.mdr_model.specs.User.{has_type, lives_fit, renewed_copy}
use Rattle.mdr_model.specs.Values.{names_block}
use Rattle.mdr_paths.proofs.NodeLists.{in_both}
use Rattle.mdr_paths.specs.Paths.{is_in as is_among}
use Rattle.mdr_plain.specs.Services.{as_now, served}
use Rattle.mdr_plain.specs.Storage.{next_serial, pointer_to}
use Rattle.mdr_plain.specs.World.{World, Ran, Ended, after as follows_on, left}
use Rattle.mdr_serves.proofs.AnswerParts.{ask_grows, deaths_right, entered_right, first_joins, globals_below, later_objects, named_lives, names_lock, same_news, served_narrows}
use Rattle.mdr_serves.proofs.Coming.{less_same, news_are_results}
use Rattle.mdr_serves.proofs.Messages.{below_live, known_block, still, with_top}
use Rattle.mdr_serves.proofs.Relations.{AreOpened, Comes, IsOpened, IsRight, Rel, ended as comes_to, known_by, learns, learns_grows, open_of, replied_copy, stopped as comes_out, waiting}
use Rattle.mdr_serves.proofs.Strict.{births_with, fresh_after}
use Rattle.mdr_serves.proofs.Tellings.{known_is, news_grow}
use Rattle.mdr_shows.proofs.Growing.{answers_grow_sets}
use Rattle.mdr_shows.proofs.Membership.{membership_is_one}
use Rattle.mdr_shows.proofs.Open.{sets_are_open}
use Rattle.mdr_shows.proofs.Served.{serves as what_is_served, services_keep_sets}
use Rattle.mdr_shows.specs.Cells.{IsServed as IsServedIn, IsSetOf}
use Rattle.mdr_split.proofs.ServiceFits.{births_told, results_right}
use Rattle.mdr_split.specs.Services.{counted, entered_after, entering_by, leaving, less, results_fit, serials_of}
use Rattle.mdr_split.specs.State.{Kernel}
use Rattle.mdr_split.specs.User.{coming_by, entered_behind, grown, objects_fit}
use Rattle.mdr_watched.specs.Driver.{Driver, touched_by}
use Rattle.mdr_watched.specs.Views.{below, gained, living, new_cells, top}
use Rattle.mdr_watched.specs.Watched.{held, serves}

-- a service was asked for in state before, where the upcall's objects `live` lived, of which `remains` are left, and those of the upcalls below; it gave these results, and came to state w. So much is known then
pub record Answered (d : Driver) (uses : Uses) (budget t : ℕ) (K KU : Knowledge) (outer live remains : List Wire) (copy : Memory) (before w : World) (e : ℕ) (asked : Asked) (s : Service) (rs : List Wire) (told : Told) (K' : Knowledge) : Type 0 where
  pub grown_too : Grows K K'
  pub lives : lives_fit d.program copy told.deaths told.news ≡ true
  pub objects : objects_fit (leaving asked.service asked.args) told.deaths (serials_of (outer ++ live)) ≡ true
  pub results : results_fit asked told.news rs ≡ true
  -- no cells are told
  pub lives_alone : renewed_copy d.program told.deaths told.news copy ≡ agreed_after d.program told copy
  -- the set grows alike
  pub view : grown d t (agreed_after d.program told copy) told.news (top before.views) ≡ top w.views
  -- objects are counted alike: all blocks that come with them are theirs, and arguments are as they were
  pub counted_user : entered_behind asked.service told.deaths told.news (serials_of (outer ++ live)) ≡ serials_of (outer ++ after s remains rs)
  pub counted_kernel : (depth : ℕ) → counted (as_now before asked) rs (open_of t depth live) ≡ open_of t depth (after s remains rs)
  pub rest : w.clock.rest ≡ before.clock.rest
  pub given : IsServed d.program (learns KU told.news) asked s rs
  pub fresh : AreOpened d t w (fresh_after s asked.shapes rs)
  pub rel : Rel d uses budget t K' (learns KU told.news) (outer ++ after s remains rs) (waiting d told copy w e) w (agreed_after d.program told copy)

-- an answer tells no cells
no_cells : (d : Driver) (rs : List Wire) (copy m : Memory) → renewed_copy d.program (tells d.program [] rs copy m).deaths (tells d.program [] rs copy m).news copy ≡ agreed_after d.program (tells d.program [] rs copy m) copy
unfolding tells agreed_after changes changed_cells runs_of_cells put_runs values_of_runs put_all
no_cells d rs copy m = refl

-- ---- objects of the upcalls below stand in front

pub leaves_behind : (s : Service) (asked : Asked) (outer live remains : List Wire) → Leaves s asked live remains → Leaves s asked (outer ++ live) (outer ++ remains)
leaves_behind Leave asked outer live remains e = ap (λ (xs : List Wire). outer ++ xs) e ∙ sym (append_assoc outer remains asked.args)
leaves_behind Enter asked outer live remains e = ap (λ (xs : List Wire). outer ++ xs) e
leaves_behind Kzalloc asked outer live remains e = ap (λ (xs : List Wire). outer ++ xs) e
leaves_behind Kcalloc asked outer live remains e = ap (λ (xs : List Wire). outer ++ xs) e
leaves_behind Kfree asked outer live remains e = ap (λ (xs : List Wire). outer ++ xs) e
leaves_behind Readl asked outer live remains e = ap (λ (xs : List Wire). outer ++ xs) e
leaves_behind Writel asked outer live remains e = ap (λ (xs : List Wire). outer ++ xs) e
leaves_behind Printk asked outer live remains e = ap (λ (xs : List Wire). outer ++ xs) e
leaves_behind RequestIrq asked outer live remains e = ap (λ (xs : List Wire). outer ++ xs) e
leaves_behind FreeIrq asked outer live remains e = ap (λ (xs : List Wire). outer ++ xs) e
leaves_behind Deliver asked outer live remains e = ap (λ (xs : List Wire). outer ++ xs) e
leaves_behind Combolock asked outer live remains e = ap (λ (xs : List Wire). outer ++ xs) e
leaves_behind Combounlock asked outer live remains e = ap (λ (xs : List Wire). outer ++ xs) e
leaves_behind Bug asked outer live remains e = ap (λ (xs : List Wire). outer ++ xs) e

pub after_behind : (s : Service) (outer remains rs : List Wire) → after s (outer ++ remains) rs ≡ outer ++ after s remains rs
after_behind Enter outer remains rs = append_assoc outer remains rs
after_behind Leave outer remains rs = refl
after_behind Kzalloc outer remains rs = refl
after_behind Kcalloc outer remains rs = refl
after_behind Kfree outer remains rs = refl
after_behind Readl outer remains rs = refl
after_behind Writel outer remains rs = refl
after_behind Printk outer remains rs = refl
after_behind RequestIrq outer remains rs = refl
after_behind FreeIrq outer remains rs = refl
after_behind Deliver outer remains rs = refl
after_behind Combolock outer remains rs = refl
after_behind Combounlock outer remains rs = refl
after_behind Bug outer remains rs = refl

-- ---- objects that were just born

-- a pointer in the results
named_first : (block : New) (p : Wire) (ps : List Wire) → p ≡ pointer_to block → is_named (p ∷ ps) block.serial ≡ true
named_first block p ps is = or_left _ _ (ap (names_block block.serial) is ∙ eq-eqb block.serial block.serial refl)

module _ (d : Driver) (t : ℕ) (K : Knowledge) (w w' w2 : World) (few : length d.program.globals ≤ next_serial w) (holds : Holds d.program K w') (same : w2.memory ≡ w'.memory)
    (joins : (c : Cell) → is_among cells (new_cells d.program (touched_by d.plan t) (next_serial w) w'.memory) c ≡ true → is_in (top w2.views) c ≡ true) where
  sized : (block : New) → born_at w'.memory block.serial ≡ Some block → is_some (cell_at w'.memory (record { serial = block.serial; index = 0 })) ≡ true
  sized block born =
      holds.memory.formed.sized (record { serial = block.serial; index = 0 }) ∙ ap (λ (o : Option New). has_index d.program o 0) born
      ∙ and_right (has_type d.program block.ty) _ (and_left _ _ (holds.memory.shapes block.serial block born))

  born_so : (s : Shape64) (block : New) → block.kind ≡ Auto → block.ty ≡ s.ty → block.count ≡ s.count → record { serial = block.serial; kind = Auto; ty = s.ty; count = s.count } ≡ block
  born_so s block auto ty count = λ i. record { serial = block.serial; kind = sym auto i; ty = sym ty i; count = sym count i }

  pub one_opened : (s : Shape64) (p : Wire) (from : ℕ) (o : IsObject w'.memory from p) → next_serial w ≤ o.block.serial → o.block.ty ≡ s.ty → o.block.count ≡ s.count → 1 ≤ s.count → IsOpened d t w2 (record { shape = s; pointer = p })
  one_opened s p from o later ty count some = record {
    block = o.block;
    is = o.is;
    live = ap (λ (m : Memory). born_at m o.block.serial) same ∙ o.live;
    some = subst (λ (n : ℕ). 1 ≤ n) (sym count) some;
    visible = λ opens.
        joins (record { serial = o.block.serial; index = 0 })
        (first_joins d.program (touched_by d.plan t) (next_serial w) w'.memory o.block later o.live (sized o.block o.live)
        (subst (λ (n : New). is_touched d.program (touched_by d.plan t) n 0 ≡ true) (born_so s o.block o.auto ty count) (opens o.block.serial (le_trans few later))));
  }

  type_of : (s : Shape64) (p : Wire) (block : New) → p ≡ pointer_to block → IsDataPointer d.program K (λ n. n ≡ s.ty) p → block.ty ≡ s.ty
  type_of s p block is h = (subst (λ (x : Wire). IsDataPointer d.program K (λ n. n ≡ s.ty) x) is h).0

  count_of : (s : Shape64) (p : Wire) (block : New) → p ≡ pointer_to block → Begins s.count p → block.count ≡ s.count
  count_of s p block is h = (subst (λ (x : Wire). Begins s.count x) is h).1

  pub all_opened : (shapes : List Shape64) (rs : List Wire) (from : ℕ) → AreObjects w'.memory from rs → AreBorn d.program K shapes rs → AreBirths d.program shapes → ((serial : ℕ) → is_named rs serial ≡ true → next_serial w ≤ serial) → AreOpened d t w2 (births_with shapes rs)
  all_opened [] rs from o born births later = tt
  all_opened (s ∷ shapes) [] from o born births later = tt
  all_opened (s ∷ shapes) (p ∷ ps) from o born births later = (
    one_opened s p from o.0 (later o.0.block.serial (named_first o.0.block p ps o.0.is)) (type_of s p o.0.block o.0.is born.0) (count_of s p o.0.block o.0.is born.1) births.0.some,
    all_opened shapes ps (suc o.0.block.serial) o.1 born.2 births.1 (λ serial named. later serial (or_right (names_block serial p) _ named)),
  )

-- ---- a service was done

module _ {K : Knowledge} (d : Driver) (uses : Uses) (budget t : ℕ) (KU : Knowledge) (outer live remains : List Wire) (k : Kernel) (w : World) (um : Memory) (asked : Asked) (s : Service) (right : IsRight d uses) (r : Rel d uses budget t K KU (outer ++ live) k w um)
    (numbered : service_numbered asked.service ≡ Some s) (ask : IsAsk d.program KU asked s) (own_leaves : Leaves s asked live remains)
    (K' : Knowledge) (rs : List Wire) (w' : World) (l : Later d.program 0 K w K' w') (g : GivesServed d.program asked s 0 (outer ++ remains) w K' rs w') (is : served d.program asked w ≡ Ended rs w') where
  leaves : Leaves s asked (outer ++ live) (outer ++ remains)
  leaves = leaves_behind s asked outer live remains own_leaves

  abbrev w2 : World
  w2 = gained d.program (touched_by d.plan t) (next_serial w) w'

  abbrev told : Told
  told = tells d.program [] rs um w'.memory

  abbrev news : List New
  news = told_news [] rs um w'.memory

  abbrev copy : Memory
  copy = agreed_after d.program told um

  agreed_before : IsAgreed d.program (known_by KU) (next_serial w) um w.memory
  agreed_before = replied r.memories

  agreed_now : IsAgreed d.program (known_by KU) (next_serial w') um w'.memory
  agreed_now = follows agreed_before l.follows

  is_served : IsServedIn d.program asked w rs w'
  is_served = record { order = states_hold.order d.program K w r.holds; formed = r.holds.memory.formed; is = is }

  ask_now : IsAsk d.program K asked s
  ask_now = ask_grows d.program KU K r.grows asked s ask

  shown : KeepsShown d.program (next_serial w) (top w.views) (top w2.views) rs w.memory w'.memory
  shown =
      services_keep_sets.shown d.program (touched_by d.plan t) asked w w' rs is_served (names_lock d.program K w r.sound r.holds asked s numbered ask_now)
      (sets_are_open.no_locks d.program (touched_by d.plan t) w.memory (top w.views) (sets_are_open.keys d.program d.plan t right.suited) (λ serial b gl born names. states_hold.typed d.program r.sound K w r.holds serial b gl born names) r.set)

  shared_now : IsShared d.program (known_by (learns KU news)) (next_serial w') (top w2.views) copy w'.memory w'.memory copy
  shared_now =
      subst (λ (known : Serials). IsShared d.program known (next_serial w') (top w2.views) copy w'.memory w'.memory copy) (known_is KU news)
      (agreed_answer d.program (top w2.views) rs w'.memory r.memories l.follows shown)

  grown_now : Grows (learns KU news) K'
  grown_now = news_grow d.program KU K' w' [] rs um (grows_on KU K K' r.grows l.grows) l.holds

  told_known : (serial : ℕ) → is_named rs serial ≡ true → is_some ((learns KU news).blocks serial) ≡ true
  told_known serial named =
      let lives : is_live w'.memory serial ≡ true = named_lives d.program (touched_by d.plan t) asked w w' rs is_served serial named in
      known_block (learns KU news) serial (shared_now.agree.knows serial (grind (arith, live-after d.program [] rs um w'.memory serial, lives, named)))

  set_now : IsSetOf d.program (touched_by d.plan t) w'.memory (top w2.views)
  set_now = services_keep_sets.set d.program (touched_by d.plan t) asked w w' rs is_served r.set

  holds_now : Holds d.program K' w2
  holds_now = with_top d.program K' w' (top w2.views) (below w'.views) (below_live w'.memory w'.views l.holds.views) (sets_are_open.live d.program (touched_by d.plan t) w'.memory (top w2.views) set_now) l.holds

  view_now : grown d t copy news (top w.views) ≡ top w2.views
  view_now =
      ap (λ (cs : List Cell). living copy (top w.views) ++ cs) (same_news d.program (touched_by d.plan t) news)
      ∙ sym (answers_grow_sets.whole d.program (known_by KU) (touched_by d.plan t) asked w w' rs k.agreed k.world.memory um is_served r.memories)

  -- the objects of the upcall itself, as they are counted
  own_before : AreObjects w.memory 0 live
  own_before = objects_behind w.memory 0 outer live r.objects_are

  own_now : AreObjects w'.memory 0 (after s remains rs)
  own_now = objects_behind w'.memory 0 outer (after s remains rs) (subst (AreObjects w'.memory 0) (after_behind s outer remains rs) g.objects)

  count_right : (depth : ℕ) (args : List Wire) → (s ≡ Leave → args ≡ asked.args) → record { func = t; depth = depth; entered = entered_after asked.service args rs (serials_of live) } ≡ open_of t depth (after s remains rs)
  count_right depth args same = ap (λ (ns : List ℕ). record { func = t; depth = depth; entered = ns }) (entered_right d.program w w' asked args s live remains rs numbered own_leaves own_before own_now is same)

  passed_now : s ≡ Leave → map (normal w.memory) asked.args ≡ asked.args
  passed_now e =
      let split : outer ++ live ≡ (outer ++ remains) ++ asked.args = subst (λ (x : Service). Leaves x asked (outer ++ live) (outer ++ remains)) e leaves in
      let behind = later_objects w.memory 0 (outer ++ remains) asked.args (subst (λ (xs : List Wire). AreObjects w.memory 0 xs) split r.objects_are) in
      objects_now w.memory behind.0 asked.args behind.1

  above : (serial : ℕ) → is_named rs serial ≡ true → next_serial w ≤ serial
  above serial named = (what_is_served d.program (touched_by d.plan t) asked w w' rs is_served).above serial named

  joins : (c : Cell) → is_among cells (new_cells d.program (touched_by d.plan t) (next_serial w) w'.memory) c ≡ true → is_in (top w2.views) c ≡ true
  joins c h =
      membership_is_one (top w2.views) c ∙ in_both cells (top w'.views) (new_cells d.program (touched_by d.plan t) (next_serial w) w'.memory) c
      ∙ or_right (is_among cells (top w'.views) c) _ h

  -- no block that a result names was told before
  unknown : (serial : ℕ) → is_named rs serial ≡ true → is_live um serial ≡ false
  unknown serial named = of (is_live um serial) refl
    where
      of : (b : Bool) → is_live um serial ≡ b → is_live um serial ≡ false
      of false e = e
      of true e =
          let below : serial < next_serial w = agreed_before.told serial (agreed_before.knows serial e) in
          let from : next_serial w ≤ serial = above serial named in absurd (omega (arith, below, from))

  -- the blocks that come with the answer are the objects that were born
  coming_right : coming_by (service_numbered asked.service) news ≡ entering_by (service_numbered asked.service) rs
  coming_right =
      ap (λ (o : Option Service). coming_by o news) numbered ∙ of s g.objects ∙ ap (λ (o : Option Service). entering_by o rs) (sym numbered)
    where
      of : (s : Service) → AreObjects w'.memory 0 (after s (outer ++ remains) rs) → coming_by (Some s) news ≡ entering_by (Some s) rs
      of Enter o =
          let behind = later_objects w'.memory 0 (outer ++ remains) rs o in
          news_are_results rs um w'.memory behind.0 l.holds.memory.formed.rises behind.1 (λ serial named. named_lives d.program (touched_by d.plan t) asked w w' rs is_served serial named) unknown
      of Kzalloc o = refl
      of Kcalloc o = refl
      of Kfree o = refl
      of Readl o = refl
      of Writel o = refl
      of Printk o = refl
      of RequestIrq o = refl
      of FreeIrq o = refl
      of Deliver o = refl
      of Combolock o = refl
      of Combounlock o = refl
      of Bug o = refl
      of Leave o = refl

  opened_now : AreOpened d t w2 (fresh_after s asked.shapes rs)
  opened_now = of s ask_now g.served g.objects
    where
      of : (s : Service) → IsAsk d.program K asked s → IsServed d.program K' asked s rs → AreObjects w'.memory 0 (after s (outer ++ remains) rs) → AreOpened d t w2 (fresh_after s asked.shapes rs)
      of Enter h born o =
          let behind = later_objects w'.memory 0 (outer ++ remains) rs o in
          all_opened d t K' w w' w2 (globals_below d.program K w r.holds) l.holds refl joins asked.shapes rs behind.0 behind.1 born h.births above
      of Kzalloc h born o = tt
      of Kcalloc h born o = tt
      of Kfree h born o = tt
      of Readl h born o = tt
      of Writel h born o = tt
      of Printk h born o = tt
      of RequestIrq h born o = tt
      of FreeIrq h born o = tt
      of Deliver h born o = tt
      of Combolock h born o = tt
      of Combounlock h born o = tt
      of Bug h born o = tt
      of Leave h born o = tt

  objects_right : objects_fit (leaving asked.service asked.args) told.deaths (serials_of (outer ++ live)) ≡ true
  unfolding tells
  objects_right = deaths_right d.program KU um w w' asked s (outer ++ live) (outer ++ remains) rs numbered ask leaves r.objects_are g.objects is (λ n known lives. agreed_before.paired n known lives)

  counted_right : entered_behind asked.service told.deaths told.news (serials_of (outer ++ live)) ≡ serials_of (after s (outer ++ remains) rs)
  unfolding entered_behind entered_after tells
  counted_right =
      ap (λ (ns : List ℕ). ns ++ coming_by (service_numbered asked.service) news) (less_same (leaving asked.service asked.args) told.deaths (serials_of (outer ++ live)) objects_right)
      ∙ ap (λ (ns : List ℕ). less (leaving asked.service asked.args) (serials_of (outer ++ live)) ++ ns) coming_right
      ∙ entered_right d.program w w' asked asked.args s (outer ++ live) (outer ++ remains) rs numbered leaves r.objects_are g.objects is (λ e. refl)

  results_now : results_fit asked told.news rs ≡ true
  unfolding tells
  results_now =
      results_right d.program K K' asked asked s w w' rs news r.holds.low numbered ask_now refl refl is g.served
      (births_told w w' rs um (λ serial lives. agreed_before.told serial (agreed_before.knows serial lives)))

  rel_now : Rel d uses budget t K' (learns KU news) (after s (outer ++ remains) rs) (waiting d told um w2 (suc k.exchanges)) w2 copy
  rel_now = record {
    sound = r.sound;
    grows = grown_now;
    uses_are = r.uses_are;
    globals = globals_grow d.program KU (learns KU news) (learns_grows KU news) r.globals;
    holds = holds_now;
    memories = shared_now;
    set = set_now;
    objects_are = g.objects;
    same_lives = refl;
    same_views = refl;
    same_kept = refl;
    clock = still w2;
    total = l.time ∙ r.total;
  }

  rest_now : w'.clock.rest ≡ w.clock.rest
  rest_now = subst (λ (ran : Ran (List Wire)). (left ran).clock.rest ≡ w.clock.rest) is (services_leave.rest d.program asked w)

  pub answered_now : Answered d uses budget t K KU outer live remains um w w2 (suc k.exchanges) asked s rs told K'
  unfolding tells
  answered_now = record {
    grown_too = l.grows;
    lives = lives_pass d.program [] rs um w'.memory agreed_now (blocks_are d.program K' w' l.holds);
    objects = objects_right;
    results = results_now;
    lives_alone = no_cells d rs um w'.memory;
    view = view_now;
    counted_user = counted_right ∙ ap serials_of (after_behind s outer remains rs);
    counted_kernel = λ depth. count_right depth (map (normal w.memory) asked.args) passed_now;
    rest = rest_now;
    given = served_narrows d.program (learns KU news) K' grown_now asked s rs told_known g.served;
    fresh = opened_now;
    rel = subst (λ (xs : List Wire). Rel d uses budget t K' (learns KU news) xs (waiting d told um w2 (suc k.exchanges)) w2 copy) (after_behind s outer remains rs) rel_now;
  }

pub ask_comes : {K : Knowledge} (d : Driver) (uses : Uses) (budget t : ℕ) (KU : Knowledge) (outer live remains : List Wire) (k : Kernel) (w : World) (um : Memory) (asked : Asked) (s : Service) → IsRight d uses → Rel d uses budget t K KU (outer ++ live) k w um
    → service_numbered asked.service ≡ Some s → IsAsk d.program KU asked s → Leaves s asked live remains
    → Comes w (λ rs w'. (K' : Knowledge) × Answered d uses budget t K KU outer live remains (replied_copy k w um) w w' (suc k.exchanges) asked s rs (tells d.program [] rs (replied_copy k w um) w'.memory) K') (serves d (held d) t asked w)
ask_comes {K = K} d uses budget t KU outer live remains k w um asked s right r numbered ask leaves =
    subst (λ (copy : Memory). Comes w (λ rs w'. (K' : Knowledge) × Answered d uses budget t K KU outer live remains copy w w' (suc k.exchanges) asked s rs (tells d.program [] rs copy w'.memory) K') (serves d (held d) t asked w)) (sym (reply_user r.memories))
    (of (served d.program asked w) refl (services_leave.serve d.program r.sound uses K w (r.grows.same ∙ r.uses_are) r.holds 0 (outer ++ live) (outer ++ remains) asked s (omega arith) r.objects_are numbered (ask_grows d.program KU K r.grows asked s ask) (leaves_behind s asked outer live remains leaves)))
  where
    of : (ran : Ran (List Wire)) → served d.program asked w ≡ ran → Leads (Later d.program 0 K w) (GivesServed d.program asked s 0 (outer ++ remains) w) ran
        → Comes w (λ rs w'. (K' : Knowledge) × Answered d uses budget t K KU outer live remains um w w' (suc k.exchanges) asked s rs (tells d.program [] rs um w'.memory) K') (follows_on ran (λ results w'. Ended results (gained d.program (touched_by d.plan t) (next_serial w) w')))
    of _ e (leads_on K' rs w' l g) =
        comes_to rs (gained d.program (touched_by d.plan t) (next_serial w) w') (record { later = l.later; calls = l.calls }) (K', answered_now d uses budget t KU outer live remains k w um asked s right r numbered ask leaves K' rs w' l g e)
    of _ e (leads_out K' kind at w' l) = comes_out kind at w' (record { later = l.later; calls = l.calls })
