-- What a message tells, whatever code of the kernel half left: the user half accepts it, and both sides have the set's cells then.
use Rattle.std.proofs.Common.{◌≡◌, ℕ, Bool, true, false, cond, not, ◌&&◌, ◌||◌, List, Option, Some, None, refl, sym, ◌∙◌, ap, subst, arith}
use mathlib.Core.Path.{fun_ext}
use Rattle.std.specs.Prelude.{is_some, unwrap_or}
use Rattle.mdr_core.specs.declared.program.Program.{Program}
use Rattle.mdr_core.specs.declared.types.Shape.{Shape}
use Rattle.mdr_core.specs.Layout.{Leaf}
use Rattle.mdr_extents.specs.Reaching.{counts}
use Rattle.mdr_holds.proofs.Fitting.{fits_narrows, some_is}
use Rattle.mdr_holds.proofs.Memories.{born_live}
use Rattle.mdr_holds.proofs.States.{blocks_are, states_hold}
use Rattle.mdr_holds.specs.Holding.{Holds}
use Rattle.mdr_meaning.proofs.GrowthLaws.{globals_grow}
use Rattle.mdr_meaning.specs.declared.wire.Wire.{Wire}
use Rattle.mdr_meaning.specs.declared.wire.Wire.TheVariants as wire
use Rattle.mdr_meaning.specs.Fit.{Fits, Grows, Knowledge, KnowsGlobals}
use Rattle.mdr_meaning.specs.Within.{Uses}
use Rattle.mdr_model.specs.declared.memory.Cell.{Cell}
use Rattle.mdr_model.specs.declared.message.New.{New}
use Rattle.mdr_model.specs.declared.message.Told.{Told}
use Rattle.mdr_model.proofs.AgreedMessages.{born_at-begun, is_named_now, live-begun, message, news_at-told, placed, tellable}
use Rattle.mdr_model.proofs.LifeTests.{lives_pass}
use Rattle.mdr_model.proofs.Tests.{and_both}
use Rattle.mdr_model.specs.Agreement.{IsAgreed, IsKnown, IsShared, IsShown, Serials, is_told, learnt, news_at}
use Rattle.mdr_model.specs.Copies.{agreed_after, begun_copy, changed_cells, held, left_of, tells, told_news}
use Rattle.mdr_model.specs.Memory.{Memory, born_at, cell_at, is_live}
use Rattle.mdr_model.specs.Sets.{cells_of_runs, is_in, runs_of_cells}
use Rattle.mdr_model.specs.User.{lives_fit, renewed_copy}
use Rattle.mdr_plain.specs.Storage.{next_serial}
use Rattle.mdr_plain.specs.World.{World}
use Rattle.mdr_serves.proofs.Known.{known_some}
use Rattle.mdr_serves.proofs.Relations.{IsRight, known_by, learns, learns_grows, or_new}
use Rattle.mdr_serves.proofs.ShownCells.{IsShownCell, shown_cell}
use Rattle.mdr_shows.proofs.Accesses.{held_known}
use Rattle.mdr_shows.proofs.Copied.{sets_are_copied}
use Rattle.mdr_shows.proofs.Runs.{by_next, runs_are_sets}
use Rattle.mdr_shows.specs.Cells.{IsSetOf}
use Rattle.mdr_split.proofs.FitLaws.{IsPaired, Judges, cell_fits}
use Rattle.mdr_split.proofs.RunLaws.{IsTellable, message_runs_right}
use Rattle.mdr_split.specs.Fits.{fits}
use Rattle.mdr_split.specs.Legal.{fits_leaf}
use Rattle.mdr_split.specs.User.{cells_fit, user_places, view_fits}
use Rattle.mdr_watched.specs.Driver.{Driver, touched_by}

-- ---- what the user half has learnt

known_at : (KU : Knowledge) (news : List New) (serial : ℕ) → known_by (learns KU news) serial ≡ learnt (known_by KU) news serial
unfolding known_by learnt is_told
known_at KU news serial = of (KU.blocks serial) (news_at news serial)
  where
    of : (o : Option Shape) (n : Option New) → is_some (or_new o n) ≡ (is_some o || is_some n)
    of (Some shape) n = refl
    of None (Some n) = refl
    of None None = refl

pub known_is : (KU : Knowledge) (news : List New) → learnt (known_by KU) news ≡ known_by (learns KU news)
known_is KU news = fun_ext (λ serial. sym (known_at KU news serial))

pub shape_known : (KU : Knowledge) (serial : ℕ) (shape : Shape) → KU.blocks serial ≡ Some shape → known_by KU serial ≡ true
unfolding known_by
shape_known KU serial shape e = ap (λ (o : Option Shape). is_some o) e

held_value : (m : Memory) (c : Cell) (v : Wire) → cell_at m c ≡ Some v → held m c ≡ v
unfolding held
held_value m c v e = ap (λ (o : Option Wire). unwrap_or o wire.NoValue) e

-- a block that is told is one of the run, as it was born
pub news_born : (view : List Cell) (values : List Wire) (copy m : Memory) (serial : ℕ) (n : New) → news_at (told_news view values copy m) serial ≡ Some n → born_at m serial ≡ Some n
news_born view values copy m serial n e = of (not (is_live (left_of copy m) serial) && is_named_now view values copy m serial) (sym (news_at-told view values copy m serial) ∙ e)
  where
    of : (b : Bool) → cond b (born_at m serial) None ≡ Some n → born_at m serial ≡ Some n
    of true h = h
    of false h = absurd cc

-- what is told was born
pub news_grow : (program : Program) (KU K : Knowledge) (w : World) (view : List Cell) (values : List Wire) (copy : Memory) → Grows KU K → Holds program K w → Grows (learns KU (told_news view values copy w.memory)) K
news_grow program KU K w view values copy grows holds =
    record { stays = λ serial shape e. stays serial shape (KU.blocks serial) refl (news_at (told_news view values copy w.memory) serial) refl e; same = grows.same }
  where
    stays : (serial : ℕ) (shape : Shape) (o : Option Shape) → KU.blocks serial ≡ o → (n : Option New) → news_at (told_news view values copy w.memory) serial ≡ n → or_new o n ≡ Some shape → K.blocks serial ≡ Some shape
    stays serial shape (Some x) p n q e = grows.stays serial shape (p ∙ e)
    stays serial shape None p (Some n) q e = holds.memory.known serial n (news_born view values copy w.memory serial n q) ∙ e
    stays serial shape None p None q e = absurd cc

-- what a message tells, where the user half knows KU and has a copy, and the run stands in w with this set
pub record Tells (d : Driver) (t : ℕ) (KU K : Knowledge) (copy : Memory) (w : World) (view : List Cell) (told : Told) : Type 0 where
  pub lives : lives_fit d.program copy told.deaths told.news ≡ true
  pub grows : Grows (learns KU told.news) K
  pub judges : Judges (user_places d (renewed_copy d.program told.deaths told.news copy)) (learns KU told.news) w.memory
  pub cells : cells_fit d t (renewed_copy d.program told.deaths told.news copy) told.view told.runs ≡ true
  pub back : cells_of_runs told.view ≡ view
  pub globals : KnowsGlobals d.program (learns KU told.news)
  pub shared : IsShared d.program (known_by (learns KU told.news)) (next_serial w) view (agreed_after d.program told copy) w.memory w.memory (agreed_after d.program told copy)

module _ (d : Driver) (uses : Uses) (t : ℕ) (KU K : Knowledge) (copy : Memory) (w : World) (view : List Cell) (values : List Wire) (right : IsRight d uses) (grows : Grows KU K) (uses_are : KU.uses ≡ uses) (globals : KnowsGlobals d.program KU) (holds : Holds d.program K w) (agreed : IsAgreed d.program (known_by KU) (next_serial w) copy w.memory) (set : IsSetOf d.program (touched_by d.plan t) w.memory view) (shown : IsShown view values copy w.memory) where
  abbrev m : Memory
  m = w.memory

  abbrev news : List New
  news = told_news view values copy m

  abbrev begun : Memory
  begun = begun_copy d.program view values copy m

  grown : Grows (learns KU news) K
  grown = news_grow d.program KU K w view values copy grows holds

  shared_after : IsShared d.program (known_by (learns KU news)) (next_serial w) view (agreed_after d.program (tells d.program view values copy m) copy) m m (agreed_after d.program (tells d.program view values copy m) copy)
  shared_after =
      subst (λ (known : Serials). IsShared d.program known (next_serial w) view (agreed_after d.program (tells d.program view values copy m) copy) m m (agreed_after d.program (tells d.program view values copy m) copy)) (known_is KU news)
      (message d.program view values copy m agreed shown)

  -- a block that is known then, and lives, is in the copy once the births of the message are in it
  begun_live : (serial : ℕ) → known_by (learns KU news) serial ≡ true → is_live m serial ≡ true → is_live begun serial ≡ true
  unfolding known_by is_told
  begun_live serial known lives = of (KU.blocks serial) refl (news_at news serial) refl known
    where
      of : (o : Option Shape) → KU.blocks serial ≡ o → (n : Option New) → news_at news serial ≡ n → is_some (or_new o n) ≡ true → is_live begun serial ≡ true
      of (Some shape) p n q h =
          let copied : is_live copy serial ≡ true = agreed.paired serial (ap (λ (x : Option Shape). is_some x) p) lives in
          live-begun d.program view values copy m serial ∙ grind (arith, lives, copied)
      of None p (Some n) q h = grind (arith, live-begun d.program view values copy m serial, news_at-told view values copy m serial, lives, q)
      of None p None q h = absurd cc

  begun_born : (serial : ℕ) (b : New) → is_live begun serial ≡ true → born_at m serial ≡ Some b → born_at begun serial ≡ Some b
  begun_born serial b lives born = born_at-begun d.program view values copy m serial (agreed.born serial) lives ∙ born

  judging : Judges (user_places d begun) (learns KU news) m
  judging = record {
    sound = right.driver.sound;
    pairs = λ serial shape known lives. pairs serial shape known lives (born_live m serial lives);
    passes = λ f taken. refl;
  }
    where
      pairs : (serial : ℕ) (shape : Shape) → (learns KU news).blocks serial ≡ Some shape → is_live m serial ≡ true → (b : New) × (born_at m serial ≡ Some b) → IsPaired (user_places d begun) serial shape
      pairs serial shape known lives b =
          let there : is_live begun serial ≡ true = begun_live serial (shape_known (learns KU news) serial shape known) lives in
          record { paired = there; block = b.0; born = begun_born serial b.0 there b.1; shaped = some_is (sym (holds.memory.known serial b.0 b.1) ∙ grown.stays serial shape known) }

  -- each cell that changed may be told
  tellables : (c : Cell) → is_in (changed_cells view begun m) c ≡ true → IsTellable (user_places d begun) view m c
  tellables c changed =
      let inside : is_in view c ≡ true = (tellable d.program view values copy m agreed shown).inside c changed in
      of inside (shown_cell d.program d.plan t K m view right.suited (states_hold.typed d.program right.driver.sound K w holds) holds.memory set c inside)
    where
      of : is_in view c ≡ true → IsShownCell d.program K m c → IsTellable (user_places d begun) view m c
      of inside x =
          let value : held m c ≡ x.value = held_value m c x.value x.held in
          let known : IsKnown (known_by (learns KU news)) x.value = (held_known d.program (known_by (learns KU news)) (next_serial w) view (agreed_after d.program (tells d.program view values copy m) copy) m m (agreed_after d.program (tells d.program view values copy m) copy) shared_after) c x.value inside x.held in
          let fitting : Fits d.program (learns KU news) x.leaf.type x.value =
          fits_narrows d.program (learns KU news) K grown x.leaf.type x.value (λ q is. known_some (learns KU news) q (subst (λ (v : Wire). IsKnown (known_by (learns KU news)) v) is known)) x.fits in
          let fit : fits (user_places d begun) x.leaf.type (held m c) ≡ true = cell_fits judging holds.memory.formed x.leaf.type c (subst (λ (v : Wire). Fits d.program (learns KU news) x.leaf.type v) (sym value) fitting) in
          record {
            inside = inside;
            block = x.block;
            born = begun_born c.serial x.block (begun_cell c inside) x.born;
            fit = ap (λ (o : Option Leaf). fits_leaf (fits (user_places d begun)) o (held m c)) x.there ∙ fit;
          }
        where
          begun_cell : (c : Cell) → is_in view c ≡ true → is_live begun c.serial ≡ true
          begun_cell c inside = placed d.program view values copy m c agreed shown inside

  shows : view_fits d.program (touched_by d.plan t) begun (runs_of_cells view) ≡ true
  unfolding view_fits
  shows =
      and_both _ _ (runs_are_sets.rise view set.rises)
      (runs_are_sets.each (counts d.program (touched_by d.plan t) begun) view (λ c inside. (sets_are_copied.message d.program (known_by KU) (next_serial w) (touched_by d.plan t) view values copy m agreed shown set).counted c inside))

  -- the user half accepts the message, and both sides have the cells of the set then
  pub telling_fits : Tells d t KU K copy w view (tells d.program view values copy m)
  unfolding tells begun_copy left_of
  telling_fits = record {
    lives = lives_pass d.program view values copy m agreed (blocks_are d.program K w holds);
    grows = grown;
    judges = judging;
    cells = and_both _ _ shows (message_runs_right d begun view begun m (by_next view set.rises) tellables);
    back = runs_are_sets.back view;
    globals = globals_grow d.program KU (learns KU news) (learns_grows KU news) globals;
    shared = shared_after;
  }
