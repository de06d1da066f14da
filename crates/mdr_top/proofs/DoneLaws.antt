-- What was done is what is printed, and what is meant.
use Rattle.std.proofs.Common.{◌≡◌, ◌≢◌, ℕ, ◌+◌, ◌*◌, ◌≤◌, length, ◌⊎◌, inl, inr, true, false, List, [], Option, Some, None, refl, sym, ap, ◌∙◌, subst}
use Rattle.std.proofs.lemmas.List.{append-nil}
use Rattle.mdr_due.specs.declared.status.Status.{Status}
use Rattle.mdr_due.specs.declared.status.Status.TheVariants as status
use Rattle.mdr_due.specs.Reads.{longest_source, longest_script}
use Rattle.mdr_exchanges.specs.Meanings.{IsMeant}
use Rattle.mdr_exchanges.specs.Runs.{IsFarFault}
use Rattle.mdr_gen.specs.Generator.{driver_text, lines_from}
use Rattle.mdr_top.proofs.SeedSteps.{told_status}
use Rattle.mdr_top.specs.declared.recipe.Recipe.{Recipe}
use Rattle.mdr_top.specs.Generated.{budget, IsTold}
use Rattle.mdr_top.specs.Generates.{IsGenerated}
use Rattle.mdr_honest.specs.Honest.{IsHonest}
use Rattle.mdr_model.specs.declared.outcome.End.{End}
use Rattle.mdr_model.specs.declared.outcome.End.TheVariants as ends
use Rattle.mdr_outside.specs.Calls.{ShelfCall, Read, and_then}
use Rattle.mdr_outside.specs.declared.shelf.ReadAnswer.TheVariants as reads
use Rattle.mdr_outside.specs.Sides.{FarSide, SinkSide}
use Rattle.mdr_plain.specs.declared.outcome.Outcome.{Outcome}
use Rattle.mdr_watched.specs.Watched.{watched}
use Rattle.mdr_top.specs.declared.manner.Manner.{Manner}
use Rattle.mdr_top.specs.Scripts.{NoScriptOf}
use Rattle.mdr_top.specs.WholeRuns.{RunsOver, Runs, status_of}
use Rattle.mdr_slicer.specs.Slicing.{NoSourceOf}
use Rattle.mdr_top.specs.declared.split_manner.SplitManner.{SplitManner}
use Rattle.mdr_top.specs.Means.{SplitMeans, SplitMeansBy}
use Rattle.mdr_top.specs.SplitRuns.{SplitRuns}
use Rattle.mdr_top.proofs.SplitHonest.{outcome_means, runs_mean}
use Rattle.mdr_top.proofs.Meanings.{own_never}
use Rattle.mdr_top.specs.Answers.{WayDue, RunAnswered, MadeAnswered, Answered, Prints}
use Rattle.mdr_top.specs.Cuts.{IsOfCut}
use Rattle.mdr_top.specs.Done.{RunDone, Done, DonePart, Does}
use Rattle.mdr_top.specs.Headline.{MeansBy, Means}
use Rattle.mdr_top.specs.Made.{MadeMeansBy}
use Rattle.mdr_top.specs.declared.words.Cutting.{Cutting}
use Rattle.mdr_top.specs.declared.words.Way.{Way}
use Rattle.mdr_top.specs.declared.words.Way.TheVariants as way
use Rattle.mdr_top.specs.Sides.{Sides}
use Rattle.mdr_top.specs.Outside.{Outside}
use Rattle.mdr_top.specs.Wholes.{WholeMeansBy, IsOfWhole}
use Rattle.mdr_top.specs.Words.{Inputs, OfFiles, Task, Cut, Run, Generate, Verify, command_of, RunTexts, texts_manner}
use Rattle.mdr_top.specs.Names.{TextNames}
use Rattle.mdr_top.specs.HalvesRuns.{HalvesRuns}
use Rattle.mdr_top.proofs.HalvesHonest.{halves_mean}
use Rattle.mdr_top.specs.Texts.{TextsMeanBy, TextsMean}
use Rattle.mdr_top.specs.Writing.{IsWritten, IsCutOff, TellsFailure}
use Rattle.mdr_top.proofs.CutLaws.{cut_no_run, no_made, no_verify, whole_no_split, unread_so, cut_so, cut_status}
use Rattle.mdr_top.proofs.Headline.{IsEarly, early_sourceless, not_early}
use Rattle.mdr_top.proofs.Pieces.{offers_last, offers_whole}
use Rattle.mdr_top.proofs.SplitLaws.{split_so}
use Rattle.mdr_top.proofs.Statuses.{unread_status}
use Rattle.mdr_top.specs.Verifies.{Verifies}
use Rattle.mdr_top.proofs.VerifyLaws.{verified_so, verified_unrefused}
use Rattle.mdr_top.proofs.TextsLaws.{texts_so, texts_no_run, texts_mean_by}
use Rattle.mdr_top.proofs.WholeLaws.{whole_so, whole_status}

-- ---- what is done

-- words that are seen another way, and a text
pub does_all : (seen words : List (List ℕ)) (before after : Outside) (s : Status) (text offered : List ℕ) → seen ≡ words → offered ≡ text → Done seen before.sides after.sides s text → IsWritten before.out after.out offered → Does words before after s
does_all seen words before after s text offered same is d w = Does.whole text (subst (λ (ws : List (List ℕ)). Done ws before.sides after.sides s text) same d) (subst (IsWritten before.out after.out) is w)

pub does_cut : (seen words : List (List ℕ)) (before after : Outside) (due : Status) (text offered : List ℕ) → seen ≡ words → offered ≡ text → Done seen before.sides after.sides due text → IsCutOff before.out after.out offered → Does words before after status.WriteFault
does_cut seen words before after due text offered same is d c = Does.cut due text refl (subst (λ (ws : List (List ℕ)). Done ws before.sides after.sides due text) same d) (subst (IsCutOff before.out after.out) is c)

pub does_part : (seen words : List (List ℕ)) (before after : Outside) → seen ≡ words → DonePart seen before.sides after.sides → after.out ≡ before.out → Does words before after status.OutOfMemory
does_part seen words before after same d out = Does.nothing refl (subst (λ (ws : List (List ℕ)). DonePart ws before.sides after.sides) same d) out

pub does_wanting : (seen words : List (List ℕ)) (before after : Outside) (s : Status) → s ≡ status.OutOfMemory → seen ≡ words → DonePart seen before.sides after.sides → after.out ≡ before.out → Does words before after s
does_wanting seen words before after s is same d out = subst (λ (t : Status). Does words before after t) (sym is) (does_part seen words before after same d out)

-- ---- what is printed

ran_so : (inputs : Inputs) (in_way : Way) (before after : Sides) (s : Status) (text : List ℕ) → RunDone inputs in_way before after s text → RunAnswered inputs before.shelf.files (WayDue in_way after.far.loaded after.far.exchanges s text) s text
ran_so (OfFiles name script_name) (way.Whole manner) before after s text d = whole_so before.shelf.files name script_name manner before.shelf.calls after.shelf.calls s text d.runs
ran_so (OfFiles name script_name) (way.Split manner) before after s text d = split_so before.shelf.files name script_name manner before.shelf.calls after.shelf.calls before.far after.far s text d

made_so : (recipe : Recipe) (far far' : FarSide) (s : Status) (text : List ℕ) → IsGenerated recipe far far' s text → MadeAnswered recipe far'.loaded far'.exchanges s text
made_so recipe far far' s text g =
    let run = g.over.run in
    record { source = g.source; script = g.over.script; has = g.has; bound = g.over.bound; due = record { plan = run.run.plan; texts = run.run.texts; cut = run.run.cut; outcome = run.outcome; ran = run.run.ran; told = run.told } }

answered_so : (words : List (List ℕ)) (before after : Sides) (s : Status) (text : List ℕ) → Done words before after s text → Answered words before.shelf.files after.far.loaded after.far.exchanges s text
answered_so words before after s text (Done.usage e same is t) = Answered.usage e is t
answered_so words before after s text (Done.cut how name e d f) = Answered.cut how name e (cut_so how before.shelf.files after.shelf.files name before.shelf.calls after.shelf.calls s text d)
answered_so words before after s text (Done.ran inputs in_way e kept runs) = Answered.ran inputs in_way e (ran_so inputs in_way before after s text runs)
answered_so words before after s text (Done.made recipe e d) = Answered.made recipe e (made_so recipe before.far after.far s text d.generates)
answered_so words before after s text (Done.verified name script_name transcript_name e same kept v) =
    Answered.verified name script_name transcript_name e (verified_so before.shelf.files name script_name transcript_name before.shelf.calls after.shelf.calls s text v)
answered_so words before after s text (Done.texts names script_name e kept runs) = Answered.texts names script_name e (texts_so before.shelf.files names script_name before.shelf.calls after.shelf.calls before.far after.far s text runs)

pub prints_so : (words : List (List ℕ)) (before after : Outside) (s : Status) → Does words before after s → Prints words before after s
prints_so words before after s (Does.whole text d w) = Prints.whole text (answered_so words before.sides after.sides s text d) w
prints_so words before after s (Does.cut due text is d c) = Prints.cut due text is (answered_so words before.sides after.sides due text d) c
prints_so words before after s (Does.nothing is d same) = Prints.nothing is same

-- ---- calls of the output that fail

pub does_tell : (words : List (List ℕ)) (before after : Outside) (s : Status) → Does words before after s → TellsFailure before.out.calls after.out.calls s
does_tell words before after s (Does.whole text d w) = record { made = w.made; called = w.called; failed = λ any. absurd (offers_whole text w.made true refl w.offered any); last = offers_last text w.made true w.offered }
does_tell words before after s (Does.cut due text is d c) = record { made = c.made; called = c.called; failed = λ any. is; last = offers_last text c.made false c.offered }
does_tell words before after s (Does.nothing is d same) = record { made = []; called = ap (λ (o : SinkSide). o.calls) same ∙ sym (append-nil before.out.calls); failed = λ any. absurd any; last = tt }

-- ---- what is meant over the two halves

module _ (words : List (List ℕ)) (before after : Outside) (s : Status) where
  abbrev MeansIt : Type 0
  MeansIt = Means words before after s

  early_means : IsEarly s → MeansIt
  early_means early = record { never = λ e. subst IsEarly e early; means = λ source_name script_name manner named is. absurd (not_early s early is) }

  cut_means : (how : Cutting) (name : List ℕ) → command_of words ≡ Some (Cut how name) → IsOfCut s → MeansIt
  cut_means how name e own = record { never = λ is. subst IsOfCut is own; means = λ source_name script_name manner named is. absurd (cut_no_run (command_of words) how name (OfFiles source_name script_name) (way.Split manner) e named) }

  whole_means : (inputs : Inputs) (manner : Manner) → command_of words ≡ Some (Run inputs (way.Whole manner)) → IsOfWhole s → MeansIt
  whole_means inputs manner e own = record { never = λ is. subst IsOfWhole is own; means = λ source_name script_name manner' named is. absurd (whole_no_split (command_of words) inputs (OfFiles source_name script_name) manner manner' e named) }

  -- what a run over an honest far side means is printed
  split_means_by : (text : List ℕ) → IsWritten before.out after.out text → (name script_name : List ℕ) (manner : SplitManner) → command_of words ≡ Some (Run (OfFiles name script_name) (way.Split manner)) → SplitMeansBy before.sides.shelf.files name script_name manner before.sides.shelf.calls after.sides.shelf.calls after.sides.far.loaded after.sides.far.exchanges s text
      → MeansBy words before after s
  split_means_by text adds name script_name manner e m = record {
    source = m.source;
    script = m.script;
    manner = manner;
    accepted = record {
      source_name = name;
      script_name = script_name;
      command = e;
      bytes = m.source_is.bytes;
      source_read = m.source_is.read.told;
      compiled = m.source_is.has.comes;
      lines = m.script_is.bytes;
      script_read = m.script_is.read.told;
      bound = m.script_is.has;
    };
    sound = m.source_is.has.sound;
    read = m.script_is.read.called ∙ ap (λ (xs : List ShelfCall). and_then xs (Read script_name longest_script (reads.Ok m.script_is.bytes))) m.source_is.read.called;
    plan = m.plan;
    texts = m.texts;
    cut = m.cut;
    held = m.held;
    text = m.report;
    printed = subst (IsWritten before.out after.out) m.shown adds;
    meaning = m.meaning;
    same = m.same;
  }

  split_means : (text : List ℕ) → IsWritten before.out after.out text → (name script_name : List ℕ) (manner : SplitManner) → command_of words ≡ Some (Run (OfFiles name script_name) (way.Split manner)) → SplitRuns before.sides.shelf.files name script_name manner before.sides.shelf.calls after.sides.shelf.calls before.sides.far after.sides.far s text → IsHonest after.sides.far.loaded after.sides.far.exchanges → MeansIt
  split_means text adds name script_name manner e runs honest =
      let m : SplitMeans before.sides.shelf.files name script_name manner before.sides.shelf.calls after.sides.shelf.calls after.sides.far.loaded after.sides.far.exchanges s text =
      runs_mean before.sides.shelf.files name script_name manner before.sides.shelf.calls after.sides.shelf.calls before.sides.far after.sides.far s text runs honest in
      record { never = m.never; means = λ source_name other_name other_manner named is. split_means_by text adds name script_name manner e (m.means is) }

  ran_means : (text : List ℕ) → IsWritten before.out after.out text → (inputs : Inputs) (in_way : Way) → command_of words ≡ Some (Run inputs in_way) → RunDone inputs in_way before.sides after.sides s text → IsHonest after.sides.far.loaded after.sides.far.exchanges → MeansIt
  ran_means text adds (OfFiles name script_name) (way.Whole manner) e runs honest =
      whole_means (OfFiles name script_name) manner e (whole_status before.sides.shelf.files name script_name manner before.sides.shelf.calls after.sides.shelf.calls s text runs.runs)
  ran_means text adds (OfFiles name script_name) (way.Split manner) e runs honest = split_means text adds name script_name manner e runs honest

  -- over an honest far side no answer is refused
  made_never : (recipe : Recipe) (text : List ℕ) → IsGenerated recipe before.sides.far after.sides.far s text → IsHonest after.sides.far.loaded after.sides.far.exchanges → s ≢ status.Marshal
  made_never recipe text g honest = λ e. never
      (outcome_means driver_text (lines_from recipe.seed recipe.size) g.source g.over.run.run.plan g.over.run.run.texts g.over.script budget after.sides.far.exchanges g.has g.over.bound g.over.run.run.cut after.sides.far.loaded g.over.run.outcome honest g.over.run.run.ran)
      (sym (told_status recipe g.source.program after.sides.far.exchanges g.over.run.outcome s text g.over.run.told) ∙ e)
    where
      fails : (end : End) → IsFarFault end → status_of end ≡ status.Marshal → ⊥
      fails ends.Ok f is = f
      fails (ends.Stop kind at) f is = f
      fails (ends.Refused exchange cause number) f is = f
      fails (ends.FarFault exchange) f is = Prim.cc

      never : IsFarFault g.over.run.outcome.end ⊎ IsMeant g.source.program g.over.run.run.plan g.over.script budget after.sides.far.exchanges g.over.run.outcome → status_of g.over.run.outcome.end ≡ status.Marshal → ⊥
      never (inl f) is = fails g.over.run.outcome.end f is
      never (inr m) is = own_never g.over.run.outcome.end m.own is

  made_means : (recipe : Recipe) (text : List ℕ) → command_of words ≡ Some (Generate recipe) → IsGenerated recipe before.sides.far after.sides.far s text → IsHonest after.sides.far.loaded after.sides.far.exchanges → MeansIt
  made_means recipe text e made honest = record { never = made_never recipe text made honest; means = λ source_name script_name manner named is. absurd (no_made (command_of words) recipe (OfFiles source_name script_name) (way.Split manner) e named) }

  verify_means : (text name script_name transcript_name : List ℕ) → command_of words ≡ Some (Verify name script_name transcript_name) → Verifies before.sides.shelf.files name script_name transcript_name before.sides.shelf.calls after.sides.shelf.calls s text → MeansIt
  verify_means text name script_name transcript_name e v = record {
    never = verified_unrefused before.sides.shelf.files name script_name transcript_name before.sides.shelf.calls after.sides.shelf.calls s text v;
    means = λ source_name other_name manner named is. absurd (no_verify (command_of words) name script_name transcript_name (OfFiles source_name other_name) (way.Split manner) e named);
  }

  -- from texts no reply is refused
  texts_mean : (text : List ℕ) (names : TextNames) (script_name : List ℕ) → command_of words ≡ Some (RunTexts names script_name) → HalvesRuns before.sides.shelf.files names script_name texts_manner before.sides.shelf.calls after.sides.shelf.calls before.sides.far after.sides.far s text → IsHonest after.sides.far.loaded after.sides.far.exchanges → MeansIt
  texts_mean text names script_name e runs honest = record {
    never = (halves_mean before.sides.shelf.files names script_name texts_manner before.sides.shelf.calls after.sides.shelf.calls before.sides.far after.sides.far s text runs honest).never;
    means = λ source_name other_name manner named is. absurd (texts_no_run (command_of words) names script_name (OfFiles source_name other_name) (way.Split manner) e named);
  }

  pub does_mean : Does words before after s → IsHonest after.sides.far.loaded after.sides.far.exchanges → MeansIt
  does_mean (Does.cut due text e d c) honest = early_means (subst IsEarly (sym e) tt)
  does_mean (Does.nothing e d same) honest = early_means (subst IsEarly (sym e) tt)
  does_mean (Does.whole text (Done.usage e same is t) w) honest = early_means (subst IsEarly (sym is) tt)
  does_mean (Does.whole text (Done.cut how name e d f) w) honest = cut_means how name e (cut_status how before.sides.shelf.files after.sides.shelf.files name before.sides.shelf.calls after.sides.shelf.calls s text d)
  does_mean (Does.whole text (Done.ran inputs in_way e kept runs) w) honest = ran_means text w inputs in_way e runs honest
  does_mean (Does.whole text (Done.made recipe e d) w) honest = made_means recipe text e d.generates honest
  does_mean (Does.whole text (Done.verified name script_name transcript_name e same kept v) w) honest = verify_means text name script_name transcript_name e v
  does_mean (Does.whole text (Done.texts names script_name e kept runs) w) honest = texts_mean text names script_name e runs honest

-- ---- what is meant on one memory

no_whole : (command : Option Task) (inputs : Inputs) (in_way : Way) → command ≡ Some (Run inputs in_way) → command ≡ None → ⊥
no_whole command inputs in_way e f = Prim.cc

module _ (words : List (List ℕ)) (before after : Outside) (s : Status) (text : List ℕ) (adds : IsWritten before.out after.out text) (name script_name : List ℕ) (manner : Manner) (e : command_of words ≡ Some (Run (OfFiles name script_name) (way.Whole manner))) where
  -- what ran is what is meant
  runs_mean_whole : Runs before.sides.shelf.files name script_name manner before.sides.shelf.calls after.sides.shelf.calls s text → (s ≡ status.Done) ⊎ (s ≡ status.Stopped) → WholeMeansBy words before after s
  runs_mean_whole (Runs.no_source (NoSourceOf.unread u)) is = absurd (not_early s (unread_status IsEarly early_sourceless before.sides.shelf.files s text name longest_source (unread_so before.sides.shelf.files name longest_source before.sides.shelf.calls after.sides.shelf.calls s text u)) is)
  runs_mean_whole (Runs.no_source (NoSourceOf.refused bytes read n)) is = absurd (not_early s (subst IsEarly (sym n.status_is) tt) is)
  runs_mean_whole (Runs.sourced source between read (RunsOver.no_script (NoScriptOf.unread u))) is = absurd (not_early s (unread_status IsEarly early_sourceless before.sides.shelf.files s text script_name longest_script (unread_so before.sides.shelf.files script_name longest_script between after.sides.shelf.calls s text u)) is)
  runs_mean_whole (Runs.sourced source between read (RunsOver.no_script (NoScriptOf.refused lines told n))) is = absurd (not_early s (subst IsEarly (sym n.status_is) tt) is)
  runs_mean_whole (Runs.sourced source between read (RunsOver.ran script given run')) is = record {
    source = source;
    script = script;
    manner = manner;
    accepted = record { source_name = name; script_name = script_name; command = e; bytes = read.bytes; source_read = read.read.told; compiled = read.has.comes; lines = given.bytes; script_read = given.read.told; bound = given.has };
    sound = read.has.sound;
    read = given.read.called ∙ ap (λ (xs : List ShelfCall). and_then xs (Read script_name longest_script (reads.Ok given.bytes))) read.read.called;
    text = text;
    printed = adds;
    meaning = run';
  }

module _ (words : List (List ℕ)) (before after : Outside) (s : Status) (source_name script_name : List ℕ) (manner : Manner) (named : command_of words ≡ Some (Run (OfFiles source_name script_name) (way.Whole manner))) where
  ran_on_one : (text : List ℕ) → IsWritten before.out after.out text → (s ≡ status.Done) ⊎ (s ≡ status.Stopped) → (inputs : Inputs) (in_way : Way) → command_of words ≡ Some (Run inputs in_way) → RunDone inputs in_way before.sides after.sides s text → WholeMeansBy words before after s
  ran_on_one text adds is (OfFiles name other) (way.Whole other_manner) e runs = runs_mean_whole words before after s text adds name other other_manner e runs.runs is
  ran_on_one text adds is (OfFiles name other) (way.Split other_manner) e runs = absurd (whole_no_split (command_of words) (OfFiles source_name script_name) (OfFiles name other) manner other_manner named e)

  done_means : (text : List ℕ) → IsWritten before.out after.out text → (s ≡ status.Done) ⊎ (s ≡ status.Stopped) → Done words before.sides after.sides s text → WholeMeansBy words before after s
  done_means text adds is (Done.usage e same st t) = absurd (no_whole (command_of words) (OfFiles source_name script_name) (way.Whole manner) named e)
  done_means text adds is (Done.cut how name e d f) = absurd (cut_no_run (command_of words) how name (OfFiles source_name script_name) (way.Whole manner) e named)
  done_means text adds is (Done.ran inputs in_way e kept runs) = ran_on_one text adds is inputs in_way e runs
  done_means text adds is (Done.made recipe e d) = absurd (no_made (command_of words) recipe (OfFiles source_name script_name) (way.Whole manner) e named)
  done_means text adds is (Done.verified name other transcript_name e same kept v) = absurd (no_verify (command_of words) name other transcript_name (OfFiles source_name script_name) (way.Whole manner) e named)
  done_means text adds is (Done.texts names other e kept runs) = absurd (texts_no_run (command_of words) names other (OfFiles source_name script_name) (way.Whole manner) e named)

  pub does_run : Does words before after s → (s ≡ status.Done) ⊎ (s ≡ status.Stopped) → WholeMeansBy words before after s
  does_run (Does.whole text d w) is = done_means text w is d
  does_run (Does.cut due text e d c) is = absurd (not_early s (subst IsEarly (sym e) tt) is)
  does_run (Does.nothing e d same) is = absurd (not_early s (subst IsEarly (sym e) tt) is)

-- ---- what is meant of a seed

other_word : (command : Option Task) (recipe : Recipe) → command ≡ Some (Generate recipe) → command ≡ None → ⊥
other_word command recipe e f = Prim.cc

other_cut : (command : Option Task) (recipe : Recipe) (how : Cutting) (name : List ℕ) → command ≡ Some (Generate recipe) → command ≡ Some (Cut how name) → ⊥
other_cut command recipe how name e f = Prim.cc

other_verify : (command : Option Task) (recipe : Recipe) (name script_name transcript_name : List ℕ) → command ≡ Some (Generate recipe) → command ≡ Some (Verify name script_name transcript_name) → ⊥
other_verify command recipe name script_name transcript_name e f = Prim.cc

other_texts : (command : Option Task) (recipe : Recipe) (names : TextNames) (script_name : List ℕ) → command ≡ Some (Generate recipe) → command ≡ Some (RunTexts names script_name) → ⊥
other_texts command recipe names script_name e f = Prim.cc

failed_never : (end : End) (s : Status) → IsFarFault end → s ≡ status_of end → (s ≡ status.Done) ⊎ (s ≡ status.Stopped) → ⊥
failed_never ends.Ok s f so is = f
failed_never (ends.Stop kind at) s f so is = f
failed_never (ends.Refused exchange cause number) s f so is = f
failed_never (ends.FarFault exchange) s f so (inl is) = let no : status.FarFault ≡ status.Done = sym so ∙ is in Prim.cc
failed_never (ends.FarFault exchange) s f so (inr is) = let no : status.FarFault ≡ status.Stopped = sym so ∙ is in Prim.cc

module _ (words : List (List ℕ)) (before after : Outside) (s : Status) (honest : IsHonest after.sides.far.loaded after.sides.far.exchanges) (is : (s ≡ status.Done) ⊎ (s ≡ status.Stopped)) where
  made_by : (text : List ℕ) → IsWritten before.out after.out text → (recipe : Recipe) → command_of words ≡ Some (Generate recipe) → IsGenerated recipe before.sides.far after.sides.far s text → MadeMeansBy words before after s
  made_by text adds recipe e g =
      of (outcome_means driver_text (lines_from recipe.seed recipe.size) g.source g.over.run.run.plan g.over.run.run.texts g.over.script budget after.sides.far.exchanges g.has g.over.bound g.over.run.run.cut after.sides.far.loaded g.over.run.outcome honest g.over.run.run.ran)
    where
      of : IsFarFault g.over.run.outcome.end ⊎ IsMeant g.source.program g.over.run.run.plan g.over.script budget after.sides.far.exchanges g.over.run.outcome → MadeMeansBy words before after s
      of (inl f) = absurd (failed_never g.over.run.outcome.end s f (told_status recipe g.source.program after.sides.far.exchanges g.over.run.outcome s text g.over.run.told) is)
      of (inr m) = record {
        recipe = recipe;
        command = e;
        source = g.source;
        script = g.over.script;
        has = g.has;
        bound = g.over.bound;
        plan = g.over.run.run.plan;
        texts = g.over.run.run.texts;
        cut = g.over.run.run.cut;
        text = text;
        printed = adds;
        told = subst (λ (o : Outcome). IsTold recipe g.source.program after.sides.far.exchanges o s text) m.outcome g.over.run.told;
        messages = subst (λ (o : Outcome). 2 * length after.sides.far.exchanges ≤ 8 * o.ticks + 6 * (watched g.source.program g.over.run.run.plan g.over.script budget).world.kept.calls) m.outcome m.messages;
        fewer = λ nothing. subst (λ (o : Outcome). 2 * length after.sides.far.exchanges ≤ 4 * o.ticks + 6 * (watched g.source.program g.over.run.run.plan g.over.script budget).world.kept.calls) m.outcome (m.fewer nothing);
      }

  done_made : (text : List ℕ) → IsWritten before.out after.out text → (recipe : Recipe) → command_of words ≡ Some (Generate recipe) → Done words before.sides after.sides s text → MadeMeansBy words before after s
  done_made text adds recipe named (Done.usage e same st t) = absurd (other_word (command_of words) recipe named e)
  done_made text adds recipe named (Done.cut how name e d f) = absurd (other_cut (command_of words) recipe how name named e)
  done_made text adds recipe named (Done.ran inputs in_way e kept runs) = absurd (no_made (command_of words) recipe inputs in_way named e)
  done_made text adds recipe named (Done.made other e d) = made_by text adds other e d.generates
  done_made text adds recipe named (Done.texts names script_name e kept runs) = absurd (other_texts (command_of words) recipe names script_name named e)
  done_made text adds recipe named (Done.verified name script_name transcript_name e same kept v) = absurd (other_verify (command_of words) recipe name script_name transcript_name named e)

  pub does_made : (recipe : Recipe) → command_of words ≡ Some (Generate recipe) → Does words before after s → MadeMeansBy words before after s
  does_made recipe named (Does.whole text d w) = done_made text w recipe named d
  does_made recipe named (Does.cut due text e d c) = absurd (not_early s (subst IsEarly (sym e) tt) is)
  does_made recipe named (Does.nothing e d same) = absurd (not_early s (subst IsEarly (sym e) tt) is)

-- ---- what is meant from texts

module _ (words : List (List ℕ)) (before after : Outside) (s : Status) (honest : IsHonest after.sides.far.loaded after.sides.far.exchanges) (names : TextNames) (script_name : List ℕ) (named : command_of words ≡ Some (RunTexts names script_name)) where
  texts_done : (text : List ℕ) → IsWritten before.out after.out text → (s ≡ status.Done) ⊎ (s ≡ status.Stopped) → Done words before.sides after.sides s text → TextsMeanBy words before after s
  texts_done text adds is (Done.usage e same st t) = absurd (no_texts (command_of words) named e)
    where
      no_texts : (command : Option Task) → command ≡ Some (RunTexts names script_name) → command ≡ None → ⊥
      no_texts command p q = Prim.cc
  texts_done text adds is (Done.cut how name e d f) = absurd (no_texts (command_of words) named e)
    where
      no_texts : (command : Option Task) → command ≡ Some (RunTexts names script_name) → command ≡ Some (Cut how name) → ⊥
      no_texts command p q = Prim.cc
  texts_done text adds is (Done.ran inputs in_way e kept runs) = absurd (texts_no_run (command_of words) names script_name inputs in_way named e)
  texts_done text adds is (Done.made recipe e d) = absurd (other_texts (command_of words) recipe names script_name e named)
  texts_done text adds is (Done.verified name other transcript_name e same kept v) = absurd (no_texts (command_of words) named e)
    where
      no_texts : (command : Option Task) → command ≡ Some (RunTexts names script_name) → command ≡ Some (Verify name other transcript_name) → ⊥
      no_texts command p q = Prim.cc
  texts_done text adds is (Done.texts names' other e kept runs) =
      texts_mean_by words before after s text names' other e adds ((halves_mean before.sides.shelf.files names' other texts_manner before.sides.shelf.calls after.sides.shelf.calls before.sides.far after.sides.far s text runs honest).means is)

  does_texts : Does words before after s → (s ≡ status.Done) ⊎ (s ≡ status.Stopped) → TextsMeanBy words before after s
  does_texts (Does.whole text d w) is = texts_done text w is d
  does_texts (Does.cut due text e d c) is = absurd (not_early s (subst IsEarly (sym e) tt) is)
  does_texts (Does.nothing e d same) is = absurd (not_early s (subst IsEarly (sym e) tt) is)

pub texts_are_meant : (words : List (List ℕ)) (before after : Outside) (s : Status) → Does words before after s → TextsMean words before after s
texts_are_meant words before after s does honest names script_name named is = does_texts words before after s honest names script_name named does is
