-- What a run from texts over an honest far side is reported as.
use Rattle.std.proofs.Common.{◌≡◌, ℕ, ◌⊎◌, inl, inr, List, sym, ◌∙◌, subst}
use Rattle.mdr_bound.specs.declared.bound.Bound.{Bound}
use Rattle.mdr_cut.proofs.Determined.{texts_are_determined}
use Rattle.mdr_cut.specs.declared.texts.Texts.{Texts}
use Rattle.mdr_due.specs.declared.status.Status.{Status}
use Rattle.mdr_due.specs.declared.status.Status.TheVariants as status
use Rattle.mdr_due.specs.Reads.{Files}
use Rattle.mdr_honest.specs.Honest.{IsHonest}
use Rattle.mdr_honest.proofs.Meant.{meaning}
use Rattle.mdr_honest.proofs.Taken.{texts_are_taken}
use Rattle.mdr_outside.specs.Calls.{ShelfCall}
use Rattle.mdr_outside.specs.Sides.{FarSide}
use Rattle.mdr_slicer.specs.Slicing.{HasSource}
use Rattle.mdr_source.specs.declared.outcome.Source.{Source}
use Rattle.mdr_top.specs.CutInto.{IsCutInto}
use Rattle.mdr_top.specs.declared.split_manner.SplitManner.{SplitManner}
use Rattle.mdr_top.specs.Means.{meant}
use Rattle.mdr_top.specs.Reports.{Ran}
use Rattle.mdr_top.specs.SplitRuns.{IsShownRun, SplitRunsOver}
use Rattle.mdr_top.proofs.Meanings.{IsEarly, IsMeantSo, lines_so, no_script_early, not_early, own_never, ran_means, same_report, unread_early}
use Rattle.mdr_top.specs.Scripts.{IsScriptOf}
use Rattle.mdr_top.specs.HalvesMeans.{HalvesMean, HalvesRunsMean}
use Rattle.mdr_top.specs.Names.{TextNames}
use Rattle.mdr_top.specs.Reads.{NoTexts}
use Rattle.mdr_top.specs.HalvesRuns.{HalvesRuns}
use Rattle.mdr_top.specs.Sources.{HasHalves, IsSourceIn, NoSourceIn}

no_texts_early : (files : Files) (names : TextNames) (old new : List ShelfCall) (s : Status) (text : List ℕ) → NoTexts files names old new s text → IsEarly s
no_texts_early files names old new s text (NoTexts.no_kernel u) = unread_early names.kernel u.answer s text u.why
no_texts_early files names old new s text (NoTexts.no_user kernel first r u) = unread_early names.user u.answer s text u.why
no_texts_early files names old new s text (NoTexts.no_plan kernel user first second r q u) = unread_early names.plan u.answer s text u.why

no_source_early : (files : Files) (names : TextNames) (old new : List ShelfCall) (s : Status) (text : List ℕ) → NoSourceIn files names old new s text → IsEarly s
no_source_early files names old new s text (NoSourceIn.unread n) = no_texts_early files names old new s text n
no_source_early files names old new s text (NoSourceIn.refused texts read n) = subst IsEarly (sym n.status_is) tt

has_source : (texts : Texts) (source : Source) (h : HasHalves texts source) → HasSource h.are.bytes source
has_source texts source h = record { comes = h.are.comes; sound = h.sound }

module _ (files : Files) (names : TextNames) (script_name : List ℕ) (manner : SplitManner) (old new : List ShelfCall) (far far' : FarSide) (s : Status) (text : List ℕ) where
  abbrev MeansIt : Type 0
  MeansIt = HalvesMean files names script_name manner old new far'.loaded far'.exchanges s text

  early_means : IsEarly s → MeansIt
  early_means early = record { never = λ e. subst IsEarly e early; means = λ is. absurd (not_early s early is) }

  -- the texts that the source is cut into are those that were given
  run_means : (source : Source) (script : Bound) (between : List ShelfCall) (i : IsSourceIn files names old between source) → IsScriptOf files source.program script_name between new script → IsShownRun source script manner far far' s text → IsHonest far'.loaded far'.exchanges → MeansIt
  run_means source script between i given r honest =
      let same : r.run.texts ≡ i.texts = texts_are_determined source.tree source.program r.run.texts i.texts r.run.cut.are_texts i.has.are.are in
      let cut : IsCutInto source r.run.plan i.texts = subst (λ (t : Texts). IsCutInto source r.run.plan t) same r.run.cut in
      let ran : Ran source.program r.run.plan i.texts script manner.ticks far'.loaded far'.exchanges s r.report = subst (λ (t : Texts). Ran source.program r.run.plan t script manner.ticks far'.loaded far'.exchanges s r.report) same r.run.ran in
      of cut (ran_means meaning texts_are_taken i.has.are.bytes given.bytes source r.run.plan i.texts script manner.ticks far'.exchanges (has_source i.texts source i.has) given.has cut far'.loaded s r.report honest ran)
    where
      of : (cut : IsCutInto source r.run.plan i.texts) → (s ≡ status.FarFault) ⊎ IsMeantSo meaning texts_are_taken i.has.are.bytes given.bytes source r.run.plan i.texts script manner.ticks far'.exchanges (has_source i.texts source i.has) given.has cut far'.loaded s r.report → MeansIt
      of cut (inl e) = early_means (subst IsEarly (sym e) tt)
      of cut (inr m) = record {
        never = λ e. own_never (meant source.program r.run.plan script manner.ticks).end m.meaning.own (sym m.meaning.reported.status_is ∙ e);
        means = λ is. record {
          source = source;
          script = script;
          between = between;
          source_is = i;
          script_is = given;
          plan = r.run.plan;
          cut = cut;
          held = m.held;
          report = r.report;
          shown = lines_so manner far'.exchanges r.report text _ _ r.shown m.world;
          meaning = m.meaning;
          same = same_report source r.run.plan i.texts script manner.ticks s r.report cut m.meaning.reported;
        };
      }

  runs_mean : HalvesRuns files names script_name manner old new far far' s text → IsHonest far'.loaded far'.exchanges → MeansIt
  runs_mean (HalvesRuns.no_source none f) honest = early_means (no_source_early files names old new s text none)
  runs_mean (HalvesRuns.sourced source between i (SplitRunsOver.no_script none f)) honest = early_means (no_script_early files source.program script_name between new s text none)
  runs_mean (HalvesRuns.sourced source between i (SplitRunsOver.ran script given r)) honest = run_means source script between i given r honest

pub halves_mean : HalvesRunsMean
halves_mean files names script_name manner old new far far' s text runs honest = runs_mean files names script_name manner old new far far' s text runs honest
