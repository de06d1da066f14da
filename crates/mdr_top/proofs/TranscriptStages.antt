-- The stages of judging a transcript.
use Rattle.std.proofs.Common.{◌≡◌, ◌≢◌, ◌↔◌, ℕ, true, false, List, sym, ◌∙◌, subst}
use Rattle.std.specs.Prelude.{IsTrue}
use Rattle.mdr_due.specs.declared.status.Status.{Status}
use Rattle.mdr_due.specs.declared.status.Status.TheVariants as status
use Rattle.mdr_due.specs.Reads.{Files, IsRead, WasRead}
use Rattle.mdr_honest.specs.Honest.{IsHonest}
use Rattle.mdr_outside.specs.Calls.{ShelfCall}
use Rattle.mdr_outside.specs.declared.far.Exchange.{Exchange}
use Rattle.mdr_outside.specs.declared.shelf.ReadAnswer.TheVariants as reads
use Rattle.mdr_outside.specs.Sides.{FarSide}
use Rattle.mdr_top.specs.Scripts.{IsScriptOf}
use Rattle.mdr_bound.specs.declared.bound.Bound.{Bound}
use Rattle.mdr_slicer.specs.Slicing.{IsSourceOf}
use Rattle.mdr_source.specs.declared.outcome.Source.{Source}
use Rattle.mdr_top.specs.SplitRuns.{IsSplitRun}
use Rattle.mdr_verify.specs.declared.verdict.Verdict.{Verdict}
use Rattle.mdr_verify.specs.declared.verdict.Verdict.TheVariants as verdict
use Rattle.mdr_top.specs.Judged.{Differs, IsJudged, IsSaid, verdict_status}
use Rattle.mdr_top.specs.TranscriptRuns.{budget}
use Rattle.mdr_top.specs.Verifies.{Verifies, VerifiesOver, VerifiesOverPart, VerifiesPart, VerifiesRun, longest_transcript}

-- ---- what is printed

-- bytes that aren't those that were made aren't what these are
pub not_same : (x y z : List ℕ) → (IsTrue false ↔ (x ≡ y)) → y ≡ z → x ≡ z → ⊥
not_same x y z both is e = let q : false ≡ true = both.1 (e ∙ sym is) in Prim.cc

-- ---- a run over a far side of its own

pub judged_so : (source : Source) (script : Bound) (bytes : List ℕ) (far far' : FarSide) (ended : Status) (report seen : List ℕ) (es : List Exchange) (s : Status) (text : List ℕ)
    → IsSplitRun source script budget far far' ended report → IsHonest far'.loaded far'.exchanges → ended ≢ status.FarFault → es ≡ far'.exchanges → seen ≡ report → IsSaid bytes es seen s text → IsJudged source script bytes s text
judged_so source script bytes far far' ended report seen es s text run honest answered same is said = record {
  exchanges = far'.exchanges;
  report = report;
  run = record { plan = run.plan; texts = run.texts; cut = run.cut; loaded = far'.loaded; honest = honest; ended = ended; ran = run.ran; answered = answered };
  said = subst (λ (r : List ℕ). IsSaid bytes far'.exchanges r s text) is (subst (λ (xs : List Exchange). IsSaid bytes xs seen s text) same said);
}

-- what is said tells of no file
says_reads : (P : Status → Type 0) → P status.Done → P status.NotVerified → (v : Verdict) (s : Status) → s ≡ verdict_status v → P s
says_reads P done not (verdict.Yes number) s is = subst P (sym is) done
says_reads P done not (verdict.Wrong w) s is = subst P (sym is) not
says_reads P done not (verdict.Report number) s is = subst P (sym is) not

pub said_holds : (P : Status → Type 0) → P status.Done → P status.NotVerified → (bytes : List ℕ) (es : List Exchange) (report : List ℕ) (s : Status) (text : List ℕ) → IsSaid bytes es report s text → P s
said_holds P done not bytes es report s text (IsSaid.same is so t) = subst P (sym so) done
said_holds P done not bytes es report s text (IsSaid.differs unlike (Differs.misread number fault so t)) = subst P (sym so) not
said_holds P done not bytes es report s text (IsSaid.differs unlike (Differs.compared t is says)) = says_reads P done not says.found s says.status_is

-- ---- files

pub run_stage : (files : Files) (source : Source) (script : Bound) (name : List ℕ) (old new : List ShelfCall) (bytes seen : List ℕ) (s : Status) (text : List ℕ) → seen ≡ bytes → IsRead files name longest_transcript old new (reads.Ok bytes) → IsJudged source script seen s text
    → VerifiesRun files source script name old new s text
run_stage files source script name old new bytes seen s text is read j = VerifiesRun.judged bytes read (subst (λ (b : List ℕ). IsJudged source script b s text) is j)

module _ (files later : Files) (source : Source) (script_name name : List ℕ) (old between new : List ShelfCall) (script : Bound) (kept : later ≡ files) (read : IsScriptOf files source.program script_name old between script) where
  pub over_so : (s : Status) (text : List ℕ) → VerifiesRun later source script name between new s text → VerifiesOver files source script_name name old new s text
  over_so s text v = VerifiesOver.scripted script between read (subst (λ (f : Files). VerifiesRun f source script name between new s text) kept v)

  pub over_part_so : WasRead later name longest_transcript between new → VerifiesOverPart files source script_name name old new
  over_part_so was = VerifiesOverPart.transcript_read script between read (subst (λ (f : Files). WasRead f name longest_transcript between new) kept was)

module _ (files later : Files) (source_name script_name name : List ℕ) (old between new : List ShelfCall) (source : Source) (kept : later ≡ files) (read : IsSourceOf files source_name old between source) where
  pub verifies_so : (s : Status) (text : List ℕ) → VerifiesOver later source script_name name between new s text → Verifies files source_name script_name name old new s text
  verifies_so s text v = Verifies.sourced source between read (subst (λ (f : Files). VerifiesOver f source script_name name between new s text) kept v)

  pub verifies_part_so : VerifiesOverPart later source script_name name between new → VerifiesPart files source_name script_name name old new
  verifies_part_so part = VerifiesPart.over_part source between read (subst (λ (f : Files). VerifiesOverPart f source script_name name between new) kept part)
