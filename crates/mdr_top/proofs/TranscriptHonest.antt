-- There is one run of a script over the halves of a source, whichever honest far side it is made over.
use Rattle.std.proofs.Common.{◌≡◌, ◌≢◌, ℕ, List, [], map, Some, refl, sym, ap, ◌∙◌, subst}
use Rattle.mdr_core.specs.declared.plan.Plan.{Plan}
use Rattle.mdr_core.specs.declared.program.Program.{Program}
use Rattle.mdr_cut.proofs.Determined.{plan_is_determined}
use Rattle.mdr_cut.specs.declared.texts.Texts.{Texts}
use Rattle.mdr_due.specs.declared.status.Status.TheVariants as status
use Rattle.mdr_exchanges.proofs.Turns.{first_of, run_is}
use Rattle.mdr_exchanges.specs.Meanings.{Honest}
use Rattle.mdr_exchanges.specs.Runs.{IsRun, answers_of, finish_of, run_over}
use Rattle.mdr_half.specs.Halves.{user_text}
use Rattle.mdr_half.specs.Plans.{plan_text}
use Rattle.mdr_half_source.specs.Loads.{Loads}
use Rattle.mdr_honest.proofs.Taken.{texts_are_loaded, texts_are_taken}
use Rattle.mdr_honest.specs.Honest.{IsHonest, IsHonestLoad, IsHonestSince}
use Rattle.mdr_honest.specs.Loading.{AreItsHalf}
use Rattle.mdr_honest.specs.Meanings.{HasTexts}
use Rattle.mdr_model.specs.declared.outcome.End.TheVariants as ends
use Rattle.mdr_model.specs.Text.{text}
use Rattle.mdr_outside.specs.declared.far.Exchange.{Exchange}
use Rattle.mdr_outside.specs.declared.far.LoadAnswer.TheVariants as loads
use Rattle.mdr_outside.specs.Far.{loaded_with}
use Rattle.mdr_plain.specs.declared.outcome.Outcome.{Outcome}
use Rattle.mdr_plain.specs.Outcome.{outcome_of}
use Rattle.mdr_plain.specs.Report.{report}
use Rattle.mdr_plain.specs.Scripts.{Finish}
use Rattle.mdr_top.specs.WholeRuns.{status_of}
use Rattle.mdr_bound.specs.declared.bound.Bound.{Bound}
use Rattle.mdr_slicer.specs.Slicing.{HasSource}
use Rattle.mdr_source.specs.declared.outcome.Source.{Source}
use Rattle.mdr_model.specs.Bytes.{readings}
use Rattle.mdr_split.specs.Kernel.{SplitRun, run_from_pending}
use Rattle.mdr_split.specs.State.{Over, Pending, Waits}
use Rattle.mdr_top.proofs.Meanings.{has_texts, is_cut}
use Rattle.mdr_top.proofs.Steps.{nothing_end}
use Rattle.mdr_top.specs.CutInto.{IsCutInto}
use Rattle.mdr_top.specs.Reports.{Ran}
use Rattle.mdr_top.specs.TranscriptLaws.{AreOne, HonestRunsAreOne}
use Rattle.mdr_top.specs.TranscriptRuns.{IsHonestRun, budget}
use Rattle.mdr_top.proofs.OneRun.{IsOver, Leads, one}
use Rattle.mdr_watched.specs.Driver.{Driver, driver_of}

-- ---- a run that began

-- the far side is loaded with the texts of this plan, and is honest; the run came to its end
record Begun (source : Source) (script : Bound) (plan : Plan) (es : List Exchange) (text' : List ℕ) : Type 0 where
  texts : Texts
  cut : IsCutInto source plan texts
  honest : IsHonest (Some (loaded_with texts.user texts.plan loads.Ok)) es
  outcome : Outcome
  run : IsRun (driver_of source.program plan) script budget es outcome
  report_is : text' ≡ report source.program outcome
  answered : status_of outcome.end ≢ status.FarFault

begun : (bytes : List ℕ) (source : Source) (script : Bound) (es : List Exchange) (text' : List ℕ) → HasSource bytes source → (r : IsHonestRun source script es text') → Begun source script r.plan es text'
begun bytes source script es text' h r = of r.ran
  where
    of : Ran source.program r.plan r.texts script budget r.loaded es r.ended text' → Begun source script r.plan es text'
    of (Ran.began is b) = record {
      texts = r.texts;
      cut = r.cut;
      honest = subst (λ l. IsHonest l es) is r.honest;
      outcome = b.outcome;
      run = b.run_is;
      report_is = b.reported.text_is;
      answered = λ e. r.answered (b.reported.status_is ∙ e);
    }
    of (Ran.refused cause is reported) =
        let t : HasTexts source r.plan (loaded_with r.texts.user r.texts.plan (loads.Refused cause)) = has_texts source r.plan r.texts (loads.Refused cause) r.cut in
        let since : IsHonestSince (loaded_with r.texts.user r.texts.plan (loads.Refused cause)) es = subst (λ l. IsHonest l es) is r.honest in
        absurd (texts_are_taken bytes source r.plan (loads.Refused cause) (is_cut bytes source r.plan r.texts h r.cut)
        (subst (λ (u : List ℕ). IsHonestLoad u (plan_text source.program r.plan) (loads.Refused cause)) t.user_is
        (subst (λ (p : List ℕ). IsHonestLoad r.texts.user p (loads.Refused cause)) t.plan_is since.load)))
    of (Ran.failed is reported) = absurd (r.answered (reported.status_is ∙ ap status_of (nothing_end source.program script budget (ends.FarFault 0))))

-- ---- it leads to its end

end_is : (program : Program) (f : Finish) → (outcome_of program f).end ≡ f.end
unfolding outcome_of
end_is program f = refl

-- where the far side didn't fail the run waits for no answer
is_over : (program : Program) (p : Pending) (o : Outcome) → o ≡ outcome_of program (finish_of p) → status_of o.end ≢ status.FarFault → IsOver p
is_over program (Over end k) o is answered = tt
is_over program (Waits m k upcall rest cs) o is answered = answered (ap (λ (x : Outcome). status_of x.end) is ∙ ap status_of (end_is program (finish_of (Waits m k upcall rest cs))))

module _ (bytes : List ℕ) (source : Source) (script : Bound) (plan : Plan) (h : HasSource bytes source) (half : AreItsHalf source plan) where
  abbrev whole : Driver
  whole = driver_of source.program plan

  abbrev part : Driver
  part = driver_of half.part plan

  -- the answers are those of the half that is loaded
  served : (es : List Exchange) (text' : List ℕ) → Begun source script plan es text' → Honest part [] es
  served es text' b =
      let t : HasTexts source plan (loaded_with b.texts.user b.texts.plan loads.Ok) = has_texts source plan b.texts loads.Ok b.cut in
      let since : IsHonestSince (loaded_with b.texts.user b.texts.plan loads.Ok) es = b.honest in
      since.served half.part plan
      (subst (λ (u : List ℕ). Loads u b.texts.plan half.part plan) (sym t.user_is) (subst (λ (p : List ℕ). Loads (user_text plan source.tree) p half.part plan) (sym t.plan_is) half.loaded))

  leads : (es : List Exchange) (text' : List ℕ) → Begun source script plan es text' → Leads whole part [] (first_of whole script budget) es
  leads es text' b =
      let same : run_over whole script budget es ≡ run_from_pending whole (readings (answers_of es)) (first_of whole script budget) = run_is whole script budget es in
      record {
        sent = b.run.messages ∙ ap (λ (r : SplitRun). map text r.sent) same;
        over = subst (λ (r : SplitRun). IsOver r.pending) same (is_over source.program (run_over whole script budget es).pending b.outcome b.run.outcome b.answered);
        honest = served es text' b;
      }

  one_begun : (es others : List Exchange) (text' other : List ℕ) → Begun source script plan es text' → Begun source script plan others other → AreOne es others text' other
  one_begun es others text' other a b =
      let same : es ≡ others = one whole part [] (first_of whole script budget) es others (leads es text' a) (leads others other b) in
      record {
        exchanges = same;
        reports =
            a.report_is
            ∙ ap (report source.program) (a.run.outcome ∙ ap (λ (xs : List Exchange). outcome_of source.program (finish_of (run_over whole script budget xs).pending)) same ∙ sym b.run.outcome)
            ∙ sym b.report_is;
      }

pub honest_runs_are_one : HonestRunsAreOne
honest_runs_are_one bytes source script es others text' other h r q =
    let a : Begun source script r.plan es text' = begun bytes source script es text' h r in
    let b : Begun source script q.plan others other = begun bytes source script others other h q in
    let half : AreItsHalf source r.plan = texts_are_loaded bytes source r.plan (is_cut bytes source r.plan r.texts h r.cut) in
    let plans : q.plan ≡ r.plan = plan_is_determined source.program q.plan r.plan q.cut.plan_is r.cut.plan_is in
    one_begun bytes source script r.plan h half es others text' other a (subst (λ (p : Plan). Begun source script p others other) plans b)
