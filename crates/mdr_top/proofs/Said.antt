-- A transcript is verified exactly where it is what is printed.
use Rattle.std.proofs.Common.{◌≡◌, ◌↔◌, ℕ, ◌+◌, true, List, [], ◌∷◌, ◌++◌, length, sym, ap, ◌∙◌, subst}
use Rattle.mdr_due.specs.declared.status.Status.{Status}
use Rattle.mdr_due.specs.declared.status.Status.TheVariants as status
use Rattle.mdr_exchanges.specs.Runs.{answers_of, sent_of}
use Rattle.mdr_outside.specs.declared.far.Exchange.{Exchange}
use Rattle.mdr_top.specs.Messages.{with_messages}
use Rattle.mdr_verify.specs.declared.transcript.Transcript.{Transcript}
use Rattle.mdr_verify.specs.declared.verdict.Verdict.{Verdict}
use Rattle.mdr_verify.specs.declared.verdict.Verdict.TheVariants as verdict
use Rattle.mdr_verify.specs.Transcripts.{AreInTurn, IsTranscript, count_text, message_lines}
use Rattle.mdr_verify.specs.Verdicts.{IsVerdict}
use Rattle.mdr_top.proofs.TranscriptHonest.{honest_runs_are_one}
use Rattle.mdr_top.proofs.TranscriptLines.{shown_so}
use Rattle.mdr_top.specs.Judged.{Differs, IsSaid, verdict_status}
use Rattle.mdr_top.specs.TranscriptLaws.{AreOne, IsExactly, VerifiedTranscriptsArePrinted}

not_verified : {A : Type 0} (s : Status) → s ≡ status.NotVerified → s ≡ status.Done → A
not_verified s is e = let no : status.NotVerified ≡ status.Done = sym is ∙ e in absurd (Prim.cc)

module _ (bytes : List ℕ) (es : List Exchange) (report : List ℕ) where
  abbrev lines_by : (sent got : List (List ℕ)) → List ℕ
  lines_by sent got = message_lines sent got (count_text (length sent + length got) ++ 10 ∷ [])

  -- a transcript of which nothing is wrong is what is printed
  printed : (t : Transcript) → IsTranscript bytes t → t.sent ≡ sent_of es → t.got ≡ answers_of es → t.report ≡ report → bytes ≡ with_messages true es report
  printed t is sent got same =
      let turns : AreInTurn (sent_of es) (answers_of es) = subst (λ (xs : List (List ℕ)). AreInTurn (sent_of es) xs) got (subst (λ (xs : List (List ℕ)). AreInTurn xs t.got) sent is.turns) in
      sym is.same ∙ ap (λ (bs : List ℕ). bs ++ lines_by t.sent t.got) same
      ∙ ap (λ (xs : List (List ℕ)). report ++ lines_by xs t.got) sent ∙ ap (λ (xs : List (List ℕ)). report ++ lines_by (sent_of es) xs) got
      ∙ ap (λ (bs : List ℕ). report ++ bs) (shown_so es turns)

  by_verdict : (t : Transcript) → IsTranscript bytes t → (s : Status) (v : Verdict) → IsVerdict t (sent_of es) (answers_of es) report v → s ≡ verdict_status v → (bytes ≡ with_messages true es report → ⊥) → IsExactly bytes es report s
  by_verdict t is s (verdict.Yes number) j so not = absurd (not (printed t is j.0 j.1 j.2))
  by_verdict t is s (verdict.Wrong w) j so not = IsExactly.other not so
  by_verdict t is s (verdict.Report number) j so not = IsExactly.other not so

  pub said_exactly : (s : Status) (text : List ℕ) → IsSaid bytes es report s text → IsExactly bytes es report s
  said_exactly s text (IsSaid.same is done t) = IsExactly.same is done
  said_exactly s text (IsSaid.differs not (Differs.misread number fault is t)) = IsExactly.other not is
  said_exactly s text (IsSaid.differs not (Differs.compared t is says)) = by_verdict t is s says.found says.judges says.status_is not

  both : (s : Status) → IsExactly bytes es report s → (s ≡ status.Done) ↔ (bytes ≡ with_messages true es report)
  both s (IsExactly.same is done) = (λ e. is, λ e. done)
  both s (IsExactly.other not so) = (λ e. not_verified s so e, λ e. absurd (not e))

pub verified_transcripts_are_printed : VerifiedTranscriptsArePrinted
verified_transcripts_are_printed bytes source script transcript s text es report h j run =
    let same : AreOne j.exchanges es j.report report = honest_runs_are_one bytes source script j.exchanges es j.report report h j.run run in
    subst (λ (r : List ℕ). (s ≡ status.Done) ↔ (transcript ≡ with_messages true es r)) same.reports
    (subst (λ (xs : List Exchange). (s ≡ status.Done) ↔ (transcript ≡ with_messages true xs j.report)) same.exchanges (both transcript j.exchanges j.report s (said_exactly transcript j.exchanges j.report s text j.said)))
