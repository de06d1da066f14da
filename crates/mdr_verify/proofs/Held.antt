-- What was read of a text is a beginning of a transcript.
use Rattle.std.proofs.Common.{◌≡◌, ◌⊎◌, inl, inr, ℕ, Bool, true, false, cond, ◌+◌, List, [], ◌∷◌, ◌++◌, length, Some, None, codes, bytes_eq, refl, sym, ap, subst, ◌∙◌, arith, append_assoc}
use Rattle.std.proofs.lemmas.List.{append-nil}
use Rattle.std.proofs.lemmas.Fmt.{decimal_digit}
use Rattle.std.proofs.lemmas.Slice.Eq.{bytes_eq-Decides}
use Rattle.mdr_verify.specs.declared.line.Line.{Line}
use Rattle.mdr_verify.specs.declared.line.Line.TheVariants as line
use Rattle.mdr_verify.specs.declared.reader.Stage.TheVariants as stage
use Rattle.mdr_verify.specs.declared.reader.Reader.{Reader}
use Rattle.mdr_verify.specs.declared.transcript.Transcript.{Transcript}
use Rattle.mdr_verify.specs.Transcripts.{IsOneLine, AreMessages, ShowsMessage, IsReport, message_lines, count_text, IsTranscript, GoesOn, AreLines}
use Rattle.mdr_verify.specs.Transcripts.IsReport.{NoLines, Line as OneLine}
use Rattle.mdr_verify.specs.Transcripts.AreLines.{NoLine, Then as ThenLine}
use Rattle.mdr_verify.specs.Lines.{line_at}
use Rattle.mdr_verify.specs.Steps.{reader_at, no_messages, reopened, after_by, is_whole, transcript_of}
use Rattle.mdr_verify.specs.Reading.{Reached}
use Rattle.mdr_verify.specs.Reading.Reached.{Begun, Then}
use Rattle.mdr_verify.proofs.Pairs.{no}
use Rattle.mdr_verify.proofs.Splits.{behind}
use Rattle.mdr_verify.proofs.Shows.{some_same, Seen, seen, other_shows_none}
use Rattle.mdr_verify.proofs.Shows.Seen.{OfSent, OfGot}
use Rattle.mdr_verify.proofs.Turns.{one_more, length_more, sent_more, got_more}

-- ---- reports

pub report_more : (report line : List ℕ) → IsReport report → IsOneLine line → (ShowsMessage line → ⊥) → IsReport (report ++ (line ++ 10 ∷ []))
report_more _ line NoLines one none = OneLine line [] one none NoLines
report_more _ line (OneLine first rest o n h) one none =
    subst IsReport (sym (append_assoc first (10 ∷ rest) (line ++ 10 ∷ []))) (OneLine first (rest ++ (line ++ 10 ∷ [])) o n (report_more rest line h one none))

pub zero_text : count_text 0 ≡ no_messages
zero_text = ap (λ ds. codes "messages " ++ ds) (decimal_digit 0 (omega arith))

zero_line : (report : List ℕ) → IsReport report → IsReport (report ++ (no_messages ++ 10 ∷ []))
zero_line report h = report_more report no_messages h refl (other_shows_none no_messages refl)

-- ---- what was read

abbrev pub transcript : (report : List ℕ) (sent got : List (List ℕ)) → Transcript
transcript report sent got = record { report = report; sent = sent; got = got }

-- the text is the report and the lines of these messages
pub record Tells (text report : List ℕ) (sent got : List (List ℕ)) : Type 0 where
  pub is_report : IsReport report
  pub are_sent : AreMessages sent
  pub are_got : AreMessages got
  pub same : (more : List ℕ) → text ++ more ≡ report ++ message_lines sent got more

pub data Holds : List ℕ → Reader → Type 0 where
  InReport : (text : List ℕ) → IsReport text → Holds text (reader_at stage.Report text [] [])
  AtZero : (report : List ℕ) → IsReport report → Holds (report ++ (no_messages ++ 10 ∷ [])) (reader_at stage.Zero report [] [])
  BehindSent : (text report : List ℕ) (sent got : List (List ℕ)) → Tells text report sent got → length sent ≡ length got + 1 → Holds text (reader_at stage.Sent report sent got)
  BehindGot : (text report : List ℕ) (sent got : List (List ℕ)) → Tells text report sent got → length sent ≡ length got → Holds text (reader_at stage.Got report sent got)
  AtEnd : (text report : List ℕ) (sent got : List (List ℕ)) → IsTranscript text (transcript report sent got) → Holds text (reader_at stage.Done report sent got)

-- ---- a line more

abbrev longer : List ℕ → List ℕ → List ℕ
longer text bytes = text ++ (bytes ++ 10 ∷ [])

tells_sent : (text report bytes : List ℕ) (sent got : List (List ℕ)) (m : List ℕ) → Tells text report sent got → length sent ≡ length got → Seen bytes (line.Sent m) → Tells (longer text bytes) report (sent ++ m ∷ []) got
tells_sent text report bytes sent got m t e (OfSent _ are is) = record {
  is_report = t.is_report;
  are_sent = one_more sent m t.are_sent are;
  are_got = t.are_got;
  same = λ more. behind text bytes more ∙ t.same (bytes ++ 10 ∷ more) ∙ ap (λ bs. report ++ message_lines sent got (bs ++ 10 ∷ more)) is ∙ ap (λ bs. report ++ bs) (sym (sent_more sent got m more e));
}

tells_got : (text report bytes : List ℕ) (sent got : List (List ℕ)) (m : List ℕ) → Tells text report sent got → length sent ≡ length got + 1 → Seen bytes (line.Got m) → Tells (longer text bytes) report sent (got ++ m ∷ [])
tells_got text report bytes sent got m t e (OfGot _ are is) = record {
  is_report = t.is_report;
  are_sent = t.are_sent;
  are_got = one_more got m t.are_got are;
  same = λ more. behind text bytes more ∙ t.same (bytes ++ 10 ∷ more) ∙ ap (λ bs. report ++ message_lines sent got (bs ++ 10 ∷ more)) is ∙ ap (λ bs. report ++ bs) (sym (got_more sent got m more e));
}

tells_none : (report : List ℕ) → IsReport report → Tells report report [] []
tells_none report h = record { is_report = h; are_sent = refl; are_got = refl; same = λ more. refl }

-- with a line of the report
in_report : (text bytes : List ℕ) (l : Line) (s : Reader) → IsReport text → IsOneLine bytes → Seen bytes l → line_at bytes ≡ l → after_by (reader_at stage.Report text [] []) l bytes ≡ Some s → Holds (longer text bytes) s
in_report text bytes (line.Sent m) s h one seen is e =
    subst (λ (r : Reader). Holds (longer text bytes) r) (some_same (reader_at stage.Sent text (m ∷ []) []) s e) (BehindSent (longer text bytes) text (m ∷ []) [] (tells_sent text text bytes [] [] m (tells_none text h) refl seen) refl)
in_report text bytes (line.Got m) s h one seen is e = let q : None ≡ Some s = e in absurd (Prim.cc)
in_report text bytes line.Other s h one seen is e = on (bytes_eq bytes no_messages) refl e
  where
    on : (t : Bool) → bytes_eq bytes no_messages ≡ t → Some (cond t (reader_at stage.Zero text [] []) (reader_at stage.Report (longer text bytes) [] [])) ≡ Some s → Holds (longer text bytes) s
    on true q f =
        let same : bytes ≡ no_messages = (bytes_eq-Decides bytes no_messages).0 q in
        subst (λ (r : Reader). Holds (longer text bytes) r) (some_same (reader_at stage.Zero text [] []) s f) (subst (λ bs. Holds (longer text bs) (reader_at stage.Zero text [] [])) (sym same) (AtZero text h))
    on false q f =
        subst (λ (r : Reader). Holds (longer text bytes) r) (some_same (reader_at stage.Report (longer text bytes) [] []) s f) (InReport (longer text bytes) (report_more text bytes h one (other_shows_none bytes is)))

-- with the number of messages
at_count : (text report bytes : List ℕ) (sent got : List (List ℕ)) (s : Reader) → Tells text report sent got → (length sent ≡ length got) ⊎ (length sent ≡ length got + 1)
    → cond (bytes_eq bytes (count_text (length sent + length got))) (Some (reader_at stage.Done report sent got)) None ≡ Some s → Holds (longer text bytes) s
at_count text report bytes sent got s t turns e = on (bytes_eq bytes (count_text (length sent + length got))) refl e
  where
    on : (b : Bool) → bytes_eq bytes (count_text (length sent + length got)) ≡ b → cond b (Some (reader_at stage.Done report sent got)) None ≡ Some s → Holds (longer text bytes) s
    on true q f =
        let same : bytes ≡ count_text (length sent + length got) = (bytes_eq-Decides bytes (count_text (length sent + length got))).0 q in
        let is : IsTranscript (longer text bytes) (transcript report sent got) = record {
          report = t.is_report;
          sent = t.are_sent;
          got = t.are_got;
          turns = turns;
          same = ap (λ bs. report ++ message_lines sent got (bs ++ 10 ∷ [])) (sym same) ∙ sym (t.same (bytes ++ 10 ∷ []));
        } in
        subst (λ (r : Reader). Holds (longer text bytes) r) (some_same (reader_at stage.Done report sent got) s f) (AtEnd (longer text bytes) report sent got is)
    on false q f = let n : None ≡ Some s = f in absurd (Prim.cc)

step_by : (text bytes : List ℕ) (l : Line) (r s : Reader) → Holds text r → IsOneLine bytes → Seen bytes l → line_at bytes ≡ l → after_by (reopened r) l bytes ≡ Some s → Holds (longer text bytes) s
step_by _ bytes l _ s (InReport text h) one seen is e = in_report text bytes l s h one seen is e
step_by _ bytes l _ s (AtZero report h) one seen is e = in_report (report ++ (no_messages ++ 10 ∷ [])) bytes l s (zero_line report h) one seen is e
step_by _ bytes (line.Sent m) _ s (BehindSent text report sent got t turn) one seen is e = let n : None ≡ Some s = e in absurd (Prim.cc)
step_by _ bytes (line.Got m) _ s (BehindSent text report sent got t turn) one seen is e =
    let a = length_more got m in
    subst (λ (r : Reader). Holds (longer text bytes) r) (some_same (reader_at stage.Got report sent (got ++ m ∷ [])) s e) (BehindGot (longer text bytes) report sent (got ++ m ∷ []) (tells_got text report bytes sent got m t turn seen) (omega (arith, a, turn)))
step_by _ bytes line.Other _ s (BehindSent text report sent got t turn) one seen is e = at_count text report bytes sent got s t (inr turn) e
step_by _ bytes (line.Sent m) _ s (BehindGot text report sent got t turn) one seen is e =
    let a = length_more sent m in
    subst (λ (r : Reader). Holds (longer text bytes) r) (some_same (reader_at stage.Sent report (sent ++ m ∷ []) got) s e) (BehindSent (longer text bytes) report (sent ++ m ∷ []) got (tells_sent text report bytes sent got m t turn seen) (omega (arith, a, turn)))
step_by _ bytes (line.Got m) _ s (BehindGot text report sent got t turn) one seen is e = let n : None ≡ Some s = e in absurd (Prim.cc)
step_by _ bytes line.Other _ s (BehindGot text report sent got t turn) one seen is e = at_count text report bytes sent got s t (inl turn) e
step_by _ bytes (line.Sent m) _ s (AtEnd text report sent got h) one seen is e = let n : None ≡ Some s = e in absurd (Prim.cc)
step_by _ bytes (line.Got m) _ s (AtEnd text report sent got h) one seen is e = let n : None ≡ Some s = e in absurd (Prim.cc)
step_by _ bytes line.Other _ s (AtEnd text report sent got h) one seen is e = let n : None ≡ Some s = e in absurd (Prim.cc)

pub held : (text : List ℕ) (n : ℕ) (r : Reader) → Reached text n r → Holds text r
held _ _ _ Begun = InReport [] NoLines
held _ _ _ (Then text bytes n r s before one e) = step_by text bytes (line_at bytes) r s (held text n r before) one (seen bytes) refl e

pub lines_are : (text : List ℕ) (n : ℕ) (r : Reader) → Reached text n r → AreLines text n
lines_are _ _ _ Begun = NoLine
lines_are _ _ _ (Then text bytes n r s before one e) = ThenLine text bytes n (lines_are text n r before) one

-- ---- what goes on

zero_is : (report : List ℕ) → IsReport report → IsTranscript (report ++ (no_messages ++ 10 ∷ [])) (transcript report [] [])
zero_is report h = record { report = h; sent = refl; got = refl; turns = inl refl; same = ap (λ bs. report ++ (bs ++ 10 ∷ [])) zero_text }

told_is : (text report : List ℕ) (sent got : List (List ℕ)) → Tells text report sent got → (length sent ≡ length got) ⊎ (length sent ≡ length got + 1) → GoesOn text
told_is text report sent got t turns =
    let last = count_text (length sent + length got) ++ 10 ∷ [] in
    record { rest = last; transcript = transcript report sent got; is = record { report = t.is_report; sent = t.are_sent; got = t.are_got; turns = turns; same = sym (t.same last) } }

pub whole_goes : (text : List ℕ) (t : Transcript) → IsTranscript text t → GoesOn text
whole_goes text t h = record { rest = []; transcript = t; is = subst (λ bs. IsTranscript bs t) (sym (append-nil text)) h }

pub goes_on : (text : List ℕ) (r : Reader) → Holds text r → GoesOn text
goes_on _ _ (InReport text h) = record { rest = no_messages ++ 10 ∷ []; transcript = transcript text [] []; is = zero_is text h }
goes_on _ _ (AtZero report h) = whole_goes (report ++ (no_messages ++ 10 ∷ [])) (transcript report [] []) (zero_is report h)
goes_on _ _ (BehindSent text report sent got t turn) = told_is text report sent got t (inr turn)
goes_on _ _ (BehindGot text report sent got t turn) = told_is text report sent got t (inl turn)
goes_on _ _ (AtEnd text report sent got h) = whole_goes text (transcript report sent got) h

pub whole : (text : List ℕ) (r : Reader) → Holds text r → is_whole r.stage ≡ true → IsTranscript text (transcript_of r)
whole _ _ (InReport text h) e = no e
whole _ _ (AtZero report h) e = zero_is report h
whole _ _ (BehindSent text report sent got t turn) e = no e
whole _ _ (BehindGot text report sent got t turn) e = no e
whole _ _ (AtEnd text report sent got h) e = h
