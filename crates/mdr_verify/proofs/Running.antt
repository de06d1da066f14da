-- A transcript is read as itself.
use Rattle.std.proofs.Common.{◌≡◌, inl, inr, ℕ, Bool, true, false, cond, not, ◌+◌, ◌==◌, List, [], ◌∷◌, ◌++◌, length, Option, Some, None, IsTrue, bytes_eq, refl, sym, ap, ◌∙◌, arith, append_assoc}
use Rattle.std.specs.List.{list_all}
use Rattle.std.proofs.lemmas.List.{append-nil}
use Rattle.std.proofs.lemmas.Slice.Eq.{bytes_eq-Decides}
use Rattle.mdr_verify.specs.declared.reader.Stage.TheVariants as stage
use Rattle.mdr_verify.specs.declared.reader.Reader.{Reader}
use Rattle.mdr_verify.specs.declared.transcript.Transcript.{Transcript}
use Rattle.mdr_verify.specs.Transcripts.{in_line, is_byte, AreBytes, AreMessages, AreInTurn, sent_text, got_text, ShowsMessage, IsReport, message_lines, count_text, IsTranscript}
use Rattle.mdr_verify.specs.Transcripts.IsReport.{NoLines, Line as OneLine}
use Rattle.mdr_verify.specs.Lines.{line_at}
use Rattle.mdr_verify.specs.Steps.{reader_at, start, no_messages, reopened, after_by, after, is_whole, transcript_of}
use Rattle.mdr_verify.specs.Reading.{Reached}
use Rattle.mdr_verify.specs.Reading.Reached.{Begun, Then}
use Rattle.mdr_verify.proofs.Pairs.{both}
use Rattle.mdr_verify.proofs.Plain.{IsPlain, one_plain, sent_plain, got_plain, count_plain}
use Rattle.mdr_verify.proofs.Shows.{sent_shown, got_shown, other_shows_none, none_shown}
use Rattle.mdr_verify.proofs.Held.{zero_text, transcript}
use Rattle.mdr_verify.proofs.Splits.{behind}

-- what reading all of a text ends in
pub data Ending : Type 0 where
  Read : Transcript → Ending
  Stopped : ℕ → Ending

abbrev pub on_line : Option Reader → (Reader → Ending) → Ending → Ending
on_line (Some r) go stop = go r
on_line None go stop = stop

abbrev pub at_end : ℕ → Reader → List ℕ → Ending
at_end n r [] = cond (is_whole r.stage) (Read (transcript_of r)) (Stopped n)
at_end n r (b ∷ line) = Stopped n

-- so many lines were begun, and of the last one these bytes were seen
abbrev pub run : ℕ → Reader → List ℕ → List ℕ → Ending
run n r seen [] = at_end n r seen
run n r seen (b ∷ bytes) = cond (b == 10) (on_line (after r seen) (λ s. run (n + 1) s [] bytes) (Stopped n)) (run n r (seen ++ b ∷ []) bytes)

no_newline : (b : ℕ) → in_line b ≡ true → (b == 10) ≡ false
no_newline b h = on (b == 10) h
  where
    on : (v : Bool) → not v ≡ true → v ≡ false
    on true q = let n : false ≡ true = q in absurd (Prim.cc)
    on false q = refl

run_from : (n : ℕ) (r : Reader) (seen line more : List ℕ) → IsPlain line → run n r seen (line ++ 10 ∷ more) ≡ on_line (after r (seen ++ line)) (λ s. run (n + 1) s [] more) (Stopped n)
run_from n r seen [] more h = ap (λ bs. on_line (after r bs) (λ s. run (n + 1) s [] more) (Stopped n)) (sym (append-nil seen))
run_from n r seen (b ∷ line) more h =
    let a = both (in_line b) (list_all in_line line) h in
    let q : (b == 10) ≡ false = no_newline b a.0 in
    ap (λ v. cond v (on_line (after r seen) (λ s. run (n + 1) s [] (line ++ 10 ∷ more)) (Stopped n)) (run n r (seen ++ b ∷ []) (line ++ 10 ∷ more))) q
    ∙ run_from n r (seen ++ b ∷ []) line more a.1
    ∙ ap (λ bs. on_line (after r bs) (λ s. run (n + 1) s [] more) (Stopped n)) (append_assoc seen (b ∷ []) line)

pub run_line : (n : ℕ) (r : Reader) (line more : List ℕ) → IsPlain line → run n r [] (line ++ 10 ∷ more) ≡ on_line (after r line) (λ s. run (n + 1) s [] more) (Stopped n)
run_line n r line more h = run_from n r [] line more h

run_open_from : (n : ℕ) (r : Reader) (seen line : List ℕ) → IsPlain line → run n r seen line ≡ at_end n r (seen ++ line)
run_open_from n r seen [] h = ap (at_end n r) (sym (append-nil seen))
run_open_from n r seen (b ∷ line) h =
    let a = both (in_line b) (list_all in_line line) h in
    let q : (b == 10) ≡ false = no_newline b a.0 in
    ap (λ v. cond v (on_line (after r seen) (λ s. run (n + 1) s [] line) (Stopped n)) (run n r (seen ++ b ∷ []) line)) q
    ∙ run_open_from n r (seen ++ b ∷ []) line a.1 ∙ ap (at_end n r) (append_assoc seen (b ∷ []) line)

pub run_open : (n : ℕ) (r : Reader) (line : List ℕ) → IsPlain line → run n r [] line ≡ at_end n r line
run_open n r line h = run_open_from n r [] line h

-- a line that is taken
took : (n : ℕ) (r s : Reader) (line more : List ℕ) → IsPlain line → after r line ≡ Some s → run n r [] (line ++ 10 ∷ more) ≡ run (n + 1) s [] more
took n r s line more h e = run_line n r line more h ∙ ap (λ o. on_line o (λ t. run (n + 1) t [] more) (Stopped n)) e

pub run_reached : (text : List ℕ) (n : ℕ) (r : Reader) → Reached text n r → (more : List ℕ) → run 1 start [] (text ++ more) ≡ run (n + 1) r [] more
run_reached _ _ _ Begun more = refl
run_reached _ _ _ (Then text bytes n r s before one e) more =
    ap (run 1 start []) (behind text bytes more) ∙ run_reached text n r before (bytes ++ 10 ∷ more) ∙ took (n + 1) r s bytes more (one_plain bytes one) e

-- ---- the report

-- lines of a report were read, the last of which may be the number of no messages
abbrev open_reader : Bool → List ℕ → Reader
open_reader true report = reader_at stage.Zero report [] []
open_reader false report = reader_at stage.Report report [] []

abbrev open_text : Bool → List ℕ → List ℕ
open_text true report = report ++ (no_messages ++ 10 ∷ [])
open_text false report = report

reopened_is : (z : Bool) (report : List ℕ) → reopened (open_reader z report) ≡ reader_at stage.Report (open_text z report) [] []
reopened_is true report = refl
reopened_is false report = refl

record Opens (z : Bool) (report line : List ℕ) : Type 0 where
  zero_is : Bool
  rest : List ℕ
  taken : after (open_reader z report) line ≡ Some (open_reader zero_is rest)
  text : open_text zero_is rest ≡ open_text z report ++ (line ++ 10 ∷ [])

open_step : (z : Bool) (report line : List ℕ) → (ShowsMessage line → ⊥) → after (open_reader z report) line ≡ Some (cond (bytes_eq line no_messages) (open_reader true (open_text z report)) (open_reader false (open_text z report ++ (line ++ 10 ∷ []))))
open_step z report line none =
    ap (λ (r : Reader). after_by r (line_at line) line) (reopened_is z report) ∙ ap (λ l. after_by (reader_at stage.Report (open_text z report) [] []) l line) (none_shown line none)

opens : (z : Bool) (report line : List ℕ) → (ShowsMessage line → ⊥) → Opens z report line
opens z report line none = on (bytes_eq line no_messages) refl
  where
    on : (t : Bool) → bytes_eq line no_messages ≡ t → Opens z report line
    on true q =
        let same : line ≡ no_messages = (bytes_eq-Decides line no_messages).0 q in
        record {
          zero_is = true;
          rest = open_text z report;
          taken = open_step z report line none ∙ ap (λ t. Some (cond t (open_reader true (open_text z report)) (open_reader false (open_text z report ++ (line ++ 10 ∷ []))))) q;
          text = ap (λ bs. open_text z report ++ (bs ++ 10 ∷ [])) (sym same);
        }
    on false q =
        record {
          zero_is = false;
          rest = open_text z report ++ (line ++ 10 ∷ []);
          taken = open_step z report line none ∙ ap (λ t. Some (cond t (open_reader true (open_text z report)) (open_reader false (open_text z report ++ (line ++ 10 ∷ []))))) q;
          text = refl;
        }

record Opened (n : ℕ) (z : Bool) (held report more : List ℕ) : Type 0 where
  number : ℕ
  zero_is : Bool
  rest : List ℕ
  runs : run n (open_reader z held) [] (report ++ more) ≡ run number (open_reader zero_is rest) [] more
  text : open_text zero_is rest ≡ open_text z held ++ report

run_report : (n : ℕ) (z : Bool) (held report : List ℕ) → IsReport report → (more : List ℕ) → Opened n z held report more
run_report n z held _ NoLines more = record { number = n; zero_is = z; rest = held; runs = refl; text = sym (append-nil (open_text z held)) }
run_report n z held _ (OneLine line rest one none h) more =
    let o = opens z held line none in
    let next = run_report (n + 1) o.zero_is o.rest rest h more in
    record {
      number = next.number;
      zero_is = next.zero_is;
      rest = next.rest;
      runs = ap (run n (open_reader z held) []) (append_assoc line (10 ∷ rest) more) ∙ took n (open_reader z held) (open_reader o.zero_is o.rest) line (rest ++ more) (one_plain line one) o.taken ∙ next.runs;
      text = next.text ∙ ap (λ bs. bs ++ rest) o.text ∙ behind (open_text z held) line rest;
    }

-- ---- the messages

same_text : (bytes : List ℕ) → bytes_eq bytes bytes ≡ true
same_text bytes = (bytes_eq-Decides bytes bytes).1 refl

sent_taken : (report : List ℕ) (sent got : List (List ℕ)) (m : List ℕ) → IsTrue (list_all is_byte m) → after (reader_at stage.Got report sent got) (sent_text m) ≡ Some (reader_at stage.Sent report (sent ++ m ∷ []) got)
sent_taken report sent got m h = ap (λ l. after_by (reader_at stage.Got report sent got) l (sent_text m)) (sent_shown m h)

got_taken : (report : List ℕ) (sent got : List (List ℕ)) (m : List ℕ) → IsTrue (list_all is_byte m) → after (reader_at stage.Sent report sent got) (got_text m) ≡ Some (reader_at stage.Got report sent (got ++ m ∷ []))
got_taken report sent got m h = ap (λ l. after_by (reader_at stage.Sent report sent got) l (got_text m)) (got_shown m h)

first_taken : (z : Bool) (report m : List ℕ) → IsTrue (list_all is_byte m) → after (open_reader z report) (sent_text m) ≡ Some (reader_at stage.Sent (open_text z report) (m ∷ []) [])
first_taken z report m h = ap (λ r. after_by r (line_at (sent_text m)) (sent_text m)) (reopened_is z report) ∙ ap (λ l. after_by (reader_at stage.Report (open_text z report) [] []) l (sent_text m)) (sent_shown m h)

count_same : (total n : ℕ) → total ≡ n → bytes_eq (count_text total) (count_text n) ≡ true
count_same total n e = ap (λ k. bytes_eq (count_text total) (count_text k)) (sym e) ∙ same_text (count_text total)

-- the number of messages ends the text
run_count : (n : ℕ) (is_sent : Bool) (report : List ℕ) (sent got : List (List ℕ)) (total : ℕ) → total ≡ length sent + length got
    → run n (reader_at (cond is_sent stage.Sent stage.Got) report sent got) [] (count_text total ++ 10 ∷ []) ≡ Read (transcript report sent got)
run_count n is_sent report sent got total e =
    took n (reader_at (cond is_sent stage.Sent stage.Got) report sent got) (reader_at stage.Done report sent got) (count_text total) [] (count_plain total) (on is_sent (count_same total (length sent + length got) e))
  where
    on : (b : Bool) → bytes_eq (count_text total) (count_text (length sent + length got)) ≡ true → after (reader_at (cond b stage.Sent stage.Got) report sent got) (count_text total) ≡ Some (reader_at stage.Done report sent got)
    on true same = ap (λ t. cond t (Some (reader_at stage.Done report sent got)) None) same
    on false same = ap (λ t. cond t (Some (reader_at stage.Done report sent got)) None) same

two_taken : (n : ℕ) (report : List ℕ) (old held : List (List ℕ)) (m a rest : List ℕ) → AreBytes m → AreBytes a → (r : Reader) → after r (sent_text m) ≡ Some (reader_at stage.Sent report (old ++ m ∷ []) held)
    → run n r [] (sent_text m ++ 10 ∷ (got_text a ++ 10 ∷ rest)) ≡ run (n + 1 + 1) (reader_at stage.Got report (old ++ m ∷ []) (held ++ a ∷ [])) [] rest
two_taken n report old held m a rest h k r first =
    took n r (reader_at stage.Sent report (old ++ m ∷ []) held) (sent_text m) (got_text a ++ 10 ∷ rest) (sent_plain m h) first
    ∙ took (n + 1) (reader_at stage.Sent report (old ++ m ∷ []) held) (reader_at stage.Got report (old ++ m ∷ []) (held ++ a ∷ [])) (got_text a) rest (got_plain a k) (got_taken report (old ++ m ∷ []) held a k)

later : (m a : List ℕ) (sent got : List (List ℕ)) → AreInTurn (m ∷ sent) (a ∷ got) → AreInTurn sent got
later m a sent got (inl turn) = inl (omega (arith, turn))
later m a sent got (inr turn) = inr (omega (arith, turn))

none_left : (a : List ℕ) (got : List (List ℕ)) → AreInTurn [] (a ∷ got) → ⊥
none_left a got (inl turn) = omega (arith, turn)
none_left a got (inr turn) = omega (arith, turn)

one_left : (m x : List ℕ) (sent : List (List ℕ)) → AreInTurn (m ∷ x ∷ sent) [] → ⊥
one_left m x sent (inl turn) = omega (arith, turn)
one_left m x sent (inr turn) = omega (arith, turn)

-- in turn, from a message on, which may stand there
run_turns : (n : ℕ) (report : List ℕ) (old held sent got : List (List ℕ)) (m : List ℕ) (total : ℕ) → AreBytes m → AreMessages sent → AreMessages got → AreInTurn (m ∷ sent) got → total ≡ length (old ++ m ∷ sent) + length (held ++ got)
    → (r : Reader) → after r (sent_text m) ≡ Some (reader_at stage.Sent report (old ++ m ∷ []) held)
    → run n r [] (message_lines (m ∷ sent) got (count_text total ++ 10 ∷ [])) ≡ Read (transcript report (old ++ m ∷ sent) (held ++ got))
run_turns n report old held [] [] m total h hs hg turns e r first =
    let b = append-nil held in
    took n r (reader_at stage.Sent report (old ++ m ∷ []) held) (sent_text m) (count_text total ++ 10 ∷ []) (sent_plain m h) first
    ∙ run_count (n + 1) true report (old ++ m ∷ []) held total (e ∙ ap (λ xs. length (old ++ m ∷ []) + length xs) b)
    ∙ ap (λ xs. Read (transcript report (old ++ m ∷ []) xs)) (sym b)
run_turns n report old held (x ∷ sent) [] m total h hs hg turns e r first = absurd (one_left m x sent turns)
run_turns n report old held [] (a ∷ []) m total h hs hg turns e r first =
    let p = both (list_all is_byte a) (list_all (λ message. list_all is_byte message) []) hg in
    two_taken n report old held m a (count_text total ++ 10 ∷ []) h p.0 r first ∙ run_count (n + 1 + 1) false report (old ++ m ∷ []) (held ++ a ∷ []) total e
run_turns n report old held [] (a ∷ b ∷ got) m total h hs hg turns e r first = absurd (none_left b got (later m a [] (b ∷ got) turns))
run_turns n report old held (x ∷ sent) (a ∷ got) m total h hs hg turns e r first =
    let p = both (list_all is_byte a) (list_all (λ message. list_all is_byte message) got) hg in
    let q = both (list_all is_byte x) (list_all (λ message. list_all is_byte message) sent) hs in
    let s : (old ++ m ∷ []) ++ x ∷ sent ≡ old ++ m ∷ x ∷ sent = append_assoc old (m ∷ []) (x ∷ sent) in
    let g : (held ++ a ∷ []) ++ got ≡ held ++ a ∷ got = append_assoc held (a ∷ []) got in
    let total_is : total ≡ length ((old ++ m ∷ []) ++ x ∷ sent) + length ((held ++ a ∷ []) ++ got) =
    e ∙ ap (λ xs. length xs + length (held ++ a ∷ got)) (sym s) ∙ ap (λ xs. length ((old ++ m ∷ []) ++ x ∷ sent) + length xs) (sym g) in
    two_taken n report old held m a (message_lines (x ∷ sent) got (count_text total ++ 10 ∷ [])) h p.0 r first
    ∙ run_turns (n + 1 + 1) report (old ++ m ∷ []) (held ++ a ∷ []) sent got x total q.0 q.1 p.1 (later m a (x ∷ sent) got turns) total_is (reader_at stage.Got report (old ++ m ∷ []) (held ++ a ∷ [])) (sent_taken report (old ++ m ∷ []) (held ++ a ∷ []) x q.0)
    ∙ ap (λ xs. Read (transcript report xs ((held ++ a ∷ []) ++ got))) s ∙ ap (λ xs. Read (transcript report (old ++ m ∷ x ∷ sent) xs)) g

-- ---- all of it

zero_taken : (z : Bool) (report : List ℕ) → after (open_reader z report) no_messages ≡ Some (reader_at stage.Zero (open_text z report) [] [])
zero_taken z report =
    open_step z report no_messages (other_shows_none no_messages refl)
    ∙ ap (λ t. Some (cond t (open_reader true (open_text z report)) (open_reader false (open_text z report ++ (no_messages ++ 10 ∷ []))))) (same_text no_messages)

run_rest : (n : ℕ) (z : Bool) (held : List ℕ) (sent got : List (List ℕ)) → AreMessages sent → AreMessages got → AreInTurn sent got
    → run n (open_reader z held) [] (message_lines sent got (count_text (length sent + length got) ++ 10 ∷ [])) ≡ Read (transcript (open_text z held) sent got)
run_rest n z held [] [] hs hg turns =
    took n (open_reader z held) (reader_at stage.Zero (open_text z held) [] []) (count_text 0) [] (count_plain 0) (ap (λ bs. after (open_reader z held) bs) zero_text ∙ zero_taken z held)
run_rest n z held [] (a ∷ got) hs hg turns = absurd (none_left a got turns)
run_rest n z held (m ∷ sent) got hs hg turns =
    let p = both (list_all is_byte m) (list_all (λ message. list_all is_byte message) sent) hs in
    run_turns n (open_text z held) [] [] sent got m (length (m ∷ sent) + length got) p.0 p.1 hg turns refl (open_reader z held) (first_taken z held m p.0)

pub run_transcript : (bytes : List ℕ) (t : Transcript) → IsTranscript bytes t → run 1 start [] bytes ≡ Read t
run_transcript bytes t h =
    let rest = message_lines t.sent t.got (count_text (length t.sent + length t.got) ++ 10 ∷ []) in
    let o = run_report 1 false [] t.report h.report rest in
    ap (run 1 start []) (sym h.same) ∙ o.runs ∙ run_rest o.number o.zero_is o.rest t.sent t.got h.sent h.got h.turns ∙ ap (λ bs. Read (transcript bs t.sent t.got)) o.text
