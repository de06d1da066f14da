-- A text is read in one way.
use Rattle.std.proofs.Common.{◌≡◌, ℕ, Bool, true, false, cond, ◌+◌, List, [], ◌∷◌, ◌++◌, Option, Some, None, refl, sym, ap, subst, ◌∙◌}
use Rattle.std.proofs.lemmas.List.{append-nil}
use Rattle.mdr_verify.specs.declared.reader.Reader.{Reader}
use Rattle.mdr_verify.specs.declared.transcript.Transcript.{Transcript}
use Rattle.mdr_verify.specs.Transcripts.{IsOneLine, IsTranscript, AreLines, IsStuck, IsFault}
use Rattle.mdr_verify.specs.Transcripts.AreLines.{NoLine, Then as ThenLine}
use Rattle.mdr_verify.specs.Transcripts.IsStuck.{Over, Refused}
use Rattle.mdr_verify.specs.Steps.{start, after, is_whole, transcript_of}
use Rattle.mdr_verify.specs.Reading.{Reached}
use Rattle.mdr_verify.specs.Reading.Reached.{Begun, Then}
use Rattle.mdr_verify.proofs.Splits.{behind}
use Rattle.mdr_verify.proofs.Plain.{one_plain}
use Rattle.mdr_verify.proofs.Held.{held, goes_on, whole}
use Rattle.mdr_verify.proofs.Running.{Read, Stopped, on_line, at_end, run, run_line, run_open, run_reached, run_transcript}

pub transcript_once : (bytes : List ℕ) (t other : Transcript) → IsTranscript bytes t → IsTranscript bytes other → t ≡ other
transcript_once bytes t other h k = let e : Read t ≡ Read other = sym (run_transcript bytes t h) ∙ run_transcript bytes other k in cc

no_fault_by : (bytes before rest : List ℕ) (t : Transcript) → bytes ≡ before ++ rest → IsTranscript bytes t → IsStuck before rest → ⊥
no_fault_by bytes before rest t split h (Over one none) = none t (subst (λ bs. IsTranscript bs t) split h)
no_fault_by bytes before rest t split h (Refused line more is one none) =
    none (record { rest = more; transcript = t; is = subst (λ bs. IsTranscript bs t) (split ∙ ap (λ bs. before ++ bs) is ∙ sym (behind before line more)) h })

pub no_fault : (bytes : List ℕ) (t : Transcript) (number : ℕ) → IsTranscript bytes t → IsFault bytes number → ⊥
no_fault bytes t number h f = no_fault_by bytes f.before f.rest t f.split h f.stuck

-- ---- one fault

record Arrives (text : List ℕ) (n : ℕ) : Type 0 where
  reader : Reader
  reached : Reached text n reader

arrives : (text : List ℕ) (n : ℕ) → AreLines text n → (more : List ℕ) (t : Transcript) → run 1 start [] (text ++ more) ≡ Read t → Arrives text n
arrives _ _ NoLine more t e = record { reader = start; reached = Begun }
arrives _ _ (ThenLine text line n lines one) more t e =
    let f : run 1 start [] (text ++ (line ++ 10 ∷ more)) ≡ Read t = ap (run 1 start []) (sym (behind text line more)) ∙ e in
    let before = arrives text n lines (line ++ 10 ∷ more) t f in
    let r = before.reader in
    let g : on_line (after r line) (λ s. run (n + 1 + 1) s [] more) (Stopped (n + 1)) ≡ Read t =
    sym (run_reached text n r before.reached (line ++ 10 ∷ more) ∙ run_line (n + 1) r line more (one_plain line one)) ∙ f in
    on text line n r before.reached one more t (after r line) refl g
  where
    on : (text line : List ℕ) (n : ℕ) (r : Reader) → Reached text n r → IsOneLine line → (more : List ℕ) (t : Transcript) (o : Option Reader) → after r line ≡ o
        → on_line o (λ s. run (n + 1 + 1) s [] more) (Stopped (n + 1)) ≡ Read t → Arrives (text ++ (line ++ 10 ∷ [])) (n + 1)
    on text line n r reached one more t (Some s) q g = record { reader = s; reached = Then text line n r s reached one q }
    on text line n r reached one more t None q g = let c : Stopped (n + 1) ≡ Read t = g in absurd (Prim.cc)

over_stops : (before : List ℕ) (n : ℕ) (r : Reader) → Reached before n r → ((t : Transcript) → IsTranscript (before ++ []) t → ⊥) → (v : Bool) → is_whole r.stage ≡ v → cond v (Read (transcript_of r)) (Stopped (n + 1)) ≡ Stopped (n + 1)
over_stops before n r reached none false q = refl
over_stops before n r reached none true q = absurd (none (transcript_of r) (subst (λ bs. IsTranscript bs (transcript_of r)) (sym (append-nil before)) (whole before r (held before n r reached) q)))

ended : (before rest : List ℕ) (n : ℕ) (r : Reader) → Reached before n r → ((t : Transcript) → IsTranscript (before ++ rest) t → ⊥) → at_end (n + 1) r rest ≡ Stopped (n + 1)
ended before [] n r reached none = over_stops before n r reached none (is_whole r.stage) refl
ended before (b ∷ rest) n r reached none = refl

stops_by : (before rest : List ℕ) (n : ℕ) (r : Reader) → Reached before n r → IsStuck before rest → run (n + 1) r [] rest ≡ Stopped (n + 1)
stops_by before rest n r reached (Over one none) = run_open (n + 1) r rest (one_plain rest one) ∙ ended before rest n r reached none
stops_by before rest n r reached (Refused line more is one none) =
    ap (run (n + 1) r []) is ∙ run_line (n + 1) r line more (one_plain line one) ∙ on (after r line) refl
  where
    on : (o : Option Reader) → after r line ≡ o → on_line o (λ s. run (n + 1 + 1) s [] more) (Stopped (n + 1)) ≡ Stopped (n + 1)
    on None q = refl
    on (Some s) q = absurd (none (goes_on (before ++ (line ++ 10 ∷ [])) s (held (before ++ (line ++ 10 ∷ [])) (n + 1) s (Then before line n r s reached one q))))

stops : (bytes : List ℕ) (number : ℕ) → IsFault bytes number → run 1 start [] bytes ≡ Stopped number
stops bytes number f =
    let g = f.goes in
    let a = arrives f.before f.lines f.are g.rest g.transcript (run_transcript (f.before ++ g.rest) g.transcript g.is) in
    ap (run 1 start []) f.split ∙ run_reached f.before f.lines a.reader a.reached f.rest ∙ stops_by f.before f.rest f.lines a.reader a.reached f.stuck ∙ ap Stopped (sym f.count)

pub fault_once : (bytes : List ℕ) (number other : ℕ) → IsFault bytes number → IsFault bytes other → number ≡ other
fault_once bytes number other f g = let e : Stopped number ≡ Stopped other = sym (stops bytes number f) ∙ stops bytes other g in cc
