-- Going from line to line.
use Rattle.std.proofs.Common.{◌≡◌, ℕ, false, cond, ◌+◌, List, [], ◌∷◌, ◌++◌, Some, None, Result, Ok, Err, refl, sym, ap, subst, ◌∙◌}
use Rattle.std.proofs.lemmas.List.{append-nil}
use Rattle.mdr_verify.specs.declared.reader.Reader.{Reader}
use Rattle.mdr_verify.specs.declared.transcript.Transcript.{Transcript}
use Rattle.mdr_verify.specs.declared.transcript.TranscriptError.{TranscriptError}
use Rattle.mdr_verify.specs.declared.transcript.TranscriptError.TheVariants.{Form, OutOfMemory}
use Rattle.mdr_verify.specs.Transcripts.{IsOneLine, IsTranscript, GoesOn, IsStuck, IsFault, Transcribes}
use Rattle.mdr_verify.specs.Transcripts.IsStuck.{Over, Refused}
use Rattle.mdr_verify.specs.Steps.{start, after, is_whole, transcript_of}
use Rattle.mdr_verify.specs.Reading.{Reached, Progress, Ends}
use Rattle.mdr_verify.specs.Reading.Reached.{Begun, Then}
use Rattle.mdr_verify.proofs.Splits.{IsCut, split_of, behind}
use Rattle.mdr_verify.proofs.Plain.{one_plain}
use Rattle.mdr_verify.proofs.Held.{held, lines_are, goes_on, whole}
use Rattle.mdr_verify.proofs.Running.{Ending, Read, Stopped, on_line, at_end, run, run_line, run_open, run_reached, run_transcript}

pub begins : (bytes : List ℕ) → Progress bytes bytes 1 start
begins bytes = record { before = []; lines = 0; split = refl; reached = Begun; count = refl }

pub goes_by : (bytes rest line more : List ℕ) (number : ℕ) (old new : Reader) → Progress bytes rest number old → IsCut rest line more → after old line ≡ Some new → Progress bytes more (number + 1) new
goes_by bytes rest line more number old new p c h =
    let s = split_of rest line more c in
    record {
      before = p.before ++ (line ++ 10 ∷ []);
      lines = p.lines + 1;
      split = p.split ∙ ap (λ bs. p.before ++ bs) s.whole ∙ sym (behind p.before line more);
      reached = Then p.before line p.lines old new p.reached s.one h;
      count = ap (λ n. n + 1) p.count;
    }

not_both : (t : Transcript) (n : ℕ) (e : Ending) → e ≡ Read t → e ≡ Stopped n → ⊥
not_both t n e f g = let q : Read t ≡ Stopped n = sym f ∙ g in absurd (Prim.cc)

fault : (bytes rest : List ℕ) (number : ℕ) (r : Reader) (p : Progress bytes rest number r) → IsStuck p.before rest → IsFault bytes number
fault bytes rest number r p stuck = record {
  before = p.before;
  rest = rest;
  lines = p.lines;
  split = p.split;
  are = lines_are p.before p.lines r p.reached;
  count = p.count;
  goes = goes_on p.before r (held p.before p.lines r p.reached);
  stuck = stuck;
}

-- no transcript goes on with a line that isn't taken
none_goes : (before line : List ℕ) (n : ℕ) (r : Reader) → Reached before n r → IsOneLine line → after r line ≡ None → GoesOn (before ++ (line ++ 10 ∷ [])) → ⊥
none_goes before line n r reached one none g =
    let text = (before ++ (line ++ 10 ∷ [])) ++ g.rest in
    let stops : run 1 start [] text ≡ Stopped (n + 1) =
    ap (run 1 start []) (behind before line g.rest) ∙ run_reached before n r reached (line ++ 10 ∷ g.rest) ∙ run_line (n + 1) r line g.rest (one_plain line one)
    ∙ ap (λ o. on_line o (λ s. run (n + 1 + 1) s [] g.rest) (Stopped (n + 1))) none in
    not_both g.transcript (n + 1) (run 1 start [] text) (run_transcript text g.transcript g.is) stops

-- what is left without a newline ends no transcript
none_ends : (before rest : List ℕ) (n : ℕ) (r : Reader) → Reached before n r → IsOneLine rest → at_end (n + 1) r rest ≡ Stopped (n + 1) → (t : Transcript) → IsTranscript (before ++ rest) t → ⊥
none_ends before rest n r reached one stops t h =
    not_both t (n + 1) (run 1 start [] (before ++ rest)) (run_transcript (before ++ rest) t h) (run_reached before n r reached rest ∙ run_open (n + 1) r rest (one_plain rest one) ∙ stops)

pub refused_by : (bytes rest line more : List ℕ) (number : ℕ) (r : Reader) → Progress bytes rest number r → IsCut rest line more → after r line ≡ None → IsFault bytes number
refused_by bytes rest line more number r p c none =
    let s = split_of rest line more c in
    fault bytes rest number r p (Refused line more s.whole s.one (none_goes p.before line p.lines r p.reached s.one none))

some_end : (n : ℕ) (r : Reader) (rest : List ℕ) → (rest ≡ [] → ⊥) → at_end n r rest ≡ Stopped n
some_end n r [] h = absurd (h refl)
some_end n r (b ∷ rest) h = refl

pub open_line : (bytes rest : List ℕ) (number : ℕ) (r : Reader) → Progress bytes rest number r → IsOneLine rest → (rest ≡ [] → ⊥) → IsFault bytes number
open_line bytes rest number r p one some =
    fault bytes rest number r p (Over one (none_ends p.before rest p.lines r p.reached one (some_end (p.lines + 1) r rest some)))

no_end : (bytes rest : List ℕ) (number : ℕ) (r : Reader) → Progress bytes rest number r → rest ≡ [] → is_whole r.stage ≡ false → IsFault bytes number
no_end bytes rest number r p e h =
    fault bytes rest number r p (Over (subst IsOneLine (sym e) refl) (none_ends p.before rest p.lines r p.reached (subst IsOneLine (sym e) refl)
    (ap (at_end (p.lines + 1) r) e ∙ ap (λ v. cond v (Read (transcript_of r)) (Stopped (p.lines + 1))) h)))

pub finished : (bytes rest : List ℕ) (number : ℕ) (r : Reader) (result : Result Transcript TranscriptError) → Progress bytes rest number r → rest ≡ [] → Ends r number result → Transcribes bytes result
finished bytes rest number r (Ok t) p e h =
    let same : bytes ≡ p.before = p.split ∙ ap (λ bs. p.before ++ bs) e ∙ append-nil p.before in
    subst (λ bs. IsTranscript bs t) (sym same) (subst (IsTranscript p.before) (sym h.1) (whole p.before r (held p.before p.lines r p.reached) h.0))
finished bytes rest number r (Err (Form n)) p e h = let q : n ≡ number = cc in subst (IsFault bytes) (sym q) (no_end bytes rest number r p e h.0)
finished bytes rest number r (Err OutOfMemory) p e h = tt
