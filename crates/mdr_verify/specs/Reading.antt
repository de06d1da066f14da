-- protocol
-- How far a text was read.
use Rattle.std.specs.Prelude.{◌≡◌, ℕ, ◌+◌, ◌<◌, true, false, List, [], ◌∷◌, ◌++◌, length, take, drop, Some, Result, Ok, Err}
use Rattle.std.specs.List.{prefix_len}
use Rattle.mdr_verify.specs.declared.reader.Reader.{Reader}
use Rattle.mdr_verify.specs.declared.transcript.Transcript.{Transcript}
use Rattle.mdr_verify.specs.declared.transcript.TranscriptError.{TranscriptError}
use Rattle.mdr_verify.specs.declared.transcript.TranscriptError.TheVariants.{Form}
use Rattle.mdr_verify.specs.Transcripts.{in_line, IsOneLine}
use Rattle.mdr_verify.specs.Steps.{start, after, is_whole, transcript_of}

-- the bytes are this line, a newline, and what stands behind it
abbrev pub Splits : (bytes line rest : List ℕ) → Type 0
Splits bytes line rest = (line ≡ take (prefix_len in_line bytes) bytes) × (rest ≡ drop (1 + prefix_len in_line bytes) bytes) × (prefix_len in_line bytes < length bytes)

-- the text is so many lines, each of which may stand behind those before it, and this was read
pub data Reached : List ℕ → ℕ → Reader → Type 0 where
  Begun : Reached [] 0 start
  Then : (text bytes : List ℕ) (n : ℕ) (r s : Reader) → Reached text n r → IsOneLine bytes → after r bytes ≡ Some s → Reached (text ++ (bytes ++ 10 ∷ [])) (n + 1) s

-- so much was read before this line, counted from 1
pub record Progress (bytes rest : List ℕ) (number : ℕ) (r : Reader) : Type 0 where
  pub before : List ℕ
  pub lines : ℕ
  pub split : bytes ≡ before ++ rest
  pub reached : Reached before lines r
  pub count : number ≡ lines + 1

-- at the text's end
abbrev pub Ends : Reader → ℕ → Result Transcript TranscriptError → Type 0
Ends r number (Ok t) = (is_whole r.stage ≡ true) × (t ≡ transcript_of r)
Ends r number (Err e) = (is_whole r.stage ≡ false) × (e ≡ Form number)
