-- protocol
-- What is wrong first in a transcript, where it is known which messages, answers and report are due.
use Rattle.std.specs.Prelude.{◌≡◌, ℕ, ◌+◌, ◌*◌, Bool, nat_lt, if◌then◌else◌, List, ◌++◌, length, take, Option, None, Some, slice_get}
use Rattle.std.specs.List.{prefix_len}
use Rattle.mdr_verify.specs.declared.transcript.Transcript.{Transcript}
use Rattle.mdr_verify.specs.declared.verdict.Wrong.{Wrong}
use Rattle.mdr_verify.specs.declared.verdict.Wrong.TheVariants as wrong
use Rattle.mdr_verify.specs.declared.verdict.Verdict.{Verdict}
use Rattle.mdr_verify.specs.declared.verdict.Verdict.TheVariants as verdict
use Rattle.mdr_verify.specs.Transcripts.{in_line, AreLines}

-- ---- messages

-- the lists are the same up to this place, counted from 0, and differ there. One of them may end there.
pub record DiffersAt (said due : List (List ℕ)) (place : ℕ) : Type 0 where
  pub before : take place said ≡ take place due
  pub there : slice_get said place ≡ slice_get due place → ⊥

abbrev pub FirstDifference : (said due : List (List ℕ)) → Option ℕ → Type 0
FirstDifference said due None = said ≡ due
FirstDifference said due (Some place) = DiffersAt said due place

-- this message is wrong, or there is one where none is due or none where one is, and all before it are right
pub record IsWrongSent (t : Transcript) (sent answers : List (List ℕ)) (number : ℕ) : Type 0 where
  pub place : ℕ
  pub count : number ≡ 2 * place + 1
  pub differs : DiffersAt t.sent sent place
  pub right : take place t.got ≡ take place answers

-- so is this answer
pub record IsWrongAnswer (t : Transcript) (sent answers : List (List ℕ)) (number : ℕ) : Type 0 where
  pub place : ℕ
  pub count : number ≡ 2 * place + 2
  pub right : take (place + 1) t.sent ≡ take (place + 1) sent
  pub differs : DiffersAt t.got answers place

-- messages and answers are counted together, from 1
abbrev pub FirstWrong : (t : Transcript) (sent answers : List (List ℕ)) → Option Wrong → Type 0
FirstWrong t sent answers None = (t.sent ≡ sent) × (t.got ≡ answers)
FirstWrong t sent answers (Some (wrong.Sent number)) = IsWrongSent t sent answers number
FirstWrong t sent answers (Some (wrong.Answer number)) = IsWrongAnswer t sent answers number

-- the message at this place or the answer at that one, whichever comes first
abbrev pub wrong_of : (message answer : Option ℕ) → Option Wrong
wrong_of None None = None
wrong_of None (Some answer) = Some (wrong.Answer (2 * answer + 2))
wrong_of (Some message) None = Some (wrong.Sent (2 * message + 1))
wrong_of (Some message) (Some answer) = if nat_lt answer message then Some (wrong.Answer (2 * answer + 2)) else Some (wrong.Sent (2 * message + 1))

-- ---- reports

-- the first line, and whether a newline ends it
abbrev pub first_line : List ℕ → List ℕ × Bool
first_line bytes = (take (prefix_len in_line bytes) bytes, nat_lt (prefix_len in_line bytes) (length bytes))

-- the lines before this one are the same, and it isn't
pub record IsOtherLine (said due : List ℕ) (number : ℕ) : Type 0 where
  pub before : List ℕ
  pub lines : ℕ
  pub said_rest : List ℕ
  pub due_rest : List ℕ
  pub said_is : said ≡ before ++ said_rest
  pub due_is : due ≡ before ++ due_rest
  pub are : AreLines before lines
  pub count : number ≡ lines + 1
  pub differs : first_line said_rest ≡ first_line due_rest → ⊥

abbrev pub FirstOtherLine : (said due : List ℕ) → Option ℕ → Type 0
FirstOtherLine said due None = said ≡ due
FirstOtherLine said due (Some number) = IsOtherLine said due number

-- ---- the verdict

-- the first wrong message or answer, else the first other line of the report, else the number of messages
abbrev pub IsVerdict : (t : Transcript) (sent answers : List (List ℕ)) (report : List ℕ) → Verdict → Type 0
IsVerdict t sent answers report (verdict.Wrong w) = FirstWrong t sent answers (Some w)
IsVerdict t sent answers report (verdict.Report number) = (t.sent ≡ sent) × (t.got ≡ answers) × IsOtherLine t.report report number
IsVerdict t sent answers report (verdict.Yes number) = (t.sent ≡ sent) × (t.got ≡ answers) × (t.report ≡ report) × (number ≡ length t.sent + length t.got)
