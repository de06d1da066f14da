-- protocol
-- What a line shows. 62 is `>`, 60 is `<`, 32 a blank.
use Rattle.std.specs.Prelude.{ℕ, ◌==◌, ◌&&◌, if◌then◌else◌, List, [], ◌∷◌, Option, Some, None}
use Rattle.mdr_verify.specs.declared.line.Line.{Line}
use Rattle.mdr_verify.specs.declared.line.Line.TheVariants as line
use Rattle.mdr_verify.specs.Digits.{message_of}

-- what stands behind a mark and a blank
abbrev pub behind_mark : (mark : ℕ) → List ℕ → Option (List ℕ)
behind_mark mark [] = None
behind_mark mark (a ∷ []) = None
behind_mark mark (a ∷ b ∷ digits) = if a == mark && b == 32 then Some digits else None

abbrev pub sent_by : Option (List ℕ) → Line
sent_by (Some message) = line.Sent message
sent_by None = line.Other

abbrev pub got_by : Option (List ℕ) → Line
got_by (Some message) = line.Got message
got_by None = line.Other

abbrev pub got_or_other : Option (List ℕ) → Line
got_or_other (Some digits) = got_by (message_of digits)
got_or_other None = line.Other

abbrev pub line_by : (sent got : Option (List ℕ)) → Line
line_by (Some digits) got = sent_by (message_of digits)
line_by None got = got_or_other got

abbrev pub line_at : List ℕ → Line
line_at bytes = line_by (behind_mark 62 bytes) (behind_mark 60 bytes)
