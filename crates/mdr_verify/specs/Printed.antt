-- protocol
-- What is printed of a transcript.
use Rattle.std.specs.Prelude.{ℕ, List, ◌++◌, codes, decimal}
use Rattle.mdr_verify.specs.declared.verdict.Wrong.TheVariants as wrong
use Rattle.mdr_verify.specs.declared.verdict.Verdict.{Verdict}
use Rattle.mdr_verify.specs.declared.verdict.Verdict.TheVariants as verdict

abbrev pub count_line : (word : List ℕ) → ℕ → List ℕ
count_line word n = word ++ (decimal n ++ codes "\n")

-- the bytes are no transcript, from this line on
unfoldable pub form_text : ℕ → List ℕ
form_text number = count_line (codes "differs form ") number

unfoldable pub verdict_text : Verdict → List ℕ
verdict_text (verdict.Wrong (wrong.Sent number)) = count_line (codes "differs kernel ") number
verdict_text (verdict.Wrong (wrong.Answer number)) = count_line (codes "differs user ") number
verdict_text (verdict.Report number) = count_line (codes "differs report ") number
verdict_text (verdict.Yes number) = count_line (codes "verified ") number
