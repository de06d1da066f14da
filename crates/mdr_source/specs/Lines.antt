-- believed
-- The line that is printed of a source that is refused.
use Rattle.std.specs.Prelude.{ℕ, List, ◌++◌, codes, decimal}
use Rattle.mdr_core.specs.declared.place.Place.{Place}
use Rattle.mdr_faults.specs.declared.fault.FaultKind.{FaultKind}
use Rattle.mdr_faults.specs.declared.fault.FaultKind.TheVariants.{UnknownName, Redefined, Mismatch, NotAnLvalue, BadAnnotation, IrqTarget, Limit, Incomplete, BadArity}
use Rattle.mdr_source.specs.declared.refusal.Refusal.{Refusal}
use Rattle.mdr_source.specs.declared.refusal.Refusal.TheVariants as refusal

-- the place and the kind
unfoldable pub source_line : Place → (kind : List ℕ) → List ℕ
source_line p kind = codes "source refused " ++ (decimal p.line ++ (codes ":" ++ (decimal p.column ++ (codes " " ++ (kind ++ codes "\n")))))

-- a word of C99 that sources do without
unfoldable pub left_out : (word : List ℕ) → List ℕ
left_out word = codes "NotInProfile " ++ word

abbrev pub fault_word : FaultKind → List ℕ
fault_word UnknownName = codes "UnknownName"
fault_word Redefined = codes "Redefined"
fault_word Mismatch = codes "Mismatch"
fault_word NotAnLvalue = codes "NotAnLvalue"
fault_word BadAnnotation = codes "BadAnnotation"
fault_word IrqTarget = codes "IrqTarget"
fault_word Limit = codes "Limit"
fault_word Incomplete = codes "Incomplete"
fault_word BadArity = codes "BadArity"

abbrev pub refusal_line : Refusal → List ℕ
refusal_line (refusal.BadByte p) = source_line p (codes "BadByte")
refusal_line (refusal.BadNumber p) = source_line p (codes "BadNumber")
refusal_line (refusal.OpenComment p) = source_line p (codes "OpenComment")
refusal_line (refusal.OpenText p) = source_line p (codes "OpenText")
refusal_line (refusal.NotInProfile p word) = source_line p (left_out word)
refusal_line (refusal.Expected p) = source_line p (codes "Expected")
refusal_line (refusal.Fault f) = source_line f.place (fault_word f.kind)
