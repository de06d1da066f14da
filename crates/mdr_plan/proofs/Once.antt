-- A text is one line, and a pointer type's text is its own.
use Rattle.std.proofs.Common.{◌≡◌, ℕ, List, ap, sym, ◌∙◌}
use Rattle.mdr_core.specs.declared.types.Ty.{Ty}
use Rattle.mdr_core.specs.TypeText.{Text, text_of}
use Rattle.mdr_plan.specs.declared.line.Line.{Line}
use Rattle.mdr_plan.specs.declared.reader.Reader.{Reader}
use Rattle.mdr_plan.specs.Lines.{Reads}
use Rattle.mdr_plan.specs.Naming.{struct_number}
use Rattle.mdr_plan.specs.TypeTexts.{IsPointerText, structs_named}
use Rattle.mdr_plan.proofs.LinesAgain.{line_again}
use Rattle.mdr_plan.proofs.TypesSound.{some_same}
use Rattle.mdr_plan.proofs.WrittenTexts.{are_named, written_is}

pub line_once : (r : Reader) (bytes : List ℕ) (k l : Line) → Reads r bytes k → Reads r bytes l → k ≡ l
line_once r bytes k l h g = some_same k l (sym (line_again r bytes k h) ∙ line_again r bytes l g)

pub bytes_are : (names : List (List ℕ)) (ty : Ty) (bytes : List ℕ) → IsPointerText (struct_number names) ty bytes → (text_of (structs_named names) ty).bytes ≡ bytes
bytes_are names ty bytes h = ap (λ (x : Text). x.bytes) (written_is (structs_named names) (struct_number names) ty h.pointer h.whole (are_named names) h.written) ∙ h.same
