-- A type's text is read as the type, so that no other type has it.
use Rattle.std.proofs.Common.{◌≡◌, ℕ, Bool, true, false, List, [], ◌++◌, length, Some, refl, sym, ap, ◌∙◌, arith}
use Rattle.std.specs.List.{position}
use Rattle.mdr_core.specs.declared.types.Ty.{Ty}
use Rattle.mdr_core.specs.declared.program.StructDef.{StructDef}
use Rattle.mdr_core.specs.TypeText.{text_of}
use Rattle.mdr_plan.specs.Naming.{Naming, is_named, struct_number}
use Rattle.mdr_plan.specs.TypeReading.{behind, type_at}
use Rattle.mdr_plan.proofs.TypesAgain.{after, again}
use Rattle.mdr_plan.proofs.TypesSound.{some_same}
use Rattle.mdr_type_table.specs.Apart.{AreNamed, TextsTellTypesApart, PointerTextsAreRead, names_of}
use Rattle.mdr_type_table.proofs.Numbered.{word_of, place_of, number_of}
use Rattle.mdr_type_table.proofs.Formed.{AreFound, HasText, formed_is_written}

nothing_behind : (starred : Bool) (t p : Ty) → after starred t p [] ≡ (t, [])
unfolding behind
nothing_behind true t p = refl
nothing_behind false t p = refl

read_again : (structs : List StructDef) (names : Naming) (t : Ty) → HasText structs names t → type_at (length (text_of structs t).bytes) names ((text_of structs t).bytes ++ []) ≡ Some (t, [])
read_again structs names t h =
    again names t h.pointer (text_of structs t) (length (text_of structs t).bytes) [] h.written (omega arith) (record { none = refl })
    ∙ ap (λ (q : Ty × List ℕ). Some q) (nothing_behind (text_of structs t).starred t h.pointer)

-- the number of the first struct of the name
abbrev first_named : List StructDef → Naming
first_named structs = λ name. position (is_named name) (names_of structs)

are_found : (structs : List StructDef) → AreNamed structs → AreFound structs (first_named structs)
are_found structs h = record { words = λ s def e. word_of def.name (h.words s def e); numbers = place_of structs h }

pub texts_tell_types_apart : TextsTellTypesApart
texts_tell_types_apart structs t u h ft fu e =
    let one = read_again structs (first_named structs) t (formed_is_written structs (first_named structs) (are_found structs h) t ft.formed) in
    let other = read_again structs (first_named structs) u (formed_is_written structs (first_named structs) (are_found structs h) u fu.formed) in
    let both : (t, []) ≡ (u, []) = some_same {A = Ty × List ℕ} (t, []) (u, []) (sym one ∙ ap (λ (bs : List ℕ). type_at (length bs) (first_named structs) (bs ++ [])) e ∙ other) in
    ap (λ (q : Ty × List ℕ). q.0) both

pub pointer_texts_are_read : PointerTextsAreRead
pointer_texts_are_read structs ty h few f p =
    let w = formed_is_written structs (struct_number (names_of structs)) (record { words = λ s def e. word_of def.name (h.words s def e); numbers = number_of structs h few }) ty f.formed in
    record { pointer = w.pointer; whole = text_of structs ty; written = w.written; points = p; same = refl }
