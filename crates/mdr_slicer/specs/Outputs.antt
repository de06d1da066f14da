-- believed
-- The files that a source is cut into, and what is printed of them.
use Rattle.std.specs.Prelude.{ℕ, List, [], ◌∷◌, ◌++◌, length, codes, decimal}
use Rattle.std.specs.String.{string_bytes}
use Rattle.mdr_cut.specs.declared.texts.Texts.{Texts}
use Rattle.mdr_due.specs.Lines.{newline}
use Rattle.mdr_slicer.specs.declared.outputs.File.{File}

-- a file is its name and its bytes
abbrev pub NamedBytes : Type 0
NamedBytes = List ℕ × List ℕ

abbrev pub file_of : File → NamedBytes
file_of file = (string_bytes file.name, file.bytes)

-- the files of a source of this name, in the order in which they are written
abbrev pub outputs : (name : List ℕ) → Texts → List NamedBytes
outputs name texts = (name ++ codes ".k.c", texts.kernel) ∷ (name ++ codes ".u.c", texts.user) ∷ (name ++ codes ".plan", texts.plan) ∷ []

-- `NAME LENGTH`
abbrev pub length_line : NamedBytes → List ℕ
length_line file = file.0 ++ (codes " " ++ (decimal (length file.1) ++ newline))

abbrev pub length_lines : List NamedBytes → List ℕ
length_lines [] = []
length_lines (file ∷ files) = length_line file ++ length_lines files
