-- for proofs
-- In a file without faults each function that it declares is defined, used or not (C99 6.9, paragraphs 3 and 5).
use Rattle.std.specs.Prelude.{◌≡◌, ℕ, Bool, true, false, List, ◌∷◌, ◌++◌, Option, Some, None, Result, Ok, Err, slice_get}
use Rattle.mdr_core.specs.declared.place.Place.{Place}
use Rattle.mdr_syntax.specs.declared.tree.Head.{Head}
use Rattle.mdr_syntax.specs.declared.tree.Item.{Item}
use Rattle.mdr_syntax.specs.declared.tree.ItemWhat.TheVariants as item
use Rattle.mdr_syntax.specs.declared.tree.Node.{Node}
use Rattle.mdr_faults.specs.declared.fault.Fault.{Fault}
use Rattle.mdr_faults.specs.declared.scope.Entity.{Entity}
use Rattle.mdr_faults.specs.declared.scope.Entity.TheVariants as entity
use Rattle.mdr_faults.specs.declared.scope.Named.{Named}
use Rattle.mdr_faults.specs.declared.scope.Scope.{Scope}
use Rattle.mdr_faults.specs.Faults.{Right}
use Rattle.mdr_faults.specs.Scopes.{entity_named}
use Rattle.mdr_headings.specs.declared.function.Declared.{Declared}
use Rattle.mdr_headings.specs.Functions.{is_defined}
use Rattle.mdr_call.specs.Services.{service_named}
use Rattle.mdr_body.specs.Bodies.{body_rule}
use Rattle.mdr_body.specs.Uses.{first_use}
use Rattle.mdr_typing.specs.Profile.{profile_rules}
use Rattle.mdr_check.specs.declared.file.Piece.{Piece}
use Rattle.mdr_check.specs.Files.{BodyRule, body_scope, first_known, known_behind}
use Rattle.mdr_check.specs.Uses.{UseRule}
use Rattle.mdr_check.specs.Whole.{file_pieces}
use Rattle.mdr_sound.specs.ProperSources.{AreProperItems}

-- each function that a file without faults declares is defined in it
abbrev pub DeclaredFunctionsAreDefined : Type 0
DeclaredFunctionsAreDefined = (body : BodyRule) (uses : UseRule) (items : List Item) (xs : List Piece) (f : ℕ) (d : Declared)
    → file_pieces body uses items ≡ Right xs → slice_get (known_behind (first_known items) items).functions f ≡ Some d → is_defined items d.name ≡ true

-- a function that the file nowhere defines
abbrev pub IsUndefined : List Item → List ℕ → Entity → Type 0
IsUndefined items name (entity.Constant c) = ⊥
IsUndefined items name (entity.Global g o) = ⊥
IsUndefined items name (entity.Function f) = is_defined items name ≡ false

-- or what was wrongly declared
abbrev pub IsUnusable : List Item → List ℕ → Result Entity Fault → Type 0
IsUnusable items name (Ok e) = IsUndefined items name e
IsUnusable items name (Err f) = Unit {0}

-- or nothing
abbrev pub GivesNoUse : List Item → List ℕ → Option Named → Type 0
GivesNoUse items name None = Unit {0}
GivesNoUse items name (Some entry) = IsUnusable items name entry.means

-- what the names of a file mean in the body of a function behind these items
abbrev pub scope_behind : (items before : List Item) → Head → Scope
scope_behind items before h = body_scope (known_behind (first_known items) before) h

-- a function of a file without faults doesn't use such a name for what the file declares, where it is no service's
abbrev pub BodiesUseWhatIsDefined : Type 0
BodiesUseWhatIsDefined = (uses : UseRule) (items before behind : List Item) (xs : List Piece)
    → (p : Place) (h : Head) (is_critical : Bool) (nodes : List Node) (name : List ℕ)
    → AreProperItems items → items ≡ before ++ record { place = p; what = item.Func h is_critical nodes } ∷ behind
    → file_pieces (body_rule profile_rules) uses items ≡ Right xs
    → GivesNoUse items name (entity_named (scope_behind items before h) name) → service_named name ≡ None → first_use h nodes name ≡ None
