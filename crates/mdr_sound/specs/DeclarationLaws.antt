-- protocol
-- What holds of all declarations in which no fault is found.
use Rattle.std.specs.Prelude.{◌≡◌, ℕ, List, ◌∷◌, length, Option, Some, slice_get, IsTrue}
use Rattle.mdr_core.specs.declared.place.Place.{Place}
use Rattle.mdr_core.specs.declared.program.Field.{Field}
use Rattle.mdr_core.specs.declared.program.Param.{Param}
use Rattle.mdr_core.specs.declared.program.Program.{Program}
use Rattle.mdr_core.specs.declared.types.Ann.{Ann}
use Rattle.mdr_core.specs.declared.types.Ty.{Ty}
use Rattle.mdr_core.specs.declared.types.Ty.TheVariants as type
use Rattle.mdr_core.specs.Layout.{fields_of}
use Rattle.mdr_core.specs.Sound.{Sibling, Annotates, IsObjectSort, IsSoundStruct, IsTable}
use Rattle.mdr_core.specs.Types.{HasNumber, Scalar, sort_of, is_pointer}
use Rattle.mdr_syntax.specs.declared.tree.AnnText.{AnnText}
use Rattle.mdr_syntax.specs.declared.tree.Decl.{Decl}
use Rattle.mdr_syntax.specs.declared.tree.Head.{Head}
use Rattle.mdr_faults.specs.declared.scope.Candidate.{Candidate}
use Rattle.mdr_faults.specs.declared.scope.Object.{Object}
use Rattle.mdr_faults.specs.declared.scope.Scope.{Scope}
use Rattle.mdr_faults.specs.declared.scope.Signature.{Signature}
use Rattle.mdr_faults.specs.Declarations.{declarator, object_declared}
use Rattle.mdr_faults.specs.Faults.{Right}
use Rattle.mdr_headings.specs.declared.head.Heading.{Heading}
use Rattle.mdr_headings.specs.Annotations.{annotated}
use Rattle.mdr_headings.specs.Heads.{heading}
use Rattle.mdr_headings.specs.Source.{signature}
use Rattle.mdr_headings.specs.Structs.{struct_fields}
use Rattle.mdr_check.specs.Tables.{type_table}
use Rattle.mdr_program.specs.Orders.{IsAmong}
use Rattle.mdr_sound.specs.Declared.{IsSomeType, AreNumbered, IsSoundObject, SeesSiblings, IsKnownStruct, IsSoundHeading, IsSignatureOf}
use Rattle.mdr_sound.specs.Standing.{Stands}

-- a declarator's type is one; as that of a parameter it is a scalar
abbrev pub DeclaratorsHaveTypes : Type 0
DeclaratorsHaveTypes = (program : Program) (scope : Scope) (d : Decl) (t : Ty) → Stands program scope
    → ((declarator scope d).whole ≡ Right t → IsSomeType program t) × ((declarator scope d).parameter ≡ Right t → sort_of (length program.structs) t ≡ Scalar)

abbrev pub ObjectsAreSound : Type 0
ObjectsAreSound = (program : Program) (scope : Scope) (limit : Place) (d : Decl) (o : Object) → Stands program scope → object_declared scope limit d ≡ Right o → IsSoundObject program scope o

abbrev pub AnnotationsAreSound : Type 0
AnnotationsAreSound = (program : Program) (scope : Scope) (candidates : List Candidate) (siblings : List Sibling) (p : Place) (t : Ty) (text : Option AnnText) (a : Ann)
    → Stands program scope → SeesSiblings candidates siblings → annotated scope candidates p t text ≡ Right a → Annotates program siblings t a

-- a struct's number is that of those before it
abbrev pub StructsAreSound : Type 0
StructsAreSound = (program : Program) (scope : Scope) (p : Place) (name : List ℕ) (ds : List Decl) (xs : List Field)
    → Stands program scope → ((f : ℕ) (x : Field) → slice_get xs f ≡ Some x → HasNumber program x.ty) → struct_fields scope p ds ≡ Right xs → IsSoundStruct program (length scope.structs) (record { name = name; fields = xs })

-- where the program has these fields
abbrev pub StructsAreKnown : Type 0
StructsAreKnown = (program : Program) (scope : Scope) (p : Place) (ds : List Decl) (xs : List Field)
    → Stands program scope → struct_fields scope p ds ≡ Right xs → fields_of program.structs (length scope.structs) ≡ xs → IsKnownStruct program scope p ds (length scope.structs)

abbrev pub HeadingsAreSound : Type 0
HeadingsAreSound = (program : Program) (scope : Scope) (h : Head) (x : Heading)
    → Stands program scope → ((i : ℕ) (p : Param) → slice_get x.params i ≡ Some p → HasNumber program p.ty) → heading scope h ≡ Right x → IsSoundHeading program x

-- a heading has the types that uses of the function see, and a pointer to the function is one to a function
pub record HasSignature (program : Program) (n : ℕ) (s : Signature) (x : Heading) : Type 0 where
  pub signature : IsSignatureOf n s x
  pub formed : sort_of (length program.structs) (type.Fun (s.result ∷ s.params)) ≡ Scalar

abbrev pub HeadingsHaveSignatures : Type 0
HeadingsHaveSignatures = (program : Program) (scope other : Scope) (n : ℕ) (h : Head) (s : Signature) (x : Heading)
    → AreNumbered scope (length program.structs) → scope.tags ≡ other.tags → signature scope n h ≡ Right s → heading other h ≡ Right x → HasSignature program n s x

-- a table of types of objects
abbrev pub TablesAreSound : Type 0
TablesAreSound = (program : Program) (occurring : List Ty)
    → program.types ≡ type_table program.structs occurring → ((t : Ty) → IsAmong t occurring → IsTrue (is_pointer t) → IsObjectSort (sort_of (length program.structs) t)) → IsTable program
