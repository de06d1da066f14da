-- protocol
-- What declarations come to, as of the program that the file comes to (C99 6.2.5, 6.7).
use Rattle.std.specs.Prelude.{◌≡◌, ◌⊎◌, ℕ, ◌<◌, ◌≤◌, true, List, map, length, Some, Ok, slice_get}
use Rattle.mdr_core.specs.declared.place.Place.{Place}
use Rattle.mdr_core.specs.declared.program.Param.{Param}
use Rattle.mdr_core.specs.declared.program.Program.{Program}
use Rattle.mdr_core.specs.declared.types.Ty.{Ty}
use Rattle.mdr_core.specs.declared.types.Ty.TheVariants as type
use Rattle.mdr_core.specs.Layout.{struct_of, fields_of, struct_cells}
use Rattle.mdr_core.specs.Sound.{Sibling, sibling_param, IsIntegerSibling, Annotates, IsObjectSort, IsCount, IsSoundParam, all_cells}
use Rattle.mdr_core.specs.Types.{Sort, Wrong, Empty, Locks, Aggregate, Scalar, sort_of}
use Rattle.mdr_syntax.specs.declared.tree.Decl.{Decl}
use Rattle.mdr_faults.specs.declared.scope.Candidate.{Candidate}
use Rattle.mdr_faults.specs.declared.scope.Member.{Member}
use Rattle.mdr_faults.specs.declared.scope.Object.{Object}
use Rattle.mdr_faults.specs.declared.scope.Scope.{Scope}
use Rattle.mdr_faults.specs.declared.scope.Signature.{Signature}
use Rattle.mdr_faults.specs.declared.scope.Tag.{Tag}
use Rattle.mdr_faults.specs.Scopes.{tag_named}
use Rattle.mdr_headings.specs.declared.head.Heading.{Heading}
use Rattle.mdr_headings.specs.Structs.{struct_entry}
use Rattle.mdr_sound.specs.Knowing.{IsKnownField}

-- `void`, or a type of objects
abbrev pub IsSomeSort : Sort → Type 0
IsSomeSort Wrong = ⊥
IsSomeSort Empty = Unit {0}
IsSomeSort Locks = Unit {0}
IsSomeSort Aggregate = Unit {0}
IsSomeSort Scalar = Unit {0}

abbrev pub IsSomeType : Program → Ty → Type 0
IsSomeType program t = IsSomeSort (sort_of (length program.structs) t)

-- structs that have names are among the first n
pub record AreNumbered (scope : Scope) (n : ℕ) : Type 0 where
  pub below : (name : List ℕ) (t : Tag) → tag_named scope name ≡ Some t → t.number < n

-- a field, a global or a local: its struct is complete in this scope
pub record IsSoundObject (program : Program) (scope : Scope) (o : Object) : Type 0 where
  pub sort : IsObjectSort (sort_of (length program.structs) o.ty)
  pub count : IsCount o.array o.count
  pub small : length (all_cells program o.ty o.count) ≤ 65536
  pub lower : (s : ℕ) → struct_of o.ty ≡ Some s → s < length scope.structs

-- what an annotation sees of the fields or parameters beside it is so
pub record SeesSiblings (candidates : List Candidate) (siblings : List Sibling) : Type 0 where
  pub integers : (i : ℕ) (c : Candidate) → slice_get candidates i ≡ Some c → c.is_integer ≡ true → IsIntegerSibling siblings i

-- struct s of the program keeps the limits, and what is known behind it is so
pub record IsKnownStruct (program : Program) (scope : Scope) (p : Place) (ds : List Decl) (s : ℕ) : Type 0 where
  pub small : length (struct_cells program.structs s) ≤ 65536
  pub few : length (fields_of program.structs s) ≤ 64
  pub size : (n : ℕ) → (struct_entry scope p ds).cells ≡ Ok n → length (struct_cells program.structs s) ≡ n
  pub many : length (struct_entry scope p ds).members ≡ length (fields_of program.structs s)
  pub members : (f : ℕ) (m : Member) (o : Object) → slice_get (struct_entry scope p ds).members f ≡ Some m → m.means ≡ Ok o → IsKnownField program s f o

-- a function's result and parameters
pub record IsSoundHeading (program : Program) (x : Heading) : Type 0 where
  pub result : (sort_of (length program.structs) x.result ≡ Scalar) ⊎ (x.result ≡ type.Void)
  pub annotation : Annotates program (map sibling_param x.params) x.result x.ann
  pub params : (i : ℕ) (p : Param) → slice_get x.params i ≡ Some p → IsSoundParam program (map sibling_param x.params) p

-- a function's type, as its uses see it
pub record IsSignatureOf (n : ℕ) (s : Signature) (x : Heading) : Type 0 where
  pub number : s.number ≡ n
  pub result_is : s.result ≡ x.result
  pub params_are : s.params ≡ map (λ (p : Param). p.ty) x.params
