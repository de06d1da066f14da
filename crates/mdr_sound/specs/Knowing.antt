-- protocol
-- What a scope and the names of locals say of a program (C99 6.2.1): each name that means something stands for what the program has.
use Rattle.std.specs.Prelude.{◌≡◌, ℕ, ◌<◌, ◌≤◌, false, List, ◌∷◌, length, Some, Ok, slice_get, IsTrue, pos}
use Rattle.mdr_core.specs.declared.program.Field.{Field}
use Rattle.mdr_core.specs.declared.program.Func.{Func}
use Rattle.mdr_core.specs.declared.program.GlobalDef.{GlobalDef}
use Rattle.mdr_core.specs.declared.program.Program.{Program}
use Rattle.mdr_core.specs.declared.types.Ty.{Ty}
use Rattle.mdr_core.specs.declared.types.Ty.TheVariants as type
use Rattle.mdr_core.specs.Kinds.{is_in_range}
use Rattle.mdr_core.specs.Layout.{fields_of}
use Rattle.mdr_core.specs.Sound.{IsObjectSort}
use Rattle.mdr_core.specs.Types.{Scalar, is_scalar, sort_of}
use Rattle.mdr_core.specs.Typing.{Slot, function_type}
use Rattle.mdr_faults.specs.declared.scope.Entity.{Entity}
use Rattle.mdr_faults.specs.declared.scope.Entity.TheVariants as entity
use Rattle.mdr_faults.specs.declared.scope.Member.{Member}
use Rattle.mdr_faults.specs.declared.scope.Named.{Named}
use Rattle.mdr_faults.specs.declared.scope.Object.{Object}
use Rattle.mdr_faults.specs.declared.scope.Scope.{Scope}
use Rattle.mdr_faults.specs.declared.scope.Signature.{Signature}
use Rattle.mdr_faults.specs.declared.scope.StructEntry.{StructEntry}
use Rattle.mdr_faults.specs.declared.scope.Tag.{Tag}
use Rattle.mdr_faults.specs.Scopes.{entity_named, tag_named}
use Rattle.mdr_operand.specs.declared.room.LocalName.{LocalName}
use Rattle.mdr_operand.specs.Rooms.{local_named}
use Rattle.mdr_operand.specs.Written.{Written, Writtens}
use Rattle.mdr_body.specs.Addresses.{takes_in, takes_among}

-- ---- types

-- a type of objects, to which pointers point (6.2.5, paragraphs 1 and 20)
abbrev pub IsFormed : Program → Ty → Type 0
IsFormed program t = IsObjectSort (sort_of (length program.structs) t)

-- ---- names of the file

-- a global of a program
pub record IsKnownGlobal (program : Program) (g : ℕ) (o : Object) : Type 0 where
  pub def : GlobalDef
  pub names : slice_get program.globals g ≡ Some def
  pub ty : def.ty ≡ o.ty
  pub count : def.count ≡ o.count
  pub array : def.array ≡ o.array
  pub formed : IsFormed program o.ty

-- a function of a program
pub record IsKnownFunction (program : Program) (f : Signature) : Type 0 where
  pub func : Func
  pub names : slice_get program.funcs f.number ≡ Some func
  pub types : function_type func ≡ type.Fun (f.result ∷ f.params)
  pub formed : sort_of (length program.structs) (type.Fun (f.result ∷ f.params)) ≡ Scalar

-- a constant is one of its kind
abbrev pub IsKnownEntity : Program → Entity → Type 0
IsKnownEntity program (entity.Constant c) = IsTrue (is_in_range c.kind c.number)
IsKnownEntity program (entity.Global g o) = IsKnownGlobal program g o
IsKnownEntity program (entity.Function f) = IsKnownFunction program f

-- a field of a struct of a program
pub record IsKnownField (program : Program) (s f : ℕ) (o : Object) : Type 0 where
  pub field : Field
  pub names : slice_get (fields_of program.structs s) f ≡ Some field
  pub ty : field.ty ≡ o.ty
  pub count : field.count ≡ o.count
  pub array : field.array ≡ o.array
  pub formed : IsFormed program o.ty

-- what a scope knows is so in the program
pub record Knows (program : Program) (scope : Scope) : Type 0 where
  pub entities : (name : List ℕ) (entry : Named) (e : Entity) → entity_named scope name ≡ Some entry → entry.means ≡ Ok e → IsKnownEntity program e
  pub members : (s f : ℕ) (entry : StructEntry) (m : Member) (o : Object) → slice_get scope.structs s ≡ Some entry → slice_get entry.members f ≡ Some m → m.means ≡ Ok o → IsKnownField program s f o
  pub tags : (name : List ℕ) (t : Tag) → tag_named scope name ≡ Some t → t.number < length program.structs
  pub complete : length scope.structs ≤ length program.structs

-- ---- names of a function

-- a parameter or a local of a function with these slots. Only a single scalar lies in a slot without being an object
pub record IsKnownLocal (program : Program) (slots : List Slot) (n : LocalName) (o : Object) : Type 0 where
  pub slot : Slot
  pub names : slice_get slots n.slot ≡ Some slot
  pub kept : slot.object ≡ n.is_object
  pub ty : slot.ty ≡ o.ty
  pub count : slot.count ≡ o.count
  pub array : slot.array ≡ o.array
  pub formed : IsFormed program o.ty
  pub single : n.is_object ≡ false → o.array ≡ false
  pub scalar : n.is_object ≡ false → IsTrue (is_scalar o.ty)

pub record KnowsLocals (program : Program) (slots : List Slot) (names : List LocalName) : Type 0 where
  pub locals : (name : List ℕ) (n : LocalName) (o : Object) → local_named names name ≡ Some n → n.means ≡ Ok o → IsKnownLocal program slots n o

-- ---- expressions

-- each number of an expression is one of its kind (6.4.4.1, paragraph 5)
abbrev mutual
  pub HasNumbers : Written → Type 0
  HasNumbers (Written.Number p n k) = IsTrue (is_in_range k (pos n))
  HasNumbers (Written.Null p) = Unit {0}
  HasNumbers (Written.Name p name) = Unit {0}
  HasNumbers (Written.Prefix p op a) = HasNumbers a
  HasNumbers (Written.Post p op a) = HasNumbers a
  HasNumbers (Written.Cast p base n a) = HasNumbers a
  HasNumbers (Written.Binary p op a b) = HasNumbers a × HasNumbers b
  HasNumbers (Written.Choice p c a b) = HasNumbers c × (HasNumbers a × HasNumbers b)
  HasNumbers (Written.Subscript p a i) = HasNumbers a × HasNumbers i
  HasNumbers (Written.Member p a is_arrow at name) = HasNumbers a
  HasNumbers (Written.Call p f args) = HasNumbers f × HaveNumbers args
  HasNumbers (Written.Text p bytes) = Unit {0}
  HasNumbers (Written.Names p base n) = Unit {0}

  pub HaveNumbers : Writtens → Type 0
  HaveNumbers Writtens.End = Unit {0}
  HaveNumbers (Writtens.Then w ws) = HasNumbers w × HaveNumbers ws

-- the expression takes no address of what lies in a slot (6.5.3.2)
pub record TakesNoSlot (names : List LocalName) (w : Written) : Type 0 where
  pub slots : (name : List ℕ) (n : LocalName) → local_named names name ≡ Some n → n.is_object ≡ false → takes_in name w ≡ false

pub record TakeNoSlot (names : List LocalName) (ws : Writtens) : Type 0 where
  pub slots : (name : List ℕ) (n : LocalName) → local_named names name ≡ Some n → n.is_object ≡ false → takes_among name ws ≡ false
