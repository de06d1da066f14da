-- The rules of constants and of types by their names look at no place.
use Rattle.mdr_core.specs.Kinds.{is_in_range}
use Rattle.mdr_core.specs.Types.{is_scalar}
use Rattle.mdr_core.specs.declared.kind.Kind.{Kind}
use Rattle.mdr_core.specs.declared.place.Place.{Place}
use Rattle.mdr_faults.specs.Declarations.{base_type, constant, constant_entity, constant_named, enumerated, enumerator_value, is_void, parameter_type, result_type, struct_named, type_named}
use Rattle.mdr_faults.specs.Faults.{Checked}
use Rattle.mdr_faults.specs.Scopes.{tag_named}
use Rattle.mdr_faults.specs.declared.scope.Constant.{Constant}
use Rattle.mdr_faults.specs.declared.scope.Entity.{Entity}
use Rattle.mdr_faults.specs.declared.scope.Named.{Named}
use Rattle.mdr_faults.specs.declared.scope.Scope.{Scope}
use Rattle.mdr_faults.specs.declared.scope.Tag.{Tag}
use Rattle.mdr_placeless.proofs.Combined.{after_alike, chosen_alike}
use Rattle.mdr_placeless.proofs.Scopes.{AreNamed, AreScopes, Pairs, Perhaps, again_alike, entity_alike, tag_alike}
use Rattle.mdr_placeless.proofs.Scopes.Pairs.{Cons, Nil}
use Rattle.mdr_placeless.proofs.Scopes.Perhaps.{Nones, Somes}
use Rattle.mdr_placeless.specs.Alike.{AreAlike}
use Rattle.mdr_placeless.specs.Alike.AreAlike.{Rights, Wrongs}
use Rattle.mdr_postfix.specs.Subscripts.{is_array}
use Rattle.mdr_roundtrip.specs.Declarations.{unplaced_annotation}
use Rattle.mdr_roundtrip.specs.Initialised.{unplaced_const}
use Rattle.mdr_roundtrip.specs.Unplaced.{unplaced_base}
use Rattle.mdr_syntax.specs.declared.tree.AnnText.{AnnText}
use Rattle.mdr_syntax.specs.declared.tree.Base.{Base}
use Rattle.mdr_syntax.specs.declared.tree.Const.{Const}
use Rattle.std.proofs.Common.{Bool, List, None, Option, Some, [], map, not, option_map, subst, ℕ, ℤ, ◌&&◌, ◌||◌, ◌∷◌}
use Rattle.mdr_core.specs.declared.kind.Kind.TheVariants.{S32}
use Rattle.mdr_core.specs.declared.types.Ty.{Ty}
use Rattle.mdr_faults.specs.declared.scope.Entity.TheVariants as entity
use Rattle.mdr_syntax.specs.declared.tree.AnnText.TheVariants as text
use Rattle.mdr_syntax.specs.declared.tree.Base.TheVariants as base
use Rattle.mdr_syntax.specs.declared.tree.Const.TheVariants as const

-- ---- what is written

pub data AreConsts : Const → Const → Type 0 where
  Numbers : (p q : Place) (is_negative : Bool) (n : ℕ) (k : Kind) → AreConsts (const.Number p is_negative n k) (const.Number q is_negative n k)
  Worded : (p q : Place) (name : List ℕ) → AreConsts (const.Name p name) (const.Name q name)

pub data AreTexts : AnnText → AnnText → Type 0 where
  Arrays : {c d : Const} → AreConsts c d → AreTexts (text.Array c) (text.Array d)
  Sentinels : (p q : Place) (name : List ℕ) → AreTexts (text.Sentinel p name) (text.Sentinel q name)
  Terms : AreTexts text.NullTerm text.NullTerm
  Opaques : AreTexts text.Opaque text.Opaque

pub data AreBases : Base → Base → Type 0 where
  Ints : (k : Kind) → AreBases (base.Int k) (base.Int k)
  Structs : (p q : Place) (name : List ℕ) → AreBases (base.Struct p name) (base.Struct q name)
  Voids : AreBases base.Void base.Void
  Locks : AreBases base.Lock base.Lock

pub consts : (c : Const) → AreConsts c (unplaced_const c)
consts (const.Number p is_negative n k) = Numbers _ _ _ _ _
consts (const.Name p name) = Worded _ _ _

pub texts : (a : AnnText) → AreTexts a (unplaced_annotation a)
texts (text.Array c) = Arrays (consts c)
texts (text.Sentinel p name) = Sentinels _ _ _
texts text.NullTerm = Terms
texts text.Opaque = Opaques

pub bases : (b : Base) → AreBases b (unplaced_base b)
bases (base.Int k) = Ints k
bases (base.Struct p name) = Structs _ _ _
bases base.Void = Voids
bases base.Lock = Locks

pub perhaps_map : {A : Type 0} {R : A → A → Type 0} (f : A → A) → ((x : A) → R x (f x)) → (o : Option A) → Perhaps R o (option_map f o)
perhaps_map f h None = Nones
perhaps_map f h (Some x) = Somes (h x)

pub pairs_each : {A : Type 0} {R : A → A → Type 0} (f : A → A) → ((x : A) → R x (f x)) → (xs : List A) → Pairs R xs (map f xs)
pairs_each f h [] = Nil
pairs_each f h (x ∷ xs) = Cons (h x) (pairs_each f h xs)

-- ---- constants

constant_entities : (p q : Place) (x : Entity) → AreAlike (constant_entity p x) (constant_entity q x)
constant_entities p q (entity.Constant c) = Rights c
constant_entities p q (entity.Global g o) = Wrongs _ _
constant_entities p q (entity.Function f) = Wrongs _ _

constants_named : (at there p q : Place) {n m : Option Named} → Perhaps AreNamed n m → AreAlike (constant_named at p n) (constant_named there q m)
constants_named at there p q Nones = Wrongs _ _
constants_named at there p q (Somes r) = after_alike (again_alike r.mean) (constant_entities p q)

pub constants : {s t : Scope} → AreScopes s t → (p q : Place) {c d : Const} → AreConsts c d → AreAlike (constant s p c) (constant t q d)
constants a p q (Numbers at there b n k) = Rights _
constants a p q (Worded at there name) = constants_named at there p q (entity_alike a name)

-- ---- enumerators

values_from : (p q : Place) (n : ℤ) → AreAlike (enumerated p n) (enumerated q n)
values_from p q n = chosen_alike (is_in_range S32 n) (Rights _) (Wrongs _ _)

pub enumerator_values : {s t : Scope} → AreScopes s t → (p q : Place) {c d : Checked Constant} → AreAlike c d → {o o' : Option Const} → Perhaps AreConsts o o' → AreAlike (enumerator_value s p c o) (enumerator_value t q d o')
enumerator_values a p q h Nones = after_alike h (λ c. values_from p q _)
enumerator_values a p q h (Somes r) = after_alike (constants a p q r) (λ c. values_from p q _)

-- ---- types by their names

structs_named : (p q : Place) (o : Option Tag) → AreAlike (struct_named p o) (struct_named q o)
structs_named p q None = Wrongs _ _
structs_named p q (Some t) = Rights _

base_types : {s t : Scope} → AreScopes s t → {b c : Base} → AreBases b c → AreAlike (base_type s b) (base_type t c)
base_types a (Ints k) = Rights _
base_types {s = s} a (Structs p q name) = subst (λ (o : Option Tag). AreAlike (struct_named p (tag_named s name)) (struct_named q o)) (tag_alike a name) (structs_named p q (tag_named s name))
base_types a Voids = Rights _
base_types a Locks = Rights _

pub types_named : {s t : Scope} → AreScopes s t → {b c : Base} → AreBases b c → (n : ℕ) → AreAlike (type_named s b n) (type_named t c n)
types_named a h n = after_alike (base_types a h) (λ t. Rights _)

pub result_types : (p q : Place) (t : Ty) → AreAlike (result_type p t) (result_type q t)
result_types p q t = chosen_alike (is_scalar t || is_void t) (Rights _) (Wrongs _ _)

pub parameter_types : (p q : Place) (is_array : Bool) (t : Ty) → AreAlike (parameter_type p is_array t) (parameter_type q is_array t)
parameter_types p q is_array t = chosen_alike (is_scalar t && not is_array) (Rights _) (Wrongs _ _)
