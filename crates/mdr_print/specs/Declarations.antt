-- believed
-- Declarations and initialisers (C99 6.7).
use Rattle.std.specs.Prelude.{ℕ, Bool, true, false, ◌==◌, ◌&&◌, is_none, List, [], ◌∷◌, map, Option, Some, None, codes}
use Rattle.std.specs.Option.{option_map}
use Rattle.mdr_syntax.specs.declared.tree.AnnText.{AnnText}
use Rattle.mdr_syntax.specs.declared.tree.AnnText.TheVariants as ann
use Rattle.mdr_syntax.specs.declared.tree.Base.{Base}
use Rattle.mdr_syntax.specs.declared.tree.Base.TheVariants as base
use Rattle.mdr_syntax.specs.declared.tree.Const.{Const}
use Rattle.mdr_syntax.specs.declared.tree.Const.TheVariants as const
use Rattle.mdr_syntax.specs.declared.tree.Decl.{Decl, out-Decl}
use Rattle.mdr_syntax.specs.declared.tree.Decl.TheOpen.{Decl-F}
use Rattle.mdr_syntax.specs.declared.tree.Decl.TheFolds.{fold-Decl}
use Rattle.mdr_syntax.specs.declared.tree.Enumerator.{Enumerator}
use Rattle.mdr_syntax.specs.declared.tree.FieldName.{FieldName}
use Rattle.mdr_syntax.specs.declared.tree.Head.{Head}
use Rattle.mdr_syntax.specs.declared.tree.Init.{Init}
use Rattle.mdr_syntax.specs.declared.tree.Elem.{Elem}
use Rattle.mdr_syntax.specs.declared.tree.Init.TheOpen.{Init-F, Elem-F}
use Rattle.mdr_syntax.specs.declared.tree.Init.TheFolds.{fold-Init, fold-Elem}
use Rattle.mdr_print.specs.Marks.{Marks, word, sign, number, quoted, blank, blank_unless, spaced, comma_list, in_parentheses, in_brackets, in_braces, ◌▸◌}
use Rattle.mdr_print.specs.Types.{base_name, stars}

abbrev pub minus : (is_negative : Bool) → Marks
minus true rest = sign (codes "-") rest
minus false rest = rest

abbrev pub constant : Const → Marks
constant (const.Number place is_negative n kind) = minus is_negative ▸ number n kind
constant (const.Name place name) = word name

-- ---- declarators

abbrev pub annotation : AnnText → Marks
annotation (ann.Array c) = word (codes "__array") ▸ in_parentheses (constant c)
annotation (ann.Sentinel place name) = word (codes "__sentinel") ▸ in_parentheses (word name)
annotation ann.NullTerm = word (codes "__nullterm")
annotation ann.Opaque = word (codes "__opaque")

-- a blank stands before an annotation
abbrev pub annotated : Option AnnText → Marks
annotated None rest = rest
annotated (Some a) rest = blank (annotation a rest)

abbrev pub named : Option (List ℕ) → Marks
named None rest = rest
named (Some name) rest = word name rest

abbrev pub sized : Option Const → Marks
sized None rest = rest
sized (Some c) rest = in_brackets (constant c) rest

abbrev pub sized_name : Option (List ℕ) → Option Const → Marks
sized_name name size = named name ▸ sized size

-- what is declared behind its base type, and the whole
pub record Declared : Type 0 where
  pub alone : Marks
  pub whole : Marks
  -- whether the whole is `void`
  pub is_void : Bool

abbrev pub whole_of : Declared → Marks
whole_of d = d.whole

abbrev pub const_if : Bool → Marks
const_if true rest = word (codes "const") (blank rest)
const_if false rest = rest

abbrev pub is_lone_void : List Declared → Bool
is_lone_void [] = false
is_lone_void (d ∷ []) = d.is_void
is_lone_void (d ∷ e ∷ ds) = false

-- an empty list is `void`; so a parameter that is `void`, where it stands alone, has a qualifier (6.7.5.3, paragraph 10)
abbrev pub parameter_list : List Declared → Marks
parameter_list [] = word (codes "void")
parameter_list (d ∷ ds) = const_if (is_lone_void (d ∷ ds)) ▸ comma_list (map whole_of (d ∷ ds))

abbrev pub parameters : List Declared → Marks
parameters ds = in_parentheses (parameter_list ds)

-- a name with its size, and around them what makes a function pointer
abbrev pub core : (inner : Marks) → Option (List Declared) → Marks
core inner None = inner
core inner (Some params) = in_parentheses (sign (codes "*") ▸ inner) ▸ parameters params

-- whether the base type stands alone
abbrev pub is_bare : {X : Type 0} → ℕ → Option (List ℕ) → Option X → Bool
is_bare n name fun = n == 0 && is_none name && is_none fun

abbrev pub is_void_base : Base → Bool
is_void_base base.Void = true
is_void_base (base.Int kind) = false
is_void_base (base.Struct place name) = false
is_void_base base.Lock = false

abbrev pub alone_shown : Decl-F Declared → Marks
alone_shown d = stars d.stars ▸ core (sized_name d.name d.size) d.fun ▸ annotated d.ann

abbrev pub decl_shown : Decl-F Declared → Declared
decl_shown d = record {
  alone = alone_shown d;
  whole = base_name d.base ▸ blank_unless (is_bare d.stars d.name d.fun) ▸ alone_shown d;
  is_void = is_void_base d.base && (is_bare d.stars d.name d.fun && (is_none d.size && is_none d.ann));
}

abbrev pub shown_decl : Decl → Declared
shown_decl = fold-Decl Declared decl_shown

abbrev pub declaration : Decl → Marks
declaration d = (shown_decl d).whole

abbrev pub declarator : Decl → Marks
declarator d = (shown_decl d).alone

-- its name with its size, and its parameters
abbrev pub core_of : Decl → Marks
core_of d = core (sized_name (out-Decl d).name (out-Decl d).size) (option_map (map shown_decl) (out-Decl d).fun)

abbrev pub head : Head → Marks
head h = base_name h.base ▸ blank ▸ stars h.stars ▸ word h.name ▸ parameters (map shown_decl h.params) ▸ annotated h.ann

-- ---- initialisers and enumeration constants

-- around every `=` stands a blank
abbrev pub equals : Marks
equals = spaced (codes "=")

abbrev pub designator : Option FieldName → Marks
designator None rest = rest
designator (Some f) rest = sign (codes ".") (word f.name (equals rest))

abbrev pub init_shown : Init-F Marks Marks → Marks
init_shown (Init-F.Const c) = constant c
init_shown (Init-F.Null place) = word (codes "NULL")
init_shown (Init-F.Address place name) = sign (codes "&") ▸ word name
init_shown (Init-F.Text place bytes) = quoted bytes
init_shown (Init-F.List place elems) = in_braces (comma_list elems)

abbrev pub elem_shown : Elem-F Marks Marks → Marks
elem_shown e = designator e.field ▸ e.init

abbrev pub init : Init → Marks
init = fold-Init Marks Marks init_shown elem_shown

abbrev pub elem : Elem → Marks
elem = fold-Elem Marks Marks init_shown elem_shown

abbrev pub initialised : Option Init → Marks
initialised None rest = rest
initialised (Some i) rest = equals (init i rest)

abbrev pub valued : Option Const → Marks
valued None rest = rest
valued (Some c) rest = equals (constant c rest)

abbrev pub enumerator : Enumerator → Marks
enumerator e = word e.name ▸ valued e.value
