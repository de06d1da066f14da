-- for proofs
-- Declarations and initialisers whose text can be read again.
use Rattle.std.specs.Prelude.{Bool, true, ◌&&◌, Option, Some, None}
use Rattle.std.specs.List.{list_all}
use Rattle.mdr_syntax.specs.declared.tree.AnnText.{AnnText}
use Rattle.mdr_syntax.specs.declared.tree.AnnText.TheVariants as ann
use Rattle.mdr_syntax.specs.declared.tree.Const.{Const}
use Rattle.mdr_syntax.specs.declared.tree.Const.TheVariants as const
use Rattle.mdr_syntax.specs.declared.tree.Decl.{Decl}
use Rattle.mdr_syntax.specs.declared.tree.Decl.TheOpen.{Decl-F}
use Rattle.mdr_syntax.specs.declared.tree.Decl.TheFolds.{fold-Decl}
use Rattle.mdr_syntax.specs.declared.tree.FieldName.{FieldName}
use Rattle.mdr_syntax.specs.declared.tree.Init.{Init}
use Rattle.mdr_syntax.specs.declared.tree.Elem.{Elem}
use Rattle.mdr_syntax.specs.declared.tree.Init.TheOpen.{Init-F, Elem-F}
use Rattle.mdr_syntax.specs.declared.tree.Init.TheFolds.{fold-Init, fold-Elem}
use Rattle.mdr_roundtrip.specs.Words.{is_word, is_written, is_writable, is_base}
use Rattle.mdr_roundtrip.specs.Printable.{all}

-- where there is one
abbrev pub maybe : {X : Type 0} → (X → Bool) → Option X → Bool
maybe p None = true
maybe p (Some x) = p x

abbrev pub is_constant : Const → Bool
is_constant (const.Number place is_negative n kind) = is_written n kind
is_constant (const.Name place name) = is_word name

abbrev pub is_annotation : AnnText → Bool
is_annotation (ann.Array c) = is_constant c
is_annotation (ann.Sentinel place name) = is_word name
is_annotation ann.NullTerm = true
is_annotation ann.Opaque = true

abbrev pub decl_printable : Decl-F Bool → Bool
decl_printable d = is_base d.base && (maybe is_word d.name && (maybe is_constant d.size && (maybe all d.fun && maybe is_annotation d.ann)))

abbrev pub is_printable_decl : Decl → Bool
is_printable_decl = fold-Decl Bool decl_printable

-- ---- initialisers

abbrev pub is_field : FieldName → Bool
is_field f = is_word f.name

abbrev pub init_printable : Init-F Bool Bool → Bool
init_printable (Init-F.Const c) = is_constant c
init_printable (Init-F.Null place) = true
init_printable (Init-F.Address place name) = is_word name
init_printable (Init-F.Text place bytes) = list_all is_writable bytes
init_printable (Init-F.List place elems) = all elems

abbrev pub elem_printable : Elem-F Bool Bool → Bool
elem_printable e = maybe is_field e.field && e.init

abbrev pub is_printable_init : Init → Bool
is_printable_init = fold-Init Bool Bool init_printable elem_printable

abbrev pub is_printable_elem : Elem → Bool
is_printable_elem = fold-Elem Bool Bool init_printable elem_printable
