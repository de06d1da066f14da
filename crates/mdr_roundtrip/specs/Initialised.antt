-- for proofs
-- Initialisers as they are read, by how many braces are open before them; and with their places set aside (C99 6.7.8).
use Rattle.std.specs.Prelude.{ℕ, ◌+◌, Bool, true, false, ◌&&◌, Option, Some, None, List, [], ◌∷◌, map}
use Rattle.std.specs.List.{list_all}
use Rattle.mdr_syntax.specs.declared.tree.Const.{Const}
use Rattle.mdr_syntax.specs.declared.tree.Const.TheVariants as const
use Rattle.mdr_syntax.specs.declared.tree.Elem.{Elem}
use Rattle.mdr_syntax.specs.declared.tree.FieldName.{FieldName}
use Rattle.mdr_syntax.specs.declared.tree.Init
use Rattle.mdr_syntax.specs.declared.tree.Init.{Init}
use Rattle.mdr_syntax.specs.declared.tree.Init.TheOpen.{Init-F, Elem-F}
use Rattle.mdr_syntax.specs.declared.tree.Init.TheFolds.{fold-Init, fold-Elem}
use Rattle.mdr_roundtrip.specs.Words.{is_written, is_writable}
use Rattle.mdr_roundtrip.specs.Printable.{all}
use Rattle.mdr_roundtrip.specs.PrintableDeclarations.{maybe}
use Rattle.mdr_grammar.specs.Expressions.{may_nest}
use Rattle.mdr_roundtrip.specs.Shaped.{is_name}
use Rattle.mdr_roundtrip.specs.Unplaced.{nowhere}

-- ---- places

abbrev pub unplaced_const : Const → Const
unplaced_const (const.Number place is_negative n kind) = const.Number nowhere is_negative n kind
unplaced_const (const.Name place name) = const.Name nowhere name

abbrev pub unplaced_field : Option FieldName → Option FieldName
unplaced_field None = None
unplaced_field (Some f) = Some (record { place = nowhere; name = f.name })

abbrev pub init_unplaced : Init-F Init Elem → Init
init_unplaced (Init-F.Const c) = Init.Const (unplaced_const c)
init_unplaced (Init-F.Null place) = Init.Null nowhere
init_unplaced (Init-F.Address place name) = Init.Address nowhere name
init_unplaced (Init-F.Text place bytes) = Init.Text nowhere bytes
init_unplaced (Init-F.List place elems) = Init.List nowhere elems

abbrev pub elem_unplaced : Elem-F Init Elem → Elem
elem_unplaced e = record { field = unplaced_field e.field; init = e.init }

abbrev pub unplaced_init : Init → Init
unplaced_init = fold-Init Init Elem init_unplaced elem_unplaced

abbrev pub unplaced_elem : Elem → Elem
unplaced_elem = fold-Elem Init Elem init_unplaced elem_unplaced

-- ---- shapes

abbrev pub is_shaped_const : Const → Bool
is_shaped_const (const.Number place is_negative n kind) = is_written n kind
is_shaped_const (const.Name place name) = is_name name

abbrev pub is_named_field : FieldName → Bool
is_named_field f = is_name f.name

abbrev pub are_some : {X : Type 0} → List X → Bool
are_some [] = false
are_some (x ∷ xs) = true

abbrev pub inside : ℕ → (ℕ → Bool) → Bool
inside braces f = f braces

abbrev pub init_shaped : Init-F (ℕ → Bool) (ℕ → Bool) → ℕ → Bool
init_shaped (Init-F.Const c) braces = is_shaped_const c
init_shaped (Init-F.Null place) braces = true
init_shaped (Init-F.Address place name) braces = is_name name
init_shaped (Init-F.Text place bytes) braces = list_all is_writable bytes
init_shaped (Init-F.List place elems) braces = may_nest (braces + 1) && (are_some elems && all (map (inside (braces + 1)) elems))

abbrev pub elem_shaped : Elem-F (ℕ → Bool) (ℕ → Bool) → ℕ → Bool
elem_shaped e braces = maybe is_named_field e.field && e.init braces

abbrev pub is_shaped_init : Init → ℕ → Bool
is_shaped_init = fold-Init (ℕ → Bool) (ℕ → Bool) init_shaped elem_shaped

abbrev pub is_shaped_elem : Elem → ℕ → Bool
is_shaped_elem = fold-Elem (ℕ → Bool) (ℕ → Bool) init_shaped elem_shaped
