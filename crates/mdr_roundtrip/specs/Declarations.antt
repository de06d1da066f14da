-- for proofs
-- Declarations as they are read, by where they stand and how many parentheses are open there; and with their places set aside (C99 6.7.5).
use Rattle.std.specs.Prelude.{ℕ, ◌+◌, Bool, true, false, ◌&&◌, Option, Some, None, List, map}
use Rattle.std.specs.Option.{option_map}
use Rattle.mdr_syntax.specs.declared.tree.AnnText.{AnnText}
use Rattle.mdr_syntax.specs.declared.tree.AnnText.TheVariants as ann
use Rattle.mdr_syntax.specs.declared.tree.Const.{Const}
use Rattle.mdr_syntax.specs.declared.tree.Decl.{Decl, roll-Decl}
use Rattle.mdr_syntax.specs.declared.tree.Decl.TheOpen.{Decl-F}
use Rattle.mdr_syntax.specs.declared.tree.Decl.TheFolds.{fold-Decl}
use Rattle.mdr_roundtrip.specs.Printable.{all}
use Rattle.mdr_roundtrip.specs.PrintableDeclarations.{maybe}
use Rattle.mdr_grammar.specs.Expressions.{may_open}
use Rattle.mdr_roundtrip.specs.Shaped.{is_name, is_named_base, are_stars}
use Rattle.mdr_roundtrip.specs.Unplaced.{nowhere, unplaced_base}
use Rattle.mdr_roundtrip.specs.Initialised.{unplaced_const, is_shaped_const}

-- ---- places

abbrev pub unplaced_annotation : AnnText → AnnText
unplaced_annotation (ann.Array c) = ann.Array (unplaced_const c)
unplaced_annotation (ann.Sentinel place name) = ann.Sentinel nowhere name
unplaced_annotation ann.NullTerm = ann.NullTerm
unplaced_annotation ann.Opaque = ann.Opaque

abbrev pub decl_unplaced : Decl-F Decl → Decl
decl_unplaced d = roll-Decl (record { place = nowhere; name = d.name; base = unplaced_base d.base; stars = d.stars; size = option_map unplaced_const d.size; fun = d.fun; ann = option_map unplaced_annotation d.ann })

abbrev pub unplaced_decl : Decl → Decl
unplaced_decl = fold-Decl Decl decl_unplaced

-- ---- shapes

-- a declaration stands by itself, or as a parameter, which in the list of a function pointer may have no name
pub data Standing : Type 0 where
  Alone : Standing
  Parameter : (named : Bool) → Standing

abbrev pub is_named : Option (List ℕ) → Bool
is_named None = false
is_named (Some name) = is_name name

abbrev pub may_be_named : Standing → Option (List ℕ) → Bool
may_be_named Standing.Alone name = is_named name
may_be_named (Standing.Parameter true) name = is_named name
may_be_named (Standing.Parameter false) name = maybe is_name name

-- an array is no parameter
abbrev pub may_be_sized : Standing → Option Const → Bool
may_be_sized Standing.Alone size = maybe is_shaped_const size
may_be_sized (Standing.Parameter named) None = true
may_be_sized (Standing.Parameter named) (Some c) = false

abbrev pub is_annotation_at : (parentheses : ℕ) → AnnText → Bool
is_annotation_at d (ann.Array c) = may_open (d + 1) && is_shaped_const c
is_annotation_at d (ann.Sentinel place name) = may_open (d + 1) && is_name name
is_annotation_at d ann.NullTerm = true
is_annotation_at d ann.Opaque = true

abbrev pub as_parameter : (parentheses : ℕ) → (Standing → ℕ → Bool) → Bool
as_parameter d shaped = shaped (Standing.Parameter false) d

abbrev pub are_parameters : (parentheses : ℕ) → List (Standing → ℕ → Bool) → Bool
are_parameters d ps = may_open (d + 1) && all (map (as_parameter (d + 1)) ps)

abbrev pub decl_shaped : Decl-F (Standing → ℕ → Bool) → Standing → (parentheses : ℕ) → Bool
decl_shaped x s d = is_named_base x.base && (are_stars x.stars && (may_be_named s x.name && (may_be_sized s x.size && (maybe (are_parameters d) x.fun && maybe (is_annotation_at d) x.ann))))

abbrev pub is_shaped_decl : Decl → Standing → (parentheses : ℕ) → Bool
is_shaped_decl = fold-Decl (Standing → ℕ → Bool) decl_shaped
