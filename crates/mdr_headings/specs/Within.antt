-- believed
-- Annotations within a declarator: those of a function pointer's parameters (C99 6.7.5.3). They are judged, and dropped.
use Rattle.std.specs.Prelude.{List, [], ◌∷◌, ◌++◌, map, Option, Some, None}
use Rattle.mdr_core.specs.declared.types.Ann.{Ann}
use Rattle.mdr_syntax.specs.declared.tree.Decl.{Decl, out-Decl, roll-Decl}
use Rattle.mdr_syntax.specs.declared.tree.Decl.TheFolds.{fold-Decl, map-Decl}
use Rattle.mdr_syntax.specs.declared.tree.Decl.TheOpen.{Decl-F}
use Rattle.mdr_faults.specs.declared.scope.Candidate.{Candidate}
use Rattle.mdr_faults.specs.declared.scope.Scope.{Scope}
use Rattle.mdr_faults.specs.Declarations.{declarator, parameter_among}
use Rattle.mdr_faults.specs.Faults.{Checked, Right, after, both, next}
use Rattle.mdr_headings.specs.Annotations.{annotated, bare, candidate}

-- what is judged and then dropped, beside what is kept
abbrev pub beside : {A B : Type 0} → Checked A → Checked B → Checked B
beside c d = both c d (λ x y. Right y)

-- a declaration, and the annotations within its declarator, around which these names are declared
pub record Inner : Type 0 where
  pub decl : Decl
  pub annotations : (around : List Candidate) → Checked (List Ann)

-- the names around a parameter's own list: an earlier parameter of the list that it stands in is declared there (6.2.1, paragraph 7)
abbrev pub names_around : (around : List Candidate) → (before : List Decl) → List Candidate
names_around around before = around ++ map (λ d. bare (out-Decl d).name) before

-- the annotation of a parameter among those before it. One whose type is wrong has no fault more
unfoldable pub own_annotation : Scope → (siblings : List Candidate) → (before : List Decl) → Decl → Checked Ann
own_annotation scope siblings before d =
    after (parameter_among (map (declarator scope) before) (declarator scope d))
    (λ t. annotated scope siblings (out-Decl d).place t (out-Decl d).ann)

abbrev pub inner_among : Scope → (around siblings : List Candidate) → (before : List Decl) → Inner → Checked Ann
inner_among scope around siblings before x = beside (x.annotations (names_around around before)) (own_annotation scope siblings before x.decl)

unfoldable pub inner_list : Scope → (around siblings : List Candidate) → (before : List Decl) → List Inner → Checked (List Ann)
inner_list scope around siblings before [] = Right []
inner_list scope around siblings before (x ∷ xs) = next (inner_among scope around siblings before x) (inner_list scope around siblings (before ++ x.decl ∷ []) xs)

-- the siblings of a parameter are those of its own list. What else is declared is no length there
abbrev pub inner_siblings : Scope → (around : List Candidate) → List Inner → List Candidate
inner_siblings scope around xs = map (λ x. candidate scope x.decl) xs ++ around

abbrev pub inner_by : Scope → Option (List Inner) → (around : List Candidate) → Checked (List Ann)
inner_by scope None around = Right []
inner_by scope (Some xs) around = inner_list scope around (inner_siblings scope around xs) [] xs

abbrev pub inner_layer : Scope → Decl-F Inner → Inner
inner_layer scope d = record { decl = roll-Decl (map-Decl Inner Decl (λ x. x.decl) d); annotations = inner_by scope d.fun }

abbrev pub inner : Scope → Decl → Inner
inner scope = fold-Decl Inner (inner_layer scope)

-- the annotations within a declarator, where these names are declared around it
unfoldable pub within : Scope → (around : List Candidate) → Decl → Checked (List Ann)
within scope around d = (inner scope d).annotations around
