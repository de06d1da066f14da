-- believed
-- What stands before a function's body (C99 6.7.5.3, 6.9.1).
use Rattle.std.specs.Prelude.{ℕ, false, List, [], ◌∷◌, ◌++◌, map, Option, Some}
use Rattle.mdr_core.specs.declared.place.Place.{Place}
use Rattle.mdr_core.specs.declared.program.Param.{Param}
use Rattle.mdr_core.specs.declared.types.Ann.{Ann}
use Rattle.mdr_core.specs.declared.types.Ty.{Ty}
use Rattle.mdr_syntax.specs.declared.tree.AnnText.{AnnText}
use Rattle.mdr_syntax.specs.declared.tree.Decl.{Decl, out-Decl}
use Rattle.mdr_syntax.specs.declared.tree.Head.{Head}
use Rattle.mdr_headings.specs.declared.head.Heading.{Heading}
use Rattle.mdr_headings.specs.declared.head.Given.{Given}
use Rattle.mdr_faults.specs.declared.scope.Candidate.{Candidate}
use Rattle.mdr_faults.specs.declared.scope.Scope.{Scope}
use Rattle.mdr_headings.specs.Annotations.{annotated, bare, candidate}
use Rattle.mdr_faults.specs.Declarations.{declarator, parameter_among, parameter_list, result_type, type_named}
use Rattle.mdr_faults.specs.Faults.{Checked, Right, after, both, next}
use Rattle.mdr_headings.specs.Structs.{name_or_none}
use Rattle.mdr_headings.specs.Within.{beside, names_around, within}

-- ---- parameters

abbrev pub param_of : Option (List ℕ) → Ty → Ann → Param
param_of name t a = record { name = name_or_none name; ty = t; ann = a; object = false }

unfoldable pub annotated_param : Scope → List Candidate → Decl → Ty → Checked Param
annotated_param scope siblings d t = after (annotated scope siblings (out-Decl d).place t (out-Decl d).ann) (λ a. Right (param_of (out-Decl d).name t a))

-- a parameter among those before it. Whether it is an object, its function's body says
unfoldable pub param_among : Scope → List Candidate → (before : List Decl) → Decl → Checked Param
param_among scope siblings before d =
    beside (within scope (names_around [] before) d)
    (after (parameter_among (map (declarator scope) before) (declarator scope d)) (annotated_param scope siblings d))

unfoldable pub params_behind : Scope → List Candidate → (before : List Decl) → List Decl → Checked (List Param)
params_behind scope siblings before [] = Right []
params_behind scope siblings before (d ∷ ds) = next (param_among scope siblings before d) (params_behind scope siblings (before ++ d ∷ []) ds)

-- ---- results

abbrev pub given_by : Ty → Ann → Checked Given
given_by t a = Right (record { ty = t; ann = a })

abbrev pub annotated_result : Scope → List Candidate → Place → Option AnnText → Ty → Checked Given
annotated_result scope siblings p ann t = after (annotated scope siblings p t ann) (given_by t)

-- what the function gives
unfoldable pub head_result : Scope → Head → Checked Ty
head_result scope h = after (type_named scope h.base h.stars) (result_type h.place)

-- where the types of the parameters are right, too
abbrev pub result_where : Ty → List Ty → Checked Ty
result_where t ts = Right t

unfoldable pub typed_result : Scope → Head → Checked Ty
typed_result scope h = both (head_result scope h) (parameter_list [] (map (declarator scope) h.params)) result_where

-- the same with its annotation, which stands beside the parameters
unfoldable pub given : Scope → List Candidate → Head → Checked Given
given scope siblings h = after (typed_result scope h) (annotated_result scope siblings h.place h.ann)

-- ---- heads

abbrev pub heading_of : Given → List Param → Checked Heading
heading_of g ps = Right (record { result = g.ty; ann = g.ann; params = ps })

-- what stands beside the annotation of the result: the parameters, and the function's own name, whose declarator has ended there (6.2.1, paragraph 7)
abbrev pub result_siblings : Scope → Head → List Candidate
result_siblings scope h = map (candidate scope) h.params ++ bare (Some h.name) ∷ []

-- a heading in the scope in front of it
unfoldable pub heading : Scope → Head → Checked Heading
heading scope h = both (given scope (result_siblings scope h) h) (params_behind scope (map (candidate scope) h.params) [] h.params) heading_of
