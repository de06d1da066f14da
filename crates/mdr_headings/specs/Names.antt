-- believed
-- Names have a greatest length (C99 5.2.4.1 lets an implementation set one), and those of the parameters of one list are different (6.2.1, paragraph 4).
use Rattle.std.specs.Option.{option_map}
use Rattle.std.specs.List.{list_any}
use Rattle.std.specs.Prelude.{ℕ, not, nat_lt, List, [], ◌∷◌, ◌++◌, map, length, Option, Some, None, Result, Ok, Err}
use Rattle.mdr_core.specs.declared.place.Place.{Place}
use Rattle.mdr_syntax.specs.declared.tree.Decl.{Decl, out-Decl}
use Rattle.mdr_syntax.specs.declared.tree.Decl.TheOpen.{Decl-F}
use Rattle.mdr_syntax.specs.declared.tree.Decl.TheFolds.{fold-Decl}
use Rattle.mdr_faults.specs.declared.fault.Fault.{Fault}
use Rattle.mdr_faults.specs.declared.fault.FaultKind.TheVariants.{Redefined, Limit}
use Rattle.mdr_faults.specs.Declarations.{is_same_name}
use Rattle.mdr_faults.specs.Faults.{Checked, Right, both, demand, lesser}

-- what has no value of its own: it is right, or there are faults in it
abbrev pub Verdict : Type 0
Verdict = Checked (Unit {0})

abbrev pub fine : Verdict
fine = Right tt

abbrev pub as_well : Verdict → Verdict → Verdict
as_well a b = both a b (λ x y. fine)

abbrev pub all_fine : List Verdict → Verdict
all_fine [] = fine
all_fine (c ∷ cs) = as_well c (all_fine cs)

-- the first fault of two verdicts
abbrev pub first_of : Result (Unit {0}) Fault → Result (Unit {0}) Fault → Result (Unit {0}) Fault
first_of (Ok x) (Ok y) = Ok tt
first_of (Ok x) (Err g) = Err g
first_of (Err f) (Ok y) = Err f
first_of (Err f) (Err g) = Err (lesser f g)

-- a name has at most 63 bytes
unfoldable pub short_name : Place → List ℕ → Verdict
short_name p name = demand p Limit (not (nat_lt 63 (length name))) fine

abbrev pub perhaps_short : Place → Option (List ℕ) → Verdict
perhaps_short p None = fine
perhaps_short p (Some name) = short_name p name

-- ---- declarators

-- a declarator's place and name, and what is wrong with the names in it
pub record Spelled : Type 0 where
  pub place : Place
  pub name : Option (List ℕ)
  pub names : Verdict

-- the parameters of one list are one scope (6.2.1, paragraph 4)
abbrev pub spelled_among : (before : List Spelled) → Spelled → Verdict
spelled_among before d = demand d.place Redefined (not (list_any (λ b. is_same_name b.name d.name) before)) d.names

unfoldable pub spelled_list : (before : List Spelled) → List Spelled → Verdict
spelled_list before [] = fine
spelled_list before (d ∷ ds) = as_well (spelled_among before d) (spelled_list (before ++ d ∷ []) ds)

abbrev pub inner_names : Option (List Spelled) → Verdict
inner_names None = fine
inner_names (Some ds) = spelled_list [] ds

-- a declarator's name, and those of its parameters where it is a function pointer
abbrev pub spelled_layer : Decl-F Spelled → Spelled
spelled_layer d = record { place = d.place; name = d.name; names = as_well (perhaps_short d.place d.name) (inner_names d.fun) }

abbrev pub spelled : Decl → Spelled
spelled = fold-Decl Spelled spelled_layer

-- the names in a declarator have at most 63 bytes, and in a list of parameters each stands once
abbrev pub good_names : Decl → Verdict
good_names d = (spelled d).names

-- those of declarators that are no list of parameters
abbrev pub all_good_names : List Decl → Verdict
all_good_names ds = all_fine (map good_names ds)

-- those of a list of parameters
abbrev pub good_list : List Decl → Verdict
good_list ds = spelled_list [] (map spelled ds)

-- the names within a declarator: those of a function pointer's parameters
abbrev pub good_params : Decl → Verdict
good_params d = inner_names (option_map (map spelled) (out-Decl d).fun)
