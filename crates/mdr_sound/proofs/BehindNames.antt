-- What stands behind a declaration of a name (C99 6.2.1, paragraph 7).
use Rattle.std.proofs.Common.{◌≡◌, ℕ, ◌⊎◌, inl, inr, Bool, true, false, cond, List, [], ◌∷◌, ◌++◌, Option, Some, None, Result, Ok, find, ap, ◌∙◌}
use Rattle.std.specs.Str.{bytes_eq}
use Rattle.mdr_core.specs.declared.program.Program.{Program}
use Rattle.mdr_faults.specs.declared.fault.Fault.{Fault}
use Rattle.mdr_faults.specs.declared.scope.Entity.{Entity}
use Rattle.mdr_faults.specs.declared.scope.Named.{Named}
use Rattle.mdr_faults.specs.declared.scope.Scope.{Scope}
use Rattle.mdr_faults.specs.Enums.{with_name}
use Rattle.mdr_faults.specs.Scopes.{entity_among, entity_named, or_else}
use Rattle.mdr_sound.specs.Knowing.{IsKnownEntity}
use Rattle.mdr_sound.specs.Standing.{Stands}

-- the first of some, and of one more behind them
found_by : {A : Type 0} (b : Bool) (x y z : A) (here there : Option A) → ((here ≡ Some z → (there ≡ Some z) ⊎ (y ≡ z))) → cond b (Some x) here ≡ Some z → (cond b (Some x) there ≡ Some z) ⊎ (y ≡ z)
found_by true x y z here there h e = inl e
found_by false x y z here there h e = h e

found_last : {A : Type 0} (b : Bool) (y z : A) → cond b (Some y) None ≡ Some z → (None ≡ Some z) ⊎ (y ≡ z)
found_last true y z e = inr cc
found_last false y z e = inl e

found_among : {A : Type 0} (test : A → Bool) (xs : List A) (y z : A) → find test (xs ++ y ∷ []) ≡ Some z → (find test xs ≡ Some z) ⊎ (y ≡ z)
found_among test [] y z e = found_last (test y) y z e
found_among test (x ∷ xs) y z e = found_by (test x) x y z (find test (xs ++ y ∷ [])) (find test xs) (found_among test xs y z) e

either_table : {A : Type 0} (o here there : Option A) (y z : A) → (here ≡ Some z → (there ≡ Some z) ⊎ (y ≡ z)) → or_else o here ≡ Some z → (or_else o there ≡ Some z) ⊎ (y ≡ z)
either_table (Some x) here there y z h e = inl e
either_table None here there y z h e = h e

-- a name stands for what it stood for before, or is the new one
named_behind : (scope : Scope) (name : List ℕ) (means : Result Entity Fault) (other : List ℕ) (entry : Named) → entity_named (with_name scope name means) other ≡ Some entry → (entity_named scope other ≡ Some entry) ⊎ (record { name = name; means = means } ≡ entry)
named_behind scope name means other entry e =
    either_table (entity_among scope.defines other) (entity_among (scope.names ++ record { name = name; means = means } ∷ []) other) (entity_among scope.names other) (record { name = name; means = means }) entry
    (found_among (λ n. bytes_eq n.name other) scope.names (record { name = name; means = means }) entry) e

known_either : (program : Program) (scope : Scope) (name : List ℕ) (means : Result Entity Fault) (other : List ℕ) (entry : Named) (e : Entity) → Stands program scope → ((x : Entity) → means ≡ Ok x → IsKnownEntity program x) → (entity_named scope other ≡ Some entry) ⊎ (record { name = name; means = means } ≡ entry) → entry.means ≡ Ok e → IsKnownEntity program e
known_either program scope name means other entry e stands known (inl old) q = stands.knows.entities other entry e old q
known_either program scope name means other entry e stands known (inr new) q = known e (ap (λ (n : Named). n.means) new ∙ q)

-- behind a name that stands for what the program has
pub stands_behind_name : (program : Program) (scope : Scope) (name : List ℕ) (means : Result Entity Fault) → Stands program scope → ((x : Entity) → means ≡ Ok x → IsKnownEntity program x) → Stands program (with_name scope name means)
stands_behind_name program scope name means stands known = record {
  knows = record {
    entities = λ other entry e there q. known_either program scope name means other entry e stands known (named_behind scope name means other entry there) q;
    members = stands.knows.members;
    tags = stands.knows.tags;
    complete = stands.knows.complete;
  };
  sizes = stands.sizes;
  outlines = stands.outlines;
}
