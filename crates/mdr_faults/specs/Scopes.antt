-- believed
-- Which names mean what (C99 6.2.1, 6.2.3).
use Rattle.std.specs.Prelude.{ℕ, List, Option, Some, None, find}
use Rattle.std.specs.Str.{bytes_eq}
use Rattle.mdr_faults.specs.declared.scope.Named.{Named}
use Rattle.mdr_faults.specs.declared.scope.Tag.{Tag}
use Rattle.mdr_faults.specs.declared.scope.Scope.{Scope}

abbrev pub or_else : {A : Type 0} → Option A → Option A → Option A
or_else (Some x) y = Some x
or_else None y = y

-- the first of some declarations that has this name
abbrev pub entity_among : List Named → List ℕ → Option Named
entity_among names name = find (λ n. bytes_eq n.name name) names

-- what an ordinary name means at a place outside functions: a `#define` holds in the whole file, all else from its declaration on
abbrev pub entity_named : Scope → List ℕ → Option Named
entity_named scope name = or_else (entity_among scope.defines name) (entity_among scope.names name)

-- a struct that the file defines has its number in the whole file, since pointers may name it before (6.7.2.3)
abbrev pub tag_named : Scope → List ℕ → Option Tag
tag_named scope name = find (λ t. bytes_eq t.name name) scope.tags
