-- for proofs
-- Names that nothing may use: those that mean nothing so far (C99 6.5.1).
use Rattle.std.specs.Prelude.{◌≡◌, ℕ, List, Option, Some, None, Result, Ok, Err}
use Rattle.mdr_syntax.specs.declared.tree.Head.{Head}
use Rattle.mdr_syntax.specs.declared.tree.Node.{Node}
use Rattle.mdr_faults.specs.declared.fault.Fault.{Fault}
use Rattle.mdr_faults.specs.declared.scope.Entity.{Entity}
use Rattle.mdr_faults.specs.declared.scope.Named.{Named}
use Rattle.mdr_faults.specs.declared.scope.Scope.{Scope}
use Rattle.mdr_faults.specs.Faults.{Right}
use Rattle.mdr_faults.specs.Scopes.{entity_named}
use Rattle.mdr_headings.specs.declared.body.Body.{Body}
use Rattle.mdr_operand.specs.Written.{lines_of}
use Rattle.mdr_call.specs.Services.{service_named}
use Rattle.mdr_body.specs.Bodies.{body_rule}
use Rattle.mdr_body.specs.Uses.{first_use}
use Rattle.mdr_typing.specs.Profile.{profile_rules}
use Rattle.mdr_sound.specs.Written.{AreNamed, AreProper}

-- what was wrongly declared
abbrev pub IsUseless : Result Entity Fault → Type 0
IsUseless (Ok e) = ⊥
IsUseless (Err f) = Unit {0}

-- or nothing
abbrev pub GivesNothing : Option Named → Type 0
GivesNothing None = Unit {0}
GivesNothing (Some entry) = IsUseless entry.means

-- a body without faults doesn't use such a name for what the file declares, where it is no service's
abbrev pub BodiesUseWhatIsDeclared : Type 0
BodiesUseWhatIsDeclared = (scope : Scope) (h : Head) (nodes : List Node) (b : Body) (name : List ℕ)
    → AreNamed h.params → AreProper (lines_of nodes) → GivesNothing (entity_named scope name) → service_named name ≡ None → body_rule profile_rules scope h nodes ≡ Right b → first_use h nodes name ≡ None
