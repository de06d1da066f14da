-- for proofs
-- Functions whose code names objects of locals only where they live.
use Rattle.std.specs.Prelude.{ℕ, Bool, List, Option, Some, None}
use Rattle.mdr_core.specs.declared.code.Stmt.{Stmt}
use Rattle.mdr_core.specs.declared.program.Func.{Func}
use Rattle.mdr_core.specs.declared.program.Program.{Program}
use Rattle.mdr_core.specs.Folds.{codes_of}
use Rattle.mdr_core.specs.Typing.{Slot, slots_of}
use Rattle.mdr_syntax.specs.declared.tree.Head.{Head}
use Rattle.mdr_syntax.specs.declared.tree.Node.{Node}
use Rattle.mdr_faults.specs.declared.scope.Scope.{Scope}
use Rattle.mdr_headings.specs.declared.body.Body.{Body}
use Rattle.mdr_headings.specs.declared.head.Heading.{Heading}
use Rattle.mdr_body.specs.Statements.{Rules}
use Rattle.mdr_program.specs.Parts.{whole}
use Rattle.mdr_meaning.specs.Lives.{object_params}
use Rattle.mdr_kept.specs.Scopes.{CodesScoped}
use Rattle.mdr_sound.specs.Bodies.{IsComposed}
use Rattle.mdr_sound.specs.Rules.{AreSoundRules}
use Rattle.mdr_sound.specs.Within.{KnowsDeclarations}
use Rattle.mdr_kept.specs.Plain.{ArePlainRules}

-- statements with these slots
abbrev pub ScopedWith : List Slot → Option (List Stmt) → Type 0
ScopedWith slots None = Unit {0}
ScopedWith slots (Some body) = CodesScoped slots (object_params 0 slots) (codes_of body)

-- the statements of a function, where it has a body
abbrev pub IsScopedFunc : Func → Type 0
IsScopedFunc func = ScopedWith (slots_of func) func.body

-- a function that is made of a head and a body is so, if the rules of what stands in statements are sound, and give plain steps
abbrev pub BodiesAreScoped : Type 0
BodiesAreScoped = (program : Program) (rules : Rules) (scope : Scope) (h : Head) (nodes : List Node) (g : Heading) (body : Body) (name : List ℕ) (is_critical : Bool) → KnowsDeclarations program scope → ((slots : List Slot) → AreSoundRules program slots scope rules) → ArePlainRules scope rules → IsComposed rules scope h nodes g body → IsScopedFunc (whole name is_critical g body)
