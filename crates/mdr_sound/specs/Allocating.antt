-- for proofs
-- The types that a body's allocations name are types of objects (C99 6.2.5, paragraph 1).
use Rattle.std.specs.Prelude.{List}
use Rattle.mdr_core.specs.declared.program.Program.{Program}
use Rattle.mdr_core.specs.declared.types.Ty.{Ty}
use Rattle.mdr_core.specs.Code.{Codes}
use Rattle.mdr_core.specs.Folds.{codes_of}
use Rattle.mdr_core.specs.TypeText.{AllocatesIn}
use Rattle.mdr_core.specs.Typing.{Slot}
use Rattle.mdr_syntax.specs.declared.tree.Head.{Head}
use Rattle.mdr_syntax.specs.declared.tree.Node.{Node}
use Rattle.mdr_faults.specs.declared.scope.Scope.{Scope}
use Rattle.mdr_headings.specs.declared.body.Body.{Body}
use Rattle.mdr_headings.specs.declared.head.Heading.{Heading}
use Rattle.mdr_body.specs.Statements.{Rules}
use Rattle.mdr_sound.specs.Knowing.{IsFormed}
use Rattle.mdr_sound.specs.Bodies.{IsComposed, made_work}
use Rattle.mdr_sound.specs.Rules.{AreSoundRules}
use Rattle.mdr_sound.specs.Within.{KnowsDeclarations}

-- code allocates objects of such types alone
abbrev pub ArePlainFormed : Program → Codes → Type 0
ArePlainFormed program cs = (t : Ty) → AllocatesIn t cs → IsFormed program t

-- so does what a body is lowered to, if the rules of what stands in statements are sound, whatever stands in the type table
abbrev pub AllocationsAreFormed : Type 0
AllocationsAreFormed = (program : Program) (rules : Rules) (scope : Scope) (h : Head) (nodes : List Node) (g : Heading) (body : Body) → KnowsDeclarations program scope → ((slots : List Slot) → AreSoundRules program slots scope rules) → IsComposed rules scope h nodes g body → ArePlainFormed program (codes_of (made_work g body).code)
