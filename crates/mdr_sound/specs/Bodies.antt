-- for proofs
-- Bodies that keep to the rules of sound programs (C99 6.9.1).
use Rattle.std.specs.Prelude.{◌≡◌, ℕ, ◌+◌, Bool, true, List, length, Some, slice_get}
use Rattle.mdr_core.specs.declared.program.Func.{Func}
use Rattle.mdr_core.specs.declared.program.Local.{Local}
use Rattle.mdr_core.specs.declared.program.Program.{Program}
use Rattle.mdr_core.specs.Folds.{codes_of}
use Rattle.mdr_core.specs.Sound.{IsSoundLocal, HasTypedBody}
use Rattle.mdr_core.specs.Types.{HasNumber}
use Rattle.mdr_core.specs.Typing.{Slot}
use Rattle.mdr_syntax.specs.declared.tree.Head.{Head}
use Rattle.mdr_syntax.specs.declared.tree.Node.{Node}
use Rattle.mdr_faults.specs.declared.scope.Scope.{Scope}
use Rattle.mdr_faults.specs.Faults.{Right}
use Rattle.mdr_headings.specs.declared.body.Body.{Body}
use Rattle.mdr_headings.specs.declared.head.Heading.{Heading}
use Rattle.mdr_headings.specs.Heads.{heading}
use Rattle.mdr_operand.specs.Written.{lines_of}
use Rattle.mdr_body.specs.Bodies.{body_rule}
use Rattle.mdr_body.specs.Statements.{Rules}
use Rattle.mdr_lower.specs.declared.work.Work.{Work}
use Rattle.mdr_lower.specs.Lowering.{lowered}
use Rattle.mdr_program.specs.Parts.{whole}
use Rattle.mdr_sound.specs.Grounded.{ArePlainGrounded}
use Rattle.mdr_sound.specs.Rules.{AreSoundRules}
use Rattle.mdr_sound.specs.Within.{KnowsDeclarations}
use Rattle.mdr_sound.specs.Written.{AreNamed, AreProper}

-- what a body is lowered to, behind this heading
abbrev pub made_work : Heading → Body → Work
made_work g body = lowered (length g.params + length body.locals) body.statements

-- a body with its head: the head is right in the scope in front of it, the body in that behind the function's name, where structs have the same numbers
pub record IsComposed (rules : Rules) (scope : Scope) (h : Head) (nodes : List Node) (g : Heading) (body : Body) : Type 0 where
  pub front : Scope
  pub tags : front.tags ≡ scope.tags
  pub heading_is : heading front h ≡ Right g
  pub body_is : body_rule rules scope h nodes ≡ Right body
  pub named : AreNamed h.params
  pub proper : AreProper (lines_of nodes)

-- and its types stand in the table of the program
pub record IsMade (program : Program) (rules : Rules) (scope : Scope) (h : Head) (nodes : List Node) (g : Heading) (body : Body) : Type 0 where
  pub composed : IsComposed rules scope h nodes g body
  pub in_table : (i : ℕ) (l : Local) → slice_get body.locals i ≡ Some l → l.object ≡ true → HasNumber program l.ty
  pub grounded : ArePlainGrounded program (codes_of (made_work g body).code)

-- what a sound function is, its parameters and its result aside
pub record HasSoundBody (program : Program) (func : Func) : Type 0 where
  pub locals : (i : ℕ) (l : Local) → slice_get func.locals i ≡ Some l → IsSoundLocal program l
  pub body : HasTypedBody program func func.body

-- a function that is made of a head and a body has locals and statements as a sound program has, if the rules of what stands in statements are sound
abbrev pub BodiesAreSound : Type 0
BodiesAreSound = (program : Program) (rules : Rules) (scope : Scope) (h : Head) (nodes : List Node) (g : Heading) (body : Body) (name : List ℕ) (is_critical : Bool) → KnowsDeclarations program scope → ((slots : List Slot) → AreSoundRules program slots scope rules) → IsMade program rules scope h nodes g body → HasSoundBody program (whole name is_critical g body)
