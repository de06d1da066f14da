-- believed
-- The text of a plan as lines, and the first line that may not stand there.
use Rattle.std.specs.Prelude.{◌≡◌, ℕ, ◌+◌, Bool, true, false, ◌==◌, not, List, [], ◌∷◌, ◌++◌, length, Result, Ok, Err}
use Rattle.std.specs.List.{prefix_len}
use Rattle.mdr_core.specs.declared.plan.Plan.{Plan}
use Rattle.mdr_plan.specs.declared.line.Stage.{Stage}
use Rattle.mdr_plan.specs.declared.line.Stage.TheVariants as stage
use Rattle.mdr_plan.specs.declared.reader.Reader.{Reader}
use Rattle.mdr_plan.specs.declared.plan_error.PlanError.{PlanError}
use Rattle.mdr_plan.specs.declared.plan_error.PlanError.TheVariants.{Line, OutOfMemory}
use Rattle.mdr_plan.specs.declared.plan_error.PlanKind.{PlanKind}
use Rattle.mdr_plan.specs.declared.plan_error.PlanKind.TheVariants.{Form}
use Rattle.mdr_plan.specs.Shapes.{IsKind}
use Rattle.mdr_plan.specs.Steps.{Reached, IsRefused}

-- 10 is a newline
abbrev pub in_line : ℕ → Bool
in_line b = not (b == 10)

-- the bytes have no newline
abbrev pub IsOneLine : List ℕ → Type 0
IsOneLine bytes = prefix_len in_line bytes ≡ length bytes

abbrev pub is_done : Stage → Bool
is_done stage.Done = true
is_done _ = false

-- the text is lines each of which may follow those before it, the last of them `end`, and the plan was read
pub record IsPlanText (bytes : List ℕ) (plan : Plan) : Type 0 where
  pub lines : ℕ
  pub reader : Reader
  pub reached : Reached bytes lines reader
  pub done : is_done reader.stage ≡ true
  pub same : reader.plan ≡ plan

-- why reading ends here: the text is over before `end`, or its last line has no newline, or no line that may come next has the text of the next one
pub data IsStuck (r : Reader) (rest : List ℕ) : PlanKind → Type 0 where
  Over : rest ≡ [] → is_done r.stage ≡ false → IsStuck r rest Form
  Open : IsOneLine rest → (rest ≡ [] → ⊥) → IsStuck r rest Form
  Refused : (line more : List ℕ) (kind : PlanKind) → rest ≡ line ++ 10 ∷ more → IsOneLine line → IsRefused r line → IsKind r line kind → IsStuck r rest kind

-- so much was read before this line, counted from 1
pub record Progress (bytes rest : List ℕ) (number : ℕ) (r : Reader) : Type 0 where
  pub before : List ℕ
  pub lines : ℕ
  pub split : bytes ≡ before ++ rest
  pub reached : Reached before lines r
  pub count : number ≡ lines + 1

-- the line of this number is the first that may not stand there, and why
pub record IsFault (bytes : List ℕ) (number : ℕ) (kind : PlanKind) : Type 0 where
  pub rest : List ℕ
  pub reader : Reader
  pub progress : Progress bytes rest number reader
  pub stuck : IsStuck reader rest kind

abbrev pub Fails : PlanError → List ℕ → Type 0
Fails (Line n kind) bytes = IsFault bytes n kind
Fails OutOfMemory bytes = Unit {0}

-- what reading gave
abbrev pub Plans : List ℕ → Result Plan PlanError → Type 0
Plans bytes (Ok plan) = IsPlanText bytes plan
Plans bytes (Err e) = Fails e bytes

-- at the text's end
abbrev pub Ends : Reader → ℕ → Result Plan PlanError → Type 0
Ends r number (Ok plan) = (is_done r.stage ≡ true) × (plan ≡ r.plan)
Ends r number (Err e) = (is_done r.stage ≡ false) × (e ≡ Line number Form)

-- the bytes are the beginning of a plan's text
pub record GoesOn (bytes : List ℕ) : Type 0 where
  pub rest : List ℕ
  pub plan : Plan
  pub is : IsPlanText (bytes ++ rest) plan
