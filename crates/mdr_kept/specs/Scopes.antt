-- for proofs
-- Code that names objects of locals only where they live: behind their declaration, up to the end of its block (C99 6.2.1, 6.2.4).
use Rattle.std.specs.Prelude.{◌≡◌, ℕ, Bool, true, false, ◌==◌, List, [], ◌∷◌, Option, Some, None, slice_get}
use Rattle.std.specs.List.{list_any}
use Rattle.mdr_core.specs.declared.program.Program.{Program}
use Rattle.mdr_core.specs.Code.{Term, Lvalue, Called, CallOf, Goal, Code, Codes}
use Rattle.mdr_core.specs.Layout.{chosen}
use Rattle.mdr_core.specs.Typing.{Slot}
use Rattle.mdr_meaning.specs.Bodies.{body_of}
use Rattle.mdr_meaning.specs.Lives.{object_params}
use Rattle.mdr_meaning.specs.Sides.{Body}

-- the objects that live at a place, by their slots
abbrev pub is_there : List ℕ → ℕ → Bool
is_there objects i = list_any (λ j. j == i) objects

-- each object that is named lives
abbrev mutual
  pub TermScoped : List ℕ → Term → Type 0
  TermScoped objects (Term.Lit v) = Unit {0}
  TermScoped objects (Term.Load p) = LvalueScoped objects p
  TermScoped objects (Term.Addr p) = LvalueScoped objects p
  TermScoped objects (Term.Decay p) = LvalueScoped objects p
  TermScoped objects (Term.Neg k e) = TermScoped objects e
  TermScoped objects (Term.Flip k e) = TermScoped objects e
  TermScoped objects (Term.Not e) = TermScoped objects e
  TermScoped objects (Term.Bin op k a b) = TermScoped objects a × TermScoped objects b
  TermScoped objects (Term.Rel op a b) = TermScoped objects a × TermScoped objects b
  TermScoped objects (Term.And a b) = TermScoped objects a × TermScoped objects b
  TermScoped objects (Term.Or a b) = TermScoped objects a × TermScoped objects b
  TermScoped objects (Term.Conv k e) = TermScoped objects e
  TermScoped objects (Term.ToVoid e) = TermScoped objects e
  TermScoped objects (Term.FromVoid t e) = TermScoped objects e
  TermScoped objects (Term.Move back p i) = TermScoped objects p × TermScoped objects i
  TermScoped objects (Term.Diff p q) = TermScoped objects p × TermScoped objects q

  pub LvalueScoped : List ℕ → Lvalue → Type 0
  LvalueScoped objects (Lvalue.Slot i) = Unit {0}
  LvalueScoped objects (Lvalue.Object i) = is_there objects i ≡ true
  LvalueScoped objects (Lvalue.Global g) = Unit {0}
  LvalueScoped objects (Lvalue.Deref e) = TermScoped objects e
  LvalueScoped objects (Lvalue.Member p f) = LvalueScoped objects p
  LvalueScoped objects (Lvalue.Index p e) = LvalueScoped objects p × TermScoped objects e

abbrev pub TermsScoped : List ℕ → List Term → Type 0
TermsScoped objects [] = Unit {0}
TermsScoped objects (e ∷ es) = TermScoped objects e × TermsScoped objects es

abbrev pub CalleeScoped : List ℕ → Called → Type 0
CalleeScoped objects (Called.Direct f) = Unit {0}
CalleeScoped objects (Called.Through e) = TermScoped objects e
CalleeScoped objects (Called.Service n) = Unit {0}

abbrev pub FormScoped : List ℕ → CallOf → Type 0
FormScoped objects form = CalleeScoped objects form.callee × TermsScoped objects form.args

abbrev pub GoalScoped : List ℕ → Goal → Type 0
GoalScoped objects Goal.Nowhere = Unit {0}
GoalScoped objects (Goal.Into p) = LvalueScoped objects p
GoalScoped objects Goal.Back = Unit {0}

abbrev pub OptionScoped : List ℕ → Option Term → Type 0
OptionScoped objects None = Unit {0}
OptionScoped objects (Some e) = TermScoped objects e

abbrev pub is_object : Option Slot → Bool
is_object None = false
is_object (Some s) = s.object

-- the objects that live behind a statement: a declaration of an object adds it
abbrev pub behind : List Slot → List ℕ → Code → List ℕ
behind slots objects (Code.Declare n i) = chosen (is_object (slice_get slots i)) (i ∷ objects) objects
behind slots objects _ = objects

-- a local is declared where it isn't there yet, and a block's objects are gone behind it
abbrev mutual
  pub CodeScoped : List Slot → List ℕ → Code → Type 0
  CodeScoped slots objects (Code.Declare n i) = is_there objects i ≡ false
  CodeScoped slots objects (Code.Text n i bytes) = is_there objects i ≡ true
  CodeScoped slots objects (Code.Assign n p e) = LvalueScoped objects p × TermScoped objects e
  CodeScoped slots objects (Code.Call n goal form) = GoalScoped objects goal × FormScoped objects form
  CodeScoped slots objects (Code.If n e one other) = TermScoped objects e × CodesScoped slots objects one × CodesScoped slots objects other
  CodeScoped slots objects (Code.Loop n e step body) = TermScoped objects e × CodesScoped slots objects step × CodesScoped slots objects body
  CodeScoped slots objects (Code.Block body) = CodesScoped slots objects body
  CodeScoped slots objects (Code.Return n e) = OptionScoped objects e
  CodeScoped slots objects (Code.Jump n way) = Unit {0}

  pub CodesScoped : List Slot → List ℕ → Codes → Type 0
  CodesScoped slots objects Codes.End = Unit {0}
  CodesScoped slots objects (Codes.Then c cs) = CodeScoped slots objects c × CodesScoped slots (behind slots objects c) cs

-- a body, in which the parameters that are objects live from the beginning
abbrev pub BodyScoped : Body → Type 0
BodyScoped body = CodesScoped body.slots (object_params 0 body.slots) body.code

-- as the code of each source's program is, in which a local is named by its name
pub record IsScoped (program : Program) : Type 0 where
  pub bodies : (f : ℕ) (body : Body) → body_of program f ≡ Some body → BodyScoped body
