-- believed
-- The forms of a plan's lines, and why a line is refused.
use Rattle.std.specs.Prelude.{◌≡◌, ℕ, Bool, List, ◌++◌, IsTrue, codes}
use Rattle.mdr_core.specs.declared.types.Ty.{Ty}
use Rattle.mdr_core.specs.declared.plan.Half.{Half}
use Rattle.mdr_core.specs.declared.plan.Key.TheVariants.{Global, Field, Elem}
use Rattle.mdr_core.specs.TypeText.{Text}
use Rattle.mdr_plan.specs.declared.line.Line.{Line}
use Rattle.mdr_plan.specs.declared.line.Line.TheVariants as line
use Rattle.mdr_plan.specs.declared.shape.Shape.{Shape}
use Rattle.mdr_plan.specs.declared.shape.Shape.TheVariants as shape
use Rattle.mdr_plan.specs.declared.plan_error.PlanKind.{PlanKind}
use Rattle.mdr_plan.specs.declared.plan_error.PlanKind.TheVariants.{Form, Order, Range}
use Rattle.mdr_plan.specs.declared.reader.Reader.{Reader}
use Rattle.mdr_plan.specs.Naming.{is_name, any_struct}
use Rattle.mdr_plan.specs.Numbers.{is_number}
use Rattle.mdr_plan.specs.TypeTexts.{Written}
use Rattle.mdr_plan.specs.Lines.{half_text, root_text, IsNext}

-- the text of a type, whatever its structs are named
pub record IsTypeText (bytes : List ℕ) : Type 0 where
  pub ty : Ty
  pub pointer : Ty
  pub whole : Text
  pub written : Written any_struct ty pointer whole
  pub same : whole.bytes ≡ bytes

-- a line of the form, with any numbers, names and types
pub data HasShape : List ℕ → Shape → Type 0 where
  OfHeading : HasShape (codes "plan 1") shape.Heading
  OfType : (k text : List ℕ) → IsTrue (is_number k) → IsTypeText text → HasShape (codes "type " ++ (k ++ (codes " " ++ text))) shape.Type
  OfFunction : (k name : List ℕ) (half : Half) (is_root : Bool) → IsTrue (is_number k) → IsTrue (is_name name) → HasShape (codes "function " ++ (k ++ (codes " " ++ (name ++ (half_text half ++ root_text is_root))))) shape.Function
  OfDown : (k : List ℕ) → IsTrue (is_number k) → HasShape (codes "down " ++ k) shape.Down
  OfUp : (k : List ℕ) → IsTrue (is_number k) → HasShape (codes "up " ++ k) shape.Up
  OfGlobalKey : (k g : List ℕ) → IsTrue (is_number k) → IsTrue (is_number g) → HasShape (codes "key " ++ (k ++ (codes " global " ++ g))) shape.GlobalKey
  OfFieldKey : (k s f : List ℕ) → IsTrue (is_number k) → IsTrue (is_number s) → IsTrue (is_number f) → HasShape (codes "key " ++ (k ++ (codes " field " ++ (s ++ (codes " " ++ f))))) shape.FieldKey
  OfElemKey : (k t : List ℕ) → IsTrue (is_number k) → IsTrue (is_number t) → HasShape (codes "key " ++ (k ++ (codes " elem " ++ t))) shape.ElemKey
  OfEnd : HasShape (codes "end") shape.End

abbrev pub shape_of : Line → Shape
shape_of line.Heading = shape.Heading
shape_of line.First = shape.Type
shape_of (line.Struct name) = shape.Type
shape_of (line.Type ty text) = shape.Type
shape_of (line.Function name half is_root) = shape.Function
shape_of (line.Down k) = shape.Down
shape_of (line.Up k) = shape.Up
shape_of (line.Key (Global g)) = shape.GlobalKey
shape_of (line.Key (Field s f)) = shape.FieldKey
shape_of (line.Key (Elem t)) = shape.ElemKey
shape_of line.End = shape.End

-- a line of the form may come next
pub record Stands (r : Reader) (s : Shape) : Type 0 where
  pub line : Line
  pub next : IsNext r line
  pub shaped : shape_of line ≡ s

-- why a line that may not come next is refused: it is of no form, or no line of its form may come next, or others of its form may
pub data IsKind (r : Reader) (bytes : List ℕ) : PlanKind → Type 0 where
  OfNone : ((s : Shape) → HasShape bytes s → ⊥) → IsKind r bytes Form
  Misplaced : (s : Shape) → HasShape bytes s → (Stands r s → ⊥) → IsKind r bytes Order
  Another : (s : Shape) → HasShape bytes s → Stands r s → IsKind r bytes Range
