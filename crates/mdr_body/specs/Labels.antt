-- believed
-- The labels of a `switch` (C99 6.8.1, 6.8.4.2).
use Rattle.std.specs.Prelude.{◌||◌, not, Bool, true, false, List, [], ◌∷◌, ◌++◌, Option, Some, None, Result, Ok, Err}
use Rattle.std.specs.Ordering.{int_eq}
use Rattle.mdr_core.specs.declared.kind.Kind.{Kind}
use Rattle.mdr_core.specs.declared.place.Place.{Place}
use Rattle.mdr_core.specs.declared.value.Value.{Value}
use Rattle.mdr_core.specs.declared.value.Value.TheVariants as value
use Rattle.mdr_core.specs.Conversions.{converted}
use Rattle.mdr_core.specs.Layout.{chosen}
use Rattle.mdr_syntax.specs.declared.tree.Const.{Const}
use Rattle.mdr_syntax.specs.declared.tree.Label.{Label}
use Rattle.mdr_faults.specs.declared.fault.Fault.{Fault}
use Rattle.mdr_faults.specs.declared.fault.FaultKind.TheVariants.{Redefined, Mismatch}
use Rattle.mdr_faults.specs.declared.scope.Constant.{Constant}
use Rattle.mdr_faults.specs.declared.scope.Scope.{Scope}
use Rattle.mdr_faults.specs.Declarations.{constant}
use Rattle.mdr_faults.specs.Faults.{Checked, Right, refuse, after, demand, next, told}
use Rattle.mdr_operand.specs.declared.room.LocalName.{LocalName}
use Rattle.mdr_body.specs.declared.labels.CaseLabel.{CaseLabel}
use Rattle.mdr_body.specs.declared.labels.CaseLabel.TheVariants as label
use Rattle.mdr_body.specs.Locals.{is_no_constant}

-- ---- one label

-- behind `case` stands a constant (6.8.4.2, paragraph 3). A parameter or a local is none, and hides one of its name
abbrev pub case_constant : Scope → List LocalName → Place → Const → Checked Constant
case_constant scope names p c = chosen (is_no_constant names c) (refuse p Mismatch) (constant scope p c)

-- it is converted to the kind of the value that is tested (paragraph 5)
abbrev pub case_label : Kind → Constant → Checked CaseLabel
case_label k c = Right (label.Number (converted k c.number))

abbrev pub label_by : Scope → List LocalName → Kind → Place → Option Const → Checked CaseLabel
label_by scope names k p None = Right label.Default
label_by scope names k p (Some c) = after (case_constant scope names p c) (case_label k)

abbrev pub is_same_label : CaseLabel → CaseLabel → Bool
is_same_label (label.Number m) (label.Number n) = int_eq m n
is_same_label (label.Number m) label.Default = false
is_same_label label.Default (label.Number n) = false
is_same_label label.Default label.Default = true

abbrev pub is_among : List CaseLabel → CaseLabel → Bool
is_among [] l = false
is_among (m ∷ ms) l = is_same_label m l || is_among ms l

-- no number stands twice in a `switch`, and `default` neither (paragraph 3)
abbrev pub once : Place → (seen : List CaseLabel) → CaseLabel → Checked CaseLabel
once p seen l = demand p Redefined (not (is_among seen l)) (Right l)

-- a label behind those that were seen before it
unfoldable pub label_made : Scope → List LocalName → Kind → (seen : List CaseLabel) → Label → Checked CaseLabel
label_made scope names k seen l = after (label_by scope names k l.place l.value) (once l.place seen)

-- ---- the labels of a clause

abbrev pub with_label : (seen : List CaseLabel) → Result CaseLabel Fault → List CaseLabel
with_label seen (Ok l) = seen ++ l ∷ []
with_label seen (Err f) = seen

unfoldable pub labels_made : Scope → List LocalName → Kind → (seen : List CaseLabel) → List Label → Checked (List CaseLabel)
labels_made scope names k seen [] = Right []
labels_made scope names k seen (l ∷ ls) = next (label_made scope names k seen l) (labels_made scope names k (with_label seen (told (label_made scope names k seen l))) ls)

-- those that were seen behind them
unfoldable pub labels_behind : Scope → List LocalName → Kind → (seen : List CaseLabel) → List Label → List CaseLabel
labels_behind scope names k seen [] = seen
labels_behind scope names k seen (l ∷ ls) = labels_behind scope names k (with_label seen (told (label_made scope names k seen l))) ls

-- ---- what they say

abbrev pub has_default : List CaseLabel → Bool
has_default ls = is_among ls label.Default

abbrev pub with_case : Kind → CaseLabel → List Value → List Value
with_case k (label.Number n) vs = value.Int k n ∷ vs
with_case k label.Default vs = vs

-- the numbers, as values
abbrev pub cases : Kind → List CaseLabel → List Value
cases k [] = []
cases k (l ∷ ls) = with_case k l (cases k ls)
