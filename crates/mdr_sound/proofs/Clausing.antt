-- What a `switch` tests, and its clauses, keep to the rules of sound programs (C99 6.8.4.2).
use Rattle.std.proofs.Common.{◌≡◌, Bool, not, List, [], ◌∷◌, Option, Some, None, IsTrue, refl, subst}
use Rattle.mdr_rich.specs.declared.code.Clause.{Clause}
use Rattle.mdr_rich.specs.declared.code.Stmt.{Stmt}
use Rattle.mdr_core.specs.declared.kind.Kind.{Kind}
use Rattle.mdr_core.specs.declared.place.Place.{Place}
use Rattle.mdr_core.specs.declared.program.Program.{Program}
use Rattle.mdr_core.specs.declared.types.Ty.{Ty}
use Rattle.mdr_core.specs.declared.value.Value.{Value}
use Rattle.mdr_core.specs.Conversions.{promoted}
use Rattle.mdr_core.specs.Kinds.{is_in_range}
use Rattle.mdr_core.specs.Typing.{Slot, int}
use Rattle.mdr_core.proofs.Conversions.{converted-in_range}
use Rattle.mdr_rich.specs.Code.{Codes}
use Rattle.mdr_rich.specs.Folds.{codes_of, clauses_of, term_of}
use Rattle.mdr_rich.specs.Typing.{Has, AreTyped, AreLabels, AreClauses}
use Rattle.mdr_syntax.specs.declared.tree.Const.{Const}
use Rattle.mdr_syntax.specs.declared.tree.Label.{Label}
use Rattle.mdr_faults.specs.declared.fault.FaultKind.TheVariants.{Redefined}
use Rattle.mdr_faults.specs.declared.scope.Constant.{Constant}
use Rattle.mdr_faults.specs.declared.scope.Scope.{Scope}
use Rattle.mdr_faults.specs.Faults.{Checked, Right, told}
use Rattle.mdr_operand.specs.declared.operand.Integer.{Integer}
use Rattle.mdr_operand.specs.declared.operand.Operand.{Operand}
use Rattle.mdr_operand.specs.declared.room.LocalName.{LocalName}
use Rattle.mdr_operand.specs.Forms.{integer_at}
use Rattle.mdr_operand.specs.Written.{Written}
use Rattle.mdr_body.specs.declared.clauses.MadeClause.{MadeClause}
use Rattle.mdr_body.specs.declared.here.Here.{Here}
use Rattle.mdr_body.specs.declared.labels.CaseLabel.{CaseLabel}
use Rattle.mdr_body.specs.declared.labels.CaseLabel.TheVariants as label
use Rattle.mdr_body.specs.Clauses.{made_clause, no_clauses, promoted_value, sorted, switch_value}
use Rattle.mdr_body.specs.Labels.{case_constant, case_label, cases, is_among, label_by, label_made, labels_made, once, with_label}
use Rattle.mdr_body.specs.Statements.{Rules, tested_value}
use Rattle.mdr_sound.specs.Knowing.{KnowsLocals}
use Rattle.mdr_sound.proofs.Rights.{after_right, both_right, demand_right, same_right}
use Rattle.mdr_sound.proofs.Values.{at_kind_known, integer_known}
use Rattle.mdr_sound.specs.Rules.{IsRight, AreSoundRules}
use Rattle.mdr_sound.proofs.Sorting.{EachMade, EachTried, all_sorted}

-- ---- the value

module _ (program : Program) (slots : List Slot) (scope : Scope) (rules : Rules) (sound : AreSoundRules program slots scope rules) where
  -- it is a promoted integer
  pub value_typed : (here : Here) (p : Place) (w : Written) (v : Integer) → KnowsLocals program slots here.names → IsRight here.names w → tested_value rules scope here p w ≡ Right v → Has program slots (term_of v.value) (int v.kind)
  unfolding tested_value switch_value
  value_typed here p w v known right is =
      let a = after_right (rules.typed scope here.names w) (switch_value p) v is in
      let b = after_right (integer_at p a.value) promoted_value v a.made in
      let n = integer_known program slots here.names w p a.value b.value (sound.typed here.names w a.value known right a.right) b.right in
      subst (λ (x : Integer). Has program slots (term_of x.value) (int x.kind)) (same_right _ _ b.made) (at_kind_known program slots (promoted b.value.kind) b.value n)

-- ---- labels

-- the numbers are those of the kind
abbrev IsInRange : Kind → CaseLabel → Type 0
IsInRange k (label.Number n) = IsTrue (is_in_range k n)
IsInRange k label.Default = Unit {0}

abbrev pub AreInRange : Kind → List CaseLabel → Type 0
AreInRange k [] = Unit {0}
AreInRange k (l ∷ ls) = IsInRange k l × AreInRange k ls

module _ (scope : Scope) (names : List LocalName) (k : Kind) where
  value_in : (p : Place) (c : Option Const) (l : CaseLabel) → label_by scope names k p c ≡ Right l → IsInRange k l
  value_in p None l e = subst (IsInRange k) (same_right label.Default l e) tt
  value_in p (Some c) l e =
      let a = after_right (case_constant scope names p c) (case_label k) l e in
      subst (IsInRange k) (same_right _ l a.made) (converted-in_range k a.value.number)

  label_in : (seen : List CaseLabel) (x : Label) (l : CaseLabel) → label_made scope names k seen x ≡ Right l → IsInRange k l
  unfolding label_made
  label_in seen x l e =
      let a = after_right (label_by scope names k x.place x.value) (once x.place seen) l e in
      let d = demand_right x.place Redefined (not (is_among seen a.value)) (Right a.value) l a.made in
      subst (IsInRange k) (same_right a.value l d.right) (value_in x.place x.value a.value a.right)

  pub labels_in : (seen : List CaseLabel) (xs : List Label) (ls : List CaseLabel) → labels_made scope names k seen xs ≡ Right ls → AreInRange k ls
  unfolding labels_made
  labels_in seen [] ls e = subst (AreInRange k) (same_right [] ls e) tt
  labels_in seen (x ∷ xs) ls e =
      let first = label_made scope names k seen x in
      let b = both_right first (labels_made scope names k (with_label seen (told first)) xs) (λ y ys. Right (y ∷ ys)) ls e in
      subst (AreInRange k) (same_right _ ls b.made) (label_in seen x b.left b.first, labels_in (with_label seen (told first)) xs b.right b.second)

-- ---- clauses, over a value of the kind

module _ (program : Program) (slots : List Slot) (result : Ty) (b : Bool) (k : Kind) where
  labels_typed : (ls : List CaseLabel) → AreInRange k ls → AreLabels program k (cases k ls)
  labels_typed [] h = tt
  labels_typed (label.Number n ∷ ls) h = ((refl, h.0), labels_typed ls h.1)
  labels_typed (label.Default ∷ ls) h = labels_typed ls h.1

  -- its labels and the code behind them
  abbrev pub IsMade : List Value → Codes → Type 0
  IsMade labels body = AreLabels program k labels × AreTyped program slots result b body

  abbrev pub AreMade : List MadeClause → Type 0
  AreMade = EachMade IsMade (AreTyped program slots result b)

  pub one_made : (ls : List CaseLabel) (ss : List Stmt) (ms : List MadeClause) → AreInRange k ls → AreTyped program slots result b (codes_of ss) → made_clause k ls ss ≡ Right ms → AreMade ms
  one_made ls ss ms ranges typed e = subst AreMade (same_right _ ms e) ((labels_typed ls ranges, typed), tt)

  parts_typed : (cs : List Clause) (other : List Stmt) → EachTried IsMade (AreTyped program slots result b) cs → AreTyped program slots result b (codes_of other) → AreClauses program slots result b k (clauses_of cs other)
  parts_typed [] other h t = t
  parts_typed (c ∷ cs) other h t = record { labelled = h.0.0; turn = h.0.1; later = parts_typed cs other h.1 t }

  pub clauses_sorted : (ms : List MadeClause) → AreMade ms → AreClauses program slots result b k (clauses_of (sorted no_clauses ms).tried (sorted no_clauses ms).fallback)
  clauses_sorted ms h =
      let s = all_sorted IsMade (AreTyped program slots result b) (λ vs cs i. i.1) tt ms h in
      parts_typed (sorted no_clauses ms).tried (sorted no_clauses ms).fallback s.tried s.fallback
