-- The rules of labels, and where the clauses of a `switch` end, look at no place.
use Rattle.mdr_body.specs.Clauses.{ends, is_last, label_kind, last_leaves, leaves, switch_value}
use Rattle.mdr_body.specs.Labels.{case_constant, is_among, label_by, label_made, labels_behind, labels_made, with_label}
use Rattle.mdr_body.specs.declared.labels.CaseLabel.{CaseLabel}
use Rattle.mdr_core.specs.declared.kind.Kind.{Kind}
use Rattle.mdr_core.specs.declared.place.Place.{Place}
use Rattle.mdr_faults.specs.Faults.{Checked, told}
use Rattle.mdr_faults.specs.declared.fault.FaultKind.TheVariants.{Redefined}
use Rattle.mdr_faults.specs.declared.scope.Scope.{Scope}
use Rattle.mdr_operand.specs.Written.{Clauses, Line, Lines}
use Rattle.mdr_operand.specs.declared.operand.Integer.{Integer}
use Rattle.mdr_operand.specs.declared.operand.Operand.{Operand}
use Rattle.mdr_operand.specs.declared.room.LocalName.{LocalName}
use Rattle.mdr_placeless.proofs.Combined.{after_alike, chosen_by, demand_alike, next_alike}
use Rattle.mdr_placeless.proofs.Constants.{AreConsts, constants}
use Rattle.mdr_placeless.proofs.Lines.{AreClauses, AreLabels, AreLine, AreLines}
use Rattle.mdr_placeless.proofs.Lines.AreClauses.{MoreClauses, NoClauses}
use Rattle.mdr_placeless.proofs.Lines.AreLine.{Assigns, Blocks, Breaks, Continues, Dos, Empties, Fors, Ifs, Locals, Plains, Returns, Switches, Whiles}
use Rattle.mdr_placeless.proofs.Lines.AreLines.{Ends as NoLines, Thens as MoreLines}
use Rattle.mdr_placeless.proofs.Locals.{no_constants}
use Rattle.mdr_placeless.proofs.Operands.{integers}
use Rattle.mdr_placeless.proofs.Postfixes.{AreLocalNames}
use Rattle.mdr_placeless.proofs.Scopes.{AreScopes, Pairs, Perhaps}
use Rattle.mdr_placeless.proofs.Scopes.Pairs.{Cons, Nil}
use Rattle.mdr_placeless.proofs.Scopes.Perhaps.{Nones, Somes}
use Rattle.mdr_placeless.specs.Alike.{AreAlike}
use Rattle.mdr_placeless.specs.Alike.AreAlike.{Rights, Wrongs}
use Rattle.mdr_syntax.specs.declared.tree.Const.{Const}
use Rattle.mdr_syntax.specs.declared.tree.Label.{Label}
use Rattle.std.proofs.Common.{Bool, List, Option, ap, false, not, refl, subst, ◌||◌, ◌∙◌, ◌≡◌}

-- ---- labels

seen_same : (seen : List CaseLabel) {c d : Checked CaseLabel} → AreAlike c d → with_label seen (told c) ≡ with_label seen (told d)
seen_same seen (Rights x) = refl
seen_same seen (Wrongs f g) = refl

module _ {s t : Scope} (a : AreScopes s t) {ns ms : List LocalName} (h : Pairs AreLocalNames ns ms) (k : Kind) where
  case_constants : (p q : Place) {c d : Const} → AreConsts c d → AreAlike (case_constant s ns p c) (case_constant t ms q d)
  case_constants p q r = chosen_by _ _ (no_constants h r) (Wrongs _ _) (constants a p q r)

  labels_by : (p q : Place) {o o' : Option Const} → Perhaps AreConsts o o' → AreAlike (label_by s ns k p o) (label_by t ms k q o')
  labels_by p q Nones = Rights _
  labels_by p q (Somes r) = after_alike (case_constants p q r) (λ c. Rights _)

  label_both : (seen : List CaseLabel) {x y : Label} → AreLabels x y → AreAlike (label_made s ns k seen x) (label_made t ms k seen y)
  unfolding label_made
  label_both seen {x = x} {y = y} r = after_alike (labels_by x.place y.place r.value) (λ l. demand_alike x.place y.place Redefined (not (is_among seen l)) (Rights l))

  pub labels_both : (seen : List CaseLabel) {xs ys : List Label} → Pairs AreLabels xs ys → AreAlike (labels_made s ns k seen xs) (labels_made t ms k seen ys)
  unfolding labels_made
  labels_both seen Nil = Rights _
  labels_both seen (Cons {x = x} {y = y} {xs = xs} {ys = ys} r rs) =
      next_alike (label_both seen r)
      (subst (λ z. AreAlike (labels_made s ns k (with_label seen (told (label_made s ns k seen x))) xs) (labels_made t ms k z ys)) (seen_same seen (label_both seen r))
      (labels_both (with_label seen (told (label_made s ns k seen x))) rs))

  pub seen_both : (seen : List CaseLabel) {xs ys : List Label} → Pairs AreLabels xs ys → labels_behind s ns k seen xs ≡ labels_behind t ms k seen ys
  unfolding labels_behind
  seen_both seen Nil = refl
  seen_both seen (Cons {x = x} {y = y} {xs = xs} {ys = ys} r rs) =
      seen_both (with_label seen (told (label_made s ns k seen x))) rs ∙ ap (λ z. labels_behind t ms k z ys) (seen_same seen (label_both seen r))

-- ---- the value that is tested

pub switch_values : (p q : Place) (x : Operand) → AreAlike (switch_value p x) (switch_value q x)
unfolding switch_value
switch_values p q x = after_alike (integers p q x) (λ n. Rights _)

pub kinds_same : {c d : Checked Integer} → AreAlike c d → label_kind c ≡ label_kind d
kinds_same (Rights n) = refl
kinds_same (Wrongs f g) = refl

-- ---- where a clause ends

leaves_both : {l k : Line} → AreLine l k → leaves l ≡ leaves k
leaves_both (Empties p q) = refl
leaves_both (Blocks p q ls) = refl
leaves_both (Locals p q d o) = refl
leaves_both (Assigns p q at there op v w) = refl
leaves_both (Plains p q v) = refl
leaves_both (Ifs p q v l ls) = refl
leaves_both (Whiles p q v l) = refl
leaves_both (Fors p q ls o ls' l) = refl
leaves_both (Dos p q l v) = refl
leaves_both (Switches p q v cs) = refl
leaves_both (Returns p q o) = refl
leaves_both (Breaks p q) = refl
leaves_both (Continues p q) = refl

last_both : (b c : Bool) → b ≡ c → {ls ks : Lines} → AreLines ls ks → last_leaves b ls ≡ last_leaves c ks
last_both b c e NoLines = e
last_both b c e (MoreLines {l = l} {k = k} x xs) = last_both (leaves l) (leaves k) (leaves_both x) xs

is_last_both : {cs ds : Clauses} → AreClauses cs ds → is_last cs ≡ is_last ds
is_last_both NoClauses = refl
is_last_both (MoreClauses xs ls cs) = refl

pub ends_both : {ls ks : Lines} {cs ds : Clauses} → AreLines ls ks → AreClauses cs ds → ends ls (is_last cs) ≡ ends ks (is_last ds)
ends_both {ls = ls} {ks = ks} {cs = cs} {ds = ds} rs r = ap (λ b. b || last_leaves false ls) (is_last_both r) ∙ ap (λ b. is_last ds || b) (last_both false false refl rs)
