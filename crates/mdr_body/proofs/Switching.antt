-- The labels and the clauses of a `switch`, one behind the other.
use Rattle.std.proofs.Common.{ℕ, ◌≡◌, ◌==◌, ◌<◌, ◌+◌, arith, ne_eqb, Bool, true, false, List, [], ◌∷◌, ◌++◌, drop, length, get_or, refl, ap, append_assoc, Result}
use Rattle.std.proofs.Math.Path.{sym, ◌∙◌}
use Rattle.std.proofs.lemmas.List.{at_drop_more}
use Rattle.mdr_core.specs.declared.kind.Kind.{Kind}
use Rattle.mdr_core.specs.declared.value.Value.{Value}
use Rattle.mdr_syntax.specs.declared.tree.Clause.{Clause}
use Rattle.mdr_syntax.specs.declared.tree.Label.{Label}
use Rattle.mdr_syntax.specs.declared.tree.Node.{Node}
use Rattle.mdr_faults.specs.declared.fault.Fault.{Fault}
use Rattle.mdr_faults.specs.declared.fault.FaultKind.TheVariants.{Mismatch}
use Rattle.mdr_faults.specs.declared.scope.Scope.{Scope}
use Rattle.mdr_faults.specs.Faults.{Checked, both, demand, extended, followed, next, told}
use Rattle.mdr_faults.proofs.Gathered.{one_more}
use Rattle.mdr_operand.specs.declared.room.LocalName.{LocalName}
use Rattle.mdr_operand.specs.Written.{clause_of, clauses_of, lines_of}
use Rattle.mdr_body.specs.declared.clauses.MadeClause.{MadeClause}
use Rattle.mdr_body.specs.declared.clauses.SortedClauses.{SortedClauses}
use Rattle.mdr_body.specs.declared.here.Frame.{Frame}
use Rattle.mdr_body.specs.declared.here.Here.{Here}
use Rattle.mdr_body.specs.declared.here.Jumps.{Jumps}
use Rattle.mdr_body.specs.declared.here.Tested.{Tested}
use Rattle.mdr_body.specs.declared.labels.CaseLabel.{CaseLabel}
use Rattle.mdr_body.specs.declared.labels.CaseLabel.TheVariants as label
use Rattle.mdr_body.specs.Locals.{entered, left}
use Rattle.mdr_body.specs.Labels.{cases, label_made, labels_behind, labels_made, with_case, with_label}
use Rattle.mdr_body.specs.Clauses.{clause_place, ends, is_last, made_clause, sorted, with_clause}
use Rattle.mdr_body.specs.Statements.{Setting, appended, clauses_behind, clauses_made, inner_jumps, jumps_before, lines_behind, lines_made}
use Rattle.mdr_body.proofs.Gathering.{one_list, one_state}

-- ---- where a list ends

pub other_jumps : (jumps : Jumps) (xs : List Node) → (length xs == 0) ≡ false → inner_jumps jumps ≡ jumps_before jumps (lines_of xs)
other_jumps jumps [] e = absurd cc
other_jumps jumps (x ∷ xs) e = refl

pub none_behind : (xs : List Clause) → (length xs == 0) ≡ is_last (clauses_of xs)
none_behind [] = refl
none_behind (x ∷ xs) = ne_eqb (length (x ∷ xs)) 0 (λ e. omega (arith, e))

-- ---- labels

pub one_label : (scope : Scope) (names : List LocalName) (k : Kind) (seen seen1 : List CaseLabel) (m : Result CaseLabel Fault) (xs : List Label) (i : ℕ) (x : Label) (a a1 w : Result (List CaseLabel) Fault) → i < length xs → x ≡ get_or xs i x → m ≡ told (label_made scope names k seen x) → seen1 ≡ with_label seen m → a1 ≡ extended a m → followed a (told (labels_made scope names k seen (drop i xs))) ≡ w → followed a1 (told (labels_made scope names k seen1 (drop (i + 1) xs))) ≡ w
unfolding labels_made
one_label scope names k seen seen1 m xs i x a a1 w inside is made e grown so_far =
    one_more (labels_made scope names k seen) (label_made scope names k seen x) (labels_made scope names k seen1 (drop (i + 1) xs)) xs i x a a1 w inside is
    (ap (λ s. next (label_made scope names k seen x) (labels_made scope names k s (drop (i + 1) xs))) (sym (e ∙ ap (with_label seen) made)))
    (grown ∙ ap (extended a) made) so_far

pub one_behind_label : (scope : Scope) (names : List LocalName) (k : Kind) (seen seen1 w : List CaseLabel) (m : Result CaseLabel Fault) (xs : List Label) (i : ℕ) (x : Label) → i < length xs → x ≡ get_or xs i x → m ≡ told (label_made scope names k seen x) → seen1 ≡ with_label seen m → labels_behind scope names k seen (drop i xs) ≡ w → labels_behind scope names k seen1 (drop (i + 1) xs) ≡ w
unfolding labels_behind
one_behind_label scope names k seen seen1 w m xs i x inside is made e so_far =
    one_state (labels_behind scope names k) seen seen1 w xs i x inside is (ap (λ s. labels_behind scope names k s (drop (i + 1) xs)) (e ∙ ap (with_label seen) made)) so_far

in_front : (k : Kind) (x : CaseLabel) (vs : List Value) → with_case k x [] ++ vs ≡ with_case k x vs
in_front k (label.Number n) vs = refl
in_front k label.Default vs = refl

pub one_case : (k : Kind) (xs : List CaseLabel) (i : ℕ) (x : CaseLabel) (vs vs1 w : List Value) → i < length xs → vs1 ≡ vs ++ with_case k (get_or xs i x) [] → vs ++ cases k (drop i xs) ≡ w → vs1 ++ cases k (drop (i + 1) xs) ≡ w
one_case k xs i x vs vs1 w inside grown so_far =
    ap (λ us. us ++ cases k (drop (i + 1) xs)) grown
    ∙ append_assoc vs (with_case k (get_or xs i x) []) (cases k (drop (i + 1) xs))
    ∙ ap (λ us. vs ++ us) (in_front k (get_or xs i x) (cases k (drop (i + 1) xs)) ∙ sym (at_drop_more (cases k) xs i x inside))
    ∙ so_far

-- ---- clauses

pub sorted_more : (s : SortedClauses) (cs : List MadeClause) (c : MadeClause) → with_clause (sorted s cs) c ≡ sorted s (cs ++ c ∷ [])
unfolding sorted
sorted_more s [] c = refl
sorted_more s (d ∷ ds) c = sorted_more (with_clause s d) ds c

pub one_clause : (setting : Setting) (jumps : Jumps) (here here1 : Here) (at : Tested) (seen seen1 : List CaseLabel) (xs : List Clause) (i : ℕ) (x : Clause) (b : Bool) (m a a1 w : Result (List MadeClause) Fault)
    → i < length xs → x ≡ get_or xs i x → b ≡ is_last (clauses_of (drop (i + 1) xs))
    → here1 ≡ left here (lines_behind setting.scope setting.frame (entered here) (clause_of x).1)
    → seen1 ≡ labels_behind setting.scope here.names at.kind seen (clause_of x).0
    → m ≡ told (both (labels_made setting.scope here.names at.kind seen (clause_of x).0) (demand (clause_place at.place (clause_of x).0) Mismatch (ends (clause_of x).1 b) (lines_made setting jumps (entered here) (clause_of x).1)) (made_clause at.kind))
    → a1 ≡ followed a m → followed a (told (clauses_made setting jumps here at seen (clauses_of (drop i xs)))) ≡ w → followed a1 (told (clauses_made setting jumps here1 at seen1 (clauses_of (drop (i + 1) xs)))) ≡ w
one_clause setting jumps here here1 at seen seen1 xs i x b m a a1 w inside is last e s made grown so_far =
    let one : Bool → Checked (List MadeClause) = λ t. both (labels_made setting.scope here.names at.kind seen (clause_of x).0) (demand (clause_place at.place (clause_of x).0) Mismatch (ends (clause_of x).1 t) (lines_made setting jumps (entered here) (clause_of x).1)) (made_clause at.kind) in
    one_list (λ ys. clauses_made setting jumps here at seen (clauses_of ys)) (one b) (clauses_made setting jumps here1 at seen1 (clauses_of (drop (i + 1) xs))) xs i x a a1 w inside is
    (ap (λ t. both (one t) (clauses_made setting jumps (left here (lines_behind setting.scope setting.frame (entered here) (clause_of x).1)) at (labels_behind setting.scope here.names at.kind seen (clause_of x).0) (clauses_of (drop (i + 1) xs))) appended) (sym last)
    ∙ λ j. both (one b) (clauses_made setting jumps (sym e j) at (sym s j) (clauses_of (drop (i + 1) xs))) appended)
    (grown ∙ ap (followed a) made) so_far

pub one_behind_clause : (scope : Scope) (frame : Frame) (here here1 w : Here) (xs : List Clause) (i : ℕ) (x : Clause) → i < length xs → x ≡ get_or xs i x → here1 ≡ left here (lines_behind scope frame (entered here) (clause_of x).1) → clauses_behind scope frame here (clauses_of (drop i xs)) ≡ w → clauses_behind scope frame here1 (clauses_of (drop (i + 1) xs)) ≡ w
one_behind_clause scope frame here here1 w xs i x inside is e so_far =
    one_state (λ h ys. clauses_behind scope frame h (clauses_of ys)) here here1 w xs i x inside is (ap (λ h. clauses_behind scope frame h (clauses_of (drop (i + 1) xs))) e) so_far
