-- Statements, one behind the other.
use Rattle.std.proofs.Common.{ℕ, ◌≡◌, ◌<◌, ◌+◌, List, [], ◌∷◌, ◌++◌, drop, length, get_or, refl, ap, append_assoc, Bool, Result, Ok, Err}
use Rattle.std.proofs.Math.Path.{sym, ◌∙◌}
use Rattle.std.proofs.lemmas.List.{at_drop_more}
use Rattle.mdr_rich.specs.declared.code.Stmt.{Stmt}
use Rattle.mdr_syntax.specs.declared.tree.Node.{Node}
use Rattle.mdr_faults.specs.declared.fault.Fault.{Fault}
use Rattle.mdr_faults.specs.declared.scope.Scope.{Scope}
use Rattle.mdr_faults.specs.Faults.{Checked, Right, Wrong, both, told, first, followed}
use Rattle.mdr_operand.specs.Written.{line_of, lines_of}
use Rattle.mdr_body.specs.declared.here.Frame.{Frame}
use Rattle.mdr_body.specs.declared.here.Here.{Here}
use Rattle.mdr_body.specs.declared.here.Jumps.{Jumps}
use Rattle.mdr_body.specs.declared.here.Standing.{Standing}
use Rattle.mdr_body.specs.Statements.{Setting, ForTail, appended, no_jumps, in_list, head_taken, simple_made, simple_behind, heads_made, heads_behind, line_made, line_behind, lines_made, lines_behind}
use Rattle.mdr_faults.proofs.Order.{lesser_assoc}

followed_both : {A : Type 0} (a : Result (List A) Fault) (c cs : Checked (List A)) → followed (followed a (told c)) (told cs) ≡ followed a (told (both c cs appended))
followed_both (Ok xs) (Right x) (Right ys) = ap Ok (append_assoc xs x ys)
followed_both (Ok xs) (Right x) (Wrong g) = refl
followed_both (Ok xs) (Wrong f) (Right ys) = refl
followed_both (Ok xs) (Wrong f) (Wrong g) = refl
followed_both (Err e) (Right x) (Right ys) = refl
followed_both (Err e) (Right x) (Wrong g) = refl
followed_both (Err e) (Wrong f) (Right ys) = refl
followed_both (Err e) (Wrong f) (Wrong g) = ap Err (lesser_assoc e (first f) (first g))

-- a loop over a form's parts each of which is a list, at one part
pub one_list : {X A : Type 0} (F : List X → Checked (List A)) (c cs : Checked (List A)) (xs : List X) (i : ℕ) (x : X) (a a1 w : Result (List A) Fault) → i < length xs → x ≡ get_or xs i x → F (x ∷ drop (i + 1) xs) ≡ both c cs appended → a1 ≡ followed a (told c) → followed a (told (F (drop i xs))) ≡ w → followed a1 (told cs) ≡ w
one_list {X = X} {A = A} F c cs xs i x a a1 w inside is step grown so_far =
    let moved : F (drop i xs) ≡ both c cs appended = at_drop_more F xs i x inside ∙ ap (λ (y : X). F (y ∷ drop (i + 1) xs)) (sym is) ∙ step in
    ap (λ r. followed r (told cs)) grown ∙ followed_both a c cs ∙ sym (ap (λ d. followed a (told d)) moved) ∙ so_far

-- a list that a state is carried over, at one item
pub one_state : {X S : Type 0} (F : S → List X → S) (here here1 w : S) (xs : List X) (i : ℕ) (x : X) → i < length xs → x ≡ get_or xs i x → F here1 (drop (i + 1) xs) ≡ F here (x ∷ drop (i + 1) xs) → F here (drop i xs) ≡ w → F here1 (drop (i + 1) xs) ≡ w
one_state F here here1 w xs i x inside is step so_far =
    step ∙ ap (λ y. F here (y ∷ drop (i + 1) xs)) is ∙ sym (at_drop_more (F here) xs i x inside) ∙ so_far

pub one_line : (setting : Setting) (jumps : Jumps) (standing : Standing) (here here1 : Here) (xs : List Node) (i : ℕ) (x : Node) (m a a1 w : Result (List Stmt) Fault)
    → i < length xs → x ≡ get_or xs i x → standing ≡ in_list jumps (line_of x) (lines_of (drop (i + 1) xs))
    → here1 ≡ line_behind setting.scope setting.frame here standing.is_taken (line_of x) → m ≡ told (line_made setting standing here (line_of x)) → a1 ≡ followed a m
    → followed a (told (lines_made setting jumps here (lines_of (drop i xs)))) ≡ w → followed a1 (told (lines_made setting jumps here1 (lines_of (drop (i + 1) xs)))) ≡ w
one_line setting jumps standing here here1 xs i x m a a1 w inside is stands e made grown so_far =
    let c : Checked (List Stmt) = line_made setting standing here (line_of x) in
    one_list (λ ys. lines_made setting jumps here (lines_of ys)) c (lines_made setting jumps here1 (lines_of (drop (i + 1) xs))) xs i x a a1 w inside is
    (ap (λ (k : Standing). both (line_made setting k here (line_of x)) (lines_made setting jumps (line_behind setting.scope setting.frame here k.is_taken (line_of x)) (lines_of (drop (i + 1) xs))) appended) (sym stands)
    ∙ ap (λ h. both c (lines_made setting jumps h (lines_of (drop (i + 1) xs))) appended) (sym e))
    (grown ∙ ap (followed a) made) so_far

pub one_behind_line : (setting : Setting) (jumps : Jumps) (standing : Standing) (here here1 w : Here) (xs : List Node) (i : ℕ) (x : Node)
    → i < length xs → x ≡ get_or xs i x → standing ≡ in_list jumps (line_of x) (lines_of (drop (i + 1) xs))
    → here1 ≡ line_behind setting.scope setting.frame here standing.is_taken (line_of x)
    → lines_behind setting.scope setting.frame here (lines_of (drop i xs)) ≡ w → lines_behind setting.scope setting.frame here1 (lines_of (drop (i + 1) xs)) ≡ w
one_behind_line setting jumps standing here here1 w xs i x inside is stands e so_far =
    one_state (λ h ys. lines_behind setting.scope setting.frame h (lines_of ys)) here here1 w xs i x inside is
    (ap (λ h. lines_behind setting.scope setting.frame h (lines_of (drop (i + 1) xs))) (e ∙ ap (λ (k : Standing). line_behind setting.scope setting.frame here k.is_taken (line_of x)) stands)) so_far

pub one_head : (setting : Setting) (here here1 : Here) (tail : ForTail) (xs : List Node) (i : ℕ) (x : Node) (t : Bool) (m a a1 w : Result (List Stmt) Fault)
    → i < length xs → x ≡ get_or xs i x → t ≡ head_taken (line_of x) (lines_of (drop (i + 1) xs)) tail
    → here1 ≡ simple_behind setting.scope setting.frame here t (line_of x) → m ≡ told (simple_made setting no_jumps here t (line_of x)) → a1 ≡ followed a m
    → followed a (told (heads_made setting here tail (lines_of (drop i xs)))) ≡ w → followed a1 (told (heads_made setting here1 tail (lines_of (drop (i + 1) xs)))) ≡ w
unfolding heads_made
one_head setting here here1 tail xs i x t m a a1 w inside is taken e made grown so_far =
    let c : Checked (List Stmt) = simple_made setting no_jumps here t (line_of x) in
    one_list (λ ys. heads_made setting here tail (lines_of ys)) c (heads_made setting here1 tail (lines_of (drop (i + 1) xs))) xs i x a a1 w inside is
    (ap (λ b. both (simple_made setting no_jumps here b (line_of x)) (heads_made setting (simple_behind setting.scope setting.frame here b (line_of x)) tail (lines_of (drop (i + 1) xs))) appended) (sym taken)
    ∙ ap (λ h. both c (heads_made setting h tail (lines_of (drop (i + 1) xs))) appended) (sym e))
    (grown ∙ ap (followed a) made) so_far

pub one_behind_head : (scope : Scope) (frame : Frame) (here here1 w : Here) (tail : ForTail) (xs : List Node) (i : ℕ) (x : Node) (t : Bool)
    → i < length xs → x ≡ get_or xs i x → t ≡ head_taken (line_of x) (lines_of (drop (i + 1) xs)) tail → here1 ≡ simple_behind scope frame here t (line_of x)
    → heads_behind scope frame here tail (lines_of (drop i xs)) ≡ w → heads_behind scope frame here1 tail (lines_of (drop (i + 1) xs)) ≡ w
unfolding heads_behind
one_behind_head scope frame here here1 w tail xs i x t inside is taken e so_far =
    one_state (λ h ys. heads_behind scope frame h tail (lines_of ys)) here here1 w xs i x inside is
    (ap (λ h. heads_behind scope frame h tail (lines_of (drop (i + 1) xs))) (e ∙ ap (λ b. simple_behind scope frame here b (line_of x)) taken)) so_far
