-- The head of a `for` keeps to the rules of sound programs.
use Rattle.std.proofs.Common.{◌≡◌, ◌⊎◌, ℕ, ◌||◌, Bool, false, List, [], length, Option, Some, None, Ok, refl, sym, ap, ◌∙◌, subst, true≢false}
use Rattle.mdr_rich.specs.declared.code.Stmt.{Stmt}
use Rattle.mdr_core.specs.declared.program.Program.{Program}
use Rattle.mdr_core.specs.declared.types.Ty.{Ty}
use Rattle.mdr_core.specs.declared.types.Ty.TheVariants as type
use Rattle.mdr_rich.specs.Folds.{codes_of}
use Rattle.mdr_core.specs.Types.{Scalar, sort_of}
use Rattle.mdr_core.specs.Typing.{Slot}
use Rattle.mdr_rich.specs.Typing.{AreTyped}
use Rattle.mdr_syntax.specs.declared.tree.Decl.{out-Decl}
use Rattle.mdr_faults.specs.declared.scope.Scope.{Scope}
use Rattle.mdr_faults.specs.Faults.{Checked, Right, both}
use Rattle.mdr_operand.specs.Written.{Written, Line, Lines}
use Rattle.mdr_body.specs.declared.here.Frame.{Frame}
use Rattle.mdr_body.specs.declared.here.Here.{Here}
use Rattle.mdr_body.specs.Locals.{with_local, takes, is_taken}
use Rattle.mdr_body.specs.Addresses.{perhaps_takes, takes_at, takes_along}
use Rattle.mdr_body.specs.Statements.{setting_of, tail_of, Rules, no_jumps, appended, pair, taken_behind, head_taken, simple_made, simple_behind, heads_made, heads_behind, steps_made, steps_behind}
use Rattle.mdr_sound.proofs.Rights.{same_right, both_right}
use Rattle.mdr_sound.specs.Rules.{AreSoundRules}
use Rattle.mdr_sound.specs.Written.{IsStatement, AreStatements, IsProper, AreProper}
use Rattle.mdr_sound.specs.Within.{KnowsDeclarations, AreDeclared, in_front, takes_behind, IsTold, IsHere}
use Rattle.mdr_sound.proofs.JoinedLists.{or_right}
use Rattle.mdr_sound.proofs.Growing.{heads_grow}
use Rattle.mdr_sound.proofs.DeclaringLocals.{declared_before}
use Rattle.mdr_sound.proofs.Going.{here_less, here_local}
use Rattle.mdr_sound.proofs.Coding.{typed_both}
use Rattle.mdr_sound.proofs.SimpleStatements.{simple_typed}

-- two parts that are found right
pub record ArePaired {A B : Type 0} (c : Checked A) (d : Checked B) (x : A) (y : B) : Type 0 where
  pub first : c ≡ Right x
  pub second : d ≡ Right y

pub pair_right : {A B : Type 0} (c : Checked A) (d : Checked B) (z : A × B) → both c d pair ≡ Right z → ArePaired c d z.0 z.1
pair_right c d z e =
    let b = both_right c d pair z e in
    let same = same_right (b.left, b.right) z b.made in
    record { first = b.first ∙ ap (λ q. Right q.0) same; second = b.second ∙ ap (λ q. Right q.1) same }

-- ---- what is known of the addresses that are taken

-- whose addresses a `for` takes behind the first part of its head
abbrev pub tail : (test : Option Written) → (step : Lines) → (body : Line) → List ℕ → Bool
tail test step body name = perhaps_takes name test || (takes_along name step false || takes_at name body)

told_by : (name : Option (List ℕ)) (init : Option Written) (ls : Lines) (test : Option Written) (step : Lines) (body : Line) → taken_behind name init ls (tail_of test step body) ≡ takes_behind name init (λ n. takes_along n ls (tail test step body n))
told_by None init ls test step body = refl
told_by (Some name) init ls test step body = refl

pub told_head : (l : Line) (ls : Lines) (test : Option Written) (step : Lines) (body : Line) → IsTold (head_taken l ls (tail_of test step body)) l (λ n. takes_along n ls (tail test step body n))
told_head (Line.Local p d init) ls test step body = told_by (out-Decl d).name init ls test step body
told_head l ls test step body = tt

takes_by : (name : Option (List ℕ)) (init : Option Written) (ls : Lines) → takes name init ls ≡ takes_behind name init (λ n. takes_along n ls false)
takes_by None init ls = refl
takes_by (Some name) init ls = refl

pub told_line : (l : Line) (ls : Lines) → IsTold (is_taken l ls) l (λ n. takes_along n ls false)
told_line (Line.Local p d init) ls = takes_by (out-Decl d).name init ls
told_line l ls = tt

-- a statement declares nothing of which it might not be known
pub told_none : (t : Bool) (l : Line) (behind : List ℕ → Bool) → IsStatement l → IsTold t l behind
told_none t (Line.Local p d init) behind s = absurd cc
told_none t l behind s = tt

pub steps_same : (scope : Scope) (frame : Frame) (here : Here) (ls : Lines) → AreStatements ls → steps_behind scope frame here ls ≡ here
steps_same scope frame here Lines.End s = refl
steps_same scope frame here (Lines.Then l ls) s = on l s.0 where
  on : (l : Line) → IsStatement l → simple_behind scope frame here false l ≡ here
  on (Line.Local p d init) s = absurd cc
  on l s = refl

module _ (program : Program) (slots : List Slot) (base : ℕ) (scope : Scope) (frame : Frame) (known : KnowsDeclarations program scope) where
  pub simple_here : (here : Here) (t : Bool) (l : Line) (behind : List ℕ → Bool) → IsHere program slots base here (in_front l behind) → IsProper l → IsTold t l behind → AreDeclared slots base (simple_behind scope frame here t l).locals → IsHere program slots base (simple_behind scope frame here t l) behind
  simple_here here t (Line.Local p d init) behind h proper told declared =
      here_less program slots base (with_local scope frame.locks t d here) _ behind (here_local program slots base scope frame known here t p d init behind h proper.0 told declared) (λ name e. or_right (perhaps_takes name init) (behind name) e)
  simple_here here t l behind h proper told declared = here_less program slots base here (in_front l behind) behind h (λ name e. or_right (takes_at name l) (behind name) e)

  pub heads_here : (here : Here) (test : Option Written) (step : Lines) (body : Line) (ls : Lines) → IsHere program slots base here (λ n. takes_along n ls (tail test step body n)) → AreProper ls → AreDeclared slots base (heads_behind scope frame here (tail_of test step body) ls).locals → IsHere program slots base (heads_behind scope frame here (tail_of test step body) ls) (tail test step body)
  unfolding heads_behind
  heads_here here test step body Lines.End h proper declared = h
  heads_here here test step body (Lines.Then l ls) h proper declared =
      let t = head_taken l ls (tail_of test step body) in
      let b : Here = simple_behind scope frame here t l in
      let first = declared_before slots base b.locals (heads_behind scope frame b (tail_of test step body) ls).locals _ (heads_grow scope frame b test step body ls).locals_are declared in
      heads_here b test step body ls (simple_here here t l (λ n. takes_along n ls (tail test step body n)) h proper.0 (told_head l ls test step body) first) proper.1 declared

  module _ (rules : Rules) (sound : AreSoundRules program slots scope rules) (result : Ty) (gives : frame.result ≡ Ok result) (given : (sort_of (length program.structs) result ≡ Scalar) ⊎ (result ≡ type.Void)) where
    pub heads_typed : (b : Bool) (here : Here) (test : Option Written) (step : Lines) (body : Line) (ls : Lines) (ss : List Stmt) → IsHere program slots base here (λ n. takes_along n ls (tail test step body n)) → AreProper ls → AreDeclared slots base (heads_behind scope frame here (tail_of test step body) ls).locals → heads_made (setting_of rules scope frame) here (tail_of test step body) ls ≡ Right ss → AreTyped program slots result b (codes_of ss)
    unfolding heads_behind heads_made
    heads_typed b here test step body Lines.End ss h proper declared e = subst (λ xs. AreTyped program slots result b (codes_of xs)) (same_right [] ss e) tt
    heads_typed b here test step body (Lines.Then l ls) ss h proper declared e =
        let t = head_taken l ls (tail_of test step body) in
        let next : Here = simple_behind scope frame here t l in
        let behind : List ℕ → Bool = λ n. takes_along n ls (tail test step body n) in
        let first = declared_before slots base next.locals (heads_behind scope frame next (tail_of test step body) ls).locals _ (heads_grow scope frame next test step body ls).locals_are declared in
        let parts = both_right (simple_made (setting_of rules scope frame) no_jumps here t l) (heads_made (setting_of rules scope frame) next (tail_of test step body) ls) appended ss e in
        let one = simple_typed program slots base scope frame known rules sound result here no_jumps t b l behind parts.left gives given (λ f. absurd (true≢false (sym f))) h proper.0 (told_head l ls test step body) first parts.first in
        let rest = heads_typed b next test step body ls parts.right (simple_here here t l behind h proper.0 (told_head l ls test step body) first) proper.1 declared parts.second in
        subst (λ xs. AreTyped program slots result b (codes_of xs)) (same_right _ _ parts.made) (typed_both program slots result b parts.left parts.right one rest)

    pub steps_typed : (b : Bool) (here : Here) (ls : Lines) (ss : List Stmt) → IsHere program slots base here (λ n. takes_along n ls false) → AreStatements ls → AreProper ls → AreDeclared slots base (steps_behind scope frame here ls).locals → steps_made (setting_of rules scope frame) here ls ≡ Right ss → AreTyped program slots result b (codes_of ss)
    steps_typed b here Lines.End ss h s proper declared e = subst (λ xs. AreTyped program slots result b (codes_of xs)) (same_right [] ss e) tt
    steps_typed b here (Lines.Then l ls) ss h s proper declared e =
        simple_typed program slots base scope frame known rules sound result here no_jumps false b l (λ n. takes_along n ls false) ss gives given (λ f. absurd (true≢false (sym f))) h proper.0 (told_none false l (λ n. takes_along n ls false) s.0) declared e
