-- Statements keep to the rules of sound programs, if the rules of what stands in them do.
use Rattle.std.proofs.Common.{◌≡◌, ◌⊎◌, ℕ, ◌≤◌, ◌||◌, ◌&&◌, not, Bool, true, false, List, [], length, Option, Ok, refl, sym, ap, subst}
use Rattle.mdr_rich.specs.declared.code.Expr.{Expr}
use Rattle.mdr_rich.specs.declared.code.Step.{Step}
use Rattle.mdr_rich.specs.declared.code.Step.TheVariants as step
use Rattle.mdr_rich.specs.declared.code.Stmt.{Stmt}
use Rattle.mdr_core.specs.declared.place.Place.{Place}
use Rattle.mdr_core.specs.declared.program.Program.{Program}
use Rattle.mdr_core.specs.declared.types.Ty.{Ty}
use Rattle.mdr_core.specs.declared.types.Ty.TheVariants as type
use Rattle.mdr_rich.specs.Folds.{code_of, codes_of, term_of}
use Rattle.mdr_core.specs.Types.{Scalar, sort_of}
use Rattle.mdr_core.specs.Typing.{Slot, IsCondition, int}
use Rattle.mdr_rich.specs.Typing.{Has, IsTyped, AreTyped}
use Rattle.mdr_faults.specs.declared.scope.Scope.{Scope}
use Rattle.mdr_faults.specs.Faults.{Checked, Right, both, demand}
use Rattle.mdr_faults.specs.declared.fault.FaultKind.TheVariants.{Mismatch}
use Rattle.mdr_operand.specs.declared.operand.Integer.{Integer}
use Rattle.mdr_operand.specs.Written.{Written, Line, Lines, Clauses}
use Rattle.mdr_body.specs.declared.here.Frame.{Frame}
use Rattle.mdr_body.specs.declared.clauses.MadeClause.{MadeClause}
use Rattle.mdr_body.specs.declared.clauses.SortedClauses.{SortedClauses}
use Rattle.mdr_body.specs.declared.here.Here.{Here}
use Rattle.mdr_body.specs.declared.here.Jumps.{Jumps}
use Rattle.mdr_body.specs.declared.here.Tested.{Tested}
use Rattle.mdr_body.specs.declared.labels.CaseLabel.{CaseLabel}
use Rattle.mdr_body.specs.Labels.{labels_made, labels_behind}
use Rattle.mdr_body.specs.Clauses.{clause_place, ends, is_last, label_kind, made_clause, no_clauses, sorted}
use Rattle.mdr_body.specs.Locals.{with_local, is_taken, entered, left, numbered}
use Rattle.mdr_body.specs.Addresses.{takes_in, perhaps_takes, takes_at, takes_along, clauses_take, hides}
use Rattle.mdr_body.specs.Statements.{setting_of, standing_of, tail_of}
use Rattle.mdr_body.specs.Statements.{Rules, stmt, single, condition, perhaps_condition, appended, pair, ForHead, heads_made, heads_behind, steps_made, steps_behind, for_head, behind_head, inner_jumps, loop_jumps, clause_jumps, jumps_before, block_of, as_part, if_of, while_of, for_of, do_of, switch_of, switch_by, tested_value, tested_at, line_behind, perhaps_behind, lines_behind, clauses_behind, line_made, perhaps_made, lines_made, clauses_made}
use Rattle.mdr_sound.proofs.Rights.{same_right, after_right, both_right, demand_right}
use Rattle.mdr_sound.specs.Rules.{AreSoundRules}
use Rattle.mdr_sound.specs.Written.{PerhapsHasNumbers, IsStatement, AreStatements, IsProper, AreProper, AreProperClauses}
use Rattle.mdr_sound.specs.Within.{KnowsDeclarations, AreDeclared, in_front, IsTold, IsHere}
use Rattle.mdr_sound.proofs.JoinedLists.{or_left, or_right, or_both}
use Rattle.mdr_sound.proofs.Growing.{grows_on, grows_numbered, steps_grow, line_grows, perhaps_grow, lines_grow, clauses_grow, grows_left, left_keeps, names_keep}
use Rattle.mdr_sound.proofs.DeclaringLocals.{declared_before}
use Rattle.mdr_sound.proofs.Going.{here_less, here_numbered, here_entered, here_same, here_local}
use Rattle.mdr_sound.proofs.Coding.{typed_both, if_typed, while_typed, block_typed, for_typed, do_typed, switch_typed}
use Rattle.mdr_sound.proofs.Clausing.{AreMade, IsMade, one_made, clauses_sorted, labels_in, value_typed}
use Rattle.mdr_sound.proofs.Conditions.{condition_typed, test_typed}
use Rattle.mdr_sound.proofs.Sorting.{more_made}
use Rattle.mdr_sound.proofs.SimpleStatements.{simple_typed, written_right, perhaps_right}
use Rattle.mdr_sound.proofs.Heading.{pair_right, tail, told_line, told_none, steps_same, heads_here, heads_typed, steps_typed}

-- in a statement with others behind it there is a loop where there is one around all
pub before_same : (jumps : Jumps) (ls : Lines) → (jumps_before jumps ls).in_loop ≡ jumps.in_loop
before_same jumps Lines.End = refl
before_same jumps (Lines.Then l ls) = refl

-- a part takes no address behind it
and_none : (h : Bool) → (not h && false) ≡ false
and_none true = refl
and_none false = refl

pub front_of_none : (l : Line) (name : List ℕ) → takes_at name l ≡ false → in_front l (λ n. false) name ≡ false
front_of_none l name e = or_both (takes_at name l) (not (hides name l) && false) e (and_none (hides name l))

-- the parts of the head of a `for`
pub record IsHead (rules : Rules) (scope : Scope) (frame : Frame) (here : Here) (p : Place) (init : Lines) (test : Option Written) (step : Lines) (body : Line) (head : ForHead) : Type 0 where
  pub first : heads_made (setting_of rules scope frame) here (tail_of test step body) init ≡ Right head.0.0
  pub condition : perhaps_condition rules scope (heads_behind scope frame here (tail_of test step body) init) p test ≡ Right head.0.1
  pub stepped : steps_made (setting_of rules scope frame) (heads_behind scope frame here (tail_of test step body) init) step ≡ Right head.1

pub head_right : (rules : Rules) (scope : Scope) (frame : Frame) (here : Here) (p : Place) (init : Lines) (test : Option Written) (step : Lines) (body : Line) (head : ForHead) → for_head (setting_of rules scope frame) here p init (tail_of test step body) ≡ Right head → IsHead rules scope frame here p init test step body head
unfolding for_head
head_right rules scope frame here p init test step body head e =
    let made = heads_made (setting_of rules scope frame) here (tail_of test step body) init in
    let tested = perhaps_condition rules scope (heads_behind scope frame here (tail_of test step body) init) p test in
    let outer = pair_right (both made tested pair) (steps_made (setting_of rules scope frame) (heads_behind scope frame here (tail_of test step body) init) step) head e in
    let inner = pair_right made tested head.0 outer.first in
    record { first = inner.first; condition = inner.second; stepped = outer.second }

module _ (program : Program) (slots : List Slot) (base : ℕ) (scope : Scope) (frame : Frame) (known : KnowsDeclarations program scope) where
  -- ---- what is known behind a statement

  pub line_here : (here : Here) (t : Bool) (l : Line) (behind : List ℕ → Bool) → IsHere program slots base here (in_front l behind) → IsProper l → IsTold t l behind → AreDeclared slots base (line_behind scope frame here t l).locals → IsHere program slots base (line_behind scope frame here t l) behind
  line_here here t (Line.Local p d init) behind h proper told declared =
      here_numbered program slots base (with_local scope frame.locks t d here) behind
      (here_less program slots base (with_local scope frame.locks t d here) _ behind (here_local program slots base scope frame known here t p d init behind h proper.0 told declared) (λ name e. or_right (perhaps_takes name init) (behind name) e))
  line_here here t l behind h proper told declared =
      here_same program slots base here (line_behind scope frame here t l) behind (line_grows scope frame here t l) (names_keep scope frame here t l refl proper)
      (here_less program slots base here (in_front l behind) behind h (λ name e. or_right (takes_at name l) (behind name) e))

  -- behind a part of a statement
  pub part_here : (here : Here) (l : Line) (rest : List ℕ → Bool) → IsHere program slots base here rest → IsStatement l → IsProper l → IsHere program slots base (line_behind scope frame here false l) rest
  part_here here l rest h s proper = here_same program slots base here (line_behind scope frame here false l) rest (line_grows scope frame here false l) (names_keep scope frame here false l s proper) h

  -- behind the head of a `for`
  pub head_here : (here : Here) (init : Lines) (test : Option Written) (step : Lines) (body : Line) → IsHere program slots base (heads_behind scope frame here (tail_of test step body) init) (tail test step body) → AreStatements step → IsHere program slots base (behind_head scope frame here init (tail_of test step body)) (tail test step body)
  unfolding behind_head
  head_here here init test step body h s =
      let b : Here = heads_behind scope frame here (tail_of test step body) init in
      here_numbered program slots base (steps_behind scope frame b step) (tail test step body) (subst (λ x. IsHere program slots base x (tail test step body)) (sym (steps_same scope frame b step s)) h)

  pub head_declared : (here : Here) (init : Lines) (test : Option Written) (step : Lines) (body : Line) → AreStatements step → AreDeclared slots base (line_behind scope frame (behind_head scope frame here init (tail_of test step body)) false body).locals → AreDeclared slots base (heads_behind scope frame here (tail_of test step body) init).locals
  unfolding behind_head
  head_declared here init test step body s declared =
      let b : Here = heads_behind scope frame here (tail_of test step body) init in
      let c : Here = steps_behind scope frame b step in
      let g = grows_on b c _ (steps_grow scope frame b step) (grows_on c (numbered c) _ (grows_numbered c) (line_grows scope frame (numbered c) false body)) in
      declared_before slots base b.locals _ g.locals g.locals_are declared

  module _ (rules : Rules) (sound : AreSoundRules program slots scope rules) (result : Ty) (gives : frame.result ≡ Ok result) (given : (sort_of (length program.structs) result ≡ Scalar) ⊎ (result ≡ type.Void)) where
    -- ---- lists of statements

    single_typed : (b : Bool) (n : ℕ) (s : Step) (ss : List Stmt) → IsTyped program slots result b (code_of (stmt n s)) → single n s ≡ Right ss → AreTyped program slots result b (codes_of ss)
    single_typed b n s ss h e = subst (λ xs. AreTyped program slots result b (codes_of xs)) (same_right _ _ e) (h, tt)

    part_typed : (b is_part : Bool) (c : Checked (List Stmt)) (ss : List Stmt) → ((xs : List Stmt) → c ≡ Right xs → AreTyped program slots result b (codes_of xs)) → as_part is_part c ≡ Right ss → AreTyped program slots result b (codes_of ss)
    part_typed b true c ss h e = h ss e
    part_typed b false c ss h e =
        let a = after_right c block_of ss e in
        single_typed b 0 (step.Block a.value) ss (block_typed program slots result b 0 a.value (h a.value a.right)) a.made

    joined_typed : (b : Bool) (c d : Checked (List Stmt)) (ss : List Stmt) → ((xs : List Stmt) → c ≡ Right xs → AreTyped program slots result b (codes_of xs)) → ((xs : List Stmt) → d ≡ Right xs → AreTyped program slots result b (codes_of xs)) → both c d appended ≡ Right ss → AreTyped program slots result b (codes_of ss)
    joined_typed b c d ss h k e =
        let parts = both_right c d appended ss e in
        subst (λ xs. AreTyped program slots result b (codes_of xs)) (same_right _ _ parts.made)
        (typed_both program slots result b parts.left parts.right
        (h parts.left parts.first)
        (k parts.right parts.second))

    -- ---- statements with parts, over those of their parts

    if_right : (b : Bool) (n : ℕ) (tested : Checked Expr) (c d : Checked (List Stmt)) (ss : List Stmt) → 1 ≤ n → ((e : Expr) → tested ≡ Right e → IsCondition (Has program slots (term_of e))) → ((xs : List Stmt) → c ≡ Right xs → AreTyped program slots result b (codes_of xs)) → ((xs : List Stmt) → d ≡ Right xs → AreTyped program slots result b (codes_of xs)) → both (both tested c pair) d (if_of n) ≡ Right ss → AreTyped program slots result b (codes_of ss)
    if_right b n tested c d ss some t h k e =
        let outer = both_right (both tested c pair) d (if_of n) ss e in
        let inner = pair_right tested c outer.left outer.first in
        single_typed b n (step.If outer.left.0 outer.left.1 outer.right) ss
        (if_typed program slots result b n outer.left.0 outer.left.1 outer.right some (t outer.left.0 inner.first) (h outer.left.1 inner.second) (k outer.right outer.second))
        outer.made

    while_right : (b : Bool) (n : ℕ) (tested : Checked Expr) (c : Checked (List Stmt)) (ss : List Stmt) → 1 ≤ n → ((e : Expr) → tested ≡ Right e → IsCondition (Has program slots (term_of e))) → ((xs : List Stmt) → c ≡ Right xs → AreTyped program slots result true (codes_of xs)) → both tested c (while_of n) ≡ Right ss → AreTyped program slots result b (codes_of ss)
    while_right b n tested c ss some t h e =
        let parts = both_right tested c (while_of n) ss e in
        single_typed b n (step.While parts.left parts.right) ss
        (while_typed program slots result b n parts.left parts.right some (t parts.left parts.first) (h parts.right parts.second))
        parts.made

    for_right : (b : Bool) (here : Here) (p : Place) (init : Lines) (test : Option Written) (next : Lines) (body : Line) (n : ℕ) (c : Checked (List Stmt)) (ss : List Stmt) → 1 ≤ n → IsHere program slots base here (λ m. takes_along m init (tail test next body m)) → AreProper init → PerhapsHasNumbers test → AreStatements next → AreProper next → AreDeclared slots base (line_behind scope frame (behind_head scope frame here init (tail_of test next body)) false body).locals → ((xs : List Stmt) → c ≡ Right xs → AreTyped program slots result true (codes_of xs)) → both (for_head (setting_of rules scope frame) here p init (tail_of test next body)) c (for_of n) ≡ Right ss → AreTyped program slots result b (codes_of ss)
    for_right b here p init test next body n c ss some h proper numbers statements steps declared k e =
        let all = both_right (for_head (setting_of rules scope frame) here p init (tail_of test next body)) c (for_of n) ss e in
        let head = head_right rules scope frame here p init test next body all.left all.first in
        let declared_first = head_declared here init test next body statements declared in
        let behind : Here = heads_behind scope frame here (tail_of test next body) init in
        let inside = heads_here program slots base scope frame known here test next body init h proper declared_first in
        let tested = perhaps_right program slots base scope frame known rules sound result behind (tail test next body) test inside (λ m q. or_left (perhaps_takes m test) (takes_along m next false || takes_at m body) q) numbers in
        let before_step = here_less program slots base behind (tail test next body) (λ m. takes_along m next false) inside (λ m q. or_left (takes_along m next false) (takes_at m body) (or_right (perhaps_takes m test) (takes_along m next false || takes_at m body) q)) in
        let declared_step = subst (λ (x : Here). AreDeclared slots base x.locals) (sym (steps_same scope frame behind next statements)) declared_first in
        single_typed b n (step.For all.left.0.0 all.left.0.1 all.left.1 all.right) ss
        (for_typed program slots result b n all.left.0.0 all.left.0.1 all.left.1 all.right some
        (heads_typed program slots base scope frame known rules sound result gives given b here test next body init all.left.0.0 h proper declared_first head.first)
        (test_typed program slots scope rules sound behind p test all.left.0.1 inside.knows (record { each = tested }) head.condition)
        (steps_typed program slots base scope frame known rules sound result gives given false behind next all.left.1 before_step statements steps declared_step head.stepped)
        (k all.right all.second))
        all.made

    do_right : (b : Bool) (n : ℕ) (c : Checked (List Stmt)) (tested : Checked Expr) (ss : List Stmt) → 1 ≤ n → ((xs : List Stmt) → c ≡ Right xs → AreTyped program slots result true (codes_of xs)) → ((e : Expr) → tested ≡ Right e → IsCondition (Has program slots (term_of e))) → both c tested (do_of n) ≡ Right ss → AreTyped program slots result b (codes_of ss)
    do_right b n c tested ss some h t e =
        let parts = both_right c tested (do_of n) ss e in
        single_typed b n (step.Do parts.left parts.right) ss
        (do_typed program slots result b n parts.left parts.right some (h parts.left parts.first) (t parts.right parts.second))
        parts.made

    switch_right : (b : Bool) (n : ℕ) (tested : Checked Integer) (c : Checked (List MadeClause)) (ss : List Stmt) → 1 ≤ n → ((v : Integer) → tested ≡ Right v → Has program slots (term_of v.value) (int v.kind)) → ((v : Integer) (ms : List MadeClause) → tested ≡ Right v → c ≡ Right ms → AreMade program slots result b v.kind ms)
        → both tested c (switch_of n) ≡ Right ss → AreTyped program slots result b (codes_of ss)
    switch_right b n tested c ss some t h e =
        let parts = both_right tested c (switch_of n) ss e in
        let v : Integer = parts.left in
        let all : SortedClauses = sorted no_clauses parts.right in
        single_typed b n (step.Switch v.value all.tried all.fallback) ss
        (switch_typed program slots result b n v.value v.kind all.tried all.fallback some (t v parts.first) (clauses_sorted program slots result b v.kind parts.right (h v parts.right parts.first parts.second)))
        parts.made

    -- ---- all statements

    mutual
      pub line_typed : (here : Here) (jumps : Jumps) (is_part t : Bool) (l : Line) (behind : List ℕ → Bool) (ss : List Stmt) → IsHere program slots base here (in_front l behind) → IsProper l → IsTold t l behind → AreDeclared slots base (line_behind scope frame here t l).locals → line_made (setting_of rules scope frame) (standing_of jumps is_part t) here l ≡ Right ss → AreTyped program slots result jumps.in_loop (codes_of ss)
      line_typed here jumps is_part t (Line.Block p ls) behind ss h proper told declared e =
          let inside = here_entered program slots base here (λ n. takes_along n ls false) (here_less program slots base here _ (λ n. takes_along n ls false) h (λ name q. or_left (takes_along name ls false) (behind name) q)) in
          part_typed jumps.in_loop is_part (lines_made (setting_of rules scope frame) (inner_jumps jumps) (entered here) ls) ss (λ xs q. lines_typed (entered here) (inner_jumps jumps) ls xs inside proper declared q) e
      line_typed here jumps is_part t (Line.If p w one other) behind ss h proper told declared e =
          let b : Here = line_behind scope frame (numbered here) false one in
          let all = here_less program slots base here _ (λ n. takes_in n w || (takes_at n one || takes_along n other false)) h (λ name q. or_left (takes_in name w || (takes_at name one || takes_along name other false)) (behind name) q) in
          let parts = here_numbered program slots base here _ (here_less program slots base here _ (λ n. takes_at n one || takes_along n other false) all (λ name q. or_right (takes_in name w) _ q)) in
          let first = here_less program slots base (numbered here) _ (in_front one (λ n. false)) parts (λ name q. front_of_none one name (or_left (takes_at name one) (takes_along name other false) q)) in
          let second = part_here (numbered here) one (λ n. takes_along n other false) (here_less program slots base (numbered here) _ (λ n. takes_along n other false) parts (λ name q. or_right (takes_at name one) (takes_along name other false) q)) proper.1.0.0 proper.1.0.1 in
          let declared_first = declared_before slots base b.locals (perhaps_behind scope frame b other).locals _ (perhaps_grow scope frame b other).locals_are declared in
          let right = written_right program slots base scope frame known rules sound result here _ w all (λ name q. or_left (takes_in name w) _ q) proper.0 in
          if_right jumps.in_loop here.number (condition rules scope here p w) (line_made (setting_of rules scope frame) (standing_of (inner_jumps jumps) true false) (numbered here) one) (perhaps_made (setting_of rules scope frame) (inner_jumps jumps) b other) ss h.number
          (λ x q. condition_typed program slots scope rules sound here p w x h.knows right q)
          (λ xs q. line_typed (numbered here) (inner_jumps jumps) true false one (λ n. false) xs first proper.1.0.1 (told_none false one (λ n. false) proper.1.0.0) declared_first q)
          (λ xs q. perhaps_typed b (inner_jumps jumps) other xs second proper.1.1.0 proper.1.1.1 declared q)
          e
      line_typed here jumps is_part t (Line.While p w body) behind ss h proper told declared e =
          let all = here_less program slots base here _ (λ n. takes_in n w || takes_at n body) h (λ name q. or_left (takes_in name w || takes_at name body) (behind name) q) in
          let inside = here_numbered program slots base here _ (here_less program slots base here _ (in_front body (λ n. false)) all (λ name q. front_of_none body name (or_right (takes_in name w) (takes_at name body) q))) in
          let right = written_right program slots base scope frame known rules sound result here _ w all (λ name q. or_left (takes_in name w) _ q) proper.0 in
          while_right jumps.in_loop here.number (condition rules scope here p w) (line_made (setting_of rules scope frame) (standing_of loop_jumps true false) (numbered here) body) ss h.number
          (λ x q. condition_typed program slots scope rules sound here p w x h.knows right q)
          (λ xs q. line_typed (numbered here) loop_jumps true false body (λ n. false) xs inside proper.1.1 (told_none false body (λ n. false) proper.1.0) declared q)
          e
      line_typed here jumps is_part t (Line.For p init test next body) behind ss h proper told declared e =
          let all = here_entered program slots base here _ (here_less program slots base here _ (λ n. takes_along n init (tail test next body n)) h (λ name q. or_left (takes_along name init (tail test next body name)) (behind name) q)) in
          let first = heads_here program slots base scope frame known (entered here) test next body init all proper.0.0 (head_declared (entered here) init test next body proper.1.0.0 declared) in
          let b : Here = behind_head scope frame (entered here) init (tail_of test next body) in
          let inside = here_less program slots base b (tail test next body) (in_front body (λ n. false)) (head_here (entered here) init test next body first proper.1.0.0) (λ name q. front_of_none body name (or_right (takes_along name next false) (takes_at name body) (or_right (perhaps_takes name test) (takes_along name next false || takes_at name body) q))) in
          for_right jumps.in_loop (entered here) p init test next body here.number (line_made (setting_of rules scope frame) (standing_of loop_jumps true false) b body) ss h.number all proper.0.0 proper.0.1 proper.1.0.0 proper.1.0.1 declared
          (λ xs q. line_typed b loop_jumps true false body (λ n. false) xs inside proper.1.1.1 (told_none false body (λ n. false) proper.1.1.0) declared q)
          e
      line_typed here jumps is_part t (Line.Do p body w) behind ss h proper told declared e =
          let there : Here = line_behind scope frame (numbered here) false body in
          let all = here_less program slots base here _ (λ n. takes_at n body || takes_in n w) h (λ name q. or_left (takes_at name body || takes_in name w) (behind name) q) in
          let parts = here_numbered program slots base here _ all in
          let inside = here_less program slots base (numbered here) _ (in_front body (λ n. false)) parts (λ name q. front_of_none body name (or_left (takes_at name body) (takes_in name w) q)) in
          let rest = part_here (numbered here) body (λ n. takes_in n w) (here_less program slots base (numbered here) _ (λ n. takes_in n w) parts (λ name q. or_right (takes_at name body) (takes_in name w) q)) proper.0.0 proper.0.1 in
          let right = written_right program slots base scope frame known rules sound result there _ w rest (λ name q. q) proper.1 in
          do_right jumps.in_loop here.number (line_made (setting_of rules scope frame) (standing_of loop_jumps true false) (numbered here) body) (condition rules scope there p w) ss h.number
          (λ xs q. line_typed (numbered here) loop_jumps true false body (λ n. false) xs inside proper.0.1 (told_none false body (λ n. false) proper.0.0) declared q)
          (λ x q. condition_typed program slots scope rules sound there p w x rest.knows right q)
          e
      line_typed here jumps is_part t (Line.Switch p w cs) behind ss h proper told declared e =
          let tested : Checked Integer = tested_value rules scope here p w in
          let all = here_less program slots base here _ (λ n. takes_in n w || clauses_take n cs) h (λ name q. or_left (takes_in name w || clauses_take name cs) (behind name) q) in
          let inside = here_numbered program slots base here _ (here_less program slots base here _ (λ n. clauses_take n cs) all (λ name q. or_right (takes_in name w) (clauses_take name cs) q)) in
          let right = written_right program slots base scope frame known rules sound result here _ w all (λ name q. or_left (takes_in name w) _ q) proper.0 in
          switch_right jumps.in_loop here.number tested (clauses_made (setting_of rules scope frame) (clause_jumps jumps) (numbered here) (tested_at p tested) [] cs) ss h.number
          (λ v q. value_typed program slots scope rules sound here p w v h.knows right q)
          (λ v ms q r. subst (λ k. AreMade program slots result jumps.in_loop k ms) (ap label_kind q) (clauses_typed (numbered here) (clause_jumps jumps) (tested_at p tested) [] cs ms inside proper.1 declared r))
          e
      line_typed here jumps is_part t l behind ss h proper told declared e =
          simple_typed program slots base scope frame known rules sound result here jumps t jumps.in_loop l behind ss gives given (λ q. q) h proper told declared e

      pub perhaps_typed : (here : Here) (jumps : Jumps) (ls : Lines) (ss : List Stmt) → IsHere program slots base here (λ n. takes_along n ls false) → AreStatements ls → AreProper ls → AreDeclared slots base (perhaps_behind scope frame here ls).locals → perhaps_made (setting_of rules scope frame) jumps here ls ≡ Right ss → AreTyped program slots result jumps.in_loop (codes_of ss)
      perhaps_typed here jumps Lines.End ss h s proper declared e = subst (λ xs. AreTyped program slots result jumps.in_loop (codes_of xs)) (same_right [] ss e) tt
      perhaps_typed here jumps (Lines.Then l ls) ss h s proper declared e = line_typed here jumps true false l (λ n. takes_along n ls false) ss h proper.0 (told_none false l (λ n. takes_along n ls false) s.0) declared e

      pub lines_typed : (here : Here) (jumps : Jumps) (ls : Lines) (ss : List Stmt) → IsHere program slots base here (λ n. takes_along n ls false) → AreProper ls → AreDeclared slots base (lines_behind scope frame here ls).locals → lines_made (setting_of rules scope frame) jumps here ls ≡ Right ss → AreTyped program slots result jumps.in_loop (codes_of ss)
      lines_typed here jumps Lines.End ss h proper declared e = subst (λ xs. AreTyped program slots result jumps.in_loop (codes_of xs)) (same_right [] ss e) tt
      lines_typed here jumps (Lines.Then l ls) ss h proper declared e =
          let t = is_taken l ls in
          let b : Here = line_behind scope frame here t l in
          let first = declared_before slots base b.locals (lines_behind scope frame b ls).locals _ (lines_grow scope frame b ls).locals_are declared in
          let next = line_here here t l (λ n. takes_along n ls false) h proper.0 (told_line l ls) first in
          joined_typed jumps.in_loop (line_made (setting_of rules scope frame) (standing_of (jumps_before jumps ls) false t) here l) (lines_made (setting_of rules scope frame) jumps b ls) ss
          (λ xs q. subst (λ b. AreTyped program slots result b (codes_of xs)) (before_same jumps ls) (line_typed here (jumps_before jumps ls) false t l (λ n. takes_along n ls false) xs h proper.0 (told_line l ls) first q))
          (λ xs q. lines_typed b jumps ls xs next proper.1 declared q)
          e

      -- each clause in front of those behind it
      pub clauses_typed : (here : Here) (jumps : Jumps) (at : Tested) (seen : List CaseLabel) (cs : Clauses) (ms : List MadeClause) → IsHere program slots base here (λ n. clauses_take n cs) → AreProperClauses cs → AreDeclared slots base (clauses_behind scope frame here cs).locals
          → clauses_made (setting_of rules scope frame) jumps here at seen cs ≡ Right ms → AreMade program slots result jumps.in_loop at.kind ms
      clauses_typed here jumps at seen Clauses.NoPart ms h proper declared e = subst (AreMade program slots result jumps.in_loop at.kind) (same_right [] ms e) tt
      clauses_typed here jumps at seen (Clauses.Part labels ls cs) ms h proper declared e =
          let inner : Here = lines_behind scope frame (entered here) ls in
          let there : Here = left here inner in
          let parts = here_less program slots base here _ (λ n. takes_along n ls false) h (λ name q. or_left (takes_along name ls false) (clauses_take name cs) q) in
          let rest = here_less program slots base here _ (λ n. clauses_take n cs) h (λ name q. or_right (takes_along name ls false) (clauses_take name cs) q) in
          let grown = lines_grow scope frame (entered here) ls in
          let next = here_same program slots base here there (λ n. clauses_take n cs) (grows_left here inner grown) (left_keeps here inner grown) rest in
          let first = declared_before slots base inner.locals (clauses_behind scope frame there cs).locals _ (clauses_grow scope frame there cs).locals_are declared in
          let made = lines_made (setting_of rules scope frame) jumps (entered here) ls in
          let one = both (labels_made scope here.names at.kind seen labels) (demand (clause_place at.place labels) Mismatch (ends ls (is_last cs)) made) (made_clause at.kind) in
          let all = both_right one (clauses_made (setting_of rules scope frame) jumps there at (labels_behind scope here.names at.kind seen labels) cs) appended ms e in
          let own = both_right (labels_made scope here.names at.kind seen labels) (demand (clause_place at.place labels) Mismatch (ends ls (is_last cs)) made) (made_clause at.kind) all.left all.first in
          let body = demand_right (clause_place at.place labels) Mismatch (ends ls (is_last cs)) made own.right own.second in
          subst (AreMade program slots result jumps.in_loop at.kind) (same_right _ _ all.made)
          (more_made (IsMade program slots result jumps.in_loop at.kind) (AreTyped program slots result jumps.in_loop) all.left all.right
          (one_made program slots result jumps.in_loop at.kind own.left own.right all.left (labels_in scope here.names at.kind seen labels own.left own.first) (lines_typed (entered here) jumps ls own.right (here_entered program slots base here _ parts) proper.0.1 first body.right) own.made)
          (clauses_typed there jumps at (labels_behind scope here.names at.kind seen labels) cs all.right next proper.1 declared all.second))
