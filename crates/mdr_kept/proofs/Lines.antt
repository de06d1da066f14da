-- Statements name objects only where they live, if what stands in them does.
use Rattle.std.proofs.Common.{◌≡◌, ◌⊎◌, ℕ, ◌||◌, Bool, true, false, List, [], ◌∷◌, length, Option, Some, Ok, refl, sym, ◌∙◌, subst}
use Rattle.mdr_rich.specs.declared.code.Clause.{Clause}
use Rattle.mdr_rich.specs.declared.code.Expr.{Expr}
use Rattle.mdr_rich.specs.declared.code.Step.TheVariants as step
use Rattle.mdr_rich.specs.declared.code.Stmt.{Stmt}
use Rattle.mdr_core.specs.declared.place.Place.{Place}
use Rattle.mdr_core.specs.declared.program.Program.{Program}
use Rattle.mdr_core.specs.declared.types.Ty.{Ty}
use Rattle.mdr_core.specs.declared.types.Ty.TheVariants as type
use Rattle.mdr_core.specs.declared.value.Value.{Value}
use Rattle.mdr_rich.specs.Code.{Code, Codes}
use Rattle.mdr_rich.specs.Folds.{code_of, codes_of, clauses_of, term_of, test_of}
use Rattle.mdr_core.specs.Types.{Scalar, sort_of}
use Rattle.mdr_core.specs.Typing.{Slot, int}
use Rattle.mdr_rich.proofs.Coded.{code_is, if_is, while_is, for_is, do_is, switch_is, block_is}
use Rattle.mdr_faults.specs.declared.scope.Scope.{Scope}
use Rattle.mdr_faults.specs.declared.fault.FaultKind.TheVariants.{Mismatch}
use Rattle.mdr_faults.specs.Faults.{Checked, Right, both, demand}
use Rattle.mdr_operand.specs.declared.operand.Integer.{Integer}
use Rattle.mdr_operand.specs.Written.{Written, Line, Lines, Clauses}
use Rattle.mdr_body.specs.declared.clauses.MadeClause.{MadeClause}
use Rattle.mdr_body.specs.declared.clauses.SortedClauses.{SortedClauses}
use Rattle.mdr_body.specs.declared.here.Frame.{Frame}
use Rattle.mdr_body.specs.declared.here.Here.{Here}
use Rattle.mdr_body.specs.declared.here.Jumps.{Jumps}
use Rattle.mdr_body.specs.declared.here.Tested.{Tested}
use Rattle.mdr_body.specs.declared.labels.CaseLabel.{CaseLabel}
use Rattle.mdr_body.specs.Clauses.{clause_place, ends, is_last, made_clause, no_clauses, sorted}
use Rattle.mdr_body.specs.Labels.{labels_made, labels_behind}
use Rattle.mdr_body.specs.Locals.{is_taken, entered, left, numbered}
use Rattle.mdr_body.specs.Addresses.{takes_in, perhaps_takes, takes_at, takes_along, clauses_take}
use Rattle.mdr_body.specs.Statements.{setting_of, standing_of, tail_of}
use Rattle.mdr_body.specs.Statements.{Rules, stmt, condition, perhaps_condition, appended, pair, head_taken, simple_made, simple_behind, heads_made, heads_behind, steps_made, steps_behind, for_head, behind_head, no_jumps, inner_jumps, loop_jumps, clause_jumps, jumps_before, block_of, as_part, if_of, while_of, for_of, do_of, switch_of, tested_value, tested_at, line_behind, perhaps_behind, lines_behind, clauses_behind, line_made, perhaps_made, lines_made, clauses_made}
use Rattle.mdr_sound.proofs.Rights.{same_right, after_right, both_right, demand_right}
use Rattle.mdr_sound.specs.Rules.{IsRight, AreSoundRules}
use Rattle.mdr_sound.specs.Written.{PerhapsHasNumbers, IsStatement, AreStatements, IsProper, AreProper, AreProperClauses}
use Rattle.mdr_sound.specs.Within.{KnowsDeclarations, AreDeclared, in_front, IsTold, IsHere}
use Rattle.mdr_sound.proofs.JoinedLists.{or_left, or_right}
use Rattle.mdr_sound.proofs.Growing.{Grows, grows_left, line_grows, perhaps_grow, lines_grow, clauses_grow, heads_grow, left_keeps, names_keep}
use Rattle.mdr_sound.proofs.DeclaringLocals.{declared_before}
use Rattle.mdr_sound.proofs.Going.{here_less, here_numbered, here_entered, here_same}
use Rattle.mdr_sound.proofs.Clausing.{value_typed}
use Rattle.mdr_sound.proofs.Conditions.{condition_typed, test_typed}
use Rattle.mdr_sound.proofs.Sorting.{EachMade, EachTried, all_sorted, more_made}
use Rattle.mdr_sound.proofs.SimpleStatements.{written_right, perhaps_right}
use Rattle.mdr_sound.proofs.Heading.{pair_right, tail, told_head, told_line, told_none, steps_same, simple_here, heads_here}
use Rattle.mdr_sound.proofs.Lining.{front_of_none, head_right, head_here, head_declared, line_here, part_here}
use Rattle.mdr_kept.specs.Named.{TermScoped, CodesScoped, ClausesScoped}
use Rattle.mdr_kept.specs.Plain.{ArePlainRules}
use Rattle.mdr_kept.proofs.Hiding.{hidden}
use Rattle.mdr_kept.proofs.Living.{Live, live_numbered, live_entered, live_same, knows_hidden, IsStill, Leaves, behinds, behinds_both, scoped_both, scoped_before}
use Rattle.mdr_kept.proofs.Seeing.{term_scoped}
use Rattle.mdr_kept.proofs.Steps.{leaves_one, simple_leaves}

-- ---- statements with parts, as code

module _ (slots : List Slot) (objects : List ℕ) where
  if_still : (n : ℕ) (e : Expr) (one other : List Stmt) → TermScoped objects (term_of e) → CodesScoped slots objects (codes_of one) → CodesScoped slots objects (codes_of other) → IsStill slots objects (code_of (stmt n (step.If e one other)))
  if_still n e one other test first second = subst (IsStill slots objects) (sym (code_is (stmt n (step.If e one other)) (step.If e one other) refl ∙ if_is n e one other)) (record { scoped = (test, first, second); still = refl })

  while_still : (n : ℕ) (e : Expr) (body : List Stmt) → TermScoped objects (term_of e) → CodesScoped slots objects (codes_of body) → IsStill slots objects (code_of (stmt n (step.While e body)))
  while_still n e body test turn = subst (IsStill slots objects) (sym (code_is (stmt n (step.While e body)) (step.While e body) refl ∙ while_is n e body)) (record { scoped = (test, tt, turn); still = refl })

  do_still : (n : ℕ) (body : List Stmt) (e : Expr) → CodesScoped slots objects (codes_of body) → TermScoped objects (term_of e) → IsStill slots objects (code_of (stmt n (step.Do body e)))
  do_still n body e turn test = subst (IsStill slots objects) (sym (code_is (stmt n (step.Do body e)) (step.Do body e) refl ∙ do_is n body e)) (record { scoped = (turn, test); still = refl })

  -- clauses, whatever their labels
  abbrev ClauseScoped : List Value → Codes → Type 0
  ClauseScoped labels body = CodesScoped slots objects body

  abbrev MadeScoped : List MadeClause → Type 0
  MadeScoped = EachMade ClauseScoped (CodesScoped slots objects)

  parts_scoped : (cs : List Clause) (other : List Stmt) → EachTried ClauseScoped (CodesScoped slots objects) cs → CodesScoped slots objects (codes_of other) → ClausesScoped slots objects (clauses_of cs other)
  parts_scoped [] other h k = k
  parts_scoped (c ∷ cs) other h k = (h.0, parts_scoped cs other h.1 k)

  switch_still : (n : ℕ) (e : Expr) (ms : List MadeClause) → TermScoped objects (term_of e) → MadeScoped ms → IsStill slots objects (code_of (stmt n (step.Switch e (sorted no_clauses ms).tried (sorted no_clauses ms).fallback)))
  switch_still n e ms value parts =
      let all : SortedClauses = sorted no_clauses ms in
      let s = all_sorted ClauseScoped (CodesScoped slots objects) (λ vs cs h. h) tt ms parts in
      subst (IsStill slots objects) (sym (code_is (stmt n (step.Switch e all.tried all.fallback)) (step.Switch e all.tried all.fallback) refl ∙ switch_is n e all.tried all.fallback))
      (record { scoped = (value, parts_scoped all.tried all.fallback s.tried s.fallback); still = refl })

  block_still : (n : ℕ) (body : List Stmt) → CodesScoped slots objects (codes_of body) → IsStill slots objects (code_of (stmt n (step.Block body)))
  block_still n body h = subst (IsStill slots objects) (sym (code_is (stmt n (step.Block body)) (step.Block body) refl ∙ block_is n body)) (record { scoped = h; still = refl })

  for_still : (n : ℕ) (init : List Stmt) (test : Option Expr) (next body : List Stmt) → CodesScoped slots objects (codes_of init) → TermScoped (behinds slots objects (codes_of init)) (test_of test) → CodesScoped slots (behinds slots objects (codes_of init)) (codes_of next) → CodesScoped slots (behinds slots objects (codes_of init)) (codes_of body) → IsStill slots objects (code_of (stmt n (step.For init test next body)))
  for_still n init test next body first condition stepped turn =
      let loop : Code = Code.Loop n (test_of test) (codes_of next) (codes_of body) in
      subst (IsStill slots objects) (sym (code_is (stmt n (step.For init test next body)) (step.For init test next body) refl ∙ for_is n init test next body))
      (record { scoped = scoped_before slots init loop objects first (condition, stepped, turn); still = refl })

-- statements behind statements
module _ (slots : List Slot) where
  pub leaves_none : (there : Here) (objects : List ℕ) (is_part : Bool) (ss : List Stmt) → Live there objects → Right [] ≡ Right ss → Leaves slots there objects is_part ss
  leaves_none there objects is_part ss live e = subst (λ xs. Leaves slots there objects is_part xs) (same_right [] ss e) (record { scoped = tt; goes_on = λ q. live })

  pub leaves_both : (between there : Here) (objects : List ℕ) (xs ys ss : List Stmt) → Leaves slots between objects false xs → (Live between (behinds slots objects (codes_of xs)) → Leaves slots there (behinds slots objects (codes_of xs)) false ys) → appended xs ys ≡ Right ss → Leaves slots there objects false ss
  leaves_both between there objects xs ys ss h k e =
      let rest = k (h.goes_on refl) in
      subst (λ zs. Leaves slots there objects false zs) (same_right _ _ e) (record {
        scoped = scoped_both slots xs ys objects h.scoped rest.scoped;
        goes_on = λ q. subst (Live there) (sym (behinds_both slots xs ys objects)) (rest.goes_on refl);
      })

  numbered_leaves : (there : Here) (objects : List ℕ) (is_part : Bool) (ss : List Stmt) → Leaves slots there objects false ss → Leaves slots (numbered there) objects is_part ss
  numbered_leaves there objects is_part ss h = record { scoped = h.scoped; goes_on = λ q. live_numbered there _ (h.goes_on refl) }

module _ (program : Program) (slots : List Slot) (base : ℕ) (scope : Scope) (frame : Frame) (known : KnowsDeclarations program scope) (rules : Rules) (sound : (seen : List Slot) → AreSoundRules program seen scope rules) (plain : ArePlainRules scope rules) (result : Ty) (gives : frame.result ≡ Ok result) (given : (sort_of (length program.structs) result ≡ Scalar) ⊎ (result ≡ type.Void)) where
  -- ---- places

  -- behind a part of a statement, the same objects live
  part_live : (here : Here) (l : Line) (objects : List ℕ) → Live here objects → IsStatement l → IsProper l → Live (line_behind scope frame here false l) objects
  part_live here l objects live s proper = live_same here (line_behind scope frame here false l) objects (line_grows scope frame here false l) (names_keep scope frame here false l s proper) live

  -- ---- conditions

  condition_scoped : (here : Here) (objects : List ℕ) (p : Place) (w : Written) (rest : List ℕ → Bool) (e : Expr) → Live here objects → IsHere program slots base here rest → IsRight here.names w → condition rules scope here p w ≡ Right e → TermScoped objects (term_of e)
  condition_scoped here objects p w rest e live h right q =
      let c = condition_typed program (hidden objects slots) scope rules (sound (hidden objects slots)) here p w e (knows_hidden program slots here objects h.knows live) right q in
      term_scoped program slots objects (term_of e) c.type c.operand

  -- what a `switch` tests
  value_scoped : (here : Here) (objects : List ℕ) (p : Place) (w : Written) (rest : List ℕ → Bool) (v : Integer) → Live here objects → IsHere program slots base here rest → IsRight here.names w → tested_value rules scope here p w ≡ Right v → TermScoped objects (term_of v.value)
  value_scoped here objects p w rest v live h right q =
      term_scoped program slots objects (term_of v.value) (int v.kind) (value_typed program (hidden objects slots) scope rules (sound (hidden objects slots)) here p w v (knows_hidden program slots here objects h.knows live) right q)

  test_scoped : (here : Here) (objects : List ℕ) (p : Place) (w : Option Written) (rest : List ℕ → Bool) (e : Option Expr) → Live here objects → IsHere program slots base here rest → ((v : Written) → w ≡ Some v → IsRight here.names v) → perhaps_condition rules scope here p w ≡ Right e → TermScoped objects (test_of e)
  test_scoped here objects p w rest e live h right q =
      let c = test_typed program (hidden objects slots) scope rules (sound (hidden objects slots)) here p w e (knows_hidden program slots here objects h.knows live) (record { each = right }) q in
      term_scoped program slots objects (test_of e) c.type c.operand

  -- ---- the head of a `for`

  heads_leave : (here : Here) (objects : List ℕ) (test : Option Written) (next : Lines) (body : Line) (ls : Lines) (ss : List Stmt) → Live here objects → IsHere program slots base here (λ n. takes_along n ls (tail test next body n)) → AreProper ls → AreDeclared slots base (heads_behind scope frame here (tail_of test next body) ls).locals → heads_made (setting_of rules scope frame) here (tail_of test next body) ls ≡ Right ss → Leaves slots (heads_behind scope frame here (tail_of test next body) ls) objects false ss
  unfolding heads_behind heads_made
  heads_leave here objects test next body Lines.End ss live h proper declared e = leaves_none slots here objects false ss live e
  heads_leave here objects test next body (Lines.Then l ls) ss live h proper declared e =
      let t = head_taken l ls (tail_of test next body) in
      let there : Here = simple_behind scope frame here t l in
      let rest : List ℕ → Bool = λ n. takes_along n ls (tail test next body n) in
      let first = declared_before slots base there.locals (heads_behind scope frame there (tail_of test next body) ls).locals _ (heads_grow scope frame there test next body ls).locals_are declared in
      let parts = both_right (simple_made (setting_of rules scope frame) no_jumps here t l) (heads_made (setting_of rules scope frame) there (tail_of test next body) ls) appended ss e in
      let one = simple_leaves program slots base scope frame known rules sound plain result gives given here objects no_jumps t l rest parts.left live h proper.0 (told_head l ls test next body) first parts.first in
      leaves_both slots there (heads_behind scope frame there (tail_of test next body) ls) objects parts.left parts.right ss one
      (λ more. heads_leave there (behinds slots objects (codes_of parts.left)) test next body ls parts.right more (simple_here program slots base scope frame known here t l rest h proper.0 (told_head l ls test next body) first) proper.1 declared parts.second)
      parts.made

  steps_scoped : (here : Here) (objects : List ℕ) (ls : Lines) (ss : List Stmt) → Live here objects → IsHere program slots base here (λ n. takes_along n ls false) → AreStatements ls → AreProper ls → AreDeclared slots base (steps_behind scope frame here ls).locals → steps_made (setting_of rules scope frame) here ls ≡ Right ss → CodesScoped slots objects (codes_of ss)
  steps_scoped here objects Lines.End ss live h s proper declared e = subst (λ xs. CodesScoped slots objects (codes_of xs)) (same_right [] ss e) tt
  steps_scoped here objects (Lines.Then l ls) ss live h s proper declared e =
      (simple_leaves program slots base scope frame known rules sound plain result gives given here objects no_jumps false l (λ n. takes_along n ls false) ss live h proper.0 (told_none false l (λ n. takes_along n ls false) s.0) declared e).scoped

  -- behind the head
  head_live : (here : Here) (objects : List ℕ) (init : Lines) (test : Option Written) (next : Lines) (body : Line) → AreStatements next → Live (heads_behind scope frame here (tail_of test next body) init) objects → Live (behind_head scope frame here init (tail_of test next body)) objects
  unfolding behind_head
  head_live here objects init test next body s live =
      let b : Here = heads_behind scope frame here (tail_of test next body) init in
      live_numbered (steps_behind scope frame b next) objects (subst (λ x. Live x objects) (sym (steps_same scope frame b next s)) live)

  -- ---- statements with parts, over those of their parts

  -- where a part is made of code that is right
  abbrev PartScoped : List ℕ → Checked (List Stmt) → Type 0
  PartScoped objects c = (xs : List Stmt) → c ≡ Right xs → CodesScoped slots objects (codes_of xs)

  part_leaves : (there : Here) (objects : List ℕ) (is_part : Bool) (c : Checked (List Stmt)) (ss : List Stmt) → Live there objects → PartScoped objects c → as_part is_part c ≡ Right ss → Leaves slots there objects is_part ss
  part_leaves there objects true c ss live h e = record { scoped = h ss e; goes_on = λ q. absurd (no q) }
    where
      no : true ≡ false → ⊥
      no q = absurd cc
  part_leaves there objects false c ss live h e =
      let a = after_right c block_of ss e in
      leaves_one slots there objects false 0 (step.Block a.value) ss live (block_still slots objects 0 a.value (h a.value a.right)) a.made

  if_leaves : (there : Here) (objects : List ℕ) (is_part : Bool) (n : ℕ) (tested : Checked Expr) (c d : Checked (List Stmt)) (ss : List Stmt) → Live there objects → ((e : Expr) → tested ≡ Right e → TermScoped objects (term_of e)) → PartScoped objects c → PartScoped objects d → both (both tested c pair) d (if_of n) ≡ Right ss → Leaves slots there objects is_part ss
  if_leaves there objects is_part n tested c d ss live t h k e =
      let outer = both_right (both tested c pair) d (if_of n) ss e in
      let inner = pair_right tested c outer.left outer.first in
      leaves_one slots there objects is_part n (step.If outer.left.0 outer.left.1 outer.right) ss live
      (if_still slots objects n outer.left.0 outer.left.1 outer.right (t outer.left.0 inner.first) (h outer.left.1 inner.second) (k outer.right outer.second))
      outer.made

  while_leaves : (there : Here) (objects : List ℕ) (is_part : Bool) (n : ℕ) (tested : Checked Expr) (c : Checked (List Stmt)) (ss : List Stmt) → Live there objects → ((e : Expr) → tested ≡ Right e → TermScoped objects (term_of e)) → PartScoped objects c → both tested c (while_of n) ≡ Right ss → Leaves slots there objects is_part ss
  while_leaves there objects is_part n tested c ss live t h e =
      let parts = both_right tested c (while_of n) ss e in
      leaves_one slots there objects is_part n (step.While parts.left parts.right) ss live
      (while_still slots objects n parts.left parts.right (t parts.left parts.first) (h parts.right parts.second))
      parts.made

  do_leaves : (there : Here) (objects : List ℕ) (is_part : Bool) (n : ℕ) (c : Checked (List Stmt)) (tested : Checked Expr) (ss : List Stmt) → Live there objects → PartScoped objects c → ((e : Expr) → tested ≡ Right e → TermScoped objects (term_of e)) → both c tested (do_of n) ≡ Right ss → Leaves slots there objects is_part ss
  do_leaves there objects is_part n c tested ss live h t e =
      let parts = both_right c tested (do_of n) ss e in
      leaves_one slots there objects is_part n (step.Do parts.left parts.right) ss live
      (do_still slots objects n parts.left parts.right (h parts.left parts.first) (t parts.right parts.second))
      parts.made

  switch_leaves : (there : Here) (objects : List ℕ) (is_part : Bool) (n : ℕ) (tested : Checked Integer) (c : Checked (List MadeClause)) (ss : List Stmt) → Live there objects → ((v : Integer) → tested ≡ Right v → TermScoped objects (term_of v.value)) → ((ms : List MadeClause) → c ≡ Right ms → MadeScoped slots objects ms)
      → both tested c (switch_of n) ≡ Right ss → Leaves slots there objects is_part ss
  switch_leaves there objects is_part n tested c ss live t h e =
      let parts = both_right tested c (switch_of n) ss e in
      let all : SortedClauses = sorted no_clauses parts.right in
      leaves_one slots there objects is_part n (step.Switch parts.left.value all.tried all.fallback) ss live
      (switch_still slots objects n parts.left.value parts.right (t parts.left parts.first) (h parts.right parts.second))
      parts.made

  for_leaves : (there here : Here) (objects : List ℕ) (is_part : Bool) (p : Place) (init : Lines) (test : Option Written) (next : Lines) (body : Line) (n : ℕ) (c : Checked (List Stmt)) (ss : List Stmt) → Live there objects → Live here objects → IsHere program slots base here (λ m. takes_along m init (tail test next body m)) → AreProper init → PerhapsHasNumbers test → AreStatements next → AreProper next → AreDeclared slots base (line_behind scope frame (behind_head scope frame here init (tail_of test next body)) false body).locals → ((more : List ℕ) → Live (heads_behind scope frame here (tail_of test next body) init) more → PartScoped more c) → both (for_head (setting_of rules scope frame) here p init (tail_of test next body)) c (for_of n) ≡ Right ss → Leaves slots there objects is_part ss
  for_leaves there here objects is_part p init test next body n c ss live inside_live h proper numbers statements steps declared k e =
      let all = both_right (for_head (setting_of rules scope frame) here p init (tail_of test next body)) c (for_of n) ss e in
      let head = head_right rules scope frame here p init test next body all.left all.first in
      let declared_first = head_declared program slots base scope frame known here init test next body statements declared in
      let behind : Here = heads_behind scope frame here (tail_of test next body) init in
      let inside = heads_here program slots base scope frame known here test next body init h proper declared_first in
      let tested = perhaps_right program slots base scope frame known rules (sound slots) result behind (tail test next body) test inside (λ m q. or_left (perhaps_takes m test) (takes_along m next false || takes_at m body) q) numbers in
      let before_step = here_less program slots base behind (tail test next body) (λ m. takes_along m next false) inside (λ m q. or_left (takes_along m next false) (takes_at m body) (or_right (perhaps_takes m test) (takes_along m next false || takes_at m body) q)) in
      let declared_step = subst (λ (x : Here). AreDeclared slots base x.locals) (sym (steps_same scope frame behind next statements)) declared_first in
      let first = heads_leave here objects test next body init all.left.0.0 inside_live h proper declared_first head.first in
      let more : List ℕ = behinds slots objects (codes_of all.left.0.0) in
      let live_behind : Live behind more = first.goes_on refl in
      leaves_one slots there objects is_part n (step.For all.left.0.0 all.left.0.1 all.left.1 all.right) ss live
      (for_still slots objects n all.left.0.0 all.left.0.1 all.left.1 all.right first.scoped
      (test_scoped behind more p test (tail test next body) all.left.0.1 live_behind inside tested head.condition)
      (steps_scoped behind more next all.left.1 live_behind before_step statements steps declared_step head.stepped)
      (k more live_behind all.right all.second))
      all.made

  -- ---- all statements

  mutual
    pub line_leaves : (here : Here) (objects : List ℕ) (jumps : Jumps) (is_part t : Bool) (l : Line) (rest : List ℕ → Bool) (ss : List Stmt) → Live here objects → IsHere program slots base here (in_front l rest) → IsProper l → IsTold t l rest → AreDeclared slots base (line_behind scope frame here t l).locals → line_made (setting_of rules scope frame) (standing_of jumps is_part t) here l ≡ Right ss → Leaves slots (line_behind scope frame here t l) objects is_part ss
    line_leaves here objects jumps is_part t (Line.Block p ls) rest ss live h proper told declared e =
        let inside = here_entered program slots base here (λ n. takes_along n ls false) (here_less program slots base here _ (λ n. takes_along n ls false) h (λ name q. or_left (takes_along name ls false) (rest name) q)) in
        let there : Here = line_behind scope frame here t (Line.Block p ls) in
        part_leaves there objects is_part (lines_made (setting_of rules scope frame) (inner_jumps jumps) (entered here) ls) ss
        (live_same here there objects (line_grows scope frame here t (Line.Block p ls)) (names_keep scope frame here t (Line.Block p ls) refl proper) live)
        (λ xs q. (lines_leave (entered here) objects (inner_jumps jumps) ls xs (live_entered here objects live) inside proper declared q).scoped) e
    line_leaves here objects jumps is_part t (Line.If p w one other) rest ss live h proper told declared e =
        let there : Here = line_behind scope frame here t (Line.If p w one other) in
        let b : Here = line_behind scope frame (numbered here) false one in
        let all = here_less program slots base here _ (λ n. takes_in n w || (takes_at n one || takes_along n other false)) h (λ name q. or_left (takes_in name w || (takes_at name one || takes_along name other false)) (rest name) q) in
        let parts = here_numbered program slots base here _ (here_less program slots base here _ (λ n. takes_at n one || takes_along n other false) all (λ name q. or_right (takes_in name w) _ q)) in
        let first = here_less program slots base (numbered here) _ (in_front one (λ n. false)) parts (λ name q. front_of_none one name (or_left (takes_at name one) (takes_along name other false) q)) in
        let second = part_here program slots base scope frame known (numbered here) one (λ n. takes_along n other false) (here_less program slots base (numbered here) _ (λ n. takes_along n other false) parts (λ name q. or_right (takes_at name one) (takes_along name other false) q)) proper.1.0.0 proper.1.0.1 in
        let declared_first = declared_before slots base b.locals (perhaps_behind scope frame b other).locals _ (perhaps_grow scope frame b other).locals_are declared in
        let right = written_right program slots base scope frame known rules (sound slots) result here _ w all (λ name q. or_left (takes_in name w) _ q) proper.0 in
        let live_part = live_numbered here objects live in
        if_leaves there objects is_part here.number (condition rules scope here p w) (line_made (setting_of rules scope frame) (standing_of (inner_jumps jumps) true false) (numbered here) one) (perhaps_made (setting_of rules scope frame) (inner_jumps jumps) b other) ss
        (live_same here there objects (line_grows scope frame here t (Line.If p w one other)) (names_keep scope frame here t (Line.If p w one other) refl proper) live)
        (λ x q. condition_scoped here objects p w _ x live all right q)
        (λ xs q. (line_leaves (numbered here) objects (inner_jumps jumps) true false one (λ n. false) xs live_part first proper.1.0.1 (told_none false one (λ n. false) proper.1.0.0) declared_first q).scoped)
        (λ xs q. perhaps_scoped b objects (inner_jumps jumps) other xs (part_live (numbered here) one objects live_part proper.1.0.0 proper.1.0.1) second proper.1.1.0 proper.1.1.1 declared q)
        e
    line_leaves here objects jumps is_part t (Line.While p w body) rest ss live h proper told declared e =
        let there : Here = line_behind scope frame here t (Line.While p w body) in
        let all = here_less program slots base here _ (λ n. takes_in n w || takes_at n body) h (λ name q. or_left (takes_in name w || takes_at name body) (rest name) q) in
        let inside = here_numbered program slots base here _ (here_less program slots base here _ (in_front body (λ n. false)) all (λ name q. front_of_none body name (or_right (takes_in name w) (takes_at name body) q))) in
        let right = written_right program slots base scope frame known rules (sound slots) result here _ w all (λ name q. or_left (takes_in name w) _ q) proper.0 in
        while_leaves there objects is_part here.number (condition rules scope here p w) (line_made (setting_of rules scope frame) (standing_of loop_jumps true false) (numbered here) body) ss
        (live_same here there objects (line_grows scope frame here t (Line.While p w body)) (names_keep scope frame here t (Line.While p w body) refl proper) live)
        (λ x q. condition_scoped here objects p w _ x live all right q)
        (λ xs q. (line_leaves (numbered here) objects loop_jumps true false body (λ n. false) xs (live_numbered here objects live) inside proper.1.1 (told_none false body (λ n. false) proper.1.0) declared q).scoped)
        e
    line_leaves here objects jumps is_part t (Line.For p init test next body) rest ss live h proper told declared e =
        let there : Here = line_behind scope frame here t (Line.For p init test next body) in
        let all = here_entered program slots base here _ (here_less program slots base here _ (λ n. takes_along n init (tail test next body n)) h (λ name q. or_left (takes_along name init (tail test next body name)) (rest name) q)) in
        let first = heads_here program slots base scope frame known (entered here) test next body init all proper.0.0 (head_declared program slots base scope frame known (entered here) init test next body proper.1.0.0 declared) in
        let b : Here = behind_head scope frame (entered here) init (tail_of test next body) in
        let inside = here_less program slots base b (tail test next body) (in_front body (λ n. false)) (head_here program slots base scope frame known (entered here) init test next body first proper.1.0.0) (λ name q. front_of_none body name (or_right (takes_along name next false) (takes_at name body) (or_right (perhaps_takes name test) (takes_along name next false || takes_at name body) q))) in
        for_leaves there (entered here) objects is_part p init test next body here.number (line_made (setting_of rules scope frame) (standing_of loop_jumps true false) b body) ss
        (live_same here there objects (line_grows scope frame here t (Line.For p init test next body)) (names_keep scope frame here t (Line.For p init test next body) refl proper) live)
        (live_entered here objects live) all proper.0.0 proper.0.1 proper.1.0.0 proper.1.0.1 declared
        (λ more live_behind xs q. (line_leaves b more loop_jumps true false body (λ n. false) xs (head_live (entered here) more init test next body proper.1.0.0 live_behind) inside proper.1.1.1 (told_none false body (λ n. false) proper.1.1.0) declared q).scoped)
        e
    line_leaves here objects jumps is_part t (Line.Do p body w) rest ss live h proper told declared e =
        let there : Here = line_behind scope frame (numbered here) false body in
        let all = here_less program slots base here _ (λ n. takes_at n body || takes_in n w) h (λ name q. or_left (takes_at name body || takes_in name w) (rest name) q) in
        let parts = here_numbered program slots base here _ all in
        let inside = here_less program slots base (numbered here) _ (in_front body (λ n. false)) parts (λ name q. front_of_none body name (or_left (takes_at name body) (takes_in name w) q)) in
        let behind_it = part_here program slots base scope frame known (numbered here) body (λ n. takes_in n w) (here_less program slots base (numbered here) _ (λ n. takes_in n w) parts (λ name q. or_right (takes_at name body) (takes_in name w) q)) proper.0.0 proper.0.1 in
        let right = written_right program slots base scope frame known rules (sound slots) result there _ w behind_it (λ name q. q) proper.1 in
        let live_there = part_live (numbered here) body objects (live_numbered here objects live) proper.0.0 proper.0.1 in
        do_leaves there objects is_part here.number (line_made (setting_of rules scope frame) (standing_of loop_jumps true false) (numbered here) body) (condition rules scope there p w) ss live_there
        (λ xs q. (line_leaves (numbered here) objects loop_jumps true false body (λ n. false) xs (live_numbered here objects live) inside proper.0.1 (told_none false body (λ n. false) proper.0.0) declared q).scoped)
        (λ x q. condition_scoped there objects p w _ x live_there behind_it right q)
        e
    line_leaves here objects jumps is_part t (Line.Switch p w cs) rest ss live h proper told declared e =
        let there : Here = line_behind scope frame here t (Line.Switch p w cs) in
        let tested : Checked Integer = tested_value rules scope here p w in
        let all = here_less program slots base here _ (λ n. takes_in n w || clauses_take n cs) h (λ name q. or_left (takes_in name w || clauses_take name cs) (rest name) q) in
        let inside = here_numbered program slots base here _ (here_less program slots base here _ (λ n. clauses_take n cs) all (λ name q. or_right (takes_in name w) (clauses_take name cs) q)) in
        let right = written_right program slots base scope frame known rules (sound slots) result here _ w all (λ name q. or_left (takes_in name w) _ q) proper.0 in
        switch_leaves there objects is_part here.number tested (clauses_made (setting_of rules scope frame) (clause_jumps jumps) (numbered here) (tested_at p tested) [] cs) ss
        (live_same here there objects (line_grows scope frame here t (Line.Switch p w cs)) (names_keep scope frame here t (Line.Switch p w cs) refl proper) live)
        (λ v q. value_scoped here objects p w _ v live all right q)
        (λ ms q. clauses_leave (numbered here) objects (clause_jumps jumps) (tested_at p tested) [] cs ms (live_numbered here objects live) inside proper.1 declared q)
        e
    line_leaves here objects jumps is_part t l rest ss live h proper told declared e =
        numbered_leaves slots (simple_behind scope frame here t l) objects is_part ss (simple_leaves program slots base scope frame known rules sound plain result gives given here objects jumps t l rest ss live h proper told declared e)

    pub perhaps_scoped : (here : Here) (objects : List ℕ) (jumps : Jumps) (ls : Lines) (ss : List Stmt) → Live here objects → IsHere program slots base here (λ n. takes_along n ls false) → AreStatements ls → AreProper ls → AreDeclared slots base (perhaps_behind scope frame here ls).locals → perhaps_made (setting_of rules scope frame) jumps here ls ≡ Right ss → CodesScoped slots objects (codes_of ss)
    perhaps_scoped here objects jumps Lines.End ss live h s proper declared e = subst (λ xs. CodesScoped slots objects (codes_of xs)) (same_right [] ss e) tt
    perhaps_scoped here objects jumps (Lines.Then l ls) ss live h s proper declared e = (line_leaves here objects jumps true false l (λ n. takes_along n ls false) ss live h proper.0 (told_none false l (λ n. takes_along n ls false) s.0) declared e).scoped

    pub lines_leave : (here : Here) (objects : List ℕ) (jumps : Jumps) (ls : Lines) (ss : List Stmt) → Live here objects → IsHere program slots base here (λ n. takes_along n ls false) → AreProper ls → AreDeclared slots base (lines_behind scope frame here ls).locals → lines_made (setting_of rules scope frame) jumps here ls ≡ Right ss → Leaves slots (lines_behind scope frame here ls) objects false ss
    lines_leave here objects jumps Lines.End ss live h proper declared e = leaves_none slots here objects false ss live e
    lines_leave here objects jumps (Lines.Then l ls) ss live h proper declared e =
        let t = is_taken l ls in
        let b : Here = line_behind scope frame here t l in
        let first = declared_before slots base b.locals (lines_behind scope frame b ls).locals _ (lines_grow scope frame b ls).locals_are declared in
        let next = line_here program slots base scope frame known here t l (λ n. takes_along n ls false) h proper.0 (told_line l ls) first in
        let parts = both_right (line_made (setting_of rules scope frame) (standing_of (jumps_before jumps ls) false t) here l) (lines_made (setting_of rules scope frame) jumps b ls) appended ss e in
        leaves_both slots b (lines_behind scope frame b ls) objects parts.left parts.right ss
        (line_leaves here objects (jumps_before jumps ls) false t l (λ n. takes_along n ls false) parts.left live h proper.0 (told_line l ls) first parts.first)
        (λ more. lines_leave b (behinds slots objects (codes_of parts.left)) jumps ls parts.right more next proper.1 declared parts.second)
        parts.made

    -- each clause in front of those behind it
    pub clauses_leave : (here : Here) (objects : List ℕ) (jumps : Jumps) (at : Tested) (seen : List CaseLabel) (cs : Clauses) (ms : List MadeClause) → Live here objects → IsHere program slots base here (λ n. clauses_take n cs) → AreProperClauses cs → AreDeclared slots base (clauses_behind scope frame here cs).locals
        → clauses_made (setting_of rules scope frame) jumps here at seen cs ≡ Right ms → MadeScoped slots objects ms
    clauses_leave here objects jumps at seen Clauses.NoPart ms live h proper declared e = subst (MadeScoped slots objects) (same_right [] ms e) tt
    clauses_leave here objects jumps at seen (Clauses.Part labels ls cs) ms live h proper declared e =
        let inner : Here = lines_behind scope frame (entered here) ls in
        let there : Here = left here inner in
        let parts = here_less program slots base here _ (λ n. takes_along n ls false) h (λ name q. or_left (takes_along name ls false) (clauses_take name cs) q) in
        let rest = here_less program slots base here _ (λ n. clauses_take n cs) h (λ name q. or_right (takes_along name ls false) (clauses_take name cs) q) in
        let grown = lines_grow scope frame (entered here) ls in
        let grows : Grows here there = grows_left here inner grown in
        let same = left_keeps here inner grown in
        let next = here_same program slots base here there (λ n. clauses_take n cs) grows same rest in
        let first = declared_before slots base inner.locals (clauses_behind scope frame there cs).locals _ (clauses_grow scope frame there cs).locals_are declared in
        let made = lines_made (setting_of rules scope frame) jumps (entered here) ls in
        let checked = labels_made scope here.names at.kind seen labels in
        let body = demand (clause_place at.place labels) Mismatch (ends ls (is_last cs)) made in
        let all = both_right (both checked body (made_clause at.kind)) (clauses_made (setting_of rules scope frame) jumps there at (labels_behind scope here.names at.kind seen labels) cs) appended ms e in
        let own = both_right checked body (made_clause at.kind) all.left all.first in
        let right = demand_right (clause_place at.place labels) Mismatch (ends ls (is_last cs)) made own.right own.second in
        let one = lines_leave (entered here) objects jumps ls own.right (live_entered here objects live) (here_entered program slots base here _ parts) proper.0.1 first right.right in
        subst (MadeScoped slots objects) (same_right _ _ all.made)
        (more_made (ClauseScoped slots objects) (CodesScoped slots objects) all.left all.right
        (subst (MadeScoped slots objects) (same_right _ _ own.made) (one.scoped, tt))
        (clauses_leave there objects jumps at (labels_behind scope here.names at.kind seen labels) cs all.right (live_same here there objects grows same live) next proper.1 declared all.second))
