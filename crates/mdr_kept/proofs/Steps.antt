-- Statements without parts name objects only where they live.
use Rattle.std.proofs.Common.{◌≡◌, ◌⊎◌, ℕ, ◌≤◌, Bool, false, List, [], length, Option, Some, None, Ok, refl, sym, ap, ◌∙◌, subst}
use Rattle.mdr_rich.specs.declared.code.Step.{Step}
use Rattle.mdr_rich.specs.declared.code.Step.TheVariants as step
use Rattle.mdr_rich.specs.declared.code.Stmt.{Stmt}
use Rattle.mdr_core.specs.declared.place.Place.{Place}
use Rattle.mdr_core.specs.declared.program.Program.{Program}
use Rattle.mdr_core.specs.declared.types.Ty.{Ty}
use Rattle.mdr_core.specs.declared.types.Ty.TheVariants as type
use Rattle.mdr_core.specs.Code.{Way}
use Rattle.mdr_rich.specs.Code.{Code, Codes}
use Rattle.mdr_rich.specs.Folds.{code_of}
use Rattle.mdr_core.specs.Types.{Scalar, sort_of}
use Rattle.mdr_core.specs.Typing.{Slot}
use Rattle.mdr_rich.proofs.Coded.{code_is, declare_is, text_is, return_is, break_is, continue_is, empty_is}
use Rattle.mdr_syntax.specs.declared.tree.Decl.{Decl, out-Decl}
use Rattle.mdr_faults.specs.declared.fault.FaultKind.TheVariants.{Mismatch}
use Rattle.mdr_faults.specs.declared.scope.Object.{Object}
use Rattle.mdr_faults.specs.declared.scope.Scope.{Scope}
use Rattle.mdr_faults.specs.Declarations.{is_void}
use Rattle.mdr_faults.specs.Faults.{Checked, Right, again}
use Rattle.mdr_operand.specs.declared.room.LocalName.{LocalName}
use Rattle.mdr_operand.specs.Written.{Written, Line}
use Rattle.mdr_body.specs.declared.here.Breaks.{Breaks}
use Rattle.mdr_body.specs.declared.here.Breaks.TheVariants as break_of
use Rattle.mdr_body.specs.declared.here.Frame.{Frame}
use Rattle.mdr_body.specs.declared.here.Here.{Here}
use Rattle.mdr_body.specs.declared.here.Jumps.{Jumps}
use Rattle.mdr_body.specs.Locals.{local_object, is_own_object, with_local}
use Rattle.mdr_body.specs.Addresses.{takes_in, perhaps_takes, takes_at}
use Rattle.mdr_body.specs.Statements.{setting_of, target_of}
use Rattle.mdr_body.specs.Statements.{Rules, stmt, single, stated, text_of, takes_text, is_single, own_place, initial_by, initial_step, declared_then, local_made, broken_by, broken, return_by, return_step, simple_made, simple_behind}
use Rattle.mdr_sound.specs.Knowing.{KnowsLocals}
use Rattle.mdr_sound.proofs.Rights.{not_right, same_right, after_right, chosen_right, refused_right}
use Rattle.mdr_sound.specs.Rules.{IsSoundStep, IsRight, AreSoundRules}
use Rattle.mdr_sound.specs.Written.{IsProper}
use Rattle.mdr_sound.specs.Within.{KnowsDeclarations, AreDeclared, in_front, IsTold, IsHere}
use Rattle.mdr_sound.proofs.JoinedLists.{or_left, or_right}
use Rattle.mdr_sound.proofs.DeclaringLocals.{IsAt, local_at}
use Rattle.mdr_sound.proofs.Going.{here_local}
use Rattle.mdr_sound.proofs.SimpleStatements.{jump_right, return_sound, initial_sound, perhaps_right, written_right}
use Rattle.mdr_kept.specs.Named.{behind, CodeScoped, CodesScoped}
use Rattle.mdr_kept.specs.Plain.{IsPlain, IsPlainStep, ArePlainRules}
use Rattle.mdr_kept.proofs.Hiding.{hidden}
use Rattle.mdr_kept.proofs.Living.{Live, none_declared, knows_hidden, live_local, at_hidden, IsStill, Leaves, behinds}
use Rattle.mdr_kept.proofs.Seeing.{code_scoped, plain_behind}

-- ---- plain steps

-- a step whose code is plain
pub plain_is : (s : Step) (c : ℕ → Code) → ((n : ℕ) → code_of (stmt n s) ≡ c n) → ((n : ℕ) → IsPlain (c n)) → IsPlainStep s
plain_is s c is h n = subst IsPlain (sym (is n)) (h n)

text_plain : (i : ℕ) (bytes : List ℕ) → IsPlainStep (step.Text i bytes)
text_plain i bytes = plain_is (step.Text i bytes) (λ n. Code.Text n i bytes) (λ n. code_is (stmt n (step.Text i bytes)) (step.Text i bytes) refl ∙ text_is n i bytes) (λ n. tt)

return_plain : IsPlainStep (step.Return None)
return_plain = plain_is (step.Return None) (λ n. Code.Return n None) (λ n. code_is (stmt n (step.Return None)) (step.Return None) refl ∙ return_is n None) (λ n. tt)

module _ (scope : Scope) (rules : Rules) (plain : ArePlainRules scope rules) where
  return_by_plain : (here : Here) (p : Place) (w : Option Written) (t : Ty) (s : Step) → return_by (rules.returned scope here.names) p w t ≡ Right s → IsPlainStep s
  return_by_plain here p None t s e =
      let c = chosen_right (is_void t) (Right (step.Return None)) p Mismatch s e in
      subst IsPlainStep (same_right _ _ c.right) return_plain
  return_by_plain here p (Some w) t s e =
      let c = refused_right (is_void t) (rules.returned scope here.names p t w) p Mismatch s e in
      plain.returned here.names p t w s c.right

  return_step_plain : (frame : Frame) (here : Here) (p : Place) (w : Option Written) (s : Step) → return_step (setting_of rules scope frame) here p w ≡ Right s → IsPlainStep s
  unfolding return_step
  return_step_plain frame here p w s e =
      let a = after_right (again frame.result) (return_by (rules.returned scope here.names) p w) s e in
      return_by_plain here p w a.value s a.made

  initial_by_plain : (names : List LocalName) (p : Place) (i : ℕ) (t : Bool) (w : Written) (text : Option (List ℕ)) (o : Object) (s : Step) → initial_by (rules.stored scope names) (target_of p i t) w text o ≡ Right s → IsPlainStep s
  initial_by_plain names p i t w (Some bytes) o s e =
      let c = chosen_right (takes_text o (length bytes)) (Right (step.Text i bytes)) p Mismatch s e in
      subst IsPlainStep (same_right _ _ c.right) (text_plain i bytes)
  initial_by_plain names p i t w None o s e =
      let c = chosen_right (is_single o) (rules.stored scope names p (own_place (is_own_object t o) i o.ty) o.ty w) p Mismatch s e in
      plain.stored names p (own_place (is_own_object t o) i o.ty) o.ty w s c.right

  initial_plain : (frame : Frame) (here : Here) (t : Bool) (d : Decl) (w : Written) (s : Step) → initial_step (setting_of rules scope frame) here t d w ≡ Right s → IsPlainStep s
  unfolding initial_step
  initial_plain frame here t d w s e =
      let names = (with_local scope frame.locks t d here).names in
      let a = after_right (local_object scope frame.locks d) (initial_by (rules.stored scope names) (target_of (out-Decl d).place here.slot t) w (text_of w)) s e in
      initial_by_plain names (out-Decl d).place here.slot t w (text_of w) a.value s a.made

-- ---- one statement

module _ (slots : List Slot) where
  pub leaves_one : (there : Here) (objects : List ℕ) (is_part : Bool) (n : ℕ) (s : Step) (ss : List Stmt) → Live there objects → IsStill slots objects (code_of (stmt n s)) → single n s ≡ Right ss → Leaves slots there objects is_part ss
  leaves_one there objects is_part n s ss live h e = subst (λ xs. Leaves slots there objects is_part xs) (same_right _ _ e) (record {
    scoped = (h.scoped, tt);
    goes_on = λ q. subst (Live there) (sym h.still) live;
  })

  still_is : (objects : List ℕ) (n : ℕ) (s : Step) (c : Code) → code_of (stmt n s) ≡ c → IsStill slots objects c → IsStill slots objects (code_of (stmt n s))
  still_is objects n s c is h = subst (IsStill slots objects) (sym is) h

  still_jump : (objects : List ℕ) (n : ℕ) (way : Way) → IsStill slots objects (Code.Jump n way)
  still_jump objects n way = record { scoped = tt; still = refl }

  pub still_empty : (objects : List ℕ) (n : ℕ) → IsStill slots objects (code_of (stmt n step.Empty))
  still_empty objects n = still_is objects n step.Empty (Code.Jump n Way.Ends) (code_is (stmt n step.Empty) step.Empty refl ∙ empty_is n) (still_jump objects n Way.Ends)

  still_break : (objects : List ℕ) (n : ℕ) → IsStill slots objects (code_of (stmt n step.Break))
  still_break objects n = still_is objects n step.Break (Code.Jump n Way.Breaks) (code_is (stmt n step.Break) step.Break refl ∙ break_is n) (still_jump objects n Way.Breaks)

  still_continue : (objects : List ℕ) (n : ℕ) → IsStill slots objects (code_of (stmt n step.Continue))
  still_continue objects n = still_is objects n step.Continue (Code.Jump n Way.Continues) (code_is (stmt n step.Continue) step.Continue refl ∙ continue_is n) (still_jump objects n Way.Continues)

  -- a declaration, and perhaps what gives the local its first value
  declared_one : (there : Here) (objects : List ℕ) (n i : ℕ) (c : Code) → c ≡ Code.Declare n i → CodeScoped slots objects (Code.Declare n i) → Live there (behind slots objects (Code.Declare n i)) → CodesScoped slots objects (Codes.Then c Codes.End) × Live there (behinds slots objects (Codes.Then c Codes.End))
  declared_one there objects n i c is h live = subst (λ x. CodesScoped slots objects (Codes.Then x Codes.End) × Live there (behinds slots objects (Codes.Then x Codes.End))) (sym is) ((h, tt), live)

  declared_two : (there : Here) (objects : List ℕ) (n i : ℕ) (c second : Code) → c ≡ Code.Declare n i → CodeScoped slots objects (Code.Declare n i) → Live there (behind slots objects (Code.Declare n i)) → IsStill slots (behind slots objects (Code.Declare n i)) second → CodesScoped slots objects (Codes.Then c (Codes.Then second Codes.End)) × Live there (behinds slots objects (Codes.Then c (Codes.Then second Codes.End)))
  declared_two there objects n i c second is h live two = subst (λ x. CodesScoped slots objects (Codes.Then x (Codes.Then second Codes.End)) × Live there (behinds slots objects (Codes.Then x (Codes.Then second Codes.End)))) (sym is) ((h, (two.scoped, tt)), subst (Live there) (sym two.still) live)

  declare_code : (n i : ℕ) → code_of (stmt n (step.Declare i)) ≡ Code.Declare n i
  declare_code n i = code_is (stmt n (step.Declare i)) (step.Declare i) refl ∙ declare_is n i

module _ (program : Program) (slots : List Slot) (result : Ty) where
  -- a plain step that is well typed over the slots that are known at its place
  step_still : (objects : List ℕ) (n : ℕ) (s : Step) → IsSoundStep program (hidden objects slots) result s → IsPlainStep s → 1 ≤ n → IsStill slots objects (code_of (stmt n s))
  step_still objects n s sound plain some = record {
    scoped = code_scoped program slots objects result false (code_of (stmt n s)) (plain n) (sound n false some);
    still = plain_behind program slots objects (code_of (stmt n s)) (plain n);
  }

  stated_leaves : (there : Here) (objects : List ℕ) (n : ℕ) (c : Checked Step) (ss : List Stmt) → Live there objects → ((s : Step) → c ≡ Right s → IsSoundStep program (hidden objects slots) result s) → ((s : Step) → c ≡ Right s → IsPlainStep s) → 1 ≤ n → stated n c ≡ Right ss → Leaves slots there objects false ss
  stated_leaves there objects n c ss live sound plain some e =
      let a = after_right c (single n) ss e in
      leaves_one slots there objects false n a.value ss live (step_still objects n a.value (sound a.value a.right) (plain a.value a.right) some) a.made

-- ---- any of them

module _ (program : Program) (slots : List Slot) (base : ℕ) (scope : Scope) (frame : Frame) (known : KnowsDeclarations program scope) (rules : Rules) (sound : (seen : List Slot) → AreSoundRules program seen scope rules) (plain : ArePlainRules scope rules) (result : Ty) (gives : frame.result ≡ Ok result) (given : (sort_of (length program.structs) result ≡ Scalar) ⊎ (result ≡ type.Void)) where
  local_leaves : (here : Here) (objects : List ℕ) (t : Bool) (d : Decl) (init : Option Written) (ss : List Stmt) → 1 ≤ here.number → Live here objects → IsAt slots scope frame.locks here.slot t d → KnowsLocals program slots (with_local scope frame.locks t d here).names → ((v : Written) → init ≡ Some v → IsRight (with_local scope frame.locks t d here).names v) → local_made (setting_of rules scope frame) here t d init ≡ Right ss → Leaves slots (with_local scope frame.locks t d here) objects false ss
  unfolding local_made
  local_leaves here objects t d None ss some live at knows right e =
      let there : Here = with_local scope frame.locks t d here in
      let n = here.number in
      let one = declared_one slots there objects n here.slot (code_of (stmt n (step.Declare here.slot))) (declare_code slots n here.slot) (none_declared here objects live) (live_local slots scope frame.locks here objects t d at live) in
      subst (λ xs. Leaves slots there objects false xs) (same_right _ _ e) (record { scoped = one.0; goes_on = λ q. one.1 })
  local_leaves here objects t d (Some w) ss some live at knows right e =
      let there : Here = with_local scope frame.locks t d here in
      let n = here.number in
      let a = after_right (initial_step (setting_of rules scope frame) here t d w) (declared_then n here.slot) ss e in
      let first : Stmt = stmt n (step.Declare here.slot) in
      let second : Stmt = stmt n a.value in
      let more : List ℕ = behind slots objects (Code.Declare n here.slot) in
      let live_there = live_local slots scope frame.locks here objects t d at live in
      let good = initial_sound program (hidden more slots) base scope frame known rules (sound (hidden more slots)) result here t d w a.value (at_hidden slots scope frame.locks here objects t d at) (knows_hidden program slots there more knows live_there) (right w refl) a.right in
      let still = step_still program slots result more n a.value good (initial_plain scope rules plain frame here t d w a.value a.right) some in
      let two = declared_two slots there objects n here.slot (code_of first) (code_of second) (declare_code slots n here.slot) (none_declared here objects live) live_there still in
      subst (λ xs. Leaves slots there objects false xs) (same_right _ _ a.made) (record { scoped = two.0; goes_on = λ q. two.1 })

  -- `break`, which is no statement at the end of a clause
  broken_by_leaves : (here : Here) (objects : List ℕ) (n : ℕ) (p : Place) (in_loop : Bool) (leaves : Breaks) (ss : List Stmt) → Live here objects → broken_by n p in_loop leaves ≡ Right ss → Leaves slots here objects false ss
  broken_by_leaves here objects n p in_loop break_of.Loop ss live e =
      let j = jump_right program slots result p in_loop n step.Break ss e in
      leaves_one slots here objects false n step.Break ss live (still_break slots objects n) (ap Right (sym j.is))
  broken_by_leaves here objects n p in_loop break_of.Clause ss live e = subst (λ xs. Leaves slots here objects false xs) (same_right [] ss e) (record { scoped = tt; goes_on = λ q. live })
  broken_by_leaves here objects n p in_loop break_of.Nothing ss live e = not_right _ ss e

  broken_leaves : (here : Here) (objects : List ℕ) (n : ℕ) (p : Place) (jumps : Jumps) (ss : List Stmt) → Live here objects → broken n p jumps ≡ Right ss → Leaves slots here objects false ss
  unfolding broken
  broken_leaves here objects n p jumps ss live e = broken_by_leaves here objects n p jumps.in_loop jumps.breaks ss live e

  pub simple_leaves : (here : Here) (objects : List ℕ) (jumps : Jumps) (t : Bool) (l : Line) (rest : List ℕ → Bool) (ss : List Stmt) → Live here objects → IsHere program slots base here (in_front l rest) → IsProper l → IsTold t l rest → AreDeclared slots base (simple_behind scope frame here t l).locals → simple_made (setting_of rules scope frame) jumps here t l ≡ Right ss → Leaves slots (simple_behind scope frame here t l) objects false ss
  simple_leaves here objects jumps t (Line.Empty p) rest ss live h proper told declared e = leaves_one slots here objects false here.number step.Empty ss live (still_empty slots objects here.number) e
  simple_leaves here objects jumps t (Line.Block p ls) rest ss live h proper told declared e = not_right _ ss e
  simple_leaves here objects jumps t (Line.Local p d init) rest ss live h proper told declared e =
      let behind_it = here_local program slots base scope frame known here t p d init rest h proper.0 told declared in
      local_leaves here objects t d init ss h.number live (local_at slots base scope frame.locks here t d h.slot declared) behind_it.knows
      (perhaps_right program slots base scope frame known rules (sound slots) result (with_local scope frame.locks t d here) _ init behind_it (λ name n. or_left (perhaps_takes name init) (rest name) n) proper.1)
      e
  simple_leaves here objects jumps t (Line.Assign p at op x y) rest ss live h proper told declared e =
      let first = written_right program slots base scope frame known rules (sound slots) result here _ x h (λ name n. or_left (takes_in name x) _ (or_left (takes_at name (Line.Assign p at op x y)) _ n)) proper.0 in
      let second = written_right program slots base scope frame known rules (sound slots) result here _ y h (λ name n. or_right (takes_in name x) _ (or_left (takes_at name (Line.Assign p at op x y)) _ n)) proper.1 in
      let seen = knows_hidden program slots here objects h.knows live in
      stated_leaves program slots result here objects here.number (rules.assigned scope here.names at op x y) ss live
      (λ s is. (sound (hidden objects slots)).assigned here.names at op x y s result seen first second is) (plain.assigned here.names at op x y) h.number e
  simple_leaves here objects jumps t (Line.Plain p w) rest ss live h proper told declared e =
      let right = written_right program slots base scope frame known rules (sound slots) result here _ w h (λ name n. or_left (takes_at name (Line.Plain p w)) _ n) proper in
      let seen = knows_hidden program slots here objects h.knows live in
      stated_leaves program slots result here objects here.number (rules.called scope here.names w) ss live
      (λ s is. (sound (hidden objects slots)).called here.names w s result seen right is) (plain.called here.names w) h.number e
  simple_leaves here objects jumps t (Line.If p w one other) rest ss live h proper told declared e = not_right _ ss e
  simple_leaves here objects jumps t (Line.While p w body) rest ss live h proper told declared e = not_right _ ss e
  simple_leaves here objects jumps t (Line.For p init test next body) rest ss live h proper told declared e = not_right _ ss e
  simple_leaves here objects jumps t (Line.Do p body w) rest ss live h proper told declared e = not_right _ ss e
  simple_leaves here objects jumps t (Line.Switch p w cs) rest ss live h proper told declared e = not_right _ ss e
  simple_leaves here objects jumps t (Line.Return p w) rest ss live h proper told declared e =
      let right = perhaps_right program slots base scope frame known rules (sound slots) result here _ w h (λ name n. or_left (takes_at name (Line.Return p w)) _ n) proper in
      let seen = knows_hidden program slots here objects h.knows live in
      stated_leaves program slots result here objects here.number (return_step (setting_of rules scope frame) here p w) ss live
      (λ s is. return_sound program (hidden objects slots) base scope frame known rules (sound (hidden objects slots)) result here p w s gives given seen right is) (return_step_plain scope rules plain frame here p w) h.number e
  simple_leaves here objects jumps t (Line.Break p) rest ss live h proper told declared e =
      broken_leaves here objects here.number p jumps ss live e
  simple_leaves here objects jumps t (Line.Continue p) rest ss live h proper told declared e =
      let j = jump_right program slots result p jumps.in_loop here.number step.Continue ss e in
      leaves_one slots here objects false here.number step.Continue ss live (still_continue slots objects here.number) (ap Right (sym j.is))
