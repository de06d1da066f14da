-- A function that is made of a head and a body keeps to the rules of sound programs.
use Rattle.std.proofs.Common.{◌≡◌, inl, ℕ, zero, suc, ◌+◌, Bool, true, false, List, [], ◌∷◌, ◌++◌, length, map, Some, Ok, refl, ap, sym, ◌∙◌, subst, slice_get, append_assoc}
use Rattle.std.proofs.lemmas.List.{length-append, map-append}
use Rattle.mdr_rich.specs.declared.code.Stmt.{Stmt}
use Rattle.mdr_core.specs.declared.program.Local.{Local}
use Rattle.mdr_core.specs.declared.program.Program.{Program}
use Rattle.mdr_core.specs.declared.types.Ty.{Ty}
use Rattle.mdr_core.specs.Folds.{codes_of as plain_codes_of}
use Rattle.mdr_rich.specs.Folds.{codes_of}
use Rattle.mdr_core.specs.Sound.{IsSoundLocal}
use Rattle.mdr_core.specs.Types.{HasNumber, sort_of}
use Rattle.mdr_core.specs.Typing.{Slot, slot_of_param, slot_of_local, AreTyped as ArePlainTyped}
use Rattle.mdr_rich.specs.Typing.{AreTyped}
use Rattle.mdr_syntax.specs.declared.tree.Head.{Head}
use Rattle.mdr_syntax.specs.declared.tree.Node.{Node}
use Rattle.mdr_faults.specs.declared.scope.Candidate.{Candidate}
use Rattle.mdr_faults.specs.declared.scope.Scope.{Scope}
use Rattle.mdr_faults.specs.Faults.{Right, told}
use Rattle.mdr_headings.specs.declared.body.Body.{Body}
use Rattle.mdr_headings.specs.declared.head.Given.{Given}
use Rattle.mdr_headings.specs.declared.head.Heading.{Heading}
use Rattle.mdr_faults.specs.Declarations.{declarator, parameter_list}
use Rattle.mdr_headings.specs.Annotations.{annotated, candidate}
use Rattle.mdr_headings.specs.Heads.{params_behind, given_by, annotated_result, head_result, result_where, typed_result, given, heading_of, result_siblings, heading}
use Rattle.mdr_operand.specs.Written.{Lines, lines_of}
use Rattle.mdr_body.specs.declared.here.DeclaredLocal.{DeclaredLocal}
use Rattle.mdr_body.specs.declared.here.Frame.{Frame}
use Rattle.mdr_body.specs.declared.here.Here.{Here}
use Rattle.mdr_body.specs.Bodies.{declared_locals, frame_of, body_of, body_by, body_rule}
use Rattle.mdr_body.specs.Locals.{struct_locks, parameter_taken, first_here}
use Rattle.mdr_body.specs.Statements.{setting_of, Rules, no_jumps, lines_behind, lines_made}
use Rattle.mdr_lower.specs.Lowering.{lowered}
use Rattle.mdr_lower.proofs.Typed.{IsNew, AreNew, body_shaped, body_typed, new_slots, new_at}
use Rattle.mdr_program.specs.Parts.{marked}
use Rattle.mdr_sound.proofs.Layers.{pointed_formed}
use Rattle.mdr_sound.proofs.Rights.{same_right, after_right, both_right}
use Rattle.mdr_sound.specs.Allocating.{ArePlainFormed, AllocationsAreFormed}
use Rattle.mdr_sound.specs.Bodies.{IsComposed, made_work, BodiesAreSound}
use Rattle.mdr_sound.specs.Grounded.{ArePlainGrounded}
use Rattle.mdr_sound.specs.Rules.{AreSoundRules}
use Rattle.mdr_sound.specs.Within.{KnowsDeclarations, AreDeclared}
use Rattle.mdr_sound.specs.Written.{AreNamed, AreProper}
use Rattle.mdr_sound.proofs.Collecting.{meant, all_declared, declared_sound, declared_formed}
use Rattle.mdr_sound.specs.Knowing.{IsFormed}
use Rattle.mdr_sound.proofs.Coming.{IsFrom, AreFrom, from_none, from_lines}
use Rattle.mdr_sound.proofs.Entering.{parameters_here, params_many, marked_many}
use Rattle.mdr_sound.proofs.Lining.{lines_typed}
use Rattle.mdr_sound.proofs.Scoping.{same_result}
use Rattle.mdr_sound.proofs.Slots.{new_sound}

-- ---- a head

pub record IsHeaded (scope : Scope) (siblings : List Candidate) (h : Head) (g : Heading) : Type 0 where
  pub result : head_result scope h ≡ Right g.result
  pub params : params_behind scope siblings [] h.params ≡ Right g.params

pub typed_right : (scope : Scope) (h : Head) (t : Ty) → typed_result scope h ≡ Right t → head_result scope h ≡ Right t
unfolding typed_result
typed_right scope h t e =
    let b = both_right (head_result scope h) (parameter_list [] (map (declarator scope) h.params)) result_where t e in
    b.first ∙ b.made

given_right : (scope : Scope) (siblings : List Candidate) (h : Head) (v : Given) → given scope siblings h ≡ Right v → head_result scope h ≡ Right v.ty
unfolding given
given_right scope siblings h v e =
    let a = after_right (typed_result scope h) (annotated_result scope siblings h.place h.ann) v e in
    let b = after_right (annotated scope siblings h.place a.value h.ann) (given_by a.value) v a.made in
    typed_right scope h a.value a.right ∙ ap (λ (x : Given). Right x.ty) (same_right (record { ty = a.value; ann = b.value }) v b.made)

pub heading_right : (scope : Scope) (h : Head) (g : Heading) → heading scope h ≡ Right g → IsHeaded scope (map (candidate scope) h.params) h g
unfolding heading
heading_right scope h g e =
    let siblings = map (candidate scope) h.params in
    let b = both_right (given scope (result_siblings scope h) h) (params_behind scope siblings [] h.params) heading_of g e in
    subst (λ x. IsHeaded scope siblings h x) (same_right (record { result = b.left.ty; ann = b.left.ann; params = b.right }) g b.made)
    (record { result = given_right scope (result_siblings scope h) h b.left b.first; params = b.second })

-- ---- a body

pub record IsBodied (rules : Rules) (scope : Scope) (frame : Frame) (here : Here) (objects : List Bool) (ls : Lines) (body : Body) : Type 0 where
  pub locals : declared_locals (lines_behind scope frame here ls).locals ≡ Right body.locals
  pub statements : lines_made (setting_of rules scope frame) no_jumps here ls ≡ Right body.statements
  pub marks : objects ≡ body.objects

body_right : (rules : Rules) (scope : Scope) (frame : Frame) (here : Here) (objects : List Bool) (ls : Lines) (body : Body) → body_by (setting_of rules scope frame) here objects ls ≡ Right body → IsBodied rules scope frame here objects ls body
body_right rules scope frame here objects ls body e =
    let b = both_right (declared_locals (lines_behind scope frame here ls).locals) (lines_made (setting_of rules scope frame) no_jumps here ls) (body_of objects) body e in
    subst (λ x. IsBodied rules scope frame here objects ls x) (same_right (record { objects = objects; locals = b.left; statements = b.right }) body b.made)
    (record { locals = b.first; statements = b.second; marks = refl })

pub mapped_many : {A B : Type 0} (f : A → B) (xs : List A) → length (map f xs) ≡ length xs
mapped_many f [] = refl
mapped_many f (x ∷ xs) = ap suc (mapped_many f xs)

module _ (program : Program) (rules : Rules) (scope : Scope) (h : Head) (nodes : List Node) (known : KnowsDeclarations program scope) where
  made_locals : (body : Body) (here : Here) → IsBodied rules scope (frame_of scope h) here body.objects (lines_of nodes) body → AreFrom scope (struct_locks scope) here.locals → ((i : ℕ) (l : Local) → slice_get body.locals i ≡ Some l → l.object ≡ true → HasNumber program l.ty) → (i : ℕ) (l : Local) → slice_get body.locals i ≡ Some l → IsSoundLocal program l
  unfolding frame_of
  made_locals body here b from numbered i l at =
      let all : List DeclaredLocal = (lines_behind scope (frame_of scope h) here (lines_of nodes)).locals in
      let m = meant all body.locals i l b.locals at in
      declared_sound program scope known m.declared l ((from_lines scope (frame_of scope h) here (lines_of nodes) from).each i m.declared m.at) m.means (numbered i l at)

  first_from : AreFrom scope (struct_locks scope) (first_here scope (lines_of nodes) h.params).locals
  unfolding first_here
  first_from = from_none scope (struct_locks scope)

  told_from : (i : ℕ) (d : DeclaredLocal) → slice_get (lines_behind scope (frame_of scope h) (first_here scope (lines_of nodes) h.params) (lines_of nodes)).locals i ≡ Some d → IsFrom scope (struct_locks scope) d
  unfolding frame_of
  told_from i d at = (from_lines scope (frame_of scope h) (first_here scope (lines_of nodes) h.params) (lines_of nodes) first_from).each i d at

  pub result_told : (t : Ty) → head_result scope h ≡ Right t → (frame_of scope h).result ≡ Ok t
  unfolding frame_of
  result_told t e = ap told e

  made_typed : (outer : Scope) → outer.tags ≡ scope.tags → (g : Heading) (siblings : List Candidate) (locals : List Local) (ss : List Stmt) → IsHeaded outer siblings h g → ((slots : List Slot) → AreSoundRules program slots scope rules) → AreNamed h.params → AreProper (lines_of nodes) → declared_locals (lines_behind scope (frame_of scope h) (first_here scope (lines_of nodes) h.params) (lines_of nodes)).locals ≡ Right locals → lines_made (setting_of rules scope (frame_of scope h)) no_jumps (first_here scope (lines_of nodes) h.params) (lines_of nodes) ≡ Right ss → AreTyped program (map slot_of_param (marked (map (parameter_taken (lines_of nodes)) h.params) 0 g.params) ++ map slot_of_local locals) g.result false (codes_of ss)
  made_typed outer tags g siblings locals ss headed sound named proper declared made =
      let ls : Lines = lines_of nodes in
      let here : Here = first_here scope ls h.params in
      let front : List Slot = map slot_of_param (marked (map (parameter_taken ls) h.params) 0 g.params) in
      let all : List Slot = front ++ map slot_of_local locals in
      let base : length front ≡ length h.params = mapped_many slot_of_param (marked (map (parameter_taken ls) h.params) 0 g.params) ∙ marked_many (map (parameter_taken ls) h.params) 0 g.params ∙ params_many outer siblings [] h.params g.params headed.params in
      let result : head_result scope h ≡ Right g.result = sym (same_result outer scope h tags) ∙ headed.result in
      let are = subst (λ k. AreDeclared all k (lines_behind scope (frame_of scope h) here ls).locals) base (all_declared front (lines_behind scope (frame_of scope h) here ls).locals locals declared) in
      lines_typed program all (length h.params) scope (frame_of scope h) known rules (sound all) g.result (result_told g.result result) (known.results h g.result result) here no_jumps ls ss
      (parameters_here program outer scope tags known siblings ls h.params g.params headed.params locals named) proper are made

-- ---- lowered

-- a typed body, with the number of its first new slot
module _ (program : Program) (slots : List Slot) (result : Ty) (ss : List Stmt) (typed : AreTyped program slots result false (codes_of ss)) where
  pub body_lowered : (k : ℕ) → length slots ≡ k → ArePlainGrounded program (plain_codes_of (lowered k ss).code) → ArePlainTyped program (slots ++ map slot_of_local (lowered k ss).slots) result false (plain_codes_of (lowered k ss).code)
  body_lowered k e = subst (λ n. ArePlainGrounded program (plain_codes_of (lowered n ss).code) → ArePlainTyped program (slots ++ map slot_of_local (lowered n ss).slots) result false (plain_codes_of (lowered n ss).code)) e (λ g. body_typed program slots result ss typed g.types)

  pub body_allocates : (k : ℕ) → length slots ≡ k → ArePlainFormed program (plain_codes_of (lowered k ss).code)
  body_allocates k e = subst (λ n. ArePlainFormed program (plain_codes_of (lowered n ss).code)) e (λ t h. pointed_formed (length program.structs) t (inl (body_shaped program slots result ss typed t h)))

  pub body_slots : (k : ℕ) → length slots ≡ k → AreNew program (lowered k ss).slots
  body_slots k e = subst (λ n. AreNew program (lowered n ss).slots) e (new_slots program slots result ss typed)

-- of each item of two lists
each_of : {A : Type 0} (P : A → Type 0) (xs ys : List A) → ((i : ℕ) (x : A) → slice_get xs i ≡ Some x → P x) → ((i : ℕ) (x : A) → slice_get ys i ≡ Some x → P x) → (i : ℕ) (x : A) → slice_get (xs ++ ys) i ≡ Some x → P x
each_of P [] ys first second i x e = second i x e
each_of P (z ∷ zs) ys first second zero x e = first zero x e
each_of P (z ∷ zs) ys first second (suc i) x e = each_of P zs ys (λ j y q. first (suc j) y q) second i x e

-- ---- the function

pub rule_right : (rules : Rules) (scope : Scope) (h : Head) (nodes : List Node) (body : Body) → body_rule rules scope h nodes ≡ Right body → IsBodied rules scope (frame_of scope h) (first_here scope (lines_of nodes) h.params) (map (parameter_taken (lines_of nodes)) h.params) (lines_of nodes) body
unfolding body_rule
rule_right rules scope h nodes body e = body_right rules scope (frame_of scope h) (first_here scope (lines_of nodes) h.params) (map (parameter_taken (lines_of nodes)) h.params) (lines_of nodes) body e

module _ (program : Program) (rules : Rules) (scope : Scope) (h : Head) (nodes : List Node) (g : Heading) (body : Body) (known : KnowsDeclarations program scope) (sound : (slots : List Slot) → AreSoundRules program slots scope rules) (made : IsComposed rules scope h nodes g body) where
  bodied : IsBodied rules scope (frame_of scope h) (first_here scope (lines_of nodes) h.params) (map (parameter_taken (lines_of nodes)) h.params) (lines_of nodes) body
  bodied = rule_right rules scope h nodes body made.body_is

  abbrev pub Slots : List Slot
  Slots = map slot_of_param (marked body.objects 0 g.params) ++ map slot_of_local body.locals

  pub statements_typed : AreTyped program Slots g.result false (codes_of body.statements)
  statements_typed = subst (λ os. AreTyped program (map slot_of_param (marked os 0 g.params) ++ map slot_of_local body.locals) g.result false (codes_of body.statements)) bodied.marks
      (made_typed program rules scope h nodes known made.front made.tags g (map (candidate made.front) h.params) body.locals body.statements (heading_right made.front h g made.heading_is) sound made.named made.proper bodied.locals bodied.statements)

  pub slots_many : length Slots ≡ length g.params + length body.locals
  slots_many =
      let front = mapped_many slot_of_param (marked body.objects 0 g.params) ∙ marked_many body.objects 0 g.params in
      let behind = mapped_many slot_of_local body.locals in
      length-append (map slot_of_param (marked body.objects 0 g.params)) (map slot_of_local body.locals) ∙ (λ i. front i + behind i)

  pub made_new : AreNew program (made_work g body).slots
  made_new = body_slots program Slots g.result body.statements statements_typed (length g.params + length body.locals) slots_many

  pub made_formed : ArePlainFormed program (plain_codes_of (made_work g body).code)
  made_formed = body_allocates program Slots g.result body.statements statements_typed (length g.params + length body.locals) slots_many

  -- the slots of the function
  pub slots_are : Slots ++ map slot_of_local (made_work g body).slots ≡ map slot_of_param (marked body.objects 0 g.params) ++ map slot_of_local (body.locals ++ (made_work g body).slots)
  slots_are = append_assoc (map slot_of_param (marked body.objects 0 g.params)) (map slot_of_local body.locals) (map slot_of_local (made_work g body).slots)
      ∙ ap (λ (xs : List Slot). map slot_of_param (marked body.objects 0 g.params) ++ xs) (sym (map-append slot_of_local body.locals (made_work g body).slots))

  body_made : ArePlainGrounded program (plain_codes_of (made_work g body).code) → ArePlainTyped program (map slot_of_param (marked body.objects 0 g.params) ++ map slot_of_local (body.locals ++ (made_work g body).slots)) g.result false (plain_codes_of (made_work g body).code)
  body_made grounded = subst (λ (xs : List Slot). ArePlainTyped program xs g.result false (plain_codes_of (made_work g body).code)) slots_are
      (body_lowered program Slots g.result body.statements statements_typed (length g.params + length body.locals) slots_many grounded)

  pub all_locals : (P : Local → Type 0) → ((i : ℕ) (l : Local) → slice_get body.locals i ≡ Some l → P l) → ((l : Local) → IsNew program l → P l) → (i : ℕ) (l : Local) → slice_get (body.locals ++ (made_work g body).slots) i ≡ Some l → P l
  all_locals P own new = each_of P body.locals (made_work g body).slots own (λ i l e. new l (new_at program (made_work g body).slots i l made_new e))

pub made_sound : BodiesAreSound
made_sound program rules scope h nodes g body name is_critical known sound made =
    let here : Here = first_here scope (lines_of nodes) h.params in
    let b = rule_right rules scope h nodes body made.composed.body_is in
    let marks = subst (λ os. IsBodied rules scope (frame_of scope h) here os (lines_of nodes) body) b.marks b in
    record {
      locals = all_locals program rules scope h nodes g body known sound made.composed (IsSoundLocal program)
          (made_locals program rules scope h nodes known body here marks (first_from program rules scope h nodes known) made.in_table) (λ l new. new_sound program l new);
      body = body_made program rules scope h nodes g body known sound made.composed made.grounded;
    }

pub allocations_formed : AllocationsAreFormed
allocations_formed program rules scope h nodes g body known sound made = made_formed program rules scope h nodes g body known sound made

-- the types of a function's locals are types of objects, whatever stands in the type table
pub locals_formed : (program : Program) (rules : Rules) (scope : Scope) (h : Head) (nodes : List Node) (g : Heading) (body : Body) → KnowsDeclarations program scope → ((slots : List Slot) → AreSoundRules program slots scope rules) → IsComposed rules scope h nodes g body → (i : ℕ) (l : Local) → slice_get (body.locals ++ (made_work g body).slots) i ≡ Some l → IsFormed program l.ty
locals_formed program rules scope h nodes g body known sound made =
    let here : Here = first_here scope (lines_of nodes) h.params in
    let b = rule_right rules scope h nodes body made.body_is in
    all_locals program rules scope h nodes g body known sound made (λ (l : Local). IsFormed program l.ty)
    (λ i l at. let m = meant (lines_behind scope (frame_of scope h) here (lines_of nodes)).locals body.locals i l b.locals at in declared_formed program scope known m.declared l (told_from program rules scope h nodes known i m.declared m.at) m.means)
    (λ l new. inl (ap (λ (x : Local). sort_of (length program.structs) x.ty) new.is ∙ new.formed))
