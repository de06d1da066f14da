-- A function that is made of a head and a body names objects only where they live.
use Rattle.std.proofs.Common.{◌≡◌, ◌⊎◌, inl, inr, ℕ, zero, suc, ◌+◌, ◌<◌, ◌&&◌, ◌==◌, not, Bool, true, false, List, [], ◌∷◌, ◌++◌, length, map, Some, slice_get, refl, sym, ap, ◌∙◌, subst, arith}
use Rattle.std.proofs.lemmas.Bool.{eq-eqb, eqb-true, or_cases, or_left, or_right}
use Rattle.std.proofs.lemmas.Option.{none-some, same_Some, slice_get_within}
use Rattle.mdr_rich.specs.declared.code.Stmt.{Stmt}
use Rattle.mdr_core.specs.declared.program.Local.{Local}
use Rattle.mdr_core.specs.declared.program.Param.{Param}
use Rattle.mdr_core.specs.declared.program.Program.{Program}
use Rattle.mdr_core.specs.Folds.{codes_of as plain_codes_of}
use Rattle.mdr_rich.specs.Folds.{codes_of}
use Rattle.mdr_core.specs.Layout.{chosen}
use Rattle.mdr_core.specs.Typing.{Slot, slot_of_param, slot_of_local}
use Rattle.mdr_syntax.specs.declared.tree.Decl.{Decl}
use Rattle.mdr_syntax.specs.declared.tree.Head.{Head}
use Rattle.mdr_syntax.specs.declared.tree.Node.{Node}
use Rattle.mdr_faults.specs.declared.scope.Candidate.{Candidate}
use Rattle.mdr_faults.specs.declared.scope.Scope.{Scope}
use Rattle.mdr_faults.specs.Faults.{Right}
use Rattle.mdr_headings.specs.declared.head.Heading.{Heading}
use Rattle.mdr_headings.specs.Annotations.{candidate}
use Rattle.mdr_headings.specs.Heads.{head_result}
use Rattle.mdr_operand.specs.declared.room.LocalName.{LocalName}
use Rattle.mdr_operand.specs.Rooms.{local_named}
use Rattle.mdr_operand.specs.Written.{Lines, lines_of}
use Rattle.mdr_body.specs.declared.here.Here.{Here}
use Rattle.mdr_body.specs.Bodies.{declared_locals, frame_of}
use Rattle.mdr_body.specs.Locals.{named_local, parameter_taken, parameters_from, first_here}
use Rattle.mdr_body.specs.Statements.{setting_of, Rules, no_jumps, lines_behind, lines_made}
use Rattle.mdr_meaning.specs.Lives.{object_params}
use Rattle.mdr_lower.specs.Lowering.{lowered}
use Rattle.mdr_lower.proofs.Typed.{new_at}
use Rattle.mdr_program.specs.Parts.{marked}
use Rattle.mdr_kept.specs.Scopes.{is_there, is_object, CodesScoped as ArePlainScoped}
use Rattle.mdr_sound.specs.Knowing.{KnowsLocals}
use Rattle.mdr_sound.specs.Bodies.{made_work}
use Rattle.mdr_sound.specs.Rules.{AreSoundRules}
use Rattle.mdr_sound.specs.Within.{KnowsDeclarations, AreDeclared}
use Rattle.mdr_sound.specs.Written.{AreNamed, AreProper}
use Rattle.mdr_sound.proofs.Collecting.{all_declared}
use Rattle.mdr_sound.proofs.Entering.{named_stands, parameter_at, parameters_here, params_many, marked_many}
use Rattle.mdr_sound.proofs.Making.{IsHeaded, heading_right, rule_right, result_told, mapped_many, made_new, slots_are}
use Rattle.mdr_sound.proofs.Scoping.{same_result}
use Rattle.mdr_kept.specs.Named.{CodesScoped}
use Rattle.mdr_kept.specs.Bodies.{ScopedWith, BodiesAreScoped}
use Rattle.mdr_kept.specs.Plain.{ArePlainRules}
use Rattle.mdr_kept.proofs.Living.{Live}
use Rattle.mdr_kept.proofs.Lines.{lines_leave}
use Rattle.mdr_kept.proofs.Lowered.{lowered_scoped}

-- ---- parameters that are objects live from the beginning

there_behind : (b : Bool) (i j : ℕ) (objects : List ℕ) → is_there objects j ≡ true → is_there (chosen b (i ∷ objects) objects) j ≡ true
there_behind true i j objects e = or_right _ _ e
there_behind false i j objects e = e

there_itself : (o l : Bool) (i : ℕ) (objects : List ℕ) → o ≡ true → l ≡ false → is_there (chosen (o && not l) (i ∷ objects) objects) i ≡ true
there_itself true false i objects e f = or_left _ _ (eq-eqb i i refl)
there_itself true true i objects e f = absurd cc
there_itself false l i objects e f = absurd cc

there_from : (first : ℕ) (slots : List Slot) (i : ℕ) (s : Slot) → slice_get slots i ≡ Some s → s.object ≡ true → s.is_local ≡ false → is_there (object_params first slots) (first + i) ≡ true
there_from first [] i s e o l = absurd (none-some s e)
there_from first (x ∷ xs) zero s e o l =
    let same = same_Some x s e in
    let number : first + 0 ≡ first = omega arith in
    ap (is_there (object_params first (x ∷ xs))) number ∙ there_itself x.object x.is_local first (object_params (suc first) xs) (ap (λ (y : Slot). y.object) same ∙ o) (ap (λ (y : Slot). y.is_local) same ∙ l)
there_from first (x ∷ xs) (suc i) s e o l =
    let number : first + suc i ≡ suc first + i = omega arith in
    ap (is_there (object_params first (x ∷ xs))) number ∙ there_behind (x.object && not x.is_local) first (suc first + i) (object_params (suc first) xs) (there_from (suc first) xs i s e o l)

-- none of them is a local
among_params : (locals : List Local) (first j : ℕ) → is_there (object_params first (map slot_of_local locals)) j ≡ true → ⊥
among_params [] first j e = absurd cc
among_params (l ∷ ls) first j e = no l.object e (among_params ls (suc first) j)
  where
    no : (b : Bool) → is_there (chosen (b && false) (first ∷ object_params (suc first) (map slot_of_local ls)) (object_params (suc first) (map slot_of_local ls))) j ≡ true → (is_there (object_params (suc first) (map slot_of_local ls)) j ≡ true → ⊥) → ⊥
    no true q rest = rest q
    no false q rest = rest q

below_params : (params : List Param) (locals : List Local) (first j : ℕ) → is_there (object_params first (map slot_of_param params ++ map slot_of_local locals)) j ≡ true → j < first + length params
below_params [] locals first j e = absurd (among_params locals first j e)
below_params (p ∷ ps) locals first j e = on p.object e (below_params ps locals (suc first) j)
  where
    rest : List ℕ
    rest = object_params (suc first) (map slot_of_param ps ++ map slot_of_local locals)

    among : (first == j) ≡ true ⊎ is_there rest j ≡ true → (is_there rest j ≡ true → j < suc first + length ps) → j < first + suc (length ps)
    among (inl q) later = let same = eqb-true first j q in omega (arith, same)
    among (inr q) later = let less = later q in omega (arith, less)

    on : (b : Bool) → is_there (chosen (b && true) (first ∷ rest) rest) j ≡ true → (is_there rest j ≡ true → j < suc first + length ps) → j < first + suc (length ps)
    on true q later = among (or_cases (first == j) (is_there rest j) q) later
    on false q later = let less = later q in omega (arith, less)

-- a slot of a parameter is none of a local
param_slot : (params : List Param) (more : List Slot) (i : ℕ) (s : Slot) → i < length params → slice_get (map slot_of_param params ++ more) i ≡ Some s → s.is_local ≡ false
param_slot [] more i s less e = absurd (omega (arith, less))
param_slot (p ∷ ps) more zero s less e = ap (λ (y : Slot). y.is_local) (sym (same_Some (slot_of_param p) s e))
param_slot (p ∷ ps) more (suc i) s less e = param_slot ps more i s (omega (arith, less)) e

-- ---- in front of a body

module _ (program : Program) (scope : Scope) (body : Lines) (ds : List Decl) (params : List Param) (locals : List Local) where
  abbrev All : List Slot
  All = map slot_of_param params ++ map slot_of_local locals

  parameter_slot : (name : List ℕ) (n : LocalName) → local_named (parameters_from scope body 0 ds) name ≡ Some n → n.slot < length ds
  unfolding named_local
  parameter_slot name n e =
      let s = named_stands (parameters_from scope body 0 ds) name n e in
      let p = parameter_at scope body ds 0 s.index n s.at in
      let within = slice_get_within ds s.index p.decl p.at in
      let number : n.slot ≡ 0 + s.index = ap (λ (x : LocalName). x.slot) (sym p.is) in
      omega (arith, within, number)

  first_live : length params ≡ length ds → KnowsLocals program All (first_here scope body ds).names → Live (first_here scope body ds) (object_params 0 All)
  unfolding first_here
  first_live many knows = record {
    named = λ name n o e m apart.
        let k = knows.locals name n o e m in
        let below = parameter_slot name n e in
        let less : n.slot < length params = omega (arith, below, many) in
        let number : n.slot ≡ 0 + n.slot = omega arith in
        ap (is_there (object_params 0 All)) number ∙ there_from 0 All n.slot k.slot k.names (k.kept ∙ apart) (param_slot params (map slot_of_local locals) n.slot k.slot less k.names);
    fresh = λ i e. let below = below_params params locals 0 i e in omega (arith, below, many);
  }

-- the statements of a body, with these slots
abbrev AreScoped : List Slot → List Stmt → Type 0
AreScoped slots ss = CodesScoped slots (object_params 0 slots) (codes_of ss)

-- ---- new slots, which are no objects

none_object : (ls : List Local) → ((i : ℕ) (l : Local) → slice_get ls i ≡ Some l → l.object ≡ false) → (i : ℕ) → is_object (slice_get (map slot_of_local ls) i) ≡ false
none_object [] h i = refl
none_object (l ∷ ls) h zero = h 0 l refl
none_object (l ∷ ls) h (suc i) = none_object ls (λ j x e. h (suc j) x e) i

more_object : (slots : List Slot) (ls : List Local) → ((i : ℕ) (l : Local) → slice_get ls i ≡ Some l → l.object ≡ false) → (i : ℕ) → is_object (slice_get (slots ++ map slot_of_local ls) i) ≡ is_object (slice_get slots i)
more_object [] ls h i = none_object ls h i
more_object (s ∷ ss) ls h zero = refl
more_object (s ∷ ss) ls h (suc i) = more_object ss ls h i

no_params : (ls : List Local) (first : ℕ) → object_params first (map slot_of_local ls) ≡ []
no_params [] first = refl
no_params (l ∷ ls) first = by l.object (no_params ls (suc first)) where
  by : (b : Bool) → object_params (suc first) (map slot_of_local ls) ≡ [] → chosen (b && false) (first ∷ object_params (suc first) (map slot_of_local ls)) (object_params (suc first) (map slot_of_local ls)) ≡ []
  by true e = e
  by false e = e

more_params : (slots : List Slot) (ls : List Local) (first : ℕ) → object_params first (slots ++ map slot_of_local ls) ≡ object_params first slots
more_params [] ls first = no_params ls first
more_params (s ∷ ss) ls first = ap (λ (os : List ℕ). chosen (s.object && not s.is_local) (first ∷ os) os) (more_params ss ls (suc first))

body_lowered : (slots : List Slot) (k : ℕ) (ss : List Stmt) → AreScoped slots ss → ((i : ℕ) (l : Local) → slice_get (lowered k ss).slots i ≡ Some l → l.object ≡ false) → ScopedWith (slots ++ map slot_of_local (lowered k ss).slots) (Some (lowered k ss).code)
body_lowered slots k ss h none =
    let new : List Local = (lowered k ss).slots in
    let all : List Slot = slots ++ map slot_of_local new in
    subst (λ os. ArePlainScoped all os (plain_codes_of (lowered k ss).code)) (sym (more_params slots new 0))
    (lowered_scoped slots all (more_object slots new none) k ss (object_params 0 slots) h)

module _ (program : Program) (rules : Rules) (scope : Scope) (h : Head) (nodes : List Node) (known : KnowsDeclarations program scope) where
  made_scoped : (outer : Scope) → outer.tags ≡ scope.tags → (g : Heading) (siblings : List Candidate) (locals : List Local) (ss : List Stmt) → IsHeaded outer siblings h g → ((slots : List Slot) → AreSoundRules program slots scope rules) → ArePlainRules scope rules → AreNamed h.params → AreProper (lines_of nodes) → declared_locals (lines_behind scope (frame_of scope h) (first_here scope (lines_of nodes) h.params) (lines_of nodes)).locals ≡ Right locals → lines_made (setting_of rules scope (frame_of scope h)) no_jumps (first_here scope (lines_of nodes) h.params) (lines_of nodes) ≡ Right ss → AreScoped (map slot_of_param (marked (map (parameter_taken (lines_of nodes)) h.params) 0 g.params) ++ map slot_of_local locals) ss
  made_scoped outer tags g siblings locals ss headed sound plain named proper declared made =
      let ls : Lines = lines_of nodes in
      let here : Here = first_here scope ls h.params in
      let params : List Param = marked (map (parameter_taken ls) h.params) 0 g.params in
      let front : List Slot = map slot_of_param params in
      let all : List Slot = front ++ map slot_of_local locals in
      let many : length params ≡ length h.params = marked_many (map (parameter_taken ls) h.params) 0 g.params ∙ params_many outer siblings [] h.params g.params headed.params in
      let base : length front ≡ length h.params = mapped_many slot_of_param params ∙ many in
      let result : head_result scope h ≡ Right g.result = sym (same_result outer scope h tags) ∙ headed.result in
      let are = subst (λ k. AreDeclared all k (lines_behind scope (frame_of scope h) here ls).locals) base (all_declared front (lines_behind scope (frame_of scope h) here ls).locals locals declared) in
      let is_here = parameters_here program outer scope tags known siblings ls h.params g.params headed.params locals named in
      (lines_leave program all (length h.params) scope (frame_of scope h) known rules sound plain g.result (result_told program rules scope h nodes known g.result result) (known.results h g.result result) here (object_params 0 all) no_jumps ls ss
      (first_live program scope ls h.params params locals many is_here.knows) is_here proper are made).scoped

pub bodies_scoped : BodiesAreScoped
bodies_scoped program rules scope h nodes g body name is_critical known sound plain made =
    let b = rule_right rules scope h nodes body made.body_is in
    let headed = heading_right made.front h g made.heading_is in
    let front : List Slot = map slot_of_param (marked body.objects 0 g.params) in
    let scoped : AreScoped (front ++ map slot_of_local body.locals) body.statements = subst (λ os. AreScoped (map slot_of_param (marked os 0 g.params) ++ map slot_of_local body.locals) body.statements) b.marks
    (made_scoped program rules scope h nodes known made.front made.tags g (map (candidate made.front) h.params) body.locals body.statements headed sound plain made.named made.proper b.locals b.statements) in
    let new = made_new program rules scope h nodes g body known sound made in
    subst (λ (slots : List Slot). ScopedWith slots (Some (made_work g body).code)) (slots_are program rules scope h nodes g body known sound made)
    (body_lowered (front ++ map slot_of_local body.locals) (length g.params + length body.locals) body.statements scoped
    (λ i l e. ap (λ (x : Local). x.object) (new_at program (made_work g body).slots i l new e).is))
