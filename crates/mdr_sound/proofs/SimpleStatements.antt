-- Statements without parts keep to the rules of sound programs.
use Rattle.std.proofs.Common.{◌≡◌, ◌⊎◌, inl, inr, ℕ, ◌≤◌, ◌&&◌, not, nat_lt, Bool, true, false, List, [], ◌∷◌, length, Option, Some, None, Ok, IsTrue, refl, sym, ap, ◌∙◌, subst, arith, slice_get}
use Rattle.std.proofs.lemmas.Option.{none-some, same_Some}
use Rattle.mdr_rich.specs.declared.code.Step.{Step}
use Rattle.mdr_rich.specs.declared.code.Step.TheVariants as step
use Rattle.mdr_rich.specs.declared.code.Stmt.{Stmt}
use Rattle.mdr_core.specs.declared.kind.Kind.{Kind}
use Rattle.mdr_core.specs.declared.kind.Kind.TheVariants.{U8, S8}
use Rattle.mdr_core.specs.declared.place.Place.{Place}
use Rattle.mdr_core.specs.declared.program.Program.{Program}
use Rattle.mdr_core.specs.declared.types.Ty.{Ty, out-Ty, roll-Ty, roll-out-Ty}
use Rattle.mdr_core.specs.declared.types.Ty.TheOpen.{Ty-F}
use Rattle.mdr_core.specs.declared.types.Ty.TheVariants as type
use Rattle.mdr_core.specs.Code.{Way}
use Rattle.mdr_rich.specs.Code.{Code}
use Rattle.mdr_rich.specs.Folds.{code_of, codes_of, lvalue_of}
use Rattle.mdr_core.specs.Types.{Scalar, is_scalar, sort_of}
use Rattle.mdr_core.specs.Typing.{Slot, One, IsLocal, TakesText, extent, slot_of_local}
use Rattle.mdr_rich.specs.Typing.{Designates, IsTyped, AreTyped}
use Rattle.mdr_rich.proofs.Coded.{code_is, declare_is, text_is, return_is, break_is, continue_is, empty_is, slot_is, object_is}
use Rattle.mdr_syntax.specs.declared.tree.Decl.{Decl, out-Decl}
use Rattle.mdr_faults.specs.declared.fault.FaultKind.TheVariants.{Mismatch}
use Rattle.mdr_faults.specs.declared.scope.Object.{Object}
use Rattle.mdr_faults.specs.declared.scope.Scope.{Scope}
use Rattle.mdr_faults.specs.Declarations.{is_void, is_void_by}
use Rattle.mdr_faults.specs.Faults.{Checked, Right, again}
use Rattle.mdr_headings.specs.Annotations.{is_character, is_character_by, is_character_kind}
use Rattle.mdr_operand.specs.declared.room.LocalName.{LocalName}
use Rattle.mdr_operand.specs.Written.{Written, Line}
use Rattle.mdr_body.specs.declared.here.Breaks.{Breaks}
use Rattle.mdr_body.specs.declared.here.Breaks.TheVariants as break_of
use Rattle.mdr_body.specs.declared.here.Frame.{Frame}
use Rattle.mdr_body.specs.declared.here.Here.{Here}
use Rattle.mdr_body.specs.declared.here.Jumps.{Jumps}
use Rattle.mdr_body.specs.Locals.{local_object, local_of, is_own_object, with_local}
use Rattle.mdr_body.specs.Addresses.{takes_in, perhaps_takes, takes_at}
use Rattle.mdr_body.specs.Statements.{setting_of, target_of}
use Rattle.mdr_body.specs.Statements.{Rules, stmt, single, stated, text_of, takes_text, is_single, own_place, initial_by, initial_step, declared_then, local_made, jumped, broken_by, broken, return_by, return_step, simple_made, simple_behind}
use Rattle.mdr_sound.specs.Knowing.{KnowsLocals, HasNumbers, IsFormed}
use Rattle.mdr_sound.proofs.Layers.{int_from}
use Rattle.mdr_sound.proofs.Rights.{not_right, same_right, same_ok, again_right, after_right, chosen_right, refused_right}
use Rattle.mdr_sound.specs.Rules.{IsSoundStep, IsRight, AreSoundRules}
use Rattle.mdr_sound.specs.Written.{PerhapsHasNumbers, IsProper}
use Rattle.mdr_sound.specs.Within.{KnowsDeclarations, AreDeclared, in_front, IsTold, IsHere}
use Rattle.mdr_sound.proofs.JoinedLists.{or_left, or_right}
use Rattle.mdr_sound.proofs.Scalars.{formed_scalar}
use Rattle.mdr_sound.proofs.DeclaringLocals.{IsAt, local_at, local_object_right}
use Rattle.mdr_sound.proofs.Going.{here_local, takes_no_slot}

and_first : (a b : Bool) → (a && b) ≡ true → a ≡ true
and_first true b e = refl
and_first false b e = absurd cc

and_second : (a b : Bool) → (a && b) ≡ true → b ≡ true
and_second true b e = e
and_second false b e = absurd cc

-- ---- characters, and functions that give nothing

character_kind : (t : Ty) (k : Kind) → t ≡ type.Int k → is_character_kind k ≡ true → (t ≡ type.Int U8) ⊎ (t ≡ type.Int S8)
character_kind t U8 is h = inl is
character_kind t S8 is h = inr is
character_kind t k is h = absurd cc

character_by : (t : Ty) (l : Ty-F Ty) → out-Ty t ≡ l → is_character_by l ≡ true → (t ≡ type.Int U8) ⊎ (t ≡ type.Int S8)
character_by t (Ty-F.Int k) is h = character_kind t k (int_from t k is) h
character_by t l is h = absurd cc

pub characters : (t : Ty) → is_character t ≡ true → (t ≡ type.Int U8) ⊎ (t ≡ type.Int S8)
characters t h = character_by t (out-Ty t) refl h

void_by : (t : Ty) (l : Ty-F Ty) → out-Ty t ≡ l → is_void_by l ≡ true → t ≡ type.Void
void_by t Ty-F.Void is h = sym (roll-out-Ty t) ∙ ap roll-Ty is ∙ type.rolls-Void
void_by t l is h = absurd cc

pub void_is : (t : Ty) → is_void t ≡ true → t ≡ type.Void
void_is t h = void_by t (out-Ty t) refl h

pub void_is_void : is_void type.Void ≡ true
void_is_void = ap is_void_by type.outs-Void

within : (count n : ℕ) → not (nat_lt count n) ≡ true → n ≤ count
within count n e = on (nat_lt count n) refl e where
  on : (b : Bool) → nat_lt count n ≡ b → not b ≡ true → n ≤ count
  on true is f = absurd cc
  on false is f = grind (arith, is)

module _ (program : Program) (slots : List Slot) (result : Ty) where
  -- a statement of a step that is sound
  pub step_typed : (n : ℕ) (s : Step) (ss : List Stmt) (b : Bool) → IsSoundStep program slots result s → 1 ≤ n → single n s ≡ Right ss → AreTyped program slots result b (codes_of ss)
  step_typed n s ss b sound some is = subst (λ xs. AreTyped program slots result b (codes_of xs)) (same_right _ _ is) (sound n b some, tt)

  -- a step whose code is right at any number
  pub step_is : (s : Step) (c : ℕ → Code) → ((n : ℕ) → code_of (stmt n s) ≡ c n) → ((n : ℕ) (b : Bool) → 1 ≤ n → IsTyped program slots result b (c n)) → IsSoundStep program slots result s
  step_is s c is h n b some = subst (IsTyped program slots result b) (sym (is n)) (h n b some)

  declare_sound : (i : ℕ) → IsLocal slots i → IsSoundStep program slots result (step.Declare i)
  declare_sound i h = step_is (step.Declare i) (λ n. Code.Declare n i) (λ n. code_is (stmt n (step.Declare i)) (step.Declare i) refl ∙ declare_is n i) (λ n b some. record { numbered = some; right = h })

  text_sound : (i : ℕ) (bytes : List ℕ) → TakesText slots i bytes → IsSoundStep program slots result (step.Text i bytes)
  text_sound i bytes h = step_is (step.Text i bytes) (λ n. Code.Text n i bytes) (λ n. code_is (stmt n (step.Text i bytes)) (step.Text i bytes) refl ∙ text_is n i bytes) (λ n b some. record { numbered = some; right = h })

  pub empty_sound : IsSoundStep program slots result step.Empty
  empty_sound = step_is step.Empty (λ n. Code.Jump n Way.Ends) (λ n. code_is (stmt n step.Empty) step.Empty refl ∙ empty_is n) (λ n b some. record { numbered = some; right = tt })

  nothing_sound : result ≡ type.Void → IsSoundStep program slots result (step.Return None)
  nothing_sound h = step_is (step.Return None) (λ n. Code.Return n None) (λ n. code_is (stmt n (step.Return None)) (step.Return None) refl ∙ return_is n None) (λ n b some. record { numbered = some; right = h })

  -- ---- jumps

  break_typed : (n : ℕ) (b : Bool) → IsTrue b → 1 ≤ n → AreTyped program slots result b (codes_of (stmt n step.Break ∷ []))
  break_typed n b h some = (subst (IsTyped program slots result b) (sym (code_is (stmt n step.Break) step.Break refl ∙ break_is n)) (record { numbered = some; right = h }), tt)

  continue_typed : (n : ℕ) (b : Bool) → IsTrue b → 1 ≤ n → AreTyped program slots result b (codes_of (stmt n step.Continue ∷ []))
  continue_typed n b h some = (subst (IsTyped program slots result b) (sym (code_is (stmt n step.Continue) step.Continue refl ∙ continue_is n)) (record { numbered = some; right = h }), tt)

  pub record HasJumped (in_loop : Bool) (n : ℕ) (s : Step) (ss : List Stmt) : Type 0 where
    pub inside : in_loop ≡ true
    pub is : ss ≡ stmt n s ∷ []

  pub jump_right : (p : Place) (in_loop : Bool) (n : ℕ) (s : Step) (ss : List Stmt) → stated n (jumped p in_loop s) ≡ Right ss → HasJumped in_loop n s ss
  jump_right p true n s ss e = record { inside = refl; is = sym (same_right _ _ e) }
  jump_right p false n s ss e = not_right _ ss e

  -- where a list of statements is one that is right
  at_list : (b : Bool) (xs ss : List Stmt) → ss ≡ xs → AreTyped program slots result b (codes_of xs) → AreTyped program slots result b (codes_of ss)
  at_list b xs ss is h = subst (λ ys. AreTyped program slots result b (codes_of ys)) (sym is) h

  pub breaks : (p : Place) (in_loop b : Bool) (n : ℕ) (ss : List Stmt) → (in_loop ≡ true → b ≡ true) → 1 ≤ n → stated n (jumped p in_loop step.Break) ≡ Right ss → AreTyped program slots result b (codes_of ss)
  breaks p in_loop b n ss inside some e =
      let j = jump_right p in_loop n step.Break ss e in
      at_list b _ ss j.is (break_typed n b (inside j.inside) some)

  -- in a loop, or at the end of a clause, where it is no statement
  broken_by_typed : (n : ℕ) (p : Place) (in_loop : Bool) (leaves : Breaks) (b : Bool) (ss : List Stmt) → (in_loop ≡ true → b ≡ true) → 1 ≤ n → broken_by n p in_loop leaves ≡ Right ss → AreTyped program slots result b (codes_of ss)
  broken_by_typed n p in_loop break_of.Loop b ss inside some e = breaks p in_loop b n ss inside some e
  broken_by_typed n p in_loop break_of.Clause b ss inside some e = at_list b [] ss (sym (same_right [] ss e)) tt
  broken_by_typed n p in_loop break_of.Nothing b ss inside some e = not_right _ ss e

  pub broken_typed : (n : ℕ) (p : Place) (jumps : Jumps) (b : Bool) (ss : List Stmt) → (jumps.in_loop ≡ true → b ≡ true) → 1 ≤ n → broken n p jumps ≡ Right ss → AreTyped program slots result b (codes_of ss)
  unfolding broken
  broken_typed n p jumps b ss inside some e = broken_by_typed n p jumps.in_loop jumps.breaks b ss inside some e

  pub continues : (p : Place) (in_loop b : Bool) (n : ℕ) (ss : List Stmt) → (in_loop ≡ true → b ≡ true) → 1 ≤ n → stated n (jumped p in_loop step.Continue) ≡ Right ss → AreTyped program slots result b (codes_of ss)
  continues p in_loop b n ss inside some e =
      let j = jump_right p in_loop n step.Continue ss e in
      at_list b _ ss j.is (continue_typed n b (inside j.inside) some)

  -- a step that is found right
  pub stated_typed : (n : ℕ) (c : Checked Step) (ss : List Stmt) (b : Bool) → ((s : Step) → c ≡ Right s → IsSoundStep program slots result s) → 1 ≤ n → stated n c ≡ Right ss → AreTyped program slots result b (codes_of ss)
  stated_typed n c ss b sound some e =
      let a = after_right c (single n) ss e in
      step_typed n a.value ss b (sound a.value a.right) some a.made

not_false : (b : Bool) → not b ≡ true → b ≡ false
not_false true e = absurd cc
not_false false e = refl

-- the declaration is that of the object
pub at_object : (slots : List Slot) (scope : Scope) (locks : List Bool) (i : ℕ) (t : Bool) (d : Decl) (o : Object) → IsAt slots scope locks i t d → local_object scope locks d ≡ Right o → slice_get slots i ≡ Some (slot_of_local (local_of t d o))
at_object slots scope locks i t d o h e = h.names ∙ ap (λ x. Some (slot_of_local (local_of t d x))) (same_right _ _ (sym h.right ∙ e))

module _ (program : Program) (slots : List Slot) (base : ℕ) (scope : Scope) (frame : Frame) (known : KnowsDeclarations program scope) (rules : Rules) (sound : AreSoundRules program slots scope rules) (result : Ty) where
  -- ---- returns

  scalar_result : (t : Ty) → (sort_of (length program.structs) t ≡ Scalar) ⊎ (t ≡ type.Void) → is_void t ≡ false → sort_of (length program.structs) t ≡ Scalar
  scalar_result t (inl h) e = h
  scalar_result t (inr h) e = let is : is_void t ≡ true = ap is_void h ∙ void_is_void in absurd cc

  return_by_sound : (here : Here) (p : Place) (w : Option Written) (t : Ty) (s : Step) → KnowsLocals program slots here.names → ((v : Written) → w ≡ Some v → IsRight here.names v) → (sort_of (length program.structs) t ≡ Scalar) ⊎ (t ≡ type.Void) → return_by (rules.returned scope here.names) p w t ≡ Right s → IsSoundStep program slots t s
  return_by_sound here p None t s knows right given e =
      let c = chosen_right (is_void t) (Right (step.Return None)) p Mismatch s e in
      subst (λ x. IsSoundStep program slots t x) (same_right _ _ c.right) (nothing_sound program slots t (void_is t c.holds))
  return_by_sound here p (Some w) t s knows right given e =
      let c = refused_right (is_void t) (rules.returned scope here.names p t w) p Mismatch s e in
      sound.returned here.names p t w s knows (right w refl) (scalar_result t given c.fails) c.right

  pub return_sound : (here : Here) (p : Place) (w : Option Written) (s : Step) → frame.result ≡ Ok result → (sort_of (length program.structs) result ≡ Scalar) ⊎ (result ≡ type.Void) → KnowsLocals program slots here.names → ((v : Written) → w ≡ Some v → IsRight here.names v) → return_step (setting_of rules scope frame) here p w ≡ Right s → IsSoundStep program slots result s
  unfolding return_step
  return_sound here p w s gives given knows right e =
      let a = after_right (again frame.result) (return_by (rules.returned scope here.names) p w) s e in
      let same : a.value ≡ result = same_ok _ _ (sym (again_right frame.result a.value a.right) ∙ gives) in
      return_by_sound here p w result s knows right given (ap (return_by (rules.returned scope here.names) p w) (sym same) ∙ a.made)

  -- ---- locals

  is_local : (i : ℕ) (t : Bool) (d : Decl) → IsAt slots scope frame.locks i t d → IsLocal slots i
  is_local i t d h = record { slot = slot_of_local (local_of t d h.object); names = h.names; local = refl }

  own_by : (i : ℕ) (t : Bool) (d : Decl) (o : Object) (b : Bool) → is_own_object t o ≡ b → o.array ≡ false → slice_get slots i ≡ Some (slot_of_local (local_of t d o)) → Designates program slots (lvalue_of (own_place b i o.ty)) (One o.ty)
  own_by i t d o true own single names = subst (λ l. Designates program slots l (One o.ty)) (sym (object_is i o.ty)) (record { slot = slot_of_local (local_of t d o); names = names; kept = own; is = ap (λ a. extent a o.ty o.count) (sym single) }, refl)
  own_by i t d o false own single names = subst (λ l. Designates program slots l (One o.ty)) (sym (slot_is i o.ty)) (record { slot = slot_of_local (local_of t d o); names = names; kept = own; is = ap (λ a. extent a o.ty o.count) (sym single) }, refl)

  initial_by_sound : (names : List LocalName) (p : Place) (i : ℕ) (t : Bool) (d : Decl) (w : Written) (text : Option (List ℕ)) (o : Object) (s : Step) → KnowsLocals program slots names → IsRight names w → IsFormed program o.ty → slice_get slots i ≡ Some (slot_of_local (local_of t d o)) → initial_by (rules.stored scope names) (target_of p i t) w text o ≡ Right s → IsSoundStep program slots result s
  initial_by_sound names p i t d w (Some bytes) o s knows right formed at e =
      let c = chosen_right (takes_text o (length bytes)) (Right (step.Text i bytes)) p Mismatch s e in
      let rest = and_second (is_character o.ty) (o.array && not (nat_lt o.count (length bytes))) c.holds in
      subst (λ x. IsSoundStep program slots result x) (same_right _ _ c.right) (text_sound program slots result i bytes (record {
        slot = slot_of_local (local_of t d o);
        names = at;
        local = refl;
        array = and_first o.array (not (nat_lt o.count (length bytes))) rest;
        characters = characters o.ty (and_first (is_character o.ty) (o.array && not (nat_lt o.count (length bytes))) c.holds);
        fits = within o.count (length bytes) (and_second o.array (not (nat_lt o.count (length bytes))) rest);
      }))
  initial_by_sound names p i t d w None o s knows right formed at e =
      let c = chosen_right (is_single o) (rules.stored scope names p (own_place (is_own_object t o) i o.ty) o.ty w) p Mismatch s e in
      let single = not_false o.array (and_second (is_scalar o.ty) (not o.array) c.holds) in
      sound.stored names p (own_place (is_own_object t o) i o.ty) o.ty w s result knows right
      (own_by i t d o (is_own_object t o) refl single at)
      (formed_scalar program o.ty formed (and_first (is_scalar o.ty) (not o.array) c.holds))
      c.right

  pub initial_sound : (here : Here) (t : Bool) (d : Decl) (w : Written) (s : Step) → IsAt slots scope frame.locks here.slot t d → KnowsLocals program slots (with_local scope frame.locks t d here).names → IsRight (with_local scope frame.locks t d here).names w → initial_step (setting_of rules scope frame) here t d w ≡ Right s → IsSoundStep program slots result s
  unfolding initial_step
  initial_sound here t d w s at knows right e =
      let names = (with_local scope frame.locks t d here).names in
      let a = after_right (local_object scope frame.locks d) (initial_by (rules.stored scope names) (target_of (out-Decl d).place here.slot t) w (text_of w)) s e in
      let object = local_object_right scope frame.locks d a.value a.right in
      initial_by_sound names (out-Decl d).place here.slot t d w (text_of w) a.value s knows right (known.formed (out-Decl d).place d a.value object.object)
      (at_object slots scope frame.locks here.slot t d a.value at a.right) a.made

  local_typed : (here : Here) (t b : Bool) (d : Decl) (init : Option Written) (ss : List Stmt) → 1 ≤ here.number → IsAt slots scope frame.locks here.slot t d → KnowsLocals program slots (with_local scope frame.locks t d here).names → ((v : Written) → init ≡ Some v → IsRight (with_local scope frame.locks t d here).names v) → local_made (setting_of rules scope frame) here t d init ≡ Right ss → AreTyped program slots result b (codes_of ss)
  unfolding local_made
  local_typed here t b d None ss some at knows right e = step_typed program slots result here.number (step.Declare here.slot) ss b (declare_sound program slots result here.slot (is_local here.slot t d at)) some e
  local_typed here t b d (Some w) ss some at knows right e =
      let a = after_right (initial_step (setting_of rules scope frame) here t d w) (declared_then here.number here.slot) ss e in
      subst (λ xs. AreTyped program slots result b (codes_of xs)) (same_right _ _ a.made) (
        declare_sound program slots result here.slot (is_local here.slot t d at) here.number b some,
        (initial_sound here t d w a.value at knows (right w refl) a.right here.number b some, tt),
      )

  -- ---- any of them

  perhaps_numbers : (init : Option Written) (v : Written) → PerhapsHasNumbers init → init ≡ Some v → HasNumbers v
  perhaps_numbers None v h e = absurd (none-some v e)
  perhaps_numbers (Some w) v h e = subst HasNumbers (same_Some _ _ e) h

  -- what may be written is right where the rest takes no address of what is in a slot
  pub perhaps_right : (here : Here) (r : List ℕ → Bool) (init : Option Written) → IsHere program slots base here r → ((name : List ℕ) → r name ≡ false → perhaps_takes name init ≡ false) → PerhapsHasNumbers init → (v : Written) → init ≡ Some v → IsRight here.names v
  perhaps_right here r init h less numbers v e = record {
    numbers = perhaps_numbers init v numbers e;
    no_slot = takes_no_slot program slots base here r v h (λ name n. subst (λ x. perhaps_takes name x ≡ false) e (less name n));
  }

  pub written_right : (here : Here) (r : List ℕ → Bool) (w : Written) → IsHere program slots base here r → ((name : List ℕ) → r name ≡ false → takes_in name w ≡ false) → HasNumbers w → IsRight here.names w
  written_right here r w h less numbers = record { numbers = numbers; no_slot = takes_no_slot program slots base here r w h less }

  pub simple_typed : (here : Here) (jumps : Jumps) (t b : Bool) (l : Line) (behind : List ℕ → Bool) (ss : List Stmt) → frame.result ≡ Ok result → (sort_of (length program.structs) result ≡ Scalar) ⊎ (result ≡ type.Void) → (jumps.in_loop ≡ true → b ≡ true) → IsHere program slots base here (in_front l behind) → IsProper l → IsTold t l behind → AreDeclared slots base (simple_behind scope frame here t l).locals → simple_made (setting_of rules scope frame) jumps here t l ≡ Right ss → AreTyped program slots result b (codes_of ss)
  simple_typed here jumps t b (Line.Empty p) behind ss gives given inside h proper told declared e = step_typed program slots result here.number step.Empty ss b (empty_sound program slots result) h.number e
  simple_typed here jumps t b (Line.Block p ls) behind ss gives given inside h proper told declared e = not_right _ ss e
  simple_typed here jumps t b (Line.Local p d init) behind ss gives given inside h proper told declared e =
      let behind_it = here_local program slots base scope frame known here t p d init behind h proper.0 told declared in
      local_typed here t b d init ss h.number (local_at slots base scope frame.locks here t d h.slot declared) behind_it.knows
      (perhaps_right (with_local scope frame.locks t d here) _ init behind_it (λ name n. or_left (perhaps_takes name init) (behind name) n) proper.1)
      e
  simple_typed here jumps t b (Line.Assign p at op x y) behind ss gives given inside h proper told declared e =
      let first = written_right here _ x h (λ name n. or_left (takes_in name x) _ (or_left (takes_at name (Line.Assign p at op x y)) _ n)) proper.0 in
      let second = written_right here _ y h (λ name n. or_right (takes_in name x) _ (or_left (takes_at name (Line.Assign p at op x y)) _ n)) proper.1 in
      stated_typed program slots result here.number _ ss b (λ s is. sound.assigned here.names at op x y s result h.knows first second is) h.number e
  simple_typed here jumps t b (Line.Plain p w) behind ss gives given inside h proper told declared e =
      let right = written_right here _ w h (λ name n. or_left (takes_at name (Line.Plain p w)) _ n) proper in
      stated_typed program slots result here.number _ ss b (λ s is. sound.called here.names w s result h.knows right is) h.number e
  simple_typed here jumps t b (Line.If p w one other) behind ss gives given inside h proper told declared e = not_right _ ss e
  simple_typed here jumps t b (Line.While p w body) behind ss gives given inside h proper told declared e = not_right _ ss e
  simple_typed here jumps t b (Line.For p init test step body) behind ss gives given inside h proper told declared e = not_right _ ss e
  simple_typed here jumps t b (Line.Do p body w) behind ss gives given inside h proper told declared e = not_right _ ss e
  simple_typed here jumps t b (Line.Switch p w cs) behind ss gives given inside h proper told declared e = not_right _ ss e
  simple_typed here jumps t b (Line.Return p w) behind ss gives given inside h proper told declared e =
      let right = perhaps_right here _ w h (λ name n. or_left (takes_at name (Line.Return p w)) _ n) proper in
      stated_typed program slots result here.number _ ss b (λ s is. return_sound here p w s gives given h.knows right is) h.number e
  simple_typed here jumps t b (Line.Break p) behind ss gives given inside h proper told declared e = broken_typed program slots result here.number p jumps b ss inside h.number e
  simple_typed here jumps t b (Line.Continue p) behind ss gives given inside h proper told declared e = continues program slots result p jumps.in_loop b here.number ss inside h.number e
