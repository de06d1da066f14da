-- Slots as a place knows them: what lives elsewhere is no object there.
use Rattle.std.proofs.Common.{◌≡◌, ℕ, zero, suc, ◌+◌, Bool, true, false, List, [], ◌∷◌, Some, slice_get, refl, sym, ap, ◌∙◌, arith, add-zero}
use Rattle.std.proofs.lemmas.Option.{none-some, same_Some}
use Rattle.mdr_core.specs.declared.program.Program.{Program}
use Rattle.mdr_core.specs.Typing.{Slot}
use Rattle.mdr_faults.specs.declared.scope.Object.{Object}
use Rattle.mdr_operand.specs.declared.room.LocalName.{LocalName}
use Rattle.mdr_sound.specs.Knowing.{IsKnownLocal}
use Rattle.mdr_kept.specs.Scopes.{is_there}

-- what isn't there is no object and no array
abbrev pub shown : Bool → Slot → Slot
shown true s = s
shown false s = record s { array = false; object = false }

abbrev pub hide : ℕ → List ℕ → List Slot → List Slot
hide first objects [] = []
hide first objects (s ∷ ss) = shown (is_there objects first) s ∷ hide (suc first) objects ss

abbrev pub hidden : List ℕ → List Slot → List Slot
hidden objects slots = hide 0 objects slots

-- ---- what is shown

get_hide : (first : ℕ) (objects : List ℕ) (slots : List Slot) (i : ℕ) (s : Slot) → slice_get slots i ≡ Some s → slice_get (hide first objects slots) i ≡ Some (shown (is_there objects (first + i)) s)
get_hide first objects [] i s e = absurd (none-some s e)
get_hide first objects (x ∷ xs) zero s e = ap (λ (y : Slot). Some (shown (is_there objects first) y)) (same_Some x s e) ∙ ap (λ k. Some (shown (is_there objects k) s)) (sym (add-zero first))
get_hide first objects (x ∷ xs) (suc i) s e =
    let number : suc first + i ≡ first + suc i = omega arith in
    get_hide (suc first) objects xs i s e ∙ ap (λ k. Some (shown (is_there objects k) s)) number

pub get_hidden : (objects : List ℕ) (slots : List Slot) (i : ℕ) (s : Slot) → slice_get slots i ≡ Some s → slice_get (hidden objects slots) i ≡ Some (shown (is_there objects i) s)
get_hidden objects slots i s e =
    let number : 0 + i ≡ i = omega arith in
    get_hide 0 objects slots i s e ∙ ap (λ k. Some (shown (is_there objects k) s)) number

-- what lives or is no object is shown as it is
pub same_shown : (b : Bool) (s : Slot) → (s.object ≡ true → b ≡ true) → (s.object ≡ false → s.array ≡ false) → shown b s ≡ s
same_shown true s there single = refl
same_shown false s there single = on s.object refl where
  on : (o : Bool) → s.object ≡ o → shown false s ≡ s
  on true e = let h : false ≡ true = there e in absurd cc
  on false e = λ i. record { ty = s.ty; count = s.count; array = sym (single e) i; object = sym e i; is_local = s.is_local }

-- ---- what lives

shown_there : (f : Slot → Bool) → ((x : Slot) → f (shown false x) ≡ false) → (b : Bool) (x s : Slot) → shown b x ≡ s → f s ≡ true → b ≡ true
shown_there f none true x s e h = refl
shown_there f none false x s e h = let q : false ≡ true = sym (none x) ∙ ap f e ∙ h in absurd cc

there_from : (f : Slot → Bool) → ((x : Slot) → f (shown false x) ≡ false) → (first : ℕ) (objects : List ℕ) (slots : List Slot) (i : ℕ) (s : Slot) → slice_get (hide first objects slots) i ≡ Some s → f s ≡ true → is_there objects (first + i) ≡ true
there_from f none first objects [] i s e h = absurd (none-some s e)
there_from f none first objects (x ∷ xs) zero s e h = ap (is_there objects) (add-zero first) ∙ shown_there f none (is_there objects first) x s (same_Some _ s e) h
there_from f none first objects (x ∷ xs) (suc i) s e h =
    let number : first + suc i ≡ suc first + i = omega arith in
    ap (is_there objects) number ∙ there_from f none (suc first) objects xs i s e h

there_by : (f : Slot → Bool) → ((x : Slot) → f (shown false x) ≡ false) → (objects : List ℕ) (slots : List Slot) (i : ℕ) (s : Slot) → slice_get (hidden objects slots) i ≡ Some s → f s ≡ true → is_there objects i ≡ true
there_by f none objects slots i s e h =
    let number : i ≡ 0 + i = omega arith in
    ap (is_there objects) number ∙ there_from f none 0 objects slots i s e h

-- an object that is shown lives, and so does an array
pub object_there : (objects : List ℕ) (slots : List Slot) (i : ℕ) (s : Slot) → slice_get (hidden objects slots) i ≡ Some s → s.object ≡ true → is_there objects i ≡ true
object_there objects slots i s e h = there_by (λ (x : Slot). x.object) (λ x. refl) objects slots i s e h

pub array_there : (objects : List ℕ) (slots : List Slot) (i : ℕ) (s : Slot) → slice_get (hidden objects slots) i ≡ Some s → s.array ≡ true → is_there objects i ≡ true
array_there objects slots i s e h = there_by (λ (x : Slot). x.array) (λ x. refl) objects slots i s e h

-- ---- locals

pub known_hidden : (program : Program) (slots : List Slot) (objects : List ℕ) (n : LocalName) (o : Object) → IsKnownLocal program slots n o → (n.is_object ≡ true → is_there objects n.slot ≡ true) → IsKnownLocal program (hidden objects slots) n o
known_hidden program slots objects n o k there = record {
  slot = k.slot;
  names = get_hidden objects slots n.slot k.slot k.names ∙ ap Some (same_shown (is_there objects n.slot) k.slot (λ e. there (sym k.kept ∙ e)) (λ e. k.array ∙ k.single (sym k.kept ∙ e)));
  kept = k.kept;
  ty = k.ty;
  count = k.count;
  array = k.array;
  formed = k.formed;
  single = k.single;
  scalar = k.scalar;
}
