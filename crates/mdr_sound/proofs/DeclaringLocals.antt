-- A local as it is declared, at its slot.
use Rattle.std.proofs.Common.{◌≡◌, ℕ, zero, suc, ◌+◌, ◌≤◌, not, Bool, false, List, [], ◌∷◌, ◌++◌, length, Option, Some, None, Ok, IsTrue, is_some, refl, sym, ap, ◌∙◌, subst, arith, slice_get, pos, negsuc}
use Rattle.std.specs.Prelude.{ℤ}
use Rattle.mdr_core.specs.declared.place.Place.{Place}
use Rattle.mdr_core.specs.declared.program.Local.{Local}
use Rattle.mdr_core.specs.declared.program.Program.{Program}
use Rattle.mdr_core.specs.Sound.{IsCount}
use Rattle.mdr_core.specs.Types.{is_scalar}
use Rattle.mdr_core.specs.Typing.{Slot, slot_of_local}
use Rattle.mdr_syntax.specs.declared.tree.Const.{Const}
use Rattle.mdr_syntax.specs.declared.tree.Decl.{Decl, out-Decl}
use Rattle.mdr_faults.specs.declared.fault.FaultKind.TheVariants.{Redefined, Mismatch, Limit}
use Rattle.mdr_faults.specs.declared.scope.Object.{Object}
use Rattle.mdr_faults.specs.declared.scope.Scope.{Scope}
use Rattle.mdr_faults.specs.Declarations.{object_declared, sized, cells_of, count_of, constant, element_count, declarator}
use Rattle.mdr_faults.specs.Faults.{Checked, Right, told, demand}
use Rattle.mdr_body.specs.declared.here.DeclaredLocal.{DeclaredLocal}
use Rattle.mdr_body.specs.declared.here.Here.{Here}
use Rattle.mdr_headings.specs.Names.{good_params}
use Rattle.mdr_headings.specs.Structs.{is_struct}
use Rattle.mdr_headings.specs.Within.{beside, within}
use Rattle.mdr_body.specs.Locals.{holds_lock, without_lock, local_object, local_declared, local_whole, local_of, is_own_object, is_again, has_place, has_no_size, name_of, lies_apart, named_local, names_here, with_local}
use Rattle.mdr_sound.specs.Knowing.{IsKnownLocal}
use Rattle.mdr_sound.proofs.Rights.{not_right, same_right, same_ok, told_right, after_right, both_right, demand_right, refused_right}
use Rattle.mdr_sound.proofs.Scoping.{beside_right}
use Rattle.mdr_sound.specs.Within.{KnowsDeclarations, IsDeclared, AreDeclared}
use Rattle.mdr_sound.proofs.JoinedLists.{or_left, or_right, get_front, get_last}
use Rattle.mdr_sound.proofs.Scalars.{scalar_in_slot}

-- ---- which locals are declared

pub declared_before : (slots : List Slot) (base : ℕ) (ds es fs : List DeclaredLocal) → es ≡ ds ++ fs → AreDeclared slots base es → AreDeclared slots base ds
declared_before slots base ds es fs is h = record { each = λ i d e. h.each i d (ap (λ xs. slice_get xs i) is ∙ get_front ds fs i d e) }

pub declared_last : (slots : List Slot) (base : ℕ) (ds : List DeclaredLocal) (d : DeclaredLocal) → AreDeclared slots base (ds ++ d ∷ []) → IsDeclared slots (base + length ds) d
declared_last slots base ds d h = h.each (length ds) d (get_last ds d)

-- ---- what a declaration comes to

pub record IsLocalObject (scope : Scope) (locks : List Bool) (d : Decl) (o : Object) : Type 0 where
  pub object : object_declared scope (out-Decl d).place d ≡ Right o
  pub no_lock : holds_lock locks o.ty ≡ false

pub local_object_right : (scope : Scope) (locks : List Bool) (d : Decl) (o : Object) → local_object scope locks d ≡ Right o → IsLocalObject scope locks d o
unfolding local_object
local_object_right scope locks d o e =
    let a = after_right (object_declared scope (out-Decl d).place d) (without_lock locks (out-Decl d).place) o e in
    let r = refused_right (holds_lock locks a.value.ty) (Right a.value) (out-Decl d).place Mismatch o a.made in
    let same : a.value ≡ o = same_right _ _ r.right in
    subst (λ x. IsLocalObject scope locks d x) same (record { object = a.right; no_lock = r.fails })

pub record IsLocalOf (scope : Scope) (locks : List Bool) (t : Bool) (d : Decl) (l : Local) : Type 0 where
  pub object : Object
  pub right : local_object scope locks d ≡ Right object
  pub is : local_of t d object ≡ l

pub local_right : (scope : Scope) (locks : List Bool) (here : Here) (t : Bool) (d : Decl) (l : Local) → local_declared scope locks here t d ≡ Right l → IsLocalOf scope locks t d l
unfolding local_declared
local_right scope locks here t d l e =
    let p = (out-Decl d).place in
    let whole : Checked Local = local_whole t d (local_object scope locks d) in
    let dropped = within scope (names_here here.names) d in
    let held : Checked Local = beside (good_params d) (beside dropped whole) in
    let sized : Checked Local = demand p Mismatch (not (has_no_size here.names (out-Decl d).size)) held in
    let placed : Checked Local = demand p Limit (has_place (length here.locals) (name_of d)) sized in
    let a = demand_right p Redefined (not (is_again here.first (name_of d) here.names)) placed l e in
    let b = demand_right p Limit (has_place (length here.locals) (name_of d)) sized l a.right in
    let c = demand_right p Mismatch (not (has_no_size here.names (out-Decl d).size)) held l b.right in
    let w = after_right (local_object scope locks d) (λ o. Right (local_of t d o)) l (beside_right dropped whole l (beside_right (good_params d) (beside dropped whole) l c.right)) in
    record { object = w.value; right = w.right; is = same_right _ _ w.made }

-- ---- how many elements

counted : (p : Place) (z : ℤ) (n : ℕ) → element_count p z ≡ Right n → 1 ≤ n
counted p (pos zero) n e = not_right _ n e
counted p (pos (suc m)) n e = subst (λ x. 1 ≤ x) (same_right _ _ e) (omega arith)
counted p (negsuc m) n e = not_right _ n e

count_right : (scope : Scope) (p : Place) (c : Option Const) (n : ℕ) → count_of scope p c ≡ Right n → IsCount (is_some c) n
count_right scope p None n e = let is : 1 ≡ n = same_right 1 n e in record { some = subst (λ x. 1 ≤ x) is (omega arith); single = λ s. sym is }
count_right scope p (Some c) n e =
    let a = after_right (constant scope p c) (λ k. element_count p k.number) n e in
    record { some = counted p a.value.number n a.made; single = λ s. absurd cc }

pub object_count : (scope : Scope) (limit : Place) (d : Decl) (o : Object) → object_declared scope limit d ≡ Right o → IsCount o.array o.count
unfolding object_declared
object_count scope limit d o e =
    let b = both_right (declarator scope d).whole (count_of scope (out-Decl d).place (out-Decl d).size) _ o e in
    let a = after_right (cells_of scope (out-Decl d).place b.left) (sized limit b.left (is_some (out-Decl d).size) b.right) o b.made in
    let r = refused_right _ (Right (record { ty = b.left; count = b.right; array = is_some (out-Decl d).size })) limit Limit o a.made in
    subst (λ (x : Object). IsCount x.array x.count) (same_right _ _ r.right) (count_right scope (out-Decl d).place (out-Decl d).size b.right b.second)

-- ---- the local that a name stands for

-- the declaration is right, and the slot is for what it comes to
pub record IsAt (slots : List Slot) (scope : Scope) (locks : List Bool) (i : ℕ) (t : Bool) (d : Decl) : Type 0 where
  pub object : Object
  pub right : local_object scope locks d ≡ Right object
  pub names : slice_get slots i ≡ Some (slot_of_local (local_of t d object))

pub local_at : (slots : List Slot) (base : ℕ) (scope : Scope) (locks : List Bool) (here : Here) (t : Bool) (d : Decl) → here.slot ≡ base + length here.locals → AreDeclared slots base (with_local scope locks t d here).locals → IsAt slots scope locks here.slot t d
unfolding with_local
local_at slots base scope locks here t d is h =
    let last = declared_last slots base here.locals (record { means = told (local_declared scope locks here t d) }) h in
    let l = local_right scope locks here t d last.local (told_right _ last.local last.means) in
    record { object = l.object; right = l.right; names = ap (slice_get slots) is ∙ last.names ∙ ap (λ (x : Local). Some (slot_of_local x)) (sym l.is) }

module _ (program : Program) (slots : List Slot) (scope : Scope) (known : KnowsDeclarations program scope) where
  pub in_slot : (locks : List Bool) (t : Bool) (d : Decl) (o : Object) → IsLocalObject scope locks d o → is_own_object t o ≡ false → IsTrue (is_scalar o.ty)
  in_slot locks t d o h e = scalar_in_slot program locks o.ty (known.formed (out-Decl d).place d o h.object) (or_left (is_struct o.ty) t (or_right o.array _ e)) h.no_lock

  pub local_known : (locks : List Bool) (i : ℕ) (t : Bool) (d : Decl) (o : Object) → IsAt slots scope locks i t d → told (local_object scope locks d) ≡ Ok o → IsKnownLocal program slots (named_local i t d (told (local_object scope locks d))) o
  unfolding named_local
  local_known locks i t d o h means =
      let same : h.object ≡ o = same_ok _ _ (sym (ap told h.right) ∙ means) in
      let kept : is_own_object t h.object ≡ lies_apart t (told (local_object scope locks d)) = ap (lies_apart t) (sym (ap told h.right)) in
      let right = local_object_right scope locks d h.object h.right in
      subst (λ x. IsKnownLocal program slots (named_local i t d (told (local_object scope locks d))) x) same (record {
        slot = slot_of_local (local_of t d h.object);
        names = h.names;
        kept = kept;
        ty = refl;
        count = refl;
        array = refl;
        formed = known.formed (out-Decl d).place d h.object right.object;
        single = λ e. or_left h.object.array _ (kept ∙ e);
        scalar = λ e. in_slot locks t d h.object right (kept ∙ e);
      })
