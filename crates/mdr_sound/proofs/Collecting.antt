-- The locals of a body: all are right, and each is sound.
use Rattle.std.proofs.Common.{◌≡◌, ℕ, zero, suc, ◌||◌, Bool, true, List, [], ◌∷◌, ◌++◌, length, map, Some, None, Ok, refl, sym, ap, ◌∙◌, subst, slice_get}
use Rattle.std.proofs.lemmas.Option.{none-some, same_Some}
use Rattle.mdr_core.specs.declared.program.Local.{Local}
use Rattle.mdr_core.specs.declared.program.Program.{Program}
use Rattle.mdr_core.specs.Sound.{IsSoundLocal}
use Rattle.mdr_core.specs.Types.{HasNumber}
use Rattle.mdr_core.specs.Typing.{Slot, slot_of_local}
use Rattle.mdr_core.proofs.Lying.{get-append_right}
use Rattle.mdr_syntax.specs.declared.tree.Decl.{Decl, out-Decl}
use Rattle.mdr_faults.specs.declared.scope.Object.{Object}
use Rattle.mdr_faults.specs.declared.scope.Scope.{Scope}
use Rattle.mdr_faults.specs.Faults.{Right, each}
use Rattle.mdr_body.specs.declared.here.DeclaredLocal.{DeclaredLocal}
use Rattle.mdr_body.specs.Bodies.{local_again, declared_locals}
use Rattle.mdr_headings.specs.Structs.{is_struct}
use Rattle.mdr_body.specs.Locals.{struct_locks, local_of, is_own_object}
use Rattle.mdr_sound.proofs.Rights.{same_right, both_right, again_right, told_right}
use Rattle.mdr_sound.specs.Within.{KnowsDeclarations, AreDeclared}
use Rattle.mdr_sound.proofs.JoinedLists.{or_left}
use Rattle.mdr_sound.proofs.Scalars.{formed_scalar}
use Rattle.mdr_sound.proofs.DeclaringLocals.{IsLocalObject, local_object_right, local_right, object_count, in_slot}
use Rattle.mdr_sound.proofs.Locking.{object_no_lock}
use Rattle.mdr_sound.specs.Knowing.{IsFormed}
use Rattle.mdr_sound.proofs.Coming.{IsFrom}

pub record IsMeant (ds : List DeclaredLocal) (i : ℕ) (l : Local) : Type 0 where
  pub declared : DeclaredLocal
  pub at : slice_get ds i ≡ Some declared
  pub means : declared.means ≡ Ok l

pub record Means (ls : List Local) (i : ℕ) (d : DeclaredLocal) : Type 0 where
  pub local : Local
  pub at : slice_get ls i ≡ Some local
  pub means : d.means ≡ Ok local

-- each declaration is a local, and each local has a declaration
each_means : (ds : List DeclaredLocal) (ls : List Local) (i : ℕ) (d : DeclaredLocal) → each (map local_again ds) ≡ Right ls → slice_get ds i ≡ Some d → Means ls i d
each_means [] ls i d e at = absurd (none-some d at)
each_means (x ∷ ds) ls zero d e at =
    let b = both_right (local_again x) (each (map local_again ds)) (λ y ys. Right (y ∷ ys)) ls e in
    let same : b.left ∷ b.right ≡ ls = same_right (b.left ∷ b.right) ls b.made in
    record { local = b.left; at = ap (λ ys. slice_get ys zero) (sym same); means = ap (λ (m : DeclaredLocal). m.means) (sym (same_Some x d at)) ∙ again_right x.means b.left b.first }
each_means (x ∷ ds) ls (suc i) d e at =
    let b = both_right (local_again x) (each (map local_again ds)) (λ y ys. Right (y ∷ ys)) ls e in
    let same : b.left ∷ b.right ≡ ls = same_right (b.left ∷ b.right) ls b.made in
    let rest = each_means ds b.right i d b.second at in
    record { local = rest.local; at = ap (λ ys. slice_get ys (suc i)) (sym same) ∙ rest.at; means = rest.means }

each_meant : (ds : List DeclaredLocal) (ls : List Local) (i : ℕ) (l : Local) → each (map local_again ds) ≡ Right ls → slice_get ls i ≡ Some l → IsMeant ds i l
each_meant [] ls i l e at = let none : None ≡ Some l = ap (λ ys. slice_get ys i) (same_right [] ls e) ∙ at in absurd (none-some l none)
each_meant (x ∷ ds) ls zero l e at =
    let b = both_right (local_again x) (each (map local_again ds)) (λ y ys. Right (y ∷ ys)) ls e in
    let same : b.left ∷ b.right ≡ ls = same_right (b.left ∷ b.right) ls b.made in
    let is : b.left ≡ l = same_Some b.left l (ap (λ ys. slice_get ys zero) same ∙ at) in
    record { declared = x; at = refl; means = again_right x.means b.left b.first ∙ ap Ok is }
each_meant (x ∷ ds) ls (suc i) l e at =
    let b = both_right (local_again x) (each (map local_again ds)) (λ y ys. Right (y ∷ ys)) ls e in
    let same : b.left ∷ b.right ≡ ls = same_right (b.left ∷ b.right) ls b.made in
    let rest = each_meant ds b.right i l b.second (ap (λ ys. slice_get ys (suc i)) same ∙ at) in
    record { declared = rest.declared; at = rest.at; means = rest.means }

pub meant : (ds : List DeclaredLocal) (ls : List Local) (i : ℕ) (l : Local) → declared_locals ds ≡ Right ls → slice_get ls i ≡ Some l → IsMeant ds i l
unfolding declared_locals
meant ds ls i l e at = each_meant ds ls i l e at

-- the locals have the slots behind those of the parameters
pub all_declared : (front : List Slot) (ds : List DeclaredLocal) (ls : List Local) → declared_locals ds ≡ Right ls → AreDeclared (front ++ map slot_of_local ls) (length front) ds
unfolding declared_locals
all_declared front ds ls e = record {
  each = λ i d at.
      let m = each_means ds ls i d e at in
      record { local = m.local; means = m.means; names = get-append_right front (map slot_of_local ls) i ∙ mapped ls i m.local m.at };
}
  where
    mapped : (xs : List Local) (i : ℕ) (x : Local) → slice_get xs i ≡ Some x → slice_get (map slot_of_local xs) i ≡ Some (slot_of_local x)
    mapped [] i x h = absurd (none-some x h)
    mapped (y ∷ ys) zero x h = ap (λ (z : Local). Some (slot_of_local z)) (same_Some y x h)
    mapped (y ∷ ys) (suc i) x h = mapped ys i x h

module _ (program : Program) (scope : Scope) (known : KnowsDeclarations program scope) where
  -- a local as its declaration says
  pub local_sound : (t : Bool) (d : Decl) (o : Object) → IsLocalObject scope (struct_locks scope) d o → (is_own_object t o ≡ true → HasNumber program o.ty) → IsSoundLocal program (local_of t d o)
  local_sound t d o h numbered = record {
    sort = known.formed (out-Decl d).place d o h.object;
    no_lock = object_no_lock program scope known (out-Decl d).place d o h.object h.no_lock;
    count = object_count scope (out-Decl d).place d o h.object;
    small = known.small (out-Decl d).place d o h.object;
    slot = λ e. (or_left o.array (is_struct o.ty || t) e, formed_scalar program o.ty (known.formed (out-Decl d).place d o h.object) (in_slot program [] scope known (struct_locks scope) t d o h e));
    in_table = numbered;
  }

  pub declared_sound : (m : DeclaredLocal) (l : Local) → IsFrom scope (struct_locks scope) m → m.means ≡ Ok l → (l.object ≡ true → HasNumber program l.ty) → IsSoundLocal program l
  declared_sound m l h means numbered =
      let made = local_right scope (struct_locks scope) h.here h.is_taken h.decl l (told_right _ l (sym h.is ∙ means)) in
      let object = local_object_right scope (struct_locks scope) h.decl made.object made.right in
      subst (λ (x : Local). (x.object ≡ true → HasNumber program x.ty) → IsSoundLocal program x) made.is (local_sound h.is_taken h.decl made.object object) numbered

  -- and its type is one of objects, whatever stands in the type table
  pub declared_formed : (m : DeclaredLocal) (l : Local) → IsFrom scope (struct_locks scope) m → m.means ≡ Ok l → IsFormed program l.ty
  declared_formed m l h means =
      let made = local_right scope (struct_locks scope) h.here h.is_taken h.decl l (told_right _ l (sym h.is ∙ means)) in
      let object = local_object_right scope (struct_locks scope) h.decl made.object made.right in
      subst (λ (x : Local). IsFormed program x.ty) made.is (known.formed (out-Decl h.decl).place h.decl made.object object.object)
