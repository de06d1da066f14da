-- A slot that a value is kept in is a local as sound programs have them.
use Rattle.std.proofs.Common.{◌≡◌, ℕ, zero, suc, ◌≤◌, List, [], ◌∷◌, length, IsTrue, inl, refl, sym, ap, ◌∙◌, subst, slice_get, Some, arith}
use Rattle.std.proofs.lemmas.Option.{none-some, same_Some}
use Rattle.mdr_core.specs.declared.program.Local.{Local}
use Rattle.mdr_core.specs.declared.program.Program.{Program}
use Rattle.mdr_core.specs.declared.types.Ty.{Ty, out-Ty}
use Rattle.mdr_core.specs.declared.types.Ty.TheOpen.{Ty-F}
use Rattle.mdr_core.specs.declared.types.Ty.TheVariants as type
use Rattle.mdr_core.specs.Layout.{Leaf, Alone, cells, leaves, leaves_by, repeated, struct_cells}
use Rattle.mdr_core.specs.Sound.{IsSoundLocal, all_cells}
use Rattle.mdr_core.specs.Types.{HasNoLock, is_scalar, is_scalar_by, sort_of}
use Rattle.mdr_lower.specs.Lowering.{new_slot}
use Rattle.mdr_lower.proofs.Typed.{IsNew}
use Rattle.mdr_sound.proofs.Entering.{scalar_is}

one_cell_by : (known : ℕ → List Leaf) (t : Ty) (l : Ty-F Ty) → IsTrue (is_scalar_by l) → leaves_by known Alone t l ≡ record { home = Alone; type = t } ∷ []
one_cell_by known t (Ty-F.Int k) h = refl
one_cell_by known t (Ty-F.Ptr u) h = refl
one_cell_by known t Ty-F.VoidPtr h = refl
one_cell_by known t (Ty-F.Fun ts) h = refl
one_cell_by known t l h = absurd cc

one_cell : (program : Program) (t : Ty) → IsTrue (is_scalar t) → cells program t ≡ record { home = Alone; type = t } ∷ []
unfolding cells leaves
one_cell program t h = one_cell_by (struct_cells program.structs) t (out-Ty t) h

no_lock : (t : Ty) → IsTrue (is_scalar t) → t ≡ type.Lock → ⊥
no_lock t h e = let lost = sym h ∙ ap is_scalar_by (ap out-Ty e ∙ type.outs-Lock) in absurd cc

no_lock_in : (program : Program) (t : Ty) → IsTrue (is_scalar t) → HasNoLock program t
no_lock_in program t h = record { none = λ i leaf e. among i leaf (sym (ap (λ xs. slice_get xs i) (one_cell program t h)) ∙ e) }
  where
    among : (i : ℕ) (leaf : Leaf) → slice_get (record { home = Alone; type = t } ∷ []) i ≡ Some leaf → leaf.type ≡ type.Lock → ⊥
    among zero leaf e q = no_lock t h (ap (λ (x : Leaf). x.type) (same_Some _ leaf e) ∙ q)
    among (suc i) leaf e q = none-some leaf e

is_small : (program : Program) (t : Ty) → IsTrue (is_scalar t) → length (all_cells program t 1) ≤ 65536
unfolding repeated
is_small program t h = rw (one_cell program t h) (omega arith)

new_sound_as : (program : Program) (t : Ty) → IsTrue (is_scalar t) → (l : Local) → IsNew program l → l.ty ≡ t → IsSoundLocal program (new_slot t)
new_sound_as program t s l new e =
    let formed = ap (sort_of (length program.structs)) (sym e ∙ ap (λ (x : Local). x.ty) new.is) ∙ new.formed in
    record { sort = inl formed; no_lock = no_lock_in program t s; count = record { some = omega arith; single = λ q. refl }; small = is_small program t s; slot = λ q. (refl, formed); in_table = λ q. absurd cc }

pub new_sound : (program : Program) (l : Local) → IsNew program l → IsSoundLocal program l
new_sound program l new = subst (IsSoundLocal program) (sym new.is) (new_sound_as program new.type (scalar_is (length program.structs) new.type new.formed) l new (ap (λ (x : Local). x.ty) new.is))
