-- A type that is written is formed, or is `void`.
use Rattle.std.proofs.Common.{◌≡◌, ◌⊎◌, inl, inr, ℕ, zero, suc, ◌<◌, Bool, true, false, nat_lt, Option, Some, None, length, arith, refl, sym, ap, ◌∙◌, subst}
use Rattle.mdr_core.specs.declared.place.Place.{Place}
use Rattle.mdr_core.specs.declared.program.Program.{Program}
use Rattle.mdr_core.specs.declared.types.Ty.{Ty, out-Ty}
use Rattle.mdr_core.specs.declared.types.Ty.TheOpen.{Ty-F}
use Rattle.mdr_core.specs.declared.types.Ty.TheVariants as type
use Rattle.mdr_core.specs.Layout.{chosen}
use Rattle.mdr_core.specs.Types.{Wrong, Aggregate}
use Rattle.mdr_syntax.specs.declared.tree.Base.{Base}
use Rattle.mdr_syntax.specs.declared.tree.Base.TheVariants as base
use Rattle.mdr_faults.specs.declared.scope.Scope.{Scope}
use Rattle.mdr_faults.specs.declared.scope.Tag.{Tag}
use Rattle.mdr_faults.specs.Declarations.{struct_named, base_type, pointer_by, pointer_to, starred, type_named, cells_by, cells_of, is_void, is_void_by}
use Rattle.mdr_faults.specs.Faults.{Right}
use Rattle.mdr_faults.specs.Scopes.{tag_named}
use Rattle.mdr_sound.specs.Knowing.{IsFormed, Knows}
use Rattle.mdr_sound.proofs.Layers.{sort_int, sort_lock, sort_struct, sort_void_ptr, pointer_formed}
use Rattle.mdr_sound.proofs.Rights.{not_right, same_right, after_right}

-- a type of objects, or `void`
abbrev pub IsWritten : Program → Ty → Type 0
IsWritten program t = IsFormed program t ⊎ (t ≡ type.Void)

-- ---- stars

not_void : (t : Ty) (l : Ty-F Ty) → out-Ty t ≡ l → is_void_by l ≡ false → t ≡ type.Void → ⊥
not_void t l is h e =
    let layers : l ≡ Ty-F.Void = sym is ∙ ap out-Ty e ∙ type.outs-Void in
    let holds : is_void_by l ≡ true = ap is_void_by layers in
    cc

pointed : (program : Program) (t : Ty) (l : Ty-F Ty) → out-Ty t ≡ l → is_void_by l ≡ false → IsWritten program t → IsWritten program (type.Ptr t)
pointed program t l is h (inl f) = inl (inl (pointer_formed (length program.structs) t f))
pointed program t l is h (inr e) = absurd (not_void t l is h e)

pointer_at : (program : Program) (t : Ty) (l : Ty-F Ty) → out-Ty t ≡ l → IsWritten program t → IsWritten program (pointer_by t l)
pointer_at program t (Ty-F.Int k) is h = pointed program t _ is refl h
pointer_at program t Ty-F.Lock is h = pointed program t _ is refl h
pointer_at program t (Ty-F.Struct s) is h = pointed program t _ is refl h
pointer_at program t (Ty-F.Ptr u) is h = pointed program t _ is refl h
pointer_at program t Ty-F.VoidPtr is h = pointed program t _ is refl h
pointer_at program t (Ty-F.Fun ts) is h = pointed program t _ is refl h
pointer_at program t Ty-F.Void is h = inl (inl (sort_void_ptr (length program.structs)))

pub starred_written : (program : Program) (n : ℕ) (t : Ty) → IsWritten program t → IsWritten program (starred n t)
unfolding starred
starred_written program zero t h = h
starred_written program (suc n) t h = starred_written program n (pointer_to t) (pointer_at program t (out-Ty t) refl h)

-- ---- bases

within : (s n : ℕ) (b : Bool) → nat_lt s n ≡ b → s < n → chosen b Aggregate Wrong ≡ Aggregate
within s n true e low = refl
within s n false e low = absurd (grind (arith, e, low))

struct_written : (program : Program) (s : ℕ) → s < length program.structs → IsWritten program (type.Struct s)
struct_written program s low = inl (inr (inl (sort_struct (length program.structs) s ∙ within s (length program.structs) _ refl low)))

tag_written : (program : Program) (p : Place) (o : Option Tag) (t : Ty) → ((g : Tag) → o ≡ Some g → g.number < length program.structs) → struct_named p o ≡ Right t → IsWritten program t
tag_written program p None t low e = not_right _ t e
tag_written program p (Some g) t low e = subst (IsWritten program) (same_right _ _ e) (struct_written program g.number (low g refl))

module _ (program : Program) (scope : Scope) (knows : Knows program scope) where
  base_written : (b : Base) (t : Ty) → base_type scope b ≡ Right t → IsWritten program t
  base_written (base.Int k) t e = subst (IsWritten program) (same_right _ _ e) (inl (inl (sort_int (length program.structs) k)))
  base_written (base.Struct p name) t e = tag_written program p (tag_named scope name) t (knows.tags name) e
  base_written base.Void t e = subst (IsWritten program) (same_right _ _ e) (inr refl)
  base_written base.Lock t e = subst (IsWritten program) (same_right _ _ e) (inl (inr (inr (sort_lock (length program.structs)))))

  pub type_named_written : (b : Base) (n : ℕ) (t : Ty) → type_named scope b n ≡ Right t → IsWritten program t
  type_named_written b n t e =
      let a = after_right (base_type scope b) (λ u. Right (starred n u)) t e in
      subst (IsWritten program) (same_right _ _ a.made) (starred_written program n a.value (base_written b a.value a.right))

-- ---- sizes

-- there are no objects of `void`
cells_not_void : (scope : Scope) (p : Place) (l : Ty-F Ty) (n : ℕ) → cells_by scope p l ≡ Right n → is_void_by l ≡ true → ⊥
cells_not_void scope p (Ty-F.Int k) n e v = cc
cells_not_void scope p Ty-F.Lock n e v = cc
cells_not_void scope p (Ty-F.Struct s) n e v = cc
cells_not_void scope p (Ty-F.Ptr t) n e v = cc
cells_not_void scope p Ty-F.VoidPtr n e v = cc
cells_not_void scope p (Ty-F.Fun ts) n e v = cc
cells_not_void scope p Ty-F.Void n e v = not_right _ n e

-- a type that is written, and whose size is known, is one of objects
pub has_cells : (program : Program) (scope : Scope) (p : Place) (t : Ty) (n : ℕ) → IsWritten program t → cells_of scope p t ≡ Right n → IsFormed program t
has_cells program scope p t n (inl f) e = f
has_cells program scope p t n (inr void) e = absurd (cells_not_void scope p (out-Ty t) n e (ap is_void void ∙ ap is_void_by type.outs-Void))
