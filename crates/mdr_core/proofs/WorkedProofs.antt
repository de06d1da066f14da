-- The worked examples compute to what they say.
use Rattle.std.proofs.Common.{◌≡◌, ℕ, zero, suc, ◌+◌, ◌*◌, ◌<◌, ◌⊎◌, inl, inr, false, true, length, slice_get, Some, None, refl, sym, ap, ◌∙◌, subst, arith}
use Rattle.mdr_core.specs.declared.types.Ty.{Ty}
use Rattle.mdr_core.specs.declared.types.Ty as form
use Rattle.mdr_core.specs.declared.types.Ty.TheVariants as ty
use denote.Hole.Carrier.{out}
use Rattle.mdr_core.specs.declared.program.Field.{Field}
use Rattle.mdr_core.specs.declared.value.View.{View}
use Rattle.mdr_core.specs.Layout.{repeated, leaves, field_leaves, leaves_below, struct_of, struct_cells, fields_of, field_start, cells, key_at, zero_at}
use Rattle.mdr_core.specs.Types.{is_pointer}
use Rattle.mdr_core.specs.Views.{IsIn, Whole, Element, Inside, IsInFields, IsWhole, IsViewOf}
use Rattle.mdr_core.specs.Worked.{StructsHaveCells, CellsHaveKeys, CellsHaveZeros, BlocksHaveViews, OthersAreNone, driver, view, field, array_field, u32, buf_pointer, run_pointer, one_card}
use Rattle.mdr_core.proofs.Viewed.{some_same}

pub structs_have_cells : StructsHaveCells
unfolding struct_cells leaves_below field_leaves repeated leaves form.out-Ty denote.Hole.Carrier.out
structs_have_cells = record { of_buf = refl; of_stats = refl; of_card = refl; of_op = refl }

pub cells_have_keys : CellsHaveKeys
unfolding key_at cells struct_cells leaves_below field_leaves repeated leaves form.out-Ty denote.Hole.Carrier.out
cells_have_keys = record { of_buf = refl; of_card = refl; of_global = refl; behind = refl; alone = refl; of_mode = refl }

pub cells_have_zeros : CellsHaveZeros
unfolding zero_at cells struct_cells leaves_below field_leaves repeated leaves form.out-Ty denote.Hole.Carrier.out
cells_have_zeros = record { of_buf = refl; of_card = refl }

-- ---- views

pub a_pointer_names_a_part : BlocksHaveViews
unfolding field_start struct_cells leaves_below field_leaves repeated leaves form.out-Ty denote.Hole.Carrier.out
a_pointer_names_a_part = record {
  whole = record { ty = ty.Struct 2; names = refl; part = Whole 0 (ty.Struct 2) 1 refl refl refl; inside = omega arith };
  struct = record {
    ty = ty.Struct 2;
    names = refl;
    part = Inside 0 (ty.Struct 2) 1 2 0 2 (field _ (ty.Struct 1)) refl (omega arith) refl (Whole 2 (ty.Struct 1) 1 refl refl refl);
    inside = omega arith;
  };
  inner = record {
    ty = ty.Struct 2;
    names = refl;
    part =
        Inside 0 (ty.Struct 2) 1 2 0 2 (field _ (ty.Struct 1)) refl (omega arith) refl
        (Inside 2 (ty.Struct 1) 1 1 0 1 (field _ u32) refl (omega arith) refl (Whole 3 u32 1 refl refl refl));
    inside = omega arith;
  };
  behind = record {
    ty = ty.Struct 2;
    names = refl;
    part = Inside 0 (ty.Struct 2) 1 2 0 3 (array_field _ buf_pointer 4) refl (omega arith) refl (Whole 5 buf_pointer 4 refl refl refl);
    inside = omega arith;
  };
  element = record { ty = ty.Struct 3; names = refl; part = Element 0 (ty.Struct 3) 3 3 1 refl (omega arith) refl refl refl; inside = omega arith };
  pointer = record {
    ty = ty.Struct 3;
    names = refl;
    part = Inside 0 (ty.Struct 3) 3 3 1 1 (field _ run_pointer) refl (omega arith) refl (Whole 3 run_pointer 1 refl refl refl);
    inside = omega arith;
  };
}

-- of elements that aren't structs there is one view, the whole
scalar_view : (v : View) (first : ℕ) (t : Ty) (count : ℕ) → struct_of t ≡ None → IsIn driver v first t count → IsWhole driver v first t count
scalar_view v first t count e (Whole _ _ _ begins names many) = record { begins = begins; names = names; many = many }
scalar_view v first t count e (Element _ _ _ s i struct _ _ _ _) = let other : None ≡ Some s = sym e ∙ struct in absurd cc
scalar_view v first t count e (Inside _ _ _ s i f x struct _ _ _) = let other : None ≡ Some s = sym e ∙ struct in absurd cc

-- the only element begins where they do
only_element : (first i n : ℕ) → i < 1 → first + i * n ≡ first
only_element first zero n h = grind arith
only_element first (suc i) n h = absurd (omega (arith, h))

-- a view of a struct begins where it does, or lies in a field
struct_view : (v : View) (first : ℕ) (t : Ty) (s : ℕ) → struct_of t ≡ Some s → IsIn driver v first t 1 → (v.first ≡ first) ⊎ IsInFields driver v s first
struct_view v first t s e (Whole _ _ _ begins names many) = inl begins
struct_view v first t s e (Element _ _ _ m i struct among begins names many) = inl (begins ∙ only_element first i (length (struct_cells driver.structs m)) among)
struct_view v first t s e (Inside _ _ _ m i f x struct among names inside) =
    let same : m ≡ s = some_same (sym struct ∙ e) in
    inr
    (subst (λ k. IsInFields driver v k first) same
    (record {
      number = f;
      field = x;
      names = names;
      inside = subst (λ n. IsIn driver v (n + field_start driver.structs m f) x.ty x.count) (only_element first i (length (struct_cells driver.structs m)) among) inside;
    }))

-- a view of a field is one of what stands there
of_field : (v : View) (first : ℕ) (x y : Field) → Some x ≡ Some y → IsIn driver v first y.ty y.count → IsIn driver v first x.ty x.count
of_field v first x y e h = subst (λ (z : Field). IsIn driver v first z.ty z.count) (sym (some_same e)) h

-- no field of `stats` begins at cell 5
in_stats : (v : View) → v.first ≡ 5 → (f : ℕ) (x : Field) → slice_get (fields_of driver.structs 1) f ≡ Some x → IsIn driver v (2 + field_start driver.structs 1 f) x.ty x.count → ⊥
unfolding field_start leaves_below field_leaves repeated leaves form.out-Ty denote.Hole.Carrier.out
in_stats v b zero x e h = let at : v.first ≡ 2 = (scalar_view v 2 u32 1 refl (of_field v 2 _ x e h)).begins in omega arith
in_stats v b (suc zero) x e h = let at : v.first ≡ 3 = (scalar_view v 3 u32 1 refl (of_field v 3 _ x e h)).begins in omega arith
in_stats v b (suc (suc zero)) x e h = let at : v.first ≡ 4 = (scalar_view v 4 u32 1 refl (of_field v 4 _ x e h)).begins in omega arith
in_stats v b (suc (suc (suc f))) x e h = cc

-- what begins at cell 5 of a card is its ring
in_card : (v : View) → v.first ≡ 5 → (f : ℕ) (x : Field) → slice_get (fields_of driver.structs 2) f ≡ Some x → IsIn driver v (0 + field_start driver.structs 2 f) x.ty x.count → IsWhole driver v 5 buf_pointer 4
unfolding field_start leaves_below field_leaves repeated leaves form.out-Ty denote.Hole.Carrier.out
in_card v b zero x e h = let at : v.first ≡ 0 = (scalar_view v 0 ty.Lock 1 refl (of_field v 0 _ x e h)).begins in absurd (omega arith)
in_card v b (suc zero) x e h = let at : v.first ≡ 1 = (scalar_view v 1 u32 1 refl (of_field v 1 _ x e h)).begins in absurd (omega arith)
in_card v b (suc (suc zero)) x e h = absurd (within (struct_view v 2 (ty.Struct 1) 1 refl (of_field v 2 _ x e h)))
  where
    within : ((v.first ≡ 2) ⊎ IsInFields driver v 1 2) → ⊥
    within (inl at) = omega arith
    within (inr p) = in_stats v b p.number p.field p.names p.inside
in_card v b (suc (suc (suc zero))) x e h = scalar_view v 5 buf_pointer 4 refl (of_field v 5 _ x e h)
in_card v b (suc (suc (suc (suc zero)))) x e h = let at : v.first ≡ 9 = (scalar_view v 9 u32 1 refl (of_field v 9 _ x e h)).begins in absurd (omega arith)
in_card v b (suc (suc (suc (suc (suc zero))))) x e h = let at : v.first ≡ 10 = (scalar_view v 10 buf_pointer 1 refl (of_field v 10 _ x e h)).begins in absurd (omega arith)
in_card v b (suc (suc (suc (suc (suc (suc f)))))) x e h = absurd cc

of_card : (v : View) → v.first ≡ 5 → IsViewOf driver one_card v → IsWhole driver v 5 buf_pointer 4
unfolding form.out-Ty denote.Hole.Carrier.out
of_card v b h = within (struct_view v 0 (ty.Struct 2) 2 refl (subst (λ t. IsIn driver v 0 t 1) (sym (some_same h.names)) h.part))
  where
    within : ((v.first ≡ 0) ⊎ IsInFields driver v 2 0) → IsWhole driver v 5 buf_pointer 4
    within (inl at) = absurd (omega arith)
    within (inr p) = in_card v b p.number p.field p.names p.inside

-- a number isn't a pointer
no_pointer : Some u32 ≡ Some buf_pointer → ⊥
unfolding form.out-Ty denote.Hole.Carrier.out
no_pointer e = let other : false ≡ true = ap (λ t. is_pointer t) (some_same e) in cc

pub other_views_are_none : OthersAreNone
other_views_are_none = record {
  further = λ v. absurd (omega (arith, v.inside));
  mistyped = λ v. no_pointer (of_card (view 5 2 4 0) refl v).names;
  shortened = λ v. absurd (omega (arith, (of_card (view 5 14 3 0) refl v).many));
}
