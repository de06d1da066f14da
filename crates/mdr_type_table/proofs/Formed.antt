-- A type that is formed is written as its text.
use Rattle.std.proofs.Common.{◌≡◌, ℕ, zero, suc, ◌<◌, true, false, ◌&&◌, nat_lt, List, [], ◌∷◌, ◌++◌, length, map, Option, Some, None, slice_get, codes, refl, sym, ap, ◌∙◌, subst, arith}
use Rattle.std.specs.List.{list_all, prefix_len}
use Rattle.mdr_core.specs.declared.kind.Kind.{Kind}
use Rattle.mdr_core.specs.declared.types.Ty.{Ty, roll-Ty}
use Rattle.mdr_core.specs.declared.types.Ty.TheOpen.{Ty-F}
use Rattle.mdr_core.specs.declared.types.Ty.TheFolds.{ind-Ty, map-Ty}
use Rattle.mdr_core.specs.declared.types.Ty.TheVariants as type
use Rattle.mdr_core.specs.declared.program.StructDef.{StructDef}
use Rattle.mdr_core.specs.TypeText.{Text, kind_text, star, signature_text, text_of, name_or}
use Rattle.mdr_core.specs.Types.{Wrong, Empty, pointer_sort, is_scalar_sort, is_result_sort, sort_of}
use Rattle.mdr_syntax.specs.Bytes.{is_name_byte}
use Rattle.mdr_plan.specs.Naming.{Naming}
use Rattle.mdr_plan.specs.TypeTexts.{Written, AreParams, text}
use Rattle.mdr_plan.specs.TypeTexts.Written.{OfInt, OfLock, OfStruct, OfVoid, OfPtr, OfFun}
use Rattle.mdr_plan.specs.TypeTexts.AreParams.{NoParams, Param}
use Rattle.mdr_type_table.proofs.Levels.{sort_at, text_at, parts_of, formed_function, formed_struct, no_scalar_wrong, no_result_wrong, scalar_of, result_of}

-- each struct's name is a word by which it is found
pub record AreFound (structs : List StructDef) (names : Naming) : Type 0 where
  pub words : (s : ℕ) (def : StructDef) → slice_get structs s ≡ Some def → prefix_len is_name_byte def.name ≡ length def.name
  pub numbers : (s : ℕ) (def : StructDef) → slice_get structs s ≡ Some def → names def.name ≡ Some s

-- the type has its text, and a pointer to it is no other than `Ptr`, but for `void`
pub record HasText (structs : List StructDef) (names : Naming) (t : Ty) : Type 0 where
  pub pointer : Ty
  pub written : Written names t pointer (text_of structs t)
  pub plain : (sort_of (length structs) t ≡ Empty → ⊥) → pointer ≡ type.Ptr t

record Good (structs : List StructDef) (names : Naming) (t : Ty) : Type 0 where
  by : (sort_of (length structs) t ≡ Wrong → ⊥) → HasText structs names t

module _ (structs : List StructDef) (names : Naming) (found : AreFound structs names) where
  has_text : (t : Ty) (x : Text) → text_of structs t ≡ x → Written names t (type.Ptr t) x → HasText structs names t
  has_text t x e w = record { pointer = type.Ptr t; written = subst (λ (y : Text). Written names t (type.Ptr t) y) (sym e) w; plain = λ h. refl }

  good_int : (k : Kind) → Good structs names (type.Int k)
  good_int k = record { by = λ h. has_text (type.Int k) (text (kind_text k) false) (text_at structs (type.Int k) (Ty-F.Int k) (type.outs-Int k)) (OfInt k) }

  good_lock : Good structs names type.Lock
  good_lock = record { by = λ h. has_text type.Lock (text (codes "combolock_t") false) (text_at structs type.Lock Ty-F.Lock type.outs-Lock) OfLock }

  struct_text : (s : ℕ) → text_of structs (type.Struct s) ≡ text (codes "struct " ++ name_or (slice_get structs s)) false
  struct_text s = text_at structs (type.Struct s) (Ty-F.Struct s) (type.outs-Struct s)

  struct_by : (s : ℕ) (o : Option StructDef) → slice_get structs s ≡ o → s < length structs → HasText structs names (type.Struct s)
  struct_by s None e lt = absurd (none_inside structs s e lt)
    where
      none_inside : (ds : List StructDef) (k : ℕ) → slice_get ds k ≡ None → k < length ds → ⊥
      none_inside [] k f l = omega (arith, l)
      none_inside (d ∷ ds) zero f l = absurd cc
      none_inside (d ∷ ds) (suc k) f l = none_inside ds k f (omega (arith, l))
  struct_by s (Some def) e lt =
      has_text (type.Struct s) (text (codes "struct " ++ def.name) false)
      (struct_text s ∙ ap (λ (o : Option StructDef). text (codes "struct " ++ name_or o) false) e)
      (OfStruct s def.name (found.numbers s def e) (found.words s def e))

  less : (a b : ℕ) → nat_lt a b ≡ true → a < b
  less a b e = grind (arith, e)

  good_struct : (s : ℕ) → Good structs names (type.Struct s)
  good_struct s = record {
    by = λ h.
        let is = sort_at (length structs) (type.Struct s) (Ty-F.Struct s) (type.outs-Struct s) in
        struct_by s (slice_get structs s) refl (less s (length structs) (formed_struct (nat_lt s (length structs)) (λ e. h (is ∙ e))));
  }

  good_ptr : (t : Ty) → Good structs names t → Good structs names (type.Ptr t)
  good_ptr t g = record {
    by = λ h.
        let is : sort_of (length structs) (type.Ptr t) ≡ pointer_sort (sort_of (length structs) t) = sort_at (length structs) (type.Ptr t) (Ty-F.Ptr t) (type.outs-Ptr t) in
        let w = g.by (λ e. h (is ∙ ap pointer_sort e)) in
        let p : w.pointer ≡ type.Ptr t = w.plain (λ e. h (is ∙ ap pointer_sort e)) in
        has_text (type.Ptr t) (text ((text_of structs t).bytes ++ star (text_of structs t).starred) true) (text_at structs (type.Ptr t) (Ty-F.Ptr t) (type.outs-Ptr t))
        (subst (λ (q : Ty). Written names q (type.Ptr q) (text ((text_of structs t).bytes ++ star (text_of structs t).starred) true)) p (OfPtr t w.pointer (text_of structs t) w.written));
  }

  good_void_ptr : Good structs names type.VoidPtr
  good_void_ptr = record { by = λ h. has_text type.VoidPtr (text (codes "void *") true) (text_at structs type.VoidPtr Ty-F.VoidPtr type.outs-VoidPtr) (OfPtr type.Void type.VoidPtr (text (codes "void") false) OfVoid) }

  good_void : Good structs names type.Void
  good_void = record {
    by = λ h. record {
      pointer = type.VoidPtr;
      written = subst (λ (y : Text). Written names type.Void type.VoidPtr y) (sym (text_at structs type.Void Ty-F.Void type.outs-Void)) OfVoid;
      plain = λ e. absurd (e (sort_at (length structs) type.Void Ty-F.Void type.outs-Void));
    };
  }

  -- ---- functions

  module _ {E : Type 0} (f : E → Ty) (good : (e : E) → Good structs names (f e)) where
    params_good : (es : List E) → list_all is_scalar_sort (map (sort_of (length structs)) (map f es)) ≡ true → AreParams names (map f es) (map (text_of structs) (map f es))
    params_good [] h = NoParams
    params_good (e ∷ es) h =
        let p = parts_of (is_scalar_sort (sort_of (length structs) (f e))) (list_all is_scalar_sort (map (sort_of (length structs)) (map f es))) h in
        let w = (good e).by (no_scalar_wrong (sort_of (length structs) (f e)) p.0) in
        Param (f e) w.pointer (map f es) (text_of structs (f e)) (map (text_of structs) (map f es)) w.written (scalar_of (length structs) (f e) p.0) (params_good es p.1)

    good_fun : (es : List E) → Good structs names (type.Fun (map f es))
    good_fun [] = record { by = λ h. absurd (h (sort_at (length structs) (type.Fun []) (Ty-F.Fun []) (type.outs-Fun []))) }
    good_fun (e ∷ es) = record {
      by = λ h.
          let ts : List Ty = map f (e ∷ es) in
          let is = sort_at (length structs) (type.Fun ts) (Ty-F.Fun ts) (type.outs-Fun ts) in
          let b : (is_result_sort (sort_of (length structs) (f e)) && list_all is_scalar_sort (map (sort_of (length structs)) (map f es))) ≡ true = formed_function _ (λ q. h (is ∙ q)) in
          let p = parts_of (is_result_sort (sort_of (length structs) (f e))) (list_all is_scalar_sort (map (sort_of (length structs)) (map f es))) b in
          let w = (good e).by (no_result_wrong (sort_of (length structs) (f e)) p.0) in
          has_text (type.Fun ts) (text (codes "fn(" ++ (signature_text (map (text_of structs) ts) ++ codes ")")) false) (text_at structs (type.Fun ts) (Ty-F.Fun ts) (type.outs-Fun ts))
          (OfFun (f e) w.pointer (map f es) (text_of structs (f e)) (map (text_of structs) (map f es)) w.written (result_of (length structs) (f e) p.0) (params_good es p.1));
    }

    layer_good : (y : Ty-F E) → Good structs names (roll-Ty (map-Ty E Ty f y))
    layer_good (Ty-F.Int k) = subst (Good structs names) (sym (type.rolls-Int k)) (good_int k)
    layer_good Ty-F.Lock = subst (Good structs names) (sym type.rolls-Lock) good_lock
    layer_good (Ty-F.Struct s) = subst (Good structs names) (sym (type.rolls-Struct s)) (good_struct s)
    layer_good (Ty-F.Ptr e) = subst (Good structs names) (sym (type.rolls-Ptr (f e))) (good_ptr (f e) (good e))
    layer_good Ty-F.VoidPtr = subst (Good structs names) (sym type.rolls-VoidPtr) good_void_ptr
    layer_good (Ty-F.Fun es) = subst (Good structs names) (sym (type.rolls-Fun (map f es))) (good_fun es)
    layer_good Ty-F.Void = subst (Good structs names) (sym type.rolls-Void) good_void

  all_good : (t : Ty) → Good structs names t
  all_good = ind-Ty (Good structs names) (λ x y is. subst (λ (z : Ty-F Ty). Good structs names (roll-Ty z)) is (layer_good (λ e. e.0) (λ e. e.1) y))

  pub formed_is_written : (t : Ty) → (sort_of (length structs) t ≡ Wrong → ⊥) → HasText structs names t
  formed_is_written t h = (all_good t).by h
