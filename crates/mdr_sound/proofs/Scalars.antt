-- What lies in a slot is a scalar.
use Rattle.std.proofs.Common.{◌≡◌, inl, inr, ℕ, Bool, true, false, List, [], ◌∷◌, length, map, IsTrue, refl, ◌∙◌, subst}
use Rattle.mdr_core.specs.declared.program.Program.{Program}
use Rattle.mdr_core.specs.declared.types.Ty.{Ty, out-Ty}
use Rattle.mdr_core.specs.declared.types.Ty.TheFolds.{map-Ty}
use Rattle.mdr_core.specs.declared.types.Ty.TheOpen.{Ty-F}
use Rattle.mdr_core.specs.Sound.{IsObjectSort}
use Rattle.mdr_core.specs.Types.{Sort, Wrong, Empty, Locks, Aggregate, Scalar, sort_of, sort_layer, pointer_sort, function_sort, is_scalar, is_scalar_by}
use Rattle.mdr_core.specs.Layout.{chosen}
use Rattle.mdr_core.proofs.Laid.{sort_is}
use Rattle.mdr_body.specs.Locals.{holds_lock, lock_by}
use Rattle.mdr_headings.specs.Structs.{is_struct, is_struct_by}
use Rattle.mdr_sound.specs.Knowing.{IsFormed}

-- no struct, no lock, no `void`
scalar_by : (n : ℕ) (locks : List Bool) (l : Ty-F Ty) → IsObjectSort (sort_layer n (map-Ty Ty Sort (sort_of n) l)) → is_struct_by l ≡ false → lock_by locks l ≡ false → IsTrue (is_scalar_by l)
scalar_by n locks (Ty-F.Int k) f s h = refl
scalar_by n locks Ty-F.Lock f s h = absurd cc
scalar_by n locks (Ty-F.Struct m) f s h = absurd cc
scalar_by n locks (Ty-F.Ptr t) f s h = refl
scalar_by n locks Ty-F.VoidPtr f s h = refl
scalar_by n locks (Ty-F.Fun ts) f s h = refl
scalar_by n locks Ty-F.Void (inl e) s h = absurd cc
scalar_by n locks Ty-F.Void (inr (inl e)) s h = absurd cc
scalar_by n locks Ty-F.Void (inr (inr e)) s h = absurd cc

pub scalar_in_slot : (program : Program) (locks : List Bool) (t : Ty) → IsFormed program t → is_struct t ≡ false → holds_lock locks t ≡ false → IsTrue (is_scalar t)
scalar_in_slot program locks t f s h = scalar_by (length program.structs) locks (out-Ty t) (subst IsObjectSort (sort_is (length program.structs) t) f) s h

-- ---- a scalar that is formed has that sort

pointed : (s : Sort) → IsObjectSort (pointer_sort s) → pointer_sort s ≡ Scalar
pointed Wrong (inl e) = absurd cc
pointed Wrong (inr (inl e)) = absurd cc
pointed Wrong (inr (inr e)) = absurd cc
pointed Empty (inl e) = absurd cc
pointed Empty (inr (inl e)) = absurd cc
pointed Empty (inr (inr e)) = absurd cc
pointed Locks h = refl
pointed Aggregate h = refl
pointed Scalar h = refl

one_of_two : (b : Bool) → IsObjectSort (chosen b Scalar Wrong) → chosen b Scalar Wrong ≡ Scalar
one_of_two true h = refl
one_of_two false (inl e) = absurd cc
one_of_two false (inr (inl e)) = absurd cc
one_of_two false (inr (inr e)) = absurd cc

called : (ss : List Sort) → IsObjectSort (function_sort ss) → function_sort ss ≡ Scalar
called [] (inl e) = absurd cc
called [] (inr (inl e)) = absurd cc
called [] (inr (inr e)) = absurd cc
called (r ∷ ps) h = one_of_two _ h

sort_by : (n : ℕ) (l : Ty-F Ty) → IsObjectSort (sort_layer n (map-Ty Ty Sort (sort_of n) l)) → IsTrue (is_scalar_by l) → sort_layer n (map-Ty Ty Sort (sort_of n) l) ≡ Scalar
sort_by n (Ty-F.Int k) f h = refl
sort_by n Ty-F.Lock f h = absurd cc
sort_by n (Ty-F.Struct m) f h = absurd cc
sort_by n (Ty-F.Ptr t) f h = pointed _ f
sort_by n Ty-F.VoidPtr f h = refl
sort_by n (Ty-F.Fun ts) f h = called (map (sort_of n) ts) f
sort_by n Ty-F.Void f h = absurd cc

pub formed_scalar : (program : Program) (t : Ty) → IsFormed program t → IsTrue (is_scalar t) → sort_of (length program.structs) t ≡ Scalar
formed_scalar program t f h = sort_is (length program.structs) t ∙ sort_by (length program.structs) (out-Ty t) (subst IsObjectSort (sort_is (length program.structs) t) f) h
