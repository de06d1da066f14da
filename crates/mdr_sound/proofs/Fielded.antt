-- The types of cells, whatever stands around them.
use Rattle.std.proofs.Common.{◌≡◌, ℕ, ◌<◌, List, Some, refl, sym, ap}
use Rattle.mdr_core.specs.declared.program.Field.{Field}
use Rattle.mdr_core.specs.declared.program.StructDef.{StructDef}
use Rattle.mdr_core.specs.declared.types.Ty.{Ty, out-Ty}
use Rattle.mdr_core.specs.declared.types.Ty.TheOpen.{Ty-F}
use Rattle.mdr_core.specs.Layout.{Leaf, Home, Alone, Within, leaves, leaves_by, leaves_below, repeated, struct_by, struct_cells, struct_of}
use Rattle.mdr_core.proofs.Lying.{is_below}
use Rattle.mdr_sound.proofs.Filled.{types_of, types_repeated}

-- two tables of structs' cells agree on the struct that a type is
alike_by : (known others : ℕ → List Leaf) (g h : Home) (ty : Ty) (t : Ty-F Ty) → ((s : ℕ) → struct_by t ≡ Some s → known s ≡ others s) → types_of (leaves_by known g ty t) ≡ types_of (leaves_by others h ty t)
alike_by known others g h ty (Ty-F.Int k) same = refl
alike_by known others g h ty Ty-F.Lock same = refl
alike_by known others g h ty (Ty-F.Struct s) same = ap types_of (same s refl)
alike_by known others g h ty (Ty-F.Ptr t) same = refl
alike_by known others g h ty Ty-F.VoidPtr same = refl
alike_by known others g h ty (Ty-F.Fun ts) same = refl
alike_by known others g h ty Ty-F.Void same = refl

pub types_alike : (known others : ℕ → List Leaf) (g h : Home) (ty : Ty) → ((s : ℕ) → struct_of ty ≡ Some s → known s ≡ others s) → types_of (leaves known g ty) ≡ types_of (leaves others h ty)
unfolding leaves
types_alike known others g h ty same = alike_by known others g h ty (out-Ty ty) same

-- the cells of a field of struct s are those of an object of its type
pub types_of_field : (structs : List StructDef) (s f : ℕ) (x : Field) → ((t : ℕ) → struct_of x.ty ≡ Some t → t < s) → types_of (repeated x.count (leaves (struct_cells structs) Alone x.ty)) ≡ types_of (repeated x.count (leaves (leaves_below structs s) (Within s f) x.ty))
types_of_field structs s f x lower =
    types_repeated x.count (leaves (struct_cells structs) Alone x.ty) (leaves (leaves_below structs s) (Within s f) x.ty)
    (types_alike (struct_cells structs) (leaves_below structs s) Alone (Within s f) x.ty (λ t e. sym (is_below structs s t (lower t e))))
