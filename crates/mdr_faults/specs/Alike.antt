-- believed
-- Which types are one (C99 6.2.7: what the profile has are equal types alone).
use Rattle.std.specs.Prelude.{◌==◌, ◌&&◌, Bool, true, false, List, [], ◌∷◌, map}
use Rattle.mdr_core.specs.declared.types.Ty.{Ty, out-Ty}
use Rattle.mdr_core.specs.declared.types.Ty.TheOpen.{Ty-F}
use Rattle.mdr_core.specs.declared.types.Ty.TheFolds.{fold-Ty}
use Rattle.mdr_core.specs.Kinds.{is_same_kind}

abbrev pub all_alike : List (Ty → Bool) → List Ty → Bool
all_alike [] [] = true
all_alike [] (u ∷ us) = false
all_alike (t ∷ ts) [] = false
all_alike (t ∷ ts) (u ∷ us) = t u && all_alike ts us

abbrev pub alike_layer : Ty-F (Ty → Bool) → Ty-F Ty → Bool
alike_layer (Ty-F.Int k) (Ty-F.Int l) = is_same_kind k l
alike_layer Ty-F.Lock Ty-F.Lock = true
alike_layer (Ty-F.Struct s) (Ty-F.Struct t) = s == t
alike_layer (Ty-F.Ptr t) (Ty-F.Ptr u) = t u
alike_layer Ty-F.VoidPtr Ty-F.VoidPtr = true
alike_layer (Ty-F.Fun ts) (Ty-F.Fun us) = all_alike ts us
alike_layer Ty-F.Void Ty-F.Void = true
alike_layer t u = false

abbrev pub is_alike : Ty → Ty → Bool
is_alike = fold-Ty (Ty → Bool) (λ t u. alike_layer t (out-Ty u))

abbrev pub are_alike : List Ty → List Ty → Bool
are_alike ts us = all_alike (map is_alike ts) us
