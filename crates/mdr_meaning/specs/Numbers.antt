-- believed
-- Types by their numbers: trees name a type by its number in the type table.
use Rattle.std.specs.Prelude.{◌≡◌, ℕ, suc, Bool, true, false, ◌&&◌, ◌==◌, List, [], ◌∷◌, Some, slice_get}
use Rattle.mdr_core.specs.declared.types.Ty.{Ty, out-Ty}
use Rattle.mdr_core.specs.declared.types.Ty.TheOpen.{Ty-F}
use Rattle.mdr_core.specs.declared.types.Ty.TheFolds.{fold-Ty}
use Rattle.mdr_core.specs.declared.program.Program.{Program}
use Rattle.mdr_core.specs.Kinds.{is_same_kind}
use Rattle.mdr_core.specs.Types.{HasNumber}
use Rattle.mdr_core.specs.Layout.{chosen}
use Rattle.mdr_meaning.specs.Values.{saturated_u32}

-- ---- whether two types are one (C99 6.2.7: what the profile has are equal types alone)

abbrev pub all_same : List (Ty → Bool) → List Ty → Bool
all_same [] [] = true
all_same [] (u ∷ us) = false
all_same (t ∷ ts) [] = false
all_same (t ∷ ts) (u ∷ us) = t u && all_same ts us

abbrev pub same_layers : Ty-F (Ty → Bool) → Ty-F Ty → Bool
same_layers (Ty-F.Int k) (Ty-F.Int l) = is_same_kind k l
same_layers Ty-F.Lock Ty-F.Lock = true
same_layers (Ty-F.Struct s) (Ty-F.Struct t) = s == t
same_layers (Ty-F.Ptr t) (Ty-F.Ptr u) = t u
same_layers Ty-F.VoidPtr Ty-F.VoidPtr = true
same_layers (Ty-F.Fun ts) (Ty-F.Fun us) = all_same ts us
same_layers Ty-F.Void Ty-F.Void = true
same_layers _ _ = false

unfoldable pub is_same_type : Ty → Ty → Bool
is_same_type = fold-Ty (Ty → Bool) (λ t u. same_layers t (out-Ty u))

-- ---- numbers

-- the first place of a type in a list; behind its end where it isn't there
unfoldable pub number_in : List Ty → Ty → ℕ
number_in [] ty = 0
number_in (t ∷ ts) ty = chosen (is_same_type t ty) 0 (suc (number_in ts ty))

-- a program with the numbers of types
pub record Numbered : Type 0 where
  pub program : Program
  pub number : Ty → ℕ

abbrev pub numbered : Program → Numbered
numbered program = record { program = program; number = number_in program.types }

-- the number by which pointers and objects name a type: one of 32 bits
abbrev pub type_number : Numbered → Ty → ℕ
type_number known ty = saturated_u32 (known.number ty)

-- each type of the table has its number there, of 32 bits, and no other type has that number
pub record IsNumbered (known : Numbered) : Type 0 where
  pub names : (ty : Ty) → HasNumber known.program ty → slice_get known.program.types (known.number ty) ≡ Some ty
  pub short : (ty : Ty) → HasNumber known.program ty → type_number known ty ≡ known.number ty
  pub back : (ty u : Ty) → slice_get known.program.types (known.number ty) ≡ Some u → u ≡ ty

abbrev pub ProgramsAreNumbered : Type 0
ProgramsAreNumbered = (program : Program) → IsNumbered (numbered program)
