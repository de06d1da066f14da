-- Types by their numbers, and sizes.
use Rattle.std.proofs.Common.{◌≡◌, ℕ, suc, ◌+◌, ◌<◌, ◌≤◌, Bool, true, false, List, ◌∷◌, drop, length, get_or, Option, Some, None, slice_get, refl, ap, sym, ◌∙◌, arith}
use Rattle.std.proofs.lemmas.List.{at_drop_more}
use Rattle.std.proofs.lemmas.Option.{slice_get_past}
use Rattle.mdr_core.specs.declared.types.Ty.{Ty}
use Rattle.mdr_core.specs.declared.program.Program.{Program}
use Rattle.mdr_core.specs.Layout.{cells, cells_at, cells_or, chosen}
use Rattle.mdr_meaning.specs.Bodies.{without_funcs}
use Rattle.mdr_meaning.specs.Numbers.{is_same_type, number_in}
use Rattle.mdr_meaning.specs.Pointers.{size}

-- ---- numbers of types, by a search

at_first : (t ty : Ty) (ts : List Ty) (b : Bool) → is_same_type t ty ≡ b → number_in (t ∷ ts) ty ≡ chosen b 0 (suc (number_in ts ty))
unfolding number_in
at_first t ty ts b q = ap (λ x. chosen x 0 (suc (number_in ts ty))) q

pub number_goes_on : (types : List Ty) (i whole : ℕ) (t ty : Ty) → i < length types → t ≡ get_or types i t → is_same_type t ty ≡ false
    → i + number_in (drop i types) ty ≡ whole → i + 1 + number_in (drop (i + 1) types) ty ≡ whole
number_goes_on types i whole t ty inside is q h =
    let more = at_drop_more (λ ts. number_in ts ty) types i t inside ∙ ap (λ x. number_in (x ∷ drop (i + 1) types) ty) (sym is) ∙ at_first t ty (drop (i + 1) types) false q in
    omega (arith, more, h)

pub number_found : (types : List Ty) (i whole : ℕ) (t ty : Ty) → i < length types → t ≡ get_or types i t → is_same_type t ty ≡ true
    → i + number_in (drop i types) ty ≡ whole → i ≡ whole
number_found types i whole t ty inside is q h =
    let more = at_drop_more (λ ts. number_in ts ty) types i t inside ∙ ap (λ x. number_in (x ∷ drop (i + 1) types) ty) (sym is) ∙ at_first t ty (drop (i + 1) types) true q in
    omega (arith, more, h)

-- ---- sizes

-- functions are no matter for sizes
pub size_is : (program : Program) (ty : ℕ) → length (cells_at program ty) ≡ size (without_funcs program) ty
unfolding size cells
size_is program ty = by_type (slice_get program.types ty) where
  by_type : (found : Option Ty) → length (cells_or program found) ≡ length (cells_or (without_funcs program) found)
  by_type None = refl
  by_type (Some t) = refl

pub no_size : (program : Program) (ty : ℕ) → length program.types ≤ ty → 0 ≡ size (without_funcs program) ty
unfolding size
no_size program ty past = sym (ap (λ found. length (cells_or (without_funcs program) found)) (slice_get_past program.types ty past))
