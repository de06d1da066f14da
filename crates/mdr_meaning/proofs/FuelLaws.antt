-- Fuel is no matter, by the congruence of equality up to ticks; and equal bodies give equal trees.
use Rattle.std.proofs.Common.{◌≡◌, ℕ, Bool, true, false, None, refl, ap, le_refl}
use mathlib.Core.Path.{fun_ext}
use Rattle.mdr_core.specs.declared.program.Program.{Program}
use Rattle.mdr_core.specs.Layout.{chosen}
use Rattle.mdr_meaning.specs.Bodies.{body_of, known_of, started, user_side}
use Rattle.mdr_meaning.specs.Cut.{SameCut}
use Rattle.mdr_meaning.specs.Fuel.{FuelIsNoMatter, StartedFuelIsNoMatter, IsUserPart, UserTreesAreEqual}
use Rattle.mdr_meaning.specs.Sides.{Side}
use Rattle.mdr_meaning.proofs.AlikeLaws.{means_alike, started_alike}
use Rattle.mdr_meaning.proofs.CutLaws.{cut_alike}

pub fuel_is_no_matter : FuelIsNoMatter
fuel_is_no_matter side n m r less less' here cs l k =
    (((means_alike SameCut cut_alike side n m r less less').by here cs).by r (le_refl r) l k k (record { by = λ q fewer flow l'. record { is = refl } })).is

pub started_fuel_is_no_matter : StartedFuelIsNoMatter
started_fuel_is_no_matter side n m r func less less' args depth below =
    (started_alike SameCut cut_alike side n m r func less less' args depth below below (λ q fewer. record { is = refl })).is

known_equal : (program part : Program) → part.types ≡ program.types → part.structs ≡ program.structs → part.globals ≡ program.globals → known_of part ≡ known_of program
known_equal program part p q r = λ i. known_of (record { types = p i; structs = q i; globals = r i; funcs = program.funcs })

own_equal : (is_kernel : ℕ → Bool) (program part : Program) (f : ℕ) (b : Bool) → (b ≡ false → body_of part f ≡ body_of program f) → chosen b None (body_of part f) ≡ chosen b None (body_of program f)
own_equal is_kernel program part f true h = refl
own_equal is_kernel program part f false h = h refl

side_equal : (is_kernel : ℕ → Bool) (program part : Program) → IsUserPart is_kernel program part → user_side is_kernel part ≡ user_side is_kernel program
unfolding user_side
side_equal is_kernel program part h =
    let known : known_of part ≡ known_of program = known_equal program part h.types h.structs h.globals in
    let own : (λ f. chosen (is_kernel f) None (body_of part f)) ≡ (λ f. chosen (is_kernel f) None (body_of program f)) =
    fun_ext (λ f. own_equal is_kernel program part f (is_kernel f) (h.bodies f)) in
    λ i. record { known = known i; own = own i; asks = true }

pub user_trees_are_equal : UserTreesAreEqual
user_trees_are_equal is_kernel program part h n func args depth below =
    ap (λ (side : Side). started side n func args depth below) (side_equal is_kernel program part h)
