use Rattle.std.proofs.Common.{◌≤◌, length, subst, sym}
use Rattle.mdr_faults.specs.Alike.{is_alike}
use Rattle.mdr_script.proofs.Numbers.{small_places}
use Rattle.mdr_script.proofs.values.address_by.Goals as goal

pub view_of-requires : goal.view_of-requires
view_of-requires c =
    small_places (λ t. is_alike t c.in-Some.global.now.ty) c.as_slice-then-takes.result.now c.type_number.result c.type_number.ensures (subst (λ ts. length ts ≤ 16777216) (sym c.as_slice-then-takes.ensures) c.requires.types)
