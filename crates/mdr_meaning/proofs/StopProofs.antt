-- Each stop comes at its place.
use Rattle.std.proofs.Common.{refl}
use Rattle.std.specs.Fmt.{digits}
use Rattle.mdr_core.specs.declared.types.Ty as form
use denote.Hole.Carrier.{out}
use Rattle.mdr_core.specs.Conversions.{converted}
use Rattle.mdr_core.specs.Kinds.{is_in_range}
use Rattle.mdr_core.specs.Layout.{cells, field_leaves, field_start, leaves, leaves_below, repeated, struct_cells}
use Rattle.mdr_core.specs.Operators.{operated, fitted, fitted_or, quotient}
use Rattle.mdr_meaning.specs.Bodies.{means, started}
use Rattle.mdr_meaning.specs.Cut.{cut}
use Rattle.mdr_meaning.specs.Expressions.{slot_of}
use Rattle.mdr_meaning.specs.Pointers.{size}
use Rattle.mdr_meaning.specs.Printed.{printed}
use Rattle.mdr_meaning.specs.WorkedStops.{StopsHavePlaces, PartsHaveAnOrder, ServicesAreAsked}

pub stops_have_places : StopsHavePlaces
unfolding means started cut slot_of operated fitted fitted_or quotient converted is_in_range size cells struct_cells leaves_below field_leaves field_start repeated leaves printed digits form.out-Ty denote.Hole.Carrier.out
stops_have_places = record { null_loaded = refl; null_moved = refl; null_member = refl; null_called = refl; moved_below = refl; moved_behind = refl; member_behind = refl; loaded_behind = refl; address_behind = refl; divided = refl; shifted = refl; compared = refl; subtracted = refl; cast = refl; null_cast = refl; no_value = refl; handed_back = refl; ticks = refl }

pub parts_have_an_order : PartsHaveAnOrder
unfolding means started cut slot_of operated fitted fitted_or quotient converted is_in_range size cells struct_cells leaves_below field_leaves field_start repeated leaves printed digits form.out-Ty denote.Hole.Carrier.out
parts_have_an_order = record { right_first = refl; value_first = refl; bounds_first = refl; null_first = refl; index_first = refl; callee_first = refl; arguments_first = refl; null_before_depth = refl; arguments_before_depth = refl; depth_last = refl }

pub services_are_asked : ServicesAreAsked
unfolding means started cut slot_of operated fitted fitted_or quotient converted is_in_range size cells struct_cells leaves_below field_leaves field_start repeated leaves printed digits form.out-Ty denote.Hole.Carrier.out
services_are_asked = record { text = refl; low_byte = refl; called_back = refl; entered = refl; crossed = refl; null_called = refl }
