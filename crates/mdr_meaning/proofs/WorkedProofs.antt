-- The worked functions compute to what they say.
use Rattle.std.proofs.Common.{refl}
use Rattle.mdr_core.specs.declared.types.Ty as form
use denote.Hole.Carrier.{out}
use Rattle.mdr_core.specs.Conversions.{converted}
use Rattle.mdr_core.specs.Kinds.{is_in_range}
use Rattle.mdr_core.specs.Layout.{cells, field_leaves, field_start, leaves, leaves_below, repeated, struct_cells}
use Rattle.mdr_core.specs.Operators.{operated, fitted, fitted_or, quotient}
use Rattle.mdr_meaning.specs.Bodies.{means, started}
use Rattle.mdr_meaning.specs.Expressions.{slot_of}
use Rattle.mdr_meaning.specs.Pointers.{size}
use Rattle.mdr_meaning.specs.Worked.{CountsDown, Overflows, Divides, Sums, Renews, FillsObject, AsksForObject, BreaksOut, ReturnsOut, Dangles, GivesOwn, GivesOuter, GivesOthers, FillsText, Allocates, Calls, Narrows, Deepens, MakesRing, WalksRing, TakesNode, LosesNode, KeepsToken, AddsFour, AddsFive}

pub counts_down : CountsDown
unfolding means started slot_of operated fitted fitted_or quotient converted is_in_range size cells struct_cells leaves_below field_leaves field_start repeated leaves form.out-Ty denote.Hole.Carrier.out
counts_down = refl

pub overflows : Overflows
unfolding means started slot_of operated fitted fitted_or quotient converted is_in_range size cells struct_cells leaves_below field_leaves field_start repeated leaves form.out-Ty denote.Hole.Carrier.out
overflows = refl

pub divides : Divides
unfolding means started slot_of operated fitted fitted_or quotient converted is_in_range size cells struct_cells leaves_below field_leaves field_start repeated leaves form.out-Ty denote.Hole.Carrier.out
divides = refl

pub sums_up : Sums
unfolding means started slot_of operated fitted fitted_or quotient converted is_in_range size cells struct_cells leaves_below field_leaves field_start repeated leaves form.out-Ty denote.Hole.Carrier.out
sums_up = refl

pub renews : Renews
unfolding means started slot_of operated fitted fitted_or quotient converted is_in_range size cells struct_cells leaves_below field_leaves field_start repeated leaves form.out-Ty denote.Hole.Carrier.out
renews = refl

pub fills_object : FillsObject
unfolding means started slot_of operated fitted fitted_or quotient converted is_in_range size cells struct_cells leaves_below field_leaves field_start repeated leaves form.out-Ty denote.Hole.Carrier.out
fills_object = refl

pub asks_for_object : AsksForObject
unfolding means started slot_of operated fitted fitted_or quotient converted is_in_range size cells struct_cells leaves_below field_leaves field_start repeated leaves form.out-Ty denote.Hole.Carrier.out
asks_for_object = refl

pub breaks_out : BreaksOut
unfolding means started slot_of operated fitted fitted_or quotient converted is_in_range size cells struct_cells leaves_below field_leaves field_start repeated leaves form.out-Ty denote.Hole.Carrier.out
breaks_out = refl

pub returns_out : ReturnsOut
unfolding means started slot_of operated fitted fitted_or quotient converted is_in_range size cells struct_cells leaves_below field_leaves field_start repeated leaves form.out-Ty denote.Hole.Carrier.out
returns_out = refl

pub dangles : Dangles
unfolding means started slot_of operated fitted fitted_or quotient converted is_in_range size cells struct_cells leaves_below field_leaves field_start repeated leaves form.out-Ty denote.Hole.Carrier.out
dangles = refl

pub gives_own : GivesOwn
unfolding means started slot_of operated fitted fitted_or quotient converted is_in_range size cells struct_cells leaves_below field_leaves field_start repeated leaves form.out-Ty denote.Hole.Carrier.out
gives_own = refl

pub gives_outer : GivesOuter
unfolding means started slot_of operated fitted fitted_or quotient converted is_in_range size cells struct_cells leaves_below field_leaves field_start repeated leaves form.out-Ty denote.Hole.Carrier.out
gives_outer = refl

pub gives_others : GivesOthers
unfolding means started slot_of operated fitted fitted_or quotient converted is_in_range size cells struct_cells leaves_below field_leaves field_start repeated leaves form.out-Ty denote.Hole.Carrier.out
gives_others = refl

pub calls_out : Calls
unfolding means started slot_of operated fitted fitted_or quotient converted is_in_range size cells struct_cells leaves_below field_leaves field_start repeated leaves form.out-Ty denote.Hole.Carrier.out
calls_out = refl

pub narrows : Narrows
unfolding means started slot_of operated fitted fitted_or quotient converted is_in_range size cells struct_cells leaves_below field_leaves field_start repeated leaves form.out-Ty denote.Hole.Carrier.out
narrows = refl

pub deepens : Deepens
unfolding means started slot_of operated fitted fitted_or quotient converted is_in_range size cells struct_cells leaves_below field_leaves field_start repeated leaves form.out-Ty denote.Hole.Carrier.out
deepens = refl

pub walks_ring : WalksRing
unfolding means started slot_of operated fitted fitted_or quotient converted is_in_range size cells struct_cells leaves_below field_leaves field_start repeated leaves form.out-Ty denote.Hole.Carrier.out
walks_ring = refl

pub takes_node : TakesNode
unfolding means started slot_of operated fitted fitted_or quotient converted is_in_range size cells struct_cells leaves_below field_leaves field_start repeated leaves form.out-Ty denote.Hole.Carrier.out
takes_node = refl

pub adds_four : AddsFour
unfolding means started slot_of operated fitted fitted_or quotient converted is_in_range size cells struct_cells leaves_below field_leaves field_start repeated leaves form.out-Ty denote.Hole.Carrier.out
adds_four = refl

pub adds_five : AddsFive
unfolding means started slot_of operated fitted fitted_or quotient converted is_in_range size cells struct_cells leaves_below field_leaves field_start repeated leaves form.out-Ty denote.Hole.Carrier.out
adds_five = refl

pub fills_text : FillsText
unfolding means started slot_of operated fitted fitted_or quotient converted is_in_range size cells struct_cells leaves_below field_leaves field_start repeated leaves form.out-Ty denote.Hole.Carrier.out
fills_text = refl

pub allocates : Allocates
unfolding means started slot_of operated fitted fitted_or quotient converted is_in_range size cells struct_cells leaves_below field_leaves field_start repeated leaves form.out-Ty denote.Hole.Carrier.out
allocates = refl

pub makes_ring : MakesRing
unfolding means started slot_of operated fitted fitted_or quotient converted is_in_range size cells struct_cells leaves_below field_leaves field_start repeated leaves form.out-Ty denote.Hole.Carrier.out
makes_ring = refl

pub loses_node : LosesNode
unfolding means started slot_of operated fitted fitted_or quotient converted is_in_range size cells struct_cells leaves_below field_leaves field_start repeated leaves form.out-Ty denote.Hole.Carrier.out
loses_node = refl

pub keeps_token : KeepsToken
unfolding means started slot_of operated fitted fitted_or quotient converted is_in_range size cells struct_cells leaves_below field_leaves field_start repeated leaves form.out-Ty denote.Hole.Carrier.out
keeps_token = refl
