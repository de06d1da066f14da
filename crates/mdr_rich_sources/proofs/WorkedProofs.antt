-- The worked statements compute to what they say.
use Rattle.std.proofs.Common.{refl}
use Rattle.mdr_core.specs.declared.types.Ty as form
use denote.Hole.Carrier.{out}
use Rattle.mdr_core.specs.Conversions.{converted, promoted}
use Rattle.mdr_core.specs.Kinds.{is_in_range}
use Rattle.mdr_core.specs.Layout.{cells, field_leaves, field_start, leaves, leaves_below, repeated, struct_cells}
use Rattle.mdr_core.specs.Operators.{operated, fitted, fitted_or, quotient, negated, flipped}
use Rattle.mdr_meaning.specs.Expressions.{slot_of}
use Rattle.mdr_meaning.specs.Pointers.{size}
use Rattle.mdr_rich_sources.specs.Functions.{rich_means, rich_started}
use Rattle.mdr_rich_sources.specs.Worked.{CallsAreRight, CallsStandAlone, DoTurns, KeptValuesAreRead, LoopsAreRight, LoopsTurn, PartsAreTaken, PlacesAreTaken, SwitchTries, ValuesAreRight}

pub parts_are_taken : PartsAreTaken
unfolding rich_means rich_started slot_of operated fitted fitted_or quotient negated flipped converted promoted is_in_range size cells struct_cells leaves_below field_leaves field_start repeated leaves form.out-Ty denote.Hole.Carrier.out
parts_are_taken = (refl, refl, refl, refl, refl, refl, refl, refl, refl, refl, refl, refl, refl, refl, refl, refl, refl, refl, refl)

pub calls_stand_alone : CallsStandAlone
unfolding rich_means rich_started slot_of operated fitted fitted_or quotient converted promoted is_in_range size cells struct_cells leaves_below field_leaves field_start repeated leaves form.out-Ty denote.Hole.Carrier.out
calls_stand_alone = (refl, refl, refl)

pub places_are_taken : PlacesAreTaken
unfolding rich_means rich_started slot_of operated fitted fitted_or quotient converted promoted is_in_range size cells struct_cells leaves_below field_leaves field_start repeated leaves form.out-Ty denote.Hole.Carrier.out
places_are_taken = (refl, refl, refl, refl, refl)

pub loops_turn : LoopsTurn
unfolding rich_means rich_started slot_of operated fitted fitted_or quotient converted promoted is_in_range size cells struct_cells leaves_below field_leaves field_start repeated leaves form.out-Ty denote.Hole.Carrier.out
loops_turn = refl

pub values_are_right : ValuesAreRight
unfolding rich_means rich_started slot_of operated fitted fitted_or quotient converted promoted is_in_range size cells struct_cells leaves_below field_leaves field_start repeated leaves form.out-Ty denote.Hole.Carrier.out
values_are_right = (refl, refl, refl)

pub do_turns : DoTurns
unfolding rich_means rich_started slot_of operated fitted fitted_or quotient converted promoted is_in_range size cells struct_cells leaves_below field_leaves field_start repeated leaves form.out-Ty denote.Hole.Carrier.out
do_turns = (refl, refl, refl, refl, refl, refl)

pub switch_tries : SwitchTries
unfolding rich_means rich_started slot_of operated fitted fitted_or quotient converted promoted is_in_range size cells struct_cells leaves_below field_leaves field_start repeated leaves form.out-Ty denote.Hole.Carrier.out
switch_tries = (refl, refl, refl, refl, refl, refl, refl, refl, refl)

pub calls_are_right : CallsAreRight
unfolding rich_means rich_started slot_of operated fitted fitted_or quotient converted promoted is_in_range size cells struct_cells leaves_below field_leaves field_start repeated leaves form.out-Ty denote.Hole.Carrier.out
calls_are_right = refl

pub loops_are_right : LoopsAreRight
unfolding rich_means rich_started slot_of operated fitted fitted_or quotient converted promoted is_in_range size cells struct_cells leaves_below field_leaves field_start repeated leaves form.out-Ty denote.Hole.Carrier.out
loops_are_right = refl

pub kept_values_are_read : KeptValuesAreRead
unfolding rich_means rich_started slot_of operated fitted fitted_or quotient converted promoted is_in_range size cells struct_cells leaves_below field_leaves field_start repeated leaves form.out-Ty denote.Hole.Carrier.out
kept_values_are_read = refl
