-- The worked drivers show what they are said to.
use Rattle.std.proofs.Common.{refl}
use Rattle.mdr_extents.specs.Around.{element_offsets, field_offsets, key_of, offsets, offsets_below, offsets_of, struct_offsets, struct_start}
use Rattle.mdr_extents.specs.Extent.{extent, first_of, is_touched, length_now, views_touched}
use Rattle.mdr_extents.specs.Reaching.{all_cells, extent_at, first_failing, graph, own_cells, root_cells, root_extent, visible}
use Rattle.mdr_paths.specs.Paths.{adds, counted, fails, first, is_in, is_led, leads, round, rounds, visible as reached, visible_set}
use Rattle.mdr_plain.proofs.Computing.{runs}
use Rattle.mdr_watched.specs.Views.{new_cells}
use Rattle.mdr_watched.specs.Watched.{upcall, watched_of}
use Rattle.mdr_watched.specs.Worked.{EndsTexts, FindsSentinels, HoldsInDowncall, HoldsInterrupt, KeepsAlias, LooksThrough, MeasuresArrays, PassesPointers, TouchesOwn}

unfoldable watches : Unit {0}
unfolding
    runs element_offsets field_offsets key_of offsets offsets_below offsets_of struct_offsets struct_start
    extent first_of is_touched length_now views_touched
    all_cells extent_at first_failing graph own_cells root_cells root_extent visible
    adds counted fails first is_in is_led leads round rounds reached visible_set
    new_cells upcall watched_of
watches = tt

pub measures_arrays : MeasuresArrays
unfolding watches
measures_arrays = record { four = refl; five = refl; more = refl; blind = refl }

pub finds_sentinels : FindsSentinels
unfolding watches
finds_sentinels = record { two = refl; three = refl }

pub ends_texts : EndsTexts
unfolding watches
ends_texts = record { empty = refl; endless = refl }

pub keeps_alias : KeepsAlias
unfolding watches
keeps_alias = refl

pub holds_interrupt : HoldsInterrupt
unfolding watches
holds_interrupt = refl

pub holds_in_downcall : HoldsInDowncall
unfolding watches
holds_in_downcall = refl

pub looks_through : LooksThrough
unfolding watches
looks_through = record { keep = refl; look = refl }

pub touches_own : TouchesOwn
unfolding watches
touches_own = refl

pub passes_pointers : PassesPointers
unfolding watches
passes_pointers = record { result = refl; long = refl; argument = refl; beyond = refl }
