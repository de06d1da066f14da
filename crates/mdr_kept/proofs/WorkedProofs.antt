-- The worked drivers show what they are said to.
use Rattle.std.proofs.Common.{◌≡◌, Some, refl}
use Rattle.mdr_core.specs.declared.stop.StopKind.TheVariants as stop
use Rattle.mdr_core.specs.declared.types.Ty.{Ty, out-Ty}
use Rattle.mdr_core.specs.declared.types.Ty.TheOpen.{Ty-F}
use Rattle.mdr_core.specs.declared.types.Ty.TheVariants as ty
use Rattle.mdr_core.specs.declared.types.Ty.TheVariants.{outs-Ptr, outs-Struct}
use Rattle.mdr_extents.specs.Around.{element_offsets, field_offsets, key_of, offsets, offsets_below, offsets_of, struct_offsets, struct_start}
use Rattle.mdr_extents.specs.Extent.{extent, first_of, is_touched, length_now, views_touched}
use Rattle.mdr_extents.specs.Reaching.{all_cells, extent_at, first_failing, graph, own_cells, root_cells, root_extent, visible}
use Rattle.mdr_meaning.specs.Worked.{at_stmt, node_pointer}
use Rattle.mdr_model.specs.declared.outcome.End.TheVariants as ends
use Rattle.mdr_paths.specs.Paths.{adds, counted, fails, first, is_in, is_led, leads, round, rounds, visible as reached, visible_set}
use Rattle.mdr_plain.proofs.Computing.{runs}
use Rattle.mdr_plain.specs.Atomic.{is_any_spinning, is_atomic}
use Rattle.mdr_watched.specs.Kept.{followed_of}
use Rattle.mdr_watched.specs.Views.{new_cells}
use Rattle.mdr_watched.specs.Watched.{calls_back, upcall}
use Rattle.mdr_kept.specs.Strict.{goes_up, run_alive, strict_of}
use Rattle.mdr_kept.specs.Worked.{AreStrict, DeadResultsAreAlike, TellsCallsBack, TellsLeftObjects, TellsLocks, leaving, plainly, used}

unfoldable follows : Unit {0}
unfolding
    runs element_offsets field_offsets key_of offsets offsets_below offsets_of struct_offsets struct_start
    extent first_of is_touched length_now views_touched
    all_cells extent_at first_failing graph own_cells root_cells root_extent visible
    adds counted fails first is_in is_led leads round rounds reached visible_set
    new_cells is_atomic is_any_spinning calls_back upcall followed_of goes_up run_alive strict_of
follows = tt

pub are_strict : AreStrict
unfolding follows
are_strict = record { alias = refl; array = refl; object = refl; back = refl }

pub tells_locks : TellsLocks
unfolding follows
tells_locks = record { strict = refl; kept = refl; followed = refl; plain = refl }

pub tells_calls_back : TellsCallsBack
unfolding follows
tells_calls_back = record { strict = refl; kept = refl; plain = refl }

pub dead_results_are_alike : DeadResultsAreAlike
unfolding follows
dead_results_are_alike = record { strict = refl; kept = refl; plain = refl; kept_followed = refl; plain_followed = refl }

-- the plain run, where the type of `q` points to a struct
stops_at_cast : (t u : Ty) → out-Ty t ≡ Ty-F.Ptr u → out-Ty u ≡ Ty-F.Struct 0 → (plainly (leaving t) used).end ≡ ends.Stop stop.BadCast (Some (at_stmt 1 3))
unfolding follows
stops_at_cast t u e f = rw (e, f) refl

pub tells_left_objects : TellsLeftObjects
unfolding follows
tells_left_objects = record { kept = refl; plain = stops_at_cast node_pointer (ty.Struct 0) (outs-Ptr (ty.Struct 0)) (outs-Struct 0); strict = refl }
