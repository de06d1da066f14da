-- The worked drivers pass the messages that they are said to pass.
use Rattle.std.proofs.Common.{refl}
use Rattle.mdr_extents.specs.Around.{element_offsets, field_offsets, key_of, offsets, offsets_below, offsets_of, struct_offsets, struct_start}
use Rattle.mdr_extents.specs.Extent.{extent, first_of, is_touched, length_now, views_touched}
use Rattle.mdr_extents.specs.Reaching.{all_cells, extent_at, first_failing, graph, own_cells, root_cells, root_extent, visible}
use Rattle.mdr_meaning.specs.Walk.{walk}
use Rattle.mdr_model.specs.Agreement.{has}
use Rattle.mdr_model.specs.Copies.{agreed_after, begun_copy, changed_cells, changed_values, changes, died, held, inserted, left_of, news_of, numbered, put_all, put_runs, tells, told_news, values_of_runs, with_news, without}
use Rattle.mdr_model.specs.ReplyFaults.{user_stop}
use Rattle.mdr_model.specs.Sets.{cells_of_runs, is_in, rises_after, runs_of_cells}
use Rattle.mdr_model.specs.User.{allowance, lives_fit}
use Rattle.mdr_model.specs.Values.{is_same, is_same_view}
use Rattle.mdr_paths.specs.Paths.{adds, counted, fails, first, is_in as is_among, is_led, leads, round, rounds, visible as found, visible_set}
use Rattle.mdr_plain.proofs.Computing.{runs}
use Rattle.mdr_plain.specs.Running.{goes}
use Rattle.mdr_split.specs.Fits.{fits, fits_result, is_in_below, is_in_fields, is_in_structs, is_named, is_view_of}
use Rattle.mdr_split.specs.Kernel.{answers, applied, calls, comes_back, first_kernel, next, run_from_pending, split_commands, split_run, taken}
use Rattle.mdr_split.specs.Legal.{args_fault, fault_of, fits_cell, fits_service, is_ask_place, is_awaited, is_user_place, run_fault, runs_fault, service_fault}
use Rattle.mdr_split.specs.Services.{entered_after, is_new, leaving, results_fit, shapes_fit}
use Rattle.mdr_split.specs.User.{answer_fits, back_fits, call_fits, cells_of_news, deliver, entered_behind, first_user, objects_fit, opened, replied, runs_fit, user_after, user_reply, view_fits}
use Rattle.mdr_split.specs.Worked.{BumpSends}
use Rattle.mdr_watched.specs.Views.{new_cells}
use Rattle.mdr_watched.specs.Watched.{upcall, watched_of}

unfoldable pub passes : Unit {0}
unfolding
    runs goes element_offsets field_offsets key_of offsets offsets_below offsets_of struct_offsets struct_start
    extent first_of is_touched length_now views_touched
    all_cells extent_at first_failing graph own_cells root_cells root_extent visible
    adds counted fails first is_among is_led leads round rounds found visible_set
    new_cells upcall watched_of walk
    has agreed_after begun_copy changed_cells changed_values changes died held inserted left_of news_of numbered put_all put_runs tells told_news values_of_runs with_news without
    user_stop cells_of_runs is_in rises_after runs_of_cells allowance lives_fit is_same is_same_view
    fits fits_result is_in_below is_in_fields is_in_structs is_named is_view_of
    answers applied calls comes_back first_kernel next run_from_pending split_commands split_run taken
    args_fault fault_of fits_cell fits_service is_ask_place is_awaited is_user_place run_fault runs_fault service_fault
    entered_after is_new leaving results_fit shapes_fit
    answer_fits back_fits call_fits cells_of_news deliver entered_behind first_user objects_fit opened replied runs_fit user_after user_reply view_fits
passes = tt

pub bump_sends : BumpSends
unfolding passes
bump_sends = record { sent = refl; honest = (refl, (refl, (refl, (refl, tt)))); kernel = _; over = refl; outcome = refl; exchanges = refl }
