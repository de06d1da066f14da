-- The messages that were worked out by hand compute to what is said of them.
use Rattle.std.proofs.Common.{refl}
use Rattle.mdr_core.specs.Kinds.{is_in_range}
use denote.Hole.Carrier.{out}
use Rattle.mdr_core.specs.declared.types.Ty as form
use Rattle.mdr_core.specs.Layout.{repeated, cells, leaves}
use Rattle.mdr_model.specs.Values.{is_same_view, is_same}
use Rattle.mdr_model.specs.Memory.{leaves_of, born_at, is_live, cell_at, put, killed}
use Rattle.mdr_model.specs.Sets.{is_in, cells_from, cells_of_runs, runs_of_cells}
use Rattle.mdr_model.specs.Copies.{numbered, values_of_runs, put_all, put_runs, held, changed_cells, changes, died, without, inserted, with_news, news_of, left_of, changed_values, told_news, begun_copy, tells, agreed_after}
use Rattle.mdr_model.specs.User.{lives_fit}
use Rattle.mdr_model.specs.WorkedCopies.{DeathsRise, ZerosArentTold, CycleIsTold}

pub deaths_rise : DeathsRise
unfolding is_in_range is_same_view is_same born_at is_live cell_at put killed is_in cells_from cells_of_runs runs_of_cells numbered values_of_runs put_all put_runs held changed_cells changes died without inserted with_news news_of left_of changed_values told_news begun_copy tells agreed_after lives_fit leaves_of repeated cells leaves form.out-Ty denote.Hole.Carrier.out
deaths_rise = record {
  second = refl;
  second_taken = record { fits = refl; agreed = refl };
  first = refl;
  first_taken = record { fits = refl; agreed = refl };
  deaths = refl;
  deaths_taken = record { fits = refl; agreed = refl };
}

pub zeros_arent_told : ZerosArentTold
unfolding is_in_range is_same_view is_same born_at is_live cell_at put killed is_in cells_from cells_of_runs runs_of_cells numbered values_of_runs put_all put_runs held changed_cells changes died without inserted with_news news_of left_of changed_values told_news begun_copy tells agreed_after lives_fit leaves_of repeated cells leaves form.out-Ty denote.Hole.Carrier.out
zeros_arent_told = record { told = refl; copy = refl }

pub cycle_is_told : CycleIsTold
unfolding is_in_range is_same_view is_same born_at is_live cell_at put killed is_in cells_from cells_of_runs runs_of_cells numbered values_of_runs put_all put_runs held changed_cells changes died without inserted with_news news_of left_of changed_values told_news begun_copy tells agreed_after lives_fit leaves_of repeated cells leaves form.out-Ty denote.Hole.Carrier.out
cycle_is_told = record {
  born = refl;
  born_taken = record { fits = refl; agreed = refl };
  death = refl;
  death_told = refl;
  death_taken = record { fits = refl; agreed = refl };
  last_told = refl;
  last_taken = record { fits = refl; agreed = refl };
}
