-- Nothing around user code gives a tick back.
use Rattle.std.proofs.Common.{ℕ, ◌≤◌, arith, le_refl}
use Rattle.mdr_plain.specs.Running.{Crossing}
use Rattle.mdr_plain.specs.Storage.{born, died}
use Rattle.mdr_plain.specs.World.{World, left}
use Rattle.mdr_runs.specs.Around.{KeepsTicks}
use Rattle.mdr_runs.proofs.Around.{accesses_keep_ticks, at_most}
use Rattle.mdr_watched.specs.Driver.{Driver}
use Rattle.mdr_watched.specs.Views.{may_touch}
use Rattle.mdr_watched.specs.Watched.{calls_back, downcall, held, in_user, serves}
use Rattle.mdr_watched.proofs.KeepLaws.{IsKept, IsKeptAround, IsKeptInside, asks_keep, backs_keep, downcall_keeps}
use Rattle.mdr_viewed.specs.Laws.{CrossingKeepsTicks, UserCodeKeepsTicks}

AtMost : ℕ → World → Type 0
AtMost r w = w.clock.rest ≤ r

at_most_kept : (r : ℕ) → IsKept (AtMost r)
unfolding AtMost born died
at_most_kept r = record {
  put = λ w c v e. e;
  keeping = λ w k e. e;
  device = λ w d e. e;
  tick = λ w e. omega (arith, e);
  birth = λ program kind s w e. e;
  death = λ w serial e. e;
}

at_most_inside : (r : ℕ) → IsKeptInside (AtMost r)
unfolding AtMost
at_most_inside r = record { renews = λ program touched known roots set w is e. e; grows = λ program touched next w e. e }

at_most_around : (r : ℕ) → IsKeptAround (AtMost r)
unfolding AtMost
at_most_around r = record { opens = λ program touched known roots set w is e. e; closes = λ w e. e }

user_keeps : (d : Driver) (t : ℕ) (crosses : Crossing) → CrossingKeepsTicks crosses → KeepsTicks (in_user d (held d) t crosses)
unfolding AtMost
user_keeps d t crosses few = accesses_keep_ticks d.program may_touch (serves d (held d) t) (downcall d (held d) t crosses)
    (λ asked w. (asks_keep (AtMost w.clock.rest) (at_most_kept w.clock.rest) d (at_most_inside w.clock.rest) t asked w (le_refl w.clock.rest)).at_end)
    (λ at f args depth w. (downcall_keeps (AtMost w.clock.rest) (at_most_kept w.clock.rest) d (at_most_inside w.clock.rest) crosses
    (λ at' g vs n w' e. record { at_end = at_most (left (crosses at' g vs n w')).clock.rest w'.clock.rest w.clock.rest (few at' g vs n w') e }) t at f args depth w (le_refl w.clock.rest)).at_end)

back_keeps : (d : Driver) (room : ℕ) → CrossingKeepsTicks (calls_back d (held d) room)
unfolding AtMost
back_keeps d room at f args depth w =
    (backs_keep (AtMost w.clock.rest) (at_most_kept w.clock.rest) d (at_most_inside w.clock.rest) (at_most_around w.clock.rest) room at f args depth w (le_refl w.clock.rest)).at_end

pub user_code_keeps_ticks : UserCodeKeepsTicks
user_code_keeps_ticks = record { user = user_keeps; may_not = λ at f args depth w. le_refl w.clock.rest; back = back_keeps }
