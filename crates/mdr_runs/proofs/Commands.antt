-- Idle ticks and commands, one after the other.
use Rattle.std.proofs.Common.{◌≡◌, ℕ, zero, suc, ◌+◌, ◌-◌, ◌<◌, ◌≤◌, List, [], ◌∷◌, Option, None, refl, sym, ◌∙◌, ap, arith}
use Rattle.mdr_core.specs.declared.place.At.{At}
use Rattle.mdr_core.specs.declared.stop.StopKind.{StopKind}
use Rattle.mdr_model.specs.declared.command.Command.{Command}
use Rattle.mdr_model.specs.declared.outcome.End.TheVariants as ends
use Rattle.mdr_plain.specs.Running.{Before}
use Rattle.mdr_plain.specs.Scripts.{and_then, commands, finish, idle}
use Rattle.mdr_plain.specs.World.{World, Ended, Stopped, Work, counted, done, then, ticked}
use Rattle.mdr_runs.specs.Scripts.{idle_tick}

-- ---- idle ticks

counts_then : (n : ℕ) (w : World) (go : World → Work) → counted n None w go ≡ then (counted n None w done) go
counts_then zero w go = refl
counts_then (suc n) w go = refl

ticks_then : (x : Work) (go : World → Work) → then x (λ w. ticked None w go) ≡ then (then x (λ w. ticked None w done)) go
ticks_then (Ended u w) go = counts_then w.clock.rest w go
ticks_then (Stopped kind at w) go = refl

-- one tick, and then the rest
pub idle_first : (before : Before) (n : ℕ) (w : World) → idle before (suc n) w ≡ then (idle_tick before w) (idle before n)
unfolding idle
idle_first before n w = ticks_then (before 0 w) (idle before n)

idle_from : (before : Before) (n i : ℕ) (w : World) → i < n → idle before (n - i) w ≡ then (idle_tick before w) (idle before (n - (i + 1)))
idle_from before n i w less =
    let e : n - i ≡ suc (n - (i + 1)) = omega (arith, less) in
    ap (λ m. idle before m w) e ∙ idle_first before (n - (i + 1)) w

-- a tick passed
pub idle_passes : (before : Before) (n i : ℕ) (w w' : World) → i < n → done w' ≡ idle_tick before w → idle before (n - i) w ≡ idle before (n - (i + 1)) w'
idle_passes before n i w w' less is = idle_from before n i w less ∙ sym (ap (λ x. then x (idle before (n - (i + 1)))) is)

-- the run stopped in it
pub idle_stops : (before : Before) (n i : ℕ) (w w' : World) (kind : StopKind) (at : Option At) → i < n → ◌≡◌ {A = Work} (Stopped kind at w') (idle_tick before w) → ◌≡◌ {A = Work} (Stopped kind at w') (idle before (n - i) w)
idle_stops before n i w w' kind at less is = sym (idle_from before n i w less ∙ sym (ap (λ x. then x (idle before (n - (i + 1)))) is))

-- none is left
pub idle_ends : (before : Before) (n i : ℕ) (w : World) → n ≤ i → idle before (n - i) w ≡ done w
unfolding idle
idle_ends before n i w past = let e : n - i ≡ 0 = omega (arith, past) in ap (λ m. idle before m w) e

pub idle_begins : (before : Before) (n : ℕ) (w : World) → idle before (n - 0) w ≡ idle before n w
idle_begins before n w = let e : n - 0 ≡ n = omega arith in ap (λ m. idle before m w) e

-- ---- commands

-- a command was done, and the others follow
pub command_passes : (does : Command → World → Work) (c : Command) (cs : List Command) (w w' : World) → done w' ≡ does c w → commands does (c ∷ cs) w ≡ commands does cs w'
unfolding commands
command_passes does c cs w w' is = sym (ap (λ x. and_then x (commands does cs)) is)

-- it stopped the run
pub command_stops : (does : Command → World → Work) (c : Command) (cs : List Command) (w w' : World) (kind : StopKind) (at : Option At) → ◌≡◌ {A = Work} (Stopped kind at w') (does c w)
    → commands does (c ∷ cs) w ≡ finish (ends.Stop kind at) w'
unfolding commands
command_stops does c cs w w' kind at is = sym (ap (λ x. and_then x (commands does cs)) is)

pub commands_end : (does : Command → World → Work) (w : World) → commands does [] w ≡ finish ends.Ok w
unfolding commands
commands_end does w = refl
