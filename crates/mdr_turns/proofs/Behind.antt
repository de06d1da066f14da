-- What follows the innermost upcall, as upcalls begin and end.
use Rattle.std.proofs.Common.{◌≡◌, ℕ, suc, ◌≤◌, arith, List, [], ◌∷◌, length, refl, sym, ◌∙◌, ap, subst}
use Rattle.mdr_core.specs.declared.program.Program.{Program}
use Rattle.mdr_events.specs.declared.event.Crossing.{Crossing}
use Rattle.mdr_model.specs.declared.memory.Cell.{Cell}
use Rattle.mdr_model.specs.Memory.{Memory}
use Rattle.mdr_plain.specs.World.{World, advanced}
use Rattle.mdr_turns.specs.declared.state.Active.{Active}
use Rattle.mdr_turns.specs.declared.state.Base.TheVariants as began
use Rattle.mdr_turns.specs.declared.state.Behind.{Behind}
use Rattle.mdr_turns.specs.declared.state.Frame.{Frame}
use Rattle.mdr_turns.specs.declared.state.Innermost.TheVariants as innermost
use Rattle.mdr_turns.specs.declared.state.Open.{Open}
use Rattle.mdr_turns.specs.declared.state.Wait.{Wait}
use Rattle.mdr_turns.specs.declared.state.Waiting.{Waiting}
use Rattle.mdr_turns.specs.States.{AreSpent, IsActive, IsBehind, IsSeen, StandsFor, innermost_of, upcalls_below, waits_over}
use Rattle.mdr_watch.specs.declared.watch.Watch.{Watch}
use Rattle.mdr_watch.specs.Guarding.{StaysOpen}
use Rattle.mdr_watched.specs.Views.{below, closed, opened}
use Rattle.mdr_whole.specs.declared.paused.Paused.{Paused}
use Rattle.mdr_whole.specs.Pausing.{IsPaused}
use Rattle.mdr_world.specs.Driven.{Driven}

-- ---- the same elsewhere

fewer : (r r' n : ℕ) → r' ≤ r → r ≤ n → r' ≤ n
fewer r r' n h least = omega (arith, h, least)

pub spent_later : (r r' : ℕ) (fs : List Frame) → r' ≤ r → AreSpent r fs → AreSpent r' fs
spent_later r r' [] h spent = spent
spent_later r r' (x ∷ rest) h spent = (fewer r r' x.wait.rest h spent.0, spent_later r r' rest h spent.1)

-- ---- the innermost code that waits

pub none_waits : (fs : List Frame) (n m : ℕ) → innermost_of fs n ≡ innermost.Nothing m → (fs ≡ []) × (n ≡ m)
none_waits [] n m e = (refl, cc e)
none_waits (x ∷ fs) n m e = absurd (cc e)

pub one_waits : (b : Behind) (x : Frame) (below : Behind) → innermost_of b.frames b.done ≡ innermost.Over x below → b ≡ waits_over x below
one_waits b x below e = of b.frames b.done e
  where
    of : (fs : List Frame) (n : ℕ) → innermost_of fs n ≡ innermost.Over x below → ◌≡◌ {A = Behind} (record { frames = fs; done = n }) (waits_over x below)
    of [] n e = absurd (cc e)
    of (y ∷ fs) n e =
        let same : y ≡ x = cc e in
        let rest : ◌≡◌ {A = Behind} (record { frames = fs; done = n }) below = cc e in
        λ i. waits_over (same i) (rest i)

module _ (p : Program) where
  pub behind_moved : (w w' : World) (b b' : Behind) → w ≡ w' → b ≡ b' → IsBehind p w b → IsBehind p w' b'
  behind_moved w w' b b' e f h = subst (λ x. IsBehind p x b') e (subst (λ y. IsBehind p w y) f h)

  -- as many upcalls are open, and no more ticks are left
  pub behind_stays : (w w' : World) (b : Behind) → StaysOpen w w' → IsBehind p w b → IsBehind p w' b
  behind_stays w w' b s h = record { paused = h.paused; sets = s.sets ∙ h.sets; spent = spent_later w.clock.rest w'.clock.rest b.frames s.spent h.spent }

  -- a reply was applied
  pub behind_applied : (w : World) (m : Memory) (ticks : ℕ) (b : Behind) → IsBehind p w b → IsBehind p (record w { memory = m; clock = advanced ticks w.clock }) b
  behind_applied w m ticks b h = behind_stays w (record w { memory = m; clock = advanced ticks w.clock }) b (record { sets = refl; spent = omega (arith) }) h

  -- whatever set an upcall begins with
  pub behind_set : (set other : List Cell) (w : World) (b : Behind) → IsBehind p (opened set w) b → IsBehind p (opened other w) b
  behind_set set other w b h = record { paused = h.paused; sets = h.sets; spent = h.spent }

  -- ---- an upcall begins

  -- a command's
  pub first_behind : (w : World) (n : ℕ) → w.views ≡ [] → IsBehind p (opened [] w) (record { frames = []; done = n })
  first_behind w n none = record { paused = tt; sets = ap (λ (vs : List (List Cell)). suc (length vs)) none; spent = tt }

  -- one that code calls back which a command called
  pub command_behind : (w : World) (n : ℕ) (q : Paused) → w.views ≡ [] → IsPaused p q
      → IsBehind p (opened [] w) (waits_over (record { wait = record { paused = q; rest = w.clock.rest }; base = began.Commanded }) (record { frames = []; done = n }))
  command_behind w n q none waits = record { paused = (waits, tt); sets = ap (λ (vs : List (List Cell)). suc (length vs)) none; spent = (omega (arith), tt) }

  -- and one that code calls back which user code called
  pub down_behind : (w : World) (b : Behind) (q : Paused) (c : Crossing) (o : Open) → IsPaused p q → IsBehind p w b
      → IsBehind p (opened [] w) (waits_over (record { wait = record { paused = q; rest = w.clock.rest }; base = began.Down c o }) b)
  down_behind w b q c o waits h = record { paused = (waits, h.paused); sets = ap suc h.sets; spent = (omega (arith), h.spent) }

  -- ---- an upcall ends

  length_below : (vs : List (List Cell)) (n : ℕ) → length vs ≡ suc n → length (below vs) ≡ n
  length_below [] n e = absurd (cc e)
  length_below (v ∷ vs) n e = cc e

  -- none was open around it
  pub only_first : (w : World) (b : Behind) → b.frames ≡ [] → IsBehind p w b → length w.views ≡ 1
  only_first w b is h = h.sets ∙ ap (λ (fs : List Frame). suc (upcalls_below fs)) is

  pub only_commanded : (w : World) (b : Behind) (x : Wait) → IsBehind p w (waits_over (record { wait = x; base = began.Commanded }) b) → length w.views ≡ 1
  only_commanded w b x h = h.sets

  -- one was
  pub others_open : (w : World) (b : Behind) (x : Wait) (c : Crossing) (o : Open) → IsBehind p w (waits_over (record { wait = x; base = began.Down c o }) b) → (n : ℕ) × (length w.views ≡ suc (suc n))
  others_open w b x c o h = (upcalls_below b.frames, h.sets)

  pub behind_closed : (w : World) (b : Behind) (x : Wait) (c : Crossing) (o : Open) → IsBehind p w (waits_over (record { wait = x; base = began.Down c o }) b) → IsBehind p (closed w) b
  behind_closed w b x c o h = record { paused = h.paused.1; sets = length_below w.views (suc (upcalls_below b.frames)) h.sets; spent = h.spent.1 }

-- ---- a message is sent

pub stands_so : (watch : Watch) (a : Active) (w : Waiting) → w.seen.guarded ≡ a.guarded → w.ledger ≡ a.ledger → w.behind ≡ a.behind → IsSeen w.seen → IsActive watch a → StandsFor watch w
stands_so watch a w there kept same s h = record {
  same = ap (λ (g : Driven). g.program) there ∙ h.same;
  passes = ap (λ l. l.passes) kept ∙ h.passes;
  seen = s;
  behind = behind_moved watch.program.now a.guarded.world w.seen.guarded.world a.behind w.behind (sym (ap (λ (g : Driven). g.world) there)) (sym same) h.behind;
}
