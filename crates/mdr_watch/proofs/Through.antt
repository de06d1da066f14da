-- Many ticks at once: nothing is done before those of user code, so that it runs through, and then they are counted.
use Rattle.std.proofs.Common.{◌≡◌, ℕ, zero, suc, ◌+◌, ◌-◌, ◌≤◌, List, [], ◌∷◌, Some, Result, Ok, Err, refl, sym, ◌∙◌, ap, arith, le_refl, subst}
use Rattle.mdr_core.specs.declared.place.At.{At}
use Rattle.mdr_core.specs.declared.program.Program.{Program}
use Rattle.mdr_core.specs.declared.stop.StopKind.{StopKind}
use Rattle.mdr_events.specs.declared.event.Event.{Event}
use Rattle.mdr_events.specs.declared.event.Event.TheVariants as event
use Rattle.mdr_events.specs.Events.{asked_as}
use Rattle.mdr_events.specs.Going.{RanTo}
use Rattle.mdr_events.specs.Held.{Held, tree}
use Rattle.mdr_events.specs.Values.{wires_of}
use Rattle.mdr_meaning.specs.declared.wire.Wire.{Wire}
use Rattle.mdr_meaning.specs.Sides.{Side}
use Rattle.mdr_meaning.specs.Tree.{Asked, Tree}
use Rattle.mdr_meaning.specs.Walk.{Accesses, Born, Reached, Walked, on_access, walk, walked}
use Rattle.mdr_model.specs.declared.message.BirthKind.TheVariants.{Auto}
use Rattle.mdr_model.specs.Memory.{Memory, stored}
use Rattle.mdr_plain.specs.Laws.{GivesNoTicks, follows as follows_reached}
use Rattle.mdr_plain.specs.Running.{Crossing, Setting, nothing, run}
use Rattle.mdr_plain.specs.Storage.{accesses, births, deaths, remembers, with_memory}
use Rattle.mdr_plain.specs.World.{World, Clock, Ran, advanced, counted, given, left}
use Rattle.mdr_runs.specs.Around.{IsSeenBy, KeepsTicks, StandsIn, Wants, answered_in, follows_in}
use Rattle.mdr_runs.proofs.Around.{at_most, child_runs, same_after, tree_runs}
use Rattle.mdr_runs.proofs.Walked.{left_few}
use Rattle.mdr_watched.specs.Views.{may_touch}
use Rattle.mdr_whole.proofs.Clocks.{Came, Comes, Spent, all_fuel, at_clock, births_at, came, deaths_at, memory_is, none_spent, one_more, walk_clock}

pub nothing_gives : GivesNoTicks nothing
nothing_gives d w = le_refl w.clock.rest

module _ (program : Program) (serves : Asked → World → Ran (List Wire)) (crosses : Crossing) where
  -- what stands around user code
  abbrev pub around : Setting
  around = record { accesses = accesses program may_touch; serves = serves; crosses = crosses }

  -- ---- what a tree does is its walk with so many ticks, and the ticks that it took

  abbrev follows_at : ℕ → Clock → Walked World → Ran Wire
  follows_at n c x = follows_reached around nothing x.reached (at_clock (advanced (n - x.left) c) x.memory)

  abbrev runs_at : Tree → Clock → World → Ran Wire
  runs_at t c w = run around nothing t (at_clock c w)

  leaf : (r : Reached) (n : ℕ) (c : Clock) (w : World) → follows_reached around nothing r (at_clock c w) ≡ follows_at n c (walked r w n)
  leaf r n c w = ap (λ x. follows_reached around nothing r (at_clock x w)) (none_spent n c)

  accessed : {A : Type 0} (x : Result A StopKind) (place : At) (n : ℕ) (c : Clock) (w : World) (go : A → Ran Wire) (walks : A → Walked World)
      → ((y : A) → go y ≡ follows_at n c (walks y)) → given x place (at_clock c w) go ≡ follows_at n c (on_access x place w n walks)
  accessed (Ok y) place n c w go walks each = each y
  accessed (Err kind) place n c w go walks each = leaf (Reached.Stopped kind place) n c w

  stored_at : (x : Result Memory StopKind) (place : At) (n : ℕ) (c : Clock) (w : World) (t : Tree)
      → ((m : Memory) → runs_at t c (with_memory w m) ≡ follows_at n c (walk (accesses program may_touch) n t (with_memory w m)))
      → given (remembers (at_clock c w) x) place (at_clock c w) (λ w'. run around nothing t w')
      ≡ follows_at n c (on_access (remembers w x) place w n (λ w'. walk (accesses program may_touch) n t w'))
  stored_at (Ok m) place n c w t each = each m
  stored_at (Err kind) place n c w t each = leaf (Reached.Stopped kind place) n c w

  tick_taken : (rest : ℕ) (place : At) (n : ℕ) (c : Clock) (w : World) (t : Tree) → c.rest ≡ rest → suc n ≤ rest
      → counted rest (Some place) (at_clock c w) (λ w'. run around nothing t w') ≡ runs_at t (advanced 1 c) w
  tick_taken zero place n c w t is enough = absurd (omega (arith, enough))
  tick_taken (suc m) place n c w t is enough = refl

  one_spent : (n : ℕ) (c : Clock) (x : Walked World) → x.left ≤ n → follows_at n (advanced 1 c) x ≡ follows_at (suc n) c x
  one_spent n c x few =
      let l : x.left ≤ n = few in
      let more : suc (n - x.left) ≡ suc n - x.left = omega (arith, l) in
      ap (λ y. follows_reached around nothing x.reached (at_clock y x.memory)) (one_more (n - x.left) c ∙ ap (λ k. advanced k c) more)

  runs_through : (n : ℕ) (t : Tree) (w : World) (c : Clock) → n ≤ c.rest → runs_at t c w ≡ follows_at n c (walk (accesses program may_touch) n t w)
  unfolding run walk
  runs_through n Tree.Idle w c enough = leaf Reached.Idles n c w
  runs_through n (Tree.Waits k) w c enough = leaf (Reached.Opens k) n c w
  runs_through n (Tree.Done v t) w c enough = leaf (Reached.Ended v t) n c w
  runs_through n (Tree.Stop kind place) w c enough = leaf (Reached.Stopped kind place) n c w
  runs_through zero (Tree.Tick place d t) w c enough = leaf (Reached.Needs place d t) 0 c w
  runs_through (suc n) (Tree.Tick place d t) w c enough =
      tick_taken c.rest place n c w t refl enough
      ∙ runs_through n t w (advanced 1 c) (let h : suc n ≤ c.rest = enough in let l : n ≤ c.rest - 1 = omega (arith, h) in l)
      ∙ one_spent n c (walk (accesses program may_touch) n t w) (left_few (accesses program may_touch) n t w)
  runs_through n (Tree.Load place p k) w c enough = accessed ((accesses program may_touch).load w p) place n c w _ _ (λ v. runs_through n (k v) w c enough)
  runs_through n (Tree.Store place p v t) w c enough = stored_at (stored (may_touch w) w.memory p v) place n c w t (λ m. runs_through n t (with_memory w m) c enough)
  runs_through n (Tree.Read place p count k) w c enough = accessed ((accesses program may_touch).read w p count) place n c w _ _ (λ bs. runs_through n (k bs) w c enough)
  runs_through n (Tree.Fresh place v k) w c enough = accessed ((accesses program may_touch).fresh w v) place n c w _ _ (λ x. runs_through n (k x) w c enough)
  runs_through n (Tree.Birth place shapes k) w c enough =
      ap (λ (b : Born World). run around nothing (k b.pointers) b.memory) (births_at program c shapes w)
      ∙ runs_through n (k (births program Auto shapes w).pointers) (births program Auto shapes w).memory c enough
  runs_through n (Tree.Death place ps t) w c enough =
      ap (λ w'. run around nothing t w') (deaths_at c ps w)
      ∙ runs_through n t (deaths ps w) c enough
  runs_through n (Tree.Ask asked k) w c enough = leaf (Reached.Asks asked k) n c w
  runs_through n (Tree.Cross place func args depth k) w c enough = leaf (Reached.Crosses place func args depth k) n c w

  -- ---- a machine runs through so many ticks

  module _ (keeps : KeepsTicks around) {M : Type 0} (a : Accesses M) (world_in : M → World) (program_in : M → Program) (seen : IsSeenBy (accesses program may_touch) a world_in program_in program) (side : Side) where
    abbrev reached_then : ℕ → Clock → Walked M → Ran Wire
    reached_then n c x = follows_reached around nothing x.reached (at_clock (advanced (n - x.left) c) (world_in x.memory))

    tick_follows : (place : At) (d : ℕ) (t : Tree) (w : World) → follows_reached around nothing (Reached.Needs place d t) w ≡ run around nothing (Tree.Tick place d t) w
    unfolding run
    tick_follows place d t w = refl

    event_follows : (m : M) (n f r rest : ℕ) (h' : Held) (m' : M) (e : Event) (t : Tree) (c : Clock) → Wants side h' e → Spent a side e rest → Comes a side n f t m e h' m' rest r → r ≤ f → c.rest - (n - rest) ≤ r
        → reached_then n c (walk a n t m) ≡ follows_in around side nothing f h' e (at_clock (advanced (n - rest) c) (world_in m'))
    unfolding walk
    event_follows m n f r rest h' m' (event.Done v) t c w spent is less few = ap (reached_then n c) is
    event_follows m n f r rest h' m' (event.Stop kind place) t c w spent is less few = ap (reached_then n c) is
    event_follows m n f r rest h' m' (event.Service q) t c w spent is less few =
        ap (reached_then n c) is
        ∙ same_after r (serves (asked_as q) (at_clock (advanced (n - rest) c) (world_in m'))) _ (answered_in around side nothing f h')
        (at_most (left (serves (asked_as q) (at_clock (advanced (n - rest) c) (world_in m')))).clock.rest (c.rest - (n - rest)) r (keeps.serves (asked_as q) (at_clock (advanced (n - rest) c) (world_in m'))) few)
        (λ results w' least. child_runs around nothing keeps nothing_gives side f r h' results w' less least)
    event_follows m n f r rest h' m' (event.Cross x) t c w spent is less few =
        ap (reached_then n c) is
        ∙ same_after r (crosses x.at x.func (wires_of x.args) x.depth (at_clock (advanced (n - rest) c) (world_in m'))) _ (λ v w'. answered_in around side nothing f h' (v ∷ []) w')
        (at_most (left (crosses x.at x.func (wires_of x.args) x.depth (at_clock (advanced (n - rest) c) (world_in m')))).clock.rest (c.rest - (n - rest)) r
        (keeps.crosses x.at x.func (wires_of x.args) x.depth (at_clock (advanced (n - rest) c) (world_in m'))) few)
        (λ v w' least. child_runs around nothing keeps nothing_gives side f r h' (v ∷ []) w' less least)
    event_follows m n f r rest h' m' (event.TicksOut place) t c w spent is less few =
        ap (reached_then n c) (is ∙ ap (λ k. walk a k (tree side f h' r) m') spent ∙ ap (λ u. walk a 0 u m') (w.by f r).1)
        ∙ ap (λ k. follows_reached around nothing (Reached.Needs place h'.frame.here.depth (w.by f r).0) (at_clock (advanced (n - k) c) (world_in m'))) (sym spent)
        ∙ tick_follows place h'.frame.here.depth (w.by f r).0 (at_clock (advanced (n - rest) c) (world_in m'))
        ∙ sym (ap (λ u. run around nothing u (at_clock (advanced (n - rest) c) (world_in m'))) (w.by f r).1)
        ∙ tree_runs around nothing keeps nothing_gives side f r h' (at_clock (advanced (n - rest) c) (world_in m')) less few

    -- what was run through, and then the clock
    pub record Through (fuel : ℕ) (all : Ran Wire) (h' : Held) (m' : M) (e : Event) (n rest : ℕ) : Type 0 where
      pub stands : StandsIn around side nothing fuel all h' e (at_clock (advanced (n - rest) (world_in m').clock) (world_in m'))
      pub same : program_in m' ≡ program

    module _ (m : M) (same : program_in m ≡ program) where
      -- no access looks at the clock, so that running code leaves it as it is
      pub clock_stays : (h h' : Held) (m' : M) (e : Event) (n rest : ℕ) → RanTo a side h m n e h' m' rest → (world_in m').clock ≡ (world_in m).clock
      clock_stays h h' m' e n rest ran =
          let came_so : Came a side h m n e h' m' rest = came a side h m n e h' m' rest ran in
          let is : Comes a side n n (tree side n h n) m e h' m' rest (rest + (n - n)) = all_fuel a side h m n e h' m' rest n (le_refl n) came_so.ran in
          let memory : (walk a n (tree side n h n) m).memory ≡ m' = memory_is a side n n (tree side n h n) m e h' m' rest (rest + (n - n)) came_so.wants came_so.spent is in
          sym (ap (λ x. (world_in x).clock) memory) ∙ sym (ap (λ (x : Walked World). x.memory.clock) (seen.walks n (tree side n h n) m same)) ∙ walk_clock program may_touch n (tree side n h n) (world_in m)

      pub goes_through : (h h' : Held) (m' : M) (e : Event) (place : At) (n rest fuel : ℕ) (all : Ran Wire) → n ≤ (world_in m).clock.rest
          → StandsIn around side nothing fuel all h (event.TicksOut place) (world_in m) → RanTo a side h m n e h' m' rest → Through fuel all h' m' e n rest
      goes_through h h' m' e place n rest fuel all enough s ran =
          let clock : Clock = (world_in m).clock in
          let most : clock.rest ≤ fuel = s.enough in
          let many : n ≤ clock.rest = enough in
          let inside : n ≤ fuel = omega (arith, most, many) in
          let came_so : Came a side h m n e h' m' rest = came a side h m n e h' m' rest ran in
          let fewer : rest ≤ n = came_so.ran.fewer in
          let is : Comes a side n fuel (tree side fuel h fuel) m e h' m' rest (rest + (fuel - n)) = all_fuel a side h m n e h' m' rest fuel inside came_so.ran in
          let less : rest + (fuel - n) ≤ fuel = omega (arith, fewer, inside) in
          let few : clock.rest - (n - rest) ≤ rest + (fuel - n) = omega (arith, fewer, inside, most, many) in
          let memory : (walk a n (tree side fuel h fuel) m).memory ≡ m' = memory_is a side n fuel (tree side fuel h fuel) m e h' m' rest (rest + (fuel - n)) came_so.wants came_so.spent is in
          let stays : (world_in m').clock ≡ clock = clock_stays h h' m' e n rest ran in
          let does : follows_in around side nothing fuel h' e (at_clock (advanced (n - rest) clock) (world_in m')) ≡ all =
          sym (event_follows m n fuel (rest + (fuel - n)) rest h' m' e (tree side fuel h fuel) clock came_so.wants came_so.spent is less few)
          ∙ sym (ap (follows_at n clock) (seen.walks n (tree side fuel h fuel) m same))
          ∙ sym (runs_through n (tree side fuel h fuel) (world_in m) clock many)
          ∙ s.is in
          let left_over : clock.rest - (n - rest) ≤ fuel = omega (arith, most) in
          record {
            stands = subst (λ x. StandsIn around side nothing fuel all h' e (at_clock (advanced (n - rest) x) (world_in m'))) (sym stays) (record { is = does; enough = left_over; wants = came_so.wants });
            same = ap program_in (sym memory) ∙ seen.stays n (tree side fuel h fuel) m same;
          }
