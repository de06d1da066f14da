-- Many ticks at once, where nothing is done before them: code runs through, and then the ticks are counted.
use Rattle.std.proofs.Common.{◌≡◌, ℕ, zero, suc, ◌+◌, ◌-◌, ◌<◌, ◌≤◌, true, [], ◌∷◌, Result, Ok, Err, refl, sym, ◌∙◌, ap, arith, le_refl, subst, suc-le-suc}
use mathlib.Core.Path.{fun_ext}
use Rattle.mdr_core.specs.declared.place.At.{At}
use Rattle.mdr_core.specs.declared.program.Program.{Program}
use Rattle.mdr_core.specs.declared.stop.StopKind.{StopKind}
use Rattle.mdr_events.specs.declared.event.Event.{Event}
use Rattle.mdr_events.specs.declared.event.Event.TheVariants as event
use Rattle.mdr_events.specs.Events.{asked_as}
use Rattle.mdr_events.specs.Going.{RanTo}
use Rattle.mdr_events.specs.Held.{Held, tree}
use Rattle.mdr_events.specs.Values.{wires_of}
use Rattle.mdr_meaning.specs.Sides.{Side}
use Rattle.mdr_meaning.specs.Tree.{Tree}
use Rattle.mdr_meaning.specs.Walk.{Accesses, Born, Reached, Walked, on_access, walk, walked}
use Rattle.mdr_model.specs.declared.message.BirthKind.TheVariants.{Auto}
use Rattle.mdr_model.specs.Memory.{Memory, stored}
use Rattle.mdr_plain.specs.Laws.{GivesNoTicks}
use Rattle.mdr_plain.specs.Running.{Before, Went, Calls, all_cells, gave_after, gave_counted, gave_given, goes}
use Rattle.mdr_plain.specs.Services.{served}
use Rattle.mdr_plain.specs.Storage.{accesses, births, deaths, remembers, with_memory}
use Rattle.mdr_plain.specs.World.{World, Clock, Kept, advanced, left}
use Rattle.mdr_runs.specs.Around.{Wants}
use Rattle.mdr_runs.specs.Upto.{Stands, goes_answered, goes_behind, goes_by}
use Rattle.mdr_runs.specs.Seen.{IsSeen}
use Rattle.mdr_runs.proofs.Around.{at_most, kernel_keeps_ticks}
use Rattle.mdr_runs.proofs.Pausing.{same_gave_after}
use Rattle.mdr_runs.proofs.Upto.{child_fewer, child_goes, goes_reached, tree_goes}
use Rattle.mdr_runs.proofs.Walked.{left_few}
use Rattle.mdr_whole.specs.Going.{IsCalm}
use Rattle.mdr_whole.proofs.Clocks.{Came, Comes, Spent, advanced_none, all_fuel, at_clock, births_at, births_kept, came, deaths_at, deaths_kept, memory_is, none_spent, one_more, walk_clock}

-- ---- what a tree does is its walk with so many ticks, and the ticks that it took

module _ (program : Program) (before : Before) (kept : Kept) where
  calm_next : (n : ℕ) (c : Clock) → IsCalm (suc n) before kept c → IsCalm n before kept (advanced 1 c)
  calm_next n c calm = λ j d w less same is. calm (suc j) d w (suc-le-suc less) same (is ∙ one_more j c)

  abbrev follows_at : ℕ → Clock → Walked World → Went
  follows_at n c x = goes_reached program before x.reached (at_clock (advanced (n - x.left) c) x.memory)

  abbrev goes_at : Tree → Clock → World → Went
  goes_at t c w = goes_by program before t (at_clock c w)

  leaf : (r : Reached) (n : ℕ) (c : Clock) (w : World) → goes_reached program before r (at_clock c w) ≡ follows_at n c (walked r w n)
  leaf r n c w = ap (λ x. goes_reached program before r (at_clock x w)) (none_spent n c)

  accessed : {A : Type 0} (x : Result A StopKind) (place : At) (n : ℕ) (c : Clock) (w : World) (go : A → Went) (walks : A → Walked World)
      → ((y : A) → go y ≡ follows_at n c (walks y)) → gave_given x place (at_clock c w) go ≡ follows_at n c (on_access x place w n walks)
  accessed (Ok y) place n c w go walks each = each y
  accessed (Err kind) place n c w go walks each = leaf (Reached.Stopped kind place) n c w

  stored_at : (x : Result Memory StopKind) (place : At) (n : ℕ) (c : Clock) (w : World) (t : Tree)
      → ((m : Memory) → goes_at t c (with_memory w m) ≡ follows_at n c (walk (accesses program all_cells) n t (with_memory w m)))
      → gave_given (remembers (at_clock c w) x) place (at_clock c w) (λ w'. goes_by program before t w')
      ≡ follows_at n c (on_access (remembers w x) place w n (λ w'. walk (accesses program all_cells) n t w'))
  stored_at (Ok m) place n c w t each = each m
  stored_at (Err kind) place n c w t each = leaf (Reached.Stopped kind place) n c w

  one_counted : (rest : ℕ) (place : At) (n : ℕ) (c : Clock) (w : World) (t : Tree) → c.rest ≡ rest → suc n ≤ rest
      → gave_counted rest place (at_clock c w) (λ w'. goes_by program before t w') ≡ goes_at t (advanced 1 c) w
  one_counted zero place n c w t is enough = absurd (omega (arith, enough))
  one_counted (suc m) place n c w t is enough = refl

  tick_taken : (place : At) (d n : ℕ) (c : Clock) (w : World) (t : Tree) → w.kept ≡ kept → IsCalm (suc n) before kept c → suc n ≤ c.rest
      → gave_after (before d (at_clock c w)) (λ y w'. gave_counted w'.clock.rest place w' (λ w''. goes_by program before t w'')) ≡ goes_at t (advanced 1 c) w
  tick_taken place d n c w t same calm enough =
      let first : 0 < suc n = omega arith in
      ap (λ x. gave_after x (λ y w'. gave_counted w'.clock.rest place w' (λ w''. goes_by program before t w''))) (calm 0 d (at_clock c w) first same (sym (advanced_none c)))
      ∙ one_counted c.rest place n c w t refl enough

  one_spent : (n : ℕ) (c : Clock) (x : Walked World) → x.left ≤ n → follows_at n (advanced 1 c) x ≡ follows_at (suc n) c x
  one_spent n c x few =
      let l : x.left ≤ n = few in
      let more : suc (n - x.left) ≡ suc n - x.left = omega (arith, l) in
      ap (λ y. goes_reached program before x.reached (at_clock y x.memory)) (one_more (n - x.left) c ∙ ap (λ k. advanced k c) more)

  pub calm_goes : (n : ℕ) (t : Tree) (w : World) (c : Clock) → w.kept ≡ kept → IsCalm n before kept c → n ≤ c.rest
      → goes_at t c w ≡ follows_at n c (walk (accesses program all_cells) n t w)
  unfolding goes walk
  calm_goes n Tree.Idle w c same calm enough = leaf Reached.Idles n c w
  calm_goes n (Tree.Waits k) w c same calm enough = leaf (Reached.Opens k) n c w
  calm_goes n (Tree.Done v t) w c same calm enough = leaf (Reached.Ended v t) n c w
  calm_goes n (Tree.Stop kind place) w c same calm enough = leaf (Reached.Stopped kind place) n c w
  calm_goes zero (Tree.Tick place d t) w c same calm enough = leaf (Reached.Needs place d t) 0 c w
  calm_goes (suc n) (Tree.Tick place d t) w c same calm enough =
      tick_taken place d n c w t same calm enough
      ∙ calm_goes n t w (advanced 1 c) same (calm_next n c calm) (let h : suc n ≤ c.rest = enough in let l : n ≤ c.rest - 1 = omega (arith, h) in l)
      ∙ one_spent n c (walk (accesses program all_cells) n t w) (left_few (accesses program all_cells) n t w)
  calm_goes n (Tree.Load place p k) w c same calm enough = accessed ((accesses program all_cells).load w p) place n c w _ _ (λ v. calm_goes n (k v) w c same calm enough)
  calm_goes n (Tree.Store place p v t) w c same calm enough = stored_at (stored (all_cells w) w.memory p v) place n c w t (λ m. calm_goes n t (with_memory w m) c same calm enough)
  calm_goes n (Tree.Read place p count k) w c same calm enough = accessed ((accesses program all_cells).read w p count) place n c w _ _ (λ bs. calm_goes n (k bs) w c same calm enough)
  calm_goes n (Tree.Fresh place v k) w c same calm enough = accessed ((accesses program all_cells).fresh w v) place n c w _ _ (λ x. calm_goes n (k x) w c same calm enough)
  calm_goes n (Tree.Birth place shapes k) w c same calm enough =
      ap (λ (b : Born World). goes_by program before (k b.pointers) b.memory) (births_at program c shapes w)
      ∙ calm_goes n (k (births program Auto shapes w).pointers) (births program Auto shapes w).memory c (births_kept program shapes w ∙ same) calm enough
  calm_goes n (Tree.Death place ps t) w c same calm enough =
      ap (λ w'. goes_by program before t w') (deaths_at c ps w)
      ∙ calm_goes n t (deaths ps w) c (deaths_kept ps w ∙ same) calm enough
  calm_goes n (Tree.Ask asked k) w c same calm enough = leaf (Reached.Asks asked k) n c w
  calm_goes n (Tree.Cross place func args depth k) w c same calm enough = leaf (Reached.Crosses place func args depth k) n c w

-- ---- a machine runs through so many ticks

module _ {M : Type 0} (a : Accesses M) (world_in : M → World) (program_in : M → Program) (seen : IsSeen a world_in program_in) (side : Side) (before : Before) (gives : GivesNoTicks before) where
  module _ (m : M) where
    abbrev p : Program
    p = program_in m

    abbrev reached_then : ℕ → Clock → Walked M → Went
    reached_then n c x = goes_reached p before x.reached (at_clock (advanced (n - x.left) c) (world_in x.memory))

    tick_follows : (place : At) (d : ℕ) (t : Tree) (w : World) → goes_reached p before (Reached.Needs place d t) w ≡ goes_by p before (Tree.Tick place d t) w
    unfolding goes
    tick_follows place d t w = refl

    event_follows : (n f r rest : ℕ) (h' : Held) (m' : M) (e : Event) (t : Tree) (c : Clock) → Wants side h' e → Spent a side e rest → Comes a side n f t m e h' m' rest r → r ≤ f → c.rest - (n - rest) ≤ r
        → reached_then n c (walk a n t m) ≡ goes_behind p side before f h' e (at_clock (advanced (n - rest) c) (world_in m'))
    unfolding walk
    event_follows n f r rest h' m' (event.Done v) t c w spent is less few = ap (reached_then n c) is
    event_follows n f r rest h' m' (event.Stop kind place) t c w spent is less few = ap (reached_then n c) is
    event_follows n f r rest h' m' (event.Service q) t c w spent is less few =
        ap (reached_then n c) is
        ∙ same_gave_after r (served p (asked_as q) (at_clock (advanced (n - rest) c) (world_in m'))) _ (goes_answered p side before f h')
        (at_most (left (served p (asked_as q) (at_clock (advanced (n - rest) c) (world_in m')))).clock.rest (c.rest - (n - rest)) r ((kernel_keeps_ticks p true).serves (asked_as q) (at_clock (advanced (n - rest) c) (world_in m'))) few)
        (λ results w' least. child_goes p before gives side f r h' results w' less least)
    event_follows n f r rest h' m' (event.Cross x) t c w spent is less few =
        ap (reached_then n c) is
        ∙ ap (λ next. Calls x.at x.func (wires_of x.args) x.depth next (at_clock (advanced (n - rest) c) (world_in m'))) (fun_ext (λ v. child_fewer p before gives side f (c.rest - (n - rest)) r h' (v ∷ []) few less))
    event_follows n f r rest h' m' (event.TicksOut place) t c w spent is less few =
        ap (reached_then n c) (is ∙ ap (λ k. walk a k (tree side f h' r) m') spent ∙ ap (λ u. walk a 0 u m') (w.by f r).1)
        ∙ ap (λ k. goes_reached p before (Reached.Needs place h'.frame.here.depth (w.by f r).0) (at_clock (advanced (n - k) c) (world_in m'))) (sym spent)
        ∙ tick_follows place h'.frame.here.depth (w.by f r).0 (at_clock (advanced (n - rest) c) (world_in m'))
        ∙ sym (ap (λ u. goes_by p before u (at_clock (advanced (n - rest) c) (world_in m'))) (w.by f r).1)
        ∙ tree_goes p before gives side f r h' (at_clock (advanced (n - rest) c) (world_in m')) less few

    -- what was run through, and then the clock
    pub record Through (fuel : ℕ) (all : Went) (h' : Held) (m' : M) (e : Event) (n rest : ℕ) : Type 0 where
      pub stands : Stands p side before fuel all h' e (at_clock (advanced (n - rest) (world_in m').clock) (world_in m'))
      pub same : program_in m' ≡ p

    -- no access looks at the clock, so that running code leaves it as it is
    pub clock_stays : (h h' : Held) (m' : M) (e : Event) (n rest : ℕ) → RanTo a side h m n e h' m' rest → (world_in m').clock ≡ (world_in m).clock
    clock_stays h h' m' e n rest ran =
        let came_so : Came a side h m n e h' m' rest = came a side h m n e h' m' rest ran in
        let is : Comes a side n n (tree side n h n) m e h' m' rest (rest + (n - n)) = all_fuel a side h m n e h' m' rest n (le_refl n) came_so.ran in
        let memory : (walk a n (tree side n h n) m).memory ≡ m' = memory_is a side n n (tree side n h n) m e h' m' rest (rest + (n - n)) came_so.wants came_so.spent is in
        let walks : walk (accesses p all_cells) n (tree side n h n) (world_in m) ≡ walked (walk a n (tree side n h n) m).reached (world_in (walk a n (tree side n h n) m).memory) (walk a n (tree side n h n) m).left =
        seen.walks n (tree side n h n) m in
        sym (ap (λ x. (world_in x).clock) memory) ∙ sym (ap (λ (x : Walked World). x.memory.clock) walks) ∙ walk_clock p all_cells n (tree side n h n) (world_in m)

    pub goes_through : (h h' : Held) (m' : M) (e : Event) (place : At) (n rest fuel : ℕ) (all : Went) → IsCalm n before (world_in m).kept (world_in m).clock → n ≤ (world_in m).clock.rest
        → Stands p side before fuel all h (event.TicksOut place) (world_in m) → RanTo a side h m n e h' m' rest → Through fuel all h' m' e n rest
    goes_through h h' m' e place n rest fuel all calm enough s ran =
        let clock : Clock = (world_in m).clock in
        let most : clock.rest ≤ fuel = s.enough in
        let many : n ≤ clock.rest = enough in
        let inside : n ≤ fuel = omega (arith, most, many) in
        let came_so : Came a side h m n e h' m' rest = came a side h m n e h' m' rest ran in
        let fewer : rest ≤ n = came_so.ran.fewer in
        let is : Comes a side n fuel (tree side fuel h fuel) m e h' m' rest (rest + (fuel - n)) = all_fuel a side h m n e h' m' rest fuel inside came_so.ran in
        let less : rest + (fuel - n) ≤ fuel = omega (arith, fewer, inside) in
        let few : clock.rest - (n - rest) ≤ rest + (fuel - n) = omega (arith, fewer, inside, most, many) in
        let memory : (walk a n (tree side fuel h fuel) m).memory ≡ m' = memory_is a side n fuel (tree side fuel h fuel) m e h' m' rest (rest + (fuel - n)) came_so.wants came_so.spent is in
        let walks : walk (accesses p all_cells) n (tree side fuel h fuel) (world_in m) ≡ walked (walk a n (tree side fuel h fuel) m).reached (world_in (walk a n (tree side fuel h fuel) m).memory) (walk a n (tree side fuel h fuel) m).left =
        seen.walks n (tree side fuel h fuel) m in
        let stays : (world_in m').clock ≡ clock =
        sym (ap (λ x. (world_in x).clock) memory) ∙ sym (ap (λ (x : Walked World). x.memory.clock) walks) ∙ walk_clock p all_cells n (tree side fuel h fuel) (world_in m) in
        let does : goes_behind p side before fuel h' e (at_clock (advanced (n - rest) clock) (world_in m')) ≡ all =
        sym (event_follows n fuel (rest + (fuel - n)) rest h' m' e (tree side fuel h fuel) clock came_so.wants came_so.spent is less few)
        ∙ sym (ap (follows_at p before (world_in m).kept n clock) walks)
        ∙ sym (calm_goes p before (world_in m).kept n (tree side fuel h fuel) (world_in m) clock refl calm many)
        ∙ s.is in
        let left_over : clock.rest - (n - rest) ≤ fuel = omega (arith, most) in
        record {
          stands = subst (λ x. Stands p side before fuel all h' e (at_clock (advanced (n - rest) x) (world_in m'))) (sym stays) (record { is = does; enough = left_over; wants = came_so.wants });
          same = ap program_in (sym memory) ∙ seen.stays n (tree side fuel h fuel) m;
        }
