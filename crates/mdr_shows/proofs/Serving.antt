-- What a service does to the cells of live blocks and to memory as a whole.
use Rattle.std.proofs.Common.{◌≡◌, ℕ, ◌<◌, ◌≤◌, Bool, true, false, List, [], Option, refl, sym, ◌∙◌, ap, subst}
use Rattle.std.specs.Prelude.{cond, is_some, option_map}
use Rattle.std.proofs.lemmas.Bool.{both_ways}
use Rattle.mdr_core.specs.declared.program.Program.{Program}
use Rattle.mdr_core.specs.declared.value.LockState.{LockState}
use Rattle.mdr_core.specs.Services.{Service, service_numbered}
use Rattle.mdr_meaning.specs.declared.wire.Wire.{Wire}
use Rattle.mdr_meaning.specs.declared.wire.Wire.TheVariants as wire
use Rattle.mdr_meaning.specs.Tree.{Asked}
use Rattle.mdr_model.specs.declared.memory.Cell.{Cell}
use Rattle.mdr_model.specs.declared.message.New.{New}
use Rattle.mdr_model.specs.Agreement.{IsBelow, IsFormed, MayFollow, born_cell}
use Rattle.mdr_model.specs.Copies.{is_named}
use Rattle.mdr_model.specs.Memory.{Memory, born_at, cell_at, is_live, normal, put}
use Rattle.mdr_model.specs.Sets.{is_same_cell}
use Rattle.mdr_model.proofs.KernelSteps.{steps_may_follow}
use Rattle.mdr_model.proofs.MemoryLaws.{births-put, cell_at-put, is_live-births, replaced, same_cell}
use Rattle.mdr_plain.specs.Services.{as_now, served}
use Rattle.mdr_plain.specs.Storage.{deaths, next_serial}
use Rattle.mdr_plain.specs.World.{World, Ran, Ended, Stopped, left}
use Rattle.mdr_shows.proofs.Births.{Grows, births_follow, births_grow, grows_none}
use Rattle.mdr_shows.proofs.Deaths.{Shrinks, deaths_follow, deaths_shrink}
use Rattle.mdr_shows.proofs.Effects.{Effect, IsTaken, Stops, Nothing, Locks, Births, Deaths, beside, served_effect}
use Rattle.mdr_shows.proofs.Normals.{normal_held}

-- of a memory before a service with these results, and behind it
pub record Serves (next : ℕ) (program : Program) (taken : Cell → Type 0) (m : Memory) (results : List Wire) (m' : Memory) : Type 0 where
  -- what was there stays as it was, but for a lock that is taken or freed
  pub old : (c : Cell) → c.serial < next → is_live m' c.serial ≡ true → (taken c → ⊥) → cell_at m' c ≡ option_map (normal m') (cell_at m c)
  -- the results name the new blocks, and no others
  pub named : (s : ℕ) → next ≤ s → is_live m' s ≡ is_named results s
  pub above : (s : ℕ) → is_named results s ≡ true → next ≤ s
  pub zeros : (c : Cell) → next ≤ c.serial → cell_at m' c ≡ born_cell program (born_at m' c.serial) c.index

module _ (program : Program) (a : Asked) (s : Option Service) (w : World) (f : IsFormed program w.memory) (low : IsBelow (next_serial w) w.memory) where
  -- ---- memory as a whole

  lock_follows : (c : Cell) (state : LockState) → MayFollow program (next_serial w) w.memory (next_serial w) (put w.memory c (wire.Lock state))
  unfolding normal
  lock_follows c state = steps_may_follow.store program (next_serial w) w.memory c (wire.Lock state) f low

  pub effect_follows : (r : Ran (List Wire)) → Effect program a s w r → MayFollow program (next_serial w) w.memory (next_serial (left r)) (left r).memory
  effect_follows _ (Stops kind at) = steps_may_follow.none program (next_serial w) w.memory f low
  effect_follows _ (Nothing results clock kept none) = steps_may_follow.none program (next_serial w) w.memory f low
  effect_follows _ (Locks c state taken) = lock_follows c state
  effect_follows _ (Births kind shapes clock kept) = births_follow program kind shapes (beside w clock kept) f low
  effect_follows _ (Deaths ps) = deaths_follow program ps w f low

  -- ---- cells

  abbrev Taken : Cell → Type 0
  Taken c = IsTaken a s w c

  abbrev ServesSo : List Wire → Memory → Type 0
  ServesSo results m = Serves (next_serial w) program Taken w.memory results m

  none_above : (results : List Wire) (m : Memory) → ((c : Cell) → c.serial < next_serial w → is_live m c.serial ≡ true → (Taken c → ⊥) → cell_at m c ≡ option_map (normal m) (cell_at w.memory c))
      → ((k : ℕ) → is_named results k ≡ false) → Grows program (next_serial w) m [] m → ServesSo results m
  none_above results m old none g = record { old = old; named = λ k h. g.named k h ∙ sym (none k); above = λ k h. absurd (both_ways (is_named results k) (none k) h); zeros = g.zeros }

  stays : (c : Cell) → cell_at w.memory c ≡ option_map (normal w.memory) (cell_at w.memory c)
  stays c = sym (normal_held w.memory (cell_at w.memory c) (f.closed c))

  nothing_serves : (results : List Wire) → ((k : ℕ) → is_named results k ≡ false) → ServesSo results w.memory
  nothing_serves results none = none_above results w.memory (λ c h live free. stays c) none (grows_none program (next_serial w) w.memory low)

  lock_old : (c : Cell) (state : LockState) → IsTaken a s w c → (d : Cell) → (Taken d → ⊥) → cell_at (put w.memory c (wire.Lock state)) d ≡ option_map (normal (put w.memory c (wire.Lock state))) (cell_at w.memory d)
  lock_old c state taken d free = of (is_same_cell d c) refl
    where
      live : (k : ℕ) → is_live (put w.memory c (wire.Lock state)) k ≡ is_live w.memory k
      live k = is_live-births (put w.memory c (wire.Lock state)) w.memory k (births-put w.memory c (wire.Lock state))

      of : (t : Bool) → is_same_cell d c ≡ t → cell_at (put w.memory c (wire.Lock state)) d ≡ option_map (normal (put w.memory c (wire.Lock state))) (cell_at w.memory d)
      of true e = absurd (free (subst Taken (sym (same_cell d c e)) taken))
      of false e =
          cell_at-put w.memory c (wire.Lock state) d ∙ ap (λ (t : Bool). cond t (replaced (cell_at w.memory d) (wire.Lock state)) (cell_at w.memory d)) e
          ∙ sym (normal_held (put w.memory c (wire.Lock state)) (cell_at w.memory d) (λ k h. live k ∙ f.closed d k h))

  lock_serves : (c : Cell) (state : LockState) → IsTaken a s w c → ServesSo [] (put w.memory c (wire.Lock state))
  lock_serves c state taken =
      none_above [] (put w.memory c (wire.Lock state)) (λ d h live free. lock_old c state taken d free) (λ k. refl) (grows_none program (next_serial w) (put w.memory c (wire.Lock state)) (lock_follows c state).low)

  births_serve : (results : List Wire) (m : Memory) → Grows program (next_serial w) w.memory results m → ((k : ℕ) → is_live w.memory k ≡ true → is_live m k ≡ true) → ServesSo results m
  births_serve results m g grows = record {
    old = λ c h live free. g.old_cells c h ∙ sym (normal_held m (cell_at w.memory c) (λ k j. grows k (f.closed c k j)));
    named = g.named;
    above = g.above;
    zeros = g.zeros;
  }

  still_lives : (results : List Wire) (m : Memory) → Grows program (next_serial w) w.memory results m → (k : ℕ) → is_live w.memory k ≡ true → is_live m k ≡ true
  unfolding is_live
  still_lives results m g k h = ap (λ (o : Option New). is_some o) (g.old_born k (low k h)) ∙ h

  grown_serves : (results : List Wire) (m : Memory) → Grows program (next_serial w) w.memory results m → ServesSo results m
  grown_serves results m g = births_serve results m g (still_lives results m g)

  deaths_serve : (m : Memory) (next : ℕ) → Shrinks w.memory m → MayFollow program (next_serial w) w.memory next m → IsBelow (next_serial w) m → ServesSo [] m
  deaths_serve m next d follow below = none_above [] m (λ c h live free. d.cells c live) (λ k. refl) (grows_none program (next_serial w) m below)

  abbrev EndsSo : Ran (List Wire) → Type 0
  EndsSo (Ended results w') = ServesSo results w'.memory
  EndsSo (Stopped kind at w') = Unit {0}

  pub effect_serves : (r : Ran (List Wire)) → Effect program a s w r → EndsSo r
  effect_serves _ (Stops kind at) = tt
  effect_serves _ (Nothing results clock kept none) = nothing_serves results none
  effect_serves _ (Locks c state taken) = lock_serves c state taken
  effect_serves _ (Births kind shapes clock kept) = grown_serves _ _ (births_grow program kind shapes (beside w clock kept) f low)
  effect_serves _ (Deaths ps) =
      let d : Shrinks w.memory (deaths ps w).memory = deaths_shrink program ps w f low in
      deaths_serve (deaths ps w).memory _ d (deaths_follow program ps w f low) (λ k h. low k (d.live k h))

pub served_follows : (program : Program) (a : Asked) (w : World) → IsFormed program w.memory → IsBelow (next_serial w) w.memory → MayFollow program (next_serial w) w.memory (next_serial (left (served program a w))) (left (served program a w)).memory
served_follows program a w f low = effect_follows program (as_now w a) (service_numbered a.service) w f low (served program a w) (served_effect program a w)

pub served_serves : (program : Program) (a : Asked) (w w' : World) (results : List Wire) → IsFormed program w.memory → IsBelow (next_serial w) w.memory → served program a w ≡ Ended results w'
    → Serves (next_serial w) program (IsTaken (as_now w a) (service_numbered a.service) w) w.memory results w'.memory
served_serves program a w w' results f low is =
    subst (λ (r : Ran (List Wire)). EndsSo program (as_now w a) (service_numbered a.service) w f low r) is (effect_serves program (as_now w a) (service_numbered a.service) w f low (served program a w) (served_effect program a w))
