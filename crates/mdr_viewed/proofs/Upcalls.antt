-- What user code asks for, and what comes back from its calls, with its set beside the world.
use Rattle.std.proofs.Common.{◌≡◌, ℕ, List, ◌∷◌, Result, Ok, Err, refl, ◌∙◌, ap}
use Rattle.mdr_core.specs.declared.place.At.{At}
use Rattle.mdr_extents.specs.Reaching.{Failing}
use Rattle.mdr_meaning.specs.declared.wire.Wire.{Wire}
use Rattle.mdr_meaning.specs.Tree.{Asked}
use Rattle.mdr_model.specs.declared.memory.Cell.{Cell}
use Rattle.mdr_plain.specs.Services.{served}
use Rattle.mdr_plain.specs.Storage.{next_serial}
use Rattle.mdr_plain.specs.World.{World, Ran, Ended, Stopped, after, left}
use Rattle.mdr_watched.specs.Driver.{Driver, result_roots, touched_by}
use Rattle.mdr_watched.specs.Order.{AreLive}
use Rattle.mdr_watched.specs.Views.{gained, renewed, taken}
use Rattle.mdr_watched.specs.Watched.{held, returns_to, serves}
use Rattle.mdr_watched.proofs.KeepLaws.{served_keeps}
use Rattle.mdr_viewed.specs.Laws.{UpcallsAreViewed, asks, returns}
use Rattle.mdr_viewed.specs.Viewed.{AreOlder, HasUpcall, IsOrdered, after_beside, viewed, viewing}
use Rattle.mdr_viewed.proofs.Sets.{gains, ordered_kept, renews, sets_are_viewed}
use Rattle.mdr_viewed.proofs.Steps.{served_viewed}

-- what comes after work that is done with the set in the world
goes_beside : {A B : Type 0} (sets : List (List Cell)) (r : Ran A) (go go' : A → World → Ran B) → IsOrdered (left r) → ((x : A) (w : World) → IsOrdered w → go x (viewed sets w) ≡ go' x w) → after (viewing sets r) go ≡ after_beside sets r go'
goes_beside sets (Ended x w) go go' o each = each x w o
goes_beside sets (Stopped kind at w) go go' o each = refl

module _ (d : Driver) (t : ℕ) (set : List Cell) (outer : List (List Cell)) where
  asks_viewed : (asked : Asked) (w : World) → HasUpcall w → AreOlder (set ∷ outer) w → IsOrdered w → serves d (held d) t asked (viewed (set ∷ outer) w) ≡ asks d t set outer asked w
  asks_viewed asked w e older o =
      ap (λ r. after r (λ results w'. Ended results (gained d.program (touched_by d.plan t) (next_serial w) w'))) (served_viewed d.program asked (set ∷ outer) w (record { upcall = e; older = older; some = refl }))
      ∙ goes_beside (set ∷ outer) (served d.program asked w) _ _ (served_keeps IsOrdered ordered_kept d.program asked w o).at_end
      (λ results w' o'. ap (Ended results) (gains d.program (touched_by d.plan t) (next_serial w) set outer w' o'))

  -- the set that a result leads to
  found_viewed : (r : Result (List Cell) Failing) (at : At) (v : Wire) (w : World) → ((found : List Cell) → r ≡ Ok found → AreLive w.memory found)
      → taken r at (viewed (set ∷ outer) w) (λ found. Ended v (renewed found (viewed (set ∷ outer) w))) ≡ taken r at (viewed (set ∷ outer) w) (λ found. Ended v (viewed (found ∷ outer) w))
  found_viewed (Ok found) at v w live = ap (Ended v) (renews set found outer w (live found refl))
  found_viewed (Err failing) at v w live = refl

  returns_viewed : (at : At) (f : ℕ) (args : List Wire) (v : Wire) (w : World) → IsOrdered w → returns_to d (held d) t at f args v (viewed (set ∷ outer) w) ≡ returns d t set outer at f args v w
  returns_viewed at f args v w o =
      ap (λ r. taken r at (viewed (set ∷ outer) w) (λ found. Ended v (renewed found (viewed (set ∷ outer) w)))) (sets_are_viewed.known d.program (touched_by d.plan t) w.memory set (result_roots d.program f args v))
      ∙ found_viewed _ at v w (λ found is. sets_are_viewed.taken d.program (touched_by d.plan t) set (result_roots d.program f args v) found w o is)

pub upcalls_are_viewed : UpcallsAreViewed
upcalls_are_viewed = record {
  asks = λ d t set outer asked w e older o. asks_viewed d t set outer asked w e older o;
  back = λ d t set outer at f args v w older o. returns_viewed d t set outer at f args v w o;
}
