-- Code that comes later may have one fuel less, as far as the ticks go: a loop's next turn, and a body that is entered.
use Rattle.std.proofs.Common.{◌≡◌, ℕ, suc, ◌≤◌, Bool, true, false, List, [], ◌∷◌, refl, ap, le_refl, arith}
use mathlib.Core.Path.{fun_ext}
use Rattle.mdr_core.specs.declared.place.At.{At}
use Rattle.mdr_core.specs.Code.{Term, Codes}
use Rattle.mdr_meaning.specs.declared.wire.Wire.{Wire}
use Rattle.mdr_meaning.specs.declared.shape.Shape64.{Shape64}
use Rattle.mdr_meaning.specs.Bodies.{means}
use Rattle.mdr_meaning.specs.Cut.{cut, SameCut}
use Rattle.mdr_meaning.specs.Expressions.{slot_of}
use Rattle.mdr_meaning.specs.Lives.{asked_for, births, births_by, deaths, deaths_by, ends, fills, with_object}
use Rattle.mdr_meaning.specs.Sides.{Side, Here, Locals, Flow, Ends, Breaks, Continues, Returns, Next, in_here}
use Rattle.mdr_meaning.specs.Statements.{around, on_ends}
use Rattle.mdr_meaning.specs.Tree.{Tree}
use Rattle.mdr_meaning.proofs.AlikeLaws.{AreNext, means_alike}
use Rattle.mdr_meaning.proofs.CutLaws.{cut_alike}
use Rattle.mdr_events.specs.Held.{loop_again}

abbrev AreNexts : ℕ → Next → Next → Type 0
AreNexts r k k' = AreNext SameCut cut_alike r k k'

equal_next : (r : ℕ) (k : Next) → AreNexts r k k
equal_next r k = record { by = λ q fewer flow l. record { is = refl } }

module _ (side : Side) where
  -- one piece of code, with any two fuels that go as far
  same_code : (f g r : ℕ) → suc r ≤ f → suc r ≤ g → (here : Here) (cs : Codes) (l : Locals) (k k' : Next) → AreNexts r k k' → cut r (means side f here cs l k) ≡ cut r (means side g here cs l k')
  same_code f g r less less' here cs l k k' h = (((means_alike SameCut cut_alike side f g r less less').by here cs).by r (le_refl r) l k k' h).is

  cut_deaths_by : (r : ℕ) (asks : Bool) (at : At) (ps : List Wire) (t u : Tree) → cut r t ≡ cut r u → cut r (deaths_by asks at ps t) ≡ cut r (deaths_by asks at ps u)
  unfolding cut
  cut_deaths_by r true at ps t u h = ap (λ x. Tree.Ask (asked_for 14 at ps [] []) (λ results. x)) h
  cut_deaths_by r false at ps t u h = ap (Tree.Death at ps) h

  cut_deaths : (r : ℕ) (here : Here) (ps : List Wire) (t u : Tree) → cut r t ≡ cut r u → cut r (deaths side here ps t) ≡ cut r (deaths side here ps u)
  cut_deaths r here [] t u h = h
  cut_deaths r here (p ∷ ps) t u h = cut_deaths_by r side.asks (in_here here 0) (p ∷ ps) t u h

  cut_births_by : (r : ℕ) (asks : Bool) (at : At) (shapes : List Shape64) (k k' : List Wire → Tree) → ((ps : List Wire) → cut r (k ps) ≡ cut r (k' ps)) → cut r (births_by asks at shapes k) ≡ cut r (births_by asks at shapes k')
  unfolding cut
  cut_births_by r true at shapes k k' h = ap (Tree.Ask (asked_for 13 at [] shapes [])) (fun_ext h)
  cut_births_by r false at shapes k k' h = ap (Tree.Birth at shapes) (fun_ext h)

  pub cut_births : (r : ℕ) (here : Here) (shapes : List Shape64) (k k' : List Wire → Tree) → ((ps : List Wire) → cut r (k ps) ≡ cut r (k' ps)) → cut r (births side here shapes k) ≡ cut r (births side here shapes k')
  cut_births r here [] k k' h = h []
  cut_births r here (s ∷ shapes) k k' h = cut_births_by r side.asks (in_here here 0) (s ∷ shapes) k k' h

  pub cut_fills : (r : ℕ) (at : At) (is : List ℕ) (ps : List Wire) (l : Locals) (k k' : Locals → Tree) → ((x : Locals) → cut r (k x) ≡ cut r (k' x)) → cut r (fills at is ps l k) ≡ cut r (fills at is ps l k')
  unfolding cut
  cut_fills r at [] ps l k k' h = h l
  cut_fills r at (i ∷ is) [] l k k' h = h l
  cut_fills r at (i ∷ is) (p ∷ ps) l k k' h = ap (Tree.Store at p (slot_of l.slots i)) (cut_fills r at is ps (with_object i p l) k k' h)

  -- the next turn of a loop
  module _ (f : ℕ) (here : Here) (n : ℕ) (e : Term) (step body : Codes) (next : Next) where
    abbrev turn_next : ℕ → Next
    turn_next g = around (means side g here (loop_again n e step body)) (means side (suc f) here step) next

    again_next : (r : ℕ) → suc r ≤ f → AreNexts r (on_ends (means side f here (loop_again n e step body)) next) (on_ends (means side (suc f) here (loop_again n e step body)) next)
    again_next r less = record { by = at } where
      at : (q : ℕ) → q ≤ r → (flow : Flow) (l : Locals)
          → SameCut q (on_ends (means side f here (loop_again n e step body)) next flow l) (on_ends (means side (suc f) here (loop_again n e step body)) next flow l)
      at q fewer Ends l =
          record { is = same_code f (suc f) q (omega (arith, less, fewer)) (omega (arith, less, fewer)) here (loop_again n e step body) l next next (equal_next q next) }
      at q fewer Breaks l = record { is = refl }
      at q fewer Continues l = record { is = refl }
      at q fewer (Returns v) l = record { is = refl }

    stepped : (q r : ℕ) → q ≤ r → suc r ≤ f → (l : Locals)
        → cut q (means side (suc f) here step l (on_ends (means side f here (loop_again n e step body)) next)) ≡ cut q (means side (suc f) here step l (on_ends (means side (suc f) here (loop_again n e step body)) next))
    stepped q r fewer less l =
        let below : suc q ≤ f = omega (arith, less, fewer) in
        let above : suc q ≤ suc f = omega (arith, less, fewer) in
        same_code (suc f) (suc f) q above above here step l _ _ (again_next q below)

    turns_next : (r : ℕ) → suc r ≤ f → (outer : List Wire) → AreNexts r (ends side here outer (turn_next f)) (ends side here outer (turn_next (suc f)))
    turns_next r less outer = record { by = at } where
      at : (q : ℕ) → q ≤ r → (flow : Flow) (l : Locals) → SameCut q (ends side here outer (turn_next f) flow l) (ends side here outer (turn_next (suc f)) flow l)
      at q fewer Ends l = record { is = cut_deaths q here l.born _ _ (stepped q r fewer less (record { slots = l.slots; born = outer })) }
      at q fewer Breaks l = record { is = refl }
      at q fewer Continues l = record { is = cut_deaths q here l.born _ _ (stepped q r fewer less (record { slots = l.slots; born = outer })) }
      at q fewer (Returns v) l = record { is = refl }

    -- the body of a loop goes on with the next turn, whatever fuel that has
    pub turns_again : (r : ℕ) → suc r ≤ f → (l : Locals) (outer : List Wire)
        → cut r (means side (suc f) here body l (ends side here outer (turn_next f))) ≡ cut r (means side (suc f) here body l (ends side here outer (turn_next (suc f))))
    turns_again r less l outer =
        let above : suc r ≤ suc f = omega (arith, less) in
        same_code (suc f) (suc f) r above above here body l _ _ (turns_next r less outer)

  -- a body that is entered, whatever fuel it has
  pub enters_again : (f r : ℕ) → suc r ≤ f → (here : Here) (cs : Codes) (l : Locals) (k : Next) → cut r (means side f here cs l k) ≡ cut r (means side (suc f) here cs l k)
  enters_again f r less here cs l k =
      let above : suc r ≤ suc f = omega (arith, less) in
      same_code f (suc f) r less above here cs l k k (equal_next r k)
