-- Held work is one tree up to so many ticks, whatever its fuel is that is enough for them.
use Rattle.std.proofs.Common.{◌≡◌, ℕ, suc, ◌≤◌, List, [], ◌∷◌, le_refl, arith}
use Rattle.mdr_core.specs.Code.{Codes, Goal}
use Rattle.mdr_events.specs.Held.{Base, Born, Caller, Comes, Enters, Fills, Front, Held, Item, Rest, Runs, Scope, Unwinds, WaitsDeath, WaitsObject, WaitsParams, WaitsValue, Around, bare, carry, front_of, loop_again, tree}
use Rattle.mdr_meaning.specs.declared.wire.Wire.{Wire}
use Rattle.mdr_meaning.specs.Bodies.{means}
use Rattle.mdr_meaning.specs.Cut.{SameCut}
use Rattle.mdr_meaning.specs.Lives.{fills, object_params, param_shapes, with_object}
use Rattle.mdr_meaning.specs.Sides.{Go, Here, Locals, Next, Side, in_here}
use Rattle.mdr_meaning.specs.Statements.{on_ends}
use Rattle.mdr_meaning.specs.Values.{first_of}
use Rattle.mdr_meaning.specs.Calls.{keep}
use Rattle.mdr_meaning.proofs.AlikeLaws.{AreNext, Go_alike, around_alike, closes_alike, ends_alike, go_fewer, keep_alike, means_alike, next_fewer, on_ends_alike}
use Rattle.mdr_meaning.proofs.CutLaws.{cut_alike}
use Rattle.mdr_exec.proofs.AgainLaws.{cut_births, cut_fills}

abbrev Alike : ℕ → Go → Go → Type 0
Alike r go go' = Go_alike SameCut cut_alike r go go'

abbrev NextAlike : ℕ → Next → Next → Type 0
NextAlike r k k' = AreNext SameCut cut_alike r k k'

-- ---- what comes before the statements that follow

module _ (side : Side) (r : ℕ) (here : Here) (l : Locals) (go go' : Go) (k k' : Next) (goes : Alike r go go') (next : NextAlike r k k') where
  went : (x : Locals) → SameCut r (go x k) (go' x k')
  went x = goes.by r (le_refl r) x k k' next

  kept : (n : ℕ) (goal : Goal) (v : Wire) → SameCut r (keep side.known here (in_here here n) goal v l (on_ends go k)) (keep side.known here (in_here here n) goal v l (on_ends go' k'))
  kept n goal v = (keep_alike SameCut cut_alike r side.known here (in_here here n) goal v).by r (le_refl r) l (on_ends go k) (on_ends go' k') (on_ends_alike SameCut cut_alike goes next)

  filled : (is : List ℕ) (ps : List Wire) → SameCut r (fills (in_here here 0) is ps l (λ x. go x k)) (fills (in_here here 0) is ps l (λ x. go' x k'))
  filled is ps = record { is = cut_fills side r (in_here here 0) is ps l _ _ (λ x. (went x).is) }

  front_alike : (front : Front) → SameCut r (front_of side front here l go k) (front_of side front here l go' k')
  front_alike Runs = went l
  front_alike (Unwinds flow) = next.by r (le_refl r) flow l
  front_alike (Comes n goal v) = kept n goal v
  front_alike Enters = record { is = cut_births side r here (param_shapes side.known here.slots) _ _ (λ ps. (filled (object_params 0 here.slots) ps).is) }
  front_alike (Fills is ps) = filled is ps
  front_alike (Born i p) = went (with_object i p l)
  front_alike (WaitsValue n goal) = cut_alike.waits r _ _ (λ rs. kept n goal (first_of rs))
  front_alike (WaitsParams count) = cut_alike.waits r _ _ (λ ps. filled (object_params 0 here.slots) ps)
  front_alike (WaitsObject i) = cut_alike.waits r _ _ (λ ps. went (with_object i (first_of ps) l))
  front_alike (WaitsDeath flow) = cut_alike.waits r _ _ (λ results. next.by r (le_refl r) flow l)

-- ---- what lies around

module _ (side : Side) (f g : ℕ) where
  code_alike : (r : ℕ) → r ≤ f → r ≤ g → (here : Here) (cs : Codes) → Alike r (means side (suc f) here cs) (means side (suc g) here cs)
  code_alike r less less' here cs = (means_alike SameCut cut_alike side (suc f) (suc g) r (omega (arith, less)) (omega (arith, less'))).by here cs

  carry_alike : (r : ℕ) → r ≤ f → r ≤ g → (here : Here) (items : List Item) → NextAlike r (carry side (means side (suc f)) here items) (carry side (means side (suc g)) here items)
  unfolding carry
  carry_alike r less less' here [] = record { by = λ q fewer flow l. cut_alike.idle q }
  carry_alike r less less' here (Rest cs ∷ items) = on_ends_alike SameCut cut_alike (code_alike r less less' here cs) (carry_alike r less less' here items)
  carry_alike r less less' here (Scope outer ∷ items) = ends_alike SameCut cut_alike side here outer (carry_alike r less less' here items)
  carry_alike r less less' here (Around n e step body ∷ items) =
      around_alike SameCut cut_alike (code_alike r less less' here (loop_again n e step body)) (code_alike r less less' here step) (carry_alike r less less' here items)
  carry_alike r less less' here (Caller outer n goal ∷ items) = closes_alike SameCut cut_alike side here (record {
    by = λ q fewer v. kept side q outer.here outer.locals _ _ _ _
        (go_fewer SameCut cut_alike q fewer (code_alike r less less' outer.here outer.ahead)) (next_fewer SameCut cut_alike q fewer (carry_alike r less less' outer.here items)) n goal v;
  })
  carry_alike r less less' here (Base outer front ∷ items) = closes_alike SameCut cut_alike side here (record {
    by = λ q fewer v. cut_alike.done q v _ _ (front_alike side q outer.here outer.locals _ _ _ _
        (go_fewer SameCut cut_alike q fewer (code_alike r less less' outer.here outer.ahead)) (next_fewer SameCut cut_alike q fewer (carry_alike r less less' outer.here items)) front);
  })

  held_alike : (r : ℕ) (h : Held) → r ≤ f → r ≤ g → SameCut r (bare side f h) (bare side g h)
  unfolding bare
  held_alike r h less less' = front_alike side r h.frame.here h.frame.locals _ _ _ _ (code_alike r less less' h.frame.here h.frame.ahead) (carry_alike r less less' h.frame.here h.items) h.front

pub held_fuel : (side : Side) (f g r : ℕ) (h : Held) → r ≤ f → r ≤ g → tree side f h r ≡ tree side g h r
unfolding tree
held_fuel side f g r h less less' = (held_alike side f g r h less less').is
