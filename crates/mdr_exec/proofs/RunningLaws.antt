-- Starting, answering and running held work.
use Rattle.std.proofs.Common.{◌≡◌, ℕ, zero, suc, ◌+◌, ◌≤◌, true, List, [], Some, refl, ap, ◌∙◌, sym, le_refl, arith}
use Rattle.mdr_core.specs.declared.place.At.{At}
use Rattle.mdr_core.specs.declared.types.Ty.TheVariants.{Void}
use Rattle.mdr_core.specs.Code.{Code}
use Rattle.mdr_meaning.specs.declared.wire.Wire.{Wire}
use Rattle.mdr_meaning.specs.Bodies.{means, started}
use Rattle.mdr_meaning.specs.Calls.{goes_to}
use Rattle.mdr_meaning.specs.Cut.{cut, cut_next, SameCut}
use Rattle.mdr_meaning.specs.Sides.{Body, Side, in_here}
use Rattle.mdr_meaning.specs.Tree.{Tree}
use Rattle.mdr_meaning.specs.Walk.{Accesses, walk}
use Rattle.mdr_meaning.proofs.AlikeLaws.{started_alike}
use Rattle.mdr_meaning.proofs.CutLaws.{cut_alike, cut_cut}
use Rattle.mdr_events.specs.Held.{Frame, Front, Runs, Unwinds, Comes, Enters, Fills, Born, WaitsValue, WaitsParams, WaitsObject, WaitsDeath, Item, Held, carry, bare, tree}
use Rattle.mdr_events.specs.Running.{FunctionsAreStarted, QuestionsAreAnswered, StatementsWantTicks, RunsTo, RunsAreMade, answered, started_over}
use Rattle.mdr_events.specs.Ready.{is_waiting}
use Rattle.mdr_events.specs.Steps.{child, Came, Goes, IsSame, Steps, Ticks}

-- ---- started

start_is : (side : Side) (h : Held) (func : ℕ) (body : Body) (args : List Wire) (depth : ℕ) → side.own func ≡ Some body → (f : ℕ)
    → bare side f (started_over h func body args depth) ≡ started side (suc f) func args depth (bare side f h)
unfolding bare carry started
start_is side h func body args depth is f =
    ap (λ o. goes_to side (means side (suc f)) (record { func = func; depth = depth; slots = []; result = Void }) (record { func = func; stmt = 0 }) func args o (λ v. Tree.Done v (bare side f h))) (sym is)

pub functions_are_started : FunctionsAreStarted
unfolding tree
functions_are_started side h func body args depth is f r fewer =
    ap (cut r) (start_is side h func body args depth is f)
    ∙ (started_alike SameCut cut_alike side (suc f) (suc f) r func (omega (arith, fewer)) (omega (arith, fewer)) args depth (bare side f h) (tree side f h r)
    (λ q less. record { is = sym (cut_cut q r less (bare side f h)) })).is

-- ---- answered

answer_is : (side : Side) (frame : Frame) (items : List Item) (results : List Wire) (front : Front) → is_waiting front ≡ true → (f r : ℕ)
    → tree side f (record { frame = frame; front = answered front frame.here results; items = items }) r ≡ child (tree side f (record { frame = frame; front = front; items = items }) r) results
unfolding tree bare cut
answer_is side frame items results (WaitsValue n goal) h f r = refl
answer_is side frame items results (WaitsParams count) h f r = refl
answer_is side frame items results (WaitsObject i) h f r = refl
answer_is side frame items results (WaitsDeath flow) h f r = refl
answer_is side frame items results Runs h f r = absurd (cc h)
answer_is side frame items results (Unwinds flow) h f r = absurd (cc h)
answer_is side frame items results (Comes n goal v) h f r = absurd (cc h)
answer_is side frame items results Enters h f r = absurd (cc h)
answer_is side frame items results (Fills is ps) h f r = absurd (cc h)
answer_is side frame items results (Born i p) h f r = absurd (cc h)

pub questions_are_answered : QuestionsAreAnswered
questions_are_answered side h results waiting f r = answer_is side h.frame h.items results h.front waiting f r

-- ---- a tick is wanted

cut_tick : (r : ℕ) (at : At) (d : ℕ) (t : Tree) → cut r (Tree.Tick at d t) ≡ Tree.Tick at d (cut_next r at t)
unfolding cut
cut_tick zero at d t = refl
cut_tick (suc r) at d t = refl

pub statements_want_ticks : StatementsWantTicks
unfolding tree bare means
statements_want_ticks side here l (Code.Declare n i) more items h = record { by = λ f r. (_, cut_tick r (in_here here n) here.depth _) }
statements_want_ticks side here l (Code.Text n i bytes) more items h = record { by = λ f r. (_, cut_tick r (in_here here n) here.depth _) }
statements_want_ticks side here l (Code.Assign n p e) more items h = record { by = λ f r. (_, cut_tick r (in_here here n) here.depth _) }
statements_want_ticks side here l (Code.Call n goal form) more items h = record { by = λ f r. (_, cut_tick r (in_here here n) here.depth _) }
statements_want_ticks side here l (Code.If n e one other) more items h = record { by = λ f r. (_, cut_tick r (in_here here n) here.depth _) }
statements_want_ticks side here l (Code.Loop n e step body) more items h = record { by = λ f r. (_, cut_tick r (in_here here n) here.depth _) }
statements_want_ticks side here l (Code.Block body) more items h = absurd (cc h)
statements_want_ticks side here l (Code.Return n e) more items h = record { by = λ f r. (_, cut_tick r (in_here here n) here.depth _) }
statements_want_ticks side here l (Code.Jump n way) more items h = record { by = λ f r. (_, cut_tick r (in_here here n) here.depth _) }

-- ---- runs

module _ {M : Type 0} (a : Accesses M) (side : Side) (h : Held) (m : M) (ticks : ℕ) where
  further : (h1 h2 : Held) (m1 m2 : M) (left left2 : ℕ) (came : Came) → RunsTo a side h m ticks Goes h1 m1 left → RunsTo a side h1 m1 left came h2 m2 left2 → RunsTo a side h m ticks came h2 m2 left2
  further h1 h2 m1 m2 left left2 came p q = record {
    fewer = let x : left ≤ ticks = p.fewer in let y : left2 ≤ left = q.fewer in omega (arith, x, y);
    by = λ f n r less. let x : left ≤ ticks = p.fewer in let enough : left + r ≤ f = omega (arith, x, less) in p.by f n r less ∙ q.by f n r enough;
    leaves = λ r. q.leaves (p.leaves r);
  }

  by_same : (h1 h2 : Held) (m1 : M) (left : ℕ) → IsSame side h1 h2 → RunsTo a side h1 m1 left Goes h2 m1 left
  by_same h1 h2 m1 left s = record { fewer = le_refl left; by = λ f n r less. ap (λ t. walk a (left + n) t m1) (s.by f (left + r)); leaves = s.ready }

  by_step : (h1 h2 : Held) (m1 m2 : M) (left : ℕ) (came : Came) → Steps a side h1 m1 came h2 m2 → RunsTo a side h1 m1 left came h2 m2 left
  by_step h1 h2 m1 m2 left came s = record { fewer = le_refl left; by = λ f n r less. s.by f (left + n) (left + r) less; leaves = s.leaves }

  by_tick : (h1 h2 : Held) (m1 m2 : M) (left : ℕ) (came : Came) → Ticks a side h1 m1 came h2 m2 → RunsTo a side h1 m1 (suc left) came h2 m2 left
  by_tick h1 h2 m1 m2 left came s = record {
    fewer = omega arith;
    by = λ f n r less.
        let one : suc left + n ≡ suc (left + n) = omega arith in
        let two : suc left + r ≡ suc (left + r) = omega arith in
        let enough : suc (left + r) ≤ f = omega (arith, less) in
        ap (λ x. walk a x (tree side f h1 (suc left + r)) m1) one ∙ ap (λ x. walk a (suc (left + n)) (tree side f h1 x) m1) two ∙ s.by f (left + n) (left + r) enough;
    leaves = s.leaves;
  }

  pub runs_are_made : RunsAreMade a side h m ticks
  runs_are_made = record {
    begins = record { fewer = le_refl ticks; by = λ f n r less. refl; leaves = λ r. r };
    same = λ h1 h2 m1 left p s. further h1 h2 m1 m1 left left Goes p (by_same h1 h2 m1 left s);
    step = λ h1 h2 m1 m2 left came p s. further h1 h2 m1 m2 left left came p (by_step h1 h2 m1 m2 left came s);
    tick = λ h1 h2 m1 m2 left came p s. further h1 h2 m1 m2 (suc left) left came p (by_tick h1 h2 m1 m2 left came s);
    further = further;
  }
