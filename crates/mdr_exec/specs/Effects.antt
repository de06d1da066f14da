-- protocol
-- What statements do to the memory and to their function's locals, and how they end.
use Rattle.std.specs.Prelude.{◌≡◌, ℕ, suc, List, [], ◌∷◌, Option, Some, None, Result, Ok, Err, slice_set, pos}
use Rattle.mdr_core.specs.declared.kind.Kind.{Kind}
use Rattle.mdr_core.specs.declared.stop.StopKind.{StopKind}
use Rattle.mdr_core.specs.declared.place.At.{At}
use Rattle.mdr_core.specs.Code.{Term, Lvalue, Goal}
use Rattle.mdr_core.specs.Conversions.{converted}
use Rattle.mdr_meaning.specs.declared.wire.Wire.{Wire}
use Rattle.mdr_meaning.specs.declared.wire.Wire.TheVariants as wire
use Rattle.mdr_meaning.specs.Calls.{received}
use Rattle.mdr_meaning.specs.Cut.{cut}
use Rattle.mdr_meaning.specs.Expressions.{slot_of}
use Rattle.mdr_meaning.specs.Lives.{with_object}
use Rattle.mdr_meaning.specs.Named.{named_type}
use Rattle.mdr_meaning.specs.Numbers.{Numbered}
use Rattle.mdr_meaning.specs.Sides.{Here, Locals, Flow, Ends, Returns}
use Rattle.mdr_meaning.specs.Statements.{element}
use Rattle.mdr_meaning.specs.Tree.{Tree}
use Rattle.mdr_meaning.specs.Walk.{Accesses, on_access, walk}
use Rattle.mdr_events.specs.Steps.{Left}
use Rattle.mdr_exec.specs.Evaluation.{value_of, place_of}

-- ---- what was done

-- what work came to, and the memory then
pub record Did (A M : Type 0) : Type 0 where
  pub result : Result A StopKind
  pub memory : M

abbrev pub did : {A M : Type 0} → Result A StopKind → M → Did A M
did x m = record { result = x; memory = m }

-- what is done after it
abbrev pub after_result : {A B M : Type 0} → Result A StopKind → M → (A → M → Did B M) → Did B M
after_result (Ok x) m go = go x m
after_result (Err kind) m go = did (Err kind) m

abbrev pub after_did : {A B M : Type 0} → Did A M → (A → M → Did B M) → Did B M
after_did d go = after_result d.result d.memory go

abbrev pub ended : {M : Type 0} → Flow → Locals → M → Did Left M
ended flow l m = did (Ok (record { flow = flow; locals = l })) m

-- ---- what is done

module _ {M : Type 0} (a : Accesses M) where
  -- a store, and what it leaves the statement with
  abbrev pub stored : {A : Type 0} → Wire → Wire → A → M → Did A M
  stored p v x m = after_result (a.store m p v) m (λ m' old. did (Ok x) m')

  -- a store where a place was found
  abbrev pub stored_by : {A : Type 0} → (found : Result Wire StopKind) → Wire → A → M → Did A M
  stored_by found v x m = after_result found m (λ p. stored p v x)

  -- a value is put where an lvalue says, given its place (6.5.16.1)
  abbrev pub put_by : Lvalue → (found : Result Wire StopKind) → Wire → Locals → M → Did Locals M
  put_by (Lvalue.Slot i) found v l m = did (Ok (record { slots = slice_set l.slots i v; born = l.born })) m
  put_by _ found v l m = stored_by found v l m

  unfoldable pub put_of : Numbered → Lvalue → Wire → Locals → M → Did Locals M
  put_of known p v l m = put_by p (place_of a m known l.slots p) v l m

  -- the value of a call
  abbrev pub keep_of : Numbered → Here → Goal → Wire → Locals → M → Did Left M
  keep_of known here Goal.Nowhere v l m = ended Ends l m
  keep_of known here (Goal.Into p) v l m =
      after_result (received known (named_type known.program here.slots p) v) m (λ x m'. after_did (put_of known p x l m') (ended Ends))
  keep_of known here Goal.Back v l m = after_result (received known (Some here.result) v) m (λ x. ended (Returns x) l)

  -- an assignment: the right side, and then the left
  abbrev pub assigned : Numbered → Lvalue → Term → Locals → M → Did Left M
  assigned known p e l m = after_result (value_of a m known l.slots e) m (λ v m'. after_did (put_of known p v l m') (ended Ends))

  -- a return
  abbrev pub returned_by : Numbered → Option Term → Locals → M → Did Left M
  returned_by known None l m = ended (Returns wire.NoValue) l m
  returned_by known (Some e) l m = after_result (value_of a m known l.slots e) m (λ v. ended (Returns v) l)

  -- the bytes of a text go into the elements from i on (6.7.8, paragraph 14)
  unfoldable pub texts_of : Kind → Wire → ℕ → List ℕ → Locals → M → Did Left M
  texts_of kind p i [] l m = ended Ends l m
  texts_of kind p i (b ∷ bs) l m = after_did (stored (element p i) (wire.Int kind (converted kind (pos b))) l m) (texts_of kind p (suc i) bs)

  -- the object of a parameter is given its value
  abbrev pub fill_of : ℕ → Wire → Locals → M → Did Locals M
  fill_of i p l m = stored p (slot_of l.slots i) (with_object i p l) m

  -- and those of all
  unfoldable pub fills_of : List ℕ → List Wire → Locals → M → Did Locals M
  fills_of (i ∷ is) (p ∷ ps) l m = after_did (fill_of i p l m) (fills_of is ps)
  fills_of is ps l m = did (Ok l) m

  -- work in a tree does so much, and then the tree goes on
  pub record Does (at : At) (A : Type 0) (f : (A → Tree) → Tree) (m : M) (d : Did A M) : Type 0 where
    pub by : (n r : ℕ) (k : A → Tree) → walk a n (cut r (f k)) m ≡ on_access d.result at d.memory n (λ x. walk a n (cut r (k x)) d.memory)
