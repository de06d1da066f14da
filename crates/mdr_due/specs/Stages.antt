-- protocol
-- What a stage of the work says: what it goes on with, or what is due.
use Rattle.std.specs.Prelude.{◌≡◌, ℕ, List}
use Rattle.mdr_due.specs.declared.due.Stage.{Stage}
use Rattle.mdr_due.specs.declared.due.Stage.TheVariants as stage
use Rattle.mdr_due.specs.declared.status.Status.{Status}
use Rattle.mdr_outside.specs.Calls.{ShelfCall}
use Rattle.mdr_outside.specs.Sides.{ShelfSide}
use Rattle.mdr_due.specs.Statuses.{Counts, HasReadCause, counts_in}

-- what it goes on with has a property, and status and text that are due another
abbrev pub StageIs : {T : Type 0} → (T → Type 0) → (Status → List ℕ → Type 0) → Stage T → Type 0
StageIs P Q (stage.Goes x) = P x
StageIs P Q (stage.Ends due) = Q due.status due.text.items

-- the same of what it did at a shelf, from the calls before it to those behind it
abbrev pub StageFrom : {T : Type 0} → (List ShelfCall → List ShelfCall → T → Type 0) → (List ShelfCall → List ShelfCall → Status → List ℕ → Type 0) → (old new : List ShelfCall) → Stage T → Type 0
StageFrom P Q old new s = StageIs (P old new) (Q old new) s

abbrev pub HasStageCause : {T : Type 0} → (before after : Counts) → Stage T → Type 0
HasStageCause before after (stage.Goes x) = Unit {0}
HasStageCause before after (stage.Ends due) = HasReadCause before after due.status

-- the same of what a shelf has counted
abbrev pub StageCause : {T : Type 0} → (before after : ShelfSide) → Stage T → Type 0
StageCause before after s = HasStageCause (counts_in before) (counts_in after) s

-- it ends with this status and this text
abbrev pub IsDue : {T : Type 0} → Status → List ℕ → Stage T → Type 0
IsDue s text (stage.Goes x) = ⊥
IsDue s text (stage.Ends due) = (due.status ≡ s) × (due.text.items ≡ text)
