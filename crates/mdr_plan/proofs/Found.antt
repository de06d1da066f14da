-- What is read exactly is found.
use Rattle.std.proofs.Common.{◌≡◌, Option, Some, Result, Ok, Err, sym, ◌∙◌}
use Rattle.mdr_plan.specs.declared.unread.Unread.{Unread}
use Rattle.mdr_plan.specs.declared.unread.Unread.TheVariants.{Refused, OutOfMemory}
use Rattle.mdr_plan.specs.Gives.{Gives, Finds}
use Rattle.mdr_plan.proofs.TypesSound.{none_some}

pub found_by : {A : Type 0} (P : A → Type 0) (result : Result A Unread) (read : Option A) → ((x : A) → read ≡ Some x → P x) → ((x : A) → P x → read ≡ Some x) → Gives (λ x. x) result read → Finds P result
found_by P (Ok x) read is again h = is x h
found_by P (Err Refused) read is again h = λ x p. none_some x (sym h ∙ again x p)
found_by P (Err OutOfMemory) read is again h = tt
