-- protocol
-- What a reader of items answers, and where it leaves the cursor.
use Rattle.std.specs.Prelude.{◌≡◌, ℕ, List, drop, Result, Ok, Err}
use Rattle.mdr_core.specs.declared.refusal.RefuseKind.TheVariants as refusal
use Rattle.mdr_model.specs.declared.message.Fault.{Fault}
use Rattle.mdr_model.specs.Faults.{fault}
use Rattle.mdr_model.specs.Xdr.{Input, Read}
use Rattle.mdr_xdr.specs.declared.cursor.XdrError.{XdrError}
use Rattle.mdr_xdr.specs.declared.cursor.XdrError.TheVariants as errors

-- the bytes from an offset on
abbrev pub input_at : List ℕ → ℕ → Input
input_at bytes at = record { at = at; bytes = drop at bytes }

abbrev pub fault_of : XdrError → Fault
fault_of (errors.Short at) = fault refusal.Short at
fault_of (errors.Range at) = fault refusal.Range at
fault_of (errors.Padding at) = fault refusal.Padding at

-- The result is what reading the bytes at an offset gives, and the cursor goes behind what was read. On a refusal it stays.
abbrev pub Gives : {X A : Type 0} → (X → A) → List ℕ → (before after : ℕ) → Result X XdrError → (Input → Read A) → Type 0
Gives view bytes before after (Ok x) reader = reader (input_at bytes before) ≡ Ok (view x, input_at bytes after)
Gives view bytes before after (Err e) reader = (reader (input_at bytes before) ≡ Err (fault_of e)) × (after ≡ before)
