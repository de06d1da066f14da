-- protocol
-- What a reader of messages answers.
use Rattle.std.specs.Prelude.{◌≡◌, ℕ, List, Result, Ok, Err}
use Rattle.mdr_core.specs.declared.refusal.RefuseKind.TheVariants as refusal
use Rattle.mdr_model.specs.declared.message.Fault.{Fault}
use Rattle.mdr_model.specs.Faults.{fault}
use Rattle.mdr_model.specs.Xdr.{Input, Read}
use Rattle.mdr_xdr.specs.declared.cursor.XdrError.{XdrError}
use Rattle.mdr_xdr.specs.declared.cursor.XdrError.TheVariants as xdr
use Rattle.mdr_xdr.specs.Reads.{input_at}
use Rattle.mdr_msg.specs.declared.error.MsgError.{MsgError}
use Rattle.mdr_msg.specs.declared.error.MsgError.TheVariants as errors

abbrev pub error_of : XdrError → MsgError
error_of (xdr.Short at) = errors.Short at
error_of (xdr.Range at) = errors.Range at
error_of (xdr.Padding at) = errors.Padding at

-- reading gives this error's fault. Want of memory says nothing of the bytes
abbrev pub Fails : {A : Type 0} → MsgError → Result A Fault → Type 0
Fails (errors.Short at) read = read ≡ Err (fault refusal.Short at)
Fails (errors.Range at) read = read ≡ Err (fault refusal.Range at)
Fails (errors.Padding at) read = read ≡ Err (fault refusal.Padding at)
Fails (errors.Kind at) read = read ≡ Err (fault refusal.Kind at)
Fails (errors.Trailing at) read = read ≡ Err (fault refusal.Trailing at)
Fails errors.OutOfMemory read = Unit {0}

-- The result is what reading the bytes at an offset gives, and the cursor goes behind what was read.
abbrev pub Gives : {A : Type 0} → List ℕ → (before after : ℕ) → Result A MsgError → (Input → Read A) → Type 0
Gives bytes before after (Ok x) reader = reader (input_at bytes before) ≡ Ok (x, input_at bytes after)
Gives bytes before after (Err e) reader = Fails e (reader (input_at bytes before))

-- The result is what reading gives, unless memory was wanting.
abbrev pub Reads : {A : Type 0} → Result A MsgError → Result A Fault → Type 0
Reads (Ok x) read = read ≡ Ok x
Reads (Err e) read = Fails e read
