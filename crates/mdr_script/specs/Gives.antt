-- believed
-- What a function returned is what is read, unless memory ran out.
use Rattle.std.specs.Prelude.{◌≡◌, Bool, if◌then◌else◌, List, Option, Some, None, Result, Ok, Err, ℕ}
use Rattle.mdr_script.specs.declared.unread.Unread.{Unread}
use Rattle.mdr_script.specs.declared.unread.Unread.TheVariants.{Refused, OutOfMemory}

infixl 10 ◌>>=◌
abbrev pub ◌>>=◌ : {A B : Type 0} → Option A → (A → Option B) → Option B
(Some x) >>= f = f x
None >>= f = None

abbrev pub when : {A : Type 0} → Bool → Option A → Option A
when b o = if b then o else None

-- what is read at the front, and what stands behind it
abbrev pub Read : Type 0 → Type 0
Read A = Option (A × List ℕ)

abbrev pub Fails : {A : Type 0} → Unread → Option A → Type 0
Fails Refused read = read ≡ None
Fails OutOfMemory read = Unit {0}

abbrev pub Gives : {X A : Type 0} → (X → A) → Result X Unread → Option A → Type 0
Gives view (Ok x) read = read ≡ Some (view x)
Gives view (Err e) read = Fails e read
