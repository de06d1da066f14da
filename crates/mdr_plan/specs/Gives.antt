-- believed
-- What a function returned is what is read, unless memory ran out.
use Rattle.std.specs.Prelude.{◌≡◌, Option, Some, None, Result, Ok, Err}
use Rattle.mdr_plan.specs.declared.unread.Unread.{Unread}
use Rattle.mdr_plan.specs.declared.unread.Unread.TheVariants.{Refused, OutOfMemory}

infixl 10 ◌>>=◌
abbrev pub ◌>>=◌ : {A B : Type 0} → Option A → (A → Option B) → Option B
(Some x) >>= f = f x
None >>= f = None

abbrev pub Fails : {A : Type 0} → Unread → Option A → Type 0
Fails Refused read = read ≡ None
Fails OutOfMemory read = Unit {0}

abbrev pub Gives : {X A : Type 0} → (X → A) → Result X Unread → Option A → Type 0
Gives view (Ok x) read = read ≡ Some (view x)
Gives view (Err e) read = Fails e read

-- what was found is one of these, and where none was found there is none
abbrev pub Misses : {A : Type 0} → Unread → (A → Type 0) → Type 0
Misses {A = A} Refused P = (x : A) → P x → ⊥
Misses OutOfMemory P = Unit {0}

abbrev pub Finds : {A : Type 0} → (A → Type 0) → Result A Unread → Type 0
Finds P (Ok x) = P x
Finds P (Err e) = Misses e P
