-- believed
-- Steps of reading, which may meet a fault.
use Rattle.std.specs.Prelude.{◌≡◌, Option, Some, None, Result, Ok, Err}
use Rattle.mdr_syntax.specs.declared.error.LexError.{LexError}
use Rattle.mdr_syntax.specs.declared.error.LexError.TheVariants.{BadByte, BadNumber, OpenComment, OpenText, OutOfMemory}

infixl 10 ◌>>=◌
abbrev pub ◌>>=◌ : {A B : Type 0} → Result A LexError → (A → Result B LexError) → Result B LexError
(Ok x) >>= f = f x
(Err e) >>= f = Err e

abbrev pub or_fault : {A : Type 0} → Option A → LexError → Result A LexError
or_fault (Some x) e = Ok x
or_fault None e = Err e

-- what a function returned is what reading gives, unless memory ran out
abbrev pub Fails : {Y : Type 0} → LexError → Result Y LexError → Type 0
Fails (BadByte p) read = read ≡ Err (BadByte p)
Fails (BadNumber p) read = read ≡ Err (BadNumber p)
Fails (OpenComment p) read = read ≡ Err (OpenComment p)
Fails (OpenText p) read = read ≡ Err (OpenText p)
Fails OutOfMemory read = Unit {0}

abbrev pub Gives : {Y : Type 0} → Result Y LexError → Result Y LexError → Type 0
Gives (Ok x) read = read ≡ Ok x
Gives (Err e) read = Fails e read
