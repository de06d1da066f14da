-- believed
-- What a call of a service asks for.
use Rattle.std.specs.Prelude.{ℕ, List, [], ◌∷◌, Option, Some, None, unwrap_or}
use Rattle.mdr_core.specs.declared.types.Ty.{Ty}
use Rattle.mdr_core.specs.declared.place.At.{At}
use Rattle.mdr_core.specs.Code.{CallOf}
use Rattle.mdr_core.specs.Services.{Service, Kzalloc, Kcalloc, Printk, Deliver, service_numbered}
use Rattle.mdr_meaning.specs.declared.wire.Wire.{Wire}
use Rattle.mdr_meaning.specs.declared.shape.Shape64.{Shape64}
use Rattle.mdr_meaning.specs.Lives.{asked_for}
use Rattle.mdr_meaning.specs.Numbers.{Numbered, type_number}
use Rattle.mdr_meaning.specs.Printed.{print_text}
use Rattle.mdr_meaning.specs.Tree.{Tree}
use Rattle.mdr_meaning.specs.Values.{first_of, natural, rest_of, saturated_u64}

-- so many elements of the type that an allocation names
abbrev pub allocated : Numbered → Option Ty → (count : ℕ) → List Shape64
allocated known None count = []
allocated known (Some ty) count = record { ty = type_number known ty; count = count } ∷ []

-- how many a call asks for: a number of 64 bits
abbrev pub counted : Wire → ℕ
counted v = saturated_u64 (natural v)

-- a question, and the first result is the value of the call
abbrev pub asks : (service : ℕ) → At → List Wire → List Shape64 → List ℕ → (Wire → Tree) → Tree
asks n at args shapes bytes k = Tree.Ask (asked_for n at args shapes bytes) (λ results. k (first_of results))

module _ (known : Numbered) (n : ℕ) (at : At) (form : CallOf) (vs : List Wire) where
  -- an allocation asks with its shape, a text with its bytes, and `deliver` with the bytes that it reads; any other service with its arguments
  abbrev pub serves_by : Option Service → (Wire → Tree) → Tree
  serves_by (Some Kzalloc) k = asks n at [] (allocated known form.shape 1) [] k
  serves_by (Some Kcalloc) k = asks n at [] (allocated known form.shape (counted (first_of vs))) [] k
  serves_by (Some Printk) k = asks n at [] [] (print_text (unwrap_or form.format []) vs) k
  serves_by (Some Deliver) k = Tree.Read at (first_of vs) (counted (first_of (rest_of vs))) (λ bytes. asks n at [] [] bytes k)
  serves_by _ k = asks n at vs [] [] k

  abbrev pub serves : (Wire → Tree) → Tree
  serves k = serves_by (service_numbered n) k
