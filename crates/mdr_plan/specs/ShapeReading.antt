-- protocol
-- Reading the form of a line.
use Rattle.std.specs.Prelude.{ℕ, List, Option, Some, None, if◌then◌else◌, codes}
use Rattle.std.specs.Str.{bytes_eq}
use Rattle.mdr_plan.specs.declared.shape.Shape.{Shape}
use Rattle.mdr_plan.specs.declared.shape.Shape.TheVariants as shape
use Rattle.mdr_plan.specs.Front.{strip, word_at}
use Rattle.mdr_plan.specs.Gives.{◌>>=◌}
use Rattle.mdr_plan.specs.Naming.{is_name, any_struct}
use Rattle.mdr_plan.specs.Numbers.{is_number}
use Rattle.mdr_plan.specs.TypeReading.{when, is_empty, type_of}
use Rattle.mdr_plan.specs.LineReading.{or_else, place_of}

-- what stands behind a word and a number
unfoldable pub past_number : (word : List ℕ) → List ℕ → Option (List ℕ)
past_number word bytes = do
  rest ← strip word bytes
  when (is_number (word_at rest).0) (Some (word_at rest).1)

-- a word and a number
unfoldable pub number_shape : (word : List ℕ) → Shape → List ℕ → Option Shape
number_shape word s bytes = do
  rest ← past_number word bytes
  when (is_empty rest) (Some s)

unfoldable pub type_shape : List ℕ → Option Shape
type_shape bytes = do
  rest ← past_number (codes "type ") bytes
  text ← strip (codes " ") rest
  ty ← type_of any_struct text
  Some shape.Type

unfoldable pub function_shape : List ℕ → Option Shape
function_shape bytes = do
  rest ← past_number (codes "function ") bytes
  text ← strip (codes " ") rest
  place ← place_of (word_at text).1
  when (is_name (word_at text).0) (Some shape.Function)

unfoldable pub field_shape : List ℕ → Option Shape
field_shape bytes = do
  rest ← past_number (codes " field ") bytes
  number_shape (codes " ") shape.FieldKey rest

unfoldable pub key_shape : List ℕ → Option Shape
key_shape bytes = do
  rest ← past_number (codes "key ") bytes
  or_else (number_shape (codes " global ") shape.GlobalKey rest) (or_else (field_shape rest) (number_shape (codes " elem ") shape.ElemKey rest))

unfoldable pub word_shape : List ℕ → Option Shape
word_shape bytes = if bytes_eq bytes (codes "plan 1") then Some shape.Heading else (if bytes_eq bytes (codes "end") then Some shape.End else None)

unfoldable pub stub_shape : List ℕ → Option Shape
stub_shape bytes = or_else (number_shape (codes "down ") shape.Down bytes) (or_else (number_shape (codes "up ") shape.Up bytes) (key_shape bytes))

unfoldable pub plain_shape : List ℕ → Option Shape
plain_shape bytes = or_else (word_shape bytes) (or_else (function_shape bytes) (stub_shape bytes))

-- each word begins lines of one form
unfoldable pub shape_at : List ℕ → Option Shape
shape_at bytes = or_else (plain_shape bytes) (type_shape bytes)
