-- protocol
-- Reading a line.
use Rattle.std.specs.Prelude.{ℕ, ◌+◌, ◌-◌, ◌^◌, Bool, true, false, ◌==◌, ◌&&◌, nat_lt, nat_le, if◌then◌else◌, List, length, drop, Option, Some, None, codes, decimal}
use Rattle.std.specs.List.{list_all}
use Rattle.std.specs.Str.{bytes_eq}
use Rattle.mdr_core.specs.declared.plan.Half.{Half}
use Rattle.mdr_core.specs.declared.plan.Half.TheVariants.{Kernel, User}
use Rattle.mdr_core.specs.declared.plan.Key.{Key}
use Rattle.mdr_core.specs.declared.plan.Key.TheVariants.{Global, Field, Elem}
use Rattle.mdr_core.specs.TypeText.{is_before}
use Rattle.mdr_plan.specs.declared.line.Line.{Line}
use Rattle.mdr_plan.specs.declared.line.Line.TheVariants as line
use Rattle.mdr_plan.specs.declared.reader.Reader.{Reader}
use Rattle.mdr_plan.specs.Front.{strip, word_at}
use Rattle.mdr_plan.specs.Gives.{◌>>=◌}
use Rattle.mdr_plan.specs.Numbers.{number_of}
use Rattle.mdr_plan.specs.Naming.{small, is_new, struct_number}
use Rattle.mdr_plan.specs.TypeReading.{when, pointer_of}
use Rattle.mdr_plan.specs.Lines.{begins, takes_types, takes_functions, takes_downs, takes_ups, takes_keys, ends, first_text, is_kernel, is_next_user, is_after, is_there}

abbrev pub or_else : {A : Type 0} → Option A → Option A → Option A
or_else (Some x) o = Some x
or_else None o = o

-- what stands behind a word and a number
unfoldable pub behind_number : (word : List ℕ) → ℕ → List ℕ → Option (List ℕ)
behind_number word k bytes = do
  rest ← strip word bytes
  strip (decimal k) rest

unfoldable pub small_number_of : List ℕ → Option ℕ
small_number_of bytes = number_of bytes >>= small

unfoldable pub global_of : List ℕ → Option Key
global_of bytes = do
  rest ← strip (codes " global ") bytes
  g ← small_number_of rest
  Some (Global g)

unfoldable pub field_of : List ℕ → Option Key
field_of bytes = do
  rest ← strip (codes " field ") bytes
  s ← small_number_of (word_at rest).0
  more ← strip (codes " ") (word_at rest).1
  f ← small_number_of more
  Some (Field s f)

unfoldable pub elem_of : List ℕ → Option Key
elem_of bytes = do
  rest ← strip (codes " elem ") bytes
  t ← small_number_of rest
  Some (Elem t)

abbrev pub key_of : List ℕ → Option Key
key_of bytes = or_else (global_of bytes) (or_else (field_of bytes) (elem_of bytes))

unfoldable pub place_of : List ℕ → Option (Half × Bool)
place_of bytes =
    if bytes_eq bytes (codes " kernel") then Some (Kernel, false)
    else (if bytes_eq bytes (codes " kernel root") then Some (Kernel, true)
    else (if bytes_eq bytes (codes " user") then Some (User, false)
    else (if bytes_eq bytes (codes " user root") then Some (User, true)
    else None)))

-- ---- lines

unfoldable pub heading_at : Reader → List ℕ → Option Line
heading_at r bytes = when (bytes_eq bytes (codes "plan 1") && begins r.stage) (Some line.Heading)

unfoldable pub end_at : Reader → List ℕ → Option Line
end_at r bytes = when (bytes_eq bytes (codes "end") && (ends r.stage && nat_lt 8 (length r.plan.types) && list_all is_kernel (drop r.ups r.plan.halves))) (Some line.End)

unfoldable pub first_at : Reader → List ℕ → Option Line
first_at r text = when (takes_types r.stage && nat_lt (length r.plan.types) 9 && bytes_eq text (first_text (length r.plan.types))) (Some line.First)

unfoldable pub struct_at : Reader → List ℕ → Option Line
struct_at r text = do
  name ← strip (codes "struct ") text
  when (takes_types r.stage && (length r.plan.types == 9 + length r.structs) && nat_lt (length r.structs) (2 ^ 32) && is_new r.structs name) (Some (line.Struct name))

unfoldable pub pointer_at : Reader → List ℕ → Option Line
pointer_at r text = do
  ty ← pointer_of (struct_number r.structs) text
  when (takes_types r.stage && nat_lt 8 (length r.plan.types) && is_before r.last text) (Some (line.Type ty text))

unfoldable pub type_line_at : Reader → List ℕ → Option Line
type_line_at r bytes = do
  rest ← behind_number (codes "type ") (length r.plan.types) bytes
  text ← strip (codes " ") rest
  or_else (first_at r text) (or_else (struct_at r text) (pointer_at r text))

unfoldable pub function_line_at : Reader → List ℕ → Option Line
function_line_at r bytes = do
  rest ← behind_number (codes "function ") (length r.plan.names) bytes
  text ← strip (codes " ") rest
  place ← place_of (word_at text).1
  when (takes_functions r.stage && nat_lt 8 (length r.plan.types) && is_new r.plan.names (word_at text).0) (Some (line.Function (word_at text).0 place.0 place.1))

unfoldable pub down_line_at : Reader → List ℕ → Option Line
down_line_at r bytes = do
  rest ← strip (codes "down ") bytes
  k ← number_of rest
  when (takes_downs r.stage && nat_le r.low k && nat_lt k (length r.plan.down)) (Some (line.Down k))

unfoldable pub up_line_at : Reader → List ℕ → Option Line
up_line_at r bytes = do
  rest ← strip (codes "up ") bytes
  k ← number_of rest
  when (takes_ups r.stage && is_next_user r k) (Some (line.Up k))

unfoldable pub key_line_at : Reader → List ℕ → Option Line
key_line_at r bytes = do
  rest ← behind_number (codes "key ") (r.ups - 1) bytes
  key ← key_of rest
  when (takes_keys r.stage && is_there (length r.structs) (length r.plan.types) key && is_after r.last_key key) (Some (line.Key key))

-- each word begins lines of one kind
unfoldable pub stub_at : Reader → List ℕ → Option Line
stub_at r bytes = or_else (down_line_at r bytes) (or_else (up_line_at r bytes) (or_else (key_line_at r bytes) (end_at r bytes)))

unfoldable pub line_at : Reader → List ℕ → Option Line
line_at r bytes = or_else (heading_at r bytes) (or_else (type_line_at r bytes) (or_else (function_line_at r bytes) (stub_at r bytes)))
