-- believed
-- The lines that may come next, each with its text, where so much was read before. A line's newline isn't part of it.
use Rattle.std.specs.Prelude.{◌≡◌, ℕ, ◌+◌, ◌-◌, ◌^◌, ◌<◌, Bool, true, false, ◌==◌, ◌&&◌, ◌||◌, nat_lt, nat_le, if◌then◌else◌, List, [], ◌++◌, length, take, drop, Option, Some, None, IsTrue, codes, decimal, slice_get}
use Rattle.std.specs.List.{list_all}
use Rattle.mdr_core.specs.declared.plan.Half.{Half}
use Rattle.mdr_core.specs.declared.plan.Half.TheVariants.{Kernel, User}
use Rattle.mdr_core.specs.declared.plan.Key.{Key}
use Rattle.mdr_core.specs.declared.plan.Key.TheVariants.{Global, Field, Elem}
use Rattle.mdr_core.specs.TypeText.{is_before}
use Rattle.mdr_plan.specs.declared.line.Line.{Line}
use Rattle.mdr_plan.specs.declared.line.Line.TheVariants as line
use Rattle.mdr_plan.specs.declared.line.Stage.{Stage}
use Rattle.mdr_plan.specs.declared.line.Stage.TheVariants as stage
use Rattle.mdr_plan.specs.declared.reader.Reader.{Reader}
use Rattle.mdr_plan.specs.Naming.{is_new, struct_number}
use Rattle.mdr_plan.specs.TypeTexts.{IsPointerText}

-- ---- where a line may stand

abbrev pub begins : Stage → Bool
begins stage.Start = true
begins _ = false

abbrev pub takes_types : Stage → Bool
takes_types stage.Types = true
takes_types _ = false

abbrev pub takes_functions : Stage → Bool
takes_functions stage.Types = true
takes_functions stage.Functions = true
takes_functions _ = false

abbrev pub takes_downs : Stage → Bool
takes_downs stage.Functions = true
takes_downs stage.Downs = true
takes_downs _ = false

abbrev pub takes_ups : Stage → Bool
takes_ups stage.Functions = true
takes_ups stage.Downs = true
takes_ups stage.Ups = true
takes_ups _ = false

abbrev pub takes_keys : Stage → Bool
takes_keys stage.Ups = true
takes_keys _ = false

abbrev pub ends : Stage → Bool
ends stage.Types = true
ends stage.Functions = true
ends stage.Downs = true
ends stage.Ups = true
ends _ = false

-- ---- types

-- the text of the next of the types that each table begins with
unfoldable pub first_text : ℕ → List ℕ
first_text k =
    if k == 0 then codes "u8"
    else (if k == 1 then codes "u16"
    else (if k == 2 then codes "u32"
    else (if k == 3 then codes "u64"
    else (if k == 4 then codes "s8"
    else (if k == 5 then codes "s16"
    else (if k == 6 then codes "s32"
    else (if k == 7 then codes "s64"
    else codes "combolock_t")))))))

-- ---- functions and keys

abbrev pub is_kernel : Half → Bool
is_kernel Kernel = true
is_kernel User = false

abbrev pub is_user_half : Option Half → Bool
is_user_half (Some User) = true
is_user_half (Some Kernel) = false
is_user_half None = false

abbrev pub half_text : Half → List ℕ
half_text Kernel = codes " kernel"
half_text User = codes " user"

abbrev pub root_text : (is_root : Bool) → List ℕ
root_text true = codes " root"
root_text false = []

abbrev pub key_text : Key → List ℕ
key_text (Global g) = codes " global " ++ decimal g
key_text (Field s f) = codes " field " ++ (decimal s ++ (codes " " ++ decimal f))
key_text (Elem ty) = codes " elem " ++ decimal ty

-- globals, then fields, then types, each rising
unfoldable pub is_after : Option Key → Key → Bool
is_after None k = true
is_after (Some (Global a)) (Global b) = nat_lt a b
is_after (Some (Global a)) (Field s f) = true
is_after (Some (Global a)) (Elem t) = true
is_after (Some (Field r e)) (Global b) = false
is_after (Some (Field r e)) (Field s f) = nat_lt r s || ((r == s) && nat_lt e f)
is_after (Some (Field r e)) (Elem t) = true
is_after (Some (Elem u)) (Global b) = false
is_after (Some (Elem u)) (Field s f) = false
is_after (Some (Elem u)) (Elem t) = nat_lt u t

-- the key's struct or type is there
unfoldable pub is_there : (structs types : ℕ) → Key → Bool
is_there structs types (Global g) = true
is_there structs types (Field s f) = nat_lt s structs
is_there structs types (Elem t) = nat_lt t types

-- the key's numbers are of 32 bits
abbrev pub IsSmall : Key → Type 0
IsSmall (Global g) = g < 2 ^ 32
IsSmall (Field s f) = (s < 2 ^ 32) × (f < 2 ^ 32)
IsSmall (Elem t) = t < 2 ^ 32

-- ---- lines

abbrev pub numbered : (word : List ℕ) → ℕ → List ℕ → List ℕ
numbered word k rest = word ++ (decimal k ++ rest)

-- the text of a line
abbrev pub line_text : Reader → Line → List ℕ
line_text r line.Heading = codes "plan 1"
line_text r line.First = numbered (codes "type ") (length r.plan.types) (codes " " ++ first_text (length r.plan.types))
line_text r (line.Struct name) = numbered (codes "type ") (length r.plan.types) (codes " struct " ++ name)
line_text r (line.Type ty text) = numbered (codes "type ") (length r.plan.types) (codes " " ++ text)
line_text r (line.Function name half is_root) = numbered (codes "function ") (length r.plan.names) (codes " " ++ (name ++ (half_text half ++ root_text is_root)))
line_text r (line.Down k) = codes "down " ++ decimal k
line_text r (line.Up k) = codes "up " ++ decimal k
line_text r (line.Key key) = numbered (codes "key ") (r.ups - 1) (key_text key)
line_text r line.End = codes "end"

-- the function is the first of the user half that no `up` line passed
unfoldable pub is_next_user : Reader → ℕ → Bool
is_next_user r k = nat_le r.ups k && is_user_half (slice_get r.plan.halves k) && list_all is_kernel (take (k - r.ups) (drop r.ups r.plan.halves))

-- the line may come next
abbrev pub IsNext : Reader → Line → Type 0
IsNext r line.Heading = IsTrue (begins r.stage)
IsNext r line.First = IsTrue (takes_types r.stage && nat_lt (length r.plan.types) 9)
IsNext r (line.Struct name) = IsTrue (takes_types r.stage && (length r.plan.types == 9 + length r.structs) && nat_lt (length r.structs) (2 ^ 32) && is_new r.structs name)
IsNext r (line.Type ty text) = IsTrue (takes_types r.stage && nat_lt 8 (length r.plan.types)) × IsPointerText (struct_number r.structs) ty text × IsTrue (is_before r.last text)
IsNext r (line.Function name half is_root) = IsTrue (takes_functions r.stage && nat_lt 8 (length r.plan.types) && is_new r.plan.names name)
IsNext r (line.Down k) = IsTrue (takes_downs r.stage && nat_le r.low k && nat_lt k (length r.plan.down)) × (k < 2 ^ 64)
IsNext r (line.Up k) = IsTrue (takes_ups r.stage && is_next_user r k) × (k < 2 ^ 64)
IsNext r (line.Key key) = IsTrue (takes_keys r.stage && is_there (length r.structs) (length r.plan.types) key && is_after r.last_key key) × IsSmall key
IsNext r line.End = IsTrue (ends r.stage && nat_lt 8 (length r.plan.types) && list_all is_kernel (drop r.ups r.plan.halves))

-- the line may come next and has this text
pub record Reads (r : Reader) (bytes : List ℕ) (l : Line) : Type 0 where
  pub next : IsNext r l
  pub same : line_text r l ≡ bytes
