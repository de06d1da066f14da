-- believed
-- Reading a plan's text line by line.
use Rattle.std.specs.Prelude.{◌≡◌, ℕ, ◌+◌, ◌-◌, true, false, ◌==◌, if◌then◌else◌, List, [], ◌∷◌, ◌++◌, length, Option, Some, None, Result, Ok, Err, slice_get, slice_set}
use Rattle.mdr_core.specs.declared.kind.Kind.TheVariants.{U8, U16, U32, U64, S8, S16, S32, S64}
use Rattle.mdr_core.specs.declared.types.Ty.{Ty}
use Rattle.mdr_core.specs.declared.types.Ty.TheVariants as type
use Rattle.mdr_core.specs.declared.plan.Key.{Key}
use Rattle.mdr_core.specs.declared.plan.Plan.{Plan}
use Rattle.mdr_plan.specs.declared.line.Line.{Line}
use Rattle.mdr_plan.specs.declared.line.Line.TheVariants as line
use Rattle.mdr_plan.specs.declared.line.Stage.TheVariants as stage
use Rattle.mdr_plan.specs.declared.reader.Reader.{Reader}
use Rattle.mdr_plan.specs.declared.unread.Unread.{Unread}
use Rattle.mdr_plan.specs.declared.unread.Unread.TheVariants.{Refused, OutOfMemory}
use Rattle.mdr_plan.specs.Lines.{Reads}

-- the next of the types that each table begins with
unfoldable pub first_type : ℕ → Ty
first_type k =
    if k == 0 then type.Int U8
    else (if k == 1 then type.Int U16
    else (if k == 2 then type.Int U32
    else (if k == 3 then type.Int U64
    else (if k == 4 then type.Int S8
    else (if k == 5 then type.Int S16
    else (if k == 6 then type.Int S32
    else (if k == 7 then type.Int S64
    else type.Lock)))))))

abbrev pub empty_plan : Plan
empty_plan = record { types = []; names = []; halves = []; roots = []; down = []; keys = [] }

-- before the first line
abbrev pub start : Reader
start = record { stage = stage.Start; structs = []; last = []; plan = empty_plan; low = 0; ups = 0; last_key = None }

abbrev pub key_added : Option (List Key) → ℕ → Key → List (List Key) → List (List Key)
key_added (Some ks) i key lists = slice_set lists i (ks ++ key ∷ [])
key_added None i key lists = lists

-- the list of this number has one key more
unfoldable pub with_key : ℕ → Key → List (List Key) → List (List Key)
with_key i key lists = key_added (slice_get lists i) i key lists

-- what was read with one line more
abbrev pub after : Reader → Line → Reader
after r line.Heading = record r { stage = stage.Types }
after r line.First = record r { plan = record r.plan { types = r.plan.types ++ first_type (length r.plan.types) ∷ [] } }
after r (line.Struct name) = record r { structs = r.structs ++ name ∷ []; plan = record r.plan { types = r.plan.types ++ type.Struct (length r.structs) ∷ [] } }
after r (line.Type ty text) = record r { last = text; plan = record r.plan { types = r.plan.types ++ ty ∷ [] } }
after r (line.Function name half is_root) = record r { stage = stage.Functions; plan = record r.plan { names = r.plan.names ++ name ∷ []; halves = r.plan.halves ++ half ∷ []; roots = r.plan.roots ++ is_root ∷ []; down = r.plan.down ++ false ∷ []; keys = r.plan.keys ++ [] ∷ [] } }
after r (line.Down k) = record r { stage = stage.Downs; low = k + 1; plan = record r.plan { down = slice_set r.plan.down k true } }
after r (line.Up k) = record r { stage = stage.Ups; ups = k + 1; last_key = None }
after r (line.Key key) = record r { last_key = Some key; plan = record r.plan { keys = with_key (r.ups - 1) key r.plan.keys } }
after r line.End = record r { stage = stage.Done }

-- the text is so many lines, each of which may follow those before it, and this was read
pub data Reached : List ℕ → ℕ → Reader → Type 0 where
  Begun : Reached [] 0 start
  Then : (text bytes : List ℕ) (n : ℕ) (r : Reader) (l : Line) → Reached text n r → Reads r bytes l → Reached (text ++ (bytes ++ 10 ∷ [])) (n + 1) (after r l)

-- no line that may come next has the text
abbrev pub IsRefused : Reader → List ℕ → Type 0
IsRefused r bytes = (l : Line) → Reads r bytes l → ⊥

-- a line that is refused leaves what was read
abbrev pub StepFails : Unread → Reader → List ℕ → Reader → Type 0
StepFails Refused old bytes new = IsRefused old bytes × (new ≡ old)
StepFails OutOfMemory old bytes new = Unit {0}

pub record Stepped (old : Reader) (bytes : List ℕ) (new : Reader) : Type 0 where
  pub line : Line
  pub reads : Reads old bytes line
  pub same : new ≡ after old line

-- what one line did, unless memory ran out
abbrev pub Steps : {A : Type 0} → Reader → List ℕ → Result A Unread → Reader → Type 0
Steps old bytes (Ok x) new = Stepped old bytes new
Steps old bytes (Err e) new = StepFails e old bytes new
