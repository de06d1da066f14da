-- believed
-- Parameters and locals: what is declared, in which slot, and whether it is an object of its own (C99 6.2.1, 6.7, 6.9.1).
use Rattle.std.specs.Prelude.{ℕ, ◌+◌, ◌==◌, ◌&&◌, ◌||◌, not, nat_lt, Bool, true, false, List, [], ◌∷◌, ◌++◌, length, map, take, slice_get, is_some, Option, Some, None, Result, Ok, Err}
use Rattle.std.specs.Str.{bytes_eq}
use Rattle.mdr_core.specs.declared.place.Place.{Place}
use Rattle.mdr_core.specs.declared.program.Local.{Local}
use Rattle.mdr_core.specs.declared.types.Ty.{Ty, out-Ty}
use Rattle.mdr_core.specs.declared.types.Ty.TheOpen.{Ty-F}
use Rattle.mdr_core.specs.Layout.{chosen}
use Rattle.mdr_syntax.specs.declared.tree.Const.{Const}
use Rattle.mdr_syntax.specs.declared.tree.Const.TheVariants as const
use Rattle.mdr_syntax.specs.declared.tree.Decl.{Decl, out-Decl}
use Rattle.mdr_faults.specs.declared.fault.Fault.{Fault}
use Rattle.mdr_faults.specs.declared.fault.FaultKind.TheVariants.{Redefined, Mismatch, Limit}
use Rattle.mdr_faults.specs.declared.scope.Candidate.{Candidate}
use Rattle.mdr_faults.specs.declared.scope.Member.{Member}
use Rattle.mdr_faults.specs.declared.scope.Object.{Object}
use Rattle.mdr_faults.specs.declared.scope.Scope.{Scope}
use Rattle.mdr_faults.specs.declared.scope.StructEntry.{StructEntry}
use Rattle.mdr_faults.specs.Declarations.{declarator, object_declared}
use Rattle.mdr_faults.specs.Faults.{Checked, Right, refuse, after, demand, told}
use Rattle.mdr_headings.specs.Annotations.{bare}
use Rattle.mdr_headings.specs.Names.{good_params}
use Rattle.mdr_headings.specs.Structs.{is_struct, name_or_none}
use Rattle.mdr_headings.specs.Within.{beside, within}
use Rattle.mdr_operand.specs.declared.room.LocalName.{LocalName}
use Rattle.mdr_operand.specs.Rooms.{local_named}
use Rattle.mdr_operand.specs.Written.{Written, Line, Lines}
use Rattle.mdr_body.specs.declared.here.Here.{Here}
use Rattle.mdr_body.specs.Addresses.{perhaps_takes, takes_along}

-- ---- which structs hold a lock

abbrev pub flag : Option Bool → Bool
flag None = false
flag (Some b) = b

abbrev pub lock_by : (locks : List Bool) → Ty-F Ty → Bool
lock_by locks (Ty-F.Int k) = false
lock_by locks Ty-F.Lock = true
lock_by locks (Ty-F.Struct s) = flag (slice_get locks s)
lock_by locks (Ty-F.Ptr t) = false
lock_by locks Ty-F.VoidPtr = false
lock_by locks (Ty-F.Fun ts) = false
lock_by locks Ty-F.Void = false

-- an object of the type holds a lock, where `locks` says it of the structs
abbrev pub holds_lock : (locks : List Bool) → Ty → Bool
holds_lock locks t = lock_by locks (out-Ty t)

abbrev pub object_lock : (locks : List Bool) → Result Object Fault → Bool
object_lock locks (Ok o) = holds_lock locks o.ty
object_lock locks (Err f) = false

abbrev pub member_lock : (locks : List Bool) → Member → Bool
member_lock locks m = object_lock locks m.means

abbrev pub any_lock : (locks : List Bool) → List Member → Bool
any_lock locks [] = false
any_lock locks (m ∷ ms) = member_lock locks m || any_lock locks ms

-- a struct is made of those before it
unfoldable pub locks_behind : (locks : List Bool) → List StructEntry → List Bool
locks_behind locks [] = locks
locks_behind locks (s ∷ ss) = locks_behind (locks ++ any_lock locks s.members ∷ []) ss

abbrev pub struct_locks : Scope → List Bool
struct_locks scope = locks_behind [] scope.structs

-- ---- what a local is

-- no local holds a lock
abbrev pub without_lock : (locks : List Bool) → Place → Object → Checked Object
without_lock locks p o = chosen (holds_lock locks o.ty) (refuse p Mismatch) (Right o)

unfoldable pub local_object : Scope → (locks : List Bool) → Decl → Checked Object
local_object scope locks d = after (object_declared scope (out-Decl d).place d) (without_lock locks (out-Decl d).place)

-- an array, a struct, and what has its address taken are objects of their own. All others lie in a slot
abbrev pub is_own_object : (is_taken : Bool) → Object → Bool
is_own_object is_taken o = o.array || (is_struct o.ty || is_taken)

abbrev pub lies_apart : (is_taken : Bool) → Result Object Fault → Bool
lies_apart is_taken (Ok o) = is_own_object is_taken o
lies_apart is_taken (Err f) = is_taken

abbrev pub name_of : Decl → List ℕ
name_of d = name_or_none (out-Decl d).name

unfoldable pub named_local : (slot : ℕ) → (is_taken : Bool) → Decl → Result Object Fault → LocalName
named_local slot is_taken d means = record { name = name_of d; slot = slot; is_object = lies_apart is_taken means; means = means }

abbrev pub local_of : (is_taken : Bool) → Decl → Object → Local
local_of is_taken d o = record { name = name_of d; ty = o.ty; count = o.count; array = o.array; object = is_own_object is_taken o }

-- ---- a local among those before it

-- the names of a block are those whose slots it began with or later ones
abbrev pub is_in_block : (first : ℕ) → List ℕ → LocalName → Bool
is_in_block first name n = not (nat_lt n.slot first) && bytes_eq n.name name

abbrev pub is_again : (first : ℕ) → List ℕ → List LocalName → Bool
is_again first name [] = false
is_again first name (n ∷ ns) = is_in_block first name n || is_again first name ns

-- at most 64 locals, and at most 63 bytes in the name of one
abbrev pub has_place : (before : ℕ) → List ℕ → Bool
has_place before name = not (before == 64) && not (nat_lt 63 (length name))

-- a parameter or a local is no constant, and hides one of its name (6.6, paragraph 6; 6.2.1, paragraph 4)
abbrev pub is_no_constant : List LocalName → Const → Bool
is_no_constant names (const.Number at is_negative n k) = false
is_no_constant names (const.Name at name) = is_some (local_named names name)

abbrev pub has_no_size : List LocalName → Option Const → Bool
has_no_size names None = false
has_no_size names (Some c) = is_no_constant names c

abbrev pub local_whole : (is_taken : Bool) → Decl → Checked Object → Checked Local
local_whole is_taken d c = after c (λ o. Right (local_of is_taken d o))

-- the names of a function as annotations see them. No parameter and no local is a length there, but its name is declared
abbrev pub names_here : List LocalName → List Candidate
names_here names = map (λ n. bare (Some n.name)) names

-- a name is declared once in its scope (6.7, paragraph 3). The names within its declarator have at most 63 bytes, too
unfoldable pub local_declared : Scope → (locks : List Bool) → Here → (is_taken : Bool) → Decl → Checked Local
local_declared scope locks here is_taken d =
    demand (out-Decl d).place Redefined (not (is_again here.first (name_of d) here.names))
    (demand (out-Decl d).place Limit (has_place (length here.locals) (name_of d))
    (demand (out-Decl d).place Mismatch (not (has_no_size here.names (out-Decl d).size))
    (beside (good_params d) (beside (within scope (names_here here.names) d) (local_whole is_taken d (local_object scope locks d))))))

-- behind a declarator (6.2.1, paragraph 7)
unfoldable pub with_local : Scope → (locks : List Bool) → (is_taken : Bool) → Decl → Here → Here
with_local scope locks is_taken d here = record {
  names = here.names ++ named_local here.slot is_taken d (told (local_object scope locks d)) ∷ [];
  first = here.first;
  locals = here.locals ++ record { means = told (local_declared scope locks here is_taken d) } ∷ [];
  slot = here.slot + 1;
  number = here.number;
}

-- ---- whose addresses are taken

abbrev pub takes : Option (List ℕ) → Option Written → Lines → Bool
takes None init rest = false
takes (Some name) init rest = perhaps_takes name init || takes_along name rest false

-- that of what a line declares, in its initialiser or behind it
abbrev pub is_taken : Line → (rest : Lines) → Bool
is_taken (Line.Local p d init) rest = takes (out-Decl d).name init rest
is_taken l rest = false

-- ---- blocks (6.8.2)

abbrev pub entered : Here → Here
entered here = record here { first = here.slot }

-- the names of a block end with it (6.2.1, paragraph 4)
abbrev pub left : (before behind : Here) → Here
left before behind = record { names = take (length before.names) behind.names; first = before.first; locals = behind.locals; slot = behind.slot; number = behind.number }

abbrev pub numbered : Here → Here
numbered here = record here { number = here.number + 1 }

-- ---- parameters

abbrev pub parameter_object : Ty → Checked Object
parameter_object t = Right (record { ty = t; count = 1; array = false })

unfoldable pub parameter_means : Scope → Decl → Checked Object
parameter_means scope d = after (declarator scope d).parameter parameter_object

abbrev pub parameter_taken : Lines → Decl → Bool
parameter_taken body d = takes (out-Decl d).name None body

-- parameters have the first slots
unfoldable pub parameters_from : Scope → (body : Lines) → (slot : ℕ) → List Decl → List LocalName
parameters_from scope body slot [] = []
parameters_from scope body slot (d ∷ ds) = named_local slot (parameter_taken body d) d (told (parameter_means scope d)) ∷ parameters_from scope body (slot + 1) ds

-- the parameters and the outermost block are one scope (6.2.1, paragraph 4)
unfoldable pub first_here : Scope → (body : Lines) → List Decl → Here
first_here scope body ds = record { names = parameters_from scope body 0 ds; first = 0; locals = []; slot = length ds; number = 1 }
