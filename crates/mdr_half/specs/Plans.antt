-- believed
-- The text of a plan, and what a report says of calls before it. Each line ends in a newline.
use Rattle.std.specs.Prelude.{ℕ, ◌+◌, Bool, true, false, List, [], ◌∷◌, ◌++◌, Option, Some, None, codes, decimal, slice_get}
use Rattle.mdr_core.specs.declared.types.Ty.{Ty}
use Rattle.mdr_core.specs.declared.program.Program.{Program}
use Rattle.mdr_core.specs.declared.program.Func.{Func}
use Rattle.mdr_core.specs.declared.plan.Key.{Key}
use Rattle.mdr_core.specs.declared.plan.Key.TheVariants.{Global, Field, Elem}
use Rattle.mdr_core.specs.declared.plan.Half.{Half}
use Rattle.mdr_core.specs.declared.plan.Half.TheVariants.{Kernel, User}
use Rattle.mdr_core.specs.declared.plan.Plan.{Plan}
use Rattle.mdr_core.specs.TypeText.{type_text}

abbrev pub newline : List ℕ
newline = codes "\n"

-- ---- what a plan says of a function

-- the half of a function; without one it isn't in the kernel
abbrev pub half_or_user : Option Half → Half
half_or_user None = User
half_or_user (Some half) = half

abbrev pub true_or_not : Option Bool → Bool
true_or_not None = false
true_or_not (Some b) = b

abbrev pub keys_or_none : Option (List Key) → List Key
keys_or_none None = []
keys_or_none (Some ks) = ks

-- ---- the lines

abbrev pub heading : List ℕ
heading = codes "plan 1\n"

-- `type K TEXT`
abbrev pub type_line : Program → ℕ → Ty → List ℕ
type_line program k ty = codes "type " ++ (decimal k ++ (codes " " ++ (type_text program ty ++ newline)))

abbrev pub half_text : Half → List ℕ
half_text Kernel = codes " kernel"
half_text User = codes " user"

abbrev pub root_text : (is_root : Bool) → List ℕ
root_text true = codes " root"
root_text false = []

-- `function K NAME kernel` or `user`, and `root`
abbrev pub function_line : ℕ → List ℕ → Half → (is_root : Bool) → List ℕ
function_line k name half is_root = codes "function " ++ (decimal k ++ (codes " " ++ (name ++ (half_text half ++ (root_text is_root ++ newline)))))

-- `down K`, where the function has a stub for calls by the user half
abbrev pub down_line : ℕ → (is_down : Bool) → List ℕ
down_line k true = codes "down " ++ (decimal k ++ newline)
down_line k false = []

abbrev pub key_text : Key → List ℕ
key_text (Global g) = codes " global " ++ decimal g
key_text (Field s f) = codes " field " ++ (decimal s ++ (codes " " ++ decimal f))
key_text (Elem ty) = codes " elem " ++ decimal ty

-- `key K global G`, `key K field S F` or `key K elem T`
abbrev pub key_line : ℕ → Key → List ℕ
key_line k key = codes "key " ++ (decimal k ++ (key_text key ++ newline))

abbrev pub key_lines : ℕ → List Key → List ℕ
key_lines k [] = []
key_lines k (key ∷ keys) = key_line k key ++ key_lines k keys

-- `up K` and the keys of K, where the function is in the user half
abbrev pub up_lines_of : ℕ → Half → List Key → List ℕ
up_lines_of k Kernel keys = []
up_lines_of k User keys = codes "up " ++ (decimal k ++ (newline ++ key_lines k keys))

abbrev pub ending : List ℕ
ending = codes "end\n"

-- ---- the text

-- the types from number k on
abbrev pub type_lines : Program → ℕ → List Ty → List ℕ
type_lines program k [] = []
type_lines program k (ty ∷ types) = type_line program k ty ++ type_lines program (k + 1) types

-- the functions from number k on
abbrev pub function_lines : Plan → ℕ → List (List ℕ) → List ℕ
function_lines plan k [] = []
function_lines plan k (name ∷ names) =
    function_line k name (half_or_user (slice_get plan.halves k)) (true_or_not (slice_get plan.roots k)) ++ function_lines plan (k + 1) names

abbrev pub down_lines : ℕ → List Bool → List ℕ
down_lines k [] = []
down_lines k (is_down ∷ down) = down_line k is_down ++ down_lines (k + 1) down

abbrev pub up_lines : Plan → ℕ → List Half → List ℕ
up_lines plan k [] = []
up_lines plan k (half ∷ halves) = up_lines_of k half (keys_or_none (slice_get plan.keys k)) ++ up_lines plan (k + 1) halves

unfoldable pub plan_text : Program → Plan → List ℕ
plan_text program plan =
    heading ++ (type_lines program 0 plan.types ++ (function_lines plan 0 plan.names ++ (down_lines 0 plan.down ++ (up_lines plan 0 plan.halves ++ ending))))

-- ---- calls

abbrev pub func_name_or : Option Func → List ℕ
func_name_or None = []
func_name_or (Some func) = func.name

-- each name behind a blank
abbrev pub callees_text : Program → List ℕ → List ℕ
callees_text program [] = []
callees_text program (f ∷ fs) = codes " " ++ (func_name_or (slice_get program.funcs f) ++ callees_text program fs)

-- `calls F:` and the names of the functions that F may call
abbrev pub calls_line : Program → List ℕ → List ℕ → List ℕ
calls_line program name callees = codes "calls " ++ (name ++ (codes ":" ++ (callees_text program callees ++ newline)))

abbrev pub numbers_or_none : Option (List ℕ) → List ℕ
numbers_or_none None = []
numbers_or_none (Some fs) = fs

-- the functions from number k on, where the graph has for each function those that it may call
abbrev pub calls_lines : Program → List (List ℕ) → ℕ → List Func → List ℕ
calls_lines program graph k [] = []
calls_lines program graph k (func ∷ funcs) =
    calls_line program func.name (numbers_or_none (slice_get graph k)) ++ calls_lines program graph (k + 1) funcs

unfoldable pub calls_text : Program → List (List ℕ) → List ℕ
calls_text program graph = calls_lines program graph 0 program.funcs
