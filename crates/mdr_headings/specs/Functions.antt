-- believed
-- Functions behind declarations (C99 6.7, 6.9.1): which are declared, and whether their declarations agree.
use Rattle.std.specs.Prelude.{ℕ, ◌==◌, ◌&&◌, ◌||◌, not, Bool, true, false, List, [], ◌∷◌, ◌++◌, length, find, Option, Some, None, is_some, Result, Ok, Err}
use Rattle.std.specs.List.{list_any}
use Rattle.std.specs.Str.{bytes_eq}
use Rattle.mdr_core.specs.declared.place.Place.{Place}
use Rattle.mdr_core.specs.declared.program.Param.{Param}
use Rattle.mdr_core.specs.declared.types.Ann.{Ann}
use Rattle.mdr_core.specs.declared.types.Ann.TheVariants as ann
use Rattle.mdr_core.specs.declared.types.LenOf.{LenOf}
use Rattle.mdr_core.specs.declared.types.LenOf.TheVariants as len
use Rattle.mdr_syntax.specs.declared.tree.Head.{Head}
use Rattle.mdr_syntax.specs.declared.tree.Item.{Item}
use Rattle.mdr_syntax.specs.declared.tree.ItemWhat.{ItemWhat}
use Rattle.mdr_syntax.specs.declared.tree.ItemWhat.TheVariants as item
use Rattle.mdr_faults.specs.declared.fault.Fault.{Fault}
use Rattle.mdr_faults.specs.declared.fault.FaultKind.TheVariants.{Redefined, Mismatch, Limit}
use Rattle.mdr_headings.specs.declared.function.Declared.{Declared}
use Rattle.mdr_headings.specs.declared.head.Heading.{Heading}
use Rattle.mdr_faults.specs.declared.scope.Entity.{Entity}
use Rattle.mdr_faults.specs.declared.scope.Entity.TheVariants as entity
use Rattle.mdr_faults.specs.declared.scope.Scope.{Scope}
use Rattle.mdr_faults.specs.declared.scope.Signature.{Signature}
use Rattle.mdr_faults.specs.Alike.{is_alike}
use Rattle.mdr_faults.specs.Enums.{with_name}
use Rattle.mdr_faults.specs.Faults.{Checked, demand, told}
use Rattle.mdr_headings.specs.Heads.{heading}
use Rattle.mdr_faults.specs.Scopes.{entity_among}
use Rattle.mdr_headings.specs.Source.{signature}

-- ---- which functions the file defines

-- a body defines its function, and in the text of one half a prototype marked `__remote` does
abbrev pub defines_by : List ℕ → ItemWhat → Bool
defines_by name (item.Define n is_negative v k) = false
defines_by name (item.Struct p n ds) = false
defines_by name (item.Enum es) = false
defines_by name (item.Global d init) = false
defines_by name (item.Proto h is_remote) = is_remote && bytes_eq h.name name
defines_by name (item.Func h is_critical body) = bytes_eq h.name name

abbrev pub is_defined : List Item → List ℕ → Bool
is_defined items name = list_any (λ i. defines_by name i.what) items

abbrev pub is_body_by : List ℕ → ItemWhat → Bool
is_body_by name (item.Define n is_negative v k) = false
is_body_by name (item.Struct p n ds) = false
is_body_by name (item.Enum es) = false
is_body_by name (item.Global d init) = false
is_body_by name (item.Proto h is_remote) = false
is_body_by name (item.Func h is_critical body) = bytes_eq h.name name

-- one of some items is a body of this function
abbrev pub has_body : List Item → List ℕ → Bool
has_body items name = list_any (λ i. is_body_by name i.what) items

-- ---- whether two declarations agree

abbrev pub is_same_length : LenOf → LenOf → Bool
is_same_length (len.Const m) (len.Const n) = m == n
is_same_length (len.Const m) (len.Sibling i) = false
is_same_length (len.Const m) (len.Global g) = false
is_same_length (len.Sibling i) (len.Const n) = false
is_same_length (len.Sibling i) (len.Sibling j) = i == j
is_same_length (len.Sibling i) (len.Global g) = false
is_same_length (len.Global g) (len.Const n) = false
is_same_length (len.Global g) (len.Sibling i) = false
is_same_length (len.Global g) (len.Global h) = g == h

-- annotations as they are resolved
abbrev pub is_same_ann : Ann → Ann → Bool
is_same_ann ann.Single ann.Single = true
is_same_ann (ann.Array m) (ann.Array n) = is_same_length m n
is_same_ann (ann.Sentinel f) (ann.Sentinel g) = f == g
is_same_ann ann.NullTerm ann.NullTerm = true
is_same_ann ann.Opaque ann.Opaque = true
is_same_ann a b = false

-- the names of parameters may differ (6.7.5.3, paragraph 15)
abbrev pub is_same_param : Param → Param → Bool
is_same_param p q = is_alike p.ty q.ty && is_same_ann p.ann q.ann

abbrev pub are_same_params : List Param → List Param → Bool
are_same_params [] [] = true
are_same_params [] (q ∷ qs) = false
are_same_params (p ∷ ps) [] = false
are_same_params (p ∷ ps) (q ∷ qs) = is_same_param p q && are_same_params ps qs

abbrev pub is_same_heading : Heading → Heading → Bool
is_same_heading a b = is_alike a.result b.result && (is_same_ann a.ann b.ann && are_same_params a.params b.params)

-- declarations of one function have one type (6.7, paragraph 4). Of a wrong one nothing is asked
abbrev pub agrees : (earlier later : Result Heading Fault) → Bool
agrees (Ok a) (Ok b) = is_same_heading a b
agrees (Ok a) (Err g) = true
agrees (Err f) (Ok b) = true
agrees (Err f) (Err g) = true

-- ---- the functions so far

abbrev pub function_named : List Declared → List ℕ → Option Declared
function_named fs name = find (λ f. bytes_eq f.name name) fs

abbrev pub agrees_with : Option Declared → Result Heading Fault → Bool
agrees_with None later = true
agrees_with (Some f) later = agrees f.heading later

-- a name that stands already may be a function's once more, but it has one body (6.9, paragraph 5)
abbrev pub may_stand : (is_taken : Bool) → Option Declared → (is_second_body : Bool) → Bool
may_stand false entry second = true
may_stand true None second = false
may_stand true (Some f) second = not second

abbrev pub is_taken : Scope → List ℕ → Bool
is_taken scope name = is_some (entity_among scope.names name)

abbrev pub function_means : Result Signature Fault → Result Entity Fault
function_means (Ok s) = Ok (entity.Function s)
function_means (Err f) = Err f

-- the first declaration of a name brings it into scope, and with it its function's type
abbrev pub with_function_unless : (is_taken : Bool) → Scope → (number : ℕ) → Head → Scope
with_function_unless true scope n h = scope
with_function_unless false scope n h = with_name scope h.name (function_means (told (signature scope n h)))

unfoldable pub behind_function : Scope → (number : ℕ) → Head → Scope
behind_function scope n h = with_function_unless (is_taken scope h.name) scope n h

abbrev pub declared_unless : (is_taken : Bool) → List Declared → Head → Result Heading Fault → List Declared
declared_unless true fs h r = fs
declared_unless false fs h r = fs ++ record { name = h.name; place = h.place; heading = r } ∷ []

-- ---- one declaration

-- there are at most 1,024 functions
unfoldable pub function_rule : Place → (is_taken : Bool) → Option Declared → (is_second_body : Bool) → (number : ℕ) → Checked Heading → Checked Heading
function_rule p is_taken entry second n c =
    demand p Redefined (may_stand is_taken entry second)
    (demand p Mismatch (agrees_with entry (told c))
    (demand p Limit (is_taken || not (n == 1024)) c))

-- a declaration among those before it
unfoldable pub function_declared : Scope → List Declared → (before : List Item) → Head → (is_body : Bool) → Checked Heading
function_declared scope fs before h is_body =
    function_rule h.place (is_taken scope h.name) (function_named fs h.name) (is_body && has_body before h.name) (length fs) (heading scope h)

-- the functions behind it: they are numbered by their first declarations
unfoldable pub functions_behind : Scope → List Declared → Head → List Declared
functions_behind scope fs h = declared_unless (is_taken scope h.name) fs h (told (heading scope h))
