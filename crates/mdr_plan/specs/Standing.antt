-- protocol
-- Which forms may stand next, and the kind of a line that may not.
use Rattle.std.specs.Prelude.{◌≡◌, ℕ, ◌+◌, ◌-◌, ◌^◌, Bool, true, false, ◌&&◌, ◌||◌, not, nat_lt, if◌then◌else◌, List, length, drop, Option, Some, None}
use Rattle.std.specs.List.{list_all}
use Rattle.mdr_core.specs.declared.plan.Key.{Key}
use Rattle.mdr_core.specs.declared.plan.Key.TheVariants.{Global, Field, Elem}
use Rattle.mdr_plan.specs.declared.shape.Shape.{Shape}
use Rattle.mdr_plan.specs.declared.shape.Shape.TheVariants as shape
use Rattle.mdr_plan.specs.declared.plan_error.PlanKind.{PlanKind}
use Rattle.mdr_plan.specs.declared.plan_error.PlanKind.TheVariants.{Form, Order, Range}
use Rattle.mdr_plan.specs.declared.plan_error.PlanError.{PlanError}
use Rattle.mdr_plan.specs.declared.plan_error.PlanError.TheVariants.{Line, OutOfMemory}
use Rattle.mdr_plan.specs.declared.reader.Reader.{Reader}
use Rattle.mdr_plan.specs.Lines.{begins, takes_types, takes_functions, takes_downs, takes_ups, takes_keys, ends, is_kernel}
use Rattle.mdr_plan.specs.ShapeReading.{shape_at}

-- some key of a global may follow
unfoldable pub global_follows : Option Key → Bool
global_follows None = true
global_follows (Some (Global a)) = nat_lt a (2 ^ 32 - 1)
global_follows (Some (Field s f)) = false
global_follows (Some (Elem t)) = false

-- some key of a field of so many structs may follow
unfoldable pub field_follows : (structs : ℕ) → Option Key → Bool
field_follows structs None = nat_lt 0 structs
field_follows structs (Some (Global a)) = nat_lt 0 structs
field_follows structs (Some (Field s f)) = (nat_lt s structs && nat_lt f (2 ^ 32 - 1)) || (nat_lt (s + 1) structs && nat_lt s (2 ^ 32 - 1))
field_follows structs (Some (Elem t)) = false

-- some key of one of so many types may follow
unfoldable pub elem_follows : (types : ℕ) → Option Key → Bool
elem_follows types None = nat_lt 0 types
elem_follows types (Some (Global a)) = nat_lt 0 types
elem_follows types (Some (Field s f)) = nat_lt 0 types
elem_follows types (Some (Elem t)) = nat_lt (t + 1) types && nat_lt t (2 ^ 32 - 1)

-- a line of the form may come next
unfoldable pub may_stand : Reader → Shape → Bool
may_stand r shape.Heading = begins r.stage
may_stand r shape.Type = takes_types r.stage
may_stand r shape.Function = takes_functions r.stage && nat_lt 8 (length r.plan.types)
may_stand r shape.Down = takes_downs r.stage && nat_lt r.low (length r.plan.down)
may_stand r shape.Up = takes_ups r.stage && not (list_all is_kernel (drop r.ups r.plan.halves))
may_stand r shape.GlobalKey = takes_keys r.stage && global_follows r.last_key
may_stand r shape.FieldKey = takes_keys r.stage && field_follows (length r.structs) r.last_key
may_stand r shape.ElemKey = takes_keys r.stage && elem_follows (length r.plan.types) r.last_key
may_stand r shape.End = ends r.stage && nat_lt 8 (length r.plan.types) && list_all is_kernel (drop r.ups r.plan.halves)

abbrev pub kind_by : Reader → Option Shape → PlanKind
kind_by r None = Form
kind_by r (Some s) = if may_stand r s then Range else Order

-- the kind of a line that may not come next
abbrev pub kind_at : Reader → List ℕ → PlanKind
kind_at r bytes = kind_by r (shape_at bytes)

-- how such a line of this number is refused, unless memory ran out
abbrev pub IsRefusal : Reader → List ℕ → ℕ → PlanError → Type 0
IsRefusal r bytes number (Line n kind) = (n ≡ number) × (kind ≡ kind_at r bytes)
IsRefusal r bytes number OutOfMemory = Unit {0}
