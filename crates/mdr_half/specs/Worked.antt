-- for proofs
-- A plan worked out: a counter that the kernel half bumps and the user half opens.
use Rattle.std.specs.Prelude.{◌≡◌, ℕ, pos, Bool, true, false, List, [], ◌∷◌, codes, Some}
use Rattle.mdr_core.specs.declared.kind.Kind.TheVariants.{U32}
use Rattle.mdr_core.specs.declared.types.Ty.TheVariants as ty
use Rattle.mdr_core.specs.declared.types.Ann.TheVariants.{Single}
use Rattle.mdr_core.specs.declared.value.Value.TheVariants as value
use Rattle.mdr_core.specs.declared.program.GlobalDef.{GlobalDef}
use Rattle.mdr_core.specs.declared.program.Func.{Func}
use Rattle.mdr_core.specs.declared.program.Program.{Program}
use Rattle.mdr_core.specs.declared.plan.Plan.{Plan}
use Rattle.mdr_core.specs.declared.plan.Half.TheVariants.{Kernel, User}
use Rattle.mdr_core.specs.declared.plan.Key.TheVariants.{Global}
use Rattle.mdr_core.specs.Types.{first_types}
use Rattle.mdr_half.specs.Plans.{plan_text, calls_text}

-- a u32 that begins as 0
abbrev pub counter : GlobalDef
counter = record { name = codes "count"; ty = ty.Int U32; count = 1; array = false; ann = Single; init = value.Int U32 (pos 0) ∷ [] }

-- the plan asks only for the names of the functions here
abbrev pub function : List ℕ → Bool → Func
function name is_critical = record { name = name; params = []; result = ty.Void; ann = Single; locals = []; critical = is_critical; body = Some [] }

abbrev pub counter_program : Program
counter_program = record {
  types = first_types;
  structs = [];
  globals = counter ∷ [];
  funcs = function (codes "bump") true ∷ function (codes "open") false ∷ [];
}

abbrev pub counter_plan : Plan
counter_plan = record {
  types = first_types;
  names = codes "bump" ∷ codes "open" ∷ [];
  halves = Kernel ∷ User ∷ [];
  roots = true ∷ false ∷ [];
  down = true ∷ false ∷ [];
  keys = [] ∷ (Global 0 ∷ []) ∷ [];
}

-- function 1 may call function 0
abbrev pub counter_calls : List (List ℕ)
counter_calls = [] ∷ (0 ∷ []) ∷ []

pub record IsWorkedOut : Type 0 where
  pub plan :
      plan_text counter_program counter_plan
      ≡ codes "plan 1\ntype 0 u8\ntype 1 u16\ntype 2 u32\ntype 3 u64\ntype 4 s8\ntype 5 s16\ntype 6 s32\ntype 7 s64\ntype 8 combolock_t\nfunction 0 bump kernel root\nfunction 1 open user\ndown 0\nup 1\nkey 1 global 0\nend\n"
  pub calls : calls_text counter_program counter_calls ≡ codes "calls bump:\ncalls open: bump\n"
