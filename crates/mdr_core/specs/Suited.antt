-- believed
-- Plans that suit a program.
use Rattle.std.specs.Prelude.{◌≡◌, ℕ, Bool, true, false, not, List, [], length, map, Option, Some, None, slice_get, IsTrue}
use Rattle.std.specs.Option.{option_map}
use Rattle.mdr_core.specs.declared.types.Ty.{Ty, out-Ty}
use Rattle.mdr_core.specs.declared.types.Ty.TheOpen.{Ty-F}
use Rattle.mdr_core.specs.declared.program.Program.{Program}
use Rattle.mdr_core.specs.declared.program.Field.{Field}
use Rattle.mdr_core.specs.declared.program.Func.{Func}
use Rattle.mdr_core.specs.declared.program.GlobalDef.{GlobalDef}
use Rattle.mdr_core.specs.declared.plan.Key.{Key}
use Rattle.mdr_core.specs.declared.plan.Key.TheVariants as key
use Rattle.mdr_core.specs.declared.plan.Half.TheVariants as half
use Rattle.mdr_core.specs.declared.plan.Plan.{Plan}
use Rattle.mdr_core.specs.Layout.{fields_of}

abbrev pub is_lock_by : Ty-F Ty → Bool
is_lock_by (Ty-F.Int k) = false
is_lock_by Ty-F.Lock = true
is_lock_by (Ty-F.Struct s) = false
is_lock_by (Ty-F.Ptr t) = false
is_lock_by Ty-F.VoidPtr = false
is_lock_by (Ty-F.Fun ts) = false
is_lock_by Ty-F.Void = false

abbrev pub is_lock : Ty → Bool
is_lock ty = is_lock_by (out-Ty ty)

abbrev pub global_type : GlobalDef → Ty
global_type def = def.ty

abbrev pub field_type : Field → Ty
field_type x = x.ty

-- the type of what a key names, of each element where it is an array
abbrev pub key_type : Program → Key → Option Ty
key_type program (key.Global g) = option_map global_type (slice_get program.globals g)
key_type program (key.Field s f) = option_map field_type (slice_get (fields_of program.structs s) f)
key_type program (key.Elem ty) = slice_get program.types ty

abbrev pub is_no_lock : Option Ty → Bool
is_no_lock None = false
is_no_lock (Some ty) = not (is_lock ty)

-- the key names a global, a field or a type of the program that is no lock and no array of locks
unfoldable pub is_key : Program → Key → Bool
is_key program k = is_no_lock (key_type program k)

pub record IsSuited (plan : Plan) (program : Program) : Type 0 where
  pub types : plan.types ≡ program.types
  pub names : plan.names ≡ map (λ (func : Func). func.name) program.funcs
  pub halves : length plan.halves ≡ length program.funcs
  pub roots : length plan.roots ≡ length program.funcs
  pub down : length plan.down ≡ length program.funcs
  pub lists : length plan.keys ≡ length program.funcs
  pub kernel : (f : ℕ) (ks : List Key) → slice_get plan.halves f ≡ Some half.Kernel → slice_get plan.keys f ≡ Some ks → ks ≡ []
  pub keys : (f i : ℕ) (ks : List Key) (k : Key) → slice_get plan.keys f ≡ Some ks → slice_get ks i ≡ Some k → IsTrue (is_key program k)
