-- protocol
-- The keys of a program in their order.
use Rattle.std.specs.Prelude.{ℕ, ◌+◌, Bool, List, [], ◌∷◌, ◌++◌}
use Rattle.mdr_core.specs.declared.types.Ty.{Ty}
use Rattle.mdr_core.specs.declared.program.Field.{Field}
use Rattle.mdr_core.specs.declared.program.GlobalDef.{GlobalDef}
use Rattle.mdr_core.specs.declared.program.StructDef.{StructDef}
use Rattle.mdr_core.specs.declared.program.Program.{Program}
use Rattle.mdr_core.specs.declared.plan.Key.{Key}
use Rattle.mdr_core.specs.declared.plan.Key.TheVariants as key
use Rattle.mdr_core.specs.Layout.{chosen}
use Rattle.mdr_core.specs.Suited.{is_key}

-- a key, where it names something that is no lock
abbrev pub kept : Program → Key → List Key
kept program k = chosen (is_key program k) (k ∷ []) []

-- those from a number on
unfoldable pub global_keys : Program → ℕ → List GlobalDef → List Key
global_keys program g [] = []
global_keys program g (d ∷ ds) = kept program (key.Global g) ++ global_keys program (g + 1) ds

unfoldable pub field_keys : Program → (s f : ℕ) → List Field → List Key
field_keys program s f [] = []
field_keys program s f (x ∷ xs) = kept program (key.Field s f) ++ field_keys program s (f + 1) xs

unfoldable pub struct_keys : Program → ℕ → List StructDef → List Key
struct_keys program s [] = []
struct_keys program s (d ∷ ds) = field_keys program s 0 d.fields ++ struct_keys program (s + 1) ds

unfoldable pub element_keys : Program → ℕ → List Ty → List Key
element_keys program t [] = []
element_keys program t (ty ∷ tys) = kept program (key.Elem t) ++ element_keys program (t + 1) tys

abbrev pub all_keys : Program → List Key
all_keys program = global_keys program 0 program.globals ++ (struct_keys program 0 program.structs ++ element_keys program 0 program.types)

-- those of the keys that are marked
abbrev pub picked : List Key → List Bool → List Key
picked [] marks = []
picked (k ∷ ks) [] = []
picked (k ∷ ks) (m ∷ ms) = chosen m (k ∷ []) [] ++ picked ks ms
