-- believed
-- Each function that a file declares is defined in it (C99 6.9, paragraphs 3 and 5).
use Rattle.std.specs.Prelude.{ℕ, List, [], ◌∷◌, map, Option, Some, None}
use Rattle.std.specs.Str.{bytes_eq}
use Rattle.mdr_core.specs.declared.place.Place.{Place}
use Rattle.mdr_core.specs.Layout.{chosen}
use Rattle.mdr_syntax.specs.declared.tree.Const.{Const}
use Rattle.mdr_syntax.specs.declared.tree.Const.TheVariants as const
use Rattle.mdr_syntax.specs.declared.tree.Elem.{Elem}
use Rattle.mdr_syntax.specs.declared.tree.Head.{Head}
use Rattle.mdr_syntax.specs.declared.tree.Init.{Init}
use Rattle.mdr_syntax.specs.declared.tree.Init.TheOpen.{Init-F, Elem-F}
use Rattle.mdr_syntax.specs.declared.tree.Init.TheFolds.{fold-Init, fold-Elem}
use Rattle.mdr_syntax.specs.declared.tree.Item.{Item}
use Rattle.mdr_syntax.specs.declared.tree.ItemWhat.{ItemWhat}
use Rattle.mdr_syntax.specs.declared.tree.ItemWhat.TheVariants as item
use Rattle.mdr_syntax.specs.declared.tree.Node.{Node}
use Rattle.mdr_faults.specs.declared.fault.Fault.{Fault}
use Rattle.mdr_faults.specs.declared.fault.FaultKind.TheVariants.{Redefined, Incomplete}
use Rattle.mdr_faults.specs.Faults.{Checked, Right, Wrong, One, each}
use Rattle.mdr_faults.specs.Scopes.{or_else}
use Rattle.mdr_headings.specs.declared.function.Declared.{Declared}
use Rattle.mdr_headings.specs.Functions.{is_defined}

-- where a body first uses a name for what the file declares
abbrev pub UseRule : Type 0
UseRule = Head → List Node → List ℕ → Option Place

-- ---- the first use

abbrev pub const_use : List ℕ → Const → Option Place
const_use name (const.Number at is_negative n k) = None
const_use name (const.Name at other) = chosen (bytes_eq other name) (Some at) None

abbrev pub first_of : List (Option Place) → Option Place
first_of [] = None
first_of (p ∷ ps) = or_else p (first_of ps)

abbrev pub init_use_layer : List ℕ → Init-F (Option Place) (Option Place) → Option Place
init_use_layer name (Init-F.Const c) = const_use name c
init_use_layer name (Init-F.Null at) = None
init_use_layer name (Init-F.Address at other) = chosen (bytes_eq other name) (Some at) None
init_use_layer name (Init-F.Text at bytes) = None
init_use_layer name (Init-F.List at es) = first_of es

abbrev pub elem_use_layer : Elem-F (Option Place) (Option Place) → Option Place
elem_use_layer e = e.init

-- where an initialiser first has this name in it
abbrev pub init_use : List ℕ → Init → Option Place
init_use name = fold-Init (Option Place) (Option Place) (init_use_layer name) elem_use_layer

abbrev pub elem_use : List ℕ → Elem → Option Place
elem_use name = fold-Elem (Option Place) (Option Place) (init_use_layer name) elem_use_layer

abbrev pub perhaps_use : List ℕ → Option Init → Option Place
perhaps_use name None = None
perhaps_use name (Some init) = init_use name init

abbrev pub item_use : UseRule → List ℕ → ItemWhat → Option Place
item_use uses name (item.Define n is_negative v k) = None
item_use uses name (item.Struct p n ds) = None
item_use uses name (item.Enum es) = None
item_use uses name (item.Global d init) = perhaps_use name init
item_use uses name (item.Proto h is_remote) = None
item_use uses name (item.Func h is_critical nodes) = uses h nodes name

unfoldable pub use_among : UseRule → List ℕ → List Item → Option Place
use_among uses name [] = None
use_among uses name (i ∷ is) = or_else (item_use uses name i.what) (use_among uses name is)

-- ---- the first `#define`

abbrev pub constant_at : List ℕ → Place → ItemWhat → Option Place
constant_at name p (item.Define n is_negative v k) = chosen (bytes_eq n name) (Some p) None
constant_at name p (item.Struct q n ds) = None
constant_at name p (item.Enum es) = None
constant_at name p (item.Global d init) = None
constant_at name p (item.Proto h is_remote) = None
constant_at name p (item.Func h is_critical nodes) = None

unfoldable pub constant_among : List ℕ → List Item → Option Place
constant_among name [] = None
constant_among name (i ∷ is) = or_else (constant_at name i.place i.what) (constant_among name is)

-- ---- functions that aren't defined

-- it is told at the first use of the name, or else at the function's declaration
abbrev pub undefined_at : Place → (used : Option Place) → Fault
undefined_at p None = record { place = p; kind = Incomplete }
undefined_at p (Some q) = record { place = q; kind = Incomplete }

-- but where the name is that of a `#define`, which holds in the whole file, the function is never used, and the `#define` alone is told
abbrev pub undefined_by : Place → (used constant : Option Place) → Fault
undefined_by p used None = undefined_at p used
undefined_by p used (Some q) = record { place = q; kind = Redefined }

abbrev pub undefined : UseRule → List Item → Declared → Fault
undefined uses items f = undefined_by f.place (use_among uses f.name items) (constant_among f.name items)

-- each function that is declared has its body
abbrev pub defined_rule : UseRule → List Item → Declared → Checked Place
defined_rule uses items f = chosen (is_defined items f.name) (Right f.place) (Wrong (One (undefined uses items f)))

unfoldable pub defined_functions : UseRule → List Item → List Declared → Checked (List Place)
defined_functions uses items fs = each (map (defined_rule uses items) fs)
