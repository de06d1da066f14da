-- protocol
-- Lists whose items are found by their names, and the tables that lead to them.
use Rattle.std.specs.Prelude.{ℕ, ◌≡◌, List, Option, Some, None, Vec, slice_get}
use Rattle.std.specs.HashMap.{HashMap, get_by}
use Rattle.std.specs.List.{position_from}
use Rattle.std.specs.Str.{bytes_eq}

-- the item at a place, if there is one
abbrev pub item_at : {T : Type 0} → List T → Option ℕ → Option T
item_at items None = None
item_at items (Some i) = slice_get items i

-- the place of the first item that has a name
abbrev pub place_of : {T : Type 0} → (T → List ℕ) → List T → List ℕ → Option ℕ
place_of name_of items name = position_from (λ x. bytes_eq (name_of x) name) 0 items

-- the place that a table has for a name
abbrev pub place_in : {A S : Type 0} → HashMap (Vec ℕ A) ℕ S → List ℕ → Option ℕ
place_in table name = get_by (λ k. bytes_eq name k.items) table

-- a table leads from each name to the first item that has it
unfoldable pub Leads : {T A S : Type 0} → (T → List ℕ) → List T → HashMap (Vec ℕ A) ℕ S → Type 0
Leads name_of items table = (name : List ℕ) → place_in table name ≡ place_of name_of items name
