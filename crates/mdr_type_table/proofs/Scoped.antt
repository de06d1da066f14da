-- What an item leaves of the scope's tags and structs.
use Rattle.std.proofs.Common.{◌≡◌, ℕ, Bool, true, false, List, [], ◌∷◌, ◌++◌, Result, refl}
use Rattle.mdr_syntax.specs.declared.tree.Decl.{Decl}
use Rattle.mdr_syntax.specs.declared.tree.Enumerator.{Enumerator}
use Rattle.mdr_syntax.specs.declared.tree.Head.{Head}
use Rattle.mdr_syntax.specs.declared.tree.Item.{Item}
use Rattle.mdr_syntax.specs.declared.tree.ItemWhat.{ItemWhat}
use Rattle.mdr_syntax.specs.declared.tree.ItemWhat.TheVariants as item
use Rattle.mdr_faults.specs.declared.fault.Fault.{Fault}
use Rattle.mdr_faults.specs.declared.scope.Constant.{Constant}
use Rattle.mdr_faults.specs.declared.scope.Scope.{Scope}
use Rattle.mdr_faults.specs.declared.scope.StructEntry.{StructEntry}
use Rattle.mdr_faults.specs.Enums.{behind_enumerator, behind_enumerators, value_behind}
use Rattle.mdr_faults.specs.Faults.{told}
use Rattle.mdr_headings.specs.Functions.{is_taken, with_function_unless, behind_function}
use Rattle.mdr_headings.specs.Source.{with_struct_if, before_first}
use Rattle.mdr_check.specs.declared.file.Known.{Known}
use Rattle.mdr_check.specs.Files.{behind_item}
use Rattle.mdr_check.specs.Globals.{behind_global}

-- the same tags, and the same structs
pub record IsSame (a b : Scope) : Type 0 where
  pub tags : a.tags ≡ b.tags
  pub structs : a.structs ≡ b.structs

enums_same : (scope : Scope) (before : Result Constant Fault) (es : List Enumerator) → IsSame (behind_enumerators scope before es) scope
unfolding behind_enumerators
enums_same scope before [] = record { tags = refl; structs = refl }
enums_same scope before (e ∷ es) =
    let rest = enums_same (behind_enumerator scope before e) (told (value_behind scope before e)) es in
    record { tags = rest.tags; structs = rest.structs }

unless_same : (b : Bool) (scope : Scope) (n : ℕ) (h : Head) → IsSame (with_function_unless b scope n h) scope
unless_same true scope n h = record { tags = refl; structs = refl }
unless_same false scope n h = record { tags = refl; structs = refl }

function_same : (scope : Scope) (n : ℕ) (h : Head) → IsSame (behind_function scope n h) scope
unfolding behind_function
function_same scope n h = unless_same (is_taken scope h.name) scope n h

global_same : (scope : Scope) (own : ℕ) (d : Decl) → IsSame (behind_global scope own d) scope
unfolding behind_global
global_same scope own d = record { tags = refl; structs = refl }

struct_tags : (b : Bool) (scope : Scope) (e : StructEntry) → (with_struct_if b scope e).tags ≡ scope.tags
struct_tags true scope e = refl
struct_tags false scope e = refl

-- all items but structs leave both
abbrev pub is_struct : ItemWhat → Bool
is_struct (item.Define name is_negative n k) = false
is_struct (item.Struct at name ds) = true
is_struct (item.Enum es) = false
is_struct (item.Global d init) = false
is_struct (item.Proto h is_remote) = false
is_struct (item.Func h is_critical nodes) = false

pub item_same : (items : List Item) (known : Known) (w : ItemWhat) → is_struct w ≡ false → IsSame (behind_item known w).scope known.scope
item_same items known (item.Define name is_negative n k) e = record { tags = refl; structs = refl }
item_same items known (item.Struct at name ds) e = absurd cc
item_same items known (item.Enum es) e = enums_same known.scope before_first es
item_same items known (item.Global d init) e = global_same known.scope known.globals d
item_same items known (item.Proto h is_remote) e = function_same known.scope _ h
item_same items known (item.Func h is_critical nodes) e = function_same known.scope _ h

pub struct_same : (scope : Scope) (e : StructEntry) (b : Bool) → b ≡ true → (with_struct_if b scope e).structs ≡ scope.structs ++ e ∷ []
struct_same scope e true q = refl
struct_same scope e false q = absurd cc

pub item_tags : (items : List Item) (known : Known) (w : ItemWhat) → (behind_item known w).scope.tags ≡ known.scope.tags
item_tags items known (item.Define name is_negative n k) = refl
item_tags items known (item.Struct at name ds) = struct_tags _ known.scope _
item_tags items known (item.Enum es) = (enums_same known.scope before_first es).tags
item_tags items known (item.Global d init) = (global_same known.scope known.globals d).tags
item_tags items known (item.Proto h is_remote) = (function_same known.scope _ h).tags
item_tags items known (item.Func h is_critical nodes) = (function_same known.scope _ h).tags
