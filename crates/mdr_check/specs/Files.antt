-- believed
-- A whole file: its items in their order, each where those before it stand (C99 6.9).
use Rattle.std.specs.Prelude.{ℕ, ◌+◌, ◌==◌, not, Bool, true, false, Ok, List, [], ◌∷◌, ◌++◌, map, length}
use Rattle.mdr_core.specs.declared.place.Place.{Place}
use Rattle.mdr_core.specs.declared.program.Field.{Field}
use Rattle.mdr_syntax.specs.declared.tree.Decl.{Decl}
use Rattle.mdr_syntax.specs.declared.tree.Head.{Head}
use Rattle.mdr_syntax.specs.declared.tree.Item.{Item}
use Rattle.mdr_syntax.specs.declared.tree.ItemWhat.{ItemWhat}
use Rattle.mdr_syntax.specs.declared.tree.ItemWhat.TheVariants as item
use Rattle.mdr_syntax.specs.declared.tree.Node.{Node}
use Rattle.mdr_headings.specs.declared.body.Body.{Body}
use Rattle.mdr_faults.specs.declared.fault.FaultKind.TheVariants.{Redefined, Limit}
use Rattle.mdr_check.specs.declared.file.Known.{Known}
use Rattle.mdr_check.specs.declared.file.Piece.{Piece}
use Rattle.mdr_check.specs.declared.file.Piece.TheVariants as piece
use Rattle.mdr_headings.specs.declared.head.Heading.{Heading}
use Rattle.mdr_faults.specs.declared.scope.Candidate.{Candidate}
use Rattle.mdr_faults.specs.declared.scope.Entity.TheVariants as entity
use Rattle.mdr_faults.specs.declared.scope.Scope.{Scope}
use Rattle.mdr_check.specs.declared.variable.Variable.{Variable}
use Rattle.mdr_headings.specs.Annotations.{candidate}
use Rattle.mdr_faults.specs.Declarations.{number_constant}
use Rattle.mdr_faults.specs.Enums.{with_name, new_name, enumerators, behind_enumerators}
use Rattle.mdr_faults.specs.Faults.{Checked, Right, after, both, demand, next}
use Rattle.mdr_headings.specs.Functions.{behind_function, function_declared, functions_behind}
use Rattle.mdr_check.specs.Globals.{global, behind_global}
use Rattle.mdr_faults.specs.Scopes.{tag_named}
use Rattle.mdr_headings.specs.Source.{is_numbered, behind_struct, before_first, scope_of, tags_from, defines_from}
use Rattle.mdr_headings.specs.Structs.{struct_fields}

-- what a body comes to, in the scope behind its function's name
abbrev pub BodyRule : Type 0
BodyRule = Scope → Head → List Node → Checked Body

-- ---- what one item comes to

abbrev pub nothing : {A : Type 0} → Checked A → Checked Piece
nothing c = after c (λ x. Right piece.Nothing)

-- a `#define` declares its name at its `#`
abbrev pub define_piece : Scope → Place → List ℕ → Checked Piece
define_piece scope p name = new_name scope p name (Right piece.Nothing)

abbrev pub struct_of : List ℕ → List Field → Checked Piece
struct_of name xs = Right (piece.Struct (record { name = name; fields = xs }))

-- a struct is defined once (6.7.2.3, paragraph 1), and there are at most 256
unfoldable pub struct_piece : Scope → Place → List ℕ → List Decl → Checked Piece
struct_piece scope p name ds =
    demand p Redefined (is_numbered (tag_named scope name) (length scope.structs))
    (demand p Limit (not (length scope.structs == 256))
    (after (struct_fields scope p ds) (struct_of name)))

abbrev pub global_of : Variable → Checked Piece
global_of v = Right (piece.Global v)

abbrev pub prototype_of : List ℕ → Heading → Checked Piece
prototype_of name h = Right (piece.Prototype name h)

abbrev pub function_of : List ℕ → Bool → Heading → Body → Checked Piece
function_of name is_critical h b = Right (piece.Function name is_critical h b)

-- the scope in which a function's body stands: its name is declared there already (6.2.1, paragraph 7)
abbrev pub body_scope : Known → Head → Scope
body_scope known h = behind_function known.scope (length known.functions) h

-- a function's heading, and its body in the scope behind it
abbrev pub function_piece : BodyRule → (before : List Item) → Known → Head → (is_critical : Bool) → List Node → Checked Piece
function_piece body before known h is_critical nodes =
    both (function_declared known.scope known.functions before h true)
    (body (body_scope known h) h nodes)
    (function_of h.name is_critical)

-- an item behind others, of which this is known
abbrev pub item_piece : BodyRule → (before : List Item) → Known → Place → ItemWhat → Checked Piece
item_piece body before known p (item.Define name is_negative n k) = define_piece known.scope p name
item_piece body before known p (item.Struct at name ds) = struct_piece known.scope at name ds
item_piece body before known p (item.Enum es) = nothing (enumerators known.scope before_first es)
item_piece body before known p (item.Global d init) = after (global known.scope known.globals d init) global_of
item_piece body before known p (item.Proto h is_remote) = after (function_declared known.scope known.functions before h false) (prototype_of h.name)
item_piece body before known p (item.Func h is_critical nodes) = function_piece body before known h is_critical nodes

-- ---- what is known behind it

abbrev pub with_scope : Known → Scope → Known
with_scope known scope = record known { scope = scope }

abbrev pub behind_head : Known → Head → Known
behind_head known h = record { scope = body_scope known h; globals = known.globals; functions = functions_behind known.scope known.functions h }

abbrev pub behind_item : Known → ItemWhat → Known
behind_item known (item.Define name is_negative n k) = with_scope known (with_name known.scope name (Ok (entity.Constant (number_constant is_negative n k))))
behind_item known (item.Struct at name ds) = with_scope known (behind_struct known.scope at name ds)
behind_item known (item.Enum es) = with_scope known (behind_enumerators known.scope before_first es)
behind_item known (item.Global d init) = record { scope = behind_global known.scope known.globals d; globals = known.globals + 1; functions = known.functions }
behind_item known (item.Proto h is_remote) = behind_head known h
behind_item known (item.Func h is_critical nodes) = behind_head known h

-- ---- all items

unfoldable pub pieces_behind : BodyRule → Known → (before : List Item) → List Item → Checked (List Piece)
pieces_behind body known before [] = Right []
pieces_behind body known before (i ∷ is) = next (item_piece body before known i.place i.what) (pieces_behind body (behind_item known i.what) (before ++ i ∷ []) is)

unfoldable pub known_behind : Known → List Item → Known
known_behind known [] = known
known_behind known (i ∷ is) = known_behind (behind_item known i.what) is

-- ---- what is known before the first item

-- the fields of the structs, in the order of their numbers, as annotations see them: an annotation may name a field of a struct that is completed later
abbrev pub with_outline_if : Bool → Scope → List (List Candidate) → List Decl → List (List Candidate)
with_outline_if true scope outlines ds = outlines ++ map (candidate scope) ds ∷ []
with_outline_if false scope outlines ds = outlines

abbrev pub outlines_behind : Scope → List (List Candidate) → ItemWhat → List (List Candidate)
outlines_behind scope outlines (item.Define name is_negative n k) = outlines
outlines_behind scope outlines (item.Struct at name ds) = with_outline_if (is_numbered (tag_named scope name) (length outlines)) scope outlines ds
outlines_behind scope outlines (item.Enum es) = outlines
outlines_behind scope outlines (item.Global d init) = outlines
outlines_behind scope outlines (item.Proto h is_remote) = outlines
outlines_behind scope outlines (item.Func h is_critical nodes) = outlines

unfoldable pub outlines_from : Scope → List (List Candidate) → List Item → List (List Candidate)
outlines_from scope outlines [] = outlines
outlines_from scope outlines (i ∷ is) = outlines_from scope (outlines_behind scope outlines i.what) is

abbrev pub with_outlines : Scope → List (List Candidate) → Scope
with_outlines scope outlines = record scope { outlines = outlines }

abbrev pub first_scope : List Item → Scope
first_scope items = scope_of (tags_from [] items) (defines_from [] items)

unfoldable pub first_known : List Item → Known
first_known items = record { scope = with_outlines (first_scope items) (outlines_from (first_scope items) [] items); globals = 0; functions = [] }
