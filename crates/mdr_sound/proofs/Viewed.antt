-- What each item of a file comes to.
use Rattle.std.proofs.Common.{◌≡◌, ℕ, Bool, true, false, not, List, Option, sym, subst, is_some}
use Rattle.mdr_core.specs.declared.place.Place.{Place}
use Rattle.mdr_core.specs.declared.kind.Kind.{Kind}
use Rattle.mdr_core.specs.declared.program.Field.{Field}
use Rattle.mdr_syntax.specs.declared.tree.Decl.{Decl}
use Rattle.mdr_syntax.specs.declared.tree.Enumerator.{Enumerator}
use Rattle.mdr_syntax.specs.declared.tree.Head.{Head}
use Rattle.mdr_syntax.specs.declared.tree.Init.{Init}
use Rattle.mdr_syntax.specs.declared.tree.Item.{Item}
use Rattle.mdr_syntax.specs.declared.tree.ItemWhat.{ItemWhat}
use Rattle.mdr_syntax.specs.declared.tree.ItemWhat.TheVariants as item
use Rattle.mdr_syntax.specs.declared.tree.Node.{Node}
use Rattle.mdr_faults.specs.declared.fault.FaultKind.TheVariants.{Redefined}
use Rattle.mdr_faults.specs.Enums.{enumerators}
use Rattle.mdr_faults.specs.Faults.{Right}
use Rattle.mdr_faults.specs.Scopes.{entity_among}
use Rattle.mdr_headings.specs.declared.body.Body.{Body}
use Rattle.mdr_headings.specs.declared.head.Heading.{Heading}
use Rattle.mdr_headings.specs.Functions.{function_declared}
use Rattle.mdr_headings.specs.Source.{before_first}
use Rattle.mdr_check.specs.declared.file.Known.{Known}
use Rattle.mdr_check.specs.declared.file.Piece.{Piece}
use Rattle.mdr_check.specs.declared.file.Piece.TheVariants as piece
use Rattle.mdr_check.specs.declared.variable.Variable.{Variable}
use Rattle.mdr_check.specs.Files.{BodyRule, item_piece, body_scope, global_of, prototype_of, function_of}
use Rattle.mdr_check.specs.Globals.{global}
use Rattle.mdr_sound.proofs.Rights.{after_right, both_right, demand_right, same_right}
use Rattle.mdr_sound.proofs.Passing.{struct_next}

-- an item behind others, of which this is known, and what it comes to
pub data Comes (body : BodyRule) (items before : List Item) (known : Known) : ItemWhat → Piece → Type 0 where
  OfDefine : (name : List ℕ) (is_negative : Bool) (n : ℕ) (k : Kind) → Comes body items before known (item.Define name is_negative n k) piece.Nothing
  OfStruct : (at : Place) (name : List ℕ) (ds : List Decl) (fields : List Field) → Comes body items before known (item.Struct at name ds) (piece.Struct (record { name = name; fields = fields }))
  OfEnum : (es : List Enumerator) → Comes body items before known (item.Enum es) piece.Nothing
  OfGlobal : (d : Decl) (init : Option Init) (v : Variable) → global known.scope known.globals d init ≡ Right v → Comes body items before known (item.Global d init) (piece.Global v)
  OfPrototype : (h : Head) (is_remote : Bool) (g : Heading) → function_declared known.scope known.functions before h false ≡ Right g → Comes body items before known (item.Proto h is_remote) (piece.Prototype h.name g)
  OfFunction : (h : Head) (is_critical : Bool) (nodes : List Node) (g : Heading) (b : Body) → function_declared known.scope known.functions before h true ≡ Right g → body (body_scope known h) h nodes ≡ Right b → Comes body items before known (item.Func h is_critical nodes) (piece.Function h.name is_critical g b)

pub comes_to : (body : BodyRule) (items before : List Item) (known : Known) (p : Place) (what : ItemWhat) (x : Piece) → item_piece body before known p what ≡ Right x → Comes body items before known what x
comes_to body items before known p (item.Define name is_negative n k) x e =
    let d = demand_right p Redefined (not (is_some (entity_among known.scope.names name))) (Right piece.Nothing) x e in
    subst (Comes body items before known (item.Define name is_negative n k)) (same_right piece.Nothing x d.right) (OfDefine name is_negative n k)
comes_to body items before known p (item.Struct at name ds) x e =
    let next = struct_next known.scope at name ds x e in
    subst (Comes body items before known (item.Struct at name ds)) (sym next.made) (OfStruct at name ds next.fields)
comes_to body items before known p (item.Enum es) x e =
    let a = after_right (enumerators known.scope before_first es) (λ y. Right piece.Nothing) x e in
    subst (Comes body items before known (item.Enum es)) (same_right piece.Nothing x a.made) (OfEnum es)
comes_to body items before known p (item.Global d init) x e =
    let a = after_right (global known.scope known.globals d init) global_of x e in
    subst (Comes body items before known (item.Global d init)) (same_right (piece.Global a.value) x a.made) (OfGlobal d init a.value a.right)
comes_to body items before known p (item.Proto h is_remote) x e =
    let a = after_right (function_declared known.scope known.functions before h false) (prototype_of h.name) x e in
    subst (Comes body items before known (item.Proto h is_remote)) (same_right (piece.Prototype h.name a.value) x a.made) (OfPrototype h is_remote a.value a.right)
comes_to body items before known p (item.Func h is_critical nodes) x e =
    let b = both_right (function_declared known.scope known.functions before h true) (body (body_scope known h) h nodes) (function_of h.name is_critical) x e in
    subst (Comes body items before known (item.Func h is_critical nodes)) (same_right (piece.Function h.name is_critical b.left b.right) x b.made) (OfFunction h is_critical nodes b.left b.right b.first b.second)
