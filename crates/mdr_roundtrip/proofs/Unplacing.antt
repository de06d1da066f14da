-- Places are set aside in each part of what is made.
use Rattle.std.proofs.Common.{◌≡◌, refl, sym, ap, ◌∙◌, ℕ, Bool, Option, Some, None, List, [], ◌∷◌, ◌++◌, map}
use Rattle.std.specs.Prelude.{◌&&◌}
use Rattle.std.specs.Option.{option_map, is_some}
use Rattle.std.proofs.lemmas.List.{map-append}
use Rattle.mdr_core.specs.declared.place.Place.{Place}
use Rattle.mdr_syntax.specs.declared.token.Token.{Token}
use Rattle.mdr_syntax.specs.declared.tree.AnnText.{AnnText}
use Rattle.mdr_syntax.specs.declared.tree.Base.{Base}
use Rattle.mdr_syntax.specs.declared.tree.Clause.{Clause}
use Rattle.mdr_syntax.specs.declared.tree.Const.{Const}
use Rattle.mdr_syntax.specs.declared.tree.Decl.{Decl, roll-Decl, out-Decl, out-roll-Decl}
use Rattle.mdr_syntax.specs.declared.tree.Decl.TheOpen.{Decl-F}
use Rattle.mdr_syntax.specs.declared.tree.Decl.TheFolds.{map-Decl, fold-roll-Decl, fold_out-Decl}
use Rattle.mdr_syntax.specs.declared.tree.Elem.{Elem}
use Rattle.mdr_syntax.specs.declared.tree.FieldName.{FieldName}
use Rattle.mdr_syntax.specs.declared.tree.Form.{Form}
use Rattle.mdr_syntax.specs.declared.tree.FormWhat
use Rattle.mdr_syntax.specs.declared.tree.FormWhat.{FormWhat}
use Rattle.mdr_syntax.specs.declared.tree.FormWhat.TheOpen.{FormWhat-F}
use Rattle.mdr_syntax.specs.declared.tree.FormWhat.TheFolds.{map-FormWhat, fold-roll-FormWhat, fold_out-Form}
use Rattle.mdr_syntax.specs.declared.tree.FormWhat.TheVariants.{rolls-Number, rolls-Null, rolls-Name, rolls-Text, rolls-Base, rolls-Prefix, rolls-Post, rolls-Cast, rolls-Binary, rolls-Choice, rolls-Subscript, rolls-Member, rolls-Call}
use Rattle.mdr_syntax.specs.declared.tree.FormWhat.TheViews.{roll-FormWhat}
use Rattle.mdr_syntax.specs.declared.tree.Init
use Rattle.mdr_syntax.specs.declared.tree.Init.{Init}
use Rattle.mdr_syntax.specs.declared.tree.Init.TheOpen.{Init-F}
use Rattle.mdr_syntax.specs.declared.tree.Init.TheFolds.{map-Init, fold-roll-Init, fold_out-Elem}
use Rattle.mdr_syntax.specs.declared.tree.Init.TheViews.{roll-Init}
use Rattle.mdr_syntax.specs.declared.tree.Init.TheVariants.{rolls-Const as init-Const, rolls-Null as init-Null, rolls-Address as init-Address, rolls-Text as init-Text, rolls-List as init-List}
use Rattle.mdr_syntax.specs.declared.tree.Label.{Label}
use Rattle.mdr_syntax.specs.declared.tree.Node.{Node}
use Rattle.mdr_syntax.specs.declared.tree.NodeWhat
use Rattle.mdr_syntax.specs.declared.tree.NodeWhat.{NodeWhat}
use Rattle.mdr_syntax.specs.declared.tree.NodeWhat.TheOpen.{NodeWhat-F}
use Rattle.mdr_syntax.specs.declared.tree.NodeWhat.TheFolds.{map-NodeWhat, fold-roll-NodeWhat, fold-roll-Clause, fold_out-Node}
use Rattle.mdr_syntax.specs.declared.tree.NodeWhat.TheVariants.{rolls-Empty, rolls-Block, rolls-Local, rolls-Assign, rolls-Plain, rolls-If, rolls-While, rolls-For, rolls-Do, rolls-Switch, rolls-Return, rolls-Break, rolls-Continue}
use Rattle.mdr_syntax.specs.declared.tree.NodeWhat.TheViews.{roll-NodeWhat, roll-Clause}
use Rattle.mdr_grammar.specs.declared.parts.Specifier.{Specifier}
use Rattle.mdr_grammar.specs.declared.parts.Ended.{Ended}
use Rattle.mdr_grammar.specs.Expressions.{form_at, number_form, name_form, text_form}
use Rattle.mdr_grammar.specs.Declarations.{declared, unnamed, perhaps_named, with_annotation}
use Rattle.mdr_grammar.specs.Statements.{node_at, other_node, opened_by, are_named, joined}
use Rattle.mdr_roundtrip.specs.Unplaced.{nowhere, unplaced_base, what_unplaced, form_unplaced, unplaced_form, unplaced_what}
use Rattle.mdr_roundtrip.specs.Initialised.{unplaced_const, unplaced_field, init_unplaced, elem_unplaced, unplaced_init, unplaced_elem}
use Rattle.mdr_roundtrip.specs.Declarations.{unplaced_annotation, decl_unplaced, unplaced_decl}
use Rattle.mdr_roundtrip.specs.Stated.{unplaced_label, statement_unplaced, clause_unplaced, node_unplaced, unplaced_node, unplaced_statement, unplaced_clause}
use Rattle.mdr_roundtrip.proofs.Erased.{erased_token, erased_specifier, erased_ended}

-- ---- expressions

made : (place : Place) (l : FormWhat-F FormWhat Form) (w : FormWhat) → roll-FormWhat l ≡ w → unplaced_form (form_at place w) ≡ form_at nowhere (what_unplaced (map-FormWhat FormWhat Form FormWhat Form unplaced_what unplaced_form l))
made place l w e =
    fold_out-Form FormWhat Form what_unplaced form_unplaced (record { place = place; what = w }) ∙ ap (λ (x : FormWhat). form_at nowhere (unplaced_what x)) (sym e)
    ∙ ap (λ (x : FormWhat). form_at nowhere x) (fold-roll-FormWhat FormWhat Form what_unplaced form_unplaced l)

pub number_made : (t : Token) → unplaced_form (number_form t) ≡ number_form (erased_token t)
number_made t = made t.place (FormWhat-F.Number _ _) _ (rolls-Number _ _)

pub name_made : (t : Token) → unplaced_form (name_form t) ≡ name_form (erased_token t)
name_made t = made t.place (FormWhat-F.Name _) _ (rolls-Name _)

pub text_made : (t : Token) → unplaced_form (text_form t) ≡ text_form (erased_token t)
text_made t = made t.place (FormWhat-F.Text _) _ (rolls-Text _)

pub null_made : (place : Place) → unplaced_form (form_at place FormWhat.Null) ≡ form_at nowhere FormWhat.Null
null_made place = made place FormWhat-F.Null FormWhat.Null rolls-Null

pub base_made : (place : Place) (b : Base) (n : ℕ) → unplaced_form (form_at place (FormWhat.Base b n)) ≡ form_at nowhere (FormWhat.Base (unplaced_base b) n)
base_made place b n = made place (FormWhat-F.Base b n) (FormWhat.Base b n) (rolls-Base b n)

pub prefix_made : (place : Place) (op : List ℕ) (a : Form) → unplaced_form (form_at place (FormWhat.Prefix op a)) ≡ form_at nowhere (FormWhat.Prefix op (unplaced_form a))
prefix_made place op a = made place (FormWhat-F.Prefix op a) (FormWhat.Prefix op a) (rolls-Prefix op a)

pub post_made : (place : Place) (op : List ℕ) (a : Form) → unplaced_form (form_at place (FormWhat.Post op a)) ≡ form_at nowhere (FormWhat.Post op (unplaced_form a))
post_made place op a = made place (FormWhat-F.Post op a) (FormWhat.Post op a) (rolls-Post op a)

pub cast_made : (place : Place) (b : Base) (n : ℕ) (a : Form) → unplaced_form (form_at place (FormWhat.Cast b n a)) ≡ form_at nowhere (FormWhat.Cast (unplaced_base b) n (unplaced_form a))
cast_made place b n a = made place (FormWhat-F.Cast b n a) (FormWhat.Cast b n a) (rolls-Cast b n a)

pub binary_made : (place : Place) (op : List ℕ) (a b : Form) → unplaced_form (form_at place (FormWhat.Binary op a b)) ≡ form_at nowhere (FormWhat.Binary op (unplaced_form a) (unplaced_form b))
binary_made place op a b = made place (FormWhat-F.Binary op a b) (FormWhat.Binary op a b) (rolls-Binary op a b)

pub choice_made : (place : Place) (c a b : Form) → unplaced_form (form_at place (FormWhat.Choice c a b)) ≡ form_at nowhere (FormWhat.Choice (unplaced_form c) (unplaced_form a) (unplaced_form b))
choice_made place c a b = made place (FormWhat-F.Choice c a b) (FormWhat.Choice c a b) (rolls-Choice c a b)

pub subscript_made : (place : Place) (a i : Form) → unplaced_form (form_at place (FormWhat.Subscript a i)) ≡ form_at nowhere (FormWhat.Subscript (unplaced_form a) (unplaced_form i))
subscript_made place a i = made place (FormWhat-F.Subscript a i) (FormWhat.Subscript a i) (rolls-Subscript a i)

pub member_made : (place : Place) (a : Form) (is_arrow : Bool) (there : Place) (name : List ℕ) → unplaced_form (form_at place (FormWhat.Member a is_arrow there name)) ≡ form_at nowhere (FormWhat.Member (unplaced_form a) is_arrow nowhere name)
member_made place a is_arrow there name = made place (FormWhat-F.Member a is_arrow there name) (FormWhat.Member a is_arrow there name) (rolls-Member a is_arrow there name)

pub call_made : (place : Place) (f : Form) (args : List Form) → unplaced_form (form_at place (FormWhat.Call f args)) ≡ form_at nowhere (FormWhat.Call (unplaced_form f) (map unplaced_form args))
call_made place f args = made place (FormWhat-F.Call f args) (FormWhat.Call f args) (rolls-Call f args)

-- ---- declarations

abbrev declaration_of : Place → Option (List ℕ) → Base → ℕ → Option Const → Option (List Decl) → Option AnnText → Decl
declaration_of place name b k size fun a = roll-Decl (record { place = place; name = name; base = b; stars = k; size = size; fun = fun; ann = a })

pub decl_made : (place : Place) (name : Option (List ℕ)) (b : Base) (k : ℕ) (size : Option Const) (fun : Option (List Decl)) (a : Option AnnText) → unplaced_decl (declaration_of place name b k size fun a) ≡ declaration_of nowhere name (unplaced_base b) k (option_map unplaced_const size) (option_map (map unplaced_decl) fun) (option_map unplaced_annotation a)
decl_made place name b k size None a = fold-roll-Decl Decl decl_unplaced (record { place = place; name = name; base = b; stars = k; size = size; fun = None; ann = a })
decl_made place name b k size (Some ps) a = fold-roll-Decl Decl decl_unplaced (record { place = place; name = name; base = b; stars = k; size = size; fun = Some ps; ann = a })

pub declared_made : (b : Specifier) (k : ℕ) (n : Token) (size : Option Const) (fun : Option (List Decl)) → unplaced_decl (declared b k n size fun) ≡ declared (erased_specifier b) k (erased_token n) (option_map unplaced_const size) (option_map (map unplaced_decl) fun)
declared_made b k n size fun = decl_made n.place _ b.base k size fun None

pub unnamed_made : (b : Specifier) (k : ℕ) (fun : Option (List Decl)) → unplaced_decl (unnamed b k fun) ≡ unnamed (erased_specifier b) k (option_map (map unplaced_decl) fun)
unnamed_made b k fun = decl_made b.place None b.base k None fun None

pub perhaps_made : (b : Specifier) (k : ℕ) (n : Option Token) (fun : Option (List Decl)) → unplaced_decl (perhaps_named b k n fun) ≡ perhaps_named (erased_specifier b) k (option_map erased_token n) (option_map (map unplaced_decl) fun)
perhaps_made b k (Some n) fun = declared_made b k n None fun
perhaps_made b k None fun = unnamed_made b k fun

annotated_layer : (l : Decl-F Decl) (a : Option AnnText) → unplaced_decl (roll-Decl (record l { ann = a })) ≡ roll-Decl (record (out-Decl (decl_unplaced (map-Decl Decl Decl unplaced_decl l))) { ann = option_map unplaced_annotation a })
annotated_layer l a =
    fold-roll-Decl Decl decl_unplaced (record l { ann = a })
    ∙ ap (λ (m : Decl-F Decl). roll-Decl (record m { ann = option_map unplaced_annotation a })) (sym (out-roll-Decl _))

pub annotation_made : (x : Decl) (a : Option AnnText) → unplaced_decl (with_annotation x a) ≡ with_annotation (unplaced_decl x) (option_map unplaced_annotation a)
annotation_made x a = annotated_layer (out-Decl x) a ∙ ap (λ (d : Decl). with_annotation d (option_map unplaced_annotation a)) (sym (fold_out-Decl Decl decl_unplaced x))

-- names are kept
name_kept : (p : Decl) → (out-Decl (unplaced_decl p)).name ≡ (out-Decl p).name
name_kept p = ap (λ (d : Decl). (out-Decl d).name) (fold_out-Decl Decl decl_unplaced p) ∙ ap (λ (l : Decl-F Decl). l.name) (out-roll-Decl _)

pub names_kept : (ps : List Decl) → are_named (map unplaced_decl ps) ≡ are_named ps
names_kept [] = refl
names_kept (p ∷ ps) = ap (λ (o : Option (List ℕ)). is_some o && are_named (map unplaced_decl ps)) (name_kept p) ∙ ap (λ b. is_some (out-Decl p).name && b) (names_kept ps)

-- ---- initialisers

init_made : (l : Init-F Init Elem) (i : Init) → roll-Init l ≡ i → unplaced_init i ≡ init_unplaced (map-Init Init Elem Init Elem unplaced_init unplaced_elem l)
init_made l i e = ap unplaced_init (sym e) ∙ fold-roll-Init Init Elem init_unplaced elem_unplaced l

pub const_init : (c : Const) → unplaced_init (Init.Const c) ≡ Init.Const (unplaced_const c)
const_init c = init_made (Init-F.Const c) (Init.Const c) (init-Const c)

pub null_init : (place : Place) → unplaced_init (Init.Null place) ≡ Init.Null nowhere
null_init place = init_made (Init-F.Null place) (Init.Null place) (init-Null place)

pub address_init : (place : Place) (name : List ℕ) → unplaced_init (Init.Address place name) ≡ Init.Address nowhere name
address_init place name = init_made (Init-F.Address place name) (Init.Address place name) (init-Address place name)

pub text_init : (place : Place) (bytes : List ℕ) → unplaced_init (Init.Text place bytes) ≡ Init.Text nowhere bytes
text_init place bytes = init_made (Init-F.Text place bytes) (Init.Text place bytes) (init-Text place bytes)

pub list_init : (place : Place) (es : List Elem) → unplaced_init (Init.List place es) ≡ Init.List nowhere (map unplaced_elem es)
list_init place es = init_made (Init-F.List place es) (Init.List place es) (init-List place es)

pub elem_made : (field : Option FieldName) (i : Init) → unplaced_elem (record { field = field; init = i }) ≡ record { field = unplaced_field field; init = unplaced_init i }
elem_made field i = fold_out-Elem Init Elem init_unplaced elem_unplaced (record { field = field; init = i })

-- ---- statements

node_made : (place : Place) (l : NodeWhat-F NodeWhat Clause Node) (w : NodeWhat) → roll-NodeWhat l ≡ w → unplaced_node (node_at place w) ≡ node_at nowhere (statement_unplaced (map-NodeWhat NodeWhat Clause Node NodeWhat Clause Node unplaced_statement unplaced_clause unplaced_node l))
node_made place l w e =
    fold_out-Node NodeWhat Clause Node statement_unplaced clause_unplaced node_unplaced (record { place = place; what = w }) ∙ ap (λ (x : NodeWhat). node_at nowhere (unplaced_statement x)) (sym e)
    ∙ ap (λ (x : NodeWhat). node_at nowhere x) (fold-roll-NodeWhat NodeWhat Clause Node statement_unplaced clause_unplaced node_unplaced l)

pub empty_made : (place : Place) → unplaced_node (node_at place NodeWhat.Empty) ≡ node_at nowhere NodeWhat.Empty
empty_made place = node_made place NodeWhat-F.Empty NodeWhat.Empty rolls-Empty

pub break_made : (place : Place) → unplaced_node (node_at place NodeWhat.Break) ≡ node_at nowhere NodeWhat.Break
break_made place = node_made place NodeWhat-F.Break NodeWhat.Break rolls-Break

pub continue_made : (place : Place) → unplaced_node (node_at place NodeWhat.Continue) ≡ node_at nowhere NodeWhat.Continue
continue_made place = node_made place NodeWhat-F.Continue NodeWhat.Continue rolls-Continue

pub block_made : (place : Place) (ns : List Node) → unplaced_node (node_at place (NodeWhat.Block ns)) ≡ node_at nowhere (NodeWhat.Block (map unplaced_node ns))
block_made place ns = node_made place (NodeWhat-F.Block ns) (NodeWhat.Block ns) (rolls-Block ns)

pub local_made : (place : Place) (x : Decl) (o : Option Form) → unplaced_node (node_at place (NodeWhat.Local x o)) ≡ node_at nowhere (NodeWhat.Local (unplaced_decl x) (option_map unplaced_form o))
local_made place x o = node_made place (NodeWhat-F.Local x o) (NodeWhat.Local x o) (rolls-Local x o)

pub assign_made : (place there : Place) (op : List ℕ) (f g : Form) → unplaced_node (node_at place (NodeWhat.Assign there op f g)) ≡ node_at nowhere (NodeWhat.Assign nowhere op (unplaced_form f) (unplaced_form g))
assign_made place there op f g = node_made place (NodeWhat-F.Assign there op f g) (NodeWhat.Assign there op f g) (rolls-Assign there op f g)

pub plain_made : (place : Place) (f : Form) → unplaced_node (node_at place (NodeWhat.Plain f)) ≡ node_at nowhere (NodeWhat.Plain (unplaced_form f))
plain_made place f = node_made place (NodeWhat-F.Plain f) (NodeWhat.Plain f) (rolls-Plain f)

pub if_made : (place : Place) (c : Form) (a : Node) (b : Option Ended) → unplaced_node (node_at place (NodeWhat.If c a (other_node b))) ≡ node_at nowhere (NodeWhat.If (unplaced_form c) (unplaced_node a) (other_node (option_map erased_ended b)))
if_made place c a None = node_made place (NodeWhat-F.If c a None) (NodeWhat.If c a None) (rolls-If c a None)
if_made place c a (Some b) = node_made place (NodeWhat-F.If c a (Some b.node)) (NodeWhat.If c a (Some b.node)) (rolls-If c a (Some b.node))

pub while_made : (place : Place) (c : Form) (a : Node) → unplaced_node (node_at place (NodeWhat.While c a)) ≡ node_at nowhere (NodeWhat.While (unplaced_form c) (unplaced_node a))
while_made place c a = node_made place (NodeWhat-F.While c a) (NodeWhat.While c a) (rolls-While c a)

pub do_made : (place : Place) (a : Node) (c : Form) → unplaced_node (node_at place (NodeWhat.Do a c)) ≡ node_at nowhere (NodeWhat.Do (unplaced_node a) (unplaced_form c))
do_made place a c = node_made place (NodeWhat-F.Do a c) (NodeWhat.Do a c) (rolls-Do a c)

for_made : (place : Place) (i : List Node) (c : Option Form) (n : Option Node) (a : Node) → unplaced_node (node_at place (NodeWhat.For i c n a)) ≡ node_at nowhere (NodeWhat.For (map unplaced_node i) (option_map unplaced_form c) (option_map unplaced_node n) (unplaced_node a))
for_made place i c None a = node_made place (NodeWhat-F.For i c None a) (NodeWhat.For i c None a) (rolls-For i c None a)
for_made place i c (Some n) a = node_made place (NodeWhat-F.For i c (Some n) a) (NodeWhat.For i c (Some n) a) (rolls-For i c (Some n) a)

pub loop_made : (place : Place) (i : Option (List Node)) (c : Option Form) (n : Option Node) (a : Node) → unplaced_node (node_at place (NodeWhat.For (opened_by i) c n a)) ≡ node_at nowhere (NodeWhat.For (opened_by (option_map (map unplaced_node) i)) (option_map unplaced_form c) (option_map unplaced_node n) (unplaced_node a))
loop_made place None c n a = for_made place [] c n a
loop_made place (Some i) c n a = for_made place i c n a

pub switch_made : (place : Place) (c : Form) (cs : List Clause) → unplaced_node (node_at place (NodeWhat.Switch c cs)) ≡ node_at nowhere (NodeWhat.Switch (unplaced_form c) (map unplaced_clause cs))
switch_made place c cs = node_made place (NodeWhat-F.Switch c cs) (NodeWhat.Switch c cs) (rolls-Switch c cs)

pub return_made : (place : Place) (o : Option Form) → unplaced_node (node_at place (NodeWhat.Return o)) ≡ node_at nowhere (NodeWhat.Return (option_map unplaced_form o))
return_made place o = node_made place (NodeWhat-F.Return o) (NodeWhat.Return o) (rolls-Return o)

pub clause_made : (xs : List Label) (ns : List Node) → unplaced_clause (roll-Clause (record { labels = xs; body = ns })) ≡ roll-Clause (record { labels = map unplaced_label xs; body = map unplaced_node ns })
clause_made xs ns = fold-roll-Clause NodeWhat Clause Node statement_unplaced clause_unplaced node_unplaced (record { labels = xs; body = ns })

-- ---- lists

pub map_joined : {X Y : Type 0} (f : X → Y) (xss : List (List X)) → map f (joined xss) ≡ joined (map (map f) xss)
map_joined f [] = refl
map_joined {Y = Y} f (xs ∷ xss) = map-append f xs (joined xss) ∙ ap (λ (zs : List Y). map f xs ++ zs) (map_joined f xss)
