-- The halves of a source's tree can be printed, and have the shape of the trees of halves' texts.
use Rattle.std.proofs.Common.{◌≡◌, Bool, true, false, not, ℕ, Option, Some, None, List, [], ◌∷◌, map, Ok, refl, sym, ap, ◌∙◌}
use Rattle.std.specs.Prelude.{◌&&◌, ◌||◌}
use Rattle.std.specs.List.{list_all}
use Rattle.std.proofs.lemmas.Bool.{false≢true}
use Rattle.mdr_core.specs.declared.plan.Half.{Half}
use Rattle.mdr_core.specs.declared.plan.Plan.{Plan}
use Rattle.mdr_syntax.specs.Tokens.{tokens_of}
use Rattle.mdr_syntax.specs.declared.token.Token.{Token}
use Rattle.mdr_syntax.specs.declared.tree.Tree.{Tree}
use Rattle.mdr_syntax.specs.declared.tree.Const.{Const}
use Rattle.mdr_syntax.specs.declared.tree.Decl.{Decl, out-Decl}
use Rattle.mdr_syntax.specs.declared.tree.Decl.TheOpen.{Decl-F}
use Rattle.mdr_syntax.specs.declared.tree.Decl.TheFolds.{map-Decl, fold_out-Decl}
use Rattle.mdr_syntax.specs.declared.tree.Head.{Head}
use Rattle.mdr_syntax.specs.declared.tree.Item.{Item}
use Rattle.mdr_syntax.specs.declared.tree.ItemWhat.{ItemWhat}
use Rattle.mdr_syntax.specs.declared.tree.ItemWhat.TheVariants as item
use Rattle.mdr_syntax.specs.declared.tree.Node.{Node}
use Rattle.mdr_print.specs.Items.{tree_marks, printed}
use Rattle.mdr_print.specs.Spelled.{spelled}
use Rattle.mdr_print.proofs.Reading.{reads_tree}
use Rattle.mdr_roundtrip.proofs.ItemsApart.{trees_apart}
use Rattle.mdr_grammar.specs.Grammar.{Reads}
use Rattle.mdr_roundtrip.specs.Again.{IsPrintedAsSource}
use Rattle.mdr_roundtrip.proofs.Lexemes.{tokens_are_lexed}
use Rattle.mdr_roundtrip.proofs.PlacedSources.{shape_again}
use Rattle.mdr_roundtrip.proofs.Printing.{trees_are_printable}
use Rattle.mdr_roundtrip.proofs.ShapingSources.{sources_are_shaped}
use Rattle.mdr_roundtrip.specs.Printable.{all}
use Rattle.mdr_roundtrip.specs.PrintableDeclarations.{maybe}
use Rattle.mdr_roundtrip.specs.PrintableStatements.{is_printable_node}
use Rattle.mdr_roundtrip.specs.Whole.{is_printable_head, is_printable_item, is_printable_line}
use Rattle.mdr_roundtrip.proofs.Tests.{both}
use Rattle.mdr_grammar.specs.Statements.{are_named}
use Rattle.mdr_half.specs.Halves.{half_tree, half_of, is_same_half, body_or_remote, what_in, item_in}
use Rattle.mdr_roundtrip.specs.Shaped.{is_name, is_named_base, are_stars}
use Rattle.mdr_roundtrip.specs.Declarations.{Standing, is_named, may_be_sized, are_parameters, is_annotation_at, decl_shaped, is_shaped_decl}
use Rattle.mdr_roundtrip.specs.Itemised.{is_shaped_parameter, is_shaped_head, is_shaped_body, is_shaped_what, is_shaped_item}
use Rattle.mdr_roundtrip.proofs.Bools.{also}

-- ---- a parameter with a name may stand where one may have none

weaker : (a b n m r : Bool) → (n ≡ true → m ≡ true) → (a && (b && (n && r))) ≡ true → (a && (b && (m && r))) ≡ true
weaker true true true m r f h = also m r (f refl) h
weaker true true false m r f h = absurd (false≢true h)
weaker true false n m r f h = absurd (false≢true h)
weaker false b n m r f h = absurd (false≢true h)

named : (name : Option (List ℕ)) → is_named name ≡ true → maybe is_name name ≡ true
named None h = absurd (false≢true h)
named (Some name) h = h

sized : (size : Option Const) → may_be_sized (Standing.Parameter true) size ≡ may_be_sized (Standing.Parameter false) size
sized None = refl
sized (Some c) = refl

layer_unnamed : (x : Decl-F (Standing → ℕ → Bool)) → decl_shaped x (Standing.Parameter true) 1 ≡ true → decl_shaped x (Standing.Parameter false) 1 ≡ true
layer_unnamed x h =
    ap (λ s. is_named_base x.base && (are_stars x.stars && (maybe is_name x.name && (s && (maybe (are_parameters 1) x.fun && maybe (is_annotation_at 1) x.ann))))) (sym (sized x.size))
    ∙ weaker (is_named_base x.base) (are_stars x.stars) (is_named x.name) (maybe is_name x.name) (may_be_sized (Standing.Parameter true) x.size && (maybe (are_parameters 1) x.fun && maybe (is_annotation_at 1) x.ann)) (named x.name) h

unnamed : (d : Decl) → is_shaped_parameter true d ≡ true → is_shaped_parameter false d ≡ true
unnamed d h =
    let e = fold_out-Decl (Standing → ℕ → Bool) decl_shaped d in
    ap (λ g. g (Standing.Parameter false) 1) e
    ∙ layer_unnamed (map-Decl Decl (Standing → ℕ → Bool) is_shaped_decl (out-Decl d)) (ap (λ g. g (Standing.Parameter true) 1) (sym e) ∙ h)

all_unnamed : (ds : List Decl) → list_all (is_shaped_parameter true) ds ≡ true → list_all (is_shaped_parameter false) ds ≡ true
all_unnamed [] h = refl
all_unnamed (d ∷ ds) h =
    let k = both (is_shaped_parameter true d) (list_all (is_shaped_parameter true) ds) h in
    also (is_shaped_parameter false d) (list_all (is_shaped_parameter false) ds) (unnamed d k.0) (all_unnamed ds k.1)

deeper : (a b c n m r : Bool) → (n ≡ true → m ≡ true) → (a && (b && (c && (n && r)))) ≡ true → (a && (b && (c && (m && r)))) ≡ true
deeper true b c n m r f h = weaker b c n m r f h
deeper false b c n m r f h = absurd (false≢true h)

head_unnamed : (h : Head) → is_shaped_head true h ≡ true → is_shaped_head false h ≡ true
head_unnamed h = deeper (is_named_base h.base) (are_stars h.stars) (is_name h.name) (list_all (is_shaped_parameter true) h.params) (list_all (is_shaped_parameter false) h.params) (maybe (is_annotation_at 0) h.ann) (all_unnamed h.params)

-- ---- items

in_halves : (r : Bool) → (not r || true) ≡ true
in_halves true = refl
in_halves false = refl

func_shaped : (is_mine : Bool) (h : Head) (is_critical : Bool) (body : List Node) → is_shaped_what false (item.Func h is_critical body) ≡ true → is_shaped_what true (body_or_remote is_mine h is_critical body) ≡ true
func_shaped true h true body k = k
func_shaped true h false body k = k
func_shaped false h true body k = also (is_shaped_head false h) true (head_unnamed h (both (is_shaped_head true h) (is_shaped_body body) k).0) refl
func_shaped false h false body k = also (is_shaped_head false h) true (both (is_shaped_head false h) (are_named h.params && is_shaped_body body) k).0 refl

what_shaped : (half : Half) (plan : Plan) (w : ItemWhat) → is_shaped_what false w ≡ true → is_shaped_what true (what_in half plan w) ≡ true
what_shaped half plan (item.Define name is_negative n kind) k = k
what_shaped half plan (item.Struct place name fields) k = k
what_shaped half plan (item.Enum es) k = k
what_shaped half plan (item.Global d value) k = k
what_shaped half plan (item.Proto h is_remote) k = also (is_shaped_head false h) (not is_remote || true) (both (is_shaped_head false h) (not is_remote || false) k).0 (in_halves is_remote)
what_shaped half plan (item.Func h is_critical body) k = func_shaped (is_same_half (half_of plan h.name) half) h is_critical body k

pub half_shaped : (half : Half) (plan : Plan) (is : List Item) → list_all (is_shaped_item false) is ≡ true → list_all (is_shaped_item true) (map (item_in half plan) is) ≡ true
half_shaped half plan [] k = refl
half_shaped half plan (i ∷ is) k =
    let b = both (is_shaped_item false i) (list_all (is_shaped_item false) is) k in
    also (is_shaped_item true (item_in half plan i)) (list_all (is_shaped_item true) (map (item_in half plan) is)) (what_shaped half plan i.what b.0) (half_shaped half plan is b.1)

func_printable : (is_mine : Bool) (h : Head) (is_critical : Bool) (body : List Node) → is_printable_item (item.Func h is_critical body) ≡ true → is_printable_item (body_or_remote is_mine h is_critical body) ≡ true
func_printable true h is_critical body k = k
func_printable false h is_critical body k = (both (is_printable_head h) (all (map is_printable_node body)) k).0

what_printable : (half : Half) (plan : Plan) (w : ItemWhat) → is_printable_item w ≡ true → is_printable_item (what_in half plan w) ≡ true
what_printable half plan (item.Define name is_negative n kind) k = k
what_printable half plan (item.Struct place name fields) k = k
what_printable half plan (item.Enum es) k = k
what_printable half plan (item.Global d value) k = k
what_printable half plan (item.Proto h is_remote) k = k
what_printable half plan (item.Func h is_critical body) k = func_printable (is_same_half (half_of plan h.name) half) h is_critical body k

pub half_printable : (half : Half) (plan : Plan) (is : List Item) → list_all is_printable_line is ≡ true → list_all is_printable_line (map (item_in half plan) is) ≡ true
half_printable half plan [] k = refl
half_printable half plan (i ∷ is) k =
    let b = both (is_printable_line i) (list_all is_printable_line is) k in
    also (is_printable_line (item_in half plan i)) (list_all is_printable_line (map (item_in half plan) is)) (what_printable half plan i.what b.0) (half_printable half plan is b.1)

-- each half is printed as a source of it
pub half_again : (bytes : List ℕ) (tokens : List Token) (tree : Tree) (half : Half) (plan : Plan) → tokens_of bytes ≡ Ok tokens → Reads false tokens tree → IsPrintedAsSource true (half_tree half plan tree)
unfolding printed spelled
half_again bytes tokens tree half plan e r =
    let a = tokens_are_lexed bytes tokens e in
    let p = half_printable half plan tree.items (trees_are_printable false tokens tree a r) in
    shape_again true (half_tree half plan tree) (half_shaped half plan tree.items (sources_are_shaped false tokens tree a r))
    (reads_tree (tree_marks (half_tree half plan tree)) (trees_apart (half_tree half plan tree) p))
