-- Trees that are the halves of a tree, places aside, are joined to it, places aside.
use Rattle.std.proofs.Common.{◌≡◌, true, false, ℕ, List, [], ◌∷◌, map, Result, Ok, Err, refl, sym, ap, subst, ◌∙◌}
use Rattle.std.specs.List.{list_all}
use Rattle.std.specs.Str.{bytes_eq}
use Rattle.std.proofs.lemmas.Bool.{false≢true}
use Rattle.mdr_core.specs.declared.plan.Half.TheVariants.{Kernel, User}
use Rattle.mdr_core.specs.declared.plan.Plan.{Plan}
use Rattle.mdr_syntax.specs.declared.token.Token.{Token}
use Rattle.mdr_syntax.specs.declared.tree.Head.{Head}
use Rattle.mdr_syntax.specs.declared.tree.Item.{Item}
use Rattle.mdr_syntax.specs.declared.tree.ItemWhat.{ItemWhat}
use Rattle.mdr_syntax.specs.declared.tree.ItemWhat.TheVariants as item
use Rattle.mdr_syntax.specs.declared.tree.Tree.{Tree}
use Rattle.mdr_syntax.specs.Places.{first_place}
use Rattle.mdr_syntax.specs.Tokens.{tokens_of}
use Rattle.mdr_print.specs.Items.{printed}
use Rattle.mdr_roundtrip.proofs.Tests.{both}
use Rattle.mdr_grammar.specs.Grammar.{Reads}
use Rattle.mdr_grammar.proofs.Exact.{one_tree}
use Rattle.mdr_roundtrip.specs.Again.{IsPrintedAsSource}
use Rattle.mdr_roundtrip.specs.Itemised.{unplaced_what_item, unplaced_item, unplaced_tree, is_shaped_head, is_shaped_what, is_shaped_item}
use Rattle.mdr_roundtrip.specs.Unplaced.{nowhere}
use Rattle.mdr_half.specs.declared.joining.Whole.{Whole}
use Rattle.mdr_half.specs.declared.joining.Whole.TheVariants.{First, Second, Neither}
use Rattle.mdr_half.specs.Halves.{item_in, kernel_tree, user_tree}
use Rattle.mdr_half.specs.Joins.{item_text, are_alike, part_of, remote_of, whole_by, whole_of, whole_item, joined_item, behind, behind_joined, joined_from, joined, HasNoRemote}
use Rattle.mdr_half.proofs.Pairing.{halves_join}
use Rattle.mdr_texts.specs.HalfTexts.{AreJoinedTo}

-- ---- a source has no `__remote` mark

abbrev IsWhole : ItemWhat → Type 0
IsWhole w = (head : Head) → w ≡ item.Proto head true → ⊥

no_remote : (w : ItemWhat) → is_shaped_what false w ≡ true → IsWhole w
no_remote w h head e = false≢true ((both (is_shaped_head false head) false (sym (ap (is_shaped_what false) e) ∙ h)).1)

pub none_remote : (is : List Item) → list_all (is_shaped_item false) is ≡ true → HasNoRemote is
none_remote [] h = tt
none_remote (i ∷ is) h = let k = both (is_shaped_item false i) (list_all (is_shaped_item false) is) h in (no_remote i.what k.0, none_remote is k.1)

-- ---- an item

abbrev done : Item → Result Item ℕ
done i = Ok i

one_joined : (plan : Plan) (i : Item) → IsWhole i.what → joined_item (item_in Kernel plan i) (item_in User plan i) ≡ Ok i
unfolding joined
one_joined plan i h = on (joined_item (item_in Kernel plan i) (item_in User plan i)) (halves_join plan (record { items = i ∷ [] }) (h, tt))
  where
    on : (r : Result Item ℕ) → behind_joined r (Ok []) ≡ Ok (i ∷ []) → r ≡ Ok i
    on (Ok j) e = let n : ◌≡◌ {A = Result (List Item) ℕ} (Ok (j ∷ [])) (Ok (i ∷ [])) = e in let q : j ≡ i = cc in ap (λ (x : Item). Ok x) q
    on (Err line) e = let n : ◌≡◌ {A = Result (List Item) ℕ} (Err line) (Ok (i ∷ [])) = e in absurd (Prim.cc)

part_same : (w : ItemWhat) → part_of (unplaced_what_item w) ≡ part_of w
part_same (item.Define name is_negative n kind) = refl
part_same (item.Struct place name fields) = refl
part_same (item.Enum es) = refl
part_same (item.Global d value) = refl
part_same (item.Proto h is_remote) = refl
part_same (item.Func h is_critical body) = refl

remote_same : (w : ItemWhat) → unplaced_what_item (remote_of w) ≡ remote_of (unplaced_what_item w)
remote_same (item.Define name is_negative n kind) = refl
remote_same (item.Struct place name fields) = refl
remote_same (item.Enum es) = refl
remote_same (item.Global d value) = refl
remote_same (item.Proto h is_remote) = refl
remote_same (item.Func h is_critical body) = refl

abbrev alone : ItemWhat → Tree
alone w = record { items = record { place = first_place; what = w } ∷ [] }

abbrev SameText : Type 0
SameText = (a b : Tree) → unplaced_tree a ≡ unplaced_tree b → printed a ≡ printed b

text_same : SameText → (a b : ItemWhat) → unplaced_what_item a ≡ unplaced_what_item b → item_text a ≡ item_text b
text_same same a b e = same (alone a) (alone b) (ap (λ (w : ItemWhat). record { items = record { place = nowhere; what = w } ∷ [] }) e)

remote_text : SameText → (a b : ItemWhat) → unplaced_what_item a ≡ unplaced_what_item b → item_text (remote_of a) ≡ item_text (remote_of b)
remote_text same a b e = text_same same (remote_of a) (remote_of b) (remote_same a ∙ ap remote_of e ∙ sym (remote_same b))

parts_same : (a b : ItemWhat) → unplaced_what_item a ≡ unplaced_what_item b → part_of a ≡ part_of b
parts_same a b e = sym (part_same a) ∙ ap part_of e ∙ part_same b

whole_same : SameText → (k u a b : ItemWhat) → unplaced_what_item k ≡ unplaced_what_item a → unplaced_what_item u ≡ unplaced_what_item b → whole_of k u ≡ whole_of a b
whole_same same k u a b e f =
    ap (λ p. whole_by p (part_of u) (are_alike (remote_of k) (remote_of u))) (parts_same k a e)
    ∙ ap (λ p. whole_by (part_of a) p (are_alike (remote_of k) (remote_of u))) (parts_same u b f)
    ∙ ap (λ t. whole_by (part_of a) (part_of b) (bytes_eq t (item_text (remote_of u)))) (remote_text same k a e)
    ∙ ap (λ t. whole_by (part_of a) (part_of b) (bytes_eq (item_text (remote_of a)) t)) (remote_text same u b f)

record JoinedTo (k u i : Item) : Type 0 where
  whole : Item
  is_joined : joined_item k u ≡ Ok whole
  same : unplaced_item whole ≡ unplaced_item i

item_joined : SameText → (plan : Plan) (i k u : Item) → IsWhole i.what → unplaced_item k ≡ unplaced_item (item_in Kernel plan i) → unplaced_item u ≡ unplaced_item (item_in User plan i) → JoinedTo k u i
item_joined same plan i k u h e f = on (whole_of (item_in Kernel plan i).what (item_in User plan i).what) refl (one_joined plan i h)
  where
    is : whole_of k.what u.what ≡ whole_of (item_in Kernel plan i).what (item_in User plan i).what
    is = whole_same same k.what u.what (item_in Kernel plan i).what (item_in User plan i).what (ap (λ (x : Item). x.what) e) (ap (λ (x : Item). x.what) f)

    on : (v : Whole) → whole_of (item_in Kernel plan i).what (item_in User plan i).what ≡ v → whole_item (item_in Kernel plan i) (item_in User plan i) v ≡ Ok i → JoinedTo k u i
    on First q g = let n : done (item_in Kernel plan i) ≡ done i = g in let m : item_in Kernel plan i ≡ i = cc in record { whole = k; is_joined = ap (whole_item k u) (is ∙ q); same = e ∙ ap unplaced_item m }
    on Second q g = let n : done (item_in User plan i) ≡ done i = g in let m : item_in User plan i ≡ i = cc in record { whole = u; is_joined = ap (whole_item k u) (is ∙ q); same = f ∙ ap unplaced_item m }
    on Neither q g = let n : ◌≡◌ {A = Result Item ℕ} (Err (item_in User plan i).place.line) (Ok i) = g in absurd (Prim.cc)

-- ---- trees

record AllJoined (last : ℕ) (ks us is : List Item) : Type 0 where
  items : List Item
  is_joined : joined_from last ks us ≡ Ok items
  same : map unplaced_item items ≡ map unplaced_item is

none_of : {A : Type 0} (i : Item) (is : List Item) → [] ≡ i ∷ is → A
none_of i is e = absurd (Prim.cc)

items_joined : SameText → (plan : Plan) (last : ℕ) (is ks us : List Item) → HasNoRemote is → map unplaced_item ks ≡ map unplaced_item (map (item_in Kernel plan) is) → map unplaced_item us ≡ map unplaced_item (map (item_in User plan) is) → AllJoined last ks us is
items_joined same plan last [] [] [] h e f = record { items = []; is_joined = refl; same = refl }
items_joined same plan last [] [] (u ∷ us) h e f = none_of (unplaced_item u) (map unplaced_item us) (sym f)
items_joined same plan last [] (k ∷ ks) us h e f = none_of (unplaced_item k) (map unplaced_item ks) (sym e)
items_joined same plan last (i ∷ is) [] us h e f = none_of (unplaced_item (item_in Kernel plan i)) (map unplaced_item (map (item_in Kernel plan) is)) e
items_joined same plan last (i ∷ is) (k ∷ ks) [] h e f = none_of (unplaced_item (item_in User plan i)) (map unplaced_item (map (item_in User plan) is)) f
items_joined same plan last (i ∷ is) (k ∷ ks) (u ∷ us) h e f =
    let e0 : unplaced_item k ≡ unplaced_item (item_in Kernel plan i) = cc in
    let e1 : map unplaced_item ks ≡ map unplaced_item (map (item_in Kernel plan) is) = cc in
    let f0 : unplaced_item u ≡ unplaced_item (item_in User plan i) = cc in
    let f1 : map unplaced_item us ≡ map unplaced_item (map (item_in User plan) is) = cc in
    let a = item_joined same plan i k u h.0 e0 f0 in
    let b = items_joined same plan u.place.line is ks us h.1 e1 f1 in
    record {
      items = a.whole ∷ b.items;
      is_joined = ap (λ r. behind_joined r (joined_from u.place.line ks us)) a.is_joined ∙ ap (behind a.whole) b.is_joined;
      same = ap (λ (x : Item). x ∷ map unplaced_item b.items) a.same ∙ ap (λ (xs : List Item). unplaced_item i ∷ xs) b.same;
    }

trees_joined : SameText → (plan : Plan) (tree kernel user : Tree) → HasNoRemote tree.items → unplaced_tree kernel ≡ unplaced_tree (kernel_tree plan tree) → unplaced_tree user ≡ unplaced_tree (user_tree plan tree) → AreJoinedTo kernel user tree
unfolding joined
trees_joined same plan tree kernel user h e f =
    let a = items_joined same plan 1 tree.items kernel.items user.items h (ap (λ (t : Tree). t.items) e) (ap (λ (t : Tree). t.items) f) in
    record { items = a.items; is_joined = a.is_joined; same = ap (λ (xs : List Item). record { items = xs }) a.same }

-- ---- texts

ok_same : {A B : Type 0} (a b : A) → ◌≡◌ {A = Result A B} (Ok a) (Ok b) → a ≡ b
ok_same a b e = cc

-- the one tree of a text that was printed
the_same : (tree read : Tree) (tokens : List Token) → IsPrintedAsSource true tree → tokens_of (printed tree) ≡ Ok tokens → Reads true tokens read → unplaced_tree read ≡ unplaced_tree tree
the_same tree read tokens p e r =
    let n : p.tokens ≡ tokens = ok_same p.tokens tokens (sym p.is_text ∙ e) in
    ap unplaced_tree (one_tree true tokens read p.is_source.read r (subst (λ (ts : List Token). Reads true ts p.is_source.read) n p.is_source.is_read)) ∙ p.is_source.is_same

pub halves_joined : SameText → (plan : Plan) (tree kernel user : Tree) (ks us : List Token) → HasNoRemote tree.items → IsPrintedAsSource true (kernel_tree plan tree) → IsPrintedAsSource true (user_tree plan tree)
    → tokens_of (printed (kernel_tree plan tree)) ≡ Ok ks → Reads true ks kernel → tokens_of (printed (user_tree plan tree)) ≡ Ok us → Reads true us user → AreJoinedTo kernel user tree
halves_joined same plan tree kernel user ks us h p q a r b s =
    trees_joined same plan tree kernel user h (the_same (kernel_tree plan tree) kernel ks p a r) (the_same (user_tree plan tree) user us q b s)
