-- The shapes of statements, one by one.
use Rattle.std.proofs.Common.{◌≡◌, refl, sym, subst, ap, ◌∙◌, ℕ, ◌+◌, Bool, true, false, Option, Some, None, List, [], ◌∷◌, map}
use Rattle.std.specs.Prelude.{◌&&◌, ◌||◌, not}
use Rattle.std.specs.List.{list_all}
use Rattle.std.proofs.lemmas.Bool.{false≢true}
use Rattle.mdr_core.specs.declared.place.Place.{Place}
use Rattle.mdr_syntax.specs.declared.tree.Base.{Base}
use Rattle.mdr_syntax.specs.declared.tree.Clause.{Clause}
use Rattle.mdr_syntax.specs.declared.tree.Decl.{Decl, out-Decl}
use Rattle.mdr_syntax.specs.declared.tree.Form.{Form}
use Rattle.mdr_syntax.specs.declared.tree.FormWhat
use Rattle.mdr_syntax.specs.declared.tree.FormWhat.TheOpen.{FormWhat-F}
use Rattle.mdr_syntax.specs.declared.tree.FormWhat.TheFolds.{fold-FormWhat, fold-roll-FormWhat, fold_out-Form}
use Rattle.mdr_syntax.specs.declared.tree.FormWhat.TheVariants.{rolls-Text}
use Rattle.mdr_syntax.specs.declared.tree.Label.{Label}
use Rattle.mdr_syntax.specs.declared.tree.Node.{Node}
use Rattle.mdr_syntax.specs.declared.tree.NodeWhat
use Rattle.mdr_syntax.specs.declared.tree.NodeWhat.{NodeWhat}
use Rattle.mdr_syntax.specs.declared.tree.NodeWhat.TheOpen.{NodeWhat-F}
use Rattle.mdr_syntax.specs.declared.tree.NodeWhat.TheFolds.{map-NodeWhat, fold-roll-NodeWhat, fold-roll-Clause, fold_out-Node}
use Rattle.mdr_syntax.specs.declared.tree.NodeWhat.TheVariants.{rolls-Empty, rolls-Block, rolls-Local, rolls-Assign, rolls-Plain, rolls-If, rolls-While, rolls-For, rolls-Do, rolls-Switch, rolls-Return, rolls-Break, rolls-Continue}
use Rattle.mdr_syntax.specs.declared.tree.NodeWhat.TheViews.{roll-NodeWhat, roll-Clause, out-NodeWhat, out-Node, roll-out-NodeWhat}
use Rattle.mdr_roundtrip.specs.Words.{is_among, is_writable}
use Rattle.mdr_roundtrip.specs.Printable.{all}
use Rattle.mdr_roundtrip.specs.PrintableDeclarations.{maybe}
use Rattle.mdr_roundtrip.proofs.Tests.{both, or_right}
use Rattle.mdr_grammar.specs.declared.parts.Ended.{Ended}
use Rattle.mdr_grammar.specs.declared.parts.Specifier.{Specifier}
use Rattle.mdr_grammar.specs.Expressions.{is_level_free, form_at}
use Rattle.mdr_grammar.specs.Statements.{node_at, other_node, opened_by}
use Rattle.mdr_roundtrip.specs.Initialised.{are_some}
use Rattle.mdr_roundtrip.specs.Alone.{is_alone}
use Rattle.mdr_roundtrip.specs.Stated.{Stated, is_expression_at, what_texted, form_texted, is_text_form, assignments, is_same_base, item_at, block_at, with_base, further_at, opening_at, clause_at, statement_at, local_at, is_shaped_label, statement_stated, clause_stated, node_stated, stated, stated_what, is_clause_at}
use Rattle.mdr_roundtrip.proofs.Bools.{also}
use Rattle.mdr_roundtrip.proofs.Sourcing.{local_by, item_in, body_of}
use Rattle.mdr_roundtrip.proofs.ShapedDecls.{bases_alike}

made : (place : Place) (l : NodeWhat-F NodeWhat Clause Node) (w : NodeWhat) → roll-NodeWhat l ≡ w → stated (node_at place w) ≡ statement_stated (map-NodeWhat NodeWhat Clause Node Stated (ℕ → Bool) Stated stated_what is_clause_at stated l)
made place l w e =
    fold_out-Node Stated (ℕ → Bool) Stated statement_stated clause_stated node_stated (record { place = place; what = w }) ∙ ap stated_what (sym e)
    ∙ fold-roll-NodeWhat Stated (ℕ → Bool) Stated statement_stated clause_stated node_stated l

-- ---- what stands alone

pub empty_is : (place : Place) (l : ℕ) → (stated (node_at place NodeWhat.Empty)).statement l ≡ true
empty_is place l = ap (λ (s : Stated). s.statement l) (made place NodeWhat-F.Empty NodeWhat.Empty rolls-Empty)

pub break_is : (place : Place) (l : ℕ) → (stated (node_at place NodeWhat.Break)).statement l ≡ true
break_is place l = ap (λ (s : Stated). s.statement l) (made place NodeWhat-F.Break NodeWhat.Break rolls-Break)

pub continue_is : (place : Place) (l : ℕ) → (stated (node_at place NodeWhat.Continue)).statement l ≡ true
continue_is place l = ap (λ (s : Stated). s.statement l) (made place NodeWhat-F.Continue NodeWhat.Continue rolls-Continue)

pub return_is : (place : Place) (l : ℕ) (o : Option Form) → maybe (is_expression_at (l + 1)) o ≡ true → (stated (node_at place (NodeWhat.Return o))).statement l ≡ true
return_is place l o h = ap (λ (s : Stated). s.statement l) (made place (NodeWhat-F.Return o) (NodeWhat.Return o) (rolls-Return o)) ∙ h

pub assign_is : (place at : Place) (l : ℕ) (op : List ℕ) (f g : Form) → is_among assignments op ≡ true → is_expression_at (l + 1) f ≡ true → is_expression_at (l + 1) g ≡ true → (stated (node_at place (NodeWhat.Assign at op f g))).simple l ≡ true
assign_is place at l op f g o h k =
    ap (λ (s : Stated). s.simple l) (made place (NodeWhat-F.Assign at op f g) (NodeWhat.Assign at op f g) (rolls-Assign at op f g))
    ∙ also (is_among assignments op) (is_expression_at (l + 1) f && is_expression_at (l + 1) g) o (also (is_expression_at (l + 1) f) (is_expression_at (l + 1) g) h k)

pub plain_is : (place : Place) (l : ℕ) (f : Form) → is_alone f ≡ true → is_expression_at (l + 1) f ≡ true → (stated (node_at place (NodeWhat.Plain f))).simple l ≡ true
plain_is place l f a h = ap (λ (s : Stated). s.simple l) (made place (NodeWhat-F.Plain f) (NodeWhat.Plain f) (rolls-Plain f)) ∙ also (is_alone f) (is_expression_at (l + 1) f) a h

-- ---- blocks and locals

pub all_in : (l : ℕ) (ns : List Node) → list_all (item_in l) ns ≡ true → all (map (item_at l) (map stated ns)) ≡ true
all_in l [] h = refl
all_in l (n ∷ ns) h =
    let k = both (item_in l n) (list_all (item_in l) ns) h in
    also (item_in l n) (all (map (item_at l) (map stated ns))) k.0 (all_in l ns k.1)

in_block : (l : ℕ) (ns : List Node) → (is_level_free (l + 1) || not (are_some ns)) ≡ true → list_all (item_in (l + 1)) ns ≡ true → block_at (map stated ns) l ≡ true
in_block l [] a h = refl
in_block l (n ∷ ns) a h = also (is_level_free (l + 1)) (all (map (item_at (l + 1)) (map stated (n ∷ ns)))) (left (is_level_free (l + 1)) a) (all_in (l + 1) (n ∷ ns) h)
  where
    left : (b : Bool) → (b || false) ≡ true → b ≡ true
    left true e = refl
    left false e = e

pub block_statement : (place : Place) (l : ℕ) (ns : List Node) → (is_level_free (l + 1) || not (are_some ns)) ≡ true → list_all (item_in (l + 1)) ns ≡ true → (stated (node_at place (NodeWhat.Block ns))).statement l ≡ true
block_statement place l ns a h = ap (λ (s : Stated). s.statement l) (made place (NodeWhat-F.Block ns) (NodeWhat.Block ns) (rolls-Block ns)) ∙ in_block l ns a h

pub block_body : (place : Place) (l : ℕ) (ns : List Node) → (is_level_free (l + 1) || not (are_some ns)) ≡ true → list_all (item_in (l + 1)) ns ≡ true → (stated (node_at place (NodeWhat.Block ns))).body l ≡ true
block_body place l ns a h = ap (λ (s : Stated). s.body l) (made place (NodeWhat-F.Block ns) (NodeWhat.Block ns) (rolls-Block ns)) ∙ in_block l ns a h

pub local_is : (place : Place) (b : Specifier) (l d : ℕ) (x : Decl) (o : Option Form) → local_at x o l d ≡ true → is_same_base b.base (out-Decl x).base ≡ true → local_by b l d (node_at place (NodeWhat.Local x o)) ≡ true
local_is place b l d x o h k =
    let e = made place (NodeWhat-F.Local x o) (NodeWhat.Local x o) (rolls-Local x o) in
    also ((stated (node_at place (NodeWhat.Local x o))).local l d) (with_base (Some b.base) (stated (node_at place (NodeWhat.Local x o))).base) (ap (λ (s : Stated). s.local l d) e ∙ h) (ap (λ (s : Stated). with_base (Some b.base) s.base) e ∙ k)

pub item_of_local : (b : Specifier) (l : ℕ) (n : Node) → local_by b l 0 n ≡ true → item_in l n ≡ true
item_of_local b l n h = or_right ((stated n).statement l) ((stated n).local l 0) (both ((stated n).local l 0) (with_base (Some b.base) (stated n).base) h).0

pub item_of_statement : (l : ℕ) (n : Node) → (stated n).statement l ≡ true → item_in l n ≡ true
item_of_statement l n h = left ((stated n).statement l) ((stated n).local l 0) h
  where
    left : (a b : Bool) → a ≡ true → (a || b) ≡ true
    left true b e = refl
    left false b e = absurd (false≢true e)

-- ---- what a `for` begins with

with_one : (b : Base) (o : Option Base) (c : Option Base) → with_base (Some b) o ≡ true → with_base (Some b) c ≡ true → with_base o c ≡ true
with_one b (Some x) (Some y) p q = bases_alike b x y p q
with_one b None c p q = absurd (false≢true p)
with_one b (Some x) None p q = absurd (false≢true q)

all_further : (b : Specifier) (l : ℕ) (o : Option Base) (ns : List Node) → with_base (Some b.base) o ≡ true → list_all (local_by b l 1) ns ≡ true → all (map (further_at l o) (map stated ns)) ≡ true
all_further b l o [] p h = refl
all_further b l o (n ∷ ns) p h =
    let k = both (local_by b l 1 n) (list_all (local_by b l 1) ns) h in
    let j = both ((stated n).local l 1) (with_base (Some b.base) (stated n).base) k.0 in
    also (further_at l o (stated n)) (all (map (further_at l o) (map stated ns))) (also ((stated n).local l 1) (with_base o (stated n).base) j.0 (with_one b.base o (stated n).base p j.1)) (all_further b l o ns p k.1)

pub opening_of_locals : (b : Specifier) (l : ℕ) (ns : List Node) → list_all (local_by b l 1) ns ≡ true → opening_at l (map stated ns) ≡ true
opening_of_locals b l [] h = refl
opening_of_locals b l (n ∷ []) h =
    let k = both (local_by b l 1 n) true h in
    or_right ((stated n).simple l) ((stated n).local l 1) (both ((stated n).local l 1) (with_base (Some b.base) (stated n).base) k.0).0
opening_of_locals b l (n ∷ m ∷ ns) h =
    let k = both (local_by b l 1 n) (list_all (local_by b l 1) (m ∷ ns)) h in
    let j = both ((stated n).local l 1) (with_base (Some b.base) (stated n).base) k.0 in
    also ((stated n).local l 1) (all (map (further_at l (stated n).base) (map stated (m ∷ ns)))) j.0 (all_further b l (stated n).base (m ∷ ns) j.1 k.1)

pub opening_of_simple : (l : ℕ) (n : Node) → (stated n).simple l ≡ true → opening_at l (map stated (n ∷ [])) ≡ true
opening_of_simple l n h = left ((stated n).simple l) ((stated n).local l 1) h
  where
    left : (a b : Bool) → a ≡ true → (a || b) ≡ true
    left true b e = refl
    left false b e = absurd (false≢true e)

-- ---- statements with bodies

other_is : (l : ℕ) (b : Option Ended) → maybe (body_of l) b ≡ true → (c : Bool) → c ≡ true → (c && maybe (λ n. (stated n).body l) (other_node b)) ≡ true
other_is l None h c e = also c true e refl
other_is l (Some x) h c e = also c ((stated x.node).body l) e h

pub if_is : (place : Place) (l : ℕ) (c : Form) (a : Node) (b : Option Ended) → is_expression_at (l + 1) c ≡ true → (stated a).body (l + 1) ≡ true → maybe (body_of (l + 1)) b ≡ true → (stated (node_at place (NodeWhat.If c a (other_node b)))).statement l ≡ true
if_is place l c a None h g k =
    ap (λ (s : Stated). s.statement l) (made place (NodeWhat-F.If c a None) (NodeWhat.If c a None) (rolls-If c a None))
    ∙ also (is_expression_at (l + 1) c) ((stated a).body (l + 1) && true) h (also ((stated a).body (l + 1)) true g refl)
if_is place l c a (Some b) h g k =
    ap (λ (s : Stated). s.statement l) (made place (NodeWhat-F.If c a (Some b.node)) (NodeWhat.If c a (Some b.node)) (rolls-If c a (Some b.node)))
    ∙ also (is_expression_at (l + 1) c) ((stated a).body (l + 1) && (stated b.node).body (l + 1)) h (also ((stated a).body (l + 1)) ((stated b.node).body (l + 1)) g k)

pub while_is : (place : Place) (l : ℕ) (c : Form) (a : Node) → is_expression_at (l + 1) c ≡ true → (stated a).body (l + 1) ≡ true → (stated (node_at place (NodeWhat.While c a))).statement l ≡ true
while_is place l c a h g = ap (λ (s : Stated). s.statement l) (made place (NodeWhat-F.While c a) (NodeWhat.While c a) (rolls-While c a)) ∙ also (is_expression_at (l + 1) c) ((stated a).body (l + 1)) h g

pub do_is : (place : Place) (l : ℕ) (a : Node) (c : Form) → (stated a).body (l + 1) ≡ true → is_expression_at (l + 1) c ≡ true → (stated (node_at place (NodeWhat.Do a c))).statement l ≡ true
do_is place l a c g h = ap (λ (s : Stated). s.statement l) (made place (NodeWhat-F.Do a c) (NodeWhat.Do a c) (rolls-Do a c)) ∙ also ((stated a).body (l + 1)) (is_expression_at (l + 1) c) g h

four : (a b c d e : Bool) → a ≡ true → b ≡ true → c ≡ true → d ≡ true → e ≡ true → (a && (b && (c && (d && e)))) ≡ true
four a b c d e p q r s t = also a (b && (c && (d && e))) p (also b (c && (d && e)) q (also c (d && e) r (also d e s t)))

for_made : (place : Place) (l : ℕ) (i : List Node) (c : Option Form) (n : Option Node) (a : Node) → is_level_free (l + 1) ≡ true → opening_at (l + 1) (map stated i) ≡ true → maybe (is_expression_at (l + 1)) c ≡ true → maybe (λ m. (stated m).simple (l + 1)) n ≡ true → (stated a).body (l + 1) ≡ true → (stated (node_at place (NodeWhat.For i c n a))).statement l ≡ true
for_made place l i c None a f o h s g =
    ap (λ (s : Stated). s.statement l) (made place (NodeWhat-F.For i c None a) (NodeWhat.For i c None a) (rolls-For i c None a))
    ∙ four (is_level_free (l + 1)) (opening_at (l + 1) (map stated i)) (maybe (is_expression_at (l + 1)) c) true ((stated a).body (l + 1)) f o h refl g
for_made place l i c (Some n) a f o h s g =
    ap (λ (s : Stated). s.statement l) (made place (NodeWhat-F.For i c (Some n) a) (NodeWhat.For i c (Some n) a) (rolls-For i c (Some n) a))
    ∙ four (is_level_free (l + 1)) (opening_at (l + 1) (map stated i)) (maybe (is_expression_at (l + 1)) c) ((stated n).simple (l + 1)) ((stated a).body (l + 1)) f o h s g

opened_is : (l : ℕ) (i : Option (List Node)) → maybe (λ ns. opening_at l (map stated ns)) i ≡ true → opening_at l (map stated (opened_by i)) ≡ true
opened_is l None h = refl
opened_is l (Some ns) h = h

pub for_is : (place : Place) (l : ℕ) (i : Option (List Node)) (c : Option Form) (n : Option Node) (a : Node) → is_level_free (l + 1) ≡ true → maybe (λ ns. opening_at (l + 1) (map stated ns)) i ≡ true → maybe (is_expression_at (l + 1)) c ≡ true → maybe (λ m. (stated m).simple (l + 1)) n ≡ true → (stated a).body (l + 1) ≡ true → (stated (node_at place (NodeWhat.For (opened_by i) c n a))).statement l ≡ true
for_is place l i c n a f o h s g = for_made place l (opened_by i) c n a f (opened_is (l + 1) i o) h s g

all_clauses : (l : ℕ) (cs : List Clause) → list_all (λ c. is_clause_at c l) cs ≡ true → all (map (clause_at l) (map is_clause_at cs)) ≡ true
all_clauses l [] h = refl
all_clauses l (c ∷ cs) h =
    let k = both (is_clause_at c l) (list_all (λ c. is_clause_at c l) cs) h in
    also (is_clause_at c l) (all (map (clause_at l) (map is_clause_at cs))) k.0 (all_clauses l cs k.1)

pub switch_is : (place : Place) (l : ℕ) (c : Form) (cs : List Clause) → is_expression_at (l + 1) c ≡ true → list_all (λ c. is_clause_at c (l + 1)) cs ≡ true → (stated (node_at place (NodeWhat.Switch c cs))).statement l ≡ true
switch_is place l c cs h k = ap (λ (s : Stated). s.statement l) (made place (NodeWhat-F.Switch c cs) (NodeWhat.Switch c cs) (rolls-Switch c cs)) ∙ also (is_expression_at (l + 1) c) (all (map (clause_at (l + 1)) (map is_clause_at cs))) h (all_clauses (l + 1) cs k)

all_statements : (l : ℕ) (ns : List Node) → list_all (λ n. (stated n).statement l) ns ≡ true → all (map (statement_at l) (map stated ns)) ≡ true
all_statements l [] h = refl
all_statements l (n ∷ ns) h =
    let k = both ((stated n).statement l) (list_all (λ n. (stated n).statement l) ns) h in
    also ((stated n).statement l) (all (map (statement_at l) (map stated ns))) k.0 (all_statements l ns k.1)

some_stated : (ns : List Node) → are_some ns ≡ true → are_some (map stated ns) ≡ true
some_stated [] h = h
some_stated (n ∷ ns) h = refl

pub clause_is : (l : ℕ) (xs : List Label) (ns : List Node) → are_some xs ≡ true → list_all is_shaped_label xs ≡ true → are_some ns ≡ true → list_all (λ n. (stated n).statement l) ns ≡ true → is_clause_at (roll-Clause (record { labels = xs; body = ns })) l ≡ true
clause_is l xs ns a h b k =
    ap (λ f. f l) (fold-roll-Clause Stated (ℕ → Bool) Stated statement_stated clause_stated node_stated (record { labels = xs; body = ns }))
    ∙ also (are_some xs && list_all is_shaped_label xs) (are_some (map stated ns) && all (map (statement_at l) (map stated ns))) (also (are_some xs) (list_all is_shaped_label xs) a h) (also (are_some (map stated ns)) (all (map (statement_at l) (map stated ns))) (some_stated ns b) (all_statements l ns k))

-- ---- initialisers of locals

pub text_is : (place : Place) (bytes : List ℕ) → list_all is_writable bytes ≡ true → is_text_form (form_at place (FormWhat.Text bytes)) ≡ true
text_is place bytes h =
    fold_out-Form Bool Bool what_texted form_texted (record { place = place; what = FormWhat.Text bytes }) ∙ ap (fold-FormWhat Bool Bool what_texted form_texted) (sym (rolls-Text bytes))
    ∙ fold-roll-FormWhat Bool Bool what_texted form_texted (FormWhat-F.Text bytes) ∙ h

-- ---- what is simple is a statement

record Stands (s : Stated) : Type 0 where
  by : (l : ℕ) → s.simple l ≡ true → s.statement l ≡ true

no_simple : {P : Type 0} → false ≡ true → P
no_simple e = absurd (false≢true e)

layer_stands : (l : NodeWhat-F Stated (ℕ → Bool) Stated) → Stands (statement_stated l)
layer_stands NodeWhat-F.Empty = record { by = λ l h. no_simple h }
layer_stands (NodeWhat-F.Block ss) = record { by = λ l h. no_simple h }
layer_stands (NodeWhat-F.Local x o) = record { by = λ l h. no_simple h }
layer_stands (NodeWhat-F.Assign place op f g) = record { by = λ l h. h }
layer_stands (NodeWhat-F.Plain f) = record { by = λ l h. h }
layer_stands (NodeWhat-F.If c a b) = record { by = λ l h. no_simple h }
layer_stands (NodeWhat-F.While c a) = record { by = λ l h. no_simple h }
layer_stands (NodeWhat-F.For i c n a) = record { by = λ l h. no_simple h }
layer_stands (NodeWhat-F.Do a c) = record { by = λ l h. no_simple h }
layer_stands (NodeWhat-F.Switch c cs) = record { by = λ l h. no_simple h }
layer_stands (NodeWhat-F.Return o) = record { by = λ l h. no_simple h }
layer_stands NodeWhat-F.Break = record { by = λ l h. no_simple h }
layer_stands NodeWhat-F.Continue = record { by = λ l h. no_simple h }

stands : (n : Node) → Stands (stated n)
stands n =
    let w : NodeWhat = (out-Node n).what in
    subst Stands (sym (fold_out-Node Stated (ℕ → Bool) Stated statement_stated clause_stated node_stated n ∙ ap stated_what (sym (roll-out-NodeWhat w)) ∙ fold-roll-NodeWhat Stated (ℕ → Bool) Stated statement_stated clause_stated node_stated (out-NodeWhat w)))
    (layer_stands (map-NodeWhat NodeWhat Clause Node Stated (ℕ → Bool) Stated stated_what is_clause_at stated (out-NodeWhat w)))

pub simple_stands : (l : ℕ) (n : Node) → (stated n).simple l ≡ true → (stated n).statement l ≡ true
simple_stands l n h = (stands n).by l h
