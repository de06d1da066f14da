-- What can be printed and has the shape of what is read is proper: by what it stands as.
use Rattle.std.proofs.Common.{◌≡◌, ℕ, ◌+◌, Bool, true, false, List, [], ◌∷◌, map, Option, Some, None, refl, sym, ap, subst, ◌∙◌}
use Rattle.std.specs.List.{list_all}
use Rattle.std.specs.Prelude.{◌&&◌, ◌||◌}
use Rattle.mdr_core.specs.declared.place.Place.{Place}
use Rattle.mdr_syntax.specs.declared.tree.Base.{Base}
use Rattle.mdr_syntax.specs.declared.tree.Clause.{Clause}
use Rattle.mdr_syntax.specs.declared.tree.Node.{Node}
use Rattle.mdr_syntax.specs.declared.tree.NodeWhat.{NodeWhat}
use Rattle.mdr_syntax.specs.declared.tree.NodeWhat.TheOpen.{NodeWhat-F}
use Rattle.mdr_syntax.specs.declared.tree.NodeWhat.TheFolds.{ind-Node, map-NodeWhat, fold-NodeWhat, fold-roll-NodeWhat, fold-roll-Clause, fold_out-Node}
use Rattle.mdr_grammar.specs.Expressions.{is_level_free}
use Rattle.mdr_operand.specs.Written.{Line, Labelled, line_list, clause_list, node_what_written, clause_written, node_written, line_of, lines_of, clause_of}
use Rattle.mdr_roundtrip.specs.Words.{is_sign}
use Rattle.mdr_roundtrip.specs.Printable.{all, is_printable_form}
use Rattle.mdr_roundtrip.specs.PrintableDeclarations.{maybe, is_printable_decl}
use Rattle.mdr_roundtrip.specs.PrintableStatements.{is_label, node_what_printable, clause_printable, node_printable, is_printable_node, is_printable_statement, is_printable_clause}
use Rattle.mdr_roundtrip.specs.Declarations.{Standing, is_shaped_decl}
use Rattle.mdr_roundtrip.specs.Initialised.{are_some}
use Rattle.mdr_roundtrip.specs.Stated.{Stated, is_shaped_label, sole, as_simple, is_expression_at, item_at, block_at, further_at, opening_at, statement_at, clause_at, with_base, statement_stated, clause_stated, node_stated, stated, stated_what, is_clause_at}
use Rattle.mdr_sound.proofs.Alike.{left_of, right_of}
use Rattle.mdr_sound.specs.Written.{IsStatement, AreStatements, IsProper, AreProper, AreProperClauses}
use Rattle.mdr_sound.proofs.SourceForming.{numbered, perhaps_numbered}
use Rattle.mdr_sound.proofs.SourceNamed.{alone_named}

-- ---- by what a statement stands as

abbrev IsPart : Line → Type 0
IsPart w = IsStatement w × IsProper w

record Good (s : Stated) (w : Line) : Type 0 where
  statement : (l : ℕ) → s.statement l ≡ true → IsPart w
  simple : (l : ℕ) → s.simple l ≡ true → IsPart w
  local : (l d : ℕ) → s.local l d ≡ true → IsProper w
  body : (l : ℕ) → s.body l ≡ true → IsPart w

either : {P : Type 0} (a b : Bool) → (a || b) ≡ true → (a ≡ true → P) → (b ≡ true → P) → P
either true b h left right = left refl
either false b h left right = right h

sole_good : (f : ℕ → Bool) (w : Line) → ((l : ℕ) → f l ≡ true → IsPart w) → Good (sole f) w
sole_good f w h = record { statement = h; simple = λ l e. absurd cc; local = λ l d e. absurd cc; body = λ l e. absurd cc }

simple_good : (f : ℕ → Bool) (w : Line) → ((l : ℕ) → f l ≡ true → IsPart w) → Good (as_simple f) w
simple_good f w h = record { statement = h; simple = h; local = λ l d e. absurd cc; body = λ l e. absurd cc }

item_proper : (s : Stated) (w : Line) (l : ℕ) → Good s w → item_at l s ≡ true → IsProper w
item_proper s w l g h = either (s.statement l) (s.local l 0) h (λ e. (g.statement l e).1) (λ e. g.local l 0 e)

-- ---- lists of parts

abbrev line_what : NodeWhat → Place → Line
line_what = fold-NodeWhat (Place → Line) Labelled Line node_what_written clause_written node_written

record GoodWhat (w : NodeWhat) : Type 0 where
  by : is_printable_statement w ≡ true → (p : Place) → Good (stated_what w) (line_what w p)

record GoodNode (n : Node) : Type 0 where
  by : is_printable_node n ≡ true → Good (stated n) (line_of n)

record GoodClause (c : Clause) : Type 0 where
  by : is_printable_clause c ≡ true → (l : ℕ) → is_clause_at c l ≡ true → AreStatements (clause_of c).1 × AreProper (clause_of c).1

module _ {Z : Type 0} (of : Z → Node) (good : (z : Z) → GoodNode (of z)) where
  items : (l : ℕ) (zs : List Z) → all (map is_printable_node (map of zs)) ≡ true → all (map (item_at l) (map stated (map of zs))) ≡ true → AreProper (line_list (map line_of (map of zs)))
  items l [] h s = tt
  items l (z ∷ zs) h s = (
    item_proper (stated (of z)) (line_of (of z)) l ((good z).by (left_of (is_printable_node (of z)) _ h)) (left_of (item_at l (stated (of z))) _ s),
    items l zs (right_of (is_printable_node (of z)) _ h) (right_of (item_at l (stated (of z))) _ s),
  )

  block : (l : ℕ) (zs : List Z) → all (map is_printable_node (map of zs)) ≡ true → block_at (map stated (map of zs)) l ≡ true → AreProper (line_list (map line_of (map of zs)))
  block l [] h s = tt
  block l (z ∷ zs) h s = items (l + 1) (z ∷ zs) h (right_of (is_level_free (l + 1)) _ s)

  further : (l : ℕ) (b : Option Base) (zs : List Z) → all (map is_printable_node (map of zs)) ≡ true → all (map (further_at l b) (map stated (map of zs))) ≡ true → AreProper (line_list (map line_of (map of zs)))
  further l b [] h s = tt
  further l b (z ∷ zs) h s = (
    ((good z).by (left_of (is_printable_node (of z)) _ h)).local l 1 (left_of ((stated (of z)).local l 1) (with_base b (stated (of z)).base) (left_of (further_at l b (stated (of z))) _ s)),
    further l b zs (right_of (is_printable_node (of z)) _ h) (right_of (further_at l b (stated (of z))) _ s),
  )

  opening : (l : ℕ) (zs : List Z) → all (map is_printable_node (map of zs)) ≡ true → opening_at l (map stated (map of zs)) ≡ true → AreProper (line_list (map line_of (map of zs)))
  opening l [] h s = tt
  opening l (z ∷ []) h s =
      let g = (good z).by (left_of (is_printable_node (of z)) _ h) in
      (either ((stated (of z)).simple l) ((stated (of z)).local l 1) s (λ e. (g.simple l e).1) (λ e. g.local l 1 e), tt)
  opening l (z ∷ y ∷ zs) h s = (
    ((good z).by (left_of (is_printable_node (of z)) _ h)).local l 1 (left_of ((stated (of z)).local l 1) _ s),
    further l (stated (of z)).base (y ∷ zs) (right_of (is_printable_node (of z)) _ h) (right_of ((stated (of z)).local l 1) _ s),
  )

  -- the statements of a clause
  labelled : (l : ℕ) (zs : List Z) → all (map is_printable_node (map of zs)) ≡ true → all (map (statement_at l) (map stated (map of zs))) ≡ true → AreStatements (line_list (map line_of (map of zs))) × AreProper (line_list (map line_of (map of zs)))
  labelled l [] h s = (tt, tt)
  labelled l (z ∷ zs) h s =
      let one = ((good z).by (left_of (is_printable_node (of z)) _ h)).statement l (left_of (statement_at l (stated (of z))) _ s) in
      let more = labelled l zs (right_of (is_printable_node (of z)) _ h) (right_of (statement_at l (stated (of z))) _ s) in
      ((one.0, more.0), (one.1, more.1))

clauses : {Y : Type 0} (clause : Y → Clause) → ((y : Y) → GoodClause (clause y)) → (l : ℕ) (ys : List Y) → all (map is_printable_clause (map clause ys)) ≡ true → all (map (clause_at l) (map is_clause_at (map clause ys))) ≡ true → AreProperClauses (clause_list (map clause_of (map clause ys)))
clauses clause good l [] h s = tt
clauses clause good l (y ∷ ys) h s = (
  (good y).by (left_of (is_printable_clause (clause y)) _ h) l (left_of (is_clause_at (clause y) l) _ s),
  clauses clause good l ys (right_of (is_printable_clause (clause y)) _ h) (right_of (is_clause_at (clause y) l) _ s),
)

-- ---- one layer

abbrev Layer : NodeWhat-F NodeWhat Clause Node → Type 0
Layer l = node_what_printable (map-NodeWhat NodeWhat Clause Node Bool Bool Bool is_printable_statement is_printable_clause is_printable_node l) ≡ true
    → (p : Place) → Good (statement_stated (map-NodeWhat NodeWhat Clause Node Stated (ℕ → Bool) Stated stated_what is_clause_at stated l)) (node_what_written (map-NodeWhat NodeWhat Clause Node (Place → Line) Labelled Line line_what clause_of line_of l) p)

layer_is : {X Y Z : Type 0} (what : X → NodeWhat) (clause : Y → Clause) (of : Z → Node) → ((y : Y) → GoodClause (clause y)) → ((z : Z) → GoodNode (of z)) → (l : NodeWhat-F X Y Z) → Layer (map-NodeWhat X Y Z NodeWhat Clause Node what clause of l)
layer_is what clause of in_clauses good NodeWhat-F.Empty h p = sole_good _ _ (λ l e. (refl, tt))
layer_is what clause of in_clauses good (NodeWhat-F.Block zs) h p = record {
  statement = λ l e. (refl, block of good l zs h e);
  simple = λ l e. absurd cc;
  local = λ l d e. absurd cc;
  body = λ l e. (refl, block of good l zs h e);
}
layer_is what clause of in_clauses good (NodeWhat-F.Local d value) h p = record {
  statement = λ l e. absurd cc;
  simple = λ l e. absurd cc;
  local = λ l n e. (alone_named d n (left_of (is_shaped_decl d Standing.Alone n) _ e), perhaps_numbered value (right_of (is_printable_decl d) (maybe is_printable_form value) h));
  body = λ l e. absurd cc;
}
layer_is what clause of in_clauses good (NodeWhat-F.Assign place op a b) h p =
    let parts = right_of (is_sign op) (is_printable_form a && is_printable_form b) h in
    simple_good _ _ (λ l e. (refl, (numbered a (left_of (is_printable_form a) (is_printable_form b) parts), numbered b (right_of (is_printable_form a) (is_printable_form b) parts))))
layer_is what clause of in_clauses good (NodeWhat-F.Plain f) h p = simple_good _ _ (λ l e. (refl, numbered f h))
layer_is what clause of in_clauses good (NodeWhat-F.If c a None) h p =
    let test = left_of (is_printable_form c) _ h in
    let one = left_of (is_printable_node (of a)) true (right_of (is_printable_form c) _ h) in
    sole_good _ _ (λ l e. (refl, (numbered c test, (((good a).by one).body (l + 1) (left_of ((stated (of a)).body (l + 1)) true (right_of (is_expression_at (l + 1) c) _ e)), (tt, tt)))))
layer_is what clause of in_clauses good (NodeWhat-F.If c a (Some b)) h p =
    let test = left_of (is_printable_form c) _ h in
    let parts = right_of (is_printable_form c) (is_printable_node (of a) && is_printable_node (of b)) h in
    let one = left_of (is_printable_node (of a)) (is_printable_node (of b)) parts in
    let other = right_of (is_printable_node (of a)) (is_printable_node (of b)) parts in
    sole_good _ _ (λ l e.
    let bodies = right_of (is_expression_at (l + 1) c) ((stated (of a)).body (l + 1) && (stated (of b)).body (l + 1)) e in
    let x = ((good a).by one).body (l + 1) (left_of ((stated (of a)).body (l + 1)) ((stated (of b)).body (l + 1)) bodies) in
    let y = ((good b).by other).body (l + 1) (right_of ((stated (of a)).body (l + 1)) ((stated (of b)).body (l + 1)) bodies) in
    (refl, (numbered c test, (x, ((y.0, tt), (y.1, tt))))))
layer_is what clause of in_clauses good (NodeWhat-F.While c a) h p =
    let test = left_of (is_printable_form c) (is_printable_node (of a)) h in
    let one = right_of (is_printable_form c) (is_printable_node (of a)) h in
    sole_good _ _ (λ l e. (refl, (numbered c test, ((good a).by one).body (l + 1) (right_of (is_expression_at (l + 1) c) ((stated (of a)).body (l + 1)) e))))
layer_is what clause of in_clauses good (NodeWhat-F.For zs c None a) h p =
    let start = left_of (all (map is_printable_node (map of zs))) _ h in
    let parts = right_of (all (map is_printable_node (map of zs))) (maybe is_printable_form c && (true && is_printable_node (of a))) h in
    let test = left_of (maybe is_printable_form c) _ parts in
    let one = right_of (maybe is_printable_form c) (is_printable_node (of a)) parts in
    sole_good _ _ (λ l e.
    let begins = right_of (is_level_free (l + 1)) (opening_at (l + 1) (map stated (map of zs)) && (maybe (is_expression_at (l + 1)) c && (true && (stated (of a)).body (l + 1)))) e in
    let tests = right_of (opening_at (l + 1) (map stated (map of zs))) (maybe (is_expression_at (l + 1)) c && (true && (stated (of a)).body (l + 1))) begins in
    let x = ((good a).by one).body (l + 1) (right_of (maybe (is_expression_at (l + 1)) c) ((stated (of a)).body (l + 1)) tests) in
    (refl, ((opening of good (l + 1) zs start (left_of (opening_at (l + 1) (map stated (map of zs))) _ begins), perhaps_numbered c test), ((tt, tt), x))))
layer_is what clause of in_clauses good (NodeWhat-F.For zs c (Some s) a) h p =
    let start = left_of (all (map is_printable_node (map of zs))) _ h in
    let parts = right_of (all (map is_printable_node (map of zs))) (maybe is_printable_form c && (is_printable_node (of s) && is_printable_node (of a))) h in
    let test = left_of (maybe is_printable_form c) _ parts in
    let both = right_of (maybe is_printable_form c) (is_printable_node (of s) && is_printable_node (of a)) parts in
    let step = left_of (is_printable_node (of s)) (is_printable_node (of a)) both in
    let one = right_of (is_printable_node (of s)) (is_printable_node (of a)) both in
    sole_good _ _ (λ l e.
    let bodies = (stated (of s)).simple (l + 1) && (stated (of a)).body (l + 1) in
    let begins = right_of (is_level_free (l + 1)) (opening_at (l + 1) (map stated (map of zs)) && (maybe (is_expression_at (l + 1)) c && bodies)) e in
    let tests = right_of (opening_at (l + 1) (map stated (map of zs))) (maybe (is_expression_at (l + 1)) c && bodies) begins in
    let ends = right_of (maybe (is_expression_at (l + 1)) c) bodies tests in
    let x = ((good a).by one).body (l + 1) (right_of ((stated (of s)).simple (l + 1)) ((stated (of a)).body (l + 1)) ends) in
    let y = ((good s).by step).simple (l + 1) (left_of ((stated (of s)).simple (l + 1)) ((stated (of a)).body (l + 1)) ends) in
    (refl, ((opening of good (l + 1) zs start (left_of (opening_at (l + 1) (map stated (map of zs))) _ begins), perhaps_numbered c test), (((y.0, tt), (y.1, tt)), x))))
layer_is what clause of in_clauses good (NodeWhat-F.Do a c) h p =
    let one = left_of (is_printable_node (of a)) (is_printable_form c) h in
    let test = right_of (is_printable_node (of a)) (is_printable_form c) h in
    sole_good _ _ (λ l e. (refl, (((good a).by one).body (l + 1) (left_of ((stated (of a)).body (l + 1)) (is_expression_at (l + 1) c) e), numbered c test)))
layer_is what clause of in_clauses good (NodeWhat-F.Switch c cs) h p =
    let test = left_of (is_printable_form c) (all (map is_printable_clause (map clause cs))) h in
    let parts = right_of (is_printable_form c) (all (map is_printable_clause (map clause cs))) h in
    sole_good _ _ (λ l e. (refl, (numbered c test, clauses clause in_clauses (l + 1) cs parts (right_of (is_expression_at (l + 1) c) (all (map (clause_at (l + 1)) (map is_clause_at (map clause cs)))) e))))
layer_is what clause of in_clauses good (NodeWhat-F.Return o) h p = sole_good _ _ (λ l e. (refl, perhaps_numbered o h))
layer_is what clause of in_clauses good NodeWhat-F.Break h p = sole_good _ _ (λ l e. (refl, tt))
layer_is what clause of in_clauses good NodeWhat-F.Continue h p = sole_good _ _ (λ l e. (refl, tt))

abbrev HasStatements : Labelled → Type 0
HasStatements c = AreStatements c.1 × AreProper c.1

abbrev ClauseLayer : List Node → Type 0
ClauseLayer ns = (l : ℕ) → all (map is_printable_node ns) ≡ true → all (map (statement_at l) (map stated ns)) ≡ true → AreStatements (line_list (map line_of ns)) × AreProper (line_list (map line_of ns))

-- ---- all

moved : (s t : Stated) (v w : Line) → s ≡ t → v ≡ w → Good t w → Good s v
moved s t v w e f g = subst (λ (x : Stated). Good x v) (sym e) (subst (λ (x : Line). Good t x) (sym f) g)

good_nodes : (n : Node) → GoodNode n
good_nodes = ind-Node GoodWhat GoodClause GoodNode
    (λ x y is. record {
      by = λ q p. moved _ _ _ _
          (fold-roll-NodeWhat Stated (ℕ → Bool) Stated statement_stated clause_stated node_stated x)
          (ap (λ (f : Place → Line). f p) (fold-roll-NodeWhat (Place → Line) Labelled Line node_what_written clause_written node_written x))
          (subst Layer is (layer_is (λ e. e.0) (λ e. e.0) (λ e. e.0) (λ e. e.1) (λ e. e.1) y) (sym (fold-roll-NodeWhat Bool Bool Bool node_what_printable clause_printable node_printable x) ∙ q) p);
    })
    (λ x y is. record {
      by = λ q l e.
          let printable = right_of (list_all is_label x.labels) (all (map is_printable_node x.body)) (sym (fold-roll-Clause Bool Bool Bool node_what_printable clause_printable node_printable x) ∙ q) in
          let here = right_of (are_some x.labels && list_all is_shaped_label x.labels) (are_some (map stated x.body) && all (map (statement_at l) (map stated x.body)))
          (sym (ap (λ (f : ℕ → Bool). f l) (fold-roll-Clause Stated (ℕ → Bool) Stated statement_stated clause_stated node_stated x)) ∙ e) in
          subst HasStatements (sym (fold-roll-Clause (Place → Line) Labelled Line node_what_written clause_written node_written x))
          (subst ClauseLayer (ap (λ z. z.body) is) (λ m h s. labelled (λ e. e.0) (λ e. e.1) m y.body h s) l printable (right_of (are_some (map stated x.body)) _ here));
    })
    (λ x y is. record {
      by = λ q. moved _ _ _ _
          (fold_out-Node Stated (ℕ → Bool) Stated statement_stated clause_stated node_stated (record { place = x.place; what = x.what }))
          (fold_out-Node (Place → Line) Labelled Line node_what_written clause_written node_written (record { place = x.place; what = x.what }))
          ((subst GoodWhat (ap (λ z. z.what) is) (y.what.1)).by (sym (fold_out-Node Bool Bool Bool node_what_printable clause_printable node_printable (record { place = x.place; what = x.what })) ∙ q) x.place);
    })

-- a function's body
pub body_proper : (l : ℕ) (ns : List Node) → all (map is_printable_node ns) ≡ true → all (map (item_at l) (map stated ns)) ≡ true → AreProper (lines_of ns)
body_proper l [] h s = tt
body_proper l (n ∷ ns) h s = (
  item_proper (stated n) (line_of n) l ((good_nodes n).by (left_of (is_printable_node n) _ h)) (left_of (item_at l (stated n)) _ s),
  body_proper l ns (right_of (is_printable_node n) _ h) (right_of (item_at l (stated n)) _ s),
)
