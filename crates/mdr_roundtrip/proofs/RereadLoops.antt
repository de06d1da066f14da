-- Printed loops and switches are read again, and with them all statements.
use Rattle.std.proofs.Common.{◌≡◌, refl, sym, subst, ap, ◌∙◌, arith, ℕ, suc, ◌+◌, ◌≤◌, Bool, true, false, Option, Some, None, List, [], ◌∷◌, ◌++◌, map, append_assoc}
use Rattle.std.specs.Prelude.{◌&&◌, ◌||◌, codes}
use Rattle.std.specs.List.{list_all}
use Rattle.std.specs.Option.{option_map}
use Rattle.std.proofs.lemmas.Bool.{false≢true}
use Rattle.std.proofs.lemmas.List.{append-nil}
use Rattle.std.proofs.lemmas.Slice.Eq.{bytes_eq-Decides}
use Rattle.mdr_core.specs.declared.kind.Kind.{Kind}
use Rattle.mdr_core.specs.declared.kind.Kind.TheVariants.{U8, U16, U32, U64, S8, S16, S32, S64}
use Rattle.mdr_syntax.specs.declared.token.Lexeme.TheVariants.{Word, Punct}
use Rattle.mdr_syntax.specs.declared.token.Token.{Token}
use Rattle.mdr_syntax.specs.declared.tree.Base.{Base}
use Rattle.mdr_syntax.specs.declared.tree.Base.TheVariants as base_type
use Rattle.mdr_syntax.specs.declared.tree.Clause.{Clause}
use Rattle.mdr_syntax.specs.declared.tree.Const.{Const}
use Rattle.mdr_syntax.specs.declared.tree.Decl.{out-Decl}
use Rattle.mdr_syntax.specs.declared.tree.Form.{Form}
use Rattle.mdr_syntax.specs.declared.tree.Label.{Label}
use Rattle.mdr_syntax.specs.declared.tree.Node.{Node}
use Rattle.mdr_syntax.specs.declared.tree.NodeWhat
use Rattle.mdr_syntax.specs.declared.tree.NodeWhat.{NodeWhat}
use Rattle.mdr_syntax.specs.declared.tree.NodeWhat.TheOpen.{NodeWhat-F}
use Rattle.mdr_syntax.specs.declared.tree.NodeWhat.TheFolds.{ind-Node, map-NodeWhat, fold-roll-NodeWhat, fold-roll-Clause, fold_out-Node}
use Rattle.mdr_syntax.specs.declared.tree.NodeWhat.TheViews.{roll-Clause}
use Rattle.mdr_print.specs.Marks.{Mark, Is, Blank, Newline, Marks, nothing as no_marks, blank, row, ◌▸◌}
use Rattle.mdr_print.specs.Forms.{form}
use Rattle.mdr_print.specs.Statements.{Written, sole as sole_written, simple as simple_written, clauses_words, semicolon, line_of, lines, closed, braced, clause_head, for_parts, for_test, step_of, head_list, label, label_words, at as at_depth, clause_lines, what_written, clause_written, node_written, written, written_what, written_clause}
use Rattle.mdr_roundtrip.specs.Words.{is_among}
use Rattle.mdr_roundtrip.specs.Printable.{all}
use Rattle.mdr_roundtrip.specs.PrintableDeclarations.{maybe}
use Rattle.mdr_roundtrip.proofs.Tests.{both}
use Rattle.mdr_grammar.specs.declared.parts.Ended.{Ended}
use Rattle.mdr_grammar.specs.declared.parts.Specifier.{Specifier}
use Rattle.mdr_grammar.specs.declared.sort.Sort.{Sort}
use Rattle.mdr_grammar.specs.Sorts.{is, sort_of, words, marks}
use Rattle.mdr_grammar.specs.Forms.{Right, ◌>>=◌, take, form as whole_form, and_then, or_else, where_allowed}
use Rattle.mdr_grammar.specs.Forms.Part.{statement, plain, simple, opening, local, clause, label as label_part}
use Rattle.mdr_grammar.specs.Forms.Repeated.{block_items, clauses, labels, statements}
use Rattle.mdr_grammar.specs.Forms.Separated.{locals}
use Rattle.mdr_grammar.specs.Forms.Nonterminal.{part, option, commas, many}
use Rattle.mdr_grammar.specs.Forms.Right.{gives}
use Rattle.mdr_grammar.specs.Forms.Rule.{given}
use Rattle.mdr_grammar.specs.Expressions.{is_level_free}
use Rattle.mdr_grammar.specs.Declarations.{specifiers_rule}
use Rattle.mdr_grammar.specs.Statements.{node_at, simple_rule, locals_of, opening_rule, opening_simple_rule, statement_rule, plain_rule, label_rule, clause_of, for_at, opened_by}
use Rattle.mdr_grammar.specs.Grammar.{rule, Gets, Follows}
use Rattle.mdr_grammar.specs.Grammar.Gets.{absent, present}
use Rattle.mdr_grammar.specs.Grammar.Follows.{done, word, both as parts}
use Rattle.mdr_roundtrip.specs.Unplaced.{nowhere, at, unplaced_base, unplaced_form}
use Rattle.mdr_roundtrip.specs.Initialised.{unplaced_const, is_shaped_const}
use Rattle.mdr_roundtrip.specs.Stated.{Stated, sole as sole_stated, as_simple, is_expression_at, assignments, item_at, opening_at, further_at, with_base, is_same_base, is_same_kind, simple_at, clause_at, statement_at, is_shaped_label, unplaced_label, statement_unplaced, clause_unplaced, node_unplaced, unplaced_node, unplaced_statement, unplaced_clause, statement_stated, clause_stated, node_stated, stated, stated_what, is_clause_at}
use Rattle.mdr_roundtrip.specs.Alone.{is_alone}
use Rattle.mdr_roundtrip.proofs.Following.{through, through_first}
use Rattle.mdr_roundtrip.proofs.Rereading.{tokens_of, no_rule}
use Rattle.mdr_roundtrip.proofs.RereadForms.{allowed, placed_first}
use Rattle.mdr_roundtrip.proofs.RereadInits.{constant_reread}
use Rattle.mdr_roundtrip.proofs.RereadParts.{opens, closes, nowhere_based}
use Rattle.mdr_roundtrip.proofs.RereadDecls.{specifiers_reread}
use Rattle.mdr_roundtrip.proofs.RereadSimple.{assign_reread, plain_reread, local_reread}
use Rattle.mdr_roundtrip.proofs.RereadLists.{tabs_gone, AllRead, AllowedFor, many_reread, alone}
use Rattle.mdr_roundtrip.proofs.RereadStatements.{brace_sort, ends, unbraces, IsStatement, GoodNode, AreNodes, simple_statement, items_reread, block_statement, block_body, free_at, condition_then, IsBody, if_reread, while_reread, do_reread, optional_expression, return_reread, break_reread, continue_reread, empty_reread}

for_sort : (halves : Bool) → sort_of halves (Word (codes "for")) ≡ Sort.For
unfolding sort_of words
for_sort halves = refl

switch_sort : (halves : Bool) → sort_of halves (Word (codes "switch")) ≡ Sort.Switch
unfolding sort_of words
switch_sort halves = refl

case_sort : (halves : Bool) → sort_of halves (Word (codes "case")) ≡ Sort.Case
unfolding sort_of words
case_sort halves = refl

default_sort : (halves : Bool) → sort_of halves (Word (codes "default")) ≡ Sort.Default
unfolding sort_of words
default_sort halves = refl

colon_sort : (halves : Bool) → sort_of halves (Punct (codes ":")) ≡ Sort.Colon
unfolding sort_of marks
colon_sort halves = refl

comma_sort : (halves : Bool) → sort_of halves (Punct (codes ",")) ≡ Sort.Comma
unfolding sort_of marks
comma_sort halves = refl

-- ---- bases that are the same

same_kinds : (j k : Kind) → is_same_kind j k ≡ true → j ≡ k
same_kinds U8 U8 e = refl
same_kinds U16 U16 e = refl
same_kinds U32 U32 e = refl
same_kinds U64 U64 e = refl
same_kinds S8 S8 e = refl
same_kinds S16 S16 e = refl
same_kinds S32 S32 e = refl
same_kinds S64 S64 e = refl
same_kinds _ _ e = absurd (false≢true e)

same_bases : (b c : Base) → is_same_base b c ≡ true → unplaced_base b ≡ unplaced_base c
same_bases (base_type.Int j) (base_type.Int k) e = ap (λ k. base_type.Int k) (same_kinds j k e)
same_bases (base_type.Struct p m) (base_type.Struct q n) e = ap (λ n. base_type.Struct nowhere n) ((bytes_eq-Decides m n).0 e)
same_bases base_type.Void base_type.Void e = refl
same_bases base_type.Lock base_type.Lock e = refl
same_bases _ _ e = absurd (false≢true e)

-- ---- what a `for` begins with

opening_simple_is : (l d : ℕ) (s : Sort) (t : Token) (r : Right Node) → is_level_free (l + 1) ≡ true → simple_rule l d s t ≡ given true r → opening_rule l d s t ≡ given true (r >>= λ n. gives (n ∷ []))
opening_simple_is l d (Sort.Integer k) t r h e = no_rule e
opening_simple_is l d Sort.Char t r h e = no_rule e
opening_simple_is l d Sort.Short t r h e = no_rule e
opening_simple_is l d Sort.Int t r h e = no_rule e
opening_simple_is l d Sort.Long t r h e = no_rule e
opening_simple_is l d Sort.Signed t r h e = no_rule e
opening_simple_is l d Sort.Unsigned t r h e = no_rule e
opening_simple_is l d Sort.Void t r h e = no_rule e
opening_simple_is l d Sort.Lock t r h e = no_rule e
opening_simple_is l d Sort.Struct t r h e = no_rule e
opening_simple_is l d Sort.Qualifier t r h e = no_rule e
opening_simple_is l d s t r h e = ap (λ o. where_allowed (is_level_free (l + 1)) (and_then o (λ n. gives (n ∷ [])))) e ∙ ap (λ b. given (b && true) (r >>= λ n. gives (n ∷ []))) h

opening_locals_is : (l d : ℕ) (s : Sort) (t : Token) (r : Right Specifier) → specifiers_rule s t ≡ given true r → opening_rule l d s t ≡ given true (r >>= λ b. locals_of t.place b l d)
opening_locals_is l d s t r e = ap (λ o. or_else (and_then o (λ b. locals_of t.place b l d)) (opening_simple_rule l d s t)) e

-- behind a first local, those with its base
with_base_is : (b : Base) (o : Option Base) (c : Base) → o ≡ Some c → with_base (Some b) o ≡ true → unplaced_base b ≡ unplaced_base c
with_base_is b o c e h = same_bases b c (subst (λ (o : Option Base). with_base (Some b) o ≡ true) e h)

further_reread : (halves : Bool) (l : ℕ) (b : Base) (ss : List Stated) (ws : List Written) (ns so_far : List Node) (rest : List Mark) → AreNodes halves ss ws ns → all (map (further_at l (Some b)) ss) ≡ true
    → Gets halves (commas (locals nowhere (nowhere_based (unplaced_base b)) l 1) so_far) (tokens_of (head_list false ws rest)) (tokens_of rest) (so_far ++ ns)
further_reread halves l b [] [] [] so_far rest g h = subst (λ (us : List Node). Gets halves (commas (locals nowhere (nowhere_based (unplaced_base b)) l 1) so_far) (tokens_of rest) (tokens_of rest) us) (sym (append-nil so_far)) (absent refl)
further_reread halves l b (s ∷ ss) (w ∷ ws) (n ∷ ns) so_far rest g h =
    let k = both (further_at l (Some b) s) (all (map (further_at l (Some b)) ss)) h in
    let j = both (s.local l 1) (with_base (Some b) s.base) k.0 in
    let x = (g.0).local l 1 j.0 (omega arith) in
    let same = with_base_is b s.base x.base x.base_is j.1 in
    let here : Gets halves (part (local nowhere (nowhere_based (unplaced_base b)) l 1)) (tokens_of (w.further (head_list false ws rest))) (tokens_of (head_list false ws rest)) n =
    subst (λ (c : Base). Gets halves (part (local nowhere (nowhere_based c) l 1)) (tokens_of (w.further (head_list false ws rest))) (tokens_of (head_list false ws rest)) n) (sym same) (x.there.read (head_list false ws rest)) in
    let later = further_reread halves l b ss ws ns (so_far ++ (n ∷ [])) rest g.1 k.1 in
    subst (λ (us : List Node). Gets halves (commas (locals nowhere (nowhere_based (unplaced_base b)) l 1) so_far) (tokens_of (head_list false (w ∷ ws) rest)) (tokens_of rest) us) (append_assoc so_far (n ∷ []) ns)
    (present (ap (λ s. rule (commas (locals nowhere (nowhere_based (unplaced_base b)) l 1) so_far) s (at (Punct (codes ",")))) (comma_sort halves)) (parts here (parts later done)))
further_reread halves l b [] [] (n ∷ ns) so_far rest g h = absurd g
further_reread halves l b [] (w ∷ ws) ns so_far rest g h = absurd g
further_reread halves l b (s ∷ ss) [] ns so_far rest g h = absurd g
further_reread halves l b (s ∷ ss) (w ∷ ws) [] so_far rest g h = absurd g

record IsOpening (halves : Bool) (l : ℕ) (ws : List Written) (ns : List Node) (rest : List Mark) : Type 0 where
  opens_with : Option (List Node)
  read : Gets halves (option true (opening l 1)) (tokens_of (head_list true ws rest)) (tokens_of rest) opens_with
  are : opened_by opens_with ≡ ns

some_opening : (halves : Bool) (l : ℕ) (ws : List Written) (ns : List Node) (rest : List Mark) → Gets halves (part (opening l 1)) (tokens_of (head_list true ws rest)) (tokens_of rest) ns → IsOpening halves l ws ns rest
some_opening halves l ws ns rest g = record {
  opens_with = Some ns;
  read = through halves (λ x. gives (Some x)) refl (λ s t r e. ap (λ o. where_allowed true (and_then o (λ v. gives (Some v)))) e) g done;
  are = refl;
}

locals_opening : (halves : Bool) (l : ℕ) (s : Stated) (w : Written) (n : Node) (ss : List Stated) (ws : List Written) (ns : List Node) (rest : List Mark) → GoodNode halves s w n → AreNodes halves ss ws ns → s.local l 1 ≡ true → all (map (further_at l s.base) ss) ≡ true → Gets halves (part (opening l 1)) (tokens_of (w.first (head_list false ws rest))) (tokens_of rest) (n ∷ ns)
locals_opening halves l s w n ss ws ns rest g gs h k =
    let x = g.local l 1 h (omega arith) in
    let later = further_reread halves l x.base ss ws ns (n ∷ []) rest gs (subst (λ (o : Option Base). all (map (further_at l o) ss) ≡ true) x.base_is k) in
    subst (λ (ts : List Token). Gets halves (part (opening l 1)) ts (tokens_of rest) (n ∷ ns)) (sym (x.there.whole (head_list false ws rest)))
    (through_first halves (λ b. locals_of nowhere b l 1) refl
    (λ s t us r q e. opening_locals_is l 1 s t r e ∙ ap (λ p. given true (r >>= λ b. locals_of p b l 1)) (placed_first _ q))
    (specifiers_reread halves x.base (w.further (head_list false ws rest)) x.there.base_is)
    (parts (x.there.read (head_list false ws rest)) (parts later done)))

either : (a b : Bool) → (a || b) ≡ true → a ≡ false → b ≡ true
either true b h e = absurd (false≢true (sym e))
either false b h e = h

opening_reread : (halves : Bool) (l : ℕ) (ss : List Stated) (ws : List Written) (ns : List Node) (rest : List Mark) → AreNodes halves ss ws ns → opening_at l ss ≡ true → IsOpening halves l ws ns rest
opening_reread halves l [] [] [] rest g h = record { opens_with = None; read = absent refl; are = refl }
opening_reread halves l (s ∷ []) (w ∷ []) (n ∷ []) rest g h = on (s.simple l) refl
  where
    on : (b : Bool) → s.simple l ≡ b → IsOpening halves l (w ∷ []) (n ∷ []) rest
    on true e = some_opening halves l (w ∷ []) (n ∷ []) rest (through halves (λ n. gives (n ∷ [])) refl (λ s t r q. opening_simple_is l 1 s t r ((g.0).free l e) q) ((g.0).simple l 1 e (omega arith) rest) done)
    on false e = some_opening halves l (w ∷ []) (n ∷ []) rest (locals_opening halves l s w n [] [] [] rest g.0 tt (either (s.simple l) (s.local l 1) h e) refl)
opening_reread halves l (s ∷ r ∷ ss) (w ∷ v ∷ ws) (n ∷ m ∷ ns) rest g h =
    let k = both (s.local l 1) (all (map (further_at l s.base) (r ∷ ss))) h in
    some_opening halves l (w ∷ v ∷ ws) (n ∷ m ∷ ns) rest (locals_opening halves l s w n (r ∷ ss) (v ∷ ws) (m ∷ ns) rest g.0 g.1 k.0 k.1)
opening_reread halves l [] [] (n ∷ ns) rest g h = absurd g
opening_reread halves l [] (w ∷ ws) ns rest g h = absurd g
opening_reread halves l (s ∷ ss) [] ns rest g h = absurd g
opening_reread halves l (s ∷ ss) (w ∷ ws) [] rest g h = absurd g
opening_reread halves l (s ∷ []) (w ∷ []) (n ∷ m ∷ ns) rest g h = absurd g.1
opening_reread halves l (s ∷ []) (w ∷ v ∷ ws) (n ∷ ns) rest g h = absurd g.1
opening_reread halves l (s ∷ r ∷ ss) (w ∷ []) (n ∷ ns) rest g h = absurd g.1
opening_reread halves l (s ∷ r ∷ ss) (w ∷ v ∷ ws) (n ∷ []) rest g h = absurd g.1

-- ---- `for`

abbrev MaybeNode : Bool → Option Stated → Option Written → Option Node → Type 0
MaybeNode halves None None None = Unit {0}
MaybeNode halves (Some s) (Some w) (Some n) = GoodNode halves s w n
MaybeNode halves _ _ _ = ⊥

step_reread : (halves : Bool) (l : ℕ) (s : Option Stated) (w : Option Written) (n : Option Node) (rest : List Mark) → MaybeNode halves s w n → maybe (simple_at l) s ≡ true → Gets halves (option (is_level_free (l + 1)) (simple l 1)) (tokens_of (step_of w rest)) (tokens_of rest) n
step_reread halves l None None None rest g h = absent refl
step_reread halves l (Some s) (Some w) (Some n) rest g h =
    through halves (λ x. gives (Some x)) refl
    (λ s t r e. ap (λ o. where_allowed (is_level_free (l + 1)) (and_then o (λ v. gives (Some v)))) e ∙ ap (λ b. given (b && true) (r >>= λ v. gives (Some v))) (g.free l h)) (g.simple l 1 h (omega arith) rest) done
step_reread halves l None None (Some n) rest g h = absurd g
step_reread halves l None (Some w) n rest g h = absurd g
step_reread halves l (Some s) None n rest g h = absurd g
step_reread halves l (Some s) (Some w) None rest g h = absurd g

for_reread : (halves : Bool) (l depth : ℕ) (ss : List Stated) (ws : List Written) (ns : List Node) (c : Option Form) (s : Option Stated) (v : Option Written) (m : Option Node) (w : Written) (n : Node) (rest : List Mark)
    → AreNodes halves ss ws ns → MaybeNode halves s v m → is_level_free (l + 1) ≡ true → opening_at (l + 1) ss ≡ true → maybe (is_expression_at (l + 1)) c ≡ true → maybe (simple_at (l + 1)) s ≡ true → IsBody halves (l + 1) w n
    → IsStatement halves l (clause_head (codes "for") (for_parts ws c v) ▸ blank ▸ braced depth w.body) rest (node_at nowhere (NodeWhat.For ns (option_map unplaced_form c) m n))
for_reread halves l depth ss ws ns c s v m w n rest g q a i t e b =
    let behind : List Mark = Is (Punct (codes ")")) ∷ Blank ∷ braced depth w.body rest in
    let x = opening_reread halves (l + 1) ss ws ns (for_test c (step_of v behind)) g i in
    record {
      closed = true;
      read = present (allowed (ap (λ s. statement_rule l s (at (Word (codes "for")))) (for_sort halves)) a)
          (opens halves (parts x.read (ends halves (parts (optional_expression halves true (l + 1) 1 c (semicolon (blank (step_of v behind))) refl t (omega arith)) (ends halves
          (parts (step_reread halves (l + 1) s v m behind q e) (closes halves (parts (b depth rest)
          (subst (λ (us : List Node). Follows halves (part (statement l)) (gives (for_at nowhere (opened_by x.opens_with) (option_map unplaced_form c) m (record { node = n; closed = true }))) (tokens_of rest) (tokens_of rest) (record { node = node_at nowhere (NodeWhat.For us (option_map unplaced_form c) m n); closed = true })) x.are done)))))))));
    }

-- ---- `switch`

label_reread : (halves : Bool) (depth : ℕ) (x : Label) (rest : List Mark) → is_shaped_label x ≡ true → Gets halves (part label_part) (tokens_of (label depth x rest)) (tokens_of rest) (unplaced_label x)
label_reread halves depth x rest h = subst (λ (ts : List Token). Gets halves (part label_part) ts (tokens_of rest) (unplaced_label x)) (sym (tabs_gone depth (label_words x.value (Is (Punct (codes ":")) ∷ Newline ∷ rest)))) (by x.value h)
  where
    by : (o : Option Const) → maybe is_shaped_const o ≡ true → Gets halves (part label_part) (tokens_of (label_words o (Is (Punct (codes ":")) ∷ Newline ∷ rest))) (tokens_of rest) (record { place = nowhere; value = option_map unplaced_const o })
    by None h = present (ap (λ s. label_rule s (at (Word (codes "default")))) (default_sort halves)) (word {s = Sort.Colon} (ap (λ s. is Sort.Colon s) (colon_sort halves)) done)
    by (Some c) h = present (ap (λ s. label_rule s (at (Word (codes "case")))) (case_sort halves)) (parts (constant_reread halves c (Is (Punct (codes ":")) ∷ Newline ∷ rest) h) (word {s = Sort.Colon} (ap (λ s. is Sort.Colon s) (colon_sort halves)) done))

labels_reread : (halves : Bool) (depth : ℕ) (xs : List Label) → list_all is_shaped_label xs ≡ true → AllRead halves labels (map (label depth) xs) (map unplaced_label xs)
labels_reread halves depth [] h = tt
labels_reread halves depth (x ∷ xs) h =
    let k = both (is_shaped_label x) (list_all is_shaped_label xs) h in
    (λ rest. label_reread halves depth x rest k.0, labels_reread halves depth xs k.1)

plain_is : (l : ℕ) (s : Sort) (t : Token) (r : Right Ended) → statement_rule l s t ≡ given true r → plain_rule l s t ≡ given true (r >>= λ e. gives (e.node))
plain_is l s t r e = ap (λ o. and_then o (λ s. gives (s.node))) e

line_reread : (halves : Bool) (l depth : ℕ) (s : Stated) (w : Written) (n : Node) (rest : List Mark) → GoodNode halves s w n → s.statement l ≡ true → Gets halves (part (plain l)) (tokens_of (line_of depth w rest)) (tokens_of rest) n
line_reread halves l depth s w n rest g h =
    let x = g.statement l h depth (Newline ∷ rest) in
    subst (λ (ts : List Token). Gets halves (part (plain l)) ts (tokens_of rest) n) (sym (tabs_gone depth (w.words depth (Newline ∷ rest))))
    (through halves (λ e. gives (e.node)) refl (λ s t r q. plain_is l s t r q) x.read done)

lines_reread : (halves : Bool) (l depth : ℕ) (ss : List Stated) (ws : List Written) (ns : List Node) → AreNodes halves ss ws ns → all (map (statement_at l) ss) ≡ true → AllRead halves (statements l) (map (line_of depth) ws) ns
lines_reread halves l depth [] [] [] g h = tt
lines_reread halves l depth (s ∷ ss) (w ∷ ws) (n ∷ ns) g h =
    let k = both (s.statement l) (all (map (statement_at l) ss)) h in
    (λ rest. line_reread halves l depth s w n rest g.0 k.0, lines_reread halves l depth ss ws ns g.1 k.1)
lines_reread halves l depth [] [] (n ∷ ns) g h = absurd g
lines_reread halves l depth [] (w ∷ ws) ns g h = absurd g
lines_reread halves l depth (s ∷ ss) [] ns g h = absurd g
lines_reread halves l depth (s ∷ ss) (w ∷ ws) [] g h = absurd g

pub allowed_always : (ms : List Marks) → AllowedFor true ms
allowed_always [] = tt
allowed_always (m ∷ ms) = refl

-- a clause: its labels, and its statements
clause_reread : (halves : Bool) (l depth : ℕ) (xs : List Label) (ss : List Stated) (ws : List Written) (ns : List Node) (rest : List Mark) → AreNodes halves ss ws ns → clause_stated (record { labels = xs; body = ss }) l ≡ true
    → Gets halves (part (clause l)) (tokens_of (clause_lines xs ws depth rest)) (tokens_of rest) (roll-Clause (record { labels = map unplaced_label xs; body = ns }))
clause_reread halves l depth [] ss ws ns rest g h = absurd (false≢true h)
clause_reread halves l depth (x ∷ xs) [] ws ns rest g h = absurd (no_body (list_all is_shaped_label (x ∷ xs)) h)
  where
    no_body : (a : Bool) → (a && false) ≡ true → ⊥
    no_body true e = false≢true e
    no_body false e = false≢true e
clause_reread halves l depth (x ∷ xs) (s ∷ ss) [] ns rest g h = absurd g
clause_reread halves l depth (x ∷ xs) (s ∷ ss) (w ∷ ws) [] rest g h = absurd g
clause_reread halves l depth (x ∷ xs) (s ∷ ss) (w ∷ ws) (n ∷ ns) rest g h =
    let k = both (list_all is_shaped_label (x ∷ xs)) (all (map (statement_at l) (s ∷ ss))) h in
    let j = both (is_shaped_label x) (list_all is_shaped_label xs) k.0 in
    let i = both (s.statement l) (all (map (statement_at l) ss)) k.1 in
    let body : List Mark = lines (suc depth) (w ∷ ws) rest in
    through halves (λ x. clause_of l x) refl (λ s t r e. ap (λ o. and_then o (λ x. clause_of l x)) e) (label_reread halves depth x (row (map (label depth) xs) body) j.0)
    (parts (many_reread halves true labels (map (label depth) xs) (map unplaced_label xs) (unplaced_label x ∷ []) body (allowed_always (map (label depth) xs)) (labels_reread halves depth xs j.1))
    (parts (line_reread halves l (suc depth) s w n (lines (suc depth) ws rest) g.0 i.0)
    (parts (many_reread halves true (statements l) (map (line_of (suc depth)) ws) ns (n ∷ []) rest (allowed_always (map (line_of (suc depth)) ws)) (lines_reread halves l (suc depth) ss ws ns g.1 i.1)) done)))

record GoodClause (halves : Bool) (c : ℕ → Bool) (m : ℕ → Marks) (u : Clause) : Type 0 where
  by : (l : ℕ) → c l ≡ true → (depth : ℕ) (rest : List Mark) → Gets halves (part (clause l)) (tokens_of (m depth rest)) (tokens_of rest) u

abbrev AreClauses : Bool → List (ℕ → Bool) → List (ℕ → Marks) → List Clause → Type 0
AreClauses halves [] [] [] = Unit {0}
AreClauses halves (c ∷ cs) (m ∷ ms) (u ∷ us) = GoodClause halves c m u × AreClauses halves cs ms us
AreClauses halves _ _ _ = ⊥

clauses_reread : (halves : Bool) (l depth : ℕ) (cs : List (ℕ → Bool)) (ms : List (ℕ → Marks)) (us : List Clause) → AreClauses halves cs ms us → all (map (clause_at l) cs) ≡ true → AllRead halves (clauses l) (map (at_depth depth) ms) us
clauses_reread halves l depth [] [] [] g h = tt
clauses_reread halves l depth (c ∷ cs) (m ∷ ms) (u ∷ us) g h =
    let k = both (c l) (all (map (clause_at l) cs)) h in
    (λ rest. (g.0).by l k.0 depth rest, clauses_reread halves l depth cs ms us g.1 k.1)
clauses_reread halves l depth [] [] (u ∷ us) g h = absurd g
clauses_reread halves l depth [] (m ∷ ms) us g h = absurd g
clauses_reread halves l depth (c ∷ cs) [] us g h = absurd g
clauses_reread halves l depth (c ∷ cs) (m ∷ ms) [] g h = absurd g

switch_reread : (halves : Bool) (l depth : ℕ) (c : Form) (cs : List (ℕ → Bool)) (ms : List (ℕ → Marks)) (us : List Clause) (rest : List Mark) → is_expression_at (l + 1) c ≡ true → AreClauses halves cs ms us → all (map (clause_at (l + 1)) cs) ≡ true
    → IsStatement halves l (clause_head (codes "switch") (form c) ▸ blank ▸ clauses_words ms depth) rest (node_at nowhere (NodeWhat.Switch (unplaced_form c) us))
switch_reread halves l depth c cs ms us rest h g k = record {
  closed = true;
  read = present (allowed (ap (λ s. statement_rule l s (at (Word (codes "switch")))) (switch_sort halves)) (free_at (l + 1) c h))
      (condition_then halves (part (statement l)) l c (λ c. take Sort.OpenBrace >>= λ b. whole_form (many true (clauses (l + 1)) []) >>= λ cs. take Sort.CloseBrace >>= λ e. gives (record { node = node_at nowhere (NodeWhat.Switch c cs); closed = true })) (Blank ∷ clauses_words ms depth rest) h
      (word {s = Sort.OpenBrace} (ap (λ s. is Sort.OpenBrace s) (brace_sort halves))
      (parts (many_reread halves true (clauses (l + 1)) (map (at_depth (suc depth)) ms) us [] (closed depth rest) (allowed_always (map (at_depth (suc depth)) ms)) (clauses_reread halves (l + 1) (suc depth) cs ms us g k))
      (subst (λ (ts : List Token). Follows halves (part (statement l)) (take Sort.CloseBrace >>= λ e. gives (record { node = node_at nowhere (NodeWhat.Switch (unplaced_form c) us); closed = true })) ts (tokens_of rest) (record { node = node_at nowhere (NodeWhat.Switch (unplaced_form c) us); closed = true })) (sym (tabs_gone depth (Is (Punct (codes "}")) ∷ rest))) (unbraces halves done)))));
}

-- ---- each statement

nothing : {P : Type 0} → false ≡ true → P
nothing e = absurd (false≢true e)

-- one that stands as a statement alone
only_statement : (halves : Bool) (f : ℕ → Bool) (ws : ℕ → Marks) (n : Node) → ((l : ℕ) → f l ≡ true → (depth : ℕ) (rest : List Mark) → IsStatement halves l (ws depth) rest n) → GoodNode halves (sole_stated f) (sole_written ws) n
only_statement halves f ws n g = record { statement = g; body = λ l h depth rest. nothing h; free = λ l h. nothing h; simple = λ l d h few rest. nothing h; local = λ l d h few. nothing h }

-- an assignment or a call
simple_node : (halves : Bool) (f : ℕ → Bool) (m : Marks) (n : Node) → ((l : ℕ) → f l ≡ true → is_level_free (l + 1) ≡ true) → ((l d : ℕ) → f l ≡ true → d ≤ 1 → (rest : List Mark) → Gets halves (part (simple l d)) (tokens_of (m rest)) (tokens_of rest) n) → GoodNode halves (as_simple f) (simple_written m no_marks) n
simple_node halves f m n a g = record {
  statement = λ l h depth rest. simple_statement halves l m rest n (a l h) (λ behind. g l 0 h (omega arith) behind);
  body = λ l h depth rest. nothing h;
  free = λ l h. a l h;
  simple = λ l d h few rest. g l d h few rest;
  local = λ l d h few. nothing h;
}

nodes_are : (halves : Bool) {Z : Type 0} (of : Z → Node) → ((z : Z) → GoodNode halves (stated (of z)) (written (of z)) (unplaced_node (of z))) → (zs : List Z) → AreNodes halves (map stated (map of zs)) (map written (map of zs)) (map unplaced_node (map of zs))
nodes_are halves of g [] = tt
nodes_are halves of g (z ∷ zs) = (g z, nodes_are halves of g zs)

clauses_are : (halves : Bool) {Y : Type 0} (of : Y → Clause) → ((y : Y) → GoodClause halves (is_clause_at (of y)) (written_clause (of y)) (unplaced_clause (of y))) → (ys : List Y) → AreClauses halves (map is_clause_at (map of ys)) (map written_clause (map of ys)) (map unplaced_clause (map of ys))
clauses_are halves of g [] = tt
clauses_are halves of g (y ∷ ys) = (g y, clauses_are halves of g ys)

abbrev Layer : Bool → NodeWhat-F NodeWhat Clause Node → Type 0
Layer halves l = GoodNode halves (statement_stated (map-NodeWhat NodeWhat Clause Node Stated (ℕ → Bool) Stated stated_what is_clause_at stated l)) (what_written (map-NodeWhat NodeWhat Clause Node Written (ℕ → Marks) Written written_what written_clause written l)) (node_at nowhere (statement_unplaced (map-NodeWhat NodeWhat Clause Node NodeWhat Clause Node unplaced_statement unplaced_clause unplaced_node l)))

layer_is : (halves : Bool) {X Y Z : Type 0} (what : X → NodeWhat) (part_of : Y → Clause) (of : Z → Node) → ((y : Y) → GoodClause halves (is_clause_at (part_of y)) (written_clause (part_of y)) (unplaced_clause (part_of y))) → ((z : Z) → GoodNode halves (stated (of z)) (written (of z)) (unplaced_node (of z))) → (l : NodeWhat-F X Y Z)
    → Layer halves (map-NodeWhat X Y Z NodeWhat Clause Node what part_of of l)
layer_is halves what part_of of gc gn NodeWhat-F.Empty = only_statement halves _ _ _ (λ l h depth rest. empty_reread halves l rest)
layer_is halves what part_of of gc gn (NodeWhat-F.Block zs) = record {
  statement = λ l h depth rest. record { closed = true; read = block_statement halves l depth (map stated (map of zs)) (map written (map of zs)) (map unplaced_node (map of zs)) rest (nodes_are halves of gn zs) h };
  body = λ l h depth rest. block_body halves l depth (map stated (map of zs)) (map written (map of zs)) (map unplaced_node (map of zs)) rest (nodes_are halves of gn zs) h;
  free = λ l h. nothing h;
  simple = λ l d h few rest. nothing h;
  local = λ l d h few. nothing h;
}
layer_is halves what part_of of gc gn (NodeWhat-F.Local x o) = record {
  statement = λ l h depth rest. nothing h;
  body = λ l h depth rest. nothing h;
  free = λ l h. nothing h;
  simple = λ l d h few rest. nothing h;
  local = λ l d h few. record { base = (out-Decl x).base; base_is = refl; there = local_reread halves x o l d h few; words = λ depth rest. refl };
}
layer_is halves what part_of of gc gn (NodeWhat-F.Assign place op f g) = simple_node halves _ _ _
    (λ l h. free_at (l + 1) f (both (is_expression_at (l + 1) f) (is_expression_at (l + 1) g) (both (is_among assignments op) (is_expression_at (l + 1) f && is_expression_at (l + 1) g) h).1).0)
    (λ l d h few rest. assign_reread halves op f g l d rest h few)
layer_is halves what part_of of gc gn (NodeWhat-F.Plain f) = simple_node halves _ _ _
    (λ l h. free_at (l + 1) f (both (is_alone f) (is_expression_at (l + 1) f) h).1)
    (λ l d h few rest. plain_reread halves f l d rest h few)
layer_is halves what part_of of gc gn (NodeWhat-F.If c a None) = only_statement halves _ _ _ (λ l h depth rest.
    let k = both (is_expression_at (l + 1) c) ((stated (of a)).body (l + 1) && true) h in
    let j = both ((stated (of a)).body (l + 1)) true k.1 in
    if_reread halves l depth c (written (of a)) (unplaced_node (of a)) None None rest k.0 ((gn a).body (l + 1) j.0) tt)
layer_is halves what part_of of gc gn (NodeWhat-F.If c a (Some b)) = only_statement halves _ _ _ (λ l h depth rest.
    let k = both (is_expression_at (l + 1) c) ((stated (of a)).body (l + 1) && (stated (of b)).body (l + 1)) h in
    let j = both ((stated (of a)).body (l + 1)) ((stated (of b)).body (l + 1)) k.1 in
    if_reread halves l depth c (written (of a)) (unplaced_node (of a)) (Some (written (of b))) (Some (unplaced_node (of b))) rest k.0 ((gn a).body (l + 1) j.0) ((gn b).body (l + 1) j.1))
layer_is halves what part_of of gc gn (NodeWhat-F.While c a) = only_statement halves _ _ _ (λ l h depth rest.
    let k = both (is_expression_at (l + 1) c) ((stated (of a)).body (l + 1)) h in
    while_reread halves l depth c (written (of a)) (unplaced_node (of a)) rest k.0 ((gn a).body (l + 1) k.1))
layer_is halves what part_of of gc gn (NodeWhat-F.For i c None a) = only_statement halves _ _ _ (λ l h depth rest.
    let k = both (is_level_free (l + 1)) (opening_at (l + 1) (map stated (map of i)) && (maybe (is_expression_at (l + 1)) c && (true && (stated (of a)).body (l + 1)))) h in
    let j = both (opening_at (l + 1) (map stated (map of i))) (maybe (is_expression_at (l + 1)) c && (true && (stated (of a)).body (l + 1))) k.1 in
    let m = both (maybe (is_expression_at (l + 1)) c) (true && (stated (of a)).body (l + 1)) j.1 in
    for_reread halves l depth (map stated (map of i)) (map written (map of i)) (map unplaced_node (map of i)) c None None None (written (of a)) (unplaced_node (of a)) rest (nodes_are halves of gn i) tt k.0 j.0 m.0 refl ((gn a).body (l + 1) m.1))
layer_is halves what part_of of gc gn (NodeWhat-F.For i c (Some n) a) = only_statement halves _ _ _ (λ l h depth rest.
    let k = both (is_level_free (l + 1)) (opening_at (l + 1) (map stated (map of i)) && (maybe (is_expression_at (l + 1)) c && ((stated (of n)).simple (l + 1) && (stated (of a)).body (l + 1)))) h in
    let j = both (opening_at (l + 1) (map stated (map of i))) (maybe (is_expression_at (l + 1)) c && ((stated (of n)).simple (l + 1) && (stated (of a)).body (l + 1))) k.1 in
    let m = both (maybe (is_expression_at (l + 1)) c) ((stated (of n)).simple (l + 1) && (stated (of a)).body (l + 1)) j.1 in
    let e = both ((stated (of n)).simple (l + 1)) ((stated (of a)).body (l + 1)) m.1 in
    for_reread halves l depth (map stated (map of i)) (map written (map of i)) (map unplaced_node (map of i)) c (Some (stated (of n))) (Some (written (of n))) (Some (unplaced_node (of n))) (written (of a)) (unplaced_node (of a)) rest (nodes_are halves of gn i) (gn n) k.0 j.0 m.0 e.0 ((gn a).body (l + 1) e.1))
layer_is halves what part_of of gc gn (NodeWhat-F.Do a c) = only_statement halves _ _ _ (λ l h depth rest.
    let k = both ((stated (of a)).body (l + 1)) (is_expression_at (l + 1) c) h in
    do_reread halves l depth c (written (of a)) (unplaced_node (of a)) rest k.1 ((gn a).body (l + 1) k.0))
layer_is halves what part_of of gc gn (NodeWhat-F.Switch c ys) = only_statement halves _ _ _ (λ l h depth rest.
    let k = both (is_expression_at (l + 1) c) (all (map (clause_at (l + 1)) (map is_clause_at (map part_of ys)))) h in
    switch_reread halves l depth c (map is_clause_at (map part_of ys)) (map written_clause (map part_of ys)) (map unplaced_clause (map part_of ys)) rest k.0 (clauses_are halves part_of gc ys) k.1)
layer_is halves what part_of of gc gn (NodeWhat-F.Return o) = only_statement halves _ _ _ (λ l h depth rest. return_reread halves l o rest h)
layer_is halves what part_of of gc gn NodeWhat-F.Break = only_statement halves _ _ _ (λ l h depth rest. break_reread halves l rest)
layer_is halves what part_of of gc gn NodeWhat-F.Continue = only_statement halves _ _ _ (λ l h depth rest. continue_reread halves l rest)

node_moved : (halves : Bool) {s s' : Stated} {w w' : Written} {n n' : Node} → s ≡ s' → w ≡ w' → n ≡ n' → GoodNode halves s' w' n' → GoodNode halves s w n
node_moved halves {s} {s'} {w} {w'} {n} {n'} p q r g =
    subst (λ (x : Stated). GoodNode halves x w n) (sym p) (subst (λ (x : Written). GoodNode halves s' x n) (sym q) (subst (λ (x : Node). GoodNode halves s' w' x) (sym r) g))

clause_moved : (halves : Bool) {c c' : ℕ → Bool} {m m' : ℕ → Marks} {u u' : Clause} → c ≡ c' → m ≡ m' → u ≡ u' → GoodClause halves c' m' u' → GoodClause halves c m u
clause_moved halves {c} {c'} {m} {m'} {u} {u'} p q r g =
    subst (λ (x : ℕ → Bool). GoodClause halves x m u) (sym p) (subst (λ (x : ℕ → Marks). GoodClause halves c' x u) (sym q) (subst (λ (x : Clause). GoodClause halves c' m' x) (sym r) g))

abbrev Good : Bool → Node → Type 0
Good halves n = GoodNode halves (stated n) (written n) (unplaced_node n)

abbrev GoodWhat : Bool → NodeWhat → Type 0
GoodWhat halves w = GoodNode halves (stated_what w) (written_what w) (node_at nowhere (unplaced_statement w))

abbrev GoodPart : Bool → Clause → Type 0
GoodPart halves c = GoodClause halves (is_clause_at c) (written_clause c) (unplaced_clause c)

abbrev ClauseLayer : Bool → List Label → List Node → Type 0
ClauseLayer halves xs ns = GoodClause halves (clause_stated (record { labels = xs; body = map stated ns })) (clause_lines xs (map written ns)) (roll-Clause (record { labels = map unplaced_label xs; body = map unplaced_node ns }))

clause_layer : (halves : Bool) (xs : List Label) {Z : Type 0} (of : Z → Node) → ((z : Z) → Good halves (of z)) → (zs : List Z) → ClauseLayer halves xs (map of zs)
clause_layer halves xs of g zs = record { by = λ l h depth rest. clause_reread halves l depth xs (map stated (map of zs)) (map written (map of zs)) (map unplaced_node (map of zs)) rest (nodes_are halves of g zs) h }

pub good_nodes : (halves : Bool) (n : Node) → Good halves n
good_nodes halves = ind-Node (GoodWhat halves) (GoodPart halves) (Good halves)
    (λ x y is. node_moved halves (fold-roll-NodeWhat Stated (ℕ → Bool) Stated statement_stated clause_stated node_stated x) (fold-roll-NodeWhat Written (ℕ → Marks) Written what_written clause_written node_written x) (ap (node_at nowhere) (fold-roll-NodeWhat NodeWhat Clause Node statement_unplaced clause_unplaced node_unplaced x))
    (subst (Layer halves) is (layer_is halves (λ e. e.0) (λ e. e.0) (λ e. e.0) (λ e. e.1) (λ e. e.1) y)))
    (λ x y is. clause_moved halves (fold-roll-Clause Stated (ℕ → Bool) Stated statement_stated clause_stated node_stated x) (fold-roll-Clause Written (ℕ → Marks) Written what_written clause_written node_written x) (fold-roll-Clause NodeWhat Clause Node statement_unplaced clause_unplaced node_unplaced x)
    (subst (ClauseLayer halves x.labels) (ap (λ z. z.body) is) (clause_layer halves x.labels (λ e. e.0) (λ e. e.1) y.body)))
    (λ x y is. node_moved halves (fold_out-Node Stated (ℕ → Bool) Stated statement_stated clause_stated node_stated (record { place = x.place; what = x.what })) (fold_out-Node Written (ℕ → Marks) Written what_written clause_written node_written (record { place = x.place; what = x.what })) (fold_out-Node NodeWhat Clause Node statement_unplaced clause_unplaced node_unplaced (record { place = x.place; what = x.what }))
    (subst (GoodWhat halves) (ap (λ z. z.what) is) (y.what.1)))

-- the lines of a function's body, at the level of its block
all_good : (halves : Bool) (ns : List Node) → AreNodes halves (map stated ns) (map written ns) (map unplaced_node ns)
all_good halves [] = tt
all_good halves (n ∷ ns) = (good_nodes halves n, all_good halves ns)

pub body_reread : (halves : Bool) (depth : ℕ) (ns : List Node) (rest : List Mark) → all (map (item_at 0) (map stated ns)) ≡ true → Gets halves (many true (block_items 0) []) (tokens_of (lines depth (map written ns) rest)) (tokens_of rest) (map alone (map unplaced_node ns))
body_reread halves depth ns rest h = many_reread halves true (block_items 0) (map (line_of depth) (map written ns)) (map alone (map unplaced_node ns)) [] rest (allowed_always (map (line_of depth) (map written ns))) (items_reread halves 0 depth (map stated ns) (map written ns) (map unplaced_node ns) (all_good halves ns) h)
