-- Printed statements are read again.
use Rattle.std.proofs.Common.{◌≡◌, refl, sym, subst, ap, ◌∙◌, arith, ℕ, suc, ◌+◌, ◌≤◌, Bool, true, false, Option, Some, None, List, [], ◌∷◌, map}
use Rattle.std.specs.Prelude.{◌&&◌, ◌||◌, codes}
use Rattle.std.specs.Option.{option_map}
use Rattle.std.proofs.lemmas.Bool.{false≢true}
use Rattle.mdr_syntax.specs.declared.token.Lexeme.TheVariants.{Word, Punct}
use Rattle.mdr_syntax.specs.declared.token.Token.{Token}
use Rattle.mdr_syntax.specs.declared.tree.Base.{Base}
use Rattle.mdr_syntax.specs.declared.tree.Form.{Form}
use Rattle.mdr_syntax.specs.declared.tree.Node.{Node}
use Rattle.mdr_syntax.specs.declared.tree.NodeWhat
use Rattle.mdr_print.specs.Marks.{Mark, Is, Blank, Newline, Marks, word as printed_word, blank, in_parentheses, ◌▸◌}
use Rattle.mdr_print.specs.Types.{base_name}
use Rattle.mdr_print.specs.Forms.{form}
use Rattle.mdr_print.specs.Statements.{Written, semicolon, line_of, lines, closed, braced, clause_head, otherwise, optional, returned}
use Rattle.mdr_roundtrip.specs.Printable.{all}
use Rattle.mdr_roundtrip.specs.PrintableDeclarations.{maybe}
use Rattle.mdr_roundtrip.proofs.Tests.{both}
use Rattle.mdr_grammar.specs.declared.parts.Ended.{Ended}
use Rattle.mdr_grammar.specs.declared.parts.Specifier.{Specifier}
use Rattle.mdr_grammar.specs.declared.sort.Sort.{Sort}
use Rattle.mdr_grammar.specs.Sorts.{is, sort_of, words, marks}
use Rattle.mdr_grammar.specs.Forms.{Nonterminal, Value, Right, ◌>>=◌, take, form as whole_form, one, and_then, or_else, where_allowed}
use Rattle.mdr_grammar.specs.Forms.Part.{expression, statement, body, simple, block_item}
use Rattle.mdr_grammar.specs.Forms.Repeated.{block_items}
use Rattle.mdr_grammar.specs.Forms.Nonterminal.{part, option, many, otherwise as other_branch}
use Rattle.mdr_grammar.specs.Forms.Right.{gives, takes}
use Rattle.mdr_grammar.specs.Forms.Rule.{given}
use Rattle.mdr_grammar.specs.Expressions.{is_level_free}
use Rattle.mdr_grammar.specs.Declarations.{specifiers_rule}
use Rattle.mdr_grammar.specs.Statements.{node_at, simple_rule, simple_end, locals_of, condition, statement_rule, block_item_rule, body_rule, otherwise_rule, if_at, while_at, do_at, other_node, other_closed, block_end, semicolon_behind, joined}
use Rattle.mdr_grammar.specs.Grammar.{Gets, Follows}
use Rattle.mdr_grammar.specs.Grammar.Gets.{absent, present}
use Rattle.mdr_grammar.specs.Grammar.Follows.{done, word, both as parts}
use Rattle.mdr_roundtrip.specs.Unplaced.{nowhere, at, unplaced_form}
use Rattle.mdr_roundtrip.specs.Stated.{Stated, is_expression_at, item_at, block_at}
use Rattle.mdr_roundtrip.proofs.Following.{through, through_first, free}
use Rattle.mdr_roundtrip.proofs.Rereading.{tokens_of, no_rule}
use Rattle.mdr_roundtrip.proofs.RereadForms.{allowed, placed_first}
use Rattle.mdr_roundtrip.proofs.RereadParts.{opens, closes}
use Rattle.mdr_roundtrip.proofs.RereadDecls.{specifiers_reread}
use Rattle.mdr_roundtrip.proofs.RereadSimple.{low_of, expression_reread, IsLocal}
use Rattle.mdr_roundtrip.proofs.RereadLists.{right_bind, tabs_gone, AllRead, many_reread, alone, joined_alone}

-- ---- sorts

pub semicolon_sort : (halves : Bool) → sort_of halves (Punct (codes ";")) ≡ Sort.Semicolon
unfolding sort_of marks
semicolon_sort halves = refl

pub brace_sort : (halves : Bool) → sort_of halves (Punct (codes "{")) ≡ Sort.OpenBrace
unfolding sort_of marks
brace_sort halves = refl

pub unbrace_sort : (halves : Bool) → sort_of halves (Punct (codes "}")) ≡ Sort.CloseBrace
unfolding sort_of marks
unbrace_sort halves = refl

if_sort : (halves : Bool) → sort_of halves (Word (codes "if")) ≡ Sort.If
unfolding sort_of words
if_sort halves = refl

else_sort : (halves : Bool) → sort_of halves (Word (codes "else")) ≡ Sort.Else
unfolding sort_of words
else_sort halves = refl

while_sort : (halves : Bool) → sort_of halves (Word (codes "while")) ≡ Sort.While
unfolding sort_of words
while_sort halves = refl

for_sort : (halves : Bool) → sort_of halves (Word (codes "for")) ≡ Sort.For
unfolding sort_of words
for_sort halves = refl

do_sort : (halves : Bool) → sort_of halves (Word (codes "do")) ≡ Sort.Do
unfolding sort_of words
do_sort halves = refl

return_sort : (halves : Bool) → sort_of halves (Word (codes "return")) ≡ Sort.Return
unfolding sort_of words
return_sort halves = refl

break_sort : (halves : Bool) → sort_of halves (Word (codes "break")) ≡ Sort.Break
unfolding sort_of words
break_sort halves = refl

continue_sort : (halves : Bool) → sort_of halves (Word (codes "continue")) ≡ Sort.Continue
unfolding sort_of words
continue_sort halves = refl

pub ends : (halves : Bool) {n : Nonterminal} {k : Token → Right (Value n)} {ts rest : List Token} {v : Value n} → Follows halves n (k (at (Punct (codes ";")))) ts rest v → Follows halves n (takes Sort.Semicolon k) (at (Punct (codes ";")) ∷ ts) rest v
ends halves f = word {s = Sort.Semicolon} (ap (λ s. is Sort.Semicolon s) (semicolon_sort halves)) f

pub unbraces : (halves : Bool) {n : Nonterminal} {k : Token → Right (Value n)} {ts rest : List Token} {v : Value n} → Follows halves n (k (at (Punct (codes "}")))) ts rest v → Follows halves n (takes Sort.CloseBrace k) (at (Punct (codes "}")) ∷ ts) rest v
unbraces halves f = word {s = Sort.CloseBrace} (ap (λ s. is Sort.CloseBrace s) (unbrace_sort halves)) f

-- ---- what is known of a statement

pub record IsStatement (halves : Bool) (l : ℕ) (m : Marks) (rest : List Mark) (n : Node) : Type 0 where
  pub closed : Bool
  pub read : Gets halves (part (statement l)) (tokens_of (m rest)) (tokens_of rest) (record { node = n; closed = closed })

-- the declaration of a local
pub record IsHere (halves : Bool) (l d : ℕ) (s : Stated) (w : Written) (n : Node) : Type 0 where
  pub base : Base
  pub base_is : s.base ≡ Some base
  pub there : IsLocal halves l d base w.first w.further n
  pub words : (depth : ℕ) (rest : List Mark) → w.words depth rest ≡ w.first (Is (Punct (codes ";")) ∷ rest)

pub record GoodNode (halves : Bool) (s : Stated) (w : Written) (n : Node) : Type 0 where
  pub statement : (l : ℕ) → s.statement l ≡ true → (depth : ℕ) (rest : List Mark) → IsStatement halves l (w.words depth) rest n
  pub body : (l : ℕ) → s.body l ≡ true → (depth : ℕ) (rest : List Mark) → Gets halves (part (body l)) (tokens_of (braced depth w.body rest)) (tokens_of rest) (record { node = n; closed = true })
  pub free : (l : ℕ) → s.simple l ≡ true → is_level_free (l + 1) ≡ true
  pub simple : (l d : ℕ) → s.simple l ≡ true → d ≤ 1 → (rest : List Mark) → Gets halves (part (simple l d)) (tokens_of (w.first rest)) (tokens_of rest) n
  pub local : (l d : ℕ) → s.local l d ≡ true → d ≤ 1 → IsHere halves l d s w n

-- ---- simple statements

simple_is : (l : ℕ) (s : Sort) (t : Token) (r : Right Node) → is_level_free (l + 1) ≡ true → simple_rule l 0 s t ≡ given true r → statement_rule l s t ≡ given true (r >>= λ n. simple_end n)
simple_is l Sort.Semicolon t r h e = no_rule e
simple_is l Sort.OpenBrace t r h e = no_rule e
simple_is l Sort.Break t r h e = no_rule e
simple_is l Sort.Continue t r h e = no_rule e
simple_is l Sort.Return t r h e = no_rule e
simple_is l Sort.If t r h e = no_rule e
simple_is l Sort.While t r h e = no_rule e
simple_is l Sort.For t r h e = no_rule e
simple_is l Sort.Do t r h e = no_rule e
simple_is l Sort.Switch t r h e = no_rule e
simple_is l s t r h e = ap (λ o. where_allowed (is_level_free (l + 1)) (and_then o (λ n. simple_end n))) e ∙ ap (λ b. given (b && true) (r >>= λ n. simple_end n)) h

pub simple_statement : (halves : Bool) (l : ℕ) (m : Marks) (rest : List Mark) (n : Node) → is_level_free (l + 1) ≡ true → ((behind : List Mark) → Gets halves (part (simple l 0)) (tokens_of (m behind)) (tokens_of behind) n) → IsStatement halves l (λ rest. m (Is (Punct (codes ";")) ∷ rest)) rest n
simple_statement halves l m rest n h g = record {
  closed = true;
  read = through halves (λ n. simple_end n) refl (λ s t r e. simple_is l s t r h e) (g (Is (Punct (codes ";")) ∷ rest)) (ends halves done);
}

-- ---- what stands in a block

item_is : (l : ℕ) (s : Sort) (t : Token) (r : Right Ended) → statement_rule l s t ≡ given true r → block_item_rule l s t ≡ given true (r >>= λ s. gives (s.node ∷ []))
item_is l (Sort.Integer k) t r e = no_rule e
item_is l Sort.Char t r e = no_rule e
item_is l Sort.Short t r e = no_rule e
item_is l Sort.Int t r e = no_rule e
item_is l Sort.Long t r e = no_rule e
item_is l Sort.Signed t r e = no_rule e
item_is l Sort.Unsigned t r e = no_rule e
item_is l Sort.Void t r e = no_rule e
item_is l Sort.Lock t r e = no_rule e
item_is l Sort.Struct t r e = no_rule e
item_is l Sort.Qualifier t r e = no_rule e
item_is l s t r e = ap (λ o. and_then o (λ s. gives (s.node ∷ []))) e

local_item_is : (l : ℕ) (s : Sort) (t : Token) (r : Right Specifier) → specifiers_rule s t ≡ given true r → block_item_rule l s t ≡ given true (r >>= λ b. locals_of t.place b l 0 >>= λ ns. semicolon_behind ns)
local_item_is l s t r e =
    ap (λ o. or_else (and_then (and_then o (λ b. locals_of t.place b l 0)) (λ ns. semicolon_behind ns)) (and_then (statement_rule l s t) (λ s. gives (s.node ∷ [])))) e
    ∙ ap (λ x. given true x) (right_bind r (λ b. locals_of t.place b l 0) (λ ns. semicolon_behind ns))

either : (a b : Bool) → (a || b) ≡ true → a ≡ false → b ≡ true
either true b h e = absurd (false≢true (sym e))
either false b h e = h

local_item : (halves : Bool) (l : ℕ) (s : Stated) (w : Written) (n : Node) → IsHere halves l 0 s w n → (depth : ℕ) (rest : List Mark) → Gets halves (part (block_item l)) (tokens_of (w.words depth rest)) (tokens_of rest) (n ∷ [])
local_item halves l s w n x depth rest =
    let behind : List Mark = Is (Punct (codes ";")) ∷ rest in
    let first : tokens_of (w.words depth rest) ≡ tokens_of (base_name x.base (w.further behind)) = ap (λ m. tokens_of m) (x.words depth rest) ∙ x.there.whole behind in
    subst (λ (ts : List Token). Gets halves (part (block_item l)) ts (tokens_of rest) (n ∷ [])) (sym first)
    (through_first halves (λ b. locals_of nowhere b l 0 >>= λ ns. semicolon_behind ns) refl
    (λ s t us r q e. local_item_is l s t r e ∙ ap (λ p. given true (r >>= λ b. locals_of p b l 0 >>= λ ns. semicolon_behind ns)) (placed_first _ q))
    (specifiers_reread halves x.base (w.further behind) x.there.base_is)
    (parts (x.there.read behind) (parts (absent refl) (ends halves done))))

pub item_reread : (halves : Bool) (l : ℕ) (s : Stated) (w : Written) (n : Node) → GoodNode halves s w n → item_at l s ≡ true → (depth : ℕ) (rest : List Mark) → Gets halves (part (block_item l)) (tokens_of (w.words depth rest)) (tokens_of rest) (n ∷ [])
item_reread halves l s w n g h depth rest = on (s.statement l) refl
  where
    on : (b : Bool) → s.statement l ≡ b → Gets halves (part (block_item l)) (tokens_of (w.words depth rest)) (tokens_of rest) (n ∷ [])
    on true e = let x = g.statement l e depth rest in through halves (λ s. gives (s.node ∷ [])) refl (λ s t r q. item_is l s t r q) x.read done
    on false e = local_item halves l s w n (g.local l 0 (either (s.statement l) (s.local l 0) h e) (omega arith)) depth rest

-- lines, one for each
abbrev pub AreNodes : Bool → List Stated → List Written → List Node → Type 0
AreNodes halves [] [] [] = Unit {0}
AreNodes halves (s ∷ ss) (w ∷ ws) (n ∷ ns) = GoodNode halves s w n × AreNodes halves ss ws ns
AreNodes halves _ _ _ = ⊥

pub items_reread : (halves : Bool) (l depth : ℕ) (ss : List Stated) (ws : List Written) (ns : List Node) → AreNodes halves ss ws ns → all (map (item_at l) ss) ≡ true → AllRead halves (block_items l) (map (line_of depth) ws) (map alone ns)
items_reread halves l depth [] [] [] g h = tt
items_reread halves l depth (s ∷ ss) (w ∷ ws) (n ∷ ns) g h =
    let k = both (item_at l s) (all (map (item_at l) ss)) h in (
      λ rest. subst (λ (ts : List Token). Gets halves (part (block_item l)) ts (tokens_of rest) (n ∷ [])) (sym (tabs_gone depth (w.words depth (Newline ∷ rest)))) (item_reread halves l s w n g.0 k.0 depth (Newline ∷ rest)),
      items_reread halves l depth ss ws ns g.1 k.1,
    )
items_reread halves l depth [] [] (n ∷ ns) g h = absurd g
items_reread halves l depth [] (w ∷ ws) ns g h = absurd g
items_reread halves l depth (s ∷ ss) [] ns g h = absurd g
items_reread halves l depth (s ∷ ss) (w ∷ ws) [] g h = absurd g

inside_block : (halves : Bool) (l depth : ℕ) (ss : List Stated) (ws : List Written) (ns : List Node) (rest : List Mark) → AreNodes halves ss ws ns → block_at ss l ≡ true → Gets halves (many (is_level_free (l + 1)) (block_items (l + 1)) []) (tokens_of (lines depth ws rest)) (tokens_of rest) (map alone ns)
inside_block halves l depth [] [] [] rest g h = absent refl
inside_block halves l depth (s ∷ ss) (w ∷ ws) (n ∷ ns) rest g h =
    let k = both (is_level_free (l + 1)) (all (map (item_at (l + 1)) (s ∷ ss))) h in
    many_reread halves (is_level_free (l + 1)) (block_items (l + 1)) (map (line_of depth) (w ∷ ws)) (map alone (n ∷ ns)) [] rest k.0 (items_reread halves (l + 1) depth (s ∷ ss) (w ∷ ws) (n ∷ ns) g k.1)
inside_block halves l depth [] [] (n ∷ ns) rest g h = absurd g
inside_block halves l depth [] (w ∷ ws) ns rest g h = absurd g
inside_block halves l depth (s ∷ ss) [] ns rest g h = absurd g
inside_block halves l depth (s ∷ ss) (w ∷ ws) [] rest g h = absurd g

abbrev block_of : List Node → Node
block_of ns = node_at nowhere (NodeWhat.Block ns)

-- what ends a block
block_ends : (halves : Bool) (m : Nonterminal) (same : Ended → Value m) (k : Ended → Right (Value m)) (depth : ℕ) (ns : List Node) (rest : List Mark) → ((e : Ended) → k e ≡ gives (same e)) → Follows halves m (block_end nowhere (joined (map alone ns)) >>= k) (tokens_of (closed depth rest)) (tokens_of rest) (same (record { node = block_of ns; closed = true }))
block_ends halves m same k depth ns rest q =
    subst (λ (ts : List Token). Follows halves m (block_end nowhere (joined (map alone ns)) >>= k) ts (tokens_of rest) (same (record { node = block_of ns; closed = true }))) (sym (tabs_gone depth (Is (Punct (codes "}")) ∷ rest)))
    (unbraces halves
    (subst (λ (r : Right (Value m)). Follows halves m r (tokens_of rest) (tokens_of rest) (same (record { node = block_of ns; closed = true }))) (sym (q (record { node = block_of (joined (map alone ns)); closed = true })))
    (subst (λ (us : List Node). Follows halves m (gives (same (record { node = block_of us; closed = true }))) (tokens_of rest) (tokens_of rest) (same (record { node = block_of ns; closed = true }))) (sym (joined_alone ns)) done)))

pub block_statement : (halves : Bool) (l depth : ℕ) (ss : List Stated) (ws : List Written) (ns : List Node) (rest : List Mark) → AreNodes halves ss ws ns → block_at ss l ≡ true → Gets halves (part (statement l)) (tokens_of (braced depth (λ inside. lines inside ws) rest)) (tokens_of rest) (record { node = block_of ns; closed = true })
block_statement halves l depth ss ws ns rest g h =
    present (ap (λ s. statement_rule l s (at (Punct (codes "{")))) (brace_sort halves))
    (parts (inside_block halves l (suc depth) ss ws ns (closed depth rest) g h) (block_ends halves (part (statement l)) (λ e. e) gives depth ns rest (λ e. refl)))

pub block_body : (halves : Bool) (l depth : ℕ) (ss : List Stated) (ws : List Written) (ns : List Node) (rest : List Mark) → AreNodes halves ss ws ns → block_at ss l ≡ true → Gets halves (part (body l)) (tokens_of (braced depth (λ inside. lines inside ws) rest)) (tokens_of rest) (record { node = block_of ns; closed = true })
block_body halves l depth ss ws ns rest g h =
    present (ap (λ s. body_rule l s (at (Punct (codes "{")))) (brace_sort halves))
    (parts (inside_block halves l (suc depth) ss ws ns (closed depth rest) g h) (block_ends halves (part (body l)) (λ e. e) gives depth ns rest (λ e. refl)))

-- ---- statements with conditions

pub free_at : (l : ℕ) (f : Form) → is_expression_at l f ≡ true → is_level_free l ≡ true
free_at l f h = free l (let low = low_of l f h in omega (arith, low))

pub condition_then : (halves : Bool) (m : Nonterminal) (l : ℕ) (c : Form) (k : Form → Right (Value m)) (rest : List Mark) {end : List Token} {v : Value m} → is_expression_at (l + 1) c ≡ true → Follows halves m (k (unplaced_form c)) (tokens_of rest) end v → Follows halves m (condition l >>= k) (tokens_of (in_parentheses (form c) rest)) end v
condition_then halves m l c k rest h f = opens halves (parts (expression_reread halves c (l + 1) 1 (Is (Punct (codes ")")) ∷ rest) h (omega arith)) (closes halves f))

-- a body that is printed between braces
abbrev pub IsBody : Bool → ℕ → Written → Node → Type 0
IsBody halves l w n = (depth : ℕ) (rest : List Mark) → Gets halves (part (body l)) (tokens_of (braced depth w.body rest)) (tokens_of rest) (record { node = n; closed = true })

abbrev pub MaybeBody : Bool → ℕ → Option Written → Option Node → Type 0
MaybeBody halves l None None = Unit {0}
MaybeBody halves l (Some w) (Some n) = IsBody halves l w n
MaybeBody halves l None (Some n) = ⊥
MaybeBody halves l (Some w) None = ⊥

record IsOther (halves : Bool) (l depth : ℕ) (w : Option Written) (rest : List Mark) (n : Option Node) : Type 0 where
  other : Option Ended
  read : Gets halves (other_branch l true) (tokens_of (otherwise depth w rest)) (tokens_of rest) other
  is_node : other_node other ≡ n

other_reread : (halves : Bool) (l depth : ℕ) (w : Option Written) (n : Option Node) (rest : List Mark) → MaybeBody halves l w n → IsOther halves l depth w rest n
other_reread halves l depth None None rest g = record { other = None; read = absent refl; is_node = refl }
other_reread halves l depth None (Some n) rest g = absurd g
other_reread halves l depth (Some w) None rest g = absurd g
other_reread halves l depth (Some w) (Some n) rest g = record {
  other = Some (record { node = n; closed = true });
  read = present (ap (λ s. otherwise_rule l true s (at (Word (codes "else")))) (else_sort halves)) (parts (g depth rest) done);
  is_node = refl;
}

pub if_reread : (halves : Bool) (l depth : ℕ) (c : Form) (w : Written) (n : Node) (o : Option Written) (u : Option Node) (rest : List Mark) → is_expression_at (l + 1) c ≡ true → IsBody halves (l + 1) w n → MaybeBody halves (l + 1) o u
    → IsStatement halves l (clause_head (codes "if") (form c) ▸ blank ▸ braced depth w.body ▸ otherwise depth o) rest (node_at nowhere (NodeWhat.If (unplaced_form c) n u))
if_reread halves l depth c w n o u rest h g q =
    let x = other_reread halves (l + 1) depth o u rest q in
    record {
      closed = other_closed x.other;
      read = present (allowed (ap (λ s. statement_rule l s (at (Word (codes "if")))) (if_sort halves)) (free_at (l + 1) c h))
          (condition_then halves (part (statement l)) l c (λ c. one (body (l + 1)) >>= λ a. whole_form (other_branch (l + 1) a.closed) >>= λ b. gives (if_at nowhere c a b)) (Blank ∷ braced depth w.body (otherwise depth o rest)) h
          (parts (g depth (otherwise depth o rest)) (parts x.read
          (subst (λ (y : Option Node). Follows halves (part (statement l)) (gives (if_at nowhere (unplaced_form c) (record { node = n; closed = true }) x.other)) (tokens_of rest) (tokens_of rest) (record { node = node_at nowhere (NodeWhat.If (unplaced_form c) n y); closed = other_closed x.other })) x.is_node done))));
    }

pub while_reread : (halves : Bool) (l depth : ℕ) (c : Form) (w : Written) (n : Node) (rest : List Mark) → is_expression_at (l + 1) c ≡ true → IsBody halves (l + 1) w n
    → IsStatement halves l (clause_head (codes "while") (form c) ▸ blank ▸ braced depth w.body) rest (node_at nowhere (NodeWhat.While (unplaced_form c) n))
while_reread halves l depth c w n rest h g = record {
  closed = true;
  read = present (allowed (ap (λ s. statement_rule l s (at (Word (codes "while")))) (while_sort halves)) (free_at (l + 1) c h))
      (condition_then halves (part (statement l)) l c (λ c. one (body (l + 1)) >>= λ a. gives (while_at nowhere c a)) (Blank ∷ braced depth w.body rest) h (parts (g depth rest) done));
}

pub do_reread : (halves : Bool) (l depth : ℕ) (c : Form) (w : Written) (n : Node) (rest : List Mark) → is_expression_at (l + 1) c ≡ true → IsBody halves (l + 1) w n
    → IsStatement halves l (printed_word (codes "do") ▸ blank ▸ braced depth w.body ▸ blank ▸ clause_head (codes "while") (form c) ▸ semicolon) rest (node_at nowhere (NodeWhat.Do n (unplaced_form c)))
do_reread halves l depth c w n rest h g = record {
  closed = true;
  read = present (allowed (ap (λ s. statement_rule l s (at (Word (codes "do")))) (do_sort halves)) (free_at (l + 1) c h))
      (parts (g depth (Blank ∷ clause_head (codes "while") (form c) (semicolon rest)))
      (word {s = Sort.While} (ap (λ s. is Sort.While s) (while_sort halves))
      (condition_then halves (part (statement l)) l c (λ c. take Sort.Semicolon >>= λ e. gives (do_at nowhere (record { node = n; closed = true }) c)) (semicolon rest) h (ends halves done))));
}

-- ---- statements of a word

pub optional_expression : (halves : Bool) (b : Bool) (l d : ℕ) (o : Option Form) (rest : List Mark) → b ≡ true → maybe (is_expression_at l) o ≡ true → d ≤ 1 → Gets halves (option b (expression l d)) (tokens_of (optional o rest)) (tokens_of rest) (option_map unplaced_form o)
optional_expression halves b l d None rest a h few = absent refl
optional_expression halves b l d (Some c) rest a h few =
    through halves (λ x. gives (Some x)) refl (λ s t r e. ap (λ o. where_allowed b (and_then o (λ v. gives (Some v)))) e ∙ ap (λ x. given (x && true) (r >>= λ v. gives (Some v))) a) (expression_reread halves c l d rest h few) done

returned_value : (halves : Bool) (l : ℕ) (o : Option Form) (rest : List Mark) → maybe (is_expression_at (l + 1)) o ≡ true → Gets halves (option (is_level_free (l + 1)) (expression (l + 1) 0)) (tokens_of (returned o rest)) (tokens_of rest) (option_map unplaced_form o)
returned_value halves l None rest h = absent refl
returned_value halves l (Some c) rest h = optional_expression halves (is_level_free (l + 1)) (l + 1) 0 (Some c) rest (free_at (l + 1) c h) h (omega arith)

pub return_reread : (halves : Bool) (l : ℕ) (o : Option Form) (rest : List Mark) → maybe (is_expression_at (l + 1)) o ≡ true → IsStatement halves l (printed_word (codes "return") ▸ returned o ▸ semicolon) rest (node_at nowhere (NodeWhat.Return (option_map unplaced_form o)))
return_reread halves l o rest h = record {
  closed = true;
  read = present (ap (λ s. statement_rule l s (at (Word (codes "return")))) (return_sort halves)) (parts (returned_value halves l o (semicolon rest) h) (ends halves done));
}

pub break_reread : (halves : Bool) (l : ℕ) (rest : List Mark) → IsStatement halves l (printed_word (codes "break") ▸ semicolon) rest (node_at nowhere NodeWhat.Break)
break_reread halves l rest = record { closed = true; read = present (ap (λ s. statement_rule l s (at (Word (codes "break")))) (break_sort halves)) (ends halves done) }

pub continue_reread : (halves : Bool) (l : ℕ) (rest : List Mark) → IsStatement halves l (printed_word (codes "continue") ▸ semicolon) rest (node_at nowhere NodeWhat.Continue)
continue_reread halves l rest = record { closed = true; read = present (ap (λ s. statement_rule l s (at (Word (codes "continue")))) (continue_sort halves)) (ends halves done) }

pub empty_reread : (halves : Bool) (l : ℕ) (rest : List Mark) → IsStatement halves l semicolon rest (node_at nowhere NodeWhat.Empty)
empty_reread halves l rest = record { closed = true; read = present (ap (λ s. statement_rule l s (at (Punct (codes ";")))) (semicolon_sort halves)) done }
