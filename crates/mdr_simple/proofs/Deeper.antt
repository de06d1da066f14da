-- Statements, by what stands behind their first words.
use Rattle.std.proofs.Common.{◌≡◌, ◌<◌, refl, sym, subst, ap, ◌∙◌, arith, ◌+◌, ℕ, Bool, true, false, List, [], ◌∷◌, ◌++◌, Option, Some, None, Result, Ok}
use Rattle.mdr_core.specs.declared.place.Place.{Place}
use Rattle.mdr_syntax.specs.declared.token.Token.{Token}
use Rattle.mdr_syntax.specs.declared.tree.Form.{Form}
use Rattle.mdr_syntax.specs.declared.tree.Node.{Node}
use Rattle.mdr_reader.specs.declared.failure.Failure.{Failure}
use Rattle.mdr_grammar.specs.declared.sort.Sort.{Sort}
use Rattle.mdr_grammar.specs.Sorts.{sort_of}
use Rattle.mdr_grammar.specs.declared.parts.Ended.{Ended}
use Rattle.mdr_grammar.specs.Forms.{Part, Right, ◌>>=◌, take, one}
use Rattle.mdr_grammar.specs.Forms.Part.{statement, body, block_item, simple}
use Rattle.mdr_grammar.specs.Forms.Repeated.{block_items}
use Rattle.mdr_grammar.specs.Forms.Nonterminal.{part, option, many}
use Rattle.mdr_grammar.specs.Forms.Right.{gives}
use Rattle.mdr_grammar.specs.Forms.Rule.{given}
use Rattle.mdr_grammar.specs.Forms.Empty.{cannot}
use Rattle.mdr_grammar.specs.Expressions.{is_level_free}
use Rattle.mdr_grammar.specs.Statements.{condition, loop_head, deeper_rule, single_rule, in_block, joined, items_in, nested_in, block_end, opening_simple_rule, label_rule}
use Rattle.mdr_simple.specs.Behind.{after_condition, after_head, after_do, after_nested, done, loop_init, loop_test, loop_step, loop_parts}
use Rattle.mdr_grammar.specs.Front.{and_read, word_at, first, front}
use Rattle.mdr_reader.specs.Gives.{Gives, Fails, read_by}
use Rattle.mdr_grammar.proofs.Hungry.{opens}
use Rattle.mdr_reader.proofs.Through.{bind, and_same}
use Rattle.mdr_reader.proofs.Going.{arm_from, through_all_by}
use Rattle.mdr_simple.proofs.Stated.{joined_more}
use Rattle.mdr_reader.proofs.Turns.{many_more, many_end, many_fails, fails_and, fails_by}
use Rattle.mdr_declaration.proofs.Voids.{allowed}

pub free_below : (l : ℕ) → l < 256 → is_level_free (l + 1) ≡ true
free_below l h = grind arith

-- a condition and what stands behind it
pub by_condition : {X : Type 0} (halves : Bool) (l : ℕ) (k : Form → Right Ended) (value : X → Ended) (behind : X → List Token) (result : Result X Failure) (s' : Sort) {ts rest : List Token} {t : Token} {s : Sort} → (ts ≡ t ∷ rest) × (s ≡ sort_of halves t.what) → s ≡ s' → l < 256 → deeper_rule l s' t ≡ given (is_level_free (l + 1)) (condition l >>= k) → Gives value behind result (after_condition halves l k rest) → Gives value behind result (read_by halves (deeper_rule l) ts)
by_condition halves l k value behind result s' {rest = rest} e g h q x = arm_from halves cannot (deeper_rule l) value behind result s' e g (free_below l h) q (subst (λ o. Gives value behind result o) (sym (bind halves (condition l) k rest)) x)

-- what a `for` begins with, in its three parts
abbrev test_and_step : (l : ℕ) → List Node → Right (List Node × Option Form × Option Node)
test_and_step l i = do
  c ← loop_test l
  n ← loop_step l
  gives (i, c, n)

head_is : (halves : Bool) (l : ℕ) (ts : List Token) → front halves (loop_head l) ts ≡ loop_parts halves l ts
head_is halves l ts = bind halves (loop_init l) (test_and_step l) ts ∙ and_same (front halves (loop_init l) ts) _ _ (λ i us. bind halves (loop_test l) (λ c. loop_step l >>= λ n. gives (i, c, n)) us ∙ and_same (front halves (loop_test l) us) _ _ (λ c vs. bind halves (loop_step l) (λ n. gives (i, c, n)) vs))

pub by_head : {X : Type 0} (halves : Bool) (l : ℕ) (k : (List Node × Option Form × Option Node) → Right Ended) (value : X → Ended) (behind : X → List Token) (result : Result X Failure) (s' : Sort) {ts rest : List Token} {t : Token} {s : Sort} → (ts ≡ t ∷ rest) × (s ≡ sort_of halves t.what) → s ≡ s' → l < 256 → deeper_rule l s' t ≡ given (is_level_free (l + 1)) (loop_head l >>= k) → Gives value behind result (after_head halves l k rest) → Gives value behind result (read_by halves (deeper_rule l) ts)
by_head halves l k value behind result s' {rest = rest} e g h q x = arm_from halves cannot (deeper_rule l) value behind result s' e g (free_below l h) q (subst (λ o. Gives value behind result o) (sym (bind halves (loop_head l) k rest ∙ ap (λ o. and_read o (λ v us. front halves (k v) us)) (head_is halves l rest))) x)

-- a body and what stands behind it
abbrev pub done_in : Place → ℕ → Right Ended
done_in place l = do
  a ← one (Part.body (l + 1))
  word ← take Sort.While
  c ← condition l
  done place a c

done_is : (halves : Bool) (place : Place) (l : ℕ) (ts : List Token) → front halves (done_in place l) ts ≡ after_do halves place l ts
done_is halves place l ts = and_same (first halves (part (body (l + 1))) ts) _ _ (λ a us. and_same (word_at halves Sort.While us) _ _ (λ t vs. bind halves (condition l) (done place a) vs))

pub by_do : {X : Type 0} (halves : Bool) (l : ℕ) (value : X → Ended) (behind : X → List Token) (result : Result X Failure) {ts rest : List Token} {t : Token} {s : Sort} → (ts ≡ t ∷ rest) × (s ≡ sort_of halves t.what) → s ≡ Sort.Do → l < 256 → Gives value behind result (after_do halves t.place l rest) → Gives value behind result (read_by halves (deeper_rule l) ts)
by_do halves l value behind result {rest = rest} {t = t} e g h x = arm_from halves cannot (deeper_rule l) value behind result Sort.Do e g (free_below l h) refl (subst (λ o. Gives value behind result o) (sym (done_is halves t.place l rest)) x)

-- a block
pub by_nested : {X : Type 0} (halves : Bool) (l : ℕ) (place : Place) (value : X → Ended) (behind : X → List Token) (result : Result X Failure) (ts : List Token) → Gives value behind result (after_nested halves l place ts) → Gives value behind result (front halves (nested_in l >>= λ ns. block_end place ns) ts)
by_nested halves l place value behind result ts x = subst (λ o. Gives value behind result o) (sym (bind halves (nested_in l) (λ ns. block_end place ns) ts)) x

-- a body that isn't a block
pub by_single : {X : Type 0} (halves : Bool) (place : Place) (l : ℕ) (value : X → Ended) (behind : X → List Token) (result : Result X Failure) (ts : List Token) → is_level_free (l + 1) ≡ true → Gives value behind result (and_read (first halves (part (statement (l + 1))) ts) (λ s us. front halves (gives (in_block place s)) us)) → Gives value behind result (read_by halves (single_rule place l) ts)
by_single halves place l value behind result ts e x = through_all_by halves (single_rule place l) (statement (l + 1)) (λ s. gives (in_block place s)) value behind result ts (λ s t. allowed _ _ e) x

-- ---- what stands in a block

-- what was read of a block is what was joined so far
pub record SoFar (halves : Bool) (l : ℕ) (all : List Node) (rest tokens : List Token) : Type 0 where
  pub lists : List (List Node)
  pub same : joined lists ≡ all
  pub read : first halves (many true (block_items l) lists) rest ≡ first halves (many true (block_items l) []) tokens

pub none_so_far : (halves : Bool) (l : ℕ) (all : List Node) (tokens : List Token) → all ≡ [] → SoFar halves l all tokens tokens
none_so_far halves l all tokens e = record { lists = []; same = sym e; read = refl }

pub more_so_far : (halves : Bool) (l : ℕ) {all all' x : List Node} {rest behind tokens : List Token} → SoFar halves l all rest tokens → first halves (option true (block_item l)) rest ≡ Ok (Some x, behind) → all' ≡ all ++ x → SoFar halves l all' behind tokens
more_so_far halves l {x = x} {rest = rest} s e q = record { lists = s.lists ++ (x ∷ []); same = joined_more s.lists x ∙ ap (λ ns. ns ++ x) s.same ∙ sym q; read = sym (many_more halves (block_items l) s.lists rest e) ∙ s.read }

pub all_so_far : (halves : Bool) (l : ℕ) {all : List Node} {rest behind tokens : List Token} → SoFar halves l all rest tokens → first halves (option true (block_item l)) rest ≡ Ok (None, behind) → front halves (items_in l) tokens ≡ Ok (all, behind)
all_so_far halves l {rest = rest} {behind = behind} s e = ap (λ o. and_read o (λ ns us. Ok (joined ns, us))) (sym s.read ∙ many_end halves (block_items l) s.lists rest e) ∙ ap (λ ns. Ok (ns, behind)) s.same

pub fails_so_far : (halves : Bool) (l : ℕ) (e : Failure) {all : List Node} {rest tokens : List Token} → SoFar halves l all rest tokens → Fails e (first halves (option true (block_item l)) rest) → Fails e (front halves (items_in l) tokens)
fails_so_far halves l e {rest = rest} {tokens = tokens} s h = fails_and e (first halves (many true (block_items l) []) tokens) (λ ns us. Ok (joined ns, us)) (fails_by e _ _ s.read (many_fails halves (block_items l) s.lists rest e h))

-- ---- simple statements that a `for` begins with, and labels

pub by_simple : {X : Type 0} (halves : Bool) (l d : ℕ) (value : X → List Node) (behind : X → List Token) (result : Result X Failure) (ts : List Token) → is_level_free (l + 1) ≡ true → Gives value behind result (and_read (first halves (part (simple l d)) ts) (λ n us. front halves (gives (n ∷ [])) us)) → Gives value behind result (read_by halves (opening_simple_rule l d) ts)
by_simple halves l d value behind result ts e x = through_all_by halves (opening_simple_rule l d) (simple l d) (λ n. gives (n ∷ [])) value behind result ts (λ s t. allowed _ _ e) x

pub no_label : (s : Sort) (t : Token) → (s ≡ Sort.Case → ⊥) → (s ≡ Sort.Default → ⊥) → opens (label_rule s t) ≡ false
no_label Sort.Case t a b = absurd (a refl)
no_label Sort.Default t a b = absurd (b refl)
no_label _ t a b = refl
