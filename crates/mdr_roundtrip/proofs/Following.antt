-- What is read, put together.
use Rattle.std.proofs.Common.{◌≡◌, refl, sym, subst, ◌∙◌, arith, ℕ, zero, suc, ◌+◌, ◌<◌, ◌≤◌, Bool, true, false, List, ◌∷◌}
use Rattle.std.specs.Prelude.{nat_lt}
use Rattle.std.proofs.lemmas.Bool.{le-leb}
use Rattle.mdr_syntax.specs.declared.token.Token.{Token}
use Rattle.mdr_syntax.specs.declared.tree.Form.{Form}
use Rattle.mdr_grammar.specs.declared.sort.Sort.{Sort}
use Rattle.mdr_grammar.specs.Forms.{Nonterminal, Value, Right, ◌>>=◌, Empty}
use Rattle.mdr_grammar.specs.Forms.Nonterminal.{part, operators}
use Rattle.mdr_grammar.specs.Forms.Part.{expression, argument}
use Rattle.mdr_grammar.specs.Forms.Rule.{given}
use Rattle.mdr_grammar.specs.Forms.Empty.{cannot, may}
use Rattle.mdr_grammar.specs.Expressions.{is_level_free, may_open, operators_from}
use Rattle.mdr_grammar.specs.Grammar.{rule, empty, Gets, Follows}
use Rattle.mdr_grammar.specs.Grammar.Gets.{absent, present}
use Rattle.mdr_grammar.specs.Grammar.Follows.{done, word, both}

pub follow_then : (halves : Bool) {n m : Nonterminal} {r : Right (Value n)} {ts mid rest : List Token} {x : Value n} {v : Value m} (k : Value n → Right (Value m)) → Follows halves n r ts mid x → Follows halves m (k x) mid rest v → Follows halves m (r >>= k) ts rest v
follow_then halves k done d = d
follow_then halves k (word i f) d = word i (follow_then halves k f d)
follow_then halves k (both a f) d = both a (follow_then halves k f d)

never_empty : {A : Type 0} {B : Type 0} {v : A} {o : Empty A} → o ≡ cannot → o ≡ may true v → B
never_empty {A = A} {v = v} c e = let q : ◌≡◌ {A = Empty A} cannot (may true v) = sym c ∙ e in absurd (Prim.cc)

-- a form that begins with another one
pub through : (halves : Bool) {n m : Nonterminal} {ts mid rest : List Token} {x : Value n} {v : Value m} (k : Value n → Right (Value m)) → empty n ≡ cannot → ((s : Sort) (t : Token) (r : Right (Value n)) → rule n s t ≡ given true r → rule m s t ≡ given true (r >>= k)) → Gets halves n ts mid x → Follows halves m (k x) mid rest v → Gets halves m ts rest v
through halves k c q (absent e) d = never_empty c e
through halves k c q (present {r = r} {t = t} e f) d = present (q _ t r e) (follow_then halves k f d)

-- the same, where it matters which token is the first
pub through_first : (halves : Bool) {n m : Nonterminal} {ts mid rest : List Token} {x : Value n} {v : Value m} (k : Value n → Right (Value m)) → empty n ≡ cannot → ((s : Sort) (t : Token) (us : List Token) (r : Right (Value n)) → ts ≡ t ∷ us → rule n s t ≡ given true r → rule m s t ≡ given true (r >>= k)) → Gets halves n ts mid x → Follows halves m (k x) mid rest v → Gets halves m ts rest v
through_first halves k c q (absent e) d = never_empty c e
through_first halves k c q (present {r = r} {t = t} {ts = us} e f) d = present (q _ t us r refl e) (follow_then halves k f d)

pub as_argument : (halves : Bool) (l d : ℕ) {r : Right Form} {ts rest : List Token} {v : Form} → Follows halves (part (expression l d)) r ts rest v → Follows halves (part (argument l d)) r ts rest v
as_argument halves l d done = done
as_argument halves l d (word i f) = word i (as_argument halves l d f)
as_argument halves l d (both a f) = both a (as_argument halves l d f)

-- ---- bounds

pub free : (n : ℕ) → n ≤ 256 → is_level_free n ≡ true
free n h = le-leb n 256 h

pub opens_there : (n : ℕ) → n ≤ 512 → may_open n ≡ true
opens_there n h = le-leb n 512 h

-- ---- operators

-- none of these
pub no_more : (halves : Bool) {n : Nonterminal} {ts rest : List Token} {v : Value n} (k : Form → Right (Value n)) (more low l d : ℕ) (f : Form) → Follows halves n (k f) ts rest v → Follows halves n (operators_from more low l d f >>= k) ts rest v
no_more halves k zero low l d f x = x
no_more halves k (suc more) low l d f x = both (absent refl) (no_more halves k more low l d f x)

-- one of them, and no other
pub at_operator : (halves : Bool) {n : Nonterminal} {ts mid rest : List Token} {v : Value n} {g : Form} (k : Form → Right (Value n)) (more low p l d : ℕ) (f : Form) → low ≤ p → p < low + more → Gets halves (operators p l d f) ts mid g → Follows halves n (k g) mid rest v → Follows halves n (operators_from more low l d f >>= k) ts rest v
at_operator halves k zero low p l d f a b x y = absurd (omega (arith, a, b))
at_operator halves {n = n} {ts = ts} {mid = mid} {rest = rest} {v = v} {g = g} k (suc more) low p l d f a b x y = on (nat_lt p (low + more)) refl (λ c. at_operator halves k more low p l d f a c x y)
  where
    below : nat_lt p (low + more) ≡ true → p < low + more
    below e = grind arith

    same : nat_lt p (low + more) ≡ false → p ≡ low + more
    same e = let c : low + more ≤ p = grind arith in omega (arith, b, c)

    on : (t : Bool) → nat_lt p (low + more) ≡ t → (p < low + more → Follows halves n (operators_from more low l d f >>= k) ts rest v) → Follows halves n (operators_from (suc more) low l d f >>= k) ts rest v
    on true e later = both (absent refl) (later (below e))
    on false e later = both (subst (λ (q : ℕ). Gets halves (operators q l d f) ts mid g) (same e) x) (no_more halves k more low l d g y)
