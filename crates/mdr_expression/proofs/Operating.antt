-- Operators of several precedences, the tightest first.
use Rattle.std.proofs.Common.{◌≡◌, refl, sym, ap, ◌∙◌, arith, ℕ, zero, suc, ◌+◌, ◌-◌, ◌<◌, ◌≤◌, Bool, true, false, ◌&&◌, nat_eq, nat_lt, List, [], ◌∷◌, Ok}
use Rattle.mdr_syntax.specs.declared.token.Token.{Token}
use Rattle.mdr_syntax.specs.declared.tree.Form.{Form}
use Rattle.mdr_grammar.specs.declared.sort.Sort.{Sort}
use Rattle.mdr_grammar.specs.Sorts.{sort_of}
use Rattle.mdr_grammar.specs.Forms.{Right, ◌>>=◌, form}
use Rattle.mdr_grammar.specs.Forms.Nonterminal.{operators}
use Rattle.mdr_grammar.specs.Forms.Rule.{given}
use Rattle.mdr_grammar.specs.Expressions.{may_sink, precedence_of, operators_from, of_precedence, tighter, binary}
use Rattle.mdr_grammar.specs.Front.{Read, and_read, begun_at, first, front}
use Rattle.mdr_grammar.proofs.Fronts.{first_of, first_none}
use Rattle.mdr_reader.proofs.Arms.{read_again}
use Rattle.mdr_reader.proofs.Through.{and_and, and_same, bind}

same : (a b : ℕ) → a ≡ b → nat_eq a b ≡ true
same a b h = grind arith

differs : (a b : ℕ) → (a ≡ b → ⊥) → nat_eq a b ≡ false
differs a b h = grind arith

below : (a b : ℕ) → a < b → nat_lt a b ≡ true
below a b h = grind arith

and_false : (a b : Bool) → a ≡ false → (a && b) ≡ false
and_false true b e = let q : true ≡ false = e in absurd (Prim.cc)
and_false false b e = refl

and_true : (a b : Bool) → a ≡ true → b ≡ true → (a && b) ≡ true
and_true true b e q = q
and_true false b e q = let z : false ≡ true = e in absurd (Prim.cc)

-- a form of which no operator can be the first part
quiet : (halves : Bool) (p l d : ℕ) (f : Form) (t : Token) (ts : List Token) → (precedence_of (sort_of halves t.what) ≡ p → ⊥) → first halves (operators p l d f) (t ∷ ts) ≡ Ok (f, t ∷ ts)
quiet halves p l d f t ts h = first_of halves (operators p l d f) t ts ∙ by_test (nat_eq (precedence_of (sort_of halves t.what)) p && nat_lt p 12) (and_false _ _ (differs _ _ h))
  where
    by_test : (b : Bool) → b ≡ false → begun_at (of_precedence b p l d f t) (λ r. front halves r ts) (Ok (f, t ∷ ts)) ≡ Ok (f, t ∷ ts)
    by_test true e = let q : true ≡ false = e in absurd (Prim.cc)
    by_test false e = refl

high : (halves : Bool) (p l d : ℕ) (f : Form) (ts : List Token) → may_sink l f ≡ false → first halves (operators p l d f) ts ≡ Ok (f, ts)
high halves p l d f [] h = first_none halves (operators p l d f)
high halves p l d f (t ∷ ts) h = first_of halves (operators p l d f) t ts ∙ by_test (nat_eq (precedence_of (sort_of halves t.what)) p && nat_lt p 12)
  where
    by_allowed : (b : Bool) (r : Right Form) → b ≡ false → begun_at (given b r) (λ r. front halves r ts) (Ok (f, t ∷ ts)) ≡ Ok (f, t ∷ ts)
    by_allowed true r q = let z : true ≡ false = q in absurd (Prim.cc)
    by_allowed false r q = refl

    by_test : (b : Bool) → begun_at (of_precedence b p l d f t) (λ r. front halves r ts) (Ok (f, t ∷ ts)) ≡ Ok (f, t ∷ ts)
    by_test true = by_allowed _ _ h
    by_test false = refl

all_quiet : (halves : Bool) (more low l d : ℕ) (f : Form) (ts : List Token) → ((j : ℕ) → j < more → first halves (operators (low + j) l d f) ts ≡ Ok (f, ts)) → front halves (operators_from more low l d f) ts ≡ Ok (f, ts)
all_quiet halves zero low l d f ts h = refl
all_quiet halves (suc m) low l d f ts h = ap (λ o. and_read o (λ g rest. front halves (operators_from m low l d g) rest)) (h m (omega arith)) ∙ all_quiet halves m low l d f ts (λ j q. h j (omega (arith, q)))

pub sunk : (halves : Bool) (more low l d : ℕ) (f : Form) (ts : List Token) → may_sink l f ≡ false → front halves (operators_from more low l d f) ts ≡ Ok (f, ts)
sunk halves more low l d f ts h = all_quiet halves more low l d f ts (λ j q. high halves (low + j) l d f ts h)

pub ended : (halves : Bool) (more low l d : ℕ) (f : Form) (ts : List Token) → ts ≡ [] → front halves (operators_from more low l d f) ts ≡ Ok (f, ts)
ended halves more low l d f ts e = ap (λ us. front halves (operators_from more low l d f) us) e ∙ all_quiet halves more low l d f [] (λ j q. first_none halves (operators (low + j) l d f)) ∙ ap (λ us. Ok (f, us)) (sym e)

-- no operator of these precedences
pub outside : (halves : Bool) (above most l d : ℕ) (f : Form) {ts rest : List Token} {t : Token} {s : Sort} (q : ℕ) → (ts ≡ t ∷ rest) × (s ≡ sort_of halves t.what) → q ≡ precedence_of s → ((above < q) → (q ≤ most) → ⊥) → front halves (operators_from (most - above) (suc above) l d f) ts ≡ Ok (f, ts)
outside halves above most l d f {ts = ts} {rest = rest} {t = t} {s = s} q at e h = ap (λ us. front halves (operators_from (most - above) (suc above) l d f) us) at.0 ∙ all_quiet halves (most - above) (suc above) l d f (t ∷ rest) (λ j k. quiet halves (suc above + j) l d f t rest (λ p. let p' : q ≡ suc above + j = e ∙ ap precedence_of at.1 ∙ p in h (omega (arith, k, p')) (omega (arith, k, p')))) ∙ ap (λ us. Ok (f, us)) (sym at.0)

own : (halves : Bool) (k low l d : ℕ) (f : Form) (t : Token) (ts : List Token) → precedence_of (sort_of halves t.what) ≡ low + k → low + k < 12 → may_sink l f ≡ true → front halves (operators_from (suc k) low l d f) (t ∷ ts) ≡ and_read (front halves (tighter (low + k) (l + 1) d) ts) (λ g rest. front halves (operators_from (suc k) low l d (binary f t g)) rest)
own halves k low l d f t ts e small free =
    ap (λ o. and_read o after) (first_of halves (operators (low + k) l d f) t ts ∙ by_test (nat_eq (precedence_of (sort_of halves t.what)) (low + k) && nat_lt (low + k) 12) (and_true _ _ (same _ _ e) (below _ _ small)) ∙ bind halves (tighter (low + k) (l + 1) d) (λ g. form (operators (low + k) l d (binary f t g))) ts) ∙ and_and (front halves (tighter (low + k) (l + 1) d) ts) (λ g rest. front halves (form (operators (low + k) l d (binary f t g))) rest) after ∙ and_same (front halves (tighter (low + k) (l + 1) d) ts) _ _ (λ g rest. ap (λ o. and_read o after) (read_again (first halves (operators (low + k) l d (binary f t g)) rest)))
  where
    after : Form → List Token → Read Form
    after g rest = front halves (operators_from k low l d g) rest

    by_allowed : (b : Bool) (r : Right Form) → b ≡ true → begun_at (given b r) (λ r. front halves r ts) (Ok (f, t ∷ ts)) ≡ front halves r ts
    by_allowed true r q = refl
    by_allowed false r q = let z : false ≡ true = q in absurd (Prim.cc)

    by_test : (b : Bool) → b ≡ true → begun_at (of_precedence b (low + k) l d f t) (λ r. front halves r ts) (Ok (f, t ∷ ts)) ≡ front halves (tighter (low + k) (l + 1) d >>= λ g. form (operators (low + k) l d (binary f t g))) ts
    by_test true q = by_allowed _ _ free
    by_test false q = let z : false ≡ true = q in absurd (Prim.cc)

core : (extra more : ℕ) (halves : Bool) (k low l d : ℕ) (f : Form) (t : Token) (ts : List Token) → more ≡ suc (extra + k) → precedence_of (sort_of halves t.what) ≡ low + k → low + k < 12 → may_sink l f ≡ true → front halves (operators_from more low l d f) (t ∷ ts) ≡ and_read (front halves (tighter (low + k) (l + 1) d) ts) (λ g rest. front halves (operators_from (suc k) low l d (binary f t g)) rest)
core zero more halves k low l d f t ts e p small free = let e' : more ≡ suc k = omega (arith, e) in ap (λ m. front halves (operators_from m low l d f) (t ∷ ts)) e' ∙ own halves k low l d f t ts p small free
core (suc extra) zero halves k low l d f t ts e p small free = absurd (omega (arith, e))
core (suc extra) (suc m) halves k low l d f t ts e p small free = ap (λ o. and_read o (λ g rest. front halves (operators_from m low l d g) rest)) (quiet halves (low + m) l d f t ts (λ q. absurd (omega (arith, e, p, q)))) ∙ core extra m halves k low l d f t ts (omega (arith, e)) p small free

-- an operator of these precedences
pub operated : (halves : Bool) (above most l d : ℕ) (f : Form) (ts rest : List Token) (t : Token) (q : ℕ) → ts ≡ t ∷ rest → q ≡ precedence_of (sort_of halves t.what) → above < q → q ≤ most → most ≤ 11 → may_sink l f ≡ true → front halves (operators_from (most - above) (suc above) l d f) ts ≡ and_read (front halves (tighter q (l + 1) d) rest) (λ g after. front halves (operators_from (q - above) (suc above) l d (binary f t g)) after)
operated halves above most l d f ts rest t q e p low few small free =
    let k : ℕ = q - suc above in
    let is : suc above + k ≡ q = omega (arith, low) in
    let more : suc k ≡ q - above = omega (arith, low) in
    ap (λ us. front halves (operators_from (most - above) (suc above) l d f) us) e ∙ core (most - q) (most - above) halves k (suc above) l d f t rest (omega (arith, low, few)) (sym p ∙ sym is) (omega (arith, is, few, small)) free ∙ ap (λ x. and_read (front halves (tighter x (l + 1) d) rest) (λ g after. front halves (operators_from (suc k) (suc above) l d (binary f t g)) after)) is ∙ ap (λ x. and_read (front halves (tighter q (l + 1) d) rest) (λ g after. front halves (operators_from x (suc above) l d (binary f t g)) after)) more
