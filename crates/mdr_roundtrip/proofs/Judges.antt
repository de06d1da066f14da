-- What is known of all values that are given, by a judge of tokens, nonterminals and values.
use Rattle.std.proofs.Common.{◌≡◌, refl, subst, Bool, true, List}
use Rattle.mdr_syntax.specs.declared.token.Lexeme.{Lexeme}
use Rattle.mdr_syntax.specs.declared.token.Token.{Token}
use Rattle.mdr_roundtrip.proofs.Tests.{both}
use Rattle.mdr_grammar.specs.declared.sort.Sort.{Sort}
use Rattle.mdr_grammar.specs.Sorts.{is, sort_of}
use Rattle.mdr_grammar.specs.Forms.{Nonterminal, Value, Right, ◌>>=◌, Rule, and_then, or_else, where_allowed, Empty}
use Rattle.mdr_grammar.specs.Forms.Right.{gives, takes, then}
use Rattle.mdr_grammar.specs.Forms.Rule.{never, given}
use Rattle.mdr_grammar.specs.Forms.Empty.{cannot, may}
use Rattle.mdr_grammar.specs.Grammar.{rule, empty, Gets, Follows}
use Rattle.mdr_grammar.specs.Grammar.Gets.{absent, present}
use Rattle.mdr_grammar.specs.Grammar.Follows.{done, word, both as parts}
use Rattle.mdr_roundtrip.specs.Lexed.{is_lexed, are_lexed}

-- what is told of a token inside a production, of a value that is given, and of what a nonterminal is given
pub record Judge : Type 0 where
  pub told : Sort → Lexeme → Bool
  pub good : (n : Nonterminal) → Value n → Bool
  pub fits : Nonterminal → Bool

-- what a right side gives is such, whatever its parts give
abbrev pub SoundBy : {A : Type 0} → Judge → Right A → (A → Bool) → Type 0
SoundBy j (gives v) p = p v ≡ true
SoundBy j (takes s r) p = (t : Token) → j.told s t.what ≡ true → SoundBy j (r t) p
SoundBy j (then n k) p = (j.fits n ≡ true) × ((v : Value n) → j.good n v ≡ true → SoundBy j (k v) p)

-- where its test holds
abbrev pub SoundRuleBy : {A : Type 0} → Judge → Rule A → (A → Bool) → Type 0
SoundRuleBy j never p = Unit {0}
SoundRuleBy j (given allowed r) p = allowed ≡ true → SoundBy j r p

abbrev pub SoundEmpty : {A : Type 0} → Empty A → (A → Bool) → Type 0
SoundEmpty cannot p = Unit {0}
SoundEmpty (may allowed v) p = allowed ≡ true → p v ≡ true

pub then_by : (j : Judge) {A B : Type 0} (r : Right A) (k : A → Right B) (p : A → Bool) (q : B → Bool) → SoundBy j r p → ((v : A) → p v ≡ true → SoundBy j (k v) q) → SoundBy j (r >>= k) q
then_by j (gives v) k p q x y = y v x
then_by j (takes s r) k p q x y = λ t h. then_by j (r t) k p q (x t h) y
then_by j (then n r) k p q (f, x) y = (f, λ v h. then_by j (r v) k p q (x v h) y)

-- what gives more gives less
pub less_by : (j : Judge) {A : Type 0} (r : Right A) (p q : A → Bool) → ((v : A) → p v ≡ true → q v ≡ true) → SoundBy j r p → SoundBy j r q
less_by j (gives v) p q f x = f v x
less_by j (takes s r) p q f x = λ t h. less_by j (r t) p q f (x t h)
less_by j (then n r) p q f (g, x) = (g, λ v h. less_by j (r v) p q f (x v h))

pub less_rule : (j : Judge) {A : Type 0} (r : Rule A) (p q : A → Bool) → ((v : A) → p v ≡ true → q v ≡ true) → SoundRuleBy j r p → SoundRuleBy j r q
less_rule j never p q f x = tt
less_rule j (given allowed r) p q f x = λ a. less_by j r p q f (x a)

pub and_by : (j : Judge) {A B : Type 0} (r : Rule A) (k : A → Right B) (p : A → Bool) (q : B → Bool) → SoundRuleBy j r p → ((v : A) → p v ≡ true → SoundBy j (k v) q) → SoundRuleBy j (and_then r k) q
and_by j never k p q x y = tt
and_by j (given allowed r) k p q x y = λ a. then_by j r k p q (x a) y

pub or_by : (j : Judge) {A : Type 0} (r r' : Rule A) (p : A → Bool) → SoundRuleBy j r p → SoundRuleBy j r' p → SoundRuleBy j (or_else r r') p
or_by j never r' p x y = y
or_by j (given allowed r) r' p x y = x

pub where_by : (j : Judge) {A : Type 0} (b : Bool) (r : Rule A) (p : A → Bool) → (b ≡ true → SoundRuleBy j r p) → SoundRuleBy j (where_allowed b r) p
where_by j b never p x = tt
where_by j b (given allowed r) p x = λ a. let k = both b allowed a in x k.0 k.1

-- a judge that every rule keeps to
pub record IsJudge (j : Judge) (halves : Bool) : Type 0 where
  pub rules : (n : Nonterminal) (t : Token) → j.fits n ≡ true → is_lexed t.what ≡ true → SoundRuleBy j (rule n (sort_of halves t.what) t) (j.good n)
  pub nothing : (n : Nonterminal) → j.fits n ≡ true → SoundEmpty (empty n) (j.good n)
  pub inside : (s : Sort) (x : Lexeme) → is s (sort_of halves x) ≡ true → is_lexed x ≡ true → j.told s x ≡ true

-- what is given is such, and the tokens that are left are the lexer's
abbrev pub Given : Judge → (n : Nonterminal) → Value n → List Token → Type 0
Given j n v rest = (j.good n v ≡ true) × (are_lexed rest ≡ true)

mutual
  pub given_by : (j : Judge) (halves : Bool) → IsJudge j halves → {n : Nonterminal} {ts rest : List Token} {v : Value n} → Gets halves n ts rest v → j.fits n ≡ true → are_lexed ts ≡ true → Given j n v rest
  given_by j halves i {n = n} (absent e) f a = (subst (λ o. SoundEmpty o (j.good n)) e (i.nothing n f) refl, a)
  given_by j halves i {n = n} (present {t = t} {ts = ts} e d) f a =
      let k = both (is_lexed t.what) (are_lexed ts) a in
      left_by j halves i d (subst (λ r. SoundRuleBy j r (j.good n)) e (i.rules n t f k.0) refl) k.1

  left_by : (j : Judge) (halves : Bool) → IsJudge j halves → {n : Nonterminal} {r : Right (Value n)} {ts rest : List Token} {v : Value n} → Follows halves n r ts rest v → SoundBy j r (j.good n) → are_lexed ts ≡ true → Given j n v rest
  left_by j halves i done x a = (x, a)
  left_by j halves i (word {s = s} {t = t} {ts = ts} q d) x a =
      let k = both (is_lexed t.what) (are_lexed ts) a in
      left_by j halves i d (x t (i.inside s t.what q k.0)) k.1
  left_by j halves i (parts {x = v} g d) x a = let h = given_by j halves i g x.0 a in left_by j halves i d (x.1 v h.0) h.1
