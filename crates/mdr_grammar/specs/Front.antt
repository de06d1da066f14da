-- protocol
-- What a nonterminal, or a right side, reads at the front of a list of tokens; or how many tokens are left at the fault.
use Rattle.std.specs.Prelude.{ℕ, zero, suc, Bool, true, false, List, [], ◌∷◌, length, Result, Ok, Err}
use Rattle.mdr_syntax.specs.declared.token.Token.{Token}
use Rattle.mdr_grammar.specs.Sorts.{Sort, is, sort_of}
use Rattle.mdr_grammar.specs.Forms.{Nonterminal, Value, Right, Rule, Empty}
use Rattle.mdr_grammar.specs.Forms.Right.{gives, takes, then}
use Rattle.mdr_grammar.specs.Forms.Rule.{never, given}
use Rattle.mdr_grammar.specs.Forms.Empty.{cannot, may}
use Rattle.mdr_grammar.specs.Grammar.{rule, empty}

abbrev pub Read : Type 0 → Type 0
Read A = Result (A × List Token) ℕ

abbrev pub and_read : {A B : Type 0} → Read A → (A → List Token → Result B ℕ) → Result B ℕ
and_read (Ok x) f = f x.0 x.1
and_read (Err left) f = Err left

abbrev pub found : Bool → Token → List Token → Read Token
found true t ts = Ok (t, ts)
found false t ts = Err (suc (length ts))

unfoldable pub word_at : Bool → Sort → List Token → Read Token
word_at halves s [] = Err 0
word_at halves s (t ∷ ts) = found (is s (sort_of halves t.what)) t ts

abbrev pub front_by : {A : Type 0} → (reads : (n : Nonterminal) → List Token → Read (Value n)) → Bool → Right A → List Token → Read A
front_by reads halves (gives v) ts = Ok (v, ts)
front_by reads halves (takes s r) ts = and_read (word_at halves s ts) (λ t rest. front_by reads halves (r t) rest)
front_by reads halves (then n k) ts = and_read (reads n ts) (λ v rest. front_by reads halves (k v) rest)

abbrev pub nothing_at : {A : Type 0} → Empty A → List Token → Read A
nothing_at cannot ts = Err (length ts)
nothing_at (may true v) ts = Ok (v, ts)
nothing_at (may false v) ts = Err (length ts)

abbrev pub begun_at : {A : Type 0} → Rule A → (Right A → Read A) → Read A → Read A
begun_at never f other = other
begun_at (given true r) f other = f r
begun_at (given false r) f other = other

abbrev pub first_within : (most : ℕ) → Bool → (n : Nonterminal) → List Token → Read (Value n)
first_within zero halves n ts = Err 0
first_within (suc most) halves n [] = nothing_at (empty n) []
first_within (suc most) halves n (t ∷ ts) = begun_at (rule n (sort_of halves t.what) t) (λ r. front_by (λ m us. first_within most halves m us) halves r ts) (nothing_at (empty n) (t ∷ ts))

-- each nonterminal that begins takes a token
unfoldable pub first : Bool → (n : Nonterminal) → List Token → Read (Value n)
first halves n ts = first_within (suc (length ts)) halves n ts

abbrev pub front : {A : Type 0} → Bool → Right A → List Token → Read A
front halves r ts = front_by (λ n us. first halves n us) halves r ts
