-- protocol
-- What a function returned is what is read at the front of the tokens, unless memory ran out.
use Rattle.std.specs.Prelude.{ℕ, Bool, false, nat_eq, true, length, ◌≡◌, List, Option, Some, None, [], ◌∷◌, Result, Ok, Err}
use Rattle.mdr_core.specs.Layout.{chosen}
use Rattle.mdr_syntax.specs.declared.token.Token.{Token}
use Rattle.mdr_reader.specs.declared.failure.Failure.{Failure}
use Rattle.mdr_reader.specs.declared.failure.Failure.TheVariants.{Memory, Fault}
use Rattle.mdr_reader.specs.declared.failure.Refused.{Refused}
use Rattle.mdr_grammar.specs.declared.sort.Sort.{Sort}
use Rattle.mdr_grammar.specs.Sorts.{sort_of}
use Rattle.mdr_grammar.specs.Forms.{Right, Rule, Empty}
use Rattle.mdr_grammar.specs.Forms.Empty.{cannot}
use Rattle.mdr_grammar.specs.Forms.Rule.{never, given}
use Rattle.mdr_grammar.specs.Front.{Read, word_at, nothing_at, begun_at, front}

abbrev pub Fails : {A : Type 0} → Failure → Read A → Type 0
Fails Memory read = Unit {0}
Fails (Fault left) read = read ≡ Err left

abbrev pub Gives : {X A : Type 0} → (X → A) → (X → List Token) → Result X Failure → Read A → Type 0
Gives value rest (Ok x) read = read ≡ Ok (value x, rest x)
Gives value rest (Err e) read = Fails e read

-- the same where nothing asks for memory
abbrev pub Tells : {X A : Type 0} → (X → A) → (X → List Token) → Result X Refused → Read A → Type 0
Tells value rest (Ok x) read = read ≡ Ok (value x, rest x)
Tells value rest (Err e) read = read ≡ Err e.left

-- the first token, its sort, and those behind it
abbrev pub Splits : {X : Type 0} → (halves : Bool) → (X → Sort) → (X → Token) → (X → List Token) → Option X → List Token → Type 0
Splits halves sort token rest None ts = ts ≡ []
Splits halves sort token rest (Some x) ts = (ts ≡ token x ∷ rest x) × (sort x ≡ sort_of halves (token x).what)

-- what stands behind a first token of the sort
abbrev pub Past : {X : Type 0} → (halves : Bool) → Sort → (X → Token) → (X → List Token) → Option X → List Token → Type 0
Past halves sort token rest (Some x) ts = word_at halves sort ts ≡ Ok (token x, rest x)
Past halves sort token rest None ts = word_at halves sort ts ≡ Err (length ts)

-- where a token begins something, what holds of what follows
abbrev pub Behind : {A : Type 0} → Rule A → (Right A → Type 0) → Type 0
Behind never P = Unit {0}
Behind (given allowed r) P = P r

-- what a rule reads at the front of the tokens, or what is given where none begins
abbrev pub read_from : {A : Type 0} → Empty A → Bool → (Sort → Token → Rule A) → List Token → Read A
read_from o halves r [] = nothing_at o []
read_from o halves r (t ∷ ts) = begun_at (r (sort_of halves t.what) t) (λ x. front halves x ts) (nothing_at o (t ∷ ts))

abbrev pub read_by : {A : Type 0} → Bool → (Sort → Token → Rule A) → List Token → Read A
read_by halves r ts = read_from cannot halves r ts

-- a rule behind stars
abbrev pub after_stars : {A : Type 0} → (Sort → Token → Rule A) → Sort → Token → Rule A
after_stars r Sort.Star t = never
after_stars r s t = r s t

-- whether nothing was read of so many tokens
abbrev pub is_at : Failure → ℕ → Bool
is_at Memory n = false
is_at (Fault left) n = nat_eq left n

-- what was read, or nothing where the first token begins nothing
abbrev pub perhaps : {A : Type 0} → Read A → List Token → Read (Option A)
perhaps (Ok x) ts = Ok (Some x.0, x.1)
perhaps (Err left) ts = chosen (nat_eq left (length ts)) (Ok (None, ts)) (Err left)
