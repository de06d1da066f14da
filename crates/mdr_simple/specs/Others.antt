-- protocol
-- Whether an `else` goes on behind a branch.
use Rattle.std.specs.Prelude.{ℕ, ◌≡◌, Bool, List, Option, Some, None, Ok}
use Rattle.mdr_syntax.specs.declared.token.Token.{Token}
use Rattle.mdr_grammar.specs.Forms.Nonterminal.{otherwise}
use Rattle.mdr_grammar.specs.Front.{first, front}
use Rattle.mdr_grammar.specs.Statements.{body_there}

-- behind an `else` that belongs to the branch before it; or there is none
abbrev pub GoesOn : {X : Type 0} → (halves : Bool) → Bool → (X → List Token) → Option X → List Token → Type 0
GoesOn halves c rest (Some x) ts = (l : ℕ) → first halves (otherwise l c) ts ≡ front halves (body_there l) (rest x)
GoesOn halves c rest None ts = (l : ℕ) → first halves (otherwise l c) ts ≡ Ok (None, ts)
