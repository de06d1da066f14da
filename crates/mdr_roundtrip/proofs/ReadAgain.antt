-- Expressions and initialisers that were read are read again.
use Rattle.std.proofs.Common.{◌≡◌, arith, ℕ, ◌+◌, ◌≤◌, Bool, true, List}
use Rattle.mdr_syntax.specs.declared.token.Token.{Token}
use Rattle.mdr_syntax.specs.declared.tree.Form.{Form}
use Rattle.mdr_syntax.specs.declared.tree.Init.{Init}
use Rattle.mdr_print.specs.Marks.{Mark}
use Rattle.mdr_print.specs.Spelled.{lexemes}
use Rattle.mdr_print.specs.Declarations.{init}
use Rattle.mdr_print.specs.Forms.{form}
use Rattle.mdr_grammar.specs.Forms.Part.{expression, initialiser}
use Rattle.mdr_grammar.specs.Forms.Nonterminal.{part}
use Rattle.mdr_grammar.specs.Expressions.{height}
use Rattle.mdr_grammar.specs.Grammar.{Gets}
use Rattle.mdr_roundtrip.specs.Lexed.{are_lexed}
use Rattle.mdr_roundtrip.specs.Initialised.{unplaced_init}
use Rattle.mdr_roundtrip.specs.Unplaced.{all_at, unplaced_form}
use Rattle.mdr_roundtrip.proofs.RereadExpressions.{expressions_reread}
use Rattle.mdr_roundtrip.proofs.RereadInits.{inits_reread}
use Rattle.mdr_roundtrip.proofs.ShapingForms.{expressions_are_shaped}
use Rattle.mdr_roundtrip.proofs.ShapingInits.{inits_are_shaped}

pub expressions_again : (halves : Bool) (l d e : ℕ) (tokens rest : List Token) (f : Form) (behind : List Mark) → l ≤ 256 → e ≤ 256 → are_lexed tokens ≡ true → Gets halves (part (expression l d)) tokens rest f → Gets halves (part (expression l e)) (all_at (lexemes (form f behind))) (all_at (lexemes behind)) (unplaced_form f)
expressions_again halves l d e tokens rest f behind low few a g =
    let k = expressions_are_shaped halves l d tokens rest f low a g in
    let high : l + height f ≤ 256 = k.1 in
    expressions_reread halves f l e behind k.0 high (omega (arith, high, few))

pub inits_again : (halves : Bool) (braces : ℕ) (tokens rest : List Token) (i : Init) (behind : List Mark) → are_lexed tokens ≡ true → Gets halves (part (initialiser braces)) tokens rest i → Gets halves (part (initialiser braces)) (all_at (lexemes (init i behind))) (all_at (lexemes behind)) (unplaced_init i)
inits_again halves braces tokens rest i behind a g = inits_reread halves i braces behind (inits_are_shaped halves braces tokens rest i a g)
