-- What the functions of expressions owe.
use Rattle.std.proofs.Common.{◌≡◌, refl, sym, subst, ap, ◌∙◌, arith, ℕ, ◌+◌, ◌≤◌, suc, max, map, Bool, true, false, List, [], ◌∷◌, ◌++◌, length, Result, Ok, Err, IfOk}
use Rattle.std.proofs.lemmas.List.{map-append}
use Rattle.mdr_core.specs.declared.place.Place.{Place}
use Rattle.mdr_syntax.specs.declared.token.Token.{Token}
use Rattle.mdr_syntax.specs.declared.tree.Form.{Form}
use Rattle.mdr_reader.specs.declared.failure.Failure.{Failure}
use Rattle.mdr_expression.specs.declared.parts.Part.{Part}
use Rattle.mdr_reader.specs.declared.failure.Failure.TheVariants.{Memory, Fault}
use Rattle.mdr_grammar.specs.declared.sort.Sort.{Sort}
use Rattle.mdr_grammar.specs.Sorts.{is, sort_of}
use Rattle.mdr_grammar.specs.Forms.{Operand, Nonterminal, Value, Right, form, Rule, and_then}
use Rattle.mdr_grammar.specs.Forms.Part.{expression, operand, argument}
use Rattle.mdr_grammar.specs.Forms.Nonterminal.{part, postfix, choice, commas, arguments}
use Rattle.mdr_grammar.specs.Forms.Separated.{arguments_at}
use Rattle.mdr_grammar.specs.Forms.Rule.{never, given}
use Rattle.mdr_grammar.specs.Grammar.{rule, empty}
use Rattle.mdr_grammar.specs.Expressions.{height, highest, is_level_free, may_open, operand_rule, argument_rule, tighter, operators_from, behind_operand}
use Rattle.mdr_grammar.specs.Front.{Read, and_read, word_at, nothing_at, begun_at, first as first_read, front}
use Rattle.mdr_reader.specs.Gives.{Gives, Fails}
use Rattle.mdr_expression.specs.Tails.{IsMeasured, behind_parenthesis, is_before, operator_behind, closed_arguments, listed_arguments}
use Rattle.mdr_grammar.proofs.Hungry.{opens}
use Rattle.mdr_grammar.proofs.Cuts.{word_is}
use Rattle.mdr_reader.proofs.Numbered.{is_same}
use Rattle.mdr_grammar.proofs.Fronts.{first_of, first_none}
use Rattle.mdr_reader.proofs.Arms.{refused, none, past, not_past, read_again}
use Rattle.mdr_reader.proofs.Through.{and_and, and_same, bind, through}

-- ---- one step, and what is left

pub fails_first : {A B : Type 0} (e : Failure) (read : Read B) (o : Read A) (k : A → List Token → Read B) → read ≡ and_read o k → Fails e o → Fails e read
fails_first Memory read o k h f = tt
fails_first (Fault left) read o k h f = h ∙ ap (λ x. and_read x k) f

pub read_on : {A B : Type 0} {read : Read B} {o : Read A} (k : A → List Token → Read B) {x : A} {rest : List Token} → read ≡ and_read o k → o ≡ Ok (x, rest) → read ≡ k x rest
read_on k h e = h ∙ ap (λ o. and_read o k) e

pub gives_same : {X A : Type 0} (value : X → A) (behind : X → List Token) (result : Result X Failure) {read read' : Read A} → read ≡ read' → Gives value behind result read' → Gives value behind result read
gives_same value behind result e x = subst (λ o. Gives value behind result o) (sym e) x

-- a token of the sort is the first, but what it begins isn't allowed
pub past_refused : (halves : Bool) (n : Nonterminal) (s : Sort) (ts : List Token) {rest : List Token} {t : Token} {b : Bool} {r : Right (Value n)} → word_at halves s ts ≡ Ok (t, rest) → b ≡ false → rule n s t ≡ given b r → first_read halves n ts ≡ nothing_at (empty n) ts
past_refused halves n s ts {rest = rest} {t = t} e q h = let w = word_is halves s ts rest t e in refused halves n s (w.0, refl) (is_same s (sort_of halves t.what) w.1) q h

pub below_free : (n : ℕ) → is_level_free n ≡ true → n ≤ 256
below_free n e = grind arith

pub measured_zero : {T : Type 0} (result : Result (Part × T) Failure) (l : ℕ) → l ≤ 256 → IfOk result (λ x. (x.0.height ≡ height x.0.form) × (x.0.height ≡ 0)) → IfOk result (λ x. IsMeasured x.0 l)
measured_zero (Ok x) l q h = (h.0, omega (arith, h.1, q))
measured_zero (Err e) l q h = tt

-- ---- operands

pub starts : {X : Type 0} (halves : Bool) (value : X → Operand) (behind : X → List Token) (result : Result X Failure) (l d : ℕ) (first : Place) (o o' : Operand) (ts : List Token) → o ≡ o' → Gives value behind result (first_read halves (postfix l d first o.form o.alone) ts) → Gives value behind result (front halves (form (postfix l d first o'.form o'.alone)) ts)
starts halves value behind result l d first o o' ts e x = gives_same value behind result (read_again (first_read halves (postfix l d first o'.form o'.alone) ts) ∙ ap (λ (o : Operand). first_read halves (postfix l d first o.form o.alone) ts) (sym e)) x

pub at_parenthesis : (casts : Bool) (l d : ℕ) (t : Token) → rule (part (operand casts l d)) Sort.Open t ≡ given (may_open (d + 1)) (behind_parenthesis casts l d t.place)
at_parenthesis true l d t = refl
at_parenthesis false l d t = refl

pub before : (casts : Bool) (l d : ℕ) (s : Sort) (t : Token) → is_before s ≡ true → rule (part (operand casts l d)) s t ≡ given (is_level_free (l + 1)) (operator_behind false l d t)
before casts l d Sort.Minus t e = refl
before casts l d Sort.Plus t e = refl
before casts l d Sort.And t e = refl
before casts l d Sort.Star t e = refl
before casts l d Sort.Not t e = refl
before casts l d _ t e = let q : false ≡ true = e in absurd (Prim.cc)

pub no_operand : (casts : Bool) (l d : ℕ) (s : Sort) (t : Token) → (s ≡ Sort.Name → ⊥) → (s ≡ Sort.Number → ⊥) → (s ≡ Sort.Null → ⊥) → (s ≡ Sort.Service → ⊥) → (s ≡ Sort.Open → ⊥) → (s ≡ Sort.Step → ⊥) → is_before s ≡ false → opens (operand_rule casts l d s t) ≡ false
no_operand casts l d Sort.Name t h0 h1 h2 h3 h4 h5 e = absurd (h0 refl)
no_operand casts l d Sort.Number t h0 h1 h2 h3 h4 h5 e = absurd (h1 refl)
no_operand casts l d Sort.Null t h0 h1 h2 h3 h4 h5 e = absurd (h2 refl)
no_operand casts l d Sort.Service t h0 h1 h2 h3 h4 h5 e = absurd (h3 refl)
no_operand casts l d Sort.Open t h0 h1 h2 h3 h4 h5 e = absurd (h4 refl)
no_operand casts l d Sort.Step t h0 h1 h2 h3 h4 h5 e = absurd (h5 refl)
no_operand casts l d Sort.Minus t h0 h1 h2 h3 h4 h5 e = let q : true ≡ false = e in absurd (Prim.cc)
no_operand casts l d Sort.Plus t h0 h1 h2 h3 h4 h5 e = let q : true ≡ false = e in absurd (Prim.cc)
no_operand casts l d Sort.And t h0 h1 h2 h3 h4 h5 e = let q : true ≡ false = e in absurd (Prim.cc)
no_operand casts l d Sort.Star t h0 h1 h2 h3 h4 h5 e = let q : true ≡ false = e in absurd (Prim.cc)
no_operand casts l d Sort.Not t h0 h1 h2 h3 h4 h5 e = let q : true ≡ false = e in absurd (Prim.cc)
no_operand casts l d _ t h0 h1 h2 h3 h4 h5 e = refl

-- ---- operators

pub expressed : (halves : Bool) (l d : ℕ) (ts : List Token) → first_read halves (part (expression l d)) ts ≡ and_read (front halves (tighter 1 l d) ts) (λ f rest. first_read halves (choice l d f) rest)
expressed halves l d ts = through halves (part (expression l d)) (part (operand true l d)) (λ x. behind_operand l d x) ts refl refl (λ s t. refl) ∙ and_same (first_read halves (part (operand true l d)) ts) _ _ (λ x rest. bind halves (operators_from 10 2 l d x.form) (λ f. form (choice l d f)) rest ∙ and_same (front halves (operators_from 10 2 l d x.form) rest) _ _ (λ f after. read_again (first_read halves (choice l d f) after))) ∙ sym (and_and (first_read halves (part (operand true l d)) ts) (λ x rest. front halves (operators_from 10 2 l d x.form) rest) (λ f rest. first_read halves (choice l d f) rest))

pub no_choice : (l d : ℕ) (f : Form) (s : Sort) (t : Token) → is Sort.Question s ≡ false → opens (rule (choice l d f) s t) ≡ false
no_choice l d f Sort.Question t e = let q : true ≡ false = e in absurd (Prim.cc)
no_choice l d f _ t e = refl

-- ---- arguments

pub none_listed : (halves : Bool) (l d : ℕ) (ts rest : List Token) (t : Token) → word_at halves Sort.Close ts ≡ Ok (t, rest) → front halves (closed_arguments l d) ts ≡ Ok ([], rest)
none_listed halves l d ts rest t e = let w = word_is halves Sort.Close ts rest t e in ap (λ o. and_read o (λ args after. and_read (word_at halves Sort.Close after) (λ close behind. Ok (args, behind)))) (none halves (arguments l d) (w.0, sym (is_same Sort.Close (sort_of halves t.what) w.1)) refl) ∙ ap (λ o. and_read o (λ (close : Token) behind. Ok ([], behind))) e

abbrev pub listed_on : (halves : Bool) (l d : ℕ) → Form → List Token → Read (List Form)
listed_on halves l d f after = and_read (first_read halves (commas (arguments_at l d) (f ∷ [])) after) (λ args rest. and_read (word_at halves Sort.Close rest) (λ close behind. Ok (args, behind)))

pub some_listed : (halves : Bool) (l d : ℕ) (ts : List Token) → word_at halves Sort.Close ts ≡ Err (length ts) → front halves (closed_arguments l d) ts ≡ front halves (listed_arguments l d) ts
some_listed halves l d [] e = ap (λ o. and_read o (λ args after. and_read (word_at halves Sort.Close after) (λ close behind. Ok (args, behind)))) (first_none halves (arguments l d)) ∙ ap (λ o. and_read o (λ (close : Token) behind. Ok ([], behind))) e ∙ sym (ap (λ o. and_read o (λ f after. listed_on halves l d f after)) (first_none halves (part (argument l d))))
some_listed halves l d (t ∷ ts) e = ap (λ o. and_read o close_behind) (first_of halves (arguments l d) t ts) ∙ by_rule (argument_rule l d (sort_of halves t.what) t) ∙ sym (ap (λ o. and_read o (λ f after. listed_on halves l d f after)) (first_of halves (part (argument l d)) t ts))
  where
    close_behind : List Form → List Token → Read (List Form)
    close_behind args after = and_read (word_at halves Sort.Close after) (λ close behind. Ok (args, behind))

    next : Form → Right (List Form)
    next f = form (commas (arguments_at l d) (f ∷ []))

    by_rule : (o : Rule Form) → and_read (begun_at (and_then o next) (λ r. front halves r ts) (Ok ([], t ∷ ts))) close_behind ≡ and_read (begun_at o (λ r. front halves r ts) (Err (length (t ∷ ts)))) (λ f after. listed_on halves l d f after)
    by_rule never = ap (λ o. and_read o (λ (close : Token) behind. Ok ([], behind))) e
    by_rule (given true r) = ap (λ o. and_read o close_behind) (bind halves r next ts) ∙ and_and (front halves r ts) (λ f after. front halves (next f) after) close_behind ∙ and_same (front halves r ts) _ _ (λ f after. ap (λ o. and_read o close_behind) (read_again (first_read halves (commas (arguments_at l d) (f ∷ [])) after)))
    by_rule (given false r) = ap (λ o. and_read o (λ (close : Token) behind. Ok ([], behind))) e

pub further : (halves : Bool) (ts rest : List Token) (t : Token) → word_at halves Sort.Comma ts ≡ Ok (t, rest) → (l d : ℕ) (so_far : List Form) → first_read halves (commas (arguments_at l d) so_far) ts ≡ and_read (first_read halves (part (argument l d)) rest) (λ f after. first_read halves (commas (arguments_at l d) (so_far ++ (f ∷ []))) after)
further halves ts rest t e l d so_far = past halves (commas (arguments_at l d) so_far) Sort.Comma ts e refl refl ∙ and_same (first_read halves (part (argument l d)) rest) _ _ (λ f after. read_again (first_read halves (commas (arguments_at l d) (so_far ++ (f ∷ []))) after))

no_comma : (l d : ℕ) (so_far : List Form) (s : Sort) (t : Token) → is Sort.Comma s ≡ false → opens (rule (commas (arguments_at l d) so_far) s t) ≡ false
no_comma l d so_far Sort.Comma t e = let q : true ≡ false = e in absurd (Prim.cc)
no_comma l d so_far _ t e = refl

pub no_further : (halves : Bool) (ts : List Token) → word_at halves Sort.Comma ts ≡ Err (length ts) → (l d : ℕ) (so_far : List Form) → first_read halves (commas (arguments_at l d) so_far) ts ≡ Ok (so_far, ts)
no_further halves ts e l d so_far = not_past halves (commas (arguments_at l d) so_far) Sort.Comma ts e (no_comma l d so_far)

-- one argument more
more_high : (hs : List ℕ) (h : ℕ) → highest (hs ++ (h ∷ [])) ≡ max (highest hs) (suc h)
more_high [] h = omega arith
more_high (x ∷ hs) h = ap (λ n. max (suc x) n) (more_high hs h) ∙ omega arith

pub one_higher : (forms more : List Form) (f : Form) (n h m : ℕ) → more ≡ forms ++ (f ∷ []) → h ≡ height f → n ≡ highest (map height forms) → m ≡ max n (h + 1) → (m ≡ highest (map height more)) × (m ≡ max n (suc h))
one_higher forms more f n h m e a b q =
    let is : m ≡ max n (suc h) = q ∙ ap (λ x. max n x) (omega arith) in
    (is ∙ ap (λ x. max x (suc h)) b ∙ ap (λ x. max (highest (map height forms)) (suc x)) a ∙ sym (more_high (map height forms) (height f)) ∙ ap highest (sym (map-append height forms (f ∷ []))) ∙ ap (λ xs. highest (map height xs)) (sym e), is)
