-- The rules of expressions keep to what may follow.
use Rattle.std.proofs.Common.{◌≡◌, refl, ap, arith, ℕ, zero, suc, ◌+◌, ◌-◌, ◌≤◌, ◌<◌, nat_le, nat_lt, nat_eq, Bool, true, false, not, ◌&&◌, ◌||◌, Option, Some, None}
use Rattle.mdr_core.specs.declared.place.Place.{Place}
use Rattle.mdr_syntax.specs.declared.token.Token.{Token}
use Rattle.mdr_syntax.specs.declared.tree.Form.{Form}
use Rattle.mdr_grammar.specs.Sorts.{Sort, is_level}
use Rattle.mdr_grammar.specs.Forms.{Operand, Right, ◌>>=◌, form}
use Rattle.mdr_grammar.specs.Forms.Part.{operand, argument, base}
use Rattle.mdr_grammar.specs.Forms.Nonterminal.{part, postfix, operators, choice, opened, arguments, stars, text_behind, text_after, unsigned_word}
use Rattle.mdr_grammar.proofs.Hungry.{opens, Hungry, avoids, Clear, Fine, FineRule}
use Rattle.mdr_grammar.proofs.Bools.{and_both, and_right, implied, implied_true, or_false}
use Rattle.mdr_grammar.proofs.Every.{every_sort}
use Rattle.mdr_grammar.proofs.Binding.{clear, fine_and, fine_or, fine_where, fine_more}
use Rattle.std.proofs.lemmas.Bool.{leb-true, le-leb}
use Rattle.mdr_grammar.specs.Expressions.{precedence_of, base_rule, unsigned_word_rule, stars_rule, operand_rule, parentheses, postfix_rule, operators_from, tighter, of_precedence, operators_rule, choice_rule, behind_operand, expression_rule, cast_rule, opened_rule, kept, word_argument, type_argument, argument_rule, text_after_rule, text_behind_rule, arguments_rule, binary, text_of}

pub fine_unsigned : (s : Sort) (t : Token) → FineRule (unsigned_word_rule s t) (Hungry unsigned_word)
fine_unsigned Sort.Char t = tt
fine_unsigned Sort.Short t = tt
fine_unsigned Sort.Int t = tt
fine_unsigned Sort.Long t = tt
fine_unsigned _ t = tt

pub fine_base : (s : Sort) (t : Token) → FineRule (base_rule s t) (Hungry (part base))
fine_base Sort.Signed t = (refl, λ c. tt)
fine_base Sort.Unsigned t = λ b. (clear (λ t'. refl), tt)
fine_base Sort.Struct t = (refl, λ n. tt)
fine_base _ t = tt

pub fine_stars : (k : ℕ) (s : Sort) (t : Token) → FineRule (stars_rule k s t) (Hungry (stars k))
fine_stars k Sort.Star t = λ v. (clear (λ t'. refl), tt)
fine_stars k _ t = tt

fine_parentheses : (casts : Bool) (l d : ℕ) (t : Token) → FineRule (parentheses casts l d t) (Hungry (part (operand casts l d)))
fine_parentheses true l d t = λ v. (clear (λ t'. refl), tt)
fine_parentheses false l d t = λ f. (clear (λ t'. refl), (refl, λ c. λ v. (clear (λ t'. refl), tt)))

pub fine_operand : (casts : Bool) (l d : ℕ) (s : Sort) (t : Token) → FineRule (operand_rule casts l d s t) (Hungry (part (operand casts l d)))
fine_operand casts l d Sort.Name t = λ v. (clear (λ t'. refl), tt)
fine_operand casts l d Sort.Number t = λ v. (clear (λ t'. refl), tt)
fine_operand casts l d Sort.Null t = λ v. (clear (λ t'. refl), tt)
fine_operand casts l d Sort.Service t = (refl, λ o. λ args. (clear (λ t'. refl), (refl, λ c. λ v. (clear (λ t'. refl), tt))))
fine_operand casts l d Sort.Open t = fine_parentheses casts l d t
fine_operand casts l d Sort.Minus t = λ x. (clear (λ t'. refl), tt)
fine_operand casts l d Sort.Plus t = λ x. (clear (λ t'. refl), tt)
fine_operand casts l d Sort.And t = λ x. (clear (λ t'. refl), tt)
fine_operand casts l d Sort.Star t = λ x. (clear (λ t'. refl), tt)
fine_operand casts l d Sort.Not t = λ x. (clear (λ t'. refl), tt)
fine_operand casts l d Sort.Step t = λ x. (clear (λ t'. refl), tt)
fine_operand casts l d _ t = tt

pub fine_postfix : (l d : ℕ) (first : Place) (f : Form) (alone : Bool) (s : Sort) (t : Token) → FineRule (postfix_rule l d first f s t) (Hungry (postfix l d first f alone))
fine_postfix l d first f alone Sort.OpenBracket t = λ i. (clear (λ t'. refl), (refl, λ c. λ v. (clear (λ t'. refl), tt)))
fine_postfix l d first f alone Sort.Dot t = (refl, λ n. λ v. (clear (λ t'. refl), tt))
fine_postfix l d first f alone Sort.Arrow t = (refl, λ n. λ v. (clear (λ t'. refl), tt))
fine_postfix l d first f alone Sort.Open t = λ args. (clear (λ t'. refl), (refl, λ c. λ v. (clear (λ t'. refl), tt)))
fine_postfix l d first f alone Sort.Step t = λ v. (clear (λ t'. refl), tt)
fine_postfix l d first f alone _ t = tt

-- ---- operators

other_number : (a p : ℕ) → p < a → nat_eq a p ≡ false
other_number a p h = grind arith

none_given : (b : Bool) (l d p : ℕ) (f : Form) (t : Token) → b ≡ false → opens (of_precedence b p l d f t) ≡ false
none_given true l d p f t e = e
none_given false l d p f t e = refl

both_false : (a b : Bool) → a ≡ false → a && b ≡ false
both_false true b e = let q : true ≡ false = e in absurd (Prim.cc)
both_false false b e = refl

other_precedence : (l d p : ℕ) (f : Form) (s : Sort) (t : Token) → p < precedence_of s → opens (operators_rule p l d f s t) ≡ false
other_precedence l d p f s t h = none_given (nat_eq (precedence_of s) p && nat_lt p 12) l d p f t (both_false (nat_eq (precedence_of s) p) (nat_lt p 12) (other_number (precedence_of s) p h))

-- what binds more tightly than a chain of operators can't follow it
avoids_chain : {B : Type 0} (more low l d : ℕ) (g : Form) (k : Form → Right B) (G : B → Sort → Token → Bool) (s : Sort) (t : Token) → ((v : Form) → low ≤ precedence_of s → avoids (k v) G s t ≡ true) → low + more ≤ precedence_of s → avoids (operators_from more low l d g >>= k) G s t ≡ true
avoids_chain zero low l d g k G s t y h = y g (omega (arith, h))
avoids_chain (suc more) low l d g k G s t y h = and_both _ _ (ap not (other_precedence l d (low + more) g s t (omega (arith, h)))) (avoids_chain more low l d g k G s t y (omega (arith, h)))

fine_chain : {B : Type 0} (more low l d : ℕ) (g : Form) (k : Form → Right B) (G : B → Sort → Token → Bool) → ((v : Form) (s : Sort) (t : Token) → low ≤ precedence_of s → avoids (k v) G s t ≡ true) → ((v : Form) → Fine (k v) G) → Fine (operators_from more low l d g >>= k) G
fine_chain zero low l d g k G y z = z g
fine_chain (suc more) low l d g k G y z = λ v. (record { at = λ s t h. avoids_chain more low l d v k G s t (λ w. y w s t) (leb-true _ _ h) }, fine_chain more low l d v k G y z)

-- one operator more: the operand binds more tightly, and behind it come operators of the same precedence
fine_tighter : (p l l' d : ℕ) (f : Form) (t : Token) → p < 12 → Fine (tighter p l' d >>= λ g. form (operators p l d (binary f t g))) (Hungry (operators p l d f))
fine_tighter p l l' d f t h = λ x. (record { at = λ s t' e. avoids_chain (11 - p) (suc p) l' d x.form (λ g. form (operators p l d (binary f t g))) (Hungry (operators p l d f)) s t' (λ g. behind_tighter g s t') (omega (arith, h, tight s e)) }, fine_chain (11 - p) (suc p) l' d x.form (λ g. form (operators p l d (binary f t g))) (Hungry (operators p l d f)) behind_tighter (λ g. λ v. (record { at = λ s t' e. e }, tt)))
  where
    tight : (s : Sort) → nat_lt 11 (precedence_of s) || false ≡ true → 12 ≤ precedence_of s
    tight s e = leb-true _ _ (or_false _ e)

    behind_tighter : (g : Form) (s : Sort) (t' : Token) → suc p ≤ precedence_of s → avoids (form (operators p l d (binary f t g))) (Hungry (operators p l d f)) s t' ≡ true
    behind_tighter g s t' e = and_both _ _ (ap not (other_precedence l d p (binary f t g) s t' e)) (le-leb _ _ (omega (arith, e)))

fine_of_precedence : (b : Bool) (p l d : ℕ) (f : Form) (t : Token) → (b ≡ true → p < 12) → FineRule (of_precedence b p l d f t) (Hungry (operators p l d f))
fine_of_precedence false p l d f t h = tt
fine_of_precedence true p l d f t h = fine_tighter p l (l + 1) d f t (h refl)

pub fine_operators : (p l d : ℕ) (f : Form) (s : Sort) (t : Token) → FineRule (operators_rule p l d f s t) (Hungry (operators p l d f))
fine_operators p l d f s t = fine_of_precedence (nat_eq (precedence_of s) p && nat_lt p 12) p l d f t (λ e. leb-true _ _ (and_right (nat_eq (precedence_of s) p) (nat_lt p 12) e))

pub fine_choice : (l d : ℕ) (f : Form) (s : Sort) (t : Token) → FineRule (choice_rule l d f s t) (Hungry (choice l d f))
fine_choice l d f Sort.Question t = λ a. (clear (λ t'. refl), (refl, λ c. λ b. (clear (λ t'. refl), tt)))
fine_choice l d f _ t = tt

-- behind an operand of a whole expression, where nothing may follow that goes on with an expression
abbrev pub Joins : Form → Sort → Token → Bool
Joins f s t = nat_lt 0 (precedence_of s)

choice_avoids : (l d : ℕ) (f : Form) (s : Sort) (t : Token) → 2 ≤ precedence_of s → avoids (form (choice l d f)) Joins s t ≡ true
choice_avoids l d f s t h = implied_true _ _ (every_sort (λ s. implied (nat_le 2 (precedence_of s)) (avoids (form (choice l d f)) Joins s t)) refl s) (le-leb _ _ h)

pub fine_behind : (l d : ℕ) (x : Operand) → Clear (Hungry (part (operand true l d)) x) (behind_operand l d x) Joins × Fine (behind_operand l d x) Joins
fine_behind l d x = (record { at = λ s t h. avoids_chain 10 2 l d x.form (λ f. form (choice l d f)) Joins s t (λ f. choice_avoids l d f s t) (leb-true _ _ (or_false _ h)) }, fine_chain 10 2 l d x.form (λ f. form (choice l d f)) Joins (λ f s t. choice_avoids l d f s t) (λ f v. (record { at = λ s t h. h }, tt)))

pub fine_expression : (l d : ℕ) (s : Sort) (t : Token) → FineRule (expression_rule l d s t) Joins
fine_expression l d s t = fine_and (operand_rule true l d s t) (λ x. behind_operand l d x) (Hungry (part (operand true l d))) Joins (fine_operand true l d s t) (fine_behind l d)

-- ---- casts and arguments

fine_cast : (l d : ℕ) (first : Place) (s : Sort) (t : Token) → FineRule (cast_rule l d first s t) (Hungry (opened l d first))
fine_cast l d first s t = fine_where _ _ (Hungry (opened l d first)) (fine_and (base_rule s t) _ (Hungry (part base)) (Hungry (opened l d first)) (fine_base s t) (λ b. (clear (λ t'. refl), λ k. (clear (λ t'. refl), (refl, λ c. λ x. (clear (λ t'. refl), tt))))))

pub fine_opened : (l d : ℕ) (first : Place) (s : Sort) (t : Token) → FineRule (opened_rule l d first s t) (Hungry (opened l d first))
fine_opened l d first s t = fine_or (cast_rule l d first s t) _ (Hungry (opened l d first)) (fine_cast l d first s t) (fine_and (expression_rule l (d + 1) s t) _ Joins (Hungry (opened l d first)) (fine_expression l (d + 1) s t) (λ f. (clear (λ t'. refl), (refl, λ c. λ v. (clear (λ t'. refl), tt)))))

pub fine_text_after : (s : Sort) (t : Token) → FineRule (text_after_rule s t) (Hungry text_after)
fine_text_after Sort.Text t = tt
fine_text_after Sort.Name t = λ v. (clear (λ t'. refl), tt)
fine_text_after _ t = tt

pub fine_text_behind : (s : Sort) (t : Token) → FineRule (text_behind_rule s t) (Hungry text_behind)
fine_text_behind s t = fine_and (text_after_rule s t) _ (Hungry text_after) (Hungry text_behind) (fine_text_after s t) (λ f. (clear (λ t'. refl), tt))

-- an expression is an argument
expression_argues : (l d : ℕ) (s : Sort) (t : Token) → FineRule (expression_rule l d s t) (Hungry (part (argument l d)))
expression_argues l d s t = fine_more (expression_rule l d s t) Joins (Hungry (part (argument l d))) (λ f s t h. implied_true _ _ (every_sort (λ s. implied (Joins f s t) (Hungry (part (argument l d)) f s t)) refl s) h) (fine_expression l d s t)

fine_name_argument : (l d : ℕ) (t : Token) → Fine (kept l d t None) (Hungry (part (argument l d)))
fine_name_argument l d t = expression_argues l d Sort.Name t

fine_kept : (l d : ℕ) (t : Token) (o : Option Form) → Clear (Hungry text_behind o) (kept l d t o) (Hungry (part (argument l d))) × Fine (kept l d t o) (Hungry (part (argument l d)))
fine_kept l d t (Some f) = (clear (λ t'. refl), tt)
fine_kept l d t None = (clear (λ t'. refl), fine_name_argument l d t)

fine_word : (b : Bool) (l d : ℕ) (t : Token) → Fine (word_argument b l d t) (Hungry (part (argument l d)))
fine_word true l d t = λ o. fine_kept l d t o
fine_word false l d t = fine_name_argument l d t

fine_type : (l d : ℕ) (s : Sort) (t : Token) → FineRule (type_argument s t) (Hungry (part (argument l d)))
fine_type l d s t = fine_and (base_rule s t) _ (Hungry (part base)) (Hungry (part (argument l d))) (fine_base s t) (λ b. (clear (λ t'. refl), λ k. (clear (λ t'. refl), tt)))

pub fine_argument : (l d : ℕ) (s : Sort) (t : Token) → FineRule (argument_rule l d s t) (Hungry (part (argument l d)))
fine_argument l d Sort.Text t = tt
fine_argument l d Sort.Name t = fine_word (is_level (text_of t.what)) l d t
fine_argument l d s t = fine_or (type_argument s t) (expression_rule l d s t) (Hungry (part (argument l d))) (fine_type l d s t) (expression_argues l d s t)

pub fine_arguments : (l d : ℕ) (s : Sort) (t : Token) → FineRule (arguments_rule l d s t) (Hungry (arguments l d))
fine_arguments l d s t = fine_and (argument_rule l d s t) _ (Hungry (part (argument l d))) (Hungry (arguments l d)) (fine_argument l d s t) (λ f. (clear (λ t'. refl), λ v. (clear (λ t'. refl), tt)))
