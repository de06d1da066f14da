-- Printed expressions are read again, form by form.
use Rattle.std.proofs.Common.{◌≡◌, refl, sym, subst, ap, ◌∙◌, arith, ℕ, zero, suc, max, ◌+◌, ◌-◌, ◌≤◌, Bool, true, false, List, [], ◌∷◌, ◌++◌, map, append_assoc}
use Rattle.std.specs.Prelude.{◌&&◌, ◌||◌, ◌==◌, ◌<◌, nat_lt, codes}
use Rattle.std.proofs.lemmas.Bool.{false≢true, leb-true, le-leb}
use Rattle.std.proofs.lemmas.List.{append-nil}
use Rattle.mdr_core.specs.declared.kind.Kind.{Kind}
use Rattle.mdr_core.specs.declared.place.Place.{Place}
use Rattle.mdr_syntax.specs.declared.token.Lexeme.TheVariants.{Word, Punct}
use Rattle.mdr_syntax.specs.declared.token.Token.{Token}
use Rattle.mdr_syntax.specs.declared.tree.Base.{Base}
use Rattle.mdr_syntax.specs.declared.tree.Base.TheVariants as base_type
use Rattle.mdr_syntax.specs.declared.tree.Form.{Form}
use Rattle.mdr_syntax.specs.declared.tree.FormWhat
use Rattle.mdr_print.specs.Marks.{Mark, Is, word as printed_word, sign, number, quoted, blank_unless, spaced, in_parentheses as parentheses_around, in_brackets, separated, comma_list, ◌▸◌}
use Rattle.mdr_print.specs.Types.{kind_name, base_name, stars as printed_stars, type_name}
use Rattle.mdr_print.specs.Forms.{Shown, marks_of, plain, literal, operator, prefixed, operand as printed_operand, is_apart, owner, member_sign}
use Rattle.mdr_roundtrip.specs.Words.{is_among, is_prefix, is_step}
use Rattle.mdr_grammar.specs.declared.parts.Specifier.{Specifier}
use Rattle.mdr_grammar.specs.declared.sort.Sort.{Sort}
use Rattle.mdr_grammar.specs.Sorts.{is, sort_of}
use Rattle.mdr_grammar.specs.Forms.{Operand, Right, ◌>>=◌, take, form, one, Rule, and_then, where_allowed, or_else}
use Rattle.mdr_grammar.specs.Forms.Part.{operand, expression, argument, base}
use Rattle.mdr_grammar.specs.Forms.Nonterminal.{part, commas, postfix, operators, choice, opened, arguments, stars}
use Rattle.mdr_grammar.specs.Forms.Separated.{arguments_at}
use Rattle.mdr_grammar.specs.Forms.Right.{gives}
use Rattle.mdr_grammar.specs.Forms.Rule.{given}
use Rattle.mdr_grammar.specs.Expressions.{height, highest, is_level_free, may_sink, may_open, form_at, only_part, tighter, binary, of_precedence, behind_operand, base_rule, operand_rule, postfix_rule, operators_rule, choice_rule, expression_rule, opened_rule, argument_rule, stars_rule, in_parentheses}
use Rattle.mdr_grammar.specs.Grammar.{rule, Gets, Follows}
use Rattle.mdr_grammar.specs.Grammar.Gets.{absent, present}
use Rattle.mdr_grammar.specs.Grammar.Follows.{done, word, both}
use Rattle.mdr_print.specs.Spelled.{lexemes}
use Rattle.mdr_syntax.specs.declared.token.Lexeme.{Lexeme}
use Rattle.mdr_roundtrip.specs.Unplaced.{nowhere, at, all_at, unplaced_base}
use Rattle.mdr_roundtrip.specs.Shaped.{is_name, services, binaries, is_named_base, are_stars}
use Rattle.mdr_roundtrip.proofs.Bools.{also}
use Rattle.mdr_roundtrip.proofs.Following.{through, through_first, free, opens_there, no_more, at_operator}
use Rattle.mdr_roundtrip.proofs.Signs.{open_sort, close_sort, bracket_sort, unbracket_sort, comma_sort, dot_sort, arrow_sort, star_sort, question_sort, colon_sort, struct_sort, void_sort, lock_sort, null_sort, kind_sort, name_sort, service_sort, between, before, step_after}
use Rattle.mdr_roundtrip.proofs.Heights.{prefix_height, post_height, cast_height, binary_height, choice_height, subscript_height, member_height, call_height}
use Rattle.mdr_roundtrip.proofs.Rereading.{tokens_of, IsReread, behind, expression_from, argument_from, wrapped, as_operand, no_rule}

-- a rule whose test holds
pub allowed : {A : Type 0} {x : Rule A} {b : Bool} {r : Right A} → x ≡ given b r → b ≡ true → x ≡ given true r
allowed {r = r} e h = e ∙ ap (λ b. given b r) h

pub up_to : (l top : ℕ) {m n : ℕ} → m ≡ n → l + m ≤ top → l + n ≤ top
up_to l top e h = subst (λ (n : ℕ). l + n ≤ top) e h

pub sinks : (l : ℕ) (f : Form) → l + suc (height f) ≤ 256 → may_sink l f ≡ true
sinks l f h = free (l + suc (height f)) h

chained : (halves : Bool) (s : Shown) (f : Form) (alone : Bool) → ((casts : Bool) (l d : ℕ) (rest : List Mark) (end : List Token) (v : Operand) → l + height f ≤ 256 → d + height f ≤ 512 → Gets halves (postfix l d nowhere f alone) (tokens_of rest) end v → Gets halves (part (operand casts l d)) (tokens_of (s.marks rest)) end v) → IsReread halves s f
chained halves s f alone c = record {
  alone = alone;
  chain = λ e casts l d rest end v a b t. c casts l d rest end v a b t;
  whole = λ l d rest a b. expression_from halves l d (c true l d rest (tokens_of rest) (record { form = f; alone = alone }) a b (absent refl)) (behind halves l d (record { form = f; alone = alone }) (tokens_of rest));
}

-- ---- what is one token

pub number_reread : (halves : Bool) (n : ℕ) (k : Kind) → IsReread halves (literal (number n k)) (form_at nowhere (FormWhat.Number n k))
unfolding sort_of
number_reread halves n k = chained halves (literal (number n k)) (form_at nowhere (FormWhat.Number n k)) false (λ casts l d rest end v a b t. present refl (both t done))

pub null_reread : (halves : Bool) → IsReread halves (plain (printed_word (codes "NULL"))) (form_at nowhere FormWhat.Null)
null_reread halves = chained halves (plain (printed_word (codes "NULL"))) (form_at nowhere FormWhat.Null) false (λ casts l d rest end v a b t. present (ap (λ s. operand_rule casts l d s (at (Word (codes "NULL")))) (null_sort halves)) (both t done))

pub name_reread : (halves : Bool) (name : List ℕ) → is_name name ≡ true → IsReread halves (plain (printed_word name)) (form_at nowhere (FormWhat.Name name))
name_reread halves name h = chained halves (plain (printed_word name)) (form_at nowhere (FormWhat.Name name)) false (λ casts l d rest end v a b t. present (ap (λ s. operand_rule casts l d s (at (Word name))) (name_sort halves name h)) (both t done))

-- ---- postfix forms

pub post_reread : (halves : Bool) (op : List ℕ) (s : Shown) (f : Form) → is_step op ≡ true → IsReread halves s f → IsReread halves (plain (printed_operand s ▸ sign op)) (form_at nowhere (FormWhat.Post op f))
post_reread halves op s f h g = chained halves (plain (printed_operand s ▸ sign op)) (form_at nowhere (FormWhat.Post op f)) true (λ casts l d rest end v a b t.
    let low = up_to l 256 (post_height nowhere op f) a in
    wrapped halves casts l d s f g s.is_operator (λ e. e) (Is (Punct op) ∷ rest) end v (omega (arith, low)) (up_to d 512 (post_height nowhere op f) b)
    (λ alone. present (allowed (step_after halves op h l d nowhere f) (sinks l f low)) (both t done)))

pub subscript_reread : (halves : Bool) (s i : Shown) (f j : Form) → IsReread halves s f → IsReread halves i j → IsReread halves (plain (printed_operand s ▸ in_brackets i.marks)) (form_at nowhere (FormWhat.Subscript f j))
subscript_reread halves s i f j g k = chained halves (plain (printed_operand s ▸ in_brackets i.marks)) (form_at nowhere (FormWhat.Subscript f j)) false (λ casts l d rest end v a b t.
    let low = up_to l 256 (subscript_height nowhere f j) a in
    let few = up_to d 512 (subscript_height nowhere f j) b in
    wrapped halves casts l d s f g s.is_operator (λ e. e) (in_brackets i.marks rest) end v (omega (arith, low)) (omega (arith, few))
    (λ alone. present (allowed (ap (λ s. postfix_rule l d nowhere f s (at (Punct (codes "[")))) (bracket_sort halves)) (sinks l f (omega (arith, low))))
    (both (k.whole (l + 1) d (Is (Punct (codes "]")) ∷ rest) (omega (arith, low)) (omega (arith, few))) (word {s = Sort.CloseBracket} (ap (λ s. is Sort.CloseBracket s) (unbracket_sort halves)) (both t done)))))

apart_is : (is_arrow : Bool) (s : Shown) → is_apart is_arrow s ≡ false → s.is_operator ≡ false
apart_is true s e = e
apart_is false s e = left s.is_operator s.is_number e
  where
    left : (x y : Bool) → (x || y) ≡ false → x ≡ false
    left true y e = e
    left false y e = refl

member_there : (halves : Bool) (f : Form) (is_arrow alone : Bool) (name : List ℕ) → is_name name ≡ true → (l d : ℕ) (rest : List Mark) (end : List Token) (v : Operand) → l + suc (height f) ≤ 256 → Gets halves (postfix l d nowhere (form_at nowhere (FormWhat.Member f is_arrow nowhere name)) false) (tokens_of rest) end v → Gets halves (postfix l d nowhere f alone) (tokens_of (member_sign is_arrow (printed_word name rest))) end v
member_there halves f true alone name h l d rest end v low t = present (allowed (ap (λ s. postfix_rule l d nowhere f s (at (Punct (codes "->")))) (arrow_sort halves)) (sinks l f low)) (word {s = Sort.Name} (ap (λ s. is Sort.Name s) (name_sort halves name h)) (both t done))
member_there halves f false alone name h l d rest end v low t = present (allowed (ap (λ s. postfix_rule l d nowhere f s (at (Punct (codes ".")))) (dot_sort halves)) (sinks l f low)) (word {s = Sort.Name} (ap (λ s. is Sort.Name s) (name_sort halves name h)) (both t done))

pub member_reread : (halves : Bool) (s : Shown) (f : Form) (is_arrow : Bool) (name : List ℕ) → is_name name ≡ true → IsReread halves s f → IsReread halves (plain (owner is_arrow s ▸ member_sign is_arrow ▸ printed_word name)) (form_at nowhere (FormWhat.Member f is_arrow nowhere name))
member_reread halves s f is_arrow name h g = chained halves (plain (owner is_arrow s ▸ member_sign is_arrow ▸ printed_word name)) (form_at nowhere (FormWhat.Member f is_arrow nowhere name)) false (λ casts l d rest end v a b t.
    let low = up_to l 256 (member_height nowhere f is_arrow nowhere name) a in
    wrapped halves casts l d s f g (is_apart is_arrow s) (apart_is is_arrow s) (member_sign is_arrow (printed_word name rest)) end v (omega (arith, low)) (up_to d 512 (member_height nowhere f is_arrow nowhere name) b)
    (λ alone. member_there halves f is_arrow alone name h l d rest end v low t))

-- ---- operator forms

-- an operand as an expression
operand_expression : (halves : Bool) (l d : ℕ) (s : Shown) (f : Form) → IsReread halves s f → (rest : List Mark) → l + height f ≤ 256 → d + suc (height f) ≤ 512 → Gets halves (part (expression l d)) (tokens_of (printed_operand s rest)) (tokens_of rest) f
operand_expression halves l d s f g rest a b =
    let x = as_operand halves true l d s f g rest a b in
    expression_from halves l d x.read (behind halves l d (record { form = f; alone = x.is_alone }) (tokens_of rest))

no_chain : {P : Type 0} → true ≡ false → P
no_chain e = absurd (false≢true (sym e))

-- a prefix form is read wherever an operand may stand
pub record AsPrefix (halves : Bool) (op : List ℕ) (s : Shown) (f : Form) : Type 0 where
  pub is_alone : Bool
  pub read : (casts : Bool) (l d : ℕ) (rest : List Mark) → l + suc (height f) ≤ 256 → d + suc (height f) ≤ 512 → Gets halves (part (operand casts l d)) (tokens_of (sign op (printed_operand s rest))) (tokens_of rest) (record { form = form_at nowhere (FormWhat.Prefix op f); alone = is_alone })

pub as_prefix : (halves : Bool) (op : List ℕ) (s : Shown) (f : Form) → is_prefix op ≡ true → IsReread halves s f → AsPrefix halves op s f
as_prefix halves op s f h g =
    let b = before halves op h in
    record {
      is_alone = b.alone;
      read = λ casts l d rest low few.
          let x = as_operand halves b.casts_below (l + 1) d s f g rest (omega (arith, low)) few in
          present (allowed (b.begins casts l d) (free (l + 1) (omega (arith, low)))) (both x.read done);
    }

pub prefix_reread : (halves : Bool) (op : List ℕ) (s : Shown) (f : Form) → is_prefix op ≡ true → IsReread halves s f → IsReread halves (prefixed (sign op ▸ printed_operand s)) (form_at nowhere (FormWhat.Prefix op f))
prefix_reread halves op s f h g =
    let p = as_prefix halves op s f h g in
    record {
      alone = p.is_alone;
      chain = λ e casts l d rest end v a b t. no_chain e;
      whole = λ l d rest a b. expression_from halves l d (p.read true l d rest (up_to l 256 (prefix_height nowhere op f) a) (up_to d 512 (prefix_height nowhere op f) b)) (behind halves l d (record { form = form_at nowhere (FormWhat.Prefix op f); alone = p.is_alone }) (tokens_of rest));
    }

binary_there : (halves : Bool) (op : List ℕ) (t : Shown) (f j : Form) → is_among binaries op ≡ true → IsReread halves t j → (l d : ℕ) (rest : List Mark) → l + suc (max (height f) (height j)) ≤ 256 → d + suc (max (height f) (height j)) ≤ 512 → (x : Operand) → x.form ≡ f → Follows halves (part (expression l d)) (behind_operand l d x) (at (Punct op) ∷ tokens_of (printed_operand t rest)) (tokens_of rest) (form_at nowhere (FormWhat.Binary op f j))
binary_there halves op t f j h k l d rest low few x e =
    let o = between halves op h in
    let y = as_operand halves true (l + 1) d t j k rest (omega (arith, low)) (omega (arith, few)) in
    let later : Follows halves (operators o.level l d f) (tighter o.level (l + 1) d >>= λ g. form (operators o.level l d (binary f (at (Punct op)) g))) (tokens_of (printed_operand t rest)) (tokens_of rest) (form_at nowhere (FormWhat.Binary op f j)) =
    both y.read (no_more halves (λ g. form (operators o.level l d (binary f (at (Punct op)) g))) (11 - o.level) (suc o.level) (l + 1) d j (both (absent refl) done)) in
    let begun : rule (operators o.level l d f) (sort_of halves (Punct op)) (at (Punct op)) ≡ given true (tighter o.level (l + 1) d >>= λ g. form (operators o.level l d (binary f (at (Punct op)) g))) =
    ap (λ s. operators_rule o.level l d f s (at (Punct op))) o.is_sort ∙ ap (λ b. of_precedence b o.level l d f (at (Punct op))) o.test ∙ ap (λ b. given b (tighter o.level (l + 1) d >>= λ g. form (operators o.level l d (binary f (at (Punct op)) g)))) (sinks l f (omega (arith, low))) in
    subst (λ (y : Form). Follows halves (part (expression l d)) (behind_operand l d (record { form = y; alone = x.alone })) (at (Punct op) ∷ tokens_of (printed_operand t rest)) (tokens_of rest) (form_at nowhere (FormWhat.Binary op f j))) (sym e)
    (at_operator halves (λ f. form (choice l d f)) 10 2 o.level l d f (low_of o.level o.low) (high_of o.level o.high) (present begun later) (both (absent refl) done))
  where
    low_of : (p : ℕ) → nat_lt 1 p ≡ true → 2 ≤ p
    low_of p e = grind arith

    high_of : (p : ℕ) → nat_lt p 12 ≡ true → p < 12
    high_of p e = grind arith

pub binary_reread : (halves : Bool) (op : List ℕ) (s t : Shown) (f j : Form) → is_among binaries op ≡ true → IsReread halves s f → IsReread halves t j → IsReread halves (operator (printed_operand s ▸ spaced op ▸ printed_operand t)) (form_at nowhere (FormWhat.Binary op f j))
binary_reread halves op s t f j h g k = record {
  alone = false;
  chain = λ e casts l d rest end v a b t. no_chain e;
  whole = λ l d rest a b.
      let low = up_to l 256 (binary_height nowhere op f j) a in
      let few = up_to d 512 (binary_height nowhere op f j) b in
      let x = as_operand halves true l d s f g (spaced op (printed_operand t rest)) (omega (arith, low)) (omega (arith, few)) in
      expression_from halves l d x.read (binary_there halves op t f j h k l d rest low few (record { form = f; alone = x.is_alone }) refl);
}

pub choice_reread : (halves : Bool) (r s t : Shown) (c f j : Form) → IsReread halves r c → IsReread halves s f → IsReread halves t j → IsReread halves (operator (printed_operand r ▸ spaced (codes "?") ▸ printed_operand s ▸ spaced (codes ":") ▸ printed_operand t)) (form_at nowhere (FormWhat.Choice c f j))
choice_reread halves r s t c f j q g k = record {
  alone = false;
  chain = λ e casts l d rest end v a b t. no_chain e;
  whole = λ l d rest a b.
      let low = up_to l 256 (choice_height nowhere c f j) a in
      let few = up_to d 512 (choice_height nowhere c f j) b in
      let last = operand_expression halves (l + 1) d t j k rest (omega (arith, low)) (omega (arith, few)) in
      let middle = operand_expression halves (l + 1) d s f g (spaced (codes ":") (printed_operand t rest)) (omega (arith, low)) (omega (arith, few)) in
      let x = as_operand halves true l d r c q (spaced (codes "?") (printed_operand s (spaced (codes ":") (printed_operand t rest)))) (omega (arith, low)) (omega (arith, few)) in
      expression_from halves l d x.read (no_more halves (λ f. form (choice l d f)) 10 2 l d c
      (both (present (allowed (ap (λ s. choice_rule l d c s (at (Punct (codes "?")))) (question_sort halves)) (sinks l c (omega (arith, low)))) (both middle (word {s = Sort.Colon} (ap (λ s. is Sort.Colon s) (colon_sort halves)) (both last done)))) done));
}

-- ---- types

pub base_reread : (halves : Bool) (b : Base) (rest : List Mark) → is_named_base b ≡ true → Gets halves (part base) (tokens_of (base_name b rest)) (tokens_of rest) (record { base = unplaced_base b; place = nowhere })
base_reread halves (base_type.Int k) rest h = present (ap (λ s. base_rule s (at (Word (kind_name k)))) (kind_sort halves k)) done
base_reread halves (base_type.Struct place name) rest h = present (ap (λ s. base_rule s (at (Word (codes "struct")))) (struct_sort halves)) (word {s = Sort.Name} (ap (λ s. is Sort.Name s) (name_sort halves name h)) done)
base_reread halves base_type.Void rest h = present (ap (λ s. base_rule s (at (Word (codes "void")))) (void_sort halves)) done
base_reread halves base_type.Lock rest h = present (ap (λ s. base_rule s (at (Word (codes "combolock_t")))) (lock_sort halves)) done

pub stars_reread : (halves : Bool) (k n m : ℕ) (rest : List Mark) → k + n ≡ m → m ≤ 4294967295 → Gets halves (stars k) (tokens_of (printed_stars n rest)) (tokens_of rest) m
stars_reread halves k zero m rest e h = let same : k ≡ m = omega (arith, e) in subst (λ (j : ℕ). Gets halves (stars k) (tokens_of rest) (tokens_of rest) j) same (absent refl)
stars_reread halves k (suc n) m rest e h = present (allowed (ap (λ s. stars_rule k s (at (Punct (codes "*")))) (star_sort halves)) (le-leb (k + 1) 4294967295 (omega (arith, e, h)))) (both (stars_reread halves (k + 1) n m rest (omega (arith, e)) h) done)

pub blank_gone : (b : Bool) (rest : List Mark) → tokens_of (blank_unless b rest) ≡ tokens_of rest
blank_gone true rest = refl
blank_gone false rest = refl

type_stars : (halves : Bool) (n : ℕ) (rest : List Mark) → are_stars n ≡ true → Gets halves (stars 0) (tokens_of (blank_unless (n == 0) (printed_stars n rest))) (tokens_of rest) n
type_stars halves n rest h = subst (λ ts. Gets halves (stars 0) ts (tokens_of rest) n) (sym (blank_gone (n == 0) (printed_stars n rest))) (stars_reread halves 0 n n rest (omega arith) (leb-true n 4294967295 h))

cast_is : (l d : ℕ) (first : Place) (s : Sort) (t : Token) (r : Right Specifier) → l + 1 ≤ 256 → base_rule s t ≡ given true r → opened_rule l d first s t ≡ given true (r >>= λ b. form (stars 0) >>= λ k. take Sort.Close >>= λ c. one (operand true (l + 1) d) >>= λ x. only_part (form_at first (FormWhat.Cast b.base k x.form)))
cast_is l d first s t r low e =
    let k : Specifier → Right Operand = λ b. form (stars 0) >>= λ k. take Sort.Close >>= λ c. one (operand true (l + 1) d) >>= λ x. only_part (form_at first (FormWhat.Cast b.base k x.form)) in
    ap (λ o. or_else (where_allowed (is_level_free (l + 1)) (and_then o k)) (and_then (expression_rule l (d + 1) s t) (λ f. in_parentheses l d first f))) e
    ∙ ap (λ b. given (b && true) (r >>= k)) (free (l + 1) low)

pub cast_reread : (halves : Bool) (b : Base) (n : ℕ) (s : Shown) (f : Form) → is_named_base b ≡ true → are_stars n ≡ true → IsReread halves s f → IsReread halves (operator (parentheses_around (type_name b n) ▸ printed_operand s)) (form_at nowhere (FormWhat.Cast (unplaced_base b) n f))
cast_reread halves b n s f h k g = record {
  alone = false;
  chain = λ e casts l d rest end v a c t. no_chain e;
  whole = λ l d rest a c.
      let low = up_to l 256 (cast_height nowhere (unplaced_base b) n f) a in
      let few = up_to d 512 (cast_height nowhere (unplaced_base b) n f) c in
      let behind_type : List Mark = Is (Punct (codes ")")) ∷ printed_operand s rest in
      let x = as_operand halves true (l + 1) d s f g rest (omega (arith, low)) few in
      let inside : Gets halves (opened l d nowhere) (tokens_of (type_name b n behind_type)) (tokens_of rest) (record { form = form_at nowhere (FormWhat.Cast (unplaced_base b) n f); alone = false }) =
      through halves (λ b. form (stars 0) >>= λ k. take Sort.Close >>= λ c. one (operand true (l + 1) d) >>= λ x. only_part (form_at nowhere (FormWhat.Cast b.base k x.form))) refl
      (λ s t r e. cast_is l d nowhere s t r (omega (arith, low)) e)
      (base_reread halves b (blank_unless (n == 0) (printed_stars n behind_type)) h)
      (both (type_stars halves n behind_type k) (word {s = Sort.Close} (ap (λ s. is Sort.Close s) (close_sort halves)) (both x.read done))) in
      let cast = present (allowed (ap (λ s. operand_rule true l d s (at (Punct (codes "(")))) (open_sort halves)) (opens_there (d + 1) (omega (arith, few)))) (both inside done) in
      expression_from halves l d cast (behind halves l d (record { form = form_at nowhere (FormWhat.Cast (unplaced_base b) n f); alone = false }) (tokens_of rest));
}

-- ---- arguments and calls

pub record IsArgument (halves : Bool) (s : Shown) (f : Form) : Type 0 where
  pub read : (l d : ℕ) (rest : List Mark) → l + height f ≤ 256 → d + height f ≤ 512 → Gets halves (part (argument l d)) (tokens_of (s.marks rest)) (tokens_of rest) f

pub expression_argument : (halves : Bool) (s : Shown) (f : Form) → IsReread halves s f → IsArgument halves s f
expression_argument halves s f g = record { read = λ l d rest a b. argument_from halves l d (g.whole l d rest a b) }

pub text_argument : (halves : Bool) (bytes : List ℕ) → IsArgument halves (plain (quoted bytes)) (form_at nowhere (FormWhat.Text bytes))
unfolding sort_of
text_argument halves bytes = record { read = λ l d rest a b. present refl done }

type_is : (l d : ℕ) (s : Sort) (t : Token) (r : Right Specifier) → base_rule s t ≡ given true r → argument_rule l d s t ≡ given true (r >>= λ b. form (stars 0) >>= λ k. gives (form_at t.place (FormWhat.Base b.base k)))
type_is l d Sort.Text t r e = no_rule e
type_is l d Sort.Name t r e = no_rule e
type_is l d s t r e = ap (λ o. or_else (and_then o (λ b. form (stars 0) >>= λ k. gives (form_at t.place (FormWhat.Base b.base k)))) (expression_rule l d s t)) e

pub placed_first : (xs : List Lexeme) {t : Token} {us : List Token} → all_at xs ≡ t ∷ us → t.place ≡ nowhere
placed_first [] e = absurd (Prim.cc)
placed_first (x ∷ xs) {t = t} e = let same : at x ≡ t = Prim.cc in sym (ap (λ (t : Token). t.place) same)

pub type_argument : (halves : Bool) (b : Base) (n : ℕ) → is_named_base b ≡ true → are_stars n ≡ true → IsArgument halves (plain (type_name b n)) (form_at nowhere (FormWhat.Base (unplaced_base b) n))
type_argument halves b n h k = record {
  read = λ l d rest a c. through_first halves (λ b. form (stars 0) >>= λ k. gives (form_at nowhere (FormWhat.Base b.base k))) refl
      (λ s t us r q e. type_is l d s t r e ∙ ap (λ p. given true (r >>= λ b. form (stars 0) >>= λ k. gives (form_at p (FormWhat.Base b.base k)))) (placed_first (lexemes (type_name b n rest)) q))
      (base_reread halves b (blank_unless (n == 0) (printed_stars n rest)) h) (both (type_stars halves n rest k) done);
}

abbrev pub AreArguments : Bool → List Shown → List Form → Type 0
AreArguments halves [] [] = Unit {0}
AreArguments halves [] (f ∷ fs) = ⊥
AreArguments halves (s ∷ ss) [] = ⊥
AreArguments halves (s ∷ ss) (f ∷ fs) = IsArgument halves s f × AreArguments halves ss fs

commas_reread : (halves : Bool) (l d : ℕ) (ss : List Shown) (fs so_far : List Form) (rest : List Mark) → AreArguments halves ss fs → l + highest (map height fs) ≤ 256 → d + highest (map height fs) ≤ 512 → Gets halves (commas (arguments_at (l + 1) (d + 1)) so_far) (tokens_of (separated false (map marks_of ss) rest)) (tokens_of rest) (so_far ++ fs)
commas_reread halves l d [] [] so_far rest h a b = subst (λ (fs : List Form). Gets halves (commas (arguments_at (l + 1) (d + 1)) so_far) (tokens_of rest) (tokens_of rest) fs) (sym (append-nil so_far)) (absent refl)
commas_reread halves l d [] (f ∷ fs) so_far rest h a b = absurd h
commas_reread halves l d (s ∷ ss) [] so_far rest h a b = absurd h
commas_reread halves l d (s ∷ ss) (f ∷ fs) so_far rest h a b =
    let here = h.0.read (l + 1) (d + 1) (separated false (map marks_of ss) rest) (omega (arith, a)) (omega (arith, b)) in
    let later = commas_reread halves l d ss fs (so_far ++ (f ∷ [])) rest h.1 (omega (arith, a)) (omega (arith, b)) in
    subst (λ (gs : List Form). Gets halves (commas (arguments_at (l + 1) (d + 1)) so_far) (tokens_of (separated false (map marks_of (s ∷ ss)) rest)) (tokens_of rest) gs) (append_assoc so_far (f ∷ []) fs)
    (present (ap (λ s. rule (commas (arguments_at (l + 1) (d + 1)) so_far) s (at (Punct (codes ",")))) (comma_sort halves)) (both here (both later done)))

pub arguments_reread : (halves : Bool) (l d : ℕ) (ss : List Shown) (fs : List Form) (rest : List Mark) → AreArguments halves ss fs → l + highest (map height fs) ≤ 256 → d + highest (map height fs) ≤ 512 → Gets halves (arguments (l + 1) (d + 1)) (tokens_of (comma_list (map marks_of ss) rest)) (tokens_of rest) fs
arguments_reread halves l d [] [] rest h a b = absent refl
arguments_reread halves l d [] (f ∷ fs) rest h a b = absurd h
arguments_reread halves l d (s ∷ ss) [] rest h a b = absurd h
arguments_reread halves l d (s ∷ ss) (f ∷ fs) rest h a b =
    let here = h.0.read (l + 1) (d + 1) (separated false (map marks_of ss) rest) (omega (arith, a)) (omega (arith, b)) in
    let later = commas_reread halves l d ss fs (f ∷ []) rest h.1 (omega (arith, a)) (omega (arith, b)) in
    through halves (λ f. form (commas (arguments_at (l + 1) (d + 1)) (f ∷ []))) refl (λ s t r e. ap (λ o. and_then o (λ f. form (commas (arguments_at (l + 1) (d + 1)) (f ∷ [])))) e) here (both later done)

-- what is called, in front of its arguments
pub record IsCalled (halves : Bool) (s : Shown) (f : Form) : Type 0 where
  pub read : (casts : Bool) (l d : ℕ) (inner rest : List Mark) (args : List Form) (end : List Token) (v : Operand) → l + suc (height f) ≤ 256 → d + suc (height f) ≤ 512 → Gets halves (arguments (l + 1) (d + 1)) (tokens_of inner) (at (Punct (codes ")")) ∷ tokens_of rest) args → Gets halves (postfix l d nowhere (form_at nowhere (FormWhat.Call f args)) true) (tokens_of rest) end v → Gets halves (part (operand casts l d)) (tokens_of (printed_operand s (Is (Punct (codes "(")) ∷ inner))) end v

pub expression_called : (halves : Bool) (s : Shown) (f : Form) → IsReread halves s f → IsCalled halves s f
expression_called halves s f g = record {
  read = λ casts l d inner rest args end v a b x t.
      wrapped halves casts l d s f g s.is_operator (λ e. e) (Is (Punct (codes "(")) ∷ inner) end v (omega (arith, a)) b
      (λ alone. present (allowed (ap (λ s. postfix_rule l d nowhere f s (at (Punct (codes "(")))) (open_sort halves)) (also (may_sink l f) (may_open (d + 1)) (sinks l f a) (opens_there (d + 1) (omega (arith, b)))))
      (both x (word {s = Sort.Close} (ap (λ s. is Sort.Close s) (close_sort halves)) (both t done))));
}

pub service_called : (halves : Bool) (name : List ℕ) → is_among services name ≡ true → IsCalled halves (plain (printed_word name)) (form_at nowhere (FormWhat.Name name))
service_called halves name h = record {
  read = λ casts l d inner rest args end v a b x t.
      present (allowed (ap (λ s. operand_rule casts l d s (at (Word name))) (service_sort halves name h)) (also (is_level_free (l + 1)) (may_open (d + 1)) (free (l + 1) (omega (arith, a))) (opens_there (d + 1) (omega (arith, b)))))
      (word {s = Sort.Open} (ap (λ s. is Sort.Open s) (open_sort halves)) (both x (word {s = Sort.Close} (ap (λ s. is Sort.Close s) (close_sort halves)) (both t done))));
}

pub call_reread : (halves : Bool) (s : Shown) (f : Form) (ss : List Shown) (fs : List Form) → IsCalled halves s f → AreArguments halves ss fs → IsReread halves (plain (printed_operand s ▸ parentheses_around (comma_list (map marks_of ss)))) (form_at nowhere (FormWhat.Call f fs))
call_reread halves s f ss fs g h = chained halves (plain (printed_operand s ▸ parentheses_around (comma_list (map marks_of ss)))) (form_at nowhere (FormWhat.Call f fs)) true (λ casts l d rest end v a b t.
    let low = up_to l 256 (call_height nowhere f fs) a in
    let few = up_to d 512 (call_height nowhere f fs) b in
    g.read casts l d (comma_list (map marks_of ss) (Is (Punct (codes ")")) ∷ rest)) rest fs end v (omega (arith, low)) (omega (arith, few))
    (arguments_reread halves l d ss fs (Is (Punct (codes ")")) ∷ rest) h (omega (arith, low)) (omega (arith, few))) t)
