-- Postfix operators.
use Rattle.std.proofs.Common.{◌≡◌, refl, sym, ap, ◌∙◌, ℕ, ◌+◌, suc, Bool, true, false, ◌&&◌, List, [], ◌∷◌, Some, None, Ok}
use Rattle.mdr_core.specs.declared.place.Place.{Place}
use Rattle.mdr_syntax.specs.declared.token.Token.{Token}
use Rattle.mdr_syntax.specs.declared.tree.Form.{Form}
use Rattle.mdr_expression.specs.declared.tails.Tail.{Tail}
use Rattle.mdr_expression.specs.declared.tails.Tail.TheVariants as tail
use Rattle.mdr_grammar.specs.declared.sort.Sort.{Sort}
use Rattle.mdr_grammar.specs.Sorts.{sort_of}
use Rattle.mdr_grammar.specs.Forms.{Operand, Right, ◌>>=◌, form}
use Rattle.mdr_grammar.specs.Forms.Nonterminal.{postfix}
use Rattle.mdr_grammar.specs.Forms.Rule.{given}
use Rattle.mdr_grammar.specs.Expressions.{height, is_level_free, postfix_rule}
use Rattle.mdr_grammar.specs.Front.{Read, and_read, begun_at, first as first_read, front}
use Rattle.mdr_expression.specs.Tails.{tail_at, tail_fits, longer}
use Rattle.mdr_grammar.proofs.Fronts.{first_of, first_none}
use Rattle.mdr_reader.proofs.Arms.{read_again}
use Rattle.mdr_reader.proofs.Through.{and_same, bind}

abbrev pub extended : (l d : ℕ) → Place → Form → Tail → Token → Right Operand
extended l d first f x t = longer l d first f x t >>= λ p. form (postfix l d first p.form p.alone)

left_true : (a b : Bool) → (a && b) ≡ true → a ≡ true
left_true true b e = refl
left_true false b e = let z : false ≡ true = e in absurd (Prim.cc)

pub goes_on : (l d : ℕ) (first : Place) (f : Form) (t : Token) (s : Sort) (x : Tail) → tail_at s ≡ Some x → (is_level_free (l + suc (height f)) && tail_fits x d) ≡ true → postfix_rule l d first f s t ≡ given true (extended l d first f x t)
goes_on l d first f t Sort.OpenBracket x e h = let q : tail.Subscript ≡ x = cc in ap (λ b. given b (extended l d first f tail.Subscript t)) (left_true _ _ h) ∙ ap (λ y. given true (extended l d first f y t)) q
goes_on l d first f t Sort.Dot x e h = let q : tail.Member false ≡ x = cc in ap (λ b. given b (extended l d first f (tail.Member false) t)) (left_true _ _ h) ∙ ap (λ y. given true (extended l d first f y t)) q
goes_on l d first f t Sort.Arrow x e h = let q : tail.Member true ≡ x = cc in ap (λ b. given b (extended l d first f (tail.Member true) t)) (left_true _ _ h) ∙ ap (λ y. given true (extended l d first f y t)) q
goes_on l d first f t Sort.Open x e h = let q : tail.Call ≡ x = cc in ap (λ b. given b (extended l d first f tail.Call t)) (ap (λ y. is_level_free (l + suc (height f)) && tail_fits y d) q ∙ h) ∙ ap (λ y. given true (extended l d first f y t)) q
goes_on l d first f t Sort.Step x e h = let q : tail.Step ≡ x = cc in ap (λ b. given b (extended l d first f tail.Step t)) (left_true _ _ h) ∙ ap (λ y. given true (extended l d first f y t)) q
goes_on l d first f t _ x e h = absurd (Prim.cc)

stays : {A : Type 0} (b : Bool) (r : Right A) (g : Right A → Read A) (other : Read A) → b ≡ false → begun_at (given b r) g other ≡ other
stays true r g other e = let q : true ≡ false = e in absurd (Prim.cc)
stays false r g other e = refl

with_true : (a : Bool) → (a && true) ≡ false → a ≡ false
with_true true e = e
with_true false e = refl

not_on : (l d : ℕ) (first : Place) (f : Form) (t : Token) (s : Sort) (x : Tail) (g : Right Operand → Read Operand) (other : Read Operand) → tail_at s ≡ Some x → (is_level_free (l + suc (height f)) && tail_fits x d) ≡ false → begun_at (postfix_rule l d first f s t) g other ≡ other
not_on l d first f t Sort.OpenBracket x g other e h = let q : tail.Subscript ≡ x = cc in stays _ _ g other (with_true _ (ap (λ y. is_level_free (l + suc (height f)) && tail_fits y d) q ∙ h))
not_on l d first f t Sort.Dot x g other e h = let q : tail.Member false ≡ x = cc in stays _ _ g other (with_true _ (ap (λ y. is_level_free (l + suc (height f)) && tail_fits y d) q ∙ h))
not_on l d first f t Sort.Arrow x g other e h = let q : tail.Member true ≡ x = cc in stays _ _ g other (with_true _ (ap (λ y. is_level_free (l + suc (height f)) && tail_fits y d) q ∙ h))
not_on l d first f t Sort.Open x g other e h = let q : tail.Call ≡ x = cc in stays _ _ g other (ap (λ y. is_level_free (l + suc (height f)) && tail_fits y d) q ∙ h)
not_on l d first f t Sort.Step x g other e h = let q : tail.Step ≡ x = cc in stays _ _ g other (with_true _ (ap (λ y. is_level_free (l + suc (height f)) && tail_fits y d) q ∙ h))
not_on l d first f t _ x g other e h = absurd (Prim.cc)

no_tail : (l d : ℕ) (first : Place) (f : Form) (t : Token) (s : Sort) (g : Right Operand → Read Operand) (other : Read Operand) → tail_at s ≡ None → begun_at (postfix_rule l d first f s t) g other ≡ other
no_tail l d first f t Sort.OpenBracket g other e = absurd (Prim.cc)
no_tail l d first f t Sort.Dot g other e = absurd (Prim.cc)
no_tail l d first f t Sort.Arrow g other e = absurd (Prim.cc)
no_tail l d first f t Sort.Open g other e = absurd (Prim.cc)
no_tail l d first f t Sort.Step g other e = absurd (Prim.cc)
no_tail l d first f t _ g other e = refl

-- the form ends here: at the end, at another token, or by a bound
pub alone_at_end : (halves : Bool) (l d : ℕ) (first : Place) (f : Form) (a : Bool) {ts : List Token} → ts ≡ [] → first_read halves (postfix l d first f a) ts ≡ Ok (record { form = f; alone = a }, ts)
alone_at_end halves l d first f a e = ap (λ us. first_read halves (postfix l d first f a) us) e ∙ first_none halves (postfix l d first f a) ∙ ap (λ us. Ok (record { form = f; alone = a }, us)) (sym e)

pub alone_at_other : (halves : Bool) (l d : ℕ) (first : Place) (f : Form) (a : Bool) {ts rest : List Token} {t : Token} {s : Sort} → (ts ≡ t ∷ rest) × (s ≡ sort_of halves t.what) → tail_at s ≡ None → first_read halves (postfix l d first f a) ts ≡ Ok (record { form = f; alone = a }, ts)
alone_at_other halves l d first f a {rest = rest} {t = t} at e = ap (λ us. first_read halves (postfix l d first f a) us) at.0 ∙ first_of halves (postfix l d first f a) t rest ∙ no_tail l d first f t (sort_of halves t.what) _ _ (ap tail_at (sym at.1) ∙ e) ∙ ap (λ us. Ok (record { form = f; alone = a }, us)) (sym at.0)

pub alone_at_bound : (halves : Bool) (l d : ℕ) (first : Place) (f : Form) (a : Bool) {ts rest : List Token} {t : Token} {s : Sort} (x : Tail) → (ts ≡ t ∷ rest) × (s ≡ sort_of halves t.what) → tail_at s ≡ Some x → (is_level_free (l + suc (height f)) && tail_fits x d) ≡ false → first_read halves (postfix l d first f a) ts ≡ Ok (record { form = f; alone = a }, ts)
alone_at_bound halves l d first f a {rest = rest} {t = t} x at e h = ap (λ us. first_read halves (postfix l d first f a) us) at.0 ∙ first_of halves (postfix l d first f a) t rest ∙ not_on l d first f t (sort_of halves t.what) x _ _ (ap tail_at (sym at.1) ∙ e) h ∙ ap (λ us. Ok (record { form = f; alone = a }, us)) (sym at.0)

-- it goes on
pub tailed : (halves : Bool) (l d : ℕ) (first : Place) (f : Form) (a : Bool) (x : Tail) (ts rest : List Token) (t : Token) → ts ≡ t ∷ rest → postfix_rule l d first f (sort_of halves t.what) t ≡ given true (extended l d first f x t) → first_read halves (postfix l d first f a) ts ≡ and_read (front halves (longer l d first f x t) rest) (λ p after. first_read halves (postfix l d first p.form p.alone) after)
tailed halves l d first f a x ts rest t e h = ap (λ us. first_read halves (postfix l d first f a) us) e ∙ first_of halves (postfix l d first f a) t rest ∙ ap (λ o. begun_at o (λ r. front halves r rest) (Ok (record { form = f; alone = a }, t ∷ rest))) h ∙ bind halves (longer l d first f x t) (λ p. form (postfix l d first p.form p.alone)) rest ∙ and_same (front halves (longer l d first f x t) rest) _ _ (λ p after. read_again (first_read halves (postfix l d first p.form p.alone) after))
