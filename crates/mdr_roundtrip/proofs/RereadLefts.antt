-- Printed left sides of assignments, and expressions that are statements, are read again as operands without a cast.
use Rattle.std.proofs.Common.{◌≡◌, refl, sym, subst, ap, arith, ℕ, suc, ◌+◌, ◌≤◌, Bool, true, false, not, List, ◌∷◌, map}
use Rattle.std.specs.Prelude.{codes}
use Rattle.std.proofs.lemmas.Bool.{false≢true}
use Rattle.mdr_syntax.specs.declared.token.Lexeme.TheVariants.{Punct}
use Rattle.mdr_syntax.specs.declared.tree.Form.{Form}
use Rattle.mdr_syntax.specs.declared.tree.FormWhat
use Rattle.mdr_syntax.specs.declared.tree.FormWhat.{FormWhat}
use Rattle.mdr_syntax.specs.declared.tree.FormWhat.TheOpen.{FormWhat-F}
use Rattle.mdr_syntax.specs.declared.tree.FormWhat.TheFolds.{ind-Form, map-FormWhat, fold-roll-FormWhat, fold_out-Form}
use Rattle.mdr_print.specs.Marks.{Mark, Is, sign, comma_list, in_parentheses, ◌▸◌}
use Rattle.mdr_print.specs.Forms.{Shown, marks_of, plain, prefixed, parenthesised_if, operand as printed_operand, left_of, what_shown, form_shown, shown_form, shown_what, form, left_side}
use Rattle.mdr_roundtrip.specs.Words.{is_prefix, is_step, steps}
use Rattle.mdr_roundtrip.specs.Printable.{all}
use Rattle.mdr_roundtrip.proofs.Tests.{both, among}
use Rattle.mdr_grammar.specs.declared.sort.Sort.{Sort}
use Rattle.mdr_grammar.specs.Sorts.{sort_of, marks}
use Rattle.mdr_grammar.specs.Forms.Part.{operand}
use Rattle.mdr_grammar.specs.Forms.Nonterminal.{part}
use Rattle.mdr_grammar.specs.Expressions.{height, form_at, operand_rule}
use Rattle.mdr_grammar.specs.Grammar.{Gets}
use Rattle.mdr_grammar.specs.Grammar.Gets.{absent, present}
use Rattle.mdr_grammar.specs.Grammar.Follows.{done, both as parts}
use Rattle.mdr_roundtrip.specs.Unplaced.{nowhere, at, what_unplaced, form_unplaced, unplaced_form, unplaced_what}
use Rattle.mdr_roundtrip.specs.Shaped.{Shape, argument_of, what_shaped, form_shaped, shape_of, shape_of_what}
use Rattle.mdr_roundtrip.specs.Alone.{what_alone, form_alone, is_alone, is_alone_what}
use Rattle.mdr_roundtrip.proofs.Following.{free}
use Rattle.mdr_roundtrip.proofs.Signs.{step_after}
use Rattle.mdr_roundtrip.proofs.Heights.{unplaced_height, prefix_height, post_height, call_height}
use Rattle.mdr_roundtrip.proofs.Rereading.{tokens_of, IsReread, parenthesised, wrapped, as_operand}
use Rattle.mdr_roundtrip.proofs.RereadForms.{allowed, up_to, sinks, as_prefix, IsCalled, AreArguments, arguments_reread}
use Rattle.mdr_roundtrip.proofs.RereadExpressions.{good_forms, args_are}

-- an operand in front of whatever stands there
pub record AsLeft (halves : Bool) (s : Shown) (f : Form) : Type 0 where
  pub is_alone : Bool
  pub read : (l d : ℕ) (rest : List Mark) → l + height f ≤ 256 → d + suc (height f) ≤ 512 → Gets halves (part (operand false l d)) (tokens_of (left_of s rest)) (tokens_of rest) (record { form = f; alone = is_alone })

pub record AsPlain (halves : Bool) (s : Shown) (f : Form) : Type 0 where
  pub read : (l d : ℕ) (rest : List Mark) → l + height f ≤ 256 → d + suc (height f) ≤ 512 → Gets halves (part (operand false l d)) (tokens_of (s.marks rest)) (tokens_of rest) (record { form = f; alone = true })

-- what is no operator form
bare_left : (halves : Bool) (s : Shown) (f : Form) → IsReread halves s f → s.is_operator ≡ false → s.is_unary ≡ true → AsLeft halves s f
bare_left halves s f g e u = record {
  is_alone = g.alone;
  read = λ l d rest a b.
      subst (λ (t : Bool). Gets halves (part (operand false l d)) (tokens_of (parenthesised_if (not t) s.marks rest)) (tokens_of rest) (record { form = f; alone = g.alone })) (sym u)
      (g.chain e false l d rest (tokens_of rest) (record { form = f; alone = g.alone }) a (omega (arith, b)) (absent refl));
}

-- what is no unary expression
wide_left : (halves : Bool) (s : Shown) (f : Form) → IsReread halves s f → s.is_unary ≡ false → AsLeft halves s f
wide_left halves s f g u = record {
  is_alone = false;
  read = λ l d rest a b.
      subst (λ (t : Bool). Gets halves (part (operand false l d)) (tokens_of (parenthesised_if (not t) s.marks rest)) (tokens_of rest) (record { form = f; alone = false })) (sym u)
      (parenthesised halves false l d s f g rest (tokens_of rest) (record { form = f; alone = false }) a b (absent refl));
}

prefix_left : (halves : Bool) (op : List ℕ) (s : Shown) (f : Form) → is_prefix op ≡ true → IsReread halves s f → AsLeft halves (prefixed (sign op ▸ printed_operand s)) (form_at nowhere (FormWhat.Prefix op f))
prefix_left halves op s f h g =
    let p = as_prefix halves op s f h g in
    record {
      is_alone = p.is_alone;
      read = λ l d rest a b.
          let few = up_to d 512 (ap suc (prefix_height nowhere op f)) b in
          p.read false l d rest (up_to l 256 (prefix_height nowhere op f) a) (omega (arith, few));
    }

step_sort : (halves : Bool) (op : List ℕ) → is_step op ≡ true → sort_of halves (Punct op) ≡ Sort.Step
unfolding sort_of marks steps
step_sort halves op h = among (λ t. sort_of halves (Punct t) ≡ Sort.Step) steps op (refl, (refl, tt)) h

step_plain : (halves : Bool) (op : List ℕ) (s : Shown) (f : Form) → is_step op ≡ true → IsReread halves s f → AsPlain halves (prefixed (sign op ▸ printed_operand s)) (form_at nowhere (FormWhat.Prefix op f))
step_plain halves op s f h g = record {
  read = λ l d rest a b.
      let low = up_to l 256 (prefix_height nowhere op f) a in
      let few = up_to d 512 (ap suc (prefix_height nowhere op f)) b in
      let x = as_operand halves false (l + 1) d s f g rest (omega (arith, low)) (omega (arith, few)) in
      present (allowed (ap (λ s. operand_rule false l d s (at (Punct op))) (step_sort halves op h)) (free (l + 1) (omega (arith, low)))) (parts x.read done);
}

post_plain : (halves : Bool) (op : List ℕ) (s : Shown) (f : Form) → is_step op ≡ true → IsReread halves s f → AsPlain halves (plain (printed_operand s ▸ sign op)) (form_at nowhere (FormWhat.Post op f))
post_plain halves op s f h g = record {
  read = λ l d rest a b.
      let low = up_to l 256 (post_height nowhere op f) a in
      let few = up_to d 512 (ap suc (post_height nowhere op f)) b in
      wrapped halves false l d s f g s.is_operator (λ e. e) (Is (Punct op) ∷ rest) (tokens_of rest) (record { form = form_at nowhere (FormWhat.Post op f); alone = true }) (omega (arith, low)) (omega (arith, few))
      (λ alone. present (allowed (step_after halves op h l d nowhere f) (sinks l f low)) (parts (absent refl) done));
}

call_plain : (halves : Bool) (s : Shown) (f : Form) (ss : List Shown) (fs : List Form) → IsCalled halves s f → AreArguments halves ss fs → AsPlain halves (plain (printed_operand s ▸ in_parentheses (comma_list (map marks_of ss)))) (form_at nowhere (FormWhat.Call f fs))
call_plain halves s f ss fs g h = record {
  read = λ l d rest a b.
      let low = up_to l 256 (call_height nowhere f fs) a in
      let few = up_to d 512 (ap suc (call_height nowhere f fs)) b in
      g.read false l d (comma_list (map marks_of ss) (Is (Punct (codes ")")) ∷ rest)) rest fs (tokens_of rest) (record { form = form_at nowhere (FormWhat.Call f fs); alone = true }) (omega (arith, low)) (omega (arith, few))
      (arguments_reread halves l d ss fs (Is (Punct (codes ")")) ∷ rest) h (omega (arith, low)) (omega (arith, few))) (absent refl);
}

-- ---- form by form

record Claim (halves : Bool) (shape : Shape) (is_alone : Bool) (s : Shown) (f : Form) : Type 0 where
  left : shape.expression ≡ true → IsReread halves s f → AsLeft halves s f
  plain_one : is_alone ≡ true → shape.expression ≡ true → AsPlain halves s f

only_left : (halves : Bool) (shape : Shape) (s : Shown) (f : Form) → (shape.expression ≡ true → IsReread halves s f → AsLeft halves s f) → Claim halves shape false s f
only_left halves shape s f g = record { left = g; plain_one = λ e h. absurd (false≢true e) }

abbrev Layer : Bool → FormWhat-F FormWhat Form → Type 0
Layer halves l = Claim halves (what_shaped (map-FormWhat FormWhat Form Shape Shape shape_of_what shape_of l)) (what_alone (map-FormWhat FormWhat Form Bool Bool is_alone_what is_alone l)) (what_shown (map-FormWhat FormWhat Form Shown Shown shown_what shown_form l)) (form_at nowhere (what_unplaced (map-FormWhat FormWhat Form FormWhat Form unplaced_what unplaced_form l)))

layer_is : (halves : Bool) {X Y : Type 0} (what : X → FormWhat) (of : Y → Form) → (l : FormWhat-F X Y) → Layer halves (map-FormWhat X Y FormWhat Form what of l)
layer_is halves what of (FormWhat-F.Number n kind) = only_left halves _ _ _ (λ h g. bare_left halves _ _ g refl refl)
layer_is halves what of FormWhat-F.Null = only_left halves _ _ _ (λ h g. bare_left halves _ _ g refl refl)
layer_is halves what of (FormWhat-F.Name name) = only_left halves _ _ _ (λ h g. bare_left halves _ _ g refl refl)
layer_is halves what of (FormWhat-F.Prefix op a) = record {
  left = λ h g. let k = both (is_prefix op) (shape_of (of a)).expression h in prefix_left halves op (shown_form (of a)) (unplaced_form (of a)) k.0 ((good_forms halves (of a)).expression k.1);
  plain_one = λ e h. let k = both (is_prefix op) (shape_of (of a)).expression h in step_plain halves op (shown_form (of a)) (unplaced_form (of a)) e ((good_forms halves (of a)).expression k.1);
}
layer_is halves what of (FormWhat-F.Post op a) = record {
  left = λ h g. bare_left halves _ _ g refl refl;
  plain_one = λ e h. let k = both (is_step op) (shape_of (of a)).expression h in post_plain halves op (shown_form (of a)) (unplaced_form (of a)) k.0 ((good_forms halves (of a)).expression k.1);
}
layer_is halves what of (FormWhat-F.Cast b n a) = only_left halves _ _ _ (λ h g. wide_left halves _ _ g refl)
layer_is halves what of (FormWhat-F.Binary op a b) = only_left halves _ _ _ (λ h g. wide_left halves _ _ g refl)
layer_is halves what of (FormWhat-F.Choice c a b) = only_left halves _ _ _ (λ h g. wide_left halves _ _ g refl)
layer_is halves what of (FormWhat-F.Subscript a i) = only_left halves _ _ _ (λ h g. bare_left halves _ _ g refl refl)
layer_is halves what of (FormWhat-F.Member a is_arrow place name) = only_left halves _ _ _ (λ h g. bare_left halves _ _ g refl refl)
layer_is halves what of (FormWhat-F.Call f args) = record {
  left = λ h g. bare_left halves _ _ g refl refl;
  plain_one = λ e h.
      let k = both (shape_of (of f)).called (all (map argument_of (map shape_of (map of args)))) h in
      call_plain halves (shown_form (of f)) (unplaced_form (of f)) (map shown_form (map of args)) (map unplaced_form (map of args)) ((good_forms halves (of f)).called k.0) (args_are halves of (λ x. good_forms halves (of x)) args k.1);
}
layer_is halves what of (FormWhat-F.Text bytes) = only_left halves _ _ _ (λ h g. absurd (false≢true h))
layer_is halves what of (FormWhat-F.Base b n) = only_left halves _ _ _ (λ h g. absurd (false≢true h))

abbrev GoodForm : Bool → Form → Type 0
GoodForm halves f = Claim halves (shape_of f) (is_alone f) (shown_form f) (unplaced_form f)

abbrev GoodWhat : Bool → FormWhat → Type 0
GoodWhat halves w = Claim halves (shape_of_what w) (is_alone_what w) (shown_what w) (form_at nowhere (unplaced_what w))

moved : (halves : Bool) {shape shape' : Shape} {b b' : Bool} {s s' : Shown} {f f' : Form} → shape ≡ shape' → b ≡ b' → s ≡ s' → f ≡ f' → Claim halves shape' b' s' f' → Claim halves shape b s f
moved halves {shape} {shape'} {b} {b'} {s} {s'} {f} {f'} p o q r c =
    subst (λ (x : Shape). Claim halves x b s f) (sym p) (subst (λ (x : Bool). Claim halves shape' x s f) (sym o) (subst (λ (x : Shown). Claim halves shape' b' x f) (sym q) (subst (λ (x : Form). Claim halves shape' b' s' x) (sym r) c)))

good_lefts : (halves : Bool) (f : Form) → GoodForm halves f
good_lefts halves = ind-Form (GoodWhat halves) (GoodForm halves)
    (λ x y is. moved halves (fold-roll-FormWhat Shape Shape what_shaped form_shaped x) (fold-roll-FormWhat Bool Bool what_alone form_alone x) (fold-roll-FormWhat Shown Shown what_shown form_shown x) (ap (form_at nowhere) (fold-roll-FormWhat FormWhat Form what_unplaced form_unplaced x))
    (subst (Layer halves) is (layer_is halves (λ e. e.0) (λ e. e.0) y)))
    (λ x y is. moved halves (fold_out-Form Shape Shape what_shaped form_shaped (record { place = x.place; what = x.what })) (fold_out-Form Bool Bool what_alone form_alone (record { place = x.place; what = x.what })) (fold_out-Form Shown Shown what_shown form_shown (record { place = x.place; what = x.what })) (fold_out-Form FormWhat Form what_unplaced form_unplaced (record { place = x.place; what = x.what }))
    (subst (GoodWhat halves) (ap (λ z. z.what) is) (y.what.1)))

-- a left side is an operand without a cast, whatever stands behind it
pub record IsLeftRead (halves : Bool) (f : Form) (l d : ℕ) (rest : List Mark) : Type 0 where
  pub is_alone : Bool
  pub read : Gets halves (part (operand false l d)) (tokens_of (left_side f rest)) (tokens_of rest) (record { form = unplaced_form f; alone = is_alone })

pub lefts_reread : (halves : Bool) (f : Form) (l d : ℕ) (rest : List Mark) → (shape_of f).expression ≡ true → l + height f ≤ 256 → d + suc (height f) ≤ 512 → IsLeftRead halves f l d rest
lefts_reread halves f l d rest h a b =
    let x = (good_lefts halves f).left h ((good_forms halves f).expression h) in
    record {
      is_alone = x.is_alone;
      read = x.read l d rest (subst (λ (n : ℕ). l + n ≤ 256) (sym (unplaced_height f)) a) (subst (λ (n : ℕ). d + suc n ≤ 512) (sym (unplaced_height f)) b);
    }

-- an expression that is a statement
pub alone_reread : (halves : Bool) (f : Form) (l d : ℕ) (rest : List Mark) → is_alone f ≡ true → (shape_of f).expression ≡ true → l + height f ≤ 256 → d + suc (height f) ≤ 512 → Gets halves (part (operand false l d)) (tokens_of (form f rest)) (tokens_of rest) (record { form = unplaced_form f; alone = true })
alone_reread halves f l d rest o h a b =
    ((good_lefts halves f).plain_one o h).read l d rest (subst (λ (n : ℕ). l + n ≤ 256) (sym (unplaced_height f)) a) (subst (λ (n : ℕ). d + suc n ≤ 512) (sym (unplaced_height f)) b)
