-- Every expression that has the shape of one is read again.
use Rattle.std.proofs.Common.{◌≡◌, refl, sym, subst, ap, ℕ, ◌+◌, ◌≤◌, Bool, true, false, List, [], ◌∷◌, map}
use Rattle.std.specs.Prelude.{◌&&◌, ◌||◌}
use Rattle.std.specs.List.{list_all}
use Rattle.std.proofs.lemmas.Bool.{false≢true}
use Rattle.mdr_syntax.specs.declared.tree.Form.{Form}
use Rattle.mdr_syntax.specs.declared.tree.FormWhat
use Rattle.mdr_syntax.specs.declared.tree.FormWhat.{FormWhat}
use Rattle.mdr_syntax.specs.declared.tree.FormWhat.TheOpen.{FormWhat-F}
use Rattle.mdr_syntax.specs.declared.tree.FormWhat.TheFolds.{ind-Form, map-FormWhat, fold-roll-FormWhat, fold_out-Form}
use Rattle.mdr_print.specs.Marks.{Mark, word as printed_word, number, quoted}
use Rattle.mdr_print.specs.Types.{type_name}
use Rattle.mdr_print.specs.Forms.{Shown, plain, literal, what_shown, form_shown, shown_form, shown_what, form}
use Rattle.mdr_print.specs.Spelled.{lexemes}
use Rattle.mdr_roundtrip.specs.Words.{is_among, is_written, is_writable, is_prefix, is_step}
use Rattle.mdr_roundtrip.specs.Printable.{all}
use Rattle.mdr_roundtrip.proofs.Tests.{both}
use Rattle.mdr_grammar.specs.Forms.Part.{expression}
use Rattle.mdr_grammar.specs.Forms.Nonterminal.{part}
use Rattle.mdr_grammar.specs.Expressions.{height, form_at}
use Rattle.mdr_grammar.specs.Grammar.{Gets}
use Rattle.mdr_roundtrip.specs.Unplaced.{nowhere, all_at, unplaced_base, what_unplaced, form_unplaced, unplaced_form, unplaced_what}
use Rattle.mdr_roundtrip.specs.Shaped.{is_name, services, binaries, is_named_base, are_stars, Shape, standing, only_argument, argument_of, what_shaped, form_shaped, shape_of, shape_of_what}
use Rattle.mdr_roundtrip.proofs.Heights.{unplaced_height}
use Rattle.mdr_roundtrip.proofs.Rereading.{IsReread}
use Rattle.mdr_roundtrip.proofs.RereadForms.{number_reread, null_reread, name_reread, post_reread, subscript_reread, member_reread, prefix_reread, binary_reread, choice_reread, cast_reread, IsArgument, expression_argument, text_argument, type_argument, AreArguments, IsCalled, expression_called, service_called, call_reread}

-- where it may stand it is read
pub record Claim (halves : Bool) (shape : Shape) (s : Shown) (f : Form) : Type 0 where
  pub expression : shape.expression ≡ true → IsReread halves s f
  pub called : shape.called ≡ true → IsCalled halves s f
  pub argument : shape.argument ≡ true → IsArgument halves s f

moved : (halves : Bool) {shape shape' : Shape} {s s' : Shown} {f f' : Form} → shape ≡ shape' → s ≡ s' → f ≡ f' → Claim halves shape' s' f' → Claim halves shape s f
moved halves {shape} {shape'} {s} {s'} {f} {f'} p q r c =
    subst (λ (x : Shape). Claim halves x s f) (sym p) (subst (λ (x : Shown). Claim halves shape' x f) (sym q) (subst (λ (x : Form). Claim halves shape' s' x) (sym r) c))

whole : (halves : Bool) (b : Bool) (s : Shown) (f : Form) → (b ≡ true → IsReread halves s f) → Claim halves (standing b) s f
whole halves b s f g = record { expression = g; called = λ h. expression_called halves s f (g h); argument = λ h. expression_argument halves s f (g h) }

only : (halves : Bool) (b : Bool) (s : Shown) (f : Form) → (b ≡ true → IsArgument halves s f) → Claim halves (only_argument b) s f
only halves b s f g = record { expression = λ h. absurd (false≢true h); called = λ h. absurd (false≢true h); argument = g }

abbrev GoodForm : Bool → Form → Type 0
GoodForm halves f = Claim halves (shape_of f) (shown_form f) (unplaced_form f)

abbrev GoodWhat : Bool → FormWhat → Type 0
GoodWhat halves w = Claim halves (shape_of_what w) (shown_what w) (form_at nowhere (unplaced_what w))

abbrev Layer : Bool → FormWhat-F FormWhat Form → Type 0
Layer halves l = Claim halves (what_shaped (map-FormWhat FormWhat Form Shape Shape shape_of_what shape_of l)) (what_shown (map-FormWhat FormWhat Form Shown Shown shown_what shown_form l)) (form_at nowhere (what_unplaced (map-FormWhat FormWhat Form FormWhat Form unplaced_what unplaced_form l)))

named_called : (halves : Bool) (name : List ℕ) → (is_name name || is_among services name) ≡ true → IsCalled halves (plain (printed_word name)) (form_at nowhere (FormWhat.Name name))
named_called halves name h = on (is_name name) refl
  where
    on : (b : Bool) → is_name name ≡ b → IsCalled halves (plain (printed_word name)) (form_at nowhere (FormWhat.Name name))
    on true e = expression_called halves (plain (printed_word name)) (form_at nowhere (FormWhat.Name name)) (name_reread halves name e)
    on false e = service_called halves name (left (is_name name) (is_among services name) h e)
      where
        left : (a b : Bool) → (a || b) ≡ true → a ≡ false → b ≡ true
        left true b h e = absurd (false≢true (sym e))
        left false b h e = h

pub args_are : (halves : Bool) {X : Type 0} (of : X → Form) → ((x : X) → GoodForm halves (of x)) → (xs : List X) → all (map argument_of (map shape_of (map of xs))) ≡ true → AreArguments halves (map shown_form (map of xs)) (map unplaced_form (map of xs))
args_are halves of good [] h = tt
args_are halves of good (x ∷ xs) h =
    let k = both (shape_of (of x)).argument (all (map argument_of (map shape_of (map of xs)))) h in
    ((good x).argument k.0, args_are halves of good xs k.1)

layer_is : (halves : Bool) {X Y : Type 0} (what : X → FormWhat) (of : Y → Form) → ((y : Y) → GoodForm halves (of y)) → (l : FormWhat-F X Y) → Layer halves (map-FormWhat X Y FormWhat Form what of l)
layer_is halves what of good (FormWhat-F.Number n kind) = whole halves (is_written n kind) (literal (number n kind)) (form_at nowhere (FormWhat.Number n kind)) (λ h. number_reread halves n kind)
layer_is halves what of good FormWhat-F.Null = whole halves true _ (form_at nowhere FormWhat.Null) (λ h. null_reread halves)
layer_is halves what of good (FormWhat-F.Name name) = record {
  expression = λ h. name_reread halves name h;
  called = λ h. named_called halves name h;
  argument = λ h. expression_argument halves (plain (printed_word name)) (form_at nowhere (FormWhat.Name name)) (name_reread halves name h);
}
layer_is halves what of good (FormWhat-F.Prefix op a) = whole halves (is_prefix op && (shape_of (of a)).expression) _ (form_at nowhere (FormWhat.Prefix op (unplaced_form (of a)))) (λ h.
    let k = both (is_prefix op) (shape_of (of a)).expression h in
    prefix_reread halves op (shown_form (of a)) (unplaced_form (of a)) k.0 ((good a).expression k.1))
layer_is halves what of good (FormWhat-F.Post op a) = whole halves (is_step op && (shape_of (of a)).expression) _ (form_at nowhere (FormWhat.Post op (unplaced_form (of a)))) (λ h.
    let k = both (is_step op) (shape_of (of a)).expression h in
    post_reread halves op (shown_form (of a)) (unplaced_form (of a)) k.0 ((good a).expression k.1))
layer_is halves what of good (FormWhat-F.Cast b n a) = whole halves (is_named_base b && (are_stars n && (shape_of (of a)).expression)) _ (form_at nowhere (FormWhat.Cast (unplaced_base b) n (unplaced_form (of a)))) (λ h.
    let k = both (is_named_base b) (are_stars n && (shape_of (of a)).expression) h in
    let j = both (are_stars n) (shape_of (of a)).expression k.1 in
    cast_reread halves b n (shown_form (of a)) (unplaced_form (of a)) k.0 j.0 ((good a).expression j.1))
layer_is halves what of good (FormWhat-F.Binary op a b) = whole halves (is_among binaries op && ((shape_of (of a)).expression && (shape_of (of b)).expression)) _ (form_at nowhere (FormWhat.Binary op (unplaced_form (of a)) (unplaced_form (of b)))) (λ h.
    let k = both (is_among binaries op) ((shape_of (of a)).expression && (shape_of (of b)).expression) h in
    let j = both (shape_of (of a)).expression (shape_of (of b)).expression k.1 in
    binary_reread halves op (shown_form (of a)) (shown_form (of b)) (unplaced_form (of a)) (unplaced_form (of b)) k.0 ((good a).expression j.0) ((good b).expression j.1))
layer_is halves what of good (FormWhat-F.Choice c a b) = whole halves ((shape_of (of c)).expression && ((shape_of (of a)).expression && (shape_of (of b)).expression)) _ (form_at nowhere (FormWhat.Choice (unplaced_form (of c)) (unplaced_form (of a)) (unplaced_form (of b)))) (λ h.
    let k = both (shape_of (of c)).expression ((shape_of (of a)).expression && (shape_of (of b)).expression) h in
    let j = both (shape_of (of a)).expression (shape_of (of b)).expression k.1 in
    choice_reread halves (shown_form (of c)) (shown_form (of a)) (shown_form (of b)) (unplaced_form (of c)) (unplaced_form (of a)) (unplaced_form (of b)) ((good c).expression k.0) ((good a).expression j.0) ((good b).expression j.1))
layer_is halves what of good (FormWhat-F.Subscript a i) = whole halves ((shape_of (of a)).expression && (shape_of (of i)).expression) _ (form_at nowhere (FormWhat.Subscript (unplaced_form (of a)) (unplaced_form (of i)))) (λ h.
    let k = both (shape_of (of a)).expression (shape_of (of i)).expression h in
    subscript_reread halves (shown_form (of a)) (shown_form (of i)) (unplaced_form (of a)) (unplaced_form (of i)) ((good a).expression k.0) ((good i).expression k.1))
layer_is halves what of good (FormWhat-F.Member a is_arrow place name) = whole halves ((shape_of (of a)).expression && is_name name) _ (form_at nowhere (FormWhat.Member (unplaced_form (of a)) is_arrow nowhere name)) (λ h.
    let k = both (shape_of (of a)).expression (is_name name) h in
    member_reread halves (shown_form (of a)) (unplaced_form (of a)) is_arrow name k.1 ((good a).expression k.0))
layer_is halves what of good (FormWhat-F.Call f args) = whole halves ((shape_of (of f)).called && all (map argument_of (map shape_of (map of args)))) _ (form_at nowhere (FormWhat.Call (unplaced_form (of f)) (map unplaced_form (map of args)))) (λ h.
    let k = both (shape_of (of f)).called (all (map argument_of (map shape_of (map of args)))) h in
    call_reread halves (shown_form (of f)) (unplaced_form (of f)) (map shown_form (map of args)) (map unplaced_form (map of args)) ((good f).called k.0) (args_are halves of good args k.1))
layer_is halves what of good (FormWhat-F.Text bytes) = only halves (list_all is_writable bytes) (plain (quoted bytes)) (form_at nowhere (FormWhat.Text bytes)) (λ h. text_argument halves bytes)
layer_is halves what of good (FormWhat-F.Base b n) = only halves (is_named_base b && are_stars n) (plain (type_name b n)) (form_at nowhere (FormWhat.Base (unplaced_base b) n)) (λ h.
    let k = both (is_named_base b) (are_stars n) h in type_argument halves b n k.0 k.1)

pub good_forms : (halves : Bool) (f : Form) → GoodForm halves f
good_forms halves = ind-Form (GoodWhat halves) (GoodForm halves)
    (λ x y is. moved halves (fold-roll-FormWhat Shape Shape what_shaped form_shaped x) (fold-roll-FormWhat Shown Shown what_shown form_shown x) (ap (form_at nowhere) (fold-roll-FormWhat FormWhat Form what_unplaced form_unplaced x))
    (subst (Layer halves) is (layer_is halves (λ e. e.0) (λ e. e.0) (λ e. e.1) y)))
    (λ x y is. moved halves (fold_out-Form Shape Shape what_shaped form_shaped (record { place = x.place; what = x.what })) (fold_out-Form Shown Shown what_shown form_shown (record { place = x.place; what = x.what })) (fold_out-Form FormWhat Form what_unplaced form_unplaced (record { place = x.place; what = x.what }))
    (subst (GoodWhat halves) (ap (λ z. z.what) is) (y.what.1)))

-- an expression is read from what is printed of it, behind which anything may stand
pub expressions_reread : (halves : Bool) (f : Form) (l d : ℕ) (rest : List Mark) → (shape_of f).expression ≡ true → l + height f ≤ 256 → d + height f ≤ 512 → Gets halves (part (expression l d)) (all_at (lexemes (form f rest))) (all_at (lexemes rest)) (unplaced_form f)
expressions_reread halves f l d rest h a b =
    ((good_forms halves f).expression h).whole l d rest (subst (λ (n : ℕ). l + n ≤ 256) (sym (unplaced_height f)) a) (subst (λ (n : ℕ). d + n ≤ 512) (sym (unplaced_height f)) b)
