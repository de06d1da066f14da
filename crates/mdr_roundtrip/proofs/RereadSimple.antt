-- Printed assignments, calls and locals are read again.
use Rattle.std.proofs.Common.{◌≡◌, refl, sym, subst, ap, ◌∙◌, arith, ℕ, ◌+◌, ◌≤◌, Bool, true, false, Option, Some, None, List}
use Rattle.std.specs.Prelude.{◌&&◌, ◌||◌, is_none, codes}
use Rattle.std.specs.Option.{option_map}
use Rattle.std.proofs.lemmas.Bool.{false≢true, leb-true}
use Rattle.mdr_syntax.specs.declared.token.Lexeme.TheVariants.{Punct}
use Rattle.mdr_syntax.specs.declared.token.Token.{Token}
use Rattle.mdr_syntax.specs.declared.tree.AnnText.{AnnText}
use Rattle.mdr_syntax.specs.declared.tree.Base.{Base}
use Rattle.mdr_syntax.specs.declared.tree.Decl.{Decl, out-Decl, roll-Decl, roll-out-Decl}
use Rattle.mdr_syntax.specs.declared.tree.Form.{Form}
use Rattle.mdr_syntax.specs.declared.tree.FormWhat.{FormWhat}
use Rattle.mdr_syntax.specs.declared.tree.FormWhat.TheOpen.{FormWhat-F}
use Rattle.mdr_syntax.specs.declared.tree.FormWhat.TheFolds.{ind-Form, map-FormWhat, fold-roll-FormWhat, fold_out-Form, fold-FormWhat}
use Rattle.mdr_syntax.specs.declared.tree.Node.{Node}
use Rattle.mdr_syntax.specs.declared.tree.NodeWhat
use Rattle.mdr_print.specs.Marks.{Mark, Marks, spaced}
use Rattle.mdr_print.specs.Types.{base_name}
use Rattle.mdr_print.specs.Forms.{Shown, what_shown, form_shown, shown_form, shown_what, form, left_side}
use Rattle.mdr_print.specs.Declarations.{Declared, shown_decl, declaration, declarator as declarator_of}
use Rattle.mdr_print.specs.Statements.{assigned as printed_value}
use Rattle.mdr_print.specs.Spelled.{lexemes}
use Rattle.mdr_roundtrip.specs.Words.{is_among}
use Rattle.mdr_roundtrip.specs.PrintableDeclarations.{maybe}
use Rattle.mdr_roundtrip.proofs.Tests.{both, among}
use Rattle.mdr_grammar.specs.declared.sort.Sort.{Sort}
use Rattle.mdr_grammar.specs.Sorts.{sort_of, marks}
use Rattle.mdr_grammar.specs.Forms.{Right, ◌>>=◌, form as whole_form, one, and_then}
use Rattle.mdr_grammar.specs.Forms.Part.{expression, declarator, simple, local, right, right_side}
use Rattle.mdr_grammar.specs.Forms.Nonterminal.{part, option, assignment}
use Rattle.mdr_grammar.specs.Forms.Right.{gives}
use Rattle.mdr_grammar.specs.Forms.Rule.{given}
use Rattle.mdr_grammar.specs.Expressions.{is_level_free, height, form_at, expression_rule}
use Rattle.mdr_grammar.specs.Statements.{node_at, assignment_rule, right_side_rule, local_of}
use Rattle.mdr_grammar.specs.Declarations.{with_annotation}
use Rattle.mdr_grammar.specs.Grammar.{rule, Gets}
use Rattle.mdr_grammar.specs.Grammar.Gets.{absent, present}
use Rattle.mdr_grammar.specs.Grammar.Follows.{done, both as parts}
use Rattle.mdr_roundtrip.specs.Unplaced.{nowhere, at, unplaced_base, what_unplaced, form_unplaced, unplaced_form, unplaced_what}
use Rattle.mdr_roundtrip.specs.Shaped.{is_named_base, shape_of}
use Rattle.mdr_roundtrip.specs.Declarations.{Standing, unplaced_decl, is_shaped_decl}
use Rattle.mdr_roundtrip.specs.Alone.{is_alone}
use Rattle.mdr_roundtrip.specs.Stated.{is_expression_at, what_texted, form_texted, is_text_form, is_right_at, assignments, local_at}
use Rattle.mdr_roundtrip.proofs.Following.{through, through_first}
use Rattle.mdr_roundtrip.proofs.Rereading.{tokens_of, no_rule}
use Rattle.mdr_roundtrip.proofs.RereadForms.{placed_first}
use Rattle.mdr_roundtrip.proofs.RereadExpressions.{expressions_reread}
use Rattle.mdr_roundtrip.proofs.RereadParts.{nowhere_based}
use Rattle.mdr_roundtrip.proofs.RereadDecls.{IsAlone, good_decls, right_gives}
use Rattle.mdr_roundtrip.proofs.RereadLefts.{lefts_reread, alone_reread}

equals_sort : (halves : Bool) → sort_of halves (Punct (codes "=")) ≡ Sort.Equals
unfolding sort_of marks
equals_sort halves = refl

-- ---- expressions inside statements

pub low_of : (l : ℕ) (f : Form) → is_expression_at l f ≡ true → l + height f ≤ 256
low_of l f h = leb-true (l + height f) 256 (both (shape_of f).expression (is_level_free (l + height f)) h).1

pub expression_reread : (halves : Bool) (f : Form) (l d : ℕ) (rest : List Mark) → is_expression_at l f ≡ true → d ≤ 1 → Gets halves (part (expression l d)) (tokens_of (form f rest)) (tokens_of rest) (unplaced_form f)
expression_reread halves f l d rest h few =
    let low = low_of l f h in
    expressions_reread halves f l d rest (both (shape_of f).expression (is_level_free (l + height f)) h).0 low (omega (arith, low, few))

-- ---- assignments and calls

assignment_begins : (halves : Bool) (op : List ℕ) (l d : ℕ) (f : Form) → is_among assignments op ≡ true → assignment_rule nowhere l d f (sort_of halves (Punct op)) (at (Punct op)) ≡ given true (one (expression (l + 1) d) >>= λ g. gives (node_at nowhere (NodeWhat.Assign nowhere op f g)))
unfolding sort_of marks assignments
assignment_begins halves op l d f h =
    among (λ t. assignment_rule nowhere l d f (sort_of halves (Punct t)) (at (Punct t)) ≡ given true (one (expression (l + 1) d) >>= λ g. gives (node_at nowhere (NodeWhat.Assign nowhere t f g)))) assignments op
    (refl, (refl, (refl, (refl, (refl, (refl, (refl, (refl, (refl, (refl, (refl, tt))))))))))) h

pub assign_reread : (halves : Bool) (op : List ℕ) (f g : Form) (l d : ℕ) (rest : List Mark) → (is_among assignments op && (is_expression_at (l + 1) f && is_expression_at (l + 1) g)) ≡ true → d ≤ 1
    → Gets halves (part (simple l d)) (tokens_of (left_side f (spaced op (form g rest)))) (tokens_of rest) (node_at nowhere (NodeWhat.Assign nowhere op (unplaced_form f) (unplaced_form g)))
assign_reread halves op f g l d rest h few =
    let k = both (is_among assignments op) (is_expression_at (l + 1) f && is_expression_at (l + 1) g) h in
    let j = both (is_expression_at (l + 1) f) (is_expression_at (l + 1) g) k.1 in
    let low = low_of (l + 1) f j.0 in
    let x = lefts_reread halves f (l + 1) d (spaced op (form g rest)) (both (shape_of f).expression (is_level_free (l + 1 + height f)) j.0).0 low (omega (arith, low, few)) in
    through_first halves (λ x. whole_form (assignment nowhere l d x.form x.alone)) refl
    (λ s t us r q e. ap (λ o. and_then o (λ x. whole_form (assignment t.place l d x.form x.alone))) e ∙ ap (λ p. given true (r >>= λ x. whole_form (assignment p l d x.form x.alone))) (placed_first (lexemes (left_side f (spaced op (form g rest)))) q))
    x.read
    (parts (present (assignment_begins halves op l d (unplaced_form f) k.0) (parts (expression_reread halves g (l + 1) d rest j.1 few) done)) done)

pub plain_reread : (halves : Bool) (f : Form) (l d : ℕ) (rest : List Mark) → (is_alone f && is_expression_at (l + 1) f) ≡ true → d ≤ 1
    → Gets halves (part (simple l d)) (tokens_of (form f rest)) (tokens_of rest) (node_at nowhere (NodeWhat.Plain (unplaced_form f)))
plain_reread halves f l d rest h few =
    let k = both (is_alone f) (is_expression_at (l + 1) f) h in
    let low = low_of (l + 1) f k.1 in
    through_first halves (λ x. whole_form (assignment nowhere l d x.form x.alone)) refl
    (λ s t us r q e. ap (λ o. and_then o (λ x. whole_form (assignment t.place l d x.form x.alone))) e ∙ ap (λ p. given true (r >>= λ x. whole_form (assignment p l d x.form x.alone))) (placed_first (lexemes (form f rest)) q))
    (alone_reread halves f (l + 1) d rest k.0 (both (shape_of f).expression (is_level_free (l + 1 + height f)) k.1).0 low (omega (arith, low, few)))
    (parts (absent refl) done)

-- ---- texts

record TextClaim (halves is_text : Bool) (s : Shown) (f : Form) : Type 0 where
  by : is_text ≡ true → (l d : ℕ) (rest : List Mark) → Gets halves (part (right_side l d)) (tokens_of (s.marks rest)) (tokens_of rest) f

no_text : (halves : Bool) (s : Shown) (f : Form) → TextClaim halves false s f
no_text halves s f = record { by = λ h. absurd (false≢true h) }

abbrev TextLayer : Bool → FormWhat-F FormWhat Form → Type 0
TextLayer halves l = TextClaim halves (what_texted (map-FormWhat FormWhat Form Bool Bool (fold-FormWhat Bool Bool what_texted form_texted) is_text_form l)) (what_shown (map-FormWhat FormWhat Form Shown Shown shown_what shown_form l)) (form_at nowhere (what_unplaced (map-FormWhat FormWhat Form FormWhat Form unplaced_what unplaced_form l)))

text_layer : (halves : Bool) {X Y : Type 0} (what : X → FormWhat) (of : Y → Form) → (l : FormWhat-F X Y) → TextLayer halves (map-FormWhat X Y FormWhat Form what of l)
unfolding sort_of
text_layer halves what of (FormWhat-F.Text bytes) = record { by = λ h l d rest. present refl done }
text_layer halves what of (FormWhat-F.Number n kind) = no_text halves _ _
text_layer halves what of FormWhat-F.Null = no_text halves _ _
text_layer halves what of (FormWhat-F.Name name) = no_text halves _ _
text_layer halves what of (FormWhat-F.Prefix op a) = no_text halves _ _
text_layer halves what of (FormWhat-F.Post op a) = no_text halves _ _
text_layer halves what of (FormWhat-F.Cast b n a) = no_text halves _ _
text_layer halves what of (FormWhat-F.Binary op a b) = no_text halves _ _
text_layer halves what of (FormWhat-F.Choice c a b) = no_text halves _ _
text_layer halves what of (FormWhat-F.Subscript a i) = no_text halves _ _
text_layer halves what of (FormWhat-F.Member a is_arrow place name) = no_text halves _ _
text_layer halves what of (FormWhat-F.Call f args) = no_text halves _ _
text_layer halves what of (FormWhat-F.Base b n) = no_text halves _ _

text_moved : (halves : Bool) {b b' : Bool} {s s' : Shown} {f f' : Form} → b ≡ b' → s ≡ s' → f ≡ f' → TextClaim halves b' s' f' → TextClaim halves b s f
text_moved halves {b} {b'} {s} {s'} {f} {f'} o q r c = subst (λ (x : Bool). TextClaim halves x s f) (sym o) (subst (λ (x : Shown). TextClaim halves b' x f) (sym q) (subst (λ (x : Form). TextClaim halves b' s' x) (sym r) c))

abbrev TextWhat : Bool → FormWhat → Type 0
TextWhat halves w = TextClaim halves (fold-FormWhat Bool Bool what_texted form_texted w) (shown_what w) (form_at nowhere (unplaced_what w))

texts_are : (halves : Bool) (f : Form) → TextClaim halves (is_text_form f) (shown_form f) (unplaced_form f)
texts_are halves = ind-Form (TextWhat halves) (λ f. TextClaim halves (is_text_form f) (shown_form f) (unplaced_form f))
    (λ x y is. text_moved halves (fold-roll-FormWhat Bool Bool what_texted form_texted x) (fold-roll-FormWhat Shown Shown what_shown form_shown x) (ap (form_at nowhere) (fold-roll-FormWhat FormWhat Form what_unplaced form_unplaced x))
    (subst (TextLayer halves) is (text_layer halves (λ e. e.0) (λ e. e.0) y)))
    (λ x y is. text_moved halves (fold_out-Form Bool Bool what_texted form_texted (record { place = x.place; what = x.what })) (fold_out-Form Shown Shown what_shown form_shown (record { place = x.place; what = x.what })) (fold_out-Form FormWhat Form what_unplaced form_unplaced (record { place = x.place; what = x.what }))
    (subst (TextWhat halves) (ap (λ z. z.what) is) (y.what.1)))

-- ---- initialisers of locals

right_is : (l d : ℕ) (s : Sort) (t : Token) (r : Right Form) → expression_rule l d s t ≡ given true r → right_side_rule l d s t ≡ given true (r >>= gives)
right_is l d Sort.Text t r e = no_rule e
right_is l d s t r e = e ∙ ap (λ x. given true x) (sym (right_gives r))

either : (a b : Bool) → (a || b) ≡ true → a ≡ false → b ≡ true
either true b h e = absurd (false≢true (sym e))
either false b h e = h

right_reread : (halves : Bool) (f : Form) (l d : ℕ) (rest : List Mark) → is_right_at l f ≡ true → d ≤ 1 → Gets halves (part (right_side l d)) (tokens_of (form f rest)) (tokens_of rest) (unplaced_form f)
right_reread halves f l d rest h few = on (is_text_form f) refl
  where
    k : (is_text_form f || is_expression_at l f) ≡ true
    k = (both (is_level_free l) (is_text_form f || is_expression_at l f) h).1

    on : (b : Bool) → is_text_form f ≡ b → Gets halves (part (right_side l d)) (tokens_of (form f rest)) (tokens_of rest) (unplaced_form f)
    on true e = (texts_are halves f).by e l d rest
    on false e = through halves (λ x. gives x) refl (λ s t r q. right_is l d s t r q) (expression_reread halves f l d rest (either (is_text_form f) (is_expression_at l f) k e) few) done

value_reread : (halves : Bool) (o : Option Form) (l d : ℕ) (rest : List Mark) → maybe (is_right_at (l + 1)) o ≡ true → d ≤ 1 → Gets halves (option (is_level_free (l + 1)) (right (l + 1) d)) (tokens_of (printed_value o rest)) (tokens_of rest) (option_map unplaced_form o)
value_reread halves None l d rest h few = absent refl
value_reread halves (Some f) l d rest h few =
    let k = both (is_level_free (l + 1)) _ h in
    present (ap (λ s. rule (option (is_level_free (l + 1)) (right (l + 1) d)) s (at (Punct (codes "=")))) (equals_sort halves) ∙ ap (λ b. given (b && true) (one (right_side (l + 1) d) >>= λ v. gives (Some v))) k.0)
    (parts (right_reread halves f (l + 1) d rest h few) done)

-- ---- locals

-- a local behind its base, and as a whole
pub record IsLocal (halves : Bool) (l d : ℕ) (base : Base) (first further : Marks) (n : Node) : Type 0 where
  pub base_is : is_named_base base ≡ true
  pub whole : (rest : List Mark) → tokens_of (first rest) ≡ tokens_of (base_name base (further rest))
  pub read : (rest : List Mark) → Gets halves (part (local nowhere (nowhere_based (unplaced_base base)) l d)) (tokens_of (further rest)) (tokens_of rest) n

plain_is : (a : Option AnnText) → is_none a ≡ true → a ≡ None
plain_is None h = refl
plain_is (Some a) h = absurd (false≢true h)

-- a declaration by itself that has no annotation is read as one that is given none
unannotated : (halves : Bool) (d : ℕ) (b : Base) (a : Option AnnText) (m : Declared) (u : Decl) (x : IsAlone halves d b a m u) → a ≡ None → (rest : List Mark) → Gets halves (part (declarator d (nowhere_based (unplaced_base b)) 0)) (tokens_of (m.alone rest)) (tokens_of rest) u
unannotated halves d b (Some a) m u x e rest = absurd (Prim.cc)
unannotated halves d b None m u x e rest = subst (λ (y : Decl). Gets halves (part (declarator d (nowhere_based (unplaced_base b)) 0)) (tokens_of (m.alone rest)) (tokens_of rest) y) (same x.plain_has_none ∙ x.with) (x.read rest)
  where
    same : (out-Decl x.plain).ann ≡ None → x.plain ≡ with_annotation x.plain None
    same q = sym (ap (λ (a : Option AnnText). roll-Decl (record (out-Decl x.plain) { ann = a })) (sym q) ∙ roll-out-Decl x.plain)

pub local_reread : (halves : Bool) (x : Decl) (o : Option Form) (l d : ℕ) → local_at x o l d ≡ true → d ≤ 1 → IsLocal halves l d (out-Decl x).base (λ rest. declaration x (printed_value o rest)) (λ rest. declarator_of x (printed_value o rest)) (node_at nowhere (NodeWhat.Local (unplaced_decl x) (option_map unplaced_form o)))
local_reread halves x o l d h few =
    let k = both (is_shaped_decl x Standing.Alone d) (is_none (out-Decl x).ann && maybe (is_right_at (l + 1)) o) h in
    let j = both (is_none (out-Decl x).ann) (maybe (is_right_at (l + 1)) o) k.1 in
    let a = (good_decls halves x).alone d k.0 in
    record {
      base_is = a.base_is;
      whole = λ rest. a.whole (printed_value o rest);
      read = λ rest.
          through halves (λ y. local_of nowhere l d y) refl (λ s t r e. ap (λ z. and_then z (λ y. local_of nowhere l d y)) e)
          (unannotated halves d (out-Decl x).base (out-Decl x).ann (shown_decl x) (unplaced_decl x) a (plain_is (out-Decl x).ann j.0) (printed_value o rest))
          (parts (value_reread halves o l d rest j.1 few) done);
    }
