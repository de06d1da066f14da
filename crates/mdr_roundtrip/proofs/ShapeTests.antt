-- The shapes of expressions, form by form, at their levels.
use Rattle.std.proofs.Common.{◌≡◌, refl, sym, ap, subst, ◌∙◌, arith, ℕ, suc, ◌+◌, ◌≤◌, Bool, true, List, [], ◌∷◌, map}
use Rattle.std.specs.Prelude.{◌&&◌, nat_eq}
use Rattle.std.specs.List.{list_all}
use Rattle.std.proofs.lemmas.Bool.{leb-true, le-leb}
use Rattle.mdr_core.specs.declared.kind.Kind.{Kind}
use Rattle.mdr_core.specs.declared.place.Place.{Place}
use Rattle.mdr_syntax.specs.declared.tree.Base.{Base}
use Rattle.mdr_syntax.specs.declared.tree.Form.{Form}
use Rattle.mdr_syntax.specs.declared.tree.FormWhat
use Rattle.mdr_syntax.specs.declared.tree.FormWhat.{FormWhat}
use Rattle.mdr_syntax.specs.declared.tree.FormWhat.TheOpen.{FormWhat-F}
use Rattle.mdr_syntax.specs.declared.tree.FormWhat.TheFolds.{map-FormWhat, fold-roll-FormWhat, fold_out-Form}
use Rattle.mdr_syntax.specs.declared.tree.FormWhat.TheVariants.{rolls-Number, rolls-Null, rolls-Name, rolls-Prefix, rolls-Post, rolls-Cast, rolls-Binary, rolls-Choice, rolls-Subscript, rolls-Member, rolls-Call, rolls-Text, rolls-Base}
use Rattle.mdr_syntax.specs.declared.tree.FormWhat.TheViews.{roll-FormWhat}
use Rattle.mdr_roundtrip.specs.Words.{is_among, is_written, is_writable, is_prefix, is_step}
use Rattle.mdr_roundtrip.specs.Printable.{all}
use Rattle.mdr_roundtrip.proofs.Tests.{both, or_right}
use Rattle.mdr_grammar.specs.Expressions.{form_at, is_level_free, height, highest, may_sink}
use Rattle.mdr_roundtrip.specs.Shaped.{is_name, services, binaries, is_named_base, are_stars, Shape, argument_of, what_shaped, form_shaped, shape_of, shape_of_what}
use Rattle.mdr_roundtrip.proofs.Bools.{also}
use Rattle.mdr_roundtrip.proofs.Heights.{number_height, null_height, name_height, text_height, base_height, prefix_height, post_height, cast_height, binary_height, choice_height, subscript_height, member_height, call_height}
use Rattle.mdr_roundtrip.proofs.Shaping.{is_expression, is_argument, is_text}

shaped : (place : Place) (l : FormWhat-F FormWhat Form) (w : FormWhat) → roll-FormWhat l ≡ w → shape_of (form_at place w) ≡ what_shaped (map-FormWhat FormWhat Form Shape Shape shape_of_what shape_of l)
shaped place l w e = fold_out-Form Shape Shape what_shaped form_shaped (record { place = place; what = w }) ∙ ap shape_of_what (sym e) ∙ fold-roll-FormWhat Shape Shape what_shaped form_shaped l

-- an expression by its shape and its levels
formed : (l : ℕ) (f : Form) {shape : Shape} {n : ℕ} → shape_of f ≡ shape → shape.expression ≡ true → height f ≡ n → l + n ≤ 256 → is_expression l f ≡ true
formed l f p e q h = also (shape_of f).expression (is_level_free (l + height f)) (ap (λ (s : Shape). s.expression) p ∙ e) (le-leb (l + height f) 256 (subst (λ (n : ℕ). l + n ≤ 256) (sym q) h))

pub shape_is : (l : ℕ) (f : Form) → is_expression l f ≡ true → (shape_of f).expression ≡ true
shape_is l f h = (both (shape_of f).expression (is_level_free (l + height f)) h).0

pub level_is : (l : ℕ) (f : Form) → is_expression l f ≡ true → l + height f ≤ 256
level_is l f h = leb-true (l + height f) 256 (both (shape_of f).expression (is_level_free (l + height f)) h).1

pub level : (l : ℕ) → is_level_free l ≡ true → l ≤ 256
level l h = leb-true l 256 h

pub sunk : (l : ℕ) (f : Form) → may_sink l f ≡ true → l + suc (height f) ≤ 256
sunk l f h = leb-true (l + suc (height f)) 256 h

pub below : (l : ℕ) (f : Form) → may_sink l f ≡ true → is_level_free (l + 1) ≡ true
below l f h = let q = sunk l f h in le-leb (l + 1) 256 (omega (arith, q))

-- ---- one by one

pub number_formed : (l : ℕ) (place : Place) (n : ℕ) (k : Kind) → l ≤ 256 → is_written n k ≡ true → is_expression l (form_at place (FormWhat.Number n k)) ≡ true
number_formed l place n k h w = formed l (form_at place (FormWhat.Number n k)) (shaped place (FormWhat-F.Number n k) (FormWhat.Number n k) (rolls-Number n k)) w (number_height place n k) (omega (arith, h))

pub null_formed : (l : ℕ) (place : Place) → l ≤ 256 → is_expression l (form_at place FormWhat.Null) ≡ true
null_formed l place h = formed l (form_at place FormWhat.Null) (shaped place FormWhat-F.Null FormWhat.Null rolls-Null) refl (null_height place) (omega (arith, h))

pub name_formed : (l : ℕ) (place : Place) (name : List ℕ) → l ≤ 256 → is_name name ≡ true → is_expression l (form_at place (FormWhat.Name name)) ≡ true
name_formed l place name h w = formed l (form_at place (FormWhat.Name name)) (shaped place (FormWhat-F.Name name) (FormWhat.Name name) (rolls-Name name)) w (name_height place name) (omega (arith, h))

pub service_shape : (place : Place) (name : List ℕ) → is_among services name ≡ true → (shape_of (form_at place (FormWhat.Name name))).called ≡ true
service_shape place name h = ap (λ (s : Shape). s.called) (shaped place (FormWhat-F.Name name) (FormWhat.Name name) (rolls-Name name)) ∙ or_right (is_name name) (is_among services name) h

pub prefix_formed : (l : ℕ) (place : Place) (op : List ℕ) (a : Form) → is_prefix op ≡ true → is_expression (l + 1) a ≡ true → is_expression l (form_at place (FormWhat.Prefix op a)) ≡ true
prefix_formed l place op a o g =
    let low = level_is (l + 1) a g in
    formed l (form_at place (FormWhat.Prefix op a)) (shaped place (FormWhat-F.Prefix op a) (FormWhat.Prefix op a) (rolls-Prefix op a)) (also (is_prefix op) (shape_of a).expression o (shape_is (l + 1) a g)) (prefix_height place op a) (omega (arith, low))

pub post_formed : (l : ℕ) (place : Place) (op : List ℕ) (a : Form) → is_step op ≡ true → (shape_of a).expression ≡ true → l + suc (height a) ≤ 256 → is_expression l (form_at place (FormWhat.Post op a)) ≡ true
post_formed l place op a o g low = formed l (form_at place (FormWhat.Post op a)) (shaped place (FormWhat-F.Post op a) (FormWhat.Post op a) (rolls-Post op a)) (also (is_step op) (shape_of a).expression o g) (post_height place op a) low

pub cast_formed : (l : ℕ) (place : Place) (b : Base) (n : ℕ) (a : Form) → is_named_base b ≡ true → are_stars n ≡ true → is_expression (l + 1) a ≡ true → is_expression l (form_at place (FormWhat.Cast b n a)) ≡ true
cast_formed l place b n a o k g =
    let low = level_is (l + 1) a g in
    formed l (form_at place (FormWhat.Cast b n a)) (shaped place (FormWhat-F.Cast b n a) (FormWhat.Cast b n a) (rolls-Cast b n a)) (also (is_named_base b) (are_stars n && (shape_of a).expression) o (also (are_stars n) (shape_of a).expression k (shape_is (l + 1) a g))) (cast_height place b n a) (omega (arith, low))

pub binary_formed : (l : ℕ) (place : Place) (op : List ℕ) (a b : Form) → is_among binaries op ≡ true → (shape_of a).expression ≡ true → l + suc (height a) ≤ 256 → is_expression (l + 1) b ≡ true → is_expression l (form_at place (FormWhat.Binary op a b)) ≡ true
binary_formed l place op a b o g low k =
    let high = level_is (l + 1) b k in
    formed l (form_at place (FormWhat.Binary op a b)) (shaped place (FormWhat-F.Binary op a b) (FormWhat.Binary op a b) (rolls-Binary op a b)) (also (is_among binaries op) ((shape_of a).expression && (shape_of b).expression) o (also (shape_of a).expression (shape_of b).expression g (shape_is (l + 1) b k))) (binary_height place op a b) (omega (arith, low, high))

pub choice_formed : (l : ℕ) (place : Place) (c a b : Form) → (shape_of c).expression ≡ true → l + suc (height c) ≤ 256 → is_expression (l + 1) a ≡ true → is_expression (l + 1) b ≡ true → is_expression l (form_at place (FormWhat.Choice c a b)) ≡ true
choice_formed l place c a b g low h k =
    let one = level_is (l + 1) a h in
    let two = level_is (l + 1) b k in
    formed l (form_at place (FormWhat.Choice c a b)) (shaped place (FormWhat-F.Choice c a b) (FormWhat.Choice c a b) (rolls-Choice c a b)) (also (shape_of c).expression ((shape_of a).expression && (shape_of b).expression) g (also (shape_of a).expression (shape_of b).expression (shape_is (l + 1) a h) (shape_is (l + 1) b k))) (choice_height place c a b) (omega (arith, low, one, two))

pub subscript_formed : (l : ℕ) (place : Place) (a i : Form) → (shape_of a).expression ≡ true → l + suc (height a) ≤ 256 → is_expression (l + 1) i ≡ true → is_expression l (form_at place (FormWhat.Subscript a i)) ≡ true
subscript_formed l place a i g low k =
    let high = level_is (l + 1) i k in
    formed l (form_at place (FormWhat.Subscript a i)) (shaped place (FormWhat-F.Subscript a i) (FormWhat.Subscript a i) (rolls-Subscript a i)) (also (shape_of a).expression (shape_of i).expression g (shape_is (l + 1) i k)) (subscript_height place a i) (omega (arith, low, high))

pub member_formed : (l : ℕ) (place : Place) (a : Form) (is_arrow : Bool) (at : Place) (name : List ℕ) → (shape_of a).expression ≡ true → l + suc (height a) ≤ 256 → is_name name ≡ true → is_expression l (form_at place (FormWhat.Member a is_arrow at name)) ≡ true
member_formed l place a is_arrow at name g low k = formed l (form_at place (FormWhat.Member a is_arrow at name)) (shaped place (FormWhat-F.Member a is_arrow at name) (FormWhat.Member a is_arrow at name) (rolls-Member a is_arrow at name)) (also (shape_of a).expression (is_name name) g k) (member_height place a is_arrow at name) low

arguments_shaped : (l : ℕ) (args : List Form) → list_all (is_argument l) args ≡ true → all (map argument_of (map shape_of args)) ≡ true
arguments_shaped l [] h = refl
arguments_shaped l (a ∷ args) h =
    let k = both (is_argument l a) (list_all (is_argument l) args) h in
    also (shape_of a).argument (all (map argument_of (map shape_of args))) (both (shape_of a).argument (is_level_free (l + height a)) k.0).0 (arguments_shaped l args k.1)

arguments_high : (l : ℕ) (args : List Form) → l + 1 ≤ 256 → list_all (is_argument (l + 1)) args ≡ true → l + highest (map height args) ≤ 256
arguments_high l [] low h = omega (arith, low)
arguments_high l (a ∷ args) low h =
    let k = both (is_argument (l + 1) a) (list_all (is_argument (l + 1)) args) h in
    let here = leb-true ((l + 1) + height a) 256 (both (shape_of a).argument (is_level_free ((l + 1) + height a)) k.0).1 in
    let later = arguments_high l args low k.1 in
    omega (arith, here, later)

pub call_formed : (l : ℕ) (place : Place) (f : Form) (args : List Form) → (shape_of f).called ≡ true → l + suc (height f) ≤ 256 → list_all (is_argument (l + 1)) args ≡ true → is_expression l (form_at place (FormWhat.Call f args)) ≡ true
call_formed l place f args g low h =
    let high = arguments_high l args (omega (arith, low)) h in
    formed l (form_at place (FormWhat.Call f args)) (shaped place (FormWhat-F.Call f args) (FormWhat.Call f args) (rolls-Call f args)) (also (shape_of f).called (all (map argument_of (map shape_of args))) g (arguments_shaped (l + 1) args h)) (call_height place f args) (omega (arith, low, high))

pub text_formed : (place : Place) (bytes : List ℕ) → list_all is_writable bytes ≡ true → is_text (form_at place (FormWhat.Text bytes)) ≡ true
text_formed place bytes h = also (shape_of (form_at place (FormWhat.Text bytes))).argument _ (ap (λ (s : Shape). s.argument) (shaped place (FormWhat-F.Text bytes) (FormWhat.Text bytes) (rolls-Text bytes)) ∙ h) (zero_is (height (form_at place (FormWhat.Text bytes))) (text_height place bytes))
  where
    zero_is : (n : ℕ) → n ≡ 0 → nat_eq n 0 ≡ true
    zero_is n e = subst (λ (m : ℕ). nat_eq m 0 ≡ true) (sym e) refl

pub base_formed : (l : ℕ) (place : Place) (b : Base) (n : ℕ) → l ≤ 256 → is_named_base b ≡ true → are_stars n ≡ true → is_argument l (form_at place (FormWhat.Base b n)) ≡ true
base_formed l place b n h o k =
    also (shape_of (form_at place (FormWhat.Base b n))).argument (is_level_free (l + height (form_at place (FormWhat.Base b n)))) (ap (λ (s : Shape). s.argument) (shaped place (FormWhat-F.Base b n) (FormWhat.Base b n) (rolls-Base b n)) ∙ also (is_named_base b) (are_stars n) o k)
    (le-leb (l + height (form_at place (FormWhat.Base b n))) 256 (subst (λ (m : ℕ). l + m ≤ 256) (sym (base_height place b n)) (omega (arith, h))))

-- a text stands at any level
pub text_anywhere : (l : ℕ) (f : Form) → l ≤ 256 → is_text f ≡ true → is_argument l f ≡ true
text_anywhere l f h t =
    let k = both (shape_of f).argument (nat_eq (height f) 0) t in
    also (shape_of f).argument (is_level_free (l + height f)) k.0 (le-leb (l + height f) 256 (low (height f) k.1))
  where
    low : (n : ℕ) → nat_eq n 0 ≡ true → l + n ≤ 256
    low n e = let z : n ≡ 0 = zero_of n e in omega (arith, h, z)
      where
        zero_of : (n : ℕ) → nat_eq n 0 ≡ true → n ≡ 0
        zero_of n e = grind arith
