-- The form of a line is read exactly.
use Rattle.std.proofs.Common.{◌≡◌, ℕ, Bool, true, List, [], ◌++◌, Some, None, IsTrue, codes, refl, sym, ap, subst, ◌∙◌}
use Rattle.std.specs.List.{list_all}
use Rattle.std.specs.Char.{is_ascii_digit}
use Rattle.std.proofs.lemmas.List.{append-nil}
use Rattle.mdr_core.specs.declared.plan.Half.{Half}
use Rattle.mdr_plan.specs.declared.shape.Shape.{Shape}
use Rattle.mdr_plan.specs.declared.shape.Shape.TheVariants as shape
use Rattle.mdr_plan.specs.Front.{strip, word_at}
use Rattle.mdr_plan.specs.Naming.{is_name, any_struct}
use Rattle.mdr_plan.specs.Numbers.{is_canonical, is_number}
use Rattle.mdr_plan.specs.TypeReading.{is_empty, type_of}
use Rattle.mdr_plan.specs.Lines.{half_text, root_text}
use Rattle.mdr_plan.specs.LineReading.{or_else, place_of}
use Rattle.mdr_plan.specs.Shapes.{IsTypeText, HasShape}
use Rattle.mdr_plan.specs.Shapes.HasShape.{OfHeading, OfType, OfFunction, OfDown, OfUp, OfGlobalKey, OfFieldKey, OfElemKey, OfEnd}
use Rattle.mdr_plan.specs.ShapeReading.{past_number, number_shape, type_shape, function_shape, field_shape, key_shape, word_shape, stub_shape, plain_shape, shape_at}
use Rattle.mdr_plan.proofs.Fronts.{IsWord, IsBreak, strip_is, strip_again, word_is, word_again}
use Rattle.mdr_plan.proofs.TypesSound.{none_some, bind_ok, when_ok, some_same, by_word}
use Rattle.mdr_plan.proofs.TypesRead.{both, empty_is, any_type_is, any_type_again}
use Rattle.mdr_plan.proofs.LinesAre.{or_by, place_is}
use Rattle.mdr_plan.proofs.LinesAgain.{digits_word, name_word, place_again, place_breaks}

-- a word and a number stand in front
record Past (word bytes rest : List ℕ) : Type 0 where
  digits : List ℕ
  number : IsTrue (is_number digits)
  same : bytes ≡ word ++ (digits ++ rest)

past_is : (word bytes rest : List ℕ) → past_number word bytes ≡ Some rest → Past word bytes rest
unfolding past_number
past_is word bytes rest e =
    let a = bind_ok (strip word bytes) _ rest e in
    let w = when_ok (is_number (word_at a.0).0) (Some (word_at a.0).1) rest a.2 in
    record { digits = (word_at a.0).0; number = w.0; same = strip_is word bytes a.0 a.1 ∙ ap (λ bs. word ++ bs) (word_is a.0 ∙ ap (λ bs. (word_at a.0).0 ++ bs) (some_same _ _ w.1)) }

number_word : (digits : List ℕ) → IsTrue (is_number digits) → IsWord digits
unfolding is_number
number_word digits n = record { whole = digits_word digits (both (list_all is_ascii_digit digits) (is_canonical digits) n).0 }

past_again : (word digits rest : List ℕ) → IsTrue (is_number digits) → IsBreak rest → past_number word (word ++ (digits ++ rest)) ≡ Some rest
unfolding past_number
past_again word digits rest n b = let q : is_number digits ≡ true = n in rw (strip_again word (digits ++ rest)) (rw (word_again digits rest (number_word digits n) b, q) refl)

-- a word and a number are all
record IsNumbered (word bytes : List ℕ) : Type 0 where
  digits : List ℕ
  number : IsTrue (is_number digits)
  same : bytes ≡ word ++ digits

numbered_is : (word bytes : List ℕ) (s x : Shape) (P : Shape → Type 0) → (IsNumbered word bytes → P s) → number_shape word s bytes ≡ Some x → P x
unfolding number_shape
numbered_is word bytes s x P f e =
    let a = bind_ok (past_number word bytes) _ x e in
    let w = when_ok (is_empty a.0) (Some s) x a.2 in
    let p = past_is word bytes a.0 a.1 in
    subst P (some_same s x w.1) (f (record { digits = p.digits; number = p.number; same = p.same ∙ ap (λ r. word ++ (p.digits ++ r)) (empty_is a.0 w.0) ∙ ap (λ d. word ++ d) (append-nil p.digits) }))

numbered_nil : (word k : List ℕ) (s : Shape) → IsTrue (is_number k) → number_shape word s (word ++ (k ++ [])) ≡ Some s
unfolding number_shape
numbered_nil word k s n = rw (past_again word k [] n (record { none = refl })) refl

numbered_again : (word k : List ℕ) (s : Shape) → IsTrue (is_number k) → number_shape word s (word ++ k) ≡ Some s
numbered_again word k s n = ap (λ bs. number_shape word s (word ++ bs)) (sym (append-nil k)) ∙ numbered_nil word k s n

from : (bytes other : List ℕ) (s : Shape) → bytes ≡ other → HasShape other s → HasShape bytes s
from bytes other s e h = subst (λ b. HasShape b s) (sym e) h

-- ---- what is read is of the form

type_is : (bytes : List ℕ) (s : Shape) → type_shape bytes ≡ Some s → HasShape bytes s
unfolding type_shape
type_is bytes s e =
    let a = bind_ok (past_number (codes "type ") bytes) _ s e in
    let b = bind_ok (strip (codes " ") a.0) _ s a.2 in
    let t = bind_ok (type_of any_struct b.0) _ s b.2 in
    let p = past_is (codes "type ") bytes a.0 a.1 in
    subst (HasShape bytes) (some_same shape.Type s t.2)
    (from bytes _ shape.Type (p.same ∙ ap (λ r. codes "type " ++ (p.digits ++ r)) (strip_is (codes " ") a.0 b.0 b.1)) (OfType p.digits b.0 p.number (any_type_is b.0 t.0 t.1)))

function_is : (bytes : List ℕ) (s : Shape) → function_shape bytes ≡ Some s → HasShape bytes s
unfolding function_shape
function_is bytes s e =
    let a = bind_ok (past_number (codes "function ") bytes) _ s e in
    let b = bind_ok (strip (codes " ") a.0) _ s a.2 in
    let q = bind_ok (place_of (word_at b.0).1) _ s b.2 in
    let w = when_ok (is_name (word_at b.0).0) (Some shape.Function) s q.2 in
    let p = past_is (codes "function ") bytes a.0 a.1 in
    let text : a.0 ≡ codes " " ++ ((word_at b.0).0 ++ (half_text q.0.0 ++ root_text q.0.1)) =
    strip_is (codes " ") a.0 b.0 b.1 ∙ ap (λ r. codes " " ++ r) (word_is b.0 ∙ ap (λ r. (word_at b.0).0 ++ r) (place_is (word_at b.0).1 q.0 q.1)) in
    subst (HasShape bytes) (some_same shape.Function s w.1)
    (from bytes _ shape.Function (p.same ∙ ap (λ r. codes "function " ++ (p.digits ++ r)) text) (OfFunction p.digits (word_at b.0).0 q.0.0 q.0.1 p.number w.0))

-- a key behind its function's number
abbrev KeyReads : List ℕ → List ℕ → Shape → Type 0
KeyReads k piece s = HasShape (codes "key " ++ (k ++ piece)) s

field_is : (k piece : List ℕ) (s : Shape) → IsTrue (is_number k) → field_shape piece ≡ Some s → KeyReads k piece s
unfolding field_shape
field_is k piece s n e =
    let a = bind_ok (past_number (codes " field ") piece) _ s e in
    let p = past_is (codes " field ") piece a.0 a.1 in
    numbered_is (codes " ") a.0 shape.FieldKey s (KeyReads k piece)
    (λ m. from _ _ shape.FieldKey (ap (λ r. codes "key " ++ (k ++ r)) (p.same ∙ ap (λ r. codes " field " ++ (p.digits ++ r)) m.same)) (OfFieldKey k p.digits m.digits n p.number m.number)) a.2

key_is : (bytes : List ℕ) (s : Shape) → key_shape bytes ≡ Some s → HasShape bytes s
unfolding key_shape
key_is bytes s e =
    let a = bind_ok (past_number (codes "key ") bytes) _ s e in
    let p = past_is (codes "key ") bytes a.0 a.1 in
    from bytes _ s p.same
    (or_by (number_shape (codes " global ") shape.GlobalKey a.0) _ s (KeyReads p.digits a.0 s)
    (numbered_is (codes " global ") a.0 shape.GlobalKey s (KeyReads p.digits a.0) (λ m. from _ _ shape.GlobalKey (ap (λ r. codes "key " ++ (p.digits ++ r)) m.same) (OfGlobalKey p.digits m.digits p.number m.number)))
    (or_by (field_shape a.0) _ s (KeyReads p.digits a.0 s) (field_is p.digits a.0 s p.number)
    (numbered_is (codes " elem ") a.0 shape.ElemKey s (KeyReads p.digits a.0) (λ m. from _ _ shape.ElemKey (ap (λ r. codes "key " ++ (p.digits ++ r)) m.same) (OfElemKey p.digits m.digits p.number m.number)))) a.2)

whole_word_is : (bytes : List ℕ) (s : Shape) → word_shape bytes ≡ Some s → HasShape bytes s
unfolding word_shape
whole_word_is bytes s =
    by_word bytes (codes "plan 1") shape.Heading _ s (HasShape bytes) (λ e. from bytes _ shape.Heading e OfHeading) (
    by_word bytes (codes "end") shape.End None s (HasShape bytes) (λ e. from bytes _ shape.End e OfEnd) (λ f. absurd (none_some s f)))

stub_is : (bytes : List ℕ) (s : Shape) → stub_shape bytes ≡ Some s → HasShape bytes s
unfolding stub_shape
stub_is bytes s =
    or_by (number_shape (codes "down ") shape.Down bytes) _ s (HasShape bytes s)
    (numbered_is (codes "down ") bytes shape.Down s (HasShape bytes) (λ m. from _ _ shape.Down m.same (OfDown m.digits m.number)))
    (or_by (number_shape (codes "up ") shape.Up bytes) (key_shape bytes) s (HasShape bytes s)
    (numbered_is (codes "up ") bytes shape.Up s (HasShape bytes) (λ m. from _ _ shape.Up m.same (OfUp m.digits m.number)))
    (key_is bytes s))

plain_is : (bytes : List ℕ) (s : Shape) → plain_shape bytes ≡ Some s → HasShape bytes s
unfolding plain_shape
plain_is bytes s =
    or_by (word_shape bytes) _ s (HasShape bytes s) (whole_word_is bytes s)
    (or_by (function_shape bytes) (stub_shape bytes) s (HasShape bytes s) (function_is bytes s) (stub_is bytes s))

pub shape_is : (bytes : List ℕ) (s : Shape) → shape_at bytes ≡ Some s → HasShape bytes s
unfolding shape_at
shape_is bytes s = or_by (plain_shape bytes) (type_shape bytes) s (HasShape bytes s) (plain_is bytes s) (type_is bytes s)

-- ---- what is of a form is read

type_again : (k text : List ℕ) → IsTrue (is_number k) → IsTypeText text → type_shape (codes "type " ++ (k ++ (codes " " ++ text))) ≡ Some shape.Type
unfolding type_shape
type_again k text n t = rw (past_again (codes "type ") k (codes " " ++ text) n (record { none = refl })) (rw (any_type_again text t) refl)

function_again : (k name : List ℕ) (half : Half) (is_root : Bool) → IsTrue (is_number k) → IsTrue (is_name name) → function_shape (codes "function " ++ (k ++ (codes " " ++ (name ++ (half_text half ++ root_text is_root))))) ≡ Some shape.Function
unfolding function_shape
function_again k name half is_root n m =
    let q : is_name name ≡ true = m in
    rw (past_again (codes "function ") k (codes " " ++ (name ++ (half_text half ++ root_text is_root))) n (record { none = refl }))
    (rw (word_again name (half_text half ++ root_text is_root) (name_word name m) (place_breaks half is_root), place_again half is_root, q) refl)

field_again : (s f : List ℕ) → IsTrue (is_number s) → IsTrue (is_number f) → field_shape (codes " field " ++ (s ++ (codes " " ++ f))) ≡ Some shape.FieldKey
unfolding field_shape
field_again s f n m = rw (past_again (codes " field ") s (codes " " ++ f) n (record { none = refl })) (numbered_again (codes " ") f shape.FieldKey m)

global_key_again : (k g : List ℕ) → IsTrue (is_number k) → IsTrue (is_number g) → key_shape (codes "key " ++ (k ++ (codes " global " ++ g))) ≡ Some shape.GlobalKey
unfolding key_shape
global_key_again k g n m = rw (past_again (codes "key ") k (codes " global " ++ g) n (record { none = refl })) (rw (numbered_again (codes " global ") g shape.GlobalKey m) refl)

no_global : (bytes : List ℕ) → number_shape (codes " global ") shape.GlobalKey (codes " field " ++ bytes) ≡ None
unfolding number_shape past_number
no_global bytes = refl

field_key_again : (k s f : List ℕ) → IsTrue (is_number k) → IsTrue (is_number s) → IsTrue (is_number f) → key_shape (codes "key " ++ (k ++ (codes " field " ++ (s ++ (codes " " ++ f))))) ≡ Some shape.FieldKey
unfolding key_shape
field_key_again k s f n m o = rw (past_again (codes "key ") k (codes " field " ++ (s ++ (codes " " ++ f))) n (record { none = refl })) (rw (no_global (s ++ (codes " " ++ f)), field_again s f m o) refl)

no_global_elem : (bytes : List ℕ) → number_shape (codes " global ") shape.GlobalKey (codes " elem " ++ bytes) ≡ None
unfolding number_shape past_number
no_global_elem bytes = refl

no_field_elem : (bytes : List ℕ) → field_shape (codes " elem " ++ bytes) ≡ None
unfolding field_shape past_number
no_field_elem bytes = refl

elem_key_again : (k t : List ℕ) → IsTrue (is_number k) → IsTrue (is_number t) → key_shape (codes "key " ++ (k ++ (codes " elem " ++ t))) ≡ Some shape.ElemKey
unfolding key_shape
elem_key_again k t n m = rw (past_again (codes "key ") k (codes " elem " ++ t) n (record { none = refl })) (rw (no_global_elem t, no_field_elem t) (numbered_again (codes " elem ") t shape.ElemKey m))

at_type : (rest : List ℕ) (s : Shape) → type_shape (codes "type " ++ rest) ≡ Some s → shape_at (codes "type " ++ rest) ≡ Some s
unfolding shape_at plain_shape word_shape function_shape stub_shape key_shape number_shape past_number
at_type rest s e = e

at_function : (rest : List ℕ) (s : Shape) → function_shape (codes "function " ++ rest) ≡ Some s → shape_at (codes "function " ++ rest) ≡ Some s
unfolding shape_at plain_shape word_shape
at_function rest s e = ap (λ o. or_else (or_else o (stub_shape (codes "function " ++ rest))) (type_shape (codes "function " ++ rest))) e

at_stub : (bytes : List ℕ) (s : Shape) → word_shape bytes ≡ None → function_shape bytes ≡ None → stub_shape bytes ≡ Some s → shape_at bytes ≡ Some s
unfolding shape_at plain_shape
at_stub bytes s w f e = rw (w, f, e) refl

no_word_down : (rest : List ℕ) → word_shape (codes "down " ++ rest) ≡ None
unfolding word_shape
no_word_down rest = refl

no_word_up : (rest : List ℕ) → word_shape (codes "up " ++ rest) ≡ None
unfolding word_shape
no_word_up rest = refl

no_word_key : (rest : List ℕ) → word_shape (codes "key " ++ rest) ≡ None
unfolding word_shape
no_word_key rest = refl

no_function_down : (rest : List ℕ) → function_shape (codes "down " ++ rest) ≡ None
unfolding function_shape past_number
no_function_down rest = refl

no_function_up : (rest : List ℕ) → function_shape (codes "up " ++ rest) ≡ None
unfolding function_shape past_number
no_function_up rest = refl

no_function_key : (rest : List ℕ) → function_shape (codes "key " ++ rest) ≡ None
unfolding function_shape past_number
no_function_key rest = refl

no_down_up : (rest : List ℕ) → number_shape (codes "down ") shape.Down (codes "up " ++ rest) ≡ None
unfolding number_shape past_number
no_down_up rest = refl

no_down_key : (rest : List ℕ) → number_shape (codes "down ") shape.Down (codes "key " ++ rest) ≡ None
unfolding number_shape past_number
no_down_key rest = refl

no_up_key : (rest : List ℕ) → number_shape (codes "up ") shape.Up (codes "key " ++ rest) ≡ None
unfolding number_shape past_number
no_up_key rest = refl

down_again : (k : List ℕ) → IsTrue (is_number k) → stub_shape (codes "down " ++ k) ≡ Some shape.Down
unfolding stub_shape
down_again k n = rw (numbered_again (codes "down ") k shape.Down n) refl

up_again : (k : List ℕ) → IsTrue (is_number k) → stub_shape (codes "up " ++ k) ≡ Some shape.Up
unfolding stub_shape
up_again k n = rw (no_down_up k, numbered_again (codes "up ") k shape.Up n) refl

key_stub : (rest : List ℕ) (s : Shape) → key_shape (codes "key " ++ rest) ≡ Some s → stub_shape (codes "key " ++ rest) ≡ Some s
unfolding stub_shape
key_stub rest s e = rw (no_down_key rest, no_up_key rest, e) refl

at_key : (rest : List ℕ) (s : Shape) → key_shape (codes "key " ++ rest) ≡ Some s → shape_at (codes "key " ++ rest) ≡ Some s
at_key rest s e = at_stub (codes "key " ++ rest) s (no_word_key rest) (no_function_key rest) (key_stub rest s e)

heading_again : shape_at (codes "plan 1") ≡ Some shape.Heading
unfolding shape_at plain_shape word_shape
heading_again = refl

end_again : shape_at (codes "end") ≡ Some shape.End
unfolding shape_at plain_shape word_shape
end_again = refl

pub shape_again : (bytes : List ℕ) (s : Shape) → HasShape bytes s → shape_at bytes ≡ Some s
shape_again _ _ OfHeading = heading_again
shape_again _ _ (OfType k text n t) = at_type (k ++ (codes " " ++ text)) shape.Type (type_again k text n t)
shape_again _ _ (OfFunction k name half is_root n m) = at_function (k ++ (codes " " ++ (name ++ (half_text half ++ root_text is_root)))) shape.Function (function_again k name half is_root n m)
shape_again _ _ (OfDown k n) = at_stub (codes "down " ++ k) shape.Down (no_word_down k) (no_function_down k) (down_again k n)
shape_again _ _ (OfUp k n) = at_stub (codes "up " ++ k) shape.Up (no_word_up k) (no_function_up k) (up_again k n)
shape_again _ _ (OfGlobalKey k g n m) = at_key (k ++ (codes " global " ++ g)) shape.GlobalKey (global_key_again k g n m)
shape_again _ _ (OfFieldKey k s f n m o) = at_key (k ++ (codes " field " ++ (s ++ (codes " " ++ f)))) shape.FieldKey (field_key_again k s f n m o)
shape_again _ _ (OfElemKey k t n m) = at_key (k ++ (codes " elem " ++ t)) shape.ElemKey (elem_key_again k t n m)
shape_again _ _ OfEnd = end_again

pub shape_none : (bytes : List ℕ) → shape_at bytes ≡ None → (s : Shape) → HasShape bytes s → ⊥
shape_none bytes e s h = none_some s (sym e ∙ shape_again bytes s h)
