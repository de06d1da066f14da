-- A line that is read may come next, and has the text.
use Rattle.std.proofs.Common.{◌≡◌, ℕ, Bool, true, false, cond, ◌&&◌, ◌-◌, ◌<◌, ◌^◌, List, ◌++◌, length, Option, Some, None, IsTrue, codes, decimal, refl, sym, ap, subst, ◌∙◌, ltb}
use Rattle.std.specs.Str.{bytes_eq}
use Rattle.std.proofs.lemmas.Bool.Decides.{Decides-ltb}
use Rattle.std.proofs.lemmas.Slice.Eq.{bytes_eq-Decides}
use Rattle.mdr_core.specs.declared.plan.Half.{Half}
use Rattle.mdr_core.specs.declared.plan.Half.TheVariants.{Kernel, User}
use Rattle.mdr_core.specs.declared.plan.Key.{Key}
use Rattle.mdr_core.specs.TypeText.{is_before}
use Rattle.mdr_plan.specs.declared.line.Line.{Line}
use Rattle.mdr_plan.specs.declared.line.Line.TheVariants as line
use Rattle.mdr_plan.specs.declared.reader.Reader.{Reader}
use Rattle.mdr_plan.specs.Front.{strip, word_at}
use Rattle.mdr_plan.specs.Numbers.{number_of}
use Rattle.mdr_plan.specs.Naming.{small, struct_number}
use Rattle.mdr_plan.specs.TypeReading.{pointer_of}
use Rattle.mdr_plan.specs.Lines.{begins, first_text, half_text, root_text, key_text, IsSmall, numbered, Reads}
use Rattle.mdr_plan.specs.LineReading.{or_else, behind_number, small_number_of, global_of, field_of, elem_of, key_of, place_of, heading_at, end_at, first_at, struct_at, pointer_at, type_line_at, function_line_at, down_line_at, up_line_at, key_line_at, stub_at, line_at}
use Rattle.mdr_plan.proofs.Fronts.{strip_is, word_is}
use Rattle.mdr_plan.proofs.TypesSound.{none_some, bind_ok, when_ok, some_same, by_word}
use Rattle.mdr_plan.proofs.TypesRead.{both, pointer_is}
use Rattle.mdr_plan.proofs.Worth.{number_is}

-- what is read one way or another
pub or_by : {A : Type 0} (a b : Option A) (y : A) (P : Type 0) → (a ≡ Some y → P) → (b ≡ Some y → P) → or_else a b ≡ Some y → P
or_by (Some x) b y P f g e = f e
or_by None b y P f g e = g e

same_bytes : (a b : List ℕ) → IsTrue (bytes_eq a b) → a ≡ b
same_bytes a b h = (bytes_eq-Decides a b).0 h

pub number_front : (word : List ℕ) (k : ℕ) (bytes rest : List ℕ) → behind_number word k bytes ≡ Some rest → bytes ≡ numbered word k rest
unfolding behind_number
number_front word k bytes rest e =
    let a = bind_ok (strip word bytes) (strip (decimal k)) rest e in
    strip_is word bytes a.0 a.1 ∙ ap (λ bs. word ++ bs) (strip_is (decimal k) a.0 rest a.2)

small_is : (bytes : List ℕ) (n : ℕ) → small_number_of bytes ≡ Some n → (n < 2 ^ 32) × (decimal n ≡ bytes)
unfolding small_number_of
small_is bytes n e =
    let a = bind_ok (number_of bytes) small n e in
    on a.0 (number_is bytes a.0 a.1).1 (ltb a.0 (2 ^ 32)) refl a.2
  where
    on : (m : ℕ) → decimal m ≡ bytes → (v : Bool) → ltb m (2 ^ 32) ≡ v → cond v (Some m) None ≡ Some n → (n < 2 ^ 32) × (decimal n ≡ bytes)
    on m d true q f = let g : m ≡ n = some_same m n f in let lt : m < 2 ^ 32 = (Decides-ltb m (2 ^ 32)).0 q in (subst (λ j. j < 2 ^ 32) g lt, subst (λ j. decimal j ≡ bytes) g d)
    on m d false q f = absurd (none_some n f)

-- a key with its text
record IsKey (bytes : List ℕ) (key : Key) : Type 0 where
  small : IsSmall key
  same : key_text key ≡ bytes

global_is : (bytes : List ℕ) (key : Key) → global_of bytes ≡ Some key → IsKey bytes key
unfolding global_of
global_is bytes key e =
    let a = bind_ok (strip (codes " global ") bytes) _ key e in
    let b = bind_ok (small_number_of a.0) _ key a.2 in
    let n = small_is a.0 b.0 b.1 in
    subst (IsKey bytes) (some_same _ _ b.2) (record { small = n.0; same = ap (λ d. codes " global " ++ d) n.1 ∙ sym (strip_is (codes " global ") bytes a.0 a.1) })

elem_is : (bytes : List ℕ) (key : Key) → elem_of bytes ≡ Some key → IsKey bytes key
unfolding elem_of
elem_is bytes key e =
    let a = bind_ok (strip (codes " elem ") bytes) _ key e in
    let b = bind_ok (small_number_of a.0) _ key a.2 in
    let n = small_is a.0 b.0 b.1 in
    subst (IsKey bytes) (some_same _ _ b.2) (record { small = n.0; same = ap (λ d. codes " elem " ++ d) n.1 ∙ sym (strip_is (codes " elem ") bytes a.0 a.1) })

field_is : (bytes : List ℕ) (key : Key) → field_of bytes ≡ Some key → IsKey bytes key
unfolding field_of
field_is bytes key e =
    let a = bind_ok (strip (codes " field ") bytes) _ key e in
    let b = bind_ok (small_number_of (word_at a.0).0) _ key a.2 in
    let c = bind_ok (strip (codes " ") (word_at a.0).1) _ key b.2 in
    let d = bind_ok (small_number_of c.0) _ key c.2 in
    let s = small_is (word_at a.0).0 b.0 b.1 in
    let f = small_is c.0 d.0 d.1 in
    let text : codes " field " ++ (decimal b.0 ++ (codes " " ++ decimal d.0)) ≡ bytes =
    ap (λ w. codes " field " ++ (w ++ (codes " " ++ decimal d.0))) s.1
    ∙ ap (λ w. codes " field " ++ ((word_at a.0).0 ++ (codes " " ++ w))) f.1
    ∙ ap (λ w. codes " field " ++ ((word_at a.0).0 ++ w)) (sym (strip_is (codes " ") (word_at a.0).1 c.0 c.1))
    ∙ ap (λ w. codes " field " ++ w) (sym (word_is a.0)) ∙ sym (strip_is (codes " field ") bytes a.0 a.1) in
    subst (IsKey bytes) (some_same _ _ d.2) (record { small = (s.0, f.0); same = text })

key_is : (bytes : List ℕ) (key : Key) → key_of bytes ≡ Some key → IsKey bytes key
key_is bytes key e = or_by (global_of bytes) (or_else (field_of bytes) (elem_of bytes)) key (IsKey bytes key) (global_is bytes key) (or_by (field_of bytes) (elem_of bytes) key (IsKey bytes key) (field_is bytes key) (elem_is bytes key)) e

pub place_is : (bytes : List ℕ) (place : Half × Bool) → place_of bytes ≡ Some place → bytes ≡ half_text place.0 ++ root_text place.1
unfolding place_of
place_is bytes place =
    let P : Half × Bool → Type 0 = λ q. bytes ≡ half_text q.0 ++ root_text q.1 in
    by_word bytes (codes " kernel") (Kernel, false) _ place P (λ e. e) (
    by_word bytes (codes " kernel root") (Kernel, true) _ place P (λ e. e) (
    by_word bytes (codes " user") (User, false) _ place P (λ e. e) (
    by_word bytes (codes " user root") (User, true) _ place P (λ e. e) (λ f. absurd (none_some place f)))))

-- ---- lines

heading_is : (r : Reader) (bytes : List ℕ) (l : Line) → heading_at r bytes ≡ Some l → Reads r bytes l
unfolding heading_at
heading_is r bytes l e =
    let w = when_ok (bytes_eq bytes (codes "plan 1") && begins r.stage) (Some line.Heading) l e in
    let b = both (bytes_eq bytes (codes "plan 1")) (begins r.stage) w.0 in
    subst (Reads r bytes) (some_same line.Heading l w.1) (record { next = b.1; same = sym (same_bytes bytes (codes "plan 1") b.0) })

end_is : (r : Reader) (bytes : List ℕ) (l : Line) → end_at r bytes ≡ Some l → Reads r bytes l
unfolding end_at
end_is r bytes l e =
    let w = when_ok _ (Some line.End) l e in
    let b = both (bytes_eq bytes (codes "end")) _ w.0 in
    subst (Reads r bytes) (some_same line.End l w.1) (record { next = b.1; same = sym (same_bytes bytes (codes "end") b.0) })

down_is : (r : Reader) (bytes : List ℕ) (l : Line) → down_line_at r bytes ≡ Some l → Reads r bytes l
unfolding down_line_at
down_is r bytes l e =
    let a = bind_ok (strip (codes "down ") bytes) _ l e in
    let k = bind_ok (number_of a.0) _ l a.2 in
    let w = when_ok _ (Some (line.Down k.0)) l k.2 in
    let n = number_is a.0 k.0 k.1 in
    subst (Reads r bytes) (some_same (line.Down k.0) l w.1) (record { next = (w.0, n.0); same = ap (λ d. codes "down " ++ d) n.1 ∙ sym (strip_is (codes "down ") bytes a.0 a.1) })

up_is : (r : Reader) (bytes : List ℕ) (l : Line) → up_line_at r bytes ≡ Some l → Reads r bytes l
unfolding up_line_at
up_is r bytes l e =
    let a = bind_ok (strip (codes "up ") bytes) _ l e in
    let k = bind_ok (number_of a.0) _ l a.2 in
    let w = when_ok _ (Some (line.Up k.0)) l k.2 in
    let n = number_is a.0 k.0 k.1 in
    subst (Reads r bytes) (some_same (line.Up k.0) l w.1) (record { next = (w.0, n.0); same = ap (λ d. codes "up " ++ d) n.1 ∙ sym (strip_is (codes "up ") bytes a.0 a.1) })

key_line_is : (r : Reader) (bytes : List ℕ) (l : Line) → key_line_at r bytes ≡ Some l → Reads r bytes l
unfolding key_line_at
key_line_is r bytes l e =
    let a = bind_ok (behind_number (codes "key ") (r.ups - 1) bytes) _ l e in
    let k = bind_ok (key_of a.0) _ l a.2 in
    let w = when_ok _ (Some (line.Key k.0)) l k.2 in
    let n = key_is a.0 k.0 k.1 in
    subst (Reads r bytes) (some_same (line.Key k.0) l w.1) (record { next = (w.0, n.small); same = ap (numbered (codes "key ") (r.ups - 1)) n.same ∙ sym (number_front (codes "key ") (r.ups - 1) bytes a.0 a.1) })

function_is : (r : Reader) (bytes : List ℕ) (l : Line) → function_line_at r bytes ≡ Some l → Reads r bytes l
unfolding function_line_at
function_is r bytes l e =
    let k = length r.plan.names in
    let a = bind_ok (behind_number (codes "function ") k bytes) _ l e in
    let b = bind_ok (strip (codes " ") a.0) _ l a.2 in
    let p = bind_ok (place_of (word_at b.0).1) _ l b.2 in
    let w = when_ok _ (Some (line.Function (word_at b.0).0 p.0.0 p.0.1)) l p.2 in
    let text : numbered (codes "function ") k (codes " " ++ ((word_at b.0).0 ++ (half_text p.0.0 ++ root_text p.0.1))) ≡ bytes =
    ap (λ t. numbered (codes "function ") k (codes " " ++ ((word_at b.0).0 ++ t))) (sym (place_is (word_at b.0).1 p.0 p.1))
    ∙ ap (λ t. numbered (codes "function ") k (codes " " ++ t)) (sym (word_is b.0))
    ∙ ap (numbered (codes "function ") k) (sym (strip_is (codes " ") a.0 b.0 b.1))
    ∙ sym (number_front (codes "function ") k bytes a.0 a.1) in
    subst (Reads r bytes) (some_same _ l w.1) (record { next = w.0; same = text })

-- a type's line, by what stands behind its number
abbrev ReadsType : Reader → List ℕ → Line → Type 0
ReadsType r text l = Reads r (numbered (codes "type ") (length r.plan.types) (codes " " ++ text)) l

first_is : (r : Reader) (text : List ℕ) (l : Line) → first_at r text ≡ Some l → ReadsType r text l
unfolding first_at
first_is r text l e =
    let w = when_ok _ (Some line.First) l e in
    let b = both _ (bytes_eq text (first_text (length r.plan.types))) w.0 in
    subst (ReadsType r text) (some_same line.First l w.1) (record { next = b.0; same = ap (λ t. numbered (codes "type ") (length r.plan.types) (codes " " ++ t)) (sym (same_bytes text (first_text (length r.plan.types)) b.1)) })

struct_line_is : (r : Reader) (text : List ℕ) (l : Line) → struct_at r text ≡ Some l → ReadsType r text l
unfolding struct_at
struct_line_is r text l e =
    let a = bind_ok (strip (codes "struct ") text) _ l e in
    let w = when_ok _ (Some (line.Struct a.0)) l a.2 in
    subst (ReadsType r text) (some_same (line.Struct a.0) l w.1) (record { next = w.0; same = ap (λ t. numbered (codes "type ") (length r.plan.types) (codes " " ++ t)) (sym (strip_is (codes "struct ") text a.0 a.1)) })

pointer_line_is : (r : Reader) (text : List ℕ) (l : Line) → pointer_at r text ≡ Some l → ReadsType r text l
unfolding pointer_at
pointer_line_is r text l e =
    let a = bind_ok (pointer_of (struct_number r.structs) text) _ l e in
    let w = when_ok _ (Some (line.Type a.0 text)) l a.2 in
    let b = both _ (is_before r.last text) w.0 in
    subst (ReadsType r text) (some_same (line.Type a.0 text) l w.1) (record { next = (b.0, pointer_is (struct_number r.structs) text a.0 a.1, b.1); same = refl })

type_line_is : (r : Reader) (bytes : List ℕ) (l : Line) → type_line_at r bytes ≡ Some l → Reads r bytes l
unfolding type_line_at
type_line_is r bytes l e =
    let k = length r.plan.types in
    let a = bind_ok (behind_number (codes "type ") k bytes) _ l e in
    let b = bind_ok (strip (codes " ") a.0) _ l a.2 in
    let text : bytes ≡ numbered (codes "type ") k (codes " " ++ b.0) = number_front (codes "type ") k bytes a.0 a.1 ∙ ap (numbered (codes "type ") k) (strip_is (codes " ") a.0 b.0 b.1) in
    subst (λ bs. Reads r bs l) (sym text)
    (or_by (first_at r b.0) (or_else (struct_at r b.0) (pointer_at r b.0)) l (ReadsType r b.0 l) (first_is r b.0 l)
    (or_by (struct_at r b.0) (pointer_at r b.0) l (ReadsType r b.0 l) (struct_line_is r b.0 l) (pointer_line_is r b.0 l)) b.2)

stub_is : (r : Reader) (bytes : List ℕ) (l : Line) → stub_at r bytes ≡ Some l → Reads r bytes l
unfolding stub_at
stub_is r bytes l =
    or_by (down_line_at r bytes) _ l (Reads r bytes l) (down_is r bytes l)
    (or_by (up_line_at r bytes) _ l (Reads r bytes l) (up_is r bytes l)
    (or_by (key_line_at r bytes) (end_at r bytes) l (Reads r bytes l) (key_line_is r bytes l) (end_is r bytes l)))

pub line_is : (r : Reader) (bytes : List ℕ) (l : Line) → line_at r bytes ≡ Some l → Reads r bytes l
unfolding line_at
line_is r bytes l =
    or_by (heading_at r bytes) _ l (Reads r bytes l) (heading_is r bytes l)
    (or_by (type_line_at r bytes) _ l (Reads r bytes l) (type_line_is r bytes l)
    (or_by (function_line_at r bytes) (stub_at r bytes) l (Reads r bytes l) (function_is r bytes l) (stub_is r bytes l)))
