-- A line that may come next is read from its text.
use Rattle.std.proofs.Common.{◌≡◌, ℕ, zero, suc, Bool, true, false, ◌&&◌, ◌||◌, ◌+◌, ◌-◌, ◌≤◌, ◌<◌, ◌^◌, ◌==◌, List, [], ◌∷◌, ◌++◌, length, Option, Some, None, IsTrue, codes, decimal, nat_lt, refl, sym, ap, subst, ◌∙◌, arith, ltb}
use Rattle.std.specs.List.{list_all, prefix_len}
use Rattle.std.specs.Char.{is_ascii_alphabetic, is_ascii_digit}
use Rattle.std.proofs.lemmas.Bool.{lt-ltb, le-ltb}
use Rattle.std.proofs.lemmas.Bool.Decides.{Decides-ltb, Decides-eqb}
use Rattle.std.proofs.lemmas.Slice.Eq.{bytes_eq-Decides}
use Rattle.std.proofs.lemmas.List.{append-nil}
use Rattle.mdr_core.specs.declared.plan.Half.{Half}
use Rattle.mdr_core.specs.declared.plan.Half.TheVariants.{Kernel, User}
use Rattle.mdr_core.specs.declared.plan.Key.{Key}
use Rattle.mdr_core.specs.declared.plan.Key.TheVariants.{Global, Field, Elem}
use Rattle.mdr_core.specs.declared.types.Ty.{Ty}
use Rattle.mdr_core.specs.declared.types.Ty.TheVariants as type
use Rattle.mdr_core.specs.Types.{is_pointer}
use Rattle.mdr_plan.specs.declared.line.Line.{Line}
use Rattle.mdr_plan.specs.declared.line.Line.TheVariants as line
use Rattle.mdr_plan.specs.declared.reader.Reader.{Reader}
use Rattle.mdr_syntax.specs.Bytes.{is_name_byte}
use Rattle.mdr_plan.specs.Front.{strip, word_at}
use Rattle.mdr_plan.specs.TypeReading.{when, is_empty, pointer_of, type_at, more_at, typed_by, behind}
use Rattle.mdr_plan.specs.TypeReading.{struct_at as type_struct_at}
use Rattle.mdr_plan.specs.Naming.{begins_name, is_name, is_new, Naming, struct_number}
use Rattle.mdr_plan.specs.Lines.{first_text, half_text, root_text, key_text, IsSmall, numbered, line_text, IsNext, Reads}
use Rattle.mdr_plan.specs.LineReading.{or_else, behind_number, small_number_of, global_of, field_of, elem_of, key_of, place_of, heading_at, end_at, first_at, struct_at, pointer_at, type_line_at, function_line_at, down_line_at, up_line_at, key_line_at, stub_at, line_at}
use Rattle.mdr_plan.proofs.Fronts.{IsWord, IsBreak, strip_again, strip_is, word_again}
use Rattle.mdr_plan.proofs.Worth.{number_again, all_digits}
use Rattle.mdr_plan.proofs.TypesAgain.{type_step}
use Rattle.mdr_plan.proofs.TypesSound.{none_some, bind_ok, when_ok, some_same}
use Rattle.mdr_plan.proofs.TypesRead.{both, pointer_again}

pub number_behind : (word : List ℕ) (k : ℕ) (rest : List ℕ) → behind_number word k (numbered word k rest) ≡ Some rest
unfolding behind_number
number_behind word k rest = rw (strip_again word (decimal k ++ rest)) (strip_again (decimal k) rest)

small_again : (n : ℕ) → n < 2 ^ 32 → small_number_of (decimal n) ≡ Some n
unfolding small_number_of
small_again n lt = let t : ltb n (2 ^ 32) ≡ true = lt-ltb n (2 ^ 32) lt in rw (number_again n (omega (arith, lt))) (rw t refl)

digit_name : (b : ℕ) → is_ascii_digit b ≡ true → is_name_byte b ≡ true
digit_name b e = on (is_ascii_alphabetic b || b == 95) (is_ascii_digit b) e
  where
    on : (v w : Bool) → w ≡ true → (v || w) ≡ true
    on true w q = refl
    on false w q = q

pub digits_word : (ds : List ℕ) → list_all is_ascii_digit ds ≡ true → prefix_len is_name_byte ds ≡ length ds
digits_word [] e = refl
digits_word (d ∷ ds) e =
    let b = both (is_ascii_digit d) (list_all is_ascii_digit ds) e in
    let n : is_name_byte d ≡ true = digit_name d b.0 in
    let h : prefix_len is_name_byte ds ≡ length ds = digits_word ds b.1 in
    rw (n, h) (omega arith)

decimal_word : (n : ℕ) → n < 2 ^ 64 → IsWord (decimal n)
decimal_word n lt = record { whole = digits_word (decimal n) (all_digits n lt) }

field_again : (s f : ℕ) → s < 2 ^ 32 → f < 2 ^ 32 → field_of (codes " field " ++ (decimal s ++ (codes " " ++ decimal f))) ≡ Some (Field s f)
unfolding field_of
field_again s f small_s small_f =
    rw (word_again (decimal s) (codes " " ++ decimal f) (decimal_word s (omega (arith, small_s))) (record { none = refl }), small_again s small_s, small_again f small_f) refl

key_again : (key : Key) → IsSmall key → key_of (key_text key) ≡ Some key
unfolding global_of field_of elem_of
key_again (Global g) h = rw (small_again g h) refl
key_again (Field s f) h = ap (λ o. or_else o (elem_of (codes " field " ++ (decimal s ++ (codes " " ++ decimal f))))) (field_again s f h.0 h.1)
key_again (Elem t) h = rw (small_again t h) refl

pub place_again : (half : Half) (is_root : Bool) → place_of (half_text half ++ root_text is_root) ≡ Some (half, is_root)
unfolding place_of
place_again Kernel true = refl
place_again Kernel false = refl
place_again User true = refl
place_again User false = refl

pub place_breaks : (half : Half) (is_root : Bool) → IsBreak (half_text half ++ root_text is_root)
place_breaks Kernel is_root = record { none = refl }
place_breaks User is_root = record { none = refl }

pub name_word : (name : List ℕ) → IsTrue (is_name name) → IsWord name
unfolding is_name
name_word name h = record { whole = whole name (both (begins_name name) (list_all is_name_byte name) (both _ _ h).0).1 }
  where
    whole : (ds : List ℕ) → list_all is_name_byte ds ≡ true → prefix_len is_name_byte ds ≡ length ds
    whole [] e = refl
    whole (d ∷ ds) e = let b = both (is_name_byte d) (list_all is_name_byte ds) e in let n : is_name_byte d ≡ true = b.0 in let k : prefix_len is_name_byte ds ≡ length ds = whole ds b.1 in rw (n, k) (omega arith)

new_word : (names : List (List ℕ)) (name : List ℕ) → IsTrue (is_new names name) → IsWord name
unfolding is_new
new_word names name h = name_word name (both _ _ h).0

when_is : {A : Type 0} (b : Bool) (x : A) → IsTrue b → when b (Some x) ≡ Some x
when_is true x h = refl
when_is false x h = let q : false ≡ true = h in absurd (Prim.cc)

-- ---- lines

heading_again : (r : Reader) → IsNext r line.Heading → heading_at r (codes "plan 1") ≡ Some line.Heading
unfolding heading_at
heading_again r h = when_is _ line.Heading h

end_again : (r : Reader) → IsNext r line.End → end_at r (codes "end") ≡ Some line.End
unfolding end_at
end_again r h = when_is _ line.End h

down_again : (r : Reader) (k : ℕ) → IsNext r (line.Down k) → down_line_at r (codes "down " ++ decimal k) ≡ Some (line.Down k)
unfolding down_line_at
down_again r k h = rw (number_again k h.1) (when_is _ (line.Down k) h.0)

up_again : (r : Reader) (k : ℕ) → IsNext r (line.Up k) → up_line_at r (codes "up " ++ decimal k) ≡ Some (line.Up k)
unfolding up_line_at
up_again r k h = rw (number_again k h.1) (when_is _ (line.Up k) h.0)

key_line_again : (r : Reader) (key : Key) → IsNext r (line.Key key) → key_line_at r (numbered (codes "key ") (r.ups - 1) (key_text key)) ≡ Some (line.Key key)
unfolding key_line_at
key_line_again r key h = rw (number_behind (codes "key ") (r.ups - 1) (key_text key), key_again key h.1) (when_is _ (line.Key key) h.0)

function_again : (r : Reader) (name : List ℕ) (half : Half) (is_root : Bool) → IsNext r (line.Function name half is_root) → function_line_at r (line_text r (line.Function name half is_root)) ≡ Some (line.Function name half is_root)
unfolding function_line_at
function_again r name half is_root h =
    let w : IsWord name = new_word r.plan.names name (both _ (is_new r.plan.names name) h).1 in
    rw (number_behind (codes "function ") (length r.plan.names) (codes " " ++ (name ++ (half_text half ++ root_text is_root)))) (rw (word_again name (half_text half ++ root_text is_root) w (place_breaks half is_root), place_again half is_root) (when_is _ (line.Function name half is_root) h))

-- ---- lines of types

-- a struct's text is no pointer's
struct_by : (n : ℕ) (names : Naming) (name : List ℕ) (t : Ty) (rest : List ℕ) → IsWord name → type_at n names (codes "struct" ++ (32 ∷ (name ++ []))) ≡ Some (t, rest) → IsTrue (is_pointer t) → ⊥
unfolding typed_by type_struct_at behind
struct_by zero names name t rest w e h = none_some (t, rest) e
struct_by (suc m) names name t rest w e h =
    let typed : typed_by (λ bs. type_at m names bs) (λ ts bs. more_at m names ts bs) names (codes "struct") (32 ∷ (name ++ [])) ≡ Some (t, rest) = sym (type_step m names (codes "struct") (32 ∷ (name ++ [])) (record { whole = refl }) (record { none = refl })) ∙ e in
    let s = bind_ok (names (word_at (name ++ [])).0) (λ s. Some (behind (type.Struct s) (type.Ptr (type.Struct s)) (word_at (name ++ [])).1)) (t, rest) typed in
    let same : (type.Struct s.0, []) ≡ (t, rest) = some_same _ _ (ap (λ (q : List ℕ × List ℕ). Some (behind (type.Struct s.0) (type.Ptr (type.Struct s.0)) q.1)) (sym (word_again name [] w (record { none = refl }))) ∙ s.2) in
    no_struct s.0 (subst (λ u. IsTrue (is_pointer u)) (sym (ap (λ (q : Ty × List ℕ). q.0) same)) h)
  where
    no_struct : (s : ℕ) → IsTrue (is_pointer (type.Struct s)) → ⊥
    no_struct s h = let q : false ≡ true = rw (type.outs-Struct s) at h in Prim.cc

no_pointer : (names : Naming) (name : List ℕ) (t : Ty) → IsWord name → pointer_of names (codes "struct " ++ name) ≡ Some t → ⊥
unfolding pointer_of
no_pointer names name t w e =
    let a = bind_ok (type_at (length (codes "struct " ++ name)) names (codes "struct " ++ name)) _ t e in
    let p = when_ok (is_pointer a.0.0 && is_empty a.0.1) (Some a.0.0) t a.2 in
    struct_by (length (codes "struct " ++ name)) names name a.0.0 a.0.1 w (ap (λ n. type_at (length (codes "struct " ++ name)) names (codes "struct" ++ (32 ∷ n))) (append-nil name) ∙ a.1) (both (is_pointer a.0.0) (is_empty a.0.1) p.0).0

both_true : (a b : Bool) → IsTrue a → IsTrue b → IsTrue (a && b)
both_true true b h k = k
both_true false b h k = h

when_none : {A : Type 0} (a b c : Bool) (o : Option A) → b ≡ false → when (a && b && c) o ≡ None
when_none true b c o e = rw e refl
when_none false b c o e = refl

first_piece : (r : Reader) → IsNext r line.First → first_at r (first_text (length r.plan.types)) ≡ Some line.First
unfolding first_at
first_piece r h = when_is _ line.First (both_true _ _ h ((bytes_eq-Decides (first_text (length r.plan.types)) (first_text (length r.plan.types))).1 refl))

no_first : (r : Reader) (text : List ℕ) → 9 ≤ length r.plan.types → first_at r text ≡ None
unfolding first_at
no_first r text le = when_none _ (ltb (length r.plan.types) 9) _ (Some line.First) (le-ltb (length r.plan.types) 9 le)

struct_piece : (r : Reader) (name : List ℕ) → IsNext r (line.Struct name) → struct_at r (codes "struct " ++ name) ≡ Some (line.Struct name)
unfolding struct_at
struct_piece r name h = when_is _ (line.Struct name) h

struct_long : (r : Reader) (name : List ℕ) → IsNext r (line.Struct name) → 9 ≤ length r.plan.types
struct_long r name h =
    let a = both _ (is_new r.structs name) h in
    let b = both _ (nat_lt (length r.structs) (2 ^ 32)) a.0 in
    let c = both _ (length r.plan.types == 9 + length r.structs) b.0 in
    let e : length r.plan.types ≡ 9 + length r.structs = (Decides-eqb (length r.plan.types) (9 + length r.structs)).0 c.1 in
    omega (arith, e)

no_struct_by : (r : Reader) (ty : Ty) (text : List ℕ) → pointer_of (struct_number r.structs) text ≡ Some ty → (o : Option Line) → struct_at r text ≡ o → struct_at r text ≡ None
unfolding struct_at
no_struct_by r ty text p None e = e
no_struct_by r ty text p (Some l) e =
    let a = bind_ok (strip (codes "struct ") text) _ l e in
    let w = when_ok _ (Some (line.Struct a.0)) l a.2 in
    absurd (no_pointer (struct_number r.structs) a.0 ty (new_word r.structs a.0 (both _ (is_new r.structs a.0) w.0).1) (ap (pointer_of (struct_number r.structs)) (sym (strip_is (codes "struct ") text a.0 a.1)) ∙ p))

pointer_piece : (r : Reader) (ty : Ty) (text : List ℕ) → IsNext r (line.Type ty text) → pointer_at r text ≡ Some (line.Type ty text)
unfolding pointer_at
pointer_piece r ty text h =
    rw (pointer_again (struct_number r.structs) text ty h.1)
    (when_is _ (line.Type ty text) (both_true _ _ h.0 h.2))

type_long : (r : Reader) (ty : Ty) (text : List ℕ) → IsNext r (line.Type ty text) → 9 ≤ length r.plan.types
type_long r ty text h =
    let b = both _ (nat_lt 8 (length r.plan.types)) h.0 in
    let lt : 8 < length r.plan.types = (Decides-ltb 8 (length r.plan.types)).0 b.1 in
    omega (arith, lt)

type_line_again : (r : Reader) (text : List ℕ) (l : Line) → or_else (first_at r text) (or_else (struct_at r text) (pointer_at r text)) ≡ Some l → type_line_at r (numbered (codes "type ") (length r.plan.types) (codes " " ++ text)) ≡ Some l
unfolding type_line_at
type_line_again r text l e = rw (number_behind (codes "type ") (length r.plan.types) (codes " " ++ text)) e

first_again : (r : Reader) → IsNext r line.First → type_line_at r (line_text r line.First) ≡ Some line.First
first_again r h = type_line_again r (first_text (length r.plan.types)) line.First (ap (λ o. or_else o (or_else (struct_at r (first_text (length r.plan.types))) (pointer_at r (first_text (length r.plan.types))))) (first_piece r h))

struct_again : (r : Reader) (name : List ℕ) → IsNext r (line.Struct name) → type_line_at r (line_text r (line.Struct name)) ≡ Some (line.Struct name)
struct_again r name h =
    let text = codes "struct " ++ name in
    type_line_again r text (line.Struct name) (ap (λ o. or_else o (or_else (struct_at r text) (pointer_at r text))) (no_first r text (struct_long r name h)) ∙ ap (λ o. or_else o (pointer_at r text)) (struct_piece r name h))

pointer_line_again : (r : Reader) (ty : Ty) (text : List ℕ) → IsNext r (line.Type ty text) → type_line_at r (line_text r (line.Type ty text)) ≡ Some (line.Type ty text)
pointer_line_again r ty text h =
    type_line_again r text (line.Type ty text)
    (ap (λ o. or_else o (or_else (struct_at r text) (pointer_at r text))) (no_first r text (type_long r ty text h))
    ∙ ap (λ o. or_else o (pointer_at r text)) (no_struct_by r ty text (pointer_again (struct_number r.structs) text ty h.1) (struct_at r text) refl)
    ∙ pointer_piece r ty text h)

-- ---- which word begins the line

at_type : (r : Reader) (k : ℕ) (rest : List ℕ) (l : Line) → type_line_at r (numbered (codes "type ") k rest) ≡ Some l → line_at r (numbered (codes "type ") k rest) ≡ Some l
unfolding line_at heading_at
at_type r k rest l e = ap (λ o. or_else o (or_else (function_line_at r (numbered (codes "type ") k rest)) (stub_at r (numbered (codes "type ") k rest)))) e

at_function : (r : Reader) (k : ℕ) (rest : List ℕ) (l : Line) → function_line_at r (numbered (codes "function ") k rest) ≡ Some l → line_at r (numbered (codes "function ") k rest) ≡ Some l
unfolding line_at heading_at type_line_at behind_number
at_function r k rest l e = ap (λ o. or_else o (stub_at r (numbered (codes "function ") k rest))) e

at_down : (r : Reader) (rest : List ℕ) (l : Line) → down_line_at r (codes "down " ++ rest) ≡ Some l → line_at r (codes "down " ++ rest) ≡ Some l
unfolding line_at heading_at type_line_at function_line_at behind_number stub_at
at_down r rest l e = ap (λ o. or_else o (or_else (up_line_at r (codes "down " ++ rest)) (or_else (key_line_at r (codes "down " ++ rest)) (end_at r (codes "down " ++ rest))))) e

at_up : (r : Reader) (rest : List ℕ) (l : Line) → up_line_at r (codes "up " ++ rest) ≡ Some l → line_at r (codes "up " ++ rest) ≡ Some l
unfolding line_at heading_at type_line_at function_line_at behind_number stub_at down_line_at
at_up r rest l e = ap (λ o. or_else o (or_else (key_line_at r (codes "up " ++ rest)) (end_at r (codes "up " ++ rest)))) e

at_key : (r : Reader) (k : ℕ) (rest : List ℕ) (l : Line) → key_line_at r (numbered (codes "key ") k rest) ≡ Some l → line_at r (numbered (codes "key ") k rest) ≡ Some l
unfolding line_at heading_at type_line_at function_line_at behind_number stub_at down_line_at up_line_at
at_key r k rest l e = ap (λ o. or_else o (end_at r (numbered (codes "key ") k rest))) e

at_end : (r : Reader) (l : Line) → end_at r (codes "end") ≡ Some l → line_at r (codes "end") ≡ Some l
unfolding line_at heading_at type_line_at function_line_at behind_number stub_at down_line_at up_line_at key_line_at
at_end r l e = e

at_heading : (r : Reader) (l : Line) → heading_at r (codes "plan 1") ≡ Some l → line_at r (codes "plan 1") ≡ Some l
unfolding line_at
at_heading r l e = rw e refl

text_again : (r : Reader) (l : Line) → IsNext r l → line_at r (line_text r l) ≡ Some l
text_again r line.Heading h = at_heading r line.Heading (heading_again r h)
text_again r line.First h = at_type r (length r.plan.types) _ line.First (first_again r h)
text_again r (line.Struct name) h = at_type r (length r.plan.types) _ (line.Struct name) (struct_again r name h)
text_again r (line.Type ty text) h = at_type r (length r.plan.types) _ (line.Type ty text) (pointer_line_again r ty text h)
text_again r (line.Function name half is_root) h = at_function r (length r.plan.names) _ (line.Function name half is_root) (function_again r name half is_root h)
text_again r (line.Down k) h = at_down r (decimal k) (line.Down k) (down_again r k h)
text_again r (line.Up k) h = at_up r (decimal k) (line.Up k) (up_again r k h)
text_again r (line.Key key) h = at_key r (r.ups - 1) (key_text key) (line.Key key) (key_line_again r key h)
text_again r line.End h = at_end r line.End (end_again r h)

pub line_again : (r : Reader) (bytes : List ℕ) (l : Line) → Reads r bytes l → line_at r bytes ≡ Some l
line_again r bytes l h = ap (line_at r) (sym h.same) ∙ text_again r l h.next
