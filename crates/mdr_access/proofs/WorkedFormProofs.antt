-- The worked access forms have the keys that they are said to have.
use Rattle.std.proofs.Common.{◌≡◌, ℕ, zero, suc, ◌<◌, ◌⊎◌, inl, inr, true, false, List, [], ◌∷◌, ◌++◌, map, Some, None, slice_get, refl, sym, ◌∙◌, ap, subst, arith}
use Rattle.std.specs.Prelude.{IsTrue}
use Rattle.std.proofs.lemmas.Bool.{both_ways}
use Rattle.mdr_core.specs.declared.types.Ty.{Ty, out-Ty}
use Rattle.mdr_core.specs.declared.types.Ty as form
use Rattle.mdr_core.specs.declared.types.Ty.TheOpen.{Ty-F}
use Rattle.mdr_core.specs.declared.types.Ty.TheVariants as ty
use Rattle.mdr_core.specs.declared.types.Ty.TheVariants.{outs-Ptr, outs-Int, outs-Struct}
use denote.Hole.Carrier.{out}
use Rattle.mdr_core.specs.declared.plan.Key.{Key}
use Rattle.mdr_core.specs.declared.plan.Key.TheVariants as key
use Rattle.mdr_core.specs.Code.{Codes}
use Rattle.mdr_core.specs.Kinds.{kind_number}
use Rattle.mdr_core.specs.Layout.{cells, key_at, leaves, leaves_below, field_leaves, repeated, struct_cells}
use Rattle.mdr_core.specs.Suited.{is_key, key_type}
use Rattle.mdr_core.specs.Typing.{slots_of}
use Rattle.mdr_core.specs.Worked.{u32}
use Rattle.mdr_paths.specs.Chains.{Chain}
use Rattle.mdr_paths.specs.Paths.{is_in}
use Rattle.mdr_paths.specs.Numbers.{numbers}
use Rattle.mdr_paths.proofs.NodeLists.{none_in, is_in-cases, is_in-head, is_in-tail}
use Rattle.mdr_slice.specs.Graph.{IsRow, MayCall}
use Rattle.mdr_slice.specs.Written.{WrittenFunc, func_of, plain}
use Rattle.mdr_slice.proofs.GraphLaws.{some_same, nothing_there, at_mapped}
use Rattle.mdr_slice.proofs.WorkedLaws.{code_is, calls_nothing}
use Rattle.mdr_access.specs.Exposed.{IsExposed, IsOneOf, all_code_fields, exposed_fields, funcs_fields}
use Rattle.mdr_access.specs.Forms.{Form, Touch, Follow, Whole, FormHas, IsCellKey, func_forms, param_forms, all_code_forms}
use Rattle.mdr_access.specs.KeyOrder.{keys}
use Rattle.mdr_access.specs.Keys.{AreKeys, CallsUser, LeadsTo, IsTouched}
use Rattle.mdr_access.specs.WorkedForms.{absent, far, frame_funcs, frames, head_key, keep, look, rest_key, send, tail_key, u8, users, FormsHaveKeys}
use Rattle.mdr_access.proofs.WorkedLaws.{IsSorted, rises, led}

-- ---- forms and exposed fields

abbrev forms_in : WrittenFunc → List Form
forms_in w = param_forms w.params ++ all_code_forms frames (slots_of (func_of w)) (plain w.lines)

forms_are : (w : WrittenFunc) → func_forms frames (func_of w) ≡ forms_in w
forms_are w = ap (λ (cs : Codes). param_forms w.params ++ all_code_forms frames (slots_of (func_of w)) cs) (code_is w)

look_forms : func_forms frames (func_of look) ≡ Touch rest_key ∷ []
look_forms = forms_are look ∙ rw (outs-Struct 0) refl

send_forms : func_forms frames (func_of send) ≡ Follow u8 ∷ []
send_forms = forms_are send

keep_forms : func_forms frames (func_of keep) ≡ Whole u32 ∷ []
keep_forms = forms_are keep

far_forms : func_forms frames (func_of far) ≡ Follow absent ∷ []
far_forms = forms_are far ∙ rw (outs-Ptr (ty.Int _)) refl

abbrev fields_in : List WrittenFunc → List Key
fields_in [] = []
fields_in (w ∷ ws) = all_code_fields frames (slots_of (func_of w)) (plain w.lines) ++ fields_in ws

fields_are : (ws : List WrittenFunc) → funcs_fields frames (map func_of ws) ≡ fields_in ws
unfolding funcs_fields
fields_are [] = refl
fields_are (w ∷ ws) = λ i. all_code_fields frames (slots_of (func_of w)) (code_is w i) ++ fields_are ws i

frames_exposed : exposed_fields frames ≡ head_key ∷ tail_key ∷ []
frames_exposed = fields_are frame_funcs ∙ rw (outs-Struct 0) refl

-- ---- what the functions lead to

each_of_four : (P : ℕ → Type 0) → P 0 → P 1 → P 2 → P 3 → (f : ℕ) → f < 4 → P f
each_of_four P a b c d zero i = a
each_of_four P a b c d (suc zero) i = b
each_of_four P a b c d (suc (suc zero)) i = c
each_of_four P a b c d (suc (suc (suc zero))) i = d
each_of_four P a b c d (suc (suc (suc (suc n)))) i = absurd (omega (arith, i))

quiet : (f : ℕ) → f < 4 → IsRow frames true f []
quiet = each_of_four (λ f. IsRow frames true f []) (calls_nothing frames true 0 look refl tt) (calls_nothing frames true 1 send refl (refl, tt)) (calls_nothing frames true 2 keep refl tt) (calls_nothing frames true 3 far refl tt)

nowhere : (t : ℕ) → t < 4 → (f : ℕ) → LeadsTo frames users t f → f ≡ t
nowhere t inside f l = led frames users t (λ n. n ≡ t) refl next f l
  where
    next : (d c : ℕ) → d ≡ t → CallsUser frames users d c → c ≡ t
    next d c e step = absurd (none_in numbers c (((quiet t inside).exact c).1 (subst (λ n. MayCall frames true n c) e step.calls)))

-- a function whose only form has these keys
only_form : (t : ℕ) (w : WrittenFunc) (own : Form) (ks : List Key) → t < 4 → slice_get frames.funcs t ≡ Some (func_of w) → func_forms frames (func_of w) ≡ own ∷ [] → IsSorted ks → ((k : Key) → FormHas frames own k → is_in keys ks k ≡ true) → ((k : Key) → is_in keys ks k ≡ true → FormHas frames own k × IsTrue (is_key frames k)) → AreKeys frames users t ks
only_form t w own ks inside names forms sorted only each = record {
  rises = rises ks sorted;
  exact = λ k. (λ e. there k e, λ h. back k h (nowhere t inside h.func h.reached));
}
  where
    there : (k : Key) → is_in keys ks k ≡ true → IsTouched frames users t k
    there k e = record {
      func = t;
      reached = Chain.Begin t refl;
      own = func_of w;
      names = names;
      form = own;
      one = subst (λ xs. IsOneOf xs own) (sym forms) (record { at = 0; is = refl });
      has = (each k e).0;
      kept = (each k e).1;
    }

    found : (k : Key) (x : Form) (at : ℕ) → slice_get (own ∷ []) at ≡ Some x → FormHas frames x k → is_in keys ks k ≡ true
    found k x zero e has = only k (subst (λ (y : Form). FormHas frames y k) (sym (some_same e)) has)
    found k x (suc at) e has = absurd (nothing_there x e)

    back : (k : Key) (h : IsTouched frames users t k) → h.func ≡ t → is_in keys ks k ≡ true
    back k h e =
        let same : h.own ≡ func_of w = some_same (sym (subst (λ n. slice_get frames.funcs n ≡ Some h.own) e h.names) ∙ names) in
        let one : IsOneOf (own ∷ []) h.form = subst (λ xs. IsOneOf xs h.form) (ap (func_forms frames) same ∙ forms) h.one in
        found k h.form one.at one.is h.has

-- ---- one key alone

alone : (j k : Key) → is_in keys (j ∷ []) k ≡ true → k ≡ j
alone j k h = of (is_in-cases keys j [] k h)
  where
    of : (k ≡ j) ⊎ (is_in keys [] k ≡ true) → k ≡ j
    of (inl e) = e
    of (inr e) = absurd (none_in keys k e)

is_alone : (j k : Key) → k ≡ j → is_in keys (j ∷ []) k ≡ true
is_alone j k e = subst (λ x. is_in keys (j ∷ []) x ≡ true) (sym e) (is_in-head keys j [])

subscripted : AreKeys frames users 0 (rest_key ∷ [])
unfolding is_key form.out-Ty denote.Hole.Carrier.out
subscripted = only_form 0 look (Touch rest_key) (rest_key ∷ []) (omega arith) refl look_forms tt
    (λ k e. is_alone rest_key k e)
    (λ k h. let e = alone rest_key k h in (e, subst (λ x. IsTrue (is_key frames x)) (sym e) refl))

-- ---- types that differ

abbrev seen_by : Ty-F Ty → ℕ
seen_by (Ty-F.Int k) = kind_number k
seen_by Ty-F.Lock = 20
seen_by (Ty-F.Struct s) = 21
seen_by (Ty-F.Ptr t) = 22
seen_by Ty-F.VoidPtr = 23
seen_by (Ty-F.Fun ts) = 24
seen_by Ty-F.Void = 25

abbrev seen : Ty → ℕ
seen t = seen_by (out-Ty t)

abbrev kinds : List ℕ
kinds = 0 ∷ 1 ∷ 2 ∷ 3 ∷ 4 ∷ 5 ∷ 6 ∷ 7 ∷ 20 ∷ 21 ∷ 23 ∷ []

types_seen : map (λ t. seen t) frames.types ≡ kinds
unfolding form.out-Ty denote.Hole.Carrier.out
types_seen = refl

type_at : (i : ℕ) (t : Ty) → slice_get frames.types i ≡ Some t → slice_get kinds i ≡ Some (seen t)
type_at i t e = ap (λ xs. slice_get xs i) (sym types_seen) ∙ at_mapped (λ x. seen x) frames.types i t e

listed : (xs : List ℕ) (i n : ℕ) → slice_get xs i ≡ Some n → is_in numbers xs n ≡ true
listed [] i n e = absurd (nothing_there n e)
listed (x ∷ xs) zero n e = subst (λ m. is_in numbers (x ∷ xs) m ≡ true) (some_same e) (is_in-head numbers x xs)
listed (x ∷ xs) (suc i) n e = is_in-tail numbers x xs n (listed xs i n e)

byte_number : (i : ℕ) → slice_get kinds i ≡ Some 0 → i ≡ 0
unfolding is_in
byte_number zero e = refl
byte_number (suc i) e = absurd (both_ways false refl (listed (1 ∷ 2 ∷ 3 ∷ 4 ∷ 5 ∷ 6 ∷ 7 ∷ 20 ∷ 21 ∷ 23 ∷ []) i 0 e))

word_number : (i : ℕ) → slice_get kinds i ≡ Some 2 → i ≡ 2
unfolding is_in
word_number zero e = absurd (both_ways false refl (listed (0 ∷ []) 0 2 e))
word_number (suc zero) e = absurd (both_ways false refl (listed (1 ∷ []) 0 2 e))
word_number (suc (suc zero)) e = refl
word_number (suc (suc (suc i))) e = absurd (both_ways false refl (listed (3 ∷ 4 ∷ 5 ∷ 6 ∷ 7 ∷ 20 ∷ 21 ∷ 23 ∷ []) i 2 e))

no_pointer : (i : ℕ) → slice_get kinds i ≡ Some 22 → ⊥
unfolding is_in
no_pointer i e = both_ways false refl (listed kinds i 22 e)

-- ---- an object

word_seen : seen u32 ≡ 2
unfolding form.out-Ty denote.Hole.Carrier.out
word_seen = refl

word_key : (cell : ℕ) (k : Key) → key_at frames None 2 cell ≡ Some k → k ≡ key.Elem 2
unfolding key_at cells struct_cells leaves_below field_leaves repeated leaves form.out-Ty denote.Hole.Carrier.out
word_key zero k e = sym (some_same e)
word_key (suc cell) k e = absurd (nothing_there k e)

word_cell : key_at frames None 2 0 ≡ Some (key.Elem 2)
unfolding key_at cells struct_cells leaves_below field_leaves repeated leaves form.out-Ty denote.Hole.Carrier.out
word_cell = refl

object_key : (k : Key) → IsCellKey frames u32 k → k ≡ key.Elem 2
object_key k h =
    let at : h.number ≡ 2 = word_number h.number (type_at h.number u32 h.names ∙ ap Some word_seen) in
    word_key h.cell k (subst (λ n. key_at frames None n h.cell ≡ Some k) at h.is)

word_kept : is_key frames (key.Elem 2) ≡ true
unfolding is_key form.out-Ty denote.Hole.Carrier.out
word_kept = refl

objects : AreKeys frames users 2 (key.Elem 2 ∷ [])
objects = only_form 2 keep (Whole u32) (key.Elem 2 ∷ []) (omega arith) refl keep_forms tt
    (λ k h. is_alone (key.Elem 2) k (object_key k h))
    (λ k h. let e = alone (key.Elem 2) k h in
    (subst (IsCellKey frames u32) (sym e) (record { number = 2; names = refl; cell = 0; is = word_cell }), subst (λ x. IsTrue (is_key frames x)) (sym e) word_kept))

-- ---- pointers to scalars

byte_seen : seen u8 ≡ 0
unfolding form.out-Ty denote.Hole.Carrier.out
byte_seen = refl

absent_seen : seen absent ≡ 22
unfolding form.out-Ty denote.Hole.Carrier.out
absent_seen = refl

packet_seen : seen (ty.Struct 0) ≡ 21
unfolding form.out-Ty denote.Hole.Carrier.out
packet_seen = refl

differ : (s t : Ty) (m n : ℕ) → seen s ≡ m → seen t ≡ n → (m ≡ n → ⊥) → Some s ≡ Some t → ⊥
differ s t m n a b apart e = apart (sym a ∙ ap (λ x. seen x) (some_same e) ∙ b)

abbrev bytes : List Key
bytes = key.Global 1 ∷ head_key ∷ tail_key ∷ key.Elem 0 ∷ []

exposed_field : (s f : ℕ) → IsExposed frames (key.Field s f) → (key.Field s f ≡ head_key) ⊎ (key.Field s f ≡ tail_key)
exposed_field s f h = let one : IsOneOf (head_key ∷ tail_key ∷ []) (key.Field s f) = subst (λ xs. IsOneOf xs (key.Field s f)) frames_exposed h in of one.at one.is
  where
    of : (at : ℕ) → slice_get (head_key ∷ tail_key ∷ []) at ≡ Some (key.Field s f) → (key.Field s f ≡ head_key) ⊎ (key.Field s f ≡ tail_key)
    of zero e = inl (sym (some_same e))
    of (suc zero) e = inr (sym (some_same e))
    of (suc (suc at)) e = absurd (nothing_there _ e)

in_bytes : (k j : Key) → k ≡ j → is_in keys bytes j ≡ true → is_in keys bytes k ≡ true
in_bytes k j e h = subst (λ x. is_in keys bytes x ≡ true) (sym e) h

byte_key : (k : Key) → FormHas frames (Follow u8) k → is_in keys bytes k ≡ true
unfolding is_in
byte_key (key.Global zero) h = absurd (differ (ty.Struct 0) u8 21 0 packet_seen byte_seen (λ e. omega (arith, e)) h.1)
byte_key (key.Global (suc zero)) h = refl
byte_key (key.Global (suc (suc g))) h = absurd (nothing_there _ h.1)
byte_key (key.Field s f) h = of (exposed_field s f h.0)
  where
    of : (key.Field s f ≡ head_key) ⊎ (key.Field s f ≡ tail_key) → is_in keys bytes (key.Field s f) ≡ true
    of (inl e) = in_bytes _ head_key e refl
    of (inr e) = in_bytes _ tail_key e refl
byte_key (key.Elem t) h = in_bytes _ (key.Elem 0) (ap key.Elem (byte_number t (type_at t u8 h.1 ∙ ap Some byte_seen))) refl

absent_key : (k : Key) → FormHas frames (Follow absent) k → ⊥
absent_key (key.Global zero) h = differ (ty.Struct 0) absent 21 22 packet_seen absent_seen (λ e. omega (arith, e)) h.1
absent_key (key.Global (suc zero)) h = differ u8 absent 0 22 byte_seen absent_seen (λ e. omega (arith, e)) h.1
absent_key (key.Global (suc (suc g))) h = nothing_there _ h.1
absent_key (key.Field s f) h = of (exposed_field s f h.0)
  where
    typed : (j : Key) → key.Field s f ≡ j → key_type frames j ≡ Some absent
    typed j e = subst (λ x. key_type frames x ≡ Some absent) e h.1

    of : (key.Field s f ≡ head_key) ⊎ (key.Field s f ≡ tail_key) → ⊥
    of (inl e) = differ u8 absent 0 22 byte_seen absent_seen (λ x. omega (arith, x)) (typed head_key e)
    of (inr e) = differ u8 absent 0 22 byte_seen absent_seen (λ x. omega (arith, x)) (typed tail_key e)
absent_key (key.Elem t) h = no_pointer t (type_at t absent h.1 ∙ ap Some absent_seen)

-- each of the four keys is one of bytes
abbrev IsByteKey : Key → Type 0
IsByteKey k = FormHas frames (Follow u8) k × IsTrue (is_key frames k)

field_exposed : (at : ℕ) (k : Key) → slice_get (head_key ∷ tail_key ∷ []) at ≡ Some k → IsOneOf (exposed_fields frames) k
field_exposed at k e = subst (λ xs. IsOneOf xs k) (sym frames_exposed) (record { at = at; is = e })

of_tag : IsByteKey (key.Global 1)
unfolding is_key form.out-Ty denote.Hole.Carrier.out
of_tag = ((tt, refl), refl)

of_head : IsByteKey head_key
unfolding is_key form.out-Ty denote.Hole.Carrier.out
of_head = ((field_exposed 0 head_key refl, refl), refl)

of_tail : IsByteKey tail_key
unfolding is_key form.out-Ty denote.Hole.Carrier.out
of_tail = ((field_exposed 1 tail_key refl, refl), refl)

of_byte : IsByteKey (key.Elem 0)
unfolding is_key form.out-Ty denote.Hole.Carrier.out
of_byte = ((tt, refl), refl)

are_bytes : (k : Key) → is_in keys bytes k ≡ true → IsByteKey k
are_bytes k h = first (is_in-cases keys (key.Global 1) (head_key ∷ tail_key ∷ key.Elem 0 ∷ []) k h)
  where
    third : (k ≡ tail_key) ⊎ (is_in keys (key.Elem 0 ∷ []) k ≡ true) → IsByteKey k
    third (inl e) = subst IsByteKey (sym e) of_tail
    third (inr r) = subst IsByteKey (sym (alone (key.Elem 0) k r)) of_byte

    second : (k ≡ head_key) ⊎ (is_in keys (tail_key ∷ key.Elem 0 ∷ []) k ≡ true) → IsByteKey k
    second (inl e) = subst IsByteKey (sym e) of_head
    second (inr r) = third (is_in-cases keys tail_key (key.Elem 0 ∷ []) k r)

    first : (k ≡ key.Global 1) ⊎ (is_in keys (head_key ∷ tail_key ∷ key.Elem 0 ∷ []) k ≡ true) → IsByteKey k
    first (inl e) = subst IsByteKey (sym e) of_tag
    first (inr r) = second (is_in-cases keys head_key (tail_key ∷ key.Elem 0 ∷ []) k r)

delivered : AreKeys frames users 1 bytes
delivered = only_form 1 send (Follow u8) bytes (omega arith) refl send_forms (tt, (inr (refl, omega arith), (tt, tt))) byte_key are_bytes

followed_nowhere : AreKeys frames users 3 []
followed_nowhere = only_form 3 far (Follow absent) [] (omega arith) refl far_forms tt (λ k h. absurd (absent_key k h)) (λ k h. absurd (none_in keys k h))

pub forms_have_keys : FormsHaveKeys
forms_have_keys = record { exposed = frames_exposed; subscript = subscripted; delivery = delivered; object = objects; nothing = followed_nowhere }
