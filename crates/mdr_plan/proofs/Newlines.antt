-- The text of a line is one line.
use Rattle.std.proofs.Common.{◌≡◌, ℕ, zero, suc, Bool, true, false, cond, not, ◌+◌, ◌-◌, ◌/◌, ◌%◌, ◌<◌, ◌==◌, ltb, List, [], ◌∷◌, ◌++◌, length, IsTrue, codes, decimal, refl, sym, ap, subst, ◌∙◌, arith}
use Rattle.std.specs.List.{list_all, prefix_len}
use Rattle.std.specs.Fmt.{digits, digits_onto, digit_glyph}
use Rattle.std.proofs.lemmas.Bool.Decides.{Decides-eqb}
use Rattle.std.proofs.lemmas.List.Folds.{list_all-append}
use Rattle.mdr_core.specs.declared.kind.Kind.{Kind}
use Rattle.mdr_core.specs.declared.kind.Kind.TheVariants.{U8, U16, U32, U64, S8, S16, S32, S64}
use Rattle.mdr_core.specs.declared.plan.Half.{Half}
use Rattle.mdr_core.specs.declared.plan.Half.TheVariants.{Kernel, User}
use Rattle.mdr_core.specs.declared.plan.Key.{Key}
use Rattle.mdr_core.specs.declared.plan.Key.TheVariants.{Global, Field, Elem}
use Rattle.mdr_core.specs.declared.types.Ty.{Ty}
use Rattle.mdr_core.specs.TypeText.{Text, kind_text, star, behind_commas, params_text, signature_text}
use Rattle.mdr_syntax.specs.Bytes.{is_name_byte}
use Rattle.mdr_plan.specs.declared.line.Line.{Line}
use Rattle.mdr_plan.specs.declared.line.Line.TheVariants as line
use Rattle.mdr_plan.specs.declared.reader.Reader.{Reader}
use Rattle.mdr_plan.specs.Naming.{Naming, begins_name, is_name, is_new}
use Rattle.mdr_plan.specs.TypeTexts.{Written, AreParams}
use Rattle.mdr_plan.specs.TypeTexts.Written.{OfInt, OfLock, OfStruct, OfVoid, OfPtr, OfFun}
use Rattle.mdr_plan.specs.TypeTexts.AreParams.{NoParams, Param}
use Rattle.mdr_plan.specs.Lines.{first_text, half_text, root_text, key_text, line_text, IsNext}
use Rattle.mdr_plan.specs.Texts.{in_line}
use Rattle.mdr_plan.proofs.TypesRead.{both}

abbrev pub IsPlain : List ℕ → Type 0
IsPlain bytes = IsTrue (list_all in_line bytes)

pub all_in : (p : ℕ → Bool) (xs : List ℕ) → prefix_len p xs ≡ length xs → list_all p xs ≡ true
all_in p [] e = refl
all_in p (x ∷ xs) e = on (p x) refl e (all_in p xs)
  where
    on : (v : Bool) → p x ≡ v → cond v (1 + prefix_len p xs) 0 ≡ suc (length xs) → (prefix_len p xs ≡ length xs → list_all p xs ≡ true) → list_all p (x ∷ xs) ≡ true
    on true q f h = let g : prefix_len p xs ≡ length xs = omega (arith, f) in rw q (h g)
    on false q f h = absurd (omega (arith, f))

pub joined : (xs ys : List ℕ) → IsPlain xs → IsPlain ys → IsPlain (xs ++ ys)
joined xs ys h k = let a : list_all in_line xs ≡ true = h in let b : list_all in_line ys ≡ true = k in list_all-append in_line xs ys ∙ rw (a, b) refl

-- what isn't true of a newline
in_class : (p : ℕ → Bool) (b : ℕ) → p 10 ≡ false → p b ≡ true → in_line b ≡ true
in_class p b no_ten h = on (b == 10) refl
  where
    on : (v : Bool) → (b == 10) ≡ v → not v ≡ true
    on true q = let e : b ≡ 10 = (Decides-eqb b 10).0 q in let n : false ≡ true = sym no_ten ∙ sym (ap p e) ∙ h in absurd (Prim.cc)
    on false q = refl

all_in_class : (p : ℕ → Bool) (xs : List ℕ) → p 10 ≡ false → list_all p xs ≡ true → IsPlain xs
all_in_class p [] no_ten h = refl
all_in_class p (x ∷ xs) no_ten h =
    let b = both (p x) (list_all p xs) h in
    let q : in_line x ≡ true = in_class p x no_ten b.0 in
    let r : list_all in_line xs ≡ true = all_in_class p xs no_ten b.1 in
    rw q r

word_plain : (name : List ℕ) → prefix_len is_name_byte name ≡ length name → IsPlain name
word_plain name e = all_in_class is_name_byte name refl (all_in is_name_byte name e)

new_plain : (names : List (List ℕ)) (name : List ℕ) → IsTrue (is_new names name) → IsPlain name
unfolding is_new is_name
new_plain names name h = all_in_class is_name_byte name refl (both (begins_name name) (list_all is_name_byte name) (both _ _ (both _ _ h).0).0).1

-- ---- numbers

above : (n : ℕ) → 10 < n → in_line n ≡ true
above n lt = on (n == 10) refl
  where
    on : (v : Bool) → (n == 10) ≡ v → not v ≡ true
    on true q = let e : n ≡ 10 = (Decides-eqb n 10).0 q in absurd (omega (arith, e, lt))
    on false q = refl

glyph_plain : (d : ℕ) → in_line (digit_glyph false d) ≡ true
glyph_plain d = on (ltb d 10)
  where
    on : (v : Bool) → in_line (cond v (48 + d) (87 + d)) ≡ true
    on true = above (48 + d) (omega arith)
    on false = above (87 + d) (omega arith)

onto_plain : (k n : ℕ) (acc : List ℕ) → IsPlain acc → IsPlain (digits_onto k 10 false n acc)
onto_plain zero n acc h = h
onto_plain (suc k) n acc h =
    let more : IsPlain (digit_glyph false (n % 10) ∷ acc) = let g : in_line (digit_glyph false (n % 10)) ≡ true = glyph_plain (n % 10) in rw g h in
    on (n / 10 == 0) more (onto_plain k (n / 10) (digit_glyph false (n % 10) ∷ acc) more)
  where
    on : (v : Bool) → IsPlain (digit_glyph false (n % 10) ∷ acc) → IsPlain (digits_onto k 10 false (n / 10) (digit_glyph false (n % 10) ∷ acc)) → IsPlain (cond v (digit_glyph false (n % 10) ∷ acc) (digits_onto k 10 false (n / 10) (digit_glyph false (n % 10) ∷ acc)))
    on true a b = a
    on false a b = b

decimal_plain : (n : ℕ) → IsPlain (decimal n)
unfolding digits
decimal_plain n = onto_plain 64 n [] refl

-- ---- types

kind_plain : (k : Kind) → IsPlain (kind_text k)
kind_plain U8 = refl
kind_plain U16 = refl
kind_plain U32 = refl
kind_plain U64 = refl
kind_plain S8 = refl
kind_plain S16 = refl
kind_plain S32 = refl
kind_plain S64 = refl

star_plain : (s : Bool) → IsPlain (star s)
star_plain true = refl
star_plain false = refl

none_plain : IsPlain (behind_commas [])
unfolding behind_commas
none_plain = refl

some_plain : (x : Text) (xs : List Text) → IsPlain (x.bytes ++ behind_commas xs) → IsPlain (behind_commas (x ∷ xs))
unfolding behind_commas
some_plain x xs h = h

mutual
  type_plain : (names : Naming) (t p : Ty) (x : Text) → Written names t p x → IsPlain x.bytes
  type_plain names _ _ _ (OfInt k) = kind_plain k
  type_plain names _ _ _ OfLock = refl
  type_plain names _ _ _ (OfStruct s name a w) = word_plain name w
  type_plain names _ _ _ OfVoid = refl
  type_plain names _ _ _ (OfPtr t p x w) = joined x.bytes (star x.starred) (type_plain names t p x w) (star_plain x.starred)
  type_plain names _ _ _ (OfFun r p ts x xs w i ps) =
      joined (codes "fn(") (signature_text (x ∷ xs) ++ codes ")") refl
      (joined (signature_text (x ∷ xs)) (codes ")") (joined x.bytes (codes ";" ++ params_text xs) (type_plain names r p x w) (params_plain names ts xs ps)) refl)

  params_plain : (names : Naming) (ts : List Ty) (xs : List Text) → AreParams names ts xs → IsPlain (params_text xs)
  params_plain names _ _ NoParams = refl
  params_plain names _ _ (Param t p ts x xs w i ps) = joined x.bytes (behind_commas xs) (type_plain names t p x w) (commas_plain names ts xs ps)

  commas_plain : (names : Naming) (ts : List Ty) (xs : List Text) → AreParams names ts xs → IsPlain (behind_commas xs)
  commas_plain names _ _ NoParams = none_plain
  commas_plain names _ _ (Param t p ts x xs w i ps) = some_plain x xs (joined x.bytes (behind_commas xs) (type_plain names t p x w) (commas_plain names ts xs ps))

-- ---- lines

first_plain : (k : ℕ) → IsPlain (first_text k)
unfolding first_text
first_plain k = by (k == 0) (codes "u8") _ refl (by (k == 1) (codes "u16") _ refl (by (k == 2) (codes "u32") _ refl (by (k == 3) (codes "u64") _ refl (by (k == 4) (codes "s8") _ refl (by (k == 5) (codes "s16") _ refl (by (k == 6) (codes "s32") _ refl (by (k == 7) (codes "s64") (codes "combolock_t") refl refl)))))))
  where
    by : (v : Bool) (xs ys : List ℕ) → IsPlain xs → IsPlain ys → IsPlain (cond v xs ys)
    by true xs ys h k = h
    by false xs ys h k = k

place_plain : (half : Half) (is_root : Bool) → IsPlain (half_text half ++ root_text is_root)
place_plain Kernel true = refl
place_plain Kernel false = refl
place_plain User true = refl
place_plain User false = refl

key_plain : (key : Key) → IsPlain (key_text key)
key_plain (Global g) = joined (codes " global ") (decimal g) refl (decimal_plain g)
key_plain (Field s f) = joined (codes " field ") (decimal s ++ (codes " " ++ decimal f)) refl (joined (decimal s) (codes " " ++ decimal f) (decimal_plain s) (joined (codes " ") (decimal f) refl (decimal_plain f)))
key_plain (Elem t) = joined (codes " elem ") (decimal t) refl (decimal_plain t)

numbered_plain : (word rest : List ℕ) (k : ℕ) → IsPlain word → IsPlain rest → IsPlain (word ++ (decimal k ++ rest))
numbered_plain word rest k h g = joined word (decimal k ++ rest) h (joined (decimal k) rest (decimal_plain k) g)

pub line_plain : (r : Reader) (l : Line) → IsNext r l → IsPlain (line_text r l)
line_plain r line.Heading h = refl
line_plain r line.First h = numbered_plain (codes "type ") (codes " " ++ first_text (length r.plan.types)) (length r.plan.types) refl (joined (codes " ") (first_text (length r.plan.types)) refl (first_plain (length r.plan.types)))
line_plain r (line.Struct name) h = numbered_plain (codes "type ") (codes " struct " ++ name) (length r.plan.types) refl (joined (codes " struct ") name refl (new_plain r.structs name (both _ (is_new r.structs name) h).1))
line_plain r (line.Type ty text) h = numbered_plain (codes "type ") (codes " " ++ text) (length r.plan.types) refl (joined (codes " ") text refl (subst IsPlain h.1.same (type_plain _ ty h.1.pointer h.1.whole h.1.written)))
line_plain r (line.Function name half is_root) h = numbered_plain (codes "function ") (codes " " ++ (name ++ (half_text half ++ root_text is_root))) (length r.plan.names) refl (joined (codes " ") (name ++ (half_text half ++ root_text is_root)) refl (joined name (half_text half ++ root_text is_root) (new_plain r.plan.names name (both _ (is_new r.plan.names name) h).1) (place_plain half is_root)))
line_plain r (line.Down k) h = joined (codes "down ") (decimal k) refl (decimal_plain k)
line_plain r (line.Up k) h = joined (codes "up ") (decimal k) refl (decimal_plain k)
line_plain r (line.Key key) h = numbered_plain (codes "key ") (key_text key) (r.ups - 1) refl (key_plain key)
line_plain r line.End h = refl
