-- What is written as a type's text is read as the type.
use Rattle.std.proofs.Common.{◌≡◌, ℕ, zero, suc, Bool, true, false, ◌+◌, ◌≤◌, List, [], ◌∷◌, ◌++◌, length, Option, Some, None, IsTrue, codes, refl, sym, ap, ◌∙◌, arith, append_assoc, length-append}
use Rattle.std.proofs.lemmas.List.{append-nil}
use Rattle.mdr_core.specs.declared.kind.Kind.{Kind}
use Rattle.mdr_core.specs.declared.kind.Kind.TheVariants.{U8, U16, U32, U64, S8, S16, S32, S64}
use Rattle.mdr_core.specs.declared.types.Ty.{Ty}
use Rattle.mdr_core.specs.declared.types.Ty.TheVariants as type
use Rattle.mdr_core.specs.Types.{is_scalar}
use Rattle.mdr_core.specs.TypeText.{Text, kind_text, star, params_text, signature_text, behind_commas}
use Rattle.mdr_plan.specs.Front.{strip}
use Rattle.mdr_plan.specs.Gives.{◌>>=◌}
use Rattle.mdr_plan.specs.Naming.{Naming}
use Rattle.mdr_plan.specs.TypeTexts.{Written, AreParams, is_result}
use Rattle.mdr_plan.specs.TypeTexts.Written.{OfInt, OfLock, OfStruct, OfVoid, OfPtr, OfFun}
use Rattle.mdr_plan.specs.TypeTexts.AreParams.{NoParams, Param}
use Rattle.mdr_plan.specs.TypeReading.{Read, kind_of, plain_of, stars, behind, plain_at, struct_at, when, params_by, others_by, more_by, signature_by, fun_by, typed_by, type_at, more_at}
use Rattle.mdr_plan.proofs.Fronts.{IsWord, IsBreak, word_again}

-- what stands behind the text of a type t, of which p is a pointer, with the stars that may still come
abbrev pub after : Bool → (t p : Ty) → List ℕ → Ty × List ℕ
after true t p rest = stars t rest
after false t p rest = behind t p rest

pub type_step : (m : ℕ) (names : Naming) (word rest : List ℕ) → IsWord word → IsBreak rest → type_at (suc m) names (word ++ rest) ≡ typed_by (λ bs. type_at m names bs) (λ ts bs. more_at m names ts bs) names word rest
type_step m names word rest w b = ap (λ (q : List ℕ × List ℕ). typed_by (λ bs. type_at m names bs) (λ ts bs. more_at m names ts bs) names q.0 q.1) (word_again word rest w b)

typed_kind : (one : List ℕ → Read Ty) (more : List Ty → List ℕ → Read (List Ty)) (names : Naming) (k : Kind) (rest : List ℕ) → typed_by one more names (kind_text k) rest ≡ Some (behind (type.Int k) (type.Ptr (type.Int k)) rest)
unfolding typed_by plain_at plain_of kind_of
typed_kind one more names U8 rest = refl
typed_kind one more names U16 rest = refl
typed_kind one more names U32 rest = refl
typed_kind one more names U64 rest = refl
typed_kind one more names S8 rest = refl
typed_kind one more names S16 rest = refl
typed_kind one more names S32 rest = refl
typed_kind one more names S64 rest = refl

kind_word : (k : Kind) → IsWord (kind_text k)
kind_word U8 = record { whole = refl }
kind_word U16 = record { whole = refl }
kind_word U32 = record { whole = refl }
kind_word U64 = record { whole = refl }
kind_word S8 = record { whole = refl }
kind_word S16 = record { whole = refl }
kind_word S32 = record { whole = refl }
kind_word S64 = record { whole = refl }

typed_lock : (one : List ℕ → Read Ty) (more : List Ty → List ℕ → Read (List Ty)) (names : Naming) (rest : List ℕ) → typed_by one more names (codes "combolock_t") rest ≡ Some (behind type.Lock (type.Ptr type.Lock) rest)
unfolding typed_by plain_at plain_of
typed_lock one more names rest = refl

typed_void : (one : List ℕ → Read Ty) (more : List Ty → List ℕ → Read (List Ty)) (names : Naming) (rest : List ℕ) → typed_by one more names (codes "void") rest ≡ Some (behind type.Void type.VoidPtr rest)
unfolding typed_by
typed_void one more names rest = refl

typed_struct : (one : List ℕ → Read Ty) (more : List Ty → List ℕ → Read (List Ty)) (names : Naming) (name : List ℕ) (s : ℕ) (rest : List ℕ) → names name ≡ Some s → IsWord name → IsBreak rest
    → typed_by one more names (codes "struct") (32 ∷ (name ++ rest)) ≡ Some (behind (type.Struct s) (type.Ptr (type.Struct s)) rest)
unfolding typed_by struct_at
typed_struct one more names name s rest e w b = rw (word_again name rest w b, e) refl

-- a starred text's pointer is one more star
starred_pointer : (names : Naming) (t p : Ty) (x : Text) → Written names t p x → x.starred ≡ true → p ≡ type.Ptr t
starred_pointer names _ _ _ (OfInt k) e = absurd (Prim.cc)
starred_pointer names _ _ _ OfLock e = absurd (Prim.cc)
starred_pointer names _ _ _ (OfStruct s name a b) e = absurd (Prim.cc)
starred_pointer names _ _ _ OfVoid e = absurd (Prim.cc)
starred_pointer names _ _ _ (OfPtr t p x w) e = refl
starred_pointer names _ _ _ (OfFun r p ts x xs w i ps) e = absurd (Prim.cc)

-- one more star
star_behind : (s : Bool) (t p : Ty) (rest : List ℕ) → (s ≡ true → p ≡ type.Ptr t) → after s t p (star s ++ rest) ≡ stars p rest
unfolding behind
star_behind true t p rest h = ap (λ q. stars q rest) (sym (h refl))
star_behind false t p rest h = refl

star_breaks : (s : Bool) (rest : List ℕ) → IsBreak (star s ++ rest)
star_breaks true rest = record { none = refl }
star_breaks false rest = record { none = refl }

-- nothing follows behind these
after_semicolon : (s : Bool) (t p : Ty) (rest : List ℕ) → after s t p (59 ∷ rest) ≡ (t, 59 ∷ rest)
unfolding behind
after_semicolon true t p rest = refl
after_semicolon false t p rest = refl

-- the text behind the last parameter, or before the next
abbrev pub tail_of : List Text → List ℕ → List ℕ
tail_of xs rest = behind_commas xs ++ 41 ∷ rest

after_parameter : (s : Bool) (t p : Ty) (xs : List Text) (rest : List ℕ) → after s t p (tail_of xs rest) ≡ (t, tail_of xs rest)
unfolding behind behind_commas
after_parameter true t p [] rest = refl
after_parameter false t p [] rest = refl
after_parameter true t p (x ∷ xs) rest = refl
after_parameter false t p (x ∷ xs) rest = refl

tail_breaks : (xs : List Text) (rest : List ℕ) → IsBreak (tail_of xs rest)
unfolding behind_commas
tail_breaks [] rest = record { none = refl }
tail_breaks (x ∷ xs) rest = record { none = refl }

kind_opens : (k : Kind) (rest : List ℕ) → strip (codes ")") (kind_text k ++ rest) ≡ None
kind_opens U8 rest = refl
kind_opens U16 rest = refl
kind_opens U32 rest = refl
kind_opens U64 rest = refl
kind_opens S8 rest = refl
kind_opens S16 rest = refl
kind_opens S32 rest = refl
kind_opens S64 rest = refl

-- a type's text begins with no closing parenthesis
opens : (names : Naming) (t p : Ty) (x : Text) (rest : List ℕ) → Written names t p x → strip (codes ")") (x.bytes ++ rest) ≡ None
opens names _ _ _ rest (OfInt k) = kind_opens k rest
opens names _ _ _ rest OfLock = refl
opens names _ _ _ rest (OfStruct s name a b) = refl
opens names _ _ _ rest OfVoid = refl
opens names _ _ _ rest (OfPtr t p x w) = ap (strip (codes ")")) (append_assoc x.bytes (star x.starred) rest) ∙ opens names t p x (star x.starred ++ rest) w
opens names _ _ _ rest (OfFun r p ts x xs w i ps) = refl

some : (names : Naming) (t p : Ty) (x : Text) → Written names t p x → 1 ≤ length x.bytes
some names _ _ _ (OfInt U8) = omega arith
some names _ _ _ (OfInt U16) = omega arith
some names _ _ _ (OfInt U32) = omega arith
some names _ _ _ (OfInt U64) = omega arith
some names _ _ _ (OfInt S8) = omega arith
some names _ _ _ (OfInt S16) = omega arith
some names _ _ _ (OfInt S32) = omega arith
some names _ _ _ (OfInt S64) = omega arith
some names _ _ _ OfLock = omega arith
some names _ _ _ (OfStruct s name a b) = omega arith
some names _ _ _ OfVoid = omega arith
some names _ _ _ (OfPtr t p x w) = let h : 1 ≤ length x.bytes = some names t p x w in rw length-append (omega (arith, h))
some names _ _ _ (OfFun r p ts x xs w i ps) = omega arith

le_front : (xs ys : List ℕ) (n : ℕ) → length (xs ++ ys) ≤ n → length xs ≤ n
le_front xs ys n h = let e : length (xs ++ ys) ≡ length xs + length ys = length-append xs ys in omega (arith, e, h)

-- ---- functions

-- one parameter and the next ones, where one and more read what they should
param_step : (one : List ℕ → Read Ty) (more : List Ty → List ℕ → Read (List Ty)) (t : Ty) (x : Text) (xs : List Text) (before : List Ty) (rest : List ℕ)
    → one (x.bytes ++ tail_of xs rest) ≡ Some (t, tail_of xs rest) → IsTrue (is_scalar t)
    → more_by one more before (params_text (x ∷ xs) ++ 41 ∷ rest) ≡ others_by more (before ++ t ∷ []) (tail_of xs rest)
unfolding more_by
param_step one more t x xs before rest e s =
    let split : params_text (x ∷ xs) ++ 41 ∷ rest ≡ x.bytes ++ tail_of xs rest = append_assoc x.bytes (behind_commas xs) (41 ∷ rest) in
    ap (λ bs. one bs >>= λ (u : Ty × List ℕ). when (is_scalar u.0) (others_by more (before ++ u.0 ∷ []) u.1)) split ∙ ap (λ (o : Read Ty). o >>= λ (u : Ty × List ℕ). when (is_scalar u.0) (others_by more (before ++ u.0 ∷ []) u.1)) e ∙ when_true (is_scalar t) (others_by more (before ++ t ∷ []) (tail_of xs rest)) s
  where
    when_true : {A : Type 0} (b : Bool) (o : Option A) → IsTrue b → when b o ≡ o
    when_true true o h = refl
    when_true false o h = let q : false ≡ true = h in absurd (Prim.cc)

others_end : (more : List Ty → List ℕ → Read (List Ty)) (ts : List Ty) (rest : List ℕ) → others_by more ts (tail_of [] rest) ≡ Some (ts, rest)
unfolding others_by behind_commas
others_end more ts rest = refl

others_more : (more : List Ty → List ℕ → Read (List Ty)) (ts : List Ty) (x : Text) (xs : List Text) (rest : List ℕ) → others_by more ts (tail_of (x ∷ xs) rest) ≡ more ts (params_text (x ∷ xs) ++ 41 ∷ rest)
unfolding others_by behind_commas
others_more more ts x xs rest = refl

-- a function's text, where its parts are read
fun_step : (one : List ℕ → Read Ty) (more : List Ty → List ℕ → Read (List Ty)) (names : Naming) (r : Ty) (ts : List Ty) (x : Text) (inner rest : List ℕ)
    → one (x.bytes ++ 59 ∷ inner) ≡ Some (r, 59 ∷ inner) → IsTrue (is_result r) → params_by more (r ∷ []) inner ≡ Some (r ∷ ts, rest)
    → typed_by one more names (codes "fn") (40 ∷ (x.bytes ++ 59 ∷ inner)) ≡ Some (behind (type.Fun (r ∷ ts)) (type.Ptr (type.Fun (r ∷ ts))) rest)
unfolding typed_by fun_by signature_by
fun_step one more names r ts x inner rest e s h = rw e (on (is_result r) s)
  where
    on : (b : Bool) → IsTrue b → ((when b (params_by more (r ∷ []) inner)) >>= λ (us : List Ty × List ℕ). Some (behind (type.Fun us.0) (type.Ptr (type.Fun us.0)) us.1)) ≡ Some (behind (type.Fun (r ∷ ts)) (type.Ptr (type.Fun (r ∷ ts))) rest)
    on true i = rw h refl
    on false i = let q : false ≡ true = i in absurd (Prim.cc)

params_none : (more : List Ty → List ℕ → Read (List Ty)) (ts : List Ty) (rest : List ℕ) → params_by more ts (41 ∷ rest) ≡ Some (ts, rest)
unfolding params_by
params_none more ts rest = refl

params_some : (more : List Ty → List ℕ → Read (List Ty)) (ts : List Ty) (bytes : List ℕ) → strip (codes ")") bytes ≡ None → params_by more ts bytes ≡ more ts bytes
unfolding params_by
params_some more ts bytes e = rw e refl

pub fun_text : (x : Text) (xs : List Text) (rest : List ℕ) → (codes "fn(" ++ (signature_text (x ∷ xs) ++ codes ")")) ++ rest ≡ codes "fn" ++ (40 ∷ (x.bytes ++ 59 ∷ (params_text xs ++ 41 ∷ rest)))
fun_text x xs rest = ap (λ bs. codes "fn(" ++ bs) (append_assoc (signature_text (x ∷ xs)) (codes ")") rest ∙ append_assoc x.bytes (codes ";" ++ params_text xs) (41 ∷ rest))

again_kind : (names : Naming) (k : Kind) (n : ℕ) (rest : List ℕ) → 1 ≤ n → IsBreak rest → type_at n names (kind_text k ++ rest) ≡ Some (behind (type.Int k) (type.Ptr (type.Int k)) rest)
again_kind names k zero rest le b = absurd (omega arith)
again_kind names k (suc m) rest le b = type_step m names (kind_text k) rest (kind_word k) b ∙ typed_kind _ _ names k rest

again_lock : (names : Naming) (n : ℕ) (rest : List ℕ) → 1 ≤ n → IsBreak rest → type_at n names (codes "combolock_t" ++ rest) ≡ Some (behind type.Lock (type.Ptr type.Lock) rest)
again_lock names zero rest le b = absurd (omega arith)
again_lock names (suc m) rest le b = type_step m names (codes "combolock_t") rest (record { whole = refl }) b ∙ typed_lock _ _ names rest

again_void : (names : Naming) (n : ℕ) (rest : List ℕ) → 1 ≤ n → IsBreak rest → type_at n names (codes "void" ++ rest) ≡ Some (behind type.Void type.VoidPtr rest)
again_void names zero rest le b = absurd (omega arith)
again_void names (suc m) rest le b = type_step m names (codes "void") rest (record { whole = refl }) b ∙ typed_void _ _ names rest

again_struct : (names : Naming) (name : List ℕ) (s n : ℕ) (rest : List ℕ) → names name ≡ Some s → IsWord name → 1 ≤ n → IsBreak rest → type_at n names (codes "struct" ++ (32 ∷ (name ++ rest))) ≡ Some (behind (type.Struct s) (type.Ptr (type.Struct s)) rest)
again_struct names name s zero rest e w le b = absurd (omega arith)
again_struct names name s (suc m) rest e w le b = type_step m names (codes "struct") (32 ∷ (name ++ rest)) (record { whole = refl }) (record { none = refl }) ∙ typed_struct _ _ names name s rest e w b

again_fun : (names : Naming) (r : Ty) (ts : List Ty) (x : Text) (xs : List Text) (n : ℕ) (rest : List ℕ)
    → ((m : ℕ) → length x.bytes ≤ m → type_at m names (x.bytes ++ 59 ∷ (params_text xs ++ 41 ∷ rest)) ≡ Some (r, 59 ∷ (params_text xs ++ 41 ∷ rest)))
    → IsTrue (is_result r)
    → ((m : ℕ) → 1 + length (params_text xs) ≤ m → params_by (λ us bs. more_at m names us bs) (r ∷ []) (params_text xs ++ 41 ∷ rest) ≡ Some (r ∷ ts, rest))
    → length x.bytes + length (params_text xs) + 2 ≤ n
    → type_at n names (codes "fn" ++ (40 ∷ (x.bytes ++ 59 ∷ (params_text xs ++ 41 ∷ rest)))) ≡ Some (behind (type.Fun (r ∷ ts)) (type.Ptr (type.Fun (r ∷ ts))) rest)
again_fun names r ts x xs zero rest one i others le = absurd (omega arith)
again_fun names r ts x xs (suc m) rest one i others le =
    type_step m names (codes "fn") (40 ∷ (x.bytes ++ 59 ∷ (params_text xs ++ 41 ∷ rest))) (record { whole = refl }) (record { none = refl })
    ∙ fun_step _ _ names r ts x (params_text xs ++ 41 ∷ rest) rest (one m (omega arith)) i (others m (omega arith))

again_param : (names : Naming) (t p : Ty) (ts : List Ty) (x : Text) (xs : List Text) (n : ℕ) (before : List Ty) (rest : List ℕ)
    → ((m : ℕ) → length x.bytes ≤ m → type_at m names (x.bytes ++ tail_of xs rest) ≡ Some (t, tail_of xs rest))
    → IsTrue (is_scalar t)
    → ((m : ℕ) → length (behind_commas xs) ≤ m → others_by (λ us bs. more_at m names us bs) (before ++ t ∷ []) (tail_of xs rest) ≡ Some ((before ++ t ∷ []) ++ ts, rest))
    → 1 + length (params_text (x ∷ xs)) ≤ n
    → more_at n names before (params_text (x ∷ xs) ++ 41 ∷ rest) ≡ Some (before ++ t ∷ ts, rest)
again_param names t p ts x xs zero before rest one i others le = absurd (omega arith)
again_param names t p ts x xs (suc m) before rest one i others le =
    let e : length (params_text (x ∷ xs)) ≡ length x.bytes + length (behind_commas xs) = length-append x.bytes (behind_commas xs) in
    param_step _ (λ us bs. more_at m names us bs) t x xs before rest (one m (omega (arith, e, le))) i
    ∙ others m (omega (arith, e, le)) ∙ ap (λ us. Some (us, rest)) (append_assoc before (t ∷ []) ts)

fun_length : (x : Text) (xs : List Text) → length (codes "fn(" ++ (signature_text (x ∷ xs) ++ codes ")")) ≡ length x.bytes + length (params_text xs) + 5
fun_length x xs =
    let e : length (signature_text (x ∷ xs) ++ codes ")") ≡ length (signature_text (x ∷ xs)) + 1 = length-append (signature_text (x ∷ xs)) (codes ")") in
    let f : length (signature_text (x ∷ xs)) ≡ length x.bytes + length (codes ";" ++ params_text xs) = length-append x.bytes (codes ";" ++ params_text xs) in
    let g : length (codes "fn(" ++ (signature_text (x ∷ xs) ++ codes ")")) ≡ 3 + length (signature_text (x ∷ xs) ++ codes ")") = length-append (codes "fn(") (signature_text (x ∷ xs) ++ codes ")") in
    let h : length (codes ";" ++ params_text xs) ≡ 1 + length (params_text xs) = length-append (codes ";") (params_text xs) in
    omega (arith, e, f, g, h)

commas_length : (x : Text) (xs : List Text) → length (behind_commas (x ∷ xs)) ≡ 1 + length (params_text (x ∷ xs))
unfolding behind_commas
commas_length x xs = length-append (codes ",") (params_text (x ∷ xs))

mutual
  pub again : (names : Naming) (t p : Ty) (x : Text) (n : ℕ) (rest : List ℕ) → Written names t p x → length x.bytes ≤ n → IsBreak rest → type_at n names (x.bytes ++ rest) ≡ Some (after x.starred t p rest)
  again names _ _ _ n rest (OfInt k) le b = let h : 1 ≤ length (kind_text k) = some names _ _ _ (OfInt k) in again_kind names k n rest (omega (arith, h, le)) b
  again names _ _ _ n rest OfLock le b = again_lock names n rest (omega (arith, le)) b
  again names _ _ _ n rest (OfStruct s name a w) le b = again_struct names name s n rest a (record { whole = w }) (omega (arith, le)) b
  again names _ _ _ n rest OfVoid le b = again_void names n rest (omega (arith, le)) b
  again names _ _ _ n rest (OfPtr t p x w) le b =
      let shorter : length x.bytes ≤ n = le_front x.bytes (star x.starred) n le in
      ap (type_at n names) (append_assoc x.bytes (star x.starred) rest) ∙ again names t p x n (star x.starred ++ rest) w shorter (star_breaks x.starred rest) ∙ ap (λ q. Some q) (star_behind x.starred t p rest (starred_pointer names t p x w))
  again names _ _ _ n rest (OfFun r p ts x xs w i ps) le b =
      let e = fun_length x xs in
      ap (type_at n names) (fun_text x xs rest)
      ∙ again_fun names r ts x xs n rest
      (λ m h. again names r p x m (59 ∷ (params_text xs ++ 41 ∷ rest)) w h (record { none = refl }) ∙ ap (λ q. Some q) (after_semicolon x.starred r p (params_text xs ++ 41 ∷ rest)))
      i
      (λ m h. params_again names ts xs m (r ∷ []) rest ps h)
      (omega (arith, e, le))

  pub params_again : (names : Naming) (ts : List Ty) (xs : List Text) (n : ℕ) (before : List Ty) (rest : List ℕ) → AreParams names ts xs → 1 + length (params_text xs) ≤ n → params_by (λ us bs. more_at n names us bs) before (params_text xs ++ 41 ∷ rest) ≡ Some (before ++ ts, rest)
  params_again names _ _ n before rest NoParams le = params_none _ before rest ∙ ap (λ us. Some (us, rest)) (sym (append-nil before))
  params_again names _ _ n before rest (Param t p ts x xs w i ps) le =
      params_some _ before (params_text (x ∷ xs) ++ 41 ∷ rest) (ap (strip (codes ")")) (append_assoc x.bytes (behind_commas xs) (41 ∷ rest)) ∙ opens names t p x (tail_of xs rest) w)
      ∙ again_param names t p ts x xs n before rest
      (λ m h. again names t p x m (tail_of xs rest) w h (tail_breaks xs rest) ∙ ap (λ q. Some q) (after_parameter x.starred t p xs rest))
      i
      (λ m h. more_again names ts xs m (before ++ t ∷ []) rest ps h)
      le

  pub more_again : (names : Naming) (ts : List Ty) (xs : List Text) (n : ℕ) (before : List Ty) (rest : List ℕ) → AreParams names ts xs → length (behind_commas xs) ≤ n → others_by (λ us bs. more_at n names us bs) before (tail_of xs rest) ≡ Some (before ++ ts, rest)
  more_again names _ _ n before rest NoParams le = others_end _ before rest ∙ ap (λ us. Some (us, rest)) (sym (append-nil before))
  more_again names _ _ n before rest (Param t p ts x xs w i ps) le =
      let e = commas_length x xs in
      others_more _ before x xs rest
      ∙ again_param names t p ts x xs n before rest
      (λ m h. again names t p x m (tail_of xs rest) w h (tail_breaks xs rest) ∙ ap (λ q. Some q) (after_parameter x.starred t p xs rest))
      i
      (λ m h. more_again names ts xs m (before ++ t ∷ []) rest ps h)
      (omega (arith, e, le))
