-- What is read as a type is a type with the text.
use Rattle.std.proofs.Common.{◌≡◌, ℕ, zero, suc, Bool, true, false, cond, ◌==◌, List, [], ◌∷◌, ◌++◌, get_or, Option, Some, None, IsTrue, codes, refl, sym, ap, subst, ◌∙◌, arith, append_assoc, option_map}
use Rattle.std.specs.Str.{bytes_eq}
use Rattle.std.proofs.lemmas.List.{append-nil}
use Rattle.std.proofs.lemmas.Bool.Decides.{Decides-eqb}
use Rattle.std.proofs.lemmas.Slice.Eq.{bytes_eq-Decides}
use Rattle.mdr_core.specs.declared.kind.Kind.{Kind}
use Rattle.mdr_core.specs.declared.kind.Kind.TheVariants.{U8, U16, U32, U64, S8, S16, S32, S64}
use Rattle.mdr_core.specs.declared.types.Ty.{Ty}
use Rattle.mdr_core.specs.declared.types.Ty.TheVariants as type
use Rattle.mdr_core.specs.Types.{is_scalar}
use Rattle.mdr_core.specs.TypeText.{Text, kind_text, star, params_text, signature_text, behind_commas}
use Rattle.mdr_plan.specs.Front.{strip, word_at}
use Rattle.mdr_plan.specs.Gives.{◌>>=◌}
use Rattle.mdr_plan.specs.Naming.{Naming}
use Rattle.mdr_plan.specs.TypeTexts.{Written, AreParams, is_result, text}
use Rattle.mdr_plan.specs.TypeTexts.Written.{OfInt, OfLock, OfStruct, OfVoid, OfPtr, OfFun}
use Rattle.mdr_plan.specs.TypeTexts.AreParams.{NoParams, Param}
use Rattle.mdr_plan.specs.TypeReading.{Read, kind_of, plain_of, stars, behind_by, behind, plain_at, struct_at, when, closed, params_by, others_by, more_by, signature_by, fun_by, typed_by, type_at, more_at}
use Rattle.mdr_plan.proofs.Fronts.{word_is, word_whole, strip_is}
use Rattle.mdr_plan.proofs.TypesAgain.{fun_text}

-- a type was read from the bytes, and the rest is left
pub record Took (names : Naming) (bytes : List ℕ) (t : Ty) (rest : List ℕ) : Type 0 where
  pub pointer : Ty
  pub whole : Text
  pub written : Written names t pointer whole
  pub same : bytes ≡ whole.bytes ++ rest

-- parameters were read from the bytes with the parenthesis behind them: in front of them stand others, or none
pub record TookMore (names : Naming) (bytes : List ℕ) (before after : List Ty) (rest : List ℕ) (texts : List Text → List ℕ) : Type 0 where
  pub types : List Ty
  pub wholes : List Text
  pub params : AreParams names types wholes
  pub all : after ≡ before ++ types
  pub same : bytes ≡ texts wholes ++ 41 ∷ rest

-- ---- tests and steps

pub none_some : {A : Type 0} (x : A) → None ≡ Some x → ⊥
none_some x e = Prim.cc

pub bind_ok : {A B : Type 0} (o : Option A) (f : A → Option B) (y : B) → (o >>= f) ≡ Some y → (x : A) × (o ≡ Some x) × (f x ≡ Some y)
bind_ok (Some x) f y e = (x, refl, e)
bind_ok None f y e = absurd (none_some y e)

pub when_ok : {A : Type 0} (b : Bool) (o : Option A) (y : A) → when b o ≡ Some y → IsTrue b × (o ≡ Some y)
when_ok true o y e = (refl, e)
when_ok false o y e = absurd (none_some y e)

pub some_same : {A : Type 0} (x y : A) → Some x ≡ Some y → x ≡ y
some_same x y e = cc

-- the pointer's text has one star more
stars_sound : (names : Naming) (bytes : List ℕ) (t p : Ty) (x : Text) → Written names p (type.Ptr p) x → x.starred ≡ true → Took names (x.bytes ++ bytes) (stars p bytes).0 (stars p bytes).1
stars_sound names [] t p x w e = record { pointer = type.Ptr p; whole = x; written = w; same = refl }
stars_sound names (b ∷ bytes) t p x w e = on (b == 42) refl (stars_sound names bytes p (type.Ptr p) (text (x.bytes ++ star x.starred) true) (OfPtr p (type.Ptr p) x w) refl)
  where
    on : (v : Bool) → (b == 42) ≡ v → Took names ((x.bytes ++ star x.starred) ++ bytes) (stars (type.Ptr p) bytes).0 (stars (type.Ptr p) bytes).1 → Took names (x.bytes ++ b ∷ bytes) (cond v (stars (type.Ptr p) bytes) (p, b ∷ bytes)).0 (cond v (stars (type.Ptr p) bytes) (p, b ∷ bytes)).1
    on true q h = let s : b ≡ 42 = (Decides-eqb b 42).0 q in record { pointer = h.pointer; whole = h.whole; written = h.written; same = ap (λ c. x.bytes ++ c ∷ bytes) s ∙ ap (λ v. x.bytes ++ (star v ++ bytes)) (sym e) ∙ sym (append_assoc x.bytes (star x.starred) bytes) ∙ h.same }
    on false q h = record { pointer = type.Ptr p; whole = x; written = w; same = refl }

behind_sound : (names : Naming) (bytes : List ℕ) (t p : Ty) (x : Text) → Written names t p x → x.starred ≡ false → Took names (x.bytes ++ bytes) (behind t p bytes).0 (behind t p bytes).1
unfolding behind
behind_sound names bytes t p x w e = on (strip (codes " *") bytes) refl
  where
    on : (o : Option (List ℕ)) → strip (codes " *") bytes ≡ o → Took names (x.bytes ++ bytes) (behind_by o t p bytes).0 (behind_by o t p bytes).1
    on None q = record { pointer = p; whole = x; written = w; same = refl }
    on (Some rest) q =
        let h : Took names ((x.bytes ++ star x.starred) ++ rest) (stars p rest).0 (stars p rest).1 = stars_sound names rest t p (text (x.bytes ++ star x.starred) true) (OfPtr t p x w) refl in
        record { pointer = h.pointer; whole = h.whole; written = h.written; same = ap (λ bs. x.bytes ++ bs) (strip_is (codes " *") bytes rest q) ∙ ap (λ v. x.bytes ++ (star v ++ rest)) (sym e) ∙ sym (append_assoc x.bytes (star x.starred) rest) ∙ h.same }

took_as : (names : Naming) (bytes : List ℕ) (q : Ty × List ℕ) (t : Ty) (rest : List ℕ) → Took names bytes q.0 q.1 → q ≡ (t, rest) → Took names bytes t rest
took_as names bytes q t rest h e = subst (λ (v : Ty × List ℕ). Took names bytes v.0 v.1) e h

took_from : (names : Naming) (a b : List ℕ) (t : Ty) (rest : List ℕ) → a ≡ b → Took names b t rest → Took names a t rest
took_from names a b t rest e h = record { pointer = h.pointer; whole = h.whole; written = h.written; same = e ∙ h.same }

-- ---- words

pub by_word : {A : Type 0} (word w : List ℕ) (a : A) (other : Option A) (y : A) (P : A → Type 0) → (word ≡ w → P a) → (other ≡ Some y → P y) → cond (bytes_eq word w) (Some a) other ≡ Some y → P y
by_word word w a other y P here there e = on (bytes_eq word w) refl e
  where
    on : (v : Bool) → bytes_eq word w ≡ v → cond v (Some a) other ≡ Some y → P y
    on true q f = subst P (some_same a y f) (here ((bytes_eq-Decides word w).0 q))
    on false q f = there f

kind_sound : (word : List ℕ) (k : Kind) → kind_of word ≡ Some k → word ≡ kind_text k
unfolding kind_of
kind_sound word k =
    let P : Kind → Type 0 = λ j. word ≡ kind_text j in
    by_word word (codes "u8") U8 _ k P (λ e. e) (
    by_word word (codes "u16") U16 _ k P (λ e. e) (
    by_word word (codes "u32") U32 _ k P (λ e. e) (
    by_word word (codes "u64") U64 _ k P (λ e. e) (
    by_word word (codes "s8") S8 _ k P (λ e. e) (
    by_word word (codes "s16") S16 _ k P (λ e. e) (
    by_word word (codes "s32") S32 _ k P (λ e. e) (
    by_word word (codes "s64") S64 _ k P (λ e. e) (λ f. absurd (none_some k f)))))))))

-- a word is the text of the type
record Plain (names : Naming) (word : List ℕ) (t : Ty) : Type 0 where
  whole : Text
  written : Written names t (type.Ptr t) whole
  single : whole.starred ≡ false
  same : word ≡ whole.bytes

plain_kind : (names : Naming) (word : List ℕ) (o : Option Kind) (t : Ty) → kind_of word ≡ o → option_map type.Int o ≡ Some t → Plain names word t
plain_kind names word None t q e = absurd (none_some t e)
plain_kind names word (Some k) t q e = subst (λ u. Plain names word u) (some_same (type.Int k) t e) (record { whole = text (kind_text k) false; written = OfInt k; single = refl; same = kind_sound word k q })

plain_sound : (names : Naming) (word : List ℕ) (t : Ty) → plain_of word ≡ Some t → Plain names word t
unfolding plain_of
plain_sound names word t = by_word word (codes "combolock_t") type.Lock _ t (λ u. Plain names word u) (λ e. record { whole = text (codes "combolock_t") false; written = OfLock; single = refl; same = e }) (plain_kind names word (kind_of word) t refl)

plain_took : (names : Naming) (word bytes : List ℕ) (t : Ty) (rest : List ℕ) → plain_at word bytes ≡ Some (t, rest) → Took names (word ++ bytes) t rest
unfolding plain_at
plain_took names word bytes t rest e =
    let s = bind_ok (plain_of word) (λ u. Some (behind u (type.Ptr u) bytes)) (t, rest) e in
    let p = plain_sound names word s.0 s.1 in
    took_from names (word ++ bytes) (p.whole.bytes ++ bytes) t rest (ap (λ w. w ++ bytes) p.same)
    (took_as names (p.whole.bytes ++ bytes) (behind s.0 (type.Ptr s.0) bytes) t rest (behind_sound names bytes s.0 (type.Ptr s.0) p.whole p.written p.single) (some_same _ _ s.2))

struct_took : (names : Naming) (bytes : List ℕ) (t : Ty) (rest : List ℕ) → struct_at names bytes ≡ Some (t, rest) → Took names (codes "struct" ++ bytes) t rest
unfolding struct_at
struct_took names bytes t rest e =
    let a = bind_ok (strip (codes " ") bytes) _ (t, rest) e in
    let b = bind_ok (names (word_at a.0).0) _ (t, rest) a.2 in
    let name : List ℕ = (word_at a.0).0 in
    let behind_it : List ℕ = (word_at a.0).1 in
    let split : codes "struct" ++ bytes ≡ (codes "struct " ++ name) ++ behind_it = ap (λ bs. codes "struct" ++ bs) (strip_is (codes " ") bytes a.0 a.1) ∙ ap (λ bs. codes "struct " ++ bs) (word_is a.0) ∙ sym (append_assoc (codes "struct ") name behind_it) in
    took_from names (codes "struct" ++ bytes) ((codes "struct " ++ name) ++ behind_it) t rest split
    (took_as names ((codes "struct " ++ name) ++ behind_it) (behind (type.Struct b.0) (type.Ptr (type.Struct b.0)) behind_it) t rest (behind_sound names behind_it (type.Struct b.0) (type.Ptr (type.Struct b.0)) (text (codes "struct " ++ name) false) (OfStruct b.0 name b.1 (word_whole a.0).whole) refl) (some_same _ _ b.2))

void_took : (names : Naming) (bytes : List ℕ) (t : Ty) (rest : List ℕ) → Some (behind type.Void type.VoidPtr bytes) ≡ Some (t, rest) → Took names (codes "void" ++ bytes) t rest
void_took names bytes t rest e = took_as names (codes "void" ++ bytes) (behind type.Void type.VoidPtr bytes) t rest (behind_sound names bytes type.Void type.VoidPtr (text (codes "void") false) OfVoid refl) (some_same _ _ e)

-- ---- functions

others_took : (names : Naming) (more : List Ty → List ℕ → Read (List Ty)) → ((ts : List Ty) (bs : List ℕ) (us : List Ty) (r : List ℕ) → more ts bs ≡ Some (us, r) → TookMore names (44 ∷ bs) ts us r behind_commas)
    → (ts : List Ty) (bytes : List ℕ) (us : List Ty) (rest : List ℕ) → others_by more ts bytes ≡ Some (us, rest) → TookMore names bytes ts us rest behind_commas
unfolding others_by behind_commas
others_took names more h ts bytes us rest e = on (strip (codes ")") bytes) refl e
  where
    on : (o : Option (List ℕ)) → strip (codes ")") bytes ≡ o → closed o (λ vs bs. strip (codes ",") bs >>= more vs) ts bytes ≡ Some (us, rest) → TookMore names bytes ts us rest behind_commas
    on (Some r) q f =
        let g : (ts, r) ≡ (us, rest) = some_same _ _ f in
        record { types = []; wholes = []; params = NoParams; all = sym (ap (λ (v : List Ty × List ℕ). v.0) g) ∙ sym (append-nil ts); same = strip_is (codes ")") bytes r q ∙ ap (λ (v : List Ty × List ℕ). 41 ∷ v.1) g }
    on None q f =
        let b = bind_ok (strip (codes ",") bytes) (more ts) (us, rest) f in
        let m = h ts b.0 us rest b.2 in
        record { types = m.types; wholes = m.wholes; params = m.params; all = m.all; same = strip_is (codes ",") bytes b.0 b.1 ∙ m.same }

params_took : (names : Naming) (more : List Ty → List ℕ → Read (List Ty)) → ((ts : List Ty) (bs : List ℕ) (us : List Ty) (r : List ℕ) → more ts bs ≡ Some (us, r) → TookMore names (44 ∷ bs) ts us r behind_commas)
    → (ts : List Ty) (bytes : List ℕ) (us : List Ty) (rest : List ℕ) → params_by more ts bytes ≡ Some (us, rest) → TookMore names bytes ts us rest params_text
unfolding params_by behind_commas
params_took names more h ts bytes us rest e = on (strip (codes ")") bytes) refl e
  where
    first : (bs : List ℕ) (xs : List Text) (r : List ℕ) → 44 ∷ bs ≡ behind_commas xs ++ 41 ∷ r → bs ≡ params_text xs ++ 41 ∷ r
    first bs [] r q = let n : 44 ≡ 41 = ap (λ (l : List ℕ). get_or l 0 0) q in absurd (omega (arith, n))
    first bs (x ∷ xs) r q = let n : bs ≡ (x.bytes ++ behind_commas xs) ++ 41 ∷ r = cc in n

    on : (o : Option (List ℕ)) → strip (codes ")") bytes ≡ o → closed o more ts bytes ≡ Some (us, rest) → TookMore names bytes ts us rest params_text
    on (Some r) q f =
        let g : (ts, r) ≡ (us, rest) = some_same _ _ f in
        record { types = []; wholes = []; params = NoParams; all = sym (ap (λ (v : List Ty × List ℕ). v.0) g) ∙ sym (append-nil ts); same = strip_is (codes ")") bytes r q ∙ ap (λ (v : List Ty × List ℕ). 41 ∷ v.1) g }
    on None q f =
        let m = h ts bytes us rest f in
        record { types = m.types; wholes = m.wholes; params = m.params; all = m.all; same = first bytes m.wholes rest m.same }

more_took : (names : Naming) (one : List ℕ → Read Ty) (more : List Ty → List ℕ → Read (List Ty))
    → ((bs : List ℕ) (t : Ty) (r : List ℕ) → one bs ≡ Some (t, r) → Took names bs t r)
    → ((ts : List Ty) (bs : List ℕ) (us : List Ty) (r : List ℕ) → more ts bs ≡ Some (us, r) → TookMore names (44 ∷ bs) ts us r behind_commas)
    → (ts : List Ty) (bytes : List ℕ) (us : List Ty) (rest : List ℕ) → more_by one more ts bytes ≡ Some (us, rest) → TookMore names (44 ∷ bytes) ts us rest behind_commas
unfolding more_by behind_commas
more_took names one more g h ts bytes us rest e =
    let a = bind_ok (one bytes) _ (us, rest) e in
    let w = when_ok (is_scalar a.0.0) (others_by more (ts ++ a.0.0 ∷ []) a.0.1) (us, rest) a.2 in
    let t = g bytes a.0.0 a.0.1 a.1 in
    let m = others_took names more h (ts ++ a.0.0 ∷ []) a.0.1 us rest w.1 in
    record {
      types = a.0.0 ∷ m.types;
      wholes = t.whole ∷ m.wholes;
      params = Param a.0.0 t.pointer m.types t.whole m.wholes t.written w.0 m.params;
      all = m.all ∙ append_assoc ts (a.0.0 ∷ []) m.types;
      same = ap (λ bs. 44 ∷ bs) (t.same ∙ ap (λ bs. t.whole.bytes ++ bs) m.same ∙ sym (append_assoc t.whole.bytes (behind_commas m.wholes) (41 ∷ rest)));
    }

fun_took : (names : Naming) (one : List ℕ → Read Ty) (more : List Ty → List ℕ → Read (List Ty))
    → ((bs : List ℕ) (t : Ty) (r : List ℕ) → one bs ≡ Some (t, r) → Took names bs t r)
    → ((ts : List Ty) (bs : List ℕ) (us : List Ty) (r : List ℕ) → more ts bs ≡ Some (us, r) → TookMore names (44 ∷ bs) ts us r behind_commas)
    → (bytes : List ℕ) (t : Ty) (rest : List ℕ) → fun_by one more bytes ≡ Some (t, rest) → Took names (codes "fn" ++ bytes) t rest
unfolding fun_by signature_by
fun_took names one more g h bytes t rest e =
    let a = bind_ok (strip (codes "(") bytes) _ (t, rest) e in
    let s = bind_ok (signature_by one more a.0) _ (t, rest) a.2 in
    let r = bind_ok (one a.0) _ s.0 s.1 in
    let c = bind_ok (strip (codes ";") r.0.1) _ s.0 r.2 in
    let w = when_ok (is_result r.0.0) (params_by more (r.0.0 ∷ []) c.0) s.0 c.2 in
    let x = g a.0 r.0.0 r.0.1 r.1 in
    let m = params_took names more h (r.0.0 ∷ []) c.0 s.0.0 s.0.1 w.1 in
    let split : codes "fn" ++ bytes ≡ (codes "fn(" ++ (signature_text (x.whole ∷ m.wholes) ++ codes ")")) ++ s.0.1 =
    ap (λ bs. codes "fn" ++ bs) (strip_is (codes "(") bytes a.0 a.1) ∙ ap (λ bs. codes "fn(" ++ bs) (x.same ∙ ap (λ bs. x.whole.bytes ++ bs) (strip_is (codes ";") r.0.1 c.0 c.1 ∙ ap (λ bs. 59 ∷ bs) m.same)) ∙ sym (fun_text x.whole m.wholes s.0.1) in
    let types : s.0.0 ≡ r.0.0 ∷ m.types = m.all in
    let is : Took names ((codes "fn(" ++ (signature_text (x.whole ∷ m.wholes) ++ codes ")")) ++ s.0.1) (behind (type.Fun s.0.0) (type.Ptr (type.Fun s.0.0)) s.0.1).0 (behind (type.Fun s.0.0) (type.Ptr (type.Fun s.0.0)) s.0.1).1 =
    behind_sound names s.0.1 (type.Fun s.0.0) (type.Ptr (type.Fun s.0.0)) (text (codes "fn(" ++ (signature_text (x.whole ∷ m.wholes) ++ codes ")")) false)
    (subst (λ ts. Written names (type.Fun ts) (type.Ptr (type.Fun ts)) (text (codes "fn(" ++ (signature_text (x.whole ∷ m.wholes) ++ codes ")")) false)) (sym types) (OfFun r.0.0 x.pointer m.types x.whole m.wholes x.written w.0 m.params)) refl in
    took_from names (codes "fn" ++ bytes) ((codes "fn(" ++ (signature_text (x.whole ∷ m.wholes) ++ codes ")")) ++ s.0.1) t rest split
    (took_as names _ (behind (type.Fun s.0.0) (type.Ptr (type.Fun s.0.0)) s.0.1) t rest is (some_same _ _ s.2))

by_test : {A : Type 0} (word w : List ℕ) (x y z : A) (P : Type 0) → (word ≡ w → x ≡ z → P) → (y ≡ z → P) → cond (bytes_eq word w) x y ≡ z → P
by_test word w x y z P here there e = on (bytes_eq word w) refl e
  where
    on : (v : Bool) → bytes_eq word w ≡ v → cond v x y ≡ z → P
    on true q f = here ((bytes_eq-Decides word w).0 q) f
    on false q f = there f

typed_took : (names : Naming) (one : List ℕ → Read Ty) (more : List Ty → List ℕ → Read (List Ty))
    → ((bs : List ℕ) (t : Ty) (r : List ℕ) → one bs ≡ Some (t, r) → Took names bs t r)
    → ((ts : List Ty) (bs : List ℕ) (us : List Ty) (r : List ℕ) → more ts bs ≡ Some (us, r) → TookMore names (44 ∷ bs) ts us r behind_commas)
    → (word bytes : List ℕ) (t : Ty) (rest : List ℕ) → typed_by one more names word bytes ≡ Some (t, rest) → Took names (word ++ bytes) t rest
unfolding typed_by
typed_took names one more g h word bytes t rest =
    let P : Type 0 = Took names (word ++ bytes) t rest in
    by_test word (codes "fn") _ _ (Some (t, rest)) P (λ w e. took_from names (word ++ bytes) (codes "fn" ++ bytes) t rest (ap (λ v. v ++ bytes) w) (fun_took names one more g h bytes t rest e)) (
    by_test word (codes "struct") _ _ (Some (t, rest)) P (λ w e. took_from names (word ++ bytes) (codes "struct" ++ bytes) t rest (ap (λ v. v ++ bytes) w) (struct_took names bytes t rest e)) (
    by_test word (codes "void") _ _ (Some (t, rest)) P (λ w e. took_from names (word ++ bytes) (codes "void" ++ bytes) t rest (ap (λ v. v ++ bytes) w) (void_took names bytes t rest e)) (
    plain_took names word bytes t rest)))

mutual
  pub type_took : (n : ℕ) (names : Naming) (bytes : List ℕ) (t : Ty) (rest : List ℕ) → type_at n names bytes ≡ Some (t, rest) → Took names bytes t rest
  type_took zero names bytes t rest e = absurd (none_some (t, rest) e)
  type_took (suc n) names bytes t rest e = took_from names bytes ((word_at bytes).0 ++ (word_at bytes).1) t rest (word_is bytes) (typed_took names (λ bs. type_at n names bs) (λ ts bs. more_at n names ts bs) (λ bs u r q. type_took n names bs u r q) (λ ts bs us r q. others_taken n names ts bs us r q) (word_at bytes).0 (word_at bytes).1 t rest e)

  pub others_taken : (n : ℕ) (names : Naming) (ts : List Ty) (bytes : List ℕ) (us : List Ty) (rest : List ℕ) → more_at n names ts bytes ≡ Some (us, rest) → TookMore names (44 ∷ bytes) ts us rest behind_commas
  others_taken zero names ts bytes us rest e = absurd (none_some (us, rest) e)
  others_taken (suc n) names ts bytes us rest e = more_took names (λ bs. type_at n names bs) (λ vs bs. more_at n names vs bs) (λ bs u r q. type_took n names bs u r q) (λ vs bs ws r q. others_taken n names vs bs ws r q) ts bytes us rest e
