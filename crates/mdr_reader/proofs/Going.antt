-- What is read where the first token begins it, and what else where it doesn't.
use Rattle.std.proofs.Common.{◌≡◌, ◌≤◌, refl, sym, subst, ap, ◌∙◌, arith, ℕ, suc, Bool, true, false, not, ◌&&◌, nat_eq, List, [], ◌∷◌, ◌++◌, length, Option, Some, None, Result, Ok, Err}
use Rattle.mdr_syntax.specs.declared.token.Token.{Token}
use Rattle.mdr_reader.specs.declared.failure.Failure.{Failure}
use Rattle.mdr_grammar.specs.declared.sort.Sort.{Sort}
use Rattle.mdr_grammar.specs.Sorts.{sort_of}
use Rattle.mdr_grammar.specs.Forms.{Part, PartValue, repeated, enclosed, Repeated, Enclosed, Nonterminal, Value, Right, ◌>>=◌, form, Rule, Empty, and_then, or_else, where_allowed}
use Rattle.mdr_grammar.specs.Forms.Nonterminal.{part, option, many, commas_open, after_comma}
use Rattle.mdr_grammar.specs.Forms.Right.{gives, takes, then}
use Rattle.mdr_grammar.specs.Forms.Rule.{never, given}
use Rattle.mdr_grammar.specs.Forms.Empty.{may}
use Rattle.mdr_grammar.specs.Grammar.{part_rule, rule, empty}
use Rattle.mdr_grammar.specs.Front.{Read, and_read, word_at, nothing_at, begun_at, first, front}
use Rattle.mdr_reader.specs.Gives.{Gives, read_from, read_by, perhaps}
use Rattle.mdr_core.specs.Layout.{chosen}
use Rattle.mdr_grammar.proofs.Hungry.{opens}
use Rattle.mdr_grammar.proofs.Every.{all_sorts, every_sort}
use Rattle.mdr_grammar.proofs.Fronts.{Rest, rest_front, rest_first, first_of, first_none}
use Rattle.mdr_reader.proofs.Arms.{goes, read_again}

-- ---- one behind the other

bind_read : {A B C : Type 0} (o : Read A) (f : A → List Token → Read C) (g : A → List Token → Read B) (h : B → List Token → Read C) → ((v : A) (rest : List Token) → f v rest ≡ and_read (g v rest) h) → and_read o f ≡ and_read (and_read o g) h
bind_read (Ok x) f g h e = e x.0 x.1
bind_read (Err left) f g h e = refl

pub front_bind : {A B : Type 0} (halves : Bool) (r : Right A) (k : A → Right B) (ts : List Token) → front halves (r >>= k) ts ≡ and_read (front halves r ts) (λ v rest. front halves (k v) rest)
front_bind halves (gives v) k ts = refl
front_bind halves (takes s g) k ts = bind_read (word_at halves s ts) _ (λ t rest. front halves (g t) rest) (λ v rest. front halves (k v) rest) (λ t rest. front_bind halves (g t) k rest)
front_bind halves (then n g) k ts = bind_read (first halves n ts) _ (λ v rest. front halves (g v) rest) (λ v rest. front halves (k v) rest) (λ v rest. front_bind halves (g v) k rest)

pub first_from : (halves : Bool) (n : Nonterminal) (ts : List Token) → first halves n ts ≡ read_from (empty n) halves (rule n) ts
first_from halves n [] = first_none halves n
first_from halves n (t ∷ ts) = first_of halves n t ts

pub first_by : (halves : Bool) (x : Part) (ts : List Token) → first halves (part x) ts ≡ read_by halves (part_rule x) ts
first_by halves x ts = first_from halves (part x) ts

-- the rule of the first token is another's, and what follows it
begun_and : {A B : Type 0} (halves : Bool) (o : Rule A) (k : A → Right B) (ts : List Token) → begun_at (and_then o k) (λ x. front halves x ts) (Err (suc (length ts))) ≡ and_read (begun_at o (λ x. front halves x ts) (Err (suc (length ts)))) (λ v rest. front halves (k v) rest)
begun_and halves never k ts = refl
begun_and halves (given true x) k ts = front_bind halves x k ts
begun_and halves (given false x) k ts = refl

pub read_then : {A B : Type 0} (halves : Bool) (r : Sort → Token → Rule A) (q : Sort → Token → Rule B) (k : A → Right B) {ts rest : List Token} {t : Token} {s : Sort} → (ts ≡ t ∷ rest) × (s ≡ sort_of halves t.what) → q s t ≡ and_then (r s t) k → read_by halves q ts ≡ and_read (read_by halves r ts) (λ v us. front halves (k v) us)
read_then {B = B} halves r q k {ts = ts} {rest = rest} {t = t} {s = s} e h = ap (λ us. read_by halves q us) e.0 ∙ ap (λ x. begun_at (q x t) (λ x. front halves x rest) (Err (suc (length rest)))) (sym e.1) ∙ ap (λ (o : Rule B). begun_at o (λ x. front halves x rest) (Err (suc (length rest)))) h ∙ begun_and halves (r s t) k rest ∙ ap (λ x. and_read (begun_at (r x t) (λ x. front halves x rest) (Err (suc (length rest)))) (λ v us. front halves (k v) us)) e.1 ∙ ap (λ us. and_read (read_by halves r us) (λ v us. front halves (k v) us)) (sym e.0)

pub read_always : {A B : Type 0} (halves : Bool) (r : Sort → Token → Rule A) (q : Sort → Token → Rule B) (k : A → Right B) (ts : List Token) → ((s : Sort) (t : Token) → q s t ≡ and_then (r s t) k) → read_by halves q ts ≡ and_read (read_by halves r ts) (λ v us. front halves (k v) us)
read_always halves r q k [] h = refl
read_always halves r q k (t ∷ ts) h = read_then halves r q k (refl, refl) (h (sort_of halves t.what) t)

-- a part, and what follows it
pub through_by : {X B : Type 0} (halves : Bool) (q : Sort → Token → Rule B) (m : Part) (k : PartValue m → Right B) (value : X → B) (behind : X → List Token) (result : Result X Failure) {ts rest : List Token} {t : Token} {s : Sort} → (ts ≡ t ∷ rest) × (s ≡ sort_of halves t.what) → q s t ≡ and_then (part_rule m s t) k → Gives value behind result (and_read (first halves (part m) ts) (λ v us. front halves (k v) us)) → Gives value behind result (read_by halves q ts)
through_by halves q m k value behind result {ts = ts} e h g = subst (λ o. Gives value behind result o) (sym (read_then halves (part_rule m) q k e h ∙ ap (λ o. and_read o (λ v us. front halves (k v) us)) (sym (first_by halves m ts)))) g

pub through : {X : Type 0} (halves : Bool) (x m : Part) (k : PartValue m → Right (PartValue x)) (value : X → PartValue x) (behind : X → List Token) (result : Result X Failure) {ts rest : List Token} {t : Token} {s : Sort} → (ts ≡ t ∷ rest) × (s ≡ sort_of halves t.what) → part_rule x s t ≡ and_then (part_rule m s t) k → Gives value behind result (and_read (first halves (part m) ts) (λ v us. front halves (k v) us)) → Gives value behind result (first halves (part x) ts)
through halves x m k value behind result {ts = ts} e h g = subst (λ o. Gives value behind result o) (sym (first_by halves x ts)) (through_by halves (part_rule x) m k value behind result e h g)

-- the same where what follows doesn't ask for the token
pub through_all : {X : Type 0} (halves : Bool) (x m : Part) (k : PartValue m → Right (PartValue x)) (value : X → PartValue x) (behind : X → List Token) (result : Result X Failure) (ts : List Token) → ((s : Sort) (t : Token) → part_rule x s t ≡ and_then (part_rule m s t) k) → Gives value behind result (and_read (first halves (part m) ts) (λ v us. front halves (k v) us)) → Gives value behind result (first halves (part x) ts)
through_all halves x m k value behind result ts h g = subst (λ o. Gives value behind result o) (sym (first_by halves x ts ∙ read_always halves (part_rule m) (part_rule x) k ts h ∙ ap (λ o. and_read o (λ v us. front halves (k v) us)) (sym (first_by halves m ts)))) g

pub through_all_by : {X B : Type 0} (halves : Bool) (q : Sort → Token → Rule B) (m : Part) (k : PartValue m → Right B) (value : X → B) (behind : X → List Token) (result : Result X Failure) (ts : List Token) → ((s : Sort) (t : Token) → q s t ≡ and_then (part_rule m s t) k) → Gives value behind result (and_read (first halves (part m) ts) (λ v us. front halves (k v) us)) → Gives value behind result (read_by halves q ts)
through_all_by halves q m k value behind result ts h g = subst (λ o. Gives value behind result o) (sym (read_always halves (part_rule m) q k ts h ∙ ap (λ o. and_read o (λ v us. front halves (k v) us)) (sym (first_by halves m ts)))) g

-- the first token begins it, where that is allowed
pub arm_from : {X A : Type 0} (halves : Bool) (o : Empty A) (q : Sort → Token → Rule A) (value : X → A) (behind : X → List Token) (result : Result X Failure) (s' : Sort) {ts rest : List Token} {t : Token} {s : Sort} {b : Bool} {r : Right A} → (ts ≡ t ∷ rest) × (s ≡ sort_of halves t.what) → s ≡ s' → b ≡ true → q s' t ≡ given b r → Gives value behind result (front halves r rest) → Gives value behind result (read_from o halves q ts)
arm_from {A = A} halves o q value behind result s' {ts = ts} {rest = rest} {t = t} {r = r} e g c h x = subst (λ y. Gives value behind result y) (sym (ap (λ us. read_from o halves q us) e.0 ∙ ap (λ (y : Rule A). begun_at y (λ r. front halves r rest) (nothing_at o (t ∷ rest))) (ap (λ x. q x t) (sym e.1 ∙ g) ∙ h ∙ ap (λ c. given c r) c))) x

-- ---- where the first token begins nothing

same_number : (n : ℕ) → nat_eq n n ≡ true
same_number n = grind arith

lower_number : (n m : ℕ) → n ≤ m → nat_eq n (suc m) ≡ false
lower_number n m h = grind arith

-- where something is read, or nothing is begun
abbrev pub going : {A C : Type 0} → Read A → List Token → C → (A → List Token → Read C) → Read C
going (Ok x) ts w f = f x.0 x.1
going (Err left) ts w f = chosen (nat_eq left (length ts)) (Ok (w, ts)) (Err left)

begun_going : {A C : Type 0} (halves : Bool) (w : C) (f : A → Right C) (t : Token) (ts : List Token) (o : Rule A) → begun_at (and_then o f) (λ r. front halves r ts) (Ok (w, t ∷ ts)) ≡ going (begun_at o (λ r. front halves r ts) (Err (suc (length ts)))) (t ∷ ts) w (λ v us. front halves (f v) us)
begun_going {A = A} {C = C} halves w f t ts o = by_rule o
  where
    nothing : (b : Bool) → b ≡ true → ◌≡◌ {A = Read C} (Ok (w, t ∷ ts)) (chosen b (Ok (w, t ∷ ts)) (Err (suc (length ts))))
    nothing true q = refl
    nothing false q = absurd (Prim.cc)

    later : (b : Bool) (left : ℕ) → b ≡ false → ◌≡◌ {A = Read C} (Err left) (chosen b (Ok (w, t ∷ ts)) (Err left))
    later true left q = absurd (Prim.cc)
    later false left q = refl

    by_read : (o : Read A) → Rest o (length ts) → and_read o (λ v rest. front halves (f v) rest) ≡ going o (t ∷ ts) w (λ v rest. front halves (f v) rest)
    by_read (Ok x) r = refl
    by_read (Err left) r = later _ left (lower_number left (length ts) r)

    by_rule : (o : Rule A) → begun_at (and_then o f) (λ r. front halves r ts) (Ok (w, t ∷ ts)) ≡ going (begun_at o (λ r. front halves r ts) (Err (suc (length ts)))) (t ∷ ts) w (λ v rest. front halves (f v) rest)
    by_rule never = nothing _ (same_number (suc (length ts)))
    by_rule (given false x) = nothing _ (same_number (suc (length ts)))
    by_rule (given true x) = front_bind halves x f ts ∙ by_read (front halves x ts) (rest_front _ halves x ts (length ts) (λ m us q. rest_first halves m us (length ts) q) (omega arith))

-- at a first token, and everywhere
pub goes_on_at : (halves : Bool) (n : Nonterminal) (y : Part) (w : Value n) (f : PartValue y → Right (Value n)) {ts rest : List Token} {t : Token} {s : Sort} → (ts ≡ t ∷ rest) × (s ≡ sort_of halves t.what) → empty n ≡ may true w → rule n s t ≡ and_then (part_rule y s t) f → first halves n ts ≡ going (first halves (part y) ts) ts w (λ v us. front halves (f v) us)
goes_on_at halves n y w f {ts = ts} {rest = rest} {t = t} {s = s} e m h = ap (λ us. first halves n us) e.0 ∙ first_of halves n t rest ∙ ap (λ x. begun_at (rule n x t) (λ r. front halves r rest) (nothing_at (empty n) (t ∷ rest))) (sym e.1) ∙ ap (λ o. begun_at o (λ r. front halves r rest) (nothing_at (empty n) (t ∷ rest))) h ∙ ap (λ o. begun_at (and_then (part_rule y s t) f) (λ r. front halves r rest) (nothing_at o (t ∷ rest))) m ∙ begun_going halves w f t rest (part_rule y s t) ∙ ap (λ x. going (begun_at (part_rule y x t) (λ r. front halves r rest) (Err (suc (length rest)))) (t ∷ rest) w (λ v us. front halves (f v) us)) e.1 ∙ ap (λ o. going o (t ∷ rest) w (λ v us. front halves (f v) us)) (sym (first_of halves (part y) t rest)) ∙ ap (λ us. going (first halves (part y) us) us w (λ v us. front halves (f v) us)) (sym e.0)

pub goes_on : (halves : Bool) (n : Nonterminal) (y : Part) (w : Value n) (f : PartValue y → Right (Value n)) (ts : List Token) → empty n ≡ may true w → ((s : Sort) (t : Token) → rule n s t ≡ and_then (part_rule y s t) f) → first halves n ts ≡ going (first halves (part y) ts) ts w (λ v rest. front halves (f v) rest)
goes_on halves n y w f [] e h = first_none halves n ∙ ap (λ o. nothing_at o []) e ∙ ap (λ o. going o [] w (λ v rest. front halves (f v) rest)) (sym (first_none halves (part y)))
goes_on halves n y w f (t ∷ ts) e h = goes_on_at halves n y w f {rest = ts} {t = t} {s = sort_of halves t.what} (refl, refl) e (h (sort_of halves t.what) t)

allowed_true : {A : Type 0} (r : Rule A) → where_allowed true r ≡ r
allowed_true never = refl
allowed_true (given b x) = refl

pub option_is : (halves : Bool) (x : Part) (ts : List Token) → first halves (option true x) ts ≡ perhaps (first halves (part x) ts) ts
option_is halves x ts = goes_on halves (option true x) x None (λ v. gives (Some v)) ts refl (λ s t. allowed_true _) ∙ by_read (first halves (part x) ts)
  where
    by_read : (o : Read (PartValue x)) → going o ts None (λ v rest. front halves (gives (Some v)) rest) ≡ perhaps o ts
    by_read (Ok y) = refl
    by_read (Err left) = refl

-- a part that isn't allowed
forbidden : {A : Type 0} (r : Rule A) (f : Right A → Read A) (other : Read A) → begun_at (where_allowed false r) f other ≡ other
forbidden never f other = refl
forbidden (given b x) f other = refl

pub no_option : (halves : Bool) (x : Part) (ts : List Token) → first halves (option false x) ts ≡ Ok (None, ts)
no_option halves x [] = first_none halves (option false x)
no_option halves x (t ∷ ts) = first_of halves (option false x) t ts ∙ forbidden _ _ _

pub no_many : (halves : Bool) (x : Repeated) (so_far : List (PartValue (repeated x))) (ts : List Token) → first halves (many false x so_far) ts ≡ Ok (so_far, ts)
no_many halves x so_far [] = first_none halves (many false x so_far)
no_many halves x so_far (t ∷ ts) = first_of halves (many false x so_far) t ts ∙ forbidden _ _ _

-- ---- loops

-- what follows what may be there
abbrev pub following : {A C : Type 0} → Read (Option A) → C → (A → List Token → Read C) → Read C
following (Ok (Some v, rest)) w f = f v rest
following (Ok (None, rest)) w f = Ok (w, rest)
following (Err left) w f = Err left

follows : {A C : Type 0} (o : Read A) (ts : List Token) (w : C) (f : A → List Token → Read C) → going o ts w f ≡ following (perhaps o ts) w f
follows (Ok x) ts w f = refl
follows {A = A} {C = C} (Err left) ts w f = by_test (nat_eq left (length ts))
  where
    by_test : (b : Bool) → ◌≡◌ {A = Read C} (chosen b (Ok (w, ts)) (Err left)) (following {A = A} (chosen b (Ok (None, ts)) (Err left)) w f)
    by_test true = refl
    by_test false = refl

pub many_is : (halves : Bool) (x : Repeated) (so_far : List (PartValue (repeated x))) (ts : List Token) → first halves (many true x so_far) ts ≡ following (first halves (option true (repeated x)) ts) so_far (λ v rest. first halves (many true x (so_far ++ (v ∷ []))) rest)
many_is halves x so_far ts = goes_on halves (many true x so_far) (repeated x) so_far (λ v. form (many true x (so_far ++ (v ∷ [])))) ts refl (λ s t. allowed_true _) ∙ again (first halves (part (repeated x)) ts) ∙ follows (first halves (part (repeated x)) ts) ts so_far _ ∙ ap (λ o. following o so_far (λ v rest. first halves (many true x (so_far ++ (v ∷ []))) rest)) (sym (option_is halves (repeated x) ts))
  where
    again : (o : Read (PartValue (repeated x))) → going o ts so_far (λ v rest. front halves (form (many true x (so_far ++ (v ∷ [])))) rest) ≡ going o ts so_far (λ v rest. first halves (many true x (so_far ++ (v ∷ []))) rest)
    again (Ok y) = read_again _
    again (Err left) = refl

pub after_comma_is : (halves : Bool) (x : Enclosed) (so_far : List (PartValue (enclosed x))) (ts : List Token) → first halves (after_comma x so_far) ts ≡ following (first halves (option true (enclosed x)) ts) so_far (λ v rest. first halves (commas_open x (so_far ++ (v ∷ []))) rest)
after_comma_is halves x so_far ts = goes_on halves (after_comma x so_far) (enclosed x) so_far (λ v. form (commas_open x (so_far ++ (v ∷ [])))) ts refl (λ s t. refl) ∙ again (first halves (part (enclosed x)) ts) ∙ follows (first halves (part (enclosed x)) ts) ts so_far _ ∙ ap (λ o. following o so_far (λ v rest. first halves (commas_open x (so_far ++ (v ∷ []))) rest)) (sym (option_is halves (enclosed x) ts))
  where
    again : (o : Read (PartValue (enclosed x))) → going o ts so_far (λ v rest. front halves (form (commas_open x (so_far ++ (v ∷ [])))) rest) ≡ going o ts so_far (λ v rest. first halves (commas_open x (so_far ++ (v ∷ []))) rest)
    again (Ok y) = read_again _
    again (Err left) = refl

-- ---- one form or another

abbrev pub or_read : {A : Type 0} → Read A → ℕ → Read A → Read A
or_read (Ok x) n other = Ok x
or_read (Err left) n other = chosen (nat_eq left n) other (Err left)

pub read_or : {A : Type 0} (halves : Bool) (a b q : Sort → Token → Rule A) (ts : List Token) → ((s : Sort) (t : Token) → q s t ≡ or_else (a s t) (b s t)) → ((t : Token) → all_sorts (λ s. not (opens (a s t) && opens (b s t))) ≡ true) → read_by halves q ts ≡ or_read (read_by halves a ts) (length ts) (read_by halves b ts)
read_or halves a b q [] e h = refl
read_or {A = A} halves a b q (t ∷ ts) e h = ap (λ (o : Rule A). begun_at o (λ x. front halves x ts) (Err (suc (length ts)))) (e (sort_of halves t.what) t) ∙ by_rules (a (sort_of halves t.what) t) (b (sort_of halves t.what) t) (every_sort (λ s. not (opens (a s t) && opens (b s t))) (h t) (sort_of halves t.what))
  where
    at : (c : Bool) (x y : Read A) → c ≡ true → x ≡ chosen c x y
    at true x y q = refl
    at false x y q = absurd (Prim.cc)

    later : (c : Bool) (x y : Read A) → c ≡ false → y ≡ chosen c x y
    later true x y q = absurd (Prim.cc)
    later false x y q = refl

    by_read : (o other : Read A) → Rest o (length ts) → o ≡ or_read o (suc (length ts)) other
    by_read (Ok x) other r = refl
    by_read (Err left) other r = later _ other (Err left) (lower_number left (length ts) r)

    by_rules : (o p : Rule A) → not (opens o && opens p) ≡ true → begun_at (or_else o p) (λ x. front halves x ts) (Err (suc (length ts))) ≡ or_read (begun_at o (λ x. front halves x ts) (Err (suc (length ts)))) (suc (length ts)) (begun_at p (λ x. front halves x ts) (Err (suc (length ts))))
    by_rules never p c = at _ (begun_at p (λ x. front halves x ts) (Err (suc (length ts)))) (Err (suc (length ts))) (same_number (suc (length ts)))
    by_rules (given true x) p c = by_read (front halves x ts) _ (rest_front _ halves x ts (length ts) (λ m us q. rest_first halves m us (length ts) q) (omega arith))
    by_rules (given false x) never c = at _ (Err (suc (length ts))) (Err (suc (length ts))) (same_number (suc (length ts)))
    by_rules (given false x) (given y z) c = absurd (Prim.cc)

-- a first token that begins both a nonterminal and what it begins with
pub begin_both : (halves : Bool) (n m : Nonterminal) (k : Value m → Right (Value n)) (s' : Sort) {ts rest : List Token} {t : Token} {s : Sort} {b : Bool} {r : Right (Value m)} → (ts ≡ t ∷ rest) × (s ≡ sort_of halves t.what) → s ≡ s' → b ≡ true → rule m s' t ≡ given b r → rule n s' t ≡ given b (r >>= k) → first halves n ts ≡ and_read (first halves m ts) (λ v us. front halves (k v) us)
begin_both halves n m k s' {rest = rest} {r = r} e g c h h' = goes halves n s' e g c h' ∙ front_bind halves r k rest ∙ ap (λ o. and_read o (λ v us. front halves (k v) us)) (sym (goes halves m s' e g c h))
