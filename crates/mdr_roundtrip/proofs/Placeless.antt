-- Reading looks at no place: what is read of tokens with their places set aside is read of the tokens.
use Rattle.std.proofs.Common.{◌≡◌, refl, sym, subst, ap, ◌∙◌, Bool, true, false, List, [], ◌∷◌, map, IsTrue}
use Rattle.std.specs.Prelude.{◌&&◌}
use Rattle.mdr_syntax.specs.declared.token.Token.{Token}
use Rattle.mdr_grammar.specs.declared.sort.Sort.{Sort}
use Rattle.mdr_grammar.specs.Sorts.{is, sort_of}
use Rattle.mdr_grammar.specs.Forms.{Nonterminal, Value, Right, ◌>>=◌, Rule, and_then, or_else, where_allowed, Empty}
use Rattle.mdr_grammar.specs.Forms.Right.{gives, takes, then}
use Rattle.mdr_grammar.specs.Forms.Rule.{never, given}
use Rattle.mdr_grammar.specs.Forms.Empty.{cannot, may}
use Rattle.mdr_grammar.specs.Grammar.{rule, empty, Gets, Follows}
use Rattle.mdr_grammar.specs.Grammar.Gets.{absent, present}
use Rattle.mdr_grammar.specs.Grammar.Follows.{done, word, both as parts}
use Rattle.mdr_roundtrip.proofs.Erased.{erased, erased_value, erased_token}

-- ---- right sides, rules and empty forms that differ in places alone; `f` sets the places of what is given aside

pub data AlikeBy {A B : Type 0} (f : A → B) : Right A → Right B → Type 0 where
  same : {v : A} {w : B} → f v ≡ w → AlikeBy f (gives v) (gives w)
  token : {s : Sort} {k : Token → Right A} {k' : Token → Right B} → ((t : Token) → AlikeBy f (k t) (k' (erased_token t))) → AlikeBy f (takes s k) (takes s k')
  next : {n : Nonterminal} {k : Value n → Right A} {k' : Value (erased n) → Right B} → ((v : Value n) → AlikeBy f (k v) (k' (erased_value n v))) → AlikeBy f (then n k) (then (erased n) k')

pub data AlikeRules {A B : Type 0} (f : A → B) : Rule A → Rule B → Type 0 where
  no_rule : AlikeRules f never never
  rules : {b b' : Bool} {r : Right A} {r' : Right B} → b ≡ b' → AlikeBy f r r' → AlikeRules f (given b r) (given b' r')

pub data AlikeEmpty {A B : Type 0} (f : A → B) : Empty A → Empty B → Type 0 where
  never_empty : AlikeEmpty f cannot cannot
  empties : {b : Bool} {v : A} {w : B} → f v ≡ w → AlikeEmpty f (may b v) (may b w)

pub bind_alike : {A B C D : Type 0} {f : A → B} {g : C → D} {r : Right A} {r' : Right B} (k : A → Right C) (k' : B → Right D) → AlikeBy f r r' → ((v : A) → AlikeBy g (k v) (k' (f v))) → AlikeBy g (r >>= k) (r' >>= k')
bind_alike {g = g} k k' (same {v = v} e) h = subst (λ w. AlikeBy g (k v) (k' w)) e (h v)
bind_alike k k' (token x) h = token (λ t. bind_alike k k' (x t) h)
bind_alike k k' (next x) h = next (λ v. bind_alike k k' (x v) h)

pub and_alike : {A B C D : Type 0} {f : A → B} {g : C → D} {r : Rule A} {r' : Rule B} (k : A → Right C) (k' : B → Right D) → AlikeRules f r r' → ((v : A) → AlikeBy g (k v) (k' (f v))) → AlikeRules g (and_then r k) (and_then r' k')
and_alike k k' no_rule h = no_rule
and_alike k k' (rules e x) h = rules e (bind_alike k k' x h)

pub or_alike : {A B : Type 0} {f : A → B} {r s : Rule A} {r' s' : Rule B} → AlikeRules f r r' → AlikeRules f s s' → AlikeRules f (or_else r s) (or_else r' s')
or_alike no_rule y = y
or_alike (rules e x) y = rules e x

pub where_alike : {A B : Type 0} {f : A → B} (b : Bool) {r : Rule A} {r' : Rule B} → AlikeRules f r r' → AlikeRules f (where_allowed b r) (where_allowed b r')
where_alike b no_rule = no_rule
where_alike b (rules e x) = rules (ap (λ c. b && c) e) x

-- a nonterminal as a whole
pub whole : (n : Nonterminal) → AlikeBy (erased_value n) (then n gives) (then (erased n) gives)
whole n = next (λ v. same refl)

-- ---- what they tell

record Ruled {A B : Type 0} (f : A → B) (x : Rule A) (r' : Right B) : Type 0 where
  side : Right A
  is_rule : x ≡ given true side
  alike : AlikeBy f side r'

abbrev allows : {A : Type 0} → Rule A → Bool
allows never = false
allows (given b r) = b

abbrev side_of : {A : Type 0} → Right A → Rule A → Right A
side_of d never = d
side_of d (given b r) = r

ruled : {A B : Type 0} {f : A → B} {x : Rule A} {x' : Rule B} {r' : Right B} → AlikeRules f x x' → x' ≡ given true r' → Ruled f x r'
ruled {B = B} {r' = r'} no_rule e = let q : ◌≡◌ {A = Rule B} never (given true r') = e in absurd (Prim.cc)
ruled {f = f} {r' = r'} (rules {r = r} c x) e = record {
  side = r;
  is_rule = ap (λ b. given b r) (c ∙ ap allows e);
  alike = subst (λ z. AlikeBy f r z) (ap (side_of r') e) x;
}

record Emptied {A B : Type 0} (f : A → B) (x : Empty A) (w : B) : Type 0 where
  value : A
  is_empty : x ≡ may true value
  alike : f value ≡ w

abbrev may_be : {A : Type 0} → Empty A → Bool
may_be cannot = false
may_be (may b v) = b

abbrev value_of : {A : Type 0} → A → Empty A → A
value_of d cannot = d
value_of d (may b v) = v

emptied : {A B : Type 0} {f : A → B} {x : Empty A} {x' : Empty B} {w : B} → AlikeEmpty f x x' → x' ≡ may true w → Emptied f x w
emptied {B = B} {w = w} never_empty e = let q : ◌≡◌ {A = Empty B} cannot (may true w) = e in absurd (Prim.cc)
emptied {w = w} (empties {v = v} c) e = record {
  value = v;
  is_empty = ap (λ b. may b v) (ap may_be e);
  alike = c ∙ ap (value_of w) e;
}

-- ---- tokens

-- the second are the first with their places set aside
abbrev pub Alike : List Token → List Token → Type 0
Alike [] [] = Unit {0}
Alike (t ∷ ts) (u ∷ us) = (erased_token t ≡ u) × Alike ts us
Alike [] (u ∷ us) = ⊥
Alike (t ∷ ts) [] = ⊥

-- ---- reading

-- the rules look at no place
pub record IsPlaceless : Type 0 where
  pub by_rule : (n : Nonterminal) (s : Sort) (t : Token) → AlikeRules (erased_value n) (rule n s t) (rule (erased n) s (erased_token t))
  pub by_nothing : (n : Nonterminal) → AlikeEmpty (erased_value n) (empty n) (empty (erased n))

-- a nonterminal, what it is with its places set aside, and how values go along
pub data Erases : (n m : Nonterminal) → (Value n → Value m) → Type 0 where
  erases : (n : Nonterminal) → Erases n (erased n) (erased_value n)

rules_of : IsPlaceless → {n m : Nonterminal} {f : Value n → Value m} → Erases n m f → (s : Sort) (t : Token) → AlikeRules f (rule n s t) (rule m s (erased_token t))
rules_of i (erases n) s t = i.by_rule n s t

nothing_of : IsPlaceless → {n m : Nonterminal} {f : Value n → Value m} → Erases n m f → AlikeEmpty f (empty n) (empty m)
nothing_of i (erases n) = i.by_nothing n

pub record Placed (halves : Bool) (n : Nonterminal) {B : Type 0} (f : Value n → B) (ts us : List Token) (w : B) : Type 0 where
  pub left : List Token
  pub given_value : Value n
  pub found : Gets halves n ts left given_value
  pub left_alike : Alike left us
  pub value_alike : f given_value ≡ w

record PlacedBehind (halves : Bool) (n : Nonterminal) {B : Type 0} (f : Value n → B) (r : Right (Value n)) (ts us : List Token) (w : B) : Type 0 where
  left : List Token
  given_value : Value n
  found : Follows halves n r ts left given_value
  left_alike : Alike left us
  value_alike : f given_value ≡ w

mutual
  pub placed_by : (halves : Bool) → IsPlaceless → {n m : Nonterminal} {f : Value n → Value m} → Erases n m f → (ts : List Token) {ts' us : List Token} {w : Value m} → Gets halves m ts' us w → Alike ts ts' → Placed halves n f ts us w
  placed_by halves i x ts (absent e) a =
      let k = emptied (nothing_of i x) e in
      record { left = ts; given_value = k.value; found = absent k.is_empty; left_alike = a; value_alike = k.alike }
  placed_by halves i x [] (present e d) a = absurd a
  placed_by halves i {n = n} {m = m} {f = f} x (t ∷ ts) (present {t = u} e d) (p, a) =
      let k = ruled (subst (λ (z : Token). AlikeRules f (rule n (sort_of halves t.what) t) (rule m (sort_of halves z.what) z)) p (rules_of i x (sort_of halves t.what) t)) e in
      let h = behind_by halves i {n = n} {m = m} {f = f} ts d k.alike a in
      record { left = h.left; given_value = h.given_value; found = present k.is_rule h.found; left_alike = h.left_alike; value_alike = h.value_alike }

  behind_by : (halves : Bool) → IsPlaceless → {n m : Nonterminal} {f : Value n → Value m} (ts : List Token) {r : Right (Value n)} {r' : Right (Value m)} {ts' us : List Token} {w : Value m} → Follows halves m r' ts' us w → AlikeBy f r r' → Alike ts ts' → PlacedBehind halves n f r ts us w
  behind_by halves i ts done (same {v = v} e) a = record { left = ts; given_value = v; found = done; left_alike = a; value_alike = e }
  behind_by halves i [] (word q d) (token x) a = absurd a
  behind_by halves i {n = n} {m = m} {f = f} (t ∷ ts) (word {s = s} {t = u} q d) (token {k = k} {k' = k'} x) (p, a) =
      let h = behind_by halves i {n = n} {m = m} {f = f} ts d (subst (λ z. AlikeBy f (k t) (k' z)) p (x t)) a in
      record { left = h.left; given_value = h.given_value; found = word (subst (λ (z : Token). IsTrue (is s (sort_of halves z.what))) (sym p) q) h.found; left_alike = h.left_alike; value_alike = h.value_alike }
  behind_by halves i {n = n} {m = m} {f = f} ts (parts g d) (next {n = o} {k = k} {k' = k'} x) a =
      let b = placed_by halves i (erases o) ts g a in
      let h = behind_by halves i {n = n} {m = m} {f = f} b.left d (subst (λ z. AlikeBy f (k b.given_value) (k' z)) b.value_alike (x b.given_value)) b.left_alike in
      record { left = h.left; given_value = h.given_value; found = parts b.found h.found; left_alike = h.left_alike; value_alike = h.value_alike }

-- ---- the other way: places may be set aside

record RuledToo {A B : Type 0} (f : A → B) (r : Right A) (x' : Rule B) : Type 0 where
  side : Right B
  is_rule : x' ≡ given true side
  alike : AlikeBy f r side

ruled_too : {A B : Type 0} {f : A → B} {x : Rule A} {x' : Rule B} {r : Right A} → AlikeRules f x x' → x ≡ given true r → RuledToo f r x'
ruled_too {A = A} {r = r} no_rule e = let q : ◌≡◌ {A = Rule A} never (given true r) = e in absurd (Prim.cc)
ruled_too {f = f} {r = r} (rules {r' = r'} c x) e = record {
  side = r';
  is_rule = ap (λ b. given b r') (sym c ∙ ap allows e);
  alike = subst (λ z. AlikeBy f z r') (ap (side_of r) e) x;
}

emptied_too : {A B : Type 0} {f : A → B} {x : Empty A} {x' : Empty B} {v : A} → AlikeEmpty f x x' → x ≡ may true v → x' ≡ may true (f v)
emptied_too {A = A} {v = v} never_empty e = let q : ◌≡◌ {A = Empty A} cannot (may true v) = e in absurd (Prim.cc)
emptied_too {f = f} {v = v} (empties {w = w} c) e = ap (λ b. may b w) (ap may_be e) ∙ ap (λ z. may true z) (sym c ∙ ap f (ap (value_of v) e))

mutual
  pub erased_by : (halves : Bool) → IsPlaceless → {n : Nonterminal} {ts us : List Token} {v : Value n} → Gets halves n ts us v → Gets halves (erased n) (map erased_token ts) (map erased_token us) (erased_value n v)
  erased_by halves i {n = n} (absent e) = absent (emptied_too (i.by_nothing n) e)
  erased_by halves i {n = n} (present {t = t} e d) =
      let k = ruled_too (i.by_rule n (sort_of halves t.what) t) e in
      present k.is_rule (erased_behind halves i d k.alike)

  erased_behind : (halves : Bool) → IsPlaceless → {n : Nonterminal} {ts us : List Token} {r : Right (Value n)} {r' : Right (Value (erased n))} {v : Value n} → Follows halves n r ts us v → AlikeBy (erased_value n) r r' → Follows halves (erased n) r' (map erased_token ts) (map erased_token us) (erased_value n v)
  erased_behind halves i {n = n} {ts = ts} done (same {v = v} e) = subst (λ z. Follows halves (erased n) (gives z) (map erased_token ts) (map erased_token ts) (erased_value n v)) e done
  erased_behind halves i (word {t = t} q d) (token x) = word q (erased_behind halves i d (x t))
  erased_behind halves i (parts {x = v} g d) (next x) = parts (erased_by halves i g) (erased_behind halves i d (x v))
