-- Productions one behind the other.
use Rattle.std.proofs.Common.{◌≡◌, refl, Bool, true, not}
use Rattle.mdr_syntax.specs.declared.token.Token.{Token}
use Rattle.mdr_grammar.specs.Sorts.{Sort}
use Rattle.mdr_grammar.proofs.Bools.{and_left, and_right, and_both, implied, implied_true}
use Rattle.mdr_grammar.proofs.Every.{all_sorts, every_sort}
use Rattle.mdr_grammar.specs.Forms.{Right, ◌>>=◌, Rule, Empty, and_then, or_else, where_allowed}
use Rattle.mdr_grammar.specs.Forms.Right.{gives, takes, then}
use Rattle.mdr_grammar.specs.Forms.Rule.{never, given}
use Rattle.mdr_grammar.specs.Forms.Empty.{cannot, may}
use Rattle.mdr_grammar.specs.Grammar.{rule, empty}
use Rattle.mdr_grammar.proofs.Hungry.{opens, if_may, avoids, Clear, Fine, FineRule}

pub clear : {A : Type 0} {hungry : Sort → Token → Bool} {r : Right A} {after : A → Sort → Token → Bool} → ((t : Token) → all_sorts (λ s. implied (hungry s t) (avoids r after s t)) ≡ true) → Clear hungry r after
clear {hungry = hungry} {r = r} {after = after} f = record { at = λ s t h. implied_true (hungry s t) (avoids r after s t) (every_sort (λ s. implied (hungry s t) (avoids r after s t)) (f t) s) h }

if_may_mono : {A : Type 0} (o : Empty A) (f g : A → Bool) → ((v : A) → f v ≡ true → g v ≡ true) → if_may o f ≡ true → if_may o g ≡ true
if_may_mono cannot f g h e = refl
if_may_mono (may allowed v) f g h e = h v e

pub avoids_then : {A B : Type 0} (r : Right A) (k : A → Right B) (F : A → Sort → Token → Bool) (G : B → Sort → Token → Bool) (s : Sort) (t : Token) → ((v : A) → F v s t ≡ true → avoids (k v) G s t ≡ true) → avoids r F s t ≡ true → avoids (r >>= k) G s t ≡ true
avoids_then (gives v) k F G s t f e = f v e
avoids_then (takes s' r) k F G s t f e = e
avoids_then (then n r) k F G s t f e = and_both _ _ (and_left (not (opens (rule n s t))) (if_may (empty n) (λ v. avoids (r v) F s t)) e) (if_may_mono (empty n) (λ v. avoids (r v) F s t) (λ v. avoids (r v >>= k) G s t) (λ v. avoids_then (r v) k F G s t f) (and_right (not (opens (rule n s t))) (if_may (empty n) (λ v. avoids (r v) F s t)) e))

pub fine_then : {A B : Type 0} (r : Right A) (k : A → Right B) (F : A → Sort → Token → Bool) (G : B → Sort → Token → Bool) → Fine r F → ((v : A) → Clear (F v) (k v) G × Fine (k v) G) → Fine (r >>= k) G
fine_then (gives v) k F G x y = (y v).1
fine_then (takes s r) k F G (a, x) y = (a, λ t. fine_then (r t) k F G (x t) y)
fine_then (then n r) k F G x y = λ v. (record { at = λ s t h. avoids_then (r v) k F G s t (λ w. (y w).0.at s t) ((x v).0.at s t h) }, fine_then (r v) k F G (x v).1 y)

pub fine_and : {A B : Type 0} (r : Rule A) (k : A → Right B) (F : A → Sort → Token → Bool) (G : B → Sort → Token → Bool) → FineRule r F → ((v : A) → Clear (F v) (k v) G × Fine (k v) G) → FineRule (and_then r k) G
fine_and never k F G x y = tt
fine_and (given allowed r) k F G x y = fine_then r k F G x y

pub fine_or : {A : Type 0} (r r' : Rule A) (F : A → Sort → Token → Bool) → FineRule r F → FineRule r' F → FineRule (or_else r r') F
fine_or never r' F x y = y
fine_or (given allowed r) r' F x y = x

pub fine_where : {A : Type 0} (b : Bool) (r : Rule A) (F : A → Sort → Token → Bool) → FineRule r F → FineRule (where_allowed b r) F
fine_where b never F x = tt
fine_where b (given allowed r) F x = x

avoids_more : {A : Type 0} (r : Right A) (F G : A → Sort → Token → Bool) (s : Sort) (t : Token) → ((v : A) → F v s t ≡ true → G v s t ≡ true) → avoids r F s t ≡ true → avoids r G s t ≡ true
avoids_more (gives v) F G s t f e = f v e
avoids_more (takes s' r) F G s t f e = e
avoids_more (then n r) F G s t f e = and_both _ _ (and_left (not (opens (rule n s t))) (if_may (empty n) (λ v. avoids (r v) F s t)) e) (if_may_mono (empty n) (λ v. avoids (r v) F s t) (λ v. avoids (r v) G s t) (λ v. avoids_more (r v) F G s t f) (and_right (not (opens (rule n s t))) (if_may (empty n) (λ v. avoids (r v) F s t)) e))

more_fine : {A : Type 0} (r : Right A) (F G : A → Sort → Token → Bool) → ((v : A) (s : Sort) (t : Token) → F v s t ≡ true → G v s t ≡ true) → Fine r F → Fine r G
more_fine (gives v) F G f x = tt
more_fine (takes s r) F G f (a, x) = (a, λ t. more_fine (r t) F G f (x t))
more_fine (then n r) F G f x = λ v. (record { at = λ s t h. avoids_more (r v) F G s t (λ w. f w s t) ((x v).0.at s t h) }, more_fine (r v) F G f (x v).1)

-- a rule is fine where more may not follow
pub fine_more : {A : Type 0} (r : Rule A) (F G : A → Sort → Token → Bool) → ((v : A) (s : Sort) (t : Token) → F v s t ≡ true → G v s t ≡ true) → FineRule r F → FineRule r G
fine_more never F G f x = tt
fine_more (given allowed r) F G f x = more_fine r F G f x
