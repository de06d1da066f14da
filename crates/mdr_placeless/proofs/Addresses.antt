-- Whose addresses a block takes doesn't depend on places.
use Rattle.mdr_body.specs.Addresses.{takes_among, takes_at, takes_along, clauses_take, hides, is_address, is_declared_by, is_name, takes_in, perhaps_takes}
use Rattle.mdr_body.specs.Statements.{tail_of, head_taken, taken_behind}
use Rattle.mdr_faults.specs.Declarations.{is_same_name}
use Rattle.mdr_placeless.proofs.Declared.{AreDecls}
use Rattle.mdr_placeless.proofs.Lines.{AreLine, AreLines, AreClauses}
use Rattle.mdr_placeless.proofs.Lines.AreLine.{Assigns, Blocks, Breaks, Continues, Dos, Empties, Fors, Ifs, Locals, Plains, Returns, Switches, Whiles}
use Rattle.mdr_placeless.proofs.Scopes.{Perhaps}
use Rattle.mdr_placeless.proofs.Scopes.Perhaps.{Nones, Somes}
use Rattle.mdr_placeless.proofs.Written.{AreWritten, AreWrittens}
use Rattle.mdr_placeless.proofs.Written.AreWritten.{Binaries, Calls, Casts, Choices, Members, Names, Nulls, Numbers, Posts, Prefixes, Subscripts, Texts, Types}
use Rattle.mdr_syntax.specs.declared.tree.Decl.{Decl}
use Rattle.std.proofs.Common.{Bool, List, None, Option, Some, ap, false, not, refl, ℕ, ◌&&◌, ◌||◌, ◌∙◌, ◌≡◌}
use Rattle.mdr_body.specs.Locals.{is_taken, takes}
use Rattle.mdr_operand.specs.Written.{Written, Writtens, Line, Lines, Clauses}
use Rattle.mdr_placeless.proofs.Lines.AreLines.{Ends as NoLines, Thens as MoreLines}
use Rattle.mdr_placeless.proofs.Lines.AreClauses.{NoClauses, MoreClauses}
use Rattle.mdr_placeless.proofs.Written.AreWrittens.{Ends, Thens}

either : (a b c d : Bool) → a ≡ c → b ≡ d → (a || b) ≡ (c || d)
either a b c d e f = ap (λ x. x || b) e ∙ ap (λ x. c || x) f

-- ---- expressions

names_both : {v w : Written} (name : List ℕ) → AreWritten v w → is_name name v ≡ is_name name w
names_both name (Numbers p q n k) = refl
names_both name (Nulls p q) = refl
names_both name (Names p q other) = refl
names_both name (Prefixes p q op r) = refl
names_both name (Posts p q op r) = refl
names_both name (Casts p q n bs r) = refl
names_both name (Binaries p q op r k) = refl
names_both name (Choices p q r k l) = refl
names_both name (Subscripts p q r k) = refl
names_both name (Members p q at there is_arrow other r) = refl
names_both name (Calls p q r rs) = refl
names_both name (Texts p q bytes) = refl
names_both name (Types p q n bs) = refl

mutual
  pub takes_both_in : {v w : Written} (name : List ℕ) → AreWritten v w → takes_in name v ≡ takes_in name w
  takes_both_in name (Numbers p q n k) = refl
  takes_both_in name (Nulls p q) = refl
  takes_both_in name (Names p q other) = refl
  takes_both_in name (Prefixes p q op r) = either _ _ _ _ (ap (λ b. is_address op && b) (names_both name r)) (takes_both_in name r)
  takes_both_in name (Posts p q op r) = takes_both_in name r
  takes_both_in name (Casts p q n bs r) = takes_both_in name r
  takes_both_in name (Binaries p q op r k) = either _ _ _ _ (takes_both_in name r) (takes_both_in name k)
  takes_both_in name (Choices p q r k l) = either _ _ _ _ (takes_both_in name r) (either _ _ _ _ (takes_both_in name k) (takes_both_in name l))
  takes_both_in name (Subscripts p q r k) = either _ _ _ _ (takes_both_in name r) (takes_both_in name k)
  takes_both_in name (Members p q at there is_arrow other r) = takes_both_in name r
  takes_both_in name (Calls p q r rs) = either _ _ _ _ (takes_both_in name r) (any_both name rs)
  takes_both_in name (Texts p q bytes) = refl
  takes_both_in name (Types p q n bs) = refl

  any_both : {vs ws : Writtens} (name : List ℕ) → AreWrittens vs ws → takes_among name vs ≡ takes_among name ws
  any_both name Ends = refl
  any_both name (Thens r rs) = either _ _ _ _ (takes_both_in name r) (any_both name rs)

pub perhaps_takes_both : {o o' : Option Written} (name : List ℕ) → Perhaps AreWritten o o' → perhaps_takes name o ≡ perhaps_takes name o'
perhaps_takes_both name Nones = refl
perhaps_takes_both name (Somes r) = takes_both_in name r

-- ---- statements

declared_by_both : (name : List ℕ) {d e : Decl} → AreDecls d e → is_declared_by name d ≡ is_declared_by name e
declared_by_both name r = ap (λ (n : Option (List ℕ)). is_same_name n (Some name)) r.named

hides_both : (name : List ℕ) {l k : Line} → AreLine l k → hides name l ≡ hides name k
hides_both name (Empties p q) = refl
hides_both name (Blocks p q rs) = refl
hides_both name (Locals p q r o) = declared_by_both name r.decl
hides_both name (Assigns p q at there op r k) = refl
hides_both name (Plains p q r) = refl
hides_both name (Ifs p q r l rs) = refl
hides_both name (Whiles p q r l) = refl
hides_both name (Fors p q rs o rs' l) = refl
hides_both name (Dos p q l r) = refl
hides_both name (Switches p q r cs) = refl
hides_both name (Returns p q o) = refl
hides_both name (Breaks p q) = refl
hides_both name (Continues p q) = refl

mutual
  pub has_both : (name : List ℕ) {l k : Line} → AreLine l k → takes_at name l ≡ takes_at name k
  has_both name (Empties p q) = refl
  has_both name (Blocks p q rs) = have_both name rs false
  has_both name (Locals p q {e = e} {o = o} {o' = o'} r h) = ap (λ b. not b && perhaps_takes name o) (declared_by_both name r.decl) ∙ ap (λ b. not (is_declared_by name e) && b) (perhaps_takes_both name h)
  has_both name (Assigns p q at there op r k) = either _ _ _ _ (takes_both_in name r) (takes_both_in name k)
  has_both name (Plains p q r) = takes_both_in name r
  has_both name (Ifs p q r l rs) = either _ _ _ _ (takes_both_in name r) (either _ _ _ _ (has_both name l) (have_both name rs false))
  has_both name (Whiles p q r l) = either _ _ _ _ (takes_both_in name r) (has_both name l)
  has_both name (Fors p q {ks = ks} rs h rs' l) =
      have_both name rs _ ∙ ap (λ b. takes_along name ks b) (either _ _ _ _ (perhaps_takes_both name h) (either _ _ _ _ (have_both name rs' false) (has_both name l)))
  has_both name (Dos p q l r) = either _ _ _ _ (has_both name l) (takes_both_in name r)
  has_both name (Switches p q r cs) = either _ _ _ _ (takes_both_in name r) (clauses_both name cs)
  has_both name (Returns p q h) = perhaps_takes_both name h
  has_both name (Breaks p q) = refl
  has_both name (Continues p q) = refl

  pub have_both : (name : List ℕ) {ls ks : Lines} → AreLines ls ks → (behind : Bool) → takes_along name ls behind ≡ takes_along name ks behind
  have_both name NoLines behind = refl
  have_both name (MoreLines {l = l} {k = k} {ls = ls} {ks = ks} r rs) behind =
      either _ _ _ _ (has_both name r) (ap (λ b. not b && takes_along name ls behind) (hides_both name r) ∙ ap (λ b. not (hides name k) && b) (have_both name rs behind))

  clauses_both : (name : List ℕ) {cs ds : Clauses} → AreClauses cs ds → clauses_take name cs ≡ clauses_take name ds
  clauses_both name NoClauses = refl
  clauses_both name (MoreClauses xs rs cs) = either _ _ _ _ (have_both name rs false) (clauses_both name cs)

-- ---- whose addresses are taken

pub takes_both : {n n' : Option (List ℕ)} {o o' : Option Written} {ls ks : Lines} → n ≡ n' → Perhaps AreWritten o o' → AreLines ls ks → takes n o ls ≡ takes n' o' ks
takes_both {n = n} {n' = n'} {o' = o'} {ks = ks} e h rs = by n h rs ∙ ap (λ (x : Option (List ℕ)). takes x o' ks) e
  where
    by : (x : Option (List ℕ)) {o o' : Option Written} {ls ks : Lines} → Perhaps AreWritten o o' → AreLines ls ks → takes x o ls ≡ takes x o' ks
    by None h rs = refl
    by (Some name) h rs = either _ _ _ _ (perhaps_takes_both name h) (have_both name rs false)

pub line_taken : {l k : Line} {ls ks : Lines} → AreLine l k → AreLines ls ks → is_taken l ls ≡ is_taken k ks
line_taken (Empties p q) rs = refl
line_taken (Blocks p q ls) rs = refl
line_taken (Locals p q r o) rs = takes_both r.decl.named o rs
line_taken (Assigns p q at there op r k) rs = refl
line_taken (Plains p q r) rs = refl
line_taken (Ifs p q r l ls) rs = refl
line_taken (Whiles p q r l) rs = refl
line_taken (Fors p q ls o ls' l) rs = refl
line_taken (Dos p q l r) rs = refl
line_taken (Switches p q r cs) rs = refl
line_taken (Returns p q o) rs = refl
line_taken (Breaks p q) rs = refl
line_taken (Continues p q) rs = refl

behind_by : (n : Option (List ℕ)) {o o' u u' : Option Written} {ls ks ls' ks' : Lines} {l k : Line} → Perhaps AreWritten o o' → AreLines ls ks → Perhaps AreWritten u u' → AreLines ls' ks' → AreLine l k → taken_behind n o ls (tail_of u ls' l) ≡ taken_behind n o' ks (tail_of u' ks' k)
behind_by None h rs g rs' r = refl
behind_by (Some name) {ks = ks} h rs g rs' r =
    either _ _ _ _ (perhaps_takes_both name h)
    (have_both name rs _ ∙ ap (λ b. takes_along name ks b) (either _ _ _ _ (perhaps_takes_both name g) (either _ _ _ _ (have_both name rs' false) (has_both name r))))

behind_both : {n n' : Option (List ℕ)} {o o' u u' : Option Written} {ls ks ls' ks' : Lines} {l k : Line} → n ≡ n' → Perhaps AreWritten o o' → AreLines ls ks → Perhaps AreWritten u u' → AreLines ls' ks' → AreLine l k → taken_behind n o ls (tail_of u ls' l) ≡ taken_behind n' o' ks (tail_of u' ks' k)
behind_both {n = n} {o' = o'} {u' = u'} {ks = ks} {ks' = ks'} {k = k} e h rs g rs' r = behind_by n h rs g rs' r ∙ ap (λ (x : Option (List ℕ)). taken_behind x o' ks (tail_of u' ks' k)) e

pub head_both : {u u' : Option Written} {ls ks ls' ks' : Lines} {l k b c : Line} → AreLine l k → AreLines ls ks → Perhaps AreWritten u u' → AreLines ls' ks' → AreLine b c → head_taken l ls (tail_of u ls' b) ≡ head_taken k ks (tail_of u' ks' c)
head_both (Empties p q) rs g rs' r = refl
head_both (Blocks p q ls) rs g rs' r = refl
head_both (Locals p q d o) rs g rs' r = behind_both d.decl.named o rs g rs' r
head_both (Assigns p q at there op v k) rs g rs' r = refl
head_both (Plains p q v) rs g rs' r = refl
head_both (Ifs p q v l ls) rs g rs' r = refl
head_both (Whiles p q v l) rs g rs' r = refl
head_both (Fors p q ls o ls' l) rs g rs' r = refl
head_both (Dos p q l v) rs g rs' r = refl
head_both (Switches p q v cs) rs g rs' r = refl
head_both (Returns p q o) rs g rs' r = refl
head_both (Breaks p q) rs g rs' r = refl
head_both (Continues p q) rs g rs' r = refl
