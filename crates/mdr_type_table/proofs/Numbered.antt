-- A struct is found by its name, where names differ.
use Rattle.std.proofs.Common.{◌≡◌, ℕ, zero, suc, ◌+◌, ◌<◌, ◌≤◌, ◌^◌, Bool, true, false, not, cond, nat_lt, List, [], ◌∷◌, length, Option, Some, None, slice_get, refl, ap, ◌∙◌, arith, option_map}
use Rattle.std.specs.List.{position, prefix_len, list_all}
use Rattle.std.specs.Str.{bytes_eq}
use Rattle.std.proofs.lemmas.Option.{slice_get-map, slice_get_within}
use Rattle.std.proofs.lemmas.Slice.Eq.{bytes_eq-Decides}
use Rattle.mdr_core.specs.declared.program.StructDef.{StructDef}
use Rattle.mdr_syntax.specs.Bytes.{is_name_byte}
use Rattle.mdr_plan.specs.Gives.{◌>>=◌}
use Rattle.mdr_plan.specs.Naming.{is_named, small, struct_number}
use Rattle.mdr_type_table.specs.Apart.{AreNamed, names_of}
use Rattle.mdr_type_table.proofs.Levels.{parts_of}

-- ---- names of letters, digits and `_`

pub word_of : (name : List ℕ) → list_all is_name_byte name ≡ true → prefix_len is_name_byte name ≡ length name
word_of [] h = refl
word_of (b ∷ bytes) h =
    let p = parts_of (is_name_byte b) (list_all is_name_byte bytes) h in
    let one : is_name_byte b ≡ true = p.0 in
    let more : prefix_len is_name_byte bytes ≡ length bytes = word_of bytes p.1 in
    rw (one, more) (omega arith)

-- ---- the first place of a name

abbrev differs : List ℕ → List ℕ → Bool
differs name other = not (is_named name other)

first_step : (x name : List ℕ) (xs : List (List ℕ)) (s : ℕ) (t : Bool) → bytes_eq x name ≡ t
    → ((k : ℕ) → slice_get xs k ≡ Some name → ((r : ℕ) → slice_get xs r ≡ Some name → r ≡ k) → prefix_len (differs name) xs ≡ k)
    → slice_get (x ∷ xs) s ≡ Some name → ((r : ℕ) → slice_get (x ∷ xs) r ≡ Some name → r ≡ s)
    → cond (not t) (1 + prefix_len (differs name) xs) 0 ≡ s
first_step x name xs s true q rest e once = once 0 (ap Some ((bytes_eq-Decides x name).0 q))
first_step x name xs zero false q rest e once =
    let same : x ≡ name = cc in
    let is : bytes_eq x name ≡ true = (bytes_eq-Decides x name).1 same in
    absurd cc
first_step x name xs (suc s) false q rest e once =
    let more : prefix_len (differs name) xs ≡ s = rest s e (λ r f. let g : suc r ≡ suc s = once (suc r) f in omega (arith, g)) in
    omega (arith, more)

first_at : (name : List ℕ) (xs : List (List ℕ)) (s : ℕ) → slice_get xs s ≡ Some name → ((r : ℕ) → slice_get xs r ≡ Some name → r ≡ s) → prefix_len (differs name) xs ≡ s
first_at name [] s e once = absurd cc
first_at name (x ∷ xs) s e once = first_step x name xs s (bytes_eq x name) refl (first_at name xs) e once

less_true : (a b : ℕ) → a < b → nat_lt a b ≡ true
less_true a b lt = grind (arith, lt)

position_at : (name : List ℕ) (xs : List (List ℕ)) (s : ℕ) → slice_get xs s ≡ Some name → ((r : ℕ) → slice_get xs r ≡ Some name → r ≡ s) → position (is_named name) xs ≡ Some s
position_at name xs s e once =
    let at : prefix_len (differs name) xs ≡ s = first_at name xs s e once in
    let lt : nat_lt s (length xs) ≡ true = less_true s (length xs) (slice_get_within xs s name e) in
    ap (λ (k : ℕ). cond (nat_lt k (length xs)) (Some k) None) at ∙ ap (λ (b : Bool). cond b (Some s) None) lt

-- ---- structs

pub name_at : (structs : List StructDef) (s : ℕ) (def : StructDef) → slice_get structs s ≡ Some def → slice_get (names_of structs) s ≡ Some def.name
name_at structs s def e = slice_get-map (λ (d : StructDef). d.name) structs s ∙ ap (option_map (λ (d : StructDef). d.name)) e

pub struct_of_name : (structs : List StructDef) (r : ℕ) (name : List ℕ) → slice_get (names_of structs) r ≡ Some name → (def : StructDef) × (slice_get structs r ≡ Some def) × (def.name ≡ name)
struct_of_name [] r name e = absurd cc
struct_of_name (d ∷ ds) zero name e = (d, refl, cc)
struct_of_name (d ∷ ds) (suc r) name e = struct_of_name ds r name e

pub place_of : (structs : List StructDef) → AreNamed structs → (s : ℕ) (def : StructDef) → slice_get structs s ≡ Some def → position (is_named def.name) (names_of structs) ≡ Some s
place_of structs h s def e =
    position_at def.name (names_of structs) s (name_at structs s def e)
    (λ r f. let d = struct_of_name structs r def.name f in h.once r s d.0 def d.1 e d.2)

small_by : (s : ℕ) (b : Bool) → b ≡ true → cond b (Some s) None ≡ Some s
small_by s true e = refl
small_by s false e = absurd cc

pub number_of : (structs : List StructDef) → AreNamed structs → length structs ≤ 2 ^ 32 → (s : ℕ) (def : StructDef) → slice_get structs s ≡ Some def → struct_number (names_of structs) def.name ≡ Some s
unfolding struct_number
number_of structs h few s def e =
    let lt : s < length structs = slice_get_within structs s def e in
    ap (λ (o : Option ℕ). o >>= small) (place_of structs h s def e) ∙ small_by s (nat_lt s (2 ^ 32)) (less_true s (2 ^ 32) (omega (arith, lt, few)))
