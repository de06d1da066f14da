-- Of the views of a block.
use Rattle.std.proofs.Common.{◌≡◌, ℕ, zero, suc, ◌+◌, ◌*◌, ◌-◌, ◌/◌, ◌%◌, ◌<◌, ◌≤◌, ◌⊎◌, inl, inr, List, length, slice_get, get_or, drop, Option, Some, None, refl, sym, ap, ◌∙◌, arith, subst, Bool, true, false, IsTrue, ◌↔◌}
use Rattle.std.proofs.lemmas.Bool.{cases_lt}
use Rattle.std.proofs.lemmas.List.{length-append}
use Rattle.std.proofs.lemmas.Option.{slice_get_within, slice_get_cases, get_or_from_slice_get}
use Rattle.std.proofs.lemmas.Nat.{div-mul-add, mod-mul-add, mul-le, div-add-mod'}
use Rattle.mdr_core.specs.declared.types.Ty.{Ty, out-Ty}
use Rattle.mdr_core.specs.declared.types.Ty.TheOpen.{Ty-F}
use Rattle.mdr_core.specs.declared.program.Field.{Field}
use Rattle.mdr_core.specs.declared.program.Program.{Program}
use Rattle.mdr_core.specs.declared.program.StructDef.{StructDef}
use Rattle.mdr_core.specs.declared.value.View.{View}
use Rattle.mdr_core.specs.Layout.{Leaf, Home, Alone, leaves, leaves_by, leaves_below, field_leaves, repeated, struct_by, struct_cells, struct_of, fields_of, field_start}
use Rattle.mdr_core.specs.Fields.{IsInField}
use Rattle.mdr_core.specs.Views.{AreLaid, HasCells, IsIn, Whole, Element, Inside, IsInFields, IsInStructs, IsWhole}
use Rattle.mdr_core.proofs.Lying.{Looks, looks, start_and_rest, fields_over, is_below, positive, struct_leaves}

-- how high a type stands among the structs
abbrev pub rank : Option ℕ → ℕ
rank None = 0
rank (Some s) = suc s

not_both : {b : Bool} → b ≡ true → b ≡ false → ⊥
not_both holds fails = let e : true ≡ false = sym holds ∙ fails in cc

pub some_same : {A : Type 0} {x y : A} → Some x ≡ Some y → x ≡ y
some_same e = cc

-- ---- where fields begin and end

looks_at : (structs : List StructDef) (s f : ℕ) (x : Field) → slice_get (fields_of structs s) f ≡ Some x → Looks structs s f x (length (leaves (leaves_below structs s) Alone x.ty))
looks_at structs s f x e = looks structs s (fields_of structs s) f x (length (leaves (leaves_below structs s) Alone x.ty)) refl (slice_get_within (fields_of structs s) f x e) (sym (get_or_from_slice_get (fields_of structs s) f x x e)) refl

start_next : (structs : List StructDef) (s f : ℕ) (x : Field) (size : ℕ) → Looks structs s f x size → field_start structs s (f + 1) ≡ field_start structs s f + x.count * size
start_next structs s f x size l =
    let here = start_and_rest structs s f in
    let next = start_and_rest structs s (f + 1) in
    let own = repeated x.count (leaves (leaves_below structs s) (Home.Within s f) x.ty) in
    let parts : length (field_leaves (leaves_below structs s) s f (drop f (fields_of structs s))) ≡ length own + length (field_leaves (leaves_below structs s) s (f + 1) (drop (f + 1) (fields_of structs s))) = ap length l.all ∙ length-append own (field_leaves (leaves_below structs s) s (f + 1) (drop (f + 1) (fields_of structs s))) in
    let size_is = l.size_is in
    omega arith

-- a field ends where the next begins, within the struct
pub field_end : (structs : List StructDef) (s f : ℕ) (x : Field) → slice_get (fields_of structs s) f ≡ Some x → field_start structs s f + x.count * length (leaves (leaves_below structs s) Alone x.ty) ≤ length (struct_cells structs s)
field_end structs s f x e =
    let next = start_next structs s f x (length (leaves (leaves_below structs s) Alone x.ty)) (looks_at structs s f x e) in
    let rest = start_and_rest structs s (f + 1) in
    omega arith

start_rises : (structs : List StructDef) (s f : ℕ) → ((x : Field) × (f < length (fields_of structs s)) × (slice_get (fields_of structs s) f ≡ Some x) × (get_or (fields_of structs s) f x ≡ x)) ⊎ ((length (fields_of structs s) ≤ f) × (slice_get (fields_of structs s) f ≡ None)) → field_start structs s f ≤ field_start structs s (f + 1)
start_rises structs s f (inl h) =
    let next = start_next structs s f h.0 (length (leaves (leaves_below structs s) Alone h.0.ty)) (looks_at structs s f h.0 h.2) in
    omega arith
start_rises structs s f (inr h) =
    let here = start_and_rest structs s f in
    let next = start_and_rest structs s (f + 1) in
    let none : length (field_leaves (leaves_below structs s) s f (drop f (fields_of structs s))) ≡ 0 = ap length (fields_over (leaves_below structs s) s (fields_of structs s) f h.0) in
    let none_next : length (field_leaves (leaves_below structs s) s (f + 1) (drop (f + 1) (fields_of structs s))) ≡ 0 = ap length (fields_over (leaves_below structs s) s (fields_of structs s) (f + 1) (omega (arith, h.0))) in
    omega arith

starts_rise : (structs : List StructDef) (s f d : ℕ) → field_start structs s f ≤ field_start structs s (f + d)
starts_rise structs s f zero = let e : field_start structs s (f + 0) ≡ field_start structs s f = ap (field_start structs s) (omega arith) in omega arith
starts_rise structs s f (suc d) =
    let lower = starts_rise structs s f d in
    let step = start_rises structs s (f + d) (slice_get_cases (fields_of structs s) (f + d)).1 in
    let e : field_start structs s (f + suc d) ≡ field_start structs s (f + d + 1) = ap (field_start structs s) (omega arith) in
    omega arith

-- a field that lies before another ends before it
ends_before : (structs : List StructDef) (s f g : ℕ) (x : Field) → slice_get (fields_of structs s) f ≡ Some x → f < g → field_start structs s f + x.count * length (leaves (leaves_below structs s) Alone x.ty) ≤ field_start structs s g
ends_before structs s f g x e lt =
    let next = start_next structs s f x (length (leaves (leaves_below structs s) Alone x.ty)) (looks_at structs s f x e) in
    let rise = starts_rise structs s (f + 1) (g - (f + 1)) in
    let at : field_start structs s (f + 1 + (g - (f + 1))) ≡ field_start structs s g = ap (field_start structs s) (omega arith) in
    omega arith

-- a cell lies in a field
pub record Covers (structs : List StructDef) (s cell f : ℕ) (x : Field) : Type 0 where
  pub names : slice_get (fields_of structs s) f ≡ Some x
  pub begins : field_start structs s f ≤ cell
  pub ends : cell < field_start structs s f + x.count * length (leaves (leaves_below structs s) Alone x.ty)

apart_at : (structs : List StructDef) (s cell f g : ℕ) (x y : Field) → Covers structs s cell f x → Covers structs s cell g y → (f < g) ⊎ (g ≤ f) → (g < f) ⊎ (f ≤ g) → f ≡ g
apart_at structs s cell f g x y c d (inl h) k = let over = ends_before structs s f g x c.names h in let ends = c.ends in let begins = d.begins in absurd (omega arith)
apart_at structs s cell f g x y c d (inr h) (inl k) = let over = ends_before structs s g f y d.names k in let ends = d.ends in let begins = c.begins in absurd (omega arith)
apart_at structs s cell f g x y c d (inr h) (inr k) = omega arith

-- it lies in no other
pub one_covers : (structs : List StructDef) (s cell f g : ℕ) (x y : Field) → Covers structs s cell f x → Covers structs s cell g y → f ≡ g
one_covers structs s cell f g x y c d = apart_at structs s cell f g x y c d (cases_lt f g) (cases_lt g f)

-- ---- how many cells a field has

known_by : (known other : ℕ → List Leaf) (home : Home) (ty : Ty) (t : Ty-F Ty) → ((m : ℕ) → struct_by t ≡ Some m → known m ≡ other m) → leaves_by known home ty t ≡ leaves_by other home ty t
known_by known other home ty (Ty-F.Int k) h = refl
known_by known other home ty Ty-F.Lock h = refl
known_by known other home ty (Ty-F.Struct s) h = h s refl
known_by known other home ty (Ty-F.Ptr t) h = refl
known_by known other home ty Ty-F.VoidPtr h = refl
known_by known other home ty (Ty-F.Fun ts) h = refl
known_by known other home ty Ty-F.Void h = refl

-- the cells of a field's type are those that it has anywhere
pub cells_known : (structs : List StructDef) (s f : ℕ) (x : Field) (home : Home) → AreLaid structs → slice_get (fields_of structs s) f ≡ Some x → leaves (leaves_below structs s) home x.ty ≡ leaves (struct_cells structs) home x.ty
unfolding leaves
cells_known structs s f x home laid e = known_by (leaves_below structs s) (struct_cells structs) home x.ty (out-Ty x.ty) (λ m is. is_below structs s m (laid.lower s f m x e is))

-- ---- where views lie

product : (i n S : ℕ) → i < n → i * S + S ≤ n * S
product i n S h = let le = mul-le (i + 1) S n S (omega arith) (omega arith) in let e : (i + 1) * S ≡ i * S + S = grind arith in omega arith

pub record Ranges (first size : ℕ) (view : View) : Type 0 where
  pub begins : first ≤ view.first
  pub ends : view.first < first + size

pub ranged : (program : Program) (view : View) (first : ℕ) (ty : Ty) (count : ℕ) → AreLaid program.structs → 1 ≤ count * length (leaves (struct_cells program.structs) Alone ty) → IsIn program view first ty count → Ranges first (count * length (leaves (struct_cells program.structs) Alone ty)) view
ranged program view first ty count laid some (Whole _ _ _ begins names many) = record { begins = omega arith; ends = omega arith }
ranged program view first ty count laid some (Element _ _ _ s i struct among begins names many) =
    let size : length (leaves (struct_cells program.structs) Alone ty) ≡ length (struct_cells program.structs s) = ap length (struct_leaves (struct_cells program.structs) Alone ty s struct) in
    let here = product i count (length (leaves (struct_cells program.structs) Alone ty)) among in
    let full = positive count (length (leaves (struct_cells program.structs) Alone ty)) 0 some in
    let same : i * length (struct_cells program.structs s) ≡ i * length (leaves (struct_cells program.structs) Alone ty) = ap (λ n. i * n) (sym size) in
    record { begins = omega arith; ends = omega arith }
ranged program view first ty count laid some (Inside _ _ _ s i f x struct among names inside) =
    let size : length (leaves (struct_cells program.structs) Alone ty) ≡ length (struct_cells program.structs s) = ap length (struct_leaves (struct_cells program.structs) Alone ty s struct) in
    let here = product i count (length (leaves (struct_cells program.structs) Alone ty)) among in
    let same : i * length (struct_cells program.structs s) ≡ i * length (leaves (struct_cells program.structs) Alone ty) = ap (λ n. i * n) (sym size) in
    let known : x.count * length (leaves (leaves_below program.structs s) Alone x.ty) ≡ x.count * length (leaves (struct_cells program.structs) Alone x.ty) = ap (λ (ys : List Leaf). x.count * length ys) (cells_known program.structs s f x Alone laid names) in
    let filled = laid.filled s f x names in
    let over = field_end program.structs s f x names in
    let low = ranged program view (first + i * length (struct_cells program.structs s) + field_start program.structs s f) x.ty x.count laid (omega arith) inside in
    let begins = low.begins in
    let ends = low.ends in
    record { begins = omega arith; ends = omega arith }

-- ---- the forms of a view

pub whole_in : (program : Program) (view : View) (first : ℕ) (ty : Ty) (count : ℕ) → IsWhole program view first ty count → IsIn program view first ty count
whole_in program view first ty count w = Whole first ty count w.begins w.names w.many

in_either : (program : Program) (view : View) (first : ℕ) (ty : Ty) (count : ℕ) → IsIn program view first ty count → IsWhole program view first ty count ⊎ ((s : ℕ) × (struct_of ty ≡ Some s) × IsInStructs program view s first ty count)
in_either program view first ty count (Whole _ _ _ begins names many) = inl (record { begins = begins; names = names; many = many })
in_either program view first ty count (Element _ _ _ s i struct among begins names many) = inr (s, struct, record { element = i; among = among; inside = inl (record { begins = begins; names = names; many = many }) })
in_either program view first ty count (Inside _ _ _ s i f x struct among names inside) = inr (s, struct, record { element = i; among = among; inside = inr (record { number = f; field = x; names = names; inside = inside }) })

element_in : (program : Program) (view : View) (first : ℕ) (ty : Ty) (count s i : ℕ) → struct_of ty ≡ Some s → i < count → IsWhole program view (first + i * length (struct_cells program.structs s)) ty 1 ⊎ IsInFields program view s (first + i * length (struct_cells program.structs s)) → IsIn program view first ty count
element_in program view first ty count s i struct among (inl w) = Element first ty count s i struct among w.begins w.names w.many
element_in program view first ty count s i struct among (inr f) = Inside first ty count s i f.number f.field struct among f.names f.inside

pub structs_in : (program : Program) (view : View) (first : ℕ) (ty : Ty) (count s : ℕ) → struct_of ty ≡ Some s → IsInStructs program view s first ty count → IsIn program view first ty count
structs_in program view first ty count s struct r = element_in program view first ty count s r.element struct r.among r.inside

in_structs_by : (program : Program) (view : View) (first : ℕ) (ty : Ty) (count s : ℕ) (whole structs : Bool) → struct_of ty ≡ Some s → whole ≡ false → (IsTrue whole ↔ IsWhole program view first ty count) → (IsTrue structs ↔ IsInStructs program view s first ty count) →
    IsWhole program view first ty count ⊎ ((t : ℕ) × (struct_of ty ≡ Some t) × IsInStructs program view t first ty count) → IsTrue structs
in_structs_by program view first ty count s whole structs struct fails w i (inl h) = let holds : whole ≡ true = w.1 h in absurd (not_both holds fails)
in_structs_by program view first ty count s whole structs struct fails w i (inr h) = let same : h.0 ≡ s = some_same (sym h.1 ∙ struct) in i.1 (subst (λ t. IsInStructs program view t first ty count) same h.2)

pub in_some : (program : Program) (view : View) (first : ℕ) (ty : Ty) (count s : ℕ) (whole structs : Bool) → struct_of ty ≡ Some s → whole ≡ false → (IsTrue whole ↔ IsWhole program view first ty count) → (IsTrue structs ↔ IsInStructs program view s first ty count) → IsTrue structs ↔ IsIn program view first ty count
in_some program view first ty count s whole structs struct fails w i = (λ h. structs_in program view first ty count s struct (i.0 h), λ d. in_structs_by program view first ty count s whole structs struct fails w i (in_either program view first ty count d))

-- ---- a view of a field

pub in_field : (program : Program) (view : View) (s inside f r : ℕ) (x : Field) (b : Bool) → AreLaid program.structs → inside ≤ view.first → IsInField program.structs s inside x f r → (IsTrue b ↔ IsIn program view (view.first - r) x.ty x.count) → IsTrue b ↔ IsInFields program view s (view.first - inside)
in_field program view s inside f r x b laid behind at i = (there, back)
  where
    begins : view.first - inside + field_start program.structs s f ≡ view.first - r
    begins = let place = at.place in omega arith

    there : IsTrue b → IsInFields program view s (view.first - inside)
    there h = record { number = f; field = x; names = at.names; inside = subst (λ n. IsIn program view n x.ty x.count) (sym begins) (i.0 h) }

    here : Covers program.structs s inside f x
    here = let place = at.place in let within = at.inside in record { names = at.names; begins = omega arith; ends = omega arith }

    covered : (k : IsInFields program view s (view.first - inside)) → Covers program.structs s inside k.number k.field
    covered k =
        let known : k.field.count * length (leaves (leaves_below program.structs s) Alone k.field.ty) ≡ k.field.count * length (leaves (struct_cells program.structs) Alone k.field.ty) = ap (λ (ys : List Leaf). k.field.count * length ys) (cells_known program.structs s k.number k.field Alone laid k.names) in
        let filled = laid.filled s k.number k.field k.names in
        let range = ranged program view (view.first - inside + field_start program.structs s k.number) k.field.ty k.field.count laid (omega arith) k.inside in
        let begins = range.begins in
        let ends = range.ends in
        record { names = k.names; begins = omega arith; ends = omega arith }

    moved : (k : IsInFields program view s (view.first - inside)) → k.number ≡ f → IsIn program view (view.first - r) x.ty x.count
    moved k same =
        let alike : k.field ≡ x = some_same (sym k.names ∙ ap (slice_get (fields_of program.structs s)) same ∙ at.names) in
        let place : view.first - inside + field_start program.structs s k.number ≡ view.first - r = ap (λ n. view.first - inside + field_start program.structs s n) same ∙ begins in
        subst (λ (y : Field). IsIn program view (view.first - r) y.ty y.count) alike (subst (λ n. IsIn program view n k.field.ty k.field.count) place k.inside)

    back : IsInFields program view s (view.first - inside) → IsTrue b
    back k = i.1 (moved k (one_covers program.structs s inside k.number f k.field x (covered k) here))

-- ---- a view of one of many structs

element_ranges : (program : Program) (view : View) (s first : ℕ) (ty : Ty) → AreLaid program.structs → 1 ≤ length (struct_cells program.structs s) → IsWhole program view first ty 1 ⊎ IsInFields program view s first → Ranges first (length (struct_cells program.structs s)) view
element_ranges program view s first ty laid some (inl w) = let begins = w.begins in record { begins = omega arith; ends = omega arith }
element_ranges program view s first ty laid some (inr k) =
    let known : k.field.count * length (leaves (leaves_below program.structs s) Alone k.field.ty) ≡ k.field.count * length (leaves (struct_cells program.structs) Alone k.field.ty) = ap (λ (ys : List Leaf). k.field.count * length ys) (cells_known program.structs s k.number k.field Alone laid k.names) in
    let filled = laid.filled s k.number k.field k.names in
    let range = ranged program view (first + field_start program.structs s k.number) k.field.ty k.field.count laid (omega arith) k.inside in
    let over = field_end program.structs s k.number k.field k.names in
    let begins = range.begins in
    let ends = range.ends in
    record { begins = omega arith; ends = omega arith }

-- which element, and where it begins
pub record IsElement (first size at element : ℕ) : Type 0 where
  pub behind : first ≤ at
  pub is : (at - first) / size ≡ element
  pub begins : first + element * size ≡ at - (at - first) % size

element_of : (first size at i r : ℕ) → r < size → at ≡ first + i * size + r → IsElement first size at i
element_of first size at i r below e =
    let cell : at - first ≡ i * size + r = omega arith in
    let rest : (at - first) % size ≡ r = ap (λ n. n % size) cell ∙ mod-mul-add i size r below in
    record { behind = omega arith; is = ap (λ n. n / size) cell ∙ div-mul-add i size r below; begins = omega arith }

pub element_is : (program : Program) (view : View) (s first : ℕ) (ty : Ty) (count size : ℕ) → AreLaid program.structs → 1 ≤ size → size ≡ length (struct_cells program.structs s) → (r : IsInStructs program view s first ty count) → IsElement first size view.first r.element
element_is program view s first ty count size laid some e r =
    let range = element_ranges program view s (first + r.element * length (struct_cells program.structs s)) ty laid (omega arith) r.inside in
    let same : r.element * length (struct_cells program.structs s) ≡ r.element * size = ap (λ n. r.element * n) (sym e) in
    let begins = range.begins in
    let ends = range.ends in
    element_of first size view.first r.element (view.first - (first + r.element * size)) (omega arith) (omega arith)

pub not_before : (program : Program) (view : View) (s first : ℕ) (ty : Ty) (count size : ℕ) → AreLaid program.structs → 1 ≤ size → size ≡ length (struct_cells program.structs s) → view.first < first → IsTrue false ↔ IsInStructs program view s first ty count
not_before program view s first ty count size laid some e h = (λ n. absurd (not_both refl (sym n)), λ r. let k = element_is program view s first ty count size laid some e r in let behind = k.behind in absurd (omega arith))

pub not_behind : (program : Program) (view : View) (s first : ℕ) (ty : Ty) (count size : ℕ) → AreLaid program.structs → 1 ≤ size → size ≡ length (struct_cells program.structs s) → count ≤ (view.first - first) / size → IsTrue false ↔ IsInStructs program view s first ty count
not_behind program view s first ty count size laid some e h = (λ n. absurd (not_both refl (sym n)), λ r. let k = element_is program view s first ty count size laid some e r in let is = k.is in let among = r.among in absurd (omega arith))

-- the element that begins where the view's does
place_is : (first size at : ℕ) → first ≤ at → first + (at - first) / size * size ≡ at - (at - first) % size
place_is first size at h = let parts = div-add-mod' (at - first) size in omega arith

pub in_structs : (program : Program) (view : View) (s first : ℕ) (ty : Ty) (count size : ℕ) → size ≡ length (struct_cells program.structs s) → first ≤ view.first → (view.first - first) / size < count →
    IsWhole program view (view.first - (view.first - first) % size) ty 1 ⊎ IsInFields program view s (view.first - (view.first - first) % size) → IsInStructs program view s first ty count
in_structs program view s first ty count size e behind among inside =
    let place : view.first - (view.first - first) % size ≡ first + (view.first - first) / size * length (struct_cells program.structs s) = sym (place_is first size view.first behind) ∙ ap (λ n. first + (view.first - first) / size * n) e in
    record { element = (view.first - first) / size; among = among; inside = subst (λ n. IsWhole program view n ty 1 ⊎ IsInFields program view s n) place inside }

in_fields_by : (program : Program) (view : View) (s at : ℕ) (ty : Ty) (whole fields : Bool) → whole ≡ false → (IsTrue whole ↔ IsWhole program view at ty 1) → (IsTrue fields ↔ IsInFields program view s at) → IsWhole program view at ty 1 ⊎ IsInFields program view s at → IsTrue fields
in_fields_by program view s at ty whole fields fails w i (inl h) = let holds : whole ≡ true = w.1 h in absurd (not_both holds fails)
in_fields_by program view s at ty whole fields fails w i (inr h) = i.1 h

pub in_fields : (program : Program) (view : View) (s first : ℕ) (ty : Ty) (count size : ℕ) (whole fields : Bool) → AreLaid program.structs → 1 ≤ size → size ≡ length (struct_cells program.structs s) → first ≤ view.first → (view.first - first) / size < count → whole ≡ false →
    (IsTrue whole ↔ IsWhole program view (view.first - (view.first - first) % size) ty 1) → (IsTrue fields ↔ IsInFields program view s (view.first - (view.first - first) % size)) → IsTrue fields ↔ IsInStructs program view s first ty count
in_fields program view s first ty count size whole fields laid some e behind among fails w i = (there, back)
  where
    there : IsTrue fields → IsInStructs program view s first ty count
    there h = in_structs program view s first ty count size e behind among (inr (i.0 h))

    back : IsInStructs program view s first ty count → IsTrue fields
    back r =
        let k = element_is program view s first ty count size laid some e r in
        let place : first + r.element * length (struct_cells program.structs s) ≡ view.first - (view.first - first) % size = ap (λ n. first + r.element * n) (sym e) ∙ k.begins in
        in_fields_by program view s (view.first - (view.first - first) % size) ty whole fields fails w i (subst (λ n. IsWhole program view n ty 1 ⊎ IsInFields program view s n) place r.inside)

-- ---- what the walk needs on its way

pub has_cells_struct : (structs : List StructDef) (ty : Ty) (s : ℕ) → HasCells structs ty → struct_of ty ≡ Some s → 1 ≤ length (struct_cells structs s)
has_cells_struct structs ty s h is = let some = h.some in let same = ap length (struct_leaves (struct_cells structs) Alone ty s is) in omega arith

pub has_cells_field : (structs : List StructDef) (s inside f r : ℕ) (x : Field) → AreLaid structs → IsInField structs s inside x f r → HasCells structs x.ty
has_cells_field structs s inside f r x laid at =
    let full = positive x.count (length (leaves (leaves_below structs s) Alone x.ty)) 0 (laid.filled s f x at.names) in
    let same = ap length (cells_known structs s f x Alone laid at.names) in
    record { some = omega arith }

rank_by : (s : ℕ) (o : Option ℕ) → ((m : ℕ) → o ≡ Some m → m < s) → rank o ≤ s
rank_by s None h = omega arith
rank_by s (Some m) h = let below = h m refl in omega arith

pub rank_field : (structs : List StructDef) (s inside f r : ℕ) (x : Field) → AreLaid structs → IsInField structs s inside x f r → rank (struct_of x.ty) ≤ s
rank_field structs s inside f r x laid at = rank_by s (struct_of x.ty) (λ m is. laid.lower s f m x at.names is)
