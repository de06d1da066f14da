-- Zeros of objects, part by part.
use Rattle.std.proofs.Common.{ℕ, zero, suc, ◌≡◌, ◌+◌, ◌<◌, ◌≤◌, refl, List, ◌++◌, drop, length, get_or, ap, append_assoc, append-nil}
use Rattle.std.proofs.Math.Path.{sym, ◌∙◌}
use Rattle.std.proofs.lemmas.List.{map-append}
use Rattle.mdr_core.specs.declared.types.Ty.{Ty, out-Ty}
use Rattle.mdr_core.specs.declared.types.Ty.TheOpen.{Ty-F}
use Rattle.mdr_core.specs.declared.types.Ty.TheVariants as type
use Rattle.mdr_core.specs.declared.types.Ty.TheVariants.{outs-Struct}
use Rattle.mdr_core.specs.declared.program.Field.{Field}
use Rattle.mdr_core.specs.declared.program.StructDef.{StructDef}
use Rattle.mdr_core.specs.declared.value.Value.{Value}
use Rattle.mdr_core.specs.Layout.{Leaf, Home, Alone, Within, zero_value, leaves, leaves_by, leaves_below, field_leaves, struct_cells, repeated}
use Rattle.mdr_core.proofs.Lying.{fields_more, fields_over, is_below, not_below}
use Rattle.mdr_program.specs.Values.{zeros}

-- what stands around cells doesn't count
zeros_at_home : (known : ℕ → List Leaf) (g h : Home) (ty : Ty) (t : Ty-F Ty) → zeros (leaves_by known g ty t) ≡ zeros (leaves_by known h ty t)
zeros_at_home known g h ty (Ty-F.Int k) = refl
zeros_at_home known g h ty Ty-F.Lock = refl
zeros_at_home known g h ty (Ty-F.Struct s) = refl
zeros_at_home known g h ty (Ty-F.Ptr t) = refl
zeros_at_home known g h ty Ty-F.VoidPtr = refl
zeros_at_home known g h ty (Ty-F.Fun ts) = refl
zeros_at_home known g h ty Ty-F.Void = refl

pub zeros_alike : (known : ℕ → List Leaf) (g h : Home) (ty : Ty) → zeros (leaves known g ty) ≡ zeros (leaves known h ty)
unfolding leaves
zeros_alike known g h ty = zeros_at_home known g h ty (out-Ty ty)

-- of so many elements alike
pub zeros_repeated : (n : ℕ) (xs ys : List Leaf) → zeros xs ≡ zeros ys → zeros (repeated n xs) ≡ zeros (repeated n ys)
unfolding repeated
zeros_repeated zero xs ys same = refl
zeros_repeated (suc n) xs ys same =
    map-append (λ (l : Leaf). zero_value l.type) xs (repeated n xs)
    ∙ ap (λ (vs : List Value). vs ++ zeros (repeated n xs)) same
    ∙ ap (λ (vs : List Value). zeros ys ++ vs) (zeros_repeated n xs ys same)
    ∙ sym (map-append (λ (l : Leaf). zero_value l.type) ys (repeated n ys))

-- one element less is left
pub one_less : (cells : List Leaf) (left rest : ℕ) (all more w : List Value) → left ≡ suc rest → more ≡ all ++ zeros cells → all ++ zeros (repeated left cells) ≡ w → more ++ zeros (repeated rest cells) ≡ w
unfolding repeated
one_less cells left rest all more w is grown so_far =
    ap (λ (vs : List Value). vs ++ zeros (repeated rest cells)) grown
    ∙ append_assoc all (zeros cells) (zeros (repeated rest cells))
    ∙ ap (λ (vs : List Value). all ++ vs) (sym (map-append (λ (l : Leaf). zero_value l.type) cells (repeated rest cells)))
    ∙ ap (λ n. all ++ zeros (repeated n cells)) (sym is)
    ∙ so_far

pub none_left : (cells : List Leaf) (left : ℕ) (all w : List Value) → left ≡ 0 → all ++ zeros (repeated left cells) ≡ w → all ≡ w
unfolding repeated
none_left cells left all w is so_far = sym (append-nil all) ∙ ap (λ n. all ++ zeros (repeated n cells)) (sym is) ∙ so_far

-- one field more
pub one_field : (known : ℕ → List Leaf) (s : ℕ) (xs ys : List Field) (i : ℕ) (x : Field) (all more w : List Value) → ys ≡ xs → i < length ys → x ≡ get_or ys i x
    → more ≡ all ++ zeros (repeated x.count (leaves known Alone x.ty)) → all ++ zeros (field_leaves known s i (drop i xs)) ≡ w → more ++ zeros (field_leaves known s (i + 1) (drop (i + 1) xs)) ≡ w
one_field known s xs ys i x all more w same inside is grown so_far =
    let own = leaves known (Within s i) x.ty in
    let rest = field_leaves known s (i + 1) (drop (i + 1) xs) in
    ap (λ (vs : List Value). vs ++ zeros rest) (grown ∙ ap (λ (vs : List Value). all ++ vs) (zeros_repeated x.count (leaves known Alone x.ty) own (zeros_alike known Alone (Within s i) x.ty)))
    ∙ append_assoc all (zeros (repeated x.count own)) (zeros rest)
    ∙ ap (λ (vs : List Value). all ++ vs) (sym (map-append (λ (l : Leaf). zero_value l.type) (repeated x.count own) rest))
    ∙ ap (λ (ls : List Leaf). all ++ zeros ls) (sym (fields_more known s xs i x (rw (← same) inside) (rw (← same) is)))
    ∙ so_far

pub no_field : (known : ℕ → List Leaf) (s : ℕ) (xs ys : List Field) (i : ℕ) (all w : List Value) → ys ≡ xs → length ys ≤ i → all ++ zeros (field_leaves known s i (drop i xs)) ≡ w → all ≡ w
no_field known s xs ys i all w same past so_far = sym (append-nil all) ∙ ap (λ (ls : List Leaf). all ++ zeros ls) (sym (fields_over known s xs i (rw (← same) past))) ∙ so_far

-- a struct among those whose cells are known
pub known_zeros : (structs : List StructDef) (n s : ℕ) (ty : Ty) (all more : List Value) → s < n → ty ≡ type.Struct s → more ≡ all ++ zeros (struct_cells structs s) → more ≡ all ++ zeros (leaves (leaves_below structs n) Alone ty)
unfolding leaves
known_zeros structs n s ty all more below is grown = rw (is, outs-Struct s) (grown ∙ ap (λ (ls : List Leaf). all ++ zeros ls) (sym (is_below structs n s below)))

pub unknown_zeros : (structs : List StructDef) (n s : ℕ) (ty : Ty) (all : List Value) → n ≤ s → ty ≡ type.Struct s → all ≡ all ++ zeros (leaves (leaves_below structs n) Alone ty)
unfolding leaves
unknown_zeros structs n s ty all above is = rw (is, outs-Struct s) (sym (append-nil all) ∙ ap (λ (ls : List Leaf). all ++ zeros ls) (sym (not_below structs n s above)))
