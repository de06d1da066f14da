-- Cells with their first values.
use Rattle.std.proofs.Common.{◌≡◌, ℕ, zero, suc, ◌+◌, List, [], ◌∷◌, ◌++◌, length, map, Some, slice_get, refl, sym, ap, ◌∙◌, subst, append-nil, append_assoc, arith}
use Rattle.std.proofs.lemmas.List.{map-append}
use Rattle.mdr_core.specs.declared.program.Program.{Program}
use Rattle.mdr_core.specs.declared.types.Ty.{Ty}
use Rattle.mdr_core.specs.declared.value.Value.{Value}
use Rattle.mdr_core.specs.Layout.{Leaf, repeated}
use Rattle.mdr_core.specs.Sound.{IsFirstValue}

-- cells of these types may begin with these values, one by one
pub data Fills (program : Program) (g : ℕ) : List Ty → List Value → Type 0 where
  Done : Fills program g [] []
  Then : (t : Ty) (v : Value) (ts : List Ty) (vs : List Value) → IsFirstValue program g t v → Fills program g ts vs → Fills program g (t ∷ ts) (v ∷ vs)

abbrev pub types_of : List Leaf → List Ty
types_of cells = map (λ l. l.type) cells

pub fills_append : (program : Program) (g : ℕ) (ts us : List Ty) (vs ws : List Value) → Fills program g ts vs → Fills program g us ws → Fills program g (ts ++ us) (vs ++ ws)
fills_append program g _ us _ ws Done q = q
fills_append program g _ us _ ws (Then t v ts vs first rest) q = Then t v (ts ++ us) (vs ++ ws) first (fills_append program g ts us vs ws rest q)

pub fills_sole : (program : Program) (g : ℕ) (t : Ty) (v : Value) → IsFirstValue program g t v → Fills program g (t ∷ []) (v ∷ [])
fills_sole program g t v first = Then t v [] [] first Done

pub fills_as : (program : Program) (g : ℕ) (ts us : List Ty) (vs : List Value) → ts ≡ us → Fills program g ts vs → Fills program g us vs
fills_as program g ts us vs same p = subst (λ xs. Fills program g xs vs) same p

pub fills_values : (program : Program) (g : ℕ) (ts : List Ty) (vs ws : List Value) → vs ≡ ws → Fills program g ts vs → Fills program g ts ws
fills_values program g ts vs ws same p = subst (λ xs. Fills program g ts xs) same p

-- ---- what is filled has a value for each cell, and each is a first value

pub fills_length : (program : Program) (g : ℕ) (cells : List Leaf) (vs : List Value) → Fills program g (types_of cells) vs → length vs ≡ length cells
fills_length program g [] _ Done = refl
fills_length program g (l ∷ ls) _ (Then _ v _ vs first rest) = ap suc (fills_length program g ls vs rest)

pub fills_each : (program : Program) (g : ℕ) (cells : List Leaf) (vs : List Value) (i : ℕ) (leaf : Leaf) (v : Value) → Fills program g (types_of cells) vs → slice_get cells i ≡ Some leaf → slice_get vs i ≡ Some v → IsFirstValue program g leaf.type v
fills_each program g [] _ i leaf v Done e f = absurd cc
fills_each program g (l ∷ ls) _ zero leaf v (Then _ w _ ws first rest) e f =
    let cell : l ≡ leaf = cc in
    let value : w ≡ v = cc in
    subst (λ (x : Value). IsFirstValue program g leaf.type x) value (subst (λ (x : Leaf). IsFirstValue program g x.type w) cell first)
fills_each program g (l ∷ ls) _ (suc i) leaf v (Then _ w _ ws first rest) e f = fills_each program g ls ws i leaf v rest e f

-- ---- elements one behind the other

pub types_repeated : (n : ℕ) (xs ys : List Leaf) → types_of xs ≡ types_of ys → types_of (repeated n xs) ≡ types_of (repeated n ys)
unfolding repeated
types_repeated zero xs ys same = refl
types_repeated (suc n) xs ys same =
    map-append (λ (l : Leaf). l.type) xs (repeated n xs)
    ∙ ap (λ (ts : List Ty). ts ++ types_of (repeated n xs)) same
    ∙ ap (λ (ts : List Ty). types_of ys ++ ts) (types_repeated n xs ys same)
    ∙ sym (map-append (λ (l : Leaf). l.type) ys (repeated n ys))

pub repeated_once : (xs : List Leaf) → repeated 1 xs ≡ xs
unfolding repeated
repeated_once xs = append-nil xs

-- so many, and so many more
pub repeated_apart : (n m : ℕ) (xs : List Leaf) → repeated n xs ++ repeated m xs ≡ repeated (n + m) xs
unfolding repeated
repeated_apart zero m xs = ap (λ k. repeated k xs) (omega arith)
repeated_apart (suc n) m xs =
    let more : suc (n + m) ≡ suc n + m = omega arith in
    append_assoc xs (repeated n xs) (repeated m xs) ∙ ap (λ (ys : List Leaf). xs ++ ys) (repeated_apart n m xs) ∙ ap (λ k. repeated k xs) more

pub fills_repeated : (program : Program) (g n : ℕ) (xs : List Leaf) (vs : List Value) (rest : List Value) → Fills program g (types_of xs) vs → Fills program g (types_of (repeated n xs)) rest → Fills program g (types_of (repeated (suc n) xs)) (vs ++ rest)
unfolding repeated
fills_repeated program g n xs vs rest one others =
    fills_as program g (types_of xs ++ types_of (repeated n xs)) (types_of (xs ++ repeated n xs)) (vs ++ rest) (sym (map-append (λ (l : Leaf). l.type) xs (repeated n xs)))
    (fills_append program g (types_of xs) (types_of (repeated n xs)) vs rest one others)

pub fills_none : (program : Program) (g : ℕ) (xs : List Leaf) → Fills program g (types_of (repeated 0 xs)) []
unfolding repeated
fills_none program g xs = Done
