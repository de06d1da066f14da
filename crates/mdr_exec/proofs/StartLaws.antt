-- The slots of a function are filled one after the other.
use Rattle.std.proofs.Common.{◌≡◌, ℕ, zero, suc, ◌+◌, ◌<◌, ◌≤◌, Bool, List, [], ◌∷◌, ◌++◌, drop, length, get_or, option_map, slice_get, refl, ap, sym, subst, ◌∙◌}
use Rattle.std.proofs.lemmas.List.{at_drop_all, at_drop_more}
use Rattle.mdr_core.specs.declared.types.Ty.{Ty}
use Rattle.mdr_core.specs.declared.value.Value.{Value}
use Rattle.mdr_core.specs.Typing.{Slot}
use Rattle.mdr_meaning.specs.declared.wire.Wire.{Wire}
use Rattle.mdr_meaning.specs.Sides.{framed}
use Rattle.mdr_meaning.specs.Values.{wire_of}
use Rattle.mdr_events.specs.Values.{wires_of}
use Rattle.mdr_exec.specs.Starting.{slot_start, IsFilled}

framed_step : (s : Slot) (rest : List Slot) (n : ℕ) (args : List Wire)
    → framed (s ∷ rest) (drop n args) ≡ slot_start s.ty s.object (slice_get args n) ∷ framed rest (drop (suc n) args)
framed_step s rest zero [] = refl
framed_step s rest zero (v ∷ args) = refl
framed_step s rest (suc n) [] = refl
framed_step s rest (suc n) (v ∷ args) = framed_step s rest n args

longer : (done : List Wire) (v : Wire) → length (done ++ v ∷ []) ≡ suc (length done)
longer [] v = refl
longer (x ∷ done) v = ap suc (longer done v)

appended : (done : List Wire) (v : Wire) (rest : List Wire) → (done ++ v ∷ []) ++ rest ≡ done ++ v ∷ rest
appended [] v rest = refl
appended (x ∷ done) v rest = ap (λ xs. x ∷ xs) (appended done v rest)

pub fills_one : (done done' : List Wire) (s : Slot) (rest whole : List Slot) (args : List Wire)
    → done' ≡ done ++ slot_start s.ty s.object (slice_get args (length done)) ∷ [] → IsFilled done (s ∷ rest) whole args → IsFilled done' rest whole args
fills_one done done' s rest whole args is h =
    let v : Wire = slot_start s.ty s.object (slice_get args (length done)) in
    record {
      by = ap (λ xs. xs ++ framed rest (drop (length xs) args)) is
          ∙ ap (λ n. (done ++ v ∷ []) ++ framed rest (drop n args)) (longer done v)
          ∙ appended done v (framed rest (drop (suc (length done)) args))
          ∙ ap (λ xs. done ++ xs) (sym (framed_step s rest (length done) args))
          ∙ h.by;
    }

-- a value more
pub wires_more : (old new : List Value) (v : Value) (w : Wire) → new ≡ old ++ v ∷ [] → wire_of v ≡ w → wires_of new ≡ wires_of old ++ w ∷ []
wires_more old new v w is same = ap wires_of is ∙ by_list old where
  by_list : (xs : List Value) → wires_of (xs ++ v ∷ []) ≡ wires_of xs ++ w ∷ []
  by_list [] = ap (λ x. x ∷ []) same
  by_list (x ∷ xs) = ap (λ ys. wire_of x ∷ ys) (by_list xs)

-- an argument, as a wire
pub argument_is : (args : List Value) (i : ℕ) → slice_get (wires_of args) i ≡ option_map wire_of (slice_get args i)
argument_is [] i = refl
argument_is (v ∷ args) zero = refl
argument_is (v ∷ args) (suc i) = argument_is args i

same_length : (vs : List Value) → length (wires_of vs) ≡ length vs
same_length [] = refl
same_length (v ∷ vs) = ap suc (same_length vs)

pub slot_added : (old new : List Value) (v : Value) (ty : Ty) (object : Bool) (args : List Value) (i : ℕ) → new ≡ old ++ v ∷ []
    → wire_of v ≡ slot_start ty object (option_map wire_of (slice_get args i)) → i ≡ length old
    → wires_of new ≡ wires_of old ++ slot_start ty object (slice_get (wires_of args) (length (wires_of old))) ∷ []
slot_added old new v ty object args i is value at =
    wires_more old new v _ is
    (value ∙ ap (λ j. slot_start ty object (option_map wire_of (slice_get args j))) at ∙ ap (slot_start ty object) (sym (argument_is args (length old)))
    ∙ ap (λ j. slot_start ty object (slice_get (wires_of args) j)) (sym (same_length old)))

-- one slot in a loop over what declares them
pub one_slot : {X : Type 0} (slot : X → Slot) (f : List X → List Slot) → ((y : X) (ys : List X) → f (y ∷ ys) ≡ slot y ∷ f ys)
    → (xs : List X) (i : ℕ) (x : X) (done done' : List Wire) (args : List Wire) → i < length xs → x ≡ get_or xs i x
    → done' ≡ done ++ slot_start (slot x).ty (slot x).object (slice_get args (length done)) ∷ []
    → (whole : List Slot) → IsFilled done (f (drop i xs)) whole args → IsFilled done' (f (drop (i + 1) xs)) whole args
one_slot slot f step xs i x done done' args inside is grown whole h =
    let moved : f (drop i xs) ≡ slot x ∷ f (drop (i + 1) xs) =
    at_drop_more f xs i x inside ∙ step (get_or xs i x) (drop (i + 1) xs) ∙ ap (λ y. slot y ∷ f (drop (i + 1) xs)) (sym is) in
    fills_one done done' (slot x) (f (drop (i + 1) xs)) whole args grown (subst (λ ys. IsFilled done ys whole args) moved h)

-- the end of such a loop
pub slots_done : {X : Type 0} (f : List X → List Slot) (xs : List X) (i : ℕ) (done args : List Wire) (whole : List Slot) → length xs ≤ i → IsFilled done (f (drop i xs)) whole args → IsFilled done (f []) whole args
slots_done f xs i done args whole all h = subst (λ ys. IsFilled done ys whole args) (at_drop_all f xs i all) h

pub all_filled : (done args : List Wire) (whole : List Slot) → IsFilled done [] whole args → done ≡ framed whole args
all_filled done args whole h = sym (append_nil done) ∙ h.by where
  append_nil : (xs : List Wire) → xs ++ [] ≡ xs
  append_nil [] = refl
  append_nil (x ∷ xs) = ap (λ ys. x ∷ ys) (append_nil xs)
