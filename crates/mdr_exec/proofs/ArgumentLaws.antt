-- Lists of values, one after the other.
use Rattle.std.proofs.Common.{◌≡◌, ℕ, ◌+◌, ◌<◌, ◌≤◌, List, [], ◌∷◌, ◌++◌, length, get_or, drop, map, Result, Ok, Err, refl, ap, sym, ◌∙◌}
use Rattle.std.proofs.lemmas.List.{append_assoc, append-nil, at_drop_all, at_drop_more}
use Rattle.mdr_core.specs.declared.code.Expr.{Expr}
use Rattle.mdr_core.specs.declared.stop.StopKind.{StopKind}
use Rattle.mdr_core.specs.declared.value.Value.{Value}
use Rattle.mdr_core.specs.Folds.{term_of}
use Rattle.mdr_meaning.specs.declared.wire.Wire.{Wire}
use Rattle.mdr_meaning.specs.Numbers.{Numbered}
use Rattle.mdr_meaning.specs.Values.{wire_of}
use Rattle.mdr_meaning.specs.Walk.{Accesses}
use Rattle.mdr_events.specs.Outcomes.{wired}
use Rattle.mdr_events.specs.Values.{wires_of}
use Rattle.mdr_exec.specs.Evaluation.{after_value, value_of, values_of}
use Rattle.mdr_exec.proofs.StartLaws.{wires_more}

-- these values, and then those of the rest
abbrev pub and_then : List Wire → Result (List Wire) StopKind → Result (List Wire) StopKind
and_then done r = after_value r (λ vs. Ok (done ++ vs))

then_one : (done : List Wire) (v : Wire) (r : Result (List Wire) StopKind) → and_then done (after_value r (λ vs. Ok (v ∷ vs))) ≡ and_then (done ++ v ∷ []) r
then_one done v (Ok vs) = ap Ok (sym (append_assoc done (v ∷ []) vs))
then_one done v (Err kind) = refl

module _ {M : Type 0} (a : Accesses M) (m : M) (known : Numbered) (slots : List Wire) (es : List Expr) where
  abbrev pub rest_from : ℕ → Result (List Wire) StopKind
  rest_from i = values_of a m known slots (map term_of (drop i es))

  abbrev pub all_of : Result (List Wire) StopKind
  all_of = values_of a m known slots (map term_of es)

  one_more : (i : ℕ) (d : Expr) → i < length es → rest_from i ≡ after_value (value_of a m known slots (term_of (get_or es i d))) (λ v. after_value (rest_from (i + 1)) (λ vs. Ok (v ∷ vs)))
  unfolding values_of
  one_more i d inside = at_drop_more (λ ys. values_of a m known slots (map term_of ys)) es i d inside

  pub value_first : (i : ℕ) (e d : Expr) (x : Result Value StopKind) (v : Value) (done done' : List Value) → i < length es → e ≡ get_or es i d
      → wired x ≡ value_of a m known slots (term_of e) → x ≡ Ok v → done' ≡ done ++ v ∷ []
      → and_then (wires_of done) (rest_from i) ≡ all_of → and_then (wires_of done') (rest_from (i + 1)) ≡ all_of
  value_first i e d x v done done' inside is got ok more so_far =
      let here : value_of a m known slots (term_of (get_or es i d)) ≡ Ok (wire_of v) = ap (λ y. value_of a m known slots (term_of y)) (sym is) ∙ sym got ∙ ap wired ok in
      ap (λ ws. and_then ws (rest_from (i + 1))) (wires_more done done' v (wire_of v) more refl)
      ∙ sym (then_one (wires_of done) (wire_of v) (rest_from (i + 1)))
      ∙ sym (ap (and_then (wires_of done)) (one_more i d inside ∙ ap (λ y. after_value y (λ w. after_value (rest_from (i + 1)) (λ vs. Ok (w ∷ vs)))) here))
      ∙ so_far

  pub value_stops_here : (i : ℕ) (e d : Expr) (x : Result Value StopKind) (kind : StopKind) (done : List Value) → i < length es → e ≡ get_or es i d
      → wired x ≡ value_of a m known slots (term_of e) → x ≡ Err kind → and_then (wires_of done) (rest_from i) ≡ all_of → ◌≡◌ {A = Result (List Wire) StopKind} (Err kind) all_of
  value_stops_here i e d x kind done inside is got err so_far =
      let here : value_of a m known slots (term_of (get_or es i d)) ≡ Err kind = ap (λ y. value_of a m known slots (term_of y)) (sym is) ∙ sym got ∙ ap wired err in
      sym (ap (and_then (wires_of done)) (one_more i d inside ∙ ap (λ y. after_value y (λ w. after_value (rest_from (i + 1)) (λ vs. Ok (w ∷ vs)))) here)) ∙ so_far

  pub values_end : (i : ℕ) (done : List Value) → length es ≤ i → and_then (wires_of done) (rest_from i) ≡ all_of → ◌≡◌ {A = Result (List Wire) StopKind} (Ok (wires_of done)) all_of
  unfolding values_of
  values_end i done past so_far =
      sym (ap Ok (append-nil (wires_of done))) ∙ sym (ap (and_then (wires_of done)) (at_drop_all (λ ys. values_of a m known slots (map term_of ys)) es i past)) ∙ so_far

  pub values_begin : and_then [] (rest_from 0) ≡ all_of
  values_begin = same all_of where
    same : (r : Result (List Wire) StopKind) → and_then [] r ≡ r
    same (Ok vs) = refl
    same (Err kind) = refl
