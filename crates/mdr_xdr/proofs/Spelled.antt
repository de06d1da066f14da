-- What a reader gives is spelled at the cursor, and what is spelled there is given.
use Rattle.std.proofs.Common.{◌≡◌, ℕ, List, ◌++◌, drop, Result, Ok, Err, sym, ap, ◌∙◌}
use Rattle.std.specs.Prelude.{IfOk, IsOkAnd}
use Rattle.mdr_model.specs.declared.message.Fault.{Fault}
use Rattle.mdr_model.specs.Xdr.{Input, Read}
use Rattle.mdr_xdr.specs.declared.cursor.XdrError.{XdrError}
use Rattle.mdr_xdr.specs.Reads.{input_at, fault_of, Gives}
use Rattle.mdr_xdr.specs.Bytes.{IsBytes}
use Rattle.mdr_xdr.proofs.Readers.{IsBytes-drop, value_is, from, IsReader}

pub is_found : {X A : Type 0} {reader : Input → Read A} {text : A → List ℕ} {Fits : A → Type 0} → IsReader reader text Fits → (view : X → A) (bytes : List ℕ) (before after : ℕ) (r : Result X XdrError)
    → IsBytes bytes → Gives view bytes before after r reader → IfOk r (λ x. drop before bytes ≡ text (view x) ++ drop after bytes)
is_found reads view bytes before after (Ok x) fits given = (reads.takes (input_at bytes before) (input_at bytes after) (view x) (IsBytes-drop before bytes fits) given).0.parts
is_found reads view bytes before after (Err e) fits given = tt

apart : {B : Type 0} (x : B) (f : Fault) → ◌≡◌ {A = Result B Fault} (Err f) (Ok x) → ⊥
apart x f e = absurd cc

pub is_only : {X A : Type 0} {reader : Input → Read A} {text : A → List ℕ} {Fits : A → Type 0} → IsReader reader text Fits → (view : X → A) (bytes : List ℕ) (before after : ℕ) (r : Result X XdrError)
    → Gives view bytes before after r reader → (y : A) (rest : List ℕ) → Fits y → drop before bytes ≡ text y ++ rest → IsOkAnd r (λ x. view x ≡ y)
is_only {X} {A} {reader} {text} {Fits} reads view bytes before after (Ok x) given y rest fits is =
    value_is (view x) y _ _ (sym given ∙ ap (λ (t : List ℕ). reader (from before t)) is ∙ reads.again y before rest fits)
is_only {X} {A} {reader} {text} {Fits} reads view bytes before after (Err e) given y rest fits is =
    absurd (apart _ (fault_of e) (sym given.0 ∙ ap (λ (t : List ℕ). reader (from before t)) is ∙ reads.again y before rest fits))
