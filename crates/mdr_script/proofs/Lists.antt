-- Effects and arguments that are read one after the other.
use Rattle.std.proofs.Common.{◌≡◌, ℕ, zero, suc, Bool, false, cond, ◌-◌, ◌<◌, List, [], ◌∷◌, ◌++◌, Option, Some, refl, sym, ap, ◌∙◌, arith}
use Rattle.mdr_device.specs.declared.rule.Effect.{Effect}
use Rattle.mdr_script.specs.declared.line.ArgText.{ArgText}
use Rattle.mdr_script.specs.Gives.{◌>>=◌, Read}
use Rattle.mdr_script.specs.Words.{word_at, is_empty}
use Rattle.mdr_script.specs.Rules.{effect_at, behind_effect, others_by, effects_from}
use Rattle.mdr_script.specs.Lines.{arg_of, args_from}

abbrev from_more : (n : ℕ) → (any : Bool) → List Effect → Option (Option (List ℕ)) → Option (List Effect)
from_more n any es b = b >>= (λ more. others_by more (effects_from n any es) es)

abbrev from_effect : (n : ℕ) → (any : Bool) → List Effect → Read Effect → Option (List Effect)
from_effect n any es o = o >>= (λ e. from_more n any (es ++ e.0 ∷ []) (behind_effect e.1))

pub effects_step : (any : Bool) (most : ℕ) (es pushed : List Effect) (rest behind more : List ℕ) (e : Effect) (whole : Option (List Effect))
    → 0 < most → effect_at any rest ≡ Some (e, behind) → behind_effect behind ≡ Some (Some more) → pushed ≡ es ++ e ∷ []
    → effects_from most any es rest ≡ whole → effects_from (most - 1) any pushed more ≡ whole
effects_step any zero es pushed rest behind more e whole some read comma push so_far = absurd (omega arith)
effects_step any (suc n) es pushed rest behind more e whole some read comma push so_far =
    let less : suc n - 1 ≡ n = omega arith in
    rw (less, push) (sym (ap (from_effect n any es) read ∙ ap (from_more n any (es ++ e ∷ [])) comma) ∙ so_far)

abbrev from_arg : (n : ℕ) → (any : Bool) → List ArgText → List ℕ → Option ArgText → Option (List ArgText)
from_arg n any args rest o = o >>= (λ a. args_from n any (args ++ a ∷ []) rest)

pub args_step : (any : Bool) (most : ℕ) (args pushed : List ArgText) (rest word behind : List ℕ) (a : ArgText) (whole : Option (List ArgText))
    → (most ≡ 0 → ⊥) → (word, behind) ≡ word_at rest → is_empty word ≡ false → arg_of any word ≡ Some a → pushed ≡ args ++ a ∷ []
    → args_from (suc most) any args rest ≡ whole → args_from (suc (most - 1)) any pushed behind ≡ whole
args_step any zero args pushed rest word behind a whole some split word_some read push so_far = absurd (some refl)
args_step any (suc n) args pushed rest word behind a whole some split word_some read push so_far =
    let less : suc n - 1 ≡ n = omega arith in
    let front : word ≡ (word_at rest).0 = ap (λ p. p.0) split in
    let back : behind ≡ (word_at rest).1 = ap (λ p. p.1) split in
    rw (less, push, back) (sym (ap (λ w. cond (is_empty w) (Some args) (from_arg (suc n) any args (word_at rest).1 (arg_of any w))) (sym front)
    ∙ ap (λ t. cond t (Some args) (from_arg (suc n) any args (word_at rest).1 (arg_of any word))) word_some
    ∙ ap (from_arg (suc n) any args (word_at rest).1) read) ∙ so_far)
