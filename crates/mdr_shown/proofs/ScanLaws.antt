-- Scans, one object at a time.
use Rattle.std.proofs.Common.{◌≡◌, ℕ, suc, ◌+◌, ◌-◌, ◌<◌, ◌≤◌, List, slice_get, ap, ◌∙◌, arith}
use Rattle.mdr_model.specs.Memory.{Memory}
use Rattle.mdr_plain.specs.Outcome.{cells_shown, met_in, scanned}

pub scan_step : (m : Memory) (n i : ℕ) (met : List ℕ) → i < n → scanned m (n - i) i met ≡ scanned m (n - (i + 1)) (i + 1) (met_in met (cells_shown m (slice_get met i)))
scan_step m n i met less =
    ap (λ k. scanned m k i met) (let e : n - i ≡ suc (n - (i + 1)) = omega (arith, less) in e)
    ∙ ap (λ k. scanned m (n - (i + 1)) k (met_in met (cells_shown m (slice_get met i)))) (let e : suc i ≡ i + 1 = omega arith in e)

-- none is left at the end
pub scan_end : (m : Memory) (n i : ℕ) (met : List ℕ) → n ≤ i → scanned m (n - i) i met ≡ met
scan_end m n i met all = ap (λ k. scanned m k i met) (let e : n - i ≡ 0 = omega (arith, all) in e)
