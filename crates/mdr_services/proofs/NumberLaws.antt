-- Numbers that no service has.
use Rattle.std.proofs.Common.{◌≡◌, ◌<◌, ℕ, zero, suc, Option, None, refl, arith}
use Rattle.mdr_core.specs.Services.{Service, service_numbered}

-- past 7, and none of the later ones
pub no_service : (n : ℕ) → 7 < n → (n ≡ 8 → ⊥) → (n ≡ 9 → ⊥) → (n ≡ 10 → ⊥) → (n ≡ 11 → ⊥) → (n ≡ 12 → ⊥) → (n ≡ 13 → ⊥) → (n ≡ 14 → ⊥) → ◌≡◌ {A = Option Service} None (service_numbered n)
no_service zero few a b c d e f g = refl
no_service (suc zero) few a b c d e f g = absurd (omega arith)
no_service (suc (suc zero)) few a b c d e f g = absurd (omega arith)
no_service (suc (suc (suc zero))) few a b c d e f g = absurd (omega arith)
no_service (suc (suc (suc (suc zero)))) few a b c d e f g = absurd (omega arith)
no_service (suc (suc (suc (suc (suc zero))))) few a b c d e f g = absurd (omega arith)
no_service (suc (suc (suc (suc (suc (suc zero)))))) few a b c d e f g = absurd (omega arith)
no_service (suc (suc (suc (suc (suc (suc (suc zero))))))) few a b c d e f g = absurd (omega arith)
no_service (suc (suc (suc (suc (suc (suc (suc (suc zero)))))))) few a b c d e f g = absurd (a refl)
no_service (suc (suc (suc (suc (suc (suc (suc (suc (suc zero))))))))) few a b c d e f g = absurd (b refl)
no_service (suc (suc (suc (suc (suc (suc (suc (suc (suc (suc zero)))))))))) few a b c d e f g = absurd (c refl)
no_service (suc (suc (suc (suc (suc (suc (suc (suc (suc (suc (suc zero))))))))))) few a b c d e f g = absurd (d refl)
no_service (suc (suc (suc (suc (suc (suc (suc (suc (suc (suc (suc (suc zero)))))))))))) few a b c d e f g = absurd (e refl)
no_service (suc (suc (suc (suc (suc (suc (suc (suc (suc (suc (suc (suc (suc zero))))))))))))) few a b c d e f g = absurd (f refl)
no_service (suc (suc (suc (suc (suc (suc (suc (suc (suc (suc (suc (suc (suc (suc zero)))))))))))))) few a b c d e f g = absurd (g refl)
no_service (suc (suc (suc (suc (suc (suc (suc (suc (suc (suc (suc (suc (suc (suc (suc n))))))))))))))) few a b c d e f g = refl
