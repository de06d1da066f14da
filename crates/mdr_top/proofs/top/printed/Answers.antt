use Rattle.std.proofs.Common.{inl, map, ap, refl}
use Rattle.std.specs.Prelude.{string_bytes}
use Rattle.mdr_top.proofs.DoneLaws.{does_all, does_cut, does_wanting}
use Rattle.mdr_top.proofs.top.printed.Goals as goal

pub returns-then-written-clause-does : goal.returns-then-written-clause-does
returns-then-written-clause-does g c = does_all _ _ _ _ _ _ _ (ap (λ ws. map string_bytes ws) c.as_slice.ensures.value) c.as_slice-in-Ok.ensures.value c.in-Ok.ensures.done c.if-written.ensures

pub returns-in-Ok-clause-does : goal.returns-in-Ok-clause-does
returns-in-Ok-clause-does g c = does_cut _ _ _ _ _ _ _ (ap (λ ws. map string_bytes ws) c.as_slice.ensures.value) c.as_slice-in-Ok.ensures.value c.in-Ok.ensures.done c.if-written.ensures

pub returns-clause-does : goal.returns-clause-does
returns-clause-does g c = does_wanting _ _ _ _ _ c.from.ensures (ap (λ ws. map string_bytes ws) c.as_slice.ensures.value) c.in-Err.ensures.part refl

pub returns-in-Ok-clause-write_cause : goal.returns-in-Ok-clause-write_cause
returns-in-Ok-clause-write_cause g c = λ is. inl c.if-written.ensures.rose
