-- Where `__remote` stands.
use Rattle.std.proofs.Common.{◌≡◌, refl, sym, subst, ◌∙◌, Bool, true, false}
use Rattle.std.specs.Prelude.{if◌then◌else◌}
use Rattle.mdr_grammar.specs.declared.sort.Sort.{Sort}
use Rattle.mdr_grammar.specs.Sorts.{is, admitted}

pub changed : (s r : Sort) (b halves : Bool) → b ≡ is s Sort.Remote → b ≡ true → r ≡ (if halves then Sort.Remote else Sort.Other) → r ≡ admitted halves s
changed s r b halves e q h = subst (λ t. r ≡ (if t then (if halves then Sort.Remote else Sort.Other) else s)) (sym q ∙ e) h

pub kept : (s : Sort) (b halves : Bool) → b ≡ is s Sort.Remote → b ≡ false → s ≡ admitted halves s
kept s b halves e q = subst (λ t. s ≡ (if t then (if halves then Sort.Remote else Sort.Other) else s)) (sym q ∙ e) refl
