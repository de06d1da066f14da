-- Productions one behind the other, and what is read by them.
use Rattle.std.proofs.Common.{◌≡◌, Bool, true}
use Rattle.mdr_grammar.specs.Forms.{Right, ◌>>=◌, Rule, and_then, or_else, where_allowed}
use Rattle.mdr_grammar.specs.Forms.Rule.{never, given}
use Rattle.mdr_roundtrip.proofs.Judged.{printable, Sound, SoundRule}
use Rattle.mdr_roundtrip.proofs.Judges.{SoundRuleBy, then_by}

pub sound_then : {A B : Type 0} (r : Right A) (k : A → Right B) (p : A → Bool) (q : B → Bool) → Sound r p → ((v : A) → p v ≡ true → Sound (k v) q) → Sound (r >>= k) q
sound_then r k p q x y = then_by printable r k p q x y

pub sound_and : {A B : Type 0} (r : Rule A) (k : A → Right B) (p : A → Bool) (q : B → Bool) → SoundRule r p → ((v : A) → p v ≡ true → Sound (k v) q) → SoundRule (and_then r k) q
sound_and never k p q x y = tt
sound_and (given allowed r) k p q x y = sound_then r k p q x y

pub sound_or : {A : Type 0} (r r' : Rule A) (p : A → Bool) → SoundRule r p → SoundRule r' p → SoundRule (or_else r r') p
sound_or never r' p x y = y
sound_or (given allowed r) r' p x y = x

pub sound_where : {A : Type 0} (b : Bool) (r : Rule A) (p : A → Bool) → SoundRule r p → SoundRule (where_allowed b r) p
sound_where b never p x = tt
sound_where b (given allowed r) p x = x

pub by_rule : {A : Type 0} (r : Rule A) (p : A → Bool) → SoundRule r p → SoundRuleBy printable r p
by_rule never p x = tt
by_rule (given allowed r) p x = λ a. x
