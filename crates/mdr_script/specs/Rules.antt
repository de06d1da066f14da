-- believed
-- Reading a rule of a device.
use Rattle.std.specs.Prelude.{ℕ, zero, suc, Bool, if◌then◌else◌, List, [], ◌∷◌, ◌++◌, length, Option, Some, None, codes}
use Rattle.std.specs.Str.{bytes_eq}
use Rattle.mdr_device.specs.declared.rule.Trigger.{Trigger}
use Rattle.mdr_device.specs.declared.rule.Trigger.TheVariants as trigger
use Rattle.mdr_device.specs.declared.rule.Guard.{Guard}
use Rattle.mdr_device.specs.declared.rule.Effect.{Effect}
use Rattle.mdr_device.specs.declared.rule.Effect.TheVariants as effect
use Rattle.mdr_device.specs.declared.rule.Rule.{Rule}
use Rattle.mdr_script.specs.Gives.{◌>>=◌, when, Read}
use Rattle.mdr_script.specs.Words.{is_empty, piece_at}
use Rattle.mdr_script.specs.Numbers.{reg_at, value_at, count_at, ticks_at, which_at}

-- a register and a word of 32 bits
unfoldable pub reg_value : (any : Bool) → List ℕ → Read (ℕ × ℕ)
reg_value any bytes = do
  r ← reg_at any bytes
  v ← value_at any r.1
  Some ((r.0, v.0), v.1)

-- ---- triggers

unfoldable pub write_at : (any : Bool) → List ℕ → Read Trigger
write_at any bytes = do
  r ← reg_at any bytes
  Some (trigger.Write r.0, r.1)

unfoldable pub read_at : (any : Bool) → List ℕ → Read Trigger
read_at any bytes = do
  r ← reg_at any bytes
  Some (trigger.Read r.0, r.1)

unfoldable pub tick_at : (any : Bool) → List ℕ → Read Trigger
tick_at any bytes = do
  n ← which_at any bytes
  Some (trigger.Tick n.0, n.1)

unfoldable pub zero_at : (any : Bool) → List ℕ → Read Trigger
zero_at any bytes = do
  c ← count_at any bytes
  Some (trigger.Zero c.0, c.1)

unfoldable pub trigger_by : (any : Bool) → (word : List ℕ) → List ℕ → Read Trigger
trigger_by any word bytes =
    if bytes_eq word (codes "write") then write_at any bytes
    else (if bytes_eq word (codes "read") then read_at any bytes
    else (if bytes_eq word (codes "tick") then tick_at any bytes
    else (if bytes_eq word (codes "zero") then zero_at any bytes
    else None)))

abbrev pub trigger_at : (any : Bool) → List ℕ → Read Trigger
trigger_at any bytes = trigger_by any (piece_at bytes).0 (piece_at bytes).1

-- ---- guards

-- what stands behind the word `do`
unfoldable pub behind_do : List ℕ → Option (List ℕ)
behind_do bytes = when (bytes_eq (piece_at bytes).0 (codes "do")) (Some (piece_at bytes).1)

unfoldable pub some_guard : (any : Bool) → List ℕ → Read (Option Guard)
some_guard any bytes = do
  r ← reg_at any bytes
  m ← value_at any r.1
  v ← value_at any m.1
  rest ← behind_do v.1
  Some (Some (record { reg = r.0; mask = m.0; value = v.0 }), rest)

unfoldable pub no_guard : List ℕ → Read (Option Guard)
no_guard bytes = do
  rest ← behind_do bytes
  Some (None, rest)

-- `if R M V do`, or `do` alone
unfoldable pub guard_at : (any : Bool) → List ℕ → Read (Option Guard)
guard_at any bytes = if bytes_eq (piece_at bytes).0 (codes "if") then some_guard any (piece_at bytes).1 else no_guard bytes

-- ---- effects

unfoldable pub set_at : (any : Bool) → List ℕ → Read Effect
set_at any bytes = do
  p ← reg_value any bytes
  Some (effect.Set p.0.0 p.0.1, p.1)

unfoldable pub clear_at : (any : Bool) → List ℕ → Read Effect
clear_at any bytes = do
  p ← reg_value any bytes
  Some (effect.Clear p.0.0 p.0.1, p.1)

unfoldable pub put_at : (any : Bool) → List ℕ → Read Effect
put_at any bytes = do
  p ← reg_value any bytes
  Some (effect.Put p.0.0 p.0.1, p.1)

unfoldable pub copy_at : (any : Bool) → List ℕ → Read Effect
copy_at any bytes = do
  a ← reg_at any bytes
  b ← reg_at any a.1
  Some (effect.CopyTo a.0 b.0, b.1)

unfoldable pub start_at : (any : Bool) → List ℕ → Read Effect
start_at any bytes = do
  c ← count_at any bytes
  n ← ticks_at any c.1
  Some (effect.Start c.0 n.0, n.1)

-- the effects that change the line
unfoldable pub line_effect : (word : List ℕ) → List ℕ → Read Effect
line_effect word bytes =
    if bytes_eq word (codes "raise") then Some (effect.Raise, bytes)
    else (if bytes_eq word (codes "lower") then Some (effect.Lower, bytes)
    else None)

unfoldable pub effect_by : (any : Bool) → (word : List ℕ) → List ℕ → Read Effect
effect_by any word bytes =
    if bytes_eq word (codes "set") then set_at any bytes
    else (if bytes_eq word (codes "clear") then clear_at any bytes
    else (if bytes_eq word (codes "put") then put_at any bytes
    else (if bytes_eq word (codes "copy") then copy_at any bytes
    else (if bytes_eq word (codes "start") then start_at any bytes
    else line_effect word bytes))))

abbrev pub effect_at : (any : Bool) → List ℕ → Read Effect
effect_at any bytes = effect_by any (piece_at bytes).0 (piece_at bytes).1

-- behind an effect: a comma, behind which there are others, or the line's end
unfoldable pub behind_effect : List ℕ → Option (Option (List ℕ))
behind_effect bytes =
    if bytes_eq (piece_at bytes).0 (codes ",") then Some (Some (piece_at bytes).1)
    else when (is_empty (piece_at bytes).0) (Some None)

abbrev pub others_by : Option (List ℕ) → (List ℕ → Option (List Effect)) → List Effect → Option (List Effect)
others_by (Some rest) more effects = more rest
others_by None more effects = Some effects

-- at most so many effects behind these
abbrev pub effects_from : (most : ℕ) → (any : Bool) → List Effect → List ℕ → Option (List Effect)
effects_from zero any effects bytes = None
effects_from (suc n) any effects bytes = do
  e ← effect_at any bytes
  more ← behind_effect e.1
  others_by more (effects_from n any (effects ++ e.0 ∷ [])) (effects ++ e.0 ∷ [])

-- effects with commas between them, to the line's end; no line has more effects than bytes
unfoldable pub effects_at : (any : Bool) → List ℕ → Option (List Effect)
effects_at any bytes = effects_from (length bytes) any [] bytes

-- `TRIGGER [if R M V] do EFFECT {, EFFECT}`
unfoldable pub rule_at : (any : Bool) → List ℕ → Option Rule
rule_at any bytes = do
  t ← trigger_at any bytes
  g ← guard_at any t.1
  es ← effects_at any g.1
  Some (record { trigger = t.0; guard = g.0; effects = es })
