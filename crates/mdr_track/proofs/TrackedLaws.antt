-- What the maps' own clauses say of the pairs, where one is put in and where one is taken out.
use Rattle.std.proofs.Common.{◌≡◌, ◌≤◌, ◌+◌, ◌-◌, ℕ, cond, List, Option, Some, None, Result, Ok, Err, nat_eq, sym, ap, subst, arith}
use Rattle.std.specs.Prelude.{IsOk, OnOk}
use Rattle.std.specs.Map.{lookup}
use Rattle.std.proofs.lemmas.Bool.{false≢true}
use Rattle.indexmap.specs.IndexMap.{IndexMap, spare}
use Rattle.mdr_core.specs.declared.value.Block.{Block}
use Rattle.mdr_track.specs.declared.key.BlockKey.{BlockKey}
use Rattle.mdr_track.specs.Pairs.{AreMatched, Pairs, dropped, paired, unpaired, unpaired_at}
use Rattle.mdr_track.specs.Tracked.{IsKept, found_in, is_key, key_of}
use Rattle.mdr_track.proofs.PairLaws.{matched-dropped, matched-paired}

pub ok_gives : {X E P : Type 0} (r : Result X E) → IsOk r → OnOk r P → P
ok_gives (Ok x) h p = p
ok_gives (Err e) h p = absurd (false≢true h)

-- a map's look-ups, with another value at one key
abbrev pub Serials : List (ℕ × Block) → List (ℕ × Block) → ℕ → Option Block → Type 0
Serials old new s o = (t : ℕ) → lookup (nat_eq t) new ≡ cond (nat_eq s t) o (lookup (nat_eq t) old)

abbrev pub Blocks : List (BlockKey × ℕ) → List (BlockKey × ℕ) → BlockKey → Option ℕ → Type 0
Blocks old new k o = (q : BlockKey) → lookup (is_key q) new ≡ cond (is_key k q) o (lookup (is_key q) old)

at_key : (fs gs : List (BlockKey × ℕ)) (k : BlockKey) (b : Block) (o : Option ℕ) → k ≡ key_of b → Blocks fs gs k o → Blocks fs gs (key_of b) o
at_key fs gs k b o e v = subst (λ x. Blocks fs gs x o) e v

pub added : (es ds : List (ℕ × Block)) (fs gs : List (BlockKey × ℕ)) (s : ℕ) (b : Block) (k : BlockKey) → k ≡ key_of b → Serials es ds s (Some b) → Blocks fs gs k (Some s) → found_in ds gs ≡ paired s b (found_in es fs)
added es ds fs gs s b k e u v = λ i. record { user_of = λ t. u t i; serial_of = λ c. at_key fs gs k b (Some s) e v (key_of c) i }

pub taken : (es ds : List (ℕ × Block)) (fs gs : List (BlockKey × ℕ)) (s : ℕ) (b : Block) (k : BlockKey) → k ≡ key_of b → Serials es ds s None → Blocks fs gs k None → found_in ds gs ≡ dropped s b (found_in es fs)
taken es ds fs gs s b k e u v = λ i. record { user_of = λ t. u t i; serial_of = λ c. at_key fs gs k b None e v (key_of c) i }

pub of_serial : (ps : Pairs) (s : ℕ) (b : Block) → ps.user_of s ≡ Some b → dropped s b ps ≡ unpaired s ps
of_serial ps s b e = ap (λ o. unpaired_at o s ps) (sym e)

-- ---- the invariant

module _ {S T : Type 0} (m new : IndexMap ℕ Block S) (n last : IndexMap BlockKey ℕ T) (room s : ℕ) (b : Block) where
  pub kept-paired : IsKept m n room → found_in new.entries last.entries ≡ paired s b (found_in m.entries n.entries) → (found_in m.entries n.entries).user_of s ≡ None → (found_in m.entries n.entries).serial_of b ≡ None → spare m ≤ spare new + 1 → spare n ≤ spare last + 1 → IsKept new last (room - 1)
  kept-paired k e free fresh p q = record {
    matched = subst AreMatched (sym e) (matched-paired (found_in m.entries n.entries) s b k.matched free fresh);
    serials = omega (arith, k.serials, p);
    blocks = omega (arith, k.blocks, q);
  }

  pub kept-dropped : IsKept m n room → found_in new.entries last.entries ≡ dropped s b (found_in m.entries n.entries) → (found_in m.entries n.entries).user_of s ≡ Some b → spare m ≤ spare new → spare n ≤ spare last → IsKept new last room
  kept-dropped k e has p q = record {
    matched = subst AreMatched (sym e) (matched-dropped (found_in m.entries n.entries) s b k.matched has);
    serials = omega (arith, k.serials, p);
    blocks = omega (arith, k.blocks, q);
  }
