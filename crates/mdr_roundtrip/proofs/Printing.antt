-- Trees that are read can be printed.
use Rattle.std.proofs.Common.{◌≡◌, refl, sym, subst, Bool, true, List}
use Rattle.mdr_syntax.specs.declared.token.Token.{Token}
use Rattle.mdr_syntax.specs.declared.tree.Tree.{Tree}
use Rattle.mdr_roundtrip.specs.Whole.{is_printable_line, is_printable}
use Rattle.mdr_grammar.specs.Sorts.{sort_of}
use Rattle.mdr_grammar.specs.Grammar.{rule, Reads}
use Rattle.mdr_roundtrip.specs.Lexed.{are_lexed}
use Rattle.mdr_roundtrip.proofs.Bools.{all_flat}
use Rattle.mdr_roundtrip.proofs.Judges.{IsJudge, given_by}
use Rattle.mdr_roundtrip.proofs.Judged.{good, printable}
use Rattle.mdr_roundtrip.proofs.Sorted.{sort_meets, told_of}
use Rattle.mdr_roundtrip.proofs.Steps.{by_rule}
use Rattle.mdr_roundtrip.proofs.SoundRules.{sound_rule, sound_empty}

printable_judge : (halves : Bool) → IsJudge printable halves
printable_judge halves = record {
  rules = λ n t f h. by_rule (rule n (sort_of halves t.what) t) (good n) (sound_rule n (sort_of halves t.what) t f (sort_meets halves t.what h));
  nothing = λ n f. sound_empty n f;
  inside = λ s x q h. told_of s (sort_of halves x) x q (sort_meets halves x h);
}

pub trees_are_printable : (halves : Bool) (ts : List Token) (tree : Tree) → are_lexed ts ≡ true → Reads halves ts tree → is_printable tree ≡ true
trees_are_printable halves ts tree a r =
    let h = given_by printable halves (printable_judge halves) r.found refl a in
    subst (λ (t : Tree). is_printable t ≡ true) (sym r.is_tree) (all_flat is_printable_line r.items_of h.0)
