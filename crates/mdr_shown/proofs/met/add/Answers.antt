use Rattle.std.proofs.Common.{◌≡◌, ◌+◌, [], ◌∷◌, cond, length, nat_eq, Some, sym, ap, ◌∙◌, length-append}
use Rattle.mdr_shown.specs.Met.{number_in}
use Rattle.mdr_shown.proofs.MetLaws.{number_behind}
use Rattle.mdr_shown.proofs.met.add.Goals as goal

pub returns-clause-numbered : goal.returns-clause-numbered
returns-clause-numbered c =
    let old = c.args.met.now.serials.items in
    let number : c.count_of-number.result ≡ length old + 1 =
    c.count_of-number.ensures ∙ ap length c.as_slice.ensures.value ∙ ap length c.in_ok-push.ensures.items ∙ length-append old (c.args.serial ∷ []) in
    record {
      numbered = λ q.
          c.in_ok-insert.ensures.updates.0 q
          ∙ ap (λ o. cond (nat_eq c.args.serial q) (Some c.count_of-number.result) o) (c.requires.numbered.numbered q)
          ∙ ap (λ n. cond (nat_eq c.args.serial q) (Some n) (number_in old q)) number
          ∙ sym (number_behind old c.args.serial q c.requires.new)
          ∙ ap (λ xs. number_in xs q) (sym c.in_ok-push.ensures.items);
    }
