use Rattle.std.proofs.Common.{◌∙◌, ap, sym, Ok, to_z}
use Rattle.std.specs.Int.{w128}
use native.Mathlib.Nat.{mod-eq_of_lt}
use Rattle.mdr_core.specs.declared.undefined.Undefined.TheVariants.{Overflow}
use Rattle.mdr_core.specs.Operators.{fitted_or, fitted}
use Rattle.mdr_arith.proofs.Products.{product-fits, product-is, natural-cast, natural_product-fits, natural_product-is}
use Rattle.mdr_arith.proofs.sum.multiply.Goals as goal
use Rattle.mdr_arith.proofs.sum.multiply.Goals.{then-product-size, else-product-size}

pub overflow_mul-a : goal.overflow_mul-a
overflow_mul-a c = product-fits c.args.kind c.args.a c.args.b (sym c.is_signed.ensures ∙ c.if-is_signed.true) c.requires.left c.requires.right

pub returns-then-is_signed : goal.returns-then-is_signed
unfolding fitted
returns-then-is_signed c = c.fit.ensures ∙ ap (fitted_or Overflow c.args.kind) (product-is c.args.kind c.args.a c.args.b (sym c.is_signed.ensures ∙ c.if-is_signed.true) c.requires.left c.requires.right)

pub overflow_cast-product : goal.overflow_cast-product
overflow_cast-product c = natural-cast c.args.kind c.args.a (sym c.is_signed.ensures ∙ c.if-is_signed.false) c.requires.left

pub overflow_cast-product-2 : goal.overflow_cast-product-2
overflow_cast-product-2 c = natural-cast c.args.kind c.args.b (sym c.is_signed.ensures ∙ c.if-is_signed.false) c.requires.right

pub overflow_mul-product : goal.overflow_mul-product
overflow_mul-product c = natural_product-fits c.args.kind c.args.a c.args.b (sym c.is_signed.ensures ∙ c.if-is_signed.false) c.requires.left c.requires.right

pub returns : goal.returns
returns c =
    let left = natural_product-is c.args.kind c.args.a c.args.b c.modulus-size.result (sym c.is_signed.ensures ∙ c.if-is_signed.false) c.requires.left c.requires.right c.modulus-size.ensures in
    elim c.if-product-size.branch [
      | then-product-size w ↦ ap (λ z. Ok (to_z w128 z)) (w.left-is ∙ sym (mod-eq_of_lt w.if-product-size.true)) ∙ left
      | else-product-size w ↦ ap (λ z. Ok (to_z w128 z)) w.left-is ∙ left
    ]
