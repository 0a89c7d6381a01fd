use Rattle.core_ir.proofs.order.is_ordered.Goals as goal

pub returns : goal.returns
returns g c = (
  λ is. record { ends = c.ends_with_return.ensures.0 c.if-not-ends_with_return.false; each = c.are_ordered.ensures.0 is },
  λ ordered. c.are_ordered.ensures.1 ordered.each,
)
