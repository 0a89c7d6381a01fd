use Rattle.std.proofs.Common.{◌∙◌, refl, sym}
use Rattle.sensitivity.proofs.ClassLaws.{code_to, pointed_holds, points_to, universal_to}
use Rattle.sensitivity.proofs.class_table.ClassTable.class_of_pointer.Goals as goal

pub returns-then-is_code : goal.returns-then-is_code
returns-then-is_code c = λ defs are. code_to defs c.args.self.now c.args.self.now c.args.target.now refl are ∙ sym c.is_code.ensures ∙ c.if-is_code.true

pub returns-then-is_open : goal.returns-then-is_open
returns-then-is_open c = λ defs are. (
  code_to defs c.args.self.now c.args.self.now c.args.target.now refl are ∙ sym c.is_code.ensures ∙ c.if-is_code.false,
  universal_to defs c.args.self.now c.as_slice.result.now c.args.target.now (c.as_slice.ensures ∙ c.self.view_is) are ∙ sym c.is_open.ensures ∙ c.if-is_open.true,
)

pub returns-then-holds : goal.returns-then-holds
returns-then-holds c = λ defs are. (
  record {
    no_code = code_to defs c.args.self.now c.args.self.now c.args.target.now refl are ∙ sym c.is_code.ensures ∙ c.if-is_code.false;
    no_universal = universal_to defs c.args.self.now c.as_slice.result.now c.args.target.now (c.as_slice.ensures ∙ c.self.view_is) are ∙ sym c.is_open.ensures ∙ c.if-is_open.false;
  },
  points_to defs c.args.self.now c.args.self.now c.args.target.now refl are (c.holds.ensures.yes c.if-holds.true defs are),
)

pub returns-else-holds : goal.returns-else-holds
returns-else-holds c = λ defs are. (
  record {
    no_code = code_to defs c.args.self.now c.args.self.now c.args.target.now refl are ∙ sym c.is_code.ensures ∙ c.if-is_code.false;
    no_universal = universal_to defs c.args.self.now c.as_slice.result.now c.args.target.now (c.as_slice.ensures ∙ c.self.view_is) are ∙ sym c.is_open.ensures ∙ c.if-is_open.false;
  },
  λ p. c.holds.ensures.no c.if-holds.false defs are (pointed_holds defs c.args.self.now c.args.self.now c.args.target.now refl are p),
)
