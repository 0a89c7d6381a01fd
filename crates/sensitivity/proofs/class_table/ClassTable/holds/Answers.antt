use Rattle.std.proofs.Common.{◌∙◌, sym}
use Rattle.sensitivity.proofs.ClassLaws.{table_always, table_no, table_never, table_yes}
use Rattle.sensitivity.proofs.class_table.ClassTable.holds.Goals as goal

pub returns-in-Always-clause-yes : goal.returns-in-Always-clause-yes
returns-in-Always-clause-yes c = λ yes defs are. table_always defs c.args.self.now c.as_slice.result.now c.args.ty.now c.holding_of.result c.holding_of.ensures (c.as_slice.ensures ∙ c.self.view_is) c.in-Always.is are

pub returns-in-Never-clause-no : goal.returns-in-Never-clause-no
returns-in-Never-clause-no c = λ no defs are. table_never defs c.args.self.now c.as_slice.result.now c.args.ty.now c.holding_of.result c.holding_of.ensures (c.as_slice.ensures ∙ c.self.view_is) c.in-Never.is are

pub returns-in-Sensitive-clause-yes : goal.returns-in-Sensitive-clause-yes
returns-in-Sensitive-clause-yes c = λ yes defs are. table_yes defs c.args.self.now c.as_slice.result.now c.args.ty.now c.holding_of.result c.holding_of.ensures (c.as_slice.ensures ∙ c.self.view_is) c.in-AsStruct.s c.in-AsStruct.is (sym c.class_of_struct.ensures ∙ c.in-Sensitive.is) are

pub returns-in_default : goal.returns-in_default
returns-in_default c = record {
  yes = λ yes. absurd (cc);
  no = λ no defs are. table_no defs c.args.self.now c.as_slice.result.now c.args.ty.now c.holding_of.result c.holding_of.ensures (c.as_slice.ensures ∙ c.self.view_is) c.in-AsStruct.s c.in-AsStruct.is (λ e. c.in_default.not-Sensitive (c.class_of_struct.ensures ∙ e)) are;
}
