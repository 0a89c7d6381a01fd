use Rattle.std.proofs.Common.{◌<◌, map, subst}
use Rattle.std.proofs.lemmas.List.{length-map}
use Rattle.core_ir.proofs.TargetsWithin.{defines_below, targets_within}
use Rattle.core_ir.proofs.checker.BodyChecker.is_well_formed.Goals as goal

pub read-requires-clause-targets : goal.read-requires-clause-targets
read-requires-clause-targets g c =
    let code = map g.I.HasOutline.outline c.args.code.now in
    let numbers = c.are_numbered.ensures.0 c.if-not-are_numbered.false in
    λ q l j. subst (λ n. l < n) (length-map c.args.code.now g.I.HasOutline.outline) (targets_within c.args.registers c.args.slots code numbers q l j)

pub is_ordered-requires-clause-defined : goal.is_ordered-requires-clause-defined
is_ordered-requires-clause-defined g c =
    let code = map g.I.HasOutline.outline c.args.code.now in
    let numbers = c.are_numbered.ensures.0 c.if-not-are_numbered.false in
    defines_below c.args.registers c.args.slots code numbers c.requires.few_registers

pub returns : goal.returns
returns g c = (
  λ is. record {
    numbers = c.are_numbered.ensures.0 c.if-not-are_numbered.false;
    ordered = c.is_ordered.ensures.0 c.if-not-is_ordered.false;
    frame = c.keeps_frame.ensures.0 is;
  },
  λ formed. c.keeps_frame.ensures.1 formed.frame,
)
