use Rattle.std.proofs.Common.{◌∙◌, sym, subst, arith}
use Rattle.machine.specs.ValidCode.{TouchesAreSensitive}
use Rattle.icode.proofs.SafeUnits.{count_le}
use Rattle.icode.proofs.FewRegisters.{few_registers}
use Rattle.icode.proofs.validity.has_good_places.Goals as goal

pub are_marked-requires-clause-defined : goal.are_marked-requires-clause-defined
are_marked-requires-clause-defined c = few_registers c.args.function.now c.requires.within_limits c.requires.well_formed

pub are_marked-requires-clause-room : goal.are_marked-requires-clause-room
are_marked-requires-clause-room c =
    let many = count_le 0 c.args.function.now.locals c.requires.framed.lie in
    omega (arith, many, c.requires.framed.frame_is_its_locals, c.requires.within_limits.frame_units)

pub returns-then-not-touches_are_sensitive : goal.returns-then-not-touches_are_sensitive
returns-then-not-touches_are_sensitive c = (
  λ is. absurd (cc),
  λ good. sym c.if-not-touches_are_sensitive.true ∙ c.touches_are_sensitive.ensures.1 (subst TouchesAreSensitive (sym c.as_slice.ensures) good.touched),
)

pub places_say_where-requires-clause-defined : goal.places_say_where-requires-clause-defined
places_say_where-requires-clause-defined c = few_registers c.args.function.now c.requires.within_limits c.requires.well_formed

pub places_say_where-requires-clause-ordered : goal.places_say_where-requires-clause-ordered
places_say_where-requires-clause-ordered c = c.requires.well_formed.ordered

pub places_say_where-requires-clause-locals : goal.places_say_where-requires-clause-locals
places_say_where-requires-clause-locals c =
    let marked = c.are_marked.ensures.0 c.if-not-are_marked.false in
    record {
      lie = c.requires.framed.lie;
      few = omega (arith, c.requires.framed.frame_is_its_locals, c.requires.within_limits.frame_units);
      safe = λ v l there safe. (marked v l there).0 safe;
    }

pub returns : goal.returns
returns c = (
  λ is. record {
    marked = c.are_marked.ensures.0 c.if-not-are_marked.false;
    touched = subst TouchesAreSensitive c.as_slice.ensures (c.touches_are_sensitive.ensures.0 c.if-not-touches_are_sensitive.false);
    places = c.places_say_where.ensures.0 is;
  },
  λ good. c.places_say_where.ensures.1 good.places,
)
