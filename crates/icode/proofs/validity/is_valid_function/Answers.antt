use Rattle.icode.proofs.validity.is_valid_function.Goals as goal

pub returns-then-has_good_shape : goal.returns-then-has_good_shape
returns-then-has_good_shape c =
    let shape = c.has_good_shape.ensures.0 c.if-has_good_shape.true in (
      λ is.
          let good = c.has_good_places.ensures.0 is in
          record {
            within_limits = shape.within_limits;
            locals_lie = shape.framed.lie;
            frame_is_its_locals = shape.framed.frame_is_its_locals;
            safe_units_are = shape.framed.safe_units_are;
            marked = good.marked;
            in_range = shape.in_range;
            well_formed = shape.well_formed;
            touched = good.touched;
            places = good.places;
          },
      λ valid. c.has_good_places.ensures.1 (record { marked = valid.marked; touched = valid.touched; places = valid.places }),
    )
