use Rattle.core_ir.specs.Valid.{IsInRange}
use Rattle.elab_laws.proofs.FittingCalls as calls
use Rattle.elab_laws.proofs.FittingRows as rows
use Rattle.elab_laws.proofs.InRange.{unasked_in_range}
use Rattle.elab_laws.proofs.theorems.rows_fit.Goals as goal

pub returns : goal.returns
returns c = λ p f.
    let P = IsInRange p f in
    let n = f.slots in
    let free = unasked_in_range p f in
    record {
      nothing = rows.nothing_fits P n;
      single = rows.single_fits P n;
      extended = rows.extended_fits P n;
      followed = rows.followed_fits P n;
      combined = rows.combined_fits P n;
      converted = rows.converted_fits P n;
      load = rows.loaded_fits P n;
      pointing = rows.pointing_fits P n;
      assigned = rows.assigned_fits P n;
      updated = rows.updated_fits P n;
      old_value = rows.old_fits P n;
      struct_assigned = rows.struct_fits P n;
      both = calls.and_fits P n free;
      either = calls.or_fits P n free;
      conditional = calls.conditional_fits P n free;
      call = calls.call_fits P n free;
      void_call = calls.void_call_fits P n free;
      indirect = calls.indirect_fits P n free;
      void_indirect = calls.void_indirect_fits P n free;
      built_in = calls.built_in_call_fits P n free;
    }
