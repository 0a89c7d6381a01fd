use Rattle.elab_laws.proofs.TouchedLoads.{loaded_touched}
use Rattle.elab_laws.proofs.TouchingRows as rows
use Rattle.elab_laws.proofs.theorems.rows_touch.Goals as goal

pub returns : goal.returns
returns c = λ defs. record {
  means = rows.means defs;
  append = rows.append defs;
  nothing = λ place register slot. rows.nothing_touched defs;
  single = rows.single_touched defs;
  extended = rows.extended_touched defs;
  followed = rows.followed_touched defs;
  combined = rows.combined_touched defs;
  converted = rows.converted_touched defs;
  load = loaded_touched defs;
  pointing = rows.pointing_touched defs;
  assigned = rows.assigned_touched defs;
  updated = rows.updated_touched defs;
  old_value = λ old a h. h;
  struct_assigned = rows.struct_touched defs;
  both = rows.and_touched defs;
  either = rows.or_touched defs;
  conditional = rows.conditional_touched defs;
  call = rows.call_touched defs;
  indirect = rows.indirect_touched defs;
  built_in = rows.built_in_touched defs;
}
