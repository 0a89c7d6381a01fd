use Rattle.std.proofs.Common.{length}
use Rattle.c_typed.specs.declared.unit.Typed.{Typed}
use Rattle.c_typing_types.specs.Types.{is_well_made}
use Rattle.elab_source_laws.proofs.Tells.{TypeLaws, types-fit}
use Rattle.elab_source_laws.proofs.theorems.accepted_programs_are_typed.Goals as goal

pub returns : goal.returns
returns c =
    let t : Typed = c.args.typed.now in
    let laws : TypeLaws = record {
      names = c.types_name_structs.ensures;
      functions = c.functions_are_declarable.ensures;
      bounds = c.bounds_are_given.ensures;
      all = c.types_are_well_made.ensures;
    } in
    record {
      filled = λ s form filled.
          c.programs_are_typed.ensures t (is_well_made (length t.structs)) (c.typed_sources_are_typed.ensures s t form) (types-fit laws s t form filled c.tables_are_sound.ensures);
      derived = λ ts s reads form.
          c.programs_are_typed.ensures t (is_well_made (length t.structs)) (c.typed_sources_are_typed.ensures s t form)
          (types-fit laws s t form (c.derived_sources_are_filled.ensures ts s reads) c.tables_are_sound.ensures);
    }
