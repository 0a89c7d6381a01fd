use Rattle.std.proofs.Common.{◌≡◌, ◌∙◌, ◌<◌, ◌++◌, length, IfSome, Some, slice_get, ap, refl, sym, subst, arith, append_assoc}
use Rattle.std.proofs.lemmas.Option.{slice_get_read}
use Rattle.std.proofs.lemmas.Result.{on_ok_weaker}
use Rattle.elab_pieces.specs.Program.{name_of}
use Rattle.code_report.specs.Lines.{function_line}
use Rattle.code_report.specs.Names.{frame_names}
use Rattle.code_report.specs.Report.{DefinitionLines, LocalLines}
use Rattle.code_report.specs.inner.Appending.{Adds}
use Rattle.code_report.proofs.definitions.push_definition.Goals as goal

pub returns : goal.returns
unfolding name_of
returns c =
    let p = c.args.program.now in
    let n = c.args.f in
    let d = c.args.definition.now in
    let items = c.as_slice.result.now in
    let f = c.index-as_slice-f.result in
    let checks = c.checks_of-checks.result in
    let old = c.args.text.now.items in
    let mid = c.push_function.new.text.items in
    let new = c.push_locals.new.text.items in
    let within : n < length items = omega (arith, ap length c.as_slice.ensures, c.requires.has.within) in
    let there : slice_get p.functions n ≡ Some f =
    ap (λ xs. slice_get xs n) (sym c.as_slice.ensures) ∙ slice_get_read items (length items) n f refl within c.index-as_slice-f.is in
    let counted = c.checks_of-checks.ensures p.structs c.requires.classes in
    let named : c.bytes.result.now ≡ name_of d.declared = c.bytes.ensures ∙ c.name_of-name.ensures in
    let line = function_line n (name_of d.declared) (length f.body) checks in
    let first : mid ≡ old ++ line = c.in_ok-push_function.ensures ∙ (λ i. old ++ function_line n (named i) (c.len.ensures i) checks) in
    on_ok_weaker c.push_locals.result
    (λ (adds : Adds (LocalLines f 0 (frame_names c.as_slice-4.result.now) f.locals) mid new).
    subst (λ o. IfSome o (λ g. Adds (DefinitionLines p.structs n d g) old new)) (sym there)
    (record {
      lines = line ++ adds.lines;
      are = record {
        checks = checks;
        counted = counted;
        locals = adds.lines;
        local_lines = subst (λ vs. LocalLines f 0 (frame_names vs) f.locals adds.lines) c.as_slice-4.ensures adds.are;
        is = refl;
      };
      is = adds.is ∙ ap (λ text. text ++ adds.lines) first ∙ append_assoc old line adds.lines;
    }))
    c.push_locals.ensures
