use Rattle.std.proofs.Common.{◌≡◌, ◌∙◌, [], ◌∷◌, ◌++◌, map, ap, sym, subst, OnOk}
use Rattle.c_typed.specs.declared.unit.TypedFn.{TypedFn}
use Rattle.elab_pieces.specs.Program.{definitions, name_of}
use Rattle.elab.proofs.programs.push_name.Goals as goal

pub returns-in_ok-copy_name-in-Function : goal.returns-in_ok-copy_name-in-Function
unfolding name_of
returns-in_ok-copy_name-in-Function c =
    let g = λ (f : TypedFn). name_of f.declared in
    let names = c.args.names.now in
    let n : c.in_ok-copy_name-in-Function.field-0 ≡ name_of c.in-Function.f.declared =
    c.in_ok-copy_name-in-Function.ensures ∙ c.name_of.ensures in
    let e = ap (λ ns. names ++ ns ∷ []) n ∙ ap (λ x. names ++ map g (definitions (x ∷ []))) (sym c.in-Function.is) in
    subst (λ ns. OnOk c.push.result (c.push.new.self ≡ ns)) e c.push.ensures.ok
