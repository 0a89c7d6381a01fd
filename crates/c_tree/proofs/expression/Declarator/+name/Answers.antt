use Rattle.std.proofs.Common.{◌∙◌, ap, sym}
use Rattle.c_tree.specs.DeclaredName.{declared_name, name_inside}
use Rattle.c_tree.proofs.DeclaredNameLemmas.{declarator-of, direct-Name, direct-Bracketed}
use Rattle.c_tree.proofs.expression.Declarator.+name.Goals as goal

pub returns-in-Name : goal.returns-in-Name
returns-in-Name t c = sym (declarator-of _ ∙ ap name_inside c.in-Name.is ∙ direct-Name _)

pub returns-in-Bracketed : goal.returns-in-Bracketed
returns-in-Bracketed t c = c.name.ensures ∙ ap declared_name c.get.ensures
    ∙ sym (declarator-of _ ∙ ap name_inside c.in-Bracketed.is ∙ direct-Bracketed _)
