-- The name that a declarator declares.
use Rattle.std.specs.Prelude.{ℕ, List}
use Rattle.c_tree.specs.declared.expression.Declarator.{Declarator}
use Rattle.c_tree.specs.declared.expression.Direct.{Direct}
use Rattle.c_tree.specs.declared.expression.Direct.TheOpen.{Direct-F}
use Rattle.c_tree.specs.Fold.{Results, Node, Steps, fold}

-- nothing is computed of the trees that are no declarators
abbrev pub Named : Results
Named = record {
  direct = List ℕ;
  expr = Unit {0};
  param = Unit {0};
  params = Unit {0};
  spec = Unit {0};
  suffix = Unit {0};
  abstract = Unit {0};
  declarator = List ℕ;
  member = Unit {0};
  type_word = Unit {0};
}

-- the name itself, or that of the declarator in the brackets
abbrev pub direct_name : Node Named Direct-F → List ℕ
direct_name (Direct-F.Name x) = x
direct_name (Direct-F.Bracketed inside) = inside

abbrev pub naming : Steps Named
naming = record {
  direct = direct_name;
  expr = λ _. tt;
  param = λ _. tt;
  params = λ _. tt;
  spec = λ _. tt;
  suffix = λ _. tt;
  abstract = λ _. tt;
  declarator = λ d. d.direct;
  member = λ _. tt;
  type_word = λ _. tt;
}

unfoldable pub declared_name : Declarator → List ℕ
declared_name = (fold naming).declarator

-- what the stars and suffixes stand round has this name
unfoldable pub name_inside : Direct → List ℕ
name_inside = (fold naming).direct
