-- The numbers by which the rules are named.
use Rattle.std.specs.Prelude.{ℕ}
use Rattle.c_scope.specs.declared.rule.Rule.{Rule}
use Rattle.c_scope.specs.declared.rule.Rule.TheVariants as rule

abbrev pub number_of : Rule → ℕ
number_of rule.Undeclared = 1
number_of rule.Redeclared = 2
number_of rule.Unsized = 3
number_of rule.Tag = 4
number_of rule.NoMain = 5
number_of rule.Undefined = 6
number_of rule.Operands = 7
number_of rule.Unconverted = 8
number_of rule.Cast = 9
number_of rule.Call = 10
number_of rule.Member = 11
number_of rule.Pointer = 12
number_of rule.NotLvalue = 13
number_of rule.OutsideLoop = 14
number_of rule.Return = 15
number_of rule.NotConstant = 16
number_of rule.NotScalar = 17
number_of rule.Form = 18
