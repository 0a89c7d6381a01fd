-- Typed expressions whose type words are read as their types, by tags and names alone.
use Rattle.std.specs.Prelude.{◌≡◌, ℕ, List, Ok}
use Rattle.c_types.specs.declared.structs.StructDef.{StructDef}
use Rattle.c_types.specs.declared.ty.Ty.{Ty}
use Rattle.c_const.specs.Constant.{value_steps}
use Rattle.c_tree.specs.declared.expression.TypeWord.{TypeWord}
use Rattle.c_tree.specs.Fold.{fold}
use Rattle.c_typed.specs.declared.expression.TypedDirect.TheOpen.{TypedForm-F}
use Rattle.c_typed.specs.declared.expression.TypedExpr.{TypedExpr, every-TypedExpr}
use Rattle.c_typed.specs.declared.expression.TypedTypeWord.{TypedTypeWord, fold-TypedTypeWord, out-TypedTypeWord}
use Rattle.c_typed.specs.Erased.{erased_abstract, erased_declarator, erased_declared_node, erased_direct, erased_expr_node, erased_form, erased_member, erased_param, erased_params, erased_spec_node, erased_suffix, erased_type_word}
use Rattle.c_operators.specs.Operators.{FormLayer}

-- a type word without its types
unfoldable pub word_tree : TypedTypeWord → TypeWord
word_tree = fold-TypedTypeWord _ _ _ _ _ _ _ _ _ _ _ _
    erased_direct erased_form erased_param erased_params erased_spec_node erased_suffix
    erased_declared_node erased_abstract erased_declarator erased_expr_node erased_member erased_type_word

-- structs by their tags, and the types that names stand for
module _ (structs : List StructDef) (names : List (List ℕ × Ty)) where
  -- what is read of the type word is its type
  abbrev pub IsRead : TypedTypeWord → Type 0
  IsRead w = (fold (value_steps structs names)).type_word (word_tree w) ≡ Ok (out-TypedTypeWord w).ty

  abbrev pub FormReads : FormLayer → Type 0
  FormReads (TypedForm-F.Cast w x) = IsRead w
  FormReads (TypedForm-F.SizeofType w) = IsRead w
  FormReads _ = Unit {0}

  -- each type word in the expression is so
  unfoldable pub WordsAreRead : TypedExpr → Type 0
  WordsAreRead = every-TypedExpr (λ _. Unit {0}) FormReads (λ _. Unit {0}) (λ _. Unit {0}) (λ _. Unit {0}) (λ _. Unit {0})
      (λ _. Unit {0}) (λ _. Unit {0}) (λ _. Unit {0}) (λ _. Unit {0}) (λ _. Unit {0}) (λ _. Unit {0})
