use Rattle.c_types.specs.declared.ty.FnTy.{size-FnTy}
use Rattle.c_types.specs.declared.ty.Ty.{size-Ty}
use Rattle.elab_tests.proofs.text.+types.Given as goal

abbrev pub decreases-push_type : goal.decreases-push_type
decreases-push_type l = size-Ty l.ty.now

abbrev pub decreases-push_function_type : goal.decreases-push_function_type
decreases-push_function_type l = size-FnTy l.function.now
