-- The rows of what each walk finds.
use Rattle.std.proofs.Common.{Some, inl, refl}
use Rattle.c_types.specs.Theorems.{SameIsEquality, TablesGrow, UnitsStay}
use Rattle.c_rules.specs.declared.place.Place.TheVariants.{Value}
use Rattle.c_typing_laws.specs.Theorems.{WalksMeetRows}
use Rattle.c_typing_laws.specs.Worlds.{local_types}
use Rattle.c_typing_laws.proofs.DeclarationsMeetRows.{decl-goes}
use Rattle.c_typing_laws.proofs.FileDeclarationsMeetRows.{decl-file}
use Rattle.c_typing_laws.proofs.FunctionsMeetRows.{function-found}
use Rattle.c_typing_laws.proofs.InitialisersMeetRows.{init-meets}
use Rattle.c_typing_laws.proofs.StatementsMeetRows.{block-meets}
use Rattle.c_typing_laws.proofs.WalksMeetRows.{expr-meets}

pub walks-meet : UnitsStay → TablesGrow → SameIsEquality → WalksMeetRows
walks-meet stay grow law = record {
  expression = λ k gs e w new x is at.
      let h = ((expr-meets stay grow k gs at.first e w.scopes (local_types w) Value w (record { scopes = refl; locals = refl })).found (x, new) is at.scopes).2 at.known in
      record { levels = h.1.typed (inl at.no_parameter); value = h.1.value };
  initialiser = λ k gs is_global i t w new x is at.
      let h = ((init-meets stay grow k gs at.first w.scopes (local_types w) is_global i (Some t) w (record { scopes = refl; locals = refl })).found (x, new) is at.scopes).2 at.known in
      record { fits = h.1.fits t refl; levels = h.1.levels at.no_parameter };
  declaration = λ k gs d w new x is at. (((decl-goes stay grow k gs at.first d w at.no_parameter).found (x, new) is at.scopes).2 at.known).1;
  block = λ k gs b in_loop w new x is at. (((block-meets stay grow k gs at.first k.result refl b in_loop w at.no_parameter).found (x, new) is at.scopes).2 at.known).1;
  global_declaration = λ gs fs d w new x is file.
      let h = (decl-file fs stay grow gs d w).found (x, new) is file in
      record { file = h.0; numbered = h.1; rows = λ k first below. (h.2 k first below).1 };
  definition = λ gs fs s base d b w new f is file.
      let h = function-found stay grow law fs gs s base d b w file (f, new) is in
      record { file = h.file; rows = λ k first below. (h.rows k first below).1 };
}
