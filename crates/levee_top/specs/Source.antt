-- What a source is: its tree, its typed form and its program, or why it has none.
use Rattle.std.specs.Prelude.{◌≡◌, ℕ, List, Option, Some, None}
use Rattle.c_tokens.specs.declared.token.LexRefusal.{LexRefusal}
use Rattle.c_tokens.specs.declared.token.LexRefusal.TheVariants as lex
use Rattle.c_tokens.specs.declared.token.Token.{Token}
use Rattle.c_tokens.specs.Lex.{Lexes, IsRefused}
use Rattle.c_tree.specs.declared.statement.Unit.{Unit as Tree}
use Rattle.c_tree.specs.Marks.{kinds_of}
use Rattle.c_tree.specs.RoundTrip.{IsTextOf}
use Rattle.c_tree.specs.Statements.{IsSyntaxRefusal}
use Rattle.c_typed.specs.declared.unit.Typed.{Typed}
use Rattle.c_scope.specs.declared.rule.Rule.{Rule}
use Rattle.c_scope.specs.Numbers.{number_of}
use Rattle.c_typing.specs.Theorems.{HasForm, BreaksFirst}
use Rattle.core_ir.specs.declared.program.Program.{Program}
use Rattle.elab_pieces.specs.declared.limit.LimitName.{LimitName}
use Rattle.elab_pieces.specs.Limits.{first_limit}
use Rattle.elab_pieces.specs.Program.{program_of}
use Rattle.levee_top.specs.declared.refusal.Refusal.{Refusal}
use Rattle.levee_top.specs.declared.refusal.Refusal.TheVariants as refusal

-- the source has this typed form
pub record HasTyped (source : List ℕ) (typed : Typed) : Type 0 where
  pub tree : Tree
  pub read : IsTextOf tree source
  pub form : HasForm tree typed

-- the source has this program, which passes no limit
pub record IsProgramOf (source : List ℕ) (program : Program) : Type 0 where
  pub typed : Typed
  pub has : HasTyped source typed
  pub is : program ≡ program_of typed
  pub within : first_limit program ≡ None

-- the refusal of a place that is no token
abbrev pub of_lex : LexRefusal → Option Refusal
of_lex (lex.Byte line) = Some (refusal.Byte line)
of_lex (lex.Number line) = Some (refusal.Number line)
of_lex (lex.Text line) = Some (refusal.Text line)
of_lex (lex.Comment line) = Some (refusal.Comment line)
of_lex lex.Memory = None

-- why a source has no program, in the order in which it is looked at
pub data SourceRefuses (source : List ℕ) (why : Refusal) : Type 0 where
  -- some place is no token, white space or comment
  no_tokens :
      (cause : LexRefusal)
      → of_lex cause ≡ Some why
      → IsRefused source cause
      → SourceRefuses source why
  -- it has tokens, and behind so many items no item begins those that are left
  no_tree :
      (tokens : List Token) (item : ℕ)
      → why ≡ refusal.Syntax item
      → Lexes source tokens
      → IsSyntaxRefusal (kinds_of tokens) item
      → SourceRefuses source why
  -- it has a tree, in which this item is the first to break a rule
  breaks_rule :
      (tree : Tree) (item : ℕ) (rule : Rule)
      → why ≡ refusal.Type item (number_of rule)
      → IsTextOf tree source
      → BreaksFirst tree item rule
      → SourceRefuses source why
  -- it has a typed form, and this is the first limit that its program passes
  passes_limit :
      (typed : Typed) (which : LimitName)
      → why ≡ refusal.Limit which
      → HasTyped source typed
      → first_limit (program_of typed) ≡ Some which
      → SourceRefuses source why
