-- A source has one program, or one refusal: each step of its way has one answer.
use Rattle.std.proofs.Common.{◌≡◌, ℕ, List, Option, Some, None, Result, Ok, Err, refl, sym, ap, subst, ◌∙◌, inl, inr}
use Rattle.c_parser.specs.Theorems.{SourcesHaveOneTree, RefusalsAreCertain}
use Rattle.c_scope.specs.declared.rule.Rule.{Rule}
use Rattle.c_scope.specs.Numbers.{number_of}
use Rattle.c_tokens.specs.declared.token.LexRefusal.{LexRefusal}
use Rattle.c_tokens.specs.declared.token.Token.{Token}
use Rattle.c_tokens.specs.Lex.{Lexes, IsRefused}
use Rattle.c_tokens.specs.Theorems.{TextsHaveOneAnswer}
use Rattle.c_tree.specs.declared.statement.Unit.{Unit as Tree}
use Rattle.c_tree.specs.Marks.{kinds_of}
use Rattle.c_tree.specs.Statements.{SourceReads, IsSyntaxRefusal}
use Rattle.c_typed.specs.declared.unit.Typed.{Typed}
use Rattle.c_typing.specs.Theorems.{HasForm, BreaksFirst, SourcesHaveOneVerdict}
use Rattle.core_ir.specs.declared.program.Program.{Program}
use Rattle.elab_pieces.specs.declared.limit.LimitName.{LimitName}
use Rattle.elab_pieces.specs.Limits.{first_limit}
use Rattle.elab_pieces.specs.Program.{program_of}
use Rattle.levee_top.specs.declared.refusal.Refusal.{Refusal}
use Rattle.levee_top.specs.declared.refusal.Refusal.TheVariants as refusal
use Rattle.levee_top.specs.Source.{HasTyped, IsProgramOf, of_lex, SourceRefuses, no_tokens, no_tree, breaks_rule, passes_limit}
use Rattle.levee_top.proofs.Stages.{Stage, IsOne, Then, then_is_one}

-- the laws of the steps
pub record SourceLaws : Type 0 where
  pub texts : TextsHaveOneAnswer
  pub trees : SourcesHaveOneTree
  pub certain : RefusalsAreCertain
  pub verdicts : SourcesHaveOneVerdict

same_some : {A : Type 0} (a b : A) → Some a ≡ Some b → a ≡ b
same_some a b e = cc

-- ---- tokens

abbrev TokensOf : Stage (List ℕ) (List Token)
TokensOf source (Ok tokens) = Lexes source tokens
TokensOf source (Err why) = (cause : LexRefusal) × (of_lex cause ≡ Some why) × IsRefused source cause

tokens_are_one : TextsHaveOneAnswer → IsOne TokensOf
tokens_are_one law source (Ok a) (Ok b) p q = ap Ok ((law source).one_list a b p q)
tokens_are_one law source (Ok a) (Err e) p q = absurd ((law source).never_both a q.0 p q.2)
tokens_are_one law source (Err e) (Ok a) p q = absurd ((law source).never_both a p.0 q p.2)
tokens_are_one law source (Err e) (Err f) p q =
    let same : p.0 ≡ q.0 = (law source).one_refusal p.0 q.0 p.2 q.2 in
    ap Err (same_some e f (sym p.1 ∙ (ap of_lex same ∙ q.1)))

-- ---- trees

abbrev TreeOf : Stage (List Token) Tree
TreeOf tokens (Ok tree) = SourceReads (kinds_of tokens) tree
TreeOf tokens (Err why) = (item : ℕ) × (why ≡ refusal.Syntax item) × IsSyntaxRefusal (kinds_of tokens) item

tree_is_one : SourcesHaveOneTree → RefusalsAreCertain → IsOne TreeOf
tree_is_one trees certain tokens (Ok a) (Ok b) p q = ap Ok (trees (kinds_of tokens) a b p q)
tree_is_one trees certain tokens (Ok a) (Err e) p q = absurd ((certain (kinds_of tokens) q.0 q.2).1 a p)
tree_is_one trees certain tokens (Err e) (Ok a) p q = absurd ((certain (kinds_of tokens) p.0 p.2).1 a q)
tree_is_one trees certain tokens (Err e) (Err f) p q =
    let same : q.0 ≡ p.0 = (certain (kinds_of tokens) p.0 p.2).0 q.0 q.2 in
    ap Err (p.1 ∙ (ap refusal.Syntax (sym same) ∙ sym q.1))

-- ---- typed forms

abbrev FormOf : Stage Tree Typed
FormOf tree (Ok typed) = HasForm tree typed
FormOf tree (Err why) =
    (item : ℕ) × (rule : Rule) × (why ≡ refusal.Type item (number_of rule)) × BreaksFirst tree item rule

form_is_one : SourcesHaveOneVerdict → IsOne FormOf
form_is_one law tree (Ok a) (Ok b) p q = ap Ok (law.one_form tree a b p q)
form_is_one law tree (Ok a) (Err e) p q = absurd (law.never_both tree a q.0 q.1 p q.3)
form_is_one law tree (Err e) (Ok a) p q = absurd (law.never_both tree a p.0 p.1 q p.3)
form_is_one law tree (Err e) (Err f) p q =
    let same = law.one_rule tree p.0 q.0 p.1 q.1 p.3 q.3 in
    ap Err (p.2 ∙ (ap (λ item. refusal.Type item (number_of p.1)) same.0
    ∙ (ap (λ rule. refusal.Type q.0 (number_of rule)) same.1 ∙ sym q.2)))

-- ---- programs

abbrev ProgramOf : Stage Typed Program
ProgramOf typed (Ok program) = (program ≡ program_of typed) × (first_limit program ≡ None)
ProgramOf typed (Err why) =
    (which : LimitName) × (why ≡ refusal.Limit which) × (first_limit (program_of typed) ≡ Some which)

some_is_not_none : {A : Type 0} (a : A) → None ≡ Some a → ⊥
some_is_not_none a e = cc

program_is_one : IsOne ProgramOf
program_is_one typed (Ok a) (Ok b) p q = ap Ok (p.0 ∙ sym q.0)
program_is_one typed (Ok a) (Err e) p q =
    absurd (some_is_not_none q.0 (sym p.1 ∙ (ap first_limit p.0 ∙ q.2)))
program_is_one typed (Err e) (Ok a) p q =
    absurd (some_is_not_none p.0 (sym q.1 ∙ (ap first_limit q.0 ∙ p.2)))
program_is_one typed (Err e) (Err f) p q =
    ap Err (p.1 ∙ (ap refusal.Limit (same_some p.0 q.0 (sym p.2 ∙ q.2)) ∙ sym q.1))

-- ---- sources

-- the way of a source
abbrev pub SourceGives : Stage (List ℕ) Program
SourceGives = Then (Then (Then TokensOf TreeOf) FormOf) ProgramOf

pub source_is_one : SourceLaws → IsOne SourceGives
source_is_one laws =
    then_is_one (Then (Then TokensOf TreeOf) FormOf) ProgramOf
    (then_is_one (Then TokensOf TreeOf) FormOf
    (then_is_one TokensOf TreeOf (tokens_are_one laws.texts) (tree_is_one laws.trees laws.certain))
    (form_is_one laws.verdicts)) program_is_one

abbrev HasForms : Stage (List ℕ) Typed
HasForms = Then (Then TokensOf TreeOf) FormOf

typed_gives : (source : List ℕ) (typed : Typed) → HasTyped source typed → HasForms source (Ok typed)
typed_gives source typed has = inl (has.tree, inl (has.read.tokens, has.read.lexed, has.read.read), has.form)

pub program_gives : (source : List ℕ) (program : Program) → IsProgramOf source program → SourceGives source (Ok program)
program_gives source program is = inl (is.typed, typed_gives source is.typed is.has, (is.is, is.within))

pub refusal_gives : (source : List ℕ) (why : Refusal) → SourceRefuses source why → SourceGives source (Err why)
refusal_gives source why (no_tokens cause is bad) = inr (why, inr (why, inr (why, (cause, is, bad), refl), refl), refl)
refusal_gives source why (no_tree tokens item is lexes bad) =
    inr (why, inr (why, inl (tokens, lexes, (item, is, bad)), refl), refl)
refusal_gives source why (breaks_rule tree item rule is read bad) =
    inr (why, inl (tree, inl (read.tokens, read.lexed, read.read), (item, rule, is, bad)), refl)
refusal_gives source why (passes_limit typed which is has bad) = inl (typed, typed_gives source typed has, (which, is, bad))
