-- What is appended step by step.
use Rattle.std.proofs.Common.{◌≡◌, ◌∙◌, ℕ, List, [], ◌∷◌, ◌++◌, refl, ap, sym, subst, append_assoc, append-nil, Some, None}
use Rattle.c_tokens.specs.declared.token.Keyword.TheVariants as word
use Rattle.c_tokens.specs.declared.token.Kind.TheVariants.{Word}
use Rattle.c_tree.specs.declared.statement.FullExpr.{FullExpr}
use Rattle.c_tree.specs.declared.statement.Stmt.{Stmt}
use Rattle.c_tree.specs.declared.statement.Stmt.TheVariants as stmt
use Rattle.c_tree.specs.Marks.{Kinds}
use Rattle.c_tree.specs.PrintedStatements.{condition_kinds, printed_stmt}
use Rattle.c_tree.specs.Written.{written}
use Rattle.c_tree.specs.inner.Appended.{Appends}
use Rattle.c_tree.proofs.WrittenLemmas.{written-append, written_behind, written_none}
use Rattle.c_tree.proofs.PrintedStatementsLemmas.{init-Expr, init-Braces, block_item-Decl, block_item-Stmt, block-of}
use Rattle.c_tree.proofs.PrintedStatementsLemmas.{for_loop-of, stmt-Block, stmt-If, stmt-While, stmt-Do, stmt-For}
use Rattle.c_tree.proofs.PrintedStatementsLemmas.{stmt-Break, stmt-Continue, stmt-Return, stmt-Expr}

-- some tokens are written behind others
pub then : {a b c : List ℕ} {ks ls : Kinds} → Appends a ks b → Appends b ls c → Appends a (ks ++ ls) c
then {a} {b} {c} {ks} {ls} one two = record { is = two.is ∙ ap (λ t. t ++ written ls) one.is ∙ append_assoc a (written ks) (written ls) ∙ ap (λ t. a ++ t) (sym (written-append ks ls)) }

pub begun : {a b : List ℕ} {ks : Kinds} (ls : Kinds) → Appends a ks b → b ++ written ls ≡ a ++ written (ks ++ ls)
begun ls w = (then {ls = ls} w (record { is = refl })).is

pub nothing : {a : List ℕ} → Appends a [] a
unfolding written
nothing {a} = record { is = sym (append-nil a) }

-- the same tokens
pub given : {a b : List ℕ} {ks ls : Kinds} → ks ≡ ls → Appends a ls b → Appends a ks b
given {a} {b} same w = subst (λ ts. Appends a ts b) (sym same) w

pub at : {X : Type 0} {a b : List ℕ} {x y : X} (f : X → Kinds) → x ≡ y → Appends a (f x) b → Appends a (f y) b
at f same w = given (sym (ap f same)) w

pub into : {a b c : List ℕ} {ks : Kinds} → c ≡ b → Appends a ks b → Appends a ks c
into {a} {ks = ks} same w = subst (λ t. Appends a ks t) (sym same) w

-- what was left to write is written
pub done : {a b : List ℕ} {ks left : Kinds} → b ++ written left ≡ a ++ written ks → left ≡ [] → Appends a ks b
unfolding written
done {a} {b} is none = record { is = sym (append-nil b) ∙ sym (ap (λ l. b ++ written l) none) ∙ is }

-- one more part of what is left is written
pub one_more : {b c whole : List ℕ} {left : Kinds} (ks rest : Kinds) → b ++ written left ≡ whole → left ≡ ks ++ rest → Appends b ks c → c ++ written rest ≡ whole
one_more {b} {c} ks rest before parts w =
    ap (λ t. t ++ written rest) w.is ∙ append_assoc b (written ks) (written rest) ∙ ap (λ t. b ++ t) (sym (written-append ks rest) ∙ ap written (sym parts)) ∙ before

-- ---- in forms that a search finds

pub appends : (a b : List ℕ) (ks : Kinds) → b ≡ a ++ written ks → Appends a ks b
appends a b ks is = record { is = is }

pub appended : (a b : List ℕ) (ks : Kinds) → Appends a ks b → b ≡ a ++ written ks
appended a b ks w = w.is

pub stmt-If-alone : (c : FullExpr) (then : Stmt) → printed_stmt (stmt.If c then None)
    ≡ Word word.If ∷ condition_kinds c ++ printed_stmt then
stmt-If-alone c then = stmt-If c then None ∙ append-nil _

pub stmt-If-else : (c : FullExpr) (then otherwise : Stmt) → printed_stmt (stmt.If c then (Some otherwise))
    ≡ Word word.If ∷ condition_kinds c ++ printed_stmt then ++ Word word.Else ∷ printed_stmt otherwise
stmt-If-else c then otherwise = stmt-If c then (Some otherwise)

-- what is written by steps
pub ruleset writing = (written_behind, written_none, appends, appended)

-- and of each form of a statement
pub ruleset writing_statements = (writing, init-Expr, init-Braces, block_item-Decl, block_item-Stmt, block-of, for_loop-of, stmt-Block, stmt-If-alone, stmt-If-else, stmt-While, stmt-Do, stmt-For, stmt-Break, stmt-Continue, stmt-Return, stmt-Expr)
