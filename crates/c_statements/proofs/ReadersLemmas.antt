-- The readers of a depth, by those of the depth below.
use Rattle.std.proofs.Common.{◌≡◌, ℕ, suc, ◌+◌, ◌-◌, ◌<◌, List, [], None, true, false, length, refl, ap, arith}
use Rattle.c_tokens.specs.declared.token.Mark.TheVariants as mark
use Rattle.c_tree.specs.declared.statement.Init.{Init}
use Rattle.c_tree.specs.declared.statement.Init.TheVariants as init_as
use Rattle.c_tree.specs.Marks.{Kinds, assign_level}
use Rattle.c_readers.specs.inner.Parser.{Outcome, WithHeight, and_then, pure, sees, after}
use Rattle.c_readers.specs.inner.Readers.{readers}
use Rattle.c_statements.specs.inner.Readers.{stmt, stmt_over, of_depth, init, init_over, braces, inits_from}

-- initialisers in braces are one
abbrev pub braced : Outcome (WithHeight (List Init)) → Outcome (WithHeight Init)
braced o = and_then o (λ parts. pure (init_as.Braces parts.0, 1 + parts.1))

pub init_zero : (names : List (List ℕ)) (depth : ℕ) (ts : Kinds) → depth ≡ 0 → init names depth ts ≡ None
unfolding init
init_zero names depth ts is = ap (λ d. init names d ts) is

pub init_more : (names : List (List ℕ)) (depth : ℕ) → 0 < depth → init names depth ≡ init_over names (readers names (depth - 1)) (init names (depth - 1))
unfolding init
init_more names depth some = let e : depth ≡ suc (depth - 1) = omega arith in ap (λ d. init names d) e

-- an expression where no brace comes
pub init_plain : (names : List (List ℕ)) (depth : ℕ) (ts : Kinds) → 0 < depth → sees mark.LeftBrace ts ≡ false → init names depth ts ≡ and_then ((readers names (depth - 1)).expr assign_level (after mark.LeftBrace ts)) (λ e. pure (init_as.Expr e.0, 1 + e.1))
unfolding init_over
init_plain names depth ts some none = rw (init_more names depth some) (rw none refl)

pub init_braced : (names : List (List ℕ)) (depth : ℕ) (ts : Kinds) → 0 < depth → sees mark.LeftBrace ts ≡ true
    → init names depth ts ≡ braced (inits_from names (readers names (depth - 1)) (init names (depth - 1)) (length (after mark.LeftBrace ts)) [] 0 (after mark.LeftBrace ts))
unfolding init_over braces
init_braced names depth ts some seen = rw (init_more names depth some) (rw seen refl)

pub stmt_zero : (names : List (List ℕ)) (depth : ℕ) (ts : Kinds) → depth ≡ 0 → stmt names depth ts ≡ None
unfolding stmt
stmt_zero names depth ts is = ap (λ d. stmt names d ts) is

pub stmt_more : (names : List (List ℕ)) (depth : ℕ) → 0 < depth → stmt names depth ≡ of_depth stmt_over names (depth - 1)
unfolding stmt
stmt_more names depth some = let e : depth ≡ suc (depth - 1) = omega arith in ap (λ d. stmt names d) e
