-- What the readers answer is of the grammar.
use Rattle.std.proofs.Common.{◌≡◌, ℕ, zero, suc, Bool, List, [], ◌++◌, Some}
use Rattle.c_tokens.specs.declared.token.Mark.TheVariants as mark
use Rattle.c_tree.specs.declared.expression.MemberDecl.{MemberDecl}
use Rattle.c_tree.specs.Marks.{Kinds}
use Rattle.c_tree.specs.Grammar.{SpecReads, DirectReads, AbstractReads}
use Rattle.c_readers.specs.declared.brackets.Bracketed.{Bracketed}
use Rattle.c_readers.specs.inner.Parser.{WithHeight, mismatch}
use Rattle.c_readers.specs.inner.Readers.{Readers, nothing, readers, direct_of, direct, declarator, abstract, spec, struct_body, member, members, members_from}
use Rattle.c_expr.specs.Theorems.{ReadsOnly, AreSound, ReadersAreSound}
use Rattle.c_readers.specs.inner.ParserLemmas.{both_answer, mark_answer}
use Rattle.c_expr.proofs.soundness.AbstractDeclarators.{abstract_reads}
use Rattle.c_expr.proofs.soundness.Declarators.{direct_found, declarator_reads}
use Rattle.c_expr.proofs.soundness.Specs.{NamedReads, TagReads, struct_body_reads, spec_reads, type_word_reads, params_reads}
use Rattle.c_expr.proofs.soundness.Expressions.{level_reads}

-- below the least depth nothing is read
nothing_sound : (names : List (List ℕ)) → AreSound names 0 nothing
nothing_sound names = record {
  expr = λ least ts e h rest is. cc;
  type_word = λ ts t h rest is. cc;
  spec = λ bodies ts s h rest is. cc;
  declarator = λ ts d h rest is. cc;
  direct = λ ts b rest is. cc;
  abstract = λ ts a h rest is. cc;
  params = λ ts p h rest closes is. cc;
}

-- so nothing of the least depth has a struct's body
no_members : (names : List (List ℕ)) (k : ℕ) (found : List MemberDecl) (h : ℕ) (ts : Kinds) (q : WithHeight (List MemberDecl) × Kinds) → members_from names nothing k found h ts ≡ Some q → ⊥
unfolding members_from member
no_members names zero found h ts q is = cc
no_members names (suc k) found h ts q is = cc

no_body : (names : List (List ℕ)) (bodies : Bool) (x : List ℕ) → ReadsOnly (struct_body names nothing x) 0 (TagReads names bodies x)
unfolding struct_body members
no_body names bodies x ts s h rest is = mark_answer mark.LeftBrace ts _ _ is (λ ks begin go. both_answer (members names nothing ks) _ _ go (λ ms us seen last. absurd (no_members names _ [] 0 ks (ms, us) seen)))

direct_sound : (names : List (List ℕ)) (n : ℕ) (inner : Readers) → AreSound names n inner → (ts : Kinds) (b : Bracketed) (rest : Kinds) → direct names inner n ts ≡ Some (b, rest)
    → (prefix : Kinds) × (ts ≡ prefix ++ rest) × ((x : List ℕ) × DirectReads names b.height x prefix (direct_of b.core))
direct_sound names n inner below ts b rest is = let d = direct_found names n inner below ts b rest is in (d.0, d.2, (d.1, d.3))

nothing_read : {A : Type 0} (depth : ℕ) (R : ℕ → Kinds → A → Type 0) → ReadsOnly {A = A} mismatch depth R
nothing_read depth R ts x h rest is = cc

pub readers_are_sound : ReadersAreSound
unfolding readers
readers_are_sound names zero =
    let specs : (bodies : Bool) → ReadsOnly (spec names nothing bodies) 0 (SpecReads names bodies) = spec_reads names 0 nothing (no_body names) in
    record {
      expr = λ least ts e h rest is. cc;
      type_word = λ ts t h rest is. cc;
      spec = specs;
      declarator = λ ts d h rest is. cc;
      direct = direct_sound names 0 nothing (nothing_sound names);
      abstract = λ ts a h rest is. cc;
      params = params_reads names 0 (spec names nothing) mismatch mismatch specs (nothing_read 0 (NamedReads names)) (nothing_read 0 (AbstractReads names));
    }
readers_are_sound names (suc n) =
    let inner = readers names n in
    let below = readers_are_sound names n in
    let specs : (bodies : Bool) → ReadsOnly (spec names inner bodies) (suc n) (SpecReads names bodies) = spec_reads names (suc n) inner (struct_body_reads names n inner below) in
    record {
      expr = level_reads names n inner below;
      type_word = type_word_reads names n inner below;
      spec = specs;
      declarator = declarator_reads names n inner below;
      direct = direct_sound names n inner below;
      abstract = abstract_reads names n inner below;
      params = params_reads names (suc n) (spec names inner) (declarator names inner n) (abstract names inner n) specs (declarator_reads names n inner below) (abstract_reads names n inner below);
    }
