-- Turns of the loops that count the tokens that come.
use Rattle.std.proofs.Common.{◌≡◌, ℕ, suc, ◌+◌, true, false, List, [], ◌∷◌, length, refl, sym, ap, subst, ◌∙◌, arith}
use Rattle.c_tokens.specs.declared.token.Mark.{Mark as MarkName}
use Rattle.c_tokens.specs.declared.token.Mark.TheVariants as mark
use Rattle.c_tree.specs.Marks.{Kinds}
use Rattle.c_readers.specs.inner.Parser.{sees, behind, after, run}
use Rattle.c_readers.specs.inner.Readers.{begins_spec, opened}

-- how many were found, and how many tokens are left of so many
pub record IsCounted (whole : ℕ × Kinds) (count : ℕ) (more : ℕ × Kinds) (left : ℕ) (ts : Kinds) : Type 0 where
  pub is : whole ≡ (count + more.0, more.1)
  pub left_is : count + length ts ≡ left

pub counted_start : (more : ℕ × Kinds) (ts : Kinds) → IsCounted more 0 more (length ts) ts
counted_start more ts = record { is = let e : 0 + more.0 ≡ more.0 = omega arith in ap (λ n. (n, more.1)) (sym e); left_is = omega arith }

pub behind_length : (m : MarkName) (ts : Kinds) → sees m ts ≡ true → length ts ≡ suc (length (behind ts))
behind_length m [] is = cc
behind_length m (k ∷ ks) is = omega arith

pub counted_more : {whole more rest : ℕ × Kinds} {count left : ℕ} {ts us : Kinds} → IsCounted whole count more left ts → more ≡ (suc rest.0, rest.1) → length ts ≡ suc (length us) → IsCounted whole (count + 1) rest left us
counted_more {whole} {more} {rest} {count} {left} {ts} {us} h is shorter = record {
  is = h.is ∙ ap (λ p. (count + p.0, p.1)) is ∙ (let e : count + suc rest.0 ≡ (count + 1) + rest.0 = omega arith in ap (λ n. (n, rest.1)) e);
  left_is = let e = h.left_is in omega arith;
}

pub counted_stop : {whole more : ℕ × Kinds} {count left : ℕ} {ts : Kinds} → IsCounted whole count more left ts → more ≡ (0, ts) → whole ≡ (count, ts)
counted_stop {whole} {more} {count} {left} {ts} h is = h.is ∙ ap (λ p. (count + p.0, p.1)) is ∙ (let e : count + 0 ≡ count = omega arith in ap (λ n. (n, ts)) e)

pub none_left : (ts : Kinds) → length ts ≡ 0 → ts ≡ []
none_left [] is = refl
none_left (k ∷ ks) is = absurd (omega arith)

pub run_more : (m : MarkName) (ts : Kinds) → sees m ts ≡ true → run m ts ≡ (suc (run m (behind ts)).0, (run m (behind ts)).1)
run_more m [] is = cc
run_more m (k ∷ ks) is = rw is

pub run_stop : (m : MarkName) (ts : Kinds) → sees m ts ≡ false → run m ts ≡ (0, ts)
run_stop m [] is = refl
run_stop m (k ∷ ks) is = rw is

pub after_seen : (m : MarkName) (ts : Kinds) → sees m ts ≡ true → after m ts ≡ behind ts
unfolding after
after_seen m ts is = rw is

pub opened_more : (names : List (List ℕ)) (ts : Kinds) → sees mark.LeftParenthesis ts ≡ true → begins_spec names (behind ts) ≡ false
    → opened names ts ≡ (suc (opened names (behind ts)).0, (opened names (behind ts)).1)
opened_more names [] is other = cc
opened_more names (k ∷ ks) is other = rw (is, other)

pub opened_stop : (names : List (List ℕ)) (ts : Kinds) → sees mark.LeftParenthesis ts ≡ false → opened names ts ≡ (0, ts)
opened_stop names [] is = refl
opened_stop names (k ∷ ks) is = rw is

pub opened_type : (names : List (List ℕ)) (ts : Kinds) → sees mark.LeftParenthesis ts ≡ true → begins_spec names (behind ts) ≡ true → opened names ts ≡ (0, ts)
opened_type names [] is begins = refl
opened_type names (k ∷ ks) is begins = rw (is, begins)

-- one more of the mark was taken
pub counted_mark : (m : MarkName) {whole : ℕ × Kinds} {count left : ℕ} {ts : Kinds} (us : Kinds) → IsCounted whole count (run m ts) left ts → sees m ts ≡ true → us ≡ behind ts → IsCounted whole (count + 1) (run m us) left us
counted_mark m {whole} {count} {left} {ts} us h seen is = subst (λ vs. IsCounted whole (count + 1) (run m vs) left vs) (sym is) (counted_more h (run_more m ts seen) (behind_length m ts seen))
