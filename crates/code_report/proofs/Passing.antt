-- Lines that are added one thing after another.
use Rattle.std.proofs.Common.{◌≡◌, ◌∙◌, ℕ, ◌+◌, List, [], ◌++◌, length, ap, refl, sym, subst, append_assoc, append-nil}
use Rattle.code_report.specs.inner.Appending.{Adds, Passes}

module _ {A : Type 0} (Lines : ℕ → List A → List ℕ → Type 0) (first : ℕ) (all : List A) (old : List ℕ) where
  pub passes_none : Passes Lines first all first all old old
  passes_none = record { count = refl; added = []; is = sym (append-nil old); whole = λ rest h. h }

  module _ (mid : ℕ) (behind : List A) (new : List ℕ) (h : Passes Lines first all mid behind old new) where
    pub passes_on : (these : List A) (next : ℕ) (left : List A) (last : List ℕ)
        → behind ≡ these → Passes Lines mid these next left new last → Passes Lines first all next left old last
    passes_on these next left last e k = record {
      count = k.count ∙ ap (λ xs. mid + length xs) (sym e) ∙ h.count;
      added = h.added ++ k.added;
      is = k.is ∙ ap (λ text. text ++ k.added) h.is ∙ append_assoc old h.added k.added;
      whole = λ rest lines.
          subst (λ text. Lines first all text) (sym (append_assoc h.added k.added rest))
          (h.whole (k.added ++ rest) (subst (λ xs. Lines mid xs (k.added ++ rest)) (sym e) (k.whole rest lines)));
    }

    pub passes_end : behind ≡ [] → Lines mid [] [] → Adds (Lines first all) old new
    passes_end e none = record {
      lines = h.added ++ [];
      are = h.whole [] (subst (λ xs. Lines mid xs []) (sym e) none);
      is = h.is ∙ ap (λ text. old ++ text) (sym (append-nil h.added));
    }
