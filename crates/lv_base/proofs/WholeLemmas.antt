-- What several reads or writes in a row do to the bytes that are told.
use Rattle.std.proofs.Common.{◌≡◌, ℕ, ◌+◌, ◌<◌, ◌≤◌, List, [], ◌++◌, Option, None, Some, refl, sym, ap, ◌∙◌, append_assoc, arith, subst, length, take, drop, length-append, take-append-drop}
use Rattle.std.proofs.lemmas.List.{length-take-le}
use Rattle.std.proofs.Math.Seq.{take-append_seam}
use Rattle.std.specs.Io.KnownBytes.{Appends, Consumes, Keeps}
use Rattle.lv_base.specs.Counts.{raised_by}
use Rattle.lv_base.specs.Whole.{Takes, TakesWithin, TakesAbove, AppendsPrefix}
use Rattle.lv_base.proofs.CountsLemmas.{raised_by-raised_by}

Consumes-more : (a b c : Option (List ℕ)) (xs ys : List ℕ) → Consumes a b xs → Consumes b c ys → Consumes a c (xs ++ ys)
Consumes-more None b c xs ys p q = tt
Consumes-more (Some x) None c xs ys p q = absurd p
Consumes-more (Some x) (Some y) None xs ys p q = absurd q
Consumes-more (Some x) (Some y) (Some z) xs ys p q = p ∙ ap (λ l. xs ++ l) q ∙ sym (append_assoc xs ys z)

-- nothing is taken before the first read
pub Takes-none : (a : Option (List ℕ)) (k : ℕ) (xs : List ℕ) → xs ≡ [] → Takes xs a a k k
Takes-none None k xs none = record { taken = tt; counted = rw none (omega arith) }
Takes-none (Some x) k xs none = record { taken = rw none refl; counted = rw none (omega arith) }

-- so many bytes are those of several reads and of one more
length-read : (xs buf : List ℕ) (n : ℕ) → n ≤ length buf → length (xs ++ take n buf) ≡ length xs + n
length-read xs buf n fits = rw (length-append, length-take-le n buf fits) refl

-- what several reads took and the n bytes of one more, with what was counted
Takes-read : (a b c : Option (List ℕ)) (k m j : ℕ) (xs buf : List ℕ) (n : ℕ) → Takes xs a b k m → Consumes b c (take n buf) → j ≡ raised_by n m → n ≤ length buf → Takes (xs ++ take n buf) a c k j
Takes-read a b c k m j xs buf n p q e fits =
    record {
      taken = Consumes-more a b c xs (take n buf) p.taken q;
      counted = e ∙ ap (raised_by n) p.counted ∙ raised_by-raised_by k (length xs) n ∙ ap (λ s. raised_by s k) (sym (length-read xs buf n fits));
    }

-- so they are at most limit bytes
pub TakesWithin-read : (limit : ℕ) (a b c : Option (List ℕ)) (k m j : ℕ) (xs buf : List ℕ) (n : ℕ) → Takes xs a b k m → Consumes b c (take n buf) → j ≡ raised_by n m → n ≤ length buf → length xs + n ≤ limit → TakesWithin limit a c k j
TakesWithin-read limit a b c k m j xs buf n p q e fits small =
    record {
      bytes = xs ++ take n buf;
      few = omega (arith, length-read xs buf n fits);
      takes = Takes-read a b c k m j xs buf n p q e fits;
    }

-- or more
pub TakesAbove-read : (limit : ℕ) (a b c : Option (List ℕ)) (k m j : ℕ) (xs buf : List ℕ) (n : ℕ) → Takes xs a b k m → Consumes b c (take n buf) → j ≡ raised_by n m → n ≤ length buf → limit < length xs + n → TakesAbove limit a c k j
TakesAbove-read limit a b c k m j xs buf n p q e fits large =
    record {
      bytes = xs ++ take n buf;
      many = omega (arith, length-read xs buf n fits);
      takes = Takes-read a b c k m j xs buf n p q e fits;
    }

pub ruleset reads = (Takes-none, TakesWithin-read, TakesAbove-read)

pub Appends-more : (a b c : Option (List ℕ)) (xs ys : List ℕ) → Appends a b xs → Appends b c ys → Appends a c (xs ++ ys)
Appends-more None b c xs ys p q = tt
Appends-more (Some x) None c xs ys p q = absurd p
Appends-more (Some x) (Some y) None xs ys p q = absurd q
Appends-more (Some x) (Some y) (Some z) xs ys p q = q ∙ ap (λ l. l ++ ys) p ∙ append_assoc x xs ys

pub Appends-kept : (a b c : Option (List ℕ)) (xs : List ℕ) → Appends a b xs → Keeps b c → Appends a c xs
Appends-kept None b c xs p q = tt
Appends-kept (Some x) None c xs p q = absurd p
Appends-kept (Some x) (Some y) None xs p q = absurd q
Appends-kept (Some x) (Some y) (Some z) xs p q = q ∙ p

-- what was appended is a prefix of the piece
pub AppendsPrefix-from_split : (a b : Option (List ℕ)) (piece prefix rest : List ℕ) → piece ≡ prefix ++ rest → Appends a b prefix → AppendsPrefix a b piece
AppendsPrefix-from_split a b piece prefix rest e p =
    let whole : take (length prefix) piece ≡ prefix = ap (take (length prefix)) e ∙ take-append_seam prefix rest in
    let Q : List ℕ → Type 0 = λ l. Appends a b l in
    (length prefix, rw e (omega (arith, length-append prefix rest)), subst Q (sym whole) p)

-- the prefix grows by the first bytes of the rest
pub split-more : (piece prefix rest next : List ℕ) (n : ℕ) → piece ≡ prefix ++ rest → next ≡ drop n rest → piece ≡ (prefix ++ take n rest) ++ next
split-more piece prefix rest next n e d = rw (d, append_assoc, take-append-drop) e
