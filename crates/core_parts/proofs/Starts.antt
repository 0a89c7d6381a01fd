-- A part, and the start of a thread.
use Rattle.std.proofs.Common.{◌≡◌, ◌≢◌, inl, inr, ℕ, ◌+◌, ◌<◌, ◌≤◌, Bool, List, [], ◌∷◌, ◌++◌, Some, None, refl, ap, sym, subst, ◌∙◌, ⊎_elim, arith}
use Rattle.core_ir.specs.declared.role.Role.TheVariants as role
use Rattle.core_ir.specs.Outline.{Outline}
use Rattle.core_ir.specs.Flow.{IsAmong, Stands}
use Rattle.core_parts.specs.Outlines.{forking, starting_argument, starting_function}
use Rattle.core_parts.specs.Pieces.{IsLive, IsOwned, IsPart, end_of}
use Rattle.core_parts.specs.Places.{Forks, IsFresh, IsLinked, IsStart, Served}
use Rattle.core_parts.proofs.PartsCompose.{live_front, live_owned, same_register}
use Rattle.core_parts.proofs.PiecesCompose.{owned_then}
use Rattle.core_parts.proofs.Tails.{all_one, all_two, all_three, first_there, last_live, live_serves, no_jump, owned_none, owned_one, second_there, tail_part, third_there, unreached}
use Rattle.core_parts.proofs.Windows.{in_back, one, split, within}

started_same : (t u f g : ℕ) → role.StartFn t f ≡ role.StartFn u g → f ≡ g
started_same t u f g e = cc

module _ (c : List Outline) (start a b : ℕ) (live : List ℕ) (f x : ℕ) (h : IsPart c start a b live) (is_f : IsAmong live f) (is_x : IsAmong live x) (no_number : (k : ℕ) → Forks c start k f → ⊥) where
  abbrev run : List Outline
  run = forking b ∷ starting_argument b x ∷ starting_function b f ∷ []

  abbrev base : ℕ
  base = end_of c start

  abbrev whole : List Outline
  whole = c ++ run

  silent : (u : ℕ) (i : Outline) → Stands run base u i → i.target ≡ None
  silent = all_three (λ u i. i.target ≡ None) base (forking b) (starting_argument b x) (starting_function b f) refl refl refl

  owned : IsOwned run base b (b + 1)
  owned = owned_then (forking b ∷ []) (starting_argument b x ∷ starting_function b f ∷ []) base b (b + 1) (b + 1) (owned_one (forking b) base b refl)
      (owned_then (starting_argument b x ∷ []) (starting_function b f ∷ []) (base + 1) (b + 1) (b + 1) (b + 1) (owned_none (starting_argument b x) (base + 1) (b + 1) refl) (owned_none (starting_function b f) (base + 1 + 1) (b + 1) refl))

  -- only the first defines the number's register
  number_live : IsLive run base b
  number_live = live_front (forking b ∷ []) (starting_argument b x ∷ starting_function b f ∷ []) base b
      (λ q l j. absurd (no_jump (forking b ∷ []) base (all_one (λ u i. i.target ≡ None) base (forking b) refl) q l j))
      (all_two (λ u i. i.defined ≢ Some b) (base + 1) (starting_argument b x) (starting_function b f) (λ is. cc) (λ is. cc))
      (last_live [] (forking b) base b (no_jump (forking b ∷ []) base (all_one (λ u i. i.target ≡ None) base (forking b) refl)) refl)

  fork_there : Stands whole start base (forking b)
  fork_there = in_back c run start base (forking b) (first_there (forking b) (starting_argument b x ∷ starting_function b f ∷ []) base)

  low_f : f < b
  low_f = (live_owned c start a b f h.is_section.owned (h.lives f is_f)).1

  -- the number serves the two behind it
  number_serves : (u : ℕ) → base < u → u ≤ base + 2 → Served whole start u b
  number_serves u from to = record {
    server = base;
    serves = record {
      by = forking b;
      there = fork_there;
      defines = refl;
      before = from;
      nearest = λ k i here sk ku. ⊎_elim
          (λ (y : Stands c start k i). let z : k < base = within c start k i y in absurd (omega arith))
          (λ (y : Stands run base k i). all_three (λ k i. base < k → i.defined ≢ Some b) base (forking b) (starting_argument b x) (starting_function b f) (λ lt. absurd (omega arith)) (λ lt is. cc) (λ lt is. cc) k i y sk)
          (split c run start k i here);
    };
    unbroken = λ q l j sl lu. absurd (unreached c run start a b (b + 1) live h silent owned l sl q j);
  }

  start_there : IsStart whole start base b f
  start_there = record {
    number = record { instruction = forking b; there = fork_there; is = refl; defines = refl };
    argument = record {
      instruction = starting_argument b x;
      there = in_back c run start (base + 1) (starting_argument b x) (second_there (forking b) (starting_argument b x) (starting_function b f ∷ []) base);
      is = refl;
    };
    function = record {
      instruction = starting_function b f;
      there = in_back c run start (base + 2) (starting_function b f) (third_there (forking b) (starting_argument b x) (starting_function b f) [] base);
      is = refl;
    };
    argument_unreached = unreached c run start a b (b + 1) live h silent owned (base + 1) (omega arith);
    function_unreached = unreached c run start a b (b + 1) live h silent owned (base + 2) (omega arith);
  }

  -- what defines the function's register stands in the part
  defined_before : (s : ℕ) (i : Outline) → Stands whole start s i → i.defined ≡ Some f → Stands c start s i
  defined_before s i here is = ⊎_elim
      (λ (y : Stands c start s i). y)
      (λ (y : Stands run base s i). let o : b ≤ f = (owned.owned s f i y is).0 in absurd (let l = low_f in omega arith))
      (split c run start s i here)

  fresh_there : IsFresh whole start (base + 1 + 1) f
  fresh_there = record {
    no_number = λ s serves has.
        let same : serves.by ≡ has.instruction = one whole start s serves.by has.instruction serves.there has.there in
        no_number s (record { instruction = serves.by; there = defined_before s serves.by serves.there serves.defines; is = ap (λ (i : Outline). i.role) same ∙ has.is; defines = serves.defines });
    first_start = λ s v t g serves before has other.
        let same : serves.by ≡ other.by = one whole start s serves.by other.by serves.there other.there in
        let same_f : f ≡ g = same_register f g (sym serves.defines ∙ ap (λ (i : Outline). i.defined) same ∙ other.defines) in
        ⊎_elim
        (λ (y : Stands c start v has.instruction). h.fresh f v t is_f (record { instruction = has.instruction; there = y; is = subst (λ n. has.instruction.role ≡ role.StartFn t n) (sym same_f) has.is }))
        (λ (y : Stands run base v has.instruction).
        all_three (λ v i. v < base + 1 + 1 → i.role ≡ role.StartFn t g → ⊥) base (forking b) (starting_argument b x) (starting_function b f) (λ lt is. cc) (λ lt is. cc) (λ lt is. omega arith) v has.instruction y before has.is)
        (split c run start v has.instruction has.there);
  }

  linked : (frame : Bool) (u : ℕ) (i : Outline) → Stands run base u i → IsLinked frame whole start u i
  linked frame = all_three (λ u i. IsLinked frame whole start u i) base (forking b) (starting_argument b x) (starting_function b f)
      (record { served = λ r is. absurd is; fits = tt; framed = tt; named = tt })
      (record {
        served = λ r is. elim is [
          | inl e ↦ subst (λ n. Served whole start (base + 1) n) e (number_serves (base + 1) (omega arith) (omega arith))
          | inr rest ↦ elim rest [
            | inl e ↦ subst (λ n. Served whole start (base + 1) n) e (live_serves c run start a b (b + 1) live h silent owned x (base + 1) is_x (omega arith) (omega arith))
            | inr z ↦ absurd z
          ]
        ];
        fits = record { first = base; thread = b; function = f; is = refl; run = start_there };
        framed = tt;
        named = tt;
      })
      (record {
        served = λ r is. elim is [
          | inl e ↦ subst (λ n. Served whole start (base + 1 + 1) n) e (number_serves (base + 1 + 1) (omega arith) (omega arith))
          | inr rest ↦ elim rest [
            | inl e ↦ subst (λ n. Served whole start (base + 1 + 1) n) e (live_serves c run start a b (b + 1) live h silent owned f (base + 1 + 1) is_f (omega arith) (omega arith))
            | inr z ↦ absurd z
          ]
        ];
        fits = (record { first = base; thread = b; function = f; is = omega arith; run = start_there }, fresh_there);
        framed = tt;
        named = inr (inl refl);
      })

  pub starts : IsPart whole start a (b + 1) (b ∷ [])
  starts = tail_part c run start a b (b + 1) live h silent owned (b ∷ []) linked
      (λ r is. elim is [
        | inl e ↦ inr (subst (IsLive run base) e number_live)
        | inr z ↦ absurd z
      ])
      (λ r k t is has. elim is [
        | inl e ↦ all_three (λ u i. i.role ≡ role.StartFn t r → ⊥) base (forking b) (starting_argument b x) (starting_function b f) (λ is. cc) (λ is. cc)
            (λ same. let n : f ≡ r = started_same b t f r same in let l = low_f in omega arith) k has.instruction has.there has.is
        | inr z ↦ absurd z
      ])
