-- Where each kind of some tokens can be spelled, so can each of what is printed.
use Rattle.std.proofs.Common.{◌≡◌, ℕ, zero, suc, List, [], ◌∷◌, ◌++◌, refl, sym, subst}
use Rattle.c_tokens.specs.declared.token.Keyword.{Keyword}
use Rattle.c_tokens.specs.declared.token.Kind.{Kind}
use Rattle.c_tokens.specs.declared.token.Kind.TheVariants.{Word, Mark}
use Rattle.c_tokens.specs.declared.token.Mark.{Mark as MarkName}
use Rattle.c_tokens.specs.declared.token.Mark.TheVariants as mark
use Rattle.c_tokens.specs.Spell.{Spells}
use Rattle.c_tokens.specs.Words.{keyword_text, mark_text}
use Rattle.c_tree.specs.Marks.{Kinds, wrapped}

-- some text is a token of this kind
abbrev pub CanBeSpelled : Kind → Type 0
CanBeSpelled kind = (text : List ℕ) × Spells kind text

-- and so is each of these
abbrev pub AllSpelled : Kinds → Type 0
AllSpelled [] = Unit {0}
AllSpelled (t ∷ ts) = CanBeSpelled t × AllSpelled ts

-- the second list can be spelled where the first can
pub record Kept (ts us : Kinds) : Type 0 where
  pub keep : AllSpelled ts → AllSpelled us

all-append : (ts us : Kinds) → AllSpelled ts → AllSpelled us → AllSpelled (ts ++ us)
all-append [] us h k = k
all-append (t ∷ ts) us h k = (h.0, all-append ts us h.1 k)

all-split : (ts us : Kinds) → AllSpelled (ts ++ us) → AllSpelled ts × AllSpelled us
all-split [] us h = (tt, h)
all-split (t ∷ ts) us h = ((h.0, (all-split ts us h.1).0), (all-split ts us h.1).1)

pub kept-none : {ts : Kinds} → Kept ts []
kept-none = record { keep = λ h. tt }

pub kept-mark : {ts us : Kinds} (m : MarkName) → Kept ts us → Kept (Mark m ∷ ts) (Mark m ∷ us)
kept-mark m k = record { keep = λ h. ((mark_text m, refl), k.keep h.1) }

pub kept-word : {ts us : Kinds} (w : Keyword) → Kept ts us → Kept (Word w ∷ ts) (Word w ∷ us)
kept-word w k = record { keep = λ h. ((keyword_text w, refl), k.keep h.1) }

pub kept-token : {ts us : Kinds} (t : Kind) → Kept ts us → Kept (t ∷ ts) (t ∷ us)
kept-token t k = record { keep = λ h. (h.0, k.keep h.1) }

pub kept-append : {ts us vs ws : Kinds} → Kept ts vs → Kept us ws → Kept (ts ++ us) (vs ++ ws)
kept-append {ts} {us} {vs} {ws} k l = record { keep = λ h. all-append vs ws (k.keep (all-split ts us h).0) (l.keep (all-split ts us h).1) }

pub kept-from : {ts vs us : Kinds} → ts ≡ vs → Kept vs us → Kept ts us
kept-from {us = us} is k = subst (λ ks. Kept ks us) (sym is) k

pub kept-to : {ts us ws : Kinds} → us ≡ ws → Kept ts ws → Kept ts us
kept-to {ts} is k = subst (λ ks. Kept ts ks) (sym is) k

spelled-inner : (n : ℕ) (ts : Kinds) → AllSpelled (wrapped n ts) → AllSpelled ts
spelled-inner zero ts h = h
spelled-inner (suc n) ts h = spelled-inner n ts ((all-split (wrapped n ts) (Mark mark.RightParenthesis ∷ []) h.1).0)

spelled-wrapped : (n : ℕ) (ts : Kinds) → AllSpelled ts → AllSpelled (wrapped n ts)
spelled-wrapped zero ts h = h
spelled-wrapped (suc n) ts h = ((mark_text mark.LeftParenthesis, refl), all-append (wrapped n ts) (Mark mark.RightParenthesis ∷ []) (spelled-wrapped n ts h) ((mark_text mark.RightParenthesis, refl), tt))

-- whatever the pairs round them
pub kept-wrapped : {ts us : Kinds} (n m : ℕ) → Kept ts us → Kept (wrapped n ts) (wrapped m us)
kept-wrapped {ts} {us} n m k = record { keep = λ h. spelled-wrapped m us (k.keep (spelled-inner n ts h)) }
