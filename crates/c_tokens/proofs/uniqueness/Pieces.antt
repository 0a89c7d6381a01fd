-- Pieces of characters and strings: where one ends is forced, and so is where several do.
use Rattle.std.proofs.Common.{◌≡◌, ◌≢◌, ℕ, inl, inr, Some, List, [], ◌∷◌, ◌++◌, refl, sym, ap, ◌∙◌, append_assoc, append-nil}
use Rattle.std.proofs.lemmas.Bool.{eqb-false}
use Rattle.c_tokens.specs.Spell.{escape, IsPiece, ArePieces, IsCharacter, IsString}
use Rattle.c_tokens.specs.inner.Scan.{BeginsNoPiece}

-- one piece begins some bytes in one way
pub IsPiece-same : (quote : ℕ) (piece other x y : List ℕ) (byte second : ℕ) → piece ++ x ≡ other ++ y
    → IsPiece quote piece byte → IsPiece quote other second → (piece ≡ other) × (byte ≡ second) × (x ≡ y)
IsPiece-same quote piece other x y byte second e (inl p) (inl q) =
    let same : byte ∷ x ≡ second ∷ y = ap (λ l. l ++ x) (sym p.0) ∙ e ∙ ap (λ l. l ++ y) q.0 in
    let bytes : byte ≡ second = cc in
    (p.0 ∙ ap (λ b. b ∷ []) bytes ∙ sym q.0, bytes, cc)
IsPiece-same quote piece other x y byte second e (inl p) (inr (escaped, q, means)) =
    let same : byte ∷ x ≡ 92 ∷ escaped ∷ y = ap (λ l. l ++ x) (sym p.0) ∙ e ∙ ap (λ l. l ++ y) q in
    let bytes : byte ≡ 92 = cc in
    absurd (p.3 bytes)
IsPiece-same quote piece other x y byte second e (inr (escaped, p, means)) (inl q) =
    let same : 92 ∷ escaped ∷ x ≡ second ∷ y = ap (λ l. l ++ x) (sym p) ∙ e ∙ ap (λ l. l ++ y) q.0 in
    let bytes : second ≡ 92 = cc in
    absurd (q.3 bytes)
IsPiece-same quote piece other x y byte second e (inr (escaped, p, means)) (inr (also, q, gives)) =
    let same : 92 ∷ escaped ∷ x ≡ 92 ∷ also ∷ y = ap (λ l. l ++ x) (sym p) ∙ e ∙ ap (λ l. l ++ y) q in
    let bytes : escaped ≡ also = cc in
    let value : Some byte ≡ Some second = sym means ∙ ap escape bytes ∙ gives in
    (p ∙ ap (λ b. 92 ∷ b ∷ []) bytes ∙ sym q, cc, cc)

-- the closing quote begins no piece
pub BeginsNoPiece-quote : (quote : ℕ) (rest : List ℕ) → quote ≢ 92 → BeginsNoPiece quote (quote ∷ rest)
BeginsNoPiece-quote quote rest plain piece behind byte e (inl p) =
    let same : quote ∷ rest ≡ byte ∷ behind = e ∙ ap (λ l. l ++ behind) p.0 in
    let bytes : byte ≡ quote = cc in
    p.4 bytes
BeginsNoPiece-quote quote rest plain piece behind byte e (inr (escaped, p, means)) =
    let same : quote ∷ rest ≡ 92 ∷ escaped ∷ behind = e ∙ ap (λ l. l ++ behind) p in
    let bytes : quote ≡ 92 = cc in
    plain bytes

-- pieces up to where no further one begins are forced
pub ArePieces-same : (quote : ℕ) (text other x y bytes seconds : List ℕ) → text ++ x ≡ other ++ y
    → ArePieces quote text bytes → ArePieces quote other seconds → BeginsNoPiece quote x → BeginsNoPiece quote y
    → (text ≡ other) × (bytes ≡ seconds)
ArePieces-same quote text other x y [] [] e p q no_x no_y = (p ∙ sym q, refl)
ArePieces-same quote text other x y [] (second ∷ seconds) e p (piece, rest, q, is_piece, more) no_x no_y =
    let begins : x ≡ piece ++ (rest ++ y) = ap (λ l. l ++ x) (sym p) ∙ e ∙ ap (λ l. l ++ y) q ∙ append_assoc piece rest y in
    absurd (no_x piece (rest ++ y) second begins is_piece)
ArePieces-same quote text other x y (byte ∷ bytes) [] e (piece, rest, p, is_piece, more) q no_x no_y =
    let begins : y ≡ piece ++ (rest ++ x) = ap (λ l. l ++ y) (sym q) ∙ sym e ∙ ap (λ l. l ++ x) p ∙ append_assoc piece rest x in
    absurd (no_y piece (rest ++ x) byte begins is_piece)
ArePieces-same quote text other x y (byte ∷ bytes) (second ∷ seconds) e (piece, rest, p, is_piece, more) (also, left, q, is_also, others) no_x no_y =
    let same : piece ++ (rest ++ x) ≡ also ++ (left ++ y) =
    sym (append_assoc piece rest x) ∙ ap (λ l. l ++ x) (sym p) ∙ e ∙ ap (λ l. l ++ y) q ∙ append_assoc also left y in
    let first = IsPiece-same quote piece also (rest ++ x) (left ++ y) byte second same is_piece is_also in
    let later = ArePieces-same quote rest left x y bytes seconds first.2 more others no_x no_y in
    (p ∙ (λ i. first.0 i ++ later.0 i) ∙ sym q, λ i. first.1 i ∷ later.1 i)

-- one more piece behind others
pub ArePieces-push : (quote : ℕ) (text bytes piece : List ℕ) (byte : ℕ) → ArePieces quote text bytes → IsPiece quote piece byte
    → ArePieces quote (text ++ piece) (bytes ++ byte ∷ [])
ArePieces-push quote text [] piece byte p last = (piece, [], ap (λ l. l ++ piece) p ∙ sym (append-nil piece), last, refl)
ArePieces-push quote text (b ∷ bs) piece byte (prefix, rest, p, first, more) last =
    (prefix, rest ++ piece, ap (λ l. l ++ piece) p ∙ append_assoc prefix rest piece, first, ArePieces-push quote rest bs piece byte more last)

-- a character begins some bytes in one way, and so does a string
pub IsCharacter-same : (text other x y : List ℕ) (byte second : ℕ) → text ++ x ≡ other ++ y
    → IsCharacter text byte → IsCharacter other second → (text ≡ other) × (byte ≡ second)
IsCharacter-same text other x y byte second e (piece, p, is_piece) (also, q, is_also) =
    let same : 39 ∷ ((piece ++ 39 ∷ []) ++ x) ≡ 39 ∷ ((also ++ 39 ∷ []) ++ y) = ap (λ l. l ++ x) (sym p) ∙ e ∙ ap (λ l. l ++ y) q in
    let tails : (piece ++ 39 ∷ []) ++ x ≡ (also ++ 39 ∷ []) ++ y = cc in
    let cut = IsPiece-same 39 piece also (39 ∷ x) (39 ∷ y) byte second (sym (append_assoc piece (39 ∷ []) x) ∙ tails ∙ append_assoc also (39 ∷ []) y) is_piece is_also in
    (p ∙ ap (λ l. 39 ∷ l ++ 39 ∷ []) cut.0 ∙ sym q, cut.1)

pub IsString-same : (text other x y bytes seconds : List ℕ) → text ++ x ≡ other ++ y
    → IsString text bytes → IsString other seconds → (text ≡ other) × (bytes ≡ seconds)
IsString-same text other x y bytes seconds e (pieces, p, are) (also, q, are_also) =
    let same : 34 ∷ ((pieces ++ 34 ∷ []) ++ x) ≡ 34 ∷ ((also ++ 34 ∷ []) ++ y) = ap (λ l. l ++ x) (sym p) ∙ e ∙ ap (λ l. l ++ y) q in
    let tails : (pieces ++ 34 ∷ []) ++ x ≡ (also ++ 34 ∷ []) ++ y = cc in
    let plain = eqb-false 34 92 refl in
    let cut = ArePieces-same 34 pieces also (34 ∷ x) (34 ∷ y) bytes seconds (sym (append_assoc pieces (34 ∷ []) x) ∙ tails ∙ append_assoc also (34 ∷ []) y)
    are are_also (BeginsNoPiece-quote 34 x plain) (BeginsNoPiece-quote 34 y plain) in
    (p ∙ ap (λ l. 34 ∷ l ++ 34 ∷ []) cut.0 ∙ sym q, cut.1)
