-- The laws of fields and numbers.
use Rattle.std.proofs.Common.{◌≡◌, ℕ, ℤ, pos, negsuc, ◌^◌, ◌<◌, ◌≤◌, ◌&&◌, cond, List, [], ◌∷◌, refl, ap, ◌∙◌, arith, suc, Some}
use Rattle.std.specs.Prelude.{decimal, nat_le}
use Rattle.std.specs.Fmt.{signed_decimal}
use Rattle.std.proofs.lemmas.Bool.{cond-true, and_from, le-leb}
use Rattle.fields.specs.Fields.{IsPlain}
use Rattle.fields.specs.Numbers.{IsWord, number_of, u32_of}
use Rattle.fields.specs.Reading.{Fields, and_then, pure, mismatch, said, number, small, within, word, end}
use Rattle.fields.specs.Theorems.{FieldLaws}
use Rattle.fields.proofs.FieldLemmas.{plain_digits, fields_are_found, fields_are_the_text, line_is_found}
use Rattle.fields.proofs.NumberLemmas.{IsDecimal-decimal}
use Rattle.fields.proofs.NumberTexts.{below_is, word_is}

plain : (n : ℕ) → n < 2 ^ 64 → IsPlain (decimal n)
plain n few = plain_digits (decimal n) (IsDecimal-decimal n few).digits

plain_word : (v : ℤ) → IsWord v → IsPlain (signed_decimal v)
plain_word (pos n) few = plain n (omega arith)
plain_word (negsuc n) few = plain (suc n) (omega arith)

number_is_read : (n : ℕ) (fs : Fields) → n < 2 ^ 64 → number (decimal n ∷ fs) ≡ Some (n, fs)
unfolding number number_of
number_is_read n fs few = ap (λ r. said r fs) (below_is (2 ^ 64) n (omega arith) few)

small_is_read : (n : ℕ) (fs : Fields) → n < 2 ^ 32 → small (decimal n ∷ fs) ≡ Some (n, fs)
unfolding small u32_of
small_is_read n fs few = ap (λ r. said r fs) (below_is (2 ^ 32) n (omega arith) few)

within_is_read : (low high n : ℕ) (fs : Fields) → high < 2 ^ 32 → low ≤ n → n ≤ high → within low high (decimal n ∷ fs) ≡ Some (n, fs)
unfolding within
within_is_read low high n fs few least greatest =
    ap (λ o. and_then o (λ m. cond (nat_le low m && nat_le m high) (pure m) mismatch)) (small_is_read n fs (omega arith))
    ∙ ap (λ r. r fs) (cond-true (nat_le low n && nat_le n high) (pure n) mismatch (and_from _ _ (le-leb low n least) (le-leb n high greatest)))

u32_is : (n : ℕ) → n < 2 ^ 32 → u32_of (decimal n) ≡ Some n
unfolding u32_of
u32_is n few = below_is (2 ^ 32) n (omega arith) few

word_is_read : (v : ℤ) (fs : Fields) → IsWord v → word (signed_decimal v ∷ fs) ≡ Some (v, fs)
unfolding word
word_is_read v fs few = ap (λ r. said r fs) (word_is v few)

end_is_read : end [] ≡ Some (tt, [])
unfolding end
end_is_read = refl

pub field_laws : FieldLaws
field_laws = record {
  found = fields_are_found;
  text = fields_are_the_text;
  first_line = line_is_found;
  plain = plain;
  plain_word = plain_word;
  digits = λ n few. (IsDecimal-decimal n few).digits;
  number_is_read = number_is_read;
  small_is_read = small_is_read;
  within_is_read = within_is_read;
  word_is_read = word_is_read;
  u32_is = u32_is;
  end_is_read = end_is_read;
}
