use Rattle.std.proofs.Common.{◌≡◌, ℕ, List, ◌∷◌, ◌≤◌, length, drop, get_or, ap, ◌∙◌, arith, rules, not, nat_eq}
use Rattle.std.specs.List.{prefix_len}
use Rattle.std.proofs.lemmas.List.{take_rest}
use Rattle.c_tokens.proofs.ListLemmas.{split_two}
use Rattle.c_tokens.proofs.soundness.Blanks.{block_part, open_comment, line_part, line_part_inside}
use Rattle.c_tokens.proofs.blank.blank_part_len.Goals as goal
use Rattle.c_tokens.proofs.blank.blank_part_len.Goals.{After-line_len}

line_len_is : (c : After-line_len) → c.line_len.result ≡ prefix_len (λ b. not (nat_eq b 10)) (drop 2 c.args.bytes.now)
line_len_is c = c.line_len.ensures ∙ ap (prefix_len (λ b. not (nat_eq b 10))) (take_rest c.args.bytes.now 2)

pub overflow_add-result : goal.overflow_add-result
overflow_add-result c = let inside = line_part_inside c.args.bytes.now c.line_len.result (omega arith) (line_len_is c) in search rules

pub returns-in-47-clause-inside : goal.returns-in-47-clause-inside
returns-in-47-clause-inside c = let inside = line_part_inside c.args.bytes.now c.line_len.result (omega arith) (line_len_is c) in (omega arith, inside)

pub returns-in-47-clause-blank : goal.returns-in-47-clause-blank
returns-in-47-clause-blank c =
    line_part c.args.bytes.now c.line_len.result (split_two c.args.bytes.now 47 47 (omega arith) (search rules) (search rules)) (line_len_is c)

opens : (bytes : List ℕ) → 2 ≤ length bytes → get_or bytes 0 0 ≡ 47 → get_or bytes 1 0 ≡ 42 → bytes ≡ 47 ∷ 42 ∷ drop 2 bytes
opens bytes long one two = split_two bytes 47 42 long one two

pub returns-in_ok-close_at-in-47-2-clause-blank : goal.returns-in_ok-close_at-in-47-2-clause-blank
returns-in_ok-close_at-in-47-2-clause-blank c =
    let bytes = c.args.bytes.now in
    let place = c.in_ok-close_at-in-47-2.field-0 in
    let found = c.in_ok-close_at-in-47-2.ensures in
    let body = take_rest bytes 2 in
    block_part bytes place (opens bytes (omega arith) (search rules) (search rules))
    (rw body at found.inside) (rw body at found.here) (rw body at found.first)

pub returns-in_err-close_at-in-47-2-clause-blank : goal.returns-in_err-close_at-in-47-2-clause-blank
returns-in_err-close_at-in-47-2-clause-blank c =
    let bytes = c.args.bytes.now in
    let body = take_rest bytes 2 in
    rw c.from_residual.ensures (open_comment bytes (opens bytes (omega arith) (search rules) (search rules)) (rw body at c.in_err-close_at-in-47-2.ensures.none))
