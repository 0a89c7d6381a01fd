use Rattle.std.proofs.Common.{rules, ◌∙◌, ap, List, ℕ}
use Rattle.c_readers.specs.inner.Readers.{is_type_name}
use Rattle.c_readers.proofs.NamesSet.{insert_key_answers}
use Rattle.c_readers.proofs.names.Names.push.Goals as goal

pub invariant_of-self-in_default : goal.invariant_of-self-in_default
invariant_of-self-in_default c = λ x. rw c.in_default.ensures.keys (insert_key_answers (λ key. key.items) c.self.inside.list c.self.inside.set.keys c.in_ok-key.key x (c.self.invariant x) ∙ ap (λ (names : List (List ℕ)). is_type_name names x) (search rules))
