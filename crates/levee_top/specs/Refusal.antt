-- The line and the status of each refusal.
use Rattle.std.specs.Prelude.{◌≡◌, ℕ, List, [], ◌∷◌, ◌++◌, codes, decimal}
use Rattle.elab_pieces.specs.declared.limit.LimitName.{LimitName}
use Rattle.elab_pieces.specs.declared.limit.LimitName.TheVariants as limit
use Rattle.levee_top.specs.declared.refusal.Refusal.{Refusal}
use Rattle.levee_top.specs.declared.refusal.Refusal.TheVariants as refusal
use Rattle.levee_top.specs.declared.status.Status.{Status}
use Rattle.levee_top.specs.declared.status.Status.TheVariants.{Usage, Refused}

abbrev pub limit_word : LimitName → List ℕ
limit_word limit.Functions = codes "functions"
limit_word limit.Code = codes "code"
limit_word limit.Registers = codes "registers"
limit_word limit.Slots = codes "slots"
limit_word limit.Frame = codes "frame"
limit_word limit.Globals = codes "globals"

abbrev pub refusal_line : Refusal → List ℕ
refusal_line refusal.Usage =
    codes "usage: levee check | run [--full] | plain [--full] | gen K [--job] | threads T N [--full]"
refusal_line refusal.Job = codes "refused job"
refusal_line (refusal.Byte line) = codes "refused lex byte " ++ decimal line
refusal_line (refusal.Number line) = codes "refused lex number " ++ decimal line
refusal_line (refusal.Text line) = codes "refused lex text " ++ decimal line
refusal_line (refusal.Comment line) = codes "refused lex comment " ++ decimal line
refusal_line (refusal.Syntax item) = codes "refused syntax " ++ decimal item
refusal_line (refusal.Type item rule) = codes "refused type " ++ decimal item ++ codes " " ++ decimal rule
refusal_line (refusal.Limit which) = codes "refused limit " ++ limit_word which
refusal_line (refusal.ScriptLine n) = codes "refused script " ++ decimal n
refusal_line refusal.ScriptLong = codes "refused script long"

abbrev pub refusal_text : Refusal → List ℕ
refusal_text why = refusal_line why ++ 10 ∷ []

abbrev pub refusal_status : Refusal → Status
refusal_status refusal.Usage = Usage
refusal_status _ = Refused

-- the status and the text are those of this refusal
pub record IsRefused (why : Refusal) (status : Status) (text : List ℕ) : Type 0 where
  pub status_is : status ≡ refusal_status why
  pub text_is : text ≡ refusal_text why
