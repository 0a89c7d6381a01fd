-- The search for the line that ends a source: the lines before a place are passed, and none of them ends it.
use Rattle.std.proofs.Common.{◌≡◌, ◌≢◌, ℕ, ◌+◌, ◌≤◌, List, [], ◌∷◌, ◌++◌, length, take, drop, refl, sym, ap, ◌∙◌, arith, append_assoc, codes}
use Rattle.std.specs.List.{All, concat}
use Rattle.std.proofs.Math.Seq.{take-add}
use Rattle.std.proofs.lemmas.List.{append-nil, drop-drop, length-drop, drop_all}
use Rattle.std.proofs.lemmas.List.Elements.{All-push, All-nil, All-same}
use Rattle.job.specs.Lines.{lines_of, content, IsMark, IsCut, HasNoMark}
use Rattle.job.proofs.LinesLemmas.{concat-lines_of}

concat_push : (lines : List (List ℕ)) (line : List ℕ) → concat (lines ++ line ∷ []) ≡ concat lines ++ line
concat_push [] line = append-nil line
concat_push (x ∷ lines) line = ap (λ t. x ++ t) (concat_push lines line) ∙ sym (append_assoc x (concat lines) line)

-- The lines before a place, where a line begins, or the end: none of them ends a source.
pub record Passed (job : List ℕ) (start : ℕ) : Type 0 where
  pub before : List (List ℕ)
  pub within : start ≤ length job
  pub text : take start job ≡ concat before
  pub lines : lines_of job ≡ before ++ lines_of (drop start job)
  pub none : All (λ line. content line ≢ codes "%%") before

pub passed_none : (job : List ℕ) → Passed job 0
passed_none job = record { before = []; within = omega arith; text = refl; lines = refl; none = All-nil (λ line. content line ≢ codes "%%") }

-- the line at the place, which is len bytes long, is passed too
pub passed_more : (job : List ℕ) (start len : ℕ) → Passed job start → len ≤ length (drop start job) → lines_of (drop start job) ≡ take len (drop start job) ∷ lines_of (drop len (drop start job)) → content (take len (drop start job)) ≢ codes "%%" → Passed job (start + len)
passed_more job start len p fits first other =
    let line = take len (drop start job) in
    record {
      before = p.before ++ line ∷ [];
      within = omega (arith, p.within, length-drop start job);
      text = take-add start len job ∙ ap (λ t. t ++ line) p.text ∙ sym (concat_push p.before line);
      lines = p.lines ∙ ap (λ t. p.before ++ t) (first ∙ ap (λ t. line ∷ lines_of t) (drop-drop len start job)) ∙ sym (append_assoc p.before (line ∷ []) (lines_of (drop (start + len) job)));
      none = All-push (λ line. content line ≢ codes "%%") p.before line p.none other;
    }

-- the line at the place ends the source
pub cut_here : (job : List ℕ) (start len : ℕ) → Passed job start → lines_of (drop start job) ≡ take len (drop start job) ∷ lines_of (drop len (drop start job)) → IsMark (take len (drop start job)) → IsCut job (take start job) (drop (start + len) job)
cut_here job start len p first mark = record {
  before = p.before;
  mark = take len (drop start job);
  after = lines_of (drop (start + len) job);
  lines = p.lines ∙ ap (λ t. p.before ++ t) (first ∙ ap (λ t. take len (drop start job) ∷ lines_of t) (drop-drop len start job));
  is_mark = mark;
  first = p.none;
  source_is = p.text;
  script_is = sym (concat-lines_of (drop (start + len) job));
}

pub passed_all : (job : List ℕ) (start : ℕ) → Passed job start → length job ≤ start → HasNoMark job
passed_all job start p end =
    All-same (λ line. content line ≢ codes "%%") (lines_of job) p.before
    (p.lines ∙ ap (λ t. p.before ++ lines_of t) (drop_all start job end) ∙ append-nil p.before) p.none
