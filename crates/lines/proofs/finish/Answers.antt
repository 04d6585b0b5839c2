-- No text, or one last line as if its line end followed. Assumes nothing.
use Rattle.std.proofs.Common.{sym, ◌∙◌, eqb-true}
use Rattle.lines.proofs.Taking.{finish-short, finish-none, finish-line}
use Rattle.lines.proofs.finish.Goals.{then-is_empty-via-then-is_empty, then-is_empty-via-else-is_empty+then-text-eq0}
use Rattle.lines.proofs.finish.Goals as goal

pub returns-then-is_empty : goal.returns-then-is_empty
returns-then-is_empty c =
    elim c.then-is_empty.branch [
      | then-is_empty-via-then-is_empty w ↦ finish-short _ _ _ (eqb-true _ _ (sym c.is_empty.ensures ∙ w.if-is_empty.true))
      | then-is_empty-via-else-is_empty+then-text-eq0 w ↦ finish-none _ _ _ w.if-text-eq0.true
    ]

pub returns : goal.returns
returns c = finish-line _ _ _ _ c.if-text-eq0.false c.feed.ensures
