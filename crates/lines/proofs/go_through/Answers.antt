-- Each turn answers one line more (`going_more`), whose answer fits; where the loop ends no line ends any more, or no room is left. Assumes nothing.
use Rattle.std.proofs.Common.{rules}
use Rattle.lines.proofs.Taking.{going-fits, going_more, going-rest, going-full}
use Rattle.lines.proofs.go_through.Goals.{then-loop-end-test+else-out-len-ge-ROOM, else-loop-end-test}
use Rattle.lines.proofs.go_through.Goals as goal

pub overflow_add-len : goal.overflow_add-len
overflow_add-len c =
    let fits = going-fits _ _ _ _ _ _ _ _ _ _ _ c.loop-end.invariant _ _ _ _ c.answer_line-len.ensures.gives (search rules) in
    search rules

pub loop-end-preserved : goal.loop-end-preserved
loop-end-preserved c =
    going_more _ _ _ _ _ _ _ _ _ _ _ c.loop-end.invariant c.loop-end-test.true c.if-out-len-ge-ROOM.true _ _ _ c.answer_line-len.ensures.gives (search rules)
    _ c.answer_line-len.ensures.emptied _ c.line_end-end-in-loop-end.ensures

pub returns : goal.returns
returns c =
    let k = c.loop-end.invariant in
    let kept = c.keep_rest-next.ensures in
    elim c.loop-end-test.branch [
      | then-loop-end-test+else-out-len-ge-ROOM w ↦
          going-full _ _ _ _ _ _ _ _ _ _ _ k w.loop-end-test.true w.if-out-len-ge-ROOM.false c.requires.2 _ _ (kept.value w.loop-end-test.true)
      | else-loop-end-test w ↦ going-rest _ _ _ _ _ _ _ _ _ _ _ k w.loop-end-test.false _ _ (kept.rest w.loop-end-test.false)
    ]
