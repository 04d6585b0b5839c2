-- A file of the set is looked at, and its head is the best where its number is higher; in the end that is the page to give up, if it is one.
use Rattle.std.proofs.Common.{◌∙◌, sym, arith}
use Rattle.heads.proofs.Besting.{best-higher, best-stays, best-skip, best-victim, best-nothing}
use Rattle.heads.proofs.Heads.victim.Goals.{then-has+then-best-head, then-has+else-best-head, else-has}
use Rattle.heads.proofs.Heads.victim.Goals as goal

pub loop-file-preserved : goal.loop-file-preserved
loop-file-preserved c = λ v g a.
    let l = c.loop-file in
    let i = l.invariant v g a in
    elim c.if-has.branch [
      | then-has+then-best-head x ↦
          let q = x.head-head.ensures v g i.1 in
          rw (x.self-is, x.best-is)
          (best-higher _ g.valid _ c.requires _ l.file l.best i.0 _ (omega arith) (sym c.has.ensures ∙ x.if-has.true) q.0 x.if-best-head.true, q.1)
      | then-has+else-best-head x ↦
          let q = x.head-head.ensures v g i.1 in
          rw (x.self-is, x.best-is)
          (best-stays _ g.valid _ c.requires _ l.file l.best i.0 _ (omega arith) (sym c.has.ensures ∙ x.if-has.true) q.0 x.if-best-head.false, q.1)
      | else-has x ↦
          rw (x.self-is, x.best-is)
          (best-skip _ g.valid _ c.requires _ l.file l.best i.0 (sym c.has.ensures ∙ x.if-has.false), i.1)
    ]

pub returns-then-best-eq0 : goal.returns-then-best-eq0
returns-then-best-eq0 c = λ v g a.
    let l = c.loop-file in
    let i = l.invariant v g a in
    (sym (best-nothing _ g.valid _ c.requires _ l.file l.best i.0 _ c.loop-file-test.false c.end-file-end.ensures.1 c.if-best-eq0.true), i.1)

pub returns : goal.returns
returns c = λ v g a.
    let l = c.loop-file in
    let i = l.invariant v g a in
    (sym (best-victim _ g.valid _ c.requires _ l.file l.best i.0 _ c.loop-file-test.false c.end-file-end.ensures.1 (omega (arith, c.if-best-eq0.false))), i.1)
