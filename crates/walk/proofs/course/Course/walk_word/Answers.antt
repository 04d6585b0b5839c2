-- Invariant: the walk has come to the page of the key, on its course, from where it was.
use Rattle.std.proofs.Common.{◌%◌, ◌<◌, eqb, arith}
use Rattle.bits.specs.Map.{digit}
use Rattle.walk.proofs.Alongs.{along-more, on-more, missing-one}
use Rattle.walk.proofs.course.Course.walk_word.Goals as goal

pub loop-key-preserved : goal.loop-key-preserved
loop-key-preserved c =
    let a = c.args in
    let p = c.loop-key.p in
    let i = c.loop-key.invariant in
    let inside : p.tested < a.end = omega arith in
    let bit = eqb (digit a.word (c.loop-key.key % 64)) 1 in
    rw c.test_page-p.ensures (record {
      here = omega arith;
      on_course = on-more a.self p bit i.on_course (omega arith) (omega arith);
      gaps = omega (arith, missing-one a.self p bit);
      along = λ s j first course shown along.
          along-more s j first a.self course c.loop-key.table p i.on_course (i.along s j first course shown along)
          (omega arith) (omega arith) bit _ c.loop-key.key i.here
          (rw i.here (shown p.tested (omega arith) inside)) (omega arith) c.min.ensures;
    })
