-- There is no room; or the walks fill the map and the table, the rows that are looked up there are the rules', and so few words were read for them.
use Rattle.std.proofs.Common.{length}
use Rattle.rules.specs.Views.{state_of}
use Rattle.questions.proofs.Looked.{too-many, too-few, refused-rows, answered-rows}
use Rattle.questions.proofs.when_read_in.Goals.{then-questions-gt1024-via-then-questions-gt1024}
use Rattle.questions.proofs.when_read_in.Goals.{then-questions-gt1024-via-else-questions-gt1024+then-answers-questions}
use Rattle.questions.proofs.when_read_in.Goals as goal

pub returns-then-questions-gt1024 : goal.returns-then-questions-gt1024
returns-then-questions-gt1024 c =
    let asked = length c.args.questions.now in
    let room = length c.args.answers.now in
    record {
      words =
          refused-rows (state_of c.args.v c.args.cached.now c.args.fetching.now) c.args.questions.now c.args.answers.now
          (elim c.then-questions-gt1024.branch [
            | then-questions-gt1024-via-then-questions-gt1024 w ↦ too-many asked room w.if-questions-gt1024.true
            | then-questions-gt1024-via-else-questions-gt1024+then-answers-questions w ↦
                too-few asked room w.if-questions-gt1024.false w.if-answers-questions.true
          ]);
    }

pub returns : goal.returns
returns c =
    let w = c.use_keys-tally.ensures in
    let questions = c.args.questions.now in
    let answers = c.args.answers.now in
    let words = c.use_keys-tally.result.words in
    record {
      words =
          rw c.answer_rows.ensures
          (answered-rows (state_of c.args.v c.args.cached.now c.args.fetching.now) c.requires _ _ w.keyed questions answers words
          c.if-questions-gt1024.false c.if-answers-questions.false w.words);
    }
