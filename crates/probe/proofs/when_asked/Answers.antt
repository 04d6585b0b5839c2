-- The records are made of the numbers, the call answers them, and its answers are written as numbers.
use Rattle.std.proofs.Common.{◌≡◌, length, replicate, ◌∙◌, length-take-le, arith, ◌≤◌}
use lib.ListN.{length-replicate}
use Rattle.rules.specs.declared.Question.{Question}
use Rattle.probe.specs.Probes.{unanswered}
use Rattle.probe.proofs.Rows.{when-made}
use Rattle.probe.proofs.when_asked.Goals as goal

-- what the records are before they are made
abbrev none : Question
none = record { file = 0; page = 0 }

pub returns : goal.returns
returns c =
    let room = c.min-room.result in
    let few : room ≤ 1025 = omega (arith, c.min-room.ensures) in
    let long : length c.when_read-words.new.answers ≡ room = c.when_read-words.auto.answers ∙ length-take-le room (replicate 1025 unanswered) few in
    when-made c.args.q.now c.args.numbers.now c.args.answers.now c.min-asked.result room c.min-asked.ensures c.min-room.ensures
    c.put_questions.new.questions (replicate 1025 none) c.when_read-words.new.answers (replicate 1025 unanswered)
    c.when_read-words.result c.put_numbers.new.answers c.listing_number.result (length-replicate 1025 none) c.put_questions.ensures long
    c.when_read-words.ensures.words.1 c.put_numbers.ensures c.listing_number.ensures
