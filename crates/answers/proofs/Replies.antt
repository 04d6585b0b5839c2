-- A call's answer in a buffer: how long it is, and its line end. Assumes nothing.
use Rattle.std.proofs.Common.{ℕ, ◌<◌, ◌≤◌, ◌≡◌, List, ◌++◌, length, arith}
use Rattle.rules.specs.Lines.{numbers_of, answer_line}
use Rattle.rules.specs.Entries.{letter}
use Rattle.rules.specs.declared.Answer.{Answer}
use Rattle.rules.specs.declared.Answer.TheVariants.{Refused, Hit, Wait, Fetch, Stolen, Replaced, Ran}
use Rattle.text.specs.Written.{Put}
use Rattle.text.proofs.Puts.{put-more}
use Rattle.answers.proofs.Rows.{line-length}
use Rattle.answers.specs.Responses.{line_end}

numbers-few : (a : Answer) → length (numbers_of a) ≤ 2
numbers-few (Refused why) = omega arith
numbers-few (Hit file page) = omega arith
numbers-few (Wait file page) = omega arith
numbers-few (Fetch file page) = omega arith
numbers-few (Stolen file page) = omega arith
numbers-few (Replaced file page) = omega arith
numbers-few (Ran fetches reads) = omega arith
numbers-few other = omega arith

-- a call's answer is at most 23 bytes long
pub answer-length : (a : Answer) → length (answer_line a) ≤ 23
answer-length a = omega (arith, line-length (letter a) (numbers_of a), numbers-few a)

-- the line of an equal answer
pub case-is : (l m : List ℕ) (i : ℕ) (a b : Answer) → a ≡ b → Put l 0 (answer_line b) m i → Put l 0 (answer_line a) m i
case-is l m i a b e p = rw e p

pub ruleset same = (case-is)

-- a line, then its end
pub line-ended : (before between after line : List ℕ) (at len : ℕ) → Put before 0 line between at → Put between at line_end after len
    → length line < length before → Put before 0 (line ++ line_end) after len
line-ended before between after line at len p q h = put-more before between after 0 at len line line_end p q (omega arith)
