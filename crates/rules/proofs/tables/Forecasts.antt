-- A.4 as a table: what questions are answered, how many words are read for them, and what the lent list has after the call. Each row is computed from the
-- rules. Assumes nothing.
use Prim.Native.Nat.{ℕ}
use mathlib.Core.Path.{refl}
use mathlib.Core.List.{List, [], ◌∷◌, ◌++◌}
use lib.ListN.{take, replicate}
use Rattle.bits.specs.Map.{bit, put_bit}
use Rattle.rules.specs.Lists.{range, each, only, any, least, some_of, total}
use Rattle.rules.specs.Pages.{pages}
use Rattle.rules.specs.Readers.{no_reader}
use Rattle.rules.specs.UseTimes.{before, present, missing, pruned, sees, look_ahead_of, time_for, use_for, use_key, ahead, seen}
use Rattle.rules.specs.Schedules.{count}
use Rattle.rules.specs.Refusals.{refusal_number}
use Rattle.rules.specs.Listings.{Written, count_in, refused_in}
use Rattle.rules.specs.Questions.{when_of, answer_of, words_of, words_read, asked, questions_of}
use Rattle.rules.proofs.tables.Soundings.{state_with, reader, up_to, at, f0}
use Rattle.rules.proofs.tables.Edges.{Row, Hold}
use Rattle.rules.specs.declared.State.{State}
use Rattle.rules.specs.declared.Reader.{Reader}
use Rattle.rules.specs.declared.Condition.TheVariants.{Waiting}
use Rattle.rules.specs.declared.Refusal.{Refusal}
use Rattle.rules.specs.declared.Refusal.TheVariants.{NoFile, NoRequest}
use Rattle.std.specs.declared.result.Result.{Result}
use Rattle.std.specs.declared.result.Result.TheVariants.{Ok, Err}
use Rattle.rules.specs.declared.Question.{Question}
use Rattle.rules.specs.declared.When.{When}
use Rattle.rules.specs.declared.When.TheVariants.{At, Behind, NotSeen}
use Rattle.rules.specs.declared.Forecast.{Forecast}

-- an answer as numbers: a time behind 200 and before its slot; 100, behind; 101, not seen; a refusal's own; 0 where no question is answered
abbrev numbers : Result When Refusal → List ℕ
numbers (Ok (At time slot)) = 200 ∷ time ∷ slot ∷ []
numbers (Ok Behind) = 100 ∷ []
numbers (Ok NotSeen) = 101 ∷ []
numbers (Err NoRequest) = 0 ∷ []
numbers (Err why) = refusal_number why ∷ []

unfoldable pub all : List Forecast → List ℕ
all [] = []
all (f ∷ fs) = numbers f.when ++ all fs

-- the refusal's number, the words read, and the lent list after the call
unfoldable pub told : Written (Result ℕ Refusal) Forecast → List ℕ
told w = refused_in w.answer ∷ count_in w.answer ∷ all w.list

abbrev question : ℕ → ℕ → Question
question file page = record { file = file; page = page }

-- a lent list of n records that no question is answered with: 14 is no question's
abbrev blank : ℕ → List Forecast
blank n = replicate n (record { when = Err NoRequest })

abbrev row : List ℕ → List ℕ → Row
row found due = record { found = found; due = due }

-- ---- one question

-- the first sounding's state: 16 pages, L 40, T 20, cached 1, 2, 3, 5, 7, the reader in slot 0 at 3, w 10
abbrev sounded : State
sounded = state_with 16 0 40 20 (16 ∷ []) (at 3 10 ∷ []) (f0 (1 ∷ 2 ∷ 3 ∷ 5 ∷ 7 ∷ [])) []

abbrev of-sounded : ℕ → ℕ → List ℕ → Row
of-sounded file page due = row (numbers (answer_of sounded file page)) due

-- page 5 of file 0, which has 8 pages, by the turn and the readers
abbrev fifth : ℕ → List Reader → List ℕ → Row
fifth turn readers due = row (numbers (answer_of (state_with 16 turn 40 0 (8 ∷ []) readers (f0 (5 ∷ [])) (f0 (6 ∷ []))) 0 5)) due

unfoldable pub singles : List Row
singles =
    of-sounded 0 3 (100 ∷ [])
    ∷ of-sounded 0 4 (200 ∷ 10 ∷ 0 ∷ [])
    ∷ of-sounded 0 5 (200 ∷ 40 ∷ 0 ∷ [])
    ∷ of-sounded 0 6 (200 ∷ 50 ∷ 0 ∷ [])
    ∷ of-sounded 0 8 (101 ∷ [])
    ∷ of-sounded 0 17 (8 ∷ [])
    ∷ of-sounded 0 0 (8 ∷ [])
    ∷ of-sounded 1 1 (3 ∷ [])
    -- 3 is listed before 8
    ∷ of-sounded 1 0 (3 ∷ [])
    ∷ of-sounded 8 0 (3 ∷ [])
    -- the slot, not its seat distance, which is 13
    ∷ fifth 5 (no_reader ∷ no_reader ∷ up_to 8 3 10 ∷ []) (200 ∷ 20 ∷ 2 ∷ [])
    -- the same time for two: the seat distance decides
    ∷ fifth 0 (up_to 8 3 10 ∷ up_to 8 4 20 ∷ []) (200 ∷ 20 ∷ 0 ∷ [])
    ∷ fifth 1 (up_to 8 3 10 ∷ up_to 8 4 20 ∷ []) (200 ∷ 20 ∷ 1 ∷ [])
    -- behind one reader and ahead of another; past a last page; a waiting reader counts
    ∷ fifth 0 (up_to 8 5 10 ∷ up_to 8 3 10 ∷ []) (200 ∷ 20 ∷ 1 ∷ [])
    ∷ fifth 0 (up_to 8 5 10 ∷ up_to 8 0 10 ∷ []) (101 ∷ [])
    ∷ fifth 0 (up_to 8 5 10 ∷ up_to 4 3 10 ∷ []) (100 ∷ [])
    ∷ fifth 0 (reader Waiting 0 10 3 8 ∷ []) (200 ∷ 20 ∷ 0 ∷ [])
    -- a file without readers
    ∷ fifth 0 [] (100 ∷ [])
    ∷ []

pub singles-hold : Hold singles
unfolding singles bit put_bit least some_of before present missing pruned sees time_for use_for use_key ahead seen when_of answer_of
singles-hold = refl

-- ---- the words

-- of these pages of file 0
abbrev words : List ℕ → ℕ → Row
words ps n = row (words_of (f0 ps) ∷ []) (n ∷ [])

-- read for these readers: a file of 8 pages, L 40, T 0, none cached
abbrev reads : List Reader → ℕ → Row
reads readers n = row (words_read (state_with 16 0 40 0 (8 ∷ []) readers [] []) ∷ []) (n ∷ [])

unfoldable pub counts : List Row
counts =
    -- pages 64 and 65 are in two words
    words (63 ∷ 64 ∷ 65 ∷ 66 ∷ []) 2
    ∷ words (61 ∷ 62 ∷ 63 ∷ 64 ∷ []) 1
    ∷ words (65 ∷ 66 ∷ 67 ∷ 68 ∷ []) 1
    -- and so are the last page of a file and the first of the next
    ∷ words (1024 ∷ 1025 ∷ []) 2
    ∷ words [] 0
    -- the first sounding's
    ∷ row (words_read sounded ∷ []) (1 ∷ [])
    -- a look-ahead of no page has no word: at the last page, and with L below the pace
    ∷ reads (up_to 8 3 10 ∷ []) 1
    ∷ reads (up_to 3 3 10 ∷ []) 0
    ∷ reads (up_to 8 3 41 ∷ []) 0
    -- added over the readers, running or waiting; an empty slot has none
    ∷ reads (up_to 8 3 10 ∷ no_reader ∷ reader Waiting 0 10 3 8 ∷ up_to 8 0 10 ∷ []) 3
    -- A.5: "the two words at one place of the two maps count as one"
    ∷ row (words_read (state_with 16 0 40 20 (8 ∷ []) (up_to 8 3 10 ∷ []) (f0 (5 ∷ [])) (f0 (4 ∷ 6 ∷ []))) ∷ []) (1 ∷ [])
    ∷ []

pub counts-hold : Hold counts
unfolding counts bit put_bit range each only any total count pages before present missing pruned sees look_ahead_of words_of words_read
counts-hold = refl

-- ---- the call

-- the same state with 8 pages, and its questions with page 9 for page 17
abbrev shorter : State
shorter = state_with 16 0 40 20 (8 ∷ []) (up_to 8 3 10 ∷ []) (f0 (1 ∷ 2 ∷ 3 ∷ 5 ∷ 7 ∷ [])) []

abbrev seven : List Question
seven = question 0 3 ∷ question 0 4 ∷ question 0 5 ∷ question 0 6 ∷ question 0 8 ∷ question 0 9 ∷ question 1 1 ∷ []

abbrev their : List ℕ
their = 100 ∷ 200 ∷ 10 ∷ 0 ∷ 200 ∷ 40 ∷ 0 ∷ 200 ∷ 50 ∷ 0 ∷ 101 ∷ 8 ∷ 3 ∷ []

unfoldable pub calls : List Row
calls =
    -- room for all, and for one more, which keeps
    row (told (questions_of shorter seven (blank 7))) (0 ∷ 1 ∷ their)
    ∷ row (told (questions_of shorter seven (blank 8))) (0 ∷ 1 ∷ (their ++ 0 ∷ []))
    -- "a short answer list"
    ∷ row (told (questions_of shorter seven (blank 6))) (12 ∷ 0 ∷ replicate 6 0)
    -- no question: the same words
    ∷ row (told (questions_of shorter [] (blank 1))) (0 ∷ 1 ∷ 0 ∷ [])
    ∷ []

pub calls-hold : Hold calls
unfolding calls told all bit put_bit range each only any least some_of total count pages before present missing pruned sees look_ahead_of time_for use_for
    use_key ahead seen when_of answer_of words_of words_read asked questions_of
calls-hold = refl

-- "More than 1,024 rows": by a function that answers nothing, with room for them and without
abbrev edge : ℕ → ℕ → List ℕ → Row
edge questions room due =
    let w = asked 7 (λ _. record { when = Err NoFile }) (replicate questions (question 0 1)) (blank room) in
    row (refused_in w.answer ∷ count_in w.answer ∷ take 1 (all w.list)) due

unfoldable pub edges : List Row
edges =
    edge 1024 1024 (0 ∷ 7 ∷ 3 ∷ [])
    ∷ edge 1025 1025 (12 ∷ 0 ∷ 0 ∷ [])
    ∷ edge 1025 1024 (12 ∷ 0 ∷ 0 ∷ [])
    ∷ edge 1024 1023 (12 ∷ 0 ∷ 0 ∷ [])
    ∷ []

pub edges-hold : Hold edges
unfolding edges all asked
edges-hold = refl
