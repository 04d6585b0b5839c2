-- When will these be read? A.4. Each reader's look-ahead is walked once for all questions: the words that are read do not depend on these. Assumes nothing:
-- these are definitions.
use Rattle.std.specs.Prelude.{ℕ, ◌+◌, ◌/◌, ◌%◌, Bool, cond, ◌||◌, List, ◌++◌, map, length, drop, ltb, eqb}
use Rattle.rules.specs.Lists.{any, total}
use Rattle.rules.specs.Pages.{key_of}
use Rattle.rules.specs.Readers.{reader_at, attached}
use Rattle.rules.specs.UseTimes.{look_ahead_of, use_key, ahead, seen}
use Rattle.rules.specs.Calls.{no_file, no_page}
use Rattle.rules.specs.Schedules.{count}
use Rattle.rules.specs.Listings.{Written}
use Rattle.rules.specs.declared.State.{State}
use Rattle.rules.specs.declared.Refusal.{Refusal}
use Rattle.rules.specs.declared.Refusal.TheVariants.{NoFile, NoPage, NoRoom}
use Rattle.std.specs.declared.result.Result.{Result}
use Rattle.std.specs.declared.result.Result.TheVariants.{Ok, Err}
use Rattle.rules.specs.declared.Question.{Question}
use Rattle.rules.specs.declared.When.{When}
use Rattle.rules.specs.declared.When.TheVariants.{At, Behind, NotSeen}
use Rattle.rules.specs.declared.Forecast.{Forecast}

-- ---- one question

-- the slot whose seat distance, (slot − turn) modulo 16, is this
abbrev pub slot_at : ℕ → ℕ → ℕ
slot_at turn distance = (distance + turn) % 16

-- "time and slot of the use key", which as one number is time × 16 + seat distance
abbrev pub at_use : ℕ → ℕ → When
at_use turn key = At (key / 16) (slot_at turn (key % 16))

-- "behind (ahead of no reader of its file)"; not seen is ahead of some, and in no look-ahead. "a page that isn't cached is judged by the same rules":
-- the cached map is not asked about the page itself
unfoldable pub when_of : State → ℕ → When
when_of s k = cond (seen s k) (at_use s.turn (use_key s k)) (cond (ahead s k) NotSeen Behind)

-- a single question; "or the row's own refusal 3 or 8"
unfoldable pub answer_of : State → ℕ → ℕ → Result When Refusal
answer_of s file page = cond (no_file s file) (Err NoFile) (cond (no_page s file page) (Err NoPage) (Ok (when_of s (key_of file page))))

-- the answer record of a question
abbrev pub forecast_of : State → Question → Forecast
forecast_of s q = record { when = answer_of s q.file q.page }

-- ---- the words read

-- how many words of a map hold one of these pages, 64 pages a word
unfoldable pub words_of : List ℕ → ℕ
words_of keys = count 128 (λ word. any (λ k. eqb (k / 64) word) keys)

-- "how many 64-bit map words were read: for each reader, the words of the cached map that hold a page of its look-ahead, added over the readers"; A.5: "the
-- two words at one place of the two maps count as one"
unfoldable pub words_read : State → ℕ
words_read s = total 16 (λ slot. words_of (look_ahead_of s (reader_at s slot)))

-- the bound in "and so at most 16 for each attached reader"
abbrev pub words_most : State → ℕ
words_most s = total 16 (λ slot. cond (attached (reader_at s slot)) 16 0)

-- ---- the call

-- 12: "More than 1,024 rows, or a short answer list"
abbrev pub no_room : ℕ → ℕ → Bool
no_room rows room = ltb 1024 rows || ltb room rows

-- the call, by what answers a single question and by the words that are read: "Row by row the answers equal those of a single question"; 12, "and the answer
-- list is left"; "Past what is written a lent list keeps"
unfoldable pub asked : ℕ → (Question → Forecast) → List Question → List Forecast → Written (Result ℕ Refusal) Forecast
asked words answer questions lent =
    cond (no_room (length questions) (length lent)) (record { answer = Err NoRoom; list = lent })
    (record { answer = Ok words; list = map answer questions ++ drop (length questions) lent })

unfoldable pub questions_of : State → List Question → List Forecast → Written (Result ℕ Refusal) Forecast
questions_of s questions lent = asked (words_read s) (forecast_of s) questions lent
