-- The library's calls as the tests from outside make them. Assumes nothing: these are definitions.
use Rattle.std.specs.Prelude.{ℕ, min, ◌+◌, ◌*◌, List, [], ◌∷◌, ◌++◌, map, get_or, length, take, drop, replicate, Result, Ok, Err}
use Rattle.rules.specs.Lists.{range}
use Rattle.rules.specs.Calls.{setup_of}
use Rattle.rules.specs.Listings.{Written}
use Rattle.rules.specs.Questions.{questions_of}
use Rattle.rules.specs.Image.{save_of, restore_of}
use Rattle.rules.specs.Entries.{code, Entered}
use Rattle.rules.specs.Refusals.{refusal_number}
use Rattle.rules.specs.declared.State.{State}
use Rattle.rules.specs.declared.Reply.{Reply}
use Rattle.rules.specs.declared.Keys.{Keys}
use Rattle.rules.specs.declared.Question.{Question}
use Rattle.rules.specs.declared.When.{When}
use Rattle.rules.specs.declared.When.TheVariants.{At, Behind, NotSeen}
use Rattle.rules.specs.declared.Forecast.{Forecast}
use Rattle.rules.specs.declared.Refusal.{Refusal}
use Rattle.rules.specs.declared.Refusal.TheVariants.{NoImage}
use Rattle.probe.specs.Asks.{Listed, asked}

-- a call, and Save of what it gives into a buffer: both numbers in one, and the buffer after it
abbrev pub saved_after : Reply → List ℕ → Entered
saved_after r buffer =
    record {
      number = code r.answer + 4294967296 * code (save_of r.state buffer).answer;
      image = (save_of r.state buffer).buffer;
    }

-- of Restore
abbrev pub restore_probed : List ℕ → List ℕ → Entered
restore_probed image buffer = saved_after (restore_of image) buffer

-- eight numbers from a place on; one that is missing is 0
abbrev pub eight_from : List ℕ → ℕ → List ℕ
eight_from numbers from = map (λ i. get_or numbers (from + i) 0) (range 0 8)

-- Setup of frames, L, T, the sizes, the rule and the E
abbrev pub setup_from : List ℕ → Reply
setup_from numbers = setup_of (get_or numbers 0 0) (get_or numbers 1 0) (get_or numbers 2 0) (eight_from numbers 3)
    (get_or numbers 11 0) (eight_from numbers 12)

abbrev pub setup_probed : List ℕ → List ℕ → Entered
setup_probed numbers buffer = saved_after (setup_from numbers) buffer

-- the number of an order's answer: the refusal's, or the count of keys and the pages tested, told from a refusal as Run's is
abbrev pub order_number : Result Keys Refusal → ℕ
order_number (Ok keys) = 4294967296 + keys.count * 65536 + keys.tested
order_number (Err why) = refusal_number why

-- the one order or the other
abbrev pub list_asked : (State → List ℕ → Written (Result Keys Refusal) ℕ) → State → List ℕ → Listed ℕ
list_asked order s lent = record { number = order_number (order s lent).answer; list = (order s lent).list }

-- Restore, and a list of what it gives; 13, and the list left, where it refuses the image
abbrev pub list_probed : (State → List ℕ → Written (Result Keys Refusal) ℕ) → List ℕ → List ℕ → Listed ℕ
list_probed order = asked (list_asked order)

-- ---- when will these be read

-- two numbers a question, file then page; an odd last number is none
unfoldable pub questions_in : List ℕ → List Question
questions_in [] = []
questions_in (file ∷ []) = []
questions_in (file ∷ page ∷ rest) = record { file = file; page = page } ∷ questions_in rest

-- the number of a row's answer: time and slot, told from the others as Run's is; behind; not seen; the row's own refusal; or 0 for 13, which is no row's
abbrev pub when_number : Result When Refusal → ℕ
when_number (Ok (At time slot)) = 4294967296 + time * 256 + slot
when_number (Ok Behind) = 256
when_number (Ok NotSeen) = 257
when_number (Err NoImage) = 0
when_number (Err why) = refusal_number why

abbrev pub forecast_number : Forecast → ℕ
forecast_number row = when_number row.when

-- the number of what the call returns: the refusal's, or the count of words
abbrev pub listing_number : Result ℕ Refusal → ℕ
listing_number (Ok words) = 4294967296 + words
listing_number (Err why) = refusal_number why

-- an answer before the call: a refusal that it never gives
abbrev pub unanswered : Forecast
unanswered = record { when = Err NoImage }

-- the call, of the first 1,025 questions, with the first 1,025 rows of the list for its answers: one more than it takes
abbrev pub answered : State → List ℕ → List ℕ → Written (Result ℕ Refusal) Forecast
answered s numbers lent = questions_of s (take 1025 (questions_in numbers)) (replicate (min 1025 (length lent)) unanswered)

abbrev pub when_asked : List ℕ → State → List ℕ → Listed ℕ
when_asked numbers s lent = record {
  number = listing_number (answered s numbers lent).answer;
  list = map forecast_number (answered s numbers lent).list ++ drop 1025 lent;
}

-- Restore, and the questions to what it gives; 13, and the list left, where it refuses the image
abbrev pub when_probed : List ℕ → List ℕ → List ℕ → Listed ℕ
when_probed image numbers = asked (when_asked numbers) image
