-- The rules' answer to a question by what is worked out once for all of them: the sizes, the turn, a map of the pages ahead and a table of use keys. Assumes
-- nothing: these are definitions.
use Rattle.std.specs.Prelude.{ℕ, ◌≤◌, Bool, cond, List, ltb, get_or, Result, Ok, Err}
use Rattle.bits.specs.Map.{on}
use Rattle.parts.specs.Files.{no_file_in, no_page_in}
use Rattle.rules.specs.Pages.{key_of}
use Rattle.rules.specs.UseTimes.{never}
use Rattle.rules.specs.Questions.{at_use}
use Rattle.rules.specs.declared.Question.{Question}
use Rattle.rules.specs.declared.Refusal.{Refusal}
use Rattle.rules.specs.declared.Refusal.TheVariants.{NoFile, NoPage}
use Rattle.rules.specs.declared.When.{When}
use Rattle.rules.specs.declared.When.TheVariants.{Behind, NotSeen}
use Rattle.rules.specs.declared.Forecast.{Forecast}

-- sizes whose pages the table has
abbrev pub Ranged : List ℕ → Type 0
Ranged sizes = (f : ℕ) → get_or sizes f 0 ≤ 1024

-- by a page's use key and by whether it is ahead of a reader
unfoldable pub when_by : ℕ → Bool → ℕ → When
when_by used is_ahead turn = cond (ltb used never) (at_use turn used) (cond is_ahead NotSeen Behind)

-- the answer to a question
unfoldable pub answer_by : List ℕ → ℕ → List ℕ → List ℕ → Question → Result When Refusal
answer_by sizes turn ahead table q =
    cond (no_file_in sizes q.file) (Err NoFile)
    (cond (no_page_in sizes q.file q.page) (Err NoPage)
    (Ok (when_by (get_or table (key_of q.file q.page) 0) (on ahead (key_of q.file q.page)) turn)))

-- a row
abbrev pub row_by : List ℕ → ℕ → List ℕ → List ℕ → Question → Forecast
row_by sizes turn ahead table q = record { when = answer_by sizes turn ahead table q }
