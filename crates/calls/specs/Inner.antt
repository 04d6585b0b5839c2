-- The parts of the rules that the functions work out, over just the fields that they read. Assumes nothing: these are definitions.
use Rattle.std.specs.Prelude.{ℕ, ◌≤◌, ◌<◌, ◌≡◌, cond, List}
use Rattle.std.specs.declared.option.Option.{Option}
use Rattle.std.specs.declared.option.Option.TheVariants.{Some}
use Rattle.bits.specs.Map.{bit, on}
use Rattle.rules.specs.Lists.{on_option}
use Rattle.rules.specs.Pages.{file_of, page_of, key_of}
use Rattle.rules.specs.Calls.{reply, with_reader, with_fetching, without}
use Rattle.parts.specs.Files.{no_file_in, no_page_in}
use Rattle.rules.specs.declared.State.{State}
use Rattle.rules.specs.declared.Reader.{Reader}
use Rattle.rules.specs.declared.Reply.{Reply}
use Rattle.rules.specs.declared.Answer.{Answer}
use Rattle.rules.specs.declared.Answer.TheVariants.{Arrived, Replaced}
use Rattle.rules.specs.declared.Refusal.{Refusal}
use Rattle.rules.specs.declared.Refusal.TheVariants.{NoFile, NoPage, NotInFetch}
use Rattle.std.specs.declared.result.Result.{Result}
use Rattle.std.specs.declared.result.Result.TheVariants.{Ok, Err}
use Rattle.calls.specs.declared.Step.{Step}

-- a record that Read can look at; every record of a valid state is one
abbrev pub Readable : Reader → Type 0
Readable r = (r.file < 8) × (r.position ≤ r.last) × (r.last ≤ 1024)

-- the state and the answer after the Read of a record: its slot has the new record, and the fetch map is this
abbrev pub stepped : State → ℕ → Step → List ℕ → Reply
stepped s slot r fetching = reply (with_fetching (with_reader s slot r.reader) fetching) r.answer

-- what Arrive and Lost find of a page: its key where it is in fetch, else 3, 8 or 9
abbrev pub open_fetch : List ℕ → List ℕ → ℕ → ℕ → Result ℕ Refusal
open_fetch sizes fetching file page =
    cond (no_file_in sizes file) (Err NoFile)
    (cond (no_page_in sizes file page) (Err NoPage)
    (cond (on fetching (key_of file page)) (Ok (key_of file page)) (Err NotInFetch)))

-- the page chosen, if any, is one that the map has
abbrev pub CachedIn : List ℕ → Option ℕ → Type 0
CachedIn words gone = (k : ℕ) → gone ≡ Some k → (k < 8192) × (bit words k ≡ 1)

-- the cached map without that page, if there is one
abbrev pub eased : List ℕ → Option ℕ → List ℕ
eased words gone = on_option gone (without words) words

-- Arrive's answer, which names that page
abbrev pub arrival_of : Option ℕ → Answer
arrival_of gone = on_option gone (λ k. Replaced (file_of k) (page_of k)) Arrived
