-- A second table beside the soundings: 01's sentences at their edges, above all where no other theorem and no test has them. No door of the program leads to
-- Save, nor to the lists' 12. Each row is computed from the rules. Assumes nothing.
use Prim.Native.Nat.{ℕ, ◌+◌}
use mathlib.Core.Path.{◌≡◌, refl}
use mathlib.Core.Bool.{cond}
use mathlib.Core.List.{List, [], ◌∷◌, ◌++◌, map}
use lib.ListN.{length, take, drop, replicate}
use lib.Dec.{eqb}
use Rattle.bits.specs.Map.{bit, put_bit}
use Rattle.rules.specs.Lists.{range, each, only, every, put, sorted, least, some_of, total}
use Rattle.rules.specs.Pages.{key_of, pages, cached_pages, fetching_pages, held, ends, clusters}
use Rattle.rules.specs.Readers.{no_reader, reader_at, mark_at}
use Rattle.rules.specs.UseTimes.{before, present, missing, pruned, sees, look_ahead_of, tested, time_for, use_for, use_key, ahead, seen}
use Rattle.rules.specs.Orders.{not_ahead, not_seen, use_time, order1989, steal_order, fetch_order, victim}
use Rattle.rules.specs.Calls.{
  with_marks,
  with_slot,
  idle,
  attach_of,
  read_running,
  read_of,
  steal_of,
  full,
  dropped,
  woken,
  landed,
  for_fetch,
  arrive_of,
  detach_of,
  lost_of,
  prefetch_of,
  measured_pace,
  measure_of,
}
use Rattle.rules.specs.Run.{fetch_open, read_turn, turn_of, turns_of, run_of}
use Rattle.rules.specs.Listings.{
  count_in,
  refused_in,
  keys_in,
  tested_in,
  Written,
  listed,
  order_listed,
  steal_list_of,
  fetch_list_of,
  clusters_of,
}
use Rattle.rules.specs.Image.{condition_number, layout, bytes_of, image_of, Saved, save_of, number_of, numbers_in, filled_slot, marked, ruled, upgraded}
use Rattle.rules.specs.Entries.{code, Call, attach, detach, read, arrive, lost, run, measure, call_of}
use Rattle.rules.specs.Lines.{
  split,
  is_decimal,
  decimal_value,
  is_field,
  well_formed,
  digits_of,
  line_of,
  numbers_of,
  obeyed,
  respond_of,
  lines_of,
  answers,
  program_of,
}
use Rattle.rules.specs.Schedules.{num}
use Rattle.rules.proofs.tables.Soundings.{up_to, state_by, state_with, reader, at, f0}
use Rattle.rules.proofs.tables.Sample.{bytes}
use Rattle.rules.specs.declared.State.{State}
use Rattle.rules.specs.declared.Reader.{Reader}
use Rattle.rules.specs.declared.Reply.{Reply}
use Rattle.rules.specs.declared.Answer.{Answer}
use Rattle.rules.specs.declared.Keys.{Keys}
use Rattle.rules.specs.declared.Refusal.{Refusal}
use Rattle.rules.specs.declared.Refusal.TheVariants.{NoImage}
use Rattle.rules.specs.declared.Rule.TheVariants.{Of1993}
use Rattle.std.specs.declared.result.Result.{Result}
use Rattle.rules.specs.declared.Answer.TheVariants.{Refused, Done, Hit, Wait, Fetch, End, Nothing, Stolen, Arrived, Replaced, Ran}
use Rattle.rules.specs.declared.Condition.TheVariants.{Running, Waiting}

-- what the rules give, and what 01 says
pub record Row : Type 0 where
  pub found : List ℕ
  pub due : List ℕ

abbrev pub row : List ℕ → List ℕ → Row
row found due = record { found = found; due = due }

abbrev pub Hold : List Row → Type 0
Hold rows = map (λ r. r.found) rows ≡ map (λ r. r.due) rows

-- ---- Save: the image, "little-endian"; A.6: of 2,274 bytes

-- the bytes that are not 0, each behind its place
unfoldable pub nonzero : ℕ → List ℕ → List ℕ
nonzero i [] = []
nonzero i (b ∷ bs) = cond (eqb b 0) [] (i ∷ b ∷ []) ++ nonzero (i + 1) bs

-- numbers of several bytes, a reader that runs, one that waits, one in the last slot, the first and the last page cached, a page in fetch; by
-- the 1993 rule, with the most readers that can be expected of a file, and the most that are counted
abbrev laden : State
laden =
    with_marks
    (state_by Of1993 (1000 ∷ 0 ∷ 0 ∷ 0 ∷ 0 ∷ 0 ∷ 0 ∷ 1 ∷ []) (0 ∷ 65535 ∷ 0 ∷ 0 ∷ 0 ∷ 0 ∷ 0 ∷ 258 ∷ []) 770 11 1967877 657672
    (1024 ∷ 300 ∷ 0 ∷ 0 ∷ 0 ∷ 0 ∷ 0 ∷ 1024 ∷ [])
    (reader Running 0 1000 513 772 ∷ reader Waiting 1 258 299 300 ∷ (replicate 13 no_reader ++ reader Running 7 1 2 3 ∷ []))
    (0 ∷ 9 ∷ 1024 ∷ 8191 ∷ []) (1323 ∷ []))
    (258 ∷ 299 ∷ (replicate 13 0 ++ 1 ∷ []))

-- its image, as 01 lays it out
abbrev image : List ℕ
image =
    -- frames, turn, L and T, the sizes
    0 ∷ 2 ∷ 1 ∷ 3 ∷ 2 ∷ 11 ∷ 4 ∷ 5 ∷ 5 ∷ 7 ∷ 6 ∷ 30 ∷ 8 ∷ 8 ∷ 9 ∷ 9 ∷ 10 ∷ 10 ∷ 13 ∷ 4 ∷ 14 ∷ 44 ∷ 15 ∷ 1 ∷ 27 ∷ 4
    -- the readers in slots 0, 1 and 15
    ∷ 28 ∷ 1 ∷ 30 ∷ 232 ∷ 31 ∷ 3 ∷ 32 ∷ 1 ∷ 33 ∷ 2 ∷ 34 ∷ 4 ∷ 35 ∷ 3
    ∷ 36 ∷ 2 ∷ 37 ∷ 1 ∷ 38 ∷ 2 ∷ 39 ∷ 1 ∷ 40 ∷ 43 ∷ 41 ∷ 1 ∷ 42 ∷ 44 ∷ 43 ∷ 1
    ∷ 148 ∷ 1 ∷ 149 ∷ 7 ∷ 150 ∷ 1 ∷ 152 ∷ 2 ∷ 154 ∷ 3
    -- the cached map and the fetch map
    ∷ 160 ∷ 1 ∷ 161 ∷ 2 ∷ 288 ∷ 1 ∷ 1183 ∷ 128 ∷ 1349 ∷ 8
    -- the marks of the three
    ∷ 2208 ∷ 2 ∷ 2209 ∷ 1 ∷ 2210 ∷ 43 ∷ 2211 ∷ 1 ∷ 2238 ∷ 1
    -- the rule, E of files 0 and 7, R of files 1 and 7
    ∷ 2240 ∷ 1 ∷ 2242 ∷ 232 ∷ 2243 ∷ 3 ∷ 2256 ∷ 1 ∷ 2260 ∷ 255 ∷ 2261 ∷ 255 ∷ 2272 ∷ 2 ∷ 2273 ∷ 1 ∷ []

-- the number, and the buffer after the call: its length and its bytes that are not 0
unfoldable pub saved : Saved → List ℕ
saved r = code r.answer ∷ length r.buffer ∷ nonzero 0 r.buffer

-- "12: buffer shorter; bytes after .. keep"
unfoldable pub saves : List Row
saves =
    row (saved (save_of laden (7 ∷ replicate 2239 0))) (12 ∷ 2240 ∷ 0 ∷ 7 ∷ [])
    ∷ row (saved (save_of laden (7 ∷ replicate 2272 0))) (12 ∷ 2273 ∷ 0 ∷ 7 ∷ [])
    ∷ row (saved (save_of laden (replicate 2274 9))) (5177344 ∷ 2274 ∷ image)
    ∷ row (saved (save_of laden (replicate 2275 9))) (5177344 ∷ 2275 ∷ (image ++ 2274 ∷ 9 ∷ []))
    ∷ []

pub saves-hold : Hold saves
unfolding saves saved nonzero bit put_bit each layout bytes_of image_of save_of code
saves-hold = refl

-- ---- an older image: A.2: "2,208 bytes are still read, marks equal to positions"; A.6: "shorter ones are read as 1989 with E and R 0"

-- two readers, the first without its last page, and an empty slot between them; by the 1993 rule, with readers expected and attached
abbrev unfilled : State
unfilled = state_by Of1993 (7 ∷ []) (8 ∷ []) 1 0 1 0 (1024 ∷ 300 ∷ [])
    (reader Running 1 10 299 0 ∷ no_reader ∷ reader Running 0 10 2 3 ∷ replicate 13 no_reader) [] []

-- an image's length and its bytes that are not 0 behind the first 28
unfoldable pub laid_out : List ℕ → List ℕ
laid_out bs = length bs ∷ nonzero 28 (drop 28 bs)

unfoldable pub older : List Row
older =
    -- the last page is the file's size, 300, and the marks are 299 and 2
    row (laid_out (upgraded (take 2208 (image_of unfilled))))
    (2274 ∷ 28 ∷ 1 ∷ 29 ∷ 1 ∷ 30 ∷ 10 ∷ 32 ∷ 43 ∷ 33 ∷ 1 ∷ 34 ∷ 44 ∷ 35 ∷ 1 ∷ 44 ∷ 1 ∷ 46 ∷ 10 ∷ 48 ∷ 2 ∷ 50 ∷ 3
    ∷ 2208 ∷ 43 ∷ 2209 ∷ 1 ∷ 2212 ∷ 2 ∷ [])
    -- one of 2,240 bytes gets rule, E and R alone
    ∷ row (laid_out (upgraded (take 2240 (image_of unfilled))))
    (2274 ∷ 28 ∷ 1 ∷ 29 ∷ 1 ∷ 30 ∷ 10 ∷ 32 ∷ 43 ∷ 33 ∷ 1 ∷ 44 ∷ 1 ∷ 46 ∷ 10 ∷ 48 ∷ 2 ∷ 50 ∷ 3 ∷ [])
    -- "only shorter images come back longer": one of 2,274 stays as it is
    ∷ row (laid_out (upgraded (image_of unfilled)))
    (2274 ∷ 28 ∷ 1 ∷ 29 ∷ 1 ∷ 30 ∷ 10 ∷ 32 ∷ 43 ∷ 33 ∷ 1 ∷ 44 ∷ 1 ∷ 46 ∷ 10 ∷ 48 ∷ 2 ∷ 50 ∷ 3 ∷ 2240 ∷ 1 ∷ 2242 ∷ 7 ∷ 2258 ∷ 8 ∷ [])
    ∷ row (upgraded (7 ∷ [])) (7 ∷ [])
    ∷ []

pub older-hold : Hold older
unfolding older laid_out nonzero bit put_bit range each layout bytes_of number_of numbers_in image_of filled_slot marked ruled upgraded
older-hold = refl

-- ---- Steal list, Fetch list, Clusters: "All: 12, list too short. Past what is written the list is unchanged"

-- as in the first sounding: five pages cached, two to fetch, three clusters
abbrev sounded : State
sounded = state_with 16 0 40 20 (8 ∷ []) (up_to 8 3 10 ∷ []) (f0 (1 ∷ 2 ∷ 3 ∷ 5 ∷ 7 ∷ [])) []

-- the refusal's number, the count, and the lent list after the call
unfoldable pub written : Written (Result ℕ Refusal) ℕ → List ℕ
written w = refused_in w.answer ∷ count_in w.answer ∷ w.list

-- of an order the pages tested too: A.3. A refusal carries neither
unfoldable pub made : Written (Result Keys Refusal) ℕ → List ℕ
made w = refused_in w.answer ∷ keys_in w.answer ∷ tested_in w.answer ∷ w.list

-- a list too short by one, one with exactly enough room, and one with more
unfoldable pub lists : List Row
lists =
    row (made (steal_list_of sounded (replicate 4 9))) (12 ∷ 0 ∷ 0 ∷ 9 ∷ 9 ∷ 9 ∷ 9 ∷ [])
    ∷ row (made (steal_list_of sounded (replicate 5 9))) (0 ∷ 5 ∷ 3 ∷ 2 ∷ 1 ∷ 0 ∷ 6 ∷ 4 ∷ [])
    ∷ row (made (steal_list_of sounded (replicate 6 9))) (0 ∷ 5 ∷ 3 ∷ 2 ∷ 1 ∷ 0 ∷ 6 ∷ 4 ∷ 9 ∷ [])
    ∷ row (made (fetch_list_of sounded (replicate 1 9))) (12 ∷ 0 ∷ 0 ∷ 9 ∷ [])
    ∷ row (made (fetch_list_of sounded (replicate 2 9))) (0 ∷ 2 ∷ 3 ∷ 3 ∷ 5 ∷ [])
    ∷ row (made (fetch_list_of sounded (replicate 3 9))) (0 ∷ 2 ∷ 3 ∷ 3 ∷ 5 ∷ 9 ∷ [])
    ∷ row (written (clusters_of sounded 0 (replicate 5 9))) (12 ∷ 0 ∷ 9 ∷ 9 ∷ 9 ∷ 9 ∷ 9 ∷ [])
    ∷ row (written (clusters_of sounded 0 (replicate 6 9))) (0 ∷ 3 ∷ 1 ∷ 3 ∷ 5 ∷ 5 ∷ 7 ∷ 7 ∷ [])
    ∷ row (written (clusters_of sounded 0 (replicate 7 9))) (0 ∷ 3 ∷ 1 ∷ 3 ∷ 5 ∷ 5 ∷ 7 ∷ 7 ∷ 9 ∷ [])
    -- "Clusters first: 3", where there is nothing to write
    ∷ row (written (clusters_of sounded 1 [])) (3 ∷ 0 ∷ [])
    ∷ row (written (clusters_of sounded 8 (9 ∷ []))) (3 ∷ 0 ∷ 9 ∷ [])
    -- a list of no room for an order of no page
    ∷ row (made (steal_list_of idle [])) (0 ∷ 0 ∷ 0 ∷ [])
    ∷ []

pub lists-hold : Hold lists
unfolding lists written made bit put_bit range each only put sorted least some_of total pages held ends clusters before present missing pruned
    sees look_ahead_of tested time_for use_for use_key ahead seen not_ahead not_seen use_time order1989 steal_order fetch_order listed order_listed
    steal_list_of fetch_list_of clusters_of
lists-hold = refl

-- ---- A.3: "exactly the pages of the look-aheads, added over the attached readers"

-- the pages tested: L 40, 8 pages, of which 1, 2, 3, 5 and 7 are cached; T and the readers are the row's
abbrev tests : ℕ → List Reader → ℕ → Row
tests time readers n = row (tested (state_with 16 0 40 time (8 ∷ []) readers (f0 (1 ∷ 2 ∷ 3 ∷ 5 ∷ 7 ∷ [])) []) ∷ []) (n ∷ [])

unfoldable pub reports : List Row
reports =
    -- L ÷ w is 4
    tests 0 (up_to 8 3 10 ∷ []) 4
    -- L ÷ T is 2, 1 or 0 pages not cached
    ∷ tests 20 (up_to 8 3 10 ∷ []) 3
    ∷ tests 40 (up_to 8 3 10 ∷ []) 1
    ∷ tests 41 (up_to 8 3 10 ∷ []) 0
    -- L is at the pace, and below it
    ∷ tests 0 (up_to 8 3 40 ∷ []) 1
    ∷ tests 0 (up_to 8 3 41 ∷ []) 0
    -- the last page comes first, or is read
    ∷ tests 0 (up_to 5 3 10 ∷ []) 2
    ∷ tests 0 (up_to 5 5 10 ∷ []) 0
    -- a page is counted for each reader that has it, running or waiting; an empty slot has none
    ∷ tests 0 (up_to 8 3 10 ∷ no_reader ∷ up_to 8 4 20 ∷ reader Waiting 0 10 5 8 ∷ []) 9
    -- A.5: with page 4 in fetch a page more is in the look-ahead
    ∷ row (tested (state_with 16 0 40 20 (8 ∷ []) (up_to 8 3 10 ∷ []) (f0 (1 ∷ 2 ∷ 3 ∷ 5 ∷ 7 ∷ [])) (f0 (4 ∷ []))) ∷ []) (4 ∷ [])
    ∷ []

pub reports-hold : Hold reports
unfolding reports bit put_bit range each only total pages before present missing pruned sees look_ahead_of tested
reports-hold = refl

-- ---- "The number returned is the refusal's, or the answer letter's ASCII code × 65,536 + (key + 1, or 0 without a page)"

-- an answer and its number
abbrev is : Answer → ℕ → Row
is answer n = row (code answer ∷ []) (n ∷ [])

unfoldable pub numbers : List Row
numbers =
    is (Refused NoImage) 13
    ∷ is Done 5177344
    ∷ is (Hit 7 1024) 4726784
    ∷ is (Wait 0 1) 5701633
    ∷ is (Fetch 1 1) 4588545
    ∷ is End 5898240
    ∷ is Nothing 5570560
    ∷ is (Stolen 0 1024) 5440512
    ∷ is Arrived 4784128
    ∷ is (Replaced 7 1) 4791297
    -- "for Run 4,294,967,296 + fetches × 65,536 + reads"
    ∷ is (Ran 300 16384) 4314644480
    ∷ []

pub numbers-hold : Hold numbers
unfolding numbers code
numbers-hold = refl

-- ---- "Where several refusals apply, the one listed first for the call is given"

-- a file of six pages, a reader in slot 0 that waits for its first page
abbrev waiting : State
waiting = state_with 16 0 40 0 (6 ∷ []) (reader Waiting 0 10 0 6 ∷ []) [] (f0 (1 ∷ []))

-- a call and its number
abbrev gives : Call → ℕ → Row
gives call n = is (call_of call waiting).answer n

-- by call: two neighbours in its list at once, and the limits of the slot, the file, the page and the turns
unfoldable pub refusals : List Row
refusals =
    gives (attach 16 8 10 0 6) 2
    ∷ gives (attach 15 8 0 0 6) 3
    ∷ gives (attach 15 7 1001 0 0) 3
    ∷ gives (attach 0 0 0 0 0) 4
    ∷ gives (attach 0 0 1001 0 7) 4
    -- A.1: 15 "after 4 and before 5"
    ∷ gives (attach 0 0 1000 0 0) 15
    ∷ gives (attach 0 0 1000 0 7) 15
    ∷ gives (attach 0 0 1000 3 2) 15
    ∷ gives (attach 0 0 1000 6 6) 5
    ∷ gives (attach 1 0 1000 6 6) 5177344
    ∷ gives (read 16) 2
    ∷ gives (read 15) 6
    ∷ gives (read 0) 7
    ∷ gives (detach 16) 2
    ∷ gives (detach 15) 6
    ∷ gives (arrive 8 0) 3
    ∷ gives (arrive 7 1) 3
    ∷ gives (arrive 0 0) 8
    ∷ gives (arrive 0 7) 8
    ∷ gives (arrive 0 6) 9
    ∷ gives (lost 8 0) 3
    ∷ gives (lost 7 1) 3
    ∷ gives (lost 0 0) 8
    ∷ gives (lost 0 7) 8
    ∷ gives (lost 0 6) 9
    ∷ gives (run 16385) 11
    ∷ gives (run 16384) 10
    -- A.2: 16 "after 2 and 6"
    ∷ gives (measure 16 0 1) 2
    ∷ gives (measure 15 0 1) 6
    ∷ gives (measure 0 0 0) 16
    ∷ gives (measure 0 1000001 0) 16
    ∷ gives (measure 0 1 2) 16
    ∷ gives (measure 0 1 1) 5177344
    ∷ gives (measure 0 1000000 1000000) 5177344
    ∷ []

pub refusals-hold : Hold refusals
unfolding refusals bit put_bit range each only pages fetching_pages attach_of read_of read_running detach_of for_fetch arrive_of lost_of
    fetch_open run_of measure_of code
refusals-hold = refl

-- ---- Measure: A.2: "the pace becomes (interval − blocked) divided by n, rounded down, held to 1 through 1,000; with n = 0 it stays"

-- a reader of pace 44 that has read n pages since its mark at 5, in slot 3
abbrev since : ℕ → State
since n = with_slot (state_with 16 0 40 0 (64 ∷ []) [] [] []) 3 (reader Running 0 44 (5 + n) 64) 5

-- the answer's number, then pace, position and mark
unfoldable pub pace_after : Reply → List ℕ
pace_after r =
    let q = reader_at r.state 3 in
    code r.answer ∷ q.pace ∷ q.position ∷ mark_at r.state 3 ∷ []

unfoldable pub measures : List Row
measures =
    row (pace_after (measure_of (since 20) 3 1000 400)) (5177344 ∷ 30 ∷ 25 ∷ 25 ∷ [])
    ∷ row (pace_after (measure_of (since 7) 3 1000 400)) (5177344 ∷ 85 ∷ 12 ∷ 12 ∷ [])
    ∷ row (pace_after (measure_of (since 0) 3 1000 400)) (5177344 ∷ 44 ∷ 5 ∷ 5 ∷ [])
    ∷ row (pace_after (measure_of (since 3) 3 1000 1000)) (5177344 ∷ 1 ∷ 8 ∷ 8 ∷ [])
    ∷ row (pace_after (measure_of (since 3) 3 1000000 0)) (5177344 ∷ 1000 ∷ 8 ∷ 8 ∷ [])
    -- at once again: no page has been read since
    ∷ row (pace_after (measure_of (measure_of (since 20) 3 1000 400).state 3 7 0)) (5177344 ∷ 30 ∷ 25 ∷ 25 ∷ [])
    -- refused, all stays
    ∷ row (pace_after (measure_of (since 20) 3 1000 1001)) (16 ∷ 44 ∷ 25 ∷ 5 ∷ [])
    -- "the position .. at Attach" is the first mark; Detach leaves none
    ∷ row (pace_after (attach_of (state_with 16 0 40 0 (64 ∷ []) [] [] []) 3 0 44 9 64)) (5177344 ∷ 44 ∷ 9 ∷ 9 ∷ [])
    ∷ row (pace_after (detach_of (since 7) 3)) (5177344 ∷ 0 ∷ 0 ∷ 0 ∷ [])
    ∷ []

pub measures-hold : Hold measures
unfolding measures pace_after bit put_bit attach_of detach_of measured_pace measure_of code
measures-hold = refl

-- ---- the orders and the clusters

-- three readers in slots 0, 1 and 2, each ten ticks before a page of its own, at turn 1
abbrev abreast : List ℕ → State
abreast cached = state_with 16 1 10 0 (16 ∷ []) (at 0 10 ∷ at 4 10 ∷ at 8 10 ∷ []) cached []

-- a reader at 0 with its first page cached and its second in fetch
abbrev awaited : ℕ → State
awaited time = state_with 16 0 40 time (16 ∷ []) (at 0 10 ∷ []) (f0 (1 ∷ [])) (f0 (2 ∷ []))

-- the last two pages of file 0 and the first of file 1
abbrev adjoining : State
adjoining = state_with 16 0 40 0 (1024 ∷ 6 ∷ []) [] (1022 ∷ 1023 ∷ 1024 ∷ []) []

unfoldable pub orders : List Row
orders =
    -- "(slot − turn) modulo 16": seat distances 15, 0 and 1
    row (steal_order (abreast (f0 (1 ∷ 5 ∷ 9 ∷ [])))) (f0 (1 ∷ 9 ∷ 5 ∷ []))
    ∷ row (fetch_order (abreast [])) (f0 (5 ∷ 9 ∷ 1 ∷ []))
    -- "neither cached nor in fetch"
    ∷ row (fetch_order (awaited 0)) (f0 (3 ∷ 4 ∷ []))
    -- A.5: "a page in fetch counts as cached in q and in the pruning": page 3 has q 0, and page 4, with q 1, is in the look-ahead
    ∷ row (map (use_key (awaited 20)) (f0 (3 ∷ 4 ∷ []))) (480 ∷ 960 ∷ [])
    ∷ row (fetch_order (awaited 20)) (f0 (3 ∷ 4 ∷ []))
    -- "of one file"
    ∷ row (clusters adjoining 0) (1023 ∷ 1024 ∷ [])
    ∷ row (clusters adjoining 1) (1 ∷ 1 ∷ [])
    ∷ []

pub orders-hold : Hold orders
unfolding orders bit put_bit range each only put sorted least some_of pages held ends clusters before present missing pruned sees
    time_for use_for use_key ahead seen not_ahead not_seen use_time order1989 steal_order fetch_order
orders-hold = refl

-- ---- what Arrive, Lost, Detach and Steal leave

-- two files of six pages; the readers in slots 0 and 3 wait for page 1 of file 0, slot 1 for page 2 of it, slot 2 for page 1 of file 1
abbrev held_up : State
held_up =
    state_with 16 0 40 0 (6 ∷ 6 ∷ []) (reader Waiting 0 10 0 6 ∷ reader Waiting 0 10 1 6 ∷ reader Waiting 1 10 0 6 ∷ reader Waiting 0 10 0 6 ∷ []) []
    (key_of 0 1 ∷ key_of 0 2 ∷ key_of 1 1 ∷ [])

-- what stands in the answer, then the conditions of the first four slots, the pages in fetch, and those cached
unfoldable pub leaves : Reply → List ℕ
leaves r =
    numbers_of r.answer
    ++ (map (λ q. condition_number q.condition) (take 4 r.state.readers) ++ (fetching_pages r.state ++ cached_pages r.state))

-- all frames taken, a page in fetch that is further off than the one that is cached
abbrev crowded : State
crowded = state_with 1 0 10 0 (6 ∷ []) (up_to 6 0 10 ∷ []) (f0 (1 ∷ [])) (f0 (6 ∷ []))

-- all frames taken: slot 0 has page 2 of file 0 at 20 while page 1 is in fetch, at 40 where it is neither; slot 1 has page 1 of file 1 at 30
abbrev nearing : State
nearing = state_with 2 0 100 20 (6 ∷ 6 ∷ []) (up_to 6 0 10 ∷ reader Running 1 30 0 6 ∷ []) (key_of 0 2 ∷ key_of 1 1 ∷ []) (f0 (1 ∷ []))

-- slot 0 comes to page 1, which lowers the time of page 3 from 70 to 50 as soon as it is in fetch; slot 1 has page 5 at 60
abbrev stale : State
stale = state_with 3 0 100 20 (6 ∷ []) (up_to 6 0 10 ∷ up_to 6 4 60 ∷ []) (f0 (3 ∷ 5 ∷ 6 ∷ [])) []

-- the page that Steal drops, and after a Read of slot 0 the next
unfoldable pub stolen_twice : State → List ℕ
stolen_twice s = numbers_of (steal_of s).answer ++ numbers_of (steal_of (read_of (steal_of s).state 0).state).answer

unfoldable pub effects : List Row
effects =
    -- "every reader waiting for it runs", and no other
    row (leaves (arrive_of held_up 0 1)) (1 ∷ 2 ∷ 2 ∷ 1 ∷ 1 ∷ 1024 ∷ 0 ∷ [])
    -- "the fetch is closed and its waiters run"
    ∷ row (leaves (lost_of held_up 0 1)) (1 ∷ 2 ∷ 2 ∷ 1 ∷ 1 ∷ 1024 ∷ [])
    -- "an open fetch stays open"
    ∷ row (leaves (detach_of held_up 1)) (2 ∷ 0 ∷ 2 ∷ 2 ∷ 0 ∷ 1 ∷ 1024 ∷ [])
    -- "the head of the steal order is dropped first. Then the page .. is cached"
    ∷ row (leaves (arrive_of crowded 0 6)) (0 ∷ 1 ∷ 1 ∷ 0 ∷ 0 ∷ 0 ∷ 5 ∷ [])
    -- A.5: the page that arrives is in fetch while the head is chosen
    ∷ row (leaves (arrive_of nearing 0 1)) (1 ∷ 1 ∷ 1 ∷ 1 ∷ 0 ∷ 0 ∷ 0 ∷ 1 ∷ [])
    -- "The order is worked out afresh for each steal": before page 1 was asked for it was 6, 3, 5
    ∷ row (stolen_twice stale) (0 ∷ 6 ∷ 0 ∷ 5 ∷ [])
    ∷ []

pub effects-hold : Hold effects
unfolding effects leaves stolen_twice bit put_bit range each only put sorted least some_of pages cached_pages fetching_pages before
    present missing pruned sees time_for use_for use_key ahead seen not_ahead not_seen use_time order1989 steal_order victim full dropped woken landed
    for_fetch read_running read_of arrive_of lost_of detach_of steal_of
effects-hold = refl

-- ---- the program's lines

-- a letter and 99 fields, of which the first is longer
abbrev long : List ℕ → List ℕ
long first = bytes "N," ++ (first ++ each (λ _. bytes ",1") (range 0 98))

unfoldable pub texts : List Row
texts =
    -- "lines of at most 200 bytes"
    row (length (long (bytes "10")) ∷ num (well_formed (long (bytes "10"))) ∷ []) (200 ∷ 1 ∷ [])
    ∷ row (length (long (bytes "100")) ∷ num (well_formed (long (bytes "100"))) ∷ []) (201 ∷ 0 ∷ [])
    -- "A last line may lack its line end"; an empty line is a line
    ∷ row (program_of (bytes "A,0,0,10,0,6\nR,0")) (bytes "E,3\nE,6\n")
    -- A.1: the A line has five fields
    ∷ row (program_of (bytes "A,0,0,10\n")) (bytes "E,14\n")
    ∷ row (program_of (bytes "R,0\n\n")) (bytes "E,6\nE,14\n")
    ∷ row (program_of []) []
    ∷ []

pub texts-hold : Hold texts
unfolding texts bytes bit put_bit range each only every put sorted least some_of pages cached_pages fetching_pages held ends clusters
    before present missing pruned sees time_for use_for use_key ahead seen not_ahead not_seen use_time order1989 steal_order fetch_order victim attach_of
    read_running read_of steal_of full dropped woken landed for_fetch arrive_of detach_of lost_of prefetch_of fetch_open read_turn turn_of turns_of
    run_of split is_decimal decimal_value is_field well_formed digits_of line_of obeyed respond_of lines_of answers program_of
texts-hold = refl
