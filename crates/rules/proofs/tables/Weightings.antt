-- The 1993 rule (A.6), computed: its worked orders, what each part of it changes, and how attaches are counted. Assumes nothing.
use Prim.Native.Nat.{ℕ}
use mathlib.Core.Path.{refl}
use mathlib.Core.List.{List, [], ◌∷◌, ◌++◌}
use lib.ListN.{take, replicate}
use Rattle.bits.specs.Map.{bit, put_bit}
use Rattle.rules.specs.Lists.{range, each, only, every, put, sorted, least, some_of, total}
use Rattle.rules.specs.Pages.{key_of, pages, cached_pages}
use Rattle.rules.specs.UseTimes.{before, present, missing, pruned, sees, time_for, use_for, use_key, ahead, seen}
use Rattle.rules.specs.Orders.{
  not_ahead,
  not_seen,
  use_time,
  order1989,
  weight_sum,
  surplus,
  standing,
  from_chosen,
  choice,
  repeated,
  order1993,
  steal_order,
  victim,
}
use Rattle.rules.specs.Calls.{settings_in, setup_of, attach_of, full, dropped, woken, landed, for_fetch, arrive_of}
use Rattle.rules.specs.Image.{rule_number}
use Rattle.rules.specs.Entries.{code}
use Rattle.rules.proofs.tables.Soundings.{state_by, reader}
use Rattle.rules.proofs.tables.Edges.{Row, Hold, row}
use Rattle.rules.specs.declared.Rule.{Rule}
use Rattle.rules.specs.declared.Rule.TheVariants.{Of1989, Of1993}
use Rattle.rules.specs.declared.State.{State}
use Rattle.rules.specs.declared.Reply.{Reply}
use Rattle.rules.specs.declared.Condition.TheVariants.{Running}

-- ---- orders

-- by a rule: frames, sizes, E and R of files 0 and 1, and the cached pages; no readers
abbrev still : Rule → ℕ → List ℕ → List ℕ → List ℕ → List ℕ → State
still rule frames sizes expected attaches cached = state_by rule expected attaches frames 0 40 0 sizes [] cached []

abbrev three_and_one : List ℕ
three_and_one = key_of 0 1 ∷ key_of 0 2 ∷ key_of 0 3 ∷ key_of 1 8 ∷ []

unfoldable pub weightings : List Row
weightings =
    -- even weights: file 0 has more than its share
    row (steal_order (still Of1993 4 (8 ∷ 8 ∷ []) (1 ∷ 1 ∷ []) [] three_and_one)) (key_of 0 3 ∷ key_of 0 2 ∷ key_of 1 8 ∷ key_of 0 1 ∷ [])
    -- "a sum of 0 makes every share 0"
    ∷ row (steal_order (still Of1993 4 (8 ∷ 8 ∷ []) (0 ∷ 0 ∷ []) [] three_and_one)) (key_of 0 3 ∷ key_of 0 2 ∷ key_of 1 8 ∷ key_of 0 1 ∷ [])
    -- the 1989 rule goes by the page
    ∷ row (steal_order (still Of1989 4 (8 ∷ 8 ∷ []) (1 ∷ 1 ∷ []) [] three_and_one)) (key_of 1 8 ∷ key_of 0 3 ∷ key_of 0 2 ∷ key_of 0 1 ∷ [])
    -- "equal: higher file"
    ∷ row (steal_order (still Of1993 4 (8 ∷ 8 ∷ []) (1 ∷ 1 ∷ []) [] (key_of 0 1 ∷ key_of 0 2 ∷ key_of 1 1 ∷ key_of 1 2 ∷ [])))
    (key_of 1 2 ∷ key_of 0 2 ∷ key_of 1 1 ∷ key_of 0 1 ∷ [])
    -- shares of 16 and 8 thirds, and both files below them: −10/3 and −5/3
    ∷ row (steal_order (still Of1993 8 (8 ∷ 4 ∷ []) (1 ∷ 1 ∷ []) [] (key_of 0 1 ∷ key_of 0 2 ∷ key_of 1 1 ∷ []))) (key_of 1 1 ∷ key_of 0 2 ∷ key_of 0 1 ∷ [])
    -- "(E − R, or 0 if negative)": as many attached as expected, and one more
    ∷ row (steal_order (still Of1993 4 (8 ∷ 8 ∷ []) (2 ∷ 1 ∷ []) (2 ∷ 0 ∷ []) (key_of 0 1 ∷ key_of 1 1 ∷ key_of 1 2 ∷ [])))
    (key_of 0 1 ∷ key_of 1 2 ∷ key_of 1 1 ∷ [])
    ∷ row (steal_order (still Of1993 4 (8 ∷ 8 ∷ []) (2 ∷ 1 ∷ []) (3 ∷ 0 ∷ []) (key_of 0 1 ∷ key_of 1 1 ∷ key_of 1 2 ∷ [])))
    (key_of 0 1 ∷ key_of 1 2 ∷ key_of 1 1 ∷ [])
    -- "compared without rounding": 1 − 4/3 and 2 − 8/3, which with shares rounded down are equal
    ∷ row (steal_order (still Of1993 4 (4 ∷ 8 ∷ []) (1 ∷ 1 ∷ []) [] (key_of 0 1 ∷ key_of 1 1 ∷ key_of 1 2 ∷ []))) (key_of 0 1 ∷ key_of 1 2 ∷ key_of 1 1 ∷ [])
    ∷ []

pub weightings-hold : Hold weightings
unfolding weightings bit put_bit range each only every put sorted least some_of total pages before present missing pruned sees time_for use_for use_key
    ahead seen not_ahead not_seen use_time order1989 weight_sum surplus standing from_chosen choice repeated order1993 steal_order
weightings-hold = refl

-- ---- Setup, Attach, Arrive

-- the number of an answer, and of the state the rule, E and R of files 0 and 1
unfoldable pub told : Reply → List ℕ
told r = code r.answer ∷ rule_number r.state.rule ∷ (take 2 r.state.expected ++ take 2 r.state.attaches)

-- E of files 0 and 1
abbrev expecting : ℕ → ℕ → List ℕ
expecting a b = a ∷ b ∷ replicate 6 0

-- two files of eight pages, with R of the first
abbrev docking : Rule → ℕ → State
docking rule attaches = still rule 4 (8 ∷ 8 ∷ []) (7 ∷ 1000 ∷ []) (attaches ∷ []) []

-- all frames taken, a page of file 1 in fetch: file 0, of which readers are expected, has one page cached, and file 1, which is read, two
abbrev crowded : Rule → State
crowded rule = state_by rule (1 ∷ []) [] 3 0 40 0 (8 ∷ 8 ∷ []) (reader Running 1 10 0 8 ∷ []) (key_of 0 1 ∷ key_of 1 7 ∷ key_of 1 8 ∷ []) (key_of 1 1 ∷ [])

-- the number of Arrive's answer, and the pages cached after it
abbrev landing : Rule → List ℕ
landing rule = let r = arrive_of (crowded rule) 1 1 in code r.answer ∷ cached_pages r.state

unfoldable pub counting : List Row
counting =
    -- "0 to 1,000; outside that, or a rule other than the two, is refusal 1", under either rule; the idle state has the 1989 rule
    row (told (setup_of 1 1 0 (replicate 8 1) 1 (expecting 1000 0))) (5177344 ∷ 1 ∷ 1000 ∷ 0 ∷ 0 ∷ 0 ∷ [])
    ∷ row (told (setup_of 1 1 0 (replicate 8 1) 0 (expecting 3 1000))) (5177344 ∷ 0 ∷ 3 ∷ 1000 ∷ 0 ∷ 0 ∷ [])
    ∷ row (told (setup_of 1 1 0 (replicate 8 1) 1 (expecting 1 1001))) (1 ∷ 0 ∷ 0 ∷ 0 ∷ 0 ∷ 0 ∷ [])
    ∷ row (told (setup_of 1 1 0 (replicate 8 1) 0 (expecting 1001 1))) (1 ∷ 0 ∷ 0 ∷ 0 ∷ 0 ∷ 0 ∷ [])
    ∷ row (told (setup_of 1 1 0 (replicate 8 1) 2 (expecting 1 1))) (1 ∷ 0 ∷ 0 ∷ 0 ∷ 0 ∷ 0 ∷ [])
    -- "R counts attaches to the file", under either rule, "and stops at 65,535"
    ∷ row (told (attach_of (docking Of1993 4) 15 0 10 0 8)) (5177344 ∷ 1 ∷ 7 ∷ 1000 ∷ 5 ∷ 0 ∷ [])
    ∷ row (told (attach_of (docking Of1989 4) 15 1 10 0 8)) (5177344 ∷ 0 ∷ 7 ∷ 1000 ∷ 4 ∷ 1 ∷ [])
    ∷ row (told (attach_of (docking Of1993 65534) 0 0 10 0 8)) (5177344 ∷ 1 ∷ 7 ∷ 1000 ∷ 65535 ∷ 0 ∷ [])
    ∷ row (told (attach_of (docking Of1993 65535) 0 0 10 0 8)) (5177344 ∷ 1 ∷ 7 ∷ 1000 ∷ 65535 ∷ 0 ∷ [])
    -- a refused one is none: the slot is not empty
    ∷ row (told (attach_of (crowded Of1993) 0 1 10 0 8)) (5 ∷ 1 ∷ 1 ∷ 0 ∷ 0 ∷ 0 ∷ [])
    -- Arrive goes by the rule: the 1989 rule drops page 1 of file 0, which nobody reads; the 1993 rule keeps it, and drops the page of file 1 that is used last
    ∷ row (landing Of1989) (4784129 ∷ key_of 1 1 ∷ key_of 1 7 ∷ key_of 1 8 ∷ [])
    ∷ row (landing Of1993) (4785160 ∷ key_of 0 1 ∷ key_of 1 1 ∷ key_of 1 7 ∷ [])
    ∷ []

pub counting-hold : Hold counting
unfolding counting told bit put_bit range each only every put sorted least some_of total pages cached_pages before present missing pruned sees time_for use_for
    use_key ahead seen not_ahead not_seen use_time order1989 weight_sum surplus standing from_chosen choice repeated order1993 steal_order victim settings_in
    setup_of attach_of full dropped woken landed for_fetch arrive_of code
counting-hold = refl
