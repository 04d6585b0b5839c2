-- 01, "Soundings to check by": the twelve as one table and one theorem. Assumes nothing.
use Prim.Native.Nat.{ℕ, ◌/◌}
use mathlib.Core.Path.{◌≡◌, refl}
use mathlib.Core.List.{List, [], ◌∷◌, ◌++◌, map}
use lib.ListN.{take, replicate}
use Rattle.bits.specs.Map.{bit, put_bit}
use Rattle.rules.specs.Lists.{range, each, only, put, sorted, least, some_of}
use Rattle.rules.specs.Pages.{key_of, pages, held, ends, clusters}
use Rattle.rules.specs.Readers.{no_reader}
use Rattle.rules.specs.UseTimes.{before, present, missing, pruned, sees, time_for, use_for, use_key, ahead, seen}
use Rattle.rules.specs.Orders.{not_ahead, not_seen, use_time, order1989, steal_order, fetch_order}
use Rattle.rules.specs.declared.Rule.{Rule}
use Rattle.rules.specs.declared.Rule.TheVariants.{Of1989}
use Rattle.rules.specs.declared.State.{State}
use Rattle.rules.specs.declared.Reader.{Reader}
use Rattle.rules.specs.declared.Condition.{Condition}
use Rattle.rules.specs.declared.Condition.TheVariants.{Running}

-- the map with these pages
abbrev pub map_of : List ℕ → List ℕ
map_of [] = replicate 128 0
map_of (k ∷ ks) = put_bit (map_of ks) k 1

-- what a sounding looks for: an order, the times of some pages, or the clusters of file 0
pub data Sought : Type 0 where
  steal : Sought
  fetch : Sought
  times : List ℕ → Sought
  runs : Sought

pub record Row : Type 0 where
  pub sounding : ℕ
  pub time : ℕ
  pub turn : ℕ
  pub sizes : List ℕ
  pub readers : List Reader
  pub cached : List ℕ
  pub fetching : List ℕ
  pub sought : Sought
  pub answer : List ℕ

-- a state, of rule, E and R, frames, turn, L, T, sizes, readers, cached pages and pages in fetch: no further files and readers, and all marks 0
abbrev pub state_by : Rule → List ℕ → List ℕ → ℕ → ℕ → ℕ → ℕ → List ℕ → List Reader → List ℕ → List ℕ → State
state_by rule expected attaches frames turn look time sizes readers cached fetching =
    record {
      frames = frames;
      turn = turn;
      look_ahead = look;
      fetch_time = time;
      sizes = take 8 (sizes ++ replicate 8 0);
      readers = take 16 (readers ++ replicate 16 no_reader);
      marks = replicate 16 0;
      rule = rule;
      expected = take 8 (expected ++ replicate 8 0);
      attaches = take 8 (attaches ++ replicate 8 0);
      cached = map_of cached;
      fetching = map_of fetching;
    }

-- by the 1989 rule, E and R 0
abbrev pub state_with : ℕ → ℕ → ℕ → ℕ → List ℕ → List Reader → List ℕ → List ℕ → State
state_with = state_by Of1989 [] []

-- the state of a row: L 40
abbrev pub state_of : Row → State
state_of r = state_with 16 r.turn 40 r.time r.sizes r.readers r.cached r.fetching

abbrev pub find : Sought → State → List ℕ
find steal s = steal_order s
find fetch s = fetch_order s
find (times keys) s = map (λ k. use_key s k / 16) keys
find runs s = clusters s 0

-- a reader's record
abbrev pub reader : Condition → ℕ → ℕ → ℕ → ℕ → Reader
reader condition file pace position last = record { condition = condition; file = file; pace = pace; position = position; last = last }

-- a running reader of file 0 with its last page
abbrev pub up_to : ℕ → ℕ → ℕ → Reader
up_to last c w = reader Running 0 w c last

-- one that reads all of 16 pages
abbrev pub at : ℕ → ℕ → Reader
at = up_to 16

abbrev pub f0 : List ℕ → List ℕ
f0 ps = map (key_of 0) ps

-- a row: its mark, T, the turn, sizes, readers, cached pages, what is sought and the answer; no page is in fetch
abbrev row : ℕ → ℕ → ℕ → List ℕ → List Reader → List ℕ → Sought → List ℕ → Row
row n t u zs rs cs q a = record { sounding = n; time = t; turn = u; sizes = zs; readers = rs; cached = cs; fetching = []; sought = q; answer = a }

-- unless said: file 0, size 16, cached 1, 2, 3, 5, 7, reader in slot 0 at 3, w 10
abbrev usual : ℕ → ℕ → Sought → List ℕ → Row
usual n t q a = row n t 0 (16 ∷ []) (at 3 10 ∷ []) (f0 (1 ∷ 2 ∷ 3 ∷ 5 ∷ 7 ∷ [])) q a

unfoldable pub table : List Row
table =
    usual 1 20 steal (f0 (3 ∷ 2 ∷ 1 ∷ 7 ∷ 5 ∷ []))
    ∷ usual 2 20 fetch (f0 (4 ∷ 6 ∷ []))
    ∷ usual 2 20 (times (f0 (4 ∷ 6 ∷ []))) (10 ∷ 50 ∷ [])
    ∷ usual 3 40 steal (f0 (3 ∷ 2 ∷ 1 ∷ 7 ∷ 5 ∷ []))
    ∷ usual 3 40 fetch (f0 (4 ∷ []))
    ∷ usual 4 41 fetch []
    ∷ usual 5 0 steal (f0 (3 ∷ 2 ∷ 1 ∷ 7 ∷ 5 ∷ []))
    ∷ usual 5 0 fetch (f0 (4 ∷ 6 ∷ []))
    ∷ row 6 0 0 (16 ∷ []) (at 3 40 ∷ []) (f0 (1 ∷ 2 ∷ 3 ∷ 5 ∷ 7 ∷ [])) fetch (f0 (4 ∷ []))
    ∷ row 6 0 0 (16 ∷ []) (at 3 41 ∷ []) (f0 (1 ∷ 2 ∷ 3 ∷ 5 ∷ 7 ∷ [])) fetch []
    ∷ row 7 0 0 (16 ∷ []) (at 3 10 ∷ at 6 10 ∷ []) (f0 (1 ∷ 2 ∷ 3 ∷ 5 ∷ 7 ∷ [])) steal (f0 (3 ∷ 2 ∷ 1 ∷ 5 ∷ 7 ∷ []))
    ∷ row 8 0 0 (16 ∷ []) (at 4 10 ∷ at 6 10 ∷ []) (f0 (5 ∷ 7 ∷ [])) steal (f0 (7 ∷ 5 ∷ []))
    ∷ row 8 0 1 (16 ∷ []) (at 4 10 ∷ at 6 10 ∷ []) (f0 (5 ∷ 7 ∷ [])) steal (f0 (5 ∷ 7 ∷ []))
    ∷ row 9 0 0 (16 ∷ []) [] (f0 (2 ∷ 5 ∷ [])) steal (f0 (5 ∷ 2 ∷ []))
    ∷ row 10 0 0 (16 ∷ 16 ∷ []) [] (key_of 0 5 ∷ key_of 1 5 ∷ []) steal (key_of 1 5 ∷ key_of 0 5 ∷ [])
    ∷ row 11 0 0 (1024 ∷ []) (at 3 10 ∷ []) (f0 (64 ∷ 65 ∷ [])) runs (64 ∷ 65 ∷ [])
    ∷ row 12 0 0 (16 ∷ []) (at 3 10 ∷ []) [] steal []
    ∷ row 12 0 0 (16 ∷ []) (at 3 10 ∷ []) [] runs []
    ∷ []

-- the first sounding with page 4 in fetch
abbrev on_link : Sought → List ℕ → Row
on_link q a = record {
  sounding = 1;
  time = 20;
  turn = 0;
  sizes = 16 ∷ [];
  readers = at 3 10 ∷ [];
  cached = f0 (1 ∷ 2 ∷ 3 ∷ 5 ∷ 7 ∷ []);
  fetching = f0 (4 ∷ []);
  sought = q;
  answer = a;
}

-- what 02 changes, worked out by hand
unfoldable pub worked : List Row
worked =
    -- A.1: the reader's last page is 6, and so page 7 is ahead of nobody
    row 1 0 0 (16 ∷ []) (up_to 6 3 10 ∷ []) (f0 (1 ∷ 2 ∷ 3 ∷ 5 ∷ 7 ∷ [])) steal (f0 (7 ∷ 3 ∷ 2 ∷ 1 ∷ 5 ∷ []))
    ∷ row 1 0 0 (16 ∷ []) (up_to 6 3 10 ∷ []) (f0 (1 ∷ 2 ∷ 3 ∷ 5 ∷ 7 ∷ [])) fetch (f0 (4 ∷ 6 ∷ []))
    -- A.5: "a page in fetch counts as cached in q and in the pruning", page 4 for page 5 and for page 7; "it is still not .. fetched twice"
    ∷ on_link (times (f0 (5 ∷ 6 ∷ 7 ∷ []))) (20 ∷ 30 ∷ 60 ∷ [])
    ∷ on_link fetch (f0 (6 ∷ []))
    ∷ on_link steal (f0 (3 ∷ 2 ∷ 1 ∷ 7 ∷ 5 ∷ []))
    ∷ []

-- the answers of some rows, by the rules and as they stand
abbrev Told : List Row → Type 0
Told rows = map (λ r. find r.sought (state_of r)) rows ≡ map (λ r. r.answer) rows

-- every row holds, computed from the rules
pub soundings : Told table
unfolding table put_bit range each only put sorted least some_of bit pages before present missing pruned sees time_for use_for use_key
    ahead seen not_ahead not_seen use_time order1989 steal_order fetch_order held ends clusters
soundings = refl

pub worked-hold : Told worked
unfolding worked put_bit range each only put sorted least some_of bit pages before present missing pruned sees time_for use_for use_key
    ahead seen not_ahead not_seen use_time order1989 steal_order fetch_order held ends clusters
worked-hold = refl
