-- 01, "The program quay": the paper's listing, from its input's bytes to its output's. Assumes nothing.
use Prim.Native.Nat.{ℕ}
use Prim.Native.Char.{code}
use Prim.Native.String.{String, [], ◌∷◌}
use mathlib.Core.Path.{◌≡◌, refl}
use mathlib.Core.List.{List, [], ◌∷◌}
use Rattle.bits.specs.Map.{bit, put_bit}
use Rattle.rules.specs.Lists.{range, each, only, every, put, sorted, least, some_of}
use Rattle.rules.specs.Pages.{pages, cached_pages, fetching_pages, held, ends, clusters}
use Rattle.rules.specs.UseTimes.{before, present, missing, pruned, sees, time_for, use_for, use_key, ahead, seen}
use Rattle.rules.specs.Orders.{not_ahead, not_seen, use_time, order1989, steal_order, fetch_order, victim}
use Rattle.rules.specs.Calls.{
  settings_in,
  setup_of,
  attach_of,
  read_running,
  read_of,
  steal_of,
  full,
  dropped,
  woken,
  landed,
  for_fetch,
  arrive_of,
  detach_of,
  lost_of,
  prefetch_of,
}
use Rattle.rules.specs.Run.{fetch_open, read_turn, turn_of, turns_of, run_of}
use Rattle.rules.specs.Lines.{split, is_decimal, decimal_value, is_field, well_formed, digits_of, line_of, obeyed, respond_of, lines_of, answers, program_of}

-- the bytes of a text
unfoldable pub bytes : String → List ℕ
bytes [] = []
bytes (c ∷ s) = code c ∷ bytes s

-- "Input, then the output whole", computed from the rules; A.1: "in 01's listing ,0,6"
pub listing : program_of (bytes "S,3,100,0,6,0,0,0,0,0,0,0\nA,0,0,10,0,6\nR,0\nR,0\nI,0,1\nR,0\nA,1,0,10,0,6\nN,32\nL\nP\nT\nI,0,4\nC,0\nI,0,5\nN,16\nL\n")
    ≡ bytes "O\nO\nF,0,1\nE,7\nI\nH,0,1\nO\nN,2,4\nL,3,0,2,0,1,0,3\nF,0,4\nS,0,2\nI\nC,2,1,1,3,4\nE,9\nN,0,2\nL,3,0,3,0,1,0,4\n"
unfolding bytes bit put_bit range each only every put sorted least some_of pages cached_pages fetching_pages held ends clusters before
    present missing pruned sees time_for use_for use_key ahead seen not_ahead not_seen use_time order1989 steal_order fetch_order victim settings_in
    setup_of attach_of read_running read_of steal_of full dropped woken landed for_fetch arrive_of detach_of lost_of prefetch_of fetch_open
    read_turn turn_of turns_of run_of split is_decimal decimal_value is_field well_formed digits_of line_of obeyed respond_of lines_of answers
    program_of
listing = refl
