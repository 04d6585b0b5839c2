-- The third statement says something: a state that meets its premises, what a run of it answers, and that no schedule does better. Assumes nothing.
use Prim.Native.Nat.{ℕ, zero, suc, ◌≤◌}
use mathlib.Core.Path.{◌≡◌, refl, sym, subst}
use mathlib.Core.List.{List, [], ◌∷◌}
use native.Mathlib.Omega.{arith}
use lib.ListN.{replicate}
use lib.Dec.{T}
use Rattle.bits.specs.Map.{bit, put_bit}
use Rattle.rules.specs.Lists.{range, each, only, every, put, sorted, least, some_of}
use Rattle.rules.specs.Pages.{pages, cached, cached_pages, fetching_pages}
use Rattle.rules.specs.Readers.{no_reader, reader_at, attached}
use Rattle.rules.specs.Valid.{Valid, Placed, ReaderIn}
use Rattle.rules.specs.UseTimes.{before, present, missing, pruned, sees, time_for, use_for, use_key, ahead, seen}
use Rattle.rules.specs.Orders.{not_ahead, not_seen, use_time, order1989, steal_order, victim}
use Rattle.rules.specs.Calls.{with_reader, fresh, settings_in, setup_of, read_running, read_of, full, dropped, woken, landed, for_fetch, arrive_of}
use Rattle.rules.specs.Run.{fetch_open, read_turn, turn_of, turns_of, run_of}
use Rattle.rules.specs.Schedules.{Set, Serves, fetches_in}
use Rattle.rules.specs.Third.{Covers, Premises, goes, laid_down, laid, hit_sets, Best}
use Rattle.rules.proofs.tables.Soundings.{up_to}
use Rattle.rules.proofs.calls.Changes.{readers-changed}
use Rattle.rules.proofs.calls.Kept.{same_at, setup-valid}
use Rattle.rules.proofs.third.Optimal.{third}
use Rattle.rules.specs.declared.Rule.TheVariants.{Of1989}
use Rattle.rules.specs.declared.State.{State}
use Rattle.rules.specs.declared.Reader.{Reader}
use Rattle.rules.specs.declared.Answer.TheVariants.{Ran}

-- two frames, nothing cached, a file of eight pages, and a look-ahead of 60 ticks
abbrev start : State
start = fresh 2 60 0 (8 ∷ replicate 7 0) Of1989 (replicate 8 0)

-- two readers of it up to page 6, the second three pages ahead of the first: at pace 10 the look-ahead covers their last page, and one tick less would not
abbrev pub lead : State
lead = with_reader (with_reader start 0 (up_to 6 0 10)) 1 (up_to 6 3 10)

-- what holds of the two readers and of no reader holds of every record
each-reader : (P : Reader → Type 0) → P (up_to 6 0 10) → P (up_to 6 3 10) → P no_reader → (j : ℕ) → P (reader_at lead j)
each-reader P a b c zero = a
each-reader P a b c (suc zero) = b
each-reader P a b c (suc (suc j)) = rw (same_at 14 j no_reader) c

placed : (c : ℕ) → c ≤ 6 → Placed start (up_to 6 c 10)
placed c h = record {
  file_high = omega arith;
  file_there = omega arith;
  pace_low = omega arith;
  pace_high = omega arith;
  last_low = omega arith;
  last_high = omega arith;
  position_in = h;
}

-- it is valid
pub lead-valid : Valid lead
unfolding setup_of settings_in every
lead-valid = readers-changed start (setup-valid 2 60 0 (8 ∷ replicate 7 0) 0 (replicate 8 0) refl refl) lead.readers refl
    (each-reader (λ r. ReaderIn r.condition start r) (placed 0 (omega arith)) (placed 3 (omega arith)) refl)
    (λ j. rw (same_at {A = ℕ} 16 j 0) (omega arith))

-- it meets the premises
pub lead-premises : Premises lead 10
unfolding fetch_open fetching_pages pages range each only bit
lead-premises = record {
  one_pace = each-reader (λ r. T (attached r) → r.pace ≡ 10) (λ _. refl) (λ _. refl) (λ a. absurd a);
  no_time = refl;
  covers = each-reader (λ r. T (attached r) → Covers lead 10 r) (λ _. omega arith) (λ _. omega arith) (λ a. absurd a);
  none_open = refl;
  by_1989 = refl;
}

-- ---- what it reads and fetches

-- 16,384 turns, the most that are permitted, fetch seven times for two frames and six pages: pages are given up, and one is fetched twice
pub lead-answer : (run_of lead 16384).answer ≡ Ran 7 9
unfolding bit put_bit range each only put sorted least some_of pages cached_pages fetching_pages before present missing pruned sees
    time_for use_for use_key ahead seen not_ahead not_seen use_time order1989 steal_order victim read_running read_of full dropped woken landed for_fetch
    arrive_of fetch_open read_turn turn_of turns_of run_of
lead-answer = refl

-- the first reader's six pages, and the second's three between them
abbrev pub in_turn : List ℕ
in_turn = 0 ∷ 3 ∷ 1 ∷ 4 ∷ 2 ∷ 5 ∷ 3 ∷ 4 ∷ 5 ∷ []

-- they are the reads laid down
pub lead-reads : laid 16384 lead ≡ in_turn
unfolding laid_down goes
lead-reads = refl

lead-best : Best 16384 lead 7 9
lead-best = let r = (third lead 16384).best lead-valid 10 lead-premises (omega arith) in in-numbers r.0 r.1 r.2 r.3
  where
    in-numbers : (fetches reads : ℕ) → (run_of lead 16384).answer ≡ Ran fetches reads → Best 16384 lead fetches reads → Best 16384 lead 7 9
    in-numbers fetches reads e b =
        let h = lead-answer in
        let f : fetches ≡ 7 = cc in
        let r : reads ≡ 9 = cc in
        subst (λ n. Best 16384 lead 7 n) r (subst (λ n. Best 16384 lead n reads) f b)

-- the run's own sets serve these reads with seven fetches
pub lead-own : Serves 8192 2 in_turn (hit_sets 16384 lead) × (fetches_in 8192 (cached lead) (hit_sets 16384 lead) ≡ 7)
lead-own = (subst (λ l. Serves 8192 2 l (hit_sets 16384 lead)) lead-reads lead-best.own_serves, lead-best.own_fetches)

-- and no sets do with less
pub lead-least : (Bs : List Set) → Serves 8192 2 in_turn Bs → 7 ≤ fetches_in 8192 (cached lead) Bs
lead-least Bs h = lead-best.least Bs (subst (λ l. Serves 8192 2 l Bs) (sym lead-reads) h)
