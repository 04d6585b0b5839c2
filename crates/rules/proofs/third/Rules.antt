-- The third statement needs the 1989 rule: two states that differ in their rule alone, both valid. Under 1989 the run fetches once, and no schedule does with
-- less; under 1993 it fetches twice for the same reads. A.6: "A user who selects 1993 has no best-schedule result". Assumes nothing.
use Prim.Native.Nat.{ℕ, zero, suc, ◌<◌}
use mathlib.Core.Path.{◌≡◌, refl, sym, subst}
use mathlib.Core.Bool.{true}
use mathlib.Core.List.{List, ◌∷◌}
use native.Mathlib.Omega.{arith}
use lib.ListN.{length, replicate}
use lib.Dec.{T}
use Rattle.bits.specs.Map.{bit, put_bit}
use Rattle.rules.specs.Lists.{range, each, only, every, put, sorted, least, some_of, total}
use Rattle.rules.specs.Pages.{cached, pages, cached_pages, fetching_pages}
use Rattle.rules.specs.Readers.{no_reader, reader_at, attached}
use Rattle.rules.specs.Valid.{Valid, Placed}
use Rattle.rules.specs.UseTimes.{before, present, missing, pruned, sees, time_for, use_for, use_key, ahead, seen}
use Rattle.rules.specs.Orders.{
  not_ahead,
  not_seen,
  use_time,
  order1989,
  weight_sum,
  surplus,
  standing,
  from_chosen,
  choice,
  repeated,
  order1993,
  steal_order,
  victim,
}
use Rattle.rules.specs.Calls.{
  with_reader,
  with_cached,
  rule_of,
  fresh,
  settings_in,
  setup_of,
  read_running,
  read_of,
  full,
  dropped,
  woken,
  landed,
  for_fetch,
  arrive_of,
}
use Rattle.rules.specs.Run.{fetch_open, read_turn, turn_of, turns_of, run_of}
use Rattle.rules.specs.Schedules.{Set, Serves, fetches_in}
use Rattle.rules.specs.Third.{Covers, Premises, laid, hit_sets, Best}
use Rattle.rules.proofs.tables.Soundings.{reader}
use Rattle.rules.proofs.calls.Changes.{cached-count, reader-changed, page-cached}
use Rattle.rules.proofs.calls.Kept.{same_at, setup-valid}
use Rattle.rules.proofs.third.Optimal.{third}
use Rattle.rules.specs.declared.Rule.{Rule}
use Rattle.rules.specs.declared.Rule.TheVariants.{Of1989, Of1993}
use Rattle.rules.specs.declared.State.{State}
use Rattle.rules.specs.declared.Reader.{Reader}
use Rattle.rules.specs.declared.Answer.TheVariants.{Ran}
use Rattle.rules.specs.declared.Condition.TheVariants.{Running}

-- two frames; file 0 has one page, and a reader is expected; file 1 has two, and none is
abbrev empty : Rule → State
empty rule = fresh 2 20 0 (1 ∷ 2 ∷ replicate 6 0) rule (1 ∷ replicate 7 0)

-- a reader of file 1, from the start
abbrev lone : Reader
lone = reader Running 1 10 0 2

abbrev reading : Rule → State
reading rule = with_reader (empty rule) 0 lone

-- page 1 of file 0 is cached, which nobody reads, and page 2 of file 1
abbrev one-cached : Rule → State
one-cached rule = with_cached (reading rule) (put_bit (reading rule).cached 0 1)

abbrev pub held : Rule → State
held rule = with_cached (one-cached rule) (put_bit (one-cached rule).cached 1025 1)

-- what holds of the reader and of no reader holds of every record
each-reader : (P : Reader → Type 0) → P lone → P no_reader → (rule : Rule) (j : ℕ) → P (reader_at (held rule) j)
each-reader P a b rule zero = a
each-reader P a b rule (suc j) = rw (same_at 15 j no_reader) b

placed : (rule : Rule) → Placed (empty rule) lone
placed rule = record {
  file_high = omega arith;
  file_there = omega arith;
  pace_low = omega arith;
  pace_high = omega arith;
  last_low = omega arith;
  last_high = omega arith;
  position_in = omega arith;
}

module _ (number : ℕ) (known : settings_in 2 20 0 (1 ∷ 2 ∷ replicate 6 0) number (1 ∷ replicate 7 0) ≡ true) where
  abbrev rule : Rule
  rule = rule_of number

  empty-valid : Valid (empty rule)
  unfolding setup_of
  empty-valid = rw known at (setup-valid 2 20 0 (1 ∷ 2 ∷ replicate 6 0) number (1 ∷ replicate 7 0) refl refl)

  reading-valid : Valid (reading rule)
  reading-valid = reader-changed (empty rule) empty-valid 0 lone (placed rule) (omega arith)

  one-valid : Valid (one-cached rule)
  unfolding cached_pages pages range each only bit
  one-valid =
      let v = reading-valid in
      let none : length (cached_pages (reading rule)) ≡ 0 = refl in
      page-cached (reading rule) v 0 (record { low = omega arith; there = omega arith }) tt (λ h. h)
      (omega (arith, none, cached-count (reading rule) v.sizes_high v.cached_in))

  held-valid : Valid (held rule)
  unfolding cached_pages pages range each only bit put_bit
  held-valid =
      let v = one-valid in
      let one : length (cached_pages (one-cached rule)) ≡ 1 = refl in
      page-cached (one-cached rule) v 1025 (record { low = omega arith; there = omega arith }) tt (λ h. h)
      (omega (arith, one, cached-count (one-cached rule) v.sizes_high v.cached_in))

-- both are valid
pub valid-1989 : Valid (held Of1989)
unfolding settings_in every
valid-1989 = held-valid 0 refl

pub valid-1993 : Valid (held Of1993)
unfolding settings_in every
valid-1993 = held-valid 1 refl

-- and the first meets the premises: those of the second but for its rule
pub premises-1989 : Premises (held Of1989) 10
unfolding fetch_open fetching_pages pages range each only bit
premises-1989 = record {
  one_pace = each-reader (λ r. T (attached r) → r.pace ≡ 10) (λ _. refl) (λ a. absurd a) Of1989;
  no_time = refl;
  covers = each-reader (λ r. T (attached r) → Covers (held Of1989) 10 r) (λ _. omega arith) (λ a. absurd a) Of1989;
  none_open = refl;
  by_1989 = refl;
}

-- ---- 17 turns, in which the reader reads both pages

pub run-1989 : (run_of (held Of1989) 17).answer ≡ Ran 1 2
unfolding bit put_bit range each only put sorted least some_of pages cached_pages fetching_pages before present missing pruned sees
    time_for use_for use_key ahead seen not_ahead not_seen use_time order1989 steal_order victim read_running read_of full dropped woken landed for_fetch
    arrive_of fetch_open read_turn turn_of turns_of run_of
run-1989 = refl

-- page 2 is dropped for page 1, and fetched again
pub run-1993 : (run_of (held Of1993) 17).answer ≡ Ran 2 2
unfolding bit put_bit range each only every put sorted least some_of total pages cached_pages fetching_pages before present missing pruned sees
    time_for use_for use_key ahead seen not_ahead not_seen use_time order1989 weight_sum surplus standing from_chosen
    choice repeated order1993 steal_order victim
    read_running read_of full dropped woken landed for_fetch arrive_of fetch_open read_turn turn_of turns_of run_of
run-1993 = refl

-- the same reads
same_reads : laid 17 (held Of1993) ≡ laid 17 (held Of1989)
same_reads = refl

-- so there is a schedule that serves the reads of the run under 1993 and fetches less than its two
pub not-best : (Bs : List Set) × Serves 8192 (held Of1993).frames (laid 17 (held Of1993)) Bs × (fetches_in 8192 (cached (held Of1993)) Bs < 2)
not-best = let r = (third (held Of1989) 17).best valid-1989 10 premises-1989 (omega arith) in in-numbers r.0 r.1 r.2 r.3
  where
    in-numbers : (fetches reads : ℕ) → (run_of (held Of1989) 17).answer ≡ Ran fetches reads → Best 17 (held Of1989) fetches reads
        → (Bs : List Set) × Serves 8192 (held Of1993).frames (laid 17 (held Of1993)) Bs × (fetches_in 8192 (cached (held Of1993)) Bs < 2)
    in-numbers fetches reads e b =
        let h = run-1989 in
        let f : fetches ≡ 1 = cc in
        (hit_sets 17 (held Of1989), subst (λ l. Serves 8192 2 l (hit_sets 17 (held Of1989))) (sym same_reads) b.own_serves, omega (arith, b.own_fetches, f))
