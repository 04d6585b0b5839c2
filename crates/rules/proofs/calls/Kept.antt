-- Every call keeps the state valid, and Setup makes a valid one. Assumes nothing.
use Prim.Native.Nat.{ℕ, zero, suc, ◌+◌, ◌-◌, ◌/◌, ◌%◌, ◌≤◌, ◌<◌}
use mathlib.Core.Path.{◌≡◌, refl, sym, subst}
use mathlib.Core.Bool.{true, false, not, cond}
use mathlib.Core.List.{List, [], ◌∷◌}
use native.Mathlib.Omega.{arith}
use native.Mathlib.Nat.{zero-div}
use borrow.Author.Tests.{eqb-false, not-false, ltb-false}
use lib.ListN.{get_or, length, replicate, length-replicate}
use lib.Dec.{T, T_not, eqb, ltb, lt→ltb}
use Rattle.bits.specs.Map.{bit, on}
use Rattle.rules.specs.Lists.{within, every, head}
use Rattle.rules.specs.Pages.{size, file_of, cached, in_fetch, Page, cached_pages}
use Rattle.rules.specs.Readers.{no_reader, reader_at, mark_at, attached, next_key, awaits, in_condition, onward, paced}
use Rattle.rules.specs.Valid.{Valid, Placed, ReaderIn, PageMap}
use Rattle.rules.specs.UseTimes.{seen}
use Rattle.rules.specs.Orders.{wanted, fetch_order}
use Rattle.rules.specs.Calls.{
  no_file,
  no_page,
  no_range,
  with_reader,
  with_slot,
  with_fetch,
  settings_in,
  rule_of,
  fresh,
  idle,
  setup_of,
  docked,
  attach_of,
  read_running,
  read_of,
  steal_of,
  arrive_of,
  detach_of,
  lost_of,
  prefetch_of,
  held_pace,
  measured_pace,
  measured,
  measure_of,
}
use Rattle.rules.specs.Run.{Turn, next_turn, read_turn, turn_of, turns_of, run_of}
use Rattle.rules.specs.Entries.{Call, attach, detach, read, arrive, lost, prefetch, steal, run, measure, call_of}
use Rattle.rules.specs.declared.State.{State}
use Rattle.rules.specs.declared.Reader.{Reader}
use Rattle.rules.specs.declared.Reply.{Reply}
use Rattle.rules.specs.declared.Condition.TheVariants.{Running, Waiting}
use Rattle.rules.proofs.laws.Tests.{less, and_both, and_first, and_second}
use Rattle.rules.proofs.orders.Distinct.{fetch-wanted, wanted-page}
use Rattle.rules.proofs.orders.Victims.{victim-cached}
use Rattle.rules.proofs.laws.Cases.{
  cond-all,
  condition-all,
  option-all,
  fetch-all,
  for-fetch-all,
  passed,
  failed,
  and-true,
  or-false,
  within-true,
  file_there,
}
use Rattle.rules.proofs.calls.PageMaps.{put_on}
use Rattle.rules.proofs.calls.Changes.{none-cached, placed-in, turn_moved, reader-changed, slot-changed, attach-counted, fetch-opened, page-dropped}
use Rattle.rules.proofs.calls.Landings.{placed-still, waiters-woken, landed-valid}

-- the reply's state is valid
abbrev Keeps : Reply → Type 0
Keeps r = Valid r.state

-- ---- Attach and Detach

docked-in : (s : State) (file pace start last : ℕ) → no_file s file ≡ false → not (within 1 1000 pace) ≡ false → no_range s file start last ≡ false
    → Placed s (docked file pace start last)
docked-in s file pace start last f p e =
    let a = file_there s file f in
    let b = within-true 1 1000 pace (not-false (within 1 1000 pace) p) in
    let c = or-false (no_page s file last) (ltb last start) e in
    let d = within-true 1 (size s file) last (not-false (within 1 (size s file) last) c.0) in
    record {
      file_high = a.0;
      file_there = a.1;
      pace_low = b.0;
      pace_high = b.1;
      last_low = d.0;
      last_high = d.1;
      position_in = omega (arith, ltb-false last start c.1);
    }

-- Attach keeps the state valid
pub attach-kept : (s : State) (slot file pace start last : ℕ) → Valid s → Valid (attach_of s slot file pace start last).state
unfolding attach_of
attach-kept s slot file pace start last v =
    let own : start ≤ start = omega arith in
    search (cond-all Keeps, condition-all Keeps, attach-counted, slot-changed, docked-in, own) depth 12

-- Detach keeps the state valid
pub detach-kept : (s : State) (slot : ℕ) → Valid s → Valid (detach_of s slot).state
unfolding detach_of
detach-kept s slot v =
    let none : Valid (with_slot s slot no_reader 0) = slot-changed s v slot no_reader refl 0 (omega arith) in
    search (cond-all Keeps, condition-all Keeps, none) depth 12

-- ---- Read

-- a reader that is not at its end has a page before it
pub next-page : (s : State) → Valid s → (r : Reader) → Placed s r → r.position < r.last → Page s (next_key r)
next-page s v r p h =
    let high = v.sizes_high r.file in
    let f : file_of (next_key r) ≡ r.file = omega (arith, p.file_high) in
    record { low = omega (arith, p.file_high); there = rw f (omega (arith, p.last_high)) }

module _ (s : State) (v : Valid s) (slot : ℕ) (r : Reader) (p : Placed s r) (m : mark_at s slot ≤ r.position) where
  not-at-end : eqb r.position r.last ≡ false → r.position < r.last
  not-at-end ne = let h = eqb-false r.position r.last ne in omega (arith, p.position_in)

  -- H, W and F
  hit-kept : r.condition ≡ Running → eqb r.position r.last ≡ false → Valid (with_reader s slot (onward r))
  hit-kept e ne =
      let l = not-at-end ne in
      let q : Placed s (onward r) = record {
        file_high = p.file_high;
        file_there = p.file_there;
        pace_low = p.pace_low;
        pace_high = p.pace_high;
        last_low = p.last_low;
        last_high = p.last_high;
        position_in = omega arith;
      } in
      reader-changed s v slot (onward r) (subst (λ c. ReaderIn c s (onward r)) (sym e) q) (omega arith)

  wait-kept : eqb r.position r.last ≡ false → T (in_fetch s (next_key r)) → Valid (with_reader s slot (in_condition Waiting r))
  unfolding awaits
  wait-kept ne f =
      reader-changed s v slot (in_condition Waiting r)
      (placed-still Waiting s r p, and_both (ltb r.position r.last) _ (lt→ltb _ _ (not-at-end ne)) f) m

fetch-kept : (s : State) → Valid s → (slot : ℕ) (r : Reader) → Placed s r → mark_at s slot ≤ r.position → eqb r.position r.last ≡ false
    → cached s (next_key r) ≡ false → Valid (with_fetch (with_reader s slot (in_condition Waiting r)) (next_key r))
fetch-kept s v slot r p m ne absent =
    let page = next-page s v r p (not-at-end s v slot r p m ne) in
    let opened = fetch-opened s v (next_key r) page (failed (cached s (next_key r)) absent) in
    wait-kept (with_fetch s (next_key r)) opened slot r (placed-in s _ _ _ _ _ _ r p) m ne (put_on s.fetching v.fetching_map (next_key r) page.low)

-- a running reader is placed in its file
pub running-placed : (s : State) → Valid s → (slot : ℕ) → (reader_at s slot).condition ≡ Running → Placed s (reader_at s slot)
running-placed s v slot e = subst (λ c. ReaderIn c s (reader_at s slot)) e (v.readers_in slot)

-- Read keeps the state valid
pub read_kept : (s : State) (slot : ℕ) → Valid s → Valid (read_of s slot).state
unfolding read_of read_running
read_kept s slot v =
    let m = v.marks_in slot in
    search (cond-all Keeps, condition-all Keeps, hit-kept, wait-kept, fetch-kept, running-placed, passed, m) depth 12

-- ---- Measure

held_in : (n : ℕ) → (1 ≤ held_pace n) × (held_pace n ≤ 1000)
held_in n =
    less n 1 (λ b. (1 ≤ cond b 1 (cond (ltb 1000 n) 1000 n)) × (cond b 1 (cond (ltb 1000 n) 1000 n) ≤ 1000)) (λ _. omega arith)
    (λ l. less 1000 n (λ b. (1 ≤ cond b 1000 n) × (cond b 1000 n ≤ 1000)) (λ _. omega arith) (λ h. omega arith))

-- a measured pace is in its range
measured-in : (interval blocked : ℕ) (r : Reader) (mark : ℕ) → 1 ≤ r.pace → r.pace ≤ 1000
    → (1 ≤ measured_pace interval blocked r mark) × (measured_pace interval blocked r mark ≤ 1000)
unfolding measured_pace
measured-in interval blocked r mark low high =
    let n = r.position - mark in
    cond-all (λ p. (1 ≤ p) × (p ≤ 1000)) (eqb n 0) _ _ (λ _. (low, high)) (λ _. held_in ((interval - blocked) / n))

-- a reader with another pace in range stands where it stood
paced-placed : (s : State) (r : Reader) (pace : ℕ) → (1 ≤ pace) × (pace ≤ 1000) → Placed s r → Placed s (paced pace r)
paced-placed s r pace w p =
    record {
      file_high = p.file_high;
      file_there = p.file_there;
      pace_low = w.0;
      pace_high = w.1;
      last_low = p.last_low;
      last_high = p.last_high;
      position_in = p.position_in;
    }

module _ (s : State) (slot interval blocked : ℕ) (v : Valid s) where
  abbrev r : Reader
  r = reader_at s slot

  abbrev after : Reader
  after = paced (measured_pace interval blocked r (mark_at s slot)) r

  placed : Placed s r → Placed s after
  placed p = paced-placed s r _ (measured-in interval blocked r (mark_at s slot) p.pace_low p.pace_high) p

  done : ReaderIn r.condition s after → Valid (measured s slot interval blocked)
  done h = slot-changed s v slot after h _ (omega (arith, v.marks_in slot))

  measured-running : r.condition ≡ Running → Valid (measured s slot interval blocked)
  measured-running e = done (subst (λ c. ReaderIn c s after) (sym e) (placed (subst (λ c. ReaderIn c s r) e (v.readers_in slot))))

  -- a reader that waits still waits
  measured-waiting : r.condition ≡ Waiting → Valid (measured s slot interval blocked)
  unfolding awaits
  measured-waiting e =
      let h : ReaderIn Waiting s r = subst (λ c. ReaderIn c s r) e (v.readers_in slot) in
      done (subst (λ c. ReaderIn c s after) (sym e) (placed h.0, h.1))

-- Measure keeps the state valid
pub measure-kept : (s : State) (slot interval blocked : ℕ) → Valid s → Valid (measure_of s slot interval blocked).state
unfolding measure_of
measure-kept s slot interval blocked v = search (cond-all Keeps, condition-all Keeps, measured-running, measured-waiting) depth 12

-- ---- Steal, Arrive, Lost and Prefetch

-- Steal keeps the state valid
pub steal-kept : (s : State) → Valid s → Valid (steal_of s).state
unfolding steal_of
steal-kept s v = search (option-all Keeps, page-dropped, victim-cached) depth 12

-- Arrive keeps the state valid
pub arrive-kept : (s : State) (file page : ℕ) → Valid s → Valid (arrive_of s file page).state
unfolding arrive_of
arrive-kept s file page v = search (for-fetch-all Keeps, landed-valid, passed) depth 12

-- Lost keeps the state valid
pub lost-kept : (s : State) (file page : ℕ) → Valid s → Valid (lost_of s file page).state
unfolding lost_of
lost-kept s file page v = search (for-fetch-all Keeps, waiters-woken, passed) depth 12

-- Prefetch keeps the state valid
pub prefetch-kept : (s : State) → Valid s → Valid (prefetch_of s).state
unfolding prefetch_of
prefetch-kept s v =
    option-all Keeps (head (fetch_order s)) _ _
    (λ k e. let w = fetch-wanted s v k e in fetch-opened s v k (wanted-page s v k w) (absent k w)) (λ _. v)
  where
    absent : (k : ℕ) → T (wanted s k) → T (cached s k) → ⊥
    absent k w = T_not (cached s k) (and_first (not (cached s k)) (not (in_fetch s k)) (and_second (seen s k) _ w))

-- ---- Run

next-turn : (s : State) → Valid s → Valid (next_turn s)
next-turn s v = turn_moved s v ((s.turn + 1) % 16) (omega arith)

read-turn-kept : (s : State) → Valid s → Valid (read_turn s).after
unfolding read_turn
read-turn-kept s v =
    let r = read_kept s s.turn v in
    fetch-all (λ (t : Turn). Valid t.after) (read_of s s.turn).answer _ _
    (λ file page _. let a = arrive-kept (read_of s s.turn).state file page r in next-turn _ (read_kept _ s.turn a))
    (next-turn _ r)

-- a turn keeps the state valid
pub turn-kept : (s : State) → Valid s → Valid (turn_of s).after
unfolding turn_of
turn-kept s v = cond-all (λ (t : Turn). Valid t.after) (attached (reader_at s s.turn)) _ _ (λ _. read-turn-kept s v) (λ _. next-turn s v)

-- so do any number of turns
pub turns-kept : (n : ℕ) (s : State) → Valid s → Valid (turns_of n s).after
unfolding turns_of
turns-kept zero s v = v
turns-kept (suc n) s v = turns-kept n (turn_of s).after (turn-kept s v)

-- Run keeps the state valid
pub run-kept : (s : State) (turns : ℕ) → Valid s → Valid (run_of s turns).state
unfolding run_of
run-kept s turns v = search (cond-all Keeps, turns-kept) depth 12

-- ---- every call

-- every call keeps the state valid
pub kept : (c : Call) (s : State) → Valid s → Valid (call_of c s).state
kept (attach slot file pace start last) s v = attach-kept s slot file pace start last v
kept (detach slot) s v = detach-kept s slot v
kept (read slot) s v = read_kept s slot v
kept (arrive file page) s v = arrive-kept s file page v
kept (lost file page) s v = lost-kept s file page v
kept prefetch s v = prefetch-kept s v
kept steal s v = steal-kept s v
kept (run turns) s v = run-kept s turns v
kept (measure slot interval blocked) s v = measure-kept s slot interval blocked v

-- ---- Setup

-- a list of one value has it at every place
pub same_at : {A : Type 0} (n j : ℕ) (a : A) → get_or (replicate n a) j a ≡ a
same_at zero j a = refl
same_at (suc n) zero a = refl
same_at (suc n) (suc j) a = same_at n j a

blank-map : PageMap (replicate 128 0)
blank-map = record { all = length-replicate {A = ℕ} 128 0; fit = λ i. rw (same_at {A = ℕ} 128 i 0) (omega arith) }

-- no page is of an empty map
pub blank-off : (k : ℕ) → on (replicate 128 0) k ≡ false
unfolding bit
blank-off k = rw (same_at {A = ℕ} 128 (k / 64) 0, zero-div)

all-within : (high : ℕ) (l : List ℕ) → every (within 0 high) l ≡ true → (f : ℕ) → get_or l f 0 ≤ high
unfolding every
all-within high [] e f = omega arith
all-within high (x ∷ l) e zero = (within-true 0 high x (and-true (within 0 high x) _ e).0).1
all-within high (x ∷ l) e (suc f) = all-within high l (and-true (within 0 high x) _ e).1 f

fresh-valid : (frames look time : ℕ) (sizes : List ℕ) (rule : ℕ) (expected : List ℕ) → length sizes ≡ 8 → length expected ≡ 8
    → settings_in frames look time sizes rule expected ≡ true → Valid (fresh frames look time sizes (rule_of rule) expected)
unfolding settings_in
fresh-valid frames look time sizes rule expected eight eight' e =
    let a = and-true (within 1 1024 frames) _ e in
    let b = and-true (within 1 2000000 look) _ a.1 in
    let c = and-true (within 0 2000000 time) _ b.1 in
    let d = and-true (every (within 0 1024) sizes) _ c.1 in
    let g = and-true (within 0 1 rule) _ d.1 in
    let f = within-true 1 1024 frames a.0 in
    let l = within-true 1 2000000 look b.0 in
    let none : (k : ℕ) → T (on (replicate 128 0) k) → ⊥ = λ k h. subst T (blank-off k) h in
    let inside : (k : ℕ) → T (on (replicate 128 0) k) → Page (fresh frames look time sizes (rule_of rule) expected) k = λ k h. absurd (none k h) in
    let high = all-within 1024 sizes d.0 in
    let count : length (cached_pages (fresh frames look time sizes (rule_of rule) expected)) ≡ 0 = none-cached _ high none in
    record {
      eight = eight;
      sizes_high = high;
      frames_low = f.0;
      frames_high = f.1;
      look_low = l.0;
      look_high = l.1;
      time_high = (within-true 0 2000000 time c.0).1;
      sixteen = length-replicate 16 no_reader;
      readers_in = λ j. rw (same_at 16 j no_reader) refl;
      marks_all = length-replicate {A = ℕ} 16 0;
      marks_in = λ j. rw (same_at {A = ℕ} 16 j 0) (omega arith);
      turn_high = omega arith;
      expected_all = eight';
      expected_high = all-within 1000 expected g.1;
      attaches_all = length-replicate {A = ℕ} 8 0;
      attaches_high = λ f. rw (same_at {A = ℕ} 8 f 0) (omega arith);
      cached_map = blank-map;
      fetching_map = blank-map;
      cached_in = inside;
      fetching_in = inside;
      apart = λ k h _. none k h;
      room = omega arith;
    }

-- the idle state is valid
pub idle-valid : Valid idle
unfolding settings_in every
idle-valid = fresh-valid 1 1 0 (replicate 8 0) 0 (replicate 8 0) refl refl refl

-- Setup makes a valid state; refused, it gives the idle state, which is valid too
pub setup-valid : (frames look time : ℕ) (sizes : List ℕ) (rule : ℕ) (expected : List ℕ) → length sizes ≡ 8 → length expected ≡ 8
    → Valid (setup_of frames look time sizes rule expected).state
unfolding setup_of
setup-valid frames look time sizes rule expected eight eight' =
    cond-all Keeps (settings_in frames look time sizes rule expected) _ _ (fresh-valid frames look time sizes rule expected eight eight') (λ _. idle-valid)
