-- A page that lands, or whose fetch is lost, with its waiters woken, leaves a valid state. Assumes nothing.
use Prim.Native.Nat.{ℕ, ◌<◌}
use mathlib.Core.Path.{◌≡◌, refl, sym, ◌∙◌, subst}
use mathlib.Core.Bool.{true, false, not}
use mathlib.Core.List.{List, map}
use mathlib.Core.Logic.{◌≢◌}
use Rattle.std.specs.declared.option.Option.TheVariants.{Some, None}
use native.Mathlib.Omega.{arith}
use borrow.Author.Tests.{leb-true, leb-false, eqb-false}
use lib.ListN.{get_or, length, length-map, get_or-map}
use lib.Dec.{T, eqb, not_T}
use Rattle.rules.specs.Lists.{on_option}
use Rattle.rules.specs.Pages.{cached, in_fetch, Page, cached_pages}
use Rattle.rules.specs.Readers.{no_reader, reader_at, by_condition, next_key, in_condition}
use Rattle.rules.specs.Valid.{Valid, Placed, ReaderIn}
use Rattle.rules.specs.Orders.{victim}
use Rattle.rules.specs.Calls.{with_readers, with_cached, without, full, dropped, woken, closed, landed}
use Rattle.rules.specs.Schedules.{count}
use Rattle.rules.specs.declared.State.{State}
use Rattle.rules.specs.declared.Reader.{Reader}
use Rattle.rules.specs.declared.Condition.{Condition}
use Rattle.rules.specs.declared.Condition.TheVariants.{Empty, Running, Waiting}
use Rattle.rules.proofs.laws.Tests.{and_second}
use Rattle.rules.proofs.orders.Victims.{victim-cached, no-victim}
use Rattle.rules.proofs.laws.Cases.{cond-all, condition-all, option-all}
use Rattle.bits.specs.Map.{on}
use Rattle.rules.proofs.calls.PageMaps.{off-put, put-off}
use Rattle.rules.proofs.calls.Changes.{cached-count, none-cached, counted, readers-changed, fetch-closed, page-dropped, less-count, page-cached}

-- ---- the waiters

-- an attached reader in another condition stands where it stood
pub placed-still : (c : Condition) (s : State) (r : Reader) → Placed s r → Placed s (in_condition c r)
placed-still c s r p =
    record {
      file_high = p.file_high;
      file_there = p.file_there;
      pace_low = p.pace_low;
      pace_high = p.pace_high;
      last_low = p.last_low;
      last_high = p.last_high;
      position_in = p.position_in;
    }

-- waking keeps a record as its condition has it
woken-in : (s : State) (k : ℕ) (r : Reader) → ReaderIn r.condition s r → ReaderIn (woken k r).condition s (woken k r)
unfolding woken
woken-in s k r h =
    condition-all In r.condition _ _ _ (λ _. h) (λ _. h) (λ e. cond-all In (eqb (next_key r) k) _ _ (λ _. placed-still Running s r (placed e)) (λ _. h))
  where
    In : Reader → Type 0
    In q = ReaderIn q.condition s q

    placed : r.condition ≡ Waiting → Placed s r
    placed e = let w : ReaderIn Waiting s r = subst (λ c. ReaderIn c s r) e h in w.0

-- who still waits waits for another page
woken-waits : (k : ℕ) (r : Reader) → (woken k r).condition ≡ Waiting → next_key (woken k r) ≢ k
unfolding woken
woken-waits k r =
    condition-all Other r.condition _ _ _ (λ e w _. apart r.condition Empty tt e w) (λ e w _. apart r.condition Running tt e w)
    (λ _. cond-all Other (eqb (next_key r) k) _ _ (λ _ w _. apart Running Running tt refl w) (λ e _. eqb-false (next_key r) k e))
  where
    Other : Reader → Type 0
    Other q = q.condition ≡ Waiting → next_key q ≢ k

    apart : (c d : Condition) → T (by_condition d true true false) → c ≡ d → c ≡ Waiting → ⊥
    apart c d h e w = subst (λ x. T (by_condition x true true false)) (sym e ∙ w) h

module _ (s : State) (v : Valid s) (k : ℕ) where
  -- the record of a slot once those that wait for k are woken
  woken-at : (j : ℕ) → get_or (map (woken k) s.readers) j no_reader ≡ woken k (reader_at s j)
  unfolding woken
  woken-at j = get_or-map (woken k) s.readers j no_reader

  -- waking moves nobody
  woken-position : (r : Reader) → (woken k r).position ≡ r.position
  unfolding woken
  woken-position r =
      condition-all (λ (q : Reader). q.position ≡ r.position) r.condition _ _ _ (λ _. refl) (λ _. refl)
      (λ _. cond-all (λ (q : Reader). q.position ≡ r.position) (eqb (next_key r) k) _ _ (λ _. refl) (λ _. refl))

  -- the fetch is closed and its waiters run
  pub waiters-woken : T (in_fetch s k) → Valid (closed s k)
  waiters-woken f =
      let w = readers-changed s v (map (woken k) s.readers) (length-map s.readers (woken k) ∙ v.sixteen)
      (λ j. rw (woken-at j) (woken-in s k (reader_at s j) (v.readers_in j))) (λ j. rw (woken-at j, woken-position (reader_at s j)) (v.marks_in j)) in
      fetch-closed (with_readers s (map (woken k) s.readers)) w k (w.fetching_in k f) (λ j. rw (woken-at j) (woken-waits k (reader_at s j)))

-- ---- the page that goes

module _ (s : State) (v : Valid s) where
  -- where all frames are taken there is one
  pub full-victim : full s ≡ true → victim s ≡ None → ⊥
  unfolding full
  full-victim e n = omega (arith, leb-true s.frames (length (cached_pages s)) e, none-cached s v.sizes_high ((no-victim s v).0 n), v.frames_low)

  -- a page is dropped where all frames are taken, and is the one to give up
  pub full-dropped : (k : ℕ) → dropped s ≡ Some k → (full s ≡ true) × (victim s ≡ Some k)
  unfolding dropped
  full-dropped k =
      cond-all (λ o. o ≡ Some k → (full s ≡ true) × (victim s ≡ Some k)) (full s) (victim s) None (λ f e. (f, e))
      (λ _ e. let z : ◌≡◌ {A = ℕ} 0 1 = cc in absurd (omega arith))

  -- so it is cached
  pub dropped-some : (k : ℕ) → dropped s ≡ Some k → T (cached s k)
  dropped-some k e = victim-cached s v k (full-dropped k e).1

  -- where no page is dropped a frame is free
  pub dropped-none : dropped s ≡ None → length (cached_pages s) < s.frames
  unfolding dropped full
  dropped-none =
      cond-all (λ o. o ≡ None → length (cached_pages s) < s.frames) (full s) (victim s) None (λ f e. absurd (full-victim f e))
      (λ f _. leb-false s.frames (length (cached_pages s)) f)

  -- the cached map once a page has gone, if one must: it has no other pages, and room for one
  eased : List ℕ
  eased = on_option (dropped s) (without s.cached) s.cached

  eased-on : (k : ℕ) → T (on eased k) → T (cached s k)
  unfolding eased
  eased-on k = option-all (λ words. T (on words k) → T (cached s k)) (dropped s) (without s.cached) s.cached
      (λ d e h. let c = dropped-some d e in
      and_second (not (eqb d k)) (cached s k) (subst T (off-put s.cached v.cached_map d (v.cached_in d c).low k) h))
      (λ _ h. h)

  eased-room : count 8192 (on eased) < s.frames
  unfolding eased
  eased-room = option-all (λ words. count 8192 (on words) < s.frames) (dropped s) (without s.cached) s.cached
      (λ d e. omega (arith, less-count s v d (dropped-some d e), counted s v)) (λ e. rw (cached-count s v.sizes_high v.cached_in) at (dropped-none e))

  -- a page of a fetch lands, and its waiters run
  pub landed-valid : (k : ℕ) → T (in_fetch s k) → Valid (landed s k)
  unfolding landed eased
  landed-valid k f = page-cached after kept k page absent gone eased-room
    where
      after : State
      after = with_cached (closed s k) eased

      kept : Valid after
      kept = let w = waiters-woken s v k f in
          option-all (λ words. Valid (with_cached (closed s k) words)) (dropped s) (without s.cached) s.cached
          (λ d e. page-dropped (closed s k) w d (dropped-some d e)) (λ _. w)

      page : Page after k
      page = let p = v.fetching_in k f in record { low = p.low; there = p.there }

      absent : T (not (cached after k))
      absent = not_T (cached after k) (λ c. v.apart k (eased-on k c) f)

      gone : T (in_fetch after k) → ⊥
      gone = put-off s.fetching v.fetching_map k (v.fetching_in k f).low
