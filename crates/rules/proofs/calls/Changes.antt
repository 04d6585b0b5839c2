-- The changes that calls make, one at a time, keep a state valid. Assumes nothing.
use Prim.Native.Nat.{ℕ, zero, suc, min, ◌+◌, ◌≤◌, ◌<◌}
use mathlib.Core.Path.{◌≡◌, refl, sym, ap, ◌∙◌, subst}
use mathlib.Core.Bool.{Bool, not, ◌&&◌, ◌||◌}
use mathlib.Core.List.{List, [], ◌∷◌}
use mathlib.Core.Logic.{◌≢◌}
use native.Mathlib.Omega.{arith}
use lib.ListN.{get_or, set, length, length-set}
use lib.Dec.{T, ltb, eqb, not_T}
use Rattle.bits.specs.Map.{put_bit, on}
use Rattle.rules.specs.Pages.{size, cached, in_fetch, Page, cached_pages}
use Rattle.rules.specs.Readers.{no_reader, reader_at, mark_at, next_key, awaits}
use Rattle.rules.specs.Valid.{Valid, Placed, ReaderIn, PageMap}
use Rattle.rules.specs.Orders.{attaches_at}
use Rattle.rules.specs.Calls.{
  with_turn,
  with_readers,
  with_marks,
  with_attaches,
  with_cached,
  with_fetching,
  with_reader,
  with_slot,
  with_fetch,
  counted_attach,
  without,
}
use Rattle.rules.specs.Schedules.{num, count}
use Rattle.rules.specs.declared.State.{State}
use Rattle.rules.specs.declared.Reader.{Reader}
use Rattle.rules.specs.declared.Condition.{Condition}
use Rattle.rules.specs.declared.Condition.TheVariants.{Empty, Running, Waiting}
use Rattle.rules.proofs.laws.Tests.{key, and_both, and_first, and_second, or_right}
use Rattle.rules.proofs.laws.Counting.{empty, count-empty, plus, plus-count, same_count, num-in, num-out}
use Rattle.rules.proofs.laws.Counts.{pages-count}
use Rattle.rules.proofs.calls.PageMaps.{map-put, on-put, off-put, put-off}

-- the cached pages, counted by their keys
pub cached-count : (s : State) → ((f : ℕ) → size s f ≤ 1024) → ((k : ℕ) → T (cached s k) → Page s k) → length (cached_pages s) ≡ count 8192 (cached s)
unfolding cached_pages
cached-count s small inside = pages-count s small (cached s) inside

-- no page cached
pub none-cached : (s : State) → ((f : ℕ) → size s f ≤ 1024) → ((k : ℕ) → T (cached s k) → ⊥) → length (cached_pages s) ≡ 0
none-cached s small none =
    cached-count s small (λ k h. absurd (none k h))
    ∙ same_count 8192 (cached s) empty (λ k. num-out (cached s k) (not_T (cached s k) (none k))) ∙ count-empty 8192

-- a map of pages of the files
record MapIn (s : State) (words : List ℕ) : Type 0 where
  fits : PageMap words
  inside : (k : ℕ) → T (on words k) → Page s k

-- the turn, the readers and their marks, by the state's own files and fetches
record Seats (s : State) (turn : ℕ) (readers : List Reader) (marks : List ℕ) : Type 0 where
  low : turn < 16
  all : length readers ≡ 16
  each_in : (j : ℕ) → ReaderIn (get_or readers j no_reader).condition s (get_or readers j no_reader)
  marks_all : length marks ≡ 16
  marks_in : (j : ℕ) → get_or marks j 0 ≤ (get_or readers j no_reader).position

-- the two maps, by the state's own files and frames
record Maps (s : State) (held fetching : List ℕ) : Type 0 where
  held_in : MapIn s held
  fetching_in : MapIn s fetching
  apart : (k : ℕ) → T (on held k) → T (on fetching k) → ⊥
  room : count 8192 (on held) ≤ s.frames

-- the readers that wait for a page in fetch find it in this map
abbrev Waits : State → List Reader → List ℕ → Type 0
Waits s readers fetching =
    (j : ℕ) → (get_or readers j no_reader).condition ≡ Waiting → T (in_fetch s (next_key (get_or readers j no_reader)))
    → T (on fetching (next_key (get_or readers j no_reader)))

-- how often readers were attached to the files
record Counted (attaches : List ℕ) : Type 0 where
  all : length attaches ≡ 8
  high : (f : ℕ) → get_or attaches f 0 ≤ 65535

-- a state with all six parts changed
abbrev all_changed : State → ℕ → List Reader → List ℕ → List ℕ → List ℕ → List ℕ → State
all_changed s turn readers marks attaches held fetching =
    with_fetching (with_cached (with_attaches (with_marks (with_readers (with_turn s turn) readers) marks) attaches) held) fetching

module _ (s : State) (turn : ℕ) (readers : List Reader) (marks attaches held fetching : List ℕ) where
  page-in : (k : ℕ) → Page s k → Page (all_changed s turn readers marks attaches held fetching) k
  page-in k p = record { low = p.low; there = p.there }

  -- a placed reader stays placed
  pub placed-in : (r : Reader) → Placed s r → Placed (all_changed s turn readers marks attaches held fetching) r
  placed-in r p =
      record {
        file_high = p.file_high;
        file_there = p.file_there;
        pace_low = p.pace_low;
        pace_high = p.pace_high;
        last_low = p.last_low;
        last_high = p.last_high;
        position_in = p.position_in;
      }

  reader-in : (c : Condition) (r : Reader) → (c ≡ Waiting → T (in_fetch s (next_key r)) → T (on fetching (next_key r))) → ReaderIn c s r
      → ReaderIn c (all_changed s turn readers marks attaches held fetching) r
  unfolding awaits
  reader-in Empty r w h = h
  reader-in Running r w h = placed-in r h
  reader-in Waiting r w h =
      let short : Bool = ltb r.position r.last in
      (placed-in r h.0, and_both short _ (and_first short _ h.1) (w refl (and_second short _ h.1)))

  -- turn, readers, marks, counts and maps that fit make a valid state
  all-changed : Valid s → Seats s turn readers marks → Counted attaches → Maps s held fetching → Waits s readers fetching
      → Valid (all_changed s turn readers marks attaches held fetching)
  all-changed v a n m w =
      let inside : (k : ℕ) → T (on held k) → Page (all_changed s turn readers marks attaches held fetching) k = λ k h. page-in k (m.held_in.inside k h) in
      record {
        eight = v.eight;
        sizes_high = v.sizes_high;
        frames_low = v.frames_low;
        frames_high = v.frames_high;
        look_low = v.look_low;
        look_high = v.look_high;
        time_high = v.time_high;
        sixteen = a.all;
        readers_in = λ j. reader-in (get_or readers j no_reader).condition (get_or readers j no_reader) (w j) (a.each_in j);
        marks_all = a.marks_all;
        marks_in = a.marks_in;
        turn_high = a.low;
        expected_all = v.expected_all;
        expected_high = v.expected_high;
        attaches_all = n.all;
        attaches_high = n.high;
        cached_map = m.held_in.fits;
        fetching_map = m.fetching_in.fits;
        cached_in = inside;
        fetching_in = λ k h. page-in k (m.fetching_in.inside k h);
        apart = m.apart;
        room = rw (cached-count (all_changed s turn readers marks attaches held fetching) v.sizes_high inside) m.room;
      }

module _ (s : State) (v : Valid s) where
  cached-map-in : MapIn s s.cached
  cached-map-in = record { fits = v.cached_map; inside = v.cached_in }

  fetching-map-in : MapIn s s.fetching
  fetching-map-in = record { fits = v.fetching_map; inside = v.fetching_in }

  -- the frames hold the cached pages' keys
  pub counted : count 8192 (cached s) ≤ s.frames
  counted = rw (cached-count s v.sizes_high v.cached_in) at v.room

  same-maps : Maps s s.cached s.fetching
  same-maps = record { held_in = cached-map-in; fetching_in = fetching-map-in; apart = v.apart; room = counted }

  same-counts : Counted s.attaches
  same-counts = record { all = v.attaches_all; high = v.attaches_high }

  -- its own readers and marks, at a turn
  seats : (turn : ℕ) → turn < 16 → Seats s turn s.readers s.marks
  seats turn h = record { low = h; all = v.sixteen; each_in = v.readers_in; marks_all = v.marks_all; marks_in = v.marks_in }

  -- a page put in a map of pages
  put_in : (words : List ℕ) (k : ℕ) → Page s k → MapIn s words → MapIn s (put_bit words k 1)
  put_in words k p m = record {
    fits = map-put words k 1 (omega arith) m.fits;
    inside =
        λ j h.
        key k j (λ b. T (b || on words j) → Page s j) (λ e _. subst (Page s) e p) (λ _ q. m.inside j q)
        (subst T (on-put words m.fits k p.low j) h);
  }

  -- what a map without k has, it had
  left-on : (words : List ℕ) (k : ℕ) → Page s k → MapIn s words → (j : ℕ) → T (on (without words k) j) → T (on words j)
  left-on words k p m j h = and_second (not (eqb k j)) (on words j) (subst T (off-put words m.fits k p.low j) h)

  -- a page taken out of one
  left-in : (words : List ℕ) (k : ℕ) → Page s k → MapIn s words → MapIn s (without words k)
  left-in words k p m = record {
    fits = map-put words k 0 (omega arith) m.fits;
    inside = λ j h. m.inside j (left-on words k p m j h);
  }

  -- a page put into a map that the other has not leaves them apart
  put-apart : (words others : List ℕ) (k : ℕ) → Page s k → MapIn s words → (T (on others k) → ⊥)
      → ((j : ℕ) → T (on words j) → T (on others j) → ⊥) → (j : ℕ) → T (on (put_bit words k 1) j) → T (on others j) → ⊥
  put-apart words others k p m absent apart j h o =
      key k j (λ b. T (b || on words j) → ⊥) (λ e _. absent (subst (λ i. T (on others i)) (sym e) o)) (λ _ q. apart j q o)
      (subst T (on-put words m.fits k p.low j) h)

  -- other maps
  maps-changed : (held fetching : List ℕ) → Maps s held fetching → Waits s s.readers fetching → Valid (with_fetching (with_cached s held) fetching)
  maps-changed held fetching = all-changed s s.turn s.readers s.marks s.attaches held fetching v (seats s.turn v.turn_high) same-counts

  -- the turn moves on
  pub turn_moved : (turn : ℕ) → turn < 16 → Valid (with_turn s turn)
  turn_moved turn h =
      all-changed s turn s.readers s.marks s.attaches s.cached s.fetching v (seats turn h) same-counts same-maps (λ j _ q. q)

  -- other readers and marks
  slots-changed : (readers : List Reader) (marks : List ℕ) → Seats s s.turn readers marks → Valid (with_marks (with_readers s readers) marks)
  slots-changed readers marks a =
      all-changed s s.turn readers marks s.attaches s.cached s.fetching v a same-counts same-maps (λ j _ q. q)

  -- other counts of readers attached
  counts-changed : (attaches : List ℕ) → Counted attaches → Valid (with_attaches s attaches)
  counts-changed attaches n =
      all-changed s s.turn s.readers s.marks attaches s.cached s.fetching v (seats s.turn v.turn_high) n same-maps (λ j _ q. q)

  -- other readers, none of which stands before its mark
  pub readers-changed : (readers : List Reader) → length readers ≡ 16
      → ((j : ℕ) → ReaderIn (get_or readers j no_reader).condition s (get_or readers j no_reader))
      → ((j : ℕ) → mark_at s j ≤ (get_or readers j no_reader).position) → Valid (with_readers s readers)
  readers-changed readers n h m =
      slots-changed readers s.marks (record { low = v.turn_high; all = n; each_in = h; marks_all = v.marks_all; marks_in = m })

  -- a page put in fetch
  pub fetch-opened : (k : ℕ) → Page s k → (T (cached s k) → ⊥) → Valid (with_fetch s k)
  fetch-opened k p absent =
      maps-changed s.cached (put_bit s.fetching k 1) maps
      (λ j _ q. rw (on-put s.fetching v.fetching_map k p.low) (or_right (eqb k _) _ q))
    where
      maps : Maps s s.cached (put_bit s.fetching k 1)
      maps = record {
        held_in = cached-map-in;
        fetching_in = put_in s.fetching k p fetching-map-in;
        apart = λ j c f. put-apart s.fetching s.cached k p fetching-map-in absent (λ i q o. v.apart i o q) j f c;
        room = counted;
      }

  -- a fetch closed for which no reader waits
  pub fetch-closed : (k : ℕ) → Page s k → ((j : ℕ) → (reader_at s j).condition ≡ Waiting → next_key (reader_at s j) ≢ k)
      → Valid (with_fetching s (without s.fetching k))
  fetch-closed k p none = maps-changed s.cached (without s.fetching k) maps waits
    where
      maps : Maps s s.cached (without s.fetching k)
      maps = record {
        held_in = cached-map-in;
        fetching_in = left-in s.fetching k p fetching-map-in;
        apart = λ j c f. v.apart j c (left-on s.fetching k p fetching-map-in j f);
        room = counted;
      }

      waits : Waits s s.readers (without s.fetching k)
      waits j w q = rw (off-put s.fetching v.fetching_map k p.low)
          (key k (next_key (reader_at s j)) (λ b. T (not b && in_fetch s (next_key (reader_at s j)))) (λ e. absurd (none j w (sym e))) (λ _. q))

  -- a cached page dropped is one less
  pub less-count : (k : ℕ) → T (cached s k) → count 8192 (on (without s.cached k)) + 1 ≡ count 8192 (cached s)
  less-count k c =
      let p = v.cached_in k c in
      let off : num (on (without s.cached k) k) ≡ 0 =
      num-out (on (without s.cached k) k) (not_T (on (without s.cached k) k) (put-off s.cached v.cached_map k p.low)) in
      sym (plus-count 8192 k (on (without s.cached k)) p.low off) ∙ same_count 8192 (plus (on (without s.cached k)) k) (cached s)
      (λ j.
      rw (off-put s.cached v.cached_map k p.low)
      (key k j (λ b. num (b || (not b && cached s j)) ≡ num (cached s j))
      (λ e. sym (num-in (cached s j) (subst (λ i. T (cached s i)) e c))) (λ _. refl)))

  -- a page dropped
  pub page-dropped : (k : ℕ) → T (cached s k) → Valid (with_cached s (without s.cached k))
  page-dropped k c = maps-changed (without s.cached k) s.fetching maps (λ j _ q. q)
    where
      p : Page s k
      p = v.cached_in k c

      maps : Maps s (without s.cached k) s.fetching
      maps = record {
        held_in = left-in s.cached k p cached-map-in;
        fetching_in = fetching-map-in;
        apart = λ j h f. v.apart j (left-on s.cached k p cached-map-in j h) f;
        room = omega (arith, less-count k c, counted);
      }

  -- a page cached where a frame is free
  pub page-cached : (k : ℕ) → Page s k → T (not (cached s k)) → (T (in_fetch s k) → ⊥) → count 8192 (cached s) < s.frames
      → Valid (with_cached s (put_bit s.cached k 1))
  page-cached k p absent closed free = maps-changed (put_bit s.cached k 1) s.fetching maps (λ j _ q. q)
    where
      more : count 8192 (on (put_bit s.cached k 1)) ≡ count 8192 (cached s) + 1
      more =
          same_count 8192 (on (put_bit s.cached k 1)) (plus (cached s) k) (λ j. ap num (on-put s.cached v.cached_map k p.low j))
          ∙ plus-count 8192 k (cached s) p.low (num-out (cached s k) absent)

      maps : Maps s (put_bit s.cached k 1) s.fetching
      maps = record {
        held_in = put_in s.cached k p cached-map-in;
        fetching_in = fetching-map-in;
        apart = put-apart s.cached s.fetching k p cached-map-in closed v.apart;
        room = omega (arith, more);
      }

-- what holds of each member at its place, and of one more, holds of each after that one is stored
all_set : {A : Type 0} (P : ℕ → A → Type 0) (l : List A) (i : ℕ) (r d : A) → P i r → ((j : ℕ) → P j (get_or l j d)) → (j : ℕ) → P j (get_or (set l i r) j d)
all_set P [] i r d p h j = h j
all_set P (x ∷ l) zero r d p h zero = p
all_set P (x ∷ l) zero r d p h (suc j) = h (suc j)
all_set P (x ∷ l) (suc i) r d p h zero = h zero
all_set P (x ∷ l) (suc i) r d p h (suc j) = all_set (λ k. P (suc k)) l i r d p (λ k. h (suc k)) j

-- so does what holds of each record and its mark
both-set : (rs : List Reader) (ms : List ℕ) (i : ℕ) (r d : Reader) (m : ℕ) → length rs ≡ length ms → m ≤ r.position
    → ((j : ℕ) → get_or ms j 0 ≤ (get_or rs j d).position) → (j : ℕ) → get_or (set ms i m) j 0 ≤ (get_or (set rs i r) j d).position
both-set [] [] i r d m e p h j = h j
both-set [] (y ∷ ms) i r d m e p h j = absurd (omega arith)
both-set (x ∷ rs) [] i r d m e p h j = absurd (omega arith)
both-set (x ∷ rs) (y ∷ ms) zero r d m e p h zero = p
both-set (x ∷ rs) (y ∷ ms) zero r d m e p h (suc j) = h (suc j)
both-set (x ∷ rs) (y ∷ ms) (suc i) r d m e p h zero = h zero
both-set (x ∷ rs) (y ∷ ms) (suc i) r d m e p h (suc j) = both-set rs ms i r d m (omega arith) p (λ k. h (suc k)) j

module _ (s : State) (v : Valid s) (slot : ℕ) (r : Reader) (h : ReaderIn r.condition s r) where
  records : (j : ℕ) → ReaderIn (get_or (set s.readers slot r) j no_reader).condition s (get_or (set s.readers slot r) j no_reader)
  records = all_set (λ _ q. ReaderIn q.condition s q) s.readers slot r no_reader h v.readers_in

  -- one record changed
  pub reader-changed : mark_at s slot ≤ r.position → Valid (with_reader s slot r)
  reader-changed m =
      readers-changed s v (set s.readers slot r) (length-set s.readers slot r ∙ v.sixteen) records
      (all_set (λ j q. mark_at s j ≤ q.position) s.readers slot r no_reader m v.marks_in)

  -- and its mark
  pub slot-changed : (mark : ℕ) → mark ≤ r.position → Valid (with_slot s slot r mark)
  slot-changed mark m =
      slots-changed s v (set s.readers slot r) (set s.marks slot mark)
      (record {
        low = v.turn_high;
        all = length-set s.readers slot r ∙ v.sixteen;
        each_in = records;
        marks_all = length-set s.marks slot mark ∙ v.marks_all;
        marks_in = both-set s.readers s.marks slot r no_reader mark (v.sixteen ∙ sym v.marks_all) m v.marks_in;
      })

-- one reader more is counted for a file
pub attach-counted : (s : State) (file : ℕ) → Valid s → Valid (counted_attach s file)
attach-counted s file v =
    let more : ℕ = min 65535 (attaches_at s file + 1) in
    counts-changed s v (set s.attaches file more)
    (record {
      all = length-set s.attaches file more ∙ v.attaches_all;
      high = all_set (λ _ n. n ≤ 65535) s.attaches file more 0 (omega arith) v.attaches_high;
    })
