-- `accepts` tests that the state of some numbers is valid. Assumes nothing.
use mathlib.Core.Path.{◌≡◌, refl, sym, ap, ◌∙◌, subst, subst₂}
use mathlib.Core.Bool.{Bool, true, false, not, ◌&&◌, ◌||◌}
use mathlib.Core.List.{List}
use Prim.Native.Nat.{ℕ, ◌/◌, ◌%◌, ◌^◌, ◌≤◌, ◌<◌}
use native.Mathlib.Decide.{dec_lt}
use native.Mathlib.Omega.{arith}
use lib.ListN.{length, get_or, take, drop, get_or-eq_default}
use lib.Dec.{T, leb, ltb, eqb, leb→le, le→leb, nltb→le, eqb→eq, eqb_refl}
use Rattle.bits.specs.Map.{bit, digit}
use Rattle.bits.proofs.Words.{digit-high}
use Rattle.rules.specs.Lists.{range, every, within}
use Rattle.rules.specs.Pages.{size, file_of, page_of, cached, in_fetch, Page, cached_pages}
use Rattle.rules.specs.Readers.{no_reader, reader_at, mark_at, by_condition, awaits}
use Rattle.rules.specs.Orders.{attaches_at}
use Rattle.rules.specs.Valid.{Placed, ReaderIn, PageMap, Valid}
use Rattle.rules.specs.Calls.{settings_in}
use Rattle.rules.specs.Image.{reader_number, reader_from, state_from, reader_placed, reader_holds, slot_holds, mark_holds, key_holds, gaps_hold, accepts}
use Rattle.rules.proofs.laws.Tests.{less, key, and_both, and_first, and_second, or_left, or_right}
use Rattle.rules.proofs.laws.Members.{range-in, range_at}
use Rattle.rules.proofs.laws.Indexed.{Always, always-take, always-drop, all-always, always-all, every-all, all-every}
use Rattle.rules.proofs.images.Layouts.{
  condition-low,
  rule-low,
  Lengths,
  valid-lengths,
  state_numbers,
  slot-number,
  reader-numbers,
  rule-at,
  gap-number,
  filler-number,
  state-numbers,
  Table,
  lengths-from,
  reader-from,
}
use Rattle.rules.specs.declared.State.{State}
use Rattle.rules.specs.declared.Reader.{Reader}
use Rattle.rules.specs.declared.Condition.{Condition}
use Rattle.rules.specs.declared.Condition.TheVariants.{Empty, Running, Waiting}

eq→eqb : (m n : ℕ) → m ≡ n → T (eqb m n)
eq→eqb m n e = subst (λ k. T (eqb m k)) e (eqb_refl m)

-- ---- ranges and settings

within_in : (low high n : ℕ) → low ≤ n → n ≤ high → T (within low high n)
within_in low high n a b = and_both (leb low n) (leb n high) (le→leb low n a) (le→leb n high b)

in_within : (low high n : ℕ) → T (within low high n) → (low ≤ n) × (n ≤ high)
in_within low high n h = (leb→le low n (and_first (leb low n) (leb n high) h), leb→le n high (and_second (leb low n) (leb n high) h))

-- all members of a list are in a range
all-within : (high : ℕ) (ns : List ℕ) → T (every (within 0 high) ns) → Always (λ n. n ≤ high) 0 ns
all-within high ns h i =
    (in_within 0 high (get_or ns i 0)
    (all-always (λ n. T (within 0 high n)) 0 (within_in 0 high 0 (omega arith) (omega arith)) ns (every-all (within 0 high) ns h) i)).1

within_all : (high : ℕ) (ns : List ℕ) → Always (λ n. n ≤ high) 0 ns → T (every (within 0 high) ns)
within_all high ns h =
    all-every (within 0 high) ns (always-all (λ n. T (within 0 high n)) 0 ns (λ i. within_in 0 high (get_or ns i 0) (omega arith) (h i)))

-- frames, L, T, sizes, the rule and the readers expected in their ranges
pub record Settings (frames look time : ℕ) (sizes : List ℕ) (rule : ℕ) (expected : List ℕ) : Type 0 where
  pub frames-in : (1 ≤ frames) × (frames ≤ 1024)
  pub look_in : (1 ≤ look) × (look ≤ 2000000)
  pub time_high : time ≤ 2000000
  pub sizes-in : Always (λ n. n ≤ 1024) 0 sizes
  pub rule_known : rule ≤ 1
  pub expected-in : Always (λ n. n ≤ 1000) 0 expected

module _ (frames look time : ℕ) (sizes : List ℕ) (rule : ℕ) (expected : List ℕ) where
  -- the test of the settings says so
  pub settings-in : T (settings_in frames look time sizes rule expected) → Settings frames look time sizes rule expected
  unfolding settings_in
  settings-in h =
      let h₁ = and_second (within 1 1024 frames) _ h in
      let h₂ = and_second (within 1 2000000 look) _ h₁ in
      let h₃ = and_second (within 0 2000000 time) _ h₂ in
      let h₄ = and_second (every (within 0 1024) sizes) _ h₃ in
      record {
        frames-in = in_within 1 1024 frames (and_first (within 1 1024 frames) _ h);
        look_in = in_within 1 2000000 look (and_first (within 1 2000000 look) _ h₁);
        time_high = (in_within 0 2000000 time (and_first (within 0 2000000 time) _ h₂)).1;
        sizes-in = all-within 1024 sizes (and_first (every (within 0 1024) sizes) _ h₃);
        rule_known = (in_within 0 1 rule (and_first (within 0 1 rule) _ h₄)).1;
        expected-in = all-within 1000 expected (and_second (within 0 1 rule) _ h₄);
      }

  -- and is passed where it is so
  pub in-settings : Settings frames look time sizes rule expected → T (settings_in frames look time sizes rule expected)
  unfolding settings_in
  in-settings h =
      and_both (within 1 1024 frames) _ (within_in 1 1024 frames h.frames-in.0 h.frames-in.1)
      (and_both (within 1 2000000 look) _ (within_in 1 2000000 look h.look_in.0 h.look_in.1)
      (and_both (within 0 2000000 time) _ (within_in 0 2000000 time (omega arith) h.time_high)
      (and_both (every (within 0 1024) sizes) _ (within_all 1024 sizes h.sizes-in)
      (and_both (within 0 1 rule) _ (within_in 0 1 rule (omega arith) h.rule_known) (within_all 1000 expected h.expected-in)))))

-- ---- readers

not-or : (a b : Bool) → T (not (a || b)) → T (not a) × T (not b)
not-or true b h = absurd h
not-or false b h = (tt, h)

module _ (s : State) (r : Reader) where
  placed-in : T (reader_placed s r) → Placed s r
  unfolding reader_placed
  placed-in h =
      let z = size s r.file in
      let there = not-or (ltb 7 r.file) (eqb z 0) (and_first (not (ltb 7 r.file || eqb z 0)) _ h) in
      let rest = and_second (not (ltb 7 r.file || eqb z 0)) _ h in
      let pace = in_within 1 1000 r.pace (and_first (within 1 1000 r.pace) _ rest) in
      let reach = and_second (within 1 1000 r.pace) _ rest in
      let last = in_within 1 z r.last (and_first (within 1 z r.last) _ reach) in
      record {
        file_high = omega (arith, nltb→le 7 r.file there.0);
        file_there = key z 0 (λ b. T (not b) → 1 ≤ z) (λ _ n. absurd n) (λ ne _. omega arith) there.1;
        pace_low = pace.0;
        pace_high = pace.1;
        last_low = last.0;
        last_high = last.1;
        position_in = leb→le r.position r.last (and_second (within 1 z r.last) _ reach);
      }

  in-placed : Placed s r → T (reader_placed s r)
  unfolding reader_placed
  in-placed p =
      let z = size s r.file in
      and_both (not (ltb 7 r.file || eqb z 0)) _
      (less 7 r.file (λ b. T (not (b || eqb z 0))) (λ l. absurd (omega (arith, p.file_high)))
      (λ _. key z 0 (λ b. T (not b)) (λ e. absurd (omega (arith, p.file_there))) (λ _. tt)))
      (and_both (within 1 1000 r.pace) _ (within_in 1 1000 r.pace p.pace_low p.pace_high)
      (and_both (within 1 z r.last) _ (within_in 1 z r.last p.last_low p.last_high) (le→leb r.position r.last p.position_in)))

  -- the test of a record says what its condition asks
  pub reader-in : T (reader_holds s r) → ReaderIn r.condition s r
  unfolding reader_holds
  reader-in = go r.condition refl
    where
      go : (c : Condition) → r.condition ≡ c
          → T (by_condition c (eqb r.file 0 && (eqb r.pace 0 && (eqb r.position 0 && eqb r.last 0))) (reader_placed s r)
          (reader_placed s r && awaits s r))
          → ReaderIn c s r
      go Empty e h =
          let rest = and_second (eqb r.file 0) _ h in
          let pages = and_second (eqb r.pace 0) _ rest in
          λ i.
          record {
            condition = e i;
            file = eqb→eq r.file 0 (and_first (eqb r.file 0) _ h) i;
            pace = eqb→eq r.pace 0 (and_first (eqb r.pace 0) _ rest) i;
            position = eqb→eq r.position 0 (and_first (eqb r.position 0) _ pages) i;
            last = eqb→eq r.last 0 (and_second (eqb r.position 0) _ pages) i;
          }
      go Running e h = placed-in h
      go Waiting e h = (placed-in (and_first (reader_placed s r) _ h), and_second (reader_placed s r) _ h)

  -- and is passed where that holds
  pub in-reader : ReaderIn r.condition s r → T (reader_holds s r)
  unfolding reader_holds
  in-reader = go r.condition
    where
      go : (c : Condition) → ReaderIn c s r
          → T (by_condition c (eqb r.file 0 && (eqb r.pace 0 && (eqb r.position 0 && eqb r.last 0))) (reader_placed s r)
          (reader_placed s r && awaits s r))
      go Empty e = subst (λ q. T (eqb q.file 0 && (eqb q.pace 0 && (eqb q.position 0 && eqb q.last 0)))) (sym e) tt
      go Running p = in-placed p
      go Waiting p = and_both (reader_placed s r) _ (in-placed p.0) p.1

-- a slot's five numbers
pub record SlotIn (v : List ℕ) (j : ℕ) : Type 0 where
  pub condition-in : reader_number v j 0 ≤ 2
  pub record-in : ReaderIn (reader_from v j).condition (state_from v) (reader_from v j)

module _ (v : List ℕ) (j : ℕ) where
  -- the test of a slot says so
  pub slot-in : T (slot_holds v j) → SlotIn v j
  unfolding slot_holds
  slot-in h =
      record {
        condition-in = (in_within 0 2 (reader_number v j 0) (and_first (within 0 2 (reader_number v j 0)) _ h)).1;
        record-in = reader-in (state_from v) (reader_from v j) (and_second (within 0 2 (reader_number v j 0)) _ h);
      }

  -- and is passed where it is so
  pub in-slot : SlotIn v j → T (slot_holds v j)
  unfolding slot_holds
  in-slot h =
      and_both (within 0 2 (reader_number v j 0)) _ (within_in 0 2 (reader_number v j 0) (omega arith) h.condition-in)
      (in-reader (state_from v) (reader_from v j) h.record-in)

-- ---- keys

-- a page is cached, in fetch, or neither, and no bit stands above the size
pub record KeyIn (s : State) (k : ℕ) : Type 0 where
  pub apart : T (cached s k) → T (in_fetch s k) → ⊥
  pub there : T (cached s k || in_fetch s k) → page_of k ≤ size s (file_of k)

clash : (a b : Bool) → T (not (a && b)) → T a → T b → ⊥
clash true true n p q = n
clash true false n p q = q
clash false b n p q = p

no-clash : (a b : Bool) → (T a → T b → ⊥) → T (not (a && b))
no-clash true true f = f tt tt
no-clash true false f = tt
no-clash false b f = tt

implied : (a b : Bool) → T (not a || b) → T a → T b
implied true b h p = h
implied false b h p = absurd p

implies : (a b : Bool) → (T a → T b) → T (not a || b)
implies true b f = f tt
implies false b f = tt

module _ (s : State) (k : ℕ) where
  -- the test of a key says so
  pub key_in : T (key_holds s k) → KeyIn s k
  unfolding key_holds
  key_in h =
      record {
        apart = clash (cached s k) (in_fetch s k) (and_first (not (cached s k && in_fetch s k)) _ h);
        there = λ b. leb→le (page_of k) (size s (file_of k)) (implied (cached s k || in_fetch s k) _ (and_second (not (cached s k && in_fetch s k)) _ h) b);
      }

  -- and is passed where it is so
  pub in-key : KeyIn s k → T (key_holds s k)
  unfolding key_holds
  in-key h =
      and_both (not (cached s k && in_fetch s k)) _ (no-clash (cached s k) (in_fetch s k) h.apart)
      (implies (cached s k || in_fetch s k) _ (λ b. le→leb (page_of k) (size s (file_of k)) (h.there b)))

-- a word of 0 has no bit set
pub unset : (words : List ℕ) (k : ℕ) → get_or words (k / 64) 0 ≡ 0 → T (eqb (bit words k) 1) → ⊥
unfolding bit
unset words k e h =
    let one = eqb→eq (digit (get_or words (k / 64) 0) (k % 64)) 1 h in
    let none : digit (get_or words (k / 64) 0) (k % 64) ≡ 0 = ap (λ w. digit w (k % 64)) e ∙ digit-high 0 0 (k % 64) (omega arith) (omega arith) in
    omega arith

-- a map of 128 words has no bit from key 8,192 on
bit-inside : (words : List ℕ) (k : ℕ) → length words ≡ 128 → T (eqb (bit words k) 1) → k < 8192
bit-inside words k l h = go (dec_lt k 8192)
  where
    go : Dec (k < 8192) → k < 8192
    go (yes m) = m
    go (no n) = absurd (unset words k (get_or-eq_default words 0 (omega arith)) h)

-- ---- all of it

-- the number of a rule and a state's settings are in their ranges, and the test of it
abbrev SettingsOf : ℕ → State → Type 0
SettingsOf rule s = Settings s.frames s.look_ahead s.fetch_time s.sizes rule s.expected

abbrev settings_hold : ℕ → State → Bool
settings_hold rule s = settings_in s.frames s.look_ahead s.fetch_time s.sizes rule s.expected

-- what `accepts` tests
pub record Accepted (v : List ℕ) : Type 0 where
  pub settings : SettingsOf (get_or v 366 0) (state_from v)
  pub turn_high : (state_from v).turn ≤ 15
  pub slots : (j : ℕ) → j < 16 → SlotIn v j
  pub marks : (j : ℕ) → j < 16 → mark_at (state_from v) j ≤ (reader_at (state_from v) j).position
  pub keys : (k : ℕ) → k < 8192 → KeyIn (state_from v) k
  pub room : length (cached_pages (state_from v)) ≤ (state_from v).frames
  pub gap : get_or v 2 0 ≡ 0
  pub gap-maps : get_or v 93 0 ≡ 0
  pub filler : get_or v 367 0 ≡ 0

module _ (v : List ℕ) where
  -- `accepts` tests all of it
  pub accepted : T (accepts v) → Accepted v
  unfolding accepts
  accepted h₀ =
      let s = state_from v in
      let n = get_or v 366 0 in
      let h₁ = and_second (settings_hold n s) _ h₀ in
      let h₂ = and_second (within 0 15 s.turn) _ h₁ in
      let h₃ = and_second (every (slot_holds v) (range 0 16)) _ h₂ in
      let h₄ = and_second (every (key_holds s) (range 0 8192)) _ h₃ in
      let h₅ = and_second (leb (length (cached_pages s)) s.frames) _ h₄ in
      let h₆ = and_first (gaps_hold v) _ h₅ in
      let h₇ = and_second (eqb (get_or v 2 0) 0) _ h₆ in
      record {
        settings = settings-in s.frames s.look_ahead s.fetch_time s.sizes n s.expected (and_first (settings_hold n s) _ h₀);
        turn_high = (in_within 0 15 s.turn (and_first (within 0 15 s.turn) _ h₁)).1;
        slots =
            λ j l.
            slot-in v j
            (range_at (λ i. T (slot_holds v i)) 0 16 j (every-all (slot_holds v) (range 0 16) (and_first (every (slot_holds v) (range 0 16)) _ h₂))
            (omega arith) l);
        marks =
            λ j l.
            leb→le (mark_at s j) (reader_at s j).position
            (range_at (λ i. T (mark_holds s i)) 0 16 j (every-all (mark_holds s) (range 0 16) (and_second (gaps_hold v) _ h₅)) (omega arith) l);
        keys =
            λ k l.
            key_in s k
            (range_at (λ i. T (key_holds s i)) 0 8192 k
            (every-all (key_holds s) (range 0 8192) (and_first (every (key_holds s) (range 0 8192)) _ h₃)) (omega arith) l);
        room = leb→le (length (cached_pages s)) s.frames (and_first (leb (length (cached_pages s)) s.frames) _ h₄);
        gap = eqb→eq (get_or v 2 0) 0 (and_first (eqb (get_or v 2 0) 0) _ h₆);
        gap-maps = eqb→eq (get_or v 93 0) 0 (and_first (eqb (get_or v 93 0) 0) _ h₇);
        filler = eqb→eq (get_or v 367 0) 0 (and_second (eqb (get_or v 93 0) 0) _ h₇);
      }

  -- and is passed where all of it holds
  pub in-accepted : Accepted v → T (accepts v)
  unfolding accepts
  in-accepted a =
      let s = state_from v in
      let n = get_or v 366 0 in
      and_both (settings_hold n s) _ (in-settings s.frames s.look_ahead s.fetch_time s.sizes n s.expected a.settings)
      (and_both (within 0 15 s.turn) _ (within_in 0 15 s.turn (omega arith) a.turn_high)
      (and_both (every (slot_holds v) (range 0 16)) _
      (all-every (slot_holds v) (range 0 16) (range-in (λ j. T (slot_holds v j)) 0 16 (λ j _ l. in-slot v j (a.slots j l))))
      (and_both (every (key_holds s) (range 0 8192)) _
      (all-every (key_holds s) (range 0 8192) (range-in (λ k. T (key_holds s k)) 0 8192 (λ k _ l. in-key s k (a.keys k l))))
      (and_both (leb (length (cached_pages s)) s.frames) _ (le→leb (length (cached_pages s)) s.frames a.room)
      (and_both (gaps_hold v) _
      (and_both (eqb (get_or v 2 0) 0) _ (eq→eqb (get_or v 2 0) 0 a.gap)
      (and_both (eqb (get_or v 93 0) 0) _ (eq→eqb (get_or v 93 0) 0 a.gap-maps) (eq→eqb (get_or v 367 0) 0 a.filler)))
      (all-every (mark_holds s) (range 0 16)
      (range-in (λ j. T (mark_holds s j)) 0 16 (λ j _ l. le→leb (mark_at s j) (reader_at s j).position (a.marks j l)))))))))

-- ---- from numbers to a state

module _ (v : List ℕ) (long : length v ≡ 384) (a : Accepted v) where
  -- accepted numbers are those of a table
  pub table-in : Table v
  table-in =
      record {
        long = long;
        gap = a.gap;
        gap-maps = a.gap-maps;
        filler = a.filler;
        conditions = λ j l. (a.slots j l).condition-in;
        rule_known = a.settings.rule_known;
      }

  reader-valid : (j : ℕ) → ReaderIn (reader_at (state_from v) j).condition (state_from v) (reader_at (state_from v) j)
  reader-valid j = go (dec_lt j 16)
    where
      go : Dec (j < 16) → ReaderIn (reader_at (state_from v) j).condition (state_from v) (reader_at (state_from v) j)
      go (yes l) = subst (λ r. ReaderIn r.condition (state_from v) r) (sym (reader-from v j l)) (a.slots j l).record-in
      go (no n) =
          let out : reader_at (state_from v) j ≡ no_reader =
          get_or-eq_default (state_from v).readers no_reader (omega (arith, (lengths-from v table-in).sixteen)) in
          subst (λ r. ReaderIn r.condition (state_from v) r) (sym out) refl

  mark-valid : (j : ℕ) → mark_at (state_from v) j ≤ (reader_at (state_from v) j).position
  mark-valid j = go (dec_lt j 16)
    where
      go : Dec (j < 16) → mark_at (state_from v) j ≤ (reader_at (state_from v) j).position
      go (yes l) = a.marks j l
      go (no n) = rw (get_or-eq_default (state_from v).marks 0 {n = j} (omega (arith, (lengths-from v table-in).marks_all))) (omega arith)

  maps-valid : Always (λ n. n < 2 ^ 64) 0 v → PageMap (state_from v).cached × PageMap (state_from v).fetching
  unfolding state_from
  maps-valid fit =
      let part : (o : ℕ) → Always (λ n. n < 2 ^ 64) 0 (take 128 (drop o v)) =
      λ o. always-take (λ n. n < 2 ^ 64) 0 (omega arith) 128 (drop o v) (always-drop (λ n. n < 2 ^ 64) 0 o v fit) in
      (record { all = (lengths-from v table-in).cached-all; fit = part 94 }, record { all = (lengths-from v table-in).fetching-all; fit = part 222 })

  attaches-valid : Always (λ n. n < 65536) 0 (drop 376 v) → (f : ℕ) → attaches_at (state_from v) f ≤ 65535
  unfolding state_from
  attaches-valid fit f = omega (arith, always-take (λ n. n < 65536) 0 (omega arith) 8 (drop 376 v) fit f)

  page-valid : (k : ℕ) → k < 8192 → T (cached (state_from v) k || in_fetch (state_from v) k) → Page (state_from v) k
  page-valid k l b = record { low = l; there = (a.keys k l).there b }

  -- the state of accepted numbers is valid, where they fit a word, and those of the attaches 2 bytes
  pub accepted-valid : Always (λ n. n < 2 ^ 64) 0 v → Always (λ n. n < 65536) 0 (drop 376 v) → Valid (state_from v)
  accepted-valid fit short =
      let s = state_from v in
      let lengths = lengths-from v table-in in
      let in-cached : (k : ℕ) → T (cached s k) → k < 8192 = λ k. bit-inside s.cached k lengths.cached-all in
      let in-fetching : (k : ℕ) → T (in_fetch s k) → k < 8192 = λ k. bit-inside s.fetching k lengths.fetching-all in
      record {
        eight = lengths.eight;
        sizes_high = a.settings.sizes-in;
        frames_low = a.settings.frames-in.0;
        frames_high = a.settings.frames-in.1;
        look_low = a.settings.look_in.0;
        look_high = a.settings.look_in.1;
        time_high = a.settings.time_high;
        sixteen = lengths.sixteen;
        readers_in = reader-valid;
        marks_all = lengths.marks_all;
        marks_in = mark-valid;
        turn_high = omega (arith, a.turn_high);
        expected_all = lengths.expected_all;
        expected_high = a.settings.expected-in;
        attaches_all = lengths.attaches_all;
        attaches_high = attaches-valid short;
        cached_map = (maps-valid fit).0;
        fetching_map = (maps-valid fit).1;
        cached_in = λ k h. page-valid k (in-cached k h) (or_left (cached s k) (in_fetch s k) h);
        fetching_in = λ k h. page-valid k (in-fetching k h) (or_right (cached s k) (in_fetch s k) h);
        apart = λ k h. (a.keys k (in-cached k h)).apart h;
        room = a.room;
      }

-- ---- from a state to numbers

module _ (s : State) (v : Valid s) where
  lengths : Lengths s
  lengths = valid-lengths s v

  slot-accepted : (j : ℕ) → j < 16 → SlotIn (state_numbers s) j
  slot-accepted j l =
      record {
        condition-in = rw (slot-number s lengths j 0 l (omega arith)) (condition-low (reader_at s j).condition);
        record-in =
            subst₂ (λ t r. ReaderIn r.condition t r) (sym (state-numbers s lengths)) (sym (reader-numbers s lengths j l))
            (v.readers_in j);
      }

  key-accepted : (k : ℕ) → KeyIn s k
  key-accepted k = record { apart = v.apart k; there = go (cached s k) (v.cached_in k) (in_fetch s k) (v.fetching_in k) }
    where
      go : (c : Bool) → (T c → Page s k) → (f : Bool) → (T f → Page s k) → T (c || f) → page_of k ≤ size s (file_of k)
      go true p f q h = (p tt).there
      go false p f q h = (q h).there

  -- a valid state's numbers are accepted
  pub valid-accepted : Accepted (state_numbers s)
  valid-accepted =
      let back = sym (state-numbers s lengths) in
      record {
        settings =
            subst (SettingsOf (get_or (state_numbers s) 366 0)) back
            (record {
              frames-in = (v.frames_low, v.frames_high);
              look_in = (v.look_low, v.look_high);
              time_high = v.time_high;
              sizes-in = v.sizes_high;
              rule_known = omega (arith, rule-at s lengths, rule-low s.rule);
              expected-in = v.expected_high;
            });
        turn_high = subst (λ t. t.turn ≤ 15) back (omega (arith, v.turn_high));
        slots = slot-accepted;
        marks = λ j _. subst (λ t. mark_at t j ≤ (reader_at t j).position) back (v.marks_in j);
        keys = λ k _. subst (λ t. KeyIn t k) back (key-accepted k);
        room = subst (λ t. length (cached_pages t) ≤ t.frames) back v.room;
        gap = refl;
        gap-maps = gap-number s lengths;
        filler = filler-number s lengths;
      }
