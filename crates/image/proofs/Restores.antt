-- Restore's verdict from the tests that its code makes. Assumes nothing.
use Rattle.std.proofs.Common.{ℕ, zero, suc, ◌≡◌, ◌+◌, ◌≤◌, ◌<◌, Bool, true, false, ◌&&◌, List, length, leb, eqb, refl, sym, ◌∙◌, subst, arith}
use mathlib.Core.Bool.{and_assoc}
use native.Mathlib.Decide.{dec_lt}
use borrow.Author.Tests.{ne_eqb}
use lib.ListN.{get_or, get_or-eq_default}
use lib.Dec.{T, leb→le, le→leb, eqb→eq, eqb_refl}
use Rattle.bits.specs.Map.{bit, ones}
use Rattle.bits.proofs.Bits.{bit_le}
use Rattle.bits.proofs.Counts.{ones_none, ones-more}
use Rattle.rules.specs.Lists.{range, every, within}
use Rattle.rules.specs.Pages.{size, cached, Page, cached_pages}
use Rattle.rules.specs.Readers.{reader_at}
use Rattle.rules.specs.Schedules.{num, count}
use Rattle.rules.specs.Calls.{reply, refused, settings_in, idle}
use Rattle.rules.specs.Image.{
  rule_number,
  reader_number,
  reader_from,
  reader_holds,
  state_from,
  key_holds,
  gaps_hold,
  accepts,
  restore_whole,
  image_numbers,
  image_length,
}
use Rattle.rules.proofs.laws.Cases.{passed}
use Rattle.rules.proofs.laws.Tests.{or_left, and_both, and_first, and_second}
use Rattle.rules.proofs.laws.Members.{range_at}
use Rattle.rules.proofs.laws.Indexed.{every-all}
use Rattle.rules.proofs.laws.Counts.{pages-count}
use Rattle.rules.proofs.images.Accepts.{settings-in, in-settings, reader-in, in-reader, key_in, in-key, unset, accepted, in-accepted}
use Rattle.image.specs.Tests.{SizesLow, known_condition, readable, mark_in, apart_at, size_holds, tests}
use Rattle.image.proofs.States.{rule-high, cached-long}
use Rattle.image.proofs.Checks.{same_test, every_in, every-at, high-within, every_map}
use Rattle.image.proofs.MapTests.{maps-keys}
use Rattle.rules.specs.declared.State.{State}
use Rattle.rules.specs.declared.Rule.{Rule}
use Rattle.rules.specs.declared.Rule.TheVariants.{Of1989, Of1993}
use Rattle.rules.specs.declared.Answer.TheVariants.{Done}
use Rattle.rules.specs.declared.Refusal.TheVariants.{NoImage}

-- ---- the settings

known-rule : (r : Rule) → within 0 1 (rule_number r) ≡ true
known-rule Of1989 = refl
known-rule Of1993 = refl

-- the code's tests of them are those of the rule, of which the number is that of one
pub settings-so : (frames look time : ℕ) (sizes : List ℕ) (rule : Rule) (expected : List ℕ)
    → (within 1 1024 frames && within 1 2000000 look && leb time 2000000 && every (within 0 1024) sizes && every (within 0 1000) expected)
    ≡ settings_in frames look time sizes (rule_number rule) expected
unfolding settings_in
settings-so frames look time sizes rule expected = rw (known-rule rule, ← high-within 2000000 time) (simp and_assoc refl)

-- the sizes are low where they pass
pub sizes-low : (frames look time : ℕ) (sizes : List ℕ) (rule : ℕ) (expected : List ℕ) (t : Bool) → t ≡ settings_in frames look time sizes rule expected
    → t ≡ true → SizesLow sizes
sizes-low frames look time sizes rule expected t e h =
    (settings-in frames look time sizes rule expected (passed (settings_in frames look time sizes rule expected) (sym e ∙ h))).sizes-in

-- ---- more cached pages than frames

num-bit : (x : ℕ) → x ≤ 1 → num (eqb x 1) ≡ x
num-bit zero h = refl
num-bit (suc zero) h = refl
num-bit (suc (suc x)) h = absurd (omega arith)

count_ones : (words : List ℕ) (n : ℕ) → count n (λ k. eqb (bit words k) 1) ≡ ones words 0 n
unfolding count
count_ones words zero = sym (ones_none words 0)
count_ones words (suc n) =
    let e : 0 + n ≡ n = omega arith in
    rw (ones-more words 0 n, e, num-bit (bit words n) (bit_le words n), count_ones words n) (omega arith)

-- where no bit stands above its file's size, the cached pages are as many as the map's bits
pages-ones : (s : State) → length s.cached ≡ 128 → ((f : ℕ) → size s f ≤ 1024) → T (every (key_holds s) (range 0 8192))
    → length (cached_pages s) ≡ ones s.cached 0 8192
unfolding cached_pages
pages-ones s long small keys = pages-count s small (cached s) (λ k h. by k h (dec_lt k 8192)) ∙ count_ones s.cached 8192
  where
    by : (k : ℕ) → T (cached s k) → Dec (k < 8192) → Page s k
    by k h (yes l) =
        let holds = range_at (λ i. T (key_holds s i)) 0 8192 k (every-all (key_holds s) (range 0 8192) keys) (omega arith) (omega arith) in
        record { low = l; there = (key_in s k holds).there (or_left (cached s k) _ h) }
    by k h (no n) = absurd (unset s.cached k (get_or-eq_default s.cached 0 (omega arith)) h)

-- ---- the verdict

eq→eqb : (m n : ℕ) → m ≡ n → T (eqb m n)
eq→eqb m n e = subst (λ k. T (eqb m k)) e (eqb_refl m)

-- nothing and a test that fails
and-none : (b : Bool) → (b && false) ≡ false
and-none true = refl
and-none false = refl

module _ (image : List ℕ) where
  abbrev v : List ℕ
  v = image_numbers image

  abbrev s : State
  s = state_from v

  abbrev keys : Bool
  keys = every (key_holds s) (range 0 8192)

  abbrev maps : Bool
  maps = every (apart_at s.cached s.fetching) (range 0 8192) && every (size_holds s.sizes s.cached s.fetching) (range 0 8)

  readers-listed : every (reader_holds s) s.readers ≡ every (λ j. reader_holds s (reader_from v j)) (range 0 16)
  unfolding state_from
  readers-listed = every_map (reader_holds s) (reader_from v) (range 0 16)

  -- what is accepted passes the code's tests
  accepted-tests : T (accepts v) → T (readable v && (gaps_hold v && tests s))
  unfolding tests
  accepted-tests h =
      let a = accepted v h in
      let g = a.settings in
      let all : T keys = every_in (key_holds s) 0 8192 (λ k _ l. in-key s k (a.keys k (omega arith))) in
      let both : T maps = rw (maps-keys s) all in
      let apart = every (apart_at s.cached s.fetching) (range 0 8192) in
      and_both (readable v) _
      (and_both (every (known_condition v) (range 0 16)) _
      (every_in (known_condition v) 0 16 (λ j _ l. le→leb (reader_number v j 0) 2 (a.slots j (omega arith)).condition-in))
      (le→leb (get_or v 366 0) 1 g.rule_known))
      (and_both (gaps_hold v) _
      (and_both (eqb (get_or v 2 0) 0) _ (eq→eqb _ 0 a.gap)
      (and_both (eqb (get_or v 93 0) 0) _ (eq→eqb _ 0 a.gap-maps) (eq→eqb _ 0 a.filler)))
      (and_both (settings_in s.frames s.look_ahead s.fetch_time s.sizes (rule_number s.rule) s.expected) _
      (in-settings s.frames s.look_ahead s.fetch_time s.sizes (rule_number s.rule) s.expected
      (record {
        frames-in = g.frames-in;
        look_in = g.look_in;
        time_high = g.time_high;
        sizes-in = g.sizes-in;
        rule_known = rule-high s.rule;
        expected-in = g.expected-in;
      }))
      (and_both (leb s.turn 15 && every (reader_holds s) s.readers && every (mark_in s.marks s.readers) (range 0 16)
      && leb (ones s.cached 0 8192) s.frames && apart) _
      (and_both (leb s.turn 15 && every (reader_holds s) s.readers && every (mark_in s.marks s.readers) (range 0 16) && leb (ones s.cached 0 8192) s.frames) _
      (and_both (leb s.turn 15 && every (reader_holds s) s.readers && every (mark_in s.marks s.readers) (range 0 16)) _
      (and_both (leb s.turn 15 && every (reader_holds s) s.readers) _
      (and_both (leb s.turn 15) _ (le→leb s.turn 15 a.turn_high)
      (rw readers-listed (every_in _ 0 16 (λ j _ l. in-reader s (reader_from v j) (a.slots j (omega arith)).record-in))))
      (every_in (mark_in s.marks s.readers) 0 16 (λ j _ l. le→leb _ (reader_at s j).position (a.marks j (omega arith)))))
      (rw (pages-ones s (cached-long image) g.sizes-in all) at (le→leb (length (cached_pages s)) s.frames a.room)))
      (and_first apart _ both))
      (and_second apart _ both))))

  -- what passes them is accepted
  tests-accepted : T (readable v && (gaps_hold v && tests s)) → T (accepts v)
  unfolding tests
  tests-accepted h =
      let conditions = every (known_condition v) (range 0 16) in
      let known = and_first (readable v) _ h in
      let rest = and_second (readable v) _ h in
      let gaps = and_first (gaps_hold v) _ rest in
      let gaps₂ = and_second (eqb (get_or v 2 0) 0) _ gaps in
      let settings = settings_in s.frames s.look_ahead s.fetch_time s.sizes (rule_number s.rule) s.expected in
      let read = and_second (gaps_hold v) _ rest in
      let g = settings-in s.frames s.look_ahead s.fetch_time s.sizes (rule_number s.rule) s.expected (and_first settings _ read) in
      let turn = leb s.turn 15 in
      let readers = every (reader_holds s) s.readers in
      let marks = every (mark_in s.marks s.readers) (range 0 16) in
      let room = leb (ones s.cached 0 8192) s.frames in
      let apart = every (apart_at s.cached s.fetching) (range 0 8192) in
      let h₁ = and_second settings _ read in
      let h₂ = and_first (turn && readers && marks && room && apart) _ h₁ in
      let h₃ = and_first (turn && readers && marks && room) _ h₂ in
      let h₄ = and_first (turn && readers && marks) _ h₃ in
      let h₅ = and_first (turn && readers) _ h₄ in
      let both : T maps =
      and_both apart _ (and_second (turn && readers && marks && room) _ h₂) (and_second (turn && readers && marks && room && apart) _ h₁) in
      let all : T keys = rw (maps-keys s) at both in
      let holds : T (every (λ j. reader_holds s (reader_from v j)) (range 0 16)) = rw readers-listed at (and_second turn _ h₅) in
      let marked = and_second (turn && readers) _ h₄ in
      let roomy : T (leb (length (cached_pages s)) s.frames) =
      rw (pages-ones s (cached-long image) g.sizes-in all) (and_second (turn && readers && marks) _ h₃) in
      in-accepted v
      (record {
        settings =
            record {
              frames-in = g.frames-in;
              look_in = g.look_in;
              time_high = g.time_high;
              sizes-in = g.sizes-in;
              rule_known = leb→le (get_or v 366 0) 1 (and_second conditions _ known);
              expected-in = g.expected-in;
            };
        turn_high = leb→le s.turn 15 (and_first turn _ h₅);
        slots =
            λ j l.
            record {
              condition-in = leb→le (reader_number v j 0) 2 (every-at (known_condition v) 0 16 (and_first conditions _ known) j (omega arith) (omega arith));
              record-in = reader-in s (reader_from v j) (every-at (λ i. reader_holds s (reader_from v i)) 0 16 holds j (omega arith) (omega arith));
            };
        marks = λ j l. leb→le _ (reader_at s j).position (every-at (mark_in s.marks s.readers) 0 16 marked j (omega arith) (omega arith));
        keys = λ k l. key_in s k (every-at (key_holds s) 0 8192 all k (omega arith) (omega arith));
        room = leb→le (length (cached_pages s)) s.frames roomy;
        gap = eqb→eq (get_or v 2 0) 0 (and_first (eqb (get_or v 2 0) 0) _ gaps);
        gap-maps = eqb→eq (get_or v 93 0) 0 (and_first (eqb (get_or v 93 0) 0) _ gaps₂);
        filler = eqb→eq (get_or v 367 0) 0 (and_second (eqb (get_or v 93 0) 0) _ gaps₂);
      })

  -- the tests are those of the rule
  verdict : accepts v ≡ (readable v && (gaps_hold v && tests s))
  verdict = same_test (accepts v) (readable v && (gaps_hold v && tests s)) accepted-tests tests-accepted

  -- ---- Restore

  -- another length
  pub restore-short : (length image ≡ image_length → ⊥) → refused idle NoImage ≡ restore_whole image
  unfolding restore_whole
  restore-short n = rw (ne_eqb (length image) image_length n)

  module _ (long : length image ≡ image_length) where
    -- a number is none's
    pub restore-unread : readable v ≡ false → refused idle NoImage ≡ restore_whole image
    unfolding restore_whole
    restore-unread e = rw (long, verdict, e) refl

    -- a test fails
    pub restore-stop : (gaps_hold v && tests s) ≡ false → refused idle NoImage ≡ restore_whole image
    unfolding restore_whole
    restore-stop e = rw (long, verdict, e, and-none (readable v)) refl

    -- all pass
    pub restore-pass : readable v ≡ true → (gaps_hold v && tests s) ≡ true → (t : State) → t ≡ s → reply t Done ≡ restore_whole image
    unfolding restore_whole
    restore-pass e f t read = rw (long, verdict, e, f, read) refl
