-- One walk, page by page: no page, one page more, and the end. Assumes nothing.
use Rattle.std.proofs.Common.{
  ◌≡◌,
  refl,
  sym,
  ap,
  ◌∙◌,
  subst,
  Bool,
  true,
  false,
  cond,
  ◌&&◌,
  List,
  ◌⊎◌,
  ◌≢◌,
  ⊎_elim,
  ℕ,
  suc,
  min,
  ◌+◌,
  ◌-◌,
  ◌*◌,
  ◌/◌,
  ◌%◌,
  ◌≤◌,
  ◌<◌,
  add-one,
  arith,
  le-leb,
  T,
  leb,
  ltb,
  le→leb,
  leb→le,
  get_or,
  length,
  set,
  get_or-set_same,
  get_or-set_other,
}
use native.Mathlib.Decide.{ℕ_discrete, dec_lt}
use borrow.Author.Tests.{lt-leb}
use lib.Dec.{not_T}
use Rattle.bits.specs.Map.{bit, joined, one_of}
use Rattle.bits.proofs.Joins.{joined-on}
use Rattle.rules.specs.Pages.{file_of, page_of, key_of}
use Rattle.rules.specs.Readers.{reader_at, attached, next_key}
use Rattle.rules.specs.UseTimes.{before, steps, present, missing, between, pruned, sees, time_for, seat, use_for}
use Rattle.rules.specs.Ranks.{Presents, Before}
use Rattle.rules.proofs.laws.Tests.{less, is_true, is_false, and_both, and_first, and_second}
use Rattle.rules.proofs.laws.Cases.{passed, failed}
use Rattle.rules.proofs.laws.Below.{one_more}
use Rattle.rules.proofs.laws.Keys.{one-of, one-is}
use Rattle.rules.proofs.orders.LookAheads.{before-is, is-before, sees-before, use-for}
use Rattle.rules.specs.declared.State.{State}
use Rattle.rules.specs.declared.Reader.{Reader}
use Rattle.walk.specs.Walks.{one_page, OnCourse, Shown, CourseOf, Lowered, Along, Walked}
use Rattle.walk.specs.declared.course.Walk.{Walk}
use Rattle.walk.specs.declared.course.Course.{Course}

-- ---- the page after n others

module _ (s : State) (r : Reader) (n : ℕ) where
  abbrev key : ℕ
  key = next_key r + n

  module _ (l : r.position + n < 1024) where
    in_its_file : file_of key ≡ r.file
    in_its_file = omega arith

    of-page : page_of key ≡ r.position + n + 1
    of-page = omega arith

    -- q is the count of the n
    of-between : between s r key ≡ missing s r.file r.position n
    of-between = ap (missing s r.file r.position) (omega (arith, of-page))

    -- it is in the look-ahead if it is at most the last page and number K, and q does not prune it
    sees-next : T (attached r) → r.position + n < r.last → n < s.look_ahead / r.pace
        → pruned s (missing s r.file r.position n) ≡ false → T (sees s r key)
    unfolding sees
    sees-next a m k p =
        let b : Before r key = record { here = a; in_its_file = sym in_its_file; past = omega (arith, of-page); in_reach = omega (arith, of-page) } in
        and_both (before r key) _ (is-before r key b)
        (and_both (leb (steps r key) (s.look_ahead / r.pace)) _ (le→leb (steps r key) (s.look_ahead / r.pace) (omega (arith, of-page)))
        (rw (of-between, p) tt))

    -- what is in the look-ahead is so
    next-seen : T (sees s r key)
        → (r.position + n < r.last) × (n < s.look_ahead / r.pace) × (pruned s (missing s r.file r.position n) ≡ false)
    unfolding sees
    next-seen h =
        let b = before-is r key (and_first (before r key) _ h) in
        let rest = and_second (before r key) _ h in
        let m = leb→le (steps r key) (s.look_ahead / r.pace) (and_first (leb (steps r key) (s.look_ahead / r.pace)) _ rest) in (
          omega (arith, b.in_reach, of-page),
          omega (arith, m, of-page),
          is_false _ (rw of-between at (and_second (leb (steps r key) (s.look_ahead / r.pace)) _ rest)),
        )

    -- its time
    of-time : time_for s r key ≡ (n + 1) * r.pace + missing s r.file r.position n * s.fetch_time
    unfolding time_for
    of-time =
        let e : steps r key ≡ n + 1 = omega (arith, of-page) in
        rw (of-between, e) refl

    -- the page counted too
    missing-next : missing s r.file r.position (n + 1) ≡ cond (present s key) 0 1 + missing s r.file r.position n
    unfolding missing
    missing-next =
        let e : key_of r.file (r.position + suc n) ≡ key = omega arith in
        rw (add-one n, e) refl

-- ---- a stretch of keys, and one key more

-- none
stretch-none : (a k : ℕ) → one_of a 0 k ≡ false
stretch-none a k = is_false _ (not_T (one_of a 0 k) (λ h. omega (arith, one-is a 0 k h)))

-- the key after n others is none of them
stretch-past : (a n : ℕ) → one_of a n (a + n) ≡ false
stretch-past a n = is_false _ (not_T (one_of a n (a + n)) (λ h. omega (arith, one-is a n (a + n) h)))

-- it is the one more
stretch-last : (a n : ℕ) → one_of a (n + 1) (a + n) ≡ true
stretch-last a n = is_true _ (one-of a (n + 1) (a + n) (omega arith) (omega arith))

-- of every other the same is said
stretch-other : (a n k : ℕ) → k ≢ a + n → one_of a (n + 1) k ≡ one_of a n k
stretch-other a n k h =
    ap (λ b. leb a k && b)
    (less k (a + (n + 1)) (λ b. b ≡ ltb k (a + n)) (λ l. less k (a + n) (λ b. true ≡ b) (λ _. refl) (λ m. absurd (omega arith)))
    (λ l. less k (a + n) (λ b. false ≡ b) (λ m. absurd (omega arith)) (λ _. refl)))

-- ---- the walk

module _ (s : State) (j : ℕ) (first : List ℕ) where
  abbrev r : Reader
  r = reader_at s j

  -- no page
  pub along-none : (number : ℕ) → Along s j first first (record { tested = 0; missing = 0; number = number })
  unfolding missing
  along-none number = record {
    seen = λ i l. absurd (omega arith);
    count = refl;
    lowered = record { lower = λ k. rw (stretch-none (next_key r) k) refl };
  }

  module _ (c : Course) (o : CourseOf s j c) (table : List ℕ) (p : Walk) (g : OnCourse c p) (a : Along s j first table p)
      (l : p.tested < c.reach) (m : p.missing < c.most) where
    abbrev here : ℕ
    here = next_key r + p.tested

    near : r.position + p.tested < 1024
    near = omega (arith, o.reach_is, o.position_in, o.last_high)

    few : p.missing ≤ 1024
    few = omega (arith, o.reach_is, o.position_in, o.last_high, g.missing_low)

    sees-here : T (sees s r here)
    sees-here =
        sees-next s r p.tested near o.here (omega (arith, o.reach_is, o.position_in)) (omega (arith, o.reach_is))
        (rw (← a.count) (o.most_is p.missing few ∙ lt-leb c.most p.missing m))

    -- its number
    number-here : use_for s here j ≡ p.number
    number-here =
        use-for s here j sees-here
        ∙ ap (λ t. t * 16 + seat s j)
        (of-time s r p.tested near ∙ ap (λ (i : ℕ). (p.tested + 1) * r.pace + i * s.fetch_time) (sym a.count))
        ∙ sym (g.number_is ∙ rw (o.page_is, o.gap_is, o.seat_is) (omega arith))

    count-more : (b : Bool) → present s here ≡ b → (one_page c b p).missing ≡ missing s r.file r.position (p.tested + 1)
    count-more b e = rw (missing-next s r p.tested near, e, ← a.count) (go_on b)
      where
        go_on : (b : Bool) → cond b p.missing (p.missing + 1) ≡ cond b 0 1 + p.missing
        go_on true = omega arith
        go_on false = omega arith

    lowered-more : (x : ℕ) → here < length table → x ≡ min (get_or table here 0) p.number → Lowered s j (p.tested + 1) first (set table here x)
    lowered-more x long e = record { lower = λ k. by k (ℕ_discrete k here) }
      where
        by : (k : ℕ) → Dec (k ≡ here)
            → get_or (set table here x) k 0
            ≡ cond (one_of (next_key r) (p.tested + 1) k) (min (get_or first k 0) (use_for s k j)) (get_or first k 0)
        by k (yes f) =
            rw (f, stretch-last (next_key r) p.tested, number-here)
            (get_or-set_same table here x 0 long ∙ e
            ∙ ap (λ (y : ℕ). min y p.number) (a.lowered.lower here ∙ rw (stretch-past (next_key r) p.tested) refl))
        by k (no f) = get_or-set_other table here k x 0 f ∙ a.lowered.lower k ∙ rw (stretch-other (next_key r) p.tested k f) refl

    -- one page more
    pub along-more : (b : Bool) (x k : ℕ) → k ≡ c.from + p.tested → present s k ≡ b → k < length table
        → x ≡ min (get_or table k 0) p.number → Along s j first (set table k x) (one_page c b p)
    along-more b x k h =
        subst (λ (i : ℕ). present s i ≡ b → i < length table → x ≡ min (get_or table i 0) p.number → Along s j first (set table i x) (one_page c b p))
        (sym (h ∙ ap (λ (i : ℕ). i + p.tested) o.from_is))
        (λ e long f. record {
          seen = one_more (λ i. T (sees s r (next_key r + i))) p.tested a.seen sees-here;
          count = count-more b e;
          lowered = lowered-more x long f;
        })

-- ---- on a course

-- one page more
pub on-more : (c : Course) (p : Walk) (b : Bool) → OnCourse c p → p.tested < c.reach → p.missing < c.most → OnCourse c (one_page c b p)
on-more c p true g l m = record {
  tested_in = omega arith;
  missing_low = omega (arith, g.missing_low);
  number_is = rw g.number_is (omega arith);
}
on-more c p false g l m = record {
  tested_in = omega arith;
  missing_low = omega (arith, g.missing_low);
  number_is = rw g.number_is (omega arith);
}

-- at most one more is missing
pub missing-one : (c : Course) (p : Walk) (b : Bool) → (one_page c b p).missing ≤ p.missing + 1
missing-one c p true = omega arith
missing-one c p false = omega arith

-- ---- a word's part of a walk

-- the word that both maps have at a key's place has what is present of its keys
pub word-shown : (s : State) (xs ys : List ℕ) (from n end : ℕ) → Presents s xs ys → end ≤ n + 64 - (from + n) % 64
    → Shown s (get_or (joined xs ys) ((from + n) / 64) 0) from n end
unfolding bit
word-shown s xs ys from n end shows l i m u =
    let e : (from + i) / 64 ≡ (from + n) / 64 = omega arith in
    shows (from + i) ∙ sym (joined-on xs ys (from + i)) ∙ rw e refl

-- ---- the whole walk

module _ (s : State) (j : ℕ) (c : Course) (o : CourseOf s j c) (first table : List ℕ) (p : Walk) (g : OnCourse c p) (a : Along s j first table p) where
  abbrev at : Reader
  at = reader_at s j

  -- the page after the last one is not seen: no page is left in reach, or too many are missing
  ends_there : (p.tested ≡ c.reach) ⊎ (c.most ≤ p.missing) → T (sees s at (next_key at + p.tested)) → ⊥
  ends_there ends h = by (dec_lt (at.position + p.tested) 1024)
    where
      few : p.missing ≤ 1024
      few = omega (arith, o.reach_is, o.position_in, o.last_high, g.tested_in, g.missing_low)

      by : Dec (at.position + p.tested < 1024) → ⊥
      by (no l) =
          let b = before-is at (next_key at + p.tested) (sees-before s at (next_key at + p.tested) h) in
          omega (arith, b.in_its_file)
      by (yes l) =
          let n = next-seen s at p.tested l h in
          ⊎_elim (λ e. omega (arith, e, n.0, n.1, o.reach_is))
          (λ e.
          failed (pruned s p.missing) (ap (pruned s) a.count ∙ n.2)
          (passed (pruned s p.missing) (o.most_is p.missing few ∙ le-leb c.most p.missing e))) ends

  -- so the look-ahead is what was tested
  pub walk_ends : (p.tested ≡ c.reach) ⊎ (c.most ≤ p.missing) → Walked s j first table p.tested
  walk_ends ends = record { stretch = record { inside = a.seen; outside = ends_there ends }; lowered = a.lowered }
