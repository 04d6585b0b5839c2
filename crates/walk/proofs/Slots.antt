-- The table and the two maps, slot by slot, and what was counted. Assumes nothing.
use Rattle.std.proofs.Common.{◌≡◌, refl, sym, ap, ◌∙◌, Bool, true, false, cond, ◌||◌, List}
use Rattle.std.proofs.Common.{length, get_or, replicate, ℕ, min, ◌+◌, ◌-◌, ◌*◌, ◌≤◌, ◌<◌, add-one, arith}
use Rattle.std.proofs.Math.ListN.{get_or-replicate}
use Rattle.bits.specs.Map.{on, one_of}
use Rattle.rules.specs.Lists.{range, some_of, least, total}
use Rattle.rules.specs.Readers.{reader_at, attached, next_key}
use Rattle.rules.specs.UseTimes.{before, sees, look_ahead_of, tested, never, use_for, use_key, ahead, seen}
use Rattle.rules.specs.Questions.{words_of, words_read}
use Rattle.rules.specs.Valid.{Valid}
use Rattle.rules.specs.Views.{no_pages}
use Rattle.rules.proofs.laws.Leasts.{least-far, total-none, total-more}
use Rattle.rules.proofs.laws.Indexed.{length-range}
use Rattle.rules.proofs.calls.Kept.{blank-off}
use Rattle.rules.proofs.orders.Stretches.{before-stretch, sees-stretch, look-ahead-keys, empty-before, empty-sees, empty-keys}
use Rattle.rules.proofs.orders.Questions.{no_words}
use Rattle.rules.specs.declared.State.{State}
use Rattle.rules.specs.declared.Reader.{Reader}
use Rattle.walk.specs.Walks.{CourseOf, Walked, spanned}
use Rattle.walk.specs.Tables.{Keyed, InLookAhead}
use Rattle.walk.specs.declared.course.Course.{Course}
use Rattle.walk.proofs.Words.{words-spanned, spanned-few}

-- the slots before this one are passed: the maps and the table are theirs, and so are the pages tested and the words read
pub record Passed (s : State) (m : ℕ) (before-some in_some table : List ℕ) (pages words : ℕ) : Type 0 where
  pub ahead_is : (k : ℕ) → on before-some k ≡ some_of m (λ j. before (reader_at s j) k)
  pub seen_is : (k : ℕ) → on in_some k ≡ some_of m (λ j. sees s (reader_at s j) k)
  pub use_is : (k : ℕ) → k < 8192 → get_or table k 0 ≡ least m (use_for s k) never
  pub pages_are : pages ≡ total m (λ j. length (look_ahead_of s (reader_at s j)))
  pub words_are : words ≡ total m (λ j. words_of (look_ahead_of s (reader_at s j)))
  pub pages_few : pages ≤ m * 1024
  pub words_few : words ≤ m * 16

-- one slot more
module _ (s : State) (j : ℕ) where
  abbrev r : Reader
  r = reader_at s j

  some_more : (P : ℕ → Bool) → some_of (j + 1) P ≡ (P j || some_of j P)
  unfolding some_of
  some_more P = rw (add-one j) refl

  least_more : (g : ℕ → ℕ) → least (j + 1) g never ≡ min (g j) (least j g never)
  unfolding least
  least_more g = rw (add-one j) refl

  -- a slot that does not see the page leaves its use key
  use-stays : (k : ℕ) → sees s r k ≡ false → least j (use_for s k) never ≡ min (use_for s k j) (least j (use_for s k) never)
  unfolding use_for
  use-stays k e = let l = least-far j (use_for s k) never in rw e (omega arith)

  module _ (w : Valid s) (a b t : List ℕ) (pages words : ℕ) (p : Passed s j a b t pages words) where
    -- an empty slot
    pub passed-empty : attached r ≡ false → Passed s (j + 1) a b t pages words
    passed-empty e =
        let keys = empty-keys s r e w in
        record {
          ahead_is = λ k. p.ahead_is k ∙ sym (some_more _ ∙ rw (empty-before s r e k) refl);
          seen_is = λ k. p.seen_is k ∙ sym (some_more _ ∙ rw (empty-sees s r e k) refl);
          use_is = λ k l. p.use_is k l ∙ use-stays k (empty-sees s r e k) ∙ sym (least_more (use_for s k));
          pages_are = omega (arith, total-more _ j pages 0 p.pages_are (sym (ap length keys)));
          words_are = omega (arith, total-more _ j words 0 p.words_are (sym (ap words_of keys ∙ no_words)));
          pages_few = omega (arith, p.pages_few);
          words_few = omega (arith, p.words_few);
        }

    -- a slot with a reader, whose look-ahead has n pages
    module _ (l : j < 16) (c : Course) (o : CourseOf s j c) (n : ℕ) (high : n ≤ c.reach) (a' b' t' : List ℕ) (k : Walked s j t t' n) where
      by-stretch : (i : ℕ) → sees s r i ≡ one_of (next_key r) n i
      by-stretch = sees-stretch s w j n k.stretch

      use-more : (i : ℕ) → i < 8192 → get_or t' i 0 ≡ least (j + 1) (use_for s i) never
      use-more i l = k.lowered.lower i ∙ go (one_of (next_key r) n i) (by-stretch i) ∙ sym (least_more (use_for s i))
        where
          old : get_or t i 0 ≡ least j (use_for s i) never
          old = p.use_is i l

          go : (d : Bool) → sees s r i ≡ d
              → cond d (min (get_or t i 0) (use_for s i j)) (get_or t i 0) ≡ min (use_for s i j) (least j (use_for s i) never)
          go true e = omega (arith, old)
          go false e = old ∙ use-stays i e

      keys : look_ahead_of s r ≡ range (next_key r) n
      keys =
          look-ahead-keys s w j n k.stretch l (omega (arith, high, o.reach_is, o.position_in, o.file_high, o.last_high))

      -- their words are what was read
      of-words : words_of (look_ahead_of s r) ≡ spanned (next_key r) n
      of-words =
          ap words_of keys ∙ words-spanned (next_key r) n (omega (arith, high, o.reach_is, o.position_in, o.file_high, o.last_high))

      pub passed-more : (read : ℕ) → read ≡ spanned c.from n
          → ((i : ℕ) → on a' i ≡ (one_of c.from (r.last - r.position) i || on a i)) → ((i : ℕ) → on b' i ≡ (one_of c.from n i || on b i))
          → Passed s (j + 1) a' b' t' (pages + n) (words + read)
      passed-more read e x y =
          let f = rw o.from_is at e in
          record {
            ahead_is = λ i.
                x i ∙ rw (o.from_is, ← before-stretch r o.here o.position_in o.last_high i, p.ahead_is i) (sym (some_more _));
            seen_is = λ i. y i ∙ rw (o.from_is, ← by-stretch i, p.seen_is i) (sym (some_more _));
            use_is = use-more;
            pages_are = total-more _ j pages n p.pages_are (sym (ap length keys ∙ length-range (next_key r) n));
            words_are = total-more _ j words read p.words_are (f ∙ sym of-words);
            pages_few = omega (arith, p.pages_few, high, o.reach_is, o.last_high);
            words_few = omega (arith, p.words_few, f, spanned-few r n (omega (arith, high, o.reach_is, o.position_in, o.last_high)));
          }

-- ---- all slots

module _ (s : State) where
  -- none yet
  pub passed-none : Passed s 0 no_pages no_pages (replicate 8192 never) 0 0
  unfolding some_of least
  passed-none = record {
    ahead_is = blank-off;
    seen_is = blank-off;
    use_is = λ k l. get_or-replicate 8192 k never 0 l;
    pages_are = total-none _;
    words_are = total-none _;
    pages_few = omega arith;
    words_few = omega arith;
  }

  -- all sixteen
  module _ (a b t : List ℕ) (pages words : ℕ) (p : Passed s 16 a b t pages words) where
    pub keyed-all : Keyed s a t × InLookAhead s b
    unfolding ahead seen use_key
    keyed-all = (record { ahead_is = p.ahead_is; use_is = p.use_is }, p.seen_is)

    pub counts-all : (pages ≡ tested s) × (words ≡ words_read s)
    unfolding tested words_read
    counts-all = (p.pages_are, p.words_are)
