-- The page to give up where a page is ahead of no reader: the least position of those that have a page before them, the pages passed over, and the best of
-- the files. Assumes nothing.
use Rattle.std.proofs.Common.{◌≡◌, refl, sym, ap, ◌∙◌, Bool, true, not, List, ◌⊎◌, inl, inr, ℕ, min, ◌+◌, ◌-◌, ◌*◌, ◌≤◌, ◌<◌, T, arith, get_or}
use native.Mathlib.Decide.{ℕ_discrete, dec_lt, dec_le}
use borrow.Author.Tests.{eq-eqb}
use lib.Dec.{T_not, eqb→eq}
use Rattle.bits.specs.Map.{bit, on, last_bit}
use Rattle.bits.proofs.Finds.{last-is}
use Rattle.rules.specs.Pages.{size, file_of, page_of, key_of, cached, Page}
use Rattle.rules.specs.Readers.{reader_in, attached, reads_file}
use Rattle.rules.specs.Valid.{Valid}
use Rattle.rules.specs.UseTimes.{before, never, ahead}
use Rattle.rules.specs.Orders.{place}
use Rattle.rules.specs.Ranks.{rank, cached_among}
use Rattle.rules.proofs.laws.Tests.{side, and_both, and_first, and_second}
use Rattle.rules.proofs.laws.Cases.{passed}
use Rattle.rules.proofs.laws.Leasts.{some_at, some_in}
use Rattle.rules.proofs.orders.LookAheads.{before-is, is-before}
use Rattle.rules.proofs.orders.Ranks.{rank-behind, rank-ahead}
use Rattle.rules.specs.declared.State.{State}
use Rattle.rules.specs.declared.Reader.{Reader}
use Rattle.uses.specs.declared.Pick.{Pick}
use Rattle.uses.specs.Sights.{Ranked}
use Rattle.rears.specs.Rears.{Ahead, Least, Back, Free, Rear}

-- ---- the least position

module _ (readers : List Reader) (f page : ℕ) where
  -- no slot
  pub least-none : Least readers f page 0 page
  least-none = record { low = omega arith; all = λ j l u h. absurd (omega arith); met = λ h. absurd (omega arith) }

  -- one slot more, and those before it without a reader of the file
  module _ (s n r : ℕ) (ahead : s ≤ n) (l : n < 16) (here : T (reads_file f (reader_in readers n)))
      (between : (j : ℕ) → s ≤ j → j < n → T (reads_file f (reader_in readers j)) → ⊥) (a : Least readers f page s r) where
    -- what is no higher than r, nor than the position of a reader that has the page, does
    from : (x : ℕ) → x ≤ r → (page ≤ (reader_in readers n).last → x ≤ (reader_in readers n).position)
        → (j : ℕ) → j < n + 1 → j < 16 → T (reads_file f (reader_in readers j)) → page ≤ (reader_in readers j).last → x ≤ (reader_in readers j).position
    from x less here-too j m u h p = by (dec_lt j s) (ℕ_discrete j n)
      where
        by : Dec (j < s) → Dec (j ≡ n) → x ≤ (reader_in readers j).position
        by (yes g) _ = omega (arith, less, a.all j g u h p)
        by (no g) (yes e) = rw e (here-too (rw e at p))
        by (no g) (no e) = absurd (between j (omega arith) (omega arith) h)

    -- the slot met before
    still : r < page
        → (j : ℕ) × (j < n + 1) × (j < 16) × T (reads_file f (reader_in readers j)) × ((reader_in readers j).position ≡ r)
        × (page ≤ (reader_in readers j).last)
    still h = let m = a.met h in (m.0, omega (arith, m.1), m.2, m.3, m.4, m.5)

    -- it does not have the page before it
    pub least-past : (reader_in readers n).last < page → Least readers f page (n + 1) r
    least-past h = record { low = a.low; all = from r (omega arith) (λ p. absurd (omega arith)); met = still }

    -- it has, if it is not past it
    pub least-nearer : page ≤ (reader_in readers n).last → Least readers f page (n + 1) (min r (reader_in readers n).position)
    least-nearer p = by (dec_lt (reader_in readers n).position r)
      where
        by : Dec ((reader_in readers n).position < r) → Least readers f page (n + 1) (min r (reader_in readers n).position)
        by (yes g) =
            let e : min r (reader_in readers n).position ≡ (reader_in readers n).position = omega arith in
            rw e record {
              low = omega (arith, a.low);
              all = from (reader_in readers n).position (omega arith) (λ _. omega arith);
              met = λ _. (n, omega arith, l, here, refl, p);
            }
        by (no g) =
            let e : min r (reader_in readers n).position ≡ r = omega arith in
            rw e record { low = a.low; all = from r (omega arith) (λ _. omega arith); met = still }

  -- the others have no reader of the file
  pub least-all : (s r : ℕ) → s ≤ 16 → ((j : ℕ) → s ≤ j → j < 16 → T (reads_file f (reader_in readers j)) → ⊥) → Least readers f page s r
      → Least readers f page 16 r
  least-all s r few none a = record {
    low = a.low;
    all = λ j l u h. by j u h (dec_lt j s);
    met = λ h. let m = a.met h in (m.0, m.2, m.2, m.3, m.4, m.5);
  }
    where
      by : (j : ℕ) → j < 16 → T (reads_file f (reader_in readers j)) → Dec (j < s) → page ≤ (reader_in readers j).last → r ≤ (reader_in readers j).position
      by j u h (yes l) p = a.all j l u h p
      by j u h (no l) p = absurd (none j (omega arith) u h)

-- ---- the pages passed over

-- a reader of the file that has the page between its position and its last page has it before it
has-before : (readers : List Reader) (f k j : ℕ) → j < 16 → T (reads_file f (reader_in readers j)) → file_of k ≡ f → (reader_in readers j).position < page_of k
    → page_of k ≤ (reader_in readers j).last → Ahead readers k
has-before readers f k j l h e p q = (
  j,
  l,
  is-before (reader_in readers j) k record {
    here = and_first (attached (reader_in readers j)) _ h;
    in_its_file = eqb→eq _ f (and_second (attached (reader_in readers j)) _ h) ∙ sym e;
    past = p;
    in_reach = q;
  },
)

module _ (readers : List Reader) (map : List ℕ) (f page r : ℕ) (few : page ≤ 1024) (a : Least readers f page 16 r) where
  abbrev last : ℕ
  last = last_bit map (f * 1024) r

  -- the last cached page up to the least position
  pub back_is : Back readers map f page last
  back_is =
      let t = last-is map (f * 1024) r in
      record {
        held = λ h. passed _ (eq-eqb (bit map (key_of f last)) 1 (t.found h));
        passed = λ k h e l u. by k h e l u (dec_le (page_of k) r);
      }
    where
      by : (k : ℕ) → T (on map k) → file_of k ≡ f → last < page_of k → page_of k ≤ page → Dec (page_of k ≤ r) → Ahead readers k
      by k h e l u (yes g) =
          let t = last-is map (f * 1024) r in
          let z : bit map k ≡ 0 = t.after k (omega arith) (omega arith) in
          absurd (omega (arith, z, eqb→eq (bit map k) 1 h))
      by k h e l u (no g) =
          let m = a.met (omega arith) in
          has-before readers f k m.0 m.2 m.3 e (omega (arith, m.4)) (omega (arith, m.5))

  -- if that is the page itself, no reader has it before it
  pub back-free : last ≡ page → Free readers f last
  back-free e h x =
      let q = before-is (reader_in readers x.0) (key_of f last) x.2 in
      let t = last-is map (f * 1024) r in
      let own : (reader_in readers x.0).file ≡ f = q.in_its_file ∙ omega (arith, e, few) in
      let least = a.all x.0 x.1 x.1 (and_both (attached (reader_in readers x.0)) _ q.here (passed _ (eq-eqb _ f own)))
      (omega (arith, q.in_reach, e)) in
      omega (arith, q.past, least, e, t.high, a.low)

-- what is passed over in two steps
pub back_more : (readers : List Reader) (map : List ℕ) (f size page next : ℕ) → Back readers map f size page → Back readers map f page next
    → Back readers map f size next
back_more readers map f size page next a b = record {
  held = b.held;
  passed = λ k h e l u. by k h e l u (dec_lt page (page_of k));
}
  where
    by : (k : ℕ) → T (on map k) → file_of k ≡ f → next < page_of k → page_of k ≤ size → Dec (page < page_of k) → Ahead readers k
    by k h e l u (yes g) = a.passed k h e g u
    by k h e l u (no g) = b.passed k h e l (omega arith)

-- ---- the best of the files

-- a page ahead of some reader
pub some-ahead : (s : State) (k : ℕ) → T (ahead s k) → Ahead s.readers k
unfolding ahead
some-ahead s k h = some_at 16 (λ j. before (reader_in s.readers j) k) h

module _ (s : State) (w : Valid s) (files : ℕ → Bool) where
  -- some reader has the page before it, as the rules say it
  ahead-some : (k : ℕ) → Ahead s.readers k → T (ahead s k)
  unfolding ahead
  ahead-some k x = some_in 16 x.0 (λ j. before (reader_in s.readers j) k) x.1 x.2

  module _ (n : ℕ) (p : Pick) (a : Rear s files n p) where
    -- one file more, of whose pages none that is ahead of no reader goes before the page kept then
    rear-one : (q : Pick) → Ranked s files q → (0 < q.value → 2 * never ≤ q.value) → p.value ≤ q.value
        → ((k : ℕ) → file_of k ≡ n → T (cached_among files s k) → T (not (ahead s k)) → 2 * never + place k ≤ q.value) → Rear s files (n + 1) q
    rear-one q r d u m = record { page = r; deep = d; most = λ k l h z. by k l h z (dec_lt (file_of k) n) }
      where
        by : (k : ℕ) → file_of k < n + 1 → T (cached_among files s k) → T (not (ahead s k)) → Dec (file_of k < n) → 2 * never + place k ≤ q.value
        by k l h z (yes g) = omega (arith, u, a.most k g h z)
        by k l h z (no g) = m k (omega arith) h z

    module _ (size page : ℕ) (low : n < 8) (few : page ≤ 1024) (es : size ≡ get_or s.sizes n 0) (b : Back s.readers s.cached n size page)
        (free : Free s.readers n page) where
      -- a page of the file that is ahead of none is up to the page found
      no_further : (k : ℕ) → file_of k ≡ n → T (cached s k) → T (not (ahead s k)) → page_of k ≤ page
      no_further k e h z = by (dec_lt page (page_of k))
        where
          by : Dec (page < page_of k) → page_of k ≤ page
          by (yes g) =
              let c = w.cached_in k h in
              let q : get_or s.sizes (file_of k) 0 ≡ get_or s.sizes n 0 = ap (λ i. get_or s.sizes i 0) e in
              absurd (T_not (ahead s k) z (ahead-some k (b.passed k h e g (omega (arith, es, q, c.there)))))
          by (no g) = omega arith

      -- the file has none
      pub rear-clear : page ≡ 0 → Rear s files (n + 1) p
      rear-clear e = rear-one p a.page a.deep (omega arith) (λ k f h z. absurd (omega (arith, e, no_further k f (and_first (cached s k) _ h) z)))

      -- the one found goes no sooner
      pub rear-keep : 2 * never + (page * 8 + n) ≤ p.value → Rear s files (n + 1) p
      rear-keep l = rear-one p a.page a.deep (omega arith) (λ k f h z. omega (arith, l, f, no_further k f (and_first (cached s k) _ h) z))

      -- it goes sooner
      pub rear-take : files n ≡ true → (page ≡ 0 → ⊥) → p.value < 2 * never + (page * 8 + n)
          → Rear s files (n + 1) (record { key = n * 1024 + page - 1; value = 2 * never + (page * 8 + n) })
      rear-take o ne l =
          let k : ℕ = key_of n page in
          let e : file_of k ≡ n = omega arith in
          let here : T (cached s k) = b.held (omega arith) in
          rear-one (record { key = k; value = 2 * never + (page * 8 + n) })
          (record {
            held = λ _. and_both (cached s k) _ here (passed _ (ap files e ∙ o));
            its = λ _. rank-behind s k (clear (side (ahead s k))) ∙ omega arith;
          })
          (λ _. omega arith) (omega arith) (λ i f h z. omega (arith, f, no_further i f (and_first (cached s i) _ h) z))
        where
          clear : T (ahead s (key_of n page)) ⊎ T (not (ahead s (key_of n page))) → T (not (ahead s (key_of n page)))
          clear (inl x) = absurd (free (omega arith) (some-ahead s (key_of n page) x))
          clear (inr x) = x

  module _ (p : Pick) (a : Rear s files 8 p) where
    -- no page of the set goes before the page kept
    pub rear-top : 0 < p.value → (k : ℕ) → T (cached_among files s k) → rank s k ≤ p.value
    rear-top h k c = by (side (ahead s k))
      where
        page : Page s k
        page = w.cached_in k (and_first (cached s k) _ c)

        by : T (ahead s k) ⊎ T (not (ahead s k)) → rank s k ≤ p.value
        by (inl x) = omega (arith, rank-ahead s w k page x, a.deep h)
        by (inr x) = omega (arith, rank-behind s k x, a.most k (omega (arith, page.low)) c x)

    -- none is kept, and some reader has each of them before it
    pub rear-nothing : p.value ≡ 0 → (k : ℕ) → T (cached_among files s k) → T (ahead s k)
    rear-nothing e k c = by (side (ahead s k))
      where
        by : T (ahead s k) ⊎ T (not (ahead s k)) → T (ahead s k)
        by (inl x) = x
        by (inr x) = absurd (omega (arith, e, a.most k (omega (arith, (w.cached_in k (and_first (cached s k) _ c)).low)) c x))
