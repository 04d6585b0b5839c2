-- The search for the page of the highest rank, from page to page and from file to file. Assumes nothing.
use Rattle.std.proofs.Common.{◌≡◌, refl, sym, ap, ◌∙◌, Bool, true, false, cond, ℕ, ◌+◌, ◌-◌, ◌*◌, ◌/◌, ◌≤◌, ◌<◌, T, arith}
use native.Mathlib.Decide.{ℕ_discrete, dec_lt}
use borrow.Author.Tests.{eq-eqb, ltb-true, ltb-false}
use lib.Dec.{ltb, eqb→eq}
use Rattle.bits.specs.Map.{bit, last_bit}
use Rattle.bits.proofs.Finds.{Last, last-is}
use Rattle.rules.specs.Pages.{file_of, page_of, cached}
use Rattle.rules.specs.Readers.{reader_at, attached, reads_file}
use Rattle.rules.specs.Valid.{Valid}
use Rattle.rules.specs.UseTimes.{never, ahead}
use Rattle.rules.proofs.laws.Tests.{and_both}
use Rattle.rules.proofs.laws.Cases.{passed}
use Rattle.rules.specs.Ranks.{rank, cached_among}
use Rattle.rules.proofs.orders.LookAheads.{before-is}
use Rattle.rules.proofs.orders.Candidates.{Clear, later-higher}
use Rattle.rules.specs.declared.State.{State}
use Rattle.uses.specs.declared.Pick.{Pick}
use Rattle.uses.specs.Sights.{Ranked}
use Rattle.uses.specs.declared.Queue.{Queue}
use Rattle.uses.specs.Queueing.{Has}
use Rattle.rears.proofs.Rearing.{some-ahead}
use Rattle.order.specs.Searches.{HasShort, higher_of, AllAhead, Raised}
use Rattle.order.proofs.Sweeps.{before-reads, rank_most}

-- ---- a file's pages

-- the last cached one of the first n
module _ (s : State) (f n page : ℕ) (e : page ≡ last_bit s.cached (f * 1024) n) where
  found : Last s.cached (f * 1024) n page
  found = rw e (last-is s.cached (f * 1024) n)

  pub last_low : page ≤ n
  last_low = found.high

  pub last-cached : 0 < page → T (cached s (f * 1024 + page - 1))
  last-cached some = passed _ (eq-eqb (bit s.cached (f * 1024 + page - 1)) 1 (found.found some))

  last-later : (k : ℕ) → T (cached s k) → file_of k ≡ f → page < page_of k → page_of k ≤ n → ⊥
  last-later k c g l u = omega (arith, found.after k (omega arith) (omega arith), eqb→eq (bit s.cached k) 1 c)

-- a cached page of a file of the set
module _ (s : State) (files : ℕ → Bool) (f : ℕ) (o : files f ≡ true) (k : ℕ) (c : T (cached s k)) (g : file_of k ≡ f) where
  among : T (cached_among files s k)
  among = and_both (cached s k) _ c (passed _ (ap files g ∙ o))

  pub is-ahead : AllAhead s files → T (ahead s k)
  is-ahead free = free k among

-- ---- from page to page

module _ (s : State) (files : ℕ → Bool) (f : ℕ) (p : Pick) where
  -- a look starts past the last page
  pub raised-start : Ranked s files p → Raised s files f 1024 p p
  raised-start r = record { page = r; up = omega arith; most = λ k c g l. absurd (omega arith) }

  module _ (n : ℕ) (q : Pick) (a : Raised s files f n p q) where
    -- to an earlier page, where those between have no higher rank
    raised-on : (to : ℕ) (r : Pick) → Ranked s files r → q.value ≤ r.value
        → ((k : ℕ) → T (cached s k) → file_of k ≡ f → to < page_of k → page_of k ≤ n → rank s k ≤ r.value) → Raised s files f to p r
    raised-on to r page up most = record { page = page; up = omega (arith, a.up); most = λ k c g l. by k c g l (dec_lt n (page_of k)) }
      where
        by : (k : ℕ) → T (cached s k) → file_of k ≡ f → to < page_of k → Dec (n < page_of k) → rank s k ≤ r.value
        by k c g l (yes h) = omega (arith, a.most k c g h)
        by k c g l (no h) = most k c g l (omega arith)

    -- to the last cached one of the first n
    pub raised-last : (page : ℕ) → page ≡ last_bit s.cached (f * 1024) n → Raised s files f page p q
    raised-last page e = raised-on page q a.page (omega arith) (λ k c g l u. absurd (last-later s f n page e k c g l u))

    module _ (free : AllAhead s files) (o : files f ≡ true) where
      -- to the first, for no page left can rank higher in no look-ahead
      pub raised-high : never + (n * 8 + f) ≤ q.value → Raised s files f 0 p q
      raised-high h = raised-on 0 q a.page (omega arith) (λ k c g l u. omega (arith, rank_most s k (is-ahead s files f o k c g free), h, g))

      -- to the first, for no reader left is short of one
      pub raised_all : (queue : Queue) → HasShort s.readers f n queue → queue.first ≡ queue.end → Raised s files f 0 p q
      raised_all queue u none-left = raised-on 0 q a.page (omega arith) (λ k c g l m. absurd (none k g m (is-ahead s files f o k c g free)))
        where
          none : (k : ℕ) → file_of k ≡ f → page_of k ≤ n → T (ahead s k) → ⊥
          none k g l h =
              let j = some-ahead s k h in
              let b = before-is (reader_at s j.0) k j.2 in
              let x = u.all j.0 j.1 (rw (← g) (before-reads (reader_at s j.0) k b)) (omega (arith, b.past)) in
              omega (arith, x.1, x.2)

  -- to the nearest reader that is short of the page: this one has the highest rank of those between
  module _ (w : Valid s) (key page to : ℕ) (low : key < 8192) (its : page_of key ≡ page) (own : file_of key ≡ f) (here : T (cached s key)) (q : Pick)
      (a : Raised s files f page p q) (queue : Queue) (short : HasShort s.readers f page queue) (near : (x : ℕ) → Has queue x → x / 16 ≤ to) where
    clear : (k : ℕ) → file_of k ≡ f → to < page_of k → Clear s k key
    clear k g l j u h e r = by (dec_lt (reader_at s j).position page)
      where
        reads : T (reads_file f (reader_at s j))
        reads = and_both (attached (reader_at s j)) _ h (passed _ (eq-eqb (reader_at s j).file f (e ∙ g)))

        by : Dec ((reader_at s j).position < page) → page_of key ≤ (reader_at s j).position
        by (yes m) =
            absurd (omega (arith, near _ (short.all j u reads m)))
        by (no m) = omega arith

    last-highest : (k : ℕ) → T (cached s k) → file_of k ≡ f → to < page_of k → page_of k ≤ page → rank s k ≤ rank s key
    last-highest k c g l u = by (ℕ_discrete (page_of k) page)
      where
        by : Dec (page_of k ≡ page) → rank s k ≤ rank s key
        by (yes q) = let z : k ≡ key = omega arith in rw z (omega arith)
        by (no q) = omega (arith, later-higher s w k key (g ∙ sym own) (omega arith) (clear k g l) low)

    pub raised-higher : files f ≡ true → Raised s files f to p (higher_of s key q)
    raised-higher o = by (ltb q.value (rank s key)) refl
      where
        by : (b : Bool) → ltb q.value (rank s key) ≡ b → Raised s files f to p (cond b (record { key = key; value = rank s key }) q)
        by true e =
            let l = ltb-true q.value (rank s key) e in
            raised-on page q a to (record { key = key; value = rank s key })
            (record { held = λ _. among s files f o key here own; its = λ _. refl }) (omega arith) last-highest
        by false e =
            let l = ltb-false q.value (rank s key) e in
            raised-on page q a to q a.page (omega arith) (λ k c g m u. omega (arith, last-highest k c g m u))

-- ---- from file to file

-- the page kept, if any, is of the set, and no cached page of the set's first n files has a higher rank
pub record Highest (s : State) (files : ℕ → Bool) (n : ℕ) (p : Pick) : Type 0 where
  pub page : Ranked s files p
  pub most : (k : ℕ) → file_of k < n → T (cached_among files s k) → rank s k ≤ p.value
