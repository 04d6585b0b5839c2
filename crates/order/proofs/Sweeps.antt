-- A page's rank by a pass over the readers that are short of it. Assumes nothing.
use Rattle.std.proofs.Common.{◌≡◌, sym, ap, ◌∙◌, not, List, ◌⊎◌, inl, inr, ℕ, min, ◌+◌, ◌-◌, ◌%◌, ◌≤◌, ◌<◌, T, arith, slice_index}
use native.Mathlib.Decide.{ℕ_discrete, dec_lt}
use borrow.Author.Tests.{eq-eqb}
use lib.Dec.{T_not, eqb→eq}
use Rattle.rules.specs.Pages.{file_of, page_of}
use Rattle.rules.specs.Readers.{reader_at, reader_in, attached, reads_file}
use Rattle.rules.specs.UseTimes.{sees, never, use_for, ahead, seen}
use Rattle.rules.specs.Orders.{place}
use Rattle.rules.specs.Valid.{Valid}
use Rattle.rules.proofs.laws.Tests.{side, is_true, is_false, and_both, and_first, and_second}
use Rattle.rules.proofs.laws.Cases.{passed}
use Rattle.rules.proofs.calls.Valids.{placed_at}
use Rattle.rules.proofs.orders.LookAheads.{before-is, sees-before, seen_by, use-high, used-by, use-least}
use Rattle.rules.specs.Ranks.{rank, Before}
use Rattle.rules.proofs.orders.Ranks.{seen-small, rank-unseen, rank-seen}
use Rattle.rules.specs.declared.State.{State}
use Rattle.rules.specs.declared.Reader.{Reader}
use Rattle.uses.specs.Seats.{Seated}
use Rattle.uses.specs.Sights.{lower}
use Rattle.uses.specs.declared.Queue.{Queue}
use Rattle.uses.specs.declared.Seats.{Seats}
use Rattle.uses.specs.Queues.{PositionsFit, queue_number}
use Rattle.uses.specs.Queueing.{Has, Queued, Shortened}
use Rattle.order.specs.Searches.{HasShort, AllShort}

-- ---- who is short of a page

-- a reader of file f is there, and the file is its own
reads_here : (f : ℕ) (r : Reader) → T (reads_file f r) → T (attached r)
reads_here f r h = and_first (attached r) _ h

reads-file : (f : ℕ) (r : Reader) → T (reads_file f r) → r.file ≡ f
reads-file f r h = eqb→eq _ _ (and_second (attached r) _ h)

-- who has page k before it reads its file
pub before-reads : (r : Reader) (k : ℕ) → Before r k → T (reads_file (file_of k) r)
before-reads r k q = and_both (attached r) _ q.here (passed _ (eq-eqb r.file (file_of k) q.in_its_file))

-- in a valid state no reader stands past page 1,024
pub positions-fit : (s : State) → Valid s → (f : ℕ) → PositionsFit s.readers f
positions-fit s w f j h =
    let p = placed_at s w j (reads_here f (reader_at s j) h) in
    omega (arith, p.position_in, p.last_high, w.sizes_high (reader_at s j).file)

module _ (readers : List Reader) (f : ℕ) where
  -- all of the file are queued
  pub has-all : (n : ℕ) (q : Queue) → Queued readers f 16 q → HasShort readers f n q
  has-all n q a = record { sits = a.sits; all = λ j u h p. a.all j u u h }

  -- of those short of a page all that are short of an earlier one
  pub has-fewer : (n page : ℕ) (q : Queue) → page ≤ n → HasShort readers f n q → HasShort readers f page q
  has-fewer n page q l a = record { sits = a.sits; all = λ j u h p. a.all j u h (omega arith) }

  -- those that are not short of the page are taken off
  pub has-shortened : (n page : ℕ) (q r : Queue) → page ≤ n → Shortened q page r → HasShort readers f n q → HasShort readers f page r
  has-shortened n page q r m t a = record {
    sits = λ x (i, l, u, e). a.sits x (i, omega (arith, l, t.begins), omega (arith, u, t.low), rw t.same at e);
    all = λ j u h p. by j u p (a.all j u h (omega arith));
  }
    where
      by : (j : ℕ) → j < 16 → (reader_in readers j).position < page → Has q (queue_number readers j) → Has r (queue_number readers j)
      by j b p (i, l, u, e) = go (dec_lt i r.end) (rw (← t.same) at e)
        where
          go : Dec (i < r.end) → slice_index r.numbers i ≡ queue_number readers j → Has r (queue_number readers j)
          go (yes h) d = (i, omega (arith, l, t.begins), h, d)
          go (no h) d = absurd (omega (arith, d, t.past i (omega arith) u))

-- so each one left is short of it
pub all-short : (page : ℕ) (q r : Queue) → Shortened q page r → AllShort r page
all-short page q r t x (i, l, u, e) =
    omega (arith, e, r.rising i (r.end - 1) l (omega arith) (omega arith), t.short (omega arith))

-- a reader of the queue, as the seats have it
module _ (s : State) (w : Valid s) (seats : Seats) (a : Seated s.readers 16 seats) (f page : ℕ) (q : Queue) (p : HasShort s.readers f page q)
    (short : AllShort q page) (x : ℕ) (in_queue : Has q x) where
  abbrev slot : ℕ
  slot = x % 16

  here : T (attached (reader_at s slot))
  here = reads_here f (reader_at s slot) (p.sits x in_queue).0

  pub last-is : slice_index seats.lasts slot ≡ (reader_at s slot).last
  last-is = a.reach slot (omega arith) here

  pub pace_is : slice_index seats.paces slot ≡ (reader_at s slot).pace
  pace_is = a.pace slot (omega arith) here

  -- the page and those behind it, up to its last one, are ahead of it
  pub stands-before : (k : ℕ) → file_of k ≡ f → page ≤ page_of k → page_of k ≤ slice_index seats.lasts slot → Before (reader_at s slot) k
  stands-before k g m v = record {
    here = here;
    in_its_file = reads-file f (reader_at s slot) (p.sits x in_queue).0 ∙ sym g;
    past = omega (arith, (p.sits x in_queue).1, short x in_queue);
    in_reach = omega (arith, last-is);
  }

-- ---- ranks

module _ (s : State) (k : ℕ) where
  -- a page ahead of a reader
  pub rank_most : T (ahead s k) → rank s k ≤ never + place k
  rank_most a = go (side (seen s k))
    where
      go : T (seen s k) ⊎ T (not (seen s k)) → rank s k ≤ never + place k
      go (inl h) = omega (arith, rank-seen s k h, use-high s k)
      go (inr h) = omega (arith, rank-unseen s k a h)

-- ---- the pass

-- top is no lower than page k's rank, and no higher than what some of the slots, those that are Of, leave of it
pub record Swept (s : State) (k : ℕ) (Of : ℕ → Type 0) (top : ℕ) : Type 0 where
  pub bound : rank s k ≤ top
  pub high : top ≤ never + place k
  pub used : (j : ℕ) → Of j → j < 16 → T (sees s (reader_at s j) k) → top ≤ use_for s k j

-- slot j stands in the queue from place `at` on
abbrev pub Asked : List ℕ → ℕ → ℕ → ℕ → Type 0
Asked queue at end j = (i : ℕ) × (at ≤ i) × (i < end) × (slice_index queue i % 16 ≡ j)

module _ (s : State) (k : ℕ) (queue : List ℕ) (end : ℕ) where
  -- none is asked
  pub swept_none : T (ahead s k) → Swept s k (Asked queue end end) (never + place k)
  swept_none a = record { bound = rank_most s k a; high = omega arith; used = λ j o. absurd (omega (arith, o.1, o.2)) }

  module _ (from at top : ℕ) (down : from ≡ at + 1) (a : Swept s k (Asked queue from end) top) where
    -- one more, and what it leaves
    swept-one : (next : ℕ) → rank s k ≤ next → next ≤ top
        → (T (sees s (reader_at s (slice_index queue at % 16)) k) → next ≤ use_for s k (slice_index queue at % 16))
        → Swept s k (Asked queue at end) next
    swept-one next l u h = record { bound = l; high = omega (arith, a.high); used = λ j o m g. by j o m g (ℕ_discrete o.0 at) }
      where
        by : (j : ℕ) (o : Asked queue at end j) → j < 16 → T (sees s (reader_at s j) k) → Dec (o.0 ≡ at) → next ≤ use_for s k j
        by j (i, x, y, e) m g (yes z) =
            let q : slice_index queue at % 16 ≡ j = ap (λ i. slice_index queue i % 16) (sym z) ∙ e in
            rw q at (h (rw q g))
        by j (i, x, y, e) m g (no z) = omega (arith, a.used j (i, omega arith, y, e) m g)

    -- it has the page past its last one
    pub swept-past : ((reader_at s (slice_index queue at % 16)).last < page_of k) → Swept s k (Asked queue at end) top
    swept-past l =
        swept-one top a.bound (omega arith)
        (λ g. let r = reader_at s (slice_index queue at % 16) in absurd (omega (arith, l, (before-is r k (sees-before s r k g)).in_reach)))

    -- it has the page before it
    pub swept-more : (next : ℕ) → next ≡ lower s k (slice_index queue at % 16) top → Swept s k (Asked queue at end) next
    swept-more next e = go (side (sees s (reader_at s j) k))
      where
        j : ℕ
        j = slice_index queue at % 16

        go : T (sees s (reader_at s j) k) ⊎ T (not (sees s (reader_at s j) k)) → Swept s k (Asked queue at end) next
        go (inl h) =
            let f : next ≡ min (use_for s k j) top = rw (is_true (sees s (reader_at s j) k) h) at e in
            let b : rank s k ≤ use_for s k j =
            omega (arith, rank-seen s k (seen_by s k j (omega arith) h), use-least s k j (omega arith)) in
            swept-one next (omega (arith, a.bound)) (omega arith) (λ _. omega arith)
        go (inr h) =
            let f : next ≡ top = rw (is_false (sees s (reader_at s j) k) h) at e in
            swept-one next (omega (arith, a.bound)) (omega arith) (λ g. absurd (T_not (sees s (reader_at s j) k) h g))

-- all are asked that are short of the page
pub swept_all : (s : State) (k : ℕ) (q : Queue) (at top : ℕ) → at ≤ q.first → Valid s → T (ahead s k)
    → HasShort s.readers (file_of k) (page_of k) q → Swept s k (Asked q.numbers at q.end) top → top ≡ rank s k
swept_all s k q at top u w b p a = go (side (seen s k))
  where
    asked : (j : ℕ) → j < 16 → Before (reader_at s j) k → Asked q.numbers at q.end j
    asked j l h =
        let x = p.all j l (before-reads (reader_at s j) k h) h.past in
        (x.0, omega (arith, x.1), x.2, omega (arith, x.3))

    go : T (seen s k) ⊎ T (not (seen s k)) → top ≡ rank s k
    go (inl h) =
        let m = used-by s k (seen-small s k w.look_high h) in
        let o = before-is (reader_at s m.0) k (sees-before s (reader_at s m.0) k m.2) in
        omega (arith, a.bound, rank-seen s k h, m.3, a.used m.0 (asked m.0 m.1 o) m.1 m.2)
    go (inr h) = omega (arith, a.bound, rank-unseen s k b h, a.high)
