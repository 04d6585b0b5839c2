-- No two pages have one rank or one use key, so each order is one of packed numbers, and a search finds its head. Assumes nothing.
use mathlib.Core.Path.{◌≡◌, sym, ap, ◌∙◌, subst}
use mathlib.Core.Bool.{Bool, not}
use mathlib.Core.List.{map}
use Rattle.std.specs.declared.option.Option.TheVariants.{Some, None}
use mathlib.Core.Logic.{◌⊎◌, inl, inr, ◌↔◌}
use Prim.Native.Nat.{ℕ, ◌+◌, ◌-◌, ◌*◌, ◌%◌, ◌≤◌, ◌<◌}
use native.Mathlib.Omega.{arith}
use lib.Dec.{T, leb, leb→le, le→leb}
use Rattle.rules.specs.Lists.{only, falling, rising, head}
use Rattle.rules.specs.Pages.{file_of, page_of, cached, Page, pages, cached_pages}
use Rattle.rules.specs.Readers.{reader_at}
use Rattle.rules.specs.Valid.{Valid}
use Rattle.rules.specs.UseTimes.{sees, time_for, seat, never, use_key, ahead, seen}
use Rattle.rules.specs.Orders.{place, order1989, wanted, fetch_order}
use Rattle.rules.proofs.laws.Tests.{less, side, and_first, sixteen}
use Rattle.rules.proofs.laws.Members.{only-only}
use Rattle.rules.proofs.laws.Sorts.{by-falling, only-sorted}
use Rattle.rules.proofs.calls.Valids.{placed_at}
use Rattle.rules.specs.Ranks.{rank, cached_among, victim_among, pack}
use Rattle.rules.proofs.orders.Ranks.{seen-high, seen-small, rank-behind, rank-unseen, rank-seen, steal-ranked}
use Rattle.rules.proofs.orders.LookAheads.{before-is, sees-before, time-rises, use-for, seen-page, met_by, use-positive}
use Rattle.rules.proofs.laws.Numbered.{larger-first, smaller-first, first-in, first_of, first-is, none_in, none_of, by-sort}
use Rattle.rules.specs.declared.State.{State}
use Rattle.rules.specs.declared.Reader.{Reader}

-- a seat is one slot's
seat-one : (u i j : ℕ) → u < 16 → i < 16 → j < 16 → (i + 16 - u) % 16 ≡ (j + 16 - u) % 16 → i ≡ j
seat-one u i j lu li lj e = less i u (λ _. i ≡ j)
    (λ a. less j u (λ _. i ≡ j) (λ b. omega (arith, low i a, low j b)) (λ b. omega (arith, low i a, high j b lj)))
    (λ a. less j u (λ _. i ≡ j) (λ b. omega (arith, high i a li, low j b)) (λ b. omega (arith, high i a li, high j b lj)))
  where
    low : (i : ℕ) → i < u → (i + 16 - u) % 16 ≡ i + 16 - u
    low i a = (sixteen (i + 16 - u) 0 (i + 16 - u) (omega arith) (omega arith)).1

    high : (i : ℕ) → u ≤ i → i < 16 → (i + 16 - u) % 16 ≡ i - u
    high i a l = (sixteen (i + 16 - u) 1 (i - u) (omega arith) (omega arith)).1

module _ (s : State) (w : Valid s) where
  -- two pages that a reader sees at one time are one
  same-time : (j k i : ℕ) → T (sees s (reader_at s j) k) → T (sees s (reader_at s j) i) → time_for s (reader_at s j) k ≡ time_for s (reader_at s j) i → k ≡ i
  same-time j k i a b e =
      let r : Reader = reader_at s j in
      let p = before-is r k (sees-before s r k a) in
      let q = before-is r i (sees-before s r i b) in
      let one : 1 ≤ r.pace = (placed_at s w j p.here).pace_low in
      less (page_of k) (page_of i) (λ _. k ≡ i) (λ l. absurd (omega (arith, time-rises s r k i one p.past l)))
      (λ l.
      less (page_of i) (page_of k) (λ _. k ≡ i) (λ m. absurd (omega (arith, time-rises s r i k one q.past m)))
      (λ m. omega (arith, p.in_its_file, q.in_its_file)))

  -- no two pages have one use key
  pub use-one : (k i : ℕ) → T (seen s k) → T (seen s i) → use_key s k ≡ use_key s i → k ≡ i
  use-one k i a b e =
      let m = met_by s w k a in
      let n = met_by s w i b in
      let x = use-for s k m.0 m.2 in
      let y = use-for s i n.0 n.2 in
      let seats : seat s m.0 ≡ seat s n.0 = omega (arith, m.3, n.3) in
      let times : time_for s (reader_at s m.0) k ≡ time_for s (reader_at s n.0) i = omega (arith, m.3, n.3) in
      let slot : m.0 ≡ n.0 = seat-one s.turn m.0 n.0 w.turn_high m.1 n.1 seats in
      same-time n.0 k i (subst (λ j. T (sees s (reader_at s j) k)) slot m.2) n.2
      (subst (λ j. time_for s (reader_at s j) k ≡ time_for s (reader_at s n.0) i) slot times)

-- where a page stands in the steal order, and its rank there
pub data Stretch (s : State) (k : ℕ) : Type 0 where
  behind : T (not (ahead s k)) → rank s k ≡ 2 * never + place k → Stretch s k
  unseen : T (ahead s k) → T (not (seen s k)) → rank s k ≡ never + place k → Stretch s k
  in_use : T (seen s k) → rank s k ≡ use_key s k → use_key s k < never → Stretch s k

place-one : (k i : ℕ) → k < 8192 → i < 8192 → place k ≡ place i → k ≡ i
place-one k i a b e = omega arith

module _ (s : State) (w : Valid s) where
  -- every page stands in one of the three
  pub stretch : (k : ℕ) → Stretch s k
  stretch k = go (side (ahead s k)) (side (seen s k))
    where
      go : T (ahead s k) ⊎ T (not (ahead s k)) → T (seen s k) ⊎ T (not (seen s k)) → Stretch s k
      go _ (inl h) = in_use h (rank-seen s k h) (seen-small s k w.look_high h)
      go (inl a) (inr h) = unseen a h (rank-unseen s k a h)
      go (inr a) (inr h) = behind a (rank-behind s k a)

  -- a rank is at least 16
  pub rank-positive : (k : ℕ) → 16 ≤ rank s k
  rank-positive k = go (stretch k)
    where
      go : Stretch s k → 16 ≤ rank s k
      go (behind a x) = omega arith
      go (unseen a n x) = omega arith
      go (in_use a x l) = omega (arith, use-positive s w k a)

  -- a rank below `never` is a use key, and far below it
  pub rank-far : (k : ℕ) → rank s k < never → rank s k ≤ 64000015
  rank-far k l = go (stretch k)
    where
      go : Stretch s k → rank s k ≤ 64000015
      go (behind a x) = absurd (omega arith)
      go (unseen a n x) = absurd (omega arith)
      go (in_use a x m) = omega (arith, x, seen-high s k w.look_high a)

  -- no two pages have one rank
  pub rank-one : (k i : ℕ) → Page s k → Page s i → rank s k ≡ rank s i → k ≡ i
  rank-one k i p q e = go (stretch k) (stretch i)
    where
      go : Stretch s k → Stretch s i → k ≡ i
      go (in_use a x l) (in_use b y m) = use-one s w k i a b (omega arith)
      go (unseen a n x) (unseen b m y) = place-one k i p.low q.low (omega arith)
      go (behind a x) (behind b y) = place-one k i p.low q.low (omega arith)
      go (in_use a x l) (unseen b m y) = absurd (omega arith)
      go (in_use a x l) (behind b y) = absurd (omega arith)
      go (unseen a n x) (in_use b y m) = absurd (omega arith)
      go (unseen a n x) (behind b y) = absurd (omega (arith, p.low))
      go (behind a x) (in_use b y m) = absurd (omega arith)
      go (behind a x) (unseen b m y) = absurd (omega (arith, q.low))

  -- ---- the steal order

  cached-one : (k i : ℕ) → T (cached s k) → T (cached s i) → rank s k ≡ rank s i → k ≡ i
  cached-one k i a b = rank-one k i (w.cached_in k a) (w.cached_in i b)

  -- what code does: pack, sort the numbers, larger first, and take the keys off
  pub steal-by-sort : order1989 s ≡ map (λ n. n % 8192) (falling (λ n. n) (map (pack (rank s)) (cached_pages s)))
  unfolding cached_pages
  steal-by-sort = steal-ranked s w ∙ by-sort s w (cached s) w.cached_in _ larger-first (rank s) cached-one

  -- ---- the page to give up, among the files of a set

  module _ (files : ℕ → Bool) where
    among_in : (k : ℕ) → T (cached_among files s k) → Page s k
    among_in k h = w.cached_in k (and_first (cached s k) _ h)

    among_one : (k i : ℕ) → T (cached_among files s k) → T (cached_among files s i) → rank s k ≡ rank s i → k ≡ i
    among_one k i a b = rank-one k i (among_in k a) (among_in i b)

    -- it is the first of the set's cached pages by rank
    among-ranked : victim_among files s ≡ head (falling (rank s) (only (cached_among files s) (pages s)))
    unfolding victim_among cached_pages
    among-ranked =
        ap (λ l. head (only (λ k. files (file_of k)) l)) (steal-ranked s w)
        ∙ ap head (only-sorted (λ x y. leb (rank s y) (rank s x)) (by-falling (rank s)) (λ k. files (file_of k)) (only (cached s) (pages s)))
        ∙ ap (λ l. head (falling (rank s) l)) (only-only (cached s) (λ k. files (file_of k)) (pages s))

    -- it has the largest rank
    pub among-top : (v : ℕ) → victim_among files s ≡ Some v → (k : ℕ) → T (cached_among files s k) → rank s k ≤ rank s v
    among-top v e k h = leb→le (rank s k) (rank s v) (first_of s w (cached_among files s) among_in _ larger-first (rank s) v (sym among-ranked ∙ e) k h)

    -- a cached page of the set with the largest rank is the one
    pub head-is : (v : ℕ) → T (cached_among files s v) → ((k : ℕ) → T (cached_among files s k) → rank s k ≤ rank s v) → victim_among files s ≡ Some v
    head-is v c top =
        among-ranked
        ∙ first-is s w (cached_among files s) among_in _ larger-first (rank s) among_one v c (λ k h. le→leb (rank s k) (rank s v) (top k h))

    -- there is none exactly where the set has no cached page
    pub among_none : (victim_among files s ≡ None) ↔ ((k : ℕ) → T (cached_among files s k) → ⊥)
    among_none = (
      λ e. none_in s w (cached_among files s) among_in _ larger-first (rank s) (sym among-ranked ∙ e),
      λ h. among-ranked ∙ none_of s w (cached_among files s) among_in _ larger-first (rank s) h,
    )

  -- ---- the fetch order

  -- a wanted page is a page of a file
  pub wanted-page : (k : ℕ) → T (wanted s k) → Page s k
  wanted-page k h = seen-page s w k (and_first (seen s k) _ h)

  wanted-one : (k i : ℕ) → T (wanted s k) → T (wanted s i) → use_key s k ≡ use_key s i → k ≡ i
  wanted-one k i a b = use-one s w k i (and_first (seen s k) _ a) (and_first (seen s i) _ b)

  -- what code does: pack, sort the numbers, smaller first, and take the keys off
  pub fetch-by-sort : fetch_order s ≡ map (λ n. n % 8192) (rising (λ n. n) (map (pack (use_key s)) (only (wanted s) (pages s))))
  unfolding fetch_order
  fetch-by-sort = by-sort s w (wanted s) wanted-page _ smaller-first (use_key s) wanted-one

  -- the fetch order's head is wanted
  pub fetch-wanted : (v : ℕ) → head (fetch_order s) ≡ Some v → T (wanted s v)
  unfolding fetch_order
  fetch-wanted = first-in s w (wanted s) wanted-page _ smaller-first (use_key s)

  -- the fetch order's head has the smallest use key
  pub fetch-first : (v : ℕ) → head (fetch_order s) ≡ Some v → (k : ℕ) → T (wanted s k) → use_key s v ≤ use_key s k
  unfolding fetch_order
  fetch-first v e k h = leb→le (use_key s v) (use_key s k) (first_of s w (wanted s) wanted-page _ smaller-first (use_key s) v e k h)

  -- a wanted page of the smallest use key is the fetch order's head
  pub fetch-head-is : (v : ℕ) → T (wanted s v) → ((k : ℕ) → T (wanted s k) → use_key s v ≤ use_key s k) → head (fetch_order s) ≡ Some v
  unfolding fetch_order
  fetch-head-is v h top = first-is s w (wanted s) wanted-page _ smaller-first (use_key s) wanted-one v h (λ k g. le→leb (use_key s v) (use_key s k) (top k g))
