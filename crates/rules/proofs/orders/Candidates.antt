-- Where the heads of the two orders are found: of a file's cached pages with no reader between the last, of a reader's absent pages the first. Assumes nothing.
use mathlib.Core.Path.{◌≡◌, refl, sym, ◌∙◌, subst}
use Rattle.std.specs.declared.option.Option.{Option}
use Rattle.std.specs.declared.option.Option.TheVariants.{Some, None}
use mathlib.Core.Logic.{◌↔◌}
use Prim.Native.Nat.{ℕ, ◌+◌, ◌≤◌, ◌<◌}
use native.Mathlib.Omega.{arith}
use lib.Dec.{T, T_not}
use Rattle.rules.specs.Lists.{head}
use Rattle.rules.specs.Pages.{file_of, page_of}
use Rattle.rules.specs.Readers.{reader_at, attached}
use Rattle.rules.specs.Valid.{Valid}
use Rattle.rules.specs.UseTimes.{before, sees, never, use_for, use_key, ahead, seen}
use Rattle.rules.specs.Orders.{absent, wanted, fetch_order}
use Rattle.rules.proofs.laws.Tests.{less, and_both, and_first, and_second}
use Rattle.rules.proofs.laws.Below.{one_more}
use Rattle.rules.proofs.laws.Leasts.{some_at, some_in}
use Rattle.rules.specs.Ranks.{rank, FirstAbsent, AtLeast, NoneBelow}
use Rattle.rules.proofs.orders.Ranks.{seen-ahead, seen-small}
use Rattle.rules.proofs.orders.LookAheads.{before-is, is-before, sees-before, sees-earlier, seen_by, use-sees, use-least, use-rises, met_by}
use Rattle.rules.proofs.laws.Numbered.{smaller-first, none_in, none_of}
use Rattle.rules.proofs.orders.Distinct.{Stretch, behind, unseen, in_use, stretch, wanted-page, fetch-wanted, fetch-first, fetch-head-is}
use Rattle.rules.specs.declared.State.{State}
use Rattle.rules.specs.declared.Reader.{Reader}

module _ (s : State) (w : Valid s) where
  -- there is nothing to fetch exactly where nothing is wanted
  no-fetch : (head (fetch_order s) ≡ None) ↔ ((k : ℕ) → T (wanted s k) → ⊥)
  unfolding fetch_order
  no-fetch = (none_in s w (wanted s) (wanted-page s w) _ smaller-first (use_key s), none_of s w (wanted s) (wanted-page s w) _ smaller-first (use_key s))

-- ---- the steal order

-- no reader of k's file stands from page k up to the page before i
abbrev pub Clear : State → ℕ → ℕ → Type 0
Clear s k i =
    (j : ℕ) → j < 16 → T (attached (reader_at s j)) → (reader_at s j).file ≡ file_of k → page_of k ≤ (reader_at s j).position
    → page_of i ≤ (reader_at s j).position

module _ (s : State) (w : Valid s) (k i : ℕ) (one-file : file_of k ≡ file_of i) (later : page_of k < page_of i) (clear : Clear s k i) where
  before-earlier : (j : ℕ) → j < 16 → T (before (reader_at s j) i) → T (before (reader_at s j) k)
  before-earlier j l h =
      let r : Reader = reader_at s j in
      let b = before-is r i h in
      is-before r k record {
        here = b.here;
        in_its_file = b.in_its_file ∙ sym one-file;
        past =
            less r.position (page_of k) (λ _. r.position < page_of k) (λ p. p)
            (λ p. absurd (omega (arith, clear j l b.here (b.in_its_file ∙ sym one-file) p, b.past)));
        in_reach = omega (arith, b.in_reach);
      }

  ahead-earlier : T (ahead s i) → T (ahead s k)
  unfolding ahead
  ahead-earlier h =
      let a = some_at 16 (λ j. before (reader_at s j) i) h in
      some_in 16 a.0 (λ j. before (reader_at s j) k) a.1 (before-earlier a.0 a.1 a.2)

  use-earlier : T (seen s i) → T (seen s k) × (use_key s k < use_key s i)
  use-earlier h =
      let m = met_by s w i h in
      let j : ℕ = m.0 in
      let r : Reader = reader_at s j in
      let b = before-earlier j m.1 (sees-before s r i m.2) in
      (seen_by s k j m.1 (sees-earlier s r k i b (omega arith) m.2), omega (arith, m.3, use-least s k j m.1, use-rises s w j k i b later m.2))

  -- of two pages of a file with no reader of it between them, the later has the higher rank
  pub later-higher : i < 8192 → rank s k < rank s i
  later-higher low = go (stretch s w k) (stretch s w i)
    where
      go : Stretch s k → Stretch s i → rank s k < rank s i
      go (in_use a x l) (in_use b y m) = omega (arith, (use-earlier b).1)
      go (in_use a x l) (unseen b m y) = omega arith
      go (in_use a x l) (behind b y) = omega arith
      go (unseen a n x) (in_use b y m) = absurd (T_not (seen s k) n (use-earlier b).0)
      go (unseen a n x) (unseen b m y) = omega arith
      go (unseen a n x) (behind b y) = omega arith
      go (behind a x) (in_use b y m) = absurd (T_not (ahead s k) a (ahead-earlier (seen-ahead s i b)))
      go (behind a x) (unseen b m y) = absurd (T_not (ahead s k) a (ahead-earlier b))
      go (behind a x) (behind b y) = omega arith

-- ---- the fetch order

-- there is one such page
pub absent-one : (s : State) (r : Reader) (k i : ℕ) → FirstAbsent s r k → FirstAbsent s r i → k ≡ i
absent-one s r k i a b =
    let p = before-is r k a.ahead_of in
    let q = before-is r i b.ahead_of in
    less (page_of k) (page_of i) (λ _. k ≡ i) (λ l. absurd (b.first k a.ahead_of l a.lacking))
    (λ l. less (page_of i) (page_of k) (λ _. k ≡ i) (λ m. absurd (a.first i b.ahead_of m b.lacking)) (λ m. omega (arith, p.in_its_file, q.in_its_file)))

module _ (s : State) where
  -- a search starts without slots
  pub none_below : (b : ℕ) → NoneBelow s 0 b
  none_below b j l = absurd (omega arith)

  -- one slot more
  pub slot-below : (m b c : ℕ) → NoneBelow s m b → c ≤ b → (T (attached (reader_at s m)) → AtLeast s c m) → NoneBelow s (m + 1) c
  slot-below m b c a l h =
      one_more (AtLeast s c) m (λ j p k g f. omega (arith, a j p k g f))
      (λ k g f. h (before-is (reader_at s m) k f.ahead_of).here k g f)

  -- the slot's first absent page, once found, is the only one to bound
  pub absent-least : (b j k : ℕ) → FirstAbsent s (reader_at s j) k → b ≤ use_for s k j → AtLeast s b j
  absent-least b j k a l i h c = subst (λ i. b ≤ use_for s i j) (absent-one s (reader_at s j) k i a c) l

  -- a slot's first absent page that has a key is wanted
  pub absent-wanted : (j k : ℕ) → j < 16 → FirstAbsent s (reader_at s j) k → use_for s k j < never → T (wanted s k)
  absent-wanted j k l a h = and_both (seen s k) _ (seen_by s k j l (use-sees s k j h)) a.lacking

module _ (s : State) (w : Valid s) where
  -- the head of the fetch order is, for the slot that its use key is of, the first absent page
  pub first-wanted : (k : ℕ) → head (fetch_order s) ≡ Some k
      → (j : ℕ) × (j < 16) × T (sees s (reader_at s j) k) × (use_key s k ≡ use_for s k j) × FirstAbsent s (reader_at s j) k
  first-wanted k e = (m.0, m.1, m.2, m.3, record { ahead_of = sees-before s r k m.2; lacking = and_second (seen s k) _ h; first = first })
    where
      h : T (wanted s k)
      h = fetch-wanted s w k e

      m : (j : ℕ) × (j < 16) × T (sees s (reader_at s j) k) × (use_key s k ≡ use_for s k j)
      m = met_by s w k (and_first (seen s k) _ h)

      r : Reader
      r = reader_at s m.0

      first : (i : ℕ) → T (before r i) → page_of i < page_of k → T (absent s i) → ⊥
      first i b l a =
          let g : T (sees s r i) = sees-earlier s r i k b (omega arith) m.2 in
          let x : T (wanted s i) = and_both (seen s i) _ (seen_by s i m.0 m.1 g) a in
          omega (arith, m.3, fetch-first s w k e i x, use-least s i m.0 m.1, use-rises s w m.0 i k b l m.2)

  -- a wanted page is the head if no slot's first absent page has a key below its use key
  pub best-wanted : (v b : ℕ) → T (wanted s v) → use_key s v ≤ b → NoneBelow s 16 b → head (fetch_order s) ≡ Some v
  best-wanted v b h l a = go (head (fetch_order s)) refl
    where
      go : (o : Option ℕ) → head (fetch_order s) ≡ o → head (fetch_order s) ≡ Some v
      go None e = absurd ((no-fetch s w).0 e v h)
      go (Some k) e = let x = first-wanted k e in fetch-head-is s w v h (λ i g. omega (arith, fetch-first s w k e i g, x.3, a x.0 x.1 k x.2 x.4))

  -- there is no head where no slot sees its first absent page
  pub no-wanted : NoneBelow s 16 never → head (fetch_order s) ≡ None
  no-wanted a = go (head (fetch_order s)) refl
    where
      go : (o : Option ℕ) → head (fetch_order s) ≡ o → o ≡ None
      go None e = refl
      go (Some k) e =
          let x = first-wanted k e in
          absurd (omega (arith, x.3, a x.0 x.1 k x.2 x.4, seen-small s k w.look_high (and_first (seen s k) _ (fetch-wanted s w k e))))
