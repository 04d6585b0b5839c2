-- The steal order of the 1989 rule is the cached pages by falling rank. Assumes nothing.
use mathlib.Core.Path.{◌≡◌, refl, sym, ap, ap₂, ◌∙◌, fun_ext}
use mathlib.Core.Bool.{Bool, true, false, not, ◌&&◌}
use mathlib.Core.List.{◌++◌}
use mathlib.Core.Logic.{◌⊎◌, inl, inr}
use Prim.Native.Nat.{ℕ, ◌+◌, ◌*◌, ◌/◌, ◌≤◌, ◌<◌}
use native.Mathlib.Omega.{arith}
use native.Mathlib.Nat.{le_trans, mul-le-mul_right, div-mul-le_self}
use lib.Dec.{T, leb, ltb, leb→le, nleb→lt}
use Rattle.rules.specs.Lists.{range, only, falling}
use Rattle.rules.specs.Pages.{size, file_of, cached, Page, pages, cached_pages}
use Rattle.rules.specs.Readers.{reader_at}
use Rattle.rules.specs.Valid.{Valid}
use Rattle.rules.specs.UseTimes.{before, steps, between, pruned, sees, time_for, never, use_for, use_key, ahead, seen}
use Rattle.rules.specs.Orders.{place, not_ahead, not_seen, use_time, order1989}
use Rattle.rules.specs.Ranks.{rank}
use Rattle.rules.proofs.laws.Tests.{leq, side, is_true, is_false, not-not, and_first, and_second}
use Rattle.rules.proofs.laws.Members.{All, all-only, only-only, range-in, range_at, each_in, each_at}
use Rattle.rules.proofs.laws.Leasts.{some_mono, some_at, least-le}
use Rattle.rules.proofs.laws.Sorts.{split-falling, alike-falling}
use Rattle.rules.specs.declared.State.{State}
use Rattle.rules.specs.declared.Reader.{Reader}

pub seen-ahead : (s : State) (k : ℕ) → T (seen s k) → T (ahead s k)
unfolding seen ahead sees
seen-ahead s k = some_mono 16 (λ j. sees s (reader_at s j) k) (λ j. before (reader_at s j) k) (λ j h. and_first (before (reader_at s j) k) _ h)

time-small : (s : State) (r : Reader) (k : ℕ) → s.look_ahead ≤ 2000000 → T (sees s r k) → time_for s r k ≤ 4000000
unfolding sees pruned time_for
time-small s r k l h =
    let A : Bool = leb (steps r k) (s.look_ahead / r.pace) in
    let B : Bool = not (pruned s (between s r k)) in
    let rest = and_second (before r k) (A && B) h in
    let near : steps r k ≤ s.look_ahead / r.pace = leb→le (steps r k) (s.look_ahead / r.pace) (and_first A B rest) in
    let a : steps r k * r.pace ≤ s.look_ahead = le_trans (mul-le-mul_right r.pace near) (div-mul-le_self s.look_ahead r.pace) in
    let b : between s r k * s.fetch_time ≤ s.look_ahead = few (between s r k) s.fetch_time s.look_ahead (and_second A B rest) in
    omega arith
  where
    few : (q t n : ℕ) → T (not (ltb 0 t && leb (n / t) q)) → q * t ≤ n
    few q t n = leq 1 t (λ b. T (not (b && leb (n / t) q)) → q * t ≤ n)
        (λ _ h. let m : q ≤ n / t = omega (arith, nleb→lt (n / t) q h) in le_trans (mul-le-mul_right t m) (div-mul-le_self n t))
        (λ z _. let e : t ≡ 0 = omega arith in rw e (omega arith))

use-small : (s : State) (k j : ℕ) → s.look_ahead ≤ 2000000 → T (sees s (reader_at s j) k) → use_for s k j ≤ 64000015
unfolding use_for
use-small s k j l h = rw (is_true (sees s (reader_at s j) k) h) (omega (arith, time-small s (reader_at s j) k l h))

-- a use key is at most 4,000,000 × 16 + 15
pub seen-high : (s : State) (k : ℕ) → s.look_ahead ≤ 2000000 → T (seen s k) → use_key s k ≤ 64000015
unfolding seen use_key
seen-high s k l h =
    let a = some_at 16 (λ j. sees s (reader_at s j) k) h in
    omega (arith, least-le 16 (use_for s k) never a.0 a.1, use-small s k a.0 l a.2)

pub seen-small : (s : State) (k : ℕ) → s.look_ahead ≤ 2000000 → T (seen s k) → use_key s k < never
seen-small s k l h = omega (arith, seen-high s k l h)

pub pages-in : (s : State) → Valid s → All (Page s) (pages s)
unfolding pages
pages-in s w =
    each_in (Page s) (λ f. range (f * 1024) (size s f)) (range 0 8) (range-in (λ f. All (Page s) (range (f * 1024) (size s f))) 0 8 (λ f _ l.
    range-in (Page s) (f * 1024) (size s f) (λ k a b.
    let m = w.sizes_high f in
    let e : k / 1024 ≡ f = omega arith in
    record { low = omega arith; there = rw e (omega arith) })))

pub pages-at : (s : State) (Q : ℕ → Type 0) (k : ℕ) → All Q (pages s) → Page s k → Q k
unfolding pages
pages-at s Q k h p =
    range_at Q (file_of k * 1024) (size s (file_of k)) k
    (range_at (λ f. All Q (range (f * 1024) (size s f))) 0 8 (file_of k) (each_at Q (λ f. range (f * 1024) (size s f)) (range 0 8) h)
    (omega arith) (omega arith))
    (omega arith) (omega arith)

module _ (s : State) (k : ℕ) where
  -- a page of the first stretch
  pub rank-behind : T (not (ahead s k)) → rank s k ≡ 2 * never + place k
  unfolding rank
  rank-behind h = rw (is_false (ahead s k) h)

  -- one of the second
  pub rank-unseen : T (ahead s k) → T (not (seen s k)) → rank s k ≡ never + place k
  unfolding rank
  rank-unseen a h = rw (is_true (ahead s k) a, is_false (seen s k) h)

  -- one of the third
  pub rank-seen : T (seen s k) → rank s k ≡ use_key s k
  unfolding rank
  rank-seen h = rw (is_true (ahead s k) (seen-ahead s k h), is_true (seen s k) h)

module _ (s : State) (w : Valid s) where
  pub rank-ahead : (k : ℕ) → Page s k → T (ahead s k) → rank s k < 2 * never
  rank-ahead k p a = go (side (seen s k))
    where
      go : T (seen s k) ⊎ T (not (seen s k)) → rank s k < 2 * never
      go (inl h) = omega (arith, rank-seen s k h, seen-small s k w.look_high h)
      go (inr h) = omega (arith, rank-unseen s k a h, p.low)

  same-leb : (n a b : ℕ) → leb (n + a) (n + b) ≡ leb a b
  same-leb n a b =
      leq (n + a) (n + b) (λ t. t ≡ leb a b)
      (λ l. leq a b (λ t. true ≡ t) (λ _. refl) (λ m. absurd (omega arith)))
      (λ l. leq a b (λ t. false ≡ t) (λ m. absurd (omega arith)) (λ _. refl))

  behind-part : falling (rank s) (only (λ k. cached s k && not (ahead s k)) (pages s)) ≡ not_ahead s
  unfolding not_ahead
  behind-part =
      alike-falling (rank s) place (λ k. T (cached s k && not (ahead s k)) × Page s k)
      (λ x y p q.
      rw (
        rank-behind s x (and_second (cached s x) (not (ahead s x)) p.0),
        rank-behind s y (and_second (cached s y) (not (ahead s y)) q.0),
      ) (same-leb (2 * never) (place y) (place x)))
      (only (λ k. cached s k && not (ahead s k)) (pages s)) (all-only (λ k. cached s k && not (ahead s k)) (Page s) (pages s) (pages-in s w))

  unseen-part : falling (rank s) (only (λ k. cached s k && (ahead s k && not (seen s k))) (pages s)) ≡ not_seen s
  unfolding not_seen
  unseen-part =
      alike-falling (rank s) place (λ k. T (cached s k && (ahead s k && not (seen s k))) × Page s k)
      (λ x y p q. rw (at x p.0, at y q.0) (same-leb never (place y) (place x)))
      (only (λ k. cached s k && (ahead s k && not (seen s k))) (pages s))
      (all-only (λ k. cached s k && (ahead s k && not (seen s k))) (Page s) (pages s) (pages-in s w))
    where
      at : (k : ℕ) → T (cached s k && (ahead s k && not (seen s k))) → rank s k ≡ never + place k
      at k h =
          let r = and_second (cached s k) (ahead s k && not (seen s k)) h in
          rank-unseen s k (and_first (ahead s k) (not (seen s k)) r) (and_second (ahead s k) (not (seen s k)) r)

  seen-part : falling (rank s) (only (λ k. cached s k && seen s k) (pages s)) ≡ use_time s
  unfolding use_time
  seen-part =
      alike-falling (rank s) (use_key s) (λ k. T (cached s k && seen s k) × Page s k)
      (λ x y p q. rw (rank-seen s x (and_second (cached s x) (seen s x) p.0), rank-seen s y (and_second (cached s y) (seen s y) q.0)) refl)
      (only (λ k. cached s k && seen s k) (pages s)) (all-only (λ k. cached s k && seen s k) (Page s) (pages s) (pages-in s w))

  unseen-test : (c a e : Bool) → ((c && not (not a)) && not e) ≡ (c && (a && not e))
  unseen-test true true e = refl
  unseen-test true false e = refl
  unseen-test false a e = refl

  seen_test : (c a e : Bool) → (T e → T a) → ((c && not (not a)) && not (not e)) ≡ (c && e)
  seen_test true true true h = refl
  seen_test true true false h = refl
  seen_test true false true h = absurd (h tt)
  seen_test true false false h = refl
  seen_test false a e h = refl

  -- the steal order of the 1989 rule is the cached pages by falling rank
  pub steal-ranked : order1989 s ≡ falling (rank s) (cached_pages s)
  unfolding order1989 cached_pages
  steal-ranked =
      sym (first
      ∙ ap₂ ◌++◌ (ap (falling (rank s)) (only-only (cached s) (λ k. not (ahead s k)) (pages s)) ∙ behind-part)
      (ap (falling (rank s)) (only-only (cached s) (λ k. not (not (ahead s k))) (pages s)) ∙ second))
    where
      later : ℕ → Bool
      later k = cached s k && not (not (ahead s k))

      first : falling (rank s) (only (cached s) (pages s))
          ≡ falling (rank s) (only (λ k. not (ahead s k)) (only (cached s) (pages s)))
          ++ falling (rank s) (only (λ k. not (not (ahead s k))) (only (cached s) (pages s)))
      first = split-falling (rank s) (λ k. not (ahead s k)) (λ k. T (cached s k) × Page s k)
          (λ x y p q h n. omega (arith, rank-behind s x h, rank-ahead y q.1 (not-not (ahead s y) n)))
          (only (cached s) (pages s)) (all-only (cached s) (Page s) (pages s) (pages-in s w))

      second : falling (rank s) (only (λ k. cached s k && not (not (ahead s k))) (pages s)) ≡ not_seen s ++ use_time s
      second =
          split-falling (rank s) (λ k. not (seen s k)) (λ k. T (cached s k && not (not (ahead s k))) × Page s k)
          (λ x y p q h n.
          omega (
            arith,
            rank-unseen s x (not-not (ahead s x) (and_second (cached s x) _ p.0)) h,
            rank-seen s y (not-not (seen s y) n),
            seen-small s y w.look_high (not-not (seen s y) n),
          ))
          (only later (pages s)) (all-only later (Page s) (pages s) (pages-in s w))
          ∙ ap₂ ◌++◌
          (ap (falling (rank s))
          (only-only later (λ k. not (seen s k)) (pages s)
          ∙ ap (λ P. only P (pages s)) (fun_ext (λ k. unseen-test (cached s k) (ahead s k) (seen s k))))
          ∙ unseen-part)
          (ap (falling (rank s))
          (only-only later (λ k. not (not (seen s k))) (pages s)
          ∙ ap (λ P. only P (pages s)) (fun_ext (λ k. seen_test (cached s k) (ahead s k) (seen s k) (seen-ahead s k))))
          ∙ seen-part)
