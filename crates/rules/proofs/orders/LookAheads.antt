-- What a reader has before it and what it sees, page by page. Assumes nothing.
use mathlib.Core.Path.{◌≡◌, ap, subst}
use mathlib.Core.Bool.{Bool, not, cond, ◌&&◌}
use mathlib.Core.Logic.{◌⊎◌, inl, inr}
use Prim.Native.Nat.{ℕ, zero, suc, ◌+◌, ◌-◌, ◌*◌, ◌/◌, ◌≤◌, ◌<◌}
use native.Mathlib.Omega.{arith}
use native.Mathlib.Nat.{mul-pos, mul-le-mul_right, mul-lt-mul_of_pos_right}
use lib.Dec.{T, T_not, not_T, leb, ltb, eqb, leb→le, le→leb, lt→ltb, ltb→lt, eqb→eq, eqb_refl}
use Rattle.rules.specs.Pages.{size, file_of, page_of, Page}
use Rattle.rules.specs.Readers.{reader_at, attached}
use Rattle.rules.specs.Valid.{Valid}
use Rattle.rules.specs.UseTimes.{before, steps, missing, between, pruned, sees, time_for, seat, never, use_for, use_key, seen}
use Rattle.rules.specs.Ranks.{Before}
use Rattle.rules.proofs.laws.Tests.{less, side, is_true, is_false, and_both, and_first, and_second}
use Rattle.rules.proofs.laws.Leasts.{some_at, some_in, least-far, least-le, least-met}
use Rattle.rules.proofs.calls.Valids.{placed_at}
use Rattle.rules.proofs.orders.Ranks.{seen-small}
use Rattle.rules.specs.declared.State.{State}
use Rattle.rules.specs.declared.Reader.{Reader}

-- ---- what a reader has before it

module _ (r : Reader) (k : ℕ) where
  -- what the reader has before it has these parts
  pub before-is : T (before r k) → Before r k
  unfolding before
  before-is h =
      let c = leb (page_of k) r.last in
      let b = ltb r.position (page_of k) && c in
      let a = eqb r.file (file_of k) && b in
      let ha = and_second (attached r) a h in
      let hb = and_second (eqb r.file (file_of k)) b ha in
      record {
        here = and_first (attached r) a h;
        in_its_file = eqb→eq _ _ (and_first (eqb r.file (file_of k)) b ha);
        past = ltb→lt _ _ (and_first (ltb r.position (page_of k)) c hb);
        in_reach = leb→le _ _ (and_second (ltb r.position (page_of k)) c hb);
      }

  -- what has these parts the reader has before it
  pub is-before : Before r k → T (before r k)
  unfolding before
  is-before b =
      and_both (attached r) _ b.here
      (and_both (eqb r.file (file_of k)) _ (subst (λ f. T (eqb r.file f)) b.in_its_file (eqb_refl r.file))
      (and_both (ltb r.position (page_of k)) _ (lt→ltb _ _ b.past) (le→leb _ _ b.in_reach)))

-- what a reader sees it has before it
pub sees-before : (s : State) (r : Reader) (k : ℕ) → T (sees s r k) → T (before r k)
unfolding sees
sees-before s r k h = and_first (before r k) _ h

-- ---- times rise along a look-ahead

missing-one : (s : State) (f c i : ℕ) → missing s f c i ≤ missing s f c (suc i)
unfolding missing
missing-one s f c i = omega arith

missing-more : (s : State) (f c n m : ℕ) → missing s f c n ≤ missing s f c (m + n)
missing-more s f c n zero = let e : missing s f c (0 + n) ≡ missing s f c n = ap (missing s f c) (omega arith) in omega arith
missing-more s f c n (suc m) =
    let e : missing s f c (suc m + n) ≡ missing s f c (suc (m + n)) = ap (missing s f c) (omega arith) in
    omega (arith, missing-one s f c (m + n), missing-more s f c n m)

pub pruned-rises : (s : State) (q m : ℕ) → q ≤ m → T (pruned s q) → T (pruned s m)
unfolding pruned
pruned-rises s q m l h =
    let n : ℕ = s.look_ahead / s.fetch_time in
    and_both (ltb 0 s.fetch_time) _ (and_first (ltb 0 s.fetch_time) _ h)
    (le→leb n m (omega (arith, leb→le n q (and_second (ltb 0 s.fetch_time) _ h))))

-- a page ahead has a time above 0
time-positive : (s : State) (r : Reader) (k : ℕ) → 1 ≤ r.pace → r.position < page_of k → 0 < time_for s r k
unfolding time_for
time-positive s r k w b = let p : 0 < steps r k * r.pace = mul-pos (omega arith) w in omega arith

module _ (s : State) (r : Reader) (k i : ℕ) where
  -- a later page has as many missing before it, or more
  between-rises : page_of k ≤ page_of i → between s r k ≤ between s r i
  between-rises l =
      let n : ℕ = steps r k - 1 in
      let m : ℕ = steps r i - 1 in
      let e : missing s r.file r.position (m - n + n) ≡ missing s r.file r.position m = ap (missing s r.file r.position) (omega arith) in
      omega (arith, missing-more s r.file r.position n (m - n))

  -- a later page has a later time
  pub time-rises : 1 ≤ r.pace → r.position < page_of k → page_of k < page_of i → time_for s r k < time_for s r i
  unfolding time_for
  time-rises w b l =
      let a : steps r k * r.pace < steps r i * r.pace = mul-lt-mul_of_pos_right (omega arith) w in
      let q : between s r k * s.fetch_time ≤ between s r i * s.fetch_time = mul-le-mul_right s.fetch_time (between-rises (omega arith)) in
      omega arith

  -- a reader that sees a page sees every earlier one that it has before it
  pub sees-earlier : T (before r k) → page_of k ≤ page_of i → T (sees s r i) → T (sees s r k)
  unfolding sees
  sees-earlier b l h =
      let n : ℕ = s.look_ahead / r.pace in
      let C : Bool = not (pruned s (between s r i)) in
      let rest = and_second (before r i) (leb (steps r i) n && C) h in
      let near : steps r i ≤ n = leb→le (steps r i) n (and_first (leb (steps r i) n) C rest) in
      and_both (before r k) _ b
      (and_both (leb (steps r k) n) _ (le→leb (steps r k) n (omega arith))
      (not_T (pruned s (between s r k)) (λ c.
      T_not (pruned s (between s r i)) (and_second (leb (steps r i) n) C rest) (pruned-rises s (between s r k) (between s r i) (between-rises l) c))))

-- ---- use keys

-- the key of a slot that sees the page
pub use-for : (s : State) (k j : ℕ) → T (sees s (reader_at s j) k) → use_for s k j ≡ time_for s (reader_at s j) k * 16 + seat s j
unfolding use_for
use-for s k j h = ap (λ b. cond b (time_for s (reader_at s j) k * 16 + seat s j) never) (is_true (sees s (reader_at s j) k) h)

-- a slot whose key is below never sees the page
pub use-sees : (s : State) (k j : ℕ) → use_for s k j < never → T (sees s (reader_at s j) k)
unfolding use_for
use-sees s k j l = go (side (sees s (reader_at s j) k))
  where
    go : T (sees s (reader_at s j) k) ⊎ T (not (sees s (reader_at s j) k)) → T (sees s (reader_at s j) k)
    go (inl h) = h
    go (inr h) = absurd (omega (arith, ap (λ b. cond b (time_for s (reader_at s j) k * 16 + seat s j) never) (is_false (sees s (reader_at s j) k) h)))

-- a use key is at most each slot's
pub use-least : (s : State) (k j : ℕ) → j < 16 → use_key s k ≤ use_for s k j
unfolding use_key
use-least s k j l = least-le 16 (use_for s k) never j l

-- a use key is at most `never`
pub use-high : (s : State) (k : ℕ) → use_key s k ≤ never
unfolding use_key
use-high s k = least-far 16 (use_for s k) never

-- the slot that a use key is of
pub used-by : (s : State) (k : ℕ) → use_key s k < never → (j : ℕ) × (j < 16) × T (sees s (reader_at s j) k) × (use_key s k ≡ use_for s k j)
unfolding use_key
used-by s k l = let m = least-met 16 (use_for s k) never l in (m.0, m.1, use-sees s k m.0 (omega (arith, m.2)), m.2)

-- a page that a slot sees is in a look-ahead
pub seen_by : (s : State) (k j : ℕ) → j < 16 → T (sees s (reader_at s j) k) → T (seen s k)
unfolding seen
seen_by s k j l h = some_in 16 j (λ j. sees s (reader_at s j) k) l h

-- a page is in a look-ahead where its use key is below `never`
pub seen-used : (s : State) (k : ℕ) → s.look_ahead ≤ 2000000 → seen s k ≡ ltb (use_key s k) never
seen-used s k w =
    less (use_key s k) never (λ b. seen s k ≡ b)
    (λ l. let a = used-by s k l in is_true (seen s k) (seen_by s k a.0 a.1 a.2))
    (λ l. is_false (seen s k) (not_T (seen s k) (λ h. omega (arith, seen-small s k w h))))

module _ (s : State) (w : Valid s) where
  -- a page in a look-ahead is a page of a file
  pub seen-page : (k : ℕ) → T (seen s k) → Page s k
  unfolding seen
  seen-page k h =
      let a = some_at 16 (λ j. sees s (reader_at s j) k) h in
      let r : Reader = reader_at s a.0 in
      let b = before-is r k (sees-before s r k a.2) in
      let p = placed_at s w a.0 b.here in
      record {
        low = omega (arith, p.file_high, b.in_its_file);
        there = subst (λ f. page_of k ≤ size s f) b.in_its_file (omega (arith, b.in_reach, p.last_high));
      }

  -- the slot that the use key of a page in a look-ahead is of
  pub met_by : (k : ℕ) → T (seen s k) → (j : ℕ) × (j < 16) × T (sees s (reader_at s j) k) × (use_key s k ≡ use_for s k j)
  met_by k h = used-by s k (seen-small s k w.look_high h)

  -- a later page has a larger key for a reader that sees it
  pub use-rises : (j k i : ℕ) → T (before (reader_at s j) k) → page_of k < page_of i → T (sees s (reader_at s j) i) → use_for s k j < use_for s i j
  use-rises j k i b l h =
      let r : Reader = reader_at s j in
      let f = before-is r k b in
      let p = placed_at s w j f.here in
      omega (arith, use-for s i j h, use-for s k j (sees-earlier s r k i b (omega arith) h), time-rises s r k i p.pace_low f.past l)

  -- a use key is at least 16: its time is above 0
  pub use-positive : (k : ℕ) → T (seen s k) → 16 ≤ use_key s k
  use-positive k h =
      let m = met_by k h in
      let r : Reader = reader_at s m.0 in
      let b = before-is r k (sees-before s r k m.2) in
      omega (arith, m.3, use-for s k m.0 m.2, time-positive s r k (placed_at s w m.0 b.here).pace_low b.past)
