-- What one slot says of a page, as the code tests it: with no division. Assumes nothing.
use mathlib.Core.Path.{◌≡◌, refl, sym, subst}
use mathlib.Core.Bool.{Bool, true, false, cond, ◌&&◌}
use mathlib.Core.List.{List}
use Prim.Native.Nat.{ℕ, min, ◌+◌, ◌-◌, ◌*◌, ◌/◌, ◌%◌, ◌≤◌, ◌<◌}
use native.Mathlib.Nat.{mul-le-mul, le-div_iff_mul-le, div-lt_iff_lt-mul}
use native.Mathlib.Decide.{dec_lt}
use native.Mathlib.Omega.{arith}
use borrow.Author.Tests.{le-leb, lt-leb, lt-ltb}
use lib.Dec.{leb}
use Rattle.rules.specs.Readers.{reader_at, reader_in}
use Rattle.rules.specs.UseTimes.{before, steps, between, pruned, sees, time_for, seat, never, use_for}
use Rattle.rules.specs.Valid.{Valid}
use Rattle.rules.proofs.laws.Tests.{is_true}
use Rattle.rules.proofs.calls.Valids.{placed_at}
use Rattle.rules.specs.Ranks.{Before}
use Rattle.rules.proofs.orders.LookAheads.{is-before}
use Rattle.rules.specs.declared.State.{State}
use Rattle.rules.specs.declared.Reader.{Reader}
use Rattle.rules.specs.declared.View.{View}
use Rattle.uses.specs.declared.Terms.{Terms}
use Rattle.uses.specs.Sights.{state_under, Sits, lower}

none : (a : Bool) → false ≡ (a && false)
none true = refl
none false = refl

none_of : (a b : Bool) → false ≡ (a && (b && false))
none_of true b = none b
none_of false b = refl

module _ (s : State) (r : Reader) (k : ℕ) where
  -- j × w is above L: j is above K
  far : 1 ≤ r.pace → s.look_ahead < steps r k * r.pace → sees s r k ≡ false
  unfolding sees
  far w h =
      let l : s.look_ahead / r.pace < steps r k = (div-lt_iff_lt-mul w).1 h in
      rw (lt-leb (steps r k) (s.look_ahead / r.pace) l) (sym (none (before r k)))

  -- T is above 0 and (q + 1) × T is above L: q is at least m
  pruned-off : 0 < s.fetch_time → s.look_ahead < (between s r k + 1) * s.fetch_time → sees s r k ≡ false
  unfolding sees pruned
  pruned-off t h =
      let m : ℕ = s.look_ahead / s.fetch_time in
      let l : m < between s r k + 1 = (div-lt_iff_lt-mul t).1 h in
      rw (lt-ltb 0 s.fetch_time t, le-leb m (between s r k) (omega arith)) (sym (none_of (before r k) (leb (steps r k) (s.look_ahead / r.pace))))

  module _ (b : Before r k) (w : 1 ≤ r.pace) (near : steps r k * r.pace ≤ s.look_ahead) where
    within-K : leb (steps r k) (s.look_ahead / r.pace) ≡ true
    within-K = le-leb (steps r k) (s.look_ahead / r.pace) ((le-div_iff_mul-le w).1 near)

    -- T is 0
    unpruned : s.fetch_time ≡ 0 → sees s r k ≡ true
    unfolding sees pruned
    unpruned t = rw (is_true (before r k) (is-before r k b), within-K, t) refl

    -- T is above 0 and (q + 1) × T at most L: q is below m
    few : 0 < s.fetch_time → (between s r k + 1) * s.fetch_time ≤ s.look_ahead → sees s r k ≡ true
    unfolding sees pruned
    few t h =
        let m : ℕ = s.look_ahead / s.fetch_time in
        let l : between s r k + 1 ≤ m = (le-div_iff_mul-le t).1 h in
        rw (is_true (before r k) (is-before r k b), within-K, lt-ltb 0 s.fetch_time t, lt-leb m (between s r k) (omega arith)) refl

    -- (q + 1) × T is at most L, and T is 0 or not
    not-pruned : (between s r k + 1) * s.fetch_time ≤ s.look_ahead → sees s r k ≡ true
    not-pruned h = by (dec_lt 0 s.fetch_time)
      where
        by : Dec (0 < s.fetch_time) → sees s r k ≡ true
        by (yes t) = few t h
        by (no t) = unpruned (omega arith)

-- ---- the slot's reader, as the code has it

-- the time with no page missing is small
pub time_high : (k position pace : ℕ) → pace ≤ 65535 → (k % 1024 + 1 - position) * pace ≤ 1024 * 65535
time_high k position pace y =
    let x : k % 1024 + 1 - position ≤ 1024 = omega arith in
    mul-le-mul x y

-- it is as the rules have it
pub sits-time : {v : View} {slot position pace k : ℕ} → Sits v slot position pace k
    → (k % 1024 + 1 - position) * pace ≡ steps (reader_in v.readers slot) k * (reader_in v.readers slot).pace
sits-time h = rw (h.position_is, h.pace_is) refl

pub sits-pace : (t : Terms) {v : View} {slot position pace k : ℕ} {cached fetching : List ℕ} → Sits v slot position pace k
    → Valid (state_under t v cached fetching) → 1 ≤ (reader_in v.readers slot).pace
sits-pace t h w = (placed_at _ w _ h.ahead.here).pace_low

-- ---- the least number so far, and one slot's use key

module _ (s : State) (k j low : ℕ) where
  unseen : sees s (reader_at s j) k ≡ false → low ≡ lower s k j low
  unseen e = rw e

  -- the page lies past the slot's look-ahead
  pub lower-far : 1 ≤ (reader_at s j).pace → s.look_ahead < steps (reader_at s j) k * (reader_at s j).pace → low ≡ lower s k j low
  lower-far w h = unseen (far s (reader_at s j) k w h)

  -- the slot comes too late, even with no page missing
  pub lower_late : low ≤ steps (reader_at s j) k * (reader_at s j).pace * 16 + seat s j → low ≡ lower s k j low
  unfolding use_for time_for
  lower_late h = go (sees s (reader_at s j) k)
    where
      go : (b : Bool) → low ≡ cond b
          (min (cond b ((steps (reader_at s j) k * (reader_at s j).pace + between s (reader_at s j) k * s.fetch_time) * 16 + seat s j) never) low) low
      go true = omega arith
      go false = refl

  -- too many pages are missing
  pub lower-pruned : (q : ℕ) → q ≡ between s (reader_at s j) k → 0 < s.fetch_time → s.look_ahead < (q + 1) * s.fetch_time → low ≡ lower s k j low
  lower-pruned q e t h = unseen (pruned-off s (reader_at s j) k t (subst (λ x. s.look_ahead < (x + 1) * s.fetch_time) e h))

  -- a number up to `never`
  pub lower-least : low ≤ never → lower s k j low ≡ min (use_for s k j) low
  unfolding use_for
  lower-least l = go (sees s (reader_at s j) k)
    where
      go : (b : Bool)
          → cond b (min (cond b (time_for s (reader_at s j) k * 16 + seat s j) never) low) low
          ≡ min (cond b (time_for s (reader_at s j) k * 16 + seat s j) never) low
      go true = refl
      go false = omega arith

  module _ (b : Before (reader_at s j) k) (w : 1 ≤ (reader_at s j).pace) (near : steps (reader_at s j) k * (reader_at s j).pace ≤ s.look_ahead) where
    -- no fetch takes time
    pub lower-free : s.fetch_time ≡ 0 → steps (reader_at s j) k * (reader_at s j).pace * 16 + seat s j < low
        → steps (reader_at s j) k * (reader_at s j).pace * 16 + seat s j ≡ lower s k j low
    unfolding use_for time_for
    lower-free t h = rw (unpruned s (reader_at s j) k b w near t, t) (omega arith)

    -- the slot sees the page
    pub lower-seen : (q : ℕ) → q ≡ between s (reader_at s j) k → (q + 1) * s.fetch_time ≤ s.look_ahead
        → min ((steps (reader_at s j) k * (reader_at s j).pace + q * s.fetch_time) * 16 + seat s j) low ≡ lower s k j low
    unfolding use_for time_for
    lower-seen q e h = rw (e, not-pruned s (reader_at s j) k b w near (subst (λ x. (x + 1) * s.fetch_time ≤ s.look_ahead) e h)) refl
