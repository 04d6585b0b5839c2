-- Under the premises of the third statement the head of the steal order is the cached page that is read last. Assumes nothing.
use mathlib.Core.Path.{◌≡◌, refl, ap, ◌∙◌, subst}
use mathlib.Core.Bool.{Bool, true, false, not, cond, ◌&&◌}
use mathlib.Core.Logic.{◌⊎◌, inl, inr}
use Rattle.std.specs.declared.option.Option.TheVariants.{Some}
use Prim.Native.Nat.{ℕ, ◌+◌, ◌-◌, ◌*◌, ◌/◌, ◌%◌, ◌≤◌, ◌<◌}
use native.Mathlib.Omega.{arith}
use native.Mathlib.Nat.{mul-le-mul_right, le-div_iff_mul-le, mul_comm, add-mul, one-mul}
use lib.Dec.{T, leb, ltb, eqb, le→leb}
use Rattle.rules.specs.Lists.{least}
use Rattle.rules.specs.Pages.{file_of, page_of, cached}
use Rattle.rules.specs.Readers.{reader_at, attached}
use Rattle.rules.specs.Valid.{Valid}
use Rattle.rules.specs.UseTimes.{before, steps, pruned, sees, time_for, seat, never, use_for, use_key, ahead, seen}
use Rattle.rules.specs.Orders.{victim}
use Rattle.rules.specs.Third.{Premises}
use Rattle.rules.proofs.laws.Tests.{leq, side, is_true, is_false, and_both}
use Rattle.rules.proofs.laws.Leasts.{some_in, least-far, least-le, least-met}
use Rattle.rules.proofs.calls.Valids.{placed_at}
use Rattle.rules.proofs.orders.LookAheads.{before-is}
use Rattle.rules.specs.Ranks.{rank}
use Rattle.rules.proofs.orders.Ranks.{seen-small, rank-behind, rank-unseen, rank-seen}
use Rattle.rules.proofs.orders.Victims.{victim-top}
use Rattle.rules.proofs.third.Belady.{next_use}
use Rattle.rules.proofs.third.Scan.{Slot, Slots, vacant, reader, requests, away, Fits, nearest, next-use}
use Rattle.rules.specs.declared.State.{State}
use Rattle.rules.specs.declared.Reader.{Reader}

-- a record as a slot of the scan
unfoldable pub scanned : Reader → Slot
scanned r = cond (attached r) (reader r.file r.position r.last) vacant

-- the readers of the state as slots
unfoldable pub slots : State → Slots
slots s j = scanned (reader_at s j)

-- a last page is at most 1,024
fits : (s : State) → Valid s → (j : ℕ) → Fits (slots s j)
unfolding slots scanned Fits
fits s v j = go (attached (reader_at s j)) (λ a. omega (arith, (placed_at s v j a).last_high, v.sizes_high (reader_at s j).file))
  where
    go : (t : Bool) → (T t → (reader_at s j).last ≤ 1024) → Fits (cond t (reader (reader_at s j).file (reader_at s j).position (reader_at s j).last) vacant)
    go true h = h tt
    go false h = tt

-- a slot's distance, in the words of the use times
away-at : (far : ℕ) (s : State) (k j : ℕ)
    → away far (slots s j) s.turn (k / 1024) (k % 1024) j ≡ cond (before (reader_at s j) k) (16 * (steps (reader_at s j) k - 1) + seat s j) far
unfolding slots scanned away before
away-at far s k j = go (attached (reader_at s j))
  where
    r : Reader
    r = reader_at s j

    go : (t : Bool) → away far (cond t (reader r.file r.position r.last) vacant) s.turn (k / 1024) (k % 1024) j
        ≡ cond (t && (eqb r.file (file_of k) && (ltb r.position (page_of k) && leb (page_of k) r.last)))
        (16 * (steps r k - 1) + seat s j) far
    go true = refl
    go false = refl

-- a time and a seat are ordered as a turn's number is
order : (A B a b w : ℕ) → 1 ≤ w → 1 ≤ A → 1 ≤ B → a < 16 → b < 16 → A * w * 16 + a ≤ B * w * 16 + b → 16 * (A - 1) + a ≤ 16 * (B - 1) + b
order A B a b w lw l_a l_b la lb h = leq (A + 1) B (λ _. 16 * (A - 1) + a ≤ 16 * (B - 1) + b) (λ l. omega arith)
    (λ l. leq (B + 1) A (λ _. 16 * (A - 1) + a ≤ 16 * (B - 1) + b)
    (λ m. let more : (B + 1) * w ≤ A * w = mul-le-mul_right w m in
    let e : (B + 1) * w ≡ B * w + w = add-mul B 1 w ∙ ap (λ x. B * w + x) (one-mul w) in absurd (omega arith))
    (λ m. let e : A ≡ B = omega arith in let h' : B * w * 16 + a ≤ B * w * 16 + b = subst (λ x. x * w * 16 + a ≤ B * w * 16 + b) e h in omega arith))

module _ (s : State) (v : Valid s) (w : ℕ) (p : Premises s w) where
  paced : (k j : ℕ) → T (before (reader_at s j) k) → 1 ≤ w
  paced k j h = let c = before-is (reader_at s j) k h in omega (arith, (placed_at s v j c.here).pace_low, p.one_pace j c.here)

  -- every page that a reader has before it is in its look-ahead
  all_seen : (k j : ℕ) → T (before (reader_at s j) k) → T (sees s (reader_at s j) k)
  unfolding sees pruned
  all_seen k j h =
      let r : Reader = reader_at s j in
      let c = before-is r k h in
      let below : steps r k * w ≤ r.last * w = mul-le-mul_right w (omega arith) in
      let far : steps r k * w ≤ s.look_ahead = omega (arith, mul_comm w r.last, p.covers j c.here) in
      let near : steps r k ≤ s.look_ahead / r.pace = rw (p.one_pace j c.here) ((le-div_iff_mul-le (paced k j h)).1 far) in
      and_both (before r k) _ h (and_both (leb (steps r k) (s.look_ahead / r.pace)) _ (le→leb _ _ near) (rw p.no_time tt))

  -- the use key of a slot
  use-at : (k j : ℕ) → T (before (reader_at s j) k) → use_for s k j ≡ steps (reader_at s j) k * w * 16 + seat s j
  unfolding use_for time_for
  use-at k j h = rw (is_true (sees s (reader_at s j) k) (all_seen k j h), p.one_pace j (before-is (reader_at s j) k h).here, p.no_time) (omega arith)

  use-not : (k j : ℕ) → T (not (before (reader_at s j) k)) → use_for s k j ≡ never
  unfolding use_for sees
  use-not k j h = rw (is_false (before (reader_at s j) k) h)

  -- the distance of a slot
  away-in : (far k j : ℕ) → T (before (reader_at s j) k)
      → away far (slots s j) s.turn (k / 1024) (k % 1024) j ≡ 16 * (steps (reader_at s j) k - 1) + seat s j
  away-in far k j h = away-at far s k j ∙ ap (λ t. cond t (16 * (steps (reader_at s j) k - 1) + seat s j) far) (is_true (before (reader_at s j) k) h)

  away-not : (far k j : ℕ) → T (not (before (reader_at s j) k)) → away far (slots s j) s.turn (k / 1024) (k % 1024) j ≡ far
  away-not far k j h = away-at far s k j ∙ ap (λ t. cond t (16 * (steps (reader_at s j) k - 1) + seat s j) far) (is_false (before (reader_at s j) k) h)

  -- a rank below never is a use key
  low-seen : (k : ℕ) → rank s k < never → T (seen s k)
  low-seen k l = go (side (ahead s k)) (side (seen s k))
    where
      go : T (ahead s k) ⊎ T (not (ahead s k)) → T (seen s k) ⊎ T (not (seen s k)) → T (seen s k)
      go a (inl h) = h
      go (inl a) (inr h) = absurd (omega (arith, rank-unseen s k a h))
      go (inr a) (inr h) = absurd (omega (arith, rank-behind s k a))

  -- a page of no higher rank is read no later
  rank-nearest : (far k i : ℕ) → rank s k ≤ rank s i → nearest far (slots s) s.turn k ≤ nearest far (slots s) s.turn i
  unfolding nearest use_key seen
  rank-nearest far k i le =
      leq far (least 16 (at i) far) (λ _. least 16 (at k) far ≤ least 16 (at i) far) (λ l. omega (arith, least-far 16 (at k) far))
      (λ l. read (least-met 16 (at i) far l))
    where
      at : ℕ → ℕ → ℕ
      at k j = away far (slots s j) s.turn (k / 1024) (k % 1024) j

      meets : (j j' : ℕ) → j' < 16 → T (before (reader_at s j) i) → T (before (reader_at s j') k) → use_for s k j' ≤ use_for s i j
          → least 16 (at k) far ≤ at i j
      meets j j' l' h h' le' =
          let c = before-is (reader_at s j) i h in
          let c' = before-is (reader_at s j') k h' in
          let o = order (steps (reader_at s j') k) (steps (reader_at s j) i) (seat s j') (seat s j) w (paced i j h) (omega arith) (omega arith)
          (omega arith) (omega arith)
          (omega (arith, use-at k j' h', use-at i j h)) in
          omega (arith, away-in far i j h, away-in far k j' h', least-le 16 (at k) far j' l')

      met : (j n : ℕ) → T (before (reader_at s j) i) → n < 16 → use_for s k n ≤ use_for s i j → use_for s k n < never
          → T (before (reader_at s n) k) ⊎ T (not (before (reader_at s n) k)) → least 16 (at k) far ≤ at i j
      met j n h ln le' low (inl b) = meets j n ln h b le'
      met j n h ln le' low (inr b) = absurd (omega (arith, use-not k n b))

      found : (j : ℕ) → j < 16 → T (before (reader_at s j) i) → least 16 (at k) far ≤ at i j
      found j lj h =
          let si : T (seen s i) = some_in 16 j (λ j. sees s (reader_at s j) i) lj (all_seen i j h) in
          let small = seen-small s i v.look_high si in
          let ri = rank-seen s i si in
          let sk : T (seen s k) = low-seen k (omega arith) in
          let rk = rank-seen s k sk in
          let low = seen-small s k v.look_high sk in
          let m = least-met 16 (use_for s k) never low in
          let up = least-le 16 (use_for s i) never j lj in
          met j m.0 h m.1 (omega (arith, m.2)) (omega (arith, m.2)) (side (before (reader_at s m.0) k))

      by : (j : ℕ) → j < 16 → least 16 (at i) far ≡ at i j → T (before (reader_at s j) i) ⊎ T (not (before (reader_at s j) i))
          → least 16 (at k) far ≤ least 16 (at i) far
      by j l e (inl b) = omega (arith, found j l b)
      by j l e (inr b) = omega (arith, away-not far i j b, least-far 16 (at k) far)

      read : (j : ℕ) × (j < 16) × (least 16 (at i) far ≡ at i j) → least 16 (at k) far ≤ least 16 (at i) far
      read r = by r.0 r.1 r.2 (side (before (reader_at s r.0) i))

  -- so the page to give up is read last of the cached pages
  pub victim-last : (n i : ℕ) → victim s ≡ Some i → (k : ℕ) → T (cached s k)
      → next_use (requests n (slots s) s.turn) k ≤ next_use (requests n (slots s) s.turn) i
  victim-last n i e k c =
      omega (
        arith,
        rank-nearest n k i (victim-top s v p.by_1989 i e k c),
        next-use n (slots s) s.turn k v.turn_high (fits s v),
        next-use n (slots s) s.turn i v.turn_high (fits s v),
      )
