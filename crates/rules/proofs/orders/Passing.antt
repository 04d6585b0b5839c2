-- The turn passes from a slot that does not read a file. Then every other seat distance falls by 1, and so do the use keys of the file's pages; all other
-- ranks stay. Assumes nothing.
use mathlib.Core.Path.{◌≡◌, sym, ◌∙◌, subst}
use mathlib.Core.Bool.{not}
use mathlib.Core.Logic.{◌⊎◌, inl, inr, ◌≢◌}
use Prim.Native.Nat.{ℕ, ◌+◌, ◌-◌, ◌%◌, ◌≤◌, ◌<◌}
use native.Mathlib.Decide.{dec_lt}
use native.Mathlib.Omega.{arith}
use lib.Dec.{T, T_not}
use Rattle.rules.specs.Pages.{file_of}
use Rattle.rules.specs.Readers.{reader_at}
use Rattle.rules.specs.Valid.{Valid}
use Rattle.rules.specs.UseTimes.{sees, never, use_for, use_key, ahead, seen}
use Rattle.rules.specs.Ranks.{rank}
use Rattle.rules.proofs.laws.Tests.{side, sixteen}
use Rattle.rules.proofs.orders.Ranks.{rank-behind, rank-unseen, rank-seen, seen-small}
use Rattle.rules.proofs.orders.LookAheads.{use-for, use-least, met_by}
use Rattle.rules.proofs.orders.Local.{NotOf, LikeFile, SameSlot, not-sees, slot_same, ahead-local, seen-local}
use Rattle.rules.specs.declared.State.{State}

-- every seat but that of the turn falls by 1
pub seat-falls : (u n j : ℕ) → u < 16 → j < 16 → n ≡ (u + 1) % 16 → j ≢ u → (j + 16 - u) % 16 ≡ (j + 16 - n) % 16 + 1
seat-falls u n j lu lj e ne = go (dec_lt u 15) (dec_lt j u)
  where
    go : Dec (u < 15) → Dec (j < u) → (j + 16 - u) % 16 ≡ (j + 16 - n) % 16 + 1
    go (yes a) (yes b) =
        let m : n ≡ u + 1 = e ∙ (sixteen (u + 1) 0 (u + 1) (omega arith) (omega arith)).1 in
        omega (
          arith,
          (sixteen (j + 16 - u) 0 (j + 16 - u) (omega arith) (omega arith)).1,
          (sixteen (j + 16 - n) 0 (j + 15 - u) (omega arith) (omega arith)).1,
        )
    go (yes a) (no b) =
        let m : n ≡ u + 1 = e ∙ (sixteen (u + 1) 0 (u + 1) (omega arith) (omega arith)).1 in
        omega (
          arith,
          (sixteen (j + 16 - u) 1 (j - u) (omega arith) (omega arith)).1,
          (sixteen (j + 16 - n) 1 (j - u - 1) (omega arith) (omega arith)).1,
        )
    go (no a) _ =
        let m : n ≡ 0 = e ∙ (sixteen (u + 1) 1 0 (omega arith) (omega arith)).1 in
        omega (
          arith,
          (sixteen (j + 16 - u) 0 (j + 1) (omega arith) (omega arith)).1,
          (sixteen (j + 16 - n) 1 j (omega arith) (omega arith)).1,
        )

-- a state and the one after, alike in file f, where the turn has passed from a slot that does not read it
pub record PassedFile (f : ℕ) (s t : State) : Type 0 where
  pub like : LikeFile f s t
  pub turn-next : t.turn ≡ (s.turn + 1) % 16
  pub idle : NotOf f (reader_at s s.turn)

module _ (s t : State) (v : Valid s) (w : Valid t) (k : ℕ) (a : PassedFile (file_of k) s t) where
  slot : (j : ℕ) → SameSlot s t k j
  slot = slot_same s t k a.like

  -- a slot that sees the page is not the turn's
  other : (j : ℕ) → T (sees s (reader_at s j) k) → j ≢ s.turn
  other j h e =
      let z : sees s (reader_at s j) k ≡ sees s (reader_at s s.turn) k = rw e in
      T_not (sees s (reader_at s j) k) (rw (z, not-sees s (reader_at s s.turn) k a.idle) tt) h

  use-falls : (j : ℕ) → j < 16 → T (sees s (reader_at s j) k) → use_for s k j ≡ use_for t k j + 1
  use-falls j l h =
      omega (
        arith,
        use-for s k j h,
        use-for t k j (subst T (slot j).sees-alike h),
        (slot j).times-alike h,
        seat-falls s.turn t.turn j v.turn_high l a.turn-next (other j h),
      )

  key-falls : T (seen s k) → use_key s k ≡ use_key t k + 1
  key-falls h =
      let m = met_by s v k h in
      let n = met_by t w k (subst T (seen-local s t k a.like) h) in
      let back : T (sees s (reader_at s n.0) k) = subst T (sym (slot n.0).sees-alike) n.2 in
      omega (
        arith,
        m.3,
        n.3,
        use-falls m.0 m.1 m.2,
        use-falls n.0 n.1 back,
        use-least t k m.0 m.1,
        use-least s k n.0 n.1,
      )

  -- a page in a look-ahead, whose rank is below `never`, ranks 1 lower, and any other as before
  pub rank-passed : (rank s k < never → rank s k ≡ rank t k + 1) × (never ≤ rank s k → rank s k ≡ rank t k)
  rank-passed = go (side (ahead s k)) (side (seen s k))
    where
      go : T (ahead s k) ⊎ T (not (ahead s k)) → T (seen s k) ⊎ T (not (seen s k))
          → (rank s k < never → rank s k ≡ rank t k + 1) × (never ≤ rank s k → rank s k ≡ rank t k)
      go _ (inl h) =
          let x = rank-seen s k h in
          let y = rank-seen t k (subst T (seen-local s t k a.like) h) in
          (λ _. omega (arith, x, y, key-falls h), λ l. absurd (omega (arith, x, seen-small s k v.look_high h)))
      go (inl b) (inr h) =
          let x = rank-unseen s k b h in
          let y = rank-unseen t k (subst T (ahead-local s t k a.like) b) (rw (← seen-local s t k a.like) h) in
          (λ l. absurd (omega (arith, x)), λ _. x ∙ sym y)
      go (inr b) (inr h) =
          let x = rank-behind s k b in
          let y = rank-behind t k (rw (← ahead-local s t k a.like) b) in
          (λ l. absurd (omega (arith, x)), λ _. x ∙ sym y)
