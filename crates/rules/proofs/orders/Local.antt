-- A page's rank hangs on its own file alone, and on turn, look-ahead and fetch time; two states alike in every file have one steal order by the 1989
-- rule. Where fetches take no time, it does not hang on what is present either: q is there and counts for nothing. Assumes nothing.
use mathlib.Core.Path.{◌≡◌, refl, sym, ap, ap₂, ◌∙◌, fun_ext}
use mathlib.Core.Bool.{true, false, not, cond, ◌&&◌, and_assoc}
use mathlib.Core.Logic.{◌⊎◌, inl, inr}
use Prim.Native.Nat.{ℕ, zero, suc, ◌+◌, ◌-◌, ◌*◌, ◌≤◌, ◌<◌}
use native.Mathlib.Decide.{dec_lt}
use native.Mathlib.Nat.{mul-zero}
use native.Mathlib.Omega.{arith}
use lib.Dec.{T, T_not, eqb, eqb→eq}
use Rattle.rules.specs.Lists.{range, each, only, falling, least, some_of}
use Rattle.rules.specs.Pages.{size, file_of, key_of, cached, pages, cached_pages}
use Rattle.rules.specs.Readers.{reader_at, attached, reads_file}
use Rattle.rules.specs.Valid.{Valid}
use Rattle.rules.specs.UseTimes.{before, steps, present, missing, between, pruned, sees, time_for, never, use_for, use_key, ahead, seen}
use Rattle.rules.specs.Orders.{order1989}
use Rattle.rules.proofs.laws.Tests.{both, side, is_true, is_false, and_second}
use Rattle.rules.specs.Ranks.{rank, Presents}
use Rattle.rules.proofs.orders.Ranks.{steal-ranked}
use Rattle.rules.specs.declared.State.{State}
use Rattle.rules.specs.declared.Reader.{Reader}

-- the record is of no reader of the file
abbrev pub NotOf : ℕ → Reader → Type 0
NotOf f r = reads_file f r ≡ false

-- two records alike in what the orders read
pub record AlikeReader (r q : Reader) : Type 0 where
  pub attached-same : attached r ≡ attached q
  pub file-same : r.file ≡ q.file
  pub pace-same : r.pace ≡ q.pace
  pub position-same : r.position ≡ q.position
  pub last-same : r.last ≡ q.last

-- equal records are alike
pub alike_same : {r q : Reader} → r ≡ q → AlikeReader r q
alike_same e = rw e (record { attached-same = refl; file-same = refl; pace-same = refl; position-same = refl; last-same = refl })

-- two states alike in what the ranks of file f read but for the turn
pub record LikeFile (f : ℕ) (s t : State) : Type 0 where
  pub look-same : s.look_ahead ≡ t.look_ahead
  pub time-same : s.fetch_time ≡ t.fetch_time
  pub size_same : size s f ≡ size t f
  pub readers-same : (j : ℕ) → AlikeReader (reader_at s j) (reader_at t j) ⊎ (NotOf f (reader_at s j) × NotOf f (reader_at t j))
  pub cached-same : (k : ℕ) → file_of k ≡ f → cached s k ≡ cached t k
  -- q is asked for only where fetches take time
  pub present-same : 0 < s.fetch_time → (k : ℕ) → file_of k ≡ f → present s k ≡ present t k

-- and in the turn
pub record SameFile (f : ℕ) (s t : State) : Type 0 where
  pub like : LikeFile f s t
  pub turn-same : s.turn ≡ t.turn

not-before : (r : Reader) (k : ℕ) → NotOf (file_of k) r → before r k ≡ false
unfolding before
not-before r k h = rw (← and_assoc (attached r) (eqb r.file (file_of k)), h)

-- a reader of no such file sees none of its pages
pub not-sees : (s : State) (r : Reader) (k : ℕ) → NotOf (file_of k) r → sees s r k ≡ false
unfolding sees
not-sees s r k h = rw (not-before r k h)

-- what a slot says of page k in two states
pub record SameSlot (s t : State) (k j : ℕ) : Type 0 where
  pub before-alike : before (reader_at s j) k ≡ before (reader_at t j) k
  pub sees-alike : sees s (reader_at s j) k ≡ sees t (reader_at t j) k
  pub times-alike : T (sees s (reader_at s j) k) → time_for s (reader_at s j) k ≡ time_for t (reader_at t j) k

-- what q costs two readers on the way to page k: it prunes, and it takes time
record SameDelay (s : State) (r : Reader) (t : State) (q : Reader) (k : ℕ) : Type 0 where
  prunes : pruned s (between s r k) ≡ pruned t (between t q k)
  waits : between s r k * s.fetch_time ≡ between t q k * t.fetch_time

pruned-same : (s t : State) (p q : ℕ) → s.look_ahead ≡ t.look_ahead → s.fetch_time ≡ t.fetch_time → p ≡ q → pruned s p ≡ pruned t q
unfolding pruned
pruned-same s t p q e f g = rw (e, f, g)

-- no page is pruned where fetches take no time
never-pruned : (s : State) (q : ℕ) → s.fetch_time ≡ 0 → pruned s q ≡ false
unfolding pruned
never-pruned s q e = rw e

-- nor waited for
no-wait : (s : State) (q : ℕ) → s.fetch_time ≡ 0 → q * s.fetch_time ≡ 0
no-wait s q e = rw e (mul-zero q)

-- the two maps are those that q looks at
pub maps-present : (s : State) → Presents s s.cached s.fetching
unfolding present
maps-present s k = refl

module _ (s t : State) (k : ℕ) (a : LikeFile (file_of k) s t) where
  missing-same : 0 < s.fetch_time → (c n : ℕ) → n ≤ 1023 - c → missing s (file_of k) c n ≡ missing t (file_of k) c n
  unfolding missing
  missing-same h c zero l = refl
  missing-same h c (suc n) l =
      ap₂ (λ b m. cond b 0 1 + m) (a.present-same h (key_of (file_of k) (c + suc n)) (omega arith)) (missing-same h c n (omega arith))

  module _ (r q : Reader) (e : AlikeReader r q) (f : q.file ≡ file_of k) where
    between-same : 0 < s.fetch_time → between s r k ≡ between t q k
    between-same h = rw (e.file-same, e.position-same, f) (missing-same h q.position (steps q k - 1) (omega arith))

    -- q weighs alike: it is the same, or fetches take no time
    delay-same : SameDelay s r t q k
    delay-same = by (dec_lt 0 s.fetch_time)
      where
        by : Dec (0 < s.fetch_time) → SameDelay s r t q k
        by (yes h) = record {
          prunes = pruned-same s t (between s r k) (between t q k) a.look-same a.time-same (between-same h);
          waits = rw (between-same h, a.time-same);
        }
        by (no h) =
            let x : s.fetch_time ≡ 0 = omega arith in
            let y : t.fetch_time ≡ 0 = sym a.time-same ∙ x in
            record {
              prunes = never-pruned s (between s r k) x ∙ sym (never-pruned t (between t q k) y);
              waits = no-wait s (between s r k) x ∙ sym (no-wait t (between t q k) y);
            }

    before_same : before r k ≡ before q k
    unfolding before
    before_same = rw (e.attached-same, e.file-same, e.position-same, e.last-same, f)

    sees-same : sees s r k ≡ sees t q k
    unfolding sees
    sees-same = rw (before_same, delay-same.prunes, e.position-same, e.pace-same, a.look-same)

    time-alike : time_for s r k ≡ time_for t q k
    unfolding time_for
    time-alike = rw (delay-same.waits, e.position-same, e.pace-same)

  pub slot_same : (j : ℕ) → SameSlot s t k j
  slot_same j = go (a.readers-same j)
    where
      neither : NotOf (file_of k) (reader_at s j) → NotOf (file_of k) (reader_at t j) → SameSlot s t k j
      neither m n = record {
        before-alike = rw (not-before (reader_at s j) k m, not-before (reader_at t j) k n);
        sees-alike = rw (not-sees s (reader_at s j) k m, not-sees t (reader_at t j) k n);
        times-alike = λ h. absurd (T_not (sees s (reader_at s j) k) (rw (not-sees s (reader_at s j) k m) tt) h);
      }

      alike : AlikeReader (reader_at s j) (reader_at t j) → (reader_at t j).file ≡ file_of k → SameSlot s t k j
      alike e f = record {
        before-alike = before_same (reader_at s j) (reader_at t j) e f;
        sees-alike = sees-same (reader_at s j) (reader_at t j) e f;
        times-alike = λ _. time-alike (reader_at s j) (reader_at t j) e f;
      }

      go : AlikeReader (reader_at s j) (reader_at t j) ⊎ (NotOf (file_of k) (reader_at s j) × NotOf (file_of k) (reader_at t j)) → SameSlot s t k j
      go (inl e) = both (attached (reader_at t j) && eqb (reader_at t j).file (file_of k)) (λ _. SameSlot s t k j)
          (λ h. alike e (eqb→eq (reader_at t j).file (file_of k) (and_second (attached (reader_at t j)) _ h)))
          (λ h. let n = is_false _ h in neither (rw (e.attached-same, e.file-same) n) n)
      go (inr n) = neither n.0 n.1

  -- some reader has the page before it in both, or in neither, and sees it in both, or in neither
  pub ahead-local : ahead s k ≡ ahead t k
  unfolding ahead
  ahead-local = ap (some_of 16) (fun_ext (λ j. (slot_same j).before-alike))

  pub seen-local : seen s k ≡ seen t k
  unfolding seen
  seen-local = ap (some_of 16) (fun_ext (λ j. (slot_same j).sees-alike))

module _ (s t : State) (k : ℕ) (a : SameFile (file_of k) s t) where
  use-same : (j : ℕ) → use_for s k j ≡ use_for t k j
  unfolding use_for
  use-same j = go (side (sees s (reader_at s j) k))
    where
      slot : SameSlot s t k j
      slot = slot_same s t k a.like j

      go : T (sees s (reader_at s j) k) ⊎ T (not (sees s (reader_at s j) k)) → use_for s k j ≡ use_for t k j
      go (inl h) =
          let x : sees s (reader_at s j) k ≡ true = is_true (sees s (reader_at s j) k) h in
          let y : sees t (reader_at t j) k ≡ true = sym slot.sees-alike ∙ x in
          rw (x, y, slot.times-alike h, a.turn-same)
      go (inr h) =
          let x : sees s (reader_at s j) k ≡ false = is_false (sees s (reader_at s j) k) h in
          let y : sees t (reader_at t j) k ≡ false = sym slot.sees-alike ∙ x in
          rw (x, y)

  -- the rank of a page is the same in two states alike in its file
  pub rank-local : rank s k ≡ rank t k
  unfolding rank use_key
  rank-local =
      let z : use_key s k ≡ use_key t k = ap (λ g. least 16 g never) (fun_ext use-same) in
      rw (ahead-local s t k a.like, seen-local s t k a.like, z)

-- two states alike in every file have one steal order by the 1989 rule
pub steal-local : (s t : State) → Valid s → Valid t → ((f : ℕ) → SameFile f s t) → order1989 s ≡ order1989 t
unfolding cached_pages pages
steal-local s t v w a =
    let r : rank s ≡ rank t = fun_ext (λ k. rank-local s t k (a (file_of k))) in
    let c : cached s ≡ cached t = fun_ext (λ k. (a (file_of k)).like.cached-same k refl) in
    let p : pages s ≡ pages t = ap (λ g. each (λ f. range (f * 1024) (g f)) (range 0 8)) (fun_ext (λ f. (a f).like.size_same)) in
    steal-ranked s v ∙ ap₂ falling r (ap₂ only c p) ∙ sym (steal-ranked t w)
