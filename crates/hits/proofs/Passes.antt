-- So many turns that meet no F, made at once. One turn moves its own reader by one page, or by none, and every other seat distance falls by 1: so what is left
-- to read in one turn less is what was, without that page. Assumes nothing.
use Prim.Native.Nat.{ℕ, zero, suc, min, ◌+◌, ◌-◌, ◌/◌, ◌%◌, ◌<◌}
use mathlib.Core.Path.{◌≡◌, refl, sym, ap, subst, ◌∙◌}
use mathlib.Core.Bool.{not}
use mathlib.Core.List.{List, [], ◌∷◌}
use mathlib.Core.Logic.{◌≢◌, ◌⊎◌, inl, inr}
use native.Mathlib.Decide.{ℕ_discrete, dec_lt}
use native.Mathlib.Nat.{add_assoc, add-zero, mod-lt}
use native.Mathlib.Omega.{arith}
use borrow.Author.Tests.{eqb-true}
use lib.Dec.{T, T_not, lit<}
use lib.ListN.{length, set}
use lib.Seq.{get_or-set_same, get_or-set_other, ext_get_or}
use Rattle.bits.specs.Map.{on}
use Rattle.rules.specs.Lists.{total}
use Rattle.rules.specs.Pages.{cached, in_fetch}
use Rattle.rules.specs.Readers.{no_reader, reader_in, reader_at, attached, next_key, onward}
use Rattle.rules.specs.Valid.{Valid, ReaderIn}
use Rattle.rules.specs.Views.{view_of}
use Rattle.rules.specs.Calls.{with_readers, with_turn}
use Rattle.rules.specs.Run.{Turn, Turns, next_turn, turn_of, turns_of}
use Rattle.rules.specs.declared.State.{State}
use Rattle.rules.specs.declared.Reader.{Reader}
use Rattle.rules.specs.declared.View.{View}
use Rattle.rules.specs.declared.Condition.{Condition}
use Rattle.rules.specs.declared.Condition.TheVariants.{Empty, Running, Waiting}
use Rattle.rules.proofs.laws.Tests.{side, sixteen}
use Rattle.rules.proofs.laws.Leasts.{total-one, total-most}
use Rattle.rules.proofs.calls.Kept.{turn-kept}
use Rattle.rules.proofs.orders.Passing.{seat-falls}
use Rattle.rules.proofs.third.Moves.{now_at, goes_now, key_now}
use Rattle.rules.proofs.third.Turns.{turned, goes-not, idle-turn, inside, hit-turn}
use Rattle.parts.specs.Positions.{moved_to}
use Rattle.hits.specs.Hits.{pages_read, reads_of, Clear}

-- the readers after these turns, each so many pages on
pub record MovedBy (v : View) (n : ℕ) (after : List Reader) : Type 0 where
  pub sixteen : length after ≡ 16
  pub each : (j : ℕ) → j < 16 → reader_in after j ≡ moved_to ((reader_in v.readers j).position + reads_of v n j) (reader_in v.readers j)

-- ---- a slot's own turns

-- a turn that is another's
pages-other : (n u j : ℕ) (r : Reader) → u < 16 → j < 16 → j ≢ u → pages_read (suc n) ((j + 16 - u) % 16) r ≡ pages_read n ((j + 16 - (u + 1) % 16) % 16) r
pages-other n u j r lu lj ne =
    let d : ℕ = (j + 16 - u) % 16 in
    let e : ℕ = (j + 16 - (u + 1) % 16) % 16 in
    let f : d ≡ e + 1 = seat-falls u ((u + 1) % 16) j lu lj refl ne in
    let l : d < 16 = mod-lt (j + 16 - u) (lit< tt) in
    let x : suc n + 15 - d ≡ n + 15 - e = omega (arith, f, l) in
    ap (λ x. min (x / 16) (r.last - r.position)) x

-- its own turn: it is at distance 0, and at 15 after it
own-now : (u : ℕ) → (u + 16 - u) % 16 ≡ 0
own-now u = (sixteen (u + 16 - u) 1 0 (omega arith) (omega arith)).1

own-next : (u : ℕ) → u < 16 → (u + 16 - (u + 1) % 16) % 16 ≡ 15
own-next u l = go (dec_lt u 15)
  where
    go : Dec (u < 15) → (u + 16 - (u + 1) % 16) % 16 ≡ 15
    go (yes a) =
        let m : (u + 1) % 16 ≡ u + 1 = (sixteen (u + 1) 0 (u + 1) (omega arith) (omega arith)).1 in
        (sixteen (u + 16 - (u + 1) % 16) 0 15 (omega (arith, m)) (omega arith)).1
    go (no a) =
        let m : (u + 1) % 16 ≡ 0 = (sixteen (u + 1) 1 0 (omega arith) (omega arith)).1 in
        (sixteen (u + 16 - (u + 1) % 16) 1 15 (omega (arith, m)) (omega arith)).1

-- of n + 1 turns that begin with its own one more is its own than of the n after it
more-own : (n : ℕ) → (suc n + 15 - 0) / 16 ≡ (n + 15 - 15) / 16 + 1
more-own n =
    let e : n + 15 - 15 ≡ n = omega arith in
    rw e (sixteen (suc n + 15 - 0) (n / 16 + 1) (n % 16) (omega arith) (mod-lt n (lit< tt))).0

-- how far its reader gets in that turn: one page, or none at its last page
abbrev Pace : Reader → ℕ → Type 0
Pace r g = ((r.position < r.last) × (g ≡ 1)) ⊎ ((r.last - r.position ≡ 0) × (g ≡ 0))

pages-own : (n u g : ℕ) (r : Reader) → u < 16 → Pace r g
    → pages_read (suc n) ((u + 16 - u) % 16) r ≡ g + pages_read n ((u + 16 - (u + 1) % 16) % 16) (moved_to (r.position + g) r)
pages-own n u g r l p = rw (own-now u, own-next u l) (by p)
  where
    by : Pace r g → pages_read (suc n) 0 r ≡ g + pages_read n 15 (moved_to (r.position + g) r)
    by (inl x) = omega (arith, more-own n, x.0, x.1)
    by (inr x) = omega (arith, x.0, x.1)

-- before its last page it reads one at least
some_read : (n u : ℕ) (r : Reader) → r.position < r.last → 0 < pages_read (suc n) ((u + 16 - u) % 16) r
some_read n u r l = rw (own-now u) (omega (arith, more-own n))

-- ---- one turn

-- a turn from s that meets no F: its reader is g pages on, and these are the readers then
record Quick (s : State) (g : ℕ) (hits : List ℕ) (next : List Reader) : Type 0 where
  told : turn_of s ≡ turned s next s.cached s.fetching 0 hits
  one : length hits ≡ g
  pace : Pace (now_at s) g
  own : reader_in next s.turn ≡ moved_to ((now_at s).position + g) (now_at s)
  others : (j : ℕ) → j ≢ s.turn → reader_in next j ≡ reader_at s j

module _ (s : State) (v : Valid s) (closed : (k : ℕ) → T (in_fetch s k) → ⊥) where
  -- an empty slot has nothing left to read
  left-none : (c : Condition) (r : Reader) → ReaderIn c s r → c ≡ r.condition → T (not (attached r)) → r.last - r.position ≡ 0
  left-none Empty r h e a = rw h refl
  left-none Running r h e a = absurd (T_not (attached r) a (rw (← e) tt))
  left-none Waiting r h e a = absurd (T_not (attached r) a (rw (← e) tt))

  -- nor has a reader at its last page
  at-end : T (not (goes_now s)) → (now_at s).last - (now_at s).position ≡ 0
  at-end off = by (side (attached (now_at s)))
    where
      by : T (attached (now_at s)) ⊎ T (not (attached (now_at s))) → (now_at s).last - (now_at s).position ≡ 0
      by (inl a) = let e = eqb-true (now_at s).position (now_at s).last (goes-not (now_at s) a off) in omega arith
      by (inr a) = left-none (now_at s).condition (now_at s) (v.readers_in s.turn) refl a

  quick-idle : T (not (goes_now s)) → Quick s 0 [] s.readers
  quick-idle off = record {
    told = idle-turn s v closed off;
    one = refl;
    pace = inr (at-end off, refl);
    own = ap (λ p. moved_to p (now_at s)) (sym (add-zero (now_at s).position));
    others = λ j ne. refl;
  }

  quick-hit : T (goes_now s) → T (cached s (key_now s)) → Quick s 1 (key_now s ∷ []) (set s.readers s.turn (onward (now_at s)))
  quick-hit on-goes c = record {
    told = hit-turn s v closed on-goes c;
    one = refl;
    pace = inl (inside s v closed on-goes, refl);
    own = get_or-set_same s.readers s.turn (onward (now_at s)) no_reader (omega (arith, v.sixteen, v.turn_high));
    others = λ j ne. get_or-set_other s.readers s.turn j (onward (now_at s)) no_reader ne;
  }

-- ---- what it leaves of n + 1 turns

one-more-of : (a g x i : ℕ) → a ≡ g + x → i < x → g + i < a
one-more-of a g x i e l = omega arith

module _ (n : ℕ) (s : State) (v : Valid s) (g : ℕ) (hits : List ℕ) (next : List Reader) (q : Quick s g hits next) where
  abbrev t : State
  t = with_readers (next_turn s) next

  reads-own : reads_of (view_of s) (suc n) s.turn ≡ g + reads_of (view_of t) n s.turn
  reads-own = rw q.own (pages-own n s.turn g (now_at s) v.turn_high q.pace)

  reads_other : (j : ℕ) → j < 16 → j ≢ s.turn → reads_of (view_of s) (suc n) j ≡ reads_of (view_of t) n j
  reads_other j l ne = rw (q.others j ne) (pages-other n s.turn j (reader_at s j) v.turn_high l ne)

  clear_next : Clear (view_of s) s.cached 16 (suc n) → Clear (view_of t) s.cached 16 n
  clear_next c j l i h = by (ℕ_discrete j s.turn)
    where
      own-clear : (i : ℕ) → i < reads_of (view_of t) n s.turn → T (on s.cached (next_key (reader_in next s.turn) + i))
      own-clear i h =
          let k : next_key (now_at s) + (g + i) ≡ next_key (moved_to ((now_at s).position + g) (now_at s)) + i = omega arith in
          rw (q.own, ← k) (c s.turn v.turn_high (g + i) (one-more-of _ g _ i reads-own h))

      by : Dec (j ≡ s.turn) → T (on s.cached (next_key (reader_in next j) + i))
      by (yes e) = subst (λ j. i < reads_of (view_of t) n j → T (on s.cached (next_key (reader_in next j) + i))) (sym e) (own-clear i) h
      by (no e) = rw (q.others j e) (c j l i (subst (λ m. i < m) (sym (reads_other j l e)) h))

  moved-next : (after : List Reader) → MovedBy (view_of s) (suc n) after → MovedBy (view_of t) n after
  moved-next after o = record { sixteen = o.sixteen; each = λ j l. by j l (ℕ_discrete j s.turn) }
    where
      d : ℕ → ℕ
      d j = (j + 16 - (s.turn + 1) % 16) % 16

      At : ℕ → Reader → Type 0
      At j r = reader_in after j ≡ moved_to (r.position + pages_read n (d j) r) r

      own_at : At s.turn (moved_to ((now_at s).position + g) (now_at s))
      own_at =
          o.each s.turn v.turn_high ∙ ap (λ p. moved_to p (now_at s))
          (ap (λ m. (now_at s).position + m) (pages-own n s.turn g (now_at s) v.turn_high q.pace) ∙ sym (add_assoc (now_at s).position g _))

      by : (j : ℕ) → j < 16 → Dec (j ≡ s.turn) → At j (reader_in next j)
      by j l (yes e) = subst (λ j. At j (reader_in next j)) (sym e) (subst (At s.turn) (sym q.own) own_at)
      by j l (no e) =
          subst (At j) (sym (q.others j e))
          (o.each j l ∙ ap (λ m. moved_to ((reader_at s j).position + m) (reader_at s j)) (pages-other n s.turn j (reader_at s j) v.turn_high l e))

  total-next : total 16 (reads_of (view_of s) (suc n)) ≡ g + total 16 (reads_of (view_of t) n)
  total-next =
      total-one 16 s.turn g (reads_of (view_of s) (suc n)) (reads_of (view_of t) n) v.turn_high reads-own (λ j l ne. reads_other j l ne)

-- ---- all of them

-- what so many turns leave, none of which meets F
abbrev pub all_hits : ℕ → State → List Reader → Turns
all_hits n s after = record {
  after = with_readers (with_turn s ((s.turn + n) % 16)) after;
  fetches = 0;
  reads = total 16 (reads_of (view_of s) n);
}

hits-none : (s : State) → Valid s → (after : List Reader) → MovedBy (view_of s) 0 after → all_hits 0 s after ≡ turns_of 0 s
unfolding turns_of
hits-none s v after o = rw (same, turn, none) refl
  where
    still : (j : ℕ) → reads_of (view_of s) 0 j ≡ 0
    still j = omega (arith, (sixteen (0 + 15 - (j + 16 - s.turn) % 16) 0 (15 - (j + 16 - s.turn) % 16) (omega arith) (omega arith)).0)

    same : after ≡ s.readers
    same = ext_get_or no_reader after s.readers (o.sixteen ∙ sym v.sixteen) (λ j l.
        o.each j (omega (arith, l, o.sixteen)) ∙ ap (λ p. moved_to p (reader_at s j)) (omega (arith, still j)))

    turn : (s.turn + 0) % 16 ≡ s.turn
    turn = (sixteen (s.turn + 0) 0 s.turn (omega arith) v.turn_high).1

    none : total 16 (reads_of (view_of s) 0) ≡ 0
    none = omega (arith, total-most 16 (reads_of (view_of s) 0) 0 (λ j. omega (arith, still j)))

-- the turn after so many more
turn-after : (u n : ℕ) → ((u + 1) % 16 + n) % 16 ≡ (u + suc n) % 16
turn-after u n = omega arith

pub hits-made : (n : ℕ) (s : State) → Valid s → ((k : ℕ) → T (in_fetch s k) → ⊥) → Clear (view_of s) s.cached 16 n
    → (after : List Reader) → MovedBy (view_of s) n after → all_hits n s after ≡ turns_of n s
unfolding turns_of
hits-made zero s v closed c after o = hits-none s v after o
hits-made (suc n) s v closed c after o =
    go (side (goes_now s)) (λ t w k d p. hits-made n t w k d after p)
  where
    -- the turn, then the others
    step : (g : ℕ) (hits : List ℕ) (next : List Reader) → Quick s g hits next
        → ((t : State) → Valid t → ((k : ℕ) → T (in_fetch t k) → ⊥) → Clear (view_of t) t.cached 16 n → MovedBy (view_of t) n after
        → all_hits n t after ≡ turns_of n t)
        → all_hits (suc n) s after ≡ turns_of (suc n) s
    step g hits next q more =
        let t : State = with_readers (next_turn s) next in
        let w : Valid t = subst (λ (x : Turn). Valid x.after) q.told (turn-kept s v) in
        let m = more t w closed (clear_next n s v g hits next q c) (moved-next n s v g hits next q after o) in
        rw (q.told, ← m, turn-after s.turn n, total-next n s v g hits next q, q.one) refl

    go : T (goes_now s) ⊎ T (not (goes_now s))
        → ((t : State) → Valid t → ((k : ℕ) → T (in_fetch t k) → ⊥) → Clear (view_of t) t.cached 16 n → MovedBy (view_of t) n after
        → all_hits n t after ≡ turns_of n t)
        → all_hits (suc n) s after ≡ turns_of (suc n) s
    go (inr off) more = step 0 [] s.readers (quick-idle s v closed off) more
    go (inl on-goes) more =
        let here : T (cached s (key_now s)) = first in
        step 1 (key_now s ∷ []) (set s.readers s.turn (onward (now_at s))) (quick-hit s v closed on-goes here) more
      where
        first : T (cached s (key_now s))
        first =
            let e : next_key (now_at s) + 0 ≡ key_now s = omega arith in
            rw e at (c s.turn v.turn_high 0 (some_read n s.turn (now_at s) (inside s v closed on-goes)))
