-- The search for the head of the fetch order, slot by slot: a reader's first absent page, and the one used soonest. Assumes nothing.
use Rattle.std.specs.declared.option.Option.TheVariants.{Some, None}
use Rattle.std.proofs.Common.{◌≡◌, Bool, not, ◌&&◌, ℕ, zero, suc, ◌+◌, ◌-◌, ◌*◌, ◌≤◌, ◌<◌, refl, sym, ap₂, ◌∙◌, subst, T, eqb, eqb→eq, eq-eqb, arith}
use Rattle.bits.specs.Map.{bit, joined, next_bit}
use Rattle.bits.proofs.Bits.{bit_le}
use Rattle.bits.proofs.Finds.{Next, next_is}
use Rattle.bits.proofs.Joins.{joined-clear}
use Rattle.rules.specs.Lists.{head}
use Rattle.rules.specs.Readers.{reader_at, attached}
use Rattle.rules.specs.Valid.{Valid}
use Rattle.rules.specs.UseTimes.{before, never, use_for}
use Rattle.rules.specs.Orders.{absent, fetch_order}
use Rattle.rules.specs.Ranks.{FirstAbsent, NoneBelow, AtLeast, Before}
use Rattle.rules.proofs.laws.Cases.{passed}
use Rattle.rules.proofs.orders.LookAheads.{before-is, is-before, use-least}
use Rattle.rules.proofs.orders.Candidates.{slot-below, absent-least, absent-wanted, best-wanted, no-wanted}
use Rattle.rules.specs.declared.State.{State}
use Rattle.rules.specs.declared.Reader.{Reader}
use Rattle.uses.specs.Sights.{lower}
use Rattle.uses.specs.declared.Pick.{Pick}
use Rattle.uses.proofs.Slots.{lower-least}
use Rattle.fetch.specs.Soonest.{Soonest}

-- a page is absent where its bit is 0 in the maps joined
absent-bit : (s : State) (k : ℕ) → eqb (bit (joined s.cached s.fetching) k) 0 ≡ absent s k
absent-bit s k =
    joined-clear s.cached s.fetching k
    ∙ ap₂ (λ (a b : Bool). a && b) (other (bit s.cached k) (bit_le s.cached k))
    (other (bit s.fetching k) (bit_le s.fetching k))
  where
    other : (b : ℕ) → b ≤ 1 → eqb b 0 ≡ not (eqb b 1)
    other zero h = refl
    other (suc zero) h = refl
    other (suc (suc b)) h = absurd (omega arith)

module _ (s : State) (r : Reader) (here : T (attached r)) (key : ℕ)
    (e : key ≡ next_bit (joined s.cached s.fetching) 0 (r.file * 1024 + r.position) (r.last - r.position)) where
  found : Next (joined s.cached s.fetching) 0 (r.file * 1024 + r.position) (r.last - r.position) key
  found = rw e (next_is (joined s.cached s.fetching) 0 (r.file * 1024 + r.position) (r.last - r.position))

  none-earlier : (i : ℕ) → T (before r i) → i < key → T (absent s i) → ⊥
  none-earlier i b l a =
      let q = before-is r i b in
      found.before i (omega (arith, q.in_its_file, q.past)) l (eqb→eq (bit (joined s.cached s.fetching) i) 0 (subst T (sym (absent-bit s i)) a))

  -- the reader lacks no page
  pub none-absent : key ≡ r.file * 1024 + r.last → (k : ℕ) → FirstAbsent s r k → ⊥
  none-absent z k a =
      let q = before-is r k a.ahead_of in
      none-earlier k a.ahead_of (omega (arith, q.in_its_file, q.in_reach)) a.lacking

  module _ (n : key ≡ r.file * 1024 + r.last → ⊥) (p : r.position ≤ r.last) (high : r.last ≤ 1024) where
    -- the reader has the page found before it
    absent-before : Before r key
    absent-before =
        let t = found in
        record { here = here; in_its_file = omega arith; past = omega arith; in_reach = omega arith }

    -- the page found is the reader's first absent one
    pub first_absent : FirstAbsent s r key
    first_absent = record {
      ahead_of = is-before r key absent-before;
      lacking = subst T (absent-bit s key) (passed _ (eq-eqb (bit (joined s.cached s.fetching) key) 0 (found.found (omega (arith, found.high)))));
      first = λ i h u a. none-earlier i h (omega (arith, (before-is r i h).in_its_file, absent-before.in_its_file)) a;
    }

module _ (s : State) where
  module _ (m : ℕ) (p : Pick) (a : Soonest s m p) where
    -- one slot more, whose page, if any, is used no sooner
    pub soonest-keep : (T (attached (reader_at s m)) → AtLeast s p.value m) → Soonest s (m + 1) p
    soonest-keep h = record { low = a.low; page = a.page; its = a.its; below = slot-below s m p.value p.value a.below (omega arith) h }

    -- one slot more, whose page is used sooner
    pub soonest-take : (key value : ℕ) → m < 16 → FirstAbsent s (reader_at s m) key → value ≡ lower s key m p.value → value < p.value
        → Soonest s (m + 1) (record { key = key; value = value })
    soonest-take key value l f e u =
        let t : use_for s key m ≡ value = omega (arith, lower-least s key m p.value a.low) in
        record {
          low = omega (arith, a.low);
          page = λ h. absent-wanted s m key l f (omega arith);
          its = λ h. omega (arith, use-least s key m l);
          below = slot-below s m p.value value a.below (omega arith) (λ _. absent-least s value m key f (omega arith));
        }

  module _ (w : Valid s) (p : Pick) (a : Soonest s 16 p) where
    -- the page kept is the next to fetch
    pub soonest-fetch : (p.value ≡ never → ⊥) → head (fetch_order s) ≡ Some p.key
    soonest-fetch n = let h : p.value < never = omega (arith, a.low) in best-wanted s w p.key p.value (a.page h) (a.its h) a.below

    -- none is kept, and there is none
    pub soonest-nothing : p.value ≡ never → head (fetch_order s) ≡ None
    soonest-nothing e = no-wanted s w (subst (NoneBelow s 16) e a.below)
