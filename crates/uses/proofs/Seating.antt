-- The seats: slot by slot, at other positions, and a file's slots one after the other. Assumes nothing.
use Rattle.std.proofs.Common.{
  ◌≡◌,
  refl,
  sym,
  ap,
  ◌∙◌,
  true,
  false,
  not,
  ◌&&◌,
  ◌||◌,
  List,
  ℕ,
  ◌+◌,
  ◌≤◌,
  ◌<◌,
  T,
  arith,
  length,
  set,
  replicate,
  length-set,
  slice_index,
  get_or,
  get_or-set_same,
  get_or-set_other,
}
use native.Mathlib.Nat.{zero-div}
use native.Mathlib.Decide.{ℕ_discrete, dec_lt}
use borrow.Author.Tests.{eq-eqb, ne_eqb}
use lib.Dec.{eqb}
use Rattle.rules.specs.Readers.{no_reader, attached, reader_in, reads_file}
use Rattle.rules.proofs.laws.Below.{one_more}
use Rattle.rules.proofs.laws.Tests.{and_first, and_second, is_true}
use Rattle.rules.proofs.laws.Cases.{passed, failed}
use Rattle.rules.proofs.calls.Kept.{same_at}
use Rattle.rules.specs.declared.Reader.{Reader}
use Rattle.uses.specs.declared.Seats.{Seats}
use Rattle.uses.specs.declared.SlotSet.{SlotSet}
use Rattle.uses.specs.Seats.{has_slot, Popped, slots_of, SeatsFit, Seated}
use Rattle.uses.specs.Queues.{PositionsFit}

-- ---- the seats, slot by slot

-- the arrays but the positions, as their types have them
pub record Long (seats : Seats) : Type 0 where
  pub paces : length seats.paces ≡ 16
  pub lasts : length seats.lasts ≡ 16
  pub slots : length seats.slots ≡ 8

abbrev no_seats : Seats
no_seats = record { positions = replicate 16 0; paces = replicate 16 0; lasts = replicate 16 0; slots = replicate 8 (record { 0 = 0 }) }

-- no slot
pub seated-none : (readers : List Reader) → Seated readers 0 no_seats
seated-none readers = record {
  sixteen = refl;
  position = λ j u. absurd (omega arith);
  pace = λ j u. absurd (omega arith);
  reach = λ j u. absurd (omega arith);
  slots = λ f j u l. absurd (omega arith);
  beyond = λ f j u l. rw (same_at {A = SlotSet} 8 f (record { 0 = 0 }), zero-div) refl;
}

module _ (readers : List Reader) (n : ℕ) (seats : Seats) (long : Long seats) (a : Seated readers n seats) (l : n < 16) (r : Reader)
    (er : r ≡ reader_in readers n) where
  position : (j : ℕ) → j < n + 1 → slice_index (set seats.positions n r.position) j ≡ (reader_in readers j).position
  position =
      one_more (λ j. slice_index (set seats.positions n r.position) j ≡ (reader_in readers j).position) n
      (λ j v. get_or-set_other seats.positions n j r.position 0 (omega arith) ∙ a.position j v)
      (get_or-set_same seats.positions n r.position 0 (omega (arith, a.sixteen)) ∙ ap (λ r. r.position) er)

  -- slot n is empty
  pub seated-empty : attached r ≡ false → Seated readers (n + 1) (record seats { positions = set seats.positions n r.position })
  seated-empty e = record {
    sixteen = let q = a.sixteen in simp length-set q;
    position = position;
    pace = one_more (λ j. T (attached (reader_in readers j)) → slice_index seats.paces j ≡ (reader_in readers j).pace) n a.pace vacant;
    reach = one_more (λ j. T (attached (reader_in readers j)) → slice_index seats.lasts j ≡ (reader_in readers j).last) n a.reach vacant;
    slots = λ f j u. one_more (λ j. has_slot (slots_of seats f) j ≡ reads_file f (reader_in readers j)) n (λ j v. a.slots f j u v)
        (a.beyond f n u (omega arith) ∙ rw (← er, e) refl) j;
    beyond = λ f j u m. a.beyond f j u (omega arith);
  }
    where
      vacant : {A : Type 0} → T (attached (reader_in readers n)) → A
      vacant h = absurd (failed (attached r) e (rw er h))

  pub long-empty : Long (record seats { positions = set seats.positions n r.position })
  long-empty = record { paces = long.paces; lasts = long.lasts; slots = long.slots }

  -- slot n has a reader
  module _ (h : attached r ≡ true) (u : r.file < 8) (with : SlotSet) (w : (j : ℕ) → has_slot with j ≡ (eqb j n || has_slot (slots_of seats r.file) j)) where
    abbrev slots : List SlotSet
    slots = set seats.slots r.file with

    abbrev at : ℕ → SlotSet
    at f = get_or slots f (record { 0 = 0 })

    own : (j : ℕ) → has_slot (at r.file) j ≡ (eqb j n || has_slot (slots_of seats r.file) j)
    own j = rw (get_or-set_same seats.slots r.file with (record { 0 = 0 }) (omega (arith, long.slots))) (w j)

    other : (f j : ℕ) → (f ≡ r.file → ⊥) → has_slot (at f) j ≡ has_slot (slots_of seats f) j
    other f j e = rw (get_or-set_other seats.slots r.file f with (record { 0 = 0 }) e) refl

    slots-earlier : (f j : ℕ) → (j ≡ n → ⊥) → Dec (f ≡ r.file) → has_slot (at f) j ≡ has_slot (slots_of seats f) j
    slots-earlier f j q (yes e) = rw e (own j ∙ rw (ne_eqb j n q) refl)
    slots-earlier f j q (no e) = other f j e

    slots-here : (f : ℕ) → f < 8 → Dec (f ≡ r.file) → has_slot (at f) n ≡ reads_file f (reader_in readers n)
    slots-here f v (yes e) = rw (e, ← er, h, eq-eqb r.file r.file refl) (own n ∙ rw (eq-eqb n n refl) refl)
    slots-here f v (no e) = other f n e ∙ a.beyond f n v (omega arith) ∙ rw (← er, h, ne_eqb r.file f (λ q. e (sym q))) refl

    abbrev with_reader : Seats
    with_reader = record {
      positions = set seats.positions n r.position;
      paces = set seats.paces n r.pace;
      lasts = set seats.lasts n r.last;
      slots = slots;
    }

    pub seated-reader : Seated readers (n + 1) with_reader
    seated-reader = record {
      sixteen = let q = a.sixteen in simp length-set q;
      position = position;
      pace =
          one_more (λ j. T (attached (reader_in readers j)) → slice_index (set seats.paces n r.pace) j ≡ (reader_in readers j).pace) n
          (λ j v t. get_or-set_other seats.paces n j r.pace 0 (omega arith) ∙ a.pace j v t)
          (λ t. get_or-set_same seats.paces n r.pace 0 (omega (arith, long.paces)) ∙ ap (λ r. r.pace) er);
      reach =
          one_more (λ j. T (attached (reader_in readers j)) → slice_index (set seats.lasts n r.last) j ≡ (reader_in readers j).last) n
          (λ j v t. get_or-set_other seats.lasts n j r.last 0 (omega arith) ∙ a.reach j v t)
          (λ t. get_or-set_same seats.lasts n r.last 0 (omega (arith, long.lasts)) ∙ ap (λ r. r.last) er);
      slots = λ f j v. one_more (λ j. has_slot (at f) j ≡ reads_file f (reader_in readers j)) n
          (λ j m. slots-earlier f j (λ e. omega arith) (ℕ_discrete f r.file) ∙ a.slots f j v m) (slots-here f v (ℕ_discrete f r.file)) j;
      beyond = λ f j v m. slots-earlier f j (λ e. omega arith) (ℕ_discrete f r.file) ∙ a.beyond f j v (omega arith);
    }

    pub long-reader : Long with_reader
    long-reader =
        let p = long.paces in
        let q = long.lasts in
        let s = long.slots in record { paces = simp length-set p; lasts = simp length-set q; slots = simp length-set s }

-- ---- other readers, at other positions

-- two records alike but for condition and position
pub record Alike (q r : Reader) : Type 0 where
  pub here : attached q ≡ attached r
  pub file-same : q.file ≡ r.file
  pub pace-same : q.pace ≡ r.pace
  pub last-same : q.last ≡ r.last

-- the seats with the positions of others that are alike
module _ (readers others : List Reader) (seats : Seats) (next : List ℕ) (a : Seated readers 16 seats)
    (alike : (j : ℕ) → j < 16 → Alike (reader_in others j) (reader_in readers j)) (sixteen : length next ≡ 16)
    (placed : (j : ℕ) → j < 16 → slice_index next j ≡ (reader_in others j).position) where
  files-alike : (f j : ℕ) → j < 16 → reads_file f (reader_in others j) ≡ reads_file f (reader_in readers j)
  files-alike f j l = rw ((alike j l).here, (alike j l).file-same) refl

  pub seated-alike : Seated others 16 (record seats { positions = next })
  seated-alike = record {
    sixteen = sixteen;
    position = placed;
    pace = λ j l h. a.pace j l (rw (← (alike j l).here) h) ∙ sym (alike j l).pace-same;
    reach = λ j l h. a.reach j l (rw (← (alike j l).here) h) ∙ sym (alike j l).last-same;
    slots = λ f j u l. a.slots f j u l ∙ sym (files-alike f j l);
    beyond = a.beyond;
  }

-- slot n's record becomes one that is alike, and so its position
pub seated-moved : (readers : List Reader) (seats : Seats) → Seated readers 16 seats → length readers ≡ 16 → (n : ℕ) → n < 16 → (q : Reader)
    → Alike q (reader_in readers n) → Seated (set readers n q) 16 (record seats { positions = set seats.positions n q.position })
seated-moved readers seats a sixteen n l q same =
    seated-alike readers (set readers n q) seats (set seats.positions n q.position) a (λ j u. alike j (ℕ_discrete j n))
    (let z = a.sixteen in simp length-set z) (λ j u. placed j u (ℕ_discrete j n))
  where
    alike : (j : ℕ) → Dec (j ≡ n) → Alike (reader_in (set readers n q) j) (reader_in readers j)
    alike j (yes e) = rw (e, get_or-set_same readers n q no_reader (omega (arith, sixteen))) same
    alike j (no e) =
        rw (get_or-set_other readers n j q no_reader e) (record { here = refl; file-same = refl; pace-same = refl; last-same = refl })

    placed : (j : ℕ) → j < 16 → Dec (j ≡ n) → slice_index (set seats.positions n q.position) j ≡ (reader_in (set readers n q) j).position
    placed j u (yes e) =
        rw (e, get_or-set_same seats.positions n q.position 0 (omega (arith, a.sixteen)), get_or-set_same readers n q no_reader (omega (arith, sixteen))) refl
    placed j u (no e) = rw (get_or-set_other seats.positions n j q.position 0 e, get_or-set_other readers n j q no_reader e) (a.position j u)

-- ---- a file's slots, one after the other

-- of the slots from s on, those with a reader of file f are in the set
abbrev pub Left : List Reader → ℕ → ℕ → SlotSet → Type 0
Left readers f s set = (j : ℕ) → s ≤ j → j < 16 → has_slot set j ≡ reads_file f (reader_in readers j)

-- none before it is
abbrev pub NoneBefore : ℕ → SlotSet → Type 0
NoneBefore s set = (j : ℕ) → j < s → has_slot set j ≡ false

-- the first one is taken out
module _ (s slot : ℕ) (old new : SlotSet) (p : Popped old slot new) (none : NoneBefore s old) where
  pub popped-low : s ≤ slot
  popped-low = by (dec_lt slot s)
    where
      by : Dec (slot < s) → s ≤ slot
      by (yes l) = absurd (failed _ (none slot l) p.its)
      by (no l) = omega arith

  pub popped-none : NoneBefore (slot + 1) new
  popped-none j l = p.rest j ∙ by (ℕ_discrete j slot)
    where
      by : Dec (j ≡ slot) → (not (eqb j slot) && has_slot old j) ≡ false
      by (yes e) = rw (eq-eqb j slot e) refl
      by (no e) = rw (ne_eqb j slot e) (p.first j (omega arith))

  -- no other one comes
  pub popped-rest : (j : ℕ) → T (has_slot new j) → T (has_slot old j)
  popped-rest j h = and_second (not (eqb j slot)) _ (rw (p.rest j) at h)

  module _ (readers : List Reader) (f : ℕ) (a : Left readers f s old) where
    pub popped-left : Left readers f (slot + 1) new
    popped-left j l u = p.rest j ∙ rw (ne_eqb j slot (λ e. omega arith)) (a j (omega (arith, popped-low)) u)

    pub popped-reads : T (reads_file f (reader_in readers slot))
    popped-reads = passed _ (sym (a slot popped-low p.low) ∙ is_true _ p.its)

    pub popped-between : (j : ℕ) → s ≤ j → j < slot → T (reads_file f (reader_in readers j)) → ⊥
    popped-between j l u h = failed _ (sym (a j l (omega (arith, p.low))) ∙ p.first j u) h

-- none is left
pub left-none : (readers : List Reader) (f s : ℕ) (set : SlotSet) → ((j : ℕ) → has_slot set j ≡ false) → Left readers f s set
    → (j : ℕ) → s ≤ j → j < 16 → T (reads_file f (reader_in readers j)) → ⊥
left-none readers f s set none a j l u h = failed _ (sym (a j l u) ∙ none j) h

-- where no reader of the file stands past page 1,024, neither do the seats have one there
pub seats-fit : (readers : List Reader) (seats : Seats) (f : ℕ) → f < 8 → Seated readers 16 seats → PositionsFit readers f → SeatsFit seats f
seats-fit readers seats f l a fit j h = by (dec_lt j 16)
  where
    by : Dec (j < 16) → slice_index seats.positions j ≤ 1024
    by (yes u) = rw (a.position j u) (fit j (rw (a.slots f j l u) at h))
    by (no u) = absurd (failed _ (a.beyond f j l (omega arith)) h)

-- the seats have the record of a slot with a reader of the file
module _ (readers : List Reader) (seats : Seats) (a : Seated readers 16 seats) (f j : ℕ) (u : j < 16) (reads : T (reads_file f (reader_in readers j))) where
  pub reach-is : slice_index seats.lasts j ≡ (reader_in readers j).last
  reach-is = a.reach j u (and_first (attached (reader_in readers j)) _ reads)
