-- Attach, Read, Detach and Measure change one reader record and its mark: the other fifteen, the settings and the cached map stay. Measure changes nothing of
-- the record but the pace. Assumes nothing.
use Prim.Native.Nat.{ℕ, zero, suc}
use mathlib.Core.Path.{◌≡◌, refl}
use mathlib.Core.List.{List, [], ◌∷◌}
use mathlib.Core.Logic.{◌≢◌}
use lib.ListN.{get_or, set}
use lib.Seq.{get_or-set_other}
use Rattle.rules.specs.Readers.{no_reader, reader_at, mark_at}
use Rattle.rules.specs.Calls.{
  reply,
  refused,
  with_reader,
  with_slot,
  with_fetching,
  counted_attach,
  attach_of,
  read_running,
  read_of,
  detach_of,
  measured,
  measure_of,
}
use Rattle.rules.specs.Entries.{Call, attach, read, detach, measure, call_of}
use Rattle.rules.specs.declared.State.{State}
use Rattle.rules.specs.declared.Reader.{Reader}
use Rattle.rules.specs.declared.Refusal.{Refusal}
use Rattle.rules.specs.declared.Reply.{Reply}
use Rattle.rules.specs.declared.Answer.TheVariants.{Done}
use Rattle.rules.proofs.laws.Cases.{cond-all, condition-all}

-- the calls of a slot
pub data SlotCall : Type 0 where
  attaching : ℕ → ℕ → ℕ → ℕ → SlotCall
  reading : SlotCall
  detaching : SlotCall
  measuring : ℕ → ℕ → SlotCall

-- such a call at a slot
abbrev pub call_at : SlotCall → ℕ → Call
call_at (attaching file pace start last) slot = attach slot file pace start last
call_at reading slot = read slot
call_at detaching slot = detach slot
call_at (measuring interval blocked) slot = measure slot interval blocked

-- t is s but for the record and the mark of the slot, the fetch map, and how often readers were attached
pub record ButSlot (s : State) (slot : ℕ) (t : State) : Type 0 where
  pub others : (j : ℕ) → j ≢ slot → reader_at t j ≡ reader_at s j
  pub marks : (j : ℕ) → j ≢ slot → mark_at t j ≡ mark_at s j
  pub frames : t.frames ≡ s.frames
  pub turn : t.turn ≡ s.turn
  pub look-ahead : t.look_ahead ≡ s.look_ahead
  pub fetch-time : t.fetch_time ≡ s.fetch_time
  pub sizes : t.sizes ≡ s.sizes
  pub rule : t.rule ≡ s.rule
  pub expected : t.expected ≡ s.expected
  pub cached : t.cached ≡ s.cached

same-state : (s : State) (slot : ℕ) → ButSlot s slot s
same-state s slot =
    record {
      others = λ j _. refl;
      marks = λ j _. refl;
      frames = refl;
      turn = refl;
      look-ahead = refl;
      fetch-time = refl;
      sizes = refl;
      rule = refl;
      expected = refl;
      cached = refl;
    }

slot-set : (s : State) (slot : ℕ) (r : Reader) (mark : ℕ) → ButSlot s slot (with_slot s slot r mark)
slot-set s slot r mark =
    record {
      others = λ j ne. get_or-set_other s.readers slot j r no_reader ne;
      marks = λ j ne. get_or-set_other s.marks slot j mark 0 ne;
      frames = refl;
      turn = refl;
      look-ahead = refl;
      fetch-time = refl;
      sizes = refl;
      rule = refl;
      expected = refl;
      cached = refl;
    }

-- one reader more counted for a file
slot_counted : (s : State) (slot : ℕ) (r : Reader) (mark file : ℕ) → ButSlot s slot (counted_attach (with_slot s slot r mark) file)
slot_counted s slot r mark file =
    let h = slot-set s slot r mark in
    record {
      others = h.others;
      marks = h.marks;
      frames = refl;
      turn = refl;
      look-ahead = refl;
      fetch-time = refl;
      sizes = refl;
      rule = refl;
      expected = refl;
      cached = refl;
    }

-- without the mark, and with another fetch map
record-set : (s : State) (slot : ℕ) (r : Reader) (fetching : List ℕ) → ButSlot s slot (with_fetching (with_reader s slot r) fetching)
record-set s slot r fetching =
    let h = slot-set s slot r 0 in
    record {
      others = h.others;
      marks = λ j _. refl;
      frames = refl;
      turn = refl;
      look-ahead = refl;
      fetch-time = refl;
      sizes = refl;
      rule = refl;
      expected = refl;
      cached = refl;
    }

-- so is the reply's state
abbrev One : State → ℕ → Reply → Type 0
One s slot r = ButSlot s slot r.state

-- the four calls change no other record, no setting and not the cached map
pub one-record : (c : SlotCall) (s : State) (slot : ℕ) → ButSlot s slot (call_of (call_at c slot) s).state
unfolding attach_of read_of read_running detach_of measure_of
one-record (attaching file pace start last) s slot = search (cond-all (One s slot), condition-all (One s slot), same-state, slot_counted) depth 12
one-record reading s slot = search (cond-all (One s slot), condition-all (One s slot), same-state, record-set) depth 12
one-record detaching s slot = search (cond-all (One s slot), condition-all (One s slot), same-state, slot-set) depth 12
one-record (measuring interval blocked) s slot = search (cond-all (One s slot), condition-all (One s slot), same-state, slot-set) depth 12

-- q is r but for its pace
pub record ButPace (r q : Reader) : Type 0 where
  pub condition : q.condition ≡ r.condition
  pub file : q.file ≡ r.file
  pub position : q.position ≡ r.position
  pub last : q.last ≡ r.last

same-pace : (r : Reader) → ButPace r r
same-pace r = record { condition = refl; file = refl; position = refl; last = refl }

-- a record set in a list is there, or has no place in it
set-either : {A : Type 0} (P : A → Type 0) (l : List A) (i : ℕ) (x d : A) → P x → P (get_or l i d) → P (get_or (set l i x) i d)
set-either P [] i x d p q = q
set-either P (y ∷ l) zero x d p q = p
set-either P (y ∷ l) (suc i) x d p q = set-either P l i x d p q

-- of the slot, Measure changes nothing but pace and mark, and it leaves the fetch map
pub pace-and-mark : (s : State) (slot interval blocked : ℕ)
    → ButPace (reader_at s slot) (reader_at (measure_of s slot interval blocked).state slot)
    × ((measure_of s slot interval blocked).state.fetching ≡ s.fetching)
unfolding measure_of
pace-and-mark s slot interval blocked = search (cond-all Only, condition-all Only, left, done) depth 12
  where
    Only : Reply → Type 0
    Only r = ButPace (reader_at s slot) (reader_at r.state slot) × (r.state.fetching ≡ s.fetching)

    left : (why : Refusal) → Only (refused s why)
    left why = (same-pace (reader_at s slot), refl)

    done : Only (reply (measured s slot interval blocked) Done)
    done = (
      set-either (ButPace (reader_at s slot)) s.readers slot _ no_reader
          (record { condition = refl; file = refl; position = refl; last = refl }) (same-pace (reader_at s slot)),
      refl,
    )
