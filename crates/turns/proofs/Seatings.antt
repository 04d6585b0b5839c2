-- The readers and their seats over the turns of a Run: one record after the other, and one position moved. Assumes nothing.
use Rattle.std.proofs.Common.{ℕ, ◌+◌, ◌≤◌, ◌<◌, ◌≡◌, ◌∙◌, List, refl, sym, ap, arith, set, length, length-set, get_or-set_same, get_or-set_other, slice_index}
use lib.Seq.{ext_get_or}
use native.Mathlib.Decide.{ℕ_discrete}
use Rattle.rules.specs.Readers.{no_reader, reader_in}
use Rattle.rules.proofs.laws.Below.{one_more}
use Rattle.rules.specs.declared.Reader.{Reader}
use Rattle.rules.specs.declared.View.{View}
use Rattle.uses.specs.declared.Seats.{Seats}
use Rattle.uses.specs.Seats.{Seated}
use Rattle.uses.proofs.Seating.{seated-moved}
use Rattle.parts.specs.Positions.{moved_to}
use Rattle.turns.specs.Places.{reseated, moved_seat, Following}

-- `after` are these readers, each at the position of its slot's seat, and the seats are those of `after`
pub record Posed (readers : List Reader) (seats : Seats) (after : List Reader) : Type 0 where
  pub moved : (j : ℕ) → j < 16 → reader_in after j ≡ moved_to (slice_index seats.positions j) (reader_in readers j)
  pub seated : Seated after 16 seats

-- ---- the records put at their positions

-- the first n are, and the others are as they were
pub record Moved (readers : List Reader) (positions : List ℕ) (n : ℕ) (next : List Reader) : Type 0 where
  pub sixteen : length next ≡ 16
  pub done : (j : ℕ) → j < n → reader_in next j ≡ moved_to (slice_index positions j) (reader_in readers j)
  pub left : (j : ℕ) → n ≤ j → reader_in next j ≡ reader_in readers j

-- none
pub moved_none : (readers : List Reader) (positions : List ℕ) → length readers ≡ 16 → Moved readers positions 0 readers
moved_none readers positions e = record { sixteen = e; done = λ j l. absurd (omega arith); left = λ j l. refl }

-- one more
pub moved_more : (readers : List Reader) (positions : List ℕ) (n : ℕ) (next : List Reader) (q : Reader) → n < 16 → Moved readers positions n next
    → q ≡ moved_to (slice_index positions n) (reader_in next n) → Moved readers positions (n + 1) (set next n q)
moved_more readers positions n next q l a e = record {
  sixteen = let z = a.sixteen in simp length-set z;
  done = one_more (λ j. reader_in (set next n q) j ≡ moved_to (slice_index positions j) (reader_in readers j)) n
      (λ j h. get_or-set_other next n j q no_reader (omega arith) ∙ a.done j h)
      (get_or-set_same next n q no_reader (omega (arith, a.sixteen)) ∙ e ∙ ap (moved_to (slice_index positions n)) (a.left n (omega arith)));
  left = λ j h. get_or-set_other next n j q no_reader (omega arith) ∙ a.left j (omega arith);
}

-- all: the view after some turns has these readers
pub following-is : (v w : View) (slot : ℕ) (seats : Seats) (after : List Reader) → Following v slot seats.positions w → length after ≡ 16
    → Posed v.readers seats after → w ≡ reseated v slot after
following-is v w slot seats after f e p = f.same ∙ ap (reseated v slot) readers
  where
    readers : w.readers ≡ after
    readers = ext_get_or no_reader w.readers after (f.sixteen ∙ sym e)
        (λ j h. f.moved j (omega (arith, f.sixteen)) ∙ sym (p.moved j (omega (arith, f.sixteen))))

-- ---- over the turns

-- at first
pub posed-first : (readers : List Reader) (seats : Seats) → Seated readers 16 seats → Posed readers seats readers
posed-first readers seats a = record { moved = λ j l. ap (λ p. moved_to p (reader_in readers j)) (sym (a.position j l)); seated = a }

-- after a turn of slot n
posed-next : (readers : List Reader) (seats : Seats) (after : List Reader) (n p : ℕ) → n < 16 → length after ≡ 16 → Posed readers seats after
    → Posed readers (moved_seat seats n p) (set after n (moved_to p (reader_in after n)))
posed-next readers seats after n p l e a = record {
  moved = λ j u. by j u (ℕ_discrete j n);
  seated = seated-moved after seats a.seated e n l (moved_to p (reader_in after n))
      (record { here = refl; file-same = refl; pace-same = refl; last-same = refl });
}
  where
    by : (j : ℕ) → j < 16 → Dec (j ≡ n)
        → reader_in (set after n (moved_to p (reader_in after n))) j ≡ moved_to (slice_index (set seats.positions n p) j) (reader_in readers j)
    by j u (yes z) =
        rw (
          z,
          get_or-set_same after n (moved_to p (reader_in after n)) no_reader (omega (arith, e)),
          get_or-set_same seats.positions n p 0 (omega (arith, a.seated.sixteen)),
        )
        (ap (moved_to p) (a.moved n l))
    by j u (no z) =
        rw (get_or-set_other after n j (moved_to p (reader_in after n)) no_reader z, get_or-set_other seats.positions n j p 0 z) (a.moved j u)

-- after a turn of the slot that left these seats
pub posed-made : (readers : List Reader) (seats seats' : Seats) (after : List Reader) (n p : ℕ) → n < 16 → length after ≡ 16 → Posed readers seats after
    → seats' ≡ moved_seat seats n p → Posed readers seats' (set after n (moved_to p (reader_in after n)))
posed-made readers seats seats' after n p l e a es = rw es (posed-next readers seats after n p l e a)
