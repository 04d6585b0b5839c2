-- What a turn does to the readers: the premises of the third statement are kept, and the requests go on. Assumes nothing.
use mathlib.Core.Path.{◌≡◌, refl, sym, ap, ap₂, ◌∙◌, subst, fun_ext}
use mathlib.Core.Bool.{Bool, true, false, not, cond, ◌&&◌}
use mathlib.Core.List.{List}
use Rattle.std.specs.declared.option.Option.TheVariants.{Some, None}
use mathlib.Core.Logic.{◌≢◌}
use Prim.Native.Nat.{ℕ, ◌+◌, ◌≤◌}
use native.Mathlib.Omega.{arith}
use lib.ListN.{get_or, set, length}
use lib.Seq.{get_or-set_same, get_or-set_other}
use lib.Dec.{T, ltb, eqb}
use Rattle.rules.specs.Lists.{only}
use Rattle.rules.specs.Pages.{in_fetch, pages, fetching_pages}
use Rattle.rules.specs.Readers.{no_reader, reader_at, attached, next_key, onward}
use Rattle.rules.specs.Valid.{Valid}
use Rattle.rules.specs.Calls.{with_readers, with_cached, with_fetching}
use Rattle.rules.specs.Run.{fetch_open, next_turn}
use Rattle.rules.specs.Third.{Covers, Premises, goes, moved_on}
use Rattle.rules.proofs.laws.Tests.{less, key}
use Rattle.rules.proofs.calls.Valids.{placed_at}
use Rattle.bits.specs.Map.{on}
use Rattle.rules.proofs.third.Scan.{vacant, reader, code, page_at, advance, after}
use Rattle.rules.proofs.third.Bridge.{scanned, slots}
use Rattle.rules.specs.declared.State.{State}
use Rattle.rules.specs.declared.Reader.{Reader}

-- the reader whose turn it is
abbrev pub now_at : State → Reader
now_at s = reader_at s s.turn

-- whether it has a page to read, and that page
abbrev pub goes_now : State → Bool
goes_now s = goes (reader_at s s.turn)

abbrev pub key_now : State → ℕ
key_now s = next_key (reader_at s s.turn)

-- the state after a turn that leaves these maps: the turn's reader has moved on, if it goes
abbrev pub left : State → List ℕ → List ℕ → State
left s held fetching = with_fetching (with_cached (with_readers (next_turn s) (moved_on s.readers s.turn)) held) fetching

-- a reader that is in its file goes on where it is not yet at the last page
goes-below : (r : Reader) → (T (attached r) → r.position ≤ r.last)
    → goes r ≡ (attached r && ltb r.position r.last)
unfolding goes
goes-below r = go (attached r)
  where
    go : (t : Bool) → (T t → r.position ≤ r.last) → (t && not (eqb r.position r.last)) ≡ (t && ltb r.position r.last)
    go false l = refl
    go true l = key r.position r.last (λ b. not b ≡ ltb r.position r.last)
        (λ e. less r.position r.last (λ b. false ≡ b) (λ h. absurd (omega arith)) (λ _. refl))
        (λ ne. less r.position r.last (λ b. true ≡ b) (λ _. refl) (λ h. absurd (omega (arith, l tt))))

-- such a reader's slot after its turn
slot-on : (r : Reader) → (T (attached r) → r.position ≤ r.last)
    → scanned (cond (goes r) (onward r) r) ≡ advance (scanned r)
unfolding scanned advance
slot-on r l = rw (goes-below r l) (go (attached r) (ltb r.position r.last) refl refl)
  where
    go : (a b : Bool) → attached r ≡ a → ltb r.position r.last ≡ b
        → scanned (cond (a && b) (onward r) r) ≡ advance (cond a (reader r.file r.position r.last) vacant)
    go true true e e' = rw (e, e')
    go true false e e' = rw (e, e')
    go false b e e' = rw e

-- what such a reader reads at its turn
pub page-now : (r : Reader) → (T (attached r) → r.position ≤ r.last)
    → page_at (scanned r) 0 ≡ cond (goes r) (Some (next_key r)) None
unfolding scanned page_at
page-now r l = rw (goes-below r l) (go (attached r))
  where
    go : (a : Bool)
        → page_at (cond a (reader r.file r.position r.last) vacant) 0
        ≡ cond (a && ltb r.position r.last) (Some (next_key r)) None
    go true =
        let here : r.position + 0 ≡ r.position = omega arith in
        let k : code r.file (r.position + 0) ≡ next_key r = omega arith in
        ap₂ (λ c k. cond (ltb c r.last) (Some k) None) here k
    go false = refl

module _ (s : State) (v : Valid s) where
  -- the position is in the file
  pub position_in : (j : ℕ) → T (attached (reader_at s j)) → (reader_at s j).position ≤ (reader_at s j).last
  position_in j a = (placed_at s v j a).position_in

  -- slot j's record after the turn
  moved_at : (j : ℕ)
      → get_or (moved_on s.readers s.turn) j no_reader
      ≡ cond (eqb s.turn j) (cond (goes (reader_at s j)) (onward (reader_at s j)) (reader_at s j)) (reader_at s j)
  moved_at j =
      key s.turn j
      (λ b. get_or (moved_on s.readers s.turn) j no_reader
      ≡ cond b (cond (goes (reader_at s j)) (onward (reader_at s j)) (reader_at s j)) (reader_at s j))
      (λ e. subst
      (λ i. get_or (moved_on s.readers s.turn) i no_reader
      ≡ cond (goes (reader_at s i)) (onward (reader_at s i)) (reader_at s i))
      e (own (goes_now s)))
      (λ ne. other ne (goes_now s))
    where
      own : (t : Bool) → get_or (cond t (set s.readers s.turn (onward (now_at s))) s.readers) s.turn no_reader ≡ cond t (onward (now_at s)) (now_at s)
      own true = get_or-set_same s.readers s.turn (onward (now_at s)) no_reader (omega (arith, v.sixteen, v.turn_high))
      own false = refl

      other : s.turn ≢ j → (t : Bool) → get_or (cond t (set s.readers s.turn (onward (now_at s))) s.readers) j no_reader ≡ reader_at s j
      other ne true = get_or-set_other s.readers s.turn j (onward (now_at s)) no_reader (λ e. ne (sym e))
      other ne false = refl

  -- what holds of a record, moved on or not, holds of it after the turn
  moved_all : (P : Reader → Type 0) (j : ℕ) → P (reader_at s j) → P (onward (reader_at s j)) → P (get_or (moved_on s.readers s.turn) j no_reader)
  moved_all P j y n = rw (moved_at j) (go (eqb s.turn j) (goes (reader_at s j)))
    where
      go : (a b : Bool) → P (cond a (cond b (onward (reader_at s j)) (reader_at s j)) (reader_at s j))
      go true true = n
      go true false = y
      go false b = y

  -- the slots after the turn
  pub slots-left : (held fetching : List ℕ) → slots (left s held fetching) ≡ after (slots s) s.turn
  unfolding slots
  slots-left held fetching = fun_ext (λ j. ap scanned (moved_at j) ∙ go j)
    where
      go : (j : ℕ) → scanned (cond (eqb s.turn j) (cond (goes (reader_at s j)) (onward (reader_at s j)) (reader_at s j)) (reader_at s j))
          ≡ cond (eqb s.turn j) (advance (scanned (reader_at s j))) (scanned (reader_at s j))
      go j =
          key s.turn j
          (λ b.
          scanned (cond b (cond (goes (reader_at s j)) (onward (reader_at s j)) (reader_at s j)) (reader_at s j))
          ≡ cond b (advance (scanned (reader_at s j))) (scanned (reader_at s j)))
          (λ _. slot-on (reader_at s j) (position_in j)) (λ _. refl)

  -- the premises are kept where no other page is in fetch
  pub premises-left : (w : ℕ) → Premises s w → (held fetching : List ℕ) → on fetching ≡ in_fetch s → Premises (left s held fetching) w
  unfolding fetch_open fetching_pages pages
  premises-left w p held fetching e = record {
    one_pace = λ j. moved_all (λ r. T (attached r) → r.pace ≡ w) j (p.one_pace j) (p.one_pace j);
    no_time = p.no_time;
    covers = λ j. moved_all (λ r. T (attached r) → Covers s w r) j (p.covers j) (p.covers j);
    none_open = ap (λ f. not (eqb (length (only f (pages s))) 0)) e ∙ p.none_open;
    by_1989 = p.by_1989;
  }
