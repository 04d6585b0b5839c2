-- An arrival within a turn of a Run: it is the rule's Arrive, and leaves the heads of the files that it does not touch. Assumes nothing.
use Rattle.std.proofs.Common.{ℕ, ◌/◌, ◌%◌, ◌<◌, ◌≡◌, ◌≢◌, ◌∙◌, Bool, true, false, ◌||◌, List, Option, Some, leb, ltb, eqb, refl, sym, ap, ap₂, subst, arith}
use mathlib.Core.Logic.{inl}
use lib.ListN.{get_or-map}
use native.Mathlib.Decide.{ℕ_discrete}
use borrow.Author.Tests.{eq-eqb}
use Rattle.bits.specs.Map.{bit, on, put_bit}
use Rattle.bits.proofs.Bits.{bit_le}
use Rattle.rules.specs.Pages.{size, file_of, key_of, Page}
use Rattle.rules.specs.Readers.{no_reader, reader_at, next_key, in_condition}
use Rattle.rules.specs.UseTimes.{present}
use Rattle.rules.specs.Valid.{Valid}
use Rattle.rules.specs.Calls.{reply, without, dropped, woken, landed, for_fetch, arrive_of}
use Rattle.rules.specs.declared.State.{State}
use Rattle.rules.specs.declared.Reader.{Reader}
use Rattle.rules.specs.declared.View.{View}
use Rattle.rules.specs.declared.Answer.{Answer}
use Rattle.rules.specs.declared.Condition.TheVariants.{Running, Waiting}
use Rattle.rules.proofs.laws.Tests.{less, leq, key, is_true}
use Rattle.rules.proofs.laws.Cases.{passed, cond-all, condition-all}
use Rattle.rules.proofs.orders.Local.{AlikeReader, alike_same, SameFile}
use Rattle.files.specs.declared.Shares.{Shares}
use Rattle.uses.specs.declared.Terms.{Terms}
use Rattle.uses.specs.declared.Seats.{Seats}
use Rattle.uses.specs.Sights.{state_under}
use Rattle.heads.specs.Heads.{Kept, Forgot}
use Rattle.heads.specs.declared.Heads.{Heads}
use Rattle.heads.proofs.Keeping.{head-same, kept-over}
use Rattle.calls.specs.Inner.{eased, arrival_of}
use Rattle.turns.specs.Places.{Coming, after_arrival}
use Rattle.turns.proofs.Untouched.{on-other, eased-other}

-- a reader that runs again is alike in what the orders read
woken-alike : (k : ℕ) (r : Reader) → AlikeReader (woken k r) r
unfolding woken
woken-alike k r =
    condition-all (λ q. AlikeReader q r) r.condition _ _ _ (λ _. alike_same refl) (λ _. alike_same refl)
    (λ e. cond-all (λ q. AlikeReader q r) (eqb (next_key r) k) _ _ (λ _. runs e) (λ _. alike_same refl))
  where
    runs : r.condition ≡ Waiting → AlikeReader (in_condition Running r) r
    runs e = record { attached-same = rw e refl; file-same = refl; pace-same = refl; position-same = refl; last-same = refl }

module _ (v : View) (t : Terms) (shares : Option Shares) (seats : Seats) (heads : Heads) (map fetching : List ℕ) (file page : ℕ) (w : View)
    (g : Coming v t shares seats heads map fetching file page w) where
  abbrev s : State
  s = state_under t w map fetching

  here : Valid s
  here = g.sighted.valid

  abbrev k : ℕ
  k = key_of file page

  its : Page s k
  its = here.fetching_in k g.opened

  -- the page has a bit, which is clear
  pub arriving-low : k < 8192
  arriving-low = its.low

  pub arriving-clear : bit map k ≡ 0
  arriving-clear = by (ℕ_discrete (bit map k) 1)
    where
      by : Dec (bit map k ≡ 1) → bit map k ≡ 0
      by (yes e) = absurd (here.apart k (passed _ (eq-eqb (bit map k) 1 e)) g.opened)
      by (no e) = omega (arith, bit_le map k)

  -- Arrive refuses nothing of it
  pub arrive-is : arrive_of s file page ≡ reply (landed s k) (arrival_of (dropped s))
  unfolding arrive_of for_fetch
  arrive-is =
      let its-file : k / 1024 ≡ file = omega (arith, g.file_high, g.page_low, g.page_high) in
      let its-size : k % 1024 < size s file = subst (λ f. k % 1024 < size s f) its-file (omega (arith, its.there)) in
      let p : ltb 7 file ≡ false = less 7 file (λ b. b ≡ false) (λ l. absurd (omega (arith, g.file_high))) (λ _. refl) in
      let q : eqb (size s file) 0 ≡ false = key (size s file) 0 (λ b. b ≡ false) (λ e. absurd (omega (arith, e, its-size))) (λ _. refl) in
      let x : leb 1 page ≡ true = leq 1 page (λ b. b ≡ true) (λ _. refl) (λ l. absurd (omega (arith, g.page_low))) in
      let y : leb page (size s file) ≡ true =
      leq page (size s file) (λ b. b ≡ true) (λ _. refl) (λ l. absurd (omega (arith, its-size, g.page_low, g.page_high))) in
      rw (p, q, x, y, is_true (on fetching k) g.opened) refl

  -- so these are the maps that it leaves
  pub arrived-maps : (a : Answer) (map' still : List ℕ) → reply (after_arrival s k map' still) a ≡ arrive_of s file page
      → (map' ≡ put_bit (eased map (dropped s)) k 1) × (still ≡ without fetching k)
  unfolding landed
  arrived-maps a map' still told =
      let e = told ∙ arrive-is in (ap (λ r. r.state.cached) e, ap (λ r. r.state.fetching) e)

  module _ (gone : Option ℕ) (eg : gone ≡ dropped s) (map' still : List ℕ) (em : map' ≡ put_bit (eased map gone) k 1) (es : still ≡ without fetching k) where
    -- readers, maps and answer are the rule's
    pub arrives : (a : Answer) → a ≡ arrival_of gone → reply (after_arrival s k map' still) a ≡ arrive_of s file page
    unfolding landed
    arrives a ea = rw (em, es, ea, eg) (sym arrive-is)

    -- what is not to be forgotten then
    abbrev Stays : ℕ → Type 0
    Stays f = (f ≢ file_of k) × ((i : ℕ) → gone ≡ Some i → file_of i ≢ f)

    alike : (f : ℕ) → Stays f → SameFile f (after_arrival s k map' still) s
    unfolding present woken
    alike f n = record {
      like = record {
        look-same = refl;
        time-same = refl;
        size_same = refl;
        readers-same = λ j. inl (subst (λ q. AlikeReader q (reader_at s j)) (sym (get_or-map (woken k) w.readers j no_reader)) (woken-alike k (reader_at s j)));
        cached-same = λ i q. map_same i q;
        present-same = λ _ i q. ap₂ (λ (a b : Bool). a || b) (map_same i q) (rw es (on-other fetching k 0 i (omega arith) (away i q)));
      };
      turn-same = refl;
    }
      where
        away : (i : ℕ) → file_of i ≡ f → i ≢ k
        away i q z = n.0 (sym q ∙ ap file_of z)

        map_same : (i : ℕ) → file_of i ≡ f → on map' i ≡ on map i
        map_same i q = rw em (on-other (eased map gone) k 1 i (omega arith) (away i q) ∙ eased-other map gone i (λ j h. rw q (n.1 j h)))

    -- the heads of the page's file and of the file of the page that went are to be forgotten
    pub kept-arrived : (known left : Heads) → Forgot known Stays left → Kept s t.done known → Kept (after_arrival s k map' still) t.done left
    kept-arrived known left o =
        kept-over s (after_arrival s k map' still) t.done t.done known left Stays o
        (λ f l n. head-same s (after_arrival s k map' still) t.done f (alike f n))
