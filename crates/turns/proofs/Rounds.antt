-- One turn by its Reads and the maps, and one more at the end of those made. Assumes nothing.
use Prim.Native.Nat.{ℕ, zero, suc, ◌+◌, ◌≤◌, ◌<◌}
use mathlib.Core.Path.{◌≡◌, refl, sym, ap, ap₂, subst, ◌∙◌}
use mathlib.Core.Bool.{Bool, true, false, not, cond}
use mathlib.Core.List.{List, []}
use native.Mathlib.Omega.{arith}
use native.Mathlib.Nat.{zero-add, suc-add, add_assoc, add-zero}
use lib.ListN.{get_or, set, length}
use lib.Seq.{get_or-set_same}
use lib.Dec.{T, ltb}
use Rattle.std.specs.declared.option.Option.{Option}
use Rattle.bits.specs.Map.{put_bit, on}
use Rattle.rules.specs.Pages.{cached, in_fetch}
use Rattle.rules.specs.Readers.{no_reader, reader_at, attached, by_condition, onward}
use Rattle.rules.specs.Valid.{Valid}
use Rattle.rules.specs.Calls.{reply, refused, with_readers, with_reader, with_fetching, with_cached, without, read_of, arrive_of, dropped}
use Rattle.rules.specs.Run.{on_fetch, hit_page, next_turn, ended, read_turn, turn_of, Turn, Turns, turns_of}
use Rattle.rules.specs.declared.Refusal.TheVariants.{SlotEmpty}
use Rattle.rules.specs.declared.State.{State}
use Rattle.rules.specs.declared.Reader.{Reader}
use Rattle.rules.specs.declared.Reply.{Reply}
use Rattle.rules.specs.declared.Answer.{Answer}
use Rattle.rules.specs.declared.Answer.TheVariants.{Hit, Fetch}
use Rattle.rules.specs.declared.Condition.{Condition}
use Rattle.rules.specs.declared.Condition.TheVariants.{Empty, Running, Waiting}
use Rattle.rules.proofs.laws.Cases.{cond_no, cond-all, fetch-all, outcomes}
use Rattle.rules.proofs.calls.Kept.{turn-kept}
use Rattle.rules.proofs.third.Moves.{now_at, goes_now, key_now}
use Rattle.rules.proofs.third.Turns.{awaiting, read_by, asked, read-stored, stored, stored_there, emptied, emptied-same, hit-turn, fetch-turn}
use Rattle.calls.specs.Inner.{stepped, eased}
use Rattle.calls.specs.declared.Step.{Step}
use Rattle.parts.specs.Positions.{moved_to}
use Rattle.turns.specs.Tallies.{Tally, tally, so_far}
use Rattle.turns.proofs.Answers.{NoFetch, not-fetch, one_hit}

-- ---- what Read says of the turn's record

-- F is 1, and any other answer 0
abbrev fetches : Answer → ℕ
fetches a = on_fetch a (λ _ _. 1) 0

-- what a Read of the slot leaves: its record there, and the fetch map
module _ (s : State) (v : Valid s) (slot : ℕ) (low : slot < 16) (q : Step) (still : List ℕ) (r : Reply) (e : stepped s slot q still ≡ r) where
  read-record : q.reader ≡ reader_at r.state slot
  read-record =
      sym (get_or-set_same s.readers slot q.reader no_reader (omega (arith, v.sixteen))) ∙ ap (λ r. reader_at r.state slot) e

  read-map : still ≡ r.state.fetching
  read-map = ap (λ r. r.state.fetching) e

module _ (s : State) (v : Valid s) (closed : (k : ℕ) → T (in_fetch s k) → ⊥) (q : Step) (still : List ℕ)
    (e : stepped s s.turn q still ≡ read_of s s.turn) where
  answer-is : q.answer ≡ (read_of s s.turn).answer
  answer-is = ap (λ r. r.answer) e

  -- without F the reader moves at most, and no page is in fetch
  pub read-moves : NoFetch q.answer → (q.reader ≡ moved_to q.reader.position (now_at s)) × (still ≡ s.fetching)
  read-moves k =
      let no : fetches (read_of s s.turn).answer ≡ 0 = ap fetches (sym answer-is) ∙ sym (not-fetch q.answer (λ _ _. 1) 0 k) in
      let both = read_by s v closed Left (λ _. (at_rest, refl)) (λ _. (at_rest, refl)) (λ _ _ _. (gone-on, refl)) (λ _ _ z. absurd (omega arith)) no in (
        subst (λ x. x ≡ moved_to x.position (now_at s)) (sym (read-record s v s.turn v.turn_high q still _ e)) both.0,
        read-map s v s.turn v.turn_high q still _ e ∙ both.1,
      )
    where
      At : Reader → Type 0
      At x = x ≡ moved_to x.position (now_at s)

      Left : Reply → Type 0
      Left r = fetches r.answer ≡ 0 → At (reader_at r.state s.turn) × (r.state.fetching ≡ s.fetching)

      at_rest : At (now_at s)
      at_rest = refl

      gone-on : At (get_or (set s.readers s.turn (onward (now_at s))) s.turn no_reader)
      gone-on = rw (get_or-set_same s.readers s.turn (onward (now_at s)) no_reader (omega (arith, v.sixteen, v.turn_high))) refl

  -- with F the reader has a page to read that is not cached, and that page is in fetch
  pub read-begins : (file page : ℕ) → q.answer ≡ Fetch file page
      → T (goes_now s) × T (not (cached s (key_now s))) × (still ≡ put_bit s.fetching (key_now s) 1)
      × (file ≡ (now_at s).file) × (page ≡ (now_at s).position + 1)
  read-begins file page k =
      let yes : fetches (read_of s s.turn).answer ≡ 1 = ap fetches (sym answer-is ∙ k) in
      let all = read_by s v closed Left (λ z. absurd (omega arith)) (λ z. absurd (omega arith)) (λ _ _ z. absurd (omega arith)) (λ g o _. (g, o, refl)) yes in
      let told : Fetch (now_at s).file ((now_at s).position + 1) ≡ Fetch file page =
      sym (ap (λ r. r.answer) (asked s v closed all.0 all.1)) ∙ sym answer-is ∙ k in
      (all.0, all.1, read-map s v s.turn v.turn_high q still _ e ∙ all.2, cc, cc)
    where
      Left : Reply → Type 0
      Left r = fetches r.answer ≡ 1 → T (goes_now s) × T (not (cached s (key_now s))) × (r.state.fetching ≡ put_bit s.fetching (key_now s) 1)

-- ---- one turn

-- Read of an empty slot is refused and changes nothing
read-empty : (s : State) → s.turn < 16 → (reader_at s s.turn).condition ≡ Empty → read_of s s.turn ≡ refused s SlotEmpty
unfolding read_of
read-empty s l e =
    let h : s.turn ≤ 15 = omega arith in
    cond_no (λ r. r ≡ refused s SlotEmpty) (ltb 15 s.turn) _ _ (search outcomes) (rw e)

-- so a turn may call Read of any slot
turn-reads : (s : State) → s.turn < 16 → read_turn s ≡ turn_of s
unfolding turn_of read_turn
turn-reads s l = go (reader_at s s.turn).condition refl
  where
    idle : Turn
    idle = record { after = next_turn s; fetched = 0; hit = [] }

    go : (c : Condition) → (reader_at s s.turn).condition ≡ c → read_turn s ≡ cond (by_condition c false true true) (read_turn s) idle
    go Empty e = rw (read-empty s l e)
    go Running e = refl
    go Waiting e = refl

module _ (s : State) (v : Valid s) (closed : (k : ℕ) → T (in_fetch s k) → ⊥) (r : Reader) (er : r ≡ now_at s) where
  -- a Read that meets no F ends the turn: its reader has moved at most
  pub turn-ends : (q : Step) (still : List ℕ) → stepped s s.turn q still ≡ read_of s s.turn → NoFetch q.answer
      → record {
        after = with_fetching (with_readers (next_turn s) (set s.readers s.turn (moved_to q.reader.position r))) still;
        fetched = 0;
        read = length (hit_page q.answer);
      } ≡ tally (turn_of s)
  unfolding read_turn
  turn-ends q still e k =
      let t : ended 0 (stepped s s.turn q still) ≡ read_turn s = rw (← e) (not-fetch q.answer _ _ k) in
      let moved : moved_to q.reader.position r ≡ q.reader = rw er (sym (read-moves s v closed q still e k).0) in
      rw moved (ap tally (t ∙ turn-reads s v.turn_high))

  -- one that meets F: the page is put in, and the second Read moves the reader on
  module _ (g : T (goes_now s)) (o : T (not (cached s (key_now s)))) (gone : Option ℕ) (eg : gone ≡ dropped (awaiting s s.turn)) (q : Step) (still : List ℕ)
      (e : stepped (with_fetching (with_cached s (stored s v closed g gone)) (emptied s v closed g)) s.turn q still
      ≡ read_of (with_fetching (with_cached s (stored s v closed g gone)) (emptied s v closed g)) s.turn) where
    again : stepped (with_fetching (with_cached s (stored s v closed g gone)) (emptied s v closed g)) s.turn q still
        ≡ reply (with_reader (with_fetching (with_cached s (stored s v closed g gone)) (emptied s v closed g)) s.turn (onward (now_at s)))
        (Hit (now_at s).file ((now_at s).position + 1))
    again = e ∙ read-stored s v closed g o gone

    fetch-still : still ≡ emptied s v closed g
    fetch-still = ap (λ r. r.state.fetching) again

    goes_on : q.reader ≡ onward (now_at s)
    goes_on =
        sym (get_or-set_same s.readers s.turn q.reader no_reader (omega (arith, v.sixteen, v.turn_high)))
        ∙ ap (λ r. reader_at r.state s.turn) again
        ∙ get_or-set_same s.readers s.turn (onward (now_at s)) no_reader (omega (arith, v.sixteen, v.turn_high))

    turn-fetches : record {
      after =
          with_fetching (with_cached (with_readers (next_turn s) (set s.readers s.turn (moved_to q.reader.position r))) (stored s v closed g gone))
          still;
      fetched = 1;
      read = length (hit_page q.answer);
    } ≡ tally (turn_of s)
    turn-fetches =
        let moved : moved_to q.reader.position r ≡ onward (now_at s) = rw (er, goes_on) refl in
        rw (moved, fetch-still, ap (λ r. r.answer) again, eg) (ap tally (sym (fetch-turn s v closed g o)))

  -- the same by what the code is told: the page's key, the page that gave up its frame, and the maps on the way
  module _ (g : T (goes_now s)) (o : T (not (cached s (key_now s)))) (key : ℕ) (ek : key ≡ key_now s) (gone : Option ℕ)
      (eg : gone ≡ dropped (awaiting s s.turn)) (map opened still' : List ℕ) (em : map ≡ put_bit (eased s.cached gone) key 1)
      (eo : opened ≡ put_bit s.fetching (key_now s) 1) (es : still' ≡ without opened key) (q : Step) (still : List ℕ)
      (e : stepped (with_fetching (with_cached s map) still') s.turn q still ≡ read_of (with_fetching (with_cached s map) still') s.turn) where
    map_is : map ≡ stored s v closed g gone
    map_is = em ∙ ap (λ k. put_bit (eased s.cached gone) k 1) ek

    still-is : still' ≡ emptied s v closed g
    still-is = es ∙ ap₂ without eo ek

    abbrev told : stepped (with_fetching (with_cached s (stored s v closed g gone)) (emptied s v closed g)) s.turn q still
        ≡ read_of (with_fetching (with_cached s (stored s v closed g gone)) (emptied s v closed g)) s.turn
    told = rw (map_is, still-is) at e

    pub fetch-made : record {
      after = with_fetching (with_cached (with_readers (next_turn s) (set s.readers s.turn (moved_to q.reader.position r))) map) still;
      fetched = 1;
      read = length (hit_page q.answer);
    } ≡ tally (turn_of s)
    fetch-made = rw map_is (turn-fetches g o gone eg q still told)

    -- in fetch is what was before the turn: nothing
    pub fetch-left : on still ≡ in_fetch s
    fetch-left = ap on (fetch-still g o gone eg q still told) ∙ emptied-same s v closed g o

    pub fetch-quiet : (k : ℕ) → T (on still k) → ⊥
    fetch-quiet k h = closed k (subst (λ (f : ℕ → Bool). T (f k)) fetch-left h)

-- ---- the page has arrived, and is read again

module _ (s : State) (v : Valid s) (closed : (k : ℕ) → T (in_fetch s k) → ⊥) (g : T (goes_now s)) (o : T (not (cached s (key_now s)))) (map still : List ℕ)
    (em : map ≡ stored s v closed g (dropped (awaiting s s.turn))) (es : still ≡ emptied s v closed g) where
  -- the state then: the readers are as before the turn
  abbrev pub arrived : State
  arrived = with_fetching (with_cached s map) still

  -- in fetch is what was before the turn: nothing
  pub arrived-quiet : (k : ℕ) → T (on still k) → ⊥
  arrived-quiet k h = closed k (subst (λ (f : ℕ → Bool). T (f k)) (emptied-same s v closed g o) (rw es at h))

  there : T (cached arrived (key_now s))
  there = rw em (stored_there s v closed g o (dropped (awaiting s s.turn)))

  -- the second Read is no F
  pub arrived-read : (a : Answer) → a ≡ (read_of arrived s.turn).answer → NoFetch a
  arrived-read a e file page h =
      let q : (read_of arrived s.turn).answer ≡ Hit (now_at s).file ((now_at s).position + 1) =
      rw (em, es) (ap (λ r. r.answer) (read-stored s v closed g o (dropped (awaiting s s.turn)))) in
      cc

  -- a turn from there is the rest of this turn, which met F
  pub arrived-turn : Valid arrived → record { after = (turn_of arrived).after; fetched = 1; read = length (turn_of arrived).hit } ≡ tally (turn_of s)
  arrived-turn w =
      ap (λ (t : Turn). record { after = t.after; fetched = 1; read = length t.hit }) (hit-turn arrived w arrived-quiet g there)
      ∙ rw (em, es) refl ∙ sym (ap tally (fetch-turn s v closed g o))

-- ---- the turns so far

-- some turns, and others from where they end
abbrev and_more : Turns → Turns → Turns
and_more a b = so_far b.after (a.fetches + b.fetches) (a.reads + b.reads)

-- a + b turns are a turns and then b turns
turns-join : (a b : ℕ) (s : State) → turns_of (a + b) s ≡ and_more (turns_of a s) (turns_of b (turns_of a s).after)
unfolding turns_of
turns-join zero b s = rw (zero-add b, zero-add (turns_of b s).fetches, zero-add (turns_of b s).reads) refl
turns-join (suc a) b s =
    let t : Turn = turn_of s in
    let rest : Turns = turns_of a t.after in
    let more : Turns = turns_of b rest.after in
    rw (suc-add a b) (ap (λ ts. so_far ts.after (t.fetched + ts.fetches) (length t.hit + ts.reads)) (turns-join a b t.after)
    ∙ ap₂ (so_far more.after) (sym (add_assoc t.fetched rest.fetches more.fetches)) (sym (add_assoc (length t.hit) rest.reads more.reads)))

-- no turn yet
pub turns-none : (s : State) → so_far s 0 0 ≡ turns_of 0 s
unfolding turns_of
turns-none s = refl

-- more of them
pub turns_then : (s t u : State) (fetches reads more-fetches more-reads a b : ℕ) → so_far t fetches reads ≡ turns_of a s
    → so_far u more-fetches more-reads ≡ turns_of b t → so_far u (fetches + more-fetches) (reads + more-reads) ≡ turns_of (a + b) s
turns_then s t u fetches reads more-fetches more-reads a b e h = rw (turns-join a b s, ← e, ← h) refl

-- one
turns-one : (s : State) (r : Tally) → r ≡ tally (turn_of s) → so_far r.after r.fetched r.read ≡ turns_of 1 s
unfolding turns_of
turns-one s r e = rw e (ap₂ (so_far (turn_of s).after) (sym (add-zero (turn_of s).fetched)) (sym (add-zero (length (turn_of s).hit))))

-- one more
pub turns_more : (s t : State) (fetches reads i : ℕ) (r : Tally) → so_far t fetches reads ≡ turns_of i s → r ≡ tally (turn_of t)
    → so_far r.after (fetches + r.fetched) (reads + r.read) ≡ turns_of (i + 1) s
turns_more s t fetches reads i r e h = turns_then s t r.after fetches reads r.fetched r.read i 1 e (turns-one t r h)

-- a turn meets F once at most, and ends in one H at most
turn-few : (s : State) → ((turn_of s).fetched ≤ 1) × (length (turn_of s).hit ≤ 1)
unfolding turn_of read_turn
turn-few s =
    cond-all (λ (t : Turn). (t.fetched ≤ 1) × (length t.hit ≤ 1)) (attached (reader_at s s.turn)) _ _
    (λ _. fetch-all (λ (t : Turn). (t.fetched ≤ 1) × (length t.hit ≤ 1)) (read_of s s.turn).answer _ _
    (λ file page _. (omega arith, one_hit (read_of (arrive_of (read_of s s.turn).state file page).state s.turn).answer))
    (omega arith, one_hit (read_of s s.turn).answer))
    (λ _. (omega arith, omega arith))

-- so n turns have at most n fetches and n reads
pub turns-few : (n : ℕ) (s : State) → ((turns_of n s).fetches ≤ n) × ((turns_of n s).reads ≤ n)
unfolding turns_of
turns-few zero s = (omega arith, omega arith)
turns-few (suc n) s =
    let one = turn-few s in
    let more = turns-few n (turn_of s).after in
    (omega (arith, one.0, more.0), omega (arith, one.1, more.1))

-- a turn leaves a valid state
pub turn-valid : (s : State) → Valid s → (t : Tally) → t ≡ tally (turn_of s) → Valid t.after
turn-valid s v t e = rw e (turn-kept s v)
