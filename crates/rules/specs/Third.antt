-- The third statement: 01, "The third statement is a single claim about all the turns of a Run together". Assumes nothing: these are definitions.
use Rattle.std.specs.Prelude.{ℕ, zero, suc, ◌+◌, ◌*◌, ◌%◌, ◌≤◌, ◌≡◌, Bool, false, not, cond, ◌&&◌, List, [], ◌∷◌, ◌++◌, set, length, T, eqb}
use Rattle.rules.specs.Pages.{cached}
use Rattle.rules.specs.Readers.{reader_in, reader_at, attached, next_key, onward}
use Rattle.rules.specs.Valid.{Valid}
use Rattle.rules.specs.Run.{turn_of, fetch_open}
use Rattle.rules.specs.Schedules.{Set, Serves, fetches_in}
use Rattle.rules.specs.declared.Rule.TheVariants.{Of1989}
use Rattle.rules.specs.declared.State.{State}
use Rattle.rules.specs.declared.Reader.{Reader}
use Rattle.rules.specs.declared.Answer.{Answer}
use Rattle.rules.specs.declared.Answer.TheVariants.{Ran}

-- "The look-ahead covers if L is at least w × size"; A.1: "with the size .. read as the last page of each attached reader"
abbrev pub Covers : State → ℕ → Reader → Type 0
Covers s w r = w * r.last ≤ s.look_ahead

-- the mission's premises: one pace w, fetch time 0, a look-ahead that covers up to each attached reader's last page (A.1), no open fetch; A.5: "Runs begin with
-- no page in fetch, so the best-schedule result reads as before"; A.6: "A user who selects 1993 has no best-schedule result"
pub record Premises (s : State) (w : ℕ) : Type 0 where
  pub one_pace : (j : ℕ) → T (attached (reader_at s j)) → (reader_at s j).pace ≡ w
  pub no_time : s.fetch_time ≡ 0
  pub covers : (j : ℕ) → T (attached (reader_at s j)) → Covers s w (reader_at s j)
  pub none_open : fetch_open s ≡ false
  pub by_1989 : s.rule ≡ Of1989

-- ---- the reads laid down, "worked out from readers, sizes and turn, and from nothing that is cached"; the sizes are in the readers' last pages (A.1)

-- "the turn's slot holds a reader not yet at the position where Read answers Z"
unfoldable pub goes : Reader → Bool
goes r = attached r && not (eqb r.position r.last)

-- "its position grows by 1"
abbrev pub moved_on : List Reader → ℕ → List Reader
moved_on readers turn =
    cond (goes (reader_in readers turn)) (set readers turn (onward (reader_in readers turn))) readers

-- "and the page of that number in its file goes to the end of the list; otherwise nothing does. Then the turn grows by 1 modulo 16"
unfoldable pub laid_down : ℕ → List Reader → ℕ → List ℕ
laid_down zero readers turn = []
laid_down (suc n) readers turn =
    cond (goes (reader_in readers turn)) (next_key (reader_in readers turn) ∷ []) []
    ++ laid_down n (moved_on readers turn) ((turn + 1) % 16)

abbrev pub laid : ℕ → State → List ℕ
laid n s = laid_down n s.readers s.turn

-- ---- what the run read and held

-- "The pages of the H turns, in order"
unfoldable pub hit_pages : ℕ → State → List ℕ
hit_pages zero s = []
hit_pages (suc n) s = (turn_of s).hit ++ hit_pages n (turn_of s).after

abbrev pub on_hit : List ℕ → Set → List Set → List Set
on_hit [] B Bs = Bs
on_hit (x ∷ xs) B Bs = B ∷ Bs

-- "the pages cached after each H turn"
unfoldable pub hit_sets : ℕ → State → List Set
hit_sets zero s = []
hit_sets (suc n) s = on_hit (turn_of s).hit (cached (turn_of s).after) (hit_sets n (turn_of s).after)

-- ---- the claim

-- of n turns from s, and of the fetches and reads in the answer
pub record Best (n : ℕ) (s : State) (fetches reads : ℕ) : Type 0 where
  -- "The pages of the H turns, in order, are this list, and the reads in the answer are its length"
  pub reads_laid : hit_pages n s ≡ laid n s
  pub reads_told : reads ≡ length (laid n s)
  -- "The run is itself such a schedule: its sets are the pages cached after each H turn, and its fetches are the number of fetches in its answer"
  pub own_serves : Serves 8192 s.frames (laid n s) (hit_sets n s)
  pub own_fetches : fetches_in 8192 (cached s) (hit_sets n s) ≡ fetches
  -- the mission's claim: no schedule that serves the same reads fetches less
  pub least : (Bs : List Set) → Serves 8192 s.frames (laid n s) Bs → fetches ≤ fetches_in 8192 (cached s) Bs

-- what Run's answer to n turns from s must be: "Its start is any state whose image Restore's rules accept; permitted are 0 to 16,384 turns". `Valid` are
-- the states that Restore gives
pub record ThirdStatement (n : ℕ) (s : State) (answer : Answer) : Type 0 where
  pub best : Valid s → (w : ℕ) → Premises s w → n ≤ 16384 → (fetches : ℕ) × (reads : ℕ) × (answer ≡ Ran fetches reads) × Best n s fetches reads
