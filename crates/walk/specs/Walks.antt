-- One walk along a look-ahead: what it keeps, page by page, and what it leaves in the table of use keys. Assumes nothing: these are definitions.
use Rattle.std.specs.Prelude.{ℕ, zero, suc, min, ◌+◌, ◌-◌, ◌*◌, ◌/◌, ◌%◌, ◌≤◌, ◌<◌, ◌≡◌, Bool, cond, List, ◌⊎◌, T, leb, eqb, get_or}
use Rattle.bits.specs.Map.{digit, one_of}
use Rattle.rules.specs.Readers.{reader_at, attached, next_key}
use Rattle.rules.specs.UseTimes.{present, missing, pruned, sees, seat, use_for}
use Rattle.rules.specs.Ranks.{Stretch}
use Rattle.rules.specs.declared.State.{State}
use Rattle.rules.specs.declared.View.{View}
use Rattle.rules.specs.Valid.{Valid}
use Rattle.rules.specs.Views.{state_of}
use Rattle.walk.specs.declared.course.Walk.{Walk}
use Rattle.walk.specs.declared.course.Course.{Course}

-- one page further, where the page is present or not
abbrev pub one_page : Course → Bool → Walk → Walk
one_page c here p =
    record {
      tested = p.tested + 1;
      missing = cond here p.missing (p.missing + 1);
      number = cond here (p.number + c.page) (p.number + c.page + c.gap);
    }

-- a walk has come so far on its course: the number is that of the page after those tested
pub record OnCourse (c : Course) (p : Walk) : Type 0 where
  pub tested_in : p.tested ≤ c.reach
  pub missing_low : p.missing ≤ p.tested
  pub number_is : p.number ≡ (p.tested + 1) * c.page + p.missing * c.gap + c.seat

-- a walk went on from p to q: it ends at so many pages, or where too many are missing
pub record Further (c : Course) (end : ℕ) (p q : Walk) : Type 0 where
  pub on : p.tested ≤ q.tested
  pub within : q.tested ≤ end
  pub gaps : q.missing + p.tested ≤ p.missing + q.tested
  pub ends : (q.tested ≡ end) ⊎ (c.most ≤ q.missing)

-- how many words of a map hold the n keys from this one on
unfoldable pub spanned : ℕ → ℕ → ℕ
spanned from zero = 0
spanned from (suc n) = (from + n) / 64 - from / 64 + 1

-- the word has the bits of the keys from the one numbered `low` to before the one numbered `high`, counted from `from`
abbrev pub Shown : State → ℕ → ℕ → ℕ → ℕ → Type 0
Shown s word from low high = (i : ℕ) → low ≤ i → i < high → present s (from + i) ≡ eqb (digit word ((from + i) % 64)) 1

-- a view of a valid state
abbrev pub OfValid : View → Type 0
OfValid v = (cached : List ℕ) × ((fetching : List ℕ) × Valid (state_of v cached fetching))

-- slot j has a reader whose course this is: up to its last page, and K pages
pub record CourseOf (s : State) (j : ℕ) (c : Course) : Type 0 where
  pub here : T (attached (reader_at s j))
  pub file_high : (reader_at s j).file < 8
  pub position_in : (reader_at s j).position ≤ (reader_at s j).last
  pub last_high : (reader_at s j).last ≤ 1024
  pub from_is : c.from ≡ next_key (reader_at s j)
  pub reach_is : c.reach ≡ min (s.look_ahead / (reader_at s j).pace) ((reader_at s j).last - (reader_at s j).position)
  pub most_is : (q : ℕ) → q ≤ 1024 → pruned s q ≡ leb c.most q
  pub page_is : c.page ≡ (reader_at s j).pace * 16
  pub gap_is : c.gap ≡ s.fetch_time * 16
  pub seat_is : c.seat ≡ seat s j

-- the table with slot j's numbers for the n keys from its reader's next page on, where they are less
pub record Lowered (s : State) (j n : ℕ) (first table : List ℕ) : Type 0 where
  pub lower : (k : ℕ) → get_or table k 0 ≡ cond (one_of (next_key (reader_at s j)) n k) (min (get_or first k 0) (use_for s k j)) (get_or first k 0)

-- slot j's walk has come so far: what it tested it sees; it has counted the missing ones; the table is lowered
pub record Along (s : State) (j : ℕ) (first table : List ℕ) (p : Walk) : Type 0 where
  pub seen : (i : ℕ) → i < p.tested → T (sees s (reader_at s j) (next_key (reader_at s j) + i))
  pub count : p.missing ≡ missing s (reader_at s j).file (reader_at s j).position p.tested
  pub lowered : Lowered s j p.tested first table

-- slot j's walk is over: its look-ahead has n pages
pub record Walked (s : State) (j : ℕ) (first table : List ℕ) (n : ℕ) : Type 0 where
  pub stretch : Stretch s (reader_at s j) n
  pub lowered : Lowered s j n first table
