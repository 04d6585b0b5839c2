-- A row that is looked up is the rules' answer, where the map and the table are those of the walks. Assumes nothing.
use Rattle.std.proofs.Common.{◌≡◌, ◌≤◌, ◌<◌, ℕ, Bool, true, false, cond, List, ◌++◌, map, length, drop, get_or, Result, Ok, Err, refl, sym, ap, arith}
use Rattle.std.proofs.Common.{lt-ltb, le-ltb}
use mathlib.Core.Path.{fun_ext}
use Rattle.bits.specs.Map.{on}
use Rattle.rules.specs.Pages.{key_of}
use Rattle.rules.specs.Calls.{no_file, no_page}
use Rattle.rules.specs.Listings.{Written, count_in}
use Rattle.rules.specs.Questions.{when_of, answer_of, forecast_of, words_read, words_most, no_room, asked, questions_of}
use Rattle.rules.specs.Valid.{Valid}
use Rattle.rules.specs.declared.State.{State}
use Rattle.rules.specs.declared.Question.{Question}
use Rattle.rules.specs.declared.Refusal.{Refusal}
use Rattle.rules.specs.declared.Refusal.TheVariants.{NoFile, NoPage, NoRoom}
use Rattle.rules.specs.declared.When.{When}
use Rattle.rules.specs.declared.Forecast.{Forecast}
use Rattle.parts.proofs.Files.{there-low}
use Rattle.rules.proofs.orders.LookAheads.{seen-used}
use Rattle.rules.proofs.orders.Questions.{words-few}
use Rattle.walk.specs.Tables.{Keyed}
use Rattle.questions.specs.Rows.{when_by, answer_by, row_by}

abbrev written : Result ℕ Refusal → List Forecast → Written (Result ℕ Refusal) Forecast
written a l = record { answer = a; list = l }

-- ---- is there room?

-- more than 1,024 questions
pub too-many : (asked room : ℕ) → 1024 < asked → no_room asked room ≡ true
too-many asked room l = rw (lt-ltb 1024 asked l) refl

-- fewer answers than questions
pub too-few : (asked room : ℕ) → asked ≤ 1024 → room < asked → no_room asked room ≡ true
too-few asked room h l = rw (le-ltb 1024 asked h, lt-ltb room asked l) refl

-- neither
enough : (asked room : ℕ) → asked ≤ 1024 → asked ≤ room → no_room asked room ≡ false
enough asked room h l = rw (le-ltb 1024 asked h, le-ltb room asked l) refl

-- ---- what the call leaves

-- as the rules have it, of no more words than these allow
abbrev pub Told : State → List Question → List Forecast → Result ℕ Refusal → List Forecast → Type 0
Told s questions lent answer after = (count_in answer ≤ words_most s) × (written answer after ≡ questions_of s questions lent)

-- where it is refused
pub refused-rows : (s : State) (questions : List Question) (lent : List Forecast) → no_room (length questions) (length lent) ≡ true
    → Told s questions lent (Err NoRoom) lent
unfolding questions_of asked
refused-rows s questions lent e = (omega arith, rw e refl)

module _ (s : State) (w : Valid s) (before-some table : List ℕ) (h : Keyed s before-some table) where
  -- of a page that is there
  when-looked : (k : ℕ) → k < 8192 → when_by (get_or table k 0) (on before-some k) s.turn ≡ when_of s k
  unfolding when_by when_of
  when-looked k l = rw (h.use_is k l, h.ahead_is k, seen-used s k w.look_high) refl

  -- of any question
  row-looked : (q : Question) → row_by s.sizes s.turn before-some table q ≡ forecast_of s q
  unfolding answer_by answer_of
  row-looked q = ap (λ x. record { when = x }) (by (no_file s q.file) (no_page s q.file q.page) refl refl)
    where
      k : ℕ
      k = key_of q.file q.page

      by : (a b : Bool) → no_file s q.file ≡ a → no_page s q.file q.page ≡ b
          → ◌≡◌ {A = Result When Refusal}
          (cond a (Err NoFile) (cond b (Err NoPage) (Ok (when_by (get_or table k 0) (on before-some k) s.turn))))
          (cond a (Err NoFile) (cond b (Err NoPage) (Ok (when_of s k))))
      by true b e f = refl
      by false true e f = refl
      by false false e f = ap Ok (when-looked k (there-low false false s.sizes q.file q.page (sym e) refl (sym f) refl (w.sizes_high q.file) k refl))

  -- where it is not, of the words that were read
  pub answered-rows : (questions : List Question) (lent : List Forecast) (words : ℕ) → length questions ≤ 1024 → length questions ≤ length lent
      → words ≡ words_read s
      → Told s questions lent (Ok words) (map (row_by s.sizes s.turn before-some table) questions ++ drop (length questions) lent)
  unfolding questions_of asked
  answered-rows questions lent words h l f =
      (omega (arith, words-few s w), rw (enough (length questions) (length lent) h l, f, fun_ext row-looked) refl)
